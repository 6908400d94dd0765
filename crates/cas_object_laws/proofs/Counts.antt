-- A text has no more objects than bytes, and an object that is read has at most 1,024 functions.
use Rattle.std.proofs.Common.{◌≡◌, ℕ, ◌+◌, ◌≤◌, ◌<◌, suc, Bool, true, false, nat_lt, List, [], ◌∷◌, ◌++◌, length, codes, Result, Ok, Err, refl, ap, sym, cond, arith, ◌∙◌}
use Rattle.std.proofs.lemmas.Bool.{ltb-true}
use Rattle.cas_asm.specs.declared.line.AsmFun.{AsmFun}
use Rattle.cas_asm.specs.declared.line.Line.{Line}
use Rattle.cas_asm.specs.declared.line.Line.TheVariants as l
use Rattle.std.specs.List.{list_all}
use Rattle.cas_base.specs.Decl.{words_of_form}
use Rattle.cas_base.specs.declared.decl.Unit.{Unit as Module}
use Rattle.cas_pieces.specs.Lines.{is_inner, into_line, lines}
use Rattle.cas_pieces.specs.Pieces.{pieces}
use Rattle.cas_pieces.specs.declared.piece.Piece.{Piece}
use Rattle.cas_object_text.specs.Labels.{is_set, uses_set}
use Rattle.cas_object_laws.specs.Counts.{IsSmall, AreSmall}
use Rattle.cas_object_line.specs.Codes.{code_line}
use Rattle.cas_object_line.specs.declared.code.CodeLine.{CodeLine}
use Rattle.cas_object_line.specs.declared.code.CodeLine.TheVariants as c
use Rattle.cas_object_decl.specs.Fields.{fields, spells}
use Rattle.cas_object_decl.specs.Lines.{decl_line}
use Rattle.cas_object_decl.specs.declared.field.Field.{Field}
use Rattle.cas_object_decl.specs.declared.line.DeclLine.{DeclLine}
use Rattle.cas_object_decl.specs.declared.line.DeclLine.TheVariants.{Extern, Data, Function, End}
use Rattle.cas_object.specs.Bodies.{Body, instructions, opened, with_line}
use Rattle.cas_object.specs.Drafts.{words, with_data, with_function, fun_of}
use Rattle.cas_object.specs.Texts.{Reading, and_then, at_line, refused, version, first_line, line, code, going_on, goes_on, data_line, declared, next, at_end, last_line, read_from, read}
use Rattle.cas_object.specs.declared.fault.ObjectCode.TheVariants.{B2, B3, B5}
use Rattle.cas_object.specs.declared.fault.ObjectFault.{ObjectFault}
use Rattle.cas_object.specs.declared.inside.Inside.{Inside}
use Rattle.cas_object.specs.declared.inside.Inside.TheVariants as inside
use Rattle.cas_object_laws.proofs.Giving.{Gives, gives-if, gives-any, gives-more, gives-of}
use Rattle.cas_object_laws.proofs.Wholes.{at-line, then-gives, version-gives}

-- The lines of a text.

abbrev HasFew : List (List ℕ) → ℕ → Type 0
HasFew ls n = (first : List ℕ) × (rest : List (List ℕ)) × (ls ≡ first ∷ rest) × (length rest ≤ n)

lines-few : (text : List ℕ) → HasFew (lines text) (length text)
unfolding lines into_line
lines-few [] = ([], [], refl, omega arith)
lines-few (b ∷ bs) = step (is_inner b) (lines-few bs)
  where
    step : (t : Bool) → HasFew (lines bs) (length bs) →
        HasFew (cond t (into_line b (lines bs)) ([] ∷ lines bs)) (suc (length bs))
    step true few = (b ∷ few.0, few.1, ap (into_line b) few.2, omega (arith, few.3))
    step false few = ([], lines bs, refl, omega (arith, ap (λ (ls : List (List ℕ)). length ls) few.2, few.3))

-- One line more.

length-put : {A : Type 0} (xs : List A) (x : A) → length (xs ++ x ∷ []) ≡ suc (length xs)
length-put [] x = refl
length-put (y ∷ xs) x = ap suc (length-put xs x)

small-put : (units : List (Module AsmFun)) (unit : Module AsmFun) → AreSmall units → IsSmall unit →
    AreSmall (units ++ unit ∷ [])
small-put [] unit all small = (small, tt)
small-put (u ∷ units) unit all small = (all.0, small-put units unit all.1 small)

abbrev IsSmallInside : Inside → Type 0
IsSmallInside inside.Text = Unit {0}
IsSmallInside (inside.Object unit) = IsSmall unit
IsSmallInside (inside.Function unit body) = length unit.funs < 1024

-- after so many objects at most
abbrev IsFew : ℕ → Reading → Type 0
IsFew n r = AreSmall r.units × IsSmallInside r.inside × (length r.units ≤ n)

first-small : (n : ℕ) (fs : List Field) → Gives IsSmallInside (first_line n fs)
first-small n [] = tt
first-small n (word ∷ []) = tt
first-small n (word ∷ field ∷ []) =
    gives-if IsSmallInside (spells word (codes "object")) (version n field) (refused B2 n)
    (λ e. version-gives IsSmallInside n field (omega arith)) tt
first-small n (word ∷ field ∷ another ∷ fs) = tt

line-small : (n : ℕ) (unit : Module AsmFun) (body : Body) (found : Line) → length unit.funs < 1024 →
    Gives IsSmallInside (line n unit body found)
line-small n unit body (l.Label m) h =
    gives-if IsSmallInside (is_set body.lines m) (refused B3 n)
    (Ok (inside.Function unit (with_line body (l.Label m)))) (λ e. tt) h
line-small n unit body (l.Run i) h =
    gives-if IsSmallInside (nat_lt (instructions body.lines) 4194304)
    (Ok (inside.Function unit (with_line body (l.Run i)))) (refused B5 n) (λ e. h) tt

code-small : (n : ℕ) (unit : Module AsmFun) (body : Body) (found : CodeLine) → length unit.funs < 1024 →
    Gives IsSmallInside (code n unit body found)
code-small n unit body (c.Code found) h = line-small n unit body found h
code-small n unit body c.End h =
    gives-if IsSmallInside (list_all (uses_set body.lines) body.lines) (Ok (inside.Object (with_function unit body)))
    (refused B3 n) (λ e. omega (arith, length-put unit.funs (fun_of body), h)) tt

data-small : (n : ℕ) (unit : Module AsmFun) (found : DeclLine) → IsSmall unit →
    Gives IsSmallInside (data_line n unit found)
data-small n unit (Extern d) small = small
data-small n unit (Data g) small =
    gives-if IsSmallInside (nat_lt 65536 (words unit.globals + words_of_form g.decl.form)) (refused B5 n)
    (Ok (inside.Object (with_data unit g))) (λ e. tt) small
data-small n unit (Function d) small =
    gives-if IsSmallInside (nat_lt (length unit.funs) 1024) (Ok (inside.Function unit (opened d))) (refused B5 n)
    (λ e. ltb-true (length unit.funs) 1024 e) tt
data-small n unit End small = tt

goes-few : (n : ℕ) (units : List (Module AsmFun)) (r : Result Inside ObjectFault) → AreSmall units →
    length units ≤ n → Gives IsSmallInside r → Gives (IsFew (suc n)) (goes_on units r)
goes-few n units (Ok now) all few h = (all, h, omega (arith, few))
goes-few n units (Err fault) all few h = tt

declared-few : (m n : ℕ) (units : List (Module AsmFun)) (unit : Module AsmFun) (found : DeclLine) → AreSmall units →
    length units ≤ m → IsSmall unit → Gives (IsFew (suc m)) (declared n units unit found)
declared-few m n units unit (Extern d) all few small =
    goes-few m units (data_line n unit (Extern d)) all few (data-small n unit (Extern d) small)
declared-few m n units unit (Data g) all few small =
    goes-few m units (data_line n unit (Data g)) all few (data-small n unit (Data g) small)
declared-few m n units unit (Function d) all few small =
    goes-few m units (data_line n unit (Function d)) all few (data-small n unit (Function d) small)
declared-few m n units unit End all few small =
    (small-put units unit all small, tt, omega (arith, length-put units unit, few))

next-few : (m n : ℕ) (units : List (Module AsmFun)) (now : Inside) (ps : List Piece) → AreSmall units →
    length units ≤ m → IsSmallInside now → Gives (IsFew (suc m)) (next n units now ps)
next-few m n units inside.Text ps all few h =
    goes-few m units (first_line n (fields ps)) all few (first-small n (fields ps))
next-few m n units (inside.Object unit) ps all few h =
    at-line (IsFew (suc m)) (λ found. Unit {0}) n (declared n units unit) (decl_line (fields ps))
    (gives-any (decl_line (fields ps))) (λ found any. declared-few m n units unit found all few h)
next-few m n units (inside.Function unit body) ps all few h =
    goes-few m units (and_then (code n unit body) (at_line n (code_line ps))) all few
    (at-line IsSmallInside (λ found. Unit {0}) n (code n unit body) (code_line ps) (gives-any (code_line ps))
    (λ found any. code-small n unit body found h))

-- at most so many objects, and each is small
abbrev AreBounded : ℕ → List (Module AsmFun) → Type 0
AreBounded n units = AreSmall units × (length units ≤ n)

end-few : (m n : ℕ) (units : List (Module AsmFun)) (now : Inside) → AreBounded m units →
    Gives (AreBounded m) (at_end n units now)
end-few m n [] inside.Text all = tt
end-few m n (u ∷ units) inside.Text all = all
end-few m n [] (inside.Object unit) all = tt
end-few m n (u ∷ units) (inside.Object unit) all = tt
end-few m n [] (inside.Function unit body) all = tt
end-few m n (u ∷ units) (inside.Function unit body) all = tt

last-few : (m n : ℕ) (r : Reading) (text : List ℕ) → AreBounded m r.units → Gives (AreBounded m) (last_line n r text)
last-few m n r [] all = end-few m n r.units r.inside all
last-few m n r (b ∷ bs) all = tt

from-few : (first : List ℕ) (rest : List (List ℕ)) (m n : ℕ) (r : Reading) → IsFew m r →
    Gives (AreBounded (m + length rest)) (read_from (first ∷ rest) n r)
from-few first [] m n r h = last-few (m + 0) n r first (h.0, omega (arith, h.2))
from-few first (other ∷ others) m n r h =
    then-gives (IsFew (suc m)) (AreBounded (m + suc (length others))) (read_from (other ∷ others) (n + 1))
    (next n r.units r.inside (pieces first)) (next-few m n r.units r.inside (pieces first) h.0 h.2 h.1)
    (λ now k. gives-more (AreBounded (m + suc (length others))) (AreBounded (suc m + length others))
    (read_from (other ∷ others) (n + 1) now) (from-few other others (suc m) (n + 1) now k)
    (λ units few. (few.0, omega (arith, few.1))))

pub read-few : (text : List ℕ) (units : List (Module AsmFun)) → read text ≡ Ok units →
    AreSmall units × (length units ≤ length text)
read-few text units e =
    let cut = lines-few text in
    let start = going_on [] inside.Text in
    let bounded = from-few cut.0 cut.1 0 1 start (tt, tt, omega arith) in
    let same : read_from (cut.0 ∷ cut.1) 1 start ≡ Ok units = ap (λ ls. read_from ls 1 start) (sym cut.2) ∙ e in
    let few = gives-of (AreBounded (0 + length cut.1)) (read_from (cut.0 ∷ cut.1) 1 start) units bounded same in
    (few.0, omega (arith, few.1, cut.3))
