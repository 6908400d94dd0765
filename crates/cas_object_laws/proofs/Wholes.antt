-- Objects that are read have what their declarations say.
use Rattle.std.proofs.Common.{◌≡◌, ℕ, ◌+◌, Bool, true, false, not, nat_lt, List, [], ◌∷◌, ◌++◌, map, filter, length, codes, Result, Ok, Err, refl, ap, sym, subst, cond, append-nil, ◌∙◌}
use Rattle.cas_asm.specs.declared.line.AsmFun.{AsmFun}
use Rattle.cas_asm.specs.declared.line.Line.{Line}
use Rattle.cas_asm.specs.declared.line.Line.TheVariants as l
use Rattle.std.specs.List.{list_all}
use Rattle.cas_base.specs.Decl.{is_function, definitions, words_of_form}
use Rattle.cas_base.specs.declared.decl.Decl.{Decl}
use Rattle.cas_base.specs.declared.decl.Global.{Global}
use Rattle.cas_base.specs.declared.decl.Unit.{Unit as Module}
use Rattle.cas_pieces.specs.Lines.{lines}
use Rattle.cas_pieces.specs.Pieces.{pieces}
use Rattle.cas_pieces.specs.declared.piece.Piece.{Piece}
use Rattle.cas_object_text.specs.Labels.{is_set, uses_set}
use Rattle.cas_object_text.specs.Values.{HasValues, HaveValues, IsTyped, AreTyped, IsWhole, AreWhole}
use Rattle.cas_object_line.specs.Codes.{code_line}
use Rattle.cas_object_line.specs.declared.code.CodeLine.{CodeLine}
use Rattle.cas_object_line.specs.declared.code.CodeLine.TheVariants as c
use Rattle.cas_object_line.specs.declared.fault.LineFault.{LineFault}
use Rattle.cas_object_decl.specs.Data.{is_number}
use Rattle.cas_object_decl.specs.Fields.{fields, spells}
use Rattle.cas_object_decl.specs.Lines.{decl_line}
use Rattle.cas_object_decl.specs.declared.field.Field.{Field}
use Rattle.cas_object_decl.specs.declared.line.DeclLine.{DeclLine}
use Rattle.cas_object_decl.specs.declared.line.DeclLine.TheVariants.{Extern, Data, Function, End}
use Rattle.cas_object.specs.Bodies.{Body, instructions, opened, with_line}
use Rattle.cas_object.specs.Drafts.{empty, words, with_extern, with_data, with_function}
use Rattle.cas_object.specs.Texts.{Reading, and_then, at_line, refused, version, first_line, line, code, going_on, goes_on, data_line, declared, next, at_end, last_line, read_from, read}
use Rattle.cas_object.specs.declared.fault.ObjectCode.TheVariants.{B1, B2, B3, B5}
use Rattle.cas_object.specs.declared.fault.ObjectFault.{ObjectFault}
use Rattle.cas_object.specs.declared.inside.Inside.{Inside}
use Rattle.cas_object.specs.declared.inside.Inside.TheVariants as inside
use Rattle.cas_object_laws.proofs.Declared.{IsRight, line-right}
use Rattle.cas_object_laws.proofs.Giving.{Gives, gives-if, gives-any}

-- What lists of declarations have, with one more at the end.

filter-put : {A : Type 0} (p : A → Bool) (xs : List A) (x : A) →
    filter p (xs ++ x ∷ []) ≡ filter p xs ++ cond (p x) (x ∷ []) []
filter-put p [] x = step (p x)
  where
    step : (b : Bool) → cond b (x ∷ []) [] ≡ cond b (x ∷ []) []
    step b = refl
filter-put p (y ∷ ys) x = step (p y) (filter-put p ys x)
  where
    step : (b : Bool) → filter p (ys ++ x ∷ []) ≡ filter p ys ++ cond (p x) (x ∷ []) [] →
        cond b (y ∷ filter p (ys ++ x ∷ [])) (filter p (ys ++ x ∷ []))
        ≡ cond b (y ∷ filter p ys) (filter p ys) ++ cond (p x) (x ∷ []) []
    step true e = ap (λ zs. y ∷ zs) e
    step false e = e

filter-none : {A : Type 0} (p : A → Bool) (xs : List A) (x : A) → p x ≡ false → filter p (xs ++ x ∷ []) ≡ filter p xs
filter-none p xs x e = filter-put p xs x ∙ (ap (λ b. filter p xs ++ cond b (x ∷ []) []) e ∙ append-nil (filter p xs))

filter-one : {A : Type 0} (p : A → Bool) (xs : List A) (x : A) → p x ≡ true →
    filter p (xs ++ x ∷ []) ≡ filter p xs ++ x ∷ []
filter-one p xs x e = filter-put p xs x ∙ ap (λ b. filter p xs ++ cond b (x ∷ []) []) e

map-put : {A B : Type 0} (f : A → B) (xs : List A) (x : A) → map f (xs ++ x ∷ []) ≡ map f xs ++ f x ∷ []
map-put f [] x = refl
map-put f (y ∷ ys) x = ap (λ zs. f y ∷ zs) (map-put f ys x)

definitions-extern : (ds : List Decl) (d : Decl) → d.defined ≡ false → definitions (ds ++ d ∷ []) ≡ definitions ds
definitions-extern ds d e = filter-none (λ decl. decl.defined) ds d e

definitions-more : (ds : List Decl) (d : Decl) → d.defined ≡ true →
    definitions (ds ++ d ∷ []) ≡ definitions ds ++ d ∷ []
definitions-more ds d e = filter-one (λ decl. decl.defined) ds d e

abbrev data-of : List Decl → List Decl
data-of ds = filter (λ decl. not (is_function decl.form)) ds

abbrev functions-in : List Decl → List Decl
functions-in ds = filter (λ decl. is_function decl.form) ds

values-put : (gs : List Global) (g : Global) → HaveValues gs → HasValues g → HaveValues (gs ++ g ∷ [])
values-put [] g have has = (has, tt)
values-put (x ∷ gs) g have has = (have.0, values-put gs g have.1 has)

types-put : (gs : List Global) (g : Global) → AreTyped gs → IsTyped g.decl.form → AreTyped (gs ++ g ∷ [])
types-put [] g are is = (is, tt)
types-put (x ∷ gs) g are is = (are.0, types-put gs g are.1 is)

-- One more declaration keeps an object whole.

whole-extern : (unit : Module AsmFun) (d : Decl) → IsWhole unit → d.defined ≡ false → IsWhole (with_extern unit d)
whole-extern unit d whole e =
    let kept : definitions (unit.decls ++ d ∷ []) ≡ definitions unit.decls = definitions-extern unit.decls d e in
    record {
      definitions = record {
        globals = whole.definitions.globals ∙ ap data-of (sym kept);
        functions = whole.definitions.functions ∙ ap (λ ds. map (λ decl. decl.name) (functions-in ds)) (sym kept);
      };
      types = whole.types;
      values = whole.values;
    }

whole-data : (unit : Module AsmFun) (g : Global) → IsWhole unit → g.decl.defined ≡ true →
    is_function g.decl.form ≡ false → IsTyped g.decl.form → HasValues g → IsWhole (with_data unit g)
whole-data unit g whole defined other typed has =
    let more = definitions-more unit.decls g.decl defined in
    let old = definitions unit.decls in
    record {
      definitions = record {
        globals = map-put (λ global. global.decl) unit.globals g
            ∙ (ap (λ ds. ds ++ g.decl ∷ []) whole.definitions.globals
            ∙ (sym (filter-one (λ decl. not (is_function decl.form)) old g.decl (ap not other))
            ∙ ap data-of (sym more)));
        functions = whole.definitions.functions
            ∙ (ap (map (λ decl. decl.name)) (sym (filter-none (λ decl. is_function decl.form) old g.decl other))
            ∙ ap (λ ds. map (λ decl. decl.name) (functions-in ds)) (sym more));
      };
      types = types-put unit.globals g whole.types typed;
      values = values-put unit.globals g whole.values has;
    }

whole-function : (unit : Module AsmFun) (b : Body) → IsWhole unit → b.decl.defined ≡ true →
    is_function b.decl.form ≡ true → IsWhole (with_function unit b)
whole-function unit b whole defined function =
    let more = definitions-more unit.decls b.decl defined in
    let old = definitions unit.decls in
    record {
      definitions = record {
        globals = whole.definitions.globals
            ∙ (sym (filter-none (λ decl. not (is_function decl.form)) old b.decl (ap not function))
            ∙ ap data-of (sym more));
        functions = map-put (λ fun. fun.name) unit.funs _
            ∙ (ap (λ names. names ++ b.decl.name ∷ []) whole.definitions.functions
            ∙ (sym (map-put (λ decl. decl.name) (functions-in old) b.decl)
            ∙ (ap (map (λ decl. decl.name)) (sym (filter-one (λ decl. is_function decl.form) old b.decl function))
            ∙ ap (λ ds. map (λ decl. decl.name) (functions-in ds)) (sym more))));
      };
      types = whole.types;
      values = whole.values;
    }

whole-put : (units : List (Module AsmFun)) (unit : Module AsmFun) → AreWhole units → IsWhole unit →
    AreWhole (units ++ unit ∷ [])
whole-put [] unit all whole = (whole, tt)
whole-put (u ∷ units) unit all whole = (all.0, whole-put units unit all.1 whole)

-- What is open is whole as far as it goes.

abbrev IsWholeInside : Inside → Type 0
IsWholeInside inside.Text = Unit {0}
IsWholeInside (inside.Object unit) = IsWhole unit
IsWholeInside (inside.Function unit body) =
    IsWhole unit × (body.decl.defined ≡ true) × (is_function body.decl.form ≡ true)

abbrev IsWholeReading : Reading → Type 0
IsWholeReading r = AreWhole r.units × IsWholeInside r.inside

whole-empty : IsWhole empty
whole-empty = record { definitions = record { globals = refl; functions = refl }; types = tt; values = tt }

-- the first line of an object opens an empty one
pub version-gives : (P : Inside → Type 0) (n : ℕ) (field : Field) → P (inside.Object empty) → Gives P (version n field)
version-gives P n field h =
    let other : Result Inside ObjectFault = cond (is_number field) (refused B1 n) (refused B2 n) in
    gives-if P (spells field (codes "1")) (Ok (inside.Object empty)) other (λ e. h)
    (gives-if P (is_number field) (refused B1 n) (refused B2 n) (λ e. tt) tt)

first-whole : (n : ℕ) (fs : List Field) → Gives IsWholeInside (first_line n fs)
first-whole n [] = tt
first-whole n (word ∷ []) = tt
first-whole n (word ∷ field ∷ []) =
    gives-if IsWholeInside (spells word (codes "object")) (version n field) (refused B2 n)
    (λ e. version-gives IsWholeInside n field whole-empty) tt
first-whole n (word ∷ field ∷ another ∷ fs) = tt

line-whole : (n : ℕ) (unit : Module AsmFun) (body : Body) (found : Line) →
    IsWholeInside (inside.Function unit body) → Gives IsWholeInside (line n unit body found)
line-whole n unit body (l.Label m) h =
    gives-if IsWholeInside (is_set body.lines m) (refused B3 n)
    (Ok (inside.Function unit (with_line body (l.Label m)))) (λ e. tt) h
line-whole n unit body (l.Run i) h =
    gives-if IsWholeInside (nat_lt (instructions body.lines) 4194304)
    (Ok (inside.Function unit (with_line body (l.Run i)))) (refused B5 n) (λ e. h) tt

code-whole : (n : ℕ) (unit : Module AsmFun) (body : Body) (found : CodeLine) →
    IsWholeInside (inside.Function unit body) → Gives IsWholeInside (code n unit body found)
code-whole n unit body (c.Code found) h = line-whole n unit body found h
code-whole n unit body c.End h =
    gives-if IsWholeInside (list_all (uses_set body.lines) body.lines) (Ok (inside.Object (with_function unit body)))
    (refused B3 n) (λ e. whole-function unit body h.0 h.1 h.2) tt

data-whole : (n : ℕ) (unit : Module AsmFun) (found : DeclLine) → IsWhole unit → IsRight found →
    Gives IsWholeInside (data_line n unit found)
data-whole n unit (Extern d) whole right = whole-extern unit d whole right
data-whole n unit (Data g) whole right =
    gives-if IsWholeInside (nat_lt 65536 (words unit.globals + words_of_form g.decl.form)) (refused B5 n)
    (Ok (inside.Object (with_data unit g))) (λ e. tt) (whole-data unit g whole right.0 right.1 right.2 right.3)
data-whole n unit (Function d) whole right =
    gives-if IsWholeInside (nat_lt (length unit.funs) 1024) (Ok (inside.Function unit (opened d))) (refused B5 n)
    (λ e. (whole, right.0, right.1)) tt
data-whole n unit End whole right = tt

goes-whole : (units : List (Module AsmFun)) (r : Result Inside ObjectFault) → AreWhole units →
    Gives IsWholeInside r → Gives IsWholeReading (goes_on units r)
goes-whole units (Ok now) all h = (all, h)
goes-whole units (Err fault) all h = tt

declared-whole : (n : ℕ) (units : List (Module AsmFun)) (unit : Module AsmFun) (found : DeclLine) → AreWhole units →
    IsWhole unit → IsRight found → Gives IsWholeReading (declared n units unit found)
declared-whole n units unit (Extern d) all whole right =
    goes-whole units (data_line n unit (Extern d)) all (data-whole n unit (Extern d) whole right)
declared-whole n units unit (Data g) all whole right =
    goes-whole units (data_line n unit (Data g)) all (data-whole n unit (Data g) whole right)
declared-whole n units unit (Function d) all whole right =
    goes-whole units (data_line n unit (Function d)) all (data-whole n unit (Function d) whole right)
declared-whole n units unit End all whole right = (whole-put units unit all whole, tt)

pub at-line : {A B : Type 0} (P : B → Type 0) (Q : A → Type 0) (n : ℕ) (read : A → Result B ObjectFault)
    (r : Result A LineFault) → Gives Q r → ((x : A) → Q x → Gives P (read x)) →
    Gives P (and_then read (at_line n r))
at-line P Q n read (Ok x) h f = f x h
at-line P Q n read (Err fault) h f = tt

next-whole : (n : ℕ) (units : List (Module AsmFun)) (now : Inside) (ps : List Piece) → AreWhole units →
    IsWholeInside now → Gives IsWholeReading (next n units now ps)
next-whole n units inside.Text ps all h = goes-whole units (first_line n (fields ps)) all (first-whole n (fields ps))
next-whole n units (inside.Object unit) ps all h =
    at-line IsWholeReading IsRight n (declared n units unit) (decl_line (fields ps)) (line-right (fields ps))
    (λ found right. declared-whole n units unit found all h right)
next-whole n units (inside.Function unit body) ps all h =
    goes-whole units (and_then (code n unit body) (at_line n (code_line ps))) all
    (at-line IsWholeInside (λ found. Unit {0}) n (code n unit body) (code_line ps) (gives-any (code_line ps))
    (λ found any. code-whole n unit body found h))

end-whole : (n : ℕ) (units : List (Module AsmFun)) (now : Inside) → AreWhole units → Gives AreWhole (at_end n units now)
end-whole n [] inside.Text all = tt
end-whole n (u ∷ units) inside.Text all = all
end-whole n [] (inside.Object unit) all = tt
end-whole n (u ∷ units) (inside.Object unit) all = tt
end-whole n [] (inside.Function unit body) all = tt
end-whole n (u ∷ units) (inside.Function unit body) all = tt

last-whole : (n : ℕ) (r : Reading) (text : List ℕ) → AreWhole r.units → Gives AreWhole (last_line n r text)
last-whole n r [] all = end-whole n r.units r.inside all
last-whole n r (b ∷ bs) all = tt

pub then-gives : {A B : Type 0} (Q : A → Type 0) (P : B → Type 0) (read : A → Result B ObjectFault)
    (r : Result A ObjectFault) → Gives Q r → ((x : A) → Q x → Gives P (read x)) → Gives P (and_then read r)
then-gives Q P read (Ok x) h f = f x h
then-gives Q P read (Err fault) h f = tt

from-whole : (ls : List (List ℕ)) (n : ℕ) (r : Reading) → IsWholeReading r → Gives AreWhole (read_from ls n r)
from-whole [] n r h = last-whole n r [] h.0
from-whole (line ∷ []) n r h = last-whole n r line h.0
from-whole (line ∷ other ∷ others) n r h =
    then-gives IsWholeReading AreWhole (read_from (other ∷ others) (n + 1)) (next n r.units r.inside (pieces line))
    (next-whole n r.units r.inside (pieces line) h.0 h.1)
    (λ now k. from-whole (other ∷ others) (n + 1) now k)

pub read-whole : (text : List ℕ) (units : List (Module AsmFun)) → read text ≡ Ok units → AreWhole units
read-whole text units e =
    subst (Gives AreWhole) e (from-whole (lines text) 1 (going_on [] inside.Text) (tt, tt))
