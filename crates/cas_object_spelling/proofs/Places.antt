-- The pieces of a memory operand are those of the address that is read.
use Rattle.std.proofs.Common.{◌≡◌, ℕ, Bool, true, false, not, ◌&&◌, ◌||◌, List, [], ◌∷◌, codes, Option, Some, None, refl, ap, sym, subst, cond, ◌∙◌}
use Rattle.cas_base.specs.Name.{is_name}
use Rattle.cas_base.specs.declared.reg.Reg.{Reg}
use Rattle.cas_base.specs.declared.reg.Reg.TheVariants.{Eax, Ecx, Edx, Ebx, Esp, Ebp, Esi, Edi}
use Rattle.cas_pieces.specs.declared.piece.Mark.TheVariants.{At, Plus, Minus, Star, Close}
use Rattle.cas_pieces.specs.declared.piece.Piece.{Piece}
use Rattle.cas_pieces.specs.declared.piece.Piece.TheVariants.{Word, Mark}
use Rattle.cas_pieces.specs.Marks.{is_mark, spells}
use Rattle.cas_pieces.specs.Numbers.{is_numeral}
use Rattle.cas_pieces.proofs.Tables.{find-spelt}
use Rattle.cas_object_line.specs.Tables.{register_of, register_text, registers}
use Rattle.cas_object_line.specs.declared.operand.Address.{Address}
use Rattle.cas_object_line.specs.declared.operand.Numeral.{Numeral}
use Rattle.cas_object_line.specs.Operands as read
use Rattle.cas_object_line.specs.Operands.{is_positive, is_absent}
use Rattle.cas_object_print.specs.Operands.{is_there}
use Rattle.cas_object_print.specs.Words.{register}
use Rattle.cas_object_laws.proofs.Spelled.{symbol_pieces, joint_pieces, base_pieces, scale_pieces, index_pieces}
use Rattle.cas_object_spelling.proofs.Marks.{is_at, is_plus, is_minus, is_star, is_close, is_word, and-first, and-second, May, may-if, may-more}

-- a register is spelt as it is printed
same_text : (r : Reg) → register_text r ≡ register r
same_text Eax = refl
same_text Ecx = refl
same_text Edx = refl
same_text Ebx = refl
same_text Esp = refl
same_text Ebp = refl
same_text Esi = refl
same_text Edi = refl

pub register-spelt : (x : List ℕ) (r : Reg) → register_of x ≡ Some r → x ≡ register r
register-spelt x r e = find-spelt register_text registers x r e ∙ same_text r

register-piece : (p : Piece) (r : Reg) → read.register_piece p ≡ Some r → p ≡ Word (register r)
register-piece (Word x) r e = ap Word (register-spelt x r e)
register-piece (Mark m) r e = absurd cc

-- which parts are there before the number
abbrev pub has_base : Option (List ℕ) → Option Reg → Bool
has_base s b = is_there s || is_there b

abbrev pub has_index : Option (List ℕ) → Option Reg → Option (Reg × Bool) → Bool
has_index s b i = has_base s b || is_there i

-- the pieces of a number after other parts
abbrev pub tail_pieces : Bool → Option Numeral → List Piece → List Piece
tail_pieces after None rest = rest
tail_pieces after (Some n) rest =
    cond n.negative (Mark Minus ∷ Word n.digits ∷ rest) (joint_pieces after (Word n.digits ∷ rest))

-- a number that may stand there: a 0 is alone
abbrev pub IsTail : Bool → Option Numeral → Type 0
IsTail after None = after ≡ true
IsTail after (Some n) = (n.negative ≡ true → is_positive n.digits ≡ true) × (after ≡ true → is_positive n.digits ≡ true)

abbrev pub tail : Address → List Piece
tail a = tail_pieces (has_index a.symbol a.base a.index) a.number (Mark Close ∷ [])

abbrev pub IsEnded : Address → Type 0
IsEnded a = IsTail (has_index a.symbol a.base a.index) a.number

-- an address with these parts, whose other pieces are these
abbrev Ends : Option (List ℕ) → Option Reg → Option (Reg × Bool) → List Piece → Address → Type 0
Ends s b i ps a = (a.symbol ≡ s) × (a.base ≡ b) × (a.index ≡ i) × (ps ≡ tail a) × IsEnded a

abbrev OnIndex : Option (List ℕ) → Option Reg → List Piece → Address → Type 0
OnIndex s b ps a =
    (a.symbol ≡ s) × (a.base ≡ b) × (ps ≡ index_pieces (has_base a.symbol a.base) a.index (tail a)) × IsEnded a

abbrev OnBase : Option (List ℕ) → List Piece → Address → Type 0
OnBase s ps a =
    (a.symbol ≡ s)
    × (ps ≡ base_pieces (is_there a.symbol) a.base (index_pieces (has_base a.symbol a.base) a.index (tail a)))
    × IsEnded a

-- the pieces of an address, after `[`
abbrev pub address_pieces : Address → List Piece
address_pieces a =
    symbol_pieces a.symbol (base_pieces (is_there a.symbol) a.base
    (index_pieces (has_base a.symbol a.base) a.index (tail a)))

abbrev pub IsAddress : List Piece → Address → Type 0
IsAddress ps a = (ps ≡ address_pieces a) × IsEnded a

end-index : (s : Option (List ℕ)) (b : Option Reg) (ps : List Piece) (a : Address) → Ends s b None ps a →
    OnIndex s b ps a
end-index s b ps a h = (h.0, h.1, h.3 ∙ sym (without a.index h.2), h.4)
  where
    without : (i : Option (Reg × Bool)) → i ≡ None → index_pieces (has_base a.symbol a.base) i (tail a) ≡ tail a
    without None e = refl
    without (Some i) e = absurd cc

index-base : (s : Option (List ℕ)) (ps : List Piece) (a : Address) → OnIndex s None ps a → OnBase s ps a
index-base s ps a h = (h.0, h.2 ∙ sym (without a.base h.1), h.3)
  where
    without : (b : Option Reg) → b ≡ None →
        base_pieces (is_there a.symbol) b (index_pieces (has_base a.symbol a.base) a.index (tail a))
        ≡ index_pieces (has_base a.symbol a.base) a.index (tail a)
    without None e = refl
    without (Some b) e = absurd cc

base-address : (ps : List Piece) (a : Address) → OnBase None ps a → IsAddress ps a
base-address ps a h = (h.1 ∙ sym (without a.symbol h.0), h.2)
  where
    without : (s : Option (List ℕ)) → s ≡ None → symbol_pieces s (base_pieces (is_there a.symbol) a.base
        (index_pieces (has_base a.symbol a.base) a.index (tail a)))
        ≡ base_pieces (is_there a.symbol) a.base (index_pieces (has_base a.symbol a.base) a.index (tail a))
    without None e = refl
    without (Some x) e = absurd cc

-- The digits of a number.

positive_by : (z p n : Bool) → z ≡ false → (p || (z && n)) ≡ true → p ≡ true
positive_by z true n f e = refl
positive_by true false n f e = absurd cc
positive_by false false n f e = absurd cc

abbrev IsDigits : Bool → Piece → List ℕ → Type 0
IsDigits z p x = (p ≡ Word x) × (z ≡ false → is_positive x ≡ true)

digits-piece : (z : Bool) (p : Piece) → May (IsDigits z p) (read.numeral_of z p)
digits-piece z (Mark m) = tt
digits-piece z (Word x) =
    may-if (IsDigits z (Word x)) (is_positive x || (z && is_numeral x)) (Some x) None
    (λ e. (refl, λ f. positive_by z (is_positive x) (is_numeral x) f e)) (λ e. tt)

not_alone : (s : Option (List ℕ)) (b : Option Reg) (i : Option (Reg × Bool)) → has_index s b i ≡ true →
    (is_absent s && is_absent b && is_absent i) ≡ false
not_alone None None None h = absurd cc
not_alone None None (Some i) h = refl
not_alone None (Some b) i h = refl
not_alone (Some s) b i h = refl

two : (p q r s : Piece) → p ≡ r → q ≡ s → p ∷ q ∷ [] ≡ r ∷ s ∷ []
two p q r s e f = cc

three : (p q r s t u : Piece) → p ≡ s → q ≡ t → r ≡ u → p ∷ q ∷ r ∷ [] ≡ s ∷ t ∷ u ∷ []
three p q r s t u e f g = cc

-- a number without a sign
plain-ends : (s : Option (List ℕ)) (b : Option Reg) (i : Option (Reg × Bool)) (number right : Piece) →
    is_mark right Close ≡ true → (o : Option (List ℕ)) →
    May (IsDigits (is_absent s && is_absent b && is_absent i) number) o →
    May (Ends s b i (joint_pieces (has_index s b i) (number ∷ right ∷ []))) (read.ended_by s b i false o)
plain-ends s b i number right e None h = tt
plain-ends s b i number right e (Some x) h = (
  refl,
  refl,
  refl,
  ap (joint_pieces (has_index s b i)) (two number right (Word x) (Mark Close) h.0 (is_close right e)),
  (λ f. absurd cc, λ f. h.1 (not_alone s b i f)),
)

number-ends : (s : Option (List ℕ)) (b : Option Reg) (i : Option (Reg × Bool)) (ps : List Piece) →
    May (Ends s b i (joint_pieces (has_index s b i) ps)) (read.number_part s b i ps)
number-ends s b i [] = tt
number-ends s b i (p ∷ []) = tt
number-ends s b i (number ∷ right ∷ []) =
    let z = is_absent s && is_absent b && is_absent i in
    may-if (Ends s b i (joint_pieces (has_index s b i) (number ∷ right ∷ []))) (is_mark right Close)
    (read.ended_by s b i false (read.numeral_of z number)) None
    (λ e. plain-ends s b i number right e (read.numeral_of z number) (digits-piece z number)) (λ e. tt)
number-ends s b i (p ∷ q ∷ r ∷ rs) = tt

-- a number with its sign
minus-ends : (s : Option (List ℕ)) (b : Option Reg) (i : Option (Reg × Bool)) (minus number right : Piece) →
    (is_mark minus Minus && is_mark right Close) ≡ true → (o : Option (List ℕ)) → May (IsDigits false number) o →
    May (Ends s b i (minus ∷ number ∷ right ∷ [])) (read.ended_by s b i true o)
minus-ends s b i minus number right e None h = tt
minus-ends s b i minus number right e (Some x) h = (
  refl,
  refl,
  refl,
  three minus number right (Mark Minus) (Word x) (Mark Close)
      (is_minus minus (and-first (is_mark minus Minus) (is_mark right Close) e)) h.0
      (is_close right (and-second (is_mark minus Minus) (is_mark right Close) e)),
  (λ f. h.1 refl, λ f. h.1 refl),
)

negative-ends : (s : Option (List ℕ)) (b : Option Reg) (i : Option (Reg × Bool)) (minus number right : Piece) →
    May (Ends s b i (minus ∷ number ∷ right ∷ [])) (read.number_end s b i (minus ∷ number ∷ right ∷ []))
negative-ends s b i minus number right =
    may-if (Ends s b i (minus ∷ number ∷ right ∷ [])) (is_mark minus Minus && is_mark right Close)
    (read.ended_by s b i true (read.numeral_of false number)) None
    (λ e. minus-ends s b i minus number right e (read.numeral_of false number) (digits-piece false number)) (λ e. tt)

one : (p q : Piece) → p ≡ q → p ∷ [] ≡ q ∷ []
one p q e = cc

end-ends : (s : Option (List ℕ)) (b : Option Reg) (i : Option (Reg × Bool)) (ps : List Piece) →
    has_index s b i ≡ true → May (Ends s b i ps) (read.number_end s b i ps)
end-ends s b i [] h = tt
end-ends s b i (right ∷ []) h =
    let ended : Address = record { symbol = s; base = b; index = i; number = None } in
    may-if (Ends s b i (right ∷ [])) (is_mark right Close) (Some ended) None
    (λ e. (refl, refl, refl, one right (Mark Close) (is_close right e), h)) (λ e. tt)
end-ends s b i (p ∷ q ∷ []) h = tt
end-ends s b i (minus ∷ number ∷ right ∷ []) h = negative-ends s b i minus number right
end-ends s b i (p ∷ q ∷ r ∷ u ∷ us) h = tt

-- What follows a `+`, where there are parts before it.
joined : (after : Bool) (plus : Piece) (rest : List Piece) → after ≡ true → is_mark plus Plus ≡ true →
    joint_pieces after rest ≡ plus ∷ rest
joined true plus rest h e = ap (λ p. p ∷ rest) (sym (is_plus plus e))
joined false plus rest h e = absurd cc

or-true : (a : Bool) → (a || true) ≡ true
or-true true = refl
or-true false = refl

or-false : (a : Bool) → (a || false) ≡ a
or-false true = refl
or-false false = refl

index-after : (s : Option (List ℕ)) (b : Option Reg) (i : Reg × Bool) (ps : List Piece) →
    May (Ends s b (Some i) ps) (read.after_index s b i ps)
index-after s b i [] = tt
index-after s b i (plus ∷ rest) =
    may-if (Ends s b (Some i) (plus ∷ rest)) (is_mark plus Plus) (read.number_part s b (Some i) rest)
    (read.number_end s b (Some i) (plus ∷ rest))
    (λ e. subst (λ qs. May (Ends s b (Some i) qs) (read.number_part s b (Some i) rest))
    (joined (has_index s b (Some i)) plus rest (or-true (has_base s b)) e) (number-ends s b (Some i) rest))
    (λ e. end-ends s b (Some i) (plus ∷ rest) (or-true (has_base s b)))

-- The index.
abbrev IsIndex : Option Reg → Piece → Reg × Bool → Type 0
IsIndex o scale i = (o ≡ Some i.0) × (scale ≡ Word (cond i.1 (codes "4") (codes "1")))

scale-piece : (r : Reg) (b : Option Reg) (scale : Piece) → May (IsIndex (Some r) scale) (read.scaled r b scale)
scale-piece r b scale =
    let by_one = spells scale (codes "1") && not (is_absent b) in
    may-if (IsIndex (Some r) scale) (spells scale (codes "4")) (Some (r, true)) (cond by_one (Some (r, false)) None)
    (λ e. (refl, is_word scale (codes "4") e))
    (λ e. may-if (IsIndex (Some r) scale) by_one (Some (r, false)) None
    (λ f. (refl, is_word scale (codes "1") (and-first (spells scale (codes "1")) (not (is_absent b)) f))) (λ f. tt))

index-piece : (o b : Option Reg) (scale : Piece) → May (IsIndex o scale) (read.index_of o b scale)
index-piece None b scale = tt
index-piece (Some Esp) b scale = tt
index-piece (Some r) b scale = scale-piece r b scale

index-pieces : (reg star scale : Piece) (i : Reg × Bool) (rest : List Piece) → is_mark star Star ≡ true →
    IsIndex (read.register_piece reg) scale i →
    reg ∷ star ∷ scale ∷ rest ≡ Word (register i.0) ∷ scale_pieces i.1 rest
index-pieces reg star scale i rest e h =
    three_before (register-piece reg i.0 h.0) (is_star star e) h.1 ∙ ap (λ ps. Word (register i.0) ∷ ps) (by_scale i.1)
  where
    three_before : {p q r : Piece} → reg ≡ p → star ≡ q → scale ≡ r → reg ∷ star ∷ scale ∷ rest ≡ p ∷ q ∷ r ∷ rest
    three_before a b c = cc

    by_scale : (four : Bool) → Mark Star ∷ Word (cond four (codes "4") (codes "1")) ∷ rest ≡ scale_pieces four rest
    by_scale true = refl
    by_scale false = refl

some-index : (s : Option (List ℕ)) (b : Option Reg) (i : Reg × Bool) (ps qs : List Piece) (a : Address) →
    qs ≡ Word (register i.0) ∷ scale_pieces i.1 ps → Ends s b (Some i) ps a →
    OnIndex s b (joint_pieces (has_base s b) qs) a
some-index s b i ps qs a e h = (
  h.0,
  h.1,
  ap (joint_pieces (has_base s b)) (e ∙ ap (λ rest. Word (register i.0) ∷ scale_pieces i.1 rest) h.3)
      ∙ sym (within a.symbol a.base a.index h.0 h.1 h.2),
  h.4,
)
  where
    within : (t : Option (List ℕ)) (c : Option Reg) (j : Option (Reg × Bool)) → t ≡ s → c ≡ b → j ≡ Some i →
        index_pieces (has_base t c) j (tail a)
        ≡ joint_pieces (has_base s b) (Word (register i.0) ∷ scale_pieces i.1 (tail a))
    within t c j x y z = rw (x, y, z) refl

index-with : (s : Option (List ℕ)) (b : Option Reg) (reg star scale : Piece) (rest : List Piece) →
    is_mark star Star ≡ true → (o : Option (Reg × Bool)) → May (IsIndex (read.register_piece reg) scale) o →
    May (OnIndex s b (joint_pieces (has_base s b) (reg ∷ star ∷ scale ∷ rest))) (read.with_index s b o rest)
index-with s b reg star scale rest e None h = tt
index-with s b reg star scale rest e (Some i) h =
    may-more (Ends s b (Some i) rest) (OnIndex s b (joint_pieces (has_base s b) (reg ∷ star ∷ scale ∷ rest)))
    (read.after_index s b i rest) (index-after s b i rest)
    (λ a k. some-index s b i rest (reg ∷ star ∷ scale ∷ rest) a (index-pieces reg star scale i rest e h) k)

number-index : (s : Option (List ℕ)) (b : Option Reg) (ps : List Piece) →
    May (OnIndex s b (joint_pieces (has_base s b) ps)) (read.number_part s b None ps)
number-index s b ps =
    may-more (Ends s b None (joint_pieces (has_index s b None) ps)) (OnIndex s b (joint_pieces (has_base s b) ps))
    (read.number_part s b None ps) (number-ends s b None ps)
    (λ a k. end-index s b _ a (subst (λ after. Ends s b None (joint_pieces after ps) a) (or-false (has_base s b)) k))

on-index : (s : Option (List ℕ)) (b : Option Reg) (ps : List Piece) →
    May (OnIndex s b (joint_pieces (has_base s b) ps)) (read.index_part s b ps)
on-index s b [] = number-index s b []
on-index s b (p ∷ []) = number-index s b (p ∷ [])
on-index s b (p ∷ q ∷ []) = number-index s b (p ∷ q ∷ [])
on-index s b (reg ∷ star ∷ scale ∷ rest) =
    may-if (OnIndex s b (joint_pieces (has_base s b) (reg ∷ star ∷ scale ∷ rest))) (is_mark star Star)
    (read.with_index s b (read.index_of (read.register_piece reg) b scale) rest)
    (read.number_part s b None (reg ∷ star ∷ scale ∷ rest))
    (λ e. index-with s b reg star scale rest e (read.index_of (read.register_piece reg) b scale)
    (index-piece (read.register_piece reg) b scale))
    (λ e. number-index s b (reg ∷ star ∷ scale ∷ rest))

end-on-index : (s : Option (List ℕ)) (b : Option Reg) (ps : List Piece) → has_base s b ≡ true →
    May (OnIndex s b ps) (read.number_end s b None ps)
end-on-index s b ps h =
    may-more (Ends s b None ps) (OnIndex s b ps) (read.number_end s b None ps)
    (end-ends s b None ps (or-false (has_base s b) ∙ h)) (λ a k. end-index s b ps a k)

-- The base.
base-after : (s : Option (List ℕ)) (b : Reg) (ps : List Piece) →
    May (OnIndex s (Some b) ps) (read.after_base s b ps)
base-after s b [] = tt
base-after s b (plus ∷ rest) =
    may-if (OnIndex s (Some b) (plus ∷ rest)) (is_mark plus Plus) (read.index_part s (Some b) rest)
    (read.number_end s (Some b) None (plus ∷ rest))
    (λ e. subst (λ qs. May (OnIndex s (Some b) qs) (read.index_part s (Some b) rest))
    (joined (has_base s (Some b)) plus rest (or-true (is_there s)) e) (on-index s (Some b) rest))
    (λ e. end-on-index s (Some b) (plus ∷ rest) (or-true (is_there s)))

some-base : (s : Option (List ℕ)) (b : Reg) (reg : Piece) (ps : List Piece) (a : Address) → reg ≡ Word (register b) →
    OnIndex s (Some b) ps a → OnBase s (joint_pieces (is_there s) (reg ∷ ps)) a
some-base s b reg ps a e h =
    (h.0, ap (joint_pieces (is_there s)) (pair e h.2) ∙ sym (within a.symbol a.base h.0 h.1), h.3)
  where
    pair : {p : Piece} {qs : List Piece} → reg ≡ p → ps ≡ qs → reg ∷ ps ≡ p ∷ qs
    pair x y = cc

    within : (t : Option (List ℕ)) (c : Option Reg) → t ≡ s → c ≡ Some b →
        base_pieces (is_there t) c (index_pieces (has_base a.symbol a.base) a.index (tail a))
        ≡ joint_pieces (is_there s) (Word (register b) ∷ index_pieces (has_base a.symbol a.base) a.index (tail a))
    within t c x y = rw (x, y) refl

none-base : (s : Option (List ℕ)) (ps : List Piece) (o : Option Address) →
    May (OnIndex s None (joint_pieces (has_base s None) ps)) o → May (OnBase s (joint_pieces (is_there s) ps)) o
none-base s ps o h =
    may-more (OnIndex s None (joint_pieces (has_base s None) ps)) (OnBase s (joint_pieces (is_there s) ps)) o h
    (λ a k. index-base s _ a
    (subst (λ after. OnIndex s None (joint_pieces after ps) a) (or-false (is_there s)) k))

base-with : (s : Option (List ℕ)) (o : Option Reg) (reg : Piece) (rest : List Piece) →
    read.register_piece reg ≡ o → May (OnBase s (joint_pieces (is_there s) (reg ∷ rest))) (read.with_base s o reg rest)
base-with s None reg rest e = none-base s (reg ∷ rest) (read.number_part s None None (reg ∷ rest))
    (number-index s None (reg ∷ rest))
base-with s (Some b) reg rest e =
    may-more (OnIndex s (Some b) rest) (OnBase s (joint_pieces (is_there s) (reg ∷ rest))) (read.after_base s b rest)
    (base-after s b rest) (λ a k. some-base s b reg rest a (register-piece reg b e) k)

on-base : (s : Option (List ℕ)) (ps : List Piece) → May (OnBase s (joint_pieces (is_there s) ps)) (read.base_part s ps)
on-base s [] = none-base s [] (read.index_part s None []) (on-index s None [])
on-base s (reg ∷ rest) =
    may-if (OnBase s (joint_pieces (is_there s) (reg ∷ rest))) (read.begins_with_star rest)
    (read.index_part s None (reg ∷ rest)) (read.with_base s (read.register_piece reg) reg rest)
    (λ e. none-base s (reg ∷ rest) (read.index_part s None (reg ∷ rest)) (on-index s None (reg ∷ rest)))
    (λ e. base-with s (read.register_piece reg) reg rest refl)

-- The symbol.
symbol-after : (x : List ℕ) (ps : List Piece) → May (OnBase (Some x) ps) (read.after_symbol (Some x) ps)
symbol-after x [] = tt
symbol-after x (plus ∷ rest) =
    may-if (OnBase (Some x) (plus ∷ rest)) (is_mark plus Plus) (read.base_part (Some x) rest)
    (read.number_end (Some x) None None (plus ∷ rest))
    (λ e. subst (λ qs. May (OnBase (Some x) qs) (read.base_part (Some x) rest)) (joined true plus rest refl e)
    (on-base (Some x) rest))
    (λ e. may-more (OnIndex (Some x) None (plus ∷ rest)) (OnBase (Some x) (plus ∷ rest))
    (read.number_end (Some x) None None (plus ∷ rest)) (end-on-index (Some x) None (plus ∷ rest) refl)
    (λ a k. index-base (Some x) (plus ∷ rest) a k))

some-symbol : (x : List ℕ) (at : Piece) (ps : List Piece) (a : Address) → at ≡ Mark At → OnBase (Some x) ps a →
    IsAddress (at ∷ Word x ∷ ps) a
some-symbol x at ps a e h = (pair e h.1 ∙ sym (within a.symbol h.0), h.2)
  where
    pair : {p : Piece} {qs : List Piece} → at ≡ p → ps ≡ qs → at ∷ Word x ∷ ps ≡ p ∷ Word x ∷ qs
    pair y z = cc

    within : (t : Option (List ℕ)) → t ≡ Some x → symbol_pieces t (base_pieces (is_there a.symbol) a.base
        (index_pieces (has_base a.symbol a.base) a.index (tail a))) ≡ Mark At ∷ Word x ∷ base_pieces
        (is_there a.symbol) a.base (index_pieces (has_base a.symbol a.base) a.index (tail a))
    within t y = rw y refl

symbol-with : (at p : Piece) (rest : List Piece) → is_mark at At ≡ true →
    May (IsAddress (at ∷ p ∷ rest)) (read.with_symbol p rest)
symbol-with at (Mark m) rest e = tt
symbol-with at (Word x) rest e =
    may-if (IsAddress (at ∷ Word x ∷ rest)) (is_name x) (read.after_symbol (Some x) rest) None
    (λ f. may-more (OnBase (Some x) rest) (IsAddress (at ∷ Word x ∷ rest)) (read.after_symbol (Some x) rest)
    (symbol-after x rest) (λ a k. some-symbol x at rest a (is_at at e) k))
    (λ f. tt)

free : (ps : List Piece) → May (IsAddress ps) (read.base_part None ps)
free ps = may-more (OnBase None ps) (IsAddress ps) (read.base_part None ps) (on-base None ps) (base-address ps)

symbol-free : (ps : List Piece) → May (IsAddress ps) (read.symbol_free ps)
symbol-free [] = free []
symbol-free (p ∷ []) = free (p ∷ [])
symbol-free (p ∷ q ∷ []) = free (p ∷ q ∷ [])
symbol-free (minus ∷ number ∷ right ∷ []) =
    may-if (IsAddress (minus ∷ number ∷ right ∷ [])) (is_mark minus Minus)
    (read.number_end None None None (minus ∷ number ∷ right ∷ []))
    (read.base_part None (minus ∷ number ∷ right ∷ []))
    (λ e. may-more (Ends None None None (minus ∷ number ∷ right ∷ [])) (IsAddress (minus ∷ number ∷ right ∷ []))
    (read.number_end None None None (minus ∷ number ∷ right ∷ [])) (negative-ends None None None minus number right)
    (λ a k. base-address _ a (index-base None _ a (end-index None None _ a k))))
    (λ e. free (minus ∷ number ∷ right ∷ []))
symbol-free (p ∷ q ∷ r ∷ s ∷ rest) = free (p ∷ q ∷ r ∷ s ∷ rest)

-- an address that is read has these pieces
pub address-pieces : (ps : List Piece) → May (IsAddress ps) (read.address_of ps)
address-pieces [] = symbol-free []
address-pieces (p ∷ []) = symbol-free (p ∷ [])
address-pieces (at ∷ symbol ∷ rest) =
    may-if (IsAddress (at ∷ symbol ∷ rest)) (is_mark at At) (read.with_symbol symbol rest)
    (read.symbol_free (at ∷ symbol ∷ rest)) (λ e. symbol-with at symbol rest e)
    (λ e. symbol-free (at ∷ symbol ∷ rest))
