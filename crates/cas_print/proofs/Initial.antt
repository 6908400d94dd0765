-- Initial values and cells whose canonical tokens may stand in a text and spell them.
use Rattle.std.proofs.Common.{◌≡◌, ℕ, ◌+◌, ◌^◌, ◌<◌, ◌≤◌, ℤ, pos, negsuc, List, [], ◌∷◌, Bool, true, refl, sym, ap, subst, ◌∙◌, arith}
use Rattle.std.proofs.lemmas.Int.{ints}
use Rattle.std.proofs.lemmas.Bool.Decides.{nat_tests}
use Rattle.cas_base.proofs.KindLaws.{narrowed-lt, narrowed-narrowed}
use Rattle.cas_base.specs.Kind.{value_of}
use Rattle.cas_base.specs.Word.{word_sub, narrowed, signed}
use Rattle.cas_base.specs.declared.kind.Kind.{Kind}
use Rattle.cas_base.specs.declared.kind.Kind.TheVariants.{I8, U8, I16, U16, I32, U32}
use Rattle.cas_base.specs.declared.kind.Ty.{Ty}
use Rattle.cas_base.specs.declared.kind.Ty.TheVariants.{Array}
use Rattle.cas_base.specs.declared.place.Place.{Place}
use Rattle.cas_lex.specs.declared.token.Sign.TheVariants as sg
use Rattle.cas_lex.specs.declared.token.Token.{Token}
use Rattle.cas_syntax.specs.declared.tree.Ident.{Ident}
use Rattle.cas_syntax.specs.Reading.{within}
use Rattle.cas_syntax.specs.Tokens as t
use Rattle.cas_syntax.specs.Expressions as g
use Rattle.cas_syntax.specs.Items as g3
use Rattle.cas_print.specs.Pieces.{Piece, sign, plain_number}
use Rattle.cas_print.specs.Expressions.{listed}
use Rattle.cas_print.specs.Items.{printed_integer, printed_value, printed_cells}
use Rattle.cas_print.proofs.Kept.{Keeps}
use Rattle.cas_print.proofs.Numbers.{small_sound, plain_sound}
use Rattle.cas_print.proofs.Parts.{keeps_kind}
use Rattle.cas_print.proofs.Placed.{placed}
use Rattle.cas_print.proofs.Respelt.{ident_at, respelt_kind}
use Rattle.cas_print.proofs.Sound.{Sound, IsPlainName, literal_small}

-- the pieces may stand in a text, and spell what they say
abbrev pub Spelling : (List Piece → Place) → (List Piece → List Piece) → (List Token → List Token → Type 0) → Type 0
Spelling at inner IsSpelt = Keeps inner × ((rest : List Piece) → IsSpelt (placed at (inner rest)) (placed at rest))

-- the readings of words

signed-pos : (v m : ℕ) → v < 2 ^ 32 → signed v ≡ pos m → m ≡ v
signed-pos v m h e = grind (arith, nat_tests, ints)

signed-neg : (v m : ℕ) → v < 2 ^ 32 → signed v ≡ negsuc m → (m + 1 + v ≡ 4294967296) × (m < 2147483648)
signed-neg v m h e = grind (arith, nat_tests, ints)

value-pos : (k : Kind) (v m : ℕ) → v < 2 ^ 32 → value_of v k ≡ pos m → m ≡ v
value-pos I8 v m h e = signed-pos v m h e
value-pos U8 v m h e = cc
value-pos I16 v m h e = signed-pos v m h e
value-pos U16 v m h e = cc
value-pos I32 v m h e = signed-pos v m h e
value-pos U32 v m h e = cc

value-neg : (k : Kind) (v m : ℕ) → v < 2 ^ 32 → value_of v k ≡ negsuc m → (m + 1 + v ≡ 4294967296) × (m < 2147483648)
value-neg I8 v m h e = signed-neg v m h e
value-neg U8 v m h e = cc
value-neg I16 v m h e = signed-neg v m h e
value-neg U16 v m h e = cc
value-neg I32 v m h e = signed-neg v m h e
value-neg U32 v m h e = cc

word_sub-negated : (n v : ℕ) → n + v ≡ 4294967296 → 1 ≤ n → word_sub 0 n ≡ v
word_sub-negated n v sum some = omega arith

-- an initial value

abbrev ValueSpelling : (List Piece → Place) → Kind → ℕ → (List Piece → List Piece) → Type 0
ValueSpelling at k v inner = Spelling at inner (g3.SpellsValue k v)

by_sign : (at : List Piece → Place) (k : Kind) (v : ℕ) → v < 2 ^ 32 → narrowed v k ≡ v → (z : ℤ) → value_of v k ≡ z →
    ValueSpelling at k v (printed_integer z)
by_sign at k v small stays (pos m) is =
    let same : m ≡ v = value-pos k v m small is in
    let few : m ≤ 4294967295 = omega arith in
    let value : narrowed m k ≡ v = ap (λ (n : ℕ). narrowed n k) same ∙ stays in (
      (λ rest sound. (small_sound m few, sound)),
      λ rest. subst (λ (n : ℕ). g3.SpellsValue k n (placed at (plain_number m ∷ rest)) (placed at rest)) value
          (g3.as_it_is m _ _ _),
    )
by_sign at k v small stays (negsuc m) is =
    let sum = value-neg k v m small is in
    let few : m + 1 ≤ 4294967295 = omega arith in
    let same : word_sub 0 (m + 1) ≡ v = word_sub-negated (m + 1) v sum.0 (omega arith) in
    let value : narrowed (word_sub 0 (m + 1)) k ≡ v = ap (λ (n : ℕ). narrowed n k) same ∙ stays in (
      (λ rest sound. (tt, (small_sound (m + 1) few, sound))),
      λ rest. subst (λ (n : ℕ). g3.SpellsValue k n (placed at (sign sg.Minus ∷ plain_number (m + 1) ∷ rest))
          (placed at rest)) value (g3.negative (m + 1) _ _ _ _),
    )

abbrev ValuePrintable : (List Piece → Place) → Kind → ℕ → Type 0
ValuePrintable at k v = ValueSpelling at k v (printed_value k v)

narrowed_printable : (at : List Piece → Place) (k : Kind) (n : ℕ) → n < 2 ^ 32 → ValuePrintable at k (narrowed n k)
narrowed_printable at k n h = by_sign at k (narrowed n k) (narrowed-lt n k h) (narrowed-narrowed n k h)
    (value_of (narrowed n k) k) refl

value_printable : (at : List Piece → Place) (k : Kind) (v : ℕ) (s r : List Token) → g3.SpellsValue k v s r → Sound s →
    Sound r × ValuePrintable at k v
value_printable at k _ s r (g3.as_it_is n j p _) h =
    let small = literal_small n j h.0 in (h.1, narrowed_printable at k n (omega arith))
value_printable at k _ s r (g3.negative n j p q _) h =
    let small = literal_small n j h.1.0 in
    let less : word_sub 0 n < 2 ^ 32 = omega arith in
    (h.1.1, narrowed_printable at k (word_sub 0 n) less)

-- initial values with commas between

abbrev ValuesPrintable : (List Piece → Place) → Kind → List ℕ → Type 0
ValuesPrintable at k vs = Spelling at (listed (printed_value k) vs) (g3.SpellsValues k vs)

more_values : (at : List Piece → Place) (k : Kind) (v w : ℕ) (ws : List ℕ) → ValuePrintable at k v →
    ValuesPrintable at k (w ∷ ws) → ValuesPrintable at k (v ∷ w ∷ ws)
more_values at k v w ws first more = (
  (λ rest sound. first.0 _ (tt, more.0 rest sound)),
  λ rest. g3.one_value v (w ∷ ws) _ _ _ _ (first.1 (sign sg.Comma ∷ listed (printed_value k) (w ∷ ws) rest))
      (more.1 rest),
)

join_values : (at : List Piece → Place) (k : Kind) (v : ℕ) (vs : List ℕ) (s r : List Token) → g3.SpellsValues k vs s r →
    ValuePrintable at k v → ValuesPrintable at k vs → ValuesPrintable at k (v ∷ vs)
join_values at k v _ s r (g3.last_value w _ _ spelt) first more = more_values at k v w [] first more
join_values at k v _ s r (g3.last_value_and_comma w p _ _ spelt) first more = more_values at k v w [] first more
join_values at k v _ s r (g3.one_value w ws p _ _ _ spelt others) first more = more_values at k v w ws first more

last_printable : (at : List Piece → Place) (k : Kind) (v : ℕ) → ValuePrintable at k v → ValuesPrintable at k (v ∷ [])
last_printable at k v value = (value.0, λ rest. g3.last_value v _ _ (value.1 rest))

values_printable : (at : List Piece → Place) (k : Kind) (vs : List ℕ) (s r : List Token) → g3.SpellsValues k vs s r →
    Sound s → Sound r × ValuesPrintable at k vs
values_printable at k _ s r (g3.last_value v _ _ spelt) h =
    let e = value_printable at k v s r spelt h in (e.0, last_printable at k v e.1)
values_printable at k _ s r (g3.last_value_and_comma v p _ _ spelt) h =
    let e = value_printable at k v s (t.sign sg.Comma p ∷ r) spelt h in (e.0.1, last_printable at k v e.1)
values_printable at k _ s r (g3.one_value v vs p _ u _ spelt others) h =
    let e = value_printable at k v s (t.sign sg.Comma p ∷ u) spelt h in
    let f = values_printable at k vs u r others e.0.1 in
    (f.0, join_values at k v vs u r others e.1 f.1)

-- the cells of a global

abbrev pub CellsPrintable : (List Piece → Place) → (defined : Bool) → Ty → (name : List ℕ) → List ℕ → Type 0
CellsPrintable at defined ty name vs = Keeps (printed_cells ty name vs) × ((rest : List Piece) →
    (k : Kind) × (middle : List Token) × (p : Place) × g.SpellsKind k (placed at (printed_cells ty name vs rest)) middle
    × g3.SpellsCells (within 0) defined k (ident_at name p) ty vs middle (placed at rest))

-- initial values in braces
braced : (at : List Piece → Place) (k : Kind) (name : List ℕ) (n w : ℕ) (ws : List ℕ) → IsPlainName name →
    n ≤ 4294967295 → ValuesPrintable at k (w ∷ ws) →
    CellsPrintable at true (Array k n) name (w ∷ ws)
braced at k name n w ws good few values = (
  (λ rest sound. keeps_kind k _ (good, (tt, (small_sound n few, (tt, (tt, (tt, values.0 _ (tt, sound)))))))),
  λ rest. (
    k,
    _,
    _,
    respelt_kind at k _,
    g3.cells_with_values (ident_at name _) n _ (w ∷ ws) _ _ _ _ _ _ _ _ refl (values.1 (sign sg.CloseBrace ∷ rest)),
  ),
)

some_braced : (at : List Piece → Place) (k : Kind) (name : List ℕ) (n : ℕ) (vs : List ℕ) (s r : List Token) →
    g3.SpellsValues k vs s r → IsPlainName name → n ≤ 4294967295 →
    ValuesPrintable at k vs → CellsPrintable at true (Array k n) name vs
some_braced at k name n _ s r (g3.last_value w _ _ spelt) = braced at k name n w []
some_braced at k name n _ s r (g3.last_value_and_comma w p _ _ spelt) = braced at k name n w []
some_braced at k name n _ s r (g3.one_value w ws p _ _ _ spelt others) = braced at k name n w ws

pub cells_printable : (at : List Piece → Place) (defined : Bool) (k : Kind) (x : Ident) (ty : Ty) (vs : List ℕ)
    (s r : List Token) → g3.SpellsCells (within 0) defined k x ty vs s r → Sound s →
    Sound r × IsPlainName x.name × CellsPrintable at defined ty x.name vs
cells_printable at defined k x _ _ s r (g3.one_cell _ _) h = (
  h.1,
  h.0,
  (
    (λ rest sound. keeps_kind k _ (h.0, sound)),
    λ rest.
        (k, _, _, respelt_kind at k _, g3.one_cell (ident_at x.name _) _),
  ),
)
cells_printable at defined k x _ _ _ r (g3.one_cell_with_value _ v p s _ is spelt) h =
    let e = value_printable at k v s r spelt h.1.1 in (
      e.0,
      h.0,
      (
        (λ rest sound. keeps_kind k _ (h.0, (tt, e.1.0 _ sound))),
        λ rest. (k, _, _, respelt_kind at k _, g3.one_cell_with_value (ident_at x.name _) v _ _ _ is (e.1.1 rest)),
      ),
    )
cells_printable at defined k x _ _ s r (g3.cells _ n j p o q _) h = (
  h.1.1.1.1,
  h.0,
  (
    (λ rest sound. keeps_kind k _ (h.0, (tt, (plain_sound n j h.1.1.0, (tt, sound))))),
    λ rest. (k, _, _, respelt_kind at k _, g3.cells (ident_at x.name _) n _ _ _ _ _),
  ),
)
cells_printable at defined k x _ vs _ r (g3.cells_with_values _ n j _ p o q e f b s _ is spelt) h =
    let i = values_printable at k vs s (t.sign sg.CloseBrace b ∷ r) spelt h.1.1.1.1.1.1 in (
      i.0.1,
      h.0,
      subst (λ (d : Bool). CellsPrintable at d (Array k n) x.name vs) (sym is)
          (some_braced at k x.name n vs _ _ spelt h.0 (literal_small n j h.1.1.0) i.1),
    )
cells_printable at defined k x _ _ _ r (g3.arrays _ n j p o q q' _ left_out) h = cc
