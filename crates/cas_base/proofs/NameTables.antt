-- Tables of names: what a search for a row gives, and a test that computes whether a text is a table.
use Rattle.std.proofs.Common.{◌≡◌, ℕ, zero, suc, ◌<◌, ◌∙◌, refl, sym, ap, arith, List, [], ◌∷◌, length}
use Rattle.std.proofs.Common.{Option, Some, None, MatchOption, Bool, true, false, not, ◌&&◌}
use Rattle.std.specs.Prelude.{IfSome}
use Rattle.std.specs.List.{AllWithin, HoldsAt}
use Rattle.std.specs.Str.{bytes_eq}
use Rattle.std.proofs.lemmas.Option.{slice_get_within, get_or_from_slice_get, slice_get_read}
use Rattle.std.proofs.lemmas.Slice.Eq.{bytes_eq-Decides}
use Rattle.cas_base.specs.Names.{IsRow, IsDistinct, IsTable, IsFirstRow}

-- what `position` says, as a first row
pub IsFirstRow-from_position :
    (rows : List (List ℕ)) (text : List ℕ) (r : Option ℕ)
    → MatchOption r (AllWithin (λ x. x ≡ text → ⊥) rows 0 (length rows))
    (λ i. (i < length rows) × HoldsAt (λ x. x ≡ text) rows i × AllWithin (λ x. x ≡ text → ⊥) rows 0 i)
    → IsFirstRow rows text r
IsFirstRow-from_position rows text None h =
    λ k e. h k text (omega arith) (slice_get_within rows k text e) (get_or_from_slice_get rows k text text e)
IsFirstRow-from_position rows text (Some i) h = (
  slice_get_read rows (length rows) i text refl h.0 (sym (h.1 text)),
  λ j l e. h.2 j text (omega arith) l (get_or_from_slice_get rows j text text e),
)

-- a row that is found is one of the table's
pub found_below : (n : ℕ) (rows : List (List ℕ)) (text : List ℕ) (r : Option ℕ) → IsTable n rows →
    IsFirstRow rows text r → IfSome r (λ k. k < n)
found_below n rows text None table first = tt
found_below n rows text (Some k) table first = omega (arith, table.0, slice_get_within rows k text first.0)

-- whether a text is none of these
abbrev pub is_none_of : List ℕ → List (List ℕ) → Bool
is_none_of x [] = true
is_none_of x (y ∷ ys) = not (bytes_eq x y) && is_none_of x ys

-- whether no two of these are equal
abbrev pub all_differ : List (List ℕ) → Bool
all_differ [] = true
all_differ (x ∷ xs) = is_none_of x xs && all_differ xs

both : (a b : Bool) → a && b ≡ true → (a ≡ true) × (b ≡ true)
both true b h = (refl, h)
both false b h = cc

differs : (x y : List ℕ) → x ≡ y → not (bytes_eq x y) ≡ true → ⊥
differs x y e h = grind (arith, bytes_eq-Decides x y)

is_none_of-row : (x : List ℕ) (xs : List (List ℕ)) (k : ℕ) → is_none_of x xs ≡ true → IsRow xs k x → ⊥
is_none_of-row x [] k t e = cc
is_none_of-row x (y ∷ ys) zero t e = let q : x ≡ y = cc in differs x y q (both _ _ t).0
is_none_of-row x (y ∷ ys) (suc k) t e = is_none_of-row x ys k (both _ _ t).1 e

-- the test says that the rows are distinct: for a table of a literal text, `refl` computes it
pub IsDistinct-from_all_differ : (xs : List (List ℕ)) → all_differ xs ≡ true → IsDistinct xs
IsDistinct-from_all_differ [] t i j row e f = cc
IsDistinct-from_all_differ (x ∷ xs) t zero zero row e f = refl
IsDistinct-from_all_differ (x ∷ xs) t zero (suc j) row e f =
    let q : row ≡ x = cc in
    absurd (is_none_of-row x xs j (both _ _ t).0 (f ∙ ap Some q))
IsDistinct-from_all_differ (x ∷ xs) t (suc i) zero row e f =
    let q : row ≡ x = cc in
    absurd (is_none_of-row x xs i (both _ _ t).0 (e ∙ ap Some q))
IsDistinct-from_all_differ (x ∷ xs) t (suc i) (suc j) row e f =
    ap suc (IsDistinct-from_all_differ xs (both _ _ t).1 i j row e f)
