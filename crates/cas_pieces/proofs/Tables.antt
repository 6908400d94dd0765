-- Tables of names beside lists of what the names stand for.
use Rattle.std.proofs.Common.{◌≡◌, ℕ, zero, suc, List, [], ◌∷◌, map, Bool, true, false, cond, None, Some, find, bytes_eq, slice_get, refl, sym, ap, ◌∙◌, arith}
use Rattle.std.specs.Bool.{Decides}
use Rattle.std.proofs.lemmas.Slice.Eq.{bytes_eq-Decides}
use Rattle.cas_base.specs.Names.{IsRow, IsDistinct}

bytes_eq-false : (a b : List ℕ) → (b ≡ a → ⊥) → bytes_eq a b ≡ false
bytes_eq-false a b differ = step (bytes_eq a b) (bytes_eq-Decides a b)
  where
    step : (t : Bool) → Decides t (a ≡ b) → t ≡ false
    step true same = absurd (differ (sym (same.0 refl)))
    step false other = refl

bytes_eq-true : (a b : List ℕ) → b ≡ a → bytes_eq a b ≡ true
bytes_eq-true a b same = (bytes_eq-Decides a b).1 (sym same)

pub bytes_eq-same : (a b : List ℕ) → bytes_eq a b ≡ true → b ≡ a
bytes_eq-same a b h = sym ((bytes_eq-Decides a b).0 h)

-- a text that is no row is found nowhere
pub find-no_row : {A : Type 0} (spelling : A → List ℕ) (cs : List A) (x : List ℕ) →
    ((k : ℕ) → IsRow (map spelling cs) k x → ⊥) → find (λ c. bytes_eq (spelling c) x) cs ≡ None
find-no_row s [] x none = refl
find-no_row s (c ∷ cs) x none =
    rw (bytes_eq-false (s c) x (λ same. none 0 (ap Some (sym same)))) (find-no_row s cs x (λ k is. none (suc k) is))

distinct-tail : (row : List ℕ) (rows : List (List ℕ)) → IsDistinct (row ∷ rows) → IsDistinct rows
distinct-tail row rows distinct i j text at_i at_j = suc-same i j (distinct (suc i) (suc j) text at_i at_j)
  where
    suc-same : (m n : ℕ) → suc m ≡ suc n → m ≡ n
    suc-same m n e = omega arith

-- a row is found as what stands beside it
pub find-row : {A : Type 0} (spelling : A → List ℕ) (cs : List A) (k : ℕ) (c : A) (x : List ℕ) →
    IsDistinct (map spelling cs) → slice_get cs k ≡ Some c → IsRow (map spelling cs) k x →
    find (λ c. bytes_eq (spelling c) x) cs ≡ Some c
find-row s [] k c x distinct at row = absurd cc
find-row s (d ∷ ds) zero c x distinct at row =
    let same : d ≡ c = cc in
    let spelt : s d ≡ x = cc in
    rw (bytes_eq-true (s d) x (sym spelt)) (ap Some same)
find-row s (d ∷ ds) (suc k) c x distinct at row =
    rw (bytes_eq-false (s d) x (λ same. other (distinct 0 (suc k) x (ap Some (sym same)) row)))
    (find-row s ds k c x (distinct-tail (s d) (map s ds) distinct) at row)
  where
    other : 0 ≡ suc k → ⊥
    other e = omega arith

some-same : {A : Type 0} (a b : A) → Some a ≡ Some b → a ≡ b
some-same a b e = cc

-- what is found has the text as its name
pub find-spelt : {A : Type 0} (spelling : A → List ℕ) (cs : List A) (x : List ℕ) (c : A) →
    find (λ c. bytes_eq (spelling c) x) cs ≡ Some c → x ≡ spelling c
find-spelt s [] x c h = absurd cc
find-spelt s (d ∷ ds) x c h = step (bytes_eq (s d) x) refl h (find-spelt s ds x c)
  where
    step : (t : Bool) → bytes_eq (s d) x ≡ t → cond t (Some d) (find (λ c. bytes_eq (s c) x) ds) ≡ Some c →
        (find (λ c. bytes_eq (s c) x) ds ≡ Some c → x ≡ s c) → x ≡ s c
    step true e is rest = bytes_eq-same (s d) x e ∙ ap s (some-same d c is)
    step false e is rest = rest is

-- the row of what stands at it
pub row_of-case : {A : Type 0} (spelling : A → List ℕ) (cs : List A) (k : ℕ) (c : A) (x : List ℕ) →
    slice_get cs k ≡ Some c → IsRow (map spelling cs) k x → x ≡ spelling c
row_of-case s [] k c x at row = absurd cc
row_of-case s (d ∷ ds) zero c x at row =
    let same : d ≡ c = cc in
    let spelt : s d ≡ x = cc in
    sym spelt ∙ ap s same
row_of-case s (d ∷ ds) (suc k) c x at row = row_of-case s ds k c x at row
