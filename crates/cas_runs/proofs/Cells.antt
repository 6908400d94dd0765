-- The cells of blocks.
use Rattle.std.proofs.Common.{◌≡◌, ℕ, zero, suc, ◌+◌, ◌<◌, ◌≤◌, List, [], ◌∷◌, ◌⊎◌, Option, Some, None, length, slice_get, slice_set, inl, inr, refl, sym, ap, ◌∙◌, subst, ⊎_elim, arith}
use Rattle.cas_runs.specs.Naming.{Value, cells, content, contents, refilled, overwritten, written, filled}
use Rattle.cas_runs.specs.Calls.{so_many}

pub set_same : {X : Type 0} (xs : List X) (i : ℕ) (x : X) → i < length xs → slice_get (slice_set xs i x) i ≡ Some x
set_same [] i x h = absurd (omega (arith, h))
set_same (y ∷ xs) zero x h = refl
set_same (y ∷ xs) (suc i) x h = set_same xs i x (omega (arith, h))

pub set_other : {X : Type 0} (xs : List X) (i j : ℕ) (x : X) → (i ≡ j → ⊥) →
    slice_get (slice_set xs i x) j ≡ slice_get xs j
set_other [] i j x h = refl
set_other (y ∷ xs) zero zero x h = absurd (h refl)
set_other (y ∷ xs) zero (suc j) x h = refl
set_other (y ∷ xs) (suc i) zero x h = refl
set_other (y ∷ xs) (suc i) (suc j) x h = set_other xs i j x (λ e. h (ap suc e))

pub set_length : {X : Type 0} (xs : List X) (i : ℕ) (x : X) → length (slice_set xs i x) ≡ length xs
set_length [] i x = refl
set_length (y ∷ xs) zero x = refl
set_length (y ∷ xs) (suc i) x = ap suc (set_length xs i x)

-- an index is inside
pub get_inside : {X : Type 0} (xs : List X) (i : ℕ) → i < length xs → (x : X) × (slice_get xs i ≡ Some x)
get_inside [] i h = absurd (omega (arith, h))
get_inside (x ∷ xs) zero h = (x, refl)
get_inside (x ∷ xs) (suc i) h = get_inside xs i (omega (arith, h))

pub so_many_length : (word : Value) (n : ℕ) → length (so_many word n) ≡ n
so_many_length word zero = refl
so_many_length word (suc n) = ap suc (so_many_length word n)

pub so_many_get : (word : Value) (n i : ℕ) → i < n → slice_get (so_many word n) i ≡ Some word
so_many_get word zero i h = absurd (omega (arith, h))
so_many_get word (suc n) zero h = refl
so_many_get word (suc n) (suc i) h = so_many_get word n i (omega (arith, h))

-- What is written.

abbrev pub cell_after : Option (Option ℕ) → Value → Value
cell_after None v = v
cell_after (Some w) v = refilled w v

pub overwritten_length : (vs : List Value) (n : ℕ) (ws : List (Option ℕ)) → length (overwritten vs n ws) ≡ length vs
overwritten_length [] n ws = refl
overwritten_length (v ∷ vs) zero ws = refl
overwritten_length (v ∷ vs) (suc n) [] = refl
overwritten_length (v ∷ vs) (suc n) (w ∷ ws) = ap suc (overwritten_length vs n ws)

overwritten_in : (vs : List Value) (n : ℕ) (ws : List (Option ℕ)) (i : ℕ) (v : Value) → i < n →
    slice_get vs i ≡ Some v → slice_get (overwritten vs n ws) i ≡ Some (cell_after (slice_get ws i) v)
overwritten_in [] n ws i v h e = absurd (cc e)
overwritten_in (x ∷ vs) zero ws i v h e = absurd (omega (arith, h))
overwritten_in (x ∷ vs) (suc n) [] i v h e = e
overwritten_in (x ∷ vs) (suc n) (w ∷ ws) zero v h e = let same : x ≡ v = cc e in ap (λ u. Some (refilled w u)) same
overwritten_in (x ∷ vs) (suc n) (w ∷ ws) (suc i) v h e = overwritten_in vs n ws i v (omega (arith, h)) e

overwritten_out : (vs : List Value) (n : ℕ) (ws : List (Option ℕ)) (i : ℕ) → n ≤ i →
    slice_get (overwritten vs n ws) i ≡ slice_get vs i
overwritten_out [] n ws i h = refl
overwritten_out (x ∷ vs) zero ws i h = refl
overwritten_out (x ∷ vs) (suc n) [] i h = refl
overwritten_out (x ∷ vs) (suc n) (w ∷ ws) zero h = absurd (omega (arith, h))
overwritten_out (x ∷ vs) (suc n) (w ∷ ws) (suc i) h = overwritten_out vs n ws i (omega (arith, h))

pub written_length : (vs : List Value) (from n : ℕ) (ws : List (Option ℕ)) → length (written vs from n ws) ≡ length vs
written_length vs zero n ws = overwritten_length vs n ws
written_length [] (suc from) n ws = refl
written_length (v ∷ vs) (suc from) n ws = ap suc (written_length vs from n ws)

pub written_in : (vs : List Value) (from n : ℕ) (ws : List (Option ℕ)) (j i : ℕ) (v : Value) → j ≡ from + i → i < n →
    slice_get vs j ≡ Some v → slice_get (written vs from n ws) j ≡ Some (cell_after (slice_get ws i) v)
written_in vs zero n ws j i v e h g =
    let same : j ≡ i = omega (arith, e) in
    subst (λ k. slice_get (overwritten vs n ws) k ≡ Some (cell_after (slice_get ws i) v)) (sym same)
    (overwritten_in vs n ws i v h (subst (λ k. slice_get vs k ≡ Some v) same g))
written_in [] (suc from) n ws j i v e h g = absurd (cc g)
written_in (x ∷ vs) (suc from) n ws zero i v e h g = absurd (omega (arith, e))
written_in (x ∷ vs) (suc from) n ws (suc j) i v e h g = written_in vs from n ws j i v (omega (arith, e)) h g

pub written_out : (vs : List Value) (from n : ℕ) (ws : List (Option ℕ)) (j : ℕ) → (j < from) ⊎ (from + n ≤ j) →
    slice_get (written vs from n ws) j ≡ slice_get vs j
written_out vs zero n ws j h = overwritten_out vs n ws j
    (⊎_elim (λ u. absurd (omega (arith, u))) (λ u. omega (arith, u)) h)
written_out [] (suc from) n ws j h = refl
written_out (x ∷ vs) (suc from) n ws zero h = refl
written_out (x ∷ vs) (suc from) n ws (suc j) h = written_out vs from n ws j
    (⊎_elim (λ u. inl (omega (arith, u))) (λ u. inr (omega (arith, u))) h)

pub filled_length : (n : ℕ) (ws : List (Option ℕ)) → length (filled n ws) ≡ n
filled_length zero ws = refl
filled_length (suc n) [] = ap suc (filled_length n [])
filled_length (suc n) (w ∷ ws) = ap suc (filled_length n ws)

-- What is shown of a part.

cells_none : (vs : List Value) (i : ℕ) → cells vs i zero ≡ []
cells_none [] i = refl
cells_none (v ∷ vs) zero = refl
cells_none (v ∷ vs) (suc i) = refl

cells_past : (v : Value) (vs : List Value) (i n : ℕ) → cells (v ∷ vs) (suc i) n ≡ cells vs i n
cells_past v vs i zero = sym (cells_none vs i)
cells_past v vs i (suc n) = refl

cells_step : (vs : List Value) (i n : ℕ) (v : Value) → slice_get vs i ≡ Some v →
    cells vs i (suc n) ≡ v ∷ cells vs (suc i) n
cells_step [] i n v e = absurd (cc e)
cells_step (x ∷ vs) zero n v e = let same : x ≡ v = cc e in ap (λ u. u ∷ cells vs zero n) same
    ∙ ap (λ us. v ∷ us) (sym (cells_past x vs zero n))
cells_step (x ∷ vs) (suc i) n v e = cells_step vs i n v e ∙ ap (λ us. v ∷ us) (sym (cells_past x vs (suc i) n))

-- two stretches whose words have the same contents
pub same_contents_of : (n : ℕ) (vs ws : List Value) (i j : ℕ) → j + n ≤ length ws →
    ((k : ℕ) (w : Value) → k < n → slice_get ws (j + k) ≡ Some w → (v : Value) × (slice_get vs (i + k) ≡ Some v)
    × (content v ≡ content w)) → contents (cells vs i n) ≡ contents (cells ws j n)
same_contents_of zero vs ws i j le h = ap contents (cells_none vs i ∙ sym (cells_none ws j))
same_contents_of (suc n) vs ws i j le h =
    let w = get_inside ws j (omega (arith, le)) in
    let zero_j : j + 0 ≡ j = omega arith in
    let zero_i : i + 0 ≡ i = omega arith in
    let first = h 0 w.0 (omega arith) (subst (λ k. slice_get ws k ≡ Some w.0) (sym zero_j) w.1) in
    let there : slice_get vs i ≡ Some first.0 = subst (λ k. slice_get vs k ≡ Some first.0) zero_i first.1 in
    let rest : contents (cells vs (suc i) n) ≡ contents (cells ws (suc j) n) =
    same_contents_of n vs ws (suc i) (suc j) (omega (arith, le)) (λ k x less e.
    let one_j : suc j + k ≡ j + suc k = omega arith in
    let one_i : i + suc k ≡ suc i + k = omega arith in
    let later = h (suc k) x (omega (arith, less)) (subst (λ m. slice_get ws m ≡ Some x) one_j e) in
    (later.0, subst (λ m. slice_get vs m ≡ Some later.0) one_i later.1, later.2)) in
    ap contents (cells_step vs i n first.0 there) ∙ ap (λ c. c ∷ contents (cells vs (suc i) n)) first.2
    ∙ ap (λ cs. content w.0 ∷ cs) rest ∙ sym (ap contents (cells_step ws j n w.0 w.1))
