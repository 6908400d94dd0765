-- Where a program begins: its words are the edge's, and no lock has a holder.
use Rattle.std.proofs.Common.{◌≡◌, ℕ, zero, suc, ◌+◌, ◌<◌, nat_eq, Bool, true, false, List, [], ◌∷◌, ◌⊎◌, Some, None, length, slice_get, slice_set, if◌then◌else◌, inl, inr, refl, sym, ap, ◌∙◌, subst, arith}
use Rattle.std.specs.Prelude.{replicate}
use Rattle.cas_base.specs.declared.kind.Kind.{Kind}
use Rattle.cas_step.specs.Asks.{word}
use Rattle.cas_step.specs.Env.{Env, FunctionAt}
use Rattle.cas_step.specs.Step.{start}
use Rattle.cas_world.specs.World.{started}
use Rattle.cas_runs.specs.Edge.{Cell, LockWord, SharedWord, TableWord}
use Rattle.cas_runs.specs.Legal.{initial_words, value_if_guarded}
use Rattle.cas_runs.specs.Access.{is_guarded_by, place_among}
use Rattle.cas_runs.proofs.Cells.{set_same, set_other, set_length}
use Rattle.cas_atomic.proofs.Basic.{same_or_not, if_same}
use Rattle.cas_bridge.specs.Threads.{AreWordsOf}
use Rattle.cas_interleave.specs.Agreeing.{AreFirst}

-- an element is within the list
pub in_range : {X : Type 0} (xs : List X) (i : ℕ) (x : X) → slice_get xs i ≡ Some x → i < length xs
in_range [] i x e = absurd (cc e)
in_range (y ∷ xs) zero x e = omega arith
in_range (y ∷ xs) (suc i) x e = let h = in_range xs i x e in omega (arith, h)

pub replicated : {X : Type 0} (n i : ℕ) (x y : X) → slice_get (replicate n x) i ≡ Some y → y ≡ x
replicated zero i x y e = absurd (cc e)
replicated (suc n) zero x y e = cc e
replicated (suc n) (suc i) x y e = replicated n i x y e

-- what is at an index is what was put there, or the index is another one
pub set_tells : {X : Type 0} (xs : List X) (i j : ℕ) (x y : X) → slice_get (slice_set xs i x) j ≡ Some y →
    ((i ≡ j) × (y ≡ x)) ⊎ ((i ≡ j → ⊥) × (slice_get xs j ≡ Some y))
set_tells xs i j x y e = elim (same_or_not i j) [
  | inl q ↦ inl (q, here q)
  | inr d ↦ inr (d, sym (set_other xs i j x d) ∙ e)
]
  where
    here : i ≡ j → y ≡ x
    here q =
        let at : slice_get (slice_set xs i x) i ≡ Some y =
        subst (λ k. slice_get (slice_set xs i x) k ≡ Some y) (sym q) e in
        let within = in_range (slice_set xs i x) i y at in
        let size = set_length xs i x in
        let put = set_same xs i x (omega (arith, within, size)) in
        cc (at, put)

-- each thread begins with its function, on its number
pub started_at : (e : Env) (fs : List FunctionAt) (from i : ℕ) (f : FunctionAt) → slice_get fs i ≡ Some f →
    slice_get (started e from fs) i ≡ Some (start e f (word (from + i) ∷ []))
started_at e [] from i f h = absurd (cc h)
started_at e (g ∷ fs) from zero f h =
    let same : g ≡ f = cc h in
    let here : from ≡ from + 0 = omega arith in
    ap (λ v. Some (start e v (word from ∷ []))) same ∙ ap (λ k. Some (start e f (word k ∷ []))) here
started_at e (g ∷ fs) from (suc i) f h =
    let same : from + 1 + i ≡ from + suc i = omega arith in
    started_at e fs (from + 1) i f h ∙ ap (λ k. Some (start e f (word k ∷ []))) same

abbrev At : ℕ → List ℕ → ℕ → Type 0
At initial ws k = slice_get ws k ≡ Some initial

-- the first word of a lock is at its place among the lock's
initial_at : (cells : List Cell) (lock n initial : ℕ) (kind : Kind) →
    slice_get cells n ≡ Some (SharedWord kind (Some lock) initial) →
    slice_get (initial_words cells lock) (place_among cells lock n) ≡ Some initial
initial_at [] lock n initial kind e = absurd (cc e)
initial_at (c ∷ cs) lock zero initial kind e =
    let same : c ≡ SharedWord kind (Some lock) initial = cc e in
    subst (λ (v : Cell). slice_get (value_if_guarded lock v (initial_words cs lock)) 0 ≡ Some initial) (sym same)
    (ap (λ (v : List ℕ). slice_get v 0)
    (if_same lock lock (initial ∷ initial_words cs lock) (initial_words cs lock) refl))
initial_at (c ∷ cs) lock (suc n) initial kind e = by c (initial_at cs lock n initial kind e)
  where
    guarded : (g : ℕ) (k : Kind) (v : ℕ) (t : Bool) → At initial (initial_words cs lock) (place_among cs lock n) →
        At initial (if t then v ∷ initial_words cs lock else initial_words cs lock)
        (if t then place_among cs lock n + 1 else place_among cs lock n)
    guarded g k v true h = subst (λ m. At initial (v ∷ initial_words cs lock) m)
        (let more : suc (place_among cs lock n) ≡ place_among cs lock n + 1 = omega arith in more) h
    guarded g k v false h = h

    by : (c : Cell) → At initial (initial_words cs lock) (place_among cs lock n) →
        At initial (value_if_guarded lock c (initial_words cs lock))
        (if is_guarded_by lock c then place_among cs lock n + 1 else place_among cs lock n)
    by LockWord h = h
    by (TableWord v) h = h
    by (SharedWord k None v) h = h
    by (SharedWord k (Some g) v) h = guarded g k v (nat_eq g lock) h

pub first_words : (cells : List Cell) (words : List ℕ) → AreFirst cells words → (lock : ℕ) →
    AreWordsOf cells lock (initial_words cells lock) words
first_words cells words are lock n initial kind c =
    initial_at cells lock n initial kind c ∙ sym (are.shared_ones n initial kind (Some lock) c)
