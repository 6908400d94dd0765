-- Choices one after another.
use Rattle.std.proofs.Common.{◌≡◌, ℕ, zero, suc, ◌-◌, ◌<◌, ◌≤◌, inl, inr, List, [], ◌∷◌, ◌++◌, length, replicate, Some, None, Result, Ok, Err, slice_get, refl, ap, subst, arith}
use Rattle.std.specs.Prelude.{MatchResult, OnErr, OnOk}
use Rattle.cas_tso.specs.Machine.{Machine}
use Rattle.cas_tso.specs.Refusal.{StepsAs, refused_choice, thread_of}
use Rattle.cas_tso.specs.State.{Setup, State, Thread}
use Rattle.cas_tso.specs.declared.refused.Choice.{Choice}
use Rattle.cas_tso.specs.declared.refused.Refused.{Refused}
use Rattle.cas_exec.specs.Schedule.{Chooses, Follows}
use Rattle.cas_exec.proofs.Refusing.{absent_barred, refused_barred}

there : {X : Type 0} (xs : List X) (i : ℕ) → i < length xs → (x : X) × (slice_get xs i ≡ Some x)
there [] i h = absurd (omega arith)
there (x ∷ xs) zero h = (x, refl)
there (x ∷ xs) (suc i) h = there xs i (omega arith)

absent : {X : Type 0} (xs : List X) (i : ℕ) → length xs ≤ i → slice_get xs i ≡ None
absent [] i h = refl
absent (x ∷ xs) zero h = absurd (omega arith)
absent (x ∷ xs) (suc i) h = absent xs i (omega arith)

-- a step that is tried, and taken or refused
pub tried : (choice : Choice) (s t : Machine) (r : Result (Unit {0}) Refused) →
    thread_of choice < length s.state.threads →
    ((c : Thread) → slice_get s.state.threads (thread_of choice) ≡ Some c →
    MatchResult r (λ _. refused_choice s.setup.image c choice ≡ None)
    (λ why. refused_choice s.setup.image c choice ≡ Some why)) →
    OnOk r (StepsAs s.setup s.state choice t.state) → OnErr r (t ≡ s) → Chooses s.setup choice s.state t.state
tried choice s t (Ok done) lt answer steps still = inl steps
tried choice s t (Err why) lt answer steps still =
    let c = there s.state.threads (thread_of choice) lt in
    inr (refused_barred s.setup s.state choice c.0 why c.1 (answer c.0 c.1), ap (λ (m : Machine). m.state) still)

-- a choice of a thread that isn't there
pub idle : (p : Setup) (choice : Choice) (s : State) → length s.threads ≤ thread_of choice → Chooses p choice s s
idle p choice s h = inr (absent_barred p s choice (absent s.threads (thread_of choice) h), refl)

pub both : (p : Setup) (first more : List Choice) (s u t : State) → Follows p first s u → Follows p more u t →
    Follows p (first ++ more) s t
both p [] more s u t h k = subst (λ (v : State). Follows p more v t) h k
both p (c ∷ first) more s u t (v, h, hs) k = (v, h, both p first more v u t hs k)

-- a choice first, and then as many as are left
pub one_less : (p : Setup) (choice : Choice) (n : ℕ) (s u t : State) → 0 < n → Chooses p choice s u →
    Follows p (replicate (n - 1) choice) u t → Follows p (replicate n choice) s t
one_less p choice zero s u t lt h k = absurd (omega arith)
one_less p choice (suc n) s u t lt h k =
    let is : suc n - 1 ≡ n = omega arith in
    (u, h, subst (λ (m : ℕ). Follows p (replicate m choice) u t) is k)
