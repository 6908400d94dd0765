-- What a free lock has is in kind: it is what a source's Unlock carried, or the initial values.
use Rattle.std.proofs.Common.{◌≡◌, ℕ, ◌<◌, nat_eq, true, false, Bool, List, [], ◌∷◌, Some, None, if◌then◌else◌, inl, inr, refl, sym, ap, ◌∙◌, subst}
use Rattle.cas_runs.specs.Label.{Each, RunLabel, Lock, Unlock, Out, Done, Enter, Back, Call, Leave}
use Rattle.cas_runs.specs.Edge.{Cell, LockWord, SharedWord, TableWord, Edge, AreOfKinds, guarded, and_kind}
use Rattle.cas_runs.specs.Machine.{Machine}
use Rattle.cas_runs.specs.Legal.{ThreadLabel, LockState, Free, IsHeld, initial_words, after_label, state_of, IsLegal, projection}
use Rattle.cas_runs.specs.Unit.{IsInKind}
use Rattle.cas_runs.specs.Rules.{KeepsKinds}
use Rattle.cas_runs.proofs.Refining.{before_label}
use Rattle.cas_together.specs.Threads.{HaveRuns, FreeInKind}
use Rattle.cas_atomic.proofs.Basic.{same_or_not, if_same, if_not}
use Rattle.cas_together.proofs.Cutting.{own_label, runs_before}

initial_in_kind : (cells : List Cell) (lock : ℕ) → Each IsInKind cells →
    AreOfKinds (initial_words cells lock) (guarded lock cells)
initial_in_kind [] lock h = tt
initial_in_kind (LockWord ∷ cs) lock h = initial_in_kind cs lock h.1
initial_in_kind (TableWord v ∷ cs) lock h = initial_in_kind cs lock h.1
initial_in_kind (SharedWord kind None initial ∷ cs) lock h = initial_in_kind cs lock h.1
initial_in_kind (SharedWord kind (Some guard) initial ∷ cs) lock h =
    by (nat_eq guard lock) (initial_in_kind cs lock h.1)
  where
    by : (t : Bool) → AreOfKinds (initial_words cs lock) (guarded lock cs) →
        AreOfKinds (if t then initial ∷ initial_words cs lock else initial_words cs lock)
        (and_kind (if t then Some kind else None) (guarded lock cs))
    by true m = (h.0, m)
    by false m = m

module _ {S : Type 0} (edge : Edge) (n : ℕ) (s : ℕ → Machine S) (keeps : (i : ℕ) → i < n →
    KeepsKinds edge (s i)) (first : Each IsInKind edge.cells) where
  abbrev StateIn : ℕ → LockState → Type 0
  StateIn lock (Free words) = AreOfKinds words (guarded lock edge.cells)
  StateIn lock IsHeld = Unit {0}

  after_in : (lock : ℕ) (l : ThreadLabel) (ls : List ThreadLabel) → l.thread < n → HaveRuns edge n s (l ∷ ls) →
      (k : RunLabel) → l.label ≡ k → (state : LockState) → StateIn lock state → StateIn lock (after_label lock k state)
  after_in lock l ls there runs (Out w) e state h = h
  after_in lock l ls there runs Done e state h = h
  after_in lock l ls there runs (Enter f c) e state h = h
  after_in lock l ls there runs (Back c) e state h = h
  after_in lock l ls there runs (Call f c) e state h = h
  after_in lock l ls there runs (Leave c) e state h = h
  after_in lock l ls there runs (Lock k ws) e state h = elim (same_or_not k lock) [
    | inl q ↦ subst (λ v. StateIn lock v) (sym (if_same k lock IsHeld state q)) tt
    | inr d ↦ subst (λ v. StateIn lock v) (sym (if_not k lock IsHeld state d)) h
  ]
  after_in lock l ls there runs (Unlock k ws) e state h = elim (same_or_not k lock) [
    | inl q ↦ subst (λ v. StateIn lock v) (sym (if_same k lock (Free ws) state q))
        (subst (λ j. AreOfKinds ws (guarded j edge.cells)) q given)
    | inr d ↦ subst (λ v. StateIn lock v) (sym (if_not k lock (Free ws) state d)) h
  ]
    where
      given : AreOfKinds ws (guarded k edge.cells)
      given =
          let own = own_label l.thread l ls refl ∙ ap (λ v. v ∷ projection l.thread ls) e in
          let b = before_label edge (s l.thread) (Unlock k ws) (projection l.thread ls) (runs l.thread there).run own in
          keeps l.thread there (projection l.thread ls) b.from.blocks b.from.block b.from.at b.run (Unlock k ws) b.to
          b.leads

  state_in : (lock : ℕ) (ls : List ThreadLabel) → IsLegal edge.cells n ls → HaveRuns edge n s ls →
      StateIn lock (state_of edge.cells lock ls)
  state_in lock [] legal runs = initial_in_kind edge.cells lock first
  state_in lock (l ∷ ls) legal runs = after_in lock l ls legal.0 runs l.label refl (state_of edge.cells lock ls)
      (state_in lock ls legal.2 (runs_before edge n s (l ∷ []) ls runs))

  pub free_in_kind : FreeInKind edge n s
  free_in_kind = λ ls legal runs lock words e. subst (λ v. StateIn lock v) e (state_in lock ls legal runs)
