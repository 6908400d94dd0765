-- By the order of the list: a Lock brings what the last Unlock gave back, or the first words.
use Rattle.std.proofs.Common.{◌≡◌, ℕ, ◌<◌, nat_eq, Bool, true, false, List, [], ◌∷◌, Some, None, if◌then◌else◌, sym, refl, subst, inl, inr}
use Rattle.cas_runs.specs.Label.{Each, RunLabel, Lock, Unlock, Out, Done, Enter, Back, Call, Leave}
use Rattle.cas_runs.specs.Edge.{Cell, LockWord, SharedWord, TableWord, Edge, AreOfKinds, guarded, and_kind}
use Rattle.cas_runs.specs.Machine.{Act, Quiet, Emits, Crosses, Locks, Receives, Bad, Stops, Machine, Block, StepsTo, Run, starts, quiet, labelled}
use Rattle.cas_runs.specs.Legal.{ThreadLabel, LockState, Free, IsHeld, initial_words, after_label, state_of, IsLegalNext, IsLegal, projection}
use Rattle.cas_runs.specs.Refines.{Reached}
use Rattle.cas_runs.specs.Unit.{IsInKind}
use Rattle.cas_atomic.specs.AnyRun.{StepsAny, AnyRun, any_starts, any_quiet, any_labelled}
use Rattle.cas_atomic.specs.Kinds.{BringsInKind, GivesInKind, GivesBack, KindsFollow}
use Rattle.cas_atomic.proofs.Basic.{same_or_not, if_same, if_not}

first_in_kind : (cells : List Cell) (lock : ℕ) → Each IsInKind cells →
    AreOfKinds (initial_words cells lock) (guarded lock cells)
first_in_kind [] lock h = tt
first_in_kind (LockWord ∷ cs) lock h = first_in_kind cs lock h.1
first_in_kind (TableWord v ∷ cs) lock h = first_in_kind cs lock h.1
first_in_kind (SharedWord kind None initial ∷ cs) lock h = first_in_kind cs lock h.1
first_in_kind (SharedWord kind (Some guard) initial ∷ cs) lock h = by (nat_eq guard lock) (first_in_kind cs lock h.1)
  where
    by : (t : Bool) → AreOfKinds (initial_words cs lock) (guarded lock cs) →
        AreOfKinds (if t then initial ∷ initial_words cs lock else initial_words cs lock)
        (and_kind (if t then Some kind else None) (guarded lock cs))
    by true m = (h.0, m)
    by false m = m

module _ {S : Type 0} (edge : Edge) (m : Machine S) where
  steps_to : (before : List RunLabel) (a : Act S) (l : RunLabel) (y : S) → BringsInKind edge l →
      StepsAny edge before a l y → StepsTo edge before a l y
  steps_to before (Locks lock next) l y brings (ws, is, under, to) = (
    ws,
    is,
    record { is_lock = under.is_lock; kinds = subst (λ (k : RunLabel). BringsInKind edge k) is brings },
    to,
  )
  steps_to before (Quiet next) l y brings h = h
  steps_to before (Emits event next) l y brings h = h
  steps_to before (Crosses f share next) l y brings h = h
  steps_to before (Receives next) l y brings h = h
  steps_to before Bad l y brings h = h
  steps_to before (Stops why) l y brings h = h

  -- with words in kind it is a run
  pub run_of : {ls : List RunLabel} {bs : List Block} {b : Block} {x : S} → AnyRun edge m ls bs b x →
      Each (BringsInKind edge) ls → Run edge m ls bs b x
  run_of any_starts h = starts
  run_of (any_quiet y r e) h = quiet y (run_of r h) e
  run_of (any_labelled {ls = ls} {x = x} l y r e) h =
      labelled l y (run_of r h.1) (steps_to ls (m.act x) l y h.0 e)

  -- a run with these labels
  pub record Before (ls : List RunLabel) : Type 0 where
    pub to : Reached S
    pub run : AnyRun edge m ls to.blocks to.block to.at

  pub back : (l : RunLabel) (ls ms : List RunLabel) (bs : List Block) (b : Block) (x : S) → AnyRun edge m ms bs b x →
      ms ≡ l ∷ ls → Before ls
  back l ls _ _ _ _ any_starts e = absurd (cc e)
  back l ls ms bs _ _ (any_quiet {b = b} {x = x} y r q) e = back l ls ms bs b x r e
  back l ls _ _ _ _ (any_labelled {ls = ks} {bs = bs} {b = b} {x = x} k y r q) e =
      let same : ks ≡ ls = cc e in
      subst (λ (j : List RunLabel). Before j) same
      (record { to = record { blocks = bs; block = b; at = x }; run = r })

module _ {S : Type 0} (edge : Edge) (n : ℕ) (t : ℕ → Machine S) (first : Each IsInKind edge.cells)
    (gives : (i : ℕ) → i < n → GivesBack edge (t i)) where
  -- each Lock and each Unlock is in kind
  abbrev InKind : ThreadLabel → Type 0
  InKind l = BringsInKind edge l.label × GivesInKind edge l.label

  abbrev StateIn : ℕ → LockState → Type 0
  StateIn l (Free ws) = AreOfKinds ws (guarded l edge.cells)
  StateIn l IsHeld = Unit {0}

  state_in : (l : ℕ) (ls : List ThreadLabel) → Each InKind ls → StateIn l (state_of edge.cells l ls)
  state_in l [] h = first_in_kind edge.cells l first
  state_in l (k ∷ ls) h = by k.label h.0.1 (state_in l ls h.1)
    where
      by : (m : RunLabel) → GivesInKind edge m → StateIn l (state_of edge.cells l ls) →
          StateIn l (after_label l m (state_of edge.cells l ls))
      by (Out w) g s = s
      by Done g s = s
      by (Enter f c) g s = s
      by (Back c) g s = s
      by (Call f c) g s = s
      by (Leave c) g s = s
      by (Lock j ws) g s = elim (same_or_not j l) [
        | inl e ↦ subst (λ (x : LockState). StateIn l x) (sym (if_same j l IsHeld (state_of edge.cells l ls) e)) tt
        | inr d ↦ subst (λ (x : LockState). StateIn l x) (sym (if_not j l IsHeld (state_of edge.cells l ls) d)) s
      ]
      by (Unlock j ws) g s = elim (same_or_not j l) [
        | inl e ↦ subst (λ (x : LockState). StateIn l x) (sym (if_same j l (Free ws) (state_of edge.cells l ls) e))
            (subst (λ (i : ℕ). AreOfKinds ws (guarded i edge.cells)) e g)
        | inr d ↦ subst (λ (x : LockState). StateIn l x) (sym (if_not j l (Free ws) (state_of edge.cells l ls) d)) s
      ]

  -- the labels of one thread are in kind
  bring_own : (i : ℕ) (ls : List ThreadLabel) → Each InKind ls → Each (BringsInKind edge) (projection i ls)
  bring_own i [] h = tt
  bring_own i (l ∷ ls) h = elim (same_or_not l.thread i) [
    | inl e ↦ subst (λ (m : List RunLabel). Each (BringsInKind edge) m)
        (sym (if_same l.thread i (l.label ∷ projection i ls) (projection i ls) e)) (h.0.0, bring_own i ls h.1)
    | inr d ↦ subst (λ (m : List RunLabel). Each (BringsInKind edge) m)
        (sym (if_not l.thread i (l.label ∷ projection i ls) (projection i ls) d)) (bring_own i ls h.1)
  ]

  brought : (ls : List ThreadLabel) (m : RunLabel) → Each InKind ls → IsLegalNext edge.cells ls m →
      BringsInKind edge m
  brought ls (Lock j ws) h e = subst (λ (x : LockState). StateIn j x) e (state_in j ls h)
  brought ls (Unlock j ws) h e = tt
  brought ls (Out w) h e = tt
  brought ls Done h e = tt
  brought ls (Enter f c) h e = tt
  brought ls (Back c) h e = tt
  brought ls (Call f c) h e = tt
  brought ls (Leave c) h e = tt

  follow : (ls : List ThreadLabel) → ((i : ℕ) → i < n → Before edge (t i) (projection i ls)) →
      IsLegal edge.cells n ls → Each InKind ls
  follow [] runs legal = tt
  follow (l ∷ ls) runs legal =
      let older : (i : ℕ) → i < n → Before edge (t i) (projection i ls) = λ i less. elim (same_or_not l.thread i) [
        | inl e ↦ back edge (t i) l.label (projection i ls) (projection i (l ∷ ls)) (runs i less).to.blocks
            (runs i less).to.block (runs i less).to.at (runs i less).run
            (if_same l.thread i (l.label ∷ projection i ls) (projection i ls) e)
        | inr d ↦ subst (λ (m : List RunLabel). Before edge (t i) m)
            (if_not l.thread i (l.label ∷ projection i ls) (projection i ls) d) (runs i less)
      ] in
      let h = follow ls older legal.2 in
      let brings = brought ls l.label h legal.1 in
      let own = if_same l.thread l.thread (l.label ∷ projection l.thread ls) (projection l.thread ls) refl in
      let mine = subst (λ (m : List RunLabel). Before edge (t l.thread) m) own (runs l.thread legal.0) in
      let run = run_of edge (t l.thread) mine.run (brings, bring_own l.thread ls h) in
      let given = gives l.thread legal.0 (l.label ∷ projection l.thread ls) mine.to.blocks mine.to.block mine.to.at run
      in ((brings, given.0), h)

pub kinds_follow : {S : Type 0} (edge : Edge) (n : ℕ) (t : ℕ → Machine S) → KindsFollow edge n t
kinds_follow edge n t first gives ls to h i below =
    run_of edge (t i) (h.runs i below) (bring_own edge n t first gives i ls
    (follow edge n t first gives ls (λ j less. record { to = to j; run = h.runs j less }) h.legal))
