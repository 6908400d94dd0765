-- What a thread of the code stands at, from its next step.
use Rattle.std.proofs.Common.{◌≡◌, ◌≢◌, ◌↔◌, ℕ, Bool, true, false, IsTrue, List, [], ◌∷◌, Option, Some, None, slice_get, inl, inr, refl, sym, ap, subst, ◌∙◌}
use Rattle.std.specs.Bool.{OnFalse, OnTrue}
use Rattle.std.specs.Prelude.{not}
use Rattle.std.proofs.Math.Logic.{∥∥₁_elim, ∥∥₁_map, ∥∥₁_prop}
use mathlib.Core.HLevel.{⊥_prop}
use Rattle.cas_base.specs.declared.act.Act.{Act}
use Rattle.cas_base.specs.declared.act.Act.TheVariants as act
use Rattle.cas_base.specs.declared.act.Why.{Why}
use Rattle.cas_program.specs.Program.{env_of}
use Rattle.cas_step.specs.Step as step
use Rattle.cas_step.specs.Step.{Activation, Step, step_of}
use Rattle.cas_thread.specs.Effects.{FirstStatementIs, IsCall}
use Rattle.cas_thread.specs.Thread.{IsUnfinished, IsThread, CanStep, lock_of}
use Rattle.cas_thread.specs.declared.config.Config.{Config}
use Rattle.cas_base.specs.declared.place.Place.{Place}
use Rattle.cas_turn.specs.Answers.{Answers, BeginsCall, IsRunning, MayWantMemory, free_shown, state_shown}
use Rattle.cas_turn.specs.declared.answer.WorldAnswer.{WorldAnswer}
use Rattle.cas_turn.specs.declared.answer.WorldAnswer.TheVariants as answer
use Rattle.cas_turn.specs.Standing.{ForThread, IsThere, MayTurn, holder_in, state_in}
use Rattle.cas_typed.specs.Resolved.{TypedModuleTree}
use Rattle.cas_whole.specs.declared.program.Program.{Program}
use Rattle.cas_world.specs.Turns.{State, running, waits, bad, at_lock, at_step, at_next}

-- a thread that hasn't ended continues

newest_of : (activations : List Activation) → activations ≢ [] → (a : Activation) × (older : List Activation)
    × (activations ≡ a ∷ older)
newest_of [] goes_on = absurd (goes_on refl)
newest_of (a ∷ older) goes_on = (a, older, refl)

module _ (p : Program) (k : Config) where
  -- it is told that the thread hasn't ended
  pub told_to_go_on : (b : Bool) → ((program : Program) (c : step.Config) → IsThread program k c →
      IsTrue b ↔ (c.activations ≡ [])) → b ≡ false →
      ForThread p k (λ ms c. c.activations ≢ [])
  told_to_go_on b told is = λ ms names c program thread none. let both : IsTrue b = (told p c thread).1 none in cc

  module _ (ws : List ℕ) (hs : List (Option ℕ)) (there : ∥ IsThere p k ∥₁)
      (may : ForThread p k (λ ms c. ∥ MayTurn ws hs ms c ∥₁)) (goes_on : ForThread p k (λ ms c. c.activations ≢ []))
    where
      pub stands : ∥ CanStep p k ws ∥₁
      stands = ∥∥₁_elim there ∥∥₁_prop (λ t. ∥∥₁_map (may t.modules t.names t.config t.program t.thread) (λ m.
          let (a, older, is) = newest_of t.config.activations (goes_on t.modules t.names t.config t.program t.thread) in
          record {
            modules = t.modules;
            names = t.names;
            c = t.config;
            newest = a;
            older = older;
            is_program = t.program;
            is_thread = t.thread;
            sound = m.sound;
            words = m.words_fit;
            going = is;
          }))

-- what stands goes
pub goes_from_stands : (p : Program) (k : Config) (ws : List ℕ) → ∥ CanStep p k ws ∥₁ → ∥ IsUnfinished p k ∥₁
goes_from_stands p k ws h = ∥∥₁_map h (λ s. record {
  modules = s.modules;
  names = s.names;
  c = s.c;
  newest = s.newest;
  older = s.older;
  is_program = s.is_program;
  is_thread = s.is_thread;
  going = s.going;
})

-- what it stands at, by its next step

some_unless : {A : Type 0} (o : Option A) → o ≢ None → (x : A) × (o ≡ Some x)
some_unless None there = absurd (there refl)
some_unless (Some x) there = (x, refl)

-- the next step of a thread that continues
pub next_step : (ws : List ℕ) (hs : List (Option ℕ)) (ms : List TypedModuleTree) (c : step.Config) →
    ∥ MayTurn ws hs ms c ∥₁ → c.activations ≢ [] →
    (s : Step) × (step.step (env_of ms) ws c ≡ Some s)
next_step ws hs ms c may goes_on = some_unless (step.step (env_of ms) ws c) (λ none. ∥∥₁_elim may ⊥_prop (λ m.
    let (a, older, is) = newest_of c.activations goes_on in
    let (s, steps) = m.steps a older is in
    cc (sym none ∙ steps)))

-- the lock that an act takes, and its holder

pub lock_taken : (a : Act) (l : ℕ) → lock_of a ≡ Some l → a ≡ act.Lock l
lock_taken (act.Lock k) l is = cc is
lock_taken (act.Bad why) l is = absurd (cc is)
lock_taken act.Quiet l is = absurd (cc is)
lock_taken (act.Unlock k) l is = absurd (cc is)
lock_taken (act.Out n) l is = absurd (cc is)
lock_taken act.Done l is = absurd (cc is)

pub holder_is : (o : Option (Option ℕ)) (i : ℕ) → holder_in o ≡ Some i → o ≡ Some (Some i)
holder_is None i is = absurd (cc is)
holder_is (Some holder) i is = ap Some is

-- a lock that is there and that no thread has
lock_is_free : (o : Option (Option ℕ)) → o ≢ None → holder_in o ≡ None → o ≡ Some None
lock_is_free None there free = absurd (there refl)
lock_is_free (Some None) there free = refl
lock_is_free (Some (Some i)) there free = absurd (cc free)

-- no lock that the act takes is held
abbrev pub IsFree : List (Option ℕ) → Act → Type 0
IsFree hs a = (l : ℕ) → a ≡ act.Lock l → slice_get hs l ≡ Some None

pub free_from : (ws : List ℕ) (hs : List (Option ℕ)) (ms : List TypedModuleTree) (c : step.Config) (s : Step) →
    ∥ MayTurn ws hs ms c ∥₁ → step.step (env_of ms) ws c ≡ Some s →
    ((l : ℕ) → s.act ≡ act.Lock l → holder_in (slice_get hs l) ≡ None) → IsFree hs s.act
free_from ws hs ms c s may is free l takes = lock_is_free (slice_get hs l) (λ none. ∥∥₁_elim may ⊥_prop (λ m.
    let (holder, there) = m.locks l s is takes in
    cc (sym none ∙ there))) (free l takes)

shown_free : (hs : List (Option ℕ)) (s : Step) (a : Act) → IsFree hs a → state_shown (at_step hs s a) ≡ free_shown s a
shown_free hs s (act.Lock l) free = ap (λ o. state_shown (at_lock s l o)) (free l refl)
shown_free hs s (act.Bad why) free = refl
shown_free hs s act.Quiet free = refl
shown_free hs s (act.Unlock l) free = refl
shown_free hs s (act.Out n) free = refl
shown_free hs s act.Done free = refl

runs : (hs : List (Option ℕ)) (s : Step) (a : Act) → IsFree hs a → ((why : Why) → a ≢ act.Bad why) →
    at_step hs s a ≡ running s
runs hs s (act.Lock l) free well = ap (at_lock s l) (free l refl)
runs hs s (act.Bad why) free well = absurd (well why refl)
runs hs s act.Quiet free well = refl
runs hs s (act.Unlock l) free well = refl
runs hs s (act.Out n) free well = refl
runs hs s act.Done free well = refl

module _ (ws : List ℕ) (hs : List (Option ℕ)) (ms : List TypedModuleTree) (c : step.Config) (s : Step)
    (is : step.step (env_of ms) ws c ≡ Some s) where
  at_its_step : state_in ws hs ms c ≡ at_step hs s s.act
  at_its_step = ap (at_next hs) is

  pub waits_there : (l holder : ℕ) → s.act ≡ act.Lock l → slice_get hs l ≡ Some (Some holder) →
      state_in ws hs ms c ≡ waits l holder
  waits_there l holder takes held = at_its_step ∙ ap (at_step hs s) takes ∙ ap (at_lock s l) held

  pub shown_there : IsFree hs s.act → state_shown (state_in ws hs ms c) ≡ free_shown s s.act
  shown_there free = ap state_shown at_its_step ∙ shown_free hs s s.act free

  pub bad_there : (why : Why) → s.act ≡ act.Bad why → state_in ws hs ms c ≡ bad why s.unit s.place
  bad_there why is_bad = at_its_step ∙ ap (at_step hs s) is_bad

  pub runs_there : IsFree hs s.act → ((why : Why) → s.act ≢ act.Bad why) → state_in ws hs ms c ≡ running s
  runs_there free well = at_its_step ∙ runs hs s s.act free well

-- of a thread that runs
pub is_running : (st : State) (s : Step) (P : Step → Type 0) → st ≡ running s → P s → IsRunning st P
is_running st s P is h = let Q : State → Type 0 = λ x. IsRunning x P in subst Q (sym is) h

-- what is told of a test, and of what it isn't

pub true_not : (b : Bool) {P Q : Type 0} → OnFalse b P → (P → Q) → OnTrue (not b) Q
true_not true h f = tt
true_not false h f = f h

pub false_not : (b : Bool) {P Q : Type 0} → OnTrue b P → (P → Q) → OnFalse (not b) Q
false_not true h f = f h
false_not false h f = tt

-- where memory is taken

pub begins_call : (activations : List Activation) → activations ≢ [] →
    ((a : Activation) (older : List Activation) → activations ≡ a ∷ older → FirstStatementIs IsCall a.cont) →
    BeginsCall activations
begins_call [] goes_on calls = absurd (goes_on refl)
begins_call (a ∷ older) goes_on calls = calls a older refl

takes_call : (hs : List (Option ℕ)) (s : Step) (a : Act) (activations : List Activation) → a ≡ act.Quiet →
    BeginsCall activations → MayWantMemory activations (at_step hs s a)
takes_call hs s a activations is begins = let P : State → Type 0 =
    MayWantMemory activations in subst P (sym (ap (at_step hs s) is)) (inl begins)

takes_out : (hs : List (Option ℕ)) (s : Step) (a : Act) (activations : List Activation) (n : ℕ) → s.act ≡ act.Out n →
    a ≡ act.Out n → MayWantMemory activations (at_step hs s a)
takes_out hs s a activations n out is = let P : State → Type 0 =
    MayWantMemory activations in subst P (sym (ap (at_step hs s) is)) (inr (n, out))

module _ (ws : List ℕ) (hs : List (Option ℕ)) (ms : List TypedModuleTree) (c : step.Config) (s : Step)
    (is : step.step (env_of ms) ws c ≡ Some s) where
  pub call_there : s.act ≡ act.Quiet → BeginsCall c.activations → MayWantMemory c.activations (state_in ws hs ms c)
  call_there quiet begins = let P : State → Type 0 = MayWantMemory c.activations in
      subst P (sym (at_its_step ws hs ms c s is)) (takes_call hs s s.act c.activations quiet begins)

  pub out_there : (n : ℕ) → s.act ≡ act.Out n → MayWantMemory c.activations (state_in ws hs ms c)
  out_there n out = let P : State → Type 0 = MayWantMemory c.activations in
      subst P (sym (at_its_step ws hs ms c s is)) (takes_out hs s s.act c.activations n out out)

-- what is answered of a Bad step
pub answers_bad : (activations : List Activation) (st : State) (a : WorldAnswer) (why : Why) (unit : ℕ) (place : Place)
    →
    a ≡ answer.Bad why unit place → st ≡ bad why unit place → Answers activations st a
answers_bad activations st a why unit place is h = let P : WorldAnswer → Type 0 =
    λ x. Answers activations st x in subst P (sym is) h
