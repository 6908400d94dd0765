-- In each world that is reached words fit, threads are sound, and each word has a place among the holders.
use Rattle.std.proofs.Common.{arith, ◌≡◌, ℕ, zero, suc, ◌+◌, ◌≤◌, ◌^◌, List, [], ◌∷◌, replicate, length, Option, Some, None, refl, sym, ap, subst, ◌∙◌}
use Rattle.std.specs.Prelude.{◌↔◌, slice_get, slice_set}
use Rattle.cas_base.specs.declared.act.Act.{Act}
use Rattle.cas_base.specs.declared.act.Act.TheVariants as act
use Rattle.cas_base.specs.declared.decl.Form.TheVariants.{Lock}
use Rattle.cas_base.specs.declared.kind.Kind.{Kind}
use Rattle.cas_own.proofs.Sets.{same_or_not}
use Rattle.cas_program.proofs.Meanings.{unmapped}
use Rattle.cas_program.specs.Laws.{EnvironmentsAreWellFormed, EntriesAreEntered, InitialStoreIsWellTyped, LocksAreDeclared}
use Rattle.cas_program.specs.Program.{IsProgram, env_of, entries_of, initial_words}
use Rattle.cas_step.specs.Answered.{Got, got, bad, got_stuck, value_at, answered}
use Rattle.cas_step.specs.Asks.{Value, word}
use Rattle.cas_step.specs.Env.{FunctionAt, Entity, function, outside, shared, table, lock, Env}
use Rattle.cas_step.specs.Well_formed.{IsWellFormed, StandsFor, AreEntries, AreWellTypedWords, IsWellTypedStore, IsReachable, at_start}
use Rattle.cas_step.specs.Continuation.{ContItem, Effect, continues, stores, writes, calls, returns, locks, unlocks, prints, effect_of}
use Rattle.cas_step.specs.Sound.{IsSound, ReachableThreadsAreSound, ProgressAndPreservation}
use Rattle.cas_step.specs.Step.{Object, Activation, Block, Config, Step, StepContext, entity_in, eval_context_of, cells_at, word_step, global_step, store_step, memory_without, memory_keeping, call_step, return_to, return_step, lock_step, step_with_effect, newest_step, step_of, step, start}
use Rattle.cas_typed.specs.Resolved.{TypedModuleTree}
use Rattle.cas_typed.specs.declared.tree.Destination.{Destination}
use Rattle.cas_world.proofs.Holding.{set_here, set_elsewhere, lands_is}
use Rattle.cas_world.proofs.Lock_flow.{Lands}
use Rattle.cas_world.specs.Sound_worlds.{IsSoundWorld, WorldsAreSound, EndsAreReported}
use Rattle.cas_world.specs.Races.{program_world}
use Rattle.cas_world.specs.Turns.{ended, at_lock, at_step, at_next, at_config, state_of}
use Rattle.cas_world.specs.World.{World, holders_after, world_after, IsNext, MayStep, Interleaves, at_first, and_step, started, Reaches, HasEnded}
use Rattle.cas_typed.specs.Modules.{decls_of}

-- lists

set_length : {X : Type 0} (xs : List X) (i : ℕ) (y : X) → length (slice_set xs i y) ≡ length xs
set_length [] i y = refl
set_length (x ∷ xs) zero y = refl
set_length (x ∷ xs) (suc i) y = ap suc (set_length xs i y)

free_length : (n : ℕ) → length (replicate {A = Option ℕ} n None) ≡ n
free_length zero = refl
free_length (suc n) = ap suc (free_length n)

kinds_length : (ks : List (Option Kind)) (ws : List ℕ) → AreWellTypedWords ks ws → length ws ≡ length ks
kinds_length [] [] h = refl
kinds_length [] (n ∷ ns) h = absurd h
kinds_length (k ∷ ks) [] h = absurd h
kinds_length (k ∷ ks) (n ∷ ns) h = ap suc (kinds_length ks ns h.1)

-- where one of two lists that are as long has an element, the other has one
as_long : {X Y : Type 0} (xs : List X) (ys : List Y) (i : ℕ) (x : X) → length ys ≡ length xs → slice_get xs i ≡ Some x →
    (y : Y) × (slice_get ys i ≡ Some y)
as_long [] ys i x same h = absurd (cc h)
as_long (z ∷ xs) [] i x same h = absurd (cc same)
as_long (z ∷ xs) (y ∷ ys) zero x same h = (y, refl)
as_long (z ∷ xs) (y ∷ ys) (suc i) x same h = let less : length ys ≡ length xs =
    omega (arith, same) in as_long xs ys i x less h

holders_length : (a : Act) (i : ℕ) (hs : List (Option ℕ)) → length (holders_after a i hs) ≡ length hs
holders_length (act.Lock l) i hs = set_length hs l (Some i)
holders_length (act.Unlock l) i hs = set_length hs l None
holders_length act.Quiet i hs = refl
holders_length (act.Out n) i hs = refl
holders_length act.Done i hs = refl
holders_length (act.Bad why) i hs = refl

-- which lock a step takes or releases

-- the act is on this lock
abbrev IsOnLock : Act → (lock : ℕ) → Type 0
IsOnLock (act.Lock k) l = k ≡ l
IsOnLock (act.Unlock k) l = k ≡ l
IsOnLock _ l = ⊥

module _ (e : Env) (h : StepContext) where
  -- the lock that the step is on is that of an item
  abbrev pub IsOnItem : Step → Type 0
  IsOnItem s = (l : ℕ) → IsOnLock s.act l → (item : ℕ) × (entity_in e h item ≡ Some (lock l))

  on_global : (rs : List ℕ) (it : Option Entity) (i n : ℕ) (cont : List ContItem) →
      Lands IsOnItem (global_step e h rs it i n cont)
  on_global rs None i n cont = tt
  on_global rs (Some (function f)) i n cont = tt
  on_global rs (Some outside) i n cont = tt
  on_global rs (Some (shared first len guard)) i n cont = on_word (slice_get h.words (first + i)) (first + i)
    where
      on_word : (before : Option ℕ) (number : ℕ) → Lands IsOnItem (word_step e h rs before number n cont)
      on_word None number = tt
      on_word (Some old) number = λ l is. absurd is
  on_global rs (Some (table first len)) i n cont = tt
  on_global rs (Some (lock w)) i n cont = tt

  on_store : (rs : List ℕ) (before : Option (Value Object)) (o : Object) (i : ℕ) (v : Value Object)
      (cont : List ContItem) → Lands IsOnItem (store_step e h rs before o i v cont)
  on_store rs None o i v cont = tt
  on_store rs (Some old) o i v cont = λ l is. absurd is

  on_call : (rs : List ℕ) (it : Option Entity) (vs : List (Value Object)) (target : Option Destination)
      (cont : List ContItem) → Lands IsOnItem (call_step e h rs it vs target cont)
  on_call rs None vs target cont = tt
  on_call rs (Some (function f)) vs target cont = λ l is. absurd is
  on_call rs (Some outside) vs target cont = tt
  on_call rs (Some (shared first len guard)) vs target cont = tt
  on_call rs (Some (table first len)) vs target cont = tt
  on_call rs (Some (lock w)) vs target cont = tt

  on_return_to : (rs : List ℕ) (older : List Activation) (memory : Option (List Block)) →
      Lands IsOnItem (return_to e h rs older memory)
  on_return_to rs older None = tt
  on_return_to rs older (Some memory) = λ l is. absurd is

  on_return : (rs : List ℕ) (older : List Activation) (v : Option (Value Object)) →
      Lands IsOnItem (return_step e h rs older v)
  on_return rs [] v = λ l is. absurd is
  on_return rs (a ∷ older) v = on_return_to rs (a ∷ older)
      (memory_keeping (memory_without h.config.memory h.newest.serial) a.serial h.newest.target v)

  on_lock : (rs : List ℕ) (item : ℕ) (it : Option Entity) (act_on : ℕ → Act) (cont : List ContItem) →
      ((w l : ℕ) → IsOnLock (act_on w) l → w ≡ l) → entity_in e h item ≡ it →
      Lands IsOnItem (lock_step e h rs it act_on cont)
  on_lock rs item None act_on cont same there = tt
  on_lock rs item (Some (function f)) act_on cont same there = tt
  on_lock rs item (Some outside) act_on cont same there = tt
  on_lock rs item (Some (shared first len guard)) act_on cont same there = tt
  on_lock rs item (Some (table first len)) act_on cont same there = tt
  on_lock rs item (Some (lock w)) act_on cont same there = λ l is. (item, there ∙ ap (λ k. Some (lock k)) (same w l is))

  on_doing : (x : Got (Effect Object)) → Lands IsOnItem (step_with_effect e h x)
  on_doing (got_stuck rs) = tt
  on_doing (bad rs why) = λ l is. absurd is
  on_doing (got rs (continues cont)) = λ l is. absurd is
  on_doing (got rs (stores o i v cont)) = on_store rs (value_at (cells_at h.config.memory o) i) o i v cont
  on_doing (got rs (writes g i n cont)) = on_global rs (entity_in e h g) i n cont
  on_doing (got rs (calls g vs target cont)) = on_call rs (entity_in e h g) vs target cont
  on_doing (got rs (returns v)) = on_return rs h.older v
  on_doing (got rs (locks g cont)) = on_lock rs g (entity_in e h g) act.Lock cont (λ w l is. is) refl
  on_doing (got rs (unlocks g cont)) = on_lock rs g (entity_in e h g) act.Unlock cont (λ w l is. is) refl
  on_doing (got rs (prints n cont)) = λ l is. absurd is

  on_here : Lands IsOnItem (newest_step e h)
  on_here =
      on_doing (answered (entity_in e h) (slice_get h.words) (cells_at h.config.memory)
      (effect_of (eval_context_of e h) (e.function h.newest.function).ret h.newest.cont))

-- the lock that a thread's step is on is that of an item
on_item : (e : Env) (ws : List ℕ) (c : Config) (s : Step) (l : ℕ) (activations : List Activation) →
    step_of e ws c activations ≡ Some s → IsOnLock s.act l →
    (n item : ℕ) × (e.entity n item ≡ Some (lock l))
on_item e ws c s l [] is on = absurd (cc is)
on_item e ws c s l (a ∷ older) is on =
    let h : StepContext = record { config = c; newest = a; older = older; words = ws } in
    let (item, there) = lands_is (IsOnItem e h) (newest_step e h) s (on_here e h) is l on in
    (a.function.unit, item, there)

-- what is known of programs and steps
pub record Facts : Type 0 where
  pub well_formed : EnvironmentsAreWellFormed
  pub entered : EntriesAreEntered
  pub words : InitialStoreIsWellTyped
  pub declared : LocksAreDeclared
  pub sound : ReachableThreadsAreSound
  pub steps : ProgressAndPreservation

-- a thread of the first world begins at an entry with its number
started_with : (e : Env) (k : ℕ) (fs : List FunctionAt) (i : ℕ) (c : Config) → slice_get (started e k fs) i ≡ Some c →
    (f : FunctionAt) × (slice_get fs i ≡ Some f) × (start e f (word (k + i) ∷ []) ≡ c)
started_with e k [] i c is = absurd (cc is)
started_with e k (f ∷ fs) zero c is =
    let same : start e f (word k ∷ []) ≡ c = cc is in
    let number : k ≡ k + 0 = omega (arith) in
    (f, refl, subst (λ n. start e f (word n ∷ []) ≡ c) number same)
started_with e k (f ∷ fs) (suc i) c is =
    let (g, there, same) = started_with e (k + 1) fs i c is in
    let number : (k + 1) + i ≡ k + suc i = omega (arith) in
    (g, there, subst (λ n. start e g (word n ∷ []) ≡ c) number same)

-- a thread with an activation isn't one without
some_none : {X : Type 0} (x : X) (xs : List X) → x ∷ xs ≡ [] → ⊥
some_none x xs h = cc h

module _ (facts : Facts) (modules : List TypedModuleTree) (entries : List (List ℕ))
    (program : IsProgram modules entries) (few : length entries ≤ 2 ^ 32) where
  abbrev e : Env
  e = env_of modules

  well_formed : IsWellFormed modules e
  well_formed = facts.well_formed modules entries program

  -- what each step keeps
  record Fit (w : World) : Type 0 where
    words : IsWellTypedStore e w.words
    holders : length w.holders ≡ length e.kinds
    sound : (i : ℕ) (c : Config) → slice_get w.threads i ≡ Some c → IsSound modules e c

  fit_first : Fit (program_world modules entries)
  fit_first =
      record {
        words = (facts.words modules entries program).1;
        holders = free_length (length (initial_words modules))
            ∙ (facts.words modules entries program).0;
        sound = each;
      }
    where
      at_entries : AreEntries modules e (entries_of modules entries)
      at_entries = facts.entered modules entries program few

      each : (i : ℕ) (c : Config) → slice_get (started e 0 (entries_of modules entries)) i ≡ Some c →
          IsSound modules e c
      each i c is =
          let (f, there, same) = started_with e 0 (entries_of modules entries) i c is in
          let fits : IsReachable e (entries_of modules entries) (start e f (word i ∷ [])) = at_start i f there in
          let number : 0 + i ≡ i = omega (arith) in
          let begins : start e f (word i ∷ []) ≡ c = subst (λ n. start e f (word n ∷ []) ≡ c) number same in
          subst (IsSound modules e) begins (facts.sound modules e (entries_of modules entries) (start e f (word i ∷ []))
          well_formed at_entries fits)

  -- the next step of a thread that has an activation
  next_of : (w : World) (c : Config) → Fit w → IsSound modules e c → (a : Activation) (older : List Activation) →
      c.activations ≡ a ∷ older →
      (s : Step) × (step e w.words c ≡ Some s) × IsSound modules e s.next × IsWellTypedStore e s.words
  next_of w c fit sound a older there = facts.steps modules e w.words c a older well_formed sound fit.words there

  -- behind a step the thread is sound and the words fit
  behind : (w : World) (c : Config) (s : Step) → Fit w → IsSound modules e c → (activations : List Activation) →
      c.activations ≡ activations → step e w.words c ≡ Some s →
      IsSound modules e s.next × IsWellTypedStore e s.words
  behind w c s fit sound [] there is = let no : None ≡ Some s = sym (ap (step_of e w.words c) there)
      ∙ is in absurd (cc no)
  behind w c s fit sound (a ∷ older) there is =
      let (r, steps, sound_next, words_fit) = next_of w c fit sound a older there in
      let same : r ≡ s = cc (sym steps ∙ is) in
      subst (λ x. IsSound modules e x.next × IsWellTypedStore e x.words) same (sound_next, words_fit)

  fit_after : (w : World) (i : ℕ) (s : Step) → Fit w → MayStep e w i s → Fit (world_after w i s)
  fit_after w i s fit may = record {
    words = now.1;
    holders = holders_length s.act i w.holders
        ∙ fit.holders;
    sound = each;
  }
    where
      now : IsSound modules e s.next × IsWellTypedStore e s.words
      now = let c = may.next.config in behind w c s fit (fit.sound i c may.next.stands)
          c.activations refl may.next.steps

      each : (j : ℕ) (d : Config) → slice_get (slice_set w.threads i s.next) j ≡ Some d → IsSound modules e d
      each j d is =
          same_or_not j i
          (λ t same.
          let here : slice_get (slice_set w.threads i s.next) i ≡ Some d =
          subst (λ k. slice_get (slice_set w.threads i s.next) k ≡ Some d) same is in
          let same_next : Some s.next ≡ Some d = sym (set_here w.threads i may.next.config s.next may.next.stands)
          ∙ here in
          lands_is (IsSound modules e) (Some s.next) d now.0 same_next)
          (λ t n. fit.sound j d (sym (set_elsewhere w.threads i j s.next n) ∙ is))

  fit_along : (w : World) (threads : List ℕ) → Interleaves e (program_world modules entries) threads w → Fit w
  fit_along w threads at_first = fit_first
  fit_along w threads (and_step {w = v} before i s may) = fit_after v i s (fit_along v _ before) may

  -- the word of a lock has a place among the holders
  lock_is_there : (w : World) → Fit w → (n item l : ℕ) → e.entity n item ≡ Some (lock l) → (holder : Option ℕ)
      × (slice_get w.holders l ≡ Some holder)
  lock_is_there w fit n item l there =
      let (d, (decls, unit_at, item_at), form) = facts.declared modules entries program n item l there in
      let (unit, module_at, decls_are) = unmapped decls_of modules n decls unit_at in
      let stands : StandsFor modules e d.form (e.entity n item) =
      well_formed.entities n item unit d module_at (ap (λ ds. slice_get ds item) decls_are ∙ item_at) in
      let kind : slice_get e.kinds l ≡ Some None =
      subst (λ x. StandsFor modules e Lock x) there (subst (λ f. StandsFor modules e f (e.entity n item)) form stands)
      in
      as_long e.kinds w.holders l None fit.holders kind

  on_lock_there : (w : World) → Fit w → (i : ℕ) (s : Step) (l : ℕ) → IsNext e w i s → IsOnLock s.act l →
      (holder : Option ℕ) × (slice_get w.holders l ≡ Some holder)
  on_lock_there w fit i s l next on =
      let (n, item, there) = on_item e w.words next.config s l next.config.activations next.steps on in
      lock_is_there w fit n item l there

  fitting : (w : World) → Fit w → IsSoundWorld modules e w
  fitting w fit = record {
    words = fit.words;
    holders = fit.holders ∙ sym (kinds_length e.kinds w.words fit.words);
    sound = fit.sound;
    steps = λ i c a older stands there.
        let (s, steps, sound_next, words_fit) = next_of w c fit (fit.sound i c stands) a older there in
        (s, record { config = c; stands = stands; steps = steps });
    locks = λ i l s next takes. on_lock_there w fit i s l next (subst (λ a. IsOnLock a l) (sym takes) refl);
    unlocks = λ i l s next gives. on_lock_there w fit i s l next (subst (λ a. IsOnLock a l) (sym gives) refl);
  }

  pub worlds_fit_in : (w : World) → Reaches e (program_world modules entries) w → IsSoundWorld modules e w
  worlds_fit_in w reached = fitting w (fit_along w reached.0 reached.1)

-- a thread stands at its end exactly if it has ended

lock_goes_on : (s : Step) (l : ℕ) (o : Option (Option ℕ)) (holder : Option ℕ) → o ≡ Some holder →
    at_lock s l o ≡ ended → ⊥
lock_goes_on s l None holder there h = cc there
lock_goes_on s l (Some None) holder there h = cc h
lock_goes_on s l (Some (Some i)) holder there h = cc h

step_goes_on : (hs : List (Option ℕ)) (s : Step) (a : Act) →
    ((l : ℕ) → a ≡ act.Lock l → (holder : Option ℕ) × (slice_get hs l ≡ Some holder)) → at_step hs s a ≡ ended → ⊥
step_goes_on hs s (act.Lock l) locks_there h = let there =
    locks_there l refl in lock_goes_on s l (slice_get hs l) there.0 there.1 h
step_goes_on hs s act.Quiet locks_there h = cc h
step_goes_on hs s (act.Unlock l) locks_there h = cc h
step_goes_on hs s (act.Out n) locks_there h = cc h
step_goes_on hs s act.Done locks_there h = cc h
step_goes_on hs s (act.Bad why) locks_there h = cc h

module _ (modules : List TypedModuleTree) (e : Env) (w : World) (fits : IsSoundWorld modules e w) (i : ℕ) (c : Config)
    (stands : slice_get w.threads i ≡ Some c) where
  -- a thread with an activation doesn't stand at its end
  goes_on_there : (a : Activation) (older : List Activation) → c.activations ≡ a ∷ older → state_of e w i ≡ ended → ⊥
  goes_on_there a older there h =
      let (s, next) = fits.steps i c a older stands there in
      let told : state_of e w i ≡ at_step w.holders s s.act = ap (at_config e w) next.stands
      ∙ ap (at_next w.holders) next.steps in
      step_goes_on w.holders s s.act (λ l takes. fits.locks i l s next takes) (sym told ∙ h)

  ended_there : (activations : List Activation) → c.activations ≡ activations → state_of e w i ≡ ended → HasEnded w i
  ended_there [] there h = (c, stands, there)
  ended_there (a ∷ older) there h = absurd (goes_on_there a older there h)

  -- and one that has ended does
  told_there : HasEnded w i → state_of e w i ≡ ended
  told_there has =
      let none : step e w.words has.0 ≡ None = ap (step_of e w.words has.0) has.2 in
      ap (at_config e w) has.1 ∙ ap (at_next w.holders) none

  pub ends_told : (state_of e w i ≡ ended) ↔ HasEnded w i
  ends_told = (λ h. ended_there c.activations refl h, told_there)

pub worlds_are_sound : Facts → WorldsAreSound
worlds_are_sound facts modules entries program few w reached = worlds_fit_in facts modules entries program few w reached

pub ends_are_told : WorldsAreSound → EndsAreReported
ends_are_told fit modules entries program few w i c reached stands =
    ends_told modules (env_of modules) w (fit modules entries program few w reached) i c stands
