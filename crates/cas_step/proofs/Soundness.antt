-- A sound thread has a step over words that fit, and stays sound.
use Rattle.std.proofs.Common.{arith, ◌≡◌, ℕ, ◌+◌, ◌^◌, ◌<◌, false, List, [], ◌∷◌, length, take, map, Option, Some, None, refl, sym, ap, subst, ◌∙◌, if◌then◌else◌, IsTrue}
use Rattle.std.specs.Prelude.{nat_eq, slice_get}
use Rattle.std.proofs.lemmas.Bool.{ne_eqb}
use Rattle.std.proofs.lemmas.Option.{slice_get_within}
use Rattle.cas_base.specs.Kind.{is_of_kind}
use Rattle.cas_base.specs.declared.act.Act.{Act}
use Rattle.cas_base.specs.declared.act.Act.TheVariants as act
use Rattle.cas_base.specs.declared.kind.Kind.{Kind}
use Rattle.cas_base.specs.declared.kind.Kind.TheVariants.{I32}
use Rattle.cas_base.specs.declared.kind.Ty.{Ty}
use Rattle.cas_base.specs.declared.kind.Ty.TheVariants.{Void, Int, Ptr, Array}
use Rattle.cas_base.proofs.KindLaws.{narrowed_is_of_kind}
use Rattle.cas_typed.specs.declared.tree.Destination.{Destination}
use Rattle.cas_typed.specs.Modules.{decls_of}
use Rattle.cas_typed.specs.Resolved.{TypedExprTree, TypedFunTree, TypedModuleTree}
use Rattle.cas_typed.specs.Sorts as sorts
use Rattle.cas_typed.specs.Sorts.{Sort, HasSort, MayKeep}
use Rattle.cas_step.specs.Asks.{Value, word, null, pointer}
use Rattle.cas_step.specs.Env.{FunctionAt, Entity, shared, lock, Env}
use Rattle.cas_step.specs.Evaluate.{value_of}
use Rattle.cas_typed.specs.Literals.{HasWords}
use Rattle.cas_step.specs.Well_formed.{IsWellTypedWord, IsAt, IsWellFormed, AreEntries, IsWellTypedStore, at_start, and_step}
use Rattle.cas_step.specs.Continuation.{ContItem, Effect, continues, stores, writes, calls, returns, locks, unlocks, prints, effect_of}
use Rattle.cas_step.specs.Laws.{ReachableThreadsStep}
use Rattle.cas_step.specs.Sound.{Gets, types_of, types_at, IsOfType, cell_type, AreBlocks, IsSoundActivation, AreActivations, IsSound, IsOfSort, PointsTo, ReachableThreadsAreSound, ProgressAndPreservation, ValuesAreSorted}
use Rattle.cas_step.specs.Stands.{of_body, MayDo}
use Rattle.cas_step.specs.Answered.{value_at, Got, got, bad, got_stuck, answered}
use Rattle.cas_step.specs.Step.{Object, Activation, Block, Config, cells_at, memory_with, memory_without, memory_storing, memory_keeping, converted, Step, StepContext, entity_in, eval_context_of, word_step, global_step, store_step, call_step, return_to, return_step, lock_step, step_with_effect, newest_step, step, with_call, start}
use Rattle.cas_step.proofs.Effects.{IsReturned, EffectFits, effect_certain}
use Rattle.cas_step.proofs.Targets.{AreOfTypes, gets_map, sort_certain}
use Rattle.cas_step.proofs.Keeping.{words_set, with_cont, cont_keeps, cont_blocks, without_blocks, AreArguments, arguments_later, locals_typed, activations_before, types_before, kept_typed, kept_there, kept_holds}
use Rattle.cas_step.proofs.Memory.{IsLater, value_later, blocks_later, MayHold, blocks_set}
use Rattle.cas_step.proofs.Situation.{word_fits, there_map}
use Rattle.cas_step.proofs.Standing.{all_may}
use Rattle.cas_step.proofs.Values.{ThereIs, OfSort}
use Rattle.cas_step.proofs.Within.{Any}

-- there is a step, after which the thread is sound and the words fit
abbrev pub StaysSound : List TypedModuleTree → Env → Option Step → Type 0
StaysSound modules e None = ⊥
StaysSound modules e (Some s) = IsSound modules e s.next × IsWellTypedStore e s.words

module _ (modules : List TypedModuleTree) (e : Env) (well_formed : IsWellFormed modules e) (a : Activation)
    (older : List Activation) (memory : List Block) (fresh : ℕ)
    (sound : IsSound modules e (record { activations = a ∷ older; memory = memory; fresh = fresh })) (ws : List ℕ)
    (fits : IsWellTypedStore e ws) where
  abbrev now : Config
  now = record { activations = a ∷ older; memory = memory; fresh = fresh }

  abbrev here : StepContext
  here = record { config = now; newest = a; older = older; words = ws }

  abbrev newest_is : IsSoundActivation modules e a
  newest_is = sound.activations.1

  -- the thread with this left to do, and this memory
  abbrev behind : List ContItem → List Block → Config
  behind cont m = record { activations = with_cont a cont ∷ older; memory = m; fresh = fresh }

  behind_later : (cont : List ContItem) (m : List Block) → IsLater e now (behind cont m)
  behind_later cont m = record { later = omega arith; reach = λ n tys less is. is }

  activations_behind : (cont : List ContItem) → MayDo (e.function a.function).body cont →
      AreActivations modules e fresh (with_cont a cont ∷ older)
  activations_behind cont may = (
    sound.activations.0,
    record { unit = newest_is.unit; it = newest_is.it; at_place = newest_is.at_place; doing = may },
    cont_keeps e a cont older sound.activations.2,
    sound.activations.3,
  )

  goes_sound : (cont : List ContItem) (m : List Block) → MayDo (e.function a.function).body cont →
      AreBlocks e now (a ∷ older) m → IsSound modules e (behind cont m)
  goes_sound cont m may blocks = record {
    activations = activations_behind cont may;
    memory = cont_blocks e (behind cont m) a cont older m
        (blocks_later e now (behind cont m) (behind_later cont m) (a ∷ older) m blocks);
  }

  store_sound : (rs : List ℕ) (held : Option (Value Object)) (o : Object) (i : ℕ) (v : Value Object)
      (cont : List ContItem) → ThereIs Any held → MayHold e now (a ∷ older) o v →
      MayDo (e.function a.function).body cont →
      StaysSound modules e (store_step e here rs held o i v cont)
  store_sound rs None o i v cont h holds may = absurd h
  store_sound rs (Some held) o i v cont h holds may = (
    goes_sound cont (memory_with memory o i v) may (blocks_set e now (a ∷ older) memory o i v sound.memory holds),
    fits,
  )

  word_sound : (rs : List ℕ) (held : Option ℕ) (m n : ℕ) (k : Kind) (cont : List ContItem) →
      ThereIs (IsWellTypedWord (Some k)) held → slice_get e.kinds m ≡ Some (Some k) → IsTrue (is_of_kind n k) →
      MayDo (e.function a.function).body cont →
      StaysSound modules e (word_step e here rs held m n cont)
  word_sound rs None m n k cont h kind of may = absurd h
  word_sound rs (Some w) m n k cont h kind of may =
      (goes_sound cont memory may sound.memory, words_set e.kinds ws m n k fits kind of)

  global_sound : (rs : List ℕ) (it : Option Entity) (first len : ℕ) (guard : Option ℕ) (i n : ℕ) (k : Kind)
      (cont : List ContItem) → it ≡ Some (shared first len guard) → slice_get e.kinds (first + i) ≡ Some (Some k) →
      IsTrue (is_of_kind n k) → MayDo (e.function a.function).body cont →
      StaysSound modules e (global_step e here rs it i n cont)
  global_sound rs it first len guard i n k cont is kind of may =
      subst (λ x. StaysSound modules e (global_step e here rs x i n cont)) (sym is)
      (word_sound rs (slice_get ws (first + i)) (first + i) n k cont
      (word_fits e.kinds ws (first + i) (Some k) fits kind) kind of may)

  lock_sound : (rs : List ℕ) (it : Option Entity) (n : ℕ) (what : ℕ → Act) (cont : List ContItem) → it ≡ Some (lock n) →
      MayDo (e.function a.function).body cont → StaysSound modules e (lock_step e here rs it what cont)
  lock_sound rs it n what cont is may = subst (λ x. StaysSound modules e (lock_step e here rs x what cont)) (sym is)
      (goes_sound cont memory may sound.memory, fits)

  -- a call

  module _ (f : FunctionAt) (vals : List (Value Object)) (kept : Option Destination) (cont : List ContItem) where
    abbrev called : Config
    called = with_call e (with_cont a cont ∷ older) memory fresh f vals kept

    called_later : IsLater e now called
    called_later = record {
      later = omega arith;
      reach = λ n tys less is.
          let differs : nat_eq fresh n ≡ false = ne_eqb fresh n (λ same. absurd (omega (arith, same, less))) in
          sym (ap (λ t. if t then Some (e.function f).locals else types_at e (a ∷ older) n) differs) ∙ is;
    }

    call_sound : (gives : Ty) (tys : List Ty) (unit : TypedModuleTree) (it : TypedFunTree) → IsAt modules f unit it →
        (e.function f).ret ≡ gives → take (length tys) (e.function f).locals ≡ tys → MayKeep (types_of e a) kept gives →
        AreArguments e now tys vals → MayDo (e.function a.function).body cont → IsSound modules e called
    call_sound gives tys unit it at_place returns_so takes keeps typed may = record {
      activations = (
        omega arith,
        record {
          unit = unit;
          it = it;
          at_place = at_place;
          doing = all_may (e.function f).body false (e.function f).body [] (λ b among. of_body b among) tt tt;
        },
        subst (MayKeep (types_of e a) kept) (sym returns_so) keeps,
        activations_behind cont may,
      );
      memory = (
        refl,
        locals_typed e called (e.function f).locals tys vals takes
            (arguments_later e now called called_later tys vals typed),
        cont_blocks e called a cont older memory (blocks_later e now called called_later
            (a ∷ older) memory sound.memory),
      );
    }

  -- a return

  -- the thread without the newest activation
  abbrev returned : List Block → Config
  returned m = record { activations = older; memory = m; fresh = fresh }

  returned_later : (m : List Block) → IsLater e now (returned m)
  returned_later m = record {
    later = omega arith;
    reach = λ n tys less is.
        let before : n < a.serial = types_before modules e a.serial n older tys sound.activations.3 is in
        let differs : nat_eq a.serial n ≡ false = ne_eqb a.serial n (λ same. absurd (omega (arith, same, before))) in
        ap (λ t. if t then Some (types_of e a) else types_at e older n) differs ∙ is;
  }

  older_blocks : (m : List Block) → AreBlocks e (returned m) older (memory_without memory a.serial)
  older_blocks m = blocks_later e now (returned m) (returned_later m) older (memory_without memory a.serial)
      (without_blocks e now a older memory sound.memory)

  older_sound : (m : List Block) → AreBlocks e (returned m) older m → IsSound modules e (returned m)
  older_sound m blocks = record {
    activations = activations_before modules e a.serial fresh older (omega (arith, sound.activations.0))
        sound.activations.3;
    memory = blocks;
  }

module _ (modules : List TypedModuleTree) (e : Env) (well_formed : IsWellFormed modules e) (a caller : Activation)
    (older : List Activation) (memory : List Block) (fresh : ℕ)
    (sound : IsSound modules e (record { activations = a ∷ caller ∷ older; memory = memory; fresh = fresh }))
    (ws : List ℕ) (fits : IsWellTypedStore e ws) where
  abbrev left : List Block
  left = memory_without memory a.serial

  abbrev after : List Block → Config
  after m = returned modules e well_formed a (caller ∷ older) memory fresh sound ws fits m

  -- the caller's local
  abbrev place_of_kept : Destination → Object
  place_of_kept d = record { serial = caller.serial; local = d.local }

  storing_sound : (rs : List ℕ) (o : Object) (held w : Option (Value Object)) → ThereIs Any held →
      ThereIs (λ v. (m : List Block) → MayHold e (after m) (caller ∷ older) o v) w →
      StaysSound modules e (return_to e (here modules e well_formed a (caller ∷ older) memory fresh sound ws fits) rs
      (caller ∷ older) (memory_storing left held o 0 w))
  storing_sound rs o None w h k = absurd h
  storing_sound rs o (Some held) None h k = absurd k
  storing_sound rs o (Some held) (Some v) h k =
      let m = memory_with left o 0 v in (
        older_sound modules e well_formed a (caller ∷ older) memory fresh sound ws fits m
            (blocks_set e (after m) (caller ∷ older) left o 0 v
            (older_blocks modules e well_formed a (caller ∷ older) memory fresh sound ws fits m) (k m)),
        fits,
      )

  kept_sound : (rs : List ℕ) (d : Destination) (ret : Ty) (v : Value Object) →
      MayKeep (types_of e caller) (Some d) ret → IsOfType e
      (now modules e well_formed a (caller ∷ older) memory fresh sound ws fits) ret v →
      StaysSound modules e (return_to e (here modules e well_formed a (caller ∷ older) memory fresh sound ws fits) rs
      (caller ∷ older) (memory_keeping left caller.serial (Some d) (Some v)))
  kept_sound rs d ret v keeps of =
      let typed = kept_typed modules e after (types_of e caller) d ret v keeps
      (λ m. value_later e (now modules e well_formed a (caller ∷ older) memory fresh sound ws fits) (after m)
      (returned_later modules e well_formed a (caller ∷ older) memory fresh sound ws fits m) ret v of) in
      storing_sound rs (place_of_kept d) (value_at (cells_at left (place_of_kept d)) 0) (converted d.ty v)
      (there_map (IsOfType e (after left) (cell_type d.ty)) Any _
      (kept_there modules e (after left) caller older left d
      (older_blocks modules e well_formed a (caller ∷ older) memory fresh sound ws fits left) typed.0 typed.1)
      (λ w h. tt))
      (there_map (λ w. (m : List Block) → IsOfType e (after m) (cell_type d.ty) w)
      (λ w. (m : List Block) → MayHold e (after m) (caller ∷ older) (place_of_kept d) w) (converted d.ty v) typed.2
      (λ w h m. kept_holds modules e (after m) caller older d w typed.0 (h m)))

  -- a caller that keeps something is returned something
  caller_sound : (rs : List ℕ) (target : Option Destination) (ret : Ty) (v : Option (Value Object)) →
      MayKeep (types_of e caller) target ret → IsReturned modules e well_formed a (caller ∷ older)
      memory fresh sound.activations.0 sound.memory sound.activations.1.unit sound.activations.1.at_place.unit_is ws
      fits ret v →
      StaysSound modules e (return_to e (here modules e well_formed a (caller ∷ older) memory fresh sound ws fits) rs
      (caller ∷ older) (memory_keeping left caller.serial target v))
  caller_sound rs None ret v keeps of = (
    older_sound modules e well_formed a (caller ∷ older) memory fresh sound ws fits left
        (older_blocks modules e well_formed a (caller ∷ older) memory fresh sound ws fits left),
    fits,
  )
  caller_sound rs (Some d) (Int k) None keeps of = absurd of
  caller_sound rs (Some d) (Ptr k) None keeps of = absurd of
  caller_sound rs (Some d) Void None keeps of = absurd keeps
  caller_sound rs (Some d) (Array k n) None keeps of = absurd keeps
  caller_sound rs (Some d) (Int k) (Some v) keeps of = kept_sound rs d (Int k) v keeps of
  caller_sound rs (Some d) (Ptr k) (Some v) keeps of = kept_sound rs d (Ptr k) v keeps of
  caller_sound rs (Some d) Void (Some v) keeps of = absurd keeps
  caller_sound rs (Some d) (Array k n) (Some v) keeps of = absurd keeps

module _ (modules : List TypedModuleTree) (e : Env) (well_formed : IsWellFormed modules e) (a : Activation) where
  return_sound : (older : List Activation) (memory : List Block) (fresh : ℕ)
      (sound : IsSound modules e (record { activations = a ∷ older; memory = memory; fresh = fresh })) (ws : List ℕ)
      (fits : IsWellTypedStore e ws) (rs : List ℕ) (v : Option (Value Object)) →
      IsReturned modules e well_formed a older memory fresh sound.activations.0 sound.memory sound.activations.1.unit
      sound.activations.1.at_place.unit_is ws fits (e.function a.function).ret v →
      StaysSound modules e (return_step e (here modules e well_formed a older memory fresh sound ws fits) rs older v)
  return_sound [] memory fresh sound ws fits rs v of = (
    older_sound modules e well_formed a [] memory fresh sound ws fits (memory_without memory a.serial)
        (older_blocks modules e well_formed a [] memory fresh sound ws fits (memory_without memory a.serial)),
    fits,
  )
  return_sound (caller ∷ older) memory fresh sound ws fits rs v of =
      caller_sound modules e well_formed a caller older memory fresh sound ws fits rs a.target
      (e.function a.function).ret v sound.activations.2 of

module _ (modules : List TypedModuleTree) (e : Env) (well_formed : IsWellFormed modules e) (a : Activation)
    (older : List Activation) (memory : List Block) (fresh : ℕ)
    (sound : IsSound modules e (record { activations = a ∷ older; memory = memory; fresh = fresh })) (ws : List ℕ)
    (fits : IsWellTypedStore e ws) where
  abbrev at_here : StepContext
  at_here = here modules e well_formed a older memory fresh sound ws fits

  abbrev where_unit : TypedModuleTree
  where_unit = sound.activations.1.unit

  abbrev FitsHere : Effect Object → Type 0
  FitsHere d = EffectFits modules e well_formed a older memory fresh sound.activations.0 sound.memory where_unit
      sound.activations.1.at_place.unit_is ws fits d

  arguments_here : (tys : List Ty) (vals : List (Value Object)) →
      AreOfTypes modules e well_formed a older memory fresh sound.activations.0 sound.memory where_unit
      sound.activations.1.at_place.unit_is ws fits tys vals →
      AreArguments e (now modules e well_formed a older memory fresh sound ws fits) tys vals
  arguments_here [] [] h = tt
  arguments_here [] (v ∷ vals) h = absurd h
  arguments_here (ty ∷ tys) [] h = absurd h
  arguments_here (ty ∷ tys) (v ∷ vals) h = (h.0, arguments_here tys vals h.1)

  doing_sound : (x : Got (Effect Object)) → Gets FitsHere x → StaysSound modules e (step_with_effect e at_here x)
  doing_sound (got_stuck rs) h = absurd h
  doing_sound (bad rs why) h = (sound, fits)
  doing_sound (got rs (continues cont)) h =
      (goes_sound modules e well_formed a older memory fresh sound ws fits cont memory h sound.memory, fits)
  doing_sound (got rs (stores o i v cont)) h = store_sound modules e well_formed a older memory fresh sound ws fits rs
      (value_at (cells_at memory o) i) o i v cont h.0 h.1 h.2
  doing_sound (got rs (writes g i n cont)) h =
      let w = h.1 in
      global_sound modules e well_formed a older memory fresh sound ws fits rs (entity_in e at_here g)
      w.first w.len w.guard i n h.0 cont w.is_shared w.kind h.2 h.3
  doing_sound (got rs (calls g vals kept cont)) h =
      let it = h.0 in
      subst (λ x. StaysSound modules e (call_step e at_here rs x vals kept cont)) (sym it.is_function) (
        call_sound modules e well_formed a older memory fresh sound ws fits it.f vals kept cont it.gives it.tys
            it.unit_of it.it it.at_place it.signature.returns_so it.signature.takes it.keeps
            (arguments_here it.tys vals it.arguments) h.1,
        fits,
      )
  doing_sound (got rs (returns v)) h = return_sound modules e well_formed a older memory fresh sound ws fits rs v h
  doing_sound (got rs (locks g cont)) h = lock_sound modules e well_formed a older memory fresh sound ws fits rs
      (entity_in e at_here g) h.0.0 act.Lock cont h.0.1 h.1
  doing_sound (got rs (unlocks g cont)) h = lock_sound modules e well_formed a older memory fresh sound ws fits rs
      (entity_in e at_here g) h.0.0 act.Unlock cont h.0.1 h.1
  doing_sound (got rs (prints n cont)) h =
      (goes_sound modules e well_formed a older memory fresh sound ws fits cont memory h sound.memory, fits)

  -- a value of its sort
  of_sort : (sort : Sort) (v : Value Object) →
      OfSort (PointsTo e (now modules e well_formed a older memory fresh sound ws fits)) sort v →
      IsOfSort e (now modules e well_formed a older memory fresh sound ws fits) sort v
  of_sort sorts.word (word n) h = h
  of_sort sorts.word null h = absurd h
  of_sort sorts.word (pointer o p) h = absurd h
  of_sort (sorts.pointer k) (word n) h = absurd h
  of_sort (sorts.pointer k) null h = tt
  of_sort (sorts.pointer k) (pointer o p) h = h

  value_here : (unit : TypedModuleTree) (unit_is : slice_get modules a.function.unit ≡ Some unit) (x : TypedExprTree)
      (sort : Sort) → HasSort (types_of e a) (decls_of unit) x sort → HasWords x →
      Gets (IsOfSort e (now modules e well_formed a older memory fresh sound ws fits) sort)
      (answered (entity_in e at_here) (slice_get ws) (cells_at memory) (value_of (eval_context_of e at_here) x))
  value_here unit unit_is x sort h w =
      gets_map modules e well_formed a older memory fresh sound.activations.0 sound.memory unit unit_is ws fits _ _ _
      (sort_certain modules e well_formed a older memory fresh sound.activations.0 sound.memory unit unit_is ws fits x
      sort h w) (of_sort sort)

  here_sound : StaysSound modules e (newest_step e at_here)
  here_sound =
      doing_sound (answered (entity_in e at_here) (slice_get ws) (cells_at memory)
      (effect_of (eval_context_of e at_here) (e.function a.function).ret a.cont))
      (effect_certain modules e well_formed a older memory fresh sound.activations.0 sound.memory where_unit
      sound.activations.1.at_place.unit_is ws fits sound.activations.1.it sound.activations.1.at_place a.cont
      sound.activations.1.doing)

-- a sound thread that hasn't ended
step_sound : (modules : List TypedModuleTree) (e : Env) → IsWellFormed modules e →
    (activations : List Activation) (memory : List Block) (fresh : ℕ) (ws : List ℕ) (a : Activation)
    (older : List Activation) → activations ≡ a ∷ older →
    IsSound modules e (record { activations = activations; memory = memory; fresh = fresh }) → IsWellTypedStore e ws →
    StaysSound modules e (step e ws (record { activations = activations; memory = memory; fresh = fresh }))
step_sound modules e well_formed [] memory fresh ws a older is sound fits = absurd (cc is)
step_sound modules e well_formed (b ∷ others) memory fresh ws a older is sound fits =
    here_sound modules e well_formed b others memory fresh sound ws fits

stays_there : (modules : List TypedModuleTree) (e : Env) (x : Option Step) → StaysSound modules e x → (s : Step)
    × (x ≡ Some s) × IsSound modules e s.next × IsWellTypedStore e s.words
stays_there modules e None h = absurd h
stays_there modules e (Some s) h = (s, refl, h.0, h.1)

-- a sound thread stays so
next_sound : (modules : List TypedModuleTree) (e : Env) → IsWellFormed modules e →
    (activations : List Activation) (memory : List Block) (fresh : ℕ) (ws : List ℕ) (s : Step) →
    IsSound modules e (record { activations = activations; memory = memory; fresh = fresh }) → IsWellTypedStore e ws →
    step e ws (record { activations = activations; memory = memory; fresh = fresh }) ≡ Some s → IsSound modules e s.next
next_sound modules e well_formed [] memory fresh ws s sound fits is = absurd (cc is)
next_sound modules e well_formed (a ∷ older) memory fresh ws s sound fits is =
    let (r, there, stays, words) = stays_there modules e
    (newest_step e (here modules e well_formed a older memory fresh sound ws fits))
    (here_sound modules e well_formed a older memory fresh sound ws fits) in
    let both : Some r ≡ Some s = sym there ∙ is in
    let same : r ≡ s = cc both in
    subst (λ x. IsSound modules e x.next) same stays

-- a thread at an entry

thread_word : (n : ℕ) → n < 2 ^ 32 → IsTrue (is_of_kind n I32)
thread_word n less = narrowed_is_of_kind n I32 less

start_sound : (modules : List TypedModuleTree) (e : Env) (entries : List FunctionAt) (thread : ℕ) (f : FunctionAt) →
    AreEntries modules e entries → slice_get entries thread ≡ Some f → IsSound modules e (start e f (word thread ∷ []))
start_sound modules e entries thread f are is =
    let entry = are.each thread f is in record {
      activations = (
        omega arith,
        record {
          unit = entry.0;
          it = entry.1;
          at_place = entry.2;
          doing = all_may (e.function f).body false
              (e.function f).body [] (λ b among. of_body b among) tt tt;
        },
        tt,
        tt,
      );
      memory = (
        refl,
        locals_typed e (start e f (word thread ∷ [])) (e.function f).locals (Int I32 ∷ []) (word thread ∷ [])
            entry.3.takes
            (thread_word thread (omega (arith, slice_get_within entries thread f is, are.count)), tt),
        tt,
      );
    }

pub reachable_threads_are_sound : ReachableThreadsAreSound
reachable_threads_are_sound modules e entries c well_formed are (at_start thread f is) =
    start_sound modules e entries thread f are is
reachable_threads_are_sound modules e entries c well_formed are (and_step d ws s before fits is) =
    next_sound modules e well_formed d.activations d.memory d.fresh ws s
    (reachable_threads_are_sound modules e entries d well_formed are before) fits is

pub reachable_threads_step : ReachableThreadsStep
reachable_threads_step modules e entries ws c a older well_formed are before fits stands =
    let (s, is, stays, words) = stays_there modules e (step e ws c)
    (step_sound modules e well_formed c.activations c.memory c.fresh ws a older stands
    (reachable_threads_are_sound modules e entries c well_formed are before) fits) in
    (s, is, λ taken. (and_step c ws s before fits is, words))

pub progress_and_preservation : ProgressAndPreservation
progress_and_preservation modules e ws c a older well_formed sound fits stands =
    stays_there modules e (step e ws c)
    (step_sound modules e well_formed c.activations c.memory c.fresh ws a older stands sound fits)

pub values_are_sorted : ValuesAreSorted
values_are_sorted modules e ws c a older unit x sort well_formed sound fits stands unit_is h w =
    subst (λ acts. IsSound modules e (record { activations = acts; memory = c.memory; fresh = c.fresh }) →
    Gets (IsOfSort e (record { activations = acts; memory = c.memory; fresh = c.fresh }) sort)
    (answered (e.entity a.function.unit) (slice_get ws) (cells_at c.memory)
    (value_of (eval_context_of e (record { config = c; newest = a; older = older; words = ws })) x))) (sym stands)
    (λ as_sound. value_here modules e well_formed a older c.memory c.fresh as_sound ws fits unit unit_is x sort h w)
    sound
