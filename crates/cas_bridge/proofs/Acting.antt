-- A thread of a program and the same thread over label runs: they begin at the same, and their steps agree.
use Rattle.std.proofs.Common.{◌≡◌, ℕ, ◌+◌, List, [], ◌∷◌, ⊎_elim, Option, Some, None, map, slice_get, IsTrue, refl, sym, ap, ◌∙◌, subst, arith}
use Rattle.std.proofs.lemmas.Option.{slice_get_within}
use Rattle.cas_base.specs.Kind.{is_of_kind}
use Rattle.cas_base.specs.Ty.{words_of_ty}
use Rattle.cas_base.specs.declared.kind.Kind.{Kind}
use Rattle.cas_base.specs.declared.kind.Kind.TheVariants.{I32}
use Rattle.cas_base.specs.declared.kind.Ty.TheVariants.{Int}
use Rattle.cas_base.proofs.KindLaws.{narrowed_is_of_kind}
use Rattle.cas_step.specs.Asks as asks
use Rattle.cas_step.specs.Continuation.{begin_all}
use Rattle.cas_step.specs.Env.{FunctionAt}
use Rattle.cas_step.specs.Step as step
use Rattle.cas_step.specs.Step.{Config, Step, cells_at, locals_of, newest_step}
use Rattle.cas_step.specs.Well_formed.{AreEntries, IsWellTypedStore, at_start}
use Rattle.cas_step.proofs.Soundness.{reachable_threads_are_sound}
use Rattle.cas_runs.specs.Label.{NameBytes, Share}
use Rattle.cas_runs.specs.Edge.{Cell, SharedWord, TableWord}
use Rattle.cas_runs.specs.Naming.{Own, Number}
use Rattle.cas_runs.specs.Machine.{Stops, Ended}
use Rattle.cas_runs.specs.Access.{Performed, words_in}
use Rattle.cas_runs.specs.Bounds.{first_price}
use Rattle.cas_runs.specs.Calls.{Last, Thread, Runs, enters_at, find, fresh, no_past, no_holding, nothing_touched, one_begun, starts, with_own}
use Rattle.cas_runs.proofs.Placing.{set_elsewhere}
use Rattle.cas_clight.specs.Clight as clight
use Rattle.cas_clight.specs.Clight.{ClightFun, ClightState, Passed, at, encoded}
use Rattle.cas_bridge.specs.Alike.{numbers}
use Rattle.cas_bridge.specs.Matching.{IsGuardMissing, MemoryMatches, WordsMatch}
use Rattle.cas_bridge.specs.Steps.{StepsMatch, goes, puts, takes, gives, calls, returns, is_bad, is_stuck, touches, no_lock, with_passed}
use Rattle.cas_bridge.specs.Threads.{Program, IsPresented, IsEntryAt, Standing, config_of, context_at, Ran, MatchRunning, state_of, MatchThreads, running, over, DifferElsewhere, ActsAgree, ended, ThreadsAgree, ThreadsAreFramed, ThreadsStart}
use Rattle.cas_bridge.proofs.Calling.{AreArguments, at_same, call_memory, fresh_block, passed_room}
use Rattle.cas_bridge.proofs.Entering.{arguments_fit, call_agrees}
use Rattle.cas_bridge.proofs.Leaving.{return_agrees}
use Rattle.cas_bridge.proofs.Meeting.{bridge_of, meet, stays}
use Rattle.cas_bridge.proofs.Stepping.{steps_agree}
use Rattle.cas_bridge.proofs.Threading.{KeptBy, step_keeps, Agrees, Stays, goes_agrees, prints_agree, takes_agree, gives_agree, bad_agrees, touch_agrees}

module _ (p : Program) (present : IsPresented p) (owner : ℕ → ClightFun) (r : Standing) (y : Ran)
    (m : MatchRunning p owner r y) where
  -- by what the step of the activation does at last
  agree : (o : Option Step) (q : Performed (Last ClightState)) →
      StepsMatch (bridge_of p owner) (context_at r) (state_of owner r y) y.holding o q →
      newest_step p.env (context_at r) ≡ o → KeptBy p present owner r y m q → Stays p present owner r y m o →
      Agrees p present owner r y m o q q.last
  agree _ _ (goes s q g is last) same kept stay = subst (λ l. Agrees p present owner r y m (Some s) q l) (sym last)
      (goes_agrees p present owner r y m s q g is kept stay)
  agree _ _ (puts n s q g is unchanged last) same kept stay =
      subst (λ l. Agrees p present owner r y m (Some s) q l) (sym last)
      (prints_agree p present owner r y m n s q g is unchanged kept stay)
  agree _ _ (takes n name s q g is unchanged guard last) same kept stay =
      subst (λ l. Agrees p present owner r y m (Some s) q l) (sym last)
      (takes_agree p present owner r y m n name s q g is unchanged guard kept stay)
  agree _ _ (gives n name s q g is unchanged guard last) same kept stay =
      subst (λ l. Agrees p present owner r y m (Some s) q l) (sym last)
      (gives_agree p present owner r y m n name s q g is unchanged guard kept stay)
  agree _ _ (calls o q b) same kept stay = subst (λ x. Agrees p present owner r y m x q q.last) same
      (subst (λ l. Agrees p present owner r y m (newest_step p.env (context_at r)) q l) (sym b.last)
      (call_agrees p present owner r y m q b kept (subst (λ x. Stays p present owner r y m x) (sym same) stay)))
  agree _ _ (returns o q b) same kept stay = subst (λ x. Agrees p present owner r y m x q q.last) same
      (subst (λ l. Agrees p present owner r y m (newest_step p.env (context_at r)) q l) (sym b.last)
      (return_agrees p present owner r y m q b kept (subst (λ x. Stays p present owner r y m x) (sym same) stay)))
  agree _ _ (is_bad why s q is last foot) same kept stay =
      subst (λ l. Agrees p present owner r y m (Some s) q l) (sym last) (bad_agrees p present owner r y m why s q is)
  agree _ _ (is_stuck q last) same kept stay = absurd stay
  agree _ _ (touches n o q missing touched last) same kept stay =
      subst (λ l. Agrees p present owner r y m o q l) (sym last)
      (touch_agrees p present owner r y m n o q missing touched stay)
  agree _ _ (no_lock q) same kept stay = absurd stay

pub threads_agree : ThreadsAgree
threads_agree p present _ _ _ (running owner r y extra m) =
    agree p present owner r y m _ _
    (steps_agree (bridge_of p owner) (context_at r) (state_of owner r y) y.holding (meet p present owner r y m)) refl
    (step_keeps p present owner r y m) (stays p present owner r y m)
threads_agree p present _ _ _ (over c words is) =
    subst (λ o. ActsAgree p words [] nothing_touched o (Stops Ended)) (sym none) ended
  where
    none : step.step p.env words c ≡ None
    none = ap (λ acts. step.step_of p.env words c acts) is

-- the words of the share are those that they were
words_framed : (cells : List Cell) (share : Share) (words after : List ℕ) → WordsMatch cells share words →
    DifferElsewhere cells share words after → WordsMatch cells share after
words_framed cells share words after old differ = record {
  held = λ lock ws e n initial kind g. ⊎_elim (λ same. old.held lock ws e n initial kind g ∙ sym same)
      (λ other. held_there lock ws e n initial kind g other.0 other.1 other.2 other.3 other.4) (differ n);
  tables = λ n value g. ⊎_elim (λ same. same ∙ old.tables n value g)
      (λ other. (let both : Some (SharedWord other.2 other.0 other.1) ≡ Some (TableWord value) = sym other.3 ∙ g in
      cc both)) (differ n);
}
  where
    held_there : {C : Type 0} (lock : ℕ) (ws : List ℕ) → words_in share lock ≡ Some ws → (n initial : ℕ) (kind : Kind) →
        slice_get cells n ≡ Some (SharedWord kind (Some lock) initial) → (guard : Option ℕ) (i : ℕ) (k : Kind) →
        slice_get cells n ≡ Some (SharedWord k guard i) → IsGuardMissing share guard → C
    held_there lock ws e n initial kind g guard i k is missing =
        let both : Some (SharedWord kind (Some lock) initial) ≡ Some (SharedWord k guard i) = sym g ∙ is in
        let same : Some lock ≡ guard = cc both in
        let none : words_in share lock ≡ None = subst (λ o. IsGuardMissing share o) (sym same) missing in
        cc (e, none)

pub threads_are_framed : ThreadsAreFramed
threads_are_framed p _ _ after _ (running owner r y extra m) store differ =
    running owner
    (record { newest = r.newest; older = r.older; memory = r.memory; fresh = r.fresh; words = after }) y extra
    (record {
      sound = m.sound;
      store = store;
      owners = m.owners;
      begun = m.begun;
      blocks = record { memory = m.blocks.memory; room = m.blocks.room; none_later = m.blocks.none_later };
      words = words_framed p.setting.edge.cells y.holding.share r.words after m.words differ;
      ordered = m.ordered;
    })
threads_are_framed p _ _ after _ (over c words is) store differ = over c after is

-- The start.

module _ (p : Program) (present : IsPresented p) (entries : List FunctionAt) (are : AreEntries p.modules p.env entries)
    (thread : ℕ) (f : FunctionAt) (name : NameBytes) (there : slice_get entries thread ≡ Some f)
    (entry : IsEntryAt p f name) (words : List ℕ) (store : IsWellTypedStore p.env words)
    (tables : (n value : ℕ) → slice_get p.setting.edge.cells n ≡ Some (TableWord value) →
    slice_get words n ≡ Some value) where
  abbrev it : ClightFun
  it = entry.it

  abbrev owner : ℕ → ClightFun
  owner n = it

  abbrev first : Standing
  first = record {
    newest = record { serial = 0; function = f; target = None; cont = begin_all (p.env.function f).body [] };
    older = [];
    memory = record { serial = 0; locals = locals_of (p.env.function f).locals (asks.word thread ∷ []) } ∷ [];
    fresh = 1;
    words = words;
  }

  abbrev hs : List Passed
  hs = record { local = 0; value = Number thread } ∷ []

  abbrev entered : Ran
  entered = record {
    passed = hs;
    past = one_begun clight.clight no_past;
    holding = with_own clight.clight it 0 no_holding;
  }

  is_word : IsTrue (is_of_kind thread I32)
  is_word = narrowed_is_of_kind thread I32 (omega (arith, slice_get_within entries thread f there, are.count))

  fit : AreArguments it.locals (asks.word thread ∷ [])
  fit = subst (λ tys. AreArguments tys (asks.word thread ∷ [])) (sym entry.is.locals)
      (arguments_fit p.env (config_of first) (p.env.function f).locals (Int I32 ∷ []) (asks.word thread ∷ [])
      (are.each thread f there).3.takes (is_word, tt))

  memory_begun : MemoryMatches owner (cells_at first.memory) (with_passed it 0 entered.holding.memory hs)
  memory_begun =
      subst (λ tys. MemoryMatches owner
      (cells_at (record { serial = 0; locals = locals_of tys (asks.word thread ∷ []) } ∷ []))
      (with_passed it 0 entered.holding.memory hs)) entry.is.locals
      (call_memory owner [] no_holding.memory (λ o. tt) 0 (λ n. refl) (asks.word thread ∷ []) (asks.word thread ∷ [])
      (numbers thread, tt) refl fit hs refl)

  matching : MatchRunning p owner first entered
  matching = record {
    sound = reachable_threads_are_sound p.modules p.env entries (config_of first) present.well_formed are
        (at_start thread f there);
    store = store;
    owners = (entry.is, tt);
    begun = refl;
    blocks = record {
      memory = memory_begun;
      room = passed_room it 0 it.locals (asks.word thread ∷ []) (Number thread ∷ []) 0 hs refl fit refl
          entered.holding.memory (λ j. ap entered.holding.memory (at_same it 0 (0 + j) j (omega arith))
          ∙ fresh_block it 0 no_holding.memory (λ n. refl) it.locals j);
      none_later = λ function serial block late.
          set_elsewhere (fresh (Number 0)) no_holding.memory it.decl.name 0 0 (map words_of_ty it.locals)
          (Own function serial block) (λ j less g. (let n : serial ≡ 0 = cc g in omega (arith, n, late)));
    };
    words = record { held = λ lock ws e n initial kind g. absurd (cc e); tables = tables };
    ordered = tt;
  }

  abbrev Goal : Thread ClightFun ClightState → Type 0
  Goal x = MatchThreads p (step.start p.env f (asks.word thread ∷ [])) words x

  starts_so : Goal (starts clight.clight (find clight.clight p.functions name) thread)
  starts_so =
      subst (λ o. Goal (starts clight.clight o thread)) (sym entry.found)
      (subst (λ n. Goal (enters_at clight.clight it (clight.begun it 0 (clight.arguments 0 n (Number thread ∷ []))) []
      no_past no_holding)) (sym entry.parameters)
      (subst (λ body. Goal (Runs it 0 (at it 0 hs (begin_all body [])) (first_price clight.clight.tariff
      clight.clight.blocks it) [] (one_begun clight.clight no_past) (with_own clight.clight it 0 no_holding)))
      (sym entry.is.body) (running owner first entered _ matching)))

pub threads_start : ThreadsStart
threads_start p present entries are thread f name there entry words store tables =
    starts_so p present entries are thread f name there entry words store tables
