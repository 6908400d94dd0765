-- A call: the same function begins in both, with the same arguments.
use Rattle.std.proofs.Common.{◌≡◌, ℕ, ◌+◌, ◌<◌, List, [], ◌∷◌, inl, Option, Some, None, Bool, false, if◌then◌else◌, length, take, slice_get, nat_eq, refl, sym, ap, ◌∙◌, subst, arith}
use Rattle.std.specs.Prelude.{map}
use Rattle.std.proofs.lemmas.Bool.Decides.{nat_tests}
use Rattle.cas_base.specs.Ty.{words_of_ty}
use Rattle.cas_base.specs.declared.act.Act.TheVariants as act
use Rattle.cas_base.specs.declared.decl.Form.TheVariants.{Function as AFunction}
use Rattle.cas_base.specs.declared.kind.Ty.{Ty}
use Rattle.cas_base.specs.declared.kind.Ty.TheVariants.{Void, Int, Ptr, Array}
use Rattle.cas_typed.specs.Modules.{decls_of}
use Rattle.cas_step.specs.Asks as asks
use Rattle.cas_step.specs.Env.{Env}
use Rattle.cas_step.specs.Continuation as items
use Rattle.cas_step.specs.Continuation.{ContItem, begin_all}
use Rattle.cas_step.specs.Sound.{Gets, IsOfType, AreActivations}
use Rattle.cas_step.specs.Step as step
use Rattle.cas_step.specs.Step.{Activation, Block, Config, StepContext, Step, cells_at, locals_of, doing, with_call, step_to, call_step, step_with_effect, newest_step}
use Rattle.cas_step.proofs.Keeping as typed
use Rattle.cas_step.proofs.Targets.{AreOfTypes}
use Rattle.cas_runs.specs.Naming.{Own, Value, Number}
use Rattle.cas_runs.specs.Edge.{results_of}
use Rattle.cas_runs.specs.Machine.{Act}
use Rattle.cas_runs.specs.Access.{Performed}
use Rattle.cas_runs.specs.Calls as runs
use Rattle.cas_runs.specs.Calls.{Last, Calls, Frame, Waits, Thread, Runs, Past, calls_in, of_program, set_blocks, fresh, with_own, one_begun}
use Rattle.cas_runs.specs.Bounds.{first_price}
use Rattle.cas_runs.proofs.Placing.{set_elsewhere}
use Rattle.cas_runs.proofs.Tests.{eq_self}
use Rattle.cas_clight.specs.Clight as clight
use Rattle.cas_clight.specs.Clight.{ClightFun, ClightState, Passed, at, encoded, keeps_pointer, resumed, parameters_of}
use Rattle.cas_bridge.specs.Matching.{AllValuesMatch, MemoryMatches}
use Rattle.cas_bridge.specs.Steps.{Call, FitsCell, with_passed, BothCall}
use Rattle.cas_bridge.specs.Threads.{Program, IsFunction, IsCalledAs, IsPresented, Standing, config_of, context_at, frames_of, results_count, Ran, MatchRunning, state_of, thread_of, MatchThreads, running, ActsAgree, quiet}
use Rattle.cas_bridge.proofs.Calling.{AreArguments, at_same, call_memory, fresh_block, passed_room, arguments_there}
use Rattle.cas_bridge.proofs.Meeting.{bridge_of, typed_fits, newest_is, FitsHere, effect_fits}
use Rattle.cas_bridge.proofs.Owners.{arguments_after, memory_after, frames_after, owners_after}
use Rattle.cas_bridge.proofs.Threading.{KeptBy, none_later, Agrees, Stays}

-- arguments of the parameters' types may stand in the first locals
pub arguments_fit : (e : Env) (c : Config) (tys params : List Ty) (vs : List (asks.Value step.Object)) →
    take (length params) tys ≡ params → typed.AreArguments e c params vs → AreArguments tys vs
arguments_fit e c tys [] [] takes of = tt
arguments_fit e c tys [] (v ∷ vs) takes of = absurd of
arguments_fit e c tys (ty ∷ params) [] takes of = absurd of
arguments_fit e c [] (ty ∷ params) (v ∷ vs) takes of = absurd (cc takes)
arguments_fit e c (t ∷ tys) (ty ∷ params) (v ∷ vs) takes of =
    let first : t ≡ ty = cc takes in
    let others : take (length params) tys ≡ params = cc takes in
    let here = one t v (subst (λ x. IsOfType e c x v) (sym first) of.0) in
    (here.0, here.1, arguments_fit e c tys params vs others of.1)
  where
    one : (t : Ty) (v : asks.Value step.Object) → IsOfType e c t v →
        (words_of_ty t ≡ 1) × FitsCell (keeps_pointer (Some t)) v
    one (Int k) v i = (refl, typed_fits e c (Int k) v i)
    one (Ptr k) v i = (refl, typed_fits e c (Ptr k) v i)
    one Void v i = absurd i
    one (Array k n) v i = absurd i

as_many : (owner : ℕ → ClightFun) (vs : List (asks.Value step.Object)) (vs' : List (asks.Value clight.Object)) →
    AllValuesMatch owner vs vs' → length vs ≡ length (map encoded vs')
as_many owner [] [] h = refl
as_many owner [] (v' ∷ vs') h = absurd h
as_many owner (v ∷ vs) [] h = absurd h
as_many owner (v ∷ vs) (v' ∷ vs') h = let n = as_many owner vs vs' h.1 in omega (arith, n)

as_typed : (e : Env) (c : Config) (tys : List Ty) (vs : List (asks.Value step.Object)) → typed.AreArguments e c tys vs →
    length tys ≡ length vs
as_typed e c [] [] h = refl
as_typed e c [] (v ∷ vs) h = absurd h
as_typed e c (ty ∷ tys) [] h = absurd h
as_typed e c (ty ∷ tys) (v ∷ vs) h = let n = as_typed e c tys vs h.1 in omega (arith, n)

module _ (p : Program) (present : IsPresented p) (owner : ℕ → ClightFun) (r : Standing) (y : Ran)
    (m : MatchRunning p owner r y) (q : Performed (Last ClightState))
    (b : BothCall (bridge_of p owner) (context_at r) (state_of owner r y) y.holding q)
    (kept : KeptBy p present owner r y m q) where
  abbrev e : Env
  e = p.env

  abbrev a : Activation
  a = r.newest

  abbrev h : StepContext
  h = context_at r

  abbrev c : Call
  c = b.call

  callee : FitsHere p present owner r y m (items.calls c.item c.arguments c.target c.cont)
  callee = subst (λ o. Gets (FitsHere p present owner r y m) o) b.effect (effect_fits p present owner r y m)

  declared_here : slice_get (decls_of m.owners.0.unit) c.item ≡ Some c.decl
  declared_here = subst (λ ds. slice_get ds c.item ≡ Some c.decl) m.owners.0.decls b.declared

  as_called : IsCalledAs p c.decl callee.0.f
  as_called = present.called a.function.unit c.item m.owners.0.unit c.decl callee.0.f m.owners.0.unit_is declared_here
      callee.0.is_function

  abbrev it : ClightFun
  it = as_called.it

  form_is : c.decl.form ≡ AFunction callee.0.gives callee.0.tys callee.0.holds
  form_is =
      let (d, there, form) = callee.0.declared in
      let both : Some (newest_is p present owner r y m).unit ≡ Some m.owners.0.unit =
      sym (newest_is p present owner r y m).at_place.unit_is ∙ m.owners.0.unit_is in
      let same : (newest_is p present owner r y m).unit ≡ m.owners.0.unit = cc both in
      let one : Some d ≡ Some c.decl = sym there ∙ ap (λ u. slice_get (decls_of u) c.item) same ∙ declared_here in
      let is : d ≡ c.decl = cc one in
      ap (λ x. x.form) (sym is) ∙ form

  typed_arguments : (tys : List Ty) (vs : List (asks.Value step.Object)) →
      AreOfTypes p.modules p.env present.well_formed r.newest r.older r.memory r.fresh m.sound.activations.0
      m.sound.memory (newest_is p present owner r y m).unit (newest_is p present owner r y m).at_place.unit_is r.words
      m.store tys vs → typed.AreArguments e (config_of r) tys vs
  typed_arguments [] [] g = tt
  typed_arguments [] (v ∷ vs) g = absurd g
  typed_arguments (ty ∷ tys) [] g = absurd g
  typed_arguments (ty ∷ tys) (v ∷ vs) g = (g.0, typed_arguments tys vs g.1)

  arguments_are : typed.AreArguments e (config_of r) callee.0.tys c.arguments
  arguments_are = typed_arguments callee.0.tys c.arguments callee.0.arguments

  size : length c.arguments ≡ length (map encoded c.passed)
  size = as_many owner c.arguments c.passed b.arguments

  count : parameters_of it ≡ length (map encoded c.passed)
  count = as_called.parameters callee.0.gives callee.0.tys callee.0.holds form_is
      ∙ as_typed e (config_of r) callee.0.tys c.arguments arguments_are ∙ size

  abbrev hs : List Passed
  hs = (arguments_there 0 c.passed).0

  -- the functions of activations, with that of the new one
  abbrev after : ℕ → ClightFun
  after n = if nat_eq n r.fresh then it else owner n

  after_new : after r.fresh ≡ it
  after_new = ap (λ (t : Bool). if t then it else owner r.fresh) (eq_self r.fresh)

  after_old : (n : ℕ) → n < r.fresh → after n ≡ owner n
  after_old n less =
      let no : nat_eq n r.fresh ≡ false = grind (arith, nat_tests, less) in
      ap (λ (t : Bool). if t then it else owner n) no

  -- the step, and where the thread is after it
  abbrev s : Step
  s = step_to e h c.reads act.Quiet (with_call e (doing h c.cont) r.memory r.fresh callee.0.f c.arguments c.target)

  abbrev begun : Standing
  begun = record {
    newest = record {
      serial = r.fresh;
      function = callee.0.f;
      target = c.target;
      cont = begin_all (e.function callee.0.f).body [];
    };
    older = doing h c.cont;
    memory = record { serial = r.fresh; locals = locals_of (e.function callee.0.f).locals c.arguments } ∷ r.memory;
    fresh = r.fresh + 1;
    words = r.words;
  }

  is_function : IsFunction p callee.0.f (after r.fresh)
  is_function = subst (λ f. IsFunction p callee.0.f f) (sym after_new) as_called.is

  abbrev entered : Ran
  entered = record {
    passed = hs;
    past = one_begun clight.clight y.past;
    holding = with_own clight.clight (after r.fresh) r.fresh q.holding;
  }

  none_yet : (n : ℕ) → q.holding.memory (Own (after r.fresh).decl.name r.fresh n) ≡ None
  none_yet n = none_later p present owner r y m q kept (after r.fresh).decl.name r.fresh n (omega arith)

  fit : AreArguments (after r.fresh).locals c.arguments
  fit = subst (λ tys. AreArguments tys c.arguments) (sym is_function.locals)
      (arguments_fit e (config_of r) (e.function callee.0.f).locals callee.0.tys c.arguments
      callee.0.signature.takes arguments_are)

  memory_begun : MemoryMatches after (cells_at begun.memory)
      (with_passed (after r.fresh) r.fresh entered.holding.memory hs)
  memory_begun =
      subst (λ tys. MemoryMatches after
      (cells_at (record { serial = r.fresh; locals = locals_of tys c.arguments } ∷ r.memory))
      (with_passed (after r.fresh) r.fresh entered.holding.memory hs)) is_function.locals
      (call_memory after r.memory q.holding.memory
      (memory_after owner after r.fresh after_old p.modules e (config_of r) (omega arith) (a ∷ r.older) r.memory
      q.holding.memory m.sound.activations m.sound.memory (none_later p present owner r y m q kept) b.holds.0.memory)
      r.fresh none_yet c.arguments c.passed
      (arguments_after owner after r.fresh after_old p.modules e (config_of r) (omega arith) callee.0.tys c.arguments
      c.passed arguments_are b.arguments) size fit hs (arguments_there 0 c.passed).1)

  matching : Stays p present owner r y m (Some s) → MatchRunning p after begun entered
  matching stays = record {
    sound = stays.0;
    store = stays.1;
    owners = (
      is_function,
      owners_after owner after r.fresh after_old p.modules e p r.fresh (omega arith) (doing h c.cont)
          stays.0.activations.3 m.owners,
    );
    begun = ap (λ n. n + 1) m.begun;
    blocks = record {
      memory = memory_begun;
      room = passed_room (after r.fresh) r.fresh (after r.fresh).locals c.arguments (map encoded c.passed) 0 hs size fit
          (arguments_there 0 c.passed).1 entered.holding.memory
          (λ j. ap entered.holding.memory (at_same (after r.fresh) r.fresh (0 + j) j (omega arith))
          ∙ fresh_block (after r.fresh) r.fresh q.holding.memory none_yet (after r.fresh).locals j);
      none_later = λ function serial block late.
          set_elsewhere (fresh (Number 0)) q.holding.memory (after r.fresh).decl.name r.fresh 0
          (map words_of_ty (after r.fresh).locals) (Own function serial block)
          (λ j less g. (let n : serial ≡ r.fresh = cc g in omega (arith, n, late)))
          ∙ none_later p present owner r y m q kept function serial block (omega (arith, late));
    };
    words = b.holds.0.words;
    ordered = kept.ordered;
  }

  -- the thread of label runs after its step
  abbrev Next : ClightFun → ℕ → List ContItem → List (Frame ClightFun ClightState) → Thread ClightFun ClightState
  Next g n cont frames =
      Runs g n (at g n hs cont) (first_price clight.clight.tariff clight.clight.blocks it) frames
      (one_begun clight.clight y.past)
      (with_own clight.clight g n q.holding)

  abbrev waiting : List (Frame ClightFun ClightState)
  waiting =
      Waits (owner a.serial) a.serial (Some (results_count it)) (resumed (owner a.serial) a.serial c.cont c.target)
      ∷ frames_of owner (owner a.serial) a.target r.older

  next_is : AreActivations p.modules e r.fresh (doing h c.cont) →
      thread_of after begun entered (first_price clight.clight.tariff clight.clight.blocks it)
      ≡ Next it y.past.begun (begin_all it.body []) waiting
  next_is before =
      ap (λ frames. Next (after r.fresh) r.fresh (begin_all (e.function callee.0.f).body []) frames)
      (frames_after owner after r.fresh after_old p.modules e r.fresh (omega arith) (doing h c.cont) before
      (after r.fresh) c.target)
      ∙ ap (λ g. Next g r.fresh (begin_all (e.function callee.0.f).body [])
      (frames_of owner g c.target (doing h c.cont))) after_new
      ∙ ap (λ body. Next it r.fresh (begin_all body []) waiting) (sym as_called.is.body)
      ∙ ap (λ n. Next it n (begin_all it.body []) waiting) (sym m.begun)

  abbrev Goal : Thread ClightFun ClightState → Type 0
  Goal x = MatchThreads p s.next r.words x

  matches : Stays p present owner r y m (Some s) → Goal (Next it y.past.begun (begin_all it.body []) waiting)
  matches stays = subst Goal (next_is stays.0.activations.3) (running after begun entered _ (matching stays))

  abbrev Ours : Act (Thread ClightFun ClightState) → Type 0
  Ours x = ActsAgree p r.words y.holding.share q.footprint (Some s) x

  abbrev values : List Value
  values = map encoded c.passed

  abbrev resuming : List Value → Option ClightState
  resuming = resumed (owner a.serial) a.serial c.cont c.target

  abbrev older_frames : List (Frame ClightFun ClightState)
  older_frames = frames_of owner (owner a.serial) a.target r.older

  both_call : Stays p present owner r y m (Some s) →
      Ours (runs.calls clight.clight p.setting (of_program p.functions)
      (runs.find clight.clight p.functions c.decl.name) c.decl.name values
      (Waits (owner a.serial) a.serial (results_of p.setting.edge c.decl.name) resuming ∷ older_frames)
      y.past q.holding)
  both_call stays =
      subst (λ o. Ours (runs.calls clight.clight p.setting (of_program p.functions) o c.decl.name values
      (Waits (owner a.serial) a.serial (results_of p.setting.edge c.decl.name) resuming ∷ older_frames) y.past
      q.holding)) (sym as_called.found)
      (subst (λ o. Ours (calls_in clight.clight it (clight.enter it y.past.begun values)
      (Waits (owner a.serial) a.serial o resuming ∷ older_frames) y.past q.holding)) (sym as_called.results)
      (subst (λ n. Ours (calls_in clight.clight it (clight.begun it y.past.begun (clight.arguments 0 n values)) waiting
      y.past q.holding)) (sym count)
      (subst (λ o. Ours (calls_in clight.clight it (clight.begun it y.past.begun o) waiting y.past q.holding))
      (sym (arguments_there 0 c.passed).1) (quiet s _ refl b.holds.1 (λ i. inl refl) (matches stays)))))

  pub call_agrees : Stays p present owner r y m (newest_step e h) →
      Agrees p present owner r y m (newest_step e h) q
      (Some (Calls c.decl.name (map encoded c.passed) (resumed (owner a.serial) a.serial c.cont c.target)))
  call_agrees stays =
      let is : newest_step e h ≡ Some s = ap (λ o. step_with_effect e h o) b.effect
      ∙ ap (λ x. call_step e h c.reads x c.arguments c.target c.cont) callee.0.is_function in
      subst (λ o. Agrees p present owner r y m o q
      (Some (Calls c.decl.name (map encoded c.passed) (resumed (owner a.serial) a.serial c.cont c.target)))) (sym is)
      (both_call (subst (λ o. Stays p present owner r y m o) is stays))
