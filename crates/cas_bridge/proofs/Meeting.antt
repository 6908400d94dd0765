-- Where a thread of a program and the same thread of label runs are at the same, so are their newest activations.
use Rattle.std.proofs.Common.{◌≡◌, ℕ, List, [], ◌∷◌, Option, Some, None, Bool, true, false, if◌then◌else◌, slice_get, nat_eq, refl, sym, ap, ◌∙◌, subst, eqb-true}
use Rattle.cas_base.specs.declared.decl.Decl.{Decl}
use Rattle.cas_base.specs.declared.kind.Ty.{Ty}
use Rattle.cas_base.specs.declared.kind.Ty.TheVariants.{Void, Int, Ptr, Array}
use Rattle.cas_typed.specs.Literals.{BodyHasWords}
use Rattle.cas_typed.specs.Modules.{decls_of}
use Rattle.cas_typed.specs.Resolved.{TypedExprTree, TypedStmtList, absent, present}
use Rattle.cas_typed.specs.Sorts as so
use Rattle.cas_typed.specs.Sorts.{AreSorted, IsTest}
use Rattle.cas_step.specs.Answered.{Got, got, bad, got_stuck, value_at}
use Rattle.cas_step.specs.Asks as asks
use Rattle.cas_step.specs.Env.{Env, length_of}
use Rattle.cas_step.specs.Continuation as items
use Rattle.cas_step.specs.Continuation.{ContItem, Effect}
use Rattle.cas_step.specs.Sound.{Gets, types_of, types_at, IsOfType, cell_type, IsSoundActivation}
use Rattle.cas_step.specs.Stands.{MayDo}
use Rattle.cas_step.specs.Step as step
use Rattle.cas_step.specs.Step.{Activation, Config, StepContext, Step, cells_at, entity_in, newest_step}
use Rattle.cas_step.proofs.Effects.{EffectFits, effect_certain}
use Rattle.cas_step.proofs.Memory as sound
use Rattle.cas_step.proofs.Memory.{MayHold, type_at, object_match}
use Rattle.cas_step.proofs.Situation.{body_sorted, body_words}
use Rattle.cas_step.proofs.Soundness.{StaysSound, progress_and_preservation}
use Rattle.cas_step.proofs.Standing.{stands_good, loop_test, for_test, after_stands}
use Rattle.cas_step.proofs.Values.{ThereIs}
use Rattle.cas_step.proofs.Within.{Any}
use Rattle.cas_clight.specs.Clight as clight
use Rattle.cas_clight.specs.Clight.{ClightFun, keeps_pointer}
use Rattle.cas_bridge.specs.Matching.{IsAddressableOption, IsAddressableNext, ItemMatches, points}
use Rattle.cas_bridge.specs.Steps.{Bridge, FitsCell, StoreFits, next_effect, MatchStates}
use Rattle.cas_bridge.specs.Threads.{Program, IsPresented, Standing, config_of, context_at, AreOwners, Ran, MatchRunning, state_of}
use Rattle.cas_bridge.proofs.Sorted.{aims_of, sorted_aims}

-- In what a function still does no pointer is made to a local that keeps a pointer.

module _ (vs : List Ty) (ds : List Decl) (ret : Ty) (body : TypedStmtList) (sorted : AreSorted vs ds ret false body)
    (words : BodyHasWords body) where
  test_aims : (c : Option TypedExprTree) → IsTest vs ds c → IsAddressableOption vs c
  test_aims None h = tt
  test_aims (Some c) h = aims_of vs ds c so.word h

  next_aims : (cont : List ContItem) → MayDo body cont → IsAddressableNext vs cont
  next_aims [] may = tt
  next_aims (items.begin s ∷ cont) may =
      sorted_aims vs ds ret may.0.0 s (stands_good vs ds ret body sorted words may.0.1).0
  next_aims (items.begun p c s ∷ cont) may =
      aims_of vs ds c so.word (loop_test vs ds ret body sorted words may.0.0 p c s may.0.1).0
  next_aims (items.loop p c u s ∷ cont) may =
      test_aims c (for_test vs ds ret body sorted words may.0.0 p may.0.1 c u s may.0.2).0
  next_aims (items.next p absent ∷ cont) may = tt
  next_aims (items.next p (present s) ∷ cont) may =
      let (l, stands, leave) = after_stands body p s cont may.0 may.1 in
      sorted_aims vs ds ret l s (stands_good vs ds ret body sorted words stands).0

-- a value of a cell's type may be in the cell
pub typed_fits : (e : Env) (c : Config) (ty : Ty) (v : asks.Value step.Object) → IsOfType e c (cell_type ty) v →
    FitsCell (keeps_pointer (Some ty)) v
typed_fits e c (Int k) (asks.word n) of = tt
typed_fits e c (Int k) asks.null of = absurd of
typed_fits e c (Int k) (asks.pointer o p) of = absurd of
typed_fits e c (Ptr k) (asks.word n) of = absurd of
typed_fits e c (Ptr k) asks.null of = tt
typed_fits e c (Ptr k) (asks.pointer o p) of = tt
typed_fits e c Void v of = absurd of
typed_fits e c (Array k n) (asks.word i) of = tt
typed_fits e c (Array k n) asks.null of = absurd of
typed_fits e c (Array k n) (asks.pointer o p) of = absurd of

-- the locals of an activation are those of its function
pub owner_types : (p : Program) (owner : ℕ → ClightFun) (activations : List Activation) →
    AreOwners p owner activations →
    (serial : ℕ) (tys : List Ty) → types_at p.env activations serial ≡ Some tys → (owner serial).locals ≡ tys
owner_types p owner [] h serial tys is = absurd (cc is)
owner_types p owner (a ∷ older) h serial tys is = by (nat_eq a.serial serial) refl is
    (λ j. owner_types p owner older h.1 serial tys j)
  where
    by : (t : Bool) → nat_eq a.serial serial ≡ t →
        (if t then Some (types_of p.env a) else types_at p.env older serial) ≡ Some tys →
        (types_at p.env older serial ≡ Some tys → (owner serial).locals ≡ tys) → (owner serial).locals ≡ tys
    by true d j later =
        let same : types_of p.env a ≡ tys = cc j in
        ap (λ n. (owner n).locals) (sym (eqb-true a.serial serial d)) ∙ h.0.locals ∙ same
    by false d j later = later j

-- both threads
abbrev pub bridge_of : Program → (owner : (serial : ℕ) → ClightFun) → Bridge
bridge_of p owner = record { env = p.env; setting = p.setting; owner = owner }

module _ (p : Program) (present : IsPresented p) (owner : ℕ → ClightFun) (r : Standing) (y : Ran)
    (m : MatchRunning p owner r y) where
  abbrev e : Env
  e = p.env

  abbrev a : Activation
  a = r.newest

  abbrev h : StepContext
  h = context_at r

  abbrev pub newest_is : IsSoundActivation p.modules p.env r.newest
  newest_is = m.sound.activations.1

  abbrev pub FitsHere : Effect step.Object → Type 0
  FitsHere d = EffectFits p.modules p.env present.well_formed r.newest r.older r.memory r.fresh m.sound.activations.0
      m.sound.memory newest_is.unit newest_is.at_place.unit_is r.words m.store d

  pub effect_fits : Gets FitsHere (next_effect e h)
  effect_fits = effect_certain p.modules p.env present.well_formed r.newest r.older r.memory r.fresh
      m.sound.activations.0 m.sound.memory newest_is.unit newest_is.at_place.unit_is r.words m.store newest_is.it
      newest_is.at_place r.newest.cont newest_is.doing

  -- what is stored into an object has the type of its cells
  object_fits : (o : step.Object) (i : ℕ) (v : asks.Value step.Object) →
      ThereIs Any (value_at (cells_at r.memory o) i) → MayHold e (config_of r) (a ∷ r.older) o v →
      FitsCell (points owner o) v
  object_fits o i v there may = by (types_at e (a ∷ r.older) o.serial) refl
      (object_match e (config_of r) (a ∷ r.older) r.memory m.sound.memory o)
    where
      untyped : (cells : Option (List (asks.Value step.Object))) → ThereIs Any (value_at cells i) →
          sound.CellsMatch e (config_of r) None cells → FitsCell (points owner o) v
      untyped None t c = absurd t
      untyped (Some vs) t c = absurd c

      of_local : (tys : List Ty) → types_at e (a ∷ r.older) o.serial ≡ Some tys → (ty : Option Ty) →
          slice_get tys o.local ≡ ty → sound.CellsMatch e (config_of r) ty (cells_at r.memory o) →
          FitsCell (points owner o) v
      of_local tys is None has c = untyped (cells_at r.memory o) there c
      of_local tys is (Some ty) has c =
          subst (λ b. FitsCell b v) (ap keeps_pointer (sym has)
          ∙ ap (λ ts. keeps_pointer (slice_get ts o.local))
          (sym (owner_types p owner (a ∷ r.older) m.owners o.serial tys
          is))) (typed_fits e (config_of r) ty v (may tys ty is has))

      by : (tys : Option (List Ty)) → types_at e (a ∷ r.older) o.serial ≡ tys →
          sound.CellsMatch e (config_of r) (type_at e (config_of r) tys o.local) (cells_at r.memory o) →
          FitsCell (points owner o) v
      by None is c = untyped (cells_at r.memory o) there c
      by (Some tys) is c = of_local tys is (slice_get tys o.local) refl c

  store_fits : (o : Got (Effect step.Object)) → Gets FitsHere o → StoreFits owner o
  store_fits (got_stuck rs) f = tt
  store_fits (bad rs why) f = tt
  store_fits (got rs (items.continues cont)) f = tt
  store_fits (got rs (items.stores o i v cont)) f = object_fits o i v f.0 f.1
  store_fits (got rs (items.writes g i n cont)) f = tt
  store_fits (got rs (items.calls g vs target cont)) f = tt
  store_fits (got rs (items.returns v)) f = tt
  store_fits (got rs (items.locks g cont)) f = tt
  store_fits (got rs (items.unlocks g cont)) f = tt
  store_fits (got rs (items.prints n cont)) f = tt

  -- both activations are at the same
  pub meet : MatchStates (bridge_of p owner) (context_at r) (state_of owner r y) y.holding
  meet = record {
    function = refl;
    serial = refl;
    continuation = refl;
    result = m.owners.0.result;
    items = λ g. subst (λ ds. ItemMatches p.setting.edge (entity_in e h g) (slice_get ds g)) (sym m.owners.0.decls)
        (present.items a.function.unit g m.owners.0.unit m.owners.0.unit_is);
    lengths = λ g. subst
        (λ ds. length_of (entity_in e h g) ≡ length_of (clight.entity_of (slice_get ds g))) (sym m.owners.0.decls)
        (present.lengths a.function.unit g m.owners.0.unit m.owners.0.unit_is);
    memory = m.blocks.memory;
    words = m.words;
    addressable = subst (λ tys. IsAddressableNext tys a.cont) (sym m.owners.0.locals)
        (next_aims (types_of e a) (decls_of newest_is.unit) (e.function a.function).ret (e.function a.function).body
        (body_sorted p.modules p.env present.well_formed a.function newest_is.unit newest_is.it newest_is.at_place)
        (body_words p.modules p.env present.well_formed a.function newest_is.unit newest_is.it newest_is.at_place)
        a.cont newest_is.doing);
    room = m.blocks.room;
    fits = store_fits (next_effect e h) effect_fits;
  }

  -- there is a next step, and the thread stays sound
  pub stays : StaysSound p.modules p.env (newest_step p.env (context_at r))
  stays =
      let (s, is, next, words) = progress_and_preservation p.modules p.env r.words (config_of r) r.newest r.older
      present.well_formed m.sound m.store refl in
      subst (λ o. StaysSound p.modules p.env o) (sym is) (next, words)
