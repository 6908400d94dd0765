-- A return: to a caller, which keeps the result or not, or the end of the thread.
use Rattle.std.proofs.Common.{◌≡◌, ℕ, ◌<◌, ◌≤◌, List, [], ◌∷◌, inl, Option, Some, None, Bool, length, slice_get, refl, sym, ap, ◌∙◌, subst, arith}
use Rattle.std.specs.Prelude.{map}
use Rattle.cas_base.specs.Ty.{words_of_ty}
use Rattle.cas_base.specs.declared.kind.Ty.{Ty}
use Rattle.cas_base.specs.declared.kind.Ty.TheVariants.{Void, Int, Ptr, Array}
use Rattle.cas_typed.specs.declared.tree.Destination.{Destination}
use Rattle.cas_typed.specs.Sorts.{IsLocal, MayKeep}
use Rattle.cas_step.specs.Answered.{value_at}
use Rattle.cas_base.specs.Word.{narrowed}
use Rattle.cas_step.specs.Asks as asks
use Rattle.cas_step.specs.Env.{Env}
use Rattle.cas_step.specs.Sound.{Gets, types_of, types_at, CallerKeeps, IsSound}
use Rattle.cas_step.specs.Step as step
use Rattle.cas_step.specs.Step.{Activation, Block, StepContext, Step, cells_at, memory_without, memory_with, memory_storing, memory_keeping, thread_with, return_to, return_step, step_with_effect, newest_step}
use Rattle.cas_step.proofs.Effects.{IsReturned}
use Rattle.cas_step.proofs.Keeping.{without_blocks, types_before}
use Rattle.cas_step.proofs.Memory as sound
use Rattle.cas_step.proofs.Memory.{type_at, object_match}
use Rattle.cas_step.proofs.Situation.{own_types}
use Rattle.cas_step.proofs.Soundness.{StaysSound}
use Rattle.cas_runs.specs.Label.{NameBytes}
use Rattle.cas_runs.specs.Edge as edge
use Rattle.cas_runs.specs.Naming.{Own, Value, and_then}
use Rattle.cas_runs.specs.Access.{Holding, Performed}
use Rattle.cas_runs.specs.Calls.{Last, Returns, Runs, first_values, goes_back, returns, without_own, gone}
use Rattle.cas_runs.proofs.Placing.{set_elsewhere}
use Rattle.cas_clight.specs.Clight as clight
use Rattle.cas_clight.specs.Clight.{ClightFun, ClightState, Passed, at, encoded, keeps_pointer, resumed, passing, result_of}
use Rattle.cas_bridge.specs.Alike.{numbers, nulls, pointers}
use Rattle.cas_bridge.specs.Matching.{home_of, points, ValuesMatch, ResultsMatch, BlocksMatch, MemoryMatches}
use Rattle.cas_bridge.specs.Steps.{FitsCell, with_passed, HaveRoomFor, BothReturn}
use Rattle.cas_bridge.specs.Threads.{Program, IsPresented, Standing, context_at, AreOwners, frames_of, Ran, MatchRunning, state_of, MatchThreads, running, over, ActsAgree, quiet, ends}
use Rattle.cas_bridge.proofs.Calling.{return_memory, kept_memory}
use Rattle.cas_bridge.proofs.Meeting.{bridge_of, newest_is, FitsHere, effect_fits}
use Rattle.cas_bridge.proofs.Threading.{KeptBy, none_later, Agrees, Stays}

-- a kept value is converted alike
converted_same : (owner : ℕ → ClightFun) (ty : Ty) (w : asks.Value step.Object) (w' : asks.Value clight.Object)
    (u : asks.Value step.Object) → step.converted ty w ≡ Some u → ValuesMatch owner w w' →
    (u' : asks.Value clight.Object) × (clight.converted ty (encoded w') ≡ Some (encoded u')) × ValuesMatch owner u u'
    × FitsCell (keeps_pointer (Some ty)) u
converted_same owner (Int k) w w' u is (numbers n) = by u is
  where
    by : (u : asks.Value step.Object) → step.converted (Int k) (asks.word n) ≡ Some u →
        (u' : asks.Value clight.Object) × (clight.converted (Int k) (encoded (asks.word n)) ≡ Some (encoded u'))
        × ValuesMatch owner u u' × FitsCell (keeps_pointer (Some (Int k))) u
    by u i =
        let same : asks.word (narrowed n k) ≡ u = cc i in
        subst (λ v. (u' : asks.Value clight.Object)
        × (clight.converted (Int k) (encoded (asks.word n)) ≡ Some (encoded u'))
        × ValuesMatch owner v u' × FitsCell (keeps_pointer (Some (Int k))) v) same
        (asks.word (narrowed n k), refl, numbers (narrowed n k), tt)
converted_same owner (Int k) w w' u is nulls = absurd (cc is)
converted_same owner (Int k) w w' u is (pointers p h flag) = absurd (cc is)
converted_same owner (Ptr k) w w' u is (numbers n) = absurd (cc is)
converted_same owner (Ptr k) w w' u is nulls =
    let same : asks.null ≡ u = cc is in
    subst (λ v. (u' : asks.Value clight.Object) × (clight.converted (Ptr k) (encoded asks.null) ≡ Some (encoded u'))
    × ValuesMatch owner v u' × FitsCell (keeps_pointer (Some (Ptr k))) v) same (asks.null, refl, nulls, tt)
converted_same owner (Ptr k) w w' u is (pointers {o = o} {o' = o'} p h flag) =
    let same : asks.pointer o p ≡ u = cc is in
    subst (λ v. (u' : asks.Value clight.Object)
    × (clight.converted (Ptr k) (encoded (asks.pointer o' p)) ≡ Some (encoded u'))
    × ValuesMatch owner v u' × FitsCell (keeps_pointer (Some (Ptr k))) v) same
    (asks.pointer o' p, refl, pointers p h flag, tt)
converted_same owner Void w w' u is (numbers n) = absurd (cc is)
converted_same owner Void w w' u is nulls = absurd (cc is)
converted_same owner Void w w' u is (pointers p h flag) = absurd (cc is)
converted_same owner (Array k n) w w' u is (numbers i) = absurd (cc is)
converted_same owner (Array k n) w w' u is nulls = absurd (cc is)
converted_same owner (Array k n) w w' u is (pointers p h flag) = absurd (cc is)

-- a cell that is there is there in both
cell_in_both : (owner : ℕ → ClightFun) (b : Bool) (vs : Option (List (asks.Value step.Object)))
    (xs : Option (List Value)) (v : asks.Value step.Object) → value_at vs 0 ≡ Some v → BlocksMatch owner b vs xs →
    (us : List (asks.Value step.Object)) × (ys : List Value) × (vs ≡ Some us) × (xs ≡ Some ys) × (0 < length ys)
cell_in_both owner b None xs v is h = absurd (cc is)
cell_in_both owner b (Some []) xs v is h = absurd (cc is)
cell_in_both owner b (Some (u ∷ us)) None v is h = absurd h
cell_in_both owner b (Some (u ∷ us)) (Some []) v is h = absurd h
cell_in_both owner b (Some (u ∷ us)) (Some (y ∷ ys)) v is h = (u ∷ us, y ∷ ys, refl, refl, omega arith)

module _ (p : Program) (present : IsPresented p) (owner : ℕ → ClightFun) (r : Standing) (y : Ran)
    (m : MatchRunning p owner r y) (q : Performed (Last ClightState))
    (b : BothReturn (bridge_of p owner) (context_at r) (state_of owner r y) y.holding q)
    (kept : KeptBy p present owner r y m q) where
  abbrev e : Env
  e = p.env

  abbrev a : Activation
  a = r.newest

  abbrev h : StepContext
  h = context_at r

  -- what is held after the return
  abbrev H : Holding
  H = without_own clight.clight (owner r.newest.serial) r.newest.serial q.holding

  abbrev left : List Block
  left = memory_without r.memory r.newest.serial

  -- an object that isn't there
  no_cells : (cells : Option (List (asks.Value step.Object))) (c : step.Config) → sound.CellsMatch e c None cells →
      cells ≡ None
  no_cells None c g = refl
  no_cells (Some vs) c g = absurd g

  no_more : (n : ℕ) → cells_at left (record { serial = a.serial; local = n }) ≡ None
  no_more n = by (types_at e r.older a.serial) refl
      (object_match e h.config r.older left (without_blocks e h.config a r.older r.memory m.sound.memory)
      (record { serial = a.serial; local = n }))
    where
      by : (t : Option (List Ty)) → types_at e r.older a.serial ≡ t →
          sound.CellsMatch e h.config (type_at e h.config t n) (cells_at left (record { serial = a.serial; local = n }))
          → cells_at left (record { serial = a.serial; local = n }) ≡ None
      by None is g = no_cells _ h.config g
      by (Some tys) is g =
          let less = types_before p.modules e a.serial a.serial r.older tys m.sound.activations.3 is in
          absurd (omega (arith, less))

  past_all : (n : ℕ) → slice_get (owner a.serial).locals n ≡ None →
      q.holding.memory (Own (owner a.serial).decl.name a.serial n) ≡ None
  past_all n none = by (cells_at r.memory o) (q.holding.memory (home_of owner o)) gone_there (b.holds.0.memory o)
    where
      o : step.Object
      o = record { serial = a.serial; local = n }

      untyped : type_at e h.config (types_at e (a ∷ r.older) a.serial) n ≡ None
      untyped = ap (λ t. type_at e h.config t n) (own_types e a r.older r.memory r.fresh m.sound.activations.0)
          ∙ ap (λ ts. slice_get ts n) (sym m.owners.0.locals) ∙ none

      gone_there : cells_at r.memory (record { serial = a.serial; local = n }) ≡ None
      gone_there = no_cells _ h.config
          (subst (λ t. sound.CellsMatch e h.config t (cells_at r.memory (record { serial = a.serial; local = n })))
          untyped (object_match e h.config (a ∷ r.older) r.memory m.sound.memory
          (record { serial = a.serial; local = n })))

      by : (vs : Option (List (asks.Value step.Object))) (xs : Option (List Value)) → vs ≡ None →
          BlocksMatch owner (points owner (record { serial = a.serial; local = n })) vs xs → xs ≡ None
      by None None is g = refl
      by None (Some xs) is g = absurd g
      by (Some vs) xs is g = absurd (cc is)

  -- the memories after it
  memory_left : MemoryMatches owner (cells_at left) H.memory
  memory_left = return_memory owner r.memory q.holding.memory b.holds.0.memory a.serial no_more past_all

  none_left : (function : NameBytes) (serial block : ℕ) → r.fresh ≤ serial → H.memory (Own function serial block) ≡ None
  none_left function serial block late =
      set_elsewhere gone q.holding.memory (owner a.serial).decl.name a.serial 0
      (map words_of_ty (owner a.serial).locals) (Own function serial block)
      (λ j less c. (let s : serial ≡ a.serial = cc c in
      let before = m.sound.activations.0 in omega (arith, s, late, before)))
      ∙ none_later p present owner r y m q kept function serial block late

  -- the caller goes on, in both
  back : (caller : Activation) (older : List Activation) (memory : List Block) (passed : List Passed) →
      AreOwners p owner (caller ∷ older) → IsSound p.modules p.env (thread_with h (caller ∷ older) memory) →
      MemoryMatches owner (cells_at memory) (with_passed (owner caller.serial) caller.serial H.memory passed) →
      HaveRoomFor (owner caller.serial) caller.serial H.memory passed →
      MatchThreads p (thread_with h (caller ∷ older) memory) r.words
      (Runs (owner caller.serial) caller.serial (at (owner caller.serial) caller.serial passed caller.cont) 0
      (frames_of owner (owner caller.serial) caller.target older) y.past H)
  back caller older memory passed owners stays same room =
      running owner
      (record { newest = caller; older = older; memory = memory; fresh = r.fresh; words = r.words })
      (record { passed = passed; past = y.past; holding = H }) 0
      (record {
        sound = stays;
        store = m.store;
        owners = owners;
        begun = m.begun;
        blocks = record { memory = same; room = room; none_later = none_left };
        words = b.holds.0.words;
        ordered = kept.ordered;
      })

  -- both after a return to this caller with this result, which goes to this local
  abbrev Back : Ty → (caller : Activation) (older : List Activation) → Option Destination → Option (List Block) →
      List Value → Type 0
  Back ret caller older target memory values =
      ActsAgree p r.words y.holding.share q.footprint (return_to e h b.reads (caller ∷ older) memory)
      (goes_back (owner caller.serial) caller.serial
      (and_then (first_values (length (edge.returned ret)) values)
      (resumed (owner caller.serial) caller.serial caller.cont target))
      (frames_of owner (owner caller.serial) caller.target older) y.past H)

  kept_agrees : (ret : Ty) (caller : Activation) (older : List Activation) → AreOwners p owner (caller ∷ older) →
      (d : Destination) → IsLocal (types_of e caller) d.local d.ty → (w : asks.Value step.Object)
      (w' : asks.Value clight.Object) → ValuesMatch owner w w' →
      first_values (length (edge.returned ret)) (encoded w' ∷ []) ≡ Some (encoded w' ∷ []) →
      StaysSound p.modules p.env (return_to e h b.reads (caller ∷ older)
      (memory_keeping left caller.serial (Some d) (Some w))) →
      Back ret caller older (Some d) (memory_keeping left caller.serial (Some d) (Some w)) (encoded w' ∷ [])
  kept_agrees ret caller older owners d there w w' same first stays =
      by (value_at (cells_at left o) 0) refl (step.converted d.ty w) refl stays
    where
      o : step.Object
      o = record { serial = caller.serial; local = d.local }

      by : (held : Option (asks.Value step.Object)) →
          value_at (cells_at left (record { serial = caller.serial; local = d.local })) 0 ≡ held →
          (u : Option (asks.Value step.Object)) → step.converted d.ty w ≡ u →
          StaysSound p.modules p.env (return_to e h b.reads (caller ∷ older)
          (memory_storing left held (record { serial = caller.serial; local = d.local }) 0 u)) →
          Back ret caller older (Some d)
          (memory_storing left held (record { serial = caller.serial; local = d.local }) 0 u) (encoded w' ∷ [])
      by None is u j s = absurd s
      by (Some x) is None j s = absurd s
      by (Some x) is (Some u) j s =
          let (u', conv, match, fit) = converted_same owner d.ty w w' u j same in
          let (us, ys, cells, block, within) = cell_in_both owner
          (points owner (record { serial = caller.serial; local = d.local }))
          (cells_at left (record { serial = caller.serial; local = d.local }))
          (H.memory (home_of owner (record { serial = caller.serial; local = d.local }))) x is
          (memory_left (record { serial = caller.serial; local = d.local })) in
          let fits : FitsCell (points owner (record { serial = caller.serial; local = d.local })) u =
          subst (λ t. FitsCell t u) (ap keeps_pointer (sym there)
          ∙ ap (λ ts. keeps_pointer (slice_get ts d.local)) (sym owners.0.locals)) fit in
          subst (λ v. ActsAgree p r.words y.holding.share q.footprint
          (return_to e h b.reads (caller ∷ older)
          (Some (memory_with left (record { serial = caller.serial; local = d.local }) 0 u)))
          (goes_back (owner caller.serial) caller.serial
          (and_then v (resumed (owner caller.serial) caller.serial caller.cont (Some d)))
          (frames_of owner (owner caller.serial) caller.target older) y.past H)) (sym first)
          (subst (λ v. ActsAgree p r.words y.holding.share q.footprint
          (return_to e h b.reads (caller ∷ older)
          (Some (memory_with left (record { serial = caller.serial; local = d.local }) 0 u)))
          (goes_back (owner caller.serial) caller.serial
          (passing (owner caller.serial) caller.serial caller.cont d.local v)
          (frames_of owner (owner caller.serial) caller.target older) y.past H)) (sym conv)
          (quiet _ _ refl b.holds.1 (λ i. inl refl)
          (back caller older (memory_with left (record { serial = caller.serial; local = d.local }) 0 u)
          (record { local = d.local; value = encoded u' } ∷ []) owners s.0
          (kept_memory owner left H.memory memory_left (record { serial = caller.serial; local = d.local }) us ys cells
          block u u' match fits) (record { block = ys; there = block; within = within }, tt))))

  abbrev Returned : Ty → Option (asks.Value step.Object) → Type 0
  Returned ret v = IsReturned p.modules p.env present.well_formed r.newest r.older r.memory r.fresh
      m.sound.activations.0 m.sound.memory (newest_is p present owner r y m).unit
      (newest_is p present owner r y m).at_place.unit_is r.words m.store ret v

  -- as many results come as the function returns
  results_there : (ret : Ty) (v : Option (asks.Value step.Object)) (v' : Option (asks.Value clight.Object)) →
      Returned ret v → ResultsMatch owner v v' →
      (vs : List Value) × (first_values (length (edge.returned ret)) (clight.returned v') ≡ Some vs)
  results_there Void v v' of same = ([], refl)
  results_there (Array k n) v v' of same = ([], refl)
  results_there (Int k) None v' of same = absurd of
  results_there (Ptr k) None v' of same = absurd of
  results_there (Int k) (Some w) None of same = absurd same
  results_there (Ptr k) (Some w) None of same = absurd same
  results_there (Int k) (Some w) (Some w') of same = (encoded w' ∷ [], refl)
  results_there (Ptr k) (Some w) (Some w') of same = (encoded w' ∷ [], refl)

  after_return : (ret : Ty) (v : Option (asks.Value step.Object)) (v' : Option (asks.Value clight.Object))
      (caller : Activation) (older : List Activation) → AreOwners p owner (caller ∷ older) →
      (target : Option Destination) → MayKeep (types_of e caller) target ret → Returned ret v →
      ResultsMatch owner v v' →
      StaysSound p.modules p.env (return_to e h b.reads (caller ∷ older) (memory_keeping left caller.serial target v)) →
      Back ret caller older target (memory_keeping left caller.serial target v) (clight.returned v')
  after_return ret v v' caller older owners None keep of same stays =
      let (vs, is) = results_there ret v v' of same in
      subst (λ o. ActsAgree p r.words y.holding.share q.footprint (return_to e h b.reads (caller ∷ older) (Some left))
      (goes_back (owner caller.serial) caller.serial
      (and_then o (resumed (owner caller.serial) caller.serial caller.cont None))
      (frames_of owner (owner caller.serial) caller.target older) y.past H)) (sym is)
      (quiet _ _ refl b.holds.1 (λ i. inl refl) (back caller older left [] owners stays.0 memory_left tt))
  after_return Void v v' caller older owners (Some d) keep of same stays = absurd keep
  after_return (Array k n) v v' caller older owners (Some d) keep of same stays = absurd keep
  after_return (Int k) None v' caller older owners (Some d) keep of same stays = absurd of
  after_return (Ptr k) None v' caller older owners (Some d) keep of same stays = absurd of
  after_return (Int k) (Some w) None caller older owners (Some d) keep of same stays = absurd same
  after_return (Ptr k) (Some w) None caller older owners (Some d) keep of same stays = absurd same
  after_return (Int k) (Some w) (Some w') caller older owners (Some d) keep of same stays =
      kept_agrees (Int k) caller older owners d keep.2 w w' same refl stays
  after_return (Ptr k) (Some w) (Some w') caller older owners (Some d) keep of same stays =
      kept_agrees (Ptr k) caller older owners d keep.1 w w' same refl stays

  returned_here : Returned (e.function a.function).ret b.value
  returned_here = subst (λ o. Gets (FitsHere p present owner r y m) o) b.effect (effect_fits p present owner r y m)

  -- to whoever waits
  to_older : (older : List Activation) → AreOwners p owner older → CallerKeeps e a older →
      StaysSound p.modules p.env (return_step e h b.reads older b.value) →
      ActsAgree p r.words y.holding.share q.footprint (return_step e h b.reads older b.value)
      (returns p.setting.layout (clight.returned b.passed) (frames_of owner (owner a.serial) a.target older) y.past H)
  to_older [] owners keeps stays =
      ends _ refl (record { same = refl; footprint = b.holds.1; threads = over _ _ refl })
  to_older (caller ∷ older) owners keeps stays =
      subst (λ ret. Back ret caller older a.target (memory_keeping left caller.serial a.target b.value)
      (clight.returned b.passed)) (sym m.owners.0.result)
      (after_return (e.function a.function).ret b.value b.passed caller older owners a.target keeps returned_here
      b.values stays)

  pub return_agrees : Stays p present owner r y m (newest_step e h) →
      Agrees p present owner r y m (newest_step e h) q (Some (Returns (clight.returned b.passed)))
  return_agrees stays =
      let is : newest_step e h ≡ return_step e h b.reads r.older b.value = ap (λ o. step_with_effect e h o) b.effect in
      subst (λ o. Agrees p present owner r y m o q (Some (Returns (clight.returned b.passed)))) (sym is)
      (to_older r.older m.owners.1 m.sound.activations.2 (subst (λ o. StaysSound p.modules p.env o) is stays))
