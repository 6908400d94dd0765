-- Wrong translations don't refine: both run to a place with the same labels, and there the target does what the source
-- can't.
use Rattle.std.proofs.Common.{◌≡◌, ◌≤◌, List, [], ◌∷◌, ⊎_elim, refl, arith}
use Rattle.cas_runs.specs.Label.{Word, Crossing, RunLabel, Lock, Unlock, Out, Enter, Back, Call, Place}
use Rattle.cas_runs.specs.Edge.{Edge}
use Rattle.cas_runs.specs.Outside.{MayEnter, MayReturn}
use Rattle.cas_runs.specs.Machine.{Machine, StepsTo, IsBad, Run, starts, labelled}
use Rattle.cas_runs.specs.Refines.{BadBefore, Refines}
use Rattle.cas_runs.specs.Rules.{KeepsRules}
use Rattle.cas_runs.specs.Unit.{IsLayout, FitsUnit, UnitRefines, laid_out}
use Rattle.cas_runs.specs.Calls.{Thread, language}
use Rattle.cas_runs.proofs.Refining.{IsQuiet}
use Rattle.cas_runs.proofs.Composing.{IsCrossing, follows}
use Rattle.cas_runs.proofs.Sanity.{ComesTo, comes_first, comes_on, comes_by, has_run_to, stands_at, not_bad, no_label}
use Rattle.cas_runs.proofs.Stars.{bad_now, longest}
use Rattle.cas_trial.specs.declared.joining.Apart.{Apart}
use Rattle.cas_trial.specs.declared.joining.Joined.{Joined}
use Rattle.cas_trial.specs.declared.lowering.HighFunction.{HighFunction}
use Rattle.cas_trial.specs.declared.lowering.LowFunction.{LowFunction}
use Rattle.cas_trial.specs.declared.lowering.High.{High}
use Rattle.cas_trial.specs.Lowering.Languages.{LowState, high_language, low_language}
use Rattle.cas_trial.specs.Stages.{main_name, show_name, Stage, apart, joined}
use Rattle.cas_trial.specs.Fitting.{decls, globals, edge, setting, first_object, program}
use Rattle.cas_trial.specs.Wrong.{unit_of, swapped, caching, no_objects, showing, not_reading, reading, dear, offering, hiding}
use Rattle.cas_trial.proofs.Fits.{unit_fits, unit_laid_out}

-- where the target has a label that the source has not, at a step of both that isn't quiet
module _ {T S : Type 0} (e : Edge) (t : Machine T) (s : Machine S) (h : Refines e t s) where
  no_bad : (ls : List RunLabel) (y : S) → ComesTo e s ls y → (IsQuiet (s.act y) → ⊥) → (IsBad (s.act y) → ⊥) →
      BadBefore e s ls → ⊥
  no_bad ls y ys silent bad b = not_bad e s ls y ys silent bad (bad_now e s ls b (has_run_to e s ls y ys))

  refuses : (ls : List RunLabel) (x : T) → ComesTo e t ls x → (IsCrossing (t.act x) → ⊥) → (y : S) → ComesTo e s ls y →
      (IsQuiet (s.act y) → ⊥) → (IsBad (s.act y) → ⊥) → (l : RunLabel) (x' : T) → StepsTo e ls (t.act x) l x' →
      ((z : S) → StepsTo e ls (s.act y) l z → ⊥) → ⊥
  refuses ls x xs crossing y ys silent bad l x' step none =
      ⊎_elim (no_bad ls y ys silent bad) (no_label e s ls y ys silent l none)
      (follows e t s h ls (stands_at e t xs) xs.run (has_run_to e s ls y ys) crossing l x' step)

abbrev nothing : Crossing
nothing = record { values = []; share = []; objects = [] }

-- the outside may enter `main`, and the lock brings 5
may_enter : MayEnter edge [] main_name nothing
may_enter =
    record {
      signature = _;
      known = refl;
      inside = refl;
      values = tt;
      holds = tt;
      brings =
          record { share = tt; objects = tt; room = omega arith; numbers = refl };
    }

abbrev entering : List RunLabel
entering = Enter main_name nothing ∷ []

abbrev locking : List RunLabel
locking = Lock 0 (5 ∷ []) ∷ entering

-- Exchanged variables.

pub swapped_refused : UnitRefines (language joined) (language apart) (unit_of (swapped ∷ [])) (unit_of (program ∷ [])) →
    ⊥
swapped_refused h =
    let t : Machine (Thread Joined Stage) = (language joined).unit (laid_out setting (h.naming setting.layout))
    (swapped ∷ []) in
    let s : Machine (Thread Apart Stage) = (language apart).unit setting (program ∷ []) in
    let xs = comes_on edge t locking _ _ (comes_by edge t entering (Lock 0 (5 ∷ [])) _ _
    (comes_on edge t entering _ _ (comes_by edge t [] (Enter main_name nothing) _ _ (comes_first edge t)
    (may_enter, refl)) refl) (5 ∷ [], refl, record { is_lock = refl; kinds = (refl, tt) }, refl)) refl in
    let ys = comes_on edge s locking _ _ (comes_by edge s entering (Lock 0 (5 ∷ [])) _ _
    (comes_on edge s entering _ _ (comes_by edge s [] (Enter main_name nothing) _ _ (comes_first edge s)
    (may_enter, refl)) refl) (5 ∷ [], refl, record { is_lock = refl; kinds = (refl, tt) }, refl)) refl in
    refuses edge t s (h.refines setting unit_fits unit_laid_out) locking _ xs (λ c. c) _ ys (λ q. q) (λ q. q)
    (Unlock 0 (7 ∷ [])) _ (refl, refl) (λ z e. let same = e.0 in absurd (cc same))

-- A variable that is kept across a call.

abbrev unlocking : List RunLabel
unlocking = Unlock 0 (3 ∷ []) ∷ locking

abbrev calling : List RunLabel
calling = Call show_name (record { values = Place 0 1 ∷ []; share = []; objects = first_object 3 ∷ [] }) ∷ unlocking

abbrev back : RunLabel
back = Back (record { values = Place 0 0 ∷ []; share = []; objects = first_object 9 ∷ [] })

may_return : MayReturn edge calling (record { values = Place 0 0 ∷ []; share = []; objects = first_object 9 ∷ [] })
may_return = record {
  function = show_name;
  older = _;
  newest = refl;
  signature = _;
  known = refl;
  values = (record { it = first_object 9; there = refl; same_kind = λ live. refl; in_reach = omega arith }, tt);
  brings = record {
    share = tt;
    objects =
        (record { owner = refl; kind = refl; size = refl; contents = record { size = refl; kinds = (refl, tt) } }, tt);
    room = omega arith;
    numbers = refl;
  };
}

pub cached_refused : Refines edge ((language caching).unit setting (program ∷ []))
    ((language apart).unit setting (program ∷ [])) → ⊥
cached_refused h =
    let t : Machine (Thread Apart Stage) = (language caching).unit setting (program ∷ []) in
    let s : Machine (Thread Apart Stage) = (language apart).unit setting (program ∷ []) in
    let x1 = comes_on edge t locking _ _ (comes_by edge t entering (Lock 0 (5 ∷ [])) _ _
    (comes_on edge t entering _ _ (comes_by edge t [] (Enter main_name nothing) _ _ (comes_first edge t)
    (may_enter, refl)) refl) (5 ∷ [], refl, record { is_lock = refl; kinds = (refl, tt) }, refl)) refl in
    let y1 = comes_on edge s locking _ _ (comes_by edge s entering (Lock 0 (5 ∷ [])) _ _
    (comes_on edge s entering _ _ (comes_by edge s [] (Enter main_name nothing) _ _ (comes_first edge s)
    (may_enter, refl)) refl) (5 ∷ [], refl, record { is_lock = refl; kinds = (refl, tt) }, refl)) refl in
    let x2 = comes_by edge t locking (Unlock 0 (3 ∷ [])) _ _ x1 (refl, refl) in
    let y2 = comes_by edge s locking (Unlock 0 (3 ∷ [])) _ _ y1 (refl, refl) in
    let x3 = comes_by edge t unlocking
    (Call show_name (record { values = Place 0 1 ∷ []; share = []; objects = first_object 3 ∷ [] })) _ _ x2
    (record { values = Place 0 1 ∷ []; objects = first_object 3 ∷ [] }, refl, refl) in
    let y3 = comes_by edge s unlocking
    (Call show_name (record { values = Place 0 1 ∷ []; share = []; objects = first_object 3 ∷ [] })) _ _ y2
    (record { values = Place 0 1 ∷ []; objects = first_object 3 ∷ [] }, refl, refl) in
    let x4 = comes_by edge t calling back _ _ x3 (may_return, refl) in
    let y4 = comes_by edge s calling back _ _ y3 (may_return, refl) in
    refuses edge t s h (back ∷ calling) _ x4 (λ c. c) _ y4 (λ q. q) (λ q. q) (Out 3) _ (refl, refl)
    (λ z e. let same = e.0 in absurd (cc same))

-- Lists of instructions.

fits_bare : FitsUnit no_objects decls globals
fits_bare =
    record {
      edge_is = unit_fits.edge_is;
      stack_is = unit_fits.stack_is;
      code_is = unit_fits.code_is;
      declared =
          unit_fits.declared;
      data_there = unit_fits.data_there;
      apart = unit_fits.apart;
      entered = unit_fits.entered;
    }

laid_bare : IsLayout (language high_language) (showing ∷ []) no_objects.layout
laid_bare name f e j le = refl

pub unread_refused : UnitRefines (language low_language) (language high_language) (unit_of (not_reading ∷ []))
    (unit_of (showing ∷ [])) → ⊥
unread_refused h =
    let t : Machine (Thread LowFunction LowState) = (language low_language).unit
    (laid_out no_objects (h.naming no_objects.layout)) (not_reading ∷ []) in
    let s : Machine (Thread HighFunction (List High)) = (language high_language).unit no_objects (showing ∷ []) in
    let xs = comes_by edge t entering (Lock 0 (5 ∷ [])) _ _
    (comes_by edge t [] (Enter main_name nothing) _ _ (comes_first edge t) (may_enter, refl))
    (5 ∷ [], refl, record { is_lock = refl; kinds = (refl, tt) }, refl) in
    let ys = comes_by edge s entering (Lock 0 (5 ∷ [])) _ _
    (comes_by edge s [] (Enter main_name nothing) _ _ (comes_first edge s) (may_enter, refl))
    (5 ∷ [], refl, record { is_lock = refl; kinds = (refl, tt) }, refl) in
    refuses edge t s (h.refines no_objects fits_bare laid_bare) locking _ xs (λ c. c) _ ys (λ q. q) (λ q. q) (Out 0) _
    (refl, refl) (λ z e. let same = e.0 in absurd (cc same))

-- three for each of two steps is more than two
pub dear_refused : UnitRefines (language dear) (language high_language) (unit_of (reading ∷ []))
    (unit_of (showing ∷ [])) → ⊥
dear_refused h =
    let t : Machine (Thread LowFunction LowState) = (language dear).unit
    (laid_out no_objects (h.naming no_objects.layout)) (reading ∷ []) in
    let s : Machine (Thread HighFunction (List High)) = (language high_language).unit no_objects (showing ∷ []) in
    let refines = h.refines no_objects fits_bare laid_bare in
    let ys = comes_by edge s entering (Lock 0 (5 ∷ [])) _ _
    (comes_by edge s [] (Enter main_name nothing) _ _ (comes_first edge s) (may_enter, refl))
    (5 ∷ [], refl, record { is_lock = refl; kinds = (refl, tt) }, refl) in
    let there : Run edge t locking _ _ _ = labelled (Lock 0 (5 ∷ [])) _
    (labelled (Enter main_name nothing) _ starts (may_enter, refl))
    (5 ∷ [], refl, record { is_lock = refl; kinds = (refl, tt) }, refl) in
    let here : Run edge s locking _ _ _ = labelled (Lock 0 (5 ∷ [])) _
    (labelled (Enter main_name nothing) _ starts (may_enter, refl))
    (5 ∷ [], refl, record { is_lock = refl; kinds = (refl, tt) }, refl) in
    ⊎_elim (no_bad edge t s refines locking _ ys (λ q. q) (λ q. q))
    (λ k. (
    let kept = k.there in
    let fine = kept.fine in
    let within = fine.within in
    let paid : 3 ≤ k.to.block.price = within.price in
    let most = longest edge s locking k.to.blocks _ k.to.block _ k.to.at _ k.run here (λ z same. absurd (cc same)) in
    let least : k.to.block.price ≤ 2 = most.price in
    let no : ⊥ = omega (arith, paid, least) in
    no))
    (refines.kept locking (record { blocks = _; block = _; at = _ }) there (has_run_to edge s locking _ ys))

-- Machines that break a rule.

pub offering_refused : KeepsRules edge offering → ⊥
offering_refused h =
    let may = h.acts [] [] _ 0 starts in
    let alike = may.alike (record { values = Word 0 ∷ []; objects = [] })
    (record { values = Word 1 ∷ []; objects = [] }) 1 1 refl refl in
    let values = alike.values in
    let same : 0 ≡ 1 = values.0 in
    absurd (cc same)

pub hiding_refused : KeepsRules edge hiding → ⊥
hiding_refused h =
    let opens = h.opens in
    ⊎_elim (λ bad. bad) (λ after. absurd (cc after)) (opens.by_label [] [] _ 0 starts (Enter main_name nothing) 1
    (may_enter, refl))
