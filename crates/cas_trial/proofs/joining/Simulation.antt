-- The pass that puts both variables into one block, one case a stage.
use Rattle.std.proofs.Common.{◌≡◌, ℕ, List, [], ◌∷◌, Option, Some, None, refl, subst, arith}
use Rattle.cas_runs.specs.Naming.{Home, Own, Theirs, Value, Number, Pointer, Hidden}
use Rattle.cas_runs.specs.Bounds.{IsPrice, IsTariff}
use Rattle.cas_runs.specs.Access.{Accesses}
use Rattle.cas_runs.specs.Unit.{Setting}
use Rattle.cas_runs.specs.Calls.{Last}
use Rattle.cas_runs.specs.Forms.{FormAlike, writes, loads, stores, last, never}
use Rattle.cas_runs.specs.Passing.{Relation, AllMatch, MadeOf}
use Rattle.cas_runs.specs.Placing.{Spot, SameMoved, moved, pointer_in, bare, moved_blocks, IsMoved}
use Rattle.cas_runs.specs.Placing.{places as placed_at}
use Rattle.cas_runs.specs.Stepwise.{AtIf, LastAt, goes_at, takes_at, gives_at, puts_at, calls_at, returns_at, Stepwise}
use Rattle.cas_runs.proofs.Bringing.{memory_moved, stores_placed, moved_begin}
use Rattle.cas_runs.proofs.Amounting.{stepwise_steps}
use Rattle.cas_trial.specs.declared.joining.Apart.{Apart}
use Rattle.cas_trial.specs.declared.joining.Joined.{Joined}
use Rattle.cas_trial.specs.Stages.{Stage, Begins, Loading, Tells, Ends, puts, puts_at as puts_loaded, came_back, form, enters, apart, joined}
use Rattle.cas_trial.proofs.joining.Places.{joins_laid_out, joins_place}
use Rattle.cas_trial.specs.Joining.Match.{places, joins, one_word, SameStage, begins, locks, holds, unlocks, shows, loading, tells, ends, joining}

abbrev Rel : Setting → List Joined → List Apart → Relation Joined Stage Apart Stage
Rel setting ts ss = bare joining setting ts ss (MadeOf (moved_blocks joining) setting ts ss)

module _ (setting : Setting) (ts : List Joined) (ss : List Apart) (f : Joined) (g : Apart) where
  abbrev R : Relation Joined Stage Apart Stage
  R = Rel setting ts ss

  abbrev Forms : Accesses (Last Stage) → Accesses (Last Stage) → Type 0
  Forms x y = FormAlike (SameMoved (places ss)) (λ n m. Unit {0}) (LastAt R (λ f g. SameStage ss) f g) x y

  puts_alike : (next : Stage) → SameStage ss next next → (v w : Value) → SameMoved (places ss) v w →
      Forms (puts next v) (puts next w)
  puts_alike next at v (Pointer home place) s = never
  puts_alike next at v (Hidden what) s = never
  puts_alike next at v (Number n) s = subst (λ u. Forms (puts next u) (puts next (Number n)))
      (let same : Number n ≡ v = cc s in same) (last (puts_at at))

  loading_alike : (next : Stage) → SameStage ss next next → (v w : Value) → SameMoved (places ss) v w →
      Forms (puts_loaded next v) (puts_loaded next w)
  loading_alike next at v (Number n) s = never
  loading_alike next at v (Hidden what) s = never
  loading_alike next at (Number n) (Pointer home place) s = absurd (number_differs home place s)
    where
      number_differs : (home : Home) (place : ℕ) → moved (places ss) (Pointer home place) ≡ Some (Number n) → ⊥
      number_differs (Theirs k) place e = cc e
      number_differs (Own f a b) place e = by (places ss f b) e
        where
          by : (o : Option Spot) → pointer_in f a o place ≡ Some (Number n) → ⊥
          by None g = cc g
          by (Some to) g = cc g
  loading_alike next at (Hidden what) (Pointer home place) s = absurd (hidden_differs home place s)
    where
      hidden_differs : (home : Home) (place : ℕ) → moved (places ss) (Pointer home place) ≡ Some (Hidden what) → ⊥
      hidden_differs (Theirs k) place e = cc e
      hidden_differs (Own f a b) place e = by (places ss f b) e
        where
          by : (o : Option Spot) → pointer_in f a o place ≡ Some (Hidden what) → ⊥
          by None g = cc g
          by (Some to) g = cc g
  loading_alike next at (Pointer home' place') (Pointer home place) s = loads s (puts_alike next at)

  came_back_at : (serial : ℕ) (us xs : List Value) → AllMatch R us xs →
      ((v w : Value) → SameMoved (places ss) v w → SameStage ss (Loading serial v) (Loading serial w)) →
      AtIf R (λ f g. SameStage ss) f g (came_back serial us) (came_back serial xs)
  came_back_at serial [] [] s at = tt
  came_back_at serial [] (x ∷ xs) s at = absurd s
  came_back_at serial (u ∷ us) [] s at = absurd s
  came_back_at serial (u ∷ []) (x ∷ []) s at = at u x s.0
  came_back_at serial (u ∷ []) (x ∷ y ∷ xs) s at = absurd s.1
  came_back_at serial (u ∷ v ∷ us) (x ∷ []) s at = absurd s.1
  came_back_at serial (u ∷ v ∷ us) (x ∷ y ∷ xs) s at = tt

forms_alike : (setting : Setting) (ts : List Joined) (ss : List Apart) (to : Joined) (from : Apart) (x y : Stage) →
    SameStage ss x y → Forms setting ts ss to from (form 0 1 x) (form 1 0 y)
forms_alike setting ts ss to from x y begins = stores refl refl (stores refl refl (last (goes_at locks)))
forms_alike setting ts ss to from x y locks = last (takes_at holds)
forms_alike setting ts ss to from x y holds = writes refl (last (goes_at unlocks))
forms_alike setting ts ss to from x y unlocks = last (gives_at shows)
forms_alike setting ts ss to from x y (shows {f = f} {fs = fs} {serial = serial}) =
    last (calls_at (refl, tt) (λ us xs s count. came_back_at setting ts (f ∷ fs) to from serial us xs s
    (λ v w e. loading e)))
forms_alike setting ts ss to from x y (loading {f = f} {fs = fs} {serial = serial} {v = v} {w = w} s) =
    loading_alike setting ts (f ∷ fs) to from (Tells serial) tells v w s
forms_alike setting ts ss to from x y (tells {f = f} {fs = fs}) =
    loads refl (λ v w s. puts_alike setting ts (f ∷ fs) to from Ends ends v w s)
forms_alike setting ts ss to from x y ends = last (returns_at tt)

enters_alike : (setting : Setting) (ts : List Joined) (ss : List Apart) (f : Joined) (g : Apart) →
    MadeOf (moved_blocks joining) setting ts ss f g → (n : ℕ) (vs ws : List Value) →
    AllMatch (Rel setting ts ss) vs ws → AtIf (Rel setting ts ss) (λ f g. SameStage ss) f g
    (enters f.cells.0 f.cells.1 n vs) (enters g.first g.second n ws)
enters_alike setting ts [] f g m n vs ws s = absurd (cc m.source_found)
enters_alike setting ts (x ∷ ss) f g m n [] [] s =
    let at = m.is_made in
    let is = at.is_made in
    subst (λ v. SameStage (x ∷ ss) (Begins f.cells.0 f.cells.1 n) (Begins v g.second n)) is.first
    (subst (λ v. SameStage (x ∷ ss) (Begins f.cells.0 f.cells.1 n) (Begins f.cells.0 v n)) is.second begins)
enters_alike setting ts (x ∷ ss) f g m n [] (w ∷ ws) s = absurd s
enters_alike setting ts (x ∷ ss) f g m n (v ∷ vs) [] s = absurd s
enters_alike setting ts (x ∷ ss) f g m n (v ∷ vs) (w ∷ ws) s = tt

steps_alike : (setting : Setting) (ts : List Joined) (ss : List Apart) →
    Stepwise (Rel setting ts ss) (λ f g. SameStage ss) (λ n m. Unit {0})
steps_alike setting ts ss = record {
  forms = λ f g made x y at. forms_alike setting ts ss f g x y at;
  costs = λ f g made x y at. omega arith;
  enters = enters_alike setting ts ss;
  entries = λ f g m. omega arith;
}

pub apart_prices : IsTariff apart.tariff
apart_prices = (
  λ a. (record { least = omega arith; most = omega arith }, tt),
  omega arith,
  λ f. let two : IsPrice 2 =
      record { least = omega arith; most = omega arith } in (two, (two, (two, (two, (two, (two, (two, (two, tt)))))))),
)

joined_prices : IsTariff joined.tariff
joined_prices = (
  λ a. (record { least = omega arith; most = omega arith }, tt),
  omega arith,
  λ f. let one : IsPrice 1 =
      record { least = omega arith; most = omega arith } in (one, (one, (one, (one, (one, (one, (one, (one, tt)))))))),
)

-- the law of the pass
pub joining_shows : IsMoved joining
joining_shows = record {
  names = λ decls f g m. refl;
  laid_out_too = joins_laid_out;
  is_placing = λ setting decls ts ss run. joins_place setting ts ss run.laid_out;
  prices = joined_prices;
  waits = λ ts ss all. omega arith;
  steps = λ setting decls ts ss run.
      let is = joins_place setting ts ss run.laid_out in
      let made = MadeOf (moved_blocks joining) setting ts ss in
      stepwise_steps (Rel setting ts ss) (λ f g. SameStage ss) (λ n m. Unit {0}) (placed_at joining setting ts ss)
      (steps_alike setting ts ss)
      (memory_moved joined apart setting (joins setting.layout) ts ss made (places ss) one_word (λ f g n x y. Unit {0})
      is)
      (λ a x t y s at. at) (λ a x t y s at. at)
      (λ n t s home home' at at' v v' p. (
        tt,
        stores_placed joined apart setting (joins setting.layout) ts ss made
            (places ss) one_word (λ f g n x y. Unit {0}) is n s home home' at at' v' p,
      ))
      (moved_begin joined apart setting (joins setting.layout) ts ss made (places ss) one_word (λ f g n x y. Unit {0})
      is refl refl);
}
