-- The pass over lists of instructions, one case an instruction, in the order of `Makes`.
use Rattle.std.proofs.Common.{◌≡◌, ℕ, List, [], ◌∷◌, refl, arith}
use Rattle.cas_runs.specs.Naming.{Value, Memory}
use Rattle.cas_runs.specs.Bounds.{ArePrices}
use Rattle.cas_runs.specs.Unit.{Setting}
use Rattle.cas_runs.specs.Passing.{Relation, AllMatch}
use Rattle.cas_runs.specs.Held.{Activation, Held, takes_held, gives_held, puts_held, returns_held, both_read, onward, at_last, Leads, meets_there, steps_alone, goes_alone, begins_later, BeginIf}
use Rattle.cas_runs.specs.Unmoved.{places, bare, IsUnmoved}
use Rattle.cas_trial.specs.declared.lowering.High.{High}
use Rattle.cas_trial.specs.declared.lowering.Low.{Low}
use Rattle.cas_trial.specs.declared.lowering.Low.TheVariants as low
use Rattle.cas_trial.specs.declared.lowering.HighFunction.{HighFunction}
use Rattle.cas_trial.specs.declared.lowering.LowFunction.{LowFunction}
use Rattle.cas_trial.specs.Lowering.Languages.{enters_at, LowState, low_at, one_each}
use Rattle.cas_trial.specs.Lowering.Makes.{skip, take, show, give, Makes, no_more, one_more}
use Rattle.cas_trial.specs.Lowering.Match.{lowering}

module _ (setting : Setting) (ts : List LowFunction) (ss : List HighFunction)
    (made : LowFunction → HighFunction → Type 0) (a : Activation LowFunction HighFunction) where
  abbrev R : Relation LowFunction LowState HighFunction (List High)
  R = bare lowering setting ts ss made

  abbrev w : Held LowFunction LowState HighFunction (List High)
  w = places lowering setting ts ss

  leads : {ls : List Low} {is : List High} → Makes ls is → (register : ℕ) (t s : Memory) → t ≡ s →
      Leads R w a (low_at register ls) t is s
  leads no_more register t s e = meets_there 0 (omega arith) (at_last (returns_held tt e))
  leads (one_more skip rest) register t s e = steps_alone (goes_alone (leads rest register t s e))
  leads (one_more take rest) register t s e = meets_there 0 (omega arith) (at_last (takes_held (rest, e)))
  leads (one_more {ts = ts} show rest) register t s e =
      meets_there 1 (omega arith)
      (both_read (λ word good. onward (low_at word (low.Put ∷ ts)) 0 (omega arith) (at_last (puts_held (rest, e)))))
  leads (one_more give rest) register t s e = meets_there 0 (omega arith) (at_last (gives_held (rest, e)))

  begins : (ls : List Low) (is : List High) → Makes ls is → (vs ws : List Value) → AllMatch R vs ws → (t s : Memory) →
      t ≡ s → BeginIf R w a (enters_at (low_at 0 ls) vs) t (enters_at is ws) s
  begins ls is made [] [] all t s e = begins_later (omega arith) (leads made 0 t s e)
  begins ls is made [] (x ∷ ws) all t s e = absurd all
  begins ls is made (x ∷ vs) [] all t s e = absurd all
  begins ls is made (x ∷ vs) (y ∷ ws) all t s e = tt

each_one : (ls : List Low) → ArePrices (one_each ls)
each_one [] = tt
each_one (i ∷ ls) = (record { least = omega arith; most = omega arith }, each_one ls)

-- what the pass shows
pub lowering_shows : IsUnmoved lowering
lowering_shows = record {
  names = λ decls f g m. refl;
  blocks = λ decls f g m. refl;
  prices = (λ x. (record { least = omega arith; most = omega arith }, tt), omega arith, λ f. each_one f.body);
  waits = λ ts ss all. omega arith;
  steps = λ setting decls ts ss run. record {
    forms = λ a made x t y s at. leads setting ts ss _ a at.0 x.register t s at.1;
    enters = λ a made t s e vs ws all. let at = made.is_made in
        begins setting ts ss _ a a.target.body a.source.body at.is_made vs ws all t s e;
  };
}
