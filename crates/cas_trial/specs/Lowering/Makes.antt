-- What the pass makes of each instruction, and of a function.
use Rattle.std.specs.Prelude.{List, [], ◌∷◌, ◌++◌}
use Rattle.cas_trial.specs.declared.lowering.High.{High}
use Rattle.cas_trial.specs.declared.lowering.High.TheVariants as high
use Rattle.cas_trial.specs.declared.lowering.Low.{Low}
use Rattle.cas_trial.specs.declared.lowering.Low.TheVariants as low
use Rattle.cas_trial.specs.declared.lowering.HighFunction.{HighFunction}
use Rattle.cas_trial.specs.declared.lowering.LowFunction.{LowFunction}

-- of one instruction
pub data MakesOne : List Low → High → Type 0 where
  skip : MakesOne [] high.Skip
  take : MakesOne (low.Take ∷ []) high.Take
  show : MakesOne (low.Read ∷ low.Put ∷ []) high.Show
  give : MakesOne (low.Give ∷ []) high.Give

-- of a list of them
pub data Makes : List Low → List High → Type 0 where
  no_more : Makes [] []
  one_more : {ls ts : List Low} {i : High} {is : List High} → MakesOne ls i → Makes ts is → Makes (ls ++ ts) (i ∷ is)

-- of a function
abbrev pub IsLowered : LowFunction → HighFunction → Type 0
IsLowered to from = Makes to.body from.body
