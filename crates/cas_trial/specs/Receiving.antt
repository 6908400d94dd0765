-- The unit's call of `show`, as the unit that has it hears it.
use Rattle.std.specs.Prelude.{true, false, List, [], ◌∷◌, Some}
use Rattle.cas_base.specs.declared.kind.Kind.TheVariants.{I32}
use Rattle.cas_base.specs.declared.kind.Ty.TheVariants.{Void, Ptr}
use Rattle.cas_runs.specs.Label.{Place, Outside, Object, Crossing, RunLabel, Unlock, Lock, Enter}
use Rattle.cas_runs.specs.Edge.{Edge}
use Rattle.cas_trial.specs.Fitting.{edge, first_object}
use Rattle.cas_trial.specs.Stages.{main_name, show_name}

-- the edge of the unit that has `show`: the same words, and the other function inside
abbrev pub other : Edge
other = record {
  cells = edge.cells;
  words = edge.words;
  functions = record { name = main_name; ret = Void; params = []; holds = []; inside = false }
      ∷ record { name = show_name; ret = Ptr I32; params = Ptr I32 ∷ []; holds = []; inside = true } ∷ [];
}

-- the labels of the unit before its call
abbrev pub before : List RunLabel
before = Unlock 0 (3 ∷ []) ∷ Lock 0 (5 ∷ []) ∷ Enter main_name (record { values = []; share = []; objects = [] }) ∷ []

-- the place after the variable whose word is 3
abbrev pub emitted : Crossing
emitted = record { values = Place 0 1 ∷ []; share = []; objects = first_object 3 ∷ [] }

-- there it is an object of the outside's
abbrev pub their_object : Object
their_object = record { owner = Outside; kind = I32; size = 1; contents = Some (Some 3 ∷ []) }

abbrev pub received : Crossing
received = record { values = Place 0 1 ∷ []; share = []; objects = their_object ∷ [] }
