-- A small language on which it is shown that a place of an object crosses as itself: the function `main` has one
-- variable, and shows a place of it to the function `show` of another unit.
use Rattle.std.specs.Prelude.{ℕ, zero, suc, true, false, List, [], ◌∷◌, Option, Some, None}
use Rattle.cas_base.specs.declared.kind.Kind.TheVariants.{I32}
use Rattle.cas_base.specs.declared.kind.Ty.TheVariants.{Void, Ptr}
use Rattle.cas_runs.specs.Label.{NameBytes}
use Rattle.cas_runs.specs.Edge.{Edge}
use Rattle.cas_runs.specs.Naming.{Own, Value, Number, Pointer, Part}
use Rattle.cas_runs.specs.Machine.{Machine}
use Rattle.cas_runs.specs.Bounds.{ByForms}
use Rattle.cas_runs.specs.Access.{Accesses, Then}
use Rattle.cas_runs.specs.Unit.{Setting}
use Rattle.cas_runs.specs.Calls.{Last, Calls, Activations, Thread, language}

abbrev pub main_name : NameBytes
main_name = 109 ∷ 97 ∷ 105 ∷ 110 ∷ []

abbrev pub show_name : NameBytes
show_name = 115 ∷ 104 ∷ 111 ∷ 119 ∷ []

-- an activation stands at its call
pub data Pointing : Type 0 where
  At : (serial place : ℕ) → Pointing

abbrev pub enters : (place serial : ℕ) → List Value → Option Pointing
enters place serial [] = Some (At serial place)
enters place serial (v ∷ vs) = None

abbrev pub form : Pointing → Accesses (Last Pointing)
form (At serial place) = Then (Calls show_name (Pointer (Own main_name serial 0) place ∷ []) (λ values. None))

-- a function is the place that it shows
abbrev pub pointing : Activations ℕ Pointing
pointing = record {
  name = λ place. main_name;
  blocks = λ place. 1 ∷ [];
  first_word = Number 0;
  enter = enters;
  form = form;
  tariff = ByForms (λ a. 1) (λ a. []) 0 (λ f. 0) (λ f. 0) (λ f. 1 ∷ []);
}

abbrev pub edge : Edge
edge = record {
  cells = [];
  words = λ name. None;
  functions = record { name = main_name; ret = Void; params = []; holds = []; inside = true }
      ∷ record { name = show_name; ret = Void; params = Ptr I32 ∷ []; holds = []; inside = false } ∷ [];
}

-- the variable is one object of one cell
abbrev pub one_object : ℕ → List Part
one_object zero = record { from = 0; size = 1; kind = I32 } ∷ []
one_object (suc block) = []

abbrev pub setting : Setting
setting = record {
  edge = edge;
  layout = λ name. one_object;
  stack = record { address = 268435456; size = 16 };
  code = λ name. record { first = 8; size = 16 };
  unknown = λ occasion place. 0;
}

-- the unit whose function shows this place
abbrev pub shows : (place : ℕ) → Machine (Thread ℕ Pointing)
shows place = (language pointing).unit setting (place ∷ [])
