use Rattle.cas_typed.proofs.Filled.{IsTyped-filled, IsTyped-enough}
use Rattle.cas_typed.proofs.laws.typed_modules_are_filled.Goals as goal

pub returns : goal.returns
returns c = record {
  typed = IsTyped-filled;
  values = IsTyped-enough;
}
