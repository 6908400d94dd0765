-- The typed modules of checked ones.
use Rattle.std.specs.Prelude.{List, map}
use Rattle.cas_typed.specs.declared.typed.Typed.{Typed}
use Rattle.cas_own.specs.declared.checked.Checked.{Checked}

abbrev pub typed_of : List Checked → List Typed
typed_of checked = map (λ c. c.typed) checked
