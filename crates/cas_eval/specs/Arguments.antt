-- What the evaluation of arguments answers.
use Rattle.std.specs.Prelude.{◌≡◌, ⊤, List, map, Result, Ok, Err, Vec}
use Rattle.std.specs.declared.alloc.Global.{Global}
use Rattle.cas_step.specs.Asks as asks
use Rattle.cas_step.specs.Step.{Object}
use Rattle.cas_memory.specs.Values.{value_of}
use Rattle.cas_memory.specs.declared.value.Value.{Value}
use Rattle.cas_eval.specs.declared.args.NoArguments.{NoArguments}
use Rattle.cas_eval.specs.declared.args.NoArguments.TheVariants.{Memory, OfValue}
use Rattle.cas_eval.specs.declared.values.NoResult.{NoResult}

-- these are the arguments, or why there are none; running out of memory says nothing
abbrev pub AreArguments : Result (Vec Value Global) NoArguments → Result (List (asks.Value Object)) NoResult → Type 0
AreArguments (Ok values) answer = answer ≡ Ok (map value_of values.items)
AreArguments (Err (OfValue e)) answer = answer ≡ Err e
AreArguments (Err Memory) answer = ⊤

-- values of which only their existence counts
abbrev pub nothing : {A : Type 0} → A → Unit {0}
nothing a = tt
