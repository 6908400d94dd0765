-- What the code's values and objects stand for.
use Rattle.cas_step.specs.Asks as asks
use Rattle.cas_step.specs.Step as step
use Rattle.cas_memory.specs.declared.value.Object.{Object}
use Rattle.cas_memory.specs.declared.value.Value.{Value}
use Rattle.cas_memory.specs.declared.value.Value.TheVariants.{Word, Null, Pointer}

abbrev pub object_of : Object → step.Object
object_of o = record { serial = o.serial; local = o.local }

abbrev pub value_of : Value → asks.Value step.Object
value_of (Word n) = asks.word n
value_of Null = asks.null
value_of (Pointer o p) = asks.pointer (object_of o) p
