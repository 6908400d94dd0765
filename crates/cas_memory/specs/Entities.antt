-- What the code's items stand for.
use Rattle.std.specs.Prelude.{Option, Some, None}
use Rattle.cas_step.specs.Env as env
use Rattle.cas_memory.specs.declared.entity.Entity.{Entity}
use Rattle.cas_memory.specs.declared.entity.Entity.TheVariants.{Function, Shared, Table, Lock}

abbrev pub entity_of : Entity → env.Entity
entity_of (Function u p) = env.function (record { unit = u; place = p })
entity_of (Shared first n guard) = env.shared first n guard
entity_of (Table first n) = env.table first n
entity_of (Lock n) = env.lock n

-- the same for an item that exists and stands for something
abbrev pub entity_if : Option (Option Entity) → Option env.Entity
entity_if (Some (Some x)) = Some (entity_of x)
entity_if _ = None
