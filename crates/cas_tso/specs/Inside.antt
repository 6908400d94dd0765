-- A machine in code.
use Rattle.std.specs.Prelude.{◌*◌, ◌≤◌, length, vec_capacity}
use Rattle.cas_tso.specs.Counted.{IsKept, most_fuel}
use Rattle.cas_tso.specs.Machine.{Machine}
use Rattle.cas_tso.specs.State.{setup}
use Rattle.cas_tso.specs.declared.machine.Tso.TheInside.{Inside}

-- the machine that it is
abbrev pub machine_in : Inside → Machine
machine_in t = record {
  setup = setup t.image.now t.options;
  state = record { memory = t.memory.items; output = t.output.items; threads = t.threads.items };
}

-- its state is one that may be reached, its fuel is within the limit, and there is room for all outputs
pub record IsSound (t : Inside) : Type 0 where
  pub kept : IsKept (machine_in t).setup (machine_in t).state
  pub fuel : t.options.fuel ≤ most_fuel
  pub room : t.options.outs * length t.threads.items ≤ vec_capacity t.output
