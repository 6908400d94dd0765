-- A machine: what it is set up with, and its state.
use Rattle.cas_tso.specs.State.{Setup, State}

pub record Machine : Type 0 where
  pub setup : Setup
  pub state : State

abbrev pub machine : Setup → State → Machine
machine p s = record { setup = p; state = s }
