-- What a sink takes of the bytes that are put, and when its count of faults rises.
use Rattle.std.specs.Prelude.{ℕ, ◌≡◌, ◌<◌, ◌+◌, List, ◌++◌, take, Option, Some, None, Result, Ok, Err}
use Rattle.cas_outside.specs.declared.sink.SinkFault.{SinkFault}
use Rattle.cas_outside.specs.declared.sink.SinkFault.TheVariants.{Failed, Memory}
use Rattle.cas_outside.specs.Calls.{calls_after}

-- all the bytes were taken, where the sink tells what it took, and it goes on telling or not
abbrev pub TakesAll : Option (List ℕ) → List ℕ → Option (List ℕ) → Type 0
TakesAll None bytes new = new ≡ None
TakesAll (Some old) bytes new = new ≡ Some (old ++ bytes)

-- some first part of the bytes was taken, where the sink tells what it took, and it goes on telling or not
abbrev pub TakesPrefix : Option (List ℕ) → List ℕ → Option (List ℕ) → Type 0
TakesPrefix None bytes new = new ≡ None
TakesPrefix (Some old) bytes new = (k : ℕ) × (new ≡ Some (old ++ take k bytes))

-- the count of faults rises by a failed put, and stays by every other answer
abbrev pub CountsFault : ℕ → ℕ → Result (Unit {0}) SinkFault → Type 0
CountsFault old new (Ok done) = new ≡ old
CountsFault old new (Err Failed) = old < new
CountsFault old new (Err Memory) = new ≡ old

-- a memory sink: the bytes taken, the numbers of the calls that fail, how many calls were made, how many failed
pub record SinkState : Type 0 where
  pub bytes : List ℕ
  pub failing : List ℕ
  pub calls : ℕ
  pub faults : ℕ

-- a memory sink after a put of these bytes answered so: a failed one takes nothing
abbrev pub sink_after : SinkState → List ℕ → Result (Unit {0}) SinkFault → SinkState
sink_after sink bytes (Ok done) = record sink { bytes = sink.bytes ++ bytes; calls = calls_after sink.calls }
sink_after sink bytes (Err Failed) = record sink { calls = calls_after sink.calls; faults = sink.faults + 1 }
sink_after sink bytes (Err Memory) = record sink { calls = calls_after sink.calls }
