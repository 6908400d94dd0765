-- Where both programs stand at the same place. After its call the target has no activation: the source only passes the
-- result on.
--
--     t:   at the call ── tail call ──►                        (gone)
--               │
--            AtCall                                  its caller takes the result
--               │
--     s:   at the call ── call ──► waits ── return of what came ──►
use Rattle.std.specs.Prelude.{◌≡◌, ℕ, List, ◌++◌}
use Rattle.cas_runs.specs.Naming.{Value}
use Rattle.cas_runs.specs.Unmoved.{Unmoved}
use Rattle.cas_trial.specs.declared.tailing.Relayed.{Relayed}
use Rattle.cas_trial.specs.declared.tailing.Relaying.{Relaying}
use Rattle.cas_trial.specs.Relays.{Relay, Begins, calling_by, tailing}
use Rattle.cas_trial.specs.Tailing.Makes.{IsTailing}

-- both stand at their calls
pub data AtCall : Relay → Relay → Type 0 where
  at_call : {word : ℕ} → AtCall (Begins word) (Begins word)

-- the results that the source returns are the first of those that come
abbrev pub ReturnsFirst : (List Value → List Value) → Type 0
ReturnsFirst returned = (values : List Value) → (more : List Value) × (values ≡ returned values ++ more)

-- the pass, by which results the source returns
abbrev pub tail_calls : (List Value → List Value) → Unmoved Relayed Relay Relaying Relay
tail_calls returned = record {
  target = tailing;
  source = calling_by returned;
  made = λ decls. IsTailing;
  match_states = λ setting ts ss a x t y s. AtCall x y × (t ≡ s);
}
