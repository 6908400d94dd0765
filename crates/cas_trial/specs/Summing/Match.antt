-- Where both programs stand at the same place, with memories that are equal and hold words.
--
--     t:   x ── puts the word out ──────────► x'
--          │                                  │
--       SameSum                            SameSum
--          │                                  │
--     s:   y ── puts its sum with 0 out ────► y'
use Rattle.cas_runs.specs.Stepwise.{at_place}
use Rattle.cas_runs.specs.Worded.{EqualMemories, Worded}
use Rattle.cas_trial.specs.declared.tailing.Relaying.{Relaying}
use Rattle.cas_trial.specs.Sums.{Sum, adding, plain}
use Rattle.cas_trial.specs.Summing.Makes.{IsSame}

-- both stand at the same place
pub data SameSum : Sum → Sum → Type 0 where
  same_sum : {x : Sum} → SameSum x x

-- the pass
abbrev pub summing : Worded Relaying Sum Relaying Sum
summing = record {
  target = plain;
  source = adding;
  made = λ decls. IsSame;
  match_states = λ setting ts ss. at_place (λ f g. SameSum) EqualMemories;
}
