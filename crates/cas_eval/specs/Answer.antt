-- What an evaluation answers in the code: its result, or why there is none, without the words that it read.
use Rattle.std.specs.Prelude.{ℕ, List, Option, Result, Ok, Err, slice_get}
use Rattle.cas_step.specs.Answered.{Got, got, bad, got_stuck, answered}
use Rattle.cas_step.specs.Asks.{Asks}
use Rattle.cas_step.specs.Env.{Entity}
use Rattle.cas_step.specs.Evaluate.{EvalContext}
use Rattle.cas_step.specs.Step.{Object, Block, cells_at, same_object}
use Rattle.cas_memory.specs.Entities.{entity_if}
use Rattle.cas_eval.specs.declared.context.EvalContext.{EvalContext as CodeContext}
use Rattle.cas_eval.specs.declared.values.NoResult.{NoResult}
use Rattle.cas_eval.specs.declared.values.NoResult.TheVariants.{Bad, Stuck}

-- the state of an evaluation: what the items of the module stand for, the words, the memory, and the serial number
-- of the activation
pub record EvalState : Type 0 where
  pub entity : (item : ℕ) → Option Entity
  pub words : List ℕ
  pub memory : List Block
  pub serial : ℕ

abbrev pub eval_context : EvalState → EvalContext Object
eval_context r = record {
  entity = r.entity;
  own = λ n. record { serial = r.serial; local = n };
  same = same_object;
}

-- the answer of an outcome, without the words that it read
abbrev pub outcome : {A : Type 0} → Got A → Result A NoResult
outcome (got rs a) = Ok a
outcome (bad rs why) = Err (Bad why)
outcome (got_stuck rs) = Err Stuck

-- what an evaluation answers in this state
unfoldable pub answer : {A : Type 0} → EvalState → Asks Object A → Result A NoResult
answer r x = outcome (answered r.entity (slice_get r.words) (cells_at r.memory) x)

-- the same answer, with what its value stands for
abbrev pub map_answer : {A B : Type 0} → (A → B) → Result A NoResult → Result B NoResult
map_answer view (Ok a) = Ok (view a)
map_answer view (Err e) = Err e

-- the state in which the code evaluates
abbrev pub eval_state : CodeContext → EvalState
eval_state h = record {
  entity = λ g. entity_if (slice_get h.items.now g);
  words = h.words.now;
  memory = h.memory.now;
  serial = h.serial;
}
