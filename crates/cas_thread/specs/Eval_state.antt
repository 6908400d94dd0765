-- The state in which the newest activation of a thread evaluates.
use Rattle.cas_step.specs.Env.{Env}
use Rattle.cas_step.specs.Step.{StepContext, entity_in}
use Rattle.cas_eval.specs.Answer.{EvalState}

abbrev pub eval_state_in : Env → StepContext → EvalState
eval_state_in e h =
    record { entity = entity_in e h; words = h.words; memory = h.config.memory; serial = h.newest.serial }
