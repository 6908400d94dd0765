-- Where both programs begin a step: what is left of the target is made of what is left of the source, and memories are
-- equal. The two steps of a Show are one of the source; a Skip is a step of the source alone.
--
--     t:   x ─ Read ─► · ─ Put ─► x'         x
--          │                      │          │ ╲
--        Makes                  Makes      Makes  Makes
--          │                      │          │      ╲
--     s:   y ─────── Show ──────► y'         y ─ Skip ─► y'
use Rattle.std.specs.Prelude.{◌≡◌, List}
use Rattle.cas_runs.specs.Unmoved.{Unmoved}
use Rattle.cas_trial.specs.declared.lowering.High.{High}
use Rattle.cas_trial.specs.declared.lowering.HighFunction.{HighFunction}
use Rattle.cas_trial.specs.declared.lowering.LowFunction.{LowFunction}
use Rattle.cas_trial.specs.Lowering.Languages.{LowState, high_language, low_language}
use Rattle.cas_trial.specs.Lowering.Makes.{Makes, IsLowered}

-- the pass
abbrev pub lowering : Unmoved LowFunction LowState HighFunction (List High)
lowering = record {
  target = low_language;
  source = high_language;
  made = λ decls. IsLowered;
  match_states = λ setting ts ss a x t y s. Makes x.rest y × (t ≡ s);
}
