use Rattle.std.proofs.Common.{Err, subst, ◌∙◌}
use Rattle.cas_program.specs.Program.{env_of}
use Rattle.cas_top.specs.View.{IsJoined}
use Rattle.cas_top.proofs.Turning.{joined_refused}
use Rattle.cas_whole.specs.Program_of.{IsProgramOf}
use Rattle.cas_world.specs.Races.{IsRaceFree, program_world}
use Rattle.cas_top.proofs.worlds.joined.Goals as goal

pub returns-in-Ok : goal.returns-in-Ok
returns-in-Ok c = λ ms typed.
    let made = c.in-Ok.ensures.made ms typed in
    subst (λ ns. IsProgramOf c.in-Ok.program ms ns × IsRaceFree (env_of ms) (program_world ms ns))
    (c.as_slice.ensures.value ∙ c.in_ok-entries.ensures)
    (made, c.in-Ok.ensures.race_free ms _ made)

pub returns : goal.returns
returns c = λ ms typed.
    subst (λ ns. IsJoined ms ns (Err c.unlinked.result)) (c.as_slice.ensures.value ∙ c.in_ok-entries.ensures)
    (joined_refused ms _ _ c.unlinked.result (c.in-Err.ensures.refused ms typed) c.unlinked.ensures)
