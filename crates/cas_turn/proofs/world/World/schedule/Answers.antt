use Rattle.std.proofs.Common.{◌++◌, ap, replicate, subst, sym, ◌∙◌, append_assoc}
use Rattle.std.proofs.lemmas.Result.{err_from_is_err_and}
use Rattle.cas_program.specs.Program.{env_of}
use Rattle.cas_turn.proofs.Rounds_lemmas.{schedule_cut, turns-append}
use Rattle.cas_turn.specs.Schedules.{unrolled}
use Rattle.cas_turn.specs.World_of.{IsWorldOf}
use Rattle.cas_turn.proofs.world.World.schedule.Goals as goal

pub returns-in_err-repeat-clause-cut : goal.returns-in_err-repeat-clause-cut
returns-in_err-repeat-clause-cut c =
    let p = err_from_is_err_and c.from_residual.result c.from_residual.ensures.1 in
    rw p.1 (λ ms names w is.
    let (done, all, here) = c.items.invariant.1 ms names w is in
    let item = c.in-Some.item.now in
    let parts = ap (λ rest. done ++ unrolled rest) (sym c.in-Some.ensures.cases.0) ∙ all in
    schedule_cut (env_of ms) w done (replicate item.count item.thread) (unrolled c.in-Some.others.now)
    (unrolled c.args.items.now) (IsWorldOf c.repeat.new.self ms names) parts
    (c.in_err-repeat.ensures.cut ms names _ here))

pub items-preserved : goal.items-preserved
items-preserved c = (
  cc,
  λ ms names w is.
      let (done, all, here) = c.items.invariant.1 ms names w is in
      let item = c.in-Some.item.now in
      let turn = replicate item.count item.thread in
      let parts = ap (λ rest. done ++ unrolled rest) (sym c.in-Some.ensures.cases.0) ∙ all in (
        done ++ turn,
        append_assoc done turn (unrolled c.in-Some.others.now) ∙ parts,
        subst (IsWorldOf c.repeat.new.self ms names) (sym (turns-append (env_of ms) w done turn))
            (c.in_ok-repeat.ensures.turns ms names _ here),
      ),
)
