use Rattle.std.proofs.Common.{arith, ◌≡◌, replicate, subst, ap}
use Rattle.std.proofs.lemmas.Result.{err_from_is_err_and}
use Rattle.cas_program.specs.Program.{env_of}
use Rattle.cas_turn.proofs.Rounds_lemmas.{turn_more, turns_cut, turns_still}
use Rattle.cas_turn.specs.World_of.{IsWorldOf}
use Rattle.cas_world.specs.Turns.{turns}
use Rattle.cas_turn.proofs.world.World.repeat.Goals as goal

pub returns-in_err-takes_turn-clause-cut : goal.returns-in_err-takes_turn-clause-cut
returns-in_err-takes_turn-clause-cut c =
    let p = err_from_is_err_and c.from_residual.result c.from_residual.ensures.1 in
    rw p.1 (λ ms names w is.
    let v = turns (env_of ms) w (replicate c.loop-turn._turn c.args.thread) in
    let here = c.loop-turn.invariant.1 ms names w is in
    turns_cut (env_of ms) w c.args.thread c.loop-turn._turn c.args.count (IsWorldOf c.takes_turn.new.self ms names)
    (omega (arith, c.loop-turn-test.true))
    (c.in_err-takes_turn.ensures.cut ms names v here) (c.in_err-takes_turn.ensures.wants ms names v here))

pub returns-then-not-branch-clause-turns : goal.returns-then-not-branch-clause-turns
returns-then-not-branch-clause-turns c = λ ms names w is.
    let e = env_of ms in
    let v = turns e w (replicate c.loop-turn._turn c.args.thread) in
    let here = c.loop-turn.invariant.1 ms names w is in
    let behind = c.in_ok-takes_turn.ensures.turn ms names v here in
    let still = (rw c.if-not-branch.true at c.in_ok-takes_turn.ensures.still) ms names v here in
    let all = turns_still e w c.args.thread c.loop-turn._turn c.args.count (omega (arith, c.loop-turn-test.true))
    still in
    subst (IsWorldOf c.takes_turn.new.self ms names) all (subst (IsWorldOf c.takes_turn.new.self ms names) still behind)

pub loop-turn-preserved : goal.loop-turn-preserved
loop-turn-preserved c = (
  cc,
  λ ms names w is.
      let e = env_of ms in
      let v = turns e w (replicate c.loop-turn._turn c.args.thread) in
      subst (IsWorldOf c.takes_turn.new.self ms names) (turn_more e w c.args.thread c.loop-turn._turn)
      (c.in_ok-takes_turn.ensures.turn ms names v (c.loop-turn.invariant.1 ms names w is)),
)

pub returns-clause-turns : goal.returns-clause-turns
returns-clause-turns c = λ ms names w is.
    let end : c.loop-turn._turn ≡ c.args.count = omega (arith, c.loop-turn-test.false, c.loop-turn.auto._turn-end) in
    subst (IsWorldOf c.loop-turn.self ms names) (ap (λ n. turns (env_of ms) w (replicate n c.args.thread)) end)
    (c.loop-turn.invariant.1 ms names w is)
