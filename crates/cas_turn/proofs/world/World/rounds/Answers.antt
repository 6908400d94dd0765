use Rattle.std.proofs.Common.{arith, ◌≡◌, ap, subst}
use Rattle.std.proofs.lemmas.Result.{err_from_is_err_and}
use Rattle.cas_program.specs.Program.{env_of}
use Rattle.cas_turn.proofs.Rounds_lemmas.{round_more, rounds_cut, rounds_still}
use Rattle.cas_turn.specs.World_of.{IsWorldOf}
use Rattle.cas_world.specs.Turns.{rounds}
use Rattle.cas_turn.proofs.world.World.rounds.Goals as goal

pub returns-in_err-round-clause-cut : goal.returns-in_err-round-clause-cut
returns-in_err-round-clause-cut c =
    let p = err_from_is_err_and c.from_residual.result c.from_residual.ensures.1 in
    rw p.1 (λ ms names w is.
    let v = rounds (env_of ms) w c.loop-round._round in
    rounds_cut (env_of ms) w c.loop-round._round c.args.count (IsWorldOf c.round.new.self ms names)
    (omega (arith, c.loop-round-test.true))
    (c.in_err-round.ensures.cut ms names v (c.loop-round.invariant.1 ms names w is)))

pub returns-then-not-branch-clause-rounds : goal.returns-then-not-branch-clause-rounds
returns-then-not-branch-clause-rounds c = λ ms names w is.
    let e = env_of ms in
    let v = rounds e w c.loop-round._round in
    let here = c.loop-round.invariant.1 ms names w is in
    let behind = c.in_ok-round.ensures.round ms names v here in
    let still = (rw c.if-not-branch.true at c.in_ok-round.ensures.still) ms names v here in
    let all = rounds_still e w c.loop-round._round c.args.count (omega (arith, c.loop-round-test.true)) still in
    subst (IsWorldOf c.round.new.self ms names) all (subst (IsWorldOf c.round.new.self ms names) still behind)

pub loop-round-preserved : goal.loop-round-preserved
loop-round-preserved c = (
  cc,
  λ ms names w is.
      let e = env_of ms in
      let v = rounds e w c.loop-round._round in
      subst (IsWorldOf c.round.new.self ms names) (round_more e w c.loop-round._round)
      (c.in_ok-round.ensures.round ms names v (c.loop-round.invariant.1 ms names w is)),
)

pub returns-clause-rounds : goal.returns-clause-rounds
returns-clause-rounds c = λ ms names w is.
    let end : c.loop-round._round ≡ c.args.count = omega (arith, c.loop-round-test.false, c.loop-round.auto._round-end)
    in
    subst (IsWorldOf c.loop-round.self ms names) (ap (λ n. rounds (env_of ms) w n) end)
    (c.loop-round.invariant.1 ms names w is)
