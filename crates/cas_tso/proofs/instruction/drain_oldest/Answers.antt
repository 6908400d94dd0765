use Rattle.std.proofs.Common.{◌∙◌, ◌<◌, sym, refl, subst}
use Rattle.cas_tso.specs.Step.{drained}
use Rattle.cas_tso.proofs.Buffers.{drains_first}
use Rattle.cas_tso.proofs.instruction.drain_oldest.Goals as goal

pub index_mut-requires : goal.index_mut-requires
index_mut-requires c = c.requires 0 c.in-Some.store (sym c.drain.ensures.value ∙ c.in-Some.is)

pub returns-clause-drains : goal.returns-clause-drains
returns-clause-drains c = λ p i o.
    let x = c.in-Some.store in
    let lt = c.requires 0 x (sym c.drain.ensures.value ∙ c.in-Some.is) in
    (drained x.at x.value, tt, (c.in-Some.ensures.taken p, subst (λ n. x.at < n) c.args.memory.now.ok.0 lt, refl, refl))

pub returns-clause-answer : goal.returns-clause-answer
returns-clause-answer c = drains_first c.args.core.now.buffer c.in-Some.store (sym c.drain.ensures.value ∙ c.in-Some.is)
