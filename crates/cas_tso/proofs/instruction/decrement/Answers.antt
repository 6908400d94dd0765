use Rattle.std.proofs.Common.{◌∙◌, ℕ, List, slice_get, sym, ap, refl}
use Rattle.std.specs.Prelude.{slice_set}
use Rattle.cas_tso.specs.Step.{decremented}
use Rattle.cas_tso.proofs.instruction.decrement.Goals as goal

pub returns-clause-goes : goal.returns-clause-goes
returns-clause-goes c = λ i o. (
  decremented c.args.at c.word_at-word.result,
  (λ x. x),
  (
    c.decrement.ensures,
    ap (λ (l : List ℕ). slice_get l c.args.at) (sym c.deref.ensures.value) ∙ c.word_at-word.ensures,
    ap (slice_set c.args.memory.now.items c.args.at) c.sub.ensures,
    refl,
  ),
)
