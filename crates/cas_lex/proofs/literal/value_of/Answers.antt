use Rattle.std.proofs.Common.{◌∙◌, sym}
use Rattle.std.specs.Str.Parse.{digits_value}
use Rattle.cas_lex.proofs.Literals.{small-more}
use Rattle.cas_lex.proofs.literal.value_of.Goals as goal

pub returns-in_err-value : goal.returns-in_err-value
returns-in_err-value c =
    c.from_residual.ensures
    ∙ sym (small-more c.args.base c.loop-digit.value c.args.digits.now c.loop-digit.digit-index
    (digits_value c.args.base c.args.digits.now) c.requires c.loop-digit-test.true
    (sym c.grown.ensures ∙ c.in_err-value.was) c.loop-digit.invariant.whole)
