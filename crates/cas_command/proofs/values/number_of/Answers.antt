use Rattle.std.proofs.Common.{◌∙◌, ap, sym, cond, Some, None}
use Rattle.std.specs.Result.{result_ok}
use Rattle.std.specs.Str.Parse.{digits_value}
use Rattle.cas_command.proofs.Readings.{number_of-parsed}
use Rattle.cas_command.proofs.values.number_of.Goals as goal

pub returns-then-is_number : goal.returns-then-is_number
returns-then-is_number c =
    let text = c.args.text.now in
    let e = sym c.is_number.ensures ∙ c.if-is_number.true in
    c.ok.ensures.value
    ∙ ap result_ok (number_of-parsed text c.parse.result c.parse.ensures.value.0 e)
    ∙ ap (λ b. cond b (Some (digits_value 10 text)) None) (sym e)
