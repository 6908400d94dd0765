use Rattle.std.proofs.Common.{◌∙◌}
use Rattle.std.proofs.lemmas.Result.{IfOk-weaker}
use Rattle.cas_turn.proofs.Checked_modules.{all_checked}
use Rattle.cas_turn.proofs.joined.join.Goals as goal

pub returns-clause-checked : goal.returns-clause-checked
returns-clause-checked c = IfOk-weaker c.new.result _ _ (λ made same ms names is.
    all_checked c.typed_modules_are_one.ensures.one c.args.modules.items made.modules ms (same ∙ c.in_ok-typed.ensures)
    is.typed) c.new.ensures.modules

pub returns-clause-race_free : goal.returns-clause-race_free
returns-clause-race_free c = IfOk-weaker c.new.result _ _ (λ made same ms names is.
    c.races_absent.ensures ms names is.program
    (all_checked c.typed_modules_are_one.ensures.one c.args.modules.items made.modules ms (same ∙ c.in_ok-typed.ensures)
    is.typed)) c.new.ensures.modules
