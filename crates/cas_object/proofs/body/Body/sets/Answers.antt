use Rattle.std.proofs.Common.{ap, ◌∙◌}
use Rattle.cas_object_text.specs.Labels.{is_set}
use Rattle.cas_object.specs.Bodies.{Body}
use Rattle.cas_object.proofs.body.Body.sets.Goals as goal

pub returns : goal.returns
returns c =
    c.has.ensures
    ∙ (c.self.invariant.0 c.args.label ∙ ap (λ (b : Body). is_set b.lines c.args.label) c.self.view_is)
