use Rattle.std.proofs.Common.{◌∙◌, rules, tests}
use Rattle.std.specs.List.{list_any}
use Rattle.std.specs.Str.{bytes_eq}
use Rattle.std.proofs.lemmas.Iterator.{YieldsList-from_slice}
use Rattle.std.proofs.lemmas.Iterator.Search.{all_from_yields_List}
use Rattle.cas_command.specs.declared.parts.Given.{Given}
use Rattle.cas_command.specs.Parts.{given_view}
use Rattle.cas_command.specs.Words as w
use Rattle.cas_command.proofs.Readings.{list_all-map}
use Rattle.cas_command.proofs.options.each_is_of_world.Goals as goal

pub returns : goal.returns
returns c =
    all_from_yields_List (λ (g : Given). list_any (bytes_eq g.option.now) w.world_options) _ _ _ c.all.ensures.ran
    (YieldsList-from_slice c.args.options.now cc)
    (λ x b q k. search (rules, tests))
    ∙ list_all-map (λ (g : w.Given). list_any (bytes_eq g.option) w.world_options) given_view c.args.options.now
