use Rattle.std.proofs.Common.{ℕ, List, Bor, ◌∙◌, rules, tests}
use Rattle.std.proofs.lemmas.Iterator.{YieldsList-from_slice}
use Rattle.std.proofs.lemmas.Iterator.Search.{all_from_yields_List}
use Rattle.cas_base.specs.Name.{is_name}
use Rattle.cas_command.proofs.Readings.{list_all-map}
use Rattle.cas_command.proofs.values.are_names.Goals as goal

pub returns : goal.returns
returns c =
    all_from_yields_List (λ (name : Bor (List ℕ)). is_name name.now) _ _ _ c.all.ensures.ran
    (YieldsList-from_slice c.args.names.now cc) (λ x b q k. search (rules, tests))
    ∙ list_all-map is_name (λ (name : Bor (List ℕ)). name.now) c.args.names.now
