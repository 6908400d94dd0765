use Rattle.cas_syntax.specs.Tree.{module_tree}
use Rattle.cas_typed.proofs.Formed_items.{IsReadAs-formed}
use Rattle.cas_tests.proofs.stepping_tests.checked.Goals as goal

pub type_module-requires : goal.type_module-requires
type_module-requires c =
    record { formed = IsReadAs-formed c.args.text.now (module_tree c.in-Ok.tree) c.in-Ok.ensures.found }
