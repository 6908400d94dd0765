use Rattle.cas_syntax.specs.Tree.{module_tree}
use Rattle.cas_typed.proofs.Formed_items.{IsReadAs-formed}
use Rattle.cas_top.proofs.modules.typed_module.Goals as goal

pub type_module-requires : goal.type_module-requires
type_module-requires c =
    record { formed = IsReadAs-formed c.args.text.now (module_tree c.in_ok-tree.tree) c.in_ok-tree.ensures }

pub returns-in-Err : goal.returns-in-Err
returns-in-Err c =
    record {
      typed = c.untyped.ensures c.args.text.now (module_tree c.in_ok-tree.tree)
          c.in_ok-tree.ensures c.in-Err.ensures.fault;
    }
