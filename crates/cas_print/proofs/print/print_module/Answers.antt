use Rattle.std.proofs.Common.{◌∙◌, List, [], ℕ, map, ap, subst, sym}
use Rattle.cas_syntax.specs.declared.tree.Item.{Item}
use Rattle.cas_syntax.specs.Alike.{IsAlike}
use Rattle.cas_syntax.specs.Reading.{IsReadAs}
use Rattle.cas_syntax.specs.Tree.{ModuleTree, item_tree, module_tree}
use Rattle.cas_print.specs.Pieces.{text}
use Rattle.cas_print.specs.Items.{printed_items}
use Rattle.cas_print.proofs.Alike.{alike_is_read}
use Rattle.cas_print.proofs.Pages.{all_written}
use Rattle.cas_print.proofs.print.print_module.Goals as goal

pub returns-clause-canonical : goal.returns-clause-canonical
returns-clause-canonical c =
    c.into_string.ensures
    ∙ all_written _ _ _ c.new-page.ensures (c.in_ok-items.ensures [])
    ∙ ap (λ (items : List Item). text (printed_items (map item_tree items) [])) c.as_slice.ensures

pub returns-clause-read_again : goal.returns-clause-read_again
returns-clause-read_again c bytes tree read alike =
    subst (λ (printed : List ℕ). (other : ModuleTree) × IsReadAs printed other
    × IsAlike other (module_tree c.args.module.now))
    (sym (returns-clause-canonical c)) (alike_is_read bytes tree (module_tree c.args.module.now) read alike)
