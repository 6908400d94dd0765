use Rattle.std.proofs.Common.{refl, ap, sym, ◌∙◌}
use Rattle.cas_syntax.specs.Tree.{init_tree}
use Rattle.cas_type.proofs.Trees.{declared_alone}
use Rattle.cas_type.proofs.declare.declaration.Goals as goal

pub returns-then-has_element-clause-form : goal.returns-then-has_element-clause-form
returns-then-has_element-clause-form c = (
  _,
  declared_alone c.args.scopes.now c.args.place c.args.ty c.args.ident.now (init_tree c.args.init.now)
      (ap init_tree c.in-Nothing.is)
      (sym c.is_in_block.ensures ∙ c.if-is_in_block.false) (sym c.has_element.ensures ∙ c.if-has_element.true),
  refl,
)
