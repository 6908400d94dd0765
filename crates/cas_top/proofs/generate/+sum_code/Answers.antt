use Rattle.std.proofs.Common.{◌≡◌, sym, ap, subst, ◌∙◌, arith}
use Rattle.std.specs.Prelude.{IfOk}
use Rattle.cas_base.specs.declared.kind.Kind.TheVariants.{I32}
use Rattle.cas_syntax.specs.Tree.{ExprTree, literal, binary, expr_tree}
use Rattle.cas_syntax.specs.declared.tree.BinaryOperator.TheVariants.{Add}
use Rattle.cas_top.specs.View.{IsSumCode}
use Rattle.cas_top.proofs.Form_laws.{literal_code}
use Rattle.cas_top.proofs.generate.+sum_code.Goals as goal

pub returns-in_ok-vec-in-Lit-default-I32 : goal.returns-in_ok-vec-in-Lit-default-I32
returns-in_ok-vec-in-Lit-default-I32 t c =
    let is : expr_tree c.args.expr.now ≡ literal c.in-Lit-default-I32.value I32 = grind (arith) in
    literal_code _ _ c.in_ok-vec-in-Lit-default-I32.field-0 is c.in_ok-vec-in-Lit-default-I32.ensures.items

pub returns-in_ok-sum_code-in-Lit-default-I32-deref : goal.returns-in_ok-sum_code-in-Lit-default-I32-deref
returns-in_ok-sum_code-in-Lit-default-I32-deref t c =
    let left = expr_tree c.in-Binary-Add-default-default.left.value in
    let value = c.in-Lit-default-I32-deref.value in
    let sum : expr_tree c.args.expr.now ≡ binary Add left (expr_tree c.in-Binary-Add-default-default.right.value) =
    grind (arith) in
    let right : expr_tree c.deref.result.now ≡ literal value I32 = grind (arith) in
    let P : ExprTree → Type 0 = λ a. IfOk c.with_literal.result (λ o. IsSumCode a o) in
    let is = sum ∙ ap (binary Add left) (ap expr_tree (sym c.deref.ensures) ∙ right)
    ∙ ap (λ a. binary Add a (literal value I32)) (ap expr_tree (sym c.deref-in-Lit-default-I32-deref.ensures)) in
    subst P (sym is) (c.with_literal.ensures (expr_tree c.deref-in-Lit-default-I32-deref.result.now)
    c.in_ok-sum_code-in-Lit-default-I32-deref.ensures)
