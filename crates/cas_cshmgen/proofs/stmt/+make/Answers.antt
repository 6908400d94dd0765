use Rattle.std.proofs.Common.{◌≡◌, IfOk, ap, ◌∙◌, subst}
use Rattle.cas_mid.specs.Code.{csharp_list, csharp_statement}
use Rattle.cas_typed.specs.declared.rows.StmtRowForm.{StmtRowForm}
use Rattle.cas_typed.specs.Numbered.{IsRow}
use Rattle.cas_cshmgen.specs.Makes.{Csharp, made_stmts}
use Rattle.cas_cshmgen.proofs.Statements.{one_further, row_if, row_for}
use Rattle.cas_cshmgen.proofs.stmt.+make.Goals as goal

pub make_all-loop-part-preserved : goal.make_all-loop-part-preserved
make_all-loop-part-preserved t c = λ m bs are.
    let body = c.args.body in
    let p = c.loop-part.invariant m bs are in
    let q = one_further body.decls.now body.result body.rows.now c.args.parts.now c.loop-part.part-index p.0 p.1
    c.loop-part.all.items c.in_ok-made.made bs c.loop-part-test.true p.2
    (λ a at. c.in_ok-made.ensures a at) p.3 in (
      q.0,
      q.1,
      q.2,
      λ after. ap (λ xs. csharp_list xs (made_stmts body.decls.now body.result q.1 after))
          c.in_ok-push.ensures.items ∙ q.3 after,
    )

pub make_row-returns-in-If : goal.make_row-returns-in-If
make_row-returns-in-If t c = λ a w.
    let body = c.args.body in
    let is = row_if body.decls.now body.result body.rows.now c.args.n c.args.row.now.place _ _ _ a
    (subst (λ (form : StmtRowForm). IsRow body.rows.now c.args.n a c.args.row.now.place form) c.in-If.is w) in
    subst (λ (s : Csharp). IfOk c.branch-alloc.result (λ made. csharp_statement made ≡ s)) is.5
    (c.branch-alloc.ensures is.0 is.1 is.2 is.3 is.4)

pub make_row-returns-in-For : goal.make_row-returns-in-For
make_row-returns-in-For t c = λ a w.
    let body = c.args.body in
    let is = row_for body.decls.now body.result body.rows.now c.args.n c.args.row.now.place _ _ _ _ a
    (subst (λ (form : StmtRowForm). IsRow body.rows.now c.args.n a c.args.row.now.place form) c.in-For.is w) in
    subst (λ (s : Csharp). IfOk c.make_for.result (λ made. csharp_statement made ≡ s)) is.8
    (c.make_for.ensures is.3 is.4 is.0 is.1 is.2 is.5 is.6 is.7)
