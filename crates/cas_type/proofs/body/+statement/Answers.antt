use Rattle.std.proofs.Common.{◌≡◌, ◌≤◌, ℕ, ◌+◌, List, [], ◌∷◌, ◌++◌, true, length, drop, OnOk, Ok, refl, ap, sym, subst, ◌∙◌, arith}
use Rattle.std.proofs.lemmas.Grind.{common_steps}
use Rattle.std.proofs.lemmas.List.{append_assoc}
use Rattle.cas_base.specs.declared.kind.Ty.{Ty}
use Rattle.cas_syntax.specs.declared.tree.Stmt.{Stmt}
use Rattle.cas_syntax.specs.Tree as tree
use Rattle.cas_syntax.specs.Tree.{StmtTree, StmtList, expr_tree, optional_tree, stmt_tree, stmt_trees}
use Rattle.cas_type.specs.Rows.{StmtWalks, PartWalks, ListWalks, after_list, part_tree}
use Rattle.cas_type.specs.View.{outside, forgotten}
use Rattle.cas_type.proofs.For_parts.{for_walks}
use Rattle.cas_type.proofs.Parts.{part_present, part_absent, block_walks, while_walks, do_walks, if_walks}
use Rattle.cas_type.proofs.Scopes_left.{Leaves, leaves-after_list, leaves-for, outside-inside, mark_within, forgotten-after}
use Rattle.cas_type.proofs.Lists.{Walking, Walking-none, Walking-more, Walking-all}
use Rattle.cas_type.proofs.Trees.{block_tree, next_statement}
use Rattle.cas_typed.specs.Numbered.{optional_expr_tree}
use Rattle.cas_typed.specs.Resolved.{typed_expr_tree}
use Rattle.cas_typed.specs.Scopes.{Scope, inside, past, past_option, after, after_option, locals_of, locals_of_option, locals_of_list}
use Rattle.cas_typed.specs.Walk.{walk, walk_part, walk_list, walk_test, walk_optional}
use Rattle.cas_typed.specs.declared.rows.StmtRowForm.TheVariants as row
use Rattle.cas_typed.specs.declared.tree.TypedExpr.{TypedExpr}
use Rattle.cas_type.proofs.body.+statement.Goals as goal

pub part-returns-clause-scope : goal.part-returns-clause-scope
part-returns-clause-scope t c =
    let s = c.args.scopes.now in
    c.forget.ensures
    ∙ ap (λ visible. forgotten visible c.statement.new.scopes) c.visible-visible.ensures
    ∙ ap (forgotten (length s.block + length s.around)) c.in_ok-number.ensures.scope
    ∙ forgotten-after s (stmt_tree c.args.stmt.now)

pub first_part-returns-in_ok-statement-in-Some-clause-rows : goal.first_part-returns-in_ok-statement-in-Some-clause-rows
first_part-returns-in_ok-statement-in-Some-clause-rows t c =
    part_present c.args.within.ret c.args.within.in_loop c.args.scopes.now (stmt_tree c.deref.result.now)
    (part_tree c.args.stmt.now)
    c.args.made.now.rows.items c.statement.new.made.rows.items c.in_ok-statement-in-Some.field-0
    (ap part_tree c.in-Some.is ∙ ap (λ stmt. tree.present (stmt_tree stmt)) (sym c.deref.ensures))
    c.in_ok-statement-in-Some.ensures.rows

pub first_part-returns-in-None-clause-rows : goal.first_part-returns-in-None-clause-rows
first_part-returns-in-None-clause-rows t c =
    part_absent c.args.within.ret c.args.within.in_loop c.args.scopes.now (part_tree c.args.stmt.now)
    c.args.made.now.rows.items (ap part_tree c.in-None.is)

pub optional_part-returns-in_ok-part-in-Some-clause-rows : goal.optional_part-returns-in_ok-part-in-Some-clause-rows
optional_part-returns-in_ok-part-in-Some-clause-rows t c =
    part_present c.args.within.ret c.args.within.in_loop c.args.scopes.now (stmt_tree c.deref.result.now)
    (part_tree c.args.stmt.now)
    c.args.made.now.rows.items c.part.new.made.rows.items c.in_ok-part-in-Some.field-0
    (ap part_tree c.in-Some.is ∙ ap (λ stmt. tree.present (stmt_tree stmt)) (sym c.deref.ensures))
    c.in_ok-part-in-Some.ensures.rows

pub optional_part-returns-in-None-clause-rows : goal.optional_part-returns-in-None-clause-rows
optional_part-returns-in-None-clause-rows t c =
    part_absent c.args.within.ret c.args.within.in_loop c.args.scopes.now (part_tree c.args.stmt.now)
    c.args.made.now.rows.items (ap part_tree c.in-None.is)

pub block-leave-requires : goal.block-leave-requires
block-leave-requires t c =
    let s = c.args.scopes.now in
    let all = stmt_trees c.args.stmts.now in
    let is : c.list.new.scopes ≡ after_list (inside s) all = c.in_ok-numbers.ensures.scope
    ∙ ap (λ start. after_list start all) c.enter-mark.ensures.inner in
    let left : Leaves (inside s) c.list.new.scopes (length (locals_of_list all)) =
    subst (λ end. Leaves (inside s) end (length (locals_of_list all))) (sym is) (leaves-after_list (inside s) all) in
    let within : length s.around ≤ length c.list.new.scopes.around =
    mark_within s c.list.new.scopes (length (locals_of_list all)) left in
    let mark : c.enter-mark.result ≡ length s.around = c.enter-mark.ensures.mark in
    omega arith

pub block-returns-clause-rows : goal.block-returns-clause-rows
block-returns-clause-rows t c =
    let l = c.args.within.in_loop in
    let all = stmt_trees c.args.stmts.now in
    let parts : ListWalks c.begin.new.self.rows.items c.list.new.made.rows.items (Ok c.in_ok-numbers.numbers)
    (walk_list c.args.within.ret l (inside c.args.scopes.now) all) =
    subst (λ start. ListWalks c.begin.new.self.rows.items c.list.new.made.rows.items (Ok c.in_ok-numbers.numbers)
    (walk_list c.args.within.ret l start all))
    c.enter-mark.ensures.inner c.in_ok-numbers.ensures.rows in
    block_walks c.args.within.ret l c.args.scopes.now c.args.place all c.args.made.now.rows.items
    c.begin.new.self.rows.items c.list.new.made.rows.items
    c.set.new.self.rows.items c.in_ok-number.number c.in_ok-numbers.numbers row.Skip c.in_ok-number.ensures.number
    c.in_ok-number.ensures.rows parts c.set.ensures.rows

pub block-returns-clause-scope : goal.block-returns-clause-scope
block-returns-clause-scope t c =
    let s = c.args.scopes.now in
    let all = stmt_trees c.args.stmts.now in
    let is : c.list.new.scopes ≡ after_list (inside s) all = c.in_ok-numbers.ensures.scope
    ∙ ap (λ start. after_list start all) c.enter-mark.ensures.inner in
    let left : Leaves (inside s) c.list.new.scopes (length (locals_of_list all)) =
    subst (λ end. Leaves (inside s) end (length (locals_of_list all))) (sym is) (leaves-after_list (inside s) all) in
    c.leave.ensures ∙ ap (λ mark. outside mark c.list.new.scopes) c.enter-mark.ensures.mark
    ∙ outside-inside s c.list.new.scopes (length (locals_of_list all)) left

pub branches-returns-clause-rows : goal.branches-returns-clause-rows
branches-returns-clause-rows t c =
    let ret = c.args.within.ret in
    let l = c.args.within.in_loop in
    let b = stmt_tree c.args.first.now in
    let d = part_tree c.args.second.now in
    let second : PartWalks c.part.new.made.rows.items c.optional_part.new.made.rows.items (Ok c.in_ok-second.second)
    (walk_part ret l (past c.args.scopes.now b) d) =
    subst (λ s. PartWalks c.part.new.made.rows.items c.optional_part.new.made.rows.items (Ok c.in_ok-second.second)
    (walk_part ret l s d))
    c.in_ok-first.ensures.scope c.in_ok-second.ensures.rows in
    if_walks ret l c.args.scopes.now c.args.place (expr_tree c.args.test.now)
    b d c.args.made.now.rows.items c.begin.new.self.rows.items c.part.new.made.rows.items
    c.optional_part.new.made.rows.items c.set.new.self.rows.items c.in_ok-number.number c.in_ok-first.first
    c.in_ok-second.second row.Skip c.into_inner-test.result
    (c.in_ok-test.ensures ∙ ap (λ (e : TypedExpr). Ok (typed_expr_tree e)) (sym c.into_inner-test.ensures))
    c.in_ok-number.ensures.number c.in_ok-number.ensures.rows
    c.in_ok-first.ensures.rows second c.set.ensures.rows

pub while_loop-returns-clause-rows : goal.while_loop-returns-clause-rows
while_loop-returns-clause-rows t c =
    let b = stmt_tree c.args.body.now in
    let body : StmtWalks c.begin.new.self.rows.items c.part.new.made.rows.items (Ok c.in_ok-body.body)
    (walk c.args.within.ret true c.args.scopes.now b) =
    subst (λ w. StmtWalks c.begin.new.self.rows.items c.part.new.made.rows.items (Ok c.in_ok-body.body)
    (walk w.ret w.in_loop c.args.scopes.now b))
    c.looped.ensures c.in_ok-body.ensures.rows in
    while_walks c.args.within.ret c.args.within.in_loop c.args.scopes.now c.args.place (expr_tree c.args.test.now)
    b c.args.made.now.rows.items c.begin.new.self.rows.items
    c.part.new.made.rows.items c.set.new.self.rows.items c.in_ok-number.number c.in_ok-body.body row.Skip
    c.into_inner-test.result
    (c.in_ok-test.ensures ∙ ap (λ (e : TypedExpr). Ok (typed_expr_tree e)) (sym c.into_inner-test.ensures))
    c.in_ok-number.ensures.number c.in_ok-number.ensures.rows body
    c.set.ensures.rows

pub do_loop-returns-clause-rows : goal.do_loop-returns-clause-rows
do_loop-returns-clause-rows t c =
    let b = stmt_tree c.args.body.now in
    let body : StmtWalks c.begin.new.self.rows.items c.part.new.made.rows.items (Ok c.in_ok-body.body)
    (walk c.args.within.ret true c.args.scopes.now b) =
    subst (λ w. StmtWalks c.begin.new.self.rows.items c.part.new.made.rows.items (Ok c.in_ok-body.body)
    (walk w.ret w.in_loop c.args.scopes.now b))
    c.looped.ensures c.in_ok-body.ensures.rows in
    do_walks c.args.within.ret c.args.within.in_loop c.args.scopes.now c.args.place b (expr_tree c.args.test.now)
    c.args.made.now.rows.items c.begin.new.self.rows.items
    c.part.new.made.rows.items c.set.new.self.rows.items c.in_ok-number.number c.in_ok-body.body row.Skip
    c.into_inner-test.result
    c.in_ok-number.ensures.number c.in_ok-number.ensures.rows body
    (c.in_ok-test.ensures ∙ ap (λ (e : TypedExpr). Ok (typed_expr_tree e)) (sym c.into_inner-test.ensures))
    c.set.ensures.rows

pub for_loop-returns-clause-rows : goal.for_loop-returns-clause-rows
for_loop-returns-clause-rows t c =
    let ret = c.args.within.ret in
    let l = c.args.within.in_loop in
    let s = c.args.scopes.now in
    let i = part_tree c.args.first.now in
    let u = part_tree c.args.next.now in
    let b = stmt_tree c.args.body.now in
    let x = optional_tree c.args.test.now in
    let begun = c.begin.new.self.rows.items in
    let first_made = c.first_part.new.made.rows.items in
    let next_made = c.optional_part.new.made.rows.items in
    let body_made = c.part.new.made.rows.items in
    let within : c.first_part.new.scopes ≡ after_option (inside s) i = c.in_ok-first.ensures.scope
    ∙ ap (λ start. after_option start i) c.enter-mark.ensures.inner in
    let behind : c.optional_part.new.scopes ≡ past_option (after_option (inside s) i) u = c.in_ok-next.ensures.scope
    ∙ ap (λ start. past_option start u) within in
    let first : PartWalks begun first_made (Ok c.in_ok-first.first) (walk_part ret l (inside s) i) =
    subst (λ start. PartWalks begun first_made (Ok c.in_ok-first.first) (walk_part ret l start i))
    c.enter-mark.ensures.inner c.in_ok-first.ensures.rows in
    let found : walk_optional c.first_part.new.scopes c.args.place x ≡ Ok (optional_expr_tree c.unboxed.result) =
    c.in_ok-test.ensures ∙ ap Ok (sym c.unboxed.ensures) in
    let test : walk_optional (after_option (inside s) i) c.args.place x ≡ Ok (optional_expr_tree c.unboxed.result) =
    subst (λ start. walk_optional start c.args.place x ≡ Ok (optional_expr_tree c.unboxed.result)) within found in
    let next : PartWalks first_made next_made (Ok c.in_ok-next.next) (walk_part ret l (after_option (inside s) i) u) =
    subst (λ start. PartWalks first_made next_made (Ok c.in_ok-next.next) (walk_part ret l start u))
    within c.in_ok-next.ensures.rows in
    let looped : StmtWalks next_made body_made (Ok c.in_ok-body.body) (walk ret true c.optional_part.new.scopes b) =
    subst (λ w. StmtWalks next_made body_made (Ok c.in_ok-body.body)
    (walk w.ret w.in_loop c.optional_part.new.scopes b)) c.looped.ensures c.in_ok-body.ensures.rows in
    let body : StmtWalks next_made body_made (Ok c.in_ok-body.body)
    (walk ret true (past_option (after_option (inside s) i) u) b) =
    subst (λ start. StmtWalks next_made body_made (Ok c.in_ok-body.body) (walk ret true start b)) behind looped in
    for_walks ret l s c.args.place i x u b c.args.made.now.rows.items begun first_made next_made body_made
    c.set.new.self.rows.items
    c.in_ok-number.number c.in_ok-body.body c.in_ok-first.first c.in_ok-next.next row.Skip c.unboxed.result
    c.in_ok-number.ensures.number c.in_ok-number.ensures.rows first test next body c.set.ensures.rows

pub for_loop-returns-clause-scope : goal.for_loop-returns-clause-scope
for_loop-returns-clause-scope t c =
    let s = c.args.scopes.now in
    let i = part_tree c.args.first.now in
    let u = part_tree c.args.next.now in
    let b = stmt_tree c.args.body.now in
    let xs = locals_of_option i ++ (locals_of_option u ++ locals_of b) in
    let is : c.part.new.scopes ≡ past (past_option (after_option (inside s) i) u) b =
    c.in_ok-body.ensures.scope
    ∙ ap (λ start. past start b) (c.in_ok-next.ensures.scope
    ∙ ap (λ start. past_option start u) (c.in_ok-first.ensures.scope
    ∙ ap (λ start. after_option start i) c.enter-mark.ensures.inner)) in
    let left : Leaves (inside s) c.part.new.scopes (length xs) =
    subst (λ end. Leaves (inside s) end (length xs)) (sym is) (leaves-for (inside s) i u b xs refl) in
    c.leave.ensures ∙ ap (λ mark. outside mark c.part.new.scopes) c.enter-mark.ensures.mark
    ∙ outside-inside s c.part.new.scopes (length xs) left

pub statement-returns-in-Block-clause-rows : goal.statement-returns-in-Block-clause-rows
statement-returns-in-Block-clause-rows t c =
    subst (λ (a : StmtTree). StmtWalks c.args.made.now.rows.items c.block.new.made.rows.items c.block.result
    (walk c.args.within.ret c.args.within.in_loop c.args.scopes.now a))
    (block_tree c.args.stmt.now c.in-Block.stmts c.deref.result.now c.in-Block.is c.deref.ensures.value)
    c.block.ensures.rows

pub statement-returns-in-Block-clause-locals : goal.statement-returns-in-Block-clause-locals
statement-returns-in-Block-clause-locals t c =
    subst (λ (a : StmtTree). OnOk c.block.result
    (c.block.new.made.locals.items ≡ c.args.made.now.locals.items ++ locals_of a))
    (block_tree c.args.stmt.now c.in-Block.stmts c.deref.result.now c.in-Block.is c.deref.ensures.value)
    c.block.ensures.locals

pub statement-returns-in-Block-clause-scope : goal.statement-returns-in-Block-clause-scope
statement-returns-in-Block-clause-scope t c =
    subst (λ (a : StmtTree). OnOk c.block.result (c.block.new.scopes ≡ after c.args.scopes.now a))
    (block_tree c.args.stmt.now c.in-Block.stmts c.deref.result.now c.in-Block.is c.deref.ensures.value)
    c.block.ensures.scope

pub list-loop-stmt-init : goal.list-loop-stmt-init
list-loop-stmt-init t c =
    let all = stmt_trees c.args.stmts.now in
    let old = c.args.made.now.rows.items in
    record {
      walking =
          subst (λ (ns : List ℕ). Walking c.args.within.ret c.args.within.in_loop c.args.scopes.now all old
          c.args.scopes.now all old ns) (sym c.new-numbers.ensures.items)
          (Walking-none c.args.within.ret c.args.within.in_loop c.args.scopes.now all old);
      locals = refl;
    }

pub list-loop-stmt-preserved : goal.list-loop-stmt-preserved
list-loop-stmt-preserved t c =
    let ret = c.args.within.ret in
    let l = c.args.within.in_loop in
    let start = c.args.scopes.now in
    let ss = c.args.stmts.now in
    let all = stmt_trees ss in
    let old = c.args.made.now.rows.items in
    let k = c.loop-stmt.stmt-index in
    let a = c.stmt-item.result in
    let now = c.loop-stmt.scopes in
    let rest = stmt_trees (drop (k + 1) ss) in
    let made = c.loop-stmt.made.rows.items in
    let new = c.statement.new.made.rows.items in
    let ns = c.loop-stmt.numbers.items in
    let is : stmt_trees (drop k ss) ≡ tree.one_more (stmt_tree a) rest =
    next_statement ss k a c.loop-stmt-test.true c.stmt-item.is in
    let before : Walking ret l start all old now (tree.one_more (stmt_tree a) rest) made ns =
    subst (λ (left : StmtList). Walking ret l start all old now left made ns) is c.loop-stmt.invariant.walking in
    let more : Walking ret l start all old (after now (stmt_tree a)) rest new (ns ++ c.in_ok-number.number ∷ []) =
    Walking-more ret l start all old now (stmt_tree a) rest made new ns c.in_ok-number.number before
    c.in_ok-number.ensures.rows in
    let behind : Walking ret l start all old c.statement.new.scopes rest new (ns ++ c.in_ok-number.number ∷ []) =
    subst (λ (end : Scope). Walking ret l start all old end rest new (ns ++ c.in_ok-number.number ∷ []))
    (sym c.in_ok-number.ensures.scope) more in
    record {
      walking = subst (λ (numbers : List ℕ). Walking ret l start all old c.statement.new.scopes rest new numbers)
          (sym c.in_ok-push.ensures.items) behind;
      locals = ap (λ (xs : List Ty). xs ++ locals_of_list rest) c.in_ok-number.ensures.locals
          ∙ append_assoc c.loop-stmt.made.locals.items (locals_of (stmt_tree a)) (locals_of_list rest)
          ∙ ap (λ (bs : StmtList). c.loop-stmt.made.locals.items ++ locals_of_list bs) (sym is)
          ∙ c.loop-stmt.invariant.locals;
    }

pub list-returns-clause-rows : goal.list-returns-clause-rows
list-returns-clause-rows t c =
    let ret = c.args.within.ret in
    let l = c.args.within.in_loop in
    let start = c.args.scopes.now in
    let all = stmt_trees c.args.stmts.now in
    let old = c.args.made.now.rows.items in
    let now = c.loop-stmt.scopes in
    let made = c.loop-stmt.made.rows.items in
    let ns = c.loop-stmt.numbers.items in
    let over : drop c.loop-stmt.stmt-index c.args.stmts.now ≡ [] = grind (arith, common_steps) in
    let done : Walking ret l start all old now tree.no_more made ns =
    subst (λ (left : List Stmt). Walking ret l start all old now (stmt_trees left) made ns)
    over c.loop-stmt.invariant.walking in
    subst (λ (numbers : List ℕ). ListWalks old made (Ok numbers) (walk_list ret l start all)) (sym c.of.ensures)
    (Walking-all ret l start all old now made ns done)
