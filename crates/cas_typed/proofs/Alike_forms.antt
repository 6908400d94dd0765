-- Places don't matter to what is formed: a module that is formed but for places is formed.
use Rattle.std.proofs.Common.{◌≡◌, List, [], ◌∷◌, map, length, Option, Some, None, sym, ◌∙◌, subst}
use Rattle.std.proofs.lemmas.List.{length-map}
use Rattle.cas_syntax.specs.Alike.{IsAlike, bare_ident, bare_expr, bare_option, bare_target, bare_init, bare_stmt, bare_stmt_option, bare_stmts, bare_item, bare_module}
use Rattle.cas_syntax.specs.Tree.{ExprTree, literal, name, index, deref, address, address_index, unary, cast, binary, and_also, or_else, conditional, TargetTree, to_name, to_index, to_deref, InitTree, nothing, value, called, StmtTree, skip, declare, assign, call, block, if_, while_, do_, for_, break_, continue_, return_, lock, unlock, print, StmtOption, absent, present, StmtList, no_more, one_more, ItemTree, global, prototype, define, ModuleTree}
use Rattle.cas_typed.specs.Formed.{ExprIsFormed, ExprsAreFormed, OptionalIsFormed, TargetIsFormed, InitIsFormed, StmtIsFormed, PartIsFormed, BodyIsFormed, ItemIsFormed, ItemsAreFormed, IsFormed}

-- what is formed is formed without its places

without_expr : (a : ExprTree) → ExprIsFormed a → ExprIsFormed (bare_expr a)
without_expr (literal n k) h = h
without_expr (name x) h = h
without_expr (index x a) h = without_expr a h
without_expr (deref a) h = without_expr a h
without_expr (address x) h = h
without_expr (address_index x a) h = without_expr a h
without_expr (unary op a) h = without_expr a h
without_expr (cast k a) h = without_expr a h
without_expr (binary op a b) h = (without_expr a h.0, without_expr b h.1)
without_expr (and_also a b) h = (without_expr a h.0, without_expr b h.1)
without_expr (or_else a b) h = (without_expr a h.0, without_expr b h.1)
without_expr (conditional c a b) h = (without_expr c h.0, without_expr a h.1, without_expr b h.2)

without_exprs : (args : List ExprTree) → ExprsAreFormed args → ExprsAreFormed (map bare_expr args)
without_exprs [] h = h
without_exprs (a ∷ args) h = (without_expr a h.0, without_exprs args h.1)

without_optional : (a : Option ExprTree) → OptionalIsFormed a → OptionalIsFormed (bare_option bare_expr a)
without_optional None h = h
without_optional (Some a) h = without_expr a h

without_target : (a : TargetTree) → TargetIsFormed a → TargetIsFormed (bare_target a)
without_target (to_name x) h = h
without_target (to_index x a) h = without_expr a h
without_target (to_deref a) h = without_expr a h

without_init : (a : InitTree) → InitIsFormed a → InitIsFormed (bare_init a)
without_init nothing h = h
without_init (value a) h = without_expr a h
without_init (called f args) h = without_exprs args h

mutual
  without_stmt : (a : StmtTree) → StmtIsFormed a → StmtIsFormed (bare_stmt a)
  without_stmt (skip p) h = h
  without_stmt (declare p ty x a) h = (h.0, without_init a h.1)
  without_stmt (assign p target op a) h = (without_target target h.0, without_expr a h.1)
  without_stmt (call p x f args) h = without_exprs args h
  without_stmt (block p bs) h = without_stmts bs h
  without_stmt (if_ p c a otherwise) h = (without_expr c h.0, without_stmt a h.1, without_part otherwise h.2)
  without_stmt (while_ p c a) h = (without_expr c h.0, without_stmt a h.1)
  without_stmt (do_ p a c) h = (without_stmt a h.0, without_expr c h.1)
  without_stmt (for_ p first c after a) h =
      (without_part first h.0, without_optional c h.1, without_part after h.2, without_stmt a h.3)
  without_stmt (break_ p) h = h
  without_stmt (continue_ p) h = h
  without_stmt (return_ p a) h = without_optional a h
  without_stmt (lock p x) h = h
  without_stmt (unlock p x) h = h
  without_stmt (print p a) h = without_expr a h

  without_part : (a : StmtOption) → PartIsFormed a → PartIsFormed (bare_stmt_option a)
  without_part absent h = h
  without_part (present a) h = without_stmt a h

  without_stmts : (a : StmtList) → BodyIsFormed a → BodyIsFormed (bare_stmts a)
  without_stmts no_more h = h
  without_stmts (one_more a bs) h = (without_stmt a h.0, without_stmts bs h.1)

without_item : (a : ItemTree) → ItemIsFormed a → ItemIsFormed (bare_item a)
without_item (global d vs p) h = h
without_item (prototype d held p) h = h
without_item (define f) h = (h.0, h.1, length-map f.params bare_ident ∙ h.2, without_stmts f.body h.3)

without_items : (items : List ItemTree) → ItemsAreFormed items → ItemsAreFormed (map bare_item items)
without_items [] h = h
without_items (a ∷ items) h = (without_item a h.0, without_items items h.1)

-- and the other way round

with_expr : (a : ExprTree) → ExprIsFormed (bare_expr a) → ExprIsFormed a
with_expr (literal n k) h = h
with_expr (name x) h = h
with_expr (index x a) h = with_expr a h
with_expr (deref a) h = with_expr a h
with_expr (address x) h = h
with_expr (address_index x a) h = with_expr a h
with_expr (unary op a) h = with_expr a h
with_expr (cast k a) h = with_expr a h
with_expr (binary op a b) h = (with_expr a h.0, with_expr b h.1)
with_expr (and_also a b) h = (with_expr a h.0, with_expr b h.1)
with_expr (or_else a b) h = (with_expr a h.0, with_expr b h.1)
with_expr (conditional c a b) h = (with_expr c h.0, with_expr a h.1, with_expr b h.2)

with_exprs : (args : List ExprTree) → ExprsAreFormed (map bare_expr args) → ExprsAreFormed args
with_exprs [] h = h
with_exprs (a ∷ args) h = (with_expr a h.0, with_exprs args h.1)

with_optional : (a : Option ExprTree) → OptionalIsFormed (bare_option bare_expr a) → OptionalIsFormed a
with_optional None h = h
with_optional (Some a) h = with_expr a h

with_target : (a : TargetTree) → TargetIsFormed (bare_target a) → TargetIsFormed a
with_target (to_name x) h = h
with_target (to_index x a) h = with_expr a h
with_target (to_deref a) h = with_expr a h

with_init : (a : InitTree) → InitIsFormed (bare_init a) → InitIsFormed a
with_init nothing h = h
with_init (value a) h = with_expr a h
with_init (called f args) h = with_exprs args h

mutual
  with_stmt : (a : StmtTree) → StmtIsFormed (bare_stmt a) → StmtIsFormed a
  with_stmt (skip p) h = h
  with_stmt (declare p ty x a) h = (h.0, with_init a h.1)
  with_stmt (assign p target op a) h = (with_target target h.0, with_expr a h.1)
  with_stmt (call p x f args) h = with_exprs args h
  with_stmt (block p bs) h = with_stmts bs h
  with_stmt (if_ p c a otherwise) h = (with_expr c h.0, with_stmt a h.1, with_part otherwise h.2)
  with_stmt (while_ p c a) h = (with_expr c h.0, with_stmt a h.1)
  with_stmt (do_ p a c) h = (with_stmt a h.0, with_expr c h.1)
  with_stmt (for_ p first c after a) h =
      (with_part first h.0, with_optional c h.1, with_part after h.2, with_stmt a h.3)
  with_stmt (break_ p) h = h
  with_stmt (continue_ p) h = h
  with_stmt (return_ p a) h = with_optional a h
  with_stmt (lock p x) h = h
  with_stmt (unlock p x) h = h
  with_stmt (print p a) h = with_expr a h

  with_part : (a : StmtOption) → PartIsFormed (bare_stmt_option a) → PartIsFormed a
  with_part absent h = h
  with_part (present a) h = with_stmt a h

  with_stmts : (a : StmtList) → BodyIsFormed (bare_stmts a) → BodyIsFormed a
  with_stmts no_more h = h
  with_stmts (one_more a bs) h = (with_stmt a h.0, with_stmts bs h.1)

with_item : (a : ItemTree) → ItemIsFormed (bare_item a) → ItemIsFormed a
with_item (global d vs p) h = h
with_item (prototype d held p) h = h
with_item (define f) h = (h.0, h.1, sym (length-map f.params bare_ident) ∙ h.2, with_stmts f.body h.3)

with_items : (items : List ItemTree) → ItemsAreFormed (map bare_item items) → ItemsAreFormed items
with_items [] h = h
with_items (a ∷ items) h = (with_item a h.0, with_items items h.1)

-- modules that are alike are formed together
pub alike_is_formed : (m n : ModuleTree) → IsAlike m n → IsFormed m → IsFormed n
alike_is_formed m n e h = with_items n.items (subst (λ r. ItemsAreFormed r.items) e (without_items m.items h))
