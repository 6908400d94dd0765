-- Trees that are the same but for places.
use Rattle.std.specs.Prelude.{◌≡◌, map, Option, Some, None}
use Rattle.cas_base.specs.declared.place.Place.{Place}
use Rattle.cas_syntax.specs.declared.tree.Ident.{Ident}
use Rattle.cas_syntax.specs.Tree.{ExprTree, literal, name, index, deref, address, address_index, unary, cast, binary, and_also, or_else, conditional, TargetTree, to_name, to_index, to_deref, InitTree, nothing, value, called, StmtTree, skip, declare, assign, call, block, if_, while_, do_, for_, break_, continue_, return_, lock, unlock, print, StmtOption, absent, present, StmtList, no_more, one_more, FunTree, ItemTree, global, prototype, define, ModuleTree}

-- line 1, column 1
abbrev pub nowhere : Place
nowhere = record { line = 1; col = 1 }

-- the same with all places at line 1, column 1

abbrev pub bare_ident : Ident → Ident
bare_ident x = record { name = x.name; place = nowhere }

abbrev pub bare_expr : ExprTree → ExprTree
bare_expr (literal n k) = literal n k
bare_expr (name x) = name (bare_ident x)
bare_expr (index x a) = index (bare_ident x) (bare_expr a)
bare_expr (deref a) = deref (bare_expr a)
bare_expr (address x) = address (bare_ident x)
bare_expr (address_index x a) = address_index (bare_ident x) (bare_expr a)
bare_expr (unary op a) = unary op (bare_expr a)
bare_expr (cast k a) = cast k (bare_expr a)
bare_expr (binary op a b) = binary op (bare_expr a) (bare_expr b)
bare_expr (and_also a b) = and_also (bare_expr a) (bare_expr b)
bare_expr (or_else a b) = or_else (bare_expr a) (bare_expr b)
bare_expr (conditional c a b) = conditional (bare_expr c) (bare_expr a) (bare_expr b)

abbrev pub bare_target : TargetTree → TargetTree
bare_target (to_name x) = to_name (bare_ident x)
bare_target (to_index x a) = to_index (bare_ident x) (bare_expr a)
bare_target (to_deref a) = to_deref (bare_expr a)

abbrev pub bare_init : InitTree → InitTree
bare_init nothing = nothing
bare_init (value a) = value (bare_expr a)
bare_init (called f bs) = called (bare_ident f) (map bare_expr bs)

abbrev pub bare_option : {A : Type 0} → (A → A) → Option A → Option A
bare_option bare None = None
bare_option bare (Some a) = Some (bare a)

abbrev mutual
  pub bare_stmt : StmtTree → StmtTree
  bare_stmt (skip p) = skip nowhere
  bare_stmt (declare p ty x a) = declare nowhere ty (bare_ident x) (bare_init a)
  bare_stmt (assign p t op a) = assign nowhere (bare_target t) op (bare_expr a)
  bare_stmt (call p x f bs) = call nowhere (bare_option bare_ident x) (bare_ident f) (map bare_expr bs)
  bare_stmt (block p bs) = block nowhere (bare_stmts bs)
  bare_stmt (if_ p c a b) = if_ nowhere (bare_expr c) (bare_stmt a) (bare_stmt_option b)
  bare_stmt (while_ p c a) = while_ nowhere (bare_expr c) (bare_stmt a)
  bare_stmt (do_ p a c) = do_ nowhere (bare_stmt a) (bare_expr c)
  bare_stmt (for_ p i c u a) = for_ nowhere (bare_stmt_option i) (bare_option bare_expr c) (bare_stmt_option u)
      (bare_stmt a)
  bare_stmt (break_ p) = break_ nowhere
  bare_stmt (continue_ p) = continue_ nowhere
  bare_stmt (return_ p a) = return_ nowhere (bare_option bare_expr a)
  bare_stmt (lock p x) = lock nowhere (bare_ident x)
  bare_stmt (unlock p x) = unlock nowhere (bare_ident x)
  bare_stmt (print p a) = print nowhere (bare_expr a)

  pub bare_stmt_option : StmtOption → StmtOption
  bare_stmt_option absent = absent
  bare_stmt_option (present a) = present (bare_stmt a)

  pub bare_stmts : StmtList → StmtList
  bare_stmts no_more = no_more
  bare_stmts (one_more a bs) = one_more (bare_stmt a) (bare_stmts bs)

abbrev pub bare_fun : FunTree → FunTree
bare_fun f = record {
  decl = f.decl;
  params = map bare_ident f.params;
  held = map (λ p. nowhere) f.held;
  body = bare_stmts f.body;
  place = nowhere;
  closing = nowhere;
}

abbrev pub bare_item : ItemTree → ItemTree
bare_item (global d vs p) = global d vs nowhere
bare_item (prototype d hs p) = prototype d (map (λ p. nowhere) hs) nowhere
bare_item (define f) = define (bare_fun f)

abbrev pub bare_module : ModuleTree → ModuleTree
bare_module m = record { items = map bare_item m.items }

-- two modules are the same but for places
abbrev pub IsAlike : ModuleTree → ModuleTree → Type 0
IsAlike m other = bare_module m ≡ bare_module other
