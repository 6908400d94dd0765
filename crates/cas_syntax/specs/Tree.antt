-- The trees of modules as plain data: what definitions and contracts speak of. A tree as the code holds it has
-- its children behind pointers; the functions at the end give what it holds.
use Rattle.std.specs.Prelude.{ℕ, List, [], ◌∷◌, map, Option, Some, None}
use Rattle.cas_base.specs.declared.decl.Decl.{Decl}
use Rattle.cas_base.specs.declared.kind.Kind.{Kind}
use Rattle.cas_base.specs.declared.kind.Ty.{Ty}
use Rattle.cas_base.specs.declared.place.Place.{Place}
use Rattle.cas_syntax.specs.declared.tree.UnaryOperator.{UnaryOperator}
use Rattle.cas_syntax.specs.declared.tree.BinaryOperator.{BinaryOperator}
use Rattle.cas_syntax.specs.declared.tree.Ident.{Ident}
use Rattle.cas_syntax.specs.declared.tree.Expr.{Expr, Lit, Name, Index', Deref', Addr, AddrIndex', Unary', Cast', Binary', And', Or', Cond'}
use Rattle.cas_syntax.specs.declared.tree.LValue.{LValue}
use Rattle.cas_syntax.specs.declared.tree.LValue.TheVariants as l
use Rattle.cas_syntax.specs.declared.tree.Init.{Init}
use Rattle.cas_syntax.specs.declared.tree.Init.TheVariants as i
use Rattle.cas_syntax.specs.declared.tree.Stmt.{Stmt}
use Rattle.cas_syntax.specs.declared.tree.StmtForm.{StmtForm, Skip, Declare, Assign, Call, Block', If', While', Do', For', Break, Continue, Return, Lock, Unlock, Print, Row_of-Stmt, end_of-Stmt, more_of-Stmt, Held-StmtForm-If-2, None', Some'}
use Rattle.cas_syntax.specs.declared.tree.Fun.{Fun}
use Rattle.cas_syntax.specs.declared.tree.Item.{Item}
use Rattle.cas_syntax.specs.declared.tree.Item.TheVariants.{Global, Prototype, Define}
use Rattle.cas_syntax.specs.declared.tree.Module.{Module}

-- an expression
pub data ExprTree : Type 0 where
  literal : (value : ℕ) → Kind → ExprTree
  name : Ident → ExprTree
  index : Ident → ExprTree → ExprTree
  deref : ExprTree → ExprTree
  address : Ident → ExprTree
  address_index : Ident → ExprTree → ExprTree
  unary : UnaryOperator → ExprTree → ExprTree
  cast : Kind → ExprTree → ExprTree
  binary : BinaryOperator → ExprTree → ExprTree → ExprTree
  and_also : ExprTree → ExprTree → ExprTree
  or_else : ExprTree → ExprTree → ExprTree
  conditional : ExprTree → ExprTree → ExprTree → ExprTree

-- what an assignment writes
pub data TargetTree : Type 0 where
  to_name : Ident → TargetTree
  to_index : Ident → ExprTree → TargetTree
  to_deref : ExprTree → TargetTree

-- what a local begins with
pub data InitTree : Type 0 where
  nothing : InitTree
  value : ExprTree → InitTree
  called : Ident → List ExprTree → InitTree

mutual
  -- a statement, at its place
  pub data StmtTree : Type 0 where
    skip : Place → StmtTree
    declare : Place → Ty → Ident → InitTree → StmtTree
    assign : Place → TargetTree → Option BinaryOperator → ExprTree → StmtTree
    call : Place → (result : Option Ident) → Ident → List ExprTree → StmtTree
    block : Place → StmtList → StmtTree
    if_ : Place → ExprTree → StmtTree → (otherwise : StmtOption) → StmtTree
    while_ : Place → ExprTree → StmtTree → StmtTree
    do_ : Place → StmtTree → ExprTree → StmtTree
    for_ : Place → (first : StmtOption) → Option ExprTree → (after : StmtOption) → StmtTree → StmtTree
    break_ : Place → StmtTree
    continue_ : Place → StmtTree
    return_ : Place → Option ExprTree → StmtTree
    lock : Place → Ident → StmtTree
    unlock : Place → Ident → StmtTree
    print : Place → ExprTree → StmtTree

  -- a statement, or none
  pub data StmtOption : Type 0 where
    absent : StmtOption
    present : StmtTree → StmtOption

  -- statements, one after another
  pub data StmtList : Type 0 where
    no_more : StmtList
    one_more : StmtTree → StmtList → StmtList

-- a function with a body, at the place of its name
pub record FunTree : Type 0 where
  pub decl : Decl
  pub params : List Ident
  pub held : List Place
  pub body : StmtList
  pub place : Place
  pub closing : Place

-- an item of a module
pub data ItemTree : Type 0 where
  global : Decl → (values : List ℕ) → Place → ItemTree
  prototype : Decl → (held : List Place) → Place → ItemTree
  define : FunTree → ItemTree

-- a module: its items in order of text
pub record ModuleTree : Type 0 where
  pub items : List ItemTree

-- what the code's trees hold

abbrev pub expr_tree : Expr → ExprTree
expr_tree (Lit n k) = literal n k
expr_tree (Name x) = name x
expr_tree (Index' x p a) = index x (expr_tree a)
expr_tree (Deref' p a) = deref (expr_tree a)
expr_tree (Addr x) = address x
expr_tree (AddrIndex' x p a) = address_index x (expr_tree a)
expr_tree (Unary' op p a) = unary op (expr_tree a)
expr_tree (Cast' k p a) = cast k (expr_tree a)
expr_tree (Binary' op p a q b) = binary op (expr_tree a) (expr_tree b)
expr_tree (And' p a q b) = and_also (expr_tree a) (expr_tree b)
expr_tree (Or' p a q b) = or_else (expr_tree a) (expr_tree b)
expr_tree (Cond' p a q b r c) = conditional (expr_tree a) (expr_tree b) (expr_tree c)

abbrev pub target_tree : LValue → TargetTree
target_tree (l.Name x) = to_name x
target_tree (l.Index x a) = to_index x (expr_tree a)
target_tree (l.Deref a) = to_deref (expr_tree a)

abbrev pub init_tree : Init → InitTree
init_tree i.Nothing = nothing
init_tree (i.Value a) = value (expr_tree a)
init_tree (i.Call f xs) = called f (map expr_tree xs)

abbrev pub optional_tree : Option Expr → Option ExprTree
optional_tree None = None
optional_tree (Some a) = Some (expr_tree a)

abbrev mutual
  pub form_tree : Place → StmtForm → StmtTree
  form_tree at Skip = skip at
  form_tree at (Declare t x a) = declare at t x (init_tree a)
  form_tree at (Assign t op a) = assign at (target_tree t) op (expr_tree a)
  form_tree at (Call r f xs) = call at r f (map expr_tree xs)
  form_tree at (Block' shape all) = block at (row_trees all)
  form_tree at (If' c p q s o) = if_ at (expr_tree c) (form_tree q s) (held_tree o)
  form_tree at (While' c p q s) = while_ at (expr_tree c) (form_tree q s)
  form_tree at (Do' p q s c) = do_ at (form_tree q s) (expr_tree c)
  form_tree at (For' a c u p q s) = for_ at (held_tree a) (optional_tree c) (held_tree u) (form_tree q s)
  form_tree at Break = break_ at
  form_tree at Continue = continue_ at
  form_tree at (Return a) = return_ at (optional_tree a)
  form_tree at (Lock x) = lock at x
  form_tree at (Unlock x) = unlock at x
  form_tree at (Print a) = print at (expr_tree a)

  pub row_trees : {m : _} → Row_of-Stmt m → StmtList
  row_trees end_of-Stmt = no_more
  row_trees (more_of-Stmt q s rest) = one_more (form_tree q s) (row_trees rest)

  pub held_tree : Held-StmtForm-If-2 → StmtOption
  held_tree None' = absent
  held_tree (Some' p q s) = present (form_tree q s)

abbrev pub stmt_tree : Stmt → StmtTree
stmt_tree s = form_tree s.place s.form

abbrev pub stmt_trees : List Stmt → StmtList
stmt_trees [] = no_more
stmt_trees (s ∷ ss) = one_more (stmt_tree s) (stmt_trees ss)

abbrev pub fun_tree : Fun → FunTree
fun_tree f = record {
  decl = f.decl;
  params = f.params;
  held = f.held;
  body = stmt_trees f.body;
  place = f.place;
  closing = f.closing;
}

abbrev pub item_tree : Item → ItemTree
item_tree (Global d vs at) = global d vs at
item_tree (Prototype d hs at) = prototype d hs at
item_tree (Define f) = define (fun_tree f)

abbrev pub module_tree : Module → ModuleTree
module_tree m = record { items = map item_tree m.items }
