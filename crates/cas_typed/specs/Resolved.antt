-- The resolved trees as plain data: what definitions and contracts speak of. A local is a number of its function,
-- parameters first; a global, a lock and a function is the number of the first item that declares it, with the place of
-- its name.
use Rattle.std.specs.Prelude.{ℕ, ◌==◌, Bool, false, ◌||◌, List, Option, Some, None}
use Rattle.std.specs.List.{list_any}
use Rattle.cas_base.specs.declared.kind.Kind.{Kind}
use Rattle.cas_base.specs.declared.place.Place.{Place}
use Rattle.cas_syntax.specs.Tree.{ModuleTree}
use Rattle.cas_syntax.specs.declared.tree.UnaryOperator.{UnaryOperator}
use Rattle.cas_syntax.specs.declared.tree.BinaryOperator.{BinaryOperator}
use Rattle.cas_typed.specs.declared.rows.Local.{Local}
use Rattle.cas_typed.specs.declared.tree.Signedness.{Signedness}
use Rattle.cas_typed.specs.declared.tree.Destination.{Destination}
use Rattle.cas_typed.specs.declared.tree.TypedExpr.{TypedExpr, Literal, Null, Local as OfLocal, Global, Element', PlaceOf, Behind', PointerPlus', PlusPointer', PointerMinus', PointerDifference', Compare', Unary', Binary', Narrow', And', Or', Choose'}
use Rattle.cas_typed.specs.declared.tree.TypedTarget.{TypedTarget}
use Rattle.cas_typed.specs.declared.tree.TypedTarget.TheVariants as to

-- an expression, whose value is a word or a pointer
pub data TypedExprTree : Type 0 where
  literal : (word : ℕ) → TypedExprTree
  null : TypedExprTree
  local : (number : ℕ) → TypedExprTree
  global : (item : ℕ) → Place → TypedExprTree
  element : (item : ℕ) → Place → Signedness → (index : TypedExprTree) → TypedExprTree
  place_of : (local : ℕ) → TypedExprTree
  behind : Kind → (pointer : TypedExprTree) → TypedExprTree
  pointer_plus : Signedness → (pointer number : TypedExprTree) → TypedExprTree
  plus_pointer : Signedness → (number pointer : TypedExprTree) → TypedExprTree
  pointer_minus : Signedness → (pointer number : TypedExprTree) → TypedExprTree
  pointer_difference : (pointer other : TypedExprTree) → TypedExprTree
  compare : BinaryOperator → (pointer other : TypedExprTree) → TypedExprTree
  unary : UnaryOperator → TypedExprTree → TypedExprTree
  binary : BinaryOperator → Signedness → TypedExprTree → TypedExprTree → TypedExprTree
  narrow : Kind → TypedExprTree → TypedExprTree
  and_also : TypedExprTree → TypedExprTree → TypedExprTree
  or_else : TypedExprTree → TypedExprTree → TypedExprTree
  choose : TypedExprTree → TypedExprTree → TypedExprTree → TypedExprTree

-- the cell that an assignment writes
pub data TypedTargetTree : Type 0 where
  to_local : (number : ℕ) → TypedTargetTree
  to_global : (item : ℕ) → Place → TypedTargetTree
  to_element : (item : ℕ) → Place → Signedness → (index : TypedExprTree) → TypedTargetTree
  to_behind : Kind → (pointer : TypedExprTree) → TypedTargetTree

mutual
  -- a statement, at its place
  pub data TypedStmtTree : Type 0 where
    skip : Place → TypedStmtTree
    assign : Place → TypedTargetTree → TypedExprTree → TypedStmtTree
    call : Place → Option Destination → (item : ℕ) → Place → List TypedExprTree → TypedStmtTree
    block : Place → TypedStmtList → TypedStmtTree
    if_ : Place → TypedExprTree → TypedStmtTree → (otherwise : TypedStmtOption) → TypedStmtTree
    while_ : Place → TypedExprTree → TypedStmtTree → TypedStmtTree
    do_ : Place → TypedStmtTree → TypedExprTree → TypedStmtTree
    for_ : Place → (first : TypedStmtOption) → Option TypedExprTree → (after : TypedStmtOption) → TypedStmtTree →
        TypedStmtTree
    break_ : Place → TypedStmtTree
    continue_ : Place → TypedStmtTree
    return_ : Place → Option TypedExprTree → TypedStmtTree
    lock : Place → (item : ℕ) → TypedStmtTree
    unlock : Place → (item : ℕ) → TypedStmtTree
    print : Place → TypedExprTree → TypedStmtTree

  -- a statement, or none
  pub data TypedStmtOption : Type 0 where
    absent : TypedStmtOption
    present : TypedStmtTree → TypedStmtOption

  -- statements, one after another
  pub data TypedStmtList : Type 0 where
    no_more : TypedStmtList
    one_more : TypedStmtTree → TypedStmtList → TypedStmtList

-- a function with a body: the number of its item, its locals in order of declaration, parameters first, and its body
pub record TypedFunTree : Type 0 where
  pub item : ℕ
  pub locals : List Local
  pub body : TypedStmtList

-- a module with the values of its globals filled up with zeros, and its functions in order of text
pub record TypedModuleTree : Type 0 where
  pub module_tree : ModuleTree
  pub functions : List TypedFunTree

-- what the code's expressions hold

abbrev pub typed_expr_tree : TypedExpr → TypedExprTree
typed_expr_tree (Literal n) = literal n
typed_expr_tree Null = null
typed_expr_tree (OfLocal n) = local n
typed_expr_tree (Global g at) = global g at
typed_expr_tree (Element' g at s p a) = element g at s (typed_expr_tree a)
typed_expr_tree (PlaceOf n) = place_of n
typed_expr_tree (Behind' k p a) = behind k (typed_expr_tree a)
typed_expr_tree (PointerPlus' s p a q b) = pointer_plus s (typed_expr_tree a) (typed_expr_tree b)
typed_expr_tree (PlusPointer' s p a q b) = plus_pointer s (typed_expr_tree a) (typed_expr_tree b)
typed_expr_tree (PointerMinus' s p a q b) = pointer_minus s (typed_expr_tree a) (typed_expr_tree b)
typed_expr_tree (PointerDifference' p a q b) = pointer_difference (typed_expr_tree a) (typed_expr_tree b)
typed_expr_tree (Compare' op p a q b) = compare op (typed_expr_tree a) (typed_expr_tree b)
typed_expr_tree (Unary' op p a) = unary op (typed_expr_tree a)
typed_expr_tree (Binary' op s p a q b) = binary op s (typed_expr_tree a) (typed_expr_tree b)
typed_expr_tree (Narrow' k p a) = narrow k (typed_expr_tree a)
typed_expr_tree (And' p a q b) = and_also (typed_expr_tree a) (typed_expr_tree b)
typed_expr_tree (Or' p a q b) = or_else (typed_expr_tree a) (typed_expr_tree b)
typed_expr_tree (Choose' p a q b r c) = choose (typed_expr_tree a) (typed_expr_tree b) (typed_expr_tree c)

abbrev pub typed_target_tree : TypedTarget → TypedTargetTree
typed_target_tree (to.Local n) = to_local n
typed_target_tree (to.Global g at) = to_global g at
typed_target_tree (to.Element g at s a) = to_element g at s (typed_expr_tree a)
typed_target_tree (to.Behind k a) = to_behind k (typed_expr_tree a)

-- whether a pointer to the local is made here

abbrev pub makes_pointer : (number : ℕ) → TypedExprTree → Bool
makes_pointer n (literal w) = false
makes_pointer n null = false
makes_pointer n (local m) = false
makes_pointer n (global g at) = false
makes_pointer n (element g at s a) = makes_pointer n a
makes_pointer n (place_of m) = m == n
makes_pointer n (behind k a) = makes_pointer n a
makes_pointer n (pointer_plus s a b) = makes_pointer n a || makes_pointer n b
makes_pointer n (plus_pointer s a b) = makes_pointer n a || makes_pointer n b
makes_pointer n (pointer_minus s a b) = makes_pointer n a || makes_pointer n b
makes_pointer n (pointer_difference a b) = makes_pointer n a || makes_pointer n b
makes_pointer n (compare op a b) = makes_pointer n a || makes_pointer n b
makes_pointer n (unary op a) = makes_pointer n a
makes_pointer n (binary op s a b) = makes_pointer n a || makes_pointer n b
makes_pointer n (narrow k a) = makes_pointer n a
makes_pointer n (and_also a b) = makes_pointer n a || makes_pointer n b
makes_pointer n (or_else a b) = makes_pointer n a || makes_pointer n b
makes_pointer n (choose c a b) = makes_pointer n c || (makes_pointer n a || makes_pointer n b)

abbrev pub target_makes_pointer : (number : ℕ) → TypedTargetTree → Bool
target_makes_pointer n (to_local m) = false
target_makes_pointer n (to_global g at) = false
target_makes_pointer n (to_element g at s a) = makes_pointer n a
target_makes_pointer n (to_behind k a) = makes_pointer n a

abbrev pub option_makes_pointer : (number : ℕ) → Option TypedExprTree → Bool
option_makes_pointer n None = false
option_makes_pointer n (Some a) = makes_pointer n a

abbrev mutual
  pub stmt_makes_pointer : (number : ℕ) → TypedStmtTree → Bool
  stmt_makes_pointer n (skip p) = false
  stmt_makes_pointer n (assign p t a) = target_makes_pointer n t || makes_pointer n a
  stmt_makes_pointer n (call p d g at args) = list_any (makes_pointer n) args
  stmt_makes_pointer n (block p bs) = list_makes_pointer n bs
  stmt_makes_pointer n (if_ p c a b) = makes_pointer n c || (stmt_makes_pointer n a || part_makes_pointer n b)
  stmt_makes_pointer n (while_ p c a) = makes_pointer n c || stmt_makes_pointer n a
  stmt_makes_pointer n (do_ p a c) = stmt_makes_pointer n a || makes_pointer n c
  stmt_makes_pointer n (for_ p i c u a) =
      part_makes_pointer n i || (option_makes_pointer n c || (part_makes_pointer n u || stmt_makes_pointer n a))
  stmt_makes_pointer n (break_ p) = false
  stmt_makes_pointer n (continue_ p) = false
  stmt_makes_pointer n (return_ p a) = option_makes_pointer n a
  stmt_makes_pointer n (lock p g) = false
  stmt_makes_pointer n (unlock p g) = false
  stmt_makes_pointer n (print p a) = makes_pointer n a

  pub part_makes_pointer : (number : ℕ) → TypedStmtOption → Bool
  part_makes_pointer n absent = false
  part_makes_pointer n (present a) = stmt_makes_pointer n a

  pub list_makes_pointer : (number : ℕ) → TypedStmtList → Bool
  list_makes_pointer n no_more = false
  list_makes_pointer n (one_more a bs) = stmt_makes_pointer n a || list_makes_pointer n bs
