-- What is counted of a module, over its tree.
use Rattle.std.specs.Prelude.{ℕ, ◌+◌, List, [], map, sum, length, ◌++◌, Option, Some, None}
use Rattle.cas_base.specs.Decl.{words_of_form, functions_of, data_of}
use Rattle.cas_base.specs.Ty.{words_of_ty}
use Rattle.cas_base.specs.declared.decl.Decl.{Decl}
use Rattle.cas_base.specs.declared.decl.Form.{Form}
use Rattle.cas_base.specs.declared.decl.Form.TheVariants.{Function}
use Rattle.cas_base.specs.declared.kind.Ty.{Ty}
use Rattle.cas_syntax.specs.Tree.{ExprTree, literal, name, index, deref, address, address_index, unary, cast, binary, and_also, or_else, conditional, TargetTree, to_name, to_index, to_deref, InitTree, nothing, value, called, StmtTree, skip, declare, assign, call, block, if_, while_, do_, for_, break_, continue_, return_, lock, unlock, print, StmtOption, absent, present, StmtList, no_more, one_more, FunTree}
use Rattle.cas_typed.specs.Scopes.{locals_of_list}

-- the most of each

abbrev pub most_parameters : ℕ
most_parameters = 16

abbrev pub most_cells : ℕ
most_cells = 4096

abbrev pub most_nodes : ℕ
most_nodes = 65536

abbrev pub most_functions : ℕ
most_functions = 1024

abbrev pub most_words : ℕ
most_words = 65536

-- the nodes of a tree: each statement and each expression in it counts 1; a target and an initialiser by themselves
-- nothing

abbrev pub nodes_of_expr : ExprTree → ℕ
nodes_of_expr (literal n k) = 1
nodes_of_expr (name x) = 1
nodes_of_expr (index x a) = 1 + nodes_of_expr a
nodes_of_expr (deref a) = 1 + nodes_of_expr a
nodes_of_expr (address x) = 1
nodes_of_expr (address_index x a) = 1 + nodes_of_expr a
nodes_of_expr (unary op a) = 1 + nodes_of_expr a
nodes_of_expr (cast k a) = 1 + nodes_of_expr a
nodes_of_expr (binary op a b) = 1 + (nodes_of_expr a + nodes_of_expr b)
nodes_of_expr (and_also a b) = 1 + (nodes_of_expr a + nodes_of_expr b)
nodes_of_expr (or_else a b) = 1 + (nodes_of_expr a + nodes_of_expr b)
nodes_of_expr (conditional c a b) = 1 + (nodes_of_expr c + (nodes_of_expr a + nodes_of_expr b))

abbrev pub nodes_of_exprs : List ExprTree → ℕ
nodes_of_exprs args = sum (map nodes_of_expr args)

abbrev pub nodes_of_optional : Option ExprTree → ℕ
nodes_of_optional None = 0
nodes_of_optional (Some a) = nodes_of_expr a

abbrev pub nodes_of_target : TargetTree → ℕ
nodes_of_target (to_name x) = 0
nodes_of_target (to_index x a) = nodes_of_expr a
nodes_of_target (to_deref a) = nodes_of_expr a

abbrev pub nodes_of_init : InitTree → ℕ
nodes_of_init nothing = 0
nodes_of_init (value a) = nodes_of_expr a
nodes_of_init (called f args) = nodes_of_exprs args

abbrev mutual
  pub nodes_of_stmt : StmtTree → ℕ
  nodes_of_stmt (skip p) = 1
  nodes_of_stmt (declare p ty x a) = 1 + nodes_of_init a
  nodes_of_stmt (assign p t op a) = 1 + (nodes_of_target t + nodes_of_expr a)
  nodes_of_stmt (call p x f args) = 1 + nodes_of_exprs args
  nodes_of_stmt (block p bs) = 1 + nodes_of_stmts bs
  nodes_of_stmt (if_ p c a b) = 1 + (nodes_of_expr c + (nodes_of_stmt a + nodes_of_option b))
  nodes_of_stmt (while_ p c a) = 1 + (nodes_of_expr c + nodes_of_stmt a)
  nodes_of_stmt (do_ p a c) = 1 + (nodes_of_stmt a + nodes_of_expr c)
  nodes_of_stmt (for_ p i c u a) = 1 + (nodes_of_option i +
      (nodes_of_optional c + (nodes_of_option u + nodes_of_stmt a)))
  nodes_of_stmt (break_ p) = 1
  nodes_of_stmt (continue_ p) = 1
  nodes_of_stmt (return_ p a) = 1 + nodes_of_optional a
  nodes_of_stmt (lock p x) = 1
  nodes_of_stmt (unlock p x) = 1
  nodes_of_stmt (print p a) = 1 + nodes_of_expr a

  pub nodes_of_option : StmtOption → ℕ
  nodes_of_option absent = 0
  nodes_of_option (present a) = nodes_of_stmt a

  pub nodes_of_stmts : StmtList → ℕ
  nodes_of_stmts no_more = 0
  nodes_of_stmts (one_more a bs) = nodes_of_stmt a + nodes_of_stmts bs

-- the nodes of a function
abbrev pub nodes_of : FunTree → ℕ
nodes_of f = nodes_of_stmts f.body

-- the types of the parameters of what is declared
abbrev pub parameter_types : Form → List Ty
parameter_types (Function ret params holds) = params
parameter_types _ = []

-- the types of a function's locals in order of declaration, parameters first
abbrev pub local_types : FunTree → List Ty
local_types f = parameter_types f.decl.form ++ locals_of_list f.body

-- the cells of a function's locals, parameters included
abbrev pub cells_of : FunTree → ℕ
cells_of f = sum (map words_of_ty (local_types f))

-- the functions that these declarations define
abbrev pub function_count : List Decl → ℕ
function_count decls = length (functions_of decls)

-- the words of the globals and locks that these declarations define
abbrev pub word_count : List Decl → ℕ
word_count decls = sum (map (λ d. words_of_form d.form) (data_of decls))
