-- The first form of a module, the one that is compiled so far: `void NAME(int me) { print(LIT + .. + LIT); }`.
use Rattle.std.specs.Prelude.{◌≡◌, ℕ, Bool, true, false, ◌&&◌, List, [], ◌∷◌}
use Rattle.std.specs.Str.{bytes_eq}
use Rattle.cas_base.specs.Decl.{is_entry}
use Rattle.cas_base.specs.declared.kind.Kind.TheVariants.{I32}
use Rattle.cas_syntax.specs.Tree.{ExprTree, literal, binary, StmtList, no_more, one_more, print, FunTree, ItemTree, define, ModuleTree}
use Rattle.cas_syntax.specs.declared.tree.BinaryOperator.TheVariants.{Add}
use Rattle.cas_typed.specs.Resolved.{TypedModuleTree}
use Rattle.cas_top.specs.Checked_module.{IsCheckedModule}

-- a sum of literals of `int`, added from left to right
abbrev pub is_sum : ExprTree → Bool
is_sum (literal n I32) = true
is_sum (binary Add a (literal n I32)) = is_sum a
is_sum _ = false

-- a body that prints one sum
abbrev pub prints_sum : StmtList → Bool
prints_sum (one_more (print p a) no_more) = is_sum a
prints_sum _ = false

-- a thread may enter the function, and this is its name
abbrev pub is_entry_named : (name : List ℕ) → FunTree → Bool
is_entry_named name f = is_entry f.decl.form && bytes_eq f.decl.name name

-- the items are one function that a thread may enter, of this name, and it prints one sum
abbrev pub is_first_form_of : (name : List ℕ) → List ItemTree → Bool
is_first_form_of name (define f ∷ []) = is_entry_named name f && prints_sum f.body
is_first_form_of name _ = false

-- a module of one function `void NAME(int)` that holds no lock and prints one sum
abbrev pub is_first_form : (name : List ℕ) → ModuleTree → Bool
is_first_form name m = is_first_form_of name m.items

-- the text is read as a checked module of the first form, whose function has this name
pub record IsFirstForm (text name : List ℕ) (resolved : TypedModuleTree) : Type 0 where
  pub is_module : IsCheckedModule text resolved
  pub form : is_first_form name resolved.module_tree ≡ true
