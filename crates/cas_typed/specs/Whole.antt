-- A module with its typed functions, as the code holds them.
use Rattle.std.specs.Prelude.{◌≡◌, ⊤, List, [], ◌∷◌}
use Rattle.cas_syntax.specs.Tree.{ModuleTree}
use Rattle.cas_typed.specs.declared.rows.TypedFun.{TypedFun}
use Rattle.cas_typed.specs.Formed.{IsFormed}
use Rattle.cas_typed.specs.Modules.{IsTyped}
use Rattle.cas_typed.specs.Numbered.{IsFunctionOf}
use Rattle.cas_typed.specs.Resolved.{TypedFunTree, TypedModuleTree}

-- the functions of the code are these, one by one
abbrev pub AreFunctionsOf : List TypedFunTree → List TypedFun → Type 0
AreFunctionsOf [] [] = ⊤
AreFunctionsOf (r ∷ rs) (f ∷ fs) = IsFunctionOf r f × AreFunctionsOf rs fs
AreFunctionsOf _ _ = ⊥

-- This module, which is formed, with these functions of the code is the resolved module, which is typed.
pub record AreTypedAs (m : ModuleTree) (fs : List TypedFun) (r : TypedModuleTree) : Type 0 where
  pub module_tree : r.module_tree ≡ m
  pub formed : IsFormed m
  pub functions : AreFunctionsOf r.functions fs
  pub typed : IsTyped r.module_tree r
