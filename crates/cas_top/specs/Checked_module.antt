-- Which checked module a text is read as.
use Rattle.std.specs.Prelude.{⊤, ℕ, List, [], ◌∷◌}
use Rattle.cas_own.specs.Checked.{IsChecked}
use Rattle.cas_syntax.specs.Reading.{IsReadAs}
use Rattle.cas_syntax.specs.Tree.{ModuleTree}
use Rattle.cas_typed.specs.Modules.{IsTyped}
use Rattle.cas_typed.specs.Resolved.{TypedModuleTree}

-- the text is read as a module, and this is that module, typed and checked
pub record IsCheckedModule (text : List ℕ) (resolved : TypedModuleTree) : Type 0 where
  pub read_module : ModuleTree
  pub read : IsReadAs text read_module
  pub typed : IsTyped read_module resolved
  pub checked : IsChecked resolved

-- so are these texts and modules, one by one
abbrev pub AreCheckedModules : (texts : List (List ℕ)) → List TypedModuleTree → Type 0
AreCheckedModules [] [] = ⊤
AreCheckedModules (text ∷ texts) (m ∷ ms) = IsCheckedModule text m × AreCheckedModules texts ms
AreCheckedModules _ _ = ⊥

-- the text is that of a checked module
abbrev pub IsCheckedText : (text : List ℕ) → Type 0
IsCheckedText text = (resolved : TypedModuleTree) × IsCheckedModule text resolved
