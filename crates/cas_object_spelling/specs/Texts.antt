-- The text of several objects.
use Rattle.std.specs.Prelude.{ℕ, List, [], ◌∷◌}
use Rattle.cas_asm.specs.declared.line.AsmFun.{AsmFun}
use Rattle.cas_base.specs.declared.decl.Unit.{Unit as Module}
use Rattle.cas_object_print.specs.Objects.{object}

-- objects before more text
abbrev pub objects_before : List (Module AsmFun) → List ℕ → List ℕ
objects_before [] rest = rest
objects_before (unit ∷ units) rest = object unit (objects_before units rest)

-- one after another, each as it is printed
abbrev pub objects_text : List (Module AsmFun) → List ℕ
objects_text units = objects_before units []
