-- How many functions an object has.
use Rattle.std.specs.Prelude.{◌≤◌, List, [], ◌∷◌, length}
use Rattle.cas_asm.specs.declared.line.AsmFun.{AsmFun}
use Rattle.cas_base.specs.declared.decl.Unit.{Unit as Module}

-- as many functions as an object may have
abbrev pub IsSmall : Module AsmFun → Type 0
IsSmall unit = length unit.funs ≤ 1024

-- each of these
abbrev pub AreSmall : List (Module AsmFun) → Type 0
AreSmall [] = Unit {0}
AreSmall (unit ∷ units) = IsSmall unit × AreSmall units
