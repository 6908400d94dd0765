-- The rows of the names that code may use.
use Rattle.std.specs.Prelude.{ℕ, List, map}
use Rattle.cas_base.specs.declared.decl.Global.{Global}
use Rattle.cas_asm.specs.declared.line.AsmFun.{AsmFun}

-- of globals and locks
abbrev pub data_rows : List Global → List (List ℕ × ℕ)
data_rows globals = map (λ global. (global.decl.name, 0)) globals

-- of functions
abbrev pub function_rows : List AsmFun → List (List ℕ × ℕ)
function_rows funs = map (λ f. (f.name, 0)) funs
