-- Objects as far as they are read.
use Rattle.std.specs.Prelude.{ℕ, List, [], ◌∷◌, ◌++◌, map, sum}
use Rattle.cas_asm.specs.declared.line.AsmFun.{AsmFun}
use Rattle.cas_base.specs.Decl.{words_of_form}
use Rattle.cas_base.specs.declared.decl.Decl.{Decl}
use Rattle.cas_base.specs.declared.decl.Global.{Global}
use Rattle.cas_base.specs.declared.decl.Unit.{Unit as Module}
use Rattle.cas_object.specs.Bodies.{Body}

-- no declaration yet
abbrev pub empty : Module AsmFun
empty = record { decls = []; globals = []; funs = [] }

-- how many words the globals and locks have
abbrev pub words : List Global → ℕ
words globals = sum (map (λ global. words_of_form global.decl.form) globals)

-- one more name that another object defines
abbrev pub with_extern : Module AsmFun → Decl → Module AsmFun
with_extern unit decl = record { decls = unit.decls ++ decl ∷ []; globals = unit.globals; funs = unit.funs }

-- one more global or lock
abbrev pub with_data : Module AsmFun → Global → Module AsmFun
with_data unit global =
    record { decls = unit.decls ++ global.decl ∷ []; globals = unit.globals ++ global ∷ []; funs = unit.funs }

abbrev pub fun_of : Body → AsmFun
fun_of body = record { name = body.decl.name; lines = body.lines }

-- one more function
abbrev pub with_function : Module AsmFun → Body → Module AsmFun
with_function unit body =
    record { decls = unit.decls ++ body.decl ∷ []; globals = unit.globals; funs = unit.funs ++ fun_of body ∷ [] }
