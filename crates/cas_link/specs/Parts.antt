-- The parts of objects, in the order of objects and of each object's parts.
use Rattle.std.specs.Prelude.{ℕ, ◌+◌, Bool, true, false, List, [], ◌∷◌, ◌++◌, map, count_by}
use Rattle.cas_base.specs.declared.decl.Decl.{Decl}
use Rattle.cas_base.specs.declared.decl.Global.{Global}
use Rattle.cas_base.specs.declared.decl.Unit.{Unit as Module}
use Rattle.cas_asm.specs.declared.line.AsmFun.{AsmFun}
use Rattle.cas_asm.specs.declared.line.Line.{Line}
use Rattle.cas_asm.specs.declared.line.Line.TheVariants.{Label, Run}
use Rattle.cas_object_text.specs.declared.object.Object.{Object}

-- the declarations of each object
abbrev pub decls_in : List Object → List (List Decl)
decls_in [] = []
decls_in (o ∷ os) = o.unit.decls ∷ decls_in os

-- the functions
abbrev pub functions_in : List Object → List AsmFun
functions_in [] = []
functions_in (o ∷ os) = o.unit.funs ++ functions_in os

-- the globals and locks
abbrev pub globals_in : List Object → List Global
globals_in [] = []
globals_in (o ∷ os) = o.unit.globals ++ globals_in os

-- an instruction, and not a label
abbrev pub is_run : Line → Bool
is_run (Label n) = false
is_run (Run i) = true

-- the instructions of a function
abbrev pub size_of : AsmFun → ℕ
size_of f = count_by is_run f.lines

-- the instructions of functions
abbrev pub sizes_of : List AsmFun → ℕ
sizes_of [] = 0
sizes_of (f ∷ fs) = size_of f + sizes_of fs

-- their units
abbrev pub units_of : List Object → List (Module AsmFun)
units_of objects = map (λ object. object.unit) objects
