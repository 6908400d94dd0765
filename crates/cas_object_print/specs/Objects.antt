-- The canonical text of objects. Each function puts the text before `rest`.
use Rattle.std.specs.Prelude.{ℕ, Bool, true, false, not, ◌&&◌, if◌then◌else◌, List, [], ◌∷◌, ◌++◌, codes, drop}
use Rattle.cas_asm.specs.declared.line.AsmFun.{AsmFun}
use Rattle.cas_asm.specs.declared.line.Line.{Line}
use Rattle.cas_base.specs.Decl.{is_function, is_lock}
use Rattle.cas_base.specs.Print.{decl_text}
use Rattle.cas_base.specs.declared.decl.Decl.{Decl}
use Rattle.cas_base.specs.declared.decl.Global.{Global}
use Rattle.cas_base.specs.declared.decl.Unit.{Unit as Module}
use Rattle.cas_object_print.specs.Instructions.{line}
use Rattle.cas_object_print.specs.Operands.{word}

-- lines of a function
abbrev pub lines : List Line → List ℕ → List ℕ
lines [] rest = rest
lines (l ∷ ls) rest = line l (lines ls rest)

-- the lines of the first of these functions
abbrev pub body : List AsmFun → List ℕ → List ℕ
body [] rest = rest
body (fun ∷ funs) rest = lines fun.lines rest

-- values, each after a space, by their signed readings
abbrev pub values : List ℕ → List ℕ → List ℕ
values [] rest = rest
values (v ∷ vs) rest = codes " " ++ word v (values vs rest)

-- the values of the first of these globals; a lock has none
abbrev pub values_of_first : (is_lock : Bool) → List Global → List ℕ → List ℕ
values_of_first lock [] rest = rest
values_of_first true (global ∷ globals) rest = rest
values_of_first false (global ∷ globals) rest = values global.values rest

abbrev pub values_of : Decl → List Global → List ℕ → List ℕ
values_of decl globals rest = values_of_first (is_lock decl.form) globals rest

-- a declaration without `extern` and without values
abbrev pub declared : Decl → List ℕ → List ℕ
declared decl rest = decl_text decl ++ rest

-- the declaration defines a global or a lock, or a function
abbrev pub is_data : Decl → Bool
is_data decl = decl.defined && not (is_function decl.form)

abbrev pub is_body : Decl → Bool
is_body decl = decl.defined && is_function decl.form

-- a declaration with its data or instructions, which are the first of those that are left
abbrev pub item : Decl → List Global → List AsmFun → List ℕ → List ℕ
item decl globals funs rest =
    if not decl.defined then codes "extern " ++ declared decl (codes "\n" ++ rest) else (
    if is_function decl.form then declared decl (codes "\n" ++ body funs (codes "end\n" ++ rest)) else
    declared decl (values_of decl globals (codes "\n" ++ rest)))

-- what is left of the globals and of the functions after a declaration
abbrev pub globals_after : Decl → List Global → List Global
globals_after decl globals = if is_data decl then drop 1 globals else globals

abbrev pub funs_after : Decl → List AsmFun → List AsmFun
funs_after decl funs = if is_body decl then drop 1 funs else funs

-- declarations with their data and instructions
abbrev pub items : List Decl → List Global → List AsmFun → List ℕ → List ℕ
items [] globals funs rest = rest
items (decl ∷ decls) globals funs rest =
    item decl globals funs (items decls (globals_after decl globals) (funs_after decl funs) rest)

-- an object
abbrev pub object : Module AsmFun → List ℕ → List ℕ
object unit rest =
    codes "object 1\n" ++ items unit.decls unit.globals unit.funs (codes "end object\n" ++ rest)

-- its text
abbrev pub object_text : Module AsmFun → List ℕ
object_text unit = object unit []
