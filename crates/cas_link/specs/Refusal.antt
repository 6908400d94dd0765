-- Which objects are refused, and by what: the order of refusals.
use Rattle.std.specs.Prelude.{ℕ, ◌+◌, Bool, true, false, List, [], ◌∷◌, Option, Some, None, if◌then◌else◌}
use Rattle.std.specs.List.{list_any}
use Rattle.std.specs.Option.{option_map, option_or}
use Rattle.std.specs.Str.{bytes_eq}
use Rattle.cas_base.specs.Decl.{definitions, references}
use Rattle.cas_settle.specs.declared.link.Count.TheVariants.{Code}
use Rattle.cas_settle.specs.declared.link.LinkFault.{LinkFault}
use Rattle.cas_settle.specs.declared.link.LinkFault.TheVariants.{NotDefined, Limit}
use Rattle.cas_settle.specs.Settle.{all_decls, twice_fault, references_fault, entries_fault, limits_fault, limit_fault}
use Rattle.cas_asm.specs.declared.instr.Instr.{Instr}
use Rattle.cas_asm.specs.declared.instr.Instr.TheVariants.{Mov, Store, Lea, Operate, Cmp, CmpMem, Jmp, Call, LockDec}
use Rattle.cas_asm.specs.declared.instr.Source.{Source}
use Rattle.cas_asm.specs.declared.instr.Source.TheVariants.{Mem}
use Rattle.cas_asm.specs.declared.instr.Target.{Target}
use Rattle.cas_asm.specs.declared.instr.Target.TheVariants as target
use Rattle.cas_asm.specs.declared.instr.Callee.{Callee}
use Rattle.cas_asm.specs.declared.instr.Callee.TheVariants as callee
use Rattle.cas_asm.specs.declared.image.TheConstants.{CODE_LIMIT}
use Rattle.cas_asm.specs.declared.line.Line.{Line}
use Rattle.cas_asm.specs.declared.line.Line.TheVariants.{Label, Run}
use Rattle.cas_asm.specs.declared.line.AsmFun.{AsmFun}
use Rattle.cas_object_text.specs.declared.object.Object.{Object}
use Rattle.cas_link.specs.Parts.{decls_in, functions_in, globals_in, sizes_of}

-- a limit's fault
abbrev pub is_limit : LinkFault → Bool
is_limit (Limit what counted) = true
is_limit _ = false

-- Names in code.

abbrev pub source_symbol : Source (List ℕ) → Option (List ℕ)
source_symbol (Mem m) = m.sym
source_symbol _ = None

-- the name of a global or lock in an operand
abbrev pub data_name : Instr (List ℕ) → Option (List ℕ)
data_name (Mov r from) = source_symbol from
data_name (Store m from) = m.sym
data_name (Lea r m) = m.sym
data_name (Operate what r from) = source_symbol from
data_name (Cmp r from) = source_symbol from
data_name (CmpMem m n) = m.sym
data_name (LockDec m) = m.sym
data_name _ = None

abbrev pub target_name : Target (List ℕ) → Option (List ℕ)
target_name (target.Function f) = Some f
target_name (target.Label l) = None

abbrev pub callee_name : Callee (List ℕ) → Option (List ℕ)
callee_name (callee.Function f) = Some f
callee_name _ = None

-- the name of a function after `call` or `jmp`
abbrev pub function_name : Instr (List ℕ) → Option (List ℕ)
function_name (Jmp t) = target_name t
function_name (Call f) = callee_name f
function_name _ = None

-- the name, if there is one and the test fails
abbrev pub unless : (List ℕ → Bool) → Option (List ℕ) → Option (List ℕ)
unless is_known None = None
unless is_known (Some name) = if is_known name then None else Some name

module _ (is_data is_function : List ℕ → Bool) where
  -- the unknown name of a line
  abbrev pub unknown_in : Line → Option (List ℕ)
  unknown_in (Label n) = None
  unknown_in (Run i) = option_or (unless is_data (data_name i)) (unless is_function (function_name i))

  -- the first of these lines
  abbrev pub unknown_in_lines : List Line → Option (List ℕ)
  unknown_in_lines [] = None
  unknown_in_lines (line ∷ lines) = option_or (unknown_in line) (unknown_in_lines lines)

  -- the first of these functions
  abbrev pub unknown_in_functions : List AsmFun → Option (List ℕ)
  unknown_in_functions [] = None
  unknown_in_functions (f ∷ fs) = option_or (unknown_in_lines f.lines) (unknown_in_functions fs)

-- a global or lock has the name
abbrev pub is_data : List Object → List ℕ → Bool
is_data objects name = list_any (λ global. bytes_eq name global.decl.name) (globals_in objects)

-- a function has the name
abbrev pub is_function : List Object → List ℕ → Bool
is_function objects name = list_any (λ f. bytes_eq name f.name) (functions_in objects)

-- the first name in code that no function, or no global or lock, has
abbrev pub names_fault : List Object → Option LinkFault
names_fault objects =
    option_map NotDefined (unknown_in_functions (is_data objects) (is_function objects) (functions_in objects))

-- too many instructions, with those of the lock object
abbrev pub code_fault : (lock : ℕ) → List Object → Option LinkFault
code_fault lock objects = limit_fault Code CODE_LIMIT (lock + sizes_of (functions_in objects))

-- the first refusal: of the definitions, then of the other declarations, then of the names in code, then of the
-- entries, then by the limits
abbrev pub link_refusal : (lock : ℕ) → List Object → (entries : List (List ℕ)) → Option LinkFault
link_refusal lock objects entries =
    let units = decls_in objects in
    let defined = definitions (all_decls units) in
    option_or (twice_fault defined)
    (option_or (references_fault defined (references (all_decls units)))
    (option_or (names_fault objects)
    (option_or (entries_fault defined entries)
    (option_or (limits_fault defined)
    (code_fault lock objects)))))
