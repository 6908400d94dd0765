-- The labels of functions: which lines set them, and which use them.
use Rattle.std.specs.Prelude.{ℕ, ◌==◌, Bool, true, false, not, ◌&&◌, List, [], ◌∷◌, Option, Some, None}
use Rattle.std.specs.List.{list_all, list_any}
use Rattle.cas_asm.specs.declared.instr.Instr.{Instr}
use Rattle.cas_asm.specs.declared.instr.Instr.TheVariants.{Jmp, JumpIf}
use Rattle.cas_asm.specs.declared.instr.Target.TheVariants.{Label as ToLabel}
use Rattle.cas_asm.specs.declared.line.Line.{Line}
use Rattle.cas_asm.specs.declared.line.Line.TheVariants.{Label, Run}
use Rattle.cas_asm.specs.declared.line.AsmFun.{AsmFun}
use Rattle.cas_base.specs.declared.decl.Unit.{Unit as Module}

-- the label that an instruction uses
abbrev pub label_used : Instr (List ℕ) → Option ℕ
label_used (Jmp (ToLabel n)) = Some n
label_used (JumpIf on n) = Some n
label_used _ = None

-- a line sets this label
abbrev pub sets : ℕ → Line → Bool
sets n (Label m) = m == n
sets n (Run instr) = false

-- one of the lines sets this label
abbrev pub is_set : List Line → ℕ → Bool
is_set lines n = list_any (sets n) lines

-- no label is set twice
abbrev pub are_distinct : List Line → Bool
are_distinct [] = true
are_distinct (Label n ∷ lines) = not (is_set lines n) && are_distinct lines
are_distinct (Run instr ∷ lines) = are_distinct lines

-- the label, if there is one, is set
abbrev pub is_set_if_used : List Line → Option ℕ → Bool
is_set_if_used lines None = true
is_set_if_used lines (Some n) = is_set lines n

-- the label that a line uses, if it uses one, is set
abbrev pub uses_set : List Line → Line → Bool
uses_set lines (Label n) = true
uses_set lines (Run instr) = is_set_if_used lines (label_used instr)

-- no label is set twice, and each label that is used is set
abbrev pub is_labelled : List Line → Bool
is_labelled lines = are_distinct lines && list_all (uses_set lines) lines

-- this holds in each function
abbrev pub are_labelled : Module AsmFun → Bool
are_labelled unit = list_all (λ fun. is_labelled fun.lines) unit.funs
