-- The text of operands. Each function puts the text before `rest`.
use Rattle.std.specs.Prelude.{ℕ, ℤ, pos, negsuc, Bool, true, false, not, ◌||◌, if◌then◌else◌, int_lt, List, ◌++◌, codes, Option, Some, None}
use Rattle.std.specs.Fmt.{decimal}
use Rattle.std.specs.Ordering.{int_eq}
use Rattle.cas_base.specs.Word.{signed}
use Rattle.cas_base.specs.declared.reg.Reg.{Reg}
use Rattle.cas_asm.specs.declared.instr.Count.{Count}
use Rattle.cas_asm.specs.declared.instr.Count.TheVariants.{Fixed, Ecx}
use Rattle.cas_asm.specs.declared.instr.Mem.{Mem}
use Rattle.cas_asm.specs.declared.instr.Source.{Source}
use Rattle.cas_asm.specs.declared.instr.Source.TheVariants as from
use Rattle.cas_asm.specs.declared.instr.Value.{Value}
use Rattle.cas_asm.specs.declared.instr.Value.TheVariants as v
use Rattle.cas_object_print.specs.Page.{integer}
use Rattle.cas_object_print.specs.Words.{register}

-- a symbol
abbrev pub named : List ℕ → List ℕ → List ℕ
named name rest = codes "@" ++ (name ++ rest)

-- a part is there
abbrev pub is_there : {A : Type 0} → Option A → Bool
is_there None = false
is_there (Some a) = true

abbrev pub symbol_part : Option (List ℕ) → List ℕ → List ℕ
symbol_part None rest = rest
symbol_part (Some name) rest = named name rest

-- what is between two parts
abbrev pub joint : (after_part : Bool) → List ℕ → List ℕ
joint true rest = codes "+" ++ rest
joint false rest = rest

abbrev pub base_part : (after_part : Bool) → Option Reg → List ℕ → List ℕ
base_part after_part None rest = rest
base_part after_part (Some reg) rest = joint after_part (register reg ++ rest)

abbrev pub scale : (by_four : Bool) → List ℕ
scale true = codes "*4"
scale false = codes "*1"

abbrev pub index_part : (after_part : Bool) → Option (Reg × Bool) → List ℕ → List ℕ
index_part after_part None rest = rest
index_part after_part (Some index) rest = joint after_part (register index.0 ++ (scale index.1 ++ rest))

-- a number stands without `+`: it is the only part, or negative
abbrev pub is_joined : (after_part : Bool) → ℤ → Bool
is_joined after_part disp = not after_part || int_lt disp (pos 0)

-- the displacement: a negative one stands with its `-` alone, and 0 is written only where it is the only part
abbrev pub number_part : (after_part : Bool) → ℤ → List ℕ → List ℕ
number_part after_part disp rest =
    if is_joined after_part disp then integer disp rest else (
    if int_eq disp (pos 0) then rest else codes "+" ++ integer disp rest)

-- a symbol or a base is there
abbrev pub has_base : Mem (List ℕ) → Bool
has_base m = is_there m.sym || is_there m.base

-- a symbol, a base or an index is there
abbrev pub has_index : Mem (List ℕ) → Bool
has_index m = has_base m || is_there m.index

-- the index and the displacement
abbrev pub index_onwards : Mem (List ℕ) → List ℕ → List ℕ
index_onwards m rest = index_part (has_base m) m.index (number_part (has_index m) m.disp rest)

-- the base, the index and the displacement
abbrev pub base_onwards : Mem (List ℕ) → List ℕ → List ℕ
base_onwards m rest = base_part (is_there m.sym) m.base (index_onwards m rest)

-- a memory operand: symbol, base, index and number, as far as they are there, joined by `+`
abbrev pub mem : Mem (List ℕ) → List ℕ → List ℕ
mem m rest = codes "[" ++ symbol_part m.sym (base_onwards m (codes "]" ++ rest))

-- a word, by its signed reading
abbrev pub word : ℕ → List ℕ → List ℕ
word w rest = integer (signed w) rest

-- a register or a number
abbrev pub value : Value → List ℕ → List ℕ
value (v.Reg reg) rest = register reg ++ rest
value (v.Num w) rest = word w rest

-- a register, a number or a memory operand
abbrev pub source : Source (List ℕ) → List ℕ → List ℕ
source (from.Reg reg) rest = register reg ++ rest
source (from.Num w) rest = word w rest
source (from.Mem m) rest = mem m rest

-- by how much a shift shifts
abbrev pub count : Count → List ℕ → List ℕ
count (Fixed n) rest = decimal n ++ rest
count Ecx rest = codes "ecx" ++ rest

-- a label
abbrev pub label : ℕ → List ℕ → List ℕ
label n rest = codes "." ++ (decimal n ++ rest)
