-- The words of mnemonics, conditions and registers.
use Rattle.std.specs.Prelude.{ℕ, List, [], ◌∷◌, map, find, codes, bytes_eq, Option}
use Rattle.cas_base.specs.declared.reg.Reg.{Reg}
use Rattle.cas_base.specs.declared.reg.Reg.TheVariants as reg
use Rattle.cas_asm.specs.declared.cond.Cond.{Cond}
use Rattle.cas_asm.specs.declared.cond.Cond.TheVariants as cond
use Rattle.cas_object_line.specs.declared.mnemonic.Mnemonic.{Mnemonic}
use Rattle.cas_object_line.specs.declared.mnemonic.Mnemonic.TheVariants as m

-- the text of a mnemonic
abbrev pub mnemonic_text : Mnemonic → List ℕ
mnemonic_text m.Mov = codes "mov"
mnemonic_text m.Movsx8 = codes "movsx8"
mnemonic_text m.Movsx16 = codes "movsx16"
mnemonic_text m.Movzx8 = codes "movzx8"
mnemonic_text m.Movzx16 = codes "movzx16"
mnemonic_text m.Lea = codes "lea"
mnemonic_text m.Add = codes "add"
mnemonic_text m.Sub = codes "sub"
mnemonic_text m.Cmp = codes "cmp"
mnemonic_text m.And = codes "and"
mnemonic_text m.Or = codes "or"
mnemonic_text m.Xor = codes "xor"
mnemonic_text m.Test = codes "test"
mnemonic_text m.Neg = codes "neg"
mnemonic_text m.Not = codes "not"
mnemonic_text m.Imul = codes "imul"
mnemonic_text m.Shl = codes "shl"
mnemonic_text m.Shr = codes "shr"
mnemonic_text m.Sar = codes "sar"
mnemonic_text m.Cdq = codes "cdq"
mnemonic_text m.Idiv = codes "idiv"
mnemonic_text m.Div = codes "div"
mnemonic_text m.Push = codes "push"
mnemonic_text m.Pop = codes "pop"
mnemonic_text m.Jmp = codes "jmp"
mnemonic_text m.Call = codes "call"
mnemonic_text m.Ret = codes "ret"
mnemonic_text m.Out = codes "out"
mnemonic_text m.Lockdec = codes "lockdec"
mnemonic_text m.Set = codes "set"
mnemonic_text m.Jo = codes "jo"
mnemonic_text m.Jno = codes "jno"
mnemonic_text m.Jb = codes "jb"
mnemonic_text m.Jae = codes "jae"
mnemonic_text m.Je = codes "je"
mnemonic_text m.Jne = codes "jne"
mnemonic_text m.Jbe = codes "jbe"
mnemonic_text m.Ja = codes "ja"
mnemonic_text m.Js = codes "js"
mnemonic_text m.Jns = codes "jns"
mnemonic_text m.Jp = codes "jp"
mnemonic_text m.Jnp = codes "jnp"
mnemonic_text m.Jl = codes "jl"
mnemonic_text m.Jge = codes "jge"
mnemonic_text m.Jle = codes "jle"
mnemonic_text m.Jg = codes "jg"

-- all mnemonics
abbrev pub mnemonics : List Mnemonic
mnemonics =
    m.Mov ∷ m.Movsx8 ∷ m.Movsx16 ∷ m.Movzx8 ∷ m.Movzx16 ∷ m.Lea ∷ m.Add ∷ m.Sub ∷ m.Cmp ∷ m.And ∷ m.Or ∷ m.Xor ∷
    m.Test ∷ m.Neg ∷ m.Not ∷ m.Imul ∷ m.Shl ∷ m.Shr ∷ m.Sar ∷ m.Cdq ∷ m.Idiv ∷ m.Div ∷ m.Push ∷ m.Pop ∷ m.Jmp ∷
    m.Call ∷ m.Ret ∷ m.Out ∷ m.Lockdec ∷ m.Set ∷ m.Jo ∷ m.Jno ∷ m.Jb ∷ m.Jae ∷ m.Je ∷ m.Jne ∷ m.Jbe ∷ m.Ja ∷
    m.Js ∷ m.Jns ∷ m.Jp ∷ m.Jnp ∷ m.Jl ∷ m.Jge ∷ m.Jle ∷ m.Jg ∷ []

-- their texts
abbrev pub mnemonic_rows : List (List ℕ)
mnemonic_rows = map mnemonic_text mnemonics

-- the mnemonic with a text
abbrev pub mnemonic_of : List ℕ → Option Mnemonic
mnemonic_of x = find (λ c. bytes_eq (mnemonic_text c) x) mnemonics

-- the text of a condition
abbrev pub condition_text : Cond → List ℕ
condition_text cond.O = codes "o"
condition_text cond.No = codes "no"
condition_text cond.B = codes "b"
condition_text cond.Ae = codes "ae"
condition_text cond.E = codes "e"
condition_text cond.Ne = codes "ne"
condition_text cond.Be = codes "be"
condition_text cond.A = codes "a"
condition_text cond.S = codes "s"
condition_text cond.Ns = codes "ns"
condition_text cond.P = codes "p"
condition_text cond.Np = codes "np"
condition_text cond.L = codes "l"
condition_text cond.Ge = codes "ge"
condition_text cond.Le = codes "le"
condition_text cond.G = codes "g"

-- all conditions
abbrev pub conditions : List Cond
conditions =
    cond.O ∷ cond.No ∷ cond.B ∷ cond.Ae ∷ cond.E ∷ cond.Ne ∷ cond.Be ∷ cond.A ∷ cond.S ∷ cond.Ns ∷ cond.P ∷
    cond.Np ∷ cond.L ∷ cond.Ge ∷ cond.Le ∷ cond.G ∷ []

-- their texts
abbrev pub condition_rows : List (List ℕ)
condition_rows = map condition_text conditions

-- the condition with a text
abbrev pub condition_of : List ℕ → Option Cond
condition_of x = find (λ c. bytes_eq (condition_text c) x) conditions

-- the text of a register
abbrev pub register_text : Reg → List ℕ
register_text reg.Eax = codes "eax"
register_text reg.Ecx = codes "ecx"
register_text reg.Edx = codes "edx"
register_text reg.Ebx = codes "ebx"
register_text reg.Esp = codes "esp"
register_text reg.Ebp = codes "ebp"
register_text reg.Esi = codes "esi"
register_text reg.Edi = codes "edi"

-- all registers
abbrev pub registers : List Reg
registers =
    reg.Eax ∷ reg.Ecx ∷ reg.Edx ∷ reg.Ebx ∷ reg.Esp ∷ reg.Ebp ∷ reg.Esi ∷ reg.Edi ∷ []

-- their texts
abbrev pub register_rows : List (List ℕ)
register_rows = map register_text registers

-- the register with a text
abbrev pub register_of : List ℕ → Option Reg
register_of x = find (λ c. bytes_eq (register_text c) x) registers
