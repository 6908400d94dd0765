-- Operands are read from their pieces, which have no comma.
use Rattle.std.proofs.Common.{◌≡◌, ℕ, zero, suc, ◌<◌, ◌^◌, List, [], ◌∷◌, Bool, true, false, ◌||◌, Option, Some, None, Ok, refl, ap, ◌∙◌, arith}
use Rattle.std.specs.Option.{option_map}
use Rattle.std.specs.Fmt.{decimal}
use Rattle.std.specs.Prelude.{ℤ, pos, negsuc}
use Rattle.cas_base.specs.Name.{is_name}
use Rattle.cas_base.specs.declared.reg.Reg.{Reg}
use Rattle.cas_asm.specs.declared.instr.Mem.{Mem}
use Rattle.cas_pieces.specs.declared.piece.Mark.TheVariants.{At, Dot, Open, Close}
use Rattle.cas_pieces.specs.declared.piece.Piece.{Piece}
use Rattle.cas_pieces.specs.declared.piece.Piece.TheVariants.{Word, Mark}
use Rattle.cas_object_line.specs.declared.operand.Address.{Address}
use Rattle.cas_object_line.specs.declared.operand.Operand.TheVariants as operand
use Rattle.cas_object_line.specs.Instructions.{mem_of}
use Rattle.cas_object_line.specs.Operands.{operand_of, address_of, register_piece}
use Rattle.cas_object_print.specs.Operands.{is_there}
use Rattle.cas_object_print.specs.Words.{register}
use Rattle.cas_object_laws.specs.Formed.{IsFormedSymbol, IsFormedInteger, IsFormedMem}
use Rattle.cas_object_laws.proofs.Addresses.{address, read_address}
use Rattle.cas_object_laws.proofs.Numerals.{numeral_of, displacement_of-integer, is_numeral-decimal, is_positive-decimal}
use Rattle.cas_object_laws.proofs.Registers.{is_numeral-register, register_of-register}
use Rattle.cas_object_laws.proofs.Sequences.{no_comma}
use Rattle.cas_object_laws.proofs.Spelled.{symbol_pieces, joint_pieces, base_pieces, scale_pieces, index_pieces, integer_pieces, number_pieces, mem_pieces}

pub read_register : (r : Reg) → operand_of (Word (register r) ∷ []) ≡ Some (operand.Reg r)
read_register r = rw (is_numeral-register r, register_of-register r) refl

pub read_integer : (z : ℤ) → IsFormedInteger z → operand_of (integer_pieces z []) ≡ Some (operand.Number (numeral_of z))
read_integer (pos n) small = rw (is_numeral-decimal n (omega arith)) refl
read_integer (negsuc n) small = rw (is_positive-decimal n (omega arith)) refl

pub read_symbol : (x : List ℕ) → is_name x ≡ true → operand_of (Mark At ∷ Word x ∷ []) ≡ Some (operand.Symbol x)
read_symbol x named = rw named refl

pub read_label : (n : ℕ) → n < 2 ^ 64 → operand_of (Mark Dot ∷ Word (decimal n) ∷ []) ≡ Some (operand.Label (decimal n))
read_label n small = rw (is_numeral-decimal n small) refl

nothing : (a : Address) → ◌≡◌ {A = Option Address} None (Some a) → ⊥
nothing a e = cc

-- an address has at least two pieces
memory_of : (ps : List Piece) (a : Address) → address_of ps ≡ Some a →
    operand_of (Mark Open ∷ ps) ≡ Some (operand.Memory a)
memory_of [] a h = absurd cc
memory_of (p ∷ []) a h = absurd (alone (register_piece p) refl)
  where
    alone : (o : Option Reg) → register_piece p ≡ o → ⊥
    alone None e = nothing a (rw e at h)
    alone (Some r) e = nothing a (rw e at h)
memory_of (p ∷ q ∷ qs) a h = ap (λ (o : Option Address). option_map operand.Memory o) h

abbrev pub address_in : Mem (List ℕ) → Address
address_in m = address m.sym m.base m.index ((is_there m.sym || is_there m.base) || is_there m.index) m.disp

pub read_mem : (m : Mem (List ℕ)) → IsFormedMem m → operand_of (mem_pieces m []) ≡ Some (operand.Memory (address_in m))
read_mem m formed =
    memory_of
    (symbol_pieces m.sym (base_pieces (is_there m.sym) m.base
    (index_pieces (is_there m.sym || is_there m.base) m.index
    (number_pieces ((is_there m.sym || is_there m.base) || is_there m.index) m.disp (Mark Close ∷ []))))) _
    (read_address m.sym m.base m.index m.disp formed.0 formed.1 formed.2)

-- and it is that place in memory
written_read : (s : Option (List ℕ)) (b : Option Reg) (i : Option (Reg × Bool)) (after : Bool) (z : ℤ) →
    IsFormedSymbol s → IsFormedInteger z →
    mem_of (address s b i after z) ≡ Ok (record { sym = s; base = b; index = i; disp = z })
written_read None b i true (pos zero) named small = refl
written_read (Some x) b i true (pos zero) named small = rw named refl
written_read None b i true (pos (suc n)) named small = rw (displacement_of-integer (pos (suc n)) small) refl
written_read (Some x) b i true (pos (suc n)) named small = rw (displacement_of-integer (pos (suc n)) small, named) refl
written_read None b i false (pos n) named small = rw (displacement_of-integer (pos n) small) refl
written_read (Some x) b i false (pos n) named small = rw (displacement_of-integer (pos n) small, named) refl
written_read None b i after (negsuc n) named small = rw (displacement_of-integer (negsuc n) small) refl
written_read (Some x) b i after (negsuc n) named small = rw (displacement_of-integer (negsuc n) small, named) refl

pub mem_read : (m : Mem (List ℕ)) → IsFormedMem m → mem_of (address_in m) ≡ Ok m
mem_read m formed = written_read m.sym m.base m.index ((is_there m.sym || is_there m.base) || is_there m.index)
    m.disp formed.0 formed.2

-- no comma
free_symbol : (s : Option (List ℕ)) (ps : List Piece) → no_comma (symbol_pieces s ps) ≡ no_comma ps
free_symbol None ps = refl
free_symbol (Some x) ps = refl

free_joint : (after : Bool) (ps : List Piece) → no_comma (joint_pieces after ps) ≡ no_comma ps
free_joint true ps = refl
free_joint false ps = refl

free_base : (after : Bool) (b : Option Reg) (ps : List Piece) → no_comma (base_pieces after b ps) ≡ no_comma ps
free_base after None ps = refl
free_base after (Some r) ps = free_joint after _

free_scale : (f : Bool) (ps : List Piece) → no_comma (scale_pieces f ps) ≡ no_comma ps
free_scale true ps = refl
free_scale false ps = refl

free_index : (after : Bool) (i : Option (Reg × Bool)) (ps : List Piece) →
    no_comma (index_pieces after i ps) ≡ no_comma ps
free_index after None ps = refl
free_index after (Some i) ps = free_joint after _ ∙ free_scale i.1 ps

pub free_integer : (z : ℤ) (ps : List Piece) → no_comma (integer_pieces z ps) ≡ no_comma ps
free_integer (pos n) ps = refl
free_integer (negsuc n) ps = refl

free_number : (after : Bool) (z : ℤ) (ps : List Piece) → no_comma (number_pieces after z ps) ≡ no_comma ps
free_number false z ps = free_integer z ps
free_number true (negsuc n) ps = refl
free_number true (pos zero) ps = refl
free_number true (pos (suc n)) ps = refl

pub free_mem : (m : Mem (List ℕ)) → no_comma (mem_pieces m []) ≡ true
free_mem m =
    free_symbol m.sym _ ∙ (free_base (is_there m.sym) m.base _
    ∙ (free_index (is_there m.sym || is_there m.base) m.index _
    ∙ free_number ((is_there m.sym || is_there m.base) || is_there m.index) m.disp (Mark Close ∷ [])))
