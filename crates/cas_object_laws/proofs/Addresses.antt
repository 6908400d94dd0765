-- Memory operands are read from their pieces.
use Rattle.std.proofs.Common.{◌≡◌, ℕ, zero, suc, ◌<◌, ◌^◌, List, [], ◌∷◌, codes, Bool, true, false, ◌&&◌, ◌||◌, cond, Option, Some, None, refl, arith}
use Rattle.std.specs.Fmt.{decimal}
use Rattle.std.specs.Prelude.{ℤ, pos, negsuc}
use Rattle.cas_base.specs.declared.reg.Reg.{Reg}
use Rattle.cas_base.specs.declared.reg.Reg.TheVariants.{Eax, Ecx, Edx, Ebx, Esp, Ebp, Esi, Edi}
use Rattle.cas_pieces.specs.declared.piece.Mark.TheVariants.{At, Plus, Close}
use Rattle.cas_pieces.specs.declared.piece.Piece.{Piece}
use Rattle.cas_pieces.specs.declared.piece.Piece.TheVariants.{Word, Mark}
use Rattle.cas_base.specs.Name.{is_name}
use Rattle.cas_pieces.specs.Numbers.{is_numeral}
use Rattle.cas_object_line.specs.declared.operand.Address.{Address}
use Rattle.cas_object_line.specs.declared.operand.Numeral.{Numeral}
use Rattle.cas_object_line.specs.Operands.{is_positive, is_absent, numeral_of, begins_with_star, after_index, index_of, index_part, after_base, base_part, after_symbol, address_of}
use Rattle.cas_object_line.specs.Tables.{register_of}
use Rattle.cas_object_print.specs.Operands.{is_there}
use Rattle.cas_object_print.specs.Words.{register}
use Rattle.cas_object_laws.specs.Formed.{IsFormedSymbol, IsFormedIndex, IsFormedInteger, is_esp}
use Rattle.cas_object_laws.proofs.Numerals.{is_numeral-decimal, is_positive-decimal}
use Rattle.cas_object_laws.proofs.Registers.{register_of-register, register_of-numeral}
use Rattle.cas_object_laws.proofs.Spelled.{symbol_pieces, base_pieces, index_pieces, scale_pieces, number_pieces}

-- the number of an address, as it is written after other parts or alone
abbrev pub written : Bool → ℤ → Option Numeral
written true (pos zero) = None
written after (pos n) = Some (record { negative = false; digits = decimal n })
written after (negsuc n) = Some (record { negative = true; digits = decimal (suc n) })

abbrev pub address : Option (List ℕ) → Option Reg → Option (Reg × Bool) → Bool → ℤ → Address
address s b i after z = record { symbol = s; base = b; index = i; number = written after z }

-- numbers other than 0
positive_read : (may : Bool) (n : ℕ) → suc n < 2 ^ 31 → numeral_of may (Word (decimal (suc n))) ≡ Some (decimal (suc n))
positive_read may n small = rw (is_positive-decimal n (omega arith)) refl

negative_read : (may : Bool) (n : ℕ) → n < 2 ^ 31 → numeral_of may (Word (decimal (suc n))) ≡ Some (decimal (suc n))
negative_read may n small = rw (is_positive-decimal n (omega arith)) refl

-- any number alone
alone_read : (n : ℕ) → n < 2 ^ 31 → numeral_of true (Word (decimal n)) ≡ Some (decimal n)
alone_read n small = by_zero (is_positive (decimal n)) (is_numeral-decimal n (omega arith))
  where
    by_zero : (t : Bool) → is_numeral (decimal n) ≡ true →
        cond (t || (true && is_numeral (decimal n))) (Some (decimal n)) None ≡ Some (decimal n)
    by_zero true e = refl
    by_zero false e = rw e refl

no_register : (n : ℕ) → n < 2 ^ 31 → register_of (decimal n) ≡ None
no_register n small = register_of-numeral (decimal n) (is_numeral-decimal n (omega arith))

read_after_index : (s : Option (List ℕ)) (b : Option Reg) (i : Reg × Bool) (z : ℤ) → IsFormedInteger z →
    after_index s b i (number_pieces true z (Mark Close ∷ [])) ≡ Some (address s b (Some i) true z)
read_after_index s b i (negsuc n) small = rw (negative_read false n small) refl
read_after_index s b i (pos zero) small = refl
read_after_index s b i (pos (suc n)) small = rw (positive_read (is_absent s && is_absent b && false) n small) refl

read_after_base : (s : Option (List ℕ)) (r : Reg) (z : ℤ) → IsFormedInteger z →
    after_base s r (number_pieces true z (Mark Close ∷ [])) ≡ Some (address s (Some r) None true z)
read_after_base s r (negsuc n) small = rw (negative_read false n small) refl
read_after_base s r (pos zero) small = refl
read_after_base s r (pos (suc n)) small = rw (positive_read (is_absent s && false && true) n small) refl

read_after_symbol : (x : List ℕ) (z : ℤ) → IsFormedInteger z →
    after_symbol (Some x) (number_pieces true z (Mark Close ∷ [])) ≡ Some (address (Some x) None None true z)
read_after_symbol x (negsuc n) small = rw (negative_read false n small) refl
read_after_symbol x (pos zero) small = refl
read_after_symbol x (pos (suc n)) small = rw (no_register (suc n) small, positive_read false n small) refl

no_base : false ≡ true → ⊥
no_base e = cc

-- an index with its scale
read_scale : (r : Reg) (by_four : Bool) (b : Option Reg) → is_esp r ≡ false → (by_four ≡ false → is_there b ≡ true) →
    index_of (Some r) b (Word (cond by_four (codes "4") (codes "1"))) ≡ Some (r, by_four)
read_scale r by_four b other beside = by_reg r other by_four b beside
  where
    by_reg : (r : Reg) → is_esp r ≡ false → (f : Bool) (b : Option Reg) → (f ≡ false → is_there b ≡ true) →
        index_of (Some r) b (Word (cond f (codes "4") (codes "1"))) ≡ Some (r, f)
    by_reg Esp e f b h = absurd cc
    by_reg Eax e true b h = refl
    by_reg Eax e false None h = absurd (no_base (h refl))
    by_reg Eax e false (Some c) h = refl
    by_reg Ecx e true b h = refl
    by_reg Ecx e false None h = absurd (no_base (h refl))
    by_reg Ecx e false (Some c) h = refl
    by_reg Edx e true b h = refl
    by_reg Edx e false None h = absurd (no_base (h refl))
    by_reg Edx e false (Some c) h = refl
    by_reg Ebx e true b h = refl
    by_reg Ebx e false None h = absurd (no_base (h refl))
    by_reg Ebx e false (Some c) h = refl
    by_reg Ebp e true b h = refl
    by_reg Ebp e false None h = absurd (no_base (h refl))
    by_reg Ebp e false (Some c) h = refl
    by_reg Esi e true b h = refl
    by_reg Esi e false None h = absurd (no_base (h refl))
    by_reg Esi e false (Some c) h = refl
    by_reg Edi e true b h = refl
    by_reg Edi e false None h = absurd (no_base (h refl))
    by_reg Edi e false (Some c) h = refl

read_index_part : (s : Option (List ℕ)) (b : Option Reg) (r : Reg) (by_four : Bool) (z : ℤ) → is_esp r ≡ false →
    (by_four ≡ false → is_there b ≡ true) → IsFormedInteger z →
    index_part s b (Word (register r) ∷ scale_pieces by_four (number_pieces true z (Mark Close ∷ []))) ≡ Some
    (address s b (Some (r, by_four)) true z)
read_index_part s b r true z other beside small =
    rw (register_of-register r, read_scale r true b other beside) (read_after_index s b (r, true) z small)
read_index_part s b r false z other beside small =
    rw (register_of-register r, read_scale r false b other beside) (read_after_index s b (r, false) z small)

-- what comes after a base: an index, or none
read_behind_base : (s : Option (List ℕ)) (r : Reg) (i : Option (Reg × Bool)) (z : ℤ) → IsFormedIndex (Some r) i →
    IsFormedInteger z →
    after_base s r (index_pieces true i (number_pieces true z (Mark Close ∷ []))) ≡ Some (address s (Some r) i true z)
read_behind_base s r None z formed small = read_after_base s r z small
read_behind_base s r (Some i) z formed small = read_index_part s (Some r) i.0 i.1 z formed.0 formed.1 small

no_star_number : (z : ℤ) → begins_with_star (number_pieces true z (Mark Close ∷ [])) ≡ false
no_star_number (negsuc n) = refl
no_star_number (pos zero) = refl
no_star_number (pos (suc n)) = refl

no_star_index : (i : Option (Reg × Bool)) (z : ℤ) → begins_with_star
    (index_pieces true i (number_pieces true z (Mark Close ∷ []))) ≡ false
no_star_index None z = no_star_number z
no_star_index (Some i) z = refl

read_base_part : (s : Option (List ℕ)) (r : Reg) (i : Option (Reg × Bool)) (z : ℤ) → IsFormedIndex (Some r) i →
    IsFormedInteger z →
    base_part s (Word (register r) ∷ index_pieces true i (number_pieces true z (Mark Close ∷ []))) ≡ Some
    (address s (Some r) i true z)
read_base_part s r i z formed small =
    rw (no_star_index i z, register_of-register r) (read_behind_base s r i z formed small)

read_alone : (z : ℤ) → IsFormedInteger z → address_of (number_pieces false z (Mark Close ∷ [])) ≡ Some
    (address None None None false z)
read_alone (pos n) small = rw (no_register n small, alone_read n small) refl
read_alone (negsuc n) small = rw (negative_read false n small) refl

read_index_first : (r : Reg) (by_four : Bool) (z : ℤ) → is_esp r ≡ false → (by_four ≡ false → false ≡ true) →
    IsFormedInteger z →
    address_of (Word (register r) ∷ scale_pieces by_four (number_pieces true z (Mark Close ∷ []))) ≡ Some
    (address None None (Some (r, by_four)) true z)
read_index_first r true (negsuc n) other beside small = read_index_part None None r true (negsuc n) other beside small
read_index_first r true (pos zero) other beside small = read_index_part None None r true (pos zero) other beside small
read_index_first r true (pos (suc n)) other beside small =
    read_index_part None None r true (pos (suc n)) other beside small
read_index_first r false z other beside small = absurd (no_base (beside refl))

read_base_first : (r : Reg) (i : Option (Reg × Bool)) (z : ℤ) → IsFormedIndex (Some r) i → IsFormedInteger z →
    address_of (Word (register r) ∷ index_pieces true i (number_pieces true z (Mark Close ∷ []))) ≡ Some
    (address None (Some r) i true z)
read_base_first r None (negsuc n) formed small = read_base_part None r None (negsuc n) formed small
read_base_first r None (pos zero) formed small = read_base_part None r None (pos zero) formed small
read_base_first r None (pos (suc n)) formed small = read_base_part None r None (pos (suc n)) formed small
read_base_first r (Some i) z formed small = by_scale i.0 i.1 formed
  where
    by_scale : (q : Reg) (f : Bool) → (is_esp q ≡ false) × (f ≡ false → true ≡ true) →
        address_of (Word (register r) ∷ Mark Plus ∷ Word (register q) ∷ scale_pieces f
        (number_pieces true z (Mark Close ∷ []))) ≡ Some (address None (Some r) (Some (q, f)) true z)
    by_scale q true h = read_base_part None r (Some (q, true)) z h small
    by_scale q false h = read_base_part None r (Some (q, false)) z h small

read_after_name : (x : List ℕ) (b : Option Reg) (i : Option (Reg × Bool)) (z : ℤ) → IsFormedIndex b i →
    IsFormedInteger z →
    after_symbol (Some x) (base_pieces true b (index_pieces true i (number_pieces true z (Mark Close ∷ [])))) ≡ Some
    (address (Some x) b i true z)
read_after_name x None None z formed small = read_after_symbol x z small
read_after_name x None (Some i) z formed small = by_scale i.0 i.1 formed
  where
    by_scale : (q : Reg) (f : Bool) → (is_esp q ≡ false) × (f ≡ false → false ≡ true) →
        after_symbol (Some x) (Mark Plus ∷ Word (register q) ∷ scale_pieces f (number_pieces true z (Mark Close ∷ [])))
        ≡ Some (address (Some x) None (Some (q, f)) true z)
    by_scale q true h = read_index_part (Some x) None q true z h.0 h.1 small
    by_scale q false h = read_index_part (Some x) None q false z h.0 h.1 small
read_after_name x (Some r) i z formed small = read_base_part (Some x) r i z formed small

read_symbol : (x : List ℕ) (rest : List Piece) (a : Address) → is_name x ≡ true → after_symbol (Some x) rest ≡ Some a →
    address_of (Mark At ∷ Word x ∷ rest) ≡ Some a
read_symbol x rest a named h = rw named h

-- an address is read from its pieces
pub read_address : (s : Option (List ℕ)) (b : Option Reg) (i : Option (Reg × Bool)) (z : ℤ) → IsFormedSymbol s →
    IsFormedIndex b i → IsFormedInteger z →
    address_of
    (symbol_pieces s
    (base_pieces (is_there s) b (index_pieces (is_there s || is_there b) i
    (number_pieces ((is_there s || is_there b) || is_there i) z (Mark Close ∷ []))))) ≡ Some
    (address s b i ((is_there s || is_there b) || is_there i) z)
read_address None None None z named formed small = read_alone z small
read_address None None (Some i) z named formed small = read_index_first i.0 i.1 z formed.0 formed.1 small
read_address None (Some r) i z named formed small = read_base_first r i z formed small
read_address (Some x) b i z named formed small = read_symbol x
    (base_pieces true b (index_pieces true i (number_pieces true z (Mark Close ∷ [])))) _ named
    (read_after_name x b i z formed small)
