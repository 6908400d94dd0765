-- The pieces of memory operands are proper.
use Rattle.std.proofs.Common.{◌≡◌, ℕ, zero, suc, List, ◌∷◌, Bool, true, false, ◌||◌, Option, Some, None, refl, arith}
use Rattle.std.specs.Fmt.{decimal}
use Rattle.std.specs.Prelude.{ℤ, pos, negsuc}
use Rattle.cas_base.specs.declared.reg.Reg.{Reg}
use Rattle.cas_asm.specs.declared.instr.Mem.{Mem}
use Rattle.cas_pieces.specs.declared.piece.Mark.TheVariants.{Close}
use Rattle.cas_pieces.specs.declared.piece.Piece.{Piece}
use Rattle.cas_pieces.specs.declared.piece.Piece.TheVariants.{Word, Mark}
use Rattle.cas_pieces.specs.Pieces.{AreProper, begins_with_word}
use Rattle.cas_pieces.specs.Words.{is_word}
use Rattle.cas_object_print.specs.Operands.{is_there}
use Rattle.cas_object_print.specs.Words.{register}
use Rattle.cas_object_laws.specs.Formed.{IsFormedSymbol, IsFormedInteger, IsFormedMem}
use Rattle.cas_object_laws.proofs.Numerals.{is_word-decimal, is_word-name}
use Rattle.cas_object_laws.proofs.Registers.{is_word-register}
use Rattle.cas_object_laws.proofs.Spelled.{symbol_pieces, base_pieces, scale_pieces, index_pieces, integer_pieces, number_pieces, mem_pieces}

-- pieces that may follow a word
pub record Follows (ps : List Piece) : Type 0 where
  pub apart : begins_with_word ps ≡ false
  pub proper : AreProper ps

pub marked : (ps : List Piece) → AreProper (Mark Close ∷ ps) → Follows (Mark Close ∷ ps)
marked ps h = record { apart = refl; proper = h }

worded : (x : List ℕ) (ps : List Piece) → is_word x ≡ true → Follows ps → AreProper (Word x ∷ ps)
worded x ps w f = (w, f.apart, f.proper)

pub proper-integer : (z : ℤ) (ps : List Piece) → IsFormedInteger z → Follows ps → AreProper (integer_pieces z ps)
proper-integer (pos n) ps small f = worded (decimal n) ps (is_word-decimal n (omega arith)) f
proper-integer (negsuc n) ps small f =
    ((refl, refl), worded (decimal (suc n)) ps (is_word-decimal (suc n) (omega arith)) f)

follows-number : (z : ℤ) (ps : List Piece) → IsFormedInteger z → Follows ps → Follows (number_pieces true z ps)
follows-number (negsuc n) ps small f =
    record {
      apart = refl;
      proper = (
        (refl, refl),
        worded (decimal (suc n)) ps (is_word-decimal (suc n) (omega arith))
            f,
      );
    }
follows-number (pos zero) ps small f = f
follows-number (pos (suc n)) ps small f =
    record {
      apart = refl;
      proper = (
        (refl, refl),
        worded (decimal (suc n)) ps (is_word-decimal (suc n) (omega arith))
            f,
      );
    }

proper-scale : (by_four : Bool) (ps : List Piece) → Follows ps → Follows (scale_pieces by_four ps)
proper-scale true ps f = record { apart = refl; proper = ((refl, refl), (refl, f.apart, f.proper)) }
proper-scale false ps f = record { apart = refl; proper = ((refl, refl), (refl, f.apart, f.proper)) }

scaled : (i : Reg × Bool) (ps : List Piece) → Follows ps → AreProper (Word (register i.0) ∷ scale_pieces i.1 ps)
scaled i ps f = worded (register i.0) _ (is_word-register i.0) (proper-scale i.1 ps f)

follows-index : (i : Option (Reg × Bool)) (ps : List Piece) → Follows ps → Follows (index_pieces true i ps)
follows-index None ps f = f
follows-index (Some i) ps f = record { apart = refl; proper = ((refl, refl), scaled i ps f) }

follows-base : (b : Option Reg) (ps : List Piece) → Follows ps → Follows (base_pieces true b ps)
follows-base None ps f = f
follows-base (Some r) ps f =
    record { apart = refl; proper = ((refl, refl), worded (register r) ps (is_word-register r) f) }

-- what comes after the parts' first
pub proper-parts : (s : Option (List ℕ)) (b : Option Reg) (i : Option (Reg × Bool)) (z : ℤ) (ps : List Piece) →
    IsFormedSymbol s → IsFormedInteger z → Follows ps →
    AreProper
    (symbol_pieces s
    (base_pieces (is_there s) b (index_pieces (is_there s || is_there b) i
    (number_pieces ((is_there s || is_there b) || is_there i) z ps))))
proper-parts None None None z ps named small f = proper-integer z ps small f
proper-parts None None (Some i) z ps named small f = scaled i _ (follows-number z ps small f)
proper-parts None (Some r) i z ps named small f =
    worded (register r) _ (is_word-register r) (follows-index i _ (follows-number z ps small f))
proper-parts (Some x) b i z ps named small f = (
  (refl, refl),
  worded x _ (is_word-name x named)
      (follows-base b _ (follows-index i _ (follows-number z ps small f))),
)

pub proper-mem : (m : Mem (List ℕ)) (ps : List Piece) → IsFormedMem m → Follows (Mark Close ∷ ps) →
    AreProper (mem_pieces m ps)
proper-mem m ps formed f =
    ((refl, refl), proper-parts m.sym m.base m.index m.disp (Mark Close ∷ ps) formed.0 formed.2 f)
