-- The pieces that lines are printed as. Each function puts them before `rest`.
use Rattle.std.proofs.Common.{◌≡◌, ℕ, zero, suc, List, ◌∷◌, ◌++◌, codes, Bool, true, false, ◌||◌, cond, Option, Some, None, refl, ap, sym, ◌∙◌, arith}
use Rattle.std.specs.Fmt.{decimal}
use Rattle.std.specs.Prelude.{ℤ, pos, negsuc, int_lt}
use Rattle.std.specs.Ordering.{int_eq}
use Rattle.std.proofs.lemmas.Int.{ints}
use Rattle.std.proofs.lemmas.Bool.Decides.{nat_tests}
use Rattle.cas_base.specs.declared.reg.Reg.{Reg}
use Rattle.cas_asm.specs.declared.instr.Mem.{Mem}
use Rattle.cas_pieces.specs.declared.piece.Mark.TheVariants.{At, Plus, Minus, Star, Open, Close}
use Rattle.cas_pieces.specs.declared.piece.Piece.{Piece}
use Rattle.cas_pieces.specs.declared.piece.Piece.TheVariants.{Word, Mark}
use Rattle.cas_pieces.specs.Pieces.{text}
use Rattle.cas_object_print.specs.Operands.{is_there, symbol_part, joint, base_part, scale, index_part, is_joined, number_part, mem}
use Rattle.cas_object_print.specs.Page.{integer}
use Rattle.cas_object_print.specs.Words.{register}

abbrev pub symbol_pieces : Option (List ℕ) → List Piece → List Piece
symbol_pieces None rest = rest
symbol_pieces (Some x) rest = Mark At ∷ Word x ∷ rest

abbrev pub joint_pieces : Bool → List Piece → List Piece
joint_pieces true rest = Mark Plus ∷ rest
joint_pieces false rest = rest

abbrev pub base_pieces : Bool → Option Reg → List Piece → List Piece
base_pieces after None rest = rest
base_pieces after (Some r) rest = joint_pieces after (Word (register r) ∷ rest)

abbrev pub scale_pieces : Bool → List Piece → List Piece
scale_pieces true rest = Mark Star ∷ Word (codes "4") ∷ rest
scale_pieces false rest = Mark Star ∷ Word (codes "1") ∷ rest

abbrev pub index_pieces : Bool → Option (Reg × Bool) → List Piece → List Piece
index_pieces after None rest = rest
index_pieces after (Some i) rest = joint_pieces after (Word (register i.0) ∷ scale_pieces i.1 rest)

abbrev pub integer_pieces : ℤ → List Piece → List Piece
integer_pieces (pos n) rest = Word (decimal n) ∷ rest
integer_pieces (negsuc n) rest = Mark Minus ∷ Word (decimal (suc n)) ∷ rest

abbrev pub number_pieces : Bool → ℤ → List Piece → List Piece
number_pieces false z rest = integer_pieces z rest
number_pieces true (negsuc n) rest = Mark Minus ∷ Word (decimal (suc n)) ∷ rest
number_pieces true (pos zero) rest = rest
number_pieces true (pos (suc n)) rest = Mark Plus ∷ Word (decimal (suc n)) ∷ rest

abbrev pub mem_pieces : Mem (List ℕ) → List Piece → List Piece
mem_pieces m rest =
    Mark Open ∷ symbol_pieces m.sym (base_pieces (is_there m.sym) m.base (
    index_pieces (is_there m.sym || is_there m.base) m.index (
    number_pieces ((is_there m.sym || is_there m.base) || is_there m.index) m.disp (Mark Close ∷ rest))))

text-symbol : (s : Option (List ℕ)) (ps : List Piece) → text (symbol_pieces s ps) ≡ symbol_part s (text ps)
text-symbol None ps = refl
text-symbol (Some x) ps = refl

text-joint : (after : Bool) (ps : List Piece) → text (joint_pieces after ps) ≡ joint after (text ps)
text-joint true ps = refl
text-joint false ps = refl

text-base : (after : Bool) (b : Option Reg) (ps : List Piece) →
    text (base_pieces after b ps) ≡ base_part after b (text ps)
text-base after None ps = refl
text-base after (Some r) ps = text-joint after _

text-scale : (by_four : Bool) (ps : List Piece) → text (scale_pieces by_four ps) ≡ scale by_four ++ text ps
text-scale true ps = refl
text-scale false ps = refl

text-index : (after : Bool) (i : Option (Reg × Bool)) (ps : List Piece) →
    text (index_pieces after i ps) ≡ index_part after i (text ps)
text-index after None ps = refl
text-index after (Some i) ps = text-joint after _ ∙ ap (λ (r : List ℕ). joint after (register i.0 ++ r))
    (text-scale i.1 ps)

pub text-integer : (z : ℤ) (ps : List Piece) → text (integer_pieces z ps) ≡ integer z (text ps)
unfolding integer
text-integer (pos n) ps = refl
text-integer (negsuc n) ps = refl

not_negative : (n : ℕ) → int_lt (pos n) (pos 0) ≡ false
not_negative n = grind (arith, nat_tests, ints)

negative : (n : ℕ) → int_lt (negsuc n) (pos 0) ≡ true
negative n = grind (arith, nat_tests, ints)

not_zero : (n : ℕ) → int_eq (pos (suc n)) (pos 0) ≡ false
not_zero n = grind (arith, nat_tests, ints)

by_test : (t : Bool) (a b : List ℕ) → t ≡ true → cond t a b ≡ a
by_test t a b e = rw e refl

by_tests : (t u : Bool) (a b c : List ℕ) → t ≡ false → u ≡ false → cond t a (cond u b c) ≡ c
by_tests t u a b c e f = rw (e, f) refl

text-number : (after : Bool) (z : ℤ) (ps : List Piece) → text (number_pieces after z ps) ≡ number_part after z (text ps)
unfolding integer
text-number false z ps = text-integer z ps
text-number true (negsuc n) ps =
    sym (by_test (is_joined true (negsuc n)) (integer (negsuc n) (text ps))
    (cond (int_eq (negsuc n) (pos 0)) (text ps) (codes "+" ++ integer (negsuc n) (text ps))) (negative n))
text-number true (pos zero) ps = refl
text-number true (pos (suc n)) ps =
    sym (by_tests (is_joined true (pos (suc n))) (int_eq (pos (suc n)) (pos 0)) (integer (pos (suc n)) (text ps))
    (text ps) (codes "+" ++ integer (pos (suc n)) (text ps)) (not_negative (suc n)) (not_zero n))

-- a memory operand's pieces spell it
pub text-mem : (m : Mem (List ℕ)) (ps : List Piece) → text (mem_pieces m ps) ≡ mem m (text ps)
text-mem m ps =
    ap (λ (r : List ℕ). codes "[" ++ r) (
    text-symbol m.sym _ ∙ ap (symbol_part m.sym) (
    text-base (is_there m.sym) m.base _ ∙ ap (base_part (is_there m.sym) m.base) (
    text-index (is_there m.sym || is_there m.base) m.index _
    ∙ ap (index_part (is_there m.sym || is_there m.base) m.index) (
    text-number ((is_there m.sym || is_there m.base) || is_there m.index) m.disp _))))
