-- The results of operators on words are words.
use Rattle.std.proofs.Common.{false, ◌≡◌, ℤ, arith, ℕ, ◌^◌, ◌-◌, ◌<◌}
use Rattle.std.proofs.lemmas.Int.{ints}
use Rattle.std.proofs.lemmas.Bool.Decides.{nat_tests}
use Rattle.std.specs.Prelude.{int_div, int_rem, FitsSigned}
use Rattle.std.specs.Int.{w32}
use Rattle.std.proofs.Common.{Bool, true, Option, Some, None, refl, ◌/◌, ◌%◌, if◌then◌else◌}
use Rattle.std.specs.Prelude.{⊤, ◌==◌, not}
use Rattle.std.proofs.Math.Nat.{div-le_self, mod-le}
use Rattle.std.proofs.lemmas.Nat.{or_of_32, xor_of_32, and_le_l}
use Rattle.cas_syntax.specs.declared.tree.UnaryOperator.{UnaryOperator}
use Rattle.cas_syntax.specs.declared.tree.UnaryOperator.TheVariants as un
use Rattle.cas_syntax.specs.declared.tree.BinaryOperator.{BinaryOperator}
use Rattle.cas_syntax.specs.declared.tree.BinaryOperator.TheVariants as bin
use Rattle.cas_typed.specs.declared.tree.Signedness.{Signedness}
use Rattle.cas_typed.specs.declared.tree.Signedness.TheVariants.{Signed, Unsigned}
use Rattle.cas_step.specs.Asks.{Asks, gives, fails}
use Rattle.cas_step.specs.Operators.{truth, or_undefined, quotient, remainder, shifted_right, is_less, is_at_most, binary_result, unary_result}
use Rattle.cas_base.proofs.WordLaws.{quotient_fits, rem_fits, signed_fits}
use Rattle.cas_base.specs.Word.{signed, word_of, has_no_signed_quotient, word_add, word_sub, word_mul, word_shl, word_shr, word_sar}

pub add_word : (a b : ℕ) → word_add a b < 2 ^ 32
add_word a b = grind (arith, nat_tests, ints)

pub sub_word : (a b : ℕ) → word_sub a b < 2 ^ 32
sub_word a b = grind (arith, nat_tests, ints)

pub mul_word : (a b : ℕ) → word_mul a b < 2 ^ 32
mul_word a b = grind (arith, nat_tests, ints)

pub shl_word : (a b : ℕ) → word_shl a b < 2 ^ 32
shl_word a b = grind (arith, nat_tests, ints)

shr_word : (a b : ℕ) → a < 2 ^ 32 → word_shr a b < 2 ^ 32
shr_word a b h = grind (arith, nat_tests, ints, h)

complement_word : (a : ℕ) → 2 ^ 32 - 1 - a < 2 ^ 32
complement_word a = omega arith

sar_word : (a b : ℕ) → a < 2 ^ 32 → word_sar a b < 2 ^ 32
sar_word a b h = grind (arith, nat_tests, ints, h)

fits_word : (z : ℤ) → FitsSigned w32 z → word_of z < 2 ^ 32
fits_word z fits = grind (arith, nat_tests, ints, fits.sfits)

div_word : (a b : ℕ) → a < 2 ^ 32 → b < 2 ^ 32 → has_no_signed_quotient a b ≡ false →
    word_of (int_div (signed a) (signed b)) < 2 ^ 32
div_word a b h k defined = fits_word (int_div (signed a) (signed b)) (quotient_fits a b h k defined)

rem_word : (a b : ℕ) → a < 2 ^ 32 → word_of (int_rem (signed a) (signed b)) < 2 ^ 32
rem_word a b h = fits_word (int_rem (signed a) (signed b)) (rem_fits (signed a) (signed b) (signed_fits a h))

-- a word, if there is one
abbrev pub IsWordIfAny : Option ℕ → Type 0
IsWordIfAny None = ⊤
IsWordIfAny (Some n) = n < 2 ^ 32

-- a word is given, or nothing
abbrev pub GivesWord : {O : Type 0} → Asks O ℕ → Type 0
GivesWord (gives n) = n < 2 ^ 32
GivesWord (fails why) = ⊤
GivesWord _ = ⊥

pub truth_word : (b : Bool) → truth b < 2 ^ 32
truth_word true = omega arith
truth_word false = omega arith

divided_word : (O : Type 0) (b : ℕ) (r : Option ℕ) → IsWordIfAny r → GivesWord {O = O} (or_undefined b r)
divided_word O b None h = tt
divided_word O b (Some n) h = h

signed_quotient : (a b : ℕ) (none : Bool) → has_no_signed_quotient a b ≡ none → a < 2 ^ 32 → b < 2 ^ 32 →
    IsWordIfAny (if none then None else Some (word_of (int_div (signed a) (signed b))))
signed_quotient a b true e h k = tt
signed_quotient a b false e h k = div_word a b h k e

signed_remainder : (a b : ℕ) (none : Bool) → a < 2 ^ 32 →
    IsWordIfAny (if none then None else Some (word_of (int_rem (signed a) (signed b))))
signed_remainder a b true h = tt
signed_remainder a b false h = rem_word a b h

unsigned_quotient : (a b : ℕ) (none : Bool) → a < 2 ^ 32 → IsWordIfAny (if none then None else Some (a / b))
unsigned_quotient a b true h = tt
unsigned_quotient a b false h = omega (arith, h, div-le_self a b)

unsigned_remainder : (a b : ℕ) (none : Bool) → a < 2 ^ 32 → IsWordIfAny (if none then None else Some (a % b))
unsigned_remainder a b true h = tt
unsigned_remainder a b false h = omega (arith, h, mod-le a b)

quotient_word : (s : Signedness) (a b : ℕ) → a < 2 ^ 32 → b < 2 ^ 32 → IsWordIfAny (quotient s a b)
quotient_word Signed a b h k = signed_quotient a b (has_no_signed_quotient a b) refl h k
quotient_word Unsigned a b h k = unsigned_quotient a b (b == 0) h

remainder_word : (s : Signedness) (a b : ℕ) → a < 2 ^ 32 → IsWordIfAny (remainder s a b)
remainder_word Signed a b h = signed_remainder a b (has_no_signed_quotient a b) h
remainder_word Unsigned a b h = unsigned_remainder a b (b == 0) h

shifted_word : (s : Signedness) (a b : ℕ) → a < 2 ^ 32 → shifted_right s a b < 2 ^ 32
shifted_word Signed a b h = sar_word a b h
shifted_word Unsigned a b h = shr_word a b h

-- each operator on words gives a word
pub binary_words : (O : Type 0) (op : BinaryOperator) (s : Signedness) (a b : ℕ) → a < 2 ^ 32 → b < 2 ^ 32 →
    GivesWord {O = O} (binary_result op s a b)
binary_words O bin.Add s a b h k = add_word a b
binary_words O bin.Sub s a b h k = sub_word a b
binary_words O bin.Mul s a b h k = mul_word a b
binary_words O bin.Div s a b h k = divided_word O b (quotient s a b) (quotient_word s a b h k)
binary_words O bin.Mod s a b h k = divided_word O b (remainder s a b) (remainder_word s a b h)
binary_words O bin.Shl s a b h k = shl_word a b
binary_words O bin.Shr s a b h k = shifted_word s a b h
binary_words O bin.BitAnd s a b h k = omega (arith, h, and_le_l a b)
binary_words O bin.BitOr s a b h k = or_of_32 a b h k
binary_words O bin.BitXor s a b h k = xor_of_32 a b h k
binary_words O bin.Eq s a b h k = truth_word (a == b)
binary_words O bin.Ne s a b h k = truth_word (not (a == b))
binary_words O bin.Lt s a b h k = truth_word (is_less s a b)
binary_words O bin.Le s a b h k = truth_word (is_at_most s a b)
binary_words O bin.Gt s a b h k = truth_word (is_less s b a)
binary_words O bin.Ge s a b h k = truth_word (is_at_most s b a)

pub unary_words : (op : UnaryOperator) (a : ℕ) → a < 2 ^ 32 → unary_result op a < 2 ^ 32
unary_words un.Neg a h = sub_word 0 a
unary_words un.Plus a h = h
unary_words un.BitNot a h = complement_word a
unary_words un.Not a h = truth_word (a == 0)
