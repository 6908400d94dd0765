-- How integers and lists are printed.
use Rattle.std.proofs.Common.{◌≡◌, ◌==◌, ℕ, ◌+◌, List, [], ◌∷◌, true, false, length, refl, ap, arith}
use Rattle.std.specs.Prelude.{ℤ, pos, negsuc, int_lt, unsigned_abs}
use Rattle.std.proofs.lemmas.Int.{ints}
use Rattle.std.proofs.lemmas.Bool.Decides.{nat_tests}
use Rattle.cas_lex.specs.declared.token.Word.TheVariants as w
use Rattle.cas_lex.specs.declared.token.Sign.TheVariants as sg
use Rattle.cas_print.specs.Pieces.{Piece, word, sign, plain_number}
use Rattle.cas_print.specs.Items.{printed_integer, printed_names, printed_holds}

-- an integer below 0
pub below_zero : (z : ℤ) (n : ℕ) (rest : List Piece) → n ≡ unsigned_abs z → int_lt z (pos 0) ≡ true →
    sign sg.Minus ∷ plain_number n ∷ rest ≡ printed_integer z rest
below_zero (pos m) n rest is h = absurd (grind (arith, nat_tests))
below_zero (negsuc m) n rest is h = let e : n ≡ m + 1 =
    omega (arith, ints) in ap (λ (k : ℕ). sign sg.Minus ∷ plain_number k ∷ rest) e

-- any other
pub not_below_zero : (z : ℤ) (n : ℕ) (rest : List Piece) → n ≡ unsigned_abs z → int_lt z (pos 0) ≡ false →
    plain_number n ∷ rest ≡ printed_integer z rest
not_below_zero (pos m) n rest is h = let e : n ≡ m = omega (arith, ints) in ap (λ (k : ℕ). plain_number k ∷ rest) e
not_below_zero (negsuc m) n rest is h = absurd (grind (arith, nat_tests))

-- locks, of which there are some
pub printed_holds-some : (xs : List (List ℕ)) (rest : List Piece) → false ≡ (length xs == 0) →
    word w.Holds ∷ sign sg.OpenParen ∷ printed_names xs (sign sg.CloseParen ∷ rest) ≡ printed_holds xs rest
printed_holds-some [] rest some = cc
printed_holds-some (x ∷ xs) rest some = refl
