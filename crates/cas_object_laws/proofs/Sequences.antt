-- Operands before and after a comma.
use Rattle.std.proofs.Common.{◌≡◌, ℕ, suc, ◌+◌, nat_lt, List, [], ◌∷◌, ◌++◌, length, take, drop, Bool, true, false, not, ◌&&◌, Some, None, refl, ap, sym, ◌∙◌, append_assoc, arith, codes}
use Rattle.std.specs.List.{list_all, position, position_or_len}
use Rattle.std.proofs.lemmas.Bool.Decides.{nat_tests}
use Rattle.cas_pieces.specs.declared.piece.Mark.TheVariants.{Space, Comma}
use Rattle.cas_pieces.specs.declared.piece.Piece.{Piece}
use Rattle.cas_pieces.specs.declared.piece.Piece.TheVariants.{Word, Mark}
use Rattle.cas_pieces.specs.Marks.{is_mark}
use Rattle.cas_pieces.specs.Pieces.{text, AreProper, mark_byte}
use Rattle.cas_pieces.specs.Words.{is_word}
use Rattle.cas_object_line.specs.declared.mnemonic.Mnemonic.{Mnemonic}
use Rattle.cas_object_line.specs.declared.operand.Operand.{Operand}
use Rattle.cas_object_line.specs.Codes.{code_line, instruction, instruction_line}
use Rattle.cas_object_line.specs.Instructions.{unary, binary}
use Rattle.cas_object_line.specs.Operands.{operand_of}
use Rattle.cas_object_line.specs.Tables.{mnemonic_of}
use Rattle.cas_object_laws.proofs.Proper.{Follows}

-- a piece that is no comma
abbrev pub is_no_comma : Piece → Bool
is_no_comma p = not (is_mark p Comma)

abbrev pub no_comma : List Piece → Bool
no_comma ps = list_all is_no_comma ps

abbrev is_comma : Piece → Bool
is_comma p = is_mark p Comma

no_comma_first : (p : Piece) (ps : List Piece) → no_comma (p ∷ ps) ≡ true → (is_comma p ≡ false) × (no_comma ps ≡ true)
no_comma_first p ps h = by_test (is_comma p) refl h
  where
    by_test : (t : Bool) → is_comma p ≡ t → (not t && no_comma ps) ≡ true → (is_comma p ≡ false) × (no_comma ps ≡ true)
    by_test true e h = absurd cc
    by_test false e h = (e, h)

one_more : (n : ℕ) → 1 + n ≡ suc n
one_more n = omega arith

before_comma : (xs ys : List Piece) → no_comma xs ≡ true → position_or_len is_comma (xs ++ Mark Comma ∷ ys) ≡ length xs
before_comma [] ys h = refl
before_comma (x ∷ xs) ys h =
    let parts = no_comma_first x xs h in
    rw (parts.0, before_comma xs ys parts.1) (one_more (length xs))

no_comma_length : (xs : List Piece) → no_comma xs ≡ true → position_or_len is_comma xs ≡ length xs
no_comma_length [] h = refl
no_comma_length (x ∷ xs) h =
    let parts = no_comma_first x xs h in
    rw (parts.0, no_comma_length xs parts.1) (one_more (length xs))

longer : (xs ys : List Piece) → nat_lt (length xs) (length (xs ++ Mark Comma ∷ ys)) ≡ true
longer [] ys = grind (arith, nat_tests)
longer (x ∷ xs) ys = step (length xs) (length (xs ++ Mark Comma ∷ ys)) (longer xs ys)
  where
    step : (m n : ℕ) → nat_lt m n ≡ true → nat_lt (suc m) (suc n) ≡ true
    step m n h = grind (arith, nat_tests)

same_length : (n : ℕ) → nat_lt n n ≡ false
same_length n = grind (arith, nat_tests)

comma_at : (xs ys : List Piece) → no_comma xs ≡ true → position is_comma (xs ++ Mark Comma ∷ ys) ≡ Some (length xs)
comma_at xs ys h = rw (before_comma xs ys h, longer xs ys) refl

comma_nowhere : (xs : List Piece) → no_comma xs ≡ true → position is_comma xs ≡ None
comma_nowhere xs h = rw (no_comma_length xs h, same_length (length xs)) refl

take-front : (xs ys : List Piece) → take (length xs) (xs ++ ys) ≡ xs
take-front [] ys = refl
take-front (x ∷ xs) ys = ap (λ (r : List Piece). x ∷ r) (take-front xs ys)

drop-front : (xs ys : List Piece) → drop (length xs) (xs ++ ys) ≡ ys
drop-front [] ys = refl
drop-front (x ∷ xs) ys = drop-front xs ys

abbrev pub one_pieces : List ℕ → List Piece → List Piece
one_pieces w xs = Word w ∷ Mark Space ∷ xs

abbrev pub two_pieces : List ℕ → List Piece → List Piece → List Piece
two_pieces w xs ys = Word w ∷ Mark Space ∷ (xs ++ Mark Comma ∷ Mark Space ∷ ys)

-- one operand is read
pub read_one : (m : Mnemonic) (w : List ℕ) (xs : List Piece) (a : Operand) → mnemonic_of w ≡ Some m →
    no_comma xs ≡ true → operand_of xs ≡ Some a → instruction (one_pieces w xs) ≡ unary m a
read_one m w xs a named free is = rw (named, comma_nowhere xs free, is) refl

-- two operands are read
pub read_two : (m : Mnemonic) (w : List ℕ) (xs ys : List Piece) (a b : Operand) → mnemonic_of w ≡ Some m →
    no_comma xs ≡ true → operand_of xs ≡ Some a → operand_of ys ≡ Some b →
    instruction (two_pieces w xs ys) ≡ binary m a b
read_two m w xs ys a b named free first second =
    rw (
      named,
      comma_at xs (Mark Space ∷ ys) free,
      take-front xs (Mark Comma ∷ Mark Space ∷ ys),
      drop-front xs
          (Mark Comma ∷ Mark Space ∷ ys),
      first,
      second,
    ) refl

-- such lines are no labels and no `end`
pub line_one : (w : List ℕ) (xs : List Piece) → code_line (one_pieces w xs) ≡ instruction_line (one_pieces w xs)
line_one w [] = refl
line_one w (x ∷ xs) = refl

pub line_two : (w : List ℕ) (xs ys : List Piece) → code_line (two_pieces w xs ys) ≡ instruction_line
    (two_pieces w xs ys)
line_two w [] ys = refl
line_two w (x ∷ xs) ys = refl

-- their text
text-append : (xs ys : List Piece) → text (xs ++ ys) ≡ text xs ++ text ys
text-append [] ys = refl
text-append (Word x ∷ xs) ys = ap (λ (r : List ℕ). x ++ r) (text-append xs ys)
    ∙ sym (append_assoc x (text xs) (text ys))
text-append (Mark m ∷ xs) ys = ap (λ (r : List ℕ). mark_byte m ∷ r) (text-append xs ys)

pub text-two : (w : List ℕ) (xs ys : List Piece) → text (two_pieces w xs ys) ≡ w ++
    (codes " " ++ (text xs ++ (codes ", " ++ text ys)))
text-two w xs ys = ap (λ (r : List ℕ). w ++ (32 ∷ r)) (text-append xs (Mark Comma ∷ Mark Space ∷ ys))

-- and that they are proper
proper-append : (xs ys : List Piece) → AreProper xs → Follows ys → AreProper (xs ++ ys)
proper-append [] ys h f = f.proper
proper-append (Word x ∷ []) ys h f = (h.0, f.apart, f.proper)
proper-append (Word x ∷ Word z ∷ xs) ys h f = absurd cc
proper-append (Word x ∷ Mark m ∷ xs) ys h f = (h.0, refl, proper-append (Mark m ∷ xs) ys h.2 f)
proper-append (Mark m ∷ xs) ys h f = (h.0, proper-append xs ys h.1 f)

pub proper-one : (w : List ℕ) (xs : List Piece) → is_word w ≡ true → AreProper xs → AreProper (one_pieces w xs)
proper-one w xs h p = (h, refl, ((refl, refl), p))

pub proper-two : (w : List ℕ) (xs ys : List Piece) → is_word w ≡ true → AreProper xs → AreProper ys →
    AreProper (two_pieces w xs ys)
proper-two w xs ys h p q = (
  h,
  refl,
  (
    (refl, refl),
    proper-append xs (Mark Comma ∷ Mark Space ∷ ys)
        p record { apart = refl; proper = ((refl, refl), ((refl, refl), q)) },
  ),
)
