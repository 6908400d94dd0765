-- The rows of a table: a text that is cut at a space gives texts, as no character but the space has its byte.
use Rattle.std.proofs.Common.{◌≡◌, ℕ, zero, suc, ◌<◌, ◌∙◌, refl, sym, subst, ap, arith, List, [], ◌∷◌, length, ◌==◌, nat_lt}
use Rattle.std.proofs.Common.{Some, Bool, true, false}
use Rattle.std.specs.List.{position_or_len, before_first, after_first, All}
use Rattle.std.specs.Prelude.{slice_get, get_or}
use Rattle.std.specs.Str.{IsUtf8}
use Rattle.std.specs.Result.{MatchResult, result_ok}
use Rattle.std.specs.Option.{option_map}
use Rattle.std.proofs.Common.{Result, Ok, Err, Bor}
use Rattle.std.proofs.lemmas.List.Splits.{slice_split_first, slice_split_none}
use Rattle.std.proofs.lemmas.List.Sums.{fails_before_first, passes_at_first}
use Rattle.std.proofs.lemmas.Str.{IsUtf8-take, IsUtf8-drop, IsCharBoundary-before_ascii, IsCharBoundary-after_ascii}
use Rattle.cas_base.specs.Names.{rows_of, IsRow}

abbrev is_space : ℕ → Bool
is_space b = b == 32

-- where the first row ends
abbrev row_end : List ℕ → ℕ
row_end text = position_or_len is_space text

space_is_ascii : (text : List ℕ) → row_end text < length text → get_or text (row_end text) 0 < 128
space_is_ascii text l =
    let e : (get_or text (row_end text) 0 == 32) ≡ true = passes_at_first is_space text 0 l in
    grind (arith, e)

first_is_text : (text : List ℕ) → IsUtf8 text → row_end text < length text → IsUtf8 (before_first is_space text)
first_is_text text u l =
    IsUtf8-take text (row_end text) u (IsCharBoundary-before_ascii text (row_end text) l (space_is_ascii text l))

rest_is_text : (text : List ℕ) → IsUtf8 text → row_end text < length text → IsUtf8 (after_first is_space text)
rest_is_text text u l =
    IsUtf8-drop text _ u (IsCharBoundary-after_ascii text (row_end text) u l (space_is_ascii text l))

-- where a text has no space, it is its one row
no_space : (text : List ℕ) → nat_lt (row_end text) (length text) ≡ false → All (λ b. is_space b ≡ false) text
no_space text e = λ k d l. fails_before_first is_space text k d (grind (arith, e, l))

row_cases : (k : ℕ) (text row : List ℕ) (b : Bool) → nat_lt (row_end text) (length text) ≡ b → IsUtf8 text →
    IsRow (rows_of text) k row → IsUtf8 row
row_cases k text row false e u r =
    let one : rows_of text ≡ text ∷ [] = slice_split_none is_space text (no_space text e) in
    only_row k (ap (λ rows. slice_get rows k) (sym one) ∙ r)
  where
    only_row : (k : ℕ) → slice_get (text ∷ []) k ≡ Some row → IsUtf8 row
    only_row zero q = let same : text ≡ row = cc in subst IsUtf8 same u
    only_row (suc k) q = cc
row_cases zero text row true e u r =
    let l : row_end text < length text = grind (arith, e) in
    let cut : rows_of text ≡ before_first is_space text ∷ rows_of (after_first is_space text) =
    slice_split_first is_space text 0 l in
    let same : before_first is_space text ≡ row = cc in
    subst IsUtf8 same (first_is_text text u l)
row_cases (suc k) text row true e u r =
    let l : row_end text < length text = grind (arith, e) in
    let cut : rows_of text ≡ before_first is_space text ∷ rows_of (after_first is_space text) =
    slice_split_first is_space text 0 l in
    row_cases k (after_first is_space text) row _ refl (rest_is_text text u l)
    (ap (λ rows. slice_get rows (suc k)) (sym cut) ∙ r)

-- a row of a text is a text
pub row_is_text : (k : ℕ) (text row : List ℕ) → IsUtf8 text → IsRow (rows_of text) k row → IsUtf8 row
row_is_text k text row u r = row_cases k text row _ refl u r

-- what the test of a row answers is the row
pub checked_row : {E : Type 0} (P : E → Type 0) (k : ℕ) (text row : List ℕ) (r : Result (Bor (List ℕ)) E) →
    IsUtf8 text → IsRow (rows_of text) k row →
    MatchResult r (λ s. (s.now ≡ row) × IsUtf8 row) (λ e. ¬ (IsUtf8 row) × P e) →
    option_map (λ s. s.now) (result_ok r) ≡ slice_get (rows_of text) k
checked_row P k text row (Ok s) u r m = ap Some m.0 ∙ sym r
checked_row P k text row (Err e) u r m = absurd (m.0 (row_is_text k text row u r))
