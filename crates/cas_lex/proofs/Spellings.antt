-- The rows of the table of words.
use Rattle.std.proofs.Common.{◌≡◌, ◌↔◌, MatchOption, ℕ, zero, suc, ◌≤◌, List, [], ◌∷◌, ◌++◌, map, Bool, true, false, cond, ◌||◌, Option, None, Some, find, bytes_eq, nat_le, ◌&&◌, slice_get, length, refl, sym, ap, arith}
use Rattle.std.specs.List.{list_any, list_all}
use Rattle.std.proofs.lemmas.Bool.Decides.{nat_tests}
use Rattle.std.specs.Bool.{Decides}
use Rattle.std.proofs.lemmas.Slice.Eq.{bytes_eq-Decides}
use Rattle.cas_base.specs.Names.{IsRow, IsTable}
use Rattle.cas_base.proofs.NameTables.{IsDistinct-from_all_differ}
use Rattle.cas_lex.specs.declared.code.ReadCode.TheVariants.{R7}
use Rattle.cas_lex.specs.declared.token.TokenKind.TheVariants as kind
use Rattle.cas_lex.specs.declared.token.Word.{Word}
use Rattle.cas_lex.specs.declared.token.Word.TheVariants as w
use Rattle.cas_lex.specs.declared.front.Front.TheVariants.{Token, Fault}
use Rattle.cas_lex.specs.Front.{name_at, word_or_name}
use Rattle.cas_lex.specs.Spellings.{word_spelling, words, left_out_words, reserved}

-- the rows are distinct
pub reserved-table : IsTable 40 reserved
reserved-table = (refl, IsDistinct-from_all_differ reserved refl)

bytes_eq-false : (a b : List ℕ) → (b ≡ a → ⊥) → bytes_eq a b ≡ false
bytes_eq-false a b differ = step (bytes_eq a b) (bytes_eq-Decides a b)
  where
    step : (t : Bool) → Decides t (a ≡ b) → t ≡ false
    step true same = absurd (differ (sym (same.0 refl)))
    step false other = refl

-- a text that is no row passes no test of a row
no_row : (text : List ℕ) (rows : List (List ℕ)) → ((k : ℕ) → IsRow rows k text → ⊥) →
    list_any (λ row. bytes_eq row text) rows ≡ false
no_row text [] other = refl
no_row text (row ∷ rows) other =
    rw (bytes_eq-false row text (λ same. other 0 (ap Some (sym same))), no_row text rows (λ k is. other (suc k) is))
    refl

-- nor a test of some of them
no_part : (p : List ℕ → Bool) (xs ys : List (List ℕ)) → list_any p (xs ++ ys) ≡ false → (list_any p xs ≡ false)
    × (list_any p ys ≡ false)
no_part p [] ys h = (refl, h)
no_part p (x ∷ xs) ys h = step (p x) refl h (no_part p xs ys)
  where
    step : (t : Bool) → p x ≡ t → (t || list_any p (xs ++ ys)) ≡ false →
        (list_any p (xs ++ ys) ≡ false → (list_any p xs ≡ false) × (list_any p ys ≡ false)) →
        ((p x || list_any p xs) ≡ false) × (list_any p ys ≡ false)
    step true passes h rest = cc
    step false fails h rest = (rw fails (rest h).0, (rest h).1)

no_word : (text : List ℕ) (ws : List Word) → list_any (λ row. bytes_eq row text) (map word_spelling ws) ≡ false →
    find (λ w. bytes_eq (word_spelling w) text) ws ≡ None
no_word text [] h = refl
no_word text (w ∷ ws) h = step (bytes_eq (word_spelling w) text) h (no_word text ws)
  where
    step : (t : Bool) → (t || list_any (λ row. bytes_eq row text) (map word_spelling ws)) ≡ false →
        (list_any (λ row. bytes_eq row text) (map word_spelling ws) ≡ false →
        find (λ w. bytes_eq (word_spelling w) text) ws ≡ None) →
        cond t (Some w) (find (λ w. bytes_eq (word_spelling w) text) ws) ≡ None
    step true h rest = cc
    step false h rest = rest h

-- a text that is no row is a name, if it isn't too long
pub name_at-no_row : (text : List ℕ) → ((k : ℕ) → IsRow reserved k text → ⊥) → name_at text ≡ word_or_name None text
name_at-no_row text other =
    let parts = no_part (λ row. bytes_eq row text) (map word_spelling words) left_out_words (no_row text reserved other)
    in
    rw (parts.1, no_word text words parts.0) refl

-- a row of a word is its spelling
word_row : (ws : List Word) (rest : List (List ℕ)) (k : ℕ) (w : Word) → slice_get ws k ≡ Some w →
    slice_get (map word_spelling ws ++ rest) k ≡ Some (word_spelling w)
word_row [] rest k w h = cc
word_row (v ∷ ws) rest zero w h = let same : v ≡ w = cc in rw same refl
word_row (v ∷ ws) rest (suc k) w h = word_row ws rest k w h

any_row : (text : List ℕ) (rows : List (List ℕ)) (k : ℕ) → IsRow rows k text →
    list_any (λ row. bytes_eq row text) rows ≡ true
any_row text [] k h = cc
any_row text (row ∷ rows) zero h =
    let same : row ≡ text = cc in
    rw ((bytes_eq-Decides row text).1 same) refl
any_row text (row ∷ rows) (suc k) h = rw (any_row text rows k h) (or_true (bytes_eq row text))
  where
    or_true : (b : Bool) → (b || true) ≡ true
    or_true true = refl
    or_true false = refl

-- and a row past the words is one of the others
other_row : (text : List ℕ) (ws : List Word) (rest : List (List ℕ)) (k : ℕ) → slice_get ws k ≡ None →
    slice_get (map word_spelling ws ++ rest) k ≡ Some text → list_any (λ row. bytes_eq row text) rest ≡ true
other_row text [] rest k h is = any_row text rest k is
other_row text (v ∷ ws) rest zero h is = cc
other_row text (v ∷ ws) rest (suc k) h is = other_row text ws rest k h is

name_at-spelling : (w : Word) → name_at (word_spelling w) ≡ Token (kind.Word w) (length (word_spelling w))
name_at-spelling w.Void = refl
name_at-spelling w.Char = refl
name_at-spelling w.Short = refl
name_at-spelling w.Int = refl
name_at-spelling w.Unsigned = refl
name_at-spelling w.Signed = refl
name_at-spelling w.Const = refl
name_at-spelling w.Extern = refl
name_at-spelling w.If = refl
name_at-spelling w.Else = refl
name_at-spelling w.While = refl
name_at-spelling w.Do = refl
name_at-spelling w.For = refl
name_at-spelling w.Break = refl
name_at-spelling w.Continue = refl
name_at-spelling w.Return = refl
name_at-spelling w.Lock = refl
name_at-spelling w.Unlock = refl
name_at-spelling w.Shared = refl
name_at-spelling w.Holds = refl
name_at-spelling w.Print = refl

-- a row is a word
pub name_at-word : (text : List ℕ) (k : ℕ) (w : Word) → IsRow reserved k text → slice_get words k ≡ Some w →
    name_at text ≡ Token (kind.Word w) (length text)
name_at-word text k w is found =
    let h = word_row words left_out_words k w found in
    let same : text ≡ word_spelling w = cc in
    rw same (name_at-spelling w)

-- or left out
pub name_at-left_out : (text : List ℕ) (k : ℕ) → IsRow reserved k text → slice_get words k ≡ None →
    name_at text ≡ Fault R7
name_at-left_out text k is none = rw (other_row text words left_out_words k none is) refl

-- a number that is none of the first n is n or more
abbrev NoneBelow : ℕ → ℕ → Type 0
NoneBelow zero k = Unit {0}
NoneBelow (suc n) k = NoneBelow n k × (k ≡ n → ⊥)

le-NoneBelow : (n k : ℕ) → NoneBelow n k → n ≤ k
le-NoneBelow zero k none = omega arith
le-NoneBelow (suc n) k none = let most = le-NoneBelow n k none.0 in let other = none.1 in omega arith

past_end : (ws : List Word) (k : ℕ) → length ws ≤ k → slice_get ws k ≡ None
past_end [] k h = refl
past_end (w ∷ ws) zero h = absurd (omega arith)
past_end (w ∷ ws) (suc k) h = past_end ws k (omega arith)

-- and no word has it
pub no_word_at : (k : ℕ) → NoneBelow 21 k → slice_get words k ≡ None
no_word_at k none = past_end words k (le-NoneBelow 21 k none)

-- what a search of the table finds
pub found_row : (rows : List (List ℕ)) (text : List ℕ) (found : Option ℕ) → rows ≡ reserved →
    ((k : ℕ) → (found ≡ Some k) ↔ IsRow rows k text) →
    MatchOption found ((k : ℕ) → IsRow reserved k text → ⊥) (λ k. IsRow reserved k text)
found_row rows text None same found = λ k is. let h : None ≡ Some k = (found k).1 (rw same is) in cc
found_row rows text (Some k) same found = rw same at ((found k).0 refl)

-- a row passes what all rows pass
row_passes : (p : List ℕ → Bool) (rows : List (List ℕ)) (k : ℕ) (text : List ℕ) → list_all p rows ≡ true →
    IsRow rows k text → p text ≡ true
row_passes p [] k text all is = cc
row_passes p (row ∷ rows) k text all is = step (p row) refl all k is (row_passes p rows)
  where
    step : (t : Bool) → p row ≡ t → (t && list_all p rows) ≡ true → (k : ℕ) → IsRow (row ∷ rows) k text →
        ((k : ℕ) (text : List ℕ) → list_all p rows ≡ true → IsRow rows k text → p text ≡ true) → p text ≡ true
    step true passes all zero is rest = let same : row ≡ text = cc in rw (sym same) passes
    step true passes all (suc k) is rest = rest k text all is
    step false fails all k is rest = cc

-- each row has from 2 to 8 bytes
pub length-row : (k : ℕ) (text : List ℕ) → IsRow reserved k text → (2 ≤ length text) × (length text ≤ 8)
length-row k text is =
    let h : (nat_le 2 (length text) && nat_le (length text) 8) ≡ true =
    row_passes (λ row. nat_le 2 (length row) && nat_le (length row) 8) reserved k text refl is in
    (grind (arith, nat_tests), grind (arith, nat_tests))
