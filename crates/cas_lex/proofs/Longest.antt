-- The sign that is read is the longest that begins a text.
use Rattle.std.proofs.Common.{◌≡◌, ℕ, zero, suc, ◌≤◌, List, [], ◌∷◌, Bool, true, false, cond, ◌&&◌, nat_eq, nat_le, length, None, Some, find, slice_get, refl, sym, arith}
use Rattle.std.specs.List.{starts_with, list_all}
use Rattle.std.proofs.lemmas.Bool.Decides.{nat_tests}
use Rattle.cas_lex.specs.declared.token.Sign.{Sign}
use Rattle.cas_lex.specs.declared.token.Sign.TheVariants as s
use Rattle.cas_lex.specs.Spellings.{sign_spelling, signs, sign_at}

both : (a b : Bool) → (a && b) ≡ true → (a ≡ true) × (b ≡ true)
both true b h = (refl, h)
both false b h = cc

-- an element passes what all pass
passes_at : {X : Type 0} (p : X → Bool) (xs : List X) (k : ℕ) (x : X) → list_all p xs ≡ true → slice_get xs k ≡ Some x →
    p x ≡ true
passes_at p [] k x all is = cc
passes_at p (y ∷ ys) zero x all is = let same : y ≡ x = cc in rw (sym same) (both _ _ all).0
passes_at p (y ∷ ys) (suc k) x all is = passes_at p ys k x (both _ _ all).1 is

-- no later sign is longer
abbrev is_falling : List Sign → Bool
is_falling [] = true
is_falling (s ∷ rest) = list_all (λ t. nat_le (length (sign_spelling t)) (length (sign_spelling s)))
    rest && is_falling rest

first_is_longest : (p : Sign → Bool) (all : List Sign) (k : ℕ) (s t : Sign) → is_falling all ≡ true →
    find p all ≡ Some s → slice_get all k ≡ Some t → p t ≡ true → length (sign_spelling t) ≤ length (sign_spelling s)
first_is_longest p [] k s t falling found is passes = cc
first_is_longest p (x ∷ rest) k s t falling found is passes =
    step (p x) refl found k is (λ j. first_is_longest p rest j s t (both _ _ falling).1)
  where
    step : (b : Bool) → p x ≡ b → cond b (Some x) (find p rest) ≡ Some s → (k : ℕ) → slice_get (x ∷ rest) k ≡ Some t →
        ((j : ℕ) → find p rest ≡ Some s → slice_get rest j ≡ Some t → p t ≡ true →
        length (sign_spelling t) ≤ length (sign_spelling s)) → length (sign_spelling t) ≤ length (sign_spelling s)
    step true now found zero is later =
        let one : x ≡ s = cc in
        let other : x ≡ t = cc in
        let same : t ≡ s = cc in
        rw same (omega arith)
    step true now found (suc j) is later =
        let one : x ≡ s = cc in
        let le = passes_at (λ t. nat_le (length (sign_spelling t)) (length (sign_spelling x))) rest j t
        (both _ _ falling).0 is in
        rw (sym one) (grind (arith, nat_tests))
    step false not_now found zero is later = let same : x ≡ t = cc in cc
    step false not_now found (suc j) is later = later j found is passes

place_of : (t : Sign) → (k : ℕ) × (slice_get signs k ≡ Some t)
place_of s.ShiftLeftEqual = (0, refl)
place_of s.ShiftRightEqual = (1, refl)
place_of s.PlusPlus = (2, refl)
place_of s.MinusMinus = (3, refl)
place_of s.AndAnd = (4, refl)
place_of s.OrOr = (5, refl)
place_of s.ShiftLeft = (6, refl)
place_of s.ShiftRight = (7, refl)
place_of s.EqualEqual = (8, refl)
place_of s.NotEqual = (9, refl)
place_of s.LessEqual = (10, refl)
place_of s.GreaterEqual = (11, refl)
place_of s.PlusEqual = (12, refl)
place_of s.MinusEqual = (13, refl)
place_of s.StarEqual = (14, refl)
place_of s.SlashEqual = (15, refl)
place_of s.PercentEqual = (16, refl)
place_of s.AndEqual = (17, refl)
place_of s.OrEqual = (18, refl)
place_of s.CaretEqual = (19, refl)
place_of s.Plus = (20, refl)
place_of s.Minus = (21, refl)
place_of s.Star = (22, refl)
place_of s.Slash = (23, refl)
place_of s.Percent = (24, refl)
place_of s.And = (25, refl)
place_of s.Or = (26, refl)
place_of s.Caret = (27, refl)
place_of s.Tilde = (28, refl)
place_of s.Not = (29, refl)
place_of s.Less = (30, refl)
place_of s.Greater = (31, refl)
place_of s.Equal = (32, refl)
place_of s.Question = (33, refl)
place_of s.Colon = (34, refl)
place_of s.Semicolon = (35, refl)
place_of s.Comma = (36, refl)
place_of s.OpenParen = (37, refl)
place_of s.CloseParen = (38, refl)
place_of s.OpenBracket = (39, refl)
place_of s.CloseBracket = (40, refl)
place_of s.OpenBrace = (41, refl)
place_of s.CloseBrace = (42, refl)

-- what is read is no shorter than any sign that begins the text
pub sign_at-longest : (text : List ℕ) (s t : Sign) → sign_at text ≡ Some s →
    starts_with nat_eq text (sign_spelling t) ≡ true → length (sign_spelling t) ≤ length (sign_spelling s)
sign_at-longest text s t found begins =
    let place = place_of t in
    first_is_longest (λ s. starts_with nat_eq text (sign_spelling s)) signs place.0 s t refl found place.1 begins

find_none : (p : Sign → Bool) (all : List Sign) (k : ℕ) (t : Sign) → find p all ≡ None → slice_get all k ≡ Some t →
    p t ≡ true → ⊥
find_none p [] k t none is passes = cc
find_none p (x ∷ rest) k t none is passes = step (p x) refl none k is (λ j. find_none p rest j t)
  where
    step : (b : Bool) → p x ≡ b → cond b (Some x) (find p rest) ≡ None → (k : ℕ) → slice_get (x ∷ rest) k ≡ Some t →
        ((j : ℕ) → find p rest ≡ None → slice_get rest j ≡ Some t → p t ≡ true → ⊥) → ⊥
    step true now none k is later = cc
    step false not_now none zero is later = let same : x ≡ t = cc in cc
    step false not_now none (suc j) is later = later j none is passes

-- where none is read, none begins the text
pub sign_at-none : (text : List ℕ) (t : Sign) → sign_at text ≡ None → starts_with nat_eq text (sign_spelling t) ≡ true →
    ⊥
sign_at-none text t none begins =
    let place = place_of t in
    find_none (λ s. starts_with nat_eq text (sign_spelling s)) signs place.0 t none place.1 begins
