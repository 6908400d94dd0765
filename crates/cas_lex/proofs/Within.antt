-- What stands at the front of a text is within it, and isn't empty.
use Rattle.std.proofs.Common.{◌≡◌, ℕ, ◌+◌, ◌<◌, ◌≤◌, List, [], ◌∷◌, Bool, true, false, cond, not, nat_eq, if◌then◌else◌, ◌==◌, length, drop, take, take_while, find, codes, Option, None, Some, ◌≢◌, nat_lt, IfSome, ap, refl, arith, lit<, length-drop}
use Rattle.std.specs.List.{starts_with, prefix_len}
use Rattle.std.specs.Option.{option_map}
use Rattle.std.proofs.lemmas.Slice.Eq.{bytes_eq-Decides}
use Rattle.std.specs.Char.{is_ascii_digit, is_ascii_hexdigit}
use Rattle.std.proofs.lemmas.Grind.{common_steps}
use Rattle.std.proofs.lemmas.Bool.Decides.{nat_tests}
use Rattle.std.proofs.lemmas.List.Sums.{take_while-cons, prefix_len-le-length}
use Rattle.cas_base.specs.Name.{is_first_byte, is_name_byte}
use Rattle.cas_lex.specs.declared.code.ReadCode.TheVariants.{R4, R7}
use Rattle.cas_lex.specs.declared.token.TokenKind.TheVariants as kind
use Rattle.cas_lex.specs.declared.token.Word.{Word}
use Rattle.cas_lex.specs.declared.token.Sign.{Sign}
use Rattle.cas_lex.specs.declared.token.Sign.TheVariants as s
use Rattle.cas_lex.specs.declared.front.Front.{Front}
use Rattle.cas_lex.specs.declared.front.Front.TheVariants.{Blank, Token, Fault}
use Rattle.cas_lex.specs.Characters.{is_blank, is_character}
use Rattle.cas_lex.specs.Comments.{closing_len, block_comment_len, line_comment_len}
use Rattle.cas_lex.specs.Front.{block_comment, word_or_name, name_at, sign_front, mark_at, front_at, front}
use Rattle.cas_lex.specs.Literals.{begins_with_u, begins_with_letter, ended_literal, literal_before, is_hexadecimal, is_octal, literal_at}
use Rattle.cas_lex.specs.Spellings.{word_of, is_left_out, sign_spelling, signs, sign_at}

-- a front of some of the first n bytes
abbrev pub IsWithin : Front → ℕ → Type 0
IsWithin (Blank m) n = (0 < m) × (m ≤ n)
IsWithin (Token kind m) n = (0 < m) × (m ≤ n)
IsWithin (Fault code) n = Unit {0}

-- by cases on a test
choose : (t : Bool) (x y : Front) (n : ℕ) → (t ≡ true → IsWithin x n) → (t ≡ false → IsWithin y n) →
    IsWithin (if t then x else y) n
choose true x y n passes fails = passes refl
choose false x y n passes fails = fails refl

find-passes : {X : Type 0} (p : X → Bool) (xs : List X) (x : X) → find p xs ≡ Some x → p x ≡ true
find-passes p [] x h = cc
find-passes p (y ∷ ys) x h = step (p y) refl h (find-passes p ys x)
  where
    step : (t : Bool) → p y ≡ t → cond t (Some y) (find p ys) ≡ Some x → (find p ys ≡ Some x → p x ≡ true) → p x ≡ true
    step true passes is rest = cc
    step false fails is rest = rest is

length-take-le : (m : ℕ) (xs : List ℕ) → length (take m xs) ≤ length xs
length-take-le m xs = grind (arith, common_steps)

-- what begins a text is its first bytes
starts_with-is : (needle text : List ℕ) → starts_with nat_eq text needle ≡ true → needle ≡ take (length needle) text
starts_with-is needle text h = (bytes_eq-Decides needle (take (length needle) text)).0 h

-- so a text is no shorter
length-starts_with : (needle text : List ℕ) → starts_with nat_eq text needle ≡ true → length needle ≤ length text
length-starts_with needle text h =
    omega (arith, ap length (starts_with-is needle text h), length-take-le (length needle) text)

-- names
name-within : (text : List ℕ) (n : ℕ) → 0 < length text → length text ≤ n → IsWithin (name_at text) n
name-within text n some le = choose (is_left_out text) (Fault R7) (word_or_name (word_of text) text) n (λ _. tt)
    (λ _. either (word_of text))
  where
    either : (w : Option Word) → IsWithin (word_or_name w text) n
    either (Some w) = (some, le)
    either None = choose (nat_lt 63 (length text)) (Fault R4) (Token (kind.Name text) (length text)) n (λ _. tt)
        (λ _. (some, le))

take_while-nonempty : (p : ℕ → Bool) (b : ℕ) (bs : List ℕ) → p b ≡ true → 0 < length (take_while p (b ∷ bs))
take_while-nonempty p b bs h = rw (take_while-cons p b bs, h) (omega arith)

length-take_while-le : (p : ℕ → Bool) (xs : List ℕ) → length (take_while p xs) ≤ length xs
length-take_while-le p xs = length-take-le (prefix_len p xs) xs

-- literals
begins_with_u-some : (after : List ℕ) → begins_with_u after ≡ true → 1 ≤ length after
begins_with_u-some [] h = cc
begins_with_u-some (b ∷ bs) h = omega arith

ended-within : (value : ℕ) (has_u : Bool) (m : ℕ) (after : List ℕ) (n : ℕ) → 0 < m → m ≤ n →
    IsWithin (ended_literal value has_u m after) n
ended-within value has_u m after n some le = choose (begins_with_letter after) _ _ n (λ _. tt) (λ _. (some, le))

literal_before-within : (value m : ℕ) (after : List ℕ) (n : ℕ) → 0 < m → m + length after ≤ n →
    IsWithin (literal_before value m after) n
literal_before-within value m after n some le =
    choose (nat_lt 4294967295 value) _ _ n (λ _. tt) (λ _.
    choose (begins_with_u after) _ _ n
    (λ h. let one = begins_with_u-some after h in ended-within value true (m + 1) (drop 1 after) n (omega arith)
    (omega arith))
    (λ _. ended-within value false m after n some (omega arith)))

-- the front of a list and what follows it are the list
length-parts : (p : ℕ → Bool) (xs : List ℕ) → length (take_while p xs) + length (drop (length (take_while p xs)) xs)
    ≡ length xs
length-parts p xs = let le = length-take_while-le p xs in simp length-drop (omega arith)

is_hexadecimal-some : (text : List ℕ) → is_hexadecimal text ≡ true → 2 ≤ length text
is_hexadecimal-some [] h = cc
is_hexadecimal-some (z ∷ []) h = cc
is_hexadecimal-some (z ∷ x ∷ []) h = cc
is_hexadecimal-some (z ∷ x ∷ d ∷ rest) h = omega arith

literal-within : (b : ℕ) (bs : List ℕ) → is_ascii_digit b ≡ true → IsWithin (literal_at (b ∷ bs)) (length (b ∷ bs))
literal-within b bs digit =
    choose (is_hexadecimal (b ∷ bs)) _ _ (length (b ∷ bs))
    (λ h. literal_before-within _ _ _ _ (omega arith) (hexadecimal (b ∷ bs) (is_hexadecimal-some (b ∷ bs) h)))
    (λ _. choose (is_octal (take_while is_ascii_digit (b ∷ bs))) _ _ (length (b ∷ bs)) (λ _. tt)
    (λ _. literal_before-within _ _ _ _ (take_while-nonempty is_ascii_digit b bs digit) (decimal (b ∷ bs))))
  where
    hexadecimal : (text : List ℕ) → 2 ≤ length text → (2 + length (take_while is_ascii_hexdigit (drop 2 text))) + length
        (drop (length (take_while is_ascii_hexdigit (drop 2 text))) (drop 2 text)) ≤ length text
    hexadecimal text two = omega (arith, length-parts is_ascii_hexdigit (drop 2 text), length-drop 2 text)

    decimal : (text : List ℕ) → length (take_while is_ascii_digit text) + length
        (drop (length (take_while is_ascii_digit text)) text) ≤ length text
    decimal text = omega (arith, length-parts is_ascii_digit text)

-- comments
closing_len-le : (text : List ℕ) → IfSome (closing_len text) (λ n. n ≤ length text)
closing_len-le [] = tt
closing_len-le (b ∷ bs) = step (starts_with nat_eq (b ∷ bs) (codes "*/")) refl (closing_len bs) (closing_len-le bs)
  where
    step : (t : Bool) → starts_with nat_eq (b ∷ bs) (codes "*/") ≡ t → (found : Option ℕ) →
        IfSome found (λ n. n ≤ length bs) → IfSome (if t then Some 2 else option_map (λ n. n + 1) found)
        (λ n. n ≤ length (b ∷ bs))
    step true h found rest = length-starts_with (codes "*/") (b ∷ bs) h
    step false h None rest = tt
    step false h (Some n) rest = omega arith

block-within : (text : List ℕ) → 2 ≤ length text → IsWithin (block_comment (block_comment_len text)) (length text)
block-within text two = step (closing_len (drop 2 text)) (closing_len-le (drop 2 text))
  where
    step : (found : Option ℕ) → IfSome found (λ n. n ≤ length (drop 2 text)) →
        IsWithin (block_comment (option_map (λ n. n + 2) found)) (length text)
    step None h = tt
    step (Some n) h = (omega arith, omega (arith, length-drop 2 text))

line-within : (b : ℕ) (bs : List ℕ) → starts_with nat_eq (b ∷ bs) (codes "//") ≡ true →
    IsWithin (Blank (line_comment_len (b ∷ bs))) (length (b ∷ bs))
line-within b bs h = (
  positive (let is = starts_with-is (codes "//") (b ∷ bs) h in cc),
  prefix_len-le-length (λ b. not (b == 10))
      (b ∷ bs),
)
  where
    positive : b ≡ 47 → 0 < line_comment_len (b ∷ bs)
    positive is = rw is (omega arith)

-- signs
sign_spelling-some : (s : Sign) → 0 < length (sign_spelling s)
sign_spelling-some s.ShiftLeftEqual = lit< tt
sign_spelling-some s.ShiftRightEqual = lit< tt
sign_spelling-some s.ShiftLeft = lit< tt
sign_spelling-some s.ShiftRight = lit< tt
sign_spelling-some s.AndAnd = lit< tt
sign_spelling-some s.OrOr = lit< tt
sign_spelling-some s.EqualEqual = lit< tt
sign_spelling-some s.NotEqual = lit< tt
sign_spelling-some s.LessEqual = lit< tt
sign_spelling-some s.GreaterEqual = lit< tt
sign_spelling-some s.PlusEqual = lit< tt
sign_spelling-some s.MinusEqual = lit< tt
sign_spelling-some s.StarEqual = lit< tt
sign_spelling-some s.SlashEqual = lit< tt
sign_spelling-some s.PercentEqual = lit< tt
sign_spelling-some s.AndEqual = lit< tt
sign_spelling-some s.OrEqual = lit< tt
sign_spelling-some s.CaretEqual = lit< tt
sign_spelling-some s.PlusPlus = lit< tt
sign_spelling-some s.MinusMinus = lit< tt
sign_spelling-some s.Plus = lit< tt
sign_spelling-some s.Minus = lit< tt
sign_spelling-some s.Star = lit< tt
sign_spelling-some s.Slash = lit< tt
sign_spelling-some s.Percent = lit< tt
sign_spelling-some s.And = lit< tt
sign_spelling-some s.Or = lit< tt
sign_spelling-some s.Caret = lit< tt
sign_spelling-some s.Tilde = lit< tt
sign_spelling-some s.Not = lit< tt
sign_spelling-some s.Less = lit< tt
sign_spelling-some s.Greater = lit< tt
sign_spelling-some s.Equal = lit< tt
sign_spelling-some s.Question = lit< tt
sign_spelling-some s.Colon = lit< tt
sign_spelling-some s.Semicolon = lit< tt
sign_spelling-some s.Comma = lit< tt
sign_spelling-some s.OpenParen = lit< tt
sign_spelling-some s.CloseParen = lit< tt
sign_spelling-some s.OpenBracket = lit< tt
sign_spelling-some s.CloseBracket = lit< tt
sign_spelling-some s.OpenBrace = lit< tt
sign_spelling-some s.CloseBrace = lit< tt

pub sign_at-begins : (text : List ℕ) (s : Sign) → sign_at text ≡ Some s →
    starts_with nat_eq text (sign_spelling s) ≡ true
sign_at-begins text s h = find-passes (λ s. starts_with nat_eq text (sign_spelling s)) signs s h

sign-within : (text : List ℕ) → IsWithin (sign_front (sign_at text)) (length text)
sign-within text = step (sign_at text) refl
  where
    step : (found : Option Sign) → sign_at text ≡ found → IsWithin (sign_front found) (length text)
    step None h = tt
    step (Some s) h = (sign_spelling-some s, length-starts_with (sign_spelling s) text (sign_at-begins text s h))

mark-within : (b : ℕ) (bs : List ℕ) → IsWithin (mark_at b (b ∷ bs)) (length (b ∷ bs))
unfolding mark_at
mark-within b bs =
    choose (is_blank b) _ _ _ (λ _. (omega arith, omega arith)) (λ _.
    choose (not (is_character b)) _ _ _ (λ _. tt) (λ _.
    choose (starts_with nat_eq (b ∷ bs) (codes "//")) _ _ _ (line-within b bs) (λ _.
    choose (starts_with nat_eq (b ∷ bs) (codes "/*")) _ _ _
    (λ h. block-within (b ∷ bs) (length-starts_with (codes "/*") (b ∷ bs) h)) (λ _.
    choose (starts_with nat_eq (b ∷ bs) (codes "->")) _ _ _ (λ _. tt) (λ _. sign-within (b ∷ bs))))))

front_at-within : (b : ℕ) (bs : List ℕ) → IsWithin (front (b ∷ bs)) (length (b ∷ bs))
unfolding front_at
front_at-within b bs =
    choose (is_first_byte b) _ _ _ (λ h. name-within (take_while is_name_byte (b ∷ bs)) _ (name-some h)
    (length-take_while-le is_name_byte (b ∷ bs))) (λ _.
    choose (is_ascii_digit b) _ _ _ (literal-within b bs) (λ _. mark-within b bs))
  where
    first_is_name_byte : (c : ℕ) → is_first_byte c ≡ true → is_name_byte c ≡ true
    first_is_name_byte c h = grind (arith, nat_tests)

    name-some : is_first_byte b ≡ true → 0 < length (take_while is_name_byte (b ∷ bs))
    name-some h = take_while-nonempty is_name_byte b bs (first_is_name_byte b h)

-- what stands at the front of a text that isn't empty
pub front-within : (text : List ℕ) → text ≢ [] → IsWithin (front text) (length text)
front-within [] some = absurd (some refl)
front-within (b ∷ bs) some = front_at-within b bs
