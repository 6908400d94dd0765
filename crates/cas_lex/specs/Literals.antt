-- Literals: decimal digits that don't begin with 0, `0`, or `0x` with hexadecimal digits, each with an optional `u`.
use Rattle.std.specs.Prelude.{ℕ, ◌+◌, Bool, true, false, ◌&&◌, ◌||◌, ◌==◌, nat_lt, if◌then◌else◌, List, [], ◌∷◌, length, drop, take_while, Option, Some, None}
use Rattle.std.specs.Char.{is_ascii_digit, is_ascii_hexdigit}
use Rattle.std.specs.Str.Parse.{digits_value}
use Rattle.cas_base.specs.Name.{is_first_byte}
use Rattle.cas_base.specs.declared.kind.Kind.{Kind}
use Rattle.cas_base.specs.declared.kind.Kind.TheVariants.{I32, U32}
use Rattle.cas_lex.specs.declared.code.ReadCode.TheVariants.{R3, R7}
use Rattle.cas_lex.specs.declared.token.TokenKind.TheVariants.{Literal}
use Rattle.cas_lex.specs.declared.front.Front.{Front}
use Rattle.cas_lex.specs.declared.front.Front.TheVariants.{Token, Fault}

-- the kind of a literal with this value, with a `u` or without
abbrev pub literal_kind : Bool → ℕ → Kind
literal_kind has_u value = if has_u || nat_lt 2147483647 value then U32 else I32

-- whether a text begins with `u` or `U`
abbrev pub begins_with_u : List ℕ → Bool
begins_with_u [] = false
begins_with_u (b ∷ bs) = b == 117 || b == 85

-- whether a text begins with a letter or `_`
abbrev pub begins_with_letter : List ℕ → Bool
begins_with_letter [] = false
begins_with_letter (b ∷ bs) = is_first_byte b

-- a literal of this value, with a `u` or without, of n bytes in all, and what follows it
abbrev pub ended_literal : ℕ → Bool → ℕ → List ℕ → Front
ended_literal value has_u n after =
    if begins_with_letter after then Fault R7 else Token (Literal value (literal_kind has_u value)) n

-- a value of 32 bits, or none where it is greater
abbrev pub small : ℕ → Option ℕ
small value = if nat_lt 4294967295 value then None else Some value

-- a literal of this value, of n bytes before its suffix, and what follows these
abbrev pub literal_before : ℕ → ℕ → List ℕ → Front
literal_before value n after =
    if nat_lt 4294967295 value then Fault R3
    else (if begins_with_u after then ended_literal value true (n + 1) (drop 1 after)
    else ended_literal value false n after)

-- whether a text begins with `0x` or `0X` and a hexadecimal digit
abbrev pub is_hexadecimal : List ℕ → Bool
is_hexadecimal (z ∷ x ∷ d ∷ rest) = z == 48 && (x == 120 || x == 88) && is_ascii_hexdigit d
is_hexadecimal text = false

-- whether digits begin with 0 and a further digit
abbrev pub is_octal : List ℕ → Bool
is_octal (z ∷ d ∷ rest) = z == 48
is_octal digits = false

-- what begins a text that begins with a digit
abbrev pub literal_at : List ℕ → Front
literal_at text =
    if is_hexadecimal text then
    (let rest = drop 2 text in
    let digits = take_while is_ascii_hexdigit rest in
    literal_before (digits_value 16 digits) (2 + length digits) (drop (length digits) rest))
    else
    (let digits = take_while is_ascii_digit text in
    if is_octal digits then Fault R7
    else literal_before (digits_value 10 digits) (length digits) (drop (length digits) text))
