-- The definitions, computed on texts.
use Rattle.std.proofs.Common.{ℕ, List, ◌≡◌, [], ◌∷◌, codes, refl, zero, suc, ◌++◌, Bool, true, false, filter, drop, nat_lt, not, ◌&&◌, ◌||◌, ◌==◌}
use Rattle.std.specs.List.{list_all}
use Rattle.cas_lex.specs.declared.front.Front.{Front}
use Rattle.cas_base.specs.declared.kind.Kind.TheVariants.{I32, U32}
use Rattle.cas_lex.specs.declared.code.ReadCode.TheVariants.{R1, R2, R3, R7}
use Rattle.cas_lex.specs.declared.token.TokenKind.TheVariants as kind
use Rattle.cas_lex.specs.declared.token.Word.TheVariants as w
use Rattle.cas_lex.specs.declared.token.Sign.TheVariants as s
use Rattle.cas_lex.specs.declared.front.Front.TheVariants.{Blank, Token, Fault}
use Rattle.cas_lex.specs.Front.{front, front_at, mark_at}

octal : front (codes "010; }") ≡ Fault R7
unfolding front_at mark_at
octal = refl

too_large : front (codes "4294967296a") ≡ Fault R3
unfolding front_at mark_at
too_large = refl

largest : front (codes "4294967295;") ≡ Token (kind.Literal 4294967295 U32) 10
unfolding front_at mark_at
largest = refl

signed : front (codes "0x7fffffff;") ≡ Token (kind.Literal 2147483647 I32) 10
unfolding front_at mark_at
signed = refl

two_tokens : front (codes "12u3") ≡ Token (kind.Literal 12 U32) 3
unfolding front_at mark_at
two_tokens = refl

no_digits : front (codes "0x;") ≡ Fault R7
unfolding front_at mark_at
no_digits = refl

open_comment : front (codes "/*/ x") ≡ Fault R2
unfolding front_at mark_at
open_comment = refl

comment : front (codes "/**/*/") ≡ Blank 4
unfolding front_at mark_at
comment = refl

shift : front (codes "<<=<") ≡ Token (kind.Sign s.ShiftLeftEqual) 3
unfolding front_at mark_at
shift = refl

less : front (codes "<") ≡ Token (kind.Sign s.Less) 1
unfolding front_at mark_at
less = refl

arrow : front (codes "->") ≡ Fault R7
unfolding front_at mark_at
arrow = refl

decrement : front (codes "-->") ≡ Token (kind.Sign s.MinusMinus) 2
unfolding front_at mark_at
decrement = refl

word : front (codes "print(") ≡ Token (kind.Word w.Print) 5
unfolding front_at mark_at
word = refl

longer : front (codes "printf(") ≡ Token (kind.Name (codes "printf")) 6
unfolding front_at mark_at
longer = refl

left_out : front (codes "trylock(") ≡ Fault R7
unfolding front_at mark_at
left_out = refl

quote : front (39 ∷ []) ≡ Fault R7
unfolding front_at mark_at
quote = refl

dollar : front (codes "$") ≡ Fault R1
unfolding front_at mark_at
dollar = refl

-- the numbers below n
abbrev below : ℕ → List ℕ
below zero = []
below (suc n) = below n ++ n ∷ []

abbrev is_R1 : Front → Bool
is_R1 (Fault R1) = true
is_R1 found = false

abbrev is_R7 : Front → Bool
is_R7 (Fault R7) = true
is_R7 found = false

-- the bytes that stand in no module outside comments: controls, `$`, `@`, `\`, a backquote, and all that aren't ASCII
refused_bytes : filter (λ b. is_R1 (front (b ∷ []))) (drop 10 (below 127)) ≡ filter
    (λ b. nat_lt b 32 && not (b == 10 || b == 13)) (drop 10 (below 32)) ++ (36 ∷ 64 ∷ 92 ∷ 96 ∷ [])
unfolding front_at mark_at
refused_bytes = refl

refused_outside : list_all (λ b. is_R1 (front (b ∷ []))) (below 9 ++ drop 127 (below 256)) ≡ true
unfolding front_at mark_at
refused_outside = refl

-- the bytes that begin only what is left out: `"`, `#`, `'` and `.`
left_out_bytes : filter (λ b. is_R7 (front (b ∷ []))) (below 256) ≡ 34 ∷ 35 ∷ 39 ∷ 46 ∷ []
unfolding front_at mark_at
left_out_bytes = refl
