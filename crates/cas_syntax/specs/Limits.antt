-- The limits of module texts, and the forms that are left out by name, as derivations ask of them.
use Rattle.std.specs.Prelude.{◌≡◌, ◌≤◌, ◌<◌, ◌⊎◌, ℕ, ◌+◌, max, List, length, Option, Some}
use Rattle.cas_lex.specs.declared.token.Token.{Token}

-- The limits are asked only of tokens behind which `cut` tokens or more stand, so that a text which only begins within
-- the limits has a derivation too. A form that is left out by name stands nowhere, but where its token has exactly
-- `left_out` tokens behind it.
pub record Limits : Type 0 where
  pub depth : ℕ
  pub tokens : ℕ
  pub cut : ℕ
  pub left_out : Option ℕ

-- a statement that begins here may stand in so many others
abbrev pub AllowsDepth : Limits → (around : ℕ) → (here : List Token) → Type 0
AllowsDepth limits around here = (around < limits.depth) ⊎ (length here ≤ limits.cut)

-- an outermost expression may go from the first list on to the second
abbrev pub AllowsTokens : Limits → (here behind : List Token) → Type 0
AllowsTokens limits here behind = length here ≤ limits.tokens + max (length behind) limits.cut

-- a form that is left out may stand here, where its token has these behind it
abbrev pub IsLeftOut : Limits → (behind : List Token) → Type 0
IsLeftOut limits behind = limits.left_out ≡ Some (length behind)
