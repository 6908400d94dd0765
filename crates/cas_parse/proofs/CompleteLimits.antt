-- What the limits of a derivation say of a single token.
use Rattle.std.proofs.Common.{◌≡◌, ℕ, ◌+◌, ◌≤◌, ◌||◌, max, true, nat_lt, List, ◌∷◌, length, arith, inl, inr}
use Rattle.std.proofs.lemmas.Bool.Decides.{nat_tests}
use Rattle.cas_lex.specs.declared.token.Token.{Token}
use Rattle.cas_syntax.specs.Limits.{Limits, AllowsDepth, IsLeftOut}
use Rattle.cas_parse.specs.Machine.{is_at}

module _ (limits : Limits) where
  -- a token of an outermost expression, whose tokens and all behind them are `whole`, and those behind it `behind`
  pub counts : (used whole behind : ℕ) (ts : List Token) → used + (1 + length ts) ≡ whole →
      whole ≤ limits.tokens + max behind limits.cut → behind ≤ length ts
      → (nat_lt used limits.tokens || nat_lt (length ts) limits.cut) ≡ true
  counts used whole behind ts count room inside = grind (arith, nat_tests)

  -- a statement that begins with this token
  pub allows : (around : ℕ) (t : Token) (ts : List Token) → AllowsDepth limits around (t ∷ ts) →
      (nat_lt around limits.depth || nat_lt (length ts) limits.cut) ≡ true
  allows around t ts (inl h) = grind (arith, nat_tests)
  allows around t ts (inr h) = grind (arith, nat_tests)

  -- a form that is left out
  pub leaves : (ts : List Token) → IsLeftOut limits ts → is_at limits.left_out (length ts) ≡ true
  leaves ts h = rw h (grind (arith, nat_tests))
