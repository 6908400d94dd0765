-- The end of a comment, byte by byte.
use Rattle.std.proofs.Common.{◌≡◌, ℕ, ◌+◌, ◌-◌, ◌<◌, List, ◌∷◌, drop, take, length, get_or, nat_eq, codes, Option, None, Some, false, refl, arith, sym, ap, add-one}
use Rattle.std.specs.List.{starts_with}
use Rattle.std.specs.Option.{option_map}
use Rattle.std.proofs.Math.Seq.{drop-cons}
use Rattle.std.proofs.lemmas.Grind.{common_steps}
use Rattle.cas_lex.specs.Comments.{closing_len}

-- past a byte that ends no comment
pub closing_len-step : (text : List ℕ) (i : ℕ) → i < length text →
    starts_with nat_eq (take (length text - i) (drop i text)) (codes "*/") ≡ false →
    option_map (λ n. n + i) (closing_len (drop i text)) ≡ option_map (λ n. n + (i + 1))
    (closing_len (drop (i + 1) text))
closing_len-step text i within none = step (get_or text i 0) (drop (i + 1) text) (drop i text)
    (rw add-one (drop-cons text i 0 within)) (rw (sym whole) at none)
  where
    whole : drop i text ≡ take (length text - i) (drop i text)
    whole = grind (arith, common_steps)

    moved : (found : Option ℕ) → option_map (λ n. n + i) (option_map (λ n. n + 1) found) ≡ option_map (λ n. n + (i + 1))
        found
    moved None = refl
    moved (Some n) = ap Some (omega arith)

    step : (b : ℕ) (bs all : List ℕ) → all ≡ b ∷ bs → starts_with nat_eq all (codes "*/") ≡ false →
        option_map (λ n. n + i) (closing_len all) ≡ option_map (λ n. n + (i + 1)) (closing_len bs)
    step b bs all is fails = rw is (rw (rw is at fails) (moved (closing_len bs)))
