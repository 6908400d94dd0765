-- Numbers without a suffix, as texts may have them.
use Rattle.std.proofs.Common.{◌≡◌, ℕ, ◌≤◌, Bool, true, false, nat_lt, if◌then◌else◌, refl, arith}
use Rattle.std.proofs.lemmas.Bool.Decides.{nat_tests}
use Rattle.cas_base.specs.declared.kind.Kind.{Kind}
use Rattle.cas_lex.specs.Literals.{literal_kind}
use Rattle.cas_base.specs.declared.kind.Kind.TheVariants.{I32, U32}
use Rattle.cas_print.proofs.Sound.{IsLiteral, literal_small}

-- a number of 32 bits is a literal's value at the kind that it has without a suffix
pub small_sound : (n : ℕ) → n ≤ 4294967295 → IsLiteral n (literal_kind false n)
small_sound n h = by_test (nat_lt 2147483647 n) refl
  where
    by_test : (b : Bool) → nat_lt 2147483647 n ≡ b → IsLiteral n (if b then U32 else I32)
    by_test true e = h
    by_test false e = grind (arith, nat_tests)

-- a literal's value may stand without a suffix
pub plain_sound : (n : ℕ) (kind : Kind) → IsLiteral n kind → IsLiteral n (literal_kind false n)
plain_sound n kind h = small_sound n (literal_small n kind h)
