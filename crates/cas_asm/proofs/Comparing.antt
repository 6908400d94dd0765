-- What the conditions say after `cmp`.
use Rattle.std.proofs.Common.{◌≡◌, ℕ, ◌^◌, ◌<◌, refl, arith}
use Rattle.std.proofs.lemmas.Int.{ints}
use Rattle.std.proofs.lemmas.Bool.Decides.{nat_tests}
use Rattle.cas_asm.specs.declared.cond.Cond.{Cond}
use Rattle.cas_asm.specs.declared.cond.Cond.TheVariants.{O, No, B, Ae, E, Ne, Be, A, S, Ns, P, Np, L, Ge, Le, G}
use Rattle.cas_asm.specs.Flags.{sub_flags, holds, compares}

pub conditions_compare : (on : Cond) (a b : ℕ) → a < 2 ^ 32 → b < 2 ^ 32 → holds on (sub_flags a b) ≡ compares on a b
conditions_compare O a b h k = refl
conditions_compare No a b h k = grind (arith, nat_tests)
conditions_compare B a b h k = refl
conditions_compare Ae a b h k = grind (arith, nat_tests)
conditions_compare E a b h k = grind (arith, nat_tests)
conditions_compare Ne a b h k = grind (arith, nat_tests)
conditions_compare Be a b h k = grind (arith, nat_tests)
conditions_compare A a b h k = grind (arith, nat_tests)
conditions_compare S a b h k = refl
conditions_compare Ns a b h k = grind (arith, nat_tests)
conditions_compare P a b h k = refl
conditions_compare Np a b h k = refl
conditions_compare L a b h k = grind (arith, nat_tests, ints)
conditions_compare Ge a b h k = grind (arith, nat_tests, ints)
conditions_compare Le a b h k = grind (arith, nat_tests, ints)
conditions_compare G a b h k = grind (arith, nat_tests, ints)
