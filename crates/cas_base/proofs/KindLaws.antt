-- Laws of kinds over numbers, which the module `laws` states.
use Rattle.std.proofs.Common.{◌≡◌, ℕ, ◌%◌, ◌^◌, ◌<◌, refl, arith, IsTrue}
use Rattle.std.proofs.lemmas.Int.{ints}
use Rattle.std.proofs.lemmas.Bool.Decides.{nat_tests}
use Rattle.cas_base.specs.declared.kind.Kind.{Kind}
use Rattle.cas_base.specs.declared.kind.Kind.TheVariants.{I8, U8, I16, U16, I32, U32}
use Rattle.cas_base.specs.Kind.{is_of_kind, size_of}
use Rattle.cas_base.specs.Word.{narrowed}

pub narrowed-lt : (a : ℕ) (kind : Kind) → a < 2 ^ 32 → narrowed a kind < 2 ^ 32
narrowed-lt a I8 h = grind (arith, nat_tests, ints)
narrowed-lt a U8 h = grind arith
narrowed-lt a I16 h = grind (arith, nat_tests, ints)
narrowed-lt a U16 h = grind arith
narrowed-lt a I32 h = h
narrowed-lt a U32 h = h

pub narrowed_is_of_kind : (a : ℕ) (kind : Kind) → a < 2 ^ 32 → IsTrue (is_of_kind (narrowed a kind) kind)
narrowed_is_of_kind a I8 h = grind (arith, nat_tests, ints)
narrowed_is_of_kind a U8 h = grind (arith, nat_tests, ints)
narrowed_is_of_kind a I16 h = grind (arith, nat_tests, ints)
narrowed_is_of_kind a U16 h = grind (arith, nat_tests, ints)
narrowed_is_of_kind a I32 h = grind (arith, nat_tests, ints)
narrowed_is_of_kind a U32 h = grind (arith, nat_tests, ints)

pub narrowed_keeps : (a : ℕ) (kind : Kind) → IsTrue (is_of_kind a kind) → narrowed a kind ≡ a
narrowed_keeps a I8 h = grind (arith, nat_tests, ints)
narrowed_keeps a U8 h = grind (arith, nat_tests, ints)
narrowed_keeps a I16 h = grind (arith, nat_tests, ints)
narrowed_keeps a U16 h = grind (arith, nat_tests, ints)
narrowed_keeps a I32 h = refl
narrowed_keeps a U32 h = refl

pub narrowed-narrowed : (a : ℕ) (kind : Kind) → a < 2 ^ 32 → narrowed (narrowed a kind) kind ≡ narrowed a kind
narrowed-narrowed a kind h = narrowed_keeps (narrowed a kind) kind (narrowed_is_of_kind a kind h)

pub narrowed-mod : (a : ℕ) (kind : Kind) → a < 2 ^ 32 → narrowed a kind % size_of kind ≡ a % size_of kind
narrowed-mod a I8 h = grind (arith, nat_tests, ints)
narrowed-mod a U8 h = grind (arith, nat_tests, ints)
narrowed-mod a I16 h = grind (arith, nat_tests, ints)
narrowed-mod a U16 h = grind (arith, nat_tests, ints)
narrowed-mod a I32 h = refl
narrowed-mod a U32 h = refl
