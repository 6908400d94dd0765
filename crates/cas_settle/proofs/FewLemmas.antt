-- A unit has no more functions than declarations.
use Rattle.std.proofs.Common.{◌≡◌, ℕ, ◌≤◌, Bool, true, false, cond, List, [], ◌∷◌, length, filter, arith}
use Rattle.cas_base.specs.declared.decl.Decl.{Decl}
use Rattle.cas_base.specs.Decl.{definitions, functions_of, is_function}

length-filter-le : {X : Type 0} (test : X → Bool) (xs : List X) → length (filter test xs) ≤ length xs
length-filter-le test [] = omega arith
length-filter-le {X} test (x ∷ xs) = by (test x) (length-filter-le test xs)
  where
    by : (b : Bool) → length (filter test xs) ≤ length xs →
        length (cond b (x ∷ filter test xs) (filter test xs)) ≤ length (x ∷ xs)
    by true rest = omega (arith, rest)
    by false rest = omega (arith, rest)

pub length-functions_of-le : (decls : List Decl) → length (functions_of decls) ≤ length decls
length-functions_of-le decls =
    omega (
      arith,
      length-filter-le (λ (decl : Decl). is_function decl.form) (definitions decls),
      length-filter-le
          (λ (decl : Decl). decl.defined) decls,
    )
