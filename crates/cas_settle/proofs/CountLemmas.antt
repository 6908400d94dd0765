-- Counts of words and locks, which stand still at the greatest word of 64 bits.
use Rattle.std.proofs.Common.{◌≡◌, ℕ, ◌+◌, ◌-◌, ◌^◌, min, cond, List, [], ◌∷◌, ◌++◌, map, ap, refl, sym, ◌∙◌, arith}
use Rattle.std.specs.List.{sum_by}
use Rattle.std.proofs.lemmas.List.{map_push}
use Rattle.std.proofs.lemmas.List.Sums.{sum_by-append}
use Rattle.cas_base.specs.declared.decl.Decl.{Decl}
use Rattle.cas_base.specs.Decl.{is_lock, words_of_form}
use Rattle.cas_settle.specs.Settle.{words_of, locks_of}
use Rattle.cas_settle.specs.Located.{Located, decls_in}

-- a sum over the definitions with one more
pub sum_by-push : (f : Decl → ℕ) (found : List Located) (item : Located) →
    sum_by f (decls_in (found ++ item ∷ [])) ≡ sum_by f (decls_in found) + f item.decl
sum_by-push f found item =
    ap (sum_by f) (map_push (λ (item : Located). item.decl) found item)
    ∙ sum_by-append f (decls_in found) (item.decl ∷ [])
    ∙ omega arith

-- the words of the definitions with one more
pub words_of-push : (found : List Located) (item : Located) (counted more : ℕ)
    → counted ≡ min (words_of (decls_in found)) (2 ^ 64 - 1) → more ≡ words_of_form item.decl.form
    → min (counted + more) (2 ^ 64 - 1) ≡ min (words_of (decls_in (found ++ item ∷ []))) (2 ^ 64 - 1)
words_of-push found item counted more all one =
    omega (arith, all, one, sum_by-push (λ decl. words_of_form decl.form) found item)

-- the locks of the definitions with one more
pub locks_of-push : (found : List Located) (item : Located) (counted more : ℕ)
    → counted ≡ min (locks_of (decls_in found)) (2 ^ 64 - 1) → more ≡ cond (is_lock item.decl.form) 1 0
    → min (counted + more) (2 ^ 64 - 1) ≡ min (locks_of (decls_in (found ++ item ∷ []))) (2 ^ 64 - 1)
locks_of-push found item counted more all one =
    omega (arith, all, one, sum_by-push (λ decl. cond (is_lock decl.form) 1 0) found item)

-- a count that stands still at the greatest word of 64 bits, as a word of 32 bits
pub min_min : (count counted most word : ℕ) → counted ≡ min count (2 ^ 64 - 1) → most ≡ 2 ^ 32 - 1 →
    word ≡ min counted most → word ≡ min count (2 ^ 32 - 1)
min_min count counted most word all limit is = omega arith
