-- Sets that are made lock by lock, from the last one on.
use Rattle.std.proofs.Common.{◌≡◌, ℕ, List, [], ◌∷◌, ◌++◌, refl, ap}
use Rattle.cas_own.specs.Locks.{Locks, having, set_of}
use Rattle.cas_check.specs.View.{adding}

pub adding_none : (ls : List ℕ) → adding ls [] ≡ set_of ls
adding_none [] = refl
adding_none (l ∷ ls) = ap (λ s. having s l) (adding_none ls)

pub adding_last : (ls : List ℕ) (l : ℕ) (s : Locks) → adding (ls ++ l ∷ []) s ≡ adding ls (having s l)
adding_last [] l s = refl
adding_last (m ∷ ls) l s = ap (λ t. having t m) (adding_last ls l s)
