-- The laws of sets of locks, and of the names that a walk passes.
use Rattle.std.specs.Prelude.{◌≡◌, ◌≢◌, ◌↔◌, ⊤, ℕ, suc, ◌<◌, ◌≤◌, ◌==◌, not, ◌&&◌, ◌||◌, true, List, [], ◌∷◌, Option, Some, None, Contains}
use Rattle.std.specs.List.{list_any}
use Rattle.cas_base.specs.declared.decl.Decl.{Decl}
use Rattle.cas_own.specs.Flow.{Flow, on, guarded}
use Rattle.cas_own.specs.Locks.{Locks, has, having, without, differs, set_of, guard_of}
use Rattle.cas_own.specs.Uses.{Use}

-- each number is at least this, and greater than the one before
abbrev pub IsAscendingFrom : (least : ℕ) → Locks → Type 0
IsAscendingFrom n [] = ⊤
IsAscendingFrom n (l ∷ s) = (n ≤ l) × IsAscendingFrom (suc l) s

abbrev pub IsAscending : Locks → Type 0
IsAscending s = IsAscendingFrom 0 s

-- Sets of locks ascend, and still do after a lock is taken or released.
abbrev pub SetsAscend : Type 0
SetsAscend = ((ls : List ℕ) → IsAscending (set_of ls)) ×
    ((s : Locks) (l : ℕ) → IsAscending s → IsAscending (having s l) × IsAscending (without s l))

-- Taking and releasing a lock changes no other lock of the set.
abbrev pub OthersStay : Type 0
OthersStay = (s : Locks) (l m : ℕ) → IsAscending s → (has (having s l) m ≡ (l == m || has s m)) ×
    (has (without s l) m ≡ (not (l == m) && has s m))

-- The set of some locks has them and no others.
abbrev pub SetsAreOfLocks : Type 0
SetsAreOfLocks = (ls : List ℕ) (l : ℕ) → has (set_of ls) l ≡ list_any (λ m. m == l) ls

-- Sets differ in no lock exactly if they are equal; else they differ in that lock, and in none before.
abbrev pub DifferencesAreFirst : Type 0
DifferencesAreFirst = ((s t : Locks) → (differs s t ≡ None) ↔ (s ≡ t))
    × ((s t : Locks) (l : ℕ) → IsAscending s → IsAscending t → differs s t ≡ Some l → (has s l ≢ has t l) ×
    ((m : ℕ) → m < l → has s m ≡ has t m))

-- A walk without a fault passes only names of globals whose guards are in the set.
abbrev pub GuardsAreHeld : Type 0
GuardsAreHeld = (ds : List Decl) (s : Locks) (us : List Use) (next : Flow) (o : Option Locks) →
    guarded ds s us next ≡ on o →
    (next ≡ on o) × ((u : Use) (l : ℕ) → Contains us u → guard_of ds u.item ≡ Some l → has s l ≡ true)
