-- Sets of locks, and what a module's declarations say of locks. A lock is identified by the number of the first item
-- that declares it.
use Rattle.std.specs.Prelude.{ℕ, ◌==◌, min, nat_lt, Bool, if◌then◌else◌, List, [], ◌∷◌, Option, Some, None, slice_get}
use Rattle.std.specs.List.{list_any}
use Rattle.cas_base.specs.declared.decl.Decl.{Decl}
use Rattle.cas_base.specs.declared.decl.Form.{Form}
use Rattle.cas_base.specs.declared.decl.Form.TheVariants.{Lock, Shared, Function}
use Rattle.cas_typed.specs.Scopes.{Meaning, item, item_named}

-- a set of locks: their numbers, each greater than the one before
abbrev pub Locks : Type 0
Locks = List ℕ

abbrev pub has : Locks → (lock : ℕ) → Bool
has s l = list_any (λ m. m == l) s

-- the set with a lock
abbrev pub having : Locks → (lock : ℕ) → Locks
having [] l = l ∷ []
having (m ∷ s) l = if m == l then m ∷ s else if nat_lt l m then l ∷ m ∷ s else m ∷ having s l

-- the set without a lock
abbrev pub without : Locks → (lock : ℕ) → Locks
without [] l = []
without (m ∷ s) l = if m == l then s else m ∷ without s l

-- the first lock, in order of declaration, that is in one set and not in the other
abbrev pub differs : Locks → Locks → Option ℕ
differs [] [] = None
differs (l ∷ s) [] = Some l
differs [] (m ∷ t) = Some m
differs (l ∷ s) (m ∷ t) = if l == m then differs s t else Some (min l m)

-- the lock that a name means, if it means one
abbrev pub lock_meant : Meaning → Option ℕ
lock_meant (item g Lock) = Some g
lock_meant _ = None

abbrev pub lock_named : List Decl → (name : List ℕ) → Option ℕ
lock_named decls name = lock_meant (item_named 0 decls name)

-- the locks that names mean, in their order
abbrev pub lock_and : Option ℕ → List ℕ → List ℕ
lock_and None ls = ls
lock_and (Some l) ls = l ∷ ls

abbrev pub locks_named : List Decl → (names : List (List ℕ)) → List ℕ
locks_named decls [] = []
locks_named decls (name ∷ names) = lock_and (lock_named decls name) (locks_named decls names)

-- the set of these locks
abbrev pub set_of : List ℕ → Locks
set_of [] = []
set_of (l ∷ ls) = having (set_of ls) l

-- the lock that guards what is declared, if it is a shared global
abbrev pub guard_of_form : List Decl → Form → Option ℕ
guard_of_form decls (Shared ty lock) = lock_named decls lock
guard_of_form decls _ = None

-- the locks that a caller of what is declared holds, in the order of its `holds`
abbrev pub holds_of_form : List Decl → Form → List ℕ
holds_of_form decls (Function ret params holds) = locks_named decls holds
holds_of_form decls _ = []

abbrev pub of_declared : {A : Type 0} → (Form → A) → A → Option Decl → A
of_declared told none (Some d) = told d.form
of_declared told none None = none

-- the lock that guards what the item declares, and the locks that its caller holds
abbrev pub guard_of : List Decl → (number : ℕ) → Option ℕ
guard_of decls g = of_declared (guard_of_form decls) None (slice_get decls g)

abbrev pub holds_of : List Decl → (number : ℕ) → List ℕ
holds_of decls g = of_declared (holds_of_form decls) [] (slice_get decls g)
