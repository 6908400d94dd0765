-- What a source language shows of itself so that its units can be joined into threads: its activations do the same
-- wherever their objects are, and whatever their serial numbers are.
use Rattle.std.specs.Prelude.{◌≡◌, ⊤, ℕ, List, Option, Some, None}
use Rattle.cas_runs.specs.Naming.{Home, Own, Value}
use Rattle.cas_runs.specs.Calls.{Last, Goes, Takes, Gives, Puts, Calls, Returns, Activations}
use Rattle.cas_portable.specs.Renaming.{Renaming, IsRenaming, Extends, SameValue, SameValues, SameForm}

-- where the thread's objects have so many cells; `Same` says which activations of a function are the same
module _ {F A : Type 0} (l : Activations F A) (size : Home → ℕ) (Same : Renaming → F → A → A → Type 0) where
  abbrev pub SameIf : Renaming → F → Option A → Option A → Type 0
  SameIf r f None None = ⊤
  SameIf r f (Some x) (Some y) = Same r f x y
  SameIf r f _ _ = ⊥

  -- what waits for results goes on the same, whatever else is renamed by then
  abbrev pub SameNext : Renaming → F → (List Value → Option A) → (List Value → Option A) → Type 0
  SameNext r f next next' = (r' : Renaming) → Extends r r' → IsRenaming r' → (vs ws : List Value) →
      SameValues size r' vs ws → SameIf r' f (next vs) (next' ws)

  -- both do the same at last. A source has no tail call
  abbrev pub SameLast : Renaming → F → Last A → Last A → Type 0
  SameLast r f (Goes x) (Goes y) = Same r f x y
  SameLast r f (Takes lock x) (Takes k y) = (lock ≡ k) × Same r f x y
  SameLast r f (Gives lock x) (Gives k y) = (lock ≡ k) × Same r f x y
  SameLast r f (Puts word x) (Puts v y) = (word ≡ v) × Same r f x y
  SameLast r f (Calls function vs next) (Calls g ws next') =
      (function ≡ g) × SameValues size r vs ws × SameNext r f next next'
  SameLast r f (Returns vs) (Returns ws) = SameValues size r vs ws
  SameLast r f _ _ = ⊥

  -- Portable: steps do the same, also once more is renamed; and activations begin the same with serial numbers under
  -- which their own blocks are the same
  pub record Portable : Type 0 where
    pub forms : (r : Renaming) → IsRenaming r → (f : F) (x y : A) → Same r f x y →
        SameForm size r (SameLast r f) (l.form x) (l.form y)
    pub enters : (r : Renaming) → IsRenaming r → (f : F) (n m : ℕ) (vs ws : List Value) → SameValues size r vs ws →
        ((b : ℕ) → r (Own (l.name f) n b) ≡ Some (Own (l.name f) m b)) → SameIf r f (l.enter f n vs) (l.enter f m ws)
    pub first : (r : Renaming) → SameValue size r l.first_word l.first_word
    pub extends : (r r' : Renaming) → Extends r r' → (f : F) (x y : A) → Same r f x y → Same r' f x y
