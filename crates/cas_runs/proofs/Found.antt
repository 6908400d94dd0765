-- Functions are found at the same names in lists of which each is made of the other in its place.
use Rattle.std.proofs.Common.{◌≡◌, List, [], ◌∷◌, Option, Some, None, Bool, true, false, if◌then◌else◌, refl, subst}
use Rattle.cas_runs.specs.Label.{NameBytes, same_name}
use Rattle.cas_runs.specs.Unit.{found}
use Rattle.cas_runs.specs.Calls.{Activations, find}
use Rattle.cas_runs.specs.Passing.{AllMade}
use Rattle.cas_runs.proofs.Tests.{same_name_from}

-- none in both, or one of which the other is made
abbrev pub FoundAlike : {F G : Type 0} → (F → G → Type 0) → Option F → Option G → Type 0
FoundAlike made None None = Unit {0}
FoundAlike made None (Some g) = ⊥
FoundAlike made (Some f) None = ⊥
FoundAlike made (Some f) (Some g) = made f g

-- so at each name
abbrev pub AllFound : {F A G B : Type 0} → Activations F A → Activations G B → (F → G → Type 0) → List F → List G →
    Type 0
AllFound target source made fs gs = (name : NameBytes) → FoundAlike made (find target fs name) (find source gs name)

-- what is found at a name has it
pub found_named : {F : Type 0} (name_of : F → NameBytes) (fs : List F) (name : NameBytes) (f : F) →
    found name_of fs name ≡ Some f → name_of f ≡ name
found_named name_of [] name f e = absurd (cc e)
found_named name_of (g ∷ fs) name f e = by (same_name (name_of g) name) refl (found_named name_of fs name f) e
  where
    by : (t : Bool) → same_name (name_of g) name ≡ t → (found name_of fs name ≡ Some f → name_of f ≡ name) →
        (if t then Some g else found name_of fs name) ≡ Some f → name_of f ≡ name
    by true is rest k = let same : g ≡ f = cc k in subst (λ v. name_of v ≡ name) same
        (same_name_from (name_of g) name is)
    by false is rest k = rest k

module _ {F A G B : Type 0} (target : Activations F A) (source : Activations G B) (made : F → G → Type 0)
    (names : (f : F) (g : G) → made f g → target.name f ≡ source.name g) where
  pub find_alike : (fs : List F) (gs : List G) → AllMade made fs gs → AllFound target source made fs gs
  find_alike [] [] h name = tt
  find_alike [] (g ∷ gs) h name = absurd h
  find_alike (f ∷ fs) [] h name = absurd h
  find_alike (f ∷ fs) (g ∷ gs) h name =
      subst (λ v. FoundAlike made (find target (f ∷ fs) name)
      (if same_name v name then Some g else find source gs name)) (names f g h.0)
      (either (same_name (target.name f) name) h.0 (find_alike fs gs h.1 name))
    where
      either : (t : Bool) → made f g → FoundAlike made (find target fs name) (find source gs name) →
          FoundAlike made (if t then Some f else find target fs name) (if t then Some g else find source gs name)
      either true m rest = m
      either false m rest = rest

  -- what is found is made of what is found at the same name
  pub found_of : (fs : List F) (gs : List G) → AllMade made fs gs → (name : NameBytes) (f : F) →
      find target fs name ≡ Some f → (g : G) × (find source gs name ≡ Some g) × made f g
  found_of fs gs h name f e = by (find source gs name) refl
      (subst (λ v. FoundAlike made v (find source gs name)) e (find_alike fs gs h name))
    where
      by : (o : Option G) → find source gs name ≡ o → FoundAlike made (Some f) o → (g : G)
          × (find source gs name ≡ Some g) × made f g
      by None is m = absurd m
      by (Some g) is m = (g, is, m)
