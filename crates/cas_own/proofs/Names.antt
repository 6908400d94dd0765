-- Walks without a fault pass names whose guards are held.
use Rattle.std.proofs.Common.{arith, ◌≡◌, ℕ, zero, suc, Bool, true, false, List, [], ◌∷◌, Option, Some, None, refl, ap, subst, ◌∙◌}
use Rattle.std.specs.Prelude.{if◌then◌else◌, Contains}
use Rattle.cas_base.specs.declared.place.Place.{Place}
use Rattle.cas_own.specs.Flow.{Flow, on, fault, wanting, guarded, held}
use Rattle.cas_own.specs.Laws.{GuardsAreHeld}
use Rattle.cas_own.specs.Locks.{Locks, has, guard_of}
use Rattle.cas_own.specs.declared.fault.OwnCode.{OwnCode}
use Rattle.cas_own.specs.declared.fault.OwnCode.TheVariants.{O1, O2}

-- what is contained is the first or contained behind it
pub contained : {X C : Type 0} (y : X) (xs : List X) (x : X) → Contains (y ∷ xs) x → (y ≡ x → C) → (Contains xs x → C) →
    C
contained y xs x (zero, below, is) first rest = first is
contained y xs x (suc k, below, is) first rest = rest (k, omega (arith, below), is)

choose_on : (b : Bool) (code : OwnCode) (p : Place) (l : ℕ) (next : Flow) (o : Option Locks) →
    (if b then next else fault code p l) ≡ on o → (b ≡ true) × (next ≡ on o)
choose_on true code p l next o h = (refl, h)
choose_on false code p l next o h = cc

pub wanting_on : (code : OwnCode) (p : Place) (s : Locks) (lock : Option ℕ) (next : Flow) (o : Option Locks) →
    wanting code p s lock next ≡ on o →
    (next ≡ on o) × ((l : ℕ) → lock ≡ Some l → has s l ≡ true)
wanting_on code p s None next o h = (h, λ l e. cc)
wanting_on code p s (Some m) next o h =
    let r = choose_on (has s m) code p m next o h in (
      r.1,
      λ l e. let same : m ≡ l = cc in
          subst (λ k. has s k ≡ true) same r.0,
    )

pub guards_are_held : GuardsAreHeld
guards_are_held ds s [] next o h = (h, λ u l (k, below, is). absurd (omega (arith, below)))
guards_are_held ds s (v ∷ us) next o h =
    let r = wanting_on O1 v.at s (guard_of ds v.item) (guarded ds s us next) o h in
    let rest = guards_are_held ds s us next o r.0 in (
      rest.0,
      λ u l c e. contained v us u c (λ same. r.1 l (ap (λ x. guard_of ds x.item) same ∙ e))
          (λ d. rest.1 u l d e),
    )

-- the locks that a called function's caller holds are in the set
pub held_on : (p : Place) (s : Locks) (ls : List ℕ) (next : Flow) (o : Option Locks) → held p s ls next ≡ on o →
    (next ≡ on o) × ((l : ℕ) → Contains ls l → has s l ≡ true)
held_on p s [] next o h = (h, λ l (k, below, is). absurd (omega (arith, below)))
held_on p s (m ∷ ls) next o h =
    let r = wanting_on O2 p s (Some m) (held p s ls next) o h in
    let rest = held_on p s ls next o r.0 in
    (rest.0, λ l c. contained m ls l c (λ same. r.1 l (ap (λ k. Some k) same)) (λ d. rest.1 l d))
