-- Families with another member.
use Rattle.std.proofs.Common.{◌≡◌, ℕ, nat_eq, Bool, true, false, if◌then◌else◌, refl, sym, subst, eqb-true}
use Rattle.std.proofs.lemmas.Bool.{eq-eqb, eqb-false}
use Rattle.cas_runs.specs.Known.{set}

-- what holds of each other member and of the new one holds of all
pub set_all : {A B : Type 0} (P : ℕ → A → B → Type 0) (f : ℕ → A) (g : ℕ → B) (c : ℕ) (a : A) (b : B) →
    ((i : ℕ) → (i ≡ c → ⊥) → P i (f i) (g i)) → P c a b → (i : ℕ) → P i (set f c a i) (set g c b i)
set_all P f g c a b others new i = by (nat_eq i c) refl
  where
    by : (e : Bool) → nat_eq i c ≡ e → P i (if e then a else f i) (if e then b else g i)
    by true e = subst (λ n. P n a b) (sym (eqb-true i c e)) new
    by false e = others i (eqb-false i c e)

-- the new member
pub set_one : {A B : Type 0} (P : A → B → Type 0) (f : ℕ → A) (g : ℕ → B) (c : ℕ) (a : A) (b : B) → P a b →
    P (set f c a c) (set g c b c)
set_one P f g c a b new = by (nat_eq c c) (eq-eqb c c refl)
  where
    by : (e : Bool) → e ≡ true → P (if e then a else f c) (if e then b else g c)
    by true e = new
    by false e = absurd (cc e)

pub set_here : {A : Type 0} (f : ℕ → A) (c : ℕ) (a : A) → set f c a c ≡ a
set_here f c a = set_one (λ v w. v ≡ a) f f c a a refl

-- the others
pub set_there : {A : Type 0} (f : ℕ → A) (c : ℕ) (a : A) (i : ℕ) → (i ≡ c → ⊥) → set f c a i ≡ f i
set_there f c a i n = by (nat_eq i c) refl
  where
    by : (e : Bool) → nat_eq i c ≡ e → (if e then a else f i) ≡ f i
    by true e = absurd (n (eqb-true i c e))
    by false e = refl
