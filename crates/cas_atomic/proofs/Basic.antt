-- Tests, tables and buffers.
use Rattle.std.proofs.Common.{◌≡◌, ℕ, nat_eq, Bool, true, false, List, [], ◌∷◌, ◌++◌, Option, Some, None, if◌then◌else◌, sym, refl, ap, ◌∙◌, subst, inl, inr, ◌⊎◌}
use Rattle.std.proofs.lemmas.Bool.Decides.{eqb_tells}
use Rattle.cas_atomic.specs.Buffer.{Store, store, newest, or_else, seen, view, put}

-- equal, or not
pub same_or_not : (a b : ℕ) → (a ≡ b) ⊎ (a ≡ b → ⊥)
same_or_not a b = elim (eqb_tells a b) [ inl h ↦ inl h.1 | inr h ↦ inr h.1 ]

pub if_same : {A : Type 0} (a b : ℕ) (x y : A) → a ≡ b → (if nat_eq a b then x else y) ≡ x
if_same a b x y e = elim (eqb_tells a b) [ inl h ↦ ap (λ (t : Bool). if t then x else y) h.0 | inr h ↦ absurd (h.1 e) ]

pub if_not : {A : Type 0} (a b : ℕ) (x y : A) → (a ≡ b → ⊥) → (if nat_eq a b then x else y) ≡ y
if_not a b x y n = elim (eqb_tells a b) [ inl h ↦ absurd (n h.1) | inr h ↦ ap (λ (t : Bool). if t then x else y) h.0 ]

pub put_here : {A : Type 0} (i : ℕ) (a : A) (f : ℕ → A) (j : ℕ) → j ≡ i → put i a f j ≡ a
put_here i a f j e = if_same j i a (f j) e

pub put_else : {A : Type 0} (i : ℕ) (a : A) (f : ℕ → A) (j : ℕ) → (j ≡ i → ⊥) → put i a f j ≡ f j
put_else i a f j n = if_not j i a (f j) n

-- what holds of the changed entry and of the others, holds of each
pub each_put : {A : Type 0} (P : ℕ → A → Type 0) (i : ℕ) (a : A) (f : ℕ → A) → P i a →
    ((j : ℕ) → (j ≡ i → ⊥) → P j (f j)) → (j : ℕ) → P j (put i a f j)
each_put P i a f here others j = elim (same_or_not j i) [
  | inl e ↦ subst (λ b. P j b) (sym (put_here i a f j e)) (subst (λ k. P k a) (sym e) here)
  | inr n ↦ subst (λ b. P j b) (sym (put_else i a f j n)) (others j n)
]

else_none : (o : Option ℕ) → or_else o None ≡ o
else_none (Some v) = refl
else_none None = refl

if_later : (t : Bool) (v : ℕ) (o e : Option ℕ) → or_else (if t then Some v else o) e ≡
    (if t then Some v else or_else o e)
if_later true v o e = refl
if_later false v o e = refl

pub newest-append : (b : List Store) (w v at : ℕ) → newest (b ++ store w v ∷ []) at ≡
    (if nat_eq w at then Some v else newest b at)
newest-append [] w v at = refl
newest-append (x ∷ xs) w v at = ap (λ (o : Option ℕ). or_else o (if nat_eq x.at at then Some x.value else None))
    (newest-append xs w v at) ∙ if_later (nat_eq w at) v (newest xs at) (if nat_eq x.at at then Some x.value else None)

pub appended_here : (b : List Store) (w v at : ℕ) → w ≡ at → newest (b ++ store w v ∷ []) at ≡ Some v
appended_here b w v at e = newest-append b w v at ∙ if_same w at (Some v) (newest b at) e

pub appended_else : (b : List Store) (w v at : ℕ) → (w ≡ at → ⊥) → newest (b ++ store w v ∷ []) at ≡ newest b at
appended_else b w v at n = newest-append b w v at ∙ if_not w at (Some v) (newest b at) n

pub popped_else : (w v : ℕ) (rest : List Store) (at : ℕ) → (w ≡ at → ⊥) → newest (store w v ∷ rest) at ≡ newest rest at
popped_else w v rest at n = ap (or_else (newest rest at)) (if_not w at (Some v) None n) ∙ else_none (newest rest at)

some_left : (o e : Option ℕ) → or_else o e ≡ None → o ≡ None
some_left (Some v) e h = absurd (cc h)
some_left None e h = refl

pub popped_none : (w v : ℕ) (rest : List Store) (at : ℕ) → newest (store w v ∷ rest) at ≡ None → newest rest at ≡ None
popped_none w v rest at h = some_left (newest rest at) (if nat_eq w at then Some v else None) h

or_some : (o : Option ℕ) (v : ℕ) → or_else o (Some v) ≡ None → ⊥
or_some (Some u) v h = absurd (cc h)
or_some None v h = absurd (cc h)

-- the oldest store is a store to its word
pub oldest_there : (w v : ℕ) (rest : List Store) → newest (store w v ∷ rest) w ≡ None → ⊥
oldest_there w v rest h = or_some (newest rest w) v (sym (ap (or_else (newest rest w)) (if_same w w (Some v) None refl))
    ∙ h)

seen_some : (o : Option ℕ) (v m : ℕ) → seen o v ≡ seen (or_else o (Some v)) m
seen_some (Some u) v m = refl
seen_some None v m = refl

-- a drain leaves the thread's own view
pub drained_view : (w v : ℕ) (rest : List Store) (m : ℕ → ℕ) (at : ℕ) →
    view rest (put w v m) at ≡ view (store w v ∷ rest) m at
drained_view w v rest m at = elim (same_or_not at w) [
  | inl e ↦ ap (seen (newest rest at)) (put_here w v m at e) ∙ seen_some (newest rest at) v (m at)
      ∙ ap (λ (o : Option ℕ). seen (or_else (newest rest at) o) (m at)) (sym (if_same w at (Some v) None (sym e)))
  | inr n ↦ ap (seen (newest rest at)) (put_else w v m at n)
      ∙ ap (λ (o : Option ℕ). seen o (m at)) (sym (popped_else w v rest at (λ e. n (sym e))))
]

pub view_none : (b : List Store) (m : ℕ → ℕ) (at : ℕ) → newest b at ≡ None → view b m at ≡ m at
view_none b m at h = ap (λ (o : Option ℕ). seen o (m at)) h
