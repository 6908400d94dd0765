-- Store buffers: the newest store to a place, found from the oldest on.
use Rattle.std.proofs.Common.{◌≡◌, ℕ, zero, suc, ◌+◌, List, [], ◌∷◌, drop, slice_get, Option, Some, None, Bool, true, false, nat_eq, if◌then◌else◌, refl, sym, ap, ◌∙◌, add-one}
use Rattle.std.specs.Option.{option_or}
use Rattle.cas_tso.specs.Refusal.{refused_drain}
use Rattle.cas_tso.specs.State.{newest}
use Rattle.cas_tso.specs.declared.pending.Pending.{Pending}

pub option_or-none : (x : Option ℕ) → option_or x None ≡ x
option_or-none None = refl
option_or-none (Some x) = refl

over : (a : Option ℕ) (b : Bool) (v : ℕ) (found : Option ℕ) →
    option_or a (if b then Some v else found) ≡ option_or (option_or a (if b then Some v else None)) found
over (Some y) b v found = refl
over None true v found = refl
over None false v found = refl

passes_at : (xs : List Pending) (i : ℕ) (x : Pending) (found : Option ℕ) (at : ℕ) → slice_get xs i ≡ Some x →
    option_or (newest (drop (suc i) xs) at) (if nat_eq x.at at then Some x.value else found) ≡ option_or
    (newest (drop i xs) at) found
passes_at [] i x found at e = cc
passes_at (y ∷ ys) zero x found at e =
    let same : y ≡ x = cc in
    over (newest ys at) (nat_eq x.at at) x.value found
    ∙ ap (λ (z : Pending). option_or (option_or (newest ys at) (if nat_eq z.at at then Some z.value else None)) found)
    (sym same)
passes_at (y ∷ ys) (suc i) x found at e = passes_at ys i x found at e

-- the store that stands next is seen over what was found before
pub passes : (xs : List Pending) (i : ℕ) (x : Pending) (found : Option ℕ) (at : ℕ) → slice_get xs i ≡ Some x →
    option_or (newest (drop (i + 1) xs) at) (if nat_eq x.at at then Some x.value else found) ≡ option_or
    (newest (drop i xs) at) found
passes xs i x found at e =
    ap (λ (k : ℕ). option_or (newest (drop k xs) at) (if nat_eq x.at at then Some x.value else found)) (add-one i)
    ∙ passes_at xs i x found at e

past_at : (xs : List Pending) (i : ℕ) (at : ℕ) → slice_get xs i ≡ None →
    newest (drop (suc i) xs) at ≡ newest (drop i xs) at
past_at [] zero at e = refl
past_at [] (suc i) at e = refl
past_at (y ∷ ys) zero at e = cc
past_at (y ∷ ys) (suc i) at e = past_at ys i at e

-- past the end there is nothing
pub past : (xs : List Pending) (i : ℕ) (at : ℕ) → slice_get xs i ≡ None →
    newest (drop (i + 1) xs) at ≡ newest (drop i xs) at
past xs i at e = ap (λ (k : ℕ). newest (drop k xs) at) (add-one i) ∙ past_at xs i at e

-- a list with a first item
pub first_and_rest : (xs : List Pending) (x : Pending) → slice_get xs 0 ≡ Some x → xs ≡ x ∷ drop 1 xs
first_and_rest [] x e = cc
first_and_rest (y ∷ ys) x e = cc

-- a buffer with a store in it has something to drain
pub drains_first : (xs : List Pending) (x : Pending) → slice_get xs 0 ≡ Some x → refused_drain xs ≡ None
drains_first [] x e = cc
drains_first (y ∷ ys) x e = refl
