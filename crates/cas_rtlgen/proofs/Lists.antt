-- Lists of nodes and of numbers.
use Rattle.std.proofs.Common.{◌≡◌, ℕ, zero, suc, ◌-◌, ◌<◌, ◌≤◌, List, [], ◌∷◌, ◌++◌, map, length, reverse, get_or, slice_get, slice_set, Some, None, refl, ap, ◌∙◌, arith}
use Rattle.std.proofs.lemmas.List.{reverse-append, length-reverse, get_or-reverse}
use Rattle.std.proofs.lemmas.Option.{slice_get-get_or, slice_get_past}

pub map_more : {A B : Type 0} (f : A → B) (xs : List A) (x : A) → map f (xs ++ x ∷ []) ≡ map f xs ++ f x ∷ []
map_more f [] x = refl
map_more f (y ∷ xs) x = ap (λ ys. f y ∷ ys) (map_more f xs x)

pub map_length : {A B : Type 0} (f : A → B) (xs : List A) → length (map f xs) ≡ length xs
map_length f [] = refl
map_length f (y ∷ xs) = ap suc (map_length f xs)

pub map_set : {A B : Type 0} (f : A → B) (xs : List A) (i : ℕ) (x : A) →
    map f (slice_set xs i x) ≡ slice_set (map f xs) i (f x)
map_set f [] i x = refl
map_set f (y ∷ xs) zero x = refl
map_set f (y ∷ xs) (suc i) x = ap (λ ys. f y ∷ ys) (map_set f xs i x)

-- a node that is written once what comes after it is made
pub patched : {X : Type 0} (xs ys : List X) (x y : X) →
    slice_set ((xs ++ x ∷ []) ++ ys) (length xs) y ≡ xs ++ (y ∷ ys)
patched [] ys x y = refl
patched (z ∷ xs) ys x y = ap (λ zs. z ∷ zs) (patched xs ys x y)

pub reverse_more : (xs : List ℕ) (x : ℕ) → reverse (xs ++ x ∷ []) ≡ x ∷ reverse xs
reverse_more xs x = reverse-append xs (x ∷ [])

-- an item from the end of a list
pub from_last : (xs : List ℕ) (k d : ℕ) → k < length xs →
    slice_get (reverse xs) k ≡ Some (get_or xs (length xs - 1 - k) d)
from_last xs k d lt =
    slice_get-get_or (reverse xs) k d (let same = length-reverse xs in omega (arith, lt, same))
    ∙ ap Some (get_or-reverse xs k d lt)

pub past_last : (xs : List ℕ) (k : ℕ) → length xs ≤ k → slice_get (reverse xs) k ≡ None
past_last xs k le = slice_get_past (reverse xs) k (let same = length-reverse xs in omega (arith, le, same))
