-- Names that were met.
use Rattle.std.proofs.Common.{◌≡◌, Bool, true, false, ◌||◌, List, [], ◌∷◌, ◌++◌, map, reverse, ℕ, refl, ap, sym, ◌∙◌}
use Rattle.std.specs.Prelude.{if◌then◌else◌}
use Rattle.std.specs.Borrow.{Bor}
use Rattle.std.specs.List.{list_any}
use Rattle.std.specs.Str.{bytes_eq}
use Rattle.std.proofs.lemmas.List.{map-append, reverse-append}
use Rattle.std.proofs.lemmas.List.Folds.{list_any-append}

or_comm : (a b : Bool) → (a || b) ≡ (b || a)
or_comm true true = refl
or_comm true false = refl
or_comm false true = refl
or_comm false false = refl

or_false : (a : Bool) → (a || false) ≡ a
or_false true = refl
or_false false = refl

-- the names, the newest first
abbrev pub newest_first : List (Bor (List ℕ)) → List (List ℕ)
newest_first keys = reverse (map (λ key. key.now) keys)

newest-cons : (key : Bor (List ℕ)) (keys : List (Bor (List ℕ))) →
    newest_first (key ∷ keys) ≡ newest_first keys ++ key.now ∷ []
newest-cons key keys = reverse-append (key.now ∷ []) (map (λ key. key.now) keys)

-- a name is among the keys exactly if it is among the names
pub any_newest : (name : List ℕ) (keys : List (Bor (List ℕ))) →
    list_any (λ key. bytes_eq name key.now) keys ≡ list_any (bytes_eq name) (newest_first keys)
any_newest name [] = refl
any_newest name (key ∷ keys) =
    ap (λ b. bytes_eq name key.now || b) (any_newest name keys)
    ∙ or_comm (bytes_eq name key.now) (list_any (bytes_eq name) (newest_first keys))
    ∙ ap (λ b. list_any (bytes_eq name) (newest_first keys) || b) (sym (or_false (bytes_eq name key.now)))
    ∙ sym (list_any-append (bytes_eq name) (newest_first keys) (key.now ∷ []))
    ∙ ap (list_any (bytes_eq name)) (sym (newest-cons key keys))

-- one more key is the newest
pub newest-push : (keys : List (Bor (List ℕ))) (key : Bor (List ℕ)) →
    newest_first (keys ++ key ∷ []) ≡ key.now ∷ newest_first keys
newest-push keys key =
    ap reverse (map-append (λ (k : Bor (List ℕ)). k.now) keys (key ∷ []))
    ∙ reverse-append (map (λ (k : Bor (List ℕ)). k.now) keys) (key.now ∷ [])

-- where a name wasn't met
pub kept_new : (b : Bool) (keys : List (Bor (List ℕ))) (key : Bor (List ℕ)) → b ≡ false →
    (if b then keys else keys ++ key ∷ []) ≡ keys ++ key ∷ []
kept_new b keys key h = ap (λ c. if c then keys else keys ++ key ∷ []) h
