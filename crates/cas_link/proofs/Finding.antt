-- Rows that are looked up.
use Rattle.std.proofs.Common.{◌≡◌, ℕ, Bool, true, false, ◌==◌, cond, List, [], ◌∷◌, ◌++◌, map, Option, Some, None, is_some, ap, refl, sym, ◌∙◌, append_assoc}
use Rattle.std.specs.Option.{option_or}
use Rattle.std.specs.Borrow.{Bor}
use Rattle.std.specs.Map.{lookup}
use Rattle.std.specs.Str.{bytes_eq}
use Rattle.cas_link.specs.Rows.{found_by, found}

-- what contracts see of a table's entries
abbrev pub rows_of : List (Bor (List ℕ) × ℕ) → List (List ℕ × ℕ)
rows_of entries = map (λ entry. (entry.0.now, entry.1)) entries

-- a look-up in a table finds the row
pub lookup-rows : (name : List ℕ) (entries : List (Bor (List ℕ) × ℕ)) →
    lookup (λ key. bytes_eq name key.now) entries ≡ found (rows_of entries) name
lookup-rows name [] = refl
lookup-rows name (entry ∷ entries) = ap (λ o. cond (bytes_eq name entry.0.now) (Some entry.1) o)
    (lookup-rows name entries)

pub lookup-numbers : (key : ℕ) (entries : List (ℕ × ℕ)) →
    lookup (λ k. key == k) entries ≡ found_by (λ a b. a == b) entries key
lookup-numbers key [] = refl
lookup-numbers key (entry ∷ entries) = ap (λ o. cond (key == entry.0) (Some entry.1) o) (lookup-numbers key entries)

pub none-is_some : {X : Type 0} (o : Option X) → is_some o ≡ false → o ≡ None
none-is_some None e = refl
none-is_some (Some x) e = cc

module _ {K : Type 0} (eq : K → K → Bool) where
  branch : (b : Bool) (number : ℕ) (o p : Option ℕ) → cond b (Some number) (option_or o p) ≡ option_or
      (cond b (Some number) o) p
  branch true number o p = refl
  branch false number o p = refl

  -- what two lists of rows find
  pub found-append : (rows more : List (K × ℕ)) (key : K) →
      found_by eq (rows ++ more) key ≡ option_or (found_by eq rows key) (found_by eq more key)
  found-append [] more key = refl
  found-append (row ∷ rows) more key =
      ap (λ o. cond (eq key row.0) (Some row.1) o) (found-append rows more key)
      ∙ branch (eq key row.0) row.1 (found_by eq rows key) (found_by eq more key)

  -- rows that find the same, with the same rows after them
  pub same-append : (rows others more : List (K × ℕ)) → ((key : K) → found_by eq rows key ≡ found_by eq others key)
      → (key : K) → found_by eq (rows ++ more) key ≡ found_by eq (others ++ more) key
  same-append rows others more same key =
      found-append rows more key ∙ ap (λ o. option_or o (found_by eq more key)) (same key)
      ∙ sym (found-append others more key)

  -- a row with another key isn't found
  found-other : (rows : List (K × ℕ)) (key : K) (number : ℕ) (other : K) → eq other key ≡ false →
      found_by eq rows other ≡ found_by eq (rows ++ (key, number) ∷ []) other
  found-other [] key number other differ = ap (λ b. cond b (Some number) None) (sym differ)
  found-other (r ∷ rs) key number other differ = ap (λ o. cond (eq other r.0) (Some r.1) o)
      (found-other rs key number other differ)

  module _ (sound : (a b : K) → eq a b ≡ true → a ≡ b) where
    apart : (rows : List (K × ℕ)) (first key : K) (number : ℕ) (other : K) (b : Bool) → eq other key ≡ b →
        eq other first ≡ false → eq key first ≡ true
        → found_by eq rows other ≡ found_by eq (rows ++ (key, number) ∷ []) other
    apart rows first key number other true e n k =
        let same : eq other first ≡ true = ap (λ x. eq x first) (sound other key e) ∙ k in
        absurd (cc (n, same))
    apart rows first key number other false e n k = found-other rows key number other e

    -- a row with a key that is there is never found
    pub found-again : (rows : List (K × ℕ)) (key : K) (number : ℕ) → is_some (found_by eq rows key) ≡ true
        → (other : K) → found_by eq rows other ≡ found_by eq (rows ++ (key, number) ∷ []) other
    found-again [] key number there other = absurd (cc there)
    found-again (row ∷ rows) key number there other = by (λ h. found-again rows key number h other) (eq other row.0)
        refl (eq key row.0) refl there
      where
        by : (is_some (found_by eq rows key) ≡ true → found_by eq rows other ≡ found_by eq (rows ++ (key, number) ∷ [])
            other)
            → (b : Bool) → eq other row.0 ≡ b → (d : Bool) → eq key row.0 ≡ d →
            is_some (cond d (Some row.1) (found_by eq rows key)) ≡ true
            → cond b (Some row.1) (found_by eq rows other) ≡ cond b (Some row.1)
            (found_by eq (rows ++ (key, number) ∷ []) other)
        by again true e d f h = refl
        by again false e true f h = apart rows row.0 key number other (eq other key) refl e f
        by again false e false f h = again h

-- one more row, and the rows after it
module _ {K : Type 0} (eq : K → K → Bool) (rows new more rest all : List (K × ℕ)) (row : K × ℕ)
    (added : (key : K) → found_by eq new key ≡ found_by eq (rows ++ row ∷ []) key) (is : rest ≡ row ∷ more)
    (so_far : (key : K) → found_by eq (rows ++ rest) key ≡ found_by eq all key) where
  pub found-step : (key : K) → found_by eq (new ++ more) key ≡ found_by eq all key
  found-step key =
      same-append eq new (rows ++ row ∷ []) more added key
      ∙ ap (λ rs. found_by eq rs key) (append_assoc rows (row ∷ []) more ∙ ap (λ rs. rows ++ rs) (sym is))
      ∙ so_far key
