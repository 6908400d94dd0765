-- Locals by their names, the newest one first.
use Rattle.std.proofs.Common.{◌≡◌, ℕ, suc, ◌+◌, ◌-◌, ◌<◌, ◌≤◌, Bool, true, false, cond, leb, ◌||◌, List, [], ◌∷◌, ◌++◌, length, map, reverse, take, drop, get_or, Option, Some, None, ap, refl, sym, subst, ◌∙◌, min, arith, is_some, IsSome}
use Rattle.std.specs.Prelude.{⊤}
use Rattle.std.proofs.lemmas.Bool.{true≢false, leb-false, leb-true, le-leb, lt-leb}
use Rattle.std.proofs.lemmas.Cmp.{nat_list_eq_equiv}
use Rattle.std.proofs.lemmas.Slice.Eq.{bytes_eq-Decides}
use Rattle.std.proofs.lemmas.List.{length-map, length-reverse, get_or_push, get_or_append_left, reverse-append, drop-drop, drop-take, drop_all, length-append, length-drop, take-append-drop}
use Rattle.std.specs.Borrow.{Bor}
use Rattle.std.specs.List.{list_any}
use Rattle.std.specs.Map.{lookup}
use Rattle.std.specs.Str.{bytes_eq}
use Rattle.cas_type.specs.View.{AreHiding, IsNewest, bound_of, newest_of}
use Rattle.cas_type.specs.declared.locals.Visible.{Visible}
use Rattle.cas_base.specs.declared.kind.Ty.{Ty}
use Rattle.cas_syntax.specs.declared.tree.Ident.{Ident}
use Rattle.cas_typed.specs.Scopes.{Bound, Meaning, variable, local_named, parameters}

-- an index, if there is one, is below this number
abbrev pub Within : ℕ → Option ℕ → Type 0
Within n None = ⊤
Within n (Some i) = i < n

wider : (n : ℕ) (found : Option ℕ) → Within n found → Within (suc n) found
wider n None h = tt
wider n (Some i) h = omega (arith, h)

within_next : (b : Bool) (n : ℕ) (found : Option ℕ) → Within n found → Within (suc n) (cond b (Some n) found)
within_next true n found h = omega arith
within_next false n found h = wider n found h

-- an index is that of a local
pub within : (vs : List Bound) (name : List ℕ) → Within (length vs) (newest_of vs name)
within [] name = tt
within (v ∷ vs) name = within_next (bytes_eq v.name name) (length vs) (newest_of vs name) (within vs name)

-- what the local at an index means, or else another
abbrev pub read_at : List Visible → Option ℕ → Meaning → Visible → Meaning
read_at vs None otherwise d = otherwise
read_at vs (Some i) otherwise d = variable (get_or (reverse vs) i d).number (get_or (reverse vs) i d).ty

last_one : (v : Visible) (vs : List Visible) (d : Visible) → get_or (reverse (v ∷ vs)) (length vs) d ≡ v
last_one v vs d = ap (λ l. get_or l (length vs) d) (reverse-append (v ∷ []) vs)
    ∙ get_or_push (reverse vs) v d (length vs) (length-reverse vs)

older_one : (v : Visible) (vs : List Visible) (i : ℕ) (d : Visible) → i < length vs →
    get_or (reverse (v ∷ vs)) i d ≡ get_or (reverse vs) i d
older_one v vs i d h =
    let inside : i < length (reverse vs) = omega (arith, h, length-reverse vs) in
    ap (λ l. get_or l i d) (reverse-append (v ∷ []) vs) ∙ get_or_append_left (reverse vs) (v ∷ []) d i inside

read_next : (b : Bool) (v : Visible) (vs : List Visible) (n : ℕ) (found : Option ℕ) (m otherwise : Meaning)
    (d : Visible)
    → n ≡ length vs → Within n found → m ≡ read_at vs found otherwise d
    → cond b (variable v.number v.ty) m ≡ read_at (v ∷ vs) (cond b (Some n) found) otherwise d
read_next true v vs n found m otherwise d e within h =
    ap (λ w. variable w.number w.ty) (sym (ap (λ k. get_or (reverse (v ∷ vs)) k d) e ∙ last_one v vs d))
read_next false v vs n None m otherwise d e within h = h
read_next false v vs n (Some i) m otherwise d e within h =
    h ∙ ap (λ w. variable w.number w.ty) (sym (older_one v vs i d (omega (arith, e, within))))

-- what a name means is read at the index of its newest local
pub read_newest : (vs : List Visible) (name : List ℕ) (otherwise : Meaning) (d : Visible)
    → local_named (map bound_of vs) name otherwise ≡ read_at vs (newest_of (map bound_of vs) name) otherwise d
read_newest [] name otherwise d = refl
read_newest (v ∷ vs) name otherwise d =
    read_next (bytes_eq v.name.now name) v vs (length (map bound_of vs)) (newest_of (map bound_of vs) name)
    (local_named (map bound_of vs) name otherwise) otherwise d
    (length-map vs bound_of) (within (map bound_of vs) name) (read_newest vs name otherwise d)

-- whether an index is that of a local beyond so many old ones
abbrev pub is_beyond : ℕ → Option ℕ → Bool
is_beyond older None = false
is_beyond older (Some i) = leb older i

not_beyond : (older n : ℕ) (found : Option ℕ) → Within n found → n ≤ older → is_beyond older found ≡ false
not_beyond older n None within h = refl
not_beyond older n (Some i) within h = let lower : i < older = omega (arith, within, h) in lt-leb older i lower

beyond_next : (b : Bool) (older n : ℕ) (found : Option ℕ) (rest : Bool) → older ≤ n → rest ≡ is_beyond older found →
    (b || rest) ≡ is_beyond older (cond b (Some n) found)
beyond_next true older n found rest le h = sym (le-leb older n le)
beyond_next false older n found rest le h = h

beyond_cases : (older : ℕ) (v : Bound) (vs : List Bound) (name : List ℕ) →
    list_any (λ v. bytes_eq v.name name) (take (length vs - older) vs) ≡ is_beyond older (newest_of vs name)
    → (b : Bool) → leb older (length vs) ≡ b
    → list_any (λ v. bytes_eq v.name name) (take (length (v ∷ vs) - older) (v ∷ vs)) ≡ is_beyond older
    (newest_of (v ∷ vs) name)
beyond_cases older v vs name rest true h =
    let le : older ≤ length vs = leb-true older (length vs) h in
    let at : length (v ∷ vs) - older ≡ suc (length vs - older) = omega (arith, le) in
    ap (λ k. list_any (λ (v : Bound). bytes_eq v.name name) (take k (v ∷ vs))) at
    ∙ beyond_next (bytes_eq v.name name) older (length vs) (newest_of vs name)
    (list_any (λ (v : Bound). bytes_eq v.name name) (take (length vs - older) vs)) le rest
beyond_cases older v vs name rest false h =
    let lt : length vs < older = leb-false older (length vs) h in
    let at : length (v ∷ vs) - older ≡ 0 = omega (arith, lt) in
    ap (λ k. list_any (λ (v : Bound). bytes_eq v.name name) (take k (v ∷ vs))) at
    ∙ sym (not_beyond older (length (v ∷ vs)) (newest_of (v ∷ vs) name) (within (v ∷ vs) name) (omega (arith, lt)))

-- a local beyond so many old ones has an index that isn't below their number
pub beyond_is : (older : ℕ) (vs : List Bound) (name : List ℕ) →
    list_any (λ v. bytes_eq v.name name) (take (length vs - older) vs) ≡ is_beyond older (newest_of vs name)
beyond_is older [] name = let at : length {A = Bound} [] - older ≡ 0 =
    omega arith in ap (λ k. list_any (λ (v : Bound). bytes_eq v.name name) (take k [])) at
beyond_is older (v ∷ vs) name = beyond_cases older v vs name (beyond_is older vs name) (leb older (length vs)) refl

unnamed_next : (b : Bool) (n : ℕ) (found : Option ℕ) (m m' otherwise : Meaning) →
    (is_some found ≡ false → m ≡ otherwise) → is_some (cond b (Some n) found) ≡ false → cond b m' m ≡ otherwise
unnamed_next true n found m m' otherwise h none = absurd (true≢false none)
unnamed_next false n found m m' otherwise h none = h none

-- a name that no local has means something else
pub unnamed : (vs : List Bound) (name : List ℕ) (otherwise : Meaning) → is_some (newest_of vs name) ≡ false →
    local_named vs name otherwise ≡ otherwise
unnamed [] name otherwise none = refl
unnamed (v ∷ vs) name otherwise none =
    unnamed_next (bytes_eq v.name name) (length vs) (newest_of vs name) (local_named vs name otherwise)
    (variable v.number v.ty) otherwise (unnamed vs name otherwise) none

newest_first : (stack after : List Visible) (v : Visible) → after ≡ stack ++ v ∷ [] → reverse after ≡ v ∷ reverse stack
newest_first stack after v h = ap reverse h ∙ reverse-append stack (v ∷ [])

-- one more local hides the newest one of its name
pub hiding_with : (stack after : List Visible) (v : Visible) → after ≡ stack ++ v ∷ [] →
    v.hidden ≡ newest_of (map bound_of (reverse stack)) v.name.now
    → AreHiding (reverse stack) → AreHiding (reverse after)
hiding_with stack after v h hides before = subst AreHiding (sym (newest_first stack after v h)) (hides, before)

-- one more local is the newest one of its name
pub newest_with : (stack after : List Visible) (v : Visible) → after ≡ stack ++ v ∷ [] →
    (key : List ℕ) (index : ℕ) (entries table : List (Bor (List ℕ) × ℕ))
    → key ≡ v.name.now → index ≡ length stack
    → ((name : List ℕ) → lookup (λ key. bytes_eq name key.now) table ≡ cond (bytes_eq key name) (Some index)
    (lookup (λ key. bytes_eq name key.now) entries))
    → IsNewest (map bound_of (reverse stack)) entries → IsNewest (map bound_of (reverse after)) table
newest_with stack after v h key index entries table text counted updated before name =
    let here : index ≡ length (map bound_of (reverse stack)) =
    counted ∙ sym (length-map (reverse stack) bound_of ∙ length-reverse stack) in
    updated name
    ∙ ap (cond (bytes_eq key name) (Some index)) (before name)
    ∙ (λ i. cond (bytes_eq (text i) name) (Some (here i)) (newest_of (map bound_of (reverse stack)) name))
    ∙ ap (λ vs. newest_of (map bound_of vs) name) (sym (newest_first stack after v h))

without_cases : (v : Visible) (vs : List Visible) (found after : Option ℕ) (name : List ℕ)
    → found ≡ newest_of (map bound_of (v ∷ vs)) name → v.hidden ≡ newest_of (map bound_of vs) v.name.now
    → after ≡ cond (bytes_eq v.name.now name) v.hidden found → (b : Bool) → bytes_eq v.name.now name ≡ b →
    after ≡ newest_of (map bound_of vs) name
without_cases v vs found after name before hides h true e =
    h ∙ ap (λ b. cond b v.hidden found) e ∙ hides ∙ ap (newest_of (map bound_of vs))
    ((bytes_eq-Decides v.name.now name).0 e)
without_cases v vs found after name before hides h false e =
    h ∙ ap (λ b. cond b v.hidden found) e ∙ before ∙ ap
    (λ b. cond b (Some (length (map bound_of vs))) (newest_of (map bound_of vs) name)) e

-- the newest local's name is in the table
pub is_there : (stack before : List Visible) (v : Visible) → before ≡ stack ++ v ∷ [] → (key : List ℕ) →
    key ≡ v.name.now → (entries : List (Bor (List ℕ) × ℕ))
    → IsNewest (map bound_of (reverse before)) entries → IsSome (lookup (λ k. bytes_eq key k.now) entries)
is_there stack before v h key text entries newest =
    let vs = map bound_of (reverse stack) in
    let named : bytes_eq v.name.now key ≡ true = ap (bytes_eq v.name.now) text ∙ nat_list_eq_equiv.refl v.name.now in
    let is : lookup (λ k. bytes_eq key k.now) entries ≡ Some (length vs) =
    newest key ∙ ap (λ all. newest_of (map bound_of all) key) (newest_first stack before v h)
    ∙ ap (λ b. cond b (Some (length vs)) (newest_of vs key)) named in
    ap is_some is

-- without the newest local
pub newest_without : (stack before : List Visible) (v : Visible) → before ≡ stack ++ v ∷ [] →
    (entries table : List (Bor (List ℕ) × ℕ))
    → ((name : List ℕ) → lookup (λ key. bytes_eq name key.now) table ≡ cond (bytes_eq v.name.now name) v.hidden
    (lookup (λ key. bytes_eq name key.now) entries))
    → AreHiding (reverse before) → IsNewest (map bound_of (reverse before)) entries →
    IsNewest (map bound_of (reverse stack)) table
newest_without stack before v h entries table updated hiding newest name =
    let turned = newest_first stack before v h in
    without_cases v (reverse stack) (lookup (λ key. bytes_eq name key.now) entries)
    (lookup (λ key. bytes_eq name key.now) table) name
    (newest name ∙ ap (λ vs. newest_of (map bound_of vs) name) turned) (subst AreHiding turned hiding).0 (updated name)
    (bytes_eq v.name.now name) refl

pub hiding_without : (stack before : List Visible) (v : Visible) → before ≡ stack ++ v ∷ [] →
    AreHiding (reverse before) → AreHiding (reverse stack)
hiding_without stack before v h hiding = (subst AreHiding (newest_first stack before v h) hiding).1

-- only the oldest locals, after one goes
pub oldest_next : (all old new : List Bound) → old ≡ drop (length all - length old) all → 0 < length old →
    new ≡ drop 1 old → new ≡ drop (length all - length new) all
oldest_next all old new h some e =
    let whole : length old ≡ length all - (length all - length old) =
    ap length h ∙ length-drop (length all - length old) all in
    let one : length new ≡ length old - 1 = ap length e ∙ length-drop 1 old in
    let at : (length all - length old) + 1 ≡ length all - length new = omega (arith, whole, one, some) in
    e ∙ ap (drop 1) h ∙ drop-drop 1 (length all - length old) all ∙ ap (λ k. drop k all) at

no_types : (n : ℕ) (xs : List Ident) → parameters n xs [] ≡ []
no_types n [] = refl
no_types n (x ∷ xs) = refl

-- behind all names or all types there is no parameter
pub no_parameter : (n : ℕ) (xs : List Ident) (tys : List Ty) → n ≡ min (length xs) (length tys) → (b : Bool) →
    leb (length xs) (length tys) ≡ b
    → parameters n (drop n xs) (drop n tys) ≡ []
no_parameter n xs tys e true h =
    let le : length xs ≤ length tys = leb-true (length xs) (length tys) h in
    ap (λ ys. parameters n ys (drop n tys)) (drop_all n xs (omega (arith, e, le)))
no_parameter n xs tys e false h =
    let lt : length tys < length xs = leb-false (length xs) (length tys) h in
    ap (parameters n (drop n xs)) (drop_all n tys (omega (arith, e, lt))) ∙ no_types n (drop n xs)

module _ (all new : List Bound) (around visible : ℕ) (less : around ≤ visible) (enough : visible ≤ length all)
    (kept : new ≡ drop (length all - visible) all) where
  stays : length new ≡ visible
  stays = let counted : length new ≡ length all - (length all - visible) =
      ap length kept ∙ length-drop (length all - visible) all in omega (arith, counted, enough)

  -- the innermost block, where only the oldest locals stay
  pub block_kept : take (length new - around) new
      ≡ drop ((length (take (length all - around) all) + length (drop (length all - around) all)) - visible)
      (take (length all - around) all)
  block_kept =
      let gone : ℕ = length all - visible in
      let left : length new - around ≡ visible - around = omega (arith, stays) in
      let whole : gone + (visible - around) ≡ length all - around = omega (arith, less, enough) in
      let counted : length (take (length all - around) all) + length (drop (length all - around) all) ≡ length all =
      sym (length-append (take (length all - around) all) (drop (length all - around) all))
      ∙ ap length (take-append-drop (length all - around) all) in
      let at : gone ≡ (length (take (length all - around) all) + length (drop (length all - around) all)) - visible =
      omega (arith, counted) in
      (λ i. take (left i) (kept i))
      ∙ sym (drop-take gone (visible - around) all)
      ∙ (λ i. drop (at i) (take (whole i) all))

  -- the locals around it
  pub around_kept : drop (length new - around) new ≡ drop (length all - around) all
  around_kept =
      let left : length new - around ≡ visible - around = omega (arith, stays) in
      let whole : (length all - visible) + (visible - around) ≡ length all - around = omega (arith, less, enough) in
      (λ i. drop (left i) (kept i)) ∙ drop-drop (visible - around) (length all - visible) all
      ∙ ap (λ k. drop k all) whole
