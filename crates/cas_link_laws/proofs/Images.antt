-- An image of linked objects has the lock object, and the words of the edge.
use Rattle.std.proofs.Common.{◌≡◌, ℕ, zero, suc, ◌+◌, ◌<◌, ◌≤◌, Bool, true, false, cond, not, List, [], ◌∷◌, ◌++◌, length, map, Option, Some, None, ap, refl, sym, ◌∙◌, subst, arith}
use Rattle.std.specs.Prelude.{nat_eq}
use Rattle.std.specs.List.{IsDistinct, list_any, slice_get}
use Rattle.std.specs.Str.{bytes_eq}
use Rattle.cas_base.specs.declared.kind.Kind.{Kind}
use Rattle.cas_base.specs.declared.decl.Form.{Form}
use Rattle.cas_base.specs.declared.decl.Form.TheVariants.{Lock, Shared, Table, Function}
use Rattle.cas_base.specs.declared.decl.Global.{Global}
use Rattle.cas_base.specs.Decl.{is_function, is_lock, words_of_form, definitions}
use Rattle.cas_settle.specs.Settle.{all_decls, cells_of as cell_rows, cells_from, lock_word, names_of}
use Rattle.cas_asm.specs.declared.image.Image.{Image}
use Rattle.cas_object_text.specs.declared.object.Object.{Object}
use Rattle.cas_lock.specs.Accepted.{accepted_code}
use Rattle.cas_atomic.specs.Cells.{AreGuards, IsLock}
use Rattle.cas_runs.specs.Label.{Each, NameBytes, same_name}
use Rattle.cas_runs.specs.Edge.{Cell, LockWord, SharedWord, TableWord}
use Rattle.cas_runs.specs.Unit.{kind_of_words, all_globals}
use Rattle.cas_edge.specs.Edges.{lock_from, lock_if, of_kind, cells_of, all_cells, edge_of}
use Rattle.cas_edge.proofs.Laid_out.{each_get, map_length}
use Rattle.circular_buffer.proofs.Places.{slice_get-append_right}
use Rattle.cas_link.specs.Parts.{decls_in, functions_in, globals_in, units_of}
use Rattle.cas_link.specs.Code.{addresses_of, places_from, code_from}
use Rattle.cas_link.specs.Image_of.{words_in, constants_in, guards_in, locks_in}
use Rattle.cas_object_text.specs.Values.{HaveValues, IsTyped, AreTyped}
use Rattle.cas_link_laws.specs.Linked.{IsLinkedOf}
use Rattle.cas_link_laws.proofs.Fitting.{fit}
use Rattle.cas_link_laws.proofs.Placed.{distinct-filter}
use Rattle.cas_link_laws.proofs.Standing.{AreData, cells-globals, globals-are_data, globals-data, globals-have_values, globals-typed}
use Rattle.cas_refine.specs.Listing.{AreCells, IsLinked}
use Rattle.cas_refine.specs.Object.{HasObject}
use Rattle.cas_link_laws.proofs.Cells.{From, cells-are, kind-of}
use Rattle.cas_link_laws.proofs.Locks.{lock-data, locks-agree}

-- The lock object.

front : {X : Type 0} (xs ys : List X) (k : ℕ) → k < length xs → slice_get (xs ++ ys) k ≡ slice_get xs k
front [] ys k less = absurd (omega (arith, less))
front (x ∷ xs) ys zero less = refl
front (x ∷ xs) ys (suc k) less = let short : k < length xs = omega (arith, less) in front xs ys k short

-- Guards.

-- a guard is the number of a lock's name
abbrev HasName : (NameBytes → Option ℕ) → Cell → Type 0
HasName num (SharedWord kind (Some guard) initial) = (lock : NameBytes) × (num lock ≡ Some guard)
HasName num _ = Unit {0}

each-append : {A : Type 0} (P : A → Type 0) (xs ys : List A) → Each P xs → Each P ys → Each P (xs ++ ys)
each-append P [] ys h k = k
each-append P (x ∷ xs) ys h k = (h.0, each-append P xs ys h.1 k)

module _ (num : NameBytes → Option ℕ) where
  shared-named : (kind : Kind) (lock : NameBytes) (g : Option ℕ) → num lock ≡ g → (vs : List ℕ) →
      Each (HasName num) (map (λ v. SharedWord kind g v) vs)
  shared-named kind lock None e [] = tt
  shared-named kind lock (Some n) e [] = tt
  shared-named kind lock None e (v ∷ vs) = (tt, shared-named kind lock None e vs)
  shared-named kind lock (Some n) e (v ∷ vs) = ((lock, e), shared-named kind lock (Some n) e vs)

  kind-named : (o : Option Kind) (lock : NameBytes) (vs : List ℕ) →
      Each (HasName num) (of_kind o (λ kind. map (λ v. SharedWord kind (num lock) v) vs))
  kind-named None lock vs = tt
  kind-named (Some kind) lock vs = shared-named kind lock (num lock) refl vs

  table-named : (vs : List ℕ) → Each (HasName num) (map (λ v. TableWord v) vs)
  table-named [] = tt
  table-named (v ∷ vs) = (tt, table-named vs)

  form-named : (form : Form) (vs : List ℕ) → Each (HasName num) (cells_of num form vs)
  form-named Lock vs = (tt, tt)
  form-named (Shared ty lock) vs = kind-named (kind_of_words ty) lock vs
  form-named (Table ty) vs = table-named vs
  form-named (Function ret params holds) vs = tt

  all-named : (gs : List Global) → Each (HasName num) (all_cells num gs)
  all-named [] = tt
  all-named (g ∷ gs) =
      each-append (HasName num) (cells_of num g.decl.form g.values) (all_cells num gs)
      (form-named g.decl.form g.values) (all-named gs)

-- a global has as many cells as words
abbrev HasCells : (NameBytes → Option ℕ) → Global → Type 0
HasCells num g = length (cells_of num g.decl.form g.values) ≡ words_of_form g.decl.form

module _ (num : NameBytes → Option ℕ) where
  form-cells : (form : Form) (vs : List ℕ) → is_function form ≡ false →
      (is_lock form ≡ false → length vs ≡ words_of_form form) → IsTyped form →
      length (cells_of num form vs) ≡ words_of_form form
  form-cells Lock vs d count has = refl
  form-cells (Shared ty lock) vs d count has =
      ap (λ o. length (of_kind o (λ kind. map (λ v. SharedWord kind (num lock) v) vs))) (kind-of ty has).1
      ∙ map_length (λ v. SharedWord (kind-of ty has).0 (num lock) v) vs ∙ count refl
  form-cells (Table ty) vs d count has = map_length (λ v. TableWord v) vs ∙ count refl
  form-cells (Function ret params holds) vs d count has = absurd (cc d)

  have-cells : (gs : List Global) → AreData gs → HaveValues gs → AreTyped gs →
      Each (HasCells num) gs
  have-cells [] d counts has = tt
  have-cells (g ∷ gs) d counts has =
      (form-cells g.decl.form g.values d.0 counts.0 has.0, have-cells gs d.1 counts.1 has.1)

  -- the cell of the number of a lock's name, where the first word has the number `first`
  abbrev IsLockAt : List Global → (first guard : ℕ) → Type 0
  IsLockAt gs first guard = (k : ℕ) × (first + k ≡ guard) × (slice_get (all_cells num gs) k ≡ Some LockWord)

  lock-here : (form : Form) (vs : List ℕ) (rest : List Cell) (first guard : ℕ) → lock_if form first ≡ Some guard →
      (k : ℕ) × (first + k ≡ guard) × (slice_get (cells_of num form vs ++ rest) k ≡ Some LockWord)
  lock-here Lock vs rest first guard e =
      let same : first ≡ guard = cc e in let there : first + 0 ≡ guard = omega (arith, same) in (0, there, refl)
  lock-here (Shared ty lock) vs rest first guard e = absurd (cc e)
  lock-here (Table ty) vs rest first guard e = absurd (cc e)
  lock-here (Function ret params holds) vs rest first guard e = absurd (cc e)

  lock-found : (gs : List Global) → Each (HasCells num) gs → (first guard : ℕ) (name : NameBytes) →
      lock_from first gs name ≡ Some guard → IsLockAt gs first guard
  lock-found [] has first guard name e = absurd (cc e)
  lock-found (g ∷ gs) has first guard name e =
      by (λ h. lock-found gs has.1 (first + words_of_form g.decl.form) guard name h) (same_name g.decl.name name) e
    where
      later : IsLockAt gs (first + words_of_form g.decl.form) guard → IsLockAt (g ∷ gs) first guard
      later rest =
          let size = words_of_form g.decl.form in
          let place : first + size + rest.0 ≡ guard = rest.1 in
          let there : first + (size + rest.0) ≡ guard = omega (arith, place) in
          let count : length (cells_of num g.decl.form g.values) ≡ size = has.0 in
          let at : size + rest.0 ≡ length (cells_of num g.decl.form g.values) + rest.0 = omega (arith, count) in (
            size + rest.0,
            there,
            slice_get-append_right (cells_of num g.decl.form g.values) (all_cells num gs) (size + rest.0) rest.0 at
                ∙ rest.2,
          )

      by : (lock_from (first + words_of_form g.decl.form) gs name ≡ Some guard →
          IsLockAt gs (first + words_of_form g.decl.form) guard) → (b : Bool) →
          cond b (lock_if g.decl.form first) (lock_from (first + words_of_form g.decl.form) gs name) ≡ Some guard →
          IsLockAt (g ∷ gs) first guard
      by found true h = lock-here g.decl.form g.values (all_cells num gs) first guard h
      by found false h = later (found h)

guards-are : (gs : List Global) → AreData gs → HaveValues gs → AreTyped gs →
    AreGuards (all_cells (lock_from 0 gs) gs)
guards-are gs globals counts has = record {
  each = λ word kind guard initial e.
      let num = lock_from 0 gs in
      let named = each_get (HasName num) (all_cells num gs) (all-named num gs) word
      (SharedWord kind (Some guard) initial) e in
      let found = lock-found num gs (have-cells num gs globals counts has) 0 guard named.0 named.1 in
      let same : 0 + found.0 ≡ guard = found.1 in
      let there : found.0 ≡ guard = omega (arith, same) in
      let locked : IsLock (all_cells num gs) guard =
      record { is = subst (λ n. slice_get (all_cells num gs) n ≡ Some LockWord) there found.2 } in
      locked;
}

-- Images.

globals-same : (objects : List Object) → globals_in objects ≡ all_globals (units_of objects)
globals-same [] = refl
globals-same (o ∷ os) = ap (λ gs. o.unit.globals ++ gs) (globals-same os)

pub linked : (objects : List Object) (entries : List (List ℕ)) (image : Image) (inside : NameBytes → Bool) →
    IsLinkedOf objects accepted_code entries image →
    IsLinked image (edge_of inside (units_of objects))
linked objects entries image inside h =
    let gs = globals_in objects in
    let defined = definitions (all_decls (decls_in objects)) in
    let typed = globals-typed objects h.whole in
    let fits = fit (length accepted_code) objects entries h.unrefused in
    let rows = cells-globals objects h.whole in
    let word_of = lock_word 0 defined in
    let distinct = subst (λ ds. IsDistinct bytes_eq (names_of ds)) (sym (globals-data objects h.whole))
    (distinct-filter (λ d. not (is_function d.form)) defined fits.settled.distinct) in
    let agree : (name : NameBytes) → word_of name ≡ lock_from 0 gs name = λ name.
    lock-data defined 0 name
    ∙ ap (λ ds. lock_word 0 ds name) (sym (globals-data objects h.whole))
    ∙ locks-agree gs distinct 0 name in
    let from : From image 0 (cells_from word_of 0 (map (λ g. g.decl) gs)) = record {
      constants = h.made.constants ∙ ap constants_in rows;
      guards = h.made.guards ∙ ap guards_in rows;
      locks = λ x low. ap (λ ls. list_any (nat_eq x) ls) (h.made.locks ∙ ap locks_in rows);
    } in
    let cells : AreCells image 0 (words_in gs) (all_cells (lock_from 0 gs) gs) =
    cells-are image word_of (lock_from 0 gs) agree gs (globals-are_data objects h.whole)
    (globals-have_values objects h.whole) typed 0 from in
    let words : AreCells image 0 image.words (all_cells (lock_from 0 gs) gs) =
    subst (λ ws. AreCells image 0 ws (all_cells (lock_from 0 gs) gs)) (sym h.made.words) cells in
    let code = code_from (addresses_of (cell_rows (decls_in objects)))
    (places_from (length accepted_code) (functions_in objects)) (length accepted_code) (functions_in objects) in
    let limit : length image.code ≤ 4194304 = image.within_code in
    let short : length image.code < 4294967295 = omega (arith, limit) in
    let object : HasObject image = record {
      short = short;
      each = λ place less. ap (λ is. slice_get is place) h.made.code ∙ front accepted_code code place less;
    } in
    record {
      object = object;
      words = subst (λ g. AreCells image 0 image.words (all_cells (lock_from 0 g) g)) (globals-same objects) words;
      guards = subst (λ g. AreGuards (all_cells (lock_from 0 g) g)) (globals-same objects)
          (guards-are gs (globals-are_data objects h.whole) (globals-have_values objects h.whole) typed);
    }
