-- The words of an image are the edge's cells.
use Rattle.std.proofs.Common.{◌≡◌, ℕ, ◌+◌, ◌<◌, ◌≤◌, Bool, true, false, ◌||◌, cond, List, [], ◌∷◌, ◌++◌, length, map, drop, replicate, Option, Some, None, ap, refl, sym, ◌∙◌, subst, arith}
use Rattle.std.specs.Prelude.{nat_eq, slice_index_or}
use Rattle.std.specs.List.{cons_option, list_any}
use Rattle.std.proofs.lemmas.Bool.{eq-eqb, eqb-true}
use Rattle.std.proofs.lemmas.List.{drop-drop, get_or-drop}
use Rattle.cas_base.specs.declared.kind.Kind.{Kind}
use Rattle.cas_base.specs.declared.kind.Ty.{Ty}
use Rattle.cas_base.specs.declared.kind.Ty.TheVariants.{Int, Ptr, Array, Void}
use Rattle.cas_base.specs.declared.decl.Form.{Form}
use Rattle.cas_base.specs.declared.decl.Form.TheVariants.{Lock, Shared, Table, Function}
use Rattle.cas_base.specs.declared.decl.Decl.{Decl}
use Rattle.cas_base.specs.declared.decl.Global.{Global}
use Rattle.cas_base.specs.Decl.{is_function, is_lock, words_of_form}
use Rattle.cas_base.specs.Ty.{words_of_ty}
use Rattle.cas_settle.specs.declared.link.CellRow.{CellRow}
use Rattle.cas_settle.specs.Settle.{words_of, cell_of, cells_from}
use Rattle.cas_asm.specs.declared.image.Image.{Image}
use Rattle.cas_runs.specs.Label.{NameBytes}
use Rattle.cas_runs.specs.Unit.{kind_of_words}
use Rattle.cas_runs.specs.Edge.{Cell, SharedWord, TableWord}
use Rattle.cas_edge.specs.Edges.{of_kind, cells_of, all_cells}
use Rattle.cas_link.specs.Image_of.{words_in, constants_in, guards_in, locks_in}
use Rattle.cas_object_text.specs.Values.{HaveValues, IsOfWords, IsTyped, AreTyped}
use Rattle.cas_link_laws.proofs.Standing.{AreData, StandFrom, stand}
use Rattle.cas_refine.specs.Listing.{AreCells}

-- What stands from a place on.

at-head : {X : Type 0} (xs : List X) (k : ℕ) (d x : X) (rest : List X) → drop k xs ≡ x ∷ rest →
    slice_index_or xs k d ≡ x
at-head {X = X} xs k d x rest e =
    let here : slice_index_or xs (k + 0) d ≡ x =
    sym (get_or-drop k xs 0 d) ∙ ap (λ (ys : List X). slice_index_or ys 0 d) e in
    let same : k + 0 ≡ k = omega arith in
    subst (λ (n : ℕ). slice_index_or xs n d ≡ x) same here

after-head : {X : Type 0} (xs : List X) (k : ℕ) (x : X) (rest : List X) → drop k xs ≡ x ∷ rest →
    drop (k + 1) xs ≡ rest
after-head {X = X} xs k x rest e = sym (drop-drop 1 k xs) ∙ ap (λ (ys : List X). drop 1 ys) e

apart : (x k : ℕ) → k < x → nat_eq x k ≡ false
apart x k less = by (nat_eq x k) refl
  where
    by : (b : Bool) → nat_eq x k ≡ b → b ≡ false
    by true e = let same : x ≡ k = eqb-true x k e in absurd (omega (arith, less, same))
    by false e = refl

-- the locks among cells that stand one behind the other aren't before the first
none-before : (first last : ℕ) (cells : List CellRow) → StandFrom first cells last → (x : ℕ) → x < first →
    list_any (nat_eq x) (locks_in cells) ≡ false
none-before first last [] h x less = refl
none-before first last (c ∷ cs) h x less =
    let later : x < first + c.len = omega (arith, less) in
    by c.lock (none-before (first + c.len) last cs h.1 x later)
  where
    differ : nat_eq x c.first ≡ false
    differ = by_number (nat_eq x c.first) refl
      where
        by_number : (b : Bool) → nat_eq x c.first ≡ b → b ≡ false
        by_number true e =
            let same : x ≡ c.first = eqb-true x c.first e in
            let first_is : c.first ≡ first = h.0 in
            absurd (omega (arith, less, same, first_is))
        by_number false e = refl

    by : (b : Bool) → list_any (nat_eq x) (locks_in cs) ≡ false →
        list_any (nat_eq x) (cond b (c.first ∷ locks_in cs) (locks_in cs)) ≡ false
    by true rest = ap (λ b. b || list_any (nat_eq x) (locks_in cs)) differ ∙ rest
    by false rest = rest

pub kind-of : (ty : Ty) → IsOfWords ty → (kind : Kind) × (kind_of_words ty ≡ Some kind)
kind-of (Int kind) h = (kind, refl)
kind-of (Array kind size) h = (kind, refl)
kind-of (Ptr kind) h = absurd h
kind-of Void h = absurd h

module _ (m : Image) where
  -- from this word on the image has what these cells say
  pub record From (k : ℕ) (cells : List CellRow) : Type 0 where
    pub constants : drop k m.constant ≡ constants_in cells
    pub guards : drop k m.guards ≡ guards_in cells
    pub locks : (x : ℕ) → k ≤ x → list_any (nat_eq x) m.locks ≡ list_any (nat_eq x) (locks_in cells)

  -- the words of a shared global
  shared-run : (kind : Kind) (guard : Option ℕ) (vs : List ℕ) (k : ℕ) (constants : List Bool)
      (guards : List (Option ℕ)) (ws : List ℕ) (cs : List Cell) →
      drop k m.constant ≡ replicate (length vs) false ++ constants →
      drop k m.guards ≡ replicate (length vs) guard ++ guards →
      ((x : ℕ) → k ≤ x → x < k + length vs → list_any (nat_eq x) m.locks ≡ false) →
      (drop (k + length vs) m.constant ≡ constants → drop (k + length vs) m.guards ≡ guards →
      AreCells m (k + length vs) ws cs) →
      AreCells m k (vs ++ ws) (map (λ v. SharedWord kind guard v) vs ++ cs)
  shared-run kind guard [] k constants guards ws cs c g l go =
      let same : k ≡ k + 0 = omega arith in
      subst (λ (n : ℕ). AreCells m n ws cs) (sym same)
      (go (ap (λ n. drop n m.constant) (sym same) ∙ c) (ap (λ n. drop n m.guards) (sym same) ∙ g))
  shared-run kind guard (v ∷ vs) k constants guards ws cs c g l go =
      let more = replicate (length vs) false ++ constants in
      let others = replicate (length vs) guard ++ guards in
      let same : k + 1 + length vs ≡ k + length (v ∷ vs) = omega arith in
      let here : k < k + length (v ∷ vs) = omega arith in
      let self : k ≤ k = omega arith in (
        (
          at-head m.constant k false false more c,
          l k self here,
          sym (at-head m.guards k None guard others g),
          refl,
        ),
        shared-run kind guard vs (k + 1) constants guards ws cs (after-head m.constant k false more c)
            (after-head m.guards k guard others g)
            (λ x low high.
            let low_too : k ≤ x = omega (arith, low) in
            let high_too : x < k + length (v ∷ vs) = omega (arith, high, same) in
            l x low_too high_too)
            (λ p q. subst (λ (n : ℕ). AreCells m n ws cs) (sym same)
            (go (ap (λ n. drop n m.constant) (sym same) ∙ p) (ap (λ n. drop n m.guards) (sym same) ∙ q))),
      )

  -- the words of a table
  table-run : (vs : List ℕ) (k : ℕ) (constants : List Bool) (guards : List (Option ℕ)) (ws : List ℕ) (cs : List Cell) →
      drop k m.constant ≡ replicate (length vs) true ++ constants →
      drop k m.guards ≡ replicate (length vs) None ++ guards →
      (drop (k + length vs) m.constant ≡ constants → drop (k + length vs) m.guards ≡ guards →
      AreCells m (k + length vs) ws cs) →
      AreCells m k (vs ++ ws) (map (λ v. TableWord v) vs ++ cs)
  table-run [] k constants guards ws cs c g go =
      let same : k ≡ k + 0 = omega arith in
      subst (λ (n : ℕ). AreCells m n ws cs) (sym same)
      (go (ap (λ n. drop n m.constant) (sym same) ∙ c) (ap (λ n. drop n m.guards) (sym same) ∙ g))
  table-run (v ∷ vs) k constants guards ws cs c g go =
      let more = replicate (length vs) true ++ constants in
      let others = replicate (length vs) None ++ guards in
      let same : k + 1 + length vs ≡ k + length (v ∷ vs) = omega arith in (
        (at-head m.constant k false true more c, refl),
        table-run vs (k + 1) constants guards ws cs (after-head m.constant k true more c)
            (after-head m.guards k None others g)
            (λ p q. subst (λ (n : ℕ). AreCells m n ws cs) (sym same)
            (go (ap (λ n. drop n m.constant) (sym same) ∙ p) (ap (λ n. drop n m.guards) (sym same) ∙ q))),
      )

  module _ (word_of num : NameBytes → Option ℕ) (agree : (name : NameBytes) → word_of name ≡ num name) where
    step : (form : Form) (vs name : List ℕ) → is_function form ≡ false →
        (is_lock form ≡ false → length vs ≡ words_of_form form) → IsTyped form → (ds : List Decl)
        (k : ℕ) (ws : List ℕ) (cs : List Cell) →
        From k (cons_option (cell_of word_of k name form) (cells_from word_of (k + words_of_form form) ds)) →
        (From (k + words_of_form form) (cells_from word_of (k + words_of_form form) ds) →
        AreCells m (k + words_of_form form) ws cs) →
        AreCells m k (cond (is_lock form) (1 ∷ []) vs ++ ws) (cells_of num form vs ++ cs)
    step Lock vs name d count has ds k ws cs h go =
        let rest = cells_from word_of (k + 1) ds in
        let self : k ≤ k = omega arith in
        let locked : list_any (nat_eq k) m.locks ≡ true =
        h.locks k self ∙ ap (λ b. b || list_any (nat_eq k) (locks_in rest)) (eq-eqb k k refl) in (
          (at-head m.constant k false false (constants_in rest) h.constants, locked, refl),
          go (record {
            constants = after-head m.constant k false (constants_in rest) h.constants;
            guards = after-head m.guards k None (guards_in rest) h.guards;
            locks = λ x low.
                let less : k < x = omega (arith, low) in
                let low_too : k ≤ x = omega (arith, low) in
                h.locks x low_too ∙ ap (λ b. b || list_any (nat_eq x) (locks_in rest)) (apart x k less);
          }),
        )
    step (Shared ty lock) vs name d count has ds k ws cs h go =
        let size = words_of_ty ty in
        let rest = cells_from word_of (k + size) ds in
        let long : length vs ≡ size = count refl in
        let last = k + size + words_of ds in
        let stands = stand word_of (k + size) ds in
        let there : k + length vs ≡ k + size = ap (λ n. k + n) long in
        subst (λ o. AreCells m k (vs ++ ws) (of_kind o (λ kind. map (λ v. SharedWord kind (num lock) v) vs) ++ cs))
        (sym (kind-of ty has).1)
        (shared-run (kind-of ty has).0 (num lock) vs k (constants_in rest) (guards_in rest) ws cs
        (h.constants ∙ ap (λ n. replicate n false ++ constants_in rest) (sym long))
        (h.guards ∙ ap (λ n. replicate n (word_of lock) ++ guards_in rest) (sym long)
        ∙ ap (λ g. replicate (length vs) g ++ guards_in rest) (agree lock))
        (λ x low high.
        let less : x < k + size = omega (arith, high, long) in
        h.locks x low ∙ none-before (k + size) last rest stands x less)
        (λ p q. subst (λ (n : ℕ). AreCells m n ws cs) (sym there) (go (record {
          constants = ap (λ n. drop n m.constant) (sym there) ∙ p;
          guards = ap (λ n. drop n m.guards) (sym there) ∙ q;
          locks = λ x low. let low_too : k ≤ x = omega (arith, low) in h.locks x low_too;
        }))))
    step (Table ty) vs name d count has ds k ws cs h go =
        let size = words_of_ty ty in
        let rest = cells_from word_of (k + size) ds in
        let long : length vs ≡ size = count refl in
        let there : k + length vs ≡ k + size = ap (λ n. k + n) long in
        table-run vs k (constants_in rest) (guards_in rest) ws cs
        (h.constants ∙ ap (λ n. replicate n true ++ constants_in rest) (sym long))
        (h.guards ∙ ap (λ n. replicate n None ++ guards_in rest) (sym long))
        (λ p q. subst (λ (n : ℕ). AreCells m n ws cs) (sym there) (go (record {
          constants = ap (λ n. drop n m.constant) (sym there) ∙ p;
          guards = ap (λ n. drop n m.guards) (sym there) ∙ q;
          locks = λ x low. let low_too : k ≤ x = omega (arith, low) in h.locks x low_too;
        })))
    step (Function ret params holds) vs name d count has ds k ws cs h go = absurd (cc d)

    pub cells-are : (gs : List Global) → AreData gs → HaveValues gs → AreTyped gs → (k : ℕ) →
        From k (cells_from word_of k (map (λ g. g.decl) gs)) → AreCells m k (words_in gs) (all_cells num gs)
    cells-are [] d counts has k h = tt
    cells-are (g ∷ gs) d counts has k h =
        step g.decl.form g.values g.decl.name d.0 counts.0 has.0 (map (λ g. g.decl) gs) k (words_in gs) (all_cells num gs) h
        (cells-are gs d.1 counts.1 has.1 (k + words_of_form g.decl.form))
