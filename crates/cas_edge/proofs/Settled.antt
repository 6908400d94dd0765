-- The edge of a settled program fits it, and each of its units.
use Rattle.std.specs.Prelude.{map, filter, not, fold, All}
use Rattle.std.specs.List.{AllByRecursion, IsDistinct, list_any, find}
use Rattle.std.specs.Option.{IsSomeAnd}
use Rattle.std.specs.Str.{bytes_eq}
use Rattle.std.specs.Cmp.Lexicographic.{pointwise}
use Rattle.std.proofs.Common.{◌≡◌, ℕ, zero, suc, ◌+◌, ◌≤◌, List, [], ◌∷◌, ◌++◌, length, slice_get, Bool, true, false, ◌&&◌, ◌||◌, ◌==◌, IsTrue, if◌then◌else◌, Option, Some, None, refl, sym, ap, ◌∙◌, subst, ⊎_elim, arith, eqb-true}
use Rattle.std.proofs.lemmas.Map.Keys.{IsDistinct-head, IsDistinct-tail}
use Rattle.std.proofs.lemmas.List.Elements.{recursion_from_All}
use Rattle.std.proofs.lemmas.Slice.Eq.{bytes_eq-Decides}
use Rattle.cas_base.specs.declared.kind.Kind.TheVariants.{I32}
use Rattle.cas_base.specs.declared.kind.Ty.{Ty}
use Rattle.cas_base.specs.declared.kind.Ty.TheVariants.{Void, Int}
use Rattle.cas_base.specs.declared.decl.Decl.{Decl}
use Rattle.cas_base.specs.declared.decl.Form.{Form}
use Rattle.cas_base.specs.declared.decl.Form.TheVariants.{Lock, Shared, Table, Function}
use Rattle.cas_base.specs.declared.decl.Global.{Global}
use Rattle.cas_base.specs.declared.decl.Unit.{Unit as UnitOf}
use Rattle.cas_base.specs.Decl.{is_function, words_of_form, is_within, same_set, agrees, is_entry, is_named, definitions, references, data_of, definition_of}
use Rattle.cas_base.specs.Unit.{IsInOrder}
use Rattle.cas_base.specs.Ty.{same_ty}
use Rattle.cas_program.proofs.Agreeing.{same_ty_is, same_tys_are}
use Rattle.cas_settle.specs.Settle.{names_of, words_of, IsSettled}
use Rattle.cas_settle.specs.Settle as settle
use Rattle.cas_runs.specs.Label.{Each, NameBytes, same_name}
use Rattle.cas_runs.specs.Edge.{Cell, Signature, Stretch, Edge, signature_of}
use Rattle.cas_runs.specs.Outside.{Holds, IsAmong, first, later}
use Rattle.cas_runs.specs.Unit.{Setting, IsStack, IsCode, Language, lock_at, lock_number, guard_of, and_number, lock_numbers, IsSharedCell, AreSameLocks, IsDeclared, AreDeclared, HaveValues, HaveData, first_value, AreApart, AllApart, defined_as, defines, has_function, IsEdge, FitsUnit, FitsProgram, all_decls, all_globals, all_functions, at_unit}
use Rattle.cas_runs.proofs.Tests.{same_name_self, same_name_from, true_or_false}
use Rattle.cas_runs.proofs.Entered.{all_in_order_defined}
use Rattle.cas_runs.proofs.Fitting.{parts_fit}
use Rattle.cas_edge.specs.Edges.{stretch_from, lock_from, cells_of, all_cells, numbers_of, and_signature, signature_by, signatures, edge_of, HasItsValues}
use Rattle.cas_edge.proofs.Laid_out.{append_length, each_get, each_by, AllHave, AreFresh, At, count, value_cell, word_cell, has_words, lock_known, all_in_kind, find_at, global_at, stretches_apart}

-- Names.

name_differs : (a b : NameBytes) → bytes_eq a b ≡ false → same_name a b ≡ false
name_differs a b e = true_or_false (same_name a b) (λ h.
    let same : a ≡ b = same_name_from a b h in
    let yes : bytes_eq a b ≡ true = (bytes_eq-Decides a b).1 same in
    cc (e, yes))

fresh_head : (name : NameBytes) (ds : List Decl) → AllByRecursion (λ other. bytes_eq name other ≡ false) (names_of ds) →
    Each (λ (e : Decl). same_name name e.name ≡ false) ds
fresh_head name [] h = tt
fresh_head name (d ∷ ds) h = (name_differs name d.name h.0, fresh_head name ds h.1)

fresh : (ds : List Decl) → IsDistinct bytes_eq (names_of ds) → AreFresh ds
fresh [] h = tt
fresh (d ∷ ds) h = (
  fresh_head d.name ds (IsDistinct-head bytes_eq d.name (names_of ds) h),
  fresh ds
      (IsDistinct-tail bytes_eq d.name (names_of ds) h),
)

-- Lists that are filtered.

each_filter : {A : Type 0} (P : A → Type 0) (p : A → Bool) (xs : List A) → Each P xs → Each P (filter p xs)
each_filter P p [] h = tt
each_filter P p (x ∷ xs) h = by (p x) (each_filter P p xs h.1)
  where
    by : (t : Bool) → Each P (filter p xs) → Each P (if t then x ∷ filter p xs else filter p xs)
    by true rest = (h.0, rest)
    by false rest = rest

fresh_filter : (p : Decl → Bool) (ds : List Decl) → AreFresh ds → AreFresh (filter p ds)
fresh_filter p [] h = tt
fresh_filter p (d ∷ ds) h = by (p d) (fresh_filter p ds h.1)
  where
    by : (t : Bool) → AreFresh (filter p ds) → AreFresh (if t then d ∷ filter p ds else filter p ds)
    by true rest = (each_filter (λ (e : Decl). same_name d.name e.name ≡ false) p ds h.0, rest)
    by false rest = rest

in_filter : {A : Type 0} (p : A → Bool) (xs : List A) (i : ℕ) (x : A) → slice_get xs i ≡ Some x → p x ≡ true →
    (j : ℕ) × (slice_get (filter p xs) j ≡ Some x)
in_filter p [] i x e t = absurd (cc e)
in_filter p (y ∷ xs) zero x e t =
    let same : y ≡ x = cc e in
    let yes : p y ≡ true = ap p same ∙ t in
    (0, ap (λ (b : Bool). slice_get (if b then y ∷ filter p xs else filter p xs) 0) yes ∙ ap Some same)
in_filter p (y ∷ xs) (suc i) x e t = by (p y) (in_filter p xs i x e t)
  where
    by : (b : Bool) → (j : ℕ) × (slice_get (filter p xs) j ≡ Some x) →
        (j : ℕ) × (slice_get (if b then y ∷ filter p xs else filter p xs) j ≡ Some x)
    by true r = (suc r.0, r.1)
    by false r = r

from_map : {A B : Type 0} (f : A → B) (xs : List A) (i : ℕ) (y : B) → slice_get (map f xs) i ≡ Some y →
    (x : A) × (slice_get xs i ≡ Some x) × (f x ≡ y)
from_map f [] i y e = absurd (cc e)
from_map f (x ∷ xs) zero y e = (x, refl, cc e)
from_map f (x ∷ xs) (suc i) y e = from_map f xs i y e

found_in : {A : Type 0} (p : A → Bool) (xs : List A) (x : A) → find p xs ≡ Some x →
    (i : ℕ) × (slice_get xs i ≡ Some x) × (p x ≡ true)
found_in p [] x e = absurd (cc e)
found_in p (y ∷ xs) x e = by (p y) refl (λ h. found_in p xs x h) e
  where
    by : (b : Bool) → p y ≡ b → (find p xs ≡ Some x → (i : ℕ) × (slice_get xs i ≡ Some x) × (p x ≡ true)) →
        (if b then Some y else find p xs) ≡ Some x → (i : ℕ) × (slice_get (y ∷ xs) i ≡ Some x) × (p x ≡ true)
    by true t more h = let same : y ≡ x = cc h in (0, h, ap p (sym same) ∙ t)
    by false t more h = let r = more h in (suc r.0, r.1, r.2)

filter_both : {A : Type 0} (p : A → Bool) (xs ys : List A) → filter p (xs ++ ys) ≡ filter p xs ++ filter p ys
filter_both p [] ys = refl
filter_both p (x ∷ xs) ys = by (p x) (filter_both p xs ys)
  where
    by : (t : Bool) → filter p (xs ++ ys) ≡ filter p xs ++ filter p ys →
        (if t then x ∷ filter p (xs ++ ys) else filter p (xs ++ ys)) ≡
        (if t then x ∷ filter p xs else filter p xs) ++ filter p ys
    by true rest = ap (λ zs. x ∷ zs) rest
    by false rest = rest

map_both : {A B : Type 0} (f : A → B) (xs ys : List A) → map f (xs ++ ys) ≡ map f xs ++ map f ys
map_both f [] ys = refl
map_both f (x ∷ xs) ys = ap (λ zs. f x ∷ zs) (map_both f xs ys)

each_from : {A : Type 0} (P : A → Type 0) (xs : List A) → AllByRecursion P xs → Each P xs
each_from P [] h = tt
each_from P (x ∷ xs) h = (h.0, each_from P xs h.1)

-- What units declare, together.

data_both : (ds es : List Decl) → data_of (ds ++ es) ≡ data_of ds ++ data_of es
data_both ds es =
    ap (filter (λ decl. not (is_function decl.form))) (filter_both (λ decl. decl.defined) ds es)
    ∙ filter_both (λ decl. not (is_function decl.form)) (definitions ds) (definitions es)

module _ {F : Type 0} where
  decls_are : (units : List (UnitOf F)) → settle.all_decls (map (λ u. u.decls) units) ≡ all_decls units
  decls_are [] = refl
  decls_are (u ∷ us) = ap (λ ds. u.decls ++ ds) (decls_are us)

  globals_are : (decl_of : F → Decl) (units : List (UnitOf F)) → AllByRecursion (IsInOrder decl_of) units →
      map (λ (g : Global). g.decl) (all_globals units) ≡ data_of (all_decls units)
  globals_are decl_of [] h = refl
  globals_are decl_of (u ∷ us) h =
      map_both (λ (g : Global). g.decl) u.globals (all_globals us)
      ∙ ap (λ ds. ds ++ map (λ (g : Global). g.decl) (all_globals us)) h.0.globals
      ∙ ap (λ ds. data_of u.decls ++ ds) (globals_are decl_of us h.1) ∙ sym (data_both u.decls (all_decls us))

-- How many words there are.

total : List Decl → ℕ
total [] = 0
total (d ∷ ds) = words_of_form d.form + total ds

words_from : (n : ℕ) (ds : List Decl) → fold (λ a (d : Decl). a + words_of_form d.form) n ds ≡ n + total ds
unfolding total
words_from n [] = omega arith
words_from n (d ∷ ds) = let rest = words_from (n + words_of_form d.form) ds in omega (arith, rest)

no_words : (f : Form) → not (is_function f) ≡ false → words_of_form f ≡ 0
no_words Lock h = absurd (cc h)
no_words (Shared ty lock) h = absurd (cc h)
no_words (Table ty) h = absurd (cc h)
no_words (Function ret params holds) h = refl

data_words : (ds : List Decl) → total (filter (λ decl. not (is_function decl.form)) ds) ≡ total ds
unfolding total
data_words [] = refl
data_words (d ∷ ds) = by (not (is_function d.form)) refl (data_words ds)
  where
    by : (t : Bool) → not (is_function d.form) ≡ t → total (filter (λ decl. not (is_function decl.form)) ds)
        ≡ total ds →
        total (if t then d ∷ filter (λ decl. not (is_function decl.form)) ds else
        filter (λ decl. not (is_function decl.form)) ds) ≡ words_of_form d.form + total ds
    by true e rest = ap (λ n. words_of_form d.form + n) rest
    by false e rest = let none = no_words d.form e in omega (arith, none, rest)

cell_count : (number : NameBytes → Option ℕ) (gs : List Global) → AllHave gs →
    length (all_cells number gs) ≡ total (map (λ (g : Global). g.decl) gs)
unfolding total
cell_count number [] h = refl
cell_count number (g ∷ gs) h =
    let one = count number g.decl.form g.values h.0 in
    let rest = cell_count number gs h.1 in
    let both = append_length (cells_of number g.decl.form g.values) (all_cells number gs) in
    omega (arith, one, rest, both)

-- Locks by name.

among_get : (ns : List ℕ) (k n : ℕ) → slice_get ns k ≡ Some n → IsAmong n ns
among_get [] k n e = absurd (cc e)
among_get (m ∷ ns) zero n e = let same : m ≡ n = cc e in subst (λ v. IsAmong v (m ∷ ns)) same first
among_get (m ∷ ns) (suc k) n e = later (among_get ns k n e)

holds_self : (ns : List ℕ) → Holds ns ns
holds_self ns = each_by (λ n. IsAmong n ns) ns (λ k n e. among_get ns k n e)

among_each : (P : ℕ → Type 0) (ns : List ℕ) → Each P ns → (n : ℕ) → IsAmong n ns → P n
among_each P [] h n m = elim m [ ]
among_each P (k ∷ ns) h n first = h.0
among_each P (k ∷ ns) h n (later m) = among_each P ns h.1 n m

holds_both : (a b c : List ℕ) → Holds a b → Holds b c → Holds a c
holds_both a b c h k = each_by (λ n. IsAmong n a) c (λ i n e.
    among_each (λ n. IsAmong n a) b h n (each_get (λ n. IsAmong n b) c k i n e))

module _ (edge : Edge) where
  any_number : (n : NameBytes) (k : ℕ) → guard_of edge n ≡ Some k → (os : List NameBytes) →
      list_any (bytes_eq n) os ≡ true → IsAmong k (lock_numbers edge os)
  any_number n k e [] h = absurd (cc h)
  any_number n k e (o ∷ os) h = by (bytes_eq n o) refl (any_number n k e os) h
    where
      more : (q : Option ℕ) → IsAmong k (lock_numbers edge os) → IsAmong k (and_number q (lock_numbers edge os))
      more None m = m
      more (Some j) m = later m

      by : (t : Bool) → bytes_eq n o ≡ t → (list_any (bytes_eq n) os ≡ true → IsAmong k (lock_numbers edge os)) →
          (t || list_any (bytes_eq n) os) ≡ true → IsAmong k (and_number (guard_of edge o) (lock_numbers edge os))
      by true f rest g =
          let same : n ≡ o = (bytes_eq-Decides n o).0 f in
          subst (λ q. IsAmong k (and_number q (lock_numbers edge os)))
          (sym e ∙ ap (guard_of edge) same) first
      by false f rest g = more (guard_of edge o) (rest g)

  both_true : (a b : Bool) → (a && b) ≡ true → (a ≡ true) × (b ≡ true)
  both_true true true h = (refl, refl)
  both_true true false h = absurd (cc h)
  both_true false b h = absurd (cc h)

  numbers_within : (ns os : List NameBytes) → is_within ns os ≡ true →
      Holds (lock_numbers edge os) (lock_numbers edge ns)
  numbers_within [] os h = tt
  numbers_within (n ∷ ns) os h =
      let both = both_true (list_any (bytes_eq n) os) (is_within ns os) h in
      by (guard_of edge n) refl both.0 (numbers_within ns os both.1)
    where
      by : (q : Option ℕ) → guard_of edge n ≡ q → list_any (bytes_eq n) os ≡ true →
          Holds (lock_numbers edge os) (lock_numbers edge ns) →
          Holds (lock_numbers edge os) (and_number q (lock_numbers edge ns))
      by None e any rest = rest
      by (Some k) e any rest = (any_number n k e os any, rest)

  -- a declaration that agrees with one that the edge has is there too
  shared_too : (name : NameBytes) (t u : Ty) (l m : NameBytes) → t ≡ u → l ≡ m → IsDeclared edge name (Shared t l) →
      IsDeclared edge name (Shared u m)
  shared_too name t u l m p q h =
      subst (λ v. IsDeclared edge name (Shared u v)) q (subst (λ v. IsDeclared edge name (Shared v l)) p h)

  function_too : (name : NameBytes) (ret other : Ty) (params others : List Ty) (holds held : List NameBytes) →
      ret ≡ other → params ≡ others → same_set holds held ≡ true → IsDeclared edge name (Function ret params holds) →
      IsDeclared edge name (Function other others held)
  function_too name ret other params others holds held p q same h =
      let both = both_true (is_within holds held) (is_within held holds) same in (
        h.0,
        h.1,
        h.2 ∙ p,
        h.3 ∙ q,
        (
          holds_both h.0.holds (lock_numbers edge holds) (lock_numbers edge held) h.4.0
              (numbers_within held holds both.1),
          holds_both (lock_numbers edge held) (lock_numbers edge holds) h.0.holds (numbers_within holds held both.0)
              h.4.1,
        ),
      )

  agreeing : (name : NameBytes) (f g : Form) → agrees f g ≡ true → IsDeclared edge name f → IsDeclared edge name g
  agreeing name Lock Lock a h = h
  agreeing name Lock (Shared u m) a h = absurd (cc a)
  agreeing name Lock (Table u) a h = absurd (cc a)
  agreeing name Lock (Function other others held) a h = absurd (cc a)
  agreeing name (Shared t l) Lock a h = absurd (cc a)
  agreeing name (Shared t l) (Shared u m) a h =
      let both = both_true (same_ty t u) (bytes_eq l m) a in
      shared_too name t u l m (same_ty_is t u both.0) ((bytes_eq-Decides l m).0 both.1) h
  agreeing name (Shared t l) (Table u) a h = absurd (cc a)
  agreeing name (Shared t l) (Function other others held) a h = absurd (cc a)
  agreeing name (Table t) Lock a h = absurd (cc a)
  agreeing name (Table t) (Shared u m) a h = absurd (cc a)
  agreeing name (Table t) (Table u) a h = subst (λ v. IsDeclared edge name (Table v)) (same_ty_is t u a) h
  agreeing name (Table t) (Function other others held) a h = absurd (cc a)
  agreeing name (Function ret params holds) Lock a h = absurd (cc a)
  agreeing name (Function ret params holds) (Shared u m) a h = absurd (cc a)
  agreeing name (Function ret params holds) (Table u) a h = absurd (cc a)
  agreeing name (Function ret params holds) (Function other others held) a h =
      let one = both_true (same_ty ret other && pointwise same_ty params others) (same_set holds held) a in
      let two = both_true (same_ty ret other) (pointwise same_ty params others) one.0 in
      function_too name ret other params others holds held (same_ty_is ret other two.0)
      (same_tys_are params others two.1) one.1 h

-- The edge.

module _ {F : Type 0} (units : List (UnitOf F)) (inside : NameBytes → Bool) (hs : AllHave (all_globals units))
    (order : map (λ (g : Global). g.decl) (all_globals units) ≡ data_of (all_decls units))
    (fr : AreFresh (definitions (all_decls units))) where
  abbrev gs : List Global
  gs = all_globals units

  abbrev ds : List Decl
  ds = all_decls units

  abbrev num : NameBytes → Option ℕ
  num = lock_from 0 (all_globals units)

  abbrev E : Edge
  E = edge_of inside units

  cell_there : (name : NameBytes) (a : At num 0 gs name) (k : ℕ) (c : Cell) →
      slice_get (cells_of num a.it.decl.form a.it.values) k ≡ Some c → slice_get E.cells (0 + a.before + k) ≡ Some c
  cell_there name a k c e =
      let same : a.before + k ≡ 0 + a.before + k = omega arith in
      subst (λ i. slice_get (all_cells num gs) i ≡ Some c) same (a.cells k c e)

  guard_is : (name : NameBytes) → guard_of E name ≡ num name
  guard_is name = ⊎_elim
      (λ (none : (stretch_from 0 gs name ≡ None) × (lock_from 0 gs name ≡ None)).
      ap (lock_number E.cells) none.0 ∙ sym none.1)
      (λ (a : At num 0 gs name).
      let c = word_cell num a.it.decl.form a.it.values a.values 0 (has_words num a.it.decl.form a.it.values a.values) in
      let here : 0 + a.before + 0 ≡ 0 + a.before = omega arith in
      let there : slice_get E.cells (0 + a.before) ≡ Some c.0 =
      subst (λ i. slice_get E.cells i ≡ Some c.0) here (cell_there name a 0 c.0 c.1) in
      ap (lock_number E.cells) a.stretch ∙ ap (λ o. lock_at o (0 + a.before)) there
      ∙ lock_known num a.it.decl.form c.0 (0 + a.before) c.2 ∙ sym a.lock)
      (find_at num 0 gs hs name)

  numbers_are : (ns : List NameBytes) → numbers_of num ns ≡ lock_numbers E ns
  numbers_are [] = refl
  numbers_are (n ∷ ns) =
      ap (λ o. and_number o (numbers_of num ns)) (sym (guard_is n)) ∙ ap (and_number (guard_of E n)) (numbers_are ns)

  declared_by : (name : NameBytes) (form : Form) (vs : List ℕ) → HasItsValues form vs → (s : Stretch) →
      E.words name ≡ Some s → s.size ≡ words_of_form form → ((k : ℕ) (c : Cell) →
      slice_get (cells_of num form vs) k ≡ Some c → slice_get E.cells (s.first + k) ≡ Some c) → IsDeclared E name form
  declared_by name Lock vs h s e size there = (
    s,
    e,
    size,
    λ k less.
        let c = word_cell num Lock vs h k less in (c.0, there k c.0 c.1, c.2),
  )
  declared_by name (Shared ty lock) vs h s e size there = (
    s,
    e,
    size,
    λ k less.
        let c = word_cell num (Shared ty lock) vs h k less in
        (c.0, there k c.0 c.1, subst (λ g. IsSharedCell ty g c.0) (sym (guard_is lock)) c.2),
  )
  declared_by name (Table ty) vs h s e size there = (
    s,
    e,
    size,
    λ k less.
        let c = word_cell num (Table ty) vs h k less in (c.0, there k c.0 c.1, c.2),
  )
  declared_by name (Function ret params holds) vs h s e size there = absurd h

  at_declared : (name : NameBytes) (a : At num 0 gs name) → IsDeclared E name a.it.decl.form
  at_declared name a =
      declared_by name a.it.decl.form a.it.values a.values _ a.stretch refl (λ k c e. cell_there name a k c e)

  fresh_globals : AreFresh (map (λ (g : Global). g.decl) gs)
  fresh_globals = subst AreFresh (sym order) (fresh_filter (λ decl. not (is_function decl.form)) (definitions ds) fr)

  data_declared : (i : ℕ) (d : Decl) → slice_get (definitions ds) i ≡ Some d → not (is_function d.form) ≡ true →
      IsDeclared E d.name d.form
  data_declared i d e data_ =
      let in_data = in_filter (λ decl. not (is_function decl.form)) (definitions ds) i d e data_ in
      let g = from_map (λ (v : Global). v.decl) gs in_data.0 d
      (subst (λ xs. slice_get xs in_data.0 ≡ Some d) (sym order) in_data.1) in
      let a = global_at num 0 gs hs fresh_globals in_data.0 g.0 g.1 in
      subst (λ (v : Decl). IsDeclared E v.name v.form) g.2
      (subst (λ (v : Global). IsDeclared E g.0.decl.name v.decl.form) a.1 (at_declared g.0.decl.name a.0))

  -- Functions.

  abbrev signature : NameBytes → Ty → List Ty → List NameBytes → Signature
  signature name ret params holds =
      record { name = name; ret = ret; params = params; holds = numbers_of num holds; inside = inside name }

  skipped : (name : NameBytes) (form : Form) (rest : List Signature) (other : NameBytes) →
      same_name name other ≡ false →
      signature_of (and_signature (signature_by inside num name form) rest) other ≡ signature_of rest other
  skipped name Lock rest other e = refl
  skipped name (Shared ty lock) rest other e = refl
  skipped name (Table ty) rest other e = refl
  skipped name (Function ret params holds) rest other e =
      ap (λ (t : Bool). if t then Some (signature name ret params holds) else signature_of rest other) e

  signature_at : (es : List Decl) → AreFresh es → (i : ℕ) (d : Decl) → slice_get es i ≡ Some d →
      (ret : Ty) (params : List Ty) (holds : List NameBytes) → d.form ≡ Function ret params holds →
      signature_of (signatures inside num es) d.name ≡ Some (signature d.name ret params holds)
  signature_at [] f i d e ret params holds form = absurd (cc e)
  signature_at (x ∷ es) f zero d e ret params holds form =
      let same : x ≡ d = cc e in
      let rest = signatures inside num es in
      subst (λ (v : Decl). signature_of (and_signature (signature_by inside num v.name v.form) rest) d.name
      ≡ Some (signature d.name ret params holds)) (sym same)
      (ap (λ v. signature_of (and_signature (signature_by inside num d.name v) rest) d.name) form
      ∙ ap (λ (t : Bool). if t then Some (signature d.name ret params holds) else signature_of rest d.name)
      (same_name_self d.name))
  signature_at (x ∷ es) f (suc i) d e ret params holds form =
      skipped x.name x.form (signatures inside num es) d.name
      (each_get (λ (v : Decl). same_name x.name v.name ≡ false) es f.0 i d e)
      ∙ signature_at es f.1 i d e ret params holds form

  function_declared : (i : ℕ) (d : Decl) → slice_get (definitions ds) i ≡ Some d →
      (ret : Ty) (params : List Ty) (holds : List NameBytes) → d.form ≡ Function ret params holds →
      IsDeclared E d.name (Function ret params holds)
  function_declared i d e ret params holds form = (
    signature d.name ret params holds,
    signature_at (definitions ds) fr i d e ret params holds form,
    refl,
    refl,
    subst (λ ns. AreSameLocks (numbers_of num holds) ns) (numbers_are holds)
        (holds_self (numbers_of num holds), holds_self (numbers_of num holds)),
  )

  defined_declared : (i : ℕ) (d : Decl) → slice_get (definitions ds) i ≡ Some d → IsDeclared E d.name d.form
  defined_declared i d e = by d.form refl
    where
      by : (f : Form) → d.form ≡ f → IsDeclared E d.name d.form
      by Lock form = data_declared i d e (ap (λ v. not (is_function v)) form)
      by (Shared ty lock) form = data_declared i d e (ap (λ v. not (is_function v)) form)
      by (Table ty) form = data_declared i d e (ap (λ v. not (is_function v)) form)
      by (Function ret params holds) form =
          subst (λ v. IsDeclared E d.name v) (sym form) (function_declared i d e ret params holds form)

  abbrev AgreesWith : Decl → Type 0
  AgreesWith d = IsSomeAnd (definition_of (definitions ds) d.name) (λ defined. IsTrue (agrees defined.form d.form))

  reference_declared : (d : Decl) → AgreesWith d → IsDeclared E d.name d.form
  reference_declared d h = by (definition_of (definitions ds) d.name) refl h
    where
      by : (o : Option Decl) → definition_of (definitions ds) d.name ≡ o →
          IsSomeAnd o (λ defined. IsTrue (agrees defined.form d.form)) → IsDeclared E d.name d.form
      by None e k = absurd k
      by (Some x) e k =
          let at = found_in (is_named d.name) (definitions ds) x e in
          let named : d.name ≡ x.name = (bytes_eq-Decides d.name x.name).0 at.2 in
          subst (λ v. IsDeclared E v d.form) (sym named)
          (agreeing E x.name x.form d.form k (defined_declared at.0 x at.1))

  all_are_declared : Each AgreesWith (references ds) → AreDeclared E ds
  all_are_declared agreed = each_by (λ (d : Decl). IsDeclared E d.name d.form) ds (λ i d e. by i d e d.defined refl)
    where
      by : (i : ℕ) (d : Decl) → slice_get ds i ≡ Some d → (t : Bool) → d.defined ≡ t → IsDeclared E d.name d.form
      by i d e true f = let at = in_filter (λ decl. decl.defined) ds i d e f in defined_declared at.0 d at.1
      by i d e false f =
          let at = in_filter (λ decl. not decl.defined) ds i d e (ap not f) in
          reference_declared d (each_get AgreesWith (references ds) agreed at.0 d at.1)

  -- Values.

  have_values : (n : ℕ) (vs : List ℕ) → ((k v : ℕ) → slice_get vs k ≡ Some v → (c : Cell)
      × (slice_get E.cells (n + k) ≡ Some c) × (first_value c ≡ v)) → HaveValues E n vs
  have_values n [] h = tt
  have_values n (v ∷ vs) h =
      let here = h 0 v refl in
      let zero_more : n + 0 ≡ n = omega arith in (
        (here.0, subst (λ i. slice_get E.cells i ≡ Some here.0) zero_more here.1, here.2),
        have_values (n + 1) vs (λ k u e.
            let c = h (suc k) u e in
            let next : n + suc k ≡ n + 1 + k = omega arith in
            (c.0, subst (λ i. slice_get E.cells i ≡ Some c.0) next c.1, c.2)),
      )

  data_is_there : HaveData E gs
  data_is_there = each_by (λ (g : Global). (s : Stretch) × (E.words g.decl.name ≡ Some s)
      × HaveValues E s.first g.values)
      gs (λ i g e.
      let a = global_at num 0 gs hs fresh_globals i g e in
      subst (λ (v : Global). (s : Stretch) × (E.words g.decl.name ≡ Some s) × HaveValues E s.first v.values) a.1
      (of a.0))
    where
      of : {name : NameBytes} (a : At num 0 gs name) → (s : Stretch) × (E.words name ≡ Some s)
          × HaveValues E s.first a.it.values
      of {name = name} a = (
        _,
        a.stretch,
        have_values (0 + a.before) a.it.values (λ k v e.
            let c = value_cell num a.it.decl.form a.it.values a.values k v e in
            (c.0, cell_there name a k c.0 c.1, c.3)),
      )

  all_apart : (es : List Decl) → AllApart E.words es
  all_apart [] = tt
  all_apart (d ∷ es) = (
    each_by (AreApart E.words d) es (λ i e f. λ s t g h. stretches_apart 0 gs d.name e.name s t g h),
    all_apart es,
  )

  is_edge : words_of (definitions ds) ≤ 65536 → IsEdge E
  is_edge few =
      let cells = cell_count num gs hs in
      let in_data = ap total order ∙ data_words (definitions ds) in
      let all = words_from 0 (definitions ds) in
      record { few = omega (arith, few, cells, in_data, all); kinds = all_in_kind num gs hs }

module _ {F : Type 0} (decl_of : F → Decl) (units : List (UnitOf F)) (entries : List NameBytes)
    (inside : NameBytes → Bool) (settled : IsSettled (map (λ u. u.decls) units) entries)
    (order : AllByRecursion (IsInOrder decl_of) units) (values : AllHave (all_globals units)) where
  abbrev E' : Edge
  E' = edge_of inside units

  in_order : map (λ (g : Global). g.decl) (all_globals units) ≡ data_of (all_decls units)
  in_order = globals_are decl_of units order

  is_fresh : AreFresh (definitions (all_decls units))
  is_fresh = fresh (definitions (all_decls units)) (subst (λ xs. IsDistinct bytes_eq (names_of (definitions xs)))
      (decls_are units) settled.distinct)

  agreed : Each (AgreesWith units inside values in_order is_fresh) (references (all_decls units))
  agreed = each_from _ (references (all_decls units)) (recursion_from_All _ (references (all_decls units))
      (subst (λ xs. All (λ decl. IsSomeAnd (definition_of (definitions xs) decl.name)
      (λ defined. IsTrue (agrees defined.form decl.form))) (references xs)) (decls_are units) settled.agreed))

  edge_is : IsEdge E'
  edge_is = is_edge units inside values in_order is_fresh
      (subst (λ xs. words_of (definitions xs) ≤ 65536) (decls_are units) settled.words)

  pub unit_fits : (setting : Setting) → setting.edge ≡ E' → IsStack setting.edge setting.stack →
      IsCode setting.code setting.edge.functions → (j : ℕ) (unit : UnitOf F) → slice_get units j ≡ Some unit →
      FitsUnit (at_unit setting unit.decls) unit.decls unit.globals
  unit_fits setting at stack code j unit e =
      parts_fit setting units (subst IsEdge (sym at) edge_is)
      (subst (λ v. AreDeclared v (all_decls units)) (sym at)
      (all_are_declared units inside values in_order is_fresh agreed))
      (subst (λ v. HaveData v (all_globals units)) (sym at) (data_is_there units inside values in_order is_fresh))
      (subst (λ (v : Edge). AllApart v.words (all_decls units)) (sym at)
      (all_apart units inside values in_order is_fresh (all_decls units))) stack code j unit e

  -- The entries.

  defines_so : (ds : List Decl) (i : ℕ) (d : Decl) → slice_get ds i ≡ Some d → d.defined ≡ true →
      (ret : Ty) (params : List Ty) (holds : List NameBytes) → d.form ≡ Function ret params holds →
      defines ds d.name ≡ true
  defines_so [] i d e t ret params holds form = absurd (cc e)
  defines_so (x ∷ ds) zero d e t ret params holds form =
      let same : x ≡ d = cc e in
      subst (λ (v : Decl). (if same_name v.name d.name && defined_as v.form v.defined then true else defines ds d.name)
      ≡ true) (sym same)
      (ap (λ (b : Bool). if b && defined_as d.form d.defined then true else defines ds d.name) (same_name_self d.name)
      ∙ ap (λ f. if defined_as f d.defined then true else defines ds d.name) form
      ∙ ap (λ (b : Bool). if b then true else defines ds d.name) t)
  defines_so (x ∷ ds) (suc i) d e t ret params holds form =
      by (same_name x.name d.name && defined_as x.form x.defined) (defines_so ds i d e t ret params holds form)
    where
      by : (b : Bool) → defines ds d.name ≡ true → (if b then true else defines ds d.name) ≡ true
      by true rest = refl
      by false rest = rest

  from_filter : (p : Decl → Bool) (ds : List Decl) (i : ℕ) (d : Decl) → slice_get (filter p ds) i ≡ Some d →
      (j : ℕ) × (slice_get ds j ≡ Some d) × (p d ≡ true)
  from_filter p [] i d e = absurd (cc e)
  from_filter p (x ∷ ds) i d e = by (p x) refl i e (λ j f. from_filter p ds j d f)
    where
      by : (b : Bool) → p x ≡ b → (j : ℕ) → slice_get (if b then x ∷ filter p ds else filter p ds) j ≡ Some d →
          ((j : ℕ) → slice_get (filter p ds) j ≡ Some d → (k : ℕ) × (slice_get ds k ≡ Some d) × (p d ≡ true)) →
          (k : ℕ) × (slice_get (x ∷ ds) k ≡ Some d) × (p d ≡ true)
      by true t zero f more = let same : x ≡ d = cc f in (0, f, ap p (sym same) ∙ t)
      by true t (suc j) f more = let r = more j f in (suc r.0, r.1, r.2)
      by false t j f more = let r = more j f in (suc r.0, r.1, r.2)

  record EntryForm (form : Form) : Type 0 where
    holds : List NameBytes
    is : form ≡ Function Void (Int I32 ∷ []) holds
    none : holds ≡ []

  entry_form : (form : Form) → is_entry form ≡ true → EntryForm form
  entry_form Lock h = absurd (cc h)
  entry_form (Shared ty lock) h = absurd (cc h)
  entry_form (Table ty) h = absurd (cc h)
  entry_form (Function ret params holds) h =
      let one = both_true E' (same_ty ret Void && pointwise same_ty params (Int I32 ∷ [])) (length holds == 0) h in
      let two = both_true E' (same_ty ret Void) (pointwise same_ty params (Int I32 ∷ [])) one.0 in
      let r : ret ≡ Void = same_ty_is ret Void two.0 in
      let ps : params ≡ Int I32 ∷ [] = same_tys_are params (Int I32 ∷ []) two.1 in
      record {
        holds = holds;
        is = ap (λ v. Function v params holds) r ∙ ap (λ v. Function Void v holds) ps;
        none = no_holds holds (eqb-true (length holds) 0 one.1);
      }
    where
      no_holds : (hs : List NameBytes) → length hs ≡ 0 → hs ≡ []
      no_holds [] e = refl
      no_holds (x ∷ hs) e = absurd (omega (arith, e))

  module _ {S : Type 0} (l : Language F S) (names : (f : F) → (decl_of f).name ≡ l.name f) where
    is_defined : (name : NameBytes) →
        has_function l (all_functions units) name ≡ defines (all_decls units) name
    is_defined = all_in_order_defined l decl_of names units order

    pub program_fits : (i : ℕ) (entry : NameBytes) → slice_get entries i ≡ Some entry → FitsProgram l E' units entry
    program_fits i entry e =
        by (definition_of (definitions (all_decls units)) entry) refl (each_get _ entries is_entered i entry e)
      where
        is_entered : Each (λ name. IsSomeAnd (definition_of (definitions (all_decls units)) name)
            (λ defined. IsTrue (is_entry defined.form))) entries
        is_entered = each_from _ entries (recursion_from_All _ entries
            (subst (λ xs. All (λ name. IsSomeAnd (definition_of (definitions xs) name)
            (λ defined. IsTrue (is_entry defined.form))) entries) (decls_are units) settled.entered))

        by : (o : Option Decl) → definition_of (definitions (all_decls units)) entry ≡ o →
            IsSomeAnd o (λ defined. IsTrue (is_entry defined.form)) → FitsProgram l E' units entry
        by None f h = absurd h
        by (Some d) f h =
            let at = found_in (is_named entry) (definitions (all_decls units)) d f in
            let named : entry ≡ d.name = (bytes_eq-Decides entry d.name).0 at.2 in
            let form = entry_form d.form h in
            let there = from_filter (λ decl. decl.defined) (all_decls units) at.0 d at.1 in
            record {
              edge_is = edge_is;
              declared = all_are_declared units inside values in_order is_fresh agreed;
              data_there = data_is_there units inside values in_order is_fresh;
              apart = all_apart units inside values in_order is_fresh (all_decls units);
              defined = is_defined;
              there = is_defined entry ∙ ap (defines (all_decls units)) named
                  ∙ defines_so (all_decls units) there.0 d there.1 there.2 Void (Int I32 ∷ []) form.holds form.is;
              entry_is = record {
                signature = signature units inside values in_order is_fresh d.name Void (Int I32 ∷ []) form.holds;
                known = ap (signature_of E'.functions) named
                    ∙ signature_at units inside values in_order is_fresh (definitions (all_decls units)) is_fresh at.0 d
                    at.1 Void (Int I32 ∷ []) form.holds form.is;
                ret = refl;
                params = refl;
                holds = ap (numbers_of (lock_from 0 (all_globals units))) form.none;
              };
            }
