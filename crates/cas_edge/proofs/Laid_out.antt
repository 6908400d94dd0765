-- Where the words of each global stand, and which cells they are.
use Rattle.std.specs.Prelude.{map}
use Rattle.std.proofs.Common.{◌≡◌, ℕ, zero, suc, ◌+◌, ◌<◌, ◌≤◌, List, [], ◌∷◌, ◌++◌, length, slice_get, Bool, true, false, if◌then◌else◌, ◌⊎◌, inl, inr, Option, Some, None, refl, sym, ap, ◌∙◌, subst, arith}
use Rattle.cas_base.specs.declared.kind.Kind.{Kind}
use Rattle.cas_base.specs.declared.decl.Decl.{Decl}
use Rattle.cas_base.specs.declared.decl.Form.{Form}
use Rattle.cas_base.specs.declared.decl.Form.TheVariants.{Lock, Shared, Table, Function}
use Rattle.cas_base.specs.declared.decl.Global.{Global}
use Rattle.cas_base.specs.Decl.{words_of_form}
use Rattle.cas_runs.specs.Label.{Each, NameBytes, same_name}
use Rattle.cas_runs.specs.Edge.{Cell, LockWord, SharedWord, TableWord, Stretch, IsOfKind}
use Rattle.cas_runs.specs.Unit.{kind_of_words, lock_at, HasValue, IsSharedCell, IsTableCell, IsInKind, first_value}
use Rattle.cas_runs.proofs.Words.{kind_word}
use Rattle.cas_runs.proofs.Tests.{same_name_self, same_name_from}
use Rattle.cas_edge.specs.Edges.{stretch_from, lock_if, lock_from, of_kind, cells_of, all_cells, HasItsValues}

-- Lists.

pub map_length : {A B : Type 0} (f : A → B) (xs : List A) → length (map f xs) ≡ length xs
map_length f [] = refl
map_length f (x ∷ xs) = ap suc (map_length f xs)

pub map_get : {A B : Type 0} (f : A → B) (xs : List A) (k : ℕ) (x : A) → slice_get xs k ≡ Some x →
    slice_get (map f xs) k ≡ Some (f x)
map_get f [] k x e = absurd (cc e)
map_get f (y ∷ xs) zero x e = let same : y ≡ x = cc e in ap (λ v. Some (f v)) same
map_get f (y ∷ xs) (suc k) x e = map_get f xs k x e

pub get_there : {A : Type 0} (xs : List A) (k : ℕ) → k < length xs → (x : A) × (slice_get xs k ≡ Some x)
get_there [] k less = absurd (omega (arith, less))
get_there (x ∷ xs) zero less = (x, refl)
get_there (x ∷ xs) (suc k) less = get_there xs k (omega (arith, less))

pub get_less : {A : Type 0} (xs : List A) (k : ℕ) (x : A) → slice_get xs k ≡ Some x → k < length xs
get_less [] k x e = absurd (cc e)
get_less (y ∷ xs) zero x e = omega arith
get_less (y ∷ xs) (suc k) x e = let less = get_less xs k x e in omega (arith, less)

get_front : {A : Type 0} (xs ys : List A) (k : ℕ) (x : A) → slice_get xs k ≡ Some x → slice_get (xs ++ ys) k ≡ Some x
get_front [] ys k x e = absurd (cc e)
get_front (y ∷ xs) ys zero x e = e
get_front (y ∷ xs) ys (suc k) x e = get_front xs ys k x e

get_back : {A : Type 0} (xs ys : List A) (j k : ℕ) → j ≡ length xs + k → slice_get (xs ++ ys) j ≡ slice_get ys k
get_back [] ys j k e = ap (slice_get ys) (omega (arith, e))
get_back (x ∷ xs) ys zero k e = absurd (omega (arith, e))
get_back (x ∷ xs) ys (suc j) k e = get_back xs ys j k (omega (arith, e))

pub append_length : {A : Type 0} (xs ys : List A) → length (xs ++ ys) ≡ length xs + length ys
append_length [] ys = omega arith
append_length (x ∷ xs) ys = let rest = append_length xs ys in omega (arith, rest)

pub each_get : {A : Type 0} (P : A → Type 0) (xs : List A) → Each P xs → (k : ℕ) (x : A) → slice_get xs k ≡ Some x → P x
each_get P [] h k x e = absurd (cc e)
each_get P (y ∷ xs) h zero x e = let same : y ≡ x = cc e in subst P same h.0
each_get P (y ∷ xs) h (suc k) x e = each_get P xs h.1 k x e

pub each_by : {A : Type 0} (P : A → Type 0) (xs : List A) → ((k : ℕ) (x : A) → slice_get xs k ≡ Some x → P x) →
    Each P xs
each_by P [] h = tt
each_by P (x ∷ xs) h = (h 0 x refl, each_by P xs (λ k y e. h (suc k) y e))

each_both : {A : Type 0} (P : A → Type 0) (xs ys : List A) → Each P xs → Each P ys → Each P (xs ++ ys)
each_both P [] ys h k = k
each_both P (x ∷ xs) ys h k = (h.0, each_both P xs ys h.1 k)

abbrev pub AllHave : List Global → Type 0
AllHave = Each (λ (g : Global). HasItsValues g.decl.form g.values)

-- no two names are equal
abbrev pub AreFresh : List Decl → Type 0
AreFresh [] = Unit {0}
AreFresh (d ∷ ds) = Each (λ (e : Decl). same_name d.name e.name ≡ false) ds × AreFresh ds

-- The cells of one global.

module _ (number : NameBytes → Option ℕ) where
  abbrev IsSuch : Form → Cell → Type 0
  IsSuch Lock c = c ≡ LockWord
  IsSuch (Shared ty lock) c = IsSharedCell ty (number lock) c
  IsSuch (Table ty) c = IsTableCell ty c
  IsSuch (Function ret params holds) c = ⊥

  pub count : (form : Form) (vs : List ℕ) → HasItsValues form vs →
      length (cells_of number form vs) ≡ words_of_form form
  count Lock vs h = refl
  count (Shared ty lock) vs h =
      ap (λ o. length (of_kind o (λ kind. map (λ v. SharedWord kind (number lock) v) vs))) h.kind_is
      ∙ map_length (λ v. SharedWord h.kind (number lock) v) vs ∙ h.count
  count (Table ty) vs h = map_length (λ v. TableWord v) vs ∙ h.count
  count (Function ret params holds) vs h = absurd h

  -- each value is in a cell of its own
  pub value_cell : (form : Form) (vs : List ℕ) → HasItsValues form vs → (k v : ℕ) → slice_get vs k ≡ Some v →
      (c : Cell) × (slice_get (cells_of number form vs) k ≡ Some c) × IsSuch form c × (first_value c ≡ v)
  value_cell Lock vs h k v e = let no : slice_get [] k ≡ Some v =
      subst (λ u. slice_get u k ≡ Some v) h e in absurd (cc no)
  value_cell (Shared ty lock) vs h k v e = (
    SharedWord h.kind (number lock) v,
    subst (λ o. slice_get (of_kind o (λ kind. map (λ u. SharedWord kind (number lock) u) vs)) k ≡ Some
        (SharedWord h.kind (number lock) v)) (sym h.kind_is)
        (map_get (λ u. SharedWord h.kind (number lock) u) vs k v e),
    subst (λ o. HasValue o (λ value kind. SharedWord kind (number lock) value) (SharedWord h.kind (number lock) v))
        (sym h.kind_is) (v, each_get (λ u. IsOfKind u h.kind) vs h.kinds k v e, refl),
    refl,
  )
  value_cell (Table ty) vs h k v e = (
    TableWord v,
    map_get (λ u. TableWord u) vs k v e,
    subst (λ o. HasValue o (λ value kind. TableWord value) (TableWord v)) (sym h.kind_is)
        (v, each_get (λ u. IsOfKind u h.kind) vs h.kinds k v e, refl),
    refl,
  )
  value_cell (Function ret params holds) vs h k v e = absurd h

  pub word_cell : (form : Form) (vs : List ℕ) → HasItsValues form vs → (k : ℕ) → k < words_of_form form →
      (c : Cell) × (slice_get (cells_of number form vs) k ≡ Some c) × IsSuch form c
  word_cell Lock vs h zero less = (LockWord, refl, refl)
  word_cell Lock vs h (suc k) less = absurd (omega (arith, less))
  word_cell (Shared ty lock) vs h k less =
      let n = h.count in
      let v = get_there vs k (omega (arith, less, n)) in
      let c = value_cell (Shared ty lock) vs h k v.0 v.1 in
      (c.0, c.1, c.2)
  word_cell (Table ty) vs h k less =
      let n = h.count in
      let v = get_there vs k (omega (arith, less, n)) in
      let c = value_cell (Table ty) vs h k v.0 v.1 in
      (c.0, c.1, c.2)
  word_cell (Function ret params holds) vs h k less = absurd h

  pub has_words : (form : Form) (vs : List ℕ) → HasItsValues form vs → 0 < words_of_form form
  has_words Lock vs h = omega arith
  has_words (Shared ty lock) vs h = let n = h.count in let some = h.some in omega (arith, n, some)
  has_words (Table ty) vs h = let n = h.count in let some = h.some in omega (arith, n, some)
  has_words (Function ret params holds) vs h = absurd h

  -- a lock is known by its cell
  shared_no_lock : (o : Option Kind) (g : Option ℕ) (c : Cell) (n : ℕ) →
      HasValue o (λ value kind. SharedWord kind g value) c → lock_at (Some c) n ≡ None
  shared_no_lock None g c n h = absurd h
  shared_no_lock (Some kind) g c n h = ap (λ v. lock_at (Some v) n) h.2

  table_no_lock : (o : Option Kind) (c : Cell) (n : ℕ) → HasValue o (λ value kind. TableWord value) c →
      lock_at (Some c) n ≡ None
  table_no_lock None c n h = absurd h
  table_no_lock (Some kind) c n h = ap (λ v. lock_at (Some v) n) h.2

  pub lock_known : (form : Form) (c : Cell) (n : ℕ) → IsSuch form c → lock_at (Some c) n ≡ lock_if form n
  lock_known Lock c n h = ap (λ v. lock_at (Some v) n) h
  lock_known (Shared ty lock) c n h = shared_no_lock (kind_of_words ty) (number lock) c n h
  lock_known (Table ty) c n h = table_no_lock (kind_of_words ty) c n h
  lock_known (Function ret params holds) c n h = absurd h

  -- what words are at first is in kind
  shared_kind : (o : Option Kind) (g : Option ℕ) (c : Cell) → HasValue o (λ value kind. SharedWord kind g value) c →
      IsInKind c
  shared_kind None g c h = absurd h
  shared_kind (Some kind) g c h = subst IsInKind (sym h.2) h.1

  table_kind : (o : Option Kind) (c : Cell) → HasValue o (λ value kind. TableWord value) c → IsInKind c
  table_kind None c h = absurd h
  table_kind (Some kind) c h = subst IsInKind (sym h.2) (kind_word h.0 kind h.1)

  such_in_kind : (form : Form) (c : Cell) → IsSuch form c → IsInKind c
  such_in_kind Lock c h = subst IsInKind (sym h) tt
  such_in_kind (Shared ty lock) c h = shared_kind (kind_of_words ty) (number lock) c h
  such_in_kind (Table ty) c h = table_kind (kind_of_words ty) c h
  such_in_kind (Function ret params holds) c h = absurd h

  pub all_in_kind : (gs : List Global) → AllHave gs → Each IsInKind (all_cells number gs)
  all_in_kind [] h = tt
  all_in_kind (g ∷ gs) h =
      each_both IsInKind (cells_of number g.decl.form g.values) (all_cells number gs)
      (each_by IsInKind (cells_of number g.decl.form g.values) (λ k c e.
      let n = count g.decl.form g.values h.0 in
      let less = get_less (cells_of number g.decl.form g.values) k c e in
      let d = word_cell g.decl.form g.values h.0 k (omega (arith, n, less)) in
      let there = d.1 in
      let same : d.0 ≡ c = cc (there, e) in
      subst IsInKind same (such_in_kind g.decl.form d.0 d.2)))
      (all_in_kind gs h.1)

  -- Where a name's words stand.

  pub record At (first : ℕ) (gs : List Global) (name : NameBytes) : Type 0 where
    pub it : Global
    pub named : it.decl.name ≡ name
    pub values : HasItsValues it.decl.form it.values
    pub before : ℕ
    pub stretch : stretch_from first gs name ≡ Some
        (record { first = first + before; size = words_of_form it.decl.form })
    pub lock : lock_from first gs name ≡ lock_if it.decl.form (first + before)
    pub cells : (k : ℕ) (c : Cell) → slice_get (cells_of number it.decl.form it.values) k ≡ Some c →
        slice_get (all_cells number gs) (before + k) ≡ Some c

  here_at : (first : ℕ) (g : Global) (gs : List Global) (name : NameBytes) → HasItsValues g.decl.form g.values →
      same_name g.decl.name name ≡ true → At first (g ∷ gs) name
  here_at first g gs name h e =
      let zero_more : first ≡ first + 0 = omega arith in
      record {
        it = g;
        named = same_name_from g.decl.name name e;
        values = h;
        before = 0;
        stretch = ap (λ (t : Bool). if t then Some (record { first = first; size = words_of_form g.decl.form }) else
            stretch_from (first + words_of_form g.decl.form) gs name) e
            ∙ ap (λ n. Some (record { first = n; size = words_of_form g.decl.form })) zero_more;
        lock = ap (λ (t : Bool). if t then lock_if g.decl.form first else
            lock_from (first + words_of_form g.decl.form) gs name) e ∙ ap (lock_if g.decl.form) zero_more;
        cells = λ k c f.
            let same : k ≡ 0 + k = omega arith in
            subst (λ j. slice_get (cells_of number g.decl.form g.values ++ all_cells number gs) j ≡ Some c) same
            (get_front (cells_of number g.decl.form g.values) (all_cells number gs) k c f);
      }

  later_at : (first : ℕ) (g : Global) (gs : List Global) (name : NameBytes) → HasItsValues g.decl.form g.values →
      same_name g.decl.name name ≡ false → At (first + words_of_form g.decl.form) gs name → At first (g ∷ gs) name
  later_at first g gs name h e a =
      let w = words_of_form g.decl.form in
      let there : first + w + a.before ≡ first + (w + a.before) = omega arith in
      record {
        it = a.it;
        named = a.named;
        values = a.values;
        before = w + a.before;
        stretch = ap (λ (t : Bool). if t then Some (record { first = first; size = w }) else
            stretch_from (first + w) gs name) e ∙ a.stretch
            ∙ ap (λ n. Some (record { first = n; size = words_of_form a.it.decl.form })) there;
        lock = ap (λ (t : Bool). if t then lock_if g.decl.form first else lock_from (first + w) gs name) e ∙ a.lock
            ∙ ap (lock_if a.it.decl.form) there;
        cells = λ k c f.
            let n = count g.decl.form g.values h in
            get_back (cells_of number g.decl.form g.values) (all_cells number gs) (w + a.before + k) (a.before + k)
            (omega (arith, n)) ∙ a.cells k c f;
      }

  -- each name has words, or none and is no lock
  pub find_at : (first : ℕ) (gs : List Global) → AllHave gs → (name : NameBytes) →
      ((stretch_from first gs name ≡ None) × (lock_from first gs name ≡ None)) ⊎ At first gs name
  find_at first [] h name = inl (refl, refl)
  find_at first (g ∷ gs) h name =
      by (same_name g.decl.name name) refl (find_at (first + words_of_form g.decl.form) gs h.1 name)
    where
      by : (t : Bool) → same_name g.decl.name name ≡ t →
          ((stretch_from (first + words_of_form g.decl.form) gs name ≡ None)
          × (lock_from (first + words_of_form g.decl.form) gs name ≡ None))
          ⊎ At (first + words_of_form g.decl.form) gs name →
          ((stretch_from first (g ∷ gs) name ≡ None) × (lock_from first (g ∷ gs) name ≡ None)) ⊎ At first (g ∷ gs) name
      by true e rest = inr (here_at first g gs name h.0 e)
      by false e (inr a) = inr (later_at first g gs name h.0 e a)
      by false e (inl none) = inl (
        ap (λ (t : Bool). if t then Some (record { first = first; size = words_of_form g.decl.form }) else
            stretch_from (first + words_of_form g.decl.form) gs name) e ∙ none.0,
        ap (λ (t : Bool). if t then lock_if g.decl.form first else
            lock_from (first + words_of_form g.decl.form) gs name) e ∙ none.1,
      )

  -- so a global is what its name finds
  pub global_at : (first : ℕ) (gs : List Global) → AllHave gs → AreFresh (map (λ g. g.decl) gs) → (i : ℕ) (g : Global) →
      slice_get gs i ≡ Some g → (a : At first gs g.decl.name) × (a.it ≡ g)
  unfolding here_at later_at
  global_at first [] h fresh i g e = absurd (cc e)
  global_at first (x ∷ gs) h fresh zero g e =
      let same : x ≡ g = cc e in
      subst (λ (v : Global). (a : At first (x ∷ gs) v.decl.name) × (a.it ≡ v)) same
      (here_at first x gs x.decl.name h.0 (same_name_self x.decl.name), refl)
  global_at first (x ∷ gs) h fresh (suc i) g e =
      let rest = global_at (first + words_of_form x.decl.form) gs h.1 fresh.1 i g e in
      let apart = each_get (λ (d : Decl). same_name x.decl.name d.name ≡ false) (map (λ v. v.decl) gs) fresh.0 i g.decl
      (map_get (λ v. v.decl) gs i g e) in
      (later_at first x gs g.decl.name h.0 apart rest.0, rest.1)

-- two stretches are of one name, or apart
stretch_past : (first : ℕ) (gs : List Global) (name : NameBytes) (s : Stretch) → stretch_from first gs name ≡ Some s →
    first ≤ s.first
stretch_past first [] name s e = absurd (cc e)
stretch_past first (g ∷ gs) name s e =
    by (same_name g.decl.name name) (λ f. stretch_past (first + words_of_form g.decl.form) gs name s f) e
  where
    by : (t : Bool) → (stretch_from (first + words_of_form g.decl.form) gs name ≡ Some s →
        first + words_of_form g.decl.form ≤ s.first) →
        (if t then Some (record { first = first; size = words_of_form g.decl.form }) else
        stretch_from (first + words_of_form g.decl.form) gs name) ≡ Some s → first ≤ s.first
    by true more f =
        let same : record { first = first; size = words_of_form g.decl.form } ≡ s = cc f in
        let at : first ≡ s.first = ap (λ (v : Stretch). v.first) same in
        omega (arith, at)
    by false more f = let le = more f in omega (arith, le)

pub stretches_apart : (first : ℕ) (gs : List Global) (a b : NameBytes) (s t : Stretch) →
    stretch_from first gs a ≡ Some s → stretch_from first gs b ≡ Some t →
    (a ≡ b) ⊎ (s.first + s.size ≤ t.first) ⊎ (t.first + t.size ≤ s.first)
stretches_apart first [] a b s t e f = absurd (cc e)
stretches_apart first (g ∷ gs) a b s t e f =
    by (same_name g.decl.name a) (same_name g.decl.name b) refl refl
    (λ c d. stretches_apart (first + words_of_form g.decl.form) gs a b s t c d) e f
  where
    w : ℕ
    w = words_of_form g.decl.form

    end_of : (v : Stretch) → Some (record { first = first; size = words_of_form g.decl.form }) ≡ Some v →
        v.first + v.size ≡ first + words_of_form g.decl.form
    end_of v c =
        let same : record { first = first; size = words_of_form g.decl.form } ≡ v = cc c in
        sym (ap (λ (u : Stretch). u.first + u.size) same)

    by : (p q : Bool) → same_name g.decl.name a ≡ p → same_name g.decl.name b ≡ q →
        (stretch_from (first + words_of_form g.decl.form) gs a ≡ Some s →
        stretch_from (first + words_of_form g.decl.form) gs b ≡ Some t →
        (a ≡ b) ⊎ (s.first + s.size ≤ t.first) ⊎ (t.first + t.size ≤ s.first)) →
        (if p then Some (record { first = first; size = words_of_form g.decl.form }) else
        stretch_from (first + words_of_form g.decl.form) gs a) ≡ Some s →
        (if q then Some (record { first = first; size = words_of_form g.decl.form }) else
        stretch_from (first + words_of_form g.decl.form) gs b) ≡ Some t →
        (a ≡ b) ⊎ (s.first + s.size ≤ t.first) ⊎ (t.first + t.size ≤ s.first)
    by true true i j more c d =
        inl (sym (same_name_from g.decl.name a i) ∙ same_name_from g.decl.name b j)
    by true false i j more c d =
        let end = end_of s c in
        let past = stretch_past (first + words_of_form g.decl.form) gs b t d in
        inr (inl (omega (arith, end, past)))
    by false true i j more c d =
        let end = end_of t d in
        let past = stretch_past (first + words_of_form g.decl.form) gs a s c in
        inr (inr (omega (arith, end, past)))
    by false false i j more c d = more c d
