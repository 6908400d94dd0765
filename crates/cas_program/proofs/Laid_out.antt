-- The cells of a program's definitions: each has its own words, of its kinds.
use Rattle.std.proofs.Common.{arith, ◌≡◌, ◌⊎◌, inl, inr, ℕ, zero, suc, ◌+◌, ◌-◌, ◌<◌, ◌≤◌, Bool, true, false, cond, ◌&&◌, List, [], ◌∷◌, ◌++◌, length, Option, Some, refl, sym, ap, subst, ◌∙◌}
use Rattle.std.specs.Prelude.{slice_get}
use Rattle.std.specs.List.{find, cons_option, flat_map}
use Rattle.std.specs.Str.{bytes_eq}
use Rattle.std.proofs.lemmas.List.{length-replicate}
use Rattle.cas_base.specs.Decl.{is_function, is_lock, is_named, words_of_form, definition_of}
use Rattle.cas_base.specs.Ty.{words_of_ty}
use Rattle.cas_base.specs.declared.decl.Decl.{Decl}
use Rattle.cas_base.specs.declared.decl.Form.{Form}
use Rattle.cas_base.specs.declared.decl.Form.TheVariants.{Lock, Shared, Table, Function}
use Rattle.cas_base.specs.declared.kind.Kind.{Kind}
use Rattle.cas_program.specs.Program.{kinds_of_form}
use Rattle.cas_settle.specs.Settle.{cell_of, cells_from, lock_word}
use Rattle.cas_settle.specs.declared.link.CellRow.{CellRow}

-- the kinds of the words of these definitions
abbrev pub kinds_in : List Decl → List (Option Kind)
kinds_in ds = flat_map (λ (d : Decl). kinds_of_form d.form) ds

-- a cell of this name
abbrev pub has_name : List ℕ → CellRow → Bool
has_name name c = bytes_eq name c.name

pub kinds_length : (f : Form) → length (kinds_of_form f) ≡ words_of_form f
kinds_length Lock = refl
kinds_length (Shared ty name) = length-replicate (words_of_ty ty) _
kinds_length (Table ty) = length-replicate (words_of_ty ty) _
kinds_length (Function ret params holds) = refl

pub get_front : {X : Type 0} (xs ys : List X) (i : ℕ) → i < length xs → slice_get (xs ++ ys) i ≡ slice_get xs i
get_front [] ys i less = absurd (omega (arith, less))
get_front (x ∷ xs) ys zero less = refl
get_front (x ∷ xs) ys (suc i) less = get_front xs ys i (omega (arith, less))

pub get_behind : {X : Type 0} (xs ys : List X) (i : ℕ) → slice_get (xs ++ ys) (i + length xs) ≡ slice_get ys i
get_behind [] ys i = ap (slice_get ys) (omega arith)
get_behind (x ∷ xs) ys i =
    let e : i + length (x ∷ xs) ≡ suc (i + length xs) = omega arith in
    ap (slice_get (x ∷ xs ++ ys)) e ∙ get_behind xs ys i

-- among these definitions, which begin at the word `first`, one begins at this word
abbrev pub Begins : (first : ℕ) → List Decl → Decl → (word : ℕ) → Type 0
Begins first [] d w = ⊥
Begins first (x ∷ ds) d w = ((x ≡ d) × (first ≡ w)) ⊎ Begins (first + words_of_form x.form) ds d w

begins_behind : (first : ℕ) (ds : List Decl) (d : Decl) (w : ℕ) → Begins first ds d w → first ≤ w
begins_behind first [] d w h = absurd h
begins_behind first (x ∷ ds) d w (inl h) = omega (arith, h.1)
begins_behind first (x ∷ ds) d w (inr h) = omega (arith, begins_behind (first + words_of_form x.form) ds d w h)

-- a word is of one definition alone
pub begin_apart : (first : ℕ) (ds : List Decl) (d e : Decl) (w v n : ℕ) → Begins first ds d w → Begins first ds e v →
    w ≤ n → n < w + words_of_form d.form → v ≤ n → n < v + words_of_form e.form → (d ≡ e) × (w ≡ v)
begin_apart first [] d e w v n h k from to over under = absurd h
begin_apart first (x ∷ ds) d e w v n (inl h) (inl k) from to over under = (sym h.0 ∙ k.0, sym h.1 ∙ k.1)
begin_apart first (x ∷ ds) d e w v n (inl h) (inr k) from to over under =
    let size : words_of_form x.form ≡ words_of_form d.form = ap (λ (y : Decl). words_of_form y.form) h.0 in
    absurd (omega (arith, begins_behind (first + words_of_form x.form) ds e v k, size, h.1, to, over))
begin_apart first (x ∷ ds) d e w v n (inr h) (inl k) from to over under =
    let size : words_of_form x.form ≡ words_of_form e.form = ap (λ (y : Decl). words_of_form y.form) k.0 in
    absurd (omega (arith, begins_behind (first + words_of_form x.form) ds d w h, size, k.1, from, under))
begin_apart first (x ∷ ds) d e w v n (inr h) (inr k) from to over under =
    begin_apart (first + words_of_form x.form) ds d e w v n h k from to over under

-- the part of a place that lies behind
split : (m n : ℕ) → m ≤ n → (k : ℕ) × (n ≡ k + m)
split m n less = (n - m, omega (arith, less))

kinds_later : (x : Decl) (ds : List Decl) (o : Option (Option Kind)) (at : ℕ) → length (kinds_of_form x.form) ≤ at →
    ((k : ℕ) → at ≡ k + length (kinds_of_form x.form) → slice_get (kinds_in ds) k ≡ o) →
    slice_get (kinds_in (x ∷ ds)) at ≡ o
kinds_later x ds o at less rest =
    let (k, same) = split (length (kinds_of_form x.form)) at less in
    ap (slice_get (kinds_in (x ∷ ds))) same ∙ get_behind (kinds_of_form x.form) (kinds_in ds) k ∙ rest k same

kinds_there : (first : ℕ) (ds : List Decl) (d : Decl) (w i : ℕ) → Begins first ds d w → i < words_of_form d.form →
    (at : ℕ) → first + at ≡ w + i → slice_get (kinds_in ds) at ≡ slice_get (kinds_of_form d.form) i
kinds_there first [] d w i h less at e = absurd h
kinds_there first (x ∷ ds) d w i (inl h) less at e =
    let size : words_of_form x.form ≡ words_of_form d.form = ap (λ (y : Decl). words_of_form y.form) h.0 in
    let same : at ≡ i = omega (arith, e, h.1) in
    ap (slice_get (kinds_in (x ∷ ds))) same
    ∙ get_front (kinds_of_form x.form) (kinds_in ds) i (omega (arith, less, size, kinds_length x.form))
    ∙ ap (λ (y : Decl). slice_get (kinds_of_form y.form) i) h.0
kinds_there first (x ∷ ds) d w i (inr h) less at e =
    kinds_later x ds (slice_get (kinds_of_form d.form) i) at
    (omega (arith, begins_behind (first + words_of_form x.form) ds d w h, e, kinds_length x.form))
    (λ k same. kinds_there (first + words_of_form x.form) ds d w i h less k
    (omega (arith, same, e, kinds_length x.form)))

-- the kinds of a definition's words stand at its words
pub kinds_at : (ds : List Decl) (d : Decl) (w i : ℕ) → Begins 0 ds d w → i < words_of_form d.form →
    slice_get (kinds_in ds) (w + i) ≡ slice_get (kinds_of_form d.form) i
kinds_at ds d w i h less = kinds_there 0 ds d w i h less (w + i) (omega arith)

-- a lock's word is that of a lock
lock_by : (first w : ℕ) (d : Decl) (ds : List Decl) (name : List ℕ) (lock named : Bool) → is_lock d.form ≡ lock →
    cond (lock && named) (Some first) (lock_word (first + words_of_form d.form) ds name) ≡ Some w →
    (lock_word (first + words_of_form d.form) ds name ≡ Some w → (e : Decl)
    × Begins (first + words_of_form d.form) ds e w × (is_lock e.form ≡ true)) →
    (e : Decl) × Begins first (d ∷ ds) e w × (is_lock e.form ≡ true)
lock_by first w d ds name true true is at rest = let same : first ≡ w = cc at in (d, inl (refl, same), is)
lock_by first w d ds name true false is at rest = let (e, begins, lock) = rest at in (e, inr begins, lock)
lock_by first w d ds name false named is at rest = let (e, begins, lock) = rest at in (e, inr begins, lock)

pub lock_begins : (first : ℕ) (ds : List Decl) (name : List ℕ) (w : ℕ) → lock_word first ds name ≡ Some w → (d : Decl)
    × Begins first ds d w × (is_lock d.form ≡ true)
lock_begins first [] name w at = absurd (cc at)
lock_begins first (d ∷ ds) name w at = lock_by first w d ds name (is_lock d.form) (is_named name d) refl at
    (lock_begins (first + words_of_form d.form) ds name w)

module _ (word_of : List ℕ → Option ℕ) where
  -- the definition of this name has a cell at its word, and the word is the lock's where it is a lock
  pub record IsLaid (first : ℕ) (ds : List Decl) (name : List ℕ) (d : Decl) : Type 0 where
    pub word : ℕ
    pub begins : Begins first ds d word
    pub cell : find (has_name name) (cells_from word_of first ds) ≡ cell_of word_of word d.name d.form
    pub locked : is_lock d.form ≡ true → lock_word first ds name ≡ Some word

  first_cell : (first : ℕ) (name own : List ℕ) (form : Form) (rest : List CellRow) → is_function form ≡ false →
      bytes_eq name own ≡ true →
      find (has_name name) (cons_option (cell_of word_of first own form) rest) ≡ cell_of word_of first own form
  first_cell first name own Lock rest has same =
      ap (λ b. cond b (cell_of word_of first own Lock) (find (has_name name) rest)) same
  first_cell first name own (Shared ty l) rest has same =
      ap (λ b. cond b (cell_of word_of first own (Shared ty l)) (find (has_name name) rest)) same
  first_cell first name own (Table ty) rest has same =
      ap (λ b. cond b (cell_of word_of first own (Table ty)) (find (has_name name) rest)) same
  first_cell first name own (Function ret params holds) rest is same = absurd (cc is)

  later_cell : (first : ℕ) (name own : List ℕ) (form : Form) (rest : List CellRow) → bytes_eq name own ≡ false →
      find (has_name name) (cons_option (cell_of word_of first own form) rest) ≡ find (has_name name) rest
  later_cell first name own Lock rest same =
      ap (λ b. cond b (cell_of word_of first own Lock) (find (has_name name) rest)) same
  later_cell first name own (Shared ty l) rest same = ap
      (λ b. cond b (cell_of word_of first own (Shared ty l)) (find (has_name name) rest)) same
  later_cell first name own (Table ty) rest same =
      ap (λ b. cond b (cell_of word_of first own (Table ty)) (find (has_name name) rest)) same
  later_cell first name own (Function ret params holds) rest same = refl

  laid_first : (first : ℕ) (d : Decl) (ds : List Decl) (name : List ℕ) → bytes_eq name d.name ≡ true →
      is_function d.form ≡ false → IsLaid first (d ∷ ds) name d
  laid_first first d ds name same is_data = record {
    word = first;
    begins = inl (refl, refl);
    cell = first_cell first name d.name d.form (cells_from word_of (first + words_of_form d.form) ds) is_data same;
    locked = λ is. (λ i. cond (is i && same i) (Some first) (lock_word (first + words_of_form d.form) ds name));
  }

  not_named : (lock named : Bool) (o p : Option ℕ) → named ≡ false → cond (lock && named) o p ≡ p
  not_named true named o p is = ap (λ b. cond b o p) is
  not_named false named o p is = refl

  laid_later : (first : ℕ) (y : Decl) (ds : List Decl) (name : List ℕ) (d : Decl) → bytes_eq name y.name ≡ false →
      IsLaid (first + words_of_form y.form) ds name d → IsLaid first (y ∷ ds) name d
  laid_later first y ds name d differs laid = record {
    word = laid.word;
    begins = inr laid.begins;
    cell = later_cell first name y.name y.form (cells_from word_of (first + words_of_form y.form) ds) differs
        ∙ laid.cell;
    locked = λ is. not_named (is_lock y.form) (bytes_eq name y.name) (Some first)
        (lock_word (first + words_of_form y.form) ds name) differs ∙ laid.locked is;
  }

  laid_by : (first : ℕ) (y : Decl) (ds : List Decl) (name : List ℕ) (d : Decl) (b : Bool) → bytes_eq name y.name ≡ b →
      cond b (Some y) (definition_of ds name) ≡ Some d → is_function d.form ≡ false →
      (definition_of ds name ≡ Some d → IsLaid (first + words_of_form y.form) ds name d) → IsLaid first (y ∷ ds) name d
  laid_by first y ds name d true is found is_data rest =
      let same : y ≡ d = cc found in subst (IsLaid first (y ∷ ds) name) same
      (laid_first first y ds name is (subst (λ x. is_function x.form ≡ false) (sym same) is_data))
  laid_by first y ds name d false is found is_data rest = laid_later first y ds name d is (rest found)

  pub laid_out : (first : ℕ) (ds : List Decl) (name : List ℕ) (d : Decl) → definition_of ds name ≡ Some d →
      is_function d.form ≡ false → IsLaid first ds name d
  laid_out first [] name d found is_data = absurd (cc found)
  laid_out first (y ∷ ds) name d found is_data =
      laid_by first y ds name d (bytes_eq name y.name) refl found is_data
      (λ f. laid_out (first + words_of_form y.form) ds name d f is_data)
