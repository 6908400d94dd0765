-- The words of globals and locks stand one behind the other.
use Rattle.std.proofs.Common.{◌≡◌, ℕ, zero, suc, ◌+◌, ◌<◌, ◌≤◌, Bool, true, false, not, cond, List, [], ◌∷◌, ◌++◌, length, map, filter, take, drop, Option, Some, None, ap, refl, sym, ◌∙◌, subst, arith}
use Rattle.std.specs.List.{AllByRecursion, cons_option, slice_get}
use Rattle.std.proofs.Math.Seq.{drop-append-add, take-append_seam}
use Rattle.std.proofs.lemmas.List.Elements.{filter-append}
use Rattle.cas_base.specs.declared.decl.Form.{Form}
use Rattle.cas_base.specs.declared.decl.Form.TheVariants.{Lock, Shared, Table, Function}
use Rattle.cas_base.specs.declared.decl.Decl.{Decl}
use Rattle.cas_base.specs.declared.decl.Global.{Global}
use Rattle.cas_base.specs.Decl.{is_function, words_of_form, definitions, data_of}
use Rattle.cas_settle.specs.declared.link.CellRow.{CellRow}
use Rattle.cas_settle.specs.Settle.{words_of, all_decls, cell_of, cells_from, cells_of, lock_word}
use Rattle.cas_asm.specs.declared.image.Image.{Image}
use Rattle.cas_asm.specs.declared.instr.Instr.{Instr}
use Rattle.cas_object_text.specs.declared.object.Object.{Object}
use Rattle.cas_object_text.specs.Values.{HaveValues, AreTyped, AreWhole}
use Rattle.cas_link.specs.Parts.{decls_in, globals_in, units_of}
use Rattle.cas_link.specs.Image_of.{first_words, words_in}
use Rattle.cas_link_laws.specs.Linked.{IsLinkedOf, AreApart, HasWords}
use Rattle.cas_link.proofs.Lengths.{words_of-cons, length-first_words, length-words-objects}

-- each of these cells begins where the one before ends
abbrev pub StandFrom : ℕ → List CellRow → ℕ → Type 0
StandFrom first [] last = first ≡ last
StandFrom first (cell ∷ cells) last = (cell.first ≡ first) × StandFrom (first + cell.len) cells last

ends-after : (first last : ℕ) (cells : List CellRow) → StandFrom first cells last → first ≤ last
ends-after first last [] h = omega (arith, h)
ends-after first last (c ∷ cs) h = omega (arith, ends-after (first + c.len) last cs h.1)

pub stands-after : (first last : ℕ) (cells : List CellRow) → StandFrom first cells last → (i : ℕ) (a : CellRow) →
    slice_get cells i ≡ Some a → (first ≤ a.first) × (a.first + a.len ≤ last)
stands-after first last [] h i a e = absurd (cc e)
stands-after first last (c ∷ cs) h zero a e =
    let same : c ≡ a = cc e in
    let after = ends-after (first + c.len) last cs h.1 in
    let low : first ≤ c.first = omega (arith, h.0) in
    let high : c.first + c.len ≤ last = omega (arith, h.0, after) in
    subst (λ (x : CellRow). (first ≤ x.first) × (x.first + x.len ≤ last)) same (low, high)
stands-after first last (c ∷ cs) h (suc i) a e =
    let r = stands-after (first + c.len) last cs h.1 i a e in
    let low : first ≤ a.first = omega (arith, r.0) in
    (low, r.1)

apart-in : (first last : ℕ) (cells : List CellRow) → StandFrom first cells last → (i j : ℕ) (a b : CellRow) → i < j →
    slice_get cells i ≡ Some a → slice_get cells j ≡ Some b → a.first + a.len ≤ b.first
apart-in first last [] h i j a b l e f = absurd (cc e)
apart-in first last (c ∷ cs) h zero zero a b l e f = absurd (omega (arith, l))
apart-in first last (c ∷ cs) h zero (suc j) a b l e f =
    let same : c ≡ a = cc e in
    let r = stands-after (first + c.len) last cs h.1 j b f in
    let low : c.first + c.len ≤ b.first = omega (arith, h.0, r.0) in
    subst (λ (x : CellRow). x.first + x.len ≤ b.first) same low
apart-in first last (c ∷ cs) h (suc i) zero a b l e f = absurd (omega (arith, l))
apart-in first last (c ∷ cs) h (suc i) (suc j) a b l e f =
    let less : i < j = omega (arith, l) in
    apart-in (first + c.len) last cs h.1 i j a b less e f

module _ (word_of : List ℕ → Option ℕ) where
  stand-form : (first last : ℕ) (name : List ℕ) (form : Form) (cells : List CellRow) →
      StandFrom (first + words_of_form form) cells last →
      StandFrom first (cons_option (cell_of word_of first name form) cells) last
  stand-form first last name Lock cells h = (refl, h)
  stand-form first last name (Shared ty lock) cells h = (refl, h)
  stand-form first last name (Table ty) cells h = (refl, h)
  stand-form first last name (Function ret params holds) cells h =
      let same : first + 0 ≡ first = omega arith in
      subst (λ (n : ℕ). StandFrom n cells last) same h

  pub stand : (first : ℕ) (decls : List Decl) → StandFrom first (cells_from word_of first decls)
      (first + words_of decls)
  stand first [] = let same : first ≡ first + 0 = omega arith in same
  stand first (decl ∷ decls) =
      let next = first + words_of_form decl.form in
      let same : next + words_of decls ≡ first + words_of (decl ∷ decls) = omega (arith, words_of-cons decl decls) in
      stand-form first (first + words_of (decl ∷ decls)) decl.name decl.form (cells_from word_of next decls)
      (subst (λ (n : ℕ). StandFrom next (cells_from word_of next decls) n) same (stand next decls))

  -- functions have no cells
  data-form : (form : Form) (decl : Decl) (decls : List Decl) → decl.form ≡ form →
      ((first : ℕ) → cells_from word_of first decls
      ≡ cells_from word_of first (filter (λ d. not (is_function d.form)) decls)) → (first : ℕ) →
      cons_option (cell_of word_of first decl.name form) (cells_from word_of (first + words_of_form form) decls)
      ≡ cells_from word_of first (cond (not (is_function form)) (decl ∷ filter (λ d. not (is_function d.form)) decls)
      (filter (λ d. not (is_function d.form)) decls))
  data-form Lock decl decls e rest first =
      ap (λ cells. cons_option (cell_of word_of first decl.name Lock) cells) (rest (first + 1))
      ∙ ap (λ f. cons_option (cell_of word_of first decl.name f) (cells_from word_of (first + words_of_form f)
      (filter (λ d. not (is_function d.form)) decls))) (sym e)
  data-form (Shared ty lock) decl decls e rest first =
      ap (λ cells. cons_option (cell_of word_of first decl.name (Shared ty lock)) cells)
      (rest (first + words_of_form (Shared ty lock)))
      ∙ ap (λ f. cons_option (cell_of word_of first decl.name f) (cells_from word_of (first + words_of_form f)
      (filter (λ d. not (is_function d.form)) decls))) (sym e)
  data-form (Table ty) decl decls e rest first =
      ap (λ cells. cons_option (cell_of word_of first decl.name (Table ty)) cells)
      (rest (first + words_of_form (Table ty)))
      ∙ ap (λ f. cons_option (cell_of word_of first decl.name f) (cells_from word_of (first + words_of_form f)
      (filter (λ d. not (is_function d.form)) decls))) (sym e)
  data-form (Function ret params holds) decl decls e rest first =
      let same : first + 0 ≡ first = omega arith in
      ap (λ n. cells_from word_of n decls) same ∙ rest first

  cells-data : (decls : List Decl) (first : ℕ) → cells_from word_of first decls
      ≡ cells_from word_of first (filter (λ d. not (is_function d.form)) decls)
  cells-data [] first = refl
  cells-data (decl ∷ decls) first = data-form decl.form decl decls refl (cells-data decls) first

-- The globals of objects.

-- none of them is a function
abbrev pub AreData : List Global → Type 0
AreData [] = Unit {0}
AreData (g ∷ gs) = (is_function g.decl.form ≡ false) × AreData gs

pub globals-data : (os : List Object) → AreWhole (units_of os) →
    map (λ g. g.decl) (globals_in os) ≡ data_of (all_decls (decls_in os))
globals-data [] h = refl
globals-data (o ∷ os) h =
    let p : Decl → Bool = λ d. not (is_function d.form) in
    both o.unit.globals (globals_in os)
    ∙ ap (λ ds. ds ++ map (λ g. g.decl) (globals_in os)) h.0.definitions.globals
    ∙ ap (λ ds. data_of o.unit.decls ++ ds) (globals-data os h.1)
    ∙ sym (ap (filter p) (filter-append (λ (decl : Decl). decl.defined) o.unit.decls (all_decls (decls_in os)))
    ∙ filter-append p (definitions o.unit.decls) (definitions (all_decls (decls_in os))))
  where
    both : (gs hs : List Global) → map (λ g. g.decl) (gs ++ hs) ≡ map (λ g. g.decl) gs ++ map (λ g. g.decl) hs
    both [] hs = refl
    both (g ∷ gs) hs = ap (λ ds. g.decl ∷ ds) (both gs hs)

filtered : (decls : List Decl) → AllByRecursion (λ d. is_function d.form ≡ false)
    (filter (λ d. not (is_function d.form)) decls)
filtered [] = tt
filtered (decl ∷ decls) = by (is_function decl.form) refl (filtered decls)
  where
    by : (b : Bool) → is_function decl.form ≡ b → AllByRecursion (λ d. is_function d.form ≡ false)
        (filter (λ d. not (is_function d.form)) decls) → AllByRecursion (λ d. is_function d.form ≡ false)
        (cond (not b) (decl ∷ filter (λ d. not (is_function d.form)) decls)
        (filter (λ d. not (is_function d.form)) decls))
    by true e rest = rest
    by false e rest = (e, rest)

are_data : (gs : List Global) → AllByRecursion (λ (d : Decl). is_function d.form ≡ false) (map (λ g. g.decl) gs) →
    AreData gs
are_data [] h = tt
are_data (g ∷ gs) h = (h.0, are_data gs h.1)

pub globals-are_data : (os : List Object) → AreWhole (units_of os) → AreData (globals_in os)
globals-are_data os h =
    are_data (globals_in os)
    (subst (λ ds. AllByRecursion (λ (d : Decl). is_function d.form ≡ false) ds) (sym (globals-data os h))
    (filtered (definitions (all_decls (decls_in os)))))

pub globals-have_values : (os : List Object) → AreWhole (units_of os) → HaveValues (globals_in os)
globals-have_values [] h = tt
globals-have_values (o ∷ os) h = both o.unit.globals (globals_in os) h.0.values (globals-have_values os h.1)
  where
    both : (gs hs : List Global) → HaveValues gs → HaveValues hs → HaveValues (gs ++ hs)
    both [] hs p q = q
    both (g ∷ gs) hs p q = (p.0, both gs hs p.1 q)

pub globals-typed : (os : List Object) → AreWhole (units_of os) → AreTyped (globals_in os)
globals-typed [] h = tt
globals-typed (o ∷ os) h = both o.unit.globals (globals_in os) h.0.types (globals-typed os h.1)
  where
    both : (gs hs : List Global) → AreTyped gs → AreTyped hs → AreTyped (gs ++ hs)
    both [] hs p q = q
    both (g ∷ gs) hs p q = (p.0, both gs hs p.1 q)

-- the cells are those of the globals
pub cells-globals : (os : List Object) → AreWhole (units_of os) → cells_of (decls_in os)
    ≡ cells_from (lock_word 0 (definitions (all_decls (decls_in os)))) 0 (map (λ g. g.decl) (globals_in os))
cells-globals os h =
    let defined = definitions (all_decls (decls_in os)) in
    cells-data (lock_word 0 defined) defined 0
    ∙ ap (cells_from (lock_word 0 defined) 0) (sym (globals-data os h))

-- The words of each global.

module _ (word_of : List ℕ → Option ℕ) where
  -- a cell at the head
  pub record Made (first : ℕ) (name : List ℕ) (form : Form) (rest : List CellRow) : Type 0 where
    pub cell : CellRow
    pub is : cons_option (cell_of word_of first name form) rest ≡ cell ∷ rest
    pub first_is : cell.first ≡ first
    pub name_is : cell.name ≡ name
    pub len_is : cell.len ≡ words_of_form form

  made : (first : ℕ) (name : List ℕ) (form : Form) (rest : List CellRow) → is_function form ≡ false →
      Made first name form rest
  made first name Lock rest e = record {
    cell = record { name = name; first = first; len = 1; guard = None; constant = false; lock = true };
    is = refl;
    first_is = refl;
    name_is = refl;
    len_is = refl;
  }
  made first name (Shared ty lock) rest e = record {
    cell = record {
      name = name;
      first = first;
      len = words_of_form (Shared ty lock);
      guard = word_of lock;
      constant = false;
      lock = false;
    };
    is = refl;
    first_is = refl;
    name_is = refl;
    len_is = refl;
  }
  made first name (Table ty) rest e = record {
    cell = record {
      name = name;
      first = first;
      len = words_of_form (Table ty);
      guard = None;
      constant = true;
      lock = false;
    };
    is = refl;
    first_is = refl;
    name_is = refl;
    len_is = refl;
  }
  made first name (Function ret params holds) rest e = absurd (cc e)

  -- a global's cell, and its words among those of the globals
  pub record At (first : ℕ) (gs : List Global) (k : ℕ) (g : Global) : Type 0 where
    pub cell : CellRow
    pub before : ℕ
    pub is : slice_get (cells_from word_of first (map (λ g. g.decl) gs)) k ≡ Some cell
    pub first_is : cell.first ≡ first + before
    pub name_is : cell.name ≡ g.decl.name
    pub words : take cell.len (drop before (words_in gs)) ≡ first_words g

  pub at : (gs : List Global) → AreData gs → HaveValues gs → (first k : ℕ) (g : Global) → slice_get gs k ≡ Some g →
      At first gs k g
  at [] d v first k g e = absurd (cc e)
  at (h ∷ hs) d v first zero g e =
      let same : h ≡ g = cc e in
      let rest = cells_from word_of (first + words_of_form h.decl.form) (map (λ g. g.decl) hs) in
      let m = made first h.decl.name h.decl.form rest d.0 in
      let len : m.cell.len ≡ length (first_words h) = m.len_is ∙ sym (length-first_words h v.0) in
      let start : first ≡ first + 0 = omega arith in
      subst (λ (x : Global). At first (h ∷ hs) 0 x) same (record {
        cell = m.cell;
        before = 0;
        is = ap (λ cells. slice_get cells 0) m.is;
        first_is = m.first_is ∙ start;
        name_is = m.name_is;
        words = ap (λ n. take n (first_words h ++ words_in hs)) len ∙ take-append_seam (first_words h) (words_in hs);
      })
  at (h ∷ hs) d v first (suc k) g e =
      let next = first + words_of_form h.decl.form in
      let rest = cells_from word_of next (map (λ g. g.decl) hs) in
      let m = made first h.decl.name h.decl.form rest d.0 in
      let r = at hs d.1 v.1 next k g e in
      let there : next + r.before ≡ first + (words_of_form h.decl.form + r.before) = omega arith in
      let long : words_of_form h.decl.form + r.before ≡ length (first_words h) + r.before =
      ap (λ n. n + r.before) (sym (length-first_words h v.0)) in
      record {
        cell = r.cell;
        before = words_of_form h.decl.form + r.before;
        is = ap (λ cells. slice_get cells (suc k)) m.is ∙ r.is;
        first_is = r.first_is ∙ there;
        name_is = r.name_is;
        words =
            ap (λ n. take r.cell.len (drop n (first_words h ++ words_in hs))) long
            ∙ ap (take r.cell.len) (drop-append-add (first_words h) (words_in hs) r.before)
            ∙ r.words;
      }

-- Of images.

pub apart : (objects : List Object) (lock : List (Instr ℕ)) (entries : List (List ℕ)) (image : Image) →
    IsLinkedOf objects lock entries image → AreApart (cells_of (decls_in objects)) (length image.words)
apart objects lock entries image h =
    let units = decls_in objects in
    let defined = definitions (all_decls units) in
    let all = stand (lock_word 0 defined) 0 defined in
    let words : length image.words ≡ words_of defined =
    ap length h.made.words ∙ length-words-objects objects h.whole in
    record {
      apart = apart-in 0 (0 + words_of defined) (cells_of units) all;
      within = λ i a e.
          let r = stands-after 0 (0 + words_of defined) (cells_of units) all i a e in omega (arith, r.1, words);
    }

pub words : (objects : List Object) (lock : List (Instr ℕ)) (entries : List (List ℕ)) (image : Image) →
    IsLinkedOf objects lock entries image → (k : ℕ) (global : Global) → slice_get (globals_in objects) k ≡ Some global →
    HasWords objects image k global
words objects lock entries image h k global e =
    let word_of = lock_word 0 (definitions (all_decls (decls_in objects))) in
    let a = at word_of (globals_in objects) (globals-are_data objects h.whole)
    (globals-have_values objects h.whole) 0 k global e in
    let start : a.before ≡ a.cell.first = let f : a.cell.first ≡ 0 + a.before = a.first_is in omega (arith, f) in
    record {
      cell = a.cell;
      is = ap (λ cells. slice_get cells k) (cells-globals objects h.whole) ∙ a.is;
      name = a.name_is;
      words =
          ap (λ ws. take a.cell.len (drop a.cell.first ws)) h.made.words
          ∙ ap (λ n. take a.cell.len (drop n (words_in (globals_in objects)))) (sym start)
          ∙ a.words;
    }
