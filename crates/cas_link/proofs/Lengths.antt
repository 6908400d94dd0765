-- How long the parts of an image are.
use Rattle.std.proofs.Common.{◌≡◌, ℕ, ◌+◌, Bool, true, false, not, cond, List, [], ◌∷◌, ◌++◌, length, map, filter, replicate, count_by, Option, ap, refl, sym, ◌∙◌, arith, length-append}
use Rattle.std.specs.List.{cons_option}
use Rattle.std.proofs.lemmas.List.{length-replicate}
use Rattle.std.proofs.lemmas.List.Sums.{sum_by-cons, sum_by-append}
use Rattle.std.proofs.lemmas.List.Elements.{filter-append}
use Rattle.std.proofs.lemmas.List.Recursion.{is_count_by}
use Rattle.cas_base.specs.declared.decl.Form.{Form}
use Rattle.cas_base.specs.declared.decl.Form.TheVariants.{Lock, Shared, Table, Function}
use Rattle.cas_base.specs.declared.decl.Decl.{Decl}
use Rattle.cas_base.specs.declared.decl.Global.{Global}
use Rattle.cas_base.specs.Decl.{is_lock, is_function, words_of_form, definitions}
use Rattle.cas_settle.specs.declared.link.CellRow.{CellRow}
use Rattle.cas_settle.specs.Settle.{words_of, all_decls, cell_of, cells_from, cells_of, lock_word}
use Rattle.cas_asm.specs.declared.line.Line.{Line}
use Rattle.cas_asm.specs.declared.line.Line.TheVariants.{Label, Run}
use Rattle.cas_asm.specs.declared.line.AsmFun.{AsmFun}
use Rattle.cas_asm.specs.Links.{Links}
use Rattle.cas_link.specs.Parts.{is_run, size_of, sizes_of, decls_in, globals_in, units_of}
use Rattle.cas_object_text.specs.declared.object.Object.{Object}
use Rattle.cas_object_text.specs.Values.{HasValues, HaveValues, AreWhole}
use Rattle.cas_link.specs.Code.{links_by, labels_from, code_of, code_from}
use Rattle.cas_link.specs.Image_of.{first_words, words_in, constants_in, guards_in}

-- code has as many instructions as the lines
pub length-code_of : (links : Links (List ℕ)) (lines : List Line) → length (code_of links lines) ≡ count_by is_run lines
length-code_of links lines = is_count_by (λ (ls : List Line). length (code_of links ls)) is_run refl by lines
  where
    by : (line : Line) (ls : List Line) → length (code_of links (line ∷ ls)) ≡ cond (is_run line)
        (1 + length (code_of links ls)) (length (code_of links ls))
    by (Label n) ls = refl
    by (Run i) ls = omega arith

pub length-code_from : (addresses places : List (List ℕ × ℕ)) (place : ℕ) (fs : List AsmFun) →
    length (code_from addresses places place fs) ≡ sizes_of fs
length-code_from addresses places place [] = refl
length-code_from addresses places place (f ∷ fs) =
    length-append (code_of (links_by addresses places (labels_from place f.lines)) f.lines)
    (code_from addresses places (place + size_of f) fs)
    ∙ omega (
      arith,
      length-code_of (links_by addresses places (labels_from place f.lines))
          f.lines,
      length-code_from addresses places (place + size_of f) fs,
    )

-- the words of cells
abbrev pub lens_of : List CellRow → ℕ
lens_of [] = 0
lens_of (cell ∷ cells) = cell.len + lens_of cells

pub length-constants_in : (cells : List CellRow) → length (constants_in cells) ≡ lens_of cells
length-constants_in [] = refl
length-constants_in (cell ∷ cells) =
    length-append (replicate cell.len cell.constant) (constants_in cells)
    ∙ omega (arith, length-replicate cell.len cell.constant, length-constants_in cells)

pub length-guards_in : (cells : List CellRow) → length (guards_in cells) ≡ lens_of cells
length-guards_in [] = refl
length-guards_in (cell ∷ cells) =
    length-append (replicate cell.len cell.guard) (guards_in cells)
    ∙ omega (arith, length-replicate cell.len cell.guard, length-guards_in cells)

pub words_of-cons : (decl : Decl) (decls : List Decl) →
    words_of (decl ∷ decls) ≡ words_of_form decl.form + words_of decls
words_of-cons decl decls = sum_by-cons (λ (d : Decl). words_of_form d.form) decl decls

module _ (word_of : List ℕ → Option ℕ) where
  lens-form : (first : ℕ) (name : List ℕ) (form : Form) (cells : List CellRow) →
      lens_of (cons_option (cell_of word_of first name form) cells) ≡ words_of_form form + lens_of cells
  lens-form first name Lock cells = refl
  lens-form first name (Shared ty lock) cells = refl
  lens-form first name (Table ty) cells = refl
  lens-form first name (Function ret params holds) cells = omega arith

  lens-cells_from : (first : ℕ) (decls : List Decl) → lens_of (cells_from word_of first decls) ≡ words_of decls
  lens-cells_from first [] = refl
  lens-cells_from first (decl ∷ decls) =
      lens-form first decl.name decl.form (cells_from word_of (first + words_of_form decl.form) decls)
      ∙ ap (λ n. words_of_form decl.form + n) (lens-cells_from (first + words_of_form decl.form) decls)
      ∙ sym (words_of-cons decl decls)

-- the cells of units have the words of their definitions
pub lens-cells_of : (units : List (List Decl)) → lens_of (cells_of units) ≡ words_of (definitions (all_decls units))
lens-cells_of units = let defined = definitions (all_decls units) in lens-cells_from (lock_word 0 defined) 0 defined

-- the words of globals
lock_has_one : (form : Form) → is_lock form ≡ true → words_of_form form ≡ 1
lock_has_one Lock e = refl
lock_has_one (Shared ty lock) e = absurd (cc e)
lock_has_one (Table ty) e = absurd (cc e)
lock_has_one (Function ret params holds) e = absurd (cc e)

pub length-first_words : (g : Global) → HasValues g → length (first_words g) ≡ words_of_form g.decl.form
length-first_words g has = by (is_lock g.decl.form) refl
  where
    by : (b : Bool) → is_lock g.decl.form ≡ b → length (cond b (1 ∷ []) g.values) ≡ words_of_form g.decl.form
    by true e = sym (lock_has_one g.decl.form e)
    by false e = has e

length-words_in : (gs : List Global) → HaveValues gs → length (words_in gs) ≡ words_of (map (λ g. g.decl) gs)
length-words_in [] has = refl
length-words_in (g ∷ gs) has =
    length-append (first_words g) (words_in gs)
    ∙ omega (arith, length-first_words g has.0, length-words_in gs has.1, words_of-cons g.decl (map (λ g. g.decl) gs))

length-words-append : (gs hs : List Global) → length (words_in (gs ++ hs)) ≡ length (words_in gs) + length (words_in hs)
length-words-append [] hs = omega arith
length-words-append (g ∷ gs) hs =
    length-append (first_words g) (words_in (gs ++ hs))
    ∙ omega (arith, length-append (first_words g) (words_in gs), length-words-append gs hs)

-- functions have no words
form_words : (form : Form) (decls : List Decl) (decl : Decl) → decl.form ≡ form →
    words_of (cond (not (is_function form)) (decl ∷ filter (λ d. not (is_function d.form)) decls)
    (filter (λ d. not (is_function d.form)) decls))
    ≡ words_of_form form + words_of (filter (λ d. not (is_function d.form)) decls)
form_words Lock decls decl e = words_of-cons decl (filter (λ d. not (is_function d.form)) decls)
    ∙ ap (λ f. words_of_form f + words_of (filter (λ d. not (is_function d.form)) decls)) e
form_words (Shared ty lock) decls decl e = words_of-cons decl (filter (λ d. not (is_function d.form)) decls)
    ∙ ap (λ f. words_of_form f + words_of (filter (λ d. not (is_function d.form)) decls)) e
form_words (Table ty) decls decl e = words_of-cons decl (filter (λ d. not (is_function d.form)) decls)
    ∙ ap (λ f. words_of_form f + words_of (filter (λ d. not (is_function d.form)) decls)) e
form_words (Function ret params holds) decls decl e = omega arith

words_of-data : (decls : List Decl) → words_of (filter (λ d. not (is_function d.form)) decls) ≡ words_of decls
words_of-data [] = refl
words_of-data (decl ∷ decls) =
    form_words decl.form decls decl refl
    ∙ omega (arith, words_of-data decls, words_of-cons decl decls)

words_of-append : (xs ys : List Decl) → words_of (definitions (xs ++ ys)) ≡ words_of (definitions xs) + words_of
    (definitions ys)
words_of-append xs ys =
    ap words_of (filter-append (λ (decl : Decl). decl.defined) xs ys)
    ∙ sum_by-append (λ (d : Decl). words_of_form d.form) (definitions xs) (definitions ys)

-- the words of objects are those of their definitions
pub length-words-objects : (os : List Object) → AreWhole (units_of os) →
    length (words_in (globals_in os)) ≡ words_of (definitions (all_decls (decls_in os)))
length-words-objects [] h = refl
length-words-objects (o ∷ os) h =
    let own : length (words_in o.unit.globals) ≡ words_of (definitions o.unit.decls) =
    length-words_in o.unit.globals h.0.values ∙ ap words_of h.0.definitions.globals
    ∙ words_of-data (definitions o.unit.decls) in
    omega (
      arith,
      length-words-append o.unit.globals (globals_in os),
      own,
      length-words-objects os h.1,
      words_of-append
          o.unit.decls (all_decls (decls_in os)),
    )
