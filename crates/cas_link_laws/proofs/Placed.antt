-- Where functions, labels and entries are in an image.
use Rattle.std.proofs.Common.{◌≡◌, ℕ, zero, suc, ◌+◌, ◌*◌, ◌≤◌, Bool, true, false, not, cond, ◌==◌, ◌||◌, IsTrue, List, [], ◌∷◌, ◌++◌, length, map, filter, take, drop, count_by, Option, Some, None, IsSomeAnd, ap, refl, sym, ◌∙◌, subst, arith}
use Rattle.std.specs.List.{AllByRecursion, IsDistinct, cons_option, find, list_all, slice_get}
use Rattle.std.specs.Map.{keys_of, lookup}
use Rattle.std.specs.Option.{option_map}
use Rattle.std.specs.Str.{bytes_eq}
use Rattle.std.proofs.Math.Seq.{drop-append-add, take-append_seam}
use Rattle.std.proofs.lemmas.Bool.{eq-eqb, eqb-true, and_parts}
use Rattle.std.proofs.lemmas.Slice.Eq.{bytes_eq-Decides}
use Rattle.std.proofs.lemmas.Cmp.{nat_list_eq_equiv}
use Rattle.std.proofs.lemmas.List.Elements.{filter-append, recursion_from_All}
use Rattle.std.proofs.lemmas.List.Sums.{sum_by-cons}
use Rattle.std.proofs.lemmas.Map.Entries.{lookup_from_place}
use Rattle.std.proofs.lemmas.Map.Keys.{IsDistinct-cons, IsDistinct-head, IsDistinct-tail}
use Rattle.std.proofs.lemmas.Option.{slice_get-map}
use Rattle.cas_base.specs.declared.decl.Form.{Form}
use Rattle.cas_base.specs.declared.decl.Form.TheVariants.{Lock, Shared, Table, Function}
use Rattle.cas_base.specs.declared.decl.Decl.{Decl}
use Rattle.cas_base.specs.Decl.{words_of_form, is_function, is_entry, is_named, definitions, functions_of, definition_of}
use Rattle.cas_settle.specs.declared.link.CellRow.{CellRow}
use Rattle.cas_settle.specs.Settle.{all_decls, names_of, words_of, cell_of, cells_from, cells_of, lock_word}
use Rattle.cas_asm.specs.declared.image.Image.{Image}
use Rattle.cas_asm.specs.declared.instr.Instr.{Instr}
use Rattle.cas_asm.specs.declared.line.Line.{Line}
use Rattle.cas_asm.specs.declared.line.Line.TheVariants.{Label, Run}
use Rattle.cas_asm.specs.declared.line.AsmFun.{AsmFun}
use Rattle.cas_asm.specs.Links.{Links}
use Rattle.cas_asm.specs.Resolve.{resolved}
use Rattle.cas_object_text.specs.declared.object.Object.{Object}
use Rattle.cas_object_text.specs.Values.{AreWhole}
use Rattle.cas_object_text.specs.Labels.{are_distinct, is_labelled, is_set, uses_set}
use Rattle.cas_link.specs.Rows.{found, found_number, or_zero}
use Rattle.cas_link.specs.Parts.{decls_in, functions_in, is_run, size_of, sizes_of, units_of}
use Rattle.cas_link.specs.Code.{address_of, addresses_of, places_from, labels_from, links_by, code_of, code_from}
use Rattle.cas_link_laws.specs.Linked.{FitTogether, IsLinkedOf, StandsAt, BeginsAt, place_of, instructions_of}
use Rattle.cas_link.proofs.Lengths.{length-code_of}
use Rattle.cas_link_laws.proofs.Standing.{stand, stands-after}
use Rattle.cas_link_laws.proofs.Fitting.{fit}

-- Rows whose names are distinct.

found-lookup : (name : List ℕ) (rows : List (List ℕ × ℕ)) → lookup (bytes_eq name) rows ≡ found rows name
found-lookup name [] = refl
found-lookup name (row ∷ rows) = ap (λ o. cond (bytes_eq name row.0) (Some row.1) o) (found-lookup name rows)

found-there : (rows : List (List ℕ × ℕ)) (k : ℕ) (name : List ℕ) (n : ℕ) → IsDistinct bytes_eq (keys_of rows) →
    slice_get rows k ≡ Some (name, n) → or_zero (found rows name) ≡ n
found-there rows k name n d e =
    ap or_zero (sym (found-lookup name rows) ∙ lookup_from_place nat_list_eq_equiv rows k name n d e)

all-filter : (P : List ℕ → Type 0) (p : Decl → Bool) (ds : List Decl) → AllByRecursion P (names_of ds) →
    AllByRecursion P (names_of (filter p ds))
all-filter P p [] h = tt
all-filter P p (d ∷ ds) h = by (p d) (all-filter P p ds h.1)
  where
    by : (b : Bool) → AllByRecursion P (names_of (filter p ds)) →
        AllByRecursion P (names_of (cond b (d ∷ filter p ds) (filter p ds)))
    by true rest = (h.0, rest)
    by false rest = rest

pub distinct-filter : (p : Decl → Bool) (ds : List Decl) → IsDistinct bytes_eq (names_of ds) →
    IsDistinct bytes_eq (names_of (filter p ds))
distinct-filter p [] h = h
distinct-filter p (d ∷ ds) h = by (p d) (distinct-filter p ds (IsDistinct-tail bytes_eq d.name (names_of ds) h))
  where
    by : (b : Bool) → IsDistinct bytes_eq (names_of (filter p ds)) →
        IsDistinct bytes_eq (names_of (cond b (d ∷ filter p ds) (filter p ds)))
    by true rest = IsDistinct-cons bytes_eq d.name (names_of (filter p ds))
        (all-filter (λ other. bytes_eq d.name other ≡ false) p ds
        (IsDistinct-head bytes_eq d.name (names_of ds) h)) rest
    by false rest = rest

-- The names of cells.

module _ (word_of : List ℕ → Option ℕ) where
  cell-names : (decls : List Decl) (first : ℕ) → map (λ c. c.name) (cells_from word_of first decls)
      ≡ names_of (filter (λ d. not (is_function d.form)) decls)
  cell-names [] first = refl
  cell-names (decl ∷ decls) first = by decl.form first (cell-names decls)
    where
      by : (form : Form) (first : ℕ) → ((n : ℕ) → map (λ c. c.name) (cells_from word_of n decls)
          ≡ names_of (filter (λ d. not (is_function d.form)) decls)) →
          map (λ c. c.name) (cons_option (cell_of word_of first decl.name form)
          (cells_from word_of (first + words_of_form form) decls))
          ≡ names_of (cond (not (is_function form)) (decl ∷ filter (λ d. not (is_function d.form)) decls)
          (filter (λ d. not (is_function d.form)) decls))
      by Lock first rest = ap (λ ns. decl.name ∷ ns) (rest (first + 1))
      by (Shared ty lock) first rest = ap (λ ns. decl.name ∷ ns) (rest (first + words_of_form (Shared ty lock)))
      by (Table ty) first rest = ap (λ ns. decl.name ∷ ns) (rest (first + words_of_form (Table ty)))
      by (Function ret params holds) first rest = rest (first + 0)

address-keys : (cells : List CellRow) → keys_of (addresses_of cells) ≡ map (λ c. c.name) cells
address-keys [] = refl
address-keys (c ∷ cs) = ap (λ ns. c.name ∷ ns) (address-keys cs)

-- The names of functions.

place-keys : (fs : List AsmFun) (place : ℕ) → keys_of (places_from place fs) ≡ map (λ f. f.name) fs
place-keys [] place = refl
place-keys (f ∷ fs) place = ap (λ ns. f.name ∷ ns) (place-keys fs (place + size_of f))

function-names : (os : List Object) → AreWhole (units_of os) →
    map (λ f. f.name) (functions_in os) ≡ names_of (functions_of (all_decls (decls_in os)))
function-names [] h = refl
function-names (o ∷ os) h =
    let p : Decl → Bool = λ d. is_function d.form in
    both o.unit.funs (functions_in os)
    ∙ ap (λ ns. ns ++ map (λ f. f.name) (functions_in os)) h.0.definitions.functions
    ∙ ap (λ ns. names_of (functions_of o.unit.decls) ++ ns) (function-names os h.1)
    ∙ sym (ap names_of (ap (filter p) (filter-append (λ (decl : Decl). decl.defined) o.unit.decls
    (all_decls (decls_in os)))
    ∙ filter-append p (definitions o.unit.decls) (definitions (all_decls (decls_in os))))
    ∙ names (functions_of o.unit.decls) (functions_of (all_decls (decls_in os))))
  where
    both : (fs gs : List AsmFun) → map (λ f. f.name) (fs ++ gs) ≡ map (λ f. f.name) fs ++ map (λ f. f.name) gs
    both [] gs = refl
    both (f ∷ fs) gs = ap (λ ns. f.name ∷ ns) (both fs gs)

    names : (ds es : List Decl) → names_of (ds ++ es) ≡ names_of ds ++ names_of es
    names [] es = refl
    names (d ∷ ds) es = ap (λ ns. d.name ∷ ns) (names ds es)

place-row : (fs : List AsmFun) (place k : ℕ) (f : AsmFun) → slice_get fs k ≡ Some f →
    slice_get (places_from place fs) k ≡ Some (f.name, place + sizes_of (take k fs))
place-row [] place k f e = absurd (cc e)
place-row (g ∷ gs) place zero f e =
    let same : g ≡ f = cc e in
    let start : place ≡ place + 0 = omega arith in
    ap (λ (x : AsmFun). Some (x.name, place)) same ∙ ap (λ n. Some (f.name, n)) start
place-row (g ∷ gs) place (suc k) f e =
    let there : place + size_of g + sizes_of (take k gs) ≡ place + (size_of g + sizes_of (take k gs)) = omega arith in
    place-row gs (place + size_of g) k f e ∙ ap (λ n. Some (f.name, n)) there

-- Labels.

sets-it : (m n : ℕ) (rest : Bool) → m ≡ n → (m == n || rest) ≡ true
sets-it m n rest e = ap (λ b. b || rest) (eq-eqb m n e)

or-true : (a b : Bool) → b ≡ true → (a || b) ≡ true
or-true true b e = refl
or-true false b e = e

label-set : (lines : List Line) (k n : ℕ) → slice_get lines k ≡ Some (Label n) → is_set lines n ≡ true
label-set [] k n e = absurd (cc e)
label-set (Label m ∷ ls) zero n e = let same : m ≡ n = cc e in sets-it m n (is_set ls n) same
label-set (Run i ∷ ls) zero n e = absurd (cc e)
label-set (Label m ∷ ls) (suc k) n e = or-true (m == n) (is_set ls n) (label-set ls k n e)
label-set (Run i ∷ ls) (suc k) n e = label-set ls k n e

count-run : (i : Instr (List ℕ)) (ls : List Line) → count_by is_run (Run i ∷ ls) ≡ 1 + count_by is_run ls
count-run i ls = sum_by-cons (λ (l : Line). cond (is_run l) 1 0) (Run i) ls

count-label : (n : ℕ) (ls : List Line) → count_by is_run (Label n ∷ ls) ≡ count_by is_run ls
count-label n ls = sum_by-cons (λ (l : Line). cond (is_run l) 1 0) (Label n) ls ∙ omega arith

other-label : (ls : List Line) (m n : ℕ) → not (is_set ls m) ≡ true → is_set ls n ≡ true → (n == m) ≡ false
other-label ls m n other there = by (n == m) refl
  where
    by : (b : Bool) → (n == m) ≡ b → b ≡ false
    by true e =
        let same : n ≡ m = eqb-true n m e in
        let set : is_set ls m ≡ true = ap (is_set ls) (sym same) ∙ there in
        absurd (cc (ap not set, other))
    by false e = refl

label-found : (lines : List Line) (place k n : ℕ) → are_distinct lines ≡ true → slice_get lines k ≡ Some (Label n) →
    or_zero (found_number (labels_from place lines) n) ≡ place + count_by is_run (take k lines)
label-found [] place k n d e = absurd (cc e)
label-found (Label m ∷ ls) place zero n d e =
    let same : n ≡ m = cc e in
    let start : place ≡ place + 0 = omega arith in
    ap (λ b. or_zero (cond b (Some place) (found_number (labels_from place ls) n))) (eq-eqb n m same) ∙ start
label-found (Run i ∷ ls) place zero n d e = absurd (cc e)
label-found (Label m ∷ ls) place (suc k) n d e =
    let both = and_parts (not (is_set ls m)) (are_distinct ls) d in
    ap (λ b. or_zero (cond b (Some place) (found_number (labels_from place ls) n)))
    (other-label ls m n both.0 (label-set ls k n e))
    ∙ label-found ls place k n both.1 e
    ∙ ap (λ c. place + c) (sym (count-label m (take k ls)))
label-found (Run i ∷ ls) place (suc k) n d e =
    let next : place + 1 + count_by is_run (take k ls) ≡ place + count_by is_run (Run i ∷ take k ls) =
    omega (arith, count-run i (take k ls)) in
    label-found ls (place + 1) k n d e ∙ next

-- in each object no label of a function is set twice
labelled-funs : (funs : List AsmFun) → list_all (λ fun. is_labelled fun.lines) funs ≡ true → (k : ℕ) (f : AsmFun) →
    slice_get funs k ≡ Some f →
    are_distinct f.lines ≡ true
labelled-funs [] h k f e = absurd (cc e)
labelled-funs (g ∷ gs) h zero f e =
    let same : g ≡ f = cc e in
    let one = and_parts (is_labelled g.lines) (list_all (λ fun. is_labelled fun.lines) gs) h in
    let own = and_parts (are_distinct g.lines) (list_all (uses_set g.lines) g.lines) one.0 in
    ap (λ (x : AsmFun). are_distinct x.lines) (sym same) ∙ own.0
labelled-funs (g ∷ gs) h (suc k) f e =
    labelled-funs gs (and_parts (is_labelled g.lines) (list_all (λ fun. is_labelled fun.lines) gs) h).1 k f e

distinct-labels : (os : List Object) (k : ℕ) (f : AsmFun) → slice_get (functions_in os) k ≡ Some f →
    are_distinct f.lines ≡ true
distinct-labels [] k f e = absurd (cc e)
distinct-labels (o ∷ os) k f e = by (λ j later. distinct-labels os j f later) o.unit.funs o.labelled k e
  where
    by : ((j : ℕ) → slice_get (functions_in os) j ≡ Some f → are_distinct f.lines ≡ true) → (funs : List AsmFun) →
        list_all (λ fun. is_labelled fun.lines) funs ≡ true → (k : ℕ) →
        slice_get (funs ++ functions_in os) k ≡ Some f → are_distinct f.lines ≡ true
    by later [] h k e = later k e
    by later (g ∷ gs) h zero e = labelled-funs (g ∷ gs) h 0 f e
    by later (g ∷ gs) h (suc k) e =
        by later gs (and_parts (is_labelled g.lines) (list_all (λ fun. is_labelled fun.lines) gs) h).1 k e

-- Code.

code-map : (links : Links (List ℕ)) (lines : List Line) →
    code_of links lines ≡ map (resolved links) (instructions_of lines)
code-map links [] = refl
code-map links (Label n ∷ lines) = code-map links lines
code-map links (Run i ∷ lines) = ap (λ code. resolved links i ∷ code) (code-map links lines)

module _ (addresses places : List (List ℕ × ℕ)) where
  code-at : (fs : List AsmFun) (place k : ℕ) (f : AsmFun) → slice_get fs k ≡ Some f →
      take (size_of f) (drop (sizes_of (take k fs)) (code_from addresses places place fs))
      ≡ code_of (links_by addresses places (labels_from (place + sizes_of (take k fs)) f.lines)) f.lines
  code-at [] place k f e = absurd (cc e)
  code-at (g ∷ gs) place zero f e =
      let same : g ≡ f = cc e in
      let start : place ≡ place + 0 = omega arith in
      let code = code_of (links_by addresses places (labels_from place g.lines)) g.lines in
      let rest = code_from addresses places (place + size_of g) gs in
      subst (λ (x : AsmFun). take (size_of x) (code ++ rest)
      ≡ code_of (links_by addresses places (labels_from (place + 0) x.lines)) x.lines) same
      (ap (λ n. take n (code ++ rest)) (sym (length-code_of (links_by addresses places (labels_from place g.lines))
      g.lines))
      ∙ take-append_seam code rest
      ∙ ap (λ n. code_of (links_by addresses places (labels_from n g.lines)) g.lines) start)
  code-at (g ∷ gs) place (suc k) f e =
      let links = links_by addresses places (labels_from place g.lines) in
      let code = code_of links g.lines in
      let rest = code_from addresses places (place + size_of g) gs in
      let sizes = sizes_of (take k gs) in
      let there : place + size_of g + sizes ≡ place + (size_of g + sizes) = omega arith in
      ap (λ n. take (size_of f) (drop (n + sizes) (code ++ rest))) (sym (length-code_of links g.lines))
      ∙ ap (take (size_of f)) (drop-append-add code rest sizes)
      ∙ code-at gs (place + size_of g) k f e
      ∙ ap (λ n. code_of (links_by addresses places (labels_from n f.lines)) f.lines) there

address_is : (word : ℕ) → word ≤ 65536 → address_of word ≡ 4096 + 4 * word
address_is word h = omega (arith, h)

-- Of images.

module _ (objects : List Object) (lock : List (Instr ℕ)) (entries : List (List ℕ)) (image : Image)
    (h : IsLinkedOf objects lock entries image) where
  abbrev units : List (List Decl)
  units = decls_in objects

  abbrev defined : List Decl
  defined = definitions (all_decls (decls_in objects))

  abbrev cells : List CellRow
  cells = cells_of (decls_in objects)

  abbrev funs : List AsmFun
  funs = functions_in objects

  fits : FitTogether (length lock) objects entries
  fits = fit (length lock) objects entries h.unrefused

  pub first : take (length lock) image.code ≡ lock
  first =
      ap (take (length lock)) h.made.code
      ∙ take-append_seam lock (code_from (addresses_of cells) (places_from (length lock) funs) (length lock) funs)

  distinct-functions : IsDistinct bytes_eq (keys_of (places_from (length lock) funs))
  distinct-functions =
      subst (IsDistinct bytes_eq) (sym (place-keys funs (length lock) ∙ function-names objects h.whole))
      (distinct-filter (λ d. is_function d.form) defined fits.settled.distinct)

  distinct-cells : IsDistinct bytes_eq (keys_of (addresses_of cells))
  distinct-cells =
      subst (IsDistinct bytes_eq) (sym (address-keys cells ∙ cell-names (lock_word 0 defined) defined 0))
      (distinct-filter (λ d. not (is_function d.form)) defined fits.settled.distinct)

  address : (k : ℕ) (cell : CellRow) → slice_get cells k ≡ Some cell →
      or_zero (found (addresses_of cells) cell.name) ≡ 4096 + 4 * cell.first
  address k cell e =
      let row : slice_get (addresses_of cells) k ≡ Some (cell.name, address_of cell.first) =
      slice_get-map (λ (c : CellRow). (c.name, address_of c.first)) cells k
      ∙ ap (option_map (λ (c : CellRow). (c.name, address_of c.first))) e in
      let after = stands-after 0 (0 + words_of defined) cells (stand (lock_word 0 defined) 0 defined) k cell e in
      let few : words_of defined ≤ 65536 = fits.settled.words in
      let low : cell.first ≤ 65536 = omega (arith, after.1, few) in
      found-there (addresses_of cells) k cell.name (address_of cell.first) distinct-cells row
      ∙ address_is cell.first low

  place : (k : ℕ) (g : AsmFun) → slice_get funs k ≡ Some g →
      or_zero (found (places_from (length lock) funs) g.name) ≡ place_of (length lock) objects k
  place k g e =
      found-there (places_from (length lock) funs) k g.name (place_of (length lock) objects k) distinct-functions
      (place-row funs (length lock) k g e)

  pub stands : (k : ℕ) (f : AsmFun) → slice_get funs k ≡ Some f →
      StandsAt (length lock) objects image f (place_of (length lock) objects k)
  stands k f e =
      let at = place_of (length lock) objects k in
      let sizes = sizes_of (take k funs) in
      let links = links_by (addresses_of cells) (places_from (length lock) funs) (labels_from at f.lines) in
      let code = code_from (addresses_of cells) (places_from (length lock) funs) (length lock) funs in
      record {
        links = links;
        found = record {
          address = address;
          entry = place;
          label = λ j n there. label-found f.lines at j n (distinct-labels objects k f e) there;
          lock_is = refl;
          unlock_is = refl;
        };
        code =
            ap (λ all. take (size_of f) (drop at all)) h.made.code
            ∙ ap (take (size_of f)) (drop-append-add lock code sizes)
            ∙ code-at (addresses_of cells) (places_from (length lock) funs) funs (length lock) k f e
            ∙ code-map links f.lines;
      }

-- Entries.

-- a definition that is found is one of them
found-one : (test : Decl → Bool) (ds : List Decl) (d : Decl) → find test ds ≡ Some d →
    (k : ℕ) × (slice_get ds k ≡ Some d) × (test d ≡ true)
found-one test [] d e = absurd (cc e)
found-one test (x ∷ xs) d e = by (λ later. found-one test xs d later) (test x) refl e
  where
    by : (find test xs ≡ Some d → (k : ℕ) × (slice_get xs k ≡ Some d) × (test d ≡ true)) → (b : Bool) →
        test x ≡ b → cond b (Some x) (find test xs) ≡ Some d →
        (k : ℕ) × (slice_get (x ∷ xs) k ≡ Some d) × (test d ≡ true)
    by rest true t f = let same : x ≡ d = cc f in (0, f, ap test (sym same) ∙ t)
    by rest false t f = let r = rest f in (suc r.0, r.1, r.2)

in-filter : (p : Decl → Bool) (ds : List Decl) (k : ℕ) (d : Decl) → slice_get ds k ≡ Some d → p d ≡ true →
    (j : ℕ) × (slice_get (filter p ds) j ≡ Some d)
in-filter p [] k d e t = absurd (cc e)
in-filter p (x ∷ xs) zero d e t =
    let same : x ≡ d = cc e in
    let yes : p x ≡ true = ap p same ∙ t in
    (0, ap (λ b. slice_get (cond b (x ∷ filter p xs) (filter p xs)) 0) yes ∙ e)
in-filter p (x ∷ xs) (suc k) d e t = by (p x) (in-filter p xs k d e t)
  where
    by : (b : Bool) → (j : ℕ) × (slice_get (filter p xs) j ≡ Some d) →
        (j : ℕ) × (slice_get (cond b (x ∷ filter p xs) (filter p xs)) j ≡ Some d)
    by true r = (suc r.0, r.1)
    by false r = r

entry-function : (form : Form) → is_entry form ≡ true → is_function form ≡ true
entry-function Lock e = absurd (cc e)
entry-function (Shared ty lock) e = absurd (cc e)
entry-function (Table ty) e = absurd (cc e)
entry-function (Function ret params holds) e = refl

entered : (ds : List Decl) (name : List ℕ) (o : Option Decl) → find (is_named name) ds ≡ o →
    IsSomeAnd o (λ d. IsTrue (is_entry d.form)) →
    (j : ℕ) × (d : Decl) × (slice_get (filter (λ d. is_function d.form) ds) j ≡ Some d) × (name ≡ d.name)
entered ds name None e h = absurd h
entered ds name (Some d) e h =
    let r = found-one (is_named name) ds d e in
    let s = in-filter (λ d. is_function d.form) ds r.0 d r.1 (entry-function d.form h) in
    (s.0, d, s.1, (bytes_eq-Decides name d.name).0 r.2)

by_name : (fs : List AsmFun) (names : List (List ℕ)) (k : ℕ) (name : List ℕ) → map (λ f. f.name) fs ≡ names →
    slice_get names k ≡ Some name → (f : AsmFun) × (slice_get fs k ≡ Some f) × (f.name ≡ name)
by_name fs names k name e there =
    at fs k (ap (λ ns. slice_get ns k) e ∙ there)
  where
    at : (fs : List AsmFun) (k : ℕ) → slice_get (map (λ f. f.name) fs) k ≡ Some name →
        (f : AsmFun) × (slice_get fs k ≡ Some f) × (f.name ≡ name)
    at [] k e = absurd (cc e)
    at (g ∷ gs) zero e = (g, refl, cc e)
    at (g ∷ gs) (suc k) e = at gs k e

all-at : (P : List ℕ → Type 0) (names : List (List ℕ)) → AllByRecursion P names → (k : ℕ) (name : List ℕ) →
    slice_get names k ≡ Some name → P name
all-at P [] h k name e = absurd (cc e)
all-at P (n ∷ ns) h zero name e = let same : n ≡ name = cc e in subst P same h.0
all-at P (n ∷ ns) h (suc k) name e = all-at P ns h.1 k name e

pub begins : (objects : List Object) (lock : List (Instr ℕ)) (entries : List (List ℕ)) (image : Image) →
    IsLinkedOf objects lock entries image → (thread : ℕ) (name : List ℕ) → slice_get entries thread ≡ Some name →
    BeginsAt (length lock) objects image thread name
begins objects lock entries image h thread name e =
    let defined = definitions (all_decls (decls_in objects)) in
    let settled = (fit (length lock) objects entries h.unrefused).settled in
    let such = all-at (λ n. IsSomeAnd (definition_of defined n) (λ d. IsTrue (is_entry d.form))) entries
    (recursion_from_All (λ n. IsSomeAnd (definition_of defined n) (λ d. IsTrue (is_entry d.form))) entries
    settled.entered) thread name e in
    let one = entered defined name (definition_of defined name) refl such in
    let named : slice_get (names_of (filter (λ d. is_function d.form) defined)) one.0 ≡ Some one.1.name =
    slice_get-map (λ (d : Decl). d.name) (filter (λ d. is_function d.form) defined) one.0
    ∙ ap (option_map (λ (d : Decl). d.name)) one.2 in
    let f = by_name (functions_in objects) (names_of (functions_of (all_decls (decls_in objects)))) one.0 one.1.name
    (function-names objects h.whole) named in
    let same : f.0.name ≡ name = f.2 ∙ sym one.3 in
    let to = λ (n : List ℕ). or_zero (found (places_from (length lock) (functions_in objects)) n) in
    record {
      k = one.0;
      f = f.0;
      is = f.1;
      name_is = same;
      place =
          ap (λ ns. slice_get ns thread) h.made.threads
          ∙ slice_get-map to entries thread
          ∙ ap (option_map to) e
          ∙ ap (λ n. Some (to n)) (sym same)
          ∙ ap Some (place objects lock entries image h one.0 f.0 f.1);
    }
