-- Where definitions stand in a program: each begins at the word at which those before it end.
use Rattle.std.proofs.Common.{◌≡◌, ℕ, ◌+◌, ◌-◌, ◌^◌, ◌≤◌, min, Bool, true, false, cond, ◌&&◌, ◌||◌, List, [], ◌∷◌, ◌++◌, map, Option, Some, None, ap, refl, sym, ◌∙◌, arith, subst}
use Rattle.std.specs.List.{AllByRecursion, IsDistinct, cons_option, filter_map, list_any, sum_by}
use Rattle.std.specs.Option.{option_and_then}
use Rattle.std.specs.Str.{bytes_eq}
use Rattle.std.proofs.lemmas.List.{map-append}
use Rattle.std.proofs.lemmas.List.Elements.{filter-append}
use Rattle.std.proofs.lemmas.List.Sums.{sum_by-append, sum_by-cons}
use Rattle.std.proofs.lemmas.Map.Keys.{IsDistinct-head, IsDistinct-tail}
use Rattle.std.proofs.lemmas.Slice.Eq.{bytes_eq-Decides}
use Rattle.cas_base.specs.declared.decl.Form.{Form}
use Rattle.cas_base.specs.declared.decl.Decl.{Decl}
use Rattle.cas_settle.specs.declared.link.CellRow.{CellRow}
use Rattle.cas_base.specs.Decl.{definitions, is_function, is_lock, words_of_form}
use Rattle.cas_settle.specs.Settle.{all_decls, cell_of, cells_from, cells_of, lock_word, names_of, words_of}
use Rattle.cas_settle.specs.Located.{Located, cells_in, decls_in, located_from, located_in, location_of, lock_word_in, names_in}
use Rattle.cas_settle.proofs.LocatedLemmas.{decls_in-located_in}
use Rattle.cas_settle.proofs.OptionLemmas.{option_and_then-cond}

-- each definition begins at the word at which those before it end, the first at `word`
abbrev pub IsLaidOut : (word : ℕ) → List Located → Type 0
IsLaidOut word [] = Unit {0}
IsLaidOut word (item ∷ found) = (item.word ≡ word) × IsLaidOut (word + words_of_form item.decl.form) found

-- they are the definitions of the units
pub decls_in-located_from : (unit word : ℕ) (units : List (List Decl)) →
    decls_in (located_from unit word units) ≡ definitions (all_decls units)
decls_in-located_from unit word [] = refl
decls_in-located_from unit word (decls ∷ units) =
    map-append (λ (item : Located). item.decl) (located_in unit 0 word decls)
    (located_from (unit + 1) (word + words_of (definitions decls)) units)
    ∙ (λ i. decls_in-located_in unit 0 word decls i ++ decls_in-located_from (unit + 1)
    (word + words_of (definitions decls)) units i)
    ∙ sym (filter-append (λ (decl : Decl). decl.defined) decls (all_decls units))

words_of-cons : (decl : Decl) (decls : List Decl) → words_of (decl ∷ decls) ≡ words_of_form decl.form + words_of decls
words_of-cons decl decls = sum_by-cons (λ (decl : Decl). words_of_form decl.form) decl decls

words_of-append : (decls more : List Decl) → words_of (decls ++ more) ≡ words_of decls + words_of more
words_of-append decls more = sum_by-append (λ (decl : Decl). words_of_form decl.form) decls more

IsLaidOut-located_in : (unit place word : ℕ) (decls : List Decl) → word + words_of (definitions decls) ≤ 2 ^ 32 - 1 →
    IsLaidOut word (located_in unit place word decls)
IsLaidOut-located_in unit place word [] fits = tt
IsLaidOut-located_in unit place word (decl ∷ decls) fits =
    by decl.name decl.form decl.defined fits
    (IsLaidOut-located_in unit (cond (is_function decl.form) (place + 1) place) (word + words_of_form decl.form) decls)
    (IsLaidOut-located_in unit place word decls)
  where
    by : (name : List ℕ) (form : Form) (b : Bool)
        → word + words_of (definitions (record { name = name; form = form; defined = b } ∷ decls)) ≤ 2 ^ 32 - 1
        → ((word + words_of_form form) + words_of (definitions decls) ≤ 2 ^ 32 - 1
        → IsLaidOut (word + words_of_form form) (located_in unit (cond (is_function form) (place + 1) place)
        (word + words_of_form form) decls))
        → (word + words_of (definitions decls) ≤ 2 ^ 32 - 1 → IsLaidOut word (located_in unit place word decls))
        → IsLaidOut word (located_in unit place word (record { name = name; form = form; defined = b } ∷ decls))
    by name form true fits rest other =
        let sum = words_of-cons (record { name = name; form = form; defined = true }) (definitions decls) in
        (omega (arith, sum, fits), rest (omega (arith, sum, fits)))
    by name form false fits rest other = other fits

IsLaidOut-append : (word : ℕ) (found more : List Located) → IsLaidOut word found →
    IsLaidOut (word + words_of (decls_in found)) more → IsLaidOut word (found ++ more)
IsLaidOut-append word [] more laid later = subst (λ w. IsLaidOut w more) (omega arith) later
IsLaidOut-append word (item ∷ found) more laid later = (
  laid.0,
  IsLaidOut-append (word + words_of_form item.decl.form) found more laid.1
      (subst (λ w. IsLaidOut w more) (omega (arith, words_of-cons item.decl (decls_in found))) later),
)

-- the definitions of units are laid out
pub IsLaidOut-located_from : (unit word : ℕ) (units : List (List Decl)) →
    word + words_of (definitions (all_decls units)) ≤ 2 ^ 32 - 1 → IsLaidOut word (located_from unit word units)
IsLaidOut-located_from unit word [] fits = tt
IsLaidOut-located_from unit word (decls ∷ units) fits =
    let sum : words_of (definitions (all_decls (decls ∷ units))) ≡ words_of (definitions decls) + words_of
    (definitions (all_decls units)) =
    ap words_of (filter-append (λ (decl : Decl). decl.defined) decls (all_decls units))
    ∙ words_of-append (definitions decls) (definitions (all_decls units)) in
    IsLaidOut-append word (located_in unit 0 word decls)
    (located_from (unit + 1) (word + words_of (definitions decls)) units)
    (IsLaidOut-located_in unit 0 word decls (omega (arith, sum, fits)))
    (subst (λ w. IsLaidOut w (located_from (unit + 1) (word + words_of (definitions decls)) units))
    (ap (λ ds. word + words_of ds) (sym (decls_in-located_in unit 0 word decls)))
    (IsLaidOut-located_from (unit + 1) (word + words_of (definitions decls)) units (omega (arith, sum, fits))))

-- their cells
pub cells-laid_out : (word_of : List ℕ → Option ℕ) (word : ℕ) (found : List Located) → IsLaidOut word found
    → filter_map (λ (item : Located). cell_of word_of item.word item.decl.name item.decl.form)
    found ≡ cells_from word_of word (decls_in found)
cells-laid_out word_of word [] laid = refl
cells-laid_out word_of word (item ∷ found) laid =
    λ i. cons_option (cell_of word_of (laid.0 i) item.decl.name item.decl.form)
    (cells-laid_out word_of (word + words_of_form item.decl.form) found laid.1 i)

-- a name that no later definition has names no later lock
lock_word-none : (name : List ℕ) (word : ℕ) (found : List Located) →
    AllByRecursion (λ other. bytes_eq name other ≡ false) (names_in found) → lock_word word (decls_in found) name ≡ None
lock_word-none name word [] apart = refl
lock_word-none name word (item ∷ found) apart =
    by (is_lock item.decl.form) (bytes_eq name item.decl.name) apart.0
    (lock_word-none name (word + words_of_form item.decl.form) found apart.1)
  where
    by : (lock same : Bool) → same ≡ false
        → lock_word (word + words_of_form item.decl.form) (decls_in found) name ≡ None
        → cond (lock && same) (Some word) (lock_word (word + words_of_form item.decl.form) (decls_in found) name) ≡ None
    by true true e rest = cc
    by true false e rest = rest
    by false same e rest = rest

choose : {X : Type 0} (lock same : Bool) (here there : X) (found later : Option X) → here ≡ there →
    (same ≡ true → later ≡ None) → found ≡ later
    → cond same (cond lock (Some here) None) found ≡ cond (lock && same) (Some there) later
choose true true here there found later is none rest = ap Some is
choose true false here there found later is none rest = rest
choose false true here there found later is none rest = sym (none refl)
choose false false here there found later is none rest = rest

-- the word of a lock, where no two definitions have one name
pub lock_word-laid_out : (name : List ℕ) (word : ℕ) (found : List Located) → IsLaidOut word found →
    IsDistinct bytes_eq (names_in found)
    → lock_word_in found name ≡ lock_word word (decls_in found) name
lock_word-laid_out name word [] laid distinct = refl
lock_word-laid_out name word (item ∷ found) laid distinct =
    option_and_then-cond (λ (item : Located). cond (is_lock item.decl.form) (Some item.word) None)
    (bytes_eq name item.decl.name) item (location_of found name)
    ∙ choose (is_lock item.decl.form) (bytes_eq name item.decl.name) item.word word (lock_word_in found name)
    (lock_word (word + words_of_form item.decl.form) (decls_in found) name)
    laid.0
    (λ same. lock_word-none name (word + words_of_form item.decl.form) found
    (subst (λ n. AllByRecursion (λ other. bytes_eq n other ≡ false) (names_in found))
    (sym ((bytes_eq-Decides name item.decl.name).0 same))
    (IsDistinct-head bytes_eq item.decl.name (names_in found) distinct)))
    (lock_word-laid_out name (word + words_of_form item.decl.form) found laid.1
    (IsDistinct-tail bytes_eq item.decl.name (names_in found) distinct))

-- the cells of the units, where no name is defined twice
pub cells_in-located_from : (units : List (List Decl)) → words_of (definitions (all_decls units)) ≤ 2 ^ 32 - 1 →
    IsDistinct bytes_eq (names_of (definitions (all_decls units)))
    → cells_in (located_from 0 0 units) ≡ cells_of units
cells_in-located_from units fits distinct =
    let found = located_from 0 0 units in
    let is = decls_in-located_from 0 0 units in
    let laid = IsLaidOut-located_from 0 0 units (omega (arith, fits)) in
    let apart : IsDistinct bytes_eq (names_in found) =
    subst (λ ds. IsDistinct bytes_eq (names_of ds)) (sym is) distinct in
    cells-laid_out (lock_word_in found) 0 found laid
    ∙ (λ i. cells_from (λ name. lock_word-laid_out name 0 found laid apart i) 0 (decls_in found))
    ∙ (λ i. cells_from (lock_word 0 (is i)) 0 (is i))
