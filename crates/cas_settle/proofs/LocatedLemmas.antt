-- The definitions of declarations with their places: one declaration after another, one unit after another.
use Rattle.std.proofs.Common.{◌≡◌, ℕ, ◌+◌, ◌-◌, ◌^◌, ◌<◌, min, get_or, drop, Bool, true, false, cond, List, [], ◌∷◌, ◌++◌, length, map, Option, Some, None, ap, refl, sym, ◌∙◌, arith}
use Rattle.std.specs.List.{filter, flat_map, list_any, sum_by}
use Rattle.std.specs.Option.{option_map}
use Rattle.std.specs.Str.{bytes_eq}
use Rattle.std.proofs.lemmas.List.{append-nil, append_assoc, drop_more, length-append, map-append}
use Rattle.std.proofs.lemmas.List.Sums.{sum_by-append}
use Rattle.std.proofs.lemmas.List.Elements.{filter-append}
use Rattle.cas_base.specs.declared.decl.Form.{Form}
use Rattle.cas_base.specs.declared.decl.Decl.{Decl}
use Rattle.cas_settle.specs.declared.link.LinkFault.{LinkFault}
use Rattle.cas_settle.specs.declared.link.LinkFault.TheVariants.{Twice}
use Rattle.cas_base.specs.Decl.{definitions, functions_of, is_function, words_of_form}
use Rattle.cas_settle.specs.Settle.{all_decls, first_repeated, names_of, words_of}
use Rattle.cas_settle.specs.Located.{Located, decls_in, located_from, located_in, names_in}
use Rattle.cas_settle.proofs.OptionLemmas.{option_map-some}

-- the functions of one definition
functions-one : (p : ℕ) (decl : Decl) (b : Bool) → cond b (p + 1) p ≡ p + length (cond b (decl ∷ []) [])
functions-one p decl true = omega arith
functions-one p decl false = omega arith

-- the first declaration, and then the others
pub located_in-cons : (unit p w : ℕ) (decl : Decl) (decls : List Decl)
    → located_in unit p w (decl ∷ decls)
    ≡ located_in unit p w (decl ∷ []) ++ located_in unit (p + length (functions_of (decl ∷ [])))
    (w + words_of (definitions (decl ∷ []))) decls
located_in-cons unit p w decl decls = by decl.name decl.form decl.defined
  where
    by : (name : List ℕ) (form : Form) (b : Bool) → let decl : Decl =
        record { name = name; form = form; defined = b } in
        located_in unit p w (decl ∷ decls)
        ≡ located_in unit p w (decl ∷ []) ++ located_in unit (p + length (functions_of (decl ∷ [])))
        (w + words_of (definitions (decl ∷ []))) decls
    by name form true =
        let decl : Decl = record { name = name; form = form; defined = true } in
        let places = functions-one p decl (is_function form) in
        let words : w + words_of_form form ≡ w + (0 + words_of_form form) = omega arith in
        λ i. record { decl = decl; unit = unit; place = p; word = min w (2 ^ 32 - 1) } ∷ located_in unit (places i)
        (words i) decls
    by name form false =
        let places : p ≡ p + 0 = omega arith in
        let words : w ≡ w + 0 = omega arith in
        λ i. located_in unit (places i) (words i) decls

-- they are the definitions
pub decls_in-located_in : (unit p w : ℕ) (decls : List Decl) → decls_in (located_in unit p w decls) ≡ definitions decls
decls_in-located_in unit p w [] = refl
decls_in-located_in unit p w (decl ∷ decls) =
    by decl.name decl.form decl.defined
    (decls_in-located_in unit (cond (is_function decl.form) (p + 1) p) (w + words_of_form decl.form) decls)
    (decls_in-located_in unit p w decls)
  where
    by : (name : List ℕ) (form : Form) (b : Bool)
        → decls_in (located_in unit (cond (is_function form) (p + 1) p) (w + words_of_form form) decls)
        ≡ definitions decls
        → decls_in (located_in unit p w decls) ≡ definitions decls
        → decls_in (located_in unit p w (record { name = name; form = form; defined = b } ∷ decls)) ≡ definitions
        (record { name = name; form = form; defined = b } ∷ decls)
    by name form true rest other = ap (λ ds. record { name = name; form = form; defined = true } ∷ ds) rest
    by name form false rest other = other

-- how many functions a declaration and those after it define
pub length-functions_of-cons : (decl : Decl) (decls : List Decl) →
    length (functions_of (decl ∷ decls)) ≡ length (functions_of (decl ∷ [])) + length (functions_of decls)
length-functions_of-cons decl decls =
    ap (λ ds. length (filter (λ (decl : Decl). is_function decl.form) ds))
    (filter-append (λ (decl : Decl). decl.defined) (decl ∷ []) decls)
    ∙ ap length (filter-append (λ (decl : Decl). is_function decl.form) (definitions (decl ∷ [])) (definitions decls))
    ∙ length-append (functions_of (decl ∷ [])) (functions_of decls)

-- the item at which a loop is, and those after it
pub drop-item : {X : Type 0} (xs : List X) (i : ℕ) (x : X) → i < length xs → x ≡ get_or xs i x →
    drop i xs ≡ x ∷ drop (i + 1) xs
drop-item xs i x below is = drop_more xs i x below ∙ ap (λ y. y ∷ drop (i + 1) xs) (sym is)

-- the words of definitions after others
pub words_of-append : (found more : List Located) → words_of (decls_in (found ++ more)) ≡ words_of (decls_in found)
    + words_of (decls_in more)
words_of-append found more =
    ap words_of (map-append (λ (item : Located). item.decl) found more)
    ∙ sum_by-append (λ (decl : Decl). words_of_form decl.form) (decls_in found) (decls_in more)

-- the names of definitions after others
pub names_in-append : (found more : List Located) → names_in (found ++ more) ≡ names_in found ++ names_in more
names_in-append found more =
    ap names_of (map-append (λ (item : Located). item.decl) found more)
    ∙ map-append (λ (decl : Decl). decl.name) (decls_in found) (decls_in more)

-- the definitions of a declaration and of those after it
pub names_of-cons : (decl : Decl) (decls : List Decl) →
    names_of (definitions (decl ∷ decls)) ≡ names_of (definitions (decl ∷ [])) ++ names_of (definitions decls)
names_of-cons decl decls =
    ap names_of (filter-append (λ (decl : Decl). decl.defined) (decl ∷ []) decls)
    ∙ map-append (λ (decl : Decl). decl.name) (definitions (decl ∷ [])) (definitions decls)

-- the definitions of a unit and of those after it
pub names_of-units : (decls : List Decl) (units : List (List Decl))
    → names_of (definitions (all_decls (decls ∷ units))) ≡ names_of (definitions decls) ++ names_of
    (definitions (all_decls units))
names_of-units decls units =
    ap names_of (filter-append (λ (decl : Decl). decl.defined) decls (all_decls units))
    ∙ map-append (λ (decl : Decl). decl.name) (definitions decls) (definitions (all_decls units))

past-none : {X : Type 0} (b : Bool) (x : X) (o p q : Option X) → (o ≡ None → p ≡ q) → cond b (Some x) o ≡ None →
    cond b (Some x) p ≡ q
past-none true x o p q go none = cc
past-none false x o p q go none = go none

past-some : {X : Type 0} (b : Bool) (x y : X) (o p : Option X) → (o ≡ Some y → p ≡ Some y) →
    cond b (Some x) o ≡ Some y → cond b (Some x) p ≡ Some y
past-some true x y o p go some = some
past-some false x y o p go some = go some

-- where no name is repeated, the first that is stands among the later names
pub first_repeated-later : (before names more : List (List ℕ)) → first_repeated before names ≡ None
    → first_repeated before (names ++ more) ≡ first_repeated (before ++ names) more
first_repeated-later before [] more none = ap (λ before. first_repeated before more) (sym (append-nil before))
first_repeated-later before (name ∷ names) more none =
    past-none (list_any (bytes_eq name) before) name
    (first_repeated (before ++ name ∷ []) names) (first_repeated (before ++ name ∷ []) (names ++ more))
    (first_repeated (before ++ name ∷ names) more)
    (λ rest. first_repeated-later (before ++ name ∷ []) names more rest
    ∙ ap (λ before. first_repeated before more) (append_assoc before (name ∷ []) names))
    none

-- a name that is repeated stays the first
pub first_repeated-here : (before names more : List (List ℕ)) (twice : List ℕ) →
    first_repeated before names ≡ Some twice
    → first_repeated before (names ++ more) ≡ Some twice
first_repeated-here before [] more twice some = cc
first_repeated-here before (name ∷ names) more twice some =
    past-some (list_any (bytes_eq name) before) name twice
    (first_repeated (before ++ name ∷ []) names) (first_repeated (before ++ name ∷ []) (names ++ more))
    (λ rest. first_repeated-here (before ++ name ∷ []) names more twice rest)
    some

module _ (found new : List Located) (unit : ℕ) where
  -- the table with the definitions of one more declaration
  pub located_in-step : (p next : ℕ) (decl : Decl) (decls : List Decl)
      → new ≡ found ++ located_in unit p (words_of (decls_in found)) (decl ∷ []) →
      next ≡ p + length (functions_of (decl ∷ []))
      → new ++ located_in unit next (words_of (decls_in new)) decls ≡ found ++ located_in unit p
      (words_of (decls_in found)) (decl ∷ decls)
  located_in-step p next decl decls added counted =
      let w = words_of (decls_in found) in
      let one = located_in unit p w (decl ∷ []) in
      let words : words_of (decls_in new) ≡ w + words_of (definitions (decl ∷ [])) =
      ap (λ all. words_of (decls_in all)) added ∙ words_of-append found one
      ∙ ap (λ ds. w + words_of ds) (decls_in-located_in unit p w (decl ∷ [])) in
      (λ i. added i ++ located_in unit (counted i) (words i) decls)
      ∙ append_assoc found one (located_in unit (p + length (functions_of (decl ∷ [])))
      (w + words_of (definitions (decl ∷ []))) decls)
      ∙ ap (λ more. found ++ more) (sym (located_in-cons unit p w decl decls))

  -- the table with the definitions of one more unit
  pub located_from-step : (next : ℕ) (decls : List Decl) (units : List (List Decl))
      → new ≡ found ++ located_in unit 0 (words_of (decls_in found)) decls → next ≡ unit + 1
      → new ++ located_from next (words_of (decls_in new)) units ≡ found ++ located_from unit
      (words_of (decls_in found)) (decls ∷ units)
  located_from-step next decls units added counted =
      let w = words_of (decls_in found) in
      let one = located_in unit 0 w decls in
      let words : words_of (decls_in new) ≡ w + words_of (definitions decls) =
      ap (λ all. words_of (decls_in all)) added ∙ words_of-append found one
      ∙ ap (λ ds. w + words_of ds) (decls_in-located_in unit 0 w decls) in
      (λ i. added i ++ located_from (counted i) (words i) units)
      ∙ append_assoc found one (located_from (unit + 1) (w + words_of (definitions decls)) units)

  -- the names of the table with more declarations
  pub names_in-step : (p : ℕ) (decls : List Decl)
      → new ≡ found ++ located_in unit p (words_of (decls_in found)) decls
      → names_in new ≡ names_in found ++ names_of (definitions decls)
  names_in-step p decls added =
      let w = words_of (decls_in found) in
      ap names_in added ∙ names_in-append found (located_in unit p w decls)
      ∙ ap (λ ds. names_in found ++ names_of ds) (decls_in-located_in unit p w decls)

  -- no name is repeated up to here, so the first that is comes later
  pub repeated-step : (p : ℕ) (decls : List Decl) (later : List (List ℕ))
      → new ≡ found ++ located_in unit p (words_of (decls_in found)) decls
      → first_repeated (names_in found) (names_of (definitions decls)) ≡ None
      → first_repeated (names_in new) later ≡ first_repeated (names_in found) (names_of (definitions decls) ++ later)
  repeated-step p decls later added none =
      ap (λ names. first_repeated names later) (names_in-step p decls added)
      ∙ sym (first_repeated-later (names_in found) (names_of (definitions decls)) later none)

-- the fault of a name that is repeated up to here stays the first
pub twice-here : (before names more all : List (List ℕ)) (given : LinkFault) → all ≡ names ++ more
    → option_map Twice (first_repeated before names) ≡ Some given →
    option_map Twice (first_repeated before all) ≡ Some given
twice-here before names more all given is twice =
    ap (λ names. option_map Twice (first_repeated before names)) is
    ∙ option_map-some Twice (first_repeated before names) (first_repeated before (names ++ more)) given
    (first_repeated-here before names more) twice
