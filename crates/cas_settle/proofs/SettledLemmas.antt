-- Units settle exactly where there is no refusal.
use Rattle.std.proofs.Common.{◌≡◌, ℕ, ◌+◌, ◌-◌, ◌^◌, ◌<◌, ◌≤◌, min, Bool, true, false, cond, ◌||◌, IsTrue, ltb, List, [], ◌∷◌, ◌++◌, map, Option, Some, None, Result, Ok, Err, IsSomeAnd, IfErr, ◌≢◌, All, ap, refl, sym, ◌∙◌, subst, arith}
use Rattle.std.specs.Cmp.{IsEquivalence}
use Rattle.std.specs.List.{AllByRecursion, IsDistinct, list_any}
use Rattle.std.specs.Option.{option_map, option_or}
use Rattle.std.specs.Str.{bytes_eq}
use Rattle.std.proofs.lemmas.Bool.{le-ltb, ltb-false, or_from, or_parts}
use Rattle.std.proofs.lemmas.Cmp.{nat_list_eq_equiv}
use Rattle.std.proofs.lemmas.List.Elements.{All-from_recursion, recursion_from_All}
use Rattle.std.proofs.lemmas.List.Folds.{list_any-append}
use Rattle.std.proofs.lemmas.Map.Keys.{IsDistinct-cons, IsDistinct-from_apart, IsDistinct-head, IsDistinct-tail}
use Rattle.cas_base.specs.declared.decl.Decl.{Decl}
use Rattle.cas_settle.specs.declared.link.Count.{Count}
use Rattle.cas_settle.specs.declared.link.Count.TheVariants.{Locks, Words}
use Rattle.cas_settle.specs.declared.link.LinkFault.{LinkFault}
use Rattle.cas_settle.specs.declared.link.LinkFault.TheVariants.{Differ, Entry, Limit, Memory, NotDefined, Twice}
use Rattle.cas_settle.specs.declared.link.TheConstants.{LOCK_LIMIT, WORD_LIMIT}
use Rattle.cas_base.specs.Decl.{agrees, definition_of, definitions, is_entry, references}
use Rattle.cas_settle.specs.Settle.{IsSettled, all_decls, entry_fault, first_fault, first_refusal, first_repeated, limit_fault, locks_of, names_of, reference_fault, words_of}
use Rattle.cas_settle.specs.Refusal.{IsRefusedBy}
use Rattle.cas_settle.proofs.OptionLemmas.{both-none, cond-none, none-both, option_map-none, pass-none}

-- no item has a fault
no_fault : {X : Type 0} (fault_of : X → Option LinkFault) (xs : List X) → first_fault fault_of xs ≡ None →
    AllByRecursion (λ x. fault_of x ≡ None) xs
no_fault fault_of [] none = tt
no_fault fault_of (x ∷ xs) none =
    let apart = both-none (fault_of x) (first_fault fault_of xs) none in
    (apart.0, no_fault fault_of xs apart.1)

none_first : {X : Type 0} (fault_of : X → Option LinkFault) (xs : List X) → AllByRecursion (λ x. fault_of x ≡ None) xs →
    first_fault fault_of xs ≡ None
none_first fault_of [] all = refl
none_first fault_of (x ∷ xs) all = none-both (fault_of x) (first_fault fault_of xs) all.0 (none_first fault_of xs all.1)

all-weaker : {X : Type 0} (P Q : X → Type 0) → ((x : X) → P x → Q x) → (xs : List X) → AllByRecursion P xs →
    AllByRecursion Q xs
all-weaker P Q go [] all = tt
all-weaker P Q go (x ∷ xs) all = (go x all.0, all-weaker P Q go xs all.1)

-- a declaration that agrees with the definition of its name
reference-agrees : (decl : Decl) (o : Option Decl) → reference_fault decl o ≡ None →
    IsSomeAnd o (λ defined. IsTrue (agrees defined.form decl.form))
reference-agrees decl None none = cc
reference-agrees decl (Some defined) none = pass-none (agrees defined.form decl.form) (Differ decl.name defined decl)
    none

agrees-reference : (decl : Decl) (o : Option Decl) → IsSomeAnd o (λ defined. IsTrue (agrees defined.form decl.form)) →
    reference_fault decl o ≡ None
agrees-reference decl None agreed = absurd agreed
agrees-reference decl (Some defined) agreed = ap (λ b. cond b None (Some (Differ decl.name defined decl))) agreed

-- a name that a thread may enter
entry-enters : (name : List ℕ) (o : Option Decl) → entry_fault name o ≡ None →
    IsSomeAnd o (λ defined. IsTrue (is_entry defined.form))
entry-enters name None none = cc
entry-enters name (Some defined) none = pass-none (is_entry defined.form) (Entry name defined) none

enters-entry : (name : List ℕ) (o : Option Decl) → IsSomeAnd o (λ defined. IsTrue (is_entry defined.form)) →
    entry_fault name o ≡ None
enters-entry name None entered = absurd entered
enters-entry name (Some defined) entered = ap (λ b. cond b None (Some (Entry name defined))) entered

-- a count within its limit
limit-within : (what : Count) (limit counted : ℕ) → limit_fault what limit counted ≡ None → counted ≤ limit
limit-within what limit counted none = ltb-false limit counted
    (cond-none (ltb limit counted) (Limit what (min counted (2 ^ 64 - 1))) None none).0

within-limit : (what : Count) (limit counted : ℕ) → counted ≤ limit → limit_fault what limit counted ≡ None
within-limit what limit counted within = ap (λ b. cond b (Some (Limit what (min counted (2 ^ 64 - 1)))) None)
    (le-ltb limit counted within)

all-both : {X : Type 0} (P Q R : X → Type 0) → ((x : X) → P x → Q x → R x) → (xs : List X) → AllByRecursion P xs →
    AllByRecursion Q xs → AllByRecursion R xs
all-both P Q R go [] first second = tt
all-both P Q R go (x ∷ xs) first second = (go x first.0 second.0, all-both P Q R go xs first.1 second.1)

-- a name that is none of these, nor one more
apart-push : (name other : List ℕ) (before : List (List ℕ)) →
    list_any (bytes_eq name) (before ++ other ∷ []) ≡ (list_any (bytes_eq name) before ||
    (bytes_eq name other || false))
apart-push name other before = list_any-append (bytes_eq name) before (other ∷ [])

-- no name is repeated: they are distinct, and none stands before
distinct-unrepeated : (before names : List (List ℕ)) → first_repeated before names ≡ None
    → IsDistinct bytes_eq names × AllByRecursion (λ name. list_any (bytes_eq name) before ≡ false) names
distinct-unrepeated before [] none =
    (IsDistinct-from_apart bytes_eq [] (λ i j d before within. absurd (omega arith)), tt)
distinct-unrepeated before (name ∷ names) none =
    let apart = cond-none (list_any (bytes_eq name) before) name (first_repeated (before ++ name ∷ []) names) none in
    let rest = distinct-unrepeated (before ++ name ∷ []) names apart.1 in
    let parts : (other : List ℕ) → list_any (bytes_eq other) (before ++ name ∷ []) ≡ false →
    (list_any (bytes_eq other) before ≡ false) × ((bytes_eq other name || false) ≡ false) =
    λ other no_one. or_parts (list_any (bytes_eq other) before) (bytes_eq other name || false)
    (sym (apart-push other name before) ∙ no_one) in (
      IsDistinct-cons bytes_eq name names
          (all-weaker (λ other. list_any (bytes_eq other) (before ++ name ∷ []) ≡ false)
          (λ other. bytes_eq name other ≡ false)
          (λ other no_one. nat_list_eq_equiv.symm name other
          ∙ (or_parts (bytes_eq other name) false (parts other no_one).1).0) names rest.1)
          rest.0,
      (
        apart.0,
        all-weaker (λ other. list_any (bytes_eq other) (before ++ name ∷ []) ≡ false)
            (λ other. list_any (bytes_eq other) before ≡ false)
            (λ other no_one. (parts other no_one).0) names rest.1,
      ),
    )

unrepeated-distinct : (before names : List (List ℕ)) → IsDistinct bytes_eq names →
    AllByRecursion (λ name. list_any (bytes_eq name) before ≡ false) names
    → first_repeated before names ≡ None
unrepeated-distinct before [] distinct apart = refl
unrepeated-distinct before (name ∷ names) distinct apart =
    ap (λ b. cond b (Some name) (first_repeated (before ++ name ∷ []) names)) apart.0
    ∙ unrepeated-distinct (before ++ name ∷ []) names (IsDistinct-tail bytes_eq name names distinct)
    (all-both (λ other. list_any (bytes_eq other) before ≡ false) (λ other. bytes_eq name other ≡ false)
    (λ other. list_any (bytes_eq other) (before ++ name ∷ []) ≡ false)
    (λ other first second. apart-push other name before
    ∙ or_from (list_any (bytes_eq other) before) (bytes_eq other name || false) first
    (or_from (bytes_eq other name) false (nat_list_eq_equiv.symm other name ∙ second) refl))
    names apart.1 (IsDistinct-head bytes_eq name names distinct))

none-before : (names : List (List ℕ)) → AllByRecursion (λ name. list_any (bytes_eq name) [] ≡ false) names
none-before [] = tt
none-before (name ∷ names) = (refl, none-before names)

module _ (units : List (List Decl)) (entries : List (List ℕ)) where
  -- where there is no refusal the units settle
  pub settled-none : first_refusal units entries ≡ None → IsSettled units entries
  settled-none none =
      let defined = definitions (all_decls units) in
      let reference : Decl → Option LinkFault = λ decl. reference_fault decl (definition_of defined decl.name) in
      let entry : List ℕ → Option LinkFault = λ name. entry_fault name (definition_of defined name) in
      let words = limit_fault Words WORD_LIMIT (words_of defined) in
      let locks = limit_fault Locks LOCK_LIMIT (locks_of defined) in
      let fourth = option_or words locks in
      let third = option_or (first_fault entry entries) fourth in
      let second = option_or (first_fault reference (references (all_decls units))) third in
      let one = both-none (option_map Twice (first_repeated [] (names_of defined))) second none in
      let two = both-none (first_fault reference (references (all_decls units))) third one.1 in
      let three = both-none (first_fault entry entries) fourth two.1 in
      let four = both-none words locks three.1 in
      record {
        distinct =
            (distinct-unrepeated [] (names_of defined)
            (option_map-none Twice (first_repeated [] (names_of defined)) one.0)).0;
        agreed = All-from_recursion (λ decl. IsSomeAnd (definition_of defined decl.name)
            (λ definition. IsTrue (agrees definition.form decl.form))) (references (all_decls units))
            (all-weaker (λ decl. reference decl ≡ None)
            (λ decl. IsSomeAnd (definition_of defined decl.name)
            (λ definition. IsTrue (agrees definition.form decl.form)))
            (λ decl. reference-agrees decl (definition_of defined decl.name)) (references (all_decls units))
            (no_fault reference (references (all_decls units)) two.0));
        entered =
            All-from_recursion (λ name. IsSomeAnd (definition_of defined name)
            (λ definition. IsTrue (is_entry definition.form))) entries
            (all-weaker (λ name. entry name ≡ None) (λ name. IsSomeAnd (definition_of defined name)
            (λ definition. IsTrue (is_entry definition.form)))
            (λ name. entry-enters name (definition_of defined name)) entries (no_fault entry entries three.0));
        words = limit-within Words WORD_LIMIT (words_of defined) four.0;
        locks = limit-within Locks LOCK_LIMIT (locks_of defined) four.1;
      }

  -- where the units settle there is no refusal
  pub none-settled : IsSettled units entries → first_refusal units entries ≡ None
  none-settled settled =
      let defined = definitions (all_decls units) in
      let reference : Decl → Option LinkFault = λ decl. reference_fault decl (definition_of defined decl.name) in
      let entry : List ℕ → Option LinkFault = λ name. entry_fault name (definition_of defined name) in
      let words = limit_fault Words WORD_LIMIT (words_of defined) in
      let locks = limit_fault Locks LOCK_LIMIT (locks_of defined) in
      let fourth = option_or words locks in
      let third = option_or (first_fault entry entries) fourth in
      let second = option_or (first_fault reference (references (all_decls units))) third in
      none-both (option_map Twice (first_repeated [] (names_of defined))) second
      (ap (option_map Twice) (unrepeated-distinct [] (names_of defined) settled.distinct
      (none-before (names_of defined))))
      (none-both (first_fault reference (references (all_decls units))) third
      (none_first reference (references (all_decls units))
      (all-weaker (λ decl. IsSomeAnd (definition_of defined decl.name)
      (λ definition. IsTrue (agrees definition.form decl.form))) (λ decl. reference decl ≡ None)
      (λ decl. agrees-reference decl (definition_of defined decl.name)) (references (all_decls units))
      (recursion_from_All (λ decl. IsSomeAnd (definition_of defined decl.name)
      (λ definition. IsTrue (agrees definition.form decl.form))) (references (all_decls units)) settled.agreed)))
      (none-both (first_fault entry entries) fourth
      (none_first entry entries
      (all-weaker (λ name. IsSomeAnd (definition_of defined name) (λ definition. IsTrue (is_entry definition.form)))
      (λ name. entry name ≡ None)
      (λ name. enters-entry name (definition_of defined name)) entries
      (recursion_from_All (λ name. IsSomeAnd (definition_of defined name)
      (λ definition. IsTrue (is_entry definition.form))) entries settled.entered)))
      (none-both words locks
      (within-limit Words WORD_LIMIT (words_of defined) settled.words)
      (within-limit Locks LOCK_LIMIT (locks_of defined) settled.locks))))

-- a refused call's units don't settle
pub unsettled : {T : Type 0} (units : List (List Decl)) (entries : List (List ℕ)) (result : Result T LinkFault) →
    IsRefusedBy result (first_refusal units entries)
    → IfErr result (λ fault. fault ≢ Memory → ¬ IsSettled units entries)
unsettled units entries (Ok x) refused = tt
unsettled units entries (Err fault) refused = λ other settled. some-none fault
    (sym (refused other) ∙ none-settled units entries settled)
  where
    some-none : (fault : LinkFault) → ◌≡◌ {A = Option LinkFault} (Some fault) None → ⊥
    some-none fault e = cc
