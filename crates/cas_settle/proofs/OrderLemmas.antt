-- The order of refusals: each comes where there is none before it.
use Rattle.std.proofs.Common.{◌≡◌, ℕ, List, [], ◌∷◌, map, Option, Some, None, ap, refl, sym, ◌∙◌}
use Rattle.std.specs.Option.{option_map, option_or}
use Rattle.cas_base.specs.declared.decl.Decl.{Decl}
use Rattle.cas_settle.specs.declared.link.Count.TheVariants.{Locks, Words}
use Rattle.cas_settle.specs.declared.link.LinkFault.{LinkFault}
use Rattle.cas_settle.specs.declared.link.LinkFault.TheVariants.{Twice}
use Rattle.cas_settle.specs.declared.link.TheConstants.{LOCK_LIMIT, WORD_LIMIT}
use Rattle.cas_base.specs.Decl.{definition_of, definitions, references}
use Rattle.cas_settle.specs.Settle.{all_decls, entry_fault, first_fault, first_refusal, first_repeated, limit_fault, locks_of, names_of, reference_fault, words_of}
use Rattle.cas_settle.specs.Located.{Located, decls_in, located_from}
use Rattle.cas_settle.proofs.LayoutLemmas.{decls_in-located_from}

-- an option behind one that has no value
behind : {X : Type 0} (o p q : Option X) → o ≡ None → p ≡ q → option_or o p ≡ q
behind o p q none rest = ap (λ o. option_or o p) none ∙ rest

-- an option that has a value, before another
before : {X : Type 0} (o p : Option X) (x : X) → o ≡ Some x → option_or o p ≡ Some x
before o p x some = ap (λ o. option_or o p) some

-- the five faults, in their order, where these are the definitions
abbrev pub twice_in : List (List Decl) → Option LinkFault
twice_in units = option_map Twice (first_repeated [] (names_of (definitions (all_decls units))))

abbrev pub reference_in : List (List Decl) → List Decl → Option LinkFault
reference_in units defined = first_fault (λ decl. reference_fault decl (definition_of defined decl.name))
    (references (all_decls units))

abbrev pub entry_in : List (List ℕ) → List Decl → Option LinkFault
entry_in entries defined = first_fault (λ name. entry_fault name (definition_of defined name)) entries

abbrev pub words_in : List Decl → Option LinkFault
words_in defined = limit_fault Words WORD_LIMIT (words_of defined)

abbrev pub locks_in : List Decl → Option LinkFault
locks_in defined = limit_fault Locks LOCK_LIMIT (locks_of defined)

pub first-twice : (units : List (List Decl)) (entries : List (List ℕ)) (given : LinkFault) →
    twice_in units ≡ Some given → first_refusal units entries ≡ Some given
first-twice units entries given some = before (twice_in units) _ given some

module _ (units : List (List Decl)) (entries : List (List ℕ)) (found : List Located)
    (is : found ≡ located_from 0 0 units) where
  over : decls_in found ≡ definitions (all_decls units)
  over = ap decls_in is ∙ decls_in-located_from 0 0 units

  first_is : option_or (twice_in units) (option_or (reference_in units (decls_in found))
      (option_or (entry_in entries (decls_in found)) (option_or (words_in (decls_in found))
      (locks_in (decls_in found)))))
      ≡ first_refusal units entries
  first_is =
      ap (λ defined. option_or (twice_in units) (option_or (reference_in units defined)
      (option_or (entry_in entries defined) (option_or (words_in defined) (locks_in defined))))) over

  module _ (no_twice : twice_in units ≡ None) where
    pub first-reference : (given : LinkFault) → reference_in units (decls_in found) ≡ Some given →
        first_refusal units entries ≡ Some given
    first-reference given some =
        sym first_is
        ∙ behind (twice_in units) _ (Some given) no_twice
        (before (reference_in units (decls_in found)) (option_or (entry_in entries (decls_in found))
        (option_or (words_in (decls_in found)) (locks_in (decls_in found)))) given some)

    module _ (no_reference : reference_in units (decls_in found) ≡ None) where
      pub first-entry : (given : LinkFault) → entry_in entries (decls_in found) ≡ Some given →
          first_refusal units entries ≡ Some given
      first-entry given some =
          sym first_is
          ∙ behind (twice_in units) _ (Some given) no_twice
          (behind (reference_in units (decls_in found)) _ (Some given) no_reference
          (before (entry_in entries (decls_in found)) (option_or (words_in (decls_in found))
          (locks_in (decls_in found))) given some))

      module _ (no_entry : entry_in entries (decls_in found) ≡ None) where
        rest-is : (o : Option LinkFault) → option_or (words_in (decls_in found)) (locks_in (decls_in found)) ≡ o →
            first_refusal units entries ≡ o
        rest-is o e =
            sym first_is
            ∙ behind (twice_in units) _ o no_twice
            (behind (reference_in units (decls_in found)) _ o no_reference
            (behind (entry_in entries (decls_in found)) _ o no_entry e))

        pub first-words : (given : LinkFault) → words_in (decls_in found) ≡ Some given →
            first_refusal units entries ≡ Some given
        first-words given some =
            rest-is (Some given) (before (words_in (decls_in found)) (locks_in (decls_in found)) given some)

        pub first-locks : (given : LinkFault) → words_in (decls_in found) ≡ None →
            locks_in (decls_in found) ≡ Some given → first_refusal units entries ≡ Some given
        first-locks given no_words some = rest-is (Some given)
            (behind (words_in (decls_in found)) (locks_in (decls_in found)) (Some given) no_words some)

        pub first-none : words_in (decls_in found) ≡ None → locks_in (decls_in found) ≡ None →
            first_refusal units entries ≡ None
        first-none no_words no_locks =
            rest-is None (behind (words_in (decls_in found)) (locks_in (decls_in found)) None no_words no_locks)
