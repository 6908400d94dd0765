-- The order of refusals, where limits come last.
use Rattle.std.proofs.Common.{◌≡◌, ℕ, ◌-◌, ◌^◌, min, nat_lt, Bool, true, false, cond, List, [], ◌∷◌, Option, Some, None, ap, refl, sym, ◌∙◌}
use Rattle.std.specs.Option.{option_map, option_or}
use Rattle.cas_base.specs.declared.decl.Decl.{Decl}
use Rattle.cas_base.specs.Decl.{agrees, definition_of, definitions, references}
use Rattle.cas_settle.specs.declared.link.Count.{Count}
use Rattle.cas_settle.specs.declared.link.Count.TheVariants.{Words, Locks}
use Rattle.cas_settle.specs.declared.link.LinkFault.{LinkFault}
use Rattle.cas_settle.specs.declared.link.LinkFault.TheVariants.{Twice, Differ, Limit}
use Rattle.cas_settle.specs.Settle.{all_decls, entries_fault, first_refusal, reference_fault, twice_fault, references_fault, limits_fault, limit_fault, first_repeated, names_of, words_of, locks_of}
use Rattle.cas_settle.specs.declared.link.TheConstants.{WORD_LIMIT, LOCK_LIMIT}
use Rattle.cas_object_text.specs.declared.object.Object.{Object}
use Rattle.cas_link.specs.Parts.{decls_in}
use Rattle.cas_link.specs.Refusal.{is_limit, names_fault, code_fault, link_refusal}

-- the fault, if there is one, is a limit's or isn't
abbrev pub Is : Bool → Option LinkFault → Type 0
Is b None = Unit {0}
Is b (Some fault) = is_limit fault ≡ b

named_twice : (o : Option (List ℕ)) → Is false (option_map Twice o)
named_twice None = tt
named_twice (Some name) = refl

pub twice_is : (defined : List Decl) → Is false (twice_fault defined)
twice_is defined = named_twice (first_repeated [] (names_of defined))

or_is : (b : Bool) (o p : Option LinkFault) → Is b o → Is b p → Is b (option_or o p)
or_is b None p h k = k
or_is b (Some fault) p h k = h

reference_is : (decl : Decl) (o : Option Decl) → Is false (reference_fault decl o)
reference_is decl None = refl
reference_is decl (Some defined) = by (agrees defined.form decl.form)
  where
    by : (b : Bool) → Is false (cond b None (Some (Differ decl.name defined decl)))
    by true = tt
    by false = refl

pub references_is : (defined decls : List Decl) → Is false (references_fault defined decls)
references_is defined [] = tt
references_is defined (decl ∷ decls) =
    or_is false (reference_fault decl (definition_of defined decl.name)) (references_fault defined decls)
    (reference_is decl (definition_of defined decl.name)) (references_is defined decls)

limited : (b : Bool) (what : Count) (counted : ℕ) → Is true (cond b (Some (Limit what counted)) None)
limited true what counted = refl
limited false what counted = tt

pub limits_is : (defined : List Decl) → Is true (limits_fault defined)
limits_is defined =
    or_is true (limit_fault Words WORD_LIMIT (words_of defined)) (limit_fault Locks LOCK_LIMIT (locks_of defined))
    (limited (nat_lt WORD_LIMIT (words_of defined)) Words (min (words_of defined) (2 ^ 64 - 1)))
    (limited (nat_lt LOCK_LIMIT (locks_of defined)) Locks (min (locks_of defined) (2 ^ 64 - 1)))

-- a fault that isn't a limit's
abbrev pub unless_limit : Option LinkFault → Option LinkFault
unless_limit None = None
unless_limit (Some fault) = cond (is_limit fault) None (Some fault)

kept : (fault : LinkFault) → is_limit fault ≡ false → cond (is_limit fault) None (Some fault) ≡ Some fault
kept fault e = ap (λ b. cond b None (Some fault)) e

gone : (fault : LinkFault) → is_limit fault ≡ true → cond (is_limit fault) None (Some fault) ≡ None
gone fault e = ap (λ b. cond b None (Some fault)) e

-- the faults before the limits
pub without_limits : (t r l : Option LinkFault) → Is false t → Is false r → Is true l →
    unless_limit (option_or t (option_or r l)) ≡ option_or t r
without_limits (Some fault) r l h i j = kept fault h
without_limits None (Some fault) l h i j = kept fault i
without_limits None None (Some fault) h i j = gone fault j
without_limits None None None h i j = refl

-- One refusal after another.

at-two : (t r rest : Option LinkFault) (fault : LinkFault) → option_or t r ≡ Some fault →
    option_or t (option_or r rest) ≡ Some fault
at-two (Some x) r rest fault e = e
at-two None (Some x) rest fault e = e
at-two None None rest fault e = cc

past-two : (t r rest : Option LinkFault) → option_or t r ≡ None → option_or t (option_or r rest) ≡ rest
past-two (Some x) r rest e = cc
past-two None (Some x) rest e = cc
past-two None None rest e = refl

-- the faults of the declarations of units
abbrev pub declared_fault : List (List Decl) → Option LinkFault
declared_fault units =
    let defined = definitions (all_decls units) in
    option_or (twice_fault defined) (references_fault defined (references (all_decls units)))

module _ (objects : List Object) (lock : ℕ) (entries : List (List ℕ)) where
  abbrev defined : List Decl
  defined = definitions (all_decls (decls_in objects))

  abbrev others : Option LinkFault → Option LinkFault
  others rest =
      option_or (twice_fault defined) (option_or (references_fault defined (references (all_decls (decls_in objects))))
      rest)

  pub at-declarations : (fault : LinkFault) → declared_fault (decls_in objects) ≡ Some fault →
      link_refusal lock objects entries ≡ Some fault
  at-declarations fault e = at-two (twice_fault defined)
      (references_fault defined (references (all_decls (decls_in objects)))) _ fault e

  module _ (declared : declared_fault (decls_in objects) ≡ None) where
    past-declarations : (rest : Option LinkFault) → others rest ≡ rest
    past-declarations rest = past-two (twice_fault defined)
        (references_fault defined (references (all_decls (decls_in objects)))) rest declared

    pub at-names : (fault : LinkFault) → names_fault objects ≡ Some fault →
        link_refusal lock objects entries ≡ Some fault
    at-names fault e =
        let rest = option_or (entries_fault defined entries)
        (option_or (limits_fault defined) (code_fault lock objects)) in
        past-declarations (option_or (names_fault objects) rest) ∙ ap (λ o. option_or o rest) e

    module _ (named : names_fault objects ≡ None) where
      past-names : link_refusal lock objects entries ≡ option_or (entries_fault defined entries)
          (option_or (limits_fault defined) (code_fault lock objects))
      past-names =
          let rest = option_or (entries_fault defined entries)
          (option_or (limits_fault defined) (code_fault lock objects)) in
          past-declarations (option_or (names_fault objects) rest) ∙ ap (λ o. option_or o rest) named

      settled : (o : Option LinkFault) → first_refusal (decls_in objects) entries ≡ o →
          option_or (entries_fault defined entries) (limits_fault defined) ≡ o
      settled o e = sym (past-declarations (option_or (entries_fault defined entries) (limits_fault defined))) ∙ e

      pub at-settle : (fault : LinkFault) → first_refusal (decls_in objects) entries ≡ Some fault →
          link_refusal lock objects entries ≡ Some fault
      at-settle fault e =
          past-names ∙ at-two (entries_fault defined entries) (limits_fault defined) (code_fault lock objects) fault
          (settled (Some fault) e)

      pub at-code : (o : Option LinkFault) → first_refusal (decls_in objects) entries ≡ None →
          code_fault lock objects ≡ o → link_refusal lock objects entries ≡ o
      at-code o e f =
          past-names ∙ past-two (entries_fault defined entries) (limits_fault defined) (code_fault lock objects)
          (settled None e) ∙ f
