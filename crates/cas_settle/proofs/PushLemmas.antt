-- One more definition in the table.
use Rattle.std.proofs.Common.{◌≡◌, ℕ, ◌+◌, ◌-◌, ◌^◌, min, cond, Bool, false, List, [], ◌∷◌, ◌++◌, map, ap, refl, sym, ◌∙◌, subst, arith}
use Rattle.std.specs.Borrow.{Bor}
use Rattle.std.specs.List.{list_any}
use Rattle.std.specs.Str.{bytes_eq}
use Rattle.std.proofs.lemmas.List.{map_push}
use Rattle.indexmap.specs.IndexMap.{IndexMap, insert_entry}
use Rattle.indexmap.proofs.CallerLemmas.{insert_entry-new}
use Rattle.cas_settle.specs.declared.definitions.Definition.{Definition}
use Rattle.cas_base.specs.Decl.{is_lock, words_of_form}
use Rattle.cas_settle.specs.Settle.{words_of, locks_of}
use Rattle.cas_settle.specs.Located.{IsKeyed, Located, located, decls_in, names_in}
use Rattle.cas_settle.proofs.FindLemmas.{IsKeyed-push, lookup-fresh}
use Rattle.cas_settle.proofs.CountLemmas.{words_of-push, locks_of-push}

-- the entries for contracts
abbrev pub shown : List (Bor (List ℕ) × Definition) → List Located
shown entries = map (λ entry. located entry.1) entries

module _ {S : Type 0} (table : IndexMap (Bor (List ℕ)) Definition S) (key : Bor (List ℕ)) (definition : Definition)
    (entries : List (Bor (List ℕ) × Definition))
    (keyed : IsKeyed table.entries) (same : key.now ≡ definition.decl.now.name)
    (found : List Located) (view_is : shown table.entries ≡ found)
    (fresh : list_any (bytes_eq definition.decl.now.name) (names_in found) ≡ false)
    (inserted : entries ≡ insert_entry (λ x y. bytes_eq x.now y.now) table.entries key definition) where
  -- the entry is the last
  pub entries-push : entries ≡ table.entries ++ (key, definition) ∷ []
  entries-push =
      inserted
      ∙ insert_entry-new (λ x y. bytes_eq x.now y.now) table key definition
      (lookup-fresh key.now table.entries keyed ((λ i. list_any (bytes_eq (same i)) (names_in (view_is i))) ∙ fresh))

  -- the table is still keyed by names
  pub keyed-push : IsKeyed entries
  keyed-push = subst IsKeyed (sym entries-push) (IsKeyed-push table.entries key definition keyed same)

  -- the definition is the last that contracts see
  pub shown-push : shown entries ≡ found ++ located definition ∷ []
  shown-push =
      ap shown entries-push
      ∙ map_push (λ (entry : Bor (List ℕ) × Definition). located entry.1) table.entries (key, definition)
      ∙ ap (λ shown. shown ++ located definition ∷ []) view_is

  -- the words are counted
  pub words-push : (counted more : ℕ) → counted ≡ min (words_of (decls_in (shown table.entries))) (2 ^ 64 - 1) →
      more ≡ words_of_form definition.decl.now.form
      → min (counted + more) (2 ^ 64 - 1) ≡ min (words_of (decls_in (shown entries))) (2 ^ 64 - 1)
  words-push counted more all one =
      words_of-push found (located definition) counted more
      (all ∙ ap (λ found. min (words_of (decls_in found)) (2 ^ 64 - 1)) view_is) one
      ∙ ap (λ found. min (words_of (decls_in found)) (2 ^ 64 - 1)) (sym shown-push)

  -- the locks are counted
  pub locks-push : (counted : ℕ) → counted ≡ min (locks_of (decls_in (shown table.entries))) (2 ^ 64 - 1)
      → min (counted + cond (is_lock definition.decl.now.form) 1 0) (2 ^ 64 - 1) ≡ min
      (locks_of (decls_in (shown entries))) (2 ^ 64 - 1)
  locks-push counted all =
      locks_of-push found (located definition) counted (cond (is_lock definition.decl.now.form) 1 0)
      (all ∙ ap (λ found. min (locks_of (decls_in found)) (2 ^ 64 - 1)) view_is) refl
      ∙ ap (λ found. min (locks_of (decls_in found)) (2 ^ 64 - 1)) (sym shown-push)
