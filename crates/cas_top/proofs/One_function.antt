-- The program of a module of one function that a thread may enter: it settles, the thread begins at the function,
-- and no word is shared.
use Rattle.std.proofs.Common.{◌≡◌, ℕ, Bool, true, List, [], ◌∷◌, Option, Some, None, if◌then◌else◌, slice_get, refl, sym, ap, subst, ◌∙◌}
use Rattle.std.specs.List.{flat_map, cons_option}
use Rattle.std.specs.Option.{option_map, option_or}
use Rattle.std.specs.Str.{bytes_eq}
use Rattle.std.specs.Prelude.{map, position, filter, not}
use Rattle.std.proofs.lemmas.Iterator.Adapters.{position_from-zero}
use Rattle.std.proofs.lemmas.List.Elements.{All-from_recursion}
use Rattle.cas_base.specs.Decl.{is_entry, is_function, definitions, references, functions_of, is_named, definition_of}
use Rattle.cas_base.specs.declared.decl.Decl.{Decl}
use Rattle.cas_base.specs.declared.decl.Form.{Form}
use Rattle.cas_base.specs.declared.decl.Form.TheVariants as form
use Rattle.cas_program.proofs.Agreeing.{itself, same_name}
use Rattle.cas_program.specs.Program.{IsProgram, env_of, entries_of, initial_words, units_of, function_of, function_with, body_item, item_words}
use Rattle.cas_settle.proofs.SettledLemmas.{settled-none}
use Rattle.cas_settle.specs.Settle.{IsSettled, first_refusal, twice_fault, references_fault, entries_fault, entry_fault, limits_fault, place_of}
use Rattle.cas_settle.specs.declared.link.LinkFault.TheVariants.{Entry}
use Rattle.cas_step.specs.Env.{FunctionAt}
use Rattle.cas_syntax.specs.Tree.{FunTree, ItemTree, define}
use Rattle.cas_typed.specs.Formed.{IsFormed, ItemsAreFormed}
use Rattle.cas_typed.specs.Modules.{IsTyped, decl_of}
use Rattle.cas_typed.specs.Resolved.{TypedFunTree, TypedModuleTree}
use Rattle.cas_world.specs.Races.{program_world}
use Rattle.cas_world.specs.World.{first_world}
use Rattle.cas_top.specs.First_form.{is_entry_named}
use Rattle.cas_top.proofs.Both.{left_part, right_part}

-- the first function of the first module
abbrev pub entry : FunctionAt
entry = record { unit = 0; place = 0 }

-- what a thread may enter is a function, which has no words and is no lock

entry_is_function : (a : Form) → is_entry a ≡ true → is_function a ≡ true
entry_is_function form.Lock h = absurd (cc h)
entry_is_function (form.Shared ty guard) h = absurd (cc h)
entry_is_function (form.Table ty) h = absurd (cc h)
entry_is_function (form.Function ret params holds) h = refl

within_limits : (name : List ℕ) (a : Form) (defined : Bool) → is_entry a ≡ true →
    limits_fault (record { name = name; form = a; defined = defined } ∷ []) ≡ None
within_limits name form.Lock defined h = absurd (cc h)
within_limits name (form.Shared ty guard) defined h = absurd (cc h)
within_limits name (form.Table ty) defined h = absurd (cc h)
within_limits name (form.Function ret params holds) defined h = refl

-- this place in the first module, if there is one
abbrev in_first : Option ℕ → Option (ℕ × ℕ)
in_first o = option_or (option_map (λ place. (0, place)) o) None

-- a declaration alone that defines what a thread of this name may enter
pub record IsEntry (name : List ℕ) (d : Decl) : Type 0 where
  pub defined : d.defined ≡ true
  pub enters : is_entry d.form ≡ true
  pub named : bytes_eq name d.name ≡ true

module _ (name : List ℕ) (d : Decl) (is : IsEntry name d) where
  defines_one : definitions (d ∷ []) ≡ d ∷ []
  defines_one = ap (λ b. if b then d ∷ [] else []) is.defined

  refers_to_none : references (d ∷ []) ≡ []
  refers_to_none = ap (λ b. if not b then d ∷ [] else []) is.defined

  one_of_functions : functions_of (d ∷ []) ≡ d ∷ []
  one_of_functions = ap (λ ds. filter (λ x. is_function x.form) ds) defines_one
      ∙ ap (λ b. if b then d ∷ [] else []) (entry_is_function d.form is.enters)

  is_there : definition_of (d ∷ []) name ≡ Some d
  is_there = ap (λ b. if b then Some d else None) is.named

  may_enter : entries_fault (d ∷ []) (name ∷ []) ≡ None
  may_enter = ap (λ o. option_or (entry_fault name o) None) is_there
      ∙ ap (λ b. option_or (if b then None else Some (Entry name d)) None) is.enters

  no_refusal : first_refusal ((d ∷ []) ∷ []) (name ∷ []) ≡ None
  no_refusal =
      (λ i. option_or (twice_fault (defines_one i)) (option_or (references_fault (defines_one i) (refers_to_none i))
      (option_or (entries_fault (defines_one i) (name ∷ [])) (limits_fault (defines_one i)))))
      ∙ (λ i. option_or (may_enter i) (limits_fault (d ∷ [])))
      ∙ within_limits d.name d.form d.defined is.enters

  stands_first : place_of ((d ∷ []) ∷ []) name ≡ Some (0, 0)
  stands_first =
      ap (λ ds. in_first (position (is_named name) ds)) one_of_functions
      ∙ ap in_first (position_from-zero (is_named name) (d ∷ []))
      ∙ ap (λ b. in_first (if b then Some 0 else None)) is.named

-- the function is what a thread of this name may enter
entry_of : (name : List ℕ) (f : FunTree) → is_entry_named name f ≡ true → ItemsAreFormed (define f ∷ []) →
    IsEntry name f.decl
entry_of name f named formed = record {
  defined = formed.0.1;
  enters = left_part (is_entry f.decl.form) (bytes_eq f.decl.name name) named;
  named = let same = same_name f.decl.name name (right_part (is_entry f.decl.form) (bytes_eq f.decl.name name) named) in
      subst (λ x. bytes_eq name x ≡ true) (sym same) (itself name);
}

-- a module whose one item is a function that a thread of this name may enter
module _ (name : List ℕ) (r : TypedModuleTree) (f : FunTree) (items : r.module_tree.items ≡ define f ∷ [])
    (is : is_entry_named name f ≡ true) (formed : IsFormed r.module_tree) where
  is_entry_here : IsEntry name f.decl
  is_entry_here = entry_of name f is (subst ItemsAreFormed items formed)

  one_unit : units_of (r ∷ []) ≡ (f.decl ∷ []) ∷ []
  one_unit = ap (λ xs. map decl_of xs ∷ []) items

  pub settles : IsSettled (units_of (r ∷ [])) (name ∷ [])
  settles = settled-none (units_of (r ∷ [])) (name ∷ [])
      (ap (λ units. first_refusal units (name ∷ [])) one_unit ∙ no_refusal name f.decl is_entry_here)

  -- with its name it is a program
  pub one_program : IsTyped r.module_tree r → IsProgram (r ∷ []) (name ∷ [])
  one_program typed = record {
    typed = All-from_recursion (λ m. IsTyped m.module_tree m) (r ∷ []) (typed, tt);
    formed = All-from_recursion (λ m. IsFormed m.module_tree) (r ∷ []) (formed, tt);
    settled = settles;
  }

  one_entry : entries_of (r ∷ []) (name ∷ []) ≡ entry ∷ []
  one_entry =
      ap (λ o. cons_option (option_map (λ (p : ℕ × ℕ). record { unit = p.0; place = p.1 }) o) [])
      (ap (λ units. place_of units name) one_unit ∙ stands_first name f.decl is_entry_here)

  no_words : initial_words (r ∷ []) ≡ []
  no_words = ap (λ xs. flat_map (λ (ys : List ItemTree). flat_map item_words ys) (xs ∷ [])) items

  -- its thread begins at the function
  pub one_world : program_world (r ∷ []) (name ∷ []) ≡ first_world (env_of (r ∷ [])) (entry ∷ []) []
  one_world = λ i. first_world (env_of (r ∷ [])) (one_entry i) (no_words i)

  -- which is the resolved one
  pub one_body : (it : TypedFunTree) → r.functions ≡ it ∷ [] → it.item ≡ 0 →
      ((env_of (r ∷ [])).function entry).body ≡ it.body
  one_body it functions number =
      (λ i. (function_of (items i) (slice_get (functions i) 0)).body)
      ∙ ap (λ n. (function_with it (body_item (slice_get (define f ∷ []) n))).body) number
