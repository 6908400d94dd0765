-- Tables of names: what they have for each name, one put after another.
use Rattle.std.proofs.Common.{◌≡◌, ℕ, Bool, true, false, cond, List, [], position, Option, Some, None, is_some, refl, sym, ap, ◌∙◌}
use Rattle.std.proofs.lemmas.Iterator.Adapters.{position_from-zero}
use Rattle.std.specs.Borrow.{Bor}
use Rattle.std.specs.List.{find, position_from}
use Rattle.std.specs.Map.{lookup}
use Rattle.std.specs.Option.{option_map, option_or}
use Rattle.std.specs.Str.{bytes_eq}
use Rattle.cas_base.specs.Decl.{is_named, functions_of}
use Rattle.cas_base.specs.declared.decl.Decl.{Decl}
use Rattle.cas_settle.specs.Settle.{place_from}
use Rattle.cas_settle.specs.declared.link.CellRow.{CellRow}
use Rattle.cas_step.specs.Env as env
use Rattle.cas_memory.specs.Entities.{entity_of}
use Rattle.cas_memory.specs.declared.entity.Entity.{Entity}
use Rattle.cas_program.specs.Program.{entity_of_cell, function_entity}
use Rattle.cas_program.proofs.Agreeing.{itself, same_name}
use Rattle.cas_whole.specs.Names.{named}

or_none : {X : Type 0} (o : Option X) → o ≡ option_or o None
or_none None = refl
or_none (Some x) = refl

-- one put

put_by : (old new : Option Entity) (x : Entity) (there here : Bool) → new ≡ cond there (Some x) old → there ≡ here →
    (here ≡ true → is_some old ≡ false) →
    option_map entity_of new ≡ option_or (option_map entity_of old) (cond here (Some (entity_of x)) None)
put_by old new x true true is same none = put_here old (none refl)
  where
    put_here : (old : Option Entity) → is_some old ≡ false →
        option_map entity_of new ≡ option_or (option_map entity_of old) (Some (entity_of x))
    put_here None none = ap (option_map entity_of) is
    put_here (Some y) none = absurd (cc none)
put_by old new x true false is same none = absurd (cc same)
put_by old new x false true is same none = absurd (cc same)
put_by old new x false false is same none = ap (option_map entity_of) is ∙ or_none (option_map entity_of old)

either_way : (a b : List ℕ) (r s : Bool) → bytes_eq a b ≡ r → bytes_eq b a ≡ s → r ≡ s
either_way a b true true is also = refl
either_way a b true false is also = sym (itself a) ∙ ap (λ x. bytes_eq x a) (same_name a b is) ∙ also
either_way a b false true is also = sym is ∙ ap (bytes_eq a) (same_name b a also) ∙ itself a
either_way a b false false is also = refl

-- a name that isn't there is put
pub put_new : (old new : List (Bor (List ℕ) × Entity)) (name : List ℕ) (x : Entity) →
    is_some (lookup (λ key. bytes_eq name key.now) old) ≡ false →
    ((q : List ℕ) → lookup (λ key. bytes_eq q key.now) new ≡ cond (bytes_eq name q) (Some x)
    (lookup (λ key. bytes_eq q key.now) old)) →
    (q : List ℕ) → named new q ≡ option_or (named old q) (cond (bytes_eq q name) (Some (entity_of x)) None)
put_new old new name x none updated q =
    put_by (lookup (λ key. bytes_eq q key.now) old) (lookup (λ key. bytes_eq q key.now) new) x (bytes_eq name q)
    (bytes_eq q name) (updated q)
    (either_way name q (bytes_eq name q) (bytes_eq q name) refl refl)
    (λ same. ap (λ q. is_some (lookup (λ key. bytes_eq q key.now) old)) (same_name q name same) ∙ none)

-- cells

-- the table has the cells so far, and these are left
abbrev pub HasCells : List (Bor (List ℕ) × Entity) → (left all : List CellRow) → Type 0
HasCells entries left all = (q : List ℕ) → option_or (named entries q)
    (option_map entity_of_cell (find (λ row. bytes_eq q row.name) left)) ≡ option_map entity_of_cell
    (find (λ row. bytes_eq q row.name) all)

-- functions of a module

abbrev pub at_place : (unit place : ℕ) → List Decl → (q : List ℕ) → Option env.Entity
at_place unit place ds q = option_map (λ n. function_entity (unit, n))
    (position_from (is_named q) place (functions_of ds))

-- the table has a module's functions so far, and these declarations are left after this many functions
abbrev pub HasFunctions : (unit : ℕ) (before now : List (Bor (List ℕ) × Entity)) (place : ℕ) (left all : List Decl) →
    Type 0
HasFunctions unit before now place left all = (q : List ℕ) →
    option_or (named now q) (at_place unit place left q) ≡ option_or (named before q) (at_place unit 0 all q)

pub functions_done : (unit place : ℕ) (before now : List (Bor (List ℕ) × Entity)) (all : List Decl) →
    HasFunctions unit before now place [] all →
    (q : List ℕ) → named now q ≡ option_or (named before q)
    (option_map (λ n. function_entity (unit, n)) (position (is_named q) (functions_of all)))
functions_done unit place before now all has q =
    or_none (named now q) ∙ has q ∙ ap (λ o. option_or (named before q) (option_map (λ n. function_entity (unit, n)) o))
    (sym (position_from-zero (is_named q) (functions_of all)))

-- functions of modules

-- the table has the functions of the modules so far, and these are left, of which the first has this number
abbrev pub HasModules : List (Bor (List ℕ) × Entity) → (unit : ℕ) → (left all : List (List Decl)) → Type 0
HasModules entries unit left all = (q : List ℕ) → option_or (named entries q)
    (option_map function_entity (place_from unit left q)) ≡ option_map function_entity (place_from 0 all q)
