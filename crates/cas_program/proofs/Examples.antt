-- A program of two modules, computed.
use Rattle.std.proofs.Common.{◌≡◌, ℕ, List, [], ◌∷◌, Option, Some, None, refl, lit<, inl, inr}
use Rattle.std.specs.Prelude.{Bool, true, false, codes, map, IsTrue}
use Rattle.std.specs.List.{AllByRecursion}
use Rattle.std.proofs.lemmas.List.Elements.{All-from_recursion}
use Rattle.cas_base.specs.declared.decl.Decl.{Decl}
use Rattle.cas_base.specs.declared.decl.Form.{Form}
use Rattle.cas_base.specs.declared.decl.Form.TheVariants.{Lock, Shared, Table, Function as AFunction}
use Rattle.cas_base.specs.Kind.{is_of_kind}
use Rattle.cas_base.specs.declared.kind.Kind.{Kind}
use Rattle.cas_base.specs.declared.kind.Kind.TheVariants.{I32, U8}
use Rattle.cas_base.specs.declared.kind.Ty.TheVariants.{Void, Int, Array}
use Rattle.cas_base.specs.declared.place.Place.{Place}
use Rattle.cas_settle.proofs.SettledLemmas.{settled-none}
use Rattle.cas_step.specs.Env.{Entity, function, shared, table, lock}
use Rattle.cas_syntax.specs.Tree as tree
use Rattle.cas_syntax.specs.Tree.{StmtList, no_more, one_more, ItemTree, global, prototype, define, ModuleTree}
use Rattle.cas_syntax.specs.declared.tree.Ident.{Ident}
use Rattle.cas_typed.specs.Formed.{AreOfKind, IsFormed}
use Rattle.cas_typed.specs.Modules.{IsTyped}
use Rattle.cas_typed.specs.Resolved as t
use Rattle.cas_typed.specs.Resolved.{TypedModuleTree}
use Rattle.cas_typed.proofs.Items.{walk_module-typed}
use Rattle.cas_program.specs.Program.{IsProgram, units_of, env_of, entries_of, initial_words}

-- the place in this column of line 1
abbrev at : ℕ → Place
at n = record { line = 1; col = n }

abbrev named : List ℕ → ℕ → Ident
named x n = record { name = x; place = at n }

abbrev declared : List ℕ → Form → Bool → Decl
declared x form defined = record { name = x; form = form; defined = defined }

abbrev help : Bool → Decl
help defined = declared (codes "help") (AFunction Void [] (codes "L" ∷ [])) defined

-- lock L; shared(L) int g = 5; const unsigned char t[2] = {1, 2}; void help(void) holds(L) { }
abbrev first_items : List ItemTree
first_items =
    global (declared (codes "L") Lock true) [] (at 6) ∷ global
    (declared (codes "g") (Shared (Int I32) (codes "L")) true) (5 ∷ []) (at 23)
    ∷ global (declared (codes "t") (Table (Array U8 2)) true) (1 ∷ 2 ∷ []) (at 50)
    ∷ define (record {
      decl = help true;
      params = [];
      held = at 91 ∷ [];
      body = no_more;
      place = at 73;
      closing =
          at 97;
    }) ∷ []

abbrev first : TypedModuleTree
first = record {
  module_tree = record { items = first_items };
  functions =
      record { item = 3; locals = []; body = t.no_more } ∷ [];
}

-- extern lock L; lock M; extern shared(L) int g; void help(void) holds(L); void w(int me) { lock(L); help();
-- unlock(L); }
abbrev second_items : List ItemTree
second_items =
    global (declared (codes "L") Lock false) [] (at 13) ∷ global (declared (codes "M") Lock true) [] (at 21)
    ∷ global (declared (codes "g") (Shared (Int I32) (codes "L")) false) [] (at 45)
    ∷ prototype (help false) (at 71 ∷ []) (at 53)
    ∷ define (record {
      decl = declared (codes "w") (AFunction Void (Int I32 ∷ []) []) true;
      params = named (codes "me") 86 ∷ [];
      held = [];
      body = one_more (tree.lock (at 92) (named (codes "L") 97))
          (one_more (tree.call (at 101) None (named (codes "help") 101) [])
          (one_more (tree.unlock (at 109) (named (codes "L") 116)) no_more));
      place = at 80;
      closing = at 120;
    })
    ∷ []

abbrev second : TypedModuleTree
second = record {
  module_tree = record { items = second_items };
  functions = record {
    item = 4;
    locals = record { ty = Int I32; first = 0; addressed = false } ∷ [];
    body = t.one_more (t.lock (at 92) 0) (t.one_more (t.call (at 101) None 3 (at 101) [])
        (t.one_more (t.unlock (at 109) 0) t.no_more));
  } ∷ [];
}

abbrev modules : List TypedModuleTree
modules = first ∷ second ∷ []

abbrev entries : List (List ℕ)
entries = codes "w" ∷ []

first_typed : IsTyped first.module_tree first
first_typed = walk_module-typed first.module_tree first refl

second_typed : IsTyped second.module_tree second
second_typed = walk_module-typed second.module_tree second refl

values_are : (k : Kind) (vs : List ℕ) → AllByRecursion (λ v. IsTrue (is_of_kind v k)) vs → AreOfKind k vs
values_are k vs all = All-from_recursion (λ v. IsTrue (is_of_kind v k)) vs all

first_formed : IsFormed first.module_tree
first_formed = (
  (refl, inl refl),
  (
    (values_are I32 (5 ∷ []) (refl, tt), inl refl),
    (((lit< tt, values_are U8 (1 ∷ 2 ∷ []) (refl, (refl, tt))), inl refl), (((tt, tt), refl, refl, tt), tt)),
  ),
)

second_formed : IsFormed second.module_tree
second_formed = (
  (refl, inr refl),
  (
    (refl, inl refl),
    ((values_are I32 [] tt, inr refl), (((tt, tt), refl), (((tt, (tt, tt)), refl, refl, (tt, (tt, (tt, tt)))), tt))),
  ),
)

-- they are a program
is_program : IsProgram modules entries
is_program = record {
  typed = All-from_recursion (λ m. IsTyped m.module_tree m) modules (first_typed, (second_typed, tt));
  formed = All-from_recursion (λ m. IsFormed m.module_tree) modules (first_formed, (second_formed, tt));
  settled = settled-none (units_of modules) entries refl;
}

abbrev entities : (unit : ℕ) → List ℕ → List (Option Entity)
entities n items = map ((env_of modules).entity n) items

-- what the items stand for: L, g, t and help, and behind them none; L, M, g, help and w; and no third module
entity_rows :
    (entities 0 (0 ∷ 1 ∷ 2 ∷ 3 ∷ 4 ∷ []) ≡ Some (lock 0) ∷ Some (shared 1 1 (Some 0)) ∷ Some (table 2 2) ∷ Some
    (function (record { unit = 0; place = 0 })) ∷ None ∷ [])
    × (entities 1 (0 ∷ 1 ∷ 2 ∷ 3 ∷ 4 ∷ []) ≡ Some (lock 0) ∷ Some (lock 4) ∷ Some (shared 1 1 (Some 0)) ∷ Some
    (function (record { unit = 0; place = 0 })) ∷ Some (function (record { unit = 1; place = 0 })) ∷ [])
    × (entities 2 (0 ∷ []) ≡ None ∷ [])
entity_rows = (refl, refl, refl)

-- the kinds of the words L, g, both of t, and M, and what they are at first
word_rows : ((env_of modules).kinds ≡ None ∷ Some I32 ∷ Some U8 ∷ Some U8 ∷ None ∷ [])
    × (initial_words modules ≡ 1 ∷ 5 ∷ 1 ∷ 2 ∷ 1 ∷ [])
word_rows = (refl, refl)

-- the thread begins in w, whose parameter is its only local
entry_row : entries_of modules entries ≡ record { unit = 1; place = 0 } ∷ []
entry_row = refl

function_row : ((env_of modules).function (record { unit = 1; place = 0 })).locals ≡ Int I32 ∷ []
function_row = refl
