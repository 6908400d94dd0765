-- The walk through items, one after another.
use Rattle.std.proofs.Common.{◌≡◌, ◌<◌, ℕ, ◌+◌, List, [], ◌∷◌, ◌++◌, map, length, drop, get_or, Option, Some, None, Result, Ok, Err, refl, ap, sym, subst, ◌∙◌, append_assoc}
use Rattle.cas_base.specs.declared.decl.Decl.{Decl}
use Rattle.cas_syntax.specs.declared.tree.Fun.{Fun}
use Rattle.cas_syntax.specs.declared.tree.Item.{Item}
use Rattle.cas_syntax.specs.declared.tree.Item.TheVariants.{Define}
use Rattle.std.proofs.lemmas.List.{drop_more}
use Rattle.std.specs.Prelude.{IsErrAnd, ⊤}
use Rattle.cas_typed.specs.Numbered.{IsFunctionOf}
use Rattle.cas_syntax.specs.Tree.{ItemTree, global, prototype, define, fun_tree, item_tree}
use Rattle.cas_type.specs.Answer.{Fails}
use Rattle.cas_type.specs.Parts.{capped}
use Rattle.cas_type.specs.Whole_walk.{walk_one, walk_step, GivesInto}
use Rattle.cas_type.specs.declared.counts.Totals.{Totals}
use Rattle.cas_type.specs.declared.fault.TypeFault.{TypeFault}
use Rattle.cas_type.proofs.By_parts.{fails_then}
use Rattle.cas_typed.specs.Counts.{function_count, word_count}
use Rattle.cas_typed.specs.Faults.{Fault, unless, then_}
use Rattle.cas_typed.specs.Modules.{decl_of}
use Rattle.cas_typed.specs.Resolved.{TypedFunTree}
use Rattle.cas_typed.specs.Walk.{item_fault, walk_function, walk_items}
use Rattle.cas_typed.specs.Whole.{AreFunctionsOf}
use Rattle.cas_typed.specs.declared.rows.TypedFun.{TypedFun}

-- functions behind others
abbrev behind : List TypedFunTree → Result (List TypedFunTree) Fault → Result (List TypedFunTree) Fault
behind done walked = then_ walked (λ rs. Ok (done ++ rs))

behind_none : (walked : Result (List TypedFunTree) Fault) → walked ≡ behind [] walked
behind_none (Ok rs) = refl
behind_none (Err f) = refl

behind_more : (done rs : List TypedFunTree) (walked : Result (List TypedFunTree) Fault) →
    behind done (behind rs walked) ≡ behind (done ++ rs) walked
behind_more done rs (Ok ss) = ap (λ ts. Ok ts) (sym (append_assoc done rs ss))
behind_more done rs (Err f) = refl

step_plain : (o : Option Fault) (walked : Result (List TypedFunTree) Fault)
    → unless o walked ≡ then_ (unless o (Ok [])) (λ rs. behind rs walked)
step_plain (Some f) walked = refl
step_plain None walked = behind_none walked

step_function : (o : Option Fault) (first : Result TypedFunTree Fault) (walked : Result (List TypedFunTree) Fault)
    → unless o (then_ first (λ r. then_ walked (λ rs. Ok (r ∷ rs)))) ≡ then_ (unless o (then_ first (λ r. Ok (r ∷ []))))
    (λ rs. behind rs walked)
step_function (Some f) first walked = refl
step_function None (Ok r) walked = refl
step_function None (Err f) walked = refl

-- an item, and then those behind it
items_step : (before : List Decl) (a : ItemTree) (rest : List ItemTree)
    → walk_items before (a ∷ rest) ≡ then_ (walk_step before a)
    (λ rs. behind rs (walk_items (before ++ decl_of a ∷ []) rest))
items_step before (global d vs p) rest = step_plain (item_fault before (global d vs p))
    (walk_items (before ++ d ∷ []) rest)
items_step before (prototype d hs p) rest = step_plain (item_fault before (prototype d hs p))
    (walk_items (before ++ d ∷ []) rest)
items_step before (define f) rest = step_function (item_fault before (define f)) (walk_function before f)
    (walk_items (before ++ f.decl ∷ []) rest)

functions-append : (rs ss : List TypedFunTree) (fs gs : List TypedFun) → AreFunctionsOf rs fs → AreFunctionsOf ss gs →
    AreFunctionsOf (rs ++ ss) (fs ++ gs)
functions-append [] ss [] gs h k = k
functions-append (r ∷ rs) ss (f ∷ fs) gs h k = (h.0, functions-append rs ss fs gs h.1 k)
functions-append [] ss (f ∷ fs) gs h k = absurd h
functions-append (r ∷ rs) ss [] gs h k = absurd h

-- what is known after some of a module's items: these functions are done, and those items are left
pub record IsWalked (all left : List ItemTree) (decls : List Decl) (functions : List TypedFun) (totals : Totals)
    (done : List TypedFunTree) : Type 0 where
  pub are : AreFunctionsOf done functions
  pub walked : walk_items [] all ≡ behind done (walk_items decls left)
  pub functions_counted : totals.functions ≡ capped (function_count decls)
  pub words_counted : totals.words ≡ capped (word_count decls)

-- one more item
pub gone_on : (all : List ItemTree) (a : ItemTree) (left : List ItemTree) (decls new : List Decl)
    (functions more fs : List TypedFun) (totals next : Totals)
    → ((done : List TypedFunTree) × IsWalked all (a ∷ left) decls functions totals done)
    → ((rs : List TypedFunTree) × (walk_step decls a ≡ Ok rs) × AreFunctionsOf rs fs)
    → new ≡ decls ++ decl_of a ∷ [] → more ≡ functions ++ fs
    → next.functions ≡ capped (function_count new) → next.words ≡ capped (word_count new)
    → (done : List TypedFunTree) × IsWalked all left new more next done
gone_on all a left decls new functions more fs totals next so step declared added f w =
    let walked = so.1.walked
    ∙ ap (behind so.0)
    (items_step decls a left ∙ ap (λ o. then_ o (λ rs. behind rs (walk_items (decls ++ decl_of a ∷ []) left)))
    step.1)
    ∙ behind_more so.0 step.0 (walk_items (decls ++ decl_of a ∷ []) left)
    ∙ ap (λ ds. behind (so.0 ++ step.0) (walk_items ds left)) (sym declared) in (
      so.0 ++ step.0,
      record {
        are = subst (λ (gs : List TypedFun). AreFunctionsOf (so.0 ++ step.0) gs) (sym added)
            (functions-append so.0 step.0 functions fs so.1.are step.2);
        walked = walked;
        functions_counted = f;
        words_counted = w;
      },
    )

-- an item's fault is the walk's
pub stopped : (all : List ItemTree) (a : ItemTree) (left : List ItemTree) (decls : List Decl)
    (functions : List TypedFun) (totals : Totals) (e : TypeFault)
    → ((done : List TypedFunTree) × IsWalked all (a ∷ left) decls functions totals done) → Fails e (walk_step decls a) →
    Fails e (walk_items [] all)
stopped all a left decls functions totals e so h =
    subst (λ (o : Result (List TypedFunTree) Fault). Fails e o)
    (sym (so.1.walked ∙ ap (behind so.0) (items_step decls a left)))
    (fails_then e (then_ (walk_step decls a) (λ rs. behind rs (walk_items (decls ++ decl_of a ∷ []) left)))
    (λ rs. Ok (so.0 ++ rs))
    (fails_then e (walk_step decls a) (λ rs. behind rs (walk_items (decls ++ decl_of a ∷ []) left)) h))

-- the items from one on are this one and those behind it
items_drop : (items : List Item) (k : ℕ) (a : Item) → k < length items → a ≡ get_or items k a →
    map item_tree (drop k items) ≡ item_tree a ∷ map item_tree (drop (k + 1) items)
items_drop items k a h is = ap (map item_tree) (drop_more items k a h ∙ ap (λ b. b ∷ drop (k + 1) items) (sym is))

-- what is known after some items, before the next
pub next_item : (all : List ItemTree) (items : List Item) (k : ℕ) (a : Item) (decls : List Decl)
    (functions : List TypedFun) (totals : Totals) → k < length items → a ≡ get_or items k a
    → ((done : List TypedFunTree) × IsWalked all (map item_tree (drop k items)) decls functions totals done)
    → (done : List TypedFunTree) × IsWalked all (item_tree a ∷ map item_tree (drop (k + 1) items))
    decls functions totals done
next_item all items k a decls functions totals h is so =
    subst (λ (left : List ItemTree). (done : List TypedFunTree) × IsWalked all left decls functions totals done)
    (items_drop items k a h is) so

-- a fault that is passed on
pub passed_into : (fs : List TypedFun) (result : Result ⊤ TypeFault) (given : TypeFault)
    (walked : Result (List TypedFunTree) Fault)
    → IsErrAnd result (λ passed. passed ≡ given) → Fails given walked → GivesInto fs result walked
passed_into fs (Ok u) given walked passed h = absurd passed
passed_into fs (Err e) given walked passed h = subst (λ (f : TypeFault). Fails f walked) (sym passed) h

-- the function that an item is
pub one_function : (before : List Decl) (a : Item) (f : Fun) (g : TypedFun) → a ≡ Define f
    → ((r : TypedFunTree) × (walk_function before (fun_tree f) ≡ Ok r) × IsFunctionOf r g)
    → (rs : List TypedFunTree) × (walk_one before (item_tree a) ≡ Ok rs) × AreFunctionsOf rs (g ∷ [])
one_function before a f g is h =
    (h.0 ∷ [], ap (λ b. walk_one before (item_tree b)) is ∙ ap (λ o. then_ o (λ r. Ok (r ∷ []))) h.1, (h.2, tt))
