-- The unit of a typed module is in order, and what is made of it refines it.
use Rattle.std.proofs.Common.{◌≡◌, ℕ, Bool, true, false, cond, not, List, [], ◌∷◌, Some, None, map, filter, refl, ap, sym, subst, ◌∙◌}
use Rattle.cas_base.specs.Decl.{is_function, definitions, functions_of, data_of}
use Rattle.cas_base.specs.Unit.{IsInOrder}
use Rattle.cas_base.specs.declared.decl.Decl.{Decl}
use Rattle.cas_base.specs.declared.decl.Form.{Form}
use Rattle.cas_base.specs.declared.decl.Form.TheVariants.{Lock, Shared, Table, Function}
use Rattle.cas_base.specs.declared.decl.Global.{Global}
use Rattle.cas_base.specs.declared.decl.Unit.{Unit as UnitOf}
use Rattle.cas_syntax.specs.Tree.{ItemTree, global, prototype, define, ModuleTree}
use Rattle.cas_typed.specs.Formed.{IsGlobal, IsFunctionForm, ItemsAreFormed}
use Rattle.cas_typed.specs.Modules.{AreItems, no_item, a_global, a_prototype, a_function}
use Rattle.cas_typed.specs.Resolved.{TypedFunTree, TypedModuleTree}
use Rattle.cas_typed.specs.Whole.{AreTypedAs}
use Rattle.cas_typed.specs.declared.rows.TypedFun.{TypedFun}
use Rattle.cas_runs.specs.Calls.{language}
use Rattle.cas_runs.specs.Label.{Both}
use Rattle.cas_runs.specs.Unit.{UnitRefines}
use Rattle.cas_runs.specs.Unmoved.{unmoved}
use Rattle.cas_runs.proofs.Entered.{in_order_defined}
use Rattle.cas_runs.proofs.Matched.{units_pass}
use Rattle.cas_runs.proofs.Unmoved.{unmoved_is}
use Rattle.cas_clight.specs.Clight.{ClightFun, clight}
use Rattle.cas_clight.specs.Units.{data_in, with_datum, decls_of, functions_in, unit_of}
use Rattle.cas_mid.specs.declared.tree.CsharpFun.{CsharpFun}
use Rattle.cas_mid.specs.Csharpminor.{csharpminor}
use Rattle.cas_cshmgen.specs.Made.{AreMadeOf, IsMadeUnit, IsNoLarger, ForsAreSimpleIn}
use Rattle.cas_cshmgen.specs.Match.{IsMade}
use Rattle.cas_cshmgen.proofs.Pass.{cshmgen_shown}
use Rattle.cas_cshmgen.proofs.Simulation.{cshmgen}
use Rattle.cas_cshmgen.proofs.Typed.{is_made, weighs_no_more, has_no_more_room}

module _ (test : Decl → Bool) (d : Decl) (ds : List Decl) where
  kept : test d ≡ true → filter test (d ∷ ds) ≡ d ∷ filter test ds
  kept e = ap (λ b. cond b (d ∷ filter test ds) (filter test ds)) e

  dropped : test d ≡ false → filter test (d ∷ ds) ≡ filter test ds
  dropped e = ap (λ b. cond b (d ∷ filter test ds) (filter test ds)) e

is_data : Decl → Bool
is_data d = not (is_function d.form)

no_function : (form : Form) (vs : List ℕ) → IsGlobal form vs → is_function form ≡ false
no_function Lock vs h = refl
no_function (Shared ty guard) vs h = refl
no_function (Table ty) vs h = refl
no_function (Function ret params holds) vs h = absurd h

a_function_form : (form : Form) → IsFunctionForm form → is_function form ≡ true
a_function_form Lock h = absurd h
a_function_form (Shared ty guard) h = absurd h
a_function_form (Table ty) h = absurd h
a_function_form (Function ret params holds) h = refl

-- the data

data_by : (d : Decl) (defs : List Decl) (xs : List Global) (vs : List ℕ) (b : Bool) → is_function d.form ≡ false →
    map (λ (g : Global). g.decl) xs ≡ filter (λ x. not (is_function x.form)) defs
    → map (λ (g : Global). g.decl) (with_datum (cond b (Some (record { decl = d; values = vs })) None) xs) ≡ filter
    (λ x. not (is_function x.form)) (cond b (d ∷ defs) defs)
data_by d defs xs vs true e h = ap (λ ds. d ∷ ds) h ∙ sym (kept (λ x. not (is_function x.form)) d defs (ap not e))
data_by d defs xs vs false e h = h

undefined : (d : Decl) (defs : List Decl) (test : Decl → Bool) → d.defined ≡ false →
    filter test (cond d.defined (d ∷ defs) defs) ≡ filter test defs
undefined d defs test e = ap (λ b. filter test (cond b (d ∷ defs) defs)) e

defined : (d : Decl) (defs : List Decl) (test : Decl → Bool) → d.defined ≡ true →
    filter test (cond d.defined (d ∷ defs) defs) ≡ filter test (d ∷ defs)
defined d defs test e = ap (λ b. filter test (cond b (d ∷ defs) defs)) e

ordered_data : (items : List ItemTree) → ItemsAreFormed items →
    map (λ (g : Global). g.decl) (data_in items) ≡ data_of (decls_of items)
ordered_data [] h = refl
ordered_data (global d vs p ∷ items) h = data_by d (definitions (decls_of items)) (data_in items) vs d.defined
    (no_function d.form vs h.0.0) (ordered_data items h.1)
ordered_data (prototype d hs p ∷ items) h = ordered_data items h.1
    ∙ sym (undefined d (definitions (decls_of items)) (λ x. not (is_function x.form)) h.0.1)
ordered_data (define f ∷ items) h =
    ordered_data items h.1
    ∙ sym (defined f.decl (definitions (decls_of items)) (λ x. not (is_function x.form)) h.0.1
    ∙ dropped (λ x. not (is_function x.form)) f.decl (definitions (decls_of items))
    (ap not (a_function_form f.decl.form h.0.0)))

-- the functions

no_function_by : (d : Decl) (defs : List Decl) (b : Bool) → is_function d.form ≡ false →
    filter (λ x. is_function x.form) (cond b (d ∷ defs) defs) ≡ filter (λ x. is_function x.form) defs
no_function_by d defs true e = dropped (λ x. is_function x.form) d defs e
no_function_by d defs false e = refl

ordered_functions : (ds before : List Decl) (items : List ItemTree) (rs : List TypedFunTree) →
    AreItems before items rs → ItemsAreFormed items → map (λ (g : ClightFun). g.decl) (functions_in ds items rs)
    ≡ functions_of (decls_of items)
ordered_functions ds before items rs (no_item b) h = refl
ordered_functions ds before items rs (a_global b d vs p rest more is i) h = ordered_functions ds _ rest more i h.1
    ∙ sym (no_function_by d (definitions (decls_of rest)) d.defined (no_function d.form vs h.0.0))
ordered_functions ds before items rs (a_prototype b d hs p rest more is i) h = ordered_functions ds _ rest more i h.1
    ∙ sym (undefined d (definitions (decls_of rest)) (λ x. is_function x.form) h.0.1)
ordered_functions ds before items rs (a_function b f rest r more is so i) h =
    ap (λ xs. f.decl ∷ xs) (ordered_functions ds _ rest more i h.1)
    ∙ sym (defined f.decl (definitions (decls_of rest)) (λ x. is_function x.form) h.0.1
    ∙ kept (λ x. is_function x.form) f.decl (definitions (decls_of rest)) (a_function_form f.decl.form h.0.0))

module _ (m : ModuleTree) (fs : List TypedFun) (r : TypedModuleTree) (typed : AreTypedAs m fs r) where
  formed : ItemsAreFormed r.module_tree.items
  formed = subst (λ (t : ModuleTree). ItemsAreFormed t.items) (sym typed.module_tree) typed.formed

  in_order : IsInOrder (λ (g : ClightFun). g.decl) (unit_of r)
  in_order =
      record {
        globals = ordered_data r.module_tree.items formed;
        functions = ordered_functions
            (decls_of r.module_tree.items) [] r.module_tree.items r.functions typed.typed.functions formed;
      }

-- each function is made so, and is no larger
each_made : (ds before : List Decl) (items : List ItemTree) (rs : List TypedFunTree) (cs : List CsharpFun) →
    AreItems before items rs → ForsAreSimpleIn items → AreMadeOf cs (functions_in ds items rs)
    → Both (IsMade ds) cs (functions_in ds items rs) × Both IsNoLarger cs (functions_in ds items rs)
each_made ds before items rs [] (no_item b) fors made = (tt, tt)
each_made ds before items rs (c ∷ cs) (no_item b) fors made = absurd made
each_made ds before items rs cs (a_global b d vs p rest more is i) fors made = each_made ds _ rest more cs i fors.1 made
each_made ds before items rs cs (a_prototype b d hs p rest more is i) fors made =
    each_made ds _ rest more cs i fors.1 made
each_made ds before items rs [] (a_function b f rest r more is so i) fors made = absurd made
each_made ds before items rs (c ∷ cs) (a_function b f rest r more is so i) fors made =
    let others = each_made ds _ rest more cs i fors.1 made.1 in
    let here = made.0 in
    let few = is.parameters in (
      (is_made b ds f r so few fors.0 c here.routine, others.0),
      (
        record {
          weight = weighs_no_more b ds f r so few fors.0 c here.routine;
          room =
              has_no_more_room b ds f r so few fors.0 c here.routine;
        },
        others.1,
      ),
    )

module _ (m : ModuleTree) (fs : List TypedFun) (r : TypedModuleTree) (typed : AreTypedAs m fs r)
    (fors : ForsAreSimpleIn r.module_tree.items) (unit : UnitOf CsharpFun) (made : IsMadeUnit unit (unit_of r)) where
  each : Both (IsMade (decls_of r.module_tree.items)) unit.funs (unit_of r).funs
      × Both IsNoLarger unit.funs (unit_of r).funs
  each = each_made (decls_of r.module_tree.items) [] r.module_tree.items r.functions unit.funs typed.typed.functions
      fors made.functions

  pub unit_refines : UnitRefines (language csharpminor) (language clight) unit (unit_of r)
  unit_refines = units_pass (unmoved cshmgen) (unmoved_is cshmgen cshmgen_shown) unit
      (unit_of r) made.decls made.globals (in_order_defined (language clight) (λ (g : ClightFun). g.decl) (λ g. refl)
      (unit_of r) (in_order m fs r typed)) each.0

  pub no_larger : Both IsNoLarger unit.funs (unit_of r).funs
  no_larger = each.1
