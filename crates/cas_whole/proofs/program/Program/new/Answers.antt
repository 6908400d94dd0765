use Rattle.std.proofs.Common.{◌<◌, ◌^◌, List, length, sym, ap, subst, ◌∙◌, arith}
use Rattle.std.specs.Prelude.{All}
use Rattle.std.proofs.Math.Logic.{∥∥₁_map}
use Rattle.std.proofs.lemmas.List.Elements.{All-from_recursion}
use Rattle.cas_base.specs.Decl.{functions_of}
use Rattle.cas_base.specs.declared.decl.Decl.{Decl}
use Rattle.cas_settle.specs.Settle.{first_refusal}
use Rattle.cas_settle.proofs.RefusalLemmas.{passed_on}
use Rattle.cas_whole.specs.Names.{units_in}
use Rattle.cas_whole.proofs.Units.{few_functions, typed_there, typed_units}
use Rattle.cas_whole.proofs.Making.{made_so, refused_so}
use Rattle.cas_whole.proofs.program.Program.new.Goals as goal

pub settle-requires-clause-few_functions : goal.settle-requires-clause-few_functions
settle-requires-clause-few_functions c =
    subst (All (λ (unit : List Decl). length (functions_of unit) < 2 ^ 32)) (sym c.in_ok-units.ensures)
    (All-from_recursion (λ (unit : List Decl). length (functions_of unit) < 2 ^ 32) (units_in c.deref.result.now)
    (few_functions c.deref.result.now))

pub returns-in_err-settled-clause-refused : goal.returns-in_err-settled-clause-refused
returns-in_err-settled-clause-refused c =
    refused_so c.from_residual-in_err-settled.result c.args.modules.items c.in_ok-units.units c.args.entries.now
    (c.in_ok-units.ensures ∙ ap units_in c.deref.ensures.value)
    (passed_on c.from_residual-in_err-settled.result c.in_err-settled.field-0.0
    (first_refusal c.in_ok-units.units c.args.entries.now) c.from_residual-in_err-settled.ensures.1
    c.in_err-settled.ensures.refused)

pub items_of-requires-clause-few_functions : goal.items_of-requires-clause-few_functions
items_of-requires-clause-few_functions c = few_functions c.deref-2.result.now

pub invariant_of-result : goal.invariant_of-result
invariant_of-result c =
    let settled = c.in_ok-settled.ensures in
    let counted : length c.args.modules.items < 2 ^ 32 =
    omega (arith, c.requires.few_modules, c.deref.ensures.len, ap length c.deref.ensures.value) in record {
      program = ∥∥₁_map (typed_there c.args.modules.items) (λ all. (
        all.0,
        c.args.entries.now,
        made_so c.of.result c.args.modules.items c.deref-2.result.now c.in_ok-units.units c.args.entries.now
            c.in_ok-settled.settled.cells c.in_ok-settled.settled.entries c.in_ok-items.items
            c.of.ensures (c.in_ok-units.ensures ∙ ap units_in c.deref.ensures.value) c.deref-2.ensures.value counted
            c.requires.few_entries settled.settled settled.cells settled.places
            c.in_ok-items.ensures.rows c.in_ok-items.ensures.entities all.0 all.1,
      ));
    }

pub returns-clause-refused : goal.returns-clause-refused
returns-clause-refused c = λ ms are.
    ap (λ units. first_refusal units c.args.entries.now)
    (typed_units c.args.modules.items ms are ∙ sym (c.in_ok-units.ensures ∙ ap units_in c.deref.ensures.value))
    ∙ c.in_ok-settled.ensures.refused

pub returns-clause-made : goal.returns-clause-made
returns-clause-made c =
    let settled = c.in_ok-settled.ensures in
    let counted : length c.args.modules.items < 2 ^ 32 =
    omega (arith, c.requires.few_modules, c.deref.ensures.len, ap length c.deref.ensures.value) in
    made_so c.of.result c.args.modules.items c.deref-2.result.now c.in_ok-units.units c.args.entries.now
    c.in_ok-settled.settled.cells c.in_ok-settled.settled.entries c.in_ok-items.items
    c.of.ensures (c.in_ok-units.ensures ∙ ap units_in c.deref.ensures.value) c.deref-2.ensures.value counted
    c.requires.few_entries settled.settled settled.cells settled.places
    c.in_ok-items.ensures.rows c.in_ok-items.ensures.entities
