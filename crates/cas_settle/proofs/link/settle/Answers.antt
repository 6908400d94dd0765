use Rattle.std.proofs.Common.{ℕ, ◌≡◌, ◌≤◌, ◌-◌, ◌^◌, min, Option, None, Some, ap, map, refl, sym, ◌∙◌, subst, arith}
use Rattle.cas_base.specs.Decl.{definition_of}
use Rattle.cas_settle.specs.Settle.{entry_fault, first_fault, first_refusal, locks_of, place_of, words_of}
use Rattle.cas_settle.specs.Located.{cells_in, decls_in, located_from, place_in}
use Rattle.cas_settle.proofs.LayoutLemmas.{cells_in-located_from}
use Rattle.cas_settle.proofs.OrderLemmas.{first-entry, first-locks, first-none, first-reference, first-twice, first-words}
use Rattle.cas_settle.proofs.PlaceLemmas.{places_of-entries}
use Rattle.cas_settle.proofs.RefusalLemmas.{passed_on}
use Rattle.cas_settle.proofs.SettledLemmas.{settled-none, unsettled}
use Rattle.cas_settle.proofs.link.settle.Goals as goal

pub returns-in_err-check_references-clause-refused : goal.returns-in_err-check_references-clause-refused
returns-in_err-check_references-clause-refused c =
    let made = c.in_ok-definitions.ensures in
    passed_on c.from_residual-in_err-check_references.result c.in_err-check_references.field-0.0
    (first_refusal c.args.units.now c.args.entries.now)
    c.from_residual-in_err-check_references.ensures.1
    (λ other. first-reference c.args.units.now c.args.entries.now c.in_ok-definitions.definitions made.found
    made.refused
    c.in_err-check_references.field-0.0 (c.in_err-check_references.ensures other))

pub returns-in_err-entries-clause-refused : goal.returns-in_err-entries-clause-refused
returns-in_err-entries-clause-refused c =
    let made = c.in_ok-definitions.ensures in
    passed_on c.from_residual-in_err-entries.result c.in_err-entries.field-0.0
    (first_refusal c.args.units.now c.args.entries.now)
    c.from_residual-in_err-entries.ensures.1
    (λ other. first-entry c.args.units.now c.args.entries.now c.in_ok-definitions.definitions made.found made.refused
    c.in_ok-check_references.ensures
    c.in_err-entries.field-0.0 (c.in_err-entries.ensures.refused other))

pub returns-in_err-check_limit-clause-refused : goal.returns-in_err-check_limit-clause-refused
returns-in_err-check_limit-clause-refused c =
    let made = c.in_ok-definitions.ensures in
    let found = c.in_ok-definitions.definitions in
    passed_on c.from_residual-in_err-check_limit.result c.in_err-check_limit.field-0.0
    (first_refusal c.args.units.now c.args.entries.now)
    c.from_residual-in_err-check_limit.ensures.1
    (λ other. first-words c.args.units.now c.args.entries.now found made.found made.refused
    c.in_ok-check_references.ensures c.in_ok-entries.ensures.refused
    c.in_err-check_limit.field-0.0 (c.in_err-check_limit.ensures (words_of (decls_in found)) c.words.ensures other))

pub returns-in_err-check_limit-2-clause-refused : goal.returns-in_err-check_limit-2-clause-refused
returns-in_err-check_limit-2-clause-refused c =
    let made = c.in_ok-definitions.ensures in
    let found = c.in_ok-definitions.definitions in
    passed_on c.from_residual-in_err-check_limit-2.result c.in_err-check_limit-2.field-0.0
    (first_refusal c.args.units.now c.args.entries.now)
    c.from_residual-in_err-check_limit-2.ensures.1
    (λ other. first-locks c.args.units.now c.args.entries.now found made.found made.refused
    c.in_ok-check_references.ensures c.in_ok-entries.ensures.refused
    c.in_err-check_limit-2.field-0.0 (c.in_ok-check_limit.ensures (words_of (decls_in found)) c.words.ensures)
    (c.in_err-check_limit-2.ensures (locks_of (decls_in found)) c.locks.ensures other))

pub returns-clause-refused : goal.returns-clause-refused
returns-clause-refused c =
    let made = c.in_ok-definitions.ensures in
    let found = c.in_ok-definitions.definitions in
    first-none c.args.units.now c.args.entries.now found made.found made.refused c.in_ok-check_references.ensures
    c.in_ok-entries.ensures.refused
    (c.in_ok-check_limit.ensures (words_of (decls_in found)) c.words.ensures)
    (c.in_ok-check_limit-2.ensures (locks_of (decls_in found)) c.locks.ensures)

pub returns-clause-settled : goal.returns-clause-settled
returns-clause-settled c = settled-none c.args.units.now c.args.entries.now (returns-clause-refused c)

pub returns-clause-cells : goal.returns-clause-cells
returns-clause-cells c =
    let settled = settled-none c.args.units.now c.args.entries.now (returns-clause-refused c) in
    c.in_ok-cells.ensures
    ∙ ap cells_in c.in_ok-definitions.ensures.found
    ∙ cells_in-located_from c.args.units.now (omega (arith, settled.words)) settled.distinct

pub returns-clause-places : goal.returns-clause-places
returns-clause-places c =
    let found = c.in_ok-definitions.ensures.found in
    c.in_ok-entries.ensures.places
    ∙ ap (λ found. map (place_in found) c.args.entries.now) found
    ∙ places_of-entries c.args.units.now c.args.entries.now
    (ap (λ found. first_fault (λ name. entry_fault name (definition_of (decls_in found) name)) c.args.entries.now)
    (sym found) ∙ c.in_ok-entries.ensures.refused)

pub returns-in_err-definitions-clause-refused : goal.returns-in_err-definitions-clause-refused
returns-in_err-definitions-clause-refused c =
    passed_on c.from_residual.result c.in_err-definitions.field-0.0 (first_refusal c.args.units.now c.args.entries.now)
    c.from_residual.ensures.1
    (λ other. first-twice c.args.units.now c.args.entries.now c.in_err-definitions.field-0.0
    (c.in_err-definitions.ensures.refused other))

pub returns-in_err-definitions-clause-unsettled : goal.returns-in_err-definitions-clause-unsettled
returns-in_err-definitions-clause-unsettled c =
    unsettled c.args.units.now c.args.entries.now c.from_residual.result (returns-in_err-definitions-clause-refused c)

pub returns-in_err-check_references-clause-unsettled : goal.returns-in_err-check_references-clause-unsettled
returns-in_err-check_references-clause-unsettled c =
    unsettled c.args.units.now c.args.entries.now c.from_residual-in_err-check_references.result
    (returns-in_err-check_references-clause-refused c)

pub returns-in_err-entries-clause-unsettled : goal.returns-in_err-entries-clause-unsettled
returns-in_err-entries-clause-unsettled c =
    unsettled c.args.units.now c.args.entries.now c.from_residual-in_err-entries.result
    (returns-in_err-entries-clause-refused c)

pub returns-in_err-check_limit-clause-unsettled : goal.returns-in_err-check_limit-clause-unsettled
returns-in_err-check_limit-clause-unsettled c =
    unsettled c.args.units.now c.args.entries.now c.from_residual-in_err-check_limit.result
    (returns-in_err-check_limit-clause-refused c)

pub returns-in_err-check_limit-2-clause-unsettled : goal.returns-in_err-check_limit-2-clause-unsettled
returns-in_err-check_limit-2-clause-unsettled c =
    unsettled c.args.units.now c.args.entries.now c.from_residual-in_err-check_limit-2.result
    (returns-in_err-check_limit-2-clause-refused c)
