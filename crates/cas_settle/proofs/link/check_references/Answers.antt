use Rattle.std.proofs.Common.{ℕ, ◌+◌, ◌≡◌, ◌∷◌, [], ◌++◌, List, Option, None, Some, not, drop, ap, sym, refl, ◌∙◌}
use Rattle.std.proofs.lemmas.List.{drop_all}
use Rattle.std.proofs.lemmas.List.Elements.{filter-append}
use Rattle.cas_base.specs.declared.decl.Decl.{Decl}
use Rattle.cas_settle.specs.declared.link.LinkFault.{LinkFault}
use Rattle.cas_base.specs.Decl.{definition_of, references}
use Rattle.cas_settle.specs.Settle.{all_decls, first_fault, reference_fault}
use Rattle.cas_settle.specs.Located.{decls_in}
use Rattle.cas_settle.proofs.LocatedLemmas.{drop-item}
use Rattle.cas_settle.proofs.RefusalLemmas.{first_fault-here, first_fault-later, passed_on}
use Rattle.cas_settle.proofs.link.check_references.Goals as goal

pub loop-decls-init : goal.loop-decls-init
loop-decls-init c = refl

pub returns-in_err-check_unit : goal.returns-in_err-check_unit
returns-in_err-check_unit c =
    let fault_of : Decl → Option LinkFault = λ decl. reference_fault decl
    (definition_of (decls_in c.args.definitions.now) decl.name) in
    let units = c.units-decls-items.result.now in
    let decls = c.decls-item.result in
    let later = drop (c.loop-decls.decls-index + 1) units in
    let rest = drop-item units c.loop-decls.decls-index decls c.loop-decls-test.true c.decls-item.is in
    passed_on c.from_residual.result c.in_err-check_unit.field-0.0
    (first_fault fault_of (references (all_decls c.args.units.now))) c.from_residual.ensures.1
    (λ other. ap (λ us. first_fault fault_of (references (all_decls us))) (sym c.units-decls-items.ensures)
    ∙ first_fault-here fault_of (references (all_decls units))
    (references (all_decls (drop c.loop-decls.decls-index units))) (references decls) (references (all_decls later))
    (ap (λ us. references (all_decls us)) rest ∙ filter-append (λ (decl : Decl). not decl.defined) decls
    (all_decls later))
    c.loop-decls.invariant c.in_err-check_unit.field-0.0
    (ap (λ ds. first_fault fault_of (references ds)) (sym c.as_slice.ensures) ∙ c.in_err-check_unit.ensures other))

pub loop-decls-preserved : goal.loop-decls-preserved
loop-decls-preserved c =
    let fault_of : Decl → Option LinkFault = λ decl. reference_fault decl
    (definition_of (decls_in c.args.definitions.now) decl.name) in
    let units = c.units-decls-items.result.now in
    let decls = c.decls-item.result in
    let later = drop (c.loop-decls.decls-index + 1) units in
    let rest = drop-item units c.loop-decls.decls-index decls c.loop-decls-test.true c.decls-item.is in
    first_fault-later fault_of (references (all_decls units))
    (references (all_decls (drop c.loop-decls.decls-index units))) (references decls) (references (all_decls later))
    (ap (λ us. references (all_decls us)) rest ∙ filter-append (λ (decl : Decl). not decl.defined) decls
    (all_decls later))
    c.loop-decls.invariant
    (ap (λ ds. first_fault fault_of (references ds)) (sym c.as_slice.ensures) ∙ c.in_ok-check_unit.ensures)

pub returns : goal.returns
returns c =
    let fault_of : Decl → Option LinkFault = λ decl. reference_fault decl
    (definition_of (decls_in c.args.definitions.now) decl.name) in
    ap (λ us. first_fault fault_of (references (all_decls us))) (sym c.units-decls-items.ensures)
    ∙ sym c.loop-decls.invariant
    ∙ ap (λ us. first_fault fault_of (references (all_decls us)))
    (drop_all c.loop-decls.decls-index c.units-decls-items.result.now c.loop-decls-test.false)
