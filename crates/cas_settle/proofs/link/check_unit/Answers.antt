use Rattle.std.proofs.Common.{ℕ, ◌+◌, ◌≡◌, ◌∷◌, [], ◌++◌, List, Option, not, drop, ap, sym, refl, ◌∙◌}
use Rattle.std.proofs.lemmas.List.{drop_all}
use Rattle.std.proofs.lemmas.List.Elements.{filter-append}
use Rattle.cas_base.specs.declared.decl.Decl.{Decl}
use Rattle.cas_settle.specs.declared.link.LinkFault.{LinkFault}
use Rattle.cas_base.specs.Decl.{definition_of, references}
use Rattle.cas_settle.specs.Settle.{first_fault, reference_fault}
use Rattle.cas_settle.specs.Located.{decls_in}
use Rattle.cas_settle.proofs.LocatedLemmas.{drop-item}
use Rattle.cas_settle.proofs.RefusalLemmas.{first_fault-here, first_fault-later, passed_on}
use Rattle.cas_settle.proofs.link.check_unit.Goals as goal

pub loop-decl-init : goal.loop-decl-init
loop-decl-init c = refl

pub returns-in_err-check_decl : goal.returns-in_err-check_decl
returns-in_err-check_decl c =
    let fault_of : Decl → Option LinkFault = λ decl. reference_fault decl
    (definition_of (decls_in c.args.definitions.now) decl.name) in
    let decl = c.decl-item.result in
    let later = drop (c.loop-decl.decl-index + 1) c.args.decls.now in
    let rest = drop-item c.args.decls.now c.loop-decl.decl-index decl c.loop-decl-test.true c.decl-item.is in
    passed_on c.from_residual.result c.in_err-check_decl.field-0.0 (first_fault fault_of (references c.args.decls.now))
    c.from_residual.ensures.1
    (λ other. first_fault-here fault_of (references c.args.decls.now)
    (references (drop c.loop-decl.decl-index c.args.decls.now)) (references (decl ∷ [])) (references later)
    (ap references rest ∙ filter-append (λ (decl : Decl). not decl.defined) (decl ∷ []) later)
    c.loop-decl.invariant c.in_err-check_decl.field-0.0 (c.in_err-check_decl.ensures other))

pub loop-decl-preserved : goal.loop-decl-preserved
loop-decl-preserved c =
    let fault_of : Decl → Option LinkFault = λ decl. reference_fault decl
    (definition_of (decls_in c.args.definitions.now) decl.name) in
    let decl = c.decl-item.result in
    let later = drop (c.loop-decl.decl-index + 1) c.args.decls.now in
    let rest = drop-item c.args.decls.now c.loop-decl.decl-index decl c.loop-decl-test.true c.decl-item.is in
    first_fault-later fault_of (references c.args.decls.now) (references (drop c.loop-decl.decl-index c.args.decls.now))
    (references (decl ∷ [])) (references later)
    (ap references rest ∙ filter-append (λ (decl : Decl). not decl.defined) (decl ∷ []) later)
    c.loop-decl.invariant c.in_ok-check_decl.ensures

pub returns : goal.returns
returns c =
    let fault_of : Decl → Option LinkFault = λ decl. reference_fault decl
    (definition_of (decls_in c.args.definitions.now) decl.name) in
    sym c.loop-decl.invariant ∙ ap (λ ds. first_fault fault_of (references ds))
    (drop_all c.loop-decl.decl-index c.args.decls.now c.loop-decl-test.false)
