use Rattle.std.proofs.Common.{◌≡◌, drop}
use Rattle.cas_base.specs.Decl.{definition_of, references}
use Rattle.cas_settle.specs.Settle.{first_fault, reference_fault}
use Rattle.cas_settle.specs.Located.{decls_in}
use Rattle.cas_settle.proofs.link.check_unit.Given as goal

abbrev pub invariant-loop-decl : goal.invariant-loop-decl
invariant-loop-decl l =
    first_fault (λ decl. reference_fault decl (definition_of (decls_in l.definitions) decl.name))
    (references (drop l.decl-index l.decls))
    ≡ first_fault (λ decl. reference_fault decl (definition_of (decls_in l.definitions) decl.name)) (references l.decls)
