use Rattle.std.proofs.Common.{◌≡◌, drop}
use Rattle.cas_base.specs.Decl.{definition_of, references}
use Rattle.cas_settle.specs.Settle.{all_decls, first_fault, reference_fault}
use Rattle.cas_settle.specs.Located.{decls_in}
use Rattle.cas_settle.proofs.link.check_references.Given as goal

abbrev pub invariant-loop-decls : goal.invariant-loop-decls
invariant-loop-decls l =
    first_fault (λ decl. reference_fault decl (definition_of (decls_in l.definitions) decl.name))
    (references (all_decls (drop l.decls-index l.decls-items)))
    ≡ first_fault (λ decl. reference_fault decl (definition_of (decls_in l.definitions) decl.name))
    (references (all_decls l.decls-items))
