use Rattle.std.proofs.Common.{◌≡◌, ◌++◌, map, drop}
use Rattle.cas_own.specs.Locks.{guard_of_form}
use Rattle.cas_check.proofs.items.guards.Given as goal

abbrev pub invariant-loop-decl : goal.invariant-loop-decl
invariant-loop-decl l = l.guards.items ++ map (λ d. guard_of_form l.symbols d.now.form) (drop l.decl-index l.decls)
    ≡ map (λ d. guard_of_form l.symbols d.now.form) l.decls
