use Rattle.std.proofs.Common.{◌≡◌, ◌++◌, map, drop}
use Rattle.cas_own.specs.Locks.{holds_of_form}
use Rattle.cas_check.proofs.items.holds.Given as goal

abbrev pub invariant-loop-decl : goal.invariant-loop-decl
invariant-loop-decl l = l.holds.items ++ map (λ d. holds_of_form l.symbols d.now.form) (drop l.decl-index l.decls) ≡ map
    (λ d. holds_of_form l.symbols d.now.form) l.decls
