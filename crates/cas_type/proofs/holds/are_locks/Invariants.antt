use Rattle.std.proofs.Common.{◌≡◌, drop, map}
use Rattle.cas_type.specs.Parts.{ident_of}
use Rattle.cas_typed.specs.Modules.{are_locks}
use Rattle.cas_type.proofs.holds.are_locks.Given as goal

abbrev pub invariant-loop-named : goal.invariant-loop-named
invariant-loop-named l = are_locks l.symbols (map ident_of (drop l.named-index l.names)) ≡ are_locks l.symbols
    (map ident_of l.names)
