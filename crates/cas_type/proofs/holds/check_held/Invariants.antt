use Rattle.std.proofs.Common.{◌≡◌, drop, map}
use Rattle.cas_type.specs.Parts.{ident_of}
use Rattle.cas_typed.specs.Modules.{undeclared_in}
use Rattle.cas_type.proofs.holds.check_held.Given as goal

abbrev pub invariant-loop-named : goal.invariant-loop-named
invariant-loop-named l = undeclared_in l.symbols (map ident_of (drop l.named-index l.names)) ≡ undeclared_in l.symbols
    (map ident_of l.names)
