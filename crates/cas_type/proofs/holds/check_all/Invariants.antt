use Rattle.std.proofs.Common.{◌≡◌, drop, map}
use Rattle.cas_type.specs.Parts.{ident_of}
use Rattle.cas_typed.specs.Modules.{repeated}
use Rattle.cas_type.proofs.holds.check_all.Given as goal

abbrev pub invariant-loop-named : goal.invariant-loop-named
invariant-loop-named l = repeated l.seen (map ident_of (drop l.named-index l.names)) ≡ repeated l.initial.seen
    (map ident_of l.names)
