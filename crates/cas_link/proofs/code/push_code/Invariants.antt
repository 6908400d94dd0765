use Rattle.std.proofs.Common.{◌≡◌, ◌++◌, length}
use Rattle.cas_link.specs.Code.{links_by, code_of}
use Rattle.cas_link.proofs.code.push_code.Given as goal

abbrev pub invariant-lines : goal.invariant-lines
invariant-lines l =
    l.code.items ++ code_of (links_by l.tables.addresses l.tables.places l.labels) l.rest
    ≡ l.initial.code.items ++ code_of (links_by l.tables.addresses l.tables.places l.labels) l.lines

abbrev pub decreases-lines : goal.decreases-lines
decreases-lines l = length l.rest
