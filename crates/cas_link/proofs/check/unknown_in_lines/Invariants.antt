use Rattle.std.proofs.Common.{◌≡◌, is_some, length}
use Rattle.cas_link.specs.Rows.{found}
use Rattle.cas_link.specs.Refusal.{unknown_in_lines}
use Rattle.cas_link.proofs.check.unknown_in_lines.Given as goal

abbrev pub invariant-lines : goal.invariant-lines
invariant-lines l =
    unknown_in_lines (λ name. is_some (found l.cells name)) (λ name. is_some (found l.functions name)) l.rest
    ≡ unknown_in_lines (λ name. is_some (found l.cells name)) (λ name. is_some (found l.functions name)) l.lines

abbrev pub decreases-lines : goal.decreases-lines
decreases-lines l = length l.rest
