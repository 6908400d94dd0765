use Rattle.std.proofs.Common.{◌≡◌, None, length}
use Rattle.cas_command.specs.Words.{parts_of}
use Rattle.cas_command.specs.Parts.{followed_by, text_of}
use Rattle.cas_command.proofs.parts.parts_of.Given as goal

abbrev pub invariant-each : goal.invariant-each
invariant-each l = followed_by l.parts (parts_of (text_of l.waiting) l.rest) ≡ parts_of None l.words

abbrev pub decreases-each : goal.decreases-each
decreases-each l = length l.rest
