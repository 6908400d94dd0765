use Rattle.std.proofs.Common.{◌≡◌, ◌++◌, length}
use Rattle.std.specs.List.{flat_map}
use Rattle.cas_whole.proofs.Words_of.{words_in}
use Rattle.cas_whole.proofs.words.initial_words.Given as goal

abbrev pub invariant-modules : goal.invariant-modules
invariant-modules l = l.words.items ++ flat_map words_in l.rest ≡ flat_map words_in l.program.modules

abbrev pub decreases-modules : goal.decreases-modules
decreases-modules l = length l.rest
