use Rattle.std.proofs.Common.{◌≡◌, ◌++◌, take}
use Rattle.cas_command.proofs.parts.Parts.add_names.Given as goal

abbrev pub invariant-loop-word : goal.invariant-loop-word
invariant-loop-word l =
    l.self ≡ record { names = l.initial.self.names ++ take l.word-index l.words; options = l.initial.self.options }
