use Rattle.std.proofs.Common.{◌≡◌, drop}
use Rattle.cas_object_decl.specs.Chain.{all_of}
use Rattle.cas_object_decl.specs.Data.{word_at}
use Rattle.cas_object_decl.proofs.Chains.{behind}
use Rattle.cas_object_decl.proofs.data.words_of.Given as goal

abbrev pub invariant-loop-field : goal.invariant-loop-field
invariant-loop-field l = behind l.words.items (all_of word_at (drop l.field-index l.fields)) ≡ all_of word_at l.fields
