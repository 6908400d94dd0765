use Rattle.std.proofs.Common.{◌≡◌, drop}
use Rattle.cas_object_decl.specs.Chain.{all_of}
use Rattle.cas_object_decl.specs.Heads.{name_at}
use Rattle.cas_object_decl.proofs.Chains.{behind}
use Rattle.cas_object_decl.proofs.head.names_of.Given as goal

abbrev pub invariant-loop-field : goal.invariant-loop-field
invariant-loop-field l = behind l.names.items (all_of name_at (drop l.field-index l.fields)) ≡ all_of name_at l.fields
