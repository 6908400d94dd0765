use Rattle.std.proofs.Common.{◌≡◌, drop}
use Rattle.cas_object_decl.specs.Chain.{all_of}
use Rattle.cas_object_decl.specs.Types.{param_type}
use Rattle.cas_object_decl.proofs.Chains.{behind}
use Rattle.cas_object_decl.proofs.head.types_of.Given as goal

abbrev pub invariant-loop-field : goal.invariant-loop-field
invariant-loop-field l = behind l.types.items (all_of param_type (drop l.field-index l.fields))
    ≡ all_of param_type l.fields
