use Rattle.std.proofs.Common.{◌≡◌, map}
use Rattle.cas_object_decl.specs.Fields.{field_of}
use Rattle.cas_object_decl.proofs.field.fields.Given as goal

abbrev pub invariant-loop-part : goal.invariant-loop-part
invariant-loop-part l = l.found.items ≡ map (λ part. field_of part.now) l.yielded
