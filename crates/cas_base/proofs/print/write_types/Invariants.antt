use Rattle.std.proofs.Common.{codes, take, ◌++◌}
use Rattle.std.specs.Fmt.{HasWritten, IsPlainFormatter}
use Rattle.std.specs.List.{flat_map}
use Rattle.cas_base.specs.Print.{ty_text}
use Rattle.cas_base.proofs.print.write_types.Given as goal

abbrev pub invariant-loop-ty : goal.invariant-loop-ty
invariant-loop-ty g l =
    IsPlainFormatter l.initial.f → HasWritten g.W.Write.write_str_gives l.initial.f
    (flat_map (λ ty. codes " " ++ ty_text ty) (take l.ty-index l.types)) l.f
