use Rattle.std.proofs.Common.{◌++◌, map, drop}
use Rattle.cas_link.specs.Rows.{FindSame}
use Rattle.cas_link.specs.Known.{data_rows}
use Rattle.cas_link.proofs.check.add_data.Given as goal

abbrev pub invariant-loop-global : goal.invariant-loop-global
invariant-loop-global l =
    FindSame (l.cells ++ data_rows (map (λ g. g.now) (drop l.global-index l.globals)))
    (l.initial.cells ++ data_rows (map (λ g. g.now) l.globals))
