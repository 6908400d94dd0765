use Rattle.std.proofs.Common.{◌++◌, ◌+◌, map, drop, ap}
use Rattle.std.specs.Str.{bytes_eq}
use Rattle.cas_settle.proofs.LocatedLemmas.{drop-item}
use Rattle.cas_link.specs.Known.{data_rows}
use Rattle.cas_link.proofs.Finding.{found-step}
use Rattle.cas_link.proofs.check.add_data.Goals as goal

pub loop-global-preserved : goal.loop-global-preserved
loop-global-preserved c =
    let globals = c.args.globals.now in
    let item = c.global-item.result in
    let rest = drop-item globals c.loop-global.global-index item c.loop-global-test.true c.global-item.is in
    found-step bytes_eq c.loop-global.cells c.add.new.self
    (data_rows (map (λ g. g.now) (drop (c.loop-global.global-index + 1) globals)))
    (data_rows (map (λ g. g.now) (drop c.loop-global.global-index globals)))
    (c.args.cells.now ++ data_rows (map (λ g. g.now) globals))
    (item.now.decl.name, 0)
    c.in_ok-add.ensures
    (ap (λ gs. data_rows (map (λ g. g.now) gs)) rest)
    c.loop-global.invariant
