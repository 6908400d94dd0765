use Rattle.std.proofs.Common.{◌++◌, ◌+◌, map, drop, ap}
use Rattle.std.specs.Str.{bytes_eq}
use Rattle.cas_settle.proofs.LocatedLemmas.{drop-item}
use Rattle.cas_link.specs.Known.{function_rows}
use Rattle.cas_link.proofs.Finding.{found-step}
use Rattle.cas_link.proofs.check.add_functions.Goals as goal

pub loop-fun-preserved : goal.loop-fun-preserved
loop-fun-preserved c =
    let funs = c.args.funs.now in
    let item = c.fun-item.result in
    let rest = drop-item funs c.loop-fun.fun-index item c.loop-fun-test.true c.fun-item.is in
    found-step bytes_eq c.loop-fun.functions c.add.new.self
    (function_rows (map (λ f. f.now) (drop (c.loop-fun.fun-index + 1) funs)))
    (function_rows (map (λ f. f.now) (drop c.loop-fun.fun-index funs)))
    (c.args.functions.now ++ function_rows (map (λ f. f.now) funs))
    (item.now.name, 0)
    c.in_ok-add.ensures
    (ap (λ fs. function_rows (map (λ f. f.now) fs)) rest)
    c.loop-fun.invariant
