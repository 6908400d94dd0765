use Rattle.std.proofs.Common.{◌≡◌, ◌+◌, ◌-◌, ◌^◌, min, map, sym, ap, ◌∙◌, arith}
use Rattle.std.proofs.lemmas.List.{drop_all}
use Rattle.cas_link.specs.Parts.{sizes_of}
use Rattle.cas_link.proofs.parts.sizes_after.Goals as goal

pub returns : goal.returns
returns c =
    let over = drop_all c.loop-fun.fun-index c.args.funs.now c.loop-fun-test.false in
    let whole : min (c.loop-fun.sizes + 0) (2 ^ 64 - 1) ≡ c.loop-fun.sizes =
    omega (arith, c.loop-fun.invariant.bound) in
    sym whole
    ∙ ap (λ funs. min (c.loop-fun.sizes + sizes_of (map (λ f. f.now) funs)) (2 ^ 64 - 1)) (sym over)
    ∙ c.loop-fun.invariant.counted
