use Rattle.std.proofs.Common.{◌≡◌, ◌+◌, ◌-◌, ◌^◌, ◌≤◌, min, map, drop}
use Rattle.cas_link.specs.Parts.{sizes_of}
use Rattle.cas_link.proofs.parts.sizes_after.Given as goal

abbrev pub invariant-loop-fun : goal.invariant-loop-fun
invariant-loop-fun l = record {
  bound : l.sizes ≤ 2 ^ 64 - 1;
  counted : min (l.sizes + sizes_of (map (λ f. f.now) (drop l.fun-index l.funs))) (2 ^ 64 - 1)
      ≡ min (l.before + sizes_of (map (λ f. f.now) l.funs)) (2 ^ 64 - 1);
}
