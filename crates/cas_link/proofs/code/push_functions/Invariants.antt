use Rattle.std.proofs.Common.{◌≡◌, ◌+◌, ◌++◌, map, drop}
use Rattle.cas_link.specs.Parts.{sizes_of}
use Rattle.cas_link.specs.Code.{code_from}
use Rattle.cas_link.proofs.code.push_functions.Given as goal

abbrev pub invariant-loop-fun : goal.invariant-loop-fun
invariant-loop-fun l = record {
  pushed : l.code.items ++ code_from l.tables.addresses l.tables.places l.at
      (map (λ f. f.now) (drop l.fun-index l.funs))
      ≡ l.initial.code.items ++ code_from l.tables.addresses l.tables.places l.place (map (λ f. f.now) l.funs);
  counted : l.at + sizes_of (map (λ f. f.now) (drop l.fun-index l.funs)) ≡ l.place + sizes_of (map (λ f. f.now) l.funs);
}
