use Rattle.std.proofs.Common.{◌≡◌, ◌+◌, ◌++◌, map, drop}
use Rattle.cas_link.specs.Rows.{FindSame}
use Rattle.cas_link.specs.Parts.{sizes_of}
use Rattle.cas_link.specs.Code.{places_from}
use Rattle.cas_link.proofs.code.add_places.Given as goal

abbrev pub invariant-loop-fun : goal.invariant-loop-fun
invariant-loop-fun l = record {
  found : FindSame (l.places ++ places_from l.at (map (λ f. f.now) (drop l.fun-index l.funs)))
      (l.initial.places ++ places_from l.place (map (λ f. f.now) l.funs));
  counted : l.at + sizes_of (map (λ f. f.now) (drop l.fun-index l.funs)) ≡ l.place + sizes_of (map (λ f. f.now) l.funs);
}
