use Rattle.std.proofs.Common.{◌++◌, ◌+◌, ◌∷◌, map, drop, ap, sym, ◌∙◌, arith}
use Rattle.std.specs.Str.{bytes_eq}
use Rattle.cas_settle.proofs.LocatedLemmas.{drop-item}
use Rattle.cas_link.specs.Parts.{sizes_of}
use Rattle.cas_link.specs.Code.{places_from}
use Rattle.cas_link.proofs.Finding.{found-step}
use Rattle.cas_link.proofs.code.add_places.Goals as goal

pub loop-fun-preserved : goal.loop-fun-preserved
loop-fun-preserved c =
    let funs = c.args.funs.now in
    let item = c.fun-item.result in
    let later = map (λ f. f.now) (drop (c.loop-fun.fun-index + 1) funs) in
    let rest = drop-item funs c.loop-fun.fun-index item c.loop-fun-test.true c.fun-item.is in
    record {
      found = found-step bytes_eq c.loop-fun.places c.add.new.self
          (places_from (c.loop-fun.at + c.size_of.result) later)
          (places_from c.loop-fun.at (map (λ f. f.now) (drop c.loop-fun.fun-index funs)))
          (c.args.places.now ++ places_from c.args.place (map (λ f. f.now) funs))
          (item.now.name, c.loop-fun.at)
          c.in_ok-add.ensures
          (ap (λ fs. places_from c.loop-fun.at (map (λ f. f.now) fs)) rest
          ∙ ap (λ size. (item.now.name, c.loop-fun.at) ∷ places_from (c.loop-fun.at + size) later)
          (sym c.size_of.ensures))
          c.loop-fun.invariant.found;
      counted =
          omega (
            arith,
            c.loop-fun.invariant.counted,
            c.size_of.ensures,
            ap (λ fs. sizes_of (map (λ f. f.now) fs))
                rest,
          );
    }
