use Rattle.std.proofs.Common.{◌≡◌, ◌++◌, map, drop}
use Rattle.cas_link.specs.Image_of.{words_in}
use Rattle.cas_link.proofs.image.words_of.Given as goal

abbrev pub invariant-loop-global : goal.invariant-loop-global
invariant-loop-global l = l.words.items ++ words_in (map (λ g. g.now) (drop l.global-index l.globals)) ≡ words_in
    (map (λ g. g.now) l.globals)
