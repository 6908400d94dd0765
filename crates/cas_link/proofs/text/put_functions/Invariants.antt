use Rattle.std.proofs.Common.{◌≡◌, ◌+◌, ◌++◌, map, drop}
use Rattle.std.specs.Prelude.{string_bytes}
use Rattle.cas_link.specs.Parts.{sizes_of}
use Rattle.cas_link.specs.Map.{function_lines}
use Rattle.cas_link.proofs.text.put_functions.Given as goal

abbrev pub invariant-loop-fun : goal.invariant-loop-fun
invariant-loop-fun l = record {
  put : string_bytes l.text ++ function_lines l.at (map (λ f. f.now) (drop l.fun-index l.funs))
      ≡ string_bytes l.initial.text ++ function_lines l.place (map (λ f. f.now) l.funs);
  counted : l.at + sizes_of (map (λ f. f.now) (drop l.fun-index l.funs)) ≡ l.place + sizes_of (map (λ f. f.now) l.funs);
}
