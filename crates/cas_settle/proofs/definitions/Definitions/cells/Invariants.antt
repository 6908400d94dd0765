use Rattle.std.proofs.Common.{◌≡◌, ◌++◌, map}
use Rattle.std.specs.List.{filter_map}
use Rattle.cas_settle.specs.Settle.{cell_of}
use Rattle.cas_settle.specs.Located.{cells_in, located, lock_word_in}
use Rattle.cas_settle.proofs.definitions.Definitions.cells.Given as goal

abbrev pub invariant-loop-definition : goal.invariant-loop-definition
invariant-loop-definition l =
    l.cells.items ++ filter_map (λ item. cell_of (lock_word_in l.self) item.word item.decl.name item.decl.form)
    (map located l.definition-iterator)
    ≡ cells_in l.self
