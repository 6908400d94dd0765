use Rattle.std.proofs.Common.{◌≡◌, ◌++◌, length, map}
use Rattle.std.specs.Option.{option_map}
use Rattle.cas_memory.specs.Entities.{entity_of}
use Rattle.cas_typed.specs.Modules.{decls_of_items}
use Rattle.cas_whole.specs.Names.{meant_by}
use Rattle.cas_whole.proofs.items.Names.row.Given as goal

abbrev pub invariant-items : goal.invariant-items
invariant-items l =
    map (option_map entity_of) l.row.items ++ map (meant_by l.self.functions.entries l.self.cells.entries)
    (decls_of_items l.rest)
    ≡ map (meant_by l.self.functions.entries l.self.cells.entries) (decls_of_items l.items)

abbrev pub decreases-items : goal.decreases-items
decreases-items l = length l.rest
