use Rattle.std.proofs.Common.{◌≡◌, ◌++◌, length, map}
use Rattle.std.specs.Option.{option_map}
use Rattle.cas_memory.specs.Entities.{entity_of}
use Rattle.cas_whole.specs.Names.{units_in, meant_by}
use Rattle.cas_whole.proofs.items.Names.rows.Given as goal

abbrev pub invariant-modules : goal.invariant-modules
invariant-modules l =
    map (map (option_map entity_of)) l.rows.items ++ map (map (meant_by l.self.functions.entries l.self.cells.entries))
    (units_in l.rest)
    ≡ map (map (meant_by l.self.functions.entries l.self.cells.entries)) (units_in l.modules)

abbrev pub decreases-modules : goal.decreases-modules
decreases-modules l = length l.rest
