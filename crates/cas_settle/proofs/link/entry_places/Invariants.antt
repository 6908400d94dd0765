use Rattle.std.proofs.Common.{◌≡◌, ◌++◌, Some, drop, map}
use Rattle.cas_base.specs.Decl.{definition_of}
use Rattle.cas_settle.specs.Settle.{entry_fault, first_fault}
use Rattle.cas_settle.specs.Located.{decls_in, place_in}
use Rattle.cas_settle.proofs.link.entry_places.Given as goal

abbrev pub invariant-loop-name : goal.invariant-loop-name
invariant-loop-name l = record {
  refused : first_fault (λ name. entry_fault name (definition_of (decls_in l.definitions) name))
      (drop l.name-index l.entries)
      ≡ first_fault (λ name. entry_fault name (definition_of (decls_in l.definitions) name)) l.entries;
  places : map (λ place. Some place) l.places.items ++ map (place_in l.definitions) (drop l.name-index l.entries)
      ≡ map (place_in l.definitions) l.entries;
}
