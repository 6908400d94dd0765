use Rattle.std.proofs.Common.{◌≡◌, drop}
use Rattle.cas_command.specs.Parts.{texts}
use Rattle.cas_top.proofs.One_by_one.{ReadsOn}
use Rattle.cas_top.proofs.reading.fetch_all.Given as goal

abbrev pub invariant-loop-name : goal.invariant-loop-name
invariant-loop-name g l = record {
  same : g.S.Shelf.texts l.shelf ≡ g.S.Shelf.texts l.fn.shelf;
  kept : g.S.Shelf.failed l.shelf ≡ g.S.Shelf.failed l.fn.shelf;
  on : ReadsOn (g.S.Shelf.texts l.fn.shelf) (texts l.names) l.sources.items (texts (drop l.name-index l.names));
}
