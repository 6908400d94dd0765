use Rattle.std.proofs.Common.{◌≡◌, [], ◌++◌, drop}
use Rattle.cas_base.specs.Decl.{definitions}
use Rattle.cas_settle.specs.Settle.{all_decls, first_repeated, names_of, words_of}
use Rattle.cas_settle.specs.Located.{decls_in, located_from, names_in}
use Rattle.cas_settle.proofs.definitions.Definitions.of.Given as goal

abbrev pub invariant-loop-unit : goal.invariant-loop-unit
invariant-loop-unit l = record {
  found : l.found ++ located_from l.unit (words_of (decls_in l.found)) (drop l.unit l.decls-items)
      ≡ located_from 0 0 l.decls-items;
  repeated : first_repeated (names_in l.found) (names_of (definitions (all_decls (drop l.unit l.decls-items))))
      ≡ first_repeated [] (names_of (definitions (all_decls l.decls-items)));
}
