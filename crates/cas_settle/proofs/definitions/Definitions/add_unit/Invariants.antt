use Rattle.std.proofs.Common.{◌≡◌, ◌+◌, ◌++◌, length, drop}
use Rattle.cas_base.specs.Decl.{definitions, functions_of}
use Rattle.cas_settle.specs.Settle.{first_repeated, names_of, words_of}
use Rattle.cas_settle.specs.Located.{decls_in, located_in, names_in}
use Rattle.cas_settle.proofs.definitions.Definitions.add_unit.Given as goal

abbrev pub invariant-loop-decl : goal.invariant-loop-decl
invariant-loop-decl l = record {
  found : l.self ++ located_in l.unit l.place (words_of (decls_in l.self)) (drop l.decl-index l.decls)
      ≡ l.initial.self ++ located_in l.unit 0 (words_of (decls_in l.initial.self)) l.decls;
  repeated : first_repeated (names_in l.self) (names_of (definitions (drop l.decl-index l.decls)))
      ≡ first_repeated (names_in l.initial.self) (names_of (definitions l.decls));
  counted : l.place + length (functions_of (drop l.decl-index l.decls)) ≡ length (functions_of l.decls);
}
