use Rattle.cas_typed.specs.Modules.{decls_of_items}
use Rattle.std.proofs.Common.{◌≡◌, ◌<◌, ◌∷◌, [], ◌++◌, List, length}
use Rattle.cas_base.specs.declared.decl.Decl.{Decl}
use Rattle.cas_whole.proofs.roster.add_items.Given as goal

abbrev pub invariant-items : goal.invariant-items
invariant-items l = record {
  some : 0 < length l.units;
  added : (front : List (List Decl)) (unit : List Decl) → l.initial.units ≡ front ++ unit ∷ [] → (made : List Decl)
      × (l.units ≡ front ++ (unit ++ made) ∷ []) × (made ++ decls_of_items l.rest ≡ decls_of_items l.items);
}

abbrev pub decreases-items : goal.decreases-items
decreases-items l = length l.rest
