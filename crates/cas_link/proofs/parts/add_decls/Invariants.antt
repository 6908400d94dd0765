use Rattle.std.proofs.Common.{◌≡◌, ◌<◌, ◌∷◌, [], ◌++◌, List, length}
use Rattle.cas_base.specs.declared.decl.Decl.{Decl}
use Rattle.cas_link.proofs.parts.add_decls.Given as goal

abbrev pub invariant-decls : goal.invariant-decls
invariant-decls l = record {
  some : 0 < length l.units;
  added : (front : List (List Decl)) (unit : List Decl) → l.initial.units ≡ front ++ unit ∷ [] → (made : List Decl)
      × (l.units ≡ front ++ (unit ++ made) ∷ []) × (made ++ l.rest ≡ l.decls);
}

abbrev pub decreases-decls : goal.decreases-decls
decreases-decls l = length l.rest
