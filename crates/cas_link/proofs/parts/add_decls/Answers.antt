use Rattle.std.proofs.Common.{List, [], ◌∷◌, ◌++◌, sym, ap, ◌∙◌, append_assoc, arith}
use Rattle.cas_base.specs.declared.decl.Decl.{Decl}
use Rattle.cas_link.proofs.Rosters.{made_more}
use Rattle.cas_link.proofs.parts.add_decls.Goals as goal

pub decls-preserved : goal.decls-preserved
decls-preserved c =
    let others = c.in-Some.others.now in
    let whole = c.in-Some.ensures.cases.0 in
    let decl = c.in-Some.decl.now in
    record {
      some = omega (arith, c.decls.invariant.some, c.in_ok-add.ensures.count);
      added = λ front unit begins.
          let (made, is, so_far) = c.decls.invariant.added front unit begins in (
            made ++ decl ∷ [],
            made_more c.decls.units c.add.new.self front unit made decl is c.in_ok-add.ensures.added,
            append_assoc made (decl ∷ []) others
                ∙ ap (λ (xs : List Decl). made ++ xs) (sym whole)
                ∙ so_far,
          );
    }
