-- `for`, from what is found of its parts.
use Rattle.std.proofs.Common.{◌≡◌, ℕ, ◌+◌, Bool, true, List, [], ◌∷◌, ◌++◌, length, set, Option, Result, Ok, ◌∙◌}
use Rattle.cas_base.specs.declared.kind.Ty.{Ty}
use Rattle.cas_base.specs.declared.place.Place.{Place}
use Rattle.cas_syntax.specs.Tree as tree
use Rattle.cas_syntax.specs.Tree.{ExprTree, StmtTree, StmtOption}
use Rattle.cas_type.specs.Rows.{StmtWalks, PartWalks}
use Rattle.cas_type.proofs.Added_rows.{for_row}
use Rattle.cas_type.proofs.Parts.{then_found}
use Rattle.cas_typed.specs.Faults.{Fault, then_}
use Rattle.cas_typed.specs.Numbered.{optional_expr_tree}
use Rattle.cas_typed.specs.Resolved.{TypedExprTree, TypedStmtTree, for_, TypedStmtOption}
use Rattle.cas_typed.specs.Scopes.{Scope, inside, past_option, after_option}
use Rattle.cas_typed.specs.Walk.{walk, walk_part, walk_optional}
use Rattle.cas_typed.specs.declared.rows.StmtRow.{StmtRow}
use Rattle.cas_typed.specs.declared.rows.StmtRowForm.{StmtRowForm}
use Rattle.cas_typed.specs.declared.rows.StmtRowForm.TheVariants as row
use Rattle.cas_typed.specs.declared.tree.TypedExpr.{TypedExpr}

-- what is walked in a `for` after its first part, its condition, and its part after each turn

abbrev ends : (ret : Ty) (p : Place) (within : Scope) (u : StmtOption) (b : StmtTree) → TypedStmtOption →
    Option TypedExprTree → TypedStmtOption → Result TypedStmtTree Fault
ends ret p s u b i' c' u' = then_ (walk ret true (past_option s u) b) (λ a'. Ok (for_ p i' c' u' a'))

abbrev goes_on : (ret : Ty) (l : Bool) (p : Place) (within : Scope) (u : StmtOption) (b : StmtTree) → TypedStmtOption →
    Option TypedExprTree → Result TypedStmtTree Fault
goes_on ret l p s u b i' c' = then_ (walk_part ret l s u) (ends ret p s u b i' c')

abbrev begins_with : (ret : Ty) (l : Bool) (p : Place) (within : Scope) (x : Option ExprTree) (u : StmtOption)
    (b : StmtTree) → TypedStmtOption → Result TypedStmtTree Fault
begins_with ret l p s x u b i' = then_ (walk_optional s p x) (goes_on ret l p s u b i')

pub for_walks : (ret : Ty) (l : Bool) (s : Scope) (p : Place) (i : StmtOption) (x : Option ExprTree) (u : StmtOption)
    (b : StmtTree) (old begun first second made new : List StmtRow)
    (n k : ℕ) (h j : Option ℕ) (begins : StmtRowForm) (c : Option TypedExpr)
    → n ≡ length old → begun ≡ old ++ record { place = p; form = begins } ∷ []
    → PartWalks begun first (Ok h) (walk_part ret l (inside s) i) →
    walk_optional (after_option (inside s) i) p x ≡ Ok (optional_expr_tree c)
    → PartWalks first second (Ok j) (walk_part ret l (after_option (inside s) i) u)
    → StmtWalks second made (Ok k) (walk ret true (past_option (after_option (inside s) i) u) b)
    → new ≡ set made n (record { place = p; form = row.For h c j k }) →
    StmtWalks old new (Ok n) (walk ret l s (tree.for_ p i x u b))
for_walks ret l s p i x u b old begun first second made new n k h j begins c number is begin test next body becomes =
    let within = after_option (inside s) i in
    let stands = for_row old begun first second made new n k h j p begins c begin.0 next.0 body.0 number is begin.2
    begin.3 next.2 next.3 body.2 body.3 becomes in (
      for_ p begin.0 (optional_expr_tree c) next.0 body.0,
      then_found (walk_part ret l (inside s) i) begin.0 (begins_with ret l p within x u b) begin.1
          ∙ then_found (walk_optional within p x) (optional_expr_tree c) (goes_on ret l p within u b begin.0) test
          ∙ then_found (walk_part ret l within u) next.0 (ends ret p within u b begin.0 (optional_expr_tree c)) next.1
          ∙ then_found (walk ret true (past_option within u) b) body.0
          (λ a'. Ok (for_ p begin.0 (optional_expr_tree c) next.0 a')) body.1,
      stands.0,
      stands.1,
    )
