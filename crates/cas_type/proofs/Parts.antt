-- Statements with parts, from what is found of their parts.
use Rattle.std.proofs.Common.{◌≡◌, ℕ, ◌+◌, Bool, true, List, [], ◌∷◌, ◌++◌, length, set, Option, Some, None, Result, Ok, ap, ◌∙◌}
use Rattle.cas_base.specs.declared.kind.Ty.{Ty}
use Rattle.cas_base.specs.declared.place.Place.{Place}
use Rattle.cas_syntax.specs.Tree as tree
use Rattle.cas_syntax.specs.Tree.{ExprTree, StmtTree, StmtOption, StmtList}
use Rattle.cas_type.specs.Rows.{StmtWalks, PartWalks, ListWalks}
use Rattle.cas_type.proofs.Added_rows.{Adds-none, while_row, do_row, block_row, if_row}
use Rattle.cas_typed.specs.Faults.{Fault, then_}
use Rattle.cas_typed.specs.Resolved.{typed_expr_tree, block, if_, while_, do_, absent, present}
use Rattle.cas_typed.specs.Scopes.{Scope, inside, past}
use Rattle.cas_typed.specs.Walk.{walk, walk_part, walk_list, walk_test}
use Rattle.cas_typed.specs.declared.rows.StmtRow.{StmtRow}
use Rattle.cas_typed.specs.declared.rows.StmtRowForm.{StmtRowForm}
use Rattle.cas_typed.specs.declared.rows.StmtRowForm.TheVariants as row
use Rattle.cas_typed.specs.declared.tree.TypedExpr.{TypedExpr}

-- what comes next, with what was found
pub then_found : {A B : Type 0} (walked : Result A Fault) (a : A) (next : A → Result B Fault) → walked ≡ Ok a →
    then_ walked next ≡ next a
then_found walked a next is = ap (λ w. then_ w next) is

-- a block

pub block_walks : (ret : Ty) (l : Bool) (s : Scope) (p : Place) (bs : StmtList) (old begun made new : List StmtRow)
    (n : ℕ) (ns : List ℕ) (begins : StmtRowForm)
    → n ≡ length old → begun ≡ old ++ record { place = p; form = begins } ∷ [] →
    ListWalks begun made (Ok ns) (walk_list ret l (inside s) bs)
    → new ≡ set made n (record { place = p; form = row.Block ns }) →
    StmtWalks old new (Ok n) (walk ret l s (tree.block p bs))
block_walks ret l s p bs old begun made new n ns begins number is parts becomes =
    let stands = block_row old begun made new n ns p begins parts.0 number is parts.2 parts.3 becomes in (
      block p parts.0,
      then_found (walk_list ret l (inside s) bs) parts.0 (λ rs. Ok (block p rs))
          parts.1,
      stands.0,
      stands.1,
    )

-- `while`

pub while_walks : (ret : Ty) (l : Bool) (s : Scope) (p : Place) (x : ExprTree) (b : StmtTree)
    (old begun made new : List StmtRow) (n i : ℕ) (begins : StmtRowForm) (c : TypedExpr)
    → walk_test s p x ≡ Ok (typed_expr_tree c) → n ≡ length old →
    begun ≡ old ++ record { place = p; form = begins } ∷ []
    → StmtWalks begun made (Ok i) (walk ret true s b) → new ≡ set made n (record { place = p; form = row.While c i })
    → StmtWalks old new (Ok n) (walk ret l s (tree.while_ p x b))
while_walks ret l s p x b old begun made new n i begins c test number is part becomes =
    let stands = while_row old begun made new n i p begins c part.0 number is part.2 part.3 becomes in (
      while_ p (typed_expr_tree c) part.0,
      then_found (walk_test s p x) (typed_expr_tree c) (λ c'. then_ (walk ret true s b) (λ a'. Ok (while_ p c' a')))
          test
          ∙ then_found (walk ret true s b) part.0 (λ a'. Ok (while_ p (typed_expr_tree c) a')) part.1,
      stands.0,
      stands.1,
    )

-- `do`

pub do_walks : (ret : Ty) (l : Bool) (s : Scope) (p : Place) (b : StmtTree) (x : ExprTree)
    (old begun made new : List StmtRow) (n i : ℕ) (begins : StmtRowForm) (c : TypedExpr)
    → n ≡ length old → begun ≡ old ++ record { place = p; form = begins } ∷ []
    → StmtWalks begun made (Ok i) (walk ret true s b) → walk_test s p x ≡ Ok (typed_expr_tree c) →
    new ≡ set made n (record { place = p; form = row.Do i c })
    → StmtWalks old new (Ok n) (walk ret l s (tree.do_ p b x))
do_walks ret l s p b x old begun made new n i begins c number is part test becomes =
    let stands = do_row old begun made new n i p begins c part.0 number is part.2 part.3 becomes in (
      do_ p part.0 (typed_expr_tree c),
      then_found (walk ret true s b) part.0 (λ a'. then_ (walk_test s p x) (λ c'. Ok (do_ p a' c'))) part.1
          ∙ then_found (walk_test s p x) (typed_expr_tree c) (λ c'. Ok (do_ p part.0 c')) test,
      stands.0,
      stands.1,
    )

-- `if`

pub if_walks : (ret : Ty) (l : Bool) (s : Scope) (p : Place) (x : ExprTree) (b : StmtTree) (d : StmtOption)
    (old begun middle made new : List StmtRow) (n i : ℕ) (j : Option ℕ) (begins : StmtRowForm) (c : TypedExpr)
    → walk_test s p x ≡ Ok (typed_expr_tree c) → n ≡ length old →
    begun ≡ old ++ record { place = p; form = begins } ∷ []
    → StmtWalks begun middle (Ok i) (walk ret l s b) → PartWalks middle made (Ok j) (walk_part ret l (past s b) d)
    → new ≡ set made n (record { place = p; form = row.If c i j }) →
    StmtWalks old new (Ok n) (walk ret l s (tree.if_ p x b d))
if_walks ret l s p x b d old begun middle made new n i j begins c test number is first second becomes =
    let stands = if_row old begun middle made new n i j p begins c first.0 second.0 number is first.2 first.3 second.2
    second.3 becomes in (
      if_ p (typed_expr_tree c) first.0 second.0,
      then_found (walk_test s p x) (typed_expr_tree c)
          (λ c'. then_ (walk ret l s b) (λ a'. then_ (walk_part ret l (past s b) d) (λ o'. Ok (if_ p c' a' o')))) test
          ∙ then_found (walk ret l s b) first.0 (λ a'. then_ (walk_part ret l (past s b) d)
          (λ o'. Ok (if_ p (typed_expr_tree c) a' o'))) first.1
          ∙ then_found (walk_part ret l (past s b) d) second.0 (λ o'. Ok (if_ p (typed_expr_tree c) first.0 o'))
          second.1,
      stands.0,
      stands.1,
    )

-- parts that may be missing

pub part_present : (ret : Ty) (l : Bool) (s : Scope) (b : StmtTree) (d : StmtOption) (old new : List StmtRow) (n : ℕ)
    → d ≡ tree.present b → StmtWalks old new (Ok n) (walk ret l s b) →
    PartWalks old new (Ok (Some n)) (walk_part ret l s d)
part_present ret l s b d old new n is part = (
  present part.0,
  ap (walk_part ret l s) is ∙ then_found (walk ret l s b) part.0 (λ a'. Ok (present a'))
      part.1,
  part.2,
  part.3,
)

pub part_absent : (ret : Ty) (l : Bool) (s : Scope) (d : StmtOption) (rows : List StmtRow) → d ≡ tree.absent →
    PartWalks rows rows (Ok None) (walk_part ret l s d)
part_absent ret l s d rows is = (absent, ap (walk_part ret l s) is, tt, Adds-none rows)
