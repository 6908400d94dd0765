-- Statements one after another.
use Rattle.std.proofs.Common.{◌≡◌, ℕ, ◌+◌, Bool, List, [], ◌∷◌, ◌++◌, length, Option, Some, None, Result, Ok, Err, refl, ap, sym, subst, ◌∙◌, arith}
use Rattle.cas_base.specs.declared.kind.Ty.{Ty}
use Rattle.cas_syntax.specs.Tree as tree
use Rattle.cas_syntax.specs.Tree.{StmtTree, StmtList}
use Rattle.cas_type.specs.Answer.{Fails}
use Rattle.cas_type.specs.Rows.{Adds, StmtWalks, ListWalks, after_list}
use Rattle.cas_type.specs.declared.fault.TypeFault.{TypeFault}
use Rattle.cas_type.proofs.By_parts.{fails_then}
use Rattle.cas_type.proofs.Kept_rows.{AreRows-kept}
use Rattle.cas_type.proofs.Added_rows.{Adds-then, Adds-none, Adds-same}
use Rattle.cas_typed.specs.Faults.{Fault, then_}
use Rattle.cas_typed.specs.Numbered.{size_of, size_of_list, IsPartRow, AreRows}
use Rattle.cas_typed.specs.Resolved.{TypedStmtTree, present, TypedStmtList, no_more, one_more}
use Rattle.cas_typed.specs.Scopes.{Scope, after}
use Rattle.cas_typed.specs.Walk.{walk, walk_list}
use Rattle.cas_typed.specs.declared.rows.StmtRow.{StmtRow}

-- one statement more behind these
abbrev pub extended : TypedStmtList → TypedStmtTree → TypedStmtList
extended no_more a = one_more a no_more
extended (one_more b bs) a = one_more b (extended bs a)

abbrev pub joined : TypedStmtList → TypedStmtList → TypedStmtList
joined no_more cs = cs
joined (one_more b bs) cs = one_more b (joined bs cs)

joined-extended : (bs : TypedStmtList) (a : TypedStmtTree) (cs : TypedStmtList) →
    joined (extended bs a) cs ≡ joined bs (one_more a cs)
joined-extended no_more a cs = refl
joined-extended (one_more b bs) a cs = ap (one_more b) (joined-extended bs a cs)

joined-no_more : (bs : TypedStmtList) → joined bs no_more ≡ bs
joined-no_more no_more = refl
joined-no_more (one_more b bs) = ap (one_more b) (joined-no_more bs)

size-extended : (bs : TypedStmtList) (a : TypedStmtTree) → size_of_list (extended bs a) ≡ size_of_list bs + size_of a
size-extended no_more a = omega arith
size-extended (one_more b bs) a = let rest : size_of_list (extended bs a) ≡ size_of_list bs + size_of a =
    size-extended bs a in omega arith

AreRows-extended : (rows : List StmtRow) (n : ℕ) (bs : TypedStmtList) (ns : List ℕ) (a : TypedStmtTree) (m : ℕ)
    → AreRows rows n bs ns → IsPartRow rows (n + size_of_list bs) (present a) (Some m) →
    AreRows rows n (extended bs a) (ns ++ m ∷ [])
AreRows-extended rows n no_more [] a m h last = let from : m ≡ n + 0 = last.0 in (omega arith, last.1, tt)
AreRows-extended rows n (one_more b bs) (i ∷ is) a m h last =
    let regrouped : n + (size_of b + size_of_list bs) ≡ n + size_of b + size_of_list bs = omega arith in (
      h.0,
      h.1,
      AreRows-extended rows (n + size_of b) bs is a m h.2
          (subst (λ k. IsPartRow rows k (present a) (Some m)) regrouped last),
    )
AreRows-extended rows n no_more (i ∷ is) a m h last = absurd h
AreRows-extended rows n (one_more b bs) [] a m h last = absurd h

-- some statements of a list are walked through, and the rest is to come
pub record Walking (ret : Ty) (l : Bool) (start : Scope) (all : StmtList) (old : List StmtRow) (now : Scope)
    (rest : StmtList) (made : List StmtRow) (ns : List ℕ) : Type 0 where
  pub done : TypedStmtList
  pub walked : walk_list ret l start all ≡ then_ (walk_list ret l now rest) (λ bs. Ok (joined done bs))
  pub rows : AreRows made (length old) done ns
  pub adds : Adds old made (size_of_list done)
  pub scope : after_list start all ≡ after_list now rest

then_joined-no_more : (walked : Result TypedStmtList Fault) → then_ walked (λ bs. Ok (joined no_more bs)) ≡ walked
then_joined-no_more (Ok bs) = refl
then_joined-no_more (Err f) = refl

-- at the beginning
pub Walking-none : (ret : Ty) (l : Bool) (start : Scope) (all : StmtList) (old : List StmtRow) →
    Walking ret l start all old start all old []
Walking-none ret l start all old =
    record {
      done = no_more;
      walked = sym (then_joined-no_more (walk_list ret l start all));
      rows = tt;
      adds =
          Adds-none old;
      scope = refl;
    }

then_joined-extended : (done : TypedStmtList) (a : TypedStmtTree) (walked : Result TypedStmtList Fault)
    → then_ (then_ walked (λ bs. Ok (one_more a bs))) (λ bs. Ok (joined done bs)) ≡ then_ walked
    (λ bs. Ok (joined (extended done a) bs))
then_joined-extended done a (Ok bs) = ap Ok (sym (joined-extended done a bs))
then_joined-extended done a (Err f) = refl

-- one statement more
pub Walking-more : (ret : Ty) (l : Bool) (start : Scope) (all : StmtList) (old : List StmtRow) (now : Scope)
    (x : StmtTree) (rest : StmtList) (made new : List StmtRow) (ns : List ℕ) (m : ℕ)
    → Walking ret l start all old now (tree.one_more x rest) made ns → StmtWalks made new (Ok m) (walk ret l now x)
    → Walking ret l start all old (after now x) rest new (ns ++ m ∷ [])
Walking-more ret l start all old now x rest made new ns m h found =
    let a = found.0 in
    let made_length : length made ≡ length old + size_of_list h.done = h.adds.0 in
    let at_end : length made ≡ length old + size_of_list h.done = made_length in
    let total : size_of_list (extended h.done a) ≡ size_of_list h.done + size_of a = size-extended h.done a in
    let adds : Adds old new (size_of_list h.done + size_of a) =
    Adds-then old made new (size_of_list h.done) (size_of a) h.adds found.3 in
    record {
      done = extended h.done a;
      walked = h.walked
          ∙ ap (λ w. then_ (then_ w (λ b. then_ (walk_list ret l (after now x) rest) (λ bs. Ok (one_more b bs))))
          (λ bs. Ok (joined h.done bs))) found.1
          ∙ then_joined-extended h.done a (walk_list ret l (after now x) rest);
      rows = AreRows-extended new (length old) h.done ns a m
          (AreRows-kept made new (length old) h.done ns
          (Adds-same made new (size_of a) (length old) (length old + size_of_list h.done) found.3 (omega arith))
          h.rows)
          (subst (λ k. IsPartRow new k (present a) (Some m)) at_end found.2);
      adds = subst (λ k. Adds old new k) (sym total) adds;
      scope = h.scope;
    }

-- all statements
pub Walking-all : (ret : Ty) (l : Bool) (start : Scope) (all : StmtList) (old : List StmtRow) (now : Scope)
    (made : List StmtRow) (ns : List ℕ)
    → Walking ret l start all old now tree.no_more made ns → ListWalks old made (Ok ns) (walk_list ret l start all)
Walking-all ret l start all old now made ns h = (h.done, h.walked ∙ ap Ok (joined-no_more h.done), h.rows, h.adds)

-- a fault of the next one
pub Walking-fails : (ret : Ty) (l : Bool) (start : Scope) (all : StmtList) (old : List StmtRow) (now : Scope)
    (x : StmtTree) (rest : StmtList) (made : List StmtRow) (ns : List ℕ) (f : TypeFault)
    → Walking ret l start all old now (tree.one_more x rest) made ns → Fails f (walk ret l now x) →
    Fails f (walk_list ret l start all)
Walking-fails ret l start all old now x rest made ns f h fails =
    subst (λ w. Fails f w) (sym h.walked)
    (fails_then f (walk_list ret l now (tree.one_more x rest)) (λ bs. Ok (joined h.done bs))
    (fails_then f (walk ret l now x) (λ b. then_ (walk_list ret l (after now x) rest) (λ bs. Ok (one_more b bs)))
    fails))
