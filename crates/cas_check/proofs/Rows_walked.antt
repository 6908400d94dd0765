-- The walk in the code, one step after another.
use Rattle.std.proofs.Common.{◌≡◌, ◌<◌, ℕ, ◌+◌, List, ◌∷◌, Option, Some, Result, Ok, Err, ap, sym, subst, ◌∙◌, drop, length, get_or, add-one}
use Rattle.std.specs.Prelude.{⊤, IsErrAnd, slice_get}
use Rattle.std.proofs.lemmas.Option.{slice_get-get_or}
use Rattle.std.proofs.Math.Seq.{drop-cons}
use Rattle.cas_base.specs.declared.decl.Decl.{Decl}
use Rattle.cas_base.specs.declared.place.Place.{Place}
use Rattle.cas_own.specs.Flow as f
use Rattle.cas_own.specs.Flow.{Flow, on, flow, flow_all}
use Rattle.cas_own.specs.Locks.{Locks}
use Rattle.cas_check.proofs.Parts_within.{row_within}
use Rattle.cas_check.specs.View.{Halts, IsTable, PartsAreWithin, Passes, Walked}
use Rattle.cas_check.specs.declared.flow.Halt.{Halt}
use Rattle.cas_check.specs.declared.flow.Onward.{Onward}
use Rattle.cas_typed.specs.declared.rows.StmtRow.{StmtRow}
use Rattle.cas_typed.specs.declared.rows.StmtRowForm.TheVariants as row
use Rattle.cas_typed.specs.declared.tree.TypedExpr.{TypedExpr}
use Rattle.cas_typed.specs.Numbered.{size_of, size_of_option, At, IsRow, IsPartRow, AreRows, optional_expr_tree}
use Rattle.cas_typed.specs.Resolved.{typed_expr_tree, TypedStmtTree, while_, do_, for_, TypedStmtOption, TypedStmtList, no_more, one_more}

-- a fault that is passed on

pub walked_err : (s : Locks) (result : Result Onward Halt) (e : Halt) (flow middle : Flow) →
    IsErrAnd result (λ g. g ≡ e) → flow ≡ middle → Halts e middle → Walked s result flow
walked_err s (Ok o) e flow middle passed is h = absurd passed
walked_err s (Err g) e flow middle passed is h = subst (λ (x : Halt). Halts x flow) (sym passed)
    (subst (Halts e) (sym is) h)

pub passes_err : (result : Result ⊤ Halt) (next : Flow) (e : Halt) (flow middle : Flow) → IsErrAnd result (λ g. g ≡ e) →
    flow ≡ middle → Halts e middle → Passes result next flow
passes_err (Ok u) next e flow middle passed is h = absurd passed
passes_err (Err g) next e flow middle passed is h = subst (λ (x : Halt). Halts x flow) (sym passed)
    (subst (Halts e) (sym is) h)

pub passes_on : (result : Result ⊤ Halt) (next flow middle : Flow) → flow ≡ middle → Passes result next middle →
    Passes result next flow
passes_on result next flow middle is h = subst (Passes result next) (sym is) h

-- loops, by their rows

pub while_is : (rows : List StmtRow) (n : ℕ) (q : Place) (c : TypedExpr) (i : ℕ) (a : TypedStmtTree) →
    IsRow rows n a q (row.While c i)
    → (b : TypedStmtTree) × (a ≡ while_ q (typed_expr_tree c) b) × At rows i (IsRow rows i b)
while_is rows n q c i (while_ p d b) h =
    (b, (let place = sym h.0 in let test = sym h.1 in λ j. while_ (place j) (test j) b), h.3)
while_is rows n q c i _ h = absurd h

pub do_is : (rows : List StmtRow) (n : ℕ) (q : Place) (c : TypedExpr) (i : ℕ) (a : TypedStmtTree) →
    IsRow rows n a q (row.Do i c)
    → (b : TypedStmtTree) × (a ≡ do_ q b (typed_expr_tree c)) × At rows i (IsRow rows i b)
do_is rows n q c i (do_ p b d) h =
    (b, (let place = sym h.0 in let test = sym h.3 in λ j. do_ (place j) b (test j)), h.2)
do_is rows n q c i _ h = absurd h

pub for_is : (rows : List StmtRow) (n : ℕ) (q : Place) (i : Option ℕ) (c : Option TypedExpr) (j : Option ℕ) (k : ℕ)
    (a : TypedStmtTree) → IsRow rows n a q (row.For i c j k)
    → (first : TypedStmtOption) × (u : TypedStmtOption) × (b : TypedStmtTree)
    × (a ≡ for_ q first (optional_expr_tree c) u b)
    × IsPartRow rows (n + 1) first i × IsPartRow rows (n + 1 + size_of_option first) u j × At rows k (IsRow rows k b)
for_is rows n q i c j k (for_ p first d u b) h =
    (first, u, b, (let place = sym h.0 in let test = sym h.2 in λ x. for_ (place x) first (test x) u b), h.1, h.3, h.5)
for_is rows n q i c j k _ h = absurd h

-- one statement more

front : (rows : List StmtRow) (ds : List Decl) (own : Locks) (h : Option f.Head) (k n : ℕ) (ns : List ℕ)
    (rest : TypedStmtList) (s : Locks) (o : Option Locks) → AreRows rows k rest (n ∷ ns)
    → ((a : TypedStmtTree) → At rows n (IsRow rows n a) → flow ds own h a s ≡ on o)
    → (m : ℕ) × (left : TypedStmtList) × AreRows rows m left ns
    × (flow_all ds own h rest (Some s) ≡ flow_all ds own h left o)
front rows ds own h k n ns no_more s o are is = absurd are
front rows ds own h k n ns (one_more a bs) s o are is =
    (k + size_of a, bs, are.2, ap (λ (g : Flow). f.after g (flow_all ds own h bs)) (is a are.1))

pub one_further : (rows : List StmtRow) (ds : List Decl) (own : Locks) (h : Option f.Head) (parts : List ℕ)
    (index k : ℕ) (rest : TypedStmtList) (s : Locks) (o : Option Locks) → index < length parts
    → AreRows rows k rest (drop index parts)
    → ((a : TypedStmtTree) → At rows (get_or parts index 0) (IsRow rows (get_or parts index 0) a) →
    flow ds own h a s ≡ on o)
    → (m : ℕ) × (left : TypedStmtList) × AreRows rows m left (drop (index + 1) parts)
    × (flow_all ds own h rest (Some s) ≡ flow_all ds own h left o)
one_further rows ds own h parts index k rest s o less are is =
    front rows ds own h k (get_or parts index 0) (drop (index + 1) parts) rest s o
    (rw (add-one, ← drop-cons parts index 0) are) is

-- the row with a number

row_there : (rows : List StmtRow) (n : ℕ) (d : StmtRow) → n < length rows → slice_get rows n ≡ Some (get_or rows n d)
row_there rows n d less = slice_get-get_or rows n d less

pub row_at : (rows : List StmtRow) (n : ℕ) (d : StmtRow) → IsTable rows → n < length rows →
    PartsAreWithin n (length rows) (get_or rows n d).form
row_at rows n d table less = row_within rows n (get_or rows n d) table (row_there rows n d less)

pub row_is : (rows : List StmtRow) (n : ℕ) (d : StmtRow) (a : TypedStmtTree) → n < length rows →
    At rows n (IsRow rows n a) → IsRow rows n a (get_or rows n d).place (get_or rows n d).form
row_is rows n d a less at =
    let same : at.0 ≡ get_or rows n d = let this = at.1 in let that = row_there rows n d less in cc in
    subst (λ (r : StmtRow). IsRow rows n a r.place r.form) same at.2

-- the turns of a `for` after its first part

pub for_from : (next : Locks → Flow) (first : Flow) (o reached : Option Locks) → first ≡ on o → reached ≡ o →
    f.after first (λ r. f.with_set r next) ≡ f.with_set reached next
for_from next first o reached is same = ap (λ (g : Flow). f.after g (λ r. f.with_set r next)) is
    ∙ ap (λ (r : Option Locks). f.with_set r next) (sym same)
