-- Statements that are walked through, in the rows that are made for them.
use Rattle.std.specs.Prelude.{Box, ◌≡◌, ⊤, ◌<◌, ℕ, ◌+◌, List, length, Option, Some, None, Result, Ok, Err, slice_get, map}
use Rattle.std.specs.declared.alloc.Global.{Global}
use Rattle.cas_base.specs.declared.place.Place.{Place}
use Rattle.cas_syntax.specs.Tree as tree
use Rattle.cas_syntax.specs.Tree.{StmtList, no_more, one_more, stmt_tree, StmtOption}
use Rattle.cas_syntax.specs.declared.tree.Stmt.{Stmt}
use Rattle.cas_type.specs.declared.body.Walked.{Walked}
use Rattle.cas_type.specs.Answer.{Fails}
use Rattle.cas_type.specs.declared.fault.TypeFault.{TypeFault}
use Rattle.cas_typed.specs.Faults.{Fault}
use Rattle.cas_typed.specs.Numbered.{size_of, size_of_option, size_of_list, optional_expr_tree, IsPartRow, AreRows}
use Rattle.cas_typed.specs.Resolved.{typed_expr_tree, typed_target_tree, TypedStmtTree, skip, assign, call, break_, continue_, return_, lock, unlock, print, TypedStmtOption, present, TypedStmtList}
use Rattle.cas_typed.specs.Scopes.{Scope, after}
use Rattle.cas_typed.specs.declared.rows.StmtRow.{StmtRow}
use Rattle.cas_typed.specs.declared.rows.StmtRowForm.{StmtRowForm}
use Rattle.cas_typed.specs.declared.rows.StmtRowForm.TheVariants as row

-- so many rows are added after those before, which stay
abbrev pub Adds : (old new : List StmtRow) → (count : ℕ) → Type 0
Adds old new count = (length new ≡ length old + count) × ((i : ℕ) → i < length old → slice_get new i ≡ slice_get old i)

-- a statement that is walked through has the row with this number, the first after those before; or its fault is
-- answered
abbrev pub StmtWalks : (old new : List StmtRow) → Result ℕ TypeFault → Result TypedStmtTree Fault → Type 0
StmtWalks old new (Ok n) walked = (a : TypedStmtTree) × (walked ≡ Ok a) ×
    IsPartRow new (length old) (present a) (Some n) × Adds old new (size_of a)
StmtWalks old new (Err f) walked = Fails f walked

-- the same of a part that may be missing
abbrev pub PartWalks : (old new : List StmtRow) → Result (Option ℕ) TypeFault → Result TypedStmtOption Fault → Type 0
PartWalks old new (Ok j) walked = (o : TypedStmtOption) × (walked ≡ Ok o) × IsPartRow new (length old) o j ×
    Adds old new (size_of_option o)
PartWalks old new (Err f) walked = Fails f walked

-- the same of statements one after another
abbrev pub ListWalks : (old new : List StmtRow) → Result (List ℕ) TypeFault → Result TypedStmtList Fault → Type 0
ListWalks old new (Ok ns) walked = (bs : TypedStmtList) × (walked ≡ Ok bs) × AreRows new (length old) bs ns ×
    Adds old new (size_of_list bs)
ListWalks old new (Err f) walked = Fails f walked

-- the statement that a row without parts stands for
abbrev pub plain_tree : Place → StmtRowForm → Option TypedStmtTree
plain_tree p row.Skip = Some (skip p)
plain_tree p (row.Assign target a) = Some (assign p (typed_target_tree target) (typed_expr_tree a))
plain_tree p (row.Call kept g at args) = Some (call p kept g at (map typed_expr_tree args))
plain_tree p row.Break = Some (break_ p)
plain_tree p row.Continue = Some (continue_ p)
plain_tree p (row.Return a) = Some (return_ p (optional_expr_tree a))
plain_tree p (row.Lock g) = Some (lock p g)
plain_tree p (row.Unlock g) = Some (unlock p g)
plain_tree p (row.Print a) = Some (print p (typed_expr_tree a))
plain_tree p _ = None

-- a statement without parts that is walked through has a row of this form, or its fault is answered
abbrev pub AnswersPlain : Place → Result StmtRowForm TypeFault → Result TypedStmtTree Fault → Type 0
AnswersPlain p (Ok form) walked = (a : TypedStmtTree) × (walked ≡ Ok a) × (plain_tree p form ≡ Some a)
AnswersPlain p (Err f) walked = Fails f walked

-- a statement without parts that declares no local
abbrev pub IsPlain : tree.StmtTree → Type 0
IsPlain (tree.skip p) = ⊤
IsPlain (tree.assign p target op a) = ⊤
IsPlain (tree.call p x f args) = ⊤
IsPlain (tree.break_ p) = ⊤
IsPlain (tree.continue_ p) = ⊤
IsPlain (tree.return_ p a) = ⊤
IsPlain (tree.lock p x) = ⊤
IsPlain (tree.unlock p x) = ⊤
IsPlain (tree.print p a) = ⊤
IsPlain _ = ⊥

-- the scope after statements of a block
abbrev pub after_list : Scope → StmtList → Scope
after_list s no_more = s
after_list s (one_more a bs) = after_list (after s a) bs

-- a part of a statement that may be missing
abbrev pub part_tree : Option (Box Stmt Global) → StmtOption
part_tree None = tree.absent
part_tree (Some s) = tree.present (stmt_tree s.value)

-- a body that is walked through has rows of its own from 0 on, or its fault is answered
abbrev pub BodyWalks : Result Walked TypeFault → Result TypedStmtList Fault → Type 0
BodyWalks (Ok b) walked = (bs : TypedStmtList) × (walked ≡ Ok bs) × AreRows b.rows 0 bs b.body ×
    (length b.rows ≡ size_of_list bs)
BodyWalks (Err f) walked = Fails f walked
