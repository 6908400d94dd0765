-- What a reader knows at a token: what comes next, and what waits for it. Nobody has to trust this machine; the
-- grammar says what a text is read as.
use Rattle.std.specs.Prelude.{ℕ, Bool, List, Option}
use Rattle.cas_base.specs.declared.decl.Form.{Form}
use Rattle.cas_base.specs.declared.kind.Kind.{Kind}
use Rattle.cas_base.specs.declared.kind.Ty.{Ty}
use Rattle.cas_base.specs.declared.place.Place.{Place}
use Rattle.cas_lex.specs.declared.token.Sign.{Sign}
use Rattle.cas_syntax.specs.declared.tree.Ident.{Ident}
use Rattle.cas_syntax.specs.declared.tree.UnaryOperator.{UnaryOperator}
use Rattle.cas_syntax.specs.declared.tree.BinaryOperator.{BinaryOperator}
use Rattle.cas_syntax.specs.Operators.{Infix}
use Rattle.cas_syntax.specs.Tree.{ExprTree, TargetTree, StmtTree, StmtOption, StmtList, ItemTree}

-- what stands before an operand
pub data Prefix : Type 0 where
  Operates : UnaryOperator → Prefix
  Points : Prefix
  Casts : Kind → Prefix

-- what takes a value or a function's result: a variable that is assigned, or a local that begins
pub data Receiver : Type 0 where
  Assigned : Ident → Receiver
  Begun : Ty → Ident → Receiver

-- who calls a function
pub data Caller : Type 0 where
  Alone : (function : Ident) → Caller
  Keeps : Receiver → (function : Ident) → Caller

-- how a target is used: written by an assignment that begins here, or stepped by an operator that stands before it
pub data Use : Type 0 where
  Written : Place → Use
  Stepped : Place → BinaryOperator → Use

-- the beginning of a function: whether `extern` stands before it or not (a definition may follow), its type and its
-- name
pub record Opening : Type 0 where
  pub defined : Bool
  pub ret : Ty
  pub name : Ident

-- what a global is, up to its type
pub data Sort : Type 0 where
  Guarded : (guard : Ident) → Sort
  Constant : Sort

-- a global: what it is, whether it is defined, the kind of its cells
pub record Data : Type 0 where
  pub sort : Sort
  pub defined : Bool
  pub kind : Kind

-- what waits
pub data Frame : Type 0 where
  -- for an operand or an expression, inside an expression
  Before : (level : ℕ) → Prefix → Frame
  Right : (level : ℕ) → Infix → ExprTree → Frame
  InParens : (level : ℕ) → Frame
  InBrackets : (level : ℕ) → (taken : Bool) → Ident → Frame
  Then : (level : ℕ) → (condition : ExprTree) → Frame
  Otherwise : (level : ℕ) → (condition chosen : ExprTree) → Frame
  -- for an outermost expression
  TargetIndex : Use → Ident → Frame
  TargetBehind : Use → Frame
  ValueOf : Receiver → Frame
  AssignedTo : Place → TargetTree → Option BinaryOperator → Frame
  Argument : Caller → List ExprTree → Frame
  IfCondition : (around : ℕ) → Place → Frame
  WhileCondition : (around : ℕ) → Place → Frame
  DoCondition : Place → StmtTree → Frame
  ForCondition : (around : ℕ) → Place → StmtOption → Frame
  ReturnValue : Place → Frame
  PrintValue : Place → Frame
  -- for the words of a kind
  CastKind : (level : ℕ) → Frame
  LocalsKind : (around : ℕ) → StmtList → Frame
  FirstKind : (around : ℕ) → Place → Frame
  ReturnKind : (defined : Bool) → List ItemTree → Frame
  ParameterKind : Opening → List Ty → List (Option Ident) → List ItemTree → Frame
  CellsKind : Sort → (defined : Bool) → List ItemTree → Frame
  -- for an assignment or a call
  SimpleStmt : Frame
  FirstSimple : (around : ℕ) → Place → Frame
  AfterSimple : (around : ℕ) → Place → StmtOption → Option ExprTree → Frame
  -- for a local
  Locals : (around : ℕ) → Kind → StmtList → Frame
  FirstLocal : (around : ℕ) → Place → Frame
  -- for a statement
  IfThen : (around : ℕ) → Place → (condition : ExprTree) → Frame
  IfElse : Place → (condition : ExprTree) → (chosen : StmtTree) → Frame
  WhileBody : Place → (condition : ExprTree) → Frame
  DoBody : Place → Frame
  ForBody : Place → StmtOption → Option ExprTree → StmtOption → Frame
  NextStmt : (around : ℕ) → StmtList → Frame
  -- for the end of statements
  BlockOf : Place → Frame
  BodyOf : Ident → Form → List Ident → (held : List Place) → List ItemTree → Frame

-- what comes next
pub data Control : Type 0 where
  -- in an outermost expression that had so many tokens before
  WantExpr : (used level : ℕ) → Control
  HaveExpr : (used level : ℕ) → ExprTree → Control
  Given : (used : ℕ) → ExprTree → Control
  Named : (used level : ℕ) → (taken : Bool) → Ident → Control
  Taking : (used level : ℕ) → Control
  Opened : (used level : ℕ) → Control
  -- an outermost expression, or one that may be a call; the function's name of a call, or a name
  WantOutermost : Control
  WantValue : Receiver → Control
  MaybeCall : (used : ℕ) → Receiver → Ident → Control
  WantArguments : Caller → Control
  -- words of a kind, in an outermost expression that had so many tokens before, or in none
  WantKind : (used : Option ℕ) → Control
  Signed : (used : Option ℕ) → Control
  Unsigned : (used : Option ℕ) → Control
  MayEndInt : (used : Option ℕ) → Kind → Control
  HaveKind : (used : Option ℕ) → Kind → Control
  -- a sign, a word or a name that has to stand here, inside a function's body or outside
  Expect : (inside : Bool) → Sign → Control → Control
  -- assignments and calls
  WantTarget : Place → BinaryOperator → Control
  AfterName : Ident → Control
  AfterStar : Use → Control
  SteppedName : Place → BinaryOperator → Ident → Control
  AfterTarget : Place → TargetTree → Control
  HaveSimple : StmtTree → Control
  -- locals
  WantLocal : Kind → Control
  LocalName : Kind → Ident → Control
  LocalStar : Kind → Control
  LocalPointer : Kind → Ident → Control
  LocalLength : Kind → Ident → Control
  LocalArray : Kind → Ident → (length : ℕ) → Control
  HaveLocal : StmtTree → Control
  -- statements
  WantStmt : (around : ℕ) → Control
  HaveStmt : StmtTree → Control
  InList : (around : ℕ) → StmtList → Control
  ForFirst : (around : ℕ) → Place → Control
  ForSecond : (around : ℕ) → Place → StmtOption → Control
  ForThird : (around : ℕ) → Place → StmtOption → Option ExprTree → Control
  AfterReturn : Place → Control
  LockName : Place → Control
  UnlockName : Place → Control
  -- items
  InItems : List ItemTree → Control
  AfterExtern : List ItemTree → Control
  GlobalLock : (defined : Bool) → List ItemTree → Control
  GlobalGuard : (defined : Bool) → List ItemTree → Control
  CellName : Data → Ident → List ItemTree → Control
  CellLength : Data → Ident → List ItemTree → Control
  CellArray : Data → Ident → (length : ℕ) → List ItemTree → Control
  CellValue : Data → Ident → List ItemTree → Control
  CellNegative : Data → Ident → List ItemTree → Control
  WantCells : Data → Ident → (length : ℕ) → List ℕ → List ItemTree → Control
  NegativeCells : Data → Ident → (length : ℕ) → List ℕ → List ItemTree → Control
  HaveCells : Data → Ident → (length : ℕ) → List ℕ → List ItemTree → Control
  MoreCells : Data → Ident → (length : ℕ) → List ℕ → List ItemTree → Control
  CellsEnd : Data → Ident → Ty → List ℕ → List ItemTree → Control
  WantFunction : (defined : Bool) → Ty → List ItemTree → Control
  ReturnStar : (defined : Bool) → Kind → List ItemTree → Control
  FunctionName : Opening → List ItemTree → Control
  WantParameters : Opening → List ItemTree → Control
  WantParameter : Opening → List Ty → List (Option Ident) → List ItemTree → Control
  ParameterStar : Opening → List Ty → List (Option Ident) → Kind → List ItemTree → Control
  ParameterType : Opening → List Ty → List (Option Ident) → Ty → List ItemTree → Control
  ParameterName : Opening → List Ty → List (Option Ident) → Ty → Ident → List ItemTree → Control
  HaveParameter : Opening → List Ty → List (Option Ident) → List ItemTree → Control
  AfterParameters : Opening → List Ty → List (Option Ident) → List ItemTree → Control
  WantHeld : Opening → List Ty → List (Option Ident) → (held : List Ident) → List ItemTree → Control
  HaveHeld : Opening → List Ty → List (Option Ident) → (held : List Ident) → List ItemTree → Control
  AfterHead : Ident → Form → (defined : Bool) → List (Option Ident) → (held : List Place) → List ItemTree → Control
