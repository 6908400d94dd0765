-- Which states the machine comes to: each frame stands over what takes its result.
use Rattle.std.proofs.Common.{◌≡◌, ℕ, ◌<◌, ◌⊎◌, Bool, true, false, List, [], ◌∷◌, Option, Some, None, Ok, Err, refl}
use Rattle.cas_base.specs.declared.decl.Form.{Form}
use Rattle.cas_base.specs.declared.kind.Kind.{Kind}
use Rattle.cas_base.specs.declared.kind.Ty.{Ty}
use Rattle.cas_base.specs.declared.place.Place.{Place}
use Rattle.cas_lex.specs.declared.code.ReadCode.TheVariants.{R5, R7, R8}
use Rattle.cas_lex.specs.declared.token.TokenKind.{TokenKind}
use Rattle.cas_lex.specs.declared.token.TokenKind.TheVariants as k
use Rattle.cas_lex.specs.declared.token.Word.TheVariants as w
use Rattle.cas_lex.specs.declared.token.Sign.{Sign}
use Rattle.cas_lex.specs.declared.token.Sign.TheVariants as sg
use Rattle.cas_syntax.specs.declared.tree.Ident.{Ident}
use Rattle.cas_syntax.specs.declared.tree.BinaryOperator.{BinaryOperator}
use Rattle.cas_syntax.specs.Operators.{Infix}
use Rattle.cas_syntax.specs.Tree.{ExprTree, TargetTree, StmtTree, StmtOption, StmtList, ItemTree}
use Rattle.cas_parse.specs.Frames.{Prefix, Receiver, Assigned, Begun, Caller, Alone, Keeps, Use, Opening, Sort}
use Rattle.cas_parse.specs.Frames.{Frame, Before, Right, InParens, InBrackets, Then, Otherwise, TargetIndex, TargetBehind, ValueOf, AssignedTo, Argument, IfCondition, WhileCondition, DoCondition, ForCondition, ReturnValue, PrintValue, CastKind, LocalsKind, FirstKind, ReturnKind, ParameterKind, CellsKind, SimpleStmt, FirstSimple, AfterSimple, Locals, FirstLocal, IfThen, IfElse, WhileBody, DoBody, ForBody, NextStmt, BlockOf, BodyOf}
use Rattle.cas_parse.specs.Frames.{Control, WantExpr, HaveExpr, Given, Named, Taking, Opened, WantOutermost, WantValue, MaybeCall, WantArguments, WantKind, Signed, Unsigned, MayEndInt, HaveKind, Expect, WantTarget, AfterName, AfterStar, SteppedName, AfterTarget, HaveSimple, WantLocal, LocalName, LocalStar, LocalPointer, LocalLength, LocalArray, HaveLocal, WantStmt, HaveStmt, InList, ForFirst, ForSecond, ForThird, AfterReturn, LockName, UnlockName}
use Rattle.cas_parse.specs.Frames.{InItems, AfterExtern, GlobalLock, GlobalGuard, CellName, CellLength, CellArray, CellValue, CellNegative, WantCells, NegativeCells, HaveCells, MoreCells, CellsEnd, WantFunction, ReturnStar, FunctionName, WantParameters, WantParameter, ParameterStar, ParameterType, ParameterName, HaveParameter, AfterParameters, WantHeld, HaveHeld, AfterHead}
use Rattle.cas_parse.specs.Machine.{Outcome}

-- what a stack awaits
pub data Hole : Type 0 where
  AnExpr : Hole
  -- the words of a kind: of a cast, of locals, of an item
  CastWords : Hole
  LocalWords : Hole
  ItemWords : Hole
  ASimple : Hole
  ALocal : Hole
  AStmt : Hole
  -- the end of statements
  AnEnd : Hole

abbrev pub receives : Receiver → Hole
receives (Assigned x) = ASimple
receives (Begun ty x) = ALocal

abbrev pub calls : Caller → Hole
calls (Alone f) = ASimple
calls (Keeps r f) = receives r

-- a stack that awaits this
pub data Stands : Hole → List Frame → Type 0 where
  on_before : (l : ℕ) (f : Prefix) (st : List Frame) → 0 < l → Stands AnExpr st → Stands AnExpr (Before l f ∷ st)
  on_right : (l : ℕ) (op : Infix) (a : ExprTree) (st : List Frame) → 0 < l → Stands AnExpr st →
      Stands AnExpr (Right l op a ∷ st)
  on_parens : (l : ℕ) (st : List Frame) → 0 < l → Stands AnExpr st → Stands AnExpr (InParens l ∷ st)
  on_brackets : (l : ℕ) (taken : Bool) (x : Ident) (st : List Frame) → 0 < l → Stands AnExpr st →
      Stands AnExpr (InBrackets l taken x ∷ st)
  on_then : (l : ℕ) (c : ExprTree) (st : List Frame) → 0 < l → Stands AnExpr st → Stands AnExpr (Then l c ∷ st)
  on_otherwise : (l : ℕ) (c a : ExprTree) (st : List Frame) → 0 < l → Stands AnExpr st →
      Stands AnExpr (Otherwise l c a ∷ st)
  on_target_index : (usage : Use) (x : Ident) (st : List Frame) → Stands ASimple st →
      Stands AnExpr (TargetIndex usage x ∷ st)
  on_target_behind : (usage : Use) (st : List Frame) → Stands ASimple st → Stands AnExpr (TargetBehind usage ∷ st)
  on_value : (r : Receiver) (st : List Frame) → Stands (receives r) st → Stands AnExpr (ValueOf r ∷ st)
  on_assigned : (p : Place) (t : TargetTree) (op : Option BinaryOperator) (st : List Frame) → Stands ASimple st →
      Stands AnExpr (AssignedTo p t op ∷ st)
  on_argument : (caller : Caller) (xs : List ExprTree) (st : List Frame) → Stands (calls caller) st →
      Stands AnExpr (Argument caller xs ∷ st)
  on_if : (n : ℕ) (p : Place) (st : List Frame) → Stands AStmt st → Stands AnExpr (IfCondition n p ∷ st)
  on_while : (n : ℕ) (p : Place) (st : List Frame) → Stands AStmt st → Stands AnExpr (WhileCondition n p ∷ st)
  on_do : (p : Place) (a : StmtTree) (st : List Frame) → Stands AStmt st → Stands AnExpr (DoCondition p a ∷ st)
  on_for : (n : ℕ) (p : Place) (i : StmtOption) (st : List Frame) → Stands AStmt st →
      Stands AnExpr (ForCondition n p i ∷ st)
  on_return : (p : Place) (st : List Frame) → Stands AStmt st → Stands AnExpr (ReturnValue p ∷ st)
  on_print : (p : Place) (st : List Frame) → Stands AStmt st → Stands AnExpr (PrintValue p ∷ st)
  on_cast : (l : ℕ) (st : List Frame) → 0 < l → Stands AnExpr st → Stands CastWords (CastKind l ∷ st)
  on_locals_kind : (n : ℕ) (bs : StmtList) (st : List Frame) → Stands AnEnd st →
      Stands LocalWords (LocalsKind n bs ∷ st)
  on_first_kind : (n : ℕ) (p : Place) (st : List Frame) → Stands AStmt st → Stands LocalWords (FirstKind n p ∷ st)
  on_return_kind : (d : Bool) (items : List ItemTree) → Stands ItemWords (ReturnKind d items ∷ [])
  on_parameter_kind : (o : Opening) (tys : List Ty) (xs : List (Option Ident)) (items : List ItemTree) →
      Stands ItemWords (ParameterKind o tys xs items ∷ [])
  on_cells_kind : (s : Sort) (d : Bool) (items : List ItemTree) → Stands ItemWords (CellsKind s d items ∷ [])
  on_simple : (st : List Frame) → Stands AStmt st → Stands ASimple (SimpleStmt ∷ st)
  on_first_simple : (n : ℕ) (p : Place) (st : List Frame) → Stands AStmt st → Stands ASimple (FirstSimple n p ∷ st)
  on_after_simple : (n : ℕ) (p : Place) (i : StmtOption) (c : Option ExprTree) (st : List Frame) → Stands AStmt st →
      Stands ASimple (AfterSimple n p i c ∷ st)
  on_locals : (n : ℕ) (kd : Kind) (bs : StmtList) (st : List Frame) → Stands AnEnd st →
      Stands ALocal (Locals n kd bs ∷ st)
  on_first_local : (n : ℕ) (p : Place) (st : List Frame) → Stands AStmt st → Stands ALocal (FirstLocal n p ∷ st)
  on_if_then : (n : ℕ) (p : Place) (c : ExprTree) (st : List Frame) → Stands AStmt st → Stands AStmt (IfThen n p c ∷ st)
  on_if_else : (p : Place) (c : ExprTree) (a : StmtTree) (st : List Frame) → Stands AStmt st →
      Stands AStmt (IfElse p c a ∷ st)
  on_while_body : (p : Place) (c : ExprTree) (st : List Frame) → Stands AStmt st → Stands AStmt (WhileBody p c ∷ st)
  on_do_body : (p : Place) (st : List Frame) → Stands AStmt st → Stands AStmt (DoBody p ∷ st)
  on_for_body : (p : Place) (i : StmtOption) (c : Option ExprTree) (u : StmtOption) (st : List Frame) →
      Stands AStmt st → Stands AStmt (ForBody p i c u ∷ st)
  on_next : (n : ℕ) (bs : StmtList) (st : List Frame) → Stands AnEnd st → Stands AStmt (NextStmt n bs ∷ st)
  on_block : (p : Place) (st : List Frame) → Stands AStmt st → Stands AnEnd (BlockOf p ∷ st)
  on_body : (x : Ident) (f : Form) (xs : List Ident) (held : List Place) (items : List ItemTree) →
      Stands AnEnd (BodyOf x f xs held items ∷ [])

-- whether the words of a kind stand inside a function's body
abbrev pub kind_inside : List Frame → Bool
kind_inside (CastKind l ∷ st) = true
kind_inside (LocalsKind n bs ∷ st) = true
kind_inside (FirstKind n p ∷ st) = true
kind_inside st = false

-- whether a state is inside a function's body
abbrev pub is_inside : Control → List Frame → Bool
is_inside (WantKind b) st = kind_inside st
is_inside (Signed b) st = kind_inside st
is_inside (Unsigned b) st = kind_inside st
is_inside (MayEndInt b kd) st = kind_inside st
is_inside (HaveKind b kd) st = kind_inside st
is_inside (Expect inside s c) st = inside
is_inside (InItems items) st = false
is_inside (AfterExtern items) st = false
is_inside (GlobalLock d items) st = false
is_inside (GlobalGuard d items) st = false
is_inside (CellName d x items) st = false
is_inside (CellLength d x items) st = false
is_inside (CellArray d x n items) st = false
is_inside (CellValue d x items) st = false
is_inside (CellNegative d x items) st = false
is_inside (WantCells d x n vs items) st = false
is_inside (NegativeCells d x n vs items) st = false
is_inside (HaveCells d x n vs items) st = false
is_inside (MoreCells d x n vs items) st = false
is_inside (CellsEnd d x ty vs items) st = false
is_inside (WantFunction d ty items) st = false
is_inside (ReturnStar d kd items) st = false
is_inside (FunctionName o items) st = false
is_inside (WantParameters o items) st = false
is_inside (WantParameter o tys xs items) st = false
is_inside (ParameterStar o tys xs kd items) st = false
is_inside (ParameterType o tys xs ty items) st = false
is_inside (ParameterName o tys xs ty x items) st = false
is_inside (HaveParameter o tys xs items) st = false
is_inside (AfterParameters o tys xs items) st = false
is_inside (WantHeld o tys xs held items) st = false
is_inside (HaveHeld o tys xs held items) st = false
is_inside (AfterHead x f d xs held items) st = false
is_inside _ st = true

-- the words of a kind are counted where it is a cast's
abbrev pub AwaitsKind : Option ℕ → List Frame → Type 0
AwaitsKind (Some b) st = Stands CastWords st
AwaitsKind None st = Stands LocalWords st ⊎ Stands ItemWords st

-- a sign that may have to stand inside a function's body, or outside
abbrev pub is_needed : (inside : Bool) → Sign → Bool
is_needed inside sg.Semicolon = true
is_needed inside sg.OpenParen = true
is_needed inside sg.CloseParen = true
is_needed inside sg.CloseBracket = true
is_needed false sg.OpenBrace = true
is_needed _ _ = false

abbrev pub OnlyItems : Control → List Frame → Type 0
OnlyItems c st = st ≡ []

-- the control may stand over the stack
abbrev pub Valid : Control → List Frame → Type 0
Valid (WantExpr b l) st = (0 < l) × Stands AnExpr st
Valid (HaveExpr b l x) st = (0 < l) × Stands AnExpr st
Valid (Given b x) st = ⊥
Valid (Named b l taken x) st = (0 < l) × Stands AnExpr st
Valid (Taking b l) st = (0 < l) × Stands AnExpr st
Valid (Opened b l) st = (0 < l) × Stands AnExpr st
Valid WantOutermost st = Stands AnExpr st
Valid (WantValue r) st = Stands (receives r) st
Valid (MaybeCall b r f) st = Stands (receives r) st
Valid (WantArguments caller) st = Stands (calls caller) st
Valid (WantKind (Some b)) st = ⊥
Valid (WantKind None) st = Stands ItemWords st
Valid (Signed b) st = AwaitsKind b st
Valid (Unsigned b) st = AwaitsKind b st
Valid (MayEndInt b kd) st = AwaitsKind b st
Valid (HaveKind b kd) st = AwaitsKind b st
Valid (Expect inside s c) st = (is_inside c st ≡ inside) × (is_needed inside s ≡ true) × Valid c st
Valid (WantTarget p op) st = Stands ASimple st
Valid (AfterName x) st = Stands ASimple st
Valid (AfterStar usage) st = Stands ASimple st
Valid (SteppedName p op x) st = Stands ASimple st
Valid (AfterTarget p t) st = Stands ASimple st
Valid (HaveSimple a) st = Stands ASimple st
Valid (WantLocal kd) st = Stands ALocal st
Valid (LocalName kd x) st = Stands ALocal st
Valid (LocalStar kd) st = Stands ALocal st
Valid (LocalPointer kd x) st = Stands ALocal st
Valid (LocalLength kd x) st = Stands ALocal st
Valid (LocalArray kd x n) st = Stands ALocal st
Valid (HaveLocal a) st = Stands ALocal st
Valid (WantStmt n) st = Stands AStmt st
Valid (HaveStmt a) st = Stands AStmt st
Valid (InList n bs) st = Stands AnEnd st
Valid (ForFirst n p) st = Stands AStmt st
Valid (ForSecond n p i) st = Stands AStmt st
Valid (ForThird n p i c) st = Stands AStmt st
Valid (AfterReturn p) st = Stands AStmt st
Valid (LockName p) st = Stands AStmt st
Valid (UnlockName p) st = Stands AStmt st
Valid _ st = st ≡ []

pub valid_start : Valid (InItems []) []
valid_start = refl

abbrev pub is_items : Control → Bool
is_items (InItems items) = true
is_items _ = false

-- outside a function's body a token that is no opening brace leads to a state outside, and a closing brace ends no item
abbrev pub Stays : (inside : Bool) → TokenKind → Control → List Frame → Type 0
Stays true kind c st = Unit {0}
Stays false (k.Sign sg.OpenBrace) c st = Unit {0}
Stays false (k.Sign sg.CloseBrace) c st = (is_inside c st ≡ false) × (is_items c ≡ false)
Stays false _ c st = is_inside c st ≡ false

-- what the machine may come to by a token, from inside a function's body or from outside
pub record Comes (inside : Bool) (kind : TokenKind) (next : Control × List Frame) : Type 0 where
  pub valid : Valid next.0 next.1
  pub stays : Stays inside kind next.0 next.1

-- What a token leads to: where limits are asked, where they aren't, and where besides a form that is left out may
-- stand.
pub data Judged (inside : Bool) (kind : TokenKind) : Outcome → Outcome → Outcome → Type 0 where
  goes_on : (next : Control × List Frame) → Comes inside kind next → Judged inside kind (Ok next) (Ok next) (Ok next)
  limited_here : (next : Control × List Frame) → Comes inside kind next →
      Judged inside kind (Err R8) (Ok next) (Ok next)
  left_out_here : (next : Control × List Frame) → Comes inside kind next →
      Judged inside kind (Err R7) (Err R7) (Ok next)
  const_inside : inside ≡ true → kind ≡ k.Word w.Const → Judged inside kind (Err R7) (Err R7) (Err R7)
  refused : (inside ≡ true → kind ≡ k.Word w.Const → ⊥) → Judged inside kind (Err R5) (Err R5) (Err R5)
