-- A machine that takes one token after another, and knows at each what may come.
use Rattle.std.specs.Prelude.{ℕ, ◌+◌, Bool, true, false, ◌||◌, if◌then◌else◌, nat_le, nat_lt, nat_eq, List, [], ◌∷◌, ◌++◌, length, Option, Some, None, Result, Ok, Err}
use Rattle.cas_base.specs.Word.{word_sub, narrowed}
use Rattle.cas_base.specs.declared.decl.Form.{Form}
use Rattle.cas_base.specs.declared.decl.Form.TheVariants as form
use Rattle.cas_base.specs.declared.kind.Kind.{Kind}
use Rattle.cas_base.specs.declared.kind.Kind.TheVariants.{I8, U8, I16, U16, I32, U32}
use Rattle.cas_base.specs.declared.kind.Ty.{Ty}
use Rattle.cas_base.specs.declared.kind.Ty.TheVariants.{Void, Int, Ptr, Array}
use Rattle.cas_base.specs.declared.place.Place.{Place}
use Rattle.cas_lex.specs.declared.code.ReadCode.{ReadCode}
use Rattle.cas_lex.specs.declared.code.ReadCode.TheVariants.{R5, R6, R7, R8}
use Rattle.cas_lex.specs.declared.token.Token.{Token}
use Rattle.cas_lex.specs.declared.token.TokenKind.{TokenKind}
use Rattle.cas_lex.specs.declared.token.TokenKind.TheVariants as k
use Rattle.cas_lex.specs.declared.token.Word.TheVariants as w
use Rattle.cas_lex.specs.declared.token.Sign.{Sign}
use Rattle.cas_lex.specs.declared.token.Sign.TheVariants as sg
use Rattle.cas_syntax.specs.declared.tree.Ident.{Ident}
use Rattle.cas_syntax.specs.declared.tree.UnaryOperator.TheVariants as u
use Rattle.cas_syntax.specs.declared.tree.BinaryOperator.{BinaryOperator}
use Rattle.cas_syntax.specs.declared.tree.BinaryOperator.TheVariants.{Add, Sub, Mul, Div, Mod, Shl, Shr, BitAnd, BitOr, BitXor, Eq, Ne, Lt, Le, Gt, Ge}
use Rattle.cas_syntax.specs.Items.{declared, names_alone, places_alone}
use Rattle.cas_syntax.specs.Limits.{Limits}
use Rattle.cas_syntax.specs.Operators.{Infix, always_both, logical_and, logical_or, joined, level}
use Rattle.cas_syntax.specs.Tree.{ExprTree, literal, name, index, deref, address, address_index, unary, cast, conditional, TargetTree, to_name, to_index, to_deref, nothing, value, called, StmtTree, skip, declare, assign, call, block, if_, while_, do_, for_, break_, continue_, return_, lock, unlock, print, StmtOption, absent, present, StmtList, no_more, one_more, ItemTree, global, prototype, define}
use Rattle.cas_parse.specs.Frames.{Prefix, Operates, Points, Casts, Receiver, Assigned, Begun, Caller, Alone, Keeps, Use, Written, Stepped, Opening, Sort, Guarded, Constant, Data}
use Rattle.cas_parse.specs.Frames.{Frame, Before, Right, InParens, InBrackets, Then, Otherwise, TargetIndex, TargetBehind, ValueOf, AssignedTo, Argument, IfCondition, WhileCondition, DoCondition, ForCondition, ReturnValue, PrintValue, CastKind, LocalsKind, FirstKind, ReturnKind, ParameterKind, CellsKind, SimpleStmt, FirstSimple, AfterSimple, Locals, FirstLocal, IfThen, IfElse, WhileBody, DoBody, ForBody, NextStmt, BlockOf, BodyOf}
use Rattle.cas_parse.specs.Frames.{Control, WantExpr, HaveExpr, Given, Named, Taking, Opened, WantOutermost, WantValue, MaybeCall, WantArguments, WantKind, Signed, Unsigned, MayEndInt, HaveKind, Expect, WantTarget, AfterName, AfterStar, SteppedName, AfterTarget, HaveSimple, WantLocal, LocalName, LocalStar, LocalPointer, LocalLength, LocalArray, HaveLocal, WantStmt, HaveStmt, InList, ForFirst, ForSecond, ForThird, AfterReturn, LockName, UnlockName}
use Rattle.cas_parse.specs.Frames.{InItems, AfterExtern, GlobalLock, GlobalGuard, CellName, CellLength, CellArray, CellValue, CellNegative, WantCells, NegativeCells, HaveCells, MoreCells, CellsEnd, WantFunction, ReturnStar, FunctionName, WantParameters, WantParameter, ParameterStar, ParameterType, ParameterName, HaveParameter, AfterParameters, WantHeld, HaveHeld, AfterHead}

abbrev pub Outcome : Type 0
Outcome = Result (Control × List Frame) ReadCode

-- a name at its place
abbrev pub at : List ℕ → Place → Ident
at text p = record { name = text; place = p }

-- the fault of a token that can't stand here, inside a function's body
abbrev pub wrong : TokenKind → ReadCode
wrong (k.Word w.Const) = R7
wrong _ = R5

-- the fault of a token that can't stand here
abbrev pub wrong_where : (inside : Bool) → TokenKind → ReadCode
wrong_where true kind = wrong kind
wrong_where false kind = R5

-- whether a token begins the words of a kind
abbrev pub begins_kind : TokenKind → Bool
begins_kind (k.Word w.Char) = true
begins_kind (k.Word w.Short) = true
begins_kind (k.Word w.Int) = true
begins_kind (k.Word w.Unsigned) = true
begins_kind (k.Word w.Signed) = true
begins_kind _ = false

-- the operator between two operands that a token is
abbrev pub infix_of : TokenKind → Option Infix
infix_of (k.Sign sg.OrOr) = Some logical_or
infix_of (k.Sign sg.AndAnd) = Some logical_and
infix_of (k.Sign sg.Or) = Some (always_both BitOr)
infix_of (k.Sign sg.Caret) = Some (always_both BitXor)
infix_of (k.Sign sg.And) = Some (always_both BitAnd)
infix_of (k.Sign sg.EqualEqual) = Some (always_both Eq)
infix_of (k.Sign sg.NotEqual) = Some (always_both Ne)
infix_of (k.Sign sg.Less) = Some (always_both Lt)
infix_of (k.Sign sg.LessEqual) = Some (always_both Le)
infix_of (k.Sign sg.Greater) = Some (always_both Gt)
infix_of (k.Sign sg.GreaterEqual) = Some (always_both Ge)
infix_of (k.Sign sg.ShiftLeft) = Some (always_both Shl)
infix_of (k.Sign sg.ShiftRight) = Some (always_both Shr)
infix_of (k.Sign sg.Plus) = Some (always_both Add)
infix_of (k.Sign sg.Minus) = Some (always_both Sub)
infix_of (k.Sign sg.Star) = Some (always_both Mul)
infix_of (k.Sign sg.Slash) = Some (always_both Div)
infix_of (k.Sign sg.Percent) = Some (always_both Mod)
infix_of _ = None

-- the operator of an assignment, as that of `+=`
abbrev pub assigning : TokenKind → Option BinaryOperator
assigning (k.Sign sg.PlusEqual) = Some Add
assigning (k.Sign sg.MinusEqual) = Some Sub
assigning (k.Sign sg.StarEqual) = Some Mul
assigning (k.Sign sg.SlashEqual) = Some Div
assigning (k.Sign sg.PercentEqual) = Some Mod
assigning (k.Sign sg.ShiftLeftEqual) = Some Shl
assigning (k.Sign sg.ShiftRightEqual) = Some Shr
assigning (k.Sign sg.AndEqual) = Some BitAnd
assigning (k.Sign sg.OrEqual) = Some BitOr
assigning (k.Sign sg.CaretEqual) = Some BitXor
assigning _ = None

-- the statements and one more
abbrev pub snoc : StmtList → StmtTree → StmtList
snoc no_more a = one_more a no_more
snoc (one_more b bs) a = one_more b (snoc bs a)

-- one of the signs that have to stand somewhere
abbrev pub is : Sign → TokenKind → Bool
is sg.Semicolon (k.Sign sg.Semicolon) = true
is sg.OpenParen (k.Sign sg.OpenParen) = true
is sg.CloseParen (k.Sign sg.CloseParen) = true
is sg.CloseBracket (k.Sign sg.CloseBracket) = true
is sg.OpenBrace (k.Sign sg.OpenBrace) = true
is sg.Colon (k.Sign sg.Colon) = true
is _ _ = false

-- how tightly a token binds: 0 for what is no operator
abbrev pub binding : Option Infix → TokenKind → ℕ
binding (Some op) kind = level op
binding None (k.Sign sg.Question) = 1
binding None kind = 0

abbrev pub binds : TokenKind → ℕ
binds kind = binding (infix_of kind) kind

abbrev pub named : (taken : Bool) → Ident → ExprTree
named false x = name x
named true x = address x

abbrev pub bracketed : (taken : Bool) → Ident → ExprTree → ExprTree
bracketed false x a = index x a
bracketed true x a = address_index x a

abbrev pub prefixed : Prefix → ExprTree → ExprTree
prefixed (Operates op) a = unary op a
prefixed Points a = deref a
prefixed (Casts kd) a = cast kd a

-- `x++`, `++x` and `x += 1`
abbrev pub stepped : Place → TargetTree → BinaryOperator → StmtTree
stepped p target op = assign p target (Some op) (literal 1 I32)

abbrev pub reached : Use → TargetTree → List Frame → Control × List Frame
reached (Written p) target st = (AfterTarget p target, st)
reached (Stepped p op) target st = (HaveSimple (stepped p target op), st)

abbrev pub resulted : Caller → List ExprTree → Control
resulted (Alone f) xs = HaveSimple (call f.place None f xs)
resulted (Keeps (Assigned x) f) xs = HaveSimple (call x.place (Some x) f xs)
resulted (Keeps (Begun ty x) f) xs = HaveLocal (declare x.place ty x (called f xs))

abbrev pub require : Sign → TokenKind → Outcome → Outcome
require s kind next = if is s kind then next else Err (wrong kind)

-- a token that ends an assignment or a call
abbrev pub ended : StmtTree → List Frame → TokenKind → Outcome
ended a (SimpleStmt ∷ st) kind = require sg.Semicolon kind (Ok (HaveStmt a, st))
ended a (FirstSimple n p ∷ st) kind = require sg.Semicolon kind (Ok (ForSecond n p (present a), st))
ended a (AfterSimple n p i c ∷ st) kind = require sg.CloseParen kind
    (Ok (WantStmt (n + 1), ForBody p i c (present a) ∷ st))
ended a st kind = Err (wrong kind)

-- a token behind a local of a list
abbrev pub in_locals : (n : ℕ) → Kind → StmtList → List Frame → TokenKind → Outcome
in_locals n kd bs st (k.Sign sg.Comma) = Ok (WantLocal kd, Locals n kd bs ∷ st)
in_locals n kd bs st (k.Sign sg.Semicolon) = Ok (InList n bs, st)
in_locals n kd bs st kind = Err (wrong kind)

-- a token that ends a local
abbrev pub local_ended : StmtTree → List Frame → TokenKind → Outcome
local_ended a (Locals n kd bs ∷ st) kind = in_locals n kd (snoc bs a) st kind
local_ended a (FirstLocal n p ∷ st) kind = require sg.Semicolon kind (Ok (ForSecond n p (present a), st))
local_ended a st kind = Err (wrong kind)

-- a token that ends a value
abbrev pub received : Receiver → ExprTree → List Frame → TokenKind → Outcome
received (Assigned x) a st kind = ended (assign x.place (to_name x) None a) st kind
received (Begun ty x) a st kind = local_ended (declare x.place ty x (value a)) st kind

-- a token behind an argument
abbrev pub argued : Caller → List ExprTree → List Frame → TokenKind → Outcome
argued caller xs st (k.Sign sg.Comma) = Ok (WantOutermost, Argument caller xs ∷ st)
argued caller xs st (k.Sign sg.CloseParen) = Ok (resulted caller xs, st)
argued caller xs st kind = Err (wrong kind)

-- the first token of a local behind the words of its kind
abbrev pub local_started : Kind → List Frame → Place → TokenKind → Outcome
local_started kd st p (k.Name n) = Ok (LocalName kd (at n p), st)
local_started kd st p (k.Sign sg.Star) = Ok (LocalStar kd, st)
local_started kd st p kind = Err (wrong kind)

-- how the item of a global ends
abbrev pub sort_of : Sort → Ty → Form
sort_of (Guarded guard) ty = form.Shared ty guard.name
sort_of Constant ty = form.Table ty

abbrev pub cells : Data → Ident → Ty → List ℕ → ItemTree
cells d x ty vs = global (declared x.name (sort_of d.sort ty) d.defined) vs x.place

abbrev pub closing_of_function : Ident → Form → List Ident → (held : List Place) → StmtList → Place → ItemTree
closing_of_function x f xs held body closing =
    define (record {
      decl = declared x.name f true;
      params = xs;
      held = held;
      body = body;
      place = x.place;
      closing =
          closing;
    })

-- the names of parameters, where all have one
abbrev pub all_named : List (Option Ident) → Option (List Ident)
all_named [] = Some []
all_named (None ∷ xs) = None
all_named (Some x ∷ xs) = with_first x (all_named xs)
  where
    with_first : Ident → Option (List Ident) → Option (List Ident)
    with_first x None = None
    with_first x (Some xs) = Some (x ∷ xs)

-- what a limit does to a token that is in order otherwise
abbrev pub limited : Bool → Outcome → Outcome
limited true o = o
limited false (Ok next) = Err R8
limited false (Err code) = Err code

-- the number of tokens before the next one, where they are counted
abbrev pub next : Option ℕ → Option ℕ
next None = None
next (Some n) = Some (n + 1)

abbrev pub is_at : Option ℕ → ℕ → Bool
is_at None n = false
is_at (Some m) n = nat_eq m n

-- the limits, whether they aren't asked of this token, and whether a form may stand here that is left out
module _ (limits : Limits) (near leaves : Bool) where
  -- a statement that begins here, with so many around it
  abbrev pub nested : ℕ → Outcome → Outcome
  nested n o = limited (nat_lt n limits.depth || near) o

  -- a token of an outermost expression that has so many before it
  abbrev pub counted : ℕ → Outcome → Outcome
  counted b o = limited (nat_lt b limits.tokens || near) o

  abbrev pub counted_in : Option ℕ → Outcome → Outcome
  counted_in None o = o
  counted_in (Some b) o = counted b o

  -- a form that is left out
  abbrev pub leave : Control → List Frame → Outcome
  leave c st = if leaves then Ok (c, st) else Err R7

  -- expressions

  abbrev pub operand : ℕ → ℕ → List Frame → Place → TokenKind → Outcome
  operand b l st p (k.Name n) = Ok (Named (b + 1) l false (at n p), st)
  operand b l st p (k.Literal n kd) = Ok (HaveExpr (b + 1) l (literal n kd), st)
  operand b l st p (k.Sign sg.OpenParen) = Ok (Opened (b + 1) l, st)
  operand b l st p (k.Sign sg.Minus) = Ok (WantExpr (b + 1) 12, Before l (Operates u.Neg) ∷ st)
  operand b l st p (k.Sign sg.Plus) = Ok (WantExpr (b + 1) 12, Before l (Operates u.Plus) ∷ st)
  operand b l st p (k.Sign sg.Tilde) = Ok (WantExpr (b + 1) 12, Before l (Operates u.BitNot) ∷ st)
  operand b l st p (k.Sign sg.Not) = Ok (WantExpr (b + 1) 12, Before l (Operates u.Not) ∷ st)
  operand b l st p (k.Sign sg.Star) = Ok (WantExpr (b + 1) 12, Before l Points ∷ st)
  operand b l st p (k.Sign sg.And) = Ok (Taking (b + 1) l, st)
  operand b l st p kind = Err (wrong kind)

  -- the first token of an outermost expression
  abbrev pub outermost : List Frame → Place → TokenKind → Outcome
  outermost st p kind = counted 0 (operand 0 1 st p kind)

  abbrev pub risen : ℕ → ℕ → ExprTree → List Frame → Option Infix → Outcome
  risen b l x st (Some op) = Ok (WantExpr (b + 1) (level op + 1), Right l op x ∷ st)
  risen b l x st None = Ok (WantExpr (b + 1) 1, Then l x ∷ st)

  -- a further operator takes the expression, or else what waits for it does
  abbrev pub operated : ℕ → ℕ → ExprTree → List Frame → TokenKind → Outcome → Outcome
  operated b l x st kind below = if nat_le l (binds kind) then counted b (risen b l x st (infix_of kind)) else below

  abbrev pub down : ℕ → TokenKind → ExprTree → List Frame → Outcome
  down b kind x [] = Err (wrong kind)
  down b kind x (Before l f ∷ st) = operated b l (prefixed f x) st kind (down b kind (prefixed f x) st)
  down b kind x (Right l op y ∷ st) = operated b l (joined op y x) st kind (down b kind (joined op y x) st)
  down b kind x (Otherwise l c y ∷ st) = operated b l (conditional c y x) st kind (down b kind (conditional c y x) st)
  down b kind x (InParens l ∷ st) = require sg.CloseParen kind (counted b (Ok (HaveExpr (b + 1) l x, st)))
  down b kind x (InBrackets l taken i ∷ st) = require sg.CloseBracket kind
      (counted b (Ok (HaveExpr (b + 1) l (bracketed taken i x), st)))
  down b kind x (Then l c ∷ st) = require sg.Colon kind (counted b (Ok (WantExpr (b + 1) 1, Otherwise l c x ∷ st)))
  down b kind x (TargetIndex usage i ∷ st) = require sg.CloseBracket kind (Ok (reached usage (to_index i x) st))
  down b kind x (TargetBehind usage ∷ st) = require sg.CloseParen kind (Ok (reached usage (to_deref x) st))
  down b kind x (ValueOf r ∷ st) = received r x st kind
  down b kind x (AssignedTo p target op ∷ st) = ended (assign p target op x) st kind
  down b kind x (Argument caller xs ∷ st) = argued caller (xs ++ x ∷ []) st kind
  down b kind x (IfCondition n p ∷ st) = require sg.CloseParen kind (Ok (WantStmt (n + 1), IfThen n p x ∷ st))
  down b kind x (WhileCondition n p ∷ st) = require sg.CloseParen kind (Ok (WantStmt (n + 1), WhileBody p x ∷ st))
  down b kind x (DoCondition p a ∷ st) = require sg.CloseParen kind
      (Ok (Expect true sg.Semicolon (HaveStmt (do_ p a x)), st))
  down b kind x (ForCondition n p i ∷ st) = require sg.Semicolon kind (Ok (ForThird n p i (Some x), st))
  down b kind x (ReturnValue p ∷ st) = require sg.Semicolon kind (Ok (HaveStmt (return_ p (Some x)), st))
  down b kind x (PrintValue p ∷ st) = require sg.CloseParen kind
      (Ok (Expect true sg.Semicolon (HaveStmt (print p x)), st))
  down b kind x (_ ∷ st) = Err (wrong kind)

  abbrev pub have : ℕ → ℕ → ExprTree → List Frame → TokenKind → Outcome
  have b l x st kind = operated b l x st kind (down b kind x st)

  -- a token behind a name, or behind `&` and a name
  abbrev pub after_operand_name : ℕ → ℕ → Bool → Ident → List Frame → TokenKind → Outcome
  after_operand_name b l taken x st (k.Sign sg.OpenBracket) =
      counted b (Ok (WantExpr (b + 1) 1, InBrackets l taken x ∷ st))
  after_operand_name b l taken x st (k.Sign sg.OpenParen) =
      if leaves then counted b (Ok (HaveExpr (b + 1) l (named taken x), st)) else Err R7
  after_operand_name b l taken x st kind = have b l (named taken x) st kind

  abbrev pub taking : ℕ → ℕ → List Frame → Place → TokenKind → Outcome
  taking b l st p (k.Name n) = counted b (Ok (Named (b + 1) l true (at n p), st))
  taking b l st p kind = Err (wrong kind)

  -- kinds

  abbrev pub parameter_ended : Opening → List Ty → List (Option Ident) → List ItemTree → List Frame → TokenKind →
      Outcome
  parameter_ended o tys xs items st (k.Sign sg.Comma) = Ok (WantParameter o tys xs items, st)
  parameter_ended o tys xs items st (k.Sign sg.CloseParen) = Ok (AfterParameters o tys xs items, st)
  parameter_ended o tys xs items st (k.Sign sg.OpenBracket) = leave (HaveParameter o tys xs items) st
  parameter_ended o tys xs items st kind = Err R5

  abbrev pub parameter_typed : Opening → List Ty → List (Option Ident) → Ty → List ItemTree → List Frame → Place →
      TokenKind → Outcome
  parameter_typed o tys xs ty items st p (k.Name n) = Ok (ParameterName o tys xs ty (at n p) items, st)
  parameter_typed o tys xs ty items st p kind = parameter_ended o (tys ++ ty ∷ []) (xs ++ None ∷ []) items st kind

  abbrev pub function_named : Bool → Ty → List ItemTree → List Frame → Place → TokenKind → Outcome
  function_named d ty items st p (k.Name n) =
      Ok (FunctionName (record { defined = d; ret = ty; name = at n p }) items, st)
  function_named d ty items st p kind = Err R5

  abbrev pub return_kind : Bool → Kind → List ItemTree → List Frame → Place → TokenKind → Outcome
  return_kind d kd items st p (k.Sign sg.Star) = Ok (ReturnStar d kd items, st)
  return_kind d kd items st p kind = function_named d (Int kd) items st p kind

  abbrev pub parameter_kind : Opening → List Ty → List (Option Ident) → Kind → List ItemTree → List Frame → Place →
      TokenKind → Outcome
  parameter_kind o tys xs kd items st p (k.Sign sg.Star) = Ok (ParameterStar o tys xs kd items, st)
  parameter_kind o tys xs kd items st p kind = parameter_typed o tys xs (Int kd) items st p kind

  abbrev pub cells_kind : Data → List ItemTree → List Frame → Place → TokenKind → Outcome
  cells_kind d items st p (k.Name n) = Ok (CellName d (at n p) items, st)
  cells_kind d items st p kind = Err R5

  -- the `)` of a cast
  abbrev pub cast_kind : Option ℕ → ℕ → Kind → List Frame → Outcome
  cast_kind (Some b) l kd st = counted b (Ok (WantExpr (b + 1) 12, Before l (Casts kd) ∷ st))
  cast_kind None l kd st = Err R5

  -- a token behind the words of a kind
  abbrev pub down_kind : Option ℕ → Kind → List Frame → Place → TokenKind → Outcome
  down_kind b kd (CastKind l ∷ st) p kind = require sg.CloseParen kind (cast_kind b l kd st)
  down_kind b kd (LocalsKind n bs ∷ st) p kind = local_started kd (Locals n kd bs ∷ st) p kind
  down_kind b kd (FirstKind n q ∷ st) p kind = local_started kd (FirstLocal n q ∷ st) p kind
  down_kind b kd (ReturnKind d items ∷ st) p kind = return_kind d kd items st p kind
  down_kind b kd (ParameterKind o tys xs items ∷ st) p kind = parameter_kind o tys xs kd items st p kind
  down_kind b kd (CellsKind s d items ∷ st) p kind = cells_kind (record { sort = s; defined = d; kind = kd })
      items st p kind
  down_kind b kd st p kind = Err R5

  abbrev pub want_kind : Option ℕ → List Frame → TokenKind → Outcome
  want_kind b st (k.Word w.Char) = counted_in b (Ok (HaveKind (next b) I8, st))
  want_kind b st (k.Word w.Short) = counted_in b (Ok (MayEndInt (next b) I16, st))
  want_kind b st (k.Word w.Int) = counted_in b (Ok (HaveKind (next b) I32, st))
  want_kind b st (k.Word w.Unsigned) = counted_in b (Ok (Unsigned (next b), st))
  want_kind b st (k.Word w.Signed) = counted_in b (Ok (Signed (next b), st))
  want_kind b st kind = Err R5

  abbrev pub after_signed : Option ℕ → List Frame → Place → TokenKind → Outcome
  after_signed b st p (k.Word w.Char) = counted_in b (Ok (HaveKind (next b) I8, st))
  after_signed b st p (k.Word w.Short) = counted_in b (Ok (MayEndInt (next b) I16, st))
  after_signed b st p (k.Word w.Int) = counted_in b (Ok (HaveKind (next b) I32, st))
  after_signed b st p kind = down_kind b I32 st p kind

  abbrev pub after_unsigned : Option ℕ → List Frame → Place → TokenKind → Outcome
  after_unsigned b st p (k.Word w.Char) = counted_in b (Ok (HaveKind (next b) U8, st))
  after_unsigned b st p (k.Word w.Short) = counted_in b (Ok (MayEndInt (next b) U16, st))
  after_unsigned b st p (k.Word w.Int) = counted_in b (Ok (HaveKind (next b) U32, st))
  after_unsigned b st p kind = down_kind b U32 st p kind

  abbrev pub may_end_int : Option ℕ → Kind → List Frame → Place → TokenKind → Outcome
  may_end_int b kd st p (k.Word w.Int) = counted_in b (Ok (HaveKind (next b) kd, st))
  may_end_int b kd st p kind = down_kind b kd st p kind

  -- a token behind `(` in an expression
  abbrev pub opened : ℕ → ℕ → List Frame → Place → TokenKind → Outcome
  opened b l st p kind = if begins_kind kind then want_kind (Some b) (CastKind l ∷ st) kind else counted b
      (operand b 1 (InParens l ∷ st) p kind)

  -- assignments and calls

  abbrev pub value_started : Receiver → List Frame → Place → TokenKind → Outcome
  value_started r st p (k.Name n) = counted 0 (Ok (MaybeCall 1 r (at n p), st))
  value_started r st p kind = outermost (ValueOf r ∷ st) p kind

  abbrev pub maybe_call : ℕ → Receiver → Ident → List Frame → TokenKind → Outcome
  maybe_call b r f st (k.Sign sg.OpenParen) = Ok (WantArguments (Keeps r f), st)
  maybe_call b r f st kind = after_operand_name b 1 false f (ValueOf r ∷ st) kind

  abbrev pub arguments_started : Caller → List Frame → Place → TokenKind → Outcome
  arguments_started caller st p (k.Sign sg.CloseParen) = Ok (resulted caller [], st)
  arguments_started caller st p kind = outermost (Argument caller [] ∷ st) p kind

  abbrev pub changed_by : Place → TargetTree → List Frame → TokenKind → Option BinaryOperator → Outcome
  changed_by p target st kind (Some op) = Ok (WantOutermost, AssignedTo p target (Some op) ∷ st)
  changed_by p target st kind None = Err (wrong kind)

  abbrev pub after_target : Place → TargetTree → List Frame → TokenKind → Outcome
  after_target p target st (k.Sign sg.Equal) = Ok (WantOutermost, AssignedTo p target None ∷ st)
  after_target p target st (k.Sign sg.PlusPlus) = Ok (HaveSimple (stepped p target Add), st)
  after_target p target st (k.Sign sg.MinusMinus) = Ok (HaveSimple (stepped p target Sub), st)
  after_target p target st kind = changed_by p target st kind (assigning kind)

  abbrev pub after_name : Ident → List Frame → TokenKind → Outcome
  after_name x st (k.Sign sg.OpenBracket) = Ok (WantOutermost, TargetIndex (Written x.place) x ∷ st)
  after_name x st (k.Sign sg.OpenParen) = Ok (WantArguments (Alone x), st)
  after_name x st (k.Sign sg.Equal) = Ok (WantValue (Assigned x), st)
  after_name x st kind = after_target x.place (to_name x) st kind

  abbrev pub after_star : Use → List Frame → Place → TokenKind → Outcome
  after_star usage st p (k.Name n) = Ok (reached usage (to_deref (name (at n p))) st)
  after_star usage st p (k.Sign sg.OpenParen) = Ok (WantOutermost, TargetBehind usage ∷ st)
  after_star usage st p kind = Err (wrong kind)

  abbrev pub want_target : Place → BinaryOperator → List Frame → Place → TokenKind → Outcome
  want_target q op st p (k.Name n) = Ok (SteppedName q op (at n p), st)
  want_target q op st p (k.Sign sg.Star) = Ok (AfterStar (Stepped q op), st)
  want_target q op st p kind = Err (wrong kind)

  abbrev pub stepped_name : Place → BinaryOperator → Ident → List Frame → TokenKind → Outcome
  stepped_name q op x st (k.Sign sg.OpenBracket) = Ok (WantOutermost, TargetIndex (Stepped q op) x ∷ st)
  stepped_name q op x st kind = ended (stepped q (to_name x) op) st kind

  abbrev pub simple_started : List Frame → Place → TokenKind → Outcome
  simple_started st p (k.Name n) = Ok (AfterName (at n p), st)
  simple_started st p (k.Sign sg.Star) = Ok (AfterStar (Written p), st)
  simple_started st p (k.Sign sg.PlusPlus) = Ok (WantTarget p Add, st)
  simple_started st p (k.Sign sg.MinusMinus) = Ok (WantTarget p Sub, st)
  simple_started st p kind = Err (wrong kind)

  -- locals

  abbrev pub local_name : Kind → Ident → List Frame → TokenKind → Outcome
  local_name kd x st (k.Sign sg.OpenBracket) = Ok (LocalLength kd x, st)
  local_name kd x st (k.Sign sg.Equal) = Ok (WantValue (Begun (Int kd) x), st)
  local_name kd x st kind = local_ended (declare x.place (Int kd) x nothing) st kind

  abbrev pub local_star : Kind → List Frame → Place → TokenKind → Outcome
  local_star kd st p (k.Name n) = Ok (LocalPointer kd (at n p), st)
  local_star kd st p (k.Sign sg.Star) = leave (HaveLocal (skip p)) st
  local_star kd st p kind = Err (wrong kind)

  abbrev pub local_pointer : Kind → Ident → List Frame → TokenKind → Outcome
  local_pointer kd x st (k.Sign sg.Equal) = Ok (WantValue (Begun (Ptr kd) x), st)
  local_pointer kd x st (k.Sign sg.OpenBracket) = leave (HaveLocal (declare x.place (Ptr kd) x nothing)) st
  local_pointer kd x st kind = local_ended (declare x.place (Ptr kd) x nothing) st kind

  abbrev pub local_length : Kind → Ident → List Frame → TokenKind → Outcome
  local_length kd x st (k.Literal n j) = Ok (Expect true sg.CloseBracket (LocalArray kd x n), st)
  local_length kd x st kind = Err (wrong kind)

  abbrev pub local_array : Kind → Ident → ℕ → List Frame → TokenKind → Outcome
  local_array kd x n st (k.Sign sg.OpenBracket) = leave (HaveLocal (declare x.place (Array kd n) x nothing)) st
  local_array kd x n st (k.Sign sg.Equal) = leave (HaveLocal (declare x.place (Array kd n) x nothing)) st
  local_array kd x n st kind = local_ended (declare x.place (Array kd n) x nothing) st kind

  -- statements

  abbrev pub started : (around : ℕ) → List Frame → Place → TokenKind → Outcome
  started n st p (k.Sign sg.Semicolon) = Ok (HaveStmt (skip p), st)
  started n st p (k.Sign sg.OpenBrace) = Ok (InList (n + 1) no_more, BlockOf p ∷ st)
  started n st p (k.Word w.If) = Ok (Expect true sg.OpenParen WantOutermost, IfCondition n p ∷ st)
  started n st p (k.Word w.While) = Ok (Expect true sg.OpenParen WantOutermost, WhileCondition n p ∷ st)
  started n st p (k.Word w.Do) = Ok (WantStmt (n + 1), DoBody p ∷ st)
  started n st p (k.Word w.For) = Ok (Expect true sg.OpenParen (ForFirst n p), st)
  started n st p (k.Word w.Break) = Ok (Expect true sg.Semicolon (HaveStmt (break_ p)), st)
  started n st p (k.Word w.Continue) = Ok (Expect true sg.Semicolon (HaveStmt (continue_ p)), st)
  started n st p (k.Word w.Return) = Ok (AfterReturn p, st)
  started n st p (k.Word w.Lock) = Ok (Expect true sg.OpenParen (LockName p), st)
  started n st p (k.Word w.Unlock) = Ok (Expect true sg.OpenParen (UnlockName p), st)
  started n st p (k.Word w.Print) = Ok (Expect true sg.OpenParen WantOutermost, PrintValue p ∷ st)
  started n st p kind = simple_started (SimpleStmt ∷ st) p kind

  abbrev pub list_closed : StmtList → List Frame → Place → Outcome
  list_closed bs (BlockOf q ∷ st) p = Ok (HaveStmt (block q bs), st)
  list_closed bs (BodyOf x f xs held items ∷ st) p = Ok
      (InItems (items ++ closing_of_function x f xs held bs p ∷ []), st)
  list_closed bs st p = Err R5

  abbrev pub list_continued : (around : ℕ) → StmtList → List Frame → Place → TokenKind → Bool → Outcome
  list_continued n bs st p kind true = nested n (want_kind None (LocalsKind n bs ∷ st) kind)
  list_continued n bs st p kind false = nested n (started n (NextStmt n bs ∷ st) p kind)

  abbrev pub in_list : (around : ℕ) → StmtList → List Frame → Place → TokenKind → Outcome
  in_list n bs st p (k.Sign sg.CloseBrace) = list_closed bs st p
  in_list n bs st p kind = list_continued n bs st p kind (begins_kind kind)

  abbrev pub is_else : TokenKind → Bool
  is_else (k.Word w.Else) = true
  is_else kind = false

  abbrev pub is_while : TokenKind → Bool
  is_while (k.Word w.While) = true
  is_while kind = false

  -- a token behind a statement
  abbrev pub down_stmt : StmtTree → List Frame → Place → TokenKind → Outcome
  down_stmt a (IfThen n q c ∷ st) p kind = if is_else kind then Ok (WantStmt (n + 1), IfElse q c a ∷ st) else down_stmt
      (if_ q c a absent) st p kind
  down_stmt a (IfElse q c b ∷ st) p kind = down_stmt (if_ q c b (present a)) st p kind
  down_stmt a (WhileBody q c ∷ st) p kind = down_stmt (while_ q c a) st p kind
  down_stmt a (ForBody q i c x ∷ st) p kind = down_stmt (for_ q i c x a) st p kind
  down_stmt a (DoBody q ∷ st) p kind = if is_while kind then Ok
      (Expect true sg.OpenParen WantOutermost, DoCondition q a ∷ st) else Err (wrong kind)
  down_stmt a (NextStmt n bs ∷ st) p kind = in_list n (snoc bs a) st p kind
  down_stmt a st p kind = Err (wrong kind)

  abbrev pub for_first_started : (around : ℕ) → Place → List Frame → Place → TokenKind → Bool → Outcome
  for_first_started n q st p kind true = nested (n + 1) (want_kind None (FirstKind n q ∷ st) kind)
  for_first_started n q st p kind false = nested (n + 1) (simple_started (FirstSimple n q ∷ st) p kind)

  abbrev pub for_first : (around : ℕ) → Place → List Frame → Place → TokenKind → Outcome
  for_first n q st p (k.Sign sg.Semicolon) = Ok (ForSecond n q absent, st)
  for_first n q st p kind = for_first_started n q st p kind (begins_kind kind)

  abbrev pub for_second : (around : ℕ) → Place → StmtOption → List Frame → Place → TokenKind → Outcome
  for_second n q i st p (k.Sign sg.Semicolon) = Ok (ForThird n q i None, st)
  for_second n q i st p kind = outermost (ForCondition n q i ∷ st) p kind

  abbrev pub for_third : (around : ℕ) → Place → StmtOption → Option ExprTree → List Frame → Place → TokenKind → Outcome
  for_third n q i c st p (k.Sign sg.CloseParen) = Ok (WantStmt (n + 1), ForBody q i c absent ∷ st)
  for_third n q i c st p kind = nested (n + 1) (simple_started (AfterSimple n q i c ∷ st) p kind)

  abbrev pub after_return : Place → List Frame → Place → TokenKind → Outcome
  after_return q st p (k.Sign sg.Semicolon) = Ok (HaveStmt (return_ q None), st)
  after_return q st p kind = outermost (ReturnValue q ∷ st) p kind

  abbrev pub lock_name : (Ident → StmtTree) → List Frame → Place → TokenKind → Outcome
  lock_name form st p (k.Name n) =
      Ok (Expect true sg.CloseParen (Expect true sg.Semicolon (HaveStmt (form (at n p)))), st)
  lock_name form st p kind = Err (wrong kind)

  -- items

  abbrev pub item_started : (defined : Bool) → List ItemTree → List Frame → TokenKind → Outcome
  item_started d items st (k.Word w.Lock) = Ok (GlobalLock d items, st)
  item_started d items st (k.Word w.Shared) = Ok (Expect false sg.OpenParen (GlobalGuard d items), st)
  item_started d items st (k.Word w.Const) = Ok (WantKind None, CellsKind Constant d items ∷ st)
  item_started d items st (k.Word w.Void) = Ok (WantFunction d Void items, st)
  item_started d items st kind = want_kind None (ReturnKind d items ∷ st) kind

  abbrev pub in_items : List ItemTree → List Frame → TokenKind → Outcome
  in_items items st (k.Word w.Extern) = Ok (AfterExtern items, st)
  in_items items st kind = item_started true items st kind

  abbrev pub global_lock : (defined : Bool) → List ItemTree → List Frame → Place → TokenKind → Outcome
  global_lock d items st p (k.Name n) =
      Ok (Expect false sg.Semicolon (InItems (items ++ global (declared n form.Lock d) [] p ∷ [])), st)
  global_lock d items st p kind = Err R5

  abbrev pub global_guard : (defined : Bool) → List ItemTree → List Frame → Place → TokenKind → Outcome
  global_guard d items st p (k.Name n) =
      Ok (Expect false sg.CloseParen (WantKind None), CellsKind (Guarded (at n p)) d items ∷ st)
  global_guard d items st p kind = Err R5

  abbrev pub cells_ended : Data → Ident → Ty → List ℕ → List ItemTree → List Frame → TokenKind → Outcome
  cells_ended d x ty vs items st (k.Sign sg.Semicolon) = Ok (InItems (items ++ cells d x ty vs ∷ []), st)
  cells_ended d x ty vs items st kind = Err R5

  abbrev pub if_defined : Bool → Control → List Frame → Outcome
  if_defined true c st = Ok (c, st)
  if_defined false c st = Err R5

  abbrev pub cell_name : Data → Ident → List ItemTree → List Frame → TokenKind → Outcome
  cell_name d x items st (k.Sign sg.OpenBracket) = Ok (CellLength d x items, st)
  cell_name d x items st (k.Sign sg.Equal) = if_defined d.defined (CellValue d x items) st
  cell_name d x items st kind = cells_ended d x (Int d.kind) [] items st kind

  abbrev pub cell_length : Data → Ident → List ItemTree → List Frame → TokenKind → Outcome
  cell_length d x items st (k.Literal n j) = Ok (Expect false sg.CloseBracket (CellArray d x n items), st)
  cell_length d x items st kind = Err R5

  abbrev pub cell_array : Data → Ident → ℕ → List ItemTree → List Frame → TokenKind → Outcome
  cell_array d x n items st (k.Sign sg.OpenBracket) = leave (CellsEnd d x (Array d.kind n) [] items) st
  cell_array d x n items st (k.Sign sg.Equal) = if_defined d.defined
      (Expect false sg.OpenBrace (WantCells d x n [] items)) st
  cell_array d x n items st kind = cells_ended d x (Array d.kind n) [] items st kind

  abbrev pub cell_value : Data → Ident → List ItemTree → List Frame → TokenKind → Outcome
  cell_value d x items st (k.Literal n j) = Ok (CellsEnd d x (Int d.kind) (narrowed n d.kind ∷ []) items, st)
  cell_value d x items st (k.Sign sg.Minus) = Ok (CellNegative d x items, st)
  cell_value d x items st kind = Err R5

  abbrev pub cell_negative : Data → Ident → List ItemTree → List Frame → TokenKind → Outcome
  cell_negative d x items st (k.Literal n j) =
      Ok (CellsEnd d x (Int d.kind) (narrowed (word_sub 0 n) d.kind ∷ []) items, st)
  cell_negative d x items st kind = Err R5

  abbrev pub want_cells : Data → Ident → ℕ → List ℕ → List ItemTree → List Frame → TokenKind → Outcome
  want_cells d x n vs items st (k.Literal v j) = Ok (HaveCells d x n (vs ++ narrowed v d.kind ∷ []) items, st)
  want_cells d x n vs items st (k.Sign sg.Minus) = Ok (NegativeCells d x n vs items, st)
  want_cells d x n vs items st kind = Err R5

  abbrev pub negative_cells : Data → Ident → ℕ → List ℕ → List ItemTree → List Frame → TokenKind → Outcome
  negative_cells d x n vs items st (k.Literal v j) = Ok
      (HaveCells d x n (vs ++ narrowed (word_sub 0 v) d.kind ∷ []) items, st)
  negative_cells d x n vs items st kind = Err R5

  abbrev pub have_cells : Data → Ident → ℕ → List ℕ → List ItemTree → List Frame → TokenKind → Outcome
  have_cells d x n vs items st (k.Sign sg.Comma) = Ok (MoreCells d x n vs items, st)
  have_cells d x n vs items st (k.Sign sg.CloseBrace) = Ok (CellsEnd d x (Array d.kind n) vs items, st)
  have_cells d x n vs items st kind = Err R5

  abbrev pub more_cells : Data → Ident → ℕ → List ℕ → List ItemTree → List Frame → TokenKind → Outcome
  more_cells d x n vs items st (k.Sign sg.CloseBrace) = Ok (CellsEnd d x (Array d.kind n) vs items, st)
  more_cells d x n vs items st kind = want_cells d x n vs items st kind

  abbrev pub return_star : (defined : Bool) → Kind → List ItemTree → List Frame → Place → TokenKind → Outcome
  return_star d kd items st p (k.Sign sg.Star) = leave (WantFunction d (Ptr kd) items) st
  return_star d kd items st p kind = function_named d (Ptr kd) items st p kind

  abbrev pub plain_global : Opening → List ItemTree → List Frame → Outcome
  plain_global o items st =
      leave (InItems (items ++ global (declared o.name.name (form.Table o.ret) o.defined) [] o.name.place ∷ [])) st

  abbrev pub function_name : Opening → List ItemTree → List Frame → TokenKind → Outcome
  function_name o items st (k.Sign sg.OpenParen) = Ok (WantParameters o items, st)
  function_name o items st (k.Sign sg.OpenBracket) = plain_global o items st
  function_name o items st (k.Sign sg.Equal) = plain_global o items st
  function_name o items st (k.Sign sg.Semicolon) = plain_global o items st
  function_name o items st kind = Err R5

  abbrev pub want_parameters : Opening → List ItemTree → List Frame → TokenKind → Outcome
  want_parameters o items st (k.Sign sg.CloseParen) = Ok (AfterParameters o [] [] items, st)
  want_parameters o items st (k.Word w.Void) = Ok (Expect false sg.CloseParen (AfterParameters o [] [] items), st)
  want_parameters o items st kind = want_kind None (ParameterKind o [] [] items ∷ st) kind

  abbrev pub parameter_star : Opening → List Ty → List (Option Ident) → Kind → List ItemTree → List Frame → Place →
      TokenKind → Outcome
  parameter_star o tys xs kd items st p (k.Sign sg.Star) = leave (ParameterType o tys xs (Ptr kd) items) st
  parameter_star o tys xs kd items st p kind = parameter_typed o tys xs (Ptr kd) items st p kind

  -- a token behind a function's parameters and locks
  abbrev pub body_started : Ident → Form → List Place → List ItemTree → List Frame → Bool → Option (List Ident) →
      Outcome
  body_started x f held items st true (Some xs) = Ok (InList 0 no_more, BodyOf x f xs held items ∷ st)
  body_started x f held items st d names = Err R5

  abbrev pub after_head : Ident → Form → (defined : Bool) → List (Option Ident) → List Place → List ItemTree →
      List Frame → TokenKind → Outcome
  after_head x f d xs held items st (k.Sign sg.Semicolon) =
      Ok (InItems (items ++ prototype (declared x.name f false) held x.place ∷ []), st)
  after_head x f d xs held items st (k.Sign sg.OpenBrace) = body_started x f held items st d (all_named xs)
  after_head x f d xs held items st kind = Err R5

  abbrev pub after_parameters : Opening → List Ty → List (Option Ident) → List ItemTree → List Frame → TokenKind →
      Outcome
  after_parameters o tys xs items st (k.Word w.Holds) = Ok (Expect false sg.OpenParen (WantHeld o tys xs [] items), st)
  after_parameters o tys xs items st kind = after_head o.name (form.Function o.ret tys []) o.defined xs [] items st kind

  abbrev pub want_held : Opening → List Ty → List (Option Ident) → List Ident → List ItemTree → List Frame → Place →
      TokenKind → Outcome
  want_held o tys xs held items st p (k.Name n) = Ok (HaveHeld o tys xs (held ++ at n p ∷ []) items, st)
  want_held o tys xs held items st p kind = Err R5

  abbrev pub have_held : Opening → List Ty → List (Option Ident) → List Ident → List ItemTree → List Frame → TokenKind →
      Outcome
  have_held o tys xs held items st (k.Sign sg.Comma) = Ok (WantHeld o tys xs held items, st)
  have_held o tys xs held items st (k.Sign sg.CloseParen) =
      Ok (AfterHead o.name (form.Function o.ret tys (names_alone held)) o.defined xs (places_alone held) items, st)
  have_held o tys xs held items st kind = Err R5

  abbrev pub shift : Token → Control → List Frame → Outcome
  shift t (WantExpr b l) st = counted b (operand b l st t.place t.kind)
  shift t (HaveExpr b l x) st = have b l x st t.kind
  shift t (Given b x) st = down b t.kind x st
  shift t (Named b l taken x) st = after_operand_name b l taken x st t.kind
  shift t (Taking b l) st = taking b l st t.place t.kind
  shift t (Opened b l) st = opened b l st t.place t.kind
  shift t WantOutermost st = outermost st t.place t.kind
  shift t (WantValue r) st = value_started r st t.place t.kind
  shift t (MaybeCall b r f) st = maybe_call b r f st t.kind
  shift t (WantArguments caller) st = arguments_started caller st t.place t.kind
  shift t (WantKind b) st = want_kind b st t.kind
  shift t (Signed b) st = after_signed b st t.place t.kind
  shift t (Unsigned b) st = after_unsigned b st t.place t.kind
  shift t (MayEndInt b kd) st = may_end_int b kd st t.place t.kind
  shift t (HaveKind b kd) st = down_kind b kd st t.place t.kind
  shift t (Expect inside s c) st = if is s t.kind then Ok (c, st) else Err (wrong_where inside t.kind)
  shift t (WantTarget q op) st = want_target q op st t.place t.kind
  shift t (AfterName x) st = after_name x st t.kind
  shift t (AfterStar usage) st = after_star usage st t.place t.kind
  shift t (SteppedName q op x) st = stepped_name q op x st t.kind
  shift t (AfterTarget p target) st = after_target p target st t.kind
  shift t (HaveSimple a) st = ended a st t.kind
  shift t (WantLocal kd) st = local_started kd st t.place t.kind
  shift t (LocalName kd x) st = local_name kd x st t.kind
  shift t (LocalStar kd) st = local_star kd st t.place t.kind
  shift t (LocalPointer kd x) st = local_pointer kd x st t.kind
  shift t (LocalLength kd x) st = local_length kd x st t.kind
  shift t (LocalArray kd x n) st = local_array kd x n st t.kind
  shift t (HaveLocal a) st = local_ended a st t.kind
  shift t (WantStmt n) st = nested n (started n st t.place t.kind)
  shift t (HaveStmt a) st = down_stmt a st t.place t.kind
  shift t (InList n bs) st = in_list n bs st t.place t.kind
  shift t (ForFirst n q) st = for_first n q st t.place t.kind
  shift t (ForSecond n q i) st = for_second n q i st t.place t.kind
  shift t (ForThird n q i c) st = for_third n q i c st t.place t.kind
  shift t (AfterReturn q) st = after_return q st t.place t.kind
  shift t (LockName q) st = lock_name (lock q) st t.place t.kind
  shift t (UnlockName q) st = lock_name (unlock q) st t.place t.kind
  shift t (InItems items) st = in_items items st t.kind
  shift t (AfterExtern items) st = item_started false items st t.kind
  shift t (GlobalLock d items) st = global_lock d items st t.place t.kind
  shift t (GlobalGuard d items) st = global_guard d items st t.place t.kind
  shift t (CellName d x items) st = cell_name d x items st t.kind
  shift t (CellLength d x items) st = cell_length d x items st t.kind
  shift t (CellArray d x n items) st = cell_array d x n items st t.kind
  shift t (CellValue d x items) st = cell_value d x items st t.kind
  shift t (CellNegative d x items) st = cell_negative d x items st t.kind
  shift t (WantCells d x n vs items) st = want_cells d x n vs items st t.kind
  shift t (NegativeCells d x n vs items) st = negative_cells d x n vs items st t.kind
  shift t (HaveCells d x n vs items) st = have_cells d x n vs items st t.kind
  shift t (MoreCells d x n vs items) st = more_cells d x n vs items st t.kind
  shift t (CellsEnd d x ty vs items) st = cells_ended d x ty vs items st t.kind
  shift t (WantFunction d ty items) st = function_named d ty items st t.place t.kind
  shift t (ReturnStar d kd items) st = return_star d kd items st t.place t.kind
  shift t (FunctionName o items) st = function_name o items st t.kind
  shift t (WantParameters o items) st = want_parameters o items st t.kind
  shift t (WantParameter o tys xs items) st = want_kind None (ParameterKind o tys xs items ∷ st) t.kind
  shift t (ParameterStar o tys xs kd items) st = parameter_star o tys xs kd items st t.place t.kind
  shift t (ParameterType o tys xs ty items) st = parameter_typed o tys xs ty items st t.place t.kind
  shift t (ParameterName o tys xs ty x items) st = parameter_ended o (tys ++ ty ∷ []) (xs ++ Some x ∷ [])
      items st t.kind
  shift t (HaveParameter o tys xs items) st = parameter_ended o tys xs items st t.kind
  shift t (AfterParameters o tys xs items) st = after_parameters o tys xs items st t.kind
  shift t (WantHeld o tys xs held items) st = want_held o tys xs held items st t.place t.kind
  shift t (HaveHeld o tys xs held items) st = have_held o tys xs held items st t.kind
  shift t (AfterHead x f d xs held items) st = after_head x f d xs held items st t.kind

-- what the machine comes to: the items, or a fault where so many tokens are left
pub record Fault : Type 0 where
  pub code : ReadCode
  pub left : ℕ

abbrev pub Verdict : Type 0
Verdict = Result (List ItemTree) Fault

-- where the tokens end
abbrev pub finish : Control → Verdict
finish (InItems items) = Ok items
finish c = Err (record { code = R6; left = 0 })

-- goes on with what is left, or fails at the token before it
abbrev pub go : (Control → List Frame → Verdict) → (behind : ℕ) → Outcome → Verdict
go on behind (Ok next) = on next.0 next.1
go on behind (Err code) = Err (record { code = code; left = behind + 1 })

module _ (limits : Limits) where
  abbrev pub run : List Token → Control → List Frame → Verdict
  run [] c st = finish c
  run (t ∷ ts) c st =
      go (run ts) (length ts) (shift limits (nat_lt (length ts) limits.cut) (is_at limits.left_out (length ts)) t c st)
