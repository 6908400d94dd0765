-- What the frames and the control hold of the tokens before the next one: each says how these tokens are spelled so
-- far.
use Rattle.std.specs.Prelude.{◌≡◌, ◌≤◌, ℕ, ◌+◌, Bool, true, false, List, [], ◌∷◌, ◌++◌, map, length, Option, Some, None, Ok, Err}
use Rattle.cas_base.specs.declared.decl.Form.{Form}
use Rattle.cas_base.specs.declared.kind.Kind.{Kind}
use Rattle.cas_base.specs.declared.kind.Ty.{Ty}
use Rattle.cas_base.specs.declared.kind.Ty.TheVariants.{Int, Ptr}
use Rattle.cas_base.specs.declared.place.Place.{Place}
use Rattle.cas_lex.specs.declared.token.Token.{Token}
use Rattle.cas_lex.specs.declared.token.Word.TheVariants as w
use Rattle.cas_lex.specs.declared.token.Sign.TheVariants as sg
use Rattle.cas_syntax.specs.declared.tree.Ident.{Ident}
use Rattle.cas_syntax.specs.declared.tree.BinaryOperator.{BinaryOperator}
use Rattle.cas_syntax.specs.declared.tree.BinaryOperator.TheVariants.{Add, Sub}
use Rattle.cas_syntax.specs.Expressions.{Perhaps, SpellsKind, Spells, SpellsExpr, SpellsExprs}
use Rattle.cas_syntax.specs.Statements.{SpellsTarget, MayBeValue, SpellsSimple, SpellsLocal, SpellsLocals, SpellsFirst, SpellsAfter, SpellsOptional, dangles, SpellsStmt, SpellsStmts}
use Rattle.cas_syntax.specs.Items.{SpellsExtern, SpellsValue, SpellsValues, SpellsCells, SpellsType, SpellsReturn, SpellsParameter, SpellsParameters, SpellsParameterList, SpellsNames, SpellsHead, SpellsItems}
use Rattle.cas_syntax.specs.Limits.{Limits, AllowsDepth, AllowsTokens}
use Rattle.cas_syntax.specs.Operators.{Infix, level, infix_sign}
use Rattle.cas_syntax.specs.Tokens.{word, sign, ident, number, begins_call}
use Rattle.cas_syntax.specs.Tree.{ExprTree, TargetTree, StmtTree, assign, StmtOption, StmtList, no_more, one_more, ItemTree}
use Rattle.cas_parse.specs.Machine.{Outcome, prefixed}
use Rattle.cas_parse.specs.Frames.{Prefix, Receiver, Assigned, Begun, Caller, Alone, Keeps, Use, Written, Stepped, Opening, Sort, Guarded, Constant, Data}
use Rattle.cas_parse.specs.Frames.{Frame, Before, Right, InParens, InBrackets, Then, Otherwise, TargetIndex, TargetBehind, ValueOf, AssignedTo, Argument, IfCondition, WhileCondition, DoCondition, ForCondition, ReturnValue, PrintValue, CastKind, LocalsKind, FirstKind, ReturnKind, ParameterKind, CellsKind, SimpleStmt, FirstSimple, AfterSimple, Locals, FirstLocal, IfThen, IfElse, WhileBody, DoBody, ForBody, NextStmt, BlockOf, BodyOf}
use Rattle.cas_parse.specs.Frames.{Control, WantExpr, HaveExpr, Given, Named, Taking, Opened, WantOutermost, WantValue, MaybeCall, WantArguments, WantKind, Signed, Unsigned, MayEndInt, HaveKind, Expect, WantTarget, AfterName, AfterStar, SteppedName, AfterTarget, HaveSimple, WantLocal, LocalName, LocalStar, LocalPointer, LocalLength, LocalArray, HaveLocal, WantStmt, HaveStmt, InList, ForFirst, ForSecond, ForThird, AfterReturn, LockName, UnlockName}
use Rattle.cas_parse.specs.Frames.{InItems, AfterExtern, GlobalLock, GlobalGuard, CellName, CellLength, CellArray, CellValue, CellNegative, WantCells, NegativeCells, HaveCells, MoreCells, CellsEnd, WantFunction, ReturnStar, FunctionName, WantParameters, WantParameter, ParameterStar, ParameterType, ParameterName, HaveParameter, AfterParameters, WantHeld, HaveHeld, AfterHead}

-- statements, and behind them others
abbrev pub joined_lists : StmtList → StmtList → StmtList
joined_lists no_more bs = bs
joined_lists (one_more a as_) bs = one_more a (joined_lists as_ bs)

-- What frames wait for begins here. `all` is the whole list of tokens.

mutual
  -- statements that stand in so many others
  pub data ListAt (limits : Limits) (all : List Token) : List Frame → ℕ → List Token → Type 0 where
    of_body : {x : Ident} {f : Form} {xs : List Ident} {held : List Place} {items : List ItemTree} {p : Place}
        {st : List Frame} {s ts : List Token} →
        SpellsItems limits items all s → SpellsHead limits x f (map Some xs) held s (sign sg.OpenBrace p ∷ ts) →
        ListAt limits all (BodyOf x f xs held items ∷ st) 0 ts
    of_block : {n : ℕ} {p : Place} {st : List Frame} {ts : List Token} →
        AllowsDepth limits n (sign sg.OpenBrace p ∷ ts) →
        StmtAt limits all st n (sign sg.OpenBrace p ∷ ts) → ListAt limits all (BlockOf p ∷ st) (n + 1) ts

  -- a statement that stands in so many others
  pub data StmtAt (limits : Limits) (all : List Token) : List Frame → ℕ → List Token → Type 0 where
    next_of : {n : ℕ} {bs : StmtList} {st : List Frame} {from ts : List Token} → ListAt limits all st n from →
        SpellsStmts limits n bs from ts →
        StmtAt limits all (NextStmt n bs ∷ st) n ts
    then_of : {n : ℕ} {c : ExprTree} {p q q' : Place} {st : List Frame} {s ts : List Token} →
        AllowsDepth limits n (word w.If p ∷ sign sg.OpenParen q ∷ s) →
        StmtAt limits all st n (word w.If p ∷ sign sg.OpenParen q ∷ s) →
        SpellsExpr limits c s (sign sg.CloseParen q' ∷ ts) → StmtAt limits all (IfThen n p c ∷ st) (n + 1) ts
    else_of : {n : ℕ} {c : ExprTree} {a : StmtTree} {p q q' e : Place} {st : List Frame} {s t ts : List Token} →
        AllowsDepth limits n (word w.If p ∷ sign sg.OpenParen q ∷ s) →
        StmtAt limits all st n (word w.If p ∷ sign sg.OpenParen q ∷ s) →
        SpellsExpr limits c s (sign sg.CloseParen q' ∷ t) → SpellsStmt limits (n + 1) a t (word w.Else e ∷ ts) →
        dangles a ≡ false →
        StmtAt limits all (IfElse p c a ∷ st) (n + 1) ts
    while_of : {n : ℕ} {c : ExprTree} {p q q' : Place} {st : List Frame} {s ts : List Token} →
        AllowsDepth limits n (word w.While p ∷ sign sg.OpenParen q ∷ s) →
        StmtAt limits all st n (word w.While p ∷ sign sg.OpenParen q ∷ s) →
        SpellsExpr limits c s (sign sg.CloseParen q' ∷ ts) → StmtAt limits all (WhileBody p c ∷ st) (n + 1) ts
    do_of : {n : ℕ} {p : Place} {st : List Frame} {ts : List Token} → AllowsDepth limits n (word w.Do p ∷ ts) →
        StmtAt limits all st n (word w.Do p ∷ ts) → StmtAt limits all (DoBody p ∷ st) (n + 1) ts
    for_of : {n : ℕ} {i : StmtOption} {c : Option ExprTree} {u : StmtOption} {p q e f g : Place} {st : List Frame}
        {s t v ts : List Token} →
        AllowsDepth limits n (word w.For p ∷ sign sg.OpenParen q ∷ s) →
        StmtAt limits all st n (word w.For p ∷ sign sg.OpenParen q ∷ s) →
        SpellsFirst limits (n + 1) i s (sign sg.Semicolon e ∷ t) → SpellsOptional limits c t (sign sg.Semicolon f ∷ v) →
        SpellsAfter limits (n + 1) u v (sign sg.CloseParen g ∷ ts) → StmtAt limits all (ForBody p i c u ∷ st) (n + 1) ts

-- the parts of a `for`
pub data FirstAt (limits : Limits) (all : List Token) (st : List Frame) (n : ℕ) (p : Place) : List Token → Type 0 where
  first_at : {q : Place} {s : List Token} → AllowsDepth limits n (word w.For p ∷ sign sg.OpenParen q ∷ s) →
      StmtAt limits all st n (word w.For p ∷ sign sg.OpenParen q ∷ s) → FirstAt limits all st n p s

pub data SecondAt (limits : Limits) (all : List Token) (st : List Frame) (n : ℕ) (p : Place) (i : StmtOption)
    : List Token → Type 0 where
  second_at : {e : Place} {s t : List Token} → FirstAt limits all st n p s →
      SpellsFirst limits (n + 1) i s (sign sg.Semicolon e ∷ t) →
      SecondAt limits all st n p i t

pub data ThirdAt (limits : Limits) (all : List Token) (st : List Frame) (n : ℕ) (p : Place) (i : StmtOption)
    (c : Option ExprTree) : List Token → Type 0 where
  third_at : {f : Place} {t v : List Token} → SecondAt limits all st n p i t →
      SpellsOptional limits c t (sign sg.Semicolon f ∷ v) →
      ThirdAt limits all st n p i c v

-- an assignment or a call
pub data SimpleAt (limits : Limits) (all : List Token) : List Frame → List Token → Type 0 where
  of_stmt : {n : ℕ} {st : List Frame} {s : List Token} → AllowsDepth limits n s → StmtAt limits all st n s →
      SimpleAt limits all (SimpleStmt ∷ st) s
  of_first : {n : ℕ} {p : Place} {st : List Frame} {s : List Token} → FirstAt limits all st n p s →
      AllowsDepth limits (n + 1) s →
      SimpleAt limits all (FirstSimple n p ∷ st) s
  of_after : {n : ℕ} {p : Place} {i : StmtOption} {c : Option ExprTree} {st : List Frame} {s : List Token} →
      ThirdAt limits all st n p i c s →
      AllowsDepth limits (n + 1) s → SimpleAt limits all (AfterSimple n p i c ∷ st) s

-- with locals from the second list on, the statements are spelled from the first on
abbrev pub WithLocals : Limits → ℕ → Kind → StmtList → List Token → List Token → Type 0
WithLocals limits n k bs from t =
    (cs : StmtList) (p : Place) (u : List Token) → SpellsLocals limits k cs no_more t (sign sg.Semicolon p ∷ u) →
    SpellsStmts limits n (joined_lists bs cs) from u

-- a local of this kind
pub data LocalAt (limits : Limits) (all : List Token) : List Frame → Kind → List Token → Type 0 where
  of_list : {n : ℕ} {k : Kind} {bs : StmtList} {st : List Frame} {from t : List Token} → ListAt limits all st n from →
      WithLocals limits n k bs from t → LocalAt limits all (Locals n k bs ∷ st) k t
  of_for : {n : ℕ} {p : Place} {k : Kind} {st : List Frame} {s t : List Token} → FirstAt limits all st n p s →
      AllowsDepth limits (n + 1) s →
      SpellsKind k s t → LocalAt limits all (FirstLocal n p ∷ st) k t

-- a value
pub data ReceiverAt (limits : Limits) (all : List Token) : Receiver → List Frame → List Token → Type 0 where
  assigned : {x : Ident} {p : Place} {st : List Frame} {s : List Token} →
      SimpleAt limits all st (ident x ∷ sign sg.Equal p ∷ s) →
      ReceiverAt limits all (Assigned x) st s
  begun : {k : Kind} {x : Ident} {p : Place} {st : List Frame} {s : List Token} →
      LocalAt limits all st k (ident x ∷ sign sg.Equal p ∷ s) →
      ReceiverAt limits all (Begun (Int k) x) st s
  begun_pointer : {k : Kind} {x : Ident} {p q : Place} {st : List Frame} {s : List Token} →
      LocalAt limits all st k (sign sg.Star q ∷ ident x ∷ sign sg.Equal p ∷ s) →
      ReceiverAt limits all (Begun (Ptr k) x) st s

-- the arguments of a call
pub data CallerAt (limits : Limits) (all : List Token) : Caller → List Frame → List Token → Type 0 where
  alone : {f : Ident} {p : Place} {st : List Frame} {s : List Token} →
      SimpleAt limits all st (ident f ∷ sign sg.OpenParen p ∷ s) →
      CallerAt limits all (Alone f) st s
  keeps : {r : Receiver} {f : Ident} {p : Place} {st : List Frame} {s : List Token} →
      ReceiverAt limits all r st (ident f ∷ sign sg.OpenParen p ∷ s) →
      CallerAt limits all (Keeps r f) st s

-- a target
pub data UseAt (limits : Limits) (all : List Token) : Use → List Frame → List Token → Type 0 where
  written : {first : Token} {st : List Frame} {s : List Token} → SimpleAt limits all st (first ∷ s) →
      UseAt limits all (Written first.place) st (first ∷ s)
  increased : {p : Place} {st : List Frame} {s : List Token} → SimpleAt limits all st (sign sg.PlusPlus p ∷ s) →
      UseAt limits all (Stepped p Add) st s
  decreased : {p : Place} {st : List Frame} {s : List Token} → SimpleAt limits all st (sign sg.MinusMinus p ∷ s) →
      UseAt limits all (Stepped p Sub) st s

-- a target that any value may be assigned to
abbrev pub TakesCalls : TargetTree → Type 0
TakesCalls target = (tokens : List Token) → MayBeValue target tokens

-- with expressions from the second list on, these and those are spelled from the first on
abbrev pub WithExprs : Limits → List ExprTree → List Token → List Token → Type 0
WithExprs limits xs s t = (ys : List ExprTree) (r : List Token) → SpellsExprs limits ys t r →
    SpellsExprs limits (xs ++ ys) s r

-- an outermost expression
pub data OuterAt (limits : Limits) (all : List Token) : List Frame → List Token → Type 0 where
  in_target : {usage : Use} {x : Ident} {p : Place} {st : List Frame} {s : List Token} →
      UseAt limits all usage st (ident x ∷ sign sg.OpenBracket p ∷ s) →
      OuterAt limits all (TargetIndex usage x ∷ st) s
  behind_star : {usage : Use} {o p : Place} {st : List Frame} {s : List Token} →
      UseAt limits all usage st (sign sg.Star o ∷ sign sg.OpenParen p ∷ s) →
      OuterAt limits all (TargetBehind usage ∷ st) s
  as_value : {r : Receiver} {st : List Frame} {s : List Token} → ReceiverAt limits all r st s → begins_call s ≡ false →
      OuterAt limits all (ValueOf r ∷ st) s
  as_assigned : {p : Place} {target : TargetTree} {op : Option BinaryOperator} {st : List Frame} {from s : List Token} →
      SimpleAt limits all st from →
      ((a : ExprTree) (r : List Token) → SpellsExpr limits a s r → SpellsSimple limits (assign p target op a) from r) →
      OuterAt limits all (AssignedTo p target op ∷ st) s
  as_argument : {caller : Caller} {xs : List ExprTree} {st : List Frame} {s t : List Token} →
      CallerAt limits all caller st s → WithExprs limits xs s t →
      OuterAt limits all (Argument caller xs ∷ st) t
  if_condition : {n : ℕ} {p q : Place} {st : List Frame} {s : List Token} →
      AllowsDepth limits n (word w.If p ∷ sign sg.OpenParen q ∷ s) →
      StmtAt limits all st n (word w.If p ∷ sign sg.OpenParen q ∷ s) → OuterAt limits all (IfCondition n p ∷ st) s
  while_condition : {n : ℕ} {p q : Place} {st : List Frame} {s : List Token} →
      AllowsDepth limits n (word w.While p ∷ sign sg.OpenParen q ∷ s) →
      StmtAt limits all st n (word w.While p ∷ sign sg.OpenParen q ∷ s) → OuterAt limits all (WhileCondition n p ∷ st) s
  do_condition : {n : ℕ} {p o q : Place} {a : StmtTree} {st : List Frame} {s t : List Token} →
      AllowsDepth limits n (word w.Do p ∷ s) →
      StmtAt limits all st n (word w.Do p ∷ s) → SpellsStmt limits (n + 1) a s
      (word w.While o ∷ sign sg.OpenParen q ∷ t) →
      OuterAt limits all (DoCondition p a ∷ st) t
  for_condition : {n : ℕ} {p : Place} {i : StmtOption} {st : List Frame} {s : List Token} →
      SecondAt limits all st n p i s →
      OuterAt limits all (ForCondition n p i ∷ st) s
  return_value : {n : ℕ} {p : Place} {st : List Frame} {s : List Token} → AllowsDepth limits n (word w.Return p ∷ s) →
      StmtAt limits all st n (word w.Return p ∷ s) → OuterAt limits all (ReturnValue p ∷ st) s
  print_value : {n : ℕ} {p q : Place} {st : List Frame} {s : List Token} →
      AllowsDepth limits n (word w.Print p ∷ sign sg.OpenParen q ∷ s) →
      StmtAt limits all st n (word w.Print p ∷ sign sg.OpenParen q ∷ s) → OuterAt limits all (PrintValue p ∷ st) s

-- a name, or `&` and a name
pub data NameFrom : (taken : Bool) → Ident → List Token → List Token → Type 0 where
  plain : {x : Ident} {r : List Token} → NameFrom false x (ident x ∷ r) r
  taken : {x : Ident} {p : Place} {r : List Token} → NameFrom true x (sign sg.And p ∷ ident x ∷ r) r

-- an expression of this level, in an outermost one that begins at the first list
pub data ExprAt (limits : Limits) (all : List Token) : List Frame → ℕ → List Token → List Token → Type 0 where
  outermost_at : {st : List Frame} {s : List Token} → OuterAt limits all st s → ExprAt limits all st 1 s s
  before_at : {l : ℕ} {f : Prefix} {st : List Frame} {start from s : List Token} → ExprAt limits all st l start from →
      ((m : ℕ) (x : ExprTree) (r : List Token) → Spells limits 12 x s r → Spells limits m (prefixed f x) from r) →
      ExprAt limits all (Before l f ∷ st) 12 start s
  right_at : {l : ℕ} {op : Infix} {x : ExprTree} {p : Place} {st : List Frame} {start from s : List Token} →
      ExprAt limits all st l start from →
      l ≤ level op → Spells limits (level op) x from (sign (infix_sign op) p ∷ s) →
      ExprAt limits all (Right l op x ∷ st) (level op + 1) start s
  parens_at : {l : ℕ} {p : Place} {st : List Frame} {start s : List Token} →
      ExprAt limits all st l start (sign sg.OpenParen p ∷ s) →
      ExprAt limits all (InParens l ∷ st) 1 start s
  brackets_at : {l : ℕ} {b : Bool} {x : Ident} {p : Place} {st : List Frame} {start from s : List Token} →
      ExprAt limits all st l start from →
      NameFrom b x from (sign sg.OpenBracket p ∷ s) → ExprAt limits all (InBrackets l b x ∷ st) 1 start s
  then_at : {l : ℕ} {c : ExprTree} {p : Place} {st : List Frame} {start from s : List Token} →
      ExprAt limits all st l start from → l ≤ 1 →
      Spells limits 2 c from (sign sg.Question p ∷ s) → ExprAt limits all (Then l c ∷ st) 1 start s
  otherwise_at : {l : ℕ} {c a : ExprTree} {p q : Place} {st : List Frame} {start from s t : List Token} →
      ExprAt limits all st l start from → l ≤ 1 →
      Spells limits 2 c from (sign sg.Question p ∷ s) → Spells limits 1 a s (sign sg.Colon q ∷ t) →
      ExprAt limits all (Otherwise l c a ∷ st) 1 start t

-- so many tokens stand from the first list on to the second, and an outermost expression may go so far
abbrev pub Budget : Limits → ℕ → List Token → List Token → Type 0
Budget limits used start ts = (used + length ts ≡ length start) × AllowsTokens limits start ts

abbrev pub BudgetOf : Limits → Option ℕ → Option (List Token) → List Token → Type 0
BudgetOf limits (Some used) (Some start) ts = Budget limits used start ts
BudgetOf limits None None ts = Unit {0}
BudgetOf limits (Some used) None ts = ⊥
BudgetOf limits None (Some start) ts = ⊥

-- an item behind others, from its `extern` on; and what follows that
pub data ItemAt (limits : Limits) (all : List Token) (items : List ItemTree) (d : Bool) (t : List Token) : Type 0 where
  item_at : {s : List Token} → SpellsItems limits items all s → SpellsExtern d s t → ItemAt limits all items d t

-- the kind of a global's cells
pub data SortAt (limits : Limits) (all : List Token) (items : List ItemTree) (d : Bool) : Sort → List Token →
    Type 0 where
  guarded : {guard : Ident} {p q q' : Place} {t : List Token} →
      ItemAt limits all items d (word w.Shared p ∷ sign sg.OpenParen q ∷ ident guard ∷ sign sg.CloseParen q' ∷ t) →
      SortAt limits all items d (Guarded guard) t
  constant : {p : Place} {t : List Token} → ItemAt limits all items d (word w.Const p ∷ t) →
      SortAt limits all items d Constant t

-- a global's name
pub data CellsAt (limits : Limits) (all : List Token) (items : List ItemTree) (d : Data) (u : List Token) : Type 0 where
  cells_at : {t : List Token} → SortAt limits all items d.defined d.sort t → SpellsKind d.kind t u →
      CellsAt limits all items d u

-- a global's values, between braces
pub data ValuesAt (limits : Limits) (all : List Token) (items : List ItemTree) (d : Data) (x : Ident) (n : ℕ)
    (s : List Token) : Type 0 where
  values_at : {j : Kind} {p o q e f : Place} → d.defined ≡ true →
      CellsAt limits all items d (ident x ∷ sign sg.OpenBracket p ∷ number n j o ∷ sign sg.CloseBracket q ∷ sign
      sg.Equal e ∷ sign sg.OpenBrace f ∷ s) →
      ValuesAt limits all items d x n s

abbrev pub WithValues : Kind → List ℕ → List Token → List Token → Type 0
WithValues k vs s t = (us : List ℕ) (r : List Token) → SpellsValues k us t r → SpellsValues k (vs ++ us) s r

-- a function's parameters
pub data HeadAt (limits : Limits) (all : List Token) (items : List ItemTree) (o : Opening) (u : List Token)
    : Type 0 where
  head_at : {p : Place} {t : List Token} → ItemAt limits all items o.defined t →
      SpellsReturn limits o.ret t (ident o.name ∷ sign sg.OpenParen p ∷ u) →
      HeadAt limits all items o u

abbrev pub WithParameters : Limits → List Ty → List (Option Ident) → List Token → List Token → Type 0
WithParameters limits tys xs s t =
    (more_tys : List Ty) (more_xs : List (Option Ident)) (r : List Token) →
    SpellsParameterList limits more_tys more_xs t r →
    SpellsParameterList limits (tys ++ more_tys) (xs ++ more_xs) s r

-- a further parameter
pub data ParameterAt (limits : Limits) (all : List Token) (items : List ItemTree) (o : Opening) (tys : List Ty)
    (xs : List (Option Ident)) (t : List Token) : Type 0 where
  parameter_at : {s : List Token} → HeadAt limits all items o s → WithParameters limits tys xs s t →
      ParameterAt limits all items o tys xs t

-- the end of a function's parameters
pub data AfterAt (limits : Limits) (all : List Token) (items : List ItemTree) (o : Opening) (tys : List Ty)
    (xs : List (Option Ident)) (u : List Token) : Type 0 where
  after_at : {q : Place} {s : List Token} → HeadAt limits all items o s →
      SpellsParameters limits tys xs s (sign sg.CloseParen q ∷ u) →
      AfterAt limits all items o tys xs u

abbrev pub WithNames : List Ident → List Token → List Token → Type 0
WithNames xs s t = (ys : List Ident) (r : List Token) → SpellsNames ys t r → SpellsNames (xs ++ ys) s r

-- a further lock that a function's caller holds
pub data HeldAt (limits : Limits) (all : List Token) (items : List ItemTree) (o : Opening) (tys : List Ty)
    (xs : List (Option Ident)) (held : List Ident) (t : List Token) : Type 0 where
  held_at : {p q : Place} {s : List Token} → AfterAt limits all items o tys xs
      (word w.Holds p ∷ sign sg.OpenParen q ∷ s) → WithNames held s t →
      HeldAt limits all items o tys xs held t

-- the words of a kind; inside an expression the outermost one begins at the first list
pub data KindAt (limits : Limits) (all : List Token) : List Frame → Option (List Token) → List Token → Type 0 where
  cast_at : {l : ℕ} {p : Place} {st : List Frame} {start s : List Token} →
      ExprAt limits all st l start (sign sg.OpenParen p ∷ s) →
      KindAt limits all (CastKind l ∷ st) (Some start) s
  locals_at : {n : ℕ} {bs : StmtList} {st : List Frame} {from s : List Token} → ListAt limits all st n from →
      SpellsStmts limits n bs from s →
      AllowsDepth limits n s → KindAt limits all (LocalsKind n bs ∷ st) None s
  first_kind_at : {n : ℕ} {p : Place} {st : List Frame} {s : List Token} → FirstAt limits all st n p s →
      AllowsDepth limits (n + 1) s →
      KindAt limits all (FirstKind n p ∷ st) None s
  return_at : {d : Bool} {items : List ItemTree} {st : List Frame} {s : List Token} → ItemAt limits all items d s →
      KindAt limits all (ReturnKind d items ∷ st) None s
  parameter_kind_at : {o : Opening} {tys : List Ty} {xs : List (Option Ident)} {items : List ItemTree} {st : List Frame}
      {s : List Token} →
      ParameterAt limits all items o tys xs s → KindAt limits all (ParameterKind o tys xs items ∷ st) None s
  cells_kind_at : {sort : Sort} {d : Bool} {items : List ItemTree} {st : List Frame} {s : List Token} →
      SortAt limits all items d sort s →
      KindAt limits all (CellsKind sort d items ∷ st) None s

module _ (limits : Limits) (all : List Token) where
  -- the control and the frames are what the tokens up to here give
  abbrev pub Holds : Control → List Frame → List Token → Type 0
  Holds (WantExpr b l) st ts = (start : List Token) × Budget limits b start ts × ExprAt limits all st l start ts
  Holds (HaveExpr b l x) st ts =
      (start : List Token) × (from : List Token) × Budget limits b start ts × ((m : ℕ) → Spells limits m x from ts)
      × ExprAt limits all st l start from
  Holds (Given b x) st ts = ⊥
  Holds (Named b l t x) st ts =
      (start : List Token) × (from : List Token) × Budget limits b start ts × NameFrom t x from ts
      × ExprAt limits all st l start from
  Holds (Taking b l) st ts = (start : List Token) × (p : Place) × Budget limits b start ts
      × ExprAt limits all st l start (sign sg.And p ∷ ts)
  Holds (Opened b l) st ts = (start : List Token) × (p : Place) × Budget limits b start ts
      × ExprAt limits all st l start (sign sg.OpenParen p ∷ ts)
  Holds WantOutermost st ts = OuterAt limits all st ts
  Holds (WantValue r) st ts = ReceiverAt limits all r st ts
  Holds (MaybeCall b r f) st ts = Budget limits b (ident f ∷ ts) ts × ReceiverAt limits all r st (ident f ∷ ts)
  Holds (WantArguments caller) st ts = CallerAt limits all caller st ts
  Holds (WantKind b) st ts = (start : Option (List Token)) × BudgetOf limits b start ts × KindAt limits all st start ts
  Holds (Signed b) st ts = (start : Option (List Token)) × (p : Place) × BudgetOf limits b start ts
      × KindAt limits all st start (word w.Signed p ∷ ts)
  Holds (Unsigned b) st ts = (start : Option (List Token)) × (p : Place) × BudgetOf limits b start ts
      × KindAt limits all st start (word w.Unsigned p ∷ ts)
  Holds (MayEndInt b k) st ts =
      (start : Option (List Token)) × (s : List Token) × BudgetOf limits b start ts × KindAt limits all st start s ×
      ((r : List Token) → Perhaps w.Int ts r → SpellsKind k s r)
  Holds (HaveKind b k) st ts = (start : Option (List Token)) × (s : List Token) × BudgetOf limits b start ts
      × KindAt limits all st start s × SpellsKind k s ts
  Holds (Expect inside s c) st ts = (q : Place) (us : List Token) → ts ≡ sign s q ∷ us → Holds c st us
  Holds (WantTarget q op) st ts = UseAt limits all (Stepped q op) st ts
  Holds (AfterName x) st ts = SimpleAt limits all st (ident x ∷ ts)
  Holds (AfterStar usage) st ts = (p : Place) × UseAt limits all usage st (sign sg.Star p ∷ ts)
  Holds (SteppedName q op x) st ts = UseAt limits all (Stepped q op) st (ident x ∷ ts)
  Holds (AfterTarget p target) st ts = (from : List Token) × UseAt limits all (Written p) st from
      × SpellsTarget limits target from ts × TakesCalls target
  Holds (HaveSimple a) st ts = (from : List Token) × SimpleAt limits all st from × SpellsSimple limits a from ts
  Holds (WantLocal k) st ts = LocalAt limits all st k ts
  Holds (LocalName k x) st ts = LocalAt limits all st k (ident x ∷ ts)
  Holds (LocalStar k) st ts = (p : Place) × LocalAt limits all st k (sign sg.Star p ∷ ts)
  Holds (LocalPointer k x) st ts = (p : Place) × LocalAt limits all st k (sign sg.Star p ∷ ident x ∷ ts)
  Holds (LocalLength k x) st ts = (p : Place) × LocalAt limits all st k (ident x ∷ sign sg.OpenBracket p ∷ ts)
  Holds (LocalArray k x n) st ts =
      (j : Kind) × (p : Place) × (o : Place) × (q : Place) ×
      LocalAt limits all st k (ident x ∷ sign sg.OpenBracket p ∷ number n j o ∷ sign sg.CloseBracket q ∷ ts)
  Holds (HaveLocal a) st ts = (k : Kind) × (from : List Token) × LocalAt limits all st k from
      × SpellsLocal limits k a from ts
  Holds (WantStmt n) st ts = StmtAt limits all st n ts
  Holds (HaveStmt a) st ts = (n : ℕ) × (from : List Token) × StmtAt limits all st n from × SpellsStmt limits n a from ts
      × (dangles a ≡ false)
  Holds (InList n bs) st ts = (from : List Token) × ListAt limits all st n from × SpellsStmts limits n bs from ts
  Holds (ForFirst n p) st ts = FirstAt limits all st n p ts
  Holds (ForSecond n p i) st ts = SecondAt limits all st n p i ts
  Holds (ForThird n p i c) st ts = ThirdAt limits all st n p i c ts
  Holds (AfterReturn p) st ts = (n : ℕ) × AllowsDepth limits n (word w.Return p ∷ ts)
      × StmtAt limits all st n (word w.Return p ∷ ts)
  Holds (LockName p) st ts =
      (n : ℕ) × (q : Place) × AllowsDepth limits n (word w.Lock p ∷ sign sg.OpenParen q ∷ ts)
      × StmtAt limits all st n (word w.Lock p ∷ sign sg.OpenParen q ∷ ts)
  Holds (UnlockName p) st ts =
      (n : ℕ) × (q : Place) × AllowsDepth limits n (word w.Unlock p ∷ sign sg.OpenParen q ∷ ts) ×
      StmtAt limits all st n (word w.Unlock p ∷ sign sg.OpenParen q ∷ ts)
  Holds (InItems items) st ts = SpellsItems limits items all ts
  Holds (AfterExtern items) st ts = ItemAt limits all items false ts
  Holds (GlobalLock d items) st ts = (p : Place) × ItemAt limits all items d (word w.Lock p ∷ ts)
  Holds (GlobalGuard d items) st ts = (p : Place) × (q : Place)
      × ItemAt limits all items d (word w.Shared p ∷ sign sg.OpenParen q ∷ ts)
  Holds (CellName d x items) st ts = CellsAt limits all items d (ident x ∷ ts)
  Holds (CellLength d x items) st ts = (p : Place) × CellsAt limits all items d (ident x ∷ sign sg.OpenBracket p ∷ ts)
  Holds (CellArray d x n items) st ts =
      (j : Kind) × (p : Place) × (o : Place) × (q : Place) ×
      CellsAt limits all items d (ident x ∷ sign sg.OpenBracket p ∷ number n j o ∷ sign sg.CloseBracket q ∷ ts)
  Holds (CellValue d x items) st ts = (p : Place) × (d.defined ≡ true)
      × CellsAt limits all items d (ident x ∷ sign sg.Equal p ∷ ts)
  Holds (CellNegative d x items) st ts =
      (p : Place) × (q : Place) × (d.defined ≡ true) × CellsAt limits all items d
      (ident x ∷ sign sg.Equal p ∷ sign sg.Minus q ∷ ts)
  Holds (WantCells d x n vs items) st ts = (s : List Token) × ValuesAt limits all items d x n s
      × WithValues d.kind vs s ts
  Holds (NegativeCells d x n vs items) st ts = (s : List Token) × (p : Place) × ValuesAt limits all items d x n s
      × WithValues d.kind vs s (sign sg.Minus p ∷ ts)
  Holds (HaveCells d x n vs items) st ts =
      (s : List Token) × (t : List Token) × (us : List ℕ) × (v : ℕ) × (vs ≡ us ++ v ∷ [])
      × ValuesAt limits all items d x n s × WithValues d.kind us s t ×
      SpellsValue d.kind v t ts
  Holds (MoreCells d x n vs items) st ts = (s : List Token) × ValuesAt limits all items d x n s
      × WithValues d.kind vs s ts × SpellsValues d.kind vs s ts
  Holds (CellsEnd d x ty vs items) st ts = (u : List Token) × CellsAt limits all items d u
      × SpellsCells limits d.defined d.kind x ty vs u ts
  Holds (WantFunction d ty items) st ts = (t : List Token) × ItemAt limits all items d t × SpellsReturn limits ty t ts
  Holds (ReturnStar d k items) st ts = (t : List Token) × (p : Place) × ItemAt limits all items d t
      × SpellsKind k t (sign sg.Star p ∷ ts)
  Holds (FunctionName o items) st ts = (t : List Token) × ItemAt limits all items o.defined t
      × SpellsReturn limits o.ret t (ident o.name ∷ ts)
  Holds (WantParameters o items) st ts = HeadAt limits all items o ts
  Holds (WantParameter o tys xs items) st ts = ParameterAt limits all items o tys xs ts
  Holds (ParameterStar o tys xs k items) st ts = (t : List Token) × (p : Place)
      × ParameterAt limits all items o tys xs t × SpellsKind k t (sign sg.Star p ∷ ts)
  Holds (ParameterType o tys xs ty items) st ts = (t : List Token) × ParameterAt limits all items o tys xs t
      × SpellsType limits ty t ts
  Holds (ParameterName o tys xs ty x items) st ts = (t : List Token) × ParameterAt limits all items o tys xs t
      × SpellsType limits ty t (ident x ∷ ts)
  Holds (HaveParameter o tys xs items) st ts =
      (t : List Token) × (tys' : List Ty) × (ty : Ty) × (xs' : List (Option Ident)) × (x : Option Ident) × (left : ℕ) ×
      (tys ≡ tys' ++ ty ∷ []) × (xs ≡ xs' ++ x ∷ []) × ParameterAt limits all items o tys' xs' t
      × SpellsParameter limits ty x t ts ×
      (limits.left_out ≡ Some left) × (length ts ≤ left)
  Holds (AfterParameters o tys xs items) st ts = AfterAt limits all items o tys xs ts
  Holds (WantHeld o tys xs held items) st ts = HeldAt limits all items o tys xs held ts
  Holds (HaveHeld o tys xs held items) st ts =
      (held' : List Ident) × (x : Ident) × (held ≡ held' ++ x ∷ [])
      × HeldAt limits all items o tys xs held' (ident x ∷ ts)
  Holds (AfterHead x f d xs held items) st ts = (t : List Token) × ItemAt limits all items d t
      × SpellsHead limits x f xs held t ts

  abbrev pub HoldsAfter : List Token → Outcome → Type 0
  HoldsAfter ts (Ok next) = Holds next.0 next.1 ts
  HoldsAfter ts (Err code) = Unit {0}
