-- What the machine does with a value inside an expression, before it sees the next token.
use Rattle.std.proofs.Common.{◌≡◌, ℕ, ◌+◌, ◌≤◌, ◌<◌, List, [], ◌∷◌, ◌++◌, Bool, true, false, nat_le, refl, ap, arith, Some}
use Rattle.cas_base.specs.declared.kind.Kind.{Kind}
use Rattle.cas_lex.specs.declared.token.Token.{Token}
use Rattle.cas_lex.specs.declared.token.TokenKind.{TokenKind}
use Rattle.cas_lex.specs.declared.token.TokenKind.TheVariants as k
use Rattle.cas_lex.specs.declared.token.Sign.TheVariants as sg
use Rattle.cas_syntax.specs.declared.tree.Ident.{Ident}
use Rattle.cas_syntax.specs.declared.tree.Expr.{Expr}
use Rattle.cas_read_expr.specs.declared.call.Value.TheVariants as vv
use Rattle.cas_syntax.specs.Operators.{Infix, joined}
use Rattle.cas_syntax.specs.Reading.{within}
use Rattle.cas_syntax.specs.Tokens.{begins_call, is_name, is_opening_paren}
use Rattle.cas_syntax.specs.Tree.{ExprTree, conditional, expr_tree}
use Rattle.cas_parse.specs.Frames.{Prefix, Casts, Receiver, Caller, Frame, Before, Right, InParens, InBrackets, Then, Otherwise, CastKind, ValueOf, Argument, WantExpr, HaveExpr, Given, Opened, WantKind, HaveKind, WantOutermost, WantValue, MaybeCall, Named}
use Rattle.cas_parse.specs.Machine.{binding, infix_of, prefixed, bracketed, counted, risen, value_started, outermost, argued, maybe_call, after_operand_name, at}
use Rattle.cas_read_expr.specs.Follow.{verdict, taken, takes, closes, next_begins_kind, next_opens, has_value}

-- an operator, or none that binds as tightly
pub takes_operator : (ts : List Token) (t : Token) (rest : List Token) (b l : ℕ) (x : ExprTree) (st : List Frame) →
    ts ≡ t ∷ rest → l ≤ binding (infix_of t.kind) t.kind
    → verdict ts (HaveExpr b l x) st ≡ taken rest (counted (within 0) false false b
    (risen (within 0) false false b l x st (infix_of t.kind)))
takes_operator ts t rest b l x st e h = let e' : nat_le l (binding (infix_of t.kind) t.kind) ≡ true =
    grind arith in rw (e, e')

pub takes_no_operator : (ts : List Token) (t : Token) (rest : List Token) (b l : ℕ) (x : ExprTree) (st : List Frame) →
    ts ≡ t ∷ rest → binding (infix_of t.kind) t.kind < l
    → verdict ts (HaveExpr b l x) st ≡ verdict ts (Given b x) st
takes_no_operator ts t rest b l x st e h = let e' : nat_le l (binding (infix_of t.kind) t.kind) ≡ false =
    grind arith in rw (e, e')

-- values inside expressions

pub given_before : (ts : List Token) (b l : ℕ) (f : Prefix) (x : ExprTree) (st : List Frame) →
    verdict ts (Given b x) (Before l f ∷ st) ≡ verdict ts (HaveExpr b l (prefixed f x)) st
given_before [] b l f x st = refl
given_before (t ∷ ts) b l f x st = refl

pub given_right : (ts : List Token) (b l : ℕ) (op : Infix) (x y : ExprTree) (st : List Frame) →
    verdict ts (Given b y) (Right l op x ∷ st) ≡ verdict ts (HaveExpr b l (joined op x y)) st
given_right [] b l op x y st = refl
given_right (t ∷ ts) b l op x y st = refl

pub given_otherwise : (ts : List Token) (b l : ℕ) (c x y : ExprTree) (st : List Frame) →
    verdict ts (Given b y) (Otherwise l c x ∷ st) ≡ verdict ts (HaveExpr b l (conditional c x y)) st
given_otherwise [] b l c x y st = refl
given_otherwise (t ∷ ts) b l c x y st = refl

pub given_then : (ts : List Token) (b l : ℕ) (c x : ExprTree) (st : List Frame) →
    verdict ts (Given b x) (Then l c ∷ st) ≡ closes sg.Colon b ts (WantExpr (b + 1) 1) (Otherwise l c x ∷ st)
given_then [] b l c x st = refl
given_then (t ∷ ts) b l c x st = refl

pub given_in_parens : (ts : List Token) (b l : ℕ) (x : ExprTree) (st : List Frame) →
    verdict ts (Given b x) (InParens l ∷ st) ≡ closes sg.CloseParen b ts (HaveExpr (b + 1) l x) st
given_in_parens [] b l x st = refl
given_in_parens (t ∷ ts) b l x st = refl

pub given_in_brackets : (ts : List Token) (b l : ℕ) (addressed : Bool) (i : Ident) (x : ExprTree) (st : List Frame) →
    verdict ts (Given b x) (InBrackets l addressed i ∷ st) ≡ closes sg.CloseBracket b ts
    (HaveExpr (b + 1) l (bracketed addressed i x)) st
given_in_brackets [] b l addressed i x st = refl
given_in_brackets (t ∷ ts) b l addressed i x st = refl

pub cast_of : (ts : List Token) (b l : ℕ) (kd : Kind) (st : List Frame) →
    verdict ts (HaveKind (Some b) kd) (CastKind l ∷ st) ≡ closes sg.CloseParen b ts (WantExpr (b + 1) 12)
    (Before l (Casts kd) ∷ st)
cast_of [] b l kd st = refl
cast_of (t ∷ ts) b l kd st = refl

-- behind `(`

pub opens_cast : (ts : List Token) (b l : ℕ) (st : List Frame) → next_begins_kind ts ≡ true →
    verdict ts (Opened b l) st ≡ verdict ts (WantKind (Some b)) (CastKind l ∷ st)
opens_cast [] b l st h = refl
opens_cast (t ∷ ts) b l st h = rw h

pub opens_expr : (ts : List Token) (b l : ℕ) (st : List Frame) → next_begins_kind ts ≡ false →
    verdict ts (Opened b l) st ≡ verdict ts (WantExpr b 1) (InParens l ∷ st)
opens_expr [] b l st h = refl
opens_expr (t ∷ ts) b l st h = rw h

-- outermost expressions

pub wants_outermost : (ts : List Token) (st : List Frame) → verdict ts WantOutermost st ≡ verdict ts (WantExpr 0 1) st
wants_outermost [] st = refl
wants_outermost (t ∷ ts) st = refl

-- behind a name that isn't called
not_called : (ts : List Token) (r : Receiver) (i : Ident) (st : List Frame) → next_opens ts ≡ false →
    verdict ts (MaybeCall 1 r i) st ≡ verdict ts (Named 1 1 false i) (ValueOf r ∷ st)
not_called [] r i st h = refl
not_called (t ∷ ts) r i st h = ap (taken ts) (by_kind t.kind h)
  where
    by_kind : (kind : TokenKind) → is_opening_paren kind ≡ false →
        maybe_call (within 0) false false 1 r i st kind ≡ after_operand_name (within 0) false false 1 1 false i
        (ValueOf r ∷ st) kind
    by_kind (k.Sign sg.OpenParen) h = cc
    by_kind _ h = refl

pub wants_no_call : (ts : List Token) (r : Receiver) (st : List Frame) → begins_call ts ≡ false →
    verdict ts (WantValue r) st ≡ verdict ts WantOutermost (ValueOf r ∷ st)
wants_no_call [] r st h = refl
wants_no_call (t ∷ ts) r st h = by_kind t.kind (opens t.kind ts h)
  where
    opens : (kind : TokenKind) (ts : List Token) → (begins_call (record { kind = kind; place = t.place } ∷ ts))
        ≡ false → is_name kind ≡ true → next_opens ts ≡ false
    opens (k.Name n) [] h e = refl
    opens (k.Name n) (u ∷ us) h e = h
    opens _ ts h e = cc

    by_kind : (kind : TokenKind) → (is_name kind ≡ true → next_opens ts ≡ false) →
        taken ts (value_started (within 0) false false r st t.place kind) ≡ taken ts
        (outermost (within 0) false false (ValueOf r ∷ st) t.place kind)
    by_kind (k.Name n) h = not_called ts r (at n t.place) st (h refl)
    by_kind _ h = refl

pub given_value : (ts : List Token) (b : ℕ) (x : Expr) (r : Receiver) (st : List Frame) →
    verdict ts (Given b (expr_tree x)) (ValueOf r ∷ st) ≡ has_value ts r (vv.Expr x) st
given_value [] b x r st = refl
given_value (t ∷ ts) b x r st = refl

pub given_argument : (ts : List Token) (b : ℕ) (x : ExprTree) (caller : Caller) (xs : List ExprTree) (st : List Frame) →
    verdict ts (Given b x) (Argument caller xs ∷ st) ≡ takes ts (λ p kind. argued caller (xs ++ x ∷ []) st kind)
given_argument [] b x caller xs st = refl
given_argument (t ∷ ts) b x caller xs st = refl
