-- Each token of an expression leads to a valid state, and its fault is the one that the machine names.
use Rattle.std.proofs.Common.{ℕ, ◌+◌, ◌<◌, Bool, true, false, ◌||◌, if◌then◌else◌, nat_le, nat_lt, List, [], ◌∷◌, ◌++◌, Option, Some, None, Ok, Err, refl, arith}
use Rattle.cas_base.specs.declared.kind.Kind.{Kind}
use Rattle.cas_base.specs.declared.place.Place.{Place}
use Rattle.cas_lex.specs.declared.code.ReadCode.TheVariants.{R5, R7}
use Rattle.cas_lex.specs.declared.token.TokenKind.{TokenKind}
use Rattle.cas_lex.specs.declared.token.TokenKind.TheVariants as k
use Rattle.cas_lex.specs.declared.token.Word.TheVariants as w
use Rattle.cas_lex.specs.declared.token.Sign.{Sign}
use Rattle.cas_lex.specs.declared.token.Sign.TheVariants as sg
use Rattle.cas_syntax.specs.declared.tree.Ident.{Ident}
use Rattle.cas_syntax.specs.Limits.{Limits}
use Rattle.cas_syntax.specs.Operators.{Infix, joined}
use Rattle.cas_syntax.specs.Tree.{ExprTree, conditional, TargetTree, to_name, to_index, to_deref, value, StmtTree, declare, assign, do_, return_, print, present, StmtList}
use Rattle.cas_parse.specs.Frames.{Receiver, Assigned, Begun, Caller, Alone, Keeps, Use, Written, Stepped}
use Rattle.cas_parse.specs.Frames.{Frame, InParens, Otherwise, ValueOf, Argument, IfThen, WhileBody, ForBody}
use Rattle.cas_parse.specs.Frames.{Control, WantExpr, HaveExpr, Expect, WantStmt, HaveStmt, ForSecond, ForThird}
use Rattle.cas_parse.proofs.Valid.{AnExpr, ASimple, ALocal, AnEnd, receives, calls, Stands, on_before, on_right, on_parens, on_brackets, on_then, on_otherwise, on_target_index, on_target_behind, on_value, on_assigned, on_argument, on_if, on_while, on_do, on_for, on_return, on_print, on_cast, on_simple, on_first_simple, on_after_simple, on_locals, on_first_local, on_if_then, on_while_body, on_for_body, Valid, Stays, Judged, goes_on, limited_here, left_out_here, const_inside, refused}
use Rattle.cas_parse.specs.Machine.{Outcome, snoc, wrong, binds, infix_of, is, named, bracketed, prefixed, reached, resulted, require, ended, in_locals, local_ended, received, argued, limited, counted, counted_in, leave, operand, outermost, risen, operated, down, have, after_operand_name, taking, opened, value_started, maybe_call, arguments_started, nested}

-- what an outcome is, by whether limits aren't asked, and whether a form that is left out may stand
abbrev pub Fits : (inside : Bool) → TokenKind → (Bool → Bool → Outcome) → Type 0
Fits inside kind by = Judged inside kind (by false false) (by true false) (by true true)

-- a step inside a function's body
pub comes : {kind : TokenKind} {o : Control × List Frame} → Valid o.0 o.1 → Judged true kind (Ok o) (Ok o) (Ok o)
comes {o = o} v = goes_on o (record { valid = v; stays = tt })

pub wrong_fits : (kind : TokenKind) → Judged true kind (Err (wrong kind)) (Err (wrong kind)) (Err (wrong kind))
wrong_fits (k.Word w.Const) = const_inside refl refl
wrong_fits kind = refused (λ i e. cc)

pub outside_fits : (kind : TokenKind) → Judged false kind (Err R5) (Err R5) (Err R5)
outside_fits kind = refused (λ i e. cc)

pub require_fits : (s : Sign) (kind : TokenKind) (o a b : Outcome) → Judged true kind o a b →
    Judged true kind (require s kind o) (require s kind a) (require s kind b)
require_fits s kind o a b h = by_test (is s kind)
  where
    by_test : (t : Bool) → Judged true kind (if t then o else Err (wrong kind)) (if t then a else Err (wrong kind))
        (if t then b else Err (wrong kind))
    by_test true = h
    by_test false = wrong_fits kind

pub limited_fits : {i : Bool} {kind : TokenKind} (test : Bool) {o a b : Outcome} → Judged i kind o a b →
    Judged i kind (limited (test || false) o) (limited (test || true) a) (limited (test || true) b)
limited_fits true (goes_on n c) = goes_on n c
limited_fits true (limited_here n c) = limited_here n c
limited_fits true (left_out_here n c) = left_out_here n c
limited_fits true (const_inside i e) = const_inside i e
limited_fits true (refused h) = refused h
limited_fits false (goes_on n c) = limited_here n c
limited_fits false (limited_here n c) = limited_here n c
limited_fits false (left_out_here n c) = left_out_here n c
limited_fits false (const_inside i e) = const_inside i e
limited_fits false (refused h) = refused h

module _ (limits : Limits) where
  pub counted_fits : {i : Bool} {kind : TokenKind} (n : ℕ) {o a b : Outcome} → Judged i kind o a b →
      Judged i kind (counted limits false false n o) (counted limits true false n a) (counted limits true true n b)
  counted_fits n h = limited_fits (nat_lt n limits.tokens) h

  pub counted_in_fits : {i : Bool} {kind : TokenKind} (n : Option ℕ) {o a b : Outcome} → Judged i kind o a b →
      Judged i kind (counted_in limits false false n o) (counted_in limits true false n a)
      (counted_in limits true true n b)
  counted_in_fits None h = h
  counted_in_fits (Some n) h = counted_fits n h

  pub nested_fits : {i : Bool} {kind : TokenKind} (n : ℕ) {o a b : Outcome} → Judged i kind o a b →
      Judged i kind (nested limits false false n o) (nested limits true false n a) (nested limits true true n b)
  nested_fits n h = limited_fits (nat_lt n limits.depth) h

  pub leave_fits : {i : Bool} {kind : TokenKind} (c : Control) (st : List Frame) → Valid c st → Stays i kind c st →
      Fits i kind (λ near leaves. leave limits near leaves c st)
  leave_fits c st v s = left_out_here (c, st) (record { valid = v; stays = s })

  pub operand_fits : (b l : ℕ) (st : List Frame) (p : Place) (kind : TokenKind) → 0 < l → Stands AnExpr st →
      Fits true kind (λ near leaves. operand limits near leaves b l st p kind)
  operand_fits b l st p (k.Name n) f h = comes (f, h)
  operand_fits b l st p (k.Literal n kd) f h = comes (f, h)
  operand_fits b l st p (k.Sign sg.OpenParen) f h = comes (f, h)
  operand_fits b l st p (k.Sign sg.Minus) f h = comes (omega arith, on_before l _ st f h)
  operand_fits b l st p (k.Sign sg.Plus) f h = comes (omega arith, on_before l _ st f h)
  operand_fits b l st p (k.Sign sg.Tilde) f h = comes (omega arith, on_before l _ st f h)
  operand_fits b l st p (k.Sign sg.Not) f h = comes (omega arith, on_before l _ st f h)
  operand_fits b l st p (k.Sign sg.Star) f h = comes (omega arith, on_before l _ st f h)
  operand_fits b l st p (k.Sign sg.And) f h = comes (f, h)
  operand_fits b l st p kind f h = wrong_fits kind

  pub outermost_fits : (st : List Frame) (p : Place) (kind : TokenKind) → Stands AnExpr st →
      Fits true kind (λ near leaves. outermost limits near leaves st p kind)
  outermost_fits st p kind h = counted_fits 0 (operand_fits 0 1 st p kind (omega arith) h)

  risen_fits : (b l : ℕ) (x : ExprTree) (st : List Frame) (op : Option Infix) (kind : TokenKind) → 0 < l →
      Stands AnExpr st → Fits true kind (λ near leaves. risen limits near leaves b l x st op)
  risen_fits b l x st (Some op) kind f h = comes (omega arith, on_right l op x st f h)
  risen_fits b l x st None kind f h = comes (omega arith, on_then l x st f h)

  operated_fits : (b l : ℕ) (x : ExprTree) (st : List Frame) (kind : TokenKind) (o a a' : Outcome) → 0 < l →
      Stands AnExpr st → Judged true kind o a a' →
      Judged true kind (operated limits false false b l x st kind o) (operated limits true false b l x st kind a)
      (operated limits true true b l x st kind a')
  operated_fits b l x st kind o a a' f h below = by_test (nat_le l (binds kind))
    where
      by_test : (t : Bool) →
          Judged true kind (if t then counted limits false false b (risen limits false false b l x st (infix_of kind))
          else o)
          (if t then counted limits true false b (risen limits true false b l x st (infix_of kind)) else a)
          (if t then counted limits true true b (risen limits true true b l x st (infix_of kind)) else a')
      by_test true = counted_fits b (risen_fits b l x st (infix_of kind) kind f h)
      by_test false = below

-- a sign that has to stand, and what it leads to
pub needs : (s : Sign) (kind : TokenKind) (n : Control × List Frame) → Valid n.0 n.1 →
    Fits true kind (λ near leaves. require s kind (Ok n))
needs s kind n v = require_fits s kind (Ok n) (Ok n) (Ok n) (comes v)

pub ended_fits : {st : List Frame} → Stands ASimple st → (a : StmtTree) (kind : TokenKind) →
    Fits true kind (λ near leaves. ended a st kind)
ended_fits (on_simple st h) a kind = needs sg.Semicolon kind (HaveStmt a, st) h
ended_fits (on_first_simple n p st h) a kind = needs sg.Semicolon kind (ForSecond n p (present a), st) h
ended_fits (on_after_simple n p i c st h) a kind = needs sg.CloseParen kind
    (WantStmt (n + 1), ForBody p i c (present a) ∷ st) (on_for_body p i c (present a) st h)

in_locals_fits : (n : ℕ) (kd : Kind) (bs : StmtList) (st : List Frame) (kind : TokenKind) → Stands AnEnd st →
    Fits true kind (λ near leaves. in_locals n kd bs st kind)
in_locals_fits n kd bs st (k.Sign sg.Comma) h = comes (on_locals n kd bs st h)
in_locals_fits n kd bs st (k.Sign sg.Semicolon) h = comes h
in_locals_fits n kd bs st kind h = wrong_fits kind

pub local_ended_fits : {st : List Frame} → Stands ALocal st → (a : StmtTree) (kind : TokenKind) →
    Fits true kind (λ near leaves. local_ended a st kind)
local_ended_fits (on_locals n kd bs st h) a kind = in_locals_fits n kd (snoc bs a) st kind h
local_ended_fits (on_first_local n p st h) a kind = needs sg.Semicolon kind (ForSecond n p (present a), st) h

received_fits : (r : Receiver) {st : List Frame} → Stands (receives r) st → (a : ExprTree) (kind : TokenKind) →
    Fits true kind (λ near leaves. received r a st kind)
received_fits (Assigned x) h a kind = ended_fits h (assign x.place (to_name x) None a) kind
received_fits (Begun ty x) h a kind = local_ended_fits h (declare x.place ty x (value a)) kind

-- the stack that a call's result or a target leads to
pub resulted_valid : (caller : Caller) (xs : List ExprTree) (st : List Frame) → Stands (calls caller) st →
    Valid (resulted caller xs) st
resulted_valid (Alone f) xs st h = h
resulted_valid (Keeps (Assigned x) f) xs st h = h
resulted_valid (Keeps (Begun ty x) f) xs st h = h

pub reached_valid : (usage : Use) (t : TargetTree) (st : List Frame) → Stands ASimple st →
    Valid (reached usage t st).0 (reached usage t st).1
reached_valid (Written p) t st h = h
reached_valid (Stepped p op) t st h = h

argued_fits : (caller : Caller) (xs : List ExprTree) (st : List Frame) (kind : TokenKind) → Stands (calls caller) st →
    Fits true kind (λ near leaves. argued caller xs st kind)
argued_fits caller xs st (k.Sign sg.Comma) h = comes (on_argument caller xs st h)
argued_fits caller xs st (k.Sign sg.CloseParen) h = comes (resulted_valid caller xs st h)
argued_fits caller xs st kind h = wrong_fits kind

module _ (limits : Limits) where
  -- a sign that has to stand inside an expression
  counted_needs : (s : Sign) (kind : TokenKind) (b : ℕ) (n : Control × List Frame) → Valid n.0 n.1 →
      Fits true kind (λ near leaves. require s kind (counted limits near leaves b (Ok n)))
  counted_needs s kind b n v = require_fits s kind _ _ _ (counted_fits limits b (comes v))

  down_fits : {st : List Frame} → Stands AnExpr st → (b : ℕ) (kind : TokenKind) (x : ExprTree) →
      Fits true kind (λ near leaves. down limits near leaves b kind x st)
  down_fits (on_before l p st f h) b kind x = operated_fits limits b l (prefixed p x) st kind _ _ _ f h
      (down_fits h b kind (prefixed p x))
  down_fits (on_right l op y st f h) b kind x = operated_fits limits b l (joined op y x) st kind _ _ _ f h
      (down_fits h b kind (joined op y x))
  down_fits (on_otherwise l c y st f h) b kind x = operated_fits limits b l (conditional c y x) st kind _ _ _ f h
      (down_fits h b kind (conditional c y x))
  down_fits (on_parens l st f h) b kind x = counted_needs sg.CloseParen kind b (HaveExpr (b + 1) l x, st) (f, h)
  down_fits (on_brackets l taken i st f h) b kind x = counted_needs sg.CloseBracket kind b
      (HaveExpr (b + 1) l (bracketed taken i x), st) (f, h)
  down_fits (on_then l c st f h) b kind x = counted_needs sg.Colon kind b (WantExpr (b + 1) 1, Otherwise l c x ∷ st)
      (omega arith, on_otherwise l c x st f h)
  down_fits (on_target_index usage i st h) b kind x = needs sg.CloseBracket kind (reached usage (to_index i x) st)
      (reached_valid usage (to_index i x) st h)
  down_fits (on_target_behind usage st h) b kind x = needs sg.CloseParen kind (reached usage (to_deref x) st)
      (reached_valid usage (to_deref x) st h)
  down_fits (on_value r st h) b kind x = received_fits r h x kind
  down_fits (on_assigned p t op st h) b kind x = ended_fits h (assign p t op x) kind
  down_fits (on_argument caller xs st h) b kind x = argued_fits caller (xs ++ x ∷ []) st kind h
  down_fits (on_if n p st h) b kind x = needs sg.CloseParen kind (WantStmt (n + 1), IfThen n p x ∷ st)
      (on_if_then n p x st h)
  down_fits (on_while n p st h) b kind x = needs sg.CloseParen kind (WantStmt (n + 1), WhileBody p x ∷ st)
      (on_while_body p x st h)
  down_fits (on_do p a st h) b kind x = needs sg.CloseParen kind (Expect true sg.Semicolon (HaveStmt (do_ p a x)), st)
      (refl, refl, h)
  down_fits (on_for n p i st h) b kind x = needs sg.Semicolon kind (ForThird n p i (Some x), st) h
  down_fits (on_return p st h) b kind x = needs sg.Semicolon kind (HaveStmt (return_ p (Some x)), st) h
  down_fits (on_print p st h) b kind x = needs sg.CloseParen kind (Expect true sg.Semicolon (HaveStmt (print p x)), st)
      (refl, refl, h)

  pub have_fits : (b l : ℕ) (x : ExprTree) (st : List Frame) (kind : TokenKind) → 0 < l → Stands AnExpr st →
      Fits true kind (λ near leaves. have limits near leaves b l x st kind)
  have_fits b l x st kind f h = operated_fits limits b l x st kind _ _ _ f h (down_fits h b kind x)

  pub after_operand_name_fits : (b l : ℕ) (taken : Bool) (x : Ident) (st : List Frame) (kind : TokenKind) → 0 < l →
      Stands AnExpr st →
      Fits true kind (λ near leaves. after_operand_name limits near leaves b l taken x st kind)
  after_operand_name_fits b l taken x st (k.Sign sg.OpenBracket) f h =
      counted_fits limits b (comes (omega arith, on_brackets l taken x st f h))
  after_operand_name_fits b l taken x st (k.Sign sg.OpenParen) f h = by_test (nat_lt b limits.tokens)
    where
      by_test : (t : Bool) → Judged true (k.Sign sg.OpenParen) (Err R7) (Err R7)
          (limited (t || true) (Ok (HaveExpr (b + 1) l (named taken x), st)))
      by_test true = left_out_here (HaveExpr (b + 1) l (named taken x), st) (record { valid = (f, h); stays = tt })
      by_test false = left_out_here (HaveExpr (b + 1) l (named taken x), st) (record { valid = (f, h); stays = tt })
  after_operand_name_fits b l taken x st kind f h = have_fits b l (named taken x) st kind f h

  pub taking_fits : (b l : ℕ) (st : List Frame) (p : Place) (kind : TokenKind) → 0 < l → Stands AnExpr st →
      Fits true kind (λ near leaves. taking limits near leaves b l st p kind)
  taking_fits b l st p (k.Name n) f h = counted_fits limits b (comes (f, h))
  taking_fits b l st p kind f h = wrong_fits kind

  -- a cast begins, or an expression
  pub opened_fits : (b l : ℕ) (st : List Frame) (p : Place) (kind : TokenKind) → 0 < l → Stands AnExpr st →
      Fits true kind (λ near leaves. opened limits near leaves b l st p kind)
  opened_fits b l st p (k.Word w.Char) f h = counted_fits limits b (comes (on_cast l st f h))
  opened_fits b l st p (k.Word w.Short) f h = counted_fits limits b (comes (on_cast l st f h))
  opened_fits b l st p (k.Word w.Int) f h = counted_fits limits b (comes (on_cast l st f h))
  opened_fits b l st p (k.Word w.Unsigned) f h = counted_fits limits b (comes (on_cast l st f h))
  opened_fits b l st p (k.Word w.Signed) f h = counted_fits limits b (comes (on_cast l st f h))
  opened_fits b l st p kind f h = counted_fits limits b
      (operand_fits limits b 1 (InParens l ∷ st) p kind (omega arith) (on_parens l st f h))

  pub value_started_fits : (r : Receiver) (st : List Frame) (p : Place) (kind : TokenKind) → Stands (receives r) st →
      Fits true kind (λ near leaves. value_started limits near leaves r st p kind)
  value_started_fits r st p (k.Name n) h = counted_fits limits 0 (comes h)
  value_started_fits r st p kind h = outermost_fits limits (ValueOf r ∷ st) p kind (on_value r st h)

  pub maybe_call_fits : (b : ℕ) (r : Receiver) (f : Ident) (st : List Frame) (kind : TokenKind) →
      Stands (receives r) st → Fits true kind (λ near leaves. maybe_call limits near leaves b r f st kind)
  maybe_call_fits b r f st (k.Sign sg.OpenParen) h = comes h
  maybe_call_fits b r f st kind h = after_operand_name_fits b 1 false f (ValueOf r ∷ st) kind (omega arith)
      (on_value r st h)

  pub arguments_started_fits : (caller : Caller) (st : List Frame) (p : Place) (kind : TokenKind) →
      Stands (calls caller) st → Fits true kind (λ near leaves. arguments_started limits near leaves caller st p kind)
  arguments_started_fits caller st p (k.Sign sg.CloseParen) h = comes (resulted_valid caller [] st h)
  arguments_started_fits caller st p kind h = outermost_fits limits (Argument caller [] ∷ st) p kind
      (on_argument caller [] st h)
