-- From each state that awaits a part of a function's body the text can be completed, where no limit is asked.
use Rattle.std.proofs.Common.{◌≡◌, ℕ, ◌+◌, ◌≤◌, ◌<◌, Bool, true, false, ◌||◌, if◌then◌else◌, nat_le, nat_lt, List, [], ◌∷◌, ◌++◌, length, Option, None, Ok, refl, ap, ◌∙◌, arith}
use Rattle.cas_syntax.specs.Reading.{is_opening_brace, OpensNothing}
use Rattle.cas_syntax.specs.Tokens.{sign, number}
use Rattle.cas_base.specs.declared.kind.Kind.TheVariants.{I32}
use Rattle.cas_base.specs.declared.place.Place.{Place}
use Rattle.cas_lex.specs.declared.token.Token.{Token}
use Rattle.cas_lex.specs.declared.token.TokenKind.{TokenKind}
use Rattle.cas_lex.specs.declared.token.TokenKind.TheVariants as k
use Rattle.cas_lex.specs.declared.token.Word.TheVariants as w
use Rattle.cas_lex.specs.declared.token.Sign.{Sign}
use Rattle.cas_lex.specs.declared.token.Sign.TheVariants as sg
use Rattle.cas_syntax.specs.declared.tree.BinaryOperator.TheVariants.{Add}
use Rattle.cas_syntax.specs.Limits.{Limits}
use Rattle.cas_syntax.specs.Tree.{ExprTree, TargetTree, StmtTree, skip, for_, StmtOption, absent, StmtList, ItemTree}
use Rattle.cas_parse.specs.Frames.{Use, Written, Stepped}
use Rattle.cas_parse.specs.Frames.{Frame, ForBody}
use Rattle.cas_parse.specs.Frames.{Control, HaveExpr, Expect, HaveSimple, HaveLocal, WantStmt, HaveStmt, InList, ForSecond, ForThird}
use Rattle.cas_parse.specs.Machine.{Outcome, reached, stepped, limited, counted, operated, risen, infix_of, down, binds, is_at, shift, go, run}

abbrev pub here : Place
here = record { line = 1; col = 1 }

-- a name, and 0
abbrev pub some_name : Token
some_name = record { kind = k.Name []; place = here }

abbrev pub zero_literal : Token
zero_literal = number 0 I32 here

-- these tokens close a function's body: a closing brace ends them, and they open none
abbrev pub ClosesBody : List Token → Type 0
ClosesBody tokens = (others : List Token) × (p : Place) × OpensNothing others
    × (tokens ≡ others ++ sign sg.CloseBrace p ∷ [])

-- tokens that complete a text from a state on, where no limit is asked; inside a function's body they close that
pub record Completion (inside : Bool) (c : Control) (st : List Frame) : Type 0 where
  pub others : List Token
  pub items : List ItemTree
  pub ends : (limits : Limits) → length others ≤ limits.cut → run limits others c st ≡ Ok items
  pub body : inside ≡ true → ClosesBody others

-- the same with a first token of which something is known
pub record Ending (inside : Bool) (first_is : TokenKind → Bool) (c : Control) (st : List Frame) : Type 0 where
  pub first : Token
  pub rest : List Token
  pub items : List ItemTree
  pub fits : first_is first.kind ≡ true
  pub ends : (limits : Limits) → length (first ∷ rest) ≤ limits.cut → run limits (first ∷ rest) c st ≡ Ok items
  pub body : inside ≡ true → ClosesBody (first ∷ rest)

pub whole : {i : Bool} {first_is : TokenKind → Bool} {c : Control} {st : List Frame} → Ending i first_is c st →
    Completion i c st
whole r = record { others = r.first ∷ r.rest; items = r.items; ends = r.ends; body = r.body }

-- a token that is taken where no limit is asked
pub step : (limits : Limits) (t : Token) (ts : List Token) (c : Control) (st : List Frame) (n : Control × List Frame) →
    ((leaves : Bool) → shift limits true leaves t c st ≡ Ok n) →
    length (t ∷ ts) ≤ limits.cut → run limits (t ∷ ts) c st ≡ run limits ts n.0 n.1
step limits t ts c st n by le =
    let e : nat_lt (length ts) limits.cut ≡ true = grind arith in
    ap (λ (near : Bool). go (run limits ts) (length ts) (shift limits near (is_at limits.left_out (length ts)) t c st))
    e
    ∙ ap (λ (o : Outcome). go (run limits ts) (length ts) o) (by (is_at limits.left_out (length ts)))

closes_more : (t : Token) (ts : List Token) → is_opening_brace t.kind ≡ false → ClosesBody ts → ClosesBody (t ∷ ts)
closes_more t ts e h = (t ∷ h.0, h.1, rw e h.2, ap (λ (us : List Token). t ∷ us) h.3)

abbrev pub Takes : Token → Control → List Frame → Control × List Frame → Type 0
Takes t c st n = (limits : Limits) (leaves : Bool) → shift limits true leaves t c st ≡ Ok n

pub begin : {i : Bool} {first_is : TokenKind → Bool} {c : Control} {st : List Frame} (t : Token)
    (n : Control × List Frame) → Takes t c st n → first_is t.kind ≡ true →
    (i ≡ true → is_opening_brace t.kind ≡ false) → Completion i n.0 n.1 → Ending i first_is c st
begin {c = c} {st = st} t n by fits clear r = record {
  first = t;
  rest = r.others;
  items = r.items;
  fits = fits;
  ends = λ limits le. step limits t r.others c st n (by limits) le ∙ r.ends limits (omega arith);
  body = λ e. closes_more t r.others (clear e) (r.body e);
}

pub more : {i : Bool} {c : Control} {st : List Frame} (t : Token) (n : Control × List Frame) → Takes t c st n →
    (i ≡ true → is_opening_brace t.kind ≡ false) → Completion i n.0 n.1 → Completion i c st
more t n by clear r = whole (begin {first_is = λ kind. true} t n by refl clear r)

-- where a token is taken alike from another state
pub alike : {i : Bool} {first_is : TokenKind → Bool} {c c' : Control} {st st' : List Frame} →
    ((limits : Limits) (near leaves : Bool) (t : Token) → first_is t.kind ≡ true →
    shift limits near leaves t c st ≡ shift limits near leaves t c' st') →
    Ending i first_is c' st' → Ending i first_is c st
alike by r = record {
  first = r.first;
  rest = r.rest;
  items = r.items;
  fits = r.fits;
  ends = λ limits le. ap (λ (o : Outcome). go (run limits r.rest) (length r.rest) o)
      (by limits (nat_lt (length r.rest) limits.cut) (is_at limits.left_out (length r.rest)) r.first r.fits)
      ∙ r.ends limits le;
  body = r.body;
}

-- what may stand behind an expression, an assignment, a call or a local
abbrev pub closes : TokenKind → Bool
closes (k.Sign sg.CloseParen) = true
closes (k.Sign sg.CloseBracket) = true
closes (k.Sign sg.Colon) = true
closes (k.Sign sg.Semicolon) = true
closes kind = false

-- what may stand behind a statement
abbrev pub follows_stmt : TokenKind → Bool
follows_stmt (k.Sign sg.CloseBrace) = true
follows_stmt (k.Word w.While) = true
follows_stmt kind = false

binds_none : (kind : TokenKind) → closes kind ≡ true → binds kind ≡ 0
binds_none (k.Sign sg.CloseParen) e = refl
binds_none (k.Sign sg.CloseBracket) e = refl
binds_none (k.Sign sg.Colon) e = refl
binds_none (k.Sign sg.Semicolon) e = refl
binds_none kind e = cc

pub limited_not : (test : Bool) (o : Outcome) → limited (test || true) o ≡ o
limited_not true o = refl
limited_not false o = refl

-- what closes an expression goes to what waits for it
pub goes_down : (limits : Limits) (near leaves : Bool) (b l : ℕ) (x : ExprTree) (st : List Frame) (kind : TokenKind)
    (o : Outcome) → 0 < l → closes kind ≡ true → operated limits near leaves b l x st kind o ≡ o
goes_down limits near leaves b l x st kind o f e =
    let none : binds kind ≡ 0 = binds_none kind e in
    let not : nat_le l (binds kind) ≡ false = rw none (grind arith) in
    ap (λ (t : Bool). if t then counted limits near leaves b (risen limits near leaves b l x st (infix_of kind)) else o)
    not

-- the ends of expressions
abbrev pub EndsExpr : List Frame → Type 0
EndsExpr st = (b l : ℕ) (x : ExprTree) → 0 < l → Ending true closes (HaveExpr b l x) st

abbrev pub EndsSimple : List Frame → Type 0
EndsSimple st = (a : StmtTree) → Ending true closes (HaveSimple a) st

abbrev pub EndsLocal : List Frame → Type 0
EndsLocal st = (a : StmtTree) → Ending true closes (HaveLocal a) st

abbrev pub EndsStmt : List Frame → Type 0
EndsStmt st = (a : StmtTree) → Ending true follows_stmt (HaveStmt a) st

abbrev pub EndsList : List Frame → Type 0
EndsList st = (n : ℕ) (bs : StmtList) → Ending true follows_stmt (InList n bs) st

-- a sign behind an expression
pub expr_closes : {st : List Frame} {b l : ℕ} {x : ExprTree} (s : Sign) (n : Control × List Frame) → 0 < l →
    closes (k.Sign s) ≡ true → is_opening_brace (k.Sign s) ≡ false →
    ((limits : Limits) (leaves : Bool) → down limits true leaves b (k.Sign s) x st ≡ Ok n) → Completion true n.0 n.1 →
    Ending true closes (HaveExpr b l x) st
expr_closes {st = st} {b = b} {l = l} {x = x} s n f e clear by r =
    begin (sign s here) n (λ limits leaves. goes_down limits true leaves b l x st (k.Sign s)
    (down limits true leaves b (k.Sign s) x st) f e ∙ by limits leaves) e (λ _. clear) r

-- an expression that stands as another one where it is awaited
pub expr_as : {c : Control} {st st' : List Frame} {b l : ℕ} {x : ExprTree} → 0 < l →
    ((limits : Limits) (near leaves : Bool) (t : Token) →
    down limits near leaves b t.kind x st ≡ shift limits near leaves t c st') → Ending true closes c st' →
    Ending true closes (HaveExpr b l x) st
expr_as {st = st} {b = b} {l = l} {x = x} f by r =
    alike (λ limits near leaves t e. goes_down limits near leaves b l x st t.kind
    (down limits near leaves b t.kind x st) f e ∙ by limits near leaves t) r

-- an empty statement
pub empty_stmt : {st : List Frame} (n : ℕ) → Completion true (HaveStmt (skip here)) st → Completion true (WantStmt n) st
empty_stmt n r = more (sign sg.Semicolon here) (HaveStmt (skip here), _)
    (λ limits leaves. limited_not (nat_lt n limits.depth) _) (λ _. refl) r

-- the end of a `for` and its body
pub for_third_ends : {st : List Frame} (n : ℕ) (p : Place) (i : StmtOption) (c : Option ExprTree) → EndsStmt st →
    Completion true (ForThird n p i c) st
for_third_ends {st = st} n p i c e =
    more (sign sg.CloseParen here) (WantStmt (n + 1), ForBody p i c absent ∷ st) (λ limits leaves. refl) (λ _. refl)
    (empty_stmt (n + 1) (whole (alike (λ limits near leaves t f. refl) (e (for_ p i c absent (skip here))))))

pub for_second_ends : {st : List Frame} (n : ℕ) (p : Place) (i : StmtOption) → EndsStmt st →
    Completion true (ForSecond n p i) st
for_second_ends {st = st} n p i e = more (sign sg.Semicolon here) (ForThird n p i None, st) (λ limits leaves. refl)
    (λ _. refl) (for_third_ends n p i None e)

-- a statement's last semicolon
pub semicolon_ends : {st : List Frame} (a : StmtTree) → EndsStmt st →
    Completion true (Expect true sg.Semicolon (HaveStmt a)) st
semicolon_ends {st = st} a e = more (sign sg.Semicolon here) (HaveStmt a, st) (λ limits leaves. refl) (λ _. refl)
    (whole (e a))

-- a target and its use
pub reached_ends : (usage : Use) (t : TargetTree) (st : List Frame) → EndsSimple st →
    Completion true (reached usage t st).0 (reached usage t st).1
reached_ends (Written p) t st e = more (sign sg.PlusPlus here) (HaveSimple (stepped p t Add), st)
    (λ limits leaves. refl) (λ _. refl) (whole (e (stepped p t Add)))
reached_ends (Stepped p op) t st e = whole (e (stepped p t op))
