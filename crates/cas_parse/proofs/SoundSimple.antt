-- What a token does that ends an assignment, a call or a local keeps what the frames hold; and what limits do to a
-- token.
use Rattle.std.proofs.Common.{◌≡◌, ◌≤◌, ◌<◌, ℕ, ◌+◌, max, Bool, true, false, ◌||◌, if◌then◌else◌, List, [], ◌∷◌, ◌++◌, length, Option, Some, None, nat_lt, Ok, Err, refl, sym, ap, inl, inr, arith, append_assoc}
use Rattle.std.proofs.Math.Nat.{le-max_left, le-max_right, max-le}
use Rattle.cas_base.specs.declared.kind.Kind.{Kind}
use Rattle.cas_base.specs.declared.place.Place.{Place}
use Rattle.cas_lex.specs.declared.code.ReadCode.TheVariants.{R7}
use Rattle.cas_lex.specs.declared.token.Token.{Token}
use Rattle.cas_lex.specs.declared.token.TokenKind.{TokenKind}
use Rattle.cas_lex.specs.declared.token.TokenKind.TheVariants as k
use Rattle.cas_lex.specs.declared.token.Sign.{Sign}
use Rattle.cas_lex.specs.declared.token.Sign.TheVariants as sg
use Rattle.cas_syntax.specs.Expressions as ex
use Rattle.cas_syntax.specs.Expressions.{SpellsExpr, SpellsExprs, SpellsArguments}
use Rattle.cas_syntax.specs.Statements as s
use Rattle.cas_syntax.specs.Statements.{SpellsTarget, SpellsSimple, SpellsLocal, SpellsLocals, SpellsStmt, SpellsStmts, dangles}
use Rattle.cas_syntax.specs.Limits.{Limits, AllowsDepth, AllowsTokens, IsLeftOut}
use Rattle.cas_syntax.specs.Tokens.{sign, ident, begins_call}
use Rattle.cas_syntax.specs.Tree.{ExprTree, TargetTree, to_name, value, called, StmtTree, StmtList, no_more, one_more}
use Rattle.cas_parse.specs.Machine as m
use Rattle.cas_parse.specs.Machine.{Outcome, snoc, is, is_at, limited}
use Rattle.cas_parse.specs.Frames.{Receiver, Caller, Use, Frame, Control}
use Rattle.cas_parse.proofs.Holds as h
use Rattle.cas_parse.proofs.Holds.{ListAt, StmtAt, SimpleAt, LocalAt, ReceiverAt, CallerAt, UseAt, OuterAt, WithLocals, WithExprs, TakesCalls, Budget, BudgetOf, joined_lists, Holds, HoldsAfter}

-- a token
abbrev pub token : TokenKind → Place → Token
token kind p = record { kind = kind; place = p }

-- whether limits aren't asked of the token before these
abbrev pub near : Limits → List Token → Bool
near limits ts = nat_lt (length ts) limits.cut

-- whether a form that is left out may stand at the token before these
abbrev pub leaves : Limits → List Token → Bool
leaves limits ts = is_at limits.left_out (length ts)

pub is_at-some : (o : Option ℕ) (n : ℕ) → is_at o n ≡ true → o ≡ Some n
is_at-some None n e = cc
is_at-some (Some j) n e = let same : j ≡ n = grind arith in ap Some same

-- the signs that have to stand somewhere

semicolon : (kind : TokenKind) → is sg.Semicolon kind ≡ true → kind ≡ k.Sign sg.Semicolon
semicolon (k.Sign sg.Semicolon) e = refl
semicolon _ e = cc

open_paren : (kind : TokenKind) → is sg.OpenParen kind ≡ true → kind ≡ k.Sign sg.OpenParen
open_paren (k.Sign sg.OpenParen) e = refl
open_paren _ e = cc

close_paren : (kind : TokenKind) → is sg.CloseParen kind ≡ true → kind ≡ k.Sign sg.CloseParen
close_paren (k.Sign sg.CloseParen) e = refl
close_paren _ e = cc

close_bracket : (kind : TokenKind) → is sg.CloseBracket kind ≡ true → kind ≡ k.Sign sg.CloseBracket
close_bracket (k.Sign sg.CloseBracket) e = refl
close_bracket _ e = cc

open_brace : (kind : TokenKind) → is sg.OpenBrace kind ≡ true → kind ≡ k.Sign sg.OpenBrace
open_brace (k.Sign sg.OpenBrace) e = refl
open_brace _ e = cc

colon : (kind : TokenKind) → is sg.Colon kind ≡ true → kind ≡ k.Sign sg.Colon
colon (k.Sign sg.Colon) e = refl
colon _ e = cc

pub is-sign : (s : Sign) (kind : TokenKind) → is s kind ≡ true → kind ≡ k.Sign s
is-sign sg.Semicolon kind e = semicolon kind e
is-sign sg.OpenParen kind e = open_paren kind e
is-sign sg.CloseParen kind e = close_paren kind e
is-sign sg.CloseBracket kind e = close_bracket kind e
is-sign sg.OpenBrace kind e = open_brace kind e
is-sign sg.Colon kind e = colon kind e
is-sign _ kind e = cc

-- what a limit on tokens lets through
pub budget_step : (limits : Limits) (b : ℕ) (start : List Token) (t : Token) (ts : List Token) →
    Budget limits b start (t ∷ ts) →
    (nat_lt b limits.tokens || near limits ts) ≡ true → Budget limits (b + 1) start ts
budget_step limits b start t ts (e, a) passes = (omega (arith, e), by_test (nat_lt b limits.tokens) refl passes)
  where
    left : length ts ≤ max (length ts) limits.cut
    left = le-max_left _ _

    right : limits.cut ≤ max (length ts) limits.cut
    right = le-max_right _ _

    by_test : (c : Bool) → nat_lt b limits.tokens ≡ c → (c || near limits ts) ≡ true → AllowsTokens limits start ts
    by_test true below passes = let few : b < limits.tokens = grind arith in omega (arith, e, left, few)
    by_test false below passes =
        let close : length ts < limits.cut = grind arith in
        let most : max (length (t ∷ ts)) limits.cut ≤ limits.cut = max-le (omega (arith, close)) (omega arith) in
        omega (arith, a, most, right)

-- lists of statements

pub joined-snoc : (bs : StmtList) (a : StmtTree) (cs : StmtList) →
    joined_lists (snoc bs a) cs ≡ joined_lists bs (one_more a cs)
joined-snoc no_more a cs = refl
joined-snoc (one_more b bs) a cs = ap (one_more b) (joined-snoc bs a cs)

joined-one : (bs : StmtList) (a : StmtTree) → joined_lists bs (one_more a no_more) ≡ snoc bs a
joined-one no_more a = refl
joined-one (one_more b bs) a = ap (one_more b) (joined-one bs a)

join-locals : {limits : Limits} {kd : Kind} {bs rest : StmtList} {from t : List Token} →
    SpellsLocals limits kd bs rest from t → (cs : StmtList) →
    SpellsLocals limits kd (joined_lists bs cs) (joined_lists rest cs) from t
join-locals (s.last_local a rest from t ha) cs = s.last_local _ _ _ _ ha
join-locals (s.one_local a bs rest p from u t ha hs) cs = s.one_local _ _ _ _ _ _ _ ha (join-locals hs cs)

pub join-stmts : {limits : Limits} {n : ℕ} {bs : StmtList} {from t : List Token} → SpellsStmts limits n bs from t →
    (cs : StmtList) (r : List Token) →
    SpellsStmts limits n cs t r → SpellsStmts limits n (joined_lists bs cs) from r
join-stmts (s.ended n t) cs r hc = hc
join-stmts (s.a_stmt n b bs from u t hb hs) cs r hc = s.a_stmt _ _ _ _ _ _ hb (join-stmts hs cs r hc)
join-stmts (s.locals n kd bs rest p from u v t al hk hl hs) cs r hc =
    s.locals _ kd _ (joined_lists rest cs) _ _ _ _ _ al hk (join-locals hl cs) (join-stmts hs cs r hc)

pub snoc-stmts : {limits : Limits} {n : ℕ} {bs : StmtList} {from t : List Token} → SpellsStmts limits n bs from t →
    (a : StmtTree) (r : List Token) →
    SpellsStmt limits n a t r → SpellsStmts limits n (snoc bs a) from r
snoc-stmts {bs} hs a r ha = rw (sym (joined-one bs a))
    (join-stmts hs (one_more a no_more) r (s.a_stmt _ _ _ _ _ _ ha (s.ended _ _)))

-- an assignment or a call doesn't dangle
simple-dangles : {limits : Limits} {a : StmtTree} {from t : List Token} → SpellsSimple limits a from t →
    dangles a ≡ false
simple-dangles (s.sets target a first p u t r ht nc hx) = refl
simple-dangles (s.changes target op by a first p u t r e ht hx) = refl
simple-dangles (s.increments target first p u r ht) = refl
simple-dangles (s.decrements target first p u r ht) = refl
simple-dangles (s.increments_first target p u r ht) = refl
simple-dangles (s.decrements_first target p u r ht) = refl
simple-dangles (s.keeps_result x f bs p q q' u r hs) = refl
simple-dangles (s.calls f bs p q u r hs) = refl

module _ (limits : Limits) (all : List Token) where
  -- what a limit lets through

  limited_holds : (c : Bool) (ts : List Token) (o : Outcome) → (c ≡ true → HoldsAfter limits all ts o) →
      HoldsAfter limits all ts (limited c o)
  limited_holds true ts o h = h refl
  limited_holds false ts (Ok next) h = tt
  limited_holds false ts (Err code) h = tt

  pub counted_holds : (b : ℕ) (start : List Token) (t : Token) (ts : List Token) (o : Outcome) →
      Budget limits b start (t ∷ ts) →
      (Budget limits (b + 1) start ts → HoldsAfter limits all ts o) →
      HoldsAfter limits all ts (m.counted limits (near limits ts) (leaves limits ts) b o)
  counted_holds b start t ts o budget h = limited_holds (nat_lt b limits.tokens || near limits ts) ts o
      (λ e. h (budget_step limits b start t ts budget e))

  pub counted_in_holds : (b : Option ℕ) (start : Option (List Token)) (t : Token) (ts : List Token) (o : Outcome) →
      BudgetOf limits b start (t ∷ ts) →
      (BudgetOf limits (m.next b) start ts → HoldsAfter limits all ts o) →
      HoldsAfter limits all ts (m.counted_in limits (near limits ts) (leaves limits ts) b o)
  counted_in_holds None None t ts o budget h = h tt
  counted_in_holds (Some b) (Some start) t ts o budget h = counted_holds b start t ts o budget h
  counted_in_holds None (Some start) t ts o budget h = absurd budget
  counted_in_holds (Some b) None t ts o budget h = absurd budget

  pub nested_holds : (n : ℕ) (t : Token) (ts : List Token) (o : Outcome) →
      (AllowsDepth limits n (t ∷ ts) → HoldsAfter limits all ts o) →
      HoldsAfter limits all ts (m.nested limits (near limits ts) (leaves limits ts) n o)
  nested_holds n t ts o h = limited_holds (nat_lt n limits.depth || near limits ts) ts o
      (λ e. h (by_test (nat_lt n limits.depth) refl e))
    where
      by_test : (c : Bool) → nat_lt n limits.depth ≡ c → (c || near limits ts) ≡ true → AllowsDepth limits n (t ∷ ts)
      by_test true below passes = inl (grind arith)
      by_test false below passes = inr (let close : length ts < limits.cut = grind arith in omega (arith, close))

  pub leave_holds : (c : Control) (st : List Frame) (ts : List Token) →
      (IsLeftOut limits ts → Holds limits all c st ts) →
      HoldsAfter limits all ts (m.leave limits (near limits ts) (leaves limits ts) c st)
  leave_holds c st ts h = by_test (leaves limits ts) refl
    where
      by_test : (b : Bool) → leaves limits ts ≡ b → HoldsAfter limits all ts (if b then Ok (c, st) else Err R7)
      by_test true e = h (is_at-some _ _ e)
      by_test false e = tt

  pub require_holds : (s : Sign) (kind : TokenKind) (ts : List Token) (o : Outcome) →
      (kind ≡ k.Sign s → HoldsAfter limits all ts o) →
      HoldsAfter limits all ts (m.require s kind o)
  require_holds s kind ts o h = by_test (is s kind) (is-sign s kind)
    where
      by_test : (b : Bool) → (b ≡ true → kind ≡ k.Sign s) →
          HoldsAfter limits all ts (if b then o else Err (m.wrong kind))
      by_test true e = h (e refl)
      by_test false e = tt

  -- a token that ends an assignment or a call
  pub ended_holds : {st : List Frame} {from : List Token} → SimpleAt limits all st from →
      (a : StmtTree) (kind : TokenKind) (p : Place) (ts : List Token) →
      SpellsSimple limits a from (token kind p ∷ ts) → HoldsAfter limits all ts (m.ended a st kind)
  ended_holds (h.of_stmt {n} {s = from} al hs) a kind p ts ha =
      require_holds sg.Semicolon kind ts _
      (λ e. (n, from, hs, s.simple n a p from ts al (rw e at ha), simple-dangles ha))
  ended_holds (h.of_first hf al) a kind p ts ha = require_holds sg.Semicolon kind ts _
      (λ e. h.second_at hf (s.simple_first a _ _ al (rw e at ha)))
  ended_holds (h.of_after (h.third_at (h.second_at (h.first_at al' hs) hi) hc) al) a kind p ts ha =
      require_holds sg.CloseParen kind ts _ (λ e. h.for_of al' hs hi hc (s.simple_after a _ _ al (rw e at ha)))

  -- a token that ends a local
  in_locals_holds : {n : ℕ} {kd : Kind} (bs : StmtList) {st : List Frame} {from t : List Token} →
      ListAt limits all st n from → WithLocals limits n kd bs from t →
      (a : StmtTree) (kind : TokenKind) (p : Place) (ts : List Token) → SpellsLocal limits kd a t (token kind p ∷ ts) →
      HoldsAfter limits all ts (m.in_locals n kd (snoc bs a) st kind)
  in_locals_holds bs hl more a (k.Sign sg.Comma) p ts ha =
      h.of_list hl (λ cs q u hc. rw (joined-snoc bs a cs) (more (one_more a cs) q u (s.one_local _ _ _ _ _ _ _ ha hc)))
  in_locals_holds bs {from} hl more a (k.Sign sg.Semicolon) p ts ha =
      (from, hl, rw (sym (joined-one bs a)) (more (one_more a no_more) p ts (s.last_local _ _ _ _ ha)))
  in_locals_holds bs hl more a _ p ts ha = tt

  pub local_ended_holds : {kd : Kind} {st : List Frame} {from : List Token} → LocalAt limits all st kd from →
      (a : StmtTree) (kind : TokenKind) (p : Place) (ts : List Token) →
      SpellsLocal limits kd a from (token kind p ∷ ts) → HoldsAfter limits all ts (m.local_ended a st kind)
  local_ended_holds (h.of_list {bs} hl more) a kind p ts ha = in_locals_holds bs hl more a kind p ts ha
  local_ended_holds (h.of_for hf al hk) a kind p ts ha =
      require_holds sg.Semicolon kind ts _ (λ e. h.second_at hf (s.local_first _ a _ _ _ al hk (rw e at ha)))

  -- a token that ends a value
  pub received_holds : {r : Receiver} {st : List Frame} {from : List Token} → ReceiverAt limits all r st from →
      begins_call from ≡ false →
      (a : ExprTree) (kind : TokenKind) (p : Place) (ts : List Token) → SpellsExpr limits a from (token kind p ∷ ts) →
      HoldsAfter limits all ts (m.received r a st kind)
  received_holds (h.assigned {x} hs) nc a kind p ts ha =
      ended_holds hs _ kind p ts (s.sets (to_name x) a (ident x) _ _ _ _ (s.a_variable x _) nc ha)
  received_holds (h.begun {x} hl) nc a kind p ts ha = local_ended_holds hl _ kind p ts
      (s.variable x (value a) _ _ (s.a_value a _ _ _ nc ha))
  received_holds (h.begun_pointer {x} hl) nc a kind p ts ha =
      local_ended_holds hl _ kind p ts (s.pointer x (value a) _ _ _ (s.a_value a _ _ _ nc ha))

  -- the token that ends a target
  pub reached_holds : {usage : Use} {st : List Frame} {from : List Token} → UseAt limits all usage st from →
      (target : TargetTree) (ts : List Token) →
      SpellsTarget limits target from ts → TakesCalls target → HoldsAfter limits all ts (Ok (m.reached usage target st))
  reached_holds (h.written {first} {s = u} hs) target ts ht takes = (first ∷ u, h.written hs, ht, takes)
  reached_holds (h.increased {p} {s = u} hs) target ts ht takes =
      (sign sg.PlusPlus p ∷ u, hs, s.increments_first target p u ts ht)
  reached_holds (h.decreased {p} {s = u} hs) target ts ht takes =
      (sign sg.MinusMinus p ∷ u, hs, s.decrements_first target p u ts ht)

  -- the token that ends a call
  pub resulted_holds : {caller : Caller} {st : List Frame} {from : List Token} → CallerAt limits all caller st from →
      (xs : List ExprTree) (p : Place) (ts : List Token) →
      SpellsArguments limits xs from (sign sg.CloseParen p ∷ ts) → Holds limits all (m.resulted caller xs) st ts
  resulted_holds (h.alone {f} hs) xs p ts ha = (_, hs, s.calls f xs _ _ _ _ ha)
  resulted_holds (h.keeps {f} (h.assigned {x} hs)) xs p ts ha = (_, hs, s.keeps_result x f xs _ _ _ _ _ ha)
  resulted_holds (h.keeps {f} (h.begun {k = kd} {x} hl)) xs p ts ha =
      (kd, _, hl, s.variable x (called f xs) _ _ (s.a_result f xs _ _ _ _ _ ha))
  resulted_holds (h.keeps {f} (h.begun_pointer {k = kd} {x} hl)) xs p ts ha =
      (kd, _, hl, s.pointer x (called f xs) _ _ _ (s.a_result f xs _ _ _ _ _ ha))

  -- a token behind an argument
  pub argued_holds : {caller : Caller} (xs : List ExprTree) {st : List Frame} {from t : List Token} →
      CallerAt limits all caller st from → WithExprs limits xs from t →
      (x : ExprTree) (kind : TokenKind) (p : Place) (ts : List Token) → SpellsExpr limits x t (token kind p ∷ ts) →
      HoldsAfter limits all ts (m.argued caller (xs ++ x ∷ []) st kind)
  argued_holds xs hc more x (k.Sign sg.Comma) p ts hx =
      h.as_argument hc (λ ys r hy. rw (append_assoc xs (x ∷ []) ys) (more (x ∷ ys) r (ex.one_of _ _ _ _ _ _ hx hy)))
  argued_holds xs hc more x (k.Sign sg.CloseParen) p ts hx =
      resulted_holds hc (xs ++ x ∷ []) p ts (ex.arguments _ _ _ (more (x ∷ []) _ (ex.last_of _ _ _ hx)))
  argued_holds xs hc more x _ p ts hx = tt
