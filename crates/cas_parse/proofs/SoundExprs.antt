-- What a token does in an expression, or behind one, keeps what the frames hold.
use Rattle.std.proofs.Common.{◌≡◌, ◌≤◌, ◌<◌, ◌⊎◌, ℕ, ◌+◌, max, Bool, true, false, if◌then◌else◌, List, [], ◌∷◌, length, Option, Some, None, nat_le, Ok, Err, refl, ap, inl, inr, arith}
use Rattle.std.proofs.Math.Nat.{le-max_left}
use Rattle.cas_base.specs.declared.place.Place.{Place}
use Rattle.cas_lex.specs.declared.code.ReadCode.TheVariants.{R7}
use Rattle.cas_lex.specs.declared.token.Token.{Token}
use Rattle.cas_lex.specs.declared.token.TokenKind.{TokenKind}
use Rattle.cas_lex.specs.declared.token.TokenKind.TheVariants as k
use Rattle.cas_lex.specs.declared.token.Sign.TheVariants as sg
use Rattle.cas_syntax.specs.declared.tree.Ident.{Ident}
use Rattle.cas_syntax.specs.declared.tree.UnaryOperator.TheVariants as u
use Rattle.cas_syntax.specs.declared.tree.BinaryOperator.TheVariants.{Add, Sub, Mul, Div, Mod, Shl, Shr, BitAnd, BitOr, BitXor, Eq, Ne, Lt, Le, Gt, Ge}
use Rattle.cas_syntax.specs.Expressions as ex
use Rattle.cas_syntax.specs.Expressions.{Spells, SpellsExpr}
use Rattle.cas_syntax.specs.Statements as s
use Rattle.cas_syntax.specs.Limits.{Limits, IsLeftOut}
use Rattle.cas_syntax.specs.Operators.{Infix, always_both, logical_and, logical_or, joined, level, infix_sign}
use Rattle.cas_syntax.specs.Tokens.{sign, ident, is_name, begins_call}
use Rattle.cas_syntax.specs.Tree.{ExprTree, conditional, to_index, to_deref}
use Rattle.cas_parse.specs.Machine as m
use Rattle.cas_parse.specs.Machine.{Outcome, infix_of, binding, binds, named, bracketed, prefixed, begins_kind}
use Rattle.cas_parse.specs.Frames.{Receiver, Caller, Frame, CastKind, InParens, ValueOf, Argument, HaveExpr}
use Rattle.cas_parse.proofs.Holds as h
use Rattle.cas_parse.proofs.Holds.{OuterAt, ExprAt, NameFrom, ReceiverAt, CallerAt, Budget, Holds, HoldsAfter}
use Rattle.cas_parse.proofs.SoundSimple.{token, near, leaves, is_at-some, require_holds, counted_holds, ended_holds, received_holds, reached_holds, resulted_holds, argued_holds}
use Rattle.cas_parse.proofs.SoundKinds.{want_kind_holds}

-- operators

level-ge : (op : Infix) → 2 ≤ level op
level-ge logical_or = omega arith
level-ge logical_and = omega arith
level-ge (always_both BitOr) = omega arith
level-ge (always_both _) = omega arith

same-sign : (a b : Infix) → Some a ≡ Some b → k.Sign (infix_sign a) ≡ k.Sign (infix_sign b)
same-sign a b e = let same : a ≡ b = cc in ap (λ (op : Infix). k.Sign (infix_sign op)) same

infix-kind : (kind : TokenKind) (op : Infix) → infix_of kind ≡ Some op → kind ≡ k.Sign (infix_sign op)
infix-kind (k.Sign sg.OrOr) op e = same-sign logical_or op e
infix-kind (k.Sign sg.AndAnd) op e = same-sign logical_and op e
infix-kind (k.Sign sg.Or) op e = same-sign (always_both BitOr) op e
infix-kind (k.Sign sg.Caret) op e = same-sign (always_both BitXor) op e
infix-kind (k.Sign sg.And) op e = same-sign (always_both BitAnd) op e
infix-kind (k.Sign sg.EqualEqual) op e = same-sign (always_both Eq) op e
infix-kind (k.Sign sg.NotEqual) op e = same-sign (always_both Ne) op e
infix-kind (k.Sign sg.Less) op e = same-sign (always_both Lt) op e
infix-kind (k.Sign sg.LessEqual) op e = same-sign (always_both Le) op e
infix-kind (k.Sign sg.Greater) op e = same-sign (always_both Gt) op e
infix-kind (k.Sign sg.GreaterEqual) op e = same-sign (always_both Ge) op e
infix-kind (k.Sign sg.ShiftLeft) op e = same-sign (always_both Shl) op e
infix-kind (k.Sign sg.ShiftRight) op e = same-sign (always_both Shr) op e
infix-kind (k.Sign sg.Plus) op e = same-sign (always_both Add) op e
infix-kind (k.Sign sg.Minus) op e = same-sign (always_both Sub) op e
infix-kind (k.Sign sg.Star) op e = same-sign (always_both Mul) op e
infix-kind (k.Sign sg.Slash) op e = same-sign (always_both Div) op e
infix-kind (k.Sign sg.Percent) op e = same-sign (always_both Mod) op e
infix-kind _ op e = cc

question-kind : (kind : TokenKind) → 1 ≤ binding None kind → kind ≡ k.Sign sg.Question
question-kind (k.Sign sg.Question) le = refl
question-kind _ le = absurd (omega (arith, le))

question-binds : (kind : TokenKind) → binding None kind ≤ 1
question-binds (k.Sign sg.Question) = omega arith
question-binds _ = omega arith

no-call : (kind : TokenKind) (p : Place) (ts : List Token) → is_name kind ≡ false →
    begins_call (token kind p ∷ ts) ≡ false
no-call kind p [] e = refl
no-call kind p (t ∷ ts) e = rw e refl

-- names

named-spells : {limits : Limits} {b : Bool} {x : Ident} {from r : List Token} → NameFrom b x from r → (j : ℕ) →
    Spells limits j (named b x) from r
named-spells (h.plain) j = ex.a_name _ _ _
named-spells (h.taken) j = ex.an_address _ _ _ _

bracketed-spells : {limits : Limits} {b : Bool} {x : Ident} {from : List Token} {p : Place} {t : List Token} →
    NameFrom b x from (sign sg.OpenBracket p ∷ t) →
    (a : ExprTree) (q : Place) (r : List Token) → Spells limits 1 a t (sign sg.CloseBracket q ∷ r) → (j : ℕ) →
    Spells limits j (bracketed b x a) from r
bracketed-spells (h.plain) a q r ha j = ex.an_element _ _ a _ q _ r ha
bracketed-spells (h.taken) a q r ha j = ex.an_address_of_element _ _ a _ _ q _ r ha

called-spells : {limits : Limits} {b : Bool} {x : Ident} {from : List Token} {p : Place} {r : List Token} →
    NameFrom b x from (sign sg.OpenParen p ∷ r) →
    IsLeftOut limits r → (j : ℕ) → Spells limits j (named b x) from r
called-spells (h.plain) lo j = ex.a_call _ _ _ _ lo
called-spells (h.taken) lo j = ex.a_call_of_address _ _ _ _ _ lo

budget_zero : (limits : Limits) (start : List Token) → Budget limits 0 start start
budget_zero limits start =
    let most : length start ≤ max (length start) limits.cut = le-max_left _ _ in
    (omega arith, omega (arith, most))

module _ (limits : Limits) (all : List Token) where
  positive : {st : List Frame} {l : ℕ} {start from : List Token} → ExprAt limits all st l start from → 1 ≤ l
  positive (h.outermost_at ho) = omega arith
  positive (h.before_at hx f) = omega arith
  positive (h.right_at {op} hx le hy) = omega arith
  positive (h.parens_at hx) = omega arith
  positive (h.brackets_at hx hn) = omega arith
  positive (h.then_at hx le hc) = omega arith
  positive (h.otherwise_at hx le hc ha) = omega arith

  operand_holds : (b l : ℕ) (st : List Frame) (start : List Token) (kind : TokenKind) (p : Place) (ts : List Token) →
      Budget limits (b + 1) start ts →
      ExprAt limits all st l start (token kind p ∷ ts) →
      HoldsAfter limits all ts (m.operand limits (near limits ts) (leaves limits ts) b l st p kind)
  operand_holds b l st start (k.Name n) p ts budget hx = (start, token (k.Name n) p ∷ ts, budget, h.plain, hx)
  operand_holds b l st start (k.Literal n kd) p ts budget hx =
      (start, token (k.Literal n kd) p ∷ ts, budget, λ j. ex.a_literal j n kd p ts, hx)
  operand_holds b l st start (k.Sign sg.OpenParen) p ts budget hx = (start, p, budget, hx)
  operand_holds b l st start (k.Sign sg.Minus) p ts budget hx =
      (start, budget, h.before_at hx (λ j x r hr. ex.an_operand_of j u.Neg x p ts r hr))
  operand_holds b l st start (k.Sign sg.Plus) p ts budget hx =
      (start, budget, h.before_at hx (λ j x r hr. ex.an_operand_of j u.Plus x p ts r hr))
  operand_holds b l st start (k.Sign sg.Tilde) p ts budget hx =
      (start, budget, h.before_at hx (λ j x r hr. ex.an_operand_of j u.BitNot x p ts r hr))
  operand_holds b l st start (k.Sign sg.Not) p ts budget hx =
      (start, budget, h.before_at hx (λ j x r hr. ex.an_operand_of j u.Not x p ts r hr))
  operand_holds b l st start (k.Sign sg.Star) p ts budget hx =
      (start, budget, h.before_at hx (λ j x r hr. ex.what_is_pointed_to j x p ts r hr))
  operand_holds b l st start (k.Sign sg.And) p ts budget hx = (start, p, budget, hx)
  operand_holds b l st start _ p ts budget hx = tt

  pub want_expr_holds : (b l : ℕ) (st : List Frame) (start : List Token) (kind : TokenKind) (p : Place)
      (ts : List Token) → Budget limits b start (token kind p ∷ ts) →
      ExprAt limits all st l start (token kind p ∷ ts) →
      HoldsAfter limits all ts (m.counted limits (near limits ts) (leaves limits ts) b
      (m.operand limits (near limits ts) (leaves limits ts) b l st p kind))
  want_expr_holds b l st start kind p ts budget hx =
      counted_holds limits all b start (token kind p) ts _ budget
      (λ budget'. operand_holds b l st start kind p ts budget' hx)

  pub outermost_holds : (st : List Frame) (kind : TokenKind) (p : Place) (ts : List Token) →
      OuterAt limits all st (token kind p ∷ ts) →
      HoldsAfter limits all ts (m.outermost limits (near limits ts) (leaves limits ts) st p kind)
  outermost_holds st kind p ts ho = want_expr_holds 0 1 st (token kind p ∷ ts) kind p ts
      (budget_zero limits (token kind p ∷ ts)) (h.outermost_at ho)

  -- a further operator

  risen_holds : (b l : ℕ) (x : ExprTree) (st : List Frame) (start from : List Token) (kind : TokenKind)
      (o : Option Infix) (p : Place) (ts : List Token) → infix_of kind ≡ o →
      1 ≤ l → l ≤ binding o kind → Budget limits (b + 1) start ts → ExprAt limits all st l start from →
      ((j : ℕ) → (j ≤ 2) ⊎ (j ≤ binding o kind) → Spells limits j x from (token kind p ∷ ts)) →
      HoldsAfter limits all ts (m.risen limits (near limits ts) (leaves limits ts) b l x st o)
  risen_holds b l x st start from kind (Some op) p ts e pos le budget hx spelled =
      (start, budget, h.right_at hx le (rw (infix-kind kind op e) at (spelled (level op) (inr (omega arith)))))
  risen_holds b l x st start from kind None p ts e pos le budget hx spelled = (
    start,
    budget,
    h.then_at hx (let most = question-binds kind in omega (arith, le, most))
        (rw (question-kind kind (omega (arith, pos, le))) at (spelled 2 (inl (omega arith)))),
  )

  operated_holds : (b l : ℕ) (x : ExprTree) (st : List Frame) (start from : List Token) (kind : TokenKind) (p : Place)
      (ts : List Token) (o : Outcome) →
      ExprAt limits all st l start from → Budget limits b start (token kind p ∷ ts) →
      ((j : ℕ) → 1 ≤ binds kind → (j ≤ 2) ⊎ (j ≤ binds kind) → Spells limits j x from (token kind p ∷ ts)) →
      (binds kind < l → HoldsAfter limits all ts o) → HoldsAfter limits all ts
      (m.operated limits (near limits ts) (leaves limits ts) b l x st kind o)
  operated_holds b l x st start from kind p ts o hx budget spelled below = by_test (nat_le l (binds kind)) refl
    where
      by_test : (c : Bool) → nat_le l (binds kind) ≡ c →
          HoldsAfter limits all ts (if c then m.counted limits (near limits ts) (leaves limits ts) b
          (m.risen limits (near limits ts) (leaves limits ts) b l x st (infix_of kind)) else o)
      by_test true e =
          let pos : 1 ≤ l = positive hx in
          let le : l ≤ binds kind = grind arith in
          let some : 1 ≤ binds kind = omega (arith, pos, le) in
          counted_holds limits all b start (token kind p) ts _ budget
          (λ budget'. risen_holds b l x st start from kind (infix_of kind) p ts refl pos le budget' hx
          (λ j which. spelled j some which))
      by_test false e = below (grind arith)

  -- a token that ends an outermost expression
  outer_holds : {st : List Frame} {from : List Token} → OuterAt limits all st from →
      (b : ℕ) (x : ExprTree) (kind : TokenKind) (p : Place) (ts : List Token) →
      SpellsExpr limits x from (token kind p ∷ ts) → HoldsAfter limits all ts
      (m.down limits (near limits ts) (leaves limits ts) b kind x st)
  outer_holds (h.in_target {x = i} hu) b x kind p ts hx =
      require_holds limits all sg.CloseBracket kind ts _
      (λ e. reached_holds limits all hu (to_index i x) ts (s.an_element i x _ _ _ _ (rw e at hx)) (λ tokens. tt))
  outer_holds (h.behind_star hu) b x kind p ts hx =
      require_holds limits all sg.CloseParen kind ts _
      (λ e. reached_holds limits all hu (to_deref x) ts (s.behind_parentheses x _ _ _ _ _ (rw e at hx))
      (λ tokens. tt))
  outer_holds (h.as_value hr nc) b x kind p ts hx = received_holds limits all hr nc x kind p ts hx
  outer_holds (h.as_assigned hs f) b x kind p ts hx = ended_holds limits all hs _ kind p ts (f x _ hx)
  outer_holds (h.as_argument {xs} hc more) b x kind p ts hx = argued_holds limits all xs hc more x kind p ts hx
  outer_holds (h.if_condition al hs) b x kind p ts hx =
      require_holds limits all sg.CloseParen kind ts _ (λ e. h.then_of al hs (rw e at hx))
  outer_holds (h.while_condition al hs) b x kind p ts hx =
      require_holds limits all sg.CloseParen kind ts _ (λ e. h.while_of al hs (rw e at hx))
  outer_holds (h.do_condition {n} {p = o} {a} al hs ha) b x kind p ts hx =
      require_holds limits all sg.CloseParen kind ts _
      (λ e q us e'. (n, _, hs, s.dos n a x o _ _ p q _ _ us al ha (rw (e, e') at hx), refl))
  outer_holds (h.for_condition h2) b x kind p ts hx = require_holds limits all sg.Semicolon kind ts _
      (λ e. h.third_at h2 (s.an_expr x _ _ (rw e at hx)))
  outer_holds (h.return_value {n} {p = o} al hs) b x kind p ts hx =
      require_holds limits all sg.Semicolon kind ts _
      (λ e. (n, _, hs, s.returns n (Some x) o p _ ts al (s.an_expr x _ _ (rw e at hx)), refl))
  outer_holds (h.print_value {n} {p = o} al hs) b x kind p ts hx =
      require_holds limits all sg.CloseParen kind ts _
      (λ e q us e'. (n, _, hs, s.prints n x o _ p q _ us al (rw (e, e') at hx), refl))

  -- a token that ends an expression
  down_holds : {st : List Frame} {l : ℕ} {start from : List Token} → ExprAt limits all st l start from →
      (b : ℕ) (x : ExprTree) (kind : TokenKind) (p : Place) (ts : List Token) →
      Budget limits b start (token kind p ∷ ts) → Spells limits l x from (token kind p ∷ ts) → binds kind < l →
      HoldsAfter limits all ts (m.down limits (near limits ts) (leaves limits ts) b kind x st)
  down_holds (h.outermost_at ho) b x kind p ts budget hx lt =
      outer_holds ho b x kind p ts (ex.outermost _ _ _ budget.1 hx)
  down_holds (h.before_at {l} {f} {st} {start} {from} hw spell) b x kind p ts budget hx lt =
      operated_holds b l (prefixed f x) st start from kind p ts _ hw budget (λ j some which. spell j x _ hx)
      (λ lt'. down_holds hw b (prefixed f x) kind p ts budget (spell l x _ hx) lt')
  down_holds (h.right_at {l} {op} {x = y} {st} {start} {from} hw le hy) b x kind p ts budget hx lt =
      operated_holds b l (joined op y x) st start from kind p ts _ hw budget
      (λ j some which. ex.two_operands _ op y x _ _ _ _ (let two = level-ge op in grind arith) hy hx)
      (λ lt'. down_holds hw b (joined op y x) kind p ts budget (ex.two_operands _ op y x _ _ _ _ le hy hx) lt')
  down_holds (h.parens_at {st} {start} hw) b x kind p ts budget hx lt =
      require_holds limits all sg.CloseParen kind ts _
      (λ e. counted_holds limits all b start (token kind p) ts _ budget
      (λ budget'. (start, _, budget', λ j. ex.in_parentheses j x _ p _ ts (rw e at hx), hw)))
  down_holds (h.brackets_at {start} hw hn) b x kind p ts budget hx lt =
      require_holds limits all sg.CloseBracket kind ts _
      (λ e. counted_holds limits all b start (token kind p) ts _ budget
      (λ budget'. (start, _, budget', bracketed-spells hn x p ts (rw e at hx), hw)))
  down_holds (h.then_at {start} hw le hc) b x kind p ts budget hx lt =
      require_holds limits all sg.Colon kind ts _
      (λ e. counted_holds limits all b start (token kind p) ts _ budget
      (λ budget'. (start, budget', h.otherwise_at hw le hc (rw e at hx))))
  down_holds (h.otherwise_at {l} {c} {a} {st} {start} {from} hw le hc ha) b x kind p ts budget hx lt =
      operated_holds b l (conditional c a x) st start from kind p ts _ hw budget
      (λ j some which. absurd (omega (arith, some, lt)))
      (λ lt'. down_holds hw b (conditional c a x) kind p ts budget (ex.a_choice l c a x _ _ _ _ _ _ le hc ha hx) lt')

  pub have_holds : (b l : ℕ) (x : ExprTree) (st : List Frame) (start from : List Token) (kind : TokenKind) (p : Place)
      (ts : List Token) →
      Budget limits b start (token kind p ∷ ts) → ((j : ℕ) → Spells limits j x from (token kind p ∷ ts)) →
      ExprAt limits all st l start from →
      HoldsAfter limits all ts (m.have limits (near limits ts) (leaves limits ts) b l x st kind)
  have_holds b l x st start from kind p ts budget spelled hw =
      operated_holds b l x st start from kind p ts _ hw budget (λ j some which. spelled j)
      (λ lt. down_holds hw b x kind p ts budget (spelled l) lt)

  -- names, parentheses

  pub after_operand_name_holds : (b l : ℕ) (taken : Bool) (x : Ident) (st : List Frame) (start from : List Token)
      (kind : TokenKind) (p : Place) (ts : List Token) →
      Budget limits b start (token kind p ∷ ts) → NameFrom taken x from (token kind p ∷ ts) →
      ExprAt limits all st l start from →
      HoldsAfter limits all ts (m.after_operand_name limits (near limits ts) (leaves limits ts) b l taken x st kind)
  after_operand_name_holds b l taken x st start from (k.Sign sg.OpenBracket) p ts budget hn hw =
      counted_holds limits all b start (token (k.Sign sg.OpenBracket) p) ts _ budget
      (λ budget'. (start, budget', h.brackets_at hw hn))
  after_operand_name_holds b l taken x st start from (k.Sign sg.OpenParen) p ts budget hn hw =
      by_test (leaves limits ts) refl
    where
      by_test : (c : Bool) → leaves limits ts ≡ c →
          HoldsAfter limits all ts (if c then m.counted limits (near limits ts) (leaves limits ts) b
          (Ok (HaveExpr (b + 1) l (named taken x), st)) else Err R7)
      by_test true e =
          counted_holds limits all b start (token (k.Sign sg.OpenParen) p) ts _ budget
          (λ budget'. (start, from, budget', called-spells hn (is_at-some _ _ e), hw))
      by_test false e = tt
  after_operand_name_holds b l taken x st start from kind p ts budget hn hw =
      have_holds b l (named taken x) st start from kind p ts budget (named-spells hn) hw

  pub taking_holds : (b l : ℕ) (st : List Frame) (start : List Token) (q : Place) (kind : TokenKind) (p : Place)
      (ts : List Token) → Budget limits b start (token kind p ∷ ts) →
      ExprAt limits all st l start (sign sg.And q ∷ token kind p ∷ ts) →
      HoldsAfter limits all ts (m.taking limits (near limits ts) (leaves limits ts) b l st p kind)
  taking_holds b l st start q (k.Name n) p ts budget hw =
      counted_holds limits all b start (token (k.Name n) p) ts _ budget
      (λ budget'. (start, sign sg.And q ∷ token (k.Name n) p ∷ ts, budget', h.taken, hw))
  taking_holds b l st start q _ p ts budget hw = tt

  pub opened_holds : (b l : ℕ) (st : List Frame) (start : List Token) (q : Place) (kind : TokenKind) (p : Place)
      (ts : List Token) → Budget limits b start (token kind p ∷ ts) →
      ExprAt limits all st l start (sign sg.OpenParen q ∷ token kind p ∷ ts) →
      HoldsAfter limits all ts (m.opened limits (near limits ts) (leaves limits ts) b l st p kind)
  opened_holds b l st start q kind p ts budget hw = by_test (begins_kind kind)
    where
      by_test : (c : Bool) → HoldsAfter limits all ts
          (if c then m.want_kind limits (near limits ts) (leaves limits ts) (Some b) (CastKind l ∷ st) kind
          else m.counted limits (near limits ts) (leaves limits ts) b
          (m.operand limits (near limits ts) (leaves limits ts) b 1 (InParens l ∷ st) p kind))
      by_test true = want_kind_holds limits all (Some b) (CastKind l ∷ st) (Some start) kind p ts budget (h.cast_at hw)
      by_test false = want_expr_holds b 1 (InParens l ∷ st) start kind p ts budget (h.parens_at hw)

  -- values that may be calls, and arguments

  pub value_started_holds : (r : Receiver) (st : List Frame) (kind : TokenKind) (p : Place) (ts : List Token) →
      ReceiverAt limits all r st (token kind p ∷ ts) →
      HoldsAfter limits all ts (m.value_started limits (near limits ts) (leaves limits ts) r st p kind)
  value_started_holds r st (k.Name n) p ts hr =
      counted_holds limits all 0 (token (k.Name n) p ∷ ts) (token (k.Name n) p) ts _
      (budget_zero limits (token (k.Name n) p ∷ ts)) (λ budget. (budget, hr))
  value_started_holds r st kind p ts hr = outermost_holds (ValueOf r ∷ st) kind p ts
      (h.as_value hr (no-call kind p ts refl))

  pub maybe_call_holds : (b : ℕ) (r : Receiver) (f : Ident) (st : List Frame) (kind : TokenKind) (p : Place)
      (ts : List Token) →
      Budget limits b (ident f ∷ token kind p ∷ ts) (token kind p ∷ ts) →
      ReceiverAt limits all r st (ident f ∷ token kind p ∷ ts) →
      HoldsAfter limits all ts (m.maybe_call limits (near limits ts) (leaves limits ts) b r f st kind)
  maybe_call_holds b r f st (k.Sign sg.OpenParen) p ts budget hr = h.keeps hr
  maybe_call_holds b r f st kind p ts budget hr =
      after_operand_name_holds b 1 false f (ValueOf r ∷ st) _ _ kind p ts budget h.plain
      (h.outermost_at (h.as_value hr refl))

  pub arguments_started_holds : (caller : Caller) (st : List Frame) (kind : TokenKind) (p : Place) (ts : List Token) →
      CallerAt limits all caller st (token kind p ∷ ts) →
      HoldsAfter limits all ts (m.arguments_started limits (near limits ts) (leaves limits ts) caller st p kind)
  arguments_started_holds caller st (k.Sign sg.CloseParen) p ts hc =
      resulted_holds limits all hc [] p ts (ex.no_arguments _)
  arguments_started_holds caller st kind p ts hc = outermost_holds (Argument caller [] ∷ st) kind p ts
      (h.as_argument hc (λ ys r hy. hy))
