-- What is spelled as an expression is read as it.
use Rattle.std.proofs.Common.{◌≡◌, ℕ, ◌+◌, ◌-◌, ◌*◌, ◌≤◌, ◌<◌, ◌||◌, max, Bool, true, false, nat_le, nat_lt, List, [], ◌∷◌, length, Some, Ok, arith, refl, ◌∙◌}
use Rattle.std.proofs.lemmas.Bool.Decides.{nat_tests}
use Rattle.cas_base.specs.declared.kind.Kind.{Kind}
use Rattle.cas_base.specs.declared.place.Place.{Place}
use Rattle.cas_lex.specs.declared.token.Token.{Token}
use Rattle.cas_lex.specs.declared.token.TokenKind.{TokenKind}
use Rattle.cas_lex.specs.declared.token.TokenKind.TheVariants as k
use Rattle.cas_lex.specs.declared.token.Sign.TheVariants as sg
use Rattle.cas_syntax.specs.declared.tree.Ident.{Ident}
use Rattle.cas_syntax.specs.declared.tree.UnaryOperator.{UnaryOperator}
use Rattle.cas_syntax.specs.declared.tree.UnaryOperator.TheVariants as u
use Rattle.cas_syntax.specs.declared.tree.BinaryOperator.{BinaryOperator}
use Rattle.cas_syntax.specs.declared.tree.BinaryOperator.TheVariants.{Add}
use Rattle.cas_syntax.specs.Tree.{ExprTree, conditional}
use Rattle.cas_syntax.specs.Operators.{Infix, always_both, logical_and, logical_or, joined, level, infix_sign, unary_sign}
use Rattle.cas_syntax.specs.Limits.{Limits}
use Rattle.cas_syntax.specs.Tokens.{sign, ident}
use Rattle.cas_syntax.specs.Expressions.{Spells, a_literal, a_name, an_element, in_parentheses, an_operand_of, what_is_pointed_to, an_address, an_address_of_element, a_cast, two_operands, a_choice, a_call, a_call_of_address, SpellsExpr, outermost}
use Rattle.cas_parse.specs.Frames.{Frame, Before, Right, InParens, InBrackets, Then, Otherwise, Prefix, Operates, Points, Casts, WantExpr, HaveExpr, Given, WantOutermost, Named, Opened, CastKind, WantKind, HaveKind}
use Rattle.cas_parse.specs.Machine.{binds, infix_of, named, bracketed, prefixed, after_operand_name, have, down, operand, shift, run, Verdict, begins_kind}
use Rattle.cas_parse.proofs.CompleteNext.{next_is, next_is-not, alike}
use Rattle.cas_parse.proofs.CompleteLimits.{counts, leaves}
use Rattle.cas_parse.proofs.CompleteKinds.{shorter_kind, begins_with_kind, reads_kind_in}

-- how tightly the next token binds
abbrev pub next_binds : List Token → ℕ
next_binds [] = 0
next_binds (t ∷ ts) = binds t.kind

abbrev pub is_opening : TokenKind → Bool
is_opening (k.Sign sg.OpenBracket) = true
is_opening (k.Sign sg.OpenParen) = true
is_opening kind = false

-- whether the next token goes on with a name
pub level_at_most : (op : Infix) → level op ≤ 11
level_at_most logical_or = omega arith
level_at_most logical_and = omega arith
level_at_most (always_both op) = by_operator op
  where
    by_operator : (op : BinaryOperator) → level (always_both op) ≤ 11
    by_operator Add = omega arith
    by_operator _ = omega arith

pub level_at_least : (op : Infix) → 2 ≤ level op
level_at_least logical_or = omega arith
level_at_least logical_and = omega arith
level_at_least (always_both op) = by_operator op
  where
    by_operator : (op : BinaryOperator) → 2 ≤ level (always_both op)
    by_operator Add = omega arith
    by_operator _ = omega arith

opens_no_name : (op : Infix) → is_opening (k.Sign (infix_sign op)) ≡ false
opens_no_name logical_or = refl
opens_no_name logical_and = refl
opens_no_name (always_both op) = by_operator op
  where
    by_operator : (op : BinaryOperator) → is_opening (k.Sign (infix_sign (always_both op))) ≡ false
    by_operator Add = refl
    by_operator _ = refl

pub binds_sign : (op : Infix) → binds (k.Sign (infix_sign op)) ≡ level op
binds_sign logical_or = refl
binds_sign logical_and = refl
binds_sign (always_both op) = by_operator op
  where
    by_operator : (op : BinaryOperator) → binds (k.Sign (infix_sign (always_both op))) ≡ level (always_both op)
    by_operator Add = refl
    by_operator _ = refl

pub infix_of_sign : (op : Infix) → infix_of (k.Sign (infix_sign op)) ≡ Some op
infix_of_sign logical_or = refl
infix_of_sign logical_and = refl
infix_of_sign (always_both op) = by_operator op
  where
    by_operator : (op : BinaryOperator) → infix_of (k.Sign (infix_sign (always_both op))) ≡ Some (always_both op)
    by_operator Add = refl
    by_operator _ = refl

pub binds_at_most : (kind : TokenKind) → binds kind ≤ 11
binds_at_most (k.Sign sg.Plus) = omega arith
binds_at_most _ = omega arith

pub next_at_most : (ts : List Token) → next_binds ts ≤ 11
next_at_most [] = omega arith
next_at_most (t ∷ ts) = binds_at_most t.kind

module _ (limits : Limits) where
  pub shorter : {m : ℕ} {a : ExprTree} {s r : List Token} → Spells limits m a s r → length r < length s
  shorter (a_literal l n kd p r) = omega arith
  shorter (a_name l x r) = omega arith
  shorter (an_element l x a p q s r h) = let one = shorter h in omega arith
  shorter (in_parentheses l a p q s r h) = let one = shorter h in omega arith
  shorter (an_operand_of l op a p s r h) = let one = shorter h in omega arith
  shorter (what_is_pointed_to l a p s r h) = let one = shorter h in omega arith
  shorter (an_address l x p r) = omega arith
  shorter (an_address_of_element l x a o p q s r h) = let one = shorter h in omega arith
  shorter (a_cast l kd a p q s t r hk h) = let one = shorter_kind hk in let two = shorter h in omega arith
  shorter (two_operands l op a b p s t r le ha hb) = let one = shorter ha in let two = shorter hb in omega arith
  shorter (a_choice l c a b p q s t u r le hc ha hb) = let one = shorter hc in let two = shorter ha in let three =
      shorter hb in omega arith
  shorter (a_call l x p r out) = omega arith
  shorter (a_call_of_address l x o p r out) = omega arith

  -- where the next token doesn't go on with a name, the name is an operand
  pub rests : (used l : ℕ) (taken : Bool) (x : Ident) (st : List Frame) (r : List Token) → next_is is_opening r ≡ false
      → run limits r (Named used l taken x) st ≡ run limits r (HaveExpr used l (named taken x)) st
  rests used l taken x st r h = alike limits is_opening false (Named used l taken x) (HaveExpr used l (named taken x))
      st st refl by_kind r h
    where
      by_kind : (near leaves : Bool) (place : Place) (kind : TokenKind) → is_opening kind ≡ false
          → after_operand_name limits near leaves used l taken x st kind ≡ have limits near leaves used l
          (named taken x) st kind
      by_kind near leaves place (k.Sign sg.OpenBracket) h = cc
      by_kind near leaves place (k.Sign sg.OpenParen) h = cc
      by_kind near leaves place _ h = refl

  -- where the next token doesn't bind so tightly, an expression goes to what waits for it
  pub falls : (near leaves : Bool) (used l : ℕ) (x : ExprTree) (st : List Frame) (t : Token) → binds t.kind < l
      → shift limits near leaves t (HaveExpr used l x) st ≡ down limits near leaves used t.kind x st
  falls near leaves used l x st t h = let e : nat_le l (binds t.kind) ≡ false = grind (arith, nat_tests) in rw e

  pub pop_before : (used l : ℕ) (f : Prefix) (x : ExprTree) (st : List Frame) (r : List Token)
      → run limits r (HaveExpr used 12 x) (Before l f ∷ st) ≡ run limits r (HaveExpr used l (prefixed f x)) st
  pop_before used l f x st [] = refl
  pop_before used l f x st (t ∷ ts) = let h : binds t.kind < 12 = omega (arith, binds_at_most t.kind) in rw falls

  pub pop_right : (used l m : ℕ) (op : Infix) (x y : ExprTree) (st : List Frame) (r : List Token) → next_binds r < m
      → run limits r (HaveExpr used m y) (Right l op x ∷ st) ≡ run limits r (HaveExpr used l (joined op x y)) st
  pop_right used l m op x y st [] h = refl
  pop_right used l m op x y st (t ∷ ts) h = rw falls

  pub pop_otherwise : (used l : ℕ) (c x y : ExprTree) (st : List Frame) (r : List Token) → next_binds r < 1
      → run limits r (HaveExpr used 1 y) (Otherwise l c x ∷ st) ≡ run limits r (HaveExpr used l (conditional c x y)) st
  pop_otherwise used l c x y st [] h = refl
  pop_otherwise used l c x y st (t ∷ ts) h = rw falls

  -- behind `(` stands a kind, or an expression

  pub opens_parentheses : (used l : ℕ) (st : List Frame) (s : List Token) → next_is begins_kind s ≡ false
      → run limits s (Opened used l) st ≡ run limits s (WantExpr used 1) (InParens l ∷ st)
  opens_parentheses used l st [] h = refl
  opens_parentheses used l st (t ∷ ts) h = rw h

  pub opens_cast : (used l : ℕ) (st : List Frame) (s : List Token) → next_is begins_kind s ≡ true
      → run limits s (Opened used l) st ≡ run limits s (WantKind (Some used)) (CastKind l ∷ st)
  opens_cast used l st [] h = refl
  opens_cast used l st (t ∷ ts) h = rw h

  pub begins_no_kind : {m : ℕ} {a : ExprTree} {s r : List Token} → Spells limits m a s r → next_is begins_kind s ≡ false
  begins_no_kind (two_operands l op a b p s t r le ha hb) = begins_no_kind ha
  begins_no_kind (a_choice l c a b p q s t u r le hc ha hb) = begins_no_kind hc
  begins_no_kind _ = refl

operand_unary : (limits : Limits) (near leaves : Bool) (used l : ℕ) (st : List Frame) (p : Place) (op : UnaryOperator)
    → operand limits near leaves used l st p (k.Sign (unary_sign op)) ≡ Ok
    (WantExpr (used + 1) 12, Before l (Operates op) ∷ st)
operand_unary limits near leaves used l st p u.Neg = refl
operand_unary limits near leaves used l st p _ = refl

-- the tokens of an outermost expression and all behind it are `whole`, and those behind it `behind`
module _ (limits : Limits) (whole behind : ℕ) (room : whole ≤ limits.tokens + max behind limits.cut) where
  -- where the first token is taken
  abbrev Counts : ℕ → List Token → Type 0
  Counts used ts = (nat_lt used limits.tokens || nat_lt (length ts) limits.cut) ≡ true

  fits : (used : ℕ) (ts : List Token) → used + (1 + length ts) ≡ whole → behind ≤ length ts → Counts used ts
  fits used ts count inside = counts limits used whole behind ts count room inside

  rises : (used l : ℕ) (a : ExprTree) (st : List Frame) (op : Infix) (p : Place) (ts : List Token) → Counts used ts →
      l ≤ level op
      → run limits (sign (infix_sign op) p ∷ ts) (HaveExpr used l a) st ≡ run limits ts
      (WantExpr (used + 1) (level op + 1)) (Right l op a ∷ st)
  rises used l a st op p ts c h =
      let e : nat_le l (binds (k.Sign (infix_sign op))) ≡ true =
      grind (arith, binds_sign, nat_tests) in rw (e, infix_of_sign op, c)

  chooses : (used l : ℕ) (a : ExprTree) (st : List Frame) (p : Place) (ts : List Token) → Counts used ts → l ≤ 1
      → run limits (sign sg.Question p ∷ ts) (HaveExpr used l a) st ≡ run limits ts (WantExpr (used + 1) 1)
      (Then l a ∷ st)
  chooses used l a st p ts c h = let e : nat_le l 1 ≡ true = grind (arith, nat_tests) in rw (e, c)

  goes_on : (used l : ℕ) (c a : ExprTree) (st : List Frame) (q : Place) (ts : List Token) → Counts used ts
      → run limits (sign sg.Colon q ∷ ts) (HaveExpr used 1 a) (Then l c ∷ st) ≡ run limits ts (WantExpr (used + 1) 1)
      (Otherwise l c a ∷ st)
  goes_on used l c a st q ts fit = rw fit

  casts : (used l : ℕ) (kd : Kind) (st : List Frame) (q : Place) (ts : List Token) → Counts used ts
      → run limits (sign sg.CloseParen q ∷ ts) (HaveKind (Some used) kd) (CastKind l ∷ st) ≡ run limits ts
      (WantExpr (used + 1) 12) (Before l (Casts kd) ∷ st)
  casts used l kd st q ts fit = rw fit

  closes_parentheses : (used l : ℕ) (a : ExprTree) (st : List Frame) (q : Place) (r : List Token) → Counts used r
      → run limits (sign sg.CloseParen q ∷ r) (HaveExpr used 1 a) (InParens l ∷ st) ≡ run limits r
      (HaveExpr (used + 1) l a) st
  closes_parentheses used l a st q r c = rw c

  closes_brackets : (used l : ℕ) (taken : Bool) (x : Ident) (a : ExprTree) (st : List Frame) (q : Place)
      (r : List Token) → Counts used r
      → run limits (sign sg.CloseBracket q ∷ r) (HaveExpr used 1 a) (InBrackets l taken x ∷ st) ≡ run limits r
      (HaveExpr (used + 1) l (bracketed taken x a)) st
  closes_brackets used l taken x a st q r c = rw c

  pub reads : {m : ℕ} {a : ExprTree} {s r : List Token} → Spells limits m a s r → (used used' l : ℕ) (st : List Frame) →
      used + length s ≡ whole
      → used' + length r ≡ whole → behind ≤ length r → 1 ≤ l → l ≤ m → next_binds r ≤ m → next_binds r + 2 ≤ 2 * m →
      next_is is_opening r ≡ false
      → run limits s (WantExpr used l) st ≡ run limits r (HaveExpr used' l a) st
  reads (a_literal m n kd p r) used used' l st count count' inside least below most stops ends =
      let same : used' ≡ used + 1 = omega arith in
      rw (fits used r (omega arith) inside, same)
  reads (a_name m x r) used used' l st count count' inside least below most stops ends =
      let same : used' ≡ used + 1 = omega arith in
      rw (fits used r (omega arith) inside, same) (rests limits (used + 1) l false x st r ends)
  reads (an_element m x a p q s r h) used used' l st count count' inside least below most stops ends =
      let shrinks = shorter limits h in
      let last = whole - (1 + length r) in
      let counted : last + (1 + length r) ≡ whole = omega arith in
      let same : used' ≡ last + 1 = omega arith in
      rw (
        fits used (sign sg.OpenBracket p ∷ s) (omega arith) (omega arith),
        fits (used + 1) s (omega arith)
            (omega arith),
        same,
      )
      (reads h (used + 1 + 1) last 1 (InBrackets l false x ∷ st) (omega arith) (omega arith) (omega arith) (omega arith)
      (omega arith) (omega arith) (omega arith) refl
      ∙ closes_brackets last l false x a st q r (fits last r counted inside))
  reads (in_parentheses m a p q s r h) used used' l st count count' inside least below most stops ends =
      let shrinks = shorter limits h in
      let last = whole - (1 + length r) in
      let counted : last + (1 + length r) ≡ whole = omega arith in
      let same : used' ≡ last + 1 = omega arith in
      rw (fits used s (omega arith) (omega arith), same)
      (opens_parentheses limits (used + 1) l st s (begins_no_kind limits h)
      ∙ reads h (used + 1) last 1 (InParens l ∷ st) (omega arith) (omega arith) (omega arith) (omega arith)
      (omega arith) (omega arith) (omega arith) refl
      ∙ closes_parentheses last l a st q r (fits last r counted inside))
  reads (an_operand_of m op a p s r h) used used' l st count count' inside least below most stops ends =
      let shrinks = shorter limits h in
      let binding = next_at_most r in
      rw (fits used s (omega arith) (omega arith), operand_unary)
      (reads h (used + 1) used' 12 (Before l (Operates op) ∷ st) (omega arith) count' inside (omega arith) (omega arith)
      (omega arith) (omega arith) ends
      ∙ pop_before limits used' l (Operates op) a st r)
  reads (what_is_pointed_to m a p s r h) used used' l st count count' inside least below most stops ends =
      let shrinks = shorter limits h in
      let binding = next_at_most r in
      rw (fits used s (omega arith) (omega arith))
      (reads h (used + 1) used' 12 (Before l Points ∷ st) (omega arith) count' inside (omega arith) (omega arith)
      (omega arith) (omega arith) ends
      ∙ pop_before limits used' l Points a st r)
  reads (an_address m x p r) used used' l st count count' inside least below most stops ends =
      let same : used' ≡ used + 1 + 1 = omega arith in
      rw (fits used (ident x ∷ r) (omega arith) (omega arith), fits (used + 1) r (omega arith) inside, same)
      (rests limits (used + 1 + 1) l true x st r ends)
  reads (an_address_of_element m x a o p q s r h) used used' l st count count' inside least below most stops ends =
      let shrinks = shorter limits h in
      let last = whole - (1 + length r) in
      let counted : last + (1 + length r) ≡ whole = omega arith in
      let same : used' ≡ last + 1 = omega arith in
      rw (
        fits used (ident x ∷ sign sg.OpenBracket p ∷ s) (omega arith) (omega arith),
        fits (used + 1)
            (sign sg.OpenBracket p ∷ s) (omega arith) (omega arith),
        fits (used + 1 + 1) s (omega arith)
            (omega arith),
        same,
      )
      (reads h (used + 1 + 1 + 1) last 1 (InBrackets l true x ∷ st) (omega arith) (omega arith) (omega arith)
      (omega arith) (omega arith) (omega arith) (omega arith) refl
      ∙ closes_brackets last l true x a st q r (fits last r counted inside))
  reads (a_cast m kd a p q s t r hk h) used used' l st count count' inside least below most stops ends =
      let shrinks = shorter limits h in
      let shrinks_too = shorter_kind hk in
      let binding = next_at_most r in
      let last = whole - (1 + length t) in
      let counted : last + (1 + length t) ≡ whole = omega arith in
      rw (fits used s (omega arith) (omega arith))
      (opens_cast limits (used + 1) l st s (begins_with_kind hk)
      ∙ reads_kind_in limits whole behind room hk (used + 1) last (CastKind l ∷ st) (omega arith) (omega arith)
      (omega arith) refl
      ∙ casts last l kd st q t (fits last t counted (omega arith))
      ∙ reads h (last + 1) used' 12 (Before l (Casts kd) ∷ st) (omega arith) count' inside (omega arith) (omega arith)
      (omega arith) (omega arith) ends
      ∙ pop_before limits used' l (Casts kd) a st r)
  reads (two_operands m op a b p s t r le ha hb) used used' l st count count' inside least below most stops ends =
      let shrinks = shorter limits ha in
      let shrinks_too = shorter limits hb in
      let last = whole - (1 + length t) in
      let counted : last + (1 + length t) ≡ whole = omega arith in
      let same = binds_sign op in
      let tight = level_at_least op in
      reads ha used last l st count (omega arith) (omega arith) least (omega arith) (omega arith) (omega arith)
      (opens_no_name op)
      ∙ rises last l a st op p t (fits last t counted (omega arith)) (omega arith)
      ∙ reads hb (last + 1) used' (level op + 1) (Right l op a ∷ st) (omega arith) count' inside (omega arith)
      (omega arith) (omega arith) (omega arith) ends
      ∙ pop_right limits used' l (level op + 1) op a b st r (omega arith)
  reads (a_choice m c a b p q s t v r le hc ha hb) used used' l st count count' inside least below most stops ends =
      let shrinks = shorter limits hc in
      let shrinks_too = shorter limits ha in
      let shrinks_still = shorter limits hb in
      let first = whole - (1 + length t) in
      let first_counted : first + (1 + length t) ≡ whole = omega arith in
      let second = whole - (1 + length v) in
      let second_counted : second + (1 + length v) ≡ whole = omega arith in
      reads hc used first l st count (omega arith) (omega arith) least (omega arith) (omega arith) (omega arith) refl
      ∙ chooses first l c st p t (fits first t first_counted (omega arith)) (omega arith)
      ∙ reads ha (first + 1) second 1 (Then l c ∷ st) (omega arith) (omega arith) (omega arith) (omega arith)
      (omega arith) (omega arith) (omega arith) refl
      ∙ goes_on second l c a st q v (fits second v second_counted (omega arith))
      ∙ reads hb (second + 1) used' 1 (Otherwise l c a ∷ st) (omega arith) count' inside (omega arith) (omega arith)
      (omega arith) (omega arith) ends
      ∙ pop_otherwise limits used' l c a b st r (omega arith)
  reads (a_call m x p r out) used used' l st count count' inside least below most stops ends =
      let same : used' ≡ used + 1 + 1 = omega arith in
      rw (
        fits used (sign sg.OpenParen p ∷ r) (omega arith) (omega arith),
        leaves limits r out,
        fits (used + 1) r
            (omega arith) inside,
        same,
      )
  reads (a_call_of_address m x o p r out) used used' l st count count' inside least below most stops ends =
      let same : used' ≡ used + 1 + 1 + 1 = omega arith in
      rw (
        fits used (ident x ∷ sign sg.OpenParen p ∷ r) (omega arith) (omega arith),
        fits (used + 1)
            (sign sg.OpenParen p ∷ r) (omega arith) (omega arith),
        leaves limits r out,
        fits (used + 1 + 1) r
            (omega arith) inside,
        same,
      )

-- where an expression ends: the next token is `;`, `,`, `)`, `]`

abbrev pub is_ending : TokenKind → Bool
is_ending (k.Sign sg.Semicolon) = true
is_ending (k.Sign sg.Comma) = true
is_ending (k.Sign sg.CloseParen) = true
is_ending (k.Sign sg.CloseBracket) = true
is_ending kind = false

ending_binds : (kind : TokenKind) → is_ending kind ≡ true → binds kind ≡ 0
ending_binds (k.Sign sg.Semicolon) h = refl
ending_binds (k.Sign sg.Comma) h = refl
ending_binds (k.Sign sg.CloseParen) h = refl
ending_binds (k.Sign sg.CloseBracket) h = refl
ending_binds _ h = cc

ending_opens : (kind : TokenKind) → is_ending kind ≡ true → is_opening kind ≡ false
ending_opens (k.Sign sg.OpenParen) h = cc
ending_opens (k.Sign sg.OpenBracket) h = cc
ending_opens _ h = refl

pub ends-binds : (r : List Token) → next_is is_ending r ≡ true → next_binds r ≡ 0
ends-binds [] h = refl
ends-binds (t ∷ ts) h = ending_binds t.kind h

pub ends-opens : (r : List Token) → next_is is_ending r ≡ true → next_is is_opening r ≡ false
ends-opens r h = next_is-not is_ending is_opening ending_opens r h

module _ (limits : Limits) where
  begins_outermost : (st : List Frame) (s : List Token) → run limits s WantOutermost st ≡ run limits s (WantExpr 0 1) st
  begins_outermost st [] = refl
  begins_outermost st (t ∷ ts) = refl

  gives : (used : ℕ) (a : ExprTree) (st : List Frame) (r : List Token) → next_binds r ≡ 0 →
      run limits r (HaveExpr used 1 a) st ≡ run limits r (Given used a) st
  gives used a st [] h = refl
  gives used a st (t ∷ ts) h = let below : binds t.kind < 1 = omega arith in rw (falls limits _ _ used 1 a st t below)

  pub reads_given : {a : ExprTree} {s r : List Token} → SpellsExpr limits a s r → (st : List Frame) →
      next_is is_ending r ≡ true
      → run limits s WantOutermost st ≡ run limits r (Given (length s - length r) a) st
  reads_given (outermost a s r room h) st ends =
      let shrinks = shorter limits h in
      let binding = ends-binds r ends in
      begins_outermost st s
      ∙ reads limits (length s) (length r) room h 0 (length s - length r) 1 st (omega arith) (omega arith) (omega arith)
      (omega arith) (omega arith) (omega arith) (omega arith) (ends-opens r ends)
      ∙ gives (length s - length r) a st r binding

  -- what comes of an outermost expression, however many tokens it has, comes of its tokens
  pub reads_outermost : {a : ExprTree} {s r : List Token} → SpellsExpr limits a s r → (st : List Frame) (V : Verdict) →
      next_is is_ending r ≡ true
      → ((used : ℕ) → run limits r (Given used a) st ≡ V) → run limits s WantOutermost st ≡ V
  reads_outermost {s = s} {r = r} h st V ends on = reads_given h st ends ∙ on (length s - length r)
