-- What the machine does with values, assignments, locals and statements in statements, before it sees the next token.
use Rattle.std.proofs.Common.{◌≡◌, ℕ, ◌+◌, ◌≤◌, ◌<◌, nat_lt, arith, List, [], ◌∷◌, length, Bool, true, false, refl, ap, Option, Some, None, Err}
use Rattle.cas_base.specs.declared.place.Place.{Place}
use Rattle.cas_base.specs.declared.kind.Kind.{Kind}
use Rattle.cas_lex.specs.declared.code.ReadCode.TheVariants.{R8}
use Rattle.cas_lex.specs.declared.token.Token.{Token}
use Rattle.cas_lex.specs.declared.token.TokenKind.{TokenKind}
use Rattle.cas_lex.specs.declared.token.TokenKind.TheVariants as k
use Rattle.cas_lex.specs.declared.token.Word.TheVariants as w
use Rattle.cas_lex.specs.declared.token.Sign.TheVariants as sg
use Rattle.cas_syntax.specs.Reading.{within}
use Rattle.cas_syntax.specs.Tree.{ExprTree, StmtTree, StmtList, StmtOption, absent, present, if_, while_, do_, for_, return_, print}
use Rattle.cas_parse.specs.Frames.{Frame, SimpleStmt, PrintValue, ReturnValue, DoCondition, IfCondition, IfThen, IfElse, WhileCondition, WhileBody, ForBody, ForCondition, FirstKind, FirstLocal, FirstSimple, AfterSimple, LocalsKind, Locals, NextStmt, Given, HaveKind, HaveSimple, HaveLocal, HaveStmt, WantOutermost, WantLocal, WantStmt, WantKind, AfterReturn, ForFirst, ForSecond, ForThird, InList, Expect}
use Rattle.cas_parse.specs.Machine.{is, begins_kind, after_return, outermost, for_first, for_first_started, for_second, for_third, simple_started, nested, want_kind, in_list, list_continued, snoc, limited, started, Verdict}
use Rattle.cas_read_expr.specs.Follow.{verdict, taken, next_is, next_is_else, next_begins_kind, is_closing_brace}
use Rattle.cas_read_stmt.specs.FollowStmts.{starts_simple, begins_listed, begins_simple, begins_stmt, nests_kind, nests_simple}

pub had_simple_stmt : (ts : List Token) (a : StmtTree) (st : List Frame) →
    verdict ts (HaveSimple a) (SimpleStmt ∷ st) ≡ verdict ts (Expect true sg.Semicolon (HaveStmt a)) st
had_simple_stmt [] a st = refl
had_simple_stmt (t ∷ ts) a st = refl

pub given_printed : (ts : List Token) (b : ℕ) (x : ExprTree) (p : Place) (st : List Frame) →
    verdict ts (Given b x) (PrintValue p ∷ st) ≡ verdict ts
    (Expect true sg.CloseParen (Expect true sg.Semicolon (HaveStmt (print p x)))) st
given_printed [] b x p st = refl
given_printed (t ∷ ts) b x p st = refl

pub returns_value : (ts : List Token) (q : Place) (st : List Frame) → next_is sg.Semicolon ts ≡ false →
    verdict ts (AfterReturn q) st ≡ verdict ts WantOutermost (ReturnValue q ∷ st)
returns_value [] q st h = refl
returns_value (t ∷ ts) q st h = ap (taken ts) (by_kind t.kind h)
  where
    by_kind : (kind : TokenKind) → is sg.Semicolon kind ≡ false →
        after_return (within 0) false false q st t.place kind ≡ outermost (within 0) false false (ReturnValue q ∷ st)
        t.place kind
    by_kind (k.Sign sg.Semicolon) h = cc
    by_kind _ h = refl

pub given_returned : (ts : List Token) (b : ℕ) (x : ExprTree) (p : Place) (st : List Frame) →
    verdict ts (Given b x) (ReturnValue p ∷ st) ≡ verdict ts (Expect true sg.Semicolon (HaveStmt (return_ p (Some x))))
    st
given_returned [] b x p st = refl
given_returned (t ∷ ts) b x p st = refl

pub given_done : (ts : List Token) (b : ℕ) (x : ExprTree) (p : Place) (a : StmtTree) (st : List Frame) →
    verdict ts (Given b x) (DoCondition p a ∷ st) ≡ verdict ts
    (Expect true sg.CloseParen (Expect true sg.Semicolon (HaveStmt (do_ p a x)))) st
given_done [] b x p a st = refl
given_done (t ∷ ts) b x p a st = refl

pub given_if : (ts : List Token) (b : ℕ) (x : ExprTree) (n : ℕ) (p : Place) (st : List Frame) →
    verdict ts (Given b x) (IfCondition n p ∷ st) ≡ verdict ts (Expect true sg.CloseParen (WantStmt (n + 1)))
    (IfThen n p x ∷ st)
given_if [] b x n p st = refl
given_if (t ∷ ts) b x n p st = refl

pub given_while : (ts : List Token) (b : ℕ) (x : ExprTree) (n : ℕ) (p : Place) (st : List Frame) →
    verdict ts (Given b x) (WhileCondition n p ∷ st) ≡ verdict ts (Expect true sg.CloseParen (WantStmt (n + 1)))
    (WhileBody p x ∷ st)
given_while [] b x n p st = refl
given_while (t ∷ ts) b x n p st = refl

pub had_while : (ts : List Token) (a : StmtTree) (p : Place) (c : ExprTree) (st : List Frame) →
    verdict ts (HaveStmt a) (WhileBody p c ∷ st) ≡ verdict ts (HaveStmt (while_ p c a)) st
had_while [] a p c st = refl
had_while (t ∷ ts) a p c st = refl

pub had_for : (ts : List Token) (a : StmtTree) (p : Place) (i : StmtOption) (c : Option ExprTree) (u : StmtOption)
    (st : List Frame) → verdict ts (HaveStmt a) (ForBody p i c u ∷ st) ≡ verdict ts (HaveStmt (for_ p i c u a)) st
had_for [] a p i c u st = refl
had_for (t ∷ ts) a p i c u st = refl

pub had_else : (ts : List Token) (a b : StmtTree) (p : Place) (c : ExprTree) (st : List Frame) →
    verdict ts (HaveStmt b) (IfElse p c a ∷ st) ≡ verdict ts (HaveStmt (if_ p c a (present b))) st
had_else [] a b p c st = refl
had_else (t ∷ ts) a b p c st = refl

pub no_else : (ts : List Token) (a : StmtTree) (n : ℕ) (p : Place) (c : ExprTree) (st : List Frame) →
    next_is_else ts ≡ false → verdict ts (HaveStmt a) (IfThen n p c ∷ st) ≡ verdict ts (HaveStmt (if_ p c a absent)) st
no_else [] a n p c st h = refl
no_else (t ∷ ts) a n p c st h = rw h

-- the parts of a `for`

pub first_local : (ts : List Token) (n : ℕ) (q : Place) (st : List Frame) → next_begins_kind ts ≡ true →
    verdict ts (ForFirst n q) st ≡ nests_kind ts (n + 1) (FirstKind n q ∷ st)
first_local [] n q st h = refl
first_local (t ∷ ts) n q st h = ap (taken ts) (by_kind t.kind h)
  where
    by_kind : (kind : TokenKind) → begins_kind kind ≡ true →
        for_first (within 0) false false n q st t.place kind ≡ nested (within 0) false false (n + 1)
        (want_kind (within 0) false false None (FirstKind n q ∷ st) kind)
    by_kind (k.Sign sg.Semicolon) h = cc
    by_kind (k.Word w.Char) h = refl
    by_kind (k.Word w.Short) h = refl
    by_kind (k.Word w.Int) h = refl
    by_kind (k.Word w.Unsigned) h = refl
    by_kind (k.Word w.Signed) h = refl
    by_kind _ h = cc

pub first_simple : (ts : List Token) (n : ℕ) (q : Place) (st : List Frame) → next_is sg.Semicolon ts ≡ false →
    next_begins_kind ts ≡ false → verdict ts (ForFirst n q) st ≡ nests_simple ts (n + 1) (FirstSimple n q ∷ st)
first_simple [] n q st g h = refl
first_simple (t ∷ ts) n q st g h = ap (taken ts) (by_kind t.kind g h)
  where
    by_bool : (kind : TokenKind) (is_kind : Bool) → is_kind ≡ false →
        for_first_started (within 0) false false n q st t.place kind is_kind ≡ nested (within 0) false false (n + 1)
        (simple_started (within 0) false false (FirstSimple n q ∷ st) t.place kind)
    by_bool kind false h = refl
    by_bool kind true h = cc

    by_kind : (kind : TokenKind) → is sg.Semicolon kind ≡ false → begins_kind kind ≡ false →
        for_first (within 0) false false n q st t.place kind ≡ nested (within 0) false false (n + 1)
        (simple_started (within 0) false false (FirstSimple n q ∷ st) t.place kind)
    by_kind (k.Sign sg.Semicolon) g h = cc
    by_kind kind g h = by_bool kind (begins_kind kind) h

pub had_first_kind : (ts : List Token) (b : Option ℕ) (kd : Kind) (n : ℕ) (q : Place) (st : List Frame) →
    verdict ts (HaveKind b kd) (FirstKind n q ∷ st) ≡ verdict ts (WantLocal kd) (FirstLocal n q ∷ st)
had_first_kind [] b kd n q st = refl
had_first_kind (t ∷ ts) b kd n q st = refl

pub had_first_local : (ts : List Token) (a : StmtTree) (n : ℕ) (q : Place) (st : List Frame) →
    verdict ts (HaveLocal a) (FirstLocal n q ∷ st) ≡ verdict ts (Expect true sg.Semicolon (ForSecond n q (present a)))
    st
had_first_local [] a n q st = refl
had_first_local (t ∷ ts) a n q st = refl

pub had_first_simple : (ts : List Token) (a : StmtTree) (n : ℕ) (q : Place) (st : List Frame) →
    verdict ts (HaveSimple a) (FirstSimple n q ∷ st) ≡ verdict ts (Expect true sg.Semicolon (ForSecond n q (present a)))
    st
had_first_simple [] a n q st = refl
had_first_simple (t ∷ ts) a n q st = refl

pub second_value : (ts : List Token) (n : ℕ) (q : Place) (i : StmtOption) (st : List Frame) →
    next_is sg.Semicolon ts ≡ false → verdict ts (ForSecond n q i) st ≡ verdict ts WantOutermost
    (ForCondition n q i ∷ st)
second_value [] n q i st h = refl
second_value (t ∷ ts) n q i st h = ap (taken ts) (by_kind t.kind h)
  where
    by_kind : (kind : TokenKind) → is sg.Semicolon kind ≡ false →
        for_second (within 0) false false n q i st t.place kind ≡ outermost (within 0) false false
        (ForCondition n q i ∷ st) t.place kind
    by_kind (k.Sign sg.Semicolon) h = cc
    by_kind _ h = refl

pub given_second : (ts : List Token) (b : ℕ) (x : ExprTree) (n : ℕ) (q : Place) (i : StmtOption) (st : List Frame) →
    verdict ts (Given b x) (ForCondition n q i ∷ st) ≡ verdict ts (Expect true sg.Semicolon (ForThird n q i (Some x)))
    st
given_second [] b x n q i st = refl
given_second (t ∷ ts) b x n q i st = refl

pub third_simple : (ts : List Token) (n : ℕ) (q : Place) (i : StmtOption) (c : Option ExprTree) (st : List Frame) →
    next_is sg.CloseParen ts ≡ false → verdict ts (ForThird n q i c) st ≡ nests_simple ts (n + 1)
    (AfterSimple n q i c ∷ st)
third_simple [] n q i c st h = refl
third_simple (t ∷ ts) n q i c st h = ap (taken ts) (by_kind t.kind h)
  where
    by_kind : (kind : TokenKind) → is sg.CloseParen kind ≡ false →
        for_third (within 0) false false n q i c st t.place kind ≡ nested (within 0) false false (n + 1)
        (simple_started (within 0) false false (AfterSimple n q i c ∷ st) t.place kind)
    by_kind (k.Sign sg.CloseParen) h = cc
    by_kind _ h = refl

pub had_third : (ts : List Token) (a : StmtTree) (n : ℕ) (q : Place) (i : StmtOption) (c : Option ExprTree)
    (st : List Frame) → verdict ts (HaveSimple a) (AfterSimple n q i c ∷ st) ≡ verdict ts
    (Expect true sg.CloseParen (WantStmt (n + 1))) (ForBody q i c (present a) ∷ st)
had_third [] a n q i c st = refl
had_third (t ∷ ts) a n q i c st = refl

-- lists of statements

pub had_listed : (ts : List Token) (a : StmtTree) (n : ℕ) (bs : StmtList) (st : List Frame) →
    verdict ts (HaveStmt a) (NextStmt n bs ∷ st) ≡ verdict ts (InList n (snoc bs a)) st
had_listed [] a n bs st = refl
had_listed (t ∷ ts) a n bs st = refl

pub had_locals_kind : (ts : List Token) (b : Option ℕ) (kd : Kind) (n : ℕ) (bs : StmtList) (st : List Frame) →
    verdict ts (HaveKind b kd) (LocalsKind n bs ∷ st) ≡ verdict ts (WantLocal kd) (Locals n kd bs ∷ st)
had_locals_kind [] b kd n bs st = refl
had_locals_kind (t ∷ ts) b kd n bs st = refl

pub goes_on_in_list : (ts : List Token) (t : Token) (rest : List Token) (n : ℕ) (bs : StmtList) (st : List Frame) →
    ts ≡ t ∷ rest → is_closing_brace t.kind ≡ false → verdict ts (InList n bs) st ≡ begins_listed ts n bs st
goes_on_in_list ts t rest n bs st e h = rw e (ap (taken rest) (by_kind t.kind h))
  where
    by_kind : (kind : TokenKind) → is_closing_brace kind ≡ false →
        in_list (within 0) false false n bs st t.place kind ≡ list_continued (within 0) false false n bs st t.place kind
        (begins_kind kind)
    by_kind (k.Sign sg.CloseBrace) h = cc
    by_kind _ h = refl

-- a statement or locals of a list

pub listed_stmt : (ts : List Token) (n : ℕ) (bs : StmtList) (st : List Frame) → next_begins_kind ts ≡ false →
    begins_listed ts n bs st ≡ verdict ts (WantStmt n) (NextStmt n bs ∷ st)
listed_stmt [] n bs st h = refl
listed_stmt (t ∷ ts) n bs st h = rw h refl

pub listed_kind : (ts : List Token) (n : ℕ) (bs : StmtList) (st : List Frame) → next_begins_kind ts ≡ true → n < 200 →
    begins_listed ts n bs st ≡ verdict ts (WantKind None) (LocalsKind n bs ∷ st)
listed_kind [] n bs st h less = refl
listed_kind (t ∷ ts) n bs st h less = let e : nat_lt n 200 ≡ true = grind arith in rw (h, e) refl

-- words of a kind begin, but too deep
kind_too_deep : (st : List Frame) (kind : TokenKind) → begins_kind kind ≡ true →
    limited false (want_kind (within 0) false false None st kind) ≡ Err R8
kind_too_deep st (k.Word w.Char) h = refl
kind_too_deep st (k.Word w.Short) h = refl
kind_too_deep st (k.Word w.Int) h = refl
kind_too_deep st (k.Word w.Unsigned) h = refl
kind_too_deep st (k.Word w.Signed) h = refl
kind_too_deep st _ h = cc

pub listed_too_deep : (ts : List Token) (n : ℕ) (bs : StmtList) (st : List Frame) → next_begins_kind ts ≡ true →
    200 ≤ n →
    begins_listed ts n bs st ≡ Err (record { code = R8; left = length ts })
listed_too_deep [] n bs st h more = cc
listed_too_deep (t ∷ ts) n bs st h more =
    let e : nat_lt n 200 ≡ false = grind arith in
    rw (h, e) (rw (kind_too_deep (LocalsKind n bs ∷ st) t.kind h)
    (ap (λ (left : ℕ). let v : Verdict = Err (record { code = R8; left = left }) in v) (omega arith)))

pub nests_kind_within : (ts : List Token) (n : ℕ) (st : List Frame) → n < 200 →
    nests_kind ts n st ≡ verdict ts (WantKind None) st
nests_kind_within [] n st less = refl
nests_kind_within (t ∷ ts) n st less = let e : nat_lt n 200 ≡ true = grind arith in rw e refl

pub nests_kind_too_deep : (ts : List Token) (n : ℕ) (st : List Frame) → next_begins_kind ts ≡ true → 200 ≤ n →
    nests_kind ts n st ≡ Err (record { code = R8; left = length ts })
nests_kind_too_deep [] n st h more = cc
nests_kind_too_deep (t ∷ ts) n st h more =
    let e : nat_lt n 200 ≡ false = grind arith in
    rw e (rw (kind_too_deep st t.kind h)
    (ap (λ (left : ℕ). let v : Verdict = Err (record { code = R8; left = left }) in v) (omega arith)))

pub nests_simple_within : (ts : List Token) (n : ℕ) (st : List Frame) → n < 200 →
    nests_simple ts n st ≡ begins_simple ts st
nests_simple_within [] n st less = refl
nests_simple_within (t ∷ ts) n st less = let e : nat_lt n 200 ≡ true = grind arith in rw e refl

pub wants_stmt_within : (ts : List Token) (n : ℕ) (st : List Frame) → n < 200 →
    verdict ts (WantStmt n) st ≡ begins_stmt ts n st
wants_stmt_within [] n st less = refl
wants_stmt_within (t ∷ ts) n st less = let e : nat_lt n 200 ≡ true = grind arith in rw e refl

pub starts_as_simple : (ts : List Token) (t : Token) (rest : List Token) (n : ℕ) (st : List Frame) → ts ≡ t ∷ rest →
    starts_simple t.kind ≡ true → begins_stmt ts n st ≡ begins_simple ts (SimpleStmt ∷ st)
starts_as_simple ts t rest n st e h = rw e (ap (taken rest) (by_kind t.kind h))
  where
    by_kind : (kind : TokenKind) → starts_simple kind ≡ true →
        started (within 0) false false n st t.place kind ≡ simple_started (within 0) false false (SimpleStmt ∷ st)
        t.place kind
    by_kind (k.Name x) h = refl
    by_kind (k.Sign sg.Star) h = refl
    by_kind (k.Sign sg.PlusPlus) h = refl
    by_kind (k.Sign sg.MinusMinus) h = refl
    by_kind _ h = cc
