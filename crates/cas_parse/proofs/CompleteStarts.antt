-- How statements begin, and what may follow them.
use Rattle.std.proofs.Common.{◌≡◌, ℕ, ◌+◌, ◌||◌, Bool, true, false, not, nat_lt, List, [], ◌∷◌, length, Option, None, refl, ap, sym, ◌∙◌}
use Rattle.cas_base.specs.declared.place.Place.{Place}
use Rattle.cas_lex.specs.declared.token.Token.{Token}
use Rattle.cas_lex.specs.declared.token.TokenKind.{TokenKind}
use Rattle.cas_lex.specs.declared.token.TokenKind.TheVariants as k
use Rattle.cas_lex.specs.declared.token.Word.TheVariants as w
use Rattle.cas_lex.specs.declared.token.Sign.TheVariants as sg
use Rattle.cas_syntax.specs.Tree.{ExprTree, StmtTree, StmtOption, StmtList, no_more, one_more}
use Rattle.cas_syntax.specs.Limits.{Limits, AllowsDepth}
use Rattle.cas_syntax.specs.Statements.{SpellsTarget, a_variable, SpellsSimple, sets, changes, increments, decrements, SpellsStmt, simple, SpellsStmts, ended, a_stmt, locals}
use Rattle.cas_parse.specs.Frames.{Frame, ForCondition, ReturnValue, SimpleStmt, FirstSimple, AfterSimple, LocalsKind, FirstKind, NextStmt, WantOutermost, WantKind, WantStmt, InList, ForFirst, ForSecond, ForThird, AfterReturn}
use Rattle.cas_parse.specs.Machine.{begins_kind, is_at, is_else, snoc, started, simple_started, nested, outermost as begins_outermost, for_second, after_return, in_list, run, go}
use Rattle.cas_parse.proofs.CompleteNext.{next_is, next_is-so, next_is-not, alike}
use Rattle.cas_parse.proofs.CompleteLimits.{allows}
use Rattle.cas_parse.proofs.CompleteKinds.{begins_with_kind}
use Rattle.cas_parse.proofs.CompleteExprs.{is_ending}
use Rattle.cas_parse.proofs.CompleteSimple.{begun}

-- what may begin an assignment or a call
abbrev pub begins_simple : TokenKind → Bool
begins_simple (k.Name n) = true
begins_simple (k.Sign sg.Star) = true
begins_simple (k.Sign sg.PlusPlus) = true
begins_simple (k.Sign sg.MinusMinus) = true
begins_simple kind = false

-- a token that begins one, by its kinds
data BeginsSimple : TokenKind → Type 0 where
  a_name : (n : _) → BeginsSimple (k.Name n)
  a_star : BeginsSimple (k.Sign sg.Star)
  an_increment : BeginsSimple (k.Sign sg.PlusPlus)
  a_decrement : BeginsSimple (k.Sign sg.MinusMinus)

by_beginning : (kind : TokenKind) → begins_simple kind ≡ true → BeginsSimple kind
by_beginning (k.Name n) h = a_name n
by_beginning (k.Sign sg.Star) h = a_star
by_beginning (k.Sign sg.PlusPlus) h = an_increment
by_beginning (k.Sign sg.MinusMinus) h = a_decrement
by_beginning _ h = cc

pub target_begins : {limits : Limits} {target : _} {s r : List Token} → SpellsTarget limits target s r →
    next_is begins_simple s ≡ true
target_begins (a_variable x r) = refl
target_begins _ = refl

pub simple_begins : {limits : Limits} {a : StmtTree} {s r : List Token} → SpellsSimple limits a s r →
    next_is begins_simple s ≡ true
simple_begins (sets target a first p s t r ht may h) = target_begins ht
simple_begins (changes target op by a first p s t r is ht h) = target_begins ht
simple_begins (increments target first p s r ht) = target_begins ht
simple_begins (decrements target first p s r ht) = target_begins ht
simple_begins _ = refl

-- what may begin a statement in a list of statements, where no kind begins
abbrev pub begins_stmt : TokenKind → Bool
begins_stmt (k.Sign sg.CloseBrace) = false
begins_stmt (k.Word w.Else) = false
begins_stmt kind = not (begins_kind kind)

simple_stmt : (kind : TokenKind) → begins_simple kind ≡ true → begins_stmt kind ≡ true
simple_stmt (k.Word w.Else) h = cc
simple_stmt (k.Sign sg.CloseBrace) h = cc
simple_stmt (k.Word _) h = cc
simple_stmt _ h = refl

pub stmt_begins : {limits : Limits} {n : ℕ} {a : StmtTree} {s r : List Token} → SpellsStmt limits n a s r →
    next_is begins_stmt s ≡ true
stmt_begins (simple n a p s r al h) = next_is-so begins_simple begins_stmt simple_stmt s (simple_begins h)
stmt_begins _ = refl

abbrev pub an_else : TokenKind → Bool
an_else (k.Word w.Else) = true
an_else kind = false

pub is_else-same : (limits : Limits) (near leaves : Bool) (kind : TokenKind) →
    is_else limits near leaves kind ≡ an_else kind
is_else-same limits near leaves (k.Word w.Else) = refl
is_else-same limits near leaves _ = refl

stmt_no_else : (kind : TokenKind) → begins_stmt kind ≡ true → an_else kind ≡ false
stmt_no_else (k.Word w.Else) h = cc
stmt_no_else _ h = refl

kind_no_else : (kind : TokenKind) → begins_kind kind ≡ true → an_else kind ≡ false
kind_no_else (k.Word w.Else) h = cc
kind_no_else _ h = refl

-- where an `else` doesn't follow statements, none follows a statement before them
pub stmts_no_else : {limits : Limits} {n : ℕ} {bs : StmtList} {s r : List Token} → SpellsStmts limits n bs s r →
    next_is an_else r ≡ false → next_is an_else s ≡ false
stmts_no_else (ended n r) h = h
stmts_no_else (a_stmt n a bs s t r ha hbs) h = next_is-not begins_stmt an_else stmt_no_else s (stmt_begins ha)
stmts_no_else (locals n kd bs rest p s t v r al hk hl hrest) h =
    next_is-not begins_kind an_else kind_no_else s (begins_with_kind hk)

-- the second statements behind the first, one after another
abbrev pub adds : StmtList → StmtList → StmtList
adds before no_more = before
adds before (one_more a bs) = adds (snoc before a) bs

abbrev join : StmtList → StmtList → StmtList
join no_more bs = bs
join (one_more a as_) bs = one_more a (join as_ bs)

join_no_more : (bs : StmtList) → join bs no_more ≡ bs
join_no_more no_more = refl
join_no_more (one_more a bs) = ap (one_more a) (join_no_more bs)

join_snoc : (before : StmtList) (a : StmtTree) (bs : StmtList) → join (snoc before a) bs ≡ join before (one_more a bs)
join_snoc no_more a bs = refl
join_snoc (one_more b before) a bs = ap (one_more b) (join_snoc before a bs)

adds_join : (bs before : StmtList) → adds before bs ≡ join before bs
adds_join no_more before = sym (join_no_more before)
adds_join (one_more a bs) before = adds_join bs (snoc before a) ∙ join_snoc before a bs

pub adds_all : (bs : StmtList) → adds no_more bs ≡ bs
adds_all bs = adds_join bs no_more

module _ (limits : Limits) where
  -- a statement that is allowed here begins
  pub enters : (n : ℕ) (st : List Frame) (t : Token) (ts : List Token) → AllowsDepth limits n (t ∷ ts)
      → run limits (t ∷ ts) (WantStmt n) st ≡ go (run limits ts) (length ts)
      (started limits (nat_lt (length ts) limits.cut) (is_at limits.left_out (length ts)) n st t.place t.kind)
  enters n st t ts h = rw (allows limits n t ts h)

  pub enters_simple : (n : ℕ) (st : List Frame) (s : List Token) → AllowsDepth limits n s →
      next_is begins_simple s ≡ true
      → run limits s (WantStmt n) st ≡ begun limits s (SimpleStmt ∷ st)
  enters_simple n st [] al h = refl
  enters_simple n st (t ∷ ts) al h = enters n st t ts al
      ∙ ap (go (run limits ts) (length ts)) (by_kind (nat_lt (length ts) limits.cut) (is_at limits.left_out (length ts))
      t.kind h)
    where
      by_kind : (near leaves : Bool) (kind : TokenKind) → begins_simple kind ≡ true
          → started limits near leaves n st t.place kind ≡ simple_started limits near leaves (SimpleStmt ∷ st)
          t.place kind
      by_kind near leaves (k.Word one) h = cc
      by_kind near leaves (k.Sign sg.Semicolon) h = cc
      by_kind near leaves (k.Sign sg.OpenBrace) h = cc
      by_kind near leaves _ h = refl

  -- in a list, a statement begins, or a kind
  pub starts_stmt : (n : ℕ) (before : StmtList) (st : List Frame) (s : List Token) → next_is begins_stmt s ≡ true
      → run limits s (InList n before) st ≡ run limits s (WantStmt n) (NextStmt n before ∷ st)
  starts_stmt n before st s h = alike limits begins_stmt true (InList n before) (WantStmt n) st (NextStmt n before ∷ st)
      refl by_kind s h
    where
      by_kind : (near leaves : Bool) (place : Place) (kind : TokenKind) → begins_stmt kind ≡ true
          → in_list limits near leaves n before st place kind ≡ nested limits near leaves n
          (started limits near leaves n (NextStmt n before ∷ st) place kind)
      by_kind near leaves place (k.Word w.Char) h = cc
      by_kind near leaves place (k.Word w.Short) h = cc
      by_kind near leaves place (k.Word w.Int) h = cc
      by_kind near leaves place (k.Word w.Unsigned) h = cc
      by_kind near leaves place (k.Word w.Signed) h = cc
      by_kind near leaves place (k.Sign sg.CloseBrace) h = cc
      by_kind near leaves place _ h = refl

  pub starts_locals : (n : ℕ) (before : StmtList) (st : List Frame) (s : List Token) → AllowsDepth limits n s →
      next_is begins_kind s ≡ true
      → run limits s (InList n before) st ≡ run limits s (WantKind None) (LocalsKind n before ∷ st)
  starts_locals n before st [] al h = cc
  starts_locals n before st (t ∷ ts) al h = by_kind t.kind h
    where
      fits : (nat_lt n limits.depth || nat_lt (length ts) limits.cut) ≡ true
      fits = allows limits n t ts al

      by_kind : (kind : TokenKind) → begins_kind kind ≡ true
          → run limits (record { kind = kind; place = t.place } ∷ ts) (InList n before) st ≡ run limits
          (record { kind = kind; place = t.place } ∷ ts) (WantKind None) (LocalsKind n before ∷ st)
      by_kind (k.Word w.Char) h = rw fits
      by_kind (k.Word w.Short) h = rw fits
      by_kind (k.Word w.Int) h = rw fits
      by_kind (k.Word w.Unsigned) h = rw fits
      by_kind (k.Word w.Signed) h = rw fits
      by_kind _ h = cc

  -- the parts of a `for`, and what stands behind `return`

  pub first_simple : (n : ℕ) (p : Place) (st : List Frame) (s : List Token) → AllowsDepth limits (n + 1) s →
      next_is begins_simple s ≡ true
      → run limits s (ForFirst n p) st ≡ begun limits s (FirstSimple n p ∷ st)
  first_simple n p st [] al h = refl
  first_simple n p st (t ∷ ts) al h = by_kind t.kind (by_beginning t.kind h)
    where
      fits : (nat_lt (n + 1) limits.depth || nat_lt (length ts) limits.cut) ≡ true
      fits = allows limits (n + 1) t ts al

      by_kind : (kind : TokenKind) → BeginsSimple kind
          → run limits (record { kind = kind; place = t.place } ∷ ts) (ForFirst n p) st ≡ begun limits
          (record { kind = kind; place = t.place } ∷ ts) (FirstSimple n p ∷ st)
      by_kind kind (a_name n) = rw fits
      by_kind kind a_star = rw fits
      by_kind kind an_increment = rw fits
      by_kind kind a_decrement = rw fits

  pub first_kind : (n : ℕ) (p : Place) (st : List Frame) (s : List Token) → AllowsDepth limits (n + 1) s →
      next_is begins_kind s ≡ true
      → run limits s (ForFirst n p) st ≡ run limits s (WantKind None) (FirstKind n p ∷ st)
  first_kind n p st [] al h = refl
  first_kind n p st (t ∷ ts) al h = by_kind t.kind h
    where
      fits : (nat_lt (n + 1) limits.depth || nat_lt (length ts) limits.cut) ≡ true
      fits = allows limits (n + 1) t ts al

      by_kind : (kind : TokenKind) → begins_kind kind ≡ true
          → run limits (record { kind = kind; place = t.place } ∷ ts) (ForFirst n p) st ≡ run limits
          (record { kind = kind; place = t.place } ∷ ts) (WantKind None) (FirstKind n p ∷ st)
      by_kind (k.Word w.Char) h = rw fits
      by_kind (k.Word w.Short) h = rw fits
      by_kind (k.Word w.Int) h = rw fits
      by_kind (k.Word w.Unsigned) h = rw fits
      by_kind (k.Word w.Signed) h = rw fits
      by_kind _ h = cc

  pub second_expr : (n : ℕ) (p : Place) (i : StmtOption) (st : List Frame) (s : List Token) →
      next_is is_ending s ≡ false
      → run limits s (ForSecond n p i) st ≡ run limits s WantOutermost (ForCondition n p i ∷ st)
  second_expr n p i st s h = alike limits is_ending false (ForSecond n p i) WantOutermost st (ForCondition n p i ∷ st)
      refl by_kind s h
    where
      by_kind : (near leaves : Bool) (place : Place) (kind : TokenKind) → is_ending kind ≡ false
          → for_second limits near leaves n p i st place kind ≡ begins_outermost limits near leaves
          (ForCondition n p i ∷ st) place kind
      by_kind near leaves place (k.Sign sg.Semicolon) h = cc
      by_kind near leaves place _ h = refl

  pub third_simple : (n : ℕ) (p : Place) (i : StmtOption) (c : Option ExprTree) (st : List Frame) (s : List Token) →
      AllowsDepth limits (n + 1) s → next_is begins_simple s ≡ true
      → run limits s (ForThird n p i c) st ≡ begun limits s (AfterSimple n p i c ∷ st)
  third_simple n p i c st [] al h = refl
  third_simple n p i c st (t ∷ ts) al h = by_kind t.kind (by_beginning t.kind h)
    where
      fits : (nat_lt (n + 1) limits.depth || nat_lt (length ts) limits.cut) ≡ true
      fits = allows limits (n + 1) t ts al

      by_kind : (kind : TokenKind) → BeginsSimple kind
          → run limits (record { kind = kind; place = t.place } ∷ ts) (ForThird n p i c) st ≡ begun limits
          (record { kind = kind; place = t.place } ∷ ts) (AfterSimple n p i c ∷ st)
      by_kind kind (a_name n) = rw fits
      by_kind kind a_star = rw fits
      by_kind kind an_increment = rw fits
      by_kind kind a_decrement = rw fits

  pub returned_expr : (q : Place) (st : List Frame) (s : List Token) → next_is is_ending s ≡ false
      → run limits s (AfterReturn q) st ≡ run limits s WantOutermost (ReturnValue q ∷ st)
  returned_expr q st s h = alike limits is_ending false (AfterReturn q) WantOutermost st (ReturnValue q ∷ st)
      refl by_kind s h
    where
      by_kind : (near leaves : Bool) (place : Place) (kind : TokenKind) → is_ending kind ≡ false
          → after_return limits near leaves q st place kind ≡ begins_outermost limits near leaves (ReturnValue q ∷ st)
          place kind
      by_kind near leaves place (k.Sign sg.Semicolon) h = cc
      by_kind near leaves place _ h = refl
