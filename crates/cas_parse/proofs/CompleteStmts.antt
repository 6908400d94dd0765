-- What is spelled as statements is read as them.
use Rattle.std.proofs.Common.{◌≡◌, ℕ, ◌+◌, ◌<◌, Bool, true, false, List, [], ◌∷◌, Option, Some, None, refl, ap, ◌∙◌}
use Rattle.cas_base.specs.declared.kind.Kind.{Kind}
use Rattle.cas_base.specs.declared.place.Place.{Place}
use Rattle.cas_lex.specs.declared.token.Token.{Token}
use Rattle.cas_lex.specs.declared.token.Word.TheVariants as w
use Rattle.cas_lex.specs.declared.token.Sign.TheVariants as sg
use Rattle.cas_syntax.specs.Tree.{ExprTree, StmtTree, block, if_, while_, do_, for_, return_, print, StmtOption, absent, present, StmtList, no_more}
use Rattle.cas_syntax.specs.Limits.{Limits}
use Rattle.cas_syntax.specs.Tokens.{word, sign, ident}
use Rattle.cas_syntax.specs.Statements.{SpellsLocals, last_local, one_local, SpellsFirst, nothing_first, simple_first, local_first, SpellsAfter, nothing_after, simple_after, SpellsOptional, no_expr, an_expr, dangles, SpellsStmt, skips, blocks, simple, ifs, if_elses, whiles, dos, fors, breaks, continues, returns, locks, unlocks, prints, SpellsStmts, ended, a_stmt, locals}
use Rattle.cas_parse.specs.Frames.{Frame, IfCondition, WhileCondition, DoCondition, ForCondition, ReturnValue, PrintValue, SimpleStmt, FirstSimple, AfterSimple, Locals, FirstLocal, LocalsKind, FirstKind, IfThen, IfElse, WhileBody, DoBody, ForBody, NextStmt, BlockOf, HaveKind, WantLocal, WantStmt, HaveStmt, InList, ForFirst, ForSecond, ForThird, AfterReturn}
use Rattle.cas_parse.specs.Machine.{snoc, run, begins_kind}
use Rattle.cas_parse.proofs.CompleteNext.{next_is}
use Rattle.cas_parse.proofs.CompleteKinds.{begins_with_kind, reads_kind}
use Rattle.cas_parse.proofs.CompleteExprs.{reads_outermost}
use Rattle.cas_parse.proofs.CompleteSimple.{expr_no_end, reads_simple}
use Rattle.cas_parse.proofs.CompleteLocals.{local_no_kind, reads_local}
use Rattle.cas_parse.proofs.CompleteStarts.{an_else, simple_begins, stmt_begins, is_else-same, stmts_no_else, adds, adds_all, enters, enters_simple, starts_stmt, starts_locals, first_simple, first_kind, second_expr, third_simple, returned_expr}

-- no `else` that stands behind the statement belongs to an `if` in it
abbrev pub Ends : StmtTree → List Token → Type 0
Ends a r = next_is an_else r ≡ true → dangles a ≡ false

no_else : (a : StmtTree) (r : List Token) → next_is an_else r ≡ false → Ends a r
no_else a r h e = cc

dangling : (p : Place) (c : ExprTree) (a : StmtTree) (r : List Token) → Ends (if_ p c a absent) r →
    next_is an_else r ≡ false
dangling p c a r h = by_cases (next_is an_else r) h
  where
    by_cases : (b : Bool) → (b ≡ true → true ≡ false) → b ≡ false
    by_cases true h = h refl
    by_cases false h = refl

locals_no_kind : {limits : Limits} {kd : Kind} {bs rest : StmtList} {s r : List Token} →
    SpellsLocals limits kd bs rest s r → next_is begins_kind s ≡ false
locals_no_kind (last_local a rest s r h) = local_no_kind h
locals_no_kind (one_local a bs rest p s t r h hs) = local_no_kind h

module _ (limits : Limits) where
  -- a statement goes to what waits for it

  pop_then : (n : ℕ) (p : Place) (c : ExprTree) (a : StmtTree) (st : List Frame) (r : List Token) →
      next_is an_else r ≡ false
      → run limits r (HaveStmt a) (IfThen n p c ∷ st) ≡ run limits r (HaveStmt (if_ p c a absent)) st
  pop_then n p c a st [] h = refl
  pop_then n p c a st (t ∷ ts) h = rw (is_else-same, h)

  goes_else : (n : ℕ) (p : Place) (c : ExprTree) (a : StmtTree) (st : List Frame) (e : Place) (r : List Token)
      → run limits (word w.Else e ∷ r) (HaveStmt a) (IfThen n p c ∷ st) ≡ run limits r (WantStmt (n + 1))
      (IfElse p c a ∷ st)
  goes_else n p c a st e r = refl

  pop_else : (p : Place) (c : ExprTree) (a b : StmtTree) (st : List Frame) (r : List Token)
      → run limits r (HaveStmt b) (IfElse p c a ∷ st) ≡ run limits r (HaveStmt (if_ p c a (present b))) st
  pop_else p c a b st [] = refl
  pop_else p c a b st (t ∷ ts) = refl

  pop_while : (p : Place) (c : ExprTree) (a : StmtTree) (st : List Frame) (r : List Token)
      → run limits r (HaveStmt a) (WhileBody p c ∷ st) ≡ run limits r (HaveStmt (while_ p c a)) st
  pop_while p c a st [] = refl
  pop_while p c a st (t ∷ ts) = refl

  pop_for : (p : Place) (i : StmtOption) (c : Option ExprTree) (x : StmtOption) (a : StmtTree) (st : List Frame)
      (r : List Token)
      → run limits r (HaveStmt a) (ForBody p i c x ∷ st) ≡ run limits r (HaveStmt (for_ p i c x a)) st
  pop_for p i c x a st [] = refl
  pop_for p i c x a st (t ∷ ts) = refl

  pop_next : (n : ℕ) (before : StmtList) (a : StmtTree) (st : List Frame) (r : List Token)
      → run limits r (HaveStmt a) (NextStmt n before ∷ st) ≡ run limits r (InList n (snoc before a)) st
  pop_next n before a st [] = refl
  pop_next n before a st (t ∷ ts) = refl

  goes_to_locals : (n : ℕ) (kd : Kind) (before : StmtList) (st : List Frame) (r : List Token)
      → run limits r (HaveKind None kd) (LocalsKind n before ∷ st) ≡ run limits r (WantLocal kd)
      (Locals n kd before ∷ st)
  goes_to_locals n kd before st [] = refl
  goes_to_locals n kd before st (t ∷ ts) = refl

  goes_to_local : (n : ℕ) (p : Place) (kd : Kind) (st : List Frame) (r : List Token)
      → run limits r (HaveKind None kd) (FirstKind n p ∷ st) ≡ run limits r (WantLocal kd) (FirstLocal n p ∷ st)
  goes_to_local n p kd st [] = refl
  goes_to_local n p kd st (t ∷ ts) = refl

  -- expressions that may be absent

  reads_second : {c : Option ExprTree} {q : Place} {s r : List Token} →
      SpellsOptional limits c s (sign sg.Semicolon q ∷ r) → (n : ℕ) (p : Place) (i : StmtOption) (st : List Frame)
      → run limits s (ForSecond n p i) st ≡ run limits r (ForThird n p i c) st
  reads_second (no_expr _) n p i st = refl
  reads_second {r = r} (an_expr a s _ h) n p i st =
      second_expr limits n p i st s (expr_no_end h)
      ∙ reads_outermost limits h (ForCondition n p i ∷ st) (run limits r (ForThird n p i (Some a)) st) refl
      (λ used. refl)

  reads_returned : {a : Option ExprTree} {q : Place} {s r : List Token} →
      SpellsOptional limits a s (sign sg.Semicolon q ∷ r) → (p : Place) (st : List Frame)
      → run limits s (AfterReturn p) st ≡ run limits r (HaveStmt (return_ p a)) st
  reads_returned (no_expr _) p st = refl
  reads_returned {r = r} (an_expr a s _ h) p st =
      returned_expr limits p st s (expr_no_end h)
      ∙ reads_outermost limits h (ReturnValue p ∷ st) (run limits r (HaveStmt (return_ p (Some a))) st) refl
      (λ used. refl)

module _ (limits : Limits) (some : 0 < limits.tokens) where
  -- the parts of a `for`

  reads_first : (n : ℕ) {i : StmtOption} {q : Place} {s r : List Token} →
      SpellsFirst limits (n + 1) i s (sign sg.Semicolon q ∷ r) → (p : Place) (st : List Frame)
      → run limits s (ForFirst n p) st ≡ run limits r (ForSecond n p i) st
  reads_first n (nothing_first _) p st = refl
  reads_first n (simple_first a s _ al h) p st =
      first_simple limits n p st s al (simple_begins h)
      ∙ reads_simple limits some h (FirstSimple n p ∷ st) refl
  reads_first n (local_first kd a s t _ al hk h) p st =
      first_kind limits n p st s al (begins_with_kind hk)
      ∙ reads_kind limits hk (FirstKind n p ∷ st) (local_no_kind h)
      ∙ goes_to_local limits n p kd st t
      ∙ reads_local limits some h (FirstLocal n p ∷ st) refl

  reads_third : (n : ℕ) {x : StmtOption} {q : Place} {s r : List Token} →
      SpellsAfter limits (n + 1) x s (sign sg.CloseParen q ∷ r) →
      (p : Place) (i : StmtOption) (c : Option ExprTree) (st : List Frame)
      → run limits s (ForThird n p i c) st ≡ run limits r (WantStmt (n + 1)) (ForBody p i c x ∷ st)
  reads_third n (nothing_after _) p i c st = refl
  reads_third n (simple_after a s _ al h) p i c st =
      third_simple limits n p i c st s al (simple_begins h)
      ∙ reads_simple limits some h (AfterSimple n p i c ∷ st) refl

  -- locals, and what comes of the statements behind them
  reads_locals : {kd : Kind} {bs rest : StmtList} {q : Place} {s v : List Token} →
      SpellsLocals limits kd bs rest s (sign sg.Semicolon q ∷ v)
      → (n : ℕ) (before : StmtList) (st : List Frame) (r : List Token)
      → ((all : StmtList) → run limits v (InList n all) st ≡ run limits r (InList n (adds all rest)) st)
      → run limits s (WantLocal kd) (Locals n kd before ∷ st) ≡ run limits r (InList n (adds before bs)) st
  reads_locals {kd = kd} (last_local a rest s _ h) n before st r on =
      reads_local limits some h (Locals n kd before ∷ st) refl
      ∙ on (snoc before a)
  reads_locals {kd = kd} (one_local a bs rest p s t _ h hs) n before st r on =
      reads_local limits some h (Locals n kd before ∷ st) refl
      ∙ reads_locals hs n (snoc before a) st r on

  mutual
    pub reads_stmt : {n : ℕ} {a : StmtTree} {s r : List Token} → SpellsStmt limits n a s r → (st : List Frame) →
        Ends a r
        → run limits s (WantStmt n) st ≡ run limits r (HaveStmt a) st
    reads_stmt (skips n p r al) st ends = enters limits n st (sign sg.Semicolon p) r al
    reads_stmt (blocks n bs p q s r al h) st ends =
        enters limits n st (sign sg.OpenBrace p) s al
        ∙ reads_stmts h no_more (BlockOf p ∷ st) refl
        ∙ ap (λ all. run limits r (HaveStmt (block p all)) st) (adds_all bs)
    reads_stmt (simple n a p s r al h) st ends =
        enters_simple limits n st s al (simple_begins h)
        ∙ reads_simple limits some h (SimpleStmt ∷ st) refl
    reads_stmt (ifs n c a p q q' s t r al hc ha) st ends =
        enters limits n st (word w.If p) (sign sg.OpenParen q ∷ s) al
        ∙ reads_outermost limits hc (IfCondition n p ∷ st) (run limits t (WantStmt (n + 1)) (IfThen n p c ∷ st)) refl
        (λ used. refl)
        ∙ reads_stmt ha (IfThen n p c ∷ st) (no_else a r (dangling p c a r ends))
        ∙ pop_then limits n p c a st r (dangling p c a r ends)
    reads_stmt (if_elses n c a b p q q' e s t v r al hc ha na hb) st ends =
        enters limits n st (word w.If p) (sign sg.OpenParen q ∷ s) al
        ∙ reads_outermost limits hc (IfCondition n p ∷ st) (run limits t (WantStmt (n + 1)) (IfThen n p c ∷ st)) refl
        (λ used. refl)
        ∙ reads_stmt ha (IfThen n p c ∷ st) (λ _. na)
        ∙ goes_else limits n p c a st e v
        ∙ reads_stmt hb (IfElse p c a ∷ st) ends
        ∙ pop_else limits p c a b st r
    reads_stmt (whiles n c a p q q' s t r al hc ha) st ends =
        enters limits n st (word w.While p) (sign sg.OpenParen q ∷ s) al
        ∙ reads_outermost limits hc (WhileCondition n p ∷ st) (run limits t (WantStmt (n + 1)) (WhileBody p c ∷ st))
        refl (λ used. refl)
        ∙ reads_stmt ha (WhileBody p c ∷ st) ends
        ∙ pop_while limits p c a st r
    reads_stmt (dos n a c p o q q' e s t r al ha hc) st ends =
        enters limits n st (word w.Do p) s al
        ∙ reads_stmt ha (DoBody p ∷ st) (no_else a (word w.While o ∷ sign sg.OpenParen q ∷ t) refl)
        ∙ reads_outermost limits hc (DoCondition p a ∷ st) (run limits r (HaveStmt (do_ p a c)) st) refl (λ used. refl)
    reads_stmt (fors n i c x a p q e f g s t v z r al hi hc hx ha) st ends =
        enters limits n st (word w.For p) (sign sg.OpenParen q ∷ s) al
        ∙ reads_first n hi p st
        ∙ reads_second limits hc n p i st
        ∙ reads_third n hx p i c st
        ∙ reads_stmt ha (ForBody p i c x ∷ st) ends
        ∙ pop_for limits p i c x a st r
    reads_stmt (breaks n p q r al) st ends = enters limits n st (word w.Break p) (sign sg.Semicolon q ∷ r) al
    reads_stmt (continues n p q r al) st ends = enters limits n st (word w.Continue p) (sign sg.Semicolon q ∷ r) al
    reads_stmt (returns n a p q s r al h) st ends = enters limits n st (word w.Return p) s al
        ∙ reads_returned limits h p st
    reads_stmt (locks n x p q q' e r al) st ends = enters limits n st (word w.Lock p)
        (sign sg.OpenParen q ∷ ident x ∷ sign sg.CloseParen q' ∷ sign sg.Semicolon e ∷ r) al
    reads_stmt (unlocks n x p q q' e r al) st ends = enters limits n st (word w.Unlock p)
        (sign sg.OpenParen q ∷ ident x ∷ sign sg.CloseParen q' ∷ sign sg.Semicolon e ∷ r) al
    reads_stmt (prints n a p q q' e s r al h) st ends =
        enters limits n st (word w.Print p) (sign sg.OpenParen q ∷ s) al
        ∙ reads_outermost limits h (PrintValue p ∷ st) (run limits r (HaveStmt (print p a)) st) refl (λ used. refl)

    pub reads_stmts : {n : ℕ} {bs : StmtList} {s r : List Token} → SpellsStmts limits n bs s r →
        (before : StmtList) (st : List Frame) → next_is an_else r ≡ false
        → run limits s (InList n before) st ≡ run limits r (InList n (adds before bs)) st
    reads_stmts (ended n r) before st ends = refl
    reads_stmts (a_stmt n a bs s t r ha hbs) before st ends =
        starts_stmt limits n before st s (stmt_begins ha)
        ∙ reads_stmt ha (NextStmt n before ∷ st) (no_else a t (stmts_no_else hbs ends))
        ∙ pop_next limits n before a st t
        ∙ reads_stmts hbs (snoc before a) st ends
    reads_stmts (locals n kd bs rest p s t v r al hk hl hrest) before st ends =
        starts_locals limits n before st s al (begins_with_kind hk)
        ∙ reads_kind limits hk (LocalsKind n before ∷ st) (locals_no_kind hl)
        ∙ goes_to_locals limits n kd before st t
        ∙ reads_locals hl n before st r (λ all. reads_stmts hrest all st ends)
