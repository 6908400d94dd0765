-- What a token of a statement does, or one that begins an item, keeps what the frames hold.
use Rattle.std.proofs.Common.{◌≡◌, ℕ, ◌+◌, Bool, true, false, if◌then◌else◌, List, [], ◌∷◌, Option, None, Ok, Err, refl}
use Rattle.cas_base.specs.declared.place.Place.{Place}
use Rattle.cas_lex.specs.declared.token.Token.{Token}
use Rattle.cas_lex.specs.declared.token.TokenKind.{TokenKind}
use Rattle.cas_lex.specs.declared.token.TokenKind.TheVariants as k
use Rattle.cas_lex.specs.declared.token.Word.TheVariants as w
use Rattle.cas_lex.specs.declared.token.Sign.TheVariants as sg
use Rattle.cas_syntax.specs.Statements as s
use Rattle.cas_syntax.specs.Statements.{SpellsStmt, SpellsStmts, dangles}
use Rattle.cas_syntax.specs.Items as i
use Rattle.cas_syntax.specs.Items.{SpellsItems}
use Rattle.cas_syntax.specs.Limits.{Limits, AllowsDepth}
use Rattle.cas_syntax.specs.Tokens.{word, sign}
use Rattle.cas_syntax.specs.Tree.{ExprTree, StmtTree, if_, while_, for_, lock, unlock, StmtOption, absent, present, StmtList, ItemTree}
use Rattle.cas_parse.specs.Machine as m
use Rattle.cas_parse.specs.Machine.{snoc, begins_kind, at}
use Rattle.cas_parse.specs.Frames.{Opening, Frame, LocalsKind, FirstKind, ReturnKind, ParameterKind, SimpleStmt, FirstSimple, AfterSimple, IfElse, DoCondition, ForBody, NextStmt, ForCondition, ReturnValue, WantStmt, WantOutermost, Expect}
use Rattle.cas_parse.proofs.Holds as h
use Rattle.cas_parse.proofs.Holds.{ListAt, StmtAt, FirstAt, SecondAt, ThirdAt, ItemAt, HeadAt, Holds, HoldsAfter}
use Rattle.cas_parse.proofs.SoundSimple.{token, near, leaves, snoc-stmts, nested_holds}
use Rattle.cas_parse.proofs.SoundItems.{snoc-items, item_done}
use Rattle.cas_parse.proofs.SoundKinds.{want_kind_holds}
use Rattle.cas_parse.proofs.SoundExprs.{outermost_holds}
use Rattle.cas_parse.proofs.SoundTargets.{simple_started_holds}

else-kind : (limits : Limits) (b c : Bool) (kind : TokenKind) → m.is_else limits b c kind ≡ true → kind ≡ k.Word w.Else
else-kind limits b c (k.Word w.Else) e = refl
else-kind limits b c _ e = cc

while-kind : (limits : Limits) (b c : Bool) (kind : TokenKind) → m.is_while limits b c kind ≡ true →
    kind ≡ k.Word w.While
while-kind limits b c (k.Word w.While) e = refl
while-kind limits b c _ e = cc

module _ (limits : Limits) (all : List Token) where
  started_holds : (n : ℕ) (st : List Frame) (kind : TokenKind) (p : Place) (ts : List Token) →
      AllowsDepth limits n (token kind p ∷ ts) → StmtAt limits all st n (token kind p ∷ ts) →
      HoldsAfter limits all ts (m.started limits (near limits ts) (leaves limits ts) n st p kind)
  started_holds n st (k.Sign sg.Semicolon) p ts al hs = (n, _, hs, s.skips n p ts al, refl)
  started_holds n st (k.Sign sg.OpenBrace) p ts al hs = (ts, h.of_block al hs, s.ended (n + 1) ts)
  started_holds n st (k.Word w.If) p ts al hs = λ q us e. h.if_condition (rw e at al) (rw e at hs)
  started_holds n st (k.Word w.While) p ts al hs = λ q us e. h.while_condition (rw e at al) (rw e at hs)
  started_holds n st (k.Word w.Do) p ts al hs = h.do_of al hs
  started_holds n st (k.Word w.For) p ts al hs = λ q us e. h.first_at (rw e at al) (rw e at hs)
  started_holds n st (k.Word w.Break) p ts al hs = λ q us e. (n, _, rw e at hs, s.breaks n p q us (rw e at al), refl)
  started_holds n st (k.Word w.Continue) p ts al hs = λ q us e.
      (n, _, rw e at hs, s.continues n p q us (rw e at al), refl)
  started_holds n st (k.Word w.Return) p ts al hs = (n, al, hs)
  started_holds n st (k.Word w.Lock) p ts al hs = λ q us e. (n, q, rw e at al, rw e at hs)
  started_holds n st (k.Word w.Unlock) p ts al hs = λ q us e. (n, q, rw e at al, rw e at hs)
  started_holds n st (k.Word w.Print) p ts al hs = λ q us e. h.print_value (rw e at al) (rw e at hs)
  started_holds n st kind p ts al hs = simple_started_holds limits all (SimpleStmt ∷ st) kind p ts (h.of_stmt al hs)

  pub want_stmt_holds : (n : ℕ) (st : List Frame) (kind : TokenKind) (p : Place) (ts : List Token) →
      StmtAt limits all st n (token kind p ∷ ts) →
      HoldsAfter limits all ts (m.nested limits (near limits ts) (leaves limits ts) n
      (m.started limits (near limits ts) (leaves limits ts) n st p kind))
  want_stmt_holds n st kind p ts hs = nested_holds limits all n (token kind p) ts _
      (λ al. started_holds n st kind p ts al hs)

  -- lists of statements

  list_closed_holds : {st : List Frame} {n : ℕ} {from : List Token} → ListAt limits all st n from →
      (bs : StmtList) (p : Place) (ts : List Token) →
      SpellsStmts limits n bs from (sign sg.CloseBrace p ∷ ts) →
      HoldsAfter limits all ts (m.list_closed limits (near limits ts) (leaves limits ts) bs st p)
  list_closed_holds (h.of_body {x} {f} {xs} {held} {p = q} hs hh) bs p ts hb =
      snoc-items hs _ ts (i.a_function x f xs held bs q p _ _ ts hh hb)
  list_closed_holds (h.of_block {n} {p = q} al hs) bs p ts hb = (n, _, hs, s.blocks n bs q p _ ts al hb, refl)

  list_continued_holds : (n : ℕ) (bs : StmtList) (st : List Frame) (from : List Token) (b : Bool) (kind : TokenKind)
      (p : Place) (ts : List Token) → ListAt limits all st n from →
      SpellsStmts limits n bs from (token kind p ∷ ts) →
      HoldsAfter limits all ts (m.list_continued limits (near limits ts) (leaves limits ts) n bs st p kind b)
  list_continued_holds n bs st from true kind p ts hl hb =
      nested_holds limits all n (token kind p) ts _ (λ al. want_kind_holds limits all None (LocalsKind n bs ∷ st)
      None kind p ts tt (h.locals_at hl hb al))
  list_continued_holds n bs st from false kind p ts hl hb =
      want_stmt_holds n (NextStmt n bs ∷ st) kind p ts (h.next_of hl hb)

  pub in_list_holds : (n : ℕ) (bs : StmtList) (st : List Frame) (from : List Token) (kind : TokenKind) (p : Place)
      (ts : List Token) → ListAt limits all st n from →
      SpellsStmts limits n bs from (token kind p ∷ ts) →
      HoldsAfter limits all ts (m.in_list limits (near limits ts) (leaves limits ts) n bs st p kind)
  in_list_holds n bs st from (k.Sign sg.CloseBrace) p ts hl hb = list_closed_holds hl bs p ts hb
  in_list_holds n bs st from kind p ts hl hb = list_continued_holds n bs st from (begins_kind kind) kind p ts hl hb

  -- a token behind a statement
  pub down_stmt_holds : {st : List Frame} {n : ℕ} {from : List Token} → StmtAt limits all st n from →
      (a : StmtTree) (kind : TokenKind) (p : Place) (ts : List Token) →
      SpellsStmt limits n a from (token kind p ∷ ts) →
      (m.is_else limits (near limits ts) (leaves limits ts) kind ≡ true → dangles a ≡ false) →
      HoldsAfter limits all ts (m.down_stmt limits (near limits ts) (leaves limits ts) a st p kind)
  down_stmt_holds (h.next_of {n} {bs} {st} {from} hl hb) a kind p ts ha whole =
      in_list_holds n (snoc bs a) st from kind p ts hl (snoc-stmts hb a _ ha)
  down_stmt_holds (h.then_of {n} {c} {p = o} {st} al hs hc) a kind p ts ha whole =
      by_test (m.is_else limits (near limits ts) (leaves limits ts) kind) refl
      (λ e. down_stmt_holds hs (if_ o c a absent) kind p ts (s.ifs n c a o _ _ _ _ _ al hc ha) (λ e'. cc))
    where
      by_test : (b : Bool) → m.is_else limits (near limits ts) (leaves limits ts) kind ≡ b →
          (m.is_else limits (near limits ts) (leaves limits ts) kind ≡ false →
          HoldsAfter limits all ts (m.down_stmt limits (near limits ts) (leaves limits ts) (if_ o c a absent)
          st p kind)) →
          HoldsAfter limits all ts (if b then Ok (WantStmt (n + 1), IfElse o c a ∷ st) else m.down_stmt limits
          (near limits ts) (leaves limits ts) (if_ o c a absent) st p kind)
      by_test true e below = h.else_of al hs hc (rw (else-kind limits (near limits ts) (leaves limits ts) kind e) at ha)
          (whole e)
      by_test false e below = below e
  down_stmt_holds (h.else_of {n} {c} {a = b} {p = o} al hs hc hb nb) a kind p ts ha whole =
      down_stmt_holds hs (if_ o c b (present a)) kind p ts (s.if_elses n c b a o _ _ _ _ _ _ _ al hc hb nb ha) whole
  down_stmt_holds (h.while_of {n} {c} {p = o} al hs hc) a kind p ts ha whole =
      down_stmt_holds hs (while_ o c a) kind p ts (s.whiles n c a o _ _ _ _ _ al hc ha) whole
  down_stmt_holds (h.for_of {n} {i} {c} {u} {p = o} al hs hi hc hu) a kind p ts ha whole =
      down_stmt_holds hs (for_ o i c u a) kind p ts (s.fors n i c u a o _ _ _ _ _ _ _ _ _ al hi hc hu ha) whole
  down_stmt_holds (h.do_of {n} {p = o} {st} al hs) a kind p ts ha whole =
      by_test (m.is_while limits (near limits ts) (leaves limits ts) kind) refl
    where
      by_test : (b : Bool) → m.is_while limits (near limits ts) (leaves limits ts) kind ≡ b →
          HoldsAfter limits all ts (if b then Ok (Expect true sg.OpenParen WantOutermost, DoCondition o a ∷ st) else Err
          (m.wrong kind))
      by_test true e = λ q us e'. h.do_condition al hs
          (rw (while-kind limits (near limits ts) (leaves limits ts) kind e, e') at ha)
      by_test false e = tt

  -- the parts of a `for`

  for_first_started_holds : (n : ℕ) (q : Place) (st : List Frame) (b : Bool) (kind : TokenKind) (p : Place)
      (ts : List Token) → FirstAt limits all st n q (token kind p ∷ ts) →
      HoldsAfter limits all ts (m.for_first_started limits (near limits ts) (leaves limits ts) n q st p kind b)
  for_first_started_holds n q st true kind p ts hf =
      nested_holds limits all (n + 1) (token kind p) ts _
      (λ al. want_kind_holds limits all None (FirstKind n q ∷ st) None kind p ts tt (h.first_kind_at hf al))
  for_first_started_holds n q st false kind p ts hf =
      nested_holds limits all (n + 1) (token kind p) ts _
      (λ al. simple_started_holds limits all (FirstSimple n q ∷ st) kind p ts (h.of_first hf al))

  pub for_first_holds : (n : ℕ) (q : Place) (st : List Frame) (kind : TokenKind) (p : Place) (ts : List Token) →
      FirstAt limits all st n q (token kind p ∷ ts) →
      HoldsAfter limits all ts (m.for_first limits (near limits ts) (leaves limits ts) n q st p kind)
  for_first_holds n q st (k.Sign sg.Semicolon) p ts hf = h.second_at hf (s.nothing_first _)
  for_first_holds n q st kind p ts hf = for_first_started_holds n q st (begins_kind kind) kind p ts hf

  pub for_second_holds : (n : ℕ) (q : Place) (i : StmtOption) (st : List Frame) (kind : TokenKind) (p : Place)
      (ts : List Token) → SecondAt limits all st n q i (token kind p ∷ ts) →
      HoldsAfter limits all ts (m.for_second limits (near limits ts) (leaves limits ts) n q i st p kind)
  for_second_holds n q i st (k.Sign sg.Semicolon) p ts hf = h.third_at hf (s.no_expr _)
  for_second_holds n q i st kind p ts hf = outermost_holds limits all (ForCondition n q i ∷ st) kind p ts
      (h.for_condition hf)

  for_third_closed : {n : ℕ} {q : Place} {i : StmtOption} {c : Option ExprTree} {st : List Frame} {p : Place}
      {ts : List Token} →
      ThirdAt limits all st n q i c (sign sg.CloseParen p ∷ ts) →
      HoldsAfter limits all ts (Ok (WantStmt (n + 1), ForBody q i c absent ∷ st))
  for_third_closed (h.third_at (h.second_at (h.first_at al hs) hi) hc) = h.for_of al hs hi hc (s.nothing_after _)

  pub for_third_holds : (n : ℕ) (q : Place) (i : StmtOption) (c : Option ExprTree) (st : List Frame) (kind : TokenKind)
      (p : Place) (ts : List Token) →
      ThirdAt limits all st n q i c (token kind p ∷ ts) →
      HoldsAfter limits all ts (m.for_third limits (near limits ts) (leaves limits ts) n q i c st p kind)
  for_third_holds n q i c st (k.Sign sg.CloseParen) p ts hf = for_third_closed hf
  for_third_holds n q i c st kind p ts hf =
      nested_holds limits all (n + 1) (token kind p) ts _
      (λ al. simple_started_holds limits all (AfterSimple n q i c ∷ st) kind p ts (h.of_after hf al))

  -- returns and locks

  pub after_return_holds : (n : ℕ) (q : Place) (st : List Frame) (kind : TokenKind) (p : Place) (ts : List Token) →
      AllowsDepth limits n (word w.Return q ∷ token kind p ∷ ts) →
      StmtAt limits all st n (word w.Return q ∷ token kind p ∷ ts) →
      HoldsAfter limits all ts (m.after_return limits (near limits ts) (leaves limits ts) q st p kind)
  after_return_holds n q st (k.Sign sg.Semicolon) p ts al hs =
      (n, _, hs, s.returns n None q p _ ts al (s.no_expr _), refl)
  after_return_holds n q st kind p ts al hs = outermost_holds limits all (ReturnValue q ∷ st) kind p ts
      (h.return_value al hs)

  pub lock_name_holds : (n : ℕ) (o q : Place) (st : List Frame) (kind : TokenKind) (p : Place) (ts : List Token) →
      AllowsDepth limits n (word w.Lock o ∷ sign sg.OpenParen q ∷ token kind p ∷ ts) →
      StmtAt limits all st n (word w.Lock o ∷ sign sg.OpenParen q ∷ token kind p ∷ ts) →
      HoldsAfter limits all ts (m.lock_name limits (near limits ts) (leaves limits ts) (lock o) st p kind)
  lock_name_holds n o q st (k.Name x) p ts al hs = λ c us e d vs e'.
      (n, _, rw (e, e') at hs, s.locks n (at x p) o q c d vs (rw (e, e') at al), refl)
  lock_name_holds n o q st _ p ts al hs = tt

  pub unlock_name_holds : (n : ℕ) (o q : Place) (st : List Frame) (kind : TokenKind) (p : Place) (ts : List Token) →
      AllowsDepth limits n (word w.Unlock o ∷ sign sg.OpenParen q ∷ token kind p ∷ ts) →
      StmtAt limits all st n (word w.Unlock o ∷ sign sg.OpenParen q ∷ token kind p ∷ ts) →
      HoldsAfter limits all ts (m.lock_name limits (near limits ts) (leaves limits ts) (unlock o) st p kind)
  unlock_name_holds n o q st (k.Name x) p ts al hs = λ c us e d vs e'.
      (n, _, rw (e, e') at hs, s.unlocks n (at x p) o q c d vs (rw (e, e') at al), refl)
  unlock_name_holds n o q st _ p ts al hs = tt

  -- items begin

  pub item_started_holds : (d : Bool) (items : List ItemTree) (st : List Frame) (kind : TokenKind) (p : Place)
      (ts : List Token) → ItemAt limits all items d (token kind p ∷ ts) →
      HoldsAfter limits all ts (m.item_started limits (near limits ts) (leaves limits ts) d items st kind)
  item_started_holds d items st (k.Word w.Lock) p ts hi = (p, hi)
  item_started_holds d items st (k.Word w.Shared) p ts hi = λ q us e. (p, q, rw e at hi)
  item_started_holds d items st (k.Word w.Const) p ts hi = (None, tt, h.cells_kind_at (h.constant hi))
  item_started_holds d items st (k.Word w.Void) p ts hi = (_, hi, i.no_value p ts)
  item_started_holds d items st kind p ts hi = want_kind_holds limits all None (ReturnKind d items ∷ st)
      None kind p ts tt (h.return_at hi)

  pub in_items_holds : (items : List ItemTree) (st : List Frame) (kind : TokenKind) (p : Place) (ts : List Token) →
      SpellsItems limits items all (token kind p ∷ ts) →
      HoldsAfter limits all ts (m.in_items limits (near limits ts) (leaves limits ts) items st kind)
  in_items_holds items st (k.Word w.Extern) p ts hs = h.item_at hs (i.elsewhere p ts)
  in_items_holds items st kind p ts hs = item_started_holds true items st kind p ts (h.item_at hs (i.here _))

  pub global_lock_holds : (d : Bool) (items : List ItemTree) (st : List Frame) (o : Place) (kind : TokenKind)
      (p : Place) (ts : List Token) →
      ItemAt limits all items d (word w.Lock o ∷ token kind p ∷ ts) →
      HoldsAfter limits all ts (m.global_lock limits (near limits ts) (leaves limits ts) d items st p kind)
  global_lock_holds d items st o (k.Name n) p ts hi = λ q us e. item_done limits all (rw e at hi) _ us
      (λ u he. i.a_lock (at n p) d o q u us he)
  global_lock_holds d items st o _ p ts hi = tt

  pub global_guard_holds : (d : Bool) (items : List ItemTree) (st : List Frame) (o q : Place) (kind : TokenKind)
      (p : Place) (ts : List Token) →
      ItemAt limits all items d (word w.Shared o ∷ sign sg.OpenParen q ∷ token kind p ∷ ts) →
      HoldsAfter limits all ts (m.global_guard limits (near limits ts) (leaves limits ts) d items st p kind)
  global_guard_holds d items st o q (k.Name n) p ts hi =
      λ c us e. (None, tt, h.cells_kind_at (h.guarded {guard = at n p} (rw e at hi)))
  global_guard_holds d items st o q _ p ts hi = tt

  pub want_parameters_holds : (o : Opening) (items : List ItemTree) (st : List Frame) (kind : TokenKind) (p : Place)
      (ts : List Token) → HeadAt limits all items o (token kind p ∷ ts) →
      HoldsAfter limits all ts (m.want_parameters limits (near limits ts) (leaves limits ts) o items st kind)
  want_parameters_holds o items st (k.Sign sg.CloseParen) p ts hh = h.after_at hh (i.nothing _)
  want_parameters_holds o items st (k.Word w.Void) p ts hh =
      λ q us e. h.after_at {q = q} {s = token (k.Word w.Void) p ∷ ts} hh (rw e (i.void p _))
  want_parameters_holds o items st kind p ts hh =
      want_kind_holds limits all None (ParameterKind o [] [] items ∷ st) None kind p ts tt
      (h.parameter_kind_at (h.parameter_at hh (λ tys xs r hs. hs)))
