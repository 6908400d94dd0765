-- Each token of a statement leads to a valid state, and its fault is the one that the machine names.
use Rattle.std.proofs.Common.{◌≡◌, ℕ, ◌+◌, inl, Bool, true, false, if◌then◌else◌, List, ◌∷◌, Option, Some, None, Ok, refl}
use Rattle.cas_base.specs.declared.kind.Kind.{Kind}
use Rattle.cas_base.specs.declared.kind.Ty.TheVariants.{Int, Ptr, Array}
use Rattle.cas_base.specs.declared.place.Place.{Place}
use Rattle.cas_lex.specs.declared.token.TokenKind.{TokenKind}
use Rattle.cas_lex.specs.declared.token.TokenKind.TheVariants as k
use Rattle.cas_lex.specs.declared.token.Word.TheVariants as w
use Rattle.cas_lex.specs.declared.token.Sign.TheVariants as sg
use Rattle.cas_syntax.specs.declared.tree.Ident.{Ident}
use Rattle.cas_syntax.specs.declared.tree.BinaryOperator.{BinaryOperator}
use Rattle.cas_syntax.specs.Limits.{Limits}
use Rattle.cas_syntax.specs.Tree.{ExprTree, name, TargetTree, to_name, to_deref, nothing, StmtTree, skip, declare, if_, while_, for_, StmtOption, absent, present, StmtList}
use Rattle.cas_parse.specs.Frames.{Use, Written, Stepped}
use Rattle.cas_parse.specs.Frames.{Frame, DoCondition, ForCondition, ReturnValue, LocalsKind, FirstKind, SimpleStmt, FirstSimple, AfterSimple, IfElse, NextStmt}
use Rattle.cas_parse.specs.Frames.{Control, WantOutermost, Expect, HaveLocal, WantStmt}
use Rattle.cas_parse.proofs.Valid.{ASimple, ALocal, AStmt, AnEnd, Stands, on_target_index, on_target_behind, on_assigned, on_if, on_while, on_do, on_for, on_return, on_print, on_locals_kind, on_first_kind, on_simple, on_first_simple, on_after_simple, on_if_then, on_if_else, on_while_body, on_do_body, on_for_body, on_next, on_block, on_body, Valid, Judged}
use Rattle.cas_parse.specs.Machine.{Outcome, at, snoc, begins_kind, assigning, stepped, changed_by, after_target, after_name, after_star, want_target, stepped_name, simple_started, local_name, local_star, local_pointer, local_length, local_array, started, list_closed, list_continued, in_list, is_else, is_while, down_stmt, for_first_started, for_first, for_second, for_third, after_return, lock_name}
use Rattle.cas_parse.proofs.ViableExpressions.{Fits, comes, wrong_fits, nested_fits, leave_fits, outermost_fits, ended_fits, local_ended_fits, reached_valid}
use Rattle.cas_parse.proofs.ViableKinds.{want_kind_fits}

module _ (limits : Limits) where
  -- assignments and calls

  changed_by_fits : (q : Place) (t : TargetTree) (st : List Frame) (kind : TokenKind) (op : Option BinaryOperator) →
      Stands ASimple st → Fits true kind (λ near leaves. changed_by limits near leaves q t st kind op)
  changed_by_fits q t st kind (Some op) h = comes (on_assigned q t (Some op) st h)
  changed_by_fits q t st kind None h = wrong_fits kind

  pub after_target_fits : (q : Place) (t : TargetTree) (st : List Frame) (kind : TokenKind) → Stands ASimple st →
      Fits true kind (λ near leaves. after_target limits near leaves q t st kind)
  after_target_fits q t st (k.Sign sg.Equal) h = comes (on_assigned q t None st h)
  after_target_fits q t st (k.Sign sg.PlusPlus) h = comes h
  after_target_fits q t st (k.Sign sg.MinusMinus) h = comes h
  after_target_fits q t st kind h = changed_by_fits q t st kind (assigning kind) h

  pub after_name_fits : (x : Ident) (st : List Frame) (kind : TokenKind) → Stands ASimple st →
      Fits true kind (λ near leaves. after_name limits near leaves x st kind)
  after_name_fits x st (k.Sign sg.OpenBracket) h = comes (on_target_index (Written x.place) x st h)
  after_name_fits x st (k.Sign sg.OpenParen) h = comes h
  after_name_fits x st (k.Sign sg.Equal) h = comes h
  after_name_fits x st kind h = after_target_fits x.place (to_name x) st kind h

  pub after_star_fits : (usage : Use) (st : List Frame) (p : Place) (kind : TokenKind) → Stands ASimple st →
      Fits true kind (λ near leaves. after_star limits near leaves usage st p kind)
  after_star_fits usage st p (k.Name n) h = comes (reached_valid usage (to_deref (name (at n p))) st h)
  after_star_fits usage st p (k.Sign sg.OpenParen) h = comes (on_target_behind usage st h)
  after_star_fits usage st p kind h = wrong_fits kind

  pub want_target_fits : (q : Place) (op : BinaryOperator) (st : List Frame) (p : Place) (kind : TokenKind) →
      Stands ASimple st → Fits true kind (λ near leaves. want_target limits near leaves q op st p kind)
  want_target_fits q op st p (k.Name n) h = comes h
  want_target_fits q op st p (k.Sign sg.Star) h = comes h
  want_target_fits q op st p kind h = wrong_fits kind

  pub stepped_name_fits : (q : Place) (op : BinaryOperator) (x : Ident) (st : List Frame) (kind : TokenKind) →
      Stands ASimple st → Fits true kind (λ near leaves. stepped_name limits near leaves q op x st kind)
  stepped_name_fits q op x st (k.Sign sg.OpenBracket) h = comes (on_target_index (Stepped q op) x st h)
  stepped_name_fits q op x st kind h = ended_fits h (stepped q (to_name x) op) kind

  simple_started_fits : (st : List Frame) (p : Place) (kind : TokenKind) → Stands ASimple st →
      Fits true kind (λ near leaves. simple_started limits near leaves st p kind)
  simple_started_fits st p (k.Name n) h = comes h
  simple_started_fits st p (k.Sign sg.Star) h = comes h
  simple_started_fits st p (k.Sign sg.PlusPlus) h = comes h
  simple_started_fits st p (k.Sign sg.MinusMinus) h = comes h
  simple_started_fits st p kind h = wrong_fits kind

  -- locals

  pub local_name_fits : (kd : Kind) (x : Ident) (st : List Frame) (kind : TokenKind) → Stands ALocal st →
      Fits true kind (λ near leaves. local_name limits near leaves kd x st kind)
  local_name_fits kd x st (k.Sign sg.OpenBracket) h = comes h
  local_name_fits kd x st (k.Sign sg.Equal) h = comes h
  local_name_fits kd x st kind h = local_ended_fits h (declare x.place (Int kd) x nothing) kind

  pub local_star_fits : (kd : Kind) (st : List Frame) (p : Place) (kind : TokenKind) → Stands ALocal st →
      Fits true kind (λ near leaves. local_star limits near leaves kd st p kind)
  local_star_fits kd st p (k.Name n) h = comes h
  local_star_fits kd st p (k.Sign sg.Star) h = leave_fits limits (HaveLocal (skip p)) st h tt
  local_star_fits kd st p kind h = wrong_fits kind

  pub local_pointer_fits : (kd : Kind) (x : Ident) (st : List Frame) (kind : TokenKind) → Stands ALocal st →
      Fits true kind (λ near leaves. local_pointer limits near leaves kd x st kind)
  local_pointer_fits kd x st (k.Sign sg.Equal) h = comes h
  local_pointer_fits kd x st (k.Sign sg.OpenBracket) h =
      leave_fits limits (HaveLocal (declare x.place (Ptr kd) x nothing)) st h tt
  local_pointer_fits kd x st kind h = local_ended_fits h (declare x.place (Ptr kd) x nothing) kind

  pub local_length_fits : (kd : Kind) (x : Ident) (st : List Frame) (kind : TokenKind) → Stands ALocal st →
      Fits true kind (λ near leaves. local_length limits near leaves kd x st kind)
  local_length_fits kd x st (k.Literal n j) h = comes (refl, refl, h)
  local_length_fits kd x st kind h = wrong_fits kind

  pub local_array_fits : (kd : Kind) (x : Ident) (n : ℕ) (st : List Frame) (kind : TokenKind) → Stands ALocal st →
      Fits true kind (λ near leaves. local_array limits near leaves kd x n st kind)
  local_array_fits kd x n st (k.Sign sg.OpenBracket) h =
      leave_fits limits (HaveLocal (declare x.place (Array kd n) x nothing)) st h tt
  local_array_fits kd x n st (k.Sign sg.Equal) h = leave_fits limits
      (HaveLocal (declare x.place (Array kd n) x nothing)) st h tt
  local_array_fits kd x n st kind h = local_ended_fits h (declare x.place (Array kd n) x nothing) kind

  -- statements

  pub started_fits : (n : ℕ) (st : List Frame) (p : Place) (kind : TokenKind) → Stands AStmt st →
      Fits true kind (λ near leaves. started limits near leaves n st p kind)
  started_fits n st p (k.Sign sg.Semicolon) h = comes h
  started_fits n st p (k.Sign sg.OpenBrace) h = comes (on_block p st h)
  started_fits n st p (k.Word w.If) h = comes (refl, refl, on_if n p st h)
  started_fits n st p (k.Word w.While) h = comes (refl, refl, on_while n p st h)
  started_fits n st p (k.Word w.Do) h = comes (on_do_body p st h)
  started_fits n st p (k.Word w.For) h = comes (refl, refl, h)
  started_fits n st p (k.Word w.Break) h = comes (refl, refl, h)
  started_fits n st p (k.Word w.Continue) h = comes (refl, refl, h)
  started_fits n st p (k.Word w.Return) h = comes h
  started_fits n st p (k.Word w.Lock) h = comes (refl, refl, h)
  started_fits n st p (k.Word w.Unlock) h = comes (refl, refl, h)
  started_fits n st p (k.Word w.Print) h = comes (refl, refl, on_print p st h)
  started_fits n st p kind h = simple_started_fits (SimpleStmt ∷ st) p kind (on_simple st h)

  list_closed_fits : {st : List Frame} → Stands AnEnd st → (bs : StmtList) (p : Place) (kind : TokenKind) →
      Fits true kind (λ near leaves. list_closed limits near leaves bs st p)
  list_closed_fits (on_block q st h) bs p kind = comes h
  list_closed_fits (on_body x f xs held items) bs p kind = comes refl

  list_continued_fits : (n : ℕ) (bs : StmtList) (st : List Frame) (p : Place) (kind : TokenKind) (t : Bool) →
      begins_kind kind ≡ t → Stands AnEnd st →
      Fits true kind (λ near leaves. list_continued limits near leaves n bs st p kind t)
  list_continued_fits n bs st p kind true e h = nested_fits limits n
      (want_kind_fits limits None (LocalsKind n bs ∷ st) kind (inl (on_locals_kind n bs st h)) (λ o. cc))
  list_continued_fits n bs st p kind false e h = nested_fits limits n
      (started_fits n (NextStmt n bs ∷ st) p kind (on_next n bs st h))

  pub in_list_fits : (n : ℕ) (bs : StmtList) (st : List Frame) (p : Place) (kind : TokenKind) → Stands AnEnd st →
      Fits true kind (λ near leaves. in_list limits near leaves n bs st p kind)
  in_list_fits n bs st p (k.Sign sg.CloseBrace) h = list_closed_fits h bs p (k.Sign sg.CloseBrace)
  in_list_fits n bs st p kind h = list_continued_fits n bs st p kind (begins_kind kind) refl h

  -- by whether a word stands here
  if_fits : (t : Bool) (kind : TokenKind) (n : Control × List Frame) (o a b : Outcome) → Valid n.0 n.1 →
      Judged true kind o a b →
      Judged true kind (if t then Ok n else o) (if t then Ok n else a) (if t then Ok n else b)
  if_fits true kind n o a b v h = comes v
  if_fits false kind n o a b v h = h

  pub down_stmt_fits : {st : List Frame} → Stands AStmt st → (a : StmtTree) (p : Place) (kind : TokenKind) →
      Fits true kind (λ near leaves. down_stmt limits near leaves a st p kind)
  down_stmt_fits (on_if_then n q c st h) a p kind = if_fits (is_else limits false false kind) kind
      (WantStmt (n + 1), IfElse q c a ∷ st) _ _ _ (on_if_else q c a st h) (down_stmt_fits h (if_ q c a absent) p kind)
  down_stmt_fits (on_if_else q c b st h) a p kind = down_stmt_fits h (if_ q c b (present a)) p kind
  down_stmt_fits (on_while_body q c st h) a p kind = down_stmt_fits h (while_ q c a) p kind
  down_stmt_fits (on_for_body q i c x st h) a p kind = down_stmt_fits h (for_ q i c x a) p kind
  down_stmt_fits (on_do_body q st h) a p kind = if_fits (is_while limits false false kind) kind
      (Expect true sg.OpenParen WantOutermost, DoCondition q a ∷ st) _ _ _ (refl, refl, on_do q a st h)
      (wrong_fits kind)
  down_stmt_fits (on_next n bs st h) a p kind = in_list_fits n (snoc bs a) st p kind h

  for_first_started_fits : (n : ℕ) (q : Place) (st : List Frame) (p : Place) (kind : TokenKind) (t : Bool) →
      begins_kind kind ≡ t → Stands AStmt st →
      Fits true kind (λ near leaves. for_first_started limits near leaves n q st p kind t)
  for_first_started_fits n q st p kind true e h = nested_fits limits (n + 1)
      (want_kind_fits limits None (FirstKind n q ∷ st) kind (inl (on_first_kind n q st h)) (λ o. cc))
  for_first_started_fits n q st p kind false e h = nested_fits limits (n + 1)
      (simple_started_fits (FirstSimple n q ∷ st) p kind (on_first_simple n q st h))

  pub for_first_fits : (n : ℕ) (q : Place) (st : List Frame) (p : Place) (kind : TokenKind) → Stands AStmt st →
      Fits true kind (λ near leaves. for_first limits near leaves n q st p kind)
  for_first_fits n q st p (k.Sign sg.Semicolon) h = comes h
  for_first_fits n q st p kind h = for_first_started_fits n q st p kind (begins_kind kind) refl h

  pub for_second_fits : (n : ℕ) (q : Place) (i : StmtOption) (st : List Frame) (p : Place) (kind : TokenKind) →
      Stands AStmt st → Fits true kind (λ near leaves. for_second limits near leaves n q i st p kind)
  for_second_fits n q i st p (k.Sign sg.Semicolon) h = comes h
  for_second_fits n q i st p kind h = outermost_fits limits (ForCondition n q i ∷ st) p kind (on_for n q i st h)

  pub for_third_fits : (n : ℕ) (q : Place) (i : StmtOption) (c : Option ExprTree) (st : List Frame) (p : Place)
      (kind : TokenKind) → Stands AStmt st →
      Fits true kind (λ near leaves. for_third limits near leaves n q i c st p kind)
  for_third_fits n q i c st p (k.Sign sg.CloseParen) h = comes (on_for_body q i c absent st h)
  for_third_fits n q i c st p kind h = nested_fits limits (n + 1)
      (simple_started_fits (AfterSimple n q i c ∷ st) p kind (on_after_simple n q i c st h))

  pub after_return_fits : (q : Place) (st : List Frame) (p : Place) (kind : TokenKind) → Stands AStmt st →
      Fits true kind (λ near leaves. after_return limits near leaves q st p kind)
  after_return_fits q st p (k.Sign sg.Semicolon) h = comes h
  after_return_fits q st p kind h = outermost_fits limits (ReturnValue q ∷ st) p kind (on_return q st h)

  pub lock_name_fits : (form : Ident → StmtTree) (st : List Frame) (p : Place) (kind : TokenKind) → Stands AStmt st →
      Fits true kind (λ near leaves. lock_name limits near leaves form st p kind)
  lock_name_fits form st p (k.Name n) h = comes (refl, refl, (refl, refl, h))
  lock_name_fits form st p kind h = wrong_fits kind
