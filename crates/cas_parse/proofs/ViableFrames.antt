-- What each stack inside a function's body awaits can be followed by tokens that complete the text.
use Rattle.std.proofs.Common.{◌≡◌, ℕ, ◌+◌, Bool, true, false, if◌then◌else◌, nat_lt, List, [], ◌∷◌, ◌++◌, Some, None, Ok, refl, ap, arith}
use Rattle.cas_syntax.specs.Tokens.{word, sign}
use Rattle.cas_base.specs.declared.kind.Kind.TheVariants.{I32}
use Rattle.cas_base.specs.declared.place.Place.{Place}
use Rattle.cas_lex.specs.declared.token.Token.{Token}
use Rattle.cas_lex.specs.declared.token.TokenKind.{TokenKind}
use Rattle.cas_lex.specs.declared.token.TokenKind.TheVariants as k
use Rattle.cas_lex.specs.declared.token.Word.TheVariants as w
use Rattle.cas_lex.specs.declared.token.Sign.TheVariants as sg
use Rattle.cas_syntax.specs.Limits.{Limits}
use Rattle.cas_syntax.specs.Operators.{joined}
use Rattle.cas_syntax.specs.Tree.{ExprTree, literal, conditional, to_name, to_index, to_deref, value, called, StmtTree, skip, declare, assign, call, block, if_, while_, do_, for_, return_, print, absent, present}
use Rattle.cas_parse.specs.Frames.{Assigned, Begun, Alone, Keeps}
use Rattle.cas_parse.specs.Frames.{Frame, Otherwise, DoCondition, IfThen, IfElse, WhileBody, ForBody}
use Rattle.cas_parse.specs.Frames.{WantExpr, HaveExpr, WantOutermost, Expect, WantStmt, HaveStmt, InList, ForSecond, ForThird}
use Rattle.cas_parse.proofs.Valid.{AnExpr, ASimple, ALocal, AStmt, AnEnd, Stands, on_before, on_right, on_parens, on_brackets, on_then, on_otherwise, on_target_index, on_target_behind, on_value, on_assigned, on_argument, on_if, on_while, on_do, on_for, on_return, on_print, on_simple, on_first_simple, on_after_simple, on_locals, on_first_local, on_if_then, on_if_else, on_while_body, on_do_body, on_for_body, on_next, on_block, on_body}
use Rattle.cas_parse.specs.Machine.{snoc, bracketed, prefixed, reached, resulted, closing_of_function, is_else, down_stmt}
use Rattle.cas_parse.proofs.ViableEnds.{here, zero_literal, Completion, whole, begin, more, alike, follows_stmt, limited_not, EndsExpr, EndsSimple, EndsLocal, EndsStmt, EndsList, expr_closes, expr_as, empty_stmt, for_third_ends, for_second_ends, semicolon_ends, reached_ends}

-- an `else` doesn't follow
no_else : (limits : Limits) (near leaves : Bool) (n : ℕ) (p : Place) (c : ExprTree) (a : StmtTree) (st : List Frame)
    (t : Token) → follows_stmt t.kind ≡ true →
    down_stmt limits near leaves a (IfThen n p c ∷ st) t.place t.kind ≡ down_stmt limits near leaves (if_ p c a absent)
    st t.place t.kind
no_else limits near leaves n p c a st t f =
    ap (λ (b : Bool). if b then Ok (WantStmt (n + 1), IfElse p c a ∷ st) else down_stmt limits near leaves
    (if_ p c a absent) st t.place t.kind) (by_kind t.kind f)
  where
    by_kind : (kind : TokenKind) → follows_stmt kind ≡ true → is_else limits near leaves kind ≡ false
    by_kind (k.Word w.Else) f = cc
    by_kind kind f = refl

-- a condition behind the statement of a `do`
do_ends : {st : List Frame} (p : Place) (a : StmtTree) → EndsStmt st →
    Completion true (Expect true sg.OpenParen WantOutermost) (DoCondition p a ∷ st)
do_ends {st = st} p a e =
    more (sign sg.OpenParen here) (WantOutermost, DoCondition p a ∷ st) (λ limits leaves. refl) (λ _. refl)
    (more zero_literal (HaveExpr 1 1 (literal 0 I32), DoCondition p a ∷ st)
    (λ limits leaves. limited_not (nat_lt 0 limits.tokens) _) (λ _. refl)
    (whole (expr_closes sg.CloseParen (Expect true sg.Semicolon (HaveStmt (do_ p a (literal 0 I32))), st)
    (omega arith) refl refl (λ limits leaves. refl) (semicolon_ends (do_ p a (literal 0 I32)) e))))

mutual
  pub expr_ends : {st : List Frame} → Stands AnExpr st → EndsExpr st
  expr_ends (on_before m p st g h) b l x f = expr_as f (λ limits near leaves t. refl) (expr_ends h b m (prefixed p x) g)
  expr_ends (on_right m op y st g h) b l x f = expr_as f (λ limits near leaves t. refl)
      (expr_ends h b m (joined op y x) g)
  expr_ends (on_otherwise m c y st g h) b l x f = expr_as f (λ limits near leaves t. refl)
      (expr_ends h b m (conditional c y x) g)
  expr_ends (on_parens m st g h) b l x f =
      expr_closes sg.CloseParen (HaveExpr (b + 1) m x, st) f refl refl
      (λ limits leaves. limited_not (nat_lt b limits.tokens) _) (whole (expr_ends h (b + 1) m x g))
  expr_ends (on_brackets m taken i st g h) b l x f =
      expr_closes sg.CloseBracket (HaveExpr (b + 1) m (bracketed taken i x), st) f refl refl
      (λ limits leaves. limited_not (nat_lt b limits.tokens) _)
      (whole (expr_ends h (b + 1) m (bracketed taken i x) g))
  expr_ends (on_then m c st g h) b l x f =
      expr_closes sg.Colon (WantExpr (b + 1) 1, Otherwise m c x ∷ st) f refl refl
      (λ limits leaves. limited_not (nat_lt b limits.tokens) _)
      (more zero_literal (HaveExpr (b + 1 + 1) 1 (literal 0 I32), Otherwise m c x ∷ st)
      (λ limits leaves. limited_not (nat_lt (b + 1) limits.tokens) _) (λ _. refl)
      (whole (expr_as (omega arith) (λ limits near leaves t. refl)
      (expr_ends h (b + 1 + 1) m (conditional c x (literal 0 I32)) g))))
  expr_ends (on_target_index usage i st h) b l x f =
      expr_closes sg.CloseBracket (reached usage (to_index i x) st) f refl refl (λ limits leaves. refl)
      (reached_ends usage (to_index i x) st (simple_ends h))
  expr_ends (on_target_behind usage st h) b l x f =
      expr_closes sg.CloseParen (reached usage (to_deref x) st) f refl refl (λ limits leaves. refl)
      (reached_ends usage (to_deref x) st (simple_ends h))
  expr_ends (on_value (Assigned i) st h) b l x f = expr_as f (λ limits near leaves t. refl)
      (simple_ends h (assign i.place (to_name i) None x))
  expr_ends (on_value (Begun ty i) st h) b l x f = expr_as f (λ limits near leaves t. refl)
      (local_ends h (declare i.place ty i (value x)))
  expr_ends (on_assigned p t op st h) b l x f = expr_as f (λ limits near leaves t. refl)
      (simple_ends h (assign p t op x))
  expr_ends (on_argument (Alone i) xs st h) b l x f =
      expr_closes sg.CloseParen (resulted (Alone i) (xs ++ x ∷ []), st) f refl refl (λ limits leaves. refl)
      (whole (simple_ends h (call i.place None i (xs ++ x ∷ []))))
  expr_ends (on_argument (Keeps (Assigned j) i) xs st h) b l x f =
      expr_closes sg.CloseParen (resulted (Keeps (Assigned j) i) (xs ++ x ∷ []), st) f refl refl (λ limits leaves. refl)
      (whole (simple_ends h (call j.place (Some j) i (xs ++ x ∷ []))))
  expr_ends (on_argument (Keeps (Begun ty j) i) xs st h) b l x f =
      expr_closes sg.CloseParen (resulted (Keeps (Begun ty j) i) (xs ++ x ∷ []), st) f refl refl (λ limits leaves. refl)
      (whole (local_ends h (declare j.place ty j (called i (xs ++ x ∷ [])))))
  expr_ends (on_if n p st h) b l x f =
      expr_closes sg.CloseParen (WantStmt (n + 1), IfThen n p x ∷ st) f refl refl (λ limits leaves. refl)
      (empty_stmt (n + 1)
      (whole (alike (λ limits near leaves t e. no_else limits near leaves n p x (skip here) st t e)
      (stmt_ends h (if_ p x (skip here) absent)))))
  expr_ends (on_while n p st h) b l x f =
      expr_closes sg.CloseParen (WantStmt (n + 1), WhileBody p x ∷ st) f refl refl (λ limits leaves. refl)
      (empty_stmt (n + 1) (whole (alike (λ limits near leaves t e. refl) (stmt_ends h (while_ p x (skip here))))))
  expr_ends (on_do p a st h) b l x f =
      expr_closes sg.CloseParen (Expect true sg.Semicolon (HaveStmt (do_ p a x)), st) f refl refl
      (λ limits leaves. refl) (semicolon_ends (do_ p a x) (stmt_ends h))
  expr_ends (on_for n p i st h) b l x f = expr_closes sg.Semicolon (ForThird n p i (Some x), st) f refl refl
      (λ limits leaves. refl) (for_third_ends n p i (Some x) (stmt_ends h))
  expr_ends (on_return p st h) b l x f = expr_closes sg.Semicolon (HaveStmt (return_ p (Some x)), st) f refl refl
      (λ limits leaves. refl) (whole (stmt_ends h (return_ p (Some x))))
  expr_ends (on_print p st h) b l x f =
      expr_closes sg.CloseParen (Expect true sg.Semicolon (HaveStmt (print p x)), st) f refl refl
      (λ limits leaves. refl) (semicolon_ends (print p x) (stmt_ends h))

  pub simple_ends : {st : List Frame} → Stands ASimple st → EndsSimple st
  simple_ends (on_simple st h) a = begin (sign sg.Semicolon here) (HaveStmt a, st) (λ limits leaves. refl) refl
      (λ _. refl) (whole (stmt_ends h a))
  simple_ends (on_first_simple n p st h) a = begin (sign sg.Semicolon here) (ForSecond n p (present a), st)
      (λ limits leaves. refl) refl (λ _. refl) (for_second_ends n p (present a) (stmt_ends h))
  simple_ends (on_after_simple n p i c st h) a =
      begin (sign sg.CloseParen here) (WantStmt (n + 1), ForBody p i c (present a) ∷ st) (λ limits leaves. refl) refl
      (λ _. refl)
      (empty_stmt (n + 1)
      (whole (alike (λ limits near leaves t e. refl) (stmt_ends h (for_ p i c (present a) (skip here))))))

  pub local_ends : {st : List Frame} → Stands ALocal st → EndsLocal st
  local_ends (on_locals n kd bs st h) a = begin (sign sg.Semicolon here) (InList n (snoc bs a), st)
      (λ limits leaves. refl) refl (λ _. refl) (whole (list_ends h n (snoc bs a)))
  local_ends (on_first_local n p st h) a = begin (sign sg.Semicolon here) (ForSecond n p (present a), st)
      (λ limits leaves. refl) refl (λ _. refl) (for_second_ends n p (present a) (stmt_ends h))

  pub stmt_ends : {st : List Frame} → Stands AStmt st → EndsStmt st
  stmt_ends (on_if_then n p c st h) a = alike (λ limits near leaves t e. no_else limits near leaves n p c a st t e)
      (stmt_ends h (if_ p c a absent))
  stmt_ends (on_if_else p c b st h) a = alike (λ limits near leaves t e. refl) (stmt_ends h (if_ p c b (present a)))
  stmt_ends (on_while_body p c st h) a = alike (λ limits near leaves t e. refl) (stmt_ends h (while_ p c a))
  stmt_ends (on_for_body p i c u st h) a = alike (λ limits near leaves t e. refl) (stmt_ends h (for_ p i c u a))
  stmt_ends (on_do_body p st h) a = begin (word w.While here)
      (Expect true sg.OpenParen WantOutermost, DoCondition p a ∷ st) (λ limits leaves. refl) refl (λ _. refl)
      (do_ends p a (stmt_ends h))
  stmt_ends (on_next n bs st h) a = alike (λ limits near leaves t e. refl) (list_ends h n (snoc bs a))

  pub list_ends : {st : List Frame} → Stands AnEnd st → EndsList st
  list_ends (on_block p st h) n bs = begin (sign sg.CloseBrace here) (HaveStmt (block p bs), st) (λ limits leaves. refl)
      refl (λ _. refl) (whole (stmt_ends h (block p bs)))
  list_ends (on_body x form xs held items) n bs = record {
    first = sign sg.CloseBrace here;
    rest = [];
    items = items ++ closing_of_function x form xs held bs here ∷ [];
    fits = refl;
    ends = λ limits le. refl;
    body = λ e. ([], here, refl, refl);
  }
