-- From each valid state the text can be completed, where no limit is asked.
use Rattle.std.proofs.Common.{◌≡◌, ◌+◌, Bool, true, false, if◌then◌else◌, nat_lt, List, [], ◌∷◌, ◌++◌, Some, None, Ok, Err, refl, ap, arith, sym, subst}
use Rattle.cas_base.specs.Word.{word_sub, narrowed}
use Rattle.cas_base.specs.declared.decl.Form.TheVariants as form
use Rattle.cas_syntax.specs.Items.{declared}
use Rattle.cas_syntax.specs.Reading.{is_opening_brace}
use Rattle.cas_syntax.specs.Tokens.{word, sign}
use Rattle.cas_base.specs.declared.kind.Kind.TheVariants.{I32, U32}
use Rattle.cas_base.specs.declared.kind.Ty.TheVariants.{Int, Ptr, Array}
use Rattle.cas_lex.specs.declared.token.TokenKind.TheVariants as k
use Rattle.cas_lex.specs.declared.token.Word.TheVariants as w
use Rattle.cas_lex.specs.declared.token.Sign.{Sign}
use Rattle.cas_lex.specs.declared.token.Sign.TheVariants as sg
use Rattle.cas_syntax.specs.Tree.{literal, name, skip, return_, lock, unlock, global}
use Rattle.cas_parse.specs.Frames.{Frame, InParens, ValueOf, ParameterKind}
use Rattle.cas_parse.specs.Frames.{Control, WantExpr, HaveExpr, Given, Named, Taking, Opened, WantOutermost, WantValue, MaybeCall, WantArguments, WantKind, Signed, Unsigned, MayEndInt, HaveKind, Expect, WantTarget, AfterName, AfterStar, SteppedName, AfterTarget, HaveSimple, WantLocal, LocalName, LocalStar, LocalPointer, LocalLength, LocalArray, HaveLocal, WantStmt, HaveStmt, InList, ForFirst, ForSecond, ForThird, AfterReturn, LockName, UnlockName}
use Rattle.cas_parse.specs.Frames.{InItems, AfterExtern, GlobalLock, GlobalGuard, CellName, CellLength, CellArray, CellValue, CellNegative, WantCells, NegativeCells, HaveCells, MoreCells, CellsEnd, WantFunction, ReturnStar, FunctionName, WantParameters, WantParameter, ParameterStar, ParameterType, ParameterName, HaveParameter, AfterParameters, WantHeld, HaveHeld, AfterHead}
use Rattle.cas_parse.proofs.Valid.{on_parens, on_value, on_parameter_kind, is_inside, is_needed, Valid}
use Rattle.cas_parse.specs.Machine.{Outcome, at, is, wrong_where}
use Rattle.cas_parse.proofs.ViableEnds.{here, some_name, zero_literal, Completion, whole, more, alike, limited_not, empty_stmt, for_third_ends, for_second_ends}
use Rattle.cas_parse.proofs.ViableFrames.{expr_ends, simple_ends, local_ends, stmt_ends, list_ends}
use Rattle.cas_parse.proofs.ViableParts.{zero_ends, outermost_ends, named_ends, maybe_call_as, no_arguments_ends, local_name_ends, local_array_ends, local_pointer_ends, want_local_ends, stepped_name_ends, after_name_ends, after_target_ends, after_star_ends, for_first_ends, lock_name_ends, items_end, item_ends, after_parameters_ends, want_parameters_ends, function_name_ends, opening, cells_end_ends, have_cells_ends, item_kind_ends, kind_ends, signed_as, unsigned_as, may_end_int_as, want_kind_ends, global_guard_ends, have_held_ends}

-- a sign that has to stand
is_itself : (inside : Bool) (s : Sign) → is_needed inside s ≡ true → is s (k.Sign s) ≡ true
is_itself inside sg.Semicolon e = refl
is_itself inside sg.OpenParen e = refl
is_itself inside sg.CloseParen e = refl
is_itself inside sg.CloseBracket e = refl
is_itself inside sg.OpenBrace e = refl
is_itself true s e = cc
is_itself false s e = cc

opens_none : (s : Sign) → is_needed true s ≡ true → is_opening_brace (k.Sign s) ≡ false
opens_none sg.OpenBrace e = cc
opens_none s e = refl

expect_ends : (inside : Bool) (s : Sign) (c : Control) (st : List Frame) → is_needed inside s ≡ true →
    Completion inside c st → Completion inside (Expect inside s c) st
expect_ends inside s c st e r = more (sign s here) (c, st)
    (λ limits leaves. ap (λ (b : Bool). let o : Outcome = if b then Ok (c, st) else Err (wrong_where inside (k.Sign s))
    in o) (is_itself inside s e)) (clear inside e) r
  where
    clear : (i : Bool) → is_needed i s ≡ true → i ≡ true → is_opening_brace (k.Sign s) ≡ false
    clear true e j = opens_none s e
    clear false e j = cc

over_none : (c : Control) (st : List Frame) → st ≡ [] → Completion false c [] → Completion false c st
over_none c st e r = subst (λ (s : List Frame). Completion false c s) (sym e) r

-- each valid state can be completed
pub completes : (c : Control) (st : List Frame) → Valid c st → Completion (is_inside c st) c st
completes (WantExpr b l) st h = zero_ends b l h.0 h.1
completes (HaveExpr b l x) st h = whole (expr_ends h.1 b l x h.0)
completes (Given b x) st h = absurd h
completes (Named b l taken x) st h = whole (named_ends b l taken x h.0 h.1)
completes (Taking b l) st h =
    more some_name (Named (b + 1) l true (at [] here), st) (λ limits leaves. limited_not (nat_lt b limits.tokens) _)
    (λ _. refl) (whole (named_ends (b + 1) l true (at [] here) h.0 h.1))
completes (Opened b l) st h =
    more zero_literal (HaveExpr (b + 1) 1 (literal 0 I32), InParens l ∷ st)
    (λ limits leaves. limited_not (nat_lt b limits.tokens) _) (λ _. refl)
    (whole (expr_ends (on_parens l st h.0 h.1) (b + 1) 1 (literal 0 I32) (omega arith)))
completes WantOutermost st h = outermost_ends h
completes (WantValue r) st h =
    more zero_literal (HaveExpr 1 1 (literal 0 I32), ValueOf r ∷ st)
    (λ limits leaves. limited_not (nat_lt 0 limits.tokens) _) (λ _. refl)
    (whole (expr_ends (on_value r st h) 1 1 (literal 0 I32) (omega arith)))
completes (MaybeCall b r f) st h =
    whole (alike (λ limits near leaves t e. maybe_call_as limits near leaves b r f st t e)
    (expr_ends (on_value r st h) b 1 (name f) (omega arith)))
completes (WantArguments caller) st h = no_arguments_ends caller st h
completes (WantKind (Some b)) st h = absurd h
completes (WantKind None) st h = want_kind_ends h
completes (Signed b) st h =
    whole (alike (λ limits near leaves t e. signed_as limits near leaves b st t.place t.kind e) (kind_ends b I32 st h))
completes (Unsigned b) st h =
    whole (alike (λ limits near leaves t e. unsigned_as limits near leaves b st t.place t.kind e)
    (kind_ends b U32 st h))
completes (MayEndInt b kd) st h =
    whole (alike (λ limits near leaves t e. may_end_int_as limits near leaves b kd st t.place t.kind e)
    (kind_ends b kd st h))
completes (HaveKind b kd) st h = whole (kind_ends b kd st h)
completes (Expect inside s c) st h = expect_ends inside s c st h.1
    (subst (λ (i : Bool). Completion i c st) h.0 (completes c st h.2))
completes (WantTarget q op) st h = more some_name (SteppedName q op (at [] here), st) (λ limits leaves. refl)
    (λ _. refl) (whole (stepped_name_ends q op (at [] here) h))
completes (AfterName x) st h = after_name_ends x h
completes (AfterStar usage) st h = after_star_ends usage h
completes (SteppedName q op x) st h = whole (stepped_name_ends q op x h)
completes (AfterTarget p t) st h = after_target_ends p t h
completes (HaveSimple a) st h = whole (simple_ends h a)
completes (WantLocal kd) st h = want_local_ends kd h
completes (LocalName kd x) st h = whole (local_name_ends kd x h)
completes (LocalStar kd) st h = more some_name (LocalPointer kd (at [] here), st) (λ limits leaves. refl) (λ _. refl)
    (whole (local_pointer_ends kd (at [] here) h))
completes (LocalPointer kd x) st h = whole (local_pointer_ends kd x h)
completes (LocalLength kd x) st h =
    more zero_literal (Expect true sg.CloseBracket (LocalArray kd x 0), st) (λ limits leaves. refl) (λ _. refl)
    (more (sign sg.CloseBracket here) (LocalArray kd x 0, st) (λ limits leaves. refl) (λ _. refl)
    (whole (local_array_ends kd x 0 h)))
completes (LocalArray kd x n) st h = whole (local_array_ends kd x n h)
completes (HaveLocal a) st h = whole (local_ends h a)
completes (WantStmt n) st h = empty_stmt n (whole (stmt_ends h (skip here)))
completes (HaveStmt a) st h = whole (stmt_ends h a)
completes (InList n bs) st h = whole (list_ends h n bs)
completes (ForFirst n q) st h = for_first_ends n q h
completes (ForSecond n q i) st h = for_second_ends n q i (stmt_ends h)
completes (ForThird n q i c) st h = for_third_ends n q i c (stmt_ends h)
completes (AfterReturn q) st h = more (sign sg.Semicolon here) (HaveStmt (return_ q None), st) (λ limits leaves. refl)
    (λ _. refl) (whole (stmt_ends h (return_ q None)))
completes (LockName q) st h = lock_name_ends (LockName q) (lock q (at [] here)) (λ limits leaves. refl) h
completes (UnlockName q) st h = lock_name_ends (UnlockName q) (unlock q (at [] here)) (λ limits leaves. refl) h
completes (InItems items) st h = over_none (InItems items) st h (items_end items)
completes (AfterExtern items) st h = over_none (AfterExtern items) st h
    (more (word w.Lock here) (GlobalLock false items, []) (λ limits leaves. refl) (λ _. refl)
    (more some_name (
      Expect false sg.Semicolon (InItems (items ++ global (declared [] form.Lock false) [] here ∷ [])),
      [],
    ) (λ limits leaves. refl) (λ _. refl) (item_ends _ _ (λ limits leaves. refl))))
completes (GlobalLock d items) st h = over_none (GlobalLock d items) st h
    (more some_name (Expect false sg.Semicolon (InItems (items ++ global (declared [] form.Lock d) [] here ∷ [])), [])
    (λ limits leaves. refl) (λ _. refl) (item_ends _ _ (λ limits leaves. refl)))
completes (GlobalGuard d items) st h = over_none (GlobalGuard d items) st h (global_guard_ends d items)
completes (CellName d x items) st h = over_none (CellName d x items) st h (item_ends _ _ (λ limits leaves. refl))
completes (CellLength d x items) st h = over_none (CellLength d x items) st h
    (more zero_literal (Expect false sg.CloseBracket (CellArray d x 0 items), []) (λ limits leaves. refl) (λ _. refl)
    (more (sign sg.CloseBracket here) (CellArray d x 0 items, []) (λ limits leaves. refl) (λ _. refl)
    (item_ends _ _ (λ limits leaves. refl))))
completes (CellArray d x n items) st h = over_none (CellArray d x n items) st h (item_ends _ _ (λ limits leaves. refl))
completes (CellValue d x items) st h = over_none (CellValue d x items) st h
    (more zero_literal (CellsEnd d x (Int d.kind) (narrowed 0 d.kind ∷ []) items, []) (λ limits leaves. refl)
    (λ _. refl) (cells_end_ends d x (Int d.kind) (narrowed 0 d.kind ∷ []) items))
completes (CellNegative d x items) st h = over_none (CellNegative d x items) st h
    (more zero_literal (CellsEnd d x (Int d.kind) (narrowed (word_sub 0 0) d.kind ∷ []) items, [])
    (λ limits leaves. refl) (λ _. refl) (cells_end_ends d x (Int d.kind) (narrowed (word_sub 0 0) d.kind ∷ [])
    items))
completes (WantCells d x n vs items) st h = over_none (WantCells d x n vs items) st h
    (more zero_literal (HaveCells d x n (vs ++ narrowed 0 d.kind ∷ []) items, []) (λ limits leaves. refl) (λ _. refl)
    (have_cells_ends d x n (vs ++ narrowed 0 d.kind ∷ []) items))
completes (NegativeCells d x n vs items) st h = over_none (NegativeCells d x n vs items) st h
    (more zero_literal (HaveCells d x n (vs ++ narrowed (word_sub 0 0) d.kind ∷ []) items, []) (λ limits leaves. refl)
    (λ _. refl) (have_cells_ends d x n (vs ++ narrowed (word_sub 0 0) d.kind ∷ []) items))
completes (HaveCells d x n vs items) st h = over_none (HaveCells d x n vs items) st h (have_cells_ends d x n vs items)
completes (MoreCells d x n vs items) st h = over_none (MoreCells d x n vs items) st h
    (more (sign sg.CloseBrace here) (CellsEnd d x (Array d.kind n) vs items, []) (λ limits leaves. refl) (λ _. refl)
    (cells_end_ends d x (Array d.kind n) vs items))
completes (CellsEnd d x ty vs items) st h = over_none (CellsEnd d x ty vs items) st h (cells_end_ends d x ty vs items)
completes (WantFunction d ty items) st h = over_none (WantFunction d ty items) st h
    (more some_name (FunctionName (opening d ty) items, []) (λ limits leaves. refl) (λ _. refl)
    (function_name_ends (opening d ty) items))
completes (ReturnStar d kd items) st h = over_none (ReturnStar d kd items) st h
    (more some_name (FunctionName (opening d (Ptr kd)) items, []) (λ limits leaves. refl) (λ _. refl)
    (function_name_ends (opening d (Ptr kd)) items))
completes (FunctionName o items) st h = over_none (FunctionName o items) st h (function_name_ends o items)
completes (WantParameters o items) st h = over_none (WantParameters o items) st h (want_parameters_ends o items)
completes (WantParameter o tys xs items) st h = over_none (WantParameter o tys xs items) st h
    (more (word w.Int here) (HaveKind None I32, ParameterKind o tys xs items ∷ []) (λ limits leaves. refl) (λ _. refl)
    (whole (item_kind_ends (on_parameter_kind o tys xs items) I32)))
completes (ParameterStar o tys xs kd items) st h = over_none (ParameterStar o tys xs kd items) st h
    (more (sign sg.CloseParen here) (AfterParameters o (tys ++ Ptr kd ∷ []) (xs ++ None ∷ []) items, [])
    (λ limits leaves. refl) (λ _. refl) (after_parameters_ends o (tys ++ Ptr kd ∷ []) (xs ++ None ∷ []) items))
completes (ParameterType o tys xs ty items) st h = over_none (ParameterType o tys xs ty items) st h
    (more (sign sg.CloseParen here) (AfterParameters o (tys ++ ty ∷ []) (xs ++ None ∷ []) items, [])
    (λ limits leaves. refl) (λ _. refl) (after_parameters_ends o (tys ++ ty ∷ []) (xs ++ None ∷ []) items))
completes (ParameterName o tys xs ty x items) st h = over_none (ParameterName o tys xs ty x items) st h
    (more (sign sg.CloseParen here) (AfterParameters o (tys ++ ty ∷ []) (xs ++ Some x ∷ []) items, [])
    (λ limits leaves. refl) (λ _. refl) (after_parameters_ends o (tys ++ ty ∷ []) (xs ++ Some x ∷ []) items))
completes (HaveParameter o tys xs items) st h = over_none (HaveParameter o tys xs items) st h
    (more (sign sg.CloseParen here) (AfterParameters o tys xs items, []) (λ limits leaves. refl) (λ _. refl)
    (after_parameters_ends o tys xs items))
completes (AfterParameters o tys xs items) st h = over_none (AfterParameters o tys xs items) st h
    (after_parameters_ends o tys xs items)
completes (WantHeld o tys xs held items) st h = over_none (WantHeld o tys xs held items) st h
    (more some_name (HaveHeld o tys xs (held ++ at [] here ∷ []) items, []) (λ limits leaves. refl) (λ _. refl)
    (have_held_ends o tys xs (held ++ at [] here ∷ []) items))
completes (HaveHeld o tys xs held items) st h = over_none (HaveHeld o tys xs held items) st h
    (have_held_ends o tys xs held items)
completes (AfterHead x f d xs held items) st h = over_none (AfterHead x f d xs held items) st h
    (item_ends _ _ (λ limits leaves. refl))
