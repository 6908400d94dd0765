-- What the machine takes is spelled.
use Rattle.std.proofs.Common.{◌≡◌, Bool, true, false, if◌then◌else◌, List, [], ◌∷◌, length, None, Ok, Err, refl, sym, ap}
use Rattle.cas_lex.specs.declared.token.Token.{Token}
use Rattle.cas_lex.specs.declared.token.Sign.{Sign}
use Rattle.cas_syntax.specs.Items as i
use Rattle.cas_syntax.specs.Items.{SpellsItems}
use Rattle.cas_syntax.specs.Limits.{Limits}
use Rattle.cas_syntax.specs.Tree.{ItemTree}
use Rattle.cas_parse.specs.Machine as m
use Rattle.cas_parse.specs.Machine.{Outcome, is, shift, go, run, finish}
use Rattle.cas_parse.specs.Frames.{Frame}
use Rattle.cas_parse.specs.Frames.{Control, WantExpr, HaveExpr, Given, Named, Taking, Opened, WantOutermost, WantValue, MaybeCall, WantArguments, WantKind, Signed, Unsigned, MayEndInt, HaveKind, Expect, WantTarget, AfterName, AfterStar, SteppedName, AfterTarget, HaveSimple, WantLocal, LocalName, LocalStar, LocalPointer, LocalLength, LocalArray, HaveLocal, WantStmt, HaveStmt, InList, ForFirst, ForSecond, ForThird, AfterReturn, LockName, UnlockName}
use Rattle.cas_parse.specs.Frames.{InItems, AfterExtern, GlobalLock, GlobalGuard, CellName, CellLength, CellArray, CellValue, CellNegative, WantCells, NegativeCells, HaveCells, MoreCells, CellsEnd, WantFunction, ReturnStar, FunctionName, WantParameters, WantParameter, ParameterStar, ParameterType, ParameterName, HaveParameter, AfterParameters, WantHeld, HaveHeld, AfterHead, ParameterKind}
use Rattle.cas_parse.proofs.Holds as h
use Rattle.cas_parse.proofs.Holds.{Holds, HoldsAfter}
use Rattle.cas_parse.proofs.SoundSimple.{token, near, leaves, is-sign, ended_holds, local_ended_holds}
use Rattle.cas_parse.proofs.SoundItems.{function_named_holds, return_star_holds, function_name_holds, parameter_typed_holds, parameter_named_holds, parameter_left_out_holds, parameter_star_holds, after_head_holds, after_parameters_holds, want_held_holds, have_held_holds}
use Rattle.cas_parse.proofs.SoundCells.{cells_ended_holds, cell_name_holds, cell_length_holds, cell_array_holds, cell_value_holds, cell_negative_holds, want_cells_holds, negative_cells_holds, have_cells_holds, more_cells_holds}
use Rattle.cas_parse.proofs.SoundKinds.{local_started_holds, down_kind_holds, want_kind_holds, after_signed_holds, after_unsigned_holds, may_end_int_holds}
use Rattle.cas_parse.proofs.SoundExprs.{want_expr_holds, outermost_holds, have_holds, after_operand_name_holds, taking_holds, opened_holds, value_started_holds, maybe_call_holds, arguments_started_holds}
use Rattle.cas_parse.proofs.SoundTargets.{target_taken_holds, after_name_holds, after_star_holds, want_target_holds, stepped_name_holds, local_name_holds, local_star_holds, local_pointer_holds, local_length_holds, local_array_holds}
use Rattle.cas_parse.proofs.SoundStmts.{want_stmt_holds, in_list_holds, down_stmt_holds, for_first_holds, for_second_holds, for_third_holds, after_return_holds, lock_name_holds, unlock_name_holds, item_started_holds, in_items_holds, global_lock_holds, global_guard_holds, want_parameters_holds}

module _ (limits : Limits) (all : List Token) where
  expected_holds : (inside : Bool) (s : Sign) (c : Control) (st : List Frame) (t : Token) (ts : List Token) →
      Holds limits all (Expect inside s c) st (t ∷ ts) →
      HoldsAfter limits all ts (if is s t.kind then Ok (c, st) else Err (m.wrong_where inside t.kind))
  expected_holds inside s c st t ts hold = by_test (is s t.kind) refl
    where
      by_test : (b : Bool) → is s t.kind ≡ b → HoldsAfter limits all ts
          (if b then Ok (c, st) else Err (m.wrong_where inside t.kind))
      by_test true e = hold t.place ts (ap (λ kind. token kind t.place ∷ ts) (is-sign s t.kind e))
      by_test false e = tt

  -- each token keeps what the frames hold
  pub shift_holds : (c : Control) (st : List Frame) (t : Token) (ts : List Token) → Holds limits all c st (t ∷ ts) →
      HoldsAfter limits all ts (shift limits (near limits ts) (leaves limits ts) t c st)
  shift_holds (WantExpr b l) st t ts (start, budget, hx) =
      want_expr_holds limits all b l st start t.kind t.place ts budget hx
  shift_holds (HaveExpr b l x) st t ts (start, from, budget, spelled, hx) =
      have_holds limits all b l x st start from t.kind t.place ts budget spelled hx
  shift_holds (Given b x) st t ts hold = absurd hold
  shift_holds (Named b l taken x) st t ts (start, from, budget, hn, hx) =
      after_operand_name_holds limits all b l taken x st start from t.kind t.place ts budget hn hx
  shift_holds (Taking b l) st t ts (start, q, budget, hx) =
      taking_holds limits all b l st start q t.kind t.place ts budget hx
  shift_holds (Opened b l) st t ts (start, q, budget, hx) =
      opened_holds limits all b l st start q t.kind t.place ts budget hx
  shift_holds WantOutermost st t ts ho = outermost_holds limits all st t.kind t.place ts ho
  shift_holds (WantValue r) st t ts hr = value_started_holds limits all r st t.kind t.place ts hr
  shift_holds (MaybeCall b r f) st t ts (budget, hr) = maybe_call_holds limits all b r f st t.kind t.place ts budget hr
  shift_holds (WantArguments caller) st t ts hc = arguments_started_holds limits all caller st t.kind t.place ts hc
  shift_holds (WantKind b) st t ts (start, budget, hk) =
      want_kind_holds limits all b st start t.kind t.place ts budget hk
  shift_holds (Signed b) st t ts (start, q, budget, hk) =
      after_signed_holds limits all b st start q t.kind t.place ts budget hk
  shift_holds (Unsigned b) st t ts (start, q, budget, hk) =
      after_unsigned_holds limits all b st start q t.kind t.place ts budget hk
  shift_holds (MayEndInt b kd) st t ts (start, from, budget, hk, more) =
      may_end_int_holds limits all b kd st start from t.kind t.place ts budget hk more
  shift_holds (HaveKind b kd) st t ts (start, from, budget, hk, spelled) =
      down_kind_holds limits all hk b kd t.kind t.place ts budget spelled
  shift_holds (Expect inside s c) st t ts hold = expected_holds inside s c st t ts hold
  shift_holds (WantTarget q op) st t ts hu = want_target_holds limits all q op st t.kind t.place ts hu
  shift_holds (AfterName x) st t ts hs = after_name_holds limits all x st t.kind t.place ts hs
  shift_holds (AfterStar usage) st t ts (q, hu) = after_star_holds limits all usage st q t.kind t.place ts hu
  shift_holds (SteppedName q op x) st t ts hu = stepped_name_holds limits all q op x st t.kind t.place ts hu
  shift_holds (AfterTarget q target) st t ts (from, hu, ht, takes) =
      target_taken_holds limits all hu target t.kind t.place ts ht takes
  shift_holds (HaveSimple a) st t ts (from, hs, ha) = ended_holds limits all hs a t.kind t.place ts ha
  shift_holds (WantLocal kd) st t ts hl = local_started_holds limits all kd st t.kind t.place ts hl
  shift_holds (LocalName kd x) st t ts hl = local_name_holds limits all kd x st t.kind t.place ts hl
  shift_holds (LocalStar kd) st t ts (q, hl) = local_star_holds limits all kd st q t.kind t.place ts hl
  shift_holds (LocalPointer kd x) st t ts (q, hl) = local_pointer_holds limits all kd x st q t.kind t.place ts hl
  shift_holds (LocalLength kd x) st t ts (o, hl) = local_length_holds limits all kd x st o t.kind t.place ts hl
  shift_holds (LocalArray kd x n) st t ts (j, a, b, c, hl) =
      local_array_holds limits all kd x n st j a b c t.kind t.place ts hl
  shift_holds (HaveLocal a) st t ts (kd, from, hl, ha) = local_ended_holds limits all hl a t.kind t.place ts ha
  shift_holds (WantStmt n) st t ts hs = want_stmt_holds limits all n st t.kind t.place ts hs
  shift_holds (HaveStmt a) st t ts (n, from, hs, ha, whole) =
      down_stmt_holds limits all hs a t.kind t.place ts ha (λ e. whole)
  shift_holds (InList n bs) st t ts (from, hl, hb) = in_list_holds limits all n bs st from t.kind t.place ts hl hb
  shift_holds (ForFirst n q) st t ts hf = for_first_holds limits all n q st t.kind t.place ts hf
  shift_holds (ForSecond n q a) st t ts hf = for_second_holds limits all n q a st t.kind t.place ts hf
  shift_holds (ForThird n q a c) st t ts hf = for_third_holds limits all n q a c st t.kind t.place ts hf
  shift_holds (AfterReturn q) st t ts (n, al, hs) = after_return_holds limits all n q st t.kind t.place ts al hs
  shift_holds (LockName o) st t ts (n, q, al, hs) = lock_name_holds limits all n o q st t.kind t.place ts al hs
  shift_holds (UnlockName o) st t ts (n, q, al, hs) = unlock_name_holds limits all n o q st t.kind t.place ts al hs
  shift_holds (InItems items) st t ts hs = in_items_holds limits all items st t.kind t.place ts hs
  shift_holds (AfterExtern items) st t ts hi = item_started_holds limits all false items st t.kind t.place ts hi
  shift_holds (GlobalLock d items) st t ts (o, hi) = global_lock_holds limits all d items st o t.kind t.place ts hi
  shift_holds (GlobalGuard d items) st t ts (o, q, hi) =
      global_guard_holds limits all d items st o q t.kind t.place ts hi
  shift_holds (CellName d x items) st t ts hc = cell_name_holds limits all d x items st t.kind t.place ts hc
  shift_holds (CellLength d x items) st t ts (o, hc) = cell_length_holds limits all d x items st o t.kind t.place ts hc
  shift_holds (CellArray d x n items) st t ts (j, a, b, c, hc) =
      cell_array_holds limits all d x n items st j a b c t.kind t.place ts hc
  shift_holds (CellValue d x items) st t ts (o, e, hc) =
      cell_value_holds limits all d x items st o t.kind t.place ts e hc
  shift_holds (CellNegative d x items) st t ts (o, q, e, hc) =
      cell_negative_holds limits all d x items st o q t.kind t.place ts e hc
  shift_holds (WantCells d x n vs items) st t ts (s, hv, more) =
      want_cells_holds limits all d x n vs items st s t.kind t.place ts hv more
  shift_holds (NegativeCells d x n vs items) st t ts (s, q, hv, more) =
      negative_cells_holds limits all d x n vs items st s q t.kind t.place ts hv more
  shift_holds (HaveCells d x n vs items) st t ts (s, u, us, v, e, hv, more, one) =
      rw e (have_cells_holds limits all d x n us v items st s u t.kind t.place ts hv more one)
  shift_holds (MoreCells d x n vs items) st t ts (s, hv, more, values) =
      more_cells_holds limits all d x n vs items st s t.kind t.place ts hv more values
  shift_holds (CellsEnd d x ty vs items) st t ts (u, hc, spelled) =
      cells_ended_holds limits all d x ty vs items st u t.kind t.place ts hc spelled
  shift_holds (WantFunction d ty items) st t ts (u, hi, hr) =
      function_named_holds limits all d ty items st u t.kind t.place ts hi hr
  shift_holds (ReturnStar d kd items) st t ts (u, o, hi, hk) =
      return_star_holds limits all d kd items st u o t.kind t.place ts hi hk
  shift_holds (FunctionName o items) st t ts (u, hi, hr) =
      function_name_holds limits all o items st u t.kind t.place ts hi hr
  shift_holds (WantParameters o items) st t ts hh = want_parameters_holds limits all o items st t.kind t.place ts hh
  shift_holds (WantParameter o tys xs items) st t ts hp =
      want_kind_holds limits all None (ParameterKind o tys xs items ∷ st) None t.kind t.place ts tt
      (h.parameter_kind_at hp)
  shift_holds (ParameterStar o tys xs kd items) st t ts (u, q, hp, hk) =
      parameter_star_holds limits all o tys xs kd items st u q t.kind t.place ts hp hk
  shift_holds (ParameterType o tys xs ty items) st t ts (u, hp, ht) =
      parameter_typed_holds limits all o tys xs ty items st u t.kind t.place ts hp ht
  shift_holds (ParameterName o tys xs ty x items) st t ts (u, hp, ht) =
      parameter_named_holds limits all o tys xs ty x items st u t.kind t.place ts hp ht
  shift_holds (HaveParameter o tys xs items) st t ts (u, tys', ty, xs', x, left, e, e', hp, hx, lo, le) =
      rw (e, e') (parameter_left_out_holds limits all o tys' xs' ty x items st u left t.kind t.place ts hp hx lo le)
  shift_holds (AfterParameters o tys xs items) st t ts ha =
      after_parameters_holds limits all o tys xs items st t.kind t.place ts ha
  shift_holds (WantHeld o tys xs held items) st t ts hh =
      want_held_holds limits all o tys xs held items st t.kind t.place ts hh
  shift_holds (HaveHeld o tys xs held items) st t ts (held', x, e, hh) =
      rw e (have_held_holds limits all o tys xs held' x items st t.kind t.place ts hh)
  shift_holds (AfterHead x f d xs held items) st t ts (u, hi, hh) =
      after_head_holds limits all x f d xs held items st u t.kind t.place ts hi hh

  finish_sound : (c : Control) (st : List Frame) (items : List ItemTree) → Holds limits all c st [] →
      finish c ≡ Ok items → SpellsItems limits items all []
  finish_sound (InItems others) st items hs e = let same : others ≡ items = cc in rw (sym same) hs
  finish_sound _ st items hs e = absurd (cc)

  run_holds : (ts : List Token) (c : Control) (st : List Frame) (items : List ItemTree) → Holds limits all c st ts →
      run limits ts c st ≡ Ok items → SpellsItems limits items all []
  run_holds [] c st items hold e = finish_sound c st items hold e
  run_holds (t ∷ ts) c st items hold e = by_step (shift limits (near limits ts) (leaves limits ts) t c st)
      (shift_holds c st t ts hold) e (run_holds ts)
    where
      by_step : (o : Outcome) → HoldsAfter limits all ts o → go (run limits ts) (length ts) o ≡ Ok items →
          ((c : Control) (st : List Frame) (items : List ItemTree) → Holds limits all c st ts →
          run limits ts c st ≡ Ok items → SpellsItems limits items all []) →
          SpellsItems limits items all []
      by_step (Ok next) hold e recur = recur next.0 next.1 items hold e
      by_step (Err code) hold e recur = absurd (cc)

-- what is taken is spelled
pub run_sound : (limits : Limits) (ts : List Token) (items : List ItemTree) → run limits ts (InItems []) [] ≡ Ok items →
    SpellsItems limits items ts []
run_sound limits ts items e = run_holds limits ts ts (InItems []) [] items (i.no_item ts) e
