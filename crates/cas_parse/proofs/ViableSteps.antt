-- Each token leads to a valid state, and its fault is the one that the machine names.
use Rattle.std.proofs.Common.{◌≡◌, ℕ, inr, Bool, true, false, if◌then◌else◌, List, [], ◌∷◌, ◌++◌, Option, Some, None, Ok, Err, refl, sym, subst}
use Rattle.cas_base.specs.declared.decl.Form.TheVariants as form
use Rattle.cas_base.specs.declared.decl.Form.{Form}
use Rattle.cas_base.specs.declared.kind.Kind.{Kind}
use Rattle.cas_base.specs.declared.kind.Ty.{Ty}
use Rattle.cas_base.specs.declared.kind.Ty.TheVariants.{Int, Ptr, Array}
use Rattle.cas_base.specs.declared.place.Place.{Place}
use Rattle.cas_lex.specs.declared.code.ReadCode.TheVariants.{R5}
use Rattle.cas_lex.specs.declared.token.Token.{Token}
use Rattle.cas_lex.specs.declared.token.TokenKind.{TokenKind}
use Rattle.cas_lex.specs.declared.token.TokenKind.TheVariants as k
use Rattle.cas_lex.specs.declared.token.Word.TheVariants as w
use Rattle.cas_lex.specs.declared.token.Sign.{Sign}
use Rattle.cas_lex.specs.declared.token.Sign.TheVariants as sg
use Rattle.cas_syntax.specs.declared.tree.Ident.{Ident}
use Rattle.cas_syntax.specs.Limits.{Limits}
use Rattle.cas_syntax.specs.Tree.{lock, unlock, ItemTree}
use Rattle.cas_parse.specs.Frames.{Opening, Constant, Data}
use Rattle.cas_parse.specs.Frames.{Frame, ReturnKind, ParameterKind}
use Rattle.cas_parse.specs.Frames.{Control, WantExpr, HaveExpr, Given, Named, Taking, Opened, WantOutermost, WantValue, MaybeCall, WantArguments, WantKind, Signed, Unsigned, MayEndInt, HaveKind, Expect, WantTarget, AfterName, AfterStar, SteppedName, AfterTarget, HaveSimple, WantLocal, LocalName, LocalStar, LocalPointer, LocalLength, LocalArray, HaveLocal, WantStmt, HaveStmt, InList, ForFirst, ForSecond, ForThird, AfterReturn, LockName, UnlockName}
use Rattle.cas_parse.specs.Frames.{InItems, AfterExtern, GlobalLock, GlobalGuard, CellName, CellLength, CellArray, CellValue, CellNegative, WantCells, NegativeCells, HaveCells, MoreCells, CellsEnd, WantFunction, ReturnStar, FunctionName, WantParameters, WantParameter, ParameterStar, ParameterType, ParameterName, HaveParameter, AfterParameters, WantHeld, HaveHeld, AfterHead}
use Rattle.cas_parse.proofs.Valid.{ItemWords, Stands, on_return_kind, on_parameter_kind, on_cells_kind, on_body, kind_inside, is_inside, Valid, Stays}
use Rattle.cas_parse.specs.Machine.{wrong, is, all_named, item_started, in_items, global_lock, global_guard, cells_ended, if_defined, cell_name, cell_length, cell_array, cell_value, cell_negative, want_cells, negative_cells, have_cells, more_cells, return_star, function_name, want_parameters, parameter_star, body_started, after_head, after_parameters, want_held, have_held, shift}
use Rattle.cas_parse.proofs.ViableExpressions.{Fits, comes, wrong_fits, outside_fits, counted_fits, nested_fits, leave_fits, operand_fits, outermost_fits, have_fits, after_operand_name_fits, taking_fits, opened_fits, value_started_fits, maybe_call_fits, arguments_started_fits, ended_fits, local_ended_fits}
use Rattle.cas_parse.proofs.ViableKinds.{goes, local_started_fits, parameter_ended_fits, parameter_typed_fits, function_named_fits, down_kind_fits, want_kind_fits, after_signed_fits, after_unsigned_fits, may_end_int_fits}
use Rattle.cas_parse.proofs.ViableStatements.{after_target_fits, after_name_fits, after_star_fits, want_target_fits, stepped_name_fits, local_name_fits, local_star_fits, local_pointer_fits, local_length_fits, local_array_fits, started_fits, in_list_fits, down_stmt_fits, for_first_fits, for_second_fits, for_third_fits, after_return_fits, lock_name_fits}

module _ (limits : Limits) where
  item_started_fits : (d : Bool) (items : List ItemTree) (kind : TokenKind) →
      Fits false kind (λ near leaves. item_started limits near leaves d items [] kind)
  item_started_fits d items (k.Word w.Lock) = goes refl refl
  item_started_fits d items (k.Word w.Shared) = goes (refl, refl, refl) refl
  item_started_fits d items (k.Word w.Const) = goes (on_cells_kind Constant d items) refl
  item_started_fits d items (k.Word w.Void) = goes refl refl
  item_started_fits d items kind = want_kind_fits limits None (ReturnKind d items ∷ []) kind
      (inr (on_return_kind d items)) (λ e. refl)

  in_items_fits : (items : List ItemTree) (kind : TokenKind) →
      Fits false kind (λ near leaves. in_items limits near leaves items [] kind)
  in_items_fits items (k.Word w.Extern) = goes refl refl
  in_items_fits items kind = item_started_fits true items kind

  global_lock_fits : (d : Bool) (items : List ItemTree) (p : Place) (kind : TokenKind) →
      Fits false kind (λ near leaves. global_lock limits near leaves d items [] p kind)
  global_lock_fits d items p (k.Name n) = goes (refl, refl, refl) refl
  global_lock_fits d items p kind = outside_fits kind

  global_guard_fits : (d : Bool) (items : List ItemTree) (p : Place) (kind : TokenKind) →
      Fits false kind (λ near leaves. global_guard limits near leaves d items [] p kind)
  global_guard_fits d items p (k.Name n) = goes (refl, refl, on_cells_kind _ d items) refl
  global_guard_fits d items p kind = outside_fits kind

  cells_ended_fits : (d : Data) (x : Ident) (ty : Ty) (vs : List ℕ) (items : List ItemTree) (kind : TokenKind) →
      Fits false kind (λ near leaves. cells_ended limits near leaves d x ty vs items [] kind)
  cells_ended_fits d x ty vs items (k.Sign sg.Semicolon) = goes refl refl
  cells_ended_fits d x ty vs items kind = outside_fits kind

  if_defined_fits : (kind : TokenKind) (d : Bool) (c : Control) → Valid c [] → Stays false kind c [] →
      Fits false kind (λ near leaves. if_defined limits near leaves d c [])
  if_defined_fits kind true c v s = goes v s
  if_defined_fits kind false c v s = outside_fits kind

  cell_name_fits : (d : Data) (x : Ident) (items : List ItemTree) (kind : TokenKind) →
      Fits false kind (λ near leaves. cell_name limits near leaves d x items [] kind)
  cell_name_fits d x items (k.Sign sg.OpenBracket) = goes refl refl
  cell_name_fits d x items (k.Sign sg.Equal) = if_defined_fits (k.Sign sg.Equal) d.defined (CellValue d x items)
      refl refl
  cell_name_fits d x items kind = cells_ended_fits d x (Int d.kind) [] items kind

  cell_length_fits : (d : Data) (x : Ident) (items : List ItemTree) (kind : TokenKind) →
      Fits false kind (λ near leaves. cell_length limits near leaves d x items [] kind)
  cell_length_fits d x items (k.Literal n j) = goes (refl, refl, refl) refl
  cell_length_fits d x items kind = outside_fits kind

  cell_array_fits : (d : Data) (x : Ident) (n : ℕ) (items : List ItemTree) (kind : TokenKind) →
      Fits false kind (λ near leaves. cell_array limits near leaves d x n items [] kind)
  cell_array_fits d x n items (k.Sign sg.OpenBracket) =
      leave_fits limits (CellsEnd d x (Array d.kind n) [] items) [] refl refl
  cell_array_fits d x n items (k.Sign sg.Equal) = if_defined_fits (k.Sign sg.Equal) d.defined
      (Expect false sg.OpenBrace (WantCells d x n [] items)) (refl, refl, refl) refl
  cell_array_fits d x n items kind = cells_ended_fits d x (Array d.kind n) [] items kind

  cell_value_fits : (d : Data) (x : Ident) (items : List ItemTree) (kind : TokenKind) →
      Fits false kind (λ near leaves. cell_value limits near leaves d x items [] kind)
  cell_value_fits d x items (k.Literal n j) = goes refl refl
  cell_value_fits d x items (k.Sign sg.Minus) = goes refl refl
  cell_value_fits d x items kind = outside_fits kind

  cell_negative_fits : (d : Data) (x : Ident) (items : List ItemTree) (kind : TokenKind) →
      Fits false kind (λ near leaves. cell_negative limits near leaves d x items [] kind)
  cell_negative_fits d x items (k.Literal n j) = goes refl refl
  cell_negative_fits d x items kind = outside_fits kind

  want_cells_fits : (d : Data) (x : Ident) (n : ℕ) (vs : List ℕ) (items : List ItemTree) (kind : TokenKind) →
      Fits false kind (λ near leaves. want_cells limits near leaves d x n vs items [] kind)
  want_cells_fits d x n vs items (k.Literal v j) = goes refl refl
  want_cells_fits d x n vs items (k.Sign sg.Minus) = goes refl refl
  want_cells_fits d x n vs items kind = outside_fits kind

  negative_cells_fits : (d : Data) (x : Ident) (n : ℕ) (vs : List ℕ) (items : List ItemTree) (kind : TokenKind) →
      Fits false kind (λ near leaves. negative_cells limits near leaves d x n vs items [] kind)
  negative_cells_fits d x n vs items (k.Literal v j) = goes refl refl
  negative_cells_fits d x n vs items kind = outside_fits kind

  have_cells_fits : (d : Data) (x : Ident) (n : ℕ) (vs : List ℕ) (items : List ItemTree) (kind : TokenKind) →
      Fits false kind (λ near leaves. have_cells limits near leaves d x n vs items [] kind)
  have_cells_fits d x n vs items (k.Sign sg.Comma) = goes refl refl
  have_cells_fits d x n vs items (k.Sign sg.CloseBrace) = goes refl (refl, refl)
  have_cells_fits d x n vs items kind = outside_fits kind

  more_cells_fits : (d : Data) (x : Ident) (n : ℕ) (vs : List ℕ) (items : List ItemTree) (kind : TokenKind) →
      Fits false kind (λ near leaves. more_cells limits near leaves d x n vs items [] kind)
  more_cells_fits d x n vs items (k.Sign sg.CloseBrace) = goes refl (refl, refl)
  more_cells_fits d x n vs items kind = want_cells_fits d x n vs items kind

  return_star_fits : (d : Bool) (kd : Kind) (items : List ItemTree) (p : Place) (kind : TokenKind) →
      Fits false kind (λ near leaves. return_star limits near leaves d kd items [] p kind)
  return_star_fits d kd items p (k.Sign sg.Star) = leave_fits limits (WantFunction d (Ptr kd) items) [] refl refl
  return_star_fits d kd items p kind = function_named_fits limits d (Ptr kd) items p kind

  function_name_fits : (o : Opening) (items : List ItemTree) (kind : TokenKind) →
      Fits false kind (λ near leaves. function_name limits near leaves o items [] kind)
  function_name_fits o items (k.Sign sg.OpenParen) = goes refl refl
  function_name_fits o items (k.Sign sg.OpenBracket) = leave_fits limits _ [] refl refl
  function_name_fits o items (k.Sign sg.Equal) = leave_fits limits _ [] refl refl
  function_name_fits o items (k.Sign sg.Semicolon) = leave_fits limits _ [] refl refl
  function_name_fits o items kind = outside_fits kind

  want_parameters_fits : (o : Opening) (items : List ItemTree) (kind : TokenKind) →
      Fits false kind (λ near leaves. want_parameters limits near leaves o items [] kind)
  want_parameters_fits o items (k.Sign sg.CloseParen) = goes refl refl
  want_parameters_fits o items (k.Word w.Void) = goes (refl, refl, refl) refl
  want_parameters_fits o items kind = want_kind_fits limits None (ParameterKind o [] [] items ∷ []) kind
      (inr (on_parameter_kind o [] [] items)) (λ e. refl)

  parameter_star_fits : (o : Opening) (tys : List Ty) (xs : List (Option Ident)) (kd : Kind) (items : List ItemTree)
      (p : Place) (kind : TokenKind) →
      Fits false kind (λ near leaves. parameter_star limits near leaves o tys xs kd items [] p kind)
  parameter_star_fits o tys xs kd items p (k.Sign sg.Star) =
      leave_fits limits (ParameterType o tys xs (Ptr kd) items) [] refl refl
  parameter_star_fits o tys xs kd items p kind = parameter_typed_fits limits o tys xs (Ptr kd) items p kind

  body_started_fits : (x : Ident) (f : Form) (held : List Place) (items : List ItemTree) (d : Bool)
      (names : Option (List Ident)) →
      Fits false (k.Sign sg.OpenBrace) (λ near leaves. body_started limits near leaves x f held items [] d names)
  body_started_fits x f held items true (Some xs) = goes (on_body x f xs held items) tt
  body_started_fits x f held items d names = outside_fits (k.Sign sg.OpenBrace)

  after_head_fits : (x : Ident) (f : Form) (d : Bool) (xs : List (Option Ident)) (held : List Place)
      (items : List ItemTree) (kind : TokenKind) →
      Fits false kind (λ near leaves. after_head limits near leaves x f d xs held items [] kind)
  after_head_fits x f d xs held items (k.Sign sg.Semicolon) = goes refl refl
  after_head_fits x f d xs held items (k.Sign sg.OpenBrace) = body_started_fits x f held items d (all_named xs)
  after_head_fits x f d xs held items kind = outside_fits kind

  after_parameters_fits : (o : Opening) (tys : List Ty) (xs : List (Option Ident)) (items : List ItemTree)
      (kind : TokenKind) → Fits false kind (λ near leaves. after_parameters limits near leaves o tys xs items [] kind)
  after_parameters_fits o tys xs items (k.Word w.Holds) = goes (refl, refl, refl) refl
  after_parameters_fits o tys xs items kind = after_head_fits o.name (form.Function o.ret tys [])
      o.defined xs [] items kind

  want_held_fits : (o : Opening) (tys : List Ty) (xs : List (Option Ident)) (held : List Ident) (items : List ItemTree)
      (p : Place) (kind : TokenKind) →
      Fits false kind (λ near leaves. want_held limits near leaves o tys xs held items [] p kind)
  want_held_fits o tys xs held items p (k.Name n) = goes refl refl
  want_held_fits o tys xs held items p kind = outside_fits kind

  have_held_fits : (o : Opening) (tys : List Ty) (xs : List (Option Ident)) (held : List Ident) (items : List ItemTree)
      (kind : TokenKind) →
      Fits false kind (λ near leaves. have_held limits near leaves o tys xs held items [] kind)
  have_held_fits o tys xs held items (k.Sign sg.Comma) = goes refl refl
  have_held_fits o tys xs held items (k.Sign sg.CloseParen) = goes refl refl
  have_held_fits o tys xs held items kind = outside_fits kind

  -- a sign that has to stand here

  no_closing_brace : (s : Sign) → is s (k.Sign sg.CloseBrace) ≡ true → ⊥
  no_closing_brace sg.Semicolon e = cc
  no_closing_brace s e = cc

  stays_expected : (s : Sign) (c : Control) (st : List Frame) (kind : TokenKind) → is s kind ≡ true →
      is_inside c st ≡ false → Stays false kind c st
  stays_expected s c st (k.Sign sg.OpenBrace) e i = tt
  stays_expected s c st (k.Sign sg.CloseBrace) e i = absurd (no_closing_brace s e)
  stays_expected s c st _ e i = i

  expect_fits : (inside : Bool) (s : Sign) (c : Control) (st : List Frame) (t : Token) → Valid (Expect inside s c) st →
      Fits inside t.kind (λ near leaves. shift limits near leaves t (Expect inside s c) st)
  expect_fits true s c st t v = by_test (is s t.kind)
    where
      by_test : (b : Bool) → Fits true t.kind (λ near leaves. if b then Ok (c, st) else Err (wrong t.kind))
      by_test true = comes v.2
      by_test false = wrong_fits t.kind
  expect_fits false s c st t v = by_test (is s t.kind) refl
    where
      by_test : (b : Bool) → is s t.kind ≡ b → Fits false t.kind (λ near leaves. if b then Ok (c, st) else Err R5)
      by_test true e = goes v.2 (stays_expected s c st t.kind e v.0)
      by_test false e = outside_fits t.kind

  -- over no frames
  over_none : (t : Token) (c : Control) (st : List Frame) → st ≡ [] →
      Fits false t.kind (λ near leaves. shift limits near leaves t c []) →
      Fits false t.kind (λ near leaves. shift limits near leaves t c st)
  over_none t c st e h = subst (λ (s : List Frame). Fits false t.kind (λ near leaves. shift limits near leaves t c s))
      (sym e) h

  -- the words of an item's kind are outside
  item_words_outside : {st : List Frame} → Stands ItemWords st → kind_inside st ≡ false
  item_words_outside (on_return_kind d items) = refl
  item_words_outside (on_parameter_kind o tys xs items) = refl
  item_words_outside (on_cells_kind s d items) = refl

  pub shift_fits : (t : Token) (c : Control) (st : List Frame) → Valid c st →
      Fits (is_inside c st) t.kind (λ near leaves. shift limits near leaves t c st)
  shift_fits t (WantExpr b l) st h = counted_fits limits b (operand_fits limits b l st t.place t.kind h.0 h.1)
  shift_fits t (HaveExpr b l x) st h = have_fits limits b l x st t.kind h.0 h.1
  shift_fits t (Given b x) st h = absurd h
  shift_fits t (Named b l taken x) st h = after_operand_name_fits limits b l taken x st t.kind h.0 h.1
  shift_fits t (Taking b l) st h = taking_fits limits b l st t.place t.kind h.0 h.1
  shift_fits t (Opened b l) st h = opened_fits limits b l st t.place t.kind h.0 h.1
  shift_fits t WantOutermost st h = outermost_fits limits st t.place t.kind h
  shift_fits t (WantValue r) st h = value_started_fits limits r st t.place t.kind h
  shift_fits t (MaybeCall b r f) st h = maybe_call_fits limits b r f st t.kind h
  shift_fits t (WantArguments caller) st h = arguments_started_fits limits caller st t.place t.kind h
  shift_fits t (WantKind (Some b)) st h = absurd h
  shift_fits t (WantKind None) st h = want_kind_fits limits None st t.kind (inr h) (λ e. item_words_outside h)
  shift_fits t (Signed b) st h = after_signed_fits limits b st t.place t.kind h
  shift_fits t (Unsigned b) st h = after_unsigned_fits limits b st t.place t.kind h
  shift_fits t (MayEndInt b kd) st h = may_end_int_fits limits b kd st t.place t.kind h
  shift_fits t (HaveKind b kd) st h = down_kind_fits limits b kd st t.place t.kind h
  shift_fits t (Expect inside s c) st h = expect_fits inside s c st t h
  shift_fits t (WantTarget q op) st h = want_target_fits limits q op st t.place t.kind h
  shift_fits t (AfterName x) st h = after_name_fits limits x st t.kind h
  shift_fits t (AfterStar usage) st h = after_star_fits limits usage st t.place t.kind h
  shift_fits t (SteppedName q op x) st h = stepped_name_fits limits q op x st t.kind h
  shift_fits t (AfterTarget p target) st h = after_target_fits limits p target st t.kind h
  shift_fits t (HaveSimple a) st h = ended_fits h a t.kind
  shift_fits t (WantLocal kd) st h = local_started_fits kd st t.place t.kind h
  shift_fits t (LocalName kd x) st h = local_name_fits limits kd x st t.kind h
  shift_fits t (LocalStar kd) st h = local_star_fits limits kd st t.place t.kind h
  shift_fits t (LocalPointer kd x) st h = local_pointer_fits limits kd x st t.kind h
  shift_fits t (LocalLength kd x) st h = local_length_fits limits kd x st t.kind h
  shift_fits t (LocalArray kd x n) st h = local_array_fits limits kd x n st t.kind h
  shift_fits t (HaveLocal a) st h = local_ended_fits h a t.kind
  shift_fits t (WantStmt n) st h = nested_fits limits n (started_fits limits n st t.place t.kind h)
  shift_fits t (HaveStmt a) st h = down_stmt_fits limits h a t.place t.kind
  shift_fits t (InList n bs) st h = in_list_fits limits n bs st t.place t.kind h
  shift_fits t (ForFirst n q) st h = for_first_fits limits n q st t.place t.kind h
  shift_fits t (ForSecond n q i) st h = for_second_fits limits n q i st t.place t.kind h
  shift_fits t (ForThird n q i c) st h = for_third_fits limits n q i c st t.place t.kind h
  shift_fits t (AfterReturn q) st h = after_return_fits limits q st t.place t.kind h
  shift_fits t (LockName q) st h = lock_name_fits limits (lock q) st t.place t.kind h
  shift_fits t (UnlockName q) st h = lock_name_fits limits (unlock q) st t.place t.kind h
  shift_fits t (InItems items) st h = over_none t (InItems items) st h (in_items_fits items t.kind)
  shift_fits t (AfterExtern items) st h = over_none t (AfterExtern items) st h (item_started_fits false items t.kind)
  shift_fits t (GlobalLock d items) st h = over_none t (GlobalLock d items) st h
      (global_lock_fits d items t.place t.kind)
  shift_fits t (GlobalGuard d items) st h = over_none t (GlobalGuard d items) st h
      (global_guard_fits d items t.place t.kind)
  shift_fits t (CellName d x items) st h = over_none t (CellName d x items) st h (cell_name_fits d x items t.kind)
  shift_fits t (CellLength d x items) st h = over_none t (CellLength d x items) st h (cell_length_fits d x items t.kind)
  shift_fits t (CellArray d x n items) st h = over_none t (CellArray d x n items) st h
      (cell_array_fits d x n items t.kind)
  shift_fits t (CellValue d x items) st h = over_none t (CellValue d x items) st h (cell_value_fits d x items t.kind)
  shift_fits t (CellNegative d x items) st h = over_none t (CellNegative d x items) st h
      (cell_negative_fits d x items t.kind)
  shift_fits t (WantCells d x n vs items) st h = over_none t (WantCells d x n vs items) st h
      (want_cells_fits d x n vs items t.kind)
  shift_fits t (NegativeCells d x n vs items) st h = over_none t (NegativeCells d x n vs items) st h
      (negative_cells_fits d x n vs items t.kind)
  shift_fits t (HaveCells d x n vs items) st h = over_none t (HaveCells d x n vs items) st h
      (have_cells_fits d x n vs items t.kind)
  shift_fits t (MoreCells d x n vs items) st h = over_none t (MoreCells d x n vs items) st h
      (more_cells_fits d x n vs items t.kind)
  shift_fits t (CellsEnd d x ty vs items) st h = over_none t (CellsEnd d x ty vs items) st h
      (cells_ended_fits d x ty vs items t.kind)
  shift_fits t (WantFunction d ty items) st h = over_none t (WantFunction d ty items) st h
      (function_named_fits limits d ty items t.place t.kind)
  shift_fits t (ReturnStar d kd items) st h = over_none t (ReturnStar d kd items) st h
      (return_star_fits d kd items t.place t.kind)
  shift_fits t (FunctionName o items) st h = over_none t (FunctionName o items) st h (function_name_fits o items t.kind)
  shift_fits t (WantParameters o items) st h = over_none t (WantParameters o items) st h
      (want_parameters_fits o items t.kind)
  shift_fits t (WantParameter o tys xs items) st h =
      over_none t (WantParameter o tys xs items) st h (want_kind_fits limits None (ParameterKind o tys xs items ∷ [])
      t.kind (inr (on_parameter_kind o tys xs items)) (λ e. refl))
  shift_fits t (ParameterStar o tys xs kd items) st h =
      over_none t (ParameterStar o tys xs kd items) st h (parameter_star_fits o tys xs kd items t.place t.kind)
  shift_fits t (ParameterType o tys xs ty items) st h =
      over_none t (ParameterType o tys xs ty items) st h (parameter_typed_fits limits o tys xs ty items t.place t.kind)
  shift_fits t (ParameterName o tys xs ty x items) st h =
      over_none t (ParameterName o tys xs ty x items) st h
      (parameter_ended_fits limits o (tys ++ ty ∷ []) (xs ++ Some x ∷ []) items t.kind)
  shift_fits t (HaveParameter o tys xs items) st h = over_none t (HaveParameter o tys xs items) st h
      (parameter_ended_fits limits o tys xs items t.kind)
  shift_fits t (AfterParameters o tys xs items) st h =
      over_none t (AfterParameters o tys xs items) st h (after_parameters_fits o tys xs items t.kind)
  shift_fits t (WantHeld o tys xs held items) st h = over_none t (WantHeld o tys xs held items) st h
      (want_held_fits o tys xs held items t.place t.kind)
  shift_fits t (HaveHeld o tys xs held items) st h = over_none t (HaveHeld o tys xs held items) st h
      (have_held_fits o tys xs held items t.kind)
  shift_fits t (AfterHead x f d xs held items) st h = over_none t (AfterHead x f d xs held items) st h
      (after_head_fits x f d xs held items t.kind)
