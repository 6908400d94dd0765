-- What is spelled as an assignment, a call or a local is read as it.
use Rattle.std.proofs.Common.{◌≡◌, ℕ, ◌<◌, ◌&&◌, Bool, true, false, nat_lt, List, [], ◌∷◌, ◌++◌, length, Option, Some, None, Ok, arith, refl, ap, ◌∙◌, append_assoc}
use Rattle.std.proofs.lemmas.Bool.Decides.{nat_tests}
use Rattle.cas_base.specs.declared.place.Place.{Place}
use Rattle.cas_lex.specs.declared.token.Token.{Token}
use Rattle.cas_lex.specs.declared.token.TokenKind.{TokenKind}
use Rattle.cas_lex.specs.declared.token.TokenKind.TheVariants as k
use Rattle.cas_lex.specs.declared.token.Sign.{Sign}
use Rattle.cas_lex.specs.declared.token.Sign.TheVariants as sg
use Rattle.cas_syntax.specs.declared.tree.Ident.{Ident}
use Rattle.cas_syntax.specs.declared.tree.UnaryOperator.{UnaryOperator}
use Rattle.cas_syntax.specs.declared.tree.UnaryOperator.TheVariants as u
use Rattle.cas_syntax.specs.declared.tree.BinaryOperator.{BinaryOperator}
use Rattle.cas_syntax.specs.declared.tree.BinaryOperator.TheVariants.{Add, Sub, Mul, Div, Mod, Shl, Shr, BitAnd, BitOr, BitXor}
use Rattle.cas_syntax.specs.Tree.{ExprTree, TargetTree, to_name, to_index, to_deref, StmtTree, assign}
use Rattle.cas_syntax.specs.Operators.{assigning_sign, unary_sign}
use Rattle.cas_syntax.specs.Limits.{Limits}
use Rattle.cas_syntax.specs.Tokens.{sign, ident, begins_call, is_opening_paren}
use Rattle.cas_syntax.specs.Expressions.{Spells, an_operand_of, two_operands, a_choice, SpellsExpr, outermost, SpellsExprs, last_of, one_of, SpellsArguments, no_arguments, arguments}
use Rattle.cas_syntax.specs.Statements.{SpellsTarget, a_variable, an_element, behind_name, behind_parentheses, MayBeValue, SpellsSimple, sets, changes, increments, decrements, increments_first, decrements_first, keeps_result, calls}
use Rattle.cas_parse.specs.Frames.{Receiver, Assigned, Caller, Alone, Keeps, Written, Stepped, Frame, ValueOf, AssignedTo, Argument, TargetIndex, TargetBehind, Control, WantOutermost, Given, WantValue, MaybeCall, Named, WantArguments, WantTarget, AfterName, SteppedName, AfterTarget, HaveSimple}
use Rattle.cas_parse.specs.Machine.{assigning, stepped, resulted, limited, is_at, maybe_call, after_operand_name, arguments_started, outermost as begins_outermost, after_name, after_target, changed_by, stepped_name, simple_started, ended, run, go, Verdict}
use Rattle.cas_parse.proofs.CompleteNext.{next_is, next_is-not, alike}
use Rattle.cas_parse.proofs.CompleteLimits.{leaves}
use Rattle.cas_parse.proofs.CompleteExprs.{is_ending, reads_outermost}

-- what may stand behind an assignment, a call or a local isn't what goes on with a name

abbrev pub names : TokenKind → Bool
names (k.Sign sg.OpenBracket) = true
names (k.Sign sg.OpenParen) = true
names (k.Sign sg.Equal) = true
names kind = false

-- whether the next token goes on with a name that begins a statement or a local
ending_names : (kind : TokenKind) → is_ending kind ≡ true → names kind ≡ false
ending_names (k.Sign sg.OpenParen) h = cc
ending_names (k.Sign sg.OpenBracket) h = cc
ending_names (k.Sign sg.Equal) h = cc
ending_names _ h = refl

pub ends-names : (r : List Token) → next_is is_ending r ≡ true → next_is names r ≡ false
ends-names r h = next_is-not is_ending names ending_names r h

-- an expression begins with no token that ends one

sign_no_end : (op : UnaryOperator) → is_ending (k.Sign (unary_sign op)) ≡ false
sign_no_end u.Neg = refl
sign_no_end _ = refl

pub begins_no_end : {limits : Limits} {m : ℕ} {a : ExprTree} {s r : List Token} → Spells limits m a s r →
    next_is is_ending s ≡ false
begins_no_end (two_operands l op a b p s t r le ha hb) = begins_no_end ha
begins_no_end (a_choice l c a b p q s t u r le hc ha hb) = begins_no_end hc
begins_no_end (an_operand_of l op a p s r h) = sign_no_end op
begins_no_end _ = refl

pub expr_no_end : {limits : Limits} {a : ExprTree} {s r : List Token} → SpellsExpr limits a s r →
    next_is is_ending s ≡ false
expr_no_end (outermost a s r room h) = begins_no_end h

exprs_no_end : {limits : Limits} {bs : List ExprTree} {s r : List Token} → SpellsExprs limits bs s r →
    next_is is_ending s ≡ false
exprs_no_end (last_of a s r h) = expr_no_end h
exprs_no_end (one_of a bs p s t r h hs) = expr_no_end h

module _ (limits : Limits) where
  -- arguments

  starts_arguments : (caller : Caller) (st : List Frame) (s : List Token) → next_is is_ending s ≡ false
      → run limits s (WantArguments caller) st ≡ run limits s WantOutermost (Argument caller [] ∷ st)
  starts_arguments caller st s h = alike limits is_ending false (WantArguments caller) WantOutermost st
      (Argument caller [] ∷ st) refl by_kind s h
    where
      by_kind : (near leaves : Bool) (place : Place) (kind : TokenKind) → is_ending kind ≡ false
          → arguments_started limits near leaves caller st place kind ≡ begins_outermost limits near leaves
          (Argument caller [] ∷ st) place kind
      by_kind near leaves place (k.Sign sg.CloseParen) h = cc
      by_kind near leaves place _ h = refl

  reads_exprs : {bs : List ExprTree} {q : Place} {s r : List Token} →
      SpellsExprs limits bs s (sign sg.CloseParen q ∷ r) → (caller : Caller) (before : List ExprTree) (st : List Frame)
      → run limits s WantOutermost (Argument caller before ∷ st) ≡ run limits r (resulted caller (before ++ bs)) st
  reads_exprs {q = q} {r = r} (last_of a s _ h) caller before st =
      reads_outermost limits h (Argument caller before ∷ st) (run limits r (resulted caller (before ++ a ∷ [])) st) refl
      (λ used. refl)
  reads_exprs {q = q} {r = r} (one_of a bs p s t _ h hs) caller before st =
      reads_outermost limits h (Argument caller before ∷ st)
      (run limits t WantOutermost (Argument caller (before ++ a ∷ []) ∷ st)) refl (λ used. refl)
      ∙ reads_exprs hs caller (before ++ a ∷ []) st
      ∙ ap (λ all. run limits r (resulted caller all) st) (append_assoc before (a ∷ []) bs)

  pub reads_arguments : {bs : List ExprTree} {q : Place} {s r : List Token} →
      SpellsArguments limits bs s (sign sg.CloseParen q ∷ r) → (caller : Caller) (st : List Frame)
      → run limits s (WantArguments caller) st ≡ run limits r (resulted caller bs) st
  reads_arguments (no_arguments _) caller st = refl
  reads_arguments (arguments bs s _ h) caller st = starts_arguments caller st s (exprs_no_end h)
      ∙ reads_exprs h caller [] st

  -- values

  behind_value : (receiver : Receiver) (x : Ident) (st : List Frame) (r : List Token) →
      begins_call (ident x ∷ r) ≡ false
      → run limits r (MaybeCall 1 receiver x) st ≡ run limits r (Named 1 1 false x) (ValueOf receiver ∷ st)
  behind_value receiver x st r h = alike limits is_opening_paren false (MaybeCall 1 receiver x) (Named 1 1 false x) st
      (ValueOf receiver ∷ st) refl by_kind r h
    where
      by_kind : (near leaves : Bool) (place : Place) (kind : TokenKind) → is_opening_paren kind ≡ false
          → maybe_call limits near leaves 1 receiver x st kind ≡ after_operand_name limits near leaves 1 1 false x
          (ValueOf receiver ∷ st) kind
      by_kind near leaves place (k.Sign sg.OpenParen) h = cc
      by_kind near leaves place _ h = refl

  goes_alike : (b : Bool) (ts : List Token) (c d : Control) (st other : List Frame) →
      run limits ts c st ≡ run limits ts d other
      → go (run limits ts) (length ts) (limited b (Ok (c, st))) ≡ go (run limits ts) (length ts)
      (limited b (Ok (d, other)))
  goes_alike true ts c d st other h = h
  goes_alike false ts c d st other h = refl

  -- what doesn't begin as a call is read as an expression
  pub values : (receiver : Receiver) (st : List Frame) (s : List Token) → begins_call s ≡ false
      → run limits s (WantValue receiver) st ≡ run limits s WantOutermost (ValueOf receiver ∷ st)
  values receiver st [] h = refl
  values receiver st (t ∷ ts) h = by_kind t.kind h
    where
      by_kind : (kind : TokenKind) → begins_call (record { kind = kind; place = t.place } ∷ ts) ≡ false
          → run limits (record { kind = kind; place = t.place } ∷ ts) (WantValue receiver) st ≡ run limits
          (record { kind = kind; place = t.place } ∷ ts) WantOutermost (ValueOf receiver ∷ st)
      by_kind (k.Name n) h =
          goes_alike _ ts _ _ _ _ (behind_value receiver (record { name = n; place = t.place }) st ts h)
      by_kind _ h = refl

  -- what may be an assignment or a call, where these tokens stand
  abbrev pub begun : List Token → List Frame → Verdict
  begun [] st = run limits [] WantOutermost st
  begun (t ∷ ts) st =
      go (run limits ts) (length ts) (simple_started limits (nat_lt (length ts) limits.cut)
      (is_at limits.left_out (length ts)) st t.place t.kind)

-- the place of the first token
abbrev pub first_place : List Token → Place
first_place [] = record { line = 1; col = 1 }
first_place (t ∷ ts) = t.place

-- whether a target is a name
abbrev is_name_alone : TargetTree → Bool
is_name_alone (to_name x) = true
is_name_alone target = false

assigning_by : (op : BinaryOperator) (by : Sign) → assigning_sign op ≡ Some by → assigning (k.Sign by) ≡ Some op
assigning_by Add by e = let same : by ≡ sg.PlusEqual = cc in rw same
assigning_by Sub by e = let same : by ≡ sg.MinusEqual = cc in rw same
assigning_by Mul by e = let same : by ≡ sg.StarEqual = cc in rw same
assigning_by Div by e = let same : by ≡ sg.SlashEqual = cc in rw same
assigning_by Mod by e = let same : by ≡ sg.PercentEqual = cc in rw same
assigning_by Shl by e = let same : by ≡ sg.ShiftLeftEqual = cc in rw same
assigning_by Shr by e = let same : by ≡ sg.ShiftRightEqual = cc in rw same
assigning_by BitAnd by e = let same : by ≡ sg.AndEqual = cc in rw same
assigning_by BitOr by e = let same : by ≡ sg.OrEqual = cc in rw same
assigning_by BitXor by e = let same : by ≡ sg.CaretEqual = cc in rw same
assigning_by _ by e = cc

-- such a sign isn't one that goes on with a name, and stands behind no other
assigning_names : (by : Sign) (op : BinaryOperator) → assigning (k.Sign by) ≡ Some op → names (k.Sign by) ≡ false
assigning_names sg.OpenParen op h = cc
assigning_names sg.OpenBracket op h = cc
assigning_names sg.Equal op h = cc
assigning_names _ op h = refl

no_name : (target : TargetTree) (b : Bool) → b ≡ false → is_name_alone target && b ≡ false
no_name (to_name x) b h = h
no_name (to_index x a) b h = refl
no_name (to_deref a) b h = refl

module _ (limits : Limits) where
  -- where the next token doesn't go on with a name, the name is a target

  is_target : (x : Ident) (st : List Frame) (r : List Token) → next_is names r ≡ false
      → run limits r (AfterName x) st ≡ run limits r (AfterTarget x.place (to_name x)) st
  is_target x st r h = alike limits names false (AfterName x) (AfterTarget x.place (to_name x)) st st refl by_kind r h
    where
      by_kind : (near leaves : Bool) (place : Place) (kind : TokenKind) → names kind ≡ false
          → after_name limits near leaves x st kind ≡ after_target limits near leaves x.place (to_name x) st kind
      by_kind near leaves place (k.Sign sg.OpenParen) h = cc
      by_kind near leaves place (k.Sign sg.OpenBracket) h = cc
      by_kind near leaves place (k.Sign sg.Equal) h = cc
      by_kind near leaves place _ h = refl

  is_stepped : (q : Place) (op : BinaryOperator) (x : Ident) (st : List Frame) (r : List Token) →
      next_is names r ≡ false
      → run limits r (SteppedName q op x) st ≡ run limits r (HaveSimple (stepped q (to_name x) op)) st
  is_stepped q op x st r h = alike limits names false (SteppedName q op x) (HaveSimple (stepped q (to_name x) op))
      st st refl by_kind r h
    where
      by_kind : (near leaves : Bool) (place : Place) (kind : TokenKind) → names kind ≡ false
          → stepped_name limits near leaves q op x st kind ≡ ended (stepped q (to_name x) op) st kind
      by_kind near leaves place (k.Sign sg.OpenBracket) h = cc
      by_kind near leaves place _ h = refl

  -- a target that is written
  reads_target : {target : TargetTree} {s r : List Token} → SpellsTarget limits target s r → (st : List Frame) →
      is_name_alone target && next_is names r ≡ false
      → begun limits s st ≡ run limits r (AfterTarget (first_place s) target) st
  reads_target (a_variable x r) st h = is_target x st r h
  reads_target (an_element x a p q s r ha) st h =
      reads_outermost limits ha (TargetIndex (Written x.place) x ∷ st)
      (run limits r (AfterTarget x.place (to_index x a)) st) refl (λ used. refl)
  reads_target (behind_name x p r) st h = refl
  reads_target (behind_parentheses a o p q s r ha) st h =
      reads_outermost limits ha (TargetBehind (Written o) ∷ st) (run limits r (AfterTarget o (to_deref a)) st) refl
      (λ used. refl)

  -- a target that an operator before it steps
  reads_stepped : {target : TargetTree} {s r : List Token} → SpellsTarget limits target s r →
      (q : Place) (op : BinaryOperator) (st : List Frame) → next_is names r ≡ false
      → run limits s (WantTarget q op) st ≡ run limits r (HaveSimple (stepped q target op)) st
  reads_stepped (a_variable x r) q op st h = is_stepped q op x st r h
  reads_stepped (an_element x a p q' s r ha) q op st h =
      reads_outermost limits ha (TargetIndex (Stepped q op) x ∷ st)
      (run limits r (HaveSimple (stepped q (to_index x a) op)) st) refl (λ used. refl)
  reads_stepped (behind_name x p r) q op st h = refl
  reads_stepped (behind_parentheses a o p q' s r ha) q op st h =
      reads_outermost limits ha (TargetBehind (Stepped q op) ∷ st)
      (run limits r (HaveSimple (stepped q (to_deref a) op)) st) refl (λ used. refl)

  -- a value that an assignment takes
  takes_value : (p : Place) (target : TargetTree) (op : Option BinaryOperator) (a : ExprTree) (s r : List Token) →
      SpellsExpr limits a s r → (st : List Frame) → next_is is_ending r ≡ true
      → run limits s WantOutermost (AssignedTo p target op ∷ st) ≡ run limits r (HaveSimple (assign p target op a)) st
  takes_value p target op a s r h st ends = reads_outermost limits h (AssignedTo p target op ∷ st) _ ends
      (λ used. by_rest used r)
    where
      by_rest : (used : ℕ) (r : List Token) → run limits r (Given used a) (AssignedTo p target op ∷ st) ≡ run limits r
          (HaveSimple (assign p target op a)) st
      by_rest used [] = refl
      by_rest used (t ∷ ts) = refl

  receives : (x : Ident) (a : ExprTree) (s r : List Token) → SpellsExpr limits a s r → (st : List Frame) →
      next_is is_ending r ≡ true
      → run limits s WantOutermost (ValueOf (Assigned x) ∷ st) ≡ run limits r
      (HaveSimple (assign x.place (to_name x) None a)) st
  receives x a s r h st ends = reads_outermost limits h (ValueOf (Assigned x) ∷ st) _ ends (λ used. by_rest used r)
    where
      by_rest : (used : ℕ) (r : List Token) → run limits r (Given used a) (ValueOf (Assigned x) ∷ st) ≡ run limits r
          (HaveSimple (assign x.place (to_name x) None a)) st
      by_rest used [] = refl
      by_rest used (t ∷ ts) = refl

  changes_by : (p q : Place) (target : TargetTree) (op : BinaryOperator) (by : Sign) (t : List Token) (st : List Frame)
      → assigning (k.Sign by) ≡ Some op
      → run limits (sign by p ∷ t) (AfterTarget q target) st ≡ run limits t WantOutermost
      (AssignedTo q target (Some op) ∷ st)
  changes_by p q target op by t st h =
      let near = nat_lt (length t) limits.cut in
      let leaves_here = is_at limits.left_out (length t) in
      ap (go (run limits t) (length t)) (by_sign near leaves_here by h
      ∙ ap (changed_by limits near leaves_here q target st (k.Sign by)) h)
    where
      by_sign : (near leaves : Bool) (by : Sign) → assigning (k.Sign by) ≡ Some op
          → after_target limits near leaves q target st (k.Sign by) ≡ changed_by limits near leaves q target st
          (k.Sign by) (assigning (k.Sign by))
      by_sign near leaves sg.Equal h = cc
      by_sign near leaves sg.PlusPlus h = cc
      by_sign near leaves sg.MinusMinus h = cc
      by_sign near leaves _ h = refl

  -- the place of a statement that writes a name is the name's
  sets_target : (target : TargetTree) (a : ExprTree) (first : Token) (p : Place) (s t r : List Token) →
      SpellsTarget limits target (first ∷ s) (sign sg.Equal p ∷ t)
      → MayBeValue target t → SpellsExpr limits a t r → (st : List Frame) → next_is is_ending r ≡ true
      → begun limits (first ∷ s) st ≡ run limits r (HaveSimple (assign first.place target None a)) st
  sets_target (to_name x) a first p s t r (a_variable _ _) may h st ends =
      values limits (Assigned x) st t may
      ∙ receives x a t r h st ends
  sets_target (to_index x i) a first p s t r target may h st ends =
      reads_target target st refl
      ∙ takes_value first.place (to_index x i) None a t r h st ends
  sets_target (to_deref i) a first p s t r target may h st ends =
      reads_target target st refl
      ∙ takes_value first.place (to_deref i) None a t r h st ends

-- A call asks for no tokens of an expression at its name, but the machine doesn't know there that it is one. So a limit
-- of no tokens at all is left out here.
module _ (limits : Limits) (some : 0 < limits.tokens) where
  -- behind `=`, a call is read as one
  pub calls_value : (receiver : Receiver) (f : Ident) (q : Place) (s : List Token) (st : List Frame)
      → run limits (ident f ∷ sign sg.OpenParen q ∷ s) (WantValue receiver) st ≡ run limits s
      (WantArguments (Keeps receiver f)) st
  calls_value receiver f q s st = let first : nat_lt 0 limits.tokens ≡ true = grind (arith, nat_tests) in rw first

  pub reads_simple : {a : StmtTree} {s r : List Token} → SpellsSimple limits a s r → (st : List Frame) →
      next_is is_ending r ≡ true
      → begun limits s st ≡ run limits r (HaveSimple a) st
  reads_simple (sets target a first p s t r ht may h) st ends =
      sets_target limits target a first p s t r ht may h st ends
  reads_simple (changes target op by a first p s t r is ht h) st ends =
      let same = assigning_by op by is in
      reads_target limits ht st (no_name target (names (k.Sign by)) (assigning_names by op same))
      ∙ changes_by limits p first.place target op by t st same
      ∙ takes_value limits first.place target (Some op) a t r h st ends
  reads_simple (increments target first p s r ht) st ends = reads_target limits ht st (no_name target false refl)
  reads_simple (decrements target first p s r ht) st ends = reads_target limits ht st (no_name target false refl)
  reads_simple (increments_first target p s r ht) st ends = reads_stepped limits ht p Add st (ends-names r ends)
  reads_simple (decrements_first target p s r ht) st ends = reads_stepped limits ht p Sub st (ends-names r ends)
  reads_simple (keeps_result x f bs p q q' s r h) st ends =
      calls_value (Assigned x) f q s st
      ∙ reads_arguments limits h (Keeps (Assigned x) f) st
  reads_simple (calls f bs p q s r h) st ends = reads_arguments limits h (Alone f) st
