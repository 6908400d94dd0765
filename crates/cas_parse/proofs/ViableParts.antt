-- From each valid state the text can be completed, where no limit is asked.
use Rattle.std.proofs.Common.{◌≡◌, ℕ, ◌+◌, ◌<◌, inl, inr, Bool, true, false, nat_lt, List, [], ◌∷◌, ◌++◌, Option, Some, None, Ok, refl, ◌∙◌, arith}
use Rattle.cas_base.specs.declared.decl.Form.TheVariants as form
use Rattle.cas_syntax.specs.Items.{names_alone, places_alone}
use Rattle.cas_syntax.specs.Tokens.{word, sign}
use Rattle.cas_base.specs.declared.kind.Kind.{Kind}
use Rattle.cas_base.specs.declared.kind.Kind.TheVariants.{I32, U32}
use Rattle.cas_base.specs.declared.kind.Ty.{Ty}
use Rattle.cas_base.specs.declared.kind.Ty.TheVariants.{Int, Ptr, Array}
use Rattle.cas_base.specs.declared.place.Place.{Place}
use Rattle.cas_lex.specs.declared.token.Token.{Token}
use Rattle.cas_lex.specs.declared.token.TokenKind.{TokenKind}
use Rattle.cas_lex.specs.declared.token.TokenKind.TheVariants as k
use Rattle.cas_lex.specs.declared.token.Word.TheVariants as w
use Rattle.cas_lex.specs.declared.token.Sign.TheVariants as sg
use Rattle.cas_syntax.specs.declared.tree.Ident.{Ident}
use Rattle.cas_syntax.specs.declared.tree.BinaryOperator.{BinaryOperator}
use Rattle.cas_syntax.specs.declared.tree.BinaryOperator.TheVariants.{Add}
use Rattle.cas_syntax.specs.Limits.{Limits}
use Rattle.cas_syntax.specs.Tree.{literal, name, TargetTree, to_name, to_deref, nothing, called, StmtTree, declare, call, absent, ItemTree}
use Rattle.cas_parse.specs.Frames.{Casts, Receiver, Assigned, Begun, Caller, Alone, Keeps, Use, Written, Opening, Guarded, Data}
use Rattle.cas_parse.specs.Frames.{Frame, Before, ValueOf, CellsKind, Locals, FirstLocal}
use Rattle.cas_parse.specs.Frames.{Control, WantExpr, HaveExpr, Named, WantOutermost, MaybeCall, WantArguments, WantKind, HaveKind, Expect, AfterName, AfterStar, SteppedName, AfterTarget, HaveSimple, WantLocal, LocalName, LocalPointer, LocalArray, HaveLocal, HaveStmt, ForFirst, ForSecond}
use Rattle.cas_parse.specs.Frames.{InItems, GlobalGuard, CellName, HaveCells, CellsEnd, FunctionName, WantParameters, AfterParameters, HaveHeld, AfterHead}
use Rattle.cas_parse.proofs.Valid.{AnExpr, CastWords, LocalWords, ItemWords, ASimple, ALocal, AStmt, calls, Stands, on_before, on_cast, on_locals_kind, on_first_kind, on_return_kind, on_parameter_kind, on_cells_kind, on_locals, on_first_local, kind_inside, AwaitsKind}
use Rattle.cas_parse.specs.Machine.{at, named, reached, stepped, after_operand_name, have, maybe_call, local_name, local_pointer, local_array, local_ended, stepped_name, ended, down_kind, after_signed, after_unsigned, may_end_int, shift}
use Rattle.cas_parse.proofs.ViableEnds.{here, some_name, zero_literal, Completion, Ending, whole, begin, more, alike, closes, limited_not, for_second_ends, semicolon_ends, reached_ends}
use Rattle.cas_parse.proofs.ViableFrames.{expr_ends, simple_ends, local_ends, stmt_ends}

-- inside expressions

-- 0, and what follows an operand
pub zero_ends : {st : List Frame} (b l : ℕ) → 0 < l → Stands AnExpr st → Completion true (WantExpr b l) st
zero_ends {st = st} b l f h =
    more zero_literal (HaveExpr (b + 1) l (literal 0 I32), st) (λ limits leaves. limited_not (nat_lt b limits.tokens) _)
    (λ _. refl) (whole (expr_ends h (b + 1) l (literal 0 I32) f))

pub outermost_ends : {st : List Frame} → Stands AnExpr st → Completion true WantOutermost st
outermost_ends {st = st} h =
    more zero_literal (HaveExpr 1 1 (literal 0 I32), st) (λ limits leaves. limited_not (nat_lt 0 limits.tokens) _)
    (λ _. refl) (whole (expr_ends h 1 1 (literal 0 I32) (omega arith)))

-- what closes an expression stands behind a name as behind any operand
pub named_as : (limits : Limits) (near leaves : Bool) (b l : ℕ) (taken : Bool) (x : Ident) (st : List Frame)
    (kind : TokenKind) → closes kind ≡ true →
    after_operand_name limits near leaves b l taken x st kind ≡ have limits near leaves b l (named taken x) st kind
named_as limits near leaves b l taken x st (k.Sign sg.OpenBracket) e = cc
named_as limits near leaves b l taken x st (k.Sign sg.OpenParen) e = cc
named_as limits near leaves b l taken x st kind e = refl

pub named_ends : {st : List Frame} (b l : ℕ) (taken : Bool) (x : Ident) → 0 < l → Stands AnExpr st →
    Ending true closes (Named b l taken x) st
named_ends {st = st} b l taken x f h =
    alike (λ limits near leaves t e. named_as limits near leaves b l taken x st t.kind e)
    (expr_ends h b l (named taken x) f)

pub maybe_call_as : (limits : Limits) (near leaves : Bool) (b : ℕ) (r : Receiver) (f : Ident) (st : List Frame)
    (t : Token) → closes t.kind ≡ true →
    shift limits near leaves t (MaybeCall b r f) st ≡ shift limits near leaves t (HaveExpr b 1 (name f))
    (ValueOf r ∷ st)
maybe_call_as limits near leaves b r f st t e = by_kind t.kind e
    ∙ named_as limits near leaves b 1 false f (ValueOf r ∷ st) t.kind e
  where
    by_kind : (kind : TokenKind) → closes kind ≡ true →
        maybe_call limits near leaves b r f st kind ≡ after_operand_name limits near leaves b 1 false f (ValueOf r ∷ st)
        kind
    by_kind (k.Sign sg.OpenParen) e = cc
    by_kind kind e = refl

pub no_arguments_ends : (caller : Caller) (st : List Frame) → Stands (calls caller) st →
    Completion true (WantArguments caller) st
no_arguments_ends (Alone f) st h = more (sign sg.CloseParen here) (HaveSimple (call f.place None f []), st)
    (λ limits leaves. refl) (λ _. refl) (whole (simple_ends h (call f.place None f [])))
no_arguments_ends (Keeps (Assigned x) f) st h =
    more (sign sg.CloseParen here) (HaveSimple (call x.place (Some x) f []), st) (λ limits leaves. refl) (λ _. refl)
    (whole (simple_ends h (call x.place (Some x) f [])))
no_arguments_ends (Keeps (Begun ty x) f) st h =
    more (sign sg.CloseParen here) (HaveLocal (declare x.place ty x (called f [])), st) (λ limits leaves. refl)
    (λ _. refl) (whole (local_ends h (declare x.place ty x (called f []))))

-- locals, assignments and calls

pub local_name_as : (limits : Limits) (near leaves : Bool) (kd : Kind) (x : Ident) (st : List Frame) (kind : TokenKind)
    → closes kind ≡ true →
    local_name limits near leaves kd x st kind ≡ local_ended (declare x.place (Int kd) x nothing) st kind
local_name_as limits near leaves kd x st (k.Sign sg.OpenBracket) e = cc
local_name_as limits near leaves kd x st (k.Sign sg.Equal) e = cc
local_name_as limits near leaves kd x st kind e = refl

pub local_pointer_as : (limits : Limits) (near leaves : Bool) (kd : Kind) (x : Ident) (st : List Frame)
    (kind : TokenKind) → closes kind ≡ true →
    local_pointer limits near leaves kd x st kind ≡ local_ended (declare x.place (Ptr kd) x nothing) st kind
local_pointer_as limits near leaves kd x st (k.Sign sg.OpenBracket) e = cc
local_pointer_as limits near leaves kd x st (k.Sign sg.Equal) e = cc
local_pointer_as limits near leaves kd x st kind e = refl

pub local_array_as : (limits : Limits) (near leaves : Bool) (kd : Kind) (x : Ident) (n : ℕ) (st : List Frame)
    (kind : TokenKind) → closes kind ≡ true →
    local_array limits near leaves kd x n st kind ≡ local_ended (declare x.place (Array kd n) x nothing) st kind
local_array_as limits near leaves kd x n st (k.Sign sg.OpenBracket) e = cc
local_array_as limits near leaves kd x n st (k.Sign sg.Equal) e = cc
local_array_as limits near leaves kd x n st kind e = refl

pub stepped_name_as : (limits : Limits) (near leaves : Bool) (q : Place) (op : BinaryOperator) (x : Ident)
    (st : List Frame) (kind : TokenKind) → closes kind ≡ true →
    stepped_name limits near leaves q op x st kind ≡ ended (stepped q (to_name x) op) st kind
stepped_name_as limits near leaves q op x st (k.Sign sg.OpenBracket) e = cc
stepped_name_as limits near leaves q op x st kind e = refl

pub local_name_ends : {st : List Frame} (kd : Kind) (x : Ident) → Stands ALocal st →
    Ending true closes (LocalName kd x) st
local_name_ends {st = st} kd x h = alike (λ limits near leaves t e. local_name_as limits near leaves kd x st t.kind e)
    (local_ends h (declare x.place (Int kd) x nothing))

pub local_array_ends : {st : List Frame} (kd : Kind) (x : Ident) (n : ℕ) → Stands ALocal st →
    Ending true closes (LocalArray kd x n) st
local_array_ends {st = st} kd x n h =
    alike (λ limits near leaves t e. local_array_as limits near leaves kd x n st t.kind e)
    (local_ends h (declare x.place (Array kd n) x nothing))

pub local_pointer_ends : {st : List Frame} (kd : Kind) (x : Ident) → Stands ALocal st →
    Ending true closes (LocalPointer kd x) st
local_pointer_ends {st = st} kd x h =
    alike (λ limits near leaves t e. local_pointer_as limits near leaves kd x st t.kind e)
    (local_ends h (declare x.place (Ptr kd) x nothing))

pub want_local_ends : {st : List Frame} (kd : Kind) → Stands ALocal st → Completion true (WantLocal kd) st
want_local_ends {st = st} kd h = more some_name (LocalName kd (at [] here), st) (λ limits leaves. refl) (λ _. refl)
    (whole (local_name_ends kd (at [] here) h))

pub stepped_name_ends : {st : List Frame} (q : Place) (op : BinaryOperator) (x : Ident) → Stands ASimple st →
    Ending true closes (SteppedName q op x) st
stepped_name_ends {st = st} q op x h =
    alike (λ limits near leaves t e. stepped_name_as limits near leaves q op x st t.kind e)
    (simple_ends h (stepped q (to_name x) op))

-- behind a name that begins a statement, `++`
pub after_name_ends : {st : List Frame} (x : Ident) → Stands ASimple st → Completion true (AfterName x) st
after_name_ends {st = st} x h =
    let a = stepped x.place (to_name x) Add in
    more (sign sg.PlusPlus here) (HaveSimple a, st) (λ limits leaves. refl) (λ _. refl) (whole (simple_ends h a))

pub after_target_ends : {st : List Frame} (p : Place) (t : TargetTree) → Stands ASimple st →
    Completion true (AfterTarget p t) st
after_target_ends {st = st} p t h = reached_ends (Written p) t st (simple_ends h)

pub after_star_ends : {st : List Frame} (usage : Use) → Stands ASimple st → Completion true (AfterStar usage) st
after_star_ends {st = st} usage h =
    let t = to_deref (name (at [] here)) in
    more some_name (reached usage t st) (λ limits leaves. refl) (λ _. refl) (reached_ends usage t st (simple_ends h))

pub for_first_ends : {st : List Frame} (n : ℕ) (p : Place) → Stands AStmt st → Completion true (ForFirst n p) st
for_first_ends {st = st} n p h = more (sign sg.Semicolon here) (ForSecond n p absent, st) (λ limits leaves. refl)
    (λ _. refl) (for_second_ends n p absent (stmt_ends h))

pub lock_name_ends : {st : List Frame} (c : Control) (a : StmtTree) →
    ((limits : Limits) (leaves : Bool) → shift limits true leaves some_name c st ≡ Ok
    (Expect true sg.CloseParen (Expect true sg.Semicolon (HaveStmt a)), st)) →
    Stands AStmt st → Completion true c st
lock_name_ends {st = st} c a by h =
    more some_name (Expect true sg.CloseParen (Expect true sg.Semicolon (HaveStmt a)), st) by (λ _. refl)
    (more (sign sg.CloseParen here) (Expect true sg.Semicolon (HaveStmt a), st) (λ limits leaves. refl) (λ _. refl)
    (semicolon_ends a (stmt_ends h)))

-- items

pub items_end : (items : List ItemTree) → Completion false (InItems items) []
items_end items = record { others = []; items = items; ends = λ limits le. refl; body = λ e. cc }

-- a last semicolon
pub item_ends : (c : Control) (items : List ItemTree) →
    ((limits : Limits) (leaves : Bool) → shift limits true leaves (sign sg.Semicolon here) c [] ≡ Ok
    (InItems items, [])) → Completion false c []
item_ends c items by = more (sign sg.Semicolon here) (InItems items, []) by (λ _. refl) (items_end items)

pub after_parameters_ends : (o : Opening) (tys : List Ty) (xs : List (Option Ident)) (items : List ItemTree) →
    Completion false (AfterParameters o tys xs items) []
after_parameters_ends o tys xs items = item_ends _ _ (λ limits leaves. refl)

pub want_parameters_ends : (o : Opening) (items : List ItemTree) → Completion false (WantParameters o items) []
want_parameters_ends o items = more (sign sg.CloseParen here) (AfterParameters o [] [] items, [])
    (λ limits leaves. refl) (λ _. refl) (after_parameters_ends o [] [] items)

pub function_name_ends : (o : Opening) (items : List ItemTree) → Completion false (FunctionName o items) []
function_name_ends o items = more (sign sg.OpenParen here) (WantParameters o items, []) (λ limits leaves. refl)
    (λ _. refl) (want_parameters_ends o items)

abbrev pub opening : Bool → Ty → Opening
opening d ty = record { defined = d; ret = ty; name = at [] here }

pub cells_end_ends : (d : Data) (x : Ident) (ty : Ty) (vs : List ℕ) (items : List ItemTree) →
    Completion false (CellsEnd d x ty vs items) []
cells_end_ends d x ty vs items = item_ends _ _ (λ limits leaves. refl)

pub have_cells_ends : (d : Data) (x : Ident) (n : ℕ) (vs : List ℕ) (items : List ItemTree) →
    Completion false (HaveCells d x n vs items) []
have_cells_ends d x n vs items = more (sign sg.CloseBrace here) (CellsEnd d x (Array d.kind n) vs items, [])
    (λ limits leaves. refl) (λ _. refl) (cells_end_ends d x (Array d.kind n) vs items)

-- kinds

-- what may stand behind the words of a kind
abbrev pub follows_kind : TokenKind → Bool
follows_kind (k.Name n) = true
follows_kind (k.Sign sg.CloseParen) = true
follows_kind kind = false

pub cast_kind_ends : {st : List Frame} → Stands CastWords st → (b : ℕ) (kd : Kind) →
    Ending (kind_inside st) follows_kind (HaveKind (Some b) kd) st
cast_kind_ends (on_cast l st f h) b kd =
    begin (sign sg.CloseParen here) (WantExpr (b + 1) 12, Before l (Casts kd) ∷ st)
    (λ limits leaves. limited_not (nat_lt b limits.tokens) _) refl (λ _. refl)
    (zero_ends (b + 1) 12 (omega arith) (on_before l (Casts kd) st f h))

pub local_kind_ends : {st : List Frame} → Stands LocalWords st → (kd : Kind) →
    Ending (kind_inside st) follows_kind (HaveKind None kd) st
local_kind_ends (on_locals_kind n bs st h) kd =
    begin some_name (LocalName kd (at [] here), Locals n kd bs ∷ st) (λ limits leaves. refl) refl (λ _. refl)
    (whole (local_name_ends kd (at [] here) (on_locals n kd bs st h)))
local_kind_ends (on_first_kind n p st h) kd =
    begin some_name (LocalName kd (at [] here), FirstLocal n p ∷ st) (λ limits leaves. refl) refl (λ _. refl)
    (whole (local_name_ends kd (at [] here) (on_first_local n p st h)))

pub item_kind_ends : {st : List Frame} → Stands ItemWords st → (kd : Kind) →
    Ending (kind_inside st) follows_kind (HaveKind None kd) st
item_kind_ends (on_return_kind d items) kd = begin some_name (FunctionName (opening d (Int kd)) items, [])
    (λ limits leaves. refl) refl (λ _. refl) (function_name_ends (opening d (Int kd)) items)
item_kind_ends (on_parameter_kind o tys xs items) kd =
    begin (sign sg.CloseParen here) (AfterParameters o (tys ++ Int kd ∷ []) (xs ++ None ∷ []) items, [])
    (λ limits leaves. refl) refl (λ _. refl) (after_parameters_ends o (tys ++ Int kd ∷ []) (xs ++ None ∷ []) items)
item_kind_ends (on_cells_kind s d items) kd =
    begin some_name (CellName (record { sort = s; defined = d; kind = kd }) (at [] here) items, [])
    (λ limits leaves. refl) refl (λ _. refl) (item_ends _ _ (λ limits leaves. refl))

pub kind_ends : (b : Option ℕ) (kd : Kind) (st : List Frame) → AwaitsKind b st →
    Ending (kind_inside st) follows_kind (HaveKind b kd) st
kind_ends (Some b) kd st h = cast_kind_ends h b kd
kind_ends None kd st (inl h) = local_kind_ends h kd
kind_ends None kd st (inr h) = item_kind_ends h kd

pub signed_as : (limits : Limits) (near leaves : Bool) (b : Option ℕ) (st : List Frame) (p : Place) (kind : TokenKind) →
    follows_kind kind ≡ true →
    after_signed limits near leaves b st p kind ≡ down_kind limits near leaves b I32 st p kind
signed_as limits near leaves b st p (k.Word v) e = cc
signed_as limits near leaves b st p kind e = refl

pub unsigned_as : (limits : Limits) (near leaves : Bool) (b : Option ℕ) (st : List Frame) (p : Place) (kind : TokenKind)
    → follows_kind kind ≡ true →
    after_unsigned limits near leaves b st p kind ≡ down_kind limits near leaves b U32 st p kind
unsigned_as limits near leaves b st p (k.Word v) e = cc
unsigned_as limits near leaves b st p kind e = refl

pub may_end_int_as : (limits : Limits) (near leaves : Bool) (b : Option ℕ) (kd : Kind) (st : List Frame) (p : Place)
    (kind : TokenKind) → follows_kind kind ≡ true →
    may_end_int limits near leaves b kd st p kind ≡ down_kind limits near leaves b kd st p kind
may_end_int_as limits near leaves b kd st p (k.Word v) e = cc
may_end_int_as limits near leaves b kd st p kind e = refl

-- `int`, where the words of an item's kind have to begin
pub want_kind_ends : {st : List Frame} → Stands ItemWords st → Completion (kind_inside st) (WantKind None) st
want_kind_ends {st = st} h = more (word w.Int here) (HaveKind None I32, st) (λ limits leaves. refl) (λ _. refl)
    (whole (item_kind_ends h I32))

pub global_guard_ends : (d : Bool) (items : List ItemTree) → Completion false (GlobalGuard d items) []
global_guard_ends d items =
    let frame = CellsKind (Guarded (at [] here)) d items in
    more some_name (Expect false sg.CloseParen (WantKind None), frame ∷ []) (λ limits leaves. refl) (λ _. refl)
    (more (sign sg.CloseParen here) (WantKind None, frame ∷ []) (λ limits leaves. refl) (λ _. refl)
    (more (word w.Int here) (HaveKind None I32, frame ∷ []) (λ limits leaves. refl) (λ _. refl)
    (whole (item_kind_ends (on_cells_kind _ d items) I32))))

pub have_held_ends : (o : Opening) (tys : List Ty) (xs : List (Option Ident)) (held : List Ident)
    (items : List ItemTree) → Completion false (HaveHeld o tys xs held items) []
have_held_ends o tys xs held items =
    more (sign sg.CloseParen here) (
      AfterHead o.name (form.Function o.ret tys (names_alone held)) o.defined xs
          (places_alone held) items,
      [],
    ) (λ limits leaves. refl) (λ _. refl) (item_ends _ _ (λ limits leaves. refl))
