-- Each token at the words of a kind leads to a valid state, and its fault is the one that the machine names.
use Rattle.std.proofs.Common.{◌≡◌, ℕ, inl, inr, Bool, true, false, List, [], ◌∷◌, ◌++◌, Option, Some, None, Ok, refl, arith}
use Rattle.cas_base.specs.declared.kind.Kind.{Kind}
use Rattle.cas_base.specs.declared.kind.Kind.TheVariants.{I8, U8, I16, U16, I32, U32}
use Rattle.cas_base.specs.declared.kind.Ty.{Ty}
use Rattle.cas_base.specs.declared.kind.Ty.TheVariants.{Int}
use Rattle.cas_base.specs.declared.place.Place.{Place}
use Rattle.cas_lex.specs.declared.token.TokenKind.{TokenKind}
use Rattle.cas_lex.specs.declared.token.TokenKind.TheVariants as k
use Rattle.cas_lex.specs.declared.token.Word.TheVariants as w
use Rattle.cas_lex.specs.declared.token.Sign.TheVariants as sg
use Rattle.cas_syntax.specs.declared.tree.Ident.{Ident}
use Rattle.cas_syntax.specs.Limits.{Limits}
use Rattle.cas_syntax.specs.Tree.{ItemTree}
use Rattle.cas_parse.specs.Frames.{Casts, Opening, Data}
use Rattle.cas_parse.specs.Frames.{Frame, Locals, FirstLocal}
use Rattle.cas_parse.specs.Frames.{Control, Signed, Unsigned, MayEndInt, HaveKind}
use Rattle.cas_parse.specs.Frames.{HaveParameter}
use Rattle.cas_parse.proofs.Valid.{CastWords, LocalWords, ItemWords, ALocal, Stands, on_before, on_cast, on_locals_kind, on_first_kind, on_return_kind, on_parameter_kind, on_cells_kind, on_locals, on_first_local, kind_inside, is_inside, AwaitsKind, Valid, is_items, Stays, Judged, goes_on, refused}
use Rattle.cas_parse.specs.Machine.{begins_kind, next, local_started, parameter_ended, parameter_typed, function_named, return_kind, parameter_kind, cells_kind, counted_in, down_kind, want_kind, after_signed, after_unsigned, may_end_int}
use Rattle.cas_parse.proofs.ViableExpressions.{Fits, comes, wrong_fits, outside_fits, require_fits, counted_fits, counted_in_fits, leave_fits}

-- a step outside a function's body
pub goes : {kind : TokenKind} {o : Control × List Frame} → Valid o.0 o.1 → Stays false kind o.0 o.1 →
    Judged false kind (Ok o) (Ok o) (Ok o)
goes {o = o} v s = goes_on o (record { valid = v; stays = s })

pub local_started_fits : (kd : Kind) (st : List Frame) (p : Place) (kind : TokenKind) → Stands ALocal st →
    Fits true kind (λ near leaves. local_started kd st p kind)
local_started_fits kd st p (k.Name n) h = comes h
local_started_fits kd st p (k.Sign sg.Star) h = comes h
local_started_fits kd st p kind h = wrong_fits kind

-- a token of a state that ends no item leaves it where it is, inside or outside
pub stays_there : (i : Bool) (kind : TokenKind) (c : Control) (st : List Frame) → is_inside c st ≡ i →
    is_items c ≡ false → Stays i kind c st
stays_there true kind c st i e = tt
stays_there false kind c st i e = by_kind kind
  where
    by_kind : (kind : TokenKind) → Stays false kind c st
    by_kind (k.Sign sg.OpenBrace) = tt
    by_kind (k.Sign sg.CloseBrace) = (i, e)
    by_kind _ = i

awaits_next : (b : Option ℕ) (st : List Frame) → AwaitsKind b st → AwaitsKind (next b) st
awaits_next None st h = h
awaits_next (Some n) st h = h

module _ (limits : Limits) where
  -- a token behind a parameter, behind its type, and behind the kind of that

  pub parameter_ended_fits : (o : Opening) (tys : List Ty) (xs : List (Option Ident)) (items : List ItemTree)
      (kind : TokenKind) →
      Fits false kind (λ near leaves. parameter_ended limits near leaves o tys xs items [] kind)
  parameter_ended_fits o tys xs items (k.Sign sg.Comma) = goes refl refl
  parameter_ended_fits o tys xs items (k.Sign sg.CloseParen) = goes refl refl
  parameter_ended_fits o tys xs items (k.Sign sg.OpenBracket) =
      leave_fits limits (HaveParameter o tys xs items) [] refl refl
  parameter_ended_fits o tys xs items kind = outside_fits kind

  pub parameter_typed_fits : (o : Opening) (tys : List Ty) (xs : List (Option Ident)) (ty : Ty) (items : List ItemTree)
      (p : Place) (kind : TokenKind) →
      Fits false kind (λ near leaves. parameter_typed limits near leaves o tys xs ty items [] p kind)
  parameter_typed_fits o tys xs ty items p (k.Name n) = goes refl refl
  parameter_typed_fits o tys xs ty items p kind = parameter_ended_fits o (tys ++ ty ∷ []) (xs ++ None ∷ []) items kind

  pub function_named_fits : (d : Bool) (ty : Ty) (items : List ItemTree) (p : Place) (kind : TokenKind) →
      Fits false kind (λ near leaves. function_named limits near leaves d ty items [] p kind)
  function_named_fits d ty items p (k.Name n) = goes refl refl
  function_named_fits d ty items p kind = outside_fits kind

  return_kind_fits : (d : Bool) (kd : Kind) (items : List ItemTree) (p : Place) (kind : TokenKind) →
      Fits false kind (λ near leaves. return_kind limits near leaves d kd items [] p kind)
  return_kind_fits d kd items p (k.Sign sg.Star) = goes refl refl
  return_kind_fits d kd items p kind = function_named_fits d (Int kd) items p kind

  parameter_kind_fits : (o : Opening) (tys : List Ty) (xs : List (Option Ident)) (kd : Kind) (items : List ItemTree)
      (p : Place) (kind : TokenKind) →
      Fits false kind (λ near leaves. parameter_kind limits near leaves o tys xs kd items [] p kind)
  parameter_kind_fits o tys xs kd items p (k.Sign sg.Star) = goes refl refl
  parameter_kind_fits o tys xs kd items p kind = parameter_typed_fits o tys xs (Int kd) items p kind

  cells_kind_fits : (d : Data) (items : List ItemTree) (p : Place) (kind : TokenKind) →
      Fits false kind (λ near leaves. cells_kind limits near leaves d items [] p kind)
  cells_kind_fits d items p (k.Name n) = goes refl refl
  cells_kind_fits d items p kind = outside_fits kind

  -- a token behind the words of a kind, by what awaits them

  cast_down_fits : {st : List Frame} → Stands CastWords st → (b : ℕ) (kd : Kind) (p : Place) (kind : TokenKind) →
      Fits (kind_inside st) kind (λ near leaves. down_kind limits near leaves (Some b) kd st p kind)
  cast_down_fits (on_cast l st f h) b kd p kind = require_fits sg.CloseParen kind _ _ _
      (counted_fits limits b (comes (omega arith, on_before l (Casts kd) st f h)))

  local_down_fits : {st : List Frame} → Stands LocalWords st → (kd : Kind) (p : Place) (kind : TokenKind) →
      Fits (kind_inside st) kind (λ near leaves. down_kind limits near leaves None kd st p kind)
  local_down_fits (on_locals_kind n bs st h) kd p kind =
      local_started_fits kd (Locals n kd bs ∷ st) p kind (on_locals n kd bs st h)
  local_down_fits (on_first_kind n q st h) kd p kind =
      local_started_fits kd (FirstLocal n q ∷ st) p kind (on_first_local n q st h)

  item_down_fits : {st : List Frame} → Stands ItemWords st → (kd : Kind) (p : Place) (kind : TokenKind) →
      Fits (kind_inside st) kind (λ near leaves. down_kind limits near leaves None kd st p kind)
  item_down_fits (on_return_kind d items) kd p kind = return_kind_fits d kd items p kind
  item_down_fits (on_parameter_kind o tys xs items) kd p kind = parameter_kind_fits o tys xs kd items p kind
  item_down_fits (on_cells_kind s d items) kd p kind =
      cells_kind_fits (record { sort = s; defined = d; kind = kd }) items p kind

  pub down_kind_fits : (b : Option ℕ) (kd : Kind) (st : List Frame) (p : Place) (kind : TokenKind) → AwaitsKind b st →
      Fits (kind_inside st) kind (λ near leaves. down_kind limits near leaves b kd st p kind)
  down_kind_fits (Some b) kd st p kind h = cast_down_fits h b kd p kind
  down_kind_fits None kd st p kind (inl h) = local_down_fits h kd p kind
  down_kind_fits None kd st p kind (inr h) = item_down_fits h kd p kind

  -- a further word of a kind
  further : (b : Option ℕ) (c : Control) (st : List Frame) (kind : TokenKind) → Valid c st →
      is_inside c st ≡ kind_inside st → is_items c ≡ false →
      Fits (kind_inside st) kind (λ near leaves. counted_in limits near leaves b (Ok (c, st)))
  further b c st kind v i e = counted_in_fits limits b
      (goes_on (c, st) (record { valid = v; stays = stays_there (kind_inside st) kind c st i e }))

  pub want_kind_fits : (b : Option ℕ) (st : List Frame) (kind : TokenKind) → AwaitsKind b st →
      (begins_kind kind ≡ false → kind_inside st ≡ false) →
      Fits (kind_inside st) kind (λ near leaves. want_kind limits near leaves b st kind)
  want_kind_fits b st (k.Word w.Char) h e = further b (HaveKind (next b) I8) st (k.Word w.Char) (awaits_next b st h)
      refl refl
  want_kind_fits b st (k.Word w.Short) h e = further b (MayEndInt (next b) I16) st (k.Word w.Short) (awaits_next b st h)
      refl refl
  want_kind_fits b st (k.Word w.Int) h e = further b (HaveKind (next b) I32) st (k.Word w.Int) (awaits_next b st h)
      refl refl
  want_kind_fits b st (k.Word w.Unsigned) h e = further b (Unsigned (next b)) st (k.Word w.Unsigned)
      (awaits_next b st h) refl refl
  want_kind_fits b st (k.Word w.Signed) h e = further b (Signed (next b)) st (k.Word w.Signed) (awaits_next b st h)
      refl refl
  want_kind_fits b st kind h e = refused (λ i _. let o : kind_inside st ≡ false = e refl in cc)

  pub after_signed_fits : (b : Option ℕ) (st : List Frame) (p : Place) (kind : TokenKind) → AwaitsKind b st →
      Fits (kind_inside st) kind (λ near leaves. after_signed limits near leaves b st p kind)
  after_signed_fits b st p (k.Word w.Char) h = further b (HaveKind (next b) I8) st (k.Word w.Char) (awaits_next b st h)
      refl refl
  after_signed_fits b st p (k.Word w.Short) h = further b (MayEndInt (next b) I16) st (k.Word w.Short)
      (awaits_next b st h) refl refl
  after_signed_fits b st p (k.Word w.Int) h = further b (HaveKind (next b) I32) st (k.Word w.Int) (awaits_next b st h)
      refl refl
  after_signed_fits b st p kind h = down_kind_fits b I32 st p kind h

  pub after_unsigned_fits : (b : Option ℕ) (st : List Frame) (p : Place) (kind : TokenKind) → AwaitsKind b st →
      Fits (kind_inside st) kind (λ near leaves. after_unsigned limits near leaves b st p kind)
  after_unsigned_fits b st p (k.Word w.Char) h = further b (HaveKind (next b) U8) st (k.Word w.Char)
      (awaits_next b st h) refl refl
  after_unsigned_fits b st p (k.Word w.Short) h = further b (MayEndInt (next b) U16) st (k.Word w.Short)
      (awaits_next b st h) refl refl
  after_unsigned_fits b st p (k.Word w.Int) h = further b (HaveKind (next b) U32) st (k.Word w.Int) (awaits_next b st h)
      refl refl
  after_unsigned_fits b st p kind h = down_kind_fits b U32 st p kind h

  pub may_end_int_fits : (b : Option ℕ) (kd : Kind) (st : List Frame) (p : Place) (kind : TokenKind) → AwaitsKind b st →
      Fits (kind_inside st) kind (λ near leaves. may_end_int limits near leaves b kd st p kind)
  may_end_int_fits b kd st p (k.Word w.Int) h = further b (HaveKind (next b) kd) st (k.Word w.Int) (awaits_next b st h)
      refl refl
  may_end_int_fits b kd st p kind h = down_kind_fits b kd st p kind h
