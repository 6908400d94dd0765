-- How items begin, and what functions return.
use Rattle.std.proofs.Common.{◌≡◌, Bool, true, false, nat_lt, List, [], ◌∷◌, length, None, refl, ap, ◌∙◌}
use Rattle.cas_base.specs.declared.kind.Ty.{Ty}
use Rattle.cas_lex.specs.declared.token.Token.{Token}
use Rattle.cas_lex.specs.declared.token.TokenKind.{TokenKind}
use Rattle.cas_lex.specs.declared.token.TokenKind.TheVariants as k
use Rattle.cas_lex.specs.declared.token.Word.TheVariants as w
use Rattle.cas_syntax.specs.declared.tree.Ident.{Ident}
use Rattle.cas_syntax.specs.Tree.{ItemTree}
use Rattle.cas_syntax.specs.Limits.{Limits}
use Rattle.cas_syntax.specs.Tokens.{ident}
use Rattle.cas_syntax.specs.Items.{SpellsExtern, here, elsewhere, SpellsType, integer, pointer, pointer_to_pointer, SpellsReturn, no_value, a_value}
use Rattle.cas_parse.specs.Frames.{Frame, ReturnKind, WantKind, InItems, AfterExtern, FunctionName}
use Rattle.cas_parse.specs.Machine.{is_at, begins_kind, item_started, in_items, want_kind, run, go, Verdict}
use Rattle.cas_parse.proofs.CompleteNext.{next_is, next_is-so}
use Rattle.cas_parse.proofs.CompleteKinds.{begins_with_kind, reads_kind}
use Rattle.cas_parse.proofs.CompleteLimits.{leaves}

-- what an item begins with, but for `extern`
abbrev pub begins_item : TokenKind → Bool
begins_item (k.Word w.Lock) = true
begins_item (k.Word w.Shared) = true
begins_item (k.Word w.Const) = true
begins_item (k.Word w.Void) = true
begins_item kind = begins_kind kind

kind_item : (kind : TokenKind) → begins_kind kind ≡ true → begins_item kind ≡ true
kind_item (k.Word w.Lock) h = refl
kind_item (k.Word w.Shared) h = refl
kind_item (k.Word w.Const) h = refl
kind_item (k.Word w.Void) h = refl
kind_item _ h = h

pub type_begins : {limits : Limits} {ty : Ty} {s r : List Token} → SpellsType limits ty s r →
    next_is begins_kind s ≡ true
type_begins (integer kd s r h) = begins_with_kind h
type_begins (pointer kd p s r h) = begins_with_kind h
type_begins (pointer_to_pointer kd p q s r out h) = begins_with_kind h

pub return_item : {limits : Limits} {ty : Ty} {s r : List Token} → SpellsReturn limits ty s r →
    next_is begins_item s ≡ true
return_item (no_value p r) = refl
return_item (a_value ty s r h) = next_is-so begins_kind begins_item kind_item s (type_begins h)

module _ (limits : Limits) where
  -- what may be an item behind `extern` or none, where these tokens stand
  abbrev pub begun_item : (defined : Bool) → List ItemTree → List Token → List Frame → Verdict
  begun_item d items [] st = run limits [] (AfterExtern items) st
  begun_item d items (t ∷ ts) st = go (run limits ts) (length ts)
      (item_started limits (nat_lt (length ts) limits.cut) (is_at limits.left_out (length ts)) d items st t.kind)

  pub reads_extern : {d : Bool} {s t : List Token} → SpellsExtern d s t → (items : List ItemTree) (st : List Frame) →
      next_is begins_item t ≡ true
      → run limits s (InItems items) st ≡ begun_item d items t st
  reads_extern (elsewhere p r) items st h = by_rest r
    where
      by_rest : (r : List Token) → run limits r (AfterExtern items) st ≡ begun_item false items r st
      by_rest [] = refl
      by_rest (t ∷ ts) = refl
  reads_extern (here []) items st h = cc
  reads_extern (here (t ∷ ts)) items st h = ap (go (run limits ts) (length ts))
      (by_kind (nat_lt (length ts) limits.cut) (is_at limits.left_out (length ts)) t.kind h)
    where
      by_kind : (near leaves : Bool) (kind : TokenKind) → begins_item kind ≡ true
          → in_items limits near leaves items st kind ≡ item_started limits near leaves true items st kind
      by_kind near leaves (k.Word w.Extern) h = cc
      by_kind near leaves _ h = refl

  begins_return : (d : Bool) (items : List ItemTree) (st : List Frame) (s : List Token) → next_is begins_kind s ≡ true
      → begun_item d items s st ≡ run limits s (WantKind None) (ReturnKind d items ∷ st)
  begins_return d items st [] h = cc
  begins_return d items st (t ∷ ts) h = ap (go (run limits ts) (length ts))
      (by_kind (nat_lt (length ts) limits.cut) (is_at limits.left_out (length ts)) t.kind h)
    where
      by_kind : (near leaves : Bool) (kind : TokenKind) → begins_kind kind ≡ true
          → item_started limits near leaves d items st kind ≡ want_kind limits near leaves None
          (ReturnKind d items ∷ st) kind
      by_kind near leaves (k.Word w.Lock) h = cc
      by_kind near leaves (k.Word w.Shared) h = cc
      by_kind near leaves (k.Word w.Const) h = cc
      by_kind near leaves (k.Word w.Void) h = cc
      by_kind near leaves _ h = refl

  reads_return_type : {ty : Ty} {x : Ident} {s r : List Token} → SpellsType limits ty s (ident x ∷ r) →
      (d : Bool) (items : List ItemTree) (st : List Frame)
      → run limits s (WantKind None) (ReturnKind d items ∷ st) ≡ run limits r
      (FunctionName (record { defined = d; ret = ty; name = x }) items) st
  reads_return_type (integer kd s _ h) d items st = reads_kind limits h (ReturnKind d items ∷ st) refl
  reads_return_type (pointer kd p s _ h) d items st = reads_kind limits h (ReturnKind d items ∷ st) refl
  reads_return_type {x = x} {r = r} (pointer_to_pointer kd p q s _ out h) d items st =
      reads_kind limits h (ReturnKind d items ∷ st) refl
      ∙ rw (leaves limits (ident x ∷ r) out)

  pub reads_return : {ty : Ty} {x : Ident} {s r : List Token} → SpellsReturn limits ty s (ident x ∷ r) →
      (d : Bool) (items : List ItemTree) (st : List Frame)
      → begun_item d items s st ≡ run limits r (FunctionName (record { defined = d; ret = ty; name = x }) items) st
  reads_return (no_value p _) d items st = refl
  reads_return (a_value ty s _ h) d items st = begins_return d items st s (type_begins h)
      ∙ reads_return_type h d items st
