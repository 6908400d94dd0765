-- What is spelled as a function up to its body is read as it.
use Rattle.std.proofs.Common.{◌≡◌, Bool, true, false, List, [], ◌∷◌, ◌++◌, Option, refl, ap, ◌∙◌, append_assoc}
use Rattle.cas_base.specs.declared.decl.Form.{Form}
use Rattle.cas_base.specs.declared.decl.Form.TheVariants as form
use Rattle.cas_base.specs.declared.kind.Ty.{Ty}
use Rattle.cas_base.specs.declared.place.Place.{Place}
use Rattle.cas_lex.specs.declared.token.Token.{Token}
use Rattle.cas_lex.specs.declared.token.TokenKind.{TokenKind}
use Rattle.cas_lex.specs.declared.token.TokenKind.TheVariants as k
use Rattle.cas_lex.specs.declared.token.Word.TheVariants as w
use Rattle.cas_lex.specs.declared.token.Sign.TheVariants as sg
use Rattle.cas_syntax.specs.declared.tree.Ident.{Ident}
use Rattle.cas_syntax.specs.Tree.{ItemTree}
use Rattle.cas_syntax.specs.Limits.{Limits}
use Rattle.cas_syntax.specs.Tokens.{sign}
use Rattle.cas_syntax.specs.Items.{SpellsNames, last_name, one_name, SpellsHolds, none_held, held, names_alone, places_alone, SpellsHead, head}
use Rattle.cas_parse.specs.Frames.{Opening, Frame, AfterParameters, WantHeld, AfterHead}
use Rattle.cas_parse.specs.Machine.{after_parameters, after_head, run}
use Rattle.cas_parse.proofs.CompleteNext.{next_is, alike}
use Rattle.cas_parse.proofs.CompleteLimits.{leaves}
use Rattle.cas_parse.proofs.CompleteReturns.{begins_item, begun_item, reads_return, return_item}
use Rattle.cas_parse.proofs.CompleteParameters.{reads_parameters}

-- whether the next token begins the locks that a function's caller holds
abbrev pub a_hold : TokenKind → Bool
a_hold (k.Word w.Holds) = true
a_hold kind = false

module _ (limits : Limits) where
  no_holds : (o : Opening) (tys : List Ty) (xs : List (Option Ident)) (items : List ItemTree) (st : List Frame)
      (r : List Token) → next_is a_hold r ≡ false
      → run limits r (AfterParameters o tys xs items) st ≡ run limits r
      (AfterHead o.name (form.Function o.ret tys []) o.defined xs [] items) st
  no_holds o tys xs items st r h = alike limits a_hold false (AfterParameters o tys xs items)
      (AfterHead o.name (form.Function o.ret tys []) o.defined xs [] items) st st refl by_kind r h
    where
      by_kind : (near leaves : Bool) (place : Place) (kind : TokenKind) → a_hold kind ≡ false
          → after_parameters limits near leaves o tys xs items st kind ≡ after_head limits near leaves o.name
          (form.Function o.ret tys []) o.defined xs [] items st kind
      by_kind near leaves place (k.Word w.Holds) h = cc
      by_kind near leaves place _ h = refl

  reads_names : {hs : List Ident} {q : Place} {s r : List Token} → SpellsNames hs s (sign sg.CloseParen q ∷ r)
      → (o : Opening) (tys : List Ty) (xs : List (Option Ident)) (before : List Ident) (items : List ItemTree)
      (st : List Frame)
      → run limits s (WantHeld o tys xs before items) st ≡ run limits r
      (AfterHead o.name (form.Function o.ret tys (names_alone (before ++ hs))) o.defined xs
      (places_alone (before ++ hs)) items) st
  reads_names (last_name x _) o tys xs before items st = refl
  reads_names {r = r} (one_name x hs p s _ h) o tys xs before items st =
      reads_names h o tys xs (before ++ x ∷ []) items st
      ∙ ap (λ all. run limits r (AfterHead o.name (form.Function o.ret tys (names_alone all)) o.defined xs
      (places_alone all) items) st) (append_assoc before (x ∷ []) hs)

  reads_holds : {hs : List Ident} {s r : List Token} → SpellsHolds hs s r →
      (o : Opening) (tys : List Ty) (xs : List (Option Ident)) (items : List ItemTree) (st : List Frame) →
      next_is a_hold r ≡ false
      → run limits s (AfterParameters o tys xs items) st ≡ run limits r
      (AfterHead o.name (form.Function o.ret tys (names_alone hs)) o.defined xs (places_alone hs) items) st
  reads_holds (none_held r) o tys xs items st ends = no_holds o tys xs items st r ends
  reads_holds (held hs p q q' s r h) o tys xs items st ends = reads_names h o tys xs [] items st

  pub reads_head : {x : Ident} {f : Form} {xs : List (Option Ident)} {hs : List Place} {s r : List Token} →
      SpellsHead limits x f xs hs s r → (d : Bool) (items : List ItemTree) (st : List Frame) → next_is a_hold r ≡ false
      → begun_item limits d items s st ≡ run limits r (AfterHead x f d xs hs items) st
  reads_head (head x ret tys xs holds p q s t v r hret hparams hholds) d items st ends =
      reads_return limits hret d items st
      ∙ reads_parameters limits hparams (record { defined = d; ret = ret; name = x }) items st
      ∙ reads_holds hholds (record { defined = d; ret = ret; name = x }) tys xs items st ends

pub head_item : {limits : Limits} {x : Ident} {f : Form} {xs : List (Option Ident)} {hs : List Place}
    {s r : List Token} → SpellsHead limits x f xs hs s r → next_is begins_item s ≡ true
head_item (head x ret tys xs holds p q s t v r hret hparams hholds) = return_item hret
