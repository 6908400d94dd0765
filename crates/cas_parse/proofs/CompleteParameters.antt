-- What is spelled as the parameters of a function is read as them.
use Rattle.std.proofs.Common.{◌≡◌, Bool, true, false, List, [], ◌∷◌, ◌++◌, Option, Some, None, refl, ap, ◌∙◌, append_assoc}
use Rattle.cas_base.specs.declared.kind.Kind.{Kind}
use Rattle.cas_base.specs.declared.kind.Ty.{Ty}
use Rattle.cas_base.specs.declared.kind.Ty.TheVariants.{Int, Ptr}
use Rattle.cas_base.specs.declared.place.Place.{Place}
use Rattle.cas_lex.specs.declared.token.Token.{Token}
use Rattle.cas_lex.specs.declared.token.TokenKind.{TokenKind}
use Rattle.cas_lex.specs.declared.token.TokenKind.TheVariants as k
use Rattle.cas_lex.specs.declared.token.Word.TheVariants as w
use Rattle.cas_lex.specs.declared.token.Sign.TheVariants as sg
use Rattle.cas_syntax.specs.declared.tree.Ident.{Ident}
use Rattle.cas_syntax.specs.Tree.{ItemTree}
use Rattle.cas_syntax.specs.Limits.{Limits}
use Rattle.cas_syntax.specs.Tokens.{sign}
use Rattle.cas_syntax.specs.Items.{SpellsType, integer, pointer, pointer_to_pointer, SpellsParameter, unnamed, named, unnamed_array, named_array, SpellsParameterList, last_parameter, one_parameter, SpellsParameters, nothing, void, parameters}
use Rattle.cas_parse.specs.Frames.{Opening, Frame, ParameterKind, WantKind, HaveKind, WantParameters, WantParameter, ParameterStar, ParameterType, ParameterName, HaveParameter, AfterParameters}
use Rattle.cas_parse.specs.Machine.{begins_kind, want_kind, want_parameters, parameter_kind, parameter_star, parameter_typed, parameter_ended, run}
use Rattle.cas_parse.proofs.CompleteReturns.{type_begins}
use Rattle.cas_parse.proofs.CompleteNext.{next_is, next_is-so, next_is-not, alike}
use Rattle.cas_parse.proofs.CompleteKinds.{reads_kind}
use Rattle.cas_parse.proofs.CompleteLimits.{leaves}

-- what may follow a type
abbrev follows_type : TokenKind → Bool
follows_type (k.Name n) = true
follows_type (k.Sign sg.OpenBracket) = true
follows_type (k.Sign sg.Comma) = true
follows_type (k.Sign sg.CloseParen) = true
follows_type kind = false

-- what may follow a parameter
abbrev follows_parameter : TokenKind → Bool
follows_parameter (k.Sign sg.Comma) = true
follows_parameter (k.Sign sg.CloseParen) = true
follows_parameter kind = false

parts_follow : (kind : TokenKind) → follows_parameter kind ≡ true → follows_type kind ≡ true
parts_follow (k.Sign sg.Comma) h = refl
parts_follow (k.Sign sg.CloseParen) h = refl
parts_follow _ h = cc

parts-follow : (r : List Token) → next_is follows_parameter r ≡ true → next_is follows_type r ≡ true
parts-follow r h = next_is-so follows_parameter follows_type parts_follow r h

type_no_kind : (kind : TokenKind) → follows_type kind ≡ true → begins_kind kind ≡ false
type_no_kind (k.Word one) h = cc
type_no_kind _ h = refl

follows_no_kind : (r : List Token) → next_is follows_type r ≡ true → next_is begins_kind r ≡ false
follows_no_kind r h = next_is-not follows_type begins_kind type_no_kind r h

parameter_begins : {limits : Limits} {ty : Ty} {x : Option Ident} {s r : List Token} → SpellsParameter limits ty x s r →
    next_is begins_kind s ≡ true
parameter_begins (unnamed ty s r h) = type_begins h
parameter_begins (named ty x s r h) = type_begins h
parameter_begins (unnamed_array ty p s r out h) = type_begins h
parameter_begins (named_array ty x p s r out h) = type_begins h

module _ (limits : Limits) where
  -- types

  is_integer : (o : Opening) (tys : List Ty) (xs : List (Option Ident)) (kd : Kind) (items : List ItemTree)
      (st : List Frame) (r : List Token) → next_is follows_type r ≡ true
      → run limits r (HaveKind None kd) (ParameterKind o tys xs items ∷ st) ≡ run limits r
      (ParameterType o tys xs (Int kd) items) st
  is_integer o tys xs kd items st r h = alike limits follows_type true (HaveKind None kd)
      (ParameterType o tys xs (Int kd) items) (ParameterKind o tys xs items ∷ st) st refl by_kind r h
    where
      by_kind : (near leaves : Bool) (place : Place) (kind : TokenKind) → follows_type kind ≡ true
          → parameter_kind limits near leaves o tys xs kd items st place kind ≡ parameter_typed limits near leaves o tys
          xs (Int kd) items st place kind
      by_kind near leaves place (k.Sign sg.Star) h = cc
      by_kind near leaves place _ h = refl

  is_pointer : (o : Opening) (tys : List Ty) (xs : List (Option Ident)) (kd : Kind) (items : List ItemTree)
      (st : List Frame) (r : List Token) → next_is follows_type r ≡ true
      → run limits r (ParameterStar o tys xs kd items) st ≡ run limits r (ParameterType o tys xs (Ptr kd) items) st
  is_pointer o tys xs kd items st r h = alike limits follows_type true (ParameterStar o tys xs kd items)
      (ParameterType o tys xs (Ptr kd) items) st st refl by_kind r h
    where
      by_kind : (near leaves : Bool) (place : Place) (kind : TokenKind) → follows_type kind ≡ true
          → parameter_star limits near leaves o tys xs kd items st place kind ≡ parameter_typed limits near leaves o tys
          xs (Ptr kd) items st place kind
      by_kind near leaves place (k.Sign sg.Star) h = cc
      by_kind near leaves place _ h = refl

  reads_type : {ty : Ty} {s r : List Token} → SpellsType limits ty s r →
      (o : Opening) (tys : List Ty) (xs : List (Option Ident)) (items : List ItemTree) (st : List Frame) →
      next_is follows_type r ≡ true
      → run limits s (WantKind None) (ParameterKind o tys xs items ∷ st) ≡ run limits r
      (ParameterType o tys xs ty items) st
  reads_type (integer kd s r h) o tys xs items st ends =
      reads_kind limits h (ParameterKind o tys xs items ∷ st) (follows_no_kind r ends)
      ∙ is_integer o tys xs kd items st r ends
  reads_type (pointer kd p s r h) o tys xs items st ends = reads_kind limits h (ParameterKind o tys xs items ∷ st) refl
      ∙ is_pointer o tys xs kd items st r ends
  reads_type (pointer_to_pointer kd p q s r out h) o tys xs items st ends =
      reads_kind limits h (ParameterKind o tys xs items ∷ st) refl ∙ rw (leaves limits r out)

  -- a parameter

  is_named : (o : Opening) (tys : List Ty) (xs : List (Option Ident)) (ty : Ty) (x : Ident) (items : List ItemTree)
      (st : List Frame) (r : List Token)
      → run limits r (ParameterName o tys xs ty x items) st ≡ run limits r
      (HaveParameter o (tys ++ ty ∷ []) (xs ++ Some x ∷ []) items) st
  is_named o tys xs ty x items st [] = refl
  is_named o tys xs ty x items st (t ∷ ts) = refl

  is_unnamed : (o : Opening) (tys : List Ty) (xs : List (Option Ident)) (ty : Ty) (items : List ItemTree)
      (st : List Frame) (r : List Token) → next_is follows_parameter r ≡ true
      → run limits r (ParameterType o tys xs ty items) st ≡ run limits r
      (HaveParameter o (tys ++ ty ∷ []) (xs ++ None ∷ []) items) st
  is_unnamed o tys xs ty items st r h = alike limits follows_parameter true (ParameterType o tys xs ty items)
      (HaveParameter o (tys ++ ty ∷ []) (xs ++ None ∷ []) items) st st refl by_kind r h
    where
      by_kind : (near leaves : Bool) (place : Place) (kind : TokenKind) → follows_parameter kind ≡ true
          → parameter_typed limits near leaves o tys xs ty items st place kind ≡ parameter_ended limits near leaves o
          (tys ++ ty ∷ []) (xs ++ None ∷ []) items st kind
      by_kind near leaves place (k.Name n) h = cc
      by_kind near leaves place _ h = refl

  reads_parameter : {ty : Ty} {x : Option Ident} {s r : List Token} → SpellsParameter limits ty x s r →
      (o : Opening) (tys : List Ty) (xs : List (Option Ident)) (items : List ItemTree) (st : List Frame) →
      next_is follows_parameter r ≡ true
      → run limits s (WantKind None) (ParameterKind o tys xs items ∷ st) ≡ run limits r
      (HaveParameter o (tys ++ ty ∷ []) (xs ++ x ∷ []) items) st
  reads_parameter (unnamed ty s r h) o tys xs items st ends = reads_type h o tys xs items st (parts-follow r ends)
      ∙ is_unnamed o tys xs ty items st r ends
  reads_parameter (named ty x s r h) o tys xs items st ends = reads_type h o tys xs items st refl
      ∙ is_named o tys xs ty x items st r
  reads_parameter (unnamed_array ty p s r out h) o tys xs items st ends = reads_type h o tys xs items st refl
      ∙ rw (leaves limits r out)
  reads_parameter (named_array ty x p s r out h) o tys xs items st ends = reads_type h o tys xs items st refl
      ∙ rw (leaves limits r out)

  -- parameters

  goes_on : (o : Opening) (tys : List Ty) (xs : List (Option Ident)) (items : List ItemTree) (st : List Frame)
      (r : List Token)
      → run limits r (WantParameter o tys xs items) st ≡ run limits r (WantKind None)
      (ParameterKind o tys xs items ∷ st)
  goes_on o tys xs items st [] = refl
  goes_on o tys xs items st (t ∷ ts) = refl

  reads_list : {tys : List Ty} {xs : List (Option Ident)} {q : Place} {s r : List Token} →
      SpellsParameterList limits tys xs s (sign sg.CloseParen q ∷ r)
      → (o : Opening) (before : List Ty) (names : List (Option Ident)) (items : List ItemTree) (st : List Frame)
      → run limits s (WantKind None) (ParameterKind o before names items ∷ st) ≡ run limits r
      (AfterParameters o (before ++ tys) (names ++ xs) items) st
  reads_list (last_parameter ty x s _ h) o before names items st = reads_parameter h o before names items st refl
  reads_list {r = r} (one_parameter ty tys x xs p s t _ h hs) o before names items st =
      reads_parameter h o before names items st refl
      ∙ goes_on o (before ++ ty ∷ []) (names ++ x ∷ []) items st t
      ∙ reads_list hs o (before ++ ty ∷ []) (names ++ x ∷ []) items st
      ∙ ap (λ all. run limits r (AfterParameters o all ((names ++ x ∷ []) ++ xs) items) st)
      (append_assoc before (ty ∷ []) tys)
      ∙ ap (λ all. run limits r (AfterParameters o (before ++ ty ∷ tys) all items) st) (append_assoc names (x ∷ []) xs)

  begins_list : {tys : List Ty} {xs : List (Option Ident)} {s r : List Token} → SpellsParameterList limits tys xs s r →
      next_is begins_kind s ≡ true
  begins_list (last_parameter ty x s r h) = parameter_begins h
  begins_list (one_parameter ty tys x xs p s t r h hs) = parameter_begins h

  starts_list : (o : Opening) (items : List ItemTree) (st : List Frame) (s : List Token) → next_is begins_kind s ≡ true
      → run limits s (WantParameters o items) st ≡ run limits s (WantKind None) (ParameterKind o [] [] items ∷ st)
  starts_list o items st s h = alike limits begins_kind true (WantParameters o items) (WantKind None) st
      (ParameterKind o [] [] items ∷ st) refl by_kind s h
    where
      by_kind : (near leaves : Bool) (place : Place) (kind : TokenKind) → begins_kind kind ≡ true
          → want_parameters limits near leaves o items st kind ≡ want_kind limits near leaves None
          (ParameterKind o [] [] items ∷ st) kind
      by_kind near leaves place (k.Word w.Void) h = cc
      by_kind near leaves place (k.Word _) h = refl
      by_kind near leaves place _ h = cc

  pub reads_parameters : {tys : List Ty} {xs : List (Option Ident)} {q : Place} {s r : List Token} →
      SpellsParameters limits tys xs s (sign sg.CloseParen q ∷ r) →
      (o : Opening) (items : List ItemTree) (st : List Frame)
      → run limits s (WantParameters o items) st ≡ run limits r (AfterParameters o tys xs items) st
  reads_parameters (nothing _) o items st = refl
  reads_parameters (void p _) o items st = refl
  reads_parameters (parameters tys xs s _ h) o items st = starts_list o items st s (begins_list h)
      ∙ reads_list h o [] [] items st
