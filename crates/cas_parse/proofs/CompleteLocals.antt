-- What is spelled as a local is read as it.
use Rattle.std.proofs.Common.{◌≡◌, ℕ, ◌<◌, Bool, true, false, List, [], ◌∷◌, refl, ◌∙◌}
use Rattle.cas_base.specs.declared.kind.Kind.{Kind}
use Rattle.cas_base.specs.declared.kind.Ty.{Ty}
use Rattle.cas_base.specs.declared.kind.Ty.TheVariants.{Int, Ptr, Array}
use Rattle.cas_lex.specs.declared.token.Token.{Token}
use Rattle.cas_lex.specs.declared.token.TokenKind.{TokenKind}
use Rattle.cas_lex.specs.declared.token.TokenKind.TheVariants as k
use Rattle.cas_lex.specs.declared.token.Sign.TheVariants as sg
use Rattle.cas_syntax.specs.declared.tree.Ident.{Ident}
use Rattle.cas_syntax.specs.Tree.{ExprTree, InitTree, nothing, value, StmtTree, declare}
use Rattle.cas_syntax.specs.Limits.{Limits}
use Rattle.cas_syntax.specs.Expressions.{SpellsExpr}
use Rattle.cas_syntax.specs.Statements.{SpellsInit, no_value, a_value, a_result, SpellsLocal, variable, pointer, array, pointer_to_pointer, pointers, arrays, array_values}
use Rattle.cas_parse.specs.Frames.{Begun, Keeps, Frame, ValueOf, WantOutermost, Given, WantLocal, LocalName, LocalPointer, LocalArray, HaveLocal}
use Rattle.cas_parse.specs.Machine.{local_name, local_pointer, local_array, local_ended, run, begins_kind}
use Rattle.cas_parse.proofs.CompleteNext.{next_is, alike}
use Rattle.cas_parse.proofs.CompleteLimits.{leaves}
use Rattle.cas_parse.proofs.CompleteExprs.{reads_outermost, is_ending}
use Rattle.cas_parse.proofs.CompleteSimple.{names, ends-names, values, calls_value, reads_arguments}
use Rattle.cas_base.specs.declared.place.Place.{Place}

module _ (limits : Limits) where
  -- where neither a length nor a value follows, the local ends

  is_variable : (kd : Kind) (x : Ident) (st : List Frame) (r : List Token) → next_is names r ≡ false
      → run limits r (LocalName kd x) st ≡ run limits r (HaveLocal (declare x.place (Int kd) x nothing)) st
  is_variable kd x st r h = alike limits names false (LocalName kd x) (HaveLocal (declare x.place (Int kd) x nothing))
      st st refl by_kind r h
    where
      by_kind : (near leaves : Bool) (place : Place) (kind : TokenKind) → names kind ≡ false
          → local_name limits near leaves kd x st kind ≡ local_ended (declare x.place (Int kd) x nothing) st kind
      by_kind near leaves place (k.Sign sg.OpenBracket) h = cc
      by_kind near leaves place (k.Sign sg.Equal) h = cc
      by_kind near leaves place _ h = refl

  is_pointer : (kd : Kind) (x : Ident) (st : List Frame) (r : List Token) → next_is names r ≡ false
      → run limits r (LocalPointer kd x) st ≡ run limits r (HaveLocal (declare x.place (Ptr kd) x nothing)) st
  is_pointer kd x st r h = alike limits names false (LocalPointer kd x) (HaveLocal (declare x.place (Ptr kd) x nothing))
      st st refl by_kind r h
    where
      by_kind : (near leaves : Bool) (place : Place) (kind : TokenKind) → names kind ≡ false
          → local_pointer limits near leaves kd x st kind ≡ local_ended (declare x.place (Ptr kd) x nothing) st kind
      by_kind near leaves place (k.Sign sg.OpenBracket) h = cc
      by_kind near leaves place (k.Sign sg.Equal) h = cc
      by_kind near leaves place _ h = refl

  is_array : (kd : Kind) (x : Ident) (n : ℕ) (st : List Frame) (r : List Token) → next_is names r ≡ false
      → run limits r (LocalArray kd x n) st ≡ run limits r (HaveLocal (declare x.place (Array kd n) x nothing)) st
  is_array kd x n st r h = alike limits names false (LocalArray kd x n)
      (HaveLocal (declare x.place (Array kd n) x nothing)) st st refl by_kind r h
    where
      by_kind : (near leaves : Bool) (place : Place) (kind : TokenKind) → names kind ≡ false
          → local_array limits near leaves kd x n st kind ≡ local_ended (declare x.place (Array kd n) x nothing) st kind
      by_kind near leaves place (k.Sign sg.OpenBracket) h = cc
      by_kind near leaves place (k.Sign sg.Equal) h = cc
      by_kind near leaves place _ h = refl

  begins_with : (ty : Ty) (x : Ident) (a : ExprTree) (s r : List Token) → SpellsExpr limits a s r → (st : List Frame) →
      next_is is_ending r ≡ true
      → run limits s WantOutermost (ValueOf (Begun ty x) ∷ st) ≡ run limits r
      (HaveLocal (declare x.place ty x (value a))) st
  begins_with ty x a s r h st ends = reads_outermost limits h (ValueOf (Begun ty x) ∷ st) _ ends
      (λ used. by_rest used r)
    where
      by_rest : (used : ℕ) (r : List Token) → run limits r (Given used a) (ValueOf (Begun ty x) ∷ st) ≡ run limits r
          (HaveLocal (declare x.place ty x (value a))) st
      by_rest used [] = refl
      by_rest used (t ∷ ts) = refl

module _ (limits : Limits) (some : 0 < limits.tokens) where
  reads_variable : {a : InitTree} {s r : List Token} → SpellsInit limits a s r →
      (kd : Kind) (x : Ident) (st : List Frame) → next_is is_ending r ≡ true
      → run limits s (LocalName kd x) st ≡ run limits r (HaveLocal (declare x.place (Int kd) x a)) st
  reads_variable (no_value r) kd x st ends = is_variable limits kd x st r (ends-names r ends)
  reads_variable (a_value a p s r may h) kd x st ends = values limits (Begun (Int kd) x) st s may
      ∙ begins_with limits (Int kd) x a s r h st ends
  reads_variable (a_result f bs p q q' s r h) kd x st ends = calls_value limits some (Begun (Int kd) x) f q s st
      ∙ reads_arguments limits h (Keeps (Begun (Int kd) x) f) st

  reads_pointer : {a : InitTree} {s r : List Token} → SpellsInit limits a s r →
      (kd : Kind) (x : Ident) (st : List Frame) → next_is is_ending r ≡ true
      → run limits s (LocalPointer kd x) st ≡ run limits r (HaveLocal (declare x.place (Ptr kd) x a)) st
  reads_pointer (no_value r) kd x st ends = is_pointer limits kd x st r (ends-names r ends)
  reads_pointer (a_value a p s r may h) kd x st ends = values limits (Begun (Ptr kd) x) st s may
      ∙ begins_with limits (Ptr kd) x a s r h st ends
  reads_pointer (a_result f bs p q q' s r h) kd x st ends = calls_value limits some (Begun (Ptr kd) x) f q s st
      ∙ reads_arguments limits h (Keeps (Begun (Ptr kd) x) f) st

  pub reads_local : {kd : Kind} {a : StmtTree} {s r : List Token} → SpellsLocal limits kd a s r → (st : List Frame) →
      next_is is_ending r ≡ true
      → run limits s (WantLocal kd) st ≡ run limits r (HaveLocal a) st
  reads_local {kd = kd} (variable x a s r h) st ends = reads_variable h kd x st ends
  reads_local {kd = kd} (pointer x a p s r h) st ends = reads_pointer h kd x st ends
  reads_local {kd = kd} (array x n j p o q r) st ends = is_array limits kd x n st r (ends-names r ends)
  reads_local {kd = kd} (pointer_to_pointer p q r out) st ends = rw (leaves limits r out)
  reads_local {kd = kd} (pointers x p q r out) st ends = rw (leaves limits r out)
  reads_local {kd = kd} (arrays x n j p o q q' r out) st ends = rw (leaves limits r out)
  reads_local {kd = kd} (array_values x n j p o q q' r out) st ends = rw (leaves limits r out)

-- a local begins with no word of a kind
pub local_no_kind : {limits : Limits} {kd : Kind} {a : StmtTree} {s r : List Token} → SpellsLocal limits kd a s r →
    next_is begins_kind s ≡ false
local_no_kind (variable x a s r h) = refl
local_no_kind _ = refl
