-- What is spelled as items is read as them, and as nothing else.
use Rattle.std.proofs.Common.{◌≡◌, ℕ, ◌<◌, Bool, true, List, [], ◌∷◌, ◌++◌, map, Option, Some, Ok, arith, refl, ap, sym, ◌∙◌, append_assoc, append-nil}
use Rattle.cas_base.specs.declared.decl.Form.{Form}
use Rattle.cas_base.specs.declared.decl.Form.TheVariants as form
use Rattle.cas_base.specs.declared.kind.Ty.{Ty}
use Rattle.cas_base.specs.declared.place.Place.{Place}
use Rattle.cas_lex.specs.declared.token.Token.{Token}
use Rattle.cas_lex.specs.declared.token.Sign.{Sign}
use Rattle.cas_lex.specs.declared.token.Sign.TheVariants as sg
use Rattle.cas_syntax.specs.declared.tree.Ident.{Ident}
use Rattle.cas_syntax.specs.Tree.{no_more, ItemTree, global}
use Rattle.cas_syntax.specs.Limits.{Limits, IsLeftOut}
use Rattle.cas_syntax.specs.Tokens.{sign}
use Rattle.cas_syntax.specs.Items.{declared, here, FollowsGlobal, its_length, its_value, its_end, SpellsItem, a_lock, a_shared, a_table, a_prototype, a_function, a_plain_global, SpellsItems, no_item, an_item}
use Rattle.cas_syntax.specs.Reading.{within, without, IsModule}
use Rattle.cas_parse.specs.Frames.{Guarded, Constant, Frame, CellsKind, BodyOf, FunctionName, AfterHead, InList, InItems}
use Rattle.cas_parse.specs.Machine.{all_named, closing_of_function, run}
use Rattle.cas_parse.proofs.CompleteLimits.{leaves}
use Rattle.cas_parse.proofs.CompleteKinds.{reads_kind}
use Rattle.cas_parse.proofs.CompleteCells.{reads_cells, cells_no_kind}
use Rattle.cas_parse.proofs.CompleteReturns.{reads_extern, reads_return, return_item}
use Rattle.cas_parse.proofs.CompleteHeads.{reads_head, head_item}
use Rattle.cas_parse.proofs.CompleteStarts.{adds_all}
use Rattle.cas_parse.proofs.CompleteStmts.{reads_stmts}

named_alone : (xs : List Ident) → all_named (map Some xs) ≡ Some xs
named_alone [] = refl
named_alone (x ∷ xs) = rw (named_alone xs)

module _ (limits : Limits) (some : 0 < limits.tokens) where
  begins_body : (x : Ident) (f : Form) (xs : List Ident) (held : List Place) (p : Place) (t : List Token)
      (items : List ItemTree) (st : List Frame)
      → run limits (sign sg.OpenBrace p ∷ t) (AfterHead x f true (map Some xs) held items) st ≡ run limits t
      (InList 0 no_more) (BodyOf x f xs held items ∷ st)
  begins_body x f xs held p t items st = rw (named_alone xs)

  is_plain : (d : Bool) (ty : Ty) (x : Ident) (by : Sign) (p : Place) (r : List Token) (items : List ItemTree)
      (st : List Frame) → FollowsGlobal by → IsLeftOut limits r
      → run limits (sign by p ∷ r) (FunctionName (record { defined = d; ret = ty; name = x }) items) st ≡ run limits r
      (InItems (items ++ global (declared x.name (form.Table ty) d) [] x.place ∷ [])) st
  is_plain d ty x by p r items st its_length out = rw (leaves limits r out)
  is_plain d ty x by p r items st its_value out = rw (leaves limits r out)
  is_plain d ty x by p r items st its_end out = rw (leaves limits r out)

  pub reads_item : {a : ItemTree} {s r : List Token} → SpellsItem limits a s r →
      (items : List ItemTree) (st : List Frame)
      → run limits s (InItems items) st ≡ run limits r (InItems (items ++ a ∷ [])) st
  reads_item (a_lock x d p q s r h) items st = reads_extern limits h items st refl
  reads_item (a_shared x guard kd ty vs d p q q' e s t v r h hk hc) items st =
      reads_extern limits h items st refl
      ∙ reads_kind limits hk (CellsKind (Guarded guard) d items ∷ st) (cells_no_kind hc)
      ∙ reads_cells limits hc (Guarded guard) items st
  reads_item (a_table x kd ty vs d p e s t v r h hk hc) items st =
      reads_extern limits h items st refl
      ∙ reads_kind limits hk (CellsKind Constant d items ∷ st) (cells_no_kind hc)
      ∙ reads_cells limits hc Constant items st
  reads_item (a_prototype x f xs held d e s t r h hh) items st =
      reads_extern limits h items st (head_item hh)
      ∙ reads_head limits hh d items st refl
  reads_item (a_function x f xs held body p closing s t r hh hb) items st =
      reads_extern limits (here s) items st (head_item hh)
      ∙ reads_head limits hh true items st refl
      ∙ begins_body x f xs held p t items st
      ∙ reads_stmts limits some hb no_more (BodyOf x f xs held items ∷ st) refl
      ∙ ap (λ all. run limits r (InItems (items ++ closing_of_function x f xs held all closing ∷ [])) st)
      (adds_all body)
  reads_item (a_plain_global x ty d by p s t r out follows h hr) items st =
      reads_extern limits h items st (return_item hr)
      ∙ reads_return limits hr d items st
      ∙ is_plain d ty x by p r items st follows out

  pub reads_items : {bs : List ItemTree} {s r : List Token} → SpellsItems limits bs s r → (before : List ItemTree)
      → run limits s (InItems before) [] ≡ run limits r (InItems (before ++ bs)) []
  reads_items (no_item r) before = ap (λ all. run limits r (InItems all) []) (sym (append-nil before))
  reads_items (an_item a bs s t r h hs) before =
      reads_item h before []
      ∙ reads_items hs (before ++ a ∷ [])
      ∙ ap (λ all. run limits r (InItems all) []) (append_assoc before (a ∷ []) bs)

  -- the tokens of a module are read as it
  pub reads_module : {items : List ItemTree} {tokens : List Token} → SpellsItems limits items tokens [] →
      run limits tokens (InItems []) [] ≡ Ok items
  reads_module h = reads_items h []

  -- tokens are those of one module at most
  pub unambiguous : {items other : List ItemTree} {tokens : List Token} → SpellsItems limits items tokens [] →
      SpellsItems limits other tokens [] → items ≡ other
  unambiguous {items = items} {other = other} {tokens = tokens} h g =
      let one = reads_module h in
      let two = reads_module g in
      cc

-- the limits of module texts

pub some_within : (cut : ℕ) → 0 < (within cut).tokens
some_within cut = omega arith

pub some_without : (count : ℕ) (left_out : Option ℕ) → 0 < (without count left_out).tokens
some_without count left_out = omega arith

pub IsModule-once : {items other : List ItemTree} {tokens : List Token} → IsModule items tokens →
    IsModule other tokens → items ≡ other
IsModule-once h g = unambiguous (within 0) (some_within 0) h g
