-- What a token of a global does, behind the words of its kind, keeps what the frames hold.
use Rattle.std.proofs.Common.{◌≡◌, ℕ, Bool, true, false, List, [], ◌∷◌, ◌++◌, refl, append_assoc}
use Rattle.cas_base.specs.Word.{word_sub, narrowed}
use Rattle.cas_base.specs.declared.kind.Ty.{Ty}
use Rattle.cas_base.specs.declared.kind.Ty.TheVariants.{Int, Array}
use Rattle.cas_base.specs.declared.kind.Kind.{Kind}
use Rattle.cas_base.specs.declared.place.Place.{Place}
use Rattle.cas_lex.specs.declared.token.Token.{Token}
use Rattle.cas_lex.specs.declared.token.TokenKind.{TokenKind}
use Rattle.cas_lex.specs.declared.token.TokenKind.TheVariants as k
use Rattle.cas_lex.specs.declared.token.Sign.TheVariants as sg
use Rattle.cas_syntax.specs.declared.tree.Ident.{Ident}
use Rattle.cas_syntax.specs.Expressions.{SpellsKind}
use Rattle.cas_syntax.specs.Items as i
use Rattle.cas_syntax.specs.Items.{SpellsCells, SpellsValue, SpellsValues, SpellsItems, declared}
use Rattle.cas_syntax.specs.Limits.{Limits}
use Rattle.cas_syntax.specs.Tokens.{ident, sign, number}
use Rattle.cas_syntax.specs.Tree.{ItemTree, global}
use Rattle.cas_parse.specs.Machine as m
use Rattle.cas_parse.specs.Machine.{sort_of}
use Rattle.cas_parse.specs.Frames.{Sort, Data, Frame, Control, CellsEnd, CellValue, Expect, WantCells}
use Rattle.cas_parse.proofs.Holds as h
use Rattle.cas_parse.proofs.Holds.{SortAt, CellsAt, ValuesAt, WithValues, Holds, HoldsAfter}
use Rattle.cas_parse.proofs.SoundSimple.{token, near, leaves, leave_holds}
use Rattle.cas_parse.proofs.SoundItems.{item_done}

module _ (limits : Limits) (all : List Token) where
  global_done : {items : List ItemTree} {d : Bool} {sort : Sort} {t : List Token} → SortAt limits all items d sort t →
      (kd : Kind) (x : Ident) (ty : Ty) (vs : List ℕ)
      (u : List Token) (p : Place) (ts : List Token) → SpellsKind kd t u →
      SpellsCells limits d kd x ty vs u (sign sg.Semicolon p ∷ ts) →
      SpellsItems limits (items ++ global (declared x.name (sort_of sort ty) d) vs x.place ∷ []) all ts
  global_done (h.guarded {guard} hi) kd x ty vs u p ts hk hc =
      item_done limits all hi _ ts (λ s he. i.a_shared x guard kd ty vs _ _ _ _ _ _ _ _ _ he hk hc)
  global_done (h.constant hi) kd x ty vs u p ts hk hc =
      item_done limits all hi _ ts (λ s he. i.a_table x kd ty vs _ _ _ _ _ _ _ he hk hc)

  pub cells_kind_holds : (d : Data) (items : List ItemTree) (st : List Frame) (t : List Token) (kind : TokenKind)
      (p : Place) (ts : List Token) →
      SortAt limits all items d.defined d.sort t → SpellsKind d.kind t (token kind p ∷ ts) →
      HoldsAfter limits all ts (m.cells_kind limits (near limits ts) (leaves limits ts) d items st p kind)
  cells_kind_holds d items st t (k.Name n) p ts hs hk = h.cells_at hs hk
  cells_kind_holds d items st t _ p ts hs hk = tt

  pub cells_ended_holds : (d : Data) (x : Ident) (ty : Ty) (vs : List ℕ) (items : List ItemTree) (st : List Frame)
      (u : List Token) (kind : TokenKind) (p : Place) (ts : List Token) →
      CellsAt limits all items d u → SpellsCells limits d.defined d.kind x ty vs u (token kind p ∷ ts) →
      HoldsAfter limits all ts (m.cells_ended limits (near limits ts) (leaves limits ts) d x ty vs items st kind)
  cells_ended_holds d x ty vs items st u (k.Sign sg.Semicolon) p ts (h.cells_at hs hk) hc =
      global_done hs d.kind x ty vs u p ts hk hc
  cells_ended_holds d x ty vs items st u _ p ts h hc = tt

  if_defined_holds : (b : Bool) (c : Control) (st : List Frame) (ts : List Token) →
      (b ≡ true → Holds limits all c st ts) →
      HoldsAfter limits all ts (m.if_defined limits (near limits ts) (leaves limits ts) b c st)
  if_defined_holds true c st ts hold = hold refl
  if_defined_holds false c st ts hold = tt

  pub cell_name_holds : (d : Data) (x : Ident) (items : List ItemTree) (st : List Frame) (kind : TokenKind) (p : Place)
      (ts : List Token) →
      CellsAt limits all items d (ident x ∷ token kind p ∷ ts) →
      HoldsAfter limits all ts (m.cell_name limits (near limits ts) (leaves limits ts) d x items st kind)
  cell_name_holds d x items st (k.Sign sg.OpenBracket) p ts hc = (p, hc)
  cell_name_holds d x items st (k.Sign sg.Equal) p ts hc =
      if_defined_holds d.defined (CellValue d x items) st ts (λ e. (p, e, hc))
  cell_name_holds d x items st kind p ts hc = cells_ended_holds d x (Int d.kind) [] items st _ kind p ts hc
      (i.one_cell x _)

  pub cell_length_holds : (d : Data) (x : Ident) (items : List ItemTree) (st : List Frame) (o : Place)
      (kind : TokenKind) (p : Place) (ts : List Token) →
      CellsAt limits all items d (ident x ∷ sign sg.OpenBracket o ∷ token kind p ∷ ts) →
      HoldsAfter limits all ts (m.cell_length limits (near limits ts) (leaves limits ts) d x items st kind)
  cell_length_holds d x items st o (k.Literal n j) p ts hc = λ q us e. (j, o, p, q, rw e at hc)
  cell_length_holds d x items st o _ p ts hc = tt

  pub cell_array_holds : (d : Data) (x : Ident) (n : ℕ) (items : List ItemTree) (st : List Frame) (j : Kind)
      (a b c : Place) (kind : TokenKind) (p : Place) (ts : List Token) →
      CellsAt limits all items d (ident x ∷ sign sg.OpenBracket a ∷ number n j b ∷ sign sg.CloseBracket c ∷ token kind p
      ∷ ts) →
      HoldsAfter limits all ts (m.cell_array limits (near limits ts) (leaves limits ts) d x n items st kind)
  cell_array_holds d x n items st j a b c (k.Sign sg.OpenBracket) p ts hc =
      leave_holds limits all (CellsEnd d x (Array d.kind n) [] items) st ts
      (λ lo. (_, hc, i.arrays x n j a b c p ts lo))
  cell_array_holds d x n items st j a b c (k.Sign sg.Equal) p ts hc =
      if_defined_holds d.defined (Expect false sg.OpenBrace (WantCells d x n [] items)) st ts
      (λ defined q us e. (us, h.values_at defined (rw e at hc), λ vs r hv. hv))
  cell_array_holds d x n items st j a b c kind p ts hc =
      cells_ended_holds d x (Array d.kind n) [] items st _ kind p ts hc (i.cells x n j a b c _)

  pub cell_value_holds : (d : Data) (x : Ident) (items : List ItemTree) (st : List Frame) (o : Place) (kind : TokenKind)
      (p : Place) (ts : List Token) → d.defined ≡ true →
      CellsAt limits all items d (ident x ∷ sign sg.Equal o ∷ token kind p ∷ ts) →
      HoldsAfter limits all ts (m.cell_value limits (near limits ts) (leaves limits ts) d x items st kind)
  cell_value_holds d x items st o (k.Literal n j) p ts e hc =
      (_, hc, i.one_cell_with_value x _ o _ ts e (i.as_it_is n j p ts))
  cell_value_holds d x items st o (k.Sign sg.Minus) p ts e hc = (o, p, e, hc)
  cell_value_holds d x items st o _ p ts e hc = tt

  pub cell_negative_holds : (d : Data) (x : Ident) (items : List ItemTree) (st : List Frame) (o q : Place)
      (kind : TokenKind) (p : Place) (ts : List Token) → d.defined ≡ true →
      CellsAt limits all items d (ident x ∷ sign sg.Equal o ∷ sign sg.Minus q ∷ token kind p ∷ ts) →
      HoldsAfter limits all ts (m.cell_negative limits (near limits ts) (leaves limits ts) d x items st kind)
  cell_negative_holds d x items st o q (k.Literal n j) p ts e hc =
      (_, hc, i.one_cell_with_value x _ o _ ts e (i.negative n j q p ts))
  cell_negative_holds d x items st o q _ p ts e hc = tt

  pub want_cells_holds : (d : Data) (x : Ident) (n : ℕ) (vs : List ℕ) (items : List ItemTree) (st : List Frame)
      (s : List Token) (kind : TokenKind) (p : Place) (ts : List Token) →
      ValuesAt limits all items d x n s → WithValues d.kind vs s (token kind p ∷ ts) →
      HoldsAfter limits all ts (m.want_cells limits (near limits ts) (leaves limits ts) d x n vs items st kind)
  want_cells_holds d x n vs items st s (k.Literal v j) p ts hv more =
      (s, token (k.Literal v j) p ∷ ts, vs, narrowed v d.kind, refl, hv, more, i.as_it_is v j p ts)
  want_cells_holds d x n vs items st s (k.Sign sg.Minus) p ts hv more = (s, p, hv, more)
  want_cells_holds d x n vs items st s _ p ts hv more = tt

  pub negative_cells_holds : (d : Data) (x : Ident) (n : ℕ) (vs : List ℕ) (items : List ItemTree) (st : List Frame)
      (s : List Token) (q : Place) (kind : TokenKind) (p : Place) (ts : List Token) →
      ValuesAt limits all items d x n s → WithValues d.kind vs s (sign sg.Minus q ∷ token kind p ∷ ts) →
      HoldsAfter limits all ts (m.negative_cells limits (near limits ts) (leaves limits ts) d x n vs items st kind)
  negative_cells_holds d x n vs items st s q (k.Literal v j) p ts hv more = (
    s,
    sign sg.Minus q ∷ token (k.Literal v j) p ∷ ts,
    vs,
    narrowed (word_sub 0 v) d.kind,
    refl,
    hv,
    more,
    i.negative
        v j q p ts,
  )
  negative_cells_holds d x n vs items st s q _ p ts hv more = tt

  values_ended : (d : Data) (x : Ident) (n : ℕ) (vs : List ℕ) (items : List ItemTree) (st : List Frame) (s : List Token)
      (p : Place) (ts : List Token) →
      ValuesAt limits all items d x n s → SpellsValues d.kind vs s (sign sg.CloseBrace p ∷ ts) →
      Holds limits all (CellsEnd d x (Array d.kind n) vs items) st ts
  values_ended d x n vs items st s p ts (h.values_at {j} e hc) hv =
      (_, hc, i.cells_with_values x n j vs _ _ _ _ _ p s ts e hv)

  pub have_cells_holds : (d : Data) (x : Ident) (n : ℕ) (vs : List ℕ) (v : ℕ) (items : List ItemTree) (st : List Frame)
      (s t : List Token) (kind : TokenKind) (p : Place) (ts : List Token) →
      ValuesAt limits all items d x n s → WithValues d.kind vs s t → SpellsValue d.kind v t (token kind p ∷ ts) →
      HoldsAfter limits all ts (m.have_cells limits (near limits ts) (leaves limits ts) d x n
      (vs ++ v ∷ []) items st kind)
  have_cells_holds d x n vs v items st s t (k.Sign sg.Comma) p ts hv more one = (
    s,
    hv,
    λ us r hs. rw (append_assoc vs (v ∷ []) us) (more (v ∷ us) r (i.one_value _ _ _ _ _ _ one hs)),
    more
        (v ∷ []) ts (i.last_value_and_comma _ _ _ _ one),
  )
  have_cells_holds d x n vs v items st s t (k.Sign sg.CloseBrace) p ts hv more one =
      values_ended d x n (vs ++ v ∷ []) items st s p ts hv (more (v ∷ []) _ (i.last_value _ _ _ one))
  have_cells_holds d x n vs v items st s t _ p ts hv more one = tt

  pub more_cells_holds : (d : Data) (x : Ident) (n : ℕ) (vs : List ℕ) (items : List ItemTree) (st : List Frame)
      (s : List Token) (kind : TokenKind) (p : Place) (ts : List Token) →
      ValuesAt limits all items d x n s → WithValues d.kind vs s (token kind p ∷ ts) →
      SpellsValues d.kind vs s (token kind p ∷ ts) →
      HoldsAfter limits all ts (m.more_cells limits (near limits ts) (leaves limits ts) d x n vs items st kind)
  more_cells_holds d x n vs items st s (k.Sign sg.CloseBrace) p ts hv more values =
      values_ended d x n vs items st s p ts hv values
  more_cells_holds d x n vs items st s kind p ts hv more values = want_cells_holds d x n vs items st s kind p ts hv more
