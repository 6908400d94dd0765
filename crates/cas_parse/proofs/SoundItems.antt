-- What a token of an item does, outside the bodies of functions, keeps what the frames hold.
use Rattle.std.proofs.Common.{◌≡◌, ◌≤◌, ℕ, Bool, true, false, List, [], ◌∷◌, ◌++◌, map, length, Option, Some, None, refl, sym, arith, append_assoc}
use Rattle.cas_base.specs.declared.decl.Form.{Form}
use Rattle.cas_base.specs.declared.decl.Form.TheVariants as form
use Rattle.cas_base.specs.declared.kind.Kind.{Kind}
use Rattle.cas_base.specs.declared.kind.Ty.{Ty}
use Rattle.cas_base.specs.declared.kind.Ty.TheVariants.{Int, Ptr}
use Rattle.cas_base.specs.declared.place.Place.{Place}
use Rattle.cas_lex.specs.declared.token.Token.{Token}
use Rattle.cas_lex.specs.declared.token.TokenKind.{TokenKind}
use Rattle.cas_lex.specs.declared.token.TokenKind.TheVariants as k
use Rattle.cas_lex.specs.declared.token.Sign.{Sign}
use Rattle.cas_lex.specs.declared.token.Sign.TheVariants as sg
use Rattle.cas_lex.specs.declared.token.Word.TheVariants as w
use Rattle.cas_syntax.specs.declared.tree.Ident.{Ident}
use Rattle.cas_syntax.specs.Expressions.{SpellsKind}
use Rattle.cas_syntax.specs.Statements as s
use Rattle.cas_syntax.specs.Items as i
use Rattle.cas_syntax.specs.Items.{SpellsExtern, SpellsCells, SpellsType, SpellsReturn, SpellsParameter, SpellsHead, SpellsItem, SpellsItems, FollowsGlobal, declared, names_alone, places_alone}
use Rattle.cas_syntax.specs.Limits.{Limits, IsLeftOut}
use Rattle.cas_syntax.specs.Tokens.{ident, sign}
use Rattle.cas_syntax.specs.Tree.{ItemTree, global}
use Rattle.cas_parse.specs.Machine as m
use Rattle.cas_parse.specs.Machine.{all_named, at, cells, sort_of}
use Rattle.cas_parse.specs.Frames.{Opening, Frame, InItems, HaveParameter, ParameterType, WantFunction}
use Rattle.cas_parse.proofs.Holds as h
use Rattle.cas_parse.proofs.Holds.{ItemAt, SortAt, CellsAt, ValuesAt, HeadAt, ParameterAt, AfterAt, HeldAt, WithValues, WithNames, Holds, HoldsAfter}
use Rattle.cas_parse.proofs.SoundSimple.{token, near, leaves, leave_holds}

pub snoc-items : {limits : Limits} {items : List ItemTree} {from t : List Token} → SpellsItems limits items from t →
    (a : ItemTree) (r : List Token) →
    SpellsItem limits a t r → SpellsItems limits (items ++ a ∷ []) from r
snoc-items (i.no_item t) a r ha = i.an_item _ _ _ _ _ ha (i.no_item _)
snoc-items (i.an_item b bs from u t hb hs) a r ha = i.an_item _ _ _ _ _ hb (snoc-items hs a r ha)

-- what is no declaration from elsewhere has no word for that
defined-here : {d : Bool} {from t : List Token} → SpellsExtern d from t → d ≡ true → from ≡ t
defined-here (i.here r) e = refl
defined-here (i.elsewhere p r) e = cc

-- parameters that all have names
all_named-map : (xs : List (Option Ident)) (ys : List Ident) → all_named xs ≡ Some ys → xs ≡ map Some ys
all_named-map [] [] e = refl
all_named-map [] (y ∷ ys) e = cc
all_named-map (None ∷ xs) ys e = cc
all_named-map (Some x ∷ xs) ys e = by_rest (all_named xs) refl (all_named-map xs)
  where
    by_rest : (o : Option (List Ident)) → all_named xs ≡ o →
        ((zs : List Ident) → all_named xs ≡ Some zs → xs ≡ map Some zs) → Some x ∷ xs ≡ map Some ys
    by_rest None e' recur = let no : None ≡ Some ys = rw e' at e in cc
    by_rest (Some zs) e' recur =
        let same : Some (x ∷ zs) ≡ Some ys = rw e' at e in
        let whole : x ∷ zs ≡ ys = cc in
        rw (sym whole, recur zs e') refl

module _ (limits : Limits) (all : List Token) where
  -- an item ends
  pub item_done : {items : List ItemTree} {d : Bool} {t : List Token} → ItemAt limits all items d t →
      (a : ItemTree) (r : List Token) →
      ((u : List Token) → SpellsExtern d u t → SpellsItem limits a u r) → SpellsItems limits (items ++ a ∷ []) all r
  item_done (h.item_at hs he) a r done = snoc-items hs a r (done _ he)

  -- functions

  pub function_named_holds : (d : Bool) (ty : Ty) (items : List ItemTree) (st : List Frame) (t : List Token)
      (kind : TokenKind) (p : Place) (ts : List Token) →
      ItemAt limits all items d t → SpellsReturn limits ty t (token kind p ∷ ts) →
      HoldsAfter limits all ts (m.function_named limits (near limits ts) (leaves limits ts) d ty items st p kind)
  function_named_holds d ty items st t (k.Name n) p ts hi hr = (t, hi, hr)
  function_named_holds d ty items st t _ p ts hi hr = tt

  pub return_kind_holds : (d : Bool) (kd : Kind) (items : List ItemTree) (st : List Frame) (t : List Token)
      (kind : TokenKind) (p : Place) (ts : List Token) →
      ItemAt limits all items d t → SpellsKind kd t (token kind p ∷ ts) →
      HoldsAfter limits all ts (m.return_kind limits (near limits ts) (leaves limits ts) d kd items st p kind)
  return_kind_holds d kd items st t (k.Sign sg.Star) p ts hi hk = (t, p, hi, hk)
  return_kind_holds d kd items st t kind p ts hi hk =
      function_named_holds d (Int kd) items st t kind p ts hi (i.a_value _ _ _ (i.integer _ _ _ hk))

  pub return_star_holds : (d : Bool) (kd : Kind) (items : List ItemTree) (st : List Frame) (t : List Token) (o : Place)
      (kind : TokenKind) (p : Place) (ts : List Token) →
      ItemAt limits all items d t → SpellsKind kd t (sign sg.Star o ∷ token kind p ∷ ts) →
      HoldsAfter limits all ts (m.return_star limits (near limits ts) (leaves limits ts) d kd items st p kind)
  return_star_holds d kd items st t o (k.Sign sg.Star) p ts hi hk =
      leave_holds limits all (WantFunction d (Ptr kd) items) st ts
      (λ lo. (t, hi, i.a_value _ _ _ (i.pointer_to_pointer _ _ _ _ _ lo hk)))
  return_star_holds d kd items st t o kind p ts hi hk =
      function_named_holds d (Ptr kd) items st t kind p ts hi (i.a_value _ _ _ (i.pointer _ _ _ _ hk))

  plain_global_holds : (o : Opening) (items : List ItemTree) (st : List Frame) (t : List Token) (by : Sign) (p : Place)
      (ts : List Token) → FollowsGlobal by →
      ItemAt limits all items o.defined t → SpellsReturn limits o.ret t (ident o.name ∷ sign by p ∷ ts) →
      HoldsAfter limits all ts (m.plain_global limits (near limits ts) (leaves limits ts) o items st)
  plain_global_holds o items st t by p ts follows hi hr =
      leave_holds limits all
      (InItems (items ++ global (declared o.name.name (form.Table o.ret) o.defined) [] o.name.place ∷ [])) st ts
      (λ lo. item_done hi _ ts (λ u he. i.a_plain_global o.name o.ret o.defined by p u t ts lo follows he hr))

  pub function_name_holds : (o : Opening) (items : List ItemTree) (st : List Frame) (t : List Token) (kind : TokenKind)
      (p : Place) (ts : List Token) →
      ItemAt limits all items o.defined t → SpellsReturn limits o.ret t (ident o.name ∷ token kind p ∷ ts) →
      HoldsAfter limits all ts (m.function_name limits (near limits ts) (leaves limits ts) o items st kind)
  function_name_holds o items st t (k.Sign sg.OpenParen) p ts hi hr = h.head_at hi hr
  function_name_holds o items st t (k.Sign sg.OpenBracket) p ts hi hr =
      plain_global_holds o items st t sg.OpenBracket p ts i.its_length hi hr
  function_name_holds o items st t (k.Sign sg.Equal) p ts hi hr =
      plain_global_holds o items st t sg.Equal p ts i.its_value hi hr
  function_name_holds o items st t (k.Sign sg.Semicolon) p ts hi hr =
      plain_global_holds o items st t sg.Semicolon p ts i.its_end hi hr
  function_name_holds o items st t _ p ts hi hr = tt

  -- parameters

  pub parameter_ended_holds : (o : Opening) (tys : List Ty) (xs : List (Option Ident)) (ty : Ty) (x : Option Ident)
      (items : List ItemTree) (st : List Frame) (t : List Token)
      (kind : TokenKind) (p : Place) (ts : List Token) → ParameterAt limits all items o tys xs t →
      SpellsParameter limits ty x t (token kind p ∷ ts) →
      (kind ≡ k.Sign sg.OpenBracket → IsLeftOut limits ts → SpellsParameter limits ty x t ts) →
      HoldsAfter limits all ts (m.parameter_ended limits (near limits ts) (leaves limits ts) o (tys ++ ty ∷ [])
      (xs ++ x ∷ []) items st kind)
  parameter_ended_holds o tys xs ty x items st t (k.Sign sg.Comma) p ts (h.parameter_at hh more) hx array =
      h.parameter_at hh (λ tys' xs' r hs. rw (append_assoc tys (ty ∷ []) tys', append_assoc xs (x ∷ []) xs')
      (more (ty ∷ tys') (x ∷ xs') r (i.one_parameter _ _ _ _ _ _ _ _ hx hs)))
  parameter_ended_holds o tys xs ty x items st t (k.Sign sg.CloseParen) p ts (h.parameter_at hh more) hx array =
      h.after_at hh (i.parameters _ _ _ _ (more (ty ∷ []) (x ∷ []) _ (i.last_parameter _ _ _ _ hx)))
  parameter_ended_holds o tys xs ty x items st t (k.Sign sg.OpenBracket) p ts hp hx array =
      leave_holds limits all (HaveParameter o (tys ++ ty ∷ []) (xs ++ x ∷ []) items) st ts
      (λ lo. (t, tys, ty, xs, x, length ts, refl, refl, hp, array refl lo, lo, omega arith))
  parameter_ended_holds o tys xs ty x items st t _ p ts hp hx array = tt

  pub parameter_named_holds : (o : Opening) (tys : List Ty) (xs : List (Option Ident)) (ty : Ty) (x : Ident)
      (items : List ItemTree) (st : List Frame) (t : List Token)
      (kind : TokenKind) (p : Place) (ts : List Token) → ParameterAt limits all items o tys xs t →
      SpellsType limits ty t (ident x ∷ token kind p ∷ ts) →
      HoldsAfter limits all ts (m.parameter_ended limits (near limits ts) (leaves limits ts) o (tys ++ ty ∷ [])
      (xs ++ Some x ∷ []) items st kind)
  parameter_named_holds o tys xs ty x items st t kind p ts hp ht =
      parameter_ended_holds o tys xs ty (Some x) items st t kind p ts hp (i.named _ _ _ _ ht)
      (λ e lo. i.named_array ty x p t ts lo (rw e at ht))

  parameter_unnamed_holds : (o : Opening) (tys : List Ty) (xs : List (Option Ident)) (ty : Ty) (items : List ItemTree)
      (st : List Frame) (t : List Token)
      (kind : TokenKind) (p : Place) (ts : List Token) → ParameterAt limits all items o tys xs t →
      SpellsType limits ty t (token kind p ∷ ts) →
      HoldsAfter limits all ts (m.parameter_ended limits (near limits ts) (leaves limits ts) o (tys ++ ty ∷ [])
      (xs ++ None ∷ []) items st kind)
  parameter_unnamed_holds o tys xs ty items st t kind p ts hp ht =
      parameter_ended_holds o tys xs ty None items st t kind p ts hp (i.unnamed _ _ _ ht)
      (λ e lo. i.unnamed_array ty p t ts lo (rw e at ht))

  -- behind an array that is left out
  pub parameter_left_out_holds : (o : Opening) (tys : List Ty) (xs : List (Option Ident)) (ty : Ty) (x : Option Ident)
      (items : List ItemTree) (st : List Frame) (t : List Token)
      (left : ℕ) (kind : TokenKind) (p : Place) (ts : List Token) → ParameterAt limits all items o tys xs t →
      SpellsParameter limits ty x t (token kind p ∷ ts) →
      limits.left_out ≡ Some left → length (token kind p ∷ ts) ≤ left →
      HoldsAfter limits all ts (m.parameter_ended limits (near limits ts) (leaves limits ts) o (tys ++ ty ∷ [])
      (xs ++ x ∷ []) items st kind)
  parameter_left_out_holds o tys xs ty x items st t left kind p ts hp hx lo le =
      parameter_ended_holds o tys xs ty x items st t kind p ts hp hx (λ e lo'. absurd (no lo'))
    where
      no : IsLeftOut limits ts → ⊥
      no lo' = let same : left ≡ length ts = cc in omega (arith, same, le)

  pub parameter_typed_holds : (o : Opening) (tys : List Ty) (xs : List (Option Ident)) (ty : Ty) (items : List ItemTree)
      (st : List Frame) (t : List Token)
      (kind : TokenKind) (p : Place) (ts : List Token) → ParameterAt limits all items o tys xs t →
      SpellsType limits ty t (token kind p ∷ ts) →
      HoldsAfter limits all ts (m.parameter_typed limits (near limits ts) (leaves limits ts)
      o tys xs ty items st p kind)
  parameter_typed_holds o tys xs ty items st t (k.Name n) p ts hp ht = (t, hp, ht)
  parameter_typed_holds o tys xs ty items st t kind p ts hp ht =
      parameter_unnamed_holds o tys xs ty items st t kind p ts hp ht

  pub parameter_kind_holds : (o : Opening) (tys : List Ty) (xs : List (Option Ident)) (kd : Kind)
      (items : List ItemTree) (st : List Frame) (t : List Token)
      (kind : TokenKind) (p : Place) (ts : List Token) → ParameterAt limits all items o tys xs t →
      SpellsKind kd t (token kind p ∷ ts) →
      HoldsAfter limits all ts (m.parameter_kind limits (near limits ts) (leaves limits ts) o tys xs kd items st p kind)
  parameter_kind_holds o tys xs kd items st t (k.Sign sg.Star) p ts hp hk = (t, p, hp, hk)
  parameter_kind_holds o tys xs kd items st t kind p ts hp hk =
      parameter_typed_holds o tys xs (Int kd) items st t kind p ts hp (i.integer _ _ _ hk)

  pub parameter_star_holds : (o : Opening) (tys : List Ty) (xs : List (Option Ident)) (kd : Kind)
      (items : List ItemTree) (st : List Frame) (t : List Token) (q : Place)
      (kind : TokenKind) (p : Place) (ts : List Token) → ParameterAt limits all items o tys xs t →
      SpellsKind kd t (sign sg.Star q ∷ token kind p ∷ ts) →
      HoldsAfter limits all ts (m.parameter_star limits (near limits ts) (leaves limits ts) o tys xs kd items st p kind)
  parameter_star_holds o tys xs kd items st t q (k.Sign sg.Star) p ts hp hk =
      leave_holds limits all (ParameterType o tys xs (Ptr kd) items) st ts
      (λ lo. (t, hp, i.pointer_to_pointer _ _ _ _ _ lo hk))
  parameter_star_holds o tys xs kd items st t q kind p ts hp hk =
      parameter_typed_holds o tys xs (Ptr kd) items st t kind p ts hp (i.pointer _ _ _ _ hk)

  -- the end of a head

  body_started_holds : (x : Ident) (f : Form) (held : List Place) (items : List ItemTree) (st : List Frame)
      (xs : List (Option Ident)) (d : Bool) (names : Option (List Ident))
      (t : List Token) (p : Place) (ts : List Token) → all_named xs ≡ names → ItemAt limits all items d t →
      SpellsHead limits x f xs held t (sign sg.OpenBrace p ∷ ts) →
      HoldsAfter limits all ts (m.body_started limits (near limits ts) (leaves limits ts) x f held items st d names)
  body_started_holds x f held items st xs true (Some ys) t p ts e (h.item_at hs he) hh = (
    ts,
    h.of_body {p = p} {s = t} (rw (sym (defined-here he refl)) hs)
        (rw (sym (all_named-map xs ys e)) hh),
    s.ended 0 ts,
  )
  body_started_holds x f held items st xs true None t p ts e hi hh = tt
  body_started_holds x f held items st xs false names t p ts e hi hh = tt

  pub after_head_holds : (x : Ident) (f : Form) (d : Bool) (xs : List (Option Ident)) (held : List Place)
      (items : List ItemTree) (st : List Frame)
      (t : List Token) (kind : TokenKind) (p : Place) (ts : List Token) → ItemAt limits all items d t →
      SpellsHead limits x f xs held t (token kind p ∷ ts) →
      HoldsAfter limits all ts (m.after_head limits (near limits ts) (leaves limits ts) x f d xs held items st kind)
  after_head_holds x f d xs held items st t (k.Sign sg.Semicolon) p ts hi hh =
      item_done hi _ ts (λ u he. i.a_prototype x f xs held d p u t ts he hh)
  after_head_holds x f d xs held items st t (k.Sign sg.OpenBrace) p ts hi hh =
      body_started_holds x f held items st xs d (all_named xs) t p ts refl hi hh
  after_head_holds x f d xs held items st t _ p ts hi hh = tt

  pub after_parameters_holds : (o : Opening) (tys : List Ty) (xs : List (Option Ident)) (items : List ItemTree)
      (st : List Frame) (kind : TokenKind) (p : Place) (ts : List Token) →
      AfterAt limits all items o tys xs (token kind p ∷ ts) →
      HoldsAfter limits all ts (m.after_parameters limits (near limits ts) (leaves limits ts)
      o tys xs items st kind)
  after_parameters_holds o tys xs items st (k.Word w.Holds) p ts ha = λ q us e. h.held_at (rw e at ha) (λ ys r hn. hn)
  after_parameters_holds o tys xs items st kind p ts (h.after_at (h.head_at hi hr) hp) =
      after_head_holds o.name (form.Function o.ret tys []) o.defined xs [] items st _ kind p ts hi
      (i.head o.name o.ret tys xs [] _ _ _ _ _ _ hr hp (i.none_held _))

  pub want_held_holds : (o : Opening) (tys : List Ty) (xs : List (Option Ident)) (held : List Ident)
      (items : List ItemTree) (st : List Frame) (kind : TokenKind) (p : Place) (ts : List Token) →
      HeldAt limits all items o tys xs held (token kind p ∷ ts) →
      HoldsAfter limits all ts (m.want_held limits (near limits ts) (leaves limits ts)
      o tys xs held items st p kind)
  want_held_holds o tys xs held items st (k.Name n) p ts hh = (held, at n p, refl, hh)
  want_held_holds o tys xs held items st _ p ts hh = tt

  pub have_held_holds : (o : Opening) (tys : List Ty) (xs : List (Option Ident)) (held : List Ident) (x : Ident)
      (items : List ItemTree) (st : List Frame) (kind : TokenKind) (p : Place) (ts : List Token) →
      HeldAt limits all items o tys xs held (ident x ∷ token kind p ∷ ts) →
      HoldsAfter limits all ts (m.have_held limits (near limits ts) (leaves limits ts) o tys xs (held ++ x ∷ [])
      items st kind)
  have_held_holds o tys xs held x items st (k.Sign sg.Comma) p ts (h.held_at ha more) =
      h.held_at ha (λ ys r hn. rw (append_assoc held (x ∷ []) ys) (more (x ∷ ys) r (i.one_name _ _ _ _ _ hn)))
  have_held_holds o tys xs held x items st (k.Sign sg.CloseParen) p ts
      (h.held_at (h.after_at (h.head_at {t} hi hr) hp) more) = (
        t,
        hi,
        i.head o.name o.ret tys xs (held ++ x ∷ []) _ _ _ _ _ _ hr hp
            (i.held _ _ _ _ _ _ (more (x ∷ []) _ (i.last_name _ _))),
      )
  have_held_holds o tys xs held x items st _ p ts hh = tt
