-- Whether tokens end inside a function's body is whether the machine stands in one.
use Rattle.std.proofs.Common.{◌≡◌, ℕ, ◌≤◌, Bool, true, false, ◌||◌, List, [], ◌∷◌, ◌++◌, length, None, Ok, Err, refl, ◌∙◌, arith, sym, subst}
use Rattle.cas_base.specs.declared.place.Place.{Place}
use Rattle.cas_lex.specs.declared.token.Token.{Token}
use Rattle.cas_lex.specs.declared.token.TokenKind.{TokenKind}
use Rattle.cas_lex.specs.declared.token.TokenKind.TheVariants as k
use Rattle.cas_lex.specs.declared.token.Sign.TheVariants as sg
use Rattle.cas_syntax.specs.Reading.{without, is_opening_brace, OpensNothing}
use Rattle.cas_syntax.specs.Tokens.{sign}
use Rattle.cas_syntax.specs.Tree.{ItemTree}
use Rattle.cas_parse.specs.Frames.{Frame, Control, InItems}
use Rattle.cas_parse.specs.Machine.{Outcome, go, run, finish}
use Rattle.cas_parse.proofs.Valid.{is_inside, Valid, is_items, Stays, Comes}
use Rattle.cas_parse.proofs.ViableWalks.{taken_by, judged, comes_near, run_step}

neither : (a b : Bool) → (a || b) ≡ false → (a ≡ false) × (b ≡ false)
neither true b e = cc
neither false b e = (refl, e)

finishes : (c : Control) (items : List ItemTree) → finish c ≡ Ok items → is_items c ≡ true
finishes (InItems items) found e = refl
finishes c found e = cc

stays_out : (kind : TokenKind) (c : Control) (st : List Frame) → Stays false kind c st → is_opening_brace kind ≡ false →
    is_inside c st ≡ false
stays_out (k.Sign sg.OpenBrace) c st s e = cc
stays_out (k.Sign sg.CloseBrace) c st s e = s.0
stays_out kind c st s e = s

-- from outside a function's body no closing brace ends a module, unless an opening one comes before it
pub outside_never : (cut : ℕ) (others : List Token) (p : Place) (c : Control) (st : List Frame) (items : List ItemTree)
    → Valid c st → is_inside c st ≡ false → OpensNothing others →
    length (others ++ sign sg.CloseBrace p ∷ []) ≤ cut →
    run (without cut None) (others ++ sign sg.CloseBrace p ∷ []) c st ≡ Ok items → ⊥
outside_never cut [] p c st items v out opens le h =
    by_step (taken_by true false (sign sg.CloseBrace p) c st) refl
    (sym (run_step cut None (sign sg.CloseBrace p) [] c st true false (grind arith) refl) ∙ h)
  where
    by_step : (o : Outcome) → taken_by true false (sign sg.CloseBrace p) c st ≡ o →
        go (run (without cut None) []) 0 o ≡ Ok items → ⊥
    by_step (Ok m) e h =
        let came : Comes false (k.Sign sg.CloseBrace) m =
        subst (λ (i : Bool). Comes i (k.Sign sg.CloseBrace) m) out
        (comes_near (judged (sign sg.CloseBrace p) c st v) e) in
        let last : is_items m.0 ≡ true = finishes m.0 items h in
        let none : is_items m.0 ≡ false = came.stays.1 in
        cc
    by_step (Err code) e h = cc
outside_never cut (t ∷ ts) p c st items v out opens le h =
    by_step (taken_by true false t c st) refl
    (sym (run_step cut None t (ts ++ sign sg.CloseBrace p ∷ []) c st true false (grind arith) refl) ∙ h)
    (outside_never cut ts p)
  where
    by_step : (o : Outcome) → taken_by true false t c st ≡ o →
        go (run (without cut None) (ts ++ sign sg.CloseBrace p ∷ [])) (length (ts ++ sign sg.CloseBrace p ∷ []))
        o ≡ Ok items →
        ((c : Control) (st : List Frame) (items : List ItemTree) → Valid c st → is_inside c st ≡ false →
        OpensNothing ts → length (ts ++ sign sg.CloseBrace p ∷ []) ≤ cut →
        run (without cut None) (ts ++ sign sg.CloseBrace p ∷ []) c st ≡ Ok items → ⊥) → ⊥
    by_step (Ok m) e h recur =
        let came : Comes false t.kind m = subst (λ (i : Bool). Comes i t.kind m) out (comes_near (judged t c st v) e) in
        let both = neither (is_opening_brace t.kind) _ opens in
        recur m.0 m.1 items came.valid (stays_out t.kind m.0 m.1 came.stays both.0) both.1 (omega arith) h
    by_step (Err code) e h recur = cc
