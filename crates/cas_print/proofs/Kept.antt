-- The canonical tokens of an expression are such as a text may have, and no more than those of any spelling.
use Rattle.std.proofs.Common.{◌≡◌, ℕ, ◌+◌, ◌≤◌, List, ◌∷◌, length, Bool, false, nat_lt, subst, arith}
use Rattle.std.proofs.lemmas.Bool.Decides.{nat_tests}
use Rattle.cas_base.specs.declared.kind.Kind.{Kind}
use Rattle.cas_base.specs.declared.place.Place.{Place}
use Rattle.cas_lex.specs.declared.token.Sign.TheVariants as sg
use Rattle.cas_lex.specs.declared.token.Token.{Token}
use Rattle.cas_lex.specs.declared.token.Word.{Word}
use Rattle.cas_syntax.specs.Tree.{ExprTree, literal, name, index, deref, address, address_index, unary, cast, conditional}
use Rattle.cas_syntax.specs.Operators.{Infix, joined, level, infix_sign, unary_sign}
use Rattle.cas_syntax.specs.Reading.{within}
use Rattle.cas_syntax.specs.Tokens as t
use Rattle.cas_syntax.specs.Expressions as g
use Rattle.cas_print.specs.Pieces.{Piece, sign}
use Rattle.cas_print.specs.Expressions.{kind_words, enclosed, at_level, outermost, between, printed_expr}
use Rattle.cas_print.proofs.Levels.{level-high, outermost-low, printed-joined, at_level-open, at_level-either}
use Rattle.cas_print.proofs.Sound.{Sound, SoundPieces}

-- pieces that a text may have, if those behind them are
abbrev pub Keeps : (List Piece → List Piece) → Type 0
Keeps inner = (rest : List Piece) → SoundPieces rest → SoundPieces (inner rest)

-- pieces that are no more than the tokens from the first list on to the second
abbrev pub Shortens : (List Piece → List Piece) → (s r : List Token) → Type 0
Shortens inner s r = (rest : List Piece) → length (inner rest) + length r ≤ length s + length rest

-- the tokens that are left may stand in a text, and so may the pieces, which are no more
abbrev pub Kept : (s r : List Token) → (List Piece → List Piece) → Type 0
Kept s r inner = Sound r × Keeps inner × Shortens inner s r

perhaps : (w : Word) (s r : List Token) → g.Perhaps w s r → Sound s → Sound r × (length r ≤ length s)
perhaps w s r (g.without _) h = (h, omega arith)
perhaps w s r (g.with_it p _) h = (h.1, omega arith)

pub kept_kind : (k : Kind) (s r : List Token) → g.SpellsKind k s r → Sound s → Kept s r (kind_words k)
kept_kind _ s r (g.char p _ _ before) h =
    let e = perhaps _ _ _ before h in
    (e.0.1, (λ rest sound. (tt, sound)), λ rest. omega (arith, e.1))
kept_kind _ s r (g.unsigned_char p q _) h = (h.1.1, (λ rest sound. (tt, (tt, sound))), λ rest. omega arith)
kept_kind _ s r (g.short p _ t _ before behind) h =
    let e = perhaps _ _ _ before h in
    let f = perhaps _ _ _ behind e.0.1 in
    (f.0, (λ rest sound. (tt, sound)), λ rest. omega (arith, e.1, f.1))
kept_kind _ s r (g.unsigned_short p q t _ behind) h =
    let f = perhaps _ _ _ behind h.1.1 in
    (f.0, (λ rest sound. (tt, (tt, sound))), λ rest. omega (arith, f.1))
kept_kind _ s r (g.int p _) h = (h.1, (λ rest sound. (tt, sound)), λ rest. omega arith)
kept_kind _ s r (g.signed p t _ behind) h =
    let f = perhaps _ _ _ behind h.1 in
    (f.0, (λ rest sound. (tt, sound)), λ rest. omega (arith, f.1))
kept_kind _ s r (g.unsigned p t _ behind) h =
    let f = perhaps _ _ _ behind h.1 in
    (f.0, (λ rest sound. (tt, sound)), λ rest. omega (arith, f.1))

-- a place of a level that is at most an operand's
abbrev KeptAt : ℕ → ExprTree → (s r : List Token) → Type 0
KeptAt l a s r = Kept s r (at_level l (outermost a) (printed_expr a))

-- without parentheses that aren't needed
bare : (l : ℕ) (a : ExprTree) (s r : List Token) → l ≤ outermost a → Kept s r (printed_expr a) → KeptAt l a s r
bare l a s r h kept = at_level-open (Kept s r) l (outermost a) (printed_expr a) h kept

-- at the lowest level none stand
pub stripped : (a : ExprTree) (s r : List Token) → KeptAt 1 a s r → Kept s r (printed_expr a)
stripped a s r kept =
    let low = outermost-low a in
    let no : nat_lt (outermost a) 1 ≡ false = grind (arith, nat_tests) in
    subst (λ (b : Bool). Kept s r (enclosed b (printed_expr a))) no kept

-- in parentheses that a spelling has
parenthesized : (l : ℕ) (a : ExprTree) (p q : Place) (s r : List Token) →
    Kept s (t.sign sg.CloseParen q ∷ r) (printed_expr a) → KeptAt l a (t.sign sg.OpenParen p ∷ s) r
parenthesized l a p q s r kept =
    at_level-either (Kept (t.sign sg.OpenParen p ∷ s) r) l (outermost a) (printed_expr a)
    (kept.0.1, (λ rest sound. (tt, kept.1 _ (tt, sound))), λ rest. omega (arith, kept.2 (sign sg.CloseParen ∷ rest)))
    (λ h. (kept.0.1, kept.1, λ rest. omega (arith, kept.2 rest)))

-- two operands
both : (op : Infix) (l : ℕ) (a b : ExprTree) (p : Place) (s u r : List Token) → l ≤ level op →
    KeptAt (level op) a s (t.sign (infix_sign op) p ∷ u) → KeptAt (level op + 1) b u r →
    KeptAt l (joined op a b) s r
both op l a b p s u r h left right =
    printed-joined (λ (found : ℕ) (inner : List Piece → List Piece). Kept s r (at_level l found inner)) op a b
    (at_level-open (Kept s r) l (level op) (between op (outermost a) (printed_expr a) (outermost b) (printed_expr b)) h (
      right.0,
      (λ rest sound. left.1 _ (tt, right.1 _ sound)),
      λ rest. let B = at_level (level op + 1) (outermost b) (printed_expr b) rest in
          omega (arith, left.2 (sign (infix_sign op) ∷ B), right.2 rest),
    ))

pub kept_expr : (l : ℕ) (a : ExprTree) (s r : List Token) → l ≤ 12 → g.Spells (within 0) l a s r → Sound s →
    KeptAt l a s r
kept_expr l _ _ r low (g.a_literal _ n k p _) h = bare l (literal n k) (t.number n k p ∷ r) r low
    (h.1, (λ rest sound. (h.0, sound)), λ rest. omega arith)
kept_expr l _ _ r low (g.a_name _ x _) h = bare l (name x) (t.ident x ∷ r) r low
    (h.1, (λ rest sound. (h.0, sound)), λ rest. omega arith)
kept_expr l _ _ r low (g.an_element _ x a p q s _ spelt) h =
    let e = stripped a s (t.sign sg.CloseBracket q ∷ r)
    (kept_expr 1 a s (t.sign sg.CloseBracket q ∷ r) (omega arith) spelt h.1.1) in
    bare l (index x a) (t.ident x ∷ t.sign sg.OpenBracket p ∷ s) r low (
      e.0.1,
      (λ rest sound. (h.0, (tt, e.1 _ (tt, sound)))),
      λ rest. omega
          (arith, e.2 (sign sg.CloseBracket ∷ rest)),
    )
kept_expr l a _ r low (g.in_parentheses _ _ p q s _ spelt) h =
    parenthesized l a p q s r (stripped a s (t.sign sg.CloseParen q ∷ r)
    (kept_expr 1 a s (t.sign sg.CloseParen q ∷ r) (omega arith) spelt h.1))
kept_expr l _ _ r low (g.an_operand_of _ op a p s _ spelt) h =
    let e = kept_expr 12 a s r (omega arith) spelt h.1 in
    bare l (unary op a) (t.sign (unary_sign op) p ∷ s) r low
    (e.0, (λ rest sound. (tt, e.1 _ sound)), λ rest. omega (arith, e.2 rest))
kept_expr l _ _ r low (g.what_is_pointed_to _ a p s _ spelt) h =
    let e = kept_expr 12 a s r (omega arith) spelt h.1 in
    bare l (deref a) (t.sign sg.Star p ∷ s) r low (
      e.0,
      (λ rest sound. (tt, e.1 _ sound)),
      λ rest. omega
          (arith, e.2 rest),
    )
kept_expr l _ _ r low (g.an_address _ x p _) h = bare l (address x) (t.sign sg.And p ∷ t.ident x ∷ r) r low
    (h.1.1, (λ rest sound. (tt, (h.1.0, sound))), λ rest. omega arith)
kept_expr l _ _ r low (g.an_address_of_element _ x a o p q s _ spelt) h =
    let e = stripped a s (t.sign sg.CloseBracket q ∷ r)
    (kept_expr 1 a s (t.sign sg.CloseBracket q ∷ r) (omega arith) spelt h.1.1.1) in
    bare l (address_index x a) (t.sign sg.And o ∷ t.ident x ∷ t.sign sg.OpenBracket p ∷ s) r low (
      e.0.1,
      (λ rest sound. (tt, (h.1.0, (tt, e.1 _ (tt, sound))))),
      λ rest. omega
          (arith, e.2 (sign sg.CloseBracket ∷ rest)),
    )
kept_expr l _ _ r low (g.a_cast _ k a p q s u _ words spelt) h =
    let f = kept_kind k s (t.sign sg.CloseParen q ∷ u) words h.1 in
    let e = kept_expr 12 a u r (omega arith) spelt f.0.1 in
    bare l (cast k a) (t.sign sg.OpenParen p ∷ s) r low (
      e.0,
      (λ rest sound. (tt, f.1 _ (tt, e.1 _ sound))),
      λ rest. let B = at_level 12 (outermost a) (printed_expr a) rest in
          omega (arith, f.2 (sign sg.CloseParen ∷ B), e.2 rest),
    )
kept_expr l _ s r low (g.two_operands _ op a b p _ u _ above left right) h =
    let most = level-high op in
    let e = kept_expr (level op) a s (t.sign (infix_sign op) p ∷ u) (omega arith) left h in
    let f = kept_expr (level op + 1) b u r (omega arith) right e.0.1 in
    both op l a b p s u r above e f
kept_expr l _ s r low (g.a_choice _ c a b p q _ u v _ above first second third) h =
    let e = kept_expr 2 c s (t.sign sg.Question p ∷ u) (omega arith) first h in
    let f = stripped a u (t.sign sg.Colon q ∷ v) (kept_expr 1 a u (t.sign sg.Colon q ∷ v) (omega arith) second e.0.1) in
    let i = stripped b v r (kept_expr 1 b v r (omega arith) third f.0.1) in
    bare l (conditional c a b) s r above (
      i.0,
      (λ rest sound. e.1 (sign sg.Question ∷ printed_expr a (sign sg.Colon ∷ printed_expr b rest))
          (tt, f.1 _ (tt, i.1 _ sound))),
      λ rest. let B = printed_expr b rest in let A = printed_expr a (sign sg.Colon ∷ B) in
          omega (arith, e.2 (sign sg.Question ∷ A), f.2 (sign sg.Colon ∷ B), i.2 rest),
    )
kept_expr l _ _ r low (g.a_call _ x p _ left_out) h = cc
kept_expr l _ _ r low (g.a_call_of_address _ x o p _ left_out) h = cc
