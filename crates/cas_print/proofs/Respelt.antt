-- The canonical tokens of an expression spell it, but for places.
use Rattle.std.proofs.Common.{◌≡◌, ℕ, ◌+◌, ◌≤◌, List, ◌∷◌, refl, ap}
use Rattle.cas_base.specs.declared.kind.Kind.{Kind}
use Rattle.cas_base.specs.declared.kind.Kind.TheVariants.{I8, U8, I16, U16, I32, U32}
use Rattle.cas_base.specs.declared.place.Place.{Place}
use Rattle.cas_lex.specs.declared.token.Sign.TheVariants as sg
use Rattle.cas_syntax.specs.declared.tree.Ident.{Ident}
use Rattle.cas_syntax.specs.Alike.{bare_ident, bare_expr}
use Rattle.cas_syntax.specs.Tree.{ExprTree, literal, name, index, deref, address, address_index, unary, cast, binary, and_also, or_else, conditional}
use Rattle.cas_syntax.specs.Operators.{Infix, always_both, logical_and, logical_or, joined, level, infix_sign}
use Rattle.cas_syntax.specs.Limits.{Limits}
use Rattle.cas_syntax.specs.Expressions as g
use Rattle.cas_print.specs.Pieces.{Piece, sign}
use Rattle.cas_print.specs.Expressions.{kind_words, at_level, outermost, between, printed_expr}
use Rattle.cas_print.proofs.Levels.{outermost-low, at_level-either}
use Rattle.cas_print.proofs.Placed.{placed}

-- a name at a place
abbrev pub ident_at : List ℕ → Place → Ident
ident_at x p = record { name = x; place = p }

-- the words of a kind spell it
pub respelt_kind : (at : List Piece → Place) (k : Kind) (rest : List Piece) →
    g.SpellsKind k (placed at (kind_words k rest)) (placed at rest)
respelt_kind at I8 rest = g.char _ _ _ (g.without _)
respelt_kind at U8 rest = g.unsigned_char _ _ _
respelt_kind at I16 rest = g.short _ _ _ _ (g.without _) (g.without _)
respelt_kind at U16 rest = g.unsigned_short _ _ _ _ (g.without _)
respelt_kind at I32 rest = g.int _ _
respelt_kind at U32 rest = g.unsigned _ _ _ (g.without _)

-- at a place of this level the pieces spell the expression, but for places
abbrev pub Respelt : Limits → (List Piece → Place) → ℕ → ExprTree → (List Piece → List Piece) → Type 0
Respelt limits at l a inner =
    (rest : List Piece) → (b : ExprTree) × g.Spells limits l b (placed at (inner rest)) (placed at rest)
    × (bare_expr b ≡ bare_expr a)

-- wherever its operator binds tightly enough
abbrev Bare : Limits → (List Piece → Place) → ExprTree → Type 0
Bare limits at a = (l : ℕ) → l ≤ outermost a → Respelt limits at l a (printed_expr a)

leveled : (limits : Limits) (at : List Piece → Place) (l : ℕ) (a : ExprTree) → Bare limits at a →
    Respelt limits at l a (at_level l (outermost a) (printed_expr a))
leveled limits at l a spelt =
    at_level-either (Respelt limits at l a) l (outermost a) (printed_expr a)
    (λ rest. let r = spelt 1 (outermost-low a) (sign sg.CloseParen ∷ rest) in
    (r.0, g.in_parentheses l r.0 _ _ _ _ r.1, r.2))
    (λ h. spelt l h)

bare_joined : (op : Infix) (a b c d : ExprTree) → bare_expr a ≡ bare_expr c → bare_expr b ≡ bare_expr d →
    bare_expr (joined op a b) ≡ bare_expr (joined op c d)
bare_joined (always_both op) a b c d e f = rw (e, f) refl
bare_joined logical_and a b c d e f = rw (e, f) refl
bare_joined logical_or a b c d e f = rw (e, f) refl

both : (limits : Limits) (at : List Piece → Place) (l : ℕ) (op : Infix) (a b : ExprTree) → Bare limits at a →
    Bare limits at b → l ≤ level op →
    Respelt limits at l (joined op a b) (between op (outermost a) (printed_expr a) (outermost b) (printed_expr b))
both limits at l op a b left right h rest =
    let s = leveled limits at (level op + 1) b right rest in
    let r = leveled limits at (level op) a left (sign (infix_sign op) ∷ at_level (level op + 1) (outermost b)
    (printed_expr b) rest) in
    (joined op r.0 s.0, g.two_operands l op r.0 s.0 _ _ _ _ h r.1 s.1, bare_joined op r.0 s.0 a b r.2 s.2)

pub respelt : (limits : Limits) (at : List Piece → Place) (a : ExprTree) → Bare limits at a
respelt limits at (literal n k) l h rest = (literal n k, g.a_literal l n k _ _, refl)
respelt limits at (name x) l h rest = (name (ident_at x.name (at rest)), g.a_name l _ _, refl)
respelt limits at (index x a) l h rest =
    let r = respelt limits at a 1 (outermost-low a) (sign sg.CloseBracket ∷ rest) in
    (index (ident_at x.name _) r.0, g.an_element l _ r.0 _ _ _ _ r.1, ap (index (bare_ident x)) r.2)
respelt limits at (deref a) l h rest =
    let r = leveled limits at 12 a (respelt limits at a) rest in
    (deref r.0, g.what_is_pointed_to l r.0 _ _ _ r.1, ap deref r.2)
respelt limits at (address x) l h rest = (address (ident_at x.name (at rest)), g.an_address l _ _ _, refl)
respelt limits at (address_index x a) l h rest =
    let r = respelt limits at a 1 (outermost-low a) (sign sg.CloseBracket ∷ rest) in (
      address_index (ident_at x.name _) r.0,
      g.an_address_of_element l _ r.0 _ _ _ _ _ r.1,
      ap
          (address_index (bare_ident x)) r.2,
    )
respelt limits at (unary op a) l h rest =
    let r = leveled limits at 12 a (respelt limits at a) rest in
    (unary op r.0, g.an_operand_of l op r.0 _ _ _ r.1, ap (unary op) r.2)
respelt limits at (cast k a) l h rest =
    let r = leveled limits at 12 a (respelt limits at a) rest in
    (cast k r.0, g.a_cast l k r.0 _ _ _ _ _ (respelt_kind at k _) r.1, ap (cast k) r.2)
respelt limits at (binary op a b) l h rest = both limits at l (always_both op) a b (respelt limits at a)
    (respelt limits at b) h rest
respelt limits at (and_also a b) l h rest = both limits at l logical_and a b (respelt limits at a) (respelt limits at b)
    h rest
respelt limits at (or_else a b) l h rest = both limits at l logical_or a b (respelt limits at a) (respelt limits at b)
    h rest
respelt limits at (conditional c a b) l h rest =
    let t = respelt limits at b 1 (outermost-low b) rest in
    let s = respelt limits at a 1 (outermost-low a) (sign sg.Colon ∷ printed_expr b rest) in
    let r = leveled limits at 2 c (respelt limits at c)
    (sign sg.Question ∷ printed_expr a (sign sg.Colon ∷ printed_expr b rest)) in
    (conditional r.0 s.0 t.0, g.a_choice l r.0 s.0 t.0 _ _ _ _ _ _ h r.1 s.1 t.1, rw (r.2, s.2, t.2) refl)
