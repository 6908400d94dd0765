-- Trees whose canonical tokens may stand in a text and spell them, but for places: expressions, targets and what locals
-- begin with.
use Rattle.std.proofs.Common.{◌≡◌, ◌+◌, ◌≤◌, List, [], ◌∷◌, map, length, Bool, false, not, Option, Some, None, refl, sym, ap, subst, arith}
use Rattle.cas_base.specs.declared.kind.Kind.TheVariants.{I32}
use Rattle.cas_base.specs.declared.place.Place.{Place}
use Rattle.cas_lex.specs.declared.token.Sign.TheVariants as sg
use Rattle.cas_lex.specs.declared.token.Token.{Token}
use Rattle.cas_syntax.specs.declared.tree.Ident.{Ident}
use Rattle.cas_syntax.specs.Alike.{bare_ident, bare_expr, bare_target, bare_init, bare_option}
use Rattle.cas_syntax.specs.Tree.{ExprTree, literal, name, TargetTree, to_name, to_index, to_deref, InitTree, nothing, value, called}
use Rattle.cas_syntax.specs.Reading.{within}
use Rattle.cas_syntax.specs.Tokens as t
use Rattle.cas_syntax.specs.Expressions as g
use Rattle.cas_syntax.specs.Statements as g2
use Rattle.cas_print.specs.Pieces.{Piece, sign}
use Rattle.cas_print.specs.Expressions.{enclosed, printed_expr, listed}
use Rattle.cas_print.specs.Statements.{is_name_alone, printed_target, printed_init, printed_optional}
use Rattle.cas_print.proofs.Kept.{Keeps, kept_expr, stripped}
use Rattle.cas_print.proofs.Levels.{outermost-low}
use Rattle.cas_print.proofs.NoCall.{opens, no_call}
use Rattle.cas_print.proofs.Placed.{placed, length-placed}
use Rattle.cas_print.proofs.Respelt.{ident_at, respelt}
use Rattle.cas_print.proofs.Sound.{IsSound, Sound}

-- the pieces spell a tree that is the same but for places
abbrev pub SpellAgain : {A : Type 0} → (bare : A → A) → (A → List Token → List Token → Type 0) → (List Piece → Place) →
    A → (List Piece → List Piece) → Type 0
SpellAgain {A} bare IsSpelt at a inner = (rest : List Piece) → (b : A)
    × IsSpelt b (placed at (inner rest)) (placed at rest) × (bare b ≡ bare a)

-- the pieces may stand in a text, and do so
abbrev pub Printable : {A : Type 0} → (bare : A → A) → (A → List Token → List Token → Type 0) → (List Piece → Place) →
    A → (List Piece → List Piece) → Type 0
Printable bare IsSpelt at a inner = Keeps inner × SpellAgain bare IsSpelt at a inner

-- the same, where no `(` follows
abbrev pub PrintableBefore : {A : Type 0} → (bare : A → A) → (A → List Token → List Token → Type 0) →
    (List Piece → Place) → A → (List Piece → List Piece) → Type 0
PrintableBefore {A} bare IsSpelt at a inner =
    Keeps inner × ((rest : List Piece) → opens rest ≡ false → (b : A)
    × IsSpelt b (placed at (inner rest)) (placed at rest) × (bare b ≡ bare a))

abbrev pub ExprPrintable : (List Piece → Place) → ExprTree → Type 0
ExprPrintable at a = Printable bare_expr (g.SpellsExpr (within 0)) at a (printed_expr a)

-- an expression that stands in no other, where its tokens aren't too many
outer : (at : List Piece → Place) (a : ExprTree) →
    ((rest : List Piece) → length (printed_expr a rest) ≤ 1000 + length rest) →
    SpellAgain bare_expr (g.SpellsExpr (within 0)) at a (printed_expr a)
outer at a few rest =
    let r = respelt (within 0) at a 1 (outermost-low a) rest in
    let few_here = few rest in
    let all = length-placed at (printed_expr a rest) in
    let behind = length-placed at rest in
    (r.0, g.outermost r.0 _ _ (omega arith) r.1, r.2)

pub expr_printable : (at : List Piece → Place) (a : ExprTree) (s r : List Token) → g.SpellsExpr (within 0) a s r →
    Sound s → Sound r × ExprPrintable at a
expr_printable at a s r (g.outermost _ _ _ few spelt) h =
    let kept = stripped a s r (kept_expr 1 a s r (omega arith) spelt h) in
    (kept.0, (kept.1, outer at a (λ rest. let short = kept.2 rest in omega arith)))

-- 1, which is added by `++`
pub one_printable : (at : List Piece → Place) → ExprPrintable at (literal 1 I32)
one_printable at = ((λ rest sound. (omega arith, sound)), outer at (literal 1 I32) (λ rest. omega arith))

-- expressions with commas between

abbrev pub ExprsPrintable : (List Piece → Place) → List ExprTree → Type 0
ExprsPrintable at bs = Printable (map bare_expr) (g.SpellsExprs (within 0)) at bs (listed printed_expr bs)

more_exprs : (at : List Piece → Place) (a b : ExprTree) (cs : List ExprTree) → ExprPrintable at a →
    ExprsPrintable at (b ∷ cs) → ExprsPrintable at (a ∷ b ∷ cs)
more_exprs at a b cs first more = (
  (λ rest sound. first.0 _ (tt, more.0 rest sound)),
  λ rest.
      let f = more.1 rest in
      let e = first.1 (sign sg.Comma ∷ listed printed_expr (b ∷ cs) rest) in
      (e.0 ∷ f.0, g.one_of e.0 f.0 _ _ _ _ e.1 f.1, rw (e.2, f.2) refl),
)

join_exprs : (at : List Piece → Place) (a : ExprTree) (bs : List ExprTree) (u r : List Token) →
    g.SpellsExprs (within 0) bs u r → ExprPrintable at a → ExprsPrintable at bs → ExprsPrintable at (a ∷ bs)
join_exprs at a _ u r (g.last_of b _ _ spelt) first more = more_exprs at a b [] first more
join_exprs at a _ u r (g.one_of b cs p _ _ _ spelt others) first more = more_exprs at a b cs first more

pub exprs_printable : (at : List Piece → Place) (bs : List ExprTree) (s r : List Token) →
    g.SpellsExprs (within 0) bs s r → Sound s → Sound r × ExprsPrintable at bs
exprs_printable at _ s r (g.last_of a _ _ spelt) h =
    let e = expr_printable at a s r spelt h in
    (e.0, (e.1.0, λ rest. let f = e.1.1 rest in (f.0 ∷ [], g.last_of f.0 _ _ f.1, rw f.2 refl)))
exprs_printable at _ s r (g.one_of a bs p _ u _ spelt others) h =
    let e = expr_printable at a s (t.sign sg.Comma p ∷ u) spelt h in
    let f = exprs_printable at bs u r others e.0.1 in
    (f.0, join_exprs at a bs u r others e.1 f.1)

abbrev pub ArgumentsPrintable : (List Piece → Place) → List ExprTree → Type 0
ArgumentsPrintable at bs = Printable (map bare_expr) (g.SpellsArguments (within 0)) at bs (listed printed_expr bs)

pub arguments_printable : (at : List Piece → Place) (bs : List ExprTree) (s r : List Token) →
    g.SpellsArguments (within 0) bs s r → Sound s → Sound r × ArgumentsPrintable at bs
arguments_printable at _ s r (g.no_arguments _) h = (h, ((λ rest sound. sound), λ rest. ([], g.no_arguments _, refl)))
arguments_printable at _ s r (g.arguments bs _ _ spelt) h =
    let e = exprs_printable at bs s r spelt h in
    (e.0, (e.1.0, λ rest. let f = e.1.1 rest in (f.0, g.arguments f.0 _ _ f.1, f.2)))

-- targets

abbrev pub TargetPrintable : (List Piece → Place) → TargetTree → Type 0
TargetPrintable at target = Printable bare_target (g2.SpellsTarget (within 0)) at target (printed_target target)

in_parentheses_printable : (at : List Piece → Place) (a : ExprTree) → is_name_alone a ≡ false → ExprPrintable at a →
    TargetPrintable at (to_deref a)
in_parentheses_printable at a other e =
    subst (λ (b : Bool). Printable bare_target (g2.SpellsTarget (within 0)) at (to_deref a)
    (λ rest. sign sg.Star ∷ enclosed (not b) (printed_expr a) rest))
    (sym other) (
      (λ rest sound. (tt, (tt, e.0 _ (tt, sound)))),
      λ rest. let f = e.1 (sign sg.CloseParen ∷ rest) in
          (to_deref f.0, g2.behind_parentheses f.0 _ _ _ _ _ f.1, ap to_deref f.2),
    )

-- what a name points to
name_printable : (at : List Piece → Place) (x : Ident) → IsSound (t.ident x).kind →
    TargetPrintable at (to_deref (name x))
name_printable at x h = (
  (λ rest sound. (tt, (h, sound))),
  λ rest.
      (to_deref (name (ident_at x.name (at rest))), g2.behind_name _ _ _, refl),
)

-- what an expression points to
deref_printable : (at : List Piece → Place) (a : ExprTree) → ExprPrintable at a → TargetPrintable at (to_deref a)
deref_printable at (name x) e = name_printable at x (e.0 [] tt).0
deref_printable at a e = in_parentheses_printable at a refl e

pub target_printable : (at : List Piece → Place) (target : TargetTree) (s r : List Token) →
    g2.SpellsTarget (within 0) target s r → Sound s → Sound r × TargetPrintable at target
target_printable at _ s r (g2.a_variable x _) h =
    (h.1, ((λ rest sound. (h.0, sound)), λ rest. (to_name (ident_at x.name (at rest)), g2.a_variable _ _, refl)))
target_printable at _ _ r (g2.an_element x a p q s _ spelt) h =
    let e = expr_printable at a s (t.sign sg.CloseBracket q ∷ r) spelt h.1.1 in (
      e.0.1,
      (
        (λ rest sound. (h.0, (tt, e.1.0 _ (tt, sound)))),
        λ rest.
            let f = e.1.1 (sign sg.CloseBracket ∷ rest) in
            (to_index (ident_at x.name _) f.0, g2.an_element _ f.0 _ _ _ _ f.1, ap (to_index (bare_ident x)) f.2),
      ),
    )
target_printable at _ s r (g2.behind_name x p _) h = (h.1.1, name_printable at x h.1.0)
target_printable at _ _ r (g2.behind_parentheses a o p q s _ spelt) h =
    let e = expr_printable at a s (t.sign sg.CloseParen q ∷ r) spelt h.1.1 in
    (e.0.1, deref_printable at a e.1)

-- what locals begin with

abbrev pub InitPrintable : (List Piece → Place) → InitTree → Type 0
InitPrintable at a = PrintableBefore bare_init (g2.SpellsInit (within 0)) at a (printed_init a)

pub init_printable : (at : List Piece → Place) (a : InitTree) (s r : List Token) → g2.SpellsInit (within 0) a s r →
    Sound s → Sound r × InitPrintable at a
init_printable at _ s r (g2.no_value _) h = (h, ((λ rest sound. sound), λ rest free. (nothing, g2.no_value _, refl)))
init_printable at _ _ r (g2.a_value a p s _ allowed spelt) h =
    let e = expr_printable at a s r spelt h.1 in (
      e.0,
      (
        (λ rest sound. (tt, e.1.0 _ sound)),
        λ rest free. let f = e.1.1 rest in
            (value f.0, g2.a_value f.0 _ _ _ (no_call at a rest free) f.1, ap value f.2),
      ),
    )
init_printable at _ _ r (g2.a_result x bs p q q' s _ spelt) h =
    let e = arguments_printable at bs s (t.sign sg.CloseParen q' ∷ r) spelt h.1.1.1 in (
      e.0.1,
      (
        (λ rest sound. (tt, (h.1.0, (tt, e.1.0 _ (tt, sound))))),
        λ rest free.
            let f = e.1.1 (sign sg.CloseParen ∷ rest) in
            (called (ident_at x.name _) f.0, g2.a_result _ f.0 _ _ _ _ _ f.1, ap (called (bare_ident x)) f.2),
      ),
    )

-- an expression, or nothing

abbrev pub OptionalPrintable : (List Piece → Place) → Option ExprTree → Type 0
OptionalPrintable at a = Printable (bare_option bare_expr) (g2.SpellsOptional (within 0)) at a (printed_optional a)

pub optional_printable : (at : List Piece → Place) (a : Option ExprTree) (s r : List Token) →
    g2.SpellsOptional (within 0) a s r → Sound s → Sound r × OptionalPrintable at a
optional_printable at _ s r (g2.no_expr _) h = (h, ((λ rest sound. sound), λ rest. (None, g2.no_expr _, refl)))
optional_printable at _ s r (g2.an_expr a _ _ spelt) h =
    let e = expr_printable at a s r spelt h in
    (e.0, (e.1.0, λ rest. let f = e.1.1 rest in (Some f.0, g2.an_expr f.0 _ _ f.1, rw f.2 refl)))
