-- Assignments, calls and locals whose canonical tokens may stand in a text and spell them, but for places.
use Rattle.std.proofs.Common.{◌≡◌, List, ◌∷◌, false, Some, None, refl, sym, subst}
use Rattle.cas_base.specs.declared.kind.Kind.{Kind}
use Rattle.cas_base.specs.declared.kind.Kind.TheVariants.{U8, U16, I32}
use Rattle.cas_base.specs.declared.kind.Ty.TheVariants.{Int, Ptr, Array}
use Rattle.cas_base.specs.declared.place.Place.{Place}
use Rattle.cas_lex.specs.declared.token.Sign.{Sign}
use Rattle.cas_lex.specs.declared.token.Sign.TheVariants as sg
use Rattle.cas_lex.specs.declared.token.Token.{Token}
use Rattle.cas_syntax.specs.declared.tree.Ident.{Ident}
use Rattle.cas_syntax.specs.declared.tree.BinaryOperator.{BinaryOperator}
use Rattle.cas_syntax.specs.declared.tree.BinaryOperator.TheVariants.{Add, Sub}
use Rattle.cas_syntax.specs.Alike.{bare_stmt}
use Rattle.cas_syntax.specs.Tree.{ExprTree, literal, TargetTree, to_name, to_index, to_deref, nothing, StmtTree, declare, assign, call}
use Rattle.cas_syntax.specs.Operators.{assigning_sign}
use Rattle.cas_syntax.specs.Reading.{within}
use Rattle.cas_syntax.specs.Tokens as t
use Rattle.cas_syntax.specs.Expressions as g
use Rattle.cas_syntax.specs.Statements as g2
use Rattle.cas_print.specs.Pieces.{Piece, sign}
use Rattle.cas_print.specs.Expressions.{kind_words, printed_expr}
use Rattle.cas_print.specs.Statements.{sign_or_equal, printed_target, printed_part, printed_stmt, simple}
use Rattle.cas_print.proofs.Kept.{Keeps}
use Rattle.cas_print.proofs.NoCall.{opens, no_call, may_be_value}
use Rattle.cas_print.proofs.Placed.{placed}
use Rattle.cas_print.proofs.Printable.{PrintableBefore, ExprPrintable, expr_printable, one_printable, ArgumentsPrintable, arguments_printable, TargetPrintable, target_printable, init_printable}
use Rattle.cas_print.proofs.Respelt.{ident_at, respelt_kind}
use Rattle.cas_print.proofs.Sound.{Sound, IsPlainName}
use Rattle.cas_print.proofs.Numbers.{plain_sound}

-- as a statement it is printed with a semicolon
abbrev pub IsPart : StmtTree → Type 0
IsPart a = (rest : List Piece) → printed_stmt a rest ≡ simple a rest

-- an assignment or a call
abbrev pub SimplePrintable : (List Piece → Place) → StmtTree → Type 0
SimplePrintable at a = IsPart a × PrintableBefore bare_stmt (g2.SpellsSimple (within 0)) at a (printed_part a)

-- each target begins with a token
headed : (at : List Piece → Place) (target : TargetTree) (rest : List Piece) → (first : Token) × (s : List Token)
    × (placed at (printed_target target rest) ≡ first ∷ s)
headed at (to_name x) rest = (_, _, refl)
headed at (to_index x a) rest = (_, _, refl)
headed at (to_deref a) rest = (_, _, refl)

set_printable : (at : List Piece → Place) (p : Place) (target : TargetTree) (a : ExprTree) → TargetPrintable at target →
    ExprPrintable at a → SimplePrintable at (assign p target None a)
set_printable at p target a left right = (
  (λ rest. refl),
  (
    (λ rest sound. left.0 _ (tt, right.0 _ sound)),
    λ rest free.
        let e = right.1 rest in
        let ahead = sign sg.Equal ∷ printed_expr a rest in
        let f = left.1 ahead in
        let h = headed at target ahead in (
          assign h.0.place f.0 None e.0,
          subst (λ (ts : List Token). g2.SpellsSimple (within 0) (assign h.0.place f.0 None e.0) ts (placed at rest))
              (sym h.2)
              (g2.sets f.0 e.0 h.0 _ h.1 _ _
              (subst (λ (ts : List Token). g2.SpellsTarget (within 0) f.0 ts (placed at ahead)) h.2 f.1)
              (may_be_value f.0 (placed at (printed_expr a rest)) (no_call at a rest free)) e.1),
          rw (f.2, e.2) refl,
        ),
  ),
)

-- an operator that assigns has a sign of its own
own_sign : (op : BinaryOperator) (by : Sign) → assigning_sign op ≡ Some by →
    assigning_sign op ≡ Some (sign_or_equal (assigning_sign op))
own_sign op by is = rw (is) refl

change_printable : (at : List Piece → Place) (p : Place) (target : TargetTree) (op : BinaryOperator) (by : Sign)
    (a : ExprTree) → assigning_sign op ≡ Some by →
    TargetPrintable at target → ExprPrintable at a → SimplePrintable at (assign p target (Some op) a)
change_printable at p target op by a is left right = (
  (λ rest. refl),
  (
    (λ rest sound. left.0 _ (tt, right.0 _ sound)),
    λ rest free.
        let e = right.1 rest in
        let ahead = sign (sign_or_equal (assigning_sign op)) ∷ printed_expr a rest in
        let f = left.1 ahead in
        let h = headed at target ahead in (
          assign h.0.place f.0 (Some op) e.0,
          subst (λ (ts : List Token). g2.SpellsSimple (within 0) (assign h.0.place f.0 (Some op) e.0) ts
              (placed at rest)) (sym h.2)
              (g2.changes f.0 op (sign_or_equal (assigning_sign op)) e.0 h.0 _ h.1 _ _ (own_sign op by is)
              (subst (λ (ts : List Token). g2.SpellsTarget (within 0) f.0 ts (placed at ahead)) h.2 f.1) e.1),
          rw (f.2, e.2) refl,
        ),
  ),
)

kept_call_printable : (at : List Piece → Place) (p : Place) (x f : Ident) (bs : List ExprTree) → IsPlainName x.name →
    IsPlainName f.name → ArgumentsPrintable at bs →
    SimplePrintable at (call p (Some x) f bs)
kept_call_printable at p x f bs good better arguments = (
  (λ rest. refl),
  (
    (λ rest sound. (good, (tt, (better, (tt, arguments.0 _ (tt, sound)))))),
    λ rest free.
        let e = arguments.1 (sign sg.CloseParen ∷ rest) in (
          call _ (Some (ident_at x.name _)) (ident_at f.name _) e.0,
          g2.keeps_result (ident_at x.name _)
              (ident_at f.name _) e.0 _ _ _ _ _ e.1,
          rw e.2 refl,
        ),
  ),
)

call_printable : (at : List Piece → Place) (p : Place) (f : Ident) (bs : List ExprTree) → IsPlainName f.name →
    ArgumentsPrintable at bs → SimplePrintable at (call p None f bs)
call_printable at p f bs good arguments = (
  (λ rest. refl),
  (
    (λ rest sound. (good, (tt, arguments.0 _ (tt, sound)))),
    λ rest free.
        let e = arguments.1 (sign sg.CloseParen ∷ rest) in
        (call _ None (ident_at f.name _) e.0, g2.calls (ident_at f.name _) e.0 _ _ _ _ e.1, rw e.2 refl),
  ),
)

pub simple_printable : (at : List Piece → Place) (a : StmtTree) (s r : List Token) → g2.SpellsSimple (within 0) a s r →
    Sound s → Sound r × SimplePrintable at a
simple_printable at _ _ r (g2.sets target a first p s u _ left allowed right) h =
    let e = target_printable at target (first ∷ s) (t.sign sg.Equal p ∷ u) left h in
    let f = expr_printable at a u r right e.0.1 in
    (f.0, set_printable at first.place target a e.1 f.1)
simple_printable at _ _ r (g2.changes target op by a first p s u _ is left right) h =
    let e = target_printable at target (first ∷ s) (t.sign by p ∷ u) left h in
    let f = expr_printable at a u r right e.0.1 in
    (f.0, change_printable at first.place target op by a is e.1 f.1)
simple_printable at _ _ r (g2.increments target first p s _ left) h =
    let e = target_printable at target (first ∷ s) (t.sign sg.PlusPlus p ∷ r) left h in
    (e.0.1, change_printable at first.place target Add _ (literal 1 I32) refl e.1 (one_printable at))
simple_printable at _ _ r (g2.decrements target first p s _ left) h =
    let e = target_printable at target (first ∷ s) (t.sign sg.MinusMinus p ∷ r) left h in
    (e.0.1, change_printable at first.place target Sub _ (literal 1 I32) refl e.1 (one_printable at))
simple_printable at _ _ r (g2.increments_first target p s _ left) h =
    let e = target_printable at target s r left h.1 in
    (e.0, change_printable at p target Add _ (literal 1 I32) refl e.1 (one_printable at))
simple_printable at _ _ r (g2.decrements_first target p s _ left) h =
    let e = target_printable at target s r left h.1 in
    (e.0, change_printable at p target Sub _ (literal 1 I32) refl e.1 (one_printable at))
simple_printable at _ _ r (g2.keeps_result x f bs p q q' s _ spelt) h =
    let e = arguments_printable at bs s (t.sign sg.CloseParen q' ∷ r) spelt h.1.1.1.1 in
    (e.0.1, kept_call_printable at x.place x f bs h.0 h.1.1.0 e.1)
simple_printable at _ _ r (g2.calls f bs p q s _ spelt) h =
    let e = arguments_printable at bs s (t.sign sg.CloseParen q ∷ r) spelt h.1.1 in
    (e.0.1, call_printable at f.place f bs h.0 e.1)

-- a local, with the words of its kind
abbrev pub LocalPrintable : (List Piece → Place) → StmtTree → Type 0
LocalPrintable at a = IsPart a × Keeps (printed_part a) × ((rest : List Piece) → opens rest ≡ false →
    (kind : Kind) × (b : StmtTree) × (middle : List Token) × g.SpellsKind kind (placed at (printed_part a rest)) middle
    × g2.SpellsLocal (within 0) kind b middle (placed at rest) × (bare_stmt b ≡ bare_stmt a))

pub keeps_kind : (kind : Kind) → Keeps (kind_words kind)
keeps_kind U8 rest sound = (tt, (tt, sound))
keeps_kind U16 rest sound = (tt, (tt, sound))
keeps_kind _ rest sound = (tt, sound)

pub local_printable : (at : List Piece → Place) (kind : Kind) (a : StmtTree) (s r : List Token) →
    g2.SpellsLocal (within 0) kind a s r → Sound s → Sound r × LocalPrintable at a
local_printable at kind _ _ r (g2.variable x a s _ spelt) h =
    let e = init_printable at a s r spelt h.1 in (
      e.0,
      (
        (λ rest. refl),
        (λ rest sound. keeps_kind kind _ (h.0, e.1.0 _ sound)),
        λ rest free.
            let f = e.1.1 rest free in (
              kind,
              declare _ (Int kind) (ident_at x.name _) f.0,
              _,
              respelt_kind at kind _,
              g2.variable
                  (ident_at x.name _) f.0 _ _ f.1,
              rw f.2 refl,
            ),
      ),
    )
local_printable at kind _ _ r (g2.pointer x a p s _ spelt) h =
    let e = init_printable at a s r spelt h.1.1 in (
      e.0,
      (
        (λ rest. refl),
        (λ rest sound. keeps_kind kind _ (tt, (h.1.0, e.1.0 _ sound))),
        λ rest free.
            let f = e.1.1 rest free in (
              kind,
              declare _ (Ptr kind) (ident_at x.name _) f.0,
              _,
              respelt_kind at kind _,
              g2.pointer
                  (ident_at x.name _) f.0 _ _ _ f.1,
              rw f.2 refl,
            ),
      ),
    )
local_printable at kind _ _ r (g2.array x n j p o q _) h = (
  h.1.1.1.1,
  (
    (λ rest. refl),
    (λ rest sound. keeps_kind kind _ (h.0, (tt, (plain_sound n j h.1.1.0, (tt, sound))))),
    λ rest free. (
      kind,
      declare _ (Array kind n) (ident_at x.name _) nothing,
      _,
      respelt_kind at kind _,
      g2.array
          (ident_at x.name _) n _ _ _ _ _,
      refl,
    ),
  ),
)
local_printable at kind _ _ r (g2.pointer_to_pointer p q _ left_out) h = cc
local_printable at kind _ _ r (g2.pointers x p q _ left_out) h = cc
local_printable at kind _ _ r (g2.arrays x n j p o q q' _ left_out) h = cc
local_printable at kind _ _ r (g2.array_values x n j p o q q' _ left_out) h = cc
