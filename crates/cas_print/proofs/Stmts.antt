-- Statements whose canonical tokens may stand in a text and spell them, but for places.
use Rattle.std.proofs.Common.{◌≡◌, ℕ, ◌+◌, ◌<◌, inl, inr, List, ◌∷◌, false, Option, refl, sym, ap, subst, ◌∙◌, arith}
use Rattle.cas_base.specs.declared.kind.Kind.{Kind}
use Rattle.cas_base.specs.declared.place.Place.{Place}
use Rattle.cas_lex.specs.declared.token.Sign.TheVariants as sg
use Rattle.cas_lex.specs.declared.token.Token.{Token}
use Rattle.cas_lex.specs.declared.token.Word.{Word}
use Rattle.cas_lex.specs.declared.token.Word.TheVariants as w
use Rattle.cas_syntax.specs.Alike.{nowhere, bare_stmt, bare_stmts, bare_stmt_option}
use Rattle.cas_syntax.specs.Limits.{AllowsDepth}
use Rattle.cas_syntax.specs.Tree.{ExprTree, StmtTree, skip, block, if_, while_, do_, for_, break_, continue_, return_, lock, unlock, print, StmtOption, absent, present, StmtList, no_more, one_more}
use Rattle.cas_syntax.specs.Reading.{within}
use Rattle.cas_syntax.specs.Tokens as t
use Rattle.cas_syntax.specs.Expressions as g
use Rattle.cas_syntax.specs.Statements as g2
use Rattle.cas_syntax.specs.Statements.{dangles}
use Rattle.cas_print.specs.Pieces.{Piece, word, sign, end_of_line}
use Rattle.cas_print.specs.Statements.{printed_part_option, printed_optional, printed_stmt, printed_stmts, in_parentheses}
use Rattle.cas_print.proofs.Dangling.{dangles-bare}
use Rattle.cas_print.proofs.Kept.{kept_kind}
use Rattle.cas_print.proofs.Parts.{SimplePrintable, simple_printable, LocalPrintable, local_printable}
use Rattle.cas_print.proofs.Placed.{placed}
use Rattle.cas_print.proofs.Printable.{Printable, PrintableBefore, ExprPrintable, expr_printable, OptionalPrintable, optional_printable}
use Rattle.cas_print.proofs.Respelt.{ident_at}
use Rattle.cas_print.proofs.Sound.{Sound, SoundPieces}

abbrev pub StmtPrintable : (List Piece → Place) → ℕ → StmtTree → Type 0
StmtPrintable at n a = Printable bare_stmt (g2.SpellsStmt (within 0) n) at a (printed_stmt a)

abbrev pub StmtsPrintable : (List Piece → Place) → ℕ → StmtList → Type 0
StmtsPrintable at n bs = Printable bare_stmts (g2.SpellsStmts (within 0) n) at bs (printed_stmts bs)

-- depths

abbrev BeginsWithToken : List Token → Type 0
BeginsWithToken s = (first : Token) × (rest : List Token) × (s ≡ first ∷ rest)

depth_at : (n : ℕ) (first : Token) (s : List Token) → AllowsDepth (within 0) n (first ∷ s) → n < 200
depth_at n first s (inl h) = h
depth_at n first s (inr h) = absurd (omega arith)

depth_of : (n : ℕ) (s : List Token) → BeginsWithToken s → AllowsDepth (within 0) n s → n < 200
depth_of n s b h = depth_at n b.0 b.1 (subst (λ (ts : List Token). AllowsDepth (within 0) n ts) b.2 h)

simple_begins : (a : StmtTree) (s r : List Token) → g2.SpellsSimple (within 0) a s r → BeginsWithToken s
simple_begins _ _ r (g2.sets target a first p s u _ left allowed right) = (_, _, refl)
simple_begins _ _ r (g2.changes target op by a first p s u _ is left right) = (_, _, refl)
simple_begins _ _ r (g2.increments target first p s _ left) = (_, _, refl)
simple_begins _ _ r (g2.decrements target first p s _ left) = (_, _, refl)
simple_begins _ _ r (g2.increments_first target p s _ left) = (_, _, refl)
simple_begins _ _ r (g2.decrements_first target p s _ left) = (_, _, refl)
simple_begins _ _ r (g2.keeps_result x f bs p q q' s _ spelt) = (_, _, refl)
simple_begins _ _ r (g2.calls f bs p q s _ spelt) = (_, _, refl)

perhaps_begins : (which : Word) (s : List Token) (first : Token) (r : List Token) → g.Perhaps which s (first ∷ r) →
    BeginsWithToken s
perhaps_begins which _ first r (g.without _) = (_, _, refl)
perhaps_begins which _ first r (g.with_it p _) = (_, _, refl)

kind_begins : (kind : Kind) (s r : List Token) → g.SpellsKind kind s r → BeginsWithToken s
kind_begins _ s r (g.char p _ _ before) = perhaps_begins _ _ _ _ before
kind_begins _ s r (g.unsigned_char p q _) = (_, _, refl)
kind_begins _ s r (g.short p _ u _ before behind) = perhaps_begins _ _ _ _ before
kind_begins _ s r (g.unsigned_short p q u _ behind) = (_, _, refl)
kind_begins _ s r (g.int p _) = (_, _, refl)
kind_begins _ s r (g.signed p u _ behind) = (_, _, refl)
kind_begins _ s r (g.unsigned p u _ behind) = (_, _, refl)

-- statements of one part

simple_stmt : (at : List Piece → Place) (n : ℕ) (a : StmtTree) → n < 200 → SimplePrintable at a → StmtPrintable at n a
simple_stmt at n a deep part = (
  (λ rest sound. subst SoundPieces (sym (part.0 rest)) (part.1.0 _ (tt, sound))),
  λ rest.
      let d = part.1.1 (end_of_line sg.Semicolon ∷ rest) refl in (
        d.0,
        subst (λ (ps : List Piece). g2.SpellsStmt (within 0) n d.0 (placed at ps) (placed at rest)) (sym (part.0 rest))
            (g2.simple n d.0 _ _ _ (inl deep) d.1),
        d.2,
      ),
)

local_before : (at : List Piece → Place) (n : ℕ) (a : StmtTree) (bs : StmtList) → n < 200 → LocalPrintable at a →
    StmtsPrintable at n bs → StmtsPrintable at n (one_more a bs)
local_before at n a bs deep local behind = (
  (λ rest sound. subst SoundPieces (sym (local.0 (printed_stmts bs rest))) (local.1 _ (tt, behind.0 rest sound))),
  λ rest.
      let f = behind.1 rest in
      let d = local.2 (end_of_line sg.Semicolon ∷ printed_stmts bs rest) refl in (
        one_more d.1 f.0,
        subst (λ (ps : List Piece). g2.SpellsStmts (within 0) n (one_more d.1 f.0) (placed at ps) (placed at rest))
            (sym (local.0 (printed_stmts bs rest)))
            (g2.locals n d.0 (one_more d.1 f.0) f.0 _ _ d.2 _ _ (inl deep) d.3 (g2.last_local d.1 f.0 _ _ d.4) f.1),
        rw (d.5, f.2) refl,
      ),
)

locals_printable : (at : List Piece → Place) (n : ℕ) (kind : Kind) (bs behind : StmtList) (s r : List Token) → n < 200 →
    g2.SpellsLocals (within 0) kind bs behind s r → Sound s →
    Sound r × (StmtsPrintable at n behind → StmtsPrintable at n bs)
locals_printable at n kind _ behind s r deep (g2.last_local a _ _ _ spelt) h =
    let e = local_printable at kind a s r spelt h in
    (e.0, λ more. local_before at n a behind deep e.1 more)
locals_printable at n kind _ behind s r deep (g2.one_local a bs _ p _ u _ spelt others) h =
    let e = local_printable at kind a s (t.sign sg.Comma p ∷ u) spelt h in
    let f = locals_printable at n kind bs behind u r deep others e.0.1 in
    (f.0, λ more. local_before at n a bs deep e.1 (f.1 more))

-- the parts of a `for`

abbrev FirstPrintable : (List Piece → Place) → ℕ → StmtOption → Type 0
FirstPrintable at n a = PrintableBefore bare_stmt_option (g2.SpellsFirst (within 0) n) at a (printed_part_option a)

first_printable : (at : List Piece → Place) (n : ℕ) (a : StmtOption) (s r : List Token) →
    g2.SpellsFirst (within 0) n a s r → Sound s → Sound r × FirstPrintable at n a
first_printable at n _ s r (g2.nothing_first _) h =
    (h, ((λ rest sound. sound), λ rest free. (absent, g2.nothing_first _, refl)))
first_printable at n _ s r (g2.simple_first a _ _ allowed spelt) h =
    let deep = depth_of n s (simple_begins a s r spelt) allowed in
    let e = simple_printable at a s r spelt h in (
      e.0,
      (
        e.1.1.0,
        λ rest free. let d = e.1.1.1 rest free in
            (present d.0, g2.simple_first d.0 _ _ (inl deep) d.1, ap present d.2),
      ),
    )
first_printable at n _ s r (g2.local_first kind a _ u _ allowed words spelt) h =
    let deep = depth_of n s (kind_begins kind s u words) allowed in
    let f = kept_kind kind s u words h in
    let e = local_printable at kind a u r spelt f.0 in (
      e.0,
      (
        e.1.1,
        λ rest free. let d = e.1.2 rest free in
            (present d.1, g2.local_first d.0 d.1 _ d.2 _ (inl deep) d.3 d.4, ap present d.5),
      ),
    )

abbrev AfterPrintable : (List Piece → Place) → ℕ → StmtOption → Type 0
AfterPrintable at n a = PrintableBefore bare_stmt_option (g2.SpellsAfter (within 0) n) at a (printed_part_option a)

after_printable : (at : List Piece → Place) (n : ℕ) (a : StmtOption) (s r : List Token) →
    g2.SpellsAfter (within 0) n a s r → Sound s → Sound r × AfterPrintable at n a
after_printable at n _ s r (g2.nothing_after _) h =
    (h, ((λ rest sound. sound), λ rest free. (absent, g2.nothing_after _, refl)))
after_printable at n _ s r (g2.simple_after a _ _ allowed spelt) h =
    let deep = depth_of n s (simple_begins a s r spelt) allowed in
    let e = simple_printable at a s r spelt h in (
      e.0,
      (
        e.1.1.0,
        λ rest free. let d = e.1.1.1 rest free in
            (present d.0, g2.simple_after d.0 _ _ (inl deep) d.1, ap present d.2),
      ),
    )

-- statements of several parts

block_printable : (at : List Piece → Place) (n : ℕ) (p : Place) (bs : StmtList) → n < 200 →
    StmtsPrintable at (n + 1) bs → StmtPrintable at n (block p bs)
block_printable at n p bs deep inner = (
  (λ rest sound. (tt, inner.0 _ (tt, sound))),
  λ rest. let d = inner.1 (end_of_line sg.CloseBrace ∷ rest) in
      (block _ d.0, g2.blocks n d.0 _ _ _ _ (inl deep) d.1, ap (block nowhere) d.2),
)

if_printable : (at : List Piece → Place) (n : ℕ) (p : Place) (c : ExprTree) (a : StmtTree) → n < 200 →
    ExprPrintable at c → StmtPrintable at (n + 1) a →
    StmtPrintable at n (if_ p c a absent)
if_printable at n p c a deep condition first = (
  (λ rest sound. (tt, (tt, condition.0 _ (tt, first.0 _ sound)))),
  λ rest.
      let e = first.1 rest in
      let d = condition.1 (sign sg.CloseParen ∷ printed_stmt a rest) in
      (if_ _ d.0 e.0 absent, g2.ifs n d.0 e.0 _ _ _ _ _ _ (inl deep) d.1 e.1, rw (d.2, e.2) refl),
)

if_else_printable : (at : List Piece → Place) (n : ℕ) (p : Place) (c : ExprTree) (a b : StmtTree) → n < 200 →
    dangles a ≡ false → ExprPrintable at c → StmtPrintable at (n + 1) a →
    StmtPrintable at (n + 1) b → StmtPrintable at n (if_ p c a (present b))
if_else_printable at n p c a b deep closed condition first second = (
  (λ rest sound. (tt, (tt, condition.0 _ (tt, first.0 _ (tt, second.0 _ sound))))),
  λ rest.
      let f = second.1 rest in
      let e = first.1 (word w.Else ∷ printed_stmt b rest) in
      let d = condition.1 (sign sg.CloseParen ∷ printed_stmt a (word w.Else ∷ printed_stmt b rest)) in
      let still : dangles e.0 ≡ false = sym (dangles-bare e.0) ∙ ap dangles e.2 ∙ dangles-bare a ∙ closed in (
        if_ _ d.0 e.0 (present f.0),
        g2.if_elses n d.0 e.0 f.0 _ _ _ _ _ _ _ _ (inl deep) d.1 e.1 still f.1,
        rw
            (d.2, e.2, f.2) refl,
      ),
)

while_printable : (at : List Piece → Place) (n : ℕ) (p : Place) (c : ExprTree) (a : StmtTree) → n < 200 →
    ExprPrintable at c → StmtPrintable at (n + 1) a → StmtPrintable at n (while_ p c a)
while_printable at n p c a deep condition body = (
  (λ rest sound. (tt, (tt, condition.0 _ (tt, body.0 _ sound)))),
  λ rest.
      let e = body.1 rest in
      let d = condition.1 (sign sg.CloseParen ∷ printed_stmt a rest) in
      (while_ _ d.0 e.0, g2.whiles n d.0 e.0 _ _ _ _ _ _ (inl deep) d.1 e.1, rw (d.2, e.2) refl),
)

do_printable : (at : List Piece → Place) (n : ℕ) (p : Place) (a : StmtTree) (c : ExprTree) → n < 200 →
    StmtPrintable at (n + 1) a → ExprPrintable at c → StmtPrintable at n (do_ p a c)
do_printable at n p a c deep body condition = (
  (λ rest sound. (tt, body.0 _ (tt, (tt, condition.0 _ (tt, (tt, sound)))))),
  λ rest.
      let d = condition.1 (sign sg.CloseParen ∷ end_of_line sg.Semicolon ∷ rest) in
      let e = body.1 (word w.While ∷ in_parentheses c (end_of_line sg.Semicolon ∷ rest)) in
      (do_ _ e.0 d.0, g2.dos n e.0 d.0 _ _ _ _ _ _ _ _ (inl deep) e.1 d.1, rw (d.2, e.2) refl),
)

for_printable : (at : List Piece → Place) (n : ℕ) (p : Place) (i : StmtOption) (c : Option ExprTree) (u : StmtOption)
    (a : StmtTree) → n < 200 → FirstPrintable at (n + 1) i →
    OptionalPrintable at c → AfterPrintable at (n + 1) u → StmtPrintable at (n + 1) a →
    StmtPrintable at n (for_ p i c u a)
for_printable at n p i c u a deep first condition after body = (
  (λ rest sound. (tt, (tt, first.0 _ (tt, condition.0 _ (tt, after.0 _ (tt, body.0 _ sound)))))),
  λ rest.
      let behind = sign sg.CloseParen ∷ printed_stmt a rest in
      let middle = sign sg.Semicolon ∷ printed_part_option u behind in
      let d = body.1 rest in
      let e = after.1 behind refl in
      let f = condition.1 middle in
      let h = first.1 (sign sg.Semicolon ∷ printed_optional c middle) refl in (
        for_ _ h.0 f.0 e.0 d.0,
        g2.fors n h.0 f.0 e.0 d.0 _ _ _ _ _ _ _ _ _ _ (inl deep) h.1 f.1 e.1 d.1,
        rw
            (d.2, e.2, f.2, h.2) refl,
      ),
)

return_printable : (at : List Piece → Place) (n : ℕ) (p : Place) (a : Option ExprTree) → n < 200 →
    OptionalPrintable at a → StmtPrintable at n (return_ p a)
return_printable at n p a deep value = (
  (λ rest sound. (tt, value.0 _ (tt, sound))),
  λ rest. let d = value.1 (end_of_line sg.Semicolon ∷ rest) in
      (return_ _ d.0, g2.returns n d.0 _ _ _ _ (inl deep) d.1, ap (return_ nowhere) d.2),
)

print_printable : (at : List Piece → Place) (n : ℕ) (p : Place) (a : ExprTree) → n < 200 → ExprPrintable at a →
    StmtPrintable at n (print p a)
print_printable at n p a deep value = (
  (λ rest sound. (tt, (tt, value.0 _ (tt, (tt, sound))))),
  λ rest.
      let d = value.1 (sign sg.CloseParen ∷ end_of_line sg.Semicolon ∷ rest) in
      (print _ d.0, g2.prints n d.0 _ _ _ _ _ _ (inl deep) d.1, ap (print nowhere) d.2),
)

mutual
  pub stmt_printable : (at : List Piece → Place) (n : ℕ) (a : StmtTree) (s r : List Token) →
      g2.SpellsStmt (within 0) n a s r → Sound s → Sound r × StmtPrintable at n a
  stmt_printable at n _ _ r (g2.skips _ p _ allowed) h = (
    h.1,
    (
      (λ rest sound. (tt, sound)),
      λ rest.
          (skip _, g2.skips n _ _ (inl (depth_at n (t.sign sg.Semicolon p) r allowed)), refl),
    ),
  )
  stmt_printable at n _ _ r (g2.blocks _ bs p q s _ allowed inner) h =
      let e = stmts_printable at (n + 1) bs s (t.sign sg.CloseBrace q ∷ r) inner h.1 in
      (e.0.1, block_printable at n p bs (depth_at n (t.sign sg.OpenBrace p) s allowed) e.1)
  stmt_printable at n a s r (g2.simple _ _ p _ _ allowed spelt) h =
      let e = simple_printable at a s (t.sign sg.Semicolon p ∷ r) spelt h in
      (e.0.1, simple_stmt at n a (depth_of n s (simple_begins a s _ spelt) allowed) e.1)
  stmt_printable at n _ _ r (g2.ifs _ c a p q q' s u _ allowed condition first) h =
      let d = expr_printable at c s (t.sign sg.CloseParen q' ∷ u) condition h.1.1 in
      let e = stmt_printable at (n + 1) a u r first d.0.1 in
      (e.0, if_printable at n p c a (depth_at n (t.word w.If p) (t.sign sg.OpenParen q ∷ s) allowed) d.1 e.1)
  stmt_printable at n _ _ r (g2.if_elses _ c a b p q q' o s u v _ allowed condition first closed second) h =
      let d = expr_printable at c s (t.sign sg.CloseParen q' ∷ u) condition h.1.1 in
      let e = stmt_printable at (n + 1) a u (t.word w.Else o ∷ v) first d.0.1 in
      let f = stmt_printable at (n + 1) b v r second e.0.1 in (
        f.0,
        if_else_printable at n p c a b (depth_at n (t.word w.If p) (t.sign sg.OpenParen q ∷ s) allowed)
            closed d.1 e.1 f.1,
      )
  stmt_printable at n _ _ r (g2.whiles _ c a p q q' s u _ allowed condition body) h =
      let d = expr_printable at c s (t.sign sg.CloseParen q' ∷ u) condition h.1.1 in
      let e = stmt_printable at (n + 1) a u r body d.0.1 in
      (e.0, while_printable at n p c a (depth_at n (t.word w.While p) (t.sign sg.OpenParen q ∷ s) allowed) d.1 e.1)
  stmt_printable at n _ _ r (g2.dos _ a c p o q q' o' s u _ allowed body condition) h =
      let e = stmt_printable at (n + 1) a s (t.word w.While o ∷ t.sign sg.OpenParen q ∷ u) body h.1 in
      let d = expr_printable at c u (t.sign sg.CloseParen q' ∷ t.sign sg.Semicolon o' ∷ r) condition e.0.1.1 in
      (d.0.1.1, do_printable at n p a c (depth_at n (t.word w.Do p) s allowed) e.1 d.1)
  stmt_printable at n _ _ r (g2.fors _ i c v a p q x y z s u u' u'' _ allowed first condition after body) h =
      let d = first_printable at (n + 1) i s (t.sign sg.Semicolon x ∷ u) first h.1.1 in
      let e = optional_printable at c u (t.sign sg.Semicolon y ∷ u') condition d.0.1 in
      let f = after_printable at (n + 1) v u' (t.sign sg.CloseParen z ∷ u'') after e.0.1 in
      let k = stmt_printable at (n + 1) a u'' r body f.0.1 in (
        k.0,
        for_printable at n p i c v a (depth_at n (t.word w.For p) (t.sign sg.OpenParen q ∷ s) allowed)
            d.1 e.1 f.1 k.1,
      )
  stmt_printable at n _ _ r (g2.breaks _ p q _ allowed) h = (
    h.1.1,
    (
      (λ rest sound. (tt, (tt, sound))),
      λ rest. (
        break_ _,
        g2.breaks n _ _ _ (inl (depth_at n (t.word w.Break p) (t.sign sg.Semicolon q ∷ r) allowed)),
        refl,
      ),
    ),
  )
  stmt_printable at n _ _ r (g2.continues _ p q _ allowed) h = (
    h.1.1,
    (
      (λ rest sound. (tt, (tt, sound))),
      λ rest. (
        continue_ _,
        g2.continues n _ _ _
            (inl (depth_at n (t.word w.Continue p) (t.sign sg.Semicolon q ∷ r) allowed)),
        refl,
      ),
    ),
  )
  stmt_printable at n _ _ r (g2.returns _ a p q s _ allowed value) h =
      let e = optional_printable at a s (t.sign sg.Semicolon q ∷ r) value h.1 in
      (e.0.1, return_printable at n p a (depth_at n (t.word w.Return p) s allowed) e.1)
  stmt_printable at n _ _ r (g2.locks _ x p q q' o _ allowed) h = (
    h.1.1.1.1.1,
    (
      (λ rest sound. (tt, (tt, (h.1.1.0, (tt, (tt, sound)))))),
      λ rest. (
        lock _ (ident_at x.name _),
        g2.locks n (ident_at x.name _) _ _ _ _ _
            (inl (depth_at n (t.word w.Lock p)
            (t.sign sg.OpenParen q ∷ t.ident x ∷ t.sign sg.CloseParen q' ∷ t.sign sg.Semicolon o ∷ r) allowed)),
        refl,
      ),
    ),
  )
  stmt_printable at n _ _ r (g2.unlocks _ x p q q' o _ allowed) h = (
    h.1.1.1.1.1,
    (
      (λ rest sound. (tt, (tt, (h.1.1.0, (tt, (tt, sound)))))),
      λ rest. (
        unlock _ (ident_at x.name _),
        g2.unlocks n (ident_at x.name _) _ _ _ _ _
            (inl (depth_at n (t.word w.Unlock p)
            (t.sign sg.OpenParen q ∷ t.ident x ∷ t.sign sg.CloseParen q' ∷ t.sign sg.Semicolon o ∷ r) allowed)),
        refl,
      ),
    ),
  )
  stmt_printable at n _ _ r (g2.prints _ a p q q' o s _ allowed value) h =
      let e = expr_printable at a s (t.sign sg.CloseParen q' ∷ t.sign sg.Semicolon o ∷ r) value h.1.1 in
      (e.0.1.1, print_printable at n p a (depth_at n (t.word w.Print p) (t.sign sg.OpenParen q ∷ s) allowed) e.1)

  pub stmts_printable : (at : List Piece → Place) (n : ℕ) (bs : StmtList) (s r : List Token) →
      g2.SpellsStmts (within 0) n bs s r → Sound s → Sound r × StmtsPrintable at n bs
  stmts_printable at n _ s r (g2.ended _ _) h = (h, ((λ rest sound. sound), λ rest. (no_more, g2.ended n _, refl)))
  stmts_printable at n _ s r (g2.a_stmt _ a bs _ u _ first others) h =
      let e = stmt_printable at n a s u first h in
      let f = stmts_printable at n bs u r others e.0 in (
        f.0,
        (
          (λ rest sound. e.1.0 _ (f.1.0 rest sound)),
          λ rest.
              let i = f.1.1 rest in
              let d = e.1.1 (printed_stmts bs rest) in
              (one_more d.0 i.0, g2.a_stmt n d.0 i.0 _ _ _ d.1 i.1, rw (d.2, i.2) refl),
        ),
      )
  stmts_printable at n bs s r (g2.locals _ kind _ behind p _ u v _ allowed words spelt others) h =
      let deep = depth_of n s (kind_begins kind s u words) allowed in
      let d = kept_kind kind s u words h in
      let e = locals_printable at n kind bs behind u (t.sign sg.Semicolon p ∷ v) deep spelt d.0 in
      let f = stmts_printable at n behind v r others e.0.1 in
      (f.0, e.1 f.1)
