-- Items whose canonical tokens may stand in a text and spell them, but for places.
use Rattle.std.proofs.Common.{ℕ, List, [], ◌∷◌, map, Bool, true, false, Option, Some, refl}
use Rattle.cas_base.specs.declared.decl.Form.TheVariants.{Lock, Shared, Table, Function}
use Rattle.cas_base.specs.declared.kind.Ty.{Ty}
use Rattle.cas_base.specs.declared.place.Place.{Place}
use Rattle.cas_lex.specs.declared.token.Sign.TheVariants as sg
use Rattle.cas_lex.specs.declared.token.Token.{Token}
use Rattle.cas_lex.specs.declared.token.Word.TheVariants as w
use Rattle.cas_syntax.specs.declared.tree.Ident.{Ident}
use Rattle.cas_syntax.specs.Alike.{bare_item}
use Rattle.cas_syntax.specs.Tree.{StmtList, ItemTree, global, prototype, define}
use Rattle.cas_syntax.specs.Reading.{within}
use Rattle.cas_syntax.specs.Tokens as t
use Rattle.cas_syntax.specs.Items as g3
use Rattle.cas_syntax.specs.Items.{declared}
use Rattle.cas_print.specs.Pieces.{Piece, word, sign, end_of_line, named}
use Rattle.cas_print.specs.Statements.{printed_stmts}
use Rattle.cas_print.specs.Items.{printed_extern, printed_cells, printed_parameters, printed_holds, printed_item, printed_items}
use Rattle.cas_print.proofs.Heads.{ReturnPrintable, return_printable, ParametersPrintable, parameters_printable, no_names, unnamed_printable, named_printable, HoldsPrintable, holds_printable, nowhere-places}
use Rattle.cas_print.proofs.Initial.{CellsPrintable, cells_printable}
use Rattle.cas_print.proofs.Kept.{Keeps, kept_kind}
use Rattle.cas_print.proofs.Placed.{placed}
use Rattle.cas_print.proofs.Printable.{Printable}
use Rattle.cas_print.proofs.Respelt.{ident_at}
use Rattle.cas_print.proofs.Sound.{Sound, IsPlainName}
use Rattle.cas_print.proofs.Stmts.{StmtsPrintable, stmts_printable}

extern_left : (d : Bool) (s r : List Token) → g3.SpellsExtern d s r → Sound s → Sound r
extern_left _ s r (g3.here _) h = h
extern_left _ s r (g3.elsewhere p _) h = h.1

keeps_extern : (d : Bool) → Keeps (printed_extern d)
keeps_extern true rest sound = sound
keeps_extern false rest sound = (tt, sound)

extern_again : (at : List Piece → Place) (d : Bool) (rest : List Piece) →
    g3.SpellsExtern d (placed at (printed_extern d rest)) (placed at rest)
extern_again at true rest = g3.here _
extern_again at false rest = g3.elsewhere _ _

abbrev ItemPrintable : (List Piece → Place) → ItemTree → Type 0
ItemPrintable at a = Printable bare_item (g3.SpellsItem (within 0)) at a (printed_item a)

lock_printable : (at : List Piece → Place) (x : Ident) (d : Bool) → IsPlainName x.name →
    ItemPrintable at (global (declared x.name Lock d) [] x.place)
lock_printable at x d good = (
  (λ rest sound. keeps_extern d _ (tt, (good, (tt, sound)))),
  λ rest. (global (declared x.name Lock d) [] _, g3.a_lock (ident_at x.name _) d _ _ _ _ (extern_again at d _), refl),
)

shared_printable : (at : List Piece → Place) (x guard : Ident) (ty : Ty) (vs : List ℕ) (d : Bool) →
    IsPlainName guard.name → CellsPrintable at d ty x.name vs →
    ItemPrintable at (global (declared x.name (Shared ty guard.name) d) vs x.place)
shared_printable at x guard ty vs d good cells = (
  (λ rest sound. keeps_extern d _ (tt, (tt, (good, (tt, cells.0 _ (tt, sound)))))),
  λ rest.
      let e = cells.1 (end_of_line sg.Semicolon ∷ rest) in (
        global (declared x.name (Shared ty guard.name) d) vs e.2,
        g3.a_shared (ident_at x.name e.2) (ident_at guard.name _) e.0 ty vs d _ _ _ _ _ _ e.1 _
            (extern_again at d
            (word w.Shared ∷ sign sg.OpenParen ∷ named guard.name ∷ sign sg.CloseParen ∷ printed_cells ty x.name vs
            (end_of_line sg.Semicolon ∷ rest))) e.3 e.4,
        refl,
      ),
)

table_printable : (at : List Piece → Place) (x : Ident) (ty : Ty) (vs : List ℕ) (d : Bool) →
    CellsPrintable at d ty x.name vs →
    ItemPrintable at (global (declared x.name (Table ty) d) vs x.place)
table_printable at x ty vs d cells = (
  (λ rest sound. keeps_extern d _ (tt, cells.0 _ (tt, sound))),
  λ rest.
      let e = cells.1 (end_of_line sg.Semicolon ∷ rest) in (
        global (declared x.name (Table ty) d) vs e.2,
        g3.a_table (ident_at x.name e.2) e.0 ty vs d _ _ _ _ e.1 _
            (extern_again at d (word w.Const ∷ printed_cells ty x.name vs (end_of_line sg.Semicolon ∷ rest))) e.3 e.4,
        refl,
      ),
)

prototype_printable : (at : List Piece → Place) (x : Ident) (ret : Ty) (tys : List Ty) (xs : List (Option Ident))
    (holds : List Ident) → IsPlainName x.name →
    ReturnPrintable at ret → ParametersPrintable at tys xs → HoldsPrintable at holds →
    ItemPrintable at (prototype (declared x.name (Function ret tys (g3.names_alone holds)) false)
    (g3.places_alone holds) x.place)
prototype_printable at x ret tys xs holds good returns parameters locks =
    let names = unnamed_printable at tys xs parameters in (
      (λ rest sound. returns.0 _ (good, (tt, names.0 _ (tt, locks.0 _ (tt, sound))))),
      λ rest.
          let behind = printed_holds (g3.names_alone holds) (end_of_line sg.Semicolon ∷ rest) in
          let inner = printed_parameters tys [] (sign sg.CloseParen ∷ behind) in
          let h = locks.1 (end_of_line sg.Semicolon ∷ rest) in (
            prototype (declared x.name (Function ret tys (g3.names_alone h.0)) false) (g3.places_alone h.0) _,
            g3.a_prototype (ident_at x.name _) (Function ret tys (g3.names_alone h.0)) (no_names tys)
                (g3.places_alone h.0) true _ _ _ _ (g3.here _)
                (g3.head (ident_at x.name _) ret tys (no_names tys) h.0 _ _ _ _ _ _
                (returns.1 (named x.name ∷ sign sg.OpenParen ∷ inner)) (names.1 (sign sg.CloseParen ∷ behind)) h.1),
            rw (h.2, nowhere-places holds h.0 h.3) refl,
          ),
    )

function_printable : (at : List Piece → Place) (x : Ident) (ret : Ty) (tys : List Ty) (xs : List Ident)
    (holds : List Ident) (body : StmtList) (closing : Place) → IsPlainName x.name →
    ReturnPrintable at ret → ParametersPrintable at tys (map Some xs) → HoldsPrintable at holds →
    StmtsPrintable at 0 body →
    ItemPrintable at
    (define (record {
      decl = declared x.name (Function ret tys (g3.names_alone holds)) true;
      params = xs;
      held =
          g3.places_alone holds;
      body = body;
      place = x.place;
      closing = closing;
    }))
function_printable at x ret tys xs holds body closing good returns parameters locks statements =
    let names = named_printable at tys xs parameters in (
      (λ rest sound. returns.0 _ (good, (tt, names.0 _ (tt, locks.0 _ (tt, statements.0 _ (tt, sound)))))),
      λ rest.
          let d = statements.1 (end_of_line sg.CloseBrace ∷ rest) in
          let opened = end_of_line sg.OpenBrace ∷ printed_stmts body (end_of_line sg.CloseBrace ∷ rest) in
          let behind = printed_holds (g3.names_alone holds) opened in
          let inner = printed_parameters tys xs (sign sg.CloseParen ∷ behind) in
          let e = names.1 (sign sg.CloseParen ∷ behind) in
          let h = locks.1 opened in (
            define (record {
              decl = declared x.name (Function ret tys (g3.names_alone h.0)) true;
              params = e.0;
              held =
                  g3.places_alone h.0;
              body = d.0;
              place = _;
              closing = _;
            }),
            g3.a_function (ident_at x.name _) (Function ret tys (g3.names_alone h.0)) e.0 (g3.places_alone h.0)
                d.0 _ _ _ _ _
                (g3.head (ident_at x.name _) ret tys (map Some e.0) h.0 _ _ _ _ _ _
                (returns.1 (named x.name ∷ sign sg.OpenParen ∷ inner)) e.1 h.1) d.1,
            rw (e.2, d.2, h.2, nowhere-places holds h.0 h.3) refl,
          ),
    )

item_printable : (at : List Piece → Place) (a : ItemTree) (s r : List Token) → g3.SpellsItem (within 0) a s r →
    Sound s → Sound r × ItemPrintable at a
item_printable at _ s r (g3.a_lock x d p q _ _ outside) h =
    let e = extern_left d s (t.word w.Lock p ∷ t.ident x ∷ t.sign sg.Semicolon q ∷ r) outside h in
    (e.1.1.1, lock_printable at x d e.1.0)
item_printable at _ s r (g3.a_shared x guard k ty vs d p q q' o _ u v _ outside words spelt) h =
    let e = extern_left d s (t.word w.Shared p ∷ t.sign sg.OpenParen q ∷ t.ident guard ∷ t.sign sg.CloseParen q' ∷ u)
    outside h in
    let f = kept_kind k u v words e.1.1.1.1 in
    let i = cells_printable at d k x ty vs v (t.sign sg.Semicolon o ∷ r) spelt f.0 in
    (i.0.1, shared_printable at x guard ty vs d e.1.1.0 i.2)
item_printable at _ s r (g3.a_table x k ty vs d p o _ u v _ outside words spelt) h =
    let e = extern_left d s (t.word w.Const p ∷ u) outside h in
    let f = kept_kind k u v words e.1 in
    let i = cells_printable at d k x ty vs v (t.sign sg.Semicolon o ∷ r) spelt f.0 in
    (i.0.1, table_printable at x ty vs d i.2)
item_printable at _ s r (g3.a_prototype _ _ _ _ d o _ u _ outside
    (g3.head x ret tys xs holds p q _ v z _ returns inner locks)) h =
    let e = extern_left d s u outside h in
    let f = return_printable at ret u (t.ident x ∷ t.sign sg.OpenParen p ∷ v) returns e in
    let i = parameters_printable at tys xs v (t.sign sg.CloseParen q ∷ z) inner f.0.1.1 in
    let j = holds_printable at holds z (t.sign sg.Semicolon o ∷ r) locks i.0.1 in
    (j.0.1, prototype_printable at x ret tys xs holds f.0.0 f.1 i.1 j.1)
item_printable at _ s r (g3.a_function _ _ xs _ body o closing _ u _
    (g3.head x ret tys _ holds p q _ v z _ returns inner locks) statements) h =
    let f = return_printable at ret s (t.ident x ∷ t.sign sg.OpenParen p ∷ v) returns h in
    let i = parameters_printable at tys (map Some xs) v (t.sign sg.CloseParen q ∷ z) inner f.0.1.1 in
    let j = holds_printable at holds z (t.sign sg.OpenBrace o ∷ u) locks i.0.1 in
    let l = stmts_printable at 0 body u (t.sign sg.CloseBrace closing ∷ r) statements j.0.1 in
    (l.0.1, function_printable at x ret tys xs holds body closing f.0.0 f.1 i.1 j.1 l.1)
item_printable at _ s r (g3.a_plain_global x ty d by p _ u _ left_out follows outside returns) h = cc

pub items_printable : (at : List Piece → Place) (items : List ItemTree) (s r : List Token) →
    g3.SpellsItems (within 0) items s r → Sound s →
    Sound r × Printable (map bare_item) (g3.SpellsItems (within 0)) at items (printed_items items)
items_printable at _ s r (g3.no_item _) h = (h, ((λ rest sound. sound), λ rest. ([], g3.no_item _, refl)))
items_printable at _ s r (g3.an_item a bs _ u _ first others) h =
    let e = item_printable at a s u first h in
    let f = items_printable at bs u r others e.0 in (
      f.0,
      (
        (λ rest sound. e.1.0 _ (f.1.0 rest sound)),
        λ rest.
            let i = f.1.1 rest in
            let d = e.1.1 (printed_items bs rest) in
            (d.0 ∷ i.0, g3.an_item d.0 i.0 _ _ _ d.1 i.1, rw (d.2, i.2) refl),
      ),
    )
