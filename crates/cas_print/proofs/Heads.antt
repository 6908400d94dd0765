-- Types, parameters and held locks whose canonical tokens may stand in a text and spell them, but for places.
use Rattle.std.proofs.Common.{◌≡◌, ℕ, List, [], ◌∷◌, map, length, Option, Some, None, refl, ap, arith}
use Rattle.cas_base.specs.declared.kind.Ty.{Ty}
use Rattle.cas_base.specs.declared.place.Place.{Place}
use Rattle.cas_lex.specs.declared.token.Sign.TheVariants as sg
use Rattle.cas_lex.specs.declared.token.Token.{Token}
use Rattle.cas_syntax.specs.declared.tree.Ident.{Ident}
use Rattle.cas_syntax.specs.Alike.{nowhere, bare_ident}
use Rattle.cas_syntax.specs.Reading.{within}
use Rattle.cas_syntax.specs.Tokens as t
use Rattle.cas_syntax.specs.Items as g3
use Rattle.cas_print.specs.Pieces.{Piece, sign, named}
use Rattle.cas_print.specs.Statements.{before_name}
use Rattle.cas_print.specs.Items.{more_parameters, printed_parameters, printed_names, printed_holds}
use Rattle.cas_print.proofs.Initial.{Spelling}
use Rattle.cas_print.proofs.Kept.{Keeps, kept_kind}
use Rattle.cas_print.proofs.Parts.{keeps_kind}
use Rattle.cas_print.proofs.Placed.{placed}
use Rattle.cas_print.proofs.Respelt.{ident_at, respelt_kind}
use Rattle.cas_print.proofs.Sound.{Sound, IsPlainName}

-- types

abbrev TypePrintable : (List Piece → Place) → Ty → Type 0
TypePrintable at ty = Spelling at (before_name ty) (g3.SpellsType (within 0) ty)

type_printable : (at : List Piece → Place) (ty : Ty) (s r : List Token) → g3.SpellsType (within 0) ty s r → Sound s →
    Sound r × TypePrintable at ty
type_printable at _ s r (g3.integer k _ _ words) h =
    let e = kept_kind k s r words h in
    (e.0, (keeps_kind k, λ rest. g3.integer k _ _ (respelt_kind at k rest)))
type_printable at _ s r (g3.pointer k p _ _ words) h =
    let e = kept_kind k s (t.sign sg.Star p ∷ r) words h in (
      e.0.1,
      (
        (λ rest sound. keeps_kind k _ (tt, sound)),
        λ rest. g3.pointer k _ _ _
            (respelt_kind at k (sign sg.Star ∷ rest)),
      ),
    )
type_printable at _ s r (g3.pointer_to_pointer k p q _ _ left_out words) h = cc

abbrev pub ReturnPrintable : (List Piece → Place) → Ty → Type 0
ReturnPrintable at ty = Spelling at (before_name ty) (g3.SpellsReturn (within 0) ty)

pub return_printable : (at : List Piece → Place) (ty : Ty) (s r : List Token) → g3.SpellsReturn (within 0) ty s r →
    Sound s → Sound r × ReturnPrintable at ty
return_printable at _ s r (g3.no_value p _) h = (h.1, ((λ rest sound. (tt, sound)), λ rest. g3.no_value _ _))
return_printable at ty s r (g3.a_value _ _ _ spelt) h =
    let e = type_printable at ty s r spelt h in
    (e.0, (e.1.0, λ rest. g3.a_value ty _ _ (e.1.1 rest)))

-- parameters

-- a name that a text may have, if there is one
abbrev IsPlainOption : Option Ident → Type 0
IsPlainOption None = Unit {0}
IsPlainOption (Some x) = IsPlainName x.name

-- one after another: types, and a name for each, or none
abbrev pub ParametersPrintable : (List Piece → Place) → List Ty → List (Option Ident) → Type 0
ParametersPrintable at [] [] = Unit {0}
ParametersPrintable at (ty ∷ tys) (x ∷ xs) = TypePrintable at ty × IsPlainOption x × ParametersPrintable at tys xs
ParametersPrintable at _ _ = ⊥

parameter_printable : (at : List Piece → Place) (ty : Ty) (x : Option Ident) (s r : List Token) →
    g3.SpellsParameter (within 0) ty x s r → Sound s →
    Sound r × TypePrintable at ty × IsPlainOption x
parameter_printable at ty _ s r (g3.unnamed _ _ _ spelt) h = let e = type_printable at ty s r spelt h in (e.0, e.1, tt)
parameter_printable at ty _ s r (g3.named _ x _ _ spelt) h =
    let e = type_printable at ty s (t.ident x ∷ r) spelt h in (e.0.1, e.1, e.0.0)
parameter_printable at ty _ s r (g3.unnamed_array _ p _ _ left_out spelt) h = cc
parameter_printable at ty _ s r (g3.named_array _ x p _ _ left_out spelt) h = cc

list_printable : (at : List Piece → Place) (tys : List Ty) (xs : List (Option Ident)) (s r : List Token) →
    g3.SpellsParameterList (within 0) tys xs s r → Sound s →
    Sound r × ParametersPrintable at tys xs
list_printable at _ _ s r (g3.last_parameter ty x _ _ spelt) h =
    let e = parameter_printable at ty x s r spelt h in (e.0, (e.1, e.2, tt))
list_printable at _ _ s r (g3.one_parameter ty tys x xs p _ u _ spelt others) h =
    let e = parameter_printable at ty x s (t.sign sg.Comma p ∷ u) spelt h in
    let f = list_printable at tys xs u r others e.0.1 in
    (f.0, (e.1, e.2, f.1))

pub parameters_printable : (at : List Piece → Place) (tys : List Ty) (xs : List (Option Ident)) (s r : List Token) →
    g3.SpellsParameters (within 0) tys xs s r → Sound s →
    Sound r × ParametersPrintable at tys xs
parameters_printable at _ _ s r (g3.nothing _) h = (h, tt)
parameters_printable at _ _ s r (g3.void p _) h = (h.1, tt)
parameters_printable at tys xs s r (g3.parameters _ _ _ _ spelt) h = list_printable at tys xs s r spelt h

-- without their names

abbrev pub no_names : List Ty → List (Option Ident)
no_names tys = map (λ ty. None) tys

unnamed_more : (at : List Piece → Place) (ty : Ty) (tys : List Ty) (xs : List (Option Ident)) → TypePrintable at ty →
    ParametersPrintable at tys xs →
    Spelling at (λ rest. before_name ty (more_parameters tys [] rest))
    (g3.SpellsParameterList (within 0) (ty ∷ tys) (None ∷ no_names tys))
unnamed_more at ty [] xs first more =
    (first.0, λ rest. g3.last_parameter ty None _ _ (g3.unnamed ty _ _ (first.1 rest)))
unnamed_more at ty (ty' ∷ tys) [] first more = absurd more
unnamed_more at ty (ty' ∷ tys) (x ∷ xs) first more =
    let e = unnamed_more at ty' tys xs more.0 more.2 in (
      (λ rest sound. first.0 _ (tt, e.0 rest sound)),
      λ rest.
          g3.one_parameter ty (ty' ∷ tys) None (None ∷ no_names tys) _ _ _ _
          (g3.unnamed ty _ _ (first.1 (sign sg.Comma ∷ before_name ty' (more_parameters tys [] rest)))) (e.1 rest),
    )

pub unnamed_printable : (at : List Piece → Place) (tys : List Ty) (xs : List (Option Ident)) →
    ParametersPrintable at tys xs →
    Spelling at (printed_parameters tys []) (g3.SpellsParameters (within 0) tys (no_names tys))
unnamed_printable at [] xs all = ((λ rest sound. (tt, sound)), λ rest. g3.void _ _)
unnamed_printable at (ty ∷ tys) [] all = absurd all
unnamed_printable at (ty ∷ tys) (x ∷ xs) all =
    let e = unnamed_more at ty tys xs all.0 all.2 in
    (e.0, λ rest. g3.parameters (ty ∷ tys) (None ∷ no_names tys) _ _ (e.1 rest))

-- with their names

-- the pieces spell the parameters with these names, but for places
abbrev NamesAgain : (List Piece → Place) → (List Piece → List Piece) → List Ident →
    (List Ident → List Token → List Token → Type 0) → Type 0
NamesAgain at inner xs IsSpelt = Keeps inner × ((rest : List Piece) →
    (ys : List Ident) × IsSpelt ys (placed at (inner rest)) (placed at rest) × (map bare_ident ys ≡ map bare_ident xs))

named_more : (at : List Piece → Place) (ty : Ty) (x : Ident) (tys : List Ty) (xs : List Ident) → TypePrintable at ty →
    IsPlainName x.name → ParametersPrintable at tys (map Some xs) →
    NamesAgain at (λ rest. before_name ty (named x.name ∷ more_parameters tys xs rest)) (x ∷ xs)
    (λ ys. g3.SpellsParameterList (within 0) (ty ∷ tys) (map Some ys))
named_more at ty x [] [] first good more = (
  (λ rest sound. first.0 _ (good, sound)),
  λ rest. (
    ident_at x.name (at rest) ∷ [],
    g3.last_parameter ty (Some (ident_at x.name (at rest))) _ _
        (g3.named ty (ident_at x.name (at rest)) _ _ (first.1 (named x.name ∷ rest))),
    refl,
  ),
)
named_more at ty x [] (x' ∷ xs) first good more = absurd more
named_more at ty x (ty' ∷ tys) [] first good more = absurd more
named_more at ty x (ty' ∷ tys) (x' ∷ xs) first good more =
    let e = named_more at ty' x' tys xs more.0 more.1 more.2 in (
      (λ rest sound. first.0 _ (good, (tt, e.0 rest sound))),
      λ rest.
          let f = e.1 rest in
          let behind = sign sg.Comma ∷ before_name ty' (named x'.name ∷ more_parameters tys xs rest) in (
            ident_at x.name (at behind) ∷ f.0,
            g3.one_parameter ty (ty' ∷ tys) (Some (ident_at x.name (at behind))) (map Some f.0) _ _ _ _
                (g3.named ty (ident_at x.name (at behind)) _ _ (first.1 (named x.name ∷ behind))) f.1,
            ap (λ (ys : List Ident). bare_ident x ∷ ys) f.2,
          ),
    )

pub named_printable : (at : List Piece → Place) (tys : List Ty) (xs : List Ident) →
    ParametersPrintable at tys (map Some xs) →
    NamesAgain at (printed_parameters tys xs) xs (λ ys. g3.SpellsParameters (within 0) tys (map Some ys))
named_printable at [] [] all = ((λ rest sound. (tt, sound)), λ rest. ([], g3.void _ _, refl))
named_printable at [] (x ∷ xs) all = absurd all
named_printable at (ty ∷ tys) [] all = absurd all
named_printable at (ty ∷ tys) (x ∷ xs) all =
    let e = named_more at ty x tys xs all.0 all.1 all.2 in
    (e.0, λ rest. let f = e.1 rest in (f.0, g3.parameters (ty ∷ tys) (map Some f.0) _ _ f.1, f.2))

-- names of locks

-- the pieces may stand in a text and spell the names, but for places
abbrev LocksAgain : (List Piece → Place) → List Ident → (List Piece → List Piece) →
    (List Ident → List Token → List Token → Type 0) → Type 0
LocksAgain at xs inner IsSpelt = Keeps inner × ((rest : List Piece) →
    (ys : List Ident) × IsSpelt ys (placed at (inner rest)) (placed at rest) × (g3.names_alone ys ≡ g3.names_alone xs)
    × (length ys ≡ length xs))

abbrev NamesPrintable : (List Piece → Place) → List Ident → Type 0
NamesPrintable at xs = LocksAgain at xs (printed_names (g3.names_alone xs)) g3.SpellsNames

last_name : (at : List Piece → Place) (x : Ident) → IsPlainName x.name → NamesPrintable at (x ∷ [])
last_name at x good =
    ((λ rest sound. (good, sound)), λ rest. (ident_at x.name (at rest) ∷ [], g3.last_name _ _, refl, refl))

more_names : (at : List Piece → Place) (x y : Ident) (ys : List Ident) → IsPlainName x.name →
    NamesPrintable at (y ∷ ys) → NamesPrintable at (x ∷ y ∷ ys)
more_names at x y ys good more = (
  (λ rest sound. (good, (tt, more.0 rest sound))),
  λ rest.
      let e = more.1 rest in (
        ident_at x.name (at (sign sg.Comma ∷ printed_names (g3.names_alone (y ∷ ys)) rest)) ∷ e.0,
        g3.one_name _ e.0 _ _ _ e.1,
        ap (λ (names : List (List ℕ)). x.name ∷ names) e.2,
        rw e.3 refl,
      ),
)

join_names : (at : List Piece → Place) (x : Ident) (xs : List Ident) (s r : List Token) → g3.SpellsNames xs s r →
    IsPlainName x.name → NamesPrintable at xs → NamesPrintable at (x ∷ xs)
join_names at x _ s r (g3.last_name y _) good more = more_names at x y [] good more
join_names at x _ s r (g3.one_name y ys p _ _ others) good more = more_names at x y ys good more

names_printable : (at : List Piece → Place) (xs : List Ident) (s r : List Token) → g3.SpellsNames xs s r → Sound s →
    Sound r × NamesPrintable at xs
names_printable at _ _ r (g3.last_name x _) h = (h.1, last_name at x h.0)
names_printable at _ _ r (g3.one_name x xs p s _ others) h =
    let e = names_printable at xs s r others h.1.1 in
    (e.0, join_names at x xs s r others h.0 e.1)

abbrev pub HoldsPrintable : (List Piece → Place) → List Ident → Type 0
HoldsPrintable at xs = LocksAgain at xs (printed_holds (g3.names_alone xs)) g3.SpellsHolds

some_held : (at : List Piece → Place) (x : Ident) (xs : List Ident) → NamesPrintable at (x ∷ xs) →
    HoldsPrintable at (x ∷ xs)
some_held at x xs names = (
  (λ rest sound. (tt, (tt, names.0 _ (tt, sound)))),
  λ rest. let e = names.1 (sign sg.CloseParen ∷ rest) in (e.0, g3.held e.0 _ _ _ _ _ e.1, e.2, e.3),
)

held_names : (at : List Piece → Place) (xs : List Ident) (s r : List Token) → g3.SpellsNames xs s r →
    NamesPrintable at xs → HoldsPrintable at xs
held_names at _ s r (g3.last_name x _) names = some_held at x [] names
held_names at _ s r (g3.one_name x xs p _ _ others) names = some_held at x xs names

pub holds_printable : (at : List Piece → Place) (xs : List Ident) (s r : List Token) → g3.SpellsHolds xs s r → Sound s →
    Sound r × HoldsPrintable at xs
holds_printable at _ s r (g3.none_held _) h = (h, ((λ rest sound. sound), λ rest. ([], g3.none_held _, refl, refl)))
holds_printable at xs _ r (g3.held _ p q q' s _ spelt) h =
    let e = names_printable at xs s (t.sign sg.CloseParen q' ∷ r) spelt h.1.1 in
    (e.0.1, held_names at xs s (t.sign sg.CloseParen q' ∷ r) spelt e.1)

-- as many places are nowhere
pub nowhere-places : (xs ys : List Ident) → length ys ≡ length xs →
    map (λ p. nowhere) (g3.places_alone ys) ≡ map (λ p. nowhere) (g3.places_alone xs)
nowhere-places [] [] h = refl
nowhere-places [] (y ∷ ys) h = absurd (omega arith)
nowhere-places (x ∷ xs) [] h = absurd (omega arith)
nowhere-places (x ∷ xs) (y ∷ ys) h = ap (λ (ps : List Place). nowhere ∷ ps) (nowhere-places xs ys (omega arith))
