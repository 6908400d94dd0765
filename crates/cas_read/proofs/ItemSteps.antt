-- What the machine does with items, and lists that the reader of items builds.
use Rattle.std.proofs.Common.{◌≡◌, ◌<◌, ℕ, zero, suc, List, [], ◌∷◌, ◌++◌, length, map, get_or, refl, ap, sym, ◌∙◌, arith, Option, Some, None, false}
use Rattle.cas_base.specs.declared.kind.Ty.{Ty}
use Rattle.cas_base.specs.declared.place.Place.{Place}
use Rattle.cas_lex.specs.declared.token.Token.{Token}
use Rattle.cas_syntax.specs.declared.tree.Ident.{Ident}
use Rattle.cas_syntax.specs.declared.tree.Item.{Item}
use Rattle.cas_syntax.specs.Items.{names_alone, places_alone}
use Rattle.cas_syntax.specs.Tree.{ItemTree, item_tree}
use Rattle.cas_parse.specs.Frames.{Opening, AfterExtern, WantKind, ParameterKind, WantParameter, ParameterName, HaveParameter}
use Rattle.cas_parse.specs.Machine.{all_named}
use Rattle.cas_read_expr.specs.Follow.{verdict}
use Rattle.cas_read.specs.FollowItems.{begins_item}

pub items_push : (xs : List Item) (x : Item) → map item_tree (xs ++ x ∷ []) ≡ map item_tree xs ++ item_tree x ∷ []
items_push [] x = refl
items_push (y ∷ ys) x = ap (λ (rest : List ItemTree). item_tree y ∷ rest) (items_push ys x)

pub names_push : (xs : List Ident) (x : Ident) → names_alone (xs ++ x ∷ []) ≡ names_alone xs ++ x.name ∷ []
names_push [] x = refl
names_push (y ∷ ys) x = ap (λ (rest : List _). y.name ∷ rest) (names_push ys x)

pub places_push : (xs : List Ident) (x : Ident) → places_alone (xs ++ x ∷ []) ≡ places_alone xs ++ x.place ∷ []
places_push [] x = refl
places_push (y ∷ ys) x = ap (λ (rest : List Place). y.place ∷ rest) (places_push ys x)

-- where all parameters have a name
pub all_have_names : (xs : List Ident) → all_named (map Some xs) ≡ Some xs
all_have_names [] = refl
all_have_names (x ∷ xs) = rw (all_have_names xs)

-- where one has none
pub one_has_none : (xs : List (Option Ident)) (n : ℕ) (x : Option Ident) → x ≡ None → n < length xs →
    x ≡ get_or xs n x → all_named xs ≡ None
one_has_none [] n p q h e = absurd (omega (arith, h))
one_has_none (None ∷ xs) n p q h e = refl
one_has_none (Some x ∷ xs) zero p q h e = let clash : Some x ≡ None = sym e ∙ q in cc
one_has_none (Some x ∷ xs) (suc n) p q h e = let none : all_named xs ≡ None =
    one_has_none xs n p q (omega (arith, h)) e in rw none

-- states that differ in what they keep alone

pub behind_extern : (ts : List Token) (items : List ItemTree) →
    verdict ts (AfterExtern items) [] ≡ begins_item ts false items
behind_extern [] items = refl
behind_extern (t ∷ ts) items = refl

pub wants_parameter : (ts : List Token) (o : Opening) (tys : List Ty) (xs : List (Option Ident)) (items : List ItemTree)
    → verdict ts (WantParameter o tys xs items) [] ≡ verdict ts (WantKind None) (ParameterKind o tys xs items ∷ [])
wants_parameter [] o tys xs items = refl
wants_parameter (t ∷ ts) o tys xs items = refl

pub named_parameter : (ts : List Token) (o : Opening) (tys : List Ty) (xs : List (Option Ident)) (ty : Ty) (x : Ident)
    (items : List ItemTree)
    → verdict ts (ParameterName o tys xs ty x items) [] ≡ verdict ts
    (HaveParameter o (tys ++ ty ∷ []) (xs ++ Some x ∷ []) items) []
named_parameter [] o tys xs ty x items = refl
named_parameter (t ∷ ts) o tys xs ty x items = refl
