-- What a text is read as is formed: items and modules.
use Rattle.std.proofs.Common.{◌≡◌, ◌⊎◌, inl, inr, ℕ, suc, ◌<◌, ◌^◌, Bool, true, IsTrue, List, [], ◌∷◌, length, map, Option, Some, None, refl, sym, ap, ◌∙◌, arith}
use Rattle.std.proofs.lemmas.List.Elements.{All-nil, All-cons}
use Rattle.cas_base.proofs.KindLaws.{narrowed_is_of_kind}
use Rattle.cas_base.specs.Kind.{is_of_kind}
use Rattle.cas_base.specs.Word.{word_sub}
use Rattle.cas_base.specs.declared.decl.Form.{Form}
use Rattle.cas_base.specs.declared.kind.Kind.{Kind}
use Rattle.cas_base.specs.declared.kind.Ty.{Ty}
use Rattle.cas_base.specs.declared.kind.Ty.TheVariants.{Void, Int, Ptr, Array}
use Rattle.cas_base.specs.declared.place.Place.{Place}
use Rattle.cas_lex.specs.declared.token.Token.{Token}
use Rattle.cas_syntax.specs.declared.tree.Ident.{Ident}
use Rattle.cas_syntax.specs.Items as y
use Rattle.cas_syntax.specs.Items.{SpellsExtern, SpellsValue, SpellsValues, SpellsCells, SpellsType, SpellsReturn, SpellsParameter, SpellsParameterList, SpellsParameters, SpellsNames, SpellsHolds, SpellsHead, SpellsItem, SpellsItems}
use Rattle.cas_syntax.specs.Limits.{Limits}
use Rattle.cas_syntax.specs.Reading.{IsReadAs}
use Rattle.cas_syntax.specs.Tree.{ItemTree, ModuleTree}
use Rattle.cas_typed.specs.Counts.{parameter_types}
use Rattle.cas_typed.specs.Formed.{IsPassed, ArePassed, IsReturned, AreOfKind, AreValuesOf, IsFunctionForm, ItemIsFormed, ItemsAreFormed, IsFormed}
use Rattle.cas_typed.proofs.Formed_exprs.{Formed, kind_rest}
use Rattle.cas_typed.proofs.Formed_stmts.{body_formed}
use Rattle.cas_typed.proofs.Token_words.{HaveWords, first_of, rest_of, lexed_words}

extern_rest : {d : Bool} {s r : List Token} → SpellsExtern d s r → HaveWords s → HaveWords r
extern_rest (y.here r) h = h
extern_rest (y.elsewhere p r) h = rest_of h

-- initial values

negated : (n : ℕ) → word_sub 0 n < 2 ^ 32
negated n = grind arith

value_formed : {k : Kind} {v : ℕ} {s r : List Token} → SpellsValue k v s r → HaveWords s →
    Formed (IsTrue (is_of_kind v k)) r
value_formed {k} (y.as_it_is n j p r) h = record { is = narrowed_is_of_kind n k (first_of h); rest = rest_of h }
value_formed {k} (y.negative n j p q r) h =
    record { is = narrowed_is_of_kind (word_sub 0 n) k (negated n); rest = rest_of (rest_of h) }

one_kind : (k : Kind) (v : ℕ) (vs : List ℕ) → IsTrue (is_of_kind v k) → AreOfKind k vs → AreOfKind k (v ∷ vs)
one_kind k v vs h hs = All-cons (λ v. IsTrue (is_of_kind v k)) v vs h hs

none_of_kind : (k : Kind) → AreOfKind k []
none_of_kind k = All-nil (λ v. IsTrue (is_of_kind v k))

values_formed : {k : Kind} {vs : List ℕ} {s r : List Token} → SpellsValues k vs s r → HaveWords s →
    Formed (AreOfKind k vs) r
values_formed {k} (y.last_value v s r sv) h = let w = value_formed sv h in
    record { is = one_kind k v [] w.is (none_of_kind k); rest = w.rest }
values_formed {k} (y.last_value_and_comma v p s r sv) h = let w =
    value_formed sv h in record { is = one_kind k v [] w.is (none_of_kind k); rest = rest_of w.rest }
values_formed {k} (y.one_value v vs p s t r sv svs) h =
    let w = value_formed sv h in
    let ws = values_formed svs (rest_of w.rest) in
    record { is = one_kind k v vs w.is ws.is; rest = ws.rest }

-- values of the type, and only in a definition
abbrev MayBegin : (defined : Bool) → Ty → List ℕ → Type 0
MayBegin d ty vs = AreValuesOf ty vs × ((d ≡ true) ⊎ (vs ≡ []))

cells_formed : {limits : Limits} {d : Bool} {k : Kind} {x : Ident} {ty : Ty} {vs : List ℕ} {s r : List Token} →
    SpellsCells limits d k x ty vs s r → HaveWords s → Formed (MayBegin d ty vs) r
cells_formed {k = k} (y.one_cell x r) h = record { is = (none_of_kind k, inr refl); rest = rest_of h }
cells_formed {k = k} (y.one_cell_with_value x v p s r is sv) h = let w =
    value_formed sv (rest_of (rest_of h)) in
    record { is = (one_kind k v [] w.is (none_of_kind k), inl is); rest = w.rest }
cells_formed {k = k} (y.cells x n j p o q r) h = record {
  is = ((first_of (rest_of (rest_of h)), none_of_kind k), inr refl);
  rest = rest_of (rest_of (rest_of (rest_of h)));
}
cells_formed {k = k} (y.cells_with_values x n j vs p o q e f g s r is svs) h =
    let ws = values_formed svs (rest_of (rest_of (rest_of (rest_of (rest_of (rest_of h)))))) in
    record { is = ((first_of (rest_of (rest_of h)), ws.is), inl is); rest = rest_of ws.rest }
cells_formed {k = k} (y.arrays x n j p o q q' r out) h =
    record {
      is = ((first_of (rest_of (rest_of h)), none_of_kind k), inr refl);
      rest = rest_of
          (rest_of (rest_of (rest_of (rest_of h))));
    }

-- heads of functions

type_formed : {limits : Limits} {ty : Ty} {s r : List Token} → SpellsType limits ty s r → HaveWords s →
    Formed (IsPassed ty) r
type_formed (y.integer k s r sk) h = record { is = tt; rest = kind_rest sk h }
type_formed (y.pointer k p s r sk) h = record { is = tt; rest = rest_of (kind_rest sk h) }
type_formed (y.pointer_to_pointer k p q s r out sk) h = record { is = tt; rest = rest_of (rest_of (kind_rest sk h)) }

passed_returned : (ty : Ty) → IsPassed ty → IsReturned ty
passed_returned Void w = tt
passed_returned (Int k) w = tt
passed_returned (Ptr k) w = tt
passed_returned (Array k n) w = w

return_formed : {limits : Limits} {ty : Ty} {s r : List Token} → SpellsReturn limits ty s r → HaveWords s →
    Formed (IsReturned ty) r
return_formed (y.no_value p r) h = record { is = tt; rest = rest_of h }
return_formed (y.a_value ty s r st) h = let b = type_formed st h in
    record { is = passed_returned ty b.is; rest = b.rest }

parameter_formed : {limits : Limits} {ty : Ty} {x : Option Ident} {s r : List Token} → SpellsParameter limits ty x s r →
    HaveWords s → Formed (IsPassed ty) r
parameter_formed (y.unnamed ty s r st) h = type_formed st h
parameter_formed (y.named ty x s r st) h = let b = type_formed st h in record { is = b.is; rest = rest_of b.rest }
parameter_formed (y.unnamed_array ty p s r out st) h = let b =
    type_formed st h in record { is = b.is; rest = rest_of b.rest }
parameter_formed (y.named_array ty x p s r out st) h = let b =
    type_formed st h in record { is = b.is; rest = rest_of (rest_of b.rest) }

-- types of parameters, and as many names, or places for names
abbrev AreParameters : List Ty → List (Option Ident) → Type 0
AreParameters tys xs = ArePassed tys × (length xs ≡ length tys)

list_formed : {limits : Limits} {tys : List Ty} {xs : List (Option Ident)} {s r : List Token} →
    SpellsParameterList limits tys xs s r → HaveWords s → Formed (AreParameters tys xs) r
list_formed (y.last_parameter ty x s r sp) h = let b =
    parameter_formed sp h in record { is = ((b.is, tt), refl); rest = b.rest }
list_formed (y.one_parameter ty tys x xs p s t r sp sps) h =
    let b = parameter_formed sp h in
    let others = list_formed sps (rest_of b.rest) in
    record { is = ((b.is, others.is.0), ap suc others.is.1); rest = others.rest }

parameters_formed : {limits : Limits} {tys : List Ty} {xs : List (Option Ident)} {s r : List Token} →
    SpellsParameters limits tys xs s r → HaveWords s → Formed (AreParameters tys xs) r
parameters_formed (y.nothing r) h = record { is = (tt, refl); rest = h }
parameters_formed (y.void p r) h = record { is = (tt, refl); rest = rest_of h }
parameters_formed (y.parameters tys xs s r sps) h = list_formed sps h

names_rest : {xs : List Ident} {s r : List Token} → SpellsNames xs s r → HaveWords s → HaveWords r
names_rest (y.last_name x r) h = rest_of h
names_rest (y.one_name x xs p s r sx) h = names_rest sx (rest_of (rest_of h))

holds_rest : {xs : List Ident} {s r : List Token} → SpellsHolds xs s r → HaveWords s → HaveWords r
holds_rest (y.none_held r) h = h
holds_rest (y.held xs p q q' s r sx) h = rest_of (names_rest sx (rest_of (rest_of h)))

-- a function's form, with a name or a place for one for each parameter
abbrev IsHead : Form → List (Option Ident) → Type 0
IsHead form xs = IsFunctionForm form × (length xs ≡ length (parameter_types form))

head_formed : {limits : Limits} {x : Ident} {form : Form} {xs : List (Option Ident)} {ps : List Place}
    {s r : List Token} → SpellsHead limits x form xs ps s r → HaveWords s → Formed (IsHead form xs) r
head_formed (y.head x ret tys xs holds p q s t u r sr sp sh) h =
    let b = return_formed sr h in
    let ps = parameters_formed sp (rest_of (rest_of b.rest)) in
    record { is = ((b.is, ps.is.0), ps.is.1); rest = holds_rest sh (rest_of ps.rest) }

length_named : (xs : List Ident) → length (map Some xs) ≡ length xs
length_named [] = refl
length_named (x ∷ xs) = ap suc (length_named xs)

-- items, where no form is left out

item_formed : {limits : Limits} {a : ItemTree} {s r : List Token} → limits.left_out ≡ None → SpellsItem limits a s r →
    HaveWords s → Formed (ItemIsFormed a) r
item_formed none (y.a_lock x d p q s r se) h =
    record { is = (refl, inr refl); rest = rest_of (rest_of (rest_of (extern_rest se h))) }
item_formed none (y.a_shared x guard k ty vs d p q q' e s t u r se sk sc) h =
    let c = cells_formed sc (kind_rest sk (rest_of (rest_of (rest_of (rest_of (extern_rest se h)))))) in
    record { is = c.is; rest = rest_of c.rest }
item_formed none (y.a_table x k ty vs d p e s t u r se sk sc) h =
    let c = cells_formed sc (kind_rest sk (rest_of (extern_rest se h))) in
    record { is = c.is; rest = rest_of c.rest }
item_formed none (y.a_prototype x form xs held d e s t r se sh) h =
    let f = head_formed sh (extern_rest se h) in
    record { is = (f.is.0, refl); rest = rest_of f.rest }
item_formed none (y.a_function x form xs held body p closing s t r sh sb) h =
    let f = head_formed sh h in
    let b = body_formed sb (rest_of f.rest) in
    record { is = (f.is.0, refl, sym (length_named xs) ∙ f.is.1, b.is); rest = rest_of b.rest }
item_formed none (y.a_plain_global x ty d by p s t r out follows se sr) h = absurd (neither (sym none ∙ out))
  where
    neither : {n : ℕ} → None ≡ Some n → ⊥
    neither e = cc

items_formed : {limits : Limits} {items : List ItemTree} {s r : List Token} → limits.left_out ≡ None →
    SpellsItems limits items s r → HaveWords s → ItemsAreFormed items
items_formed none (y.no_item r) h = tt
items_formed none (y.an_item a bs s t r sa sb) h = let x = item_formed none sa h in (x.is, items_formed none sb x.rest)

pub IsReadAs-formed : (text : List ℕ) (m : ModuleTree) → IsReadAs text m → IsFormed m
IsReadAs-formed text m (tokens, (utf8, lexed), spelled) = items_formed refl spelled (lexed_words lexed)
