-- What agreeing declarations have in common, and which definition a declaration has in settled units.
use Rattle.std.proofs.Common.{◌≡◌, inl, inr, ℕ, zero, suc, Bool, true, false, cond, ◌&&◌, ◌||◌, not, List, [], ◌∷◌, ◌++◌, filter, Option, Some, None, refl, sym, ap, subst, ◌∙◌, IsTrue}
use Rattle.std.specs.Prelude.{◌⊎◌, slice_get, IsSomeAnd, ◌==◌}
use Rattle.std.specs.List.{find, list_any, AllByRecursion, IsDistinct}
use Rattle.std.specs.Str.{bytes_eq}
use Rattle.std.specs.Cmp.Lexicographic.{pointwise}
use Rattle.std.proofs.lemmas.Bool.{eqb-true, eq-eqb}
use Rattle.std.proofs.lemmas.List.Elements.{recursion_from_All}
use Rattle.std.proofs.lemmas.Map.Keys.{IsDistinct-head, IsDistinct-tail}
use Rattle.std.proofs.lemmas.Slice.Eq.{bytes_eq-Decides}
use Rattle.cas_base.specs.Decl.{agrees, same_set, is_within, is_function, is_named, definitions, references, definition_of}
use Rattle.cas_base.specs.Ty.{same_kind, same_ty}
use Rattle.cas_base.specs.declared.decl.Decl.{Decl}
use Rattle.cas_base.specs.declared.decl.Form.{Form}
use Rattle.cas_base.specs.declared.decl.Form.TheVariants.{Lock, Shared, Table, Function}
use Rattle.cas_base.specs.declared.kind.Ty.{Ty}
use Rattle.cas_base.specs.declared.kind.Ty.TheVariants.{Void, Int, Ptr, Array}
use Rattle.cas_settle.specs.Settle.{IsSettled, all_decls, names_of}
use Rattle.cas_typed.proofs.Basics.{same_kind-true, same_kind-refl}

-- tests

pub both_true : (b c : Bool) → (b && c) ≡ true → (b ≡ true) × (c ≡ true)
both_true true true h = (refl, refl)
both_true true false h = absurd (cc h)
both_true false c h = absurd (cc h)

pub true_both : (b c : Bool) → b ≡ true → c ≡ true → (b && c) ≡ true
true_both b c p q = ap (λ x. x && c) p ∙ q

pub itself : (name : List ℕ) → bytes_eq name name ≡ true
itself name = (bytes_eq-Decides name name).1 refl

pub same_name : (name other : List ℕ) → bytes_eq name other ≡ true → name ≡ other
same_name name other is = (bytes_eq-Decides name other).0 is

-- types

pub same_ty_is : (t u : Ty) → same_ty t u ≡ true → t ≡ u
same_ty_is Void Void h = refl
same_ty_is Void (Int j) h = absurd (cc h)
same_ty_is Void (Ptr j) h = absurd (cc h)
same_ty_is Void (Array j m) h = absurd (cc h)
same_ty_is (Int k) Void h = absurd (cc h)
same_ty_is (Int k) (Int j) h = ap Int (same_kind-true k j h)
same_ty_is (Int k) (Ptr j) h = absurd (cc h)
same_ty_is (Int k) (Array j m) h = absurd (cc h)
same_ty_is (Ptr k) Void h = absurd (cc h)
same_ty_is (Ptr k) (Int j) h = absurd (cc h)
same_ty_is (Ptr k) (Ptr j) h = ap Ptr (same_kind-true k j h)
same_ty_is (Ptr k) (Array j m) h = absurd (cc h)
same_ty_is (Array k n) Void h = absurd (cc h)
same_ty_is (Array k n) (Int j) h = absurd (cc h)
same_ty_is (Array k n) (Ptr j) h = absurd (cc h)
same_ty_is (Array k n) (Array j m) h =
    let both = both_true (same_kind k j) (n == m) h in
    ap (λ i. Array i n) (same_kind-true k j both.0) ∙ ap (Array j) (eqb-true n m both.1)

pub same_ty_itself : (t : Ty) → same_ty t t ≡ true
same_ty_itself Void = refl
same_ty_itself (Int k) = same_kind-refl k
same_ty_itself (Ptr k) = same_kind-refl k
same_ty_itself (Array k n) = true_both (same_kind k k) (n == n) (same_kind-refl k) (eq-eqb n n refl)

pub same_tys_are : (ts us : List Ty) → pointwise same_ty ts us ≡ true → ts ≡ us
same_tys_are [] [] h = refl
same_tys_are [] (u ∷ us) h = absurd (cc h)
same_tys_are (t ∷ ts) [] h = absurd (cc h)
same_tys_are (t ∷ ts) (u ∷ us) h =
    let both = both_true (same_ty t u) (pointwise same_ty ts us) h in
    ap (λ x. x ∷ ts) (same_ty_is t u both.0) ∙ ap (λ xs. u ∷ xs) (same_tys_are ts us both.1)

same_tys_themselves : (ts : List Ty) → pointwise same_ty ts ts ≡ true
same_tys_themselves [] = refl
same_tys_themselves (t ∷ ts) = true_both (same_ty t t) (pointwise same_ty ts ts) (same_ty_itself t)
    (same_tys_themselves ts)

-- one of a list

abbrev pub IsIn : {X : Type 0} → List X → X → Type 0
IsIn [] x = ⊥
IsIn (y ∷ ys) x = (y ≡ x) ⊎ IsIn ys x

pub in_left : {X : Type 0} (xs ys : List X) (x : X) → IsIn xs x → IsIn (xs ++ ys) x
in_left [] ys x h = absurd h
in_left (z ∷ zs) ys x (inl is) = inl is
in_left (z ∷ zs) ys x (inr h) = inr (in_left zs ys x h)

pub in_right : {X : Type 0} (xs ys : List X) (x : X) → IsIn ys x → IsIn (xs ++ ys) x
in_right [] ys x h = h
in_right (z ∷ zs) ys x h = inr (in_right zs ys x h)

pub in_at : {X : Type 0} (xs : List X) (k : ℕ) (x : X) → slice_get xs k ≡ Some x → IsIn xs x
in_at [] k x is = absurd (cc is)
in_at (y ∷ ys) zero x is = let same : y ≡ x = cc is in inl same
in_at (y ∷ ys) (suc k) x is = inr (in_at ys k x is)

in_all : (units : List (List Decl)) (unit : List Decl) (d : Decl) → IsIn units unit → IsIn unit d →
    IsIn (all_decls units) d
in_all [] unit d h k = absurd h
in_all (u ∷ us) unit d (inl is) k = in_left u (all_decls us) d (subst (λ x. IsIn x d) (sym is) k)
in_all (u ∷ us) unit d (inr h) k = in_right u (all_decls us) d (in_all us unit d h k)

-- a declaration of a unit is one of all
pub among_all : (units : List (List Decl)) (n g : ℕ) (unit : List Decl) (d : Decl) → slice_get units n ≡ Some unit →
    slice_get unit g ≡ Some d → IsIn (all_decls units) d
among_all units n g unit d unit_is is = in_all units unit d (in_at units n unit unit_is) (in_at unit g d is)

-- one that passes a test is one of those that pass it
passing_by : (test : Decl → Bool) (y d : Decl) (ys : List Decl) (b : Bool) → test y ≡ b → test d ≡ true → (y ≡ d)
    ⊎ IsIn (filter test ys) d → IsIn (cond b (y ∷ filter test ys) (filter test ys)) d
passing_by test y d ys true is passes h = h
passing_by test y d ys false is passes (inl same) = let fails : test d ≡ false =
    subst (λ x. test x ≡ false) same is in absurd (cc (sym passes ∙ fails))
passing_by test y d ys false is passes (inr h) = h

in_passing : (test : Decl → Bool) (ds : List Decl) (d : Decl) → test d ≡ true → IsIn ds d → IsIn (filter test ds) d
in_passing test [] d passes h = absurd h
in_passing test (y ∷ ys) d passes (inl same) = passing_by test y d ys (test y) refl passes (inl same)
in_passing test (y ∷ ys) d passes (inr h) = passing_by test y d ys (test y) refl passes
    (inr (in_passing test ys d passes h))

pub each_in : {X : Type 0} (P : X → Type 0) (xs : List X) (x : X) → AllByRecursion P xs → IsIn xs x → P x
each_in P [] x all h = absurd h
each_in P (y ∷ ys) x all (inl same) = subst P same all.0
each_in P (y ∷ ys) x all (inr h) = each_in P ys x all.1 h

-- sets of names

-- the same names are in both
abbrev pub AreSameNames : List (List ℕ) → List (List ℕ) → Type 0
AreSameNames names others = ((name : List ℕ) → IsIn names name → IsIn others name)
    × ((name : List ℕ) → IsIn others name → IsIn names name)

any_by : (name y : List ℕ) (ys : List (List ℕ)) (b : Bool) → bytes_eq name y ≡ b →
    (b || list_any (bytes_eq name) ys) ≡ true → (list_any (bytes_eq name) ys ≡ true → IsIn ys name) → IsIn (y ∷ ys) name
any_by name y ys true is h rest = inl (sym (same_name name y is))
any_by name y ys false is h rest = inr (rest h)

any_in : (name : List ℕ) (others : List (List ℕ)) → list_any (bytes_eq name) others ≡ true → IsIn others name
any_in name [] h = absurd (cc h)
any_in name (y ∷ ys) h = any_by name y ys (bytes_eq name y) refl h (any_in name ys)

or_true : (b c : Bool) → c ≡ true → (b || c) ≡ true
or_true true c h = refl
or_true false c h = h

in_any : (name : List ℕ) (others : List (List ℕ)) → IsIn others name → list_any (bytes_eq name) others ≡ true
in_any name [] h = absurd h
in_any name (y ∷ ys) (inl is) = ap (λ b. b || list_any (bytes_eq name) ys)
    (subst (λ x. bytes_eq name x ≡ true) (sym is) (itself name))
in_any name (y ∷ ys) (inr h) = or_true (bytes_eq name y) (list_any (bytes_eq name) ys) (in_any name ys h)

within_in : (names others : List (List ℕ)) → is_within names others ≡ true → (name : List ℕ) → IsIn names name →
    IsIn others name
within_in [] others h name is = absurd is
within_in (n ∷ ns) others h name (inl is) = subst (IsIn others) is
    (any_in n others (both_true (list_any (bytes_eq n) others) (is_within ns others) h).0)
within_in (n ∷ ns) others h name (inr is) = within_in ns others
    (both_true (list_any (bytes_eq n) others) (is_within ns others) h).1 name is

in_within : (names others : List (List ℕ)) → ((name : List ℕ) → IsIn names name → IsIn others name) →
    is_within names others ≡ true
in_within [] others h = refl
in_within (n ∷ ns) others h =
    true_both (list_any (bytes_eq n) others) (is_within ns others) (in_any n others (h n (inl refl)))
    (in_within ns others (λ name is. h name (inr is)))

-- forms

-- the same sort, types and guard, and the same set of held locks
pub data AreAlike : Form → Form → Type 0 where
  locks : AreAlike Lock Lock
  shared_ones : (t : Ty) (l : List ℕ) → AreAlike (Shared t l) (Shared t l)
  tables : (t : Ty) → AreAlike (Table t) (Table t)
  functions : (ret : Ty) (params : List Ty) (holds held : List (List ℕ)) → AreSameNames holds held →
      AreAlike (Function ret params holds) (Function ret params held)

pub alike_itself : (f : Form) → AreAlike f f
alike_itself Lock = locks
alike_itself (Shared t l) = shared_ones t l
alike_itself (Table t) = tables t
alike_itself (Function ret params holds) = functions ret params holds holds (λ name is. is, λ name is. is)

pub alike_back : (f g : Form) → AreAlike f g → AreAlike g f
alike_back _ _ locks = locks
alike_back _ _ (shared_ones t l) = shared_ones t l
alike_back _ _ (tables t) = tables t
alike_back _ _ (functions ret params holds held same) = functions ret params held holds (same.1, same.0)

pub alike_through : (f g h : Form) → AreAlike f g → AreAlike g h → AreAlike f h
alike_through _ _ h locks next = next
alike_through _ _ h (shared_ones t l) next = next
alike_through _ _ h (tables t) next = next
alike_through _ _ _ (functions ret params holds held same) (functions _ _ _ others next) =
    functions ret params holds others (λ name is. next.0 name (same.0 name is), λ name is. same.1 name (next.1 name is))

shared_alike : (t u : Ty) (l m : List ℕ) → t ≡ u → l ≡ m → AreAlike (Shared t l) (Shared u m)
shared_alike t u l m p q = subst (λ x. AreAlike (Shared t l) (Shared x m)) p
    (subst (λ y. AreAlike (Shared t l) (Shared t y)) q (shared_ones t l))

functions_alike : (ret other : Ty) (params others : List Ty) (holds held : List (List ℕ)) → ret ≡ other →
    params ≡ others → AreSameNames holds held → AreAlike (Function ret params holds) (Function other others held)
functions_alike ret other params others holds held p q same =
    subst (λ x. AreAlike (Function ret params holds) (Function x others held)) p
    (subst (λ y. AreAlike (Function ret params holds) (Function ret y held)) q
    (functions ret params holds held same))

agreeing_alike : (f g : Form) → agrees f g ≡ true → AreAlike f g
agreeing_alike Lock Lock h = locks
agreeing_alike Lock (Shared u m) h = absurd (cc h)
agreeing_alike Lock (Table u) h = absurd (cc h)
agreeing_alike Lock (Function other others held) h = absurd (cc h)
agreeing_alike (Shared t l) Lock h = absurd (cc h)
agreeing_alike (Shared t l) (Shared u m) h =
    let both = both_true (same_ty t u) (bytes_eq l m) h in
    shared_alike t u l m (same_ty_is t u both.0) (same_name l m both.1)
agreeing_alike (Shared t l) (Table u) h = absurd (cc h)
agreeing_alike (Shared t l) (Function other others held) h = absurd (cc h)
agreeing_alike (Table t) Lock h = absurd (cc h)
agreeing_alike (Table t) (Shared u m) h = absurd (cc h)
agreeing_alike (Table t) (Table u) h = subst (λ x. AreAlike (Table t) (Table x)) (same_ty_is t u h) (tables t)
agreeing_alike (Table t) (Function other others held) h = absurd (cc h)
agreeing_alike (Function ret params holds) Lock h = absurd (cc h)
agreeing_alike (Function ret params holds) (Shared u m) h = absurd (cc h)
agreeing_alike (Function ret params holds) (Table u) h = absurd (cc h)
agreeing_alike (Function ret params holds) (Function other others held) h =
    let first = both_true (same_ty ret other && pointwise same_ty params others) (same_set holds held) h in
    let second = both_true (same_ty ret other) (pointwise same_ty params others) first.0 in
    let names = both_true (is_within holds held) (is_within held holds) first.1 in
    functions_alike ret other params others holds held (same_ty_is ret other second.0)
    (same_tys_are params others second.1)
    (within_in holds held names.0, within_in held holds names.1)

pub alike_agrees : (f g : Form) → AreAlike f g → agrees f g ≡ true
alike_agrees _ _ locks = refl
alike_agrees _ _ (shared_ones t l) = true_both (same_ty t t) (bytes_eq l l) (same_ty_itself t) (itself l)
alike_agrees _ _ (tables t) = same_ty_itself t
alike_agrees _ _ (functions ret params holds held same) =
    true_both (same_ty ret ret && pointwise same_ty params params) (same_set holds held)
    (true_both (same_ty ret ret) (pointwise same_ty params params) (same_ty_itself ret) (same_tys_themselves params))
    (true_both (is_within holds held) (is_within held holds) (in_within holds held same.0)
    (in_within held holds same.1))

pub alike_functions : (f g : Form) → AreAlike f g → is_function f ≡ is_function g
alike_functions _ _ locks = refl
alike_functions _ _ (shared_ones t l) = refl
alike_functions _ _ (tables t) = refl
alike_functions _ _ (functions ret params holds held same) = refl

-- definitions by names

differs_in : (name : List ℕ) (ds : List Decl) (d : Decl) → AllByRecursion (λ y. bytes_eq name y ≡ false) (names_of ds) →
    IsIn ds d → bytes_eq name d.name ≡ false
differs_in name [] d all h = absurd h
differs_in name (y ∷ ys) d all (inl same) = subst (λ x. bytes_eq name x.name ≡ false) same all.0
differs_in name (y ∷ ys) d all (inr h) = differs_in name ys d all.1 h

other_first : (d y : Decl) → bytes_eq y.name d.name ≡ false → bytes_eq d.name y.name ≡ false
other_first d y differ = by (bytes_eq d.name y.name) refl
  where
    by : (b : Bool) → bytes_eq d.name y.name ≡ b → b ≡ false
    by false is = refl
    by true is =
        let same : d.name ≡ y.name = same_name d.name y.name is in
        let equal : bytes_eq y.name d.name ≡ true = subst (λ n. bytes_eq y.name n ≡ true) (sym same) (itself y.name) in
        absurd (cc (sym equal ∙ differ))

-- of distinct definitions one is found by its name
found_itself : (ds : List Decl) (d : Decl) → IsDistinct bytes_eq (names_of ds) → IsIn ds d →
    definition_of ds d.name ≡ Some d
found_itself [] d distinct h = absurd h
found_itself (y ∷ ys) d distinct (inl same) =
    subst (λ x. definition_of (y ∷ ys) x.name ≡ Some x) same
    (ap (λ b. cond b (Some y) (find (is_named y.name) ys)) (itself y.name))
found_itself (y ∷ ys) d distinct (inr h) =
    ap (λ b. cond b (Some y) (find (is_named d.name) ys))
    (other_first d y (differs_in y.name ys d (IsDistinct-head bytes_eq y.name (names_of ys) distinct) h))
    ∙ found_itself ys d (IsDistinct-tail bytes_eq y.name (names_of ys) distinct) h

name_by : (name : List ℕ) (y d : Decl) (ys : List Decl) (b : Bool) → bytes_eq name y.name ≡ b →
    cond b (Some y) (find (is_named name) ys) ≡ Some d → (find (is_named name) ys ≡ Some d → name ≡ d.name) →
    name ≡ d.name
name_by name y d ys true is found rest = let same : y ≡ d = cc found in same_name name y.name is
    ∙ ap (λ (x : Decl). x.name) same
name_by name y d ys false is found rest = rest found

-- what is found by a name has it
pub found_name : (name : List ℕ) (ds : List Decl) (d : Decl) → definition_of ds name ≡ Some d → name ≡ d.name
found_name name [] d found = absurd (cc found)
found_name name (y ∷ ys) d found = name_by name y d ys (bytes_eq name y.name) refl found (found_name name ys d)

-- a declaration's definition
pub record HasDefinition (units : List (List Decl)) (d : Decl) : Type 0 where
  pub definition : Decl
  pub found : definition_of (definitions (all_decls units)) d.name ≡ Some definition
  pub alike : AreAlike definition.form d.form

defined_by : (units : List (List Decl)) (d : Decl) (o : Option Decl) →
    definition_of (definitions (all_decls units)) d.name ≡ o →
    IsSomeAnd o (λ defined. IsTrue (agrees defined.form d.form)) → HasDefinition units d
defined_by units d None is h = absurd h
defined_by units d (Some defined) is h =
    record { definition = defined; found = is; alike = agreeing_alike defined.form d.form h }

-- in settled units each declaration has a definition
pub settled_defined : (units : List (List Decl)) (entries : List (List ℕ)) (d : Decl) → IsSettled units entries →
    IsIn (all_decls units) d → HasDefinition units d
settled_defined units entries d settled h = by d.defined refl
  where
    by : (b : Bool) → d.defined ≡ b → HasDefinition units d
    by true is = record {
      definition = d;
      found = found_itself (definitions (all_decls units)) d settled.distinct
          (in_passing (λ (x : Decl). x.defined) (all_decls units) d is h);
      alike = alike_itself d.form;
    }
    by false is = defined_by units d (definition_of (definitions (all_decls units)) d.name) refl
        (each_in (λ decl. IsSomeAnd (definition_of (definitions (all_decls units)) decl.name)
        (λ defined. IsTrue (agrees defined.form decl.form))) (references (all_decls units)) d
        (recursion_from_All _ (references (all_decls units)) settled.agreed)
        (in_passing (λ (x : Decl). not x.defined) (all_decls units) d (ap not is) h))
