-- What walks are made of: where they end without a fault.
use Rattle.std.proofs.Common.{◌≡◌, true, Option, Some, None, Result, Ok, Err, refl, sym, subst, arith}
use Rattle.cas_base.specs.declared.kind.Kind.{Kind}
use Rattle.cas_base.specs.declared.kind.Kind.TheVariants.{I8, U8, I16, U16, I32, U32}
use Rattle.cas_base.specs.Ty.{same_kind}
use Rattle.cas_syntax.specs.Tree.{ExprTree, literal, name, index, deref, address, address_index, unary, cast, binary, and_also, or_else, conditional}
use Rattle.cas_typed.specs.Faults.{Fault, unless, then_, found}
use Rattle.cas_typed.specs.Types.{IsNull, zero_literal, is_null}

-- kinds that test as the same are the same
pub same_kind-true : (j k : Kind) → same_kind j k ≡ true → j ≡ k
same_kind-true I8 I8 h = refl
same_kind-true U8 U8 h = refl
same_kind-true I16 I16 h = refl
same_kind-true U16 U16 h = refl
same_kind-true I32 I32 h = refl
same_kind-true U32 U32 h = refl
same_kind-true _ _ h = cc

pub same_kind-refl : (k : Kind) → same_kind k k ≡ true
same_kind-refl I8 = refl
same_kind-refl U8 = refl
same_kind-refl I16 = refl
same_kind-refl U16 = refl
same_kind-refl I32 = refl
same_kind-refl U32 = refl

-- what holds of an answer, if there is one
abbrev pub Holds : {A : Type 0} → (A → Type 0) → Result A Fault → Type 0
Holds P (Ok a) = P a
Holds P (Err f) = Unit {0}

abbrev pub HoldsOption : {A : Type 0} → (A → Type 0) → Option A → Type 0
HoldsOption P (Some a) = P a
HoldsOption P None = Unit {0}

pub Holds-unless : {A : Type 0} (P : A → Type 0) (o : Option Fault) (w : Result A Fault) → Holds P w →
    Holds P (unless o w)
Holds-unless P (Some f) w h = tt
Holds-unless P None w h = h

-- where no fault is needed to know what comes next
pub Holds-unless_none : {A : Type 0} (P : A → Type 0) (o : Option Fault) (w : Result A Fault) → (o ≡ None → Holds P w) →
    Holds P (unless o w)
Holds-unless_none P (Some f) w h = tt
Holds-unless_none P None w h = h refl

pub Holds-then : {A B : Type 0} (P : A → Type 0) (Q : B → Type 0) (w : Result A Fault) (f : A → Result B Fault) →
    Holds P w → ((a : A) → P a → Holds Q (f a)) → Holds Q (then_ w f)
Holds-then P Q (Ok a) f h next = next a h
Holds-then P Q (Err e) f h next = tt

pub Holds-found : {A : Type 0} (P : A → Type 0) (o : Option A) (f : Fault) → HoldsOption P o → Holds P (found o f)
Holds-found P (Some a) f h = h
Holds-found P None f h = tt

-- what holds of an answer may be less
pub Holds-map : {A : Type 0} (P Q : A → Type 0) (o : Result A Fault) → ((a : A) → P a → Q a) → Holds P o → Holds Q o
Holds-map P Q (Ok a) f h = f a h
Holds-map P Q (Err e) f h = tt

-- the literal 0
pub is_null-true : (a : ExprTree) → is_null a ≡ true → IsNull a
is_null-true (literal n I32) h = let e : n ≡ 0 = grind arith in subst (λ m. IsNull (literal m I32)) (sym e) zero_literal
is_null-true (literal n I8) h = cc
is_null-true (literal n U8) h = cc
is_null-true (literal n I16) h = cc
is_null-true (literal n U16) h = cc
is_null-true (literal n U32) h = cc
is_null-true (name x) h = cc
is_null-true (index x a) h = cc
is_null-true (deref a) h = cc
is_null-true (address x) h = cc
is_null-true (address_index x a) h = cc
is_null-true (unary op a) h = cc
is_null-true (cast k a) h = cc
is_null-true (binary op a b) h = cc
is_null-true (and_also a b) h = cc
is_null-true (or_else a b) h = cc
is_null-true (conditional c a b) h = cc
