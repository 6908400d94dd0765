-- What is resolved of an expression is what the rules of types say.
use Rattle.std.proofs.Common.{◌≡◌, ℕ, Bool, true, false, if◌then◌else◌, Option, Some, None, refl, sym, subst}
use Rattle.cas_base.specs.Ty.{same_kind}
use Rattle.cas_base.specs.declared.decl.Form.{Form}
use Rattle.cas_base.specs.declared.kind.Kind.{Kind}
use Rattle.cas_base.specs.declared.kind.Kind.TheVariants.{I32}
use Rattle.cas_base.specs.declared.kind.Ty.{Ty}
use Rattle.cas_base.specs.declared.kind.Ty.TheVariants.{Void, Int, Ptr, Array}
use Rattle.cas_syntax.specs.declared.tree.Ident.{Ident}
use Rattle.cas_syntax.specs.declared.tree.UnaryOperator.{UnaryOperator}
use Rattle.cas_syntax.specs.declared.tree.UnaryOperator.TheVariants as un
use Rattle.cas_syntax.specs.declared.tree.BinaryOperator.{BinaryOperator}
use Rattle.cas_syntax.specs.declared.tree.BinaryOperator.TheVariants as bin
use Rattle.cas_syntax.specs.Tree.{ExprTree, literal, name, index, deref, address, address_index, unary, cast, binary, and_also, or_else, conditional}
use Rattle.cas_typed.specs.Resolved as t
use Rattle.cas_typed.specs.Resolved.{TypedExprTree}
use Rattle.cas_typed.specs.Resolving as r
use Rattle.cas_typed.specs.Resolving.{Found, unfit, fits, resolved, tested}
use Rattle.cas_typed.specs.Scopes.{Scope, Meaning, meaning, undeclared, variable, item}
use Rattle.cas_typed.specs.Types.{is_null, variable_type, IsSign, negation, plus, complement, IsArithmetic, sum, difference, product, quotient, remainder, conjunction, exclusion, disjunction, IsShift, left_shift, right_shift, IsEquality, equal, unequal, IsOrder, less, less_or_equal, greater, greater_or_equal}
use Rattle.cas_typed.specs.Typing.{HasType, a_literal, a_local, a_local_pointer, a_global, arithmetic, pointer_plus, plus_pointer, pointer_minus, pointer_difference, shift, equal_integers, equal_pointers, pointer_and_null, null_and_pointer, ordered_integers, ordered_pointers, both, either, not_so, choice, choice_of_pointers, choice_or_null, null_or_choice, signed, converted, cell_behind, element_behind, element_of_global, pointer_to_local, pointer_to_element, first_element, Tests, an_integer_test, a_pointer_test}
use Rattle.cas_typed.proofs.Basics.{same_kind-true, is_null-true}

-- what was found of an expression has a rule
abbrev pub IsRight : Scope → ExprTree → Found → Type 0
IsRight s a unfit = Unit {0}
IsRight s a (fits e ty) = HasType s a e ty

abbrev pub IsRightTest : Scope → ExprTree → Option TypedExprTree → Type 0
IsRightTest s a None = Unit {0}
IsRightTest s a (Some c) = Tests s a c

-- what was found under a test
on_test : (s : Scope) (a : ExprTree) (c : Bool) (e : TypedExprTree) (ty : Ty) → (c ≡ true → HasType s a e ty) →
    IsRight s a (if c then fits e ty else unfit)
on_test s a true e ty h = h refl
on_test s a false e ty h = tt

-- a pointer at a kind that tests as the same
at_kind : (s : Scope) (a : ExprTree) (p : TypedExprTree) (j k : Kind) → same_kind j k ≡ true → HasType s a p (Ptr k) →
    HasType s a p (Ptr j)
at_kind s a p j k same h = subst (λ i. HasType s a p (Ptr i)) (sym (same_kind-true j k same)) h

right_test : (s : Scope) (a : ExprTree) (f : Found) → IsRight s a f → IsRightTest s a (tested f)
right_test s a unfit h = tt
right_test s a (fits e (Int k)) h = an_integer_test a e k h
right_test s a (fits p (Ptr k)) h = a_pointer_test a p k h
right_test s a (fits e Void) h = tt
right_test s a (fits e (Array k n)) h = tt

right_arithmetic : (s : Scope) (op : BinaryOperator) (a b : ExprTree) (f g : Found) → IsArithmetic op → IsRight s a f →
    IsRight s b g → IsRight s (binary op a b) (r.arithmetic op f g)
right_arithmetic s op a b (fits a' (Int j)) (fits b' (Int k)) is h h' = arithmetic op a b a' b' j k is h h'
right_arithmetic s op a b _ _ is h h' = tt

right_sum : (s : Scope) (a b : ExprTree) (f g : Found) → IsRight s a f → IsRight s b g →
    IsRight s (binary bin.Add a b) (r.sum f g)
right_sum s a b (fits p (Ptr k)) (fits e (Int j)) h h' = pointer_plus a b p e j k h h'
right_sum s a b (fits e (Int j)) (fits p (Ptr k)) h h' = plus_pointer a b e p j k h h'
right_sum s a b (fits a' (Int j)) (fits b' (Int k)) h h' = arithmetic bin.Add a b a' b' j k sum h h'
right_sum s a b _ _ h h' = tt

right_difference : (s : Scope) (a b : ExprTree) (f g : Found) → IsRight s a f → IsRight s b g →
    IsRight s (binary bin.Sub a b) (r.difference f g)
right_difference s a b (fits p (Ptr k)) (fits e (Int j)) h h' = pointer_minus a b p e j k h h'
right_difference s a b (fits p (Ptr j)) (fits q (Ptr k)) h h' =
    on_test s (binary bin.Sub a b) (same_kind j k) (t.pointer_difference p q) (Int I32)
    (λ same. pointer_difference a b p q j h (at_kind s b q j k same h'))
right_difference s a b (fits a' (Int j)) (fits b' (Int k)) h h' = arithmetic bin.Sub a b a' b' j k difference h h'
right_difference s a b _ _ h h' = tt

right_shift_of : (s : Scope) (op : BinaryOperator) (a b : ExprTree) (f g : Found) → IsShift op → IsRight s a f →
    IsRight s b g → IsRight s (binary op a b) (r.shift op f g)
right_shift_of s op a b (fits a' (Int j)) (fits b' (Int k)) is h h' = shift op a b a' b' j k is h h'
right_shift_of s op a b _ _ is h h' = tt

right_order : (s : Scope) (op : BinaryOperator) (a b : ExprTree) (f g : Found) → IsOrder op → IsRight s a f →
    IsRight s b g → IsRight s (binary op a b) (r.order op f g)
right_order s op a b (fits a' (Int j)) (fits b' (Int k)) is h h' = ordered_integers op a b a' b' j k is h h'
right_order s op a b (fits p (Ptr j)) (fits q (Ptr k)) is h h' =
    on_test s (binary op a b) (same_kind j k) (t.compare op p q) (Int I32)
    (λ same. ordered_pointers op a b p q j is h (at_kind s b q j k same h'))
right_order s op a b _ _ is h h' = tt

right_equality : (s : Scope) (op : BinaryOperator) (a b : ExprTree) (f g : Found) → IsEquality op → IsRight s a f →
    IsRight s b g → IsRight s (binary op a b) (r.equality op (is_null a) (is_null b) f g)
right_equality s op a b (fits p (Ptr k)) (fits e (Int j)) is h h' =
    on_test s (binary op a b) (is_null b) (t.compare op p t.null) (Int I32)
    (λ null. pointer_and_null op a b p k is h (is_null-true b null))
right_equality s op a b (fits e (Int j)) (fits q (Ptr k)) is h h' =
    on_test s (binary op a b) (is_null a) (t.compare op t.null q) (Int I32)
    (λ null. null_and_pointer op a b q k is (is_null-true a null) h')
right_equality s op a b (fits a' (Int j)) (fits b' (Int k)) is h h' = equal_integers op a b a' b' j k is h h'
right_equality s op a b (fits p (Ptr j)) (fits q (Ptr k)) is h h' =
    on_test s (binary op a b) (same_kind j k) (t.compare op p q) (Int I32)
    (λ same. equal_pointers op a b p q j is h (at_kind s b q j k same h'))
right_equality s op a b _ _ is h h' = tt

right_binary : (s : Scope) (op : BinaryOperator) (a b : ExprTree) (f g : Found) → IsRight s a f → IsRight s b g →
    IsRight s (binary op a b) (r.binary_found op (is_null a) (is_null b) f g)
right_binary s bin.Add a b f g h h' = right_sum s a b f g h h'
right_binary s bin.Sub a b f g h h' = right_difference s a b f g h h'
right_binary s bin.Mul a b f g h h' = right_arithmetic s bin.Mul a b f g product h h'
right_binary s bin.Div a b f g h h' = right_arithmetic s bin.Div a b f g quotient h h'
right_binary s bin.Mod a b f g h h' = right_arithmetic s bin.Mod a b f g remainder h h'
right_binary s bin.Shl a b f g h h' = right_shift_of s bin.Shl a b f g left_shift h h'
right_binary s bin.Shr a b f g h h' = right_shift_of s bin.Shr a b f g right_shift h h'
right_binary s bin.BitAnd a b f g h h' = right_arithmetic s bin.BitAnd a b f g conjunction h h'
right_binary s bin.BitOr a b f g h h' = right_arithmetic s bin.BitOr a b f g disjunction h h'
right_binary s bin.BitXor a b f g h h' = right_arithmetic s bin.BitXor a b f g exclusion h h'
right_binary s bin.Eq a b f g h h' = right_equality s bin.Eq a b f g equal h h'
right_binary s bin.Ne a b f g h h' = right_equality s bin.Ne a b f g unequal h h'
right_binary s bin.Lt a b f g h h' = right_order s bin.Lt a b f g less h h'
right_binary s bin.Le a b f g h h' = right_order s bin.Le a b f g less_or_equal h h'
right_binary s bin.Gt a b f g h h' = right_order s bin.Gt a b f g greater h h'
right_binary s bin.Ge a b f g h h' = right_order s bin.Ge a b f g greater_or_equal h h'

right_signed : (s : Scope) (op : UnaryOperator) (a : ExprTree) (f : Found) → IsSign op → IsRight s a f →
    IsRight s (unary op a) (r.signed op f)
right_signed s op a (fits e (Int k)) is h = signed op a e k is h
right_signed s op a _ is h = tt

right_negated : (s : Scope) (a : ExprTree) (o : Option TypedExprTree) → IsRightTest s a o →
    IsRight s (unary un.Not a) (r.negated o)
right_negated s a (Some c) h = not_so a c h
right_negated s a None h = tt

right_unary : (s : Scope) (op : UnaryOperator) (a : ExprTree) (f : Found) → IsRight s a f →
    IsRight s (unary op a) (r.unary_found op f)
right_unary s un.Not a f h = right_negated s a (tested f) (right_test s a f h)
right_unary s un.Neg a f h = right_signed s un.Neg a f negation h
right_unary s un.Plus a f h = right_signed s un.Plus a f plus h
right_unary s un.BitNot a f h = right_signed s un.BitNot a f complement h

right_converted : (s : Scope) (k : Kind) (a : ExprTree) (f : Found) → IsRight s a f →
    IsRight s (cast k a) (r.converted k f)
right_converted s k a (fits e (Int j)) h = converted k a e j h
right_converted s k a _ h = tt

right_both : (s : Scope) (a b : ExprTree) (o p : Option TypedExprTree) → IsRightTest s a o → IsRightTest s b p →
    IsRight s (and_also a b) (r.both o p)
right_both s a b (Some c) (Some d) h h' = both a b c d h h'
right_both s a b _ _ h h' = tt

right_either : (s : Scope) (a b : ExprTree) (o p : Option TypedExprTree) → IsRightTest s a o → IsRightTest s b p →
    IsRight s (or_else a b) (r.either o p)
right_either s a b (Some c) (Some d) h h' = either a b c d h h'
right_either s a b _ _ h h' = tt

right_choice : (s : Scope) (c a b : ExprTree) (o : Option TypedExprTree) (f g : Found) → IsRightTest s c o →
    IsRight s a f → IsRight s b g → IsRight s (conditional c a b) (r.choice o (is_null a) (is_null b) f g)
right_choice s c a b (Some d) (fits a' (Int j)) (fits b' (Int k)) hc h h' = choice c a b d a' b' j k hc h h'
right_choice s c a b (Some d) (fits p (Ptr j)) (fits q (Ptr k)) hc h h' =
    on_test s (conditional c a b) (same_kind j k) (t.choose d p q) (Ptr j)
    (λ same. choice_of_pointers c a b d p q j hc h (at_kind s b q j k same h'))
right_choice s c a b (Some d) (fits p (Ptr k)) (fits e (Int j)) hc h h' =
    on_test s (conditional c a b) (is_null b) (t.choose d p t.null) (Ptr k)
    (λ null. choice_or_null c a b d p k hc h (is_null-true b null))
right_choice s c a b (Some d) (fits e (Int j)) (fits q (Ptr k)) hc h h' =
    on_test s (conditional c a b) (is_null a) (t.choose d t.null q) (Ptr k)
    (λ null. null_or_choice c a b d q k hc (is_null-true a null) h')
right_choice s c a b _ _ _ hc h h' = tt

right_global : (s : Scope) (x : Ident) (g : ℕ) (form : Form) (o : Option Ty) → meaning s x ≡ item g form →
    variable_type form ≡ o → IsRight s (name x) (r.global_named x g o)
right_global s x g form (Some (Int k)) is of = a_global x g form k is of
right_global s x g form _ is of = tt

pub right_named : (s : Scope) (x : Ident) (m : Meaning) → meaning s x ≡ m → IsRight s (name x) (r.named x m)
right_named s x undeclared is = tt
right_named s x (variable n (Int k)) is = a_local x n k is
right_named s x (variable n (Ptr k)) is = a_local_pointer x n k is
right_named s x (variable n (Array k len)) is = first_element x n len k is
right_named s x (variable n Void) is = tt
right_named s x (item g form) is = right_global s x g form (variable_type form) is refl

right_element : (s : Scope) (x : Ident) (a : ExprTree) (g : ℕ) (form : Form) (o : Option Ty) (f : Found) →
    meaning s x ≡ item g form → variable_type form ≡ o → IsRight s a f → IsRight s (index x a) (r.element_of x g o f)
right_element s x a g form (Some (Array k n)) (fits e (Int j)) is of h = element_of_global x a e g n form j k is of h
right_element s x a g form _ _ is of h = tt

right_element_behind : (s : Scope) (x : Ident) (a : ExprTree) (f g : Found) → IsRight s (name x) f → IsRight s a g →
    IsRight s (index x a) (r.element_behind f g)
right_element_behind s x a (fits p (Ptr k)) (fits e (Int j)) h h' = element_behind x a p e j k h h'
right_element_behind s x a _ _ h h' = tt

right_indexed : (s : Scope) (x : Ident) (a : ExprTree) (m : Meaning) (f : Found) → meaning s x ≡ m → IsRight s a f →
    IsRight s (index x a) (r.indexed x m f)
right_indexed s x a (item g form) f is h = right_element s x a g form (variable_type form) f is refl h
right_indexed s x a undeclared f is h = tt
right_indexed s x a (variable n ty) f is h = right_element_behind s x a (r.named x (variable n ty)) f
    (right_named s x (variable n ty) is) h

right_pointer_to : (s : Scope) (x : Ident) (m : Meaning) → meaning s x ≡ m → IsRight s (address x) (r.pointer_to m)
right_pointer_to s x (variable n (Int k)) is = pointer_to_local x n k is
right_pointer_to s x _ is = tt

right_pointer_to_element : (s : Scope) (x : Ident) (a : ExprTree) (f g : Found) → IsRight s (name x) f → IsRight s a g →
    IsRight s (address_index x a) (r.pointer_to_element f g)
right_pointer_to_element s x a (fits p (Ptr k)) (fits e (Int j)) h h' = pointer_to_element x a p e j k h h'
right_pointer_to_element s x a _ _ h h' = tt

right_cell : (s : Scope) (a : ExprTree) (f : Found) → IsRight s a f → IsRight s (deref a) (r.cell_behind f)
right_cell s a (fits p (Ptr k)) h = cell_behind a p k h
right_cell s a _ h = tt

-- what is resolved has a rule
pub resolved-right : (s : Scope) (a : ExprTree) → IsRight s a (resolved s a)
resolved-right s (literal n k) = a_literal n k
resolved-right s (name x) = right_named s x (meaning s x) refl
resolved-right s (index x a) = right_indexed s x a (meaning s x) (resolved s a) refl (resolved-right s a)
resolved-right s (deref a) = right_cell s a (resolved s a) (resolved-right s a)
resolved-right s (address x) = right_pointer_to s x (meaning s x) refl
resolved-right s (address_index x a) = right_pointer_to_element s x a (r.named x (meaning s x)) (resolved s a)
    (right_named s x (meaning s x) refl) (resolved-right s a)
resolved-right s (unary op a) = right_unary s op a (resolved s a) (resolved-right s a)
resolved-right s (cast k a) = right_converted s k a (resolved s a) (resolved-right s a)
resolved-right s (binary op a b) = right_binary s op a b (resolved s a) (resolved s b) (resolved-right s a)
    (resolved-right s b)
resolved-right s (and_also a b) = right_both s a b (tested (resolved s a)) (tested (resolved s b))
    (right_test s a (resolved s a) (resolved-right s a)) (right_test s b (resolved s b) (resolved-right s b))
resolved-right s (or_else a b) = right_either s a b (tested (resolved s a)) (tested (resolved s b))
    (right_test s a (resolved s a) (resolved-right s a)) (right_test s b (resolved s b) (resolved-right s b))
resolved-right s (conditional c a b) = right_choice s c a b (tested (resolved s c)) (resolved s a) (resolved s b)
    (right_test s c (resolved s c) (resolved-right s c)) (resolved-right s a) (resolved-right s b)

pub tested-right : (s : Scope) (a : ExprTree) → IsRightTest s a (tested (resolved s a))
tested-right s a = right_test s a (resolved s a) (resolved-right s a)
