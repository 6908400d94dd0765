-- What the rules of types say of an expression is resolved of it, and none of its names has a fault.
use Rattle.std.proofs.Common.{◌≡◌, ℕ, Bool, true, if◌then◌else◌, Option, Some, None, refl, ap, ◌∙◌}
use Rattle.cas_base.specs.Ty.{same_kind}
use Rattle.cas_base.specs.declared.decl.Form.{Form}
use Rattle.cas_base.specs.declared.decl.Form.TheVariants.{Lock, Shared, Table, Function}
use Rattle.cas_base.specs.declared.kind.Kind.{Kind}
use Rattle.cas_base.specs.declared.kind.Kind.TheVariants.{I32}
use Rattle.cas_base.specs.declared.kind.Ty.{Ty}
use Rattle.cas_base.specs.declared.kind.Ty.TheVariants.{Void, Int, Ptr, Array}
use Rattle.cas_syntax.specs.declared.tree.Ident.{Ident}
use Rattle.cas_syntax.specs.declared.tree.UnaryOperator.{UnaryOperator}
use Rattle.cas_syntax.specs.declared.tree.BinaryOperator.{BinaryOperator}
use Rattle.cas_syntax.specs.declared.tree.BinaryOperator.TheVariants as bin
use Rattle.cas_syntax.specs.Tree.{ExprTree, literal, binary}
use Rattle.cas_typed.specs.Faults.{Fault, sooner}
use Rattle.cas_typed.specs.Resolved as t
use Rattle.cas_typed.specs.Resolved.{TypedExprTree}
use Rattle.cas_typed.specs.Resolving as r
use Rattle.cas_typed.specs.Resolving.{Found, unfit, fits, resolved, tested}
use Rattle.cas_typed.specs.Scopes.{Scope, Meaning, meaning, undeclared, variable, item}
use Rattle.cas_typed.specs.Types.{promoted, common, reading, zero_literal, is_null, variable_type, IsSign, negation, plus, complement, IsArithmetic, sum, difference, product, quotient, remainder, conjunction, exclusion, disjunction, IsShift, left_shift, right_shift, IsEquality, equal, unequal, IsOrder, less, less_or_equal, greater, greater_or_equal}
use Rattle.cas_typed.specs.Typing.{HasType, a_literal, a_local, a_local_pointer, a_global, arithmetic, pointer_plus, plus_pointer, pointer_minus, pointer_difference, shift, equal_integers, equal_pointers, pointer_and_null, null_and_pointer, ordered_integers, ordered_pointers, both, either, not_so, choice, choice_of_pointers, choice_or_null, null_or_choice, signed, converted, cell_behind, element_behind, element_of_global, pointer_to_local, pointer_to_element, first_element, Tests, an_integer_test, a_pointer_test}
use Rattle.cas_typed.specs.Walk.{fault_of_name, fault_alone, fault_of_address, fault_of_element, names_fault}
use Rattle.cas_typed.proofs.Basics.{same_kind-refl}

-- pointers of one kind
same : (k : Kind) (f : Found) → (if same_kind k k then f else unfit) ≡ f
same k f = ap (λ c. if c then f else unfit) (same_kind-refl k)

-- operators on what was found

arithmetic_found : {op : BinaryOperator} → IsArithmetic op → (l m : Bool) (a b : TypedExprTree) (j k : Kind) →
    r.binary_found op l m (fits a (Int j)) (fits b (Int k)) ≡ fits (t.binary op (reading (common j k)) a b)
    (Int (common j k))
arithmetic_found sum l m a b j k = refl
arithmetic_found difference l m a b j k = refl
arithmetic_found product l m a b j k = refl
arithmetic_found quotient l m a b j k = refl
arithmetic_found remainder l m a b j k = refl
arithmetic_found conjunction l m a b j k = refl
arithmetic_found exclusion l m a b j k = refl
arithmetic_found disjunction l m a b j k = refl

shift_found : {op : BinaryOperator} → IsShift op → (l m : Bool) (a b : TypedExprTree) (j k : Kind) →
    r.binary_found op l m (fits a (Int j)) (fits b (Int k)) ≡ fits (t.binary op (reading j) a b) (Int (promoted j))
shift_found left_shift l m a b j k = refl
shift_found right_shift l m a b j k = refl

equal_found : {op : BinaryOperator} → IsEquality op → (l m : Bool) (a b : TypedExprTree) (j k : Kind) →
    r.binary_found op l m (fits a (Int j)) (fits b (Int k)) ≡ fits (t.binary op (reading (common j k)) a b) (Int I32)
equal_found equal l m a b j k = refl
equal_found unequal l m a b j k = refl

equal_pointers_found : {op : BinaryOperator} → IsEquality op → (l m : Bool) (p q : TypedExprTree) (k : Kind) →
    r.binary_found op l m (fits p (Ptr k)) (fits q (Ptr k)) ≡ fits (t.compare op p q) (Int I32)
equal_pointers_found equal l m p q k = same k (fits (t.compare bin.Eq p q) (Int I32))
equal_pointers_found unequal l m p q k = same k (fits (t.compare bin.Ne p q) (Int I32))

pointer_null_found : {op : BinaryOperator} → IsEquality op → (l : Bool) (p e : TypedExprTree) (j k : Kind) →
    r.binary_found op l true (fits p (Ptr k)) (fits e (Int j)) ≡ fits (t.compare op p t.null) (Int I32)
pointer_null_found equal l p e j k = refl
pointer_null_found unequal l p e j k = refl

null_pointer_found : {op : BinaryOperator} → IsEquality op → (m : Bool) (e q : TypedExprTree) (j k : Kind) →
    r.binary_found op true m (fits e (Int j)) (fits q (Ptr k)) ≡ fits (t.compare op t.null q) (Int I32)
null_pointer_found equal m e q j k = refl
null_pointer_found unequal m e q j k = refl

order_found : {op : BinaryOperator} → IsOrder op → (l m : Bool) (a b : TypedExprTree) (j k : Kind) →
    r.binary_found op l m (fits a (Int j)) (fits b (Int k)) ≡ fits (t.binary op (reading (common j k)) a b) (Int I32)
order_found less l m a b j k = refl
order_found less_or_equal l m a b j k = refl
order_found greater l m a b j k = refl
order_found greater_or_equal l m a b j k = refl

ordered_pointers_found : {op : BinaryOperator} → IsOrder op → (l m : Bool) (p q : TypedExprTree) (k : Kind) →
    r.binary_found op l m (fits p (Ptr k)) (fits q (Ptr k)) ≡ fits (t.compare op p q) (Int I32)
ordered_pointers_found less l m p q k = same k (fits (t.compare bin.Lt p q) (Int I32))
ordered_pointers_found less_or_equal l m p q k = same k (fits (t.compare bin.Le p q) (Int I32))
ordered_pointers_found greater l m p q k = same k (fits (t.compare bin.Gt p q) (Int I32))
ordered_pointers_found greater_or_equal l m p q k = same k (fits (t.compare bin.Ge p q) (Int I32))

signed_found : {op : UnaryOperator} → IsSign op → (a : TypedExprTree) (k : Kind) →
    r.unary_found op (fits a (Int k)) ≡ fits (t.unary op a) (Int (promoted k))
signed_found negation a k = refl
signed_found plus a k = refl
signed_found complement a k = refl

-- what was found of the sides
sides : (s : Scope) (op : BinaryOperator) (a b : ExprTree) {f g : Found} → resolved s a ≡ f → resolved s b ≡ g →
    resolved s (binary op a b) ≡ r.binary_found op (is_null a) (is_null b) f g
sides s op a b h h' = λ i. r.binary_found op (is_null a) (is_null b) (h i) (h' i)

-- a name that is a pointer is a local

pub no_pointer : (x : Ident) (g : ℕ) (o : Option Ty) (p : TypedExprTree) (k : Kind) →
    r.global_named x g o ≡ fits p (Ptr k) → ⊥
no_pointer x g (Some (Int j)) p k h = cc
no_pointer x g _ p k h = cc

element_by_name : (x : Ident) (m : Meaning) (p : TypedExprTree) (k : Kind) (f : Found) → r.named x m ≡ fits p (Ptr k) →
    r.indexed x m f ≡ r.element_behind (fits p (Ptr k)) f
element_by_name x undeclared p k f h = cc
element_by_name x (variable n ty) p k f h = ap (λ g. r.element_behind g f) h
element_by_name x (item g form) p k f h = absurd (no_pointer x g (variable_type form) p k h)

mutual
  pub HasType-resolved : {s : Scope} {a : ExprTree} {e : TypedExprTree} {ty : Ty} → HasType s a e ty →
      resolved s a ≡ fits e ty
  HasType-resolved (a_literal n k) = refl
  HasType-resolved (a_local x n k is) = ap (r.named x) is
  HasType-resolved (a_local_pointer x n k is) = ap (r.named x) is
  HasType-resolved (a_global x g form k is of) = ap (r.named x) is ∙ ap (r.global_named x g) of
  HasType-resolved {s} (arithmetic op a b a' b' j k is h h') = sides s op a b (HasType-resolved h) (HasType-resolved h')
      ∙ arithmetic_found is (is_null a) (is_null b) a' b' j k
  HasType-resolved {s} (pointer_plus a b p e j k h h') = sides s bin.Add a b (HasType-resolved h) (HasType-resolved h')
  HasType-resolved {s} (plus_pointer a b e p j k h h') = sides s bin.Add a b (HasType-resolved h) (HasType-resolved h')
  HasType-resolved {s} (pointer_minus a b p e j k h h') = sides s bin.Sub a b (HasType-resolved h) (HasType-resolved h')
  HasType-resolved {s} (pointer_difference a b p q k h h') =
      sides s bin.Sub a b (HasType-resolved h) (HasType-resolved h')
      ∙ same k (fits (t.pointer_difference p q) (Int I32))
  HasType-resolved {s} (shift op a b a' b' j k is h h') = sides s op a b (HasType-resolved h) (HasType-resolved h')
      ∙ shift_found is (is_null a) (is_null b) a' b' j k
  HasType-resolved {s} (equal_integers op a b a' b' j k is h h') =
      sides s op a b (HasType-resolved h) (HasType-resolved h') ∙ equal_found is (is_null a) (is_null b) a' b' j k
  HasType-resolved {s} (equal_pointers op a b p q k is h h') = sides s op a b (HasType-resolved h) (HasType-resolved h')
      ∙ equal_pointers_found is (is_null a) (is_null b) p q k
  HasType-resolved {s} (pointer_and_null op a _ p k is h zero_literal) =
      sides s op a (literal 0 I32) (HasType-resolved h) refl ∙ pointer_null_found is (is_null a) p (t.literal 0) I32 k
  HasType-resolved {s} (null_and_pointer op _ b q k is zero_literal h) =
      sides s op (literal 0 I32) b refl (HasType-resolved h) ∙ null_pointer_found is (is_null b) (t.literal 0) q I32 k
  HasType-resolved {s} (ordered_integers op a b a' b' j k is h h') =
      sides s op a b (HasType-resolved h) (HasType-resolved h') ∙ order_found is (is_null a) (is_null b) a' b' j k
  HasType-resolved {s} (ordered_pointers op a b p q k is h h') =
      sides s op a b (HasType-resolved h) (HasType-resolved h')
      ∙ ordered_pointers_found is (is_null a) (is_null b) p q k
  HasType-resolved (both a b c d h h') = λ i. r.both (Tests-tested h i) (Tests-tested h' i)
  HasType-resolved (either a b c d h h') = λ i. r.either (Tests-tested h i) (Tests-tested h' i)
  HasType-resolved (not_so a c h) = ap r.negated (Tests-tested h)
  HasType-resolved (choice c a b d a' b' j k hc h h') =
      λ i. r.choice (Tests-tested hc i) (is_null a) (is_null b) (HasType-resolved h i) (HasType-resolved h' i)
  HasType-resolved (choice_of_pointers c a b d p q k hc h h') =
      (λ i. r.choice (Tests-tested hc i) (is_null a) (is_null b) (HasType-resolved h i) (HasType-resolved h' i))
      ∙ same k (fits (t.choose d p q) (Ptr k))
  HasType-resolved (choice_or_null c a _ d p k hc h zero_literal) =
      λ i. r.choice (Tests-tested hc i) (is_null a) true (HasType-resolved h i) (fits (t.literal 0) (Int I32))
  HasType-resolved (null_or_choice c _ b d q k hc zero_literal h) =
      λ i. r.choice (Tests-tested hc i) true (is_null b) (fits (t.literal 0) (Int I32)) (HasType-resolved h i)
  HasType-resolved (signed op a a' k is h) = ap (r.unary_found op) (HasType-resolved h) ∙ signed_found is a' k
  HasType-resolved (converted k a a' j h) = ap (r.converted k) (HasType-resolved h)
  HasType-resolved (cell_behind a p k h) = ap r.cell_behind (HasType-resolved h)
  HasType-resolved {s} (element_behind x a p e j k h h') =
      element_by_name x (meaning s x) p k (resolved s a) (HasType-resolved h)
      ∙ ap (r.element_behind (fits p (Ptr k))) (HasType-resolved h')
  HasType-resolved (element_of_global x a e g n form j k is of h) = (λ i. r.indexed x (is i) (HasType-resolved h i))
      ∙ ap (λ o. r.element_of x g o (fits e (Int j))) of
  HasType-resolved (pointer_to_local x n k is) = ap r.pointer_to is
  HasType-resolved (pointer_to_element x a p e j k h h') =
      λ i. r.pointer_to_element (HasType-resolved h i) (HasType-resolved h' i)
  HasType-resolved (first_element x n len k is) = ap (r.named x) is

  pub Tests-tested : {s : Scope} {a : ExprTree} {c : TypedExprTree} → Tests s a c → tested (resolved s a) ≡ Some c
  Tests-tested (an_integer_test a e k h) = ap tested (HasType-resolved h)
  Tests-tested (a_pointer_test a p k h) = ap tested (HasType-resolved h)

-- names

-- two parts without a fault
pub neither_fault : {o p : Option Fault} → o ≡ None → p ≡ None → sooner o p ≡ None
neither_fault h h' = λ i. sooner (h i) (h' i)

named_alone : (x : Ident) (g : ℕ) (form : Form) (k : Kind) → variable_type form ≡ Some (Int k) →
    fault_alone x (item g form) ≡ None
named_alone x g (Shared (Int j) guard) k of = refl
named_alone x g (Shared (Ptr j) guard) k of = refl
named_alone x g (Shared (Array j n) guard) k of = cc
named_alone x g (Shared Void guard) k of = refl
named_alone x g (Table (Int j)) k of = refl
named_alone x g (Table (Ptr j)) k of = refl
named_alone x g (Table (Array j n)) k of = cc
named_alone x g (Table Void) k of = refl
named_alone x g Lock k of = refl
named_alone x g (Function ret params holds) k of = refl

pub named_behind : (x : Ident) (m : Meaning) (p : TypedExprTree) (k : Kind) → r.named x m ≡ fits p (Ptr k) →
    (fault_of_name x m ≡ None) × (fault_of_element x m ≡ None)
named_behind x undeclared p k h = cc
named_behind x (variable n ty) p k h = (refl, refl)
named_behind x (item g form) p k h = absurd (no_pointer x g (variable_type form) p k h)

mutual
  pub HasType-names : {s : Scope} {a : ExprTree} {e : TypedExprTree} {ty : Ty} → HasType s a e ty →
      names_fault s a ≡ None
  HasType-names (a_literal n k) = refl
  HasType-names (a_local x n k is) = ap (fault_alone x) is
  HasType-names (a_local_pointer x n k is) = ap (fault_alone x) is
  HasType-names (a_global x g form k is of) = ap (fault_alone x) is ∙ named_alone x g form k of
  HasType-names (arithmetic op a b a' b' j k is h h') = neither_fault (HasType-names h) (HasType-names h')
  HasType-names (pointer_plus a b p e j k h h') = neither_fault (HasType-names h) (HasType-names h')
  HasType-names (plus_pointer a b e p j k h h') = neither_fault (HasType-names h) (HasType-names h')
  HasType-names (pointer_minus a b p e j k h h') = neither_fault (HasType-names h) (HasType-names h')
  HasType-names (pointer_difference a b p q k h h') = neither_fault (HasType-names h) (HasType-names h')
  HasType-names (shift op a b a' b' j k is h h') = neither_fault (HasType-names h) (HasType-names h')
  HasType-names (equal_integers op a b a' b' j k is h h') = neither_fault (HasType-names h) (HasType-names h')
  HasType-names (equal_pointers op a b p q k is h h') = neither_fault (HasType-names h) (HasType-names h')
  HasType-names (pointer_and_null op a _ p k is h zero_literal) = neither_fault (HasType-names h) refl
  HasType-names (null_and_pointer op _ b q k is zero_literal h) = HasType-names h
  HasType-names (ordered_integers op a b a' b' j k is h h') = neither_fault (HasType-names h) (HasType-names h')
  HasType-names (ordered_pointers op a b p q k is h h') = neither_fault (HasType-names h) (HasType-names h')
  HasType-names (both a b c d h h') = neither_fault (Tests-names h) (Tests-names h')
  HasType-names (either a b c d h h') = neither_fault (Tests-names h) (Tests-names h')
  HasType-names (not_so a c h) = Tests-names h
  HasType-names (choice c a b d a' b' j k hc h h') = neither_fault (Tests-names hc)
      (neither_fault (HasType-names h) (HasType-names h'))
  HasType-names (choice_of_pointers c a b d p q k hc h h') =
      neither_fault (Tests-names hc) (neither_fault (HasType-names h) (HasType-names h'))
  HasType-names (choice_or_null c a _ d p k hc h zero_literal) =
      neither_fault (Tests-names hc) (neither_fault (HasType-names h) refl)
  HasType-names (null_or_choice c _ b d q k hc zero_literal h) = neither_fault (Tests-names hc) (HasType-names h)
  HasType-names (signed op a a' k is h) = HasType-names h
  HasType-names (converted k a a' j h) = HasType-names h
  HasType-names (cell_behind a p k h) = HasType-names h
  HasType-names {s} (element_behind x a p e j k h h') =
      neither_fault (named_behind x (meaning s x) p k (HasType-resolved h)).0 (HasType-names h')
  HasType-names (element_of_global x a e g n form j k is of h) =
      neither_fault (ap (fault_of_name x) is) (HasType-names h)
  HasType-names (pointer_to_local x n k is) = ap (fault_of_address x) is
  HasType-names {s} (pointer_to_element x a p e j k h h') =
      neither_fault (named_behind x (meaning s x) p k (HasType-resolved h)).1 (HasType-names h')
  HasType-names (first_element x n len k is) = ap (fault_alone x) is

  pub Tests-names : {s : Scope} {a : ExprTree} {c : TypedExprTree} → Tests s a c → names_fault s a ≡ None
  Tests-names (an_integer_test a e k h) = HasType-names h
  Tests-names (a_pointer_test a p k h) = HasType-names h
