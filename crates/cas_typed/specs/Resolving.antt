-- What an expression is resolved to, and its type, as a function; nothing if its types don't fit.
use Rattle.std.specs.Prelude.{ℕ, Bool, List, [], ◌∷◌, if◌then◌else◌, Option, Some, None}
use Rattle.cas_base.specs.Ty.{same_kind}
use Rattle.cas_base.specs.declared.decl.Form.TheVariants.{Shared}
use Rattle.cas_base.specs.declared.kind.Kind.{Kind}
use Rattle.cas_base.specs.declared.kind.Kind.TheVariants.{I32}
use Rattle.cas_base.specs.declared.kind.Ty.{Ty}
use Rattle.cas_base.specs.declared.kind.Ty.TheVariants.{Int, Ptr, Array}
use Rattle.cas_syntax.specs.declared.tree.Ident.{Ident}
use Rattle.cas_syntax.specs.declared.tree.UnaryOperator.{UnaryOperator}
use Rattle.cas_syntax.specs.declared.tree.UnaryOperator.TheVariants as un
use Rattle.cas_syntax.specs.declared.tree.BinaryOperator.{BinaryOperator}
use Rattle.cas_syntax.specs.declared.tree.BinaryOperator.TheVariants as bin
use Rattle.cas_syntax.specs.Tree.{ExprTree, literal, name, index, deref, address, address_index, unary, cast, binary, and_also, or_else, conditional, TargetTree, to_name, to_index, to_deref}
use Rattle.cas_typed.specs.Resolved as t
use Rattle.cas_typed.specs.Resolved.{TypedExprTree, TypedTargetTree}
use Rattle.cas_typed.specs.Scopes.{Scope, Meaning, meaning, variable, item}
use Rattle.cas_typed.specs.Types.{promoted, common, reading, is_null, variable_type}

-- what was found of an expression
pub data Found : Type 0 where
  unfit : Found
  fits : TypedExprTree → Ty → Found

-- of a name alone
abbrev pub global_named : Ident → (number : ℕ) → Option Ty → Found
global_named x g (Some (Int k)) = fits (t.global g x.place) (Int k)
global_named x g _ = unfit

abbrev pub named : Ident → Meaning → Found
named x (variable n (Int k)) = fits (t.local n) (Int k)
named x (variable n (Ptr k)) = fits (t.local n) (Ptr k)
named x (variable n (Array k len)) = fits (t.place_of n) (Ptr k)
named x (item g form) = global_named x g (variable_type form)
named x _ = unfit

-- of x[e], of a global and of a local
abbrev pub element_of : Ident → (number : ℕ) → Option Ty → Found → Found
element_of x g (Some (Array k n)) (fits e (Int j)) = fits (t.element g x.place (reading j) e) (Int k)
element_of x g _ _ = unfit

abbrev pub element_behind : Found → Found → Found
element_behind (fits p (Ptr k)) (fits e (Int j)) = fits (t.behind k (t.pointer_plus (reading j) p e)) (Int k)
element_behind _ _ = unfit

abbrev pub indexed : Ident → Meaning → Found → Found
indexed x (item g form) e = element_of x g (variable_type form) e
indexed x m e = element_behind (named x m) e

-- of *p, &x and &x[e]
abbrev pub cell_behind : Found → Found
cell_behind (fits p (Ptr k)) = fits (t.behind k p) (Int k)
cell_behind _ = unfit

abbrev pub pointer_to : Meaning → Found
pointer_to (variable n (Int k)) = fits (t.place_of n) (Ptr k)
pointer_to _ = unfit

abbrev pub pointer_to_element : Found → Found → Found
pointer_to_element (fits p (Ptr k)) (fits e (Int j)) = fits (t.pointer_plus (reading j) p e) (Ptr k)
pointer_to_element _ _ = unfit

-- of a condition
abbrev pub tested : Found → Option TypedExprTree
tested (fits e (Int k)) = Some e
tested (fits p (Ptr k)) = Some (t.compare bin.Ne p t.null)
tested _ = None

-- of -a, +a, ~a and !a
abbrev pub negated : Option TypedExprTree → Found
negated (Some c) = fits (t.unary un.Not c) (Int I32)
negated None = unfit

abbrev pub signed : UnaryOperator → Found → Found
signed op (fits a (Int k)) = fits (t.unary op a) (Int (promoted k))
signed op _ = unfit

abbrev pub unary_found : UnaryOperator → Found → Found
unary_found un.Not a = negated (tested a)
unary_found op a = signed op a

-- of (kind) a
abbrev pub converted : Kind → Found → Found
converted k (fits a (Int j)) = fits (t.narrow k a) (Int k)
converted k _ = unfit

-- of operators on two integers, or on pointers
abbrev pub arithmetic : BinaryOperator → Found → Found → Found
arithmetic op (fits a (Int j)) (fits b (Int k)) = fits (t.binary op (reading (common j k)) a b) (Int (common j k))
arithmetic op _ _ = unfit

abbrev pub sum : Found → Found → Found
sum (fits p (Ptr k)) (fits e (Int j)) = fits (t.pointer_plus (reading j) p e) (Ptr k)
sum (fits e (Int j)) (fits p (Ptr k)) = fits (t.plus_pointer (reading j) e p) (Ptr k)
sum a b = arithmetic bin.Add a b

abbrev pub difference : Found → Found → Found
difference (fits p (Ptr k)) (fits e (Int j)) = fits (t.pointer_minus (reading j) p e) (Ptr k)
difference (fits p (Ptr j)) (fits q (Ptr k)) =
    if same_kind j k then fits (t.pointer_difference p q) (Int I32) else unfit
difference a b = arithmetic bin.Sub a b

abbrev pub shift : BinaryOperator → Found → Found → Found
shift op (fits a (Int j)) (fits b (Int k)) = fits (t.binary op (reading j) a b) (Int (promoted j))
shift op _ _ = unfit

abbrev pub order : BinaryOperator → Found → Found → Found
order op (fits a (Int j)) (fits b (Int k)) = fits (t.binary op (reading (common j k)) a b) (Int I32)
order op (fits p (Ptr j)) (fits q (Ptr k)) = if same_kind j k then fits (t.compare op p q) (Int I32) else unfit
order op _ _ = unfit

-- the first two arguments say whether the sides are the literal 0
abbrev pub equality : BinaryOperator → (left_null right_null : Bool) → Found → Found → Found
equality op l r (fits p (Ptr k)) (fits b (Int j)) = if r then fits (t.compare op p t.null) (Int I32) else unfit
equality op l r (fits a (Int j)) (fits q (Ptr k)) = if l then fits (t.compare op t.null q) (Int I32) else unfit
equality op l r a b = order op a b

abbrev pub binary_found : BinaryOperator → (left_null right_null : Bool) → Found → Found → Found
binary_found bin.Add l r a b = sum a b
binary_found bin.Sub l r a b = difference a b
binary_found bin.Mul l r a b = arithmetic bin.Mul a b
binary_found bin.Div l r a b = arithmetic bin.Div a b
binary_found bin.Mod l r a b = arithmetic bin.Mod a b
binary_found bin.Shl l r a b = shift bin.Shl a b
binary_found bin.Shr l r a b = shift bin.Shr a b
binary_found bin.BitAnd l r a b = arithmetic bin.BitAnd a b
binary_found bin.BitOr l r a b = arithmetic bin.BitOr a b
binary_found bin.BitXor l r a b = arithmetic bin.BitXor a b
binary_found bin.Eq l r a b = equality bin.Eq l r a b
binary_found bin.Ne l r a b = equality bin.Ne l r a b
binary_found bin.Lt l r a b = order bin.Lt a b
binary_found bin.Le l r a b = order bin.Le a b
binary_found bin.Gt l r a b = order bin.Gt a b
binary_found bin.Ge l r a b = order bin.Ge a b

-- of a && b, a || b
abbrev pub both : Option TypedExprTree → Option TypedExprTree → Found
both (Some c) (Some d) = fits (t.and_also c d) (Int I32)
both _ _ = unfit

abbrev pub either : Option TypedExprTree → Option TypedExprTree → Found
either (Some c) (Some d) = fits (t.or_else c d) (Int I32)
either _ _ = unfit

-- of c ? a : b
abbrev pub choice : Option TypedExprTree → (left_null right_null : Bool) → Found → Found → Found
choice (Some c) l r (fits a (Int j)) (fits b (Int k)) = fits (t.choose c a b) (Int (common j k))
choice (Some c) l r (fits p (Ptr j)) (fits q (Ptr k)) = if same_kind j k then fits (t.choose c p q) (Ptr j) else unfit
choice (Some c) l r (fits p (Ptr k)) (fits b (Int j)) = if r then fits (t.choose c p t.null) (Ptr k) else unfit
choice (Some c) l r (fits a (Int j)) (fits q (Ptr k)) = if l then fits (t.choose c t.null q) (Ptr k) else unfit
choice _ l r _ _ = unfit

-- of an expression
abbrev pub resolved : Scope → ExprTree → Found
resolved s (literal n k) = fits (t.literal n) (Int k)
resolved s (name x) = named x (meaning s x)
resolved s (index x a) = indexed x (meaning s x) (resolved s a)
resolved s (deref a) = cell_behind (resolved s a)
resolved s (address x) = pointer_to (meaning s x)
resolved s (address_index x a) = pointer_to_element (named x (meaning s x)) (resolved s a)
resolved s (unary op a) = unary_found op (resolved s a)
resolved s (cast k a) = converted k (resolved s a)
resolved s (binary op a b) = binary_found op (is_null a) (is_null b) (resolved s a) (resolved s b)
resolved s (and_also a b) = both (tested (resolved s a)) (tested (resolved s b))
resolved s (or_else a b) = either (tested (resolved s a)) (tested (resolved s b))
resolved s (conditional c a b) = choice (tested (resolved s c)) (is_null a) (is_null b) (resolved s a) (resolved s b)

-- as a value of this type; the second argument says whether it is the literal 0
abbrev pub given : Ty → (is_zero : Bool) → Found → Option TypedExprTree
given (Int k) z (fits e (Int j)) = Some (t.narrow k e)
given (Ptr k) z (fits p (Ptr j)) = if same_kind j k then Some p else None
given (Ptr k) z (fits e (Int j)) = if z then Some t.null else None
given _ z _ = None

abbrev pub value_of : Scope → ExprTree → Ty → Option TypedExprTree
value_of s a ty = given ty (is_null a) (resolved s a)

-- of arguments, for parameters of these types
abbrev pub joined : Option TypedExprTree → Option (List TypedExprTree) → Option (List TypedExprTree)
joined (Some e) (Some es) = Some (e ∷ es)
joined _ _ = None

abbrev pub values_of : Scope → List ExprTree → List Ty → Option (List TypedExprTree)
values_of s [] [] = Some []
values_of s (a ∷ args) (ty ∷ tys) = joined (value_of s a ty) (values_of s args tys)
values_of s _ _ = None

-- what was found of a target: no cell that may be written, or a cell of this type
pub data Written : Type 0 where
  unwritable : Written
  written : TypedTargetTree → Ty → Written

abbrev pub write_named : Ident → Meaning → Written
write_named x (variable n (Int k)) = written (t.to_local n) (Int k)
write_named x (variable n (Ptr k)) = written (t.to_local n) (Ptr k)
write_named x (item g (Shared (Int k) guard)) = written (t.to_global g x.place) (Int k)
write_named x _ = unwritable

abbrev pub write_element : Ident → (number : ℕ) → Kind → Found → Written
write_element x g k (fits e (Int j)) = written (t.to_element g x.place (reading j) e) (Int k)
write_element x g k _ = unwritable

abbrev pub write_element_behind : Found → Found → Written
write_element_behind (fits p (Ptr k)) (fits e (Int j)) =
    written (t.to_behind k (t.pointer_plus (reading j) p e)) (Int k)
write_element_behind _ _ = unwritable

abbrev pub write_indexed : Ident → Meaning → Found → Written
write_indexed x (item g (Shared (Array k n) guard)) e = write_element x g k e
write_indexed x (item g form) e = unwritable
write_indexed x m e = write_element_behind (named x m) e

abbrev pub write_behind : Found → Written
write_behind (fits p (Ptr k)) = written (t.to_behind k p) (Int k)
write_behind _ = unwritable

abbrev pub target_of : Scope → TargetTree → Written
target_of s (to_name x) = write_named x (meaning s x)
target_of s (to_index x a) = write_indexed x (meaning s x) (resolved s a)
target_of s (to_deref a) = write_behind (resolved s a)
