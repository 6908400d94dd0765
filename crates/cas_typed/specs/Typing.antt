-- The rules of types: which trees are typed, and what they are resolved to. (Clight's, in a profile with locks.)
use Rattle.std.specs.Prelude.{◌≡◌, ◌<◌, ℕ, Bool, true, false, List, [], ◌∷◌, Option, Some, None}
use Rattle.cas_base.specs.Ty.{words_of_ty}
use Rattle.cas_base.specs.declared.decl.Form.{Form}
use Rattle.cas_base.specs.declared.decl.Form.TheVariants.{Lock, Shared, Function}
use Rattle.cas_base.specs.declared.kind.Kind.{Kind}
use Rattle.cas_base.specs.declared.kind.Kind.TheVariants.{I32}
use Rattle.cas_base.specs.declared.kind.Ty.{Ty}
use Rattle.cas_base.specs.declared.kind.Ty.TheVariants.{Int, Ptr, Array}
use Rattle.cas_base.specs.declared.place.Place.{Place}
use Rattle.cas_syntax.specs.declared.tree.Ident.{Ident}
use Rattle.cas_syntax.specs.declared.tree.UnaryOperator.{UnaryOperator}
use Rattle.cas_syntax.specs.declared.tree.UnaryOperator.TheVariants as un
use Rattle.cas_syntax.specs.declared.tree.BinaryOperator.{BinaryOperator}
use Rattle.cas_syntax.specs.declared.tree.BinaryOperator.TheVariants as bin
use Rattle.cas_syntax.specs.Tree.{ExprTree, literal, name, index, deref, address, address_index, unary, cast, binary, and_also, or_else, conditional, TargetTree, to_name, to_index, to_deref, nothing, value, called, StmtTree, skip, declare, assign, call, block, if_, while_, do_, for_, break_, continue_, return_, lock, unlock, print, StmtOption, absent, present, StmtList, no_more, one_more}
use Rattle.cas_typed.specs.declared.tree.Destination.{Destination}
use Rattle.cas_typed.specs.Resolved as t
use Rattle.cas_typed.specs.Resolved.{TypedExprTree, TypedTargetTree, TypedStmtTree, TypedStmtOption, TypedStmtList, TypedFunTree, TypedModuleTree}
use Rattle.cas_typed.specs.Scopes.{Scope, meaning, variable, item, is_in_block, declaring, inside, past, past_option, after, after_option}
use Rattle.cas_typed.specs.Types.{promoted, common, reading, IsNull, no_value, variable_type, IsSign, IsArithmetic, IsShift, IsEquality, IsOrder}

mutual
  -- The expression is resolved to this, and has this type: an integer or a pointer.
  pub data HasType (s : Scope) : ExprTree → TypedExprTree → Ty → Type 0 where
    a_literal : (n : ℕ) (k : Kind) → HasType s (literal n k) (t.literal n) (Int k)
    a_local : (x : Ident) (n : ℕ) (k : Kind) → meaning s x ≡ variable n (Int k) → HasType s (name x) (t.local n) (Int k)
    a_local_pointer : (x : Ident) (n : ℕ) (k : Kind) → meaning s x ≡ variable n (Ptr k) →
        HasType s (name x) (t.local n) (Ptr k)
    a_global : (x : Ident) (g : ℕ) (form : Form) (k : Kind) → meaning s x ≡ item g form →
        variable_type form ≡ Some (Int k) →
        HasType s (name x) (t.global g x.place) (Int k)
    -- a + b, a - b, a * b, a / b, a % b, a & b, a ^ b, a | b
    arithmetic : (op : BinaryOperator) (a b : ExprTree) (a' b' : TypedExprTree) (j k : Kind) → IsArithmetic op →
        HasType s a a' (Int j) → HasType s b b' (Int k) →
        HasType s (binary op a b) (t.binary op (reading (common j k)) a' b') (Int (common j k))
    -- p + e, e + p, p - e
    pointer_plus : (a b : ExprTree) (p e : TypedExprTree) (j k : Kind) → HasType s a p (Ptr k) → HasType s b e (Int j) →
        HasType s (binary bin.Add a b) (t.pointer_plus (reading j) p e) (Ptr k)
    plus_pointer : (a b : ExprTree) (e p : TypedExprTree) (j k : Kind) → HasType s a e (Int j) → HasType s b p (Ptr k) →
        HasType s (binary bin.Add a b) (t.plus_pointer (reading j) e p) (Ptr k)
    pointer_minus : (a b : ExprTree) (p e : TypedExprTree) (j k : Kind) → HasType s a p (Ptr k) →
        HasType s b e (Int j) →
        HasType s (binary bin.Sub a b) (t.pointer_minus (reading j) p e) (Ptr k)
    -- p - q
    pointer_difference : (a b : ExprTree) (p q : TypedExprTree) (k : Kind) → HasType s a p (Ptr k) →
        HasType s b q (Ptr k) →
        HasType s (binary bin.Sub a b) (t.pointer_difference p q) (Int I32)
    -- a << b, a >> b
    shift : (op : BinaryOperator) (a b : ExprTree) (a' b' : TypedExprTree) (j k : Kind) → IsShift op →
        HasType s a a' (Int j) → HasType s b b' (Int k) →
        HasType s (binary op a b) (t.binary op (reading j) a' b') (Int (promoted j))
    -- a == b, a != b
    equal_integers : (op : BinaryOperator) (a b : ExprTree) (a' b' : TypedExprTree) (j k : Kind) → IsEquality op →
        HasType s a a' (Int j) → HasType s b b' (Int k) →
        HasType s (binary op a b) (t.binary op (reading (common j k)) a' b') (Int I32)
    equal_pointers : (op : BinaryOperator) (a b : ExprTree) (p q : TypedExprTree) (k : Kind) → IsEquality op →
        HasType s a p (Ptr k) → HasType s b q (Ptr k) → HasType s (binary op a b) (t.compare op p q) (Int I32)
    pointer_and_null : (op : BinaryOperator) (a b : ExprTree) (p : TypedExprTree) (k : Kind) → IsEquality op →
        HasType s a p (Ptr k) → IsNull b → HasType s (binary op a b) (t.compare op p t.null) (Int I32)
    null_and_pointer : (op : BinaryOperator) (a b : ExprTree) (q : TypedExprTree) (k : Kind) → IsEquality op →
        IsNull a → HasType s b q (Ptr k) → HasType s (binary op a b) (t.compare op t.null q) (Int I32)
    -- a < b, a <= b, a > b, a >= b
    ordered_integers : (op : BinaryOperator) (a b : ExprTree) (a' b' : TypedExprTree) (j k : Kind) → IsOrder op →
        HasType s a a' (Int j) → HasType s b b' (Int k) →
        HasType s (binary op a b) (t.binary op (reading (common j k)) a' b') (Int I32)
    ordered_pointers : (op : BinaryOperator) (a b : ExprTree) (p q : TypedExprTree) (k : Kind) → IsOrder op →
        HasType s a p (Ptr k) → HasType s b q (Ptr k) → HasType s (binary op a b) (t.compare op p q) (Int I32)
    -- a && b, a || b, !a
    both : (a b : ExprTree) (c d : TypedExprTree) → Tests s a c → Tests s b d →
        HasType s (and_also a b) (t.and_also c d) (Int I32)
    either : (a b : ExprTree) (c d : TypedExprTree) → Tests s a c → Tests s b d →
        HasType s (or_else a b) (t.or_else c d) (Int I32)
    not_so : (a : ExprTree) (c : TypedExprTree) → Tests s a c → HasType s (unary un.Not a) (t.unary un.Not c) (Int I32)
    -- c ? a : b
    choice : (c a b : ExprTree) (d a' b' : TypedExprTree) (j k : Kind) → Tests s c d → HasType s a a' (Int j) →
        HasType s b b' (Int k) →
        HasType s (conditional c a b) (t.choose d a' b') (Int (common j k))
    choice_of_pointers : (c a b : ExprTree) (d p q : TypedExprTree) (k : Kind) → Tests s c d → HasType s a p (Ptr k) →
        HasType s b q (Ptr k) →
        HasType s (conditional c a b) (t.choose d p q) (Ptr k)
    choice_or_null : (c a b : ExprTree) (d p : TypedExprTree) (k : Kind) → Tests s c d → HasType s a p (Ptr k) →
        IsNull b →
        HasType s (conditional c a b) (t.choose d p t.null) (Ptr k)
    null_or_choice : (c a b : ExprTree) (d q : TypedExprTree) (k : Kind) → Tests s c d → IsNull a →
        HasType s b q (Ptr k) →
        HasType s (conditional c a b) (t.choose d t.null q) (Ptr k)
    -- -a, +a, ~a
    signed : (op : UnaryOperator) (a : ExprTree) (a' : TypedExprTree) (k : Kind) → IsSign op → HasType s a a' (Int k) →
        HasType s (unary op a) (t.unary op a') (Int (promoted k))
    -- (kind) a
    converted : (k : Kind) (a : ExprTree) (a' : TypedExprTree) (j : Kind) → HasType s a a' (Int j) →
        HasType s (cast k a) (t.narrow k a') (Int k)
    -- *p, x[e] of a local, which is *(x + e), x[e] of a global
    cell_behind : (a : ExprTree) (p : TypedExprTree) (k : Kind) → HasType s a p (Ptr k) →
        HasType s (deref a) (t.behind k p) (Int k)
    element_behind : (x : Ident) (a : ExprTree) (p e : TypedExprTree) (j k : Kind) → HasType s (name x) p (Ptr k) →
        HasType s a e (Int j) →
        HasType s (index x a) (t.behind k (t.pointer_plus (reading j) p e)) (Int k)
    element_of_global : (x : Ident) (a : ExprTree) (e : TypedExprTree) (g n : ℕ) (form : Form) (j k : Kind) →
        meaning s x ≡ item g form →
        variable_type form ≡ Some (Array k n) → HasType s a e (Int j) →
        HasType s (index x a) (t.element g x.place (reading j) e) (Int k)
    -- &x, &x[e]
    pointer_to_local : (x : Ident) (n : ℕ) (k : Kind) → meaning s x ≡ variable n (Int k) →
        HasType s (address x) (t.place_of n) (Ptr k)
    pointer_to_element : (x : Ident) (a : ExprTree) (p e : TypedExprTree) (j k : Kind) → HasType s (name x) p (Ptr k) →
        HasType s a e (Int j) →
        HasType s (address_index x a) (t.pointer_plus (reading j) p e) (Ptr k)
    -- an array's name alone
    first_element : (x : Ident) (n len : ℕ) (k : Kind) → meaning s x ≡ variable n (Array k len) →
        HasType s (name x) (t.place_of n) (Ptr k)

  -- The expression is resolved to this as a condition: an integer is true if it isn't 0, a pointer if it isn't null.
  pub data Tests (s : Scope) : ExprTree → TypedExprTree → Type 0 where
    an_integer_test : (a : ExprTree) (e : TypedExprTree) (k : Kind) → HasType s a e (Int k) → Tests s a e
    a_pointer_test : (a : ExprTree) (p : TypedExprTree) (k : Kind) → HasType s a p (Ptr k) →
        Tests s a (t.compare bin.Ne p t.null)

-- The expression is resolved to this as a value of the type: an integer is narrowed to the kind, and a pointer is of
-- the kind or the literal 0.
pub data Gives (s : Scope) : ExprTree → Ty → TypedExprTree → Type 0 where
  an_integer : (a : ExprTree) (e : TypedExprTree) (j k : Kind) → HasType s a e (Int j) →
      Gives s a (Int k) (t.narrow k e)
  a_pointer : (a : ExprTree) (p : TypedExprTree) (k : Kind) → HasType s a p (Ptr k) → Gives s a (Ptr k) p
  a_null : (a : ExprTree) (k : Kind) → IsNull a → Gives s a (Ptr k) t.null

-- each of the arguments gives a value of its parameter's type
pub data GivesEach (s : Scope) : List ExprTree → List Ty → List TypedExprTree → Type 0 where
  no_argument : GivesEach s [] [] []
  an_argument : (a : ExprTree) (args : List ExprTree) (ty : Ty) (tys : List Ty) (e : TypedExprTree)
      (es : List TypedExprTree) →
      Gives s a ty e → GivesEach s args tys es → GivesEach s (a ∷ args) (ty ∷ tys) (e ∷ es)

-- The target is a cell that may be written, of this type.
pub data Writes (s : Scope) : TargetTree → TypedTargetTree → Ty → Type 0 where
  writes_local : (x : Ident) (n : ℕ) (k : Kind) → meaning s x ≡ variable n (Int k) →
      Writes s (to_name x) (t.to_local n) (Int k)
  writes_pointer : (x : Ident) (n : ℕ) (k : Kind) → meaning s x ≡ variable n (Ptr k) →
      Writes s (to_name x) (t.to_local n) (Ptr k)
  writes_shared : (x : Ident) (g : ℕ) (k : Kind) (guard : List ℕ) → meaning s x ≡ item g (Shared (Int k) guard) →
      Writes s (to_name x) (t.to_global g x.place) (Int k)
  writes_element_behind : (x : Ident) (a : ExprTree) (p e : TypedExprTree) (j k : Kind) → HasType s (name x) p (Ptr k) →
      HasType s a e (Int j) → Writes s (to_index x a) (t.to_behind k (t.pointer_plus (reading j) p e)) (Int k)
  writes_shared_element : (x : Ident) (a : ExprTree) (e : TypedExprTree) (g n : ℕ) (j k : Kind) (guard : List ℕ) →
      meaning s x ≡ item g (Shared (Array k n) guard) → HasType s a e (Int j) →
      Writes s (to_index x a) (t.to_element g x.place (reading j) e) (Int k)
  writes_behind : (a : ExprTree) (p : TypedExprTree) (k : Kind) → HasType s a p (Ptr k) →
      Writes s (to_deref a) (t.to_behind k p) (Int k)

-- the cell of a target, as an expression
abbrev pub cell_of : TargetTree → ExprTree
cell_of (to_name x) = name x
cell_of (to_index x a) = index x a
cell_of (to_deref a) = deref a

-- what is assigned: `x op= e` is `x = x op e`
abbrev pub assigned : TargetTree → Option BinaryOperator → ExprTree → ExprTree
assigned target None a = a
assigned target (Some op) a = binary op (cell_of target) a

-- an assignment
pub data Assigns (s : Scope) : Place → TargetTree → Option BinaryOperator → ExprTree → TypedStmtTree → Type 0 where
  assigns : (p : Place) (target : TargetTree) (op : Option BinaryOperator) (a : ExprTree) (target' : TypedTargetTree)
      (ty : Ty) (e : TypedExprTree) →
      Writes s target target' ty → Gives s (assigned target op a) ty e → Assigns s p target op a (t.assign p target' e)

-- the destination of a returned value: none, or a local integer or pointer whose type takes it
pub data Keeps (s : Scope) : Option Ident → (ret : Ty) → Option Destination → Type 0 where
  drops : (ret : Ty) → Keeps s None ret None
  keeps_integer : (x : Ident) (n : ℕ) (j k : Kind) → meaning s x ≡ variable n (Int k) →
      Keeps s (Some x) (Int j) (Some (record { local = n; ty = Int k }))
  keeps_pointer : (x : Ident) (n : ℕ) (k : Kind) → meaning s x ≡ variable n (Ptr k) →
      Keeps s (Some x) (Ptr k) (Some (record { local = n; ty = Ptr k }))

-- a call
pub data Calls (s : Scope) : Place → Option Ident → Ident → List ExprTree → TypedStmtTree → Type 0 where
  calls : (p : Place) (result : Option Ident) (f : Ident) (args : List ExprTree) (g : ℕ) (ret : Ty) (tys : List Ty)
      (holds : List (List ℕ))
      (kept : Option Destination) (es : List TypedExprTree) → meaning s f ≡ item g (Function ret tys holds) →
      Keeps s result ret kept →
      GivesEach s args tys es → Calls s p result f args (t.call p kept g f.place es)

-- an expression that may be missing, as a condition
pub data TestsOptional (s : Scope) : Option ExprTree → Option TypedExprTree → Type 0 where
  no_condition : TestsOptional s None None
  a_condition : (a : ExprTree) (c : TypedExprTree) → Tests s a c → TestsOptional s (Some a) (Some c)

mutual
  -- The statement of a function with this return type, in a loop or not, is resolved to this.
  pub data IsStmt (ret : Ty) : (in_loop : Bool) → Scope → StmtTree → TypedStmtTree → Type 0 where
    skips : (l : Bool) (s : Scope) (p : Place) → IsStmt ret l s (skip p) (t.skip p)
    -- a local is new in its block, and no array without elements; from its name on it is visible
    declares : (l : Bool) (s : Scope) (p : Place) (ty : Ty) (x : Ident) → is_in_block s x ≡ false → 0 < words_of_ty ty →
        IsStmt ret l s (declare p ty x nothing) (t.skip p)
    declares_value : (l : Bool) (s : Scope) (p : Place) (ty : Ty) (x : Ident) (a : ExprTree) (r : TypedStmtTree) →
        is_in_block s x ≡ false →
        Assigns (declaring s ty x) p (to_name x) None a r → IsStmt ret l s (declare p ty x (value a)) r
    declares_result : (l : Bool) (s : Scope) (p : Place) (ty : Ty) (x f : Ident) (args : List ExprTree)
        (r : TypedStmtTree) →
        is_in_block s x ≡ false → Calls (declaring s ty x) p (Some x) f args r →
        IsStmt ret l s (declare p ty x (called f args)) r
    assignment : (l : Bool) (s : Scope) (p : Place) (target : TargetTree) (op : Option BinaryOperator) (a : ExprTree)
        (r : TypedStmtTree) →
        Assigns s p target op a r → IsStmt ret l s (assign p target op a) r
    call_of : (l : Bool) (s : Scope) (p : Place) (result : Option Ident) (f : Ident) (args : List ExprTree)
        (r : TypedStmtTree) →
        Calls s p result f args r → IsStmt ret l s (call p result f args) r
    blocks : (l : Bool) (s : Scope) (p : Place) (bs : StmtList) (rs : TypedStmtList) → AreStmts ret l (inside s) bs rs →
        IsStmt ret l s (block p bs) (t.block p rs)
    ifs : (l : Bool) (s : Scope) (p : Place) (c : ExprTree) (a : StmtTree) (o : StmtOption) (c' : TypedExprTree)
        (a' : TypedStmtTree)
        (o' : TypedStmtOption) → Tests s c c' → IsStmt ret l s a a' → IsPart ret l (past s a) o o' →
        IsStmt ret l s (if_ p c a o) (t.if_ p c' a' o')
    whiles : (l : Bool) (s : Scope) (p : Place) (c : ExprTree) (a : StmtTree) (c' : TypedExprTree)
        (a' : TypedStmtTree) → Tests s c c' →
        IsStmt ret true s a a' → IsStmt ret l s (while_ p c a) (t.while_ p c' a')
    dos : (l : Bool) (s : Scope) (p : Place) (a : StmtTree) (c : ExprTree) (a' : TypedStmtTree) (c' : TypedExprTree) →
        IsStmt ret true s a a' → Tests s c c' → IsStmt ret l s (do_ p a c) (t.do_ p a' c')
    -- the local of its first part is of the loop
    fors : (l : Bool) (s : Scope) (p : Place) (i : StmtOption) (c : Option ExprTree) (u : StmtOption) (a : StmtTree)
        (i' : TypedStmtOption)
        (c' : Option TypedExprTree) (u' : TypedStmtOption) (a' : TypedStmtTree) → IsPart ret l (inside s) i i' →
        TestsOptional (after_option (inside s) i) c c' → IsPart ret l (after_option (inside s) i) u u' →
        IsStmt ret true (past_option (after_option (inside s) i) u) a a' →
        IsStmt ret l s (for_ p i c u a) (t.for_ p i' c' u' a')
    breaks : (s : Scope) (p : Place) → IsStmt ret true s (break_ p) (t.break_ p)
    continues : (s : Scope) (p : Place) → IsStmt ret true s (continue_ p) (t.continue_ p)
    -- without a value a function returns 0, null or nothing
    returns : (l : Bool) (s : Scope) (p : Place) → IsStmt ret l s (return_ p None) (t.return_ p (no_value ret))
    returns_value : (l : Bool) (s : Scope) (p : Place) (a : ExprTree) (e : TypedExprTree) → Gives s a ret e →
        IsStmt ret l s (return_ p (Some a)) (t.return_ p (Some e))
    locks : (l : Bool) (s : Scope) (p : Place) (x : Ident) (g : ℕ) → meaning s x ≡ item g Lock →
        IsStmt ret l s (lock p x) (t.lock p g)
    unlocks : (l : Bool) (s : Scope) (p : Place) (x : Ident) (g : ℕ) → meaning s x ≡ item g Lock →
        IsStmt ret l s (unlock p x) (t.unlock p g)
    prints : (l : Bool) (s : Scope) (p : Place) (a : ExprTree) (e : TypedExprTree) → Gives s a (Int I32) e →
        IsStmt ret l s (print p a) (t.print p e)

  -- a statement that may be missing
  pub data IsPart (ret : Ty) : (in_loop : Bool) → Scope → StmtOption → TypedStmtOption → Type 0 where
    no_part : (l : Bool) (s : Scope) → IsPart ret l s absent t.absent
    a_part : (l : Bool) (s : Scope) (a : StmtTree) (a' : TypedStmtTree) → IsStmt ret l s a a' →
        IsPart ret l s (present a) (t.present a')

  -- the statements of a block
  pub data AreStmts (ret : Ty) : (in_loop : Bool) → Scope → StmtList → TypedStmtList → Type 0 where
    no_stmt : (l : Bool) (s : Scope) → AreStmts ret l s no_more t.no_more
    a_stmt : (l : Bool) (s : Scope) (a : StmtTree) (bs : StmtList) (a' : TypedStmtTree) (rs : TypedStmtList) →
        IsStmt ret l s a a' →
        AreStmts ret l (after s a) bs rs → AreStmts ret l s (one_more a bs) (t.one_more a' rs)
