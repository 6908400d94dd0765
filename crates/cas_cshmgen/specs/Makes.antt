-- What Cshmgen makes of each form of Clight. All locals stay blocks of memory; temporaries are the parameters, as they
-- come, and one more for results.
use Rattle.std.specs.Prelude.{ℕ, Bool, true, false, zero, suc, ◌+◌, List, [], ◌∷◌, length, map, Option, Some, None, slice_get}
use Rattle.cas_base.specs.Ty.{words_of_ty}
use Rattle.cas_base.specs.declared.decl.Decl.{Decl}
use Rattle.cas_base.specs.declared.kind.Ty.{Ty}
use Rattle.cas_base.specs.declared.kind.Ty.TheVariants.{Int, Ptr}
use Rattle.cas_syntax.specs.declared.tree.BinaryOperator.TheVariants as op
use Rattle.cas_typed.specs.declared.tree.Destination.{Destination}
use Rattle.cas_typed.specs.Resolved as t
use Rattle.cas_typed.specs.Resolved.{TypedExprTree, TypedTargetTree, to_local, to_global as at_global, to_element as at_element, to_behind, TypedStmtTree, TypedStmtOption, TypedStmtList}
use Rattle.cas_runs.specs.Label.{NameBytes}
use Rattle.cas_mid.specs.declared.tree.Unop.TheVariants.{OnWord, Narrow}
use Rattle.cas_mid.specs.declared.tree.Binop.TheVariants.{OnWords, PointerPlus, PlusPointer, PointerMinus, PointerDifference, Compare}
use Rattle.cas_mid.specs.Operators.{either}
use Rattle.cas_mid.specs.Trees.{Expression, word, temporary, own, global, element, load, unop, binop, if_, Target, to_global, to_element, to_pointer, Statement, skip, store, call, seq, if_else, loop, block, exit, return_, lock, unlock, print, Statements, no_more, one_more, Routine}
use Rattle.cas_clight.specs.Clight.{ClightFun, parameters_of, result_of}

-- the name of an item, or `_`, which no typed module needs
abbrev pub name_of : Option Decl → NameBytes
name_of None = 95 ∷ []
name_of (Some d) = d.name

abbrev pub name_at : List Decl → (item : ℕ) → NameBytes
name_at ds g = name_of (slice_get ds g)

-- an expression as a condition: whether a pointer differs from null is whether it is true
abbrev pub is_null : Expression → Bool
is_null (word zero) = true
is_null _ = false

abbrev pub condition_of : Expression → Expression
condition_of (binop (Compare op.Ne) p q) = either p (binop (Compare op.Ne) p q) (is_null q)
condition_of a = a

-- an expression
abbrev pub made_expr : List Decl → TypedExprTree → Expression
made_expr ds (t.literal n) = word n
made_expr ds t.null = word 0
made_expr ds (t.local n) = load (own n)
made_expr ds (t.global g at) = global (name_at ds g)
made_expr ds (t.element g at s a) = element (name_at ds g) s (made_expr ds a)
made_expr ds (t.place_of n) = own n
made_expr ds (t.behind k p) = load (made_expr ds p)
made_expr ds (t.pointer_plus s p a) = binop (PointerPlus s) (made_expr ds p) (made_expr ds a)
made_expr ds (t.plus_pointer s a p) = binop (PlusPointer s) (made_expr ds a) (made_expr ds p)
made_expr ds (t.pointer_minus s p a) = binop (PointerMinus s) (made_expr ds p) (made_expr ds a)
made_expr ds (t.pointer_difference p q) = binop PointerDifference (made_expr ds p) (made_expr ds q)
made_expr ds (t.compare o p q) = binop (Compare o) (made_expr ds p) (made_expr ds q)
made_expr ds (t.unary o a) = unop (OnWord o) (made_expr ds a)
made_expr ds (t.binary o s a b) = binop (OnWords o s) (made_expr ds a) (made_expr ds b)
made_expr ds (t.narrow k a) = unop (Narrow k) (made_expr ds a)
made_expr ds (t.and_also a b) =
    if_ (condition_of (made_expr ds a)) (if_ (condition_of (made_expr ds b)) (word 1) (word 0)) (word 0)
made_expr ds (t.or_else a b) =
    if_ (condition_of (made_expr ds a)) (word 1) (if_ (condition_of (made_expr ds b)) (word 1) (word 0))
made_expr ds (t.choose c a b) = if_ (condition_of (made_expr ds c)) (made_expr ds a) (made_expr ds b)

-- a condition
abbrev pub made_condition : List Decl → TypedExprTree → Expression
made_condition ds c = condition_of (made_expr ds c)

abbrev pub made_exprs : List Decl → List TypedExprTree → List Expression
made_exprs ds args = map (made_expr ds) args

-- the target of an assignment
abbrev pub made_target : List Decl → TypedTargetTree → Target
made_target ds (to_local n) = to_pointer (own n)
made_target ds (at_global g at) = to_global (name_at ds g)
made_target ds (at_element g at s a) = to_element (name_at ds g) s (made_expr ds a)
made_target ds (to_behind k p) = to_pointer (made_expr ds p)

-- a statement of Csharpminor, and several
abbrev pub Csharp : Type 0
Csharp = Statement Expression Target Expression

abbrev pub Csharps : Type 0
Csharps = Statements Expression Target Expression

-- a result in this temporary, converted to the type of the local that keeps it
abbrev pub converted : Ty → (from : ℕ) → Expression
converted (Int k) from = unop (Narrow k) (temporary from)
converted _ from = temporary from

-- the local gets it
abbrev pub keeps : Destination → (from : ℕ) → Csharp
keeps d from = store (to_pointer (own d.local)) (converted d.ty from)

-- a condition that leaves the loop where it is false; a missing one is true
abbrev pub tests : List Decl → Option TypedExprTree → Csharp
tests ds None = skip
tests ds (Some c) = if_else (made_condition ds c) skip (exit 0)

abbrev pub one : Csharp → Csharps
one a = one_more a no_more

abbrev pub while_loop : List Decl → TypedExprTree → Csharp → Csharp
while_loop ds c a = loop (seq (one_more (tests ds (Some c)) (one (block a))))

abbrev pub do_loop : List Decl → TypedExprTree → Csharp → Csharp
do_loop ds c a = loop (seq (one_more (block a) (one (tests ds (Some c)))))

abbrev pub for_loop : List Decl → Option TypedExprTree → (after : Csharp) → Csharp → Csharp
for_loop ds c u a = loop (seq (one_more (tests ds c) (one_more (block a) (one u))))

abbrev pub made_call : List Decl → (result : ℕ) → Option Destination → (item : ℕ) → List TypedExprTree → Csharp
made_call ds r None g args = call None (name_at ds g) (made_exprs ds args)
made_call ds r (Some d) g args = seq (one_more (call (Some r) (name_at ds g) (made_exprs ds args)) (one (keeps d r)))

abbrev pub made_return : List Decl → Option TypedExprTree → Csharp
made_return ds None = return_ None
made_return ds (Some a) = return_ (Some (made_expr ds a))

abbrev mutual
  -- a statement, where results come in this temporary
  pub made_stmt : List Decl → (result : ℕ) → TypedStmtTree → Csharp
  made_stmt ds r (t.skip p) = skip
  made_stmt ds r (t.assign p target a) = store (made_target ds target) (made_expr ds a)
  made_stmt ds r (t.call p kept g at args) = made_call ds r kept g args
  made_stmt ds r (t.block p bs) = seq (made_stmts ds r bs no_more)
  made_stmt ds r (t.if_ p c a b) = if_else (made_condition ds c) (made_stmt ds r a) (made_part ds r b)
  made_stmt ds r (t.while_ p c a) = block (while_loop ds c (made_stmt ds r a))
  made_stmt ds r (t.do_ p a c) = block (do_loop ds c (made_stmt ds r a))
  made_stmt ds r (t.for_ p i c u a) =
      seq (one_more (made_part ds r i) (one (block (for_loop ds c (made_part ds r u) (made_stmt ds r a)))))
  made_stmt ds r (t.break_ p) = exit 1
  made_stmt ds r (t.continue_ p) = exit 0
  made_stmt ds r (t.return_ p a) = made_return ds a
  made_stmt ds r (t.lock p g) = lock (name_at ds g)
  made_stmt ds r (t.unlock p g) = unlock (name_at ds g)
  made_stmt ds r (t.print p a) = print (made_expr ds a)

  pub made_part : List Decl → (result : ℕ) → TypedStmtOption → Csharp
  made_part ds r t.absent = skip
  made_part ds r (t.present a) = made_stmt ds r a

  -- statements, and then the rest
  pub made_stmts : List Decl → (result : ℕ) → TypedStmtList → Csharps → Csharps
  made_stmts ds r t.no_more rest = rest
  made_stmts ds r (t.one_more a bs) rest = one_more (made_stmt ds r a) (made_stmts ds r bs rest)

-- what a function returns where it falls off its end
abbrev pub closing : Ty → Csharps
closing (Int k) = one (return_ (Some (word 0)))
closing (Ptr k) = one (return_ (Some (word 0)))
closing _ = no_more

-- the local with this number gets the argument that came in the temporary with its number, and so do the next ones
abbrev pub stored_arguments : (local count : ℕ) → Csharps → Csharps
stored_arguments k zero rest = rest
stored_arguments k (suc count) rest =
    one_more (store (to_pointer (own k)) (temporary k)) (stored_arguments (k + 1) count rest)

-- a function's body, by its parts
abbrev pub made_body : ClightFun → Csharp
made_body f =
    seq (stored_arguments 0 (parameters_of f) (made_stmts f.decls (parameters_of f) f.body (closing (result_of f))))

-- a function
abbrev pub made_routine : ClightFun → Routine Expression Target Expression
made_routine f = record {
  name = f.decl.name;
  parameters = parameters_of f;
  blocks = map words_of_ty f.locals;
  temporaries = suc (parameters_of f);
  names = suc (parameters_of f) + length (map words_of_ty f.locals);
  body = made_body f;
}
