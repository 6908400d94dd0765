-- What Cminorgen makes of each form of Csharpminor. The variables whose address is asked for, and all arrays, are
-- stretches of one block, one word a cell, in order of declaration. Each other variable is a temporary, after the
-- function's own.
use Rattle.std.specs.Prelude.{ℕ, ◌+◌, nat_eq, not, ◌||◌, Bool, false, List, [], ◌∷◌, map, Option, Some, None, slice_get, if◌then◌else◌}
use Rattle.cas_runs.specs.Calls.{one_block}
use Rattle.cas_mid.specs.Trees.{Expression, word, temporary, own, global, element, load, unop, binop, if_, Target, to_global, to_element, to_pointer, Statement, skip, set, store, call, seq, if_else, loop, block, exit, return_, lock, unlock, print, Statements, no_more, one_more, Routine}

abbrev pub Code : Type 0
Code = Statement Expression Target Expression

abbrev pub Codes : Type 0
Codes = Statements Expression Target Expression

-- Whether the address of a variable is asked for: it stands elsewhere than at once in a load or a store.

-- an own address that is loaded or stored at doesn't count
abbrev pub unless_own : Expression → Bool → Bool
unless_own (own n) taken = false
unless_own _ taken = taken

abbrev pub takes : (variable : ℕ) → Expression → Bool
takes v (word n) = false
takes v (temporary t) = false
takes v (own n) = nat_eq n v
takes v (global g) = false
takes v (element g s a) = takes v a
takes v (load a) = unless_own a (takes v a)
takes v (unop o a) = takes v a
takes v (binop o a b) = takes v a || takes v b
takes v (if_ c a b) = takes v c || (takes v a || takes v b)

abbrev pub target_takes : (variable : ℕ) → Target → Bool
target_takes v (to_global g) = false
target_takes v (to_element g s a) = takes v a
target_takes v (to_pointer a) = unless_own a (takes v a)

abbrev pub all_take : (variable : ℕ) → List Expression → Bool
all_take v [] = false
all_take v (a ∷ args) = takes v a || all_take v args

abbrev pub optional_takes : (variable : ℕ) → Option Expression → Bool
optional_takes v None = false
optional_takes v (Some a) = takes v a

abbrev mutual
  pub statement_takes : (variable : ℕ) → Code → Bool
  statement_takes v skip = false
  statement_takes v (set t a) = takes v a
  statement_takes v (store to a) = target_takes v to || takes v a
  statement_takes v (call t f args) = all_take v args
  statement_takes v (seq bs) = statements_take v bs
  statement_takes v (if_else c a b) = takes v c || (statement_takes v a || statement_takes v b)
  statement_takes v (loop a) = statement_takes v a
  statement_takes v (block a) = statement_takes v a
  statement_takes v (exit n) = false
  statement_takes v (return_ a) = optional_takes v a
  statement_takes v (lock l) = false
  statement_takes v (unlock l) = false
  statement_takes v (print a) = takes v a

  pub statements_take : (variable : ℕ) → Codes → Bool
  statements_take v no_more = false
  statements_take v (one_more a bs) = statement_takes v a || statements_take v bs

-- Where variables are.

-- from this word of the block on, or in a temporary
pub data Place : Type 0 where
  in_block : (offset : ℕ) → Place
  in_temporary : (temporary : ℕ) → Place

-- the places of variables, in order of declaration, with the size of the block and the number of temporaries
pub record Plan : Type 0 where
  pub places : List Place
  pub words : ℕ
  pub temporaries : ℕ

abbrev pub with_place : Place → Plan → Plan
with_place place plan = record plan { places = place ∷ plan.places }

-- the plan of variables of these sizes, from this one on, where the block has so many words and there are so many
-- temporaries before
abbrev pub plan_from : (is_taken : ℕ → Bool) → (variable words temporaries : ℕ) → List ℕ → Plan
plan_from is_taken v n t [] = record { places = []; words = n; temporaries = t }
plan_from is_taken v n t (size ∷ sizes) =
    if is_taken v || not (nat_eq size 1) then with_place (in_block n) (plan_from is_taken (v + 1) (n + size) t sizes)
    else with_place (in_temporary t) (plan_from is_taken (v + 1) n (t + 1) sizes)

abbrev pub plan_of : Routine Expression Target Expression → Plan
plan_of r = plan_from (λ v. statement_takes v r.body) 0 0 r.temporaries r.blocks

-- What is made.

abbrev pub offset_of : Option Place → ℕ
offset_of (Some (in_block offset)) = offset
offset_of _ = 0

abbrev pub temporary_of : Option Place → Option ℕ
temporary_of (Some (in_temporary t)) = Some t
temporary_of _ = None

-- the temporary that is the variable with this address
abbrev pub kept_in : List Place → Expression → Option ℕ
kept_in places (own n) = temporary_of (slice_get places n)
kept_in places _ = None

abbrev pub loaded : (kept : Option ℕ) → Expression → Expression
loaded None a = load a
loaded (Some t) a = temporary t

abbrev pub stored : (kept : Option ℕ) → Expression → Expression → Code
stored None to a = store (to_pointer to) a
stored (Some t) to a = set t a

abbrev pub made_expr : List Place → Expression → Expression
made_expr places (word n) = word n
made_expr places (temporary t) = temporary t
made_expr places (own n) = own (offset_of (slice_get places n))
made_expr places (global g) = global g
made_expr places (element g s a) = element g s (made_expr places a)
made_expr places (load a) = loaded (kept_in places a) (made_expr places a)
made_expr places (unop o a) = unop o (made_expr places a)
made_expr places (binop o a b) = binop o (made_expr places a) (made_expr places b)
made_expr places (if_ c a b) = if_ (made_expr places c) (made_expr places a) (made_expr places b)

abbrev pub made_store : List Place → Target → Expression → Code
made_store places (to_global g) a = store (to_global g) a
made_store places (to_element g s i) a = store (to_element g s (made_expr places i)) a
made_store places (to_pointer p) a = stored (kept_in places p) (made_expr places p) a

abbrev pub made_exprs : List Place → List Expression → List Expression
made_exprs places args = map (made_expr places) args

abbrev pub made_optional : List Place → Option Expression → Option Expression
made_optional places None = None
made_optional places (Some a) = Some (made_expr places a)

abbrev mutual
  pub made_stmt : List Place → Code → Code
  made_stmt places skip = skip
  made_stmt places (set t a) = set t (made_expr places a)
  made_stmt places (store to a) = made_store places to (made_expr places a)
  made_stmt places (call t f args) = call t f (made_exprs places args)
  made_stmt places (seq bs) = seq (made_stmts places bs)
  made_stmt places (if_else c a b) = if_else (made_expr places c) (made_stmt places a) (made_stmt places b)
  made_stmt places (loop a) = loop (made_stmt places a)
  made_stmt places (block a) = block (made_stmt places a)
  made_stmt places (exit n) = exit n
  made_stmt places (return_ a) = return_ (made_optional places a)
  made_stmt places (lock l) = lock l
  made_stmt places (unlock l) = unlock l
  made_stmt places (print a) = print (made_expr places a)

  pub made_stmts : List Place → Codes → Codes
  made_stmts places no_more = no_more
  made_stmts places (one_more a bs) = one_more (made_stmt places a) (made_stmts places bs)

-- a function by its plan
abbrev pub made_by : Plan → Routine Expression Target Expression → Routine Expression Target Expression
made_by plan r = record {
  name = r.name;
  parameters = r.parameters;
  blocks = one_block plan.words;
  temporaries = plan.temporaries;
  names = plan.temporaries;
  body = made_stmt plan.places r.body;
}

-- a function
abbrev pub made_routine : Routine Expression Target Expression → Routine Expression Target Expression
made_routine r = made_by (plan_of r) r
