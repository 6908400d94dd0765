-- Continuations, and the effect of one step: the table of the language's steps, with one clause for each form of
-- statement. The continuation of an activation is the list of items that it has still to do, the first one first.
-- (Clight's continuations.)
use Rattle.std.specs.Prelude.{ℕ, List, [], ◌∷◌, Option, Some, None}
use Rattle.cas_base.specs.declared.kind.Ty.{Ty}
use Rattle.cas_base.specs.declared.kind.Ty.TheVariants.{Int, Ptr}
use Rattle.cas_base.specs.declared.place.Place.{Place}
use Rattle.cas_typed.specs.declared.tree.Destination.{Destination}
use Rattle.cas_typed.specs.Resolved.{TypedExprTree, TypedStmtTree, skip, assign, call, block, if_, while_, do_, for_, break_, continue_, return_, lock, unlock, print, TypedStmtOption, absent, present, TypedStmtList, no_more, one_more}
use Rattle.cas_step.specs.Asks.{Value, word, null, Asks, gives, stuck, and_then, word_in}
use Rattle.cas_step.specs.Evaluate.{EvalContext, Cell, of_object, of_global, either, value_of, values_of, test_of, target_of}

-- an item of a continuation: a statement to begin; a `while` or `do` that has begun, at its place; a `for` after its
-- first part; and the last part of a `for` after a turn of its body
pub data ContItem : Type 0 where
  begin : TypedStmtTree → ContItem
  begun : Place → TypedExprTree → TypedStmtTree → ContItem
  loop : Place → Option TypedExprTree → (after : TypedStmtOption) → TypedStmtTree → ContItem
  next : Place → (after : TypedStmtOption) → ContItem

-- the effect of a step, after its expressions are evaluated, with the continuation that follows: none; a store to a
-- cell of an object or to a word of a global; a call with its arguments and the local that keeps its result; a
-- return; an act on a lock; an output. In a module alone a call may leave the module, and so may a return: the
-- module's run decides that.
pub data Effect (O : Type 0) : Type 0 where
  continues : (cont : List ContItem) → Effect O
  stores : (object : O) → (place : ℕ) → Value O → (cont : List ContItem) → Effect O
  writes : (item place word : ℕ) → (cont : List ContItem) → Effect O
  calls : (item : ℕ) → (arguments : List (Value O)) → Option Destination → (cont : List ContItem) → Effect O
  returns : Option (Value O) → Effect O
  locks : (item : ℕ) → (cont : List ContItem) → Effect O
  unlocks : (item : ℕ) → (cont : List ContItem) → Effect O
  prints : (word : ℕ) → (cont : List ContItem) → Effect O

-- these statements, and then this continuation
abbrev pub begin_all : TypedStmtList → List ContItem → List ContItem
begin_all no_more cont = cont
begin_all (one_more a bs) cont = begin a ∷ begin_all bs cont

abbrev pub begin_part : TypedStmtOption → List ContItem → List ContItem
begin_part absent cont = cont
begin_part (present a) cont = begin a ∷ cont

-- the continuation after the innermost loop, if there is one
abbrev pub after_break : List ContItem → Option (List ContItem)
after_break [] = None
after_break (begin a ∷ cont) = after_break cont
after_break (begun p c a ∷ cont) = Some cont
after_break (loop p c u a ∷ cont) = Some cont
after_break (next p u ∷ cont) = after_break cont

-- the continuation from the end of the innermost loop's turn on, if there is a loop
abbrev pub after_continue : List ContItem → Option (List ContItem)
after_continue [] = None
after_continue (begin a ∷ cont) = after_continue cont
after_continue (begun p c a ∷ cont) = Some (begun p c a ∷ cont)
after_continue (loop p c u a ∷ cont) = after_continue cont
after_continue (next p u ∷ cont) = Some (next p u ∷ cont)

-- what a function of this type returns if it reaches its closing brace
abbrev pub fallen : {O : Type 0} → (ret : Ty) → Option (Value O)
fallen (Int k) = Some (word 0)
fallen (Ptr k) = Some null
fallen _ = None

module _ {O : Type 0} where
  -- the effect that stores a value into a cell
  abbrev pub into : Cell O → Value O → List ContItem → Asks O (Effect O)
  into (of_object o p) v cont = gives (stores o p v cont)
  into (of_global g i) v cont = and_then (word_in v) (λ n. gives (writes g i n cont))

  -- a jump to this continuation; outside of loops it is stuck
  abbrev pub jumps : Option (List ContItem) → Asks O (Effect O)
  jumps None = stuck
  jumps (Some cont) = gives (continues cont)

  -- one continuation or the other, by a condition; a missing condition is true
  abbrev pub chooses : EvalContext O → Option TypedExprTree → (where_true where_false : List ContItem) →
      Asks O (Effect O)
  chooses s None some others = gives (continues some)
  chooses s (Some c) some others = and_then (test_of s c) (λ is. gives (continues (either some others is)))

  -- a return, with the value of an expression if there is one
  abbrev pub returned : EvalContext O → Option TypedExprTree → Asks O (Effect O)
  returned s None = gives (returns None)
  returned s (Some a) = and_then (value_of s a) (λ v. gives (returns (Some v)))

  -- the effect of a statement, with the continuation after it
  abbrev pub statement_effect : EvalContext O → TypedStmtTree → List ContItem → Asks O (Effect O)
  statement_effect s (skip p) cont = gives (continues cont)
  statement_effect s (assign p target a) cont =
      and_then (target_of s target) (λ c. and_then (value_of s a) (λ v. into c v cont))
  statement_effect s (block p bs) cont = gives (continues (begin_all bs cont))
  statement_effect s (if_ p c a otherwise) cont = chooses s (Some c) (begin a ∷ cont) (begin_part otherwise cont)
  statement_effect s (while_ p c a) cont = chooses s (Some c) (begin a ∷ begun p c a ∷ cont) cont
  statement_effect s (do_ p a c) cont = gives (continues (begin a ∷ begun p c a ∷ cont))
  statement_effect s (for_ p first c after a) cont = gives (continues (begin_part first (loop p c after a ∷ cont)))
  statement_effect s (break_ p) cont = jumps (after_break cont)
  statement_effect s (continue_ p) cont = jumps (after_continue cont)
  statement_effect s (call p kept g at args) cont = and_then (values_of s args) (λ vs. gives (calls g vs kept cont))
  statement_effect s (return_ p a) cont = returned s a
  statement_effect s (lock p g) cont = gives (locks g cont)
  statement_effect s (unlock p g) cont = gives (unlocks g cont)
  statement_effect s (print p a) cont = and_then (value_of s a) (λ v. and_then (word_in v) (λ n. gives (prints n cont)))

  -- the effect of a continuation's first item; the end of the continuation is the end of the function
  abbrev pub effect_of : EvalContext O → (ret : Ty) → List ContItem → Asks O (Effect O)
  effect_of s ret [] = gives (returns (fallen ret))
  effect_of s ret (begin a ∷ cont) = statement_effect s a cont
  effect_of s ret (begun p c a ∷ cont) = chooses s (Some c) (begin a ∷ begun p c a ∷ cont) cont
  effect_of s ret (loop p c after a ∷ cont) = chooses s c (begin a ∷ next p after ∷ loop p c after a ∷ cont) cont
  effect_of s ret (next p absent ∷ cont) = gives (continues cont)
  effect_of s ret (next p (present a) ∷ cont) = statement_effect s a cont

-- the place of a statement
abbrev pub statement_place : TypedStmtTree → Place
statement_place (skip p) = p
statement_place (assign p target a) = p
statement_place (call p kept g at args) = p
statement_place (block p bs) = p
statement_place (if_ p c a otherwise) = p
statement_place (while_ p c a) = p
statement_place (do_ p a c) = p
statement_place (for_ p first c after a) = p
statement_place (break_ p) = p
statement_place (continue_ p) = p
statement_place (return_ p a) = p
statement_place (lock p g) = p
statement_place (unlock p g) = p
statement_place (print p a) = p

-- the place of the first item's step, or of the closing brace
abbrev pub place_of : (closing : Place) → List ContItem → Place
place_of closing [] = closing
place_of closing (begin a ∷ cont) = statement_place a
place_of closing (begun p c a ∷ cont) = p
place_of closing (loop p c after a ∷ cont) = p
place_of closing (next p absent ∷ cont) = p
place_of closing (next p (present a) ∷ cont) = statement_place a
