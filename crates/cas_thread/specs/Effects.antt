-- The effects of the code, with the continuations after them.
use Rattle.std.specs.Prelude.{◌≡◌, ⊤, ℕ, Bool, true, false, List, ◌∷◌, Option, Some, None, Result, Ok, Err}
use Rattle.std.specs.Option.{option_map}
use Rattle.cas_step.specs.Continuation as items
use Rattle.cas_step.specs.Continuation.{ContItem, begin, begun, loop, next, continues, stores, writes, returns, locks, unlocks, prints}
use Rattle.cas_step.specs.Step.{Object}
use Rattle.cas_memory.specs.Values.{object_of, value_of}
use Rattle.cas_eval.specs.declared.values.NoResult.{NoResult}
use Rattle.cas_typed.specs.Resolved.{TypedStmtTree, call, break_, continue_, lock, print, present}
use Rattle.cas_thread.specs.declared.effect.Effect.{Effect}
use Rattle.cas_thread.specs.declared.effect.Effect.TheVariants.{Continues, Stores, Writes, Returns, Locks, Unlocks, Prints}
use Rattle.cas_thread.specs.declared.effect.First.{First}
use Rattle.cas_thread.specs.declared.effect.First.TheVariants.{Call, Jump, Does}

-- the effect with this continuation after it, by the value of the condition
abbrev pub effect_with : (left : Bool → List ContItem) → Effect → items.Effect Object
effect_with left (Continues is) = continues (left is)
effect_with left (Stores o i v) = stores (object_of o) i (value_of v) (left true)
effect_with left (Writes g i n) = writes g i n (left true)
effect_with left (Returns v) = returns (option_map value_of v)
effect_with left (Locks g) = locks g (left true)
effect_with left (Unlocks g) = unlocks g (left true)
effect_with left (Prints n) = prints n (left true)

-- a call, and a jump
abbrev pub IsCall : TypedStmtTree → Type 0
IsCall (call p kept g at args) = ⊤
IsCall _ = ⊥

abbrev pub IsJump : TypedStmtTree → Type 0
IsJump (break_ p) = ⊤
IsJump (continue_ p) = ⊤
IsJump _ = ⊥

-- this holds of the first item's statement, if it has one
abbrev pub FirstStatementIs : (TypedStmtTree → Type 0) → List ContItem → Type 0
FirstStatementIs P (begin a ∷ cont) = P a
FirstStatementIs P (next p (present a) ∷ cont) = P a
FirstStatementIs P _ = ⊥

-- the first item: a call or a jump, or the effect that its evaluation answers, with the continuation after it
abbrev pub IsFirst : Result (items.Effect Object) NoResult → (left : Bool → List ContItem) → (calls jumps : Type 0) →
    Result First NoResult → Type 0
IsFirst answer left calls jumps (Ok Call) = calls
IsFirst answer left calls jumps (Ok Jump) = jumps
IsFirst answer left calls jumps (Ok (Does d)) = answer ≡ Ok (effect_with left d)
IsFirst answer left calls jumps (Err e) = answer ≡ Err e

-- the item of the lock that a statement takes, and that the first item's statement takes, if any
abbrev pub lock_in : TypedStmtTree → Option ℕ
lock_in (lock p g) = Some g
lock_in _ = None

abbrev pub first_lock : List ContItem → Option ℕ
first_lock (begin a ∷ cont) = lock_in a
first_lock (next p (present a) ∷ cont) = lock_in a
first_lock _ = None

-- whether a statement outputs a word unless it is Bad, and whether the first item's statement does
abbrev pub is_print : TypedStmtTree → Bool
is_print (print p a) = true
is_print _ = false

abbrev pub prints_first : List ContItem → Bool
prints_first (begin a ∷ cont) = is_print a
prints_first (next p (present a) ∷ cont) = is_print a
prints_first _ = false
