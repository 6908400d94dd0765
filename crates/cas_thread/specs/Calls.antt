-- The parts of a call in the code.
use Rattle.std.specs.Prelude.{◌≡◌, ⊤, ℕ, List, map, Option, Some, None, Result, Ok, Err}
use Rattle.cas_step.specs.Asks.{Value}
use Rattle.cas_step.specs.Env as env
use Rattle.cas_step.specs.Env.{FunctionAt, function}
use Rattle.cas_step.specs.Continuation as items
use Rattle.cas_step.specs.Continuation.{calls}
use Rattle.cas_step.specs.Step.{Object}
use Rattle.cas_memory.specs.Values.{value_of}
use Rattle.cas_eval.specs.declared.args.NoArguments.{NoArguments}
use Rattle.cas_eval.specs.declared.args.NoArguments.TheVariants.{Memory, OfValue}
use Rattle.cas_eval.specs.declared.values.NoResult.{NoResult}
use Rattle.cas_typed.specs.declared.tree.Destination.{Destination}
use Rattle.cas_typed.specs.Resolved.{TypedStmtTree, call, typed_expr_tree}
use Rattle.cas_thread.specs.declared.call.Called.{Called}
use Rattle.cas_thread.specs.declared.call.Ready.{Ready}

-- the statement is this call
abbrev pub IsCallOf : Called → TypedStmtTree → Type 0
IsCallOf c (call p kept g at args) = (c.kept ≡ kept) × (c.item ≡ g) × (map typed_expr_tree c.args.now ≡ args)
IsCallOf c _ = ⊥

-- a call whose arguments are evaluated, or why they aren't, as the evaluation answers; running out of memory says
-- nothing
abbrev pub IsReady : Result (items.Effect Object) NoResult → (left : List items.ContItem) → Result Ready NoArguments →
    Type 0
IsReady answer left (Ok r) = answer ≡ Ok (calls r.item (map value_of r.values.items) r.kept left)
IsReady answer left (Err (OfValue e)) = answer ≡ Err e
IsReady answer left (Err Memory) = ⊤

-- the place of the function that an item stands for
abbrev pub function_place : Option env.Entity → Option (ℕ × ℕ)
function_place (Some (function f)) = Some (f.unit, f.place)
function_place _ = None

-- whether the arguments of a call have values, as the evaluation answers
abbrev pub IsReadied : Result (items.Effect Object) NoResult → Result (Unit {0}) NoResult → Type 0
IsReadied answer (Ok u) = (g : ℕ) × (vs : List (Value Object)) × (kept : Option Destination) ×
    (left : List items.ContItem) × (answer ≡ Ok (calls g vs kept left))
IsReadied answer (Err e) = answer ≡ Err e
