-- What the check of a function rests on.
use Rattle.std.proofs.Common.{arith, ◌<◌, ◌≤◌, ℕ, List, length, map, subst}
use Rattle.std.specs.Coded.{×_prop, Π_prop, Unit-prop, le_prop}
use Rattle.std.specs.List.{All}
use Rattle.std.proofs.Math.Logic.{∥∥₁_elim}
use Rattle.std.proofs.lemmas.Option.{slice_get_within}
use Rattle.cas_base.specs.declared.decl.Decl.{Decl}
use Rattle.cas_base.specs.declared.place.Place.{Place}
use Rattle.cas_own.specs.Checked.{held_set}
use Rattle.cas_check.specs.Fits.{FunctionFits, HaltWithin}
use Rattle.cas_own.specs.Flow.{Flow, body_flow}
use Rattle.cas_own.specs.Locks.{holds_of}
use Rattle.cas_check.specs.View.{Halts, IsTable}
use Rattle.cas_check.specs.declared.flow.Halt.{Halt}
use Rattle.cas_check.specs.declared.flow.Halt.TheVariants as h
use Rattle.cas_check.proofs.Parts_within.{rows_are_table, bodies_have_rows}
use Rattle.cas_check.proofs.Within.{FlowWithin, body_within, holds_within, set_within}
use Rattle.cas_typed.specs.Modules.{return_type}
use Rattle.cas_typed.specs.Numbered.{IsFunctionOf}
use Rattle.cas_typed.specs.Resolved.{TypedFunTree}
use Rattle.cas_typed.specs.Sorts.{IsSortedFunction}
use Rattle.cas_typed.specs.declared.rows.StmtRow.{StmtRow}
use Rattle.cas_typed.specs.declared.rows.TypedFun.{TypedFun}

all_prop : {X : Type 0} (P : X → Type 0) → ((x : X) → IsProp (P x)) → (xs : List X) → IsProp (All P xs)
all_prop P p xs = Π_prop (λ k. Π_prop (λ d. Π_prop (λ less. p _)))

table_prop : (rows : List StmtRow) → IsProp (IsTable rows)
table_prop rows =
    Π_prop (λ n. Π_prop
    (λ r. Π_prop (λ is. all_prop (λ i. (n < i) × (i < length rows)) (λ i. ×_prop le_prop le_prop) _)))

pub fits_table : (ds : List Decl) (f : TypedFun) → FunctionFits ds f → IsTable f.rows
fits_table ds f fits = ∥∥₁_elim fits (table_prop f.rows)
    (λ (w : (r : TypedFunTree) × IsFunctionOf r f × IsSortedFunction ds r). rows_are_table w.0 f w.1)

pub fits_body : (ds : List Decl) (f : TypedFun) → FunctionFits ds f → All (λ i. (0 ≤ i) × (i < length f.rows)) f.body
fits_body ds f fits =
    ∥∥₁_elim fits (all_prop (λ i. (0 ≤ i) × (i < length f.rows)) (λ i. ×_prop le_prop le_prop) f.body)
    (λ (w : (r : TypedFunTree) × IsFunctionOf r f × IsSortedFunction ds r). bodies_have_rows w.0 f w.1)

-- the lock of the fault of a function's body is an item
sorted_within : (ds : List Decl) (closing : Place) (r : TypedFunTree) → IsSortedFunction ds r →
    FlowWithin (length ds) (body_flow ds (held_set ds r.item) closing r.body)
sorted_within ds closing r is =
    let some : 0 < length ds = let less = slice_get_within ds r.item is.0 is.1 in omega (arith, less) in
    body_within ds (held_set ds r.item) some (set_within (length ds) (holds_of ds r.item) (holds_within ds r.item))
    (map (λ v. v.ty) r.locals) (return_type is.0.form) closing r.body is.2

halt_prop : (end : ℕ) (halt : Halt) → IsProp (HaltWithin end halt)
halt_prop end h.Memory = Unit-prop
halt_prop end (h.Fault code p l) = le_prop

halt_within : (end : ℕ) (halt : Halt) (flow : Flow) → Halts halt flow → FlowWithin end flow → HaltWithin end halt
halt_within end h.Memory flow is within = tt
halt_within end (h.Fault code p l) flow is within = subst (FlowWithin end) is within

pub fits_halt : (ds : List Decl) (closing : Place) (f : TypedFun) (halt : Halt) → FunctionFits ds f
    → ((r : TypedFunTree) → IsFunctionOf r f → Halts halt (body_flow ds (held_set ds r.item) closing r.body)) →
    HaltWithin (length ds) halt
fits_halt ds closing f halt fits halts =
    ∥∥₁_elim fits (halt_prop (length ds) halt) (λ (w : (r : TypedFunTree) × IsFunctionOf r f × IsSortedFunction ds r).
    halt_within (length ds) halt (body_flow ds (held_set ds w.0.item) closing w.0.body) (halts w.0 w.1)
    (sorted_within ds closing w.0 w.2))
