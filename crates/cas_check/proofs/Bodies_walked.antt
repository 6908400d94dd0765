-- The walk of a function's body in the code.
use Rattle.std.proofs.Common.{◌≡◌, ℕ, List, Option, Some, None, Result, ap, sym, ◌∙◌}
use Rattle.std.specs.Prelude.{⊤, IsErrAnd}
use Rattle.cas_base.specs.declared.decl.Decl.{Decl}
use Rattle.cas_base.specs.declared.place.Place.{Place}
use Rattle.cas_check.proofs.Rows_walked.{passes_err, passes_on}
use Rattle.cas_own.specs.Checked.{held_set}
use Rattle.cas_own.specs.Flow.{Flow, on, after, same, with_set, flow_all, body_flow}
use Rattle.cas_own.specs.Locks.{Locks, holds_of, set_of}
use Rattle.cas_check.specs.View.{Halts, Passes}
use Rattle.cas_own.specs.declared.fault.OwnCode.TheVariants.{O5}
use Rattle.cas_check.specs.declared.flow.Halt.{Halt}
use Rattle.cas_check.specs.declared.flow.Halt.TheVariants as h
use Rattle.cas_typed.specs.Numbered.{AreRows, IsFunctionOf}
use Rattle.cas_typed.specs.Resolved.{TypedFunTree, TypedStmtList}
use Rattle.cas_typed.specs.declared.rows.TypedFun.{TypedFun}

-- a fault is what the whole comes to
halts_after : (e : Halt) (flow : Flow) (next : Option Locks → Flow) → Halts e flow → Halts e (after flow next)
halts_after h.Memory flow next is = tt
halts_after (h.Fault code p l) flow next is = ap (λ (g : Flow). after g next) is

own_is : (ds : List Decl) (f : TypedFun) (r : TypedFunTree) (own : Locks) → own ≡ set_of (holds_of ds f.item) →
    IsFunctionOf r f → own ≡ held_set ds r.item
own_is ds f r own is of = is ∙ ap (λ (i : ℕ). set_of (holds_of ds i)) of.item

pub body_stops : (ds : List Decl) (f : TypedFun) (r : TypedFunTree) (closing : Place) (own : Locks) (e : Halt)
    (result : Result ⊤ Halt) → IsErrAnd result (λ g. g ≡ e)
    → own ≡ set_of (holds_of ds f.item) → ((m : ℕ) (bs : TypedStmtList) → AreRows f.rows m bs f.body →
    Halts e (flow_all ds own None bs (Some own)))
    → IsFunctionOf r f → Passes result (on None) (body_flow ds (held_set ds r.item) closing r.body)
body_stops ds f r closing own e result passed is walked of =
    passes_err result (on None) e (body_flow ds (held_set ds r.item) closing r.body) (body_flow ds own closing r.body)
    passed
    (ap (λ (s : Locks). body_flow ds s closing r.body) (sym (own_is ds f r own is of)))
    (halts_after e (flow_all ds own None r.body (Some own)) (λ o. with_set o (λ s. same O5 closing own s (on None)))
    (walked 0 r.body of.rows))

pub body_ends : (ds : List Decl) (f : TypedFun) (r : TypedFunTree) (closing : Place) (own : Locks)
    (o reached : Option Locks) (result : Result ⊤ Halt)
    → own ≡ set_of (holds_of ds f.item) → ((m : ℕ) (bs : TypedStmtList) → AreRows f.rows m bs f.body →
    flow_all ds own None bs (Some own) ≡ on o)
    → reached ≡ o → Passes result (on None) (with_set reached (λ s. same O5 closing own s (on None)))
    → IsFunctionOf r f → Passes result (on None) (body_flow ds (held_set ds r.item) closing r.body)
body_ends ds f r closing own o reached result is walked same_end end of =
    passes_on result (on None) (body_flow ds (held_set ds r.item) closing r.body)
    (with_set reached (λ s. same O5 closing own s (on None)))
    (ap (λ (s : Locks). body_flow ds s closing r.body) (sym (own_is ds f r own is of))
    ∙ ap (λ (g : Flow). after g (λ o. with_set o (λ s. same O5 closing own s (on None)))) (walked 0 r.body of.rows)
    ∙ ap (λ (t : Option Locks). with_set t (λ s. same O5 closing own s (on None))) (sym same_end)) end
