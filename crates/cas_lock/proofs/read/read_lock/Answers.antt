use Rattle.std.proofs.Common.{◌≡◌, ◌⊎◌, inl, inr, ℕ, List, [], ◌∷◌, Option, Some, None, sym, ap, ◌∙◌, rules}
use Rattle.cas_pieces.specs.Lines.{lines}
use Rattle.cas_lock.specs.declared.body.Label.{Label}
use Rattle.cas_lock.specs.declared.step.Step.{Step}
use Rattle.cas_lock.specs.declared.fault.LockFault.{LockFault}
use Rattle.cas_lock.specs.declared.fault.LockFault.TheVariants.{Memory}
use Rattle.cas_lock.specs.Bodies.{first_difference}
use Rattle.cas_lock.specs.Read.{fault_from, body_fault, lock_fault}
use Rattle.cas_lock.proofs.read.read_lock.Goals as goal

-- the fault of a text is that of its last line, after what is read before it
at_last : (bytes text : List ℕ) (labels : List Label) (steps : List Step) (n : ℕ) → lines text ≡ text ∷ [] →
    fault_from (lines text) labels steps n ≡ fault_from (lines bytes) [] [] 1 →
    lock_fault bytes ≡ fault_from (text ∷ []) labels steps n
at_last bytes text labels steps n one inv = sym inv ∙ ap (λ (ls : List (List ℕ)). fault_from ls labels steps n) one

refused : (whole last : Option LockFault) (fault : LockFault) → whole ≡ last → (fault ≡ Memory) ⊎ (last ≡ Some fault) →
    (fault ≡ Memory) ⊎ (whole ≡ Some fault)
refused whole last fault e (inl m) = inl m
refused whole last fault e (inr f) = inr (e ∙ f)

pub returns-in-Err : goal.returns-in-Err
returns-in-Err c =
    let one : lines c.loop-front.text.now ≡ c.loop-front.text.now ∷ [] = search rules in
    refused _ _ _ (at_last c.args.bytes.now c.loop-front.text.now _ _ _ one c.loop-front.invariant.fault)
    (c.in-Err.ensures.read [])

pub returns-in-None : goal.returns-in-None
returns-in-None c =
    let one : lines c.loop-front.text.now ≡ c.loop-front.text.now ∷ [] = search rules in
    let none = rw (c.deref.ensures.value, c.deref-2.ensures.value) at c.in-None.ensures in
    at_last c.args.bytes.now c.loop-front.text.now _ _ _ one c.loop-front.invariant.fault
    ∙ (c.in_default-take.ensures.read [] ∙ ap body_fault (sym none))

pub returns : goal.returns
returns c =
    let one : lines c.loop-front.text.now ≡ c.loop-front.text.now ∷ [] = search rules in
    let some = rw (c.deref.ensures.value, c.deref-2.ensures.value) at c.in-Some-first_difference.ensures in
    inr (at_last c.args.bytes.now c.loop-front.text.now _ _ _ one c.loop-front.invariant.fault
    ∙ (c.in_default-take.ensures.read [] ∙ ap body_fault (sym some)))
