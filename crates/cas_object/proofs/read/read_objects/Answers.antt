use Rattle.std.proofs.Common.{◌≡◌, ◌⊎◌, inl, inr, ◌∷◌, Result, Ok, Err, MatchResult, map, subst, ap, sym, ◌∙◌, rules, arith}
use Rattle.std.specs.Result.{IsErrAnd}
use Rattle.cas_pieces.specs.Lines.{lines}
use Rattle.cas_pieces.specs.Pieces.{pieces}
use Rattle.cas_object.specs.Texts.{going_on, next, read}
use Rattle.cas_object.specs.declared.fault.ObjectFault.{ObjectFault}
use Rattle.cas_object.specs.declared.fault.ObjectFault.TheVariants.{Memory}
use Rattle.cas_object.proofs.Steps.{read_next, read_fault}
use Rattle.cas_object.proofs.read.read_objects.Goals as goal

-- a fault that is passed on is an answer
answered : {A B : Type 0} (answer : Result A ObjectFault) (fault : ObjectFault) (is : A → Type 0)
    (whole : Result B ObjectFault) → IsErrAnd answer (λ found. found ≡ fault) →
    (fault ≡ Memory) ⊎ (whole ≡ Err fault) →
    MatchResult answer is (λ found. (found ≡ Memory) ⊎ (whole ≡ Err found))
answered (Ok x) fault is whole passed cause = absurd passed
answered (Err found) fault is whole passed cause =
    subst (λ x. (x ≡ Memory) ⊎ (whole ≡ Err x)) (sym passed) cause

or-else : {P Q R : Type 0} → (Q → R) → P ⊎ Q → P ⊎ R
or-else f (inl p) = inl p
or-else f (inr q) = inr (f q)

pub returns-in_err-inside : goal.returns-in_err-inside
returns-in_err-inside c =
    let front = c.loop-front in
    let units = map (λ object. object.unit) front.objects.items in
    let cut : lines front.text.now ≡ c.in-Some.front.now ∷ lines c.in-Some.after.now = search rules in
    let split : c.deref.result.now ≡ pieces c.in-Some.front.now = c.deref.ensures.value ∙ c.in_ok-split.ensures in
    answered c.from_residual-in_err-inside.result c.in_err-inside.field-0.0 _ (read c.args.bytes.now)
    c.from_residual-in_err-inside.ensures.1
    (or-else
    (λ e. sym front.invariant.whole ∙ read_fault front.text.now c.in-Some.front.now c.in-Some.after.now front.line
    (going_on units front.inside) _ cut (ap (next front.line units front.inside) (sym split) ∙ e))
    c.in_err-inside.ensures)

pub loop-front-preserved : goal.loop-front-preserved
loop-front-preserved c =
    let front = c.loop-front in
    let units = map (λ object. object.unit) front.objects.items in
    let now = going_on (map (λ object. object.unit) c.next.new.objects.items) c.in_ok-inside.inside in
    let cut : lines front.text.now ≡ c.in-Some.front.now ∷ lines c.in-Some.after.now = search rules in
    let split : c.deref.result.now ≡ pieces c.in-Some.front.now = c.deref.ensures.value ∙ c.in_ok-split.ensures in
    let one : next front.line units front.inside (pieces c.in-Some.front.now) ≡ Ok now =
    ap (next front.line units front.inside) (sym split) ∙ c.in_ok-inside.ensures in
    record {
      whole = sym (read_next front.text.now c.in-Some.front.now c.in-Some.after.now front.line
          (going_on units front.inside) now cut one) ∙ front.invariant.whole;
      counted = omega (arith, c.in-Some.ensures.shorter, front.invariant.counted);
    }
