-- Runs of the machine go on step by step, and those of one code from one state to an end are the same.
use Rattle.std.proofs.Common.{◌≡◌, ◌⊎◌, ◌+◌, ◌-◌, ◌<◌, ℕ, List, [], ◌∷◌, length, Option, Some, None, slice_get, refl, sym, ap, subst, ◌∙◌, inl, inr, arith}
use Rattle.std.proofs.lemmas.Option.{slice_get_within}
use Rattle.cas_top.specs.Machine.{State, Report, executed, Runs, stays, steps}
use Rattle.cas_top.specs.declared.machine.Instr.{Instr}
use Rattle.cas_top.specs.declared.machine.Instr.TheVariants.{MovEax, AddEax, OutEax, Ret}
use Rattle.cas_top.specs.declared.machine.End.{End}

-- a run from a state to the same
pub stays_at : (code : List Instr) (s t : State) → t ≡ s → Runs code s t
stays_at code s t same = let P : State → Type 0 = λ u. Runs code s u in subst P (sym same) (stays s)

-- a report of one thread, from its output and its end
pub report_of_one : (out : List (ℕ × ℕ)) (ends : List End) (put_out : List (ℕ × ℕ)) (e : End) → out ≡ put_out →
    ends ≡ e ∷ [] →
    let report : List (ℕ × ℕ) → List End → Report = λ o es. record { out = o; ends = es } in
    report out ends ≡ report put_out (e ∷ [])
report_of_one out ends put_out e h k =
    let report : List (ℕ × ℕ) → List End → Report = λ o es. record { out = o; ends = es } in
    ap (λ o. report o ends) h ∙ ap (report put_out) k

-- a run continues by a step
run_and_step : {code : List Instr} {s t : State} → Runs code s t → t.end ≡ None →
    Runs code s (executed (slice_get code t.place) t)
run_and_step (stays s) none = steps s _ none (stays _)
run_and_step (steps s t going rest) none = steps s _ going (run_and_step rest none)

-- a run continues to the state after a step
pub run_on : {code : List Instr} {s t u : State} → Runs code s t → t.end ≡ None →
    u ≡ executed (slice_get code t.place) t → Runs code s u
run_on {code} {s} run going executes = let P : State → Type 0 =
    λ v. Runs code s v in subst P (sym executes) (run_and_step run going)

-- a run is none, or a step and the rest
step_or_none : {code : List Instr} {s t : State} → Runs code s t →
    (s ≡ t) ⊎ ((s.end ≡ None) × Runs code (executed (slice_get code s.place) s) t)
step_or_none (stays s) = inl refl
step_or_none (steps s t going rest) = inr (going, rest)

-- the report of a run of one thread that ended in this state
abbrev pub report_of : State → End → Report
report_of s e = record { out = s.out; ends = e ∷ [] }

-- runs from one state to an end are the same
pub one_end : {code : List Instr} {s t u : State} {d e : End} → Runs code s t → Runs code s u → t.end ≡ Some d →
    u.end ≡ Some e → t ≡ u
one_end (stays s) other left right = elim (step_or_none other) [ inl same ↦ same | inr more ↦ absurd (cc more.0) ]
one_end (steps s t going rest) other left right =
    elim (step_or_none other) [ inl same ↦ absurd (cc) | inr more ↦ one_end rest more.1 left right ]

-- an instruction that doesn't end the thread goes one place on
continues : (o : Option Instr) (s : State) → (executed o s).end ≡ None → (i : Instr) × (o ≡ Some i)
    × ((executed o s).place ≡ s.place + 1)
continues (Some (MovEax n)) s going = (MovEax n, refl, refl)
continues (Some (AddEax n)) s going = (AddEax n, refl, refl)
continues (Some OutEax) s going = (OutEax, refl, refl)
continues (Some Ret) s going = absurd (cc)
continues None s going = absurd (cc)

-- after such an instruction fewer places are left
pub fewer_left : (code : List Instr) (s t : State) → t ≡ executed (slice_get code s.place) s → t.end ≡ None →
    length code - t.place < length code - s.place
fewer_left code s t executes going =
    let none : (executed (slice_get code s.place) s).end ≡ None = ap (λ (u : State). u.end) (sym executes) ∙ going in
    let (i, there, next) = continues (slice_get code s.place) s none in
    let place : t.place ≡ s.place + 1 = ap (λ (u : State). u.place) executes ∙ next in
    omega (arith, slice_get_within code s.place i there, place)
