-- What is answered one after another: the form in which code evaluates.
use Rattle.std.proofs.Common.{◌≡◌, ℕ, ℤ, Bool, List, Option, Some, None, Result, Ok, Err, refl, sym, ap, ◌∙◌}
use Rattle.std.specs.Prelude.{[], slice_get}
use Rattle.std.specs.Result.{IsErrAnd}
use Rattle.std.proofs.lemmas.Result.{err_from_is_err_and}
use Rattle.cas_base.specs.declared.act.Why.{Why}
use Rattle.cas_step.specs.Asks.{word, Asks, gives, fails, stuck, reads, looks, loads, and_then}
use Rattle.cas_step.specs.Answered.{Got, got, bad, got_stuck, having_read, if_there, trace_of, word_at, answered, size_of, value_at}
use Rattle.cas_base.specs.declared.act.Why.TheVariants.{Index}
use Rattle.cas_step.specs.Evaluate.{global_value, place_among}
use Rattle.cas_step.specs.Operators.{place_below, or_index}
use Rattle.cas_step.specs.Step.{Object, cells_at}
use Rattle.cas_eval.specs.Answer.{EvalState, answer, outcome, map_answer}
use Rattle.cas_eval.specs.declared.values.NoResult.{NoResult}
use Rattle.cas_eval.specs.declared.values.NoResult.TheVariants.{Bad, Stuck}

abbrev pub then_ : {A B : Type 0} → Result A NoResult → (A → Result B NoResult) → Result B NoResult
then_ (Ok a) next = next a
then_ (Err e) next = Err e

-- what was read before doesn't matter
outcome_reads : {A : Type 0} (rs : List ℕ) (x : Got A) → outcome (having_read rs x) ≡ outcome x
outcome_reads rs (got qs a) = refl
outcome_reads rs (bad qs why) = refl
outcome_reads rs (got_stuck qs) = refl

-- what is there, and what follows on it
there_then : {V A B : Type 0} (x : Option V) (go : V → Got A) (goes : V → Got B) (next : A → Result B NoResult) →
    ((v : V) → outcome (goes v) ≡ then_ (outcome (go v)) next) →
    outcome (if_there x goes) ≡ then_ (outcome (if_there x go)) next
there_then None go goes next same = refl
there_then (Some v) go goes next same = same v

-- first this is answered, and then what follows on it
pub answer_then : {A B : Type 0} (r : EvalState) (x : Asks Object A) (next : A → Asks Object B) →
    answer r (and_then x next) ≡ then_ (answer r x) (λ a. answer r (next a))
unfolding answer
answer_then r (gives a) next = refl
answer_then r (fails why) next = refl
answer_then r stuck next = refl
answer_then r (looks o more) next = answer_then r (more (size_of (cells_at r.memory o))) next
answer_then r (loads o p more) next = there_then (value_at (cells_at r.memory o) p) _ _ _
    (λ v. answer_then r (more v) next)
answer_then r (reads g i more) next = there_then (word_at (slice_get r.words) (r.entity g) i) _ _ _
    (λ n. outcome_reads (trace_of (r.entity g) i) (answered r.entity (slice_get r.words) (cells_at r.memory)
    (and_then (more n) next)) ∙ answer_then r (more n) next
    ∙ ap (λ o. then_ o (λ a. answer r (next a)))
    (sym (outcome_reads (trace_of (r.entity g) i) (answered r.entity (slice_get r.words) (cells_at r.memory)
    (more n)))))

-- an answer, by how it was asked for

pub given : {A : Type 0} (r : EvalState) (a : A) → answer r (gives a) ≡ Ok a
unfolding answer
given r a = refl

pub answer_is : {A : Type 0} (r : EvalState) (x : Asks Object A) →
    answer r x ≡ outcome (answered r.entity (slice_get r.words) (cells_at r.memory) x)
unfolding answer
answer_is r x = refl

pub answer_gives : {A : Type 0} (r : EvalState) (a : A) → Ok a ≡ answer r (gives a)
unfolding answer
answer_gives r a = refl

pub answer_fails : {A : Type 0} (r : EvalState) (why : Why) → Err (Bad why) ≡ answer {A = A} r (fails why)
unfolding answer
answer_fails r why = refl

pub answer_stuck : {A : Type 0} (r : EvalState) → Err Stuck ≡ answer {A = A} r stuck
unfolding answer
answer_stuck r = refl

-- the word at a place of a global
pub global_there : (r : EvalState) (g i n : ℕ) → Some n ≡ word_at (slice_get r.words) (r.entity g) i →
    answer r (global_value g i) ≡ Ok (word n)
unfolding answer
global_there r g i n is = ap (λ o. outcome (if_there o (λ m. having_read (trace_of (r.entity g) i) (got [] (word m)))))
    (sym is)

pub global_missing : (r : EvalState) (g i : ℕ) → None ≡ word_at (slice_get r.words) (r.entity g) i →
    answer r (global_value g i) ≡ Err Stuck
unfolding answer
global_missing r g i is = ap (λ o. outcome (if_there o (λ m. having_read (trace_of (r.entity g) i) (got [] (word m)))))
    (sym is)

-- the first that has no result ends it
pub err_then : {A B : Type 0} (r : EvalState) (x : Asks Object A) (next : A → Asks Object B) (e : NoResult) →
    Err e ≡ answer r x → Err e ≡ answer r (and_then x next)
err_then r x next e is = sym (answer_then r x next ∙ ap (λ o. then_ o (λ a. answer r (next a))) (sym is))

pub ok_then : {A B : Type 0} (r : EvalState) (x : Asks Object A) (next : A → Asks Object B) (a : A)
    (o : Result B NoResult) → Ok a ≡ answer r x → o ≡ answer r (next a) → o ≡ answer r (and_then x next)
ok_then r x next a o is then_is =
    then_is ∙ sym (answer_then r x next ∙ ap (λ o. then_ o (λ a. answer r (next a))) (sym is))

-- the same where code passes an error on
pub stops : {A B V : Type 0} (view : B → V) (o : Result B NoResult) (e : NoResult) (r : EvalState) (x : Asks Object A)
    (next : A → Asks Object V) →
    IsErrAnd o (λ f. f ≡ e) → Err e ≡ answer r x → map_answer view o ≡ answer r (and_then x next)
stops view o e r x next passed is =
    let p = err_from_is_err_and o passed in
    ap (map_answer view) p.1 ∙ ap Err p.2 ∙ err_then r x next e is

pub stopped : {A B : Type 0} (o : Result B NoResult) (e : NoResult) (r : EvalState) (x : Asks Object A)
    (next : A → Asks Object B) →
    IsErrAnd o (λ f. f ≡ e) → Err e ≡ answer r x → o ≡ answer r (and_then x next)
stopped o e r x next passed is =
    let p = err_from_is_err_and o passed in
    p.1 ∙ ap Err p.2 ∙ err_then r x next e is

-- a truth that is known
pub known : {x : Result Bool NoResult} (a b : Bool) → Ok a ≡ x → a ≡ b → Ok b ≡ x
known a b is same = ap Ok (sym same) ∙ is

-- the place of an element among so many words
pub place_found : (r : EvalState) (o : Option ℕ) (i : ℤ) (n p : ℕ) → o ≡ Some n → Some p ≡ place_below n i →
    Ok p ≡ answer r (place_among o i)
place_found r o i n p has is =
    sym (ap (λ l. answer r (place_among l i)) has ∙ ap (λ q. answer r (or_index q gives)) (sym is) ∙ given r p)

pub place_missing : (r : EvalState) (o : Option ℕ) (i : ℤ) (n : ℕ) → o ≡ Some n → None ≡ place_below n i →
    Err (Bad Index) ≡ answer r (place_among o i)
place_missing r o i n has is = answer_fails r Index ∙ sym
    (ap (λ l. answer r (place_among l i)) has ∙ ap (λ q. answer r (or_index q gives)) (sym is))

pub no_place : (r : EvalState) (o : Option ℕ) (i : ℤ) → o ≡ None → Err Stuck ≡ answer r (place_among o i)
no_place r o i has = answer_stuck r ∙ ap (λ l. answer r (place_among l i)) (sym has)
