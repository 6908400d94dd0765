-- What is answered one after another: the form in which code evaluates.
use Rattle.std.proofs.Common.{◌≡◌, ℕ, List, [], ◌++◌, Option, Some, None, refl, sym, ap, ◌∙◌, append_assoc}
use Rattle.cas_step.specs.Asks.{Value, Asks, gives, fails, stuck, reads, looks, loads, and_then}
use Rattle.cas_step.specs.Env.{Entity}
use Rattle.cas_step.specs.Answered.{Got, got, bad, got_stuck, having_read, if_there, trace_of, word_at, answered, size_of, value_at}

-- what is got from what was got, where something was
abbrev pub got_then : {A B : Type 0} → Got A → (A → Got B) → Got B
got_then (got rs a) next = having_read rs (next a)
got_then (bad rs why) next = bad rs why
got_then (got_stuck rs) next = got_stuck rs

having_read-nothing : {A : Type 0} (x : Got A) → having_read [] x ≡ x
having_read-nothing (got rs a) = refl
having_read-nothing (bad rs why) = refl
having_read-nothing (got_stuck rs) = refl

having_read-twice : {A : Type 0} (rs qs : List ℕ) (x : Got A) →
    having_read (rs ++ qs) x ≡ having_read rs (having_read qs x)
having_read-twice rs qs (got ps a) = ap (λ l. got l a) (append_assoc rs qs ps)
having_read-twice rs qs (bad ps why) = ap (λ l. bad l why) (append_assoc rs qs ps)
having_read-twice rs qs (got_stuck ps) = ap got_stuck (append_assoc rs qs ps)

having_read-then : {A B : Type 0} (rs : List ℕ) (x : Got A) (next : A → Got B) →
    got_then (having_read rs x) next ≡ having_read rs (got_then x next)
having_read-then rs (got qs a) next = having_read-twice rs qs (next a)
having_read-then rs (bad qs why) next = refl
having_read-then rs (got_stuck qs) next = refl

if_there-then : {V A B : Type 0} (x : Option V) (go : V → Got A) (next : A → Got B) (goes : V → Got B) →
    ((v : V) → goes v ≡ got_then (go v) next) → if_there x goes ≡ got_then (if_there x go) next
if_there-then None go next goes same = refl
if_there-then (Some v) go next goes same = same v

-- first this is answered, and then what follows on it
pub answered-and_then : {O A B : Type 0} (entity : ℕ → Option Entity) (word : ℕ → Option ℕ)
    (cells : O → Option (List (Value O))) (x : Asks O A) (next : A → Asks O B) →
    answered entity word cells (and_then x next) ≡ got_then (answered entity word cells x)
    (λ a. answered entity word cells (next a))
answered-and_then entity word cells (gives a) next = sym (having_read-nothing (answered entity word cells (next a)))
answered-and_then entity word cells (fails why) next = refl
answered-and_then entity word cells stuck next = refl
answered-and_then entity word cells (looks o more) next =
    answered-and_then entity word cells (more (size_of (cells o))) next
answered-and_then entity word cells (loads o p more) next = if_there-then (value_at (cells o) p)
    (λ v. answered entity word cells (more v)) (λ a. answered entity word cells (next a))
    (λ v. answered entity word cells (and_then (more v) next))
    (λ v. answered-and_then entity word cells (more v) next)
answered-and_then entity word cells (reads g i more) next = if_there-then (word_at word (entity g) i)
    (λ n. having_read (trace_of (entity g) i) (answered entity word cells (more n)))
    (λ a. answered entity word cells (next a)) (λ n. having_read (trace_of (entity g) i)
    (answered entity word cells (and_then (more n) next)))
    (λ n. ap (having_read (trace_of (entity g) i)) (answered-and_then entity word cells (more n) next)
    ∙ sym (having_read-then (trace_of (entity g) i) (answered entity word cells (more n))
    (λ a. answered entity word cells (next a))))
