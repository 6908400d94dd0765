-- Turns and rounds: what the code's steps make of them, that they come to an end, and that they are timed runs.
use Rattle.std.proofs.Common.{◌≡◌, ℕ, zero, suc, ◌+◌, ◌-◌, ◌*◌, ◌<◌, ◌≤◌, Bool, true, false, ◌||◌, nat_le, if◌then◌else◌, List, [], ◌∷◌, length, slice_get, set, Option, Some, None, ◌⊎◌, inl, inr, ⊎_elim, refl, sym, ap, ◌∙◌, subst, arith, length-append, below_more}
use Rattle.std.proofs.lemmas.Option.{slice_get_within}
use Rattle.std.specs.Bool.{MatchBool}
use Rattle.std.specs.Prelude.{Result, Ok, Err, MatchResult, OnErr, OnOk}
use Rattle.cas_asm.specs.Ask.{ask_of}
use Rattle.cas_asm.specs.declared.ask.Ask.{Ask}
use Rattle.cas_asm.specs.declared.ask.Ask.TheVariants as ask
use Rattle.cas_asm.specs.declared.image.Image.{Image}
use Rattle.cas_tso.specs.Counted.{IsKept, IsKeptThread, most_fuel}
use Rattle.cas_tso.specs.Machine.{Machine}
use Rattle.cas_tso.specs.Refusal.{IsDrain, StepsAs, refused_drain, refused_run}
use Rattle.cas_tso.specs.Rounds.{Drained, HasEnd, IsDue, IsNotDue, Rounds, Turn, Turns}
use Rattle.cas_tso.specs.Rounds.{none, one_more, steps, rests, begin, next, no_round, one_round}
use Rattle.cas_tso.specs.State.{Setup, State, Thread}
use Rattle.cas_tso.specs.Step.{Act, plain, forwarded, loaded, stored, drained, decremented, printed, stopped, Step, Takes}
use Rattle.cas_tso.specs.Timed.{IsEnded, has_finished_at, is_due, is_due_at, must_drain}
use Rattle.cas_tso.specs.Timed.{IsInTime, TimedRun, and_step}
use Rattle.cas_tso.specs.declared.end.End.{End}
use Rattle.cas_tso.specs.declared.end.End.TheVariants as end
use Rattle.cas_tso.specs.declared.pending.Pending.{Pending}
use Rattle.cas_tso.specs.declared.refused.Choice.TheVariants as choice
use Rattle.cas_tso.specs.declared.refused.Refused.{Refused}
use Rattle.cas_tso.proofs.Keeping.{step_kept}

-- Answers.

other : (o : Option Refused) (why : Refused) → o ≡ None → o ≡ Some why → ⊥
other o why e f = cc

true_false : true ≡ false → ⊥
true_false e = cc

-- a result that was refused for no reason is Ok
pub granted : {A : Type 0} (r : Result (Unit {0}) Refused) (o : Option Refused) →
    MatchResult r (λ _. o ≡ None) (λ why. o ≡ Some why) → o ≡ None → OnOk r A → A
granted (Ok u) o m e h = h
granted (Err why) o m e h = absurd (other o why e m)

due_stores : (m : Image) (hold : ℕ) (c : Thread) (b : List Pending) (o : Option End) → is_due_at m hold c b o ≡ true →
    refused_drain b ≡ None
due_stores m hold c [] o e = cc
due_stores m hold c (x ∷ xs) o e = refl

-- a thread with a store that is due can drain
pub due_drains : (m : Image) (hold : ℕ) (c : Thread) → is_due m hold c ≡ true → refused_drain c.buffer ≡ None
due_drains m hold c e = due_stores m hold c c.buffer c.ended e

empty_free : (a : Ask) → must_drain a [] ≡ false
empty_free ask.Plain = refl
empty_free (ask.Load k) = refl
empty_free (ask.Store k v) = refl
empty_free (ask.LockedDec k) = refl
empty_free (ask.Out v) = refl
empty_free ask.Finish = refl
empty_free ask.Stack = refl
empty_free (ask.Bad why) = refl

or_right : (a b : Bool) → (a || b) ≡ false → b ≡ false
or_right true b e = cc
or_right false b e = e

free_at : (m : Image) (hold : ℕ) (c : Thread) (b : List Pending) → is_due_at m hold c b None ≡ false →
    must_drain (ask_of m c.cpu None) b ≡ false
free_at m hold c [] e = empty_free (ask_of m c.cpu None)
free_at m hold c (x ∷ xs) e = or_right (nat_le hold (c.counts.executed - x.entered))
    (must_drain (ask_of m c.cpu None) (x ∷ xs)) e

refused_by : (b : Bool) (why : Refused) (r : Refused) → (if b then Some r else None) ≡ Some why → b ≡ false → ⊥
refused_by b why r e f = cc

ends_at : (m : Image) (hold : ℕ) (c : Thread) (o : Option End) (why : Refused) → is_due_at m hold c c.buffer o ≡ false →
    refused_run m c o ≡ Some why → (e : End) × (o ≡ Some e)
ends_at m hold c (Some e) why free refused = (e, refl)
ends_at m hold c None why free refused =
    absurd (refused_by (must_drain (ask_of m c.cpu None) c.buffer)
    why Rattle.cas_tso.specs.declared.refused.Refused.TheVariants.MustDrain refused
    (free_at m hold c c.buffer free))

-- a thread without a store that is due is refused only for its end
pub refused_ends : (m : Image) (hold : ℕ) (c : Thread) (why : Refused) → is_due m hold c ≡ false →
    refused_run m c c.ended ≡ Some why →
    (e : End) × (c.ended ≡ Some e)
refused_ends m hold c why free refused = ends_at m hold c c.ended why free refused

-- Measures.

abbrev running : Option End → ℕ
running None = 1
running (Some e) = 0

running_le : (o : Option End) → running o ≤ 1
running_le None = omega arith
running_le (Some e) = omega arith

-- what bounds the steps that a thread may still take
abbrev pub weight : Setup → Thread → ℕ
weight p c = 2 * (p.options.fuel - c.counts.executed) + length c.buffer + running c.ended

abbrev pub total : Setup → List Thread → ℕ
total p [] = 0
total p (c ∷ cs) = weight p c + total p cs

-- how many stores the thread has
abbrev pub stores_of : List Thread → (thread : ℕ) → ℕ
stores_of [] i = 0
stores_of (c ∷ cs) zero = length c.buffer
stores_of (c ∷ cs) (suc i) = stores_of cs i

-- an instruction was executed, and at most one store entered
goes_lighter : (p : Setup) (c d : Thread) → c.ended ≡ None → c.counts.executed < p.options.fuel →
    d.counts.executed ≡ c.counts.executed + 1 →
    length d.buffer ≤ length c.buffer + 1 → weight p d < weight p c
goes_lighter p c d e lt is long =
    let was : running c.ended ≡ 1 = ap running e in
    let le = running_le d.ended in
    omega arith

takes_lighter : (p : Setup) (c : Thread) (a : Act) (d : Thread) → IsKeptThread p c → Takes p c a d →
    weight p d < weight p c
takes_lighter p c plain d k t =
    let e = ap (λ (u : Thread). u.counts.executed) t.2 in let b = ap (λ (u : Thread). length u.buffer) t.2 in
    goes_lighter p c d t.0 (k.running t.0) e (omega arith)
takes_lighter p c (forwarded at word) d k t =
    let e = ap (λ (u : Thread). u.counts.executed) t.4 in let b = ap (λ (u : Thread). length u.buffer) t.4 in
    goes_lighter p c d t.0 (k.running t.0) e (omega arith)
takes_lighter p c (loaded at word) d k t =
    let e = ap (λ (u : Thread). u.counts.executed) t.4 in let b = ap (λ (u : Thread). length u.buffer) t.4 in
    goes_lighter p c d t.0 (k.running t.0) e (omega arith)
takes_lighter p c (stored at value) d k t =
    let e = ap (λ (u : Thread). u.counts.executed) t.3 in
    let new : Pending = record { at = at; value = value; entered = c.counts.executed + 1 } in
    let b = ap (λ (u : Thread). length u.buffer) t.3 in
    let l = length-append c.buffer (new ∷ []) in
    goes_lighter p c d t.0 (k.running t.0) e (omega arith)
takes_lighter p c (drained at value) d k t =
    let e = ap (λ (u : Thread). u.counts.executed) t.3 in
    let b = ap (λ (u : Thread). length u.buffer) t.3 in
    let l = ap (λ (xs : List Pending). length xs) t.2 in
    let o = ap (λ (u : Thread). running u.ended) t.3 in
    omega arith
takes_lighter p c (decremented at word) d k t =
    let e = ap (λ (u : Thread). u.counts.executed) t.3 in let b = ap (λ (u : Thread). length u.buffer) t.3 in
    goes_lighter p c d t.0 (k.running t.0) e (omega arith)
takes_lighter p c (printed ticket word) d k t =
    let e = ap (λ (u : Thread). u.counts.executed) t.3 in let b = ap (λ (u : Thread). length u.buffer) t.3 in
    goes_lighter p c d t.0 (k.running t.0) e (omega arith)
takes_lighter p c (stopped read x) d k t =
    let e = ap (λ (u : Thread). u.counts.executed) t.2 in
    let b = ap (λ (u : Thread). length u.buffer) t.2 in
    let o = ap (λ (u : Thread). running u.ended) t.2 in
    let was : running c.ended ≡ 1 = ap running t.0 in
    omega arith

total_set : (p : Setup) (ts : List Thread) (i : ℕ) (c d : Thread) → slice_get ts i ≡ Some c → weight p d < weight p c →
    total p (set ts i d) < total p ts
total_set p [] i c d e lt = cc
total_set p (x ∷ xs) zero c d e lt = let is : x ≡ c = cc in let w = ap (weight p) is in omega arith
total_set p (x ∷ xs) (suc i) c d e lt = let r = total_set p xs i c d e lt in omega arith

-- each step makes the whole lighter
steps_lighter : (p : Setup) (s t : State) (i : ℕ) (a : Act) → IsKept p s → Step p s i a t →
    total p t.threads < total p s.threads
steps_lighter p s t i a k (c, d, at, takes, agrees, is) =
    let lt = total_set p s.threads i c d at (takes_lighter p c a d (k.threads i c at) takes) in
    let e = ap (λ (u : State). total p u.threads) is in
    omega arith

stores_at : (ts : List Thread) (i : ℕ) (c : Thread) → slice_get ts i ≡ Some c → stores_of ts i ≡ length c.buffer
stores_at [] i c e = cc
stores_at (x ∷ xs) zero c e = let is : x ≡ c = cc in ap (λ (u : Thread). length u.buffer) is
stores_at (x ∷ xs) (suc i) c e = stores_at xs i c e

stores_set : (ts : List Thread) (i : ℕ) (c d : Thread) → slice_get ts i ≡ Some c →
    stores_of (set ts i d) i ≡ length d.buffer
stores_set [] i c d e = cc
stores_set (x ∷ xs) zero c d e = refl
stores_set (x ∷ xs) (suc i) c d e = stores_set xs i c d e

drain_fewer : (p : Setup) (c : Thread) (a : Act) (d : Thread) → IsDrain a → Takes p c a d →
    length d.buffer < length c.buffer
drain_fewer p c plain d h t = absurd h
drain_fewer p c (forwarded at word) d h t = absurd h
drain_fewer p c (loaded at word) d h t = absurd h
drain_fewer p c (stored at value) d h t = absurd h
drain_fewer p c (drained at value) d h t =
    let b = ap (λ (u : Thread). length u.buffer) t.3 in let l = ap (λ (xs : List Pending). length xs) t.2 in omega arith
drain_fewer p c (decremented at word) d h t = absurd h
drain_fewer p c (printed ticket word) d h t = absurd h
drain_fewer p c (stopped read x) d h t = absurd h

-- a drain leaves its thread with fewer stores
pub drains_fewer : (p : Setup) (s t : State) (i : ℕ) → StepsAs p s (choice.Drain i) t →
    stores_of t.threads i < stores_of s.threads i
drains_fewer p s t i (a, drains, (c, d, at, takes, agrees, is)) =
    let fewer = drain_fewer p c a d drains takes in
    let was = stores_at s.threads i c at in
    let now = stores_set s.threads i c d at in
    let e = ap (λ (u : State). stores_of u.threads i) is in
    omega arith

-- Rounds come to an end.

drained_lighter : (p : Setup) (hold i : ℕ) (s t : State) → p.options.fuel ≤ most_fuel → IsKept p s →
    Drained p hold i s t →
    IsKept p t × ((total p t.threads < total p s.threads) ⊎ (t ≡ s))
drained_lighter p hold i s t small k none = (k, inr refl)
drained_lighter p hold i s t small k (one_more u v before due (a, drains, step)) =
    let r = drained_lighter p hold i s u small k before in
    let lt = steps_lighter p u t i a r.0 step in (
      step_kept p u t i a small r.0 step,
      inl (⊎_elim (λ (x : total p u.threads < total p s.threads). let y : total p t.threads < total p s.threads =
          omega arith in y)
          (λ (x : u ≡ s). let e = ap (λ (w : State). total p w.threads) x in
          let y : total p t.threads < total p s.threads = omega arith in y) r.1),
    )

turn_lighter : (p : Setup) (hold i : ℕ) (s t : State) → p.options.fuel ≤ most_fuel → IsKept p s → Turn p hold i s t →
    IsKept p t × ((total p t.threads < total p s.threads) ⊎ ((t ≡ s) × IsNotDue p hold s i × HasEnd p hold s i))
turn_lighter p hold i s t small k (steps u v before free (a, goes, step)) =
    let r = drained_lighter p hold i s u small k before in
    let lt = steps_lighter p u t i a r.0 step in (
      step_kept p u t i a small r.0 step,
      inl (⊎_elim (λ (x : total p u.threads < total p s.threads). let y : total p t.threads < total p s.threads =
          omega arith in y)
          (λ (x : u ≡ s). let e = ap (λ (w : State). total p w.threads) x in
          let y : total p t.threads < total p s.threads = omega arith in y) r.1),
    )
turn_lighter p hold i s t small k (rests u before free ended) =
    let r = drained_lighter p hold i s t small k before in (
      r.0,
      ⊎_elim (λ (x : total p t.threads < total p s.threads). inl x)
          (λ (x : t ≡ s). inr (
            x,
            subst (λ (w : State). IsNotDue p hold w i) x free,
            subst
                (λ (w : State). HasEnd p hold w i) x ended,
          )) r.1,
    )

turns_lighter : (p : Setup) (hold : ℕ) (s : State) (n : ℕ) (t : State) → p.options.fuel ≤ most_fuel → IsKept p s →
    Turns p hold s n t →
    IsKept p t × ((total p t.threads < total p s.threads)
    ⊎ ((t ≡ s) × ((i : ℕ) → i < n → IsNotDue p hold s i × HasEnd p hold s i)))
turns_lighter p hold s n t small k begin = (k, inr (refl, λ i lt. absurd (omega arith)))
turns_lighter p hold s n t small k (next m u v before below turn) =
    let r = turns_lighter p hold s m u small k before in
    let q = turn_lighter p hold m u t small r.0 turn in (
      q.0,
      ⊎_elim
          (λ (x : total p u.threads < total p s.threads). ⊎_elim
          (λ (y : total p t.threads < total p u.threads). let z : total p t.threads < total p s.threads = omega arith in
          inl z)
          (λ (y : (t ≡ u) × IsNotDue p hold u m × HasEnd p hold u m).
          let e = ap (λ (w : State). total p w.threads) y.0 in let z : total p t.threads < total p s.threads =
          omega arith in inl z)
          q.1)
          (λ (x : (u ≡ s) × ((i : ℕ) → i < m → IsNotDue p hold s i × HasEnd p hold s i)). ⊎_elim
          (λ (y : total p t.threads < total p u.threads).
          let e = ap (λ (w : State). total p w.threads) x.0 in let z : total p t.threads < total p s.threads =
          omega arith in inl z)
          (λ (y : (t ≡ u) × IsNotDue p hold u m × HasEnd p hold u m). inr (
            y.0 ∙ x.0,
            below_more (λ i. IsNotDue p hold s i × HasEnd p hold s i) m x.1
                (subst (λ (w : State). IsNotDue p hold w m) x.0 y.1, subst (λ (w : State). HasEnd p hold w m) x.0 y.2),
          ))
          q.1)
          r.1,
    )

finished_at : (m : Image) (hold : ℕ) (c : Thread) (b : List Pending) (o : Option End) → is_due_at m hold c b o ≡ false →
    (e : End) × (o ≡ Some e) →
    has_finished_at o b ≡ true
finished_at m hold c b None free (e, is) = cc
finished_at m hold c [] (Some end.Done) free h = refl
finished_at m hold c (x ∷ xs) (Some end.Done) free h = cc
finished_at m hold c b (Some end.Fuel) free h = refl
finished_at m hold c b (Some end.Stack) free h = refl
finished_at m hold c b (Some end.Outs) free h = refl
finished_at m hold c b (Some (end.Bad why)) free h = refl

-- a round that begins in a state that isn't ended makes the whole lighter
pub round_lighter : (p : Setup) (hold : ℕ) (s t : State) → p.options.fuel ≤ most_fuel → IsKept p s →
    Turns p hold s (length s.threads) t →
    (IsEnded s → ⊥) → total p t.threads < total p s.threads
round_lighter p hold s t small k turns unended =
    ⊎_elim (λ (x : total p t.threads < total p s.threads). x)
    (λ (x : (t ≡ s) × ((i : ℕ) → i < length s.threads → IsNotDue p hold s i × HasEnd p hold s i)).
    absurd (unended (λ i c at. let f = x.1 i (slice_get_within s.threads i c at) in
    finished_at p.image hold c c.buffer c.ended (f.0 c at) (f.1 c at))))
    (turns_lighter p hold s (length s.threads) t small k turns).1

-- Rounds are timed runs.

drains_in_time : (p : Setup) (c : Thread) (a : Act) → IsDrain a → is_due p.image p.options.hold c ≡ true →
    IsInTime p c a
drains_in_time p c plain h e = absurd h
drains_in_time p c (forwarded at word) h e = absurd h
drains_in_time p c (loaded at word) h e = absurd h
drains_in_time p c (stored at value) h e = absurd h
drains_in_time p c (drained at value) h e = e
drains_in_time p c (decremented at word) h e = absurd h
drains_in_time p c (printed ticket word) h e = absurd h
drains_in_time p c (stopped read x) h e = absurd h

goes_in_time : (p : Setup) (c : Thread) (a : Act) → (IsDrain a → ⊥) → is_due p.image p.options.hold c ≡ false →
    IsInTime p c a
goes_in_time p c plain h e = e
goes_in_time p c (forwarded at word) h e = e
goes_in_time p c (loaded at word) h e = e
goes_in_time p c (stored at value) h e = e
goes_in_time p c (drained at value) h e = absurd (h tt)
goes_in_time p c (decremented at word) h e = e
goes_in_time p c (printed ticket word) h e = e
goes_in_time p c (stopped read x) h e = e

abbrev pub IsTimed : Setup → State → Type 0
IsTimed p s = (acts : List (ℕ × Act)) × TimedRun p acts s

drained_timed : (p : Setup) (i : ℕ) (s t : State) → IsTimed p s → Drained p p.options.hold i s t → IsTimed p t
drained_timed p i s t r none = r
drained_timed p i s t r (one_more u v before due (a, drains, step)) =
    let q = drained_timed p i s u r before in
    ((i, a) ∷ q.0, and_step q.1 i a t (step, λ c at. drains_in_time p c a drains (due c at)))

turn_timed : (p : Setup) (i : ℕ) (s t : State) → IsTimed p s → Turn p p.options.hold i s t → IsTimed p t
turn_timed p i s t r (steps u v before free (a, goes, step)) =
    let q = drained_timed p i s u r before in
    ((i, a) ∷ q.0, and_step q.1 i a t (step, λ c at. goes_in_time p c a goes (free c at)))
turn_timed p i s t r (rests u before free ended) = drained_timed p i s t r before

turns_timed : (p : Setup) (s : State) (n : ℕ) (t : State) → IsTimed p s → Turns p p.options.hold s n t → IsTimed p t
turns_timed p s n t r begin = r
turns_timed p s n t r (next m u v before below turn) = turn_timed p m u t (turns_timed p s m u r before) turn

pub rounds_timed : (p : Setup) (s t : State) → IsTimed p s → Rounds p p.options.hold s t → IsTimed p t
rounds_timed p s t r no_round = r
rounds_timed p s t r (one_round u v before unended turns) =
    turns_timed p u (length u.threads) t (rounds_timed p s u r before) turns

-- What the code's calls tell.

-- a drain that was due is one more
pub drained_more : (p q : Setup) (hold i : ℕ) (s t u : State) → q ≡ p → Drained p hold i s t → IsDue q hold t i →
    StepsAs q t (choice.Drain i) u → Drained p hold i s u
drained_more p q hold i s t u e d due step =
    one_more t u d (subst (λ (x : Setup). IsDue x hold t i) e due)
    (subst (λ (x : Setup). StepsAs x t (choice.Drain i) u) e step)

-- what a run answers after the stores that were due
pub turned : (p : Setup) (hold i : ℕ) (s : State) (t u : Machine) (r : Result (Unit {0}) Refused) → t.setup ≡ p →
    Drained p hold i s t.state → IsNotDue p hold t.state i →
    ((c : Thread) → slice_get t.state.threads i ≡ Some c →
    MatchResult r (λ _. refused_run t.setup.image c c.ended ≡ None)
    (λ why. refused_run t.setup.image c c.ended ≡ Some why)) →
    OnOk r (StepsAs t.setup t.state (choice.Run i) u.state) → OnErr r (u ≡ t) → Turn p hold i s u.state
turned p hold i s t u (Ok v) e d free answer ok still =
    steps t.state u.state d free (subst (λ (x : Setup). StepsAs x t.state (choice.Run i) u.state) e ok)
turned p hold i s t u (Err why) e d free answer ok still =
    subst (λ (w : Machine). Turn p hold i s w.state) (sym still)
    (rests t.state d free (λ c at. refused_ends p.image hold c why (free c at)
    (subst (λ (x : Setup). refused_run x.image c c.ended ≡ Some why) e (answer c at))))

pub match_false : (A B : Type 0) (b : Bool) → b ≡ false → MatchBool b A B → B
match_false A B true e h = absurd (true_false e)
match_false A B false e h = h
