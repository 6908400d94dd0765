-- Turns of schedules and rounds.
use Rattle.std.proofs.Common.{arith, ◌≡◌, ◌≢◌, ℕ, zero, suc, ◌+◌, ◌-◌, ◌<◌, ◌≤◌, List, [], ◌∷◌, ◌++◌, length, replicate, slice_set, refl, sym, ap, subst, ◌∙◌, append_assoc}
use Rattle.std.specs.Bool.{OnFalse}
use Rattle.std.specs.Prelude.{Bool, true, false, ◌||◌}
use Rattle.cas_step.specs.Env.{Env}
use Rattle.cas_turn.specs.Answers.{Answers, IsRunning, MayWantMemory, activations_of}
use Rattle.cas_turn.specs.Schedules.{AfterSome, AfterSomeRounds, NextMayWant}
use Rattle.cas_turn.specs.declared.answer.WorldAnswer.{WorldAnswer}
use Rattle.cas_turn.specs.declared.answer.WorldAnswer.TheVariants as answer
use Rattle.cas_world.specs.Turns.{State, running, ended, waits, bad, state_of, after_turn, turn, turns, threads_from, round, rounds}
use Rattle.cas_world.specs.World.{World, world_after}

-- a turn by what the thread stands at

turn_running : (w : World) (i : ℕ) (st : State) (P : World → Type 0) → IsRunning st (λ s. P (world_after w i s)) →
    P (after_turn w i st)
turn_running w i (running s) P h = h
turn_running w i ended P h = absurd h
turn_running w i (waits l holder) P h = absurd h
turn_running w i (bad why unit place) P h = absurd h

pub turn_taken : (e : Env) (w : World) (i : ℕ) (P : World → Type 0) →
    IsRunning (state_of e w i) (λ s. P (world_after w i s)) → P (turn e w i)
turn_taken e w i P h = turn_running w i (state_of e w i) P h

-- a turn that changes nothing

pub ended_stays : (e : Env) (w : World) (i : ℕ) → state_of e w i ≡ ended → turn e w i ≡ w
ended_stays e w i h = ap (after_turn w i) h

pub answered_stays : (e : Env) (w : World) (i : ℕ) (a : WorldAnswer) → Answers (activations_of w i) (state_of e w i) a →
    a ≢ answer.Memory → turn e w i ≡ w
answered_stays e w i answer.Memory h other = absurd (other refl)
answered_stays e w i answer.Ended h other = ap (after_turn w i) h
answered_stays e w i (answer.Waits l holder) h other = ap (after_turn w i) h
answered_stays e w i (answer.Bad why unit place) h other = ap (after_turn w i) h

-- turns of two schedules, one after the other
pub turns-append : (e : Env) (w : World) (xs ys : List ℕ) → turns e w (xs ++ ys) ≡ turns e (turns e w xs) ys
turns-append e w [] ys = refl
turns-append e w (i ∷ xs) ys = turns-append e (turn e w i) xs ys

-- the same turn again and again

pub replicate_more : (n i : ℕ) → replicate (suc n) i ≡ replicate n i ++ i ∷ []
replicate_more zero i = refl
replicate_more (suc n) i = ap (λ xs. i ∷ xs) (replicate_more n i)

pub replicate-add : (n m i : ℕ) → replicate (n + m) i ≡ replicate n i ++ replicate m i
replicate-add zero m i = let number : 0 + m ≡ m = omega (arith) in ap (λ k. replicate k i) number
replicate-add (suc n) m i = let number : suc n + m ≡ suc (n + m) = omega (arith) in ap (λ k. replicate k i) number
    ∙ ap (λ xs. i ∷ xs) (replicate-add n m i)

pub still_again : (e : Env) (w : World) (i n : ℕ) → turn e w i ≡ w → turns e w (replicate n i) ≡ w
still_again e w i zero still = refl
still_again e w i (suc n) still = ap (λ v. turns e v (replicate n i)) still ∙ still_again e w i n still

-- the threads of a round

pub threads_more : (i n : ℕ) → threads_from i (suc n) ≡ threads_from i n ++ (i + n) ∷ []
threads_more i zero = let number : i ≡ i + 0 = omega (arith) in ap (λ k. k ∷ []) number
threads_more i (suc n) =
    let number : (i + 1) + n ≡ i + suc n = omega (arith) in
    ap (λ xs. i ∷ xs) (threads_more (i + 1) n ∙ ap (λ k. threads_from (i + 1) n ++ k ∷ []) number)

pub threads-add : (i n m : ℕ) → threads_from i (n + m) ≡ threads_from i n ++ threads_from (i + n) m
threads-add i zero m =
    let number : 0 + m ≡ m = omega (arith) in
    let start : i ≡ i + 0 = omega (arith) in
    ap (threads_from i) number ∙ ap (λ k. threads_from k m) start
threads-add i (suc n) m =
    let number : suc n + m ≡ suc (n + m) = omega (arith) in
    let start : (i + 1) + n ≡ i + suc n = omega (arith) in
    ap (threads_from i) number ∙ ap (λ xs. i ∷ xs) (threads-add (i + 1) n m
    ∙ ap (λ k. threads_from (i + 1) n ++ threads_from k m) start)

-- rounds

pub rounds_more : (e : Env) (w : World) (n : ℕ) → rounds e w (suc n) ≡ round e (rounds e w n)
rounds_more e w zero = refl
rounds_more e w (suc n) = rounds_more e (round e w) n

pub rounds-add : (e : Env) (w : World) (n m : ℕ) → rounds e w (n + m) ≡ rounds e (rounds e w n) m
rounds-add e w zero m = let number : 0 + m ≡ m = omega (arith) in ap (rounds e w) number
rounds-add e w (suc n) m = let number : suc n + m ≡ suc (n + m) = omega (arith) in ap (rounds e w) number
    ∙ rounds-add e (round e w) n m

pub still_rounds : (e : Env) (w : World) (n : ℕ) → round e w ≡ w → rounds e w n ≡ w
still_rounds e w zero still = refl
still_rounds e w (suc n) still = ap (λ v. rounds e v n) still ∙ still_rounds e w n still

-- a world keeps its number of threads

set_length : {A : Type 0} (xs : List A) (i : ℕ) (x : A) → length (slice_set xs i x) ≡ length xs
set_length [] i x = refl
set_length (y ∷ xs) zero x = refl
set_length (y ∷ xs) (suc i) x = ap suc (set_length xs i x)

after_turn_length : (w : World) (i : ℕ) (st : State) → length (after_turn w i st).threads ≡ length w.threads
after_turn_length w i (running s) = set_length w.threads i s.next
after_turn_length w i ended = refl
after_turn_length w i (waits l holder) = refl
after_turn_length w i (bad why unit place) = refl

turns_length : (e : Env) (w : World) (xs : List ℕ) → length (turns e w xs).threads ≡ length w.threads
turns_length e w [] = refl
turns_length e w (i ∷ xs) = turns_length e (turn e w i) xs ∙ after_turn_length w i (state_of e w i)

pub rounds_length : (e : Env) (w : World) (n : ℕ) → length (rounds e w n).threads ≡ length w.threads
rounds_length e w zero = refl
rounds_length e w (suc n) = rounds_length e (round e w) n ∙ turns_length e w (threads_from 0 (length w.threads))

-- of a loop that takes turns

-- one turn more of one thread, of a round, and one round more

pub turn_more : (e : Env) (w : World) (i k : ℕ) → turn e (turns e w (replicate k i)) i ≡ turns e w (replicate (k + 1) i)
turn_more e w i k =
    let number : suc k ≡ k + 1 = omega (arith) in
    sym (turns-append e w (replicate k i) (i ∷ [])) ∙ ap (turns e w) (sym (replicate_more k i))
    ∙ ap (λ n. turns e w (replicate n i)) number

pub thread_more : (e : Env) (w : World) (k : ℕ) → turn e (turns e w (threads_from 0 k)) k ≡ turns e w
    (threads_from 0 (k + 1))
thread_more e w k =
    let number : suc k ≡ k + 1 = omega (arith) in
    let last : k ≡ 0 + k = omega (arith) in
    sym (turns-append e w (threads_from 0 k) (k ∷ [])) ∙ ap (λ n. turns e w (threads_from 0 k ++ n ∷ [])) last
    ∙ ap (turns e w) (sym (threads_more 0 k))
    ∙ ap (λ n. turns e w (threads_from 0 n)) number

pub round_more : (e : Env) (w : World) (k : ℕ) → round e (rounds e w k) ≡ rounds e w (k + 1)
round_more e w k = let number : suc k ≡ k + 1 = omega (arith) in sym (rounds_more e w k) ∙ ap (rounds e w) number

-- all that are left, where one changes nothing

pub turns_still : (e : Env) (w : World) (i k count : ℕ) → k ≤ count →
    turn e (turns e w (replicate k i)) i ≡ turns e w (replicate k i) →
    turns e w (replicate k i) ≡ turns e w (replicate count i)
turns_still e w i k count within still =
    let number : k + (count - k) ≡ count = omega (arith, within) in
    sym (still_again e (turns e w (replicate k i)) i (count - k) still)
    ∙ sym (turns-append e w (replicate k i) (replicate (count - k) i))
    ∙ ap (turns e w) (sym (replicate-add k (count - k) i)) ∙ ap (λ n. turns e w (replicate n i)) number

pub rounds_still : (e : Env) (w : World) (k count : ℕ) → k ≤ count → round e (rounds e w k) ≡ rounds e w k →
    rounds e w k ≡ rounds e w count
rounds_still e w k count within still =
    let number : k + (count - k) ≡ count = omega (arith, within) in
    sym (still_rounds e (rounds e w k) (count - k) still) ∙ sym (rounds-add e w k (count - k)) ∙ ap (rounds e w) number

-- where turns were cut off

pub turns_cut : (e : Env) (w : World) (i k count : ℕ) (P : World → Type 0) → k < count → P (turns e w (replicate k i)) →
    MayWantMemory (activations_of (turns e w (replicate k i)) i) (state_of e (turns e w (replicate k i)) i) →
    AfterSome e w (replicate count i) P
turns_cut e w i k count P within h wants =
    let left = count - (k + 1) in
    let number : k + suc left ≡ count = omega (arith, within) in (
      replicate k i,
      replicate (suc left) i,
      sym (replicate-add k (suc left) i)
          ∙ ap (λ n. replicate n i) number,
      h,
      wants,
    )

pub threads_cut : (e : Env) (w : World) (k count : ℕ) (P : World → Type 0) → k < count →
    P (turns e w (threads_from 0 k)) →
    MayWantMemory (activations_of (turns e w (threads_from 0 k)) k) (state_of e (turns e w (threads_from 0 k)) k) →
    AfterSome e w (threads_from 0 count) P
threads_cut e w k count P within h wants =
    let v = turns e w (threads_from 0 k) in
    let left = count - (k + 1) in
    let number : k + suc left ≡ count = omega (arith, within) in
    let next : k ≡ 0 + k = omega (arith) in (
      threads_from 0 k,
      threads_from (0 + k) (suc left),
      sym (threads-add 0 k (suc left)) ∙ ap (threads_from 0) number,
      h,
      subst (λ n. MayWantMemory (activations_of v n) (state_of e v n)) next wants,
    )

next_with : (e : Env) (w : World) (left rest : List ℕ) → NextMayWant e w left → NextMayWant e w (left ++ rest)
next_with e w [] rest h = absurd h
next_with e w (i ∷ left) rest h = h

pub rounds_cut : (e : Env) (w : World) (k count : ℕ) (P : World → Type 0) → k < count →
    AfterSome e (rounds e w k) (threads_from 0 (length (rounds e w k).threads)) P → AfterSomeRounds e w count P
rounds_cut e w k count P within h =
    let same : length (rounds e w k).threads ≡ length w.threads = rounds_length e w k in
    (k, within, subst (λ n. AfterSome e (rounds e w k) (threads_from 0 n) P) same h)

pub schedule_cut : (e : Env) (w : World) (done turn rest all : List ℕ) (P : World → Type 0) →
    done ++ (turn ++ rest) ≡ all → AfterSome e (turns e w done) turn P → AfterSome e w all P
schedule_cut e w done turn rest all P is cut =
    let (some, left, parts, h, wants) = cut in
    let behind = sym (turns-append e w done some) in (
      done ++ some,
      left ++ rest,
      append_assoc done some (left ++ rest) ∙ ap (λ xs. done ++ xs)
          (sym (append_assoc some left rest) ∙ ap (λ xs. xs ++ rest) parts) ∙ is,
      subst P behind h,
      subst (λ v. NextMayWant e v (left ++ rest)) behind (next_with e (turns e (turns e w done) some) left rest wants),
    )

-- tests

pub neither : (a b : Bool) → (a || b) ≡ false → (a ≡ false) × (b ≡ false)
neither true b h = absurd (cc h)
neither false b h = (refl, h)

pub on_false : (b : Bool) {P : Type 0} → (b ≡ false → P) → OnFalse b P
on_false true f = tt
on_false false f = f refl
