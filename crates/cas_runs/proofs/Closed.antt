-- In a thread of a whole program no call crosses, so its labels are plain.
use Rattle.std.proofs.Common.{◌≡◌, ℕ, List, [], ◌∷◌, Option, Some, None, false, refl, sym, subst}
use Rattle.cas_base.specs.declared.label.Label.{Label}
use Rattle.cas_base.specs.declared.label.Label.TheVariants as plain
use Rattle.cas_runs.specs.Label.{NameBytes, RunLabel, Lock, plain_label, ArePlain}
use Rattle.cas_runs.specs.Edge.{results_of}
use Rattle.cas_runs.specs.Naming.{Value, Number, and_then}
use Rattle.cas_runs.specs.Machine.{Act, Quiet, Emits, Crosses, Locks, Receives, Bad, Stops, Event, Unlocks, Prints, Ends, label_of, Machine, StepsTo, Block, Run, starts as begins_run, quiet, labelled}
use Rattle.cas_runs.specs.Refines.{Refines, NamesAlone, EachKept}
use Rattle.cas_runs.proofs.Composing.{each_kept}
use Rattle.cas_runs.specs.Access.{Holding, words_in, with_lock, without_lock}
use Rattle.cas_runs.specs.Unit.{Setting, guard_of}
use Rattle.cas_runs.specs.Calls.{Last, Goes, Takes, Gives, Puts, Calls, Tails, Returns, Activations, Scene, Frame, Waits, Outer, Past, Thread, Away, Runs, Leaves, Over, Wrong, goes_back, kept_results, returns, with_share, takes_lock, takes, gives_lock, gives, find, without_own, calls_in, enters_at, step_at, calls, acts, machine, no_past, no_holding, starts, language}

module _ {F A : Type 0} (l : Activations F A) (setting : Setting) (fs : List F) (start : Thread F A) where
  abbrev scene : Scene F
  scene = record { functions = fs; within = fs; crosses = false }

  abbrev M : Machine (Thread F A)
  M = machine l setting scene start

  -- the outside is nowhere on the stack
  abbrev AllWait : List (Frame F A) → Type 0
  AllWait [] = Unit {0}
  AllWait (Outer results ∷ stack) = ⊥
  AllWait (Waits f n results next ∷ stack) = AllWait stack

  abbrev Closed : Thread F A → Type 0
  Closed (Away stack p h) = ⊥
  Closed (Runs f n a e stack p h) = AllWait stack
  Closed (Leaves values stack p h) = ⊥
  Closed Over = Unit {0}
  Closed Wrong = Unit {0}

  abbrev ClosedAct : Act (Thread F A) → Type 0
  ClosedAct (Quiet y) = Closed y
  ClosedAct (Emits event y) = Closed y
  ClosedAct (Crosses f share next) = ⊥
  ClosedAct (Locks lock next) = (ws : List ℕ) → Closed (next ws)
  ClosedAct (Receives next) = ⊥
  ClosedAct Bad = Unit {0}
  ClosedAct (Stops why) = Unit {0}

  back_closed : (f : F) (n : ℕ) (o : Option A) (stack : List (Frame F A)) (p : Past) (h : Holding) → AllWait stack →
      ClosedAct (goes_back f n o stack p h)
  back_closed f n None stack p h w = tt
  back_closed f n (Some a) stack p h w = w

  returns_closed : (values : List Value) (stack : List (Frame F A)) (p : Past) (h : Holding) → AllWait stack →
      ClosedAct (returns setting.layout values stack p h)
  returns_closed values [] p h w = tt
  returns_closed values (Outer results ∷ stack) p h w = absurd w
  returns_closed values (Waits f n results next ∷ stack) p h w =
      back_closed f n (and_then (kept_results results values) next) stack p h w

  calls_closed : (function : NameBytes) (values : List Value) (stack : List (Frame F A)) (p : Past) (h : Holding) →
      AllWait stack → (o : Option F) → ClosedAct (calls l setting scene o function values stack p h)
  calls_closed function values stack p h w None = tt
  calls_closed function values stack p h w (Some f) = by (l.enter f p.begun values)
    where
      by : (o : Option A) → ClosedAct (calls_in l f o stack p h)
      by None = tt
      by (Some a) = w

  takes_closed : (o : Option ℕ) (a : A) (f : F) (n : ℕ) (stack : List (Frame F A)) (p : Past) (h : Holding) →
      AllWait stack → ClosedAct (takes o h (Runs f n a 0 stack p))
  takes_closed None a f n stack p h w = tt
  takes_closed (Some k) a f n stack p h w = by (words_in h.share k)
    where
      by : (o : Option (List ℕ)) →
          ClosedAct (takes_lock k o (λ ws. Runs f n a 0 stack p (with_share h (with_lock h.share k ws))))
      by None = λ ws. w
      by (Some ws) = tt

  gives_closed : (o : Option ℕ) (a : A) (f : F) (n : ℕ) (stack : List (Frame F A)) (p : Past) (h : Holding) →
      AllWait stack → ClosedAct (gives o h (Runs f n a 0 stack p))
  gives_closed None a f n stack p h w = tt
  gives_closed (Some k) a f n stack p h w = by (words_in h.share k)
    where
      by : (o : Option (List ℕ)) →
          ClosedAct (gives_lock k o (Runs f n a 0 stack p (with_share h (without_lock h.share k))))
      by None = tt
      by (Some ws) = w

  acts_closed : (o : Option (Last A)) (f : F) (n : ℕ) (stack : List (Frame F A)) (p : Past) (h : Holding) →
      AllWait stack → ClosedAct (acts l setting scene o f n stack p h)
  acts_closed None f n stack p h w = tt
  acts_closed (Some (Goes next)) f n stack p h w = w
  acts_closed (Some (Takes lock next)) f n stack p h w = takes_closed (guard_of setting.edge lock) next f n stack p h w
  acts_closed (Some (Gives lock next)) f n stack p h w = gives_closed (guard_of setting.edge lock) next f n stack p h w
  acts_closed (Some (Puts word next)) f n stack p h w = w
  acts_closed (Some (Calls function values next)) f n stack p h w =
      calls_closed function values (Waits f n (results_of setting.edge function) next ∷ stack) p h w
      (find l fs function)
  acts_closed (Some (Tails function values)) f n stack p h w =
      calls_closed function values stack p (without_own l f n h) w (find l fs function)
  acts_closed (Some (Returns values)) f n stack p h w = returns_closed values stack p (without_own l f n h) w

  act_closed : (x : Thread F A) → Closed x → ClosedAct (M.act x)
  act_closed (Away stack p h) c = absurd c
  act_closed (Runs f n a e stack p h) c = acts_closed (step_at l setting a h).last f n stack p
      (step_at l setting a h).holding c
  act_closed (Leaves values stack p h) c = absurd c
  act_closed Over c = tt
  act_closed Wrong c = tt

  record After (k : RunLabel) (y : Thread F A) : Type 0 where
    plain_one : Label
    is_plain : plain_label k ≡ Some plain_one
    closed : Closed y

  said_after : (event : Event) (y : Thread F A) → Closed y → After (label_of event) y
  said_after (Unlocks lock ws) y c = record { plain_one = plain.Unlock lock; is_plain = refl; closed = c }
  said_after (Prints w) y c = record { plain_one = plain.Out w; is_plain = refl; closed = c }
  said_after Ends y c = record { plain_one = plain.Done; is_plain = refl; closed = c }

  after : (ls : List RunLabel) (a : Act (Thread F A)) (k : RunLabel) (y : Thread F A) → ClosedAct a →
      StepsTo setting.edge ls a k y → After k y
  after ls (Quiet z) k y c e = absurd e
  after ls (Emits event z) k y c e = subst (λ v. After v y) e.0
      (subst (λ v. After (label_of event) v) e.1 (said_after event z c))
  after ls (Crosses f share next) k y c e = absurd c
  after ls (Locks lock next) k y c e = subst (λ v. After v y) (sym e.1)
      (subst (λ v. After (Lock lock e.0) v) e.3
      (record { plain_one = plain.Lock lock; is_plain = refl; closed = c e.0 }))
  after ls (Receives next) k y c e = absurd c
  after ls Bad k y c e = absurd e
  after ls (Stops why) k y c e = absurd e

  record PlainRun (ls : List RunLabel) (x : Thread F A) : Type 0 where
    are_plain : ArePlain ls
    closed : Closed x

  plain_run : Closed start → {ls : List RunLabel} {bs : List Block} {b : Block} {x : Thread F A} →
      Run setting.edge M ls bs b x → PlainRun ls x
  plain_run first begins_run = record { are_plain = tt; closed = first }
  plain_run first (quiet {x = x} y r e) = let h = plain_run first r in
      record {
        are_plain = h.are_plain;
        closed = subst (λ (v : Act (Thread F A)). ClosedAct v) e (act_closed x h.closed);
      }
  plain_run first (labelled {ls = ls} {x = x} k y r e) =
      let h = plain_run first r in
      let t = after ls (M.act x) k y (act_closed x h.closed) e in
      record { are_plain = ((t.plain_one, t.is_plain), h.are_plain); closed = t.closed }

starts_closed : {F A : Type 0} (l : Activations F A) (setting : Setting) (fs : List F) (thread : ℕ) (o : Option F)
    (start : Thread F A) → Closed l setting fs start (starts l o thread)
starts_closed l setting fs thread None start = tt
starts_closed {A = A} l setting fs thread (Some f) start = by (l.enter f 0 (Number thread ∷ []))
  where
    by : (a : Option A) → Closed l setting fs start (enters_at l f a [] no_past no_holding)
    by None = tt
    by (Some a) = tt

-- the labels of a thread of a whole program
pub threads_plain : {F A : Type 0} (l : Activations F A) (setting : Setting) (fs : List F) (entry : NameBytes)
    (thread : ℕ) (ls : List RunLabel) (bs : List Block) (b : Block) (x : Thread F A) →
    Run setting.edge ((language l).thread setting fs entry thread) ls bs b x → ArePlain ls
threads_plain l setting fs entry thread ls bs b x r =
    let start = starts l (find l fs entry) thread in
    let h = plain_run l setting fs start (starts_closed l setting fs thread (find l fs entry) start) r in
    h.are_plain

-- so no Call and no Leave of it has two labels
thread_names_alone : {F A : Type 0} (l : Activations F A) (setting : Setting) (fs : List F) (entry : NameBytes)
    (thread : ℕ) → NamesAlone setting.edge ((language l).thread setting fs entry thread)
thread_names_alone {F = F} {A = A} l setting fs entry thread ls bs b x r function share next e n m y z d g =
    let start = starts l (find l fs entry) thread in
    let h = plain_run l setting fs start (starts_closed l setting fs thread (find l fs entry) start) r in
    let no : ClosedAct l setting fs start (Crosses function share next) =
    subst (λ (v : Act (Thread F A)). ClosedAct l setting fs start v) e (act_closed l setting fs start x h.closed) in
    absurd no

-- what a thread refines keeps each of its runs
pub thread_each_kept : {F A S : Type 0} (l : Activations F A) (setting : Setting) (fs : List F) (entry : NameBytes)
    (thread : ℕ) (s : Machine S) → Refines setting.edge ((language l).thread setting fs entry thread) s →
    EachKept setting.edge ((language l).thread setting fs entry thread) s
thread_each_kept l setting fs entry thread s h = each_kept setting.edge ((language l).thread setting fs entry thread)
    s h (thread_names_alone l setting fs entry thread)
