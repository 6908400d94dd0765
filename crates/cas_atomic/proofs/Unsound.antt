-- Lock objects that aren't sound: an explicit run of two threads has no explanation, and no step over atomic locks is
-- Bad.
use Rattle.std.proofs.Common.{◌≡◌, ℕ, zero, suc, ◌<◌, ◌≤◌, true, List, [], ◌∷◌, Option, Some, None, slice_get, refl, ap, ◌∙◌, subst, inl, inr, arith}
use Rattle.cas_runs.specs.Label.{RunLabel, Share}
use Rattle.std.proofs.lemmas.Bool.Decides.{eqb_tells}
use Rattle.cas_base.specs.declared.kind.Kind.{Kind}
use Rattle.cas_runs.specs.Edge.{SharedWord}
use Rattle.cas_runs.specs.Machine as run
use Rattle.cas_runs.specs.Machine.{Act, Quiet, Emits, Locks, Stops, Ended, IsBad, Block}
use Rattle.cas_runs.specs.Access.{with_lock, without_lock, words_in}
use Rattle.cas_runs.specs.Legal.{ThreadLabel, Free, IsHeld}
use Rattle.cas_atomic.specs.Leftover.{Leftover}
use Rattle.cas_atomic.specs.Buffer.{Store, store}
use Rattle.cas_atomic.specs.Cells.{AreGuards}
use Rattle.cas_atomic.specs.Labels.{listed}
use Rattle.cas_atomic.specs.AnyRun.{StepsAny, AnyRun, any_starts, any_quiet, any_labelled}
use Rattle.cas_atomic.specs.Object.{LockObject, Instr, LockDec, JumpNotSign, CompareZero, JumpLessEqual, Jump, Return, StoreWord, AddOne}
use Rattle.cas_atomic.specs.Program.{Setup}
use Rattle.cas_atomic.specs.Atomic.{Standing, act, act_by, takes_if, gives_if, tells, thread}
use Rattle.cas_atomic.specs.Buffered.{Outside, Inside, Running, Thread, State, turn, Call, call, Executes, call_lock, call_unlock, inside, drain, Run, opens, and_then, opening}
use Rattle.cas_atomic.specs.Table.{Sight, LockStands, free, held, released, Releases, now, later}
use Rattle.cas_atomic.specs.Sound.{Unknown, Depth, IsBadAt, IsBadBefore}
use Rattle.cas_atomic.specs.Unsound.{Stage, Asks, Has, IsThrough, stage_event, one_lock, two_threads, enters_taken, never_waits, unlocks_by, adds_one, stores_zero, IsUnsound}

-- No step over atomic locks is Bad.

-- where the thread is after these labels, with this share
abbrev IsAt : List RunLabel → Stage → Share → Type 0
IsAt ls Asks share = (ls ≡ []) × (share ≡ [])
IsAt ls Has share = (ls ≡ [] → ⊥) × (words : List ℕ) × (share ≡ record { lock = 0; words = words } ∷ [])
IsAt ls IsThrough share = Unit {0}

module _ (o : LockObject) (u : ℕ → Leftover) where
  abbrev p : Setup Stage
  p = two_threads o

  abbrev of : Standing Stage → Act (Standing Stage)
  of x = act p u x

  asks : (x : Standing Stage) → x.at ≡ Asks → x.share ≡ [] →
      of x ≡ Locks 0 (λ words. tells x (with_lock x.share 0 words) Has)
  asks x at share =
      ap (λ (a : Stage). act_by one_lock.cells u x (stage_event a)) at
      ∙ ap (λ (s : Share). takes_if u x 0 (λ f. Has) true (words_in s 0)) share

  has : (x : Standing Stage) (words : List ℕ) → x.at ≡ Has → x.share ≡ record { lock = 0; words = words } ∷ [] →
      of x ≡ Emits (run.Unlocks 0 words) (tells x (without_lock x.share 0) IsThrough)
  has x words at share =
      ap (λ (a : Stage). act_by one_lock.cells u x (stage_event a)) at
      ∙ ap (λ (s : Share). gives_if u x 0 (λ f. IsThrough) true (words_in s 0)) share

  through : (x : Standing Stage) → x.at ≡ IsThrough → of x ≡ Stops Ended
  through x at = ap (λ (a : Stage). act_by one_lock.cells u x (stage_event a)) at

  -- a label leads on to the next stage
  labelled : (ls : List RunLabel) (x : Standing Stage) (s : Stage) → x.at ≡ s → IsAt ls s x.share → (l : RunLabel)
      (y : Standing Stage) → StepsAny one_lock ls (of x) l y → IsAt (l ∷ ls) y.at y.share
  labelled ls x Asks at h l y step =
      let z = subst (λ (a : Act (Standing Stage)). StepsAny one_lock ls a l y) (asks x at h.1) step in
      subst (λ (v : Standing Stage). IsAt (l ∷ ls) v.at v.share) z.3
      (λ e. absurd (cc e), z.0, ap (λ (v : Share). with_lock v 0 z.0) h.1)
  labelled ls x Has at h l y step =
      let z = subst (λ (a : Act (Standing Stage)). StepsAny one_lock ls a l y) (has x h.1 at h.2) step in
      subst (λ (v : Standing Stage). IsAt (l ∷ ls) v.at v.share) z.1 tt
  labelled ls x IsThrough at h l y step =
      absurd (subst (λ (a : Act (Standing Stage)). StepsAny one_lock ls a l y) (through x at) step)

  -- no step is quiet
  never_quiet : (ls : List RunLabel) (x y : Standing Stage) (s : Stage) → x.at ≡ s → IsAt ls s x.share →
      of x ≡ Quiet y → ⊥
  never_quiet ls x y Asks at h q = let z = asks x at h.1 in absurd (cc (z, q))
  never_quiet ls x y Has at h q = let z = has x h.1 at h.2 in absurd (cc (z, q))
  never_quiet ls x y IsThrough at h q = let z = through x at in absurd (cc (z, q))

  stands : (i : ℕ) (ls : List RunLabel) (bs : List Block) (b : Block) (x : Standing Stage) →
      AnyRun one_lock (thread p u i) ls bs b x → IsAt ls x.at x.share
  stands i _ _ _ _ any_starts = (refl, refl)
  stands i _ _ _ _ (any_quiet {ls = ls} {bs = bs} {b = b} {x = x} y r e) =
      absurd (never_quiet ls x y x.at refl (stands i ls bs b x r) e)
  stands i _ _ _ _ (any_labelled {ls = ls} {bs = bs} {b = b} {x = x} l y r e) =
      labelled ls x x.at refl (stands i ls bs b x r) l y e

  fine : (ls : List RunLabel) (x : Standing Stage) (s : Stage) → x.at ≡ s → IsAt ls s x.share → IsBad (of x) → ⊥
  fine ls x Asks at h b = subst (λ (a : Act (Standing Stage)). IsBad a) (asks x at h.1) b
  fine ls x Has at h b = subst (λ (a : Act (Standing Stage)). IsBad a) (has x h.1 at h.2) b
  fine ls x IsThrough at h b = subst (λ (a : Act (Standing Stage)). IsBad a) (through x at) b

module _ (o : LockObject) (most : Depth Stage) (u : Unknown) where
  abbrev two : Setup Stage
  two = two_threads o

  bad_at : (s : State Stage) (ls : List ThreadLabel) → IsBadAt two most u s ls → ⊥
  bad_at s ls b =
      let f = b.explains.follows b.thread in
      let x = f.to.at in
      fine o (u b.thread) _ x x.at refl (stands o (u b.thread) b.thread _ f.to.blocks f.to.block x f.run) b.bad

  never_bad : (s : State Stage) (ls : List ThreadLabel) (r : Run two s ls) → IsBadBefore most u r → ⊥
  never_bad _ _ opens b = bad_at (opening two) [] b
  never_bad _ _ (and_then {s = s} {ls = ls} i t o r below step may) b = elim b [
    | inl e ↦ never_bad s ls r e
    | inr n ↦ bad_at t (listed i o ls) n
  ]

-- Runs, a step at a time.

record Sofar (o : LockObject) : Type 0 where
  state : State Stage
  labels : List ThreadLabel
  run : Run (two_threads o) state labels

abbrev at_first : (o : LockObject) → Sofar o
at_first o = record { state = opening (two_threads o); labels = []; run = opens }

module _ {o : LockObject} (k : Sofar o) (i : ℕ) (below : i < 2) (live : (k.state.threads i).ended ≡ Running) where
  -- the thread in this state of the run
  abbrev it : Thread Stage
  it = k.state.threads i

  abbrev takes_call : it.at ≡ Outside Asks → Sofar o
  takes_call at = record {
    state = _;
    labels = k.labels;
    run = and_then i _ None k.run below (call_lock Asks 0 (λ f. Has) at refl) live;
  }

  abbrev gives_call : it.at ≡ Outside Has → Sofar o
  gives_call at = record {
    state = _;
    labels = k.labels;
    run = and_then i _ None k.run below (call_unlock Has 0 (λ f. IsThrough) at refl) live;
  }

  -- an instruction of the lock object
  abbrev executes : (c : Call Stage) (instr : Instr) (t : State Stage) (l : Option RunLabel) →
      it.at ≡ Inside c.place c.flags c.lock c.back → slice_get o.code c.place ≡ Some instr →
      Executes (turn (two_threads o) k.state i) c instr t l → Sofar o
  executes c instr t l at is x = record {
    state = t;
    labels = listed i l k.labels;
    run = and_then i t l k.run below (inside c.place c.flags c.lock c.back instr t l at is x) live;
  }

  abbrev drains : (w v : ℕ) (rest : List Store) → it.buffer ≡ store w v ∷ rest → Sofar o
  drains w v rest h = record {
    state = _;
    labels = k.labels;
    run = and_then i _ None k.run below (drain w v rest h) tt;
  }

first : 0 < 2
first = omega arith

second : 1 < 2
second = omega arith

abbrev to_has : Leftover → Stage
to_has f = Has

abbrev to_end : Leftover → Stage
to_end f = IsThrough

-- every guard of these words is a lock
no_guards : AreGuards one_lock.cells
no_guards = record { each = λ w kind g v e. absurd (not_shared w kind g v e) }
  where
    not_shared : (w : ℕ) (kind : Kind) (g v : ℕ) → slice_get one_lock.cells w ≡ Some (SharedWord kind (Some g) v) → ⊥
    not_shared zero kind g v e = absurd (cc e)
    not_shared (suc w) kind g v e = absurd (cc e)

few : 2 ≤ 2147483648
few = omega arith

-- A lock that is taken is entered.

module _ where
  abbrev a1 : Sofar enters_taken
  a1 = takes_call (at_first enters_taken) 0 first refl refl

  abbrev a2 : Sofar enters_taken
  a2 = executes a1 0 first refl (call 0 _ 0 to_has) LockDec _ _ refl refl (refl, refl, refl)

  abbrev a3 : Sofar enters_taken
  a3 = executes a2 0 first refl (call 1 _ 0 to_has) (JumpNotSign 5) _ _ refl refl (refl, refl)

  abbrev a4 : Sofar enters_taken
  a4 = executes a3 0 first refl (call 5 _ 0 to_has) Return _ _ refl refl (refl, refl)

  abbrev a5 : Sofar enters_taken
  a5 = takes_call a4 1 second refl refl

  abbrev a6 : Sofar enters_taken
  a6 = executes a5 1 second refl (call 0 _ 0 to_has) LockDec _ _ refl refl (refl, refl, refl)

  abbrev a7 : Sofar enters_taken
  a7 = executes a6 1 second refl (call 1 _ 0 to_has) (JumpNotSign 5) _ _ refl refl (refl, refl)

  abbrev a8 : Sofar enters_taken
  a8 = executes a7 1 second refl (call 2 _ 0 to_has) CompareZero _ _ refl refl (refl, refl)

  abbrev a9 : Sofar enters_taken
  a9 = executes a8 1 second refl (call 3 _ 0 to_has) (JumpLessEqual 5) _ _ refl refl (refl, refl)

  abbrev a10 : Sofar enters_taken
  a10 = executes a9 1 second refl (call 5 _ 0 to_has) Return _ _ refl refl (refl, refl)

pub enters_taken_is_unsound : IsUnsound enters_taken
enters_taken_is_unsound sound =
    let h = sound no_guards few a10.state a10.labels a10.run in
    elim h.1 [
      | inl e ↦
          let f = e.follows 1 in
          let is : f.to.at.at ≡ Has = f.stands.0 in
          let at = stands enters_taken (h.0 1) 1 [] f.to.blocks f.to.block f.to.at f.run in
          (subst (λ (s : Stage). IsAt [] s f.to.at.share) is at).0 refl
      | inr b ↦ never_bad enters_taken (λ l t. 2) h.0 a10.state a10.labels a10.run b
    ]

-- The word falls without end.

module _ where
  abbrev b1 : Sofar never_waits
  b1 = takes_call (at_first never_waits) 0 first refl refl

  abbrev b2 : Sofar never_waits
  b2 = executes b1 0 first refl (call 0 _ 0 to_has) LockDec _ _ refl refl (refl, refl, refl)

  abbrev b3 : Sofar never_waits
  b3 = executes b2 0 first refl (call 1 _ 0 to_has) (JumpNotSign 3) _ _ refl refl (refl, refl)

  abbrev b4 : Sofar never_waits
  b4 = executes b3 0 first refl (call 3 _ 0 to_has) Return _ _ refl refl (refl, refl)

  abbrev b5 : Sofar never_waits
  b5 = takes_call b4 1 second refl refl

  -- the second thread finds it taken, three times
  abbrev b6 : Sofar never_waits
  b6 = executes b5 1 second refl (call 0 _ 0 to_has) LockDec _ _ refl refl (refl, refl, refl)

  abbrev b7 : Sofar never_waits
  b7 = executes b6 1 second refl (call 1 _ 0 to_has) (JumpNotSign 3) _ _ refl refl (refl, refl)

  abbrev b8 : Sofar never_waits
  b8 = executes b7 1 second refl (call 2 _ 0 to_has) (Jump 0) _ _ refl refl (refl, refl)

  abbrev b9 : Sofar never_waits
  b9 = executes b8 1 second refl (call 0 _ 0 to_has) LockDec _ _ refl refl (refl, refl, refl)

  abbrev b10 : Sofar never_waits
  b10 = executes b9 1 second refl (call 1 _ 0 to_has) (JumpNotSign 3) _ _ refl refl (refl, refl)

  abbrev b11 : Sofar never_waits
  b11 = executes b10 1 second refl (call 2 _ 0 to_has) (Jump 0) _ _ refl refl (refl, refl)

  abbrev b12 : Sofar never_waits
  b12 = executes b11 1 second refl (call 0 _ 0 to_has) LockDec _ _ refl refl (refl, refl, refl)

too_deep : (v : Sight) → v.most ≡ 2 → v.memory 0 ≡ 4294967293 → v.labelled ≡ IsHeld →
    LockStands one_lock.cells 0 v → ⊥
too_deep v most word lab (free one clear shares l) = absurd (omega arith)
too_deep v most word lab (held i minus new clear share shares l) =
    let m = minus.at_most in let is = minus.is in absurd (omega arith)
too_deep v most word lab (released i minus release clear shares l) = absurd (cc (lab, l))

pub never_waits_is_unsound : IsUnsound never_waits
never_waits_is_unsound sound =
    let h = sound no_guards few b12.state b12.labels b12.run in
    elim h.1 [
      | inl e ↦ too_deep _ refl refl refl (e.locks 0 (record { is = refl }))
      | inr b ↦ never_bad never_waits (λ l t. 2) h.0 b12.state b12.labels b12.run b
    ]

-- A lock that was given back isn't free.

module _ (o : Instr) where
  abbrev c1 : Sofar (unlocks_by o)
  c1 = takes_call (at_first (unlocks_by o)) 0 first refl refl

  abbrev c2 : Sofar (unlocks_by o)
  c2 = executes c1 0 first refl (call 0 _ 0 to_has) LockDec _ _ refl refl (refl, refl, refl)

  abbrev c3 : Sofar (unlocks_by o)
  c3 = executes c2 0 first refl (call 1 _ 0 to_has) (JumpNotSign 5) _ _ refl refl (refl, refl)

  abbrev c4 : Sofar (unlocks_by o)
  c4 = executes c3 0 first refl (call 5 _ 0 to_has) Return _ _ refl refl (refl, refl)

  -- the second thread finds it taken
  abbrev c5 : Sofar (unlocks_by o)
  c5 = takes_call c4 1 second refl refl

  abbrev c6 : Sofar (unlocks_by o)
  c6 = executes c5 1 second refl (call 0 _ 0 to_has) LockDec _ _ refl refl (refl, refl, refl)

  abbrev c7 : Sofar (unlocks_by o)
  c7 = gives_call c6 0 first refl refl

abbrev adds : Sofar adds_one
adds = executes (c7 AddOne) 0 first refl (call 6 _ 0 to_end) AddOne _ _ refl refl (refl, refl)

abbrev added : Sofar adds_one
added = drains adds 0 first refl 0 0 [] refl

abbrev stores : Sofar stores_zero
stores = executes (c7 (StoreWord 0)) 0 first refl (call 6 _ 0 to_end) (StoreWord 0) _ _ refl refl (refl, refl)

abbrev zeroed : Sofar stores_zero
zeroed = drains stores 0 first refl 0 0 [] refl

none_released : (b : List Store) → b ≡ [] → Releases one_lock.cells 0 b → ⊥
none_released _ q (now rest clear) = absurd (cc q)
none_released _ q (later w v rest d r) = absurd (cc q)

lost : (v : Sight) → v.memory 0 ≡ 0 → ((i : ℕ) → v.buffers i ≡ []) → v.labelled ≡ Free [] →
    LockStands one_lock.cells 0 v → ⊥
lost v word empty lab (free one clear shares l) = absurd (omega arith)
lost v word empty lab (held i minus new clear share shares l) = absurd (cc (lab, l))
lost v word empty lab (released i minus release clear shares l) = none_released (v.buffers i) (empty i) release

pub adds_one_is_unsound : IsUnsound adds_one
adds_one_is_unsound sound =
    let h = sound no_guards few added.state added.labels added.run in
    elim h.1 [
      | inl e ↦ lost _ refl all_empty refl (e.locks 0 (record { is = refl }))
      | inr b ↦ never_bad adds_one (λ l t. 2) h.0 added.state added.labels added.run b
    ]
  where
    all_empty : (i : ℕ) → (added.state.threads i).buffer ≡ []
    all_empty i = elim (eqb_tells i 0) [
      | inl first ↦ rw first.0
      | inr other ↦ elim (eqb_tells i 1) [ inl second ↦ rw (other.0, second.0) | inr none ↦ rw (other.0, none.0) ]
    ]

pub stores_zero_is_unsound : IsUnsound stores_zero
stores_zero_is_unsound sound =
    let h = sound no_guards few zeroed.state zeroed.labels zeroed.run in
    elim h.1 [
      | inl e ↦ lost _ refl all_empty refl (e.locks 0 (record { is = refl }))
      | inr b ↦ never_bad stores_zero (λ l t. 2) h.0 zeroed.state zeroed.labels zeroed.run b
    ]
  where
    all_empty : (i : ℕ) → (zeroed.state.threads i).buffer ≡ []
    all_empty i = elim (eqb_tells i 0) [
      | inl first ↦ rw first.0
      | inr other ↦ elim (eqb_tells i 1) [ inl second ↦ rw (other.0, second.0) | inr none ↦ rw (other.0, none.0) ]
    ]
