-- One thread alone executes few instructions in the lock object, or waits for a lock that it holds.
use Rattle.std.proofs.Common.{◌≡◌, ℕ, zero, suc, ◌+◌, ◌*◌, ◌≤◌, ◌<◌, Bool, true, false, List, [], ◌∷◌, ◌++◌, length, Option, Some, None, slice_get, if◌then◌else◌, sym, refl, ap, ◌∙◌, subst, inl, inr, ◌⊎◌, arith}
use Rattle.cas_runs.specs.Label.{RunLabel, Lock}
use Rattle.cas_runs.specs.Machine.{Quiet, Emits, Locks, Stops, Taken, IsBad}
use Rattle.cas_runs.specs.Legal.{ThreadLabel, projection, state_of}
use Rattle.cas_atomic.specs.Leftover.{Leftover, IsMinus, one_less, after_decrement, after_compare, less_or_equal}
use Rattle.cas_atomic.specs.Buffer.{Store, store, view, put}
use Rattle.cas_atomic.specs.Cells.{IsLock, AreGuards, under, values}
use Rattle.cas_atomic.specs.Labels.{by_thread, listed}
use Rattle.cas_atomic.specs.Object.{accepted, LockObject, Instr, LockDec, JumpNotSign, CompareZero, JumpLessEqual, Jump, Return, StoreWord, AddOne}
use Rattle.cas_atomic.specs.Program.{Setup, CallLock}
use Rattle.cas_atomic.specs.Atomic.{is_lock}
use Rattle.cas_atomic.specs.Buffered.{Point, Outside, Inside, Thread, thread, State, Running, moved, moved_in, within, out_of, turn, call, if_zero, Executes, Step, MayStep, plain, load, put_off, decrement, call_lock, call_unlock, prints, done, inside, stops, drain, Run, opens, and_then}
use Rattle.cas_atomic.specs.Table.{refusals, Releases}
use Rattle.cas_atomic.specs.Sound.{Unknown, one_inside, inside_of, IsBadBefore, IsExplained, AcceptedIsSound, refused_threads, Waits}
use Rattle.cas_atomic.proofs.Inner as inner
use Rattle.cas_atomic.proofs.Inner.{Atomic, AtomicRun, begins, quiet, says, locks}
use Rattle.cas_atomic.proofs.Places.{LockIs, is_free, is_held, is_released, Stands, StandsAt, AfterSign, AsksEmpty, beside}
use Rattle.cas_atomic.proofs.Explaining.{Explains, Fits}
use Rattle.cas_atomic.proofs.Basic.{same_or_not, put_here, put_else, if_not}
use Rattle.cas_atomic.proofs.Own.{IsFreeNow, free_or_not, minus_signed}
use Rattle.cas_atomic.proofs.Counts.{sign_of, minus_le, refusals_most}
use Rattle.cas_atomic.proofs.Moving.{projection_own}
use Rattle.cas_atomic.proofs.Acts.{may_lock}
use Rattle.cas_atomic.proofs.Sharing.{AlikeActs, acts_alike, halts, quiets, takes, bads}
use Rattle.cas_atomic.proofs.Sharing as sharing
use Rattle.cas_atomic.proofs.Showing.{counted_by, shown, run_of}
use Rattle.cas_atomic.proofs.Unknowns.{unknown_of}
use Rattle.cas_atomic.proofs.Main.{IsFine, runs_explained}

-- the lock isn't free
abbrev Refused : (ℕ → ℕ) → ℕ → Type 0
Refused m l = m l ≡ 1 → ⊥

abbrev AfterDecrement : (ℕ → ℕ) → (n labels lock : ℕ) → (sign : Bool) → Type 0
AfterDecrement m n k l true = Refused m l
AfterDecrement m n k l false = n + 2 ≤ 3 * k

-- so many instructions in the lock object, by so many labels, at each of its places
abbrev PacedAt : (ℕ → ℕ) → (n labels : ℕ) → Leftover → (lock place : ℕ) → Type 0
PacedAt m n k f l zero = n ≤ 3 * k
PacedAt m n k f l (suc zero) = AfterDecrement m n k l f.flags.sign
PacedAt m n k f l (suc (suc zero)) = Refused m l
PacedAt m n k f l (suc (suc (suc zero))) = Refused m l × (less_or_equal f ≡ true)
PacedAt m n k f l (suc (suc (suc (suc zero)))) = ⊥
PacedAt m n k f l (suc (suc (suc (suc (suc zero))))) = n + 1 ≤ 3 * k
PacedAt m n k f l (suc (suc (suc (suc (suc (suc zero)))))) = n ≤ 3 * k
PacedAt m n k f l (suc (suc (suc (suc (suc (suc (suc zero))))))) = n + 1 ≤ 3 * k
PacedAt m n k f l _ = ⊥

abbrev pub Paced : {X : Type 0} → (ℕ → ℕ) → (n labels : ℕ) → Point X → Type 0
Paced m n k (Outside x) = n ≤ 3 * k
Paced m n k (Inside place f l b) = PacedAt m n k f l place

module _ {X : Type 0} (p : Setup X) (guards : AreGuards p.edge.cells) (few : p.threads ≤ 2147483648)
    (is : p.object ≡ accepted) (u : Unknown) (s : State X) (ls : List ThreadLabel) (e : Explains p u s ls) (i : ℕ)
    (fine : IsBad (inner.act p (u i) (e.asm i)) → ⊥) (one : p.threads ≡ 1) where
  abbrev c : Thread X
  c = s.threads i

  k_of : List ThreadLabel → ℕ
  k_of ms = length (projection i ms)

  grown : (l : RunLabel) → k_of (by_thread i l ∷ ls) ≡ suc (k_of ls)
  unfolding k_of
  grown l = ap (λ (ms : List RunLabel). length ms) (projection_own i l ls)

  After : State X → Option RunLabel → ℕ → Type 0
  After t o n = Paced t.memory n (k_of (listed i o ls)) (t.threads i).at

  -- it is enough to look at the thread
  after_is : (d : Thread X) (m : ℕ → ℕ) (o : Option RunLabel) (out : List (ℕ × ℕ)) (n : ℕ) →
      Paced m n (k_of (listed i o ls)) d.at →
      After (record { memory = m; output = out; threads = put i d s.threads }) o n
  unfolding After
  after_is d m o out n h =
      subst (λ (y : Thread X). Paced m n (k_of (listed i o ls)) y.at) (sym (put_here i d s.threads i refl)) h

  free_now : (l : ℕ) → IsLock p.edge.cells l → IsFreeNow p.edge.cells l p.threads (λ j. (s.threads j).buffer) s.memory
      (refusals p.threads l s.threads) (λ j. (e.asm j).holds l) (λ j. (e.asm j).words) (state_of p.edge.cells l ls)
      ⊎ IsMinus (refusals p.threads l s.threads) (s.memory l)
  free_now l lk = free_or_not p.edge.cells l p.threads (λ j. (s.threads j).buffer) s.memory
      (refusals p.threads l s.threads) (λ j. (e.asm j).holds l) (λ j. (e.asm j).words) (state_of p.edge.cells l ls)
      (e.locks l lk)

  -- a lock that isn't free has a word below 1
  not_free : (l : ℕ) → IsLock p.edge.cells l → Refused s.memory l → (f : Leftover) →
      less_or_equal (after_compare f (s.memory l)) ≡ true
  not_free l lk taken f = elim (free_now l lk) [
    | inl free ↦ absurd (taken free.one)
    | inr minus ↦
        let m = refusals_most p.threads l s.threads in
        minus_le f (refusals p.threads l s.threads) (s.memory l) (omega arith) minus
  ]

  -- a locked decrement: the lock is free, or the thread is refused
  decremented : (n : ℕ) (f : Leftover) (l : ℕ) (b : Leftover → X) (v : ℕ) → v ≡ one_less (s.memory l) →
      IsLock p.edge.cells l → n ≤ 3 * k_of ls →
      After (moved_in s (put l v s.memory) i (within c 1 (after_decrement f v) l b))
      (if_zero v (Lock l (values s.memory (under p.edge.cells 0 l)))) (n + 1)
  unfolding After
  decremented n f l b v is lk few_ = elim (free_now l lk) [
    | inl free ↦
        let zero_is : v ≡ 0 = is ∙ ap one_less free.one in
        subst (λ (z : ℕ). After (moved_in s (put l z s.memory) i (within c 1 (after_decrement f z) l b))
        (if_zero z taken) (n + 1)) (sym zero_is)
        (after_is (within c 1 (after_decrement f 0) l b) (put l 0 s.memory) (Some taken) s.output (n + 1)
        (let g = grown taken in omega arith))
    | inr minus ↦
        let m = refusals_most p.threads l s.threads in
        let up : 2147483648 ≤ v = subst (λ (z : ℕ). 2147483648 ≤ z) (sym is)
        (minus_signed (refusals p.threads l s.threads) (s.memory l) (omega arith) minus) in
        let none : if_zero v taken ≡ None = if_not v 0 (Some taken) None (λ z. omega arith) in
        subst (λ (o : Option RunLabel). After (moved_in s (put l v s.memory) i (within c 1 (after_decrement f v) l b))
        o (n + 1)) (sym none)
        (after_is (within c 1 (after_decrement f v) l b) (put l v s.memory) None s.output (n + 1)
        (subst (λ (t : Bool). AfterDecrement (put l v s.memory) (n + 1) (k_of ls) l t) (sym (sign_of f v up))
        (λ z. let here = put_here l v s.memory l refl in omega arith)))
  ]
    where
      taken : RunLabel
      taken = Lock l (values s.memory (under p.edge.cells 0 l))

  instr_is : (j k : Instr) → Some j ≡ Some k → k ≡ j
  instr_is j k q = let same : j ≡ k = cc q in sym same

  asks_lock : (l : ℕ) (b : Leftover → X) → p.next (e.asm i).at ≡ CallLock l b → IsLock p.edge.cells l
  asks_lock l b next = (may_lock p (u i) (e.asm i) l b next fine).0

  moves_to : (t t' : State X) (o o' : Option RunLabel) (n : ℕ) → t ≡ t' → o ≡ o' → After t' o' n → After t o n
  moves_to t t' o o' n q q' h =
      subst (λ (z : State X). After z o n) (sym q) (subst (λ (y : Option RunLabel). After t' y n) (sym q') h)

  -- an instruction of the lock object
  executes : (n place : ℕ) (f : Leftover) (l : ℕ) (b : Leftover → X) (instr : Instr) (t : State X)
      (o : Option RunLabel) → StandsAt (beside p (e.asm i) c.buffer c.executed) f l b place →
      PacedAt s.memory n (k_of ls) f l place → slice_get accepted.code place ≡ Some instr →
      Executes (turn p s i) (call place f l b) instr t o → After t o (n + 1)
  executes n zero f l b instr t o st pace q x =
      let y = subst (λ (j : Instr). Executes (turn p s i) (call 0 f l b) j t o) (instr_is LockDec instr q) x in
      moves_to t _ o _ (n + 1) y.1 y.2
      (decremented n f l b (one_less (s.memory l)) refl (asks_lock l b st.next) pace)
  executes n (suc zero) f l b instr t o st pace q x =
      let y = subst (λ (j : Instr). Executes (turn p s i) (call 1 f l b) j t o) (instr_is (JumpNotSign 5) instr q) x in
      moves_to t _ o _ (n + 1) y.0 y.1 (signed f.flags.sign pace)
    where
      signed : (sign : Bool) → AfterDecrement s.memory n (k_of ls) l sign →
          After (moved s i (within c (if sign then 2 else 5) f l b)) None (n + 1)
      signed true h = after_is (within c 2 f l b) s.memory None s.output (n + 1) h
      signed false h = after_is (within c 5 f l b) s.memory None s.output (n + 1) (omega arith)
  executes n (suc (suc zero)) f l b instr t o st pace q x =
      let y = subst (λ (j : Instr). Executes (turn p s i) (call 2 f l b) j t o) (instr_is CompareZero instr q) x in
      let word : view c.buffer s.memory l ≡ s.memory l =
      ap (λ (z : List Store). view z s.memory l) st.empty in
      let g = after_compare f (view c.buffer s.memory l) in
      let le : less_or_equal g ≡ true = ap (λ (w : ℕ). less_or_equal (after_compare f w)) word
      ∙ not_free l (asks_lock l b st.asks.next) pace f in
      moves_to t _ o _ (n + 1) y.0 y.1 (after_is (within c 3 g l b) s.memory None s.output (n + 1) (pace, le))
  executes n (suc (suc (suc zero))) f l b instr t o st pace q x =
      let y = subst (λ (j : Instr). Executes (turn p s i) (call 3 f l b) j t o) (instr_is (JumpLessEqual 2) instr q)
      x in
      moves_to t _ o _ (n + 1) y.0 y.1
      (subst (λ (le : Bool). After (moved s i (within c (if le then 2 else 4) f l b)) None (n + 1)) (sym pace.1)
      (after_is (within c 2 f l b) s.memory None s.output (n + 1) pace.0))
  executes n (suc (suc (suc (suc zero)))) f l b instr t o st pace q x = absurd pace
  executes n (suc (suc (suc (suc (suc zero))))) f l b instr t o st pace q x =
      let y = subst (λ (j : Instr). Executes (turn p s i) (call 5 f l b) j t o) (instr_is Return instr q) x in
      moves_to t _ o _ (n + 1) y.0 y.1
      (after_is (thread (Outside (b f)) c.buffer c.ended c.executed) s.memory None s.output (n + 1) pace)
  executes n (suc (suc (suc (suc (suc (suc zero)))))) f l b instr t o st pace q x =
      let y = subst (λ (j : Instr). Executes (turn p s i) (call 6 f l b) j t o) (instr_is (StoreWord 1) instr q) x in
      let given = Rattle.cas_runs.specs.Label.Unlock l (values (view c.buffer s.memory) (under p.edge.cells 0 l)) in
      let d : Thread X = thread (Inside 7 f l b) (c.buffer ++ store l 1 ∷ []) c.ended c.executed in
      moves_to t _ o _ (n + 1) y.0 y.1
      (after_is d s.memory (Some given) s.output (n + 1) (let g = grown given in let z = pace in omega arith))
  executes n (suc (suc (suc (suc (suc (suc (suc zero))))))) f l b instr t o st pace q x =
      let y = subst (λ (j : Instr). Executes (turn p s i) (call 7 f l b) j t o) (instr_is Return instr q) x in
      moves_to t _ o _ (n + 1) y.0 y.1
      (after_is (thread (Outside (b f)) c.buffer c.ended c.executed) s.memory None s.output (n + 1) pace)
  executes n (suc (suc (suc (suc (suc (suc (suc (suc m)))))))) f l b instr t o st pace q x = absurd st

  -- outside, where a label may come
  goes : (n : ℕ) (x : X) (y : X) (d : Thread X) (m : ℕ → ℕ) (o : Option RunLabel) (out : List (ℕ × ℕ)) →
      c.at ≡ Outside x → d.at ≡ Outside y → Paced s.memory n (k_of ls) c.at →
      After (record { memory = m; output = out; threads = put i d s.threads }) o (n + 0)
  goes n x y d m o out h h' pace =
      after_is d m o out (n + 0) (subst (λ (w : Point X). Paced m (n + 0) (k_of (listed i o ls)) w) (sym h')
      (more o (subst (λ (w : Point X). Paced s.memory n (k_of ls) w) h pace)))
    where
      more : (o : Option RunLabel) → n ≤ 3 * k_of ls → n + 0 ≤ 3 * k_of (listed i o ls)
      more None less = omega arith
      more (Some l) less = let g = grown l in omega arith

  -- a call of the lock object
  calls : (n : ℕ) (x : X) (d : Thread X) (f : Leftover) (l : ℕ) (b : Leftover → X) (place : ℕ) → c.at ≡ Outside x →
      d.at ≡ Inside place f l b → (n + 0 ≤ 3 * k_of ls → PacedAt s.memory (n + 0) (k_of ls) f l place) →
      Paced s.memory n (k_of ls) c.at → After (moved s i d) None (n + 0)
  calls n x d f l b place h h' at_place pace =
      after_is d s.memory None s.output (n + 0) (subst (λ (w : Point X). Paced s.memory (n + 0) (k_of ls) w) (sym h')
      (at_place (let z = subst (λ (w : Point X). Paced s.memory n (k_of ls) w) h pace in omega arith)))

  -- a drain: where the thread is refused its buffer is empty
  drained : (n w v : ℕ) (rest : List Store) → c.buffer ≡ store w v ∷ rest → (at : Point X) →
      Stands p (e.asm i) c.buffer c.executed at → Paced s.memory n (k_of ls) at →
      Paced (put w v s.memory) (n + 0) (k_of ls) at
  drained n w v rest h (Outside x) st pace = let z = pace in omega arith
  drained n w v rest h (Inside place f l b) st pace = by place st pace
    where
      not_empty : AsksEmpty p (e.asm i) c.buffer c.executed l b → ⊥
      not_empty a = let z = a.empty in absurd (cc (h, z))

      signed : (sign : Bool) → AfterSign (beside p (e.asm i) c.buffer c.executed) f l b sign →
          AfterDecrement s.memory n (k_of ls) l sign → AfterDecrement (put w v s.memory) (n + 0) (k_of ls) l sign
      signed true a z = absurd (not_empty a)
      signed false a z = omega arith

      by : (place : ℕ) → StandsAt (beside p (e.asm i) c.buffer c.executed) f l b place →
          PacedAt s.memory n (k_of ls) f l place → PacedAt (put w v s.memory) (n + 0) (k_of ls) f l place
      by zero a z = omega arith
      by (suc zero) a z = signed f.flags.sign a z
      by (suc (suc zero)) a z = absurd (not_empty a)
      by (suc (suc (suc zero))) a z = absurd (not_empty a)
      by (suc (suc (suc (suc zero)))) a z = absurd z
      by (suc (suc (suc (suc (suc zero))))) a z = omega arith
      by (suc (suc (suc (suc (suc (suc zero)))))) a z = omega arith
      by (suc (suc (suc (suc (suc (suc (suc zero))))))) a z = omega arith
      by (suc (suc (suc (suc (suc (suc (suc (suc m)))))))) a z = absurd a

  pub paced_step : (n : ℕ) → Paced s.memory n (length (projection i ls)) (s.threads i).at → (t : State X)
      (o : Option RunLabel) (step : Step p s i t o) →
      Paced t.memory (n + one_inside step) (length (projection i (listed i o ls))) (t.threads i).at
  unfolding After k_of
  paced_step n pace _ _ (plain x y h q) = goes n x y (out_of c y) s.memory None s.output h refl pace
  paced_step n pace _ _ (load x w k y h q g) = goes n x y (out_of c y) s.memory None s.output h refl pace
  paced_step n pace _ _ (put_off x w v y h q) =
      goes n x y (thread (Outside y) (c.buffer ++ store w v ∷ []) c.ended (suc c.executed)) s.memory None s.output h
      refl pace
  paced_step n pace _ _ (decrement x w k h q empty) =
      goes n x (k (s.memory w)) (out_of c (k (s.memory w))) (put w (one_less (s.memory w)) s.memory) None s.output h
      refl pace
  paced_step n pace _ _ (call_lock x l k h q) =
      calls n x (thread (Inside p.object.lock (p.flags x) l k) c.buffer c.ended (suc c.executed)) (p.flags x) l k 0 h
      (ap (λ (z : LockObject). Inside z.lock (p.flags x) l k) is) (λ z. z) pace
  paced_step n pace _ _ (call_unlock x l k h q) =
      calls n x (thread (Inside p.object.unlock (p.flags x) l k) c.buffer c.ended (suc c.executed)) (p.flags x) l k 6 h
      (ap (λ (z : LockObject). Inside z.unlock (p.flags x) l k) is) (λ z. z) pace
  paced_step n pace _ _ (prints x v y h q) =
      goes n x y (out_of c y) s.memory (Some (Rattle.cas_runs.specs.Label.Out v)) ((i, v) ∷ s.output) h refl pace
  paced_step n pace _ _ (done x y h q) =
      goes n x y (thread (Outside y) c.buffer Rattle.cas_atomic.specs.Buffered.IsDone (suc c.executed)) s.memory
      (Some Rattle.cas_runs.specs.Label.Done) s.output h refl pace
  paced_step n pace _ _ (inside place f l b instr t o h q x) =
      executes n place f l b instr t o
      (subst (λ (w : Point X). Stands p (e.asm i) c.buffer c.executed w) h (e.stands i))
      (subst (λ (w : Point X). Paced s.memory n (k_of ls) w) h pace)
      (subst (λ (z : LockObject). slice_get z.code place ≡ Some instr) is q) x
  paced_step n pace _ _ (stops why m) =
      after_is (thread c.at c.buffer why c.executed) s.memory None s.output (n + 0)
      (subst (λ (z : ℕ). Paced s.memory z (k_of ls) c.at) (omega arith) pace)
  paced_step n pace _ _ (drain w v rest h) =
      after_is (thread c.at rest c.ended c.executed) (put w v s.memory) None s.output (n + 0)
      (drained n w v rest h c.at (e.stands i) pace)

module _ {X : Type 0} (p : Setup X) (guards : AreGuards p.edge.cells) (few : p.threads ≤ 2147483648)
    (is : p.object ≡ accepted) (one : p.threads ≡ 1) where
  -- a thread of a number without an entry never acts
  abbrev idle_at : ℕ → Thread X
  idle_at j = thread (Outside (p.first j)) [] Running 0

  other : (j i : ℕ) → (j ≡ 0 → ⊥) → i < p.threads → j ≡ i → ⊥
  other j i d below e = d (omega arith)

  kept : (s : State X) (j i : ℕ) (d : Thread X) → (j ≡ i → ⊥) → s.threads j ≡ idle_at j →
      put i d s.threads j ≡ idle_at j
  kept s j i d n h = put_else i d s.threads j n ∙ h

  executes_idle : (s : State X) (i j : ℕ) (c : Rattle.cas_atomic.specs.Buffered.Call X) (instr : Instr) (t : State X)
      (o : Option RunLabel) → (j ≡ i → ⊥) → s.threads j ≡ idle_at j → Executes (turn p s i) c instr t o →
      t.threads j ≡ idle_at j
  executes_idle s i j c LockDec t o n h x = subst (λ (z : State X). z.threads j ≡ idle_at j) (sym x.1)
      (kept s j i _ n h)
  executes_idle s i j c (JumpNotSign to) t o n h x =
      subst (λ (z : State X). z.threads j ≡ idle_at j) (sym x.0) (kept s j i _ n h)
  executes_idle s i j c CompareZero t o n h x =
      subst (λ (z : State X). z.threads j ≡ idle_at j) (sym x.0) (kept s j i _ n h)
  executes_idle s i j c (JumpLessEqual to) t o n h x =
      subst (λ (z : State X). z.threads j ≡ idle_at j) (sym x.0) (kept s j i _ n h)
  executes_idle s i j c (Jump to) t o n h x =
      subst (λ (z : State X). z.threads j ≡ idle_at j) (sym x.0) (kept s j i _ n h)
  executes_idle s i j c Return t o n h x =
      subst (λ (z : State X). z.threads j ≡ idle_at j) (sym x.0) (kept s j i _ n h)
  executes_idle s i j c (StoreWord v) t o n h x =
      subst (λ (z : State X). z.threads j ≡ idle_at j) (sym x.0) (kept s j i _ n h)
  executes_idle s i j c AddOne t o n h x =
      subst (λ (z : State X). z.threads j ≡ idle_at j) (sym x.0) (kept s j i _ n h)

  step_idle : (s : State X) (i j : ℕ) (t : State X) (o : Option RunLabel) → (j ≡ i → ⊥) → s.threads j ≡ idle_at j →
      Step p s i t o → t.threads j ≡ idle_at j
  step_idle s i j _ _ n h (plain x y e q) = kept s j i _ n h
  step_idle s i j _ _ n h (load x w k y e q g) = kept s j i _ n h
  step_idle s i j _ _ n h (put_off x w v y e q) = kept s j i _ n h
  step_idle s i j _ _ n h (decrement x w k e q empty) = kept s j i _ n h
  step_idle s i j _ _ n h (call_lock x l k e q) = kept s j i _ n h
  step_idle s i j _ _ n h (call_unlock x l k e q) = kept s j i _ n h
  step_idle s i j _ _ n h (prints x v y e q) = kept s j i _ n h
  step_idle s i j _ _ n h (done x y e q) = kept s j i _ n h
  step_idle s i j _ _ n h (inside place f l k instr t o e q x) =
      executes_idle s i j (call place f l k) instr t o n h x
  step_idle s i j _ _ n h (stops why m) = kept s j i _ n h
  step_idle s i j _ _ n h (drain w v rest e) = kept s j i _ n h

  pub idle : (s : State X) (ls : List ThreadLabel) (r : Run p s ls) (j : ℕ) → (j ≡ 0 → ⊥) → s.threads j ≡ idle_at j
  idle _ _ opens j d = refl
  idle _ _ (and_then {s = s} {ls = ls} i t o r below step may) j d =
      step_idle s i j t o (other j i d below) (idle s ls r j d) step

  -- and holds no lock
  nothing : (u : ℕ → Leftover) (i : ℕ) (ls : List RunLabel) (a : Atomic X) → AtomicRun p u i ls a → a.steps ≡ 0 →
      (l : ℕ) → a.holds l ≡ false
  nothing u i _ _ begins h l = refl
  nothing u i _ _ (quiet {a = a} b r e) h l = let m = counted_by p u a (Quiet b) e in absurd (omega arith)
  nothing u i _ _ (says {a = a} v b r e) h l = let m = counted_by p u a (Emits v b) e in absurd (omega arith)
  nothing u i _ _ (locks {a = a} k f ws r e n) h l = let m = counted_by p u a (Locks k f) e ws in absurd (omega arith)

  module _ (u : Unknown) where
    -- so many instructions in the lock object, at each state of a run
    paced : (s : State X) (ls : List ThreadLabel) (r : Run p s ls) → Fits u r →
        Paced s.memory (inside_of r 0) (length (projection 0 ls)) (s.threads 0).at
        ⊎ IsBadBefore (refused_threads p) u r
    paced _ _ opens fit = inl (omega arith)
    paced _ _ (and_then {s = s} {ls = ls} i t o r below step may) fit =
        elim (runs_explained p guards few is u s ls r fit.0) [
          | inl f ↦ elim (paced s ls r fit.0) [
            | inl h ↦
                let first : i ≡ 0 = omega arith in
                let before : Paced s.memory (inside_of r i) (length (projection i ls)) (s.threads i).at =
                subst (λ (j : ℕ). Paced s.memory (inside_of r j) (length (projection j ls)) (s.threads j).at)
                (sym first) h in
                let after = paced_step p guards few is u s ls f.explains i (f.fine i below) one (inside_of r i) before
                t o step in
                inl (subst (λ (j : ℕ). Paced t.memory (put i (inside_of r i + one_inside step) (inside_of r) j)
                (length (projection j (listed i o ls))) (t.threads j).at) first
                (subst (λ (n : ℕ). Paced t.memory n (length (projection i (listed i o ls))) (t.threads i).at)
                (sym (put_here i (inside_of r i + one_inside step) (inside_of r) i refl)) after))
            | inr b ↦ inr (inl b)
          ]
          | inr b ↦ inr (inl b)
        ]

    module _ (s : State X) (ls : List ThreadLabel) (r : Run p s ls) (e : Explains p u s ls)
        (fine : IsBad (inner.act p (u 0) (e.asm 0)) → ⊥) where
      no_release : (l : ℕ) (b : List Store) → b ≡ [] → Releases p.edge.cells l b → ⊥
      no_release l _ q (Rattle.cas_atomic.specs.Table.now rest clear) = absurd (cc q)
      no_release l _ q (Rattle.cas_atomic.specs.Table.later w v rest n more) = absurd (cc q)

      idle_buffer : (j : ℕ) → (j ≡ 0 → ⊥) → (s.threads j).buffer ≡ []
      idle_buffer j d = ap (λ (c : Thread X). c.buffer) (idle s ls r j d)

      idle_holds : (j : ℕ) → (j ≡ 0 → ⊥) → (l : ℕ) → (e.asm j).holds l ≡ false
      idle_holds j d l = nothing (u j) j (projection j ls) (e.asm j) (e.runs j) at_first l
        where
          at_first : (e.asm j).steps ≡ 0
          at_first = (subst (λ (c : Thread X). Stands p (e.asm j) c.buffer c.executed c.at) (idle s ls r j d)
              (e.stands j)).steps

      -- a refused thread that is alone has the lock itself
      holds_it : (l : ℕ) → IsLock p.edge.cells l → (s.threads 0).buffer ≡ [] → Refused s.memory l →
          (e.asm 0).holds l ≡ true
      holds_it l lk empty taken = by (e.locks l lk)
        where
          by : LockIs p.edge.cells l (Rattle.cas_atomic.proofs.Places.scene (λ j. (s.threads j).buffer) s.memory
              (refusals p.threads l s.threads) (λ j. (e.asm j).holds l) (λ j. (e.asm j).words)
              (state_of p.edge.cells l ls)) → (e.asm 0).holds l ≡ true
          by (is_free word clear none st) = absurd (taken word)
          by (is_held j minus unstored others mine none own st) = elim (same_or_not j 0) [
            | inl q ↦ subst (λ (k : ℕ). (e.asm k).holds l ≡ true) q mine
            | inr d ↦ let z = idle_holds j d l in absurd (cc (mine, z))
          ]
          by (is_released j minus rel others none st) = elim (same_or_not j 0) [
            | inl q ↦ absurd (no_release l (s.threads j).buffer
                (ap (λ (k : ℕ). (s.threads k).buffer) q ∙ empty) rel)
            | inr d ↦ absurd (no_release l (s.threads j).buffer (idle_buffer j d) rel)
          ]

      waits : (l : ℕ) (b : Leftover → X) → AsksEmpty p (e.asm 0) (s.threads 0).buffer (s.threads 0).executed l b →
          Refused s.memory l →
          Waits (Rattle.cas_atomic.specs.Atomic.act p (u 0) (run_of p u s ls e 0).to.at)
      waits l b asks taken =
          let lk = (may_lock p (u 0) (e.asm 0) l b asks.asks.next fine).0 in
          let holds = holds_it l lk asks.empty taken in
          let is_taken : inner.act p (u 0) (e.asm 0) ≡ Stops (Taken l) =
          ap (inner.act_by p (u 0) (e.asm 0)) asks.asks.next
          ∙ ap (λ (o : Option Rattle.cas_runs.specs.Edge.Cell). inner.takes_if p (u 0) (e.asm 0) l b (is_lock o)
          ((e.asm 0).holds l)) lk.is
          ∙ ap (inner.takes_if p (u 0) (e.asm 0) l b true) holds in
          let beside_it = run_of p u s ls e 0 in (
            l,
            sharing.halts_alike p (inner.act p (u 0) (e.asm 0))
                (Rattle.cas_atomic.specs.Atomic.act p (u 0) beside_it.to.at) (Taken l) is_taken
                (acts_alike p (u 0) (e.asm 0) beside_it.to.at beside_it.same),
          )

      pub quick : (n k : ℕ) (at : Point X) →
          Stands p (e.asm 0) (s.threads 0).buffer (s.threads 0).executed at → Paced s.memory n k at →
          Waits (Rattle.cas_atomic.specs.Atomic.act p (u 0) (run_of p u s ls e 0).to.at) ⊎ (n ≤ 3 * (k + 1))
      quick n k (Outside x) st pace = inr (omega arith)
      quick n k (Inside place f l b) st pace = by place st pace
        where
          Quick : Type 0
          Quick = Waits (Rattle.cas_atomic.specs.Atomic.act p (u 0) (run_of p u s ls e 0).to.at) ⊎ (n ≤ 3 * (k + 1))

          signed : (sign : Bool) →
              AfterSign (beside p (e.asm 0) (s.threads 0).buffer (s.threads 0).executed) f l b sign →
              AfterDecrement s.memory n k l sign →
              Waits (Rattle.cas_atomic.specs.Atomic.act p (u 0) (run_of p u s ls e 0).to.at) ⊎ (n ≤ 3 * (k + 1))
          signed true a z = inl (waits l b a z)
          signed false a z = inr (omega arith)

          by : (place : ℕ) →
              StandsAt (beside p (e.asm 0) (s.threads 0).buffer (s.threads 0).executed) f l b place →
              PacedAt s.memory n k f l place →
              Waits (Rattle.cas_atomic.specs.Atomic.act p (u 0) (run_of p u s ls e 0).to.at) ⊎ (n ≤ 3 * (k + 1))
          by zero a z = inr (omega arith)
          by (suc zero) a z = signed f.flags.sign a z
          by (suc (suc zero)) a z = inl (waits l b a z)
          by (suc (suc (suc zero))) a z = inl (waits l b a z.0)
          by (suc (suc (suc (suc zero)))) a z = absurd z
          by (suc (suc (suc (suc (suc zero))))) a z = inr (omega arith)
          by (suc (suc (suc (suc (suc (suc zero)))))) a z = inr (omega arith)
          by (suc (suc (suc (suc (suc (suc (suc zero))))))) a z = inr (omega arith)
          by (suc (suc (suc (suc (suc (suc (suc (suc m)))))))) a z = absurd a

pub sound : {X : Type 0} (p : Setup X) → AcceptedIsSound p
sound {X} p is guards few s ls r =
    let w = unknown_of p s ls r in (
      w.0,
      elim (runs_explained p guards few is w.0 s ls r w.1) [
        | inl f ↦ explained w.0 w.1 f (same_or_not p.threads 1)
        | inr b ↦ inr b
      ],
    )
  where
    explained : (u : Unknown) → Fits u r → IsFine p guards few is u s ls →
        (p.threads ≡ 1) ⊎ (p.threads ≡ 1 → ⊥) → IsExplained p u r ⊎ IsBadBefore (refused_threads p) u r
    explained u fits f (inr more) = inl (record {
      explains = shown p u s ls f.explains;
      alone = λ one. absurd (more one);
    })
    explained u fits f (inl one) = elim (paced p guards few is one u s ls r fits) [
      | inl pace ↦ inl (record {
        explains = shown p u s ls f.explains;
        alone = λ _. quick p guards few is one u s ls r f.explains (f.fine 0 (omega arith)) (inside_of r 0)
            (length (projection 0 ls)) (s.threads 0).at (f.explains.stands 0) pace;
      })
      | inr b ↦ inr b
    ]
