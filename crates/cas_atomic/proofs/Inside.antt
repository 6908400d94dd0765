-- The eight instructions of the lock object.
use Rattle.std.proofs.Common.{length, ◌≡◌, ℕ, suc, ◌≤◌, ◌<◌, Bool, true, false, List, [], ◌∷◌, ◌++◌, Option, Some, None, slice_get, if◌then◌else◌, sym, refl, ap, ◌∙◌, subst, inl, inr, arith}
use Rattle.cas_atomic.specs.Leftover.{Leftover, IsMinus, one_less, after_decrement, after_compare, less_or_equal}
use Rattle.cas_atomic.specs.Buffer.{Store, store, view, put}
use Rattle.cas_atomic.proofs.Explaining.{Explains, FitsLabel}
use Rattle.cas_atomic.proofs.Inner.{Atomic, locked, unlocked, act, AtomicRun, says, locks}
use Rattle.cas_atomic.proofs.Places.{beside, scene, LockIs, AfterSign, StandsAt, Asks, AsksEmpty, Gives, IsAt}
use Rattle.cas_atomic.specs.Buffered.{Outside, Inside, Running, Thread, thread, State, moved, moved_in, within, if_zero}
use Rattle.cas_atomic.specs.Cells.{IsLock, AreGuards, under, values}
use Rattle.cas_atomic.specs.Labels.{by_thread, listed}
use Rattle.cas_atomic.specs.Program.{Setup}
use Rattle.cas_atomic.specs.Sound.{Unknown}
use Rattle.cas_atomic.specs.Table.{refused_at, is_refused, refusals}
use Rattle.cas_runs.specs.Edge.{TableWord}
use Rattle.cas_runs.specs.Label.{RunLabel, Lock, Unlock}
use Rattle.cas_runs.specs.Legal.{ThreadLabel, Free, IsHeld, projection, state_of}
use Rattle.cas_runs.specs.Machine as run
use Rattle.cas_runs.specs.Machine.{Emits, IsBad}
use Rattle.cas_atomic.proofs.Basic.{same_or_not, if_same, if_not, put_here, put_else, appended_else}
use Rattle.cas_atomic.proofs.Words.{IsApart, lock_not_under, brought, not_brought, same_values, values_count}
use Rattle.cas_atomic.proofs.Locks.{same_self, appended_same, put_same}
use Rattle.cas_atomic.proofs.Own.{IsFreeNow, held_by, free_or_not, takes_own, refuses_own, gives_own, minus_not_one, minus_more, minus_signed}
use Rattle.cas_atomic.proofs.Counts.{refusals_kept, refusals_more, refusals_room, refusals_most, refused_else, refused_here, refused_alike, never_refused, sign_of, minus_le}
use Rattle.cas_atomic.proofs.Acts.{may_lock, may_unlock}
use Rattle.cas_atomic.proofs.Moving.{projection_own, LockAfter, moves, untouched, buffer_here, buffer_else, buffers_same, holds_here, holds_else, holds_same, words_here, words_same}
use Rattle.cas_atomic.proofs.Outside.{bound_kept, still, unlisted, still_after}

module _ {X : Type 0} (p : Setup X) (guards : AreGuards p.edge.cells) (few : p.threads ≤ 2147483648) (u : Unknown)
    (s : State X) (ls : List ThreadLabel) (e : Explains p u s ls) (i : ℕ) (below : i < p.threads)
    (fine : IsBad (act p (u i) (e.asm i)) → ⊥) (live : (s.threads i).ended ≡ Running) where
  abbrev pub c : Thread X
  c = s.threads i

  abbrev pub a : Atomic X
  a = e.asm i

  abbrev LockNow : ℕ → Type 0
  LockNow l =
      LockIs p.edge.cells l (scene (λ j. (s.threads j).buffer) s.memory (refusals p.threads l s.threads)
      (λ j. (e.asm j).holds l) (λ j. (e.asm j).words) (state_of p.edge.cells l ls))

  -- the lock's word is apart from other locks
  lock_apart : (l m : ℕ) → IsLock p.edge.cells l → (m ≡ l → ⊥) → IsApart p.edge.cells m l
  lock_apart l m lk d = record { other = λ q. d (sym q); unguarded = λ k. lock_not_under p.edge.cells l m lk k }

  table_else : (l at v : ℕ) → IsLock p.edge.cells l → slice_get p.edge.cells at ≡ Some (TableWord v) → at ≡ l → ⊥
  table_else l at v lk t q = let f = subst (λ (k : ℕ). slice_get p.edge.cells k ≡ Some (TableWord v)) q t in let g =
      lk.is in absurd (cc (f, g))

  module _ (f : Leftover) (l : ℕ) (k : Leftover → X) where
    abbrev taken : RunLabel
    taken = Lock l (values s.memory (under p.edge.cells 0 l))

    -- the lock is free: the decrement gives 0
    takes : c.at ≡ Inside 0 f l k → Asks p a c.executed l k → c.buffer ≡ []
        → IsFreeNow p.edge.cells l p.threads (λ j. (s.threads j).buffer) s.memory (refusals p.threads l s.threads)
        (λ j. (e.asm j).holds l) (λ j. (e.asm j).words) (state_of p.edge.cells l ls)
        → u i (length (projection i ls)) ≡ after_decrement f 0 →
        Explains p u (moved_in s (put l 0 s.memory) i (within c 1 (after_decrement f 0) l k)) (by_thread i taken ∷ ls)
    takes h asks empty free fit =
        let lk = (may_lock p (u i) a l k asks.next fine).0 in
        let ws = values s.memory (under p.edge.cells 0 l) in
        let b = locked p (u i) a l k ws in
        let d : Thread X = within c 1 (after_decrement f 0) l k in
        let own = projection_own i taken ls in
        let o = Some taken in
        let refused : (m : ℕ) → is_refused m d.at ≡ is_refused m c.at =
        λ m. never_refused m 1 (after_decrement f 0) l k refl
        ∙ sym (ap (is_refused m) h ∙ never_refused m 0 f l k refl) in
        moves p u s ls e i d b (put l 0 s.memory) o s.output
        (subst (λ (j : List RunLabel). AtomicRun p (u i) i j b) (sym own)
        (locks l (locked p (u i) a l k) ws (e.runs i) ((may_lock p (u i) a l k asks.next fine).1 (free.none i))
        (values_count s.memory (under p.edge.cells 0 l))))
        (record { at = ap k (ap (u i) (e.occasion i) ∙ fit); steps = asks.steps })
        (still_after p guards u s ls e i below fine live taken b (λ z. z))
        (below, free.free, e.legal) e.outs (ap suc (e.occasion i) ∙ sym (ap (λ (k : List RunLabel). length k) own))
        (λ m mk. elim (same_or_not m l) [
          | inl q ↦ subst (λ (n : ℕ). LockAfter p u s ls e i d b (put l 0 s.memory) o n) (sym q)
              (takes_own p.edge.cells l p.threads (λ j. (s.threads j).buffer) s.memory (refusals p.threads l s.threads)
              (λ j. (e.asm j).holds l) (λ j. (e.asm j).words) (state_of p.edge.cells l ls)
              (λ j. (put i d s.threads j).buffer) (put l 0 s.memory) (refusals p.threads l (put i d s.threads))
              (λ j. (put i b e.asm j).holds l) (λ j. (put i b e.asm j).words)
              (state_of p.edge.cells l (by_thread i taken ∷ ls)) i
              free lk (buffers_same p u s ls e i d b (put l 0 s.memory) o refl) (λ at. refl)
              (holds_here p u s ls e i d b (put l 0 s.memory) o l ∙ put_here l true a.holds l refl)
              (holds_else p u s ls e i d b (put l 0 s.memory) o l)
              (λ at g. words_here p u s ls e i d b (put l 0 s.memory) o at
              ∙ brought p.edge.cells l s.memory a.words at g)
              (if_same l l IsHeld (state_of p.edge.cells l ls) refl))
          | inr q ↦ untouched p u s ls e i d b (put l 0 s.memory) o m mk (same_self p.edge.cells m c.buffer)
              (put_same p.edge.cells m l 0 s.memory (lock_apart l m lk q))
              (λ z. subst (λ (y : ℕ). IsMinus (refusals p.threads m (put i d s.threads)) y)
              (sym (put_same p.edge.cells m l 0 s.memory (lock_apart l m lk q) m (inl refl)))
              (bound_kept p guards u s ls e i below fine live d refused m (s.memory m) z))
              (put_else l true a.holds m q) (λ at g. not_brought p.edge.cells l m ws a.words at g q)
              (if_not l m IsHeld (state_of p.edge.cells m ls) (λ z. q (sym z)))
        ])
        (λ at v t. put_else l 0 s.memory at (table_else l at v lk t) ∙ e.tables at v t) (λ at v t. e.unstored at v t i)

    -- it isn't free: the thread is refused
    refuses : (v : ℕ) → v ≡ one_less (s.memory l) → c.at ≡ Inside 0 f l k → Asks p a c.executed l k → c.buffer ≡ [] →
        IsMinus (refusals p.threads l s.threads) (s.memory l)
        → Explains p u (moved_in s (put l v s.memory) i (within c 1 (after_decrement f v) l k)) ls
    refuses v is h asks empty minus =
        let lk = (may_lock p (u i) a l k asks.next fine).0 in
        let d : Thread X = within c 1 (after_decrement f v) l k in
        let room : refusals p.threads l s.threads < p.threads =
        refusals_room p.threads l s.threads i below (ap (is_refused l) h ∙ never_refused l 0 f l k refl) in
        let less : refusals p.threads l s.threads < 2147483648 = omega arith in
        let up : 2147483648 ≤ v = subst (λ (n : ℕ). 2147483648 ≤ n) (sym is)
        (minus_signed (refusals p.threads l s.threads) (s.memory l) less minus) in
        let signed : (after_decrement f v).flags.sign ≡ true = sign_of f v up in
        let more : refusals p.threads l (put i d s.threads) ≡ suc (refusals p.threads l s.threads) =
        refusals_more p.threads l s.threads i d below (ap (is_refused l) h ∙ never_refused l 0 f l k refl)
        (refused_here l 1 (after_decrement f v) l k refl ∙ signed) in
        moves p u s ls e i d a (put l v s.memory) None s.output (e.runs i)
        (subst (λ (t : Bool). AfterSign (beside p a c.buffer c.executed) (after_decrement f v) l k t) (sym signed)
        (record { asks = asks; empty = empty })) (still p guards u s ls e i below fine live a)
        e.legal e.outs (e.occasion i)
        (λ m mk. elim (same_or_not m l) [
          | inl q ↦ subst (λ (n : ℕ). LockAfter p u s ls e i d a (put l v s.memory) None n) (sym q)
              (refuses_own p.edge.cells l p.threads (λ j. (s.threads j).buffer) s.memory
              (refusals p.threads l s.threads)
              (λ j. (e.asm j).holds l) (λ j. (e.asm j).words) (state_of p.edge.cells l ls)
              (λ j. (put i d s.threads j).buffer) (put l v s.memory) (refusals p.threads l (put i d s.threads))
              (λ j. (put i a e.asm j).holds l) (λ j. (put i a e.asm j).words) (state_of p.edge.cells l ls) i
              v (minus_not_one (refusals p.threads l s.threads) (s.memory l) less minus) lk
              (buffers_same p u s ls e i d a (put l v s.memory) None refl) (λ at. refl)
              (λ z. subst (λ (r : ℕ). IsMinus r v) (sym more)
              (subst (λ (n : ℕ). IsMinus (suc (refusals p.threads l s.threads)) n) (sym is)
              (minus_more (refusals p.threads l s.threads) (s.memory l) less z)))
              (holds_same p u s ls e i d a (put l v s.memory) None l refl)
              (words_same p u s ls e i d a (put l v s.memory) None (λ w. refl)) refl (e.locks l lk))
          | inr q ↦ untouched p u s ls e i d a (put l v s.memory) None m mk (same_self p.edge.cells m c.buffer)
              (put_same p.edge.cells m l v s.memory (lock_apart l m lk q))
              (λ z. subst (λ (y : ℕ). IsMinus (refusals p.threads m (put i d s.threads)) y)
              (sym (put_same p.edge.cells m l v s.memory (lock_apart l m lk q) m (inl refl)))
              (subst (λ (r : ℕ). IsMinus r (s.memory m))
              (sym (refusals_kept p.threads m s.threads i d
              (refused_else m 1 (after_decrement f v) l k (λ y. q (sym y))
              ∙ sym (ap (is_refused m) h ∙ never_refused m 0 f l k refl)))) z))
              refl (λ at g. refl) refl
        ])
        (λ at t is. put_else l v s.memory at (table_else l at t lk is) ∙ e.tables at t is)
        (λ at t is. e.unstored at t is i)

    pub step_lock_dec : (v : ℕ) → v ≡ one_less (s.memory l) → c.at ≡ Inside 0 f l k → Asks p a c.executed l k →
        c.buffer ≡ [] → FitsLabel u i ls (after_decrement f v) (if_zero v taken)
        → Explains p u (moved_in s (put l v s.memory) i (within c 1 (after_decrement f v) l k))
        (listed i (if_zero v taken) ls)
    step_lock_dec v is h asks empty fit =
        let lk = (may_lock p (u i) a l k asks.next fine).0 in
        elim (free_or_not p.edge.cells l p.threads (λ j. (s.threads j).buffer) s.memory (refusals p.threads l s.threads)
        (λ j. (e.asm j).holds l) (λ j. (e.asm j).words) (state_of p.edge.cells l ls) (e.locks l lk)) [
          | inl free ↦
              let z : v ≡ 0 = is ∙ ap one_less free.one in
              to_zero z fit free
          | inr minus ↦
              let room : refusals p.threads l s.threads < p.threads =
              refusals_room p.threads l s.threads i below (ap (is_refused l) h ∙ never_refused l 0 f l k refl) in
              let less : refusals p.threads l s.threads < 2147483648 = omega arith in
              let up : 2147483648 ≤ v = subst (λ (n : ℕ). 2147483648 ≤ n) (sym is)
              (minus_signed (refusals p.threads l s.threads) (s.memory l) less minus) in
              let none : if_zero v taken ≡ None = if_not v 0 (Some taken) None (λ z. omega arith) in
              subst (λ (o : Option RunLabel). Explains p u
              (moved_in s (put l v s.memory) i (within c 1 (after_decrement f v) l k)) (listed i o ls)) (sym none)
              (refuses v is h asks empty minus)
        ]
      where
        to_zero : v ≡ 0 → FitsLabel u i ls (after_decrement f v) (if_zero v taken)
            → IsFreeNow p.edge.cells l p.threads (λ j. (s.threads j).buffer) s.memory (refusals p.threads l s.threads)
            (λ j. (e.asm j).holds l) (λ j. (e.asm j).words) (state_of p.edge.cells l ls)
            → Explains p u (moved_in s (put l v s.memory) i (within c 1 (after_decrement f v) l k))
            (listed i (if_zero v taken) ls)
        to_zero z fit free =
            subst (λ (n : ℕ). Explains p u (moved_in s (put l n s.memory) i (within c 1 (after_decrement f n) l k))
            (listed i (if_zero n taken) ls)) (sym z)
            (takes h asks empty free (subst (λ (n : ℕ). FitsLabel u i ls (after_decrement f n) (if_zero n taken))
            z fit))

    -- an instruction that touches nothing but the thread's place and flags
    turns : (place place' : ℕ) (f' : Leftover) → c.at ≡ Inside place f l k →
        StandsAt (beside p a c.buffer c.executed) f' l k place' → refused_at place' f' ≡ refused_at place f →
        Explains p u (moved s i (within c place' f' l k)) ls
    turns place place' f' h stand same =
        let d : Thread X = within c place' f' l k in
        unlisted p guards u s ls e i below fine live d a (e.runs i) stand (still p guards u s ls e i below fine live a)
        refl refl
        (λ m mk. bound_kept p guards u s ls e i below fine live d
        (λ m. refused_alike m place place' f f' l k same ∙ sym (ap (is_refused m) h)) m (s.memory m)) (λ m. refl)
        (λ w. refl)

    pub step_jump_not_sign : c.at ≡ Inside 1 f l k → AfterSign (beside p a c.buffer c.executed) f l k f.flags.sign →
        Explains p u (moved s i (within c (if f.flags.sign then 2 else 5) f l k)) ls
    step_jump_not_sign h stand = by f.flags.sign refl stand
      where
        by : (t : Bool) → f.flags.sign ≡ t → AfterSign (beside p a c.buffer c.executed) f l k t →
            Explains p u (moved s i (within c (if t then 2 else 5) f l k)) ls
        by true q st = turns 1 2 f h st (sym q)
        by false q st = turns 1 5 f h st (sym q)

    pub step_compare : c.at ≡ Inside 2 f l k → AsksEmpty p a c.buffer c.executed l k →
        Explains p u (moved s i (within c 3 (after_compare f (view c.buffer s.memory l)) l k)) ls
    step_compare h stand =
        let g = after_compare f (view c.buffer s.memory l) in
        let d : Thread X = within c 3 g l k in
        unlisted p guards u s ls e i below fine live d a (e.runs i) stand (still p guards u s ls e i below fine live a)
        refl refl
        (λ m mk z. elim (same_or_not m l) [
          | inl q ↦
              let word : view c.buffer s.memory l ≡ s.memory m = ap (λ (b : List Store). view b s.memory l) stand.empty
              ∙ ap s.memory (sym q) in
              let most = refusals_most p.threads m s.threads in
              let le : less_or_equal g ≡ true = ap (λ (w : ℕ). less_or_equal (after_compare f w)) word
              ∙ minus_le f (refusals p.threads m s.threads) (s.memory m) (omega arith) z in
              subst (λ (r : ℕ). IsMinus r (s.memory m))
              (sym (refusals_kept p.threads m s.threads i d
              (refused_alike m 2 3 f g l k le ∙ sym (ap (is_refused m) h)))) z
          | inr q ↦ subst (λ (r : ℕ). IsMinus r (s.memory m))
              (sym (refusals_kept p.threads m s.threads i d
              (refused_else m 3 g l k (λ y. q (sym y))
              ∙ sym (ap (is_refused m) h ∙ refused_else m 2 f l k (λ y. q (sym y)))))) z
        ]) (λ m. refl) (λ w. refl)

    pub step_jump_less_equal : c.at ≡ Inside 3 f l k → AsksEmpty p a c.buffer c.executed l k →
        Explains p u (moved s i (within c (if less_or_equal f then 2 else 4) f l k)) ls
    step_jump_less_equal h stand = by (less_or_equal f) refl
      where
        by : (t : Bool) → less_or_equal f ≡ t → Explains p u (moved s i (within c (if t then 2 else 4) f l k)) ls
        by true q = turns 3 2 f h stand (sym q)
        by false q = turns 3 4 f h stand.asks (sym q)

    pub step_jump : c.at ≡ Inside 4 f l k → Asks p a c.executed l k → Explains p u (moved s i (within c 0 f l k)) ls
    step_jump h stand = turns 4 0 f h stand refl

    pub step_return : (place : ℕ) → c.at ≡ Inside place f l k → IsAt a c.executed (k f) → refused_at place f ≡ false →
        Explains p u (moved s i (thread (Outside (k f)) c.buffer c.ended c.executed)) ls
    step_return place h stand none =
        let d : Thread X = thread (Outside (k f)) c.buffer c.ended c.executed in
        unlisted p guards u s ls e i below fine live d a (e.runs i) stand (still p guards u s ls e i below fine live a)
        refl refl
        (λ m mk. bound_kept p guards u s ls e i below fine live d
        (λ m. sym (ap (is_refused m) h ∙ never_refused m place f l k none)) m (s.memory m)) (λ m. refl) (λ w. refl)

    abbrev given : RunLabel
    given = Unlock l (values (view c.buffer s.memory) (under p.edge.cells 0 l))

    pub step_store_one : c.at ≡ Inside 6 f l k → Gives p a c.executed l k → u i (length (projection i ls)) ≡ f
        → Explains p u (moved s i (thread (Inside 7 f l k) (c.buffer ++ store l 1 ∷ []) c.ended c.executed))
        (by_thread i given ∷ ls)
    step_store_one h gives fit =
        let may = may_unlock p (u i) a l k gives.next fine in
        let lk = may.0 in
        let b = unlocked (u i) a l k in
        let d : Thread X = thread (Inside 7 f l k) (c.buffer ++ store l 1 ∷ []) c.ended c.executed in
        let o = Some given in
        let own = projection_own i given ls in
        let held = held_by p.edge.cells l p.threads (λ j. (s.threads j).buffer) s.memory
        (refusals p.threads l s.threads)
        (λ j. (e.asm j).holds l) (λ j. (e.asm j).words) (state_of p.edge.cells l ls) i may.1 (e.locks l lk) in
        let same : values a.words (under p.edge.cells 0 l) ≡ values (view c.buffer s.memory) (under p.edge.cells 0 l) =
        same_values p.edge.cells l a.words (view c.buffer s.memory) held.own in
        let refused : (m : ℕ) → is_refused m d.at ≡ is_refused m c.at = λ m. never_refused m 7 f l k refl
        ∙ sym (ap (is_refused m) h ∙ never_refused m 6 f l k refl) in
        moves p u s ls e i d b s.memory o s.output
        (subst (λ (j : List RunLabel). AtomicRun p (u i) i j b) (sym own)
        (says (run.Unlocks l (values (view c.buffer s.memory) (under p.edge.cells 0 l))) b (e.runs i)
        (may.2 ∙ ap (λ (ws : List ℕ). Emits (run.Unlocks l ws) b) same)))
        (record { at = ap k (ap (u i) (e.occasion i) ∙ fit); steps = gives.steps })
        (still_after p guards u s ls e i below fine live given b (λ z. z))
        (below, tt, e.legal) e.outs (ap suc (e.occasion i) ∙ sym (ap (λ (k : List RunLabel). length k) own))
        (λ m mk. elim (same_or_not m l) [
          | inl q ↦ subst (λ (n : ℕ). LockAfter p u s ls e i d b s.memory o n) (sym q)
              (gives_own p.edge.cells l p.threads (λ j. (s.threads j).buffer) s.memory (refusals p.threads l s.threads)
              (λ j. (e.asm j).holds l) (λ j. (e.asm j).words) (state_of p.edge.cells l ls)
              (λ j. (put i d s.threads j).buffer) s.memory (refusals p.threads l (put i d s.threads))
              (λ j. (put i b e.asm j).holds l) (λ j. (put i b e.asm j).words)
              (state_of p.edge.cells l (by_thread i given ∷ ls)) i
              lk may.1 (buffer_here p u s ls e i d b s.memory o) (buffer_else p u s ls e i d b s.memory o) (λ at. refl)
              (bound_kept p guards u s ls e i below fine live d refused l (s.memory l))
              (holds_here p u s ls e i d b s.memory o l ∙ put_here l false a.holds l refl)
              (holds_else p u s ls e i d b s.memory o l)
              (if_same l l (Free (values (view c.buffer s.memory) (under p.edge.cells 0 l)))
              (state_of p.edge.cells l ls) refl
              ∙ ap Free (sym same)) (e.locks l lk))
          | inr q ↦ untouched p u s ls e i d b s.memory o m mk
              (appended_same p.edge.cells m c.buffer l 1 (lock_apart l m lk q)) (λ w g. refl)
              (bound_kept p guards u s ls e i below fine live d refused m (s.memory m))
              (put_else l false a.holds m q) (λ w g. refl)
              (if_not l m (Free (values (view c.buffer s.memory) (under p.edge.cells 0 l))) (state_of p.edge.cells m ls)
              (λ z. q (sym z)))
        ])
        e.tables (λ at v t. appended_else c.buffer l 1 at (λ y. table_else l at v lk t (sym y)) ∙ e.unstored at v t i)
