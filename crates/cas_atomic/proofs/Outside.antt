-- The steps of a thread outside the lock object, and its end.
use Rattle.std.proofs.Common.{length, ◌≡◌, ℕ, suc, ◌<◌, List, [], ◌∷◌, ◌++◌, Option, Some, None, slice_get, sym, refl, ap, ◌∙◌, subst, inl, inr}
use Rattle.cas_atomic.specs.Leftover.{Leftover, IsMinus, one_less}
use Rattle.cas_atomic.specs.Buffer.{Store, store, newest, view, put}
use Rattle.cas_atomic.proofs.Explaining.{Explains}
use Rattle.cas_atomic.proofs.Inner.{Atomic, loaded, goes, writes, act_by, act, AtomicRun, quiet, says, told}
use Rattle.cas_atomic.proofs.Places.{Stands, IsAt}
use Rattle.cas_atomic.specs.Buffered.{Point, Outside, Inside, End, Running, IsDone, OutOfFuel, IsFull, HasFailed, OutOfOuts, WouldBe, outright, by_load, MayEnd, Thread, thread, State, state_with, moved, moved_in, out_of}
use Rattle.cas_atomic.specs.Cells.{IsLock, IsUnder, AreGuards}
use Rattle.cas_atomic.specs.Labels.{by_thread, outs_of, listed}
use Rattle.cas_atomic.specs.Program.{Setup, Event, After, Goes, Fails, Halts, Wrong, Plain, Load, Decrement, CallLock, CallUnlock, Prints, Ends, NoRoom}
use Rattle.cas_atomic.specs.Sound.{Unknown, EndFits}
use Rattle.cas_atomic.specs.Table.{is_refused, refusals}
use Rattle.cas_runs.specs.Edge.{TableWord}
use Rattle.cas_runs.specs.Label.{RunLabel, Out, Done}
use Rattle.cas_runs.specs.Legal.{ThreadLabel, IsLegal, projection, state_of}
use Rattle.cas_runs.specs.Rules.{HasEnded}
use Rattle.cas_runs.specs.Machine as run
use Rattle.cas_runs.specs.Machine.{Act, Quiet, Emits, IsBad, Stops, Full}
use Rattle.cas_atomic.specs.Program as asm
use Rattle.cas_atomic.proofs.Basic.{same_or_not, put_else, appended_else, view_none}
use Rattle.cas_atomic.proofs.Words.{IsApart, lock_not_under, under_one}
use Rattle.cas_atomic.proofs.Locks.{same_self, same_by, appended_same, put_same}
use Rattle.cas_atomic.proofs.Own.{IsHeldBy, held_by, stores_own, decrements_own}
use Rattle.cas_atomic.proofs.Counts.{refusals_kept, never_refused}
use Rattle.cas_atomic.proofs.Acts.{IsMine, finds, may_load, may_store, may_decrement}
use Rattle.cas_atomic.proofs.Moving.{runs_on, projection_own, moves, untouched, buffer_here, buffer_else, buffers_same, holds_same, words_here}

module _ {X : Type 0} (p : Setup X) (guards : AreGuards p.edge.cells) (u : Unknown) (s : State X)
    (ls : List ThreadLabel)
    (e : Explains p u s ls) (i : ℕ) (below : i < p.threads) (fine : IsBad (act p (u i) (e.asm i)) → ⊥)
    (live : (s.threads i).ended ≡ Running) where
  abbrev pub c : Thread X
  c = s.threads i

  abbrev pub a : Atomic X
  a = e.asm i

  pub at_out : (x : X) → c.at ≡ Outside x → IsAt a c.executed x
  at_out x h = subst (λ (w : Point X). Stands p a c.buffer c.executed w) h (e.stands i)

  pub next_is : (x : X) (v : Event X) → c.at ≡ Outside x → p.next x ≡ v → p.next a.at ≡ v
  next_is x v h n = ap p.next (at_out x h).at ∙ n

  pub bound_kept : (d : Thread X) → ((l : ℕ) → is_refused l d.at ≡ is_refused l c.at) → (l : ℕ) (m : ℕ) →
      IsMinus (refusals p.threads l s.threads) m → IsMinus (refusals p.threads l (put i d s.threads)) m
  bound_kept d h l m k = subst (λ (r : ℕ). IsMinus r m) (sym (refusals_kept p.threads l s.threads i d (h l))) k

  -- the thread isn't Done
  pub fresh : HasEnded (projection i ls) → ⊥
  fresh = subst (λ (k : End). EndFits k (projection i ls) (act p (u i) a)) live (e.ends i)

  pub still : (b : Atomic X) → EndFits c.ended (projection i ls) (act p (u i) b)
  still b = runs_on c.ended (projection i ls) (act p (u i) b) live fresh

  -- nor is it after another label
  pub still_after : (l : RunLabel) (b : Atomic X) → (HasEnded (l ∷ projection i ls) → ⊥) →
      EndFits c.ended (projection i (by_thread i l ∷ ls)) (act p (u i) b)
  still_after l b h = runs_on c.ended (projection i (by_thread i l ∷ ls)) (act p (u i) b) live
      (subst (λ (k : List RunLabel). HasEnded k → ⊥) (sym (projection_own i l ls)) h)

  -- a step that touches neither memory nor buffer nor share
  pub local : (d : Thread X) (b : Atomic X) (o : Option RunLabel) (out : List (ℕ × ℕ)) →
      AtomicRun p (u i) i (projection i (listed i o ls)) b → Stands p b d.buffer d.executed d.at →
      EndFits d.ended (projection i (listed i o ls)) (act p (u i) b) → IsLegal p.edge.cells p.threads (listed i o ls) →
      outs_of (listed i o ls) ≡ out
      → b.occasion ≡ length (projection i (listed i o ls)) → d.buffer ≡ c.buffer →
      ((l : ℕ) → IsLock p.edge.cells l → IsMinus (refusals p.threads l s.threads) (s.memory l) →
      IsMinus (refusals p.threads l (put i d s.threads)) (s.memory l))
      → ((l : ℕ) → b.holds l ≡ a.holds l) → ((w : ℕ) → b.words w ≡ a.words w) →
      ((l : ℕ) → state_of p.edge.cells l (listed i o ls) ≡ state_of p.edge.cells l ls) →
      Explains p u (state_with s.memory out (put i d s.threads)) (listed i o ls)
  local d b o out run stand fit legal outs occ same bound hold word st =
      moves p u s ls e i d b s.memory o out run stand fit legal outs occ
      (λ l lk. untouched p u s ls e i d b s.memory o l lk (same_by p.edge.cells l c.buffer d.buffer same) (λ w h. refl)
      (bound l lk) (hold l) (λ w g. word w) (st l))
      e.tables (λ w v t. ap (λ (k : List Store). newest k w) same ∙ e.unstored w v t i)

  -- and isn't listed
  pub unlisted : (d : Thread X) (b : Atomic X) → AtomicRun p (u i) i (projection i ls) b →
      Stands p b d.buffer d.executed d.at → EndFits d.ended (projection i ls) (act p (u i) b) →
      b.occasion ≡ a.occasion →
      d.buffer ≡ c.buffer
      → ((l : ℕ) → IsLock p.edge.cells l → IsMinus (refusals p.threads l s.threads) (s.memory l) →
      IsMinus (refusals p.threads l (put i d s.threads)) (s.memory l)) → ((l : ℕ) → b.holds l ≡ a.holds l) →
      ((w : ℕ) → b.words w ≡ a.words w)
      → Explains p u (moved s i d) ls
  unlisted d b run stand fit occ same bound hold word =
      local d b None s.output run stand fit e.legal e.outs (occ ∙ e.occasion i) same bound hold word (λ l. refl)

  -- the thread goes on outside, by a quiet step
  goes_on : (x y : X) → c.at ≡ Outside x → act p (u i) a ≡ Quiet (goes a y) → (z : X) → y ≡ z →
      Explains p u (moved s i (out_of c z)) ls
  goes_on x y h q z same =
      unlisted (out_of c z) (goes a y) (quiet (goes a y) (e.runs i) q)
      (record { at = same; steps = ap suc (at_out x h).steps }) (still (goes a y)) refl refl
      (λ l lk. bound_kept (out_of c z) (λ l. ap (is_refused l) (sym h)) l (s.memory l)) (λ l. refl) (λ w. refl)

  pub step_plain : (x y : X) → c.at ≡ Outside x → p.next x ≡ Plain y → Explains p u (moved s i (out_of c y)) ls
  step_plain x y h n = goes_on x y h (ap (act_by p (u i) a) (next_is x (Plain y) h n)) y refl

  holding : (w : ℕ) → (m : IsMine p (u i) a w) → IsHeldBy p.edge.cells m.guard p.threads (λ j. (s.threads j).buffer)
      s.memory
      (refusals p.threads m.guard s.threads) (λ j. (e.asm j).holds m.guard) (λ j. (e.asm j).words)
      (state_of p.edge.cells m.guard ls) i
  holding w m = held_by p.edge.cells m.guard p.threads (λ j. (s.threads j).buffer) s.memory
      (refusals p.threads m.guard s.threads) (λ j. (e.asm j).holds m.guard) (λ j. (e.asm j).words)
      (state_of p.edge.cells m.guard ls) i m.holds
      (e.locks m.guard (guards.each w m.guarded.kind m.guard m.guarded.initial m.guarded.is))

  pub step_load : (x : X) (w : ℕ) (k : ℕ → After X) (y : X) → c.at ≡ Outside x → p.next x ≡ Load w k →
      k (view c.buffer s.memory w) ≡ Goes y → Explains p u (moved s i (out_of c y)) ls
  step_load x w k y h n g = elim (may_load p (u i) a w k (next_is x (Load w k) h n) fine) [
    | inl m ↦ goes_on x y h (m.1 y (ap k ((holding w m.0).own w m.0.guarded) ∙ g)) y refl
    | inr t ↦ goes_on x y h
        (t.1 y (ap k
        (sym (view_none c.buffer s.memory w (e.unstored w t.0.value t.0.is i) ∙ e.tables w t.0.value t.0.is)) ∙ g))
        y refl
  ]

  -- a word that one lock guards is apart from the others
  guarded_apart : (g l w : ℕ) → IsUnder p.edge.cells g w → IsLock p.edge.cells l → (l ≡ g → ⊥) →
      IsApart p.edge.cells l w
  guarded_apart g l w h lk d =
      record {
        other = λ q. lock_not_under p.edge.cells l g lk (subst (λ (k : ℕ). IsUnder p.edge.cells g k) q h);
        unguarded =
            λ k. d (under_one p.edge.cells l g w k h);
      }

  table_apart : (g w at v : ℕ) → IsUnder p.edge.cells g w → slice_get p.edge.cells at ≡ Some (TableWord v) → w ≡ at → ⊥
  table_apart g w at v h t q = let b = subst (λ (k : ℕ). IsUnder p.edge.cells g k) q h in let f =
      b.is in absurd (cc (t, f))

  words_else : (g l w v : ℕ) → IsUnder p.edge.cells g w → (l ≡ g → ⊥) → (at : ℕ) → IsUnder p.edge.cells l at →
      put w v a.words at ≡ a.words at
  words_else g l w v h d at k = put_else w v a.words at
      (λ q. d (under_one p.edge.cells l g w (subst (λ (m : ℕ). IsUnder p.edge.cells l m) q k) h))

  pub step_store : (x : X) (w v : ℕ) (y : X) → c.at ≡ Outside x → p.next x ≡ asm.Store w v y →
      Explains p u (moved s i (thread (Outside y) (c.buffer ++ store w v ∷ []) c.ended (suc c.executed))) ls
  step_store x w v y h n = by (may_store p (u i) a w v y (next_is x (asm.Store w v y) h n) fine)
    where
      by : IsMine p (u i) a w × (act p (u i) a ≡ Quiet (writes a w v y)) →
          Explains p u (moved s i (thread (Outside y) (c.buffer ++ store w v ∷ []) c.ended (suc c.executed))) ls
      by m =
          let d : Thread X = thread (Outside y) (c.buffer ++ store w v ∷ []) c.ended (suc c.executed) in
          let refused : (l : ℕ) → is_refused l d.at ≡ is_refused l c.at = λ l. ap (is_refused l) (sym h) in
          let b = writes a w v y in
          let g = m.0.guard in
          moves p u s ls e i d b s.memory None s.output (quiet b (e.runs i) m.1)
          (record { at = refl; steps = ap suc (at_out x h).steps }) (still b) e.legal e.outs (e.occasion i)
          (λ l lk. elim (same_or_not l g) [
            | inl q ↦ stores_own p.edge.cells l p.threads (λ j. (s.threads j).buffer) s.memory
                (refusals p.threads l s.threads) (λ j. (e.asm j).holds l) (λ j. (e.asm j).words)
                (state_of p.edge.cells l ls)
                (λ j. (put i d s.threads j).buffer) s.memory (refusals p.threads l (put i d s.threads))
                (λ j. (put i b e.asm j).holds l) (λ j. (put i b e.asm j).words) (state_of p.edge.cells l ls) i
                w v lk (subst (λ (k : ℕ). IsUnder p.edge.cells k w) (sym q) m.0.guarded) (ap a.holds q ∙ m.0.holds)
                (buffer_here p u s ls e i d b s.memory None) (buffer_else p u s ls e i d b s.memory None) (λ at. refl)
                (bound_kept d refused l (s.memory l))
                (holds_same p u s ls e i d b s.memory None l refl) (words_here p u s ls e i d b s.memory None) refl
                (e.locks l lk)
            | inr q ↦ untouched p u s ls e i d b s.memory None l lk
                (appended_same p.edge.cells l c.buffer w v (guarded_apart g l w m.0.guarded lk q)) (λ at k. refl)
                (bound_kept d refused l (s.memory l)) refl
                (words_else g l w v m.0.guarded q) refl
          ])
          e.tables (λ at t is. appended_else c.buffer w v at (table_apart g w at t m.0.guarded is)
          ∙ e.unstored at t is i)

  pub step_decrement : (x : X) (w : ℕ) (k : ℕ → X) → c.at ≡ Outside x → p.next x ≡ Decrement w k → c.buffer ≡ [] →
      Explains p u (moved_in s (put w (one_less (s.memory w)) s.memory) i (out_of c (k (s.memory w)))) ls
  step_decrement x w k h n empty = by (may_decrement p (u i) a w k (next_is x (Decrement w k) h n) fine)
    where
      by : IsMine p (u i) a w × (act p (u i) a ≡ Quiet (writes a w (one_less (a.words w)) (k (a.words w)))) →
          Explains p u (moved_in s (put w (one_less (s.memory w)) s.memory) i (out_of c (k (s.memory w)))) ls
      by m =
          let d : Thread X = out_of c (k (s.memory w)) in
          let refused : (l : ℕ) → is_refused l d.at ≡ is_refused l c.at = λ l. ap (is_refused l) (sym h) in
          let g = m.0.guard in
          let v : ℕ = one_less (s.memory w) in
          let same : a.words w ≡ s.memory w = (holding w m.0).own w m.0.guarded
          ∙ ap (λ (l : List Store). view l s.memory w) empty in
          let b = writes a w v (k (s.memory w)) in
          let moved_by : act p (u i) a ≡ Quiet b = m.1 ∙ ap (λ (z : ℕ). Quiet (writes a w (one_less z) (k z))) same in
          moves p u s ls e i d b (put w v s.memory) None s.output (quiet b (e.runs i) moved_by)
          (record { at = refl; steps = ap suc (at_out x h).steps }) (still b) e.legal e.outs (e.occasion i)
          (λ l lk. elim (same_or_not l g) [
            | inl q ↦ decrements_own p.edge.cells l p.threads (λ j. (s.threads j).buffer) s.memory
                (refusals p.threads l s.threads) (λ j. (e.asm j).holds l) (λ j. (e.asm j).words)
                (state_of p.edge.cells l ls)
                (λ j. (put i d s.threads j).buffer) (put w v s.memory) (refusals p.threads l (put i d s.threads))
                (λ j. (put i b e.asm j).holds l) (λ j. (put i b e.asm j).words) (state_of p.edge.cells l ls) i
                w v lk (subst (λ (m : ℕ). IsUnder p.edge.cells m w) (sym q) m.0.guarded) (ap a.holds q ∙ m.0.holds)
                empty
                (buffers_same p u s ls e i d b s.memory None refl) (λ at. refl) (bound_kept d refused l (s.memory l))
                (holds_same p u s ls e i d b s.memory None l refl) (words_here p u s ls e i d b s.memory None) refl
                (e.locks l lk)
            | inr q ↦ untouched p u s ls e i d b (put w v s.memory) None l lk (same_self p.edge.cells l c.buffer)
                (put_same p.edge.cells l w v s.memory (guarded_apart g l w m.0.guarded lk q))
                (λ z. subst (λ (y : ℕ). IsMinus (refusals p.threads l (put i d s.threads)) y)
                (sym (put_same p.edge.cells l w v s.memory (guarded_apart g l w m.0.guarded lk q) l (inl refl)))
                (bound_kept d refused l (s.memory l) z)) refl
                (words_else g l w v m.0.guarded q) refl
          ])
          (λ at t is. put_else w v s.memory at (λ q. table_apart g w at t m.0.guarded is (sym q)) ∙ e.tables at t is)
          (λ at t is. e.unstored at t is i)

  pub step_call_lock : (x : X) (l : ℕ) (k : Leftover → X) → c.at ≡ Outside x → p.next x ≡ CallLock l k →
      Explains p u (moved s i (thread (Inside 0 (p.flags x) l k) c.buffer c.ended (suc c.executed))) ls
  step_call_lock x l k h n =
      let d : Thread X = thread (Inside 0 (p.flags x) l k) c.buffer c.ended (suc c.executed) in
      unlisted d a (e.runs i) (record { next = next_is x (CallLock l k) h n; steps = ap suc (at_out x h).steps })
      (still a) refl refl
      (λ m lk. bound_kept d (λ m. never_refused m 0 (p.flags x) l k refl ∙ ap (is_refused m) (sym h)) m (s.memory m))
      (λ m. refl) (λ w. refl)

  pub step_call_unlock : (x : X) (l : ℕ) (k : Leftover → X) → c.at ≡ Outside x → p.next x ≡ CallUnlock l k →
      Explains p u (moved s i (thread (Inside 6 (p.flags x) l k) c.buffer c.ended (suc c.executed))) ls
  step_call_unlock x l k h n =
      let d : Thread X = thread (Inside 6 (p.flags x) l k) c.buffer c.ended (suc c.executed) in
      unlisted d a (e.runs i) (record { next = next_is x (CallUnlock l k) h n; steps = ap suc (at_out x h).steps })
      (still a) refl refl
      (λ m lk. bound_kept d (λ m. never_refused m 6 (p.flags x) l k refl ∙ ap (is_refused m) (sym h)) m (s.memory m))
      (λ m. refl) (λ w. refl)

  pub step_prints : (x : X) (v : ℕ) (y : X) → c.at ≡ Outside x → p.next x ≡ Prints v y →
      Explains p u (state_with s.memory ((i, v) ∷ s.output) (put i (out_of c y) s.threads)) (by_thread i (Out v) ∷ ls)
  step_prints x v y h n =
      let own = projection_own i (Out v) ls in
      local (out_of c y) (told a y) (Some (Out v)) ((i, v) ∷ s.output)
      (subst (λ (k : List RunLabel). AtomicRun p (u i) i k (told a y)) (sym own)
      (says (run.Prints v) (told a y) (e.runs i) (ap (act_by p (u i) a) (next_is x (Prints v y) h n))))
      (record { at = refl; steps = ap suc (at_out x h).steps }) (still_after (Out v) (told a y) (λ z. z))
      (below, tt, e.legal)
      (ap (λ (os : List (ℕ × ℕ)). (i, v) ∷ os) e.outs)
      (ap suc (e.occasion i) ∙ sym (ap (λ (k : List RunLabel). length k) own)) refl
      (λ l lk. bound_kept (out_of c y) (λ l. ap (is_refused l) (sym h)) l (s.memory l)) (λ l. refl) (λ w. refl)
      (λ l. refl)

  pub step_done : (x y : X) → c.at ≡ Outside x → p.next x ≡ Ends y →
      Explains p u (moved s i (thread (Outside y) c.buffer IsDone (suc c.executed))) (by_thread i Done ∷ ls)
  step_done x y h n =
      let own = projection_own i Done ls in
      let d : Thread X = thread (Outside y) c.buffer IsDone (suc c.executed) in
      local d (told a y) (Some Done) s.output
      (subst (λ (k : List RunLabel). AtomicRun p (u i) i k (told a y)) (sym own)
      (says run.Ends (told a y) (e.runs i) (ap (act_by p (u i) a) (next_is x (Ends y) h n))))
      (record { at = refl; steps = ap suc (at_out x h).steps })
      (subst (λ (k : List RunLabel). HasEnded k) (sym own) tt)
      (below, tt, e.legal) e.outs (ap suc (e.occasion i) ∙ sym (ap (λ (k : List RunLabel). length k) own)) refl
      (λ l lk. bound_kept d (λ l. ap (is_refused l) (sym h)) l (s.memory l)) (λ l. refl) (λ w. refl) (λ l. refl)

  -- an end by a word that a load would find: over atomic locks the thread finds the same
  loads_same : (x : X) (w : ℕ) (k : ℕ → After X) (z : After X) → c.at ≡ Outside x → p.next x ≡ Load w k →
      k (view c.buffer s.memory w) ≡ z → act p (u i) a ≡ loaded a z
  loads_same x w k z h n g = elim (finds p (u i) a w k (next_is x (Load w k) h n) fine) [
    | inl m ↦ m.1 ∙ ap (loaded a) (ap k ((holding w m.0).own w m.0.guarded) ∙ g)
    | inr t ↦ t.1
        ∙ ap (loaded a)
        (ap k (sym (view_none c.buffer s.memory w (e.unstored w t.0.value t.0.is i) ∙ e.tables w t.0.value t.0.is)) ∙ g)
  ]

  full_fits : WouldBe p s.memory c NoRoom Halts → act p (u i) a ≡ Stops Full
  full_fits (outright x h n) = ap (act_by p (u i) a) (next_is x NoRoom h n)
  full_fits (by_load x w k h n g) = loads_same x w k Halts h n g

  never_fails : WouldBe p s.memory c Wrong Fails → ⊥
  never_fails (outright x h n) =
      fine (subst (λ (b : Act (Atomic X)). IsBad b) (sym (ap (act_by p (u i) a) (next_is x Wrong h n))) tt)
  never_fails (by_load x w k h n g) =
      fine (subst (λ (b : Act (Atomic X)). IsBad b) (sym (loads_same x w k Fails h n g)) tt)

  end_fits : (why : End) → MayEnd p s.memory c why → EndFits why (projection i ls) (act p (u i) a)
  end_fits Running m = absurd m
  end_fits IsDone m = absurd m
  end_fits OutOfFuel m = fresh
  end_fits IsFull m = (full_fits m, fresh)
  end_fits HasFailed m = absurd (never_fails m)
  end_fits OutOfOuts m =
      ((m.1, told a m.2, ap (act_by p (u i) a) (next_is m.0 (Prints m.1 m.2) m.3 m.4)), fresh)

  pub step_stops : (why : End) → MayEnd p s.memory c why →
      Explains p u (moved s i (thread c.at c.buffer why c.executed)) ls
  step_stops why m =
      let d : Thread X = thread c.at c.buffer why c.executed in
      unlisted d a (e.runs i) (e.stands i) (end_fits why m) refl refl (λ m lk. bound_kept d (λ m. refl) m (s.memory m))
      (λ m. refl) (λ w. refl)
