-- The drain of a thread's oldest store.
use Rattle.std.proofs.Common.{◌≡◌, ℕ, zero, suc, Bool, true, false, List, ◌∷◌, None, sym, refl, ap, ◌∙◌, subst, inl, inr}
use Rattle.cas_atomic.specs.Leftover.{Leftover, IsMinus}
use Rattle.cas_atomic.specs.Buffer.{Store, store, newest, put}
use Rattle.cas_atomic.proofs.Explaining.{Explains}
use Rattle.cas_atomic.proofs.Inner.{Atomic}
use Rattle.cas_atomic.proofs.Places.{beside, Stands, AfterSign, AsksEmpty}
use Rattle.cas_atomic.specs.Buffered.{Point, Outside, Inside, Thread, thread, State, moved_in}
use Rattle.cas_atomic.specs.Program.{Setup}
use Rattle.cas_atomic.specs.Sound.{Unknown}
use Rattle.cas_atomic.specs.Table.{refusals}
use Rattle.cas_runs.specs.Legal.{ThreadLabel, state_of}
use Rattle.cas_atomic.proofs.Basic.{put_else, popped_none, oldest_there}
use Rattle.cas_atomic.proofs.Words.{sort_of}
use Rattle.cas_atomic.proofs.Locks.{AreSame, popped_same, put_same}
use Rattle.cas_atomic.proofs.Own.{drains_lock, drains_own}
use Rattle.cas_atomic.proofs.Counts.{refusals_kept}
use Rattle.cas_atomic.proofs.Moving.{LockAfter, moves, untouched, buffer_here, buffer_else, holds_same, words_same}

module _ {X : Type 0} (p : Setup X) (a : Atomic X) (b rest : List Store) (x : Store) (n : ℕ) (h : b ≡ x ∷ rest) where
  not_empty : {k : Leftover → X} (l : ℕ) → AsksEmpty p a b n l k → AsksEmpty p a rest n l k
  not_empty l m = let f = m.empty in absurd (cc (h, f))

  -- where a buffer must be empty, nothing drains
  stands_after : (w : Point X) → Stands p a b n w → Stands p a rest n w
  stands_after (Outside y) m = m
  stands_after (Inside zero f l k) m = m
  stands_after (Inside (suc zero) f l k) m = by f.flags.sign m
    where
      by : (t : Bool) → AfterSign (beside p a b n) f l k t → AfterSign (beside p a rest n) f l k t
      by true st = not_empty l st
      by false st = st
  stands_after (Inside (suc (suc zero)) f l k) m = not_empty l m
  stands_after (Inside (suc (suc (suc zero))) f l k) m = not_empty l m
  stands_after (Inside (suc (suc (suc (suc zero)))) f l k) m = m
  stands_after (Inside (suc (suc (suc (suc (suc zero))))) f l k) m = m
  stands_after (Inside (suc (suc (suc (suc (suc (suc zero)))))) f l k) m = m
  stands_after (Inside (suc (suc (suc (suc (suc (suc (suc zero))))))) f l k) m = m
  stands_after (Inside (suc (suc (suc (suc (suc (suc (suc (suc j)))))))) f l k) m = absurd m

module _ {X : Type 0} (p : Setup X) (u : Unknown) (s : State X) (ls : List ThreadLabel) (e : Explains p u s ls)
    (i : ℕ) where
  pub step_drain : (w v : ℕ) (rest : List Store) → (s.threads i).buffer ≡ store w v ∷ rest →
      Explains p u
      (moved_in s (put w v s.memory) i (thread (s.threads i).at rest (s.threads i).ended (s.threads i).executed)) ls
  step_drain w v rest h =
      let c = s.threads i in
      let a = e.asm i in
      let d : Thread X = thread c.at rest c.ended c.executed in
      let m' = put w v s.memory in
      let bound : (l m : ℕ) → IsMinus (refusals p.threads l s.threads) m →
      IsMinus (refusals p.threads l (put i d s.threads)) m =
      λ l m z. subst (λ (r : ℕ). IsMinus r m) (sym (refusals_kept p.threads l s.threads i d refl)) z in
      moves p u s ls e i d a m' None s.output (e.runs i)
      (stands_after p a c.buffer rest (store w v) c.executed h c.at (e.stands i)) (e.ends i) e.legal e.outs
      (e.occasion i)
      (λ l lk. elim (sort_of p.edge.cells l w) [
        | inl q ↦ subst (λ (m : ℕ → ℕ). LockAfter p u s ls e i d a m None l) (ap (λ (k : ℕ). put k v s.memory) (sym q))
            (drains_lock p.edge.cells l p.threads (λ j. (s.threads j).buffer) s.memory (refusals p.threads l s.threads)
            (λ j. (e.asm j).holds l) (λ j. (e.asm j).words) (state_of p.edge.cells l ls)
            (λ j. (put i d s.threads j).buffer) (put l v s.memory) (refusals p.threads l (put i d s.threads))
            (λ j. (put i a e.asm j).holds l) (λ j. (put i a e.asm j).words) (state_of p.edge.cells l ls) i
            v rest lk (h ∙ ap (λ (k : ℕ). store k v ∷ rest) q) (buffer_here p u s ls e i d a m' None)
            (buffer_else p u s ls e i d a m' None) (λ at. refl) (holds_same p u s ls e i d a m' None l refl) refl
            (e.locks l lk))
        | inr (inl g) ↦ drains_own p.edge.cells l p.threads (λ j. (s.threads j).buffer) s.memory
            (refusals p.threads l s.threads) (λ j. (e.asm j).holds l) (λ j. (e.asm j).words)
            (state_of p.edge.cells l ls)
            (λ j. (put i d s.threads j).buffer) m' (refusals p.threads l (put i d s.threads))
            (λ j. (put i a e.asm j).holds l) (λ j. (put i a e.asm j).words) (state_of p.edge.cells l ls) i
            w v rest lk g h (buffer_here p u s ls e i d a m' None) (buffer_else p u s ls e i d a m' None) (λ at. refl)
            (bound l (s.memory l)) (holds_same p u s ls e i d a m' None l refl)
            (words_same p u s ls e i d a m' None (λ at. refl) i) refl (e.locks l lk)
        | inr (inr k) ↦ untouched p u s ls e i d a m' None l lk
            (subst (λ (b : List Store). AreSame p.edge.cells l b rest) (sym h) (popped_same p.edge.cells l w v rest k))
            (put_same p.edge.cells l w v s.memory k)
            (λ z. subst (λ (y : ℕ). IsMinus (refusals p.threads l (put i d s.threads)) y)
            (sym (put_same p.edge.cells l w v s.memory k l (inl refl))) (bound l (s.memory l) z)) refl
            (λ at g. refl) refl
      ])
      (λ at t is. put_else w v s.memory at
      (λ q. oldest_there w v rest (ap (λ (b : List Store). newest b w) (sym h) ∙ ap (newest c.buffer) (sym q)
      ∙ e.unstored at t is i)) ∙ e.tables at t is)
      (λ at t is. popped_none w v rest at (ap (λ (b : List Store). newest b at) (sym h) ∙ e.unstored at t is i))
