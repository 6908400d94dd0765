-- What the induction keeps, said of shares that are lists and of runs of the machines of labels.
use Rattle.std.proofs.Common.{◌≡◌, ℕ, zero, suc, ◌<◌, nat_eq, Bool, true, false, List, [], ◌∷◌, length, Option, Some, None, slice_get, if◌then◌else◌, sym, refl, ap, ◌∙◌, subst, inl, inr, arith}
use Rattle.cas_runs.specs.Label.{RunLabel, Lock}
use Rattle.cas_runs.specs.Edge.{Cell, LockWord, SharedWord, TableWord, AreUnder, kind_if_guarded, and_kind, guarded}
use Rattle.cas_runs.specs.Machine as run
use Rattle.cas_runs.specs.Machine.{Act, Quiet, Emits, Locks, IsBad, Block, begun, onward}
use Rattle.cas_runs.specs.Access.{words_in}
use Rattle.cas_runs.specs.Legal.{ThreadLabel, LockState, projection, state_of}
use Rattle.cas_runs.specs.Refines.{Reached}
use Rattle.cas_atomic.specs.Leftover.{Leftover, one_less}
use Rattle.cas_atomic.specs.Buffer.{Store, view}
use Rattle.cas_atomic.specs.Cells.{and_word, under, values}
use Rattle.cas_atomic.specs.AnyRun.{StepsAny, AnyRun, any_starts, any_quiet, any_labelled, any_steps}
use Rattle.cas_atomic.specs.Program as program
use Rattle.cas_atomic.specs.Program.{Setup, After, Goes, Fails, Halts, Event, Plain, Load, Decrement, CallLock, CallUnlock, Prints, Ends, Over, NoRoom, Wrong}
use Rattle.cas_atomic.specs.Atomic.{is_lock, Standing, standing, act, thread}
use Rattle.cas_atomic.specs.Buffered.{Point, Outside, Inside, State}
use Rattle.cas_atomic.specs.Table.{LockStands, free, held, released, refusals}
use Rattle.cas_atomic.specs.Sound as sound
use Rattle.cas_atomic.specs.Sound.{Unknown, StandsBeside, Follows, Depth, IsBadAt, refused_threads}
use Rattle.cas_atomic.proofs.Inner as inner
use Rattle.cas_atomic.proofs.Inner.{Atomic, AtomicRun, begins, quiet, says, locks}
use Rattle.cas_atomic.proofs.Places.{Asks, IsAt, beside, scene, LockIs, is_free, is_held, is_released, Stands, StandsAt, AfterSign}
use Rattle.cas_atomic.proofs.Explaining.{Explains}
use Rattle.cas_atomic.proofs.Words.{same_values}
use Rattle.cas_atomic.proofs.Sharing.{some_if, AreSame, acts_alike, quiet_alike, says_alike, locks_alike, bad_alike, ends_alike}

-- as many words as kinds
count_under : (cs : List Cell) (k lock : ℕ) → length (under cs k lock) ≡ length (guarded lock cs)
count_under [] k lock = refl
count_under (c ∷ cs) k lock = by c (count_under cs (suc k) lock)
  where
    by : (c : Cell) → length (under cs (suc k) lock) ≡ length (guarded lock cs) →
        length (and_word lock k c (under cs (suc k) lock)) ≡ length
        (and_kind (kind_if_guarded lock c) (guarded lock cs))
    by LockWord h = h
    by (TableWord v) h = h
    by (SharedWord kind None v) h = h
    by (SharedWord kind (Some g) v) h = two (nat_eq g lock)
      where
        two : (b : Bool) → length (if b then k ∷ under cs (suc k) lock else under cs (suc k) lock) ≡
            length (and_kind (if b then Some kind else None) (guarded lock cs))
        two true = ap suc h
        two false = h

-- each step over atomic locks is counted
abbrev Counted : {X : Type 0} → ℕ → Act (Atomic X) → Type 0
Counted n (Quiet y) = y.steps ≡ suc n
Counted n (Emits v y) = y.steps ≡ suc n
Counted {X = X} n (Locks l f) = (ws : List ℕ) → (f ws).steps ≡ suc n
Counted n _ = Unit {0}

module _ {X : Type 0} (p : Setup X) (u : ℕ → Leftover) (a : Atomic X) where
  loaded_counted : (x : After X) → Counted a.steps (inner.loaded a x)
  loaded_counted (Goes y) = refl
  loaded_counted Fails = tt
  loaded_counted Halts = tt

  load_counted : (w : ℕ) (k : ℕ → After X) (o : inner.Access) → Counted a.steps (inner.loads a w k o)
  load_counted w k inner.Mine = loaded_counted (k (a.words w))
  load_counted w k (inner.Constant v) = loaded_counted (k v)
  load_counted w k inner.Denied = tt

  store_counted : (w v : ℕ) (y : X) (o : inner.Access) → Counted a.steps (inner.stores a w v y o)
  store_counted w v y inner.Mine = refl
  store_counted w v y (inner.Constant c) = tt
  store_counted w v y inner.Denied = tt

  take_counted : (l : ℕ) (k : Leftover → X) (b h : Bool) → Counted a.steps (inner.takes_if p u a l k b h)
  take_counted l k true true = tt
  take_counted l k true false = λ ws. refl
  take_counted l k false h = tt

  give_counted : (l : ℕ) (k : Leftover → X) (b h : Bool) → Counted a.steps (inner.gives_if p u a l k b h)
  give_counted l k true true = refl
  give_counted l k true false = tt
  give_counted l k false h = tt

  event_counted : (v : Event X) → Counted a.steps (inner.act_by p u a v)
  event_counted (Plain y) = refl
  event_counted (Load w k) = load_counted w k (inner.access p a w)
  event_counted (program.Store w v y) = store_counted w v y (inner.access p a w)
  event_counted (Decrement w k) = store_counted w (one_less (a.words w)) (k (a.words w)) (inner.access p a w)
  event_counted (CallLock l k) = take_counted l k (is_lock (slice_get p.edge.cells l)) (a.holds l)
  event_counted (CallUnlock l k) = give_counted l k (is_lock (slice_get p.edge.cells l)) (a.holds l)
  event_counted (Prints v y) = refl
  event_counted (Ends y) = refl
  event_counted Over = tt
  event_counted NoRoom = tt
  event_counted Wrong = tt

  pub counted_by : (b : Act (Atomic X)) → inner.act p u a ≡ b → Counted a.steps b
  counted_by b e = subst (λ (c : Act (Atomic X)). Counted a.steps c) e (event_counted (p.next a.at))

module _ {X : Type 0} (p : Setup X) where
  -- an event of the machine of labels is a label
  steps_by : (before : List RunLabel) (a : Act (Standing X)) (v : run.Event) (c : Standing X) → a ≡ Emits v c →
      StepsAny p.edge before a (run.label_of v) c
  steps_by before a v c e =
      subst (λ (b : Act (Standing X)). StepsAny p.edge before b (run.label_of v) c) (sym e) (refl, refl)

  -- the run with the share as a list
  pub record Beside (u : ℕ → Leftover) (i : ℕ) (ls : List RunLabel) (a : Atomic X) : Type 0 where
    pub to : Reached (Standing X)
    pub run : AnyRun p.edge (thread p u i) ls to.blocks to.block to.at
    pub same : AreSame p a to.at
    pub steps : any_steps run ≡ a.steps

  abbrev reached : List Block → Block → Standing X → Reached (Standing X)
  reached bs b x = record { blocks = bs; block = b; at = x }

  pub beside_run : (u : ℕ → Leftover) (i : ℕ) (ls : List RunLabel) (a : Atomic X) → AtomicRun p u i ls a →
      Beside u i ls a
  beside_run u i _ _ begins = record {
    to = reached [] (begun (thread p u i) (thread p u i).start) (standing (p.first i) [] 0);
    run = any_starts;
    same = record { at = refl; share = record { each = λ l. refl; from = tt }; occasion = refl };
    steps = refl;
  }
  beside_run u i ls _ (quiet {a = a} y r e) =
      let k = beside_run u i ls a r in
      let c = quiet_alike p (inner.act p u a) (act p u k.to.at) y e (acts_alike p u a k.to.at k.same) in
      let n = k.steps in
      record {
        to = reached k.to.blocks (onward (thread p u i) k.to.block c.0) c.0;
        run = any_quiet c.0 k.run c.1;
        same = c.2;
        steps = let m = counted_by p u a (Quiet y) e in omega arith;
      }
  beside_run u i _ _ (says {ls = ls} {a = a} v y r e) =
      let k = beside_run u i ls a r in
      let c = says_alike p (inner.act p u a) (act p u k.to.at) v y e (acts_alike p u a k.to.at k.same) in
      record {
        to = reached (k.to.block ∷ k.to.blocks) (begun (thread p u i) c.0) c.0;
        run = any_labelled (run.label_of v) c.0 k.run (steps_by ls (act p u k.to.at) v c.0 c.1);
        same = c.2;
        steps = let n = k.steps in let m = counted_by p u a (Emits v y) e in omega arith;
      }
  beside_run u i _ _ (locks {ls = ls} {a = a} l f ws r e n) =
      let k = beside_run u i ls a r in
      let c = locks_alike p (inner.act p u a) (act p u k.to.at) l f e (acts_alike p u a k.to.at k.same) in
      let brings : AreUnder p.edge l ws = record { is_lock = c.lock.is; count = n ∙ count_under p.edge.cells 0 l } in
      record {
        to = reached (k.to.block ∷ k.to.blocks) (begun (thread p u i) (c.next ws)) (c.next ws);
        run = any_labelled (Lock l ws) (c.next ws) k.run
            (subst (λ (b : Act (Standing X)). StepsAny p.edge ls b (Lock l ws) (c.next ws)) (sym c.is)
            (ws, refl, brings, refl));
        same = c.same ws n;
        steps = let n = k.steps in let m = counted_by p u a (Locks l f) e ws in omega arith;
      }

  -- where the machine's thread is, as the lock object's place tells it
  pub stands_beside : (a : Atomic X) (x : X) (steps : ℕ) → x ≡ a.at → steps ≡ a.steps → (b : List Store) (n : ℕ)
      (w : Point X) → Stands p a b n w → StandsBeside p x steps n w
  stands_beside a x steps e q b n (Outside y) s = (e ∙ s.at, q ∙ s.steps)
  stands_beside a x steps e q b n (Inside place f l k) s = by place s
    where
      next : p.next x ≡ p.next a.at
      next = ap p.next e

      behind : IsAt a n (k f) → StandsBeside p x steps n (Inside place f l k)
      behind h = inr (f, e ∙ h.at, q ∙ h.steps)

      before : Asks p a n l k → StandsBeside p x steps n (Inside place f l k)
      before h = inl (inl (next ∙ h.next), ap suc q ∙ h.steps)

      signed : (t : Bool) → AfterSign (beside p a b n) f l k t → StandsBeside p x steps n (Inside place f l k)
      signed true h = before h.asks
      signed false h = behind h

      by : (at : ℕ) → StandsAt (beside p a b n) f l k at → StandsBeside p x steps n (Inside place f l k)
      by zero h = before h
      by (suc zero) h = signed f.flags.sign h
      by (suc (suc zero)) h = before h.asks
      by (suc (suc (suc zero))) h = before h.asks
      by (suc (suc (suc (suc zero)))) h = before h
      by (suc (suc (suc (suc (suc zero))))) h = behind h
      by (suc (suc (suc (suc (suc (suc zero)))))) h = inl (inr (next ∙ h.next), ap suc q ∙ h.steps)
      by (suc (suc (suc (suc (suc (suc (suc zero))))))) h = behind h
      by (suc (suc (suc (suc (suc (suc (suc (suc m)))))))) h = absurd h

  -- a lock's state by shares that are lists
  pub lock_stands : (lock most : ℕ) (buffers : ℕ → List Store) (memory : ℕ → ℕ) (holds : ℕ → Bool) (words : ℕ → ℕ → ℕ)
      (labelled : LockState) (shares : ℕ → Option (List ℕ)) →
      ((j : ℕ) → shares j ≡ some_if (holds j) (values (words j) (under p.edge.cells 0 lock))) →
      LockIs p.edge.cells lock (scene buffers memory most holds words labelled) →
      LockStands p.edge.cells lock (record {
        buffers = buffers;
        memory = memory;
        most = most;
        shares = shares;
        labelled = labelled;
      })
  lock_stands lock most buffers memory holds words labelled shares h (is_free one clear none s) =
      free one clear (λ j. h j ∙ ap (λ (t : Bool). some_if t (values (words j) (under p.edge.cells 0 lock))) (none j)) s
  lock_stands lock most buffers memory holds words labelled shares h (is_held i minus unstored others mine none own s) =
      held i minus unstored others
      (h i ∙ ap (λ (t : Bool). some_if t (values (words i) (under p.edge.cells 0 lock))) mine
      ∙ ap Some (same_values p.edge.cells lock (words i) (view (buffers i) memory) own))
      (λ j d. h j ∙ ap (λ (t : Bool). some_if t (values (words j) (under p.edge.cells 0 lock))) (none j d)) s
  lock_stands lock most buffers memory holds words labelled shares h (is_released i minus rel others none s) =
      released i minus rel others
      (λ j. h j ∙ ap (λ (t : Bool). some_if t (values (words j) (under p.edge.cells 0 lock))) (none j)) s

  module _ (u : Unknown) (s : State X) (ls : List ThreadLabel) (e : Explains p u s ls) where
    abbrev pub run_of : (i : ℕ) → Beside (u i) i (projection i ls) (e.asm i)
    run_of i = beside_run (u i) i (projection i ls) (e.asm i) (e.runs i)

    abbrev pub shown : sound.Explains p (refused_threads p) u s ls
    shown = record {
      follows = λ i. record {
        to = (run_of i).to;
        run = (run_of i).run;
        stands = stands_beside (e.asm i) (run_of i).to.at.at (any_steps (run_of i).run) (run_of i).same.at
            (run_of i).steps (s.threads i).buffer (s.threads i).executed (s.threads i).at (e.stands i);
        ends = ends_alike p (inner.act p (u i) (e.asm i)) (act p (u i) (run_of i).to.at) (s.threads i).ended
            (projection i ls) (e.ends i) (acts_alike p (u i) (e.asm i) (run_of i).to.at (run_of i).same);
      };
      legal = e.legal;
      outs = e.outs;
      locks = λ l lk. lock_stands l (refusals p.threads l s.threads) (λ j. (s.threads j).buffer) s.memory
          (λ j. (e.asm j).holds l) (λ j. (e.asm j).words) (state_of p.edge.cells l ls)
          (λ j. words_in (run_of j).to.at.share l) (λ j. (run_of j).same.share.each l) (e.locks l lk);
      tables = λ w v t. (e.tables w v t, e.unstored w v t);
    }

    pub shown_bad : (i : ℕ) → i < p.threads → IsBad (inner.act p (u i) (e.asm i)) →
        IsBadAt p (refused_threads p) u s ls
    shown_bad i below bad = record {
      explains = shown;
      thread = i;
      there = below;
      bad = bad_alike p (inner.act p (u i) (e.asm i)) (act p (u i) (run_of i).to.at) bad
          (acts_alike p (u i) (e.asm i) (run_of i).to.at (run_of i).same);
    }
