-- A step changes one thread: what is to show of the next state, and what is left of each lock that the step doesn't
-- concern.
use Rattle.std.proofs.Common.{◌≡◌, ℕ, List, ◌∷◌, Option, Some, None, slice_get, length, sym, refl, ap, ◌∙◌, subst, inl, inr}
use Rattle.cas_atomic.specs.Leftover.{IsMinus}
use Rattle.cas_atomic.specs.Buffer.{newest, put}
use Rattle.cas_atomic.proofs.Explaining.{Explains}
use Rattle.cas_atomic.proofs.Inner.{Atomic, act, AtomicRun}
use Rattle.cas_atomic.proofs.Places.{scene, LockIs, Stands}
use Rattle.cas_atomic.specs.Buffered.{End, Running, Thread, State, state_with}
use Rattle.cas_atomic.specs.Cells.{IsLock, IsUnder}
use Rattle.cas_atomic.specs.Labels.{by_thread, outs_of, listed}
use Rattle.cas_atomic.specs.Program.{Setup}
use Rattle.cas_atomic.specs.Sound.{Unknown, EndFits}
use Rattle.cas_atomic.specs.Table.{refusals}
use Rattle.cas_runs.specs.Edge.{TableWord}
use Rattle.cas_runs.specs.Label.{RunLabel}
use Rattle.cas_runs.specs.Legal.{ThreadLabel, IsLegal, projection, state_of}
use Rattle.cas_runs.specs.Rules.{HasEnded}
use Rattle.cas_runs.specs.Machine.{Act}
use Rattle.cas_atomic.proofs.Basic.{if_same, if_not, put_here, put_else, each_put}
use Rattle.cas_atomic.proofs.Locks.{AreSame, IsRelevant, same_self, keep}

pub projection_own : (i : ℕ) (l : RunLabel) (ls : List ThreadLabel) →
    projection i (by_thread i l ∷ ls) ≡ l ∷ projection i ls
projection_own i l ls = if_same i i (l ∷ projection i ls) (projection i ls) refl

pub projection_else : (i j : ℕ) (o : Option RunLabel) (ls : List ThreadLabel) → (j ≡ i → ⊥) →
    projection j (listed i o ls) ≡ projection j ls
projection_else i j None ls d = refl
projection_else i j (Some l) ls d = if_not i j (l ∷ projection j ls) (projection j ls) (λ q. d (sym q))

-- a thread that runs fits whatever it stands at, if it isn't Done
pub runs_on : {S : Type 0} (d : End) (ls : List RunLabel) (b : Act S) → d ≡ Running → (HasEnded ls → ⊥) →
    EndFits d ls b
runs_on d ls b h fresh = subst (λ (k : End). EndFits k ls b) (sym h) fresh

module _ {X : Type 0} (p : Setup X) (u : Unknown) (s : State X) (ls : List ThreadLabel) (e : Explains p u s ls)
    (i : ℕ) where
  module _ (c : Thread X) (a : Atomic X) (m : ℕ → ℕ) (o : Option RunLabel) where
    abbrev pub LockAfter : ℕ → Type 0
    LockAfter l =
        LockIs p.edge.cells l (scene (λ j. (put i c s.threads j).buffer) m (refusals p.threads l (put i c s.threads))
        (λ j. (put i a e.asm j).holds l) (λ j. (put i a e.asm j).words) (state_of p.edge.cells l (listed i o ls)))

    abbrev pub LocksAfter : Type 0
    LocksAfter = (l : ℕ) → IsLock p.edge.cells l → LockAfter l

    pub moves : (out : List (ℕ × ℕ)) → AtomicRun p (u i) i (projection i (listed i o ls)) a →
        Stands p a c.buffer c.executed c.at → EndFits c.ended (projection i (listed i o ls)) (act p (u i) a) →
        IsLegal p.edge.cells p.threads (listed i o ls) → outs_of (listed i o ls) ≡ out
        → a.occasion ≡ length (projection i (listed i o ls)) → LocksAfter →
        ((w v : ℕ) → slice_get p.edge.cells w ≡ Some (TableWord v) → m w ≡ v)
        → ((w v : ℕ) → slice_get p.edge.cells w ≡ Some (TableWord v) → newest c.buffer w ≡ None) →
        Explains p u (state_with m out (put i c s.threads)) (listed i o ls)
    moves out run stand fit legal outs occ locks tables unstored = record {
      asm = put i a e.asm;
      runs = each_put (λ j b. AtomicRun p (u j) j (projection j (listed i o ls)) b) i a e.asm run
          (λ j d. subst (λ (k : List RunLabel). AtomicRun p (u j) j k (e.asm j)) (sym (projection_else i j o ls d))
          (e.runs j));
      stands = stands_after;
      ends = ends_after;
      legal = legal;
      outs = outs;
      occasion = each_put (λ j b. b.occasion ≡ length (projection j (listed i o ls))) i a e.asm occ
          (λ j d. e.occasion j ∙ ap (λ (k : List RunLabel). length k) (sym (projection_else i j o ls d)));
      locks = locks;
      tables = tables;
      unstored = λ w v t. each_put (λ j k. newest k.buffer w ≡ None) i c s.threads (unstored w v t)
          (λ j d. e.unstored w v t j);
    }
      where
        stands_after : (j : ℕ) → Stands p (put i a e.asm j) (put i c s.threads j).buffer (put i c s.threads j).executed
            (put i c s.threads j).at
        stands_after j = elim (Rattle.cas_atomic.proofs.Basic.same_or_not j i) [
          | inl h ↦ subst (λ (k : Thread X). Stands p (put i a e.asm j) k.buffer k.executed k.at)
              (sym (put_here i c s.threads j h)) (subst (λ (b : Atomic X). Stands p b c.buffer c.executed c.at)
              (sym (put_here i a e.asm j h)) stand)
          | inr d ↦ subst (λ (k : Thread X). Stands p (put i a e.asm j) k.buffer k.executed k.at)
              (sym (put_else i c s.threads j d))
              (subst (λ (b : Atomic X). Stands p b (s.threads j).buffer (s.threads j).executed (s.threads j).at)
              (sym (put_else i a e.asm j d)) (e.stands j))
        ]

        ends_after : (j : ℕ) → EndFits (put i c s.threads j).ended (projection j (listed i o ls))
            (act p (u j) (put i a e.asm j))
        ends_after j = elim (Rattle.cas_atomic.proofs.Basic.same_or_not j i) [
          | inl h ↦ subst (λ (k : Thread X). EndFits k.ended (projection j (listed i o ls))
              (act p (u j) (put i a e.asm j)))
              (sym (put_here i c s.threads j h)) (subst (λ (b : Atomic X). EndFits c.ended
              (projection j (listed i o ls)) (act p (u j) b)) (sym (put_here i a e.asm j h))
              (subst (λ (k : ℕ). EndFits c.ended (projection k (listed i o ls)) (act p (u k) a)) (sym h) fit))
          | inr d ↦ subst (λ (k : Thread X). EndFits k.ended (projection j (listed i o ls))
              (act p (u j) (put i a e.asm j)))
              (sym (put_else i c s.threads j d))
              (subst (λ (k : List RunLabel). EndFits (s.threads j).ended k (act p (u j) (put i a e.asm j)))
              (sym (projection_else i j o ls d))
              (subst (λ (b : Atomic X). EndFits (s.threads j).ended (projection j ls) (act p (u j) b))
              (sym (put_else i a e.asm j d)) (e.ends j)))
        ]

    -- a lock that the step doesn't concern
    pub untouched : (l : ℕ) → IsLock p.edge.cells l → AreSame p.edge.cells l (s.threads i).buffer c.buffer →
        ((w : ℕ) → IsRelevant p.edge.cells l w → m w ≡ s.memory w)
        → (IsMinus (refusals p.threads l s.threads) (s.memory l) →
        IsMinus (refusals p.threads l (put i c s.threads)) (m l)) → a.holds l ≡ (e.asm i).holds l
        → ((w : ℕ) → IsUnder p.edge.cells l w → a.words w ≡ (e.asm i).words w) →
        state_of p.edge.cells l (listed i o ls) ≡ state_of p.edge.cells l ls
        → LockIs p.edge.cells l (scene (λ j. (put i c s.threads j).buffer) m (refusals p.threads l (put i c s.threads))
        (λ j. (put i a e.asm j).holds l) (λ j. (put i a e.asm j).words) (state_of p.edge.cells l (listed i o ls)))
    untouched l lk same mem bound hold word st =
        keep p.edge.cells l p.threads (λ j. (s.threads j).buffer) (λ j. (put i c s.threads j).buffer) s.memory m
        (refusals p.threads l s.threads) (refusals p.threads l (put i c s.threads))
        (λ j. (e.asm j).holds l) (λ j. (put i a e.asm j).holds l) (λ j. (e.asm j).words) (λ j. (put i a e.asm j).words)
        (state_of p.edge.cells l ls) (state_of p.edge.cells l (listed i o ls))
        (each_put (λ j k. AreSame p.edge.cells l (s.threads j).buffer k.buffer) i c s.threads same
        (λ j d. same_self p.edge.cells l (s.threads j).buffer))
        mem bound
        (each_put (λ j b. b.holds l ≡ (e.asm j).holds l) i a e.asm hold (λ j d. refl))
        (each_put (λ j b. (w : ℕ) → IsUnder p.edge.cells l w → b.words w ≡ (e.asm j).words w) i a e.asm word
        (λ j d w g. refl))
        st (e.locks l lk)

    -- the parts of the step's thread and of the others, as the laws on a lock's own steps take them
    pub buffer_here : (put i c s.threads i).buffer ≡ c.buffer
    buffer_here = ap (λ (k : Thread X). k.buffer) (put_here i c s.threads i refl)

    pub buffer_else : (j : ℕ) → (j ≡ i → ⊥) → (put i c s.threads j).buffer ≡ (s.threads j).buffer
    buffer_else j d = ap (λ (k : Thread X). k.buffer) (put_else i c s.threads j d)

    pub buffers_same : c.buffer ≡ (s.threads i).buffer → (j : ℕ) → (put i c s.threads j).buffer ≡ (s.threads j).buffer
    buffers_same h = each_put (λ j k. k.buffer ≡ (s.threads j).buffer) i c s.threads h (λ j d. refl)

    pub holds_here : (l : ℕ) → (put i a e.asm i).holds l ≡ a.holds l
    holds_here l = ap (λ (b : Atomic X). b.holds l) (put_here i a e.asm i refl)

    pub holds_else : (l j : ℕ) → (j ≡ i → ⊥) → (put i a e.asm j).holds l ≡ (e.asm j).holds l
    holds_else l j d = ap (λ (b : Atomic X). b.holds l) (put_else i a e.asm j d)

    pub holds_same : (l : ℕ) → a.holds l ≡ (e.asm i).holds l → (j : ℕ) → (put i a e.asm j).holds l ≡ (e.asm j).holds l
    holds_same l h = each_put (λ j b. b.holds l ≡ (e.asm j).holds l) i a e.asm h (λ j d. refl)

    pub words_here : (w : ℕ) → (put i a e.asm i).words w ≡ a.words w
    words_here w = ap (λ (b : Atomic X). b.words w) (put_here i a e.asm i refl)

    pub words_same : ((w : ℕ) → a.words w ≡ (e.asm i).words w) → (j w : ℕ) →
        (put i a e.asm j).words w ≡ (e.asm j).words w
    words_same h = each_put (λ j b. (w : ℕ) → b.words w ≡ (e.asm j).words w) i a e.asm h (λ j d w. refl)
