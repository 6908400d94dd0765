-- Along a run, and the theorem: a run of the x86-TSO machine is one of processors as tables, for which the lock object
-- is sound.
use Rattle.std.proofs.Common.{◌≡◌, ℕ, zero, suc, ◌+◌, ◌*◌, ◌<◌, ◌≤◌, List, [], ◌∷◌, length, Option, Some, slice_get, sym, refl, ap, ◌∙◌, subst, inl, inr, ◌⊎◌, arith, length-set}
use Rattle.std.specs.Prelude.{slice_set}
use Rattle.std.proofs.lemmas.Option.{slice_get_within}
use Rattle.cas_tso.specs.State.{Setup, State, Thread}
use Rattle.cas_tso.specs.Step as step
use Rattle.cas_tso.specs.Step.{Act, Step, Takes, after}
use Rattle.cas_tso.specs.Run.{Run, at_start, and_step, start_state, first_thread, threads_from}
use Rattle.cas_atomic.specs.Buffer.{put}
use Rattle.cas_atomic.specs.Atomic.{act}
use Rattle.cas_atomic.specs.Sound.{Unknown, Waits}
use Rattle.cas_atomic.proofs.Basic.{same_or_not, put_here, put_else}
use Rattle.cas_runs.specs.Legal.{projection}
use Rattle.cas_refine.specs.Machine as table
use Rattle.cas_refine.specs.Machine.{World, Linked, setup}
use Rattle.cas_refine.specs.Sound as sound
use Rattle.cas_refine.specs.Sound.{IsBadNow}
use Rattle.cas_runs.specs.Edge.{Edge}
use Rattle.cas_refine.specs.Listing.{IsLinked, HasRoom, linked, tables, outside_after, outside_of, inside_at, inside_of, label_of, labels_of, IsBadBefore, IsSoundLock}
use Rattle.cas_refine.proofs.Landing.{bottom_stays}
use Rattle.cas_refine.proofs.Opening.{opens_alike, stacks_fit, stack_high}
use Rattle.cas_refine.proofs.Tables.{Does, acts}
use Rattle.cas_refine.proofs.Whole.{sound_on}

-- an entry of a list with one set is the new one or an old one
set_entry : {A : Type 0} (xs : List A) (i j : ℕ) (y z : A) → slice_get (slice_set xs i y) j ≡ Some z →
    (z ≡ y) ⊎ (slice_get xs j ≡ Some z)
set_entry [] i j y z e = inr e
set_entry (x ∷ xs) zero zero y z e = inl (let s : y ≡ z = cc e in sym s)
set_entry (x ∷ xs) zero (suc j) y z e = inr e
set_entry (x ∷ xs) (suc i) zero y z e = inr e
set_entry (x ∷ xs) (suc i) (suc j) y z e = set_entry xs i j y z e

module _ (edge : Edge) (p : Setup) where
  abbrev P : Linked
  P = linked edge p

  -- there is a thread for each entry, and each stack is above the shared words
  record IsPlaced (s : State) : Type 0 where
    count : length s.threads ≡ length p.image.entries
    high : (j : ℕ) (c : Thread) → slice_get s.threads j ≡ Some c → 268435456 ≤ c.cpu.bottom

  bottom_kept : (c : Thread) (a : Act) (d : Thread) → Takes p c a d → d.cpu.bottom ≡ c.cpu.bottom
  bottom_kept c step.plain d x = ap (λ (z : Thread). z.cpu.bottom) x.2 ∙ bottom_stays p.image c.cpu 0
  bottom_kept c (step.forwarded at word) d x = ap (λ (z : Thread). z.cpu.bottom) x.4 ∙ bottom_stays p.image c.cpu word
  bottom_kept c (step.loaded at word) d x = ap (λ (z : Thread). z.cpu.bottom) x.4 ∙ bottom_stays p.image c.cpu word
  bottom_kept c (step.stored at value) d x = ap (λ (z : Thread). z.cpu.bottom) x.3 ∙ bottom_stays p.image c.cpu 0
  bottom_kept c (step.drained at value) d x = ap (λ (z : Thread). z.cpu.bottom) x.3
  bottom_kept c (step.decremented at word) d x = ap (λ (z : Thread). z.cpu.bottom) x.3 ∙ bottom_stays p.image c.cpu word
  bottom_kept c (step.printed ticket word) d x = ap (λ (z : Thread). z.cpu.bottom) x.3 ∙ bottom_stays p.image c.cpu 0
  bottom_kept c (step.stopped read e) d x = ap (λ (z : Thread). z.cpu.bottom) x.2

  threads_length : (es : List ℕ) (k : ℕ) → length (threads_from p k es) ≡ length es
  threads_length [] k = refl
  threads_length (e ∷ es) k = ap suc (threads_length es (k + 1))

  threads_high : (es : List ℕ) (k j : ℕ) (c : Thread) → slice_get (threads_from p k es) j ≡ Some c →
      268435456 ≤ c.cpu.bottom
  threads_high [] k j c e = absurd (cc e)
  threads_high (x ∷ es) k zero c e =
      let same : first_thread p k ≡ c = cc e in
      subst (λ (z : Thread). 268435456 ≤ z.cpu.bottom) same (stack_high p k)
  threads_high (x ∷ es) k (suc j) c e = threads_high es (k + 1) j c e

  placed_first : IsPlaced (start_state p)
  placed_first = record {
    count = threads_length p.image.entries 0;
    high = λ j c e. threads_high p.image.entries 0 j c e;
  }

  placed_after : (s : State) (i : ℕ) (a : Act) (t : State) → IsPlaced s → Step p s i a t → IsPlaced t
  placed_after s i a t h x =
      let c = x.0 in
      let d = x.1 in
      subst IsPlaced (sym x.5) (record {
        count = length-set s.threads i d ∙ h.count;
        high = λ j z e. elim (set_entry s.threads i j d z e) [
          | inl new ↦
              let old = h.high i c x.2 in
              let kept = bottom_kept c a d x.3 in
              subst (λ (y : Thread). 268435456 ≤ y.cpu.bottom) (sym new)
              (subst (λ (n : ℕ). 268435456 ≤ n) (sym kept) old)
          | inr there ↦ h.high j z there
        ];
      })

  placed : {steps : List (ℕ × Act)} {s : State} → Run p steps s → IsPlaced s
  placed at_start = placed_first
  placed (and_step {s = s} r i a t x) = placed_after s i a t (placed r) x

  -- the run as tables, and what a Bad step in it means
  record IsTabled {steps : List (ℕ × Act)} {s : State} (r : Run p steps s) : Type 0 where
    run : table.Run P (tables p s (outside_of r)) (labels_of edge r)
    inside : (j : ℕ) → table.inside_of run j ≡ inside_of r j
    earlier : (u : Unknown) → sound.IsBadEarlier u run → IsBadBefore edge u r

  Opened : World → Type 0
  Opened v = (run : table.Run P v [])
      × ((u : Unknown) → sound.IsBadEarlier u run → IsBadNow P u v [])
      × ((j : ℕ) → table.inside_of run j ≡ 0)

  module _ (l : IsLinked p.image edge) (room : HasRoom p) where
    opened : Opened (tables p (start_state p) (λ j. 0))
    unfolding Opened
    opened = subst (λ (v : World). Opened v) (opens_alike edge p l) (table.opens, λ u b. b, λ j. refl)

    step_tabled : (s : State) (n : ℕ → ℕ) (i : ℕ) (a : Act) (t : State) → IsPlaced s → Step p s i a t →
        Does edge p (tables p s n) i (inside_at (slice_get s.threads i) a)
        (tables p t (put i (outside_after (slice_get s.threads i) a (n i)) n))
        (label_of edge p s (slice_get s.threads i) a)
    step_tabled s n i a t h x =
        let c = x.0 in
        let d = x.1 in
        subst (λ (z : State). Does edge p (tables p s n) i (inside_at (slice_get s.threads i) a)
        (tables p z (put i (outside_after (slice_get s.threads i) a (n i)) n))
        (label_of edge p s (slice_get s.threads i) a))
        (sym x.5)
        (subst (λ (o : Option Thread). Does edge p (tables p s n) i (inside_at o a)
        (tables p (after i a d s) (put i (outside_after o a (n i)) n)) (label_of edge p s o a)) (sym x.2)
        (acts edge p s n i c x.2 room.words (h.high i c x.2) a d x.3 x.4))

    tabled : {steps : List (ℕ × Act)} {s : State} (r : Run p steps s) → IsTabled r
    unfolding Opened
    tabled at_start = record { run = opened.0; inside = λ j. opened.2 j; earlier = λ u b. opened.1 u b }
    tabled (and_step {s = s} r i a t x) =
        let k = tabled r in
        let h = placed r in
        let count = h.count in
        let within = slice_get_within s.threads i x.0 x.2 in
        let below : i < length p.image.entries = omega arith in
        let does = step_tabled s (outside_of r) i a t h x in
        let more = inside_at (slice_get s.threads i) a in
        record {
          run = table.and_then i
              (tables p t (put i (outside_after (slice_get s.threads i) a (outside_of r i)) (outside_of r)))
              (label_of edge p s (slice_get s.threads i) a) k.run below does.0;
          inside = λ j. elim (same_or_not j i) [
            | inl q ↦
                put_here i (table.inside_of k.run i + table.one_inside does.0) (table.inside_of k.run) j q
                ∙ (let a = k.inside i in let b = does.1 in omega arith)
                ∙ sym (put_here i (inside_of r i + more) (inside_of r) j q)
            | inr d ↦
                put_else i (table.inside_of k.run i + table.one_inside does.0) (table.inside_of k.run) j d
                ∙ k.inside j ∙ sym (put_else i (inside_of r i + more) (inside_of r) j d)
          ];
          earlier = λ u b. elim b [ inl e ↦ inl (k.earlier u e) | inr e ↦ inr e ];
        }

pub lock_is_sound : (p : Setup) → IsSoundLock p
lock_is_sound p edge l room steps s r =
    let k = tabled edge p l room r in
    let both = sound_on (linked edge p) l.object (stacks_fit edge p room) l.guards room.threads
    (tables p s (outside_of r))
    (labels_of edge r) k.run in
    let u = both.0 in (
      u,
      elim both.1 [
        | inl e ↦ inl (record {
          labels = e.labels;
          alone = λ one.
              subst (λ (m : ℕ). Waits (act (setup (linked edge p)) (u 0) (e.labels.explains.follows 0).to.at)
              ⊎ (m ≤ 3 * (length (projection 0 (labels_of edge r)) + 1))) (k.inside 0) (e.alone one);
        })
        | inr b ↦ inr (k.earlier u b)
      ],
    )
