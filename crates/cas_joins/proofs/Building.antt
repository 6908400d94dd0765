-- The source: runs of its units, as far as they have come, make a run of its thread.
use Rattle.std.proofs.Common.{◌≡◌, ℕ, ◌≤◌, List, ◌⊎◌, inl, inr, refl, ap, ◌∙◌, subst, ⊎_elim}
use Rattle.cas_runs.specs.Label.{RunLabel}
use Rattle.cas_runs.specs.Machine.{Act, Quiet, Emits, Crosses, Locks, Receives, Bad, Stops, IsBad, Block, Run, begun, onward, quiet}
use Rattle.cas_runs.specs.Refines.{Within, HasRun, BadBefore}
use Rattle.cas_runs.specs.Rules.{IsReceiving}
use Rattle.cas_runs.specs.Forms.{FootIn}
use Rattle.cas_runs.specs.Known.{set}
use Rattle.cas_runs.specs.Walking.{Star, stays, goes, Begins}
use Rattle.cas_runs.proofs.Stars.{walk_run, run_walk, one_beginning, bad_now}
use Rattle.cas_runs.proofs.Refining.{bad_here}
use Rattle.cas_runs.proofs.Composing.{within_both}
use Rattle.cas_runs.proofs.Families.{set_all, set_here, set_there}
use Rattle.cas_joins.specs.Units.{Talk, Family, Units, goes_on, Stands}
use Rattle.cas_joins.specs.Composes.{Source, Composes, StepComposes}
use Rattle.cas_joins.proofs.Blocks.{plus, step_within, step_outside}
use Rattle.cas_joins.proofs.Plain.{still, receiving_not_bad}

-- what a run of the thread had before the block in which it is: its labels and their blocks; the units' talk; and what
-- units that wait now have added to the block
pub record Past (K : Type 0) : Type 0 where
  pub labels : List RunLabel
  pub blocks : List Block
  pub talk : Talk K
  pub due : Block

abbrev pub past : {K : Type 0} → List RunLabel → List Block → Talk K → Block → Past K
past ls bs h due = record { labels = ls; blocks = bs; talk = h; due = due }

abbrev pub placed : {K S : Type 0} → Talk K → (ℕ → S) → Units K S
placed h ys = record { talk = h; states = ys }

module _ {K S Y : Type 0} (p : Family K) (s : Source K S Y) (composes : Composes p s) where
  -- a unit, where its last block begins
  pub record Begun (i : ℕ) (ls : List RunLabel) (y : S) : Type 0 where
    pub blocks : List Block
    pub begins : Begins (p.edges i) (s.units i) ls blocks y

  pub stand_of : (i : ℕ) (ls : List RunLabel) (y : S) → Begun i ls y → Stands (p.edges i) (s.units i) ls y
  stand_of i ls y b = record {
    blocks = b.blocks;
    block = begun (s.units i) y;
    run = walk_run (p.edges i) (s.units i) ls b.blocks (begun (s.units i) y) y
        (record { origin = y; begins = b.begins; star = stays });
  }

  pub has_begun : (i : ℕ) (ls : List RunLabel) (y : S) → Begun i ls y → HasRun (p.edges i) (s.units i) ls
  has_begun i ls y b =
      let r = stand_of i ls y b in
      record { to = record { blocks = r.blocks; block = r.block; at = y }; run = r.run; there = tt }

  -- the thread, in its block
  pub record ThreadIn (ls : List RunLabel) (bs : List Block) : Type 0 where
    pub block : Block
    pub at : Y
    pub run : Run p.edge s.thread ls bs block at

  -- the thread has a run that is made of those of its units, as they are where their last blocks begin
  pub record Built (w : Past K) : Type 0 where
    pub states : ℕ → S
    pub begins : (i : ℕ) → Begun i (w.talk.labels i) (states i)
    pub thread : ThreadIn w.labels w.blocks
    pub joined : s.at (placed w.talk states) thread.at
    pub pays : Within (plus w.due (begun (s.units w.talk.now) (states w.talk.now))) thread.block

  -- the running unit has come to this state, and the others are where they were
  pub record HasGone (h : Talk K) (ys : ℕ → S) (y : S) (to : ℕ → S) : Type 0 where
    pub here : to h.now ≡ y
    pub there : (i : ℕ) → (i ≡ h.now → ⊥) → to i ≡ ys i
    pub runs : (i : ℕ) → Stands (p.edges i) (s.units i) (h.labels i) (to i)

  -- and the thread with it
  pub record Walked (w : Past K) (ys : ℕ → S) (q : Block) (y : S) : Type 0 where
    pub to : ℕ → S
    pub gone : HasGone w.talk ys y to
    pub thread : ThreadIn w.labels w.blocks
    pub joined : s.at (placed w.talk to) thread.at
    pub pays : Within (plus w.due q) thread.block

  pub bad_there : (w : Past K) (r : ThreadIn w.labels w.blocks) → IsBad (s.thread.act r.at) →
      BadBefore p.edge s.thread w.labels
  bad_there w r bad =
      bad_here p.edge s.thread w.labels (record { blocks = w.blocks; block = r.block; at = r.at }) r.run bad

  abbrev pub goes_quietly : (ls : List RunLabel) (bs : List Block) (r : ThreadIn ls bs) (z : Y) →
      s.thread.act r.at ≡ Quiet z → ThreadIn ls bs
  goes_quietly ls bs r z e = record { block = onward s.thread r.block z; at = z; run = quiet z r.run e }

  walk_on : (w : Past K) (ys : ℕ → S) {b : Block} {x : S} {q : Block} {y : S} →
      Star (s.units w.talk.now) b x q y → Walked w ys b x → BadBefore p.edge s.thread w.labels ⊎ Walked w ys q y
  walk_on w ys stays k = inr k
  walk_on w ys (goes {b = b} {x = x} z e star) k =
      ⊎_elim (λ bad. inl (bad_there w k.thread bad)) (λ j.
      let next = subst (λ (a : Act S). StepComposes p s (placed w.talk k.to) k.thread.at a) act_is j in
      ⊎_elim (λ bad. inl (bad_there w (goes_quietly w.labels w.blocks k.thread next.0 next.1) bad))
      (λ foot. walk_on w ys star (further next.0 next.1 next.2 foot))
      (composes.touches (goes_on (placed w.talk k.to) z) next.0 next.2))
      (composes.steps (placed w.talk k.to) k.thread.at k.joined k.gone.runs)
    where
      act_is : (s.units w.talk.now).act (k.to w.talk.now) ≡ Quiet z
      act_is = ap (s.units w.talk.now).act k.gone.here ∙ e

      further : (next : Y) → s.thread.act k.thread.at ≡ Quiet next →
          s.at (goes_on (placed w.talk k.to) z) next →
          FootIn ((s.units w.talk.now).footprint (set k.to w.talk.now z w.talk.now)) (s.thread.footprint next) →
          Walked w ys (onward (s.units w.talk.now) b z) z
      further next is joined foot =
          let m = s.units w.talk.now in
          let unit = k.gone.runs w.talk.now in
          let cost : m.price z ≤ s.thread.price next =
          subst (λ v. m.price v ≤ s.thread.price next) (set_here k.to w.talk.now z)
          (composes.price (goes_on (placed w.talk k.to) z) next joined) in
          let touch : FootIn (m.footprint z) (s.thread.footprint next) =
          subst (λ v. FootIn (m.footprint v) (s.thread.footprint next)) (set_here k.to w.talk.now z) foot in
          record {
            to = set k.to w.talk.now z;
            gone = record {
              here = set_here k.to w.talk.now z;
              there = λ i n. set_there k.to w.talk.now z i n ∙ k.gone.there i n;
              runs = set_all (λ i u v. Stands (p.edges i) (s.units i) (w.talk.labels i) v) k.to k.to w.talk.now z z
                  (λ i n. k.gone.runs i)
                  (record { blocks = unit.blocks; block = onward m unit.block z; run = quiet z unit.run act_is });
            };
            thread = goes_quietly w.labels w.blocks k.thread next is;
            joined = joined;
            pays = within_both _ _ _ (step_outside w.due b (m.price z) (m.footprint z))
                (step_within (plus w.due b) k.thread.block (m.price z) (s.thread.price next) (m.footprint z)
                (s.thread.footprint next) k.pays cost touch);
          }

  -- a run of the running unit with the labels so far is made one of the thread
  pub walk_to : (w : Past K) (m : Built w) (qs : List Block) (q : Block) (y : S) →
      Run (p.edges w.talk.now) (s.units w.talk.now) (w.talk.labels w.talk.now) qs q y →
      BadBefore p.edge s.thread w.labels ⊎ Walked w m.states q y
  walk_to w m qs q y r =
      let now = w.talk.now in
      let f = run_walk (p.edges now) (s.units now) (w.talk.labels now) qs q y r in
      let o = one_beginning (p.edges now) (s.units now) (w.talk.labels now) qs (m.begins now).blocks f.origin
      (m.states now) f.begins (m.begins now).begins in
      let star : Star (s.units now) (begun (s.units now) (m.states now)) (m.states now) q y =
      subst (λ v. Star (s.units now) (begun (s.units now) v) v q y) o.state f.star in
      walk_on w m.states star (record {
        to = m.states;
        gone = record {
          here = refl;
          there = λ i n. refl;
          runs = λ i. stand_of i (w.talk.labels i) (m.states i) (m.begins i);
        };
        thread = m.thread;
        joined = m.joined;
        pays = m.pays;
      })

  -- what the thread does there
  pub composes_at : (w : Past K) (ys : ℕ → S) (q : Block) (y : S) (k : Walked w ys q y) (a : Act S) →
      (s.units w.talk.now).act y ≡ a →
      BadBefore p.edge s.thread w.labels ⊎ StepComposes p s (placed w.talk k.to) k.thread.at a
  composes_at w ys q y k a e =
      ⊎_elim (λ bad. inl (bad_there w k.thread bad))
      (λ j. inr (subst (λ (v : Act S). StepComposes p s (placed w.talk k.to) k.thread.at v)
      (ap (s.units w.talk.now).act k.gone.here ∙ e) j))
      (composes.steps (placed w.talk k.to) k.thread.at k.joined k.gone.runs)

  bad_composes : (h : Units K S) (z : Y) (a : Act S) → IsBad a → StepComposes p s h z a → ⊥
  bad_composes h z Bad b j = j
  bad_composes h z (Quiet n) b j = b
  bad_composes h z (Emits k n) b j = b
  bad_composes h z (Locks k n) b j = b
  bad_composes h z (Crosses f c n) b j = b
  bad_composes h z (Receives n) b j = b
  bad_composes h z (Stops why) b j = b

  -- where the running unit is Bad before, the thread is
  pub unit_bad : (w : Past K) → Built w →
      BadBefore (p.edges w.talk.now) (s.units w.talk.now) (w.talk.labels w.talk.now) →
      BadBefore p.edge s.thread w.labels
  unit_bad w m b =
      let now = w.talk.now in
      let n = bad_now (p.edges now) (s.units now) (w.talk.labels now) b
      (has_begun now (w.talk.labels now) (m.states now) (m.begins now)) in
      ⊎_elim (λ d. d) (λ k.
      ⊎_elim (λ d. d)
      (λ j. absurd (bad_composes (placed w.talk k.to) k.thread.at ((s.units now).act n.to.at) n.there j))
      (composes_at w m.states n.to.block n.to.at k ((s.units now).act n.to.at) refl))
      (walk_to w m n.to.blocks n.to.block n.to.at n.run)

  -- a unit that waits isn't Bad, and stands where its block begins
  pub waits_there : (i : ℕ) (ls : List RunLabel) (y : S) → Begun i ls y → IsReceiving ((s.units i).act y) →
      (bs : List Block) (c : Block) (x : S) → Run (p.edges i) (s.units i) ls bs c x → x ≡ y
  waits_there i ls y b waits bs c x r =
      let f = run_walk (p.edges i) (s.units i) ls bs c x r in
      let o = one_beginning (p.edges i) (s.units i) ls bs b.blocks f.origin y f.begins b.begins in
      let star : Star (s.units i) (begun (s.units i) y) y c x =
      subst (λ v. Star (s.units i) (begun (s.units i) v) v c x) o.state f.star in
      still (s.units i) waits star

  pub waits_fine : (i : ℕ) (ls : List RunLabel) (y : S) → Begun i ls y → IsReceiving ((s.units i).act y) →
      BadBefore (p.edges i) (s.units i) ls → ⊥
  waits_fine i ls y b waits d =
      let n = bad_now (p.edges i) (s.units i) ls d (has_begun i ls y b) in
      receiving_not_bad ((s.units i).act y) waits
      (subst (λ v. IsBad ((s.units i).act v))
      (waits_there i ls y b waits n.to.blocks n.to.block n.to.at n.run) n.there)
