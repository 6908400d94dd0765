-- The lock object is sound on processors with store buffers.
use Rattle.std.specs.Prelude.{◌≡◌, ℕ, ◌+◌, ◌*◌, ◌≤◌, ◌⊎◌, List, [], length}
use Rattle.cas_refine.specs.Cpu.{Program}
use Rattle.cas_atomic.specs.Buffered.{Point}
use Rattle.cas_atomic.specs.Cells.{AreGuards}
use Rattle.cas_atomic.specs.Labels.{listed}
use Rattle.cas_atomic.specs.Atomic.{act}
use Rattle.cas_atomic.specs.Sound.{Unknown, Explains, IsBadAt, Waits, refused_threads}
use Rattle.cas_runs.specs.Legal.{ThreadLabel, projection}
use Rattle.cas_refine.specs.Object.{HasObject}
use Rattle.cas_refine.specs.Machine.{World, Linked, setup, opening, Run, opens, and_then, inside_of, Begins}
use Rattle.cas_refine.specs.Matching.{Matches, lift}

-- the labels explain the state: outside the lock object each processor stands where its run over atomic locks does
pub record AreExplained (p : Linked) (u : Unknown) (s : World) (ls : List ThreadLabel) : Type 0 where
  pub ats : ℕ → Point Program
  pub matches : Matches p.image s ats
  pub explains : Explains (setup p) (refused_threads (setup p)) u (lift s ats) ls

-- the labels explain the state of a run; and one thread alone waits for a lock that it holds, or has executed at most
-- three instructions of the lock object for each of its labels and for the next
pub record IsExplained {p : Linked} (u : Unknown) {s : World} {ls : List ThreadLabel} (r : Run p s ls) : Type 0 where
  pub labels : AreExplained p u s ls
  pub alone : p.threads ≡ 1 → Waits (act (setup p) (u 0) (labels.explains.follows 0).to.at)
      ⊎ (inside_of r 0 ≤ 3 * (length (projection 0 ls) + 1))

pub record IsBadNow (p : Linked) (u : Unknown) (s : World) (ls : List ThreadLabel) : Type 0 where
  pub ats : ℕ → Point Program
  pub matches : Matches p.image s ats
  pub bad : IsBadAt (setup p) (refused_threads (setup p)) u (lift s ats) ls

abbrev pub IsBadEarlier : {p : Linked} → Unknown → {s : World} {ls : List ThreadLabel} → Run p s ls → Type 0
IsBadEarlier {p = p} u opens = IsBadNow p u (opening p) []
IsBadEarlier {p = p} u (and_then {ls = ls} i t o r below step) = IsBadEarlier u r ⊎ IsBadNow p u t (listed i o ls)

abbrev pub IsSoundOn : Linked → Type 0
IsSoundOn p = HasObject p.image → Begins p → AreGuards p.edge.cells → p.threads ≤ 2147483648 →
    (s : World) (ls : List ThreadLabel) (r : Run p s ls) → (u : Unknown) × (IsExplained u r ⊎ IsBadEarlier u r)
