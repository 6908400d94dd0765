-- What the induction over a run keeps.
use Rattle.std.specs.Prelude.{◌≡◌, ℕ, List, Option, Some, None, slice_get, length}
use Rattle.cas_runs.specs.Label.{RunLabel, Lock, Unlock}
use Rattle.cas_runs.specs.Edge.{TableWord}
use Rattle.cas_runs.specs.Legal.{ThreadLabel, IsLegal, projection, state_of}
use Rattle.cas_atomic.specs.Leftover.{Leftover}
use Rattle.cas_atomic.specs.Buffer.{newest}
use Rattle.cas_atomic.specs.Cells.{IsLock}
use Rattle.cas_atomic.specs.Labels.{outs_of}
use Rattle.cas_atomic.specs.Program.{Setup}
use Rattle.cas_atomic.specs.Buffered.{Point, Outside, Inside, State, Run, opens, and_then}
use Rattle.cas_atomic.specs.Table.{refusals}
use Rattle.cas_atomic.specs.Sound.{Unknown, EndFits}
use Rattle.cas_atomic.proofs.Inner.{Atomic, act, AtomicRun}
use Rattle.cas_atomic.proofs.Places.{scene, LockIs, Stands}

-- The labels explain the state: they are legal, each thread over atomic locks has them and stands where the machine's
-- thread does, and each lock is in one of the three states
pub record Explains {X : Type 0} (p : Setup X) (u : Unknown) (s : State X) (ls : List ThreadLabel) : Type 0 where
  pub asm : ℕ → Atomic X
  pub runs : (i : ℕ) → AtomicRun p (u i) i (projection i ls) (asm i)
  pub stands : (i : ℕ) → Stands p (asm i) (s.threads i).buffer (s.threads i).executed (s.threads i).at
  pub ends : (i : ℕ) → EndFits (s.threads i).ended (projection i ls) (act p (u i) (asm i))
  pub legal : IsLegal p.edge.cells p.threads ls
  pub outs : outs_of ls ≡ s.output
  pub occasion : (i : ℕ) → (asm i).occasion ≡ length (projection i ls)
  pub locks : (l : ℕ) → IsLock p.edge.cells l → LockIs p.edge.cells l
      (scene (λ j. (s.threads j).buffer) s.memory (refusals p.threads l s.threads) (λ j. (asm j).holds l)
      (λ j. (asm j).words) (state_of p.edge.cells l ls))
  pub tables : (w v : ℕ) → slice_get p.edge.cells w ≡ Some (TableWord v) → s.memory w ≡ v
  pub unstored : (w v : ℕ) → slice_get p.edge.cells w ≡ Some (TableWord v) → (j : ℕ) →
      newest (s.threads j).buffer w ≡ None

abbrev pub flags_at : {X : Type 0} → Setup X → Point X → Leftover
flags_at p (Outside x) = p.flags x
flags_at p (Inside place f l k) = f

-- the flags are those of the run where a label of the lock object is listed
abbrev pub FitsLabel : Unknown → ℕ → List ThreadLabel → Leftover → Option RunLabel → Type 0
FitsLabel u i ls f (Some (Lock l ws)) = u i (length (projection i ls)) ≡ f
FitsLabel u i ls f (Some (Unlock l ws)) = u i (length (projection i ls)) ≡ f
FitsLabel u i ls f _ = Unit {0}

abbrev pub Fits : {X : Type 0} {p : Setup X} → Unknown → {s : State X} {ls : List ThreadLabel} → Run p s ls → Type 0
Fits u opens = Unit {0}
Fits {p = p} u (and_then {ls = ls} i t o r below step may) = Fits u r × FitsLabel u i ls (flags_at p (t.threads i).at) o
