-- Labels give interleavings, and a Bad step of a run is Bad in the world.
use Rattle.std.proofs.Common.{ℕ, List, [], ◌∷◌, length, reverse, sym, subst}
use Rattle.std.proofs.lemmas.List.{reverse-append}
use Rattle.cas_program.specs.Program.{env_of}
use Rattle.cas_world.specs.World.{World, Interleaves, at_first, and_step, world_after}
use Rattle.cas_together.specs.Turns.{Lead, none_yet, one_more}
use Rattle.cas_together.proofs.Ordering.{ordered}
use Rattle.cas_interleave.specs.Agreeing.{Threads, machine_of, AreThreads, first_of, Agrees}
use Rattle.cas_interleave.specs.Interleaving.{LabelsInterleave}
use Rattle.cas_interleave.proofs.Going.{Laws, Turn, go_along}

module _ (laws : Laws) (r : Threads) (are : AreThreads r) where
  -- turns, the newest first, are an interleaving
  interleaves : {is : List ℕ} {w : World} → Lead (Turn laws r are) (first_of r) is w →
      Interleaves (env_of r.modules) (first_of r) (reverse is) w
  interleaves none_yet = at_first
  interleaves (one_more {is = is} {w = w} i v l t) =
      subst (λ (x : World). Interleaves (env_of r.modules) (first_of r) (reverse (i ∷ is)) x) (sym t.2)
      (subst (λ js. Interleaves (env_of r.modules) (first_of r) js (world_after w i t.0))
      (sym (reverse-append (i ∷ []) is)) (and_step (interleaves l) i t.0 t.1))

pub labels_interleave : Laws → LabelsInterleave
labels_interleave laws r are ls legal cs ks ys runs =
    let o = ordered r.edge (length r.entries) (machine_of r) (Turn laws r are) (first_of r) (Agrees r)
    (go_along laws r are) ls legal cs ks ys runs in
    record { world = o.world; leads = interleaves laws r are o.leads; agrees = o.stand }
