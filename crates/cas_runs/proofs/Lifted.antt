-- Where functions run together, what matches refines.
use Rattle.std.proofs.Common.{ℕ, List, [], ◌∷◌, Some, true, false, refl}
use Rattle.cas_base.specs.declared.kind.Kind.TheVariants.{U32}
use Rattle.cas_runs.specs.Label.{NameBytes}
use Rattle.cas_runs.specs.Edge.{IsOfKind}
use Rattle.cas_runs.specs.Naming.{Number}
use Rattle.cas_runs.specs.Refines.{Refines}
use Rattle.cas_runs.specs.Simulation.{here}
use Rattle.cas_runs.specs.Unit.{laid_out}
use Rattle.cas_runs.specs.Calls.{machine, outside_first, starts, find, no_past, no_holding}
use Rattle.cas_runs.specs.Passing.{Relation, IsPass}
use Rattle.cas_runs.proofs.Lifting.{away, bottom, waits_within, lifted_refines, enters_too}
use Rattle.cas_runs.proofs.Found.{AllFound}

module _ {F A G B : Type 0} (r : Relation F A G B) (is : IsPass r)
    (all : AllFound r.target r.source r.by.made r.targets r.sources) where
  -- where the outside runs first
  pub outward_refines : (ins_t : List F) (ins_s : List G) → AllFound r.target r.source r.by.made ins_t ins_s →
      Refines r.setting.edge (machine r.target (laid_out r.setting r.placed)
      (record { functions = r.targets; within = ins_t; crosses = true }) outside_first)
      (machine r.source r.setting (record { functions = r.sources; within = ins_s; crosses = true }) outside_first)
  outward_refines ins_t ins_s all_in = lifted_refines r is.keeps is.pays is.passes ins_t ins_s true outside_first
      outside_first all all_in
      (here (away refl (waits_within r is.keeps is.pays is.passes ins_t ins_s true outside_first outside_first)
      is.keeps.is_match.first refl bottom))

  -- where a thread runs
  pub thread_refines : (entry : NameBytes) (thread : ℕ) → IsOfKind thread U32 →
      Refines r.setting.edge (machine r.target (laid_out r.setting r.placed)
      (record { functions = r.targets; within = r.targets; crosses = false })
      (starts r.target (find r.target r.targets entry) thread))
      (machine r.source r.setting (record { functions = r.sources; within = r.sources; crosses = false })
      (starts r.source (find r.source r.sources entry) thread))
  thread_refines entry thread word =
      let start_t = starts r.target (find r.target r.targets entry) thread in
      let start_s = starts r.source (find r.source r.sources entry) thread in
      lifted_refines r is.keeps is.pays is.passes r.targets r.sources false start_t start_s all all
      (enters_too r is.keeps is.pays is.passes r.targets r.sources false start_t start_s [] no_past no_past no_holding
      no_holding is.keeps.is_match.first [] [] tt bottom
      (find r.target r.targets entry) (find r.source r.sources entry) (Some (Number thread ∷ []))
      (Some (Number thread ∷ []))
      (all entry) (is.keeps.numbers thread word, tt))
