-- Cshmgen is a pass.
use Rattle.std.proofs.Common.{◌≡◌, suc, List, [], ◌∷◌, refl, sym, ap, ◌∙◌, subst, arith}
use Rattle.std.specs.Prelude.{map}
use Rattle.cas_base.specs.Ty.{words_of_ty}
use Rattle.cas_runs.specs.Held.{Activation, Steps, BeginIf}
use Rattle.cas_runs.specs.Naming.{Value, Number, Memory}
use Rattle.cas_runs.specs.Calls.{set_blocks, fresh}
use Rattle.cas_runs.specs.Unit.{Setting}
use Rattle.cas_runs.specs.Passing.{AllMatch, MadeOf}
use Rattle.cas_runs.specs.Unmoved.{IsUnmoved, unmoved}
use Rattle.cas_mid.specs.declared.tree.CsharpFun.{CsharpFun}
use Rattle.cas_mid.specs.Trees.{Routine, Expression, Target}
use Rattle.cas_mid.specs.Language.{filled, begun}
use Rattle.cas_mid.specs.Code.{csharp_routine}
use Rattle.cas_mid.specs.Csharpminor.{csharp_parts, variable}
use Rattle.cas_mid.proofs.Tariffs.{tariff_by}
use Rattle.cas_clight.specs.Clight as clight
use Rattle.cas_clight.specs.Clight.{ClightFun, parameters_of, cells_of}
use Rattle.cas_cshmgen.specs.Makes.{made_routine}
use Rattle.cas_cshmgen.proofs.Simulation.{cshmgen, R, held}
use Rattle.cas_cshmgen.proofs.Entry.{steps_lead, begins_made, most_found}

module _ (setting : Setting) (ts : List CsharpFun) (ss : List ClightFun) where
  abbrev Made : CsharpFun → ClightFun → Type 0
  Made = MadeOf (unmoved cshmgen) setting ts ss

  same_list : (vs ws : List Value) → AllMatch (R setting ts ss Made) vs ws → vs ≡ ws
  same_list [] [] h = refl
  same_list [] (w ∷ ws) h = absurd h
  same_list (v ∷ vs) [] h = absurd h
  same_list (v ∷ vs) (w ∷ ws) h = ap (λ u. u ∷ vs) h.0 ∙ ap (λ us. w ∷ us) (same_list vs ws h.1)

  enters : (act : Activation CsharpFun ClightFun) → Made act.target act.source → (t s : Memory) → t ≡ s →
      (vs ws : List Value) → AllMatch (R setting ts ss Made) vs ws
      → BeginIf (R setting ts ss Made) (held setting ts ss) act
      (begun csharp_parts (csharp_routine act.target) act.serial
      (filled (csharp_routine act.target).temporaries (csharp_routine act.target).parameters vs))
      (set_blocks (fresh (Number 0)) t (csharp_routine act.target).name act.serial 0
      (csharp_routine act.target).blocks)
      (clight.enter act.source act.serial ws) (set_blocks (fresh (Number 0)) s act.source.decl.name act.serial 0
      (map words_of_ty act.source.locals))
  enters act made t s same vs ws all =
      let is = made.is_made in
      let g = act.source in
      subst (λ (v : Routine Expression Target Expression). BeginIf (R setting ts ss Made) (held setting ts ss) act
      (begun csharp_parts v act.serial (filled v.temporaries v.parameters vs))
      (set_blocks (fresh (Number 0)) t v.name act.serial 0 v.blocks) (clight.enter g act.serial ws)
      (set_blocks (fresh (Number 0)) s g.decl.name act.serial 0 (map words_of_ty g.locals)))
      (sym is.is_made.routine)
      (subst (λ (m : Memory). BeginIf (R setting ts ss Made) (held setting ts ss) act
      (begun csharp_parts (made_routine g) act.serial (filled (suc (parameters_of g)) (parameters_of g) vs))
      (set_blocks (fresh (Number 0)) t g.decl.name act.serial 0 (map words_of_ty g.locals))
      (clight.enter g act.serial ws) (set_blocks (fresh (Number 0)) m g.decl.name act.serial 0
      (map words_of_ty g.locals))) same
      (subst (λ us. BeginIf (R setting ts ss Made) (held setting ts ss) act
      (begun csharp_parts (made_routine g) act.serial (filled (suc (parameters_of g)) (parameters_of g) vs))
      (set_blocks (fresh (Number 0)) t g.decl.name act.serial 0 (map words_of_ty g.locals))
      (clight.enter g act.serial us) (set_blocks (fresh (Number 0)) t g.decl.name act.serial 0
      (map words_of_ty g.locals))) (same_list vs ws all)
      (begins_made setting ts ss Made act act.target g act.serial is.decls refl refl is.is_made
      (most_found (λ v. v.nodes) ss made.name g made.source_found)
      (most_found cells_of ss made.name g made.source_found)
      (set_blocks (fresh (Number 0)) t g.decl.name act.serial 0 (map words_of_ty g.locals)) vs)))

  steps : Steps (R setting ts ss Made) (held setting ts ss)
  steps = record { forms = λ act made x t y s m. steps_lead setting ts ss Made act x t y s m; enters = enters }

pub cshmgen_shown : IsUnmoved cshmgen
cshmgen_shown = record {
  names = λ decls f g made. ap (λ (v : Routine Expression Target Expression). v.name) made.routine;
  blocks = λ decls f g made. ap (λ (v : Routine Expression Target Expression). v.blocks) made.routine;
  prices = tariff_by variable csharp_routine;
  waits = λ ts ss all. omega arith;
  steps = λ setting decls ts ss together. steps setting ts ss;
}
