-- RTLgen is a pass.
use Rattle.std.proofs.Common.{◌≡◌, ℕ, List, [], ◌∷◌, refl, sym, ap, ◌∙◌, subst, arith}
use Rattle.cas_runs.specs.Held.{Activation, Leads, Steps, BeginIf}
use Rattle.cas_runs.specs.Naming.{Value, Number, Memory}
use Rattle.cas_runs.specs.Calls.{set_blocks, fresh}
use Rattle.cas_runs.specs.Unit.{Setting}
use Rattle.cas_runs.specs.Passing.{AllMatch, MadeOf}
use Rattle.cas_runs.specs.Unmoved.{IsUnmoved, unmoved}
use Rattle.cas_sel.specs.declared.tree.SelFun.{SelFun}
use Rattle.cas_sel.specs.Code.{sel_routine}
use Rattle.cas_sel.specs.CminorSel.{SelState, cminorsel}
use Rattle.cas_rtl.specs.Graph.{Graph, Point}
use Rattle.cas_rtl.specs.Rtl.{rtl}
use Rattle.cas_rtl.proofs.Tariffs.{rtl_tariff}
use Rattle.cas_rtlgen.specs.Makes.{IsMadeGraph}
use Rattle.cas_rtlgen.specs.Match.{MatchStates, matches}
use Rattle.cas_rtlgen.proofs.Queries.{rtlgen, Together, R, held}
use Rattle.cas_rtlgen.proofs.Leading.{rest_leads}
use Rattle.cas_rtlgen.proofs.Entry.{begins_made}

module _ {F : Type 0} (graph_of : F → Graph ℕ) (setting : Setting) (ts : List F) (ss : List SelFun) where
  abbrev among : Together F
  among = record {
    graph_of = graph_of;
    setting = setting;
    targets = ts;
    sources = ss;
    made = MadeOf (unmoved (rtlgen graph_of)) setting ts ss;
  }

  same_list : (vs ws : List Value) → AllMatch (R among) vs ws → vs ≡ ws
  same_list [] [] h = refl
  same_list [] (w ∷ ws) h = absurd h
  same_list (v ∷ vs) [] h = absurd h
  same_list (v ∷ vs) (w ∷ ws) h = ap (λ u. u ∷ vs) h.0 ∙ ap (λ us. w ∷ us) (same_list vs ws h.1)

  module _ (act : Activation F SelFun) (made : IsMadeGraph (graph_of act.target) (sel_routine act.source)) where
    leads : (x : Point ℕ) (t : Memory) (y : SelState) (s : Memory) → MatchStates graph_of act x t y s →
        Leads (R among) (held among) act x t y s
    leads x t y s (matches {serial = serial} {ts = temps} {vs = vs} {m = m} fits rest) =
        rest_leads (record {
          together = among;
          act = act;
          serial = serial;
          temps = temps;
          memory = m;
          room = made.room;
        }) vs fits rest

    -- the memory where an activation begins
    abbrev with_own : Memory → Memory
    with_own m = set_blocks (fresh (Number 0)) m (sel_routine act.source).name act.serial 0
        (sel_routine act.source).blocks

    enters : (t s : Memory) → t ≡ s → (vs ws : List Value) → AllMatch (R among) vs ws →
        BeginIf (R among) (held among) act ((rtl graph_of).enter act.target act.serial vs)
        (set_blocks (fresh (Number 0)) t (graph_of act.target).name act.serial 0 (graph_of act.target).blocks)
        (cminorsel.enter act.source act.serial ws) (with_own s)
    enters t s same vs ws all =
        let x = (rtl graph_of).enter act.target act.serial vs in
        subst (λ n. BeginIf (R among) (held among) act x
        (set_blocks (fresh (Number 0)) t n act.serial 0 (graph_of act.target).blocks)
        (cminorsel.enter act.source act.serial ws) (with_own s)) (sym made.name)
        (subst (λ bs. BeginIf (R among) (held among) act x
        (set_blocks (fresh (Number 0)) t (sel_routine act.source).name act.serial 0 bs)
        (cminorsel.enter act.source act.serial ws) (with_own s)) (sym made.blocks)
        (subst (λ (m : Memory). BeginIf (R among) (held among) act x (with_own t)
        (cminorsel.enter act.source act.serial ws) (with_own m)) same
        (subst (λ us. BeginIf (R among) (held among) act x (with_own t)
        (cminorsel.enter act.source act.serial us) (with_own t)) (same_list vs ws all)
        (begins_made among act made act.serial (with_own t) vs))))

  steps : Steps (R among) (held among)
  steps = record {
    forms = λ act made x t y s m. leads act made.is_made.is_made x t y s m;
    enters = λ act made t s same vs ws all. enters act made.is_made.is_made t s same vs ws all;
  }

pub rtlgen_shown : {F : Type 0} (graph_of : F → Graph ℕ) → IsUnmoved (rtlgen graph_of)
rtlgen_shown graph_of = record {
  names = λ decls f g made. made.name;
  blocks = λ decls f g made. made.blocks;
  prices = rtl_tariff graph_of;
  waits = λ ts ss all. omega arith;
  steps = λ setting decls ts ss together. steps graph_of setting ts ss;
}
