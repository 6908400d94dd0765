-- Selection is a pass.
use Rattle.std.proofs.Common.{◌≡◌, ℕ, ◌+◌, ◌*◌, ◌≤◌, List, [], ◌∷◌, Option, Some, None, map, refl, sym, ap, ◌∙◌, subst, arith}
use Rattle.cas_base.specs.declared.decl.Decl.{Decl}
use Rattle.cas_base.specs.declared.decl.Unit.{Unit as UnitOf}
use Rattle.cas_runs.specs.Bounds.{step_price, first_price, entry_price, total, weight_of}
use Rattle.cas_runs.specs.Calls.{set_blocks, fresh, language}
use Rattle.cas_runs.specs.Held.{Activation, Leads, Steps, BeginIf, meets_there, begins_at_once}
use Rattle.cas_runs.specs.Label.{Both}
use Rattle.cas_runs.specs.Naming.{Value, Number, Memory}
use Rattle.cas_runs.specs.Passing.{AllMatch, MadeOf}
use Rattle.cas_runs.specs.Unit.{Setting, AreDefined, UnitRefines}
use Rattle.cas_runs.specs.Unmoved.{IsUnmoved, unmoved}
use Rattle.cas_runs.proofs.Matched.{units_pass}
use Rattle.cas_runs.proofs.Unmoved.{unmoved_is}
use Rattle.cas_mid.specs.declared.tree.CminorFun.{CminorFun}
use Rattle.cas_mid.specs.Trees as tree
use Rattle.cas_mid.specs.Trees.{Expression, Target, Statement, Statements}
use Rattle.cas_mid.specs.Language.{Frame, begin, filled, begun, weight_prices}
use Rattle.cas_mid.specs.Cminor.{CminorState, cminor_parts, cminor}
use Rattle.cas_mid.specs.Code.{cminor_routine}
use Rattle.cas_mid.specs.Translating.{AreExpressions, no_expressions, more_expressions, IsMadeOf, skips, sets, stores, calls, seqs, ifs, loops, blocks, exits, returns_nothing, returns, locks, unlocks, prints, AreMadeOf, no_statements, more_statements, RestIsMade, nothing_left, begins}
use Rattle.cas_mid.proofs.Translating.{steps_along, steps_cheap, weighs_least}
use Rattle.cas_sel.specs.declared.tree.SelFun.{SelFun}
use Rattle.cas_sel.specs.Trees as sel
use Rattle.cas_sel.specs.CminorSel.{SelState, sel_parts, cminorsel}
use Rattle.cas_sel.specs.Code.{sel_routine}
use Rattle.cas_sel.proofs.Tariffs.{sel_tariff}
use Rattle.cas_select.specs.Makes.{made, made_statement, made_statements, made_routine}
use Rattle.cas_select.specs.Match.{selection, SameFrames, same_frames, MatchStates, matches, IsMade}
use Rattle.cas_select.proofs.Simulation.{selects, R, held, Frames, parts_alike, frames_alike}
use Rattle.cas_select.proofs.Prices.{prices_alike}

-- statements stay as they are
module _ (g : CminorFun) where
  arguments_are : (es : List Expression) → AreExpressions selection g (map made es) es
  arguments_are [] = no_expressions
  arguments_are (e ∷ es) = more_expressions refl (arguments_are es)

  mutual
    pub statement_is : (a : Statement Expression Target Expression) → IsMadeOf selection g (made_statement a) a
    statement_is tree.skip = skips
    statement_is (tree.set t e) = sets refl
    statement_is (tree.store m e) = stores refl refl
    statement_is (tree.call t name es) = calls (arguments_are es)
    statement_is (tree.seq bs) = seqs (statements_are bs)
    statement_is (tree.if_else c a b) = ifs refl (statement_is a) (statement_is b)
    statement_is (tree.loop a) = loops (statement_is a)
    statement_is (tree.block a) = blocks (statement_is a)
    statement_is (tree.exit n) = exits
    statement_is (tree.return_ None) = returns_nothing
    statement_is (tree.return_ (Some e)) = returns refl
    statement_is (tree.lock name) = locks
    statement_is (tree.unlock name) = unlocks
    statement_is (tree.print e) = prints refl

    statements_are : (bs : Statements Expression Target Expression) → AreMadeOf selection g (made_statements bs) bs
    statements_are tree.no_more = no_statements
    statements_are (tree.one_more a bs) = more_statements (statement_is a) (statements_are bs)

module _ (setting : Setting) (ts : List SelFun) (ss : List CminorFun) where
  abbrev Made : SelFun → CminorFun → Type 0
  Made = MadeOf (unmoved selects) setting ts ss

  same_list : (vs ws : List Value) → AllMatch (R setting ts ss Made) vs ws → vs ≡ ws
  same_list [] [] h = refl
  same_list [] (w ∷ ws) h = absurd h
  same_list (v ∷ vs) [] h = absurd h
  same_list (v ∷ vs) (w ∷ ws) h = ap (λ u. u ∷ vs) h.0 ∙ ap (λ us. w ∷ us) (same_list vs ws h.1)

  module _ (act : Activation SelFun CminorFun) where
    leads : (x : SelState) (t : Memory) (y : CminorState) (s : Memory) → MatchStates act x t y s →
        Leads (R setting ts ss Made) (held setting ts ss Made) act x t y s
    leads x t y s (matches {f = f} {m = m} h) =
        let cheap = steps_cheap sel_parts cminor_parts selection prices_alike act.source h in
        meets_there 0 (omega (arith, cheap))
        (steps_along sel_parts cminor_parts selection (Frames setting ts ss Made) (R setting ts ss Made)
        (held setting ts ss Made) (parts_alike setting ts ss Made) (frames_alike setting ts ss Made) act f f m m
        same_frames h)

    -- both begin with the same temporaries
    begins_with : (m : Memory) (o : Option (List Value)) → IsMade [] act.target act.source →
        BeginIf (R setting ts ss Made) (held setting ts ss Made) act
        (begun sel_parts (made_routine (cminor_routine act.source)) act.serial o) m
        (begun cminor_parts (cminor_routine act.source) act.serial o) m
    begins_with m None made_so = tt
    begins_with m (Some temporaries) made_so =
        let r = cminor_routine act.source in
        let frame : Frame = record { function = r.name; serial = act.serial; temporaries = temporaries } in
        let h : RestIsMade selection act.source (begin (made_statement r.body) ∷ []) (begin r.body ∷ []) =
        begins (statement_is act.source r.body) nothing_left in
        let cheap = steps_cheap sel_parts cminor_parts selection prices_alike act.source h in
        let entries : first_price cminorsel.tariff cminorsel.blocks act.target
        ≡ first_price cminor.tariff cminor.blocks act.source =
        ap (λ (v : sel.Routine). entry_price 18 (total v.blocks) v.names v.parameters) made_so in
        begins_at_once 0 (omega (arith, cheap, entries))
        (steps_along sel_parts cminor_parts selection (Frames setting ts ss Made) (R setting ts ss Made)
        (held setting ts ss Made) (parts_alike setting ts ss Made) (frames_alike setting ts ss Made) act frame frame m m
        same_frames h)

    enters : Made act.target act.source → (t s : Memory) → t ≡ s → (vs ws : List Value) →
        AllMatch (R setting ts ss Made) vs ws →
        BeginIf (R setting ts ss Made) (held setting ts ss Made) act
        (begun sel_parts (sel_routine act.target) act.serial
        (filled (sel_routine act.target).temporaries (sel_routine act.target).parameters vs))
        (set_blocks (fresh (Number 0)) t (sel_routine act.target).name act.serial 0 (sel_routine act.target).blocks)
        (cminor.enter act.source act.serial ws)
        (set_blocks (fresh (Number 0)) s (cminor_routine act.source).name act.serial 0
        (cminor_routine act.source).blocks)
    enters made_of t s same vs ws all =
        let is = made_of.is_made in
        let g = act.source in
        let r = cminor_routine g in
        subst (λ (v : sel.Routine). BeginIf (R setting ts ss Made) (held setting ts ss Made) act
        (begun sel_parts v act.serial (filled v.temporaries v.parameters vs))
        (set_blocks (fresh (Number 0)) t v.name act.serial 0 v.blocks) (cminor.enter g act.serial ws)
        (set_blocks (fresh (Number 0)) s r.name act.serial 0 r.blocks)) (sym is.is_made)
        (subst (λ (m : Memory). BeginIf (R setting ts ss Made) (held setting ts ss Made) act
        (begun sel_parts (made_routine r) act.serial (filled r.temporaries r.parameters vs))
        (set_blocks (fresh (Number 0)) t r.name act.serial 0 r.blocks) (cminor.enter g act.serial ws)
        (set_blocks (fresh (Number 0)) m r.name act.serial 0 r.blocks)) same
        (subst (λ us. BeginIf (R setting ts ss Made) (held setting ts ss Made) act
        (begun sel_parts (made_routine r) act.serial (filled r.temporaries r.parameters vs))
        (set_blocks (fresh (Number 0)) t r.name act.serial 0 r.blocks) (cminor.enter g act.serial us)
        (set_blocks (fresh (Number 0)) t r.name act.serial 0 r.blocks)) (same_list vs ws all)
        (begins_with (set_blocks (fresh (Number 0)) t r.name act.serial 0 r.blocks)
        (filled r.temporaries r.parameters vs) is.is_made)))

  steps : Steps (R setting ts ss Made) (held setting ts ss Made)
  steps = record {
    forms = λ act made x t y s m. leads act x t y s m;
    enters = λ act made t s same vs ws all. enters act made t s same vs ws all;
  }

pub selects_shown : IsUnmoved selects
selects_shown = record {
  names = λ decls f g made. ap (λ (v : sel.Routine). v.name) made;
  blocks = λ decls f g made. ap (λ (v : sel.Routine). v.blocks) made;
  prices = sel_tariff;
  waits = λ ts ss all. omega arith;
  steps = λ setting decls ts ss together. steps setting ts ss;
}

-- a function weighs no more
pub weighs_no_more : (f : SelFun) (g : CminorFun) → sel_routine f ≡ made_routine (cminor_routine g) →
    weight_of cminorsel.tariff f ≤ weight_of cminor.tariff g
weighs_no_more f g same =
    let r = cminor_routine g in
    let body = weighs_least sel_parts cminor_parts selection prices_alike g (statement_is g r.body) in
    subst (λ (v : sel.Routine). 13 + total (weight_prices sel_parts v.body)
    + 18 * (v.names + v.parameters + 8) ≤ weight_of cminor.tariff g) (sym same) (omega (arith, body))
