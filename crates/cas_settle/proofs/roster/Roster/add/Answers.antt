use Rattle.std.proofs.Common.{◌≡◌, ◌-◌, ◌∷◌, ◌++◌, [], suc, length, set, get_or, arith, subst, ap, sym, ◌∙◌}
use Rattle.std.proofs.lemmas.List.{length-set}
use Rattle.std.proofs.lemmas.Result.{on_ok_weaker}
use Rattle.cas_settle.specs.Roster.{add_to_last}
use Rattle.cas_settle.proofs.RosterLemmas.{set-last}
use Rattle.cas_settle.proofs.roster.Roster.add.Goals as goal

pub returns-clause-added : goal.returns-clause-added
returns-clause-added c =
    let units = c.self.inside.units.items in
    let last = c.len-last.result - 1 in
    let same : c.in_ok-copied.copied ≡ c.args.decl.now = c.in_ok-copied.ensures in
    let same_length : length units ≡ length c.args.self.now = ap length c.self.view_is in
    let len : length units ≡ suc last = omega (arith, c.len-last.ensures, c.requires) in
    on_ok_weaker c.push.result
    (λ pushed. ap (λ u. set units last u) (pushed ∙ ap (λ d. c.index_mut.result.now ++ d ∷ []) same)
    ∙ set-last units last c.index_mut.result.now c.args.decl.now len c.index_mut.ensures.value
    ∙ ap (λ us. add_to_last us c.args.decl.now) c.self.view_is)
    c.push.ensures.added

pub returns-clause-count : goal.returns-clause-count
returns-clause-count c = simp length-set (ap length c.self.view_is)
