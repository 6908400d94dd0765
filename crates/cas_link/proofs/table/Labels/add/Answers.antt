use Rattle.std.proofs.Common.{ℕ, ◌==◌, ◌∙◌, ap, sym, is_some}
use Rattle.std.proofs.lemmas.Bool.{eqb-true}
use Rattle.cas_link.proofs.Finding.{found-again, none-is_some}
use Rattle.cas_link.proofs.table.Labels.add.Goals as goal

pub returns-then-is_some : goal.returns-then-is_some
returns-then-is_some c =
    found-again (λ (a b : ℕ). a == b) eqb-true c.args.self.now c.args.label c.args.place
    (ap is_some (sym c.find.ensures) ∙ sym c.is_some.ensures ∙ c.if-is_some.true)

pub push-requires : goal.push-requires
push-requires c = sym c.find.ensures ∙ none-is_some c.find.result (sym c.is_some.ensures ∙ c.if-is_some.false)
