use Rattle.std.proofs.Common.{◌∙◌, ℕ, List, ap, sym, subst}
use Rattle.cas_check.proofs.Bodies_walked.{body_stops, body_ends}
use Rattle.cas_own.specs.Locks.{set_of}
use Rattle.cas_check.specs.View.{onward, set_at}
use Rattle.cas_typed.specs.Numbered.{AreRows}
use Rattle.cas_typed.specs.declared.rows.StmtRow.{StmtRow}
use Rattle.cas_check.proofs.module.check_body.Goals as goal

pub returns-in_err-onward : goal.returns-in_err-onward
returns-in_err-onward c = λ r is.
    body_stops c.args.table.now c.args.function.now r c.args.closing c.in_ok-own.own c.in_err-onward.field-0.0
    c.from_residual-in_err-onward.result c.from_residual-in_err-onward.ensures.1
    (c.in_ok-own.ensures ∙ ap set_of c.holds.ensures) (λ m bs are. c.in_err-onward.ensures m bs
    (subst (λ (rows : List StmtRow). AreRows rows m bs c.as_slice-2.result.now) (sym c.as_slice.ensures)
    (subst (λ (ns : List ℕ). AreRows c.args.function.now.rows m bs ns) (sym c.as_slice-2.ensures) are))) is

pub returns : goal.returns
returns c = λ r is.
    body_ends c.args.table.now c.args.function.now r c.args.closing c.in_ok-own.own
    (onward c.in_ok-own.own c.in_ok-onward.onward) (set_at c.locks.result) c.check_end.result
    (c.in_ok-own.ensures ∙ ap set_of c.holds.ensures) (λ m bs are. c.in_ok-onward.ensures m bs
    (subst (λ (rows : List StmtRow). AreRows rows m bs c.as_slice-2.result.now) (sym c.as_slice.ensures)
    (subst (λ (ns : List ℕ). AreRows c.args.function.now.rows m bs ns) (sym c.as_slice-2.ensures) are)))
    c.locks.ensures c.check_end.ensures is
