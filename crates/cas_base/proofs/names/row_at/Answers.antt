use Rattle.std.proofs.Common.{◌∙◌, sym, ap}
use Rattle.std.specs.Option.{option_map}
use Rattle.cas_base.proofs.NameRows.{checked_row}
use Rattle.cas_base.proofs.names.row_at.Goals as goal

pub returns : goal.returns
returns c =
    ap (option_map (λ s. s.now)) c.ok.ensures.value
    ∙ checked_row _ c.args.k c.args.text.now _ c.from_utf8.result c.utf8.text (sym c.in_ok-row.ensures)
    c.from_utf8.ensures.cases
