use Rattle.std.proofs.Common.{◌≡◌, [], ◌++◌, append-nil, rules, sym, ap, ◌∙◌}
use Rattle.cas_pieces.specs.Pieces.{pieces}
use Rattle.cas_pieces.proofs.Spelling.{pieces-none}
use Rattle.cas_pieces.proofs.line.split.Goals as goal

pub returns : goal.returns
returns c =
    let none : pieces c.loop-piece.rest.now ≡ [] = pieces-none _ (search rules) in
    sym (append-nil c.loop-piece.pieces.items) ∙ (ap (λ r. c.loop-piece.pieces.items ++ r) (sym none)
    ∙ c.loop-piece.invariant)
