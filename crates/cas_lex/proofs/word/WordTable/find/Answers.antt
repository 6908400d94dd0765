use Rattle.std.proofs.Common.{arith}
use Rattle.cas_lex.proofs.Spellings.{found_row, length-row}
use Rattle.cas_lex.proofs.word.WordTable.find.Goals as goal
use Rattle.cas_lex.proofs.word.WordTable.find.Goals.{then-text-lt-SHORTEST-via-then-text-lt-SHORTEST, then-text-lt-SHORTEST-via-else-text-lt-SHORTEST+then-text-gt-LONGEST}

pub returns-then-text-lt-SHORTEST : goal.returns-then-text-lt-SHORTEST
returns-then-text-lt-SHORTEST c = λ k is.
    let bounds = length-row k c.args.text.now is in
    elim c.then-text-lt-SHORTEST.branch [
      | then-text-lt-SHORTEST-via-then-text-lt-SHORTEST w ↦ omega arith
      | then-text-lt-SHORTEST-via-else-text-lt-SHORTEST+then-text-gt-LONGEST w ↦ omega arith
    ]

pub returns : goal.returns
returns c = found_row c.args.self.now.names c.args.text.now c.find.result c.args.self.now.rows c.find.ensures.found
