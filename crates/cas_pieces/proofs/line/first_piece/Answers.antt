use Rattle.std.proofs.Common.{sym}
use Rattle.cas_pieces.proofs.Words.{word_front}
use Rattle.cas_pieces.proofs.Spelling.{pieces-word_front, pieces-mark_front}
use Rattle.cas_pieces.proofs.line.first_piece.Goals as goal

pub word_of-requires : goal.word_of-requires
word_of-requires c =
    rw (c.split_at.ensures.front, c.word_len.ensures.value)
    (word_front _ _ _ c.in_ok-first.ensures.cases.0 (sym c.if-goes_on_word.ensures))

pub returns-then-goes_on_word-clause-piece : goal.returns-then-goes_on_word-clause-piece
returns-then-goes_on_word-clause-piece c =
    rw (c.word_of.ensures, c.split_at.ensures.front, c.split_at.ensures.back, c.word_len.ensures.value)
    (pieces-word_front _ _ _ c.in_ok-first.ensures.cases.0 (sym c.if-goes_on_word.ensures))

pub returns-else-goes_on_word-clause-piece : goal.returns-else-goes_on_word-clause-piece
returns-else-goes_on_word-clause-piece c =
    rw c.mark_of.ensures (pieces-mark_front _ _ _ c.in_ok-first.ensures.cases.0 (sym c.if-goes_on_word.ensures))
