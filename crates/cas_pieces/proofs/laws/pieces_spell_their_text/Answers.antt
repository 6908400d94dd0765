use Rattle.cas_pieces.proofs.Spelling.{text-pieces, pieces-text, AreProper-pieces}
use Rattle.cas_pieces.proofs.laws.pieces_spell_their_text.Goals as goal

pub returns-clause-spelt : goal.returns-clause-spelt
returns-clause-spelt c = text-pieces

pub returns-clause-split : goal.returns-clause-split
returns-clause-split c = pieces-text

pub returns-clause-proper : goal.returns-clause-proper
returns-clause-proper c = AreProper-pieces
