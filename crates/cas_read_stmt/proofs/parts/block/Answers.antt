use Rattle.cas_read_stmt.proofs.Trees.{block_of}
use Rattle.cas_read_stmt.proofs.parts.block.Goals as goal

pub returns : goal.returns
returns c = block_of c.args.place c.args.all
