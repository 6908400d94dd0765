use Rattle.std.proofs.Common.{rules}
use Rattle.cas_base.proofs.names.Names.new.Goals as goal

pub returns-then-is_distinct-clause-none : goal.returns-then-is_distinct-clause-none
returns-then-is_distinct-clause-none c c' = (λ e t. cc, λ not_table. absurd (not_table (search rules)))
