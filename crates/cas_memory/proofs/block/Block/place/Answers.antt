use Rattle.std.proofs.Common.{arith, length, sym, ◌∙◌}
use Rattle.cas_memory.proofs.Block_lemmas.{span_within}
use Rattle.cas_memory.proofs.block.Block.place.Goals as goal

-- the place is one of the cells
pub overflow_add-result : goal.overflow_add-result
overflow_add-result c =
    let b = c.args.self.now in
    let within = span_within 0 (length b.cells.items) b.spans.items c.args.local c.in-Some.span b.whole
    (sym c.span.ensures ∙ c.in-Some.is) in
    omega (arith, within, b.cells.ok, b.cells.small)
