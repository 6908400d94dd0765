use Rattle.std.proofs.Common.{◌≡◌, ◌+◌, length, ap, ◌∙◌}
use Rattle.cas_rtlgen.specs.Drafts.{sel_statement}
use Rattle.cas_rtlgen.specs.Making as making
use Rattle.cas_rtlgen.proofs.Drafts.{length_one, looped_nodes}
use Rattle.cas_rtl.specs.Graph as graph
use Rattle.cas_rtlgen.proofs.stmt.+statement.Goals as goal

pub looped-returns-clause-nodes : goal.looped-returns-clause-nodes
looped-returns-clause-nodes t c =
    let d = c.args.draft.now in
    let a = sel_statement c.args.body.now in
    let here = c.in_ok-here.here in
    let count : length c.add.new.self ≡ length d.nodes + 1 =
    ap length c.in_ok-here.ensures.nodes ∙ length_one d.nodes (graph.nop 0) in
    let same = ap (λ n. making.statement a c.args.exits.now n here d.taken) count
    ∙ ap (λ n. making.statement a c.args.exits.now (length d.nodes + 1) n d.taken) c.in_ok-here.ensures.number in
    looped_nodes d.nodes c.add.new.self c.statement.new.draft.nodes c.set.new.self
    (making.statement a c.args.exits.now (length c.add.new.self) here d.taken)
    (making.statement a c.args.exits.now (length d.nodes + 1) (length d.nodes) d.taken)
    here c.in_ok-entry.entry c.in_ok-here.ensures.nodes c.in_ok-here.ensures.number c.in_ok-entry.ensures.nodes
    c.in_ok-entry.ensures.entry same c.set.ensures
