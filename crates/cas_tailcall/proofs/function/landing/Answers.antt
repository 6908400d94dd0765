use Rattle.std.proofs.Common.{◌≡◌, Some, map, slice_get, ap, sym, ◌∙◌}
use Rattle.std.proofs.lemmas.Option.{slice_get-get_or}
use Rattle.cas_rtl.specs.Code.{node_of}
use Rattle.cas_tailcall.specs.Tailcall.{next_at}
use Rattle.cas_tailcall.proofs.Making.{map_get, option_map, landing_next}
use Rattle.cas_tailcall.proofs.function.landing.Goals as goal

pub loop-steps-preserved : goal.loop-steps-preserved
loop-steps-preserved c =
    let xs = map node_of c.args.nodes.now in
    let node = c.in-Some.node.now in
    let lookup = c.in-Some.ensures.lookup in
    let there : slice_get c.args.nodes.now c.loop-steps.at ≡ Some node =
    slice_get-get_or c.args.nodes.now c.loop-steps.at node lookup.3.0 ∙ ap Some (sym lookup.1) in
    let found : slice_get xs c.loop-steps.at ≡ Some (node_of node) =
    map_get node_of c.args.nodes.now c.loop-steps.at ∙ ap (option_map node_of) there in
    landing_next xs c.loop-steps.steps c.loop-steps.at c.in-Some-nop_next.next c.loop-steps-test.true
    (ap next_at found ∙ sym c.in-Some-nop_next.ensures) ∙ c.loop-steps.invariant
