use Rattle.std.proofs.Common.{ap}
use Rattle.cas_command.specs.Parts.{texts}
use Rattle.cas_command.specs.View.{world_view}
use Rattle.cas_top.proofs.Turning.{prints}
use Rattle.cas_top.proofs.worlds.turned_lines.Goals as goal

pub returns : goal.returns
returns c =
    let (ms, read, typed) = c.in_ok-modules.ensures.modules in
    let (is, free) = c.in_ok-program.ensures ms typed in
    let there = c.in_ok-world.ensures ms _ is in
    prints (world_view c.args.given.now) _ _ _ _ ms (ap texts c.as_slice-2.ensures.value)
    (ap texts c.as_slice.ensures.value) read is.program free
    (c.in_ok-world_lines.ensures ms _ _ there)
