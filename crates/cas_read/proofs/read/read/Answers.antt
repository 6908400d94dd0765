use Rattle.std.proofs.Common.{◌≡◌, [], map, Ok, sym}
use Rattle.cas_syntax.specs.Tree.{item_tree}
use Rattle.cas_parse.specs.Frames.{InItems}
use Rattle.cas_read_expr.specs.Follow.{verdict}
use Rattle.cas_read.proofs.Reader.{reads_items}
use Rattle.cas_read.proofs.read.read.Goals as goal

pub returns-in-Ok-items : goal.returns-in-Ok-items
returns-in-Ok-items c =
    let value = c.as_slice.ensures.value in
    let items = c.of.ensures in
    let read = c.in-Ok-items.ensures.follows in
    let told : verdict c.in-Ok.tokens.items (InItems []) [] ≡ Ok (map item_tree c.of.result) =
    rw (sym value, items) read in
    reads_items c.args.bytes.now c.in-Ok.tokens.items (record { items = c.of.result }) c.in-Ok.ensures.tokens told
