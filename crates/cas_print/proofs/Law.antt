-- The canonical text of a module that some text is read as is read as the same module, but for places.
use Rattle.std.proofs.Common.{ℕ, List, [], ap}
use Rattle.std.proofs.lemmas.Str.{IsUtf8-from_ascii}
use Rattle.cas_lex.specs.Lexed.{at_end}
use Rattle.cas_lex.specs.Places.{start}
use Rattle.cas_syntax.specs.Alike.{nowhere, IsAlike}
use Rattle.cas_syntax.specs.Reading.{IsReadAs}
use Rattle.cas_syntax.specs.Tree.{ItemTree, ModuleTree}
use Rattle.cas_print.specs.Items.{printed_items, canonical}
use Rattle.cas_print.specs.Pieces.{text}
use Rattle.cas_print.proofs.Ascii.{text_ascii}
use Rattle.cas_print.proofs.Fronts.{lexed_sound}
use Rattle.cas_print.proofs.Modules.{items_printable}
use Rattle.cas_print.proofs.Placed.{placed}
use Rattle.cas_print.proofs.Relexed.{by_count, lexed_again}

pub canonical_is_read : (bytes : List ℕ) (m : ModuleTree) → IsReadAs bytes m → (other : ModuleTree)
    × IsReadAs (canonical m) other × IsAlike other m
canonical_is_read bytes m read =
    let tokens = read.0 in
    let sound = lexed_sound start bytes tokens at_end read.1.1 in
    let pieces = printed_items m.items [] in
    let good = (items_printable (λ ps. nowhere) m.items tokens [] read.2 sound).1.0 [] tt in
    let lexed = lexed_again pieces start good in
    let again = (items_printable (by_count lexed.0) m.items tokens [] read.2 sound).1.1 [] in (
      record { items = again.0 },
      (placed (by_count lexed.0) pieces, (IsUtf8-from_ascii (text pieces) (text_ascii pieces good), lexed.1), again.1),
      ap (λ (items : List ItemTree). let all : ModuleTree = record { items = items } in all) again.2,
    )
