use Rattle.std.proofs.Common.{◌++◌, [], ◌∷◌, ap, subst}
use Rattle.std.proofs.Common.{ℕ}
use Rattle.std.specs.Str.{bytes_eq}
use Rattle.cas_base.specs.Word.{word_add, word_mul}
use Rattle.cas_link.specs.Rows.{FindSame}
use Rattle.cas_link.specs.Code.{addresses_of}
use Rattle.cas_link.proofs.Finding.{found-step}
use Rattle.cas_link.proofs.code.add_addresses.Goals as goal

pub cells-preserved : goal.cells-preserved
cells-preserved c =
    let others = c.in-Some.others.now in
    let cell = c.in-Some.cell.now in
    let same = λ (n : ℕ). FindSame c.add.new.self (c.cells.addresses ++ (cell.name, n) ∷ []) in
    found-step bytes_eq c.cells.addresses c.add.new.self (addresses_of others) (addresses_of c.cells.rest.now)
    (c.args.addresses.now ++ addresses_of c.args.cells.now)
    (cell.name, word_add 4096 (word_mul 4 cell.first))
    (subst same c.address_of.ensures c.in_ok-add.ensures)
    (ap addresses_of c.in-Some.ensures.cases.0)
    c.cells.invariant
