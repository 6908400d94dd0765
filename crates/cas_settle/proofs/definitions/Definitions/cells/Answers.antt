use Rattle.std.proofs.Common.{ℕ, ◌≡◌, ◌∷◌, [], ◌++◌, List, Option, map, ap, sym, refl, ◌∙◌}
use Rattle.std.specs.Borrow.{Bor}
use Rattle.std.specs.List.{cons_option, filter_map}
use Rattle.std.proofs.lemmas.List.{append-nil}
use Rattle.cas_settle.specs.declared.definitions.Definition.{Definition}
use Rattle.cas_settle.specs.declared.link.CellRow.{CellRow}
use Rattle.cas_settle.specs.Settle.{cell_of}
use Rattle.cas_settle.specs.Located.{Located, cells_in, located, lock_word_in}
use Rattle.cas_settle.proofs.FindLemmas.{map-located}
use Rattle.cas_settle.proofs.RefusalLemmas.{append-cons_option}
use Rattle.cas_settle.proofs.definitions.Definitions.cells.Goals as goal

pub loop-definition-init : goal.loop-definition-init
loop-definition-init c =
    let row : Located → Option CellRow = λ item. cell_of (lock_word_in c.args.self.now)
    item.word item.decl.name item.decl.form in
    ap (λ cells. cells ++ filter_map row (map located c.into_iter-definition-iterator.result)) c.new-cells.ensures.items
    ∙ ap (λ definitions. filter_map row (map located definitions))
    (c.into_iter-definition-iterator.ensures.into_iter_gives ∙ c.values-definition-items.ensures.rest)
    ∙ ap (filter_map row) (map-located c.self.inside.table.entries ∙ c.self.view_is)

pub loop-definition-preserved : goal.loop-definition-preserved
loop-definition-preserved c =
    let row : Located → Option CellRow = λ item. cell_of (lock_word_in c.args.self.now)
    item.word item.decl.name item.decl.form in
    let more = filter_map row (map located c.next.new.self) in
    ap (λ cells. cells ++ more) c.in_ok-add_cell.ensures
    ∙ append-cons_option c.loop-definition.cells.items (row (located c.in-Some.definition.now)) more
    ∙ ap (λ rest. c.loop-definition.cells.items ++ filter_map row (map located rest)) (sym c.in-Some.ensures.steps)
    ∙ c.loop-definition.invariant

pub returns : goal.returns
returns c =
    let row : Located → Option CellRow = λ item. cell_of (lock_word_in c.args.self.now)
    item.word item.decl.name item.decl.form in
    c.of.ensures
    ∙ sym (append-nil c.loop-definition.cells.items)
    ∙ ap (λ rest. c.loop-definition.cells.items ++ filter_map row (map located rest)) (sym c.in-None.ensures.steps.0)
    ∙ c.loop-definition.invariant
