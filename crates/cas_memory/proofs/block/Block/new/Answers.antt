use Rattle.std.proofs.Common.{◌≡◌, ◌∷◌, ◌++◌, List, length, map, refl, sym, ap, ◌∙◌}
use Rattle.cas_step.specs.Step.{locals_of}
use Rattle.cas_memory.specs.Blocks.{locals_in}
use Rattle.cas_memory.specs.Values.{value_of}
use Rattle.cas_memory.specs.declared.block.Span.{Span}
use Rattle.cas_memory.specs.declared.value.Value.{Value}
use Rattle.cas_typed.specs.declared.rows.Local.{Local}
use Rattle.cas_memory.proofs.Block_lemmas.{whole_added, goes_on}
use Rattle.cas_memory.proofs.block.Block.new.Goals as goal

pub each-preserved : goal.each-preserved
each-preserved c =
    let local = c.in-Some.local.now in
    let others = c.in-Some.others.now in
    let is : c.each.rest.now ≡ local ∷ others = c.in-Some.ensures.cases.0 in
    let s : Span = record { first = length c.each.cells.items; length = c.first_value-count.result.0 } in
    let v = c.first_value-count.result.1 in
    let more = goes_on c.each.spans.items c.add.new.spans.items c.each.cells.items c.add.new.cells.items
    c.each.values.now s v local.ty (map (λ (x : Local). x.ty) others)
    c.each.invariant.whole refl c.in_ok-add.ensures.spans c.in_ok-add.ensures.cells c.first_value-count.ensures in
    record {
      whole = whole_added c.each.spans.items c.add.new.spans.items c.each.cells.items c.add.new.cells.items s v
          c.each.invariant.whole refl c.in_ok-add.ensures.spans c.in_ok-add.ensures.cells;
      locals =
          ap (λ (l : List Value). locals_in c.add.new.spans.items (map value_of c.add.new.cells.items) ++ locals_of
          (map (λ (x : Local). x.ty) others) (map value_of l)) c.behind_first-values.ensures
          ∙ more
          ∙ ap (λ (l : List Local). locals_in c.each.spans.items (map value_of c.each.cells.items) ++ locals_of
          (map (λ (x : Local). x.ty) l) (map value_of c.each.values.now)) (sym is)
          ∙ c.each.invariant.locals;
    }
