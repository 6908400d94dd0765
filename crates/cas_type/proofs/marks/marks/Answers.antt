use Rattle.std.proofs.Common.{◌≡◌, [], ap, sym, ◌∙◌, arith}
use Rattle.std.proofs.lemmas.Grind.{common_steps}
use Rattle.cas_type.proofs.Marks_lemmas.{marked_all, marks_are}
use Rattle.cas_type.proofs.marks.marks.Goals as goal

pub returns : goal.returns
returns c =
    let over : c.each.rest.now ≡ [] = grind (arith, common_steps) in
    ap (λ ms. marked_all ms c.each.marks.items) (sym over) ∙ c.each.invariant
    ∙ marks_are c.args.numbers.now c.args.count
