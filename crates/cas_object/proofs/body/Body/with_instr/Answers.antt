use Rattle.std.proofs.Common.{◌≡◌, ◌+◌, ◌<◌, nat_lt, ◌++◌, ◌∷◌, [], ap, sym, ◌∙◌, rules, arith}
use Rattle.std.proofs.lemmas.Bool.{ltb-true}
use Rattle.cas_asm.specs.declared.line.Line.TheVariants.{Run}
use Rattle.cas_object_text.specs.Labels.{is_set, are_distinct}
use Rattle.cas_object.specs.Bodies.{Body, instructions}
use Rattle.cas_object.proofs.Counting.{set_instruction, instructions_more, distinct_instruction}
use Rattle.cas_object.proofs.body.Body.with_instr.Goals as goal

pub invariant_of-result : goal.invariant_of-result
invariant_of-result c =
    let kept = c.self.invariant in
    let old = c.self.inside.lines.items in
    let i = c.args.instr in
    let put : c.push.new.self.items ≡ old ++ Run i ∷ [] = search rules in
    let small : instructions old < 4194304 = ltb-true _ _
    (ap (λ (b : Body). nat_lt (instructions b.lines) 4194304) c.self.view_is ∙ c.requires) in
    let count : c.self.inside.instructions ≡ instructions old = kept.1 in
    let counted : c.self.inside.instructions + 1 ≡ instructions c.push.new.self.items =
    ap (λ n. n + 1) count ∙ (sym (instructions_more old i) ∙ ap instructions (sym put)) in (
      (λ n. set_instruction old _ i kept.0 n ∙ ap (λ ls. is_set ls n) (sym put)),
      counted,
      omega (arith, small, count),
      ap are_distinct put ∙ (distinct_instruction old i ∙ kept.3),
    )
