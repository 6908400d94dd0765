use Rattle.std.proofs.Common.{◌≡◌, ◌==◌, false, ◌++◌, ◌∷◌, [], ap, sym, ◌∙◌, rules}
use Rattle.std.specs.List.{list_any}
use Rattle.cas_asm.specs.declared.line.Line.TheVariants.{Label}
use Rattle.cas_object_text.specs.Labels.{is_set, are_distinct}
use Rattle.cas_object.specs.Bodies.{Body, instructions}
use Rattle.cas_object.proofs.Counting.{set_label, instructions_label, distinct_label}
use Rattle.cas_object.proofs.body.Body.with_label.Goals as goal

pub note-requires : goal.note-requires
note-requires c =
    c.self.invariant.0 c.args.label
    ∙ (ap (λ (b : Body). is_set b.lines c.args.label) c.self.view_is ∙ c.requires)

pub invariant_of-result : goal.invariant_of-result
invariant_of-result c =
    let kept = c.self.invariant in
    let old = c.self.inside.lines.items in
    let m = c.args.label in
    let fresh : is_set old m ≡ false = ap (λ (b : Body). is_set b.lines m) c.self.view_is ∙ c.requires in
    let put : c.push.new.self.items ≡ old ++ Label m ∷ [] = search rules in
    let noted : c.note.new.self ≡ c.self.inside.labels ++ m ∷ [] = search rules in (
      (λ n. ap (λ ls. list_any (λ label. label == n) ls) noted ∙ (set_label old c.self.inside.labels m kept.0 n
          ∙ ap (λ ls. is_set ls n) (sym put))),
      kept.1 ∙ (sym (instructions_label old m) ∙ ap instructions (sym put)),
      kept.2,
      ap are_distinct put ∙ distinct_label old m fresh kept.3,
    )
