use Rattle.std.proofs.Common.{◌≡◌, ◌+◌, ◌-◌, ◌≤◌, length, take, drop, ap, sym, ◌∙◌, arith}
use Rattle.std.proofs.lemmas.List.{length-append, length-drop, take-append-drop}
use Rattle.cas_type.specs.View.{forgotten}
use Rattle.cas_type.proofs.Locals_named.{around_kept, block_kept}
use Rattle.cas_type.proofs.scope.Scopes.forget.Goals as goal

pub returns : goal.returns
returns c =
    let held = c.self.inside in
    let all = held.locals in
    let new = c.truncate.new.self in
    let visible = c.args.visible in
    let counted : length c.args.self.now.around ≡ length all - (length all - held.around) =
    ap (λ scope. length scope.around) (sym c.self.view_is) ∙ length-drop (length all - held.around) all in
    let less : held.around ≤ visible = omega (arith, counted, c.requires.around, c.self.invariant) in
    let whole : length c.args.self.now.block + length c.args.self.now.around ≡ length all =
    ap (λ scope. length scope.block + length scope.around) (sym c.self.view_is)
    ∙ sym (length-append (take (length all - held.around) all) (drop (length all - held.around) all))
    ∙ ap length (take-append-drop (length all - held.around) all) in
    let enough : visible ≤ length all = omega (arith, whole, c.requires.within) in
    (λ i. record {
      block = block_kept all new held.around visible less enough c.truncate.ensures i;
      around = around_kept all new held.around visible less enough c.truncate.ensures i;
      decls = held.symbols;
      count = held.count;
    })
    ∙ ap (forgotten visible) c.self.view_is
