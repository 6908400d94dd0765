use Rattle.std.proofs.Common.{List, ap, subst, ◌+◌, ◌∙◌, length}
use Rattle.std.proofs.lemmas.List.{drop_all}
use Rattle.cas_top.specs.declared.source.Source.{Source}
use Rattle.cas_top.proofs.One_by_one.{drop-item}
use Rattle.cas_top.proofs.Turning.{ModulesOn, length_behind, modules_next, modules_end}
use Rattle.cas_top.proofs.worlds.checked_modules.Goals as goal

pub loop-source-preserved : goal.loop-source-preserved
loop-source-preserved c =
    let so = c.loop-source.invariant in
    record {
      counted = ap length c.in_ok-push.ensures.items ∙ length_behind c.loop-source.modules.items
          c.in_ok-checked_module.field-0 ∙ ap (λ n. n + 1) so.counted;
      on = rw c.in_ok-push.ensures.items
          (modules_next _ _ _ _ _ _ _ so.on
          (drop-item c.args.sources.now c.loop-source.source-index c.source-item.result c.loop-source-test.true
          c.source-item.is) c.as_slice.ensures.value c.in_ok-checked_module.ensures.checked);
    }

pub returns-clause-modules : goal.returns-clause-modules
returns-clause-modules c =
    let P : List Source → Type 0 = λ l. ModulesOn c.args.sources.now l c.loop-source.modules.items in
    modules_end _ _ (subst P (drop_all c.loop-source.source-index c.args.sources.now c.loop-source-test.false)
    c.loop-source.invariant.on)
