use Rattle.std.proofs.Common.{◌∙◌, ℕ, List, subst}
use Rattle.std.specs.Borrow.{Bor}
use Rattle.std.proofs.lemmas.List.{drop_all}
use Rattle.cas_command.specs.Parts.{texts}
use Rattle.cas_top.proofs.One_by_one.{ReadsOn, texts_item, reads_next, reads_end}
use Rattle.cas_top.proofs.reading.fetch_all.Goals as goal

pub loop-name-preserved : goal.loop-name-preserved
loop-name-preserved g c =
    let so = c.loop-name.invariant in
    record {
      same = c.fetch_source.ensures.same ∙ so.same;
      kept = c.in_ok-fetch_source.ensures.fetched.2 ∙ so.kept;
      on = rw c.in_ok-push.ensures.items
          (reads_next _ _ _ _ _ _ _ _ _ _ so.on
          (texts_item c.args.names.now c.loop-name.name-index _ c.loop-name-test.true)
          so.same c.in_ok-fetch_source.ensures.fetched);
    }

pub returns-clause-fetched : goal.returns-clause-fetched
returns-clause-fetched g c =
    let so = c.loop-name.invariant in
    let P : List (Bor (List ℕ)) → Type 0 = λ l. ReadsOn (g.S.Shelf.texts c.args.shelf.now) (texts c.args.names.now)
    c.loop-name.sources.items (texts l) in
    let all = reads_end _ _ _ (subst P (drop_all c.loop-name.name-index c.args.names.now c.loop-name-test.false) so.on)
    in
    (all.0, all.1, so.kept)
