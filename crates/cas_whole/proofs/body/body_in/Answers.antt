use Rattle.std.proofs.Common.{length, refl, ap, sym, ◌∙◌}
use Rattle.std.specs.Prelude.{slice_get}
use Rattle.std.proofs.lemmas.Option.{slice_get_past, slice_get_read}
use Rattle.cas_whole.specs.Bodies.{body_of}
use Rattle.cas_whole.proofs.Bodies_found.{found_if, same_if, there_if, none_past}
use Rattle.cas_whole.proofs.body.body_in.Goals as goal

pub returns-in-Some-clause-same : goal.returns-in-Some-clause-same
returns-in-Some-clause-same c =
    let found = c.in-Some.ensures.lookup in
    let f = c.in-Some.function.now in
    same_if c.body_at.result c.args.typed.now c.args.place f
    (ap (λ fs. slice_get fs c.args.place) (sym c.functions.ensures)
    ∙ slice_get_read c.functions.result.now (length c.functions.result.now) c.args.place f refl found.3.0 found.1)
    (c.body_at.ensures ∙ ap (λ items. body_of f (slice_get items f.item))
    (c.as_slice.ensures ∙ ap (λ m. m.items) c.module.ensures))

pub returns-in-Some-clause-found : goal.returns-in-Some-clause-found
returns-in-Some-clause-found c =
    let found = c.in-Some.ensures.lookup in
    let f = c.in-Some.function.now in
    found_if c.body_at.result c.args.typed.now c.args.place f
    (ap (λ fs. slice_get fs c.args.place) (sym c.functions.ensures)
    ∙ slice_get_read c.functions.result.now (length c.functions.result.now) c.args.place f refl found.3.0 found.1)
    (c.body_at.ensures ∙ ap (λ items. body_of f (slice_get items f.item))
    (c.as_slice.ensures ∙ ap (λ m. m.items) c.module.ensures))

pub returns-in-Some-clause-there : goal.returns-in-Some-clause-there
returns-in-Some-clause-there c =
    let found = c.in-Some.ensures.lookup in
    let f = c.in-Some.function.now in
    there_if c.body_at.result c.args.typed.now c.args.place f
    (ap (λ fs. slice_get fs c.args.place) (sym c.functions.ensures)
    ∙ slice_get_read c.functions.result.now (length c.functions.result.now) c.args.place f refl found.3.0 found.1)
    (c.body_at.ensures ∙ ap (λ items. body_of f (slice_get items f.item))
    (c.as_slice.ensures ∙ ap (λ m. m.items) c.module.ensures))

pub returns-in-None-clause-there : goal.returns-in-None-clause-there
returns-in-None-clause-there c =
    let found = c.in-None.ensures.lookup in λ r it typed at.
    none_past c.args.typed.now c.args.place r it (ap (λ fs. slice_get fs c.args.place) (sym c.functions.ensures)
    ∙ slice_get_past c.functions.result.now c.args.place found.3) typed at
