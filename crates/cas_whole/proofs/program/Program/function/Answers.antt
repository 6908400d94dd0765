use Rattle.std.proofs.Common.{length, refl, ap, sym, ◌∙◌}
use Rattle.std.specs.Prelude.{slice_get}
use Rattle.std.proofs.lemmas.Option.{slice_get_past, slice_get_read}
use Rattle.cas_whole.proofs.Bodies_found.{program_found, program_same, program_there, no_module}
use Rattle.cas_whole.proofs.program.Program.function.Goals as goal

pub returns-in-Some-clause-same : goal.returns-in-Some-clause-same
returns-in-Some-clause-same c =
    let found = c.in-Some.ensures.lookup in
    let typed = c.in-Some.typed.now in
    program_same c.body_in.result c.args.self.now.modules c.args.unit c.args.place typed
    (ap (λ ts. slice_get ts c.args.unit) (sym c.as_slice.ensures)
    ∙ slice_get_read c.as_slice.result.now (length c.as_slice.result.now) c.args.unit typed refl found.3.0 found.1)
    c.body_in.ensures.same

pub returns-in-Some-clause-found : goal.returns-in-Some-clause-found
returns-in-Some-clause-found c =
    let found = c.in-Some.ensures.lookup in
    let typed = c.in-Some.typed.now in
    program_found c.body_in.result c.args.self.now (record { unit = c.args.unit; place = c.args.place }) typed
    (ap (λ ts. slice_get ts c.args.unit) (sym c.as_slice.ensures)
    ∙ slice_get_read c.as_slice.result.now (length c.as_slice.result.now) c.args.unit typed refl found.3.0 found.1)
    c.body_in.ensures.found

pub returns-in-Some-clause-there : goal.returns-in-Some-clause-there
returns-in-Some-clause-there c =
    let found = c.in-Some.ensures.lookup in
    let typed = c.in-Some.typed.now in
    program_there c.body_in.result c.args.self.now (record { unit = c.args.unit; place = c.args.place }) typed
    (ap (λ ts. slice_get ts c.args.unit) (sym c.as_slice.ensures)
    ∙ slice_get_read c.as_slice.result.now (length c.as_slice.result.now) c.args.unit typed refl found.3.0 found.1)
    c.body_in.ensures.there

pub returns-in-None-clause-there : goal.returns-in-None-clause-there
returns-in-None-clause-there c =
    let found = c.in-None.ensures.lookup in
    no_module c.args.self.now (record { unit = c.args.unit; place = c.args.place })
    (ap (λ ts. slice_get ts c.args.unit) (sym c.as_slice.ensures)
    ∙ slice_get_past c.as_slice.result.now c.args.unit found.3)
