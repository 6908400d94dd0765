use Rattle.std.proofs.Common.{length, map, ap, ◌∙◌, arith, length-append}
use Rattle.cas_settle.specs.Settle.{cells_of}
use Rattle.cas_link.specs.Parts.{decls_in, functions_in, sizes_of}
use Rattle.cas_link.specs.Image_of.{words_in, constants_in, guards_in, locks_in}
use Rattle.cas_link.specs.Code.{code_from}
use Rattle.cas_link.proofs.Lengths.{length-code_from, length-constants_in, length-guards_in, length-words-objects, lens-cells_of}
use Rattle.cas_link.proofs.Resolving.{code_is, threads_are}
use Rattle.cas_link.proofs.linking.link.Goals as goal

pub invariant_of-result-clause-within_code : goal.invariant_of-result-clause-within_code
invariant_of-result-clause-within_code c =
    let object = c.as_slice-object.result.now in
    let funs = map (λ f. f.now) c.in_ok-plan.plan.functions.items in
    let tables = c.in_ok-tables.tables in
    let code = ap length c.of.ensures ∙ ap length c.in_ok-code.ensures in
    let parts = length-append object (code_from tables.addresses tables.places (length object) funs) in
    let sizes = length-code_from tables.addresses tables.places (length object) funs in
    let all = ap sizes_of c.in_ok-plan.ensures.functions in
    omega (arith, code, parts, sizes, all, c.in_ok-plan.ensures.code)

pub invariant_of-result-clause-within_words : goal.invariant_of-result-clause-within_words
invariant_of-result-clause-within_words c =
    let globals = ap (map (λ g. g.now)) c.deref.ensures.value ∙ c.in_ok-plan.ensures.globals in
    let words = ap length (c.of-2.ensures ∙ c.in_ok-words.ensures ∙ ap words_in globals) in
    omega (arith, words, length-words-objects c.args.objects.now c.requires.whole, c.in_ok-plan.ensures.words)

pub invariant_of-result-clause-constants : goal.invariant_of-result-clause-constants
invariant_of-result-clause-constants c =
    let objects = c.args.objects.now in
    let globals = ap (map (λ g. g.now)) c.deref.ensures.value ∙ c.in_ok-plan.ensures.globals in
    let words = ap length (c.of-2.ensures ∙ c.in_ok-words.ensures ∙ ap words_in globals) in
    let cells = c.as_slice.ensures ∙ c.in_ok-plan.ensures.cells in
    let constants = ap length (c.of-3.ensures ∙ c.in_ok-constant.ensures ∙ ap constants_in cells) in
    omega (
      arith,
      words,
      constants,
      length-words-objects objects c.requires.whole,
      length-constants_in (cells_of (decls_in objects)),
      lens-cells_of (decls_in objects),
    )

pub invariant_of-result-clause-guarded : goal.invariant_of-result-clause-guarded
invariant_of-result-clause-guarded c =
    let objects = c.args.objects.now in
    let globals = ap (map (λ g. g.now)) c.deref.ensures.value ∙ c.in_ok-plan.ensures.globals in
    let words = ap length (c.of-2.ensures ∙ c.in_ok-words.ensures ∙ ap words_in globals) in
    let cells = c.as_slice-2.ensures ∙ c.in_ok-plan.ensures.cells in
    let guards = ap length (c.of-4.ensures ∙ c.in_ok-guards.ensures ∙ ap guards_in cells) in
    omega (
      arith,
      words,
      guards,
      length-words-objects objects c.requires.whole,
      length-guards_in (cells_of (decls_in objects)),
      lens-cells_of (decls_in objects),
    )

pub returns-clause-image : goal.returns-clause-image
returns-clause-image c =
    let objects = c.args.objects.now in
    let funs = map (λ f. f.now) c.in_ok-plan.plan.functions.items in
    let tables = c.in_ok-tables.tables in
    let plan = c.in_ok-plan.ensures in
    let globals = ap (map (λ g. g.now)) c.deref.ensures.value ∙ plan.globals in
    record {
      code = c.of.ensures ∙ c.in_ok-code.ensures
          ∙ code_is c.as_slice-object.result.now c.args.lock.now.code funs (functions_in objects)
          c.in_ok-plan.plan.cells (cells_of (decls_in objects)) tables.addresses tables.places
          c.as_slice-object.ensures plan.functions plan.cells c.in_ok-tables.ensures.addresses
          c.in_ok-tables.ensures.places;
      words = c.of-2.ensures ∙ c.in_ok-words.ensures ∙ ap words_in globals;
      constants = c.of-3.ensures ∙ c.in_ok-constant.ensures
          ∙ ap constants_in (c.as_slice.ensures ∙ plan.cells);
      guards = c.of-4.ensures ∙ c.in_ok-guards.ensures ∙ ap guards_in (c.as_slice-2.ensures ∙ plan.cells);
      locks = c.of-5.ensures ∙ c.in_ok-locks.ensures ∙ ap locks_in (c.as_slice-3.ensures ∙ plan.cells);
      threads = c.of-6.ensures ∙ c.in_ok-entries.ensures
          ∙ threads_are c.as_slice-object.result.now c.args.lock.now.code funs (functions_in objects)
          tables.places c.args.entries.now c.as_slice-object.ensures plan.functions c.in_ok-tables.ensures.places;
    }
