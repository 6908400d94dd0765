use Rattle.std.proofs.Common.{ℕ, ◌+◌, ◌≡◌, ◌∷◌, [], ◌++◌, List, length, drop, ap, sym, refl, ◌∙◌, arith}
use Rattle.std.specs.Option.{option_map}
use Rattle.std.proofs.lemmas.List.{append-nil, drop_all}
use Rattle.cas_settle.specs.declared.link.LinkFault.TheVariants.{Twice}
use Rattle.cas_base.specs.Decl.{definitions}
use Rattle.cas_settle.specs.Settle.{all_decls, first_repeated, names_of, words_of}
use Rattle.cas_settle.specs.Located.{decls_in, located_from, located_in, names_in}
use Rattle.cas_settle.proofs.LocatedLemmas.{drop-item, located_from-step, names_of-units, repeated-step, twice-here}
use Rattle.cas_settle.proofs.OptionLemmas.{option_map-none}
use Rattle.cas_settle.proofs.RefusalLemmas.{passed_on}
use Rattle.cas_settle.proofs.definitions.Definitions.of.Goals as goal

pub loop-unit-init : goal.loop-unit-init
loop-unit-init c =
    let units = c.units-decls-items.result.now in
    record {
      found = ap (λ found. found ++ located_from 0 (words_of (decls_in found)) units) c.new-found.ensures;
      repeated = ap (λ found. first_repeated (names_in found) (names_of (definitions (all_decls units))))
          c.new-found.ensures;
    }

pub returns-in_err-add_unit-clause-refused : goal.returns-in_err-add_unit-clause-refused
returns-in_err-add_unit-clause-refused c =
    let units = c.units-decls-items.result.now in
    let decls = c.decls-item.result in
    let later = drop (c.loop-unit.unit + 1) units in
    let rest = drop-item units c.loop-unit.unit decls c.loop-unit-test.true c.decls-item.is in
    passed_on c.from_residual.result c.in_err-add_unit.field-0.0
    (option_map Twice (first_repeated [] (names_of (definitions (all_decls c.args.units.now)))))
    c.from_residual.ensures.1
    (λ other. ap (λ units. option_map Twice (first_repeated [] (names_of (definitions (all_decls units)))))
    (sym c.units-decls-items.ensures)
    ∙ ap (option_map Twice) (sym c.loop-unit.invariant.repeated)
    ∙ twice-here (names_in c.loop-unit.found) (names_of (definitions decls)) (names_of (definitions (all_decls later)))
    (names_of (definitions (all_decls (drop c.loop-unit.unit units)))) c.in_err-add_unit.field-0.0
    (ap (λ us. names_of (definitions (all_decls us))) rest ∙ names_of-units decls later)
    (ap (λ ds. option_map Twice (first_repeated (names_in c.loop-unit.found) (names_of (definitions ds))))
    (sym c.as_slice.ensures)
    ∙ c.in_err-add_unit.ensures.refused other))

pub loop-unit-preserved : goal.loop-unit-preserved
loop-unit-preserved c =
    let units = c.units-decls-items.result.now in
    let decls = c.decls-item.result in
    let found = c.loop-unit.found in
    let new = c.add_unit.new.self in
    let unit = c.loop-unit.unit in
    let later = drop (unit + 1) units in
    let rest = drop-item units unit decls c.loop-unit-test.true c.decls-item.is in
    let added : new ≡ found ++ located_in unit 0 (words_of (decls_in found)) decls =
    c.in_ok-add_unit.ensures.added ∙ ap (λ ds. found ++ located_in unit 0 (words_of (decls_in found)) ds)
    c.as_slice.ensures in
    let none = ap (λ ds. first_repeated (names_in found) (names_of (definitions ds))) (sym c.as_slice.ensures)
    ∙ option_map-none Twice (first_repeated (names_in found) (names_of (definitions c.as_slice.result.now)))
    c.in_ok-add_unit.ensures.refused in
    record {
      found =
          located_from-step found new unit (unit + 1) decls later added refl
          ∙ ap (λ us. found ++ located_from unit (words_of (decls_in found)) us) (sym rest)
          ∙ c.loop-unit.invariant.found;
      repeated =
          repeated-step found new unit 0 decls (names_of (definitions (all_decls later))) added none
          ∙ ap (first_repeated (names_in found))
          (sym (ap (λ us. names_of (definitions (all_decls us))) rest ∙ names_of-units decls later))
          ∙ c.loop-unit.invariant.repeated;
    }

pub returns-clause-found : goal.returns-clause-found
returns-clause-found c =
    let over = drop_all c.loop-unit.unit c.units-decls-items.result.now c.loop-unit-test.false in
    sym (append-nil c.loop-unit.found)
    ∙ ap (λ us. c.loop-unit.found ++ located_from c.loop-unit.unit (words_of (decls_in c.loop-unit.found)) us)
    (sym over)
    ∙ c.loop-unit.invariant.found
    ∙ ap (located_from 0 0) c.units-decls-items.ensures

pub returns-clause-refused : goal.returns-clause-refused
returns-clause-refused c =
    let over = drop_all c.loop-unit.unit c.units-decls-items.result.now c.loop-unit-test.false in
    ap (λ units. option_map Twice (first_repeated [] (names_of (definitions (all_decls units)))))
    (sym c.units-decls-items.ensures)
    ∙ ap (option_map Twice) (sym c.loop-unit.invariant.repeated
    ∙ ap (λ us. first_repeated (names_in c.loop-unit.found) (names_of (definitions (all_decls us)))) over)
