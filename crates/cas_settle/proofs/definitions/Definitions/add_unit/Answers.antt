use Rattle.std.proofs.Common.{ℕ, ◌+◌, ◌≡◌, ◌∷◌, [], ◌++◌, List, length, drop, ap, sym, refl, ◌∙◌, arith}
use Rattle.std.specs.Option.{option_map}
use Rattle.std.proofs.lemmas.List.{append-nil, drop_all}
use Rattle.cas_settle.specs.declared.link.LinkFault.TheVariants.{Twice}
use Rattle.cas_base.specs.Decl.{definitions, functions_of}
use Rattle.cas_settle.specs.Settle.{first_repeated, names_of, words_of}
use Rattle.cas_settle.specs.Located.{decls_in, located_in, names_in}
use Rattle.cas_settle.proofs.LocatedLemmas.{drop-item, length-functions_of-cons, located_in-step, names_of-cons, repeated-step, twice-here}
use Rattle.cas_settle.proofs.OptionLemmas.{option_map-none}
use Rattle.cas_settle.proofs.RefusalLemmas.{passed_on}
use Rattle.cas_settle.proofs.definitions.Definitions.add_unit.Goals as goal

pub add_decl-requires : goal.add_decl-requires
add_decl-requires c =
    let rest = drop-item c.args.decls.now c.loop-decl.decl-index c.decl-item.result c.loop-decl-test.true c.decl-item.is
    in
    omega (
      arith,
      c.loop-decl.invariant.counted,
      ap (λ ds. length (functions_of ds)) rest,
      length-functions_of-cons c.decl-item.result (drop (c.loop-decl.decl-index + 1) c.args.decls.now),
    )

pub loop-decl-init : goal.loop-decl-init
loop-decl-init c = record { found = refl; repeated = refl; counted = omega arith }

pub returns-in_err-place-clause-refused : goal.returns-in_err-place-clause-refused
returns-in_err-place-clause-refused c =
    let decl = c.decl-item.result in
    let later = drop (c.loop-decl.decl-index + 1) c.args.decls.now in
    let rest = drop-item c.args.decls.now c.loop-decl.decl-index decl c.loop-decl-test.true c.decl-item.is in
    let before = names_in c.loop-decl.self in
    passed_on c.from_residual.result c.in_err-place.field-0.0
    (option_map Twice (first_repeated (names_in c.args.self.now) (names_of (definitions c.args.decls.now))))
    c.from_residual.ensures.1
    (λ other. ap (option_map Twice) (sym c.loop-decl.invariant.repeated)
    ∙ twice-here before (names_of (definitions (decl ∷ []))) (names_of (definitions later))
    (names_of (definitions (drop c.loop-decl.decl-index c.args.decls.now))) c.in_err-place.field-0.0
    (ap (λ ds. names_of (definitions ds)) rest ∙ names_of-cons decl later)
    (c.in_err-place.ensures.refused other))

pub loop-decl-preserved : goal.loop-decl-preserved
loop-decl-preserved c =
    let decl = c.decl-item.result in
    let later = drop (c.loop-decl.decl-index + 1) c.args.decls.now in
    let found = c.loop-decl.self in
    let new = c.add_decl.new.self in
    let rest = drop-item c.args.decls.now c.loop-decl.decl-index decl c.loop-decl-test.true c.decl-item.is in
    let none = option_map-none Twice (first_repeated (names_in found) (names_of (definitions (decl ∷ []))))
    c.in_ok-place.ensures.refused in
    record {
      found =
          located_in-step found new c.args.unit c.loop-decl.place c.in_ok-place.place decl later
          c.in_ok-place.ensures.added c.in_ok-place.ensures.next
          ∙ ap (λ ds. found ++ located_in c.args.unit c.loop-decl.place (words_of (decls_in found)) ds) (sym rest)
          ∙ c.loop-decl.invariant.found;
      repeated =
          repeated-step found new c.args.unit c.loop-decl.place (decl ∷ []) (names_of (definitions later))
          c.in_ok-place.ensures.added none
          ∙ ap (first_repeated (names_in found))
          (sym (ap (λ ds. names_of (definitions ds)) rest ∙ names_of-cons decl later))
          ∙ c.loop-decl.invariant.repeated;
      counted = omega (
        arith,
        c.in_ok-place.ensures.next,
        c.loop-decl.invariant.counted,
        ap (λ ds. length (functions_of ds)) rest,
        length-functions_of-cons decl later,
      );
    }

pub returns-clause-added : goal.returns-clause-added
returns-clause-added c =
    let over = drop_all c.loop-decl.decl-index c.args.decls.now c.loop-decl-test.false in
    sym (append-nil c.loop-decl.self)
    ∙ ap (λ ds. c.loop-decl.self ++ located_in c.args.unit c.loop-decl.place (words_of (decls_in c.loop-decl.self)) ds)
    (sym over)
    ∙ c.loop-decl.invariant.found

pub returns-clause-refused : goal.returns-clause-refused
returns-clause-refused c =
    let over = drop_all c.loop-decl.decl-index c.args.decls.now c.loop-decl-test.false in
    ap (option_map Twice) (sym c.loop-decl.invariant.repeated
    ∙ ap (λ ds. first_repeated (names_in c.loop-decl.self) (names_of (definitions ds))) over)
