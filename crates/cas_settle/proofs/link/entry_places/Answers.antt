use Rattle.std.proofs.Common.{ℕ, ◌+◌, ◌≡◌, ◌∷◌, [], ◌++◌, List, Option, Some, None, map, drop, ap, sym, refl, ◌∙◌}
use Rattle.std.specs.Option.{option_or}
use Rattle.std.proofs.lemmas.List.{append-nil, drop_all}
use Rattle.cas_settle.specs.declared.link.LinkFault.{LinkFault}
use Rattle.cas_base.specs.Decl.{definition_of}
use Rattle.cas_settle.specs.Settle.{entry_fault, first_fault}
use Rattle.cas_settle.specs.Located.{decls_in, place_in}
use Rattle.cas_settle.proofs.LocatedLemmas.{drop-item}
use Rattle.cas_settle.proofs.RefusalLemmas.{first_fault-here, first_fault-later, map-step, passed_on}
use Rattle.cas_settle.proofs.link.entry_places.Goals as goal

pub loop-name-init : goal.loop-name-init
loop-name-init c = record {
  refused = refl;
  places = ap (λ places. map (λ place. Some place) places ++ map (place_in c.args.definitions.now) c.args.entries.now)
      c.new-places.ensures.items;
}

pub returns-in_err-entry_place-clause-refused : goal.returns-in_err-entry_place-clause-refused
returns-in_err-entry_place-clause-refused c =
    let fault_of : List ℕ → Option LinkFault = λ name. entry_fault name
    (definition_of (decls_in c.args.definitions.now) name) in
    let name = c.name-item.result in
    let later = drop (c.loop-name.name-index + 1) c.args.entries.now in
    let rest = drop-item c.args.entries.now c.loop-name.name-index name c.loop-name-test.true c.name-item.is in
    passed_on c.from_residual.result c.in_err-entry_place.field-0.0 (first_fault fault_of c.args.entries.now)
    c.from_residual.ensures.1
    (λ other. first_fault-here fault_of c.args.entries.now (drop c.loop-name.name-index c.args.entries.now)
    (name ∷ []) later rest
    c.loop-name.invariant.refused c.in_err-entry_place.field-0.0
    (ap (λ o. option_or o None) (c.in_err-entry_place.ensures.refused other)))

pub loop-name-preserved : goal.loop-name-preserved
loop-name-preserved c =
    let fault_of : List ℕ → Option LinkFault = λ name. entry_fault name
    (definition_of (decls_in c.args.definitions.now) name) in
    let name = c.name-item.result in
    let later = drop (c.loop-name.name-index + 1) c.args.entries.now in
    let rest = drop-item c.args.entries.now c.loop-name.name-index name c.loop-name-test.true c.name-item.is in
    record {
      refused = first_fault-later fault_of c.args.entries.now (drop c.loop-name.name-index c.args.entries.now)
          (name ∷ []) later rest
          c.loop-name.invariant.refused (ap (λ o. option_or o None) c.in_ok-entry_place.ensures.refused);
      places =
          map-step (place_in c.args.definitions.now) c.loop-name.places.items c.push.new.self.items name
          c.in_ok-entry_place.field-0 later
          c.in_ok-push.ensures.items c.in_ok-entry_place.ensures.place
          ∙ ap (λ names. map (λ place. Some place) c.loop-name.places.items ++ map (place_in c.args.definitions.now)
          names) (sym rest)
          ∙ c.loop-name.invariant.places;
    }

pub returns-clause-refused : goal.returns-clause-refused
returns-clause-refused c =
    let fault_of : List ℕ → Option LinkFault = λ name. entry_fault name
    (definition_of (decls_in c.args.definitions.now) name) in
    sym c.loop-name.invariant.refused ∙ ap (first_fault fault_of)
    (drop_all c.loop-name.name-index c.args.entries.now c.loop-name-test.false)

pub returns-clause-places : goal.returns-clause-places
returns-clause-places c =
    ap (map (λ place. Some place)) c.of.ensures
    ∙ sym (append-nil (map (λ place. Some place) c.loop-name.places.items))
    ∙ ap (λ names. map (λ place. Some place) c.loop-name.places.items ++ map (place_in c.args.definitions.now) names)
    (sym (drop_all c.loop-name.name-index c.args.entries.now c.loop-name-test.false))
    ∙ c.loop-name.invariant.places
