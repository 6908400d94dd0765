use Rattle.std.proofs.Common.{Bor, ◌∙◌, ap, sym, rules, tests}
use Rattle.std.specs.Option.{option_map}
use Rattle.std.specs.Str.{bytes_eq}
use Rattle.std.proofs.lemmas.Iterator.{YieldsList-from_slice}
use Rattle.std.proofs.lemmas.Iterator.Search.{find_from_yields_List}
use Rattle.cas_command.specs.declared.parts.Given.{Given}
use Rattle.cas_command.specs.Parts.{text_of}
use Rattle.cas_command.proofs.Readings.{value_of-found}
use Rattle.cas_command.proofs.options.value_of.Goals as goal

pub returns : goal.returns
returns c =
    let found = find_from_yields_List (λ (g : Given). bytes_eq g.option.now c.args.option.now)
    _ _ c.find.result c.find.ensures.ran (YieldsList-from_slice c.args.options.now cc)
    (λ x b q k. search (rules, tests)) in
    ap (option_map (λ (g : Bor Given). g.now.value.now)) (sym c.in_ok-given.was)
    ∙ value_of-found c.args.option.now c.args.options.now c.find.result found

pub returns-in_err-given : goal.returns-in_err-given
returns-in_err-given c =
    let found = find_from_yields_List (λ (g : Given). bytes_eq g.option.now c.args.option.now)
    _ _ c.find.result c.find.ensures.ran (YieldsList-from_slice c.args.options.now cc)
    (λ x b q k. search (rules, tests)) in
    ap text_of c.from_residual.ensures ∙ ap (option_map (λ (g : Bor Given). g.now.value.now)) (sym c.in_err-given.was)
    ∙ value_of-found c.args.option.now c.args.options.now c.find.result found
