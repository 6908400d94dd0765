use Rattle.std.proofs.Common.{◌≡◌, ◌||◌, length, ap, sym, ◌∙◌}
use Rattle.std.specs.List.{list_any}
use Rattle.cas_base.specs.Decl.{definitions, is_named}
use Rattle.cas_symbols.specs.Meanings.{is_defined, symbol_meaning}
use Rattle.cas_symbols.proofs.Declared.{first_defined, first_item, or_item}
use Rattle.cas_typed.specs.Scopes.{item, item_named}
use Rattle.cas_symbols.proofs.table.Symbols.get_with.Goals as goal
use Rattle.cas_symbols.proofs.table.Symbols.get_with.Goals.{then-first, else-first}

pub returns-after-first-clause-meaning : goal.returns-after-first-clause-meaning
returns-after-first-clause-meaning c =
    let ds = c.args.self.now in
    let d = c.args.decl.now in
    ap (λ found. or_item (symbol_meaning found) (item (length ds) d.form)) (sym c.in-Some.is)
    ∙ first_item c.get.result ds d (c.get.ensures.meaning ∙ ap (item_named 0 ds) c.as_str.ensures.text)

pub returns-after-first-clause-defined : goal.returns-after-first-clause-defined
returns-after-first-clause-defined c =
    let ds = c.args.self.now in
    let d = c.args.decl.now in
    let either : c.if-first.result ≡ (c.in-Some.first.defined || d.defined) =
    elim c.if-first.branch [
      | then-first w ↦ w.result-is ∙ w.if-first.true ∙ ap (λ b. b || d.defined) (sym w.if-first.true)
      | else-first w ↦ w.result-is ∙ ap (λ b. b || d.defined) (sym w.if-first.false)
    ] in
    either
    ∙ ap (λ found. is_defined found || d.defined) (sym c.in-Some.is)
    ∙ first_defined c.get.result ds d (c.get.ensures.defined
    ∙ ap (λ name. list_any (is_named name) (definitions ds)) c.as_str.ensures.text)

pub returns-in-None-clause-meaning : goal.returns-in-None-clause-meaning
returns-in-None-clause-meaning c =
    let ds = c.args.self.now in
    let d = c.args.decl.now in
    ap (λ n. item n d.form) c.len.ensures
    ∙ ap (λ found. or_item (symbol_meaning found) (item (length ds) d.form)) (sym c.in-None.is)
    ∙ first_item c.get.result ds d (c.get.ensures.meaning ∙ ap (item_named 0 ds) c.as_str.ensures.text)

pub returns-in-None-clause-defined : goal.returns-in-None-clause-defined
returns-in-None-clause-defined c =
    let ds = c.args.self.now in
    let d = c.args.decl.now in
    ap (λ found. is_defined found || d.defined) (sym c.in-None.is)
    ∙ first_defined c.get.result ds d (c.get.ensures.defined
    ∙ ap (λ name. list_any (is_named name) (definitions ds)) c.as_str.ensures.text)
