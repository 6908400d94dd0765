use Rattle.std.proofs.Common.{◌≡◌, ℕ, Bool, List, [], ◌++◌, map, Option, Some, is_some, ap, sym, subst, ◌∙◌}
use Rattle.std.specs.Option.{option_map}
use Rattle.cas_asm.specs.declared.line.AsmFun.{AsmFun}
use Rattle.cas_settle.specs.declared.link.LinkFault.{LinkFault}
use Rattle.cas_settle.specs.declared.link.LinkFault.TheVariants.{NotDefined}
use Rattle.cas_link.specs.Rows.{FindSame, found}
use Rattle.cas_link.specs.Refusal.{unknown_in_functions}
use Rattle.cas_link.specs.Known.{data_rows, function_rows}
use Rattle.cas_link.proofs.check.check_names.Goals as goal

known-same : (rows others : List (List ℕ × ℕ)) → FindSame rows others
    → ◌≡◌ {A = List ℕ → Bool} (λ name. is_some (found rows name)) (λ name. is_some (found others name))
known-same rows others same = λ i. λ name. is_some (same name i)

unknown-same : (cells names functions rows : List (List ℕ × ℕ)) (funs : List AsmFun) → FindSame cells names →
    FindSame functions rows
    → unknown_in_functions (λ name. is_some (found cells name)) (λ name. is_some (found functions name)) funs
    ≡ unknown_in_functions (λ name. is_some (found names name)) (λ name. is_some (found rows name)) funs
unknown-same cells names functions rows funs p q = λ i. unknown_in_functions (known-same cells names p i)
    (known-same functions rows q i) funs

from_none : (made first rows : List (List ℕ × ℕ)) → first ≡ [] → FindSame made (first ++ rows) → FindSame made rows
from_none made first rows e same = subst (λ (xs : List (List ℕ × ℕ)). FindSame made (xs ++ rows)) e same

abbrev named : Option (List ℕ) → Option LinkFault
named o = option_map NotDefined o

pub returns-in-Some : goal.returns-in-Some
returns-in-Some c =
    let names = data_rows (map (λ g. g.now) c.args.globals.now) in
    let funs = map (λ f. f.now) c.args.funs.now in
    let same = unknown-same c.add_data.new.cells names c.add_functions.new.functions (function_rows funs) funs
    (from_none c.add_data.new.cells c.new-cells.result names c.new-cells.ensures c.in_ok-add_data.ensures)
    (from_none c.add_functions.new.functions c.new-functions.result (function_rows funs)
    c.new-functions.ensures c.in_ok-add_functions.ensures) in
    λ other. ap named (sym (c.in-Some.ensures ∙ same))
    ∙ ap (λ n. Some (NotDefined n)) (sym c.in_ok-copy-in-Some.ensures)

pub returns : goal.returns
returns c =
    let names = data_rows (map (λ g. g.now) c.args.globals.now) in
    let funs = map (λ f. f.now) c.args.funs.now in
    let same = unknown-same c.add_data.new.cells names c.add_functions.new.functions (function_rows funs) funs
    (from_none c.add_data.new.cells c.new-cells.result names c.new-cells.ensures c.in_ok-add_data.ensures)
    (from_none c.add_functions.new.functions c.new-functions.result (function_rows funs)
    c.new-functions.ensures c.in_ok-add_functions.ensures) in
    ap named (sym (c.in-None.ensures ∙ same))
