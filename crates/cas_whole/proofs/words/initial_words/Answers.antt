use Rattle.std.proofs.Common.{List, ◌++◌, sym, ap, ◌∙◌}
use Rattle.std.specs.List.{flat_map}
use Rattle.std.proofs.lemmas.List.{append-nil, nil_from_length}
use Rattle.cas_typed.specs.declared.typed.Typed.{Typed}
use Rattle.cas_whole.proofs.Words_of.{words_in, words_same}
use Rattle.cas_whole.proofs.words.initial_words.Goals as goal

pub returns : goal.returns
returns c =
    let over = nil_from_length c.modules.rest.now c.in_default.ensures.cases in λ ms names is.
    sym (append-nil c.modules.words.items)
    ∙ ap (λ (ts : List Typed). c.modules.words.items ++ flat_map words_in ts) (sym over)
    ∙ c.modules.invariant
    ∙ words_same c.args.program.now.modules ms is.typed
