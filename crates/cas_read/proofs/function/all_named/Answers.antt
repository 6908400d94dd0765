use Rattle.std.proofs.Common.{◌≡◌, ◌∙◌, sym, ap, map, length, List, Option, Some}
use Rattle.std.proofs.lemmas.Iterator.Adapters.{YieldsList-from_vec}
use Rattle.std.proofs.lemmas.Iterator.Consumers.{YieldsList-turn, YieldsList-end}
use Rattle.std.proofs.lemmas.List.{map-id}
use Rattle.cas_syntax.specs.declared.tree.Ident.{Ident}
use Rattle.cas_parse.specs.Machine as machine
use Rattle.cas_read.proofs.ItemSteps.{all_have_names, one_has_none}
use Rattle.cas_read.proofs.function.all_named.Goals as goal

pub returns-in-None-param-clause-value : goal.returns-in-None-param-clause-value
returns-in-None-param-clause-value c =
    let started = c.into_iter-param-iterator.ensures.into_iter_gives in
    let turn = YieldsList-turn (YieldsList-from_vec c.args.params.items started.0 (started.1 ∙ c.args.params.ok.0))
    c.loop-param.yielded c.loop-param.param-iterator c.loop-param.yielded_by c.next.result c.next.new.self
    c.in-Some.param c.in-Some.is c.next.ensures.steps in
    sym (one_has_none c.args.params.items (length c.loop-param.yielded) c.in-Some.param c.in-None-param.is turn.0
    turn.1)

pub returns-clause-value : goal.returns-clause-value
returns-clause-value c =
    let started = c.into_iter-param-iterator.ensures.into_iter_gives in
    let ended = YieldsList-end (YieldsList-from_vec c.args.params.items started.0 (started.1 ∙ c.args.params.ok.0))
    c.loop-param.yielded c.loop-param.param-iterator c.loop-param.yielded_by c.next.result c.next.new.self
    c.in-None.is c.next.ensures.steps in
    let all : map Some c.loop-param.names.items ≡ c.args.params.items = c.loop-param.invariant
    ∙ sym (map-id c.loop-param.yielded) ∙ ended.0 in
    ap (λ (xs : List Ident). Some xs) c.of.ensures ∙ sym (all_have_names c.loop-param.names.items)
    ∙ ap (λ (xs : List (Option Ident)). machine.all_named xs) all
