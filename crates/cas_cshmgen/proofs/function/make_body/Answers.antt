use Rattle.std.proofs.Common.{ap, ◌∙◌}
use Rattle.cas_mid.specs.Code.{csharp_list}
use Rattle.cas_mid.specs.Trees.{seq}
use Rattle.cas_cshmgen.specs.Makes.{closing, stored_arguments}
use Rattle.cas_cshmgen.proofs.Statements.{list_after}
use Rattle.cas_cshmgen.proofs.function.make_body.Goals as goal

pub returns : goal.returns
returns c = λ bs are.
    let ret = c.args.ret in
    let all = c.in_ok-all.all.items in
    let stmts = c.in_ok-stmts.stmts.items in
    c.seq.ensures
    ∙ ap seq (c.in_ok-close.ensures ∙ ap (λ xs. csharp_list xs (closing ret)) c.in_ok-append.ensures.items
    ∙ list_after all stmts (closing ret)
    ∙ c.in_ok-all.ensures (csharp_list stmts (closing ret))
    ∙ ap (stored_arguments 0 c.args.body.result) (c.in_ok-stmts.ensures 0 bs are (closing ret)))
