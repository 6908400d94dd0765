use Rattle.std.proofs.Common.{List, subst}
use Rattle.cas_check.proofs.Fitting.{fits_table, fits_body}
use Rattle.cas_check.specs.Fits.{FunctionsFit}
use Rattle.cas_syntax.specs.Tree.{fun_tree}
use Rattle.cas_typed.specs.Whole.{AreFunctionsOf}
use Rattle.cas_typed.specs.declared.rows.TypedFun.{TypedFun}
use Rattle.cas_cshmgen.proofs.Modules.{added_none, added_one}
use Rattle.cas_cshmgen.proofs.unit.add_body.Goals as goal

pub make_fun-requires-clause-table : goal.make_fun-requires-clause-table
make_fun-requires-clause-table c =
    let fit = subst (λ (fs : List TypedFun). FunctionsFit c.args.decls.now fs) c.in-Some.ensures.cases.0 c.requires.fit
    in
    fits_table c.args.decls.now c.in-Some.function.now fit.0

pub make_fun-requires-clause-within : goal.make_fun-requires-clause-within
make_fun-requires-clause-within c =
    let fit = subst (λ (fs : List TypedFun). FunctionsFit c.args.decls.now fs) c.in-Some.ensures.cases.0 c.requires.fit
    in
    fits_body c.args.decls.now c.in-Some.function.now fit.0

pub returns-in-None-clause-added : goal.returns-in-None-clause-added
returns-in-None-clause-added c = λ rs before are made.
    added_none c.args.decls.now (fun_tree c.args.fun.now) rs before c.args.all.now.items c.args.left.now
    c.in-None.ensures.cases are made

pub returns-in_ok-push-in-Some-clause-added : goal.returns-in_ok-push-in-Some-clause-added
returns-in_ok-push-in-Some-clause-added c = λ rs before are made.
    added_one c.args.decls.now (fun_tree c.args.fun.now) c.in_ok-made-in-Some.made c.in-Some.function.now
    c.in-Some.others.now rs before c.args.all.now.items c.push.new.self.items
    c.in_ok-push-in-Some.ensures.items c.in_ok-made-in-Some.ensures.decl c.in_ok-made-in-Some.ensures.routine
    (subst (λ (fs : List TypedFun). AreFunctionsOf rs fs) c.in-Some.ensures.cases.0 are) made
