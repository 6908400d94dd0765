use Rattle.std.proofs.Common.{refl, ap, ◌∙◌}
use Rattle.cas_syntax.specs.Tree.{module_tree}
use Rattle.cas_type.proofs.Whole_lemmas.{typed_so}
use Rattle.cas_type.proofs.module.type_module.Goals as goal

pub new-requires : goal.new-requires
new-requires c =
    let typed = typed_so c.args.«module» c.as_slice.result.now (module_tree c.in_ok-filled.filled)
    c.in_ok-functions.functions c.in_ok-functions.functions
    c.as_slice.ensures refl c.in_ok-functions.ensures c.in_ok-filled.ensures c.requires.formed in
    (typed.0, typed.1)

pub returns-clause-typed : goal.returns-clause-typed
returns-clause-typed c =
    typed_so c.args.«module» c.as_slice.result.now (module_tree c.new.result.filled)
    c.in_ok-functions.functions c.new.result.functions
    c.as_slice.ensures c.new.ensures.functions c.in_ok-functions.ensures
    (ap module_tree c.new.ensures.filled ∙ c.in_ok-filled.ensures) c.requires.formed
