use Rattle.std.proofs.Common.{◌≡◌, true, false, cond, List, [], Option, Some, None, ap, sym, ◌∙◌}
use Rattle.std.specs.Option.{option_or}
use Rattle.cas_base.specs.declared.decl.Decl.{Decl}
use Rattle.cas_base.specs.Decl.{definitions, references}
use Rattle.cas_settle.specs.declared.link.LinkFault.{LinkFault}
use Rattle.cas_settle.specs.declared.link.LinkFault.TheVariants.{Memory}
use Rattle.cas_settle.specs.Settle.{all_decls, twice_fault, references_fault, limits_fault, first_refusal}
use Rattle.cas_link.specs.Refusal.{is_limit}
use Rattle.cas_link.proofs.Order.{unless_limit, without_limits, twice_is, references_is, limits_is}
use Rattle.cas_link.proofs.linking.check_declarations.Goals as goal

before : (units : List (List Decl)) (o : Option LinkFault) → first_refusal units [] ≡ o
    → option_or (twice_fault (definitions (all_decls units)))
    (references_fault (definitions (all_decls units)) (references (all_decls units))) ≡ unless_limit o
before units o e =
    let defined = definitions (all_decls units) in
    let others = references (all_decls units) in
    sym (without_limits (twice_fault defined) (references_fault defined others) (limits_fault defined)
    (twice_is defined) (references_is defined others) (limits_is defined))
    ∙ ap unless_limit e

apart : (fault : LinkFault) → is_limit fault ≡ true → fault ≡ Memory → ⊥
apart fault e f = let g : is_limit fault ≡ false = ap is_limit f in cc

pub returns-then-is_limit : goal.returns-then-is_limit
returns-then-is_limit c =
    let limit = sym c.is_limit.ensures ∙ c.if-is_limit.true in
    before c.args.units.now (Some c.in-Err.fault) (c.in-Err.ensures.refused (apart c.in-Err.fault limit))
    ∙ ap (λ b. cond b None (Some c.in-Err.fault)) limit

pub returns : goal.returns
returns c = λ other.
    before c.args.units.now (Some c.in-Err.fault) (c.in-Err.ensures.refused other)
    ∙ ap (λ b. cond b None (Some c.in-Err.fault)) (sym c.is_limit.ensures ∙ c.if-is_limit.false)
