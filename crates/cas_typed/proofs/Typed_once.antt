-- A typed module of the code is one resolved module.
use Rattle.std.proofs.Common.{◌≡◌, subst}
use Rattle.cas_syntax.specs.Tree.{ModuleTree, module_tree}
use Rattle.cas_typed.specs.declared.typed.Typed.{Typed}
use Rattle.cas_typed.specs.Modules.{IsTyped}
use Rattle.cas_typed.specs.Resolved.{TypedModuleTree}
use Rattle.cas_typed.specs.Typed_as.{IsTypedAs}
use Rattle.cas_typed.proofs.Modules.{typed_in_one_way}

pub typed_once : (typed : Typed) (r s : TypedModuleTree) → IsTypedAs typed r → IsTypedAs typed s → r ≡ s
typed_once typed r s h k =
    typed_in_one_way (module_tree typed.filled) r s
    (subst (λ (m : ModuleTree). IsTyped m r) h.module_tree h.typed)
    (subst (λ (m : ModuleTree). IsTyped m s) k.module_tree k.typed)
