-- Units: their data and functions are in order.
use Rattle.std.specs.Prelude.{◌≡◌, map}
use Rattle.cas_base.specs.declared.decl.Decl.{Decl}
use Rattle.cas_base.specs.declared.decl.Unit.{Unit as Module}
use Rattle.cas_base.specs.Decl.{data_of, functions_of}

-- a unit's data and its functions are its defined declarations, in their order
pub record IsInOrder {F : Type 0} (decl_of : F → Decl) (unit : Module F) : Type 0 where
  pub globals : map (λ global. global.decl) unit.globals ≡ data_of unit.decls
  pub functions : map decl_of unit.funs ≡ functions_of unit.decls
