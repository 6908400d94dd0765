-- Objects whose data and functions are their defined declarations in their order.
use Rattle.std.specs.Prelude.{◌≡◌, map}
use Rattle.cas_asm.specs.declared.line.AsmFun.{AsmFun}
use Rattle.cas_base.specs.declared.decl.Unit.{Unit as Module}
use Rattle.cas_base.specs.Decl.{data_of, functions_of}

-- a module's data are its defined globals and locks, and its functions have the names of its defined functions, in
-- order
pub record HasDefinitions (unit : Module AsmFun) : Type 0 where
  pub globals : map (λ global. global.decl) unit.globals ≡ data_of unit.decls
  pub functions : map (λ fun. fun.name) unit.funs ≡ map (λ decl. decl.name) (functions_of unit.decls)
