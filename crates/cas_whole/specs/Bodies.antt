-- Functions with bodies, as a step needs them.
use Rattle.std.specs.Prelude.{◌≡◌, ℕ, List, map, Option, Some, None, slice_get}
use Rattle.cas_base.specs.declared.kind.Ty.{Ty}
use Rattle.cas_base.specs.declared.place.Place.{Place}
use Rattle.cas_syntax.specs.Tree.{FunTree, define}
use Rattle.cas_syntax.specs.declared.tree.Item.{Item}
use Rattle.cas_syntax.specs.declared.tree.Item.TheVariants.{Define}
use Rattle.cas_typed.specs.Modules.{return_type}
use Rattle.cas_typed.specs.Numbered as numbered
use Rattle.cas_typed.specs.Resolved.{TypedFunTree, TypedModuleTree}
use Rattle.cas_typed.specs.declared.rows.TypedFun.{TypedFun}
use Rattle.cas_typed.specs.declared.typed.Typed.{Typed}
use Rattle.cas_step.specs.Env.{FunctionAt}
use Rattle.cas_step.specs.Well_formed.{IsAt}
use Rattle.cas_program.specs.Program.{env_of}
use Rattle.cas_whole.specs.declared.body.Body.{Body}

-- The function at this place in these modules is this one of the code.
pub record IsBodyOf (modules : List TypedModuleTree) (f : FunctionAt) (b : Body) : Type 0 where
  pub unit : TypedModuleTree
  pub it : TypedFunTree
  pub at : IsAt modules f unit it
  -- its rows stand for its statements
  pub rows : numbered.IsFunctionOf it b.typed.now
  -- it is as the environment of the modules says
  pub ret : ((env_of modules).function f).ret ≡ b.ret
  pub closing : ((env_of modules).function f).closing ≡ b.closing
  pub locals : ((env_of modules).function f).locals ≡ map (λ v. v.ty) b.typed.now.locals
  pub body : ((env_of modules).function f).body ≡ it.body

-- The function at this place of a module is this one of the code.
pub record IsBodyIn (unit : TypedModuleTree) (place : ℕ) (b : Body) : Type 0 where
  pub it : TypedFunTree
  pub there : slice_get unit.functions place ≡ Some it
  pub rows : numbered.IsFunctionOf it b.typed.now
  pub tree : FunTree
  pub item : slice_get unit.module_tree.items it.item ≡ Some (define tree)
  pub ret : return_type tree.decl.form ≡ b.ret
  pub closing : tree.closing ≡ b.closing

-- the function at this place of a module of the code, and of the module with this number
abbrev pub typed_in : Option Typed → (place : ℕ) → Option TypedFun
typed_in None place = None
typed_in (Some t) place = slice_get t.functions place

abbrev pub typed_at : List Typed → (unit place : ℕ) → Option TypedFun
typed_at ts n place = typed_in (slice_get ts n) place

-- a function with its return type and its closing brace, as the code has them and as its item says
abbrev pub told : Body → TypedFun × Ty × Place
told b = (b.typed.now, b.ret, b.closing)

abbrev pub body_of : TypedFun → Option Item → Option (TypedFun × Ty × Place)
body_of f (Some (Define g)) = Some (f, return_type g.decl.form, g.closing)
body_of f _ = None
