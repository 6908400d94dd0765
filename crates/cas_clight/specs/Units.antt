-- The unit of Clight that a typed module is.
use Rattle.std.specs.Prelude.{ℕ, List, [], ◌∷◌, map, Option, Some, None, if◌then◌else◌}
use Rattle.cas_base.specs.declared.decl.Decl.{Decl}
use Rattle.cas_base.specs.declared.decl.Global.{Global}
use Rattle.cas_base.specs.declared.decl.Unit.{Unit as UnitOf}
use Rattle.cas_syntax.specs.Tree.{FunTree, ItemTree, global, prototype, define}
use Rattle.cas_typed.specs.Counts.{nodes_of}
use Rattle.cas_typed.specs.Modules.{decl_of}
use Rattle.cas_typed.specs.Resolved.{TypedFunTree, TypedModuleTree}
use Rattle.cas_clight.specs.Clight.{ClightFun}

-- what the items declare
abbrev pub decls_of : List ItemTree → List Decl
decls_of items = map decl_of items

-- the data that an item defines, if it defines some
abbrev pub datum_of : ItemTree → Option Global
datum_of (global d vs p) = if d.defined then Some (record { decl = d; values = vs }) else None
datum_of _ = None

abbrev pub with_datum : Option Global → List Global → List Global
with_datum (Some g) rest = g ∷ rest
with_datum None rest = rest

abbrev pub data_in : List ItemTree → List Global
data_in [] = []
data_in (a ∷ rest) = with_datum (datum_of a) (data_in rest)

-- a function with a body, resolved so
abbrev pub function_of : List Decl → FunTree → TypedFunTree → ClightFun
function_of decls f r = record {
  decl = f.decl;
  decls = decls;
  locals = map (λ v. v.ty) r.locals;
  body = r.body;
  nodes = nodes_of f;
}

-- the functions with bodies, in order
abbrev pub functions_in : List Decl → List ItemTree → List TypedFunTree → List ClightFun
functions_in decls [] rs = []
functions_in decls (global d vs p ∷ rest) rs = functions_in decls rest rs
functions_in decls (prototype d hs p ∷ rest) rs = functions_in decls rest rs
functions_in decls (define f ∷ rest) [] = []
functions_in decls (define f ∷ rest) (r ∷ rs) = function_of decls f r ∷ functions_in decls rest rs

-- the unit
abbrev pub unit_of : TypedModuleTree → UnitOf ClightFun
unit_of m = record {
  decls = decls_of m.module_tree.items;
  globals = data_in m.module_tree.items;
  funs = functions_in (decls_of m.module_tree.items) m.module_tree.items m.functions;
}
