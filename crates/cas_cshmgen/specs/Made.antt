-- What Cshmgen makes of a module: the same declarations and data, and a function for each.
use Rattle.std.specs.Prelude.{◌≡◌, ⊤, ◌≤◌, List, [], ◌∷◌, ◌++◌, length}
use Rattle.cas_base.specs.declared.decl.Decl.{Decl}
use Rattle.cas_base.specs.declared.decl.Unit.{Unit as UnitOf}
use Rattle.cas_clight.specs.Clight.{ClightFun, clight, cells_of}
use Rattle.cas_clight.specs.Units.{functions_in}
use Rattle.cas_mid.specs.declared.tree.CsharpFun.{CsharpFun}
use Rattle.cas_mid.specs.Code.{csharp_routine}
use Rattle.cas_mid.specs.Csharpminor.{csharpminor}
use Rattle.cas_mid.specs.Rooms.{room_of}
use Rattle.cas_runs.specs.Bounds.{frame_bound, weight_of}
use Rattle.cas_syntax.specs.Tree.{ItemTree, define}
use Rattle.cas_typed.specs.Counts.{parameter_types}
use Rattle.cas_typed.specs.Resolved.{TypedFunTree}
use Rattle.cas_typed.specs.Whole.{AreFunctionsOf}
use Rattle.cas_typed.specs.declared.rows.TypedFun.{TypedFun}
use Rattle.cas_cshmgen.specs.Makes.{made_routine}
use Rattle.cas_cshmgen.specs.Match.{AllForsAreSimple}

-- the function is declared as the other, and made of it
pub record IsMadeOf (f : CsharpFun) (g : ClightFun) : Type 0 where
  pub decl : f.decl ≡ g.decl
  pub routine : csharp_routine f ≡ made_routine g

-- one by one
abbrev pub AreMadeOf : List CsharpFun → List ClightFun → Type 0
AreMadeOf [] [] = ⊤
AreMadeOf (f ∷ fs) (g ∷ gs) = IsMadeOf f g × AreMadeOf fs gs
AreMadeOf _ _ = ⊥

-- the unit has the other's declarations and data, and functions that are made of its functions
pub record IsMadeUnit (unit : UnitOf CsharpFun) (source : UnitOf ClightFun) : Type 0 where
  pub decls : unit.decls ≡ source.decls
  pub globals : unit.globals ≡ source.globals
  pub functions : AreMadeOf unit.funs source.funs

-- a function with a body has at most so many parameters
abbrev pub HasFew : ItemTree → Type 0
HasFew (define f) = length (parameter_types f.decl.form) ≤ 16
HasFew _ = ⊤

abbrev pub HaveFew : List ItemTree → Type 0
HaveFew [] = ⊤
HaveFew (a ∷ items) = HasFew a × HaveFew items

-- what is made of an item's function, if it has one, is added to what was made of these; these functions are left
pub record IsAdded (decls : List Decl) (a : ItemTree) (rs : List TypedFunTree) (before : List ClightFun)
    (made : List CsharpFun) (left : List TypedFun) : Type 0 where
  pub more : List ClightFun
  pub later : List TypedFunTree
  pub functions : AreFunctionsOf later left
  pub is_made : AreMadeOf made (before ++ more)
  pub same : (items : List ItemTree) → functions_in decls (a ∷ items) rs ≡ more ++ functions_in decls items later

-- the item has no body
abbrev pub HasNoBody : ItemTree → Type 0
HasNoBody (define f) = ⊥
HasNoBody _ = ⊤

-- the first and last parts of each `for` in the items' functions are assignments, calls or locals, as in each text
abbrev pub ItemForsAreSimple : ItemTree → Type 0
ItemForsAreSimple (define f) = AllForsAreSimple f.body
ItemForsAreSimple _ = ⊤

abbrev pub ForsAreSimpleIn : List ItemTree → Type 0
ForsAreSimpleIn [] = ⊤
ForsAreSimpleIn (a ∷ items) = ItemForsAreSimple a × ForsAreSimpleIn items

-- the function weighs no more than the other, and has no greater room
pub record IsNoLarger (f : CsharpFun) (g : ClightFun) : Type 0 where
  pub weight : weight_of csharpminor.tariff f ≤ weight_of clight.tariff g
  pub room : room_of (csharp_routine f) ≤ frame_bound g.nodes (cells_of g)
