-- What the typer's answers say of the walk through functions and items.
use Rattle.std.specs.Prelude.{◌≡◌, ⊤, List, [], ◌∷◌, Option, Result, Ok, Err}
use Rattle.std.specs.Option.{option_to_list}
use Rattle.cas_base.specs.declared.decl.Decl.{Decl}
use Rattle.cas_syntax.specs.Tree.{ItemTree, global, prototype, define, ModuleTree}
use Rattle.cas_type.specs.Answer.{Fails}
use Rattle.cas_type.specs.declared.fault.TypeFault.{TypeFault}
use Rattle.cas_type.specs.declared.fault.TypeFault.TheVariants.{Memory, At, Limit}
use Rattle.cas_typed.specs.Faults.{Fault, fault, limit, unless, then_}
use Rattle.cas_typed.specs.Numbered.{IsFunctionOf}
use Rattle.cas_typed.specs.Resolved.{TypedFunTree}
use Rattle.cas_typed.specs.Walk.{item_fault, walk_function, HasTypeFault}
use Rattle.cas_typed.specs.Whole.{AreFunctionsOf}
use Rattle.cas_typed.specs.declared.rows.TypedFun.{TypedFun}

-- the function that is answered is the walk's, or else the walk has this fault
abbrev pub GivesFunction : Result TypedFun TypeFault → Result TypedFunTree Fault → Type 0
GivesFunction (Ok f) walked = (r : TypedFunTree) × (walked ≡ Ok r) × IsFunctionOf r f
GivesFunction (Err e) walked = Fails e walked

-- the same of a list of functions
abbrev pub GivesFunctions : Result (List TypedFun) TypeFault → Result (List TypedFunTree) Fault → Type 0
GivesFunctions (Ok fs) walked = (rs : List TypedFunTree) × (walked ≡ Ok rs) × AreFunctionsOf rs fs
GivesFunctions (Err e) walked = Fails e walked

-- the same of functions that are written into a list
abbrev pub GivesInto : List TypedFun → Result ⊤ TypeFault → Result (List TypedFunTree) Fault → Type 0
GivesInto fs (Ok u) walked = GivesFunctions (Ok fs) walked
GivesInto fs (Err e) walked = Fails e walked

-- the same of the function that an item has, if it has one
abbrev pub GivesOptional : Result (Option TypedFun) TypeFault → Result (List TypedFunTree) Fault → Type 0
GivesOptional (Ok f) walked = (rs : List TypedFunTree) × (walked ≡ Ok rs) × AreFunctionsOf rs (option_to_list f)
GivesOptional (Err e) walked = Fails e walked

-- the function that an item has, after these declarations
abbrev pub walk_one : List Decl → ItemTree → Result (List TypedFunTree) Fault
walk_one before (global d vs p) = Ok []
walk_one before (prototype d hs p) = Ok []
walk_one before (define f) = then_ (walk_function before f) (λ r. Ok (r ∷ []))

-- the first fault of an item after these declarations, or the function that it has
abbrev pub walk_step : List Decl → ItemTree → Result (List TypedFunTree) Fault
walk_step before a = unless (item_fault before a) (walk_one before a)

-- unless it is out of memory, this is the first fault of the module
abbrev pub HasFault : ModuleTree → TypeFault → Type 0
HasFault m Memory = ⊤
HasFault m (At code place name) = HasTypeFault m (fault code place name)
HasFault m (Limit place what counted) = HasTypeFault m (limit place what counted)
