-- What the code of the check asks of a module's functions, and what it answers.
use Rattle.std.specs.Prelude.{◌≡◌, ⊤, ◌<◌, ℕ, List, [], ◌∷◌, ◌++◌, Option, Some, None, Result, Ok, Err}
use Rattle.std.specs.Borrow.{Bor}
use Rattle.cas_base.specs.declared.decl.Decl.{Decl}
use Rattle.cas_own.specs.Checked.{OwnFaultTree, items_fault, HasOwnFault}
use Rattle.cas_check.specs.declared.flow.Halt.{Halt}
use Rattle.cas_check.specs.declared.flow.Halt.TheVariants as h
use Rattle.cas_own.specs.declared.fault.OwnFault.{OwnFault}
use Rattle.cas_own.specs.declared.fault.OwnFault.TheVariants.{Memory, At}
use Rattle.cas_syntax.specs.Tree.{ItemTree}
use Rattle.cas_typed.specs.Modules.{decl_of}
use Rattle.cas_typed.specs.Numbered.{IsFunctionOf}
use Rattle.cas_typed.specs.Resolved.{TypedFunTree, TypedModuleTree}
use Rattle.cas_typed.specs.Sorts.{IsSortedFunction}
use Rattle.cas_typed.specs.Whole.{AreFunctionsOf}
use Rattle.cas_typed.specs.declared.rows.TypedFun.{TypedFun}

-- there is a well sorted function that the code's function is
abbrev pub FunctionFits : List Decl → TypedFun → Type 0
FunctionFits ds f = ∥ ((r : TypedFunTree) × IsFunctionOf r f × IsSortedFunction ds r) ∥₁

abbrev pub FunctionsFit : List Decl → List TypedFun → Type 0
FunctionsFit ds [] = ⊤
FunctionsFit ds (f ∷ fs) = FunctionFits ds f × FunctionsFit ds fs

-- the lock of the fault is an item
abbrev pub HaltWithin : (end : ℕ) → Halt → Type 0
HaltWithin end h.Memory = ⊤
HaltWithin end (h.Fault code p l) = l < end

-- unless it is out of memory, this is the fault
abbrev pub Reports : OwnFault → Option OwnFaultTree → Type 0
Reports Memory fault = ⊤
Reports (At code place lock) fault = fault ≡ Some (record { code = code; place = place; lock = lock })

-- there is no fault, or else this one is answered
abbrev pub Answers : Result ⊤ OwnFault → Option OwnFaultTree → Type 0
Answers (Ok u) fault = fault ≡ None
Answers (Err e) fault = Reports e fault

-- after an item the faults are those of the others with the functions that are left, or else this is its fault
abbrev pub Steps : (decls before : List Decl) → ItemTree → List ItemTree → List TypedFunTree →
    Result (Bor (List TypedFun)) OwnFault → Type 0
Steps ds before a items rs (Ok fs) =
    (left : List TypedFunTree) × AreFunctionsOf left fs.now ×
    (items_fault ds before (a ∷ items) rs ≡ items_fault ds (before ++ decl_of a ∷ []) items left)
Steps ds before a items rs (Err e) = Reports e (items_fault ds before (a ∷ items) rs)

-- unless it is out of memory, the module has this fault first
abbrev pub HasFault : TypedModuleTree → OwnFault → Type 0
HasFault r Memory = ⊤
HasFault r (At code place lock) = HasOwnFault r (record { code = code; place = place; lock = lock })
