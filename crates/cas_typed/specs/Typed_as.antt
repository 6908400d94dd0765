-- Which resolved module a typed module of the code is.
use Rattle.cas_syntax.specs.Tree.{module_tree}
use Rattle.cas_typed.specs.declared.typed.Typed.{Typed}
use Rattle.cas_typed.specs.Resolved.{TypedModuleTree}
use Rattle.cas_typed.specs.Whole.{AreTypedAs}

-- the typed module of the code is this resolved one
abbrev pub IsTypedAs : Typed → TypedModuleTree → Type 0
IsTypedAs typed r = AreTypedAs (module_tree typed.filled) typed.functions r
