-- Objects that have what their declarations say: data and functions in order, types of words, and a value for each
-- element.
use Rattle.std.specs.Prelude.{⊤, ◌≡◌, false, List, [], ◌∷◌, length}
use Rattle.cas_asm.specs.declared.line.AsmFun.{AsmFun}
use Rattle.cas_base.specs.Decl.{is_lock, words_of_form}
use Rattle.cas_base.specs.declared.decl.Form.{Form}
use Rattle.cas_base.specs.declared.decl.Form.TheVariants.{Shared, Table}
use Rattle.cas_base.specs.declared.decl.Global.{Global}
use Rattle.cas_base.specs.declared.decl.Unit.{Unit as Module}
use Rattle.cas_base.specs.declared.kind.Ty.{Ty}
use Rattle.cas_base.specs.declared.kind.Ty.TheVariants.{Int, Array}
use Rattle.cas_object_text.specs.Order.{HasDefinitions}

-- a global that isn't a lock has one value for each of its words
abbrev pub HasValues : Global → Type 0
HasValues g = is_lock g.decl.form ≡ false → length g.values ≡ words_of_form g.decl.form

-- each of them
abbrev pub HaveValues : List Global → Type 0
HaveValues [] = Unit {0}
HaveValues (g ∷ gs) = HasValues g × HaveValues gs

-- a type of words: a scalar, or an array
abbrev pub IsOfWords : Ty → Type 0
IsOfWords (Int kind) = ⊤
IsOfWords (Array kind size) = ⊤
IsOfWords _ = ⊥

-- a shared global and a table have such a type
abbrev pub IsTyped : Form → Type 0
IsTyped (Shared ty lock) = IsOfWords ty
IsTyped (Table ty) = IsOfWords ty
IsTyped _ = ⊤

-- each of them
abbrev pub AreTyped : List Global → Type 0
AreTyped [] = Unit {0}
AreTyped (g ∷ gs) = IsTyped g.decl.form × AreTyped gs

-- data and functions are the defined declarations in their order, each global has a type of words, and each element a
-- value
pub record IsWhole (unit : Module AsmFun) : Type 0 where
  pub definitions : HasDefinitions unit
  pub types : AreTyped unit.globals
  pub values : HaveValues unit.globals

-- each of these
abbrev pub AreWhole : List (Module AsmFun) → Type 0
AreWhole [] = Unit {0}
AreWhole (unit ∷ units) = IsWhole unit × AreWhole units
