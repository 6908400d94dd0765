-- Environments: the functions of modules, and what their items stand for.
use Rattle.std.specs.Prelude.{ℕ, List, Option, Some, None}
use Rattle.cas_base.specs.declared.kind.Kind.{Kind}
use Rattle.cas_base.specs.declared.kind.Ty.{Ty}
use Rattle.cas_base.specs.declared.place.Place.{Place}
use Rattle.cas_typed.specs.Resolved.{TypedStmtList}

-- a function with a body: its module's number, and its place among the functions of the module
pub record FunctionAt : Type 0 where
  pub unit : ℕ
  pub place : ℕ

-- what a function is: the type that it returns, the types of its locals, parameters first, its body, and its closing
-- brace
pub record Function : Type 0 where
  pub ret : Ty
  pub locals : List Ty
  pub body : TypedStmtList
  pub closing : Place

-- what an item of a module stands for: a function; a function of the outside, for a module alone; a shared global,
-- by the number of its first word, its length, and the word of the lock that guards it, if there is one; a table of
-- constants, by its first word and its length; or a lock, by its word
pub data Entity : Type 0 where
  function : FunctionAt → Entity
  outside : Entity
  shared : (first length : ℕ) → (guard : Option ℕ) → Entity
  table : (first length : ℕ) → Entity
  lock : (number : ℕ) → Entity

-- the functions, what each item of each module stands for, and the kind of each word by its number (none for the
-- word of a lock)
pub record Env : Type 0 where
  pub function : FunctionAt → Function
  pub entity : (unit item : ℕ) → Option Entity
  pub kinds : List (Option Kind)

-- how many words a global has; none if the item isn't a global
abbrev pub length_of : Option Entity → Option ℕ
length_of (Some (shared first n guard)) = Some n
length_of (Some (table first n)) = Some n
length_of _ = None
