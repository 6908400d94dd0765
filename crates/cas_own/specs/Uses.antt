-- The globals that expressions and targets name, in order of text: each by its item's number, with the place of its
-- name.
use Rattle.std.specs.Prelude.{ℕ, List, [], ◌∷◌, ◌++◌, Option, Some, None}
use Rattle.cas_base.specs.declared.place.Place.{Place}
use Rattle.cas_typed.specs.Resolved as t
use Rattle.cas_typed.specs.Resolved.{TypedExprTree, TypedTargetTree, to_local, to_global, to_element, to_behind}

-- a name of a global
pub record Use : Type 0 where
  pub item : ℕ
  pub at : Place

abbrev pub use_of : (item : ℕ) → Place → Use
use_of g at = record { item = g; at = at }

-- those of an expression
abbrev pub uses : TypedExprTree → List Use
uses (t.literal n) = []
uses t.null = []
uses (t.local n) = []
uses (t.global g at) = use_of g at ∷ []
uses (t.element g at sign a) = use_of g at ∷ uses a
uses (t.place_of n) = []
uses (t.behind k p) = uses p
uses (t.pointer_plus sign p a) = uses p ++ uses a
uses (t.plus_pointer sign a p) = uses a ++ uses p
uses (t.pointer_minus sign p a) = uses p ++ uses a
uses (t.pointer_difference p q) = uses p ++ uses q
uses (t.compare op p q) = uses p ++ uses q
uses (t.unary op a) = uses a
uses (t.binary op sign a b) = uses a ++ uses b
uses (t.narrow k a) = uses a
uses (t.and_also a b) = uses a ++ uses b
uses (t.or_else a b) = uses a ++ uses b
uses (t.choose c a b) = uses c ++ (uses a ++ uses b)

abbrev pub target_uses : TypedTargetTree → List Use
target_uses (to_local n) = []
target_uses (to_global g at) = use_of g at ∷ []
target_uses (to_element g at sign a) = use_of g at ∷ uses a
target_uses (to_behind k p) = uses p

abbrev pub option_uses : Option TypedExprTree → List Use
option_uses None = []
option_uses (Some a) = uses a

abbrev pub argument_uses : List TypedExprTree → List Use
argument_uses [] = []
argument_uses (a ∷ args) = uses a ++ argument_uses args
