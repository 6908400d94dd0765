-- The statements within a function's body, and the continuations that an activation of the function may have.
use Rattle.std.specs.Prelude.{◌≡◌, ◌⊎◌, ⊤, Bool, true, false, List, [], ◌∷◌, Option, Some, None}
use Rattle.cas_base.specs.declared.place.Place.{Place}
use Rattle.cas_typed.specs.Resolved.{TypedExprTree, TypedStmtTree, block, if_, while_, do_, for_, TypedStmtOption, present, TypedStmtList, no_more, one_more}
use Rattle.cas_step.specs.Continuation.{ContItem, begin, begun, loop, next, after_break, after_continue}

-- one of these statements
abbrev pub IsAmong : TypedStmtList → TypedStmtTree → Type 0
IsAmong no_more a = ⊥
IsAmong (one_more b bs) a = (b ≡ a) ⊎ IsAmong bs a

-- a statement of the body, at whatever depth, in a loop of the body or not
pub data StandsIn (body : TypedStmtList) : (in_loop : Bool) → TypedStmtTree → Type 0 where
  of_body : (a : TypedStmtTree) → IsAmong body a → StandsIn body false a
  of_block : (l : Bool) (p : Place) (bs : TypedStmtList) (a : TypedStmtTree) → StandsIn body l (block p bs) →
      IsAmong bs a → StandsIn body l a
  where_true : (l : Bool) (p : Place) (c : TypedExprTree) (a : TypedStmtTree) (o : TypedStmtOption) →
      StandsIn body l (if_ p c a o) → StandsIn body l a
  where_false : (l : Bool) (p : Place) (c : TypedExprTree) (a b : TypedStmtTree) →
      StandsIn body l (if_ p c a (present b)) → StandsIn body l b
  of_while : (l : Bool) (p : Place) (c : TypedExprTree) (a : TypedStmtTree) → StandsIn body l (while_ p c a) →
      StandsIn body true a
  of_do : (l : Bool) (p : Place) (a : TypedStmtTree) (c : TypedExprTree) → StandsIn body l (do_ p a c) →
      StandsIn body true a
  first_of_for : (l : Bool) (p : Place) (i : TypedStmtTree) (c : Option TypedExprTree) (u : TypedStmtOption)
      (a : TypedStmtTree) →
      StandsIn body l (for_ p (present i) c u a) → StandsIn body l i
  after_of_for : (l : Bool) (p : Place) (i : TypedStmtOption) (c : Option TypedExprTree) (u a : TypedStmtTree) →
      StandsIn body l (for_ p i c (present u) a) → StandsIn body l u
  of_for : (l : Bool) (p : Place) (i : TypedStmtOption) (c : Option TypedExprTree) (u : TypedStmtOption)
      (a : TypedStmtTree) →
      StandsIn body l (for_ p i c u a) → StandsIn body true a

-- there is a continuation
abbrev pub AreThere : Option (List ContItem) → Type 0
AreThere None = ⊥
AreThere (Some cont) = ⊤

-- in a loop the continuation has the loop's end, and the end of its turn, to jump to
abbrev pub MayLeave : (in_loop : Bool) → List ContItem → Type 0
MayLeave false cont = ⊤
MayLeave true cont = AreThere (after_break cont) × AreThere (after_continue cont)

-- a `while` or `do` of the body, with this place, condition and inner statement
abbrev pub IsLoopOf : TypedStmtList → (in_loop : Bool) → Place → TypedExprTree → TypedStmtTree → Type 0
IsLoopOf body l p c a = StandsIn body l (while_ p c a) ⊎ StandsIn body l (do_ p a c)

-- the continuation begins with the `for` whose last part this is
abbrev pub IsTurnOf : Place → (after : TypedStmtOption) → List ContItem → Type 0
IsTurnOf p after (loop q c u a ∷ cont) = (p ≡ q) × (after ≡ u)
IsTurnOf p after _ = ⊥

-- a continuation that an activation of a function with this body may have: statements of the body, loops of the body
-- that have begun, and ends of their turns
abbrev pub MayDo : TypedStmtList → List ContItem → Type 0
MayDo body [] = ⊤
MayDo body (begin a ∷ cont) = ((l : Bool) × StandsIn body l a × MayLeave l cont) × MayDo body cont
MayDo body (begun p c a ∷ cont) = ((l : Bool) × IsLoopOf body l p c a) × MayDo body cont
MayDo body (loop p c u a ∷ cont) = ((l : Bool) × (i : TypedStmtOption) × StandsIn body l (for_ p i c u a) ×
    MayLeave l cont) × MayDo body cont
MayDo body (next p u ∷ cont) = IsTurnOf p u cont × MayDo body cont
