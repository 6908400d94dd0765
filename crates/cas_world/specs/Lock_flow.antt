-- The invariant of the lock flow: the continuation of an activation is as the ownership check has walked it. Each
-- item begins with the set of locks that the check has after the items before it, and each item is in a loop as its
-- context says.
--
--     in the body:            begin a ∷ .. ∷ []                                            nowhere
--     in a while:             begin a ∷ .. ∷ begun p c b ∷ ..                              inside its head
--     in a for's body:        begin a ∷ .. ∷ next p u ∷ loop p c u b ∷ ..                  inside its head
--     in its other parts:     begin a ∷ loop p c u b ∷ ..                                  beside its head
use Rattle.std.specs.Prelude.{◌≡◌, ⊤, List, [], ◌∷◌, map, Option, Some, None}
use Rattle.cas_base.specs.declared.decl.Decl.{Decl}
use Rattle.cas_own.specs.Flow.{Flow, on, Head, after, back, guarded, flow, flow_part}
use Rattle.cas_own.specs.Locks.{Locks}
use Rattle.cas_own.specs.Uses.{uses, target_uses, option_uses, argument_uses}
use Rattle.cas_step.specs.Continuation.{ContItem, begin, begun, loop, next}
use Rattle.cas_step.specs.Laws.{names, target_names, option_names, names_of_all}
use Rattle.cas_typed.specs.Resolved.{TypedExprTree, TypedTargetTree, TypedStmtTree, TypedStmtOption}

-- the loop context of a continuation: no loop; a loop's body; the first or last part of a `for`; a first part after
-- which its `for` isn't reached
pub data LoopContext : Type 0 where
  nowhere : LoopContext
  inside : Head → LoopContext
  beside : Head → LoopContext
  cut : LoopContext

abbrev pub head_of : LoopContext → Option Head
head_of nowhere = None
head_of (inside h) = Some h
head_of (beside h) = None
head_of cut = None

-- not reached, or reached with the set at the loop's head
abbrev pub Within : Head → Option Locks → Type 0
Within h None = ⊤
Within h (Some s) = h.set ≡ s

module _ (ds : List Decl) (own : Locks) where
  -- the flow of a `while` from its head
  abbrev pub while_flow : Head → TypedExprTree → TypedStmtTree → Flow
  while_flow h c a = guarded ds h.set (uses c) (after (flow ds own (Some h) a h.set) (λ t. back h t (on (Some h.set))))

  -- the flow of a `for` after its first part
  abbrev pub loop_flow : Head → Option TypedExprTree → TypedStmtOption → TypedStmtTree → Flow
  loop_flow h c u a =
      guarded ds h.set (option_uses c) (after (flow ds own (Some h) a h.set) (λ t.
      back h t (after (flow_part ds own None u h.set) (λ v. back h v (on (Some h.set))))))

  -- the continuation has this flow: the check walks it with this set, or doesn't reach it
  abbrev pub HasLockFlow : List ContItem → LoopContext → Option Locks → Type 0
  HasLockFlow [] nowhere None = ⊤
  HasLockFlow [] nowhere (Some s) = own ≡ s
  HasLockFlow (begin a ∷ cont) x None = HasLockFlow cont x None
  HasLockFlow (begin a ∷ cont) x (Some s) = (o : Option Locks) × (flow ds own (head_of x) a s ≡ on o) ×
      HasLockFlow cont x o
  HasLockFlow (begun p c a ∷ cont) (inside h) o =
      (outer : LoopContext) × Within h o × (while_flow h c a ≡ on (Some h.set)) × HasLockFlow cont outer (Some h.set)
  HasLockFlow (loop p c u a ∷ cont) (beside h) o =
      (outer : LoopContext) × Within h o × (loop_flow h c u a ≡ on (Some h.set)) × HasLockFlow cont outer (Some h.set)
  HasLockFlow (loop p c u a ∷ cont) cut None = (outer : LoopContext) × HasLockFlow cont outer None
  HasLockFlow (next p u ∷ cont) (inside h) o = Within h o × (v : Option Locks) ×
      (flow_part ds own None u h.set ≡ on v) × HasLockFlow cont (beside h) v
  HasLockFlow _ _ _ = ⊥

-- The ownership check checks each global that expressions, targets and arguments name, in order of text.
abbrev pub NamesAreChecked : Type 0
NamesAreChecked = ((a : TypedExprTree) → map (λ u. u.item) (uses a) ≡ names a) ×
    ((target : TypedTargetTree) → map (λ u. u.item) (target_uses target) ≡ target_names target)
    × ((a : Option TypedExprTree) → map (λ u. u.item) (option_uses a) ≡ option_names a) ×
    ((args : List TypedExprTree) → map (λ u. u.item) (argument_uses args) ≡ names_of_all args)
