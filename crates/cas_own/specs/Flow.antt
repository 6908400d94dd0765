-- Lock flow: the set of locks before and after each statement of a body, or the first fault. The set at the head of the
-- innermost loop is passed inwards, so faults are found in order of text.
use Rattle.std.specs.Prelude.{ℕ, List, [], ◌∷◌, ◌++◌, if◌then◌else◌, Option, Some, None}
use Rattle.cas_base.specs.declared.decl.Decl.{Decl}
use Rattle.cas_base.specs.declared.place.Place.{Place}
use Rattle.cas_own.specs.declared.fault.OwnCode.{OwnCode}
use Rattle.cas_own.specs.declared.fault.OwnCode.TheVariants.{O1, O2, O3, O4, O5, O6, O7}
use Rattle.cas_own.specs.Locks.{Locks, has, having, without, differs, guard_of, holds_of}
use Rattle.cas_own.specs.Uses.{Use, uses, target_uses, option_uses, argument_uses}
use Rattle.cas_typed.specs.Resolved.{TypedStmtTree, skip, assign, call, block, if_, while_, do_, for_, break_, continue_, return_, lock, unlock, print, TypedStmtOption, absent, present, TypedStmtList, no_more, one_more}

-- the result of a walk: it continues with this set; it doesn't continue; or the first fault, at its place, with the
-- lock that is kept
pub data Flow : Type 0 where
  on : Option Locks → Flow
  fault : OwnCode → Place → (lock : ℕ) → Flow

-- the head of a loop: the loop's place, and the set there
pub record Head : Type 0 where
  pub place : Place
  pub set : Locks

-- first this walk, and then the next one unless this one has a fault
abbrev pub after : Flow → (Option Locks → Flow) → Flow
after (on o) next = next o
after (fault code p l) next = fault code p l

-- a lock that must be in the set, if there is one
abbrev pub wanting : OwnCode → Place → Locks → (lock : Option ℕ) → Flow → Flow
wanting code p s None next = next
wanting code p s (Some l) next = if has s l then next else fault code p l

-- each shared global that is named has its guard in the set
abbrev pub guarded : List Decl → Locks → List Use → Flow → Flow
guarded ds s [] next = next
guarded ds s (u ∷ us) next = wanting O1 u.at s (guard_of ds u.item) (guarded ds s us next)

-- the locks that a called function's caller holds are in the set
abbrev pub held : Place → Locks → List ℕ → Flow → Flow
held p s [] next = next
held p s (l ∷ ls) next = wanting O2 p s (Some l) (held p s ls next)

-- a difference between two sets
abbrev pub differing : OwnCode → Place → Option ℕ → Flow → Flow
differing code p None next = next
differing code p (Some l) next = fault code p l

-- the sets are equal
abbrev pub same : OwnCode → Place → Locks → Locks → Flow → Flow
same code p s t next = differing code p (differs s t) next

-- a way back to a loop's head or out of the loop: if it is reached, the set is that at the head
abbrev pub back : Head → Option Locks → Flow → Flow
back h None next = next
back h (Some s) next = same O4 h.place h.set s next

-- both branches of an `if`
abbrev pub joined : Place → Option Locks → Option Locks → Flow
joined p None o = on o
joined p (Some s) None = on (Some s)
joined p (Some s) (Some t) = same O3 p s t (on (Some s))

-- a `break` or `continue`, with the set there; outside of a loop it is a fault, which no typed module has
abbrev pub leaves : Option Head → Place → Locks → Flow
leaves None p s = fault O4 p 0
leaves (Some h) p s = back h (Some s) (on None)

-- the walk with a set, if there is one
abbrev pub with_set : Option Locks → (Locks → Flow) → Flow
with_set None next = on None
with_set (Some s) next = next s

-- of a function that holds these locks, in a module of these declarations
module _ (ds : List Decl) (own : Locks) where
  abbrev mutual
    -- a statement in this loop, if in one, with this set
    pub flow : Option Head → TypedStmtTree → Locks → Flow
    flow h (skip p) s = on (Some s)
    flow h (assign p target a) s = guarded ds s (target_uses target ++ uses a) (on (Some s))
    flow h (call p kept g at args) s = guarded ds s (argument_uses args) (held at s (holds_of ds g) (on (Some s)))
    flow h (block p bs) s = flow_all h bs (Some s)
    flow h (if_ p c a o) s = guarded ds s (uses c)
        (after (flow h a s) (λ t. after (flow_part h o s) (λ u. joined p t u)))
    flow h (while_ p c a) s = guarded ds s (uses c) (after (flow (Some (record { place = p; set = s })) a s) (λ t.
        back (record { place = p; set = s }) t (on (Some s))))
    flow h (do_ p a c) s = after (flow (Some (record { place = p; set = s })) a s) (λ t.
        back (record { place = p; set = s }) t (guarded ds s (uses c) (on (Some s))))
    flow h (for_ p i c u a) s = after (flow_part None i s) (λ o. with_set o (λ r.
        guarded ds r (option_uses c) (after (flow (Some (record { place = p; set = r })) a r) (λ t.
        back (record { place = p; set = r }) t (after (flow_part None u r) (λ v.
        back (record { place = p; set = r }) v (on (Some r))))))))
    flow h (break_ p) s = leaves h p s
    flow h (continue_ p) s = leaves h p s
    flow h (return_ p a) s = guarded ds s (option_uses a) (same O5 p own s (on None))
    flow h (lock p g) s = if has s g then fault O6 p g else on (Some (having s g))
    flow h (unlock p g) s = if has s g then on (Some (without s g)) else fault O7 p g
    flow h (print p a) s = guarded ds s (uses a) (on (Some s))

    pub flow_part : Option Head → TypedStmtOption → Locks → Flow
    flow_part h absent s = on (Some s)
    flow_part h (present a) s = flow h a s

    -- statements one after another; a statement after one that doesn't continue isn't walked
    pub flow_all : Option Head → TypedStmtList → Option Locks → Flow
    flow_all h no_more o = on o
    flow_all h (one_more a bs) None = on None
    flow_all h (one_more a bs) (Some s) = after (flow h a s) (λ o. flow_all h bs o)

  -- a body, up to its closing brace
  abbrev pub body_flow : (closing : Place) → TypedStmtList → Flow
  body_flow closing body = after (flow_all None body (Some own))
      (λ o. with_set o (λ s. same O5 closing own s (on None)))

-- with which set each statement is walked

-- the set with which a walk continues, if it does
abbrev pub goes_on_with : Flow → Option Locks
goes_on_with (on o) = o
goes_on_with (fault code p l) = None

-- the head of a loop that is walked with this set
abbrev pub head_at : Place → Option Locks → Option Head
head_at p None = None
head_at p (Some s) = Some (record { place = p; set = s })

module _ (ds : List Decl) (own : Locks) where
  -- the set after a statement
  abbrev pub behind : Option Head → TypedStmtTree → Option Locks → Option Locks
  behind h a None = None
  behind h a (Some s) = goes_on_with (flow ds own h a s)

  abbrev pub behind_part : Option Head → TypedStmtOption → Option Locks → Option Locks
  behind_part h absent o = o
  behind_part h (present a) o = behind h a o

  abbrev mutual
    -- of a statement in this loop, with this set, and its parts, by their numbers from its own on; none of what
    -- isn't walked
    pub sets_in : Option Head → TypedStmtTree → Option Locks → List (Option Locks)
    sets_in h (skip p) o = o ∷ []
    sets_in h (assign p target a) o = o ∷ []
    sets_in h (call p kept g at args) o = o ∷ []
    sets_in h (block p bs) o = o ∷ sets_in_all h bs o
    sets_in h (if_ p c a b) o = o ∷ (sets_in h a o ++ sets_in_part h b o)
    sets_in h (while_ p c a) o = o ∷ sets_in (head_at p o) a o
    sets_in h (do_ p a c) o = o ∷ sets_in (head_at p o) a o
    sets_in h (for_ p i c u a) o =
        let r = behind_part None i o in
        o ∷ (sets_in_part None i o ++ (sets_in_part None u r ++ sets_in (head_at p r) a r))
    sets_in h (break_ p) o = o ∷ []
    sets_in h (continue_ p) o = o ∷ []
    sets_in h (return_ p a) o = o ∷ []
    sets_in h (lock p g) o = o ∷ []
    sets_in h (unlock p g) o = o ∷ []
    sets_in h (print p a) o = o ∷ []

    pub sets_in_part : Option Head → TypedStmtOption → Option Locks → List (Option Locks)
    sets_in_part h absent o = []
    sets_in_part h (present a) o = sets_in h a o

    pub sets_in_all : Option Head → TypedStmtList → Option Locks → List (Option Locks)
    sets_in_all h no_more o = []
    sets_in_all h (one_more a bs) o = sets_in h a o ++ sets_in_all h bs (behind h a o)

  -- of the statements of a body, by their numbers in the function
  abbrev pub sets_of_body : TypedStmtList → List (Option Locks)
  sets_of_body body = sets_in_all None body (Some own)
