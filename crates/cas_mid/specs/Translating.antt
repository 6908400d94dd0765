-- Passes between two languages of statements. Statements go along one by one where expressions, addresses and
-- conditions
-- do. A store of the source may be a temporary that is set in the target.
--
--     t:   a statement  ────── one step ──────►  the rest
--              │                                   │
--           is made of                          is made of
--              │                                   │
--     s:   a statement  ────── one step ──────►  the rest
use Rattle.std.specs.Prelude.{◌≡◌, ℕ, ◌+◌, ◌<◌, ◌≤◌, Bool, List, [], ◌∷◌, length, Option, Some, None}
use Rattle.cas_runs.specs.Label.{NameBytes}
use Rattle.cas_runs.specs.Naming.{Value, Number, Memory}
use Rattle.cas_runs.specs.Bounds.{total}
use Rattle.cas_runs.specs.Access.{Accesses}
use Rattle.cas_runs.specs.Calls.{Last}
use Rattle.cas_runs.specs.Passing.{Relation}
use Rattle.cas_runs.specs.Held.{Activation, Held, Amounts}
use Rattle.cas_mid.specs.Trees as tree
use Rattle.cas_mid.specs.Trees.{Statement, Statements}
use Rattle.cas_mid.specs.Language.{begin, end_block, Continuation, Frame, State, Parts, at, statement, with_temporary}

-- What may be made of the parts of a function G: in each the target's stands first. And which stores of the source are
-- a
-- temporary that is set
pub record Makes (G E M C E' M' C' : Type 0) : Type 1 where
  pub expression : G → E → E' → Type 0
  pub address : G → M → M' → Type 0
  pub condition : G → C → C' → Type 0
  pub in_temporary : G → (temporary : ℕ) → M' → Type 0

module _ {G E M C E' M' C' : Type 0} (made : Makes G E M C E' M' C') (g : G) where
  pub data AreExpressions : List E → List E' → Type 0 where
    no_expressions : AreExpressions [] []
    more_expressions :
        {e : E} {e' : E'} {es : List E} {es' : List E'}
        → made.expression g e e'
        → AreExpressions es es'
        → AreExpressions (e ∷ es) (e' ∷ es')

  mutual
    -- what is made of a statement
    pub data IsMadeOf : Statement E M C → Statement E' M' C' → Type 0 where
      skips : IsMadeOf tree.skip tree.skip
      sets : {t : ℕ} {e : E} {e' : E'} → made.expression g e e' → IsMadeOf (tree.set t e) (tree.set t e')
      stores :
          {m : M} {m' : M'} {e : E} {e' : E'}
          → made.address g m m'
          → made.expression g e e'
          → IsMadeOf (tree.store m e) (tree.store m' e')
      store_sets :
          {t : ℕ} {m' : M'} {e : E} {e' : E'}
          → made.in_temporary g t m'
          → made.expression g e e'
          → IsMadeOf (tree.set t e) (tree.store m' e')
      calls :
          {t : Option ℕ} {name : NameBytes} {es : List E} {es' : List E'}
          → AreExpressions es es'
          → IsMadeOf (tree.call t name es) (tree.call t name es')
      seqs : {bs : Statements E M C} {bs' : Statements E' M' C'} → AreMadeOf bs bs' →
          IsMadeOf (tree.seq bs) (tree.seq bs')
      ifs :
          {c : C} {c' : C'} {a b : Statement E M C} {a' b' : Statement E' M' C'}
          → made.condition g c c'
          → IsMadeOf a a'
          → IsMadeOf b b'
          → IsMadeOf (tree.if_else c a b) (tree.if_else c' a' b')
      loops : {a : Statement E M C} {a' : Statement E' M' C'} → IsMadeOf a a' → IsMadeOf (tree.loop a) (tree.loop a')
      blocks : {a : Statement E M C} {a' : Statement E' M' C'} → IsMadeOf a a' → IsMadeOf (tree.block a) (tree.block a')
      exits : {n : ℕ} → IsMadeOf (tree.exit n) (tree.exit n)
      returns_nothing : IsMadeOf (tree.return_ None) (tree.return_ None)
      returns : {e : E} {e' : E'} → made.expression g e e' → IsMadeOf (tree.return_ (Some e)) (tree.return_ (Some e'))
      locks : {name : NameBytes} → IsMadeOf (tree.lock name) (tree.lock name)
      unlocks : {name : NameBytes} → IsMadeOf (tree.unlock name) (tree.unlock name)
      prints : {e : E} {e' : E'} → made.expression g e e' → IsMadeOf (tree.print e) (tree.print e')

    pub data AreMadeOf : Statements E M C → Statements E' M' C' → Type 0 where
      no_statements : AreMadeOf tree.no_more tree.no_more
      more_statements :
          {a : Statement E M C} {a' : Statement E' M' C'} {bs : Statements E M C} {bs' : Statements E' M' C'}
          → IsMadeOf a a'
          → AreMadeOf bs bs'
          → AreMadeOf (tree.one_more a bs) (tree.one_more a' bs')

  -- what is left to do
  pub data RestIsMade : Continuation E M C → Continuation E' M' C' → Type 0 where
    nothing_left : RestIsMade [] []
    begins :
        {a : Statement E M C} {a' : Statement E' M' C'} {rest : Continuation E M C} {rest' : Continuation E' M' C'}
        → IsMadeOf a a'
        → RestIsMade rest rest'
        → RestIsMade (begin a ∷ rest) (begin a' ∷ rest')
    ends :
        {rest : Continuation E M C} {rest' : Continuation E' M' C'}
        → RestIsMade rest rest'
        → RestIsMade (end_block ∷ rest) (end_block ∷ rest')

-- the frames of activations match, with their memories
abbrev pub MatchFrames : Type 0 → Type 0 → Type 1
MatchFrames F G = Activation F G → Frame → Memory → Frame → Memory → Type 0

-- What such a pass shows, by its languages' parts, what it makes, where frames match, the relation over which it is
-- shown, and what it names for the law over memories
module _ {F G E M C E' M' C' : Type 0} (x : Parts E M C) (x' : Parts E' M' C') (made : Makes G E M C E' M' C')
    (match_frames : MatchFrames F G) (r : Relation F (State E M C) G (State E' M' C'))
    (w : Held F (State E M C) G (State E' M' C')) where
  -- both do the same
  abbrev pub DoesAlike :
      Activation F G → Memory → Memory → Accesses (Last (State E M C)) → Accesses (Last (State E' M' C')) → Type 0
  DoesAlike a t s form form' = Amounts r w a 0 t s form form'

  -- two expressions do the same, whatever follows on values that match
  abbrev pub ValueAlike : Activation F G → Frame → Memory → Frame → Memory → E → E' → Type 0
  ValueAlike a fr t fr' s e e' =
      (next : Value → Accesses (Last (State E M C))) (next' : Value → Accesses (Last (State E' M' C')))
      → ((v v' : Value) → r.by.match_values v v' → DoesAlike a t s (next v) (next' v'))
      → DoesAlike a t s (x.value fr e next) (x'.value fr' e' next')

  abbrev pub TestAlike : Activation F G → Frame → Memory → Frame → Memory → C → C' → Type 0
  TestAlike a fr t fr' s c c' =
      (next : Bool → Accesses (Last (State E M C))) (next' : Bool → Accesses (Last (State E' M' C')))
      → ((is : Bool) → DoesAlike a t s (next is) (next' is))
      → DoesAlike a t s (x.test fr c next) (x'.test fr' c' next')

  -- two statements do the same before what is made of one another
  abbrev pub StatementAlike :
      Activation F G → Frame → Memory → Frame → Memory → Statement E M C → Statement E' M' C' → Type 0
  StatementAlike a fr t fr' s b b' =
      (rest : Continuation E M C) (rest' : Continuation E' M' C') → RestIsMade made a.source rest rest'
      → DoesAlike a t s (statement x fr b rest) (statement x' fr' b' rest')

  -- what is made does the same
  pub record PartsAlike : Type 0 where
    pub values :
        (a : Activation F G) (fr fr' : Frame) (t s : Memory) → match_frames a fr t fr' s
        → (e : E) (e' : E') → made.expression a.source e e'
        → ValueAlike a fr t fr' s e e'
    pub tests :
        (a : Activation F G) (fr fr' : Frame) (t s : Memory) → match_frames a fr t fr' s
        → (c : C) (c' : C') → made.condition a.source c c'
        → TestAlike a fr t fr' s c c'
    pub stores :
        (a : Activation F G) (fr fr' : Frame) (t s : Memory) → match_frames a fr t fr' s
        → (m : M) (m' : M') → made.address a.source m m'
        → (e : E) (e' : E') → made.expression a.source e e'
        → StatementAlike a fr t fr' s (tree.store m e) (tree.store m' e')
    pub store_sets :
        (a : Activation F G) (fr fr' : Frame) (t s : Memory) → match_frames a fr t fr' s
        → (u : ℕ) (m' : M') → made.in_temporary a.source u m'
        → (e : E) (e' : E') → made.expression a.source e e'
        → StatementAlike a fr t fr' s (tree.set u e) (tree.store m' e')

  -- frames go along
  pub record FramesAlike : Type 0 where
    pub states :
        (a : Activation F G) (fr fr' : Frame) (t s : Memory) → match_frames a fr t fr' s
        → (rest : Continuation E M C) (rest' : Continuation E' M' C') → RestIsMade made a.source rest rest'
        → w.match_states a (at x fr rest) t (at x' fr' rest') s
    -- a temporary of both gets values that match
    pub sets :
        (a : Activation F G) (fr fr' : Frame) (t s : Memory) → match_frames a fr t fr' s
        → (u : ℕ) (v v' : Value) → r.by.match_values v v' → u < length fr'.temporaries
        → (u < length fr.temporaries) × match_frames a (with_temporary fr u v) t (with_temporary fr' u v') s
    pub memory :
        (a : Activation F G) (fr fr' : Frame) (t s : Memory) → match_frames a fr t fr' s → w.match_memory t s
    -- where an activation goes on after a call
    pub later :
        (a : Activation F G) (fr fr' : Frame) (t s : Memory) → match_frames a fr t fr' s
        → (t₂ s₂ : Memory) → w.target_frame (a.serial + 1) t t₂ → w.source_frame (a.serial + 1) s s₂
        → w.match_memory t₂ s₂ → match_frames a fr t₂ fr' s₂
    -- what matches a word is that word
    pub words : (v : Value) (n : ℕ) → r.by.match_values v (Number n) → v ≡ Number n

-- what is made costs no more
pub record PricesAlike {G E M C E' M' C' : Type 0} (x : Parts E M C) (x' : Parts E' M' C')
    (made : Makes G E M C E' M' C') : Type 0 where
  pub values : (g : G) (e : E) (e' : E') → made.expression g e e' →
      total (x.value_prices e) ≤ total (x'.value_prices e')
  pub locations : (g : G) (m : M) (m' : M') → made.address g m m' →
      total (x.location_prices m) ≤ total (x'.location_prices m')
  pub tests : (g : G) (c : C) (c' : C') → made.condition g c c' → total (x.test_prices c) ≤ total (x'.test_prices c')
