-- Evaluations over two kinds of objects that ask for the same and come to the same.
use Rattle.std.specs.Prelude.{⊤, ℕ, ◌<◌, List, [], ◌∷◌, Option, Some, None}
use Rattle.cas_base.specs.declared.act.Why.{Why}
use Rattle.cas_typed.specs.declared.tree.Destination.{Destination}
use Rattle.cas_step.specs.Asks as asks
use Rattle.cas_step.specs.Asks.{Asks}
use Rattle.cas_step.specs.Continuation as items
use Rattle.cas_step.specs.Continuation.{ContItem, Effect}

-- a place of so many, if there are any
abbrev pub IsBelow : Option ℕ → ℕ → Type 0
IsBelow None i = ⊥
IsBelow (Some n) i = i < n

-- which objects are the same, and to which of their places pointers go
module _ {O P : Type 0} (Objects : O → P → Type 0) (Points : O → P → ℕ → Type 0) where
  -- the same value
  pub data ValuesAlike : asks.Value O → asks.Value P → Type 0 where
    numbers : (n : ℕ) → ValuesAlike (asks.word n) (asks.word n)
    nulls : ValuesAlike asks.null asks.null
    pointers : {o : O} {o' : P} (p : ℕ) → Objects o o' → Points o o' p →
        ValuesAlike (asks.pointer o p) (asks.pointer o' p)

  abbrev pub AllValuesAlike : List (asks.Value O) → List (asks.Value P) → Type 0
  AllValuesAlike [] [] = ⊤
  AllValuesAlike (v ∷ vs) (w ∷ ws) = ValuesAlike v w × AllValuesAlike vs ws
  AllValuesAlike _ _ = ⊥

  -- what is returned
  abbrev pub ResultsAlike : Option (asks.Value O) → Option (asks.Value P) → Type 0
  ResultsAlike None None = ⊤
  ResultsAlike (Some v) (Some w) = ValuesAlike v w
  ResultsAlike _ _ = ⊥

  -- how many cells an object may have, and how many words each global has
  module _ (Sizes : O → P → ℕ → Type 0) (len : ℕ → Option ℕ) where
    -- the same queries, of globals for words that they have
    pub data QueriesAlike {A B : Type 0} (R : A → B → Type 0) : Asks O A → Asks P B → Type 0 where
      gives : {a : A} {b : B} → R a b → QueriesAlike R (asks.gives a) (asks.gives b)
      fails : {why : Why} → QueriesAlike R (asks.fails why) (asks.fails why)
      stuck : QueriesAlike R asks.stuck asks.stuck
      reads : {g i : ℕ} {more : ℕ → Asks O A} {more' : ℕ → Asks P B} → IsBelow (len g) i →
          ((n : ℕ) → QueriesAlike R (more n) (more' n)) →
          QueriesAlike R (asks.reads g i more) (asks.reads g i more')
      looks : {o : O} {o' : P} {more : Option ℕ → Asks O A} {more' : Option ℕ → Asks P B} → Objects o o' →
          QueriesAlike R (more None) (more' None) →
          ((n : ℕ) → Sizes o o' n → QueriesAlike R (more (Some n)) (more' (Some n))) →
          QueriesAlike R (asks.looks o more) (asks.looks o' more')
      loads : {o : O} {o' : P} {p : ℕ} {more : asks.Value O → Asks O A} {more' : asks.Value P → Asks P B} →
          Objects o o' → ((v : asks.Value O) (v' : asks.Value P) → ValuesAlike v v' →
          QueriesAlike R (more v) (more' v')) →
          QueriesAlike R (asks.loads o p more) (asks.loads o' p more')

    -- the same effect
    pub data EffectsAlike : Effect O → Effect P → Type 0 where
      continues : (cont : List ContItem) → EffectsAlike (items.continues cont) (items.continues cont)
      stores : {o : O} {o' : P} {v : asks.Value O} {v' : asks.Value P} (p : ℕ) (cont : List ContItem) →
          Objects o o' → ValuesAlike v v' → EffectsAlike (items.stores o p v cont) (items.stores o' p v' cont)
      writes : (g i n : ℕ) (cont : List ContItem) → IsBelow (len g) i →
          EffectsAlike (items.writes g i n cont) (items.writes g i n cont)
      calls : (g : ℕ) {vs : List (asks.Value O)} {vs' : List (asks.Value P)} (target : Option Destination)
          (cont : List ContItem) → AllValuesAlike vs vs' →
          EffectsAlike (items.calls g vs target cont) (items.calls g vs' target cont)
      returns : {v : Option (asks.Value O)} {v' : Option (asks.Value P)} → ResultsAlike v v' →
          EffectsAlike (items.returns v) (items.returns v')
      locks : (g : ℕ) (cont : List ContItem) → EffectsAlike (items.locks g cont) (items.locks g cont)
      unlocks : (g : ℕ) (cont : List ContItem) → EffectsAlike (items.unlocks g cont) (items.unlocks g cont)
      prints : (n : ℕ) (cont : List ContItem) → EffectsAlike (items.prints n cont) (items.prints n cont)
