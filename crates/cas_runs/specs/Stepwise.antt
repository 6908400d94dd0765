-- Passes of which each step of the target is one step of the source: they show that the forms do the same. They are a
-- case of the law over memories.
--
--     t:   x ──── one step ────► x'
--          │                     │
--          At                    At       and the memories match
--          │                     │
--     s:   y ──── one step ────► y'
use Rattle.std.specs.Prelude.{◌≡◌, ℕ, ◌≤◌, List, length, Option, Some, None}
use Rattle.cas_runs.specs.Label.{NameBytes}
use Rattle.cas_runs.specs.Edge.{results_of}
use Rattle.cas_runs.specs.Naming.{Value, Memory}
use Rattle.cas_runs.specs.Bounds.{step_price, first_price}
use Rattle.cas_runs.specs.Forms.{FormAlike}
use Rattle.cas_runs.specs.Calls.{Last, Goes, Takes, Gives, Puts, Calls, Tails, Returns}
use Rattle.cas_runs.specs.Passing.{Relation, AllMatch}
use Rattle.cas_runs.specs.Held.{States}

module _ {F A G B : Type 0} (r : Relation F A G B) (At : F → G → A → B → Type 0) where
  abbrev pub AtIf : F → G → Option A → Option B → Type 0
  AtIf f g (Some x) (Some y) = At f g x y
  AtIf f g None (Some y) = ⊥
  AtIf f g x None = Unit {0}

  -- both do the same at last, and go on at the same place
  pub data LastAt (f : F) (g : G) : Last A → Last B → Type 0 where
    goes_at : {x : A} {y : B} → At f g x y → LastAt f g (Goes x) (Goes y)
    takes_at : {lock : NameBytes} {x : A} {y : B} → At f g x y → LastAt f g (Takes lock x) (Takes lock y)
    gives_at : {lock : NameBytes} {x : A} {y : B} → At f g x y → LastAt f g (Gives lock x) (Gives lock y)
    puts_at : {word : ℕ} {x : A} {y : B} → At f g x y → LastAt f g (Puts word x) (Puts word y)
    calls_at :
        {function : NameBytes} {vs ws : List Value} {next : List Value → Option A} {next' : List Value → Option B}
        → AllMatch r vs ws
        → ((us xs : List Value) → AllMatch r us xs → results_of r.setting.edge function ≡ Some (length xs)
        → AtIf f g (next us) (next' xs))
        → LastAt f g (Calls function vs next) (Calls function ws next')
    tails_at :
        {function : NameBytes} {vs ws : List Value}
        → AllMatch r vs ws
        → LastAt f g (Tails function vs) (Tails function ws)
    returns_at : {vs ws : List Value} → AllMatch r vs ws → LastAt f g (Returns vs) (Returns ws)

  -- what such a pass shows
  pub record Stepwise (same_size : ℕ → ℕ → Type 0) : Type 0 where
    pub forms :
        (f : F) (g : G) → r.by.made f g → (x : A) (y : B) → At f g x y
        → FormAlike r.by.match_values same_size (LastAt f g) (r.target.form x) (r.source.form y)
    pub costs :
        (f : F) (g : G) → r.by.made f g → (x : A) (y : B) → At f g x y
        → step_price r.target.tariff r.targets x ≤ step_price r.source.tariff r.sources y
    pub enters :
        (f : F) (g : G) → r.by.made f g → (n : ℕ) (vs ws : List Value) → AllMatch r vs ws
        → AtIf f g (r.target.enter f n vs) (r.source.enter g n ws)
    pub entries :
        (f : F) (g : G) → r.by.made f g
        → first_price r.target.tariff r.target.blocks f ≤ first_price r.source.tariff r.source.blocks g

-- where both begin a step at the same place, with memories that match
abbrev pub at_place : {F A G B : Type 0} → (F → G → A → B → Type 0) → (Memory → Memory → Type 0) → States F A G B
at_place At M = λ a x t y s. At a.target a.source x y × M t s
