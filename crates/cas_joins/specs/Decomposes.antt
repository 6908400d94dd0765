-- What the language of a target shows: a run of a thread of its program is made of runs of the program's units.
use Rattle.std.specs.Prelude.{◌≡◌, ◌⊎◌, ℕ, zero, suc, ◌≤◌, List, Option, Some}
use Rattle.cas_runs.specs.Label.{NameBytes, Share, RunLabel, Lock}
use Rattle.cas_runs.specs.Edge.{AreGuarded}
use Rattle.cas_runs.specs.Machine.{Act, Quiet, Emits, Crosses, Locks, Receives, Bad, Stops, Full, Ends, Names, label_of, crossing_by, IsBad, Machine, Block, Run, open_functions}
use Rattle.cas_runs.specs.Refines.{Subsequence}
use Rattle.cas_runs.specs.Forms.{FootIn}
use Rattle.cas_joins.specs.Units.{Turn, HasRoom, Family, Units, state_now, goes_on, emits, turns, at_first, Stands, IsOver}

-- the units and the thread of a target. Values that nothing fixes, as those of registers that a call leaves unknown,
-- are chosen along the run: so there is a machine of a unit for each choice
pub record Target (K U T X : Type 0) : Type 1 where
  pub units : U → ℕ → Machine T
  pub thread : Machine X
  -- the thread stands where its units do, with these values chosen
  pub at : U → Units K T → X → Type 0

module _ {K U T X : Type 0} (p : Family K) (t : Target K U T X) where
  -- what the running unit does next
  abbrev pub act_now : U → Units K T → Act T
  act_now u h = (t.units u h.talk.now).act (state_now h)

  -- where runs have these labels, the values that nothing fixes may be chosen anew
  abbrev pub Carries : U → Units K T → U → Type 0
  Carries u h v = (i : ℕ) (bs : List Block) (b : Block) (x : T) →
      Run (p.edges i) (t.units u i) (h.talk.labels i) bs b x → Run (p.edges i) (t.units v i) (h.talk.labels i) bs b x

  -- the unit waits, and receives this; and then
  pub record Hears (Then : U → Units K T → Type 0) (u : U) (h : Units K T) (x : Turn K) : Type 0 where
    pub chosen : U
    pub carries : Carries u h chosen
    pub room : HasRoom x.receives
    pub receive : RunLabel → T
    pub waits : (t.units chosen x.to).act (h.states x.to) ≡ Receives receive
    pub onward : Then chosen (turns h x (receive x.receives))

  -- the label doesn't end the thread, and however it is received, there are units that do; and then
  pub record IsHeard (Then : U → Units K T → Type 0) (u : U) (h : Units K T) (l : RunLabel) (y : T) : Type 0 where
    pub goes_on : p.ends h.talk l → ⊥
    pub each : (x : Turn K) → p.exchange h.talk l x → Hears Then u (emits h l y) x

  -- the running unit is at a Call or a Leave, which is heard by each label that it can have; and then
  pub record Crossing (Then : U → Units K T → Type 0) (u : U) (h : Units K T) : Type 0 where
    pub function : Option NameBytes
    pub share : Share
    pub next : Names → Option T
    pub crosses : act_now u h ≡ Crosses function share next
    pub each : (n : Names) (y : T) → next n ≡ Some y → IsHeard Then u h (crossing_by function share n) y

  -- so many crossings, one after another; and then
  abbrev pub Chain : ℕ → (U → Units K T → Type 0) → U → Units K T → Type 0
  Chain zero Then u h = Then u h
  Chain (suc n) Then u h = Crossing (λ v k. Chain n Then v k) u h

  -- the running unit is at the Leave by which the thread ends: nobody receives it
  pub record LastCrossing (u : U) (h : Units K T) : Type 0 where
    pub function : Option NameBytes
    pub share : Share
    pub next : Names → Option T
    pub crosses : act_now u h ≡ Crosses function share next
    pub each : (n : Names) (y : T) → next n ≡ Some y → (x : Turn K) →
        p.exchange h.talk (crossing_by function share n) x → ⊥

  -- a quiet step of the running unit is the thread's
  pub record GoesAlike (u : U) (h : Units K T) (z : X) : Type 0 where
    pub to : T
    pub goes : act_now u h ≡ Quiet to
    pub at : t.at u (goes_on h to) z

  -- with values chosen anew, the running unit goes on by this label where the thread does
  pub record EmitsAlike (u : U) (h : Units K T) (l : RunLabel) (z : X) (IsNext : Act T → T → Type 0) : Type 0 where
    pub chosen : U
    pub carries : Carries u h chosen
    pub to : T
    pub is_next : IsNext (act_now chosen h) to
    pub at : t.at chosen (emits h l to) z

  -- the thread ends by a return that is several crossings
  pub record EndsBy (u : U) (h : Units K T) (z : X) : Type 0 where
    pub hops : ℕ
    pub is_over : IsOver t.thread z
    pub price : t.thread.price z ≡ 1
    pub chain : Chain hops LastCrossing u h

  -- a step of the thread is one of the running unit, or crossings
  abbrev pub StepDecomposes : U → Units K T → Act X → Type 0
  StepDecomposes u h (Quiet z) = GoesAlike u h z ⊎ ((hops : ℕ) × Chain (suc hops) (λ v k. t.at v k z) u h)
  StepDecomposes u h (Emits e z) =
      EmitsAlike u h (label_of e) z (λ a y. a ≡ Emits e y) ⊎ ((e ≡ Ends) × EndsBy u h z)
  StepDecomposes u h (Locks lock nexts) = ((next : List ℕ → T) × (act_now u h ≡ Locks lock next))
      × ((words : List ℕ) → AreGuarded p.edge lock words →
      EmitsAlike u h (Lock lock words) (nexts words)
      (λ a y. (next : List ℕ → T) × (a ≡ Locks lock next) × (next words ≡ y)))
  StepDecomposes u h (Stops why) = (act_now u h ≡ Stops why) ⊎ (why ≡ Full)
  StepDecomposes u h Bad = ⊥
  StepDecomposes u h (Crosses function share nexts) = ⊥
  StepDecomposes u h (Receives nexts) = ⊥

  -- where the thread starts, the unit of the entry has received
  pub record StartsDecomposed : Type 0 where
    pub chosen : U
    pub receive : RunLabel → T
    pub waits : (t.units chosen p.opening.to).act (t.units chosen p.opening.to).start ≡ Receives receive
    pub at : t.at chosen (at_first p (λ i. (t.units chosen i).start) (receive p.opening.receives)) t.thread.start

  pub record Decomposes : Type 0 where
    pub starts : StartsDecomposed
    pub costs : (x : X) → 1 ≤ t.thread.price x
    pub price : (u : U) (h : Units K T) (x : X) → t.at u h x →
        t.thread.price x ≤ (t.units u h.talk.now).price (state_now h)
    pub touches : (u : U) (h : Units K T) (x : X) → t.at u h x →
        FootIn (t.thread.footprint x) ((t.units u h.talk.now).footprint (state_now h))
    pub opened : (u : U) (h : Units K T) (x : X) → t.at u h x →
        Subsequence (open_functions t.thread x) (p.weave h.talk (λ i. open_functions (t.units u i) (h.states i)))
    pub steps : (u : U) (h : Units K T) (x : X) → t.at u h x →
        ((i : ℕ) → Stands (p.edges i) (t.units u i) (h.talk.labels i) (h.states i)) →
        IsBad (act_now u h) ⊎ StepDecomposes u h (t.thread.act x)
