-- Prices of steps, weights of functions, and the bounds on the code and the frame of a compiled function.
use Rattle.cas_runs.specs.Label.{Each}
use Rattle.std.specs.Prelude.{ℕ, ◌+◌, ◌*◌, ◌≤◌, nat_lt, List, [], ◌∷◌, if◌then◌else◌}

-- of a source function with so many nodes: the most instructions that it is compiled to. It is also its weight
abbrev pub code_bound : (nodes : ℕ) → ℕ
code_bound nodes = 256 * (nodes + 8)

-- the most words of stack that an activation of it takes, with the return word
abbrev pub frame_bound : (nodes cells : ℕ) → ℕ
frame_bound nodes cells = 32 + cells + 8 * nodes

-- the price of a step of the source, by the greatest counts of the unit's or program's functions
abbrev pub source_price : (nodes cells : ℕ) → ℕ
source_price nodes cells = 256 * (nodes + cells + 8)

-- the constant of a form, of an expression or of an operand
pub record IsPrice (n : ℕ) : Type 0 where
  pub least : 1 ≤ n
  pub most : n ≤ 1000

-- each is one
abbrev pub ArePrices : List ℕ → Type 0
ArePrices = Each IsPrice

-- the constant of entries
abbrev pub IsEntryPrice : ℕ → Type 0
IsEntryPrice n = n ≤ 1000

-- what the first step of an activation costs in addition, where `names` counts temporaries, pseudo-registers or slots
abbrev pub entry_price : (constant block names parameters : ℕ) → ℕ
entry_price constant block names parameters = constant * (block + names + parameters + 8)

-- the sum
abbrev pub total : List ℕ → ℕ
total [] = 0
total (n ∷ ns) = n + total ns

-- the weight of a function, by the prices of its forms
abbrev pub weight : (prices : List ℕ) → (constant names parameters : ℕ) → ℕ
weight prices constant names parameters = total prices + constant * (names + parameters + 8)

-- How a language with functions F and activations A prices its steps: as the source, each alike, by the counts of its
-- functions; or by the constants of what a step takes, which are that of its form and those of its expressions and
-- operands. For the weight it gives the constants of all forms
pub data Tariff (F A : Type 0) : Type 0 where
  BySize : (nodes cells : F → ℕ) → Tariff F A
  ByForms : (form : A → ℕ) (operands : A → List ℕ) (entry : ℕ) (names parameters : F → ℕ) (forms : F → List ℕ) →
      Tariff F A

-- the greater of the two
abbrev pub greater : ℕ → ℕ → ℕ
greater m n = if nat_lt m n then n else m

-- the greatest count of these functions
abbrev pub most_of : {F : Type 0} → (F → ℕ) → List F → ℕ
most_of count [] = 0
most_of count (f ∷ fs) = greater (count f) (most_of count fs)

-- what a step costs, where these functions run together
abbrev pub step_price : {F A : Type 0} → Tariff F A → List F → A → ℕ
step_price (BySize nodes cells) fs a = source_price (most_of nodes fs) (most_of cells fs)
step_price (ByForms form operands entry names parameters forms) fs a = form a + total (operands a)

-- what the first step of an activation costs in addition
abbrev pub first_price : {F A : Type 0} → Tariff F A → (blocks : F → List ℕ) → F → ℕ
first_price (BySize nodes cells) blocks f = 0
first_price (ByForms form operands entry names parameters forms) blocks f =
    entry_price entry (total (blocks f)) (names f) (parameters f)

-- what it costs where a run waits for the outside, or has ended
abbrev pub waiting_price : {F A : Type 0} → Tariff F A → List F → ℕ
waiting_price (BySize nodes cells) fs = source_price (most_of nodes fs) (most_of cells fs)
waiting_price (ByForms form operands entry names parameters forms) fs = 1

-- the weight of a function in the language
abbrev pub weight_of : {F A : Type 0} → Tariff F A → F → ℕ
weight_of (BySize nodes cells) f = code_bound (nodes f)
weight_of (ByForms form operands entry names parameters forms) f = weight (forms f) entry (names f) (parameters f)

-- its constants are prices
abbrev pub IsTariff : {F A : Type 0} → Tariff F A → Type 0
IsTariff (BySize nodes cells) = Unit {0}
IsTariff {F = F} {A = A} (ByForms form operands entry names parameters forms) =
    ((a : A) → IsPrice (form a) × ArePrices (operands a)) × IsEntryPrice entry × ((f : F) → ArePrices (forms f))
