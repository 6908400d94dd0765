-- Schedules: choices that are made one after another. One that isn't allowed changes nothing, and the next is made.
use Rattle.std.specs.Prelude.{◌≡◌, ◌⊎◌, List, [], ◌∷◌, ◌++◌, replicate}
use Rattle.cas_tso.specs.Refusal.{StepsAs}
use Rattle.cas_tso.specs.State.{Setup, State}
use Rattle.cas_tso.specs.declared.refused.Choice.{Choice}
use Rattle.cas_exec.specs.declared.schedule.Item.{Item}

-- the choice isn't allowed: no step of the machine makes it
abbrev pub IsBarred : Setup → State → Choice → Type 0
IsBarred p s choice = (t : State) → StepsAs p s choice t → ⊥

-- a choice leads from the one state to the other
abbrev pub Chooses : Setup → Choice → (s t : State) → Type 0
Chooses p choice s t = StepsAs p s choice t ⊎ (IsBarred p s choice × (t ≡ s))

-- these choices do, made from left to right
abbrev pub Follows : Setup → List Choice → (s t : State) → Type 0
Follows p [] s t = t ≡ s
Follows p (choice ∷ choices) s t = (u : State) × Chooses p choice s u × Follows p choices u t

-- the choices of a schedule's items: each is made as many times as its count says
abbrev pub unrolled : List Item → List Choice
unrolled [] = []
unrolled (item ∷ items) = replicate item.count item.choice ++ unrolled items
