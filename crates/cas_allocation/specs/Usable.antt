-- Passes that leave values and memory as they are, and may use that every value that is passed or returned is usable: a
-- number or a pointer.
use Rattle.std.specs.Prelude.{◌≡◌, ℕ, ◌≤◌, List}
use Rattle.cas_base.specs.declared.decl.Decl.{Decl}
use Rattle.cas_runs.specs.Naming.{Value, Hidden}
use Rattle.cas_runs.specs.Bounds.{IsTariff, waiting_price}
use Rattle.cas_runs.specs.Calls.{Activations}
use Rattle.cas_runs.specs.Held.{States, Held, Steps, Midway}
use Rattle.cas_runs.specs.Passing.{Position, Matches, Relation, AllMade, MadeSo, Matching, MadeOf, RunTogether}
use Rattle.cas_runs.specs.Unit.{Setting}
use Rattle.cas_runs.specs.Unmoved.{Equal, EqualShares, keeps_values, in_place}

abbrev pub IsUsable : Value → Type 0
IsUsable (Hidden what) = ⊥
IsUsable v = Unit {0}

-- the values are equal, and usable
abbrev pub SameUsable : Value → Value → Type 0
SameUsable v w = (v ≡ w) × IsUsable v

-- what matches, by where activations match
abbrev pub usable_matches : {F A G B : Type 0} → (F → G → Type 0) → (F → G → ℕ → Position A → Position B → Type 0) →
    Matches F A G B
usable_matches made match_states = record {
  made = made;
  match_values = SameUsable;
  match_memory = EqualShares;
  settled = Equal;
  frame = λ n h k h' k'. Unit {0};
  match_states = match_states;
}

-- such a pass, by what it makes and where both begin a step, for all functions that run together in a setting
pub record Usable (F A G B : Type 0) : Type 1 where
  pub target : Activations F A
  pub source : Activations G B
  pub made : List Decl → F → G → Type 0
  pub match_states : Setting → List F → List G → States F A G B

module _ {F A G B : Type 0} (p : Usable F A G B) where
  abbrev pub places : Setting → List F → List G → Held F A G B
  places setting ts ss = in_place (p.match_states setting ts ss)

  -- the relation over which the steps are shown
  abbrev pub bare : Setting → List F → List G → (F → G → Type 0) → Relation F A G B
  bare setting ts ss made =
      keeps_values p.target p.source setting ts ss (usable_matches made (λ f g n x y. Unit {0}))

  abbrev pub with_usable : Matching F A G B
  with_usable = record {
    target = p.target;
    source = p.source;
    made = p.made;
    naming = λ ss layout. layout;
    matches = λ setting ts ss made. usable_matches made (Midway (bare setting ts ss made) (places setting ts ss));
  }

  -- what it shows
  pub record IsPassOfUsable : Type 0 where
    pub names : (decls : List Decl) (f : F) (g : G) → p.made decls f g → p.target.name f ≡ p.source.name g
    pub blocks : (decls : List Decl) (f : F) (g : G) → p.made decls f g → p.target.blocks f ≡ p.source.blocks g
    pub prices : IsTariff p.target.tariff
    pub waits :
        (ts : List F) (ss : List G) → AllMade (MadeSo p.made) ts ss
        → waiting_price p.target.tariff ts ≤ waiting_price p.source.tariff ss
    pub steps :
        (setting : Setting) (decls : List Decl) (ts : List F) (ss : List G) → RunTogether with_usable setting decls ts ss
        → Steps (bare setting ts ss (MadeOf with_usable setting ts ss)) (places setting ts ss)
