-- Passes that leave values and memory as they are. What a new block holds at first is each language's own: where that
-- differs, `match_states` says it until the target has set its words.
--
--     t:   memory    ════════ equal ════════    memory'
--            ║                                    ║          equal where a call, a return or the outside follows;
--     s:   memory    ════════ equal ════════    memory'      within a step each may store on its own
use Rattle.std.specs.Prelude.{◌≡◌, ℕ, ◌≤◌, List}
use Rattle.cas_base.specs.declared.decl.Decl.{Decl}
use Rattle.cas_runs.specs.Bounds.{IsTariff, waiting_price}
use Rattle.cas_runs.specs.Access.{Holding}
use Rattle.cas_runs.specs.Unit.{Setting}
use Rattle.cas_runs.specs.Calls.{Activations, Past}
use Rattle.cas_runs.specs.Passing.{Position, Matches, Relation, AllMade, MadeSo, Matching, MadeOf, RunTogether}
use Rattle.cas_runs.specs.Held.{States, Held, Steps, Midway}

-- both hold the same
pub record Equal (p : Past) (h : Holding) (q : Past) (k : Holding) : Type 0 where
  pub past : p ≡ q
  pub holding : h ≡ k

-- the same words of the same locks, and the same objects have crossed
pub record EqualShares (p : Past) (h : Holding) (q : Past) (k : Holding) : Type 0 where
  pub past : p ≡ q
  pub share : h.share ≡ k.share

-- what matches, by where activations match
abbrev pub equal_matches : {F A G B : Type 0} → (F → G → Type 0) → (F → G → ℕ → Position A → Position B → Type 0) →
    Matches F A G B
equal_matches made match_states = record {
  made = made;
  match_values = λ v w. v ≡ w;
  match_memory = EqualShares;
  settled = Equal;
  frame = λ n h k h' k'. Unit {0};
  match_states = match_states;
}

-- the relation, where these functions run together
abbrev pub keeps_values : {F A G B : Type 0} → Activations F A → Activations G B → Setting → List F → List G →
    Matches F A G B → Relation F A G B
keeps_values target source setting ts ss matches = record {
  target = target;
  source = source;
  setting = setting;
  placed = setting.layout;
  targets = ts;
  sources = ss;
  by = matches;
}

-- what it names for the law over memories, by where both begin a step
abbrev pub in_place :
    {F A G B : Type 0} → States F A G B → Held F A G B
in_place match_states = record {
  match_states = match_states;
  match_memory = λ t s. t ≡ s;
  target_frame = λ n t t'. Unit {0};
  source_frame = λ n s s'. Unit {0};
}

-- such a pass, by what it makes and where both begin a step, for all functions that run together in a setting
pub record Unmoved (F A G B : Type 0) : Type 1 where
  pub target : Activations F A
  pub source : Activations G B
  pub made : List Decl → F → G → Type 0
  pub match_states : Setting → List F → List G → States F A G B

module _ {F A G B : Type 0} (p : Unmoved F A G B) where
  abbrev pub places : Setting → List F → List G → Held F A G B
  places setting ts ss = in_place (p.match_states setting ts ss)

  -- the relation over which the steps are shown. Where both match midway doesn't enter it
  abbrev pub bare : Setting → List F → List G → (F → G → Type 0) → Relation F A G B
  bare setting ts ss made =
      keeps_values p.target p.source setting ts ss (equal_matches made (λ f g n x y. Unit {0}))

  abbrev pub unmoved : Matching F A G B
  unmoved = record {
    target = p.target;
    source = p.source;
    made = p.made;
    naming = λ ss layout. layout;
    matches = λ setting ts ss made. equal_matches made (Midway (bare setting ts ss made) (places setting ts ss));
  }

  -- what it shows
  pub record IsUnmoved : Type 0 where
    pub names : (decls : List Decl) (f : F) (g : G) → p.made decls f g → p.target.name f ≡ p.source.name g
    pub blocks : (decls : List Decl) (f : F) (g : G) → p.made decls f g → p.target.blocks f ≡ p.source.blocks g
    pub prices : IsTariff p.target.tariff
    pub waits :
        (ts : List F) (ss : List G) → AllMade (MadeSo p.made) ts ss
        → waiting_price p.target.tariff ts ≤ waiting_price p.source.tariff ss
    pub steps :
        (setting : Setting) (decls : List Decl) (ts : List F) (ss : List G) → RunTogether unmoved setting decls ts ss
        → Steps (bare setting ts ss (MadeOf unmoved setting ts ss)) (places setting ts ss)
