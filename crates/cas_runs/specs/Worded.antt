-- Passes that leave values and memory as they are, and may use that every number is a word.
use Rattle.std.specs.Prelude.{◌≡◌, ℕ, ◌≤◌, List, [], ◌∷◌, Some}
use Rattle.cas_base.specs.declared.decl.Decl.{Decl}
use Rattle.cas_base.specs.declared.kind.Kind.TheVariants.{U32}
use Rattle.cas_runs.specs.Edge.{IsOfKind}
use Rattle.cas_runs.specs.Naming.{Home, Value, Number, Pointer, Hidden, Memory}
use Rattle.cas_runs.specs.Bounds.{IsTariff, waiting_price}
use Rattle.cas_runs.specs.Access.{Holding}
use Rattle.cas_runs.specs.Unit.{Setting}
use Rattle.cas_runs.specs.Forms.{ShareSelfSame}
use Rattle.cas_runs.specs.Calls.{Activations, Past}
use Rattle.cas_runs.specs.Passing.{Position, Matches, Relation, AllMade, MadeSo, Matching, MadeOf, RunTogether}
use Rattle.cas_runs.specs.Held.{States, Held, Steps, Midway}
use Rattle.cas_runs.specs.Unmoved.{keeps_values}

-- a number is a word
abbrev pub IsWord : Value → Type 0
IsWord (Number n) = IsOfKind n U32
IsWord (Pointer home place) = Unit {0}
IsWord (Hidden what) = Unit {0}

abbrev pub AreWords : List Value → Type 0
AreWords [] = Unit {0}
AreWords (v ∷ vs) = IsWord v × AreWords vs

-- in each block
abbrev pub HasWords : Memory → Type 0
HasWords memory = (home : Home) (vs : List Value) → memory home ≡ Some vs → AreWords vs

-- the values are equal, and words
abbrev pub SameWord : Value → Value → Type 0
SameWord v w = (v ≡ w) × IsWord v

-- both hold the same, and all of it are words
pub record EqualWords (p : Past) (h : Holding) (q : Past) (k : Holding) : Type 0 where
  pub past : p ≡ q
  pub holding : h ≡ k
  pub share : ShareSelfSame SameWord k.share
  pub memory : HasWords k.memory

-- the shares are equal and are words, and the same objects have crossed
pub record SharesWords (p : Past) (h : Holding) (q : Past) (k : Holding) : Type 0 where
  pub past : p ≡ q
  pub share : h.share ≡ k.share
  pub words : ShareSelfSame SameWord k.share

-- the memories are equal, and all that they hold are words
abbrev pub EqualMemories : Memory → Memory → Type 0
EqualMemories t s = (t ≡ s) × HasWords s

-- what matches, by where activations match
abbrev pub word_matches : {F A G B : Type 0} → (F → G → Type 0) → (F → G → ℕ → Position A → Position B → Type 0) →
    Matches F A G B
word_matches made match_states = record {
  made = made;
  match_values = SameWord;
  match_memory = SharesWords;
  settled = EqualWords;
  frame = λ n h k h' k'. Unit {0};
  match_states = match_states;
}

-- what it names for the law over memories, by where both begin a step
abbrev pub in_words :
    {F A G B : Type 0} → States F A G B → Held F A G B
in_words match_states = record {
  match_states = match_states;
  match_memory = EqualMemories;
  target_frame = λ n t t'. Unit {0};
  source_frame = λ n s s'. Unit {0};
}

-- such a pass, by what it makes and where both begin a step, for all functions that run together in a setting
pub record Worded (F A G B : Type 0) : Type 1 where
  pub target : Activations F A
  pub source : Activations G B
  pub made : List Decl → F → G → Type 0
  pub match_states : Setting → List F → List G → States F A G B

module _ {F A G B : Type 0} (p : Worded F A G B) where
  abbrev pub places : Setting → List F → List G → Held F A G B
  places setting ts ss = in_words (p.match_states setting ts ss)

  -- the relation over which the steps are shown
  abbrev pub bare : Setting → List F → List G → (F → G → Type 0) → Relation F A G B
  bare setting ts ss made =
      keeps_values p.target p.source setting ts ss (word_matches made (λ f g n x y. Unit {0}))

  abbrev pub worded : Matching F A G B
  worded = record {
    target = p.target;
    source = p.source;
    made = p.made;
    naming = λ ss layout. layout;
    matches = λ setting ts ss made. word_matches made (Midway (bare setting ts ss made) (places setting ts ss));
  }

  -- what it shows
  pub record IsWorded : Type 0 where
    pub names : (decls : List Decl) (f : F) (g : G) → p.made decls f g → p.target.name f ≡ p.source.name g
    pub blocks : (decls : List Decl) (f : F) (g : G) → p.made decls f g → p.target.blocks f ≡ p.source.blocks g
    pub prices : IsTariff p.target.tariff
    pub waits :
        (ts : List F) (ss : List G) → AllMade (MadeSo p.made) ts ss
        → waiting_price p.target.tariff ts ≤ waiting_price p.source.tariff ss
    pub steps :
        (setting : Setting) (decls : List Decl) (ts : List F) (ss : List G) → RunTogether worded setting decls ts ss
        → Steps (bare setting ts ss (MadeOf worded setting ts ss)) (places setting ts ss)
