-- What a pass shows of one activation, where the calls of both languages are those of the layer: it then refines
-- functions, units and threads.
use Rattle.std.specs.Prelude.{◌≡◌, ℕ, ◌+◌, ◌≤◌, true, List, [], ◌++◌, length, Option, Some, None, ◌⊎◌}
use Rattle.cas_base.specs.declared.kind.Kind.TheVariants.{U32}
use Rattle.cas_base.specs.declared.kind.Ty.{Ty}
use Rattle.cas_base.specs.declared.decl.Decl.{Decl}
use Rattle.cas_base.specs.declared.decl.Unit.{Unit as UnitOf}
use Rattle.cas_runs.specs.Label.{Both, NameBytes, Crossing}
use Rattle.cas_runs.specs.Edge.{Edge, IsOfKind, AreGuarded, AreOfTypes, results_of}
use Rattle.cas_runs.specs.Outside.{Brings}
use Rattle.cas_runs.specs.Naming.{Value, Number, Layout, Naming, Crossed, all_taken, objects_of, brought}
use Rattle.cas_runs.specs.Machine.{Act, Quiet, Bad, Stops, Ended, Names, Block, and_step}
use Rattle.cas_runs.specs.Refines.{Within}
use Rattle.cas_runs.specs.Simulation.{Quietly}
use Rattle.cas_runs.specs.Bounds.{IsTariff, step_price, first_price, waiting_price}
use Rattle.cas_runs.specs.Access.{Then, Fails, Holding, with_lock, without_lock, Performed}
use Rattle.cas_runs.specs.Unit.{Setting, AreDeclared, AreKnown, IsEdge, IsLayout, LaidOutToo, guard_of}
use Rattle.cas_runs.specs.Calls.{Last, Goes, Takes, Gives, Puts, Calls, Tails, Returns, Activations, Past, can_cross}
use Rattle.cas_runs.specs.Calls.{named_as}
use Rattle.cas_runs.specs.Calls.{with_naming, with_share, with_own, without_own, one_begun, called_by, step_at, find}
use Rattle.cas_runs.specs.Calls.{no_past, no_holding, language}

-- an activation that runs, with what its thread holds
pub record Activity (A : Type 0) : Type 0 where
  pub now : A
  pub holding : Holding

-- the same with its block so far
pub record Position (A : Type 0) : Type 0 where
  pub now : A
  pub holding : Holding
  pub block : Block

abbrev pub position : {A : Type 0} → Activity A → Block → Position A
position x b = record { now = x.now; holding = x.holding; block = b }

-- when activations of these two functions begin a step: their serial number, and what both threads have done and hold
pub record Moment (F G : Type 0) : Type 0 where
  pub t_function : F
  pub s_function : G
  pub serial : ℕ
  pub t_past : Past
  pub s_past : Past
  pub t_holding : Holding
  pub s_holding : Holding

-- what matches, where functions run together
pub record Matches (F A G B : Type 0) : Type 1 where
  -- the target's function is made of the source's
  pub made : F → G → Type 0
  pub match_values : Value → Value → Type 0
  -- what both threads hold matches, as far as the activations that match don't tell the rest
  pub match_memory : Past → Holding → Past → Holding → Type 0
  -- and all of it does, where a call, a return or the outside follows
  pub settled : Past → Holding → Past → Holding → Type 0
  -- the frame condition: between two moments nothing has touched what the activations with smaller serial numbers have
  -- for themselves
  pub frame : ℕ → Holding → Holding → Holding → Holding → Type 0
  -- where the activations of these functions and of this serial number stand
  pub match_states : F → G → ℕ → Position A → Position B → Type 0

-- two languages in a setting, where these functions run together, the layout of the target's blocks, and what matches
pub record Relation (F A G B : Type 0) : Type 1 where
  pub target : Activations F A
  pub source : Activations G B
  pub setting : Setting
  pub placed : Layout
  pub targets : List F
  pub sources : List G
  pub by : Matches F A G B

module _ {F A G B : Type 0} (r : Relation F A G B) where
  abbrev pub AllMatch : List Value → List Value → Type 0
  AllMatch = Both r.by.match_values

  -- the steps, and the blocks with them
  abbrev pub t_step : A → Holding → Performed (Last A)
  t_step x h = step_at r.target r.setting x h

  abbrev pub s_step : B → Holding → Performed (Last B)
  s_step y k = step_at r.source r.setting y k

  abbrev pub t_on : Block → A → ℕ → Holding → Block
  t_on b x extra h = and_step b (step_price r.target.tariff r.targets x + extra) (t_step x h).footprint

  abbrev pub s_on : Block → B → ℕ → Holding → Block
  s_on c y extra k = and_step c (step_price r.source.tariff r.sources y + extra) (s_step y k).footprint

  -- the source's activation alone: it goes on quietly until its step does something else at last, or fails
  abbrev pub after_step : Option (Last B) → Holding → Act (Activity B)
  after_step None k = Bad
  after_step (Some (Goes y)) k = Quiet (record { now = y; holding = k })
  after_step _ k = Stops Ended

  abbrev pub act_alone : Activity B → Act (Activity B)
  act_alone y = after_step (s_step y.now y.holding).last (s_step y.now y.holding).holding

  abbrev pub on_alone : Block → Activity B → Block
  on_alone c y = s_on c y.now 0 y.holding

  -- the source's activation goes wrong
  abbrev pub FailsSoon : B → Holding → Block → Type 0
  FailsSoon y k c = Quietly act_alone on_alone (λ y' c'. ⊥) (record { now = y; holding = k }) c

  module _ (m : Moment F G) where
    -- what both threads hold now matches, and since the moment nothing was touched of others
    pub record Stands (h : Holding) (k : Holding) : Type 0 where
      pub match_memory : r.by.match_memory m.t_past h m.s_past k
      pub frame : r.by.frame m.serial m.t_holding m.s_holding h k

    -- the same where all matches
    pub record Settles (h : Holding) (k : Holding) : Type 0 where
      pub settled : r.by.settled m.t_past h m.s_past k
      pub frame : r.by.frame m.serial m.t_holding m.s_holding h k

    -- both activations match, and so does what both threads hold
    pub record Matched (x : Position A) (y : Position B) : Type 0 where
      pub states : r.by.match_states m.t_function m.s_function m.serial x y
      pub stands : Stands x.holding y.holding

    -- the source goes on quietly to where it matches x, or it fails
    abbrev pub Going : Position A → B → Holding → Block → Type 0
    Going x y k c = Quietly act_alone on_alone (λ y' c'. Matched x (position y' c')) (record { now = y; holding = k }) c

  -- once both stand there at the moment, with what their steps cost in addition, the source goes on to where they match
  abbrev pub Ready : Moment F G → A → ℕ → B → ℕ → Type 0
  Ready m x extra y more =
      let h = m.t_holding in
      let k = m.s_holding in
      (b c : Block) → Within b c →
      Going m (record { now = x; holding = h; block = t_on b x extra h }) y k (s_on c y more k)

  -- an activation begins or goes on where the source's does
  abbrev pub ReadyIf : Moment F G → Option A → ℕ → Option B → ℕ → Type 0
  ReadyIf m (Some x) extra (Some y) more = Ready m x extra y more
  ReadyIf m None extra (Some y) more = ⊥
  ReadyIf m x extra None more = Unit {0}

  -- a later moment of the same activations
  abbrev pub later_moment : Moment F G → Holding → Holding → Moment F G
  later_moment m h k = record m { t_holding = h; s_holding = k }

  -- two activations that wait since the moment for the same results, of this number, and go on with them at any later
  -- one
  abbrev pub WaitAlike : Moment F G → Option ℕ → (List Value → Option A) → (List Value → Option B) → Type 0
  WaitAlike m results next next' =
      (p q : Past) (h k : Holding) → r.by.frame (m.serial + 1) m.t_holding m.s_holding h k → r.by.settled p h q k →
      (vs ws : List Value) → AllMatch vs ws → results ≡ Some (length ws) →
      ReadyIf (record m { t_past = p; s_past = q; t_holding = h; s_holding = k }) (next vs) 0 (next' ws) 0

  -- the source's activation does nothing with these results but go on and return them, or the first of them, as where
  -- it
  -- returns none; or it fails
  pub data PassesOn (ws : List Value) : Option B → Type 0 where
    cannot_go_on : PassesOn ws None
    fails_then : {y : B} → r.source.form y ≡ Fails → PassesOn ws (Some y)
    goes_then : {y y' : B} → r.source.form y ≡ Then (Goes y') → PassesOn ws (Some y') → PassesOn ws (Some y)
    returns_first : {y : B} (us more : List Value) → ws ≡ us ++ more → r.source.form y ≡ Then (Returns us) →
        waiting_price r.target.tariff r.targets ≤ step_price r.source.tariff r.sources y → PassesOn ws (Some y)

  -- and that for all results of this number, and has no blocks: the target has no activation in its place
  abbrev pub OnlyPasses : G → Option ℕ → (List Value → Option B) → Type 0
  OnlyPasses g results next =
      (r.source.blocks g ≡ []) × ((ws : List Value) → results ≡ Some (length ws) → PassesOn ws (next ws))

  module _ (m : Moment F G) where
    -- the tail call of the target is one of the source, or a call whose result is only passed on
    pub data TailAlike (function : NameBytes) (vs : List Value) (h : Holding) (k : Holding) : Option (Last B) →
        Type 0 where
      tail : (ws : List Value) → AllMatch vs ws → Settles m h k → TailAlike function vs h k (Some (Tails function ws))
      passing : (ws : List Value) (next : List Value → Option B) → AllMatch vs ws →
          Settles m (without_own r.target m.t_function m.serial h) k →
          OnlyPasses m.s_function (results_of r.setting.edge function) next →
          TailAlike function vs h k (Some (Calls function ws next))

    -- what the source does at last, holding k then, where the target does this, but for a step that only goes on
    abbrev pub LastAlike : Last A → Holding → Option (Last B) → Holding → Type 0
    LastAlike (Goes x) h o k = ⊥
    LastAlike (Takes lock x) h o k =
        (y : B) × (o ≡ Some (Takes lock y)) × Stands m h k
        × ((num : ℕ) (words : List ℕ) → guard_of r.setting.edge lock ≡ Some num → AreGuarded r.setting.edge num words →
        Ready (later_moment m (with_share h (with_lock h.share num words))
        (with_share k (with_lock k.share num words))) x 0 y 0)
    LastAlike (Gives lock x) h o k =
        (y : B) × (o ≡ Some (Gives lock y)) × Stands m h k
        × ((num : ℕ) → guard_of r.setting.edge lock ≡ Some num →
        Ready (later_moment m (with_share h (without_lock h.share num))
        (with_share k (without_lock k.share num))) x 0 y 0)
    LastAlike (Puts word x) h o k =
        (y : B) × (o ≡ Some (Puts word y)) × Stands m h k × Ready (later_moment m h k) x 0 y 0
    LastAlike (Calls function vs next) h o k =
        (ws : List Value) × (next' : List Value → Option B) × (o ≡ Some (Calls function ws next')) × AllMatch vs ws
        × Settles m h k × WaitAlike (later_moment m h k) (results_of r.setting.edge function) next next'
    LastAlike (Tails function vs) h o k = TailAlike function vs h k o
    LastAlike (Returns vs) h o k = (ws : List Value) × (o ≡ Some (Returns ws)) × AllMatch vs ws × Settles m h k

    -- what the source does where the target's step does this at last: it goes wrong where that fails
    abbrev pub Does : Option (Last A) → Holding → Block → B → Block → Type 0
    Does (Some (Goes x)) h b y c =
        Going m (record { now = x; holding = h; block = t_on b x 0 h }) y m.s_holding c
    Does None h b y c = FailsSoon y m.s_holding c
    Does (Some last) h b y c =
        Quietly act_alone on_alone
        (λ y' c'. LastAlike last h (s_step y'.now y'.holding).last (s_step y'.now y'.holding).holding)
        (record { now = y; holding = m.s_holding }) c

  -- the source calls the function that the target calls
  abbrev pub CallsToo : Option NameBytes → Option NameBytes → Type 0
  CallsToo (Some f) (Some g) = f ≡ g
  CallsToo (Some f) None = ⊥
  CallsToo None g = Unit {0}

  -- the blocks and the called functions
  pub record FineAt (x : Position A) (y : Position B) : Type 0 where
    pub within : Within x.block y.block
    pub called : CallsToo (called_by (t_step x.now x.holding).last) (called_by (s_step y.now y.holding).last)

  -- the moment at which activations of these functions begin, after a call at which threads hold so much
  abbrev pub beginning : F → G → Past → Past → Holding → Holding → Moment F G
  beginning f g p q h k = record {
    t_function = f;
    s_function = g;
    serial = p.begun;
    t_past = one_begun r.target p;
    s_past = one_begun r.source q;
    t_holding = with_own r.target f p.begun h;
    s_holding = with_own r.source g q.begun k;
  }

  -- of the activations: one case for each step of the target
  pub record Passes : Type 0 where
    pub enters : (f : F) (g : G) → r.by.made f g → (p q : Past) (h k : Holding) → r.by.settled p h q k →
        (vs ws : List Value) → AllMatch vs ws →
        ReadyIf (beginning f g p q h k)
        (r.target.enter f p.begun vs) (first_price r.target.tariff r.target.blocks f)
        (r.source.enter g q.begun ws) (first_price r.source.tariff r.source.blocks g)
    pub fine : (f : F) (g : G) → r.by.made f g → (n : ℕ) (p q : Past) (x : Position A) (y : Position B) →
        r.by.match_states f g n x y → r.by.match_memory p x.holding q y.holding →
        FailsSoon y.now y.holding y.block ⊎ FineAt x y
    pub does : (m : Moment F G) → r.by.made m.t_function m.s_function → (x : A) (b : Block) (y : B) (c : Block) →
        r.by.match_states m.t_function m.s_function m.serial (record { now = x; holding = m.t_holding; block = b })
        (record { now = y; holding = m.s_holding; block = c }) →
        r.by.match_memory m.t_past m.t_holding m.s_past m.s_holding →
        Does m (t_step x m.t_holding).last (t_step x m.t_holding).holding b y c

  -- what the outside left are values that match, or none where the source has none
  abbrev pub MatchIf : Option (List Value) → Option (List Value) → Type 0
  MatchIf (Some vs) (Some ws) = AllMatch vs ws
  MatchIf None (Some ws) = ⊥
  MatchIf vs None = Unit {0}

  -- the holdings with what the outside brings
  abbrev pub brought_in : Past → Holding → Crossing → Crossed
  brought_in p h crossing = brought h.memory p.naming 0 crossing.objects

  -- with the share that comes
  abbrev pub received : Past → Holding → Crossing → Holding
  received p h crossing = record { share = crossing.share; memory = (brought_in p h crossing).memory }

  -- the frame condition composes, and holds of fewer activations
  pub record IsFrame : Type 0 where
    pub at_once : (n : ℕ) (h k : Holding) → r.by.frame n h k h k
    pub then_later : (n : ℕ) (h k h' k' h'' k'' : Holding) → r.by.frame n h k h' k' → r.by.frame n h' k' h'' k'' →
        r.by.frame n h k h'' k''
    pub fewer : (m n : ℕ) (h k h' k' : Holding) → m ≤ n → r.by.frame n h k h' k' → r.by.frame m h k h' k'

  -- what it says of threads that what they hold matches
  pub record IsMatch : Type 0 where
    pub first : r.by.settled no_past no_holding no_past no_holding
    pub matches : (p q : Past) (h k : Holding) → r.by.settled p h q k → r.by.match_memory p h q k
    pub begun : (p q : Past) (h k : Holding) → r.by.match_memory p h q k → p.begun ≡ q.begun
    pub shares : (p q : Past) (h k : Holding) → r.by.match_memory p h q k → h.share ≡ k.share

  -- the layer's own steps keep it: locks, and activations that begin and end
  pub record KeepsSteps : Type 0 where
    pub locks : (m : Moment F G) → r.by.match_memory m.t_past m.t_holding m.s_past m.s_holding →
        (lock : ℕ) (words : List ℕ) → AreGuarded r.setting.edge lock words →
        Stands m (with_share m.t_holding (with_lock m.t_holding.share lock words))
        (with_share m.s_holding (with_lock m.s_holding.share lock words))
    pub unlocks : (m : Moment F G) → r.by.match_memory m.t_past m.t_holding m.s_past m.s_holding → (lock : ℕ) →
        Stands m (with_share m.t_holding (without_lock m.t_holding.share lock))
        (with_share m.s_holding (without_lock m.s_holding.share lock))
    pub begins : (f : F) (g : G) → r.by.made f g → (p q : Past) (h k : Holding) → r.by.settled p h q k →
        Stands (later_moment (beginning f g p q h k) h k)
        (with_own r.target f p.begun h) (with_own r.source g q.begun k)
    pub ends : (m : Moment F G) → r.by.made m.t_function m.s_function →
        r.by.settled m.t_past m.t_holding m.s_past m.s_holding →
        Settles m (without_own r.target m.t_function m.serial m.t_holding)
        (without_own r.source m.s_function m.serial m.s_holding)

  -- what crosses, and what comes from the outside in kind
  pub record KeepsCrossings : Type 0 where
    pub shows : (p q : Past) (h k : Holding) → r.by.settled p h q k → (vs ws : List Value) → AllMatch vs ws →
        can_cross r.setting.layout q ws ≡ true → can_cross r.placed p vs ≡ true
    pub crosses : (p q : Past) (h k : Holding) → r.by.settled p h q k → (vs ws : List Value) → AllMatch vs ws →
        (names : Names) (ns : Naming) → named_as r.setting.layout ws q k names ≡ Some ns →
        (ms : Naming) × (named_as r.placed vs p h names ≡ Some ms)
        × r.by.settled (with_naming p ms) h (with_naming q ns) k
    pub receives : (n : ℕ) (p q : Past) (h k : Holding) → r.by.settled p h q k →
        (types : List Ty) (crossing : Crossing) →
        Brings r.setting.edge (objects_of k.memory q.naming) crossing →
        AreOfTypes crossing.objects types crossing.values →
        r.by.settled (with_naming p (brought_in p h crossing).naming) (received p h crossing)
        (with_naming q (brought_in q k crossing).naming) (received q k crossing)
        × r.by.frame n h k (received p h crossing) (received q k crossing)
        × MatchIf (all_taken (brought_in p h crossing).naming crossing.values)
        (all_taken (brought_in q k crossing).naming crossing.values)

  -- of what both threads hold: the layer keeps it matched
  pub record Keeps : Type 0 where
    pub names : (f : F) (g : G) → r.by.made f g → r.target.name f ≡ r.source.name g
    pub numbers : (w : ℕ) → IsOfKind w U32 → r.by.match_values (Number w) (Number w)
    pub is_frame : IsFrame
    pub is_match : IsMatch
    pub steps : KeepsSteps
    pub crossings : KeepsCrossings

  -- the constants are prices, and waiting costs no more than in the source
  pub record Pays : Type 0 where
    pub prices : IsTariff r.target.tariff
    pub waits : waiting_price r.target.tariff r.targets ≤ waiting_price r.source.tariff r.sources

  -- all that a pass shows where these functions run together
  pub record IsPass : Type 0 where
    pub keeps : Keeps
    pub pays : Pays
    pub passes : Passes

-- each of the target's functions is made of the source's in its place
abbrev pub AllMade : {F G : Type 0} → (F → G → Type 0) → List F → List G → Type 0
AllMade = Both

-- those of each unit among its declarations
abbrev pub UnitsMade : {F G : Type 0} → (List Decl → F → G → Type 0) → List (UnitOf F) → List (UnitOf G) → Type 0
UnitsMade {F = F} {G = G} made = Both (λ (t : UnitOf F) (s : UnitOf G). AllMade (made s.decls) t.funs s.funs)

-- among some declarations
abbrev pub MadeSo : {F G : Type 0} → (List Decl → F → G → Type 0) → F → G → Type 0
MadeSo made f g = (decls : List Decl) × made decls f g

-- a function of the target is made of one of the source, among declarations of its unit, which the edge has
pub record MadeAt {F G : Type 0} (edge : Edge) (made : List Decl → F → G → Type 0) (f : F) (g : G) : Type 0 where
  pub decls : List Decl
  pub declared : AreDeclared edge decls
  pub is_made : made decls f g

-- What a pass names: its two languages, what is made of a function among the declarations of its unit, where the
-- target's blocks lie, and what matches, for all functions that run together in a setting and are made of one another
-- so
pub record Matching (F A G B : Type 0) : Type 1 where
  pub target : Activations F A
  pub source : Activations G B
  pub made : List Decl → F → G → Type 0
  pub naming : List G → Layout → Layout
  pub matches : Setting → List F → List G → (F → G → Type 0) → Matches F A G B

-- the function is made of the other so, and both are found at one name among those that run together
pub record MadeOf {F A G B : Type 0} (m : Matching F A G B) (setting : Setting) (ts : List F) (ss : List G) (f : F)
    (g : G) : Type 0 where
  pub is_made : MadeAt setting.edge m.made f g
  pub name : NameBytes
  pub target_found : find m.target ts name ≡ Some f
  pub source_found : find m.source ss name ≡ Some g

-- the relation in a setting, where these functions run together
abbrev pub relation : {F A G B : Type 0} → Matching F A G B → Setting → List F → List G → Relation F A G B
relation m setting ts ss = record {
  target = m.target;
  source = m.source;
  setting = setting;
  placed = m.naming ss setting.layout;
  targets = ts;
  sources = ss;
  by = record (m.matches setting ts ss (MadeOf m setting ts ss)) { made = MadeOf m setting ts ss };
}

-- functions that run together, with these declarations of their unit or program, at an edge that has what is declared
pub record RunTogether {F A G B : Type 0} (m : Matching F A G B) (setting : Setting) (decls : List Decl) (ts : List F)
    (ss : List G) : Type 0 where
  pub all : AllMade (MadeAt setting.edge m.made) ts ss
  pub edge_is : IsEdge setting.edge
  pub known : AreKnown (language m.source) setting.edge decls ss
  pub laid_out : IsLayout (language m.source) ss setting.layout

-- what a pass shows: names stay, blocks are laid out, and what matches so is a pass wherever functions run together
pub record IsMatching {F A G B : Type 0} (m : Matching F A G B) : Type 0 where
  pub names : (decls : List Decl) (f : F) (g : G) → m.made decls f g → m.target.name f ≡ m.source.name g
  pub laid_out_too :
      (ts : List F) (ss : List G) → AllMade (MadeSo m.made) ts ss
      → LaidOutToo (language m.target) (language m.source) ts ss (m.naming ss)
  pub passes :
      (setting : Setting) (decls : List Decl) (ts : List F) (ss : List G) → RunTogether m setting decls ts ss
      → IsPass (relation m setting ts ss)
