-- The law that most passes stand on. Several steps of the target are one step of the source, or the source takes steps
-- alone before both go on. It is told over what both threads hold in memory: a value that the target has in a temporary
-- may be one that the source has in a block, and a step may store where the other doesn't.
--
--     t:   x ─── onward ───► · ─── at_last ───► x'          x ──────── one step ───────► x'
--          │                                    │           │                            │
--     match_states                        match_states   match_states             match_states
--          │                                    │           │                            │
--     s:   y ───────────── one step ──────────► y'          y ─── alone ───► · ── step ─► y'
use Rattle.std.specs.Prelude.{◌≡◌, ℕ, ◌+◌, ◌<◌, ◌≤◌, List, [], length, Option, Some, None, slice_set}
use Rattle.cas_runs.specs.Label.{NameBytes}
use Rattle.cas_runs.specs.Edge.{results_of}
use Rattle.cas_runs.specs.Naming.{Home, Value, Number, Memory, with_block}
use Rattle.cas_runs.specs.Refines.{Within}
use Rattle.cas_runs.specs.Bounds.{step_price, first_price}
use Rattle.cas_runs.specs.Access.{Accesses, Reads, Writes, Loads, Stores, Looks, Then, Fails, Holding, Doing}
use Rattle.cas_runs.specs.Access.{value_in, length_of, performed}
use Rattle.cas_runs.specs.Forms.{FootIn, ShareSelfSame}
use Rattle.cas_runs.specs.Calls.{Activations, Last, Goes, Takes, Gives, Puts, Calls, Tails, Returns, Past}
use Rattle.cas_runs.specs.Calls.{nothing_touched, fresh, set_blocks}
use Rattle.cas_runs.specs.Passing.{Position, Relation, AllMatch, OnlyPasses, s_step}

-- a block with a value at a place
abbrev pub set_in : Option (List Value) → (place : ℕ) → Value → Option (List Value)
set_in None place v = None
set_in (Some block) place v = Some (slice_set block place v)

abbrev pub stored_at : Memory → Home → (place : ℕ) → Value → Memory
stored_at m home place v = with_block m home (set_in (m home) place v)

-- the place is in the block, which is there
pub record HasRoom (m : Memory) (home : Home) (place : ℕ) : Type 0 where
  pub block : List Value
  pub there : m home ≡ Some block
  pub within : place < length block

-- the memory where an activation of the function begins: it has its own blocks too
abbrev pub with_blocks_of : {F A : Type 0} → Activations F A → F → (serial : ℕ) → Memory → Memory
with_blocks_of l f serial m = set_blocks (fresh l.first_word) m (l.name f) serial 0 (l.blocks f)

-- an activation of a function of the target that stands for one of a function of the source, under the same number
pub record Activation (F G : Type 0) : Type 0 where
  pub target : F
  pub source : G
  pub serial : ℕ

-- of two activations, with their memories
abbrev pub States : Type 0 → Type 0 → Type 0 → Type 0 → Type 1
States F A G B = Activation F G → A → Memory → B → Memory → Type 0

-- What such a pass names. The frame conditions say what others leave alone of either memory
pub record Held (F A G B : Type 0) : Type 1 where
  -- where both begin a step
  pub match_states : States F A G B
  -- the memories match, so that a call or a return may follow
  pub match_memory : Memory → Memory → Type 0
  -- what the activations with smaller numbers have for themselves in the target's memory is as it was
  pub target_frame : ℕ → Memory → Memory → Type 0
  -- and in the source's
  pub source_frame : ℕ → Memory → Memory → Type 0

module _ {F A G B : Type 0} (r : Relation F A G B) (w : Held F A G B) where
  abbrev pub MatchIf : Activation F G → Option A → Memory → Option B → Memory → Type 0
  MatchIf a (Some x) t (Some y) s = w.match_states a x t y s
  MatchIf a None t (Some y) s = ⊥
  MatchIf a x t None s = Unit {0}

  -- both go on so with the results of the call, in whatever memories match then and keep the frame conditions
  abbrev pub ResumeAlike :
      Activation F G → Memory → Memory → Option ℕ → (List Value → Option A) → (List Value → Option B) → Type 0
  ResumeAlike a t s results next next' =
      (us xs : List Value) → AllMatch r us xs → results ≡ Some (length xs)
      → (t' s' : Memory) → w.target_frame (a.serial + 1) t t' → w.source_frame (a.serial + 1) s s'
      → w.match_memory t' s'
      → MatchIf a (next us) t' (next' xs) s'

  -- both do the same at last
  pub data LastHeld (a : Activation F G) (t s : Memory) : Last A → Last B → Type 0 where
    goes_held : {x : A} {y : B} → w.match_states a x t y s → LastHeld a t s (Goes x) (Goes y)
    takes_held :
        {lock : NameBytes} {x : A} {y : B}
        → w.match_states a x t y s
        → LastHeld a t s (Takes lock x) (Takes lock y)
    gives_held :
        {lock : NameBytes} {x : A} {y : B}
        → w.match_states a x t y s
        → LastHeld a t s (Gives lock x) (Gives lock y)
    puts_held : {word : ℕ} {x : A} {y : B} → w.match_states a x t y s → LastHeld a t s (Puts word x) (Puts word y)
    calls_held :
        {f : NameBytes} {vs ws : List Value} {next : List Value → Option A} {next' : List Value → Option B}
        → AllMatch r vs ws
        → w.match_memory t s
        → ResumeAlike a t s (results_of r.setting.edge f) next next'
        → LastHeld a t s (Calls f vs next) (Calls f ws next')
    tails_held :
        {f : NameBytes} {vs ws : List Value}
        → AllMatch r vs ws
        → w.match_memory t s
        → LastHeld a t s (Tails f vs) (Tails f ws)
    -- a call of the source whose result is only passed on
    passing_held :
        {f : NameBytes} {vs ws : List Value} {next' : List Value → Option B}
        → AllMatch r vs ws
        → r.target.blocks a.target ≡ []
        → w.match_memory t s
        → OnlyPasses r a.source (results_of r.setting.edge f) next'
        → LastHeld a t s (Tails f vs) (Calls f ws next')
    returns_held :
        {vs ws : List Value}
        → AllMatch r vs ws
        → w.match_memory t s
        → LastHeld a t s (Returns vs) (Returns ws)

  abbrev TForm : Type 0
  TForm = Accesses (Last A)

  abbrev SForm : Type 0
  SForm = Accesses (Last B)

  -- With these memories the target's form, with the steps that follow it, amounts to the source's form: it does the
  -- same. Those steps cost at most the credit
  pub data Amounts (a : Activation F G) : (credit : ℕ) → (t s : Memory) → TForm → SForm → Type 0 where
    both_read :
        {credit : ℕ} {t s : Memory} {global : NameBytes} {offset : ℕ} {next : ℕ → TForm} {next' : ℕ → SForm}
        → ((v : ℕ) → r.by.match_values (Number v) (Number v) → Amounts a credit t s (next v) (next' v))
        → Amounts a credit t s (Reads global offset next) (Reads global offset next')
    source_reads :
        {credit : ℕ} {t s : Memory} {global : NameBytes} {offset : ℕ} {x : TForm} {next' : ℕ → SForm}
        → ((v : ℕ) → r.by.match_values (Number v) (Number v) → Amounts a credit t s x (next' v))
        → Amounts a credit t s x (Reads global offset next')
    -- no step of the target follows a write: the credit is gone
    both_write :
        {credit : ℕ} {t s : Memory} {global : NameBytes} {offset word : ℕ} {next : TForm} {next' : SForm}
        → r.by.match_values (Number word) (Number word)
        → Amounts a 0 t s next next'
        → Amounts a credit t s (Writes global offset word next) (Writes global offset word next')
    -- the target finds this value where the source finds that
    both_load :
        {credit : ℕ} {t s : Memory} {home home' : Home} {at at' : ℕ} {next : Value → TForm} {next' : Value → SForm}
        (v : Value → Value)
        → ((x : Value) → value_in (s home') at' ≡ Some x → value_in (t home) at ≡ Some (v x))
        → ((x : Value) → value_in (s home') at' ≡ Some x → Amounts a credit t s (next (v x)) (next' x))
        → Amounts a credit t s (Loads home at next) (Loads home' at' next')
    source_loads :
        {credit : ℕ} {t s : Memory} {home : Home} {at : ℕ} {x : TForm} {next' : Value → SForm}
        → ((v : Value) → value_in (s home) at ≡ Some v → Amounts a credit t s x (next' v))
        → Amounts a credit t s x (Loads home at next')
    target_loads :
        {credit : ℕ} {t s : Memory} {home : Home} {at : ℕ} {next : Value → TForm} {y : SForm} (v : Value)
        → value_in (t home) at ≡ Some v
        → Amounts a credit t s (next v) y
        → Amounts a credit t s (Loads home at next) y
    source_looks :
        {credit : ℕ} {t s : Memory} {home : Home} {x : TForm} {next' : Option ℕ → SForm}
        → Amounts a credit t s x (next' (length_of (s home)))
        → Amounts a credit t s x (Looks home next')
    target_looks :
        {credit : ℕ} {t s : Memory} {home : Home} {next : Option ℕ → TForm} {y : SForm}
        → Amounts a credit t s (next (length_of (t home))) y
        → Amounts a credit t s (Looks home next) y
    both_store :
        {credit : ℕ} {t s : Memory} {home home' : Home} {at at' : ℕ} {v v' : Value} {next : TForm} {next' : SForm}
        → (HasRoom s home' at' → HasRoom t home at)
        → w.target_frame a.serial t (stored_at t home at v)
        → w.source_frame a.serial s (stored_at s home' at' v')
        → (HasRoom s home' at' → Amounts a credit (stored_at t home at v) (stored_at s home' at' v') next next')
        → Amounts a credit t s (Stores home at v next) (Stores home' at' v' next')
    source_stores :
        {credit : ℕ} {t s : Memory} {home : Home} {at : ℕ} {v : Value} {x : TForm} {next' : SForm}
        → w.source_frame a.serial s (stored_at s home at v)
        → (HasRoom s home at → Amounts a credit t (stored_at s home at v) x next')
        → Amounts a credit t s x (Stores home at v next')
    target_stores :
        {credit : ℕ} {t s : Memory} {home : Home} {at : ℕ} {v : Value} {next : TForm} {y : SForm}
        → HasRoom t home at
        → w.target_frame a.serial t (stored_at t home at v)
        → Amounts a credit (stored_at t home at v) s next y
        → Amounts a credit t s (Stores home at v next) y
    -- one step more of the target
    onward :
        {credit : ℕ} {t s : Memory} {y : SForm} (x : A) (rest : ℕ)
        → step_price r.target.tariff r.targets x + rest ≤ credit
        → Amounts a rest t s (r.target.form x) y
        → Amounts a credit t s (Then (Goes x)) y
    at_last :
        {credit : ℕ} {t s : Memory} {l : Last A} {m : Last B}
        → LastHeld a t s l m
        → Amounts a credit t s (Then l) (Then m)
    -- where the source goes wrong nothing is asked of the target
    fails_too : {credit : ℕ} {t s : Memory} {x : TForm} → Amounts a credit t s x Fails

  mutual
    -- where the target begins a step the source may first take steps of its own, and then both go on
    pub data Leads (a : Activation F G) (x : A) (t : Memory) : B → Memory → Type 0 where
      meets_there :
          {y : B} {s : Memory} (credit : ℕ)
          → step_price r.target.tariff r.targets x + credit ≤ step_price r.source.tariff r.sources y
          → Amounts a credit t s (r.target.form x) (r.source.form y)
          → Leads a x t y s
      steps_alone : {y : B} {s : Memory} → Alone a x t s (r.source.form y) → Leads a x t y s

    -- what the source does alone
    pub data Alone (a : Activation F G) (x : A) (t : Memory) : Memory → SForm → Type 0 where
      reads_alone :
          {s : Memory} {global : NameBytes} {offset : ℕ} {next : ℕ → SForm}
          → ((v : ℕ) → r.by.match_values (Number v) (Number v) → Alone a x t s (next v))
          → Alone a x t s (Reads global offset next)
      loads_alone :
          {s : Memory} {home : Home} {at : ℕ} {next : Value → SForm}
          → ((v : Value) → value_in (s home) at ≡ Some v → Alone a x t s (next v))
          → Alone a x t s (Loads home at next)
      looks_alone :
          {s : Memory} {home : Home} {next : Option ℕ → SForm}
          → Alone a x t s (next (length_of (s home)))
          → Alone a x t s (Looks home next)
      stores_alone :
          {s : Memory} {home : Home} {at : ℕ} {v : Value} {next : SForm}
          → w.source_frame a.serial s (stored_at s home at v)
          → (HasRoom s home at → Alone a x t (stored_at s home at v) next)
          → Alone a x t s (Stores home at v next)
      goes_alone : {s : Memory} {y : B} → Leads a x t y s → Alone a x t s (Then (Goes y))
      fails_alone : {s : Memory} → Alone a x t s Fails

  -- what the first steps of activations cost in addition
  abbrev pub first_of_target : Activation F G → ℕ
  first_of_target a = first_price r.target.tariff r.target.blocks a.target

  abbrev pub first_of_source : Activation F G → ℕ
  first_of_source a = first_price r.source.tariff r.source.blocks a.source

  -- where activations begin, the first step pays for the entry: together where both begin a step at once, or each for
  -- its own where the source goes on alone first
  pub data Begin (a : Activation F G) (x : A) (t : Memory) (y : B) (s : Memory) : Type 0 where
    begins_at_once :
        (credit : ℕ)
        → step_price r.target.tariff r.targets x + first_of_target a + credit
        ≤ step_price r.source.tariff r.sources y + first_of_source a
        → Amounts a credit t s (r.target.form x) (r.source.form y)
        → Begin a x t y s
    begins_later : first_of_target a ≤ first_of_source a → Leads a x t y s → Begin a x t y s

  abbrev pub BeginIf : Activation F G → Option A → Memory → Option B → Memory → Type 0
  BeginIf a (Some x) t (Some y) s = Begin a x t y s
  BeginIf a None t (Some y) s = ⊥
  BeginIf a x t None s = Unit {0}

  -- what such a pass shows
  pub record Steps : Type 0 where
    pub forms :
        (a : Activation F G) → r.by.made a.target a.source
        → (x : A) (t : Memory) (y : B) (s : Memory) → w.match_states a x t y s
        → Leads a x t y s
    pub enters :
        (a : Activation F G) → r.by.made a.target a.source
        → (t s : Memory) → w.match_memory t s
        → (vs ws : List Value) → AllMatch r vs ws
        → BeginIf a (r.target.enter a.target a.serial vs) (with_blocks_of r.target a.target a.serial t)
        (r.source.enter a.source a.serial ws) (with_blocks_of r.source a.source a.serial s)

  -- The relation that `Held` makes of a relation.

  -- how far a step of the source has been done
  pub record SoFar (y : B) (k : Holding) : Type 0 where
    pub left : SForm
    pub done : Doing
    pub so_far :
        performed r.setting.edge (r.source.form y) (record { holding = k; footprint = nothing_touched })
        ≡ performed r.setting.edge left done
    pub share : done.holding.share ≡ k.share

  -- where the target stands within a step of the source
  pub record Midway (f : F) (g : G) (n : ℕ) (x : Position A) (y : Position B) : Type 0 where
    pub at : SoFar y.now y.holding
    pub credit : ℕ
    pub frame : w.source_frame n y.holding.memory at.done.holding.memory
    pub leads :
        Amounts (record { target = f; source = g; serial = n }) credit x.holding.memory at.done.holding.memory
        (r.target.form x.now) at.left
    pub price : x.block.price + credit ≤ y.block.price
    pub within : Within x.block y.block
    pub touches :
        FootIn (s_step r y.now y.holding).footprint (record { reads = y.block.reads; writes = y.block.writes })

-- a frame condition
pub record IsFrame (frame : ℕ → Memory → Memory → Type 0) : Type 0 where
  pub itself : (n : ℕ) (m : Memory) → frame n m m
  pub then : (n : ℕ) (m m' m'' : Memory) → frame n m m' → frame n m' m'' → frame n m m''

-- what threads hold matches where shares are equal, whatever is in memory, and is settled where memories match
pub record HoldsBy {F A G B : Type 0} (r : Relation F A G B) (w : Held F A G B) : Type 0 where
  pub words : (p q : Past) (h k : Holding) → r.by.match_memory p h q k → ShareSelfSame r.by.match_values k.share
  pub again :
      (p q : Past) (h k h' k' : Holding) → r.by.match_memory p h q k
      → h'.share ≡ k'.share → ShareSelfSame r.by.match_values k'.share → r.by.match_memory p h' q k'
  pub settles :
      (p q : Past) (h k : Holding) → r.by.match_memory p h q k → w.match_memory h.memory k.memory → r.by.settled p h q k
  pub memories : (p q : Past) (h k : Holding) → r.by.settled p h q k → w.match_memory h.memory k.memory
  pub frame :
      (n : ℕ) (h k h' k' : Holding) → w.target_frame n h.memory h'.memory → w.source_frame n k.memory k'.memory
      → r.by.frame n h k h' k'
  pub frames :
      (n : ℕ) (h k h' k' : Holding) → r.by.frame n h k h' k'
      → w.target_frame n h.memory h'.memory × w.source_frame n k.memory k'.memory
  pub conditions : IsFrame w.target_frame × IsFrame w.source_frame
