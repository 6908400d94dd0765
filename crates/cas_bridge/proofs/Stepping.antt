-- Each step of a thread of a whole program is that of its activation in the layer of calls.
use Rattle.std.proofs.Common.{◌≡◌, ℕ, zero, suc, ◌+◌, ◌<◌, List, [], ◌∷◌, ◌⊎◌, inl, inr, ⊎_elim, Option, Some, None, Bool, true, false, if◌then◌else◌, length, slice_get, slice_set, nat_lt, refl, sym, ap, ◌∙◌, subst, lt-ltb, arith}
use Rattle.std.specs.Prelude.{map}
use Rattle.std.proofs.lemmas.Bool.Decides.{nat_tests}
use Rattle.std.specs.Prelude.{Contains}
use Rattle.std.proofs.lemmas.List.Elements.{Contains-append_left, Contains-append_right, Contains-push}
use Rattle.cas_step.proofs.Footprints.{reads_of}
use Rattle.cas_step.proofs.Steps.{StepSo, step_reads}
use Rattle.cas_base.specs.declared.act.Act.TheVariants as act
use Rattle.cas_base.specs.declared.decl.Decl.{Decl}
use Rattle.cas_base.specs.declared.kind.Ty.{Ty}
use Rattle.cas_typed.specs.declared.tree.Destination.{Destination}
use Rattle.cas_step.specs.Asks as asks
use Rattle.cas_step.specs.Answered.{Got, got, bad, got_stuck, value_at}
use Rattle.cas_step.specs.Env as env
use Rattle.cas_step.specs.Env.{Env, Entity, length_of}
use Rattle.cas_step.specs.Continuation as items
use Rattle.cas_step.specs.Continuation.{ContItem, Effect, effect_of}
use Rattle.cas_step.specs.Step as step
use Rattle.cas_step.specs.Step.{StepContext, Step, cells_at, entity_in, memory_with, step_with_effect, store_step, global_step, lock_step, call_step}
use Rattle.cas_runs.specs.Edge.{Stretch, Cell, LockWord, SharedWord, TableWord}
use Rattle.cas_runs.specs.Naming.{Home, Value, Number, Pointer, Memory}
use Rattle.cas_runs.specs.Access.{Stores, Writes, Then, Holding, words_in, place_among, Doing as Done, Performed, performs, failed, has_written, has_stored, stores_in, under, writes_in, writes_cell, number_in, writes_word, performed, with_value}
use Rattle.cas_runs.specs.Unit.{Setting, guard_of, lock_number, lock_at}
use Rattle.cas_runs.specs.Calls.{Last, Goes, Takes, Gives, Calls, nothing_touched, step_at}
use Rattle.cas_clight.specs.Clight as clight
use Rattle.cas_clight.specs.Clight.{ClightFun, ClightState, at, does, effect_at, result_of, decoded, encoded, keeps_pointer}
use Rattle.cas_bridge.specs.Alike.{IsBelow, numbers, nulls, pointers, continues, stores, writes, calls, returns, locks, unlocks, prints}
use Rattle.cas_bridge.specs.Matching.{IsPlain, AnySize, home_of, points, ObjectsMatch, AllValuesMatch, ValuesMatch, QueriesMatch, EffectsMatch, CellMatches, CellsMatch, BlocksMatch, ItemMatches, HasGuard, IsTableWord}
use Rattle.cas_bridge.specs.Steps.{FitsCell, StoreFits, next_effect, with_passed, Bridge, Touched, footprint_of, MatchStates, StepsMatch, goes, puts, takes, gives, is_bad, is_stuck, touches, no_lock, StepsAgree}
use Rattle.cas_bridge.specs.Steps as ag
use Rattle.cas_runs.proofs.Fronting.{so}
use Rattle.cas_bridge.proofs.Evaluating.{effect_same}
use Rattle.cas_bridge.proofs.Running.{HasRead, Ran, ran, ran_bad, ran_stuck, not_held, run_alike}
use Rattle.cas_bridge.proofs.Storing.{same_alike, passed_stored, stored_same, written_words, written_under}

-- what is at a place, or nothing is there
there_or : {A : Type 0} (xs : List A) (i : ℕ) → ((x : A) × (slice_get xs i ≡ Some x) × (i < length xs))
    ⊎ ((slice_get xs i ≡ None) × (nat_lt i (length xs) ≡ false))
there_or [] i = inr (refl, grind (arith, nat_tests))
there_or (x ∷ xs) zero = inl (x, refl, omega arith)
there_or (x ∷ xs) (suc i) = ⊎_elim (λ h. let le = h.2 in inl (h.0, h.1, omega (arith, le)))
    (λ h. let le = h.1 in inr (h.0, grind (arith, nat_tests, le))) (there_or xs i)

-- a value that may stand in a cell
pub fit_cell : (owner : ℕ → ClightFun) (b : Bool) (v : asks.Value step.Object) (v' : asks.Value clight.Object) →
    FitsCell b v → ValuesMatch owner v v' → CellMatches owner b v (encoded v')
fit_cell owner b v v' fit (numbers n) = by b fit
  where
    by : (b : Bool) → FitsCell b (asks.word n) → CellMatches owner b (asks.word n) (Number n)
    by false f = (asks.word n, refl, numbers n)
    by true f = absurd f
fit_cell owner b v v' fit nulls = by b fit
  where
    by : (b : Bool) → FitsCell b asks.null → CellMatches owner b asks.null (Number 0)
    by false f = absurd f
    by true f = (asks.null, refl, nulls)
fit_cell owner b v v' fit (pointers {o = o} {o' = o'} p same flag) = by b fit
  where
    by : (b : Bool) → FitsCell b (asks.pointer o p) → CellMatches owner b (asks.pointer o p) (Pointer o'.home p)
    by false f = absurd f
    by true f = (
      asks.pointer (record { home = o'.home; has_pointer = false }) p,
      refl,
      pointers p
          (record { home = same.home; points = sym flag ∙ same.points }) refl,
    )

module _ (bridge : Bridge) (h : StepContext) (y : ClightState) (k : Holding) (meet : MatchStates bridge h y k) where
  abbrev e : Env
  e = bridge.env

  abbrev setting : Setting
  setting = bridge.setting

  abbrev owner : ℕ → ClightFun
  owner = bridge.owner

  abbrev C : List Cell
  C = setting.edge.cells

  abbrev F : ClightFun
  F = y.function

  abbrev M : Memory
  M = with_passed y.function y.serial k.memory y.passed

  abbrev At : List ℕ → Done
  At rs = so k.share M (footprint_of rs [])

  abbrev Goal : Option Step → Performed (Last ClightState) → Type 0
  Goal o p = StepsMatch bridge h y k o p

  -- a store into an object
  store_agrees : (rs : List ℕ) (o : step.Object) (o' : clight.Object) → ObjectsMatch owner o o' →
      (i : ℕ) (v : asks.Value step.Object) (v' : asks.Value clight.Object) → ValuesMatch owner v v' →
      FitsCell (points owner o) v → (cont : List ContItem) →
      Goal (store_step e h rs (value_at (cells_at h.config.memory o) i) o i v cont)
      (performed setting.edge (Stores o'.home i (encoded v') (Then (Goes (at F y.serial [] cont)))) (At rs))
  store_agrees rs o o' same i v v' s fit cont =
      subst (λ (w : Home). Goal (store_step e h rs (value_at (cells_at h.config.memory o) i) o i v cont)
      (stores_in (M w) w i (encoded v') (At rs) (λ d. performs (Goes (at F y.serial [] cont)) d))) (sym same.home)
      (by (cells_at h.config.memory o) (M (home_of owner o)) refl refl (meet.memory o))
    where
      in_range : (vs : List (asks.Value step.Object)) (xs : List Value) → cells_at h.config.memory o ≡ Some vs →
          M (home_of owner o) ≡ Some xs → length vs ≡ length xs →
          ((x : asks.Value step.Object) × (slice_get vs i ≡ Some x) × (i < length vs))
          ⊎ ((slice_get vs i ≡ None) × (nat_lt i (length vs) ≡ false)) →
          Goal (store_step e h rs (slice_get vs i) o i v cont)
          (if nat_lt i (length xs) then performs (Goes (at F y.serial [] cont))
          (has_stored (At rs) (home_of owner o) (slice_set xs i (encoded v'))) else failed (At rs))
      in_range vs xs is there sizes (inl x) =
          subst (λ (t : Bool). Goal (store_step e h rs (slice_get vs i) o i v cont)
          (if t then performs (Goes (at F y.serial [] cont))
          (has_stored (At rs) (home_of owner o) (slice_set xs i (encoded v'))) else failed (At rs)))
          (sym (lt-ltb i (length xs) (subst (λ n. i < n) sizes x.2)))
          (subst (λ (held : Option (asks.Value step.Object)). Goal (store_step e h rs held o i v cont)
          (performs (Goes (at F y.serial [] cont))
          (has_stored (At rs) (home_of owner o) (slice_set xs i (encoded v'))))) (sym x.1)
          (goes _ _
          (record {
            cont = cont;
            memory = memory_with h.config.memory o i v;
            next = refl;
            holds =
                record {
                  memory = stored_same owner h.config.memory M meet.memory o vs xs is there i v (encoded v')
                      (fit_cell owner (points owner o) v v' fit s);
                  words = meet.words;
                };
            footprint = refl;
            under = λ w. inl refl;
          }) refl refl))
      in_range vs xs is there sizes (inr x) =
          subst (λ (held : Option (asks.Value step.Object)). Goal (store_step e h rs held o i v cont)
          (if nat_lt i (length xs) then performs (Goes (at F y.serial [] cont))
          (has_stored (At rs) (home_of owner o) (slice_set xs i (encoded v'))) else failed (At rs))) (sym x.0)
          (subst (λ (t : Bool). Goal None (if t then performs (Goes (at F y.serial [] cont))
          (has_stored (At rs) (home_of owner o) (slice_set xs i (encoded v'))) else failed (At rs)))
          (sym (ap (λ n. nat_lt i n) (sym sizes) ∙ x.1)) (is_stuck _ refl))

      lengths : (b : Bool) (vs : List (asks.Value step.Object)) (xs : List Value) → CellsMatch owner b vs xs →
          length vs ≡ length xs
      lengths b [] [] h = refl
      lengths b [] (x ∷ xs) h = absurd h
      lengths b (u ∷ vs) [] h = absurd h
      lengths b (u ∷ vs) (x ∷ xs) h = ap suc (lengths b vs xs h.1)

      by : (a : Option (List (asks.Value step.Object))) (b : Option (List Value)) → cells_at h.config.memory o ≡ a →
          M (home_of owner o) ≡ b → BlocksMatch owner (points owner o) (cells_at h.config.memory o)
          (M (home_of owner o)) → Goal (store_step e h rs (value_at (cells_at h.config.memory o) i) o i v cont)
          (stores_in (M (home_of owner o)) (home_of owner o) i (encoded v') (At rs)
          (λ d. performs (Goes (at F y.serial [] cont)) d))
      by None b is there block =
          subst (λ a. Goal (store_step e h rs (value_at a i) o i v cont)
          (stores_in (M (home_of owner o)) (home_of owner o) i (encoded v') (At rs)
          (λ d. performs (Goes (at F y.serial [] cont)) d))) (sym is)
          (no_block (M (home_of owner o)) (subst (λ a. BlocksMatch owner (points owner o) a (M (home_of owner o)))
          is block))
        where
          no_block : (b : Option (List Value)) → BlocksMatch owner (points owner o) None b →
              Goal None (stores_in b (home_of owner o) i (encoded v') (At rs)
              (λ d. performs (Goes (at F y.serial [] cont)) d))
          no_block None block = is_stuck _ refl
          no_block (Some xs) block = absurd block
      by (Some vs) None is there block =
          absurd (subst (λ a. BlocksMatch owner (points owner o) a None) is
          (subst (λ b. BlocksMatch owner (points owner o) (cells_at h.config.memory o) b) there block))
      by (Some vs) (Some xs) is there block =
          let cells : CellsMatch owner (points owner o) vs xs =
          subst (λ a. BlocksMatch owner (points owner o) a (Some xs)) is
          (subst (λ b. BlocksMatch owner (points owner o) (cells_at h.config.memory o) b) there block) in
          subst (λ a. Goal (store_step e h rs (value_at a i) o i v cont)
          (stores_in (M (home_of owner o)) (home_of owner o) i (encoded v') (At rs)
          (λ d. performs (Goes (at F y.serial [] cont)) d))) (sym is)
          (subst (λ b. Goal (store_step e h rs (slice_get vs i) o i v cont)
          (stores_in b (home_of owner o) i (encoded v') (At rs) (λ d. performs (Goes (at F y.serial [] cont)) d)))
          (sym there)
          (in_range vs xs is there (lengths (points owner o) vs xs cells) (there_or vs i)))

  -- what has read a word touches it, and so does what writes it
  read_touched : (o : Got (Effect step.Object)) (n : ℕ) → StepSo (λ s. s.reads ≡ reads_of o) (step_with_effect e h o) →
      HasRead owner setting.edge h.words k.share M (cells_at h.config.memory) (entity_in e h) F.decls meet.items
      meet.words meet.memory o n →
      Touched (step_with_effect e h o) n
  read_touched (got_stuck rs) n same read = tt
  read_touched (bad rs why) n same read = Contains-append_left rs [] n read
  read_touched (got rs d) n same read = by (step_with_effect e h (got rs d)) same
    where
      by : (o : Option Step) → StepSo (λ s. s.reads ≡ rs) o → Touched o n
      by None same = tt
      by (Some s) same = Contains-append_left s.reads s.writes n (subst (λ r. Contains r n) (sym same) read)

  word_touched : (rs : List ℕ) (o : Option ℕ) (n value : ℕ) (cont : List ContItem) →
      Touched (step.word_step e h rs o n value cont) n
  word_touched rs None n value cont = tt
  word_touched rs (Some v) n value cont = Contains-append_right rs (n ∷ []) n (Contains-push [] n)

  -- a write to a word
  abbrev Written : ℕ → ℕ → List ContItem → List ℕ → Option Cell → Performed (Last ClightState)
  Written n value cont rs c = writes_cell C c n value (At rs) (λ d. performs (Goes (at F y.serial [] cont)) d)

  cell_written : (rs : List ℕ) (n value : ℕ) (cont : List ContItem) (guard : Option ℕ) (c : Cell) →
      slice_get C n ≡ Some c → HasGuard guard c → Goal (step.word_step e h rs (slice_get h.words n) n value cont)
      (Written n value cont rs (Some c))
  cell_written rs n value cont guard LockWord is s = absurd s
  cell_written rs n value cont guard (TableWord v) is s = absurd s
  cell_written rs n value cont guard (SharedWord kind None initial) is s =
      touches n _ _ (None, SharedWord kind None initial, is, refl, tt)
      (word_touched rs (slice_get h.words n) n value cont) refl
  cell_written rs n value cont guard (SharedWord kind (Some lock) initial) is s = by (words_in k.share lock) refl
    where
      in_words : (ws : List ℕ) → words_in k.share lock ≡ Some ws →
          ((x : ℕ) × (slice_get ws (place_among C lock n) ≡ Some x) × (place_among C lock n < length ws))
          ⊎ ((slice_get ws (place_among C lock n) ≡ None) × (nat_lt (place_among C lock n) (length ws) ≡ false)) →
          Goal (step.word_step e h rs (slice_get h.words n) n value cont)
          (writes_in (Some ws) (under C lock n) value (At rs)
          (λ d. performs (Goes (at F y.serial [] cont)) d))
      in_words ws held (inl x) =
          let there : slice_get h.words n ≡ Some x.0 = sym (meet.words.held lock ws held n initial kind is) ∙ x.1 in
          subst (λ (t : Bool). Goal (step.word_step e h rs (slice_get h.words n) n value cont)
          (if t then performs (Goes (at F y.serial [] cont))
          (has_written (At rs) n lock (slice_set ws (place_among C lock n) value)) else failed (At rs)))
          (sym (lt-ltb (place_among C lock n) (length ws) x.2))
          (subst (λ o. Goal (step.word_step e h rs o n value cont)
          (performs (Goes (at F y.serial [] cont))
          (has_written (At rs) n lock (slice_set ws (place_among C lock n) value)))) (sym there)
          (goes _ _
          (record {
            cont = cont;
            memory = h.config.memory;
            next = refl;
            holds =
                record {
                  memory = meet.memory;
                  words = written_words C k.share h.words meet.words lock ws held n kind
                      initial is x.2 (within h.words n x.0 there) value;
                };
            footprint = refl;
            under = written_under C k.share h.words n value lock ws kind initial is held;
          }) refl refl))
        where
          within : (xs : List ℕ) (i x : ℕ) → slice_get xs i ≡ Some x → i < length xs
          within [] i x j = absurd (cc j)
          within (z ∷ xs) zero x j = omega arith
          within (z ∷ xs) (suc i) x j = let le = within xs i x j in omega (arith, le)
      in_words ws held (inr x) =
          let there : slice_get h.words n ≡ None = sym (meet.words.held lock ws held n initial kind is) ∙ x.0 in
          subst (λ (t : Bool). Goal (step.word_step e h rs (slice_get h.words n) n value cont)
          (if t then performs (Goes (at F y.serial [] cont))
          (has_written (At rs) n lock (slice_set ws (place_among C lock n) value)) else failed (At rs))) (sym x.1)
          (subst (λ o. Goal (step.word_step e h rs o n value cont) (failed (At rs))) (sym there) (is_stuck _ refl))

      by : (o : Option (List ℕ)) → words_in k.share lock ≡ o →
          Goal (step.word_step e h rs (slice_get h.words n) n value cont)
          (writes_in o (under C lock n) value (At rs) (λ d. performs (Goes (at F y.serial [] cont)) d))
      by None held =
          touches n _ _ (Some lock, SharedWord kind (Some lock) initial, is, refl, held)
          (word_touched rs (slice_get h.words n) n value cont) refl
      by (Some ws) held = in_words ws held (there_or ws (place_among C lock n))

  item_written : (rs : List ℕ) (i value : ℕ) (cont : List ContItem) (o : Option Entity) (od : Option Decl) →
      ItemMatches setting.edge o od → IsBelow (length_of o) i →
      Goal (global_step e h rs o i value cont)
      (performed setting.edge
      (with_value od (λ (d : Decl). Writes d.name i value (Then (Goes (at F y.serial [] cont))))) (At rs))
  item_written rs i value cont None od is below = absurd below
  item_written rs i value cont (Some (env.function f)) od is below = absurd below
  item_written rs i value cont (Some env.outside) od is below = absurd below
  item_written rs i value cont (Some (env.lock n)) od is below = absurd below
  item_written rs i value cont (Some (env.shared first n guard)) None is below = absurd is
  item_written rs i value cont (Some (env.table first n)) None is below = absurd is
  item_written rs i value cont (Some (env.shared first n guard)) (Some d) is below =
      let c = is.1 i below in
      subst (λ (s : Option Stretch). Goal (step.word_step e h rs (slice_get h.words (first + i)) (first + i) value cont)
      (writes_word C (number_in s i) value (At rs) (λ d. performs (Goes (at F y.serial [] cont)) d))) (sym is.0)
      (subst (λ (b : Bool). Goal (step.word_step e h rs (slice_get h.words (first + i)) (first + i) value cont)
      (writes_word C (if b then Some (first + i) else None) value (At rs)
      (λ d. performs (Goes (at F y.serial [] cont)) d))) (sym (lt-ltb i n below))
      (subst (λ x. Goal (step.word_step e h rs (slice_get h.words (first + i)) (first + i) value cont)
      (Written (first + i) value cont rs x)) (sym c.1) (cell_written rs (first + i) value cont guard c.0 c.1 c.2)))
  item_written rs i value cont (Some (env.table first n)) (Some d) is below =
      let c = is.1 i below in
      subst (λ (s : Option Stretch). Goal None (writes_word C (number_in s i) value (At rs)
      (λ d. performs (Goes (at F y.serial [] cont)) d))) (sym is.0)
      (subst (λ (b : Bool). Goal None (writes_word C (if b then Some (first + i) else None) value (At rs)
      (λ d. performs (Goes (at F y.serial [] cont)) d))) (sym (lt-ltb i n below))
      (subst (λ x. Goal None (Written (first + i) value cont rs x)) (sym c.1) (by c.0 c.2)))
    where
      by : (c : Cell) → IsTableWord c → Goal None (Written (first + i) value cont rs (Some c))
      by LockWord s = absurd s
      by (SharedWord kind g initial) s = absurd s
      by (TableWord v) s = is_stuck _ refl

  -- calls

  call_agrees : (rs : List ℕ) (g : ℕ) (vs : List (asks.Value step.Object)) (vs' : List (asks.Value clight.Object)) →
      AllValuesMatch owner vs vs' → (target : Option Destination) (cont : List ContItem) (od : Option Decl) →
      next_effect e h ≡ got rs (items.calls g vs target cont) →
      slice_get F.decls g ≡ od → Goal (call_step e h rs (entity_in e h g) vs target cont)
      (performed setting.edge
      (with_value od (λ (d : Decl). Then (Calls d.name (map encoded vs') (clight.resumed F y.serial cont target))))
      (At rs))
  call_agrees rs g vs vs' same target cont (Some d) next is = ag.calls _ _ (record {
    call = record { reads = rs; item = g; decl = d; arguments = vs; passed = vs'; target = target; cont = cont };
    effect = next;
    declared = is;
    arguments = same;
    last = refl;
    holds =
        (record { memory = meet.memory; words = meet.words }, refl);
  })
  call_agrees rs g vs vs' same target cont None next is = by (entity_in e h g)
      (subst (λ od. ItemMatches setting.edge (entity_in e h g) od) is (meet.items g))
    where
      by : (o : Option Entity) → ItemMatches setting.edge o None →
          Goal (call_step e h rs o vs target cont) (failed (At rs))
      by None s = is_stuck _ refl
      by (Some (env.shared first n guard)) s = absurd s
      by (Some (env.table first n)) s = absurd s
      by (Some (env.lock n)) s = absurd s
      by (Some (env.function f)) s = absurd s
      by (Some env.outside) s = absurd s

  -- locks

  lock_named : (d : Decl) (n : ℕ) → ItemMatches setting.edge (Some (env.lock n)) (Some d) →
      guard_of setting.edge d.name ≡ Some n
  lock_named d n is = ap (λ s. lock_number C s) is.0 ∙ ap (λ c. lock_at c n) is.1

  lock_agrees : (rs : List ℕ) (g : ℕ) (cont : List ContItem) (o : Option Entity) (od : Option Decl) →
      ItemMatches setting.edge o od → Goal (lock_step e h rs o act.Lock cont)
      (performed setting.edge (with_value od (λ (d : Decl). Then (Takes d.name (at F y.serial [] cont)))) (At rs))
  lock_agrees rs g cont None od is = no_lock _
  lock_agrees rs g cont (Some (env.function f)) od is = no_lock _
  lock_agrees rs g cont (Some env.outside) od is = no_lock _
  lock_agrees rs g cont (Some (env.shared first n guard)) od is = no_lock _
  lock_agrees rs g cont (Some (env.table first n)) od is = no_lock _
  lock_agrees rs g cont (Some (env.lock n)) None is = absurd is
  lock_agrees rs g cont (Some (env.lock n)) (Some d) is =
      takes n d.name _ _
      (record {
        cont = cont;
        memory = h.config.memory;
        next = refl;
        holds =
            record { memory = meet.memory; words = meet.words };
        footprint = refl;
        under = λ w. inl refl;
      }) refl (refl, refl, refl) (lock_named d n is)
      refl

  unlock_agrees : (rs : List ℕ) (g : ℕ) (cont : List ContItem) (o : Option Entity) (od : Option Decl) →
      ItemMatches setting.edge o od → Goal (lock_step e h rs o act.Unlock cont)
      (performed setting.edge (with_value od (λ (d : Decl). Then (Gives d.name (at F y.serial [] cont)))) (At rs))
  unlock_agrees rs g cont None od is = no_lock _
  unlock_agrees rs g cont (Some (env.function f)) od is = no_lock _
  unlock_agrees rs g cont (Some env.outside) od is = no_lock _
  unlock_agrees rs g cont (Some (env.shared first n guard)) od is = no_lock _
  unlock_agrees rs g cont (Some (env.table first n)) od is = no_lock _
  unlock_agrees rs g cont (Some (env.lock n)) None is = absurd is
  unlock_agrees rs g cont (Some (env.lock n)) (Some d) is =
      gives n d.name _ _
      (record {
        cont = cont;
        memory = h.config.memory;
        next = refl;
        holds =
            record { memory = meet.memory; words = meet.words };
        footprint = refl;
        under = λ w. inl refl;
      }) refl (refl, refl, refl) (lock_named d n is)
      refl

  -- what both do at last
  effects_agree : (rs : List ℕ) {d : Effect step.Object} {d' : Effect clight.Object} →
      EffectsMatch owner (λ g. length_of (entity_in e h g)) d d' → StoreFits owner (got rs d) →
      next_effect e h ≡ got rs d →
      Goal (step_with_effect e h (got rs d)) (performed setting.edge (does F y.serial d') (At rs))
  effects_agree rs (continues cont) fit next =
      goes _ _ (record {
        cont = cont;
        memory = h.config.memory;
        next = refl;
        holds =
            record { memory = meet.memory; words = meet.words };
        footprint = refl;
        under = λ w. inl refl;
      }) refl refl
  effects_agree rs (stores {o = o} {o' = o'} {v = v} {v' = v'} p cont same s) fit next =
      store_agrees rs o o' same p v v' s fit cont
  effects_agree rs (writes g i n cont below) fit next = item_written rs i n cont (entity_in e h g) (slice_get F.decls g)
      (meet.items g) below
  effects_agree rs (calls g {vs = vs} {vs' = vs'} target cont same) fit next =
      call_agrees rs g vs vs' same target cont (slice_get F.decls g) next refl
  effects_agree rs (returns {v = v} {v' = v'} same) fit next =
      ag.returns _ _
      (record {
        reads = rs;
        value = v;
        passed = v';
        effect = next;
        values = same;
        last = refl;
        holds =
            (record { memory = meet.memory; words = meet.words }, refl);
      })
  effects_agree rs (locks g cont) fit next = lock_agrees rs g cont (entity_in e h g) (slice_get F.decls g)
      (meet.items g)
  effects_agree rs (unlocks g cont) fit next = unlock_agrees rs g cont (entity_in e h g) (slice_get F.decls g)
      (meet.items g)
  effects_agree rs (prints n cont) fit next =
      puts n _ _
      (record {
        cont = cont;
        memory = h.config.memory;
        next = refl;
        holds =
            record { memory = meet.memory; words = meet.words };
        footprint = refl;
        under = λ w. inl refl;
      }) refl (refl, refl, refl) refl

  abbrev lens : ℕ → Option ℕ
  lens g = length_of (entity_in e h g)

  abbrev Asking : asks.Asks step.Object (Effect step.Object)
  Asking = effect_of (step.eval_context_of e h) (e.function h.newest.function).ret h.newest.cont

  -- over both kinds of objects the first item does the same
  asked_alike : QueriesMatch owner lens (EffectsMatch owner lens) Asking
      (effect_of (clight.context_of F y.serial) (result_of F) y.continuation)
  asked_alike =
      subst (λ (ty : Ty). QueriesMatch owner lens (EffectsMatch owner lens) Asking
      (effect_of (clight.context_of F y.serial) ty y.continuation)) (sym meet.result)
      (subst (λ (cont : List ContItem). QueriesMatch owner lens (EffectsMatch owner lens) Asking
      (effect_of (clight.context_of F y.serial) (e.function h.newest.function).ret cont)) (sym meet.continuation)
      (effect_same step.Object clight.Object (ObjectsMatch owner) (IsPlain owner) (AnySize owner) lens
      (λ o o' p q size plain any less. plain) (step.eval_context_of e h) (clight.context_of F y.serial) meet.lengths
      (λ g. refl) own (λ a b a' b' i j. sym (same_alike owner a b a' b' i j)) F.locals (λ n plain. plain)
      (e.function h.newest.function).ret h.newest.cont meet.addressable))
    where
      own : (n : ℕ) → ObjectsMatch owner (record { serial = h.newest.serial; local = n })
          (record { home = clight.own_home F y.serial n; has_pointer = keeps_pointer (slice_get F.locals n) })
      own n = record {
        home = ap (λ i. clight.own_home F i n) meet.serial
            ∙ ap (λ (f : ClightFun). clight.own_home f h.newest.serial n) (sym meet.function);
        points = ap (λ (f : ClightFun). keeps_pointer (slice_get f.locals n)) (sym meet.function);
      }

  answers_agree : (o : Got (Effect step.Object)) (p : Performed (Last ClightState)) →
      Ran owner setting.edge h.words k.share M (cells_at h.config.memory) (entity_in e h)
      F.decls meet.items meet.words meet.memory (EffectsMatch owner lens) (does F y.serial) nothing_touched o p →
      StoreFits owner o → next_effect e h ≡ o → Goal (step_with_effect e h o) p
  answers_agree o p (ran rs d d' same is) fit next = subst (λ v. Goal (step_with_effect e h (got rs d)) v) (sym is)
      (effects_agree rs same fit next)
  answers_agree o p (ran_bad rs why is foot) fit next = is_bad why _ p refl is foot
  answers_agree o p (ran_stuck rs is) fit next = is_stuck p is
  answers_agree o p (not_held n missing read is) fit next =
      touches n _ p missing (read_touched o n (step_reads e h o) read) is

  agrees : Goal (step.newest_step e h) (step_at clight.clight setting y k)
  agrees = subst (λ v. Goal (step.newest_step e h) v)
      (sym (passed_stored setting.edge F y.serial y.passed (effect_at y) k.share k.memory nothing_touched meet.room))
      (answers_agree _ _
      (run_alike owner setting.edge h.words k.share M (cells_at h.config.memory) (entity_in e h) F.decls meet.items
      meet.words meet.memory asked_alike (does F y.serial) nothing_touched) meet.fits refl)

pub steps_agree : StepsAgree
steps_agree bridge h y k meet = agrees bridge h y k meet
