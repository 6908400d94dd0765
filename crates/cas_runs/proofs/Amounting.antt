-- Accesses by pointers that match, as steps of an `Amounts`: where memories match, loads, stores and looks go along. So
-- forms that do the same amount to one another.
use Rattle.std.proofs.Common.{◌≡◌, ℕ, List, Option, Some, None, slice_set, arith, refl, sym, subst}
use Rattle.cas_runs.specs.Naming.{Home, Value, Pointer, Memory, with_block}
use Rattle.cas_runs.specs.Access.{Accesses, Loads, Stores, Looks, value_in, length_of}
use Rattle.cas_runs.specs.Forms.{MemoryKeeps, Stored, store, LengthsAlike, FormAlike, reads, writes, loads, stores, looks}
use Rattle.cas_runs.specs.Forms.{drops_read, drops_load, drops_look, last, never}
use Rattle.cas_runs.specs.Calls.{Last}
use Rattle.cas_runs.specs.Stepwise.{AtIf, LastAt, goes_at, takes_at, gives_at, puts_at, calls_at, tails_at, returns_at, Stepwise, at_place}
use Rattle.cas_runs.specs.Held.{MatchIf, goes_held, takes_held, gives_held, puts_held, calls_held, tails_held, returns_held, Steps, meets_there, begins_at_once, BeginIf, with_blocks_of}
use Rattle.cas_runs.specs.Passing.{Relation}
use Rattle.cas_runs.specs.Held.{set_in, stored_at, HasRoom, Activation, Held, LastHeld, Amounts, both_read, source_reads}
use Rattle.cas_runs.specs.Held.{both_write, both_load, source_loads, source_looks, target_looks, both_store, at_last, fails_too}

module _ {F A G B : Type 0} (r : Relation F A G B) (w : Held F A G B) (act : Activation F G)
    (same_size : ℕ → ℕ → Type 0) (M : Memory → Memory → Type 0) (keeps : MemoryKeeps r.by.match_values same_size M)
    (frames : (t s : Memory) (home home' : Home) (at at' : ℕ) (v v' : Value) →
    r.by.match_values (Pointer home at) (Pointer home' at') → w.target_frame act.serial t (stored_at t home at v)
    × w.source_frame act.serial s (stored_at s home' at' v')) where
  abbrev So : ℕ → Memory → Memory → Accesses (Last A) → Accesses (Last B) → Type 0
  So credit t s x y = Amounts r w act credit t s x y

  -- both load by pointers that match
  pub loads_match : (credit : ℕ) (t s : Memory) → M t s → (home home' : Home) (at at' : ℕ) →
      r.by.match_values (Pointer home at) (Pointer home' at') →
      (next : Value → Accesses (Last A)) (next' : Value → Accesses (Last B)) →
      ((v v' : Value) → r.by.match_values v v' → So credit t s (next v) (next' v')) →
      So credit t s (Loads home at next) (Loads home' at' next')
  loads_match credit t s m home home' at at' p next next' more = by (value_in (s home') at') refl
    where
      by : (o : Option Value) → value_in (s home') at' ≡ o → So credit t s (Loads home at next) (Loads home' at' next')
      by None e = both_load (λ x. x) (λ x f. absurd (cc (e, f))) (λ x f. absurd (cc (e, f)))
      by (Some x) e =
          let found = keeps.loads t s m home home' at at' p x e in
          both_load (λ y. found.0) (λ y f. found.1)
          (λ y f. (let same : x ≡ y = cc (e, f) in subst (λ z. So credit t s (next found.0) (next' z)) same
          (more found.0 x found.2)))

  -- the memories after both have stored
  stored_match : (t s : Memory) → M t s → (home home' : Home) (at at' : ℕ) →
      r.by.match_values (Pointer home at) (Pointer home' at') → (v v' : Value) → r.by.match_values v v' →
      (room : HasRoom s home' at') → Stored M t s (store home at v) (store home' at' v') room.block
  stored_match t s m home home' at at' p v v' same room =
      keeps.stores t s m home home' at at' p v v' same room.block room.there room.within

  -- both store by pointers that match
  pub stores_match : (credit : ℕ) (t s : Memory) → M t s → (home home' : Home) (at at' : ℕ) →
      r.by.match_values (Pointer home at) (Pointer home' at') → (v v' : Value) → r.by.match_values v v' →
      (next : Accesses (Last A)) (next' : Accesses (Last B)) →
      (M (stored_at t home at v) (stored_at s home' at' v') →
      So credit (stored_at t home at v) (stored_at s home' at' v') next next') →
      So credit t s (Stores home at v next) (Stores home' at' v' next')
  stores_match credit t s m home home' at at' p v v' same next next' more =
      let kept = frames t s home home' at at' v v' p in
      both_store
      (λ room. let st = stored_match t s m home home' at at' p v v' same room in
      record { block = st.block; there = st.there; within = st.within })
      kept.0 kept.1
      (λ room. more
      (let st = stored_match t s m home home' at at' p v v' same room in
      subst (λ (o : Option (List Value)). M (with_block t home (set_in o at v)) (stored_at s home' at' v'))
      (sym st.there)
      (subst (λ (o : Option (List Value)). M (with_block t home (Some (slice_set st.block at v)))
      (with_block s home' (set_in o at' v'))) (sym room.there) st.after)))

  -- both ask how long the blocks are that pointers that match point into
  pub looks_match : (credit : ℕ) (t s : Memory) → M t s → (home home' : Home) (at at' : ℕ) →
      r.by.match_values (Pointer home at) (Pointer home' at') →
      (next : Option ℕ → Accesses (Last A)) (next' : Option ℕ → Accesses (Last B)) →
      So credit t s (next None) (next' None) →
      ((n m : ℕ) → same_size n m → So credit t s (next (Some n)) (next' (Some m))) →
      So credit t s (Looks home next) (Looks home' next')
  looks_match credit t s m home home' at at' p next next' none more =
      target_looks
      (source_looks (by (length_of (t home)) (length_of (s home')) (keeps.lengths t s m home home' at at' p)))
    where
      by : (o o' : Option ℕ) → LengthsAlike same_size o o' → So credit t s (next o) (next' o')
      by None None h = none
      by None (Some k) h = absurd h
      by (Some n) None h = absurd h
      by (Some n) (Some k) h = more n k h

  -- forms that do the same amount to one another, where they do the same at last
  module _ (Lasts : Last A → Last B → Type 0) (lasts : (t s : Memory) → M t s → (l : Last A) (k : Last B) → Lasts l k →
      LastHeld r w act t s l k) where
    pub form_amounts : {x : Accesses (Last A)} {y : Accesses (Last B)} →
        FormAlike r.by.match_values same_size Lasts x y → (credit : ℕ) (t s : Memory) → M t s → So credit t s x y
    form_amounts (reads f) credit t s m = both_read (λ v good. form_amounts (f v good) credit t s m)
    form_amounts (writes good f) credit t s m = both_write good (form_amounts f 0 t s m)
    form_amounts (loads {home = home} {home' = home'} {at = at} {at' = at'} {next = next} {next' = next'} p f)
        credit t s m = loads_match credit t s m home home' at at' p next next'
        (λ v v' same. form_amounts (f v v' same) credit t s m)
    form_amounts (stores {home = home} {home' = home'} {at = at} {at' = at'} {v = v} {w = v'} {next = next}
        {next' = next'} p same f) credit t s m = stores_match credit t s m home home' at at' p v v' same next next'
        (λ after. form_amounts f credit (stored_at t home at v) (stored_at s home' at' v') after)
    form_amounts (looks {home = home} {home' = home'} at at' {next = next} {next' = next'} p none f) credit t s m =
        looks_match credit t s m home home' at at' p next next' (form_amounts none credit t s m)
        (λ n k same. form_amounts (f n k same) credit t s m)
    form_amounts (drops_read f) credit t s m = source_reads (λ v good. form_amounts (f v good) credit t s m)
    form_amounts (drops_load f) credit t s m = source_loads (λ v there. form_amounts (f v) credit t s m)
    form_amounts (drops_look {home = home} f) credit t s m =
        source_looks (form_amounts (f (length_of (s home))) credit t s m)
    form_amounts (last same) credit t s m = at_last (lasts t s m _ _ same)
    form_amounts never credit t s m = fails_too

-- What a stepwise pass shows is what the law over memories asks for.
module _ {F A G B : Type 0} (r : Relation F A G B) (At : F → G → A → B → Type 0) (same_size : ℕ → ℕ → Type 0)
    (w : Held F A G B) (is : Stepwise r At same_size) (keeps : MemoryKeeps r.by.match_values same_size w.match_memory)
    (to_states : (a : Activation F G) (x : A) (t : Memory) (y : B) (s : Memory) → at_place At w.match_memory a x t y s →
    w.match_states a x t y s) (from_states : (a : Activation F G) (x : A) (t : Memory) (y : B) (s : Memory) →
    w.match_states a x t y s → at_place At w.match_memory a x t y s)
    (frames : (n : ℕ) (t s : Memory) (home home' : Home) (at at' : ℕ) (v v' : Value) →
    r.by.match_values (Pointer home at) (Pointer home' at') → w.target_frame n t (stored_at t home at v)
    × w.source_frame n s (stored_at s home' at' v'))
    (begins : (f : F) (g : G) → r.by.made f g → (n : ℕ) (t s : Memory) → w.match_memory t s →
    w.match_memory (with_blocks_of r.target f n t) (with_blocks_of r.source g n s)) where
  at_if : (a : Activation F G) (o : Option A) (o' : Option B) → AtIf r At a.target a.source o o' → (t s : Memory) →
      w.match_memory t s → MatchIf r w a o t o' s
  at_if a (Some x) (Some y) at t s m = to_states a x t y s (at, m)
  at_if a None (Some y) at t s m = absurd at
  at_if a None None at t s m = tt
  at_if a (Some x) None at t s m = tt

  last_held : (a : Activation F G) (t s : Memory) → w.match_memory t s → (l : Last A) (k : Last B) →
      LastAt r At a.target a.source l k → LastHeld r w a t s l k
  last_held a t s m l k (goes_at {x = x} {y = y} at) = goes_held (to_states a x t y s (at, m))
  last_held a t s m l k (takes_at {x = x} {y = y} at) = takes_held (to_states a x t y s (at, m))
  last_held a t s m l k (gives_at {x = x} {y = y} at) = gives_held (to_states a x t y s (at, m))
  last_held a t s m l k (puts_at {x = x} {y = y} at) = puts_held (to_states a x t y s (at, m))
  last_held a t s m l k (calls_at {next = next} {next' = next'} same conts) =
      calls_held same m (λ us xs all count t' s' tk sk m'. at_if a (next us) (next' xs) (conts us xs all count)
      t' s' m')
  last_held a t s m l k (tails_at same) = tails_held same m
  last_held a t s m l k (returns_at same) = returns_held same m

  amounts : (a : Activation F G) → r.by.made a.target a.source → (x : A) (y : B) → At a.target a.source x y →
      (t s : Memory) → w.match_memory t s → Amounts r w a 0 t s (r.target.form x) (r.source.form y)
  amounts a made x y at t s m = form_amounts r w a same_size w.match_memory keeps
      (λ t s home home' at at' v v' p. frames a.serial t s home home' at at' v v' p) (LastAt r At a.target a.source)
      (last_held a) (is.forms a.target a.source made x y at) 0 t s m

  pub stepwise_steps : Steps r w
  stepwise_steps = record {
    forms = λ a made x t y s match.
        let at = from_states a x t y s match in
        let cost = is.costs a.target a.source made x y at.0 in
        meets_there 0 (omega (arith, cost)) (amounts a made x y at.0 t s at.1);
    enters = λ a made t s m vs ws same. begin_if a made (with_blocks_of r.target a.target a.serial t)
        (with_blocks_of r.source a.source a.serial s) (begins a.target a.source made a.serial t s m)
        (r.target.enter a.target a.serial vs) (r.source.enter a.source a.serial ws)
        (is.enters a.target a.source made a.serial vs ws same);
  }
    where
      begin_if : (a : Activation F G) → r.by.made a.target a.source → (t s : Memory) → w.match_memory t s →
          (o : Option A) (o' : Option B) → AtIf r At a.target a.source o o' → BeginIf r w a o t o' s
      begin_if a made t s m (Some x) (Some y) at =
          let cost = is.costs a.target a.source made x y at in
          let entry = is.entries a.target a.source made in
          begins_at_once 0 (omega (arith, cost, entry)) (amounts a made x y at t s m)
      begin_if a made t s m None (Some y) at = absurd at
      begin_if a made t s m None None at = tt
      begin_if a made t s m (Some x) None at = tt
