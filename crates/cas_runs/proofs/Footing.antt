-- Footprints and blocks that grow, and what a step costs at least.
use Rattle.std.proofs.Common.{ℕ, ◌≤◌, List, [], ◌∷◌, ◌++◌, ◌⊎◌, Option, Some, None, Bool, true, false, if◌then◌else◌, length, slice_get, slice_set, nat_lt, inl, inr, ⊎_elim, arith}
use Rattle.cas_runs.specs.Edge.{Edge, Cell, LockWord, SharedWord, TableWord}
use Rattle.cas_runs.specs.Outside.{IsAmong, first, later}
use Rattle.cas_runs.specs.Naming.{Home, Value}
use Rattle.cas_runs.specs.Machine.{Footprint, Block, and_step}
use Rattle.cas_runs.specs.Refines.{Within}
use Rattle.cas_runs.specs.Bounds.{Tariff, BySize, ByForms, IsTariff, step_price}
use Rattle.cas_runs.specs.Access.{Accesses, Reads, Writes, Loads, Stores, Looks, Then, Fails, words_in, place_among, word_in, Doing, has_read, has_written, has_stored, Performed, failed, reads_as, reads_cell, under, writes_in, writes_cell, number_in, reads_word, writes_word, value_in, loads_as, stores_in, length_of, performed}
use Rattle.cas_runs.specs.Forms.{FootIn}
use Rattle.cas_runs.specs.Calls.{nothing_touched}
use Rattle.cas_runs.proofs.Refining.{among_front}

pub foot_same : (f : Footprint) → FootIn f f
foot_same f = record { writes = λ w h. h; reads = λ w h. inl h }

pub foot_both : (f g k : Footprint) → FootIn f g → FootIn g k → FootIn f k
foot_both f g k h j =
    record {
      writes = λ w m. j.writes w (h.writes w m);
      reads = λ w m. ⊎_elim (j.reads w) (λ v. inr (j.writes w v))
          (h.reads w m);
    }

pub among_back : (w : ℕ) (xs ys : List ℕ) → IsAmong w ys → IsAmong w (xs ++ ys)
among_back w [] ys h = h
among_back w (x ∷ xs) ys h = later (among_back w xs ys h)

pub among_either : (w : ℕ) (xs ys : List ℕ) → IsAmong w (xs ++ ys) → IsAmong w xs ⊎ IsAmong w ys
among_either w [] ys h = inr h
among_either w (x ∷ xs) ys first = inl first
among_either w (x ∷ xs) ys (later h) = ⊎_elim (λ l. inl (later l)) inr (among_either w xs ys h)

-- blocks that stay within with one step more
pub within_step : (b c : Block) (m n : ℕ) (f g : Footprint) → Within b c → m ≤ n → FootIn f g →
    Within (and_step b m f) (and_step c n g)
within_step b c m n f g w le e = record {
  price = let old = w.price in omega (arith, old, le);
  writes = λ k h. ⊎_elim (λ l. among_front k c.writes g.writes (w.writes k l))
      (λ l. among_back k c.writes g.writes (e.writes k l)) (among_either k b.writes f.writes h);
  reads = λ k h. ⊎_elim
      (λ l. ⊎_elim (λ u. inl (among_front k c.reads g.reads u)) (λ u. inr (among_front k c.writes g.writes u))
      (w.reads k l))
      (λ l. ⊎_elim (λ u. inl (among_back k c.reads g.reads u)) (λ u. inr (among_back k c.writes g.writes u))
      (e.reads k l)) (among_either k b.reads f.reads h);
}

pub nothing_in : (f : Footprint) → FootIn nothing_touched f
nothing_in f = record { writes = λ w h. elim h [ ]; reads = λ w h. elim h [ ] }

-- the footprint of a step is no less than what it has touched so far

more_read : (d : Doing) (word : ℕ) → FootIn d.footprint (has_read d word).footprint
more_read d word = record { writes = λ w h. h; reads = λ w h. inl (later h) }

more_written : (d : Doing) (word lock : ℕ) (ws : List ℕ) → FootIn d.footprint (has_written d word lock ws).footprint
more_written d word lock ws = record { writes = λ w h. later h; reads = λ w h. inl h }

module _ {L : Type 0} (edge : Edge) where
  abbrev More : Doing → Performed L → Type 0
  More d p = FootIn d.footprint p.footprint

  cell_more : (d : Doing) (word : ℕ) (go : ℕ → Doing → Performed L) → ((v : ℕ) (e : Doing) → More e (go v e)) →
      (o : Option Cell) → More d (reads_cell edge.cells o word d go)
  cell_more d word go h None = foot_same d.footprint
  cell_more d word go h (Some LockWord) = foot_same d.footprint
  cell_more d word go h (Some (TableWord value)) = h value d
  cell_more d word go h (Some (SharedWord kind None initial)) = foot_same d.footprint
  cell_more d word go h (Some (SharedWord kind (Some guard) initial)) =
      by (word_in (words_in d.holding.share guard) (place_among edge.cells guard word))
    where
      by : (o : Option ℕ) → More d (reads_as o word d go)
      by None = foot_same d.footprint
      by (Some v) = foot_both d.footprint (has_read d word).footprint _ (more_read d word) (h v (has_read d word))

  written_more : (d : Doing) (word value : ℕ) (go : Doing → Performed L) → ((e : Doing) → More e (go e)) →
      (o : Option Cell) → More d (writes_cell edge.cells o word value d go)
  written_more d word value go h None = foot_same d.footprint
  written_more d word value go h (Some LockWord) = foot_same d.footprint
  written_more d word value go h (Some (TableWord v)) = foot_same d.footprint
  written_more d word value go h (Some (SharedWord kind None initial)) = foot_same d.footprint
  written_more d word value go h (Some (SharedWord kind (Some guard) initial)) = by (words_in d.holding.share guard)
    where
      either : (ws : List ℕ) (t : Bool) →
          More d (if t then go (has_written d word guard (slice_set ws (place_among edge.cells guard word) value))
          else failed d)
      either ws true =
          foot_both d.footprint
          (has_written d word guard (slice_set ws (place_among edge.cells guard word) value)).footprint _
          (more_written d word guard (slice_set ws (place_among edge.cells guard word) value)) (h _)
      either ws false = foot_same d.footprint

      by : (o : Option (List ℕ)) → More d (writes_in o (under edge.cells guard word) value d go)
      by None = foot_same d.footprint
      by (Some ws) = either ws (nat_lt (place_among edge.cells guard word) (length ws))

  number_more : (d : Doing) (go : ℕ → Doing → Performed L) → ((v : ℕ) (e : Doing) → More e (go v e)) → (o : Option ℕ) →
      More d (reads_word edge.cells o d go)
  number_more d go h None = foot_same d.footprint
  number_more d go h (Some word) = cell_more d word go h (slice_get edge.cells word)

  number_written : (d : Doing) (value : ℕ) (go : Doing → Performed L) → ((e : Doing) → More e (go e)) → (o : Option ℕ) →
      More d (writes_word edge.cells o value d go)
  number_written d value go h None = foot_same d.footprint
  number_written d value go h (Some word) = written_more d word value go h (slice_get edge.cells word)

  loaded_more : (d : Doing) (go : Value → Performed L) → ((v : Value) → More d (go v)) → (o : Option Value) →
      More d (loads_as o d go)
  loaded_more d go h None = foot_same d.footprint
  loaded_more d go h (Some v) = h v

  stored_more : (d : Doing) (go : Doing → Performed L) → ((e : Doing) → More e (go e)) →
      (home : Home) (place : ℕ) (value : Value) (o : Option (List Value)) → More d (stores_in o home place value d go)
  stored_more d go h home place value None = foot_same d.footprint
  stored_more d go h home place value (Some block) = by (nat_lt place (length block))
    where
      by : (t : Bool) → More d (if t then go (has_stored d home (slice_set block place value)) else failed d)
      by true = h (has_stored d home (slice_set block place value))
      by false = foot_same d.footprint

  pub performed_more : (x : Accesses L) (d : Doing) → More d (performed edge x d)
  performed_more (Reads global offset next) d = number_more d _ (λ v e. performed_more (next v) e)
      (number_in (edge.words global) offset)
  performed_more (Writes global offset word next) d = number_written d word _ (λ e. performed_more next e)
      (number_in (edge.words global) offset)
  performed_more (Loads home place next) d = loaded_more d _ (λ v. performed_more (next v) d)
      (value_in (d.holding.memory home) place)
  performed_more (Stores home place value next) d = stored_more d _ (λ e. performed_more next e) home place value
      (d.holding.memory home)
  performed_more (Looks home next) d = performed_more (next (length_of (d.holding.memory home))) d
  performed_more (Then last) d = foot_same d.footprint
  performed_more Fails d = foot_same d.footprint

-- no step is free
pub step_least : {F A : Type 0} (t : Tariff F A) (fs : List F) (a : A) → IsTariff t → 1 ≤ step_price t fs a
step_least (BySize nodes cells) fs a h = omega arith
step_least (ByForms form operands entry names parameters forms) fs a h = let one = h.0 a in let least =
    one.0.least in omega (arith, least)
