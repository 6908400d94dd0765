-- The place of a thread's next step.
use Rattle.std.proofs.Common.{◌≡◌, ℕ, ◌+◌, List, [], ◌∷◌, Option, Some, None, refl, ap, ◌∙◌}
use Rattle.std.specs.Prelude.{option_map, slice_get}
use Rattle.cas_base.specs.declared.act.Act.{Act}
use Rattle.cas_base.specs.declared.act.Act.TheVariants as act
use Rattle.cas_base.specs.declared.place.Place.{Place}
use Rattle.cas_typed.specs.declared.rows.StmtRow.{StmtRow}
use Rattle.cas_typed.specs.declared.rows.StmtRowForm.{StmtRowForm}
use Rattle.cas_typed.specs.declared.rows.StmtRowForm.TheVariants as row
use Rattle.cas_typed.specs.declared.tree.Destination.{Destination}
use Rattle.cas_typed.specs.Numbered.{At, IsRow}
use Rattle.cas_typed.specs.Resolved.{TypedExprTree, TypedStmtTree, TypedStmtOption, absent, present, skip, assign, call, block, if_, while_, do_, for_, break_, continue_, return_, lock, unlock, print}
use Rattle.cas_step.specs.Answered.{Got, got, bad, got_stuck, value_at, answered}
use Rattle.cas_step.specs.Asks.{Value}
use Rattle.cas_step.specs.Env as env
use Rattle.cas_step.specs.Env.{Env, Entity}
use Rattle.cas_step.specs.Continuation as items
use Rattle.cas_step.specs.Continuation.{Effect, begin, begun, loop, next, effect_of, continues, stores, writes, calls, returns, locks, unlocks, prints, place_of, statement_place}
use Rattle.cas_step.specs.Step.{Activation, Block, StepContext, Object, Step, call_step, cells_at, entity_in, global_step, lock_step, memory_keeping, memory_without, return_step, return_to, eval_context_of, step_with_effect, newest_step, store_step, word_step}
use Rattle.cas_typed.specs.declared.typed.Typed.{Typed}
use Rattle.cas_thread.specs.Frames.{AreFrames}
use Rattle.cas_thread.specs.declared.config.Frame.{Frame}
use Rattle.cas_thread.specs.Continuations.{IsAt, IsBegunRow, IsLoopRow, IsNextRow, IsPart, IsContinuation}
use Rattle.cas_thread.specs.declared.continuation.ContItem as code
use Rattle.cas_thread.specs.declared.continuation.ContItem.TheVariants.{Begin, Begun, Loop, Next}

-- a row stands where its statement does
row_place : (rows : List StmtRow) (n : ℕ) (a : TypedStmtTree) (q : Place) (r : StmtRowForm) → IsRow rows n a q r →
    q ≡ statement_place a
row_place rows n (skip p) q row.Skip is = is
row_place rows n (assign p target a) q (row.Assign target' a') is = is.0
row_place rows n (call p kept g at args) q (row.Call kept' g' at' args') is = is.0
row_place rows n (block p bs) q (row.Block ns) is = is.0
row_place rows n (if_ p c a o) q (row.If c' i j) is = is.0
row_place rows n (while_ p c a) q (row.While c' i) is = is.0
row_place rows n (do_ p a c) q (row.Do i c') is = is.0
row_place rows n (for_ p i c u a) q (row.For h c' j k) is = is.0
row_place rows n (break_ p) q row.Break is = is
row_place rows n (continue_ p) q row.Continue is = is
row_place rows n (return_ p a) q (row.Return a') is = is.0
row_place rows n (lock p g) q (row.Lock g') is = is.0
row_place rows n (unlock p g) q (row.Unlock g') is = is.0
row_place rows n (print p a) q (row.Print a') is = is.0
row_place rows n _ q _ is = absurd is

begun_place : (rows : List StmtRow) (p : Place) (c : TypedExprTree) (a : TypedStmtTree) (q : Place) (r : StmtRowForm) →
    IsBegunRow rows p c a q r → q ≡ p
begun_place rows p c a q (row.While c' i) is = is.0
begun_place rows p c a q (row.Do i c') is = is.0
begun_place rows p c a q _ is = absurd is

loop_place : (rows : List StmtRow) (p : Place) (c : Option TypedExprTree) (u : TypedStmtOption) (a : TypedStmtTree)
    (q : Place) (r : StmtRowForm) → IsLoopRow rows p c u a q r → q ≡ p
loop_place rows p c u a q (row.For h c' j k) is = is.0
loop_place rows p c u a q _ is = absurd is

next_place : (rows : List StmtRow) (p : Place) (u : TypedStmtOption) (q : Place) (r : StmtRowForm) →
    IsNextRow rows p u q r → q ≡ p
next_place rows p u q (row.For h c' j k) is = is.0
next_place rows p u q _ is = absurd is

-- the place of the row with this number
abbrev pub PlaceAt : List StmtRow → ℕ → Option Place
PlaceAt rows n = option_map (λ (r : StmtRow). r.place) (slice_get rows n)

place_there : (rows : List StmtRow) (n : ℕ) (p : Place) (P : Place → StmtRowForm → Type 0) →
    ((q : Place) (r : StmtRowForm) → P q r → q ≡ p) → At rows n P → PlaceAt rows n ≡ Some p
place_there rows n p P is at = ap (option_map (λ (r : StmtRow). r.place)) at.1 ∙ ap Some (is at.0.place at.0.form at.2)

statement_at : (rows : List StmtRow) (n : ℕ) (a : TypedStmtTree) → IsAt rows n a →
    PlaceAt rows n ≡ Some (statement_place a)
statement_at rows n a at = place_there rows n (statement_place a) (IsRow rows n a) (row_place rows n a) at

-- the place of the step of the first of these items
module _ (rows : List StmtRow) (n : ℕ) (closing : Place) (rest : List code.ContItem) where
  pub begin_is : (it : List items.ContItem) → IsContinuation rows (Begin n ∷ rest) it →
      PlaceAt rows n ≡ Some (place_of closing it)
  begin_is [] shows = absurd shows
  begin_is (begin a ∷ cont) shows = statement_at rows n a shows.0
  begin_is (_ ∷ cont) shows = absurd shows

  pub begun_is : (it : List items.ContItem) → IsContinuation rows (Begun n ∷ rest) it →
      PlaceAt rows n ≡ Some (place_of closing it)
  begun_is [] shows = absurd shows
  begun_is (begun p c a ∷ cont) shows = place_there rows n p (IsBegunRow rows p c a) (begun_place rows p c a) shows.0
  begun_is (_ ∷ cont) shows = absurd shows

  pub loop_is : (it : List items.ContItem) → IsContinuation rows (Loop n ∷ rest) it →
      PlaceAt rows n ≡ Some (place_of closing it)
  loop_is [] shows = absurd shows
  loop_is (loop p c u a ∷ cont) shows = place_there rows n p (IsLoopRow rows p c u a) (loop_place rows p c u a) shows.0
  loop_is (_ ∷ cont) shows = absurd shows

  -- what a `for` does after a turn

  part_is : (i : ℕ) (p : Place) (u : TypedStmtOption) (cont : List items.ContItem) → IsPart rows u (Some i) →
      PlaceAt rows i ≡ Some (place_of closing (next p u ∷ cont))
  part_is i p absent cont part = absurd part
  part_is i p (present a) cont part = statement_at rows i a part

  nothing_is : (p : Place) (u : TypedStmtOption) (cont : List items.ContItem) → At rows n (IsNextRow rows p u) →
      IsPart rows u None → PlaceAt rows n ≡ Some (place_of closing (next p u ∷ cont))
  nothing_is p absent cont at part = place_there rows n p (IsNextRow rows p absent) (next_place rows p absent) at
  nothing_is p (present a) cont at part = absurd part

  pub next_is : (i : ℕ) → ((p : Place) (u : TypedStmtOption) → At rows n (IsNextRow rows p u) → IsPart rows u (Some i))
      →
      (it : List items.ContItem) → IsContinuation rows (Next n ∷ rest) it → PlaceAt rows i ≡ Some (place_of closing it)
  next_is i part [] shows = absurd shows
  next_is i part (next p u ∷ cont) shows = part_is i p u cont (part p u shows.0)
  next_is i part (_ ∷ cont) shows = absurd shows

  pub none_next : ((p : Place) (u : TypedStmtOption) → At rows n (IsNextRow rows p u) → IsPart rows u None) →
      (it : List items.ContItem) → IsContinuation rows (Next n ∷ rest) it → PlaceAt rows n ≡ Some (place_of closing it)
  none_next part [] shows = absurd shows
  none_next part (next p u ∷ cont) shows = nothing_is p u cont shows.0 (part p u shows.0)
  none_next part (_ ∷ cont) shows = absurd shows

  pub never_next : ((p : Place) (u : TypedStmtOption) → ¬ (At rows n (IsNextRow rows p u))) →
      (it : List items.ContItem) → IsContinuation rows (Next n ∷ rest) it → ⊥
  never_next no_part [] shows = shows
  never_next no_part (next p u ∷ cont) shows = no_part p u shows.0
  never_next no_part (_ ∷ cont) shows = shows

-- where nothing is left to do
pub nothing_left : (rows : List StmtRow) (closing : Place) (it : List items.ContItem) → IsContinuation rows [] it →
    closing ≡ place_of closing it
nothing_left rows closing [] shows = refl
nothing_left rows closing (_ ∷ cont) shows = absurd shows

-- where a step stands

module _ (e : Env) (h : StepContext) (s : Step) where
  -- the step stands at the first item of the newest activation
  abbrev pub StandsHere : Type 0
  StandsHere = (h.newest.function.unit ≡ s.unit)
      × (place_of (e.function h.newest.function).closing h.newest.cont ≡ s.place)

  of_step : (t : Step) → (h.newest.function.unit ≡ t.unit) →
      (place_of (e.function h.newest.function).closing h.newest.cont ≡ t.place) → Some t ≡ Some s → StandsHere
  of_step t unit place is = let same : t ≡ s = cc is in
      (unit ∙ ap (λ (x : Step). x.unit) same, place ∙ ap (λ (x : Step). x.place) same)

  stored : (rs : List ℕ) (held : Option (Value Object)) (o : Object) (i : ℕ) (v : Value Object)
      (cont : List items.ContItem) → store_step e h rs held o i v cont ≡ Some s → StandsHere
  stored rs None o i v cont is = absurd (cc is)
  stored rs (Some held) o i v cont is = of_step _ refl refl is

  word_written : (rs : List ℕ) (held : Option ℕ) (n v : ℕ) (cont : List items.ContItem) →
      word_step e h rs held n v cont ≡ Some s → StandsHere
  word_written rs None n v cont is = absurd (cc is)
  word_written rs (Some held) n v cont is = of_step _ refl refl is

  written : (rs : List ℕ) (it : Option Entity) (i v : ℕ) (cont : List items.ContItem) →
      global_step e h rs it i v cont ≡ Some s → StandsHere
  written rs (Some (env.shared first len guard)) i v cont is =
      word_written rs (slice_get h.words (first + i)) (first + i) v cont is
  written rs None i v cont is = absurd (cc is)
  written rs (Some (env.function f)) i v cont is = absurd (cc is)
  written rs (Some env.outside) i v cont is = absurd (cc is)
  written rs (Some (env.table first len)) i v cont is = absurd (cc is)
  written rs (Some (env.lock n)) i v cont is = absurd (cc is)

  called : (rs : List ℕ) (it : Option Entity) (vs : List (Value Object)) (target : Option Destination)
      (cont : List items.ContItem) → call_step e h rs it vs target cont ≡ Some s → StandsHere
  called rs (Some (env.function f)) vs target cont is = of_step _ refl refl is
  called rs None vs target cont is = absurd (cc is)
  called rs (Some env.outside) vs target cont is = absurd (cc is)
  called rs (Some (env.shared first len guard)) vs target cont is = absurd (cc is)
  called rs (Some (env.table first len)) vs target cont is = absurd (cc is)
  called rs (Some (env.lock n)) vs target cont is = absurd (cc is)

  returned_to : (rs : List ℕ) (older : List Activation) (left : Option (List Block)) →
      return_to e h rs older left ≡ Some s → StandsHere
  returned_to rs older None is = absurd (cc is)
  returned_to rs older (Some memory) is = of_step _ refl refl is

  returned : (rs : List ℕ) (older : List Activation) (v : Option (Value Object)) → return_step e h rs older v ≡ Some s →
      StandsHere
  returned rs [] v is = of_step _ refl refl is
  returned rs (a ∷ older) v is = returned_to rs (a ∷ older)
      (memory_keeping (memory_without h.config.memory h.newest.serial) a.serial h.newest.target v) is

  locked : (rs : List ℕ) (it : Option Entity) (a : ℕ → Act) (cont : List items.ContItem) →
      lock_step e h rs it a cont ≡ Some s → StandsHere
  locked rs (Some (env.lock n)) a cont is = of_step _ refl refl is
  locked rs None a cont is = absurd (cc is)
  locked rs (Some (env.function f)) a cont is = absurd (cc is)
  locked rs (Some env.outside) a cont is = absurd (cc is)
  locked rs (Some (env.shared first len guard)) a cont is = absurd (cc is)
  locked rs (Some (env.table first len)) a cont is = absurd (cc is)

  done : (g : Got (Effect Object)) → step_with_effect e h g ≡ Some s → StandsHere
  done (got_stuck rs) is = absurd (cc is)
  done (bad rs why) is = of_step _ refl refl is
  done (got rs (continues cont)) is = of_step _ refl refl is
  done (got rs (stores o i v cont)) is = stored rs (value_at (cells_at h.config.memory o) i) o i v cont is
  done (got rs (writes g i n cont)) is = written rs (entity_in e h g) i n cont is
  done (got rs (calls g vs target cont)) is = called rs (entity_in e h g) vs target cont is
  done (got rs (returns v)) is = returned rs h.older v is
  done (got rs (locks g cont)) is = locked rs (entity_in e h g) act.Lock cont is
  done (got rs (unlocks g cont)) is = locked rs (entity_in e h g) act.Unlock cont is
  done (got rs (prints n cont)) is = of_step _ refl refl is

  pub stands_here : newest_step e h ≡ Some s → StandsHere
  stands_here is =
      done (answered (entity_in e h) (slice_get h.words) (cells_at h.config.memory)
      (effect_of (eval_context_of e h) (e.function h.newest.function).ret h.newest.cont)) is

-- a thread with activations has frames
pub no_frames : (ts : List Typed) (fs : List Frame) (all older : List Activation) (a : Activation) → fs ≡ [] →
    AreFrames ts fs all → all ≡ a ∷ older → ⊥
no_frames ts [] [] older a none are is = cc is
no_frames ts [] (b ∷ bs) older a none are is = are
no_frames ts (f ∷ fs) all older a none are is = cc none
