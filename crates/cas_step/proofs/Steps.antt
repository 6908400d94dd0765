-- Footprints are named, steps are determined, and what a step writes is told.
use Rattle.std.proofs.Common.{arith, ◌≡◌, ℕ, zero, suc, List, [], ◌∷◌, ◌++◌, length, Option, Some, None, refl, sym, ap, subst, ◌∙◌}
use Rattle.std.specs.Prelude.{⊤, ◌+◌, slice_get, slice_set, Contains}
use Rattle.std.proofs.lemmas.List.Elements.{Contains-append_cases}
use Rattle.cas_base.specs.declared.act.Act.{Act}
use Rattle.cas_base.specs.declared.act.Act.TheVariants as act
use Rattle.cas_typed.specs.declared.tree.Destination.{Destination}
use Rattle.cas_step.specs.Asks.{Value}
use Rattle.cas_step.specs.Env.{Entity, function, outside, shared, table, Env}
use Rattle.cas_step.specs.Env as env
use Rattle.cas_step.specs.Continuation.{ContItem, Effect, continues, stores, writes, calls, returns, locks, unlocks, prints, effect_of}
use Rattle.cas_step.specs.Laws.{item_names, FootprintsAreNamed, AgreeOnTables, ChangesOnly, AreSame, StepsAreDetermined, WritesAreReported}
use Rattle.cas_step.specs.Answered.{value_at, Got, got, bad, got_stuck, answered}
use Rattle.cas_step.specs.Step.{Object, Block, Activation, Config, cells_at, Step, StepContext, entity_in, eval_context_of, step_to, word_step, global_step, store_step, memory_without, memory_keeping, call_step, return_to, return_step, lock_step, step_with_effect, newest_step, step_of, step}
use Rattle.cas_step.proofs.Within.{IsPlaceIn}
use Rattle.cas_step.proofs.Footprints.{IsTold, EffectBelow, effect_within, reads_of, GotSo, WordOf, trace_named, answered_named, answered_so, answered_same, either_case, single}

abbrev here : Config → Activation → List Activation → List ℕ → StepContext
here c a older ws = record { config = c; newest = a; older = older; words = ws }

-- a list without elements
nowhere : {C : Type 0} (n : ℕ) → Contains [] n → C
nowhere n (k, below, e) = absurd (omega (arith, below))

-- a step, if there is one, is so
abbrev pub StepSo : (Step → Type 0) → Option Step → Type 0
StepSo P None = ⊤
StepSo P (Some s) = P s

-- it is this one
pub so_is : (P : Step → Type 0) (x : Option Step) (s : Step) → StepSo P x → x ≡ Some s → P s
so_is P None s h is = absurd (cc is)
so_is P (Some r) s h is = let same : r ≡ s = cc is in subst P same h

-- reads

module _ (e : Env) (h : StepContext) (rs : List ℕ) where
  -- it has read these
  abbrev HasRead : Step → Type 0
  HasRead s = s.reads ≡ rs

  call_reads : (it : Option Entity) (vs : List (Value Object)) (kept : Option Destination) (cont : List ContItem) →
      StepSo HasRead (call_step e h rs it vs kept cont)
  call_reads None vs kept cont = tt
  call_reads (Some (function f)) vs kept cont = refl
  call_reads (Some outside) vs kept cont = tt
  call_reads (Some (shared first len guard)) vs kept cont = tt
  call_reads (Some (table first len)) vs kept cont = tt
  call_reads (Some (env.lock m)) vs kept cont = tt

  word_reads : (held : Option ℕ) (m n : ℕ) (cont : List ContItem) → StepSo HasRead (word_step e h rs held m n cont)
  word_reads None m n cont = tt
  word_reads (Some w) m n cont = refl

  global_reads : (it : Option Entity) (i n : ℕ) (cont : List ContItem) → StepSo HasRead (global_step e h rs it i n cont)
  global_reads None i n cont = tt
  global_reads (Some (function f)) i n cont = tt
  global_reads (Some outside) i n cont = tt
  global_reads (Some (shared first len guard)) i n cont = word_reads (slice_get h.words (first + i)) (first + i) n cont
  global_reads (Some (table first len)) i n cont = tt
  global_reads (Some (env.lock m)) i n cont = tt

  store_reads : (held : Option (Value Object)) (o : Object) (i : ℕ) (v : Value Object) (cont : List ContItem) →
      StepSo HasRead (store_step e h rs held o i v cont)
  store_reads None o i v cont = tt
  store_reads (Some held) o i v cont = refl

  lock_reads : (it : Option Entity) (a : ℕ → Act) (cont : List ContItem) → StepSo HasRead (lock_step e h rs it a cont)
  lock_reads None a cont = tt
  lock_reads (Some (function f)) a cont = tt
  lock_reads (Some outside) a cont = tt
  lock_reads (Some (shared first len guard)) a cont = tt
  lock_reads (Some (table first len)) a cont = tt
  lock_reads (Some (env.lock m)) a cont = refl

  return_to_reads : (older : List Activation) (memory : Option (List Block)) →
      StepSo HasRead (return_to e h rs older memory)
  return_to_reads older None = tt
  return_to_reads older (Some memory) = refl

  return_reads : (older : List Activation) (v : Option (Value Object)) → StepSo HasRead (return_step e h rs older v)
  return_reads [] v = refl
  return_reads (a ∷ older) v = return_to_reads (a ∷ older)
      (memory_keeping (memory_without h.config.memory h.newest.serial) a.serial h.newest.target v)

pub step_reads : (e : Env) (h : StepContext) (x : Got (Effect Object)) →
    StepSo (λ s. s.reads ≡ reads_of x) (step_with_effect e h x)
step_reads e h (got_stuck rs) = tt
step_reads e h (bad rs why) = refl
step_reads e h (got rs (continues cont)) = refl
step_reads e h (got rs (stores o i v cont)) = store_reads e h rs (value_at (cells_at h.config.memory o) i) o i v cont
step_reads e h (got rs (writes g i n cont)) = global_reads e h rs (entity_in e h g) i n cont
step_reads e h (got rs (calls g vs kept cont)) = call_reads e h rs (entity_in e h g) vs kept cont
step_reads e h (got rs (returns v)) = return_reads e h rs h.older v
step_reads e h (got rs (locks g cont)) = lock_reads e h rs (entity_in e h g) act.Lock cont
step_reads e h (got rs (unlocks g cont)) = lock_reads e h rs (entity_in e h g) act.Unlock cont
step_reads e h (got rs (prints n cont)) = refl

-- writes

module _ (e : Env) (h : StepContext) (N : ℕ → Type 0) (n : ℕ) (rs : List ℕ) where
  -- if it writes this word, that is a word of these globals
  abbrev WritesSo : Step → Type 0
  WritesSo s = Contains s.writes n → WordOf (entity_in e h) N n

  call_writes : (it : Option Entity) (vs : List (Value Object)) (kept : Option Destination) (cont : List ContItem) →
      StepSo WritesSo (call_step e h rs it vs kept cont)
  call_writes None vs kept cont = tt
  call_writes (Some (function f)) vs kept cont = nowhere n
  call_writes (Some outside) vs kept cont = tt
  call_writes (Some (shared first len guard)) vs kept cont = tt
  call_writes (Some (table first len)) vs kept cont = tt
  call_writes (Some (env.lock m)) vs kept cont = tt

  store_writes : (held : Option (Value Object)) (o : Object) (i : ℕ) (v : Value Object) (cont : List ContItem) →
      StepSo WritesSo (store_step e h rs held o i v cont)
  store_writes None o i v cont = tt
  store_writes (Some held) o i v cont = nowhere n

  lock_writes : (it : Option Entity) (a : ℕ → Act) (cont : List ContItem) → StepSo WritesSo (lock_step e h rs it a cont)
  lock_writes None a cont = tt
  lock_writes (Some (function f)) a cont = tt
  lock_writes (Some outside) a cont = tt
  lock_writes (Some (shared first len guard)) a cont = tt
  lock_writes (Some (table first len)) a cont = tt
  lock_writes (Some (env.lock m)) a cont = nowhere n

  return_to_writes : (older : List Activation) (memory : Option (List Block)) →
      StepSo WritesSo (return_to e h rs older memory)
  return_to_writes older None = tt
  return_to_writes older (Some memory) = nowhere n

  return_writes : (older : List Activation) (v : Option (Value Object)) → StepSo WritesSo (return_step e h rs older v)
  return_writes [] v = nowhere n
  return_writes (a ∷ older) v = return_to_writes (a ∷ older)
      (memory_keeping (memory_without h.config.memory h.newest.serial) a.serial h.newest.target v)

  word_writes : (held : Option ℕ) (m v : ℕ) (cont : List ContItem) →
      (Contains (m ∷ []) n → WordOf (entity_in e h) N n) → StepSo WritesSo (word_step e h rs held m v cont)
  word_writes None m v cont so = tt
  word_writes (Some w) m v cont so = so

  global_writes : (g i m : ℕ) (cont : List ContItem) (it : Option Entity) → entity_in e h g ≡ it → N g →
      IsPlaceIn it i → StepSo WritesSo (global_step e h rs it i m cont)
  global_writes g i m cont None is named below = tt
  global_writes g i m cont (Some (function f)) is named below = tt
  global_writes g i m cont (Some outside) is named below = tt
  global_writes g i m cont (Some (table first len)) is named below = tt
  global_writes g i m cont (Some (env.lock l)) is named below = tt
  global_writes g i m cont (Some (shared first len guard)) is named below =
      word_writes (slice_get h.words (first + i)) (first + i) m cont
      (λ c. trace_named (entity_in e h) N g i (Some (shared first len guard)) is named below n c)

step_writes : (e : Env) (h : StepContext) (N : ℕ → Type 0) (n : ℕ) (x : Got (Effect Object)) →
    GotSo (EffectBelow (entity_in e h) N) x → StepSo (WritesSo e h N n (reads_of x)) (step_with_effect e h x)
step_writes e h N n (got_stuck rs) so = tt
step_writes e h N n (bad rs why) so = nowhere n
step_writes e h N n (got rs (continues cont)) so = nowhere n
step_writes e h N n (got rs (stores o i v cont)) so = store_writes e h N n rs (value_at (cells_at h.config.memory o) i)
    o i v cont
step_writes e h N n (got rs (writes g i m cont)) so = global_writes e h N n rs g i m cont (entity_in e h g)
    refl so.0 so.1
step_writes e h N n (got rs (calls g vs kept cont)) so = call_writes e h N n rs (entity_in e h g) vs kept cont
step_writes e h N n (got rs (returns v)) so = return_writes e h N n rs h.older v
step_writes e h N n (got rs (locks g cont)) so = lock_writes e h N n rs (entity_in e h g) act.Lock cont
step_writes e h N n (got rs (unlocks g cont)) so = lock_writes e h N n rs (entity_in e h g) act.Unlock cont
step_writes e h N n (got rs (prints m cont)) so = nowhere n

-- footprints

-- the globals that the first item names
abbrev Names : StepContext → ℕ → Type 0
Names h g = Contains (item_names h.newest.cont) g

-- what the step comes to, and that it reads and writes so
abbrev asked : (e : Env) (h : StepContext) → Got (Effect Object)
asked e h = answered (entity_in e h) (slice_get h.words) (cells_at h.config.memory)
    (effect_of (eval_context_of e h) (e.function h.newest.function).ret h.newest.cont)

here_named : (e : Env) (h : StepContext) (s : Step) → newest_step e h ≡ Some s → (n : ℕ) →
    Contains (s.reads ++ s.writes) n → WordOf (entity_in e h) (Names h) n
here_named e h s is n c = either_case (Contains-append_cases s.reads s.writes n c)
    (λ d. answered_named (entity_in e h) (Names h) (EffectBelow (entity_in e h) (Names h)) (slice_get h.words)
    (cells_at h.config.memory) (effect_of (eval_context_of e h) (e.function h.newest.function).ret h.newest.cont)
    (effect_within (eval_context_of e h) (Names h) (e.function h.newest.function).ret h.newest.cont (λ g i. i)) n
    (subst (λ rs. Contains rs n) (so_is (λ r. r.reads ≡ reads_of (asked e h)) (newest_step e h) s
    (step_reads e h (asked e h)) is) d))
    (λ d. so_is (WritesSo e h (Names h) n (reads_of (asked e h))) (newest_step e h) s
    (step_writes e h (Names h) n (asked e h)
    (answered_so (entity_in e h) (Names h) (EffectBelow (entity_in e h) (Names h)) (slice_get h.words)
    (cells_at h.config.memory) (effect_of (eval_context_of e h) (e.function h.newest.function).ret h.newest.cont)
    (effect_within (eval_context_of e h) (Names h) (e.function h.newest.function).ret h.newest.cont (λ g i. i)))) is d)

-- the step is that of the newest activation
step_is : (e : Env) (ws : List ℕ) (c : Config) (a : Activation) (older : List Activation) (s : Step) →
    c.activations ≡ a ∷ older → step e ws c ≡ Some s → newest_step e (here c a older ws) ≡ Some s
step_is e ws c a older s stands is = sym (ap (step_of e ws c) stands) ∙ is

pub footprints_are_named : FootprintsAreNamed
footprints_are_named e ws c a older s stands is n within =
    here_named e (here c a older ws) s (step_is e ws c a older s stands is) n within

-- lists with an element set

set_same : (xs ys : List ℕ) (m x : ℕ) → length xs ≡ length ys →
    slice_get (slice_set xs m x) m ≡ slice_get (slice_set ys m x) m
set_same [] [] m x e = refl
set_same [] (y ∷ ys) m x e = absurd (omega (arith, e))
set_same (w ∷ xs) [] m x e = absurd (omega (arith, e))
set_same (w ∷ xs) (y ∷ ys) zero x e = refl
set_same (w ∷ xs) (y ∷ ys) (suc m) x e = set_same xs ys m x (omega (arith, e))

set_other : (xs : List ℕ) (m x n : ℕ) → (m ≡ n → ⊥) → slice_get (slice_set xs m x) n ≡ slice_get xs n
set_other [] m x n differs = refl
set_other (w ∷ xs) zero x zero differs = absurd (differs refl)
set_other (w ∷ xs) zero x (suc n) differs = refl
set_other (w ∷ xs) (suc m) x zero differs = refl
set_other (w ∷ xs) (suc m) x (suc n) differs = set_other xs m x n (λ e. differs (ap suc e))

unchanged : (ws vs : List ℕ) → ChangesOnly [] ws ws vs
unchanged ws vs = (λ n c. nowhere n c, λ n differs. refl)

set_changes : (ws vs : List ℕ) (m x : ℕ) → length ws ≡ length vs →
    ChangesOnly (m ∷ []) vs (slice_set vs m x) (slice_set ws m x)
set_changes ws vs m x e = (
  λ n c. subst (λ k. slice_get (slice_set vs m x) k ≡ slice_get (slice_set ws m x) k) (single m n c)
      (set_same vs ws m x (sym e)),
  λ n differs. set_other vs m x n (λ same. differs (0, omega arith, same)),
)

-- where one has a word, one of the same length has one too
there_too : (ws vs : List ℕ) (m w : ℕ) → length ws ≡ length vs → slice_get ws m ≡ Some w → slice_get vs m ≡ None → ⊥
there_too [] vs m w len is none = absurd (cc is)
there_too (x ∷ xs) [] m w len is none = absurd (omega (arith, len))
there_too (x ∷ xs) (y ∷ ys) zero w len is none = absurd (cc none)
there_too (x ∷ xs) (y ∷ ys) (suc m) w len is none = there_too xs ys m w (omega (arith, len)) is none

-- the same step over other words

-- the other step is there too, and does the same
abbrev AreSameSteps : (vs : List ℕ) (x y : Option Step) → Type 0
AreSameSteps vs None y = ⊤
AreSameSteps vs (Some s) None = ⊥
AreSameSteps vs (Some s) (Some r) = AreSame vs s r

module _ (e : Env) (c : Config) (a : Activation) (older : List Activation) (ws vs : List ℕ) where
  abbrev h : StepContext
  h = here c a older ws

  abbrev k : StepContext
  k = here c a older vs

  to_same : (rs : List ℕ) (what : Act) (next : Config) →
      AreSame vs (step_to e h rs what next) (step_to e k rs what next)
  to_same rs what next =
      record {
        act = refl;
        next = refl;
        reads = refl;
        writes = refl;
        unit = refl;
        place = refl;
        words =
            unchanged vs ws;
      }

  word_same : length ws ≡ length vs → (rs : List ℕ) (held : Option ℕ) (other : Option ℕ) (m n : ℕ)
      (cont : List ContItem) → slice_get ws m ≡ held → slice_get vs m ≡ other →
      AreSameSteps vs (word_step e h rs held m n cont) (word_step e k rs other m n cont)
  word_same len rs None other m n cont is also = tt
  word_same len rs (Some w) (Some v) m n cont is also =
      record {
        act = refl;
        next = refl;
        reads = refl;
        writes = refl;
        unit = refl;
        place = refl;
        words =
            set_changes ws vs m n len;
      }
  word_same len rs (Some w) None m n cont is also = absurd (there_too ws vs m w len is also)

  global_same : length ws ≡ length vs → (rs : List ℕ) (it : Option Entity) (i n : ℕ) (cont : List ContItem) →
      AreSameSteps vs (global_step e h rs it i n cont) (global_step e k rs it i n cont)
  global_same len rs None i n cont = tt
  global_same len rs (Some (function f)) i n cont = tt
  global_same len rs (Some outside) i n cont = tt
  global_same len rs (Some (table first size)) i n cont = tt
  global_same len rs (Some (env.lock m)) i n cont = tt
  global_same len rs (Some (shared first size guard)) i n cont =
      word_same len rs (slice_get ws (first + i)) (slice_get vs (first + i)) (first + i) n cont refl refl

  store_same : (rs : List ℕ) (held : Option (Value Object)) (o : Object) (i : ℕ) (v : Value Object)
      (cont : List ContItem) → AreSameSteps vs (store_step e h rs held o i v cont) (store_step e k rs held o i v cont)
  store_same rs None o i v cont = tt
  store_same rs (Some held) o i v cont = to_same rs _ _

  call_same : (rs : List ℕ) (it : Option Entity) (args : List (Value Object)) (kept : Option Destination)
      (cont : List ContItem) → AreSameSteps vs (call_step e h rs it args kept cont) (call_step e k rs it args kept cont)
  call_same rs None args kept cont = tt
  call_same rs (Some (function f)) args kept cont = to_same rs _ _
  call_same rs (Some outside) args kept cont = tt
  call_same rs (Some (shared first len guard)) args kept cont = tt
  call_same rs (Some (table first len)) args kept cont = tt
  call_same rs (Some (env.lock m)) args kept cont = tt

  lock_same : (rs : List ℕ) (it : Option Entity) (what : ℕ → Act) (cont : List ContItem) →
      AreSameSteps vs (lock_step e h rs it what cont) (lock_step e k rs it what cont)
  lock_same rs None what cont = tt
  lock_same rs (Some (function f)) what cont = tt
  lock_same rs (Some outside) what cont = tt
  lock_same rs (Some (shared first len guard)) what cont = tt
  lock_same rs (Some (table first len)) what cont = tt
  lock_same rs (Some (env.lock m)) what cont = to_same rs _ _

  return_to_same : (rs : List ℕ) (below : List Activation) (memory : Option (List Block)) →
      AreSameSteps vs (return_to e h rs below memory) (return_to e k rs below memory)
  return_to_same rs below None = tt
  return_to_same rs below (Some memory) = to_same rs _ _

  return_same : (rs : List ℕ) (below : List Activation) (v : Option (Value Object)) →
      AreSameSteps vs (return_step e h rs below v) (return_step e k rs below v)
  return_same rs [] v = to_same rs _ _
  return_same rs (b ∷ below) v = return_to_same rs (b ∷ below)
      (memory_keeping (memory_without c.memory a.serial) b.serial a.target v)

  doing_same : length ws ≡ length vs → (x : Got (Effect Object)) →
      AreSameSteps vs (step_with_effect e h x) (step_with_effect e k x)
  doing_same len (got_stuck rs) = tt
  doing_same len (bad rs why) = to_same rs _ _
  doing_same len (got rs (continues cont)) = to_same rs _ _
  doing_same len (got rs (stores o i v cont)) = store_same rs (value_at (cells_at c.memory o) i) o i v cont
  doing_same len (got rs (writes g i n cont)) = global_same len rs (entity_in e h g) i n cont
  doing_same len (got rs (calls g args kept cont)) = call_same rs (entity_in e h g) args kept cont
  doing_same len (got rs (returns v)) = return_same rs older v
  doing_same len (got rs (locks g cont)) = lock_same rs (entity_in e h g) act.Lock cont
  doing_same len (got rs (unlocks g cont)) = lock_same rs (entity_in e h g) act.Unlock cont
  doing_same len (got rs (prints n cont)) = to_same rs _ _

  asked_same : AgreeOnTables e ws vs → IsTold (asked e h) →
      ((n : ℕ) → Contains (reads_of (asked e h)) n → slice_get ws n ≡ slice_get vs n) → asked e k ≡ asked e h
  asked_same tables told read = answered_same (entity_in e h) (Names h) (EffectBelow (entity_in e h) (Names h)) ws vs
      (cells_at c.memory) (effect_of (eval_context_of e h) (e.function a.function).ret a.cont)
      (effect_within (eval_context_of e h) (Names h) (e.function a.function).ret a.cont (λ g i. i))
      (λ g first len i is below. tables a.function.unit g first len i is below) told read

  here_same : length ws ≡ length vs → AgreeOnTables e ws vs → IsTold (asked e h) →
      ((n : ℕ) → Contains (reads_of (asked e h)) n → slice_get ws n ≡ slice_get vs n) →
      AreSameSteps vs (newest_step e h) (newest_step e k)
  here_same len tables told read = subst (λ x. AreSameSteps vs (newest_step e h) (step_with_effect e k x))
      (sym (asked_same tables told read)) (doing_same len (asked e h))

same_there : (vs : List ℕ) (x y : Option Step) (s : Step) → x ≡ Some s → AreSameSteps vs x y → (r : Step) × (y ≡ Some r)
    × AreSame vs s r
same_there vs None y s is same = absurd (cc is)
same_there vs (Some q) None s is same = absurd same
same_there vs (Some q) (Some r) s is same = let it : q ≡ s = cc is in (r, refl, subst (λ t. AreSame vs t r) it same)

step_told : (e : Env) (h : StepContext) (x : Got (Effect Object)) (s : Step) → step_with_effect e h x ≡ Some s →
    IsTold x
step_told e h (got rs a) s is = tt
step_told e h (bad rs why) s is = tt
step_told e h (got_stuck rs) s is = absurd (cc is)

determined_by : (e : Env) (ws vs : List ℕ) (c : Config) (activations : List Activation) (s : Step) →
    length ws ≡ length vs → AgreeOnTables e ws vs →
    step_of e ws c activations ≡ Some s → ((n : ℕ) → Contains s.reads n → slice_get ws n ≡ slice_get vs n) →
    (r : Step) × (step_of e vs c activations ≡ Some r) × AreSame vs s r
determined_by e ws vs c [] s len tables is read = absurd (cc is)
determined_by e ws vs c (a ∷ older) s len tables is read =
    same_there vs (newest_step e (here c a older ws)) (newest_step e (here c a older vs)) s is
    (here_same e c a older ws vs len tables (step_told e (here c a older ws) (asked e (here c a older ws)) s is)
    (λ n d. read n
    (subst (λ rs. Contains rs n)
    (sym (so_is (λ r. r.reads ≡ reads_of (asked e (here c a older ws))) (newest_step e (here c a older ws)) s
    (step_reads e (here c a older ws) (asked e (here c a older ws))) is)) d)))

pub steps_are_determined : StepsAreDetermined
steps_are_determined e ws vs c s len tables is read = determined_by e ws vs c c.activations s len tables is read

-- what a step writes is told: it is the same step as itself over the same words

told_there : (ws : List ℕ) (x : Option Step) (s : Step) → x ≡ Some s → AreSameSteps ws x x →
    ChangesOnly s.writes ws s.words s.words
told_there ws None s is same = absurd (cc is)
told_there ws (Some r) s is same = let it : r ≡ s = cc is in
    subst (λ q. ChangesOnly q.writes ws q.words q.words) it same.words

told_by : (e : Env) (ws : List ℕ) (c : Config) (activations : List Activation) (s : Step) →
    step_of e ws c activations ≡ Some s → ChangesOnly s.writes ws s.words s.words
told_by e ws c [] s is = absurd (cc is)
told_by e ws c (a ∷ older) s is = told_there ws (newest_step e (here c a older ws)) s is
    (doing_same e c a older ws ws refl (asked e (here c a older ws)))

pub writes_are_reported : WritesAreReported
writes_are_reported e ws c s is = told_by e ws c c.activations s is
