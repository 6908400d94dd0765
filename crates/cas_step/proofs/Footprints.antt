-- What an item's step reads and writes, and that it is determined by what it reads.
use Rattle.std.proofs.Common.{arith, ◌≡◌, inl, inr, ℕ, zero, suc, ◌<◌, ◌≤◌, List, [], ◌∷◌, ◌++◌, Option, Some, None, refl, sym, ap, subst, ◌∙◌}
use Rattle.std.specs.Prelude.{⊤, ◌+◌, ◌⊎◌, slice_get, Contains}
use Rattle.std.proofs.lemmas.List.Elements.{Contains-append_cases, Contains-append_left, Contains-append_right}
use Rattle.cas_base.specs.declared.kind.Ty.{Ty}
use Rattle.cas_typed.specs.Resolved.{TypedExprTree, TypedStmtTree, skip, assign, call, block, if_, while_, do_, for_, break_, continue_, return_, lock, unlock, print, absent, present}
use Rattle.cas_step.specs.Asks.{Value, Asks, gives, fails, stuck, reads, looks, loads, word_in}
use Rattle.cas_step.specs.Env.{Entity, function, outside, shared, table, length_of}
use Rattle.cas_step.specs.Env as env
use Rattle.cas_step.specs.Evaluate.{EvalContext, Cell, of_object, of_global, value_of, values_of, test_of, target_of}
use Rattle.cas_step.specs.Continuation.{ContItem, begin, begun, loop, next, Effect, writes, into, jumps, after_break, after_continue, chooses, returned, statement_effect, effect_of}
use Rattle.cas_step.specs.Laws.{names, target_names, option_names, statement_names, item_names}
use Rattle.cas_step.specs.Answered.{Got, got, bad, got_stuck, having_read, if_there, trace_of, word_at, answered, size_of, value_at}
use Rattle.cas_step.specs.Step.{Object}
use Rattle.cas_step.proofs.Within.{Within, Any, IsPlaceIn, Below, then_within, word_within, value_within, values_within, test_within, target_within, CellBelow, AllNamed, left, right}

-- what an effect writes is a word of a named global, at a place below its length
abbrev pub EffectBelow : {O : Type 0} → (ℕ → Option Entity) → (ℕ → Type 0) → Effect O → Type 0
EffectBelow entity N (writes g i n cont) = Below entity N g i
EffectBelow entity N _ = ⊤

module _ {O : Type 0} (s : EvalContext O) (N : ℕ → Type 0) where
  into_within : (c : Cell O) (v : Value O) (cont : List ContItem) → CellBelow s N c →
      Within s.entity N (into c v cont) (EffectBelow s.entity N)
  into_within (of_object o p) v cont h = tt
  into_within (of_global g i) v cont h = then_within s.entity N Any (EffectBelow s.entity N) (word_in v) _
      (word_within s.entity N v) (λ n k. h)

  jumps_within : (to : Option (List ContItem)) → Within {O = O} s.entity N (jumps to) (EffectBelow s.entity N)
  jumps_within None = tt
  jumps_within (Some cont) = tt

  chooses_within : (c : Option TypedExprTree) (some others : List ContItem) → AllNamed s N (option_names c) →
      Within s.entity N (chooses s c some others) (EffectBelow s.entity N)
  chooses_within None some others all = tt
  chooses_within (Some c) some others all = then_within s.entity N Any (EffectBelow s.entity N) (test_of s c) _
      (test_within s N c all) (λ is h. tt)

  returned_within : (a : Option TypedExprTree) → AllNamed s N (option_names a) →
      Within s.entity N (returned s a) (EffectBelow s.entity N)
  returned_within None all = tt
  returned_within (Some a) all = then_within s.entity N Any (EffectBelow s.entity N) (value_of s a) _
      (value_within s N a all) (λ v h. tt)

  statement_within : (a : TypedStmtTree) (cont : List ContItem) → AllNamed s N (statement_names a) →
      Within s.entity N (statement_effect s a cont) (EffectBelow s.entity N)
  statement_within (skip p) cont all = tt
  statement_within (assign p target a) cont all =
      then_within s.entity N (CellBelow s N) (EffectBelow s.entity N) (target_of s target) _
      (target_within s N target (left s N (target_names target) (names a) all)) (λ c h.
      then_within s.entity N Any (EffectBelow s.entity N) (value_of s a) _
      (value_within s N a (right s N (target_names target) (names a) all)) (λ v k. into_within c v cont h))
  statement_within (block p bs) cont all = tt
  statement_within (if_ p c a otherwise) cont all = chooses_within (Some c) _ _ all
  statement_within (while_ p c a) cont all = chooses_within (Some c) _ _ all
  statement_within (do_ p a c) cont all = tt
  statement_within (for_ p i c after a) cont all = tt
  statement_within (break_ p) cont all = jumps_within (after_break cont)
  statement_within (continue_ p) cont all = jumps_within (after_continue cont)
  statement_within (call p kept g at args) cont all = then_within s.entity N Any (EffectBelow s.entity N)
      (values_of s args) _ (values_within s N args all) (λ vs h. tt)
  statement_within (return_ p a) cont all = returned_within a all
  statement_within (lock p g) cont all = tt
  statement_within (unlock p g) cont all = tt
  statement_within (print p a) cont all =
      then_within s.entity N Any (EffectBelow s.entity N) (value_of s a) _ (value_within s N a all) (λ v h.
      then_within s.entity N Any (EffectBelow s.entity N) (word_in v) _ (word_within s.entity N v) (λ n k. tt))

  pub effect_within : (ret : Ty) (cont : List ContItem) → AllNamed s N (item_names cont) →
      Within s.entity N (effect_of s ret cont) (EffectBelow s.entity N)
  effect_within ret [] all = tt
  effect_within ret (begin a ∷ cont) all = statement_within a cont all
  effect_within ret (begun p c a ∷ cont) all = chooses_within (Some c) _ _ all
  effect_within ret (loop p c after a ∷ cont) all = chooses_within c _ _ all
  effect_within ret (next p absent ∷ cont) all = tt
  effect_within ret (next p (present a) ∷ cont) all = statement_within a cont all

-- the words that were read
abbrev pub reads_of : {A : Type 0} → Got A → List ℕ
reads_of (got rs a) = rs
reads_of (bad rs why) = rs
reads_of (got_stuck rs) = rs

-- what was got is so
abbrev pub GotSo : {A : Type 0} → (A → Type 0) → Got A → Type 0
GotSo P (got rs a) = P a
GotSo P (bad rs why) = ⊤
GotSo P (got_stuck rs) = ⊤

reads-having_read : {A : Type 0} (before : List ℕ) (x : Got A) → reads_of (having_read before x) ≡ before ++ reads_of x
reads-having_read before (got rs a) = refl
reads-having_read before (bad rs why) = refl
reads-having_read before (got_stuck rs) = refl

pub so-having_read : {A : Type 0} (P : A → Type 0) (before : List ℕ) (x : Got A) → GotSo P x →
    GotSo P (having_read before x)
so-having_read P before (got rs a) h = h
so-having_read P before (bad rs why) h = tt
so-having_read P before (got_stuck rs) h = tt

-- a word of one of these globals
abbrev pub WordOf : (ℕ → Option Entity) → (ℕ → Type 0) → ℕ → Type 0
WordOf entity N n = (g first len : ℕ) × (guard : Option ℕ) × N g × (entity g ≡ Some (shared first len guard))
    × (first ≤ n) × (n < first + len)

pub single : (m n : ℕ) → Contains (m ∷ []) n → m ≡ n
single m n (zero, below, e) = e
single m n (suc k, below, e) = absurd (omega (arith, below))

pub either_case : {A B C : Type 0} → A ⊎ B → (A → C) → (B → C) → C
either_case (inl a) f g = f a
either_case (inr b) f g = g b

one_or_other : {A C : Type 0} (before : List ℕ) (x : Got A) (n : ℕ) → Contains (reads_of (having_read before x)) n →
    (Contains before n → C) → (Contains (reads_of x) n → C) → C
one_or_other before x n c f g =
    either_case (Contains-append_cases before (reads_of x) n
    (subst (λ rs. Contains rs n) (reads-having_read before x) c)) f g

in_front : {A : Type 0} (before : List ℕ) (x : Got A) (n : ℕ) → Contains before n →
    Contains (reads_of (having_read before x)) n
in_front before x n c = subst (λ rs. Contains rs n) (sym (reads-having_read before x))
    (Contains-append_left before (reads_of x) n c)

behind : {A : Type 0} (before : List ℕ) (x : Got A) (n : ℕ) → Contains (reads_of x) n →
    Contains (reads_of (having_read before x)) n
behind before x n c = subst (λ rs. Contains rs n) (sym (reads-having_read before x))
    (Contains-append_right before (reads_of x) n c)

module _ (entity : ℕ → Option Entity) (N : ℕ → Type 0) where
  -- what reading a word of a global leaves is a word of it
  pub trace_named : (g i : ℕ) (it : Option Entity) → entity g ≡ it → N g → IsPlaceIn it i → (n : ℕ) →
      Contains (trace_of it i) n → WordOf entity N n
  trace_named g i None e named below n (k, b, same) = absurd (omega (arith, b))
  trace_named g i (Some (function f)) e named below n (k, b, same) = absurd (omega (arith, b))
  trace_named g i (Some outside) e named below n (k, b, same) = absurd (omega (arith, b))
  trace_named g i (Some (table first len)) e named below n (k, b, same) = absurd (omega (arith, b))
  trace_named g i (Some (env.lock m)) e named below n (k, b, same) = absurd (omega (arith, b))
  trace_named g i (Some (shared first len guard)) e named below n c =
      let is : first + i ≡ n = single (first + i) n c in
      (g, first, len, guard, named, e, omega (arith, is), omega (arith, is, below))

  -- what is read for what is there
  there_reads : {V A C : Type 0} (x : Option V) (go : V → Got A) (n : ℕ) → Contains (reads_of (if_there x go)) n →
      ((v : V) → Contains (reads_of (go v)) n → C) → C
  there_reads None go n (k, b, same) then = absurd (omega (arith, b))
  there_reads (Some v) go n c then = then v c

  there_so : {V A : Type 0} (P : A → Type 0) (x : Option V) (go : V → Got A) → ((v : V) → GotSo P (go v)) →
      GotSo P (if_there x go)
  there_so P None go h = tt
  there_so P (Some v) go h = h v

  -- the words that are read belong to the named globals
  pub answered_named : {A : Type 0} (P : A → Type 0) (word : ℕ → Option ℕ)
      (cells : Object → Option (List (Value Object))) (x : Asks Object A) → Within entity N x P → (n : ℕ) →
      Contains (reads_of (answered entity word cells x)) n → WordOf entity N n
  answered_named P word cells (gives a) h n (k, b, same) = absurd (omega (arith, b))
  answered_named P word cells (fails why) h n (k, b, same) = absurd (omega (arith, b))
  answered_named P word cells stuck h n (k, b, same) = absurd (omega (arith, b))
  answered_named P word cells (looks o more) h n c = answered_named P word cells (more (size_of (cells o)))
      (h (size_of (cells o))) n c
  answered_named P word cells (loads o p more) h n c =
      there_reads (value_at (cells o) p) (λ v. answered entity word cells (more v)) n c
      (λ v d. answered_named P word cells (more v) (h v) n d)
  answered_named P word cells (reads g i more) h n c =
      there_reads (word_at word (entity g) i) (λ m. having_read (trace_of (entity g) i)
      (answered entity word cells (more m))) n c (λ m d.
      one_or_other (trace_of (entity g) i) (answered entity word cells (more m)) n d
      (λ k. trace_named g i (entity g) refl h.0 h.1 n k)
      (λ k. answered_named P word cells (more m) (h.2 m) n k))

  -- what is got is so
  pub answered_so : {A : Type 0} (P : A → Type 0) (word : ℕ → Option ℕ) (cells : Object → Option (List (Value Object)))
      (x : Asks Object A) → Within entity N x P → GotSo P (answered entity word cells x)
  answered_so P word cells (gives a) h = h
  answered_so P word cells (fails why) h = tt
  answered_so P word cells stuck h = tt
  answered_so P word cells (looks o more) h = answered_so P word cells (more (size_of (cells o)))
      (h (size_of (cells o)))
  answered_so P word cells (loads o p more) h = there_so P (value_at (cells o) p)
      (λ v. answered entity word cells (more v)) (λ v. answered_so P word cells (more v) (h v))
  answered_so P word cells (reads g i more) h =
      there_so P (word_at word (entity g) i) (λ n. having_read (trace_of (entity g) i)
      (answered entity word cells (more n)))
      (λ n. so-having_read P (trace_of (entity g) i) (answered entity word cells (more n))
      (answered_so P word cells (more n) (h.2 n)))

-- words that agree

-- the same word in the table, where it is one
abbrev pub AgreeIn : (ws vs : List ℕ) → Option Entity → Type 0
AgreeIn ws vs it = (first len i : ℕ) → it ≡ Some (table first len) → i < len →
    slice_get ws (first + i) ≡ slice_get vs (first + i)

word_same : (ws vs : List ℕ) (it : Option Entity) (i : ℕ) → IsPlaceIn it i → AgreeIn ws vs it →
    ((n : ℕ) → Contains (trace_of it i) n → slice_get ws n ≡ slice_get vs n) →
    word_at (slice_get ws) it i ≡ word_at (slice_get vs) it i
word_same ws vs None i below tables read = refl
word_same ws vs (Some (function f)) i below tables read = refl
word_same ws vs (Some outside) i below tables read = refl
word_same ws vs (Some (env.lock m)) i below tables read = refl
word_same ws vs (Some (table first len)) i below tables read = tables first len i refl below
word_same ws vs (Some (shared first len guard)) i below tables read = read (first + i) (0, omega arith, refl)

-- it isn't stuck
abbrev pub IsTold : {A : Type 0} → Got A → Type 0
IsTold (got rs a) = ⊤
IsTold (bad rs why) = ⊤
IsTold (got_stuck rs) = ⊥

told_behind : {A : Type 0} (before : List ℕ) (x : Got A) → IsTold (having_read before x) → IsTold x
told_behind before (got rs a) h = tt
told_behind before (bad rs why) h = tt
told_behind before (got_stuck rs) h = h

there_same : {V A : Type 0} (x : Option V) (go more : V → Got A) → IsTold (if_there x more) →
    ((v : V) → IsTold (more v) → ((n : ℕ) → Contains (reads_of (more v)) n → Contains (reads_of (if_there x more)) n) →
    go v ≡ more v) → if_there x go ≡ if_there x more
there_same None go more told same = absurd told
there_same (Some v) go more told same = same v told (λ n c. c)

-- the same word, and then the same
read_same : {A : Type 0} (trace : List ℕ) (w v : Option ℕ) (go more : ℕ → Got A) →
    IsTold (if_there w (λ n. having_read trace (more n))) →
    (((n : ℕ) → Contains trace n → Contains (reads_of (if_there w (λ m. having_read trace (more m)))) n) → v ≡ w) →
    ((m : ℕ) → IsTold (more m) → ((n : ℕ) → Contains (reads_of (more m)) n →
    Contains (reads_of (if_there w (λ k. having_read trace (more k)))) n) → go m ≡ more m) →
    if_there v (λ n. having_read trace (go n)) ≡ if_there w (λ n. having_read trace (more n))
read_same trace None v go more told word rest = absurd told
read_same trace (Some m) v go more told word rest =
    ap (λ o. if_there o (λ n. having_read trace (go n))) (word (λ n c. in_front trace (more m) n c))
    ∙ ap (having_read trace) (rest m (told_behind trace (more m) told) (λ n c. behind trace (more m) n c))

-- the same is got from words that agree on what is read, and on tables
pub answered_same : {A : Type 0} (entity : ℕ → Option Entity) (N : ℕ → Type 0) (P : A → Type 0) (ws vs : List ℕ)
    (cells : Object → Option (List (Value Object))) (x : Asks Object A) →
    Within entity N x P → ((g : ℕ) → AgreeIn ws vs (entity g)) → IsTold (answered entity (slice_get ws) cells x) →
    ((n : ℕ) → Contains (reads_of (answered entity (slice_get ws) cells x)) n → slice_get ws n ≡ slice_get vs n) →
    answered entity (slice_get vs) cells x ≡ answered entity (slice_get ws) cells x
answered_same entity N P ws vs cells (gives a) h tables told read = refl
answered_same entity N P ws vs cells (fails why) h tables told read = refl
answered_same entity N P ws vs cells stuck h tables told read = refl
answered_same entity N P ws vs cells (looks o more) h tables told read =
    answered_same entity N P ws vs cells (more (size_of (cells o))) (h (size_of (cells o))) tables told read
answered_same entity N P ws vs cells (loads o p more) h tables told read =
    there_same (value_at (cells o) p) (λ v. answered entity (slice_get vs) cells (more v))
    (λ v. answered entity (slice_get ws) cells (more v)) told
    (λ v also within. answered_same entity N P ws vs cells (more v) (h v) tables also (λ n c. read n (within n c)))
answered_same entity N P ws vs cells (reads g i more) h tables told read =
    read_same (trace_of (entity g) i) (word_at (slice_get ws) (entity g) i) (word_at (slice_get vs) (entity g) i)
    (λ n. answered entity (slice_get vs) cells (more n)) (λ n. answered entity (slice_get ws) cells (more n)) told
    (λ within. sym (word_same ws vs (entity g) i h.1 (tables g) (λ n c. read n (within n c))))
    (λ m also within. answered_same entity N P ws vs cells (more m) (h.2 m) tables also (λ n c. read n (within n c)))
