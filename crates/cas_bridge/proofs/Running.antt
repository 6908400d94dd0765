-- What is asked is answered alike by all words and the thread's memory, and by the share and blocks of memory.
use Rattle.std.proofs.Common.{◌≡◌, ℕ, zero, suc, ◌+◌, List, [], ◌∷◌, ◌++◌, Option, Some, None, Bool, if◌then◌else◌, length, slice_get, refl, sym, ap, ◌∙◌, subst, lt-ltb}
use Rattle.std.specs.Prelude.{Contains, ⊤}
use Rattle.std.proofs.lemmas.List.Elements.{Contains-append_left, Contains-append_right, Contains-push}
use Rattle.cas_base.specs.declared.act.Why.{Why}
use Rattle.cas_base.specs.declared.decl.Decl.{Decl}
use Rattle.cas_step.specs.Asks as asks
use Rattle.cas_step.specs.Asks.{Asks}
use Rattle.cas_step.specs.Answered.{Got, got, bad, got_stuck, having_read, if_there, word_at, trace_of, size_of, value_at, answered}
use Rattle.cas_step.specs.Env as env
use Rattle.cas_step.specs.Env.{Entity, length_of}
use Rattle.cas_step.specs.Step as step
use Rattle.cas_runs.specs.Label.{Share}
use Rattle.cas_runs.specs.Edge.{Edge, Stretch, Cell, LockWord, SharedWord, TableWord}
use Rattle.cas_runs.specs.Naming.{Home, Value, Memory}
use Rattle.cas_runs.specs.Machine.{Footprint}
use Rattle.cas_runs.specs.Access as ac
use Rattle.cas_runs.specs.Access.{Accesses, words_in, place_among, word_in, Doing, Performed, has_read, reads_as, reads_cell, number_in, reads_word, value_in, loads_as, performed, with_value}
use Rattle.cas_clight.specs.Clight as clight
use Rattle.cas_clight.specs.Clight.{ClightFun, decoded, asked}
use Rattle.cas_bridge.specs.Alike.{IsBelow, gives, fails, stuck, reads, looks, loads}
use Rattle.cas_bridge.specs.Matching.{home_of, points, ObjectsMatch, ValuesMatch, QueriesMatch, CellsMatch, BlocksMatch, MemoryMatches, WordsMatch, ItemMatches, HasGuard, IsTableWord, IsUnheldWord}
use Rattle.cas_bridge.specs.Steps.{onto}
use Rattle.cas_runs.proofs.Fronting.{so}

module _ (owner : ℕ → ClightFun) (edge : Edge) (these : List ℕ) (share : Share) (m : Memory)
    (objects : step.Object → Option (List (asks.Value step.Object))) (entity : ℕ → Option Entity) (ds : List Decl)
    (items : (g : ℕ) → ItemMatches edge (entity g) (slice_get ds g)) (held : WordsMatch edge.cells share these)
    (memory : MemoryMatches owner objects m) where
  abbrev len : ℕ → Option ℕ
  len g = length_of (entity g)

  abbrev word : ℕ → Option ℕ
  word n = slice_get these n

  -- the footprint after these words were read too
  abbrev pub read_more : Footprint → List ℕ → Footprint
  read_more foot rs = record { reads = onto rs foot.reads; writes = foot.writes }

  -- the word was read, unless the evaluation is stuck
  abbrev pub HasRead : {A : Type 0} → Got A → ℕ → Type 0
  HasRead (got rs a) n = Contains rs n
  HasRead (bad rs why) n = Contains rs n
  HasRead (got_stuck rs) n = ⊤

  later_read : {A : Type 0} (before : List ℕ) (o : Got A) (n : ℕ) → HasRead o n → HasRead (having_read before o) n
  later_read before (got rs a) n h = Contains-append_right before rs n h
  later_read before (bad rs why) n h = Contains-append_right before rs n h
  later_read before (got_stuck rs) n h = tt

  first_read : {A : Type 0} (o : Got A) (n : ℕ) → HasRead (having_read (n ∷ []) o) n
  first_read (got rs a) n = Contains-append_left (n ∷ []) rs n (Contains-push [] n)
  first_read (bad rs why) n = Contains-append_left (n ∷ []) rs n (Contains-push [] n)
  first_read (got_stuck rs) n = tt

  word_read : {A : Type 0} (o : Option ℕ) (go : ℕ → Got A) (n : ℕ) →
      HasRead (if_there o (λ v. having_read (n ∷ []) (go v))) n
  word_read None go n = tt
  word_read (Some v) go n = first_read (go v) n

  -- both come to the same; or what was asked for isn't there; or it is a word that the thread doesn't hold, which the
  -- layer of calls refuses
  pub data Ran {A B L : Type 0} (R : A → B → Type 0) (k : B → Accesses L) (foot : Footprint) : Got A → Performed L →
      Type 0 where
    ran : {p : Performed L} (rs : List ℕ) (a : A) (b : B) → R a b →
        p ≡ performed edge (k b) (so share m (read_more foot rs)) → Ran R k foot (got rs a) p
    ran_bad : {p : Performed L} (rs : List ℕ) (why : Why) → p.last ≡ None → p.footprint ≡ read_more foot rs →
        Ran R k foot (bad rs why) p
    ran_stuck : {p : Performed L} (rs : List ℕ) → p.last ≡ None → Ran R k foot (got_stuck rs) p
    not_held : {o : Got A} {p : Performed L} (n : ℕ) → IsUnheldWord edge.cells share n → HasRead o n →
        p.last ≡ None → Ran R k foot o p

  onto_append : (xs ys zs : List ℕ) → onto (xs ++ ys) zs ≡ onto ys (onto xs zs)
  onto_append [] ys zs = refl
  onto_append (x ∷ xs) ys zs = onto_append xs ys (x ∷ zs)

  read_both : (foot : Footprint) (before rs : List ℕ) →
      read_more foot (before ++ rs) ≡ read_more (read_more foot before) rs
  read_both foot before rs = ap (λ r. record { reads = r; writes = foot.writes }) (onto_append before rs foot.reads)

  after_reads : {A B L : Type 0} {R : A → B → Type 0} {k : B → Accesses L} {o : Got A} {p : Performed L}
      (foot : Footprint) (before : List ℕ) → Ran R k (read_more foot before) o p →
      Ran R k foot (having_read before o) p
  after_reads {k = k} foot before (ran rs a b h e) =
      ran (before ++ rs) a b h (e ∙ ap (λ f. performed edge (k b) (so share m f)) (sym (read_both foot before rs)))
  after_reads foot before (ran_bad rs why e f) = ran_bad (before ++ rs) why e (f ∙ sym (read_both foot before rs))
  after_reads foot before (ran_stuck rs e) = ran_stuck (before ++ rs) e
  after_reads {o = o} foot before (not_held n h r e) = not_held n h (later_read before o n r) e

  module _ {A B L : Type 0} (R : A → B → Type 0) (k : B → Accesses L) where
    abbrev Goal : Footprint → Got A → Performed L → Type 0
    Goal foot o p = Ran R k foot o p

    -- a shared word
    shared_read : (n : ℕ) (guard : Option ℕ) (go : ℕ → Got A) (go' : ℕ → Doing → Performed L) (foot : Footprint) →
        ((v : ℕ) (foot' : Footprint) → Goal foot' (go v) (go' v (so share m foot'))) → (c : Cell) →
        slice_get edge.cells n ≡ Some c → HasGuard guard c →
        Goal foot (if_there (word n) (λ v. having_read (n ∷ []) (go v)))
        (reads_cell edge.cells (Some c) n (so share m foot) go')
    shared_read n guard go go' foot more LockWord is h = absurd h
    shared_read n guard go go' foot more (TableWord value) is h = absurd h
    shared_read n guard go go' foot more (SharedWord kind None initial) is h =
        not_held n (None, SharedWord kind None initial, is, refl, tt) (word_read (word n) go n) refl
    shared_read n guard go go' foot more (SharedWord kind (Some lock) initial) is h = by (words_in share lock) refl
      where
        found : (o : Option ℕ) → Goal foot (if_there o (λ v. having_read (n ∷ []) (go v)))
            (reads_as o n (so share m foot) go')
        found None = ran_stuck [] refl
        found (Some v) = after_reads foot (n ∷ []) (more v (has_read (so share m foot) n).footprint)

        by : (o : Option (List ℕ)) → words_in share lock ≡ o →
            Goal foot (if_there (word n) (λ v. having_read (n ∷ []) (go v)))
            (reads_as (word_in o (place_among edge.cells lock n)) n (so share m foot) go')
        by None e = not_held n (Some lock, SharedWord kind (Some lock) initial, is, refl, e) (word_read (word n) go n)
            refl
        by (Some ws) e =
            subst (λ o. Goal foot (if_there o (λ v. having_read (n ∷ []) (go v)))
            (reads_as (slice_get ws (place_among edge.cells lock n)) n (so share m foot) go'))
            (held.held lock ws e n initial kind is) (found (slice_get ws (place_among edge.cells lock n)))

    table_read : (n : ℕ) (go : ℕ → Got A) (go' : ℕ → Doing → Performed L) (foot : Footprint) →
        ((v : ℕ) (foot' : Footprint) → Goal foot' (go v) (go' v (so share m foot'))) → (c : Cell) → IsTableWord c →
        slice_get edge.cells n ≡ Some c → Goal foot (if_there (word n) (λ v. having_read [] (go v)))
        (reads_cell edge.cells (Some c) n (so share m foot) go')
    table_read n go go' foot more LockWord h is = absurd h
    table_read n go go' foot more (SharedWord kind guard initial) h is = absurd h
    table_read n go go' foot more (TableWord value) h is =
        subst (λ o. Goal foot (if_there o (λ v. having_read [] (go v))) (go' value (so share m foot)))
        (sym (held.tables n value is)) (after_reads foot [] (more value foot))

    -- a word of a global, which has it
    global_read : (i : ℕ) (go : ℕ → Got A) (go' : ℕ → Doing → Performed L) (foot : Footprint) →
        ((v : ℕ) (foot' : Footprint) → Goal foot' (go v) (go' v (so share m foot'))) → (o : Option Entity) (d : Decl) →
        ItemMatches edge o (Some d) → IsBelow (length_of o) i →
        Goal foot (if_there (word_at word o i) (λ v. having_read (trace_of o i) (go v)))
        (reads_word edge.cells (number_in (edge.words d.name) i) (so share m foot) go')
    global_read i go go' foot more None d is below = absurd below
    global_read i go go' foot more (Some (env.function f)) d is below = absurd below
    global_read i go go' foot more (Some env.outside) d is below = absurd below
    global_read i go go' foot more (Some (env.lock n)) d is below = absurd below
    global_read i go go' foot more (Some (env.shared first n guard)) d is below =
        let c = is.1 i below in
        subst (λ (s : Option Stretch). Goal foot
        (if_there (word (first + i)) (λ v. having_read ((first + i) ∷ []) (go v)))
        (reads_word edge.cells (number_in s i) (so share m foot) go')) (sym is.0)
        (subst (λ (b : Bool). Goal foot (if_there (word (first + i)) (λ v. having_read ((first + i) ∷ []) (go v)))
        (reads_word edge.cells (if b then Some (first + i) else None) (so share m foot) go'))
        (sym (lt-ltb i n below))
        (subst (λ (x : Option Cell). Goal foot
        (if_there (word (first + i)) (λ v. having_read ((first + i) ∷ []) (go v)))
        (reads_cell edge.cells x (first + i) (so share m foot) go')) (sym c.1)
        (shared_read (first + i) guard go go' foot more c.0 c.1 c.2)))
    global_read i go go' foot more (Some (env.table first n)) d is below =
        let c = is.1 i below in
        subst (λ (s : Option Stretch). Goal foot (if_there (word (first + i)) (λ v. having_read [] (go v)))
        (reads_word edge.cells (number_in s i) (so share m foot) go')) (sym is.0)
        (subst (λ (b : Bool). Goal foot (if_there (word (first + i)) (λ v. having_read [] (go v)))
        (reads_word edge.cells (if b then Some (first + i) else None) (so share m foot) go'))
        (sym (lt-ltb i n below))
        (subst (λ (x : Option Cell). Goal foot (if_there (word (first + i)) (λ v. having_read [] (go v)))
        (reads_cell edge.cells x (first + i) (so share m foot) go')) (sym c.1)
        (table_read (first + i) go go' foot more c.0 c.2 c.1)))

    item_read : (i : ℕ) (go : ℕ → Got A) (more' : ℕ → Accesses L) (foot : Footprint) →
        ((v : ℕ) (foot' : Footprint) → Goal foot' (go v) (performed edge (more' v) (so share m foot'))) →
        (o : Option Entity) (od : Option Decl) → ItemMatches edge o od → IsBelow (length_of o) i →
        Goal foot (if_there (word_at word o i) (λ v. having_read (trace_of o i) (go v)))
        (performed edge (with_value od (λ (d : Decl). ac.Reads d.name i more')) (so share m foot))
    item_read i go more' foot more o (Some d) is below =
        global_read i go (λ v e. performed edge (more' v) e) foot more o d is below
    item_read i go more' foot more None None is below = absurd below
    item_read i go more' foot more (Some (env.shared first n guard)) None is below = absurd is
    item_read i go more' foot more (Some (env.table first n)) None is below = absurd is
    item_read i go more' foot more (Some (env.lock n)) None is below = absurd is
    item_read i go more' foot more (Some (env.function f)) None is below = absurd is
    item_read i go more' foot more (Some env.outside) None is below = absurd is

    -- cells

    loaded : (b : Bool) (vs : List (asks.Value step.Object)) (xs : List Value) → CellsMatch owner b vs xs →
        (p : ℕ) (go : asks.Value step.Object → Got A) (more' : asks.Value clight.Object → Accesses L) (foot : Footprint)
        → ((v : asks.Value step.Object) (v' : asks.Value clight.Object) → ValuesMatch owner v v' →
        Goal foot (go v) (performed edge (more' v') (so share m foot))) →
        Goal foot (if_there (slice_get vs p) go) (loads_as (slice_get xs p) (so share m foot)
        (λ x. performed edge (with_value (decoded b x) more') (so share m foot)))
    loaded b [] [] h p go more' foot more = ran_stuck [] refl
    loaded b [] (x ∷ xs) h p go more' foot more = absurd h
    loaded b (v ∷ vs) [] h p go more' foot more = absurd h
    loaded b (v ∷ vs) (x ∷ xs) h zero go more' foot more =
        let cell = h.0 in
        subst (λ (o : Option (asks.Value clight.Object)). Goal foot (go v)
        (performed edge (with_value o more') (so share m foot))) (sym cell.1) (more v cell.0 cell.2)
    loaded b (v ∷ vs) (x ∷ xs) h (suc p) go more' foot more = loaded b vs xs h.1 p go more' foot more

    block_loaded : (b : Bool) (o : Option (List (asks.Value step.Object))) (o' : Option (List Value)) →
        BlocksMatch owner b o o' → (p : ℕ) (go : asks.Value step.Object → Got A)
        (more' : asks.Value clight.Object → Accesses L) (foot : Footprint) →
        ((v : asks.Value step.Object) (v' : asks.Value clight.Object) → ValuesMatch owner v v' →
        Goal foot (go v) (performed edge (more' v') (so share m foot))) →
        Goal foot (if_there (value_at o p) go) (loads_as (value_in o' p) (so share m foot)
        (λ x. performed edge (with_value (decoded b x) more') (so share m foot)))
    block_loaded b None None h p go more' foot more = ran_stuck [] refl
    block_loaded b None (Some xs) h p go more' foot more = absurd h
    block_loaded b (Some vs) None h p go more' foot more = absurd h
    block_loaded b (Some vs) (Some xs) h p go more' foot more = loaded b vs xs h p go more' foot more

    object_loaded : (o : step.Object) (o' : clight.Object) → ObjectsMatch owner o o' →
        (p : ℕ) (go : asks.Value step.Object → Got A) (more' : asks.Value clight.Object → Accesses L) (foot : Footprint)
        → ((v : asks.Value step.Object) (v' : asks.Value clight.Object) → ValuesMatch owner v v' →
        Goal foot (go v) (performed edge (more' v') (so share m foot))) →
        Goal foot (if_there (value_at (objects o) p) go)
        (loads_as (value_in (m o'.home) p) (so share m foot)
        (λ x. performed edge (with_value (decoded o'.has_pointer x) more') (so share m foot)))
    object_loaded o o' same p go more' foot more =
        subst (λ (h : Home). Goal foot (if_there (value_at (objects o) p) go)
        (loads_as (value_in (m h) p) (so share m foot)
        (λ x. performed edge (with_value (decoded o'.has_pointer x) more') (so share m foot)))) (sym same.home)
        (subst (λ (b : Bool). Goal foot (if_there (value_at (objects o) p) go)
        (loads_as (value_in (m (home_of owner o)) p) (so share m foot)
        (λ x. performed edge (with_value (decoded b x) more') (so share m foot)))) (sym same.points)
        (block_loaded (points owner o) (objects o) (m (home_of owner o)) (memory o) p go more' foot more))

    sizes : (b : Bool) (vs : List (asks.Value step.Object)) (xs : List Value) → CellsMatch owner b vs xs →
        length vs ≡ length xs
    sizes b [] [] h = refl
    sizes b [] (x ∷ xs) h = absurd h
    sizes b (v ∷ vs) [] h = absurd h
    sizes b (v ∷ vs) (x ∷ xs) h = ap suc (sizes b vs xs h.1)

    block_sizes : (b : Bool) (o : Option (List (asks.Value step.Object))) (o' : Option (List Value)) →
        BlocksMatch owner b o o' → size_of o ≡ ac.length_of o'
    block_sizes b None None h = refl
    block_sizes b None (Some xs) h = absurd h
    block_sizes b (Some vs) None h = absurd h
    block_sizes b (Some vs) (Some xs) h = ap Some (sizes b vs xs h)

    size_same : (o : step.Object) (o' : clight.Object) → ObjectsMatch owner o o' →
        size_of (objects o) ≡ ac.length_of (m o'.home)
    size_same o o' same = block_sizes (points owner o) (objects o) (m (home_of owner o)) (memory o)
        ∙ ap (λ h. ac.length_of (m h)) (sym same.home)

  -- what is asked is answered alike
  pub run_alike : {A B L : Type 0} {R : A → B → Type 0} {x : Asks step.Object A} {x' : Asks clight.Object B} →
      QueriesMatch owner len R x x' → (k : B → Accesses L) (foot : Footprint) →
      Ran R k foot (answered entity word objects x) (performed edge (asked ds x' k) (so share m foot))
  run_alike (gives {a = a} {b = b} r) k foot = ran [] a b r refl
  run_alike (fails {why = why}) k foot = ran_bad [] why refl refl
  run_alike stuck k foot = ran_stuck [] refl
  run_alike {R = R} (reads {g = g} {i = i} {more = more} {more' = more'} below h) k foot =
      item_read R k i (λ n. answered entity word objects (more n)) (λ n. asked ds (more' n) k) foot
      (λ v foot'. run_alike (h v) k foot') (entity g) (slice_get ds g) (items g) below
  run_alike {R = R} (looks {o = o} {o' = o'} {more = more} {more' = more'} same none h) k foot =
      subst (λ n. Ran R k foot (answered entity word objects (more (size_of (objects o))))
      (performed edge (asked ds (more' n) k) (so share m foot))) (size_same R k o o' same)
      (by (size_of (objects o)) (run_alike none k foot) (λ n. run_alike (h n tt) k foot))
    where
      by : (n : Option ℕ) → Ran R k foot (answered entity word objects (more None))
          (performed edge (asked ds (more' None) k) (so share m foot)) →
          ((n : ℕ) → Ran R k foot (answered entity word objects (more (Some n)))
          (performed edge (asked ds (more' (Some n)) k) (so share m foot))) →
          Ran R k foot (answered entity word objects (more n)) (performed edge (asked ds (more' n) k) (so share m foot))
      by None first others = first
      by (Some n) first others = others n
  run_alike {R = R} (loads {o = o} {o' = o'} {p = p} {more = more} {more' = more'} same h) k foot =
      object_loaded R k o o' same p (λ v. answered entity word objects (more v)) (λ v'. asked ds (more' v') k) foot
      (λ v v' s. run_alike (h v v' s) k foot)
