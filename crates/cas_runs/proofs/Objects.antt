-- What a thread's memory and its naming of objects keep, whatever its activations do.
use Rattle.std.proofs.Common.{◌≡◌, ℕ, zero, suc, ◌+◌, ◌<◌, ◌≤◌, List, [], ◌∷◌, ◌++◌, ◌⊎◌, Option, Some, None, Bool, true, false, ◌&&◌, if◌then◌else◌, length, slice_get, nat_eq, nat_lt, inl, inr, refl, sym, ap, ◌∙◌, subst, ⊎_elim, arith, ltb-true}
use Rattle.cas_runs.specs.Label.{Each, NameBytes, Shown, Word, Place, Owner, Inside, Object}
use Rattle.cas_runs.specs.Outside.{ChangesTo, Changes, Continues}
use Rattle.cas_runs.specs.Rules.{LeavesContents, OwnContents, IsOwn, LeavesAll}
use Rattle.cas_runs.specs.Naming.{Home, Own, Theirs, Value, Number, Pointer, Hidden, Part, Layout, ArePlaced, parts_at, Named, Naming, Memory, same_home, is_place, part_by, number_of, again, if_new, first_time, named_by, and_then, all_named_by, cells, contents, contents_in, owner_of, object_of, objects_of, with_block, left_in, written, filled, new_block, Crossed, brought}
use Rattle.cas_runs.specs.Calls.{so_many, set_blocks, fresh, gone}
use Rattle.cas_runs.proofs.Cells.{so_many_length, written_length, filled_length}
use Rattle.cas_runs.proofs.Placing.{with_here, with_elsewhere, same_or_not, set_elsewhere}
use Rattle.cas_runs.proofs.Shares.{SameLength, SameLengths, same_length_both}

-- Parts lie in their blocks.

pub record PartIn (a m : ℕ) (p : Part) : Type 0 where
  pub from : a ≤ p.from
  pub least : 1 ≤ p.size
  pub end : p.from + p.size ≤ m

pub part_in : (a m : ℕ) (ps : List Part) → ArePlaced a m ps → (at pl : ℕ) (p : Part) → part_by ps at pl ≡ Some p →
    PartIn a m p
part_in a m [] h at pl p e = absurd (cc e)
part_in a m (q ∷ ps) h at pl p e = by (is_place q at pl) (λ g. part_in (q.from + q.size) m ps h.3 at pl p g) e
  where
    by : (t : Bool) → (part_by ps at pl ≡ Some p → PartIn (q.from + q.size) m p) →
        (if t then Some q else part_by ps at pl) ≡ Some p → PartIn a m p
    by true more g = let same : q ≡ p = cc g in subst (λ v. PartIn a m v) same
        (record { from = h.0; least = h.1; end = h.2 })
    by false more g =
        let w = more g in
        let first = h.0 in
        let later = w.from in
        record { from = omega (arith, first, later); least = w.least; end = w.end }

module _ (layout : Layout) where
  -- the objects of the block lie in so many words, apart from one another
  abbrev pub FitIn : NameBytes → ℕ → ℕ → Type 0
  FitIn f b size = ArePlaced 0 size (layout f b)

  -- the blocks of memory are of activations that have begun, and their objects lie in them
  abbrev pub SoundMemory : ℕ → Memory → Type 0
  SoundMemory n m = (f : NameBytes) (a b : ℕ) (ws : List Value) → m (Own f a b) ≡ Some ws → (a < n)
      × FitIn f b (length ws)

  -- the object is one of a block of an activation that has begun, or of the outside's under its number
  abbrev pub SoundNamed : ℕ → Memory → ℕ → Home → Part → Type 0
  SoundNamed n m i (Own f a b) part = (a < n) × (at pl : ℕ) × (part_by (layout f b) at pl ≡ Some part)
  SoundNamed n m i (Theirs j) part = (j ≡ i) × ((ws : List Value) → m (Theirs j) ≡ Some ws →
      part.from + part.size ≤ length ws)

  abbrev pub SoundNaming : ℕ → Memory → ℕ → Naming → Type 0
  SoundNaming n m i [] = Unit {0}
  SoundNaming n m i (x ∷ ns) = SoundNamed n m i x.home x.part × SoundNaming n m (i + 1) ns

  -- Memory that changes.

  -- blocks of activations that have begun keep their sizes, or are gone for good, and objects of the outside's stay
  abbrev pub StepOwn : Option (List Value) → Option (List Value) → Type 0
  StepOwn None o = o ≡ None
  StepOwn (Some vs) None = Unit {0}
  StepOwn (Some vs) (Some ws) = length ws ≡ length vs

  pub record MemoryStep (n : ℕ) (m m' : Memory) : Type 0 where
    pub own : (f : NameBytes) (a b : ℕ) → a < n → StepOwn (m (Own f a b)) (m' (Own f a b))
    pub theirs_stay : (k : ℕ) → SameLength (m (Theirs k)) (m' (Theirs k))

  length_step : (o o' : Option (List Value)) → SameLength o o' → StepOwn o o'
  length_step None None h = refl
  length_step None (Some ws) h = absurd h
  length_step (Some vs) None h = absurd h
  length_step (Some vs) (Some ws) h = h

  pub lengths_step : (n : ℕ) (m m' : Memory) → SameLengths m m' → MemoryStep n m m'
  lengths_step n m m' h =
      record {
        own = λ f a b less. length_step (m (Own f a b)) (m' (Own f a b)) (h (Own f a b));
        theirs_stay = λ k. h
            (Theirs k);
      }

  sound_at : (n : ℕ) (f : NameBytes) (a b : ℕ) (o o' : Option (List Value)) → SameLength o o' →
      ((ws : List Value) → o ≡ Some ws → (a < n) × FitIn f b (length ws)) → (ws : List Value) → o' ≡ Some ws → (a < n)
      × FitIn f b (length ws)
  sound_at n f a b o None h s ws e = absurd (cc e)
  sound_at n f a b None (Some us) h s ws e = absurd h
  sound_at n f a b (Some vs) (Some us) h s ws e =
      let same : us ≡ ws = cc e in
      let old = s vs refl in
      let count : length vs ≡ length ws = sym h ∙ ap length same in
      (old.0, subst (λ k. FitIn f b k) count old.1)

  pub lengths_sound : (n : ℕ) (m m' : Memory) → SameLengths m m' → SoundMemory n m → SoundMemory n m'
  lengths_sound n m m' h s = λ f a b. sound_at n f a b (m (Own f a b)) (m' (Own f a b)) (h (Own f a b)) (s f a b)

  -- an object of the outside's in a block of the same length
  theirs_sound : (o o' : Option (List Value)) (n : ℕ) → SameLength o o' →
      ((ws : List Value) → o ≡ Some ws → n ≤ length ws) → (ws : List Value) → o' ≡ Some ws → n ≤ length ws
  theirs_sound o None n h s ws e = absurd (cc e)
  theirs_sound None (Some us) n h s ws e = absurd h
  theirs_sound (Some vs) (Some us) n h s ws e =
      let same : us ≡ ws = cc e in
      let old = s vs refl in
      let count : length vs ≡ length ws = sym h ∙ ap length same in
      subst (λ k. n ≤ k) count old

  pub naming_step : (n n' : ℕ) (m m' : Memory) → n ≤ n' → MemoryStep n m m' → (i : ℕ) (ns : Naming) →
      SoundNaming n m i ns → SoundNaming n' m' i ns
  naming_step n n' m m' le s i [] h = tt
  naming_step n n' m m' le s i (x ∷ ns) h = (one x.home x.part h.0, naming_step n n' m m' le s (i + 1) ns h.1)
    where
      one : (home : Home) (part : Part) → SoundNamed n m i home part → SoundNamed n' m' i home part
      one (Own f a b) part k = let less = k.0 in (omega (arith, less, le), k.1, k.2, k.3)
      one (Theirs j) part k =
          (k.0, theirs_sound (m (Theirs j)) (m' (Theirs j)) (part.from + part.size) (s.theirs_stay j) k.1)

  -- What was shown of objects.

  abbrev pub StateKept : Owner → Option (List (Option ℕ)) → Option (List (Option ℕ)) → Type 0
  StateKept owner None None = Unit {0}
  StateKept owner None (Some new) = ⊥
  StateKept owner (Some old) None = owner ≡ Inside
  StateKept owner (Some old) (Some new) = Unit {0}

  pub record Shows (o : Object) (m : Memory) (home : Home) (part : Part) : Type 0 where
    pub owner : o.owner ≡ owner_of home
    pub kind : o.kind ≡ part.kind
    pub size : o.size ≡ part.size
    pub state : StateKept o.owner o.contents (contents_in (m home) part)

  abbrev pub ShowsAll : List Object → Memory → Naming → Type 0
  ShowsAll [] m [] = Unit {0}
  ShowsAll [] m (x ∷ ns) = ⊥
  ShowsAll (o ∷ os) m [] = ⊥
  ShowsAll (o ∷ os) m (x ∷ ns) = Shows o m x.home x.part × ShowsAll os m ns

  state_own : (part : Part) (owner : Owner) (c : Option (List (Option ℕ))) (o o' : Option (List Value)) →
      owner ≡ Inside → StepOwn o o' → StateKept owner c (contents_in o part) → StateKept owner c (contents_in o' part)
  state_own part owner None None None e h s = tt
  state_own part owner None None (Some ws) e h s = absurd (cc h)
  state_own part owner None (Some vs) o' e h s = absurd s
  state_own part owner (Some c) None None e h s = e
  state_own part owner (Some c) None (Some ws) e h s = absurd (cc h)
  state_own part owner (Some c) (Some vs) None e h s = e
  state_own part owner (Some c) (Some vs) (Some ws) e h s = tt

  state_same : (part : Part) (owner : Owner) (c : Option (List (Option ℕ))) (o o' : Option (List Value)) →
      SameLength o o' → StateKept owner c (contents_in o part) → StateKept owner c (contents_in o' part)
  state_same part owner None None None h s = tt
  state_same part owner (Some c) None None h s = s
  state_same part owner c None (Some ws) h s = absurd h
  state_same part owner c (Some vs) None h s = absurd h
  state_same part owner None (Some vs) (Some ws) h s = absurd s
  state_same part owner (Some c) (Some vs) (Some ws) h s = tt

  pub shows_step : (n : ℕ) (m m' : Memory) → MemoryStep n m m' → (i : ℕ) (os : List Object) (ns : Naming) →
      SoundNaming n m i ns → ShowsAll os m ns → ShowsAll os m' ns
  shows_step n m m' s i [] [] k h = tt
  shows_step n m m' s i [] (x ∷ ns) k h = absurd h
  shows_step n m m' s i (o ∷ os) [] k h = absurd h
  shows_step n m m' s i (o ∷ os) (x ∷ ns) k h = (one x.home x.part k.0 h.0, shows_step n m m' s (i + 1) os ns k.1 h.1)
    where
      one : (home : Home) (part : Part) → SoundNamed n m i home part → Shows o m home part → Shows o m' home part
      one (Own f a b) part u v =
          record {
            owner = v.owner;
            kind = v.kind;
            size = v.size;
            state = state_own part o.owner o.contents
                (m (Own f a b)) (m' (Own f a b)) v.owner (s.own f a b u.0) v.state;
          }
      one (Theirs j) part u v =
          record {
            owner = v.owner;
            kind = v.kind;
            size = v.size;
            state = state_same part o.owner o.contents
                (m (Theirs j)) (m' (Theirs j)) (s.theirs_stay j) v.state;
          }

  state_itself : (owner : Owner) (c : Option (List (Option ℕ))) → StateKept owner c c
  state_itself owner None = tt
  state_itself owner (Some c) = tt

  -- what is shown now
  pub shows_now : (m : Memory) (ns : Naming) → ShowsAll (objects_of m ns) m ns
  shows_now m [] = tt
  shows_now m (x ∷ ns) = (
    record {
      owner = refl;
      kind = refl;
      size = refl;
      state = state_itself (owner_of x.home)
          (contents_in (m x.home) x.part);
    },
    shows_now m ns,
  )

  -- An activation begins, and ends.

  pub theirs_set : (words : ℕ → Option (List Value)) (m : Memory) (name : NameBytes) (serial k : ℕ) (sizes : List ℕ)
      (j : ℕ) → set_blocks words m name serial k sizes (Theirs j) ≡ m (Theirs j)
  theirs_set words m name serial k [] j = refl
  theirs_set words m name serial k (size ∷ sizes) j = theirs_set words (with_block m (Own name serial k) (words size))
      name serial (k + 1) sizes j

  gone_or_same : (m : Memory) (name : NameBytes) (serial k : ℕ) (sizes : List ℕ) (home : Home) →
      (set_blocks gone m name serial k sizes home ≡ None) ⊎ (set_blocks gone m name serial k sizes home ≡ m home)
  gone_or_same m name serial k [] home = inr refl
  gone_or_same m name serial k (size ∷ sizes) home =
      let m' = with_block m (Own name serial k) None in
      ⊎_elim inl
      (λ e. ⊎_elim (λ (same : home ≡ Own name serial k). inl
      (e ∙ ap (λ v. m' v) same ∙ with_here m (Own name serial k) None))
      (λ differ. inr (e ∙ with_elsewhere m (Own name serial k) home None differ))
      (same_or_not home (Own name serial k)))
      (gone_or_same m' name serial (k + 1) sizes home)

  step_self : (o : Option (List Value)) → StepOwn o o
  step_self None = refl
  step_self (Some vs) = refl

  length_self : (o : Option (List Value)) → SameLength o o
  length_self None = tt
  length_self (Some vs) = refl

  step_gone : (o : Option (List Value)) → StepOwn o None
  step_gone None = refl
  step_gone (Some vs) = tt

  pub gone_step : (n : ℕ) (m : Memory) (name : NameBytes) (serial : ℕ) (sizes : List ℕ) →
      MemoryStep n m (set_blocks gone m name serial 0 sizes)
  gone_step n m name serial sizes = record {
    own = λ f a b less. ⊎_elim (λ e. subst (λ o. StepOwn (m (Own f a b)) o) (sym e) (step_gone (m (Own f a b))))
        (λ e. subst (λ o. StepOwn (m (Own f a b)) o) (sym e) (step_self (m (Own f a b))))
        (gone_or_same m name serial 0 sizes (Own f a b));
    theirs_stay = λ k. subst (λ o. SameLength (m (Theirs k)) o) (sym (theirs_set gone m name serial 0 sizes k))
        (length_self (m (Theirs k)));
  }

  pub gone_sound : (n : ℕ) (m : Memory) (name : NameBytes) (serial : ℕ) (sizes : List ℕ) → SoundMemory n m →
      SoundMemory n (set_blocks gone m name serial 0 sizes)
  gone_sound n m name serial sizes s = λ f a b ws e. ⊎_elim (λ none. absurd (cc (none, e)))
      (λ same. s f a b ws (sym same ∙ e)) (gone_or_same m name serial 0 sizes (Own f a b))

  older_same : (word : Value) (m : Memory) (name : NameBytes) (serial : ℕ) (sizes : List ℕ) (f : NameBytes) (a b : ℕ) →
      (a ≡ serial → ⊥) → set_blocks (fresh word) m name serial 0 sizes (Own f a b) ≡ m (Own f a b)
  older_same word m name serial sizes f a b h = set_elsewhere (fresh word) m name serial 0 sizes (Own f a b)
      (λ j less e. h (cc e))

  pub fresh_step : (word : Value) (n : ℕ) (m : Memory) (name : NameBytes) (sizes : List ℕ) →
      MemoryStep n m (set_blocks (fresh word) m name n 0 sizes)
  fresh_step word n m name sizes = record {
    own = λ f a b less. subst (λ o. StepOwn (m (Own f a b)) o)
        (sym (older_same word m name n sizes f a b (λ same. omega (arith, less, same)))) (step_self (m (Own f a b)));
    theirs_stay = λ k. subst (λ o. SameLength (m (Theirs k)) o) (sym (theirs_set (fresh word) m name n 0 sizes k))
        (length_self (m (Theirs k)));
  }

  -- a new block, or one that was there
  fresh_or_same : (word : Value) (m : Memory) (name : NameBytes) (serial k : ℕ) (sizes : List ℕ) (home : Home) →
      ((j size : ℕ) × (slice_get sizes j ≡ Some size) × (home ≡ Own name serial (k + j))
      × (set_blocks (fresh word) m name serial k sizes home ≡ Some (so_many word size)))
      ⊎ (set_blocks (fresh word) m name serial k sizes home ≡ m home)
  fresh_or_same word m name serial k [] home = inr refl
  fresh_or_same word m name serial k (size ∷ sizes) home =
      let m' = with_block m (Own name serial k) (fresh word size) in
      ⊎_elim
      (λ (h : (j size : ℕ) × (slice_get sizes j ≡ Some size) × (home ≡ Own name serial (k + 1 + j))
      × (set_blocks (fresh word) m' name serial (k + 1) sizes home ≡ Some (so_many word size))).
      let next : k + 1 + h.0 ≡ k + suc h.0 = omega arith in
      inl (suc h.0, h.1, h.2, h.3 ∙ ap (λ i. Own name serial i) next, h.4))
      (λ e. ⊎_elim
      (λ (same : home ≡ Own name serial k).
      let here : k ≡ k + 0 = omega arith in
      inl (
        0,
        size,
        refl,
        same ∙ ap (λ i. Own name serial i) here,
        e ∙ ap (λ v. m' v) same
            ∙ with_here m (Own name serial k) (fresh word size),
      ))
      (λ differ. inr (e ∙ with_elsewhere m (Own name serial k) home (fresh word size) differ))
      (same_or_not home (Own name serial k)))
      (fresh_or_same word m' name serial (k + 1) sizes home)

  pub fresh_sound : (word : Value) (n : ℕ) (m : Memory) (name : NameBytes) (sizes : List ℕ) →
      ((j size : ℕ) → slice_get sizes j ≡ Some size → ArePlaced 0 size (layout name j)) → SoundMemory n m →
      SoundMemory (n + 1) (set_blocks (fresh word) m name n 0 sizes)
  fresh_sound word n m name sizes laid s = λ f a b ws e. ⊎_elim
      (λ (h : (j size : ℕ) × (slice_get sizes j ≡ Some size) × (Own f a b ≡ Own name n (0 + j))
      × (set_blocks (fresh word) m name n 0 sizes (Own f a b) ≡ Some (so_many word size))).
      let names : f ≡ name = cc h.3 in
      let serial : a ≡ n = cc h.3 in
      let block : b ≡ 0 + h.0 = cc h.3 in
      let block_is : b ≡ h.0 = omega (arith, block) in
      let words : so_many word h.1 ≡ ws = let there = h.4 in cc (there, e) in
      let count : length ws ≡ h.1 = ap length (sym words) ∙ so_many_length word h.1 in (
        omega (arith, serial),
        subst (λ k. FitIn f b k) (sym count) (subst (λ i. FitIn f i h.1) (sym block_is)
            (subst (λ v. FitIn v h.0 h.1) (sym names) (laid h.0 h.1 h.2))),
      ))
      (λ same. let old = s f a b ws (sym same ∙ e) in let less = old.0 in (omega (arith, less), old.1))
      (fresh_or_same word m name n 0 sizes (Own f a b))

  -- How a naming grows.

  abbrev pub IsOwnHome : Home → Type 0
  IsOwnHome (Own f a b) = Unit {0}
  IsOwnHome (Theirs k) = ⊥

  abbrev pub AllOwn : Naming → Type 0
  AllOwn [] = Unit {0}
  AllOwn (x ∷ ns) = IsOwnHome x.home × AllOwn ns

  -- the objects that crossed before, and then some of the unit's own
  pub data Extends : Naming → Naming → Type 0 where
    news : {ms : Naming} → AllOwn ms → Extends [] ms
    olds : {x : Named} {ns ms : Naming} → Extends ns ms → Extends (x ∷ ns) (x ∷ ms)

  extends_self : (ns : Naming) → Extends ns ns
  extends_self [] = news tt
  extends_self (x ∷ ns) = olds (extends_self ns)

  own_append : (ns : Naming) (f : NameBytes) (a b : ℕ) (part : Part) →
      Extends ns (ns ++ record { home = Own f a b; part = part } ∷ [])
  own_append [] f a b part = news (tt, tt)
  own_append (x ∷ ns) f a b part = olds (own_append ns f a b part)

  all_own_more : (ms ks : Naming) → AllOwn ms → Extends ms ks → AllOwn ks
  all_own_more ms ks h (news k) = k
  all_own_more ms ks h (olds {ns = rest} {ms = more} e) = (h.0, all_own_more rest more h.1 e)

  extends_both : {ns ms ks : Naming} → Extends ns ms → Extends ms ks → Extends ns ks
  extends_both {ms = ms} {ks = ks} (news h) k = news (all_own_more ms ks h k)
  extends_both (olds h) (olds k) = olds (extends_both h k)

  sound_append : (n : ℕ) (m : Memory) (i : ℕ) (ns : Naming) (f : NameBytes) (a b : ℕ) (part : Part) →
      SoundNaming n m i ns → (j : ℕ) → SoundNamed n m j (Own f a b) part →
      SoundNaming n m i (ns ++ record { home = Own f a b; part = part } ∷ [])
  sound_append n m i [] f a b part h j k = (k, tt)
  sound_append n m i (x ∷ ns) f a b part h j k = (h.0, sound_append n m (i + 1) ns f a b part h.1 j k)

  pub record Grown (n : ℕ) (m : Memory) (ns ms : Naming) : Type 0 where
    pub sound : SoundNaming n m 0 ms
    pub more : Extends ns ms

  grown_same : (n : ℕ) (m : Memory) (ns ms : Naming) → SoundNaming n m 0 ns → ns ≡ ms → Grown n m ns ms
  grown_same n m ns ms s e = subst (λ v. Grown n m ns v) e (record { sound = s; more = extends_self ns })

  grown_by : (n : ℕ) (m : Memory) (ns : Naming) → SoundNaming n m 0 ns → (v : Value) (x : Shown) (ms : Naming) →
      named_by (parts_at layout n) ns v x ≡ Some ms → Grown n m ns ms
  grown_by n m ns s (Number v) (Word w) ms e = by (nat_eq v w) e
    where
      by : (t : Bool) → (if t then Some ns else None) ≡ Some ms → Grown n m ns ms
      by true g = grown_same n m ns ms s (cc g)
      by false g = absurd (cc g)
  grown_by n m ns s (Number v) (Place k pl) ms e = absurd (cc e)
  grown_by n m ns s (Hidden what) (Word w) ms e = absurd (cc e)
  grown_by n m ns s (Hidden what) (Place k pl) ms e = absurd (cc e)
  grown_by n m ns s (Pointer home at) (Word w) ms e = absurd (cc e)
  grown_by n m ns s (Pointer home at) (Place k pl) ms e = by (nat_lt k (length ns)) (nat_eq k (length ns)) e
    where
      old : (t : Bool) → (if t then Some ns else None) ≡ Some ms → Grown n m ns ms
      old true g = grown_same n m ns ms s (cc g)
      old false g = absurd (cc g)

      seen : (o : Option Named) → again o ns home at pl ≡ Some ms → Grown n m ns ms
      seen None g = absurd (cc g)
      seen (Some x) g = old (same_home x.home home && is_place x.part at pl) g

      added : (f : NameBytes) (a b : ℕ) (part : Part) → SoundNamed n m 0 (Own f a b) part → (o : Option ℕ) →
          if_new o ns (record { home = Own f a b; part = part }) ≡ Some ms → Grown n m ns ms
      added f a b part k (Some j) g = absurd (cc g)
      added f a b part k None g = subst (λ v. Grown n m ns v)
          (let same : ns ++ record { home = Own f a b; part = part } ∷ [] ≡ ms = cc g in same)
          (record { sound = sound_append n m 0 ns f a b part s 0 k; more = own_append ns f a b part })

      began : (f : NameBytes) (a b : ℕ) (part : Part) (t : Bool) → nat_lt a n ≡ t →
          part_by (if t then layout f b else []) at pl ≡ Some part → SoundNamed n m 0 (Own f a b) part
      began f a b part true i g = (ltb-true a n i, at, pl, g)
      began f a b part false i g = absurd (cc g)

      new : (h : Home) (o : Option Part) → part_by (parts_at layout n h) at pl ≡ o → first_time o ns h ≡ Some ms →
          Grown n m ns ms
      new h None i g = absurd (cc g)
      new (Theirs j) (Some part) i g = absurd (cc g)
      new (Own f a b) (Some part) i g = added f a b part (began f a b part (nat_lt a n) refl i)
          (number_of ns (Own f a b) part) g

      by : (t u : Bool) →
          (if t then again (slice_get ns k) ns home at pl else
          (if u then first_time (part_by (parts_at layout n home) at pl) ns home else None)) ≡ Some ms → Grown n m ns ms
      by true u g = seen (slice_get ns k) g
      by false true g = new home (part_by (parts_at layout n home) at pl) refl g
      by false false g = absurd (cc g)

  pub all_grown : (n : ℕ) (m : Memory) (vs : List Value) (xs : List Shown) (ns : Naming) → SoundNaming n m 0 ns →
      (ms : Naming) → all_named_by (parts_at layout n) ns vs xs ≡ Some ms → Grown n m ns ms
  all_grown n m [] [] ns s ms e = grown_same n m ns ms s (cc e)
  all_grown n m [] (x ∷ xs) ns s ms e = absurd (cc e)
  all_grown n m (v ∷ vs) [] ns s ms e = absurd (cc e)
  all_grown n m (v ∷ vs) (x ∷ xs) ns s ms e = by (λ ks t g. all_grown n m vs xs ks t ms g)
      (named_by (parts_at layout n) ns v x) refl e
    where
      by : ((ks : Naming) → SoundNaming n m 0 ks → all_named_by (parts_at layout n) ks vs xs ≡ Some ms →
          Grown n m ks ms) → (o : Option Naming) → named_by (parts_at layout n) ns v x ≡ o →
          and_then o (λ ks. all_named_by (parts_at layout n) ks vs xs) ≡ Some ms → Grown n m ns ms
      by more None i g = absurd (cc g)
      by more (Some ks) i g =
          let first = grown_by n m ns s v x ks i in
          let rest = more ks first.sound g in
          record { sound = rest.sound; more = extends_both first.more rest.more }

  -- What a crossing shows.

  contents_length : (ws : List Value) (from size : ℕ) → from + size ≤ length ws →
      length (contents (cells ws from size)) ≡ size
  contents_length [] from zero le = refl
  contents_length [] from (suc size) le = absurd (omega (arith, le))
  contents_length (w ∷ ws) from zero le = refl
  contents_length (w ∷ ws) zero (suc size) le = ap suc (contents_length ws zero size (omega (arith, le)))
  contents_length (w ∷ ws) (suc from) (suc size) le = contents_length ws from (suc size) (omega (arith, le))

  -- the part lies in its block, if that is there
  in_block : (n : ℕ) (m : Memory) (i : ℕ) → SoundMemory n m → (home : Home) (part : Part) → SoundNamed n m i home part →
      (ws : List Value) → m home ≡ Some ws → part.from + part.size ≤ length ws
  in_block n m i s (Own f a b) part k ws e = let fits = s f a b ws e in
      let w = part_in 0 (length ws) (layout f b) fits.1 k.1 k.2 part k.3 in w.end
  in_block n m i s (Theirs j) part k ws e = k.1 ws e

  own_contents : (n : ℕ) (m : Memory) (i : ℕ) → SoundMemory n m → (home : Home) (part : Part) →
      SoundNamed n m i home part → (o : Option (List Value)) → m home ≡ o →
      OwnContents (object_of m (record { home = home; part = part })) (contents_in o part)
  own_contents n m i s home part k None e = tt
  own_contents n m i s home part k (Some ws) e = contents_length ws part.from part.size
      (in_block n m i s home part k ws e)

  is_own : (n : ℕ) (m : Memory) (i : ℕ) → SoundMemory n m → (home : Home) (part : Part) → SoundNamed n m i home part →
      IsOwnHome home → IsOwn (object_of m (record { home = home; part = part }))
  is_own n m i s (Own f a b) part k h =
      record { owner = refl; contents = own_contents n m i s (Own f a b) part k (m (Own f a b)) refl }
  is_own n m i s (Theirs j) part k h = absurd h

  all_are_own : (n : ℕ) (m : Memory) (i : ℕ) → SoundMemory n m → (ms : Naming) → SoundNaming n m i ms → AllOwn ms →
      Each IsOwn (objects_of m ms)
  all_are_own n m i s [] k h = tt
  all_are_own n m i s (x ∷ ms) k h = (is_own n m i s x.home x.part k.0 h.0, all_are_own n m (i + 1) s ms k.1 h.1)

  leaves_state : (n : ℕ) (m : Memory) (i : ℕ) → SoundMemory n m → (home : Home) (part : Part) →
      SoundNamed n m i home part → (o : Object) → o.size ≡ part.size →
      (c : Option (List (Option ℕ))) (x : Option (List Value)) → m home ≡ x → StateKept o.owner c (contents_in x part) →
      LeavesContents o c (contents_in x part)
  leaves_state n m i s home part k o size None None e h = tt
  leaves_state n m i s home part k o size None (Some ws) e h = absurd h
  leaves_state n m i s home part k o size (Some c) None e h = h
  leaves_state n m i s home part k o size (Some c) (Some ws) e h =
      contents_length ws part.from part.size (in_block n m i s home part k ws e) ∙ sym size

  pub leaves_all : (n : ℕ) (m : Memory) → SoundMemory n m → (i : ℕ) (os : List Object) (ns ms : Naming) →
      SoundNaming n m i ms → Extends ns ms → ShowsAll os m ns → LeavesAll os (objects_of m ms)
  leaves_all n m s i [] ns ms k (news h) w = all_are_own n m i s ms k h
  leaves_all n m s i (o ∷ os) ns ms k (news h) w = absurd w
  leaves_all n m s i [] ns ms k (olds e) w = absurd w
  leaves_all n m s i (o ∷ os) ns ms k (olds {x = x} {ns = rest} {ms = more} e) w =
      let v = w.0 in (
        record {
          owner = sym v.owner;
          kind = sym v.kind;
          size = sym v.size;
          contents =
              leaves_state n m i s x.home x.part k.0 o v.size o.contents (m x.home) refl v.state;
        },
        leaves_all n m s
            (i + 1) os rest more k.1 e w.1,
      )

  -- What the outside leaves.

  abbrev pub SameState : Option (List (Option ℕ)) → Option (List (Option ℕ)) → Type 0
  SameState None None = Unit {0}
  SameState None (Some d) = ⊥
  SameState (Some c) None = ⊥
  SameState (Some c) (Some d) = Unit {0}

  -- as it was shown, but for its words
  pub record Exact (o : Object) (m : Memory) (home : Home) (part : Part) : Type 0 where
    pub owner : o.owner ≡ owner_of home
    pub kind : o.kind ≡ part.kind
    pub size : o.size ≡ part.size
    pub state : SameState o.contents (contents_in (m home) part)

  abbrev pub ExactAll : List Object → Memory → Naming → Type 0
  ExactAll [] m [] = Unit {0}
  ExactAll [] m (x ∷ ns) = ⊥
  ExactAll (o ∷ os) m [] = ⊥
  ExactAll (o ∷ os) m (x ∷ ns) = Exact o m x.home x.part × ExactAll os m ns

  same_state_self : (c : Option (List (Option ℕ))) → SameState c c
  same_state_self None = tt
  same_state_self (Some c) = tt

  pub exact_now : (m : Memory) (ns : Naming) → ExactAll (objects_of m ns) m ns
  exact_now m [] = tt
  exact_now m (x ∷ ns) = (
    record { owner = refl; kind = refl; size = refl; state = same_state_self (contents_in (m x.home) x.part) },
    exact_now m ns,
  )

  state_lengths : (part : Part) (c : Option (List (Option ℕ))) (o o' : Option (List Value)) → SameLength o o' →
      SameState c (contents_in o part) → SameState c (contents_in o' part)
  state_lengths part c None None h s = s
  state_lengths part c None (Some ws) h s = absurd h
  state_lengths part c (Some vs) None h s = absurd h
  state_lengths part None (Some vs) (Some ws) h s = absurd s
  state_lengths part (Some c) (Some vs) (Some ws) h s = tt

  -- the memory with what the outside left of one object
  record LeftOne (i : ℕ) (m m' : Memory) : Type 0 where
    own : (f : NameBytes) (a b : ℕ) → SameLength (m (Own f a b)) (m' (Own f a b))
    others : (j : ℕ) → (j ≡ i → ⊥) → m' (Theirs j) ≡ m (Theirs j)

  left_own : (f : NameBytes) (a b : ℕ) (part : Part) (o : Option (List Value)) (c : Option (List (Option ℕ))) →
      SameLength o (left_in (record { home = Own f a b; part = part }) o c)
  left_own f a b part None c = tt
  left_own f a b part (Some vs) None = refl
  left_own f a b part (Some vs) (Some ws) = written_length vs part.from part.size ws

  left_one : (n : ℕ) (m : Memory) (i : ℕ) (home : Home) (part : Part) → SoundNamed n m i home part →
      (c : Option (List (Option ℕ))) →
      LeftOne i m (with_block m home (left_in (record { home = home; part = part }) (m home) c))
  left_one n m i (Own f a b) part k c = record {
    own = λ g d e. ⊎_elim
        (λ (same : Own g d e ≡ Own f a b).
        let m' = with_block m (Own f a b) (left_in (record { home = Own f a b; part = part }) (m (Own f a b)) c) in
        let new : m' (Own g d e) ≡ left_in (record { home = Own f a b; part = part }) (m (Own f a b)) c =
        ap m' same ∙ with_here m (Own f a b) _ in
        subst (λ o. SameLength (m (Own g d e)) o) (sym new)
        (subst (λ h. SameLength (m h) (left_in (record { home = Own f a b; part = part }) (m (Own f a b)) c))
        (sym same) (left_own f a b part (m (Own f a b)) c)))
        (λ differ. subst (λ o. SameLength (m (Own g d e)) o) (sym (with_elsewhere m (Own f a b) (Own g d e) _ differ))
        (length_self (m (Own g d e))))
        (same_or_not (Own g d e) (Own f a b));
    others = λ j differ. refl;
  }
  left_one n m i (Theirs j) part k c = record {
    own = λ g d e. length_self (m (Own g d e));
    others = λ q differ. with_elsewhere m (Theirs j) (Theirs q) _
        (λ same. let is : q ≡ j = cc same in differ (is ∙ k.0));
  }

  exact_rest : (n : ℕ) (m m' : Memory) (i q : ℕ) → LeftOne i m m' → i < q → (os : List Object) (ns : Naming) →
      SoundNaming n m q ns → ExactAll os m ns → ExactAll os m' ns
  exact_rest n m m' i q l less [] [] k h = tt
  exact_rest n m m' i q l less [] (x ∷ ns) k h = absurd h
  exact_rest n m m' i q l less (o ∷ os) [] k h = absurd h
  exact_rest n m m' i q l less (o ∷ os) (x ∷ ns) k h =
      (one x.home x.part k.0 h.0, exact_rest n m m' i (q + 1) l (omega (arith, less)) os ns k.1 h.1)
    where
      one : (home : Home) (part : Part) → SoundNamed n m q home part → Exact o m home part → Exact o m' home part
      one (Own f a b) part u v =
          record {
            owner = v.owner;
            kind = v.kind;
            size = v.size;
            state = state_lengths part o.contents (m (Own f a b))
                (m' (Own f a b)) (l.own f a b) v.state;
          }
      one (Theirs j) part u v = let is = u.0 in record {
        owner = v.owner;
        kind = v.kind;
        size = v.size;
        state = subst
            (λ w. SameState o.contents (contents_in w part)) (sym (l.others j (λ same. omega (arith, less, is, same))))
            v.state;
      }

  sound_rest : (n : ℕ) (m m' : Memory) (i q : ℕ) → LeftOne i m m' → i < q → (ns : Naming) → SoundNaming n m q ns →
      SoundNaming n m' q ns
  sound_rest n m m' i q l less [] k = tt
  sound_rest n m m' i q l less (x ∷ ns) k =
      (one x.home x.part k.0, sound_rest n m m' i (q + 1) l (omega (arith, less)) ns k.1)
    where
      one : (home : Home) (part : Part) → SoundNamed n m q home part → SoundNamed n m' q home part
      one (Own f a b) part u = u
      one (Theirs j) part u = let is =
          u.0 in (u.0, λ ws e. u.1 ws (sym (l.others j (λ same. omega (arith, less, is, same))) ∙ e))

  own_sound : (n : ℕ) (m m' : Memory) → ((f : NameBytes) (a b : ℕ) → SameLength (m (Own f a b)) (m' (Own f a b))) →
      SoundMemory n m → SoundMemory n m'
  own_sound n m m' h s = λ f a b. sound_at n f a b (m (Own f a b)) (m' (Own f a b)) (h f a b) (s f a b)

  pub record BroughtSo (n i : ℕ) (m : Memory) (os : List Object) (c : Crossed) : Type 0 where
    pub memory : SoundMemory n c.memory
    pub naming : SoundNaming n c.memory i c.naming
    pub shows : ShowsAll os c.memory c.naming
    pub own : (f : NameBytes) (a b : ℕ) → SameLength (m (Own f a b)) (c.memory (Own f a b))
    pub older : (j : ℕ) → j < i → c.memory (Theirs j) ≡ m (Theirs j)

  -- what the outside left of an object is what its label shows
  left_state : (part : Part) (old o : Object) → (home : Home) → old.owner ≡ owner_of home →
      (c d : Option (List (Option ℕ))) (x : Option (List Value)) → SameState c (contents_in x part) →
      ChangesTo old c d → StateKept o.owner d (contents_in (left_in (record { home = home; part = part }) x d) part)
  left_state part old o home e None None None s h = tt
  left_state part old o home e None None (Some ws) s h = absurd s
  left_state part old o home e None (Some d) x s h = absurd h
  left_state part old o home e (Some c) d None s h = absurd s
  left_state part old o home e (Some c) (Some d) (Some ws) s h = tt
  left_state part old o (Own f a b) e (Some c) None (Some ws) s h = absurd (cc (h, e))
  left_state part old o (Theirs j) e (Some c) None (Some ws) s h = tt

  new_state : (part : Part) (owner : Owner) (size : ℕ) (c : Option (List (Option ℕ))) →
      StateKept owner c (contents_in (new_block size c) part)
  new_state part owner size None = tt
  new_state part owner size (Some c) = tt

  new_length : (size : ℕ) (c : Option (List (Option ℕ))) (ws : List Value) → new_block size c ≡ Some ws →
      0 + size ≤ length ws
  new_length size None ws e = absurd (cc e)
  new_length size (Some c) ws e = let same : filled size c ≡ ws = cc e in let count : length ws ≡ size =
      ap length (sym same) ∙ filled_length size c in omega (arith, count)

  left_length : (n : ℕ) (j : ℕ) (part : Part) (x : Option (List Value)) (c : Option (List (Option ℕ))) →
      ((ws : List Value) → x ≡ Some ws → n ≤ length ws) → (ws : List Value) →
      left_in (record { home = Theirs j; part = part }) x c ≡ Some ws → n ≤ length ws
  left_length n j part None c h ws e = absurd (cc e)
  left_length n j part (Some vs) None h ws e = absurd (cc e)
  left_length n j part (Some vs) (Some us) h ws e =
      let same : written vs part.from part.size us ≡ ws = cc e in
      let count : length ws ≡ length vs = ap length (sym same) ∙ written_length vs part.from part.size us in
      let old = h vs refl in
      omega (arith, count, old)

  module _ (o : Object) (os : List Object) (n : ℕ) (m : Memory) (i : ℕ) (p : Object) (x : Named) (ns : Naming) where
    abbrev left_here : Memory
    left_here = with_block m x.home (left_in x (m x.home) o.contents)

    abbrev after : Crossed
    after = brought left_here ns (i + 1) os

    at_home : left_here x.home ≡ left_in x (m x.home) o.contents
    at_home = with_here m x.home (left_in x (m x.home) o.contents)

    head_length : (home : Home) (part : Part) → SoundNamed n m i home part → BroughtSo n (i + 1) left_here os after →
        SameLength (left_here home) (after.memory home)
    head_length (Own f a b) part k rest = rest.own f a b
    head_length (Theirs j) part k rest = let is = k.0 in subst (λ v. SameLength (left_here (Theirs j)) v)
        (sym (rest.older j (omega (arith, is)))) (length_self (left_here (Theirs j)))

    head_sound : (home : Home) (part : Part) → SoundNamed n m i home part →
        left_here home ≡ left_in (record { home = home; part = part }) (m home) o.contents →
        SameLength (left_here home) (after.memory home) → SoundNamed n after.memory i home part
    head_sound (Own f a b) part k e h = k
    head_sound (Theirs j) part k e h = (
      k.0,
      theirs_sound (left_here (Theirs j)) (after.memory (Theirs j)) (part.from + part.size) h
          (λ ws f. left_length (part.from + part.size) j part (m (Theirs j)) o.contents k.1 ws (sym e ∙ f)),
    )

    head_so : SoundNamed n m i x.home x.part → Exact p m x.home x.part → Changes p o →
        BroughtSo n (i + 1) left_here os after → LeftOne i m left_here →
        BroughtSo n i m (o ∷ os) (brought m (x ∷ ns) i (o ∷ os))
    head_so k e c rest l =
        let count = head_length x.home x.part k rest in
        record {
          memory = rest.memory;
          naming = (head_sound x.home x.part k at_home count, rest.naming);
          shows = (
            record {
              owner = c.owner ∙ e.owner;
              kind = c.kind ∙ e.kind;
              size = c.size ∙ e.size;
              state = state_same x.part o.owner o.contents (left_here x.home) (after.memory x.home) count
                  (subst (λ v. StateKept o.owner o.contents (contents_in v x.part)) (sym at_home)
                  (left_state x.part p o x.home e.owner p.contents o.contents (m x.home) e.state c.contents));
            },
            rest.shows,
          );
          own = λ f a b. same_length_both (m (Own f a b)) (left_here (Own f a b)) (after.memory (Own f a b))
              (l.own f a b) (rest.own f a b);
          older = λ j less. rest.older j (omega (arith, less)) ∙ l.others j (λ same. omega (arith, less, same));
        }

  pub brought_so : (os : List Object) (n : ℕ) (m : Memory) → SoundMemory n m →
      (i : ℕ) (before : List Object) (ns : Naming) → SoundNaming n m i ns → ExactAll before m ns → Continues before os →
      BroughtSo n i m os (brought m ns i os)
  brought_so [] n m s i [] [] k e c =
      record { memory = s; naming = tt; shows = tt; own = λ f a b. length_self (m (Own f a b)); older = λ j less. refl }
  brought_so os n m s i [] (x ∷ ns) k e c = absurd e
  brought_so os n m s i (p ∷ before) [] k e c = absurd e
  brought_so [] n m s i (p ∷ before) (x ∷ ns) k e c = absurd c
  brought_so (o ∷ os) n m s i [] [] k e c =
      let m' = with_block m (Theirs i) (new_block o.size o.contents) in
      let rest = brought_so os n m' s (i + 1) [] [] tt tt c.1 in
      let is_new = c.0 in
      let same : (brought m' [] (i + 1) os).memory (Theirs i) ≡ new_block o.size o.contents = rest.older i (omega arith)
      ∙ with_here m (Theirs i) (new_block o.size o.contents) in
      let part : Part = record { from = 0; size = o.size; kind = o.kind } in
      record {
        memory = rest.memory;
        naming = ((refl, λ ws f. new_length o.size o.contents ws (sym same ∙ f)), rest.naming);
        shows = (
          record {
            owner = is_new.owner;
            kind = refl;
            size = refl;
            state = subst
                (λ v. StateKept o.owner o.contents (contents_in v part)) (sym same)
                (new_state part o.owner o.size o.contents);
          },
          rest.shows,
        );
        own = rest.own;
        older = λ j less. rest.older j (omega (arith, less))
            ∙ with_elsewhere m (Theirs i) (Theirs j) (new_block o.size o.contents)
            (λ f. let is : j ≡ i = cc f in omega (arith, less, is));
      }
  brought_so (o ∷ os) n m s i (p ∷ before) (x ∷ ns) k e c =
      let m' = with_block m x.home (left_in x (m x.home) o.contents) in
      let l = left_one n m i x.home x.part k.0 o.contents in
      let rest = brought_so os n m' (own_sound n m m' l.own s) (i + 1) before ns
      (sound_rest n m m' i (i + 1) l (omega arith) ns k.1)
      (exact_rest n m m' i (i + 1) l (omega arith) before ns k.1 e.1) c.1 in
      head_so o os n m i p x ns k.0 e.0 c.0 rest l
