-- What accesses do to a share, to memory and to the footprint.
use Rattle.std.proofs.Common.{◌≡◌, ℕ, suc, ◌<◌, ◌≤◌, List, [], ◌∷◌, ◌⊎◌, Option, Some, None, Bool, true, false, if◌then◌else◌, length, slice_get, slice_set, nat_eq, nat_lt, inl, inr, refl, sym, ap, ◌∙◌, subst, ⊎_elim, arith, eqb-true, ltb-true, ltb-false}
use Rattle.std.proofs.lemmas.Bool.Decides.{nat_tests}
use Rattle.cas_base.specs.declared.kind.Kind.{Kind}
use Rattle.cas_runs.specs.Label.{Share, locks_of}
use Rattle.cas_runs.specs.Edge.{Cell, LockWord, SharedWord, TableWord, Edge, AreOfKinds, guarded, AreGuarded, AreUnder, AreAbove, IsOrdered, IsShare}
use Rattle.cas_runs.specs.Outside.{IsAmong, first, later}
use Rattle.cas_runs.specs.Naming.{Home, Value, Memory, with_block}
use Rattle.cas_runs.specs.Machine.{Footprint}
use Rattle.cas_runs.specs.Rules.{and_lock, IsShared}
use Rattle.cas_runs.specs.Rules as rules
use Rattle.cas_runs.specs.Access.{Accesses, Reads, Writes, Loads, Stores, Looks, Then, Fails, Holding, words_in, with_lock, without_lock, with_words, place_among, word_in, Doing, has_read, has_written, has_stored, Performed, failed, reads_as, reads_cell, under, writes_in, writes_cell, number_in, reads_word, writes_word, value_in, loads_as, stores_in, length_of, performed}
use Rattle.cas_runs.proofs.Tests.{eq_self}
use Rattle.cas_runs.proofs.Cells.{set_length}
use Rattle.cas_runs.proofs.Placing.{with_here, with_elsewhere, same_or_not}

pub kinds_count : (ws : List ℕ) (ks : List Kind) → AreOfKinds ws ks → length ws ≡ length ks
kinds_count [] [] h = refl
kinds_count [] (k ∷ ks) h = absurd h
kinds_count (w ∷ ws) [] h = absurd h
kinds_count (w ∷ ws) (k ∷ ks) h = ap suc (kinds_count ws ks h.1)

pub guarded_under : (edge : Edge) (lock : ℕ) (ws : List ℕ) → AreGuarded edge lock ws → AreUnder edge lock ws
guarded_under edge lock ws h = record { is_lock = h.is_lock; count = kinds_count ws (guarded lock edge.cells) h.kinds }

pub share_ordered : (edge : Edge) (hs : Share) → IsShare edge hs → IsOrdered edge hs
share_ordered edge [] h = tt
share_ordered edge (k ∷ hs) h = (guarded_under edge k.lock k.words h.0, h.1, share_ordered edge hs h.2)

-- A lock of the share.

pub record Found (edge : Edge) (hs : Share) (lock : ℕ) (ws : List ℕ) : Type 0 where
  pub among : IsAmong lock (locks_of hs)
  pub under : AreUnder edge lock ws

pub found : (edge : Edge) (hs : Share) → IsOrdered edge hs → (lock : ℕ) (ws : List ℕ) → words_in hs lock ≡ Some ws →
    Found edge hs lock ws
found edge [] o lock ws e = absurd (cc e)
found edge (k ∷ hs) o lock ws e = by (nat_eq k.lock lock) refl (λ g. found edge hs o.2 lock ws g) e
  where
    by : (t : Bool) → nat_eq k.lock lock ≡ t → (words_in hs lock ≡ Some ws → Found edge hs lock ws) →
        (if t then Some k.words else words_in hs lock) ≡ Some ws → Found edge (k ∷ hs) lock ws
    by true i more g =
        let lock_same : k.lock ≡ lock = eqb-true k.lock lock i in
        let words_same : k.words ≡ ws = cc g in
        record {
          among = subst (λ n. IsAmong n (k.lock ∷ locks_of hs)) lock_same first;
          under = subst
              (λ n. AreUnder edge n ws) lock_same (subst (λ v. AreUnder edge k.lock v) words_same o.0);
        }
    by false i more g = let m = more g in record { among = later m.among; under = m.under }

pub not_found : (hs : Share) (lock : ℕ) → words_in hs lock ≡ None → IsAmong lock (locks_of hs) → ⊥
not_found [] lock e h = elim h [ ]
not_found (k ∷ hs) lock e h = by (nat_eq k.lock lock) refl (λ g m. not_found hs lock g m) e
  where
    in_list : (n : ℕ) (ls : List ℕ) → IsAmong lock (n ∷ ls) → (n ≡ lock) ⊎ IsAmong lock ls
    in_list n ls first = inl refl
    in_list n ls (later m) = inr m

    by : (t : Bool) → nat_eq k.lock lock ≡ t → (words_in hs lock ≡ None → IsAmong lock (locks_of hs) → ⊥) →
        (if t then Some k.words else words_in hs lock) ≡ None → ⊥
    by true i more g = cc g
    by false i more g =
        ⊎_elim (λ same. let yes : nat_eq k.lock lock ≡ true = subst (λ n. nat_eq k.lock n ≡ true) same (eq_self k.lock)
        in cc (yes, i)) (λ m. more g m) (in_list k.lock (locks_of hs) h)

-- The share with other words, with a lock more, and with one less.

above_less : (m n : ℕ) (hs : Share) → m ≤ n → AreAbove n hs → AreAbove m hs
above_less m n [] le h = tt
above_less m n (k ∷ hs) le h = let less = h.0 in (omega (arith, le, less), above_less m n hs le h.1)

above_with_words : (n lock : ℕ) (ws : List ℕ) (hs : Share) → AreAbove n hs → AreAbove n (with_words hs lock ws)
above_with_words n lock ws [] h = tt
above_with_words n lock ws (k ∷ hs) h = by (nat_eq k.lock lock) refl (above_with_words n lock ws hs h.1)
  where
    by : (t : Bool) → nat_eq k.lock lock ≡ t → AreAbove n (with_words hs lock ws) →
        AreAbove n (if t then record { lock = lock; words = ws } ∷ hs else k ∷ with_words hs lock ws)
    by true i rest = (subst (λ m. n < m) (eqb-true k.lock lock i) h.0, h.1)
    by false i rest = (h.0, rest)

pub record OrderedAs (edge : Edge) (hs : Share) (locks : List ℕ) : Type 0 where
  pub ordered : IsOrdered edge hs
  pub locks_are : locks_of hs ≡ locks

pub with_words_ordered : (edge : Edge) (hs : Share) → IsOrdered edge hs → (lock : ℕ) (ws ws' : List ℕ) →
    words_in hs lock ≡ Some ws → length ws' ≡ length ws → OrderedAs edge (with_words hs lock ws') (locks_of hs)
with_words_ordered edge [] o lock ws ws' e n = absurd (cc e)
with_words_ordered edge (k ∷ hs) o lock ws ws' e n = by (nat_eq k.lock lock) refl
    (λ g. with_words_ordered edge hs o.2 lock ws ws' g n) e
  where
    by : (t : Bool) → nat_eq k.lock lock ≡ t →
        (words_in hs lock ≡ Some ws → OrderedAs edge (with_words hs lock ws') (locks_of hs)) →
        (if t then Some k.words else words_in hs lock) ≡ Some ws →
        OrderedAs edge (if t then record { lock = lock; words = ws' } ∷ hs else k ∷ with_words hs lock ws')
        (k.lock ∷ locks_of hs)
    by true i more g =
        let same : k.lock ≡ lock = eqb-true k.lock lock i in
        let words_same : k.words ≡ ws = cc g in
        let old = o.0 in
        let under : AreUnder edge lock ws' =
        record {
          is_lock = subst (λ m. slice_get edge.cells m ≡ Some LockWord) same old.is_lock;
          count = n
              ∙ ap length (sym words_same) ∙ old.count ∙ ap (λ m. length (guarded m edge.cells)) same;
        } in
        record {
          ordered = (under, subst (λ m. AreAbove m hs) same o.1, o.2);
          locks_are = ap (λ m. m ∷ locks_of hs)
              (sym same);
        }
    by false i more g = let m =
        more g in record {
          ordered = (o.0, above_with_words k.lock lock ws' hs o.1, m.ordered);
          locks_are = ap
              (λ v. k.lock ∷ v) m.locks_are;
        }

above_with_lock : (n lock : ℕ) (ws : List ℕ) (hs : Share) → n < lock → AreAbove n hs → AreAbove n (with_lock hs lock ws)
above_with_lock n lock ws [] less h = (less, tt)
above_with_lock n lock ws (k ∷ hs) less h = by (nat_lt lock k.lock) (above_with_lock n lock ws hs less h.1)
  where
    by : (t : Bool) → AreAbove n (with_lock hs lock ws) →
        AreAbove n (if t then record { lock = lock; words = ws } ∷ k ∷ hs else k ∷ with_lock hs lock ws)
    by true rest = (less, h)
    by false rest = (h.0, rest)

pub with_lock_ordered : (edge : Edge) (hs : Share) → IsOrdered edge hs → (lock : ℕ) (ws : List ℕ) →
    words_in hs lock ≡ None → AreUnder edge lock ws → OrderedAs edge (with_lock hs lock ws)
    (and_lock lock (locks_of hs))
with_lock_ordered edge [] o lock ws e u = record { ordered = (u, tt, tt); locks_are = refl }
with_lock_ordered edge (k ∷ hs) o lock ws e u = by (nat_lt lock k.lock) refl (nat_eq k.lock lock) refl
    (λ g. with_lock_ordered edge hs o.2 lock ws g u) e
  where
    by : (t : Bool) → nat_lt lock k.lock ≡ t → (v : Bool) → nat_eq k.lock lock ≡ v →
        (words_in hs lock ≡ None → OrderedAs edge (with_lock hs lock ws) (and_lock lock (locks_of hs))) →
        (if v then Some k.words else words_in hs lock) ≡ None →
        OrderedAs edge (if t then record { lock = lock; words = ws } ∷ k ∷ hs else k ∷ with_lock hs lock ws)
        (if t then lock ∷ k.lock ∷ locks_of hs else k.lock ∷ and_lock lock (locks_of hs))
    by t i true j more g = absurd (cc g)
    by true i false j more g = let less = ltb-true lock k.lock i in
        record { ordered = (u, (less, above_less lock k.lock hs (omega (arith, less)) o.1), o); locks_are = refl }
    by false i false j more g =
        let m = more g in
        let not_less : k.lock ≤ lock = ltb-false lock k.lock i in
        let differ : k.lock ≡ lock → ⊥ = λ same. let yes : nat_eq k.lock lock ≡ true =
        subst (λ n. nat_eq k.lock n ≡ true) same (eq_self k.lock) in cc (yes, j) in
        record {
          ordered = (o.0, above_with_lock k.lock lock ws hs (omega (arith, not_less, differ)) o.1, m.ordered);
          locks_are = ap (λ v. k.lock ∷ v) m.locks_are;
        }

above_without : (n lock : ℕ) (hs : Share) → AreAbove n hs → AreAbove n (without_lock hs lock)
above_without n lock [] h = tt
above_without n lock (k ∷ hs) h = by (nat_eq k.lock lock) (above_without n lock hs h.1)
  where
    by : (t : Bool) → AreAbove n (without_lock hs lock) → AreAbove n (if t then hs else k ∷ without_lock hs lock)
    by true rest = h.1
    by false rest = (h.0, rest)

pub without_lock_ordered : (edge : Edge) (hs : Share) → IsOrdered edge hs → (lock : ℕ) →
    OrderedAs edge (without_lock hs lock) (rules.except_lock lock (locks_of hs))
without_lock_ordered edge [] o lock = record { ordered = tt; locks_are = refl }
without_lock_ordered edge (k ∷ hs) o lock =
    subst (λ (v : Bool). OrderedAs edge (if nat_eq k.lock lock then hs else k ∷ without_lock hs lock)
    (if v then locks_of hs else k.lock ∷ rules.except_lock lock (locks_of hs)))
    (let same : nat_eq k.lock lock ≡ nat_eq lock k.lock = grind (arith, nat_tests) in same)
    (by (nat_eq k.lock lock) (without_lock_ordered edge hs o.2 lock))
  where
    by : (t : Bool) → OrderedAs edge (without_lock hs lock) (rules.except_lock lock (locks_of hs)) →
        OrderedAs edge (if t then hs else k ∷ without_lock hs lock)
        (if t then locks_of hs else k.lock ∷ rules.except_lock lock (locks_of hs))
    by true m = record { ordered = o.2; locks_are = refl }
    by false m =
        record {
          ordered = (o.0, above_without k.lock lock hs o.1, m.ordered);
          locks_are = ap (λ v. k.lock ∷ v)
              m.locks_are;
        }

-- The memory.

abbrev pub SameLength : Option (List Value) → Option (List Value) → Type 0
SameLength None None = Unit {0}
SameLength None (Some ws) = ⊥
SameLength (Some vs) None = ⊥
SameLength (Some vs) (Some ws) = length ws ≡ length vs

same_length_self : (o : Option (List Value)) → SameLength o o
same_length_self None = tt
same_length_self (Some vs) = refl

abbrev pub SameLengths : Memory → Memory → Type 0
SameLengths m m' = (home : Home) → SameLength (m home) (m' home)

pub same_length_both : (o o' o'' : Option (List Value)) → SameLength o o' → SameLength o' o'' → SameLength o o''
same_length_both None None None h k = tt
same_length_both None None (Some ws) h k = absurd k
same_length_both None (Some ws) o h k = absurd h
same_length_both (Some vs) None o h k = absurd h
same_length_both (Some vs) (Some ws) None h k = absurd k
same_length_both (Some vs) (Some ws) (Some us) h k = k ∙ h

stored_lengths : (m : Memory) (home : Home) (vs ws : List Value) → m home ≡ Some vs → length ws ≡ length vs →
    SameLengths m (with_block m home (Some ws))
stored_lengths m home vs ws e n other = ⊎_elim
    (λ (same : other ≡ home).
    let new : with_block m home (Some ws) other ≡ Some ws = ap (λ v. with_block m home (Some ws) v) same
    ∙ with_here m home (Some ws) in
    subst (λ o. SameLength o (with_block m home (Some ws) other)) (sym (ap m same ∙ e))
    (subst (λ o. SameLength (Some vs) o) (sym new) n))
    (λ differ. subst (λ o. SameLength (m other) o) (sym (with_elsewhere m home other (Some ws) differ))
    (same_length_self (m other)))
    (same_or_not other home)

-- A step.

module _ (edge : Edge) (h : Holding) where
  -- the words are of the share
  abbrev pub Shared : List ℕ → Type 0
  Shared ws = (w : ℕ) → IsAmong w ws → IsShared edge (locks_of h.share) w

  pub record Kept (k : Holding) (f : Footprint) : Type 0 where
    pub ordered : IsOrdered edge k.share
    pub locks_are : locks_of k.share ≡ locks_of h.share
    pub memory : SameLengths h.memory k.memory
    pub reads : Shared f.reads
    pub writes : Shared f.writes

  abbrev pub KeptDoing : Doing → Type 0
  KeptDoing d = Kept d.holding d.footprint

  abbrev pub KeptAll : {L : Type 0} → Performed L → Type 0
  KeptAll p = Kept p.holding p.footprint

  shared_more : (w : ℕ) (ws : List ℕ) → IsShared edge (locks_of h.share) w → Shared ws → Shared (w ∷ ws)
  shared_more w ws is rest u m = by m
    where
      by : {v : ℕ} → IsAmong v (w ∷ ws) → IsShared edge (locks_of h.share) v
      by first = is
      by (later n) = rest _ n

  is_shared : (d : Doing) → KeptDoing d → (word : ℕ) (kind : Kind) (guard initial : ℕ) (ws : List ℕ) →
      slice_get edge.cells word ≡ Some (SharedWord kind (Some guard) initial) →
      words_in d.holding.share guard ≡ Some ws → IsShared edge (locks_of h.share) word
  is_shared d k word kind guard initial ws c e = let m = found edge d.holding.share k.ordered guard ws e in
      record {
        kind = kind;
        guard = guard;
        initial = initial;
        there = c;
        held = subst (λ v. IsAmong guard v)
            k.locks_are m.among;
      }

  reads_kept : {L : Type 0} (d : Doing) → KeptDoing d → (go : ℕ → Doing → Performed L) →
      ((v : ℕ) (e : Doing) → KeptDoing e → KeptAll (go v e)) → (word : ℕ) (o : Option Cell) →
      slice_get edge.cells word ≡ o → KeptAll (reads_cell edge.cells o word d go)
  reads_kept d k go more word None c = k
  reads_kept d k go more word (Some LockWord) c = k
  reads_kept d k go more word (Some (TableWord value)) c = more value d k
  reads_kept d k go more word (Some (SharedWord kind None initial)) c = k
  reads_kept d k go more word (Some (SharedWord kind (Some guard) initial)) c = by (words_in d.holding.share guard) refl
    where
      read : (ws : List ℕ) → words_in d.holding.share guard ≡ Some ws → (o : Option ℕ) → KeptAll (reads_as o word d go)
      read ws e None = k
      read ws e (Some v) =
          more v (has_read d word)
          (record {
            ordered = k.ordered;
            locks_are = k.locks_are;
            memory = k.memory;
            reads =
                shared_more word d.footprint.reads (is_shared d k word kind guard initial ws c e) k.reads;
            writes =
                k.writes;
          })

      by : (o : Option (List ℕ)) → words_in d.holding.share guard ≡ o →
          KeptAll (reads_as (word_in o (place_among edge.cells guard word)) word d go)
      by None e = k
      by (Some ws) e = read ws e (slice_get ws (place_among edge.cells guard word))

  writes_kept : {L : Type 0} (d : Doing) → KeptDoing d → (go : Doing → Performed L) →
      ((e : Doing) → KeptDoing e → KeptAll (go e)) → (word value : ℕ) (o : Option Cell) →
      slice_get edge.cells word ≡ o → KeptAll (writes_cell edge.cells o word value d go)
  writes_kept d k go more word value None c = k
  writes_kept d k go more word value (Some LockWord) c = k
  writes_kept d k go more word value (Some (TableWord v)) c = k
  writes_kept d k go more word value (Some (SharedWord kind None initial)) c = k
  writes_kept d k go more word value (Some (SharedWord kind (Some guard) initial)) c =
      by (words_in d.holding.share guard) refl
    where
      wrote : (ws : List ℕ) → words_in d.holding.share guard ≡ Some ws → (t : Bool) →
          KeptAll (if t then go (has_written d word guard (slice_set ws (place_among edge.cells guard word) value))
          else failed d)
      wrote ws e false = k
      wrote ws e true =
          let o = with_words_ordered edge d.holding.share k.ordered guard ws
          (slice_set ws (place_among edge.cells guard word) value) e
          (set_length ws (place_among edge.cells guard word) value) in
          more (has_written d word guard (slice_set ws (place_among edge.cells guard word) value))
          (record {
            ordered = o.ordered;
            locks_are = o.locks_are
                ∙ k.locks_are;
            memory = k.memory;
            reads = k.reads;
            writes =
                shared_more word d.footprint.writes (is_shared d k word kind guard initial ws c e) k.writes;
          })

      by : (o : Option (List ℕ)) → words_in d.holding.share guard ≡ o →
          KeptAll (writes_in o (under edge.cells guard word) value d go)
      by None e = k
      by (Some ws) e = wrote ws e (nat_lt (place_among edge.cells guard word) (length ws))

  stores_kept : {L : Type 0} (d : Doing) → KeptDoing d → (go : Doing → Performed L) →
      ((e : Doing) → KeptDoing e → KeptAll (go e)) → (home : Home) (place : ℕ) (value : Value) (o : Option (List Value))
      → d.holding.memory home ≡ o → KeptAll (stores_in o home place value d go)
  stores_kept d k go more home place value None e = k
  stores_kept d k go more home place value (Some vs) e = by (nat_lt place (length vs))
    where
      by : (t : Bool) → KeptAll (if t then go (has_stored d home (slice_set vs place value)) else failed d)
      by false = k
      by true = more (has_stored d home (slice_set vs place value))
          (record {
            ordered = k.ordered;
            locks_are = k.locks_are;
            memory = λ other. same_length_both (h.memory other)
                (d.holding.memory other) _ (k.memory other)
                (stored_lengths d.holding.memory home vs (slice_set vs place value) e (set_length vs place value)
                other);
            reads = k.reads;
            writes = k.writes;
          })

  number_read : {L : Type 0} (d : Doing) → KeptDoing d → (go : ℕ → Doing → Performed L) →
      ((v : ℕ) (e : Doing) → KeptDoing e → KeptAll (go v e)) → (o : Option ℕ) → KeptAll (reads_word edge.cells o d go)
  number_read d k go more None = k
  number_read d k go more (Some word) = reads_kept d k go more word (slice_get edge.cells word) refl

  number_written : {L : Type 0} (d : Doing) → KeptDoing d → (go : Doing → Performed L) →
      ((e : Doing) → KeptDoing e → KeptAll (go e)) → (value : ℕ) (o : Option ℕ) →
      KeptAll (writes_word edge.cells o value d go)
  number_written d k go more value None = k
  number_written d k go more value (Some word) = writes_kept d k go more word value (slice_get edge.cells word) refl

  loads_kept : {L : Type 0} (d : Doing) → KeptDoing d → (go : Value → Performed L) → ((v : Value) → KeptAll (go v)) →
      (o : Option Value) → KeptAll (loads_as o d go)
  loads_kept d k go more None = k
  loads_kept d k go more (Some v) = more v

  pub performed_kept : {L : Type 0} (x : Accesses L) (d : Doing) → KeptDoing d → KeptAll (performed edge x d)
  performed_kept (Reads global offset next) d k = number_read d k _ (λ v e m. performed_kept (next v) e m)
      (number_in (edge.words global) offset)
  performed_kept (Writes global offset word next) d k =
      number_written d k _ (λ e m. performed_kept next e m) word (number_in (edge.words global) offset)
  performed_kept (Loads home place next) d k = loads_kept d k _ (λ v. performed_kept (next v) d k)
      (value_in (d.holding.memory home) place)
  performed_kept (Stores home place value next) d k = stores_kept d k _ (λ e m. performed_kept next e m)
      home place value (d.holding.memory home) refl
  performed_kept (Looks home next) d k = performed_kept (next (length_of (d.holding.memory home))) d k
  performed_kept (Then last) d k = k
  performed_kept Fails d k = k
