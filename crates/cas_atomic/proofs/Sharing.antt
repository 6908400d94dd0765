-- A run over atomic locks with the share as words and a set of locks is one with the share as a list.
use Rattle.std.proofs.Common.{◌≡◌, ℕ, suc, Bool, true, false, List, length, Option, Some, None, slice_get, sym, refl, ap, ◌∙◌, subst, inl, inr, arith}
use Rattle.std.specs.Prelude.{slice_set}
use Rattle.cas_base.specs.declared.kind.Kind.{Kind}
use Rattle.cas_runs.specs.Label.{Share, RunLabel}
use Rattle.cas_runs.specs.Edge.{Cell, LockWord, SharedWord, TableWord}
use Rattle.cas_runs.specs.Machine as run
use Rattle.cas_runs.specs.Machine.{Act, Quiet, Emits, Locks, Bad, Stops, Halt, Ended, Taken, Full, IsBad}
use Rattle.cas_runs.specs.Access.{words_in, with_lock, without_lock, with_words, word_in, place_among}
use Rattle.cas_atomic.specs.Leftover.{Leftover, one_less}
use Rattle.cas_atomic.specs.Buffer.{put}
use Rattle.cas_atomic.specs.Cells.{IsLock, IsUnder, under, values}
use Rattle.cas_atomic.specs.Program.{Setup, Event, After, Goes, Fails, Halts, Plain, Load, Store, Decrement, CallLock, CallUnlock, Prints, Ends, Over, NoRoom, Wrong}
use Rattle.cas_atomic.specs.Buffered.{End, Running, IsDone, OutOfFuel, IsFull, HasFailed, OutOfOuts}
use Rattle.cas_atomic.specs.Sound.{EndFits}
use Rattle.cas_atomic.proofs.Acts.{is_a_lock}
use Rattle.cas_atomic.specs.Atomic.{Standing, standing, goes, tells, loaded, loads_as, loads, change, changes_to, changes_in, changes, is_lock, takes_if, gives_if, act_by, act}
use Rattle.cas_atomic.proofs.Inner as inner
use Rattle.cas_atomic.proofs.Inner.{Atomic, with_values, mine_if}
use Rattle.cas_atomic.proofs.Basic.{same_or_not, put_here, put_else}
use Rattle.cas_atomic.proofs.Words.{same_values, under_one, not_brought}
use Rattle.cas_atomic.proofs.Shares.{AreFrom, with_here, with_else, with_from, without_here, without_else, without_from, words_here, words_else, words_from, value_at, set_at, given_back}

abbrev pub some_if : Bool → List ℕ → Option (List ℕ)
some_if true ws = Some ws
some_if false ws = None

-- the share has the locks that the thread holds, each with the words that it guards
pub record IsShareOf {X : Type 0} (p : Setup X) (hs : Share) (holds : ℕ → Bool) (words : ℕ → ℕ) : Type 0 where
  pub each : (l : ℕ) → words_in hs l ≡ some_if (holds l) (values words (under p.edge.cells 0 l))
  pub from : AreFrom 0 hs

pub record AreSame {X : Type 0} (p : Setup X) (a : Atomic X) (b : Standing X) : Type 0 where
  pub at : b.at ≡ a.at
  pub share : IsShareOf p b.share a.holds a.words
  pub occasion : b.occasion ≡ a.occasion

module _ {X : Type 0} (p : Setup X) where
  -- the acts are the same
  pub data AlikeActs : Act (Atomic X) → Act (Standing X) → Type 0 where
    quiets : (y : Atomic X) (z : Standing X) → AreSame p y z → AlikeActs (Quiet y) (Quiet z)
    says : (l : run.Event) (y : Atomic X) (z : Standing X) → AreSame p y z → AlikeActs (Emits l y) (Emits l z)
    takes : (l : ℕ) (f : List ℕ → Atomic X) (g : List ℕ → Standing X) → IsLock p.edge.cells l →
        ((ws : List ℕ) → length ws ≡ length (under p.edge.cells 0 l) → AreSame p (f ws) (g ws)) →
        AlikeActs (Locks l f) (Locks l g)
    bads : AlikeActs Bad Bad
    halts : (why : Halt) → AlikeActs (Stops why) (Stops why)

  module _ (u : ℕ → Leftover) (a : Atomic X) (b : Standing X) (h : AreSame p a b) where
    goes_same : (y : X) → AreSame p (inner.goes a y) (goes b y)
    goes_same y = record { at = refl; share = h.share; occasion = h.occasion }

    told_same : (y : X) → AreSame p (inner.told a y) (tells b b.share y)
    told_same y = record { at = refl; share = h.share; occasion = ap suc h.occasion }

    loaded_same : (x : After X) → AlikeActs (inner.loaded a x) (loaded b x)
    loaded_same (Goes y) = quiets (inner.goes a y) (goes b y) (goes_same y)
    loaded_same Fails = bads
    loaded_same Halts = halts Full

    in_share : (g : ℕ) (t : Bool) → a.holds g ≡ t → words_in b.share g ≡ some_if t
        (values a.words (under p.edge.cells 0 g))
    in_share g t e = h.share.each g ∙ ap (λ (s : Bool). some_if s (values a.words (under p.edge.cells 0 g))) e

    load_same : (w : ℕ) (k : ℕ → After X) → AlikeActs (inner.loads a w k (inner.access p a w))
        (loads p.edge.cells b (slice_get p.edge.cells w) w k)
    load_same w k = by (slice_get p.edge.cells w) refl
      where
        guarded : (kind : Kind) (g initial : ℕ) → slice_get p.edge.cells w ≡ Some (SharedWord kind (Some g) initial) →
            (t : Bool) → a.holds g ≡ t → AlikeActs (inner.loads a w k (mine_if t))
            (loads_as b (word_in (words_in b.share g) (place_among p.edge.cells g w)) k)
        guarded kind g initial e true q =
            let is = ap (λ (o : Option (List ℕ)). word_in o (place_among p.edge.cells g w)) (in_share g true q)
            ∙ value_at a.words p.edge.cells g w (record { kind = kind; initial = initial; is = e }) in
            subst (λ (o : Option ℕ). AlikeActs (inner.loaded a (k (a.words w))) (loads_as b o k)) (sym is)
            (loaded_same (k (a.words w)))
        guarded kind g initial e false q =
            let is = ap (λ (o : Option (List ℕ)). word_in o (place_among p.edge.cells g w)) (in_share g false q) in
            subst (λ (o : Option ℕ). AlikeActs Bad (loads_as b o k)) (sym is) bads

        by : (o : Option Cell) → slice_get p.edge.cells w ≡ o →
            AlikeActs (inner.loads a w k (inner.access_of o a.holds)) (loads p.edge.cells b o w k)
        by None e = bads
        by (Some LockWord) e = bads
        by (Some (TableWord v)) e = loaded_same (k v)
        by (Some (SharedWord kind None initial)) e = bads
        by (Some (SharedWord kind (Some g) initial)) e = guarded kind g initial e (a.holds g) refl

    -- the share with one word written
    written : (kind : Kind) (g initial w v : ℕ) → slice_get p.edge.cells w ≡ Some (SharedWord kind (Some g) initial) →
        a.holds g ≡ true →
        IsShareOf p
        (with_words b.share g (slice_set (values a.words (under p.edge.cells 0 g)) (place_among p.edge.cells g w) v))
        a.holds (put w v a.words)
    written kind g initial w v e q =
        let here : IsUnder p.edge.cells g w = record { kind = kind; initial = initial; is = e } in
        record {
          each = λ l. elim (same_or_not l g) [
            | inl s ↦ ap
                (λ (m : ℕ). words_in
                (with_words b.share g (slice_set (values a.words (under p.edge.cells 0 g))
                (place_among p.edge.cells g w) v)) m) s
                ∙ words_here b.share g (values a.words (under p.edge.cells 0 g))
                (slice_set (values a.words (under p.edge.cells 0 g)) (place_among p.edge.cells g w) v)
                (in_share g true q)
                ∙ ap Some (set_at a.words v p.edge.cells g w here)
                ∙ sym (ap (λ (t : Bool). some_if t (values (put w v a.words) (under p.edge.cells 0 g))) q)
                ∙ ap (λ (m : ℕ). some_if (a.holds m) (values (put w v a.words) (under p.edge.cells 0 m))) (sym s)
            | inr d ↦ words_else b.share g l (slice_set (values a.words (under p.edge.cells 0 g))
                (place_among p.edge.cells g w) v) d ∙ h.share.each l
                ∙ ap (some_if (a.holds l)) (same_values p.edge.cells l a.words (put w v a.words)
                (λ x k. sym
                (put_else w v a.words x
                (λ z. d (under_one p.edge.cells l g w (subst (λ (m : ℕ). IsUnder p.edge.cells l m) z k) here)))))
          ];
          from = words_from b.share 0 g (slice_set (values a.words (under p.edge.cells 0 g))
              (place_among p.edge.cells g w) v) h.share.from;
        }

    change_same : (w : ℕ) (f : ℕ → ℕ) (k : ℕ → X) → AlikeActs
        (inner.stores a w (f (a.words w)) (k (a.words w)) (inner.access p a w))
        (changes p.edge.cells b (slice_get p.edge.cells w) w (change f k))
    change_same w f k = by (slice_get p.edge.cells w) refl
      where
        guarded : (kind : Kind) (g initial : ℕ) → slice_get p.edge.cells w ≡ Some (SharedWord kind (Some g) initial) →
            (t : Bool) → a.holds g ≡ t
            → AlikeActs (inner.stores a w (f (a.words w)) (k (a.words w)) (mine_if t))
            (changes_in b g (place_among p.edge.cells g w) (change f k) (words_in b.share g))
        guarded kind g initial e true q =
            let ws = values a.words (under p.edge.cells 0 g) in
            let pl : ℕ = place_among p.edge.cells g w in
            let z = standing (k (a.words w)) (with_words b.share g (slice_set ws pl (f (a.words w)))) b.occasion in
            let y = inner.writes a w (f (a.words w)) (k (a.words w)) in
            subst (λ (o : Option (List ℕ)). AlikeActs (Quiet y) (changes_in b g pl (change f k) o))
            (sym (in_share g true q))
            (subst (λ (o : Option ℕ). AlikeActs (Quiet y) (changes_to b g ws pl (change f k) o))
            (sym (value_at a.words p.edge.cells g w (record { kind = kind; initial = initial; is = e })))
            (quiets y z
            (record { at = refl; share = written kind g initial w (f (a.words w)) e q; occasion = h.occasion })))
        guarded kind g initial e false q =
            subst (λ (o : Option (List ℕ)). AlikeActs Bad
            (changes_in b g (place_among p.edge.cells g w) (change f k) o)) (sym (in_share g false q)) bads

        by : (o : Option Cell) → slice_get p.edge.cells w ≡ o →
            AlikeActs (inner.stores a w (f (a.words w)) (k (a.words w)) (inner.access_of o a.holds))
            (changes p.edge.cells b o w (change f k))
        by None e = bads
        by (Some LockWord) e = bads
        by (Some (TableWord v)) e = bads
        by (Some (SharedWord kind None initial)) e = bads
        by (Some (SharedWord kind (Some g) initial)) e = guarded kind g initial e (a.holds g) refl

    -- the share with a lock more
    taken : (l : ℕ) (ws : List ℕ) → a.holds l ≡ false → length ws ≡ length (under p.edge.cells 0 l) →
        IsShareOf p (with_lock b.share l ws) (put l true a.holds) (with_values (under p.edge.cells 0 l) ws a.words)
    taken l ws q n = record {
      each = λ k. elim (same_or_not k l) [
        | inl s ↦ ap (λ (m : ℕ). words_in (with_lock b.share l ws) m) s ∙ with_here b.share l ws (in_share l false q)
            ∙ ap Some (sym (given_back p.edge.cells 0 l ws a.words n))
            ∙ sym (ap
            (λ (t : Bool). some_if t (values (with_values (under p.edge.cells 0 l) ws a.words)
            (under p.edge.cells 0 l))) (put_here l true a.holds l refl))
            ∙ ap (λ (m : ℕ). some_if (put l true a.holds m)
            (values (with_values (under p.edge.cells 0 l) ws a.words) (under p.edge.cells 0 m))) (sym s)
        | inr d ↦ with_else b.share l ws k d ∙ h.share.each k
            ∙ ap (λ (t : Bool). some_if t (values a.words (under p.edge.cells 0 k))) (sym (put_else l true a.holds k d))
            ∙ ap (some_if (put l true a.holds k)) (same_values p.edge.cells k a.words
            (with_values (under p.edge.cells 0 l) ws a.words)
            (λ x g. sym (not_brought p.edge.cells l k ws a.words x g d)))
      ];
      from = with_from b.share 0 l ws (omega arith) (in_share l false q) h.share.from;
    }

    -- and with a lock less
    given : (l : ℕ) → IsShareOf p (without_lock b.share l) (put l false a.holds) a.words
    given l = record {
      each = λ k. elim (same_or_not k l) [
        | inl s ↦ ap (λ (m : ℕ). words_in (without_lock b.share l) m) s ∙ without_here b.share 0 l h.share.from
            ∙ sym (ap (λ (t : Bool). some_if t (values a.words (under p.edge.cells 0 k)))
            (put_here l false a.holds k s))
        | inr d ↦ without_else b.share l k d ∙ h.share.each k
            ∙ ap (λ (t : Bool). some_if t (values a.words (under p.edge.cells 0 k)))
            (sym (put_else l false a.holds k d))
      ];
      from = without_from b.share 0 l h.share.from;
    }

    takes_same : (l : ℕ) (k : Leftover → X) (t : Bool) → is_lock (slice_get p.edge.cells l) ≡ t → (s : Bool) →
        a.holds l ≡ s → AlikeActs (inner.takes_if p u a l k t s) (takes_if u b l k t (words_in b.share l))
    takes_same l k true e true q =
        subst (λ (o : Option (List ℕ)). AlikeActs (Stops (Taken l)) (takes_if u b l k true o)) (sym (in_share l true q))
        (halts (Taken l))
    takes_same l k true e false q =
        let g = λ (ws : List ℕ). tells b (with_lock b.share l ws) (k (u b.occasion)) in
        subst (λ (o : Option (List ℕ)). AlikeActs (Locks l (inner.locked p u a l k)) (takes_if u b l k true o))
        (sym (in_share l false q))
        (takes l (inner.locked p u a l k) g (is_a_lock p l e) (λ ws n. record {
          at = ap (λ (j : ℕ). k (u j)) h.occasion;
          share = taken l ws q n;
          occasion = ap suc h.occasion;
        }))
    takes_same l k false e s q = bads

    gives_same : (l : ℕ) (k : Leftover → X) (t s : Bool) → a.holds l ≡ s →
        AlikeActs (inner.gives_if p u a l k t s) (gives_if u b l k t (words_in b.share l))
    gives_same l k true true q =
        let z = tells b (without_lock b.share l) (k (u b.occasion)) in
        subst (λ (o : Option (List ℕ)). AlikeActs (inner.gives_if p u a l k true true) (gives_if u b l k true o))
        (sym (in_share l true q))
        (says (run.Unlocks l (values a.words (under p.edge.cells 0 l))) (inner.unlocked u a l k) z
        (record { at = ap (λ (j : ℕ). k (u j)) h.occasion; share = given l; occasion = ap suc h.occasion }))
    gives_same l k true false q =
        subst (λ (o : Option (List ℕ)). AlikeActs Bad (gives_if u b l k true o)) (sym (in_share l false q)) bads
    gives_same l k false s q = bads

    by_event : (v : Event X) → AlikeActs (inner.act_by p u a v) (act_by p.edge.cells u b v)
    by_event (Plain y) = quiets (inner.goes a y) (goes b y) (goes_same y)
    by_event (Load w k) = load_same w k
    by_event (Store w v y) = change_same w (λ old. v) (λ old. y)
    by_event (Decrement w k) = change_same w one_less k
    by_event (CallLock l k) = takes_same l k (is_lock (slice_get p.edge.cells l)) refl (a.holds l) refl
    by_event (CallUnlock l k) = gives_same l k (is_lock (slice_get p.edge.cells l)) (a.holds l) refl
    by_event (Prints v y) = says (run.Prints v) (inner.told a y) (tells b b.share y) (told_same y)
    by_event (Ends y) = says run.Ends (inner.told a y) (tells b b.share y) (told_same y)
    by_event Over = halts Ended
    by_event NoRoom = halts Full
    by_event Wrong = bads

    pub acts_alike : AlikeActs (inner.act p u a) (act p u b)
    acts_alike = subst (λ (x : X). AlikeActs (inner.act p u a) (act_by p.edge.cells u b (p.next x))) (sym h.at)
        (by_event (p.next a.at))

  pub quiet_alike : (x : Act (Atomic X)) (z : Act (Standing X)) (y : Atomic X) → x ≡ Quiet y → AlikeActs x z →
      (c : Standing X) × (z ≡ Quiet c) × AreSame p y c
  quiet_alike _ _ y e (quiets y' c m) =
      let q : y' ≡ y = cc e in (c, refl, subst (λ (d : Atomic X). AreSame p d c) q m)
  quiet_alike _ _ y e (says v y' c m) = absurd (cc e)
  quiet_alike _ _ y e (takes l f g is m) = absurd (cc e)
  quiet_alike _ _ y e bads = absurd (cc e)
  quiet_alike _ _ y e (halts why) = absurd (cc e)

  pub says_alike : (x : Act (Atomic X)) (z : Act (Standing X)) (v : run.Event) (y : Atomic X) → x ≡ Emits v y →
      AlikeActs x z → (c : Standing X) × (z ≡ Emits v c) × AreSame p y c
  says_alike _ _ v y e (says w y' c m) =
      let q : y' ≡ y = cc e in
      let n : w ≡ v = cc e in
      (c, ap (λ (j : run.Event). Emits j c) n, subst (λ (d : Atomic X). AreSame p d c) q m)
  says_alike _ _ v y e (quiets y' c m) = absurd (cc e)
  says_alike _ _ v y e (takes k f g is m) = absurd (cc e)
  says_alike _ _ v y e bads = absurd (cc e)
  says_alike _ _ v y e (halts why) = absurd (cc e)

  -- a lock is taken, by as many words as it guards
  pub record TakesAlike (z : Act (Standing X)) (l : ℕ) (f : List ℕ → Atomic X) : Type 0 where
    pub next : List ℕ → Standing X
    pub is : z ≡ Locks l next
    pub lock : IsLock p.edge.cells l
    pub same : (ws : List ℕ) → length ws ≡ length (under p.edge.cells 0 l) → AreSame p (f ws) (next ws)

  pub locks_alike : (x : Act (Atomic X)) (z : Act (Standing X)) (l : ℕ) (f : List ℕ → Atomic X) → x ≡ Locks l f →
      AlikeActs x z → TakesAlike z l f
  locks_alike _ _ l f e (takes k f' g is m) =
      let q : f' ≡ f = cc e in
      let n : k ≡ l = cc e in
      subst (λ (h : List ℕ → Atomic X). TakesAlike (Locks k g) l h) q
      (subst (λ (j : ℕ). TakesAlike (Locks k g) j f') n
      (record { next = g; is = refl; lock = is; same = m }))
  locks_alike _ _ l f e (quiets y' c m) = absurd (cc e)
  locks_alike _ _ l f e (says k y' c m) = absurd (cc e)
  locks_alike _ _ l f e bads = absurd (cc e)
  locks_alike _ _ l f e (halts why) = absurd (cc e)

  pub bad_alike : (x : Act (Atomic X)) (z : Act (Standing X)) → IsBad x → AlikeActs x z → IsBad z
  bad_alike _ _ b bads = tt
  bad_alike _ _ b (quiets y' c m) = absurd b
  bad_alike _ _ b (says k y' c m) = absurd b
  bad_alike _ _ b (takes k f g is m) = absurd b
  bad_alike _ _ b (halts why) = absurd b

  pub halts_alike : (x : Act (Atomic X)) (z : Act (Standing X)) (why : Halt) → x ≡ Stops why → AlikeActs x z →
      z ≡ Stops why
  halts_alike _ _ why e (quiets y' c m) = absurd (cc e)
  halts_alike _ _ why e (says k y' c m) = absurd (cc e)
  halts_alike _ _ why e (takes k f g is m) = absurd (cc e)
  halts_alike _ _ why e bads = absurd (cc e)
  halts_alike _ _ why e (halts other) = let q : other ≡ why = cc e in ap (λ (w : Halt). Stops w) q

  -- an end fits the one as the other
  pub ends_alike : (x : Act (Atomic X)) (z : Act (Standing X)) (d : End) (ls : List RunLabel) → EndFits d ls x →
      AlikeActs x z → EndFits d ls z
  ends_alike x z Running ls h alike = h
  ends_alike x z IsDone ls h alike = h
  ends_alike x z OutOfFuel ls h alike = h
  ends_alike x z IsFull ls h alike = (halts_alike x z Full h.0 alike, h.1)
  ends_alike x z HasFailed ls h alike = (bad_alike x z h.0 alike, h.1)
  ends_alike x z OutOfOuts ls h alike =
      let c = says_alike x z (run.Prints h.0.0) h.0.1 h.0.2 alike in ((h.0.0, c.0, c.1), h.1)
