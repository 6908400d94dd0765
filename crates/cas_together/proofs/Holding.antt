-- Who holds a lock after legal labels: the thread in whose share it is.
use Rattle.std.proofs.Common.{◌≡◌, ℕ, ◌<◌, nat_eq, nat_lt, Bool, true, false, List, [], ◌∷◌, ◌⊎◌, Option, Some, None, if◌then◌else◌, inl, inr, refl, sym, ap, ◌∙◌, subst, ⊎_elim}
use Rattle.cas_runs.specs.Label.{NameBytes, Crossing, crossing_label, RunLabel, Lock, Unlock, Out, Done, Enter, Back, Call, Leave}
use Rattle.cas_runs.specs.Edge.{Edge, Cell}
use Rattle.cas_runs.specs.Outside.{IsAmong, first, later}
use Rattle.cas_runs.specs.Machine.{Act, Quiet, Emits, Crosses, Locks, Receives, Bad, Stops, Machine, StepsTo, label_of}
use Rattle.cas_runs.specs.Refines.{Reached, Reaches}
use Rattle.cas_runs.specs.Legal.{ThreadLabel, Free, IsHeld, after_label, state_of, IsLegal, IsLegalNext, projection}
use Rattle.cas_runs.specs.Rules.{and_lock, except_lock, locks_after, MayEmit, MayAct, KeepsRules}
use Rattle.cas_runs.proofs.Refining.{before_label}
use Rattle.cas_together.specs.Threads.{HaveRuns}
use Rattle.cas_together.specs.Holder.{holder_after, holder, AreApart, Held}
use Rattle.cas_atomic.proofs.Basic.{same_or_not, if_same, if_not}
use Rattle.cas_together.proofs.Cutting.{own_label, other_label, runs_before}

either : (k l : ℕ) (ls : List ℕ) → IsAmong k (l ∷ ls) → (k ≡ l) ⊎ IsAmong k ls
either k l ls first = inl refl
either k l ls (later h) = inr h

there_first : (k l : ℕ) (ls : List ℕ) → k ≡ l → IsAmong k (l ∷ ls)
there_first k l ls e = subst (λ v. IsAmong k (v ∷ ls)) e first

-- the lock among others with one more
among_more : (lock k : ℕ) (ls : List ℕ) → IsAmong k (and_lock lock ls) → (k ≡ lock) ⊎ IsAmong k ls
among_more lock k [] h = either k lock [] h
among_more lock k (l ∷ ls) h = by (nat_lt lock l) (λ m. among_more lock k ls m) h
  where
    by : (t : Bool) → (IsAmong k (and_lock lock ls) → (k ≡ lock) ⊎ IsAmong k ls) →
        IsAmong k (if t then lock ∷ l ∷ ls else l ∷ and_lock lock ls) → (k ≡ lock) ⊎ IsAmong k (l ∷ ls)
    by true more m = either k lock (l ∷ ls) m
    by false more m = ⊎_elim (λ e. inr (there_first k l ls e)) (λ r. ⊎_elim inl (λ q. inr (later q)) (more r))
        (either k l (and_lock lock ls) m)

is_more : (lock : ℕ) (ls : List ℕ) → IsAmong lock (and_lock lock ls)
is_more lock [] = first
is_more lock (l ∷ ls) = by (nat_lt lock l) (is_more lock ls)
  where
    by : (t : Bool) → IsAmong lock (and_lock lock ls) → IsAmong lock (if t then lock ∷ l ∷ ls else l ∷ and_lock lock ls)
    by true h = first
    by false h = later h

still_more : (lock k : ℕ) (ls : List ℕ) → IsAmong k ls → IsAmong k (and_lock lock ls)
still_more lock k [] h = elim h [ ]
still_more lock k (l ∷ ls) h = by (nat_lt lock l) (λ m. still_more lock k ls m) h
  where
    by : (t : Bool) → (IsAmong k ls → IsAmong k (and_lock lock ls)) → IsAmong k (l ∷ ls) →
        IsAmong k (if t then lock ∷ l ∷ ls else l ∷ and_lock lock ls)
    by true more m = later m
    by false more m = ⊎_elim (λ e. there_first k l (and_lock lock ls) e) (λ r. later (more r)) (either k l ls m)

apart_more : (lock : ℕ) (ls : List ℕ) → (IsAmong lock ls → ⊥) → AreApart ls → AreApart (and_lock lock ls)
apart_more lock [] n h = (n, tt)
apart_more lock (l ∷ ls) n h = by (nat_lt lock l) (apart_more lock ls (λ m. n (later m)) h.1)
  where
    by : (t : Bool) → AreApart (and_lock lock ls) → AreApart (if t then lock ∷ l ∷ ls else l ∷ and_lock lock ls)
    by true more = (n, h)
    by false more = (
      (λ m. ⊎_elim (λ e. n (subst (λ v. IsAmong v (l ∷ ls)) e first)) h.0 (among_more lock l ls m)),
      more,
    )

among_less : (lock k : ℕ) (ls : List ℕ) → IsAmong k (except_lock lock ls) → IsAmong k ls
among_less lock k [] h = elim h [ ]
among_less lock k (l ∷ ls) h = by (nat_eq lock l) (λ m. among_less lock k ls m) h
  where
    by : (t : Bool) → (IsAmong k (except_lock lock ls) → IsAmong k ls) →
        IsAmong k (if t then ls else l ∷ except_lock lock ls) → IsAmong k (l ∷ ls)
    by true more m = later m
    by false more m = ⊎_elim (λ e. there_first k l ls e) (λ r. later (more r)) (either k l (except_lock lock ls) m)

apart_less : (lock : ℕ) (ls : List ℕ) → AreApart ls → AreApart (except_lock lock ls)
apart_less lock [] h = h
apart_less lock (l ∷ ls) h = by (nat_eq lock l) (apart_less lock ls h.1)
  where
    by : (t : Bool) → AreApart (except_lock lock ls) → AreApart (if t then ls else l ∷ except_lock lock ls)
    by true more = h.1
    by false more = ((λ m. h.0 (among_less lock l ls m)), more)

not_less : (lock : ℕ) (ls : List ℕ) → AreApart ls → IsAmong lock (except_lock lock ls) → ⊥
not_less lock [] h m = elim m [ ]
not_less lock (l ∷ ls) h m = elim (same_or_not lock l) [
  | inl e ↦ h.0 (subst (λ v. IsAmong v ls) e
      (subst (λ v. IsAmong lock v) (if_same lock l ls (l ∷ except_lock lock ls) e) m))
  | inr d ↦ later_one (subst (λ v. IsAmong lock v) (if_not lock l ls (l ∷ except_lock lock ls) d) m) d
      (not_less lock ls h.1)
]
  where
    later_one : IsAmong lock (l ∷ except_lock lock ls) → (lock ≡ l → ⊥) → (IsAmong lock (except_lock lock ls) → ⊥) → ⊥
    later_one q d more = ⊎_elim d more (either lock l (except_lock lock ls) q)

still_less : (lock k : ℕ) (ls : List ℕ) → (k ≡ lock → ⊥) → IsAmong k ls → IsAmong k (except_lock lock ls)
still_less lock k [] d h = elim h [ ]
still_less lock k (l ∷ ls) d h = elim (same_or_not lock l) [
  | inl e ↦ subst (λ v. IsAmong k v) (sym (if_same lock l ls (l ∷ except_lock lock ls) e)) (past h e)
  | inr n ↦ subst (λ v. IsAmong k v) (sym (if_not lock l ls (l ∷ except_lock lock ls) n))
      (on h (λ m. still_less lock k ls d m))
]
  where
    past : IsAmong k (l ∷ ls) → lock ≡ l → IsAmong k ls
    past m e = ⊎_elim (λ q. absurd (d (q ∙ sym e))) (λ r. r) (either k l ls m)

    on : IsAmong k (l ∷ ls) → (IsAmong k ls → IsAmong k (except_lock lock ls)) → IsAmong k (l ∷ except_lock lock ls)
    on m more = ⊎_elim (λ e. there_first k l (except_lock lock ls) e) (λ r. later (more r)) (either k l ls m)

-- a free lock has no holder
pub free_unheld : (cells : List Cell) (lock : ℕ) (ls : List ThreadLabel) (words : List ℕ) →
    state_of cells lock ls ≡ Free words → holder lock ls ≡ None
free_unheld cells lock [] words e = refl
free_unheld cells lock (l ∷ ls) words e = by l.label (free_unheld cells lock ls) e
  where
    by : (k : RunLabel) → ((words : List ℕ) → state_of cells lock ls ≡ Free words → holder lock ls ≡ None) →
        after_label lock k (state_of cells lock ls) ≡ Free words → holder_after lock l.thread k (holder lock ls) ≡ None
    by (Lock j ws) older e = elim (same_or_not j lock) [
      | inl q ↦ absurd (cc (e, if_same j lock IsHeld (state_of cells lock ls) q))
      | inr d ↦ if_not j lock (Some l.thread) (holder lock ls) d
          ∙ older words (sym (if_not j lock IsHeld (state_of cells lock ls) d) ∙ e)
    ]
    by (Unlock j ws) older e = elim (same_or_not j lock) [
      | inl q ↦ if_same j lock None (holder lock ls) q
      | inr d ↦ if_not j lock None (holder lock ls) d
          ∙ older words (sym (if_not j lock (Free ws) (state_of cells lock ls) d) ∙ e)
    ]
    by (Out w) older e = older words e
    by Done older e = older words e
    by (Enter f c) older e = older words e
    by (Back c) older e = older words e
    by (Call f c) older e = older words e
    by (Leave c) older e = older words e

-- what crosses is no Unlock
no_crossing : (function : Option NameBytes) (c : Crossing) (l : ℕ) (words : List ℕ) →
    crossing_label function c ≡ Unlock l words → ⊥
no_crossing None c l words e = cc e
no_crossing (Some f) c l words e = cc e

-- an Unlock is of a lock in the share
unlocks_own : {S : Type 0} (edge : Edge) (m : Machine S) → KeepsRules edge m → (ls : List RunLabel) (x : Reached S) →
    Reaches edge m ls x → (a : Act S) → m.act x.at ≡ a → (l : ℕ) (words : List ℕ) (y : S) →
    StepsTo edge ls a (Unlock l words) y → IsAmong l (locks_after ls)
unlocks_own {S = S} edge m rules ls x run (Emits k n) e l words y h =
    let may : MayEmit edge ls (label_of k) =
    subst (λ (v : Act S). MayAct edge ls v) e (rules.acts ls x.blocks x.block x.at run) in
    let own : MayEmit edge ls (Unlock l words) = subst (λ v. MayEmit edge ls v) h.0 may in
    own.0
unlocks_own edge m rules ls x run (Crosses f share n) e l words y h = absurd
    (no_crossing f (record { values = h.0.values; share = share; objects = h.0.objects }) l words h.1)
unlocks_own edge m rules ls x run (Locks k n) e l words y h = absurd (cc h.1)
unlocks_own edge m rules ls x run (Receives n) e l words y h = absurd h.0
unlocks_own edge m rules ls x run (Quiet n) e l words y h = absurd h
unlocks_own edge m rules ls x run Bad e l words y h = absurd h
unlocks_own edge m rules ls x run (Stops w) e l words y h = absurd h

module _ {S : Type 0} (edge : Edge) (n : ℕ) (s : ℕ → Machine S) (rules : (i : ℕ) → i < n → KeepsRules edge (s i)) where
  -- what the label makes of the locks of its own thread and of a lock's holder
  record OneMore (l : ThreadLabel) (ls : List ThreadLabel) : Type 0 where
    apart : AreApart (locks_after (l.label ∷ projection l.thread ls))
    holds : (lock : ℕ) → IsAmong lock (locks_after (l.label ∷ projection l.thread ls)) →
        holder lock (l ∷ ls) ≡ Some l.thread
    has : (lock : ℕ) → holder lock (l ∷ ls) ≡ Some l.thread →
        IsAmong lock (locks_after (l.label ∷ projection l.thread ls))
    others : (lock j : ℕ) → (l.thread ≡ j → ⊥) → holder lock ls ≡ Some j → holder lock (l ∷ ls) ≡ Some j
    others_back : (lock j : ℕ) → (l.thread ≡ j → ⊥) → holder lock (l ∷ ls) ≡ Some j → holder lock ls ≡ Some j

  plainly : (i : ℕ) (k : RunLabel) (ls : List ThreadLabel) → i < n → Held n ls →
      locks_after (k ∷ projection i ls) ≡ locks_after (projection i ls) →
      ((lock : ℕ) → holder lock (record { thread = i; label = k } ∷ ls) ≡ holder lock ls) →
      OneMore (record { thread = i; label = k }) ls
  plainly i k ls there h e f = record {
    apart = subst AreApart (sym e) (h.apart i there);
    holds = λ lock m. f lock ∙ h.holds i there lock (subst (λ v. IsAmong lock v) e m);
    has = λ lock q. subst (λ v. IsAmong lock v) (sym e) (h.has i there lock (sym (f lock) ∙ q));
    others = λ lock j d q. f lock ∙ q;
    others_back = λ lock j d q. sym (f lock) ∙ q;
  }

  locking : (i k : ℕ) (words : List ℕ) (ls : List ThreadLabel) → i < n → Held n ls →
      state_of edge.cells k ls ≡ Free words → OneMore (record { thread = i; label = Lock k words }) ls
  locking i k words ls there h free =
      let unheld : holder k ls ≡ None = free_unheld edge.cells k ls words free in
      let fresh : IsAmong k (locks_after (projection i ls)) → ⊥ = λ m. cc (unheld, h.holds i there k m) in
      record {
        apart = apart_more k (locks_after (projection i ls)) fresh (h.apart i there);
        holds = λ lock m. elim (same_or_not k lock) [
          | inl e ↦ if_same k lock (Some i) (holder lock ls) e
          | inr d ↦ if_not k lock (Some i) (holder lock ls) d ∙ ⊎_elim (λ e. absurd (d (sym e)))
              (λ q. h.holds i there lock q) (among_more k lock (locks_after (projection i ls)) m)
        ];
        has = λ lock q. elim (same_or_not k lock) [
          | inl e ↦ subst (λ v. IsAmong v (and_lock k (locks_after (projection i ls)))) e
              (is_more k (locks_after (projection i ls)))
          | inr d ↦ still_more k lock (locks_after (projection i ls))
              (h.has i there lock (sym (if_not k lock (Some i) (holder lock ls) d) ∙ q))
        ];
        others = λ lock j d q. elim (same_or_not k lock) [
          | inl e ↦ absurd (cc (unheld, ap (λ v. holder v ls) e, q))
          | inr o ↦ if_not k lock (Some i) (holder lock ls) o ∙ q
        ];
        others_back = λ lock j d q. elim (same_or_not k lock) [
          | inl e ↦ let z : Some i ≡ Some j = sym (if_same k lock (Some i) (holder lock ls) e) ∙ q in absurd (d (cc z))
          | inr o ↦ sym (if_not k lock (Some i) (holder lock ls) o) ∙ q
        ];
      }

  unlocking : (i k : ℕ) (words : List ℕ) (ls : List ThreadLabel) → i < n → Held n ls →
      IsAmong k (locks_after (projection i ls)) → OneMore (record { thread = i; label = Unlock k words }) ls
  unlocking i k words ls there h own =
      let mine : holder k ls ≡ Some i = h.holds i there k own in
      record {
        apart = apart_less k (locks_after (projection i ls)) (h.apart i there);
        holds = λ lock m. elim (same_or_not k lock) [
          | inl e ↦ absurd (not_less k (locks_after (projection i ls)) (h.apart i there)
              (subst (λ v. IsAmong v (except_lock k (locks_after (projection i ls)))) (sym e) m))
          | inr d ↦ if_not k lock None (holder lock ls) d
              ∙ h.holds i there lock (among_less k lock (locks_after (projection i ls)) m)
        ];
        has = λ lock q. elim (same_or_not k lock) [
          | inl e ↦ absurd (cc (q, if_same k lock None (holder lock ls) e))
          | inr d ↦ still_less k lock (locks_after (projection i ls)) (λ e. d (sym e))
              (h.has i there lock (sym (if_not k lock None (holder lock ls) d) ∙ q))
        ];
        others = λ lock j d q. elim (same_or_not k lock) [
          | inl e ↦ let z : Some i ≡ Some j = sym mine ∙ ap (λ v. holder v ls) e ∙ q in absurd (d (cc z))
          | inr o ↦ if_not k lock None (holder lock ls) o ∙ q
        ];
        others_back = λ lock j d q. elim (same_or_not k lock) [
          | inl e ↦ absurd (cc (q, if_same k lock None (holder lock ls) e))
          | inr o ↦ sym (if_not k lock None (holder lock ls) o) ∙ q
        ];
      }

  more_held : (l : ThreadLabel) (ls : List ThreadLabel) → Held n ls → OneMore l ls → Held n (l ∷ ls)
  more_held l ls h o = record {
    apart = λ i there. elim (same_or_not l.thread i) [
      | inl e ↦ subst (λ v. AreApart (locks_after v)) (sym (own_label i l ls e))
          (subst (λ v. AreApart (locks_after (l.label ∷ projection v ls))) e o.apart)
      | inr d ↦ subst (λ v. AreApart (locks_after v)) (sym (other_label i l ls d)) (h.apart i there)
    ];
    holds = λ i there lock m. elim (same_or_not l.thread i) [
      | inl e ↦ o.holds lock (subst (λ v. IsAmong lock (locks_after (l.label ∷ projection v ls))) (sym e)
          (subst (λ v. IsAmong lock (locks_after v)) (own_label i l ls e) m)) ∙ ap Some e
      | inr d ↦ o.others lock i d
          (h.holds i there lock (subst (λ v. IsAmong lock (locks_after v)) (other_label i l ls d) m))
    ];
    has = λ i there lock q. elim (same_or_not l.thread i) [
      | inl e ↦ subst (λ v. IsAmong lock (locks_after v)) (sym (own_label i l ls e))
          (subst (λ v. IsAmong lock (locks_after (l.label ∷ projection v ls))) e (o.has lock (q ∙ ap Some (sym e))))
      | inr d ↦ subst (λ v. IsAmong lock (locks_after v)) (sym (other_label i l ls d))
          (h.has i there lock (o.others_back lock i d q))
    ];
  }

  one_more : (l : ThreadLabel) (ls : List ThreadLabel) → l.thread < n → Held n ls → HaveRuns edge n s (l ∷ ls) →
      (k : RunLabel) → l.label ≡ k → IsLegalNext edge.cells ls k → OneMore (record { thread = l.thread; label = k }) ls
  one_more l ls there h runs (Lock k words) e free = locking l.thread k words ls there h free
  one_more l ls there h runs (Unlock k words) e free =
      let own = own_label l.thread l ls refl ∙ ap (λ v. v ∷ projection l.thread ls) e in
      let b = before_label edge (s l.thread) (Unlock k words) (projection l.thread ls) (runs l.thread there).run own in
      unlocking l.thread k words ls there h (unlocks_own edge (s l.thread) (rules l.thread there)
      (projection l.thread ls) b.from b.run ((s l.thread).act b.from.at) refl k words b.to b.leads)
  one_more l ls there h runs (Out w) e free = plainly l.thread (Out w) ls there h refl (λ lock. refl)
  one_more l ls there h runs Done e free = plainly l.thread Done ls there h refl (λ lock. refl)
  one_more l ls there h runs (Enter f c) e free = absurd free
  one_more l ls there h runs (Back c) e free = absurd free
  one_more l ls there h runs (Call f c) e free = absurd free
  one_more l ls there h runs (Leave c) e free = absurd free

  -- who holds a lock is the one thread in whose share it is
  pub held : (ls : List ThreadLabel) → IsLegal edge.cells n ls → HaveRuns edge n s ls → Held n ls
  held [] legal runs = record {
    apart = λ i there. tt;
    holds = λ i there lock m. absurd (elim m [ ]);
    has =
        λ i there lock q. absurd (cc q);
  }
  held (l ∷ ls) legal runs = more_held l ls (held ls legal.2 (runs_before edge n s (l ∷ []) ls runs))
      (one_more l ls legal.0 (held ls legal.2 (runs_before edge n s (l ∷ []) ls runs)) runs l.label refl legal.1)
