-- From runs of the targets over any words to runs of all sources, or to a first part of the labels after which one is
-- Bad.
use Rattle.std.proofs.Common.{◌≡◌, ℕ, ◌<◌, List, [], ◌∷◌, ◌++◌, ◌⊎◌, inl, inr, refl, sym, ap, subst, ⊎_elim}
use Rattle.cas_runs.specs.Label.{Each, RunLabel, Lock, Unlock, Out, Done, Enter, Back, Call, Leave}
use Rattle.cas_runs.specs.Edge.{Edge}
use Rattle.cas_runs.specs.Machine.{Machine, starts, begun, IsBad}
use Rattle.cas_runs.specs.Legal.{ThreadLabel, IsLegal, IsLegalNext, projection}
use Rattle.cas_runs.specs.Refines.{Comes, HasRun, Reached, BadBefore, Kept, EachKept}
use Rattle.cas_atomic.specs.Kinds.{BringsInKind, RunTogether}
use Rattle.cas_atomic.proofs.Basic.{same_or_not}
use Rattle.cas_atomic.proofs.Following.{run_of, Before, back}
use Rattle.cas_together.specs.Threads.{HaveRuns, BadFirst, AllKept, FreeInKind}
use Rattle.cas_together.proofs.Cutting.{own_label, other_label, cut, legal_before, runs_before}
use Rattle.cas_together.proofs.Families.{all_or}

module _ {T S : Type 0} (edge : Edge) (n : ℕ) (t : ℕ → Machine T) (s : ℕ → Machine S) where
  -- a source that is Bad before cuts all labels
  pub cut_at : (i : ℕ) → i < n → (ls : List ThreadLabel) → IsLegal edge.cells n ls → HaveRuns edge n s ls →
      BadBefore edge (s i) (projection i ls) → BadFirst edge n s ls
  cut_at i there ls legal runs b =
      let c = cut i ls b.since b.before b.prefix in
      let first = legal_before edge.cells n c.since c.before (subst (λ v. IsLegal edge.cells n v) c.prefix legal) in
      let others = runs_before edge n s c.since c.before (subst (λ v. HaveRuns edge n s v) c.prefix runs) in
      record {
        since = c.since;
        before = c.before;
        prefix = c.prefix;
        is_bad = record {
          legal = first;
          others = others;
          thread = i;
          there = there;
          bad = subst (λ v. Comes edge (s i) v (λ (x : Reached S). IsBad ((s i).act x.at))) (sym c.own) b.bad;
        };
      }

  pub bad_later : (l : ThreadLabel) (ls : List ThreadLabel) → BadFirst edge n s ls → BadFirst edge n s (l ∷ ls)
  bad_later l ls b = record {
    since = l ∷ b.since;
    before = b.before;
    prefix = ap (λ k. l ∷ k) b.prefix;
    is_bad = b.is_bad;
  }

  -- all sources have their runs, and all that Locks brought was in kind
  pub record Gathered (ls : List ThreadLabel) : Type 0 where
    pub runs : HaveRuns edge n s ls
    pub kinds : (i : ℕ) → i < n → Each (BringsInKind edge) (projection i ls)

  module _ (kept : (i : ℕ) → i < n → EachKept edge (t i) (s i)) (free : FreeInKind edge n s) where
    brings : (ls : List ThreadLabel) → IsLegal edge.cells n ls → HaveRuns edge n s ls → (l : RunLabel) →
        IsLegalNext edge.cells ls l → BringsInKind edge l
    brings ls legal runs (Lock l words) h = free ls legal runs l words h
    brings ls legal runs (Unlock l words) h = tt
    brings ls legal runs (Out w) h = tt
    brings ls legal runs Done h = tt
    brings ls legal runs (Enter f c) h = tt
    brings ls legal runs (Back c) h = tt
    brings ls legal runs (Call f c) h = tt
    brings ls legal runs (Leave c) h = tt

    kinds_more : (l : ThreadLabel) (ls : List ThreadLabel) → Gathered ls → BringsInKind edge l.label → (i : ℕ) →
        i < n → Each (BringsInKind edge) (projection i (l ∷ ls))
    kinds_more l ls g k i there = elim (same_or_not l.thread i) [
      | inl e ↦ subst (λ v. Each (BringsInKind edge) v) (sym (own_label i l ls e)) (k, g.kinds i there)
      | inr d ↦ subst (λ v. Each (BringsInKind edge) v) (sym (other_label i l ls d)) (g.kinds i there)
    ]

    abbrev Any : List ThreadLabel → Type 0
    Any ls = (i : ℕ) → i < n → Before edge (t i) (projection i ls)

    older_any : (l : ThreadLabel) (ls : List ThreadLabel) → Any (l ∷ ls) → Any ls
    older_any l ls h i there = elim (same_or_not l.thread i) [
      | inl e ↦ back edge (t i) l.label (projection i ls) (projection i (l ∷ ls)) (h i there).to.blocks
          (h i there).to.block (h i there).to.at (h i there).run (own_label i l ls e)
      | inr d ↦ subst (λ v. Before edge (t i) v) (other_label i l ls d) (h i there)
    ]

    -- Bad at the newest label is Bad before it, or the label is there
    has_or_bad : (i : ℕ) (l : RunLabel) (ls : List RunLabel) → BadBefore edge (s i) (l ∷ ls) →
        BadBefore edge (s i) ls ⊎ HasRun edge (s i) (l ∷ ls)
    has_or_bad i l ls b = from b.since b.prefix
      where
        from : (since : List RunLabel) → l ∷ ls ≡ since ++ b.before →
            BadBefore edge (s i) ls ⊎ HasRun edge (s i) (l ∷ ls)
        from [] e = inr (subst (λ v. HasRun edge (s i) v) (sym e) (record {
          to = b.bad.to;
          run = b.bad.run;
          there =
              tt;
        }))
        from (k ∷ since) e = inl (record { since = since; before = b.before; prefix = cc e; bad = b.bad })

    more_runs : (l : ThreadLabel) (ls : List ThreadLabel) → HaveRuns edge n s ls →
        HasRun edge (s l.thread) (l.label ∷ projection l.thread ls) → HaveRuns edge n s (l ∷ ls)
    more_runs l ls runs h i there = elim (same_or_not l.thread i) [
      | inl e ↦ subst (λ v. HasRun edge (s i) v) (sym (own_label i l ls e))
          (subst (λ k. HasRun edge (s k) (l.label ∷ projection k ls)) e h)
      | inr d ↦ subst (λ v. HasRun edge (s i) v) (sym (other_label i l ls d)) (runs i there)
    ]

    -- label by label, the oldest first
    pub gather : (ls : List ThreadLabel) → IsLegal edge.cells n ls → Any ls → BadFirst edge n s ls ⊎ Gathered ls
    gather [] legal any = inr (record {
      runs = λ i there. record {
        to = record { blocks = []; block = begun (s i) (s i).start; at = (s i).start };
        run = starts;
        there = tt;
      };
      kinds = λ i there. tt;
    })
    gather (l ∷ ls) legal any =
        ⊎_elim (λ b. inl (bad_later l ls b)) (λ g. next g) (gather ls legal.2 (older_any l ls any))
      where
        next : Gathered ls → BadFirst edge n s (l ∷ ls) ⊎ Gathered (l ∷ ls)
        next g =
            let j = l.thread in
            let k = brings ls legal.2 g.runs l.label legal.1 in
            let kinds = kinds_more l ls g k in
            let there = legal.0 in
            let a = any j there in
            let run = run_of edge (t j) a.run (kinds j there) in
            let own = own_label j l ls refl in
            let settled : HasRun edge (s j) (l.label ∷ projection j ls) → BadFirst edge n s (l ∷ ls) ⊎ Gathered (l ∷ ls)
            = λ h. inr (record { runs = more_runs l ls g.runs h; kinds = kinds }) in
            ⊎_elim
            (λ b. ⊎_elim (λ c. inl (bad_later l ls (cut_at j there ls legal.2 g.runs c))) settled
            (has_or_bad j l.label (projection j ls) (subst (λ v. BadBefore edge (s j) v) own b)))
            (λ m. settled (subst (λ v. HasRun edge (s j) v) own (record { to = m.to; run = m.run; there = tt })))
            (kept j there (projection j (l ∷ ls)) a.to run)

    -- all runs are kept, by one list of labels, or a first part of it leads to where one source is Bad
    pub together : (ls : List ThreadLabel) (to : ℕ → Reached T) → RunTogether edge n t ls to →
        BadFirst edge n s ls ⊎ AllKept edge n t s ls to
    together ls to r =
        ⊎_elim inl (λ g. all_or (λ i. Comes edge (s i) (projection i ls) (Kept (t i) (s i) (to i))) n
        (λ i there. one g i there)) (gather ls r.legal (λ i there. record { to = to i; run = r.runs i there }))
      where
        one : Gathered ls → (i : ℕ) → i < n →
            BadFirst edge n s ls ⊎ Comes edge (s i) (projection i ls) (Kept (t i) (s i) (to i))
        one g i there = ⊎_elim (λ c. inl (cut_at i there ls r.legal g.runs c)) inr
            (kept i there (projection i ls) (to i) (run_of edge (t i) (r.runs i there) (g.kinds i there)))
