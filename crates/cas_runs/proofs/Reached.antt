-- Machines that are equal at each state that a run reaches have the same runs, and refine the same.
use Rattle.std.proofs.Common.{◌≡◌, ◌≤◌, List, [], ◌∷◌, inl, inr, ⊎_elim, sym, ap, ◌∙◌, subst}
use Rattle.cas_runs.specs.Label.{RunLabel}
use Rattle.cas_runs.specs.Edge.{Edge}
use Rattle.cas_runs.specs.Machine.{Machine, StepsTo, IsBad, open_functions, and_called, Block, and_step, nothing, begun, onward, Run, starts, quiet, labelled}
use Rattle.cas_runs.specs.Refines.{Reached, Comes, HasRun, BadBefore, Subsequence, Kept, Answered, Refines}
use Rattle.cas_runs.specs.Walking.{DoSame, EqualWhereReached}

module _ {S : Type 0} (edge : Edge) (m n : Machine S) (equal : EqualWhereReached edge m n) where
  onward_same : (b : Block) (x : S) → DoSame m n x → onward m b x ≡ onward n b x
  onward_same b x d = ap (λ p. and_step b p (m.footprint x)) d.price ∙ ap (λ f. and_step b (n.price x) f) d.footprint

  -- a run of the first is one of the second
  pub same_run : {ls : List RunLabel} {bs : List Block} {b : Block} {x : S} → Run edge m ls bs b x →
      Run edge n ls bs b x
  same_run starts =
      let d = equal.reached [] [] (begun m m.start) m.start starts in
      let first : Run edge n [] [] (begun n m.start) m.start =
      subst (λ s. Run edge n [] [] (begun n s) s) (sym equal.start) starts in
      subst (λ b. Run edge n [] [] b m.start) (sym (onward_same nothing m.start d)) first
  same_run (quiet {ls = ls} {bs = bs} {b = b} {x = x} y r e) =
      let d = equal.reached ls bs b x r in
      let there = equal.reached ls bs (onward m b y) y (quiet y r e) in
      let step : Run edge n ls bs (onward n b y) y = quiet y (same_run r) (sym d.act ∙ e) in
      subst (λ c. Run edge n ls bs c y) (sym (onward_same b y there)) step
  same_run (labelled {ls = ls} {bs = bs} {b = b} {x = x} l y r e) =
      let d = equal.reached ls bs b x r in
      let there = equal.reached (l ∷ ls) (b ∷ bs) (begun m y) y (labelled l y r e) in
      let step : Run edge n (l ∷ ls) (b ∷ bs) (begun n y) y =
      labelled l y (same_run r) (subst (λ a. StepsTo edge ls a l y) d.act e) in
      subst (λ c. Run edge n (l ∷ ls) (b ∷ bs) c y) (sym (onward_same nothing y there)) step

  -- and the other way round
  pub run_back : {ls : List RunLabel} {bs : List Block} {b : Block} {x : S} → Run edge n ls bs b x →
      Run edge m ls bs b x
  run_back starts =
      let d = equal.reached [] [] (begun m m.start) m.start starts in
      let first : Run edge m [] [] (begun n m.start) m.start =
      subst (λ b. Run edge m [] [] b m.start) (onward_same nothing m.start d) starts in
      subst (λ s. Run edge m [] [] (begun n s) s) equal.start first
  run_back (quiet {ls = ls} {bs = bs} {b = b} {x = x} y r e) =
      let back = run_back r in
      let d = equal.reached ls bs b x back in
      let step : Run edge m ls bs (onward m b y) y = quiet y back (d.act ∙ e) in
      let there = equal.reached ls bs (onward m b y) y step in
      subst (λ c. Run edge m ls bs c y) (onward_same b y there) step
  run_back (labelled {ls = ls} {bs = bs} {b = b} {x = x} l y r e) =
      let back = run_back r in
      let d = equal.reached ls bs b x back in
      let step : Run edge m (l ∷ ls) (b ∷ bs) (begun m y) y =
      labelled l y back (subst (λ a. StepsTo edge ls a l y) (sym d.act) e) in
      let there = equal.reached (l ∷ ls) (b ∷ bs) (begun m y) y step in
      subst (λ c. Run edge m (l ∷ ls) (b ∷ bs) c y) (onward_same nothing y there) step

  same_at : {ls : List RunLabel} {bs : List Block} {b : Block} {x : S} → Run edge n ls bs b x → DoSame m n x
  same_at {ls = ls} {bs = bs} {b = b} {x = x} r = equal.reached ls bs b x (run_back r)

  -- so each is equal to the other
  pub equal_back : EqualWhereReached edge n m
  equal_back = record {
    start = sym equal.start;
    reached = λ ls bs b x r. let d = same_at r in record {
      act = sym d.act;
      price = sym d.price;
      footprint = sym d.footprint;
      activations = sym d.activations;
      called =
          sym d.called;
    };
  }

  pub runs_same : (ls : List RunLabel) (bs : List Block) (b : Block) (x : S) → Run edge m ls bs b x →
      Run edge n ls bs b x
  runs_same ls bs b x r = same_run r

  -- what comes somewhere comes there as the other machine
  pub comes_same : (ls : List RunLabel) (P Q : Reached S → Type 0) → ((x : Reached S) → DoSame m n x.at → P x → Q x) →
      Comes edge m ls P → Comes edge n ls Q
  comes_same ls P Q f c =
      record {
        to = c.to;
        run = same_run c.run;
        there = f c.to (equal.reached ls c.to.blocks c.to.block c.to.at c.run)
            c.there;
      }

  pub bad_same : (ls : List RunLabel) → BadBefore edge m ls → BadBefore edge n ls
  bad_same ls b =
      record {
        since = b.since;
        before = b.before;
        prefix = b.prefix;
        bad = comes_same b.before
            (λ x. IsBad (m.act x.at)) (λ x. IsBad (n.act x.at)) (λ x d bad. subst IsBad d.act bad) b.bad;
      }

  pub open_same : (x : S) → DoSame m n x → open_functions m x ≡ open_functions n x
  open_same x d = ap (λ c. and_called c (m.activations x)) d.called
      ∙ ap (λ fs. and_called (n.called x) fs) d.activations

module _ {T S : Type 0} (edge : Edge) (t u : Machine T) (s r : Machine S) (targets : EqualWhereReached edge t u)
    (sources : EqualWhereReached edge s r) where
  has_back : (ls : List RunLabel) → HasRun edge r ls → HasRun edge s ls
  has_back ls h = record { to = h.to; run = run_back edge s r sources h.run; there = tt }

  kept_same : (x : Reached T) → DoSame t u x.at → (y : Reached S) → DoSame s r y.at → Kept t s x y → Kept u r x y
  kept_same x d y e k =
      let fine = k.fine in
      record {
        fine = record {
          costs = subst (λ v. 1 ≤ v) d.price fine.costs;
          within = fine.within;
          opened = subst (λ v. Subsequence v (open_functions r y.at)) (open_same edge t u targets x.at d)
              (subst (λ v. Subsequence (open_functions t x.at) v) (open_same edge s r sources y.at e) fine.opened);
        };
        within = k.within;
        meant = λ bad. k.meant (subst IsBad (sym d.act) bad);
      }

  -- refinement goes over to machines that are equal where they are reached
  pub equal_refines : Refines edge t s → Refines edge u r
  equal_refines h = record {
    kept = λ ls x run has.
        let back = run_back edge t u targets run in
        let d = targets.reached ls x.blocks x.block x.at back in
        ⊎_elim (λ b. inl (bad_same edge s r sources ls b))
        (λ c. inr (comes_same edge s r sources ls (Kept t s x) (Kept u r x) (λ y e k. kept_same x d y e k) c))
        (h.kept ls x back (has_back ls has));
    answers = λ ls x run has.
        let back = run_back edge t u targets run in
        let d = targets.reached ls x.blocks x.block x.at back in
        ⊎_elim (λ b. inl (bad_same edge s r sources ls b))
        (λ c. inr (comes_same edge s r sources ls (λ y. Answered (t.act x.at) (s.act y.at))
        (λ y. Answered (u.act x.at) (r.act y.at)) (λ y e k. subst (λ a. Answered a (r.act y.at)) d.act
        (subst (λ a. Answered (t.act x.at) a) e.act k)) c))
        (h.answers ls x back (has_back ls has));
  }
