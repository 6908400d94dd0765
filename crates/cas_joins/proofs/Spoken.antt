-- A label of the running unit that doesn't cross is one of the thread, on both sides.
use Rattle.std.proofs.Common.{◌≡◌, ℕ, ◌≤◌, List, [], ◌∷◌, ◌⊎◌, inl, inr, refl, sym, subst, ⊎_elim, arith}
use Rattle.cas_runs.specs.Label.{RunLabel, Lock}
use Rattle.cas_runs.specs.Edge.{AreGuarded}
use Rattle.cas_runs.specs.Machine.{Act, Quiet, Emits, Crosses, Locks, Receives, Bad, Stops, StepsTo, Block, Run, begun, onward, nothing, quiet, labelled, starts}
use Rattle.cas_runs.specs.Refines.{Within, none, more, HasRun, BadBefore, Refines}
use Rattle.cas_runs.specs.Forms.{FootIn}
use Rattle.cas_runs.specs.Known.{set}
use Rattle.cas_runs.specs.Walking.{at_start, after, stays}
use Rattle.cas_runs.proofs.Stars.{run_walk}
use Rattle.cas_runs.proofs.Refining.{IsQuiet, leads_not_quiet, Before, before_label}
use Rattle.cas_runs.proofs.Composing.{follows, within_both, within_same}
use Rattle.cas_runs.proofs.Families.{set_all, set_one, set_here}
use Rattle.cas_joins.specs.Units.{Family, IsFamily, Units, state_now, goes_on, emits, at_first, Stands}
use Rattle.cas_joins.specs.Decomposes.{Target, act_now, Carries, Decomposes}
use Rattle.cas_joins.specs.Composes.{Source, Composes, StepComposes}
use Rattle.cas_joins.proofs.Blocks.{plus, step_within, step_inside, nothing_plus, plus_front}
use Rattle.cas_joins.proofs.Plain.{guarded_too, IsPlain, plain_not_brought, plain_not_crossing, plain_steps}
use Rattle.cas_joins.proofs.Building.{placed, Begun, Walked, walk_to, composes_at}
use Rattle.cas_joins.proofs.Midst.{Mid, before_it, reached, has_now, mid_bad, closes, Hopped, StandsAt, pays_all}

module _ {K U T X S Y : Type 0} (p : Family K) (whole : IsFamily p) (t : Target K U T X) (s : Source K S Y)
    (refine : (u : U) (i : ℕ) → Refines (p.edges i) (t.units u i) (s.units i)) (cuts : Decomposes p t)
    (joins : Composes p s) where
  -- the source's thread goes on by this label
  record JoinsBy (ls : List RunLabel) (h : Units K S) (z : Y) (l : RunLabel) (y : S) : Type 0 where
    next : Y
    steps : StepsTo p.edge ls (s.thread.act z) l next
    joined : s.at (emits h l y) next

  joins_by : (ls : List RunLabel) (h : Units K S) (z : Y) (l : RunLabel) → IsPlain l → (y : S) (a : Act S) →
      StepsTo (p.edges h.talk.now) (h.talk.labels h.talk.now) a l y → StepComposes p s h z a → JoinsBy ls h z l y
  joins_by ls h z l plain y (Quiet n) leads j = absurd leads
  joins_by ls h z l plain y (Emits e n) leads j = record {
    next = j.0;
    steps = subst (λ (v : Act Y). StepsTo p.edge ls v l j.0) (sym j.1) (leads.0, refl);
    joined = subst (λ v. s.at (emits h l v) j.0) leads.1 (subst (λ v. s.at (emits h v n) j.0) leads.0 j.2);
  }
  joins_by ls h z l plain y (Locks lock n) leads j =
      let guarded : AreGuarded p.edge lock leads.0 =
      guarded_too (p.edges h.talk.now) p.edge (whole.cells h.talk.now) lock leads.0 leads.2 in
      let same : l ≡ Lock lock leads.0 = leads.1 in
      let joined : s.at (emits h (Lock lock leads.0) y) (j.0 leads.0) =
      subst (λ v. s.at (emits h (Lock lock leads.0) v) (j.0 leads.0)) leads.3 (j.2 leads.0 guarded) in
      record {
        next = j.0 leads.0;
        steps = subst (λ (v : Act Y). StepsTo p.edge ls v l (j.0 leads.0)) (sym j.1) (leads.0, same, guarded, refl);
        joined = subst (λ v. s.at (emits h v y) (j.0 leads.0)) (sym same) joined;
      }
  joins_by ls h z l plain y (Crosses f share n) leads j = absurd (plain_not_crossing f share leads.0 l plain leads.1)
  joins_by ls h z l plain y (Receives n) leads j =
      absurd (plain_not_brought (p.edges h.talk.now) (h.talk.labels h.talk.now) l plain leads.0)
  joins_by ls h z l plain y Bad leads j = absurd leads
  joins_by ls h z l plain y (Stops w) leads j = absurd leads

  -- the thread stands where its units do, and the source's has come as far
  pub record Both (ls : List RunLabel) (bs : List Block) (b : Block) (x : X) : Type 0 where
    pub chosen : U
    pub units : Units K T
    pub mid : Mid p t s refine cuts joins ls bs b chosen units
    pub at : t.at chosen units x

  module _ {ls : List RunLabel} {bs : List Block} {b : Block} {u : U} {h : Units K T}
      (m : Mid p t s refine cuts joins ls bs b u h) where
    -- the source's unit has the label, and so has its thread
    pub record Spoken (l : RunLabel) : Type 0 where
      pub before : Before (p.edges h.talk.now) (s.units h.talk.now) l (h.talk.labels h.talk.now)
      pub walked : Walked p s joins (before_it p t s refine cuts joins m) m.built.states before.from.block
          before.from.at
      pub next : Y
      pub steps : StepsTo p.edge ls (s.thread.act walked.thread.at) l next
      pub joined : s.at (emits (placed h.talk walked.to) l before.to) next
      pub closed : Within m.now.block before.from.block

    spoken_by : (l : RunLabel) → IsPlain l →
        HasRun (p.edges h.talk.now) (s.units h.talk.now) (l ∷ h.talk.labels h.talk.now) →
        BadBefore p.edge s.thread ls ⊎ Spoken l
    spoken_by l plain has =
        let now = h.talk.now in
        let k = before_label (p.edges now) (s.units now) l (h.talk.labels now) has.run refl in
        ⊎_elim inl (λ w.
        ⊎_elim inl (λ j.
        ⊎_elim inl (λ c.
        let o = joins_by ls (placed h.talk w.to) w.thread.at l plain k.to ((s.units now).act k.from.at) k.leads j in
        inr (record { before = k; walked = w; next = o.next; steps = o.steps; joined = o.joined; closed = c }))
        (closes p t s refine cuts joins m k.from k.run
        (λ z q. leads_not_quiet (p.edges now) (h.talk.labels now) ((s.units now).act k.from.at) l k.to k.leads
        (subst (λ (a : Act S). IsQuiet a) (sym q) tt))))
        (composes_at p s joins (before_it p t s refine cuts joins m) m.built.states k.from.block k.from.at w
        ((s.units now).act k.from.at) refl))
        (walk_to p s joins (before_it p t s refine cuts joins m) m.built k.from.blocks k.from.block k.from.at k.run)

    pub spoken : (l : RunLabel) → IsPlain l → (x : T) →
        StepsTo (p.edges h.talk.now) (h.talk.labels h.talk.now) (act_now p t u h) l x →
        BadBefore p.edge s.thread ls ⊎ Spoken l
    spoken l plain x leads =
        let now = h.talk.now in
        ⊎_elim (λ d. inl (mid_bad p t s refine cuts joins m d)) (λ has. spoken_by l plain has)
        (follows (p.edges now) (t.units u now) (s.units now) (refine u now) (h.talk.labels now)
        (reached p t s refine cuts joins m) m.now.run (has_now p t s refine cuts joins m)
        (plain_steps (p.edges now) (h.talk.labels now) (act_now p t u h) l x plain leads) l x leads)

    -- the block that begins after the label, on both sides
    pub both_spoken : (l : RunLabel) (o : Spoken l) (x : T) →
        StepsTo (p.edges h.talk.now) (h.talk.labels h.talk.now) (act_now p t u h) l x → (z : X) →
        t.at u (emits h l x) z →
        FootIn ((s.units h.talk.now).footprint (set o.walked.to h.talk.now o.before.to h.talk.now))
        (s.thread.footprint o.next) →
        Both (l ∷ ls) (b ∷ bs) (begun t.thread z) z
    both_spoken l o x leads z at foot =
        let now = h.talk.now in
        let labels : ℕ → List RunLabel = set h.talk.labels now (l ∷ h.talk.labels now) in
        let states : ℕ → T = set h.states now x in
        let ys : ℕ → S = set o.walked.to now o.before.to in
        let said : Run (p.edges now) (t.units u now) (l ∷ h.talk.labels now) (m.now.block ∷ m.now.blocks)
        (begun (t.units u now) x) x = labelled l x m.now.run leads in
        let current : StandsAt (p.edges now) (t.units u now) (labels now) (begun (t.units u now) (states now))
        (states now) =
        set_one (λ k v. StandsAt (p.edges now) (t.units u now) k (begun (t.units u now) v) v) h.talk.labels h.states now
        (l ∷ h.talk.labels now) x (record { blocks = m.now.block ∷ m.now.blocks; run = said }) in
        let f = run_walk (p.edges now) (s.units now) (h.talk.labels now) o.before.from.blocks o.before.from.block
        o.before.from.at o.before.run in
        record {
          chosen = u;
          units = emits h l x;
          at = at;
          mid = record {
            runs = set_all (λ i k v. Stands (p.edges i) (t.units u i) k v) h.talk.labels h.states now
                (l ∷ h.talk.labels now) x (λ i no. m.runs i)
                (record { blocks = m.now.block ∷ m.now.blocks; block = begun (t.units u now) x; run = said });
            now = record {
              blocks = current.blocks;
              block = begun (t.units u now) (states now);
              run = current.run;
            };
            blocks = o.walked.thread.block ∷ m.blocks;
            due = nothing;
            built = record {
              states = ys;
              begins = set_all (λ i k v. Begun p s joins i k v) h.talk.labels o.walked.to now (l ∷ h.talk.labels now)
                  o.before.to
                  (λ i no. subst (λ v. Begun p s joins i (h.talk.labels i) v) (sym (o.walked.gone.there i no))
                  (m.built.begins i))
                  (record {
                    blocks = o.before.from.block ∷ o.before.from.blocks;
                    begins = after l o.before.to f.begins f.star o.before.leads;
                  });
              thread = record {
                block = begun s.thread o.next;
                at = o.next;
                run = labelled l o.next o.walked.thread.run o.steps;
              };
              joined = o.joined;
              pays = within_both _ _ _ (nothing_plus _)
                  (step_within nothing nothing _ _ _ _ (within_same nothing)
                  (joins.price (emits (placed h.talk o.walked.to) l o.before.to) o.next o.joined) foot);
            };
            closed = more
                (pays_all p t s refine cuts joins m o.before.from.block o.walked.thread.block o.closed o.walked.pays)
                m.closed;
            pays = record {
              due = nothing;
              extra = begun (t.units u now) (states now);
              paid = within_same nothing;
              counts = within_same _;
              pays = within_both _ _ _
                  (step_within nothing nothing _ _ _ _ (within_same nothing) (cuts.price u (emits h l x) z at)
                  (cuts.touches u (emits h l x) z at)) (plus_front _);
            };
          };
        }

    -- the running unit makes a quiet step
    pub both_quiet : (y : T) → act_now p t u h ≡ Quiet y → (z : X) → t.at u (goes_on h y) z →
        Both ls bs (onward t.thread b z) z
    both_quiet y e z at =
        let now = h.talk.now in
        let cost : t.thread.price z ≤ (t.units u now).price y =
        subst (λ v. t.thread.price z ≤ (t.units u now).price v) (set_here h.states now y)
        (cuts.price u (goes_on h y) z at) in
        let touch : FootIn (t.thread.footprint z) ((t.units u now).footprint y) =
        subst (λ v. FootIn (t.thread.footprint z) ((t.units u now).footprint v)) (set_here h.states now y)
        (cuts.touches u (goes_on h y) z at) in
        record {
          chosen = u;
          units = goes_on h y;
          at = at;
          mid = record {
            runs = set_all (λ i v w. Stands (p.edges i) (t.units u i) (h.talk.labels i) w) h.states h.states now y y
                (λ i no. m.runs i)
                (record {
                  blocks = m.now.blocks;
                  block = onward (t.units u now) m.now.block y;
                  run = quiet y m.now.run e;
                });
            now = record {
              blocks = m.now.blocks;
              block = onward (t.units u now) m.now.block y;
              run = subst (λ v. Run (p.edges now) (t.units u now) (h.talk.labels now) m.now.blocks
                  (onward (t.units u now) m.now.block y) v) (sym (set_here h.states now y)) (quiet y m.now.run e);
            };
            blocks = m.blocks;
            due = m.due;
            built = m.built;
            closed = m.closed;
            pays = record {
              due = m.pays.due;
              extra = onward (t.units u now) m.pays.extra y;
              paid = m.pays.paid;
              counts = step_within m.pays.extra m.now.block _ _ _ _ m.pays.counts (omega arith)
                  (record { writes = λ w a. a; reads = λ w a. inl a });
              pays = within_both _ _ _
                  (step_within b (plus m.pays.due m.pays.extra) _ _ _ _ m.pays.pays cost touch)
                  (step_inside m.pays.due m.pays.extra _ _);
            };
          };
        }

    -- the values that nothing fixes are chosen anew
    pub carried : (v : U) → Carries p t u h v → Mid p t s refine cuts joins ls bs b v h
    carried v carries = record {
      runs = λ i. record {
        blocks = (m.runs i).blocks;
        block = (m.runs i).block;
        run = carries i (m.runs i).blocks (m.runs i).block (h.states i) (m.runs i).run;
      };
      now = record {
        blocks = m.now.blocks;
        block = m.now.block;
        run = carries h.talk.now m.now.blocks m.now.block (state_now h) m.now.run;
      };
      blocks = m.blocks;
      due = m.due;
      built = m.built;
      closed = m.closed;
      pays = m.pays;
    }

  -- another unit runs
  pub both_hopped : {ls : List RunLabel} {bs : List Block} {b : Block} (z : X) →
      Hopped p t s refine cuts joins ls bs b 0 (λ v k. t.at v k z) → Both ls bs (onward t.thread b z) z
  both_hopped {b = b} z o =
      let m = o.mid in
      let now = o.units.talk.now in
      let cost : t.thread.price z ≤ (t.units o.chosen now).price (o.units.states now) =
      cuts.price o.chosen o.units z o.chain in
      let touch : FootIn (t.thread.footprint z) ((t.units o.chosen now).footprint (o.units.states now)) =
      cuts.touches o.chosen o.units z o.chain in
      record {
        chosen = o.chosen;
        units = o.units;
        at = o.chain;
        mid = record {
          runs = m.runs;
          now = m.now;
          blocks = m.blocks;
          due = m.due;
          built = m.built;
          closed = m.closed;
          pays = record {
            due = m.pays.due;
            extra = begun (t.units o.chosen now) (o.units.states now);
            paid = m.pays.paid;
            counts = subst (λ v. Within (begun (t.units o.chosen now) (o.units.states now)) v) (sym o.fresh)
                (within_same _);
            pays = within_both _ _ _
                (step_within b (plus m.pays.due nothing) _ _ _ _
                (subst (λ v. Within b (plus m.pays.due v)) o.uncounted m.pays.pays) cost touch)
                (step_inside m.pays.due nothing _ _);
          };
        };
      }

  -- at the start the units of the entry have received
  pub both_first : FootIn ((s.units p.opening.to).footprint
      (set (λ i. (s.units i).start) p.opening.to (joins.starts.receive p.opening.receives) p.opening.to))
      (s.thread.footprint s.thread.start) →
      Both [] [] (begun t.thread t.thread.start) t.thread.start
  both_first foot =
      let u = cuts.starts.chosen in
      let e = p.opening.to in
      let l = p.opening.receives in
      let none_yet : ℕ → List RunLabel = λ i. [] in
      let t_starts : ℕ → T = λ i. (t.units u i).start in
      let s_starts : ℕ → S = λ i. (s.units i).start in
      let to : T = cuts.starts.receive l in
      let s_to : S = joins.starts.receive l in
      let heard : Run (p.edges e) (t.units u e) (l ∷ []) (begun (t.units u e) (t_starts e) ∷ [])
      (begun (t.units u e) to) to =
      labelled l to starts
      (subst (λ (a : Act T). StepsTo (p.edges e) [] a l to) (sym cuts.starts.waits) (joins.starts.may, refl)) in
      let current : StandsAt (p.edges e) (t.units u e) (set none_yet e (l ∷ []) e)
      (begun (t.units u e) (set t_starts e to e)) (set t_starts e to e) =
      set_one (λ k v. StandsAt (p.edges e) (t.units u e) k (begun (t.units u e) v) v) none_yet t_starts e (l ∷ []) to
      (record { blocks = begun (t.units u e) (t_starts e) ∷ []; run = heard }) in
      record {
        chosen = u;
        units = at_first p t_starts to;
        at = cuts.starts.at;
        mid = record {
          runs = set_all (λ i k v. Stands (p.edges i) (t.units u i) k v) none_yet t_starts e (l ∷ []) to
              (λ i no. record { blocks = []; block = begun (t.units u i) (t_starts i); run = starts })
              (record {
                blocks = begun (t.units u e) (t_starts e) ∷ [];
                block = begun (t.units u e) to;
                run = heard;
              });
          now = record {
            blocks = current.blocks;
            block = begun (t.units u e) (set t_starts e to e);
            run = current.run;
          };
          blocks = [];
          due = nothing;
          built = record {
            states = set s_starts e s_to;
            begins = set_all (λ i k v. Begun p s joins i k v) none_yet s_starts e (l ∷ []) s_to
                (λ i no. record { blocks = []; begins = at_start })
                (record {
                  blocks = begun (s.units e) (s_starts e) ∷ [];
                  begins = after l s_to at_start stays
                      (subst (λ (a : Act S). StepsTo (p.edges e) [] a l s_to) (sym joins.starts.waits)
                      (joins.starts.may, refl));
                });
            thread = record { block = begun s.thread s.thread.start; at = s.thread.start; run = starts };
            joined = joins.starts.at;
            pays = within_both _ _ _ (nothing_plus _)
                (step_within nothing nothing _ _ _ _ (within_same nothing)
                (joins.price (at_first p s_starts s_to) s.thread.start joins.starts.at) foot);
          };
          closed = none;
          pays = record {
            due = nothing;
            extra = begun (t.units u e) (set t_starts e to e);
            paid = within_same nothing;
            counts = within_same _;
            pays = within_both _ _ _
                (step_within nothing nothing _ _ _ _ (within_same nothing)
                (cuts.price u (at_first p t_starts to) t.thread.start cuts.starts.at)
                (cuts.touches u (at_first p t_starts to) t.thread.start cuts.starts.at)) (plus_front _);
          };
        };
      }
