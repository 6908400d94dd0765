-- The thread of the target refines that of the source.
use Rattle.std.proofs.Common.{◌≡◌, ℕ, nat_eq, Bool, true, false, List, [], ◌∷◌, ◌⊎◌, inl, inr, refl, sym, ap, ◌∙◌, subst, ⊎_elim, eqb-true}
use Rattle.std.proofs.lemmas.Bool.{eqb-false}
use Rattle.cas_runs.specs.Label.{RunLabel, Lock}
use Rattle.cas_runs.specs.Edge.{Edge}
use Rattle.cas_runs.specs.Machine.{Act, Quiet, Emits, Crosses, Locks, Receives, Bad, Stops, Halt, Ended, Taken, Full, Event, Unlocks, Prints, Ends, label_of, StepsTo, IsBad, Block, labelled, begun, open_functions}
use Rattle.cas_runs.specs.Refines.{Subsequence, done, Reached, Reaches, Comes, HasRun, BadBefore, Kept, Answered, Refines}
use Rattle.cas_runs.proofs.Refining.{bad_here, before_label}
use Rattle.cas_runs.proofs.Composing.{sub_both}
use Rattle.cas_joins.specs.Units.{Family, IsFamily, Units, state_now}
use Rattle.cas_joins.specs.Decomposes.{Target, act_now, StepDecomposes, Decomposes}
use Rattle.cas_joins.specs.Composes.{Source, Composes}
use Rattle.cas_joins.proofs.Plain.{plain_emitted, plain_not_brought, plain_not_crossing, bad_or_has}
use Rattle.cas_joins.proofs.Building.{placed, walk_to, composes_at, waits_there, waits_fine, has_begun}
use Rattle.cas_joins.proofs.Midst.{Mid, before_it, reached, has_now, mid_bad, mid_kept, Over, pays_all}
use Rattle.cas_joins.proofs.Spoken.{Both}
use Rattle.cas_joins.proofs.Each.{Made, decomposes_at, each}

same_event : (e f : Event) → label_of f ≡ label_of e → e ≡ f
same_event (Unlocks l ws) (Unlocks k vs) e = cc e
same_event (Unlocks l ws) (Prints w) e = absurd (cc e)
same_event (Unlocks l ws) Ends e = absurd (cc e)
same_event (Prints w) (Unlocks k vs) e = absurd (cc e)
same_event (Prints w) (Prints v) e = cc e
same_event (Prints w) Ends e = absurd (cc e)
same_event Ends (Unlocks k vs) e = absurd (cc e)
same_event Ends (Prints w) e = absurd (cc e)
same_event Ends Ends e = refl

no_lock : (e : Event) (lock : ℕ) (words : List ℕ) → label_of e ≡ Lock lock words → ⊥
no_lock (Unlocks l ws) lock words e = cc e
no_lock (Prints w) lock words e = cc e
no_lock Ends lock words e = cc e

-- what goes on by the label of an event stands at that event
emits_too : {X S : Type 0} (edge : Edge) (ls : List RunLabel) (event : Event) (z : X) (a : Act S) (y : S) →
    StepsTo edge ls a (label_of event) y → Answered (Emits event z) a
emits_too edge ls event z (Emits other n) y h = same_event event other h.0
emits_too edge ls event z (Crosses f share n) y h =
    absurd (plain_not_crossing f share h.0 (label_of event) (plain_emitted event) h.1)
emits_too edge ls event z (Locks lock n) y h = absurd (no_lock event lock h.0 h.1)
emits_too edge ls event z (Receives n) y h =
    absurd (plain_not_brought edge ls (label_of event) (plain_emitted event) h.0)
emits_too edge ls event z (Quiet n) y h = absurd h
emits_too edge ls event z Bad y h = absurd h
emits_too edge ls event z (Stops w) y h = absurd h

same_lock : {T S : Type 0} (lock : ℕ) (next : List ℕ → T) (b : Act S) → Answered (Locks lock next) b →
    (s_next : List ℕ → S) × (b ≡ Locks lock s_next)
same_lock lock next (Locks other n) h = (n, ap (λ l. Locks l n) (sym h))
same_lock lock next (Quiet y) h = absurd h
same_lock lock next (Emits e y) h = absurd h
same_lock lock next (Crosses f share n) h = absurd h
same_lock lock next (Receives n) h = absurd h
same_lock lock next Bad h = absurd h
same_lock lock next (Stops why) h = absurd h

-- a halt of the target that isn't for want of room is one of the source
same_halt : (T : Type 0) {S : Type 0} (why : Halt) (b : Act S) → Answered {T = T} (Stops why) b →
    (why ≡ Full) ⊎ (b ≡ Stops why)
same_halt T Full b h = inl refl
same_halt T Ended (Stops other) h = inr (ap Stops (sym h))
same_halt T (Taken l) (Stops other) h = inr (ap Stops (sym h))
same_halt T Ended (Quiet y) h = absurd h
same_halt T Ended (Emits e y) h = absurd h
same_halt T Ended (Crosses f share n) h = absurd h
same_halt T Ended (Locks l n) h = absurd h
same_halt T Ended (Receives n) h = absurd h
same_halt T Ended Bad h = absurd h
same_halt T (Taken l) (Quiet y) h = absurd h
same_halt T (Taken l) (Emits e y) h = absurd h
same_halt T (Taken l) (Crosses f share n) h = absurd h
same_halt T (Taken l) (Locks k n) h = absurd h
same_halt T (Taken l) (Receives n) h = absurd h
same_halt T (Taken l) Bad h = absurd h

halts_alike : (X Y : Type 0) (why : Halt) → Answered {T = X} {S = Y} (Stops why) (Stops why)
halts_alike X Y Full = tt
halts_alike X Y Ended = refl
halts_alike X Y (Taken l) = refl

module _ {K U T X S Y : Type 0} (p : Family K) (whole : IsFamily p) (t : Target K U T X) (s : Source K S Y)
    (refine : (u : U) (i : ℕ) → Refines (p.edges i) (t.units u i) (s.units i)) (units : Decomposes p t)
    (joins : Composes p s) where
  decomposed_bad : (u : U) (h : Units K T) (a : Act X) → IsBad a → StepDecomposes p t u h a → ⊥
  decomposed_bad u h Bad b c = c
  decomposed_bad u h (Quiet n) b c = b
  decomposed_bad u h (Emits k n) b c = b
  decomposed_bad u h (Locks k n) b c = b
  decomposed_bad u h (Crosses f share n) b c = b
  decomposed_bad u h (Receives n) b c = b
  decomposed_bad u h (Stops why) b c = b

  -- Runs are kept.

  -- the open functions of each unit are in order: a unit that waits has one state with its labels
  unit_opened : {ls : List RunLabel} {bs : List Block} {b : Block} {u : U} {h : Units K T}
      (m : Mid p t s refine units joins ls bs b u h) (to : ℕ → S) →
      ((i : ℕ) → (i ≡ h.talk.now → ⊥) → to i ≡ m.built.states i) →
      Subsequence (open_functions (t.units u h.talk.now) (state_now h))
      (open_functions (s.units h.talk.now) (to h.talk.now)) → (i : ℕ) →
      Subsequence (open_functions (t.units u i) (h.states i)) (open_functions (s.units i) (to i))
  unit_opened {u = u} {h = h} m to there now i = by (nat_eq i h.talk.now) refl
    where
      by : (e : Bool) → nat_eq i h.talk.now ≡ e →
          Subsequence (open_functions (t.units u i) (h.states i)) (open_functions (s.units i) (to i))
      by true e =
          subst (λ n. Subsequence (open_functions (t.units u n) (h.states n)) (open_functions (s.units n) (to n)))
          (sym (eqb-true i h.talk.now e)) now
      by false e =
          let no : i ≡ h.talk.now → ⊥ = eqb-false i h.talk.now e in
          let k = h.talk.labels i in
          let y = m.built.states i in
          let waits = joins.waits (placed h.talk m.built.states) m.built.thread.at m.built.joined i no in
          let r = m.runs i in
          ⊎_elim (λ d. absurd (waits_fine p s joins i k y (m.built.begins i) waits d))
          (λ c.
          subst (λ v. Subsequence (open_functions (t.units u i) (h.states i)) (open_functions (s.units i) v))
          (waits_there p s joins i k y (m.built.begins i) waits c.to.blocks c.to.block c.to.at c.run ∙ sym (there i no))
          c.there.fine.opened)
          ((refine u i).kept k (record { blocks = r.blocks; block = r.block; at = h.states i }) r.run
          (has_begun p s joins i k y (m.built.begins i)))

  both_kept : (ls : List RunLabel) (x : Reached X) (o : Both p whole t s refine units joins ls x.blocks x.block x.at) →
      BadBefore p.edge s.thread ls ⊎ Comes p.edge s.thread ls (Kept t.thread s.thread x)
  both_kept ls x o =
      let m = o.mid in
      let now = o.units.talk.now in
      ⊎_elim inl (λ c.
      ⊎_elim inl (λ k.
      ⊎_elim inl (λ w.
      ⊎_elim
      (λ bad. inl (bad_here p.edge s.thread ls
      (record { blocks = m.blocks; block = w.thread.block; at = w.thread.at }) w.thread.run bad))
      (λ opens.
      let here : Subsequence (open_functions (t.units o.chosen now) (state_now o.units))
      (open_functions (s.units now) (w.to now)) =
      subst (λ v. Subsequence (open_functions (t.units o.chosen now) (state_now o.units))
      (open_functions (s.units now) v)) (sym w.gone.here) k.there.fine.opened in
      inr (record {
        to = record { blocks = m.blocks; block = w.thread.block; at = w.thread.at };
        run = w.thread.run;
        there = record {
          fine = record {
            costs = units.costs x.at;
            within = pays_all p t s refine units joins m k.to.block w.thread.block k.there.fine.within w.pays;
            opened = sub_both (units.opened o.chosen o.units x.at o.at)
                (sub_both (whole.weaves o.units.talk
                (λ i. open_functions (t.units o.chosen i) (o.units.states i))
                (λ i. open_functions (s.units i) (w.to i)) (unit_opened m w.to w.gone.there here)) opens);
          };
          within = m.closed;
          meant = λ bad. decomposed_bad o.chosen o.units (t.thread.act x.at) bad c;
        };
      }))
      (joins.opened (placed o.units.talk w.to) w.thread.at w.joined))
      (walk_to p s joins (before_it p t s refine units joins m) m.built k.to.blocks k.to.block k.to.at k.run))
      (mid_kept p t s refine units joins m))
      (decomposes_at p whole t s refine units joins o (t.thread.act x.at) refl)

  stops_not_bad : (a : Act X) (why : Halt) → a ≡ Stops why → IsBad a → ⊥
  stops_not_bad a why e b = subst IsBad e b

  over_kept : (ls : List RunLabel) (x : Reached X) → Over p t s refine units joins ls x.blocks x.block x.at →
      Comes p.edge s.thread ls (Kept t.thread s.thread x)
  over_kept ls x o = record {
    to = o.thread;
    run = o.run;
    there = record {
      fine = record {
        costs = units.costs x.at;
        within = o.now;
        opened = subst (λ v. Subsequence v (open_functions s.thread o.thread.at)) (sym o.over.opened)
            (subst (λ v. Subsequence [] v) (sym o.s_over.opened) done);
      };
      within = o.closed;
      meant = stops_not_bad (t.thread.act x.at) Ended o.over.stops;
    };
  }

  -- Runs are answered.

  made_has : (ls : List RunLabel) (bs : List Block) (b : Block) (x : X) →
      Made p whole t s refine units joins ls bs b x → HasRun p.edge s.thread ls
  made_has ls bs b x o = ⊎_elim
      (λ k. record {
        to = record { blocks = k.mid.blocks; block = k.mid.built.thread.block; at = k.mid.built.thread.at };
        run = k.mid.built.thread.run;
        there = tt;
      })
      (λ k. record { to = k.thread; run = k.run; there = tt }) o

  module _ (ls : List RunLabel) (x : Reached X) (r : Reaches p.edge t.thread ls x)
      (o : Both p whole t s refine units joins ls x.blocks x.block x.at) where
    abbrev Answers : Act X → Type 0
    Answers a = BadBefore p.edge s.thread ls ⊎ Comes p.edge s.thread ls (λ y. Answered a (s.thread.act y.at))

    emitted_answer : (event : Event) (z : X) → t.thread.act x.at ≡ Emits event z → Answers (Emits event z)
    emitted_answer event z e =
        let l = label_of event in
        let steps : StepsTo p.edge ls (t.thread.act x.at) l z =
        subst (λ (v : Act X). StepsTo p.edge ls v l z) (sym e) (refl, refl) in
        ⊎_elim inl (λ has.
        let k = before_label p.edge s.thread l ls has.run refl in
        inr (record {
          to = k.from;
          run = k.run;
          there = emits_too p.edge ls event z (s.thread.act k.from.at) k.to k.leads;
        }))
        (⊎_elim (λ d. bad_or_has p.edge s.thread l ls d)
        (λ k. inr (made_has (l ∷ ls) (x.block ∷ x.blocks) (begun t.thread z) z k))
        (each p whole t s refine units joins (labelled l z r steps)))

    -- the source's unit comes to a step that answers, and its thread with it
    unit_answers : BadBefore p.edge s.thread ls
        ⊎ Comes (p.edges o.units.talk.now) (s.units o.units.talk.now) (o.units.talk.labels o.units.talk.now)
        (λ y. Answered (act_now p t o.chosen o.units) ((s.units o.units.talk.now).act y.at))
    unit_answers =
        let m = o.mid in
        let now = o.units.talk.now in
        ⊎_elim (λ d. inl (mid_bad p t s refine units joins m d)) inr
        ((refine o.chosen now).answers (o.units.talk.labels now) (reached p t s refine units joins m) m.now.run
        (has_now p t s refine units joins m))

    lock_answer : (lock : ℕ) (n : List ℕ → X) → StepDecomposes p t o.chosen o.units (Locks lock n) →
        Answers (Locks lock n)
    lock_answer lock n c =
        let m = o.mid in
        let now = o.units.talk.now in
        ⊎_elim inl (λ a.
        let b = same_lock lock c.0.0 ((s.units now).act a.to.at)
        (subst (λ (v : Act T). Answered v ((s.units now).act a.to.at)) c.0.1 a.there) in
        ⊎_elim inl (λ w.
        ⊎_elim inl (λ j. inr (record {
          to = record { blocks = m.blocks; block = w.thread.block; at = w.thread.at };
          run = w.thread.run;
          there = subst (λ (v : Act Y). Answered (Locks lock n) v) (sym j.1) refl;
        }))
        (composes_at p s joins (before_it p t s refine units joins m) m.built.states a.to.block a.to.at w
        (Locks lock b.0) b.1))
        (walk_to p s joins (before_it p t s refine units joins m) m.built a.to.blocks a.to.block a.to.at a.run))
        unit_answers

    full_answer : (why : Halt) → why ≡ Full → Answers (Stops why)
    full_answer why e = subst (λ v. Answers (Stops v)) (sym e) (inr (record {
      to = record { blocks = o.mid.blocks; block = o.mid.built.thread.block; at = o.mid.built.thread.at };
      run = o.mid.built.thread.run;
      there = tt;
    }))

    halt_answer : (why : Halt) → act_now p t o.chosen o.units ≡ Stops why → Answers (Stops why)
    halt_answer why e =
        let m = o.mid in
        let now = o.units.talk.now in
        ⊎_elim inl (λ a.
        ⊎_elim (λ f. full_answer why f) (λ b.
        ⊎_elim inl (λ w.
        ⊎_elim inl (λ j. inr (record {
          to = record { blocks = m.blocks; block = w.thread.block; at = w.thread.at };
          run = w.thread.run;
          there = subst (λ (v : Act Y). Answered {T = X} (Stops why) v) (sym j) (halts_alike X Y why);
        }))
        (composes_at p s joins (before_it p t s refine units joins m) m.built.states a.to.block a.to.at w
        (Stops why) b))
        (walk_to p s joins (before_it p t s refine units joins m) m.built a.to.blocks a.to.block a.to.at a.run))
        (same_halt T why ((s.units now).act a.to.at)
        (subst (λ (v : Act T). Answered v ((s.units now).act a.to.at)) e a.there)))
        unit_answers

    answer : (a : Act X) → t.thread.act x.at ≡ a → StepDecomposes p t o.chosen o.units a → Answers a
    answer (Quiet z) e c = inr (record {
      to = record { blocks = o.mid.blocks; block = o.mid.built.thread.block; at = o.mid.built.thread.at };
      run = o.mid.built.thread.run;
      there = tt;
    })
    answer (Emits event z) e c = emitted_answer event z e
    answer (Locks lock n) e c = lock_answer lock n c
    answer (Stops why) e c = ⊎_elim (λ h. halt_answer why h) (λ h. full_answer why h) c
    answer (Crosses f share n) e c = absurd c
    answer (Receives n) e c = absurd c
    answer Bad e c = absurd c

  over_answer : (ls : List RunLabel) (x : Reached X) → Over p t s refine units joins ls x.blocks x.block x.at →
      Comes p.edge s.thread ls (λ y. Answered (t.thread.act x.at) (s.thread.act y.at))
  over_answer ls x o = record {
    to = o.thread;
    run = o.run;
    there =
        subst (λ (v : Act X). Answered v (s.thread.act o.thread.at)) (sym o.over.stops)
        (subst (λ (v : Act Y). Answered {T = X} (Stops Ended) v) (sym o.s_over.stops) refl);
  }

  pub thread_refines : Refines p.edge t.thread s.thread
  thread_refines = record {
    kept = λ ls x r has.
        ⊎_elim inl (λ o. ⊎_elim (λ k. both_kept ls x k) (λ k. inr (over_kept ls x k)) o)
        (each p whole t s refine units joins r);
    answers = λ ls x r has.
        ⊎_elim inl (λ o. ⊎_elim
        (λ k. ⊎_elim inl (λ c. answer ls x r k (t.thread.act x.at) refl c)
        (decomposes_at p whole t s refine units joins k (t.thread.act x.at) refl))
        (λ k. inr (over_answer ls x k)) o)
        (each p whole t s refine units joins r);
  }
