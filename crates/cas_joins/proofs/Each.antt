-- Each run of the target's thread is made of runs of its units, and there is one of the source's thread that is made of
-- those of its own.
use Rattle.std.proofs.Common.{◌≡◌, ℕ, List, [], ◌∷◌, ◌⊎◌, inl, inr, refl, sym, subst, ⊎_elim}
use Rattle.cas_runs.specs.Label.{RunLabel, Lock, Done}
use Rattle.cas_runs.specs.Edge.{AreGuarded}
use Rattle.cas_runs.specs.Machine.{Act, Quiet, Emits, Crosses, Locks, Receives, Bad, Stops, Ended, label_of, StepsTo, Block, Run, begun, onward, starts, quiet, labelled}
use Rattle.cas_runs.specs.Refines.{BadBefore, Refines}
use Rattle.cas_runs.proofs.Refining.{bad_here, bad_longer}
use Rattle.cas_joins.specs.Units.{Family, IsFamily, Units, emits, at_first, IsOver}
use Rattle.cas_joins.specs.Decomposes.{Target, act_now, StepDecomposes, Decomposes}
use Rattle.cas_joins.specs.Composes.{Source, Composes}
use Rattle.cas_joins.proofs.Plain.{guarded_too, IsPlain, plain_emitted}
use Rattle.cas_joins.proofs.Building.{placed}
use Rattle.cas_joins.proofs.Midst.{Mid, target_fine, hops, Over, lasts}
use Rattle.cas_joins.proofs.Spoken.{Both, spoken, both_spoken, both_quiet, carried, both_hopped, both_first}

module _ {K U T X S Y : Type 0} (p : Family K) (whole : IsFamily p) (t : Target K U T X) (s : Source K S Y)
    (refine : (u : U) (i : ℕ) → Refines (p.edges i) (t.units u i) (s.units i)) (cuts : Decomposes p t)
    (joins : Composes p s) where
  -- the thread stands where its units do, or has ended, and the source's has come as far
  abbrev pub Made : List RunLabel → List Block → Block → X → Type 0
  Made ls bs b x = Both p whole t s refine cuts joins ls bs b x ⊎ Over p t s refine cuts joins ls bs b x

  -- or that is Bad before
  abbrev pub MadeOrBad : List RunLabel → List Block → Block → X → Type 0
  MadeOrBad ls bs b x = BadBefore p.edge s.thread ls ⊎ Made ls bs b x

  -- what the thread's step is
  pub decomposes_at : {ls : List RunLabel} {bs : List Block} {b : Block} {x : X}
      (o : Both p whole t s refine cuts joins ls bs b x) (a : Act X) → t.thread.act x ≡ a →
      BadBefore p.edge s.thread ls ⊎ StepDecomposes p t o.chosen o.units a
  decomposes_at {x = x} o a e =
      ⊎_elim (λ bad. inl (target_fine p t s refine cuts joins o.mid bad))
      (λ c. inr (subst (λ (v : Act X). StepDecomposes p t o.chosen o.units v) e c))
      (cuts.steps o.chosen o.units x o.at o.mid.runs)

  quiet_step : {ls : List RunLabel} {bs : List Block} {b : Block} {x : X}
      (o : Both p whole t s refine cuts joins ls bs b x) (z : X) → StepDecomposes p t o.chosen o.units (Quiet z) →
      MadeOrBad ls bs (onward t.thread b z) z
  quiet_step o z c =
      ⊎_elim (λ g. inr (inl (both_quiet p whole t s refine cuts joins o.mid g.to g.goes z g.at)))
      (λ g. ⊎_elim inl (λ k. inr (inl (both_hopped p whole t s refine cuts joins z k)))
      (hops p t s refine cuts joins g.0 o.mid (λ v k. t.at v k z) g.1)) c

  plain_step : {ls : List RunLabel} {bs : List Block} {b : Block} {u : U} {h : Units K T}
      (m : Mid p t s refine cuts joins ls bs b u h) (l : RunLabel) → IsPlain l → (x : T) →
      StepsTo (p.edges h.talk.now) (h.talk.labels h.talk.now) (act_now p t u h) l x → (z : X) →
      t.at u (emits h l x) z → MadeOrBad (l ∷ ls) (b ∷ bs) (begun t.thread z) z
  plain_step {ls = ls} {h = h} m l plain x leads z at =
      ⊎_elim (λ d. inl (bad_longer p.edge s.thread l ls d))
      (λ o. ⊎_elim
      (λ bad. inl (bad_here p.edge s.thread (l ∷ ls)
      (record { blocks = o.walked.thread.block ∷ m.blocks; block = begun s.thread o.next; at = o.next })
      (labelled l o.next o.walked.thread.run o.steps) bad))
      (λ foot. inr (inl (both_spoken p whole t s refine cuts joins m l o x leads z at foot)))
      (joins.touches (emits (placed h.talk o.walked.to) l o.before.to) o.next o.joined))
      (spoken p whole t s refine cuts joins m l plain x leads)

  label_step : {ls : List RunLabel} {bs : List Block} {b : Block} {x : X}
      (o : Both p whole t s refine cuts joins ls bs b x) (a : Act X) (l : RunLabel) (z : X) → StepsTo p.edge ls a l z →
      StepDecomposes p t o.chosen o.units a → MadeOrBad (l ∷ ls) (b ∷ bs) (begun t.thread z) z
  label_step o (Quiet n) l z leads c = absurd leads
  label_step {ls = ls} {bs = bs} {b = b} o (Emits event n) l z leads c =
      let now = o.units.talk.now in
      let P : RunLabel → X → Type 0 = λ k v. MadeOrBad (k ∷ ls) (b ∷ bs) (begun t.thread v) v in
      let there : P (label_of event) n = ⊎_elim
      (λ e. plain_step (carried p whole t s refine cuts joins o.mid e.chosen e.carries) (label_of event)
      (plain_emitted event) e.to
      (subst (λ (v : Act T). StepsTo (p.edges now) (o.units.talk.labels now) v (label_of event) e.to) (sym e.is_next)
      (refl, refl)) n e.at)
      (λ e. subst (λ v. P (label_of v) n) (sym e.0)
      (⊎_elim (λ d. inl (bad_longer p.edge s.thread Done ls d)) (λ k. inr (inr k))
      (lasts p t s refine cuts joins e.1.hops o.mid n e.1.is_over e.1.price e.1.chain))) c in
      subst (λ v. P l v) leads.1 (subst (λ k. P k n) leads.0 there)
  label_step {ls = ls} {bs = bs} {b = b} o (Locks lock n) l z leads c =
      let now = o.units.talk.now in
      let P : RunLabel → X → Type 0 = λ k v. MadeOrBad (k ∷ ls) (b ∷ bs) (begun t.thread v) v in
      let g = c.1 leads.0 leads.2 in
      let words : AreGuarded (p.edges now) lock leads.0 =
      guarded_too p.edge (p.edges now) (sym (whole.cells now)) lock leads.0 leads.2 in
      let steps : StepsTo (p.edges now) (o.units.talk.labels now) (act_now p t g.chosen o.units) (Lock lock leads.0)
      g.to =
      subst (λ (v : Act T). StepsTo (p.edges now) (o.units.talk.labels now) v (Lock lock leads.0) g.to)
      (sym g.is_next.1) (leads.0, refl, words, g.is_next.2) in
      let there : P (Lock lock leads.0) (n leads.0) =
      plain_step (carried p whole t s refine cuts joins o.mid g.chosen g.carries) (Lock lock leads.0) tt g.to steps
      (n leads.0) g.at in
      subst (λ v. P l v) leads.3 (subst (λ k. P k (n leads.0)) (sym leads.1) there)
  label_step o (Crosses f share n) l z leads c = absurd c
  label_step o (Receives n) l z leads c = absurd c
  label_step o Bad l z leads c = absurd c
  label_step o (Stops w) l z leads c = absurd leads

  over_quiet : {x z : X} → IsOver t.thread x → t.thread.act x ≡ Quiet z → ⊥
  over_quiet o e = let two = o.stops in cc (e, two)

  over_leads : (ls : List RunLabel) (a : Act X) (l : RunLabel) (z : X) → a ≡ Stops Ended → StepsTo p.edge ls a l z → ⊥
  over_leads ls a l z e h = subst (λ (v : Act X). StepsTo p.edge ls v l z) e h

  pub each : {ls : List RunLabel} {bs : List Block} {b : Block} {x : X} → Run p.edge t.thread ls bs b x →
      MadeOrBad ls bs b x
  each starts =
      ⊎_elim
      (λ bad. inl (bad_here p.edge s.thread []
      (record { blocks = []; block = begun s.thread s.thread.start; at = s.thread.start }) starts bad))
      (λ foot. inr (inl (both_first p whole t s refine cuts joins foot)))
      (joins.touches (at_first p (λ i. (s.units i).start) (joins.starts.receive p.opening.receives)) s.thread.start
      joins.starts.at)
  each (quiet {x = x} z r e) =
      ⊎_elim inl (λ o. ⊎_elim (λ k. ⊎_elim inl (λ c. quiet_step k z c) (decomposes_at k (Quiet z) e))
      (λ k. absurd (over_quiet k.over e)) o) (each r)
  each (labelled {ls = ls} {x = x} l z r leads) =
      ⊎_elim (λ d. inl (bad_longer p.edge s.thread l ls d))
      (λ o. ⊎_elim
      (λ k. ⊎_elim (λ d. inl (bad_longer p.edge s.thread l ls d)) (λ c. label_step k (t.thread.act x) l z leads c)
      (decomposes_at k (t.thread.act x) refl))
      (λ k. absurd (over_leads ls (t.thread.act x) l z k.over.stops leads)) o) (each r)
