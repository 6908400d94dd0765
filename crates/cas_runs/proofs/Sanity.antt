-- What the definitions refuse.
use Rattle.std.proofs.Common.{◌≡◌, ℕ, zero, suc, ◌+◌, ◌≤◌, List, [], ◌∷◌, ◌++◌, ◌⊎◌, Some, None, inl, inr, refl, sym, ap, subst, ⊎_elim, arith}
use Rattle.cas_base.specs.declared.kind.Kind.TheVariants.{U32}
use Rattle.cas_runs.specs.Label.{RunLabel, Lock, Unlock, Out}
use Rattle.cas_runs.specs.Edge.{Edge, AreGuarded, IsOfKind}
use Rattle.cas_runs.specs.Machine.{Act, Quiet, Emits, Crosses, Locks, Receives, Bad, Stops, Machine, StepsTo, IsBad, Block, begun, onward, Run, starts, quiet, labelled, quiet_now, Taken}
use Rattle.cas_runs.specs.Refines.{Reached, Comes, HasRun, BadBefore, Answered, PaysMore, Refines}
use Rattle.cas_runs.specs.Sections.{Instruction, Take, Give, Load, Store, Print, Spin, Standing, one_lock, standing, sections}
use Rattle.cas_runs.proofs.Refining.{IsQuiet, one_state, has_of, before_label, leads_there}
use Rattle.cas_runs.proofs.Composing.{follows}

-- No step of a target is free, so the quiet steps of a block are fewer than what the source pays.

module _ {T S : Type 0} (edge : Edge) (t : Machine T) (s : Machine S) (h : Refines edge t s) where
  pays : {ls : List RunLabel} {bs : List Block} {b : Block} {x : T} (r : Run edge t ls bs b x) → HasRun edge s ls →
      BadBefore edge s ls ⊎ (quiet_now r + 1 ≤ b.price)
  pays starts has = ⊎_elim inl (λ k. inr (let costs = k.there.fine.costs in omega (arith, costs)))
      (h.kept [] (record { blocks = []; block = begun t t.start; at = t.start }) starts has)
  pays (quiet {ls = ls} {bs = bs} {b = b} y r e) has =
      ⊎_elim inl (λ p. ⊎_elim inl (λ k. inr (let costs = k.there.fine.costs in omega (arith, p, costs)))
      (h.kept ls (record { blocks = bs; block = onward t b y; at = y }) (quiet y r e) has)) (pays r has)
  pays (labelled {ls = ls} {bs = bs} {b = b} l y r e) has =
      ⊎_elim inl (λ k. inr (let costs = k.there.fine.costs in omega (arith, costs)))
      (h.kept (l ∷ ls) (record { blocks = b ∷ bs; block = begun t y; at = y }) (labelled l y r e) has)

pub quiet_paid : {T S : Type 0} (edge : Edge) (t : Machine T) (s : Machine S) → Refines edge t s →
    (ls : List RunLabel) (bs : List Block) (b : Block) (x : T) (r : Run edge t ls bs b x) → HasRun edge s ls →
    BadBefore edge s ls ⊎ PaysMore edge s ls (quiet_now r)
quiet_paid edge t s h ls bs b x r has =
    ⊎_elim inl
    (λ p. ⊎_elim inl
    (λ k. inr
    (record { to = k.to; run = k.run; there = let within = k.there.fine.within.price in omega (arith, p, within) }))
    (h.kept ls (record { blocks = bs; block = b; at = x }) r has)) (pays edge t s h r has)

-- A Bad step of the source's that comes before some label comes after its label, or earlier.

abbrev pub BadAt : {S : Type 0} → Edge → Machine S → List RunLabel → Type 0
BadAt edge s ls = Comes edge s ls (λ y. IsBad (s.act y.at))

module _ {S : Type 0} (edge : Edge) (s : Machine S) where
  bad_last_of : (l : RunLabel) (ls since before : List RunLabel) → l ∷ ls ≡ since ++ before → BadAt edge s before →
      BadAt edge s (l ∷ ls) ⊎ BadBefore edge s ls
  bad_last_of l ls [] before e b = inl (subst (λ v. BadAt edge s v) (sym e) b)
  bad_last_of l ls (k ∷ since) before e b = inr (record { since = since; before = before; prefix = cc e; bad = b })

  pub bad_last : (l : RunLabel) (ls : List RunLabel) → BadBefore edge s (l ∷ ls) → BadAt edge s (l ∷ ls)
      ⊎ BadBefore edge s ls
  bad_last l ls b = bad_last_of l ls b.since b.before b.prefix b.bad

  bad_first_of : (since before : List RunLabel) → [] ≡ since ++ before → BadAt edge s before → BadAt edge s []
  bad_first_of [] before e b = subst (λ v. BadAt edge s v) (sym e) b
  bad_first_of (k ∷ since) before e b = absurd (cc e)

  pub bad_first : BadBefore edge s [] → BadAt edge s []
  bad_first b = bad_first_of b.since b.before b.prefix b.bad

  bad_not_quiet : (a : Act S) → IsBad a → IsQuiet a → ⊥
  bad_not_quiet Bad b q = q
  bad_not_quiet (Quiet n) b q = b
  bad_not_quiet (Emits k n) b q = b
  bad_not_quiet (Crosses f share n) b q = b
  bad_not_quiet (Locks k n) b q = b
  bad_not_quiet (Receives n) b q = b
  bad_not_quiet (Stops w) b q = b

  -- after these labels the source comes to a step that has a label, and so to no Bad one
  not_bad_at : (ls : List RunLabel) (cs : List Block) (c : Block) (y : S) → Run edge s ls cs c y →
      (IsQuiet (s.act y) → ⊥) → (IsBad (s.act y) → ⊥) → BadAt edge s ls → ⊥
  not_bad_at ls cs c y r n m b =
      let same : b.to.at ≡ y = one_state edge s b.run r (bad_not_quiet (s.act b.to.at) b.there) n in
      m (subst (λ v. IsBad (s.act v)) same b.there)

  -- and has no label by which that step doesn't lead
  no_other_label : (ls : List RunLabel) (cs : List Block) (c : Block) (y : S) → Run edge s ls cs c y →
      (IsQuiet (s.act y) → ⊥) → (l : RunLabel) → ((z : S) → StepsTo edge ls (s.act y) l z → ⊥) →
      HasRun edge s (l ∷ ls) → ⊥
  no_other_label ls cs c y r n l m has =
      let before = before_label edge s l ls has.run refl in
      m before.to (leads_there edge s l ls before r n)

-- A unit that drops a store to a guarded word before its Unlock doesn't refine.

abbrev took : ℕ → RunLabel
took w = Lock 0 (w ∷ [])

abbrev gave : ℕ → RunLabel
gave w = Unlock 0 (w ∷ [])

guarded_word : (w : ℕ) → IsOfKind w U32 → AreGuarded one_lock 0 (w ∷ [])
guarded_word w h = record { is_lock = refl; kinds = (h, tt) }

abbrev storing : List Instruction
storing = Take ∷ Store 1 ∷ Give ∷ []

abbrev not_storing : List Instruction
not_storing = Take ∷ Give ∷ []

-- a run that stands at this state
pub record ComesTo {S : Type 0} (edge : Edge) (m : Machine S) (ls : List RunLabel) (x : S) : Type 0 where
  pub blocks : List Block
  pub block : Block
  pub run : Run edge m ls blocks block x

module _ {S : Type 0} (edge : Edge) (m : Machine S) where
  pub comes_first : ComesTo edge m [] m.start
  comes_first = record { blocks = []; block = begun m m.start; run = starts }

  pub comes_on : (ls : List RunLabel) (x y : S) → ComesTo edge m ls x → m.act x ≡ Quiet y → ComesTo edge m ls y
  comes_on ls x y c e = record { blocks = c.blocks; block = onward m c.block y; run = quiet y c.run e }

  pub comes_by : (ls : List RunLabel) (l : RunLabel) (x y : S) → ComesTo edge m ls x → StepsTo edge ls (m.act x) l y →
      ComesTo edge m (l ∷ ls) y
  comes_by ls l x y c e = record { blocks = c.block ∷ c.blocks; block = begun m y; run = labelled l y c.run e }

  pub has_run_to : (ls : List RunLabel) (x : S) → ComesTo edge m ls x → HasRun edge m ls
  has_run_to ls x c = has_of edge m c.run

  abbrev pub stands_at : {ls : List RunLabel} {x : S} → ComesTo edge m ls x → Reached S
  stands_at {x = x} c = record { blocks = c.blocks; block = c.block; at = x }

  pub not_bad : (ls : List RunLabel) (y : S) → ComesTo edge m ls y → (IsQuiet (m.act y) → ⊥) → (IsBad (m.act y) → ⊥) →
      BadAt edge m ls → ⊥
  not_bad ls y c n b h = not_bad_at edge m ls c.blocks c.block y c.run n b h

  pub no_label : (ls : List RunLabel) (y : S) → ComesTo edge m ls y → (IsQuiet (m.act y) → ⊥) → (l : RunLabel) →
      ((z : S) → StepsTo edge ls (m.act y) l z → ⊥) → HasRun edge m (l ∷ ls) → ⊥
  no_label ls y c n l h has = no_other_label edge m ls c.blocks c.block y c.run n l h has

pub dropped_store : (p q : ℕ) → Refines one_lock (sections q not_storing) (sections p storing) → ⊥
dropped_store p q h =
    let t = sections q not_storing in
    let s = sections p storing in
    let ls : List RunLabel = took 0 ∷ [] in
    let locked : ComesTo one_lock t ls (standing (Give ∷ []) 0 (Some 0)) =
    comes_by one_lock t [] (took 0) (standing not_storing 0 None) (standing (Give ∷ []) 0 (Some 0))
    (comes_first one_lock t) (0 ∷ [], refl, guarded_word 0 refl, refl) in
    let first : ComesTo one_lock s [] (standing storing 0 None) = comes_first one_lock s in
    let begins : ComesTo one_lock s ls (standing (Store 1 ∷ Give ∷ []) 0 (Some 0)) =
    comes_by one_lock s [] (took 0) (standing storing 0 None) (standing (Store 1 ∷ Give ∷ []) 0 (Some 0)) first
    (0 ∷ [], refl, guarded_word 0 refl, refl) in
    let stored : ComesTo one_lock s ls (standing (Give ∷ []) 0 (Some 1)) =
    comes_on one_lock s ls (standing (Store 1 ∷ Give ∷ []) 0 (Some 0)) (standing (Give ∷ []) 0 (Some 1))
    begins refl in
    ⊎_elim
    (λ b. ⊎_elim (not_bad one_lock s ls (standing (Give ∷ []) 0 (Some 1)) stored (λ q. q) (λ q. q))
    (λ b. not_bad one_lock s [] (standing storing 0 None) first (λ q. q) (λ q. q) (bad_first one_lock s b))
    (bad_last one_lock s (took 0) [] b))
    (no_label one_lock s ls (standing (Give ∷ []) 0 (Some 1)) stored (λ q. q) (gave 0)
    (λ z e. let same = e.0 in absurd (cc same)))
    (follows one_lock t s h ls (stands_at one_lock t locked) locked.run
    (has_run_to one_lock s ls (standing (Give ∷ []) 0 (Some 1)) stored) (λ c. c) (gave 0) (standing [] 0 None)
    (refl, refl))

-- A unit that reads a word after the next Lock without reading it anew doesn't refine.

abbrev reading : List Instruction
reading = Take ∷ Load ∷ Give ∷ Take ∷ Load ∷ Print ∷ []

abbrev not_reading : List Instruction
not_reading = Take ∷ Load ∷ Give ∷ Take ∷ Print ∷ []

-- where a program has loaded 0 and locked again, which brought 1
module _ (p : ℕ) (rest : List Instruction) where
  abbrev twice : Machine Standing
  twice = sections p (Take ∷ Load ∷ Give ∷ Take ∷ rest)

  at_first : ComesTo one_lock twice [] (standing (Take ∷ Load ∷ Give ∷ Take ∷ rest) 0 None)
  at_first = comes_first one_lock twice

  at_load : ComesTo one_lock twice (took 0 ∷ []) (standing (Load ∷ Give ∷ Take ∷ rest) 0 (Some 0))
  at_load = comes_by one_lock twice [] (took 0) (standing (Take ∷ Load ∷ Give ∷ Take ∷ rest) 0 None)
      (standing (Load ∷ Give ∷ Take ∷ rest) 0 (Some 0)) at_first (0 ∷ [], refl, guarded_word 0 refl, refl)

  at_give : ComesTo one_lock twice (took 0 ∷ []) (standing (Give ∷ Take ∷ rest) 0 (Some 0))
  at_give = comes_on one_lock twice (took 0 ∷ []) (standing (Load ∷ Give ∷ Take ∷ rest) 0 (Some 0))
      (standing (Give ∷ Take ∷ rest) 0 (Some 0)) at_load refl

  at_take : ComesTo one_lock twice (gave 0 ∷ took 0 ∷ []) (standing (Take ∷ rest) 0 None)
  at_take = comes_by one_lock twice (took 0 ∷ []) (gave 0) (standing (Give ∷ Take ∷ rest) 0 (Some 0))
      (standing (Take ∷ rest) 0 None) at_give (refl, refl)

  at_rest : ComesTo one_lock twice (took 1 ∷ gave 0 ∷ took 0 ∷ []) (standing rest 0 (Some 1))
  at_rest = comes_by one_lock twice (gave 0 ∷ took 0 ∷ []) (took 1) (standing (Take ∷ rest) 0 None)
      (standing rest 0 (Some 1)) at_take (1 ∷ [], refl, guarded_word 1 refl, refl)

pub kept_word : (p q : ℕ) → Refines one_lock (sections q not_reading) (sections p reading) → ⊥
kept_word p q h =
    let s = sections p reading in
    let ls : List RunLabel = took 1 ∷ gave 0 ∷ took 0 ∷ [] in
    let printing = at_rest q (Print ∷ []) in
    let loading = at_rest p (Load ∷ Print ∷ []) in
    let loaded : ComesTo one_lock s ls (standing (Print ∷ []) 1 (Some 1)) =
    comes_on one_lock s ls (standing (Load ∷ Print ∷ []) 0 (Some 1)) (standing (Print ∷ []) 1 (Some 1))
    loading refl in
    ⊎_elim
    (λ b. ⊎_elim (not_bad one_lock s ls (standing (Print ∷ []) 1 (Some 1)) loaded (λ q. q) (λ q. q))
    (λ b. ⊎_elim (not_bad one_lock s (gave 0 ∷ took 0 ∷ []) (standing (Take ∷ Load ∷ Print ∷ []) 0 None)
    (at_take p (Load ∷ Print ∷ [])) (λ q. q) (λ q. q))
    (λ b. ⊎_elim (not_bad one_lock s (took 0 ∷ []) (standing (Give ∷ Take ∷ Load ∷ Print ∷ []) 0 (Some 0))
    (at_give p (Load ∷ Print ∷ [])) (λ q. q) (λ q. q))
    (λ b. not_bad one_lock s [] (standing reading 0 None) (at_first p (Load ∷ Print ∷ [])) (λ q. q) (λ q. q)
    (bad_first one_lock s b))
    (bad_last one_lock s (took 0) [] b))
    (bad_last one_lock s (gave 0) (took 0 ∷ []) b))
    (bad_last one_lock s (took 1) (gave 0 ∷ took 0 ∷ []) b))
    (no_label one_lock s ls (standing (Print ∷ []) 1 (Some 1)) loaded (λ q. q) (Out 0)
    (λ z e. let same = e.0 in absurd (cc same)))
    (follows one_lock (sections q not_reading) s h ls (stands_at one_lock (sections q not_reading) printing)
    printing.run (has_run_to one_lock s ls (standing (Print ∷ []) 1 (Some 1)) loaded) (λ c. c) (Out 0)
    (standing [] 0 (Some 1)) (refl, refl))

-- An endless quiet loop doesn't refine a print.

record Spinning (q n : ℕ) : Type 0 where
  block : Block
  run : Run one_lock (sections q (Spin ∷ [])) [] [] block (standing (Spin ∷ []) 0 None)
  counted : quiet_now run ≡ n

spins : (q n : ℕ) → Spinning q n
spins q zero =
    record { block = begun (sections q (Spin ∷ [])) (standing (Spin ∷ []) 0 None); run = starts; counted = refl }
spins q (suc n) =
    let k = spins q n in
    let m = sections q (Spin ∷ []) in
    record {
      block = onward m k.block (standing (Spin ∷ []) 0 None);
      run = quiet (standing (Spin ∷ []) 0 None)
          k.run refl;
      counted = let e = k.counted in omega (arith, e);
    }

-- the printing program pays for one step before its label
pays_once : (p : ℕ) (ls : List RunLabel) (cs : List Block) (c : Block) (y : Standing) → ls ≡ [] →
    Run one_lock (sections p (Print ∷ [])) ls cs c y → (c.price ≤ p) × (y ≡ standing (Print ∷ []) 0 None)
pays_once p ls cs c y e starts = (omega arith, refl)
pays_once p ls cs c y e (quiet {ls = old} {bs = bs} {b = b} {x = x} y' r q) =
    let at = pays_once p old bs b x e r in
    let m = sections p (Print ∷ []) in
    let no : ⊥ = subst (λ v. IsQuiet (m.act v)) at.1 (subst IsQuiet (sym q) tt) in
    absurd no
pays_once p ls cs c y e (labelled l y' r q) = absurd (cc e)

pub endless_loop : (p q : ℕ) → Refines one_lock (sections q (Spin ∷ [])) (sections p (Print ∷ [])) → ⊥
endless_loop p q h =
    let k = spins q p in
    let s = sections p (Print ∷ []) in
    ⊎_elim (λ b. not_bad one_lock s [] (standing (Print ∷ []) 0 None) (comes_first one_lock s) (λ q. q) (λ q. q)
    (bad_first one_lock s b))
    (λ m. let w = pays_once p [] m.to.blocks m.to.block m.to.at refl m.run in let more = m.there in
    let counted = k.counted in let least = w.0 in absurd (omega (arith, more, counted, least)))
    (quiet_paid one_lock (sections q (Spin ∷ [])) s h [] [] k.block (standing (Spin ∷ []) 0 None) k.run
    (has_run_to one_lock s [] (standing (Print ∷ []) 0 None) (comes_first one_lock s)))

-- A unit that locks again where the source unlocks doesn't refine.

abbrev locking : List Instruction
locking = Take ∷ Take ∷ []

abbrev unlocking : List Instruction
unlocking = Take ∷ Give ∷ []

answered_stop : {S : Type 0} (lock : ℕ) (a : Act S) → Answered {T = Standing} (Stops (Taken lock)) a →
    a ≡ Stops (Taken lock)
answered_stop lock (Stops why) e = ap (λ v. Stops v) (sym e)
answered_stop lock (Quiet y) e = absurd e
answered_stop lock (Emits k y) e = absurd e
answered_stop lock (Crosses f share next) e = absurd e
answered_stop lock (Locks k next) e = absurd e
answered_stop lock (Receives next) e = absurd e
answered_stop lock Bad e = absurd e

stops_elsewhere : (p : ℕ) (ls : List RunLabel) → Comes one_lock (sections p unlocking) ls
    (λ y. Answered {T = Standing} (Stops (Taken 0)) ((sections p unlocking).act y.at)) → (x : Standing) →
    ComesTo one_lock (sections p unlocking) ls x → (IsQuiet ((sections p unlocking).act x) → ⊥) →
    ((sections p unlocking).act x ≡ Stops (Taken 0) → ⊥) → ⊥
stops_elsewhere p ls h x c n m =
    let s = sections p unlocking in
    let stops : s.act h.to.at ≡ Stops (Taken 0) = answered_stop 0 (s.act h.to.at) h.there in
    let not_quiet : IsQuiet (s.act h.to.at) → ⊥ = λ q. let none : ⊥ = subst IsQuiet stops q in none in
    let same : h.to.at ≡ x = one_state one_lock s h.run c.run not_quiet n in
    m (subst (λ v. s.act v ≡ Stops (Taken 0)) same stops)

pub self_lock : (p q : ℕ) → Refines one_lock (sections q locking) (sections p unlocking) → ⊥
self_lock p q h =
    let t = sections q locking in
    let s = sections p unlocking in
    let ls : List RunLabel = took 0 ∷ [] in
    let locked : ComesTo one_lock t ls (standing (Take ∷ []) 0 (Some 0)) =
    comes_by one_lock t [] (took 0) (standing locking 0 None) (standing (Take ∷ []) 0 (Some 0))
    (comes_first one_lock t) (0 ∷ [], refl, guarded_word 0 refl, refl) in
    let first : ComesTo one_lock s [] (standing unlocking 0 None) = comes_first one_lock s in
    let giving : ComesTo one_lock s ls (standing (Give ∷ []) 0 (Some 0)) =
    comes_by one_lock s [] (took 0) (standing unlocking 0 None) (standing (Give ∷ []) 0 (Some 0)) first
    (0 ∷ [], refl, guarded_word 0 refl, refl) in
    ⊎_elim
    (λ b. ⊎_elim (not_bad one_lock s ls (standing (Give ∷ []) 0 (Some 0)) giving (λ q. q) (λ q. q))
    (λ b. not_bad one_lock s [] (standing unlocking 0 None) first (λ q. q) (λ q. q) (bad_first one_lock s b))
    (bad_last one_lock s (took 0) [] b))
    (λ k. stops_elsewhere p ls k (standing (Give ∷ []) 0 (Some 0)) giving (λ q. q) (λ e. absurd (cc e)))
    (h.answers ls (stands_at one_lock t locked) locked.run
    (has_run_to one_lock s ls (standing (Give ∷ []) 0 (Some 0)) giving))
