-- The same composition, with the turns told: each block's quiet steps stand before the label that ends it.
use Rattle.std.proofs.Common.{◌≡◌, ℕ, zero, suc, ◌<◌, ◌≤◌, List, [], ◌∷◌, ◌⊎◌, inl, inr, refl, sym, ap, ◌∙◌, subst, arith}
use Rattle.cas_runs.specs.Label.{RunLabel}
use Rattle.cas_runs.specs.Edge.{Edge}
use Rattle.cas_runs.specs.Machine.{Quiet, Machine, StepsTo}
use Rattle.cas_runs.specs.Legal.{ThreadLabel, IsLegal, projection}
use Rattle.cas_runs.specs.Known.{set}
use Rattle.cas_together.specs.Turns.{Paced, at_start, goes_on, goes_by, after_turns, newest_of, older_of, up_to, since_then, none_yet, one_more, GoAlong, Ordered}
use Rattle.cas_atomic.proofs.Basic.{same_or_not}
use Rattle.cas_together.proofs.Cutting.{own_label, other_label}
use Rattle.cas_together.proofs.Families.{put_here, put_else, choose}

-- quiet steps of one machine
data Steps {S : Type 0} (m : Machine S) : ℕ → S → S → Type 0 where
  none_more : {x : S} → Steps m 0 x x
  then_one : {k : ℕ} {x y : S} (z : S) → Steps m k x y → m.act y ≡ Quiet z → Steps m (suc k) x z

-- where the block of a run began
record From {S : Type 0} (edge : Edge) (m : Machine S) (ls : List RunLabel) (cs : List ℕ) (k : ℕ) (y : S) : Type 0 where
  origin : S
  is : Paced edge m ls cs 0 origin
  steps : Steps m k origin y

from_of : {S : Type 0} (edge : Edge) (m : Machine S) {ls : List RunLabel} {cs : List ℕ} {k : ℕ} {y : S} →
    Paced edge m ls cs k y → From edge m ls cs k y
from_of edge m at_start = record { origin = m.start; is = at_start; steps = none_more }
from_of edge m (goes_on y r e) = let f = from_of edge m r in
    record { origin = f.origin; is = f.is; steps = then_one y f.steps e }
from_of edge m (goes_by l y r e) = record { origin = y; is = goes_by l y r e; steps = none_more }

-- a run at the start of a block, before its newest label
record Labelled {S : Type 0} (edge : Edge) (m : Machine S) (l : RunLabel) (ls : List RunLabel) (cs : List ℕ)
    (y : S) : Type 0 where
  at : S
  run : Paced edge m ls (older_of cs) (newest_of cs) at
  leads : StepsTo edge ls (m.act at) l y

label_of_run : {S : Type 0} (edge : Edge) (m : Machine S) (l : RunLabel) (ls : List RunLabel) {all : List RunLabel}
    {cs : List ℕ} {k : ℕ} {y : S} → Paced edge m all cs k y → k ≡ 0 → all ≡ l ∷ ls → Labelled edge m l ls cs y
label_of_run edge m l ls at_start z e = absurd (cc e)
label_of_run edge m l ls (goes_on y r q) z e = absurd (omega (arith, z))
label_of_run edge m l ls (goes_by {ls = old} {cs = cs} {k = k} {x = x} k' y r q) z e =
    let rest : old ≡ ls = cc e in
    let same : k' ≡ l = cc e in
    record {
      at = x;
      run = subst (λ v. Paced edge m v cs k x) rest r;
      leads =
          subst (λ v. StepsTo edge ls (m.act x) v y) same (subst (λ v. StepsTo edge v (m.act x) k' y) rest q);
    }

no_label : {S : Type 0} (edge : Edge) (m : Machine S) {all : List RunLabel} {cs : List ℕ} {k : ℕ} {y : S} →
    Paced edge m all cs k y → k ≡ 0 → all ≡ [] → y ≡ m.start
no_label edge m at_start z e = refl
no_label edge m (goes_on y r q) z e = absurd (omega (arith, z))
no_label edge m (goes_by l y r q) z e = absurd (cc e)

module _ {S W : Type 0} (edge : Edge) (n : ℕ) (s : ℕ → Machine S) (moves : W → ℕ → W → Type 0) (first : W) (agrees : W →
    List ThreadLabel → (ℕ → S) → Type 0) (c : GoAlong moves first agrees edge n s) where
  abbrev O : List ℕ → List ThreadLabel → (ℕ → S) → Type 0
  O turns ls ys = Ordered moves first agrees turns ls ys

  alike : (turns : List ℕ) (ls : List ThreadLabel) (ys zs : ℕ → S) → O turns ls ys → ((i : ℕ) → i < n → ys i ≡ zs i) →
      O turns ls zs
  alike turns ls ys zs h e = record { world = h.world; leads = h.leads; stand = c.same h.world ls ys zs h.stand e }

  -- quiet steps of one thread
  walk : (turns : List ℕ) (ls : List ThreadLabel) (zs : ℕ → S) (i : ℕ) → i < n → {k : ℕ} {x y : S} → Steps (s i) k x y →
      zs i ≡ x → O turns ls zs → O (after_turns k i turns) ls (set zs i y)
  walk turns ls zs i there {x = x} none_more e h =
      alike turns ls zs (set zs i x) h (λ j here. elim (same_or_not i j) [
        | inl q ↦ subst (λ v. zs v ≡ set zs i x v) q
            (e ∙ sym (put_here i x zs))
        | inr d ↦ sym (put_else i x zs j d)
      ])
  walk turns ls zs i there (then_one {k = k} {y = y} z w q) e h =
      let g = walk turns ls zs i there w e h in
      let m = c.quietly g.world ls (set zs i y) i z there g.stand (ap (λ v. (s i).act v) (put_here i y zs) ∙ q) in
      let to : O (i ∷ after_turns k i turns) ls (set (set zs i y) i z) =
      record { world = m.0; leads = one_more i m.0 g.leads m.1; stand = m.2 } in
      alike (i ∷ after_turns k i turns) ls (set (set zs i y) i z) (set zs i z) to (λ j here. elim (same_or_not i j) [
        | inl p ↦ subst (λ v. set (set zs i y) i z v ≡ set zs i z v) p (put_here i z (set zs i y)
            ∙ sym (put_here i z zs))
        | inr d ↦ put_else i z (set zs i y) j d ∙ put_else i y zs j d ∙ sym (put_else i z zs j d)
      ])

  -- each thread stands where a block begins
  AtBegin : List ThreadLabel → (ℕ → List ℕ) → (ℕ → S) → Type 0
  AtBegin ls cs ys = (i : ℕ) → i < n → Paced edge (s i) (projection i ls) (cs i) 0 (ys i)

  begins : (ls : List ThreadLabel) → IsLegal edge.cells n ls → (cs : ℕ → List ℕ) (ys : ℕ → S) → AtBegin ls cs ys →
      O (up_to ls cs) ls ys
  unfolding AtBegin
  begins [] legal cs ys runs = record {
    world = first;
    leads = none_yet;
    stand =
        c.same first [] (λ i. (s i).start) ys c.begins (λ i there. sym (no_label edge (s i) (runs i there) refl refl));
  }
  begins (l ∷ ls) legal cs ys runs =
      let j = l.thread in
      let there = legal.0 in
      let b = label_of_run edge (s j) l.label (projection j ls) (runs j there) refl (own_label j l ls refl) in
      let f = from_of edge (s j) b.run in
      let zs = set ys j f.origin in
      let ds = set cs j (older_of (cs j)) in
      let all : AtBegin ls ds zs = λ i here. elim (same_or_not j i) [
        | inl q ↦ subst (λ v. Paced edge (s v) (projection v ls) (ds v) 0 (zs v)) q
            (subst (λ v. Paced edge (s j) (projection j ls) v 0 (zs j)) (sym (put_here j (older_of (cs j)) cs))
            (subst (λ v. Paced edge (s j) (projection j ls) (older_of (cs j)) 0 v) (sym (put_here j f.origin ys))
            f.is))
        | inr d ↦ subst (λ v. Paced edge (s i) (projection i ls) v 0 (zs i)) (sym (put_else j (older_of (cs j)) cs i d))
            (subst (λ v. Paced edge (s i) (projection i ls) (cs i) 0 v) (sym (put_else j f.origin ys i d))
            (subst (λ v. Paced edge (s i) v (cs i) 0 (ys i)) (other_label i l ls d) (runs i here)))
      ] in
      let g = walk (up_to ls ds) ls zs j there f.steps (put_here j f.origin ys) (begins ls legal.2 ds zs all) in
      let leads : StepsTo edge (projection j ls) ((s j).act (set zs j b.at j)) l.label (ys j) =
      subst (λ v. StepsTo edge (projection j ls) ((s j).act v) l.label (ys j)) (sym (put_here j b.at zs)) b.leads in
      let m = c.labelled g.world ls (set zs j b.at) j l.label (ys j) there legal.2 g.stand legal.1 leads in
      alike (up_to (l ∷ ls) cs) (l ∷ ls) (set (set zs j b.at) j (ys j)) ys (record {
        world = m.0;
        leads =
            one_more j m.0 g.leads m.1;
        stand = m.2;
      })
      (λ i here. elim (same_or_not j i) [
        | inl q ↦ subst (λ v. set (set zs j b.at) j (ys j) v ≡ ys v) q (put_here j (ys j) (set zs j b.at))
        | inr d ↦ put_else j (ys j) (set zs j b.at) i d ∙ put_else j b.at zs i d ∙ put_else j f.origin ys i d
      ])

  -- the threads before the m-th are where they stand at the end, the others where their blocks began
  rest : (m : ℕ) → m ≤ n → (ls : List ThreadLabel) (turns : List ℕ) (ys os : ℕ → S) (ks : ℕ → ℕ) →
      ((i : ℕ) → i < n → Steps (s i) (ks i) (os i) (ys i)) → O turns ls os →
      (zs : ℕ → S) × O (since_then m ks turns) ls zs × ((i : ℕ) → i < m → zs i ≡ ys i) × ((i : ℕ) → m ≤ i → zs i ≡ os i)
  rest zero le ls turns ys os ks walks h = (os, h, (λ i there. absurd (omega (arith, there))), λ i there. refl)
  rest (suc m) le ls turns ys os ks walks h =
      let r = rest m (omega (arith, le)) ls turns ys os ks walks h in
      let there : m < n = omega (arith, le) in
      let g = walk (since_then m ks turns) ls r.0 m there (walks m there) (r.3 m (omega arith)) r.1 in (
        set r.0 m (ys m),
        g,
        (λ i below. elim (same_or_not m i) [
          | inl q ↦ subst (λ v. set r.0 m (ys m) v ≡ ys v) q (put_here m (ys m) r.0)
          | inr d ↦ put_else m (ys m) r.0 i d ∙ r.2 i (fewer m i d below)
        ]),
        λ i above. let d : m ≡ i → ⊥ = λ q. absurd (omega (arith, q, above)) in
            put_else m (ys m) r.0 i d ∙ r.3 i (omega (arith, above)),
      )
    where
      fewer : (m i : ℕ) → (m ≡ i → ⊥) → i < suc m → i < m
      fewer m i d h = grind (arith, d, h)

  -- legal labels and a run of each thread, with the turns
  pub ordered : (ls : List ThreadLabel) → IsLegal edge.cells n ls → (cs : ℕ → List ℕ) (ks : ℕ → ℕ) (ys : ℕ → S) →
      ((i : ℕ) → i < n → Paced edge (s i) (projection i ls) (cs i) (ks i) (ys i)) →
      Ordered moves first agrees (since_then n ks (up_to ls cs)) ls ys
  unfolding AtBegin
  ordered ls legal cs ks ys runs =
      let P : ℕ → S → Type 0 = λ i o. Paced edge (s i) (projection i ls) (cs i) 0 o × Steps (s i) (ks i) o (ys i) in
      let each : (i : ℕ) → i < n → ⊥ ⊎ ((o : S) × P i o) = λ i there. let f = from_of edge (s i) (runs i there) in
      inr (f.origin, (f.is, f.steps)) in
      elim (choose P (ys 0) n each) [
        | inl never ↦ absurd never
        | inr f ↦
            let r = rest n (omega arith) ls (up_to ls cs) ys f.0 ks (λ i there. (f.1 i there).1)
            (begins ls legal cs f.0 (λ i there. (f.1 i there).0)) in
            alike (since_then n ks (up_to ls cs)) ls r.0 ys r.1 r.2
      ]
