-- A run is a walk of silent steps from where its last block begins, and its labels determine that.
use Rattle.std.proofs.Common.{◌≡◌, ℕ, List, [], ◌∷◌, ◌++◌, inl, refl, sym, ap, ◌∙◌, subst, arith}
use Rattle.cas_runs.specs.Label.{RunLabel}
use Rattle.cas_runs.specs.Edge.{Edge}
use Rattle.cas_runs.specs.Machine.{Act, Quiet, Emits, Crosses, Locks, Receives, Bad, Stops, Machine, StepsTo, IsBad, Footprint, Block, and_step, begun, onward, Run, starts, quiet, labelled}
use Rattle.cas_runs.specs.Refines.{Comes, HasRun, BadBefore, Within}
use Rattle.cas_runs.specs.Walking.{Star, stays, goes, HasNoSilentStep, Begins, at_start, after, Walk, SameBeginning}
use Rattle.cas_runs.proofs.Composing.{within_both}
use Rattle.cas_runs.proofs.Refining.{IsQuiet, leads_not_quiet, leads_to_one, one_state, before_label, has_before, among_front}

-- a step more only adds to a block
more_within : (b : Block) (price : ℕ) (foot : Footprint) → Within b (and_step b price foot)
more_within b price foot = record {
  price = omega arith;
  writes = λ w h. among_front w b.writes foot.writes h;
  reads = λ w h. inl (among_front w b.reads foot.reads h);
}

block_itself : (b : Block) → Within b b
block_itself b = record { price = omega arith; writes = λ w h. h; reads = λ w h. inl h }

bad_not_quiet : {S : Type 0} (a : Act S) → IsBad a → IsQuiet a → ⊥
bad_not_quiet Bad b q = q
bad_not_quiet (Quiet n) b q = b
bad_not_quiet (Emits l n) b q = b
bad_not_quiet (Crosses f s n) b q = b
bad_not_quiet (Locks l n) b q = b
bad_not_quiet (Receives n) b q = b
bad_not_quiet (Stops w) b q = b

bad_leads_not : {S : Type 0} (edge : Edge) (ls : List RunLabel) (a : Act S) (l : RunLabel) (y : S) → IsBad a →
    StepsTo edge ls a l y → ⊥
bad_leads_not edge ls Bad l y b h = h
bad_leads_not edge ls (Quiet n) l y b h = b
bad_leads_not edge ls (Emits k n) l y b h = b
bad_leads_not edge ls (Crosses f s n) l y b h = b
bad_leads_not edge ls (Locks k n) l y b h = b
bad_leads_not edge ls (Receives n) l y b h = b
bad_leads_not edge ls (Stops w) l y b h = b

module _ {S : Type 0} (edge : Edge) (m : Machine S) where
  star_run : {ls : List RunLabel} {bs : List Block} {b : Block} {x : S} {c : Block} {y : S} → Run edge m ls bs b x →
      Star m b x c y → Run edge m ls bs c y
  star_run r stays = r
  star_run r (goes z e w) = star_run (quiet z r e) w

  begins_run : {ls : List RunLabel} {bs : List Block} {x : S} → Begins edge m ls bs x → Run edge m ls bs (begun m x) x
  begins_run at_start = starts
  begins_run (after l z h w e) = labelled l z (star_run (begins_run h) w) e

  -- a walk is a run
  pub walk_run : (ls : List RunLabel) (bs : List Block) (b : Block) (y : S) → Walk edge m ls bs b y →
      Run edge m ls bs b y
  walk_run ls bs b y w = star_run (begins_run w.begins) w.star

  star_more : {b : Block} {x : S} {c : Block} {y : S} (z : S) → Star m b x c y → m.act y ≡ Quiet z →
      Star m b x (onward m c z) z
  star_more z stays e = goes z e stays
  star_more z (goes x' f w) e = goes x' f (star_more z w e)

  walk_of : {ls : List RunLabel} {bs : List Block} {b : Block} {y : S} → Run edge m ls bs b y → Walk edge m ls bs b y
  walk_of starts = record { origin = m.start; begins = at_start; star = stays }
  walk_of (quiet y r e) = let f =
      walk_of r in record { origin = f.origin; begins = f.begins; star = star_more y f.star e }
  walk_of (labelled l y r e) = let f = walk_of r in record
      { origin = y; begins = after l y f.begins f.star e; star = stays }

  -- and a run is a walk
  pub run_walk : (ls : List RunLabel) (bs : List Block) (b : Block) (y : S) → Run edge m ls bs b y →
      Walk edge m ls bs b y
  run_walk ls bs b y r = walk_of r

  quiet_is : (y z : S) → m.act y ≡ Quiet z → IsQuiet (m.act y)
  quiet_is y z e = subst IsQuiet (sym e) tt

  record End (c d : Block) (y z : S) : Type 0 where
    block : c ≡ d
    state : y ≡ z

  one_end : (b : Block) (x : S) (c : Block) (y : S) (d : Block) (z : S) → Star m b x c y → (IsQuiet (m.act y) → ⊥) →
      Star m b x d z → (IsQuiet (m.act z) → ⊥) → End c d y z
  one_end b x c y d z stays n stays k = record { block = refl; state = refl }
  one_end b x c y d z stays n (goes z' e w) k = absurd (n (quiet_is x z' e))
  one_end b x c y d z (goes y' e w) n stays k = absurd (k (quiet_is x y' e))
  one_end b x c y d z (goes y' e w) n (goes z' f v) k =
      let same : y' ≡ z' = cc (e, f) in
      one_end (onward m b y') y' c y d z w n (subst (λ q. Star m (onward m b q) q d z) (sym same) v) k

  begins_same : {ls : List RunLabel} {bs : List Block} {x : S} {ks : List RunLabel} {cs : List Block} {y : S} →
      Begins edge m ls bs x → Begins edge m ks cs y → ls ≡ ks → SameBeginning bs cs x y
  begins_same at_start at_start e = record { blocks = refl; state = refl }
  begins_same at_start (after l z h w k) e = absurd (cc e)
  begins_same (after l z h w k) at_start e = absurd (cc e)
  begins_same (after {ls = ls} {bs = bs} {x = x} {b = b} {y = y} l z h w k)
      (after {ls = ls'} {bs = bs'} {x = x'} {b = b'} {y = y'} l' z' h' w' k') e =
      let rest : ls ≡ ls' = cc e in
      let same : l ≡ l' = cc e in
      let o = begins_same h h' rest in
      let w2 : Star m (begun m x) x b' y' = subst (λ q. Star m (begun m q) q b' y') (sym o.state) w' in
      let n = one_end (begun m x) x b y b' y' w (leads_not_quiet edge ls (m.act y) l z k) w2
      (leads_not_quiet edge ls' (m.act y') l' z' k') in
      let k2 : StepsTo edge ls (m.act y) l z' = subst (λ q. StepsTo edge ls (m.act q) l z') (sym n.state)
      (subst (λ q. StepsTo edge q (m.act y') l z') (sym rest)
      (subst (λ q. StepsTo edge ls' (m.act y') q z') (sym same) k')) in
      record {
        blocks = ap (λ q. q ∷ bs) n.block ∙ ap (λ q. b' ∷ q) o.blocks;
        state = leads_to_one edge ls
            (m.act y) l z z' k k2;
      }

  -- the labels determine where the block begins
  pub one_beginning : (ls : List RunLabel) (bs cs : List Block) (x y : S) → Begins edge m ls bs x →
      Begins edge m ls cs y → SameBeginning bs cs x y
  one_beginning ls bs cs x y h k = begins_same h k refl

  -- a run that is Bad, with labels that have a longer run, has all of them
  not_past : (since before : List RunLabel) (l : RunLabel) → HasRun edge m (l ∷ since ++ before) →
      Comes edge m before (λ x. IsBad (m.act x.at)) → ⊥
  not_past [] before l h bad =
      let k = before_label edge m l before h.run refl in
      let same : k.from.at ≡ bad.to.at = one_state edge m k.run bad.run
      (leads_not_quiet edge before (m.act k.from.at) l k.to k.leads) (bad_not_quiet (m.act bad.to.at) bad.there) in
      bad_leads_not edge before (m.act k.from.at) l k.to (subst (λ q. IsBad (m.act q)) (sym same) bad.there) k.leads
  not_past (k ∷ since) before l h bad = not_past since before k (has_before edge m l (k ∷ since ++ before) h) bad

  bad_now_by : (since before ls : List RunLabel) → ls ≡ since ++ before → HasRun edge m ls →
      Comes edge m before (λ x. IsBad (m.act x.at)) → Comes edge m ls (λ x. IsBad (m.act x.at))
  bad_now_by [] before ls e has bad = subst (λ q. Comes edge m q (λ x. IsBad (m.act x.at))) (sym e) bad
  bad_now_by (l ∷ since) before ls e has bad = absurd (not_past since before l (subst (λ q. HasRun edge m q) e has) bad)

  -- what is Bad before some labels, and has a run with all of them, is Bad there
  pub bad_now : (ls : List RunLabel) → BadBefore edge m ls → HasRun edge m ls →
      Comes edge m ls (λ x. IsBad (m.act x.at))
  bad_now ls b has = bad_now_by b.since b.before ls b.prefix has b.bad

  within_star : {b : Block} {x : S} {c : Block} {y : S} → Star m b x c y → Within b c
  within_star {b = b} stays = block_itself b
  within_star {b = b} {c = c} (goes z e w) = within_both b (onward m b z) c (more_within b (m.price z) (m.footprint z))
      (within_star w)

  prefix_within : (b : Block) (x : S) (c : Block) (y : S) (d : Block) (z : S) → Star m b x c y → Star m b x d z →
      HasNoSilentStep m z → Within c d
  prefix_within b x c y d z stays v n = within_star v
  prefix_within b x c y d z (goes y' e w) stays n = absurd (n y' e)
  prefix_within b x c y d z (goes y' e w) (goes z' f v) n =
      let same : y' ≡ z' = cc (e, f) in
      prefix_within (onward m b y') y' c y d z w (subst (λ q. Star m (onward m b q) q d z) (sym same) v) n

  -- a run pays and touches at most what one with the same labels does that has no silent step more
  pub longest : (ls : List RunLabel) (bs cs : List Block) (b c : Block) (x y : S) → Run edge m ls bs b x →
      Run edge m ls cs c y → HasNoSilentStep m y → Within b c
  longest ls bs cs b c x y r k n =
      let f = walk_of r in
      let g = walk_of k in
      let o = begins_same f.begins g.begins refl in
      prefix_within (begun m f.origin) f.origin b x c y f.star
      (subst (λ q. Star m (begun m q) q c y) (sym o.state) g.star) n
