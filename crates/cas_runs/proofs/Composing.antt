-- Refinements compose; a machine refines itself; and where the target names alone, each of its runs is kept, or the
-- source is Bad before.
use Rattle.std.proofs.Common.{◌≡◌, List, [], ◌∷◌, ◌++◌, ◌⊎◌, Option, Some, inl, inr, refl, sym, ap, ◌∙◌, subst, ⊎_elim, arith, append_assoc}
use Rattle.cas_runs.specs.Label.{NameBytes, Share, RunLabel, Lock}
use Rattle.cas_runs.specs.Edge.{Edge, AreGuarded}
use Rattle.cas_runs.specs.Machine.{Act, Quiet, Emits, Crosses, Locks, Receives, Bad, Stops, Ended, Taken, Full, Names, Opened, Machine, open_functions, label_of, crossing_by, StepsTo, IsBad, Block, Run, starts, quiet, labelled}
use Rattle.cas_runs.specs.Refines.{Subsequence, done, keep, skip, Within, EachWithin, none, more, Reached, Reaches, Comes, HasRun, BadBefore, Kept, Answered, Refines, NamesAlone, EachKept}
use Rattle.cas_runs.proofs.Refining.{IsQuiet, leads_there, bad_longer, bad_here, has_of, before_label, has_before, has_shorter, bad_or_fine}
use Rattle.cas_runs.specs.Rules.{Proceeds}

pub within_both : (a b c : Block) → Within a b → Within b c → Within a c
within_both a b c h k = record {
  price = omega (arith, h.price, k.price);
  writes = λ w m. k.writes w (h.writes w m);
  reads = λ w m. ⊎_elim (k.reads w) (λ v. inr (k.writes w v)) (h.reads w m);
}

each_both : {bs cs ds : List Block} → EachWithin bs cs → EachWithin cs ds → EachWithin bs ds
each_both none none = none
each_both (more h hs) (more k ks) = more (within_both _ _ _ h k) (each_both hs ks)

pub sub_both : {xs ys zs : List Opened} → Subsequence xs ys → Subsequence ys zs → Subsequence xs zs
sub_both h (skip k) = skip (sub_both h k)
sub_both done done = done
sub_both (keep h) (keep k) = keep (sub_both h k)
sub_both (skip h) (keep k) = skip (sub_both h k)

-- acts that answer one another
answered_both : {T S R : Type 0} (a : Act T) (b : Act S) (c : Act R) → Answered a b → Answered b c → Answered a c
answered_both (Quiet x) b c h k = tt
answered_both (Emits e x) (Emits f y) (Emits g z) h k = h ∙ k
answered_both (Emits e x) (Emits f y) c h k = absurd k
answered_both (Emits e x) b c h k = absurd h
answered_both (Crosses f share next) (Crosses g other s_next) (Crosses o third r_next) h k = (
  h.0 ∙ k.0,
  h.1 ∙ k.1,
  record {
    names = k.2.names;
    to = k.2.to;
    has_names = k.2.has_names;
    each = λ n z e. let y = k.2.each n z e in
        h.2.each n y.0 y.1;
  },
)
answered_both (Crosses f share next) (Crosses g other s_next) c h k = absurd k
answered_both (Crosses f share next) b c h k = absurd h
answered_both (Locks l x) (Locks m y) (Locks n z) h k = h ∙ k
answered_both (Locks l x) (Locks m y) c h k = absurd k
answered_both (Locks l x) b c h k = absurd h
answered_both (Receives x) (Receives y) (Receives z) h k = tt
answered_both (Receives x) (Receives y) c h k = absurd k
answered_both (Receives x) b c h k = absurd h
answered_both (Stops Full) b c h k = tt
answered_both (Stops Ended) (Stops Full) c h k = absurd (cc h)
answered_both (Stops Ended) (Stops Ended) (Stops third) h k = k
answered_both (Stops Ended) (Stops (Taken m)) (Stops third) h k = absurd (cc h)
answered_both (Stops (Taken l)) (Stops Full) c h k = absurd (cc h)
answered_both (Stops (Taken l)) (Stops (Taken m)) (Stops third) h k = h ∙ k
answered_both (Stops (Taken l)) (Stops Ended) c h k = absurd (cc h)
answered_both (Stops Ended) (Stops Ended) c h k = absurd k
answered_both (Stops Ended) (Stops (Taken m)) c h k = absurd k
answered_both (Stops (Taken l)) (Stops (Taken m)) c h k = absurd k
answered_both (Stops Ended) b c h k = absurd h
answered_both (Stops (Taken l)) b c h k = absurd h
answered_both Bad b c h k = absurd h

-- an act with a label is answered by none that is quiet
answered_loud : {T S : Type 0} (edge : Edge) (ls : List RunLabel) (a : Act T) (b : Act S) (l : RunLabel) (x : T) →
    StepsTo edge ls a l x → Answered a b → IsQuiet b → ⊥
answered_loud edge ls (Emits e x') (Quiet y) l x h k q = k
answered_loud edge ls (Crosses f share next) (Quiet y) l x h k q = k
answered_loud edge ls (Locks lock next) (Quiet y) l x h k q = k
answered_loud edge ls (Receives next) (Quiet y) l x h k q = k
answered_loud edge ls (Quiet x') (Quiet y) l x h k q = h
answered_loud edge ls Bad (Quiet y) l x h k q = h
answered_loud edge ls (Stops why) (Quiet y) l x h k q = h
answered_loud edge ls a b l x h k q = absurd q

-- a label of the first and of the third is one of the middle's
label_between : {T S R : Type 0} (edge : Edge) (ls : List RunLabel) (a : Act T) (b : Act S) (c : Act R) → Answered a b →
    Answered b c → (l : RunLabel) (x : T) (z : R) → StepsTo edge ls a l x → StepsTo edge ls c l z → (y : S)
    × StepsTo edge ls b l y
label_between edge ls (Emits e x') (Emits f y) c h k l x z p q = (y, (ap label_of (sym h) ∙ p.0, refl))
label_between edge ls (Crosses f share next) (Crosses g other s_next) (Crosses o third r_next) h k l x z p q =
    let y = k.2.each q.0 z q.2 in (
      y.0,
      (
        q.0,
        subst (λ v. crossing_by v other q.0 ≡ l) (sym k.0) (subst (λ v. crossing_by o v q.0 ≡ l) (sym k.1) q.1),
        y.1,
      ),
    )
label_between edge ls (Crosses f share next) (Crosses g other s_next) c h k l x z p q = absurd k
label_between edge ls (Locks lock next) (Locks other s_next) c h k l x z p q =
    (s_next p.0, (p.0, subst (λ v. l ≡ Lock v p.0) h p.1, subst (λ v. AreGuarded edge v p.0) h p.2, refl))
label_between edge ls (Receives next) (Receives s_next) c h k l x z p q = (s_next l, (p.0, refl))
label_between edge ls (Quiet x') b c h k l x z p q = absurd p
label_between edge ls Bad b c h k l x z p q = absurd p
label_between edge ls (Stops why) b c h k l x z p q = absurd p
label_between edge ls a b c h k l x z p q = absurd h

-- a Bad step of the middle's is the source's
bad_both : {S R : Type 0} (edge : Edge) (s : Machine S) (r : Machine R) → Refines edge s r → (ls : List RunLabel) →
    HasRun edge r ls → BadBefore edge s ls → BadBefore edge r ls
bad_both edge s r k ls has b =
    ⊎_elim
    (λ d. record {
      since = b.since ++ d.since;
      before = d.before;
      prefix = b.prefix ∙ ap (λ l. b.since ++ l) d.prefix
          ∙ sym (append_assoc b.since d.since d.before);
      bad = d.bad;
    })
    (λ h. absurd (h.there.meant b.bad.there))
    (k.kept b.before b.bad.to b.bad.run (has_shorter edge r b.since b.before ls b.prefix has))

module _ {T S R : Type 0} (edge : Edge) (t : Machine T) (s : Machine S) (r : Machine R) (h : Refines edge t s)
    (k : Refines edge s r) where
  either : (ls : List RunLabel) {X : Type 0} → HasRun edge r ls → BadBefore edge s ls ⊎ X → BadBefore edge r ls ⊎ X
  either ls has (inl b) = inl (bad_both edge s r k ls has b)
  either ls has (inr x) = inr x

  has_label : (l : RunLabel) (ls : List RunLabel) (x : Reached T) (x' : T) → StepsTo edge ls (t.act x.at) l x' →
      HasRun edge r (l ∷ ls) → Comes edge s ls (λ y. Answered (t.act x.at) (s.act y.at)) → BadBefore edge r ls
      ⊎ HasRun edge s (l ∷ ls)
  has_label l ls x x' e has m =
      ⊎_elim inl
      (λ n.
      let before = before_label edge r l ls has.run refl in
      let leads = leads_there edge r l ls before n.run
      (λ q. answered_loud edge ls (t.act x.at) (r.act n.to.at) l x' e
      (answered_both (t.act x.at) (s.act m.to.at) (r.act n.to.at) m.there n.there) q) in
      let y = label_between edge ls (t.act x.at) (s.act m.to.at) (r.act n.to.at) m.there n.there l x' before.to e leads
      in
      inr (has_of edge s (labelled l y.0 m.run y.1)))
      (k.answers ls m.to m.run (has_before edge r l ls has))

  -- the middle has the labels that both have
  middle : {ls : List RunLabel} {bs : List Block} {b : Block} {x : T} → Run edge t ls bs b x → HasRun edge r ls →
      BadBefore edge r ls ⊎ HasRun edge s ls
  middle starts has = inr (has_of edge s starts)
  middle (quiet x' run e) has = middle run has
  middle (labelled {ls = ls} {bs = bs} {b = b} {x = x} l x' run e) has =
      let x0 : Reached T = record { blocks = bs; block = b; at = x } in
      let shorter : HasRun edge r ls = has_before edge r l ls has in
      ⊎_elim (λ d. inl (bad_longer edge r l ls d))
      (λ m. ⊎_elim (λ d. inl (bad_longer edge r l ls d))
      (λ o. ⊎_elim (λ d. inl (bad_longer edge r l ls d)) inr (has_label l ls x0 x' e has o))
      (either ls shorter (h.answers ls x0 run m)))
      (middle run shorter)

  kept_both : (ls : List RunLabel) (x : Reached T) → HasRun edge r ls → Comes edge s ls (Kept t s x) →
      BadBefore edge r ls ⊎ Comes edge r ls (Kept t r x)
  kept_both ls x has m =
      ⊎_elim inl
      (λ d. inr (record {
        to = d.to;
        run = d.run;
        there = record {
          fine = record {
            costs = m.there.fine.costs;
            within =
                within_both x.block m.to.block d.to.block m.there.fine.within d.there.fine.within;
            opened =
                sub_both m.there.fine.opened d.there.fine.opened;
          };
          within = each_both m.there.within d.there.within;
          meant = m.there.meant;
        };
      }))
      (k.kept ls m.to m.run has)

  answers_both : (ls : List RunLabel) (x : Reached T) → HasRun edge r ls →
      Comes edge s ls (λ y. Answered (t.act x.at) (s.act y.at)) → BadBefore edge r ls
      ⊎ Comes edge r ls (λ z. Answered (t.act x.at) (r.act z.at))
  answers_both ls x has m =
      ⊎_elim inl
      (λ d. inr
      (record {
        to = d.to;
        run = d.run;
        there = answered_both (t.act x.at) (s.act m.to.at) (r.act d.to.at)
            m.there d.there;
      })) (k.answers ls m.to m.run has)

  pub refines_both : Refines edge t r
  refines_both = record {
    kept = λ ls x run has. ⊎_elim inl (λ m. ⊎_elim inl (kept_both ls x has) (either ls has (h.kept ls x run m)))
        (middle run has);
    answers =
        λ ls x run has. ⊎_elim inl (λ m. ⊎_elim inl (answers_both ls x has) (either ls has (h.answers ls x run m)))
        (middle run has);
  }

-- What the source does at a label of the target's.

abbrev pub IsCrossing : {S : Type 0} → Act S → Type 0
IsCrossing (Crosses f share next) = Unit {0}
IsCrossing _ = ⊥

answered_label : {T S : Type 0} (edge : Edge) (ls : List RunLabel) (a : Act T) (b : Act S) → Answered a b →
    (IsCrossing a → ⊥) → (l : RunLabel) (x : T) → StepsTo edge ls a l x → (y : S) × StepsTo edge ls b l y
answered_label edge ls (Emits e x') (Emits f y) h n l x p = (y, (ap label_of (sym h) ∙ p.0, refl))
answered_label edge ls (Crosses f share next) b h n l x p = absurd (n tt)
answered_label edge ls (Locks lock next) (Locks other s_next) h n l x p =
    (s_next p.0, (p.0, subst (λ v. l ≡ Lock v p.0) h p.1, subst (λ v. AreGuarded edge v p.0) h p.2, refl))
answered_label edge ls (Receives next) (Receives s_next) h n l x p = (s_next l, (p.0, refl))
answered_label edge ls (Quiet x') b h n l x p = absurd p
answered_label edge ls Bad b h n l x p = absurd p
answered_label edge ls (Stops why) b h n l x p = absurd p
answered_label edge ls a b h n l x p = absurd h

-- each further label of the target, but a Call or a Leave, is one of the source
pub follows : {T S : Type 0} (edge : Edge) (t : Machine T) (s : Machine S) → Refines edge t s →
    (ls : List RunLabel) (x : Reached T) → Reaches edge t ls x → HasRun edge s ls → (IsCrossing (t.act x.at) → ⊥) →
    (l : RunLabel) (y : T) → StepsTo edge ls (t.act x.at) l y → BadBefore edge s ls ⊎ HasRun edge s (l ∷ ls)
follows edge t s h ls x r has n l y e =
    ⊎_elim inl (λ m. let z = answered_label edge ls (t.act x.at) (s.act m.to.at) m.there n l y e in
    inr (has_of edge s (labelled l z.0 m.run z.1))) (h.answers ls x r has)

-- Where each Call and Leave of the target has one label, each of its runs is kept.

module _ {T S : Type 0} (edge : Edge) (t : Machine T) (s : Machine S) (h : Refines edge t s) (alone : NamesAlone edge t)
  where
    label_alone : (ls : List RunLabel) (a : Act T) (b : Act S) → Answered a b →
        ((function : Option NameBytes) (share : Share) (next : Names → Option T) → a ≡ Crosses function share next →
        (n m : Names) (y z : T) → next n ≡ Some y → next m ≡ Some z → n ≡ m) → (l : RunLabel) (x : T) →
        StepsTo edge ls a l x → (y : S) × StepsTo edge ls b l y
    label_alone ls (Crosses f share next) (Crosses g other s_next) m one l x p =
        let to = m.2.each m.2.names m.2.to m.2.has_names in
        let same : m.2.names ≡ p.0 = one f share next refl m.2.names p.0 to.0 x to.1 p.2 in (
          m.2.to,
          (
            m.2.names,
            subst (λ v. crossing_by v other m.2.names ≡ l) m.0
                (subst (λ v. crossing_by f v m.2.names ≡ l) m.1
                (subst (λ v. crossing_by f share v ≡ l) (sym same) p.1)),
            m.2.has_names,
          ),
        )
    label_alone ls (Crosses f share next) b m one l x p = absurd m
    label_alone ls (Emits e x') b m one l x p = answered_label edge ls (Emits e x') b m (λ q. q) l x p
    label_alone ls (Locks lock next) b m one l x p = answered_label edge ls (Locks lock next) b m (λ q. q) l x p
    label_alone ls (Receives next) b m one l x p = answered_label edge ls (Receives next) b m (λ q. q) l x p
    label_alone ls (Quiet x') b m one l x p = absurd p
    label_alone ls Bad b m one l x p = absurd p
    label_alone ls (Stops why) b m one l x p = absurd p

    has_each : {ls : List RunLabel} {bs : List Block} {b : Block} {x : T} → Run edge t ls bs b x → BadBefore edge s ls
        ⊎ HasRun edge s ls
    has_each starts = inr (has_of edge s starts)
    has_each (quiet x' run e) = has_each run
    has_each (labelled {ls = ls} {bs = bs} {b = b} {x = x} l x' run e) =
        ⊎_elim (λ d. inl (bad_longer edge s l ls d))
        (λ m. ⊎_elim (λ d. inl (bad_longer edge s l ls d))
        (λ o. let y = label_alone ls (t.act x) (s.act o.to.at) o.there (alone ls bs b x run) l x' e in
        inr (has_of edge s (labelled l y.0 o.run y.1)))
        (h.answers ls (record { blocks = bs; block = b; at = x }) run m))
        (has_each run)

    pub each_kept : EachKept edge t s
    each_kept ls x run = ⊎_elim inl (λ m. h.kept ls x run m) (has_each run)

-- A machine of which no step is free, and of which what crosses has a label, refines itself.

pub within_same : (b : Block) → Within b b
within_same b = record { price = omega arith; writes = λ w h. h; reads = λ w h. inl h }

each_same : (bs : List Block) → EachWithin bs bs
each_same [] = none
each_same (b ∷ bs) = more (within_same b) (each_same bs)

pub sub_same : (xs : List Opened) → Subsequence xs xs
sub_same [] = done
sub_same (x ∷ xs) = keep (sub_same xs)

module _ {S : Type 0} (edge : Edge) (m : Machine S) (rules : Proceeds m) where
  kept_same : (ls : List RunLabel) (x : Reached S) → Reaches edge m ls x → BadBefore edge m ls
      ⊎ Comes edge m ls (Kept m m x)
  kept_same ls x run =
      ⊎_elim (λ h. inl (bad_here edge m ls x run h))
      (λ h. inr
      (record {
        to = x;
        run = run;
        there =
            record {
              fine = record {
                costs = rules.costs x.at;
                within = within_same x.block;
                opened = sub_same
                    (open_functions m x.at);
              };
              within = each_same x.blocks;
              meant = h;
            };
      }))
      (bad_or_fine (m.act x.at))

  answers_same : (a : Act S) → ((function : Option NameBytes) (share : Share) (next : Names → Option S) →
      a ≡ Crosses function share next → (n : Names) × (y : S) × (next n ≡ Some y)) → (IsBad a → ⊥) → Answered a a
  answers_same (Quiet x) named fine = tt
  answers_same (Emits e x) named fine = refl
  answers_same (Crosses f share next) named fine = let n =
      named f share next refl in (refl, refl, record { names = n.0; to = n.1; has_names = n.2; each = λ k y e. (y, e) })
  answers_same (Locks lock next) named fine = refl
  answers_same (Receives next) named fine = tt
  answers_same Bad named fine = absurd (fine tt)
  answers_same (Stops Full) named fine = tt
  answers_same (Stops Ended) named fine = refl
  answers_same (Stops (Taken lock)) named fine = refl

  pub refines_itself : Refines edge m m
  refines_itself = record {
    kept = λ ls x run has. kept_same ls x run;
    answers = λ ls x run has. ⊎_elim (λ h. inl (bad_here edge m ls x run h))
        (λ h. inr (record { to = x; run = run; there = answers_same (m.act x.at) (rules.named x.at) h }))
        (bad_or_fine (m.act x.at));
  }
