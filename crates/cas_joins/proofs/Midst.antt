-- In the midst of a run of the target's thread: its units stand as it does, and the source's thread has a run with the
-- same labels, made of those of its units. A crossing of the target's units is one of the source's.
use Rattle.std.proofs.Common.{◌≡◌, ℕ, zero, suc, List, [], ◌∷◌, ◌⊎◌, Option, Some, inl, inr, refl, sym, ap, ◌∙◌, subst, ⊎_elim, arith}
use Rattle.cas_runs.specs.Label.{NameBytes, Share, RunLabel, Done}
use Rattle.cas_runs.specs.Edge.{Edge}
use Rattle.cas_runs.specs.Outside.{IsAmong}
use Rattle.cas_runs.specs.Machine.{Act, Quiet, Emits, Crosses, Locks, Receives, Bad, Stops, Names, crossing_by, StepsTo, IsBad, Machine, Block, Run, begun, nothing, labelled}
use Rattle.cas_runs.specs.Refines.{Within, EachWithin, more, Reached, Reaches, Comes, HasRun, BadBefore, Kept, CrossesAs, Answered, Refines}
use Rattle.cas_runs.specs.Forms.{FootIn}
use Rattle.cas_runs.specs.Known.{set}
use Rattle.cas_runs.specs.Walking.{stays, after, HasNoSilentStep}
use Rattle.cas_runs.proofs.Stars.{run_walk, longest}
use Rattle.cas_runs.proofs.Refining.{Before}
use Rattle.cas_runs.proofs.Composing.{within_both}
use Rattle.cas_runs.proofs.Families.{set_all, set_one}
use Rattle.cas_joins.specs.Units.{emitted, received, Family, Units, state_now, emits, turns, Stands, IsOver}
use Rattle.cas_joins.specs.Decomposes.{Target, act_now, Hears, Crossing, Chain, LastCrossing, Decomposes}
use Rattle.cas_joins.specs.Composes.{Source, Composes, EndsHere, IsReceived, CrossingComposes}
use Rattle.cas_joins.proofs.Blocks.{plus, plus_within, step_within, step_outside, plus_nothing, plus_of_nothing, nothing_within}
use Rattle.cas_joins.proofs.Building.{Past, past, placed, Begun, has_begun, Built, Walked, bad_there, goes_quietly, walk_to, composes_at, unit_bad}

-- the source crosses as the target does
record SameCrossing {T S : Type 0} (function : Option NameBytes) (share : Share) (next : Names → Option T)
    (b : Act S) : Type 0 where
  s_next : Names → Option S
  is : b ≡ Crosses function share s_next
  as_target : CrossesAs next s_next

same_crossing : {T S : Type 0} (function : Option NameBytes) (share : Share) (next : Names → Option T) (b : Act S) →
    Answered (Crosses function share next) b → SameCrossing function share next b
same_crossing function share next (Crosses g other s_next) h = record {
  s_next = s_next;
  is = ap (λ v. Crosses v other s_next) (sym h.0) ∙ ap (λ v. Crosses function v s_next) (sym h.1);
  as_target = h.2;
}
same_crossing function share next (Quiet y) h = absurd h
same_crossing function share next (Emits e y) h = absurd h
same_crossing function share next (Locks l n) h = absurd h
same_crossing function share next (Receives n) h = absurd h
same_crossing function share next Bad h = absurd h
same_crossing function share next (Stops why) h = absurd h

-- a run with these labels and this last block ends at this state
pub record StandsAt {S : Type 0} (edge : Edge) (m : Machine S) (labels : List RunLabel) (block : Block)
    (x : S) : Type 0 where
  pub blocks : List Block
  pub run : Run edge m labels blocks block x

no_words : (w : ℕ) (xs : List ℕ) → xs ≡ [] → IsAmong w xs → ⊥
no_words w xs e a = none_there (subst (λ v. IsAmong w v) e a)
  where
    none_there : IsAmong w [] → ⊥
    none_there k = elim k [ ]

module _ {K U T X S Y : Type 0} (p : Family K) (t : Target K U T X) (s : Source K S Y)
    (refine : (u : U) (i : ℕ) → Refines (p.edges i) (t.units u i) (s.units i)) (cuts : Decomposes p t)
    (joins : Composes p s) where
  -- the thread's last block: it pays for what units that wait have added to it, and for what of the running unit's
  -- block is in it
  pub record Pays (b now s_due : Block) : Type 0 where
    pub due : Block
    pub extra : Block
    pub paid : Within due s_due
    pub counts : Within extra now
    pub pays : Within b (plus due extra)

  pub record Mid (ls : List RunLabel) (bs : List Block) (b : Block) (u : U) (h : Units K T) : Type 0 where
    pub runs : (i : ℕ) → Stands (p.edges i) (t.units u i) (h.talk.labels i) (h.states i)
    pub now : Stands (p.edges h.talk.now) (t.units u h.talk.now) (h.talk.labels h.talk.now) (state_now h)
    pub blocks : List Block
    pub due : Block
    pub built : Built p s joins (past ls blocks h.talk due)
    pub closed : EachWithin bs blocks
    pub pays : Pays b now.block due

  module _ {ls : List RunLabel} {bs : List Block} {b : Block} {u : U} {h : Units K T} (m : Mid ls bs b u h) where
    -- what came before
    abbrev pub before_it : Past K
    before_it = past ls m.blocks h.talk m.due

    -- where the running unit of the target is
    abbrev pub reached : Reached T
    reached = record { blocks = m.now.blocks; block = m.now.block; at = state_now h }

    pub has_now : HasRun (p.edges h.talk.now) (s.units h.talk.now) (h.talk.labels h.talk.now)
    has_now = has_begun p s joins h.talk.now (h.talk.labels h.talk.now) (m.built.states h.talk.now)
        (m.built.begins h.talk.now)

    pub mid_bad : BadBefore (p.edges h.talk.now) (s.units h.talk.now) (h.talk.labels h.talk.now) →
        BadBefore p.edge s.thread ls
    mid_bad d = unit_bad p s joins before_it m.built d

    pub mid_kept : BadBefore p.edge s.thread ls
        ⊎ Comes (p.edges h.talk.now) (s.units h.talk.now) (h.talk.labels h.talk.now)
        (Kept (t.units u h.talk.now) (s.units h.talk.now) reached)
    mid_kept = ⊎_elim (λ d. inl (mid_bad d)) inr
        ((refine u h.talk.now).kept (h.talk.labels h.talk.now) reached m.now.run has_now)

    pub target_fine : IsBad (act_now p t u h) → BadBefore p.edge s.thread ls
    target_fine bad = ⊎_elim (λ d. d) (λ k. absurd (k.there.meant bad)) mid_kept

    -- the block that the source's unit ends is the greater
    pub closes : (y : Reached S) → Reaches (p.edges h.talk.now) (s.units h.talk.now) (h.talk.labels h.talk.now) y →
        HasNoSilentStep (s.units h.talk.now) y.at → BadBefore p.edge s.thread ls ⊎ Within m.now.block y.block
    closes y r n = ⊎_elim inl
        (λ k. inr (within_both m.now.block k.to.block y.block k.there.fine.within
        (longest (p.edges h.talk.now) (s.units h.talk.now) (h.talk.labels h.talk.now) k.to.blocks y.blocks k.to.block
        y.block k.to.at y.at k.run r n)))
        mid_kept

    -- Crossings.

    -- the target's unit crosses by these names, and so does the source's
    pub record Crossed (function : Option NameBytes) (share : Share) (next : Names → Option T) : Type 0 where
      pub names : Names
      pub x : T
      pub has_next : next names ≡ Some x
      pub before : Before (p.edges h.talk.now) (s.units h.talk.now) (crossing_by function share names)
          (h.talk.labels h.talk.now)
      pub walked : Walked p s joins before_it m.built.states before.from.block before.from.at
      pub composes : CrossingComposes p s (placed h.talk walked.to) walked.thread.at
          (crossing_by function share names) before.to
      pub closed : Within m.now.block before.from.block

    crossed_by : (function : Option NameBytes) (share : Share) (next : Names → Option T) (y : Reached S) →
        Reaches (p.edges h.talk.now) (s.units h.talk.now) (h.talk.labels h.talk.now) y →
        SameCrossing function share next ((s.units h.talk.now).act y.at) →
        BadBefore p.edge s.thread ls ⊎ Crossed function share next
    crossed_by function share next y run c =
        let as_it = c.as_target in
        let to = as_it.each as_it.names as_it.to as_it.has_names in
        let l = crossing_by function share as_it.names in
        let leads : StepsTo (p.edges h.talk.now) (h.talk.labels h.talk.now) ((s.units h.talk.now).act y.at) l as_it.to =
        subst (λ (v : Act S). StepsTo (p.edges h.talk.now) (h.talk.labels h.talk.now) v l as_it.to) (sym c.is)
        (as_it.names, refl, as_it.has_names) in
        ⊎_elim inl (λ w.
        ⊎_elim inl (λ j.
        ⊎_elim inl (λ k. inr (record {
          names = as_it.names;
          x = to.0;
          has_next = to.1;
          before = record { from = y; run = run; to = as_it.to; leads = leads };
          walked = w;
          composes = j as_it.names as_it.to as_it.has_names;
          closed = k;
        }))
        (closes y run (λ z q. let e = c.is in absurd (cc (e, q)))))
        (composes_at p s joins before_it m.built.states y.block y.at w (Crosses function share c.s_next) c.is))
        (walk_to p s joins before_it m.built y.blocks y.block y.at run)

    pub crossed : (function : Option NameBytes) (share : Share) (next : Names → Option T) →
        act_now p t u h ≡ Crosses function share next → BadBefore p.edge s.thread ls ⊎ Crossed function share next
    crossed function share next e =
        ⊎_elim (λ d. inl (mid_bad d))
        (λ c. crossed_by function share next c.to c.run
        (same_crossing function share next ((s.units h.talk.now).act c.to.at)
        (subst (λ (a : Act T). Answered a ((s.units h.talk.now).act c.to.at)) e c.there)))
        ((refine u h.talk.now).answers (h.talk.labels h.talk.now) reached m.now.run has_now)

  -- after a crossing another unit runs
  pub record Hopped (ls : List RunLabel) (bs : List Block) (b : Block) (n : ℕ)
      (Then : U → Units K T → Type 0) : Type 0 where
    pub chosen : U
    pub units : Units K T
    pub mid : Mid ls bs b chosen units
    pub chain : Chain p t n Then chosen units
    pub fresh : mid.now.block ≡ begun (t.units chosen units.talk.now) (state_now units)
    pub uncounted : mid.pays.extra ≡ nothing

  module _ {ls : List RunLabel} {bs : List Block} {b : Block} {u : U} {h : Units K T} (m : Mid ls bs b u h) (n : ℕ)
      (Then : U → Units K T → Type 0) where
    hop_by : (c : Crossing p t (λ v k. Chain p t n Then v k) u h) (d : Crossed m c.function c.share c.next)
        (o : IsReceived p s (placed h.talk d.walked.to) d.walked.thread.at
        (crossing_by c.function c.share d.names) d.before.to) →
        Hears p t (λ v k. Chain p t n Then v k) u (emits h (crossing_by c.function c.share d.names) d.x) o.turn →
        FootIn ((s.units o.turn.to).footprint
        (set (set d.walked.to h.talk.now d.before.to) o.turn.to (o.receive o.turn.receives) o.turn.to))
        (s.thread.footprint o.to) →
        Hopped ls bs b n Then
    hop_by c d o g foot =
        let now = h.talk.now in
        let l = crossing_by c.function c.share d.names in
        let l' = o.turn.receives in
        let j = o.turn.to in
        let v = g.chosen in
        let labels : ℕ → List RunLabel = set h.talk.labels now (l ∷ h.talk.labels now) in
        let states : ℕ → T = set h.states now d.x in
        let ys : ℕ → S = set d.walked.to now d.before.to in
        let emits_it : StepsTo (p.edges now) (h.talk.labels now) (act_now p t u h) l d.x =
        subst (λ (a : Act T). StepsTo (p.edges now) (h.talk.labels now) a l d.x) (sym c.crosses)
        (d.names, refl, d.has_next) in
        let runs1 : (i : ℕ) → Stands (p.edges i) (t.units u i) (labels i) (states i) =
        set_all (λ i k z. Stands (p.edges i) (t.units u i) k z) h.talk.labels h.states now (l ∷ h.talk.labels now) d.x
        (λ i no. m.runs i)
        (record {
          blocks = m.now.block ∷ m.now.blocks;
          block = begun (t.units u now) d.x;
          run = labelled l d.x m.now.run emits_it;
        }) in
        let runs2 : (i : ℕ) → Stands (p.edges i) (t.units v i) (labels i) (states i) =
        λ i. record {
          blocks = (runs1 i).blocks;
          block = (runs1 i).block;
          run = g.carries i (runs1 i).blocks (runs1 i).block (states i) (runs1 i).run;
        } in
        let heard : Run (p.edges j) (t.units v j) (l' ∷ labels j) ((runs2 j).block ∷ (runs2 j).blocks)
        (begun (t.units v j) (g.receive l')) (g.receive l') =
        labelled l' (g.receive l') (runs2 j).run
        (subst (λ (a : Act T). StepsTo (p.edges j) (labels j) a l' (g.receive l')) (sym g.waits)
        (o.may g.room, refl)) in
        let current : StandsAt (p.edges j) (t.units v j) (set labels j (l' ∷ labels j) j)
        (begun (t.units v j) (set states j (g.receive l') j)) (set states j (g.receive l') j) =
        set_one (λ k z. StandsAt (p.edges j) (t.units v j) k (begun (t.units v j) z) z) labels states j (l' ∷ labels j)
        (g.receive l') (record { blocks = (runs2 j).block ∷ (runs2 j).blocks; run = heard }) in
        let f = run_walk (p.edges now) (s.units now) (h.talk.labels now) d.before.from.blocks d.before.from.block
        d.before.from.at d.before.run in
        let begins : (i : ℕ) → Begun p s joins i (labels i) (ys i) =
        set_all (λ i k z. Begun p s joins i k z) h.talk.labels d.walked.to now (l ∷ h.talk.labels now) d.before.to
        (λ i no. subst (λ z. Begun p s joins i (h.talk.labels i) z) (sym (d.walked.gone.there i no)) (m.built.begins i))
        (record {
          blocks = d.before.from.block ∷ d.before.from.blocks;
          begins = after l d.before.to f.begins f.star d.before.leads;
        }) in
        record {
          chosen = v;
          units = turns (emits h l d.x) o.turn (g.receive l');
          mid = record {
            runs = set_all (λ i k z. Stands (p.edges i) (t.units v i) k z) labels states j (l' ∷ labels j)
                (g.receive l') (λ i no. runs2 i)
                (record {
                  blocks = (runs2 j).block ∷ (runs2 j).blocks;
                  block = begun (t.units v j) (g.receive l');
                  run = heard;
                });
            now = record {
              blocks = current.blocks;
              block = begun (t.units v j) (set states j (g.receive l') j);
              run = current.run;
            };
            blocks = m.blocks;
            due = plus m.due d.before.from.block;
            built = record {
              states = set ys j (o.receive l');
              begins = set_all (λ i k z. Begun p s joins i k z) labels ys j (l' ∷ labels j) (o.receive l')
                  (λ i no. begins i)
                  (record {
                    blocks = begun (s.units j) (ys j) ∷ (begins j).blocks;
                    begins = after l' (o.receive l') (begins j).begins stays
                        (subst (λ (a : Act S). StepsTo (p.edges j) (labels j) a l' (o.receive l')) (sym o.waits)
                        (o.may g.room, refl));
                  });
              thread = goes_quietly p s joins ls m.blocks d.walked.thread o.to o.goes;
              joined = o.at;
              pays = within_both _ _ _
                  (step_outside (plus m.due d.before.from.block) nothing
                  ((s.units j).price (set ys j (o.receive l') j)) ((s.units j).footprint (set ys j (o.receive l') j)))
                  (step_within (plus (plus m.due d.before.from.block) nothing) d.walked.thread.block _ _ _ _
                  (within_both _ _ _ (plus_of_nothing (plus m.due d.before.from.block)) d.walked.pays)
                  (joins.price (turns (emits (placed h.talk d.walked.to) l d.before.to) o.turn (o.receive l')) o.to
                  o.at)
                  foot);
            };
            closed = m.closed;
            pays = record {
              due = plus m.pays.due m.pays.extra;
              extra = nothing;
              paid = plus_within m.pays.due m.pays.extra m.due d.before.from.block m.pays.paid
                  (within_both m.pays.extra m.now.block d.before.from.block m.pays.counts d.closed);
              counts = nothing_within _;
              pays = within_both b (plus m.pays.due m.pays.extra) _ m.pays.pays
                  (plus_nothing (plus m.pays.due m.pays.extra));
            };
          };
          chain = g.onward;
          fresh = refl;
          uncounted = refl;
        }

    -- a crossing of the thread
    pub hop : Crossing p t (λ v k. Chain p t n Then v k) u h → BadBefore p.edge s.thread ls ⊎ Hopped ls bs b n Then
    hop c = ⊎_elim inl (λ d.
        let l = crossing_by c.function c.share d.names in
        let heard = c.each d.names d.x d.has_next in
        ⊎_elim (λ f. absurd (heard.goes_on f.0))
        (λ o.
        let states = set (set d.walked.to h.talk.now d.before.to) o.turn.to (o.receive o.turn.receives) in
        ⊎_elim (λ bad. inl (bad_there p s joins (before_it m)
        (goes_quietly p s joins ls m.blocks d.walked.thread o.to o.goes) bad))
        (λ foot. inr (hop_by c d o (heard.each o.turn o.exchanged) foot))
        (joins.touches (placed (received (emitted h.talk l) o.turn) states) o.to o.at))
        d.composes.or_ends) (crossed m c.function c.share c.next c.crosses)

  -- several crossings that are one step of the thread
  pub hops : (n : ℕ) {ls : List RunLabel} {bs : List Block} {b : Block} {u : U} {h : Units K T} (m : Mid ls bs b u h)
      (Then : U → Units K T → Type 0) → Chain p t (suc n) Then u h →
      BadBefore p.edge s.thread ls ⊎ Hopped ls bs b zero Then
  hops zero m Then c = hop m zero Then c
  hops (suc n) m Then c = ⊎_elim inl (λ o. hops n o.mid Then o.chain) (hop m (suc n) Then c)

  -- The end.

  -- both threads have ended
  pub record Over (ls : List RunLabel) (bs : List Block) (b : Block) (x : X) : Type 0 where
    pub over : IsOver t.thread x
    pub thread : Reached Y
    pub run : Reaches p.edge s.thread ls thread
    pub s_over : IsOver s.thread thread.at
    pub closed : EachWithin bs thread.blocks
    pub now : Within b thread.block

  -- what the thread's block paid is within the source's, where the running unit's block is
  pub pays_all : {ls : List RunLabel} {bs : List Block} {b : Block} {u : U} {h : Units K T} (m : Mid ls bs b u h)
      (q c : Block) → Within m.now.block q → Within (plus m.due q) c → Within b c
  pays_all m q c now pays =
      within_both _ _ _ m.pays.pays
      (within_both _ _ _
      (plus_within m.pays.due m.pays.extra m.due q m.pays.paid
      (within_both m.pays.extra m.now.block q m.pays.counts now)) pays)

  over_by : {ls : List RunLabel} {bs : List Block} {b : Block} {u : U} {h : Units K T} (m : Mid ls bs b u h)
      (c : LastCrossing p t u h) (d : Crossed m c.function c.share c.next) (z : X) → IsOver t.thread z →
      t.thread.price z ≡ 1 → EndsHere p s d.walked.thread.at → Over (Done ∷ ls) (b ∷ bs) (begun t.thread z) z
  over_by {ls = ls} m c d z over price e = record {
    over = over;
    thread = record { blocks = d.walked.thread.block ∷ m.blocks; block = begun s.thread e.end; at = e.end };
    run = labelled Done e.end d.walked.thread.run
        (subst (λ (a : Act Y). StepsTo p.edge ls a Done e.end) (sym e.is_last) (refl, refl));
    s_over = e.is_over;
    closed = more (pays_all m d.before.from.block d.walked.thread.block d.closed d.walked.pays) m.closed;
    now = record {
      price = let cost = e.price in omega arith;
      writes = λ w a. absurd (no_words w _ over.writes a);
      reads = λ w a. absurd (no_words w _ over.reads a);
    };
  }

  -- the thread ends by a return
  pub lasts : (n : ℕ) {ls : List RunLabel} {bs : List Block} {b : Block} {u : U} {h : Units K T} (m : Mid ls bs b u h)
      (z : X) → IsOver t.thread z → t.thread.price z ≡ 1 → Chain p t n (λ v k. LastCrossing p t v k) u h →
      BadBefore p.edge s.thread ls ⊎ Over (Done ∷ ls) (b ∷ bs) (begun t.thread z) z
  lasts zero m z over price c =
      ⊎_elim inl
      (λ d. ⊎_elim (λ f. inr (over_by m c d z over price f.1))
      (λ o. absurd (c.each d.names d.x d.has_next o.turn o.exchanged)) d.composes.or_ends)
      (crossed m c.function c.share c.next c.crosses)
  lasts (suc n) m z over price c =
      ⊎_elim inl (λ o. lasts n o.mid z over price o.chain) (hop m n (λ v k. LastCrossing p t v k) c)
