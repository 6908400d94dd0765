-- Each run of processors is a run of abstract threads, up to where a program does what has no meaning.
use Rattle.std.proofs.Common.{◌≡◌, ◌+◌, ◌*◌, length, nat_lt, Bool, true, if◌then◌else◌, arith, ℕ, ◌≤◌, ◌<◌, List, Option, Some, None, sym, refl, ap, ◌∙◌, subst, inl, inr, ◌⊎◌}
use Rattle.cas_asm.specs.State.{State}
use Rattle.cas_asm.specs.Ask.{ask_of}
use Rattle.cas_atomic.specs.Buffer.{Store, put}
use Rattle.cas_atomic.specs.Atomic.{act, act_by}
use Rattle.cas_atomic.specs.Buffered.{Point, Outside, Inside, End, Running, IsDone}
use Rattle.cas_atomic.specs.Cells.{AreGuards}
use Rattle.cas_atomic.specs.Labels.{listed}
use Rattle.cas_atomic.specs.Sound.{Unknown, StandsBeside, IsBadAt, IsBadBefore, Waits, refused_threads}
use Rattle.cas_runs.specs.Label.{RunLabel}
use Rattle.cas_runs.specs.Legal.{ThreadLabel, projection}
use Rattle.cas_runs.specs.Machine.{Bad, IsBad, Act}
use Rattle.cas_atomic.specs.AnyRun.{any_steps}
use Rattle.cas_atomic.specs.Buffered as tso
use Rattle.cas_atomic.specs.Sound as atomic
use Rattle.cas_atomic.proofs.Basic.{same_or_not, put_here, put_else}
use Rattle.cas_refine.proofs.Stacks.{lt_or_not}
use Rattle.cas_atomic.proofs.Alone.{sound}
use Rattle.cas_refine.specs.Object.{HasObject}
use Rattle.cas_refine.specs.Cpu.{Program, event_of}
use Rattle.cas_refine.specs.Machine.{in_object, one_inside, inside_of, moment, Core, core, World, world, Linked, setup, opening, MayEnd, Takes, Step, takes, stops, drains, Run, opens, and_then, Begins}
use Rattle.cas_refine.specs.Matching.{Stands, Matches, lift}
use Rattle.cas_refine.specs.Sound.{IsBadNow, IsBadEarlier, IsSoundOn}
use Rattle.cas_refine.proofs.Landing.{Goes, IsWrong, Result, finish}
use Rattle.cas_refine.proofs.Inside.{executes, ends as ends_inside}
use Rattle.cas_refine.proofs.Outside.{outside, ends as ends_outside}

at_end : {p : Linked} (u : Unknown) {s : World} {ls : List ThreadLabel} (r : Run p s ls) → IsBadNow p u s ls →
    IsBadEarlier u r
at_end u opens b = b
at_end u (and_then i t o r below step) b = inr b

module _ (p : Linked) (obj : HasObject p.image) (begin : Begins p) where
  module _ (s : World) (ats : ℕ → Point Program) (h : Matches p.image s ats) (i : ℕ) where
    over : (s.threads i).ended ≡ Running → (s.threads i).ended ≡ IsDone → ⊥
    over live e = absurd (cc (live, e))

    -- the act of a processor, wherever it stands
    acts : (live : (s.threads i).ended ≡ Running) (w : Point Program) → ats i ≡ w → Stands p.image (s.threads i) w →
        (t : World) (o : Option RunLabel) → Takes (moment p s i) (s.threads i) (ask_of p.image (s.threads i).cpu None)
        t o → Result p s ats h i (in_object (s.threads i).cpu) t o
    acts live (Outside (Some x)) here same t o y = outside p obj s ats h i live
        (here ∙ ap (λ (c : State). Outside (Some c)) same) t o y
    acts live (Outside None) here same t o y = absurd (over live same)
    acts live (Inside place f l k) here stands t o y =
        let at = stands.place_is in
        let less = stands.within in
        let low : nat_lt (s.threads i).cpu.core.place 8 ≡ true =
        elim (lt_or_not (s.threads i).cpu.core.place 8) [
          | inl q ↦ q.0
          | inr q ↦ let z = q.1 in absurd (omega arith)
        ] in
        subst (λ (b : Bool). Result p s ats h i (if b then 1 else 0) t o) (sym low)
        (executes p s ats h i live obj place f l k here stands t o y)

    stops_at : (live : (s.threads i).ended ≡ Running) (w : Point Program) → ats i ≡ w → Stands p.image (s.threads i) w →
        (why : End) → MayEnd p s (s.threads i) why
        → Result p s ats h i 0
        (world s.memory s.output (put i (core (s.threads i).cpu (s.threads i).buffer why (s.threads i).executed)
        s.threads)) None
    stops_at live (Outside (Some x)) here same why e =
        ends_outside p obj s ats h i live (here ∙ ap (λ (c : State). Outside (Some c)) same) why e
    stops_at live (Outside None) here same why e = absurd (over live same)
    stops_at live (Inside place f l k) here stands why e =
        let r = s.threads i in
        finish p s ats h i 0 s.memory s.output (Inside place f l k) (core r.cpu r.buffer why r.executed)
        (tso.thread (ats i) r.buffer why r.executed) _ None None refl refl
        (ap (λ (v : Point Program). tso.thread v r.buffer why r.executed) here)
        (tso.stops why (ends_inside p s ats h i live obj place f l k here stands why e), live, refl) stands (h.rooms i)

    stands_drained : (w : Point Program) (r : Core) (rest : List Store) → Stands p.image r w →
        Stands p.image (core r.cpu rest r.ended r.executed) w
    stands_drained (Outside (Some x)) r rest st = st
    stands_drained (Outside None) r rest st = st
    stands_drained (Inside place f l k) r rest st = st

    one_step : (t : World) (o : Option RunLabel) (step : Step p s i t o) → Result p s ats h i (one_inside step) t o
    one_step _ _ (takes t o live x) = acts live (ats i) refl (h.stands i) t o x
    one_step _ _ (stops why live e) = stops_at live (ats i) refl (h.stands i) why e
    one_step _ _ (drains w v rest e) =
        let r = s.threads i in
        finish p s ats h i 0 (put w v s.memory) s.output (ats i) (core r.cpu rest r.ended r.executed)
        (tso.thread (ats i) rest r.ended r.executed) _ None None refl refl refl (tso.drain w v rest e, tt, refl)
        (stands_drained (ats i) r rest (h.stands i)) (h.rooms i)

  module _ (guards : AreGuards p.edge.cells) (few : p.threads ≤ 2147483648) where
    -- the abstract run so far, and what a Bad step in it means for the processors
    record IsMatched (s : World) (ls : List ThreadLabel) (r : Run p s ls) : Type 0 where
      ats : ℕ → Point Program
      matches : Matches p.image s ats
      run : tso.Run (setup p) (lift s ats) ls
      inside : (j : ℕ) → atomic.inside_of run j ≡ inside_of r j
      earlier : (u : Unknown) → IsBadBefore (refused_threads (setup p)) u run → IsBadEarlier u r

    -- a thread whose program is Wrong
    wrong_bad : (s : World) (ls : List ThreadLabel) (r : Run p s ls) (i : ℕ) → i < p.threads → (k : IsMatched s ls r) →
        IsWrong p s k.ats k.matches i → (u : Unknown) × IsBadEarlier u r
    wrong_bad s ls r i below k w =
        let both = sound (setup p) refl guards few (lift s k.ats) ls k.run in
        let u = both.0 in
        elim both.1 [
          | inl e ↦
              let f = e.explains.follows i in
              let stands : StandsBeside (setup p) f.to.at.at (any_steps f.run) (s.threads i).executed (Outside w.at) =
              subst (λ (v : Point Program). StandsBeside (setup p) f.to.at.at (any_steps f.run)
              (s.threads i).executed v) w.outside f.stands in
              let bad : act (setup p) (u i) f.to.at ≡ Bad =
              ap (act_by p.edge.cells (u i) f.to.at) (ap (event_of p.image) stands.0 ∙ w.wrong) in (
                u,
                at_end u r (record {
                  ats = k.ats;
                  matches = k.matches;
                  bad = record {
                    explains = e.explains;
                    thread = i;
                    there = below;
                    bad = subst (λ (a : Act _). IsBad a) (sym bad) tt;
                  };
                }),
              )
          | inr b ↦ (u, k.earlier u b)
        ]

    matched : (s : World) (ls : List ThreadLabel) (r : Run p s ls) → IsMatched s ls r
        ⊎ ((u : Unknown) × IsBadEarlier u r)
    matched _ _ opens =
        let ats : ℕ → Point Program = λ i. Outside (Some (p.first i)) in
        let fits : Matches p.image (opening p) ats = record
        { stands = λ i. refl; rooms = λ i. record { room = begin.room i } } in
        inl (record {
          ats = ats;
          matches = fits;
          run = tso.opens;
          inside = λ j. refl;
          earlier =
              λ u b. record { ats = ats; matches = fits; bad = b };
        })
    matched _ _ (and_then {s = s} {ls = ls} i t o r below step) = elim (matched s ls r) [
      | inl k ↦ elim (one_step s k.ats k.matches i t o step) [
        | inl g ↦ inl (record {
          ats = put i g.at k.ats;
          matches = g.matches;
          run = tso.and_then i (lift t (put i g.at k.ats)) o k.run below g.step g.may;
          inside = λ j. elim (same_or_not j i) [
            | inl q ↦
                put_here i (atomic.inside_of k.run i + atomic.one_inside g.step) (atomic.inside_of k.run) j q
                ∙ (let a = k.inside i in let b = g.inside in omega arith)
                ∙ sym (put_here i (inside_of r i + one_inside step) (inside_of r) j q)
            | inr d ↦
                put_else i (atomic.inside_of k.run i + atomic.one_inside g.step) (atomic.inside_of k.run) j d
                ∙ k.inside j ∙ sym (put_else i (inside_of r i + one_inside step) (inside_of r) j d)
          ];
          earlier = λ u b. sorted u i t o s ls r below step k g b;
        })
        | inr w ↦ let b = wrong_bad s ls r i below k w in inr (b.0, inl b.1)
      ]
      | inr b ↦ inr (b.0, inl b.1)
    ]
      where
        sorted : (u : Unknown) (i : ℕ) (t : World) (o : Option RunLabel) (s : World) (ls : List ThreadLabel)
            (r : Run p s ls) (below : i < p.threads) (step : Step p s i t o) (k : IsMatched s ls r)
            (g : Goes p s k.ats k.matches i (one_inside step) t o)
            → IsBadBefore (refused_threads (setup p)) u k.run
            ⊎ IsBadAt (setup p) (refused_threads (setup p)) u (lift t (put i g.at k.ats)) (listed i o ls) →
            IsBadEarlier u r
            ⊎ IsBadNow p u t (listed i o ls)
        sorted u i t o s ls r below step k g (inl b) = inl (k.earlier u b)
        sorted u i t o s ls r below step k g (inr b) =
            inr (record { ats = put i g.at k.ats; matches = g.matches; bad = b })

pub sound_on : (p : Linked) → IsSoundOn p
sound_on p obj begin guards few s ls r = elim (matched p obj begin guards few s ls r) [
  | inl k ↦
      let both = sound (setup p) refl guards few (lift s k.ats) ls k.run in
      let u = both.0 in (
        u,
        elim both.1 [
          | inl e ↦ inl (record {
            labels = record { ats = k.ats; matches = k.matches; explains = e.explains };
            alone = λ one.
                subst (λ (m : ℕ). Waits (act (setup p) (u 0) (e.explains.follows 0).to.at)
                ⊎ (m ≤ 3 * (length (projection 0 ls) + 1))) (k.inside 0) (e.alone one);
          })
          | inr b ↦ inr (k.earlier u b)
        ],
      )
  | inr b ↦ (b.0, inr b.1)
]
