-- A processor outside the lock object takes the steps of its program, and its calls of the lock object lead inside.
use Rattle.std.proofs.Common.{◌≡◌, ℕ, suc, ◌+◌, ◌<◌, ◌≤◌, nat_eq, nat_lt, Bool, true, false, cond, List, [], ◌∷◌, ◌++◌, length, Option, Some, None, slice_get, if◌then◌else◌, sym, refl, ap, ◌∙◌, subst, inl, inr, ◌⊎◌, arith, length-set, get_or-set_same}
use Rattle.std.specs.Prelude.{slice_index, slice_index_or, slice_set}
use Rattle.std.proofs.lemmas.Option.{slice_get_within}
use Rattle.std.proofs.lemmas.Bool.Decides.{eqb_tells}
use Rattle.cas_asm.specs.declared.image.Image.{Image}
use Rattle.cas_asm.specs.declared.ask.Ask.{Ask}
use Rattle.cas_asm.specs.declared.ask.Ask.TheVariants as ask
use Rattle.cas_asm.specs.declared.ask.BadWhy.TheVariants.{ConstWrite}
use Rattle.cas_asm.specs.declared.ask.Spot.{Spot}
use Rattle.cas_asm.specs.declared.ask.Spot.TheVariants.{Own, Shared, Nowhere}
use Rattle.cas_asm.specs.declared.regs.Regs.{Regs}
use Rattle.cas_asm.specs.declared.instr.Instr.{Instr}
use Rattle.cas_asm.specs.declared.instr.Instr.TheVariants.{Call}
use Rattle.cas_asm.specs.declared.instr.Callee.{Callee}
use Rattle.cas_asm.specs.Links.{in_image}
use Rattle.cas_asm.specs.Effect.{callee_place}
use Rattle.cas_asm.specs.State.{State}
use Rattle.cas_base.specs.Word.{word_add, word_sub}
use Rattle.cas_asm.specs.After.{address}
use Rattle.cas_asm.specs.Ask.{ask_of, ask_instr, ask_stored, stepped, stepped_by, stack_set, spot_of, spot_at}
use Rattle.cas_atomic.specs.Leftover.{one_less}
use Rattle.cas_atomic.specs.Buffer.{Store, store, view, put}
use Rattle.cas_atomic.specs.Buffered.{Point, Outside, Inside, End, Running, IsDone, OutOfFuel, IsFull, HasFailed, OutOfOuts, if_zero}
use Rattle.cas_atomic.specs.Cells.{under, values}
use Rattle.cas_atomic.specs.Program.{Event, CallLock, CallUnlock, NoRoom, Wrong, After, Fails, Halts}
use Rattle.cas_runs.specs.Label.{RunLabel, Lock, Unlock, Out, Done}
use Rattle.cas_atomic.specs.Buffered as tso
use Rattle.cas_refine.specs.Object.{at_eax, HasObject}
use Rattle.cas_refine.specs.Cpu.{Program, if_changing, unfixed, behind, with_below, Called, ToLock, ToUnlock, Other, called_by, called_of, after_load, event_by, locks_at, unlocks_at, locks_by, unlocks_by, event_for, event_at}
use Rattle.cas_refine.specs.Machine.{in_object, moment, Core, core, World, world, Linked, setup, counted, goes, lock_listed, unlock_listed, Takes, WouldAsk, outright, by_load, IsStack, IsBad, IsOut, MayEnd}
use Rattle.cas_refine.specs.Matching.{cpu, InObject, HasRoom, Matches, lifted}
use Rattle.cas_refine.proofs.Stacks.{lt_or_not, below_set, IsSlot, own_slot, slot_within, slot_above}
use Rattle.cas_refine.proofs.Landing.{Taken, Result, finish, room_after}

by_callee : (to : ℕ) → (called_by to ≡ ToLock → to ≡ 0) × (called_by to ≡ ToUnlock → to ≡ 6)
by_callee to = elim (eqb_tells to 0) [
  | inl h ↦ (
    λ e. h.1,
    λ e. let f = ap (λ (b : Bool). if b then ToLock else if nat_eq to 6 then ToUnlock else Other)
        h.0 in absurd (cc (e, f)),
  )
  | inr h ↦ elim (eqb_tells to 6) [
    | inl g ↦ (
      λ e. let f = ap (λ (b : Bool). if b then ToLock else if nat_eq to 6 then ToUnlock else Other) h.0
          ∙ ap (λ (b : Bool). if b then ToUnlock else Other) g.0 in absurd (cc (e, f)),
      λ e. g.1,
    )
    | inr g ↦
        let f = ap (λ (b : Bool). if b then ToLock else if nat_eq to 6 then ToUnlock else Other) h.0
        ∙ ap (λ (b : Bool). if b then ToUnlock else Other) g.0 in
        (λ e. absurd (cc (e, f)), λ e. absurd (cc (e, f)))
  ]
]

-- the instruction is a call of what is at this place
record IsCallOf (o : Option (Instr ℕ)) (to : ℕ) : Type 0 where
  callee : Callee ℕ
  is : o ≡ Some (Call callee)
  place : callee_place in_image callee ≡ to

callee_lock : (o : Option (Instr ℕ)) → called_of o ≡ ToLock → IsCallOf o 0
callee_lock (Some (Call to)) e = record { callee = to; is = refl; place = (by_callee (callee_place in_image to)).0 e }
callee_lock _ e = absurd (cc e)

callee_unlock : (o : Option (Instr ℕ)) → called_of o ≡ ToUnlock → IsCallOf o 6
callee_unlock (Some (Call to)) e = record { callee = to; is = refl; place = (by_callee (callee_place in_image to)).1 e }
callee_unlock _ e = absurd (cc e)

-- a call that isn't Bad puts its return word on the own stack
pushed : (m : Image) (low : Bool) (w : Spot) (v : ℕ) → cond low ask.Stack (ask_stored m w v) ≡ ask.Plain → (k : ℕ)
    × (w ≡ Own k)
pushed m true w v e = absurd (cc e)
pushed m false (Own k) v e = (k, refl)
pushed m false (Shared k) v e = by (slice_index_or m.constant k false) e
  where
    by : (b : Bool) → cond b (ask.Bad ConstWrite) (ask.Store k v) ≡ ask.Plain → (j : ℕ) × (Shared k ≡ Own j)
    by true e = absurd (cc e)
    by false e = absurd (cc e)
pushed m false Nowhere v e = absurd (cc e)

module _ (p : Linked) (obj : HasObject p.image) (s : World) (ats : ℕ → Point Program) (h : Matches p.image s ats)
    (i : ℕ) (live : (s.threads i).ended ≡ Running) where
  abbrev r : Core
  r = s.threads i

  abbrev c : State
  c = r.cpu

  abbrev m : Image
  m = p.image

  -- a call of the lock object, at place 0 or 6
  record IsCall (to : ℕ) (l : ℕ) : Type 0 where
    regs : Regs
    stack : List ℕ
    is : stepped m c 0 ≡ cpu regs c.core.flags to stack c.bottom
    inside : InObject m regs stack c.bottom l (behind c)

  calls_at : (to : Callee ℕ) (l : ℕ) → slice_get m.code c.core.place ≡ Some (Call to) → ask_of m c None ≡ ask.Plain →
      spot_of m c (address c.core.regs at_eax) ≡ Shared l → slice_index_or m.constant l false ≡ false →
      IsCall (callee_place in_image to) l
  calls_at to l code plain spot changing =
      let at : ℕ = word_sub c.core.regs.esp 4 in
      let v : ℕ = c.core.place + 1 in
      let push = pushed m (nat_lt at c.bottom) (spot_of m c at) v (sym (ap (ask_instr m c None) code) ∙ plain) in
      let k : ℕ = push.0 in
      let slot : IsSlot c.bottom (length c.stack) at k =
      own_slot (length m.words) c.bottom (length c.stack) at k push.1 in
      let less : k < length c.stack = slot_within c.bottom (length c.stack) at k slot in
      let stack : List ℕ = slice_set c.stack k v in
      let regs : Regs = record c.core.regs { esp = at } in
      let same : length stack ≡ length c.stack = length-set c.stack k v in
      let word : slice_index stack k ≡ v = get_or-set_same c.stack k v 0 less in
      let short = obj.short in
      let here : c.core.place < length m.code = slice_get_within m.code c.core.place (Call to) code in
      record {
        regs = regs;
        stack = stack;
        is = ap (stepped_by m c 0) code
            ∙ ap (λ (a : Spot). cpu regs c.core.flags (callee_place in_image to) (stack_set c.stack a v) c.bottom)
            push.1;
        inside = record {
          lock_is = λ f place. ap (λ (n : ℕ). spot_at (length m.words) c.bottom n (address c.core.regs at_eax)) same
              ∙ spot;
          slot = k;
          slot_is = λ f place. ap (λ (n : ℕ). spot_at (length m.words) c.bottom n at) same ∙ push.1;
          not_end = elim (eqb_tells (slice_index stack k) 4294967295)
              [ inl q ↦ let z = q.1 in absurd (omega arith) | inr q ↦ q.0 ];
          changing = changing;
          in_stack =
              elim (lt_or_not at c.bottom) [
                | inl q ↦ let z = q.1 in let y = slot.low in
                    absurd (omega arith)
                | inr q ↦ q.0
              ];
          above = slot_above c.bottom (length c.stack) at k (h.rooms i).room slot;
          back = λ f.
              ap (λ (n : ℕ). Some (cpu (record c.core.regs { esp = word_add at 4 }) f v
              (with_below c.stack (suc n) (λ j. slice_index stack j)) c.bottom)) slot.is
              ∙ ap (λ (xs : List ℕ). Some (cpu (record c.core.regs { esp = word_add at 4 }) f v xs c.bottom))
              (below_set c.stack k v less)
              ∙ ap (λ (n : ℕ). Some (cpu (record c.core.regs { esp = word_add at 4 }) f n stack c.bottom)) (sym word);
        };
      }

  calls : (to l : ℕ) → IsCallOf (slice_get m.code c.core.place) to → ask_of m c None ≡ ask.Plain →
      spot_of m c (address c.core.regs at_eax) ≡ Shared l → slice_index_or m.constant l false ≡ false → IsCall to l
  calls to l code plain spot changing =
      subst (λ (n : ℕ). IsCall n l) code.place (calls_at code.callee l code.is plain spot changing)

  module _ (here : ats i ≡ Outside (Some c)) (past : nat_lt c.core.place 8 ≡ false) (beyond : 8 ≤ c.core.place)
      (t : World) (o : Option RunLabel) where
    count_more : counted c r.executed ≡ suc r.executed
    count_more = ap (λ (b : Bool). if b then r.executed else suc r.executed) past

    event_is : (w : Called) → called_of (slice_get m.code c.core.place) ≡ w → event_at m c ≡ event_for m c w
    event_is w e =
        ap (λ (b : Bool). if b then Wrong else event_for m c (called_of (slice_get m.code c.core.place))) past
        ∙ ap (event_for m c) e

    -- the processor goes on outside
    onward : (mem : ℕ → ℕ) (out : List (ℕ × ℕ)) (d : State) (b : List Store) (y : Option RunLabel) → HasRoom d →
        t ≡ world mem out (put i (core d b r.ended (counted c r.executed)) s.threads) → o ≡ y
        → Taken p s ats h i 0
        (tso.state_with mem out (put i (tso.thread (Outside (Some d)) b r.ended (suc r.executed))
        (λ j. lifted (ats j) (s.threads j)))) y → Result p s ats h i 0 t o
    onward mem out d b y room z q step =
        finish p s ats h i 0 mem out (Outside (Some d)) (core d b r.ended (suc r.executed))
        (tso.thread (Outside (Some d)) b r.ended (suc r.executed)) t o y
        (z ∙ ap (λ (n : ℕ). world mem out (put i (core d b r.ended n) s.threads)) count_more) q refl step refl room

    unlisted_dec : (v : ℕ) (l : RunLabel) → lock_listed c.core.place v l ≡ None
    unlisted_dec v l = elim (eqb_tells c.core.place 0)
        [ inl e ↦ let z = e.1 in absurd (omega arith) | inr e ↦ ap (λ (b : Bool). if b then if_zero v l else None) e.0 ]

    unlisted_store : (l : RunLabel) → unlock_listed c.core.place l ≡ None
    unlisted_store l = elim (eqb_tells c.core.place 6)
        [ inl e ↦ let z = e.1 in absurd (omega arith) | inr e ↦ ap (λ (b : Bool). if b then Some l else None) e.0 ]

    goes_by : (a : Ask) → ask_of m c None ≡ a → event_at m c ≡ event_by m c a → Takes (moment p s i) r a t o →
        Result p s ats h i 0 t o
    goes_by ask.Plain q ev x = onward s.memory s.output (stepped m c 0) r.buffer None (room_after m c 0 (h.rooms i))
        x.0 x.1 (tso.plain (Some c) (Some (stepped m c 0)) here ev, live, refl)
    goes_by (ask.Load k) q ev x =
        let v : ℕ = view r.buffer s.memory k in
        onward s.memory s.output (stepped m c v) r.buffer None (room_after m c v (h.rooms i)) x.1 x.2 (
          tso.load (Some c) k (λ v. after_load m c v (ask_of m c (Some v))) (Some (stepped m c v)) here ev
              (ap (after_load m c v) x.0),
          live,
          refl,
        )
    goes_by (ask.Store k v) q ev x = onward s.memory s.output (stepped m c 0) (r.buffer ++ store k v ∷ []) None
        (room_after m c 0 (h.rooms i)) x.0
        (x.1 ∙ unlisted_store (Unlock k (values (view r.buffer s.memory) (under p.edge.cells 0 k))))
        (tso.put_off (Some c) k v (Some (stepped m c 0)) here ev, live, refl)
    goes_by (ask.LockedDec k) q ev x = onward (put k (one_less (s.memory k)) s.memory) s.output
        (stepped m c (s.memory k)) r.buffer None (room_after m c (s.memory k) (h.rooms i)) x.1
        (x.2 ∙ unlisted_dec (one_less (s.memory k)) (Lock k (values s.memory (under p.edge.cells 0 k))))
        (tso.decrement (Some c) k (λ v. Some (stepped m c v)) here ev x.0, live, refl)
    goes_by (ask.Out v) q ev x = onward s.memory ((i, v) ∷ s.output) (stepped m c 0) r.buffer (Some (Out v))
        (room_after m c 0 (h.rooms i)) x.0 x.1 (tso.prints (Some c) v (Some (stepped m c 0)) here ev, live, refl)
    goes_by ask.Finish q ev x =
        let d = stepped m c 0 in
        finish p s ats h i 0 s.memory s.output (Outside None) (core d r.buffer IsDone (suc r.executed))
        (tso.thread (Outside None) r.buffer IsDone (suc r.executed)) t o (Some Done)
        (x.0 ∙ ap (λ (n : ℕ). world s.memory s.output (put i (core d r.buffer IsDone n) s.threads)) count_more) x.1 refl
        (tso.done (Some c) None here ev, live, refl) refl (room_after m c 0 (h.rooms i))
    goes_by ask.Stack q ev x = absurd x
    goes_by (ask.Bad why) q ev x = absurd x

    wrong_now : event_at m c ≡ Wrong → Result p s ats h i 0 t o
    wrong_now ev = inr (record { at = Some c; outside = here; wrong = ev })

    -- into the lock object
    enters : (to l : ℕ) → to < 8 → IsCall to l → t ≡ world s.memory s.output (put i (goes r (stepped m c 0)) s.threads)
        → o ≡ None
        → Taken p s ats h i 0 (tso.state_with s.memory s.output
        (put i (tso.thread (Inside to ((setup p).flags (Some c)) l (behind c)) r.buffer r.ended (suc r.executed))
        (λ j. lifted (ats j) (s.threads j)))) None → Result p s ats h i 0 t o
    enters to l low k z q step =
        let flags = (setup p).flags (Some c) in
        finish p s ats h i 0 s.memory s.output (Inside to flags l (behind c))
        (core (cpu k.regs c.core.flags to k.stack c.bottom) r.buffer r.ended (suc r.executed))
        (tso.thread (Inside to flags l (behind c)) r.buffer r.ended (suc r.executed)) t o None
        (z ∙ ap (λ (d : State). world s.memory s.output
        (put i (core d r.buffer r.ended (counted c r.executed)) s.threads)) k.is
        ∙ ap (λ (n : ℕ). world s.memory s.output
        (put i (core (cpu k.regs c.core.flags to k.stack c.bottom) r.buffer r.ended n) s.threads)) count_more)
        q refl step
        (record {
          place_is = refl;
          within = low;
          flags_are = ap (λ (d : State). unfixed d.core.flags d.stack)
              k.is;
          object = k.inside;
        })
        (subst (λ (d : State). HasRoom d) k.is (room_after m c 0 (h.rooms i)))

    locks_now : IsCallOf (slice_get m.code c.core.place) 0 → (a : Ask) → ask_of m c None ≡ a →
        event_at m c ≡ locks_by m c a → Takes (moment p s i) r a t o → Result p s ats h i 0 t o
    locks_now code ask.Plain q ev x = by (spot_of m c (address c.core.regs at_eax)) refl ev
      where
        into : (l : ℕ) → spot_of m c (address c.core.regs at_eax) ≡ Shared l → (b : Bool) →
            slice_index_or m.constant l false ≡ b → event_at m c ≡ if_changing b (CallLock l (behind c)) →
            Result p s ats h i 0 t o
        into l e true g ev = wrong_now ev
        into l e false g ev = enters 0 l (omega arith) (calls 0 l code q e g) x.0 x.1
            (tso.call_lock (Some c) l (behind c) here ev, live, refl)

        by : (w : Spot) → spot_of m c (address c.core.regs at_eax) ≡ w → event_at m c ≡ locks_at m c w →
            Result p s ats h i 0 t o
        by (Shared l) e ev = into l e (slice_index_or m.constant l false) refl ev
        by (Own k) e ev = wrong_now ev
        by Nowhere e ev = wrong_now ev
    locks_now code ask.Stack q ev x = absurd x
    locks_now code (ask.Bad why) q ev x = absurd x
    locks_now code (ask.Load k) q ev x = wrong_now ev
    locks_now code (ask.Store k v) q ev x = wrong_now ev
    locks_now code (ask.LockedDec k) q ev x = wrong_now ev
    locks_now code (ask.Out v) q ev x = wrong_now ev
    locks_now code ask.Finish q ev x = wrong_now ev

    unlocks_now : IsCallOf (slice_get m.code c.core.place) 6 → (a : Ask) → ask_of m c None ≡ a →
        event_at m c ≡ unlocks_by m c a → Takes (moment p s i) r a t o → Result p s ats h i 0 t o
    unlocks_now code ask.Plain q ev x = by (spot_of m c (address c.core.regs at_eax)) refl ev
      where
        into : (l : ℕ) → spot_of m c (address c.core.regs at_eax) ≡ Shared l → (b : Bool) →
            slice_index_or m.constant l false ≡ b → event_at m c ≡ if_changing b (CallUnlock l (behind c)) →
            Result p s ats h i 0 t o
        into l e true g ev = wrong_now ev
        into l e false g ev = enters 6 l (omega arith) (calls 6 l code q e g) x.0 x.1
            (tso.call_unlock (Some c) l (behind c) here ev, live, refl)

        by : (w : Spot) → spot_of m c (address c.core.regs at_eax) ≡ w → event_at m c ≡ unlocks_at m c w →
            Result p s ats h i 0 t o
        by (Shared l) e ev = into l e (slice_index_or m.constant l false) refl ev
        by (Own k) e ev = wrong_now ev
        by Nowhere e ev = wrong_now ev
    unlocks_now code ask.Stack q ev x = absurd x
    unlocks_now code (ask.Bad why) q ev x = absurd x
    unlocks_now code (ask.Load k) q ev x = wrong_now ev
    unlocks_now code (ask.Store k v) q ev x = wrong_now ev
    unlocks_now code (ask.LockedDec k) q ev x = wrong_now ev
    unlocks_now code (ask.Out v) q ev x = wrong_now ev
    unlocks_now code ask.Finish q ev x = wrong_now ev

    by_its_callee : (w : Called) → called_of (slice_get m.code c.core.place) ≡ w →
        Takes (moment p s i) r (ask_of m c None) t o → Result p s ats h i 0 t o
    by_its_callee ToLock e x = locks_now (callee_lock (slice_get m.code c.core.place) e) (ask_of m c None) refl
        (event_is ToLock e) x
    by_its_callee ToUnlock e x = unlocks_now (callee_unlock (slice_get m.code c.core.place) e) (ask_of m c None) refl
        (event_is ToUnlock e) x
    by_its_callee Other e x = goes_by (ask_of m c None) refl (event_is Other e) x

  pub outside : ats i ≡ Outside (Some c) → (t : World) (o : Option RunLabel) →
      Takes (moment p s i) r (ask_of m c None) t o → Result p s ats h i (in_object c) t o
  outside here t o x = elim (lt_or_not c.core.place 8) [
    | inl q ↦ inr
        (record {
          at = Some c;
          outside = here;
          wrong = ap
              (λ (b : Bool). if b then Wrong else event_for m c (called_of (slice_get m.code c.core.place))) q.0;
        })
    | inr q ↦ subst (λ (b : Bool). Result p s ats h i (if b then 1 else 0) t o) (sym q.0)
        (by_its_callee here q.0 q.1 t o (called_of (slice_get m.code c.core.place)) refl x)
  ]

  -- the event at this place, by what the processor asks for
  event_asked : (a : Ask) → ask_of m c None ≡ a → (a ≡ ask.Plain → ⊥) → (event_at m c ≡ Wrong)
      ⊎ (event_at m c ≡ event_by m c a)
  event_asked a q other = elim (lt_or_not c.core.place 8) [
    | inl g ↦ inl (ap (λ (b : Bool). if b then Wrong else event_for m c (called_of (slice_get m.code c.core.place)))
        g.0)
    | inr g ↦ by (called_of (slice_get m.code c.core.place))
        (ap (λ (b : Bool). if b then Wrong else event_for m c (called_of (slice_get m.code c.core.place))) g.0)
  ]
    where
      locking : (a : Ask) → (a ≡ ask.Plain → ⊥) → event_at m c ≡ locks_by m c a → (event_at m c ≡ Wrong)
          ⊎ (event_at m c ≡ event_by m c a)
      locking ask.Plain d ev = absurd (d refl)
      locking ask.Stack d ev = inr ev
      locking (ask.Bad why) d ev = inl ev
      locking (ask.Load k) d ev = inl ev
      locking (ask.Store k v) d ev = inl ev
      locking (ask.LockedDec k) d ev = inl ev
      locking (ask.Out v) d ev = inl ev
      locking ask.Finish d ev = inl ev

      unlocking : (a : Ask) → (a ≡ ask.Plain → ⊥) → event_at m c ≡ unlocks_by m c a → (event_at m c ≡ Wrong)
          ⊎ (event_at m c ≡ event_by m c a)
      unlocking ask.Plain d ev = absurd (d refl)
      unlocking ask.Stack d ev = inr ev
      unlocking (ask.Bad why) d ev = inl ev
      unlocking (ask.Load k) d ev = inl ev
      unlocking (ask.Store k v) d ev = inl ev
      unlocking (ask.LockedDec k) d ev = inl ev
      unlocking (ask.Out v) d ev = inl ev
      unlocking ask.Finish d ev = inl ev

      by : (w : Called) → event_at m c ≡ event_for m c w → (event_at m c ≡ Wrong) ⊎ (event_at m c ≡ event_by m c a)
      by ToLock ev = locking a other (ev ∙ ap (locks_by m c) q)
      by ToUnlock ev = unlocking a other (ev ∙ ap (unlocks_by m c) q)
      by Other ev = inr (ev ∙ ap (event_by m c) q)

  module _ (here : ats i ≡ Outside (Some c)) where
    ends_with : (why : End) → tso.MayEnd (setup p) s.memory (lifted (ats i) r) why →
        Result p s ats h i 0 (world s.memory s.output (put i (core c r.buffer why r.executed) s.threads)) None
    ends_with why e =
        finish p s ats h i 0 s.memory s.output (Outside (Some c)) (core c r.buffer why r.executed)
        (tso.thread (ats i) r.buffer why r.executed) _ None None refl refl
        (ap (λ (v : Point Program). tso.thread v r.buffer why r.executed) here) (tso.stops why e, live, refl) refl (h.rooms i)

    ends_wrong : event_at m c ≡ Wrong → (t : World) (o : Option RunLabel) → Result p s ats h i 0 t o
    ends_wrong ev t o = inr (record { at = Some c; outside = here; wrong = ev })

    -- an end by an operand that isn't loaded, or by one that is
    ends_by : (why : End) (IsSuch : Ask → Type 0) (event : Event Program) (after : After Program) →
        ((a : Ask) → IsSuch a → (a ≡ ask.Plain → ⊥) × (event_by m c a ≡ event) × ((v : ℕ) → after_load m c v a ≡ after))
        → (tso.WouldBe (setup p) s.memory (lifted (ats i) r) event after →
        tso.MayEnd (setup p) s.memory (lifted (ats i) r) why) → WouldAsk m s.memory r IsSuch
        → Result p s ats h i 0 (world s.memory s.output (put i (core c r.buffer why r.executed) s.threads)) None
    ends_by why IsSuch event after is may (outright a q such) = elim (event_asked a q (is a such).0) [
      | inl ev ↦ ends_wrong ev _ None
      | inr ev ↦ ends_with why (may (tso.outright (Some c) here (ev ∙ (is a such).1)))
    ]
    ends_by why IsSuch event after is may (by_load k a q g such) =
        elim (event_asked (ask.Load k) q (λ e. absurd (cc e))) [
          | inl ev ↦ ends_wrong ev _ None
          | inr ev ↦ ends_with why
              (may (tso.by_load (Some c) k (λ v. after_load m c v (ask_of m c (Some v))) here ev
              (ap (after_load m c (view r.buffer s.memory k)) g ∙ (is a such).2 (view r.buffer s.memory k))))
        ]

    stack_is : (a : Ask) → IsStack a → (a ≡ ask.Plain → ⊥) × (event_by m c a ≡ NoRoom)
        × ((v : ℕ) → after_load m c v a ≡ Halts)
    stack_is ask.Stack h = (λ e. absurd (cc e), refl, λ v. refl)
    stack_is ask.Plain h = absurd h
    stack_is (ask.Load k) h = absurd h
    stack_is (ask.Store k v) h = absurd h
    stack_is (ask.LockedDec k) h = absurd h
    stack_is (ask.Out v) h = absurd h
    stack_is ask.Finish h = absurd h
    stack_is (ask.Bad why) h = absurd h

    bad_is : (a : Ask) → IsBad a → (a ≡ ask.Plain → ⊥) × (event_by m c a ≡ Wrong)
        × ((v : ℕ) → after_load m c v a ≡ Fails)
    bad_is (ask.Bad why) h = (λ e. absurd (cc e), refl, λ v. refl)
    bad_is ask.Plain h = absurd h
    bad_is (ask.Load k) h = absurd h
    bad_is (ask.Store k v) h = absurd h
    bad_is (ask.LockedDec k) h = absurd h
    bad_is (ask.Out v) h = absurd h
    bad_is ask.Finish h = absurd h
    bad_is ask.Stack h = absurd h

    outs_end : (a : Ask) → ask_of m c None ≡ a → IsOut a →
        Result p s ats h i 0 (world s.memory s.output (put i (core c r.buffer OutOfOuts r.executed) s.threads)) None
    outs_end (ask.Out v) q such = elim (event_asked (ask.Out v) q (λ e. absurd (cc e))) [
      | inl ev ↦ ends_wrong ev _ None
      | inr ev ↦ ends_with OutOfOuts (Some c, v, Some (stepped m c 0), here, ev)
    ]
    outs_end ask.Plain q such = absurd such
    outs_end (ask.Load k) q such = absurd such
    outs_end (ask.Store k v) q such = absurd such
    outs_end (ask.LockedDec k) q such = absurd such
    outs_end ask.Finish q such = absurd such
    outs_end ask.Stack q such = absurd such
    outs_end (ask.Bad why) q such = absurd such

    pub ends : (why : End) → MayEnd p s r why → Result p s ats h i 0
        (world s.memory s.output (put i (core c r.buffer why r.executed) s.threads)) None
    ends Running e = absurd e
    ends IsDone e = absurd e
    ends OutOfFuel e = ends_with OutOfFuel tt
    ends IsFull e = ends_by IsFull IsStack NoRoom Halts stack_is (λ z. z) e
    ends HasFailed e = ends_by HasFailed IsBad Wrong Fails bad_is (λ z. z) e
    ends OutOfOuts e = outs_end e.0 e.1 e.2
