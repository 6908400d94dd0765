-- Each run of the x86-TSO machine is one of processors as tables, with the same labels.
use Rattle.std.proofs.Common.{◌≡◌, ℕ, zero, suc, ◌+◌, ◌<◌, ◌≤◌, nat_eq, nat_lt, Bool, true, false, List, [], ◌∷◌, ◌++◌, length, reverse, Option, Some, None, slice_get, if◌then◌else◌, sym, refl, ap, ◌∙◌, subst, inl, inr, arith, get_or-set_same}
use Rattle.std.specs.Prelude.{map, slice_set}
use Rattle.std.specs.Option.{option_or}
use Rattle.std.proofs.lemmas.List.{reverse-append, get_or-set_other, map-append}
use Rattle.std.proofs.lemmas.Option.{slice_get_within, get_or_from_slice_get}
use Rattle.cas_asm.specs.declared.ask.Ask.{Ask}
use Rattle.cas_asm.specs.declared.ask.Ask.TheVariants as ask
use Rattle.cas_asm.specs.Ask.{ask_of, stepped}
use Rattle.cas_asm.specs.State.{State as Cpu}
use Rattle.cas_tso.specs.State.{Setup, State, Thread, newest}
use Rattle.cas_tso.specs.Step as step
use Rattle.cas_tso.specs.Step.{Act, Read, Step, Takes, Agrees, after, memory_after, output_after, asks, IsPlain, IsRunning, Stops, stop_of, end_after, executed, after_plain, after_forward, after_load, after_store, after_drain, after_decrement, after_out, after_stop}
use Rattle.cas_tso.specs.Asking.{IsSettled}
use Rattle.cas_tso.specs.declared.end.End.{End}
use Rattle.cas_tso.specs.declared.end.End.TheVariants as end
use Rattle.cas_tso.specs.declared.pending.Pending.{Pending}
use Rattle.cas_tso.proofs.Asking.{asks_follow}
use Rattle.cas_atomic.specs.Buffer as buffer
use Rattle.cas_atomic.specs.Buffer.{Store, store, view, seen, or_else, put}
use Rattle.cas_runs.specs.Label.{RunLabel, Done, Out, Lock}
use Rattle.cas_atomic.specs.Buffered as buffered
use Rattle.cas_atomic.specs.Leftover.{one_less}
use Rattle.cas_atomic.proofs.Basic.{same_or_not, put_here, put_else}
use Rattle.cas_refine.specs.Machine as table
use Rattle.cas_refine.specs.Machine.{in_object, Core, core, World, world, Linked, moment, counted, goes, lock_listed, unlock_listed, outright, by_load}
use Rattle.cas_runs.specs.Edge.{Edge}
use Rattle.cas_refine.specs.Listing.{IsLinked, HasRoom, linked, word_of, store_of, end_of, core_of, core_in, tables, outside_after, outside_of, inside_at, done_by, label_of, labels_of, IsBadBefore, IsSoundLock}
use Rattle.cas_refine.proofs.Returning.{load_no_finish}

-- Lists as tables.

get_set_same : {A : Type 0} (xs : List A) (i : ℕ) (y : A) → i < length xs → slice_get (slice_set xs i y) i ≡ Some y
get_set_same [] i y less = absurd (omega arith)
get_set_same (x ∷ xs) zero y less = refl
get_set_same (x ∷ xs) (suc i) y less = get_set_same xs i y (omega arith)

get_set_else : {A : Type 0} (xs : List A) (i j : ℕ) (y : A) → (j ≡ i → ⊥) →
    slice_get (slice_set xs i y) j ≡ slice_get xs j
get_set_else [] i j y d = refl
get_set_else (x ∷ xs) zero zero y d = absurd (d refl)
get_set_else (x ∷ xs) zero (suc j) y d = refl
get_set_else (x ∷ xs) (suc i) zero y d = refl
get_set_else (x ∷ xs) (suc i) (suc j) y d = get_set_else xs i j y (λ e. d (ap suc e))

word_set : (m : List ℕ) (w v : ℕ) → w < length m → (j : ℕ) → word_of (slice_set m w v) j ≡ put w v (word_of m) j
word_set m w v less j = elim (same_or_not j w) [
  | inl e ↦ ap (word_of (slice_set m w v)) e ∙ get_or-set_same m w v 0 less ∙ sym (put_here w v (word_of m) j e)
  | inr d ↦ get_or-set_other m w j v 0 d ∙ sym (put_else w v (word_of m) j d)
]

memory_set : (m : List ℕ) (w v : ℕ) → w < length m → word_of (slice_set m w v) ≡ put w v (word_of m)
memory_set m w v less = λ x j. word_set m w v less j x

-- Buffers.

or_alike : (a b : Option ℕ) → option_or a b ≡ or_else a b
or_alike (Some v) b = refl
or_alike None b = refl

newest_alike : (b : List Pending) (at : ℕ) → newest b at ≡ buffer.newest (map store_of b) at
newest_alike [] at = refl
newest_alike (x ∷ xs) at =
    let last = if nat_eq x.at at then Some x.value else None in
    or_alike (newest xs at) last ∙ ap (λ (o : Option ℕ). or_else o last) (newest_alike xs at)

fuel_runs : (b : Bool) → end_of (if b then Some end.Fuel else None) ≡ buffered.Running
fuel_runs true = refl
fuel_runs false = refl

module _ (edge : Edge) (p : Setup) where
  abbrev P : Linked
  P = linked edge p

  -- One thread changes.

  thread_set : (ts : List Thread) (n : ℕ → ℕ) (i : ℕ) (d : Thread) (k : ℕ) → i < length ts → (j : ℕ) →
      core_in p j (put i k n j) (slice_get (slice_set ts i d) j)
      ≡ put i (core_of d k) (λ l. core_in p l (n l) (slice_get ts l)) j
  thread_set ts n i d k less j = elim (same_or_not j i) [
    | inl e ↦
        ap (core_in p j (put i k n j)) (ap (slice_get (slice_set ts i d)) e ∙ get_set_same ts i d less)
        ∙ ap (core_of d) (put_here i k n j e)
        ∙ sym (put_here i (core_of d k) (λ l. core_in p l (n l) (slice_get ts l)) j e)
    | inr a ↦
        ap (core_in p j (put i k n j)) (get_set_else ts i j d a)
        ∙ ap (λ (v : ℕ). core_in p j v (slice_get ts j)) (put_else i k n j a)
        ∙ sym (put_else i (core_of d k) (λ l. core_in p l (n l) (slice_get ts l)) j a)
  ]

  -- a step of processors, with so many instructions of the lock object
  abbrev pub Does : World → (thread inside : ℕ) → World → Option RunLabel → Type 0
  Does w i m t o = (step : table.Step P w i t o) × (table.one_inside step ≡ m)

  module _ (s : State) (n : ℕ → ℕ) (i : ℕ) (c : Thread) (there : slice_get s.threads i ≡ Some c) where
    abbrev S : World
    S = tables p s n

    abbrev r : Core
    r = core_of c (n i)

    here : S.threads i ≡ r
    here = ap (core_in p i (n i)) there

    less : i < length s.threads
    less = slice_get_within s.threads i c there

    -- the state after an act, as a table with one entry changed
    lands : (a : Act) (d : Thread) (k : ℕ) (m : ℕ → ℕ) (o : List (ℕ × ℕ)) (e : Core) →
        word_of (memory_after a s.memory) ≡ m → reverse (output_after i a s.output) ≡ o → core_of d k ≡ e →
        tables p (after i a d s) (put i k n) ≡ world m o (put i e S.threads)
    lands a d k m o e hm ho he =
        (λ x. world (hm x) (ho x) (λ j. thread_set s.threads n i d k less j x))
        ∙ ap (λ (z : Core). world m o (put i z S.threads)) he

    -- after an instruction
    abbrev Goal : (t : State) → (k : ℕ) → Option RunLabel → Type 0
    Goal t k o = Does S i (in_object c.cpu) (tables p t (put i k n)) o

    -- after a drain, or the end of the thread
    abbrev Rests : State → Type 0
    Rests t = Does S i 0 (tables p t (put i (n i) n)) None

    takes : (t : World) (o : Option RunLabel) → end_of c.ended ≡ buffered.Running →
        table.Takes (moment P S i) r (ask_of p.image c.cpu None) t o → Does S i (in_object c.cpu) t o
    takes t o live x = (
      table.takes t o (ap (λ (z : Core). z.ended) here ∙ live)
          (subst (λ (z : Core). table.Takes (moment P S i) z (ask_of p.image z.cpu None) t o) (sym here) x),
      ap (λ (z : Core). in_object z.cpu) here,
    )

    runs : IsRunning c → end_of c.ended ≡ buffered.Running
    runs live = ap end_of live

    -- the thread after an instruction that doesn't finish it, as a core
    abbrev stays_at : Cpu → List Pending → Core
    stays_at cpu b = core cpu (map store_of b) (end_of c.ended) (counted c.cpu (n i))

    unfinished : (live : IsRunning c) (a : Ask) (m : ℕ) → (a ≡ ask.Finish → ⊥) →
        end_of (end_after p.options a m) ≡ end_of c.ended
    unfinished live ask.Finish m h = absurd (h refl)
    unfinished live ask.Plain m h = fuel_runs (nat_eq m p.options.fuel) ∙ sym (runs live)
    unfinished live (ask.Load k) m h = fuel_runs (nat_eq m p.options.fuel) ∙ sym (runs live)
    unfinished live (ask.Store k v) m h = fuel_runs (nat_eq m p.options.fuel) ∙ sym (runs live)
    unfinished live (ask.LockedDec k) m h = fuel_runs (nat_eq m p.options.fuel) ∙ sym (runs live)
    unfinished live (ask.Out v) m h = fuel_runs (nat_eq m p.options.fuel) ∙ sym (runs live)
    unfinished live ask.Stack m h = fuel_runs (nat_eq m p.options.fuel) ∙ sym (runs live)
    unfinished live (ask.Bad why) m h = fuel_runs (nat_eq m p.options.fuel) ∙ sym (runs live)

    abbrev k : ℕ
    k = counted c.cpu (n i)

    plain_step : IsRunning c → (a : Ask) → asks p c None ≡ a → IsPlain a →
        Goal (after i step.plain (after_plain p c) s) k (done_by a)
    plain_step live ask.Plain e x =
        takes _ None (runs live)
        (subst (λ (a : Ask). table.Takes (moment P S i) r a
        (tables p (after i step.plain (after_plain p c) s) (put i k n)) None) (sym e) (
          lands step.plain (after_plain p c) k (word_of s.memory) (reverse s.output)
              (stays_at (stepped p.image c.cpu 0) c.buffer) refl refl
              (ap (λ (z : buffered.End). core (stepped p.image c.cpu 0) (map store_of c.buffer) z k)
              (ap (λ (a : Ask). end_of (end_after p.options a (c.counts.executed + 1))) e
              ∙ unfinished live ask.Plain (c.counts.executed + 1) (λ q. absurd (cc q)))),
          refl,
        ))
    plain_step live ask.Finish e x =
        takes _ (Some Done) (runs live)
        (subst (λ (a : Ask). table.Takes (moment P S i) r a
        (tables p (after i step.plain (after_plain p c) s) (put i k n)) (Some Done)) (sym e) (
          lands step.plain (after_plain p c) k (word_of s.memory) (reverse s.output)
              (core (stepped p.image c.cpu 0) (map store_of c.buffer) buffered.IsDone k) refl refl
              (ap (λ (a : Ask). core (stepped p.image c.cpu 0) (map store_of c.buffer)
              (end_of (end_after p.options a (c.counts.executed + 1))) k) e),
          refl,
        ))
    plain_step live (ask.Load j) e x = absurd x
    plain_step live (ask.Store j v) e x = absurd x
    plain_step live (ask.LockedDec j) e x = absurd x
    plain_step live (ask.Out v) e x = absurd x
    plain_step live ask.Stack e x = absurd x
    plain_step live (ask.Bad why) e x = absurd x

    -- a load that found this word
    load_step : IsRunning c → (a : Act) (d : Thread) (at word : ℕ) → asks p c None ≡ ask.Load at →
        asks p c (Some word) ≡ ask.Plain →
        view (map store_of c.buffer) (word_of s.memory) at ≡ word → memory_after a s.memory ≡ s.memory →
        output_after i a s.output ≡ s.output →
        d.cpu ≡ stepped p.image c.cpu word → d.buffer ≡ c.buffer →
        d.ended ≡ end_after p.options (asks p c (Some word)) (c.counts.executed + 1) →
        Goal (after i a d s) k None
    load_step live a d at word e g found hm ho hc hb he =
        let v : ℕ = view (map store_of c.buffer) (word_of s.memory) at in
        takes _ None (runs live)
        (subst (λ (q : Ask). table.Takes (moment P S i) r q (tables p (after i a d s) (put i k n)) None) (sym e) (
          ap (λ (w : ℕ). ask_of p.image c.cpu (Some w)) found ∙ g,
          lands a d k (word_of s.memory) (reverse s.output) (stays_at (stepped p.image c.cpu v) c.buffer)
              (ap word_of hm)
              (ap reverse ho)
              (ap (λ (z : Cpu). core z (map store_of d.buffer) (end_of d.ended) k)
              (hc ∙ ap (stepped p.image c.cpu) (sym found))
              ∙ ap (λ (z : List Pending). core (stepped p.image c.cpu v) (map store_of z) (end_of d.ended) k) hb
              ∙ ap (λ (z : buffered.End). core (stepped p.image c.cpu v) (map store_of c.buffer) z k)
              (ap end_of he ∙ ap (λ (q : Ask). end_of (end_after p.options q (c.counts.executed + 1))) g
              ∙ unfinished live ask.Plain (c.counts.executed + 1) (λ q. absurd (cc q)))),
          refl,
        ))

    -- what is seen of a word
    forwarded_view : (at word : ℕ) → newest c.buffer at ≡ Some word →
        view (map store_of c.buffer) (word_of s.memory) at ≡ word
    forwarded_view at word e = ap (λ (o : Option ℕ). seen o (word_of s.memory at)) (sym (newest_alike c.buffer at) ∙ e)

    loaded_view : (at word : ℕ) → newest c.buffer at ≡ None → slice_get s.memory at ≡ Some word →
        view (map store_of c.buffer) (word_of s.memory) at ≡ word
    loaded_view at word e g = ap (λ (o : Option ℕ). seen o (word_of s.memory at)) (sym (newest_alike c.buffer at) ∙ e)
        ∙ get_or_from_slice_get s.memory at word 0 g

    -- a settled answer that may be executed and isn't a finish is plain
    is_plain : (a : Ask) → IsPlain a → (a ≡ ask.Finish → ⊥) → a ≡ ask.Plain
    is_plain ask.Plain x h = refl
    is_plain ask.Finish x h = absurd (h refl)
    is_plain (ask.Load j) x h = absurd x
    is_plain (ask.Store j v) x h = absurd x
    is_plain (ask.LockedDec j) x h = absurd x
    is_plain (ask.Out v) x h = absurd x
    is_plain ask.Stack x h = absurd x
    is_plain (ask.Bad why) x h = absurd x

    store_step : IsRunning c → (at value : ℕ) → asks p c None ≡ ask.Store at value →
        Goal (after i (step.stored at value) (after_store p c at value) s) k
        (label_of edge p s (Some c) (step.stored at value))
    store_step live at value e =
        let d = after_store p c at value in
        let x : Pending = record { at = at; value = value; entered = c.counts.executed + 1 } in
        takes _ _ (runs live)
        (subst (λ (q : Ask). table.Takes (moment P S i) r q
        (tables p (after i (step.stored at value) d s) (put i k n)) (label_of edge p s (Some c) (step.stored at value)))
        (sym e) (
          lands (step.stored at value) d k (word_of s.memory) (reverse s.output)
              (core (stepped p.image c.cpu 0) (map store_of c.buffer ++ store at value ∷ []) (end_of c.ended) k)
              refl refl
              (ap (λ (z : List Store). core (stepped p.image c.cpu 0) z (end_of d.ended) k)
              (map-append store_of c.buffer (x ∷ []))
              ∙ ap (λ (z : buffered.End). core (stepped p.image c.cpu 0) (map store_of c.buffer ++ store at value ∷ [])
              z k)
              (ap (λ (q : Ask). end_of (end_after p.options q (c.counts.executed + 1))) e
              ∙ unfinished live (ask.Store at value) (c.counts.executed + 1) (λ q. absurd (cc q)))),
          refl,
        ))

    decrement_step : IsRunning c → (at word : ℕ) → asks p c None ≡ ask.LockedDec at → c.buffer ≡ [] →
        slice_get s.memory at ≡ Some word →
        Goal (after i (step.decremented at word) (after_decrement p c word) s) k
        (label_of edge p s (Some c) (step.decremented at word))
    decrement_step live at word e empty found =
        let d = after_decrement p c word in
        let w : word_of s.memory at ≡ word = get_or_from_slice_get s.memory at word 0 found in
        let label = label_of edge p s (Some c) (step.decremented at word) in
        takes _ _ (runs live)
        (subst (λ (q : Ask). table.Takes (moment P S i) r q
        (tables p (after i (step.decremented at word) d s) (put i k n)) label) (sym e) (
          ap (map store_of) empty,
          lands (step.decremented at word) d k (put at (one_less (word_of s.memory at)) (word_of s.memory))
              (reverse s.output)
              (stays_at (stepped p.image c.cpu (word_of s.memory at)) c.buffer)
              (memory_set s.memory at (one_less word) (slice_get_within s.memory at word found)
              ∙ ap (λ (v : ℕ). put at (one_less v) (word_of s.memory)) (sym w)) refl
              (ap (λ (v : ℕ). core (stepped p.image c.cpu v) (map store_of c.buffer) (end_of d.ended) k) (sym w)
              ∙ ap (λ (z : buffered.End). core (stepped p.image c.cpu (word_of s.memory at)) (map store_of c.buffer)
              z k)
              (ap (λ (q : Ask). end_of (end_after p.options q (c.counts.executed + 1))) e
              ∙ unfinished live (ask.LockedDec at) (c.counts.executed + 1) (λ q. absurd (cc q)))),
          ap (λ (v : ℕ). lock_listed c.cpu.core.place (one_less v)
              (Lock at (Rattle.cas_refine.specs.Listing.memory_under edge s at))) (sym w),
        ))

    out_step : IsRunning c → (ticket word : ℕ) → asks p c None ≡ ask.Out word →
        Goal (after i (step.printed ticket word) (after_out p c) s) k (Some (Out word))
    out_step live ticket word e =
        let d = after_out p c in
        takes _ _ (runs live)
        (subst (λ (q : Ask). table.Takes (moment P S i) r q
        (tables p (after i (step.printed ticket word) d s) (put i k n)) (Some (Out word))) (sym e) (
          lands (step.printed ticket word) d k (word_of s.memory) ((i, word) ∷ reverse s.output)
              (stays_at (stepped p.image c.cpu 0) c.buffer) refl
              (reverse-append s.output ((i, word) ∷ []))
              (ap (λ (z : buffered.End). core (stepped p.image c.cpu 0) (map store_of c.buffer) z k)
              (ap (λ (q : Ask). end_of (end_after p.options q (c.counts.executed + 1))) e
              ∙ unfinished live (ask.Out word) (c.counts.executed + 1) (λ q. absurd (cc q)))),
          refl,
        ))

    drain_step : (at value entered : ℕ) (rest : List Pending) →
        c.buffer ≡ record { at = at; value = value; entered = entered } ∷ rest → at < length s.memory →
        Rests (after i (step.drained at value) (after_drain c rest) s)
    drain_step at value entered rest e within =
        subst (λ (z : World). Does S i 0 z None)
        (sym (lands (step.drained at value) (after_drain c rest) (n i) (put at value (word_of s.memory))
        (reverse s.output)
        (core (S.threads i).cpu (map store_of rest) (S.threads i).ended (S.threads i).executed)
        (memory_set s.memory at value within) refl
        (ap (λ (z : Core). core z.cpu (map store_of rest) z.ended z.executed) (sym here))))
        (table.drains at value (map store_of rest) (ap (λ (z : Core). z.buffer) here ∙ ap (map store_of) e), refl)

    stop_step : IsRunning c → (read : Read) (e : End) → table.MayEnd P S r (end_of (Some e)) →
        Rests (after i (step.stopped read e) (after_stop c e) s)
    stop_step live read e may =
        subst (λ (z : World). Does S i 0 z None)
        (sym (lands (step.stopped read e) (after_stop c e) (n i) (word_of s.memory) (reverse s.output)
        (core (S.threads i).cpu (S.threads i).buffer (end_of (Some e)) (S.threads i).executed) refl refl
        (ap (λ (z : Core). core z.cpu z.buffer (end_of (Some e)) z.executed) (sym here)))) (
          table.stops (end_of (Some e)) (ap (λ (z : Core). z.ended) here ∙ runs live)
              (subst (λ (z : Core). table.MayEnd P S z (end_of (Some e))) (sym here) may),
          refl,
        )

    -- an end at an instruction that loads nothing
    may_end : (e : End) (a : Ask) → asks p c None ≡ a → stop_of p.options c a ≡ Some e →
        table.MayEnd P S r (end_of (Some e))
    may_end e ask.Stack is h = let same : end.Stack ≡ e =
        cc h in subst (λ (z : End). table.MayEnd P S r (end_of (Some z))) same (outright ask.Stack is tt)
    may_end e (ask.Bad why) is h = let same : end.Bad why ≡ e =
        cc h in subst (λ (z : End). table.MayEnd P S r (end_of (Some z))) same (outright (ask.Bad why) is tt)
    may_end e (ask.Out v) is h = by (nat_lt c.counts.outs p.options.outs) h
      where
        by : (b : Bool) → (if b then None else Some end.Outs) ≡ Some e → table.MayEnd P S r (end_of (Some e))
        by true h = absurd (cc h)
        by false h = let same : end.Outs ≡ e = cc h in subst (λ (z : End). table.MayEnd P S r (end_of (Some z))) same
            (ask.Out v, is, tt)
    may_end e ask.Plain is h = absurd (cc h)
    may_end e ask.Finish is h = absurd (cc h)
    may_end e (ask.Load j) is h = absurd (cc h)
    may_end e (ask.Store j v) is h = absurd (cc h)
    may_end e (ask.LockedDec j) is h = absurd (cc h)

    -- an end by the word that is loaded
    may_end_by : (e : End) (at word : ℕ) → asks p c None ≡ ask.Load at →
        view (map store_of c.buffer) (word_of s.memory) at ≡ word →
        (a : Ask) → asks p c (Some word) ≡ a → IsSettled a → stop_of p.options c a ≡ Some e →
        table.MayEnd P S r (end_of (Some e))
    may_end_by e at word load found ask.Stack is q h =
        let same : end.Stack ≡ e = cc h in
        subst (λ (z : End). table.MayEnd P S r (end_of (Some z))) same
        (by_load at ask.Stack load (ap (λ (w : ℕ). ask_of p.image c.cpu (Some w)) found ∙ is) tt)
    may_end_by e at word load found (ask.Bad why) is q h =
        let same : end.Bad why ≡ e = cc h in
        subst (λ (z : End). table.MayEnd P S r (end_of (Some z))) same
        (by_load at (ask.Bad why) load (ap (λ (w : ℕ). ask_of p.image c.cpu (Some w)) found ∙ is) tt)
    may_end_by e at word load found ask.Plain is q h = absurd (cc h)
    may_end_by e at word load found ask.Finish is q h = absurd (cc h)
    may_end_by e at word load found (ask.Load j) is q h = absurd q
    may_end_by e at word load found (ask.Store j v) is q h = absurd q
    may_end_by e at word load found (ask.LockedDec j) is q h = absurd q
    may_end_by e at word load found (ask.Out v) is q h = absurd q

    settles : (at word : ℕ) → asks p c None ≡ ask.Load at → IsSettled (asks p c (Some word))
    settles at word e = subst (λ (a : Ask). Rattle.cas_tso.specs.Asking.Follows a (asks p c (Some word))) e
        (asks_follow p.image c.cpu word)

    -- each act
    module _ (few : length p.image.words ≤ 65536) (high : 268435456 ≤ c.cpu.bottom) where
      loads_plainly : (at word : ℕ) → asks p c None ≡ ask.Load at → IsPlain (asks p c (Some word)) →
          asks p c (Some word) ≡ ask.Plain
      loads_plainly at word e x = is_plain (asks p c (Some word)) x (load_no_finish p.image c.cpu few high at word e)

      pub acts : (a : Act) (d : Thread) → Takes p c a d → Agrees a s.memory s.output →
          Does S i (inside_at (Some c) a) (tables p (after i a d s) (put i (outside_after (Some c) a (n i)) n))
          (label_of edge p s (Some c) a)
      acts step.plain d x y = subst (λ (z : Thread). Goal (after i step.plain z s) k (done_by (asks p c None)))
          (sym x.2)
          (plain_step x.0 (asks p c None) refl x.1)
      acts (step.forwarded at word) d x y = subst (λ (z : Thread). Goal (after i (step.forwarded at word) z s) k None)
          (sym x.4)
          (load_step x.0 (step.forwarded at word) (after_forward p c word) at word x.1 (loads_plainly at word x.1 x.3)
          (forwarded_view at word x.2) refl refl refl refl refl)
      acts (step.loaded at word) d x y = subst (λ (z : Thread). Goal (after i (step.loaded at word) z s) k None)
          (sym x.4)
          (load_step x.0 (step.loaded at word) (after_load p c word) at word x.1 (loads_plainly at word x.1 x.3)
          (loaded_view at word x.2 y) refl refl refl refl refl)
      acts (step.stored at value) d x y =
          subst (λ (z : Thread). Goal (after i (step.stored at value) z s) k
          (label_of edge p s (Some c) (step.stored at value))) (sym x.3)
          (store_step x.0 at value x.1)
      acts (step.drained at value) d x y = subst (λ (z : Thread). Rests (after i (step.drained at value) z s))
          (sym x.3)
          (drain_step at value x.0 x.1 x.2 y)
      acts (step.decremented at word) d x y =
          subst (λ (z : Thread). Goal (after i (step.decremented at word) z s) k
          (label_of edge p s (Some c) (step.decremented at word))) (sym x.3)
          (decrement_step x.0 at word x.1 x.2 y)
      acts (step.printed ticket word) d x y =
          subst (λ (z : Thread). Goal (after i (step.printed ticket word) z s) k (Some (Out word))) (sym x.3)
          (out_step x.0 ticket word x.1)
      acts (step.stopped step.unread e) d x y =
          subst (λ (z : Thread). Rests (after i (step.stopped step.unread e) z s)) (sym x.2)
          (stop_step x.0 step.unread e (may_end e (asks p c None) refl x.1))
      acts (step.stopped (step.from_buffer at word) e) d x y =
          subst (λ (z : Thread). Rests (after i (step.stopped (step.from_buffer at word) e) z s)) (sym x.2)
          (stop_step x.0 (step.from_buffer at word) e (may_end_by e at word x.1.0 (forwarded_view at word x.1.1)
          (asks p c (Some word)) refl (settles at word x.1.0) x.1.2))
      acts (step.stopped (step.from_memory at word) e) d x y =
          subst (λ (z : Thread). Rests (after i (step.stopped (step.from_memory at word) e) z s)) (sym x.2)
          (stop_step x.0 (step.from_memory at word) e (may_end_by e at word x.1.0 (loaded_view at word x.1.1 y)
          (asks p c (Some word)) refl (settles at word x.1.0) x.1.2))
