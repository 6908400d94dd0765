-- Each step keeps what holds of the states of a machine.
use Rattle.std.proofs.Common.{◌≡◌, ℕ, zero, suc, ◌+◌, ◌<◌, ◌≤◌, Bool, true, false, if◌then◌else◌, nat_eq, List, [], ◌∷◌, ◌++◌, length, slice_get, set, Some, None, ◌⊎◌, inl, inr, ⊎_elim, refl, sym, ap, ◌∙◌, subst, arith, length-append, length-set}
use Rattle.std.proofs.lemmas.Bool.{eqb-false}
use Rattle.cas_base.specs.Word.{word_sub}
use Rattle.cas_asm.specs.declared.ask.Ask.{Ask}
use Rattle.cas_asm.specs.declared.ask.Ask.TheVariants as ask
use Rattle.cas_tso.specs.Asking.{IsAmongWords}
use Rattle.cas_tso.specs.Counted.{IsCounted, IsKept, IsKeptThread, all_outs, most_fuel}
use Rattle.cas_tso.specs.Run.{first_thread, start_state, threads_from, Run}
use Rattle.cas_tso.specs.Run.{at_start, and_step}
use Rattle.cas_tso.specs.State.{Setup, State, Thread}
use Rattle.cas_tso.specs.Step.{Act, plain, forwarded, loaded, stored, drained, decremented, printed, stopped, Takes, Step, after_decrement, after_forward, after_load, after_out, after_plain, after_store, asks, end_after, memory_after, output_after}
use Rattle.cas_tso.specs.declared.end.End.{End}
use Rattle.cas_tso.specs.declared.end.End.TheVariants as end
use Rattle.cas_tso.specs.declared.options.Options.{Options}
use Rattle.cas_tso.specs.declared.pending.Pending.{Pending}
use Rattle.cas_tso.proofs.Asking.{asks_among}

unequal : (b : Bool) (e : End) → (if b then Some e else None) ≡ None → b ≡ false
unequal true e h = cc
unequal false e h = refl

some_is_some : (e : End) → Some e ≡ None → ⊥
some_is_some e h = cc

fuel_left : (n m : ℕ) → n ≤ m → (if nat_eq n m then Some end.Fuel else None) ≡ None → n < m
fuel_left n m le h = let ne : n ≡ m → ⊥ = eqb-false n m (unequal (nat_eq n m) end.Fuel h) in omega arith

-- a thread that goes on after an instruction has fuel left
goes_on : (o : Options) (a : Ask) (n : ℕ) → n ≤ o.fuel → end_after o a n ≡ None → n < o.fuel
goes_on o ask.Plain n le h = fuel_left n o.fuel le h
goes_on o (ask.Load k) n le h = fuel_left n o.fuel le h
goes_on o (ask.Store k v) n le h = fuel_left n o.fuel le h
goes_on o (ask.LockedDec k) n le h = fuel_left n o.fuel le h
goes_on o (ask.Out v) n le h = fuel_left n o.fuel le h
goes_on o ask.Finish n le h = cc
goes_on o ask.Stack n le h = fuel_left n o.fuel le h
goes_on o (ask.Bad why) n le h = fuel_left n o.fuel le h

-- an item of a list with one more at its end
at_longer : (xs : List Pending) (y x : Pending) (k : ℕ) → slice_get (xs ++ y ∷ []) k ≡ Some x →
    (slice_get xs k ≡ Some x) ⊎ (y ≡ x)
at_longer [] y x zero e = inr cc
at_longer [] y x (suc k) e = cc
at_longer (z ∷ zs) y x zero e = inl e
at_longer (z ∷ zs) y x (suc k) e = at_longer zs y x k e

module _ (p : Setup) (small : p.options.fuel ≤ most_fuel) (c : Thread) (h : IsKeptThread p c) where
  -- a thread that executed one instruction more, and whose other counts and buffer still fit
  after_instruction : (d : Thread) (a : Ask) → c.ended ≡ None → d.counts.executed ≡ c.counts.executed + 1 →
      d.ended ≡ end_after p.options a (c.counts.executed + 1) →
      (IsCounted c → d.counts.executed ≤ most_fuel → IsCounted d) →
      d.counts.outs ≤ p.options.outs → ((k : ℕ) (x : Pending) → slice_get d.buffer k ≡ Some x →
      x.at < length p.image.words) → IsKeptThread p d
  after_instruction d a runs is ends counts outs within =
      let left : c.counts.executed < p.options.fuel = h.running runs in
      let le : c.counts.executed + 1 ≤ p.options.fuel = omega arith in
      record {
        counted = counts h.counted (omega arith);
        fuel = omega arith;
        running = λ none. let lt = goes_on p.options a (c.counts.executed + 1) le (sym ends ∙ none) in omega arith;
        outs = outs;
        within = within;
      }

  takes_kept : (a : Act) (d : Thread) → Takes p c a d → IsKeptThread p d
  takes_kept plain d t =
      subst (λ (u : Thread). IsKeptThread p u) (sym t.2)
      (after_instruction (after_plain p c) (asks p c None) t.0 refl refl
      (λ k le. record {
        loads = omega arith;
        forwarded = k.forwarded;
        stores = omega arith;
        outs = omega arith;
        fuel =
            le;
        full = k.full;
      })
      h.outs h.within)
  takes_kept (forwarded at word) d t =
      subst (λ (u : Thread). IsKeptThread p u) (sym t.4)
      (after_instruction (after_forward p c word) (asks p c (Some word)) t.0 refl refl
      (λ k le. record {
        loads = omega arith;
        forwarded = omega arith;
        stores = omega arith;
        outs = omega arith;
        fuel =
            le;
        full = k.full;
      })
      h.outs h.within)
  takes_kept (loaded at word) d t =
      subst (λ (u : Thread). IsKeptThread p u) (sym t.4)
      (after_instruction (after_load p c word) (asks p c (Some word)) t.0 refl refl
      (λ k le. record {
        loads = omega arith;
        forwarded = omega arith;
        stores = omega arith;
        outs = omega arith;
        fuel =
            le;
        full = k.full;
      })
      h.outs h.within)
  takes_kept (stored at value) d t =
      let new : Pending = record { at = at; value = value; entered = c.counts.executed + 1 } in
      let long = length-append c.buffer (new ∷ []) in
      let room_left = t.2 in
      let among : at < length p.image.words =
      subst (λ (a : Ask). IsAmongWords (length p.image.words) a) t.1 (asks_among p.image c.cpu None) in
      subst (λ (u : Thread). IsKeptThread p u) (sym t.3)
      (after_instruction (after_store p c at value) (asks p c None) t.0 refl refl
      (λ k le. record {
        loads = omega arith;
        forwarded = k.forwarded;
        stores = omega arith;
        outs = omega arith;
        fuel =
            le;
        full = omega arith;
      })
      h.outs
      (λ k x at_k. ⊎_elim (h.within k x)
      (λ (e : new ≡ x). let place = ap (λ (y : Pending). y.at) e in omega arith) (at_longer c.buffer new x k at_k)))
  takes_kept (drained at value) d t =
      let oldest : Pending = record { at = at; value = value; entered = t.0 } in
      let is = ap (λ (l : List Pending). length l) t.2 in
      let k = h.counted in
      subst (λ (u : Thread). IsKeptThread p u) (sym t.3) record {
        counted =
            record {
              loads = k.loads;
              forwarded = k.forwarded;
              stores = omega arith;
              outs = k.outs;
              fuel =
                  k.fuel;
              full = omega arith;
            };
        fuel = h.fuel;
        running = h.running;
        outs = h.outs;
        within = λ j x at_j. h.within (suc j) x (ap (λ (l : List Pending). slice_get l (suc j)) t.2 ∙ at_j);
      }
  takes_kept (decremented at word) d t =
      subst (λ (u : Thread). IsKeptThread p u) (sym t.3)
      (after_instruction (after_decrement p c word) (asks p c None) t.0 refl refl
      (λ k le. record {
        loads = omega arith;
        forwarded = k.forwarded;
        stores = omega arith;
        outs = omega arith;
        fuel =
            le;
        full = k.full;
      })
      h.outs h.within)
  takes_kept (printed ticket word) d t =
      let more = t.2 in
      subst (λ (u : Thread). IsKeptThread p u) (sym t.3)
      (after_instruction (after_out p c) (asks p c None) t.0 refl refl
      (λ k le. record {
        loads = omega arith;
        forwarded = k.forwarded;
        stores = omega arith;
        outs = omega arith;
        fuel =
            le;
        full = k.full;
      })
      (omega arith) h.within)
  takes_kept (stopped read e) d t =
      subst (λ (u : Thread). IsKeptThread p u) (sym t.2) record {
        counted =
            record {
              loads = h.counted.loads;
              forwarded = h.counted.forwarded;
              stores = h.counted.stores;
              outs =
                  h.counted.outs;
              fuel = h.counted.fuel;
              full = h.counted.full;
            };
        fuel = h.fuel;
        running = λ none. absurd (some_is_some e none);
        outs = h.outs;
        within = h.within;
      }

all_outs_set : (ts : List Thread) (i : ℕ) (c d : Thread) → slice_get ts i ≡ Some c →
    all_outs (set ts i d) + c.counts.outs ≡ all_outs ts + d.counts.outs
all_outs_set [] i c d e = cc
all_outs_set (x ∷ xs) zero c d e = let is : x ≡ c = cc in let outs =
    ap (λ (u : Thread). u.counts.outs) is in omega arith
all_outs_set (x ∷ xs) (suc i) c d e = let r = all_outs_set xs i c d e in omega arith

-- an act adds as many outputs to the output as to its thread's count
outs_together : (p : Setup) (i : ℕ) (c : Thread) (a : Act) (d : Thread) (o : List (ℕ × ℕ)) → Takes p c a d →
    length (output_after i a o) + c.counts.outs ≡ length o + d.counts.outs
outs_together p i c plain d o t = let e = ap (λ (u : Thread). u.counts.outs) t.2 in omega arith
outs_together p i c (forwarded at word) d o t = let e = ap (λ (u : Thread). u.counts.outs) t.4 in omega arith
outs_together p i c (loaded at word) d o t = let e = ap (λ (u : Thread). u.counts.outs) t.4 in omega arith
outs_together p i c (stored at value) d o t = let e = ap (λ (u : Thread). u.counts.outs) t.3 in omega arith
outs_together p i c (drained at value) d o t = let e = ap (λ (u : Thread). u.counts.outs) t.3 in omega arith
outs_together p i c (decremented at word) d o t = let e = ap (λ (u : Thread). u.counts.outs) t.3 in omega arith
outs_together p i c (printed ticket word) d o t =
    let e = ap (λ (u : Thread). u.counts.outs) t.3 in let l = length-append o ((i, word) ∷ []) in omega arith
outs_together p i c (stopped read e) d o t = let e' = ap (λ (u : Thread). u.counts.outs) t.2 in omega arith

pub memory_length : (a : Act) (m : List ℕ) → length (memory_after a m) ≡ length m
memory_length plain m = refl
memory_length (forwarded at word) m = refl
memory_length (loaded at word) m = refl
memory_length (stored at value) m = refl
memory_length (drained at value) m = length-set m at value
memory_length (decremented at word) m = length-set m at (word_sub word 1)
memory_length (printed ticket word) m = refl
memory_length (stopped read e) m = refl

-- a thread of a list in which one was replaced
at_set : (ts : List Thread) (i j : ℕ) (d e : Thread) → slice_get (set ts i d) j ≡ Some e → (d ≡ e)
    ⊎ (slice_get ts j ≡ Some e)
at_set [] i j d e h = inr h
at_set (x ∷ xs) zero zero d e h = inl cc
at_set (x ∷ xs) zero (suc j) d e h = inr h
at_set (x ∷ xs) (suc i) zero d e h = inr h
at_set (x ∷ xs) (suc i) (suc j) d e h = at_set xs i j d e h

pub step_kept : (p : Setup) (s t : State) (i : ℕ) (a : Act) → p.options.fuel ≤ most_fuel → IsKept p s → Step p s i a t →
    IsKept p t
step_kept p s t i a small h (c, d, at, takes, agrees, is) =
    let sum = all_outs_set s.threads i c d at in
    let total = h.outputs in
    let more = outs_together p i c a d s.output takes in
    let kept = takes_kept p small c (h.threads i c at) a d takes in
    subst (λ (u : State). IsKept p u) (sym is) record {
      memory = memory_length a s.memory ∙ h.memory;
      outputs = omega arith;
      count = length-set s.threads i d ∙ h.count;
      threads = λ j e at_j. ⊎_elim (λ (x : d ≡ e). subst (λ (u : Thread). IsKeptThread p u) x kept) (h.threads j e)
          (at_set s.threads i j d e at_j);
    }

first_kept : (p : Setup) (i : ℕ) → IsKeptThread p (first_thread p i)
first_kept p i = record {
  counted =
      record {
        loads = omega arith;
        forwarded = omega arith;
        stores = omega arith;
        outs = omega arith;
        fuel =
            omega arith;
        full = omega arith;
      };
  fuel = omega arith;
  running = λ none. let ne : p.options.fuel ≡ 0 → ⊥ = eqb-false p.options.fuel 0
      (unequal (nat_eq p.options.fuel 0) end.Fuel none) in omega arith;
  outs = omega arith;
  within = λ k x e. cc;
}

first_or_rest : (p : Setup) (i : ℕ) (es : List ℕ) →
    ((j : ℕ) (c : Thread) → slice_get (threads_from p (i + 1) es) j ≡ Some c → IsKeptThread p c) →
    (j : ℕ) (c : Thread) → slice_get (first_thread p i ∷ threads_from p (i + 1) es) j ≡ Some c → IsKeptThread p c
first_or_rest p i es h zero c e = let is : first_thread p i ≡ c =
    cc in subst (λ (u : Thread). IsKeptThread p u) is (first_kept p i)
first_or_rest p i es h (suc j) c e = h j c e

first_threads : (p : Setup) (i : ℕ) (es : List ℕ) → (length (threads_from p i es) ≡ length es)
    × (all_outs (threads_from p i es) ≡ 0)
    × ((j : ℕ) (c : Thread) → slice_get (threads_from p i es) j ≡ Some c → IsKeptThread p c)
first_threads p i [] = (refl, refl, λ j c e. cc)
first_threads p i (x ∷ es) =
    let r = first_threads p (i + 1) es in
    let long = r.0 in
    let none = r.1 in
    (omega arith, omega arith, λ j c e. first_or_rest p i es (λ k d. r.2 k d) j c e)

pub start_kept : (p : Setup) → IsKept p (start_state p)
start_kept p = let f = first_threads p 0 p.image.entries in record {
  memory = refl;
  outputs = sym f.1;
  count = f.0;
  threads = f.2;
}

pub run_kept : (p : Setup) (steps : List (ℕ × Act)) (s : State) → p.options.fuel ≤ most_fuel → Run p steps s →
    IsKept p s
run_kept p steps s small (at_start) = start_kept p
run_kept p steps s small (and_step r i a t step) = step_kept p _ s i a small (run_kept p _ _ small r) step
