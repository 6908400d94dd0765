-- Counts, output and tickets over a run.
use Rattle.std.proofs.Common.{◌≡◌, ℕ, zero, suc, ◌+◌, Bool, true, false, if◌then◌else◌, nat_eq, List, [], ◌∷◌, ◌++◌, length, slice_get, set, Some, refl, sym, ap, ◌∙◌, subst, arith, length-append}
use Rattle.std.proofs.lemmas.Bool.{eqb-false, eqb-true}
use Rattle.cas_tso.specs.Run.{Run, threads_from}
use Rattle.cas_tso.specs.Run.{at_start, and_step}
use Rattle.cas_tso.specs.State.{Counts, Setup, State, Thread, no_counts}
use Rattle.cas_tso.specs.Step.{Act, plain, forwarded, loaded, stored, drained, decremented, printed, stopped, Agrees, Takes, output_after}
use Rattle.cas_tso.specs.Tally.{down_from, outputs_of, tallied, tally, ticket_before, tickets_of}
use Rattle.cas_tso.proofs.Framing.{get_other, get_same}
use Rattle.cas_tso.proofs.Machines.{one_item}

takes_tally : (p : Setup) (c d : Thread) (a : Act) → Takes p c a d → d.counts ≡ tallied a c.counts
takes_tally p c d plain t = ap (λ (u : Thread). u.counts) t.2
takes_tally p c d (forwarded at word) t = ap (λ (u : Thread). u.counts) t.4
takes_tally p c d (loaded at word) t =
    let e : c.counts.forwarded + 0 ≡ c.counts.forwarded = omega arith in
    ap (λ (u : Thread). u.counts) t.4
    ∙ ap (λ (n : ℕ). record (tallied (loaded at word) c.counts) { forwarded = n }) e
takes_tally p c d (stored at value) t = ap (λ (u : Thread). u.counts) t.3
takes_tally p c d (drained at value) t = ap (λ (u : Thread). u.counts) t.3
takes_tally p c d (decremented at word) t = ap (λ (u : Thread). u.counts) t.3
takes_tally p c d (printed ticket word) t = ap (λ (u : Thread). u.counts) t.3
takes_tally p c d (stopped read e) t = ap (λ (u : Thread). u.counts) t.2

first_counts : (p : Setup) (k : ℕ) (es : List ℕ) (i : ℕ) (c : Thread) → slice_get (threads_from p k es) i ≡ Some c →
    c.counts ≡ no_counts
first_counts p k [] i c e = cc
first_counts p k (x ∷ es) zero c e = cc
first_counts p k (x ∷ es) (suc i) c e = first_counts p (k + 1) es i c e

-- the thread i after a step of the thread j
one_more : (p : Setup) (ts : List Thread) (i j : ℕ) (a : Act) (c d e : Thread) (n : Counts) (b : Bool) →
    nat_eq j i ≡ b → slice_get ts j ≡ Some c → Takes p c a d → slice_get (set ts j d) i ≡ Some e →
    ((u : Thread) → slice_get ts i ≡ Some u → u.counts ≡ n) → e.counts ≡ (if b then tallied a n else n)
one_more p ts i j a c d e n true same at takes found before =
    let is : j ≡ i = eqb-true j i same in
    let there = subst (λ (k : ℕ). slice_get (set ts j d) k ≡ Some d) is (get_same ts j c d at) in
    let was = subst (λ (k : ℕ). slice_get ts k ≡ Some c) is at in
    ap (λ (u : Thread). u.counts) (sym (one_item (slice_get (set ts j d) i) d e there found))
    ∙ (takes_tally p c d a takes ∙ ap (λ (m : Counts). tallied a m) (before c was))
one_more p ts i j a c d e n false other at takes found before =
    before e (sym (get_other ts j i d (λ is. eqb-false j i other (sym is))) ∙ found)

pub counted : (p : Setup) (acts : List (ℕ × Act)) (s : State) → Run p acts s → (i : ℕ) (c : Thread) →
    slice_get s.threads i ≡ Some c → c.counts ≡ tally i acts
counted p acts s (at_start) i c e = first_counts p 0 p.image.entries i c e
counted p acts now (and_step {steps} {s} r j a t (c, d, at, takes, agrees, is)) i e found =
    one_more p s.threads i j a c d e (tally i steps) (nat_eq j i) refl at takes
    (ap (λ (u : State). slice_get u.threads i) (sym is) ∙ found) (λ u at_u. counted p steps s r i u at_u)

pub put_out : (p : Setup) (acts : List (ℕ × Act)) (s : State) → Run p acts s → s.output ≡ outputs_of acts
put_out p acts s (at_start) = refl
put_out p acts now (and_step {steps} {s} r i a t (c, d, at, takes, agrees, is)) =
    ap (λ (u : State). u.output) is ∙ ap (λ (o : List (ℕ × ℕ)). output_after i a o) (put_out p steps s r)

one_ticket : (i : ℕ) (a : Act) (m : List ℕ) (o : List (ℕ × ℕ)) (tickets : List ℕ) → Agrees a m o →
    tickets ≡ down_from (length o) → ticket_before a tickets ≡ down_from (length (output_after i a o))
one_ticket i plain m o tickets h e = e
one_ticket i (forwarded at word) m o tickets h e = e
one_ticket i (loaded at word) m o tickets h e = e
one_ticket i (stored at value) m o tickets h e = e
one_ticket i (drained at value) m o tickets h e = e
one_ticket i (decremented at word) m o tickets h e = e
one_ticket i (printed ticket word) m o tickets h e =
    let l = length-append o ((i, word) ∷ []) in
    let long : suc (length o) ≡ length (o ++ (i, word) ∷ []) = omega arith in
    ap (λ (n : ℕ). n ∷ tickets) h ∙ (ap (λ (ns : List ℕ). length o ∷ ns) e ∙ ap down_from long)
one_ticket i (stopped read end) m o tickets h e = e

pub ticketed : (p : Setup) (acts : List (ℕ × Act)) (s : State) → Run p acts s →
    tickets_of acts ≡ down_from (length s.output)
ticketed p acts s (at_start) = refl
ticketed p acts now (and_step {steps} {s} r i a t (c, d, at, takes, agrees, is)) =
    one_ticket i a s.memory s.output (tickets_of steps) agrees (ticketed p steps s r)
    ∙ ap (λ (u : State). down_from (length u.output)) (sym is)
