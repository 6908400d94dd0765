-- A choice that is refused is one that idle step makes.
use Rattle.std.proofs.Common.{◌≡◌, ℕ, ◌<◌, Bool, false, if◌then◌else◌, nat_le, nat_lt, List, ◌∷◌, length, Option, Some, None, slice_get, refl, sym, ◌∙◌, ap, subst, arith}
use Rattle.cas_asm.specs.declared.ask.Ask.{Ask}
use Rattle.cas_asm.specs.declared.ask.Ask.TheVariants as ask
use Rattle.cas_tso.specs.Refusal.{IsDrain, refused_choice, refused_drain, refused_run, thread_of}
use Rattle.cas_tso.specs.State.{Setup, State, Thread}
use Rattle.cas_tso.specs.Step.{Act, plain, forwarded, loaded, stored, drained, decremented, printed, stopped, IsPlain, Read, unread, from_buffer, from_memory, Stops, Takes, asks, stop_of}
use Rattle.cas_tso.specs.Timed.{must_drain}
use Rattle.cas_tso.specs.declared.end.End.{End}
use Rattle.cas_tso.specs.declared.options.Options.{Options}
use Rattle.cas_tso.specs.declared.pending.Pending.{Pending}
use Rattle.cas_tso.specs.declared.refused.Choice.{Choice}
use Rattle.cas_tso.specs.declared.refused.Choice.TheVariants as choice
use Rattle.cas_tso.specs.declared.refused.Refused.{Refused}
use Rattle.cas_tso.specs.declared.refused.Refused.TheVariants as refused
use Rattle.cas_exec.specs.Schedule.{IsBarred}

plain_free : (a : Ask) (b : List Pending) → IsPlain a → must_drain a b ≡ false
plain_free ask.Plain b h = refl
plain_free ask.Finish b h = refl
plain_free (ask.Load at) b h = absurd h
plain_free (ask.Store at value) b h = absurd h
plain_free (ask.LockedDec at) b h = absurd h
plain_free (ask.Out value) b h = absurd h
plain_free ask.Stack b h = absurd h
plain_free (ask.Bad why) b h = absurd h

stop_free : (o : Options) (c : Thread) (a : Ask) (b : List Pending) (e : End) → stop_of o c a ≡ Some e →
    must_drain a b ≡ false
stop_free o c ask.Plain b e h = refl
stop_free o c ask.Finish b e h = refl
stop_free o c (ask.Load at) b e h = refl
stop_free o c (ask.Store at value) b e h = cc
stop_free o c (ask.LockedDec at) b e h = cc
stop_free o c (ask.Out value) b e h = refl
stop_free o c ask.Stack b e h = refl
stop_free o c (ask.Bad why) b e h = refl

stops_free : (p : Setup) (c : Thread) (r : Read) (e : End) → Stops p c r e →
    must_drain (asks p c None) c.buffer ≡ false
stops_free p c unread e h = stop_free p.options c (asks p c None) c.buffer e h
stops_free p c (from_buffer at word) e h = ap (λ (a : Ask). must_drain a c.buffer) h.0
stops_free p c (from_memory at word) e h = ap (λ (a : Ask). must_drain a c.buffer) h.0

not_full : (n : ℕ) → n < 64 → nat_le 64 n ≡ false
not_full n h = grind arith

-- a thread that executes an instruction, or ends in place of it, needn't drain before
goes_free : (p : Setup) (c d : Thread) (a : Act) → Takes p c a d → (IsDrain a → ⊥) →
    (c.ended ≡ None) × (must_drain (asks p c None) c.buffer ≡ false)
goes_free p c d plain t idle = (t.0, plain_free (asks p c None) c.buffer t.1)
goes_free p c d (forwarded at word) t idle = (t.0, ap (λ (a : Ask). must_drain a c.buffer) t.1)
goes_free p c d (loaded at word) t idle = (t.0, ap (λ (a : Ask). must_drain a c.buffer) t.1)
goes_free p c d (stored at value) t idle =
    (t.0, ap (λ (a : Ask). must_drain a c.buffer) t.1 ∙ not_full (length c.buffer) t.2)
goes_free p c d (drained at value) t idle = absurd (idle tt)
goes_free p c d (decremented at word) t idle =
    (t.0, ap (λ (a : Ask). must_drain a c.buffer) t.1 ∙ ap (λ (b : List Pending). nat_lt 0 (length b)) t.2)
goes_free p c d (printed ticket word) t idle = (t.0, ap (λ (a : Ask). must_drain a c.buffer) t.1)
goes_free p c d (stopped read e) t idle = (t.0, stops_free p c read e t.1)

run_allowed : (p : Setup) (c : Thread) (why : Refused) → c.ended ≡ None →
    must_drain (asks p c None) c.buffer ≡ false → refused_run p.image c c.ended ≡ Some why → ⊥
run_allowed p c why ended free h =
    let is : refused_run p.image c None ≡ Some why =
    subst (λ (e : Option End). refused_run p.image c e ≡ Some why) ended h in
    let none : (if false then Some refused.MustDrain else None) ≡ Some why =
    subst (λ (b : Bool). (if b then Some refused.MustDrain else None) ≡ Some why) free is in
    cc

drain_allowed : (p : Setup) (c d : Thread) (a : Act) (why : Refused) → Takes p c a d → IsDrain a →
    refused_drain c.buffer ≡ Some why → ⊥
drain_allowed p c d plain why t is h = absurd is
drain_allowed p c d (forwarded at word) why t is h = absurd is
drain_allowed p c d (loaded at word) why t is h = absurd is
drain_allowed p c d (stored at value) why t is h = absurd is
drain_allowed p c d (drained at value) why (entered, rest, front, after) is h =
    let none : refused_drain (record { at = at; value = value; entered = entered } ∷ rest) ≡ Some why =
    subst (λ (b : List Pending). refused_drain b ≡ Some why) front h in
    cc
drain_allowed p c d (decremented at word) why t is h = absurd is
drain_allowed p c d (printed ticket word) why t is h = absurd is
drain_allowed p c d (stopped read e) why t is h = absurd is

same_thread : (x : Option Thread) (c d : Thread) → x ≡ Some c → x ≡ Some d → c ≡ d
same_thread x c d h k = cc

pub refused_barred : (p : Setup) (s : State) (choice : Choice) (c : Thread) (why : Refused) →
    slice_get s.threads (thread_of choice) ≡ Some c → refused_choice p.image c choice ≡ Some why → IsBarred p s choice
refused_barred p s (choice.Run i) c why at h t (a, idle, (b, d, found, takes, agrees, is)) =
    let same = same_thread (slice_get s.threads i) b c found at in
    let free = goes_free p b d a takes idle in
    run_allowed p b why free.0 free.1 (subst (λ (x : Thread). refused_run p.image x x.ended ≡ Some why) (sym same) h)
refused_barred p s (choice.Drain i) c why at h t (a, moves, (b, d, found, takes, agrees, is)) =
    let same = same_thread (slice_get s.threads i) b c found at in
    drain_allowed p b d a why takes moves (subst (λ (x : Thread). refused_drain x.buffer ≡ Some why) (sym same) h)

-- a thread that isn't there takes idle step
pub absent_barred : (p : Setup) (s : State) (choice : Choice) → slice_get s.threads (thread_of choice) ≡ None →
    IsBarred p s choice
absent_barred p s (choice.Run i) none t (a, idle, (b, d, found, takes, agrees, is)) = cc
absent_barred p s (choice.Drain i) none t (a, moves, (b, d, found, takes, agrees, is)) = cc
