-- Turns are taken by threads that may step.
use Rattle.std.proofs.Common.{◌≡◌, ℕ, zero, suc, length, List, [], ◌∷◌, ◌++◌, Option, Some, None, slice_get, refl, sym, ap, subst, append-nil, append_assoc}
use Rattle.cas_base.specs.declared.act.Act.{Act}
use Rattle.cas_base.specs.declared.act.Act.TheVariants as act
use Rattle.cas_step.specs.Env.{Env}
use Rattle.cas_step.specs.Step.{Config, Step, step}
use Rattle.cas_world.specs.World.{World, IsEnabled, MayStep, Interleaves, and_step}
use Rattle.cas_world.specs.Turns.{State, running, ended, waits, bad, at_lock, at_step, at_next, at_config, state_of, after_turn, turn, turns, threads_from, round, rounds, taker, taken, taken_in_rounds, TurnsInterleave, RoundsInterleave}

-- a thread that runs may take the step
at_lock-enabled : (s r : Step) (l : ℕ) (o : Option (Option ℕ)) → at_lock s l o ≡ running r → (r ≡ s) × (o ≡ Some None)
at_lock-enabled s r l (Some (Some i)) h = absurd (cc h)
at_lock-enabled s r l (Some None) h = (cc h, refl)
at_lock-enabled s r l None h = absurd (cc h)

at_step-enabled : (holders : List (Option ℕ)) (s r : Step) (a : Act) → at_step holders s a ≡ running r → (r ≡ s)
    × IsEnabled a holders
at_step-enabled holders s r (act.Lock l) h = at_lock-enabled s r l (slice_get holders l) h
at_step-enabled holders s r (act.Bad why) h = absurd (cc h)
at_step-enabled holders s r act.Quiet h = (cc h, tt)
at_step-enabled holders s r (act.Unlock l) h = (cc h, tt)
at_step-enabled holders s r (act.Out n) h = (cc h, tt)
at_step-enabled holders s r act.Done h = (cc h, tt)

at_next-enabled : (holders : List (Option ℕ)) (o : Option Step) (r : Step) → at_next holders o ≡ running r →
    (o ≡ Some r) × IsEnabled r.act holders
at_next-enabled holders None r h = absurd (cc h)
at_next-enabled holders (Some s) r h =
    let told = at_step-enabled holders s r s.act h in
    let P : Step → Type 0 = λ x. IsEnabled x.act holders in
    (ap Some (sym told.0), subst P (sym told.0) told.1)

at_config-may : (e : Env) (w : World) (i : ℕ) (o : Option Config) (r : Step) → slice_get w.threads i ≡ o →
    at_config e w o ≡ running r → MayStep e w i r
at_config-may e w i None r at h = absurd (cc h)
at_config-may e w i (Some c) r at h =
    let told = at_next-enabled w.holders (step e w.words c) r h in
    record { next = record { config = c; stands = at; steps = told.0 }; enabled = told.1 }

pub running_may : (e : Env) (w : World) (i : ℕ) (r : Step) → state_of e w i ≡ running r → MayStep e w i r
running_may e w i r h = at_config-may e w i (slice_get w.threads i) r refl h

-- a turn from a world that is reached
turned : (e : Env) (first w : World) (threads : List ℕ) (i : ℕ) (st : State) → state_of e w i ≡ st →
    Interleaves e first threads w →
    Interleaves e first (threads ++ taker i st) (after_turn w i st)
turned e first w threads i (running s) h run = and_step run i s (running_may e w i s h)
turned e first w threads i ended h run = let P : List ℕ → Type 0 =
    λ l. Interleaves e first l w in subst P (sym (append-nil threads)) run
turned e first w threads i (waits l holder) h run = let P : List ℕ → Type 0 =
    λ l. Interleaves e first l w in subst P (sym (append-nil threads)) run
turned e first w threads i (bad why unit p) h run = let P : List ℕ → Type 0 =
    λ l. Interleaves e first l w in subst P (sym (append-nil threads)) run

pub turns_interleave : TurnsInterleave
turns_interleave e first w threads [] run = let P : List ℕ → Type 0 =
    λ l. Interleaves e first l w in subst P (sym (append-nil threads)) run
turns_interleave e first w threads (i ∷ schedule) run =
    let one = taker i (state_of e w i) in
    let there = turns_interleave e first (turn e w i) (threads ++ one) schedule
    (turned e first w threads i (state_of e w i) refl run) in
    let P : List ℕ → Type 0 = λ l. Interleaves e first l (turns e (turn e w i) schedule) in
    subst P (append_assoc threads one (taken e (turn e w i) schedule)) there

pub rounds_interleave : RoundsInterleave
rounds_interleave e first w threads zero run = let P : List ℕ → Type 0 =
    λ l. Interleaves e first l w in subst P (sym (append-nil threads)) run
rounds_interleave e first w threads (suc n) run =
    let one = taken e w (threads_from 0 (length w.threads)) in
    let there = rounds_interleave e first (round e w) (threads ++ one) n
    (turns_interleave e first w threads (threads_from 0 (length w.threads)) run) in
    let P : List ℕ → Type 0 = λ l. Interleaves e first l (rounds e (round e w) n) in
    subst P (append_assoc threads one (taken_in_rounds e (round e w) n)) there
