-- From what one thread does to a step of the machine.
use Rattle.std.proofs.Common.{◌≡◌, ℕ, zero, suc, ◌+◌, ◌*◌, ◌<◌, ◌≤◌, List, [], ◌∷◌, length, slice_get, get_or, set, Option, Some, refl, sym, ap, ◌∙◌, subst, arith, length-set, append_assoc, add-one, drop-cons, drop, ◌++◌}
use Rattle.std.proofs.lemmas.List.{append-nil, drop_all}
use Rattle.std.proofs.Math.Nat.{mul-suc}
use Rattle.std.specs.Prelude.{Result, Ok, Err, OnErr, OnOk}
use Rattle.cas_tso.specs.Counted.{IsKept, all_outs, most_fuel}
use Rattle.cas_tso.specs.Refusal.{Acts, Drains, Goes, Part, StepsAs, part}
use Rattle.cas_tso.specs.Run.{first_thread, threads_from}
use Rattle.cas_tso.specs.State.{Setup, State, Thread}
use Rattle.cas_tso.specs.Step.{Act, Step}
use Rattle.cas_tso.specs.declared.refused.Choice.TheVariants as choice
use Rattle.cas_tso.specs.declared.refused.Refused.{Refused}
use Rattle.cas_tso.proofs.Keeping.{step_kept}

-- the item at a place of a list
pub item_at : (ts : List Thread) (i : ℕ) (c : Thread) → c ≡ get_or ts i c → i < length ts → slice_get ts i ≡ Some c
item_at [] i c e lt = absurd (omega arith)
item_at (x ∷ xs) zero c e lt = ap (λ (u : Thread). Some u) (sym e)
item_at (x ∷ xs) (suc i) c e lt = item_at xs i c e (omega arith)

pub one_item : (o : Option Thread) (c d : Thread) → o ≡ Some c → o ≡ Some d → c ≡ d
one_item o c d e f = cc

set_same : (ts : List Thread) (i : ℕ) (c : Thread) → slice_get ts i ≡ Some c → set ts i c ≡ ts
set_same [] i c e = refl
set_same (x ∷ xs) zero c e = let is : x ≡ c = cc in ap (λ (u : Thread). u ∷ xs) (sym is)
set_same (x ∷ xs) (suc i) c e = ap (λ (us : List Thread). x ∷ us) (set_same xs i c e)

few : (ts : List Thread) (most : ℕ) → ((j : ℕ) (d : Thread) → slice_get ts j ≡ Some d → d.counts.outs ≤ most) →
    all_outs ts ≤ most * length ts
few [] most h = omega arith
few (x ∷ xs) most h =
    let a = h 0 x refl in
    let b = few xs most (λ j d e. h (suc j) d e) in
    let m = mul-suc most (length xs) in
    omega arith

-- as long as a thread has outputs left, there is room for one
pub room_left : (ts : List Thread) (i : ℕ) (c : Thread) (most : ℕ) → slice_get ts i ≡ Some c →
    ((j : ℕ) (d : Thread) → slice_get ts j ≡ Some d → d.counts.outs ≤ most) → c.counts.outs < most →
    all_outs ts < most * length ts
room_left [] i c most e h lt = cc
room_left (x ∷ xs) zero c most e h lt =
    let is : x ≡ c = cc in
    let outs = ap (λ (u : Thread). u.counts.outs) is in
    let b = few xs most (λ j d e'. h (suc j) d e') in
    let m = mul-suc most (length xs) in
    omega arith
room_left (x ∷ xs) (suc i) c most e h lt =
    let a = h 0 x refl in
    let b = room_left xs i c most e (λ j d e'. h (suc j) d e') lt in
    let m = mul-suc most (length xs) in
    omega arith

-- the room for outputs stays
pub room_after : (ts : List Thread) (i : ℕ) (d : Thread) (most old new : ℕ) → new ≡ old → most * length ts ≤ old →
    most * length (set ts i d) ≤ new
room_after ts i d most old new same room =
    subst (λ (n : ℕ). most * n ≤ new) (sym (length-set ts i d))
    (subst (λ (k : ℕ). most * length ts ≤ k) (sym same) room)

abbrev pub with_part : State → (thread : ℕ) → Thread → (memory : List ℕ) → (output : List (ℕ × ℕ)) → State
with_part s i d m o = record { memory = m; output = o; threads = set s.threads i d }

-- what a thread does in its part is a step
pub act_steps : (p : Setup) (s : State) (i : ℕ) (c d : Thread) (m : List ℕ) (o : List (ℕ × ℕ)) (a : Act) →
    slice_get s.threads i ≡ Some c →
    Acts p i a (part c s.memory s.output) (part d m o) → Step p s i a (with_part s i d m o)
act_steps p s i c d m o a at (takes, agrees, em, eo) =
    (c, d, at, takes, agrees, λ n. record { memory = em n; output = eo n; threads = set s.threads i d })

-- whatever a thread does or doesn't, the state stays sound
pub kept_after : (p : Setup) (s : State) (i : ℕ) (c d : Thread) (m : List ℕ) (o : List (ℕ × ℕ))
    (r : Result (Unit {0}) Refused) →
    p.options.fuel ≤ most_fuel → IsKept p s → slice_get s.threads i ≡ Some c →
    OnOk r ((a : Act) × Acts p i a (part c s.memory s.output) (part d m o)) →
    OnErr r ((d ≡ c) × (m ≡ s.memory) × (o ≡ s.output)) → IsKept p (with_part s i d m o)
kept_after p s i c d m o (Ok u) small k at goes still =
    step_kept p s (with_part s i d m o) i goes.0 small k (act_steps p s i c d m o goes.0 at goes.1)
kept_after p s i c d m o (Err e) small k at goes (ed, em, eo) =
    let same : with_part s i d m o ≡ s =
    (λ n. with_part s i (ed n) (em n) (eo n))
    ∙ ap (λ (ts : List Thread). let u : State = record { memory = s.memory; output = s.output; threads = ts } in u)
    (set_same s.threads i c at) in
    subst (λ (u : State). IsKept p u) (sym same) k

pub on_ok : {A B : Type 0} (r : Result (Unit {0}) Refused) → (A → B) → OnOk r A → OnOk r B
on_ok (Ok u) f h = f h
on_ok (Err e) f h = tt

pub on_err : {A B : Type 0} (r : Result (Unit {0}) Refused) → (A → B) → OnErr r A → OnErr r B
on_err (Ok u) f h = tt
on_err (Err e) f h = f h

-- a drain, whatever else there is
abbrev pub DrainsAnyhow : Thread → List ℕ → Thread → List ℕ → Type 0
DrainsAnyhow c m d n = (p : Setup) (i : ℕ) (o : List (ℕ × ℕ)) → Drains p i (part c m o) (part d n o)

pub goes_moves : (p : Setup) (i : ℕ) (u v : Part) → Goes p i u v → (a : Act) × Acts p i a u v
goes_moves p i u v g = (g.0, g.2)

pub drains_moves : (p : Setup) (i : ℕ) (u v : Part) → Drains p i u v → (a : Act) × Acts p i a u v
drains_moves p i u v g = (g.0, g.2)

-- an instruction or an end is a step of a run, and a drain one of a drain
pub goes_steps : (p : Setup) (s : State) (i : ℕ) (c d : Thread) (m : List ℕ) (o : List (ℕ × ℕ)) →
    slice_get s.threads i ≡ Some c →
    Goes p i (part c s.memory s.output) (part d m o) → StepsAs p s (choice.Run i) (with_part s i d m o)
goes_steps p s i c d m o at g = (g.0, g.1, act_steps p s i c d m o g.0 at g.2)

pub drains_steps : (p : Setup) (s : State) (i : ℕ) (c d : Thread) (m : List ℕ) (o : List (ℕ × ℕ)) →
    slice_get s.threads i ≡ Some c →
    Drains p i (part c s.memory s.output) (part d m o) → StepsAs p s (choice.Drain i) (with_part s i d m o)
drains_steps p s i c d m o at g = (g.0, g.1, act_steps p s i c d m o g.0 at g.2)

-- the threads from one on are that one and those after it
pub threads_step : (p : Setup) (ts : List Thread) (k : ℕ) (es : List ℕ) (x : Thread) → k < length es →
    x ≡ first_thread p k →
    (ts ++ x ∷ []) ++ threads_from p (k + 1) (drop (k + 1) es) ≡ ts ++ threads_from p k (drop k es)
threads_step p ts k es x lt is =
    append_assoc ts (x ∷ []) (threads_from p (k + 1) (drop (k + 1) es))
    ∙ (ap (λ (u : Thread). ts ++ u ∷ threads_from p (k + 1) (drop (k + 1) es)) is
    ∙ (ap (λ (n : ℕ). ts ++ first_thread p k ∷ threads_from p (k + 1) (drop n es)) (add-one k)
    ∙ ap (λ (fs : List ℕ). ts ++ threads_from p k fs) (sym (drop-cons es k 0 lt))))

pub threads_whole : (p : Setup) (ts : List Thread) (k : ℕ) (es : List ℕ) → length es ≤ k →
    ts ++ threads_from p k (drop k es) ≡ ts
threads_whole p ts k es le = ap (λ (fs : List ℕ). ts ++ threads_from p k fs) (drop_all k es le) ∙ append-nil ts

pub item_there : (ts : List Thread) (i : ℕ) → i < length ts → (c : Thread) × (slice_get ts i ≡ Some c)
item_there [] i lt = absurd (omega arith)
item_there (x ∷ xs) zero lt = (x, refl)
item_there (x ∷ xs) (suc i) lt = item_there xs i (omega arith)
