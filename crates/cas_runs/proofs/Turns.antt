-- In the layer of calls a machine waits for the outside exactly after a Call or a Leave, and before the first label.
use Rattle.std.proofs.Common.{◌≡◌, ℕ, List, [], ◌∷◌, Option, Some, None, Bool, true, false, sym, subst}
use Rattle.cas_runs.specs.Label.{NameBytes, Share, RunLabel, Lock, Unlock, Out, Done, Enter, Back, Call, Leave}
use Rattle.cas_runs.specs.Edge.{results_of}
use Rattle.cas_runs.specs.Naming.{Value, Naming, and_then, all_taken, brought}
use Rattle.cas_runs.specs.Outside.{MayBring}
use Rattle.cas_runs.specs.Machine.{Act, Quiet, Emits, Crosses, Locks, Receives, Bad, Stops, Event, Unlocks, Prints, Ends, Names, Machine, label_of, crossing_by, StepsTo, Block, Run, starts as begins_run, quiet, labelled}
use Rattle.cas_runs.specs.Rules.{HasCrossed, MayReceive, IsReceiving}
use Rattle.cas_runs.specs.Access.{Holding, words_in, with_lock, without_lock}
use Rattle.cas_runs.specs.Unit.{Setting, guard_of}
use Rattle.cas_runs.specs.Calls.{Last, Goes, Takes, Gives, Puts, Calls, Tails, Returns, Activations, Scene, Frame, Waits, Outer, Past, Thread, Away, Runs, Leaves, Over, Wrong, can_cross, named_as, with_naming, to_outside, crosses_if, kept_results, leaves_with, leaves_later, goes_back, returns, resumes, comes_back, with_share, takes_lock, takes, gives_lock, gives, find, without_own, calls_in, enters_at, enters, step_at, calls_out, calls, acts, receives, machine}

module _ {F A : Type 0} (l : Activations F A) (setting : Setting) (scene : Scene F) (start : Thread F A) where
  abbrev M : Machine (Thread F A)
  M = machine l setting scene start

  -- the outside runs
  abbrev pub IsAway : Thread F A → Type 0
  IsAway (Away stack p h) = Unit {0}
  IsAway (Runs f n a e stack p h) = ⊥
  IsAway (Leaves values stack p h) = ⊥
  IsAway Over = ⊥
  IsAway Wrong = ⊥

  -- the act is one of the unit's, and leads to the outside by a Call or a Leave alone
  abbrev Own : Act (Thread F A) → Type 0
  Own (Quiet y) = IsAway y → ⊥
  Own (Emits event y) = IsAway y → ⊥
  Own (Crosses f share next) = (n : Names) (y : Thread F A) → next n ≡ Some y → IsAway y
  Own (Locks lock next) = (ws : List ℕ) → IsAway (next ws) → ⊥
  Own (Receives next) = ⊥
  Own Bad = Unit {0}
  Own (Stops why) = Unit {0}

  outside_away : (stack : List (Frame F A)) (p : Past) (h : Holding) (o : Option Naming) (y : Thread F A) →
      to_outside stack p h o ≡ Some y → IsAway y
  outside_away stack p h None y e = absurd (cc e)
  outside_away stack p h (Some ns) y e = let there : Away stack (with_naming p ns) h ≡ y = cc e in subst IsAway there tt

  crosses_own : (function : Option NameBytes) (values : List Value) (stack : List (Frame F A)) (p : Past) (h : Holding)
      (t : Bool) →
      Own (crosses_if t function h.share (λ names. to_outside stack p h (named_as setting.layout values p h names)))
  crosses_own function values stack p h true = λ n y e. outside_away stack p h (named_as setting.layout values p h n)
      y e
  crosses_own function values stack p h false = tt

  back_own : (f : F) (n : ℕ) (o : Option A) (stack : List (Frame F A)) (p : Past) (h : Holding) →
      Own (goes_back f n o stack p h)
  back_own f n None stack p h = tt
  back_own f n (Some a) stack p h = λ away. away

  returns_own : (values : List Value) (stack : List (Frame F A)) (p : Past) (h : Holding) →
      Own (returns setting.layout values stack p h)
  returns_own values [] p h = λ away. away
  returns_own values (Outer results ∷ stack) p h = by (kept_results results values)
    where
      by : (o : Option (List Value)) → Own (leaves_with setting.layout o stack p h)
      by None = tt
      by (Some kept) = crosses_own None kept stack p h (can_cross setting.layout p kept)
  returns_own values (Waits f n results next ∷ stack) p h =
      back_own f n (and_then (kept_results results values) next) stack p h

  calls_own : (function : NameBytes) (values : List Value) (stack : List (Frame F A)) (p : Past) (h : Holding)
      (o : Option F) → Own (calls l setting scene o function values stack p h)
  calls_own function values stack p h (Some f) = by (l.enter f p.begun values)
    where
      by : (o : Option A) → Own (calls_in l f o stack p h)
      by None = tt
      by (Some a) = λ away. away
  calls_own function values stack p h None = by scene.crosses
    where
      by : (t : Bool) → Own (calls_out l setting scene t function values stack p h)
      by true = crosses_own (Some function) values stack p h (can_cross setting.layout p values)
      by false = tt

  takes_own : (o : Option ℕ) (a : A) (f : F) (n : ℕ) (stack : List (Frame F A)) (p : Past) (h : Holding) →
      Own (takes o h (Runs f n a 0 stack p))
  takes_own None a f n stack p h = tt
  takes_own (Some k) a f n stack p h = by (words_in h.share k)
    where
      by : (o : Option (List ℕ)) →
          Own (takes_lock k o (λ ws. Runs f n a 0 stack p (with_share h (with_lock h.share k ws))))
      by None = λ ws away. away
      by (Some ws) = tt

  gives_own : (o : Option ℕ) (a : A) (f : F) (n : ℕ) (stack : List (Frame F A)) (p : Past) (h : Holding) →
      Own (gives o h (Runs f n a 0 stack p))
  gives_own None a f n stack p h = tt
  gives_own (Some k) a f n stack p h = by (words_in h.share k)
    where
      by : (o : Option (List ℕ)) → Own (gives_lock k o (Runs f n a 0 stack p (with_share h (without_lock h.share k))))
      by None = tt
      by (Some ws) = λ away. away

  acts_own : (o : Option (Last A)) (f : F) (n : ℕ) (stack : List (Frame F A)) (p : Past) (h : Holding) →
      Own (acts l setting scene o f n stack p h)
  acts_own None f n stack p h = tt
  acts_own (Some (Goes next)) f n stack p h = λ away. away
  acts_own (Some (Takes lock next)) f n stack p h = takes_own (guard_of setting.edge lock) next f n stack p h
  acts_own (Some (Gives lock next)) f n stack p h = gives_own (guard_of setting.edge lock) next f n stack p h
  acts_own (Some (Puts word next)) f n stack p h = λ away. away
  acts_own (Some (Calls function values next)) f n stack p h =
      calls_own function values (Waits f n (results_of setting.edge function) next ∷ stack) p h
      (find l scene.within function)
  acts_own (Some (Tails function values)) f n stack p h =
      calls_own function values stack p (without_own l f n h) (find l scene.within function)
  acts_own (Some (Returns values)) f n stack p h = returns_own values stack p (without_own l f n h)

  act_own : (x : Thread F A) → (IsAway x → ⊥) → Own (M.act x)
  act_own (Away stack p h) not = absurd (not tt)
  act_own (Runs f n a e stack p h) not = acts_own (step_at l setting a h).last f n stack p
      (step_at l setting a h).holding
  act_own (Leaves values stack p h) not = crosses_own None values stack p h (can_cross setting.layout p values)
  act_own Over not = tt
  act_own Wrong not = tt

  -- What the outside brings.

  entered_stays : (o : Option F) (values : Option (List Value)) (stack : List (Frame F A)) (p : Past) (h : Holding) →
      IsAway (enters l o values stack p h) → ⊥
  entered_stays None values stack p h away = away
  entered_stays (Some f) None stack p h away = away
  entered_stays (Some f) (Some values) stack p h away = by (l.enter f p.begun values) away
    where
      by : (o : Option A) → IsAway (enters_at l f o stack p h) → ⊥
      by None away = away
      by (Some a) away = away

  back_stays : (values : Option (List Value)) (stack : List (Frame F A)) (p : Past) (h : Holding) →
      IsAway (comes_back values stack p h) → ⊥
  back_stays None stack p h away = away
  back_stays (Some values) [] p h away = away
  back_stays (Some values) (Outer results ∷ stack) p h away = by (kept_results results values) away
    where
      by : (o : Option (List Value)) → IsAway (leaves_later o stack p h) → ⊥
      by None away = away
      by (Some kept) away = away
  back_stays (Some values) (Waits f n results next ∷ stack) p h away =
      by (and_then (kept_results results values) next) away
    where
      by : (o : Option A) → IsAway (resumes f n o stack p h) → ⊥
      by None away = away
      by (Some a) away = away

  heard_stays : (stack : List (Frame F A)) (p : Past) (h : Holding) (k : RunLabel) →
      IsAway (receives l setting scene stack p h k) → ⊥
  heard_stays stack p h (Enter name crossing) away = entered_stays (find l scene.functions name)
      (all_taken (brought h.memory p.naming 0 crossing.objects).naming crossing.values)
      (Outer (results_of setting.edge name) ∷ stack) _ _ away
  heard_stays stack p h (Back crossing) away = back_stays
      (all_taken (brought h.memory p.naming 0 crossing.objects).naming crossing.values) stack _ _ away
  heard_stays stack p h (Lock lock ws) away = away
  heard_stays stack p h (Unlock lock ws) away = away
  heard_stays stack p h (Out word) away = away
  heard_stays stack p h Done away = away
  heard_stays stack p h (Call name crossing) away = away
  heard_stays stack p h (Leave crossing) away = away

  -- The runs.

  -- whose turn it is after these labels
  pub record Turn (ls : List RunLabel) (x : Thread F A) : Type 0 where
    pub may_receive : IsAway x → MayReceive ls
    pub has_crossed : HasCrossed ls → IsAway x

  event_stays : (event : Event) (ls : List RunLabel) → HasCrossed (label_of event ∷ ls) → ⊥
  event_stays (Unlocks lock ws) ls c = c
  event_stays (Prints w) ls c = c
  event_stays Ends ls c = c

  crossing_goes : (function : Option NameBytes) (share : Share) (n : Names) (ls : List RunLabel) →
      HasCrossed (crossing_by function share n ∷ ls)
  crossing_goes None share n ls = tt
  crossing_goes (Some f) share n ls = tt

  brought_stays : (ls : List RunLabel) (k : RunLabel) → MayBring setting.edge ls k → HasCrossed (k ∷ ls) → ⊥
  brought_stays ls (Call name crossing) m c = m
  brought_stays ls (Leave crossing) m c = m
  brought_stays ls (Enter name crossing) m c = c
  brought_stays ls (Back crossing) m c = c
  brought_stays ls (Lock lock ws) m c = c
  brought_stays ls (Unlock lock ws) m c = c
  brought_stays ls (Out w) m c = c
  brought_stays ls Done m c = c

  by_own : (ls : List RunLabel) (a : Act (Thread F A)) (k : RunLabel) (y : Thread F A) → Own a →
      StepsTo setting.edge ls a k y → Turn (k ∷ ls) y
  by_own ls (Quiet z) k y o e = absurd e
  by_own ls (Emits event z) k y o e =
      record {
        may_receive = λ away. absurd (o (subst IsAway (sym e.1) away));
        has_crossed = λ c. absurd
            (event_stays event ls (subst (λ v. HasCrossed (v ∷ ls)) (sym e.0) c));
      }
  by_own ls (Crosses f share next) k y o e =
      let crossed : HasCrossed (k ∷ ls) = subst (λ v. HasCrossed (v ∷ ls)) e.1 (crossing_goes f share e.0 ls) in
      record { may_receive = λ away. crossed; has_crossed = λ c. o e.0 y e.2 }
  by_own ls (Locks lock next) k y o e =
      record {
        may_receive = λ away. absurd (o e.0 (subst IsAway (sym e.3) away));
        has_crossed = λ c. let no : ⊥ = subst
            (λ v. HasCrossed (v ∷ ls)) e.1 c in absurd no;
      }
  by_own ls (Receives next) k y o e = absurd o
  by_own ls Bad k y o e = absurd e
  by_own ls (Stops why) k y o e = absurd e

  by_label : (ls : List RunLabel) (x : Thread F A) (k : RunLabel) (y : Thread F A) →
      StepsTo setting.edge ls (M.act x) k y → Turn (k ∷ ls) y
  by_label ls (Away stack p h) k y e =
      record {
        may_receive = λ away. absurd (heard_stays stack p h k (subst IsAway (sym e.1) away));
        has_crossed =
            λ c. absurd (brought_stays ls k e.0 c);
      }
  by_label ls (Runs f n a x stack p h) k y e = by_own ls (M.act (Runs f n a x stack p h)) k y
      (act_own (Runs f n a x stack p h) (λ away. away)) e
  by_label ls (Leaves values stack p h) k y e = by_own ls (M.act (Leaves values stack p h)) k y
      (act_own (Leaves values stack p h) (λ away. away)) e
  by_label ls Over k y e = absurd e
  by_label ls Wrong k y e = absurd e

  own_quiet : (a : Act (Thread F A)) (y : Thread F A) → Own a → a ≡ Quiet y → IsAway y → ⊥
  own_quiet a y o e away = let stays : IsAway y → ⊥ = subst (λ (v : Act (Thread F A)). Own v) e o in stays away

  -- a quiet step is one of the unit's, and what it leads to is so too
  quiet_stays : (x y : Thread F A) → M.act x ≡ Quiet y → (IsAway x → ⊥) × (IsAway y → ⊥)
  quiet_stays (Away stack p h) y e = absurd (cc e)
  quiet_stays (Runs f n a x stack p h) y e =
      ((λ away. away), own_quiet (M.act (Runs f n a x stack p h)) y (act_own (Runs f n a x stack p h) (λ away. away)) e)
  quiet_stays (Leaves values stack p h) y e = (
    (λ away. away),
    own_quiet (M.act (Leaves values stack p h)) y (act_own (Leaves values stack p h) (λ away. away))
        e,
  )
  quiet_stays Over y e = absurd (cc e)
  quiet_stays Wrong y e = absurd (cc e)

  turn : {ls : List RunLabel} {bs : List Block} {b : Block} {x : Thread F A} → Run setting.edge M ls bs b x → Turn ls x
  turn begins_run = record { may_receive = λ away. tt; has_crossed = λ c. absurd c }
  turn (quiet {x = x} y r e) =
      let t = turn r in
      let stays = quiet_stays x y e in
      record { may_receive = λ away. absurd (stays.1 away); has_crossed = λ c. absurd (stays.0 (t.has_crossed c)) }
  turn (labelled {ls = ls} {x = x} k y r e) = by_label ls x k y e

  own_hears : (a : Act (Thread F A)) → Own a → IsReceiving a → ⊥
  own_hears (Quiet y) o h = h
  own_hears (Emits event y) o h = h
  own_hears (Crosses f share next) o h = h
  own_hears (Locks lock next) o h = h
  own_hears (Receives next) o h = o
  own_hears Bad o h = h
  own_hears (Stops why) o h = h

  hearing_away : (x : Thread F A) → IsReceiving (M.act x) → IsAway x
  hearing_away (Away stack p h) e = tt
  hearing_away (Runs f n a x stack p h) e =
      absurd (own_hears (M.act (Runs f n a x stack p h)) (act_own (Runs f n a x stack p h) (λ away. away)) e)
  hearing_away (Leaves values stack p h) e =
      absurd (own_hears (M.act (Leaves values stack p h)) (act_own (Leaves values stack p h) (λ away. away)) e)
  hearing_away Over e = absurd e
  hearing_away Wrong e = absurd e

  away_hearing : (x : Thread F A) → IsAway x → IsReceiving (M.act x)
  away_hearing (Away stack p h) away = tt
  away_hearing (Runs f n a x stack p h) away = absurd away
  away_hearing (Leaves values stack p h) away = absurd away
  away_hearing Over away = absurd away
  away_hearing Wrong away = absurd away

  pub hears_outside : (ls : List RunLabel) (bs : List Block) (b : Block) (x : Thread F A) →
      Run setting.edge M ls bs b x → IsReceiving (M.act x) → MayReceive ls
  hears_outside ls bs b x r e = let t = turn r in t.may_receive (hearing_away x e)

  pub listens_after : (ls : List RunLabel) (bs : List Block) (b : Block) (x : Thread F A) →
      Run setting.edge M ls bs b x → HasCrossed ls → IsReceiving (M.act x)
  listens_after ls bs b x r c = let t = turn r in away_hearing x (t.has_crossed c)
