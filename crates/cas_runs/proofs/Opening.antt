-- The open functions of the layer of calls change by calls, entries and returns alone.
use Rattle.std.proofs.Common.{◌≡◌, ℕ, List, [], ◌∷◌, ◌⊎◌, Option, Some, None, Bool, true, false, inl, inr, refl, sym, ap, subst}
use Rattle.cas_runs.specs.Label.{NameBytes, Share, RunLabel, Lock, Unlock, Out, Done, Enter, Back, Call, Leave}
use Rattle.cas_runs.specs.Edge.{results_of}
use Rattle.cas_runs.specs.Naming.{Value, Naming, and_then, all_taken, brought}
use Rattle.cas_runs.specs.Machine.{Act, Quiet, Emits, Crosses, Locks, Receives, Bad, Stops, Full, Names, Opened, Open, Between, Machine, label_of, crossing_by, StepsTo, IsBad}
use Rattle.cas_runs.specs.Rules.{AtMostOneLess, OpensQuietly, OpensBy, OpensFirst, Opens}
use Rattle.cas_runs.specs.Access.{Holding, words_in, with_lock, without_lock}
use Rattle.cas_runs.specs.Unit.{Setting, guard_of}
use Rattle.cas_runs.specs.Calls.{Last, Goes, Takes, Gives, Puts, Calls, Tails, Returns, Activations, Scene, Frame, Waits, Outer, Past, Thread, Away, Runs, Leaves, Over, Wrong, can_cross, named_as, with_naming, to_outside, crosses_if, kept_results, leaves_with, leaves_later, goes_back, returns, resumes, comes_back, with_share, takes_lock, takes, gives_lock, gives, find, without_own, calls_in, enters_at, enters, waiting, called_by, step_at, calls_out, calls, acts, receives, machine}
use Rattle.cas_runs.proofs.Found.{found_named}

module _ {F A : Type 0} (l : Activations F A) (setting : Setting) (scene : Scene F) (start : Thread F A) where
  abbrev M : Machine (Thread F A)
  M = machine l setting scene start

  abbrev At : Thread F A → List Opened
  At x = M.activations x

  -- what an act leads to, where this function is called and these are open
  abbrev OpenTo : Option NameBytes → List Opened → Act (Thread F A) → Type 0
  OpenTo c xs (Quiet y) = OpensQuietly c xs (At y)
  OpenTo c xs (Emits event y) = OpensBy (label_of event) c xs (At y)
  OpenTo c xs (Crosses f share next) = (n : Names) (y : Thread F A) → next n ≡ Some y →
      OpensBy (crossing_by f share n) c xs (At y)
  OpenTo c xs (Locks lock next) = (ws : List ℕ) → OpensBy (Lock lock ws) c xs (At (next ws))
  OpenTo c xs (Receives next) = (k : RunLabel) → IsBad (M.act (next k)) ⊎ OpensBy k c xs (At (next k))
  OpenTo c xs _ = Unit {0}

  crosses_open : (f : Option NameBytes) (c : Option NameBytes) (xs : List Opened) (stack : List (Frame F A)) →
      ((n : Names) (share : Share) → OpensBy (crossing_by f share n) c xs (waiting l stack)) →
      (values : List Value) (p : Past) (h : Holding) (t : Bool) →
      OpenTo c xs (crosses_if t f h.share (λ names. to_outside stack p h (named_as setting.layout values p h names)))
  crosses_open f c xs stack opens values p h false = tt
  crosses_open f c xs stack opens values p h true = λ n y e. by n y (named_as setting.layout values p h n) e
    where
      by : (n : Names) (y : Thread F A) (o : Option Naming) → to_outside stack p h o ≡ Some y →
          OpensBy (crossing_by f h.share n) c xs (At y)
      by n y None e = absurd (cc e)
      by n y (Some ns) e = let there : Away stack (with_naming p ns) h ≡ y =
          cc e in subst (λ v. OpensBy (crossing_by f h.share n) c xs (At v)) there (opens n h.share)

  calls_open : (function : NameBytes) (values : List Value) (xs : List Opened) (stack : List (Frame F A)) →
      AtMostOneLess xs (waiting l stack) → (p : Past) (h : Holding) (o : Option F) → find l scene.within function ≡ o →
      OpenTo (Some function) xs (calls l setting scene o function values stack p h)
  calls_open function values xs stack less p h (Some f) e = by (l.enter f p.begun values)
    where
      by : (o : Option A) → OpenTo (Some function) xs (calls_in l f o stack p h)
      by None = tt
      by (Some a) =
          (waiting l stack, ap (λ n. Open n ∷ waiting l stack) (found_named l.name scene.within function f e), less)
  calls_open function values xs stack less p h None e = by scene.crosses
    where
      by : (t : Bool) → OpenTo (Some function) xs (calls_out l setting scene t function values stack p h)
      by true = crosses_open (Some function) (Some function) xs stack (λ n share. (refl, less)) values p h
          (can_cross setting.layout p values)
      by false = tt

  back_open : (name : NameBytes) (f : F) (n : ℕ) (o : Option A) (stack : List (Frame F A)) (p : Past) (h : Holding) →
      OpenTo None (Open name ∷ Open (l.name f) ∷ waiting l stack) (goes_back f n o stack p h)
  back_open name f n None stack p h = tt
  back_open name f n (Some a) stack p h = inr (name, l.name f, waiting l stack, refl, refl)

  returns_open : (name : NameBytes) (values : List Value) (stack : List (Frame F A)) (p : Past) (h : Holding) →
      OpenTo None (Open name ∷ waiting l stack) (returns setting.layout values stack p h)
  returns_open name values [] p h = (refl, refl, inr (name, refl))
  returns_open name values (Outer results ∷ stack) p h = by (kept_results results values)
    where
      by : (o : Option (List Value)) → OpenTo None (Open name ∷ Between ∷ waiting l stack)
          (leaves_with setting.layout o stack p h)
      by None = tt
      by (Some kept) = crosses_open None None (Open name ∷ Between ∷ waiting l stack) stack
          (λ n share. (refl, inr (name, refl))) kept p h (can_cross setting.layout p kept)
  returns_open name values (Waits f n results next ∷ stack) p h =
      back_open name f n (and_then (kept_results results values) next) stack p h

  takes_open : (o : Option ℕ) (a : A) (f : F) (n : ℕ) (stack : List (Frame F A)) (p : Past) (h : Holding) →
      OpenTo None (Open (l.name f) ∷ waiting l stack) (takes o h (Runs f n a 0 stack p))
  takes_open None a f n stack p h = tt
  takes_open (Some k) a f n stack p h = by (words_in h.share k)
    where
      by : (o : Option (List ℕ)) → OpenTo None (Open (l.name f) ∷ waiting l stack)
          (takes_lock k o (λ ws. Runs f n a 0 stack p (with_share h (with_lock h.share k ws))))
      by None = λ ws. (refl, refl)
      by (Some ws) = tt

  gives_open : (o : Option ℕ) (a : A) (f : F) (n : ℕ) (stack : List (Frame F A)) (p : Past) (h : Holding) →
      OpenTo None (Open (l.name f) ∷ waiting l stack) (gives o h (Runs f n a 0 stack p))
  gives_open None a f n stack p h = tt
  gives_open (Some k) a f n stack p h = by (words_in h.share k)
    where
      by : (o : Option (List ℕ)) → OpenTo None (Open (l.name f) ∷ waiting l stack)
          (gives_lock k o (Runs f n a 0 stack p (with_share h (without_lock h.share k))))
      by None = tt
      by (Some ws) = (refl, refl)

  acts_open : (o : Option (Last A)) (f : F) (n : ℕ) (stack : List (Frame F A)) (p : Past) (h : Holding) →
      OpenTo (called_by o) (Open (l.name f) ∷ waiting l stack) (acts l setting scene o f n stack p h)
  acts_open None f n stack p h = tt
  acts_open (Some (Goes next)) f n stack p h = inl refl
  acts_open (Some (Takes lock next)) f n stack p h = takes_open (guard_of setting.edge lock) next f n stack p h
  acts_open (Some (Gives lock next)) f n stack p h = gives_open (guard_of setting.edge lock) next f n stack p h
  acts_open (Some (Puts word next)) f n stack p h = (refl, refl)
  acts_open (Some (Calls function values next)) f n stack p h =
      calls_open function values (Open (l.name f) ∷ waiting l stack)
      (Waits f n (results_of setting.edge function) next ∷ stack) (inl refl) p h (find l scene.within function) refl
  acts_open (Some (Tails function values)) f n stack p h =
      calls_open function values (Open (l.name f) ∷ waiting l stack) stack (inr (l.name f, refl)) p
      (without_own l f n h) (find l scene.within function) refl
  acts_open (Some (Returns values)) f n stack p h = returns_open (l.name f) values stack p (without_own l f n h)

  -- What the outside brings.

  abbrev Brought : RunLabel → List (Frame F A) → Thread F A → Type 0
  Brought k stack y = IsBad (M.act y) ⊎ OpensBy k None (waiting l stack) (At y)

  entered_open : (k : RunLabel) (stack : List (Frame F A)) (name : NameBytes) →
      ((f : F) → l.name f ≡ name → OpensBy k None (waiting l stack) (Open (l.name f) ∷ Between ∷ waiting l stack)) →
      (results : Option ℕ) (values : Option (List Value)) (p : Past) (h : Holding) (o : Option F) →
      find l scene.functions name ≡ o → Brought k stack (enters l o values (Outer results ∷ stack) p h)
  entered_open k stack name opens results values p h None e = inl tt
  entered_open k stack name opens results None p h (Some f) e = inl tt
  entered_open k stack name opens results (Some values) p h (Some f) e = by (l.enter f p.begun values)
    where
      by : (o : Option A) → Brought k stack (enters_at l f o (Outer results ∷ stack) p h)
      by None = inl tt
      by (Some a) = inr (opens f (found_named l.name scene.functions name f e))

  back_to : (crossing : _) (stack : List (Frame F A)) (values : Option (List Value)) (p : Past) (h : Holding) →
      Brought (Back crossing) stack (comes_back values stack p h)
  back_to crossing stack None p h = inl tt
  back_to crossing [] (Some values) p h = inl tt
  back_to crossing (Outer results ∷ stack) (Some values) p h = by (kept_results results values)
    where
      by : (o : Option (List Value)) → Brought (Back crossing) (Outer results ∷ stack) (leaves_later o stack p h)
      by None = inl tt
      by (Some kept) = inr (refl, refl)
  back_to crossing (Waits f n results next ∷ stack) (Some values) p h = by (and_then (kept_results results values) next)
    where
      by : (o : Option A) → Brought (Back crossing) (Waits f n results next ∷ stack) (resumes f n o stack p h)
      by None = inl tt
      by (Some a) = inr (refl, refl)

  receives_open : (stack : List (Frame F A)) (p : Past) (h : Holding) (k : RunLabel) →
      Brought k stack (receives l setting scene stack p h k)
  receives_open stack p h (Enter name crossing) = entered_open (Enter name crossing) stack name
      (λ f e. ap (λ v. Open v ∷ Between ∷ waiting l stack) e) (results_of setting.edge name)
      (all_taken (brought h.memory p.naming 0 crossing.objects).naming crossing.values) _ _
      (find l scene.functions name) refl
  receives_open stack p h (Back crossing) = back_to crossing stack
      (all_taken (brought h.memory p.naming 0 crossing.objects).naming crossing.values) _ _
  receives_open stack p h (Lock lock ws) = inl tt
  receives_open stack p h (Unlock lock ws) = inl tt
  receives_open stack p h (Out word) = inl tt
  receives_open stack p h Done = inl tt
  receives_open stack p h (Call name crossing) = inl tt
  receives_open stack p h (Leave crossing) = inl tt

  act_open : (x : Thread F A) → OpenTo (M.called x) (At x) (M.act x)
  act_open (Away stack p h) = receives_open stack p h
  act_open (Runs f n a e stack p h) = acts_open (step_at l setting a h).last f n stack p (step_at l setting a h).holding
  act_open (Leaves values stack p h) = crosses_open None None (Between ∷ waiting l stack) stack
      (λ n share. (refl, inl refl)) values p h (can_cross setting.layout p values)
  act_open Over = tt
  act_open Wrong = tt

  quiet_open : (c : Option NameBytes) (xs : List Opened) (a : Act (Thread F A)) (y : Thread F A) → OpenTo c xs a →
      a ≡ Quiet y → OpensQuietly c xs (At y)
  quiet_open c xs a y o e = let P : Act (Thread F A) → Type 0 = λ v. OpenTo c xs v in subst P e o

  label_open : (ls : List RunLabel) (c : Option NameBytes) (xs : List Opened) (a : Act (Thread F A)) (k : RunLabel)
      (y : Thread F A) → OpenTo c xs a → StepsTo setting.edge ls a k y → IsBad (M.act y) ⊎ OpensBy k c xs (At y)
  label_open ls c xs (Quiet z) k y o e = absurd e
  label_open ls c xs (Emits event z) k y o e =
      inr (subst (λ v. OpensBy v c xs (At y)) e.0 (subst (λ v. OpensBy (label_of event) c xs (At v)) e.1 o))
  label_open ls c xs (Crosses f share next) k y o e = inr (subst (λ v. OpensBy v c xs (At y)) e.1 (o e.0 y e.2))
  label_open ls c xs (Locks lock next) k y o e =
      inr (subst (λ v. OpensBy v c xs (At y)) (sym e.1) (subst (λ v. OpensBy (Lock lock e.0) c xs (At v)) e.3 (o e.0)))
  label_open ls c xs (Receives next) k y o e = subst (λ v. IsBad (M.act v) ⊎ OpensBy k c xs (At v)) e.1 (o k)
  label_open ls c xs Bad k y o e = absurd e
  label_open ls c xs (Stops why) k y o e = absurd e

  pub opens_so : IsBad (M.act start) ⊎ OpensFirst (At start) → Opens setting.edge M
  opens_so first = record {
    first = first;
    quietly = λ ls bs b x r y e. inr (quiet_open (M.called x) (At x) (M.act x) y (act_open x) e);
    by_label = λ ls bs b x r k y e. label_open ls (M.called x) (At x) (M.act x) k y (act_open x) e;
  }

  -- No machine of the layer stops for want of stack.

  abbrev NotFull : Act (Thread F A) → Type 0
  NotFull (Stops Full) = ⊥
  NotFull _ = Unit {0}

  crosses_room : (t : Bool) (f : Option NameBytes) (share : Share) (next : Names → Option (Thread F A)) →
      NotFull (crosses_if t f share next)
  crosses_room true f share next = tt
  crosses_room false f share next = tt

  calls_room : (function : NameBytes) (values : List Value) (stack : List (Frame F A)) (p : Past) (h : Holding)
      (o : Option F) → NotFull (calls l setting scene o function values stack p h)
  calls_room function values stack p h (Some f) = by (l.enter f p.begun values)
    where
      by : (o : Option A) → NotFull (calls_in l f o stack p h)
      by None = tt
      by (Some a) = tt
  calls_room function values stack p h None = by scene.crosses
    where
      by : (t : Bool) → NotFull (calls_out l setting scene t function values stack p h)
      by true = crosses_room (can_cross setting.layout p values) (Some function) h.share _
      by false = tt

  returns_room : (values : List Value) (stack : List (Frame F A)) (p : Past) (h : Holding) →
      NotFull (returns setting.layout values stack p h)
  returns_room values [] p h = tt
  returns_room values (Outer results ∷ stack) p h = by (kept_results results values)
    where
      by : (o : Option (List Value)) → NotFull (leaves_with setting.layout o stack p h)
      by None = tt
      by (Some kept) = crosses_room (can_cross setting.layout p kept) None h.share _
  returns_room values (Waits f n results next ∷ stack) p h = by (and_then (kept_results results values) next)
    where
      by : (o : Option A) → NotFull (goes_back f n o stack p h)
      by None = tt
      by (Some a) = tt

  acts_room : (o : Option (Last A)) (f : F) (n : ℕ) (stack : List (Frame F A)) (p : Past) (h : Holding) →
      NotFull (acts l setting scene o f n stack p h)
  acts_room None f n stack p h = tt
  acts_room (Some (Goes next)) f n stack p h = tt
  acts_room (Some (Takes lock next)) f n stack p h = by (guard_of setting.edge lock)
    where
      lock_room : (k : ℕ) (o : Option (List ℕ)) (next : List ℕ → Thread F A) → NotFull (takes_lock k o next)
      lock_room k None next = tt
      lock_room k (Some ws) next = tt

      by : (o : Option ℕ) → NotFull (takes o h (Runs f n next 0 stack p))
      by None = tt
      by (Some k) = lock_room k (words_in h.share k) _
  acts_room (Some (Gives lock next)) f n stack p h = by (guard_of setting.edge lock)
    where
      unlock_room : (k : ℕ) (o : Option (List ℕ)) (next : Thread F A) → NotFull (gives_lock k o next)
      unlock_room k None next = tt
      unlock_room k (Some ws) next = tt

      by : (o : Option ℕ) → NotFull (gives o h (Runs f n next 0 stack p))
      by None = tt
      by (Some k) = unlock_room k (words_in h.share k) _
  acts_room (Some (Puts word next)) f n stack p h = tt
  acts_room (Some (Calls function values next)) f n stack p h =
      calls_room function values (Waits f n (results_of setting.edge function) next ∷ stack) p h
      (find l scene.within function)
  acts_room (Some (Tails function values)) f n stack p h =
      calls_room function values stack p (without_own l f n h) (find l scene.within function)
  acts_room (Some (Returns values)) f n stack p h = returns_room values stack p (without_own l f n h)

  pub never_full : (x : Thread F A) → M.act x ≡ Stops Full → ⊥
  never_full x e = let P : Act (Thread F A) → Type 0 = NotFull in let no : ⊥ = subst P e (room x) in no
    where
      room : (x : Thread F A) → NotFull (M.act x)
      room (Away stack p h) = tt
      room (Runs f n a extra stack p h) = acts_room (step_at l setting a h).last f n stack p
          (step_at l setting a h).holding
      room (Leaves values stack p h) = crosses_room (can_cross setting.layout p values) None h.share _
      room Over = tt
      room Wrong = tt
