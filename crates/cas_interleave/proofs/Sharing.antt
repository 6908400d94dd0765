-- Along a run of a thread of a whole program its share has the locks that its labels tell.
use Rattle.std.proofs.Common.{◌≡◌, ℕ, List, [], ◌∷◌, Option, Some, None, Bool, true, false, refl, sym, ap, ◌∙◌, subst}
use Rattle.cas_base.specs.declared.label.Label.{Label}
use Rattle.cas_runs.specs.Label.{NameBytes, Crossing, crossing_label, RunLabel, Lock, Unlock, Out, Done, Enter, Back, Call, Leave, ArePlain, plain_label, Share, locks_of}
use Rattle.cas_runs.specs.Edge.{Edge, AreGuarded, IsOrdered, results_of}
use Rattle.cas_runs.specs.Naming.{Layout, Value, Number}
use Rattle.cas_runs.specs.Outside.{MayBring}
use Rattle.cas_runs.specs.Machine.{Act, Quiet, Emits, Crosses, Locks, Receives, Bad, Stops, Names, Machine, StepsTo, label_of, Block, Run, starts as begins_run, quiet, labelled}
use Rattle.cas_runs.specs.Rules.{and_lock, except_lock, locks_after}
use Rattle.cas_runs.specs.Access.{Holding, words_in, with_lock, without_lock}
use Rattle.cas_runs.specs.Unit.{Setting, guard_of}
use Rattle.cas_runs.specs.Calls.{Last, Goes, Takes, Gives, Puts, Calls, Tails, Returns, Activations, Frame, Waits, Outer, Past, Thread, Away, Runs, Leaves, Over, Wrong, nothing_touched, named_as, can_cross, to_outside, crosses_if, crosses_out, kept_results, leaves_with, goes_back, returns, with_share, takes_lock, takes, gives_lock, gives, find, without_own, calls_in, enters_at, step_at, calls, acts, act_at, machine, no_past, no_holding, of_program, starts, language}
use Rattle.cas_runs.proofs.Shares.{SameLength, guarded_under, OrderedAs, with_lock_ordered, without_lock_ordered, performed_kept}
use Rattle.cas_runs.proofs.Closed.{threads_plain}

module _ {F A : Type 0} (l : Activations F A) (setting : Setting) (fs : List F) where
  abbrev E : Edge
  E = setting.edge

  -- the share is in order, and has these locks
  pub record HasLocks (ls : List RunLabel) (share : Share) : Type 0 where
    pub ordered : IsOrdered E share
    pub locks : locks_of share ≡ locks_after ls

  -- so it is where an activation runs
  abbrev pub IsSharing : List RunLabel → Thread F A → Type 0
  IsSharing ls (Runs f serial now extra stack past h) = HasLocks ls h.share
  IsSharing ls _ = Unit {0}

  abbrev Sound : List RunLabel → Act (Thread F A) → Type 0
  Sound ls (Quiet y) = IsSharing ls y
  Sound ls (Emits e y) = IsSharing (label_of e ∷ ls) y
  Sound ls (Locks lock next) = (ws : List ℕ) → AreGuarded E lock ws → IsSharing (Lock lock ws ∷ ls) (next ws)
  Sound ls _ = Unit {0}

  if_sound : (ls : List RunLabel) (t : Bool) (function : Option NameBytes) (share : Share)
      (next : Names → Option (Thread F A)) → Sound ls (crosses_if t function share next)
  if_sound ls true function share next = tt
  if_sound ls false function share next = tt

  crosses_sound : (ls : List RunLabel) (layout : Layout) (function : Option NameBytes) (values : List Value)
      (stack : List (Frame F A)) (past : Past) (h : Holding) →
      Sound ls (crosses_out layout function values stack past h)
  crosses_sound ls layout function values stack past h =
      if_sound ls (can_cross layout past values) function h.share
      (λ names. to_outside stack past h (named_as layout values past h names))

  leaves_sound : (ls : List RunLabel) (o : Option (List Value)) (stack : List (Frame F A)) (past : Past) (h : Holding) →
      Sound ls (leaves_with setting.layout o stack past h)
  leaves_sound ls None stack past h = tt
  leaves_sound ls (Some values) stack past h = crosses_sound ls setting.layout None values stack past h

  back_sound : (ls : List RunLabel) (f : F) (serial : ℕ) (o : Option A) (stack : List (Frame F A)) (past : Past)
      (h : Holding) → HasLocks ls h.share → Sound ls (goes_back f serial o stack past h)
  back_sound ls f serial None stack past h k = tt
  back_sound ls f serial (Some a) stack past h k = k

  returns_sound : (ls : List RunLabel) (values : List Value) (stack : List (Frame F A)) (past : Past) (h : Holding) →
      HasLocks ls h.share → Sound ls (returns setting.layout values stack past h)
  returns_sound ls values [] past h k = tt
  returns_sound ls values (Outer results ∷ stack) past h k =
      leaves_sound ls (kept_results results values) stack past h
  returns_sound ls values (Waits f serial results next ∷ stack) past h k = back_sound ls f serial _ stack past h k

  in_sound : (ls : List RunLabel) (f : F) (o : Option A) (stack : List (Frame F A)) (past : Past) (h : Holding) →
      HasLocks ls h.share → Sound ls (calls_in l f o stack past h)
  in_sound ls f None stack past h k = tt
  in_sound ls f (Some a) stack past h k = k

  calls_sound : (ls : List RunLabel) (o : Option F) (function : NameBytes) (values : List Value)
      (stack : List (Frame F A)) (past : Past) (h : Holding) → HasLocks ls h.share →
      Sound ls (calls l setting (of_program fs) o function values stack past h)
  calls_sound ls None function values stack past h k = tt
  calls_sound ls (Some f) function values stack past h k = in_sound ls f (l.enter f past.begun values) stack past h k

  as_locks : (ls ks : List RunLabel) (share : Share) (locks : List ℕ) → OrderedAs E share locks →
      locks ≡ locks_after ks → HasLocks ks share
  as_locks ls ks share locks o e = record { ordered = o.ordered; locks = o.locks_are ∙ e }

  takes_sound : (ls : List RunLabel) (o : Option ℕ) (f : F) (serial : ℕ) (next : A) (stack : List (Frame F A))
      (past : Past) (h : Holding) → HasLocks ls h.share → Sound ls (takes o h (Runs f serial next 0 stack past))
  takes_sound ls None f serial next stack past h k = tt
  takes_sound ls (Some lock) f serial next stack past h k = by (words_in h.share lock) refl
    where
      by : (o : Option (List ℕ)) → words_in h.share lock ≡ o → Sound ls (takes_lock lock o
          (λ words. Runs f serial next 0 stack past (with_share h (with_lock h.share lock words))))
      by (Some words) e = tt
      by None e = λ ws g. as_locks ls (Lock lock ws ∷ ls) (with_lock h.share lock ws)
          (and_lock lock (locks_of h.share))
          (with_lock_ordered E h.share k.ordered lock ws e (guarded_under E lock ws g))
          (ap (λ v. and_lock lock v) k.locks)

  gives_sound : (ls : List RunLabel) (o : Option ℕ) (f : F) (serial : ℕ) (next : A) (stack : List (Frame F A))
      (past : Past) (h : Holding) → HasLocks ls h.share → Sound ls (gives o h (Runs f serial next 0 stack past))
  gives_sound ls None f serial next stack past h k = tt
  gives_sound ls (Some lock) f serial next stack past h k = by (words_in h.share lock)
    where
      by : (o : Option (List ℕ)) → Sound ls (gives_lock lock o
          (Runs f serial next 0 stack past (with_share h (without_lock h.share lock))))
      by None = tt
      by (Some words) = as_locks ls (Unlock lock words ∷ ls) (without_lock h.share lock)
          (except_lock lock (locks_of h.share)) (without_lock_ordered E h.share k.ordered lock)
          (ap (λ v. except_lock lock v) k.locks)

  acts_sound : (ls : List RunLabel) (o : Option (Last A)) (f : F) (serial : ℕ) (stack : List (Frame F A)) (past : Past)
      (h : Holding) → HasLocks ls h.share → Sound ls (acts l setting (of_program fs) o f serial stack past h)
  acts_sound ls None f serial stack past h k = tt
  acts_sound ls (Some (Goes next)) f serial stack past h k = k
  acts_sound ls (Some (Takes lock next)) f serial stack past h k =
      takes_sound ls (guard_of E lock) f serial next stack past h k
  acts_sound ls (Some (Gives lock next)) f serial stack past h k =
      gives_sound ls (guard_of E lock) f serial next stack past h k
  acts_sound ls (Some (Puts word next)) f serial stack past h k = record { ordered = k.ordered; locks = k.locks }
  acts_sound ls (Some (Calls function values next)) f serial stack past h k =
      calls_sound ls (find l fs function) function values (Waits f serial (results_of E function) next ∷ stack) past h k
  acts_sound ls (Some (Tails function values)) f serial stack past h k =
      calls_sound ls (find l fs function) function values stack past (without_own l f serial h) k
  acts_sound ls (Some (Returns values)) f serial stack past h k =
      returns_sound ls values stack past (without_own l f serial h) k

  act_sound : (ls : List RunLabel) (x : Thread F A) → IsSharing ls x → Sound ls (act_at l setting (of_program fs) x)
  act_sound ls (Away stack past h) k = tt
  act_sound ls (Runs f serial now extra stack past h) k =
      let p = performed_kept E h (l.form now) (record { holding = h; footprint = nothing_touched })
      (record {
        ordered = k.ordered;
        locks_are = refl;
        memory = λ home. same_length (h.memory home);
        reads = λ w m. absurd (elim m [ ]);
        writes = λ w m. absurd (elim m [ ]);
      }) in
      acts_sound ls (step_at l setting now h).last f serial stack past (step_at l setting now h).holding
      (record { ordered = p.ordered; locks = p.locks_are ∙ k.locks })
    where
      same_length : (o : Option (List Value)) → SameLength o o
      same_length None = tt
      same_length (Some vs) = refl
  act_sound ls (Leaves values stack past h) k = crosses_sound ls setting.layout None values stack past h
  act_sound ls Over k = tt
  act_sound ls Wrong k = tt

  -- a label of what crosses isn't plain
  crossing_plain : (function : Option NameBytes) (c : Crossing) (label : Label) →
      plain_label (crossing_label function c) ≡ Some label → ⊥
  crossing_plain None c label e = cc e
  crossing_plain (Some f) c label e = cc e

  brought_plain : (before : List RunLabel) (k : RunLabel) → MayBring E before k → (label : Label) →
      plain_label k ≡ Some label → ⊥
  brought_plain before (Enter f c) b label e = cc e
  brought_plain before (Back c) b label e = cc e
  brought_plain before (Lock n ws) b label e = b
  brought_plain before (Unlock n ws) b label e = b
  brought_plain before (Out w) b label e = b
  brought_plain before Done b label e = b
  brought_plain before (Call f c) b label e = b
  brought_plain before (Leave c) b label e = b

  labelled_sound : (ls : List RunLabel) (a : Act (Thread F A)) (k : RunLabel) (y : Thread F A) → ArePlain (k ∷ ls) →
      Sound ls a → StepsTo E ls a k y → IsSharing (k ∷ ls) y
  labelled_sound ls (Quiet z) k y p s h = absurd h
  labelled_sound ls (Emits e z) k y p s h =
      subst (λ v. IsSharing (k ∷ ls) v) h.1 (subst (λ v. IsSharing (v ∷ ls) z) h.0 s)
  labelled_sound ls (Locks lock next) k y p s h =
      subst (λ v. IsSharing (k ∷ ls) v) h.3 (subst (λ v. IsSharing (v ∷ ls) (next h.0)) (sym h.1) (s h.0 h.2))
  labelled_sound ls (Crosses function share next) k y p s h =
      absurd (crossing_plain function (record { values = h.0.values; share = share; objects = h.0.objects }) p.0.0
      (ap plain_label h.1 ∙ p.0.1))
  labelled_sound ls (Receives next) k y p s h = absurd (brought_plain ls k h.0 p.0.0 p.0.1)
  labelled_sound ls Bad k y p s h = absurd h
  labelled_sound ls (Stops why) k y p s h = absurd h

  module _ (start : Thread F A) where
    abbrev M : Machine (Thread F A)
    M = machine l setting (of_program fs) start

    run_sharing : IsSharing [] start → {ls : List RunLabel} {bs : List Block} {b : Block} {y : Thread F A} →
        Run E M ls bs b y → ArePlain ls → IsSharing ls y
    run_sharing first begins_run p = first
    run_sharing first (quiet {ls = ls} {x = x} y r e) p =
        let s : Sound ls (Quiet y) = subst (λ (a : Act (Thread F A)). Sound ls a) e
        (act_sound ls x (run_sharing first r p)) in
        s
    run_sharing first (labelled {ls = ls} {x = x} k y r e) p =
        labelled_sound ls (act_at l setting (of_program fs) x) k y p (act_sound ls x (run_sharing first r p.1)) e

  starts_sharing : (o : Option F) (thread : ℕ) → IsSharing [] (starts l o thread)
  starts_sharing None thread = tt
  starts_sharing (Some f) thread = by (l.enter f 0 (Number thread ∷ []))
    where
      by : (o : Option A) → IsSharing [] (enters_at l f o [] no_past no_holding)
      by None = tt
      by (Some a) = record { ordered = tt; locks = refl }

  pub threads_share : (entry : NameBytes) (thread : ℕ) {ls : List RunLabel} {bs : List Block} {b : Block}
      {y : Thread F A} → Run E ((language l).thread setting fs entry thread) ls bs b y → IsSharing ls y
  threads_share entry thread {ls = ls} {bs = bs} {b = b} {y = y} r =
      run_sharing (starts l (find l fs entry) thread) (starts_sharing (find l fs entry) thread) r
      (threads_plain l setting fs entry thread ls bs b y r)
