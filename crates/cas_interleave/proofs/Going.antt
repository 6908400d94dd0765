-- Worlds of a checked program go along with labels: a step of a thread over label runs is a turn of the thread.
use Rattle.std.proofs.Common.{◌≡◌, ℕ, ◌+◌, ◌<◌, List, [], ◌∷◌, ◌++◌, Option, Some, None, length, reverse, slice_get, inl, inr, refl, sym, ap, ◌∙◌, subst, ⊎_elim, arith}
use Rattle.std.proofs.lemmas.List.{reverse-append}
use Rattle.cas_program.specs.Program.{env_of, entries_of, initial_words}
use Rattle.cas_program.specs.Laws.{EntriesAreEntered, EntriesAreInOrder, InitialStoreIsWellTyped}
use Rattle.cas_step.specs.Env.{Env}
use Rattle.cas_step.specs.Asks.{word}
use Rattle.cas_step.specs.Step.{Step, start, step}
use Rattle.cas_world.specs.Races.{TouchesAreGuarded, UnlocksAreOfHolders}
use Rattle.cas_world.specs.Sound_worlds.{IsSoundWorld, WorldsAreSound}
use Rattle.cas_world.specs.World.{World, Reaches, IsNext, MayStep, IsEnabled, holders_after, out_after, world_after, at_first, and_step}
use Rattle.cas_runs.specs.Label.{NameBytes, RunLabel, Lock, Unlock, Out, Done, Enter, Back, Call, Leave, Crossing, crossing_label}
use Rattle.cas_runs.specs.Edge.{Cell, LockWord, AreGuarded}
use Rattle.cas_runs.specs.Outside.{IsAmong, MayBring}
use Rattle.cas_runs.specs.Machine.{Act, Quiet, Emits, Crosses, Locks, Receives, Bad, Stops, Event, Unlocks, Prints, Ends, Machine, StepsTo, label_of, Run, begun, onward, starts, quiet, labelled}
use Rattle.cas_runs.specs.Known.{set}
use Rattle.cas_runs.specs.Legal.{ThreadLabel, Free, IsHeld, LockState, state_of, after_label, IsLegal, IsLegalNext, projection}
use Rattle.cas_runs.specs.Legal as legal
use Rattle.cas_runs.specs.Rules.{locks_after}
use Rattle.cas_runs.specs.Access.{words_in}
use Rattle.cas_runs.specs.Calls.{Runs, Away, Leaves as LeavesNow, Over, Wrong}
use Rattle.cas_runs.proofs.Cells.{set_same, set_other, get_inside}
use Rattle.cas_runs.proofs.Ruling.{program_rules}
use Rattle.cas_runs.proofs.Shares.{guarded_under, found}
use Rattle.cas_atomic.specs.Labels.{outs_of}
use Rattle.cas_atomic.proofs.Basic.{same_or_not, if_same, if_not}
use Rattle.cas_clight.specs.Clight.{clight}
use Rattle.cas_bridge.specs.Matching.{DifferUnder}
use Rattle.cas_bridge.specs.Threads.{MatchThreads, AreWordsOf, DifferElsewhere, share_of, Leaves, ThreadsAgree, ThreadsAreFramed, ThreadsStart}
use Rattle.cas_together.specs.Holder.{holder, Held}
use Rattle.cas_together.specs.Threads.{HaveRuns}
use Rattle.cas_together.specs.Turns.{GoAlong}
use Rattle.cas_together.proofs.Cutting.{own_label, other_label}
use Rattle.cas_together.proofs.Families.{put_here, put_else}
use Rattle.cas_together.proofs.Holding.{held, free_unheld}
use Rattle.cas_interleave.specs.Agreeing.{Threads, setting_of, program_of, entry_of, State, machine_of, AreThreads, first_of, StandsAt, IsAlike, Agrees}
use Rattle.cas_interleave.proofs.First.{in_range, replicated, set_tells, started_at, first_words}
use Rattle.cas_interleave.proofs.Sharing.{IsSharing, threads_share}
use Rattle.cas_interleave.proofs.Telling.{is_quiet, is_print, is_end, is_giving, is_taking}

-- what is known of programs and of threads
pub record Laws : Type 0 where
  pub agree : ThreadsAgree
  pub frame : ThreadsAreFramed
  pub start : ThreadsStart
  pub sound : WorldsAreSound
  pub touches : TouchesAreGuarded
  pub unlocks : UnlocksAreOfHolders
  pub in_order : EntriesAreInOrder
  pub entered : EntriesAreEntered
  pub store : InitialStoreIsWellTyped

module _ (laws : Laws) (r : Threads) (are : AreThreads r) where
  abbrev pub C : List Cell
  C = r.edge.cells

  abbrev pub n : ℕ
  n = length r.entries

  abbrev pub e : Env
  e = env_of r.modules

  abbrev pub m : ℕ → Machine State
  m i = machine_of r i

  -- a turn of a thread
  abbrev pub Turn : World → ℕ → World → Type 0
  Turn w i v = (s : Step) × MayStep e w i s × (v ≡ world_after w i s)

  abbrev pub G : World → List ThreadLabel → (ℕ → State) → Type 0
  G w ls ys = Agrees r w ls ys

  -- a turn to a world that agrees
  abbrev Goes : World → ℕ → List ThreadLabel → (ℕ → State) → Type 0
  Goes w i ls ys = (v : World) × Turn w i v × G v ls ys

  have_runs : (w : World) (ls : List ThreadLabel) (ys : ℕ → State) → G w ls ys → HaveRuns r.edge n m ls
  have_runs w ls ys a i there = let t = (a.threads i there).0 in
      record { to = record { blocks = t.0; block = t.1; at = ys i }; run = t.2; there = tt }

  pub held_of : (w : World) (ls : List ThreadLabel) (ys : ℕ → State) → G w ls ys → Held n ls
  held_of w ls ys a = held r.edge n m
      (λ i there. program_rules clight (setting_of r i) tt r.functions (entry_of r i) i (are.laid i)) ls a.legal
      (have_runs w ls ys a)

  pub sound_of : (w : World) (ls : List ThreadLabel) (ys : ℕ → State) → G w ls ys → IsSoundWorld r.modules e w
  sound_of w ls ys a = laws.sound r.modules r.entries are.is_program are.few w a.reached

  pub sharing : (w : World) (ls : List ThreadLabel) (ys : ℕ → State) → G w ls ys → (i : ℕ) → i < n →
      IsSharing clight (setting_of r i) r.functions (projection i ls) (ys i)
  sharing w ls ys a i there = let t = (a.threads i there).0 in
      threads_share clight (setting_of r i) r.functions (entry_of r i) i t.2

  -- what is in the share is among the locks that the labels tell
  share_tells : (i : ℕ) (ls : List RunLabel) (y : State) → IsSharing clight (setting_of r i) r.functions ls y →
      (lock : ℕ) (ws : List ℕ) → words_in (share_of y) lock ≡ Some ws → IsAmong lock (locks_after ls)
  share_tells i ls (Runs f serial now extra stack past h) k lock ws q =
      let it = found r.edge h.share k.ordered lock ws q in
      subst (λ v. IsAmong lock v) k.locks it.among
  share_tells i ls (Away stack past h) k lock ws q = absurd (cc q)
  share_tells i ls (LeavesNow values stack past h) k lock ws q = absurd (cc q)
  share_tells i ls Over k lock ws q = absurd (cc q)
  share_tells i ls Wrong k lock ws q = absurd (cc q)

  -- a lock of the share is the thread's
  pub is_holder : (w : World) (ls : List ThreadLabel) (ys : ℕ → State) → G w ls ys → (i : ℕ) → i < n → (lock : ℕ)
      (ws : List ℕ) → words_in (share_of (ys i)) lock ≡ Some ws → holder lock ls ≡ Some i
  is_holder w ls ys a i there lock ws q = (held_of w ls ys a).holds i there lock
      (share_tells i (projection i ls) (ys i) (sharing w ls ys a i there) lock ws q)

  abbrev Differ : (ℕ → State) → ℕ → List ℕ → List ℕ → Type 0
  Differ ys i words after = DifferUnder C (share_of (ys i)) words after

  -- what a thread writes is elsewhere for another
  elsewhere : (w : World) (ls : List ThreadLabel) (ys : ℕ → State) → G w ls ys → (i j : ℕ) → i < n → j < n →
      (i ≡ j → ⊥) → (words after : List ℕ) → Differ ys i words after →
      DifferElsewhere C (share_of (ys j)) words after
  elsewhere w ls ys a i j here there d words after u k = ⊎_elim inl
      (λ g. let mine = is_holder w ls ys a i here g.0 g.3 g.5 in
      inr (Some g.0, g.1, g.2, g.4, missing g.0 mine (words_in (share_of (ys j)) g.0) refl)) (u k)
    where
      missing : (lock : ℕ) → holder lock ls ≡ Some i → (o : Option (List ℕ)) →
          words_in (share_of (ys j)) lock ≡ o → words_in (share_of (ys j)) lock ≡ None
      missing lock mine None q = q
      missing lock mine (Some ws) q =
          let theirs = is_holder w ls ys a j there lock ws q in
          let same : Some i ≡ Some j = sym mine ∙ theirs in
          absurd (d (cc same))

  -- and not under a free lock
  free_stays : (w : World) (ls : List ThreadLabel) (ys : ℕ → State) → G w ls ys → (i : ℕ) → i < n →
      (after : List ℕ) → Differ ys i w.words after → (lock : ℕ) (words : List ℕ) → holder lock ls ≡ None →
      AreWordsOf C lock words w.words → AreWordsOf C lock words after
  free_stays w ls ys a i here after u lock words none old k initial kind c = old k initial kind c ∙ ⊎_elim sym
      (λ g.
      let same : lock ≡ g.0 = cc (c, g.4) in
      let mine = is_holder w ls ys a i here g.0 g.3 g.5 in
      absurd (cc (none, ap (λ v. holder v ls) same, mine))) (u k)

  -- the step of the thread, with what is known after it
  record After (w : World) (ls : List ThreadLabel) (ys : ℕ → State) (i : ℕ) (s : Step) (ms : List ThreadLabel)
      (y : State) : Type 0 where
    legal : IsLegal C n ms
    own : StandsAt r.edge (m i) (projection i ms) y
    others : (j : ℕ) → (i ≡ j → ⊥) → projection j ms ≡ projection j ls
    differ : Differ ys i w.words s.words
    alike : MatchThreads (program_of r i) s.next s.words y
    holders : (lock : ℕ) (h : Option ℕ) → slice_get (holders_after s.act i w.holders) lock ≡ Some h →
        h ≡ holder lock ms
    free : (lock : ℕ) (words : List ℕ) → slice_get C lock ≡ Some LockWord → state_of C lock ms ≡ Free words →
        AreWordsOf C lock words s.words
    out : out_after s.act i w.out ≡ reverse (outs_of ms)

  go : (w : World) (ls : List ThreadLabel) (ys : ℕ → State) → G w ls ys → (i : ℕ) → i < n → (s : Step) →
      MayStep e w i s → (ms : List ThreadLabel) (y : State) → After w ls ys i s ms y → Goes w i ms (set ys i y)
  go w ls ys a i there s may ms y f =
      let v = world_after w i s in
      let reached : Reaches e (first_of r) v = (a.reached.0 ++ i ∷ [], and_step a.reached.1 i s may) in
      let sound = laws.sound r.modules r.entries are.is_program are.few v reached in
      let within = in_range w.threads i may.next.config may.next.stands in (
        v,
        (s, may, refl),
        record {
          reached = reached;
          legal = f.legal;
          threads = λ j here. elim (same_or_not i j) [
            | inl q ↦ subst (λ k. StandsAt r.edge (m k) (projection k ms) (set ys i y k) × IsAlike r v k (set ys i y k)) q
                (subst (λ z. StandsAt r.edge (m i) (projection i ms) z × IsAlike r v i z) (sym (put_here i y ys))
                (f.own, record { config = s.next; there = set_same w.threads i s.next within; alike = f.alike }))
            | inr d ↦
                let old = a.threads j here in
                subst (λ z. StandsAt r.edge (m j) (projection j ms) z × IsAlike r v j z) (sym (put_else i y ys j d)) (
                  subst (λ k. StandsAt r.edge (m j) k (ys j)) (sym (f.others j d)) old.0,
                  record {
                    config = old.1.config;
                    there = set_other w.threads i j s.next d ∙ old.1.there;
                    alike = laws.frame (program_of r j) old.1.config w.words s.words (ys j) old.1.alike sound.words
                        (elsewhere w ls ys a i j there here d w.words s.words f.differ);
                  },
                )
          ];
          holders = f.holders;
          free = f.free;
          out = f.out;
        },
      )

  quietly : (w : World) (ls : List ThreadLabel) (ys : ℕ → State) (i : ℕ) (y : State) → i < n → G w ls ys →
      (m i).act (ys i) ≡ Quiet y → Goes w i ls (set ys i y)
  quietly w ls ys i y there a q =
      let t = a.threads i there in
      let f = is_quiet (program_of r i) w.words (share_of (ys i)) ((m i).footprint (ys i)) _ _
      (laws.agree (program_of r i) (are.presented i) t.1.config w.words (ys i) t.1.alike) y q in
      let s = f.step in
      let may : MayStep e w i s = record {
        next = record { config = t.1.config; stands = t.1.there; steps = f.is };
        enabled = subst (λ v. IsEnabled v w.holders) (sym f.quietly) tt;
      } in
      go w ls ys a i there s may ls y (record {
        legal = a.legal;
        own = (t.0.0, onward (m i) t.0.1 y, quiet y t.0.2 q);
        others = λ j d. refl;
        differ = f.differ;
        alike = f.alike;
        holders = λ lock h g. a.holders lock h
            (subst (λ v. slice_get (holders_after v i w.holders) lock ≡ Some h) f.quietly g);
        free = λ lock words is g. free_stays w ls ys a i there s.words f.differ lock words
            (free_unheld C lock ls words g) (a.free lock words is g);
        out = ap (λ v. out_after v i w.out) f.quietly ∙ a.out;
      })

  -- A step with a label leaves the words.

  abbrev T : ℕ → RunLabel → ThreadLabel
  T i l = record { thread = i; label = l }

  record Labelled (w : World) (ls : List ThreadLabel) (ys : ℕ → State) (i : ℕ) (l : RunLabel) (y : State) (s : Step) :
      Type 0 where
    there : i < n
    next : IsLegalNext C ls l
    leads : StepsTo r.edge (projection i ls) ((m i).act (ys i)) l y
    may : MayStep e w i s
    leaves : Leaves (program_of r i) w.words (share_of (ys i)) ((m i).footprint (ys i)) s y
    holders : (lock : ℕ) (h : Option ℕ) → slice_get (holders_after s.act i w.holders) lock ≡ Some h →
        h ≡ holder lock (T i l ∷ ls)
    free : (lock : ℕ) (words : List ℕ) → slice_get C lock ≡ Some LockWord →
        after_label lock l (state_of C lock ls) ≡ Free words → AreWordsOf C lock words w.words
    out : out_after s.act i w.out ≡ reverse (outs_of (T i l ∷ ls))

  by_label : (w : World) (ls : List ThreadLabel) (ys : ℕ → State) → G w ls ys → (i : ℕ) (l : RunLabel) (y : State)
      (s : Step) → Labelled w ls ys i l y s → Goes w i (T i l ∷ ls) (set ys i y)
  by_label w ls ys a i l y s f =
      let t = (a.threads i f.there).0 in
      go w ls ys a i f.there s f.may (T i l ∷ ls) y (record {
        legal = (f.there, f.next, a.legal);
        own = (
          t.1 ∷ t.0,
          begun (m i) y,
          subst (λ v. Run r.edge (m i) v (t.1 ∷ t.0) (begun (m i) y) y)
              (sym (own_label i (T i l) ls refl)) (labelled l y t.2 f.leads),
        );
        others = λ j d. other_label j (T i l) ls d;
        differ = λ k. inl (ap (λ v. slice_get v k) f.leaves.same);
        alike = subst (λ v. MatchThreads (program_of r i) s.next v y) (sym f.leaves.same) f.leaves.threads;
        holders = f.holders;
        free = λ lock words is g. subst (λ v. AreWordsOf C lock words v) (sym f.leaves.same) (f.free lock words is g);
        out = f.out;
      })

  -- the step of the thread that has this act, which is enabled
  stepping : (w : World) (ls : List ThreadLabel) (ys : ℕ → State) (a : G w ls ys) (i : ℕ) (there : i < n) (s : Step) →
      step e w.words (a.threads i there).1.config ≡ Some s → IsEnabled s.act w.holders → MayStep e w i s
  stepping w ls ys a i there s is enabled =
      let t = (a.threads i there).1 in
      record { next = record { config = t.config; stands = t.there; steps = is }; enabled = enabled }

  abbrev Goal : World → List ThreadLabel → (ℕ → State) → ℕ → RunLabel → State → Type 0
  Goal w ls ys i l y = Goes w i (T i l ∷ ls) (set ys i y)

  event : (w : World) (ls : List ThreadLabel) (ys : ℕ → State) (i : ℕ) (k : Event) (z : State) → i < n → G w ls ys →
      IsLegalNext C ls (label_of k) → StepsTo r.edge (projection i ls) ((m i).act (ys i)) (label_of k) z →
      (m i).act (ys i) ≡ Emits k z → Goal w ls ys i (label_of k) z
  event w ls ys i (Prints v) z there a next leads q =
      let t = (a.threads i there).1 in
      let f = is_print (program_of r i) w.words (share_of (ys i)) ((m i).footprint (ys i)) _ _
      (laws.agree (program_of r i) (are.presented i) t.config w.words (ys i) t.alike) v z q in
      by_label w ls ys a i (Out v) z f.step (record {
        there = there;
        next = next;
        leads = leads;
        may = stepping w ls ys a i there f.step f.is (subst (λ b. IsEnabled b w.holders) (sym f.out) tt);
        leaves = f.leaves;
        holders = λ lock h g. a.holders lock h
            (subst (λ b. slice_get (holders_after b i w.holders) lock ≡ Some h) f.out g);
        free = λ lock words is g. a.free lock words is g;
        out = ap (λ b. out_after b i w.out) f.out ∙ ap (λ (b : List (ℕ × ℕ)). b ++ (i, v) ∷ []) a.out
            ∙ sym (reverse-append ((i, v) ∷ []) (outs_of ls));
      })
  event w ls ys i Ends z there a next leads q =
      let t = (a.threads i there).1 in
      let f = is_end (program_of r i) w.words (share_of (ys i)) ((m i).footprint (ys i)) _ _
      (laws.agree (program_of r i) (are.presented i) t.config w.words (ys i) t.alike) z q in
      by_label w ls ys a i Done z f.step (record {
        there = there;
        next = next;
        leads = leads;
        may = stepping w ls ys a i there f.step f.is (subst (λ b. IsEnabled b w.holders) (sym f.done) tt);
        leaves = f.leaves;
        holders = λ lock h g. a.holders lock h
            (subst (λ b. slice_get (holders_after b i w.holders) lock ≡ Some h) f.done g);
        free = λ lock words is g. a.free lock words is g;
        out = ap (λ b. out_after b i w.out) f.done ∙ a.out;
      })
  event w ls ys i (Unlocks k ws) z there a next leads q =
      let t = (a.threads i there).1 in
      let f = is_giving (program_of r i) w.words (share_of (ys i)) ((m i).footprint (ys i)) _ _
      (laws.agree (program_of r i) (are.presented i) t.config w.words (ys i) t.alike) k ws z q in
      by_label w ls ys a i (Unlock k ws) z f.step (record {
        there = there;
        next = next;
        leads = leads;
        may = stepping w ls ys a i there f.step f.is (subst (λ b. IsEnabled b w.holders) (sym f.unlock) tt);
        leaves = f.leaves;
        holders = λ lock h g. ⊎_elim
            (λ (p : (k ≡ lock) × (h ≡ None)). p.1 ∙ sym (if_same k lock None (holder lock ls) p.0))
            (λ (p : (k ≡ lock → ⊥) × (slice_get w.holders lock ≡ Some h)).
            a.holders lock h p.1 ∙ sym (if_not k lock None (holder lock ls) p.0))
            (set_tells w.holders k lock None h
            (subst (λ b. slice_get (holders_after b i w.holders) lock ≡ Some h) f.unlock g));
        free = λ lock words is g. elim (same_or_not k lock) [
          | inl p ↦
              let same : Free ws ≡ Free words = sym (if_same k lock (Free ws) (state_of C lock ls) p) ∙ g in
              let words_are : ws ≡ words = cc same in
              subst (λ (b : ℕ). AreWordsOf C b words w.words) p
              (subst (λ (b : List ℕ). AreWordsOf C k b w.words) words_are f.words_are)
          | inr d ↦ a.free lock words is (sym (if_not k lock (Free ws) (state_of C lock ls) d) ∙ g)
        ];
        out = ap (λ b. out_after b i w.out) f.unlock ∙ a.out;
      })

  locks : (w : World) (ls : List ThreadLabel) (ys : ℕ → State) (i k : ℕ) (ws : List ℕ) (go : List ℕ → State) → i < n →
      G w ls ys → IsLegalNext C ls (Lock k ws) → AreGuarded r.edge k ws →
      StepsTo r.edge (projection i ls) ((m i).act (ys i)) (Lock k ws) (go ws) → (m i).act (ys i) ≡ Locks k go →
      Goal w ls ys i (Lock k ws) (go ws)
  locks w ls ys i k ws go there a next guards leads q =
      let t = (a.threads i there).1 in
      let f = is_taking (program_of r i) w.words (share_of (ys i)) ((m i).footprint (ys i)) _ _
      (laws.agree (program_of r i) (are.presented i) t.config w.words (ys i) t.alike) k go q in
      let is_next : IsNext e w i f.step = record { config = t.config; stands = t.there; steps = f.is } in
      let there_is = (sound_of w ls ys a).locks i k f.step is_next f.lock in
      let none = a.holders k there_is.0 there_is.1 ∙ free_unheld C k ls ws next in
      let at : slice_get w.holders k ≡ Some None = there_is.1 ∙ ap (λ (b : Option ℕ). Some b) none in
      by_label w ls ys a i (Lock k ws) (go ws) f.step (record {
        there = there;
        next = next;
        leads = leads;
        may = stepping w ls ys a i there f.step f.is (subst (λ b. IsEnabled b w.holders) (sym f.lock) at);
        leaves = f.leaves ws (guarded_under r.edge k ws guards) (a.free k ws guards.is_lock next);
        holders = λ lock h g. ⊎_elim
            (λ (p : (k ≡ lock) × (h ≡ Some i)). p.1 ∙ sym (if_same k lock (Some i) (holder lock ls) p.0))
            (λ (p : (k ≡ lock → ⊥) × (slice_get w.holders lock ≡ Some h)).
            a.holders lock h p.1 ∙ sym (if_not k lock (Some i) (holder lock ls) p.0))
            (set_tells w.holders k lock (Some i) h
            (subst (λ b. slice_get (holders_after b i w.holders) lock ≡ Some h) f.lock g));
        free = λ lock words is g. elim (same_or_not k lock) [
          | inl p ↦ absurd (cc (g, if_same k lock IsHeld (state_of C lock ls) p))
          | inr d ↦ a.free lock words is (sym (if_not k lock IsHeld (state_of C lock ls) d) ∙ g)
        ];
        out = ap (λ b. out_after b i w.out) f.lock ∙ a.out;
      })

  -- no call crosses in a thread
  never_crosses : (ls : List ThreadLabel) (function : Option NameBytes) (c : Crossing) →
      IsLegalNext C ls (crossing_label function c) → ⊥
  never_crosses ls None c h = h
  never_crosses ls (Some f) c h = h

  never_brought : (ls : List ThreadLabel) (before : List RunLabel) (l : RunLabel) → MayBring r.edge before l →
      IsLegalNext C ls l → ⊥
  never_brought ls before (Enter f x) h k = k
  never_brought ls before (Back x) h k = k
  never_brought ls before (Lock b c) h k = h
  never_brought ls before (Unlock b c) h k = h
  never_brought ls before (Out w) h k = h
  never_brought ls before Done h k = h
  never_brought ls before (Call f x) h k = h
  never_brought ls before (Leave x) h k = h

  abbrev Leads : List ThreadLabel → (ℕ → State) → ℕ → RunLabel → State → Type 0
  Leads ls ys i l y = StepsTo r.edge (projection i ls) ((m i).act (ys i)) l y

  by_act : (w : World) (ls : List ThreadLabel) (ys : ℕ → State) (i : ℕ) (l : RunLabel) (y : State) → i < n →
      G w ls ys → IsLegalNext C ls l → Leads ls ys i l y → (b : Act State) → (m i).act (ys i) ≡ b →
      StepsTo r.edge (projection i ls) b l y → Goal w ls ys i l y
  by_act w ls ys i l y there a next leads (Quiet z) q h = absurd h
  by_act w ls ys i l y there a next leads Bad q h = absurd h
  by_act w ls ys i l y there a next leads (Stops why) q h = absurd h
  by_act w ls ys i l y there a next leads (Crosses function share z) q h = absurd
      (never_crosses ls function (record { values = h.0.values; share = share; objects = h.0.objects })
      (subst (λ v. IsLegalNext C ls v) (sym h.1) next))
  by_act w ls ys i l y there a next leads (Receives z) q h =
      absurd (never_brought ls (projection i ls) l h.0 next)
  by_act w ls ys i l y there a next leads (Emits k z) q h =
      let next' : IsLegalNext C ls (label_of k) = subst (λ v. IsLegalNext C ls v) (sym h.0) next in
      let leads' : Leads ls ys i (label_of k) z = subst (λ v. Leads ls ys i (label_of k) v) (sym h.1)
      (subst (λ v. Leads ls ys i v y) (sym h.0) leads) in
      subst (λ v. Goal w ls ys i l v) h.1
      (subst (λ v. Goal w ls ys i v z) h.0 (event w ls ys i k z there a next' leads' q))
  by_act w ls ys i l y there a next leads (Locks k z) q h =
      let next' : IsLegalNext C ls (Lock k h.0) = subst (λ v. IsLegalNext C ls v) h.1 next in
      let leads' : Leads ls ys i (Lock k h.0) (z h.0) = subst (λ v. Leads ls ys i (Lock k h.0) v) (sym h.3)
      (subst (λ v. Leads ls ys i v y) h.1 leads) in
      subst (λ v. Goal w ls ys i l v) h.3
      (subst (λ v. Goal w ls ys i v (z h.0)) (sym h.1) (locks w ls ys i k h.0 z there a next' h.2 leads' q))

  -- Where all begin.

  begin_thread : (i : ℕ) → i < n → IsAlike r (first_of r) i ((m i).start)
  begin_thread i there =
      let name = get_inside r.entries i there in
      let f = (laws.in_order r.modules r.entries are.is_program).each i name.0 name.1 in
      let plain : 0 + i ≡ i = omega arith in
      record {
        config = start e f.0 (word i ∷ []);
        there = started_at e (entries_of r.modules r.entries) 0 i f.0 f.2
            ∙ ap (λ k. Some (start e f.0 (word k ∷ []))) plain;
        alike = laws.start (program_of r i) (are.presented i) (entries_of r.modules r.entries)
            (laws.entered r.modules r.entries are.is_program are.few) i f.0 (entry_of r i) f.2
            (are.entries_are i f.0 f.2) (initial_words r.modules)
            (laws.store r.modules r.entries are.is_program).1 are.words_are.tables;
      }

  begins : G (first_of r) [] (λ i. (m i).start)
  begins = record {
    reached = ([], at_first);
    legal = tt;
    threads = λ i there. (([], begun (m i) (m i).start, starts), begin_thread i there);
    holders = λ lock h g. replicated (length (initial_words r.modules)) lock None h g;
    free = λ lock words is g.
        let same : legal.initial_words C lock ≡ words = cc g in
        subst (λ v. AreWordsOf C lock v (initial_words r.modules)) same
        (first_words C (initial_words r.modules) are.words_are lock);
    out = refl;
  }

  pub go_along : GoAlong Turn (first_of r) G r.edge n m
  go_along = record {
    begins = begins;
    same = λ w ls ys zs a q. record {
      reached = a.reached;
      legal = a.legal;
      threads = λ i there. subst (λ z. StandsAt r.edge (m i) (projection i ls) z × IsAlike r w i z) (q i there)
          (a.threads i there);
      holders = a.holders;
      free = a.free;
      out = a.out;
    };
    quietly = λ w ls ys i y there a q. quietly w ls ys i y there a q;
    labelled = λ w ls ys i l y there legal a next leads.
        by_act w ls ys i l y there a next leads ((m i).act (ys i)) refl leads;
  }
