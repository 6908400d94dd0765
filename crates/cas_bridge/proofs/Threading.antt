-- The steps of a thread within one activation: it goes on, prints, takes or gives a lock, or goes wrong.
use Rattle.std.proofs.Common.{◌≡◌, ℕ, ◌≤◌, List, [], Option, Some, None, refl, sym, ap, ◌∙◌, subst}
use Rattle.cas_base.specs.declared.act.Act.TheVariants as act
use Rattle.cas_base.specs.declared.act.Why.{Why}
use Rattle.cas_step.specs.Continuation.{ContItem}
use Rattle.cas_step.specs.Sound.{IsSound}
use Rattle.cas_step.specs.Step.{Block, Step, cells_at, doing, thread_with}
use Rattle.cas_step.specs.Well_formed.{IsWellTypedStore}
use Rattle.cas_step.proofs.Soundness.{StaysSound}
use Rattle.cas_runs.specs.Label.{NameBytes}
use Rattle.cas_runs.specs.Edge.{AreUnder, IsOrdered}
use Rattle.cas_runs.specs.Naming.{Own, Value}
use Rattle.cas_runs.specs.Outside.{IsAmong}
use Rattle.cas_runs.specs.Unit.{guard_of}
use Rattle.cas_runs.specs.Access.{Holding, Performed, words_in, with_lock, without_lock}
use Rattle.cas_runs.specs.Calls as Calls
use Rattle.cas_runs.specs.Calls.{Last, Goes, Takes, Gives, Puts, Frame, Thread, Runs, with_share, takes_lock, gives_lock, of_program, acts, nothing_touched, step_at}
use Rattle.cas_runs.proofs.Shares.{Kept, SameLength, performed_kept, with_lock_ordered, without_lock_ordered}
use Rattle.cas_clight.specs.Clight as clight
use Rattle.cas_clight.specs.Clight.{ClightFun, ClightState, at}
use Rattle.cas_bridge.specs.Matching.{IsUnheldWord, MemoryMatches, WordsMatch}
use Rattle.cas_bridge.specs.Steps.{Touched, Going, IsUnchanged}
use Rattle.cas_bridge.specs.Threads.{Program, IsPresented, Standing, context_at, frames_of, Ran, MatchRunning, state_of, MatchThreads, running, ActsAgree, Leaves, quiet, prints, gives, takes, taken, fails, touches, unlocks, is_bad}
use Rattle.cas_bridge.proofs.Meeting.{bridge_of}
use Rattle.cas_bridge.proofs.Locking.{words_taken, words_given}

-- what isn't there stays so
pub none_kept : (o o' : Option (List Value)) → SameLength o o' → o ≡ None → o' ≡ None
none_kept None None same is = refl
none_kept None (Some ws) same is = absurd same
none_kept (Some vs) o' same is = absurd (cc is)

module _ (p : Program) (present : IsPresented p) (owner : ℕ → ClightFun) (r : Standing) (y : Ran)
    (m : MatchRunning p owner r y) where
  abbrev pub now : ClightState
  now = state_of owner r y

  abbrev pub stack : List (Frame ClightFun ClightState)
  stack = frames_of owner (owner r.newest.serial) r.newest.target r.older

  abbrev pub KeptBy : Performed (Last ClightState) → Type 0
  KeptBy q = Kept p.setting.edge y.holding q.holding q.footprint

  -- a step keeps the order of the share, and makes no blocks
  pub step_keeps : KeptBy (step_at clight.clight p.setting (state_of owner r y) y.holding)
  step_keeps = performed_kept p.setting.edge y.holding (clight.clight.form (state_of owner r y))
      (record { holding = y.holding; footprint = nothing_touched })
      (record {
        ordered = m.ordered;
        locks_are = refl;
        memory = λ home. self (y.holding.memory home);
        reads = λ w among. none_among among;
        writes = λ w among. none_among among;
      })
    where
      self : (o : Option (List Value)) → SameLength o o
      self None = tt
      self (Some vs) = refl

      none_among : {w : ℕ} {C : Type 0} → IsAmong w [] → C
      none_among i = elim i [ ]

  pub none_later : (q : Performed (Last ClightState)) → KeptBy q → (function : NameBytes) (serial block : ℕ) →
      r.fresh ≤ serial → q.holding.memory (Own function serial block) ≡ None
  none_later q kept function serial block late = none_kept (y.holding.memory (Own function serial block))
      (q.holding.memory (Own function serial block)) (kept.memory (Own function serial block))
      (m.blocks.none_later function serial block late)

  -- both at the same after a step of the activation
  pub moved : (s : Step) (cont : List ContItem) (memory : List Block) (words : List ℕ) (hold : Holding) →
      s.next ≡ thread_with (context_at r) (doing (context_at r) cont) memory → IsSound p.modules p.env s.next →
      IsWellTypedStore p.env words → MemoryMatches owner (cells_at memory) hold.memory →
      ((function : NameBytes) (serial block : ℕ) → r.fresh ≤ serial → hold.memory (Own function serial block) ≡ None) →
      WordsMatch p.setting.edge.cells hold.share words → IsOrdered p.setting.edge hold.share →
      MatchThreads p s.next words (Runs (owner r.newest.serial) r.newest.serial
      (at (owner r.newest.serial) r.newest.serial [] cont) 0 (stack) y.past hold)
  moved s cont memory words hold next sound store blocks none same ordered =
      subst (λ c. MatchThreads p c words (Runs (owner r.newest.serial) r.newest.serial
      (at (owner r.newest.serial) r.newest.serial [] cont) 0 (stack) y.past hold)) (sym next)
      (running owner after (record { passed = []; past = y.past; holding = hold }) 0
      (record {
        sound = subst (λ c. IsSound p.modules p.env c) next sound;
        store = store;
        owners = (m.owners.0, m.owners.1);
        begun = m.begun;
        blocks = record { memory = blocks; room = tt; none_later = none };
        words = same;
        ordered = ordered;
      }))
    where
      after : Standing
      after = record {
        newest = record {
          serial = r.newest.serial;
          function = r.newest.function;
          target = r.newest.target;
          cont = cont;
        };
        older = r.older;
        memory = memory;
        fresh = r.fresh;
        words = words;
      }

  -- the act of the thread of label runs whose step does this at last, and that of the program's thread
  abbrev pub Agrees : Option Step → Performed (Last ClightState) → Option (Last ClightState) → Type 0
  Agrees o q last = ActsAgree p r.words y.holding.share q.footprint o
      (acts clight.clight p.setting (of_program p.functions) last (owner r.newest.serial) r.newest.serial
      (frames_of owner (owner r.newest.serial) r.newest.target r.older) y.past q.holding)

  abbrev pub Goes_on : Step → Performed (Last ClightState) → Type 0
  Goes_on s q = Going (bridge_of p owner) (context_at r) (state_of owner r y) y.holding s q

  abbrev pub Stays : Option Step → Type 0
  Stays o = StaysSound p.modules p.env o

  -- only the continuation has changed, and this is held
  same_words : (s : Step) (q : Performed (Last ClightState)) (g : Goes_on s q) →
      IsUnchanged (bridge_of p owner) (context_at r) (state_of owner r y) y.holding s q g → KeptBy q → Stays (Some s) →
      (hold : Holding) → hold.memory ≡ q.holding.memory →
      WordsMatch p.setting.edge.cells hold.share r.words → IsOrdered p.setting.edge hold.share →
      Leaves p r.words y.holding.share q.footprint s
      (Runs (owner r.newest.serial) r.newest.serial (at (owner r.newest.serial) r.newest.serial [] g.cont) 0 (stack)
      y.past hold)
  same_words s q g unchanged kept stays hold is words ordered = record {
    same = unchanged.0;
    footprint = g.footprint;
    threads = moved s g.cont g.memory r.words hold g.next stays.0
        (subst (λ ws. IsWellTypedStore p.env ws) unchanged.0 stays.1)
        (subst (λ x. MemoryMatches owner (cells_at g.memory) x) (sym is) g.holds.memory)
        (λ function serial block late. ap (λ x. x (Own function serial block)) is
        ∙ none_later q kept function serial block late) words ordered;
  }

  -- the words that both hold are these
  words_here : (s : Step) (q : Performed (Last ClightState)) (g : Goes_on s q) → s.words ≡ r.words →
      WordsMatch p.setting.edge.cells q.holding.share r.words
  words_here s q g same = subst (λ ws. WordsMatch p.setting.edge.cells q.holding.share ws) same g.holds.words

  pub goes_agrees : (s : Step) (q : Performed (Last ClightState)) (g : Goes_on s q) → s.act ≡ act.Quiet → KeptBy q →
      Stays (Some s) → Agrees (Some s) q (Some (Goes (at (owner r.newest.serial) r.newest.serial [] g.cont)))
  goes_agrees s q g is kept stays =
      quiet s _ is g.footprint g.under
      (moved s g.cont g.memory s.words q.holding g.next stays.0 stays.1 g.holds.memory (none_later q kept) g.holds.words
      kept.ordered)

  pub prints_agree : (n : ℕ) (s : Step) (q : Performed (Last ClightState)) (g : Goes_on s q) → s.act ≡ act.Out n →
      IsUnchanged (bridge_of p owner) (context_at r) (state_of owner r y) y.holding s q g → KeptBy q → Stays (Some s) →
      Agrees (Some s) q (Some (Puts n (at (owner r.newest.serial) r.newest.serial [] g.cont)))
  prints_agree n s q g is unchanged kept stays =
      prints n s _ is (same_words s q g unchanged kept stays q.holding refl (words_here s q g unchanged.0) kept.ordered)

  pub takes_agree : (n : ℕ) (name : NameBytes) (s : Step) (q : Performed (Last ClightState)) (g : Goes_on s q) →
      s.act ≡ act.Lock n → IsUnchanged (bridge_of p owner) (context_at r) (state_of owner r y) y.holding s q g →
      guard_of p.setting.edge name ≡ Some n → KeptBy q → Stays (Some s) →
      Agrees (Some s) q (Some (Takes name (at (owner r.newest.serial) r.newest.serial [] g.cont)))
  takes_agree n name s q g is unchanged guard kept stays =
      subst (λ o. ActsAgree p r.words y.holding.share q.footprint (Some s) (Calls.takes o q.holding go)) (sym guard)
      (by (words_in q.holding.share n) refl)
    where
      go : Holding → Thread ClightFun ClightState
      go = Runs (owner r.newest.serial) r.newest.serial (at (owner r.newest.serial) r.newest.serial [] g.cont) 0
          (frames_of owner (owner r.newest.serial) r.newest.target r.older) y.past

      by : (o : Option (List ℕ)) → words_in q.holding.share n ≡ o →
          ActsAgree p r.words y.holding.share q.footprint (Some s)
          (takes_lock n o (λ words. go (with_share q.holding (with_lock q.holding.share n words))))
      by None free = takes n s _ is (λ held under are.
          same_words s q g unchanged kept stays (with_share q.holding (with_lock q.holding.share n held)) refl
          (words_taken p.setting.edge.cells q.holding.share r.words (words_here s q g unchanged.0) n held are)
          (with_lock_ordered p.setting.edge q.holding.share kept.ordered n held free under).ordered)
      by (Some ws) there = taken n ws s is (ap (λ share. words_in share n) (sym unchanged.2) ∙ there)

  pub gives_agree : (n : ℕ) (name : NameBytes) (s : Step) (q : Performed (Last ClightState)) (g : Goes_on s q) →
      s.act ≡ act.Unlock n → IsUnchanged (bridge_of p owner) (context_at r) (state_of owner r y) y.holding s q g →
      guard_of p.setting.edge name ≡ Some n → KeptBy q → Stays (Some s) →
      Agrees (Some s) q (Some (Gives name (at (owner r.newest.serial) r.newest.serial [] g.cont)))
  gives_agree n name s q g is unchanged guard kept stays =
      subst (λ o. ActsAgree p r.words y.holding.share q.footprint (Some s) (Calls.gives o q.holding go)) (sym guard)
      (by (words_in q.holding.share n) refl)
    where
      go : Holding → Thread ClightFun ClightState
      go = Runs (owner r.newest.serial) r.newest.serial (at (owner r.newest.serial) r.newest.serial [] g.cont) 0
          (frames_of owner (owner r.newest.serial) r.newest.target r.older) y.past

      by : (o : Option (List ℕ)) → words_in q.holding.share n ≡ o →
          ActsAgree p r.words y.holding.share q.footprint (Some s)
          (gives_lock n o (go (with_share q.holding (without_lock q.holding.share n))))
      by None free = fails s (unlocks n is (ap (λ share. words_in share n) (sym unchanged.2) ∙ free))
      by (Some ws) there =
          gives n ws s _ is ((words_here s q g unchanged.0).held n ws there)
          (same_words s q g unchanged kept stays (with_share q.holding (without_lock q.holding.share n)) refl
          (words_given (AreUnder p.setting.edge) p.setting.edge.cells q.holding.share r.words kept.ordered
          (words_here s q g unchanged.0) n)
          (without_lock_ordered p.setting.edge q.holding.share kept.ordered n).ordered)

  -- a step that goes wrong
  pub bad_agrees : (why : Why) (s : Step) (q : Performed (Last ClightState)) → s.act ≡ act.Bad why →
      Agrees (Some s) q None
  bad_agrees why s q is = fails s (is_bad why is)

  pub touch_agrees : (n : ℕ) (o : Option Step) (q : Performed (Last ClightState)) →
      IsUnheldWord p.setting.edge.cells y.holding.share n → Touched o n → Stays o → Agrees o q None
  touch_agrees n None q missing touched stays = absurd stays
  touch_agrees n (Some s) q missing touched stays = fails s (touches n missing touched)
