-- The machines of the layer of calls keep the rules, whatever the activations do.
use Rattle.std.proofs.Common.{◌≡◌, ℕ, zero, suc, ◌+◌, ◌≤◌, List, [], ◌∷◌, ◌⊎◌, inl, inr, Option, Some, None, Bool, true, false, length, slice_get, refl, sym, ap, ◌∙◌, subst, arith}
use Rattle.cas_runs.specs.Label.{NameBytes, Share, Object, Crossing, RunLabel, Lock, Unlock, Out, Done, Enter, Back, Call, Leave, locks_of}
use Rattle.cas_runs.specs.Edge.{Cell, LockWord, SharedWord, TableWord, Stretch, Edge, AreGuarded, IsOrdered, results_of}
use Rattle.cas_runs.specs.Outside.{Pending, Called, Entered, without_newest, pending, crossed, numbered, IsAmong, Brings, MayBring}
use Rattle.cas_runs.specs.Naming.{Value, Number, ArePlaced, Part, parts_at, Naming, and_then, objects_of, all_taken, brought}
use Rattle.cas_runs.specs.Machine.{Act, Quiet, Emits, Crosses, Locks, Receives, Bad, Stops, Names, label_of, crossing_by, Machine, StepsTo, IsBad, Block, Run, starts as begins_run, quiet, labelled}
use Rattle.cas_runs.specs.Rules.{and_lock, locks_after, IsShared, Leaves, LeavesAll, Carries, IsReturnFor, NameOne, MayEmit, MayCrossBy, HasEnded, MayHalt, MayReceive, MayAct, IsReceiving, OpensFirst, Opens, Proceeds, KeepsRules}
use Rattle.cas_runs.specs.Rules as rules
use Rattle.cas_runs.specs.Bounds.{IsTariff}
use Rattle.cas_runs.specs.Access.{Holding, words_in, with_lock, without_lock}
use Rattle.cas_runs.specs.Unit.{Setting, AreLaidOut, IsLayout, lock_at, lock_number, guard_of}
use Rattle.cas_runs.specs.Calls.{Last, Goes, Takes, Gives, Puts, Calls, Tails, Returns, Activations, Scene, Frame, Waits, Outer, Past, Thread, Away, Runs, Leaves as LeavesNow, Over, Wrong, nothing_touched, named_as, can_cross, with_naming, to_outside, crosses_if, crosses_out, kept_results, leaves_with, leaves_later, goes_back, returns, resumes, comes_back, with_share, takes_lock, takes, gives_lock, gives, find, with_own, without_own, one_begun, calls_in, enters_at, enters, step_at, calls_out, calls, acts, receives, machine, no_past, no_holding, outside_first, starts, language}
use Rattle.cas_runs.proofs.Found.{found_named}
use Rattle.cas_runs.proofs.Showing.{some_names, named_so}
use Rattle.cas_runs.proofs.Agreeing.{Once, all_once, brought_once, names_agree}
use Rattle.cas_runs.proofs.Opening.{opens_so}
use Rattle.cas_runs.proofs.Lifting.{step_costs, waiting_costs}
use Rattle.cas_runs.proofs.Outgoing.{all_count, objects_count, shown_count}
use Rattle.cas_runs.proofs.Turns.{hears_outside, listens_after}
use Rattle.cas_runs.proofs.Shares.{guarded_under, share_ordered, found, not_found, with_lock_ordered, without_lock_ordered, SameLength, Kept, performed_kept}
use Rattle.cas_runs.proofs.Objects.{SoundMemory, SoundNaming, MemoryStep, lengths_step, lengths_sound, naming_step, ShowsAll, shows_step, shows_now, gone_step, gone_sound, fresh_step, fresh_sound, all_grown, leaves_all, ExactAll, exact_now, brought_so}

-- a guard is a lock
lock_is : (o : Option Cell) (k n : ℕ) → lock_at o k ≡ Some n → (o ≡ Some LockWord) × (k ≡ n)
lock_is None k n e = absurd (cc e)
lock_is (Some LockWord) k n e = (refl, cc e)
lock_is (Some (SharedWord kind guard initial)) k n e = absurd (cc e)
lock_is (Some (TableWord value)) k n e = absurd (cc e)

guard_is : (edge : Edge) (s : Option Stretch) (n : ℕ) → lock_number edge.cells s ≡ Some n →
    slice_get edge.cells n ≡ Some LockWord
guard_is edge None n e = absurd (cc e)
guard_is edge (Some s) n e = let is = lock_is (slice_get edge.cells s.first) s.first n e in
    subst (λ k. slice_get edge.cells k ≡ Some LockWord) is.1 is.0

-- the calls and entries that haven't returned, and the stack
mutual
  pub data RunsFor {F A : Type 0} : List Pending → List (Frame F A) → Type 0 where
    at_bottom : RunsFor [] []
    at_waits : {ps : List Pending} {f : F} {n : ℕ} {results : Option ℕ} {next : List Value → Option A}
        {stack : List (Frame F A)} → RunsFor ps stack → RunsFor ps (Waits f n results next ∷ stack)
    at_outer : {ps : List Pending} {g : NameBytes} {locks : List ℕ} {results : Option ℕ} {stack : List (Frame F A)} →
        AwayFor ps stack → RunsFor (Entered g locks ∷ ps) (Outer results ∷ stack)

  pub data AwayFor {F A : Type 0} : List Pending → List (Frame F A) → Type 0 where
    at_first : AwayFor [] []
    at_call : {ps : List Pending} {f : NameBytes} {locks : List ℕ} {stack : List (Frame F A)} → RunsFor ps stack →
        AwayFor (Called f locks ∷ ps) stack

module _ {F A : Type 0} (l : Activations F A) (setting : Setting) (scene : Scene F) (start : Thread F A)
    (prices : IsTariff l.tariff) (laid : IsLayout (language l) scene.functions setting.layout)
    (laid_in : IsLayout (language l) scene.within setting.layout) where
  abbrev M : Machine (Thread F A)
  M = machine l setting scene start

  abbrev E : Edge
  E = setting.edge

  -- what holds of what a thread holds, after these labels
  record Common (ls : List RunLabel) (p : Past) (h : Holding) : Type 0 where
    ordered : IsOrdered E h.share
    locks : locks_of h.share ≡ locks_after ls
    memory : SoundMemory setting.layout p.begun h.memory
    naming : SoundNaming setting.layout p.begun h.memory 0 p.naming
    once : Once p.naming
    shows : ShowsAll setting.layout (crossed ls) h.memory p.naming

  data Inv (ls : List RunLabel) : Thread F A → Type 0 where
    away : {stack : List (Frame F A)} {p : Past} {h : Holding} (ps : List Pending) → Common ls p h →
        ExactAll setting.layout (crossed ls) h.memory p.naming → pending ls ≡ ps → AwayFor ps stack →
        Inv ls (Away stack p h)
    runs : {f : F} {n e : ℕ} {a : A} {stack : List (Frame F A)} {p : Past} {h : Holding} → Common ls p h →
        RunsFor (pending ls) stack → Inv ls (Runs f n a e stack p h)
    leaving : {values : List Value} {stack : List (Frame F A)} {p : Past} {h : Holding} (g : NameBytes) (locks : List ℕ)
        (older : List Pending) → Common ls p h → pending ls ≡ Entered g locks ∷ older → AwayFor older stack →
        Inv ls (LeavesNow values stack p h)
    over : HasEnded ls → Inv ls Over
    wrong : Inv ls Wrong

  -- what an act has to meet, and that what follows it holds on
  abbrev Sound : List RunLabel → Act (Thread F A) → Type 0
  Sound ls (Quiet y) = Inv ls y
  Sound ls (Emits event y) = MayEmit E ls (label_of event) × Inv (label_of event ∷ ls) y
  Sound ls (Crosses f share next) = MayCrossBy E ls f share next
      × ((n : Names) (y : Thread F A) → next n ≡ Some y → Inv (crossing_by f share n ∷ ls) y)
  Sound ls (Locks lock next) = (slice_get E.cells lock ≡ Some LockWord) × (IsAmong lock (locks_after ls) → ⊥)
      × ((ws : List ℕ) → AreGuarded E lock ws → Inv (Lock lock ws ∷ ls) (next ws))
  Sound ls (Receives next) = (k : RunLabel) → MayBring E ls k → Inv (k ∷ ls) (next k)
  Sound ls Bad = Unit {0}
  Sound ls (Stops why) = MayHalt ls why

  -- Activations that begin and end.

  common_step : (ls ks : List RunLabel) (p : Past) (h h' : Holding) (n : ℕ) → Common ls p h → p.begun ≤ n →
      MemoryStep setting.layout p.begun h.memory h'.memory → SoundMemory setting.layout n h'.memory →
      crossed ks ≡ crossed ls → IsOrdered E h'.share → locks_of h'.share ≡ locks_after ks →
      Common ks (record { naming = p.naming; begun = n }) h'
  common_step ls ks p h h' n c le s m e o k = record {
    ordered = o;
    locks = k;
    memory = m;
    naming = naming_step setting.layout p.begun n h.memory h'.memory le s 0 p.naming c.naming;
    once = c.once;
    shows = subst (λ os. ShowsAll setting.layout os h'.memory p.naming) (sym e)
        (shows_step setting.layout p.begun h.memory h'.memory s 0 (crossed ls) p.naming c.naming c.shows);
  }

  laid_blocks : (sizes : List ℕ) (k : ℕ) (parts : ℕ → List Part) → AreLaidOut sizes k parts → (j i size : ℕ) →
      i ≡ k + j → slice_get sizes j ≡ Some size → ArePlaced 0 size (parts i)
  laid_blocks [] k parts h j i size e g = absurd (cc g)
  laid_blocks (x ∷ sizes) k parts h zero i size e g =
      let here : k ≡ i = omega (arith, e) in
      let same : x ≡ size = cc g in
      subst (λ v. ArePlaced 0 v (parts i)) same (subst (λ v. ArePlaced 0 x (parts v)) here h.0)
  laid_blocks (x ∷ sizes) k parts h (suc j) i size e g =
      laid_blocks sizes (k + 1) parts h.1 j i size (omega (arith, e)) g

  abbrev Laid : F → Type 0
  Laid f = AreLaidOut (l.blocks f) 0 (setting.layout (l.name f))

  find_laid : (fs : List F) → IsLayout (language l) fs setting.layout → (name : NameBytes) (f : F) →
      find l fs name ≡ Some f → Laid f
  find_laid fs h name f e = subst (λ v. AreLaidOut (l.blocks f) 0 (setting.layout v))
      (sym (found_named l.name fs name f e)) (h name f e)

  begins_common : (ls : List RunLabel) (p : Past) (h : Holding) (f : F) → Common ls p h → Laid f →
      Common ls (one_begun l p) (with_own l f p.begun h)
  begins_common ls p h f c k =
      common_step ls ls p h (with_own l f p.begun h) (p.begun + 1) c (omega arith)
      (fresh_step setting.layout l.first_word p.begun h.memory (l.name f) (l.blocks f))
      (fresh_sound setting.layout l.first_word p.begun h.memory (l.name f) (l.blocks f)
      (λ j size e. laid_blocks (l.blocks f) 0 (setting.layout (l.name f)) k j j size (omega arith) e) c.memory)
      refl c.ordered c.locks

  ends_common : (ls : List RunLabel) (p : Past) (h : Holding) (f : F) (n : ℕ) → Common ls p h →
      Common ls p (without_own l f n h)
  ends_common ls p h f n c =
      common_step ls ls p h (without_own l f n h) p.begun c (omega arith)
      (gone_step setting.layout p.begun h.memory (l.name f) n (l.blocks f))
      (gone_sound setting.layout p.begun h.memory (l.name f) n (l.blocks f) c.memory) refl c.ordered c.locks

  -- the same memory, after a label that brings and shows no objects
  share_common : (ls ks : List RunLabel) (p : Past) (h : Holding) (share : Share) → Common ls p h →
      crossed ks ≡ crossed ls → IsOrdered E share → locks_of share ≡ locks_after ks → Common ks p (with_share h share)
  share_common ls ks p h share c e o k =
      record {
        ordered = o;
        locks = k;
        memory = c.memory;
        naming = c.naming;
        once = c.once;
        shows = subst
            (λ os. ShowsAll setting.layout os h.memory p.naming) (sym e) c.shows;
      }

  -- What crosses.

  record CrossedSo (ls : List RunLabel) (p : Past) (h : Holding) (names : Names) (ns : Naming) : Type 0 where
    carries : Carries E ls (record { values = names.values; share = h.share; objects = names.objects })
    objects : objects_of h.memory ns ≡ names.objects
    naming : SoundNaming setting.layout p.begun h.memory 0 ns
    once : Once ns

  crossed_so : (ls : List RunLabel) (p : Past) (h : Holding) → Common ls p h →
      (values : List Value) (names : Names) (ns : Naming) → named_as setting.layout values p h names ≡ Some ns →
      CrossedSo ls p h names ns
  crossed_so ls p h c values names ns e =
      let s = named_so setting.layout values p h names ns e in
      let grown = all_grown setting.layout p.begun h.memory values names.values p.naming c.naming ns s.values_named in
      let count : numbered (length (crossed ls)) names.values ≡ Some (length names.objects) =
      ap (λ n. numbered n names.values) (shown_count setting.layout (crossed ls) h.memory p.naming c.shows)
      ∙ all_count (parts_at setting.layout p.begun) values names.values p.naming ns s.values_named
      ∙ ap (λ n. Some n) (sym (objects_count h.memory ns))
      ∙ ap (λ (os : List Object). Some (length os)) s.objects in
      let leave : LeavesAll (crossed ls) names.objects =
      subst (λ os. LeavesAll (crossed ls) os) s.objects
      (leaves_all setting.layout p.begun h.memory c.memory 0 (crossed ls) p.naming ns grown.sound grown.more
      c.shows) in
      record {
        carries = record { share = c.ordered; same_locks = c.locks; objects = leave; numbers = count };
        objects = s.objects;
        naming = grown.sound;
        once = all_once (parts_at setting.layout p.begun) values names.values p.naming c.once ns s.values_named;
      }

  -- after a label that shows this
  out_common : (ls : List RunLabel) (k : RunLabel) (p : Past) (h : Holding) → Common ls p h →
      (names : Names) (ns : Naming) → CrossedSo ls p h names ns → crossed (k ∷ ls) ≡ names.objects →
      locks_after (k ∷ ls) ≡ locks_of h.share → Common (k ∷ ls) (with_naming p ns) h
      × ExactAll setting.layout (crossed (k ∷ ls)) h.memory ns
  out_common ls k p h c names ns s e g =
      let objects : objects_of h.memory ns ≡ crossed (k ∷ ls) = s.objects ∙ sym e in (
        record {
          ordered = c.ordered;
          locks = sym g;
          memory = c.memory;
          naming = s.naming;
          once = s.once;
          shows = subst
              (λ os. ShowsAll setting.layout os h.memory ns) objects (shows_now setting.layout h.memory ns);
        },
        subst (λ os. ExactAll setting.layout os h.memory ns) objects (exact_now setting.layout h.memory ns),
      )

  -- a Call or a Leave, by its names
  crosses_sound : (ls : List RunLabel) (p : Past) (h : Holding) → Common ls p h →
      (function : Option NameBytes) (values : List Value) (stack : List (Frame F A)) → IsReturnFor function ls →
      ((n : Names) → crossed (crossing_by function h.share n ∷ ls) ≡ n.objects) →
      ((n : Names) → locks_after (crossing_by function h.share n ∷ ls) ≡ locks_of h.share) →
      ((n : Names) → (ps : List Pending) × (pending (crossing_by function h.share n ∷ ls) ≡ ps) × AwayFor ps stack) →
      Sound ls (crosses_out setting.layout function values stack p h)
  crosses_sound ls p h c function values stack returns shows locks waits = by (can_cross setting.layout p values) refl
    where
      to_of : (n : Names) (y : Thread F A) (o : Option Naming) → named_as setting.layout values p h n ≡ o →
          to_outside stack p h o ≡ Some y → (ns : Naming) × (named_as setting.layout values p h n ≡ Some ns)
          × (Away stack (with_naming p ns) h ≡ y)
      to_of n y None i g = absurd (cc g)
      to_of n y (Some ns) i g = (ns, i, cc g)

      to : (n : Names) (y : Thread F A) → to_outside stack p h (named_as setting.layout values p h n) ≡ Some y →
          (ns : Naming) × (named_as setting.layout values p h n ≡ Some ns) × (Away stack (with_naming p ns) h ≡ y)
      to n y g = to_of n y (named_as setting.layout values p h n) refl g

      by : (t : Bool) → can_cross setting.layout p values ≡ t →
          Sound ls (crosses_if t function h.share
          (λ names. to_outside stack p h (named_as setting.layout values p h names)))
      by false e = tt
      by true e = (
        (let some = some_names setting.layout values p h e in record {
          names = some.names;
          to = Away stack (with_naming p some.naming) h;
          has_names = ap (λ (o : Option Naming). to_outside stack p h o) some.named;
          each = λ n y g. let t = to n y g in let s = crossed_so ls p h c values n t.0 t.1 in
              record { returns = returns; carries = s.carries };
          alike = λ n m y z g k. let t = to n y g in let u = to m z k in
              subst (λ i. NameOne i n m) (sym (shown_count setting.layout (crossed ls) h.memory p.naming c.shows))
              (names_agree setting.layout values p h c.memory c.naming c.once n m t.0 u.0 t.1 u.1);
        }),
        λ n y g. let t = to n y g in
            let s = crossed_so ls p h c values n t.0 t.1 in
            let out = out_common ls (crossing_by function h.share n) p h c n t.0 s (shows n) (locks n) in
            let w = waits n in
            subst (λ v. Inv (crossing_by function h.share n ∷ ls) v) t.2 (away w.0 out.0 out.1 w.1 w.2),
      )

  call_sound : (ls : List RunLabel) (p : Past) (h : Holding) → Common ls p h →
      (function : NameBytes) (values : List Value) (stack : List (Frame F A)) → RunsFor (pending ls) stack →
      Sound ls (crosses_out setting.layout (Some function) values stack p h)
  call_sound ls p h c function values stack w = crosses_sound ls p h c (Some function) values stack tt (λ n. refl)
      (λ n. refl) (λ n. (Called function (locks_of h.share) ∷ pending ls, refl, at_call w))

  leaves_sound : (ls : List RunLabel) (p : Past) (h : Holding) → Common ls p h →
      (values : List Value) (stack : List (Frame F A)) (g : NameBytes) (locks : List ℕ) (older : List Pending) →
      pending ls ≡ Entered g locks ∷ older → AwayFor older stack →
      Sound ls (crosses_out setting.layout None values stack p h)
  leaves_sound ls p h c values stack g locks older newest w =
      crosses_sound ls p h c None values stack (record { function = g; locks = locks; older = older; newest = newest })
      (λ n. refl) (λ n. refl) (λ n. (older, ap without_newest newest, w))

  -- Calls and returns.

  goes_back_sound : (ls : List RunLabel) (p : Past) (h : Holding) → Common ls p h →
      (f : F) (n : ℕ) (stack : List (Frame F A)) → RunsFor (pending ls) stack → (o : Option A) →
      Sound ls (goes_back f n o stack p h)
  goes_back_sound ls p h c f n stack w None = tt
  goes_back_sound ls p h c f n stack w (Some a) = runs c w

  returns_sound : (ls : List RunLabel) (p : Past) (h : Holding) → Common ls p h →
      (values : List Value) (ps : List Pending) (stack : List (Frame F A)) → pending ls ≡ ps → RunsFor ps stack →
      Sound ls (returns setting.layout values stack p h)
  returns_sound ls p h c values ps stack e at_bottom = (tt, over tt)
  returns_sound ls p h c values ps stack e (at_waits {f = f} {n = n} {results = results} {next = next} {stack = rest} w)
      = goes_back_sound ls p h c f n rest (subst (λ v. RunsFor v rest) (sym e) w)
      (and_then (kept_results results values) next)
  returns_sound ls p h c values ps stack e
      (at_outer {ps = older} {g = g} {locks = locks} {results = results} {stack = rest} w) =
      by (kept_results results values)
    where
      by : (o : Option (List Value)) → Sound ls (leaves_with setting.layout o rest p h)
      by None = tt
      by (Some kept) = leaves_sound ls p h c kept rest g locks older e w

  begins_sound : (ls : List RunLabel) (p : Past) (h : Holding) → Common ls p h → (f : F) → Laid f →
      (stack : List (Frame F A)) → RunsFor (pending ls) stack → (o : Option A) → Sound ls (calls_in l f o stack p h)
  begins_sound ls p h c f k stack w None = tt
  begins_sound ls p h c f k stack w (Some a) = runs (begins_common ls p h f c k) w

  calls_sound : (ls : List RunLabel) (p : Past) (h : Holding) → Common ls p h →
      (function : NameBytes) (values : List Value) (stack : List (Frame F A)) → RunsFor (pending ls) stack →
      (o : Option F) → find l scene.within function ≡ o → Sound ls (calls l setting scene o function values stack p h)
  calls_sound ls p h c function values stack w (Some f) e =
      begins_sound ls p h c f (find_laid scene.within laid_in function f e) stack w (l.enter f p.begun values)
  calls_sound ls p h c function values stack w None e = out scene.crosses
    where
      out : (t : Bool) → Sound ls (calls_out l setting scene t function values stack p h)
      out true = call_sound ls p h c function values stack w
      out false = tt

  -- Locks.

  takes_sound : (ls : List RunLabel) (p : Past) (h : Holding) → Common ls p h →
      (a : A) (f : F) (n : ℕ) (stack : List (Frame F A)) → RunsFor (pending ls) stack →
      (lock : NameBytes) (o : Option ℕ) → guard_of E lock ≡ o → Sound ls (takes o h (Runs f n a 0 stack p))
  takes_sound ls p h c a f n stack w lock None e = tt
  takes_sound ls p h c a f n stack w lock (Some k) e = by (words_in h.share k) refl
    where
      by : (o : Option (List ℕ)) → words_in h.share k ≡ o →
          Sound ls (takes_lock k o (λ ws. Runs f n a 0 stack p (with_share h (with_lock h.share k ws))))
      by None g = (
        guard_is E (E.words lock) k e,
        (λ m. not_found h.share k g (subst (λ v. IsAmong k v) (sym c.locks) m)),
        λ ws guarded.
            let o = with_lock_ordered E h.share c.ordered k ws g (guarded_under E k ws guarded) in
            runs (share_common ls (Lock k ws ∷ ls) p h (with_lock h.share k ws) c refl o.ordered
            (o.locks_are ∙ ap (λ v. and_lock k v) c.locks)) w,
      )
      by (Some ws) g = let m = found E h.share c.ordered k ws g in subst (λ v. IsAmong k v) c.locks m.among

  gives_sound : (ls : List RunLabel) (p : Past) (h : Holding) → Common ls p h →
      (a : A) (f : F) (n : ℕ) (stack : List (Frame F A)) → RunsFor (pending ls) stack → (o : Option ℕ) →
      Sound ls (gives o h (Runs f n a 0 stack p))
  gives_sound ls p h c a f n stack w None = tt
  gives_sound ls p h c a f n stack w (Some k) = by (words_in h.share k) refl
    where
      by : (o : Option (List ℕ)) → words_in h.share k ≡ o →
          Sound ls (gives_lock k o (Runs f n a 0 stack p (with_share h (without_lock h.share k))))
      by None g = tt
      by (Some ws) g =
          let m = found E h.share c.ordered k ws g in
          let o = without_lock_ordered E h.share c.ordered k in (
            (subst (λ v. IsAmong k v) c.locks m.among, m.under),
            runs
                (share_common ls (Unlock k ws ∷ ls) p h (without_lock h.share k) c refl o.ordered
                (o.locks_are ∙ ap (λ v. rules.except_lock k v) c.locks)) w,
          )

  -- A step.

  step_kept : (ls : List RunLabel) (p : Past) (h : Holding) → Common ls p h → (a : A) →
      Kept E h (step_at l setting a h).holding (step_at l setting a h).footprint
  step_kept ls p h c a = performed_kept E h (l.form a) (record { holding = h; footprint = nothing_touched })
      (record {
        ordered = c.ordered;
        locks_are = refl;
        memory = λ home. itself (h.memory home);
        reads =
            λ v m. elim m [ ];
        writes = λ v m. elim m [ ];
      })
    where
      itself : (o : Option (List Value)) → SameLength o o
      itself None = tt
      itself (Some vs) = refl

  step_common : (ls : List RunLabel) (p : Past) (h : Holding) → Common ls p h → (a : A) →
      Common ls p (step_at l setting a h).holding
  step_common ls p h c a =
      let k = step_kept ls p h c a in
      let h' = (step_at l setting a h).holding in
      common_step ls ls p h h' p.begun c (omega arith) (lengths_step setting.layout p.begun h.memory h'.memory k.memory)
      (lengths_sound setting.layout p.begun h.memory h'.memory k.memory c.memory) refl k.ordered
      (k.locks_are ∙ c.locks)

  acts_sound : (ls : List RunLabel) (p : Past) (h : Holding) → Common ls p h →
      (f : F) (n : ℕ) (stack : List (Frame F A)) → RunsFor (pending ls) stack → (o : Option (Last A)) →
      Sound ls (acts l setting scene o f n stack p h)
  acts_sound ls p h c f n stack w None = tt
  acts_sound ls p h c f n stack w (Some (Goes next)) = runs c w
  acts_sound ls p h c f n stack w (Some (Takes lock next)) =
      takes_sound ls p h c next f n stack w lock (guard_of E lock) refl
  acts_sound ls p h c f n stack w (Some (Gives lock next)) = gives_sound ls p h c next f n stack w (guard_of E lock)
  acts_sound ls p h c f n stack w (Some (Puts word next)) =
      (tt, runs (share_common ls (Out word ∷ ls) p h h.share c refl c.ordered c.locks) w)
  acts_sound ls p h c f n stack w (Some (Calls function values next)) =
      calls_sound ls p h c function values (Waits f n (results_of E function) next ∷ stack) (at_waits w)
      (find l scene.within function) refl
  acts_sound ls p h c f n stack w (Some (Tails function values)) =
      calls_sound ls p (without_own l f n h) (ends_common ls p h f n c) function values stack w
      (find l scene.within function) refl
  acts_sound ls p h c f n stack w (Some (Returns values)) =
      returns_sound ls p (without_own l f n h) (ends_common ls p h f n c) values (pending ls) stack refl w

  -- What the outside brings.

  in_common : (ls : List RunLabel) (k : RunLabel) (p : Past) (h : Holding) → Common ls p h →
      ExactAll setting.layout (crossed ls) h.memory p.naming → (crossing : Crossing) → Brings E (crossed ls) crossing →
      crossed (k ∷ ls) ≡ crossing.objects → locks_after (k ∷ ls) ≡ locks_of crossing.share →
      Common (k ∷ ls) (with_naming p (brought h.memory p.naming 0 crossing.objects).naming)
      (record { share = crossing.share; memory = (brought h.memory p.naming 0 crossing.objects).memory })
  in_common ls k p h c exact crossing b e g =
      let so = brought_so setting.layout crossing.objects p.begun h.memory c.memory 0
      (crossed ls) p.naming c.naming exact b.objects in
      record {
        ordered = share_ordered E crossing.share b.share;
        locks = sym g;
        memory = so.memory;
        naming = so.naming;
        once = brought_once h.memory p.naming 0 crossing.objects c.once;
        shows =
            subst (λ os. ShowsAll setting.layout os (brought h.memory p.naming 0 crossing.objects).memory
            (brought h.memory p.naming 0 crossing.objects).naming) (sym e) so.shows;
      }

  enters_inv : (ls : List RunLabel) (p : Past) (h : Holding) → Common ls p h → (stack : List (Frame F A)) →
      RunsFor (pending ls) stack → (values : Option (List Value)) (o : Option F) → ((f : F) → o ≡ Some f → Laid f) →
      Inv ls (enters l o values stack p h)
  enters_inv ls p h c stack w values None k = wrong
  enters_inv ls p h c stack w None (Some f) k = wrong
  enters_inv ls p h c stack w (Some values) (Some f) k = by (l.enter f p.begun values)
    where
      by : (o : Option A) → Inv ls (enters_at l f o stack p h)
      by None = wrong
      by (Some a) = runs (begins_common ls p h f c (k f refl)) w

  resumes_inv : (ls : List RunLabel) (p : Past) (h : Holding) → Common ls p h →
      (f : F) (n : ℕ) (stack : List (Frame F A)) → RunsFor (pending ls) stack → (o : Option A) →
      Inv ls (resumes f n o stack p h)
  resumes_inv ls p h c f n stack w None = wrong
  resumes_inv ls p h c f n stack w (Some a) = runs c w

  back_inv : (ls : List RunLabel) (crossing : Crossing) (p : Past) (h : Holding) → Common (Back crossing ∷ ls) p h →
      (values : Option (List Value)) (ps : List Pending) (stack : List (Frame F A)) → pending ls ≡ ps →
      AwayFor ps stack → Inv (Back crossing ∷ ls) (comes_back values stack p h)
  back_inv ls crossing p h c None ps stack e w = wrong
  back_inv ls crossing p h c (Some values) ps stack e at_first = wrong
  back_inv ls crossing p h c (Some values) ps stack e (at_call at_bottom) = wrong
  back_inv ls crossing p h c (Some values) ps stack e
      (at_call (at_waits {f = f} {n = n} {results = results} {next = next} {stack = rest} w)) =
      resumes_inv (Back crossing ∷ ls) p h c f n rest (subst (λ v. RunsFor v rest) (sym (ap without_newest e)) w)
      (and_then (kept_results results values) next)
  back_inv ls crossing p h c (Some values) ps stack e
      (at_call (at_outer {ps = older} {g = g} {locks = locks} {results = results} {stack = rest} w)) =
      by (kept_results results values)
    where
      by : (o : Option (List Value)) → Inv (Back crossing ∷ ls) (leaves_later o rest p h)
      by None = wrong
      by (Some kept) = leaving g locks older c (ap without_newest e) w

  hears_inv : (ls : List RunLabel) (p : Past) (h : Holding) → Common ls p h →
      ExactAll setting.layout (crossed ls) h.memory p.naming → (ps : List Pending) (stack : List (Frame F A)) →
      pending ls ≡ ps → AwayFor ps stack → (k : RunLabel) → MayBring E ls k →
      Inv (k ∷ ls) (receives l setting scene stack p h k)
  hears_inv ls p h c exact ps stack e w (Enter name crossing) m =
      let d = in_common ls (Enter name crossing) p h c exact crossing m.brings refl refl in
      enters_inv (Enter name crossing ∷ ls) _ _ d (Outer (results_of E name) ∷ stack)
      (subst (λ v. RunsFor (Entered name (locks_of crossing.share) ∷ v) (Outer (results_of E name) ∷ stack)) (sym e)
      (at_outer w)) (all_taken (brought h.memory p.naming 0 crossing.objects).naming crossing.values)
      (find l scene.functions name)
      (λ f g. find_laid scene.functions laid name f g)
  hears_inv ls p h c exact ps stack e w (Back crossing) m =
      back_inv ls crossing _ _ (in_common ls (Back crossing) p h c exact crossing m.brings refl refl)
      (all_taken (brought h.memory p.naming 0 crossing.objects).naming crossing.values) ps stack e w
  hears_inv ls p h c exact ps stack e w (Lock lock ws) m = absurd m
  hears_inv ls p h c exact ps stack e w (Unlock lock ws) m = absurd m
  hears_inv ls p h c exact ps stack e w (Out word) m = absurd m
  hears_inv ls p h c exact ps stack e w Done m = absurd m
  hears_inv ls p h c exact ps stack e w (Call name crossing) m = absurd m
  hears_inv ls p h c exact ps stack e w (Leave crossing) m = absurd m

  sound : (ls : List RunLabel) (x : Thread F A) → Inv ls x → Sound ls (M.act x)
  sound ls x (away {stack = stack} {p = p} {h = h} ps c exact e w) = hears_inv ls p h c exact ps stack e w
  sound ls x (runs {f = f} {n = n} {a = a} {stack = stack} {p = p} {h = h} c w) =
      acts_sound ls p (step_at l setting a h).holding (step_common ls p h c a) f n stack w (step_at l setting a h).last
  sound ls x (leaving {values = values} {stack = stack} {p = p} {h = h} g locks older c newest w) =
      leaves_sound ls p h c values stack g locks older newest w
  sound ls x (over e) = e
  sound ls x wrong = tt

  follows : (ls : List RunLabel) (a : Act (Thread F A)) (k : RunLabel) (y : Thread F A) → Sound ls a →
      StepsTo E ls a k y → Inv (k ∷ ls) y
  follows ls (Quiet z) k y s e = absurd e
  follows ls (Emits event z) k y s e = subst (λ v. Inv (v ∷ ls) y) e.0
      (subst (λ v. Inv (label_of event ∷ ls) v) e.1 s.1)
  follows ls (Crosses f share next) k y s e = subst (λ v. Inv (v ∷ ls) y) e.1 (s.1 e.0 y e.2)
  follows ls (Locks lock next) k y s e = subst (λ v. Inv (v ∷ ls) y) (sym e.1)
      (subst (λ v. Inv (Lock lock e.0 ∷ ls) v) e.3 (s.2 e.0 e.2))
  follows ls (Receives next) k y s e = subst (λ v. Inv (k ∷ ls) v) e.1 (s k e.0)
  follows ls Bad k y s e = absurd e
  follows ls (Stops why) k y s e = absurd e

  module _ (first : Inv [] start) where
    holds : {ls : List RunLabel} {bs : List Block} {b : Block} {x : Thread F A} → Run E M ls bs b x → Inv ls x
    holds begins_run = first
    holds (quiet {ls = ls} {x = x} y r e) = subst (λ (v : Act (Thread F A)). Sound ls v) e (sound ls x (holds r))
    holds (labelled {ls = ls} {x = x} k y r e) = follows ls (M.act x) k y (sound ls x (holds r)) e

    touched : (ls : List RunLabel) (x : Thread F A) → Inv ls x →
        ((v : ℕ) → IsAmong v (M.footprint x).reads → IsShared E (locks_after ls) v)
        × ((v : ℕ) → IsAmong v (M.footprint x).writes → IsShared E (locks_after ls) v)
    touched ls x (away ps c exact e w) = ((λ v m. elim m [ ]), (λ v m. elim m [ ]))
    touched ls x (runs {a = a} {p = p} {h = h} c w) = let k =
        step_kept ls p h c a in (
          (λ v m. subst (λ u. IsShared E u v) c.locks (k.reads v m)),
          (λ v m. subst (λ u. IsShared E u v) c.locks (k.writes v m)),
        )
    touched ls x (leaving g locks older c newest w) = ((λ v m. elim m [ ]), (λ v m. elim m [ ]))
    touched ls x (over e) = ((λ v m. elim m [ ]), (λ v m. elim m [ ]))
    touched ls x wrong = ((λ v m. elim m [ ]), (λ v m. elim m [ ]))

  -- What crosses has names.

  abbrev HasNames : Act (Thread F A) → Type 0
  HasNames (Crosses f share next) = (n : Names) × (y : Thread F A) × (next n ≡ Some y)
  HasNames _ = Unit {0}

  crosses_named : (function : Option NameBytes) (values : List Value) (stack : List (Frame F A)) (p : Past)
      (h : Holding) (t : Bool) → can_cross setting.layout p values ≡ t →
      HasNames (crosses_if t function h.share
      (λ names. to_outside stack p h (named_as setting.layout values p h names)))
  crosses_named function values stack p h false e = tt
  crosses_named function values stack p h true e = let some =
      some_names setting.layout values p h e in (
        some.names,
        Away stack (with_naming p some.naming) h,
        ap (λ (o : Option Naming). to_outside stack p h o)
            some.named,
      )

  back_label : (f : F) (n : ℕ) (o : Option A) (stack : List (Frame F A)) (p : Past) (h : Holding) →
      HasNames (goes_back f n o stack p h)
  back_label f n None stack p h = tt
  back_label f n (Some a) stack p h = tt

  returns_label : (values : List Value) (stack : List (Frame F A)) (p : Past) (h : Holding) →
      HasNames (returns setting.layout values stack p h)
  returns_label values [] p h = tt
  returns_label values (Outer results ∷ stack) p h = by (kept_results results values)
    where
      by : (o : Option (List Value)) → HasNames (leaves_with setting.layout o stack p h)
      by None = tt
      by (Some kept) = crosses_named None kept stack p h (can_cross setting.layout p kept) refl
  returns_label values (Waits f n results next ∷ stack) p h =
      back_label f n (and_then (kept_results results values) next) stack p h

  any_call_label : (function : NameBytes) (values : List Value) (stack : List (Frame F A)) (p : Past) (h : Holding)
      (o : Option F) → HasNames (calls l setting scene o function values stack p h)
  any_call_label function values stack p h (Some f) = by (l.enter f p.begun values)
    where
      by : (o : Option A) → HasNames (calls_in l f o stack p h)
      by None = tt
      by (Some a) = tt
  any_call_label function values stack p h None = by scene.crosses
    where
      by : (t : Bool) → HasNames (calls_out l setting scene t function values stack p h)
      by true = crosses_named (Some function) values stack p h (can_cross setting.layout p values) refl
      by false = tt

  lock_label : (k : ℕ) (o : Option (List ℕ)) (next : List ℕ → Thread F A) → HasNames (takes_lock k o next)
  lock_label k None next = tt
  lock_label k (Some ws) next = tt

  unlock_label : (k : ℕ) (o : Option (List ℕ)) (next : Thread F A) → HasNames (gives_lock k o next)
  unlock_label k None next = tt
  unlock_label k (Some ws) next = tt

  takes_label : (o : Option ℕ) (a : A) (f : F) (n : ℕ) (stack : List (Frame F A)) (p : Past) (h : Holding) →
      HasNames (takes o h (Runs f n a 0 stack p))
  takes_label None a f n stack p h = tt
  takes_label (Some k) a f n stack p h = lock_label k (words_in h.share k) _

  gives_label : (o : Option ℕ) (a : A) (f : F) (n : ℕ) (stack : List (Frame F A)) (p : Past) (h : Holding) →
      HasNames (gives o h (Runs f n a 0 stack p))
  gives_label None a f n stack p h = tt
  gives_label (Some k) a f n stack p h = unlock_label k (words_in h.share k) _

  acts_label : (o : Option (Last A)) (f : F) (n : ℕ) (stack : List (Frame F A)) (p : Past) (h : Holding) →
      HasNames (acts l setting scene o f n stack p h)
  acts_label None f n stack p h = tt
  acts_label (Some (Goes next)) f n stack p h = tt
  acts_label (Some (Takes lock next)) f n stack p h = takes_label (guard_of E lock) next f n stack p h
  acts_label (Some (Gives lock next)) f n stack p h = gives_label (guard_of E lock) next f n stack p h
  acts_label (Some (Puts word next)) f n stack p h = tt
  acts_label (Some (Calls function values next)) f n stack p h =
      any_call_label function values (Waits f n (results_of E function) next ∷ stack) p h (find l scene.within function)
  acts_label (Some (Tails function values)) f n stack p h =
      any_call_label function values stack p (without_own l f n h) (find l scene.within function)
  acts_label (Some (Returns values)) f n stack p h = returns_label values stack p (without_own l f n h)

  has_label : (x : Thread F A) → HasNames (M.act x)
  has_label (Away stack p h) = tt
  has_label (Runs f n a e stack p h) = acts_label (step_at l setting a h).last f n stack p
      (step_at l setting a h).holding
  has_label (LeavesNow values stack p h) = crosses_named None values stack p h (can_cross setting.layout p values) refl
  has_label Over = tt
  has_label Wrong = tt

  costs_of : (x : Thread F A) → 1 ≤ M.price x
  costs_of (Away stack p h) = waiting_costs l.tariff scene.functions
  costs_of (Runs f n a e stack p h) = let least = step_costs l.tariff scene.functions a prices in omega (arith, least)
  costs_of (LeavesNow values stack p h) = waiting_costs l.tariff scene.functions
  costs_of Over = waiting_costs l.tariff scene.functions
  costs_of Wrong = waiting_costs l.tariff scene.functions

  pub proceeds_always : Proceeds M
  proceeds_always = record {
    costs = costs_of;
    named = λ x f share next e. let P : Act (Thread F A) →
        Type 0 = HasNames in subst P e (has_label x);
  }

  may_act : (ls : List RunLabel) (a : Act (Thread F A)) → Sound ls a → (IsReceiving a → MayReceive ls) → MayAct E ls a
  may_act ls (Quiet y) s r = tt
  may_act ls (Emits event y) s r = s.0
  may_act ls (Crosses f share next) s r = s.0
  may_act ls (Locks lock next) s r = (s.0, s.1)
  may_act ls (Receives next) s r = r tt
  may_act ls Bad s r = tt
  may_act ls (Stops why) s r = s

  rules_kept : Inv [] start → Opens E M → KeepsRules E M
  rules_kept first opens = record {
    proceeds = proceeds_always;
    reads = λ ls bs b x r. let both = touched first ls x (holds first r) in both.0;
    writes = λ ls bs b x r. let both = touched first ls x (holds first r) in both.1;
    acts = λ ls bs b x r. may_act ls (M.act x) (sound ls x (holds first r))
        (hears_outside l setting scene start ls bs b x r);
    listens = listens_after l setting scene start;
    opens = opens;
  }

  nothing_common : Common [] no_past no_holding
  nothing_common =
      record {
        ordered = tt;
        locks = refl;
        memory = λ f a b ws e. absurd (cc e);
        naming = tt;
        once =
            λ i j f a b part e g. absurd (cc e);
        shows = tt;
      }

  pub outward_rules : start ≡ outside_first → KeepsRules E M
  outward_rules e = rules_kept (subst (λ v. Inv [] v) (sym e) (away [] nothing_common tt refl at_first))
      (opens_so l setting scene start (inr (inl (sym (ap M.activations e)))))

  pub thread_rules : (o : Option F) (thread : ℕ) → ((f : F) → o ≡ Some f → Laid f) → start ≡ starts l o thread →
      KeepsRules E M
  thread_rules o thread k e =
      rules_kept
      (subst (λ v. Inv [] v) (sym e) (enters_inv [] no_past no_holding nothing_common [] at_bottom
      (Some (Number thread ∷ [])) o k))
      (opens_so l setting scene start (subst (λ v. IsBad (M.act v) ⊎ OpensFirst (M.activations v)) (sym e) (first o)))
    where
      entered : (f : F) (a : Option A) → IsBad (M.act (enters_at l f a [] no_past no_holding))
          ⊎ OpensFirst (M.activations (enters_at l f a [] no_past no_holding))
      entered f None = inl tt
      entered f (Some a) = inr (inr (l.name f, refl))

      first : (v : Option F) → IsBad (M.act (starts l v thread)) ⊎ OpensFirst (M.activations (starts l v thread))
      first None = inl tt
      first (Some f) = entered f (l.enter f 0 (Number thread ∷ []))

-- the three machines of a language

module _ {F A : Type 0} (l : Activations F A) (setting : Setting) (prices : IsTariff l.tariff) where
  pub unit_rules : (fs : List F) → IsLayout (language l) fs setting.layout →
      KeepsRules setting.edge ((language l).unit setting fs)
  unit_rules fs laid = outward_rules l setting (record { functions = fs; within = fs; crosses = true })
      outside_first prices laid laid refl

  pub alone_rules : (f : F) → IsLayout (language l) (f ∷ []) setting.layout →
      KeepsRules setting.edge ((language l).alone setting f)
  alone_rules f laid = outward_rules l setting (record { functions = f ∷ []; within = []; crosses = true })
      outside_first prices laid (λ name g e. absurd (cc e)) refl

  pub program_rules : (fs : List F) (entry : NameBytes) (thread : ℕ) → IsLayout (language l) fs setting.layout →
      KeepsRules setting.edge ((language l).thread setting fs entry thread)
  program_rules fs entry thread laid =
      let scene : Scene F = record { functions = fs; within = fs; crosses = false } in
      let first = starts l (find l fs entry) thread in
      thread_rules l setting scene first prices laid laid (find l fs entry) thread
      (λ f e. find_laid l setting scene first prices laid laid fs laid entry f e) refl
