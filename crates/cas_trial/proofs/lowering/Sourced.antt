-- A unit whose functions take and give back their lock in turn keeps kinds and locks as a source must.
use Rattle.std.proofs.Common.{◌≡◌, ℕ, zero, suc, Bool, true, false, if◌then◌else◌, nat_eq, nat_lt, List, [], ◌∷◌, length, Option, Some, None, slice_get, refl, sym, ap, ◌∙◌, subst, arith, eqb-true}
use Rattle.cas_base.specs.declared.kind.Kind.TheVariants.{U32}
use Rattle.cas_base.specs.declared.kind.Ty.{Ty}
use Rattle.cas_base.specs.declared.decl.Unit.{Unit as UnitOf}
use Rattle.cas_runs.specs.Label.{Each, NameBytes, same_name, Share, Shown, Object, RunLabel, Lock, Unlock, Out, Enter, Back, Leave, locks_of}
use Rattle.cas_runs.specs.Label.{Held as HeldLock, Done, Call}
use Rattle.cas_runs.specs.Edge.{Cell, LockWord, SharedWord, TableWord, Edge, IsOfKind, AreGuarded, AreOfTypes, IsOrdered, IsShare, returned, count_of, results_of}
use Rattle.cas_runs.specs.Outside.{Entered, without_newest, pending, crossed, numbered, MayBring}
use Rattle.cas_runs.specs.Naming.{Value, Naming, and_then, all_named_by, parts_at, all_taken, taken, objects_of}
use Rattle.cas_runs.specs.Machine.{Act, Quiet, Emits, Crosses, Locks, Receives, Bad, Stops, Names, label_of, crossing_by, Machine, StepsTo, Block, Run, starts, quiet, labelled}
use Rattle.cas_runs.specs.Access.{Holding, words_in, with_lock, without_lock, place_among, word_in, Performed, performed, Then, Doing, reads_as, reads_cell, reads_word, number_in}
use Rattle.cas_runs.specs.Unit.{Setting, IsInKind, guard_of}
use Rattle.cas_runs.specs.Calls.{Activations, Last, Puts, Thread, Away, Runs, Wrong, Frame, Outer, Past, nothing_touched, named_as, to_outside, takes, takes_lock, gives, gives_lock, kept_results, leaves_with, with_share, with_naming, enters, find, acts, receives, step_at, of_unit, language}
use Rattle.cas_runs.specs.Rules.{AllShowWords, AreSized, EmitsInKind, EmitsLocks, KeepsKinds, KeepsLocks}
use Rattle.cas_runs.specs.Natural.{KeepsAsSource}
use Rattle.cas_runs.specs.Forms.{ShareSelfSame}
use Rattle.cas_runs.specs.Worded.{IsWord}
use Rattle.cas_runs.proofs.Shares.{guarded_under, share_ordered, with_lock_ordered, without_lock_ordered}
use Rattle.cas_runs.proofs.Showing.{named_so}
use Rattle.cas_runs.proofs.Tests.{eq_self}
use Rattle.cas_runs.proofs.Words.{self_get, self_found, guarded_self, table_self}
use Rattle.cas_trial.specs.Stages.{lock_name, global_name}
use Rattle.cas_trial.specs.declared.lowering.High.{High}
use Rattle.cas_trial.specs.declared.lowering.High.TheVariants as high
use Rattle.cas_trial.specs.declared.lowering.HighFunction.{HighFunction}
use Rattle.cas_trial.specs.Lowering.Languages.{high_language}
use Rattle.cas_trial.specs.Lowering.Balanced.{IsBalanced}

-- Shares.

abbrev AllGuarded : Edge → Share → Type 0
AllGuarded edge = Each (λ (k : HeldLock). AreGuarded edge k.lock k.words)

share_guarded : (edge : Edge) (hs : Share) → IsShare edge hs → AllGuarded edge hs
share_guarded edge [] h = tt
share_guarded edge (k ∷ hs) h = (h.0, share_guarded edge hs h.2)

is_share : (edge : Edge) (hs : Share) → IsOrdered edge hs → AllGuarded edge hs → IsShare edge hs
is_share edge [] o g = tt
is_share edge (k ∷ hs) o g = (g.0, o.1, is_share edge hs o.2 g.1)

guarded_found : (edge : Edge) (hs : Share) → AllGuarded edge hs → (lock : ℕ) (ws : List ℕ) →
    words_in hs lock ≡ Some ws →
    AreGuarded edge lock ws
guarded_found edge [] h lock ws e = absurd (cc e)
guarded_found edge (k ∷ hs) h lock ws e = by (nat_eq k.lock lock) refl (λ g. guarded_found edge hs h.1 lock ws g) e
  where
    by : (t : Bool) → nat_eq k.lock lock ≡ t → (words_in hs lock ≡ Some ws → AreGuarded edge lock ws) →
        (if t then Some k.words else words_in hs lock) ≡ Some ws → AreGuarded edge lock ws
    by true i more g =
        let same : k.words ≡ ws = cc g in
        subst (λ n. AreGuarded edge n ws) (eqb-true k.lock lock i) (subst (λ v. AreGuarded edge k.lock v) same h.0)
    by false i more g = more g

guarded_with : (edge : Edge) (hs : Share) → AllGuarded edge hs → (lock : ℕ) (ws : List ℕ) → AreGuarded edge lock ws →
    AllGuarded edge (with_lock hs lock ws)
guarded_with edge [] h lock ws g = (g, tt)
guarded_with edge (k ∷ hs) h lock ws g = by (nat_lt lock k.lock) (guarded_with edge hs h.1 lock ws g)
  where
    by : (t : Bool) → AllGuarded edge (with_lock hs lock ws) →
        AllGuarded edge (if t then record { lock = lock; words = ws } ∷ k ∷ hs else k ∷ with_lock hs lock ws)
    by true rest = (g, h)
    by false rest = (h.0, rest)

guarded_without : (edge : Edge) (hs : Share) → AllGuarded edge hs → (lock : ℕ) → AllGuarded edge (without_lock hs lock)
guarded_without edge [] h lock = tt
guarded_without edge (k ∷ hs) h lock = by (nat_eq k.lock lock) (guarded_without edge hs h.1 lock)
  where
    by : (t : Bool) → AllGuarded edge (without_lock hs lock) →
        AllGuarded edge (if t then hs else k ∷ without_lock hs lock)
    by true rest = h.1
    by false rest = (h.0, rest)

-- a lock that is taken and given back leaves the share as it was
without_with : (hs : Share) (lock : ℕ) (ws : List ℕ) → words_in hs lock ≡ None →
    without_lock (with_lock hs lock ws) lock ≡ hs
without_with [] lock ws e = ap (λ t. if t then [] else record { lock = lock; words = ws } ∷ []) (eq_self lock)
without_with (k ∷ hs) lock ws e = by (nat_eq k.lock lock) refl (nat_lt lock k.lock) (λ g. without_with hs lock ws g) e
  where
    by : (u : Bool) → nat_eq k.lock lock ≡ u → (t : Bool) →
        (words_in hs lock ≡ None → without_lock (with_lock hs lock ws) lock ≡ hs) →
        (if u then Some k.words else words_in hs lock) ≡ None →
        without_lock (if t then record { lock = lock; words = ws } ∷ k ∷ hs else k ∷ with_lock hs lock ws) lock ≡ k ∷ hs
    by true i t more g = absurd (cc g)
    by false i true more g =
        ap (λ t. if t then k ∷ hs else record { lock = lock; words = ws } ∷ without_lock (k ∷ hs) lock) (eq_self lock)
    by false i false more g =
        ap (λ t. if t then with_lock hs lock ws else k ∷ without_lock (with_lock hs lock ws) lock) i
        ∙ ap (λ v. k ∷ v) (more g)

-- each word of a share is a word
abbrev Words : Value → Value → Type 0
Words v w = IsWord v

share_words : (edge : Edge) (hs : Share) → AllGuarded edge hs → ShareSelfSame Words hs
share_words edge [] h = tt
share_words edge (k ∷ hs) h = (guarded_self Words (λ w g. g) edge k.lock k.words h.0, share_words edge hs h.1)

-- the function that is found is one of these
found_so : (P : HighFunction → Type 0) (fs : List HighFunction) → Each P fs → (name : NameBytes) (f : HighFunction) →
    find high_language fs name ≡ Some f → P f
found_so P [] h name f e = absurd (cc e)
found_so P (g ∷ fs) h name f e = by (same_name (high_language.name g) name) (λ i. found_so P fs h.1 name f i) e
  where
    by : (t : Bool) → (find high_language fs name ≡ Some f → P f) →
        (if t then Some g else find high_language fs name) ≡ Some f → P f
    by true more i = let same : g ≡ f = cc i in subst P same h.0
    by false more i = more i

module _ (setting : Setting) (tables : Each IsInKind setting.edge.cells) (fs : List HighFunction)
    (balanced : Each (λ (f : HighFunction). IsBalanced false f.body) fs) where
  abbrev E : Edge
  E = setting.edge

  abbrev T : Type 0
  T = Thread HighFunction (List High)

  abbrev M : Machine T
  M = (language high_language).unit setting fs

  -- no object has crossed, and so many activations have begun
  abbrev after : ℕ → Past
  after n = record { naming = []; begun = n }

  -- the outside called this function
  abbrev called_from : NameBytes → List (Frame HighFunction (List High))
  called_from g = Outer (results_of E g) ∷ []

  -- the locks that came with the entry are those that are there, but for the one that was taken since
  abbrev HasLocks : Bool → List ℕ → Share → Type 0
  HasLocks false locks share = locks_of share ≡ locks
  HasLocks true locks share =
      (k : ℕ) × (guard_of E lock_name ≡ Some k) × (locks_of (without_lock share k) ≡ locks)

  record IsHeld (share : Share) : Type 0 where
    ordered : IsOrdered E share
    guarded : AllGuarded E share

  data Inv (ls : List RunLabel) : T → Type 0 where
    away : {n : ℕ} {h : Holding} → crossed ls ≡ [] → pending ls ≡ [] → Inv ls (Away [] (after n) h)
    runs : {f : HighFunction} {s e n : ℕ} {a : List High} {h : Holding} (taken : Bool) (g : NameBytes)
        (locks : List ℕ) → crossed ls ≡ [] → pending ls ≡ Entered g locks ∷ [] → IsHeld h.share →
        HasLocks taken locks h.share → IsBalanced taken a → Inv ls (Runs f s a e (called_from g) (after n) h)
    wrong : Inv ls Wrong

  -- what an act emits is in kind, with the locks that are due, and what follows it holds on
  abbrev Keeps : List RunLabel → RunLabel → T → Type 0
  Keeps ls l y = EmitsInKind E ls l × EmitsLocks E ls l × Inv (l ∷ ls) y

  abbrev Sound : List RunLabel → Act T → Type 0
  Sound ls (Quiet y) = Inv ls y
  Sound ls (Emits event y) = Keeps ls (label_of event) y
  Sound ls (Crosses f share next) = (n : Names) (y : T) → next n ≡ Some y → Keeps ls (crossing_by f share n) y
  Sound ls (Locks lock next) = (ws : List ℕ) → AreGuarded E lock ws → Inv (Lock lock ws ∷ ls) (next ws)
  Sound ls (Receives next) = (k : RunLabel) → MayBring E ls k → Inv (k ∷ ls) (next k)
  Sound ls _ = Unit {0}

  -- An entry.

  abbrev L : Activations HighFunction (List High)
  L = high_language

  -- a function takes no arguments
  some_arguments : (ls : List RunLabel) (o : Option HighFunction) (ns : Naming) (v : Shown) (vs : List Shown)
      (stack : List (Frame HighFunction (List High))) (p : Past) (h : Holding) →
      Inv ls (enters L o (all_taken ns (v ∷ vs)) stack p h)
  some_arguments ls None ns v vs stack p h = wrong
  some_arguments ls (Some f) ns v vs stack p h = by (taken ns v) (all_taken ns vs)
    where
      by : (o : Option Value) (q : Option (List Value)) →
          Inv ls (enters L (Some f) (and_then o (λ x. and_then q (λ xs. Some (x ∷ xs)))) stack p h)
      by None q = wrong
      by (Some x) None = wrong
      by (Some x) (Some xs) = wrong

  no_arguments : (ls : List RunLabel) (name : NameBytes) (share : Share) (n : ℕ) (h : Holding) → crossed ls ≡ [] →
      pending ls ≡ Entered name (locks_of share) ∷ [] → IsHeld share → (o : Option HighFunction) →
      find L fs name ≡ o → Inv ls (enters L o (Some []) (called_from name) (after n)
      (record { share = share; memory = h.memory }))
  no_arguments ls name share n h c w held None e = wrong
  no_arguments ls name share n h c w held (Some f) e = runs false name (locks_of share) c w held refl
      (found_so (λ (v : HighFunction). IsBalanced false v.body) fs balanced name f e)

  abbrev entry : NameBytes → List Shown → Share → List Object → RunLabel
  entry name values share objects = Enter name (record { values = values; share = share; objects = objects })

  entered : (ls : List RunLabel) (name : NameBytes) (values : List Shown) (share : Share) (objects : List Object)
      (n : ℕ)
      (h : Holding) → pending ls ≡ [] → IsHeld share → numbered 0 values ≡ Some (length objects) →
      Inv (entry name values share objects ∷ ls)
      (receives L setting (of_unit fs) [] (after n) h (entry name values share objects))
  entered ls name [] share [] n h w held e =
      no_arguments (entry name [] share [] ∷ ls) name share n h refl
      (ap (λ ps. Entered name (locks_of share) ∷ ps) w) held (find L fs name) refl
  entered ls name [] share (o ∷ os) n h w held e =
      let no : 0 ≡ length (o ∷ os) = cc e in absurd (omega (arith, no))
  entered ls name (v ∷ vs) share objects n h w held e =
      some_arguments (entry name (v ∷ vs) share objects ∷ ls) (find L fs name) _ v vs _ _ _

  receives_so : (ls : List RunLabel) (n : ℕ) (h : Holding) → crossed ls ≡ [] → pending ls ≡ [] → (k : RunLabel) →
      MayBring E ls k → Inv (k ∷ ls) (receives L setting (of_unit fs) [] (after n) h k)
  receives_so ls n h c w (Enter name crossing) m =
      let count : numbered 0 crossing.values ≡ Some (length crossing.objects) =
      subst (λ (os : List Object). numbered (length os) crossing.values ≡ Some (length crossing.objects)) c
      m.brings.numbers in
      entered ls name crossing.values crossing.share crossing.objects n h w
      (record {
        ordered = share_ordered E crossing.share m.brings.share;
        guarded = share_guarded E crossing.share m.brings.share;
      }) count
  receives_so ls n h c w (Back crossing) m = let newest = m.newest in absurd (cc (newest, w))
  receives_so ls n h c w (Lock lock ws) m = absurd m
  receives_so ls n h c w (Unlock lock ws) m = absurd m
  receives_so ls n h c w (Out word) m = absurd m
  receives_so ls n h c w Done m = absurd m
  receives_so ls n h c w (Call name crossing) m = absurd m
  receives_so ls n h c w (Leave crossing) m = absurd m

  -- The lock.

  takes_so : (ls : List RunLabel) (f : HighFunction) (s n : ℕ) (a : List High) (h : Holding) (g : NameBytes)
      (locks : List ℕ) → crossed ls ≡ [] → pending ls ≡ Entered g locks ∷ [] → IsHeld h.share →
      locks_of h.share ≡ locks → IsBalanced true a → (o : Option ℕ) → guard_of E lock_name ≡ o →
      Sound ls (takes o h (Runs f s a 0 (called_from g) (after n)))
  takes_so ls f s n a h g locks c w held same b None e = tt
  takes_so ls f s n a h g locks c w held same b (Some k) e = by (words_in h.share k) refl
    where
      by : (o : Option (List ℕ)) → words_in h.share k ≡ o →
          Sound ls (takes_lock k o (λ ws. Runs f s a 0 (called_from g) (after n)
          (with_share h (with_lock h.share k ws))))
      by None i = λ ws guarded. runs true g locks c w
          (let more = with_lock_ordered E h.share held.ordered k ws i (guarded_under E k ws guarded) in
          record { ordered = more.ordered; guarded = guarded_with E h.share held.guarded k ws guarded })
          (k, e, ap locks_of (without_with h.share k ws i) ∙ same) b
      by (Some ws) i = tt

  gives_so : (ls : List RunLabel) (f : HighFunction) (s n : ℕ) (a : List High) (h : Holding) (g : NameBytes)
      (locks : List ℕ) → crossed ls ≡ [] → pending ls ≡ Entered g locks ∷ [] → IsHeld h.share →
      HasLocks true locks h.share → IsBalanced false a → (o : Option ℕ) → guard_of E lock_name ≡ o →
      Sound ls (gives o h (Runs f s a 0 (called_from g) (after n)))
  gives_so ls f s n a h g locks c w held same b None e = tt
  gives_so ls f s n a h g locks c w held same b (Some k) e = by (words_in h.share k) refl
    where
      taken_is : same.0 ≡ k
      taken_is = let there = same.1 in cc (there, e)

      by : (o : Option (List ℕ)) → words_in h.share k ≡ o →
          Sound ls (gives_lock k o (Runs f s a 0 (called_from g) (after n)
          (with_share h (without_lock h.share k))))
      by None i = tt
      by (Some ws) i =
          let words = guarded_found E h.share held.guarded k ws i in (
            words.kinds,
            tt,
            runs false g locks c w
                (let less = without_lock_ordered E h.share held.ordered k in
                record { ordered = less.ordered; guarded = guarded_without E h.share held.guarded k })
                (subst (λ m. locks_of (without_lock h.share m) ≡ locks) taken_is same.2) b,
          )

  -- The word is put out.

  abbrev begun_with : Holding → Doing
  begun_with h = record { holding = h; footprint = nothing_touched }

  abbrev puts_then : List High → ℕ → Doing → Performed (Last (List High))
  puts_then rest = λ v e. performed E (Then (Puts v rest)) e

  abbrev Shows : (ls : List RunLabel) → HighFunction → (s n : ℕ) → List High → NameBytes →
      Performed (Last (List High)) →
      Type 0
  Shows ls f s n rest g q = Sound ls (acts L setting (of_unit fs) q.last f s (called_from g) (after n) q.holding)

  shows_so : (ls : List RunLabel) (f : HighFunction) (s n : ℕ) (rest : List High) (h : Holding) (taken : Bool)
      (g : NameBytes) (locks : List ℕ) → crossed ls ≡ [] → pending ls ≡ Entered g locks ∷ [] → IsHeld h.share →
      HasLocks taken locks h.share → IsBalanced taken rest →
      Shows ls f s n rest g (step_at L setting (high.Show ∷ rest) h)
  shows_so ls f s n rest h taken g locks c w held same b = by_number (number_in (E.words global_name) 0)
    where
      put : (word : ℕ) → IsOfKind word U32 → Keeps ls (Out word) (Runs f s rest 0 (called_from g) (after n) h)
      put word kind = (kind, tt, runs taken g locks c w held same b)

      by_words : (guard word : ℕ) (o : Option (List ℕ)) → words_in h.share guard ≡ o → (i : ℕ) (v : Option ℕ) →
          word_in o i ≡ v → Shows ls f s n rest g (reads_as v word (begun_with h) (puts_then rest))
      by_words guard word o e i None j = tt
      by_words guard word None e i (Some v) j = absurd (cc j)
      by_words guard word (Some ws) e i (Some v) j =
          put v (self_get Words ws (self_found Words h.share (share_words E h.share held.guarded) guard ws e) i v j)

      by_cell : (word : ℕ) (o : Option Cell) → slice_get E.cells word ≡ o →
          Shows ls f s n rest g (reads_cell E.cells o word (begun_with h) (puts_then rest))
      by_cell word None e = tt
      by_cell word (Some LockWord) e = tt
      by_cell word (Some (SharedWord kind None initial)) e = tt
      by_cell word (Some (SharedWord kind (Some guard) initial)) e =
          by_words guard word (words_in h.share guard) refl (place_among E.cells guard word)
          (word_in (words_in h.share guard) (place_among E.cells guard word)) refl
      by_cell word (Some (TableWord value)) e =
          put value (table_self Words (λ v k. k) E.cells tables word value e)

      by_number : (o : Option ℕ) → Shows ls f s n rest g (reads_word E.cells o (begun_with h) (puts_then rest))
      by_number None = tt
      by_number (Some word) = by_cell word (slice_get E.cells word) refl

  -- The return.

  leaves_so : (ls : List RunLabel) (n : ℕ) (h : Holding) (g : NameBytes) (locks : List ℕ) → crossed ls ≡ [] →
      pending ls ≡ Entered g locks ∷ [] → IsHeld h.share → locks_of h.share ≡ locks → results_of E g ≡ Some 0 →
      (m : Names) (y : T) → to_outside [] (after n) h (named_as setting.layout [] (after n) h m) ≡ Some y →
      Keeps ls (crossing_by None h.share m) y
  leaves_so ls n h g locks c w held same none m y e = by (named_as setting.layout [] (after n) h m) refl e
    where
      nothing : (values : List Shown) (ns : Naming) → all_named_by (parts_at setting.layout n) [] [] values ≡ Some ns →
          (values ≡ []) × (ns ≡ [])
      nothing [] ns i = let is : [] ≡ ns = cc i in (refl, sym is)
      nothing (v ∷ vs) ns i = absurd (cc i)

      typed : (values : List Shown) (types : List Ty) → values ≡ [] → types ≡ [] → AreOfTypes m.objects types values
      typed [] [] i j = tt
      typed [] (t ∷ ts) i j = absurd (cc j)
      typed (v ∷ vs) types i j = absurd (cc i)

      no_types : (types : List Ty) → length types ≡ 0 → types ≡ []
      no_types [] i = refl
      no_types (t ∷ ts) i = let no : length (t ∷ ts) ≡ 0 = i in absurd (omega (arith, no))

      by : (o : Option Naming) → named_as setting.layout [] (after n) h m ≡ o → to_outside [] (after n) h o ≡ Some y →
          Keeps ls (crossing_by None h.share m) y
      by None i j = absurd (cc j)
      by (Some ns) i j =
          let so = named_so setting.layout [] (after n) h m ns i in
          let is = nothing m.values ns so.values_named in
          let objects : m.objects ≡ [] = sym so.objects ∙ ap (objects_of h.memory) is.1 in
          let to : Away [] (with_naming (after n) ns) h ≡ y = cc j in (
            λ f others older s at known.
                let named : g ≡ f = cc (w, at) in
                let count : results_of E g ≡ Some (length (returned s.ret)) =
                subst (λ v. results_of E v ≡ Some (length (returned s.ret))) (sym named) (ap count_of known) in
                let zero_types : length (returned s.ret) ≡ 0 = cc (count, none) in
                record {
                  values = typed m.values (returned s.ret) is.0 (no_types (returned s.ret) zero_types);
                  share = is_share E h.share held.ordered held.guarded;
                  objects = subst AllShowWords (sym objects) tt;
                  sizes = subst AreSized (sym objects) tt;
                },
            λ f others older at. let entered_with : locks ≡ others = cc (w, at) in same ∙ entered_with,
            subst (λ v. Inv (crossing_by None h.share m ∷ ls) v) to
                (subst (λ v. Inv (crossing_by None h.share m ∷ ls) (Away [] (with_naming (after n) v) h)) (sym is.1)
                (away objects (ap without_newest w))),
          )

  returns_so : (ls : List RunLabel) (n : ℕ) (h : Holding) (g : NameBytes) (locks : List ℕ) → crossed ls ≡ [] →
      pending ls ≡ Entered g locks ∷ [] → IsHeld h.share → locks_of h.share ≡ locks → (o : Option ℕ) →
      results_of E g ≡ o → Sound ls (leaves_with setting.layout (kept_results o []) [] (after n) h)
  returns_so ls n h g locks c w held same None e = tt
  returns_so ls n h g locks c w held same (Some zero) e = leaves_so ls n h g locks c w held same e
  returns_so ls n h g locks c w held same (Some (suc k)) e = tt

  -- A step.

  steps_so : (ls : List RunLabel) (f : HighFunction) (s n : ℕ) (a : List High) (h : Holding) (taken : Bool)
      (g : NameBytes) (locks : List ℕ) → crossed ls ≡ [] → pending ls ≡ Entered g locks ∷ [] → IsHeld h.share →
      HasLocks taken locks h.share → IsBalanced taken a →
      Sound ls (acts L setting (of_unit fs) (step_at L setting a h).last f s (called_from g) (after n)
      (step_at L setting a h).holding)
  steps_so ls f s n [] h false g locks c w held same b = returns_so ls n h g locks c w held same (results_of E g) refl
  steps_so ls f s n [] h true g locks c w held same b = absurd b
  steps_so ls f s n (high.Skip ∷ rest) h taken g locks c w held same b = runs taken g locks c w held same b
  steps_so ls f s n (high.Show ∷ rest) h taken g locks c w held same b =
      shows_so ls f s n rest h taken g locks c w held same b
  steps_so ls f s n (high.Take ∷ rest) h false g locks c w held same b =
      takes_so ls f s n rest h g locks c w held same b (guard_of E lock_name) refl
  steps_so ls f s n (high.Take ∷ rest) h true g locks c w held same b = absurd b
  steps_so ls f s n (high.Give ∷ rest) h true g locks c w held same b =
      gives_so ls f s n rest h g locks c w held same b (guard_of E lock_name) refl
  steps_so ls f s n (high.Give ∷ rest) h false g locks c w held same b = absurd b

  sound : (ls : List RunLabel) (x : T) → Inv ls x → Sound ls (M.act x)
  sound ls x (away {n = n} {h = h} c w) = receives_so ls n h c w
  sound ls x (runs {f = f} {s = s} {n = n} {a = a} {h = h} taken g locks c w held same b) =
      steps_so ls f s n a h taken g locks c w held same b
  sound ls x wrong = tt

  -- after each label
  labelled_so : (ls : List RunLabel) (a : Act T) (k : RunLabel) (y : T) → Sound ls a → StepsTo E ls a k y →
      Keeps ls k y
  labelled_so ls (Quiet z) k y s e = absurd e
  labelled_so ls (Emits event z) k y s e = subst (λ v. Keeps ls v y) e.0
      (subst (λ v. Keeps ls (label_of event) v) e.1 s)
  labelled_so ls (Crosses f share next) k y s e = subst (λ v. Keeps ls v y) e.1 (s e.0 y e.2)
  labelled_so ls (Locks lock next) k y s e =
      subst (λ v. Keeps ls v y) (sym e.1)
      (tt, tt, subst (λ v. Inv (Lock lock e.0 ∷ ls) v) e.3 (s e.0 e.2))
  labelled_so ls (Receives next) k y s e = brought_label k e.0 (subst (λ v. Inv (k ∷ ls) v) e.1 (s k e.0))
    where
      brought_label : (l : RunLabel) → MayBring E ls l → Inv (l ∷ ls) y → Keeps ls l y
      brought_label (Enter name crossing) m i = (tt, tt, i)
      brought_label (Back crossing) m i = (tt, tt, i)
      brought_label (Lock lock ws) m i = absurd m
      brought_label (Unlock lock ws) m i = absurd m
      brought_label (Out word) m i = absurd m
      brought_label Done m i = absurd m
      brought_label (Call name crossing) m i = absurd m
      brought_label (Leave crossing) m i = absurd m
  labelled_so ls Bad k y s e = absurd e
  labelled_so ls (Stops why) k y s e = absurd e

  holds : {ls : List RunLabel} {bs : List Block} {b : Block} {x : T} → Run E M ls bs b x → Inv ls x
  holds starts = away refl refl
  holds (quiet {ls = ls} {x = x} y r e) = subst (λ (v : Act T). Sound ls v) e (sound ls x (holds r))
  holds (labelled {ls = ls} {x = x} k y r e) =
      let kept = labelled_so ls (M.act x) k y (sound ls x (holds r)) e in kept.2

  pub kinds_kept : KeepsKinds E M
  kinds_kept ls bs b x r l y e = let kept = labelled_so ls (M.act x) l y (sound ls x (holds r)) e in kept.0

  pub locks_kept : KeepsLocks E M
  locks_kept ls bs b x r l y e = let kept = labelled_so ls (M.act x) l y (sound ls x (holds r)) e in kept.1

pub keeps_as_source : (unit : UnitOf HighFunction) → Each (λ (f : HighFunction). IsBalanced false f.body) unit.funs →
    KeepsAsSource (language high_language) (λ f. []) unit
keeps_as_source unit balanced = record {
  keeps_kinds = λ setting fits natural. kinds_kept setting fits.edge_is.kinds unit.funs balanced;
  keeps_locks = λ setting fits natural. locks_kept setting fits.edge_is.kinds unit.funs balanced;
}
