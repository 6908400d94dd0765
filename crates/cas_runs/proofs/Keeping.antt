-- The small language of critical sections keeps the rules.
use Rattle.std.proofs.Common.{◌≡◌, ℕ, ◌≤◌, List, [], ◌∷◌, Option, Some, None, refl, sym, ap, subst, inl, inr}
use Rattle.cas_base.specs.declared.kind.Kind.TheVariants.{U32}
use Rattle.cas_runs.specs.Label.{NameBytes, Share, RunLabel, Lock, Unlock, Out, Done}
use Rattle.cas_runs.specs.Edge.{AreGuarded, IsOfKind}
use Rattle.cas_runs.specs.Outside.{IsAmong, first, later}
use Rattle.cas_runs.specs.Machine.{Act, Quiet, Emits, Crosses, Locks, Receives, Bad, Stops, Names, Event, Unlocks, Prints, Ends, label_of, StepsTo, Block, Run, starts, quiet, labelled}
use Rattle.cas_runs.specs.Rules.{and_lock, except_lock, locks_after, IsShared, HasEnded, HasCrossed, MayAct, OpensBy, KeepsRules, EmitsInKind, EmitsLocks, KeepsKinds, KeepsLocks}
use Rattle.cas_runs.specs.Sections.{Instruction, Take, Give, Load, Store, Print, Spin, Standing, At, Over, one_lock, first_of_words, act_of, act_at, footprint_at, sections, StoresWords}

-- what holds where the program stands, after these labels
data Holds (ls : List RunLabel) : Standing → Type 0 where
  free : {rest : List Instruction} {register : ℕ} → StoresWords rest → IsOfKind register U32 → locks_after ls ≡ [] →
      Holds ls (At rest register None)
  taken : {rest : List Instruction} {register w : ℕ} → StoresWords rest → IsOfKind register U32 → IsOfKind w U32 →
      locks_after ls ≡ 0 ∷ [] → Holds ls (At rest register (Some w))
  over : HasEnded ls → Holds ls Over

to : (ls : List RunLabel) (x y : Standing) → Holds ls x → x ≡ y → Holds ls y
to ls x y h e = subst (λ v. Holds ls v) e h

quiet_holds : (ls : List RunLabel) (x y : Standing) → Holds ls x → act_at x ≡ Quiet y → Holds ls y
quiet_holds ls x y (free {rest = []} s r k) e = absurd (cc e)
quiet_holds ls x y (free {rest = Take ∷ rest} s r k) e = absurd (cc e)
quiet_holds ls x y (free {rest = Give ∷ rest} s r k) e = absurd (cc e)
quiet_holds ls x y (free {rest = Load ∷ rest} s r k) e = absurd (cc e)
quiet_holds ls x y (free {rest = Store w ∷ rest} s r k) e = absurd (cc e)
quiet_holds ls x y (free {rest = Print ∷ rest} s r k) e = absurd (cc e)
quiet_holds ls x y (free {rest = Spin ∷ rest} {register = register} s r k) e =
    let same : At (Spin ∷ rest) register None ≡ y = cc e in to ls (At (Spin ∷ rest) register None) y (free s r k) same
quiet_holds ls x y (taken {rest = []} s r v k) e = absurd (cc e)
quiet_holds ls x y (taken {rest = Take ∷ rest} s r v k) e = absurd (cc e)
quiet_holds ls x y (taken {rest = Give ∷ rest} s r v k) e = absurd (cc e)
quiet_holds ls x y (taken {rest = Load ∷ rest} {w = w} s r v k) e = let same : At rest w (Some w) ≡ y =
    cc e in to ls (At rest w (Some w)) y (taken s v v k) same
quiet_holds ls x y (taken {rest = Store w ∷ rest} {register = register} s r v k) e =
    let same : At rest register (Some w) ≡ y = cc e in to ls (At rest register (Some w)) y (taken s.1 r s.0 k) same
quiet_holds ls x y (taken {rest = Print ∷ rest} s r v k) e = absurd (cc e)
quiet_holds ls x y (taken {rest = Spin ∷ rest} {register = register} {w = w} s r v k) e =
    let same : At (Spin ∷ rest) register (Some w) ≡ y =
    cc e in to ls (At (Spin ∷ rest) register (Some w)) y (taken s r v k) same
quiet_holds ls x y (over h) e = absurd (cc e)

-- a label that stays the same locks
same_locks : (ls : List RunLabel) (l k : RunLabel) (x y : Standing) → l ≡ k → Holds (l ∷ ls) x → x ≡ y →
    Holds (k ∷ ls) y
same_locks ls l k x y e h f = subst (λ v. Holds (k ∷ ls) v) f (subst (λ v. Holds (v ∷ ls) x) e h)

locked_holds : (ls : List RunLabel) (rest : List Instruction) (register : ℕ) → StoresWords rest →
    IsOfKind register U32 → locks_after ls ≡ [] → (words : List ℕ) → AreGuarded one_lock 0 words →
    Holds (Lock 0 words ∷ ls) (At rest register (first_of_words words))
locked_holds ls rest register s r k [] g = let none = g.kinds in absurd none
locked_holds ls rest register s r k (w ∷ ws) g = let one = g.kinds in taken s r one.0 (ap (λ v. and_lock 0 v) k)

label_holds : (ls : List RunLabel) (l : RunLabel) (x y : Standing) → Holds ls x → StepsTo one_lock ls (act_at x) l y →
    Holds (l ∷ ls) y
label_holds ls l x y (free {rest = []} s r k) e = same_locks ls Done l Over y e.0 (over tt) e.1
label_holds ls l x y (free {rest = Take ∷ rest} {register = register} s r k) e =
    same_locks ls (Lock 0 e.0) l (At rest register (first_of_words e.0)) y (sym e.1)
    (locked_holds ls rest register s r k e.0 e.2) e.3
label_holds ls l x y (free {rest = Give ∷ rest} s r k) e = absurd e
label_holds ls l x y (free {rest = Load ∷ rest} s r k) e = absurd e
label_holds ls l x y (free {rest = Store w ∷ rest} s r k) e = absurd e
label_holds ls l x y (free {rest = Print ∷ rest} {register = register} s r k) e =
    same_locks ls (Out register) l (At rest register None) y e.0 (free s r k) e.1
label_holds ls l x y (free {rest = Spin ∷ rest} s r k) e = absurd e
label_holds ls l x y (taken {rest = []} s r v k) e = same_locks ls Done l Over y e.0 (over tt) e.1
label_holds ls l x y (taken {rest = Take ∷ rest} s r v k) e = absurd e
label_holds ls l x y (taken {rest = Give ∷ rest} {register = register} {w = w} s r v k) e =
    same_locks ls (Unlock 0 (w ∷ [])) l (At rest register None) y e.0 (free s r (ap (λ v. except_lock 0 v) k)) e.1
label_holds ls l x y (taken {rest = Load ∷ rest} s r v k) e = absurd e
label_holds ls l x y (taken {rest = Store w ∷ rest} s r v k) e = absurd e
label_holds ls l x y (taken {rest = Print ∷ rest} {register = register} {w = w} s r v k) e =
    same_locks ls (Out register) l (At rest register (Some w)) y e.0 (taken s r v k) e.1
label_holds ls l x y (taken {rest = Spin ∷ rest} s r v k) e = absurd e
label_holds ls l x y (over h) e = absurd e

-- the word is touched only where the lock is held
shared_word : (locks : List ℕ) → locks ≡ 0 ∷ [] → IsShared one_lock locks 1
shared_word locks e =
    record { kind = U32; guard = 0; initial = 0; there = refl; held = subst (λ v. IsAmong 0 v) (sym e) first }

is_one : (locks : List ℕ) (w : ℕ) → locks ≡ 0 ∷ [] → IsAmong w (1 ∷ []) → IsShared one_lock locks w
is_one locks w e first = shared_word locks e
is_one locks w e (later h) = elim h [ ]

reads_shared : (ls : List RunLabel) (x : Standing) → Holds ls x → (w : ℕ) → IsAmong w (footprint_at x).reads →
    IsShared one_lock (locks_after ls) w
reads_shared ls x (taken {rest = Load ∷ rest} s r v k) w h = is_one (locks_after ls) w k h
reads_shared ls x (taken {rest = []} s r v k) w h = elim h [ ]
reads_shared ls x (taken {rest = Take ∷ rest} s r v k) w h = elim h [ ]
reads_shared ls x (taken {rest = Give ∷ rest} s r v k) w h = elim h [ ]
reads_shared ls x (taken {rest = Store u ∷ rest} s r v k) w h = elim h [ ]
reads_shared ls x (taken {rest = Print ∷ rest} s r v k) w h = elim h [ ]
reads_shared ls x (taken {rest = Spin ∷ rest} s r v k) w h = elim h [ ]
reads_shared ls x (free {rest = []} s r k) w h = elim h [ ]
reads_shared ls x (free {rest = Take ∷ rest} s r k) w h = elim h [ ]
reads_shared ls x (free {rest = Give ∷ rest} s r k) w h = elim h [ ]
reads_shared ls x (free {rest = Load ∷ rest} s r k) w h = elim h [ ]
reads_shared ls x (free {rest = Store u ∷ rest} s r k) w h = elim h [ ]
reads_shared ls x (free {rest = Print ∷ rest} s r k) w h = elim h [ ]
reads_shared ls x (free {rest = Spin ∷ rest} s r k) w h = elim h [ ]
reads_shared ls x (over e) w h = elim h [ ]

writes_shared : (ls : List RunLabel) (x : Standing) → Holds ls x → (w : ℕ) → IsAmong w (footprint_at x).writes →
    IsShared one_lock (locks_after ls) w
writes_shared ls x (taken {rest = Store u ∷ rest} s r v k) w h = is_one (locks_after ls) w k h
writes_shared ls x (taken {rest = []} s r v k) w h = elim h [ ]
writes_shared ls x (taken {rest = Take ∷ rest} s r v k) w h = elim h [ ]
writes_shared ls x (taken {rest = Give ∷ rest} s r v k) w h = elim h [ ]
writes_shared ls x (taken {rest = Load ∷ rest} s r v k) w h = elim h [ ]
writes_shared ls x (taken {rest = Print ∷ rest} s r v k) w h = elim h [ ]
writes_shared ls x (taken {rest = Spin ∷ rest} s r v k) w h = elim h [ ]
writes_shared ls x (free {rest = []} s r k) w h = elim h [ ]
writes_shared ls x (free {rest = Take ∷ rest} s r k) w h = elim h [ ]
writes_shared ls x (free {rest = Give ∷ rest} s r k) w h = elim h [ ]
writes_shared ls x (free {rest = Load ∷ rest} s r k) w h = elim h [ ]
writes_shared ls x (free {rest = Store u ∷ rest} s r k) w h = elim h [ ]
writes_shared ls x (free {rest = Print ∷ rest} s r k) w h = elim h [ ]
writes_shared ls x (free {rest = Spin ∷ rest} s r k) w h = elim h [ ]
writes_shared ls x (over e) w h = elim h [ ]

no_lock : (l : ℕ) → IsAmong l [] → ⊥
no_lock l h = elim h [ ]

may_act : (ls : List RunLabel) (x : Standing) → Holds ls x → MayAct one_lock ls (act_at x)
may_act ls x (free {rest = []} s r k) = tt
may_act ls x (free {rest = Take ∷ rest} s r k) = (refl, λ h. no_lock 0 (subst (λ v. IsAmong 0 v) k h))
may_act ls x (free {rest = Give ∷ rest} s r k) = tt
may_act ls x (free {rest = Load ∷ rest} s r k) = tt
may_act ls x (free {rest = Store w ∷ rest} s r k) = tt
may_act ls x (free {rest = Print ∷ rest} s r k) = tt
may_act ls x (free {rest = Spin ∷ rest} s r k) = tt
may_act ls x (taken {rest = []} s r v k) = tt
may_act ls x (taken {rest = Take ∷ rest} s r v k) = subst (λ v. IsAmong 0 v) (sym k) first
may_act ls x (taken {rest = Give ∷ rest} s r v k) =
    (subst (λ v. IsAmong 0 v) (sym k) first, record { is_lock = refl; count = refl })
may_act ls x (taken {rest = Load ∷ rest} s r v k) = tt
may_act ls x (taken {rest = Store w ∷ rest} s r v k) = tt
may_act ls x (taken {rest = Print ∷ rest} s r v k) = tt
may_act ls x (taken {rest = Spin ∷ rest} s r v k) = tt
may_act ls x (over h) = h

-- what an act of a section does is in kind, crosses nothing, and waits for no outside
abbrev Inner : List RunLabel → Act Standing → Type 0
Inner ls (Emits event y) = EmitsInKind one_lock ls (label_of event) × EmitsLocks one_lock ls (label_of event)
Inner ls (Crosses f share next) = ⊥
Inner ls (Receives next) = ⊥
Inner ls _ = Unit {0}

inner : (ls : List RunLabel) (x : Standing) → Holds ls x → Inner ls (act_at x)
inner ls x (free {rest = []} s r k) = (tt, tt)
inner ls x (free {rest = Take ∷ rest} s r k) = tt
inner ls x (free {rest = Give ∷ rest} s r k) = tt
inner ls x (free {rest = Load ∷ rest} s r k) = tt
inner ls x (free {rest = Store w ∷ rest} s r k) = tt
inner ls x (free {rest = Print ∷ rest} s r k) = (r, tt)
inner ls x (free {rest = Spin ∷ rest} s r k) = tt
inner ls x (taken {rest = []} s r v k) = (tt, tt)
inner ls x (taken {rest = Take ∷ rest} s r v k) = tt
inner ls x (taken {rest = Give ∷ rest} s r v k) = ((v, tt), tt)
inner ls x (taken {rest = Load ∷ rest} s r v k) = tt
inner ls x (taken {rest = Store w ∷ rest} s r v k) = tt
inner ls x (taken {rest = Print ∷ rest} s r v k) = (r, tt)
inner ls x (taken {rest = Spin ∷ rest} s r v k) = tt
inner ls x (over h) = tt

event_stays : (event : Event) (ls : List RunLabel) → HasCrossed (label_of event ∷ ls) → ⊥
event_stays (Unlocks lock ws) ls c = c
event_stays (Prints w) ls c = c
event_stays Ends ls c = c

inner_stays : (ls : List RunLabel) (a : Act Standing) (l : RunLabel) (y : Standing) → Inner ls a →
    StepsTo one_lock ls a l y → HasCrossed (l ∷ ls) → ⊥
inner_stays ls (Emits event z) l y h e c = event_stays event ls (subst (λ v. HasCrossed (v ∷ ls)) (sym e.0) c)
inner_stays ls (Locks lock next) l y h e c = let no : ⊥ = subst (λ v. HasCrossed (v ∷ ls)) e.1 c in no
inner_stays ls (Crosses f share next) l y h e c = h
inner_stays ls (Receives next) l y h e c = h
inner_stays ls (Quiet z) l y h e c = e
inner_stays ls Bad l y h e c = e
inner_stays ls (Stops why) l y h e c = e

inner_label : (ls : List RunLabel) (a : Act Standing) (l : RunLabel) (y : Standing) → Inner ls a →
    StepsTo one_lock ls a l y → EmitsInKind one_lock ls l × EmitsLocks one_lock ls l
inner_label ls (Emits event z) l y h e = subst (λ v. EmitsInKind one_lock ls v × EmitsLocks one_lock ls v) e.0 h
inner_label ls (Locks lock next) l y h e = subst (λ v. EmitsInKind one_lock ls v × EmitsLocks one_lock ls v) (sym e.1)
    (tt, tt)
inner_label ls (Crosses f share next) l y h e = absurd h
inner_label ls (Receives next) l y h e = absurd h
inner_label ls (Quiet z) l y h e = absurd e
inner_label ls Bad l y h e = absurd e
inner_label ls (Stops why) l y h e = absurd e

-- no function is open, in whatever act
opens_label : (ls : List RunLabel) (a : Act Standing) (l : RunLabel) (y : Standing) → Inner ls a →
    StepsTo one_lock ls a l y → OpensBy l None [] []
opens_label ls (Emits (Unlocks lock ws) z) l y h e = subst (λ v. OpensBy v None [] []) e.0 (refl, refl)
opens_label ls (Emits (Prints w) z) l y h e = subst (λ v. OpensBy v None [] []) e.0 (refl, refl)
opens_label ls (Emits Ends z) l y h e = subst (λ v. OpensBy v None [] []) e.0 (refl, refl, inl refl)
opens_label ls (Locks lock next) l y h e = subst (λ v. OpensBy v None [] []) (sym e.1) (refl, refl)
opens_label ls (Crosses f share next) l y h e = absurd h
opens_label ls (Receives next) l y h e = absurd h
opens_label ls (Quiet z) l y h e = absurd e
opens_label ls Bad l y h e = absurd e
opens_label ls (Stops why) l y h e = absurd e

module _ (price : ℕ) (program : List Instruction) (words : StoresWords program) where
  holds_at : {ls : List RunLabel} {bs : List Block} {b : Block} {x : Standing} →
      Run one_lock (sections price program) ls bs b x → Holds ls x
  holds_at starts = free {register = 0} words refl refl
  holds_at (quiet {ls = ls} {x = x} y r e) = quiet_holds ls x y (holds_at r) e
  holds_at (labelled {ls = ls} {x = x} l y r e) = label_holds ls l x y (holds_at r) e

  never_crossed : {ls : List RunLabel} {bs : List Block} {b : Block} {x : Standing} →
      Run one_lock (sections price program) ls bs b x → HasCrossed ls → ⊥
  never_crossed starts c = c
  never_crossed (quiet y r e) c = never_crossed r c
  never_crossed (labelled {ls = ls} {x = x} l y r e) c = inner_stays ls (act_at x) l y (inner ls x (holds_at r)) e c

not_crossing : (rest : List Instruction) (register : ℕ) (held : Option ℕ) (f : Option NameBytes) (share : Share)
    (next : Names → Option Standing) → act_of rest register held ≡ Crosses f share next → ⊥
not_crossing [] register held f share next e = cc e
not_crossing (Take ∷ rest) register None f share next e = cc e
not_crossing (Take ∷ rest) register (Some w) f share next e = cc e
not_crossing (Give ∷ rest) register None f share next e = cc e
not_crossing (Give ∷ rest) register (Some w) f share next e = cc e
not_crossing (Load ∷ rest) register None f share next e = cc e
not_crossing (Load ∷ rest) register (Some w) f share next e = cc e
not_crossing (Store u ∷ rest) register None f share next e = cc e
not_crossing (Store u ∷ rest) register (Some w) f share next e = cc e
not_crossing (Print ∷ rest) register held f share next e = cc e
not_crossing (Spin ∷ rest) register held f share next e = cc e

never_crosses : (x : Standing) (f : Option NameBytes) (share : Share) (next : Names → Option Standing) →
    act_at x ≡ Crosses f share next → ⊥
never_crosses (At rest register held) f share next e = not_crossing rest register held f share next e
never_crosses Over f share next e = cc e

pub sections_keep : (price : ℕ) (program : List Instruction) → 1 ≤ price → StoresWords program →
    KeepsRules one_lock (sections price program)
sections_keep price program p words = record {
  proceeds = record { costs = λ x. p; named = λ x f share next e. absurd (never_crosses x f share next e) };
  reads = λ ls bs b x r. reads_shared ls x (holds_at price program words r);
  writes = λ ls bs b x r. writes_shared ls x (holds_at price program words r);
  acts = λ ls bs b x r. may_act ls x (holds_at price program words r);
  listens = λ ls bs b x r c. absurd (never_crossed price program words r c);
  opens = record {
    first = inr (inl refl);
    quietly = λ ls bs b x r y e. inr (inl refl);
    by_label = λ ls bs b x r l y e. inr (opens_label ls (act_at x) l y (inner ls x (holds_at price program words r)) e);
  };
}

pub sections_in_kind : (price : ℕ) (program : List Instruction) → StoresWords program →
    KeepsKinds one_lock (sections price program)
sections_in_kind price program words ls bs b x r l y e = let both =
    inner_label ls (act_at x) l y (inner ls x (holds_at price program words r)) e in both.0

pub sections_hold : (price : ℕ) (program : List Instruction) → StoresWords program →
    KeepsLocks one_lock (sections price program)
sections_hold price program words ls bs b x r l y e = let both =
    inner_label ls (act_at x) l y (inner ls x (holds_at price program words r)) e in both.1
