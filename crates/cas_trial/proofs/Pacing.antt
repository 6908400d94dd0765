-- A machine with calls of its own keeps the rules, and what a source keeps; the slow one refines the fast one.
use Rattle.std.proofs.Common.{◌≡◌, ℕ, ◌+◌, ◌≤◌, Bool, true, false, nat_eq, List, [], ◌∷◌, ◌++◌, length, ◌⊎◌, Option, Some, None, if◌then◌else◌, slice_get, inl, inr, refl, sym, ap, ◌∙◌, subst, arith, eqb-true, ⊎_elim}
use Rattle.cas_base.specs.declared.kind.Kind.TheVariants.{U32}
use Rattle.cas_runs.specs.Label.{NameBytes, same_name, Shown, Word, Object, Share, Crossing, RunLabel, Lock, Unlock, Out, Done, Enter, Back, Call, Leave, locks_of}
use Rattle.cas_runs.specs.Label.{Both}
use Rattle.cas_runs.specs.Label as label
use Rattle.cas_base.specs.declared.kind.Ty.{Ty}
use Rattle.cas_base.specs.declared.kind.Ty.TheVariants.{Void, Int}
use Rattle.cas_runs.specs.Edge.{Signature, signature_of, returned, IsOfKind, IsShare, AreOfTypes}
use Rattle.cas_runs.specs.Outside.{Pending, pending, without_newest, crossed, IsAmong, numbered, Holds, MayBring}
use Rattle.cas_runs.specs.Outside as outside
use Rattle.cas_runs.specs.Machine.{Open, Between, Quiet, Crosses, Names, Machine, StepsTo, IsBad, Block, begun, onward, open_functions, crossing_by, Run, starts, quiet, labelled}
use Rattle.cas_runs.specs.Refines.{Within, skip, Fine}
use Rattle.cas_runs.specs.Chains.{Chain, last, more, IsChained}
use Rattle.cas_runs.specs.Simulation.{here, step, fails, After, Answers, Simulates}
use Rattle.cas_runs.specs.Unit.{Setting}
use Rattle.cas_runs.specs.Rules.{locks_after, HasCrossed, MayReceive, Carries, LeavesAll, AreOneValue, NameOne, IsReturn, MayCrossBy, MayAct, IsReceiving, OpensQuietly, OpensBy, KeepsRules, AllShowWords, AreSized, EmitsInKind, EmitsLocks, KeepsKinds, KeepsLocks}
use Rattle.cas_runs.proofs.Composing.{sub_same}
use Rattle.cas_runs.proofs.Footing.{among_either}
use Rattle.cas_runs.proofs.Refining.{among_front}
use Rattle.cas_runs.proofs.Tests.{eq_self, same_name_from}
use Rattle.cas_trial.specs.Stages.{main_name, show_name}
use Rattle.cas_trial.specs.Pacing.{Level, Entered, Called, Place, Outside, Begins, Calling, Leaving, Broken, first_place, received, shows, shows_nothing, act_of, opened, activations_at, called_at, relay, edge, Match, at_one, begins}

-- What is there after each run.

-- the outside runs where nothing has been entered, or after a call; the unit runs after an entry
abbrev Alternates : (outside_runs : Bool) → List Level → Type 0
Alternates true [] = Unit {0}
Alternates true (Called ∷ levels) = Alternates false levels
Alternates false (Entered ∷ levels) = Alternates true levels
Alternates _ _ = ⊥

abbrev AtOutside : List Level → Type 0
AtOutside = Alternates true

abbrev AtInside : List Level → Type 0
AtInside = Alternates false

-- what waits are the calls and entries that haven't returned, and no entry came with a lock
abbrev Fits : List Level → List Pending → Type 0
Fits [] [] = Unit {0}
Fits (Entered ∷ levels) (outside.Entered f locks ∷ ps) = (locks ≡ []) × Fits levels ps
Fits (Called ∷ levels) (outside.Called f locks ∷ ps) = Fits levels ps
Fits _ _ = ⊥

record Common (ls : List RunLabel) (levels : List Level) : Type 0 where
  objects : crossed ls ≡ []
  waiting : Fits levels (pending ls)

data Inv (ls : List RunLabel) : Place → Type 0 where
  out : {levels : List Level} → AtOutside levels → Common ls levels → Inv ls (Outside levels)
  first : {levels : List Level} → AtInside levels → Common ls levels → Inv ls (Begins levels [])
  call : {levels : List Level} → AtInside levels → Common ls levels → Inv ls (Calling levels [])
  leave : {levels : List Level} → AtInside levels → Common ls levels → Inv ls (Leaving levels [])
  broken : Inv ls Broken

-- no word is at the edge, so no lock is in a share
no_share : (share : Share) → IsShare edge share → share ≡ []
no_share [] h = refl
no_share (k ∷ ks) h = let lock = h.0.is_lock in absurd (cc lock)

-- nor does an object cross, without values
no_objects : (objects : List Object) (types : List Ty) (values : List Shown) → types ≡ [] →
    AreOfTypes objects types values → numbered 0 values ≡ Some (length objects) → objects ≡ []
no_objects [] types values none typed count = refl
no_objects (o ∷ os) [] [] none typed count = let no : 0 ≡ length (o ∷ os) = cc count in absurd (omega (arith, no))
no_objects (o ∷ os) [] (v ∷ vs) none typed count = absurd typed
no_objects (o ∷ os) (t ∷ ts) values none typed count = absurd (cc none)

-- the signatures of the edge
abbrev show_sig : Signature
show_sig = record { name = show_name; ret = Void; params = Int U32 ∷ []; holds = []; inside = false }

of_sig : (P : Signature → Type 0) → P (record { name = main_name; ret = Void; params = []; holds = []; inside = true })
    → P show_sig → (name : NameBytes) (s : Signature) → signature_of edge.functions name ≡ Some s → P s
of_sig P main show name s e = by (same_name main_name name) (same_name show_name name) e
  where
    by : (t u : Bool) →
        (if t then Some (record { name = main_name; ret = Void; params = []; holds = []; inside = true }) else
        (if u then Some show_sig else None)) ≡ Some s → P s
    by true u f = let is : record { name = main_name; ret = Void; params = []; holds = []; inside = true } ≡ s =
        cc f in subst P is main
    by false true f = let is : show_sig ≡ s = cc f in subst P is show
    by false false f = absurd (cc f)

returns_none : (name : NameBytes) (s : Signature) → signature_of edge.functions name ≡ Some s → returned s.ret ≡ []
returns_none name s e = of_sig (λ (v : Signature). returned v.ret ≡ []) refl refl name s e

takes_none : (name : NameBytes) (s : Signature) → signature_of edge.functions name ≡ Some s → s.inside ≡ true →
    s.params ≡ []
takes_none name s e = of_sig (λ (v : Signature). v.inside ≡ true → v.params ≡ []) (λ i. refl) (λ i. absurd (cc i))
    name s e

module _ (slow : Bool) (price word : ℕ) where
  abbrev M : Machine Place
  M = relay slow price word

  first_inv : (s : Bool) (ls : List RunLabel) (levels : List Level) (share : Share) → share ≡ [] → AtInside levels →
      Common ls levels → Inv ls (first_place s levels share)
  first_inv true ls levels share e at c = subst (λ v. Inv ls (Begins levels v)) (sym e) (first at c)
  first_inv false ls levels share e at c = subst (λ v. Inv ls (Calling levels v)) (sym e) (call at c)

  back_fits : (levels : List Level) (ps : List Pending) → Fits (Called ∷ levels) ps → Fits levels (without_newest ps)
  back_fits levels (outside.Called f locks ∷ ps) h = h
  back_fits levels (outside.Entered f locks ∷ ps) h = absurd h
  back_fits levels [] h = absurd h

  leave_fits : (levels : List Level) (ps : List Pending) → Fits (Entered ∷ levels) ps → Fits levels (without_newest ps)
  leave_fits levels (outside.Entered f locks ∷ ps) h = h.1
  leave_fits levels (outside.Called f locks ∷ ps) h = absurd h
  leave_fits levels [] h = absurd h

  received_inv : (ls : List RunLabel) (levels : List Level) → AtOutside levels → Common ls levels → (l : RunLabel) →
      MayBring edge ls l → Inv (l ∷ ls) (received slow levels l)
  received_inv ls levels at c (Enter f crossing) m =
      let share = no_share crossing.share m.brings.share in
      let count : numbered 0 crossing.values ≡ Some (length crossing.objects) =
      subst (λ (os : List Object). numbered (length os) crossing.values ≡ Some (length crossing.objects))
      c.objects m.brings.numbers in
      first_inv slow (Enter f crossing ∷ ls) (Entered ∷ levels) crossing.share share at (record {
        objects = no_objects crossing.objects m.signature.params crossing.values
            (takes_none f m.signature m.known m.inside) m.values count;
        waiting = (ap locks_of share, c.waiting);
      })
  received_inv ls [] at c (Back crossing) m = broken
  received_inv ls (Entered ∷ levels) at c (Back crossing) m = broken
  received_inv ls (Called ∷ levels) at c (Back crossing) m =
      let share = no_share crossing.share m.brings.share in
      let count : numbered 0 crossing.values ≡ Some (length crossing.objects) =
      subst (λ (os : List Object). numbered (length os) crossing.values ≡ Some (length crossing.objects))
      c.objects m.brings.numbers in
      subst (λ v. Inv (Back crossing ∷ ls) (Leaving levels v)) (sym share) (leave at (record {
        objects = no_objects crossing.objects (returned m.signature.ret) crossing.values
            (returns_none m.function m.signature m.known) m.values count;
        waiting = back_fits levels (pending ls) c.waiting;
      }))
  received_inv ls levels at c (Lock k ws) m = absurd m
  received_inv ls levels at c (Unlock k ws) m = absurd m
  received_inv ls levels at c (Out w) m = absurd m
  received_inv ls levels at c Done m = absurd m
  received_inv ls levels at c (Call f crossing) m = absurd m
  received_inv ls levels at c (Leave crossing) m = absurd m

  -- what a name of the call shows
  record Shows (levels : List Level) (values : List Shown) (objects : List Object) (y : Place) : Type 0 where
    values_are : values ≡ Word word ∷ []
    objects_are : objects ≡ []
    leads : y ≡ Outside (Called ∷ levels)

  shows_so : (levels : List Level) (values : List Shown) (objects : List Object) (y : Place) →
      shows word levels values objects ≡ Some y → Shows levels values objects y
  shows_so levels (Word w ∷ []) [] y e = by (nat_eq w word) refl e
    where
      by : (t : Bool) → nat_eq w word ≡ t → (if t then Some (Outside (Called ∷ levels)) else None) ≡ Some y →
          Shows levels (Word w ∷ []) [] y
      by true i f =
          record {
            values_are = ap (λ v. Word v ∷ []) (eqb-true w word i);
            objects_are = refl;
            leads = let to : Outside
                (Called ∷ levels) ≡ y = cc f in sym to;
          }
      by false i f = absurd (cc f)
  shows_so levels [] objects y e = absurd (cc e)
  shows_so levels (label.Place o p ∷ vs) objects y e = absurd (cc e)
  shows_so levels (Word w ∷ v ∷ vs) objects y e = absurd (cc e)
  shows_so levels (Word w ∷ []) (o ∷ os) y e = absurd (cc e)

  nothing_so : (levels : List Level) (values : List Shown) (objects : List Object) (y : Place) →
      shows_nothing levels values objects ≡ Some y → (values ≡ []) × (objects ≡ []) × (y ≡ Outside levels)
  nothing_so levels [] [] y e = let to : Outside levels ≡ y = cc e in (refl, refl, sym to)
  nothing_so levels [] (o ∷ os) y e = absurd (cc e)
  nothing_so levels (v ∷ vs) objects y e = absurd (cc e)

  label_inv : (ls : List RunLabel) (x : Place) → Inv ls x → (l : RunLabel) (y : Place) →
      StepsTo edge ls (act_of slow word x) l y → Inv (l ∷ ls) y
  label_inv ls x (out {levels = levels} at c) l y e = subst (λ v. Inv (l ∷ ls) v) e.1
      (received_inv ls levels at c l e.0)
  label_inv ls x (first at c) l y e = absurd e
  label_inv ls x (call {levels = levels} at c) l y e =
      let s = shows_so levels e.0.values e.0.objects y e.2 in
      subst (λ v. Inv (v ∷ ls) y) e.1 (subst (λ v. Inv (crossing_by (Some show_name) [] e.0 ∷ ls) v) (sym s.leads)
      (out at (record { objects = s.objects_are; waiting = c.waiting })))
  label_inv ls x (leave {levels = []} at c) l y e = absurd e
  label_inv ls x (leave {levels = Called ∷ levels} at c) l y e = absurd e
  label_inv ls x (leave {levels = Entered ∷ levels} at c) l y e =
      let s = nothing_so levels e.0.values e.0.objects y e.2 in
      subst (λ v. Inv (v ∷ ls) y) e.1 (subst (λ v. Inv (crossing_by None [] e.0 ∷ ls) v) (sym s.2)
      (out at (record { objects = s.1; waiting = leave_fits levels (pending ls) c.waiting })))
  label_inv ls x broken l y e = absurd e

  quiet_inv : (ls : List RunLabel) (x : Place) → Inv ls x → (y : Place) → act_of slow word x ≡ Quiet y → Inv ls y
  quiet_inv ls x (out at c) y e = absurd (cc e)
  quiet_inv ls x (first {levels = levels} at c) y e = let to : Calling levels [] ≡ y =
      cc e in subst (λ v. Inv ls v) to (call at c)
  quiet_inv ls x (call at c) y e = absurd (cc e)
  quiet_inv ls x (leave {levels = []} at c) y e = absurd (cc e)
  quiet_inv ls x (leave {levels = Called ∷ levels} at c) y e = absurd (cc e)
  quiet_inv ls x (leave {levels = Entered ∷ levels} at c) y e = absurd (cc e)
  quiet_inv ls x broken y e = absurd (cc e)

  inv : {ls : List RunLabel} {bs : List Block} {b : Block} {x : Place} → Run edge M ls bs b x → Inv ls x
  inv starts = out {levels = []} tt (record { objects = refl; waiting = tt })
  inv (quiet {ls = ls} {x = x} y r e) = quiet_inv ls x (inv r) y e
  inv (labelled {ls = ls} {x = x} l y r e) = label_inv ls x (inv r) l y e

  -- What it emits is in kind, with the locks that are due.

  call_kind : IsOfKind word U32 → (ls : List RunLabel) (n : Names) → n.values ≡ Word word ∷ [] → n.objects ≡ [] →
      EmitsInKind edge ls (Call show_name (record { values = n.values; share = []; objects = n.objects }))
  call_kind is ls n values objects s e =
      let typed : AreOfTypes [] (Int U32 ∷ []) (Word word ∷ []) = (is, tt) in
      let there : AreOfTypes n.objects (Int U32 ∷ []) n.values =
      subst (λ os. AreOfTypes os (Int U32 ∷ []) n.values) (sym objects)
      (subst (λ vs. AreOfTypes [] (Int U32 ∷ []) vs) (sym values) typed) in
      let params : Int U32 ∷ [] ≡ s.params = let same : show_sig ≡ s = cc e in ap (λ (v : Signature). v.params) same in
      record {
        values = subst (λ ts. AreOfTypes n.objects ts n.values) params there;
        share = tt;
        objects = subst AllShowWords (sym objects) tt;
        sizes = subst AreSized (sym objects) tt;
      }

  leave_kind : (ls : List RunLabel) (n : Names) → n.values ≡ [] → n.objects ≡ [] →
      EmitsInKind edge ls (Leave (record { values = n.values; share = []; objects = n.objects }))
  leave_kind ls n values objects g locks older s p e =
      let there : AreOfTypes n.objects [] n.values = subst (λ vs. AreOfTypes n.objects [] vs) (sym values) tt in
      record {
        values = subst (λ ts. AreOfTypes n.objects ts n.values) (sym (returns_none g s e)) there;
        share = tt;
        objects = subst AllShowWords (sym objects) tt;
        sizes = subst AreSized (sym objects) tt;
      }

  kinds_of : IsOfKind word U32 → (ls : List RunLabel) (x : Place) → Inv ls x → (l : RunLabel) (y : Place) →
      StepsTo edge ls (act_of slow word x) l y → EmitsInKind edge ls l
  kinds_of is ls x (out at c) l y e = brought_kind l e.0
    where
      brought_kind : (l : RunLabel) → MayBring edge ls l → EmitsInKind edge ls l
      brought_kind (Enter f crossing) m = tt
      brought_kind (Back crossing) m = tt
      brought_kind (Lock k ws) m = absurd m
      brought_kind (Unlock k ws) m = absurd m
      brought_kind (Out w) m = absurd m
      brought_kind Done m = absurd m
      brought_kind (Call f crossing) m = absurd m
      brought_kind (Leave crossing) m = absurd m
  kinds_of is ls x (first at c) l y e = absurd e
  kinds_of is ls x (call {levels = levels} at c) l y e = let s = shows_so levels e.0.values e.0.objects y e.2 in
      subst (λ v. EmitsInKind edge ls v) e.1 (call_kind is ls e.0 s.values_are s.objects_are)
  kinds_of is ls x (leave {levels = []} at c) l y e = absurd e
  kinds_of is ls x (leave {levels = Called ∷ levels} at c) l y e = absurd e
  kinds_of is ls x (leave {levels = Entered ∷ levels} at c) l y e = let s =
      nothing_so levels e.0.values e.0.objects y e.2 in
      subst (λ v. EmitsInKind edge ls v) e.1 (leave_kind ls e.0 s.0 s.1)
  kinds_of is ls x broken l y e = absurd e

  leave_locks : (levels : List Level) (ps : List Pending) → Fits (Entered ∷ levels) ps →
      (g : NameBytes) (locks : List ℕ) (older : List Pending) → ps ≡ outside.Entered g locks ∷ older → [] ≡ locks
  leave_locks levels (outside.Entered f held ∷ ps) h g locks older e = let same : held ≡ locks = cc e in sym h.0 ∙ same
  leave_locks levels (outside.Called f held ∷ ps) h g locks older e = absurd h
  leave_locks levels [] h g locks older e = absurd h

  locks_so : (ls : List RunLabel) (x : Place) → Inv ls x → (l : RunLabel) (y : Place) →
      StepsTo edge ls (act_of slow word x) l y → EmitsLocks edge ls l
  locks_so ls x (out at c) l y e = brought_locks l e.0
    where
      brought_locks : (l : RunLabel) → MayBring edge ls l → EmitsLocks edge ls l
      brought_locks (Enter f crossing) m = tt
      brought_locks (Back crossing) m = tt
      brought_locks (Lock k ws) m = absurd m
      brought_locks (Unlock k ws) m = absurd m
      brought_locks (Out w) m = absurd m
      brought_locks Done m = absurd m
      brought_locks (Call f crossing) m = absurd m
      brought_locks (Leave crossing) m = absurd m
  locks_so ls x (first at c) l y e = absurd e
  locks_so ls x (call at c) l y e = subst (λ v. EmitsLocks edge ls v) e.1
      (λ s i. of_sig (λ (v : Signature). Holds [] v.holds) tt tt show_name s i)
  locks_so ls x (leave {levels = []} at c) l y e = absurd e
  locks_so ls x (leave {levels = Called ∷ levels} at c) l y e = absurd e
  locks_so ls x (leave {levels = Entered ∷ levels} at c) l y e =
      subst (λ v. EmitsLocks edge ls v) e.1 (λ g locks older p. leave_locks levels
      (pending ls) c.waiting g locks older p)
  locks_so ls x broken l y e = absurd e

  -- It keeps the rules.

  -- of the newest label: the outside runs after a call or a return, or before any label, and the unit after an entry or
  -- a return to it, which brought no lock
  record Came (ls : List RunLabel) : Type 0 where
    locks : [] ≡ locks_after ls
    here_now : HasCrossed ls → ⊥

  abbrev Newest : List RunLabel → Place → Type 0
  Newest ls (Outside levels) = MayReceive ls
  Newest ls (Begins levels share) = Came ls
  Newest ls (Calling levels share) = Came ls
  Newest ls (Leaving levels share) = Came ls
  Newest ls Broken = HasCrossed ls → ⊥

  first_newest : (s : Bool) (ls : List RunLabel) (levels : List Level) (share : Share) → Came ls →
      Newest ls (first_place s levels share)
  first_newest true ls levels share c = c
  first_newest false ls levels share c = c

  received_newest : (ls : List RunLabel) (levels : List Level) (l : RunLabel) → MayBring edge ls l →
      Newest (l ∷ ls) (received slow levels l)
  received_newest ls levels (Enter f crossing) m =
      let share = no_share crossing.share m.brings.share in
      first_newest slow (Enter f crossing ∷ ls) (Entered ∷ levels) crossing.share
      (record { locks = sym (ap locks_of share); here_now = λ h. h })
  received_newest ls [] (Back crossing) m = λ h. h
  received_newest ls (Entered ∷ levels) (Back crossing) m = λ h. h
  received_newest ls (Called ∷ levels) (Back crossing) m =
      let share = no_share crossing.share m.brings.share in
      record { locks = sym (ap locks_of share); here_now = λ h. h }
  received_newest ls levels (Lock k ws) m = absurd m
  received_newest ls levels (Unlock k ws) m = absurd m
  received_newest ls levels (Out w) m = absurd m
  received_newest ls levels Done m = absurd m
  received_newest ls levels (Call f crossing) m = absurd m
  received_newest ls levels (Leave crossing) m = absurd m

  label_newest : (ls : List RunLabel) (x : Place) → (l : RunLabel) (y : Place) →
      StepsTo edge ls (act_of slow word x) l y → Newest (l ∷ ls) y
  label_newest ls (Outside levels) l y e = subst (λ v. Newest (l ∷ ls) v) e.1 (received_newest ls levels l e.0)
  label_newest ls (Begins levels share) l y e = absurd e
  label_newest ls (Calling levels share) l y e =
      let s = shows_so levels e.0.values e.0.objects y e.2 in
      subst (λ v. Newest (v ∷ ls) y) e.1 (subst (λ v. Newest (crossing_by (Some show_name) share e.0 ∷ ls) v)
      (sym s.leads) tt)
  label_newest ls (Leaving [] share) l y e = absurd e
  label_newest ls (Leaving (Called ∷ levels) share) l y e = absurd e
  label_newest ls (Leaving (Entered ∷ levels) share) l y e =
      let s = nothing_so levels e.0.values e.0.objects y e.2 in
      subst (λ v. Newest (v ∷ ls) y) e.1 (subst (λ v. Newest (crossing_by None share e.0 ∷ ls) v) (sym s.2) tt)
  label_newest ls Broken l y e = absurd e

  quiet_newest : (ls : List RunLabel) (x : Place) → Newest ls x → (y : Place) → act_of slow word x ≡ Quiet y →
      Newest ls y
  quiet_newest ls (Outside levels) c y e = absurd (cc e)
  quiet_newest ls (Begins levels share) c y e = let to : Calling levels share ≡ y =
      cc e in subst (λ v. Newest ls v) to c
  quiet_newest ls (Calling levels share) c y e = absurd (cc e)
  quiet_newest ls (Leaving [] share) c y e = absurd (cc e)
  quiet_newest ls (Leaving (Called ∷ levels) share) c y e = absurd (cc e)
  quiet_newest ls (Leaving (Entered ∷ levels) share) c y e = absurd (cc e)
  quiet_newest ls Broken c y e = absurd (cc e)

  newest : {ls : List RunLabel} {bs : List Block} {b : Block} {x : Place} → Run edge M ls bs b x → Newest ls x
  newest starts = tt
  newest (quiet {ls = ls} {x = x} y r e) = quiet_newest ls x (newest r) y e
  newest (labelled {ls = ls} {x = x} l y r e) = label_newest ls x l y e

  -- what it carries, where no object has crossed
  carries : (ls : List RunLabel) (values : List Shown) (objects : List Object) → crossed ls ≡ [] → [] ≡ locks_after ls →
      objects ≡ [] → numbered 0 values ≡ Some 0 → Carries edge ls
      (record { values = values; share = []; objects = objects })
  carries ls values objects none locks are count = record {
    share = tt;
    same_locks = locks;
    objects = subst (λ os. LeavesAll os objects) (sym none) (subst (λ os. LeavesAll [] os) (sym are) tt);
    numbers = subst (λ (os : List Object). numbered (length os) values ≡ Some (length objects)) (sym none)
        (count ∙ ap (λ (os : List Object). Some (length os)) (sym are));
  }

  no_object : {A : Type 0} (os : List A) (i : ℕ) (o : A) → os ≡ [] → slice_get os i ≡ Some o → ⊥
  no_object os i o none e = let no : ⊥ = cc (subst (λ v. slice_get v i ≡ Some o) none e) in no

  -- two names of the same values, without objects
  one_name : (known : ℕ) (values : List Shown) (n m : Names) →
      Both (AreOneValue known n.objects m.objects) values values →
      n.values ≡ values → m.values ≡ values → n.objects ≡ [] → NameOne known n m
  one_name known values n m same ns ms none = record {
    values = subst (λ v. Both (AreOneValue known n.objects m.objects) v m.values) (sym ns)
        (subst (λ v. Both (AreOneValue known n.objects m.objects) values v) (sym ms) same);
    olds = λ i less o p e f. absurd (no_object n.objects i o none e);
  }

  has_shown : (levels : List Level) → shows word levels (Word word ∷ []) [] ≡ Some (Outside (Called ∷ levels))
  has_shown levels = ap (λ (t : Bool). if t then Some (Outside (Called ∷ levels)) else None) (eq_self word)

  call_may : (ls : List RunLabel) (levels : List Level) → Common ls levels → Came ls →
      MayCrossBy edge ls (Some show_name) [] (λ names. shows word levels names.values names.objects)
  call_may ls levels c came = record {
    names = record { values = Word word ∷ []; objects = [] };
    to = Outside (Called ∷ levels);
    has_names = has_shown levels;
    each = λ n y e. let s = shows_so levels n.values n.objects y e in record {
      returns = tt;
      carries = carries ls n.values n.objects c.objects came.locks s.objects_are
          (subst (λ vs. numbered 0 vs ≡ Some 0) (sym s.values_are) refl);
    };
    alike = λ n m y z e f.
        let s = shows_so levels n.values n.objects y e in
        let t = shows_so levels m.values m.objects z f in
        one_name (length (crossed ls)) (Word word ∷ []) n m (refl, tt) s.values_are t.values_are s.objects_are;
  }

  returning : (levels : List Level) (ls : List RunLabel) (ps : List Pending) → pending ls ≡ ps →
      Fits (Entered ∷ levels) ps → IsReturn ls
  returning levels ls (outside.Entered f locks ∷ ps) e h =
      record { function = f; locks = locks; older = ps; newest = e }
  returning levels ls (outside.Called f locks ∷ ps) e h = absurd h
  returning levels ls [] e h = absurd h

  leave_may : (ls : List RunLabel) (levels : List Level) → Common ls (Entered ∷ levels) → Came ls →
      MayCrossBy edge ls None [] (λ names. shows_nothing levels names.values names.objects)
  leave_may ls levels c came = record {
    names = record { values = []; objects = [] };
    to = Outside levels;
    has_names = refl;
    each = λ n y e. let s = nothing_so levels n.values n.objects y e in record {
      returns = returning levels ls (pending ls) refl c.waiting;
      carries = carries ls n.values n.objects c.objects came.locks s.1
          (subst (λ vs. numbered 0 vs ≡ Some 0) (sym s.0) refl);
    };
    alike = λ n m y z e f.
        let s = nothing_so levels n.values n.objects y e in
        let t = nothing_so levels m.values m.objects z f in
        one_name (length (crossed ls)) [] n m tt s.0 t.0 s.1;
  }

  acts_so : (ls : List RunLabel) (x : Place) → Inv ls x → Newest ls x → MayAct edge ls (act_of slow word x)
  acts_so ls x (out at c) n = n
  acts_so ls x (first at c) n = tt
  acts_so ls x (call {levels = levels} at c) n = call_may ls levels c n
  acts_so ls x (leave {levels = []} at c) n = tt
  acts_so ls x (leave {levels = Called ∷ levels} at c) n = tt
  acts_so ls x (leave {levels = Entered ∷ levels} at c) n = leave_may ls levels c n
  acts_so ls x broken n = tt

  listens_so : (ls : List RunLabel) (x : Place) → Newest ls x → HasCrossed ls → IsReceiving (act_of slow word x)
  listens_so ls (Outside levels) n h = tt
  listens_so ls (Begins levels share) n h = absurd (n.here_now h)
  listens_so ls (Calling levels share) n h = absurd (n.here_now h)
  listens_so ls (Leaving levels share) n h = absurd (n.here_now h)
  listens_so ls Broken n h = absurd (n h)

  named_so : (x : Place) (function : Option NameBytes) (share : Share) (next : Names → Option Place) →
      act_of slow word x ≡ Crosses function share next → (n : Names) × (y : Place) × (next n ≡ Some y)
  named_so (Outside levels) function share next e = absurd (cc e)
  named_so (Begins levels held) function share next e = absurd (cc e)
  named_so (Calling levels held) function share next e =
      let same : (λ (names : Names). shows word levels names.values names.objects) ≡ next = cc e in (
        record { values = Word word ∷ []; objects = [] },
        Outside (Called ∷ levels),
        sym
            (ap (λ (g : Names → Option Place). g (record { values = Word word ∷ []; objects = [] })) same)
            ∙ has_shown levels,
      )
  named_so (Leaving [] held) function share next e = absurd (cc e)
  named_so (Leaving (Called ∷ levels) held) function share next e = absurd (cc e)
  named_so (Leaving (Entered ∷ levels) held) function share next e =
      let same : (λ (names : Names). shows_nothing levels names.values names.objects) ≡ next = cc e in (
        record { values = []; objects = [] },
        Outside levels,
        sym
            (ap (λ (g : Names → Option Place). g (record { values = []; objects = [] })) same),
      )
  named_so Broken function share next e = absurd (cc e)

  -- the open functions
  quietly_opens : (x y : Place) → act_of slow word x ≡ Quiet y → IsBad (act_of slow word y)
      ⊎ OpensQuietly (called_at x) (activations_at x) (activations_at y)
  quietly_opens (Outside levels) y e = absurd (cc e)
  quietly_opens (Begins levels share) y e = let to : Calling levels share ≡ y =
      cc e in inr (inl (sym (ap activations_at to)))
  quietly_opens (Calling levels share) y e = absurd (cc e)
  quietly_opens (Leaving [] share) y e = absurd (cc e)
  quietly_opens (Leaving (Called ∷ levels) share) y e = absurd (cc e)
  quietly_opens (Leaving (Entered ∷ levels) share) y e = absurd (cc e)
  quietly_opens Broken y e = absurd (cc e)

  first_opens : (s : Bool) (levels : List Level) (share : Share) →
      activations_at (first_place s levels share) ≡ opened levels
  first_opens true levels share = refl
  first_opens false levels share = refl

  entered_main : (f : NameBytes) (s : Signature) → signature_of edge.functions f ≡ Some s → s.inside ≡ true →
      main_name ≡ f
  entered_main f s e i = by (same_name main_name f) (same_name show_name f) refl e
    where
      by : (t u : Bool) → same_name main_name f ≡ t →
          (if t then Some (record { name = main_name; ret = Void; params = []; holds = []; inside = true }) else
          (if u then Some show_sig else None)) ≡ Some s → main_name ≡ f
      by true u h g = same_name_from main_name f h
      by false true h g = let is : show_sig ≡ s = cc g in let no : false ≡ true = ap (λ (v : Signature). v.inside) is
          ∙ i in absurd (cc no)
      by false false h g = absurd (cc g)

  received_opens : (ls : List RunLabel) (levels : List Level) (l : RunLabel) → MayBring edge ls l →
      IsBad (act_of slow word (received slow levels l))
      ⊎ OpensBy l None (opened levels) (activations_at (received slow levels l))
  received_opens ls levels (Enter f crossing) m =
      inr (first_opens slow (Entered ∷ levels) crossing.share
      ∙ ap (λ v. Open v ∷ Between ∷ opened levels) (entered_main f m.signature m.known m.inside))
  received_opens ls [] (Back crossing) m = inl tt
  received_opens ls (Entered ∷ levels) (Back crossing) m = inl tt
  received_opens ls (Called ∷ levels) (Back crossing) m = inr (refl, refl)
  received_opens ls levels (Lock k ws) m = absurd m
  received_opens ls levels (Unlock k ws) m = absurd m
  received_opens ls levels (Out w) m = absurd m
  received_opens ls levels Done m = absurd m
  received_opens ls levels (Call f crossing) m = absurd m
  received_opens ls levels (Leave crossing) m = absurd m

  label_opens : (ls : List RunLabel) (x : Place) (l : RunLabel) (y : Place) → StepsTo edge ls (act_of slow word x) l y →
      IsBad (act_of slow word y) ⊎ OpensBy l (called_at x) (activations_at x) (activations_at y)
  label_opens ls (Outside levels) l y e =
      subst (λ v. IsBad (act_of slow word v) ⊎ OpensBy l None (opened levels) (activations_at v)) e.1
      (received_opens ls levels l e.0)
  label_opens ls (Begins levels share) l y e = absurd e
  label_opens ls (Calling levels share) l y e =
      let s = shows_so levels e.0.values e.0.objects y e.2 in
      inr (subst (λ v. OpensBy v (Some show_name) (opened levels) (activations_at y)) e.1
      (refl, inl (ap activations_at s.leads)))
  label_opens ls (Leaving [] share) l y e = absurd e
  label_opens ls (Leaving (Called ∷ levels) share) l y e = absurd e
  label_opens ls (Leaving (Entered ∷ levels) share) l y e =
      let s = nothing_so levels e.0.values e.0.objects y e.2 in
      let closed : Open main_name ∷ Between ∷ opened levels ≡ Open main_name ∷ Between ∷ activations_at y =
      ap (λ v. Open main_name ∷ Between ∷ activations_at v) (sym s.2) in
      inr (subst (λ v. OpensBy v None (Open main_name ∷ Between ∷ opened levels) (activations_at y)) e.1
      (refl, inr (main_name, closed)))
  label_opens ls Broken l y e = absurd e

pub relay_kinds : (slow : Bool) (price word : ℕ) → IsOfKind word U32 → KeepsKinds edge (relay slow price word)
relay_kinds slow price word is ls bs b x r l y e = kinds_of slow price word is ls x (inv slow price word r) l y e

pub relay_locks : (slow : Bool) (price word : ℕ) → KeepsLocks edge (relay slow price word)
relay_locks slow price word ls bs b x r l y e = locks_so slow price word ls x (inv slow price word r) l y e

pub relay_rules : (slow : Bool) (price word : ℕ) → 1 ≤ price → KeepsRules edge (relay slow price word)
relay_rules slow price word least = record {
  proceeds =
      record {
        costs = λ x. least;
        named = λ x function share next e. named_so slow price word x function share next e;
      };
  reads = λ ls bs b x r w h. elim h [ ];
  writes = λ ls bs b x r w h. elim h [ ];
  acts = λ ls bs b x r. acts_so slow price word ls x (inv slow price word r) (newest slow price word r);
  listens = λ ls bs b x r h. listens_so slow price word ls x (newest slow price word r) h;
  opens = record {
    first = inr (inl refl);
    quietly = λ ls bs b x r y e. quietly_opens slow price word x y e;
    by_label = λ ls bs b x r l y e. label_opens slow price word ls x l y e;
  };
}

-- The slow one refines the fast one, at twice the price.

module _ (word : ℕ) where
  abbrev T : Machine Place
  T = relay true 1 word

  abbrev S : Machine Place
  S = relay false 2 word

  abbrev R : List RunLabel → Place → Block → Place → Block → Type 0
  R ls x b y c = Match x b y c

  front : (w : ℕ) (xs : List ℕ) → IsAmong w (xs ++ []) → IsAmong w xs
  front w xs h = by (among_either w xs [] h)
    where
      by : IsAmong w xs ⊎ IsAmong w [] → IsAmong w xs
      by (inl m) = m
      by (inr m) = elim m [ ]

  back : (w : ℕ) (xs : List ℕ) → IsAmong w xs → IsAmong w (xs ++ [])
  back w xs h = among_front w xs [] h

  -- both make a step, or the target alone does, which has paid for it
  both_step : (b c : Block) (x y : Place) → Within b c → Within (onward T b x) (onward S c y)
  both_step b c x y w = record {
    price = let p = w.price in omega (arith, p);
    writes = λ v h. back v c.writes (w.writes v (front v b.writes h));
    reads = λ v h. ⊎_elim (λ m. inl (back v c.reads m)) (λ m. inr (back v c.writes m)) (w.reads v (front v b.reads h));
  }

  step_alone : (b c : Block) (x : Place) → Within (record b { price = b.price + 1 }) c → Within (onward T b x) c
  step_alone b c x w = record {
    price = let p = w.price in omega (arith, p);
    writes = λ v h. w.writes v (front v b.writes h);
    reads = λ v h. w.reads v (front v b.reads h);
  }

  first_blocks : (x y : Place) → Within (begun T x) (begun S y)
  first_blocks x y = record { price = omega arith; writes = λ v h. elim h [ ]; reads = λ v h. elim h [ ] }

  begin_blocks : (x y : Place) → Within (record (begun T x) { price = (begun T x).price + 1 }) (begun S y)
  begin_blocks x y = record { price = omega arith; writes = λ v h. elim h [ ]; reads = λ v h. elim h [ ] }

  received_both : (ls : List RunLabel) (levels : List Level) (l : RunLabel) →
      After edge T S R ls (received true levels l) (received false levels l)
  received_both ls levels (Enter f crossing) =
      here (begins (begin_blocks (Begins (Entered ∷ levels) crossing.share)
      (Calling (Entered ∷ levels) crossing.share)))
  received_both ls [] (Back crossing) = here (at_one (first_blocks Broken Broken))
  received_both ls (Entered ∷ levels) (Back crossing) = here (at_one (first_blocks Broken Broken))
  received_both ls (Called ∷ levels) (Back crossing) =
      here (at_one (first_blocks (Leaving levels crossing.share) (Leaving levels crossing.share)))
  received_both ls levels (Lock k ws) = here (at_one (first_blocks Broken Broken))
  received_both ls levels (Unlock k ws) = here (at_one (first_blocks Broken Broken))
  received_both ls levels (Out w) = here (at_one (first_blocks Broken Broken))
  received_both ls levels Done = here (at_one (first_blocks Broken Broken))
  received_both ls levels (Call f crossing) = here (at_one (first_blocks Broken Broken))
  received_both ls levels (Leave crossing) = here (at_one (first_blocks Broken Broken))

  fine_of : (x : Place) (b : Block) (y : Place) (c : Block) → Match x b y c → Fine T S x b y c
  fine_of x b y c (at_one w) = record { costs = omega arith; within = w; opened = sub_same (open_functions T x) }
  fine_of x b y c (begins {levels = levels} w) = record {
    costs = omega arith;
    within = record { price = let p = w.price in omega (arith, p); writes = w.writes; reads = w.reads };
    opened = skip (sub_same (open_functions T (Begins levels [])));
  }

  has_word : (levels : List Level) → shows word levels (Word word ∷ []) [] ≡ Some (Outside (Called ∷ levels))
  has_word levels = ap (λ (t : Bool). if t then Some (Outside (Called ∷ levels)) else None) (eq_self word)

  answers_of : (ls : List RunLabel) (x : Place) (b : Block) (y : Place) (c : Block) → Match x b y c →
      Answers edge T S R ls (T.act x) b y c
  answers_of ls x b y c (begins {levels = levels} {share = share} w) =
      here (at_one (step_alone b c (Calling levels share) w))
  answers_of ls (Outside levels) b y c (at_one w) = here (λ l may. received_both (l ∷ ls) levels l)
  answers_of ls (Begins levels share) b y c (at_one w) =
      step (Calling levels share) refl (here (at_one (both_step b c (Calling levels share) (Calling levels share) w)))
  answers_of ls (Calling levels share) b y c (at_one w) = here (
    refl,
    refl,
    record {
      names = record { values = Word word ∷ []; objects = [] };
      to = Outside (Called ∷ levels);
      has_names = has_word levels;
      each = λ n z e. (z, e, here (at_one (first_blocks z z)));
    },
  )
  answers_of ls (Leaving [] share) b y c (at_one w) = fails tt
  answers_of ls (Leaving (Called ∷ levels) share) b y c (at_one w) = fails tt
  answers_of ls (Leaving (Entered ∷ levels) share) b y c (at_one w) = here (
    refl,
    refl,
    record {
      names = record { values = []; objects = [] };
      to = Outside levels;
      has_names = refl;
      each = λ n z e. (z, e, here (at_one (first_blocks z z)));
    },
  )
  answers_of ls Broken b y c (at_one w) = fails tt

  pub slow_simulates : Simulates edge T S R
  slow_simulates = record {
    starts = here (at_one (first_blocks (Outside []) (Outside [])));
    fine = λ ls x y q r m. inr (fine_of x.at x.block y.at y.block m);
    answers = λ ls x y q r m. answers_of ls x.at x.block y.at y.block m;
  }

  -- and as chains: the step before the call, and the call
  chain_of : (ls : List RunLabel) (x : Place) (b : Block) (y : Place) (c : Block) → Match x b y c →
      Chain edge T S R ls x b y c
  chain_of ls x b y c (at_one w) = last (inr (fine_of x b y c (at_one w))) (answers_of ls x b y c (at_one w))
  chain_of ls x b y c (begins {levels = levels} {share = share} w) =
      let called = at_one (step_alone b c (Calling levels share) w) in
      more (Calling levels share) refl (inr (fine_of x b y c (begins w)))
      (last (inr (fine_of (Calling levels share) (onward T b (Calling levels share)) y c called))
      (answers_of ls (Calling levels share) (onward T b (Calling levels share)) y c called))

  pub slow_chains : IsChained edge T S R
  slow_chains = record {
    starts = here (at_one (first_blocks (Outside []) (Outside [])));
    goes_on = λ ls x b y c m. chain_of ls x b y c m;
  }

pub chained_steps : (setting : Setting) (v w : ℕ) → w ≡ v → setting.edge ≡ edge →
    IsChained setting.edge (relay true 1 w) (relay false 2 v) (λ ls x b y c. Match x b y c)
chained_steps setting v w same at =
    subst (λ u. IsChained setting.edge (relay true 1 u) (relay false 2 v) (λ ls x b y c. Match x b y c)) (sym same)
    (subst (λ e. IsChained e (relay true 1 v) (relay false 2 v) (λ ls x b y c. Match x b y c)) (sym at)
    (slow_chains v))

pub slow_steps : (setting : Setting) (v w : ℕ) → w ≡ v → setting.edge ≡ edge →
    Simulates setting.edge (relay true 1 w) (relay false 2 v) (λ ls x b y c. Match x b y c)
slow_steps setting v w same at =
    subst (λ u. Simulates setting.edge (relay true 1 u) (relay false 2 v) (λ ls x b y c. Match x b y c)) (sym same)
    (subst (λ e. Simulates e (relay true 1 v) (relay false 2 v) (λ ls x b y c. Match x b y c)) (sym at)
    (slow_simulates v))
