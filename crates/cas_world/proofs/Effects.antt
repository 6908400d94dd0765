-- What the first item comes to keeps the walk: behind it the items are walked with the set that the check continues
-- with.
use Rattle.std.proofs.Common.{◌≡◌, ℕ, Bool, true, false, List, [], ◌∷◌, ◌++◌, Option, Some, None, refl, sym, ap, subst, ◌∙◌}
use Rattle.std.specs.Prelude.{⊤, if◌then◌else◌, Contains}
use Rattle.cas_base.specs.declared.decl.Decl.{Decl}
use Rattle.cas_base.specs.declared.kind.Ty.{Ty}
use Rattle.cas_base.specs.declared.place.Place.{Place}
use Rattle.cas_own.specs.Flow.{Flow, on, fault, Head, after, differing, same, back, guarded, held, joined, with_set, flow, flow_part}
use Rattle.cas_own.specs.Locks.{Locks, has, having, without, differs, holds_of}
use Rattle.cas_own.specs.Uses.{uses, target_uses, option_uses, argument_uses}
use Rattle.cas_own.specs.declared.fault.OwnCode.{OwnCode}
use Rattle.cas_own.specs.declared.fault.OwnCode.TheVariants.{O4, O5, O6, O7}
use Rattle.cas_own.proofs.Names.{guards_are_held, held_on}
use Rattle.cas_own.proofs.Sets.{differs-same}
use Rattle.cas_step.specs.Answered.{Got, got, bad, got_stuck, having_read, if_there, trace_of, word_at, answered, size_of, value_at}
use Rattle.cas_step.specs.Asks.{Value, Asks, gives, fails, stuck, reads, looks, loads, and_then, word_in}
use Rattle.cas_step.specs.Env.{Entity}
use Rattle.cas_step.specs.Evaluate.{EvalContext, Cell, of_object, of_global, either, value_of, values_of, test_of, target_of}
use Rattle.cas_step.specs.Continuation.{ContItem, begin, begun, loop, next, Effect, continues, stores, writes, calls, returns, locks, unlocks, prints, begin_part, after_break, after_continue, into, jumps, chooses, returned, statement_effect, effect_of}
use Rattle.cas_typed.specs.Resolved.{TypedExprTree, TypedStmtTree, skip, assign, call, block, if_, while_, do_, for_, break_, continue_, return_, lock, unlock, print, TypedStmtOption, absent, present}
use Rattle.cas_world.proofs.Lock_flow.{Lands, on_is, after_on, same_on, back_on, leaves_on, unreached, past, turned, walks_with, put, put_part, meet}
use Rattle.cas_world.specs.Lock_flow.{LoopContext, nowhere, inside, beside, cut, head_of, Within, HasLockFlow, while_flow, loop_flow}

-- all that evaluating may come to is so
abbrev pub Every : {O A : Type 0} → (A → Type 0) → Asks O A → Type 0
Every P (gives a) = P a
Every P (fails why) = ⊤
Every P stuck = ⊤
Every P (reads g i more) = (n : ℕ) → Every P (more n)
Every P (looks o more) = (size : Option ℕ) → Every P (more size)
Every P (loads o p more) = (v : _) → Every P (more v)

pub every_then : {O A B : Type 0} (P : B → Type 0) (x : Asks O A) (k : A → Asks O B) → ((a : A) → Every P (k a)) →
    Every P (and_then x k)
every_then P (gives a) k h = h a
every_then P (fails why) k h = tt
every_then P stuck k h = tt
every_then P (reads g i more) k h = λ n. every_then P (more n) k h
every_then P (looks o more) k h = λ size. every_then P (more size) k h
every_then P (loads o p more) k h = λ v. every_then P (more v) k h

-- what was got is so
abbrev pub GotSo : {A : Type 0} → (A → Type 0) → Got A → Type 0
GotSo P (got rs a) = P a
GotSo P (bad rs why) = ⊤
GotSo P (got_stuck rs) = ⊤

so_read : {A : Type 0} (P : A → Type 0) (before : List ℕ) (x : Got A) → GotSo P x → GotSo P (having_read before x)
so_read P before (got rs a) h = h
so_read P before (bad rs why) h = tt
so_read P before (got_stuck rs) h = tt

so_there : {V A : Type 0} (P : A → Type 0) (x : Option V) (k : V → Got A) → ((v : V) → GotSo P (k v)) →
    GotSo P (if_there x k)
so_there P None k h = tt
so_there P (Some v) k h = h v

pub answered_so : {O A : Type 0} (P : A → Type 0) (entity : ℕ → Option Entity) (word : ℕ → Option ℕ)
    (cells : O → Option (List (Value O))) (x : Asks O A) → Every P x →
    GotSo P (answered entity word cells x)
answered_so P entity word cells (gives a) h = h
answered_so P entity word cells (fails why) h = tt
answered_so P entity word cells stuck h = tt
answered_so P entity word cells (reads g i more) h =
    so_there P (word_at word (entity g) i) (λ n. having_read (trace_of (entity g) i)
    (answered entity word cells (more n)))
    (λ n. so_read P (trace_of (entity g) i) (answered entity word cells (more n))
    (answered_so P entity word cells (more n) (h n)))
answered_so P entity word cells (looks o more) h = answered_so P entity word cells (more (size_of (cells o)))
    (h (size_of (cells o)))
answered_so P entity word cells (loads o p more) h =
    so_there P (value_at (cells o) p) (λ v. answered entity word cells (more v))
    (λ v. answered_so P entity word cells (more v) (h v))

module _ (ds : List Decl) (own : Locks) where
  -- items that are walked with this set, somewhere
  abbrev pub Goes : Locks → List ContItem → Type 0
  Goes s cont = (x : LoopContext) × HasLockFlow ds own cont x (Some s)

  -- an effect of an item that is walked with this set
  abbrev pub KeepsEffect : {O : Type 0} → Locks → Effect O → Type 0
  KeepsEffect s (continues cont) = Goes s cont
  KeepsEffect s (stores o i v cont) = Goes s cont
  KeepsEffect s (writes g i n cont) = Goes s cont
  KeepsEffect s (calls g vs target cont) = ((l : ℕ) → Contains (holds_of ds g) l → has s l ≡ true) × Goes s cont
  KeepsEffect s (returns v) = own ≡ s
  KeepsEffect s (locks g cont) = (has s g ≡ false) × Goes (having s g) cont
  KeepsEffect s (unlocks g cont) = (has s g ≡ true) × Goes (without s g) cont
  KeepsEffect s (prints n cont) = Goes s cont

taken_on : (b : Bool) (code : OwnCode) (p : Place) (l : ℕ) (k : Flow) (o : Option Locks) →
    (if b then fault code p l else k) ≡ on o → (b ≡ false) × (k ≡ on o)
taken_on true code p l k o h = cc
taken_on false code p l k o h = (refl, h)

given_on : (b : Bool) (code : OwnCode) (p : Place) (l : ℕ) (k : Flow) (o : Option Locks) →
    (if b then k else fault code p l) ≡ on o → (b ≡ true) × (k ≡ on o)
given_on true code p l k o h = (refl, h)
given_on false code p l k o h = cc

-- where the set is that at the head
back_at : (h : Head) (t : Option Locks) (k : Flow) → Within h t → back h t k ≡ k
back_at h None k w = refl
back_at h (Some s) k w =
    ap (λ r. differing O4 h.place (differs h.set r) k) (sym w) ∙ ap (λ d. differing O4 h.place d k) (differs-same h.set)

head_inside : (x : LoopContext) (h : Head) → head_of x ≡ Some h → x ≡ inside h
head_inside nowhere h e = absurd (cc e)
head_inside (inside k) h e = let same_head : k ≡ h = cc in ap inside same_head
head_inside (beside k) h e = absurd (cc e)
head_inside cut h e = absurd (cc e)

-- a for's loop continues with the set at its head
loop_on : (ds : List Decl) (own : Locks) (h : Head) (c : Option TypedExprTree) (u : TypedStmtOption) (a : TypedStmtTree)
    (o : Option Locks) →
    loop_flow ds own h c u a ≡ on o → o ≡ Some h.set
loop_on ds own h c u a o f =
    let r = guards_are_held ds h.set (option_uses c) _ o f in
    let t = after_on (flow ds own (Some h) a h.set)
    (λ t. back h t (after (flow_part ds own None u h.set) (λ v. back h v (on (Some h.set))))) o r.0 in
    let b = back_on h t.0 (after (flow_part ds own None u h.set) (λ v. back h v (on (Some h.set)))) o t.2 in
    let v = after_on (flow_part ds own None u h.set) (λ v. back h v (on (Some h.set))) o b.1 in
    sym (on_is (Some h.set) o (back_on h v.0 (on (Some h.set)) o v.2).1)

module _ {O : Type 0} (ds : List Decl) (own : Locks) (sight : EvalContext O) where
  abbrev Keeps : Locks → Asks O (Effect O) → Type 0
  Keeps s x = Every (KeepsEffect ds own s) x

  into_keeps : (s : Locks) (c : Cell O) (v : Value O) (cont : List ContItem) → Goes ds own s cont →
      Keeps s (into c v cont)
  into_keeps s (of_object o p) v cont h = h
  into_keeps s (of_global g i) v cont h = every_then (KeepsEffect ds own s) (word_in v) (λ n. gives (writes g i n cont))
      (λ n. h)

  jumps_keep : (s : Locks) (to : Option (List ContItem)) → Lands (Goes ds own s) to → Keeps s (jumps to)
  jumps_keep s None h = tt
  jumps_keep s (Some cont) h = h

  either_keeps : (s : Locks) (some others : List ContItem) (is : Bool) → Goes ds own s some → Goes ds own s others →
      Keeps s (gives (continues (either some others is)))
  either_keeps s some others true h k = h
  either_keeps s some others false h k = k

  chooses_keep : (s : Locks) (c : Option TypedExprTree) (some others : List ContItem) → Goes ds own s some →
      Goes ds own s others → Keeps s (chooses sight c some others)
  chooses_keep s None some others h k = h
  chooses_keep s (Some c) some others h k =
      every_then (KeepsEffect ds own s) (test_of sight c) (λ is. gives (continues (either some others is)))
      (λ is. either_keeps s some others is h k)

  returned_keeps : (s : Locks) (a : Option TypedExprTree) → own ≡ s → Keeps s (returned sight a)
  returned_keeps s None e = e
  returned_keeps s (Some a) e = every_then (KeepsEffect ds own s) (value_of sight a) (λ v. gives (returns (Some v)))
      (λ v. e)

  -- where a statement that continues with the same set is done
  done : (s : Locks) (cont : List ContItem) (x : LoopContext) (o : Option Locks) → on (Some s) ≡ on o →
      HasLockFlow ds own cont x o → Goes ds own s cont
  done s cont x o f w = (x, walks_with ds own cont x o (Some s) (sym (on_is (Some s) o f)) w)

  -- a for, by what its first part continues with
  for_goes : (p : Place) (i : TypedStmtOption) (c : Option TypedExprTree) (u : TypedStmtOption) (a : TypedStmtTree)
      (s : Locks) (cont : List ContItem) (x : LoopContext) (o t : Option Locks) →
      flow_part ds own None i s ≡ on t → with_set t (λ r. loop_flow ds own (record { place = p; set = r }) c u a)
      ≡ on o → HasLockFlow ds own cont x o →
      Goes ds own s (begin_part i (loop p c u a ∷ cont))
  for_goes p i c u a s cont x o None first f w =
      (cut, put_part ds own i s (loop p c u a ∷ cont) cut None first (x, unreached ds own cont x o w))
  for_goes p i c u a s cont x o (Some r) first f w =
      let h : Head = record { place = p; set = r } in
      let same_set : o ≡ Some r = loop_on ds own h c u a o f in (
        beside h,
        put_part ds own i s (loop p c u a ∷ cont) (beside h) (Some r) first
            (x, refl, f ∙ ap on same_set, walks_with ds own cont x o (Some r) same_set w),
      )

  somewhere : (h : Head) (to : Option (List ContItem)) → Lands (λ t. HasLockFlow ds own t (inside h) (Some h.set)) to →
      Lands (Goes ds own h.set) to
  somewhere h None w = tt
  somewhere h (Some cont) w = (inside h, w)

  statement_keeps : (a : TypedStmtTree) (s : Locks) (cont : List ContItem) (x : LoopContext) (o : Option Locks) →
      flow ds own (head_of x) a s ≡ on o →
      HasLockFlow ds own cont x o → Keeps s (statement_effect sight a cont)
  statement_keeps (skip p) s cont x o f w = done s cont x o f w
  statement_keeps (assign p target a) s cont x o f w =
      let r = guards_are_held ds s (target_uses target ++ uses a) (on (Some s)) o f in
      every_then (KeepsEffect ds own s) (target_of sight target) _ (λ c.
      every_then (KeepsEffect ds own s) (value_of sight a) _ (λ v. into_keeps s c v cont (done s cont x o r.0 w)))
  statement_keeps (block p bs) s cont x o f w = (x, put ds own bs (Some s) cont x o f w)
  statement_keeps (if_ p c a otherwise) s cont x o f w =
      let r = guards_are_held ds s (uses c) _ o f in
      let t = after_on (flow ds own (head_of x) a s) (λ t. after (flow_part ds own (head_of x) otherwise s)
      (λ u. joined p t u)) o r.0 in
      let u = after_on (flow_part ds own (head_of x) otherwise s) (λ u. joined p t.0 u) o t.2 in
      let m = meet ds own p t.0 u.0 o cont x u.2 w in
      chooses_keep s (Some c) (begin a ∷ cont) (begin_part otherwise cont) (x, (t.0, t.1, m.0))
      (x, put_part ds own otherwise s cont x u.0 u.1 m.1)
  statement_keeps (while_ p c a) s cont x o f w =
      let h : Head = record { place = p; set = s } in
      let r = guards_are_held ds s (uses c) _ o f in
      let t = after_on (flow ds own (Some h) a s) (λ t. back h t (on (Some s))) o r.0 in
      let b = back_on h t.0 (on (Some s)) o t.2 in
      let same_set : o ≡ Some s = sym (on_is (Some s) o b.1) in
      let v = walks_with ds own cont x o (Some s) same_set w in
      chooses_keep s (Some c) (begin a ∷ begun p c a ∷ cont) cont
      (inside h, (t.0, t.1, (x, b.0, f ∙ ap on same_set, v))) (x, v)
  statement_keeps (do_ p a c) s cont x o f w =
      let h : Head = record { place = p; set = s } in
      let t = after_on (flow ds own (Some h) a s) (λ t. back h t (guarded ds s (uses c) (on (Some s)))) o f in
      let b = back_on h t.0 (guarded ds s (uses c) (on (Some s))) o t.2 in
      let same_set : o ≡ Some s = sym (on_is (Some s) o (guards_are_held ds s (uses c) (on (Some s)) o b.1).0) in
      let again : while_flow ds own h c a ≡ on (Some s) =
      ap (guarded ds s (uses c)) (ap (λ y. after y (λ t. back h t (on (Some s)))) t.1 ∙ back_at h t.0 (on (Some s)) b.0)
      ∙ b.1 ∙ ap on same_set in
      (inside h, (t.0, t.1, (x, b.0, again, walks_with ds own cont x o (Some s) same_set w)))
  statement_keeps (for_ p i c u a) s cont x o f w =
      let r = after_on (flow_part ds own None i s)
      (λ t. with_set t (λ r. loop_flow ds own (record { place = p; set = r }) c u a)) o f in
      for_goes p i c u a s cont x o r.0 r.1 r.2 w
  statement_keeps (break_ p) s cont x o f w =
      let r = leaves_on (head_of x) p s o f in
      let v = subst (λ y. HasLockFlow ds own cont y None) (head_inside x r.0 r.1)
      (walks_with ds own cont x o None r.3 w) in
      jumps_keep s (after_break cont) (subst (λ t. Lands (Goes ds own t) (after_break cont)) r.2
      (past ds own cont r.0 v))
  statement_keeps (continue_ p) s cont x o f w =
      let r = leaves_on (head_of x) p s o f in
      let v = subst (λ y. HasLockFlow ds own cont y None) (head_inside x r.0 r.1)
      (walks_with ds own cont x o None r.3 w) in
      jumps_keep s (after_continue cont) (subst (λ t. Lands (Goes ds own t) (after_continue cont)) r.2
      (somewhere r.0 (after_continue cont) (turned ds own cont r.0 v)))
  statement_keeps (call p kept g at args) s cont x o f w =
      let r = guards_are_held ds s (argument_uses args) (held at s (holds_of ds g) (on (Some s))) o f in
      let k = held_on at s (holds_of ds g) (on (Some s)) o r.0 in
      every_then (KeepsEffect ds own s) (values_of sight args) (λ vs. gives (calls g vs kept cont))
      (λ vs. (k.1, done s cont x o k.0 w))
  statement_keeps (return_ p a) s cont x o f w =
      let r = guards_are_held ds s (option_uses a) (same O5 p own s (on None)) o f in
      returned_keeps s a (same_on O5 p own s (on None) o r.0).0
  statement_keeps (lock p g) s cont x o f w =
      let r = taken_on (has s g) O6 p g (on (Some (having s g))) o f in (r.0, done (having s g) cont x o r.1 w)
  statement_keeps (unlock p g) s cont x o f w =
      let r = given_on (has s g) O7 p g (on (Some (without s g))) o f in (r.0, done (without s g) cont x o r.1 w)
  statement_keeps (print p a) s cont x o f w =
      let r = guards_are_held ds s (uses a) (on (Some s)) o f in
      every_then (KeepsEffect ds own s) (value_of sight a) _ (λ v.
      every_then (KeepsEffect ds own s) (word_in v) (λ n. gives (prints n cont)) (λ n. done s cont x o r.0 w))

  -- a turn of a loop, or its end

  while_keeps : (p : Place) (c : TypedExprTree) (a : TypedStmtTree) (cont : List ContItem) (h : Head)
      (outer : LoopContext) → while_flow ds own h c a ≡ on (Some h.set) →
      HasLockFlow ds own cont outer (Some h.set) → Keeps h.set
      (chooses sight (Some c) (begin a ∷ begun p c a ∷ cont) cont)
  while_keeps p c a cont h outer f w =
      let r = guards_are_held ds h.set (uses c) _ (Some h.set) f in
      let t = after_on (flow ds own (Some h) a h.set) (λ t. back h t (on (Some h.set))) (Some h.set) r.0 in
      let b = back_on h t.0 (on (Some h.set)) (Some h.set) t.2 in
      chooses_keep h.set (Some c) (begin a ∷ begun p c a ∷ cont) cont (inside h, (t.0, t.1, (outer, b.0, f, w)))
      (outer, w)

  loop_keeps : (p : Place) (c : Option TypedExprTree) (u : TypedStmtOption) (a : TypedStmtTree) (cont : List ContItem)
      (h : Head) (outer : LoopContext) →
      loop_flow ds own h c u a ≡ on (Some h.set) → HasLockFlow ds own cont outer (Some h.set) →
      Keeps h.set (chooses sight c (begin a ∷ next p u ∷ loop p c u a ∷ cont) cont)
  loop_keeps p c u a cont h outer f w =
      let r = guards_are_held ds h.set (option_uses c) _ (Some h.set) f in
      let t = after_on (flow ds own (Some h) a h.set)
      (λ t. back h t (after (flow_part ds own None u h.set) (λ v. back h v (on (Some h.set))))) (Some h.set) r.0 in
      let b = back_on h t.0 (after (flow_part ds own None u h.set) (λ v. back h v (on (Some h.set))))
      (Some h.set) t.2 in
      let v = after_on (flow_part ds own None u h.set) (λ v. back h v (on (Some h.set))) (Some h.set) b.1 in
      let d = back_on h v.0 (on (Some h.set)) (Some h.set) v.2 in
      chooses_keep h.set c (begin a ∷ next p u ∷ loop p c u a ∷ cont) cont
      (inside h, (t.0, t.1, (b.0, v.0, v.1, (outer, d.0, f, w)))) (outer, w)

  pub effect_keeps : (ret : Ty) (cont : List ContItem) (x : LoopContext) (s : Locks) →
      HasLockFlow ds own cont x (Some s) → Keeps s (effect_of sight ret cont)
  effect_keeps ret [] nowhere s w = w
  effect_keeps ret [] (inside h) s w = absurd w
  effect_keeps ret [] (beside h) s w = absurd w
  effect_keeps ret [] cut s w = absurd w
  effect_keeps ret (begin a ∷ cont) x s w = statement_keeps a s cont x w.0 w.1 w.2
  effect_keeps ret (begun p c a ∷ cont) nowhere s w = absurd w
  effect_keeps ret (begun p c a ∷ cont) (inside h) s w =
      subst (λ r. Keeps r (effect_of sight ret (begun p c a ∷ cont))) w.1 (while_keeps p c a cont h w.0 w.2 w.3)
  effect_keeps ret (begun p c a ∷ cont) (beside h) s w = absurd w
  effect_keeps ret (begun p c a ∷ cont) cut s w = absurd w
  effect_keeps ret (loop p c u a ∷ cont) nowhere s w = absurd w
  effect_keeps ret (loop p c u a ∷ cont) (inside h) s w = absurd w
  effect_keeps ret (loop p c u a ∷ cont) (beside h) s w =
      subst (λ r. Keeps r (effect_of sight ret (loop p c u a ∷ cont))) w.1 (loop_keeps p c u a cont h w.0 w.2 w.3)
  effect_keeps ret (loop p c u a ∷ cont) cut s w = absurd w
  effect_keeps ret (next p absent ∷ cont) nowhere s w = absurd w
  effect_keeps ret (next p absent ∷ cont) (inside h) s w =
      subst (λ r. Goes ds own r cont) w.0 (done h.set cont (beside h) w.1 w.2 w.3)
  effect_keeps ret (next p absent ∷ cont) (beside h) s w = absurd w
  effect_keeps ret (next p absent ∷ cont) cut s w = absurd w
  effect_keeps ret (next p (present a) ∷ cont) nowhere s w = absurd w
  effect_keeps ret (next p (present a) ∷ cont) (inside h) s w =
      subst (λ r. Keeps r (statement_effect sight a cont)) w.0 (statement_keeps a h.set cont (beside h) w.1 w.2 w.3)
  effect_keeps ret (next p (present a) ∷ cont) (beside h) s w = absurd w
  effect_keeps ret (next p (present a) ∷ cont) cut s w = absurd w
