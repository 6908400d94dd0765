-- Laws of the walk through what an activation has to do.
use Rattle.std.proofs.Common.{◌≡◌, List, [], ◌∷◌, Option, Some, None, refl, sym, ap, subst}
use Rattle.std.specs.Prelude.{⊤, ℕ}
use Rattle.cas_base.specs.declared.decl.Decl.{Decl}
use Rattle.cas_base.specs.declared.place.Place.{Place}
use Rattle.cas_own.specs.Flow.{Flow, on, fault, Head, after, differing, same, back, joined, leaves, with_set, flow, flow_part, flow_all, body_flow}
use Rattle.cas_own.specs.Locks.{Locks, differs}
use Rattle.cas_own.specs.declared.fault.OwnCode.{OwnCode}
use Rattle.cas_own.specs.declared.fault.OwnCode.TheVariants.{O3, O4, O5}
use Rattle.cas_own.proofs.Sets.{differs-none}
use Rattle.cas_step.specs.Continuation.{ContItem, begin, begun, loop, next, begin_all, begin_part, after_break, after_continue}
use Rattle.cas_typed.specs.Resolved.{TypedStmtOption, absent, present, TypedStmtList, no_more, one_more}
use Rattle.cas_world.specs.Lock_flow.{LoopContext, nowhere, inside, beside, cut, head_of, Within, HasLockFlow}

-- what is there is so
abbrev pub Lands : {A : Type 0} → (A → Type 0) → Option A → Type 0
Lands P None = ⊤
Lands P (Some a) = P a

-- what a walk without a fault says of its parts

pub on_is : (o u : Option Locks) → on o ≡ on u → o ≡ u
on_is o u h = cc

pub after_on : (x : Flow) (k : Option Locks → Flow) (o : Option Locks) → after x k ≡ on o → (t : Option Locks)
    × (x ≡ on t) × (k t ≡ on o)
after_on (on t) k o h = (t, refl, h)
after_on (fault code p l) k o h = cc

differing_on : (code : OwnCode) (p : Place) (x : Option ℕ) (k : Flow) (o : Option Locks) → differing code p x k ≡ on o →
    (x ≡ None) × (k ≡ on o)
differing_on code p None k o h = (refl, h)
differing_on code p (Some l) k o h = cc

pub same_on : (code : OwnCode) (p : Place) (s t : Locks) (k : Flow) (o : Option Locks) → same code p s t k ≡ on o →
    (s ≡ t) × (k ≡ on o)
same_on code p s t k o h = let r = differing_on code p (differs s t) k o h in (differs-none s t r.0, r.1)

pub back_on : (h : Head) (t : Option Locks) (k : Flow) (o : Option Locks) → back h t k ≡ on o → Within h t × (k ≡ on o)
back_on h None k o e = (tt, e)
back_on h (Some s) k o e = same_on O4 h.place h.set s k o e

pub leaves_on : (h : Option Head) (p : Place) (s : Locks) (o : Option Locks) → leaves h p s ≡ on o → (k : Head)
    × (h ≡ Some k) × (k.set ≡ s) × (o ≡ None)
leaves_on None p s o e = cc
leaves_on (Some h) p s o e = let r = back_on h (Some s) (on None) o e in (h, refl, r.0, sym (on_is None o r.1))

module _ (ds : List Decl) (own : Locks) where
  pub unreached : (cont : List ContItem) (x : LoopContext) (o : Option Locks) → HasLockFlow ds own cont x o →
      HasLockFlow ds own cont x None
  unreached [] nowhere None w = tt
  unreached [] nowhere (Some s) w = tt
  unreached [] (inside h) o w = absurd w
  unreached [] (beside h) o w = absurd w
  unreached [] cut o w = absurd w
  unreached (begin a ∷ cont) x None w = w
  unreached (begin a ∷ cont) x (Some s) w = unreached cont x w.0 w.2
  unreached (begun p c a ∷ cont) nowhere o w = absurd w
  unreached (begun p c a ∷ cont) (inside h) o w = (w.0, tt, w.2, w.3)
  unreached (begun p c a ∷ cont) (beside h) o w = absurd w
  unreached (begun p c a ∷ cont) cut o w = absurd w
  unreached (loop p c u a ∷ cont) nowhere o w = absurd w
  unreached (loop p c u a ∷ cont) (inside h) o w = absurd w
  unreached (loop p c u a ∷ cont) (beside h) o w = (w.0, tt, w.2, w.3)
  unreached (loop p c u a ∷ cont) cut None w = w
  unreached (loop p c u a ∷ cont) cut (Some s) w = absurd w
  unreached (next p u ∷ cont) nowhere o w = absurd w
  unreached (next p u ∷ cont) (inside h) o w = (tt, w.1, w.2, w.3)
  unreached (next p u ∷ cont) (beside h) o w = absurd w
  unreached (next p u ∷ cont) cut o w = absurd w

  -- behind a loop, from its last part
  past_part : (cont : List ContItem) (h : Head) → HasLockFlow ds own cont (beside h) None →
      Lands (λ t. (x : LoopContext) × HasLockFlow ds own t x (Some h.set)) (after_break cont)
  past_part [] h w = absurd w
  past_part (begin a ∷ cont) h w = past_part cont h w
  past_part (begun p c a ∷ cont) h w = absurd w
  past_part (loop p c u a ∷ cont) h w = (w.0, w.3)
  past_part (next p u ∷ cont) h w = absurd w

  -- behind a loop, from its body
  pub past : (cont : List ContItem) (h : Head) → HasLockFlow ds own cont (inside h) None →
      Lands (λ t. (x : LoopContext) × HasLockFlow ds own t x (Some h.set)) (after_break cont)
  past [] h w = absurd w
  past (begin a ∷ cont) h w = past cont h w
  past (begun p c a ∷ cont) h w = (w.0, w.3)
  past (loop p c u a ∷ cont) h w = absurd w
  past (next p u ∷ cont) h w = past_part cont h (unreached cont (beside h) w.1 w.3)

  -- at the next turn, from a loop's body
  pub turned : (cont : List ContItem) (h : Head) → HasLockFlow ds own cont (inside h) None →
      Lands (λ t. HasLockFlow ds own t (inside h) (Some h.set)) (after_continue cont)
  turned [] h w = absurd w
  turned (begin a ∷ cont) h w = turned cont h w
  turned (begun p c a ∷ cont) h w = (w.0, refl, w.2, w.3)
  turned (loop p c u a ∷ cont) h w = absurd w
  turned (next p u ∷ cont) h w = (refl, w.1, w.2, w.3)

  -- with an equal set
  pub walks_with : (cont : List ContItem) (x : LoopContext) (t o : Option Locks) → t ≡ o → HasLockFlow ds own cont x t →
      HasLockFlow ds own cont x o
  walks_with cont x t o e w = subst (λ r. HasLockFlow ds own cont x r) e w

  none_all : (h : Option Head) (bs : TypedStmtList) → flow_all ds own h bs None ≡ on None
  none_all h no_more = refl
  none_all h (one_more a bs) = refl

  -- the statements of a block in front of what is behind it
  pub put : (bs : TypedStmtList) (i : Option Locks) (cont : List ContItem) (x : LoopContext) (o : Option Locks) →
      flow_all ds own (head_of x) bs i ≡ on o →
      HasLockFlow ds own cont x o → HasLockFlow ds own (begin_all bs cont) x i
  put no_more i cont x o f w = walks_with cont x o i (sym (on_is i o f)) w
  put (one_more a bs) None cont x o f w = put bs None cont x None (none_all (head_of x) bs)
      (walks_with cont x o None (sym (on_is None o f)) w)
  put (one_more a bs) (Some s) cont x o f w =
      let r = after_on (flow ds own (head_of x) a s) (λ t. flow_all ds own (head_of x) bs t) o f in
      (r.0, r.1, put bs r.0 cont x o r.2 w)

  -- a part, if there is one, in front of what is behind it
  pub put_part : (u : TypedStmtOption) (s : Locks) (cont : List ContItem) (x : LoopContext) (o : Option Locks) →
      flow_part ds own (head_of x) u s ≡ on o →
      HasLockFlow ds own cont x o → HasLockFlow ds own (begin_part u cont) x (Some s)
  put_part absent s cont x o f w = walks_with cont x o (Some s) (sym (on_is (Some s) o f)) w
  put_part (present a) s cont x o f w = (o, f, w)

  -- what is after an if, from both branches
  pub meet : (p : Place) (t u o : Option Locks) (cont : List ContItem) (x : LoopContext) → joined p t u ≡ on o →
      HasLockFlow ds own cont x o →
      HasLockFlow ds own cont x t × HasLockFlow ds own cont x u
  meet p None u o cont x f w = (unreached cont x o w, walks_with cont x o u (sym (on_is u o f)) w)
  meet p (Some s) None o cont x f w = (walks_with cont x o (Some s) (sym (on_is (Some s) o f)) w, unreached cont x o w)
  meet p (Some s) (Some t) o cont x f w =
      let r = same_on O3 p s t (on (Some s)) o f in
      let v = walks_with cont x o (Some s) (sym (on_is (Some s) o r.1)) w in
      (v, walks_with cont x (Some s) (Some t) (ap (λ k. Some k) r.0) v)

  -- the body of a checked function, with nothing behind it
  pub body_walks : (closing : Place) (body : TypedStmtList) → body_flow ds own closing body ≡ on None →
      HasLockFlow ds own (begin_all body []) nowhere (Some own)
  body_walks closing body f =
      let r = after_on (flow_all ds own None body (Some own)) (λ o. with_set o (λ s. same O5 closing own s (on None)))
      (None) f in
      put body (Some own) [] nowhere r.0 r.1 (ended r.0 r.2)
    where
      ended : (o : Option Locks) → with_set o (λ s. same O5 closing own s (on None)) ≡ on None →
          HasLockFlow ds own [] nowhere o
      ended None e = tt
      ended (Some s) e = (same_on O5 closing own s (on None) None e).0
