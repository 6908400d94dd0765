-- The locks of sets and faults are items of the module.
use Rattle.std.proofs.Common.{arith, ◌≡◌, ◌<◌, ℕ, ◌+◌, Bool, true, false, List, [], ◌∷◌, ◌++◌, length, min, Option, Some, None, subst}
use Rattle.std.specs.Prelude.{⊤, if◌then◌else◌, slice_get, ◌==◌, nat_lt}
use Rattle.std.proofs.lemmas.Option.{slice_get_within}
use Rattle.cas_base.specs.Decl.{is_named}
use Rattle.cas_base.specs.declared.decl.Decl.{Decl}
use Rattle.cas_base.specs.declared.decl.Form.{Form}
use Rattle.cas_base.specs.declared.decl.Form.TheVariants.{Lock, Shared, Table, Function}
use Rattle.cas_base.specs.declared.kind.Ty.{Ty}
use Rattle.cas_base.specs.declared.place.Place.{Place}
use Rattle.cas_own.specs.Flow.{Flow, on, fault, Head, after, wanting, guarded, held, differing, same, back, joined, leaves, with_set, flow, flow_part, flow_all, body_flow}
use Rattle.cas_own.specs.Locks.{Locks, has, having, without, differs, lock_meant, lock_named, lock_and, locks_named, set_of, guard_of_form, holds_of_form, of_declared, guard_of, holds_of}
use Rattle.cas_own.specs.Uses.{Use, uses, target_uses, option_uses, argument_uses}
use Rattle.cas_check.specs.View.{turns}
use Rattle.cas_own.specs.declared.fault.OwnCode.{OwnCode}
use Rattle.cas_own.specs.declared.fault.OwnCode.TheVariants.{O1, O2, O3, O4, O5, O6, O7}
use Rattle.cas_typed.specs.Resolved.{TypedStmtTree, skip, assign, call, block, if_, while_, do_, for_, break_, continue_, return_, lock, unlock, print, TypedStmtOption, absent, present, TypedStmtList, no_more, one_more}
use Rattle.cas_typed.specs.Scopes.{Meaning, item, item_named}
use Rattle.cas_typed.specs.Sorts.{IsDeclared, IsSorted, IsSortedPart, AreSorted}

-- the items of a set are less than this
abbrev pub SetWithin : (end : ℕ) → List ℕ → Type 0
SetWithin end [] = ⊤
SetWithin end (l ∷ s) = (l < end) × SetWithin end s

abbrev pub OptionWithin : (end : ℕ) → Option ℕ → Type 0
OptionWithin end None = ⊤
OptionWithin end (Some l) = l < end

abbrev pub OnwardWithin : (end : ℕ) → Option Locks → Type 0
OnwardWithin end None = ⊤
OnwardWithin end (Some s) = SetWithin end s

-- the set with which a walk continues, or the lock of its fault
abbrev pub FlowWithin : (end : ℕ) → Flow → Type 0
FlowWithin end (on o) = OnwardWithin end o
FlowWithin end (fault code p l) = l < end

abbrev pub HeadWithin : (end : ℕ) → Option Head → Type 0
HeadWithin end None = ⊤
HeadWithin end (Some h) = SetWithin end h.set

-- sets

choose : {A : Type 0} (P : A → Type 0) (b : Bool) (x y : A) → P x → P y → P (if b then x else y)
choose P true x y h k = h
choose P false x y h k = k

having_within : (end : ℕ) (s : Locks) (l : ℕ) → SetWithin end s → l < end → SetWithin end (having s l)
having_within end [] l h less = (less, tt)
having_within end (m ∷ s) l h less =
    choose (SetWithin end) (m == l) (m ∷ s) (if nat_lt l m then l ∷ m ∷ s else m ∷ having s l) h
    (choose (SetWithin end) (nat_lt l m) (l ∷ m ∷ s) (m ∷ having s l) (less, h) (h.0, having_within end s l h.1 less))

without_within : (end : ℕ) (s : Locks) (l : ℕ) → SetWithin end s → SetWithin end (without s l)
without_within end [] l h = tt
without_within end (m ∷ s) l h = choose (SetWithin end) (m == l) s (m ∷ without s l) h.1
    (h.0, without_within end s l h.1)

pub set_within : (end : ℕ) (ls : List ℕ) → SetWithin end ls → SetWithin end (set_of ls)
set_within end [] h = tt
set_within end (l ∷ ls) h = having_within end (set_of ls) l (set_within end ls h.1) h.0

min_within : (end l m : ℕ) → l < end → m < end → min l m < end
min_within end l m h k = omega (arith, h, k)

differs_within : (end : ℕ) (s t : Locks) → SetWithin end s → SetWithin end t → OptionWithin end (differs s t)
differs_within end [] [] h k = tt
differs_within end (l ∷ s) [] h k = h.0
differs_within end [] (m ∷ t) h k = k.0
differs_within end (l ∷ s) (m ∷ t) h k =
    choose (OptionWithin end) (l == m) (differs s t) (Some (min l m)) (differs_within end s t h.1 k.1)
    (min_within end l m h.0 k.0)

-- declarations

chosen_within : (b : Bool) (end n : ℕ) (form : Form) (m : Meaning) → n < end → OptionWithin end (lock_meant m) →
    OptionWithin end (lock_meant (if b then item n form else m))
chosen_within true end n Lock m less h = less
chosen_within true end n (Shared ty l) m less h = tt
chosen_within true end n (Table ty) m less h = tt
chosen_within true end n (Function ret params holds) m less h = tt
chosen_within false end n form m less h = h

meant_within : (n : ℕ) (ds : List Decl) (name : List ℕ) →
    OptionWithin (n + length ds) (lock_meant (item_named n ds name))
meant_within n [] name = tt
meant_within n (d ∷ ds) name =
    let more : n + 1 + length ds ≡ n + length (d ∷ ds) = omega arith in
    let less : n < n + length (d ∷ ds) = omega arith in
    chosen_within (is_named name d) (n + length (d ∷ ds)) n d.form (item_named (n + 1) ds name) less
    (subst (λ (end : ℕ). OptionWithin end (lock_meant (item_named (n + 1) ds name))) more
    (meant_within (n + 1) ds name))

pub lock_within : (ds : List Decl) (name : List ℕ) → OptionWithin (length ds) (lock_named ds name)
lock_within ds name =
    let all : 0 + length ds ≡ length ds = omega arith in
    subst (λ (end : ℕ). OptionWithin end (lock_named ds name)) all (meant_within 0 ds name)

and_within : (end : ℕ) (l : Option ℕ) (ls : List ℕ) → OptionWithin end l → SetWithin end ls →
    SetWithin end (lock_and l ls)
and_within end None ls h k = k
and_within end (Some l) ls h k = (h, k)

named_within : (ds : List Decl) (names : List (List ℕ)) → SetWithin (length ds) (locks_named ds names)
named_within ds [] = tt
named_within ds (name ∷ names) = and_within (length ds) (lock_named ds name) (locks_named ds names)
    (lock_within ds name) (named_within ds names)

guard_form : (ds : List Decl) (form : Form) → OptionWithin (length ds) (guard_of_form ds form)
guard_form ds Lock = tt
guard_form ds (Shared ty l) = lock_within ds l
guard_form ds (Table ty) = tt
guard_form ds (Function ret params holds) = tt

holds_form : (ds : List Decl) (form : Form) → SetWithin (length ds) (holds_of_form ds form)
holds_form ds Lock = tt
holds_form ds (Shared ty l) = tt
holds_form ds (Table ty) = tt
holds_form ds (Function ret params holds) = named_within ds holds

guard_at : (ds : List Decl) (d : Option Decl) → OptionWithin (length ds) (of_declared (guard_of_form ds) None d)
guard_at ds None = tt
guard_at ds (Some d) = guard_form ds d.form

guard_within : (ds : List Decl) (g : ℕ) → OptionWithin (length ds) (guard_of ds g)
guard_within ds g = guard_at ds (slice_get ds g)

holds_at : (ds : List Decl) (d : Option Decl) → SetWithin (length ds) (of_declared (holds_of_form ds) [] d)
holds_at ds None = tt
holds_at ds (Some d) = holds_form ds d.form

pub holds_within : (ds : List Decl) (g : ℕ) → SetWithin (length ds) (holds_of ds g)
holds_within ds g = holds_at ds (slice_get ds g)

-- parts of a walk

wanting_within : (end : ℕ) (code : OwnCode) (p : Place) (s : Locks) (l : Option ℕ) (next : Flow) → OptionWithin end l →
    FlowWithin end next → FlowWithin end (wanting code p s l next)
wanting_within end code p s None next h k = k
wanting_within end code p s (Some l) next h k = choose (FlowWithin end) (has s l) next (fault code p l) k h

guarded_within : (ds : List Decl) (s : Locks) (us : List Use) (next : Flow) → FlowWithin (length ds) next →
    FlowWithin (length ds) (guarded ds s us next)
guarded_within ds s [] next k = k
guarded_within ds s (u ∷ us) next k =
    wanting_within (length ds) O1 u.at s (guard_of ds u.item) (guarded ds s us next) (guard_within ds u.item)
    (guarded_within ds s us next k)

held_within : (end : ℕ) (p : Place) (s : Locks) (ls : List ℕ) (next : Flow) → SetWithin end ls → FlowWithin end next →
    FlowWithin end (held p s ls next)
held_within end p s [] next h k = k
held_within end p s (l ∷ ls) next h k = wanting_within end O2 p s (Some l) (held p s ls next) h.0
    (held_within end p s ls next h.1 k)

differing_within : (end : ℕ) (code : OwnCode) (p : Place) (l : Option ℕ) (next : Flow) → OptionWithin end l →
    FlowWithin end next → FlowWithin end (differing code p l next)
differing_within end code p None next h k = k
differing_within end code p (Some l) next h k = h

same_within : (end : ℕ) (code : OwnCode) (p : Place) (s t : Locks) (next : Flow) → SetWithin end s → SetWithin end t →
    FlowWithin end next → FlowWithin end (same code p s t next)
same_within end code p s t next h k n = differing_within end code p (differs s t) next (differs_within end s t h k) n

back_within : (end : ℕ) (h : Head) (o : Option Locks) (next : Flow) → SetWithin end h.set → OnwardWithin end o →
    FlowWithin end next → FlowWithin end (back h o next)
back_within end h None next hs k n = n
back_within end h (Some s) next hs k n = same_within end O4 h.place h.set s next hs k n

joined_within : (end : ℕ) (p : Place) (o r : Option Locks) → OnwardWithin end o → OnwardWithin end r →
    FlowWithin end (joined p o r)
joined_within end p None r h k = k
joined_within end p (Some s) None h k = h
joined_within end p (Some s) (Some t) h k = same_within end O3 p s t (on (Some s)) h k h

leaves_within : (end : ℕ) (h : Option Head) (p : Place) (s : Locks) → 0 < end → HeadWithin end h → SetWithin end s →
    FlowWithin end (leaves h p s)
leaves_within end None p s some h k = some
leaves_within end (Some h) p s some hs k = back_within end h (Some s) (on None) hs k tt

after_within : (end : ℕ) (f : Flow) (next : Option Locks → Flow) → FlowWithin end f →
    ((o : Option Locks) → OnwardWithin end o → FlowWithin end (next o)) → FlowWithin end (after f next)
after_within end (on o) next h k = k o h
after_within end (fault code p l) next h k = h

with_within : (end : ℕ) (o : Option Locks) (next : Locks → Flow) → OnwardWithin end o →
    ((s : Locks) → SetWithin end s → FlowWithin end (next s)) → FlowWithin end (with_set o next)
with_within end None next h k = tt
with_within end (Some s) next h k = k s h

declared_within : (ds : List Decl) (g : ℕ) (form : Form) → IsDeclared ds g form → g < length ds
declared_within ds g form h = slice_get_within ds g h.0 h.1

-- of a well sorted body
module _ (ds : List Decl) (own : Locks) (some : 0 < length ds) (own_within : SetWithin (length ds) own) (vs : List Ty)
    (ret : Ty) where
  mutual
    flow_within : (h : Option Head) (a : TypedStmtTree) (s : Locks) (l : Bool) → HeadWithin (length ds) h →
        IsSorted vs ds ret l a → SetWithin (length ds) s
        → FlowWithin (length ds) (flow ds own h a s)
    flow_within h (skip p) s l hs is k = k
    flow_within h (assign p target a) s l hs is k = guarded_within ds s (target_uses target ++ uses a) (on (Some s)) k
    flow_within h (call p kept g at args) s l hs is k =
        guarded_within ds s (argument_uses args) (held at s (holds_of ds g) (on (Some s)))
        (held_within (length ds) at s (holds_of ds g) (on (Some s)) (holds_within ds g) k)
    flow_within h (block p bs) s l hs is k = all_within h bs (Some s) l hs is k
    flow_within h (if_ p c a o) s l hs is k =
        guarded_within ds s (uses c)
        (after (flow ds own h a s) (λ t. after (flow_part ds own h o s) (λ u. joined p t u)))
        (after_within (length ds) (flow ds own h a s) (λ t. after (flow_part ds own h o s) (λ u. joined p t u))
        (flow_within h a s l hs is.1 k)
        (λ t th. after_within (length ds) (flow_part ds own h o s) (λ u. joined p t u) (part_within h o s l hs is.2 k)
        (λ u uh. joined_within (length ds) p t u th uh)))
    flow_within h (while_ p c a) s l hs is k =
        let here : Head = record { place = p; set = s } in
        guarded_within ds s (uses c) (after (flow ds own (Some here) a s) (λ t. back here t (on (Some s))))
        (after_within (length ds) (flow ds own (Some here) a s) (λ t. back here t (on (Some s)))
        (flow_within (Some here) a s true k is.1 k) (λ t th. back_within (length ds) here t (on (Some s)) k th k))
    flow_within h (do_ p a c) s l hs is k =
        let here : Head = record { place = p; set = s } in
        after_within (length ds) (flow ds own (Some here) a s) (λ t. back here t (guarded ds s (uses c) (on (Some s))))
        (flow_within (Some here) a s true k is.0 k)
        (λ t th. back_within (length ds) here t (guarded ds s (uses c) (on (Some s))) k th
        (guarded_within ds s (uses c) (on (Some s)) k))
    flow_within h (for_ p i c u a) s l hs is k =
        after_within (length ds) (flow_part ds own None i s)
        (λ o. with_set o (λ r. turns ds own p c u a r (on (Some r)))) (part_within None i s l tt is.0 k)
        (λ o oh. with_within (length ds) o (λ r. turns ds own p c u a r (on (Some r))) oh (λ r rh.
        let here : Head = record { place = p; set = r } in
        let last = after (flow_part ds own None u r) (λ v. back here v (on (Some r))) in
        guarded_within ds r (option_uses c) (after (flow ds own (Some here) a r) (λ t. back here t last))
        (after_within (length ds) (flow ds own (Some here) a r) (λ t. back here t last)
        (flow_within (Some here) a r true rh is.3 rh)
        (λ t th. back_within (length ds) here t last rh th
        (after_within (length ds) (flow_part ds own None u r) (λ v. back here v (on (Some r)))
        (part_within None u r l tt is.2 rh)
        (λ v vh. back_within (length ds) here v (on (Some r)) rh vh rh))))))
    flow_within h (break_ p) s l hs is k = leaves_within (length ds) h p s some hs k
    flow_within h (continue_ p) s l hs is k = leaves_within (length ds) h p s some hs k
    flow_within h (return_ p a) s l hs is k = guarded_within ds s (option_uses a) (same O5 p own s (on None))
        (same_within (length ds) O5 p own s (on None) own_within k tt)
    flow_within h (lock p g) s l hs is k =
        let less = declared_within ds g Lock is in
        choose (FlowWithin (length ds)) (has s g) (fault O6 p g) (on (Some (having s g))) less
        (having_within (length ds) s g k less)
    flow_within h (unlock p g) s l hs is k =
        choose (FlowWithin (length ds)) (has s g) (on (Some (without s g))) (fault O7 p g)
        (without_within (length ds) s g k) (declared_within ds g Lock is)
    flow_within h (print p a) s l hs is k = guarded_within ds s (uses a) (on (Some s)) k

    part_within : (h : Option Head) (o : TypedStmtOption) (s : Locks) (l : Bool) → HeadWithin (length ds) h →
        IsSortedPart vs ds ret l o → SetWithin (length ds) s
        → FlowWithin (length ds) (flow_part ds own h o s)
    part_within h absent s l hs is k = k
    part_within h (present a) s l hs is k = flow_within h a s l hs is k

    all_within : (h : Option Head) (bs : TypedStmtList) (o : Option Locks) (l : Bool) → HeadWithin (length ds) h →
        AreSorted vs ds ret l bs → OnwardWithin (length ds) o
        → FlowWithin (length ds) (flow_all ds own h bs o)
    all_within h no_more o l hs is k = k
    all_within h (one_more a bs) None l hs is k = tt
    all_within h (one_more a bs) (Some s) l hs is k =
        after_within (length ds) (flow ds own h a s) (λ o. flow_all ds own h bs o) (flow_within h a s l hs is.0 k)
        (λ o oh. all_within h bs o l hs is.1 oh)

  -- the lock of a body's fault is an item
  pub body_within : (closing : Place) (body : TypedStmtList) → AreSorted vs ds ret false body →
      FlowWithin (length ds) (body_flow ds own closing body)
  body_within closing body is =
      after_within (length ds) (flow_all ds own None body (Some own))
      (λ o. with_set o (λ s. same O5 closing own s (on None)))
      (all_within None body (Some own) false tt is own_within)
      (λ o oh. with_within (length ds) o (λ s. same O5 closing own s (on None)) oh
      (λ s sh. same_within (length ds) O5 closing own s (on None) own_within sh tt))
