-- Statements of a well-sorted body are well sorted, and what is to do stays within the body.
use Rattle.std.proofs.Common.{◌≡◌, inl, inr, Bool, true, false, List, [], ◌∷◌, Option, Some, refl, sym, subst}
use Rattle.cas_base.specs.declared.decl.Decl.{Decl}
use Rattle.cas_base.specs.declared.kind.Ty.{Ty}
use Rattle.cas_base.specs.declared.place.Place.{Place}
use Rattle.cas_typed.specs.Resolved.{TypedExprTree, TypedStmtTree, for_, TypedStmtOption, absent, present, TypedStmtList, no_more, one_more}
use Rattle.cas_typed.specs.Sorts.{IsSorted, AreSorted, IsTest}
use Rattle.cas_step.specs.Continuation.{ContItem, begin, begun, loop, next, begin_all, begin_part, after_break, after_continue}
use Rattle.cas_typed.specs.Literals.{StatementHasWords, BodyHasWords, OptionHasWords}
use Rattle.cas_step.specs.Stands.{IsAmong, StandsIn, of_body, of_block, where_true, where_false, of_while, of_do, first_of_for, after_of_for, of_for, AreThere, MayLeave, IsLoopOf, IsTurnOf, MayDo}
use Rattle.cas_step.proofs.Values.{ThereIs}

module _ (vs : List Ty) (ds : List Decl) (ret : Ty) where
  -- a statement that is well sorted, in a loop or not, and whose literals are words
  abbrev pub IsGood : Bool → TypedStmtTree → Type 0
  IsGood l a = IsSorted vs ds ret l a × StatementHasWords a

  among_good : (l : Bool) (bs : TypedStmtList) (a : TypedStmtTree) → IsAmong bs a → AreSorted vs ds ret l bs →
      BodyHasWords bs → IsGood l a
  among_good l no_more a h s w = absurd h
  among_good l (one_more b bs) a (inl is) s w = subst (IsGood l) is (s.0, w.0)
  among_good l (one_more b bs) a (inr h) s w = among_good l bs a h s.1 w.1

  module _ (body : TypedStmtList) (sorted : AreSorted vs ds ret false body) (words : BodyHasWords body) where
    pub stands_good : {l : Bool} {a : TypedStmtTree} → StandsIn body l a → IsGood l a
    stands_good (of_body a h) = among_good false body a h sorted words
    stands_good (of_block l p bs a s h) = let g = stands_good s in among_good l bs a h g.0 g.1
    stands_good (where_true l p c a o s) = let g = stands_good s in (g.0.1, g.1.1)
    stands_good (where_false l p c a b s) = let g = stands_good s in (g.0.2, g.1.2)
    stands_good (of_while l p c a s) = let g = stands_good s in (g.0.1, g.1.1)
    stands_good (of_do l p a c s) = let g = stands_good s in (g.0.0, g.1.0)
    stands_good (first_of_for l p i c u a s) = let g = stands_good s in (g.0.0, g.1.0)
    stands_good (after_of_for l p i c u a s) = let g = stands_good s in (g.0.2, g.1.2)
    stands_good (of_for l p i c u a s) = let g = stands_good s in (g.0.3, g.1.3)

    -- a condition that is well sorted, and whose literals are words
    abbrev pub IsGoodTest : Option TypedExprTree → Type 0
    IsGoodTest c = IsTest vs ds c × OptionHasWords c

    pub loop_test : (l : Bool) (p : Place) (c : TypedExprTree) (a : TypedStmtTree) → IsLoopOf body l p c a →
        IsGoodTest (Some c)
    loop_test l p c a (inl s) = let g = stands_good s in (g.0.0, g.1.0)
    loop_test l p c a (inr s) = let g = stands_good s in (g.0.1, g.1.1)

    pub for_test : (l : Bool) (p : Place) (i : TypedStmtOption) (c : Option TypedExprTree) (u : TypedStmtOption)
        (a : TypedStmtTree) → StandsIn body l (for_ p i c u a) → IsGoodTest c
    for_test l p i c u a s = let g = stands_good s in (g.0.1, g.1.1)

module _ (body : TypedStmtList) where
  leave_all : (l : Bool) (bs : TypedStmtList) (cont : List ContItem) → MayLeave l cont → MayLeave l (begin_all bs cont)
  leave_all false bs cont h = tt
  leave_all true no_more cont h = h
  leave_all true (one_more b bs) cont h = leave_all true bs cont h

  pub all_may : (l : Bool) (bs : TypedStmtList) (cont : List ContItem) →
      ((a : TypedStmtTree) → IsAmong bs a → StandsIn body l a) → MayLeave l cont → MayDo body cont →
      MayDo body (begin_all bs cont)
  all_may l no_more cont stands leave h = h
  all_may l (one_more a bs) cont stands leave h =
      ((l, stands a (inl refl), leave_all l bs cont leave), all_may l bs cont (λ b among. stands b (inr among)) leave h)

  pub part_may : (l : Bool) (o : TypedStmtOption) (cont : List ContItem) →
      ((a : TypedStmtTree) → o ≡ present a → StandsIn body l a) → MayLeave l cont → MayDo body cont →
      MayDo body (begin_part o cont)
  part_may l absent cont stands leave h = h
  part_may l (present a) cont stands leave h = ((l, stands a refl, leave), h)

  -- a turn of a loop that has begun
  pub begun_may : (l : Bool) (p : Place) (c : TypedExprTree) (a : TypedStmtTree) (cont : List ContItem) →
      IsLoopOf body l p c a → MayDo body cont → MayDo body (begin a ∷ begun p c a ∷ cont)
  begun_may l p c a cont (inl s) h = ((true, of_while l p c a s, (tt, tt)), ((l, inl s), h))
  begun_may l p c a cont (inr s) h = ((true, of_do l p a c s, (tt, tt)), ((l, inr s), h))

  pub leave_loop : (l : Bool) (p : Place) (c : Option TypedExprTree) (u : TypedStmtOption) (a : TypedStmtTree)
      (cont : List ContItem) → MayLeave l cont → MayLeave l (loop p c u a ∷ cont)
  leave_loop false p c u a cont h = tt
  leave_loop true p c u a cont h = (tt, h.1)

  -- a turn of a for
  pub turn_may : (p : Place) (c : Option TypedExprTree) (u : TypedStmtOption) (a : TypedStmtTree) (cont : List ContItem)
      → MayDo body (loop p c u a ∷ cont) → MayDo body (begin a ∷ next p u ∷ loop p c u a ∷ cont)
  turn_may p c u a cont h = ((true, of_for h.0.0 p h.0.1 c u a h.0.2, (tt, tt)), ((refl, refl), h))

  pub for_may : (l : Bool) (p : Place) (i : TypedStmtOption) (c : Option TypedExprTree) (u : TypedStmtOption)
      (a : TypedStmtTree) (cont : List ContItem) → StandsIn body l (for_ p i c u a) → MayLeave l cont →
      MayDo body cont →
      MayDo body (begin_part i (loop p c u a ∷ cont))
  for_may l p i c u a cont s leave h = part_may l i (loop p c u a ∷ cont)
      (λ b is. first_of_for l p b c u a (subst (λ o. StandsIn body l (for_ p o c u a)) is s))
      (leave_loop l p c u a cont leave) ((l, i, s, leave), h)

  -- what a for does after a turn stands in the body
  pub after_stands : (p : Place) (b : TypedStmtTree) (cont : List ContItem) → IsTurnOf p (present b) cont →
      MayDo body cont → (l : Bool) × StandsIn body l b × MayLeave l cont
  after_stands p b [] turn h = absurd turn
  after_stands p b (begin a ∷ cont) turn h = absurd turn
  after_stands p b (begun q c a ∷ cont) turn h = absurd turn
  after_stands p b (next q u ∷ cont) turn h = absurd turn
  after_stands p b (loop q c u a ∷ cont) turn h = (
    h.0.0,
    after_of_for h.0.0 q h.0.1 c b a (subst (λ o. StandsIn body h.0.0 (for_ q h.0.1 c o a))
        (sym turn.1) h.0.2),
    leave_loop h.0.0 q c u a cont h.0.3,
  )

  pub broken_may : (cont : List ContItem) → MayDo body cont → AreThere (after_break cont) →
      ThereIs (MayDo body) (after_break cont)
  broken_may [] h there = absurd there
  broken_may (begin a ∷ cont) h there = broken_may cont h.1 there
  broken_may (begun p c a ∷ cont) h there = h.1
  broken_may (loop p c u a ∷ cont) h there = h.1
  broken_may (next p u ∷ cont) h there = broken_may cont h.1 there

  pub continued_may : (cont : List ContItem) → MayDo body cont → AreThere (after_continue cont) →
      ThereIs (MayDo body) (after_continue cont)
  continued_may [] h there = absurd there
  continued_may (begin a ∷ cont) h there = continued_may cont h.1 there
  continued_may (begun p c a ∷ cont) h there = h
  continued_may (loop p c u a ∷ cont) h there = continued_may cont h.1 there
  continued_may (next p u ∷ cont) h there = h
