-- Where blocks are moved, what both threads hold stays alike.
use Rattle.std.proofs.Common.{◌≡◌, ℕ, zero, suc, ◌+◌, ◌-◌, ◌<◌, ◌≤◌, List, [], ◌∷◌, ◌++◌, ◌⊎◌, Option, Some, None, Bool, true, false, ◌&&◌, if◌then◌else◌, length, slice_get, nat_eq, nat_lt, nat_le, inl, inr, refl, sym, ap, ◌∙◌, subst, ⊎_elim, arith, eqb-true, leb-true, ltb-true, ltb-false, leb-false}
use Rattle.std.proofs.lemmas.Option.{slice_get_within}
use Rattle.cas_runs.specs.Label.{NameBytes, Shown, Word, Place, Inside, Outside}
use Rattle.cas_runs.specs.Naming.{Home, Own, Theirs, Value, Number, Pointer, Hidden, Part, Layout, Named, Naming, Memory, parts_at, same_home, same_part, is_it, one_later, number_of, is_place, part_by, again, if_new, first_time, named_by, and_then, all_named_by, cells, content, contents, contents_in, object_of, objects_of, refilled, overwritten, written, with_block, filled, new_block}
use Rattle.cas_runs.specs.Calls.{Activations, so_many, set_blocks, fresh, gone}
use Rattle.cas_runs.specs.Placing.{Spot, Placing, pointer_in, moved, SameMoved, AllMoved, CellsMoved, BlockMoved, ObjectMoved, MemoryMoved, moved_part, NamedMoved, NamingMoved, IsPlacing}
use Rattle.cas_runs.proofs.Tests.{and_both, both_true, eq_self, same_home_self, same_home_from}
use Rattle.cas_runs.proofs.Cells.{get_inside, so_many_length, so_many_get, cell_after, written_length, written_in, written_out, same_contents_of}

-- The memory with another block.

pub with_here : (m : Memory) (home : Home) (x : Option (List Value)) → with_block m home x home ≡ x
with_here m home x = ap (λ (t : Bool). if t then x else m home) (same_home_self home)

pub with_elsewhere : (m : Memory) (home other : Home) (x : Option (List Value)) → (other ≡ home → ⊥) →
    with_block m home x other ≡ m other
with_elsewhere m home other x h = by (same_home other home) refl
  where
    by : (t : Bool) → same_home other home ≡ t → (if t then x else m other) ≡ m other
    by true e = absurd (h (same_home_from other home e))
    by false e = refl

pub same_or_not : (h k : Home) → (h ≡ k) ⊎ (h ≡ k → ⊥)
same_or_not h k = by (same_home h k) refl
  where
    by : (t : Bool) → same_home h k ≡ t → (h ≡ k) ⊎ (h ≡ k → ⊥)
    by true e = inl (same_home_from h k e)
    by false e =
        inr (λ same. let yes : same_home h k ≡ true = subst (λ v. same_home h v ≡ true) same (same_home_self h) in
        cc (yes, e))

own_same : (f : NameBytes) (a b c : ℕ) → b ≡ c → Own f a b ≡ Own f a c
own_same f a b c e = ap (λ n. Own f a n) e

-- Values that are moved.

pub moved_pointer : (place : Placing) (f : NameBytes) (a b at : ℕ) (s : Spot) → place f b ≡ Some s →
    moved place (Pointer (Own f a b) at) ≡ Some (Pointer (Own f a s.block) (s.offset + at))
moved_pointer place f a b at s e = ap (λ o. pointer_in f a o at) e

-- the contents are the same
pub moved_content : (place : Placing) (v w : Value) → SameMoved place v w → content v ≡ content w
moved_content place v (Number w) e = let same : Number w ≡ v = cc e in ap content (sym same)
moved_content place v (Hidden what) e = let same : Hidden what ≡ v = cc e in ap content (sym same)
moved_content place v (Pointer (Theirs k) at) e = let same : Pointer (Theirs k) at ≡ v = cc e in ap content (sym same)
moved_content place v (Pointer (Own f a b) at) e = by (place f b) e
  where
    by : (o : Option Spot) → pointer_in f a o at ≡ Some v → content v ≡ None
    by None g = absurd (cc g)
    by (Some s) g = let same : Pointer (Own f a s.block) (s.offset + at) ≡ v = cc g in ap content (sym same)

pub all_moved_get : (place : Placing) (vs ws : List Value) → AllMoved place vs ws → (i : ℕ) (w : Value) →
    slice_get ws i ≡ Some w → (v : Value) × (slice_get vs i ≡ Some v) × SameMoved place v w
all_moved_get place [] [] h i w e = absurd (cc e)
all_moved_get place [] (x ∷ ws) h i w e = absurd h
all_moved_get place (v ∷ vs) [] h i w e = absurd h
all_moved_get place (v ∷ vs) (x ∷ ws) h zero w e = let same : x ≡ w =
    cc e in (v, refl, subst (λ u. SameMoved place v u) same h.0)
all_moved_get place (v ∷ vs) (x ∷ ws) h (suc i) w e = all_moved_get place vs ws h.1 i w e

pub all_moved_length : (place : Placing) (vs ws : List Value) → AllMoved place vs ws → length vs ≡ length ws
all_moved_length place [] [] h = refl
all_moved_length place [] (x ∷ ws) h = absurd h
all_moved_length place (v ∷ vs) [] h = absurd h
all_moved_length place (v ∷ vs) (x ∷ ws) h = ap suc (all_moved_length place vs ws h.1)

all_moved_contents : (place : Placing) (vs ws : List Value) → AllMoved place vs ws → (i n : ℕ) →
    contents (cells vs i n) ≡ contents (cells ws i n)
all_moved_contents place [] [] h i n = refl
all_moved_contents place [] (x ∷ ws) h i n = absurd h
all_moved_contents place (v ∷ vs) [] h i n = absurd h
all_moved_contents place (v ∷ vs) (x ∷ ws) h i zero = refl
all_moved_contents place (v ∷ vs) (x ∷ ws) h zero (suc n) =
    ap (λ c. c ∷ contents (cells vs zero n)) (moved_content place v x h.0)
    ∙ ap (λ cs. content x ∷ cs) (all_moved_contents place vs ws h.1 zero n)
all_moved_contents place (v ∷ vs) (x ∷ ws) h (suc i) (suc n) = all_moved_contents place vs ws h.1 i (suc n)

-- what is written is the same in both
moved_refilled : (place : Placing) (o : Option ℕ) (v w : Value) → SameMoved place v w →
    SameMoved place (refilled o v) (refilled o w)
moved_refilled place None v w e = e
moved_refilled place (Some n) v w e = refl

moved_after : (place : Placing) (o : Option (Option ℕ)) (v w : Value) → SameMoved place v w →
    SameMoved place (cell_after o v) (cell_after o w)
moved_after place None v w e = e
moved_after place (Some o) v w e = moved_refilled place o v w e

moved_overwritten : (place : Placing) (vs ws : List Value) (n : ℕ) (us : List (Option ℕ)) → AllMoved place vs ws →
    AllMoved place (overwritten vs n us) (overwritten ws n us)
moved_overwritten place [] [] n us h = tt
moved_overwritten place [] (w ∷ ws) n us h = absurd h
moved_overwritten place (v ∷ vs) [] n us h = absurd h
moved_overwritten place (v ∷ vs) (w ∷ ws) zero us h = h
moved_overwritten place (v ∷ vs) (w ∷ ws) (suc n) [] h = h
moved_overwritten place (v ∷ vs) (w ∷ ws) (suc n) (u ∷ us) h =
    (moved_refilled place u v w h.0, moved_overwritten place vs ws n us h.1)

pub moved_written : (place : Placing) (vs ws : List Value) (from n : ℕ) (us : List (Option ℕ)) → AllMoved place vs ws →
    AllMoved place (written vs from n us) (written ws from n us)
moved_written place vs ws zero n us h = moved_overwritten place vs ws n us h
moved_written place [] [] (suc from) n us h = tt
moved_written place [] (w ∷ ws) (suc from) n us h = absurd h
moved_written place (v ∷ vs) [] (suc from) n us h = absurd h
moved_written place (v ∷ vs) (w ∷ ws) (suc from) n us h = (h.0, moved_written place vs ws from n us h.1)

moved_filled : (place : Placing) (n : ℕ) (us : List (Option ℕ)) → AllMoved place (filled n us) (filled n us)
moved_filled place zero us = tt
moved_filled place (suc n) [] = (refl, moved_filled place n [])
moved_filled place (suc n) (None ∷ us) = (refl, moved_filled place n us)
moved_filled place (suc n) (Some w ∷ us) = (refl, moved_filled place n us)

pub moved_new : (place : Placing) (n : ℕ) (o : Option (List (Option ℕ))) →
    ObjectMoved place (new_block n o) (new_block n o)
moved_new place n None = tt
moved_new place n (Some us) = moved_filled place n us

-- the part of a block
pub cells_after : (place : Placing) (offset : ℕ) (vs ws : List Value) (from n : ℕ) (us : List (Option ℕ)) →
    CellsMoved place offset vs ws → CellsMoved place offset (written vs (offset + from) n us) (written ws from n us)
cells_after place offset vs ws from n us h i w e =
    let less : i < length ws = subst (λ k. i < k) (written_length ws from n us)
    (slice_get_within (written ws from n us) i w e) in
    let old = get_inside ws i less in
    let there = h i old.0 old.1 in
    ⊎_elim
    (λ (out : (i < from) ⊎ (from + n ≤ i)).
    let same : old.0 ≡ w = let f = written_out ws from n us i out in let g = old.1 in cc (f, g, e) in
    let apart : (offset + i < offset + from) ⊎ ((offset + from) + n ≤ offset + i) =
    ⊎_elim (λ u. inl (omega (arith, u))) (λ u. inr (omega (arith, u))) out in (
      there.0,
      written_out vs (offset + from) n us (offset + i) apart
          ∙ there.1,
      subst (λ u. SameMoved place there.0 u) same there.2,
    ))
    (λ (k : (j : ℕ) × (i ≡ from + j) × (j < n)).
    let place_in = k.1 in
    let after = written_in ws from n us i k.0 old.0 k.1 k.2 old.1 in
    let same : cell_after (slice_get us k.0) old.0 ≡ w = cc (after, e) in (
      cell_after (slice_get us k.0) there.0,
      written_in vs (offset + from) n us (offset + i) k.0 there.0
          (omega (arith, place_in)) k.2 there.1,
      subst (λ u. SameMoved place (cell_after (slice_get us k.0) there.0) u)
          same (moved_after place (slice_get us k.0) there.0 old.0 there.2),
    ))
    (where_in from n i)
  where
    where_in : (from n i : ℕ) → ((i < from) ⊎ (from + n ≤ i)) ⊎ ((j : ℕ) × (i ≡ from + j) × (j < n))
    where_in from n i = by (nat_lt i from) refl (nat_le (from + n) i) refl
      where
        by : (t : Bool) → nat_lt i from ≡ t → (u : Bool) → nat_le (from + n) i ≡ u → ((i < from) ⊎ (from + n ≤ i))
            ⊎ ((j : ℕ) × (i ≡ from + j) × (j < n))
        by true e u f = let less = ltb-true i from e in inl (inl less)
        by false e true f = inl (inr (leb-true (from + n) i f))
        by false e false f =
            let more : from ≤ i = ltb-false i from e in
            let less : i < from + n = leb-false (from + n) i f in
            inr (i - from, omega (arith, more), omega (arith, more, less))

-- The blocks of an activation.

pub set_elsewhere : (words : ℕ → Option (List Value)) (m : Memory) (name : NameBytes) (serial k : ℕ) (sizes : List ℕ)
    (home : Home) → ((j : ℕ) → j < length sizes → home ≡ Own name serial (k + j) → ⊥) →
    set_blocks words m name serial k sizes home ≡ m home
set_elsewhere words m name serial k [] home h = refl
set_elsewhere words m name serial k (size ∷ sizes) home h =
    set_elsewhere words (with_block m (Own name serial k) (words size)) name serial (k + 1) sizes home (λ j less e.
    let next : (k + 1) + j ≡ k + suc j = omega arith in
    h (suc j) (omega (arith, less)) (e ∙ own_same name serial _ _ next))
    ∙ with_elsewhere m (Own name serial k) home (words size)
    (λ e. let none : k ≡ k + 0 = omega arith in h 0 (omega arith) (e ∙ own_same name serial _ _ none))

pub set_there : (words : ℕ → Option (List Value)) (m : Memory) (name : NameBytes) (serial k : ℕ) (sizes : List ℕ)
    (j i size : ℕ) → slice_get sizes j ≡ Some size → i ≡ k + j →
    set_blocks words m name serial k sizes (Own name serial i) ≡ words size
set_there words m name serial k [] j i size e f = absurd (cc e)
set_there words m name serial k (x ∷ sizes) zero i size e f =
    let here : i ≡ k = omega (arith, f) in
    let same : x ≡ size = cc e in
    set_elsewhere words (with_block m (Own name serial k) (words x)) name serial (k + 1) sizes (Own name serial i)
    (λ j less g. let h : i ≡ (k + 1) + j = cc g in absurd (omega (arith, f, h)))
    ∙ ap (λ n. with_block m (Own name serial k) (words x) (Own name serial n)) here
    ∙ with_here m (Own name serial k) (words x) ∙ ap words same
set_there words m name serial k (x ∷ sizes) (suc j) i size e f =
    set_there words (with_block m (Own name serial k) (words x)) name serial (k + 1) sizes j i size e (omega (arith, f))

so_many_moved : (place : Placing) (word : Value) → SameMoved place word word → (offset size total : ℕ) →
    offset + size ≤ total → CellsMoved place offset (so_many word total) (so_many word size)
so_many_moved place word moves offset size total le i w e =
    let less : i < size = subst (λ n. i < n) (so_many_length word size) (slice_get_within (so_many word size) i w e) in
    let there = so_many_get word size i less in
    let same : word ≡ w = cc (there, e) in (
      word,
      so_many_get word total (offset + i) (omega (arith, le, less)),
      subst (λ u. SameMoved place word u)
          same moves,
    )

-- both blocks are these
pub block_is : (place : Placing) (offset : ℕ) (o o' x x' : Option (List Value)) → o ≡ x → o' ≡ x' →
    BlockMoved place offset x x' → BlockMoved place offset o o'
block_is place offset o o' x x' e f h = subst (λ v. BlockMoved place offset v o') (sym e)
    (subst (λ v. BlockMoved place offset x v) (sym f) h)

module _ {F A G B : Type 0} (target : Activations F A) (source : Activations G B) (made : F → G → Type 0)
    (place : Placing) (sizes : NameBytes → ℕ → ℕ) (placed layout : Layout)
    (is : IsPlacing target source made (record { place = place; sizes = sizes }) placed layout) where
  abbrev pub Mem : Memory → Memory → Type 0
  Mem t s = MemoryMoved place sizes t s

  pub theirs_block : (t s : Memory) (k : ℕ) (x y : Option (List Value)) → Mem t s → ObjectMoved place x y →
      Mem (with_block t (Theirs k) x) (with_block s (Theirs k) y)
  theirs_block t s k x y h e = record { own = h.own; theirs = λ j. either j (nat_eq j k); have_sizes = h.have_sizes }
    where
      either : (j : ℕ) (b : Bool) → ObjectMoved place (if b then x else t (Theirs j)) (if b then y else s (Theirs j))
      either j true = e
      either j false = h.theirs j

  pub record Update (t s : Memory) (f : NameBytes) (a b : ℕ) (to : Spot) (vs ws vs' ws' : List Value) : Type 0 where
    pub placed_there : place f b ≡ Some to
    pub target_old : t (Own f a to.block) ≡ Some vs
    pub source_old : s (Own f a b) ≡ Some ws
    pub same_length : length ws' ≡ length ws
    pub cells_there : CellsMoved place to.offset vs' ws'
    pub others : (j : ℕ) → (j < to.offset) ⊎ (to.offset + length ws ≤ j) → slice_get vs' j ≡ slice_get vs j

  -- a block that lies elsewhere in the same block of the target
  block_apart : (t s : Memory) (f : NameBytes) (a b : ℕ) (to : Spot) (vs ws vs' ws' : List Value) → Mem t s →
      Update t s f a b to vs ws vs' ws' → (d : ℕ) (to2 : Spot) → (b ≡ d → ⊥) → place f d ≡ Some to2 →
      to2.block ≡ to.block → (o : Option (List Value)) → s (Own f a d) ≡ o →
      BlockMoved place to2.offset (t (Own f a to2.block)) o → BlockMoved place to2.offset (Some vs') o
  block_apart t s f a b to vs ws vs' ws' h u d to2 differ e same None g m =
      let old = u.target_old in
      let there : t (Own f a to2.block) ≡ Some vs = subst (λ n. t (Own f a n) ≡ Some vs) (sym same) old in
      absurd (cc (m, there))
  block_apart t s f a b to vs ws vs' ws' h u d to2 differ e same (Some ws2) g m =
      let old = u.target_old in
      let there : t (Own f a to2.block) ≡ Some vs = subst (λ n. t (Own f a n) ≡ Some vs) (sym same) old in
      let before : CellsMoved place to2.offset vs ws2 = subst (λ v. BlockMoved place to2.offset v (Some ws2)) there m in
      let first_size = h.have_sizes f a b ws u.source_old in
      let second_size = h.have_sizes f a d ws2 g in
      λ i w at.
      let less = slice_get_within ws2 i w at in
      let was = before i w at in
      let out : (to2.offset + i < to.offset) ⊎ (to.offset + length ws ≤ to2.offset + i) =
      ⊎_elim (λ eq. absurd (differ eq)) (λ ranges. ⊎_elim (λ le. inr (omega (arith, le, first_size)))
      (λ le. inl (omega (arith, le, less, second_size))) ranges) (is.apart f b d to to2 u.placed_there e (sym same))
      in
      (was.0, u.others (to2.offset + i) out ∙ was.1, was.2)

  pub own_block : (t s : Memory) (f : NameBytes) (a b : ℕ) (to : Spot) (vs ws vs' ws' : List Value) → Mem t s →
      Update t s f a b to vs ws vs' ws' → Mem (with_block t (Own f a to.block) (Some vs'))
      (with_block s (Own f a b) (Some ws'))
  own_block t s f a b to vs ws vs' ws' h u = record { own = own_of; theirs = h.theirs; have_sizes = sizes_of }
    where
      sizes_of : (g : NameBytes) (c d : ℕ) (us : List Value) →
          with_block s (Own f a b) (Some ws') (Own g c d) ≡ Some us → length us ≡ sizes g d
      sizes_of g c d us e = ⊎_elim
          (λ (same : Own g c d ≡ Own f a b).
          let at_home : with_block s (Own f a b) (Some ws') (Own g c d) ≡ Some ws' =
          ap (λ v. with_block s (Own f a b) (Some ws') v) same ∙ with_here s (Own f a b) (Some ws') in
          let words : ws' ≡ us = cc (at_home, e) in
          let old = h.have_sizes f a b ws u.source_old in
          let names : f ≡ g = cc same in
          let blocks : b ≡ d = cc same in
          ap length (sym words) ∙ u.same_length ∙ old ∙ ap (λ n. sizes n b) names ∙ ap (λ n. sizes g n) blocks)
          (λ differ. h.have_sizes g c d us (sym (with_elsewhere s (Own f a b) (Own g c d) (Some ws') differ) ∙ e))
          (same_or_not (Own g c d) (Own f a b))

      own_of : (g : NameBytes) (c d : ℕ) (to2 : Spot) → place g d ≡ Some to2 →
          BlockMoved place to2.offset (with_block t (Own f a to.block) (Some vs') (Own g c to2.block))
          (with_block s (Own f a b) (Some ws') (Own g c d))
      own_of g c d to2 e = ⊎_elim
          (λ (same : Own g c d ≡ Own f a b).
          let names : g ≡ f = cc same in
          let serials : c ≡ a = cc same in
          let blocks : d ≡ b = cc same in
          let there = u.placed_there in
          let e' : place f b ≡ Some to2 = subst (λ n. place f n ≡ Some to2) blocks
          (subst (λ n. place n d ≡ Some to2) names e) in
          let spots : to ≡ to2 = cc (there, e') in
          let homes : Own g c to2.block ≡ Own f a to.block = cc (names, serials, spots) in
          block_is place to2.offset _ _ (Some vs') (Some ws')
          (ap (λ v. with_block t (Own f a to.block) (Some vs') v) homes ∙ with_here t (Own f a to.block) (Some vs'))
          (ap (λ v. with_block s (Own f a b) (Some ws') v) same ∙ with_here s (Own f a b) (Some ws'))
          (subst (λ (v : Spot). CellsMoved place v.offset vs' ws') spots u.cells_there))
          (λ differ. ⊎_elim
          (λ (same : Own g c to2.block ≡ Own f a to.block).
          let names : g ≡ f = cc same in
          let serials : c ≡ a = cc same in
          let blocks : to2.block ≡ to.block = cc same in
          let e' : place f d ≡ Some to2 = subst (λ n. place n d ≡ Some to2) names e in
          let old : BlockMoved place to2.offset (t (Own f a to2.block)) (s (Own f a d)) = h.own f a d to2 e' in
          let differs : b ≡ d → ⊥ = λ eq. differ (cc (names, serials, eq)) in
          let now_there : BlockMoved place to2.offset (Some vs') (s (Own f a d)) =
          block_apart t s f a b to vs ws vs' ws' h u d to2 differs e' blocks (s (Own f a d)) refl old in
          let same_source : Own g c d ≡ Own f a d = cc (names, serials) in
          block_is place to2.offset _ _ (Some vs') (s (Own f a d))
          (ap (λ v. with_block t (Own f a to.block) (Some vs') v) same ∙ with_here t (Own f a to.block) (Some vs'))
          (with_elsewhere s (Own f a b) (Own g c d) (Some ws') differ ∙ ap s same_source) now_there)
          (λ elsewhere. block_is place to2.offset _ _ (t (Own g c to2.block)) (s (Own g c d))
          (with_elsewhere t (Own f a to.block) (Own g c to2.block) (Some vs') elsewhere)
          (with_elsewhere s (Own f a b) (Own g c d) (Some ws') differ) (h.own g c d to2 e))
          (same_or_not (Own g c to2.block) (Own f a to.block)))
          (same_or_not (Own g c d) (Own f a b))

  -- An activation begins, and ends.

  own_or_not : (g name : NameBytes) (c serial : ℕ) → ((g ≡ name) × (c ≡ serial))
      ⊎ ((d b : ℕ) → Own g c d ≡ Own name serial b → ⊥)
  own_or_not g name c serial = ⊎_elim
      (λ (same : Own g c 0 ≡ Own name serial 0). inl (cc same, cc same))
      (λ differ. inr (λ d b e. let names : g ≡ name = cc e in let serials : c ≡ serial = cc e in
      differ (cc (names, serials))))
      (same_or_not (Own g c 0) (Own name serial 0))

  pub other_home : (words : ℕ → Option (List Value)) (m : Memory) (name : NameBytes) (serial : ℕ) (blocks : List ℕ)
      (g : NameBytes) (c : ℕ) → ((d b : ℕ) → Own g c d ≡ Own name serial b → ⊥) → (d : ℕ) →
      set_blocks words m name serial 0 blocks (Own g c d) ≡ m (Own g c d)
  other_home words m name serial blocks g c h d = set_elsewhere words m name serial 0 blocks (Own g c d)
      (λ j less e. h d (0 + j) e)

  outside_home : (words : ℕ → Option (List Value)) (m : Memory) (name : NameBytes) (serial : ℕ) (blocks : List ℕ)
      (k : ℕ) → set_blocks words m name serial 0 blocks (Theirs k) ≡ m (Theirs k)
  outside_home words m name serial blocks k = set_elsewhere words m name serial 0 blocks (Theirs k) (λ j less e. cc e)

  own_home : (words : ℕ → Option (List Value)) (m : Memory) (name : NameBytes) (serial : ℕ) (blocks : List ℕ)
      (d size : ℕ) → slice_get blocks d ≡ Some size → set_blocks words m name serial 0 blocks (Own name serial d)
      ≡ words size
  own_home words m name serial blocks d size e = set_there words m name serial 0 blocks d d size e (omega arith)

  past_home : (words : ℕ → Option (List Value)) (m : Memory) (name : NameBytes) (serial : ℕ) (blocks : List ℕ) (d : ℕ) →
      slice_get blocks d ≡ None → set_blocks words m name serial 0 blocks (Own name serial d) ≡ m (Own name serial d)
  past_home words m name serial blocks d e = set_elsewhere words m name serial 0 blocks (Own name serial d) (λ j less f.
      let same : d ≡ 0 + j = cc f in
      let is_j : d ≡ j = omega (arith, same) in
      let x = get_inside blocks j less in
      let there : slice_get blocks j ≡ Some x.0 = x.1 in
      let none : slice_get blocks j ≡ None = subst (λ n. slice_get blocks n ≡ None) is_j e in
      absurd (cc (there, none)))

  -- the words of the blocks, where an activation begins or has returned
  pub data Blocks : (ℕ → Option (List Value)) → Type 0 where
    begin : SameMoved place source.first_word source.first_word → Blocks (fresh source.first_word)
    end : Blocks gone

  block_moved : {words : ℕ → Option (List Value)} → Blocks words → (offset size total : ℕ) → offset + size ≤ total →
      BlockMoved place offset (words total) (words size)
  block_moved (begin same) offset size total le = so_many_moved place source.first_word same offset size total le
  block_moved end offset size total le = refl

  block_size : {words : ℕ → Option (List Value)} → Blocks words → (size : ℕ) (ws : List Value) → words size ≡ Some ws →
      length ws ≡ size
  block_size (begin _) size ws e = let same : so_many source.first_word size ≡ ws = cc e in ap length (sym same)
      ∙ so_many_length source.first_word size
  block_size end size ws e = absurd (cc e)

  pub blocks_moved : (words : ℕ → Option (List Value)) → Blocks words → (f : F) (g : G) → made f g → (n m : ℕ) → n ≡ m →
      (t s : Memory) → Mem t s → Mem (set_blocks words t (target.name f) n 0 (target.blocks f))
      (set_blocks words s (source.name g) m 0 (source.blocks g))
  blocks_moved words kind f g made_of n m same t s h =
      subst (λ v. Mem (set_blocks words t v n 0 (target.blocks f))
      (set_blocks words s (source.name g) m 0 (source.blocks g))) (sym (is.names f g made_of))
      (subst (λ v. Mem (set_blocks words t (source.name g) n 0 (target.blocks f))
      (set_blocks words s (source.name g) v 0 (source.blocks g))) same
      (record { own = own_of; theirs = theirs_of; have_sizes = sizes_of }))
    where
      name : NameBytes
      name = source.name g

      own_of : (g' : NameBytes) (c d : ℕ) (to : Spot) → place g' d ≡ Some to →
          BlockMoved place to.offset (set_blocks words t (source.name g) n 0 (target.blocks f) (Own g' c to.block))
          (set_blocks words s (source.name g) n 0 (source.blocks g) (Own g' c d))
      own_of g' c d to e = ⊎_elim
          (λ (at : (g' ≡ source.name g) × (c ≡ n)).
          let names = at.0 in
          let serials = at.1 in
          let e' : place (source.name g) d ≡ Some to = subst (λ v. place v d ≡ Some to) names e in
          let room = is.room f g made_of d to e' in
          let source_home : Own g' c d ≡ Own (source.name g) n d = cc (names, serials) in
          let target_home : Own g' c to.block ≡ Own (source.name g) n to.block = cc (names, serials) in
          block_is place to.offset _ _ (words room.1) (words room.0)
          (ap (λ v. set_blocks words t (source.name g) n 0 (target.blocks f) v) target_home
          ∙ own_home words t (source.name g) n (target.blocks f) to.block room.1 room.3)
          (ap (λ v. set_blocks words s (source.name g) n 0 (source.blocks g) v) source_home
          ∙ own_home words s (source.name g) n (source.blocks g) d room.0 room.2)
          (block_moved kind to.offset room.0 room.1 room.4))
          (λ differ. block_is place to.offset _ _ (t (Own g' c to.block)) (s (Own g' c d))
          (other_home words t (source.name g) n (target.blocks f) g' c differ to.block)
          (other_home words s (source.name g) n (source.blocks g) g' c differ d) (h.own g' c d to e))
          (own_or_not g' (source.name g) c n)

      theirs_of : (k : ℕ) → ObjectMoved place (set_blocks words t (source.name g) n 0 (target.blocks f) (Theirs k))
          (set_blocks words s (source.name g) n 0 (source.blocks g) (Theirs k))
      theirs_of k =
          subst (λ v. ObjectMoved place v (set_blocks words s (source.name g) n 0 (source.blocks g) (Theirs k)))
          (sym (outside_home words t (source.name g) n (target.blocks f) k))
          (subst (λ v. ObjectMoved place (t (Theirs k)) v)
          (sym (outside_home words s (source.name g) n (source.blocks g) k)) (h.theirs k))

      sizes_of : (g' : NameBytes) (c d : ℕ) (ws : List Value) →
          set_blocks words s (source.name g) n 0 (source.blocks g) (Own g' c d) ≡ Some ws → length ws ≡ sizes g' d
      sizes_of g' c d ws e = ⊎_elim
          (λ (at : (g' ≡ source.name g) × (c ≡ n)).
          let names = at.0 in
          let serials = at.1 in
          let source_home : Own g' c d ≡ Own (source.name g) n d = cc (names, serials) in
          let e' : set_blocks words s (source.name g) n 0 (source.blocks g) (Own (source.name g) n d) ≡ Some ws =
          sym (ap (λ v. set_blocks words s (source.name g) n 0 (source.blocks g) v) source_home) ∙ e in
          subst (λ v. length ws ≡ sizes v d) (sym names) (sizes_at d ws e' (slice_get (source.blocks g) d) refl))
          (λ differ. h.have_sizes g' c d ws (sym (other_home words s (source.name g) n (source.blocks g) g' c differ d)
          ∙ e))
          (own_or_not g' (source.name g) c n)
        where
          sizes_at : (d : ℕ) (ws : List Value) → set_blocks words s (source.name g) n 0 (source.blocks g)
              (Own (source.name g) n d) ≡ Some ws → (o : Option ℕ) → slice_get (source.blocks g) d ≡ o →
              length ws ≡ sizes (source.name g) d
          sizes_at d ws e None k = h.have_sizes (source.name g) n d ws
              (sym (past_home words s (source.name g) n (source.blocks g) d k) ∙ e)
          sizes_at d ws e (Some size) k = block_size kind size ws
              (sym (own_home words s (source.name g) n (source.blocks g) d size k) ∙ e) ∙ is.known f g made_of d size k

  -- Objects.

  -- what is shown of the objects is the same
  shown_same : (t s : Memory) → Mem t s → (m : Named) (home : Home) (part : Part) → NamedMoved place sizes m home part →
      object_of t m ≡ object_of s (record { home = home; part = part })
  shown_same t s h m (Theirs k) part e =
      ap (λ v. object_of t v) e
      ∙ ap (λ (c : Option (List (Option ℕ))). record
      { owner = Outside; kind = part.kind; size = part.size; contents = c })
      (same_contents (t (Theirs k)) (s (Theirs k)) (h.theirs k))
    where
      same_contents : (x y : Option (List Value)) → ObjectMoved place x y → contents_in x part ≡ contents_in y part
      same_contents None None e = refl
      same_contents None (Some ws) e = absurd e
      same_contents (Some vs) None e = absurd e
      same_contents (Some vs) (Some ws) e = ap (λ c. Some c) (all_moved_contents place vs ws e part.from part.size)
  shown_same t s h m (Own f a b) part e =
      ap (λ v. object_of t v) e.2
      ∙ ap (λ (c : Option (List (Option ℕ))). record
      { owner = Inside; kind = part.kind; size = part.size; contents = c })
      (same_contents (t (Own f a e.0.block)) (s (Own f a b)) refl (h.own f a b e.0 e.1))
    where
      same_contents : (x y : Option (List Value)) → s (Own f a b) ≡ y → BlockMoved place e.0.offset x y →
          contents_in x (moved_part e.0.offset part) ≡ contents_in y part
      same_contents x None g m = ap (λ v. contents_in v (moved_part e.0.offset part)) m
      same_contents None (Some ws) g m = absurd m
      same_contents (Some vs) (Some ws) g m =
          let size = h.have_sizes f a b ws g in
          let inside = e.4 in
          ap (λ c. Some c) (same_contents_of part.size vs ws (e.0.offset + part.from) part.from
          (omega (arith, size, inside)) (λ k w less at.
          let v = m (part.from + k) w at in
          let there : e.0.offset + (part.from + k) ≡ e.0.offset + part.from + k = omega arith in
          (v.0, subst (λ i. slice_get vs i ≡ Some v.0) there v.1, moved_content place v.0 w v.2)))

  pub all_shown_same : (t s : Memory) → Mem t s → (ms ns : Naming) → NamingMoved place sizes ms ns →
      objects_of t ms ≡ objects_of s ns
  all_shown_same t s h [] [] e = refl
  all_shown_same t s h [] (n ∷ ns) e = absurd e
  all_shown_same t s h (m ∷ ms) [] e = absurd e
  all_shown_same t s h (m ∷ ms) (n ∷ ns) e = ap (λ o. o ∷ objects_of t ms) (shown_same t s h m n.home n.part e.0)
      ∙ ap (λ os. object_of s n ∷ os) (all_shown_same t s h ms ns e.1)

  -- How what crosses is named.

  naming_length : (ms ns : Naming) → NamingMoved place sizes ms ns → length ms ≡ length ns
  naming_length [] [] e = refl
  naming_length [] (n ∷ ns) e = absurd e
  naming_length (m ∷ ms) [] e = absurd e
  naming_length (m ∷ ms) (n ∷ ns) e = ap suc (naming_length ms ns e.1)

  pub naming_get : (ms ns : Naming) → NamingMoved place sizes ms ns → (k : ℕ) (n : Named) → slice_get ns k ≡ Some n →
      (m : Named) × (slice_get ms k ≡ Some m) × NamedMoved place sizes m n.home n.part
  naming_get [] [] e k n f = absurd (cc f)
  naming_get [] (x ∷ ns) e k n f = absurd e
  naming_get (m ∷ ms) [] e k n f = absurd e
  naming_get (m ∷ ms) (x ∷ ns) e zero n f = let same : x ≡ n =
      cc f in (m, refl, subst (λ (v : Named). NamedMoved place sizes m v.home v.part) same e.0)
  naming_get (m ∷ ms) (x ∷ ns) e (suc k) n f = naming_get ms ns e.1 k n f

  pub naming_more : (ms ns : Naming) → NamingMoved place sizes ms ns → (m n : Named) →
      NamedMoved place sizes m n.home n.part → NamingMoved place sizes (ms ++ m ∷ []) (ns ++ n ∷ [])
  naming_more [] [] e m n f = (f, tt)
  naming_more [] (x ∷ ns) e m n f = absurd e
  naming_more (y ∷ ms) [] e m n f = absurd e
  naming_more (y ∷ ms) (x ∷ ns) e m n f = (e.0, naming_more ms ns e.1 m n f)

  -- the target's pointer is the source's, moved
  abbrev PointsTo : Home → ℕ → Home → ℕ → Type 0
  PointsTo home' at' (Own f a b) at = (to : Spot) × (place f b ≡ Some to) × (home' ≡ Own f a to.block)
      × (at' ≡ to.offset + at)
  PointsTo home' at' (Theirs k) at = (home' ≡ Theirs k) × (at' ≡ at)

  place_moved : (part : Part) (offset at at' pl : ℕ) → at' ≡ offset + at → is_place part at pl ≡ true →
      is_place (moved_part offset part) at' pl ≡ true
  place_moved part offset at at' pl e h =
      let both = and_both (nat_eq at (part.from + pl)) (nat_le pl part.size) h in
      let there = eqb-true at (part.from + pl) both.0 in
      let same : at' ≡ offset + part.from + pl = omega (arith, e, there) in
      both_true _ _ (subst (λ n. nat_eq at' n ≡ true) same (eq_self at')) both.1

  again_moved : (m : Named) (home : Home) (part : Part) → NamedMoved place sizes m home part →
      (home' : Home) (at at' pl : ℕ) → PointsTo home' at' home at → is_place part at pl ≡ true →
      (same_home m.home home' && is_place m.part at' pl) ≡ true
  again_moved m (Own f a b) part e home' at at' pl points h =
      let there = points.1 in
      let named_there = e.1 in
      let spots : e.0 ≡ points.0 = cc (there, named_there) in
      let is_m : m ≡ record { home = Own f a points.0.block; part = moved_part points.0.offset part } =
      e.2 ∙ ap (λ (v : Spot). record { home = Own f a v.block; part = moved_part v.offset part }) spots in
      both_true _ _ (subst (λ (v : Named). same_home v.home home' ≡ true) (sym is_m)
      (subst (λ v. same_home (Own f a points.0.block) v ≡ true) (sym points.2)
      (same_home_self (Own f a points.0.block))))
      (subst (λ (v : Named). is_place v.part at' pl ≡ true) (sym is_m)
      (place_moved part points.0.offset at at' pl points.3 h))
  again_moved m (Theirs k) part e home' at at' pl points h =
      both_true _ _ (subst (λ (v : Named). same_home v.home home' ≡ true) (sym e)
      (subst (λ v. same_home (Theirs k) v ≡ true) (sym points.0) (same_home_self (Theirs k))))
      (subst (λ (v : Named). is_place v.part at' pl ≡ true) (sym e)
      (subst (λ n. is_place part n pl ≡ true) (sym points.1) h))

  -- an object of the source is new where that of the target is
  is_it_too : (f : NameBytes) (a b : ℕ) (to : Spot) (part : Part) → place f b ≡ Some to → 1 ≤ part.size →
      part.from + part.size ≤ sizes f b → (m : Named) (home : Home) (part2 : Part) →
      NamedMoved place sizes m home part2 → is_it (Own f a to.block) (moved_part to.offset part) m ≡ true →
      is_it (Own f a b) part (record { home = home; part = part2 }) ≡ true
  is_it_too f a b to part e least inside m (Theirs k) part2 n h =
      let both = and_both (same_home m.home (Own f a to.block)) _ h in
      let homes = same_home_from m.home (Own f a to.block) both.0 in
      let is_m = ap (λ (v : Named). v.home) n in
      absurd (cc (homes, is_m))
  is_it_too f a b to part e least inside m (Own g c d) part2 n h =
      let h' : is_it (Own f a to.block) (moved_part to.offset part)
      (record { home = Own g c n.0.block; part = moved_part n.0.offset part2 }) ≡ true =
      subst (λ (v : Named). is_it (Own f a to.block) (moved_part to.offset part) v ≡ true) n.2 h in
      let both = and_both (same_home (Own g c n.0.block) (Own f a to.block))
      (same_part (moved_part n.0.offset part2) (moved_part to.offset part)) h' in
      let homes = same_home_from (Own g c n.0.block) (Own f a to.block) both.0 in
      let names : g ≡ f = cc homes in
      let serials : c ≡ a = cc homes in
      let blocks : n.0.block ≡ to.block = cc homes in
      let fronts = and_both (nat_eq (n.0.offset + part2.from) (to.offset + part.from) && nat_eq part2.size part.size)
      _ both.1 in
      let starts = and_both (nat_eq (n.0.offset + part2.from) (to.offset + part.from)) (nat_eq part2.size part.size)
      fronts.0 in
      let from_same = eqb-true (n.0.offset + part2.from) (to.offset + part.from) starts.0 in
      let there : place f d ≡ Some n.0 = subst (λ v. place v d ≡ Some n.0) names n.1 in
      let least2 = n.3 in
      let inside2 : part2.from + part2.size ≤ sizes f d = subst (λ v. part2.from + part2.size ≤ sizes v d) names n.4 in
      ⊎_elim
      (λ (same : d ≡ b).
      let there_b : place f b ≡ Some n.0 = subst (λ v. place f v ≡ Some n.0) same there in
      let spots : n.0 ≡ to = cc (there_b, e) in
      let offsets : n.0.offset ≡ to.offset = ap (λ (v : Spot). v.offset) spots in
      let from : part2.from ≡ part.from = omega (arith, from_same, offsets) in
      let home_same : Own g c d ≡ Own f a b = cc (names, serials, same) in
      both_true _ _ (subst (λ v. same_home (Own g c d) v ≡ true) home_same (same_home_self (Own g c d)))
      (both_true _ _ (both_true _ _ (subst (λ v. nat_eq part2.from v ≡ true) from (eq_self part2.from)) starts.1)
      fronts.1))
      (λ ranges. ⊎_elim (λ le. absurd (omega (arith, le, from_same, least2, inside2)))
      (λ le. absurd (omega (arith, le, from_same, least, inside))) ranges)
      (is.apart f d b n.0 to there e blocks)

  none_later : (o : Option ℕ) → one_later o ≡ None → o ≡ None
  none_later None e = refl
  none_later (Some k) e = absurd (cc e)

  number_moved : (f : NameBytes) (a b : ℕ) (to : Spot) (part : Part) → place f b ≡ Some to → 1 ≤ part.size →
      part.from + part.size ≤ sizes f b → (ms ns : Naming) → NamingMoved place sizes ms ns →
      number_of ns (Own f a b) part ≡ None → number_of ms (Own f a to.block) (moved_part to.offset part) ≡ None
  number_moved f a b to part e least inside [] [] n h = refl
  number_moved f a b to part e least inside [] (x ∷ ns) n h = absurd n
  number_moved f a b to part e least inside (m ∷ ms) [] n h = absurd n
  number_moved f a b to part e least inside (m ∷ ms) (x ∷ ns) n h =
      by (λ g. number_moved f a b to part e least inside ms ns n.1 g)
      (is_it_too f a b to part e least inside m x.home x.part n.0)
      (is_it (Own f a to.block) (moved_part to.offset part) m) refl (is_it (Own f a b) part x) refl h
    where
      by : (number_of ns (Own f a b) part ≡ None → number_of ms (Own f a to.block) (moved_part to.offset part) ≡ None) →
          (is_it (Own f a to.block) (moved_part to.offset part) m ≡ true → is_it (Own f a b) part x ≡ true) →
          (t : Bool) → is_it (Own f a to.block) (moved_part to.offset part) m ≡ t → (u : Bool) →
          is_it (Own f a b) part x ≡ u → (if u then Some 0 else one_later (number_of ns (Own f a b) part)) ≡ None →
          (if t then Some 0 else one_later (number_of ms (Own f a to.block) (moved_part to.offset part))) ≡ None
      by more too t i true j g = absurd (cc g)
      by more too true i false j g = let yes = too i in absurd (cc (yes, j))
      by more too false i false j g = ap one_later (more (none_later (number_of ns (Own f a b) part) g))

  -- the target can name what crosses so too
  record NamesToo (begun : ℕ) (ms : Naming) (v : Value) (x : Shown) (ns' : Naming) : Type 0 where
    naming : Naming
    named : named_by (parts_at placed begun) ms v x ≡ Some naming
    moves : NamingMoved place sizes naming ns'

  names_again : (ms ns : Naming) → NamingMoved place sizes ms ns → (home' : Home) (at' : ℕ) (home : Home) (at : ℕ) →
      PointsTo home' at' home at → (k pl : ℕ) (ns' : Naming) → (o : Option Named) → slice_get ns k ≡ o →
      again o ns home at pl ≡ Some ns' → (ms' : Naming) × (again (slice_get ms k) ms home' at' pl ≡ Some ms')
      × NamingMoved place sizes ms' ns'
  names_again ms ns e home' at' home at points k pl ns' None g h = absurd (cc h)
  names_again ms ns e home' at' home at points k pl ns' (Some n) g h =
      by (same_home n.home home && is_place n.part at pl) refl h
    where
      by : (t : Bool) → (same_home n.home home && is_place n.part at pl) ≡ t →
          (if t then Some ns else None) ≡ Some ns' → (ms' : Naming)
          × (again (slice_get ms k) ms home' at' pl ≡ Some ms') × NamingMoved place sizes ms' ns'
      by false i j = absurd (cc j)
      by true i j =
          let both = and_both (same_home n.home home) (is_place n.part at pl) i in
          let homes = same_home_from n.home home both.0 in
          let m = naming_get ms ns e k n g in
          let moves : NamedMoved place sizes m.0 home n.part =
          subst (λ v. NamedMoved place sizes m.0 v n.part) homes m.2 in
          let same : ns ≡ ns' = cc j in (
            ms,
            ap (λ (o : Option Named). again o ms home' at' pl) m.1
                ∙ ap (λ (t : Bool). if t then Some ms else None)
                (again_moved m.0 home n.part moves home' at at' pl points both.1),
            subst
                (λ v. NamingMoved place sizes ms v) same e,
          )

  names_first : (begun : ℕ) (ms ns : Naming) → NamingMoved place sizes ms ns →
      (home' : Home) (at' : ℕ) (home : Home) (at : ℕ) → PointsTo home' at' home at → (pl : ℕ) (ns' : Naming) →
      (o : Option Part) → part_by (parts_at layout begun home) at pl ≡ o → first_time o ns home ≡ Some ns' →
      (ms' : Naming) × (first_time (part_by (parts_at placed begun home') at' pl) ms home' ≡ Some ms')
      × NamingMoved place sizes ms' ns'
  names_first begun ms ns e home' at' home at points pl ns' None g h = absurd (cc h)
  names_first begun ms ns e home' at' (Theirs k) at points pl ns' (Some part) g h = absurd (cc h)
  names_first begun ms ns e home' at' (Own f a b) at points pl ns' (Some part) g h = has_begun (nat_lt a begun) refl g
    where
      has_begun : (t : Bool) → nat_lt a begun ≡ t → part_by (if t then layout f b else []) at pl ≡ Some part →
          (ms' : Naming) × (first_time (part_by (parts_at placed begun home') at' pl) ms home' ≡ Some ms')
          × NamingMoved place sizes ms' ns'
      has_begun false i j = absurd (cc j)
      has_begun true i j = by (number_of ns (Own f a b) part) refl h
        where
          by : (o : Option ℕ) → number_of ns (Own f a b) part ≡ o →
              if_new o ns (record { home = Own f a b; part = part }) ≡ Some ns' → (ms' : Naming)
              × (first_time (part_by (parts_at placed begun home') at' pl) ms home' ≡ Some ms')
              × NamingMoved place sizes ms' ns'
          by (Some k) u v = absurd (cc v)
          by None u v =
              let to = points.0 in
              let parts = is.parts f b to points.1 at pl part j in
              let same : ns ++ record { home = Own f a b; part = part } ∷ [] ≡ ns' = cc v in
              let new : Named = record { home = Own f a to.block; part = moved_part to.offset part } in
              let found : part_by (parts_at placed begun (Own f a to.block)) (to.offset + at) pl ≡ Some
              (moved_part to.offset part) =
              ap (λ (t : Bool). part_by (if t then placed f to.block else []) (to.offset + at) pl) i ∙ parts.0 in
              let there : first_time (part_by (parts_at placed begun (Own f a to.block)) (to.offset + at) pl) ms
              (Own f a to.block) ≡ Some (ms ++ new ∷ []) =
              ap (λ (o : Option Part). first_time o ms (Own f a to.block)) found
              ∙ ap (λ (o : Option ℕ). if_new o ms new)
              (number_moved f a b to part points.1 parts.1 parts.2 ms ns e u) in (
                ms ++ new ∷ [],
                subst (λ w. first_time (part_by (parts_at placed begun w) at' pl) ms w ≡ Some (ms ++ new ∷ []))
                    (sym points.2)
                    (subst (λ w. first_time (part_by (parts_at placed begun (Own f a to.block)) w pl) ms
                    (Own f a to.block) ≡ Some (ms ++ new ∷ [])) (sym points.3) there),
                subst (λ w. NamingMoved place sizes (ms ++ new ∷ []) w) same
                    (naming_more ms ns e new (record { home = Own f a b; part = part })
                    (to, points.1, refl, parts.1, parts.2)),
              )

  names_pointer : (begun : ℕ) (ms ns : Naming) → NamingMoved place sizes ms ns →
      (home' : Home) (at' : ℕ) (home : Home) (at : ℕ) → PointsTo home' at' home at → (x : Shown) (ns' : Naming) →
      named_by (parts_at layout begun) ns (Pointer home at) x ≡ Some ns' → NamesToo begun ms (Pointer home' at') x ns'
  names_pointer begun ms ns e home' at' home at points (Word y) ns' h = absurd (cc h)
  names_pointer begun ms ns e home' at' home at points (Place k pl) ns' h =
      by (nat_lt k (length ns)) refl (nat_eq k (length ns)) refl h
    where
      same_count : length ns ≡ length ms
      same_count = sym (naming_length ms ns e)

      by : (t : Bool) → nat_lt k (length ns) ≡ t → (u : Bool) → nat_eq k (length ns) ≡ u →
          (if t then again (slice_get ns k) ns home at pl else
          (if u then first_time (part_by (parts_at layout begun home) at pl) ns home else None)) ≡ Some ns' →
          NamesToo begun ms (Pointer home' at') (Place k pl) ns'
      by true i u j g =
          let n = names_again ms ns e home' at' home at points k pl ns' (slice_get ns k) refl g in
          record {
            naming = n.0;
            named = ap (λ (t : Bool). if t then again (slice_get ms k) ms home' at' pl else
                (if nat_eq k (length ms) then first_time (part_by (parts_at placed begun home') at' pl)
                ms home' else None)) (subst (λ v. nat_lt k v ≡ true) same_count i) ∙ n.1;
            moves = n.2;
          }
      by false i true j g =
          let n = names_first begun ms ns e home' at' home at points pl ns' (part_by (parts_at layout begun home) at pl)
          refl g in
          record {
            naming = n.0;
            named = ap (λ (t : Bool). if t then again (slice_get ms k) ms home' at' pl else
                (if nat_eq k (length ms) then first_time (part_by (parts_at placed begun home') at' pl)
                ms home' else None)) (subst (λ v. nat_lt k v ≡ false) same_count i)
                ∙ ap (λ (t : Bool). if t then first_time (part_by (parts_at placed begun home') at' pl)
                ms home' else None) (subst (λ v. nat_eq k v ≡ true) same_count j) ∙ n.1;
            moves = n.2;
          }
      by false i false j g = absurd (cc g)

  names_too : (begun : ℕ) (ms ns : Naming) → NamingMoved place sizes ms ns → (v w : Value) → SameMoved place v w →
      (x : Shown) (ns' : Naming) → named_by (parts_at layout begun) ns w x ≡ Some ns' → NamesToo begun ms v x ns'
  names_too begun ms ns e v (Hidden what) s (Place k pl) ns' h = absurd (cc h)
  names_too begun ms ns e v (Hidden what) s (Word y) ns' h = absurd (cc h)
  names_too begun ms ns e v (Number u) s (Place k pl) ns' h = absurd (cc h)
  names_too begun ms ns e v (Number u) s (Word y) ns' h =
      subst (λ o. NamesToo begun ms o (Word y) ns') (let same : Number u ≡ v = cc s in same) (by (nat_eq u y) refl h)
    where
      by : (t : Bool) → nat_eq u y ≡ t → (if t then Some ns else None) ≡ Some ns' →
          NamesToo begun ms (Number u) (Word y) ns'
      by true i g = let same : ns ≡ ns' = cc g in record {
        naming = ms;
        named = ap (λ (t : Bool). if t then Some ms else None) i;
        moves = subst
            (λ o. NamingMoved place sizes ms o) same e;
      }
      by false i g = absurd (cc g)
  names_too begun ms ns e v (Pointer (Theirs k) at) s x ns' h =
      subst (λ o. NamesToo begun ms o x ns') (let same : Pointer (Theirs k) at ≡ v = cc s in same)
      (names_pointer begun ms ns e (Theirs k) at (Theirs k) at (refl, refl) x ns' h)
  names_too begun ms ns e v (Pointer (Own f a b) at) s x ns' h = by (place f b) refl s
    where
      by : (o : Option Spot) → place f b ≡ o → pointer_in f a o at ≡ Some v → NamesToo begun ms v x ns'
      by None i j = absurd (cc j)
      by (Some to) i j =
          let same : Pointer (Own f a to.block) (to.offset + at) ≡ v = cc j in
          subst (λ o. NamesToo begun ms o x ns') same (names_pointer begun ms ns e (Own f a to.block) (to.offset + at)
          (Own f a b) at (to, i, refl, refl) x ns' h)

  pub all_names_too : (begun : ℕ) (vs ws : List Value) → AllMoved place vs ws → (ms ns : Naming) →
      NamingMoved place sizes ms ns → (xs : List Shown) (ns' : Naming) →
      all_named_by (parts_at layout begun) ns ws xs ≡ Some ns' → (ms' : Naming)
      × (all_named_by (parts_at placed begun) ms vs xs ≡ Some ms') × NamingMoved place sizes ms' ns'
  all_names_too begun [] [] s ms ns e [] ns' h = let same : ns ≡ ns' =
      cc h in (ms, refl, subst (λ v. NamingMoved place sizes ms v) same e)
  all_names_too begun [] [] s ms ns e (x ∷ xs) ns' h = absurd (cc h)
  all_names_too begun [] (w ∷ ws) s ms ns e xs ns' h = absurd s
  all_names_too begun (v ∷ vs) [] s ms ns e xs ns' h = absurd s
  all_names_too begun (v ∷ vs) (w ∷ ws) s ms ns e [] ns' h = absurd (cc h)
  all_names_too begun (v ∷ vs) (w ∷ ws) s ms ns e (x ∷ xs) ns' h =
      by (λ ms2 ns2 e2 g. all_names_too begun vs ws s.1 ms2 ns2 e2 xs ns' g) (named_by (parts_at layout begun) ns w x)
      refl h
    where
      by : ((ms2 ns2 : Naming) → NamingMoved place sizes ms2 ns2 →
          all_named_by (parts_at layout begun) ns2 ws xs ≡ Some ns' → (ms' : Naming)
          × (all_named_by (parts_at placed begun) ms2 vs xs ≡ Some ms') × NamingMoved place sizes ms' ns') →
          (o : Option Naming) → named_by (parts_at layout begun) ns w x ≡ o →
          and_then o (λ ms. all_named_by (parts_at layout begun) ms ws xs) ≡ Some ns' → (ms' : Naming)
          × (all_named_by (parts_at placed begun) ms (v ∷ vs) (x ∷ xs) ≡ Some ms') × NamingMoved place sizes ms' ns'
      by more None i j = absurd (cc j)
      by more (Some ns2) i j =
          let first = names_too begun ms ns e v w s.0 x ns2 i in
          let rest = more first.naming ns2 first.moves j in (
            rest.0,
            ap (λ (o : Option Naming). and_then o (λ ms. all_named_by (parts_at placed begun) ms vs xs))
                first.named ∙ rest.1,
            rest.2,
          )
