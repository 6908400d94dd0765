-- Where blocks are moved, the outside leaves both threads alike, and what they hold keeps to the layer of calls.
use Rattle.std.proofs.Common.{◌≡◌, ℕ, zero, suc, ◌+◌, ◌<◌, ◌≤◌, List, [], ◌∷◌, Option, Some, None, Bool, true, false, if◌then◌else◌, length, slice_get, slice_set, nat_eq, nat_lt, inl, inr, refl, sym, ap, ◌∙◌, subst, ⊎_elim, arith, eqb-true}
use Rattle.std.proofs.lemmas.Option.{slice_get_within}
use Rattle.cas_runs.specs.Label.{NameBytes, Shown, Word, Place, Object}
use Rattle.cas_runs.specs.Naming.{Home, Own, Theirs, Value, Number, Pointer, Hidden, Part, Layout, parts_at, some_reaches, Named, Naming, Memory, and_then, all_named_by, reaches, reached_in, can_show, can_show_all, same_home, objects_of, same_objects, value_at, taken, all_taken, written, with_block, left_in, new_block, Crossed, brought}
use Rattle.cas_runs.specs.Machine.{Names}
use Rattle.cas_runs.specs.Access.{Holding, with_lock, without_lock, value_in, length_of}
use Rattle.cas_runs.specs.Forms.{LengthsAlike, Stored, store, MemoryKeeps}
use Rattle.cas_runs.specs.Edge.{Edge}
use Rattle.cas_runs.specs.Unit.{Setting}
use Rattle.cas_runs.specs.Calls.{Activations, Past, set_blocks, fresh, gone, without_own, if_shown, named_as, with_naming}
use Rattle.cas_runs.specs.Passing.{Position, Relation, AllMatch, MatchIf, brought_in, Keeps, AllMade, MadeSo, MadeAt, MadeOf, IsMatching}
use Rattle.cas_runs.specs.Held.{set_in, stored_at, Activation, Midway, HoldsBy, with_blocks_of}
use Rattle.cas_runs.specs.Placing.{Spot, Placing, pointer_in, SameMoved, AllMoved, CellsMoved, BlockMoved, ObjectMoved, MemoryMoved, moved_part, NamedMoved, NamingMoved, AlikeMoved, KeepsUnplaced, IsPlacing, moved_matches, moving, Moved, places, bare, moved_blocks, IsMoved}
use Rattle.cas_runs.proofs.Words.{all_self}
use Rattle.cas_runs.proofs.Footing.{step_least}
use Rattle.cas_runs.proofs.Holding.{held_passes}
use Rattle.cas_runs.proofs.Showing.{part_reached, reached_by}
use Rattle.cas_runs.proofs.Tests.{and_both, eq_self, same_home_from}
use Rattle.cas_runs.proofs.Cells.{set_same, set_other, set_length, get_inside, written_length, written_out}
use Rattle.cas_runs.proofs.Placing.{with_here, with_elsewhere, same_or_not, moved_pointer, all_moved_get, all_moved_length, moved_written, moved_new, cells_after, block_is, theirs_block, own_block, begin, end, other_home, blocks_moved, all_shown_same, naming_get, all_names_too}

-- the memory with the block that it has
unchanged : (m : Memory) (home : Home) (x : Option (List Value)) → m home ≡ x → (other : Home) →
    with_block m home x other ≡ m other
unchanged m home x e other = ⊎_elim (λ (same : other ≡ home). ap (λ v. with_block m home x v) same ∙ with_here m home x
    ∙ sym e ∙ sym (ap m same)) (λ differ. with_elsewhere m home other x differ) (same_or_not other home)

module _ {F A G B : Type 0} (target : Activations F A) (source : Activations G B) (made : F → G → Type 0)
    (place : Placing) (sizes : NameBytes → ℕ → ℕ) (placed layout : Layout)
    (is : IsPlacing target source made (record { place = place; sizes = sizes }) placed layout) where
  abbrev Mem : Memory → Memory → Type 0
  Mem t s = MemoryMoved place sizes t s

  same_memory : (t s t' s' : Memory) → Mem t s → ((home : Home) → t' home ≡ t home) →
      ((home : Home) → s' home ≡ s home) → Mem t' s'
  same_memory t s t' s' h f g = record {
    own = λ name a b to e. block_is place to.offset _ _ (t (Own name a to.block)) (s (Own name a b))
        (f (Own name a to.block)) (g (Own name a b)) (h.own name a b to e);
    theirs = λ k. subst (λ v. ObjectMoved place v (s' (Theirs k))) (sym (f (Theirs k)))
        (subst (λ v. ObjectMoved place (t (Theirs k)) v) (sym (g (Theirs k))) (h.theirs k));
    have_sizes = λ name a b ws e. h.have_sizes name a b ws (sym (g (Own name a b)) ∙ e);
  }

  -- What the outside leaves.

  left_theirs : (k : ℕ) (part : Part) (c : Option (List (Option ℕ))) (x y : Option (List Value)) →
      ObjectMoved place x y → ObjectMoved place (left_in (record { home = Theirs k; part = part }) x c)
      (left_in (record { home = Theirs k; part = part }) y c)
  left_theirs k part c None None h = tt
  left_theirs k part c None (Some ws) h = absurd h
  left_theirs k part c (Some vs) None h = absurd h
  left_theirs k part None (Some vs) (Some ws) h = tt
  left_theirs k part (Some us) (Some vs) (Some ws) h = moved_written place vs ws part.from part.size us h

  left_own : (t s : Memory) → Mem t s → (f : NameBytes) (a b : ℕ) (to : Spot) (part : Part) → place f b ≡ Some to →
      part.from + part.size ≤ sizes f b → (c : Option (List (Option ℕ))) (x y : Option (List Value)) →
      t (Own f a to.block) ≡ x → s (Own f a b) ≡ y → BlockMoved place to.offset x y →
      Mem (with_block t (Own f a to.block)
      (left_in (record { home = Own f a to.block; part = moved_part to.offset part }) x c))
      (with_block s (Own f a b) (left_in (record { home = Own f a b; part = part }) y c))
  left_own t s h f a b to part e inside c None None i j m =
      same_memory t s _ _ h (unchanged t (Own f a to.block) None i) (unchanged s (Own f a b) None j)
  left_own t s h f a b to part e inside c (Some vs) None i j m = absurd (cc m)
  left_own t s h f a b to part e inside c None (Some ws) i j m = absurd m
  left_own t s h f a b to part e inside None (Some vs) (Some ws) i j m =
      same_memory t s _ _ h (unchanged t (Own f a to.block) (Some vs) i) (unchanged s (Own f a b) (Some ws) j)
  left_own t s h f a b to part e inside (Some us) (Some vs) (Some ws) i j m =
      let size = h.have_sizes f a b ws j in
      own_block target source made place sizes placed layout is t s f a b to vs ws
      (written vs (to.offset + part.from) part.size us) (written ws part.from part.size us) h
      (record {
        placed_there = e;
        target_old = i;
        source_old = j;
        same_length = written_length ws part.from part.size us;
        cells_there = cells_after place to.offset vs ws part.from part.size us m;
        others = λ k out. written_out vs (to.offset + part.from) part.size us k
            (⊎_elim (λ less. inl (omega (arith, less))) (λ more. inr (omega (arith, more, inside, size))) out);
      })

  left_moved : (t s : Memory) → Mem t s → (m : Named) (home : Home) (part : Part) → NamedMoved place sizes m home part →
      (c : Option (List (Option ℕ))) → Mem (with_block t m.home (left_in m (t m.home) c))
      (with_block s home (left_in (record { home = home; part = part }) (s home) c))
  left_moved t s h m (Theirs k) part e c =
      subst (λ (v : Named). Mem (with_block t v.home (left_in v (t v.home) c))
      (with_block s (Theirs k) (left_in (record { home = Theirs k; part = part }) (s (Theirs k)) c))) (sym e)
      (theirs_block target source made place sizes placed layout is t s k _ _ h
      (left_theirs k part c (t (Theirs k)) (s (Theirs k)) (h.theirs k)))
  left_moved t s h m (Own f a b) part e c =
      subst (λ (v : Named). Mem (with_block t v.home (left_in v (t v.home) c))
      (with_block s (Own f a b) (left_in (record { home = Own f a b; part = part }) (s (Own f a b)) c))) (sym e.2)
      (left_own t s h f a b e.0 part e.1 e.4 c (t (Own f a e.0.block)) (s (Own f a b)) refl refl (h.own f a b e.0 e.1))

  pub record Left (t s : Crossed) : Type 0 where
    pub memory : Mem t.memory s.memory
    pub naming : NamingMoved place sizes t.naming s.naming

  pub left : (os : List Object) (t s : Memory) → Mem t s → (ms ns : Naming) → NamingMoved place sizes ms ns → (k : ℕ) →
      Left (brought t ms k os) (brought s ns k os)
  left [] t s h ms ns e k = record { memory = h; naming = e }
  left (o ∷ os) t s h [] [] e k =
      let rest = left os (with_block t (Theirs k) (new_block o.size o.contents))
      (with_block s (Theirs k) (new_block o.size o.contents))
      (theirs_block target source made place sizes placed layout is t s k _ _ h (moved_new place o.size o.contents))
      [] [] tt (k + 1) in
      record { memory = rest.memory; naming = (refl, rest.naming) }
  left (o ∷ os) t s h [] (n ∷ ns) e k = absurd e
  left (o ∷ os) t s h (m ∷ ms) [] e k = absurd e
  left (o ∷ os) t s h (m ∷ ms) (n ∷ ns) e k =
      let rest = left os (with_block t m.home (left_in m (t m.home) o.contents))
      (with_block s n.home (left_in n (s n.home) o.contents)) (left_moved t s h m n.home n.part e.0 o.contents)
      ms ns e.1 (k + 1) in
      record { memory = rest.memory; naming = (e.0, rest.naming) }

  -- the values that come
  abbrev TakenToo : Option Value → Option Value → Type 0
  TakenToo o None = Unit {0}
  TakenToo None (Some w) = ⊥
  TakenToo (Some v) (Some w) = SameMoved place v w

  named_value : (m : Named) (home : Home) (part : Part) → NamedMoved place sizes m home part → (pl : ℕ) →
      SameMoved place (Pointer m.home (m.part.from + pl)) (Pointer home (part.from + pl))
  named_value m (Theirs k) part e pl = ap (λ (v : Named). Some (Pointer v.home (v.part.from + pl))) (sym e)
  named_value m (Own f a b) part e pl =
      let sum : e.0.offset + (part.from + pl) ≡ e.0.offset + part.from + pl = omega arith in
      moved_pointer place f a b (part.from + pl) e.0 e.1 ∙ ap (λ n. Some (Pointer (Own f a e.0.block) n)) sum
      ∙ ap (λ (v : Named). Some (Pointer v.home (v.part.from + pl))) (sym e.2)

  value_too : (ms ns : Naming) → NamingMoved place sizes ms ns → (k pl : ℕ) → (o : Option Named) → slice_get ns k ≡ o →
      TakenToo (value_at (slice_get ms k) pl) (value_at o pl)
  value_too ms ns e k pl None g = tt
  value_too ms ns e k pl (Some n) g =
      let m = naming_get target source made place sizes placed layout is ms ns e k n g in
      subst (λ (v : Option Named). TakenToo (value_at v pl) (Some (Pointer n.home (n.part.from + pl)))) (sym m.1)
      (named_value m.0 n.home n.part m.2 pl)

  taken_too : (ms ns : Naming) → NamingMoved place sizes ms ns → (x : Shown) → TakenToo (taken ms x) (taken ns x)
  taken_too ms ns e (Word w) = refl
  taken_too ms ns e (Place k pl) = value_too ms ns e k pl (slice_get ns k) refl

  abbrev AllTakenToo : Option (List Value) → Option (List Value) → Type 0
  AllTakenToo o None = Unit {0}
  AllTakenToo None (Some ws) = ⊥
  AllTakenToo (Some vs) (Some ws) = AllMoved place vs ws

  taken_both : (o o' : Option Value) (r r' : Option (List Value)) → TakenToo o o' → AllTakenToo r r' →
      AllTakenToo (and_then o (λ v. and_then r (λ vs. Some (v ∷ vs))))
      (and_then o' (λ v. and_then r' (λ vs. Some (v ∷ vs))))
  taken_both o None r r' h k = tt
  taken_both None (Some w) r r' h k = absurd h
  taken_both (Some v) (Some w) r None h k = tt
  taken_both (Some v) (Some w) None (Some ws) h k = absurd k
  taken_both (Some v) (Some w) (Some vs) (Some ws) h k = (h, k)

  all_taken_too : (ms ns : Naming) → NamingMoved place sizes ms ns → (xs : List Shown) →
      AllTakenToo (all_taken ms xs) (all_taken ns xs)
  all_taken_too ms ns e [] = tt
  all_taken_too ms ns e (x ∷ xs) = taken_both (taken ms x) (taken ns x) (all_taken ms xs) (all_taken ns xs)
      (taken_too ms ns e x) (all_taken_too ms ns e xs)

  -- What can be shown.

  reached_too : (ms ns : Naming) → NamingMoved place sizes ms ns → (k at : ℕ) → (o : Option Named) →
      slice_get ns k ≡ o → reached_in o (Theirs k) at ≡ true → reached_in (slice_get ms k) (Theirs k) at ≡ true
  reached_too ms ns e k at None g h = absurd (cc h)
  reached_too ms ns e k at (Some n) g h =
      let m = naming_get target source made place sizes placed layout is ms ns e k n g in
      let both = and_both (same_home n.home (Theirs k)) (reaches n.part at) h in
      let homes = same_home_from n.home (Theirs k) both.0 in
      let at_theirs : NamedMoved place sizes m.0 (Theirs k) n.part =
      subst (λ v. NamedMoved place sizes m.0 v n.part) homes m.2 in
      let here : reached_in (Some (record { home = Theirs k; part = n.part })) (Theirs k) at ≡ true =
      subst (λ v. reached_in (Some (record { home = v; part = n.part })) (Theirs k) at ≡ true) homes h in
      subst (λ (v : Option Named). reached_in v (Theirs k) at ≡ true) (sym m.1)
      (subst (λ (v : Named). reached_in (Some v) (Theirs k) at ≡ true) (sym at_theirs) here)

  shows_too : (begun : ℕ) (ms ns : Naming) → NamingMoved place sizes ms ns → (v w : Value) → SameMoved place v w →
      can_show (parts_at layout begun) ns w ≡ true → can_show (parts_at placed begun) ms v ≡ true
  shows_too begun ms ns e v (Number u) s h = ap (λ o. can_show (parts_at placed begun) ms o)
      (let same : v ≡ Number u = sym (let there : Number u ≡ v = cc s in there) in same)
  shows_too begun ms ns e v (Hidden what) s h = absurd (cc h)
  shows_too begun ms ns e v (Pointer (Theirs k) at) s h =
      subst (λ o. can_show (parts_at placed begun) ms o ≡ true) (let same : Pointer (Theirs k) at ≡ v = cc s in same)
      (reached_too ms ns e k at (slice_get ns k) refl h)
  shows_too begun ms ns e v (Pointer (Own f a b) at) s h = by (place f b) refl s
    where
      by : (o : Option Spot) → place f b ≡ o → pointer_in f a o at ≡ Some v →
          can_show (parts_at placed begun) ms v ≡ true
      by None i j = absurd (cc j)
      by (Some to) i j =
          let same : Pointer (Own f a to.block) (to.offset + at) ≡ v = cc j in
          subst (λ o. can_show (parts_at placed begun) ms o ≡ true) same (has_begun (nat_lt a begun) h)
        where
          has_begun : (t : Bool) → some_reaches (if t then layout f b else []) at ≡ true →
              some_reaches (if t then placed f to.block else []) (to.offset + at) ≡ true
          has_begun false g = absurd (cc g)
          has_begun true g =
              let p = part_reached (layout f b) at g in
              let parts = is.parts f b to i at p.place p.part p.found in
              reached_by (placed f to.block) (to.offset + at) p.place (moved_part to.offset p.part) parts.0

  all_show_too : (begun : ℕ) (ms ns : Naming) → NamingMoved place sizes ms ns → (vs ws : List Value) →
      AllMoved place vs ws → can_show_all (parts_at layout begun) ns ws ≡ true →
      can_show_all (parts_at placed begun) ms vs ≡ true
  all_show_too begun ms ns e [] [] s h = refl
  all_show_too begun ms ns e [] (w ∷ ws) s h = absurd s
  all_show_too begun ms ns e (v ∷ vs) [] s h = absurd s
  all_show_too begun ms ns e (v ∷ vs) (w ∷ ws) s h = by (λ g. all_show_too begun ms ns e vs ws s.1 g)
      (λ g. shows_too begun ms ns e v w s.0 g) (can_show (parts_at layout begun) ns w) refl h
    where
      by : (can_show_all (parts_at layout begun) ns ws ≡ true → can_show_all (parts_at placed begun) ms vs ≡ true) →
          (can_show (parts_at layout begun) ns w ≡ true → can_show (parts_at placed begun) ms v ≡ true) → (t : Bool) →
          can_show (parts_at layout begun) ns w ≡ t → (if t then can_show_all (parts_at layout begun) ns ws else false)
          ≡ true → (if can_show (parts_at placed begun) ms v then can_show_all (parts_at placed begun) ms vs else false)
          ≡ true
      by rest first true i j = ap (λ (t : Bool). if t then can_show_all (parts_at placed begun) ms vs else false)
          (first i) ∙ rest j
      by rest first false i j = absurd (cc j)

  -- What crosses.

  crosses_moved : (p q : Past) (h k : Holding) → AlikeMoved place sizes p h q k → (vs ws : List Value) →
      AllMoved place vs ws → (names : Names) (ns : Naming) → named_as layout ws q k names ≡ Some ns → (ms : Naming)
      × (named_as placed vs p h names ≡ Some ms) × AlikeMoved place sizes (with_naming p ms) h (with_naming q ns) k
  crosses_moved p q h k a vs ws s names ns e = named (all_named_by (parts_at layout q.begun) q.naming ws names.values)
      refl e
    where
      shown : (ms ns' : Naming) → NamingMoved place sizes ms ns' →
          all_named_by (parts_at placed p.begun) p.naming vs names.values ≡ Some ms → (u : Bool) →
          same_objects (objects_of k.memory ns') names.objects ≡ u → if_shown u ns' ≡ Some ns → (ms : Naming)
          × (named_as placed vs p h names ≡ Some ms) × AlikeMoved place sizes (with_naming p ms) h (with_naming q ns) k
      shown ms ns' moves found false i j = absurd (cc j)
      shown ms ns' moves found true i j =
          let same : ns' ≡ ns = cc j in
          let objects = all_shown_same target source made place sizes placed layout is h.memory k.memory a.memory ms ns'
          moves in (
            ms,
            ap (λ (o : Option Naming). and_then o (λ v. if_shown (same_objects (objects_of h.memory v) names.objects)
                v)) found
                ∙ ap (λ os. if_shown (same_objects os names.objects) ms) objects ∙ ap (λ u. if_shown u ms) i,
            record {
              begun = a.begun;
              share = a.share;
              memory = a.memory;
              naming = subst
                  (λ v. NamingMoved place sizes ms v) same moves;
            },
          )

      named : (o : Option Naming) → all_named_by (parts_at layout q.begun) q.naming ws names.values ≡ o →
          and_then o (λ v. if_shown (same_objects (objects_of k.memory v) names.objects) v) ≡ Some ns → (ms : Naming)
          × (named_as placed vs p h names ≡ Some ms) × AlikeMoved place sizes (with_naming p ms) h (with_naming q ns) k
      named None i j = absurd (cc j)
      named (Some ns') i j =
          let m = all_names_too target source made place sizes placed layout is q.begun vs ws s p.naming q.naming
          a.naming names.values ns' i in
          shown m.0 ns' m.2 (subst (λ n. all_named_by (parts_at placed n) p.naming vs names.values ≡ Some m.0)
          (sym a.begun) m.1) (same_objects (objects_of k.memory ns') names.objects) refl j

module _ {F A G B : Type 0} (target : Activations F A) (source : Activations G B) (setting : Setting) (placed : Layout)
    (ts : List F) (ss : List G) (made : F → G → Type 0) (place : Placing) (sizes : NameBytes → ℕ → ℕ)
    (match : F → G → ℕ → Position A → Position B → Type 0)
    (is : IsPlacing target source made (record { place = place; sizes = sizes }) placed setting.layout) where
  abbrev R : Relation F A G B
  R = record {
    target = target;
    source = source;
    setting = setting;
    placed = placed;
    targets = ts;
    sources = ss;
    by =
        moved_matches place sizes made match;
  }

  pub to_moved : (vs ws : List Value) → AllMatch R vs ws → AllMoved place vs ws
  to_moved [] [] h = tt
  to_moved [] (w ∷ ws) h = absurd h
  to_moved (v ∷ vs) [] h = absurd h
  to_moved (v ∷ vs) (w ∷ ws) h = (h.0, to_moved vs ws h.1)

  pub from_moved : (vs ws : List Value) → AllMoved place vs ws → AllMatch R vs ws
  from_moved [] [] h = tt
  from_moved [] (w ∷ ws) h = absurd h
  from_moved (v ∷ vs) [] h = absurd h
  from_moved (v ∷ vs) (w ∷ ws) h = (h.0, from_moved vs ws h.1)

  same_if : (o o' : Option (List Value)) → AllTakenToo target source made place sizes placed setting.layout is o o' →
      MatchIf R o o'
  same_if None None h = tt
  same_if (Some vs) None h = tt
  same_if None (Some ws) h = absurd h
  same_if (Some vs) (Some ws) h = from_moved vs ws h

  -- the outside changes no block that the target doesn't have
  not_named : (m : Named) (home : Home) (part : Part) → NamedMoved place sizes m home part → (f : NameBytes) (a b : ℕ) →
      place f b ≡ None → Own f a b ≡ home → ⊥
  not_named m (Theirs k) part e f a b none same = cc same
  not_named m (Own g c d) part e f a b none same =
      let names : f ≡ g = cc same in
      let blocks : b ≡ d = cc same in
      let there : place f b ≡ Some e.0 = subst (λ v. place v b ≡ Some e.0) (sym names)
      (subst (λ v. place g v ≡ Some e.0) (sym blocks) e.1) in
      cc (none, there)

  unplaced_stay : (os : List Object) (s : Memory) (ms ns : Naming) → NamingMoved place sizes ms ns →
      (k : ℕ) (f : NameBytes) (a b : ℕ) → place f b ≡ None → (brought s ns k os).memory (Own f a b) ≡ s (Own f a b)
  unplaced_stay [] s ms ns e k f a b none = refl
  unplaced_stay (o ∷ os) s [] [] e k f a b none = unplaced_stay os
      (with_block s (Theirs k) (new_block o.size o.contents)) [] [] tt (k + 1) f a b none
      ∙ with_elsewhere s (Theirs k) (Own f a b) (new_block o.size o.contents) (λ same. cc same)
  unplaced_stay (o ∷ os) s [] (n ∷ ns) e k f a b none = absurd e
  unplaced_stay (o ∷ os) s (m ∷ ms) [] e k f a b none = absurd e
  unplaced_stay (o ∷ os) s (m ∷ ms) (n ∷ ns) e k f a b none =
      unplaced_stay os (with_block s n.home (left_in n (s n.home) o.contents)) ms ns e.1 (k + 1) f a b none
      ∙ with_elsewhere s n.home (Own f a b) (left_in n (s n.home) o.contents)
      (λ same. not_named m n.home n.part e.0 f a b none same)

  with_memory : (p q : Past) (h k h' k' : Holding) → AlikeMoved place sizes p h q k → h'.share ≡ k'.share →
      MemoryMoved place sizes h'.memory k'.memory → AlikeMoved place sizes p h' q k'
  with_memory p q h k h' k' a share memory =
      record { begun = a.begun; share = share; memory = memory; naming = a.naming }

  pub moved_keeps : Keeps R
  moved_keeps = record {
    names = λ f g m. is.names f g m;
    numbers = λ w word. refl;
    is_frame = record {
      at_once = λ n h k f a b less none. refl;
      then_later = λ n h k h' k' h'' k'' l m f a b less none. m f a b less none ∙ l f a b less none;
      fewer = λ m n h k h' k' le l f a b less none. l f a b (omega (arith, le, less)) none;
    };
    is_match = record {
      first = record {
        begun = refl;
        share = refl;
        memory =
            record { own = λ f a b to e. refl; theirs = λ k. tt; have_sizes = λ f a b ws e. absurd (cc e) };
        naming =
            tt;
      };
      matches = λ p q h k a. record { begun = a.begun; share = a.share; naming = a.naming };
      begun = λ p q h k a. a.begun;
      shares = λ p q h k a. a.share;
    };
    steps = record {
      locks = λ m a lock words g. record {
        match_memory =
            record { begun = a.begun; share = ap (λ v. with_lock v lock words) a.share; naming = a.naming };
        frame =
            λ f a b less none. refl;
      };
      unlocks =
          λ m a lock. record {
            match_memory = record { begun = a.begun; share = ap (λ v. without_lock v lock) a.share; naming = a.naming };
            frame = λ f a b less none. refl;
          };
      begins = λ f g m p q h k a. record {
        match_memory = record { begun = ap (λ n. n + 1) a.begun; share = a.share; naming = a.naming };
        frame = λ f' a' b' less none. other_home target source made place sizes placed setting.layout is
            (fresh source.first_word) k.memory (source.name g) q.begun (source.blocks g) f' a'
            (λ d b'' e. let same : a' ≡ q.begun = cc e in let begun = a.begun in omega (arith, same, begun, less)) b';
      };
      ends = λ m so a. record {
        settled = with_memory m.t_past m.s_past m.t_holding m.s_holding
            (without_own target m.t_function m.serial m.t_holding)
            (without_own source m.s_function m.serial m.s_holding) a a.share
            (blocks_moved target source made place sizes placed setting.layout is gone end m.t_function m.s_function so
            m.serial m.serial refl m.t_holding.memory m.s_holding.memory a.memory);
        frame = λ f' a' b' less none. other_home target source made place sizes placed setting.layout is gone
            m.s_holding.memory (source.name m.s_function) m.serial (source.blocks m.s_function) f' a'
            (λ d b'' e. let same : a' ≡ m.serial = cc e in omega (arith, same, less)) b';
      };
    };
    crossings = record {
      shows = λ p q h k a vs ws s e. subst (λ n. can_show_all (parts_at placed n) p.naming vs ≡ true) (sym a.begun)
          (all_show_too target source made place sizes placed setting.layout is q.begun p.naming q.naming a.naming vs ws
          (to_moved vs ws s) e);
      crosses = λ p q h k a vs ws s names ns e. crosses_moved target source made place sizes placed setting.layout is p
          q h k a vs ws (to_moved vs ws s) names ns e;
      receives = λ n p q h k a types crossing brings typed.
          let both = left target source made place sizes placed setting.layout is crossing.objects h.memory k.memory
          a.memory p.naming q.naming a.naming 0 in (
            record { begun = a.begun; share = refl; memory = both.memory; naming = both.naming },
            λ f a' b less none. unplaced_stay crossing.objects k.memory p.naming q.naming a.naming 0 f a' b none,
            same_if (all_taken (brought_in R p h crossing).naming crossing.values)
                (all_taken (brought_in R q k crossing).naming crossing.values)
                (all_taken_too target source made place sizes placed setting.layout is
                (brought_in R p h crossing).naming (brought_in R q k crossing).naming both.naming crossing.values),
          );
    };
  }

  -- memories stay moved where activations begin, if blocks begin alike
  pub moved_begin : target.first_word ≡ source.first_word → SameMoved place source.first_word source.first_word →
      (f : F) (g : G) → made f g → (n : ℕ) (t s : Memory) → MemoryMoved place sizes t s →
      MemoryMoved place sizes (with_blocks_of target f n t) (with_blocks_of source g n s)
  moved_begin first_words first_same f g m n t s a =
      subst (λ v. MemoryMoved place sizes (set_blocks (fresh v) t (target.name f) n 0 (target.blocks f))
      (set_blocks (fresh source.first_word) s (source.name g) n 0 (source.blocks g))) (sym first_words)
      (blocks_moved target source made place sizes placed setting.layout is (fresh source.first_word)
      (begin first_same) f g m n n refl t s a)

  -- Loads and stores.

  abbrev AnySize : ℕ → ℕ → Type 0
  AnySize n m = Unit {0}

  load_own : (t s : Memory) → MemoryMoved place sizes t s → (f : NameBytes) (a b at : ℕ) (to : Spot) →
      place f b ≡ Some to → (w : Value) → (x y : Option (List Value)) → BlockMoved place to.offset x y →
      value_in y at ≡ Some w → (v : Value) × (value_in x (to.offset + at) ≡ Some v) × SameMoved place v w
  load_own t s h f a b at to e w x None m g = absurd (cc g)
  load_own t s h f a b at to e w None (Some ws) m g = absurd m
  load_own t s h f a b at to e w (Some vs) (Some ws) m g = m at w g

  load_theirs : (at : ℕ) (w : Value) (x y : Option (List Value)) → ObjectMoved place x y → value_in y at ≡ Some w →
      (v : Value) × (value_in x at ≡ Some v) × SameMoved place v w
  load_theirs at w None None m g = absurd (cc g)
  load_theirs at w None (Some ws) m g = absurd m
  load_theirs at w (Some vs) None m g = absurd m
  load_theirs at w (Some vs) (Some ws) m g = all_moved_get place vs ws m at w g

  loads_moved : (t s : Memory) → MemoryMoved place sizes t s → (home home' : Home) (at at' : ℕ) →
      SameMoved place (Pointer home at) (Pointer home' at') → (w : Value) → value_in (s home') at' ≡ Some w →
      (v : Value) × (value_in (t home) at ≡ Some v) × SameMoved place v w
  loads_moved t s h home (Theirs k) at at' p w g =
      let homes : Theirs k ≡ home = cc p in
      let places : at' ≡ at = cc p in
      subst (λ v. (u : Value) × (value_in (t v) at ≡ Some u) × SameMoved place u w) homes
      (subst (λ n. (u : Value) × (value_in (t (Theirs k)) n ≡ Some u) × SameMoved place u w) places
      (load_theirs at' w (t (Theirs k)) (s (Theirs k)) (h.theirs k) g))
  loads_moved t s h home (Own f a b) at at' p w g = by (place f b) refl p
    where
      by : (o : Option Spot) → place f b ≡ o → pointer_in f a o at' ≡ Some (Pointer home at) → (u : Value)
          × (value_in (t home) at ≡ Some u) × SameMoved place u w
      by None i j = absurd (cc j)
      by (Some to) i j =
          let homes : Own f a to.block ≡ home = cc j in
          let places : to.offset + at' ≡ at = cc j in
          subst (λ v. (u : Value) × (value_in (t v) at ≡ Some u) × SameMoved place u w) homes
          (subst (λ n. (u : Value) × (value_in (t (Own f a to.block)) n ≡ Some u) × SameMoved place u w) places
          (load_own t s h f a b at' to i w (t (Own f a to.block)) (s (Own f a b)) (h.own f a b to i) g))

  set_moved : (vs ws : List Value) → AllMoved place vs ws → (at : ℕ) (v w : Value) → SameMoved place v w →
      AllMoved place (slice_set vs at v) (slice_set ws at w)
  set_moved [] [] h at v w s = tt
  set_moved [] (y ∷ ws) h at v w s = absurd h
  set_moved (x ∷ vs) [] h at v w s = absurd h
  set_moved (x ∷ vs) (y ∷ ws) h zero v w s = (s, h.1)
  set_moved (x ∷ vs) (y ∷ ws) h (suc at) v w s = (h.0, set_moved vs ws h.1 at v w s)

  store_theirs : (t s : Memory) → MemoryMoved place sizes t s → (k at : ℕ) (v w : Value) → SameMoved place v w →
      (ws : List Value) → (x y : Option (List Value)) → t (Theirs k) ≡ x → y ≡ Some ws → ObjectMoved place x y →
      at < length ws → Stored (MemoryMoved place sizes) t s (store (Theirs k) at v) (store (Theirs k) at w) ws
  store_theirs t s h k at v w same ws None None i j m less = absurd (cc j)
  store_theirs t s h k at v w same ws None (Some us) i j m less = absurd m
  store_theirs t s h k at v w same ws (Some vs) None i j m less = absurd m
  store_theirs t s h k at v w same ws (Some vs) (Some us) i j m less =
      let words : us ≡ ws = cc j in
      let moves : AllMoved place vs ws = subst (λ u. AllMoved place vs u) words m in
      let count = all_moved_length place vs ws moves in
      record {
        block = vs;
        there = i;
        within = omega (arith, count, less);
        after =
            theirs_block target source made place sizes placed setting.layout is t s k _ _ h
            (set_moved vs ws moves at v w same);
      }

  set_cells : (offset : ℕ) (vs ws : List Value) → CellsMoved place offset vs ws → (at : ℕ) (v w : Value) →
      SameMoved place v w → at < length ws → CellsMoved place offset (slice_set vs (offset + at) v) (slice_set ws at w)
  set_cells offset vs ws m at v w same less i u e = by (nat_eq at i) refl
    where
      at_less : offset + at < length vs
      at_less = let old = get_inside ws at less in let there =
          m at old.0 old.1 in slice_get_within vs (offset + at) there.0 there.1

      by : (t : Bool) → nat_eq at i ≡ t → (x : Value) × (slice_get (slice_set vs (offset + at) v) (offset + i) ≡ Some x)
          × SameMoved place x u
      by true j =
          let here : at ≡ i = eqb-true at i j in
          let stored : slice_get (slice_set ws at w) i ≡ Some w =
          subst (λ n. slice_get (slice_set ws at w) n ≡ Some w) here (set_same ws at w less) in
          let words : w ≡ u = cc (stored, e) in (
            v,
            subst (λ n. slice_get (slice_set vs (offset + at) v) (offset + n) ≡ Some v) here
                (set_same vs (offset + at) v at_less),
            subst (λ x. SameMoved place v x) words same,
          )
      by false j =
          let differ : at ≡ i → ⊥ = λ f. let yes : nat_eq at i ≡ true =
          subst (λ n. nat_eq at n ≡ true) f (eq_self at) in cc (yes, j) in
          let old : slice_get ws i ≡ Some u = sym (set_other ws at i w differ) ∙ e in
          let was = m i u old in
          (was.0, set_other vs (offset + at) (offset + i) v (λ f. differ (omega (arith, f))) ∙ was.1, was.2)

  store_own : (t s : Memory) → MemoryMoved place sizes t s → (f : NameBytes) (a b at : ℕ) (to : Spot) →
      place f b ≡ Some to → (v w : Value) → SameMoved place v w → (ws : List Value) → s (Own f a b) ≡ Some ws →
      at < length ws → (x : Option (List Value)) → t (Own f a to.block) ≡ x → BlockMoved place to.offset x (Some ws) →
      Stored (MemoryMoved place sizes) t s (store (Own f a to.block) (to.offset + at) v) (store (Own f a b) at w) ws
  store_own t s h f a b at to e v w same ws g less None i m = absurd m
  store_own t s h f a b at to e v w same ws g less (Some vs) i m =
      let old = get_inside ws at less in
      let there = m at old.0 old.1 in
      record {
        block = vs;
        there = i;
        within = slice_get_within vs (to.offset + at) there.0 there.1;
        after = own_block target source made place sizes placed setting.layout is t s f a b to vs ws
            (slice_set vs (to.offset + at) v) (slice_set ws at w) h (record {
              placed_there = e;
              target_old = i;
              source_old = g;
              same_length = set_length ws at w;
              cells_there = set_cells to.offset vs ws m at v w same less;
              others = λ j out. set_other vs (to.offset + at) j v
                  (λ f. ⊎_elim (λ u. omega (arith, u, f)) (λ u. omega (arith, u, f, less)) out);
            });
      }

  stores_moved : (t s : Memory) → MemoryMoved place sizes t s → (home home' : Home) (at at' : ℕ) →
      SameMoved place (Pointer home at) (Pointer home' at') → (v w : Value) → SameMoved place v w → (ws : List Value) →
      s home' ≡ Some ws → at' < length ws → Stored (MemoryMoved place sizes) t s (store home at v) (store home' at' w)
      ws
  stores_moved t s h home (Theirs k) at at' p v w same ws g less =
      let homes : Theirs k ≡ home = cc p in
      let places : at' ≡ at = cc p in
      subst (λ u. Stored (MemoryMoved place sizes) t s (store u at v) (store (Theirs k) at' w) ws) homes
      (subst (λ n. Stored (MemoryMoved place sizes) t s (store (Theirs k) n v) (store (Theirs k) at' w) ws) places
      (store_theirs t s h k at' v w same ws (t (Theirs k)) (s (Theirs k)) refl g (h.theirs k) less))
  stores_moved t s h home (Own f a b) at at' p v w same ws g less = by (place f b) refl p
    where
      by : (o : Option Spot) → place f b ≡ o → pointer_in f a o at' ≡ Some (Pointer home at) →
          Stored (MemoryMoved place sizes) t s (store home at v) (store (Own f a b) at' w) ws
      by None i j = absurd (cc j)
      by (Some to) i j =
          let homes : Own f a to.block ≡ home = cc j in
          let places : to.offset + at' ≡ at = cc j in
          let there : BlockMoved place to.offset (t (Own f a to.block)) (Some ws) =
          subst (λ o. BlockMoved place to.offset (t (Own f a to.block)) o) g (h.own f a b to i) in
          subst (λ u. Stored (MemoryMoved place sizes) t s (store u at v) (store (Own f a b) at' w) ws) homes
          (subst (λ n. Stored (MemoryMoved place sizes) t s (store (Own f a to.block) n v) (store (Own f a b) at' w) ws)
          places
          (store_own t s h f a b at' to i v w same ws g less (t (Own f a to.block)) refl there))

  own_lengths : (offset : ℕ) (x y : Option (List Value)) → BlockMoved place offset x y →
      LengthsAlike AnySize (length_of x) (length_of y)
  own_lengths offset None None m = tt
  own_lengths offset (Some vs) None m = absurd (cc m)
  own_lengths offset None (Some ws) m = absurd m
  own_lengths offset (Some vs) (Some ws) m = tt

  theirs_lengths : (x y : Option (List Value)) → ObjectMoved place x y →
      LengthsAlike AnySize (length_of x) (length_of y)
  theirs_lengths None None m = tt
  theirs_lengths (Some vs) None m = absurd m
  theirs_lengths None (Some ws) m = absurd m
  theirs_lengths (Some vs) (Some ws) m = tt

  lengths_moved : (t s : Memory) → MemoryMoved place sizes t s → (home home' : Home) (at at' : ℕ) →
      SameMoved place (Pointer home at) (Pointer home' at') →
      LengthsAlike AnySize (length_of (t home)) (length_of (s home'))
  lengths_moved t s h home (Theirs k) at at' p =
      let homes : Theirs k ≡ home = cc p in
      subst (λ v. LengthsAlike AnySize (length_of (t v)) (length_of (s (Theirs k)))) homes
      (theirs_lengths (t (Theirs k)) (s (Theirs k)) (h.theirs k))
  lengths_moved t s h home (Own f a b) at at' p = by (place f b) refl p
    where
      by : (o : Option Spot) → place f b ≡ o → pointer_in f a o at' ≡ Some (Pointer home at) →
          LengthsAlike AnySize (length_of (t home)) (length_of (s (Own f a b)))
      by None i j = absurd (cc j)
      by (Some to) i j =
          let homes : Own f a to.block ≡ home = cc j in
          subst (λ v. LengthsAlike AnySize (length_of (t v)) (length_of (s (Own f a b)))) homes
          (own_lengths to.offset (t (Own f a to.block)) (s (Own f a b)) (h.own f a b to i))

  -- a pointer to what the target has is to no other block
  placed_elsewhere : (home home' : Home) (at at' : ℕ) → SameMoved place (Pointer home at) (Pointer home' at') →
      (f : NameBytes) (a b : ℕ) → place f b ≡ None → Own f a b ≡ home' → ⊥
  placed_elsewhere home (Theirs k) at at' p f a b none same = cc same
  placed_elsewhere home (Own g c d) at at' p f a b none same =
      let names : f ≡ g = cc same in
      let blocks : b ≡ d = cc same in
      let nowhere : place g d ≡ None = subst (λ v. place v d ≡ None) names (subst (λ v. place f v ≡ None) blocks none)
      in
      let gone : None ≡ Some (Pointer home at) = subst (λ o. pointer_in g c o at' ≡ Some (Pointer home at)) nowhere p in
      cc gone

  -- loads and stores keep the memories moved
  pub memory_moved : MemoryKeeps (SameMoved place) AnySize (MemoryMoved place sizes)
  memory_moved = record {
    loads = λ t s a home home' at at' p w g. loads_moved t s a home home' at at' p w g;
    stores = λ t s a home home' at at' p v w same ws g less. stores_moved t s a home home' at at' p v w same ws g less;
    lengths = λ t s a home home' at at' p. lengths_moved t s a home home' at at' p;
  }

  -- and the blocks that the target doesn't have as they were
  pub stores_placed : (n : ℕ) (s : Memory) (home home' : Home) (at at' : ℕ) (v : Value) →
      SameMoved place (Pointer home at) (Pointer home' at') → KeepsUnplaced place n s (stored_at s home' at' v)
  stores_placed n s home home' at at' v p f c b less none =
      with_elsewhere s home' (Own f c b) (set_in (s home') at' v) (placed_elsewhere home home' at at' p f c b none)

-- what threads hold matches by the shares alone, and is settled where memories are moved
pub moved_holds : {F A G B : Type 0} (target : Activations F A) (source : Activations G B) (setting : Setting)
    (placed : Layout) (ts : List F) (ss : List G) (made : F → G → Type 0) (place : Placing) (sizes : NameBytes → ℕ → ℕ)
    (match : F → G → ℕ → Position A → Position B → Type 0)
    (match_states : Activation F G → A → Memory → B → Memory → Type 0) →
    HoldsBy (record {
      target = target;
      source = source;
      setting = setting;
      placed = placed;
      targets = ts;
      sources =
          ss;
      by = moved_matches place sizes made match;
    }) (moving place sizes match_states)
moved_holds target source setting placed ts ss made place sizes match match_states = record {
  words = λ p q h k a. all_self (SameMoved place) (λ w. refl) k.share;
  again = λ p q h k h' k' a share words. record { begun = a.begun; share = share; naming = a.naming };
  settles = λ p q h k a memory. record { begun = a.begun; share = a.share; memory = memory; naming = a.naming };
  memories = λ p q h k a. a.memory;
  frame = λ n h k h' k' tk sk. sk;
  frames = λ n h k h' k' l. (tt, l);
  conditions = (
    record { itself = λ n m. tt; then = λ n m m' m'' a b. tt },
    record {
      itself = λ n m f c b less none. refl;
      then = λ n m m' m'' x y f c b less none. y f c b less none
          ∙ x f c b less none;
    },
  );
}

-- A pass that puts blocks elsewhere, by what it names and shows.
module _ {F A G B : Type 0} (p : Moved F A G B) (is : IsMoved p) where
  so_from : (edge : Edge) (ts : List F) (ss : List G) → AllMade (MadeAt edge p.made) ts ss →
      AllMade (MadeSo p.made) ts ss
  so_from edge [] [] h = tt
  so_from edge [] (g ∷ gs) h = absurd h
  so_from edge (f ∷ fs) [] h = absurd h
  so_from edge (f ∷ fs) (g ∷ gs) h = let at = h.0 in ((at.decls, at.is_made), so_from edge fs gs h.1)

  pub moved_is : IsMatching (moved_blocks p)
  moved_is = record {
    names = is.names;
    laid_out_too = is.laid_out_too;
    passes = λ setting decls ts ss run.
        let made = MadeOf (moved_blocks p) setting ts ss in
        let R0 = bare p setting ts ss made in
        let w = places p setting ts ss in
        let placed = p.naming ss setting.layout in
        let keeps = moved_keeps p.target p.source setting placed ts ss made (p.place ss) (p.sizes ss) (Midway R0 w)
        (is.is_placing setting decls ts ss run) in
        record {
          keeps = keeps;
          pays = record { prices = is.prices; waits = is.waits ts ss (so_from setting.edge ts ss run.all) };
          passes = held_passes R0 w (moved_holds p.target p.source setting placed ts ss made (p.place ss) (p.sizes ss)
              (λ f g n x y. Unit {0}) (p.match_states setting ts ss)) (λ x. step_least p.target.tariff ts x is.prices)
              (is.steps setting decls ts ss run) keeps run.edge_is;
        };
  }
