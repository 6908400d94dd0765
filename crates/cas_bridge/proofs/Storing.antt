-- Stores and writes keep both memories, and the share and the words, alike.
use Rattle.std.proofs.Common.{◌≡◌, ℕ, zero, suc, ◌+◌, ◌<◌, ◌≤◌, List, [], ◌∷◌, ◌⊎◌, inl, inr, ⊎_elim, Option, Some, None, Bool, true, false, if◌then◌else◌, ◌&&◌, length, slice_get, slice_set, nat_eq, refl, sym, ap, ◌∙◌, subst, lt-ltb, eqb-true, arith}
use Rattle.std.specs.Prelude.{slice_index_or}
use Rattle.std.proofs.lemmas.Bool.Decides.{nat_tests}
use Rattle.cas_base.specs.declared.kind.Kind.{Kind}
use Rattle.cas_step.specs.Asks as asks
use Rattle.cas_step.specs.Step as step
use Rattle.cas_step.specs.Step.{locals_at, cells_at, memory_with}
use Rattle.cas_runs.specs.Label.{Share, same_name}
use Rattle.cas_runs.specs.Edge.{Edge, Cell, SharedWord, TableWord}
use Rattle.cas_runs.specs.Naming.{Home, Value, Memory, with_block, same_home}
use Rattle.cas_runs.specs.Machine.{Footprint}
use Rattle.cas_runs.specs.Access.{Accesses, words_in, with_words, is_guarded_by, place_among, Doing, Performed, performed, stores_in, failed}
use Rattle.cas_runs.proofs.Cells.{set_same, set_other}
use Rattle.cas_runs.proofs.Tests.{eq_self, same_name_self}
use Rattle.cas_clight.specs.Clight as clight
use Rattle.cas_clight.specs.Clight.{ClightFun, Passed, own_home, storing}
use Rattle.cas_runs.specs.Held.{HasRoom, set_in, stored_at}
use Rattle.cas_bridge.specs.Matching.{home_of, points, ObjectsMatch, CellMatches, CellsMatch, BlocksMatch, MemoryMatches, WordsMatch, DifferUnder}
use Rattle.cas_bridge.specs.Steps.{with_passed, HaveRoomFor}
use Rattle.cas_runs.proofs.Fronting.{so}

-- two objects are the same in both, or in neither
pub same_alike : (owner : ℕ → ClightFun) (a b : step.Object) (a' b' : clight.Object) → ObjectsMatch owner a a' →
    ObjectsMatch owner b b' →
    clight.same_object a' b' ≡ step.same_object a b
same_alike owner a b a' b' h k = ap (λ x. same_home x b'.home) h.home ∙ ap (λ x. same_home (home_of owner a) x) k.home
    ∙ by (nat_eq a.serial b.serial) refl
  where
    by : (t : Bool) → nat_eq a.serial b.serial ≡ t →
        same_name (owner a.serial).decl.name (owner b.serial).decl.name && nat_eq a.serial b.serial && nat_eq a.local
        b.local ≡ nat_eq a.serial b.serial && nat_eq a.local b.local
    by false e =
        ap (λ t. same_name (owner a.serial).decl.name (owner b.serial).decl.name && t && nat_eq a.local b.local) e
        ∙ neither (same_name (owner a.serial).decl.name (owner b.serial).decl.name)
        ∙ ap (λ t. t && nat_eq a.local b.local) (sym e)
      where
        neither : (t : Bool) → t && false && nat_eq a.local b.local ≡ false && nat_eq a.local b.local
        neither true = refl
        neither false = refl
    by true e =
        let serials : a.serial ≡ b.serial = eqb-true a.serial b.serial e in
        let names : same_name (owner a.serial).decl.name (owner b.serial).decl.name ≡ true =
        ap (λ n. same_name (owner a.serial).decl.name (owner n).decl.name) (sym serials)
        ∙ same_name_self (owner a.serial).decl.name in
        ap (λ t. t && nat_eq a.serial b.serial && nat_eq a.local b.local) names

-- a store where there is room
pub stored_there : {L : Type 0} (share : Share) (m : Memory) (foot : Footprint) (home : Home) (at : ℕ) (v : Value)
    (go : Doing → Performed L) → HasRoom m home at → stores_in (m home) home at v (so share m foot) go ≡ go
    (so share (stored_at m home at v) foot)
stored_there share m foot home at v go room =
    ap (λ (o : Option (List Value)). stores_in o home at v (so share m foot) go) room.there
    ∙ ap (λ (b : Bool). if b then go (so share (with_block m home (Some (slice_set room.block at v))) foot) else failed
    (so share m foot)) (lt-ltb at (length room.block) room.within)
    ∙ ap (λ (o : Option (List Value)). go (so share (with_block m home (set_in o at v)) foot)) (sym room.there)

-- what was passed over is stored
pub passed_stored : {L : Type 0} (edge : Edge) (f : ClightFun) (serial : ℕ) (hs : List Passed) (rest : Accesses L)
    (share : Share) (m : Memory) (foot : Footprint) → HaveRoomFor f serial m hs →
    performed edge (storing f serial hs rest) (so share m foot) ≡ performed edge rest
    (so share (with_passed f serial m hs) foot)
passed_stored edge f serial [] rest share m foot room = refl
passed_stored edge f serial (h ∷ hs) rest share m foot room =
    stored_there share m foot (own_home f serial h.local) 0 h.value (λ e. performed edge (storing f serial hs rest) e)
    room.0 ∙ passed_stored edge f serial hs rest share (stored_at m (own_home f serial h.local) 0 h.value) foot room.1

abbrev V : Type 0
V = asks.Value step.Object

-- cells with a value at a place
abbrev pub set_cells : Option (List V) → ℕ → V → Option (List V)
set_cells None i v = None
set_cells (Some cells) i v = Some (slice_set cells i v)

neither : (t : Bool) (i : ℕ) (v : V) → None ≡ (if t then set_cells None i v else None)
neither true i v = refl
neither false i v = refl

local_set : (locals : List (List V)) (n m i : ℕ) (v : V) →
    slice_get (slice_set locals n (slice_set (slice_index_or locals n []) i v)) m ≡
    (if nat_eq n m then set_cells (slice_get locals m) i v else slice_get locals m)
local_set [] n m i v = neither (nat_eq n m) i v
local_set (x ∷ xs) zero zero i v = refl
local_set (x ∷ xs) zero (suc m) i v = let no : nat_eq 0 (suc m) ≡ false =
    grind (arith, nat_tests) in ap (λ (t : Bool). if t then set_cells (slice_get xs m) i v else slice_get xs m) (sym no)
local_set (x ∷ xs) (suc n) zero i v = let no : nat_eq (suc n) 0 ≡ false =
    grind (arith, nat_tests) in ap (λ (t : Bool). if t then set_cells (Some x) i v else Some x) (sym no)
local_set (x ∷ xs) (suc n) (suc m) i v = let same : nat_eq (suc n) (suc m) ≡ nat_eq n m =
    grind (arith, nat_tests) in local_set xs n m i v ∙ ap
    (λ (t : Bool). if t then set_cells (slice_get xs m) i v else slice_get xs m) (sym same)

pub stored_cells : (memory : List step.Block) (o q : step.Object) (i : ℕ) (v : V) →
    cells_at (memory_with memory o i v) q ≡ (if step.same_object o q then set_cells (cells_at memory q)
    i v else cells_at memory q)
stored_cells [] o q i v = neither (step.same_object o q) i v
stored_cells (b ∷ bs) o q i v = by (nat_eq b.serial o.serial) refl (nat_eq b.serial q.serial) refl
    (stored_cells bs o q i v)
  where
    Goal : Bool → Bool → Type 0
    Goal t u =
        step.local_at
        (locals_at (if t then record { serial = b.serial; locals = step.with_local b.locals o.local i v } ∷ bs else b ∷
        memory_with bs o i v) q.serial) q.local ≡ (if step.same_object o q then set_cells
        (step.local_at (if u then Some b.locals else locals_at bs q.serial) q.local) i v else step.local_at
        (if u then Some b.locals else locals_at bs q.serial) q.local)

    by : (t : Bool) → nat_eq b.serial o.serial ≡ t → (u : Bool) → nat_eq b.serial q.serial ≡ u →
        cells_at (memory_with bs o i v) q ≡ (if step.same_object o q then set_cells (cells_at bs q)
        i v else cells_at bs q) →
        step.local_at
        (locals_at (if t then record { serial = b.serial; locals = step.with_local b.locals o.local i v } ∷ bs else b ∷
        memory_with bs o i v) q.serial) q.local ≡ (if step.same_object o q then set_cells
        (step.local_at (if u then Some b.locals else locals_at bs q.serial) q.local) i v else step.local_at
        (if u then Some b.locals else locals_at bs q.serial) q.local)
    by true e true d rest =
        let same : nat_eq o.serial q.serial ≡ true = grind (arith, nat_tests, e, d) in
        ap (λ (x : Bool). step.local_at (if x then Some (step.with_local b.locals o.local i v)
        else locals_at bs q.serial) q.local) d ∙ local_set b.locals o.local q.local i v
        ∙ ap (λ (x : Bool). if x && nat_eq o.local q.local then set_cells (slice_get b.locals q.local)
        i v else slice_get b.locals q.local) (sym same)
    by true e false d rest =
        let differ : nat_eq o.serial q.serial ≡ false = grind (arith, nat_tests, e, d) in
        ap (λ (x : Bool). step.local_at (if x then Some (step.with_local b.locals o.local i v)
        else locals_at bs q.serial) q.local) d
        ∙ ap (λ (x : Bool). if x && nat_eq o.local q.local then set_cells (cells_at bs q) i v else cells_at bs q)
        (sym differ)
    by false e true d rest =
        let differ : nat_eq o.serial q.serial ≡ false = grind (arith, nat_tests, e, d) in
        ap (λ (x : Bool). step.local_at (if x then Some b.locals else locals_at (memory_with bs o i v) q.serial)
        q.local) d
        ∙ ap (λ (x : Bool). if x && nat_eq o.local q.local then set_cells (slice_get b.locals q.local)
        i v else slice_get b.locals q.local) (sym differ)
    by false e false d rest =
        ap (λ (x : Bool). step.local_at (if x then Some b.locals else locals_at (memory_with bs o i v) q.serial)
        q.local) d ∙ rest

module _ (owner : ℕ → ClightFun) where
  same_set : (b : Bool) (vs : List V) (xs : List Value) (v : V) (x : Value) (i : ℕ) → CellsMatch owner b vs xs →
      CellMatches owner b v x → CellsMatch owner b (slice_set vs i v) (slice_set xs i x)
  same_set b [] [] v x i h c = tt
  same_set b [] (y ∷ xs) v x i h c = absurd h
  same_set b (u ∷ vs) [] v x i h c = absurd h
  same_set b (u ∷ vs) (y ∷ xs) v x zero h c = (c, h.1)
  same_set b (u ∷ vs) (y ∷ xs) v x (suc i) h c = (h.0, same_set b vs xs v x i h.1 c)

  -- the memories after a store
  pub stored_same : (memory : List step.Block) (m : Memory) → MemoryMatches owner (cells_at memory) m →
      (o : step.Object) (vs : List V) (xs : List Value) → cells_at memory o ≡ Some vs → m (home_of owner o) ≡ Some xs →
      (i : ℕ) (v : V) (x : Value) → CellMatches owner (points owner o) v x →
      MemoryMatches owner (cells_at (memory_with memory o i v))
      (with_block m (home_of owner o) (Some (slice_set xs i x)))
  stored_same memory m same o vs xs is there i v x c q =
      subst (λ w. BlocksMatch owner (points owner q) w
      (with_block m (home_of owner o) (Some (slice_set xs i x)) (home_of owner q))) (sym (stored_cells memory o q i v))
      (subst (λ (t : Bool). BlocksMatch owner (points owner q)
      (if step.same_object o q then set_cells (cells_at memory q) i v else cells_at memory q)
      (if t then Some (slice_set xs i x) else m (home_of owner q))) (sym tests) (by (step.same_object o q) refl))
    where
      mirrored : (a b c d : ℕ) → nat_eq a b && nat_eq c d ≡ nat_eq b a && nat_eq d c
      mirrored a b c d = ap (λ t. t && nat_eq c d) (let e : nat_eq a b ≡ nat_eq b a = turned a b in e)
          ∙ ap (λ t. nat_eq b a && t) (turned c d)
        where
          turned : (a b : ℕ) → nat_eq a b ≡ nat_eq b a
          turned a b = grind (arith, nat_tests)

      tests : same_home (home_of owner q) (home_of owner o) ≡ step.same_object o q
      tests = same_alike owner q o (record { home = home_of owner q; has_pointer = points owner q })
          (record { home = home_of owner o; has_pointer = points owner o }) (record { home = refl; points = refl })
          (record { home = refl; points = refl }) ∙ mirrored q.serial o.serial q.local o.local

      stored_block : BlocksMatch owner (points owner o) (set_cells (cells_at memory o) i v) (Some (slice_set xs i x))
      stored_block =
          let old : BlocksMatch owner (points owner o) (Some vs) (Some xs) =
          subst (λ w. BlocksMatch owner (points owner o) w (Some xs)) is
          (subst (λ w. BlocksMatch owner (points owner o) (cells_at memory o) w) there (same o)) in
          subst (λ w. BlocksMatch owner (points owner o) (set_cells w i v) (Some (slice_set xs i x))) (sym is)
          (same_set (points owner o) vs xs v x i old c)

      by : (t : Bool) → step.same_object o q ≡ t → BlocksMatch owner (points owner q)
          (if t then set_cells (cells_at memory q) i v else cells_at memory q)
          (if t then Some (slice_set xs i x) else m (home_of owner q))
      by false e = same q
      by true e =
          let serials : o.serial ≡ q.serial = eqb-true o.serial q.serial
          (left (nat_eq o.serial q.serial) (nat_eq o.local q.local) e) in
          let locals : o.local ≡ q.local = eqb-true o.local q.local
          (right (nat_eq o.serial q.serial) (nat_eq o.local q.local) e) in
          let both : o ≡ q = ap (λ n. record { serial = n; local = o.local }) serials
          ∙ ap (λ n. record { serial = q.serial; local = n }) locals in
          subst (λ w. BlocksMatch owner (points owner w) (set_cells (cells_at memory w) i v) (Some (slice_set xs i x)))
          both stored_block
        where
          left : (a b : Bool) → a && b ≡ true → a ≡ true
          left true b h = refl
          left false b h = absurd (cc h)

          right : (a b : Bool) → a && b ≡ true → b ≡ true
          right true b h = h
          right false b h = absurd (cc h)

-- Words.

guarded_there : (lock : ℕ) (kind : Kind) (initial : ℕ) → is_guarded_by lock (SharedWord kind (Some lock) initial) ≡ true
guarded_there lock kind initial = eq_self lock

-- a guarded word has a smaller place than each later word
places_rise : (cells : List Cell) (lock a b : ℕ) (c : Cell) → slice_get cells a ≡ Some c → is_guarded_by lock c ≡ true →
    a < b → place_among cells lock a + 1 ≤ place_among cells lock b
places_rise [] lock a b c e g le = absurd (cc e)
places_rise (x ∷ xs) lock a zero c e g le = absurd (omega (arith, le))
places_rise (x ∷ xs) lock zero (suc b) c e g le =
    let same : x ≡ c = cc e in
    subst (λ (t : Bool). 0 + 1 ≤ (if t then place_among xs lock b + 1 else place_among xs lock b))
    (sym (ap (λ y. is_guarded_by lock y) same ∙ g)) (omega arith)
places_rise (x ∷ xs) lock (suc a) (suc b) c e g le = by (is_guarded_by lock x)
    (places_rise xs lock a b c e g (omega (arith, le)))
  where
    by : (t : Bool) → place_among xs lock a + 1 ≤ place_among xs lock b →
        (if t then place_among xs lock a + 1 else place_among xs lock a) + 1 ≤
        (if t then place_among xs lock b + 1 else place_among xs lock b)
    by true h = omega (arith, h)
    by false h = h

-- the words of a lock in a share with other words of one
words_with : (hs : Share) (lock : ℕ) (ws : List ℕ) (l : ℕ) (us : List ℕ) →
    words_in (with_words hs lock ws) l ≡ Some us → ((lock ≡ l) × (ws ≡ us))
    ⊎ ((lock ≡ l → ⊥) × (words_in hs l ≡ Some us))
words_with [] lock ws l us e = absurd (cc e)
words_with (h ∷ hs) lock ws l us e = by (nat_eq h.lock lock) refl e (λ i. words_with hs lock ws l us i)
  where
    later : (t : Bool) → nat_eq h.lock l ≡ t → nat_eq h.lock lock ≡ false →
        (if t then Some h.words else words_in (with_words hs lock ws) l) ≡ Some us →
        (words_in (with_words hs lock ws) l ≡ Some us → ((lock ≡ l) × (ws ≡ us))
        ⊎ ((lock ≡ l → ⊥) × (words_in hs l ≡ Some us))) → ((lock ≡ l) × (ws ≡ us))
        ⊎ ((lock ≡ l → ⊥) × ((if t then Some h.words else words_in hs l) ≡ Some us))
    later true d not i rest =
        inr (λ (s : lock ≡ l). (let u : nat_eq h.lock lock ≡ true = grind (arith, nat_tests, d, s) in cc (u, not)), i)
    later false d not i rest = rest i

    here : (t : Bool) → nat_eq lock l ≡ t → nat_eq h.lock lock ≡ true →
        (if t then Some ws else words_in hs l) ≡ Some us → ((lock ≡ l) × (ws ≡ us))
        ⊎ ((lock ≡ l → ⊥) × ((if nat_eq h.lock l then Some h.words else words_in hs l) ≡ Some us))
    here true d is i = inl (eqb-true lock l d, cc i)
    here false d is i =
        let other : nat_eq h.lock l ≡ false = grind (arith, nat_tests, d, is) in
        inr (
          λ (s : lock ≡ l). (let u : nat_eq lock l ≡ true = grind (arith, nat_tests, s) in cc (u, d)),
          subst
              (λ (t : Bool). (if t then Some h.words else words_in hs l) ≡ Some us) (sym other) i,
        )

    by : (t : Bool) → nat_eq h.lock lock ≡ t → words_in
        (if t then record { lock = lock; words = ws } ∷ hs else h ∷ with_words hs lock ws) l ≡ Some us →
        (words_in (with_words hs lock ws) l ≡ Some us → ((lock ≡ l) × (ws ≡ us))
        ⊎ ((lock ≡ l → ⊥) × (words_in hs l ≡ Some us))) → ((lock ≡ l) × (ws ≡ us))
        ⊎ ((lock ≡ l → ⊥) × ((if nat_eq h.lock l then Some h.words else words_in hs l) ≡ Some us))
    by true d i rest = here (nat_eq lock l) refl d (let same : h.lock ≡ lock = eqb-true h.lock lock d in i)
    by false d i rest = later (nat_eq h.lock l) refl d i rest

abbrev IsThere : List ℕ → ℕ → Type 0
IsThere ws n = n < length ws

-- a guarded word is written in the share and among all words
words_held : (cells : List Cell) (share : Share) (these : List ℕ) → WordsMatch cells share these →
    (lock : ℕ) (ws : List ℕ) → words_in share lock ≡ Some ws → (n : ℕ) (kind : Kind) (initial : ℕ) →
    slice_get cells n ≡ Some (SharedWord kind (Some lock) initial) → place_among cells lock n < length ws →
    n < length these → (v : ℕ) → (l : ℕ) (us : List ℕ) →
    words_in (with_words share lock (slice_set ws (place_among cells lock n) v)) l ≡ Some us →
    (n' initial' : ℕ) (kind' : Kind) → slice_get cells n' ≡ Some (SharedWord kind' (Some l) initial') →
    slice_get us (place_among cells l n') ≡ slice_get (slice_set these n v) n'
words_held cells share these old lock ws is n kind initial there room all v l us e n' initial' kind' g =
    ⊎_elim (λ h. ours h.0 h.1) (λ h. others h.0 h.1) (words_with share lock (slice_set ws (place_among cells lock n) v)
    l us e)
  where
    differs : (x y : ℕ) → (x ≡ y → ⊥) → (x < y) ⊎ (y < x)
    differs x y h = grind (arith, h)

    apart : (n ≡ n' → ⊥) → slice_get cells n' ≡ Some (SharedWord kind' (Some lock) initial') →
        place_among cells lock n ≡ place_among cells lock n' → ⊥
    apart h g' same = ⊎_elim
        (λ le. let r = places_rise cells lock n n' (SharedWord kind (Some lock) initial) there
        (guarded_there lock kind initial) le in omega (arith, r, same))
        (λ le. let r = places_rise cells lock n' n (SharedWord kind' (Some lock) initial') g'
        (guarded_there lock kind' initial') le in omega (arith, r, same)) (differs n n' h)

    in_ours : (t : Bool) → nat_eq n n' ≡ t → slice_get cells n' ≡ Some (SharedWord kind' (Some lock) initial') →
        slice_get (slice_set ws (place_among cells lock n) v) (place_among cells lock n') ≡ slice_get
        (slice_set these n v) n'
    in_ours true d g' =
        subst (λ x. slice_get (slice_set ws (place_among cells lock n) v) (place_among cells lock x) ≡ slice_get
        (slice_set these n v) x) (eqb-true n n' d) (set_same ws (place_among cells lock n) v room
        ∙ sym (set_same these n v all))
    in_ours false d g' =
        let no : n ≡ n' → ⊥ = λ s. (let t : nat_eq n n' ≡ true = grind (arith, nat_tests, s) in cc (t, d)) in
        set_other ws (place_among cells lock n) (place_among cells lock n') v (apart no g')
        ∙ old.held lock ws is n' initial' kind' g' ∙ sym (set_other these n n' v no)

    ours : lock ≡ l → slice_set ws (place_among cells lock n) v ≡ us →
        slice_get us (place_among cells l n') ≡ slice_get (slice_set these n v) n'
    ours s t = subst (λ (x : ℕ). slice_get us (place_among cells x n') ≡ slice_get (slice_set these n v) n') s
        (subst (λ x. slice_get x (place_among cells lock n') ≡ slice_get (slice_set these n v) n') t
        (in_ours (nat_eq n n') refl (subst (λ x. slice_get cells n' ≡ Some (SharedWord kind' (Some x) initial'))
        (sym s) g)))

    others : (lock ≡ l → ⊥) → words_in share l ≡ Some us →
        slice_get us (place_among cells l n') ≡ slice_get (slice_set these n v) n'
    others not i =
        let apart_words : n ≡ n' → ⊥ =
        λ s. (let both : slice_get cells n ≡ Some (SharedWord kind' (Some l) initial') = ap (λ x. slice_get cells x)
        s ∙ g in let same : lock ≡ l = cc (there, both) in not same) in
        old.held l us i n' initial' kind' g ∙ sym (set_other these n n' v apart_words)

pub written_words : (cells : List Cell) (share : Share) (these : List ℕ) → WordsMatch cells share these →
    (lock : ℕ) (ws : List ℕ) → words_in share lock ≡ Some ws → (n : ℕ) (kind : Kind) (initial : ℕ) →
    slice_get cells n ≡ Some (SharedWord kind (Some lock) initial) → place_among cells lock n < length ws →
    n < length these → (v : ℕ) →
    WordsMatch cells (with_words share lock (slice_set ws (place_among cells lock n) v)) (slice_set these n v)
written_words cells share these old lock ws is n kind initial there room all v = record {
  held = λ l us e n' initial' kind' g.
      words_held cells share these old lock ws is n kind initial there room all v l us e n' initial' kind' g;
  tables = λ n' value g.
      let apart : n ≡ n' → ⊥ =
      λ s. (let both : slice_get cells n ≡ Some (TableWord value) = ap (λ x. slice_get cells x) s ∙ g in
      let no : ⊥ = cc (there, both) in no) in
      set_other these n n' v apart ∙ old.tables n' value g;
}

-- and only that one differs
pub written_under : (cells : List Cell) (share : Share) (these : List ℕ) (n v lock : ℕ) (ws : List ℕ) (kind : Kind)
    (initial : ℕ) → slice_get cells n ≡ Some (SharedWord kind (Some lock) initial) → words_in share lock ≡ Some ws →
    DifferUnder cells share these (slice_set these n v)
written_under cells share these n v lock ws kind initial is held w = by (nat_eq n w) refl
  where
    by : (t : Bool) → nat_eq n w ≡ t → (slice_get (slice_set these n v) w ≡ slice_get these w) ⊎
        ((l i : ℕ) × (k : Kind) × (us : List ℕ) × (slice_get cells w ≡ Some (SharedWord k (Some l) i)) ×
        (words_in share l ≡ Some us))
    by true d =
        inr (
          lock,
          initial,
          kind,
          ws,
          subst (λ m. slice_get cells m ≡ Some (SharedWord kind (Some lock) initial))
              (eqb-true n w d) is,
          held,
        )
    by false d =
        inl (set_other these n w v (λ s. (let t : nat_eq n w ≡ true = grind (arith, nat_tests, s) in cc (t, d))))
