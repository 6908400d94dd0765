-- What a call and a return do to both memories: what is passed over stands for what the other stores at once.
use Rattle.std.proofs.Common.{◌≡◌, ℕ, zero, suc, ◌+◌, ◌<◌, List, [], ◌∷◌, Option, Some, None, Bool, true, false, if◌then◌else◌, length, slice_get, slice_set, nat_eq, refl, sym, ap, ◌∙◌, subst, eqb-true, arith}
use Rattle.std.specs.Prelude.{⊤, map, replicate}
use Rattle.std.proofs.lemmas.Bool.Decides.{nat_tests}
use Rattle.cas_base.specs.Ty.{words_of_ty}
use Rattle.cas_base.specs.declared.kind.Ty.{Ty}
use Rattle.cas_base.specs.declared.kind.Ty.TheVariants.{Void, Int, Ptr, Array}
use Rattle.cas_step.specs.Asks as asks
use Rattle.cas_step.specs.Step as step
use Rattle.cas_step.specs.Step.{locals_at, local_at, cells_at, locals_of, zero_of, memory_without}
use Rattle.cas_runs.specs.Naming.{Home, Own, Value, Number, Pointer, Hidden, Memory, with_block, usable}
use Rattle.cas_runs.specs.Calls.{so_many, set_blocks, fresh, gone}
use Rattle.cas_runs.proofs.Placing.{with_here, with_elsewhere, set_elsewhere, set_there}
use Rattle.cas_clight.specs.Clight as clight
use Rattle.cas_clight.specs.Clight.{ClightFun, Passed, also_passed, encoded, keeps_pointer, own_home}
use Rattle.cas_runs.specs.Held.{HasRoom, set_in, stored_at}
use Rattle.cas_bridge.specs.Alike.{numbers, nulls}
use Rattle.cas_bridge.specs.Matching.{home_of, points, ValuesMatch, AllValuesMatch, CellMatches, CellsMatch, BlocksMatch, MemoryMatches}
use Rattle.cas_bridge.specs.Steps.{FitsCell, with_passed, HaveRoomFor}
use Rattle.cas_bridge.proofs.Stepping.{fit_cell}
use Rattle.cas_bridge.proofs.Storing.{stored_same}

abbrev V : Type 0
V = asks.Value step.Object

-- a type of one cell
abbrev pub IsOne : Ty → Type 0
IsOne ty = words_of_ty ty ≡ 1

-- the arguments may stand in the first locals, each of which is one cell
abbrev pub AreArguments : List Ty → List V → Type 0
AreArguments tys [] = ⊤
AreArguments [] (v ∷ vs) = ⊥
AreArguments (ty ∷ tys) (v ∷ vs) = IsOne ty × FitsCell (keeps_pointer (Some ty)) v × AreArguments tys vs

-- what an activation's blocks have where it begins and its arguments are stored, local by local
abbrev pub begun_block : List Ty → List V → List Value → (local : ℕ) → Option (List Value)
begun_block [] vs xs n = None
begun_block (ty ∷ tys) [] xs zero = Some (so_many (Number 0) (words_of_ty ty))
begun_block (ty ∷ tys) [] xs (suc n) = begun_block tys [] xs n
begun_block (ty ∷ tys) (v ∷ vs) [] n = None
begun_block (ty ∷ tys) (v ∷ vs) (x ∷ xs) zero = Some (x ∷ [])
begun_block (ty ∷ tys) (v ∷ vs) (x ∷ xs) (suc n) = begun_block tys vs xs n

module _ (owner : ℕ → ClightFun) where
  -- zeros are zeros
  zeros_same : (b : Bool) (v : V) (x : Value) → CellMatches owner b v x → (n : ℕ) →
      CellsMatch owner b (replicate n v) (so_many x n)
  zeros_same b v x h zero = tt
  zeros_same b v x h (suc n) = (h, zeros_same b v x h n)

  zero_same : (ty : Ty) → CellMatches owner (keeps_pointer (Some ty)) (zero_of ty) (Number 0)
  zero_same (Int k) = (asks.word 0, refl, numbers 0)
  zero_same (Ptr k) = (asks.null, refl, nulls)
  zero_same (Array k n) = (asks.word 0, refl, numbers 0)
  zero_same Void = (asks.word 0, refl, numbers 0)

  -- the locals of a call are such blocks
  pub locals_same : (tys : List Ty) (vs : List V) (vs' : List (asks.Value clight.Object)) →
      AllValuesMatch owner vs vs' → AreArguments tys vs → (n : ℕ) →
      BlocksMatch owner (keeps_pointer (slice_get tys n)) (slice_get (locals_of tys vs) n)
      (begun_block tys vs (map encoded vs') n)
  locals_same [] [] [] same fit n = tt
  locals_same [] [] (v' ∷ vs') same fit n = absurd same
  locals_same [] (v ∷ vs) vs' same fit n = absurd fit
  locals_same (ty ∷ tys) [] [] same fit zero = zeros_same (keeps_pointer (Some ty)) (zero_of ty) (Number 0)
      (zero_same ty) (words_of_ty ty)
  locals_same (ty ∷ tys) [] [] same fit (suc n) = locals_same tys [] [] tt tt n
  locals_same (ty ∷ tys) [] (v' ∷ vs') same fit n = absurd same
  locals_same (ty ∷ tys) (v ∷ vs) [] same fit n = absurd same
  locals_same (ty ∷ tys) (v ∷ vs) (v' ∷ vs') same fit zero =
      (fit_cell owner (keeps_pointer (Some ty)) v v' fit.1 same.0, tt)
  locals_same (ty ∷ tys) (v ∷ vs) (v' ∷ vs') same fit (suc n) = locals_same tys vs vs' same.1 fit.2 n

-- an argument that isn't refused is passed as it is
also_is : (k : ℕ) (x : Value) (hs' hs : List Passed) → also_passed k (usable x) (Some hs') ≡ Some hs →
    record { local = k; value = x } ∷ hs' ≡ hs
also_is k (Number n) hs' hs e = cc e
also_is k (Pointer home p) hs' hs e = cc e
also_is k (Hidden what) hs' hs e = absurd (cc e)

module _ (f : ClightFun) (s : ℕ) where
  abbrev at : ℕ → Home
  at n = Own f.decl.name s n

  pub at_same : (i j : ℕ) → i ≡ j → at i ≡ at j
  at_same i j e = ap (λ n. at n) e

  at_apart : (i j : ℕ) → (i ≡ j → ⊥) → at i ≡ at j → ⊥
  at_apart i j h e = h (cc e)

  -- what is passed over touches the locals from the k-th on
  handed_elsewhere : (xs : List Value) (k : ℕ) (hs : List Passed) → clight.arguments k (length xs) xs ≡ Some hs →
      (m : Memory) (home : Home) → ((j : ℕ) → home ≡ at (k + j) → ⊥) → with_passed f s m hs home ≡ m home
  handed_elsewhere [] k hs e m home no_one = subst (λ l. with_passed f s m l home ≡ m home)
      (let same : [] ≡ hs = cc e in same) refl
  handed_elsewhere (x ∷ xs) k hs e m home no_one = by (clight.arguments (k + 1) (length xs) xs) refl e
      (λ hs' i m'. handed_elsewhere xs (k + 1) hs' i m' home
      (λ j g. no_one (suc j) (g ∙ at_same (k + 1 + j) (k + suc j) (omega arith))))
    where
      by : (o : Option (List Passed)) → clight.arguments (k + 1) (length xs) xs ≡ o →
          also_passed k (usable x) o ≡ Some hs →
          ((hs' : List Passed) → clight.arguments (k + 1) (length xs) xs ≡ Some hs' → (m' : Memory) →
          with_passed f s m' hs' home ≡ m' home) → with_passed f s m hs home ≡ m home
      by None i g next = absurd (cc g)
      by (Some hs') i g next = subst (λ l. with_passed f s m l home ≡ m home)
          (also_is k x hs' hs g)
          (next hs' i (stored_at m (at k) 0 x) ∙ with_elsewhere m (at k) home (set_in (m (at k)) 0 x)
          (λ (c : home ≡ at k). no_one 0 (c ∙ at_same k (k + 0) (omega arith))))

  -- and leaves there what the other has at once
  handed_block : (tys : List Ty) (vs : List V) (xs : List Value) (k : ℕ) (hs : List Passed) → length vs ≡ length xs →
      AreArguments tys vs → clight.arguments k (length xs) xs ≡ Some hs → (m : Memory) →
      ((j : ℕ) → m (at (k + j)) ≡ begun_block tys [] [] j) → (n : ℕ) →
      with_passed f s m hs (at (k + n)) ≡ begun_block tys vs xs n
  handed_block tys [] [] k hs size fit e m blocks n = subst
      (λ l. with_passed f s m l (at (k + n)) ≡ begun_block tys [] [] n) (let same : [] ≡ hs = cc e in same) (blocks n)
  handed_block tys [] (x ∷ xs) k hs size fit e m blocks n = absurd (omega (arith, size))
  handed_block tys (v ∷ vs) [] k hs size fit e m blocks n = absurd (omega (arith, size))
  handed_block [] (v ∷ vs) (x ∷ xs) k hs size fit e m blocks n = absurd fit
  handed_block (ty ∷ tys) (v ∷ vs) (x ∷ xs) k hs size fit e m blocks n =
      by (clight.arguments (k + 1) (length xs) xs) refl e
      (λ hs' i n'. handed_block tys vs xs (k + 1) hs' (omega (arith, size)) fit.2 i (stored_at m (at k) 0 x)
      (λ j. with_elsewhere m (at k) (at (k + 1 + j)) (set_in (m (at k)) 0 x)
      (at_apart (k + 1 + j) k (λ h. omega (arith, h))) ∙ ap m (at_same (k + 1 + j) (k + suc j) (omega arith))
      ∙ blocks (suc j)) n') n
    where
      first : stored_at m (at k) 0 x (at k) ≡ Some (x ∷ [])
      first = with_here m (at k) (set_in (m (at k)) 0 x)
          ∙ ap (λ o. set_in o 0 x) (ap m (at_same k (k + 0) (omega arith)) ∙ blocks 0)
          ∙ ap (λ i. Some (slice_set (so_many (Number 0) i) 0 x)) fit.0

      by : (o : Option (List Passed)) → clight.arguments (k + 1) (length xs) xs ≡ o →
          also_passed k (usable x) o ≡ Some hs →
          ((hs' : List Passed) → clight.arguments (k + 1) (length xs) xs ≡ Some hs' → (n' : ℕ) →
          with_passed f s (stored_at m (at k) 0 x) hs' (at (k + 1 + n')) ≡ begun_block tys vs xs n') → (n : ℕ) →
          with_passed f s m hs (at (k + n)) ≡ begun_block (ty ∷ tys) (v ∷ vs) (x ∷ xs) n
      by None i g next n = absurd (cc g)
      by (Some hs') i g next zero = subst (λ l. with_passed f s m l (at (k + 0)) ≡ Some (x ∷ []))
          (also_is k x hs' hs g)
          (handed_elsewhere xs (k + 1) hs' i (stored_at m (at k) 0 x) (at (k + 0))
          (λ j. at_apart (k + 0) (k + 1 + j) (λ h. omega (arith, h)))
          ∙ ap (λ h. stored_at m (at k) 0 x h) (at_same (k + 0) k (omega arith)) ∙ first)
      by (Some hs') i g next (suc n) = subst (λ l. with_passed f s m l (at (k + suc n)) ≡ begun_block tys vs xs n)
          (also_is k x hs' hs g)
          (ap (λ h. with_passed f s (stored_at m (at k) 0 x) hs' h) (at_same (k + suc n) (k + 1 + n) (omega arith))
          ∙ next hs' i n)

  -- the blocks of an activation that begins
  pub fresh_block : (m : Memory) → ((n : ℕ) → m (at n) ≡ None) → (tys : List Ty) (n : ℕ) →
      set_blocks (fresh (Number 0)) m f.decl.name s 0 (map words_of_ty tys) (at n) ≡ begun_block tys [] [] n
  fresh_block m none tys n = by (slice_get tys n) refl
    where
      get_some : (tys : List Ty) (n : ℕ) (ty : Ty) → slice_get tys n ≡ Some ty →
          slice_get (map words_of_ty tys) n ≡ Some (words_of_ty ty)
      get_some [] n ty e = absurd (cc e)
      get_some (x ∷ tys) zero ty e = let same : x ≡ ty = cc e in ap (λ t. Some (words_of_ty t)) same
      get_some (x ∷ tys) (suc n) ty e = get_some tys n ty e

      block_some : (tys : List Ty) (n : ℕ) (ty : Ty) → slice_get tys n ≡ Some ty →
          begun_block tys [] [] n ≡ Some (so_many (Number 0) (words_of_ty ty))
      block_some [] n ty e = absurd (cc e)
      block_some (x ∷ tys) zero ty e = let same : x ≡ ty =
          cc e in ap (λ t. Some (so_many (Number 0) (words_of_ty t))) same
      block_some (x ∷ tys) (suc n) ty e = block_some tys n ty e

      block_none : (tys : List Ty) (n : ℕ) → slice_get tys n ≡ None → begun_block tys [] [] n ≡ None
      block_none [] n e = refl
      block_none (x ∷ tys) zero e = absurd (cc e)
      block_none (x ∷ tys) (suc n) e = block_none tys n e

      past : (tys : List Ty) (n j : ℕ) → slice_get tys n ≡ None → j < length (map words_of_ty tys) → n ≡ j → ⊥
      past [] n j e less same = omega (arith, less)
      past (x ∷ tys) zero j e less same = cc e
      past (x ∷ tys) (suc n) zero e less same = omega (arith, same)
      past (x ∷ tys) (suc n) (suc j) e less same = past tys n j e (omega (arith, less)) (omega (arith, same))

      by : (o : Option Ty) → slice_get tys n ≡ o → set_blocks (fresh (Number 0)) m f.decl.name s 0 (map words_of_ty tys)
          (at n) ≡ begun_block tys [] [] n
      by (Some ty) e = set_there (fresh (Number 0)) m f.decl.name s 0 (map words_of_ty tys) n n (words_of_ty ty)
          (get_some tys n ty e) (omega arith) ∙ sym (block_some tys n ty e)
      by None e = set_elsewhere (fresh (Number 0)) m f.decl.name s 0 (map words_of_ty tys) (at n)
          (λ j less c. past tys n j e less (let same : n ≡ 0 + j = cc c in omega (arith, same))) ∙ none n
          ∙ sym (block_none tys n e)

-- a call: with what is passed over, memory is what the other thread has after its call
pub call_memory : (owner : ℕ → ClightFun) (memory : List step.Block) (m : Memory) →
    MemoryMatches owner (cells_at memory) m → (serial : ℕ) →
    ((n : ℕ) → m (Own (owner serial).decl.name serial n) ≡ None) →
    (vs : List V) (vs' : List (asks.Value clight.Object)) → AllValuesMatch owner vs vs' →
    length vs ≡ length (map encoded vs') → AreArguments (owner serial).locals vs → (hs : List Passed) →
    clight.arguments 0 (length (map encoded vs')) (map encoded vs') ≡ Some hs →
    MemoryMatches owner (cells_at (record { serial = serial; locals = locals_of (owner serial).locals vs } ∷ memory))
    (with_passed (owner serial) serial (set_blocks (fresh (Number 0)) m (owner serial).decl.name serial 0
    (map words_of_ty (owner serial).locals)) hs)
call_memory owner memory m same serial none vs vs' all size fit hs e o = by (nat_eq serial o.serial) refl
  where
    after : Memory
    after = with_passed (owner serial) serial (set_blocks (fresh (Number 0)) m (owner serial).decl.name serial 0
        (map words_of_ty (owner serial).locals)) hs

    own : (n : ℕ) → BlocksMatch owner (points owner (record { serial = serial; local = n }))
        (slice_get (locals_of (owner serial).locals vs) n)
        (with_passed (owner serial) serial (set_blocks (fresh (Number 0)) m (owner serial).decl.name serial 0
        (map words_of_ty (owner serial).locals)) hs (Own (owner serial).decl.name serial n))
    own n = subst (λ b. BlocksMatch owner (points owner (record { serial = serial; local = n }))
        (slice_get (locals_of (owner serial).locals vs) n) b)
        (sym (ap (λ (h : Home). with_passed (owner serial) serial
        (set_blocks (fresh (Number 0)) m (owner serial).decl.name serial 0 (map words_of_ty (owner serial).locals))
        hs h) (at_same (owner serial) serial n (0 + n) (omega arith))
        ∙ handed_block (owner serial) serial (owner serial).locals vs (map encoded vs') 0 hs size fit e
        (set_blocks (fresh (Number 0)) m (owner serial).decl.name serial 0 (map words_of_ty (owner serial).locals))
        (λ j. ap (λ (h : Home). set_blocks (fresh (Number 0)) m (owner serial).decl.name serial 0
        (map words_of_ty (owner serial).locals) h) (at_same (owner serial) serial (0 + j) j (omega arith))
        ∙ fresh_block (owner serial) serial m none (owner serial).locals j) n))
        (locals_same owner (owner serial).locals vs vs' all fit n)

    others : (serial ≡ o.serial → ⊥) → with_passed (owner serial) serial
        (set_blocks (fresh (Number 0)) m (owner serial).decl.name serial 0 (map words_of_ty (owner serial).locals)) hs
        (home_of owner o) ≡ m (home_of owner o)
    others differ =
        handed_elsewhere (owner serial) serial (map encoded vs') 0 hs e
        (set_blocks (fresh (Number 0)) m (owner serial).decl.name serial 0 (map words_of_ty (owner serial).locals))
        (home_of owner o) (λ j c. differ (let s : o.serial ≡ serial = cc c in sym s))
        ∙ set_elsewhere (fresh (Number 0)) m (owner serial).decl.name serial 0 (map words_of_ty (owner serial).locals)
        (home_of owner o) (λ j less c. differ (let s : o.serial ≡ serial = cc c in sym s))

    by : (b : Bool) → nat_eq serial o.serial ≡ b → BlocksMatch owner (points owner o)
        (local_at (if b then Some (locals_of (owner serial).locals vs) else locals_at memory o.serial) o.local)
        (with_passed (owner serial) serial (set_blocks (fresh (Number 0)) m (owner serial).decl.name serial 0
        (map words_of_ty (owner serial).locals)) hs (home_of owner o))
    by true d =
        subst (λ n. BlocksMatch owner (points owner (record { serial = n; local = o.local }))
        (slice_get (locals_of (owner serial).locals vs) o.local)
        (with_passed (owner serial) serial (set_blocks (fresh (Number 0)) m (owner serial).decl.name serial 0
        (map words_of_ty (owner serial).locals)) hs (home_of owner (record { serial = n; local = o.local }))))
        (eqb-true serial o.serial d) (own o.local)
    by false d =
        let differ : serial ≡ o.serial → ⊥ =
        λ s. (let yes : nat_eq serial o.serial ≡ true = grind (arith, nat_tests, s) in cc (yes, d)) in
        subst (λ b. BlocksMatch owner (points owner o) (cells_at memory o) b) (sym (others differ)) (same o)

-- the locals of others are still there
without_others : (memory : List step.Block) (serial : ℕ) (o : step.Object) → (serial ≡ o.serial → ⊥) →
    cells_at (memory_without memory serial) o ≡ cells_at memory o
without_others [] serial o differ = refl
without_others (b ∷ bs) serial o differ = by (nat_eq b.serial serial) refl (without_others bs serial o differ)
  where
    by : (t : Bool) → nat_eq b.serial serial ≡ t → cells_at (memory_without bs serial) o ≡ cells_at bs o →
        cells_at (if t then bs else b ∷ memory_without bs serial) o ≡ local_at
        (if nat_eq b.serial o.serial then Some b.locals else locals_at bs o.serial) o.local
    by true d rest =
        let same : b.serial ≡ serial = eqb-true b.serial serial d in
        let other : nat_eq b.serial o.serial ≡ false = not_equal b.serial o.serial (λ e. differ (sym same ∙ e)) in
        ap (λ (t : Bool). local_at (if t then Some b.locals else locals_at bs o.serial) o.local) (sym other)
      where
        not_equal : (i j : ℕ) → (i ≡ j → ⊥) → nat_eq i j ≡ false
        not_equal i j h = grind (arith, nat_tests, h)
    by false d rest = either (nat_eq b.serial o.serial)
      where
        either : (t : Bool) → local_at (if t then Some b.locals else locals_at (memory_without bs serial) o.serial)
            o.local ≡ local_at (if t then Some b.locals else locals_at bs o.serial) o.local
        either true = refl
        either false = rest

-- a return: the locals are gone in both
pub return_memory : (owner : ℕ → ClightFun) (memory : List step.Block) (m : Memory) →
    MemoryMatches owner (cells_at memory) m → (serial : ℕ) →
    ((n : ℕ) → cells_at (memory_without memory serial) (record { serial = serial; local = n }) ≡ None) →
    ((n : ℕ) → slice_get (owner serial).locals n ≡ None → m (Own (owner serial).decl.name serial n) ≡ None) →
    MemoryMatches owner (cells_at (memory_without memory serial))
    (set_blocks gone m (owner serial).decl.name serial 0 (map words_of_ty (owner serial).locals))
return_memory owner memory m same serial no_more past o = by (nat_eq serial o.serial) refl
  where
    get_some : (tys : List Ty) (n : ℕ) (ty : Ty) → slice_get tys n ≡ Some ty →
        slice_get (map words_of_ty tys) n ≡ Some (words_of_ty ty)
    get_some [] n ty e = absurd (cc e)
    get_some (x ∷ tys) zero ty e = let s : x ≡ ty = cc e in ap (λ t. Some (words_of_ty t)) s
    get_some (x ∷ tys) (suc n) ty e = get_some tys n ty e

    past_all : (tys : List Ty) (n j : ℕ) → slice_get tys n ≡ None → j < length (map words_of_ty tys) → n ≡ j → ⊥
    past_all [] n j e less s = omega (arith, less)
    past_all (x ∷ tys) zero j e less s = cc e
    past_all (x ∷ tys) (suc n) zero e less s = omega (arith, s)
    past_all (x ∷ tys) (suc n) (suc j) e less s = past_all tys n j e (omega (arith, less)) (omega (arith, s))

    gone_at : (n : ℕ) (ty : Option Ty) → slice_get (owner serial).locals n ≡ ty →
        set_blocks gone m (owner serial).decl.name serial 0 (map words_of_ty (owner serial).locals)
        (Own (owner serial).decl.name serial n) ≡ None
    gone_at n (Some ty) e = set_there gone m (owner serial).decl.name serial 0 (map words_of_ty (owner serial).locals)
        n n (words_of_ty ty) (get_some (owner serial).locals n ty e) (omega arith)
    gone_at n None e = set_elsewhere gone m (owner serial).decl.name serial 0 (map words_of_ty (owner serial).locals)
        (Own (owner serial).decl.name serial n) (λ j less c. past_all (owner serial).locals n j e less
        (let s : n ≡ 0 + j = cc c in omega (arith, s))) ∙ past n e

    by : (b : Bool) → nat_eq serial o.serial ≡ b → BlocksMatch owner (points owner o)
        (cells_at (memory_without memory serial) o) (set_blocks gone m (owner serial).decl.name serial 0
        (map words_of_ty (owner serial).locals) (home_of owner o))
    by true d =
        let here : BlocksMatch owner (points owner (record { serial = serial; local = o.local }))
        (cells_at (memory_without memory serial) (record { serial = serial; local = o.local }))
        (set_blocks gone m (owner serial).decl.name serial 0 (map words_of_ty (owner serial).locals)
        (Own (owner serial).decl.name serial o.local)) =
        subst (λ a. BlocksMatch owner (points owner (record { serial = serial; local = o.local })) a
        (set_blocks gone m (owner serial).decl.name serial 0 (map words_of_ty (owner serial).locals)
        (Own (owner serial).decl.name serial o.local))) (sym (no_more o.local))
        (subst (λ b. BlocksMatch owner (points owner (record { serial = serial; local = o.local })) None b)
        (sym (gone_at o.local (slice_get (owner serial).locals o.local) refl)) tt) in
        subst (λ n. BlocksMatch owner (points owner (record { serial = n; local = o.local }))
        (cells_at (memory_without memory serial) (record { serial = n; local = o.local }))
        (set_blocks gone m (owner serial).decl.name serial 0 (map words_of_ty (owner serial).locals)
        (home_of owner (record { serial = n; local = o.local })))) (eqb-true serial o.serial d) here
    by false d =
        let differ : serial ≡ o.serial → ⊥ =
        λ s. (let yes : nat_eq serial o.serial ≡ true = grind (arith, nat_tests, s) in cc (yes, d)) in
        subst (λ a. BlocksMatch owner (points owner o) a
        (set_blocks gone m (owner serial).decl.name serial 0 (map words_of_ty (owner serial).locals)
        (home_of owner o))) (sym (without_others memory serial o differ))
        (subst (λ b. BlocksMatch owner (points owner o) (cells_at memory o) b)
        (sym (set_elsewhere gone m (owner serial).decl.name serial 0 (map words_of_ty (owner serial).locals)
        (home_of owner o) (λ j less c. differ (let s : o.serial ≡ serial = cc c in sym s)))) (same o))

-- and the caller's local keeps the result: here at once, there when it is passed over
pub kept_memory : (owner : ℕ → ClightFun) (memory : List step.Block) (m : Memory) →
    MemoryMatches owner (cells_at memory) m → (o : step.Object) (vs : List V) (xs : List Value) →
    cells_at memory o ≡ Some vs → m (home_of owner o) ≡ Some xs → (v : V) (v' : asks.Value clight.Object) →
    ValuesMatch owner v v' → FitsCell (points owner o) v →
    MemoryMatches owner (cells_at (step.memory_with memory o 0 v))
    (with_passed (owner o.serial) o.serial m (record { local = o.local; value = encoded v' } ∷ []))
kept_memory owner memory m same o vs xs is there v v' s fit =
    subst (λ b. MemoryMatches owner (cells_at (step.memory_with memory o 0 v))
    (with_block m (home_of owner o) (set_in b 0 (encoded v')))) (sym there)
    (stored_same owner memory m same o vs xs is there 0 v (encoded v') (fit_cell owner (points owner o) v v' fit s))

-- there is room for what is passed over
pub passed_room : (f : ClightFun) (s : ℕ) (tys : List Ty) (vs : List V) (xs : List Value) (k : ℕ) (hs : List Passed) →
    length vs ≡ length xs → AreArguments tys vs → clight.arguments k (length xs) xs ≡ Some hs → (m : Memory) →
    ((j : ℕ) → m (at f s (k + j)) ≡ begun_block tys [] [] j) → HaveRoomFor f s m hs
passed_room f s tys [] [] k hs size fit e m blocks =
    subst (λ l. HaveRoomFor f s m l) (let same : [] ≡ hs = cc e in same) tt
passed_room f s tys [] (x ∷ xs) k hs size fit e m blocks = absurd (omega (arith, size))
passed_room f s tys (v ∷ vs) [] k hs size fit e m blocks = absurd (omega (arith, size))
passed_room f s [] (v ∷ vs) (x ∷ xs) k hs size fit e m blocks = absurd fit
passed_room f s (ty ∷ tys) (v ∷ vs) (x ∷ xs) k hs size fit e m blocks =
    by (clight.arguments (k + 1) (length xs) xs) refl e
    (λ hs' i. passed_room f s tys vs xs (k + 1) hs' (omega (arith, size)) fit.2 i (stored_at m (at f s k) 0 x)
    (λ j. with_elsewhere m (at f s k) (at f s (k + 1 + j)) (set_in (m (at f s k)) 0 x)
    (at_apart f s (k + 1 + j) k (λ h. omega (arith, h)))
    ∙ ap m (at_same f s (k + 1 + j) (k + suc j) (omega arith)) ∙ blocks (suc j)))
  where
    room : HasRoom m (at f s k) 0
    room = record {
      block = so_many (Number 0) (words_of_ty ty);
      there = ap m (at_same f s k (k + 0) (omega arith)) ∙ blocks 0;
      within =
          let one : length (so_many (Number 0) (words_of_ty ty)) ≡ 1 = ap (λ i. length (so_many (Number 0) i)) fit.0 in
          omega (arith, one);
    }

    by : (o : Option (List Passed)) → clight.arguments (k + 1) (length xs) xs ≡ o →
        also_passed k (usable x) o ≡ Some hs →
        ((hs' : List Passed) → clight.arguments (k + 1) (length xs) xs ≡ Some hs' →
        HaveRoomFor f s (stored_at m (at f s k) 0 x) hs') → HaveRoomFor f s m hs
    by None i g next = absurd (cc g)
    by (Some hs') i g next = subst (λ l. HaveRoomFor f s m l)
        (also_is k x hs' hs g) (room, next hs' i)

-- values that are passed are arguments
pub arguments_there : (k : ℕ) (vs : List (asks.Value clight.Object)) →
    (hs : List Passed) × (clight.arguments k (length (map encoded vs)) (map encoded vs) ≡ Some hs)
arguments_there k [] = ([], refl)
arguments_there k (v ∷ vs) =
    let (hs, is) = arguments_there (k + 1) vs in
    (record { local = k; value = encoded v } ∷ hs, ap (λ o. also_passed k (usable (encoded v)) o) is ∙ by v hs)
  where
    by : (v : asks.Value clight.Object) (hs : List Passed) →
        also_passed k (usable (encoded v)) (Some hs) ≡ Some (record { local = k; value = encoded v } ∷ hs)
    by (asks.word n) hs = refl
    by asks.null hs = refl
    by (asks.pointer o p) hs = refl
