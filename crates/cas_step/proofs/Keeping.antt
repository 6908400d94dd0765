-- What keeps a thread sound: other items to do, a value stored, a call, a return.
use Rattle.std.proofs.Common.{arith, ◌≡◌, ℕ, zero, suc, ◌<◌, ◌≤◌, Bool, true, false, List, [], ◌∷◌, length, take, replicate, Option, Some, refl, sym, ap, subst, ◌∙◌, if◌then◌else◌, IsTrue}
use Rattle.std.specs.Prelude.{⊤, nat_eq, slice_get, slice_set}
use Rattle.std.proofs.lemmas.Bool.{eq-eqb, eqb-true}
use Rattle.cas_base.specs.Kind.{is_of_kind}
use Rattle.cas_base.specs.Ty.{words_of_ty}
use Rattle.cas_base.specs.declared.kind.Kind.{Kind}
use Rattle.cas_base.specs.declared.kind.Kind.TheVariants.{I8, U8, I16, U16, I32, U32}
use Rattle.cas_base.specs.declared.kind.Ty.{Ty}
use Rattle.cas_base.specs.declared.kind.Ty.TheVariants.{Void, Int, Ptr, Array}
use Rattle.cas_base.proofs.KindLaws.{narrowed_is_of_kind}
use Rattle.cas_typed.specs.declared.tree.Destination.{Destination}
use Rattle.cas_typed.specs.Resolved.{TypedModuleTree}
use Rattle.cas_typed.specs.Sorts.{IsLocal, MayKeep}
use Rattle.cas_step.specs.Asks.{Value, word, null, pointer}
use Rattle.cas_step.specs.Env.{Env}
use Rattle.cas_step.specs.Well_formed.{IsWellTypedWord, AreWellTypedWords}
use Rattle.cas_step.specs.Continuation.{ContItem}
use Rattle.cas_step.specs.Sound.{types_of, types_at, IsOfType, cell_type, EachOfType, AreLocals, AreBlocks, CallerKeeps, AreActivations}
use Rattle.cas_step.specs.Answered.{value_at}
use Rattle.cas_step.specs.Step.{Object, Activation, Block, Config, memory_without, locals_of, zero_of, converted, cells_at}
use Rattle.cas_step.proofs.Memory.{IsLater, value_later, MayHold, CellsMatch, type_at, object_match, value_there}
use Rattle.cas_step.proofs.Situation.{word_of_kind}
use Rattle.cas_step.proofs.Values.{ThereIs}

-- words with one that fits set

pub words_set : (kinds : List (Option Kind)) (ws : List ℕ) (m n : ℕ) (k : Kind) → AreWellTypedWords kinds ws →
    slice_get kinds m ≡ Some (Some k) → IsTrue (is_of_kind n k) → AreWellTypedWords kinds (slice_set ws m n)
words_set [] [] m n k h is of = tt
words_set [] (w ∷ ws) m n k h is of = absurd h
words_set (j ∷ ks) [] m n k h is of = absurd h
words_set (j ∷ ks) (w ∷ ws) zero n k h is of = let same : j ≡ Some k =
    cc is in (subst (λ i. IsWellTypedWord i n) (sym same) of, h.1)
words_set (j ∷ ks) (w ∷ ws) (suc m) n k h is of = (h.0, words_set ks ws m n k h.1 is of)

-- the activation with other items to do
abbrev pub with_cont : Activation → List ContItem → Activation
with_cont a cont = record { serial = a.serial; function = a.function; target = a.target; cont = cont }

module _ (e : Env) where
  pub cont_keeps : (a : Activation) (cont : List ContItem) (older : List Activation) → CallerKeeps e a older →
      CallerKeeps e (with_cont a cont) older
  cont_keeps a cont [] h = tt
  cont_keeps a cont (caller ∷ older) h = h

  pub cont_blocks : (c : Config) (a : Activation) (cont : List ContItem) (older : List Activation) (memory : List Block)
      → AreBlocks e c (a ∷ older) memory → AreBlocks e c (with_cont a cont ∷ older) memory
  cont_blocks c a cont older [] h = absurd h
  cont_blocks c a cont older (b ∷ bs) h = h

  -- blocks without those of the newest activation
  pub without_blocks : (c : Config) (a : Activation) (older : List Activation) (memory : List Block) →
      AreBlocks e c (a ∷ older) memory → AreBlocks e c older (memory_without memory a.serial)
  without_blocks c a older [] h = absurd h
  without_blocks c a older (b ∷ bs) h =
      subst (λ is. AreBlocks e c older (if is then bs else b ∷ memory_without bs a.serial))
      (sym (eq-eqb b.serial a.serial h.0)) h.2

  -- arguments of these types
  abbrev pub AreArguments : Config → List Ty → List (Value Object) → Type 0
  AreArguments c [] [] = ⊤
  AreArguments c [] (v ∷ vs) = ⊥
  AreArguments c (ty ∷ tys) [] = ⊥
  AreArguments c (ty ∷ tys) (v ∷ vs) = IsOfType e c ty v × AreArguments c tys vs

  pub arguments_later : (c d : Config) → IsLater e c d → (tys : List Ty) (vs : List (Value Object)) →
      AreArguments c tys vs → AreArguments d tys vs
  arguments_later c d l [] [] h = tt
  arguments_later c d l [] (v ∷ vs) h = absurd h
  arguments_later c d l (ty ∷ tys) [] h = absurd h
  arguments_later c d l (ty ∷ tys) (v ∷ vs) h = (value_later e c d l ty v h.0, arguments_later c d l tys vs h.1)

  repeated_length : (n : ℕ) (v : Value Object) → length (replicate n v) ≡ n
  repeated_length zero v = refl
  repeated_length (suc n) v = omega (arith, repeated_length n v)

  repeated_typed : (c : Config) (ty : Ty) (n : ℕ) (v : Value Object) → IsOfType e c ty v →
      EachOfType e c ty (replicate n v)
  repeated_typed c ty zero v h = tt
  repeated_typed c ty (suc n) v h = (h, repeated_typed c ty n v h)

  zero_of_kind : (k : Kind) → IsTrue (is_of_kind 0 k)
  zero_of_kind I8 = refl
  zero_of_kind U8 = refl
  zero_of_kind I16 = refl
  zero_of_kind U16 = refl
  zero_of_kind I32 = refl
  zero_of_kind U32 = refl

  zeros_typed : (c : Config) (ty : Ty) → EachOfType e c (cell_type ty) (replicate (words_of_ty ty) (zero_of ty))
  zeros_typed c Void = tt
  zeros_typed c (Int k) = (zero_of_kind k, tt)
  zeros_typed c (Ptr k) = (tt, tt)
  zeros_typed c (Array k n) = repeated_typed c (Int k) n (word 0) (zero_of_kind k)

  others_typed : (c : Config) (tys : List Ty) → AreLocals e c tys (locals_of tys [])
  others_typed c [] = tt
  others_typed c (ty ∷ tys) = (repeated_length (words_of_ty ty) (zero_of ty), zeros_typed c ty, others_typed c tys)

  argument_cell : (c : Config) (ty : Ty) (v : Value Object) → IsOfType e c ty v → (length (v ∷ []) ≡ words_of_ty ty)
      × EachOfType e c (cell_type ty) (v ∷ [])
  argument_cell c (Int k) v h = (refl, (h, tt))
  argument_cell c (Ptr k) v h = (refl, (h, tt))
  argument_cell c Void v h = absurd h
  argument_cell c (Array k n) v h = absurd h

  -- the locals of a new activation are of their types
  pub locals_typed : (c : Config) (tys params : List Ty) (vs : List (Value Object)) →
      take (length params) tys ≡ params → AreArguments c params vs → AreLocals e c tys (locals_of tys vs)
  locals_typed c tys [] [] takes h = others_typed c tys
  locals_typed c tys [] (v ∷ vs) takes h = absurd h
  locals_typed c tys (p ∷ params) [] takes h = absurd h
  locals_typed c [] (p ∷ params) (v ∷ vs) takes h = absurd (cc takes)
  locals_typed c (ty ∷ tys) (p ∷ params) (v ∷ vs) takes h =
      let first : ty ≡ p = cc takes in
      let others : take (length params) tys ≡ params = cc takes in
      let cell = argument_cell c ty v (subst (λ x. IsOfType e c x v) (sym first) h.0) in
      (cell.0, cell.1, locals_typed c tys params vs others h.1)

module _ (modules : List TypedModuleTree) (e : Env) where
  pub activations_before : (n m : ℕ) (activations : List Activation) → n ≤ m → AreActivations modules e n activations →
      AreActivations modules e m activations
  activations_before n m [] le h = tt
  activations_before n m (a ∷ older) le h = (omega (arith, le, h.0), h.1, h.2, h.3)

  -- activations have begun before this
  before_by : (before n : ℕ) (a : Activation) (older : List Activation) (tys : List Ty) (is : Bool) →
      nat_eq a.serial n ≡ is → a.serial < before → (types_at e older n ≡ Some tys → n < a.serial) →
      (if is then Some (types_of e a) else types_at e older n) ≡ Some tys → n < before
  before_by before n a older tys true is less rest found = subst (λ k. k < before) (eqb-true a.serial n is) less
  before_by before n a older tys false is less rest found = omega (arith, less, rest found)

  pub types_before : (before n : ℕ) (activations : List Activation) (tys : List Ty) →
      AreActivations modules e before activations → types_at e activations n ≡ Some tys → n < before
  types_before before n [] tys h found = absurd (cc found)
  types_before before n (a ∷ older) tys h found = before_by before n a older tys (nat_eq a.serial n) refl h.0
      (λ f. types_before a.serial n older tys h.3 f) found

  -- what a caller may keep is converted to its local's type, in each of these threads
  pub kept_typed : (c : List Block → Config) (types : List Ty) (d : Destination) (ret : Ty) (v : Value Object) →
      MayKeep types (Some d) ret → ((m : List Block) → IsOfType e (c m) ret v) →
      IsLocal types d.local d.ty × (0 < words_of_ty d.ty)
      × ThereIs (λ w. (m : List Block) → IsOfType e (c m) (cell_type d.ty) w) (converted d.ty v)
  kept_typed c types d (Int j) (word n) h of = (
    h.2,
    subst (λ ty. 0 < words_of_ty ty) (sym h.1) (omega arith),
    subst (λ ty. ThereIs (λ w. (m : List Block) → IsOfType e (c m) (cell_type ty) w) (converted ty (word n))) (sym h.1)
        (λ m. narrowed_is_of_kind n h.0 (word_of_kind n j (of m))),
  )
  kept_typed c types d (Int j) null h of = absurd (of [])
  kept_typed c types d (Int j) (pointer o p) h of = absurd (of [])
  kept_typed c types d (Ptr k) (word n) h of = absurd (of [])
  kept_typed c types d (Ptr k) null h of = (
    h.1,
    subst (λ ty. 0 < words_of_ty ty) (sym h.0) (omega arith),
    subst
        (λ ty. ThereIs (λ w. (m : List Block) → IsOfType e (c m) (cell_type ty) w) (converted ty null)) (sym h.0) of,
  )
  kept_typed c types d (Ptr k) (pointer o p) h of = (
    h.1,
    subst (λ ty. 0 < words_of_ty ty) (sym h.0) (omega arith),
    subst
        (λ ty. ThereIs (λ w. (m : List Block) → IsOfType e (c m) (cell_type ty) w) (converted ty (pointer o p)))
        (sym h.0) of,
  )
  kept_typed c types d Void v h of = absurd h
  kept_typed c types d (Array k n) v h of = absurd h

  caller_types : (caller : Activation) (older : List Activation) →
      types_at e (caller ∷ older) caller.serial ≡ Some (types_of e caller)
  caller_types caller older = ap (λ t. if t then Some (types_of e caller) else types_at e older caller.serial)
      (eq-eqb caller.serial caller.serial refl)

  -- a caller's local is there
  pub kept_there : (c : Config) (caller : Activation) (older : List Activation) (memory : List Block) (d : Destination)
      → AreBlocks e c (caller ∷ older) memory → IsLocal (types_of e caller) d.local d.ty → 0 < words_of_ty d.ty →
      ThereIs (IsOfType e c (cell_type d.ty))
      (value_at (cells_at memory (record { serial = caller.serial; local = d.local })) 0)
  kept_there c caller older memory d blocks is words =
      value_there e c d.ty (cells_at memory (record { serial = caller.serial; local = d.local })) 0
      (subst (λ x. CellsMatch e c x (cells_at memory (record { serial = caller.serial; local = d.local })))
      (ap (λ tys. type_at e c tys d.local) (caller_types caller older) ∙ is)
      (object_match e c (caller ∷ older) memory blocks (record { serial = caller.serial; local = d.local }))) words

  -- a caller's local holds it
  pub kept_holds : (c : Config) (caller : Activation) (older : List Activation) (d : Destination) (v : Value Object) →
      IsLocal (types_of e caller) d.local d.ty → IsOfType e c (cell_type d.ty) v →
      MayHold e c (caller ∷ older) (record { serial = caller.serial; local = d.local }) v
  kept_holds c caller older d v is of tys ty these has =
      let both : Some (types_of e caller) ≡ Some tys = sym (caller_types caller older) ∙ these in
      let same : types_of e caller ≡ tys = cc both in
      let it : Some d.ty ≡ Some ty = sym is ∙ ap (λ ts. slice_get ts d.local) same ∙ has in
      let one : d.ty ≡ ty = cc it in
      subst (λ x. IsOfType e c (cell_type x) v) one of
