-- What memory has where a thread is sound, and that it stays so.
use Rattle.std.proofs.Common.{arith, ◌≡◌, ℕ, zero, suc, ◌<◌, ◌≤◌, Bool, true, false, List, [], ◌∷◌, length, Option, Some, None, refl, sym, ap, subst, ◌∙◌, if◌then◌else◌}
use Rattle.std.specs.Prelude.{⊤, nat_eq, slice_get, slice_set}
use Rattle.cas_base.specs.Ty.{words_of_ty}
use Rattle.cas_base.specs.declared.kind.Kind.{Kind}
use Rattle.cas_base.specs.declared.kind.Ty.{Ty}
use Rattle.cas_base.specs.declared.kind.Ty.TheVariants.{Void, Int, Ptr, Array}
use Rattle.cas_step.specs.Asks.{Value, word, null, pointer}
use Rattle.cas_step.specs.Env.{Env}
use Rattle.cas_step.specs.Sound.{types_of, types_at, IsObjectOf, PointsTo, IsOfType, cell_type, EachOfType, AreLocals, AreBlocks}
use Rattle.cas_step.specs.Answered.{size_of, value_at}
use Rattle.cas_step.specs.Step.{Object, Activation, Block, Config, locals_at, local_at, cells_at, with_local, memory_with}
use Rattle.cas_step.proofs.Values.{ThereIs}

module _ (e : Env) where
  -- of the objects of the first thread the second has no more
  pub record IsLater (c d : Config) : Type 0 where
    pub later : c.fresh ≤ d.fresh
    pub reach : (n : ℕ) (tys : List Ty) → n < c.fresh → types_at e d.activations n ≡ Some tys →
        types_at e c.activations n ≡ Some tys

  pub points_later : (c d : Config) → IsLater c d → (k : Kind) (o : Object) (p : ℕ) → PointsTo e c k o p →
      PointsTo e d k o p
  points_later c d l k o p h = record {
    begun_before = omega (arith, h.begun_before, l.later);
    in_reach = λ tys is. h.in_reach tys (l.reach o.serial tys h.begun_before is);
  }

  pub value_later : (c d : Config) → IsLater c d → (ty : Ty) (v : Value Object) → IsOfType e c ty v → IsOfType e d ty v
  value_later c d l (Int k) (word n) h = h
  value_later c d l (Int k) null h = absurd h
  value_later c d l (Int k) (pointer o p) h = absurd h
  value_later c d l (Ptr k) (word n) h = absurd h
  value_later c d l (Ptr k) null h = tt
  value_later c d l (Ptr k) (pointer o p) h = points_later c d l k o p h
  value_later c d l Void (word n) h = absurd h
  value_later c d l Void null h = absurd h
  value_later c d l Void (pointer o p) h = absurd h
  value_later c d l (Array k m) (word n) h = absurd h
  value_later c d l (Array k m) null h = absurd h
  value_later c d l (Array k m) (pointer o p) h = absurd h

  each_later : (c d : Config) → IsLater c d → (ty : Ty) (vs : List (Value Object)) → EachOfType e c ty vs →
      EachOfType e d ty vs
  each_later c d l ty [] h = tt
  each_later c d l ty (v ∷ vs) h = (value_later c d l ty v h.0, each_later c d l ty vs h.1)

  locals_later : (c d : Config) → IsLater c d → (tys : List Ty) (locals : List (List (Value Object))) →
      AreLocals e c tys locals → AreLocals e d tys locals
  locals_later c d l [] [] h = tt
  locals_later c d l [] (cells ∷ locals) h = absurd h
  locals_later c d l (ty ∷ tys) [] h = absurd h
  locals_later c d l (ty ∷ tys) (cells ∷ locals) h =
      (h.0, each_later c d l (cell_type ty) cells h.1, locals_later c d l tys locals h.2)

  pub blocks_later : (c d : Config) → IsLater c d → (activations : List Activation) (memory : List Block) →
      AreBlocks e c activations memory → AreBlocks e d activations memory
  blocks_later c d l [] [] h = tt
  blocks_later c d l [] (b ∷ bs) h = absurd h
  blocks_later c d l (a ∷ older) [] h = absurd h
  blocks_later c d l (a ∷ older) (b ∷ bs) h =
      (h.0, locals_later c d l (types_of e a) b.locals h.1, blocks_later c d l older bs h.2)

-- what is there

module _ (e : Env) (c : Config) where
  -- the locals of an activation are of these types; or it has returned
  abbrev pub LocalsMatch : Option (List Ty) → Option (List (List (Value Object))) → Type 0
  LocalsMatch None None = ⊤
  LocalsMatch None (Some locals) = ⊥
  LocalsMatch (Some tys) None = ⊥
  LocalsMatch (Some tys) (Some locals) = AreLocals e c tys locals

  -- the cells of a local are of this type; or it isn't there
  abbrev pub CellsMatch : Option Ty → Option (List (Value Object)) → Type 0
  CellsMatch None None = ⊤
  CellsMatch None (Some cells) = ⊥
  CellsMatch (Some ty) None = ⊥
  CellsMatch (Some ty) (Some cells) = (length cells ≡ words_of_ty ty) × EachOfType e c (cell_type ty) cells

  match_by : (b : Bool) (tys : List Ty) (locals : List (List (Value Object))) (x : Option (List Ty))
      (y : Option (List (List (Value Object)))) → AreLocals e c tys locals → LocalsMatch x y →
      LocalsMatch (if b then Some tys else x) (if b then Some locals else y)
  match_by true tys locals x y h m = h
  match_by false tys locals x y h m = m

  pub locals_match : (activations : List Activation) (memory : List Block) → AreBlocks e c activations memory →
      (serial : ℕ) → LocalsMatch (types_at e activations serial) (locals_at memory serial)
  locals_match [] [] h serial = tt
  locals_match [] (b ∷ bs) h serial = absurd h
  locals_match (a ∷ older) [] h serial = absurd h
  locals_match (a ∷ older) (b ∷ bs) h serial =
      subst (λ n. LocalsMatch (types_at e (a ∷ older) serial)
      (if nat_eq n serial then Some b.locals else locals_at bs serial)) (sym h.0)
      (match_by (nat_eq a.serial serial) (types_of e a) b.locals (types_at e older serial) (locals_at bs serial) h.1
      (locals_match older bs h.2 serial))

  cells_match : (tys : List Ty) (locals : List (List (Value Object))) → AreLocals e c tys locals → (n : ℕ) →
      CellsMatch (slice_get tys n) (slice_get locals n)
  cells_match [] [] h n = tt
  cells_match [] (cells ∷ locals) h n = absurd h
  cells_match (ty ∷ tys) [] h n = absurd h
  cells_match (ty ∷ tys) (cells ∷ locals) h zero = (h.0, h.1)
  cells_match (ty ∷ tys) (cells ∷ locals) h (suc n) = cells_match tys locals h.2 n

  -- the type of one of these locals
  abbrev pub type_at : Option (List Ty) → (local : ℕ) → Option Ty
  type_at None n = None
  type_at (Some tys) n = slice_get tys n

  local_match : (x : Option (List Ty)) (y : Option (List (List (Value Object)))) → LocalsMatch x y → (n : ℕ) →
      CellsMatch (type_at x n) (local_at y n)
  local_match None None h n = tt
  local_match None (Some locals) h n = absurd h
  local_match (Some tys) None h n = absurd h
  local_match (Some tys) (Some locals) h n = cells_match tys locals h n

  pub object_match : (activations : List Activation) (memory : List Block) → AreBlocks e c activations memory →
      (o : Object) → CellsMatch (type_at (types_at e activations o.serial) o.local) (cells_at memory o)
  object_match activations memory h o = local_match (types_at e activations o.serial) (locals_at memory o.serial)
      (locals_match activations memory h o.serial) o.local

  cell_there : (ty : Ty) (cells : List (Value Object)) (p : ℕ) → EachOfType e c ty cells → p < length cells →
      ThereIs (IsOfType e c ty) (slice_get cells p)
  cell_there ty [] p h less = absurd (omega (arith, less))
  cell_there ty (v ∷ vs) zero h less = h.0
  cell_there ty (v ∷ vs) (suc p) h less = cell_there ty vs p h.1 (omega (arith, less))

  pub value_there : (ty : Ty) (cells : Option (List (Value Object))) (p : ℕ) → CellsMatch (Some ty) cells →
      p < words_of_ty ty → ThereIs (IsOfType e c (cell_type ty)) (value_at cells p)
  value_there ty None p h less = absurd h
  value_there ty (Some cells) p h less = cell_there (cell_type ty) cells p h.1 (subst (λ n. p < n) (sym h.0) less)

  size_there : (ty : Ty) (cells : Option (List (Value Object))) (m : ℕ) → CellsMatch (Some ty) cells →
      size_of cells ≡ Some m → m ≡ words_of_ty ty
  size_there ty None m h is = absurd h
  size_there ty (Some cells) m h is = let same : length cells ≡ m = cc is in sym same ∙ h.0

  -- an object to which a pointer points, and which is live
  pub record IsLive (k : Kind) (o : Object) (p m : ℕ) (types : Option (List Ty)) (cells : Option (List (Value Object)))
      : Type 0 where
    pub ty : Ty
    pub has_type : type_at types o.local ≡ Some ty
    pub is_object : IsObjectOf ty k
    pub within : p ≤ words_of_ty ty
    pub size : m ≡ words_of_ty ty
    pub matching : CellsMatch (Some ty) cells

  nothing_there : {C : Type 0} (cells : Option (List (Value Object))) (m : ℕ) → CellsMatch None cells →
      size_of cells ≡ Some m → C
  nothing_there None m h is = absurd (cc is)
  nothing_there (Some cells) m h is = absurd h

  pub reached : (k : Kind) (o : Object) (p m : ℕ) (types : Option (List Ty)) (cells : Option (List (Value Object))) →
      types_at e c.activations o.serial ≡ types → PointsTo e c k o p →
      CellsMatch (type_at types o.local) cells → size_of cells ≡ Some m → IsLive k o p m types cells
  reached k o p m None cells is points match size = nothing_there cells m match size
  reached k o p m (Some tys) cells is points match size =
      let (ty, has, object, below) = points.in_reach tys is in
      let found : CellsMatch (Some ty) cells = subst (λ x. CellsMatch x cells) has match in
      record {
        ty = ty;
        has_type = has;
        is_object = object;
        within = below;
        size =
            size_there ty cells m found size;
        matching = found;
      }

-- what is stored

module _ (e : Env) (c : Config) where
  each_set : (ty : Ty) (cells : List (Value Object)) (p : ℕ) (v : Value Object) → EachOfType e c ty cells →
      IsOfType e c ty v → EachOfType e c ty (slice_set cells p v)
  each_set ty [] p v h k = tt
  each_set ty (w ∷ ws) zero v h k = (k, h.1)
  each_set ty (w ∷ ws) (suc p) v h k = (h.0, each_set ty ws p v h.1 k)

  set_length : (cells : List (Value Object)) (p : ℕ) (v : Value Object) → length (slice_set cells p v) ≡ length cells
  set_length [] p v = refl
  set_length (w ∷ ws) zero v = refl
  set_length (w ∷ ws) (suc p) v = omega (arith, set_length ws p v)

  local_set : (tys : List Ty) (locals : List (List (Value Object))) (n p : ℕ) (v : Value Object) →
      AreLocals e c tys locals →
      ((ty : Ty) → slice_get tys n ≡ Some ty → IsOfType e c (cell_type ty) v) →
      AreLocals e c tys (with_local locals n p v)
  local_set [] [] n p v h ok = tt
  local_set [] (cells ∷ locals) n p v h ok = absurd h
  local_set (ty ∷ tys) [] n p v h ok = absurd h
  local_set (ty ∷ tys) (cells ∷ locals) zero p v h ok =
      (set_length cells p v ∙ h.0, each_set (cell_type ty) cells p v h.1 (ok ty refl), h.2)
  local_set (ty ∷ tys) (cells ∷ locals) (suc n) p v h ok = (h.0, h.1, local_set tys locals n p v h.2 ok)

  -- the value is of the type of the cells of this object, where it is there
  abbrev pub MayHold : List Activation → Object → Value Object → Type 0
  MayHold activations o v = (tys : List Ty) (ty : Ty) → types_at e activations o.serial ≡ Some tys →
      slice_get tys o.local ≡ Some ty → IsOfType e c (cell_type ty) v

  set_by : (a : Activation) (older : List Activation) (b : Block) (bs : List Block) (o : Object) (i : ℕ)
      (v : Value Object) (here : Bool) → nat_eq a.serial o.serial ≡ here → AreBlocks e c (a ∷ older) (b ∷ bs) →
      MayHold (a ∷ older) o v →
      (MayHold older o v → AreBlocks e c older (memory_with bs o i v)) →
      AreBlocks e c (a ∷ older) (if here then record { serial = b.serial; locals = with_local b.locals o.local i v } ∷
      bs else b ∷ memory_with bs o i v)
  set_by a older b bs o i v true is h ok rest = (
    h.0,
    local_set (types_of e a) b.locals o.local i v h.1
        (λ ty has. ok (types_of e a) ty (ap (λ t. if t then Some (types_of e a) else types_at e older o.serial) is) has),
    h.2,
  )
  set_by a older b bs o i v false is h ok rest = (
    h.0,
    h.1,
    rest
        (λ tys ty has. ok tys ty (ap (λ t. if t then Some (types_of e a) else types_at e older o.serial) is ∙ has)),
  )

  pub blocks_set : (activations : List Activation) (memory : List Block) (o : Object) (i : ℕ) (v : Value Object) →
      AreBlocks e c activations memory → MayHold activations o v → AreBlocks e c activations (memory_with memory o i v)
  blocks_set [] [] o i v h ok = tt
  blocks_set [] (b ∷ bs) o i v h ok = absurd h
  blocks_set (a ∷ older) [] o i v h ok = absurd h
  blocks_set (a ∷ older) (b ∷ bs) o i v h ok =
      subst (λ n. AreBlocks e c (a ∷ older)
      (if nat_eq n o.serial then record { serial = b.serial; locals = with_local b.locals o.local i v } ∷ bs else b
      ∷ memory_with bs o i v)) (sym h.0)
      (set_by a older b bs o i v (nat_eq a.serial o.serial) refl h ok (λ k. blocks_set older bs o i v h.2 k))
