-- A table of functions of activations with more of them: what is before a call stays as it is.
use Rattle.std.proofs.Common.{◌≡◌, ℕ, ◌<◌, ◌≤◌, List, [], ◌∷◌, ◌⊎◌, ⊎_elim, Option, Some, None, Bool, slice_get, refl, sym, ap, ◌∙◌, subst, arith}
use Rattle.cas_base.specs.declared.kind.Ty.{Ty}
use Rattle.cas_base.specs.declared.kind.Ty.TheVariants.{Void, Int, Ptr, Array}
use Rattle.cas_typed.specs.declared.tree.Destination.{Destination}
use Rattle.cas_typed.specs.Resolved.{TypedModuleTree}
use Rattle.cas_step.specs.Asks as asks
use Rattle.cas_step.specs.Env.{Env}
use Rattle.cas_step.specs.Sound.{types_at, IsOfType, cell_type, EachOfType, AreBlocks, AreActivations}
use Rattle.cas_step.specs.Step as step
use Rattle.cas_step.specs.Step.{Activation, Block, Config, cells_at}
use Rattle.cas_step.proofs.Memory as sound
use Rattle.cas_step.proofs.Memory.{type_at, object_match}
use Rattle.cas_step.proofs.Keeping.{AreArguments, types_before}
use Rattle.cas_runs.specs.Label.{NameBytes}
use Rattle.cas_runs.specs.Naming.{Own, Value, Memory}
use Rattle.cas_runs.specs.Calls.{Waits}
use Rattle.cas_clight.specs.Clight as clight
use Rattle.cas_clight.specs.Clight.{ClightFun, resumed}
use Rattle.cas_bridge.specs.Alike.{numbers, nulls, pointers}
use Rattle.cas_bridge.specs.Matching.{home_of, points, ObjectsMatch, ValuesMatch, AllValuesMatch, CellMatches, CellsMatch, BlocksMatch, MemoryMatches}
use Rattle.cas_bridge.specs.Threads.{Program, IsFunction, AreOwners, frames_of, results_count}

-- below or not
pub below_or_not : (n m : ℕ) → (n < m) ⊎ (m ≤ n)
below_or_not n m = grind (arith)

-- the tables agree on the activations that have begun before
module _ (owner after : ℕ → ClightFun) (before : ℕ) (same : (n : ℕ) → n < before → after n ≡ owner n)
    (modules : List TypedModuleTree) (e : Env) where
  object_after : (o : step.Object) (o' : clight.Object) → o.serial < before → ObjectsMatch owner o o' →
      ObjectsMatch after o o'
  object_after o o' less h = record {
    home = h.home ∙ ap (λ (f : ClightFun). Own f.decl.name o.serial o.local) (sym (same o.serial less));
    points = h.points
        ∙ ap (λ (f : ClightFun). clight.keeps_pointer (slice_get f.locals o.local)) (sym (same o.serial less));
  }

  module _ (c : Config) (begun : c.fresh ≤ before) where
    pub value_after : (ty : Ty) (v : asks.Value step.Object) (v' : asks.Value clight.Object) → IsOfType e c ty v →
        ValuesMatch owner v v' → ValuesMatch after v v'
    value_after ty v v' of (numbers n) = numbers n
    value_after ty v v' of nulls = nulls
    value_after ty v v' of (pointers {o = o} {o' = o'} p h flag) =
        pointers p (object_after o o' (before_of ty of) h) flag
      where
        before_of : (ty : Ty) → IsOfType e c ty (asks.pointer o p) → o.serial < before
        before_of (Ptr k) i = let less = i.begun_before in omega (arith, less, begun)
        before_of (Int k) i = absurd i
        before_of Void i = absurd i
        before_of (Array k n) i = absurd i

    -- so do arguments
    pub arguments_after : (tys : List Ty) (vs : List (asks.Value step.Object)) (vs' : List (asks.Value clight.Object)) →
        AreArguments e c tys vs → AllValuesMatch owner vs vs' → AllValuesMatch after vs vs'
    arguments_after tys [] [] of h = tt
    arguments_after tys [] (v' ∷ vs') of h = absurd h
    arguments_after tys (v ∷ vs) [] of h = absurd h
    arguments_after [] (v ∷ vs) (v' ∷ vs') of h = absurd of
    arguments_after (ty ∷ tys) (v ∷ vs) (v' ∷ vs') of h =
        (value_after ty v v' of.0 h.0, arguments_after tys vs vs' of.1 h.1)

    cell_after : (ty : Ty) (b : Bool) (v : asks.Value step.Object) (x : Value) → IsOfType e c ty v →
        CellMatches owner b v x → CellMatches after b v x
    cell_after ty b v x of h = (h.0, h.1, value_after ty v h.0 of h.2)

    cells_after : (ty : Ty) (b : Bool) (vs : List (asks.Value step.Object)) (xs : List Value) → EachOfType e c ty vs →
        CellsMatch owner b vs xs → CellsMatch after b vs xs
    cells_after ty b [] [] of h = tt
    cells_after ty b [] (x ∷ xs) of h = absurd h
    cells_after ty b (v ∷ vs) [] of h = absurd h
    cells_after ty b (v ∷ vs) (x ∷ xs) of h = (cell_after ty b v x of.0 h.0, cells_after ty b vs xs of.1 h.1)

    block_after : (ty : Option Ty) (b : Bool) (vs : Option (List (asks.Value step.Object))) (xs : Option (List Value)) →
        sound.CellsMatch e c ty vs → BlocksMatch owner b vs xs → BlocksMatch after b vs xs
    block_after ty b None None of h = tt
    block_after ty b None (Some xs) of h = absurd h
    block_after ty b (Some vs) None of h = absurd h
    block_after None b (Some vs) (Some xs) of h = absurd of
    block_after (Some ty) b (Some vs) (Some xs) of h = cells_after (cell_type ty) b vs xs of.1 h

    -- memories that match under the one table match under the other
    pub memory_after : (activations : List Activation) (memory : List Block) (m : Memory) →
        AreActivations modules e before activations → AreBlocks e c activations memory →
        ((f : NameBytes) (serial block : ℕ) → before ≤ serial → m (Own f serial block) ≡ None) →
        MemoryMatches owner (cells_at memory) m → MemoryMatches after (cells_at memory) m
    memory_after activations memory m acts blocks none h o =
        ⊎_elim (λ less. here less) (λ late. later late) (below_or_not o.serial before)
      where
        of : sound.CellsMatch e c (type_at e c (types_at e activations o.serial) o.local) (cells_at memory o)
        of = object_match e c activations memory blocks o

        here : o.serial < before → BlocksMatch after (points after o) (cells_at memory o) (m (home_of after o))
        here less = subst (λ (f : ClightFun). BlocksMatch after (clight.keeps_pointer (slice_get f.locals o.local))
            (cells_at memory o) (m (Own f.decl.name o.serial o.local))) (sym (same o.serial less))
            (block_after (type_at e c (types_at e activations o.serial) o.local) (points owner o) (cells_at memory o)
            (m (home_of owner o)) of (h o))

        untyped : (t : Option (List Ty)) → types_at e activations o.serial ≡ t → before ≤ o.serial →
            sound.CellsMatch e c (type_at e c t o.local) (cells_at memory o) →
            sound.CellsMatch e c None (cells_at memory o)
        untyped None is late g = g
        untyped (Some tys) is late g =
            let less = types_before modules e before o.serial activations tys acts is in
            absurd (omega (arith, less, late))

        none_there : (vs : Option (List (asks.Value step.Object))) (xs : Option (List Value)) →
            sound.CellsMatch e c None vs → xs ≡ None → BlocksMatch after (points after o) vs xs
        none_there None xs g is = subst (λ x. BlocksMatch after (points after o) None x) (sym is) tt
        none_there (Some vs) xs g is = absurd g

        later : before ≤ o.serial → BlocksMatch after (points after o) (cells_at memory o) (m (home_of after o))
        later late = none_there (cells_at memory o) (m (home_of after o))
            (untyped (types_at e activations o.serial) refl late of)
            (none (after o.serial).decl.name o.serial o.local late)

  -- so do what waits, and the functions of activations
  pub frames_after : (bound : ℕ) → bound ≤ before → (activations : List Activation) →
      AreActivations modules e bound activations → (called : ClightFun) (target : Option Destination) →
      frames_of after called target activations ≡ frames_of owner called target activations
  frames_after bound le [] acts called target = refl
  frames_after bound le (a ∷ older) acts called target =
      let less = acts.0 in
      let is : after a.serial ≡ owner a.serial = same a.serial (omega (arith, less, le)) in
      ap (λ (f : ClightFun). Waits f a.serial (Some (results_count called)) (resumed f a.serial a.cont target)
      ∷ frames_of after f a.target older) is
      ∙ ap (λ rest. Waits (owner a.serial) a.serial (Some (results_count called))
      (resumed (owner a.serial) a.serial a.cont target) ∷ rest)
      (frames_after a.serial (omega (arith, less, le)) older acts.3 (owner a.serial) a.target)

  pub owners_after : (p : Program) (bound : ℕ) → bound ≤ before → (activations : List Activation) →
      AreActivations modules e bound activations → AreOwners p owner activations → AreOwners p after activations
  owners_after p bound le [] acts h = tt
  owners_after p bound le (a ∷ older) acts h =
      let less = acts.0 in (
        subst (λ f. IsFunction p a.function f) (sym (same a.serial (omega (arith, less, le)))) h.0,
        owners_after p a.serial (omega (arith, less, le)) older acts.3 h.1,
      )
