-- Rows that are added after those before, and set.
use Rattle.std.proofs.Common.{◌≡◌, ◌<◌, ◌≤◌, ℕ, zero, suc, ◌+◌, List, [], ◌∷◌, ◌++◌, length, set, Option, Some, None, Ok, refl, ap, sym, subst, ◌∙◌, arith}
use Rattle.std.specs.List.{slice_get}
use Rattle.std.proofs.lemmas.List.{length-append}
use Rattle.std.proofs.Math.ListN.{length-set}
use Rattle.cas_base.specs.declared.place.Place.{Place}
use Rattle.cas_typed.specs.declared.rows.StmtRow.{StmtRow}
use Rattle.cas_typed.specs.declared.rows.StmtRowForm.{StmtRowForm}
use Rattle.cas_typed.specs.declared.rows.StmtRowForm.TheVariants as row
use Rattle.cas_typed.specs.declared.tree.TypedExpr.{TypedExpr}
use Rattle.cas_typed.specs.Numbered.{size_of, size_of_option, size_of_list, At, IsRow, IsPartRow, AreRows, optional_expr_tree}
use Rattle.cas_typed.specs.Resolved.{typed_expr_tree, TypedStmtTree, block, if_, while_, do_, for_, TypedStmtOption, absent, present, TypedStmtList, no_more, one_more}
use Rattle.cas_type.specs.Rows.{Adds, plain_tree}
use Rattle.cas_type.proofs.Kept_rows.{Same, Same-within, IsRow-kept, IsPartRow-kept, AreRows-kept}

get_last : (xs : List StmtRow) (r : StmtRow) → slice_get (xs ++ r ∷ []) (length xs) ≡ Some r
get_last [] r = refl
get_last (x ∷ xs) r = get_last xs r

get_before : (xs ys : List StmtRow) (i : ℕ) → i < length xs → slice_get (xs ++ ys) i ≡ slice_get xs i
get_before [] ys i h = absurd (omega arith)
get_before (x ∷ xs) ys zero h = refl
get_before (x ∷ xs) ys (suc i) h = get_before xs ys i (omega arith)

get_set : (xs : List StmtRow) (i : ℕ) (r : StmtRow) → i < length xs → slice_get (set xs i r) i ≡ Some r
get_set [] i r h = absurd (omega arith)
get_set (x ∷ xs) zero r h = refl
get_set (x ∷ xs) (suc i) r h = get_set xs i r (omega arith)

get_set_other : (xs : List StmtRow) (i j : ℕ) (r : StmtRow) → (j ≡ i → ⊥) → slice_get (set xs i r) j ≡ slice_get xs j
get_set_other [] i j r h = refl
get_set_other (x ∷ xs) zero zero r h = absurd (h refl)
get_set_other (x ∷ xs) zero (suc j) r h = refl
get_set_other (x ∷ xs) (suc i) zero r h = refl
get_set_other (x ∷ xs) (suc i) (suc j) r h = get_set_other xs i j r (λ e. h (ap suc e))

-- a row is added
pub Adds-one : (old new : List StmtRow) (r : StmtRow) → new ≡ old ++ r ∷ [] → Adds old new 1
Adds-one old new r is = (
  ap length is ∙ length-append old (r ∷ []),
  λ i low. ap (λ rows. slice_get rows i) is
      ∙ get_before old (r ∷ []) i low,
)

-- rows are added in two steps
pub Adds-then : (old made new : List StmtRow) (m n : ℕ) → Adds old made m → Adds made new n → Adds old new (m + n)
Adds-then old made new m n h k =
    let first : length made ≡ length old + m = h.0 in
    let second : length new ≡ length made + n = k.0 in
    (omega arith, λ i low. k.1 i (omega arith) ∙ h.1 i low)

-- no row is added
pub Adds-none : (rows : List StmtRow) → Adds rows rows 0
Adds-none rows = (omega arith, λ i low. refl)

-- the rows before are the same
pub Adds-same : (old new : List StmtRow) (n first end : ℕ) → Adds old new n → end ≤ length old → Same old new first end
Adds-same old new n first end h within i low high = h.1 i (omega arith)

-- a row stands for a statement that is given
abbrev IsSomeRow : List StmtRow → ℕ → Place → StmtRowForm → Option TypedStmtTree → Type 0
IsSomeRow rows n p form (Some a) = IsRow rows n a p form × (size_of a ≡ 1)
IsSomeRow rows n p form None = ⊥

-- a row without parts
pub plain_row : (rows : List StmtRow) (n : ℕ) (p : Place) (form : StmtRowForm) (a : TypedStmtTree) →
    plain_tree p form ≡ Some a → IsRow rows n a p form × (size_of a ≡ 1)
plain_row rows n p row.Skip a h = subst (λ o. IsSomeRow rows n p row.Skip o) h (refl, refl)
plain_row rows n p (row.Assign target e) a h = subst (λ o. IsSomeRow rows n p (row.Assign target e) o) h
    ((refl, refl, refl), refl)
plain_row rows n p (row.Call kept g at args) a h = subst (λ o. IsSomeRow rows n p (row.Call kept g at args) o) h
    ((refl, refl, refl, refl, refl), refl)
plain_row rows n p row.Break a h = subst (λ o. IsSomeRow rows n p row.Break o) h (refl, refl)
plain_row rows n p row.Continue a h = subst (λ o. IsSomeRow rows n p row.Continue o) h (refl, refl)
plain_row rows n p (row.Return e) a h = subst (λ o. IsSomeRow rows n p (row.Return e) o) h ((refl, refl), refl)
plain_row rows n p (row.Lock g) a h = subst (λ o. IsSomeRow rows n p (row.Lock g) o) h ((refl, refl), refl)
plain_row rows n p (row.Unlock g) a h = subst (λ o. IsSomeRow rows n p (row.Unlock g) o) h ((refl, refl), refl)
plain_row rows n p (row.Print e) a h = subst (λ o. IsSomeRow rows n p (row.Print e) o) h ((refl, refl), refl)
plain_row rows n p _ a h = cc

-- a row is set behind whose number those of its parts were added
pub set_row : (old begun made new : List StmtRow) (n count : ℕ) (p : Place) (form begins : StmtRowForm)
    (a : TypedStmtTree)
    → n ≡ length old → begun ≡ old ++ record { place = p; form = begins } ∷ [] → Adds begun made count
    → new ≡ set made n (record { place = p; form = form }) → size_of a ≡ suc count → IsRow made n a p form
    → IsPartRow new (length old) (present a) (Some n) × Adds old new (size_of a)
set_row old begun made new n count p form begins a number is added becomes size h =
    let r : StmtRow = record { place = p; form = form } in
    let one : Adds old begun 1 = Adds-one old begun (record { place = p; form = begins }) is in
    let begun_length : length begun ≡ length old + 1 = one.0 in
    let made_length : length made ≡ length begun + count = added.0 in
    let new_length : length new ≡ length made = ap length becomes ∙ length-set made n r in
    let other : (i : ℕ) → (i ≡ n → ⊥) → slice_get new i ≡ slice_get made i =
    λ i apart. ap (λ rows. slice_get rows i) becomes ∙ get_set_other made n i r apart in (
      (
        number,
        (
          r,
          ap (λ rows. slice_get rows n) becomes ∙ get_set made n r (omega arith),
          IsRow-kept made new n a p form (λ i low high. other i (λ e. omega arith)) h,
        ),
      ),
      (omega arith, λ i low. other i (λ e. omega arith) ∙ added.1 i (omega arith) ∙ one.1 i low),
    )

pub while_row : (old begun made new : List StmtRow) (n i : ℕ) (p : Place) (begins : StmtRowForm) (c : TypedExpr)
    (a : TypedStmtTree)
    → n ≡ length old → begun ≡ old ++ record { place = p; form = begins } ∷ []
    → IsPartRow made (length begun) (present a) (Some i) → Adds begun made (size_of a)
    → new ≡ set made n (record { place = p; form = row.While c i })
    → IsPartRow new (length old) (present (while_ p (typed_expr_tree c) a)) (Some n)
    × Adds old new (size_of (while_ p (typed_expr_tree c) a))
while_row old begun made new n i p begins c a number is part added becomes =
    let one : Adds old begun 1 = Adds-one old begun (record { place = p; form = begins }) is in
    let begun_length : length begun ≡ length old + 1 = one.0 in
    let from : i ≡ length begun = part.0 in
    set_row old begun made new n (size_of a) p (row.While c i) begins (while_ p (typed_expr_tree c) a)
    number is added becomes (omega arith)
    (refl, refl, omega arith, part.1)

pub do_row : (old begun made new : List StmtRow) (n i : ℕ) (p : Place) (begins : StmtRowForm) (c : TypedExpr)
    (a : TypedStmtTree)
    → n ≡ length old → begun ≡ old ++ record { place = p; form = begins } ∷ []
    → IsPartRow made (length begun) (present a) (Some i) → Adds begun made (size_of a)
    → new ≡ set made n (record { place = p; form = row.Do i c })
    → IsPartRow new (length old) (present (do_ p a (typed_expr_tree c))) (Some n)
    × Adds old new (size_of (do_ p a (typed_expr_tree c)))
do_row old begun made new n i p begins c a number is part added becomes =
    let one : Adds old begun 1 = Adds-one old begun (record { place = p; form = begins }) is in
    let begun_length : length begun ≡ length old + 1 = one.0 in
    let from : i ≡ length begun = part.0 in
    set_row old begun made new n (size_of a) p (row.Do i c) begins (do_ p a (typed_expr_tree c)) number is added becomes
    (omega arith)
    (refl, omega arith, part.1, refl)

pub block_row : (old begun made new : List StmtRow) (n : ℕ) (ns : List ℕ) (p : Place) (begins : StmtRowForm)
    (bs : TypedStmtList)
    → n ≡ length old → begun ≡ old ++ record { place = p; form = begins } ∷ []
    → AreRows made (length begun) bs ns → Adds begun made (size_of_list bs)
    → new ≡ set made n (record { place = p; form = row.Block ns })
    → IsPartRow new (length old) (present (block p bs)) (Some n) × Adds old new (size_of (block p bs))
block_row old begun made new n ns p begins bs number is parts added becomes =
    let one : Adds old begun 1 = Adds-one old begun (record { place = p; form = begins }) is in
    let begun_length : length begun ≡ length old + 1 = one.0 in
    let from : length begun ≡ n + 1 = omega arith in
    set_row old begun made new n (size_of_list bs) p (row.Block ns) begins (block p bs) number is added becomes
    (omega arith)
    (refl, subst (λ m. AreRows made m bs ns) from parts)

pub if_row : (old begun middle made new : List StmtRow) (n i : ℕ) (j : Option ℕ) (p : Place) (begins : StmtRowForm)
    (c : TypedExpr) (a : TypedStmtTree) (o : TypedStmtOption)
    → n ≡ length old → begun ≡ old ++ record { place = p; form = begins } ∷ []
    → IsPartRow middle (length begun) (present a) (Some i) → Adds begun middle (size_of a)
    → IsPartRow made (length middle) o j → Adds middle made (size_of_option o)
    → new ≡ set made n (record { place = p; form = row.If c i j })
    → IsPartRow new (length old) (present (if_ p (typed_expr_tree c) a o)) (Some n)
    × Adds old new (size_of (if_ p (typed_expr_tree c) a o))
if_row old begun middle made new n i j p begins c a o number is first added second more becomes =
    let one : Adds old begun 1 = Adds-one old begun (record { place = p; form = begins }) is in
    let begun_length : length begun ≡ length old + 1 = one.0 in
    let middle_length : length middle ≡ length begun + size_of a = added.0 in
    let from : i ≡ length begun = first.0 in
    let next : length middle ≡ n + 1 + size_of a = omega arith in
    let stays : IsPartRow made (length begun) (present a) (Some i) =
    IsPartRow-kept middle made (length begun) (present a) (Some i)
    (Adds-same middle made (size_of_option o) (length begun) (length begun + size_of_option (present a)) more
    (omega arith)) first in
    set_row old begun made new n (size_of a + size_of_option o) p (row.If c i j) begins (if_ p (typed_expr_tree c) a o)
    number is
    (Adds-then begun middle made (size_of a) (size_of_option o) added more) becomes (omega arith)
    (refl, refl, omega arith, stays.1, subst (λ m. IsPartRow made m o j) next second)

pub for_row : (old begun first second made new : List StmtRow) (n k : ℕ) (x y : Option ℕ) (p : Place)
    (begins : StmtRowForm) (c : Option TypedExpr) (i u : TypedStmtOption) (a : TypedStmtTree)
    → n ≡ length old → begun ≡ old ++ record { place = p; form = begins } ∷ []
    → IsPartRow first (length begun) i x → Adds begun first (size_of_option i)
    → IsPartRow second (length first) u y → Adds first second (size_of_option u)
    → IsPartRow made (length second) (present a) (Some k) → Adds second made (size_of a)
    → new ≡ set made n (record { place = p; form = row.For x c y k })
    → IsPartRow new (length old) (present (for_ p i (optional_expr_tree c) u a)) (Some n)
    × Adds old new (size_of (for_ p i (optional_expr_tree c) u a))
for_row old begun first second made new n k x y p begins c i u a number is begin added next more body rest becomes =
    let one : Adds old begun 1 = Adds-one old begun (record { place = p; form = begins }) is in
    let begun_length : length begun ≡ length old + 1 = one.0 in
    let first_length : length first ≡ length begun + size_of_option i = added.0 in
    let second_length : length second ≡ length first + size_of_option u = more.0 in
    let at_first : length begun ≡ n + 1 = omega arith in
    let at_next : length first ≡ n + 1 + size_of_option i = omega arith in
    let from : k ≡ length second = body.0 in
    let both : Adds first made (size_of_option u + size_of a) =
    Adds-then first second made (size_of_option u) (size_of a) more rest in
    let stays : IsPartRow made (length begun) i x =
    IsPartRow-kept first made (length begun) i x (Adds-same first made (size_of_option u + size_of a) (length begun)
    (length begun + size_of_option i) both (omega arith)) begin in
    let remains : IsPartRow made (length first) u y =
    IsPartRow-kept second made (length first) u y (Adds-same second made (size_of a) (length first)
    (length first + size_of_option u) rest (omega arith)) next in
    set_row old begun made new n (size_of_option i + (size_of_option u + size_of a)) p (row.For x c y k) begins
    (for_ p i (optional_expr_tree c) u a) number is
    (Adds-then begun first made (size_of_option i) (size_of_option u + size_of a) added both) becomes (omega arith) (
      refl,
      subst (λ m. IsPartRow made m i x) at_first stays,
      refl,
      subst (λ m. IsPartRow made m u y)
          at_next remains,
      omega arith,
      body.1,
    )
