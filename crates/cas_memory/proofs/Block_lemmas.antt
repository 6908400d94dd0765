-- What the locals of an activation have, as the code holds them.
use Rattle.std.proofs.Common.{arith, ◌≡◌, ℕ, zero, suc, ◌+◌, ◌-◌, ◌<◌, ◌≤◌, nat_lt, Bool, true, false, List, [], ◌∷◌, ◌++◌, length, map, take, drop, set, get_or, replicate, Option, Some, None, refl, sym, ap, subst, ◌∙◌}
use Rattle.std.specs.Prelude.{slice_get, if◌then◌else◌}
use Rattle.std.specs.Option.{option_map}
use Rattle.std.proofs.lemmas.Bool.Decides.{nat_tests}
use Rattle.std.proofs.lemmas.Option.{slice_get-map, get_or_from_slice_get}
use Rattle.std.proofs.lemmas.List.{length-take-le, length-drop, length-map, length-append, length-replicate, set-get_or, take-append-le, take_all, drop_at, drop-append-le, take-set-le, drop-set-lt, drop-set-add, map-set, map-append, append_assoc}
use Rattle.cas_base.specs.declared.kind.Ty.{Ty}
use Rattle.cas_step.specs.Asks as asks
use Rattle.cas_step.specs.Answered.{size_of, value_at}
use Rattle.cas_step.specs.Step.{Object, local_at, locals_of, with_local}
use Rattle.cas_memory.specs.Blocks.{cells_in, locals_in, block_of, cells_at_first}
use Rattle.cas_memory.specs.Spans.{AreSpans, place_in}
use Rattle.cas_memory.specs.Values.{value_of}
use Rattle.cas_memory.specs.declared.block.Block.{Block}
use Rattle.cas_memory.specs.declared.block.Span.{Span}
use Rattle.cas_memory.specs.declared.value.Value.{Value}

-- elements of a part of a list

get_take : {X : Type 0} (xs : List X) (n i : ℕ) → i < n → slice_get (take n xs) i ≡ slice_get xs i
get_take xs zero i less = absurd (omega (arith, less))
get_take [] (suc n) i less = refl
get_take (x ∷ xs) (suc n) zero less = refl
get_take (x ∷ xs) (suc n) (suc i) less = get_take xs n i (omega (arith, less))

get_take_past : {X : Type 0} (xs : List X) (n i : ℕ) → n ≤ i → slice_get (take n xs) i ≡ None
get_take_past xs zero i past = refl
get_take_past [] (suc n) i past = refl
get_take_past (x ∷ xs) (suc n) zero past = absurd (omega (arith, past))
get_take_past (x ∷ xs) (suc n) (suc i) past = get_take_past xs n i (omega (arith, past))

get_drop : {X : Type 0} (xs : List X) (n i : ℕ) → slice_get (drop n xs) i ≡ slice_get xs (n + i)
get_drop xs zero i = ap (slice_get xs) (omega arith)
get_drop [] (suc n) i = refl
get_drop (x ∷ xs) (suc n) i = get_drop xs n i ∙ ap (slice_get (x ∷ xs))
    (let e : suc (n + i) ≡ suc n + i = omega arith in e)

take_set : {X : Type 0} (xs : List X) (n i : ℕ) (x : X) → take n (set xs i x) ≡ set (take n xs) i x
take_set xs zero i x = refl
take_set [] (suc n) i x = refl
take_set (y ∷ xs) (suc n) zero x = refl
take_set (y ∷ xs) (suc n) (suc i) x = ap (λ l. y ∷ l) (take_set xs n i x)

set_none : {X : Type 0} (xs : List X) (i : ℕ) (x : X) → slice_get xs i ≡ None → set xs i x ≡ xs
set_none [] i x is = refl
set_none (y ∷ xs) zero x is = absurd (cc is)
set_none (y ∷ xs) (suc i) x is = ap (λ l. y ∷ l) (set_none xs i x is)

-- spans go forward

ends_later : (from to : ℕ) (spans : List Span) → AreSpans from to spans → from ≤ to
ends_later from to [] h = omega (arith, h)
ends_later from to (s ∷ spans) h = omega (arith, ends_later (from + s.length) to spans h.1)

-- each span ends within the cells
pub span_within : (from to : ℕ) (spans : List Span) (n : ℕ) (s : Span) → AreSpans from to spans →
    slice_get spans n ≡ Some s → s.first + s.length ≤ to
span_within from to [] n s h is = absurd (cc is)
span_within from to (t ∷ spans) zero s h is =
    let same : t ≡ s = cc is in
    subst (λ u. u.first + u.length ≤ to) same (omega (arith, h.0, ends_later (from + t.length) to spans h.1))
span_within from to (t ∷ spans) (suc n) s h is = span_within (from + t.length) to spans n s h.1 is

span_from : (from to : ℕ) (spans : List Span) (n : ℕ) (s : Span) → AreSpans from to spans → slice_get spans n ≡ Some s →
    from ≤ s.first
span_from from to [] n s h is = absurd (cc is)
span_from from to (t ∷ spans) zero s h is = let same : t ≡ s =
    cc is in subst (λ u. from ≤ u.first) same (omega (arith, h.0))
span_from from to (t ∷ spans) (suc n) s h is = omega (arith, span_from (from + t.length) to spans n s h.1 is)

-- a place of a local is one of the cells
place_is_within : (to : ℕ) (spans : List Span) (o : Option Span) (n i at : ℕ) → AreSpans 0 to spans →
    slice_get spans n ≡ o → Some at ≡ place_in o i → at < to
place_is_within to spans None n i at h has is = absurd (cc is)
place_is_within to spans (Some s) n i at h has is = grind (arith, nat_tests, span_within 0 to spans n s h has, is)

pub place_within : (b : Block) (n i at : ℕ) → Some at ≡ place_in (slice_get b.spans.items n) i →
    at < length b.cells.items
place_within b n i at is = place_is_within (length b.cells.items) b.spans.items (slice_get b.spans.items n)
    n i at b.whole refl is

-- what a block has

local_is : (b : Block) (n : ℕ) (o : Option Span) → slice_get b.spans.items n ≡ o →
    local_at (Some (block_of b).locals) n ≡ option_map (cells_in (map value_of b.cells.items)) o
local_is b n o is = slice_get-map (cells_in (map value_of b.cells.items)) b.spans.items n
    ∙ ap (option_map (cells_in (map value_of b.cells.items))) is

pub local_absent : (b : Block) (n : ℕ) → slice_get b.spans.items n ≡ None → local_at (Some (block_of b).locals) n ≡ None
local_absent b n is = local_is b n None is

-- how many cells a local of a block has
pub size_there : (b : Block) (n : ℕ) (s : Span) → slice_get b.spans.items n ≡ Some s →
    size_of (local_at (Some (block_of b).locals) n) ≡ Some s.length
size_there b n s is =
    let cells = map value_of b.cells.items in
    ap size_of (local_is b n (Some s) is)
    ∙ ap Some (length-take-le s.length (drop s.first cells)
    (omega (
      arith,
      length-drop s.first cells,
      length-map b.cells.items value_of,
      span_within 0
          (length b.cells.items) b.spans.items n s b.whole is,
    )))

-- the value at a place of the cells, if there is one
abbrev cell_there : List Value → Option ℕ → Option Value
cell_there cells None = None
cell_there cells (Some at) = slice_get cells at

value_within : (cells : List Value) (s : Span) (i : ℕ) (less : Bool) → nat_lt i s.length ≡ less →
    slice_get (cells_in (map value_of cells) s) i ≡ option_map value_of
    (cell_there cells (if less then Some (s.first + i) else None))
value_within cells s i true is = get_take (drop s.first (map value_of cells)) s.length i (grind (arith, nat_tests))
    ∙ get_drop (map value_of cells) s.first i ∙ slice_get-map value_of cells (s.first + i)
value_within cells s i false is = get_take_past (drop s.first (map value_of cells)) s.length i
    (grind (arith, nat_tests))

value_is : (cells : List Value) (o : Option Span) (i : ℕ) →
    value_at (option_map (cells_in (map value_of cells)) o) i ≡ option_map value_of (cell_there cells (place_in o i))
value_is cells None i = refl
value_is cells (Some s) i = value_within cells s i (nat_lt i s.length) refl

loaded : (b : Block) (n i : ℕ) → value_at (local_at (Some (block_of b).locals) n) i ≡ option_map value_of
    (cell_there b.cells.items (place_in (slice_get b.spans.items n) i))
loaded b n i = ap (λ cells. value_at cells i) (local_is b n (slice_get b.spans.items n) refl)
    ∙ value_is b.cells.items (slice_get b.spans.items n) i

-- the value at a place of a local of a block
pub loaded_there : (b : Block) (n i at : ℕ) → Some at ≡ place_in (slice_get b.spans.items n) i →
    value_at (local_at (Some (block_of b).locals) n) i ≡ option_map value_of (slice_get b.cells.items at)
loaded_there b n i at is = loaded b n i ∙ ap (λ p. option_map value_of (cell_there b.cells.items p)) (sym is)

pub loaded_nowhere : (b : Block) (n i : ℕ) → None ≡ place_in (slice_get b.spans.items n) i →
    value_at (local_at (Some (block_of b).locals) n) i ≡ None
loaded_nowhere b n i is = loaded b n i ∙ ap (λ p. option_map value_of (cell_there b.cells.items p)) (sym is)

-- a cell that is written

module _ (v : asks.Value Object) where
  -- spans behind a cell, or before it, don't see it
  behind : (cells : List (asks.Value Object)) (from to at : ℕ) (spans : List Span) → AreSpans from to spans →
      at < from → locals_in spans (set cells at v) ≡ locals_in spans cells
  behind cells from to at [] h less = refl
  behind cells from to at (s ∷ spans) h less =
      let first : cells_in (set cells at v) s ≡ cells_in cells s =
      ap (take s.length) (drop-set-lt s.first cells at v (omega (arith, h.0, less))) in
      ap (λ x. x ∷ locals_in spans (set cells at v)) first
      ∙ ap (λ l. cells_in cells s ∷ l) (behind cells (from + s.length) to at spans h.1 (omega (arith, less)))

  before : (cells : List (asks.Value Object)) (s : Span) (at : ℕ) → s.first + s.length ≤ at →
      cells_in (set cells at v) s ≡ cells_in cells s
  before cells s at less =
      let is : s.first + (at - s.first) ≡ at = omega (arith, less) in
      ap (λ k. cells_in (set cells k v) s) (sym is)
      ∙ ap (take s.length) (drop-set-add s.first cells (at - s.first) v)
      ∙ take-set-le s.length (drop s.first cells) (at - s.first) v (omega (arith, less))

  written_first : (cells : List (asks.Value Object)) (from to i : ℕ) (s : Span) (spans : List Span) →
      AreSpans from to (s ∷ spans) → i < s.length →
      locals_in (s ∷ spans) (set cells (s.first + i) v) ≡ with_local (locals_in (s ∷ spans) cells) 0 i v
  written_first cells from to i s spans h less =
      let first : cells_in (set cells (s.first + i) v) s ≡ set (cells_in cells s) i v =
      ap (take s.length) (drop-set-add s.first cells i v) ∙ take_set (drop s.first cells) s.length i v in
      ap (λ x. x ∷ locals_in spans (set cells (s.first + i) v)) first
      ∙ ap (λ l. set (cells_in cells s) i v ∷ l) (behind cells (from + s.length) to (s.first + i) spans h.1
      (omega (arith, h.0, less)))

  written : (cells : List (asks.Value Object)) (from to n i : ℕ) (spans : List Span) (s : Span) →
      AreSpans from to spans → slice_get spans n ≡ Some s → i < s.length →
      locals_in spans (set cells (s.first + i) v) ≡ with_local (locals_in spans cells) n i v
  written cells from to n i [] s h is less = absurd (cc is)
  written cells from to zero i (t ∷ spans) s h is less =
      let same : t ≡ s = cc is in
      subst (λ u. locals_in (t ∷ spans) (set cells (u.first + i) v) ≡ with_local (locals_in (t ∷ spans) cells) 0 i v)
      same
      (written_first cells from to i t spans h (subst (λ u. i < u.length) (sym same) less))
  written cells from to (suc n) i (t ∷ spans) s h is less =
      ap (λ x. x ∷ locals_in spans (set cells (s.first + i) v))
      (before cells t (s.first + i) (omega (arith, h.0, span_from (from + t.length) to spans n s h.1 is)))
      ∙ ap (λ l. cells_in cells t ∷ l) (written cells (from + t.length) to n i spans s h.1 is less)

  -- if there is no such place all is as before
  not_written : (cells : List (asks.Value Object)) (spans : List Span) (n i : ℕ) (s : Span) →
      slice_get spans n ≡ Some s → s.length ≤ i → with_local (locals_in spans cells) n i v ≡ locals_in spans cells
  not_written cells spans n i s is past =
      let locals = locals_in spans cells in
      let found : get_or locals n [] ≡ cells_in cells s =
      get_or_from_slice_get locals n (cells_in cells s) []
      (slice_get-map (cells_in cells) spans n ∙ ap (option_map (cells_in cells)) is) in
      let same : set (cells_in cells s) i v ≡ cells_in cells s =
      set_none (cells_in cells s) i v (get_take_past (drop s.first cells) s.length i past) in
      ap (λ c. set locals n (set c i v)) found ∙ ap (set locals n) (same ∙ sym found) ∙ set-get_or locals n []

  nowhere_written : (cells : List (asks.Value Object)) (spans : List Span) (n i : ℕ) (o : Option Span) →
      slice_get spans n ≡ o → None ≡ place_in o i → with_local (locals_in spans cells) n i v ≡ locals_in spans cells
  nowhere_written cells spans n i None is none =
      set_none (locals_in spans cells) n (set (get_or (locals_in spans cells) n []) i v)
      (slice_get-map (cells_in cells) spans n ∙ ap (option_map (cells_in cells)) is)
  nowhere_written cells spans n i (Some s) is none = not_written cells spans n i s is (grind (arith, nat_tests, none))

  somewhere_written : (cells : List (asks.Value Object)) (to : ℕ) (spans : List Span) (n i at : ℕ) (o : Option Span) →
      AreSpans 0 to spans → slice_get spans n ≡ o → Some at ≡ place_in o i →
      locals_in spans (set cells at v) ≡ with_local (locals_in spans cells) n i v
  somewhere_written cells to spans n i at None h is place = absurd (cc place)
  somewhere_written cells to spans n i at (Some s) h is place =
      let less : i < s.length = grind (arith, nat_tests, place) in
      let there : at ≡ s.first + i = grind (arith, nat_tests, place) in
      ap (λ k. locals_in spans (set cells k v)) there ∙ written cells 0 to n i spans s h is less

-- the locals of a block with a value at a place, and if there is no such place
pub stored_there : (b : Block) (n i at : ℕ) (v : Value) → Some at ≡ place_in (slice_get b.spans.items n) i →
    locals_in b.spans.items (map value_of (set b.cells.items at v)) ≡ with_local (block_of b).locals n i (value_of v)
stored_there b n i at v place =
    ap (locals_in b.spans.items) (map-set value_of b.cells.items at v)
    ∙ somewhere_written (value_of v) (map value_of b.cells.items) (length b.cells.items) b.spans.items n i at
    (slice_get b.spans.items n) b.whole refl place

pub stored_nowhere : (b : Block) (n i : ℕ) (v : Value) → None ≡ place_in (slice_get b.spans.items n) i →
    with_local (block_of b).locals n i (value_of v) ≡ (block_of b).locals
stored_nowhere b n i v place = nowhere_written (value_of v) (map value_of b.cells.items) b.spans.items n i
    (slice_get b.spans.items n) refl place

-- one local more

more_spans : (from to : ℕ) (spans : List Span) (s : Span) → AreSpans from to spans → s.first ≡ to →
    AreSpans from (to + s.length) (spans ++ s ∷ [])
more_spans from to [] s h is = (omega (arith, h, is), omega (arith, h))
more_spans from to (t ∷ spans) s h is = (h.0, more_spans (from + t.length) to spans s h.1 is)

more_cells : (from to : ℕ) (spans : List Span) (xs ys : List (asks.Value Object)) → AreSpans from to spans →
    to ≤ length xs → locals_in spans (xs ++ ys) ≡ locals_in spans xs
more_cells from to [] xs ys h fits = refl
more_cells from to (s ∷ spans) xs ys h fits =
    let later : from + s.length ≤ to = ends_later (from + s.length) to spans h.1 in
    let dropped : drop s.first (xs ++ ys) ≡ drop s.first xs ++ ys =
    drop-append-le s.first xs ys (omega (arith, h.0, later, fits)) in
    let taken : take s.length (drop s.first xs ++ ys) ≡ take s.length (drop s.first xs) =
    take-append-le s.length (drop s.first xs) ys (omega (arith, h.0, later, fits, length-drop s.first xs)) in
    ap (λ x. x ∷ locals_in spans (xs ++ ys)) (ap (take s.length) dropped ∙ taken)
    ∙ ap (λ l. cells_in xs s ∷ l) (more_cells (from + s.length) to spans xs ys h.1 fits)

last_cells : (xs ys : List (asks.Value Object)) (s : Span) → s.first ≡ length xs → s.length ≡ length ys →
    cells_in (xs ++ ys) s ≡ ys
last_cells xs ys s first count = ap (take s.length) (drop_at xs ys s.first (sym first))
    ∙ take_all s.length ys (omega (arith, count))

map_replicate : (n : ℕ) (v : Value) → map value_of (replicate n v) ≡ replicate n (value_of v)
map_replicate zero v = refl
map_replicate (suc n) v = ap (λ l. value_of v ∷ l) (map_replicate n v)

-- spans and cells with one local more
pub whole_added : (spans all : List Span) (cells kept : List Value) (s : Span) (v : Value) →
    AreSpans 0 (length cells) spans → s.first ≡ length cells →
    all ≡ spans ++ s ∷ [] → kept ≡ cells ++ replicate s.length v → AreSpans 0 (length kept) all
whole_added spans all cells kept s v h first are have =
    let count : length kept ≡ length cells + s.length = ap length have ∙ length-append cells (replicate s.length v)
    ∙ ap (λ k. length cells + k) (length-replicate s.length v) in
    subst (λ n. AreSpans 0 n all) (sym count) (subst (AreSpans 0 (length cells + s.length)) (sym are)
    (more_spans 0 (length cells) spans s h first))

locals_added : (spans : List Span) (cells : List Value) (s : Span) (v : Value) → AreSpans 0 (length cells) spans →
    s.first ≡ length cells →
    locals_in (spans ++ s ∷ []) (map value_of (cells ++ replicate s.length v)) ≡ locals_in spans (map value_of cells)
    ++ replicate s.length (value_of v) ∷ []
locals_added spans cells s v h first =
    let xs = map value_of cells in
    let ys = replicate s.length (value_of v) in
    let values : map value_of (cells ++ replicate s.length v) ≡ xs ++ ys =
    map-append value_of cells (replicate s.length v) ∙ ap (λ l. xs ++ l) (map_replicate s.length v) in
    let older : locals_in spans (xs ++ ys) ≡ locals_in spans xs =
    more_cells 0 (length cells) spans xs ys h (omega (arith, length-map cells value_of)) in
    let newest : cells_in (xs ++ ys) s ≡ ys = last_cells xs ys s (first ∙ sym (length-map cells value_of))
    (sym (length-replicate s.length (value_of v))) in
    ap (locals_in (spans ++ s ∷ [])) values
    ∙ map-append (cells_in (xs ++ ys)) spans (s ∷ [])
    ∙ ap (λ l. l ++ cells_in (xs ++ ys) s ∷ []) older
    ∙ ap (λ c. locals_in spans xs ++ c ∷ []) newest

first_of_locals : (ty : Ty) (tys : List Ty) (values : List Value) →
    locals_of (ty ∷ tys) (map value_of values) ≡ cells_at_first ty (map value_of values) ∷ locals_of tys
    (map value_of (drop 1 values))
first_of_locals ty tys [] = refl
first_of_locals ty tys (v ∷ values) = refl

-- with one local more it continues as before
pub goes_on : (spans all : List Span) (cells kept values : List Value) (s : Span) (v : Value) (ty : Ty) (tys : List Ty)
    → AreSpans 0 (length cells) spans → s.first ≡ length cells →
    all ≡ spans ++ s ∷ [] → kept ≡ cells ++ replicate s.length v →
    replicate s.length (value_of v) ≡ cells_at_first ty (map value_of values) →
    locals_in all (map value_of kept) ++ locals_of tys (map value_of (drop 1 values)) ≡ locals_in spans
    (map value_of cells) ++ locals_of (ty ∷ tys) (map value_of values)
goes_on spans all cells kept values s v ty tys h first are have begins =
    let behind = locals_of tys (map value_of (drop 1 values)) in
    let now : locals_in all (map value_of kept) ≡ locals_in spans (map value_of cells) ++ cells_at_first ty
    (map value_of values) ∷ [] =
    ap (λ l. locals_in l (map value_of kept)) are ∙ ap (λ l. locals_in (spans ++ s ∷ []) (map value_of l)) have
    ∙ locals_added spans cells s v h first ∙ ap (λ c. locals_in spans (map value_of cells) ++ c ∷ []) begins in
    ap (λ l. l ++ behind) now
    ∙ append_assoc (locals_in spans (map value_of cells)) (cells_at_first ty (map value_of values) ∷ []) behind
    ∙ ap (λ l. locals_in spans (map value_of cells) ++ l) (sym (first_of_locals ty tys values))
