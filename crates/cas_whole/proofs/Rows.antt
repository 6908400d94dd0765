-- What items stand for, a row for each module.
use Rattle.std.proofs.Common.{◌≡◌, ℕ, List, [], ◌∷◌, length, map, Option, Some, None, refl, sym, ap, ◌∙◌}
use Rattle.std.specs.Borrow.{Bor}
use Rattle.std.specs.Prelude.{slice_get, Result, Ok, Err, IfOk}
use Rattle.std.specs.List.{find}
use Rattle.std.specs.Option.{option_map}
use Rattle.std.specs.Str.{bytes_eq}
use Rattle.std.proofs.lemmas.Option.{slice_get-map}
use Rattle.std.proofs.lemmas.List.{length-map}
use Rattle.cas_base.specs.declared.decl.Decl.{Decl}
use Rattle.cas_base.specs.declared.decl.Form.{Form}
use Rattle.cas_base.specs.declared.decl.Form.TheVariants.{Lock, Shared, Table, Function as AFunction}
use Rattle.cas_settle.specs.Settle.{cells_of, place_of}
use Rattle.cas_settle.specs.declared.link.CellRow.{CellRow}
use Rattle.cas_step.specs.Env as env
use Rattle.cas_memory.specs.Entities.{entity_of, entity_if}
use Rattle.cas_memory.specs.declared.entity.Entity.{Entity}
use Rattle.cas_program.specs.Program.{entity_of_cell, function_entity, stands_for, declared_entity, item_entity}
use Rattle.cas_whole.specs.Names.{named, meant, meant_by}
use Rattle.cas_whole.specs.Whole.{entity_in, entity_at}

-- what is there of what may be there
joined : {X : Type 0} → Option (Option X) → Option X
joined None = None
joined (Some o) = o

abbrev pub entities_of : List (Option Entity) → List (Option env.Entity)
entities_of row = map (option_map entity_of) row

if_joined : (o : Option (Option Entity)) → entity_if o ≡ joined (option_map (option_map entity_of) o)
unfolding joined
if_joined None = refl
if_joined (Some None) = refl
if_joined (Some (Some x)) = refl

module _ (units : List (List Decl)) (stands : Decl → Option env.Entity)
    (same : (d : Decl) → stands d ≡ stands_for units d.name d.form) where
  declared_joined : (o : Option Decl) → joined (option_map stands o) ≡ declared_entity units o
  unfolding joined
  declared_joined None = refl
  declared_joined (Some d) = same d

  row_is : (row : List (Option Entity)) (ds : List Decl) (g : ℕ) → entities_of row ≡ map stands ds →
      entity_if (slice_get row g) ≡ declared_entity units (slice_get ds g)
  row_is row ds g is =
      if_joined (slice_get row g)
      ∙ ap joined (sym (slice_get-map (option_map entity_of) row g) ∙ ap (λ vs. slice_get vs g) is
      ∙ slice_get-map stands ds g)
      ∙ declared_joined (slice_get ds g)

  in_row : (g : ℕ) (row : Option (List (Option Entity))) (ds : Option (List Decl)) →
      option_map entities_of row ≡ option_map (map stands) ds → entity_in g row ≡ item_entity units g ds
  in_row g None None is = refl
  in_row g None (Some ds) is = absurd (cc is)
  in_row g (Some row) None is = absurd (cc is)
  in_row g (Some row) (Some ds) is = let both : entities_of row ≡ map stands ds = cc is in row_is row ds g both

  pub rows_are : (items : List (List (Option Entity))) → map entities_of items ≡ map (map stands) units → (n g : ℕ) →
      entity_at items n g ≡ item_entity units g (slice_get units n)
  rows_are items is n g =
      in_row g (slice_get items n) (slice_get units n)
      (sym (slice_get-map entities_of items n) ∙ ap (λ vs. slice_get vs n) is ∙ slice_get-map (map stands) units n)

row_lengths : {X Y : Type 0} (f : X → Y) (rows : List (List X)) → map length (map (map f) rows) ≡ map length rows
row_lengths f [] = refl
row_lengths f (row ∷ rows) = λ i. length-map row f i ∷ row_lengths f rows i

-- there are as many in each row as declarations
pub rows_full : (units : List (List Decl)) (stands : Decl → Option env.Entity) (items : List (List (Option Entity))) →
    map entities_of items ≡ map (map stands) units → map length items ≡ map length units
rows_full units stands items is = sym (row_lengths (option_map entity_of) items) ∙ ap (map length) is
    ∙ row_lengths stands units

-- what the tables have is what declarations stand for
module _ (units : List (List Decl)) (functions cells : List (Bor (List ℕ) × Entity)) (rows : List CellRow)
    (are : rows ≡ cells_of units)
    (has_functions : (q : List ℕ) → named functions q ≡ option_map function_entity (place_of units q))
    (has_cells : (q : List ℕ) → named cells q ≡ option_map entity_of_cell (find (λ row. bytes_eq q row.name) rows))
  where
    cell_named_so : (name : List ℕ) → named cells name ≡ option_map entity_of_cell
        (find (λ row. bytes_eq name row.name) (cells_of units))
    cell_named_so name =
        has_cells name ∙ ap (λ rows. option_map entity_of_cell (find (λ row. bytes_eq name row.name) rows)) are

    form_meant : (name : List ℕ) (form : Form) → meant functions cells name form ≡ stands_for units name form
    form_meant name Lock = cell_named_so name
    form_meant name (Shared ty lock) = cell_named_so name
    form_meant name (Table ty) = cell_named_so name
    form_meant name (AFunction ret params holds) = has_functions name

    pub declared_meant : (d : Decl) → meant_by functions cells d ≡ stands_for units d.name d.form
    declared_meant d = form_meant d.name d.form

-- as the code answers it

pub rows_if : {E : Type 0} (o : Result (List (List (Option Entity))) E) (units : List (List Decl))
    (stands : Decl → Option env.Entity) → ((d : Decl) → stands d ≡ stands_for units d.name d.form) →
    IfOk o (λ items. map entities_of items ≡ map (map stands) units) →
    IfOk o (λ items. (n g : ℕ) → entity_at items n g ≡ item_entity units g (slice_get units n))
rows_if (Ok items) units stands same is = rows_are units stands same items is
rows_if (Err e) units stands same is = tt

pub full_if : {E : Type 0} (o : Result (List (List (Option Entity))) E) (units : List (List Decl))
    (stands : Decl → Option env.Entity) →
    IfOk o (λ items. map entities_of items ≡ map (map stands) units) →
    IfOk o (λ items. map length items ≡ map length units)
full_if (Ok items) units stands is = rows_full units stands items is
full_if (Err e) units stands is = tt
