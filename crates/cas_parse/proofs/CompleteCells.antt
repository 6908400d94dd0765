-- What is spelled as the cells of a global is read as them.
use Rattle.std.proofs.Common.{◌≡◌, ℕ, Bool, true, false, List, [], ◌∷◌, ◌++◌, None, refl, ap, ◌∙◌, append_assoc}
use Rattle.cas_base.specs.declared.kind.Kind.{Kind}
use Rattle.cas_base.specs.declared.kind.Ty.{Ty}
use Rattle.cas_base.specs.declared.kind.Ty.TheVariants.{Int, Array}
use Rattle.cas_base.specs.declared.place.Place.{Place}
use Rattle.cas_lex.specs.declared.token.Token.{Token}
use Rattle.cas_lex.specs.declared.token.Sign.TheVariants as sg
use Rattle.cas_syntax.specs.declared.tree.Ident.{Ident}
use Rattle.cas_syntax.specs.Tree.{ItemTree}
use Rattle.cas_syntax.specs.Limits.{Limits}
use Rattle.cas_syntax.specs.Tokens.{sign}
use Rattle.cas_syntax.specs.Items.{SpellsValue, as_it_is, negative, SpellsValues, last_value, last_value_and_comma, one_value, SpellsCells, one_cell, one_cell_with_value, cells, cells_with_values, arrays}
use Rattle.cas_parse.specs.Frames.{Sort, Data, Frame, CellsKind, HaveKind, InItems, CellValue, WantCells, HaveCells, MoreCells, CellsEnd}
use Rattle.cas_parse.specs.Machine.{cells as cells_item, run, begins_kind}
use Rattle.cas_parse.proofs.CompleteNext.{next_is}
use Rattle.cas_parse.proofs.CompleteLimits.{leaves}

module _ (limits : Limits) where
  reads_value : {kd : Kind} {v : ℕ} {e : Place} {s r : List Token} → SpellsValue kd v s (sign sg.Semicolon e ∷ r) →
      (sort : Sort) (d : Bool) (x : Ident) (items : List ItemTree) (st : List Frame)
      → run limits s (CellValue (record { sort = sort; defined = d; kind = kd }) x items) st ≡ run limits r
      (InItems (items ++ cells_item (record { sort = sort; defined = d; kind = kd }) x (Int kd) (v ∷ []) ∷ [])) st
  reads_value (as_it_is n j p _) sort d x items st = refl
  reads_value (negative n j p q _) sort d x items st = refl

  takes_value : {kd : Kind} {v : ℕ} {s r : List Token} → SpellsValue kd v s r →
      (sort : Sort) (d : Bool) (x : Ident) (n : ℕ) (before : List ℕ) (items : List ItemTree) (st : List Frame)
      → run limits s (WantCells (record { sort = sort; defined = d; kind = kd }) x n before items) st ≡ run limits r
      (HaveCells (record { sort = sort; defined = d; kind = kd }) x n (before ++ v ∷ []) items) st
  takes_value (as_it_is n j p r) sort d x m before items st = refl
  takes_value (negative n j p q r) sort d x m before items st = refl

  begins_value : {kd : Kind} {v : ℕ} {s r : List Token} → SpellsValue kd v s r →
      (data_ : Data) (x : Ident) (n : ℕ) (before : List ℕ) (items : List ItemTree) (st : List Frame)
      → run limits s (MoreCells data_ x n before items) st ≡ run limits s (WantCells data_ x n before items) st
  begins_value (as_it_is n j p r) data_ x m before items st = refl
  begins_value (negative n j p q r) data_ x m before items st = refl

  begins_values : {kd : Kind} {vs : List ℕ} {s r : List Token} → SpellsValues kd vs s r →
      (data_ : Data) (x : Ident) (n : ℕ) (before : List ℕ) (items : List ItemTree) (st : List Frame)
      → run limits s (MoreCells data_ x n before items) st ≡ run limits s (WantCells data_ x n before items) st
  begins_values (last_value v s r h) data_ x n before items st = begins_value h data_ x n before items st
  begins_values (last_value_and_comma v p s r h) data_ x n before items st = begins_value h data_ x n before items st
  begins_values (one_value v vs p s t r h hs) data_ x n before items st = begins_value h data_ x n before items st

  reads_values : {kd : Kind} {vs : List ℕ} {g : Place} {s r : List Token} →
      SpellsValues kd vs s (sign sg.CloseBrace g ∷ r) →
      (sort : Sort) (d : Bool) (x : Ident) (n : ℕ) (before : List ℕ) (items : List ItemTree) (st : List Frame)
      → run limits s (WantCells (record { sort = sort; defined = d; kind = kd }) x n before items) st ≡ run limits r
      (CellsEnd (record { sort = sort; defined = d; kind = kd }) x (Array kd n) (before ++ vs) items) st
  reads_values (last_value v s _ h) sort d x n before items st = takes_value h sort d x n before items st
  reads_values (last_value_and_comma v p s _ h) sort d x n before items st = takes_value h sort d x n before items st
  reads_values {kd = kd} {r = r} (one_value v vs p s t _ h hs) sort d x n before items st =
      takes_value h sort d x n before items st
      ∙ begins_values hs (record { sort = sort; defined = d; kind = kd }) x n (before ++ v ∷ []) items st
      ∙ reads_values hs sort d x n (before ++ v ∷ []) items st
      ∙ ap (λ all. run limits r (CellsEnd (record { sort = sort; defined = d; kind = kd }) x (Array kd n) all items) st)
      (append_assoc before (v ∷ []) vs)

  pub reads_cells : {d : Bool} {kd : Kind} {x : Ident} {ty : Ty} {vs : List ℕ} {e : Place} {s r : List Token} →
      SpellsCells limits d kd x ty vs s (sign sg.Semicolon e ∷ r)
      → (sort : Sort) (items : List ItemTree) (st : List Frame)
      → run limits s (HaveKind None kd) (CellsKind sort d items ∷ st) ≡ run limits r
      (InItems (items ++ cells_item (record { sort = sort; defined = d; kind = kd }) x ty vs ∷ [])) st
  reads_cells (one_cell x _) sort items st = refl
  reads_cells {d = d} (one_cell_with_value x v p s _ is h) sort items st = rw is (reads_value h sort true x items st)
  reads_cells (cells x n j p o q _) sort items st = refl
  reads_cells {d = d} {kd = kd} (cells_with_values x n j vs p o q e f g s _ is h) sort items st =
      rw is (reads_values h sort true x n [] items st)
  reads_cells {e = e} {r = r} (arrays x n j p o q q' _ out) sort items st =
      rw (leaves limits (sign sg.Semicolon e ∷ r) out)

pub cells_no_kind : {limits : Limits} {d : Bool} {kd : Kind} {x : Ident} {ty : Ty} {vs : List ℕ} {s r : List Token} →
    SpellsCells limits d kd x ty vs s r → next_is begins_kind s ≡ false
cells_no_kind (one_cell x r) = refl
cells_no_kind _ = refl
