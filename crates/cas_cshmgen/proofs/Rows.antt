-- The row with a number.
use Rattle.std.proofs.Common.{◌≡◌, ◌<◌, ℕ, List, length, get_or, subst}
use Rattle.std.proofs.lemmas.Option.{slice_get-get_or}
use Rattle.cas_check.specs.View.{IsTable, PartsAreWithin}
use Rattle.cas_check.proofs.Parts_within.{row_within}
use Rattle.cas_typed.specs.declared.rows.StmtRow.{StmtRow}
use Rattle.cas_typed.specs.Numbered.{At, IsRow}
use Rattle.cas_typed.specs.Resolved.{TypedStmtTree}

pub row_at : (rows : List StmtRow) (n : ℕ) (d : StmtRow) → IsTable rows → n < length rows →
    PartsAreWithin n (length rows) (get_or rows n d).form
row_at rows n d table less = row_within rows n (get_or rows n d) table (slice_get-get_or rows n d less)

pub row_is : (rows : List StmtRow) (n : ℕ) (d : StmtRow) (a : TypedStmtTree) → n < length rows →
    At rows n (IsRow rows n a) → IsRow rows n a (get_or rows n d).place (get_or rows n d).form
row_is rows n d a less at =
    let same : at.0 ≡ get_or rows n d = let this = at.1 in let that = slice_get-get_or rows n d less in cc in
    subst (λ (r : StmtRow). IsRow rows n a r.place r.form) same at.2
