-- The parts of a statement's row have greater numbers.
use Rattle.std.proofs.Common.{◌≡◌, ◌<◌, ℕ, ◌+◌, List, [], ◌∷◌, Option, Some, None, arith}
use Rattle.std.specs.List.{All, AllByRecursion}
use Rattle.std.proofs.lemmas.List.Elements.{All-from_recursion}
use Rattle.cas_base.specs.declared.place.Place.{Place}
use Rattle.cas_typed.specs.declared.rows.StmtRow.{StmtRow}
use Rattle.cas_typed.specs.declared.rows.StmtRowForm.{StmtRowForm}
use Rattle.cas_typed.specs.declared.rows.StmtRowForm.TheVariants as row
use Rattle.cas_typed.specs.Numbered.{size_of, size_of_option, IsRow, IsPartRow, AreRows, one_part, parts_of}
use Rattle.cas_typed.specs.Resolved.{TypedStmtTree, skip, assign, call, block, if_, while_, do_, for_, break_, continue_, return_, lock, unlock, print, TypedStmtOption, absent, present, TypedStmtList, no_more, one_more}

abbrev AreLater : ℕ → List ℕ → Type 0
AreLater n ns = AllByRecursion (λ i. n < i) ns

part_later : (rows : List StmtRow) (n m : ℕ) (o : TypedStmtOption) (j : Option ℕ) (rest : List ℕ) → n < m →
    IsPartRow rows m o j → AreLater n rest → AreLater n (one_part j rest)
part_later rows n m absent None rest less h later = later
part_later rows n m (present a) (Some i) rest less h later = (let e : i ≡ m = h.0 in omega arith, later)
part_later rows n m absent (Some i) rest less h later = absurd h
part_later rows n m (present a) None rest less h later = absurd h

rows_later : (rows : List StmtRow) (n m : ℕ) (bs : TypedStmtList) (ns : List ℕ) → n < m → AreRows rows m bs ns →
    AreLater n ns
rows_later rows n m no_more [] less h = tt
rows_later rows n m (one_more a bs) (i ∷ is) less h =
    (let e : i ≡ m = h.0 in omega arith, rows_later rows n (m + size_of a) bs is (omega arith) h.2)
rows_later rows n m no_more (i ∷ is) less h = absurd h
rows_later rows n m (one_more a bs) [] less h = absurd h

parts_later : (rows : List StmtRow) (n : ℕ) (a : TypedStmtTree) (q : Place) (f : StmtRowForm) → IsRow rows n a q f →
    AreLater n (parts_of f)
parts_later rows n (skip p) q row.Skip h = tt
parts_later rows n (assign p target a) q (row.Assign target' a') h = tt
parts_later rows n (call p kept g at args) q (row.Call kept' g' at' args') h = tt
parts_later rows n (block p bs) q (row.Block ns) h = rows_later rows n (n + 1) bs ns (omega arith) h.1
parts_later rows n (if_ p c a o) q (row.If c' i j) h =
    (let e : i ≡ n + 1 = h.2 in omega arith, part_later rows n (n + 1 + size_of a) o j [] (omega arith) h.4 tt)
parts_later rows n (while_ p c a) q (row.While c' i) h = (let e : i ≡ n + 1 = h.2 in omega arith, tt)
parts_later rows n (do_ p a c) q (row.Do i c') h = (let e : i ≡ n + 1 = h.1 in omega arith, tt)
parts_later rows n (for_ p i c u a) q (row.For k c' j b) h =
    part_later rows n (n + 1) i k (one_part j (b ∷ [])) (omega arith) h.1
    (part_later rows n (n + 1 + size_of_option i) u j (b ∷ []) (omega arith) h.3
    (let e : b ≡ n + 1 + size_of_option i + size_of_option u = h.4 in omega arith, tt))
parts_later rows n (break_ p) q row.Break h = tt
parts_later rows n (continue_ p) q row.Continue h = tt
parts_later rows n (return_ p a) q (row.Return a') h = tt
parts_later rows n (lock p g) q (row.Lock g') h = tt
parts_later rows n (unlock p g) q (row.Unlock g') h = tt
parts_later rows n (print p a) q (row.Print a') h = tt
parts_later rows n _ q _ h = absurd h

pub IsRow-later : (rows : List StmtRow) (n : ℕ) (a : TypedStmtTree) (q : Place) (f : StmtRowForm) → IsRow rows n a q f →
    All (λ i. n < i) (parts_of f)
IsRow-later rows n a q f h = All-from_recursion (λ i. n < i) (parts_of f) (parts_later rows n a q f h)
