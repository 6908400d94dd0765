-- The rows of the tables of words.
use Rattle.std.proofs.Common.{◌≡◌, ℕ, zero, suc, ◌≤◌, length, arith, List, [], ◌∷◌, map, Option, None, Some, find, bytes_eq, slice_get, refl, sym, ap, ◌∙◌}
use Rattle.cas_base.specs.Names.{IsRow, IsDistinct, IsTable}
use Rattle.cas_base.proofs.NameTables.{IsDistinct-from_all_differ}
use Rattle.cas_pieces.proofs.Tables.{find-no_row, find-row}
use Rattle.cas_base.specs.declared.reg.Reg.{Reg}
use Rattle.cas_asm.specs.declared.cond.Cond.{Cond}
use Rattle.cas_object_line.specs.declared.mnemonic.Mnemonic.{Mnemonic}
use Rattle.cas_object_line.specs.Tables.{mnemonic_text, mnemonics, mnemonic_rows, mnemonic_of, condition_text, conditions, condition_rows, condition_of, register_text, registers, register_rows, register_of}

-- every row has something beside it
at_row : {A : Type 0} (spelling : A → List ℕ) (cs : List A) (k : ℕ) (x : List ℕ) → IsRow (map spelling cs) k x → (c : A)
    × (slice_get cs k ≡ Some c)
at_row s [] k x row = absurd cc
at_row s (c ∷ cs) zero x row = (c, refl)
at_row s (c ∷ cs) (suc k) x row = at_row s cs k x row

found_at : {A : Type 0} (spelling : A → List ℕ) (cs : List A) (k : ℕ) (x : List ℕ) (found : Option A) →
    IsDistinct (map spelling cs) → IsRow (map spelling cs) k x → found ≡ slice_get cs k →
    found ≡ find (λ c. bytes_eq (spelling c) x) cs
found_at s cs k x found distinct row is =
    let beside = at_row s cs k x row in
    is ∙ (beside.1 ∙ sym (find-row s cs k beside.0 x distinct beside.1 row))

pub mnemonic-table : IsTable 46 mnemonic_rows
mnemonic-table = (refl, IsDistinct-from_all_differ mnemonic_rows refl)

pub mnemonic-found : (names : List (List ℕ)) (k : ℕ) (x : List ℕ) (found : Option Mnemonic) → names ≡ mnemonic_rows →
    IsRow names k x → found ≡ slice_get mnemonics k → found ≡ mnemonic_of x
mnemonic-found names k x found is row beside = found_at mnemonic_text mnemonics k x found mnemonic-table.1
    (rw is at row) beside

pub mnemonic-none : (names : List (List ℕ)) (x : List ℕ) → names ≡ mnemonic_rows → ((k : ℕ) → IsRow names k x → ⊥) →
    ◌≡◌ {A = Option Mnemonic} None (mnemonic_of x)
mnemonic-none names x is none =
    sym (find-no_row mnemonic_text mnemonics x (λ (k : ℕ) (row : IsRow mnemonic_rows k x). none k (rw is row)))

pub condition-table : IsTable 16 condition_rows
condition-table = (refl, IsDistinct-from_all_differ condition_rows refl)

pub condition-found : (names : List (List ℕ)) (k : ℕ) (x : List ℕ) (found : Option Cond) → names ≡ condition_rows →
    IsRow names k x → found ≡ slice_get conditions k → found ≡ condition_of x
condition-found names k x found is row beside = found_at condition_text conditions k x found condition-table.1
    (rw is at row) beside

pub condition-none : (names : List (List ℕ)) (x : List ℕ) → names ≡ condition_rows → ((k : ℕ) → IsRow names k x → ⊥) →
    ◌≡◌ {A = Option Cond} None (condition_of x)
condition-none names x is none =
    sym (find-no_row condition_text conditions x (λ (k : ℕ) (row : IsRow condition_rows k x). none k (rw is row)))

pub register-table : IsTable 8 register_rows
register-table = (refl, IsDistinct-from_all_differ register_rows refl)

pub register-found : (names : List (List ℕ)) (k : ℕ) (x : List ℕ) (found : Option Reg) → names ≡ register_rows →
    IsRow names k x → found ≡ slice_get registers k → found ≡ register_of x
register-found names k x found is row beside = found_at register_text registers k x found register-table.1
    (rw is at row) beside

pub register-none : (names : List (List ℕ)) (x : List ℕ) → names ≡ register_rows → ((k : ℕ) → IsRow names k x → ⊥) →
    ◌≡◌ {A = Option Reg} None (register_of x)
register-none names x is none =
    sym (find-no_row register_text registers x (λ (k : ℕ) (row : IsRow register_rows k x). none k (rw is row)))

-- past the last row there is none
pub past : {A : Type 0} (cs : List A) (k : ℕ) → length cs ≤ k → slice_get cs k ≡ None
past [] k h = refl
past (c ∷ cs) zero h = absurd (omega arith)
past (c ∷ cs) (suc k) h = past cs k (omega arith)
