-- Where a body differs from the accepted one, which is
--   lock:   lock dec [eax] / jns enter / spin: cmp [eax], 0 / jle spin / jmp lock / enter: ret
--   unlock: mov [eax], 1 / ret
use Rattle.std.specs.Prelude.{ℕ, ◌==◌, Bool, true, false, not, ◌&&◌, ◌||◌, if◌then◌else◌, nat_lt, List, [], ◌∷◌, length, filter, codes, Option, Some, None, slice_get}
use Rattle.std.specs.List.{list_any, position}
use Rattle.std.specs.Str.{bytes_eq}
use Rattle.cas_lock.specs.declared.body.Label.{Label}
use Rattle.cas_lock.specs.declared.step.Step.{Step}
use Rattle.cas_lock.specs.declared.step.Step.TheVariants.{LockDec, Jns, CmpZero, Jle, Jmp, Ret, MovOne, Other}

-- a label is set before this instruction
abbrev pub is_label : List Label → List ℕ → ℕ → Bool
is_label labels name k = list_any (λ label. bytes_eq label.name name && (label.place == k)) labels

-- how often a label is set
abbrev pub times_set : List Label → List ℕ → ℕ
times_set labels name = length (filter (λ label. bytes_eq label.name name) labels)

-- a jump to this label goes to this instruction: the label is set once, and there
abbrev pub is_target : List Label → List ℕ → ℕ → Bool
is_target labels name k = (times_set labels name == 1) && is_label labels name k

-- an instruction is the accepted one at its place, from 0
abbrev pub fits_step : List Label → ℕ → Step → Bool
fits_step labels k LockDec = k == 0
fits_step labels k (Jns label) = (k == 1) && is_target labels label 5
fits_step labels k CmpZero = k == 2
fits_step labels k (Jle label) = (k == 3) && is_target labels label 2
fits_step labels k (Jmp label) = (k == 4) && is_target labels label 0
fits_step labels k Ret = (k == 5) || (k == 7)
fits_step labels k MovOne = k == 6
fits_step labels k Other = false

-- two tests with the same result
abbrev pub agree : Bool → Bool → Bool
agree true found = found
agree false found = not found

-- `lock` is at the first instruction and `unlock` at the seventh, and at no other
abbrev pub fits_labels : List Label → ℕ → Bool
fits_labels labels k = agree (k == 0) (is_label labels (codes "lock") k) && agree (k == 6)
    (is_label labels (codes "unlock") k)

-- there is an instruction at this place, and it and its labels are the accepted ones
abbrev pub fits_at : List Label → ℕ → Option Step → Bool
fits_at labels k None = false
fits_at labels k (Some step) = fits_step labels k step && fits_labels labels k

abbrev pub fits : List Label → List Step → ℕ → Bool
fits labels steps k = fits_at labels k (slice_get steps k)

-- the first of the eight instructions that isn't the accepted one
abbrev pub first_misfit : List Label → List Step → Option ℕ
first_misfit labels steps =
    position (λ k. not (fits labels steps k)) (0 ∷ 1 ∷ 2 ∷ 3 ∷ 4 ∷ 5 ∷ 6 ∷ 7 ∷ [])

-- the first instruction that differs, where a ninth one does
abbrev pub or_ninth : Option ℕ → ℕ → Option ℕ
or_ninth (Some k) count = Some k
or_ninth None count = if nat_lt 8 count then Some 8 else None

-- the number, from 0, of the first instruction that differs from the accepted body
abbrev pub first_difference : List Label → List Step → Option ℕ
first_difference labels steps = or_ninth (first_misfit labels steps) (length steps)
