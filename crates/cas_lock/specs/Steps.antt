-- The instructions of lock texts, as far as the accepted body needs them told apart.
use Rattle.std.specs.Prelude.{ℕ, ◌==◌, Bool, ◌&&◌, false, if◌then◌else◌, List, [], ◌∷◌, codes}
use Rattle.std.specs.Char.{is_ascii_digit}
use Rattle.std.specs.List.{list_all}
use Rattle.std.specs.Str.Parse.{digits_value}
use Rattle.cas_pieces.specs.declared.piece.Mark.TheVariants.{Comma, Open, Close}
use Rattle.cas_pieces.specs.declared.piece.Piece.{Piece}
use Rattle.cas_pieces.specs.declared.piece.Piece.TheVariants.{Word, Mark}
use Rattle.cas_pieces.specs.Marks.{is_mark, spells}
use Rattle.cas_lock.specs.declared.step.Step.{Step}
use Rattle.cas_lock.specs.declared.step.Step.TheVariants.{LockDec, Jns, CmpZero, Jle, Jmp, Ret, MovOne, Other}

-- decimal digits of this value, perhaps with zeros before them
abbrev pub is_value : List ℕ → ℕ → Bool
is_value x n = list_all is_ascii_digit x && (digits_value 10 x == n)

-- a piece is a decimal number of this value
abbrev pub has_value : Piece → ℕ → Bool
has_value (Word x) n = is_value x n
has_value (Mark m) n = false

-- `[eax]`
abbrev pub is_at_eax : Piece → Piece → Piece → Bool
is_at_eax left reg right = is_mark left Open && spells reg (codes "eax") && is_mark right Close

-- an instruction of one word
abbrev pub lone : Piece → Step
lone word = if spells word (codes "ret") then Ret else Other

-- a jump to a label
abbrev pub jump_to : Piece → List ℕ → Step
jump_to word label =
    if spells word (codes "jns") then Jns label else (
    if spells word (codes "jle") then Jle label else (
    if spells word (codes "jmp") then Jmp label else Other))

abbrev pub jump : Piece → Piece → Step
jump word (Word label) = jump_to word label
jump word (Mark m) = Other

-- an instruction of the lock's word and a number
abbrev pub with_number : Piece → Piece → Step
with_number word number =
    if spells word (codes "cmp") && has_value number 0 then CmpZero else (
    if spells word (codes "mov") && has_value number 1 then MovOne else Other)

-- the instruction that these pieces are
abbrev pub step_of : List Piece → Step
step_of (word ∷ []) = lone word
step_of (word ∷ label ∷ []) = jump word label
step_of (first ∷ second ∷ left ∷ reg ∷ right ∷ []) =
    if spells first (codes "lock") && spells second (codes "dec") && is_at_eax left reg right then LockDec else Other
step_of (word ∷ left ∷ reg ∷ right ∷ comma ∷ number ∷ []) =
    if is_at_eax left reg right && is_mark comma Comma then with_number word number else Other
step_of _ = Other
