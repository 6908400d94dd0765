-- The lines of lock texts.
use Rattle.std.specs.Prelude.{Bool, true, false, ◌&&◌, ◌||◌, if◌then◌else◌, List, [], ◌∷◌, ◌++◌, codes}
use Rattle.std.specs.Char.{is_ascii_digit, is_ascii_lowercase}
use Rattle.std.specs.List.{list_all}
use Rattle.cas_base.specs.Name.{is_name}
use Rattle.cas_pieces.specs.declared.piece.Mark.TheVariants.{Space, Comma, Colon, Semicolon, Open, Close, Other}
use Rattle.cas_pieces.specs.declared.piece.Piece.{Piece}
use Rattle.cas_pieces.specs.declared.piece.Piece.TheVariants.{Word, Mark}
use Rattle.cas_pieces.specs.Marks.{is_mark, spells}
use Rattle.cas_lock.specs.declared.line.Entry.{Entry}
use Rattle.cas_lock.specs.declared.line.Entry.TheVariants.{Blank, Label, Step, Fault}
use Rattle.cas_lock.specs.Steps.{step_of}

-- a space or a tab
abbrev pub is_blank : Piece → Bool
is_blank p = is_mark p Space || is_mark p (Other 9)

-- a piece, unless it is a blank
abbrev pub solid : Piece → List Piece
solid p = if is_blank p then [] else p ∷ []

-- the pieces of a line but for its blanks and its comment, which `;` begins
abbrev pub without_blanks : List Piece → List Piece
without_blanks [] = []
without_blanks (p ∷ ps) = if is_mark p Semicolon then [] else solid p ++ without_blanks ps

-- a register
abbrev pub is_register : Piece → Bool
is_register p =
    spells p (codes "eax") || spells p (codes "ecx") || spells p (codes "edx") || spells p (codes "ebx")
    || spells p (codes "esp") || spells p (codes "ebp") || spells p (codes "esi") || spells p (codes "edi")

-- a register in brackets
abbrev pub is_register_at : Piece → Piece → Piece → Bool
is_register_at left reg right = is_mark left Open && is_register reg && is_mark right Close

-- a register, a decimal number or a name
abbrev pub is_word : Piece → Bool
is_word (Word x) = list_all is_ascii_digit x || is_name x
is_word (Mark m) = false

-- no operand, one, or two with a comma between
abbrev pub are_operands : List Piece → Bool
are_operands [] = true
are_operands (a ∷ []) = is_word a
are_operands (a ∷ b ∷ c ∷ []) = is_register_at a b c || (is_word a && is_mark b Comma && is_word c)
are_operands (a ∷ b ∷ c ∷ d ∷ e ∷ []) =
    (is_word a && is_mark b Comma && is_register_at c d e) || (is_register_at a b c && is_mark d Comma && is_word e)
are_operands (a ∷ b ∷ c ∷ d ∷ e ∷ f ∷ g ∷ []) = is_register_at a b c && is_mark d Comma && is_register_at e f g
are_operands _ = false

-- a word of lower-case letters
abbrev pub is_lowercase : Piece → Bool
is_lowercase (Word x) = list_all is_ascii_lowercase x
is_lowercase (Mark m) = false

-- a second word of lower-case letters, and operands
abbrev pub has_second_word : List Piece → Bool
has_second_word [] = false
has_second_word (p ∷ ps) = is_lowercase p && are_operands ps

-- one or two words of lower-case letters, and operands
abbrev pub is_instruction : List Piece → Bool
is_instruction [] = false
is_instruction (p ∷ ps) = is_lowercase p && (are_operands ps || has_second_word ps)

-- a label's name
abbrev pub label : Piece → Entry
label (Word x) = if is_name x then Label x else Fault
label (Mark m) = Fault

-- an instruction
abbrev pub instruction : List Piece → Entry
instruction ps = if is_instruction ps then Step (step_of ps) else Fault

-- what a line is, by its pieces without blanks and comment
abbrev pub entry_of : List Piece → Entry
entry_of [] = Blank
entry_of (name ∷ colon ∷ []) = if is_mark colon Colon then label name else instruction (name ∷ colon ∷ [])
entry_of ps = instruction ps
