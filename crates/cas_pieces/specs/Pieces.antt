-- The pieces of a line: words, as long as they go, and each other byte as a mark; and the text that pieces spell.
use Rattle.std.specs.Prelude.{ℕ, ◌≡◌, ◌==◌, Bool, true, false, if◌then◌else◌, List, [], ◌∷◌, ◌++◌}
use Rattle.cas_base.specs.Name.{is_name_byte}
use Rattle.cas_pieces.specs.declared.piece.Mark.{Mark}
use Rattle.cas_pieces.specs.declared.piece.Mark.TheVariants.{Space, Comma, Colon, Semicolon, At, Dot, Plus, Minus, Star, Open, Close, Other}
use Rattle.cas_pieces.specs.declared.piece.Piece.{Piece}
use Rattle.cas_pieces.specs.declared.piece.Piece.TheVariants.{Word, Mark as Single}
use Rattle.cas_pieces.specs.Words.{is_word}

-- the mark that a byte is
abbrev pub mark_of : ℕ → Mark
mark_of b =
    if b == 32 then Space else (if b == 44 then Comma else (if b == 58 then Colon else (if b == 59 then Semicolon else (
    if b == 64 then At else (if b == 46 then Dot else (if b == 43 then Plus else (if b == 45 then Minus else (
    if b == 42 then Star else (if b == 91 then Open else (if b == 93 then Close else Other b))))))))))

-- its byte
abbrev pub mark_byte : Mark → ℕ
mark_byte Space = 32
mark_byte Comma = 44
mark_byte Colon = 58
mark_byte Semicolon = 59
mark_byte At = 64
mark_byte Dot = 46
mark_byte Plus = 43
mark_byte Minus = 45
mark_byte Star = 42
mark_byte Open = 91
mark_byte Close = 93
mark_byte (Other b) = b

-- a byte of a word goes into the word after it, if one is there
unfoldable pub into_word : ℕ → List Piece → List Piece
into_word b [] = Word (b ∷ []) ∷ []
into_word b (Word x ∷ ps) = Word (b ∷ x) ∷ ps
into_word b (Single m ∷ ps) = Word (b ∷ []) ∷ Single m ∷ ps

-- the pieces of a line
unfoldable pub pieces : List ℕ → List Piece
pieces [] = []
pieces (b ∷ bs) = if is_name_byte b then into_word b (pieces bs) else Single (mark_of b) ∷ pieces bs

-- the text that pieces spell
abbrev pub text : List Piece → List ℕ
text [] = []
text (Word x ∷ ps) = x ++ text ps
text (Single m ∷ ps) = mark_byte m ∷ text ps

-- a mark stands for its byte, and that is none of a word
abbrev pub IsMark : Mark → Type 0
IsMark m = (mark_of (mark_byte m) ≡ m) × (is_name_byte (mark_byte m) ≡ false)

-- no word stands first
abbrev pub begins_with_word : List Piece → Bool
begins_with_word (Word x ∷ ps) = true
begins_with_word _ = false

-- pieces that some text has: words and marks, no two words after one another
abbrev pub AreProper : List Piece → Type 0
AreProper [] = Unit
AreProper (Word x ∷ ps) = (is_word x ≡ true) × (begins_with_word ps ≡ false) × AreProper ps
AreProper (Single m ∷ ps) = IsMark m × AreProper ps
