-- Which piece is which.
use Rattle.std.specs.Prelude.{ℕ, ◌==◌, Bool, true, false, List}
use Rattle.std.specs.Str.{bytes_eq}
use Rattle.cas_pieces.specs.declared.piece.Mark.{Mark}
use Rattle.cas_pieces.specs.declared.piece.Mark.TheVariants.{Space, Comma, Colon, Semicolon, At, Dot, Plus, Minus, Star, Open, Close, Other}
use Rattle.cas_pieces.specs.declared.piece.Piece.{Piece}
use Rattle.cas_pieces.specs.declared.piece.Piece.TheVariants.{Word, Mark as Single}

-- two marks are the same
abbrev pub same_mark : Mark → Mark → Bool
same_mark Space Space = true
same_mark Comma Comma = true
same_mark Colon Colon = true
same_mark Semicolon Semicolon = true
same_mark At At = true
same_mark Dot Dot = true
same_mark Plus Plus = true
same_mark Minus Minus = true
same_mark Star Star = true
same_mark Open Open = true
same_mark Close Close = true
same_mark (Other a) (Other b) = a == b
same_mark _ _ = false

-- a piece is this mark
abbrev pub is_mark : Piece → Mark → Bool
is_mark (Word x) m = false
is_mark (Single n) m = same_mark n m

-- a piece is this word
abbrev pub spells : Piece → List ℕ → Bool
spells (Word x) text = bytes_eq x text
spells (Single m) text = false
