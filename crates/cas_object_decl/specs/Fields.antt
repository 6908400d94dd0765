-- The fields of a line: its parts between spaces.
use Rattle.std.specs.Prelude.{ℕ, Bool, false, if◌then◌else◌, ◌&&◌, List, [], ◌∷◌, map}
use Rattle.std.specs.List.{slice_split}
use Rattle.std.specs.Str.{bytes_eq}
use Rattle.cas_pieces.specs.declared.piece.Mark.TheVariants.{Space, Minus, Star, Open, Close}
use Rattle.cas_pieces.specs.declared.piece.Piece.{Piece}
use Rattle.cas_pieces.specs.declared.piece.Piece.TheVariants as p
use Rattle.cas_pieces.specs.Marks.{is_mark}
use Rattle.cas_object_decl.specs.declared.field.Field.{Field}
use Rattle.cas_object_decl.specs.declared.field.Field.TheVariants.{Word, Negative, Pointer, Array, Other}

abbrev pub word : Piece → Field
word (p.Word x) = Word x
word (p.Mark m) = Other

-- a word with `-` before it
abbrev pub negative : Piece → Field
negative (p.Word x) = Negative x
negative (p.Mark m) = Other

-- a word with `*` after it
abbrev pub pointer : List ℕ → Piece → Field
pointer x mark = if is_mark mark Star then Pointer x else Other

abbrev pub two_pieces : Piece → Piece → Field
two_pieces (p.Word x) second = pointer x second
two_pieces (p.Mark Minus) second = negative second
two_pieces (p.Mark m) second = Other

-- a word, and a word in brackets
abbrev pub array_of : List ℕ → Piece → Field
array_of x (p.Word len) = Array x len
array_of x (p.Mark m) = Other

abbrev pub array : (x len : Piece) → Field
array (p.Word x) len = array_of x len
array (p.Mark m) len = Other

-- the field that these pieces are
abbrev pub field_of : List Piece → Field
field_of (x ∷ []) = word x
field_of (a ∷ b ∷ []) = two_pieces a b
field_of (x ∷ left ∷ len ∷ right ∷ []) =
    if is_mark left Open && is_mark right Close then array x len else Other
field_of _ = Other

abbrev pub is_space : Piece → Bool
is_space piece = is_mark piece Space

-- the fields of a line
abbrev pub fields : List Piece → List Field
fields pieces = map field_of (slice_split is_space pieces)

-- a field is this word
abbrev pub spells : Field → List ℕ → Bool
spells (Word x) text = bytes_eq x text
spells _ text = false
