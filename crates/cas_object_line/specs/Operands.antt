-- Operands as they are written: which pieces are which operand.
use Rattle.std.specs.Prelude.{ℕ, Bool, true, false, not, ◌&&◌, ◌||◌, if◌then◌else◌, List, [], ◌∷◌, codes, Option, Some, None}
use Rattle.std.specs.Option.{option_map}
use Rattle.std.specs.Str.{bytes_eq}
use Rattle.cas_base.specs.Name.{is_name}
use Rattle.cas_base.specs.declared.reg.Reg.{Reg}
use Rattle.cas_base.specs.declared.reg.Reg.TheVariants.{Esp}
use Rattle.cas_pieces.specs.declared.piece.Mark.TheVariants.{At, Dot, Plus, Minus, Star, Open, Close}
use Rattle.cas_pieces.specs.declared.piece.Piece.{Piece}
use Rattle.cas_pieces.specs.declared.piece.Piece.TheVariants.{Word, Mark}
use Rattle.cas_pieces.specs.Marks.{is_mark, spells}
use Rattle.cas_pieces.specs.Numbers.{is_numeral}
use Rattle.cas_object_line.specs.declared.operand.Address.{Address}
use Rattle.cas_object_line.specs.declared.operand.Numeral.{Numeral}
use Rattle.cas_object_line.specs.declared.operand.Operand.{Operand}
use Rattle.cas_object_line.specs.declared.operand.Operand.TheVariants as operand
use Rattle.cas_object_line.specs.Tables.{register_of}

-- a number other than 0
abbrev pub is_positive : List ℕ → Bool
is_positive x = is_numeral x && not (bytes_eq x (codes "0"))

-- the digits of a number, which may be 0 only if that is said
abbrev pub numeral_of : (may_be_zero : Bool) → Piece → Option (List ℕ)
numeral_of may_be_zero (Word x) = if is_positive x || (may_be_zero && is_numeral x) then Some x else None
numeral_of may_be_zero (Mark m) = None

-- a register
abbrev pub register_piece : Piece → Option Reg
register_piece (Word x) = register_of x
register_piece (Mark m) = None

-- nothing there
abbrev pub is_absent : {A : Type 0} → Option A → Bool
is_absent None = true
is_absent (Some a) = false

-- an address that ends in this number
abbrev pub ended_by : Option (List ℕ) → Option Reg → Option (Reg × Bool) → (negative : Bool) → Option (List ℕ) →
    Option Address
ended_by symbol base index negative None = None
ended_by symbol base index negative (Some digits) =
    Some (record {
      symbol = symbol;
      base = base;
      index = index;
      number = Some
          (record { negative = negative; digits = digits });
    })

-- a number without a sign, at the end; a 0 is alone
abbrev pub number_part : Option (List ℕ) → Option Reg → Option (Reg × Bool) → List Piece → Option Address
number_part symbol base index (number ∷ right ∷ []) =
    if is_mark right Close
    then ended_by symbol base index false (numeral_of (is_absent symbol && is_absent base && is_absent index) number)
    else None
number_part symbol base index _ = None

-- the end, or a number with its sign before it
abbrev pub number_end : Option (List ℕ) → Option Reg → Option (Reg × Bool) → List Piece → Option Address
number_end symbol base index (right ∷ []) =
    if is_mark right Close
    then Some (record { symbol = symbol; base = base; index = index; number = None })
    else None
number_end symbol base index (minus ∷ number ∷ right ∷ []) =
    if is_mark minus Minus && is_mark right Close
    then ended_by symbol base index true (numeral_of false number)
    else None
number_end symbol base index _ = None

-- what comes after the index
abbrev pub after_index : Option (List ℕ) → Option Reg → Reg × Bool → List Piece → Option Address
after_index symbol base index [] = number_end symbol base (Some index) []
after_index symbol base index (plus ∷ rest) =
    if is_mark plus Plus
    then number_part symbol base (Some index) rest
    else number_end symbol base (Some index) (plus ∷ rest)

-- a scale, which is 1 only beside a base
abbrev pub scaled : Reg → Option Reg → Piece → Option (Reg × Bool)
scaled reg base scale =
    if spells scale (codes "4") then Some (reg, true) else (
    if spells scale (codes "1") && not (is_absent base) then Some (reg, false) else None)

-- the index register, which isn't esp, with its scale
abbrev pub index_of : Option Reg → Option Reg → Piece → Option (Reg × Bool)
index_of None base scale = None
index_of (Some Esp) base scale = None
index_of (Some reg) base scale = scaled reg base scale

-- what comes after the index, if there is one
abbrev pub with_index : Option (List ℕ) → Option Reg → Option (Reg × Bool) → List Piece → Option Address
with_index symbol base None rest = None
with_index symbol base (Some index) rest = after_index symbol base index rest

-- a part that may be the index, and what comes after it
abbrev pub index_part : Option (List ℕ) → Option Reg → List Piece → Option Address
index_part symbol base (reg ∷ star ∷ scale ∷ rest) =
    if is_mark star Star
    then with_index symbol base (index_of (register_piece reg) base scale) rest
    else number_part symbol base None (reg ∷ star ∷ scale ∷ rest)
index_part symbol base ps = number_part symbol base None ps

-- what comes after the base
abbrev pub after_base : Option (List ℕ) → Reg → List Piece → Option Address
after_base symbol base [] = number_end symbol (Some base) None []
after_base symbol base (plus ∷ rest) =
    if is_mark plus Plus
    then index_part symbol (Some base) rest
    else number_end symbol (Some base) None (plus ∷ rest)

abbrev pub begins_with_star : List Piece → Bool
begins_with_star [] = false
begins_with_star (star ∷ rest) = is_mark star Star

-- the base, or else a number
abbrev pub with_base : Option (List ℕ) → Option Reg → (reg : Piece) (rest : List Piece) → Option Address
with_base symbol None reg rest = number_part symbol None None (reg ∷ rest)
with_base symbol (Some base) reg rest = after_base symbol base rest

-- a part that may be the base, and what comes after it
abbrev pub base_part : Option (List ℕ) → List Piece → Option Address
base_part symbol [] = index_part symbol None []
base_part symbol (reg ∷ rest) =
    if begins_with_star rest
    then index_part symbol None (reg ∷ rest)
    else with_base symbol (register_piece reg) reg rest

-- what comes after the symbol
abbrev pub after_symbol : Option (List ℕ) → List Piece → Option Address
after_symbol symbol [] = number_end symbol None None []
after_symbol symbol (plus ∷ rest) =
    if is_mark plus Plus
    then base_part symbol rest
    else number_end symbol None None (plus ∷ rest)

-- a symbol, and what comes after it
abbrev pub with_symbol : Piece → List Piece → Option Address
with_symbol (Word x) rest = if is_name x then after_symbol (Some x) rest else None
with_symbol (Mark m) rest = None

-- a negative number alone, or parts without a symbol
abbrev pub symbol_free : List Piece → Option Address
symbol_free (minus ∷ number ∷ right ∷ []) =
    if is_mark minus Minus
    then number_end None None None (minus ∷ number ∷ right ∷ [])
    else base_part None (minus ∷ number ∷ right ∷ [])
symbol_free ps = base_part None ps

-- the memory operand that these pieces, after its `[`, are: symbol, base, index and number in this order, joined by `+`
abbrev pub address_of : List Piece → Option Address
address_of (at ∷ symbol ∷ rest) =
    if is_mark at At then with_symbol symbol rest else symbol_free (at ∷ symbol ∷ rest)
address_of ps = symbol_free ps

-- a word that is no number: a register, or another word
abbrev pub register_or_word : Option Reg → List ℕ → Operand
register_or_word None x = operand.Word x
register_or_word (Some reg) x = operand.Reg reg

abbrev pub plain_word : List ℕ → Operand
plain_word x =
    if is_numeral x then operand.Number (record { negative = false; digits = x }) else register_or_word (register_of x)
    x

-- an operand of one word
abbrev pub plain : Piece → Option Operand
plain (Word x) = Some (plain_word x)
plain (Mark m) = None

-- a negative number, a label or a symbol
abbrev pub marked_word : Piece → List ℕ → Option Operand
marked_word mark x =
    if is_mark mark Minus && is_positive x then Some (operand.Number (record { negative = true; digits = x })) else (
    if is_mark mark Dot && is_numeral x then Some (operand.Label x) else (
    if is_mark mark At && is_name x then Some (operand.Symbol x) else None))

abbrev pub marked : Piece → Piece → Option Operand
marked mark (Word x) = marked_word mark x
marked mark (Mark m) = None

-- the operand that these pieces are
abbrev pub operand_of : List Piece → Option Operand
operand_of [] = None
operand_of (word ∷ []) = plain word
operand_of (mark ∷ word ∷ []) = marked mark word
operand_of (left ∷ rest) = if is_mark left Open then option_map operand.Memory (address_of rest) else None
