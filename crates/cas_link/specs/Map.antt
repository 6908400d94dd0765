-- The map of linked objects: where their data and functions stand.
use Rattle.std.specs.Prelude.{ℕ, ◌+◌, List, [], ◌∷◌, ◌++◌, codes}
use Rattle.std.specs.Fmt.{decimal}
use Rattle.cas_settle.specs.declared.link.CellRow.{CellRow}
use Rattle.cas_settle.specs.Settle.{cells_of}
use Rattle.cas_asm.specs.declared.line.AsmFun.{AsmFun}
use Rattle.cas_object_text.specs.declared.object.Object.{Object}
use Rattle.cas_link.specs.Parts.{decls_in, functions_in, size_of}
use Rattle.cas_link.specs.Code.{address_of}

-- `data NAME ADDRESS WORDS` of a global or a lock
abbrev pub data_line : CellRow → List ℕ
data_line cell =
    codes "data " ++ cell.name ++ codes " " ++ decimal (address_of cell.first) ++ codes " " ++ decimal cell.len
    ++ codes "\n"

abbrev pub data_lines : List CellRow → List ℕ
data_lines [] = []
data_lines (cell ∷ cells) = data_line cell ++ data_lines cells

-- `function NAME PLACE LENGTH` of a function whose first instruction is at this place
abbrev pub function_line : (place : ℕ) → AsmFun → List ℕ
function_line place f =
    codes "function " ++ f.name ++ codes " " ++ decimal place ++ codes " " ++ decimal (size_of f) ++ codes "\n"

-- of functions, the first one at this place
abbrev pub function_lines : (place : ℕ) → List AsmFun → List ℕ
function_lines place [] = []
function_lines place (f ∷ fs) = function_line place f ++ function_lines (place + size_of f) fs

-- `threads N`
abbrev pub threads_line : (threads : ℕ) → List ℕ
threads_line threads = codes "threads " ++ decimal threads ++ codes "\n"

-- the map, with a lock object of so many instructions: the globals and locks in the order of their words, the functions
-- in the order of their places, and how many threads begin
abbrev pub map_text : (lock : ℕ) → List Object → (threads : ℕ) → List ℕ
map_text lock objects threads =
    data_lines (cells_of (decls_in objects)) ++ function_lines lock (functions_in objects) ++ threads_line threads
