-- The code of functions with their symbols and labels resolved.
use Rattle.std.specs.Prelude.{ℕ, ◌+◌, List, [], ◌∷◌, ◌++◌, map}
use Rattle.cas_base.specs.Word.{word_add, word_mul}
use Rattle.cas_settle.specs.declared.link.CellRow.{CellRow}
use Rattle.cas_asm.specs.declared.instr.Instr.{Instr}
use Rattle.cas_asm.specs.declared.line.Line.{Line}
use Rattle.cas_asm.specs.declared.line.Line.TheVariants.{Label, Run}
use Rattle.cas_asm.specs.declared.line.AsmFun.{AsmFun}
use Rattle.cas_asm.specs.Links.{Links, in_image}
use Rattle.cas_asm.specs.Resolve.{resolved}
use Rattle.cas_link.specs.Parts.{size_of}
use Rattle.cas_link.specs.Rows.{found, found_number, or_zero}

-- the address of a word: four bytes for each word before it, after 4096. (No address wraps, since words are few.)
abbrev pub address_of : (word : ℕ) → ℕ
address_of word = word_add 4096 (word_mul 4 word)

-- the address of each global and lock
abbrev pub addresses_of : List CellRow → List (List ℕ × ℕ)
addresses_of cells = map (λ cell. (cell.name, address_of cell.first)) cells

-- the place of each function's first instruction, the first one at this place
abbrev pub places_from : (place : ℕ) → List AsmFun → List (List ℕ × ℕ)
places_from place [] = []
places_from place (f ∷ fs) = (f.name, place) ∷ places_from (place + size_of f) fs

-- the place of each label, in lines that begin at this place
abbrev pub labels_from : (place : ℕ) → List Line → List (ℕ × ℕ)
labels_from place [] = []
labels_from place (Label n ∷ lines) = (n, place) ∷ labels_from place lines
labels_from place (Run i ∷ lines) = labels_from (place + 1) lines

-- where names and labels are, by rows of addresses, places and labels
abbrev pub links_by : (addresses places : List (List ℕ × ℕ)) (labels : List (ℕ × ℕ)) → Links (List ℕ)
links_by addresses places labels = record {
  address = λ name. or_zero (found addresses name);
  entry = λ name. or_zero (found places name);
  label = λ n. or_zero (found_number labels n);
  lock = in_image.lock;
  unlock = in_image.unlock;
}

-- the resolved instructions of lines
abbrev pub code_of : Links (List ℕ) → List Line → List (Instr ℕ)
code_of links [] = []
code_of links (Label n ∷ lines) = code_of links lines
code_of links (Run i ∷ lines) = resolved links i ∷ code_of links lines

-- the resolved instructions of functions, the first one at this place
abbrev pub code_from : (addresses places : List (List ℕ × ℕ)) (place : ℕ) → List AsmFun → List (Instr ℕ)
code_from addresses places place [] = []
code_from addresses places place (f ∷ fs) =
    code_of (links_by addresses places (labels_from place f.lines)) f.lines ++ code_from addresses places
    (place + size_of f) fs
