-- The image of settled objects.
use Rattle.std.specs.Prelude.{◌≡◌, ℕ, Bool, if◌then◌else◌, List, [], ◌∷◌, ◌++◌, length, map, replicate, Option}
use Rattle.cas_base.specs.Decl.{is_lock}
use Rattle.cas_base.specs.declared.decl.Global.{Global}
use Rattle.cas_settle.specs.declared.link.CellRow.{CellRow}
use Rattle.cas_settle.specs.Settle.{cells_of}
use Rattle.cas_asm.specs.declared.image.Image.{Image}
use Rattle.cas_object_text.specs.declared.object.Object.{Object}
use Rattle.cas_asm.specs.declared.instr.Instr.{Instr}
use Rattle.cas_link.specs.Parts.{decls_in, functions_in, globals_in}
use Rattle.cas_link.specs.Rows.{found, or_zero}
use Rattle.cas_link.specs.Code.{addresses_of, places_from, code_from}

-- the initial words of a global: a lock is free
abbrev pub first_words : Global → List ℕ
first_words g = if is_lock g.decl.form then 1 ∷ [] else g.values

-- of globals
abbrev pub words_in : List Global → List ℕ
words_in [] = []
words_in (g ∷ gs) = first_words g ++ words_in gs

-- whether each word of the cells is constant
abbrev pub constants_in : List CellRow → List Bool
constants_in [] = []
constants_in (cell ∷ cells) = replicate cell.len cell.constant ++ constants_in cells

-- the guard of each word
abbrev pub guards_in : List CellRow → List (Option ℕ)
guards_in [] = []
guards_in (cell ∷ cells) = replicate cell.len cell.guard ++ guards_in cells

-- the locks' words
abbrev pub locks_in : List CellRow → List ℕ
locks_in [] = []
locks_in (cell ∷ cells) = if cell.lock then cell.first ∷ locks_in cells else locks_in cells

-- the image: the lock object's code and then the functions', the words in the order of objects and definitions, and
-- each thread's entry
pub record IsImageOf (objects : List Object) (lock : List (Instr ℕ)) (entries : List (List ℕ)) (image : Image)
    : Type 0 where
  pub code : image.code ≡ lock ++ code_from (addresses_of (cells_of (decls_in objects)))
      (places_from (length lock) (functions_in objects)) (length lock) (functions_in objects)
  pub words : image.words ≡ words_in (globals_in objects)
  pub constants : image.constant ≡ constants_in (cells_of (decls_in objects))
  pub guards : image.guards ≡ guards_in (cells_of (decls_in objects))
  pub locks : image.locks ≡ locks_in (cells_of (decls_in objects))
  pub threads : image.entries ≡ map (λ name. or_zero (found (places_from (length lock) (functions_in objects)) name))
      entries
