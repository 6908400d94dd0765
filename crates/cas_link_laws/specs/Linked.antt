-- What is true of linked objects and of their image.
use Rattle.std.specs.Prelude.{◌≡◌, ℕ, ◌+◌, ◌*◌, ◌<◌, ◌≤◌, IsTrue, List, [], ◌∷◌, length, map, take, drop, count_by, Some, None, IfSome, slice_get}
use Rattle.cas_base.specs.declared.decl.Global.{Global}
use Rattle.cas_settle.specs.declared.link.CellRow.{CellRow}
use Rattle.cas_settle.specs.Settle.{IsSettled, cells_of}
use Rattle.cas_asm.specs.declared.image.Image.{Image}
use Rattle.cas_asm.specs.declared.instr.Instr.{Instr}
use Rattle.cas_asm.specs.declared.line.Line.{Line}
use Rattle.cas_asm.specs.declared.line.Line.TheVariants.{Label, Run}
use Rattle.cas_asm.specs.declared.line.AsmFun.{AsmFun}
use Rattle.cas_asm.specs.Links.{Links}
use Rattle.cas_asm.specs.Resolve.{resolved}
use Rattle.cas_object_text.specs.declared.object.Object.{Object}
use Rattle.cas_object_text.specs.Values.{AreWhole}
use Rattle.cas_link.specs.Parts.{decls_in, functions_in, is_run, size_of, sizes_of, units_of}
use Rattle.cas_link.specs.Refusal.{data_name, function_name, is_data, is_function, link_refusal}
use Rattle.cas_link.specs.Image_of.{first_words, IsImageOf}

-- the names in an instruction are those of a global or lock, and of a function
pub record AreKnown (objects : List Object) (instr : Instr (List ℕ)) : Type 0 where
  pub cell : IfSome (data_name instr) (λ name. IsTrue (is_data objects name))
  pub function : IfSome (function_name instr) (λ name. IsTrue (is_function objects name))

-- the objects fit together, with a lock object of so many instructions and these entries
pub record FitTogether (lock : ℕ) (objects : List Object) (entries : List (List ℕ)) : Type 0 where
  pub settled : IsSettled (decls_in objects) entries
  pub known : (k j : ℕ) (f : AsmFun) (instr : Instr (List ℕ)) → slice_get (functions_in objects) k ≡ Some f →
      slice_get f.lines j ≡ Some (Run instr) → AreKnown objects instr
  pub code : lock + sizes_of (functions_in objects) ≤ 4194304

-- the image of objects that aren't refused
pub record IsLinkedOf (objects : List Object) (lock : List (Instr ℕ)) (entries : List (List ℕ)) (image : Image)
    : Type 0 where
  pub unrefused : link_refusal (length lock) objects entries ≡ None
  pub whole : AreWhole (units_of objects)
  pub made : IsImageOf objects lock entries image

-- no two of these globals and locks share a word, and each has its words among so many
pub record AreApart (cells : List CellRow) (words : ℕ) : Type 0 where
  pub apart : (i j : ℕ) (a b : CellRow) → i < j → slice_get cells i ≡ Some a → slice_get cells j ≡ Some b →
      a.first + a.len ≤ b.first
  pub within : (i : ℕ) (a : CellRow) → slice_get cells i ≡ Some a → a.first + a.len ≤ words

-- the words of a global or a lock stand in the image
pub record HasWords (objects : List Object) (image : Image) (k : ℕ) (global : Global) : Type 0 where
  pub cell : CellRow
  pub is : slice_get (cells_of (decls_in objects)) k ≡ Some cell
  pub name : cell.name ≡ global.decl.name
  pub words : take cell.len (drop cell.first image.words) ≡ first_words global

-- the place of the function of this number: behind the lock object and the functions before it
abbrev pub place_of : (lock : ℕ) → List Object → (k : ℕ) → ℕ
place_of lock objects k = lock + sizes_of (take k (functions_in objects))

-- where names and labels are, in the code of a function at this place
pub record AreFound (lock : ℕ) (objects : List Object) (f : AsmFun) (place : ℕ) (links : Links (List ℕ)) : Type 0 where
  -- a global or a lock is at its first word: four bytes for each word before it, after 4096
  pub address : (k : ℕ) (cell : CellRow) → slice_get (cells_of (decls_in objects)) k ≡ Some cell →
      links.address cell.name ≡ 4096 + 4 * cell.first
  -- a function is at its first instruction
  pub entry : (k : ℕ) (g : AsmFun) → slice_get (functions_in objects) k ≡ Some g →
      links.entry g.name ≡ place_of lock objects k
  -- a label is at the instruction behind it
  pub label : (k n : ℕ) → slice_get f.lines k ≡ Some (Label n) →
      links.label n ≡ place + count_by is_run (take k f.lines)
  pub lock_is : links.lock ≡ 0
  pub unlock_is : links.unlock ≡ 6

-- the instructions of lines
abbrev pub instructions_of : List Line → List (Instr (List ℕ))
instructions_of [] = []
instructions_of (Label n ∷ lines) = instructions_of lines
instructions_of (Run i ∷ lines) = i ∷ instructions_of lines

-- a function's instructions stand together in the image, from this place on, with their names and labels resolved
pub record StandsAt (lock : ℕ) (objects : List Object) (image : Image) (f : AsmFun) (place : ℕ) : Type 0 where
  pub links : Links (List ℕ)
  pub found : AreFound lock objects f place links
  pub code : take (size_of f) (drop place image.code) ≡ map (resolved links) (instructions_of f.lines)

-- a thread begins at the function of this name
pub record BeginsAt (lock : ℕ) (objects : List Object) (image : Image) (thread : ℕ) (name : List ℕ) : Type 0 where
  pub k : ℕ
  pub f : AsmFun
  pub is : slice_get (functions_in objects) k ≡ Some f
  pub name_is : f.name ≡ name
  pub place : slice_get image.entries thread ≡ Some (place_of lock objects k)
