-- Functions as far as they are read.
use Rattle.std.specs.Prelude.{ℕ, ◌≡◌, ◌==◌, Bool, true, false, List, [], ◌∷◌, ◌++◌, length, filter}
use Rattle.std.specs.List.{list_any}
use Rattle.cas_asm.specs.declared.line.Line.{Line}
use Rattle.cas_asm.specs.declared.line.Line.TheVariants.{Label, Run}
use Rattle.cas_base.specs.declared.decl.Decl.{Decl}
use Rattle.cas_object_text.specs.Labels.{is_set}

-- a function whose `end` is still to come
pub record Body : Type 0 where
  pub decl : Decl
  pub lines : List Line

abbrev pub is_instruction : Line → Bool
is_instruction (Label n) = false
is_instruction (Run i) = true

-- how many instructions there are
abbrev pub instructions : List Line → ℕ
instructions lines = length (filter is_instruction lines)

-- a function that has no line yet
abbrev pub opened : Decl → Body
opened decl = record { decl = decl; lines = [] }

-- one more line
abbrev pub with_line : Body → Line → Body
with_line body line = record { decl = body.decl; lines = body.lines ++ line ∷ [] }

-- these are the labels that the lines set
abbrev pub AreLabelsOf : List Line → List ℕ → Type 0
AreLabelsOf lines labels = (n : ℕ) → list_any (λ label. label == n) labels ≡ is_set lines n
