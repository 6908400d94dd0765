-- Parts that are read one after another.
use Rattle.std.specs.Prelude.{List, [], ◌∷◌, Result, Ok, Err}
use Rattle.cas_object_line.specs.declared.fault.LineFault.{LineFault}
use Rattle.cas_object_line.specs.Instructions.{made_of}

-- what is read after a part, by that part
abbrev pub and_then : {A B : Type 0} → (A → Result B LineFault) → Result A LineFault → Result B LineFault
and_then read (Ok x) = read x
and_then read (Err fault) = Err fault

-- what each item is read as, or the first fault
abbrev pub all_of : {A B : Type 0} → (A → Result B LineFault) → List A → Result (List B) LineFault
all_of read [] = Ok []
all_of read (x ∷ xs) = and_then (λ y. made_of (λ ys. y ∷ ys) (all_of read xs)) (read x)
