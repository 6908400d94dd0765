-- The addressing modes that Selection picks, by what pointers and indices became.
use Rattle.std.specs.Prelude.{ℕ, ◌^◌, ℤ, pos, nat_lt, Option, Some, None, if◌then◌else◌}
use Rattle.cas_base.specs.Word.{signed}
use Rattle.cas_runs.specs.Label.{NameBytes}
use Rattle.cas_runs.specs.Naming.{and_then}
use Rattle.cas_typed.specs.declared.tree.Signedness.{Signedness}
use Rattle.cas_typed.specs.declared.tree.Signedness.TheVariants.{Signed, Unsigned}
use Rattle.cas_step.specs.Operators.{number_of, place_below}
use Rattle.cas_mid.specs.declared.tree.Binop.TheVariants.{PointerPlus}
use Rattle.cas_sel.specs.declared.tree.Op.TheVariants as op
use Rattle.cas_sel.specs.declared.tree.Mode.TheVariants as mode
use Rattle.cas_sel.specs.Trees.{Expr, operation, load, Exprs, no_more, one_more, Address}
use Rattle.cas_select.specs.Operators.{one, known}

-- the number that a word is read as, where it fits an addressing mode
abbrev pub offset_of : Signedness → (word : ℕ) → Option ℤ
offset_of Signed n = Some (signed n)
offset_of Unsigned n = if nat_lt n (2 ^ 31) then Some (pos n) else None

-- a pointer with its operands, moved by an offset: a sum of a pointer and an index is part of the mode
abbrev pub beyond : (operands : Exprs) → (whole : Expr) → Option ℤ → Address
beyond es whole None = record { mode = mode.Based (pos 0); operands = one whole }
beyond (one_more (operation (op.Binary (PointerPlus s)) es) no_more) whole (Some offset) =
    record { mode = mode.Indexed s offset; operands = es }
beyond es whole (Some offset) = record { mode = mode.Based offset; operands = es }

-- the address that a pointer is
abbrev pub address : Expr → Address
address (operation (op.StackAddress offset) es) = record { mode = mode.Stack offset; operands = es }
address (operation (op.Binary (PointerPlus s)) es) = record { mode = mode.Indexed s (pos 0); operands = es }
address (operation (op.WithNumber (PointerPlus s) n) es) =
    beyond es (operation (op.WithNumber (PointerPlus s) n) es) (offset_of s n)
address a = record { mode = mode.Based (pos 0); operands = one a }

-- the first word of a global
abbrev pub first_word : NameBytes → Address
first_word g = record { mode = mode.Global g 0; operands = no_more }

-- the word of a global at an index, by the place that is known
abbrev pub element_at : NameBytes → Signedness → (index : Expr) → Option ℕ → Address
element_at g s a (Some place) = record { mode = mode.Global g place; operands = no_more }
element_at g s a None = record { mode = mode.IndexedGlobal g s (pos 0); operands = one a }

abbrev pub known_place : Signedness → (index : Option ℕ) → Option ℕ
known_place s index = and_then index (λ n. place_below (2 ^ 32) (number_of s n))

abbrev pub element : NameBytes → Signedness → (index : Expr) → Address
element g s a = element_at g s a (known_place s (known a))

-- the word that is there
abbrev pub load_at : Address → Expr
load_at a = load a.mode a.operands
