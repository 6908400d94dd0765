-- What operators, addressing modes and conditions give on the values of their operands. CminorSel has them over
-- expressions, the languages of graphs over places.
use Rattle.std.specs.Prelude.{ℕ, ℤ, pos, ◌+ℤ◌, Bool, not, List, [], ◌∷◌, Option, Some, None}
use Rattle.cas_step.specs.Operators.{number_of, is_true}
use Rattle.cas_runs.specs.Label.{NameBytes}
use Rattle.cas_runs.specs.Naming.{Home, Own, Value, Number, Pointer, Hidden, and_then}
use Rattle.cas_runs.specs.Access.{Then, with_value}
use Rattle.cas_mid.specs.Operators.{unary_word, binary_word, binary, compared, place_at, on_word, on_truth}
use Rattle.cas_mid.specs.Language.{Location, in_global, in_block}
use Rattle.cas_sel.specs.declared.tree.Op.{Op}
use Rattle.cas_sel.specs.declared.tree.Op.TheVariants as op
use Rattle.cas_sel.specs.declared.tree.Mode.{Mode}
use Rattle.cas_sel.specs.declared.tree.Mode.TheVariants as mode
use Rattle.cas_sel.specs.declared.tree.Cond.{Cond}
use Rattle.cas_sel.specs.declared.tree.Cond.TheVariants as cond
use Rattle.cas_sel.specs.Query.{Query, asks_word, asks_place, answers, no_answer, and_asks, query_of, answer_of}

-- the activation in which they are: of this function, with this serial number
pub record Within : Type 0 where
  pub function : NameBytes
  pub serial : ℕ

-- a place of the activation's block
abbrev pub own_block : Within → Home
own_block w = Own w.function w.serial 0

-- the value of an operator
abbrev pub operate : Within → Op → List Value → Query Value
operate w (op.Constant n) [] = answers (Number n)
operate w (op.StackAddress offset) [] = answers (Pointer (own_block w) offset)
operate w op.Move (v ∷ []) = answers v
operate w (op.Unary o) (v ∷ []) = query_of (on_word v (λ n. Then (Number (unary_word o n))))
operate w (op.Binary o) (u ∷ v ∷ []) = query_of (binary o u v (λ x. Then x))
operate w (op.WithNumber o n) (u ∷ []) = query_of (binary o u (Number n) (λ x. Then x))
operate w o vs = no_answer

-- a word of a block or of a global, where the place is one
abbrev pub in_block_at : Home → ℤ → Option Location
in_block_at home place = and_then (place_at place) (λ p. Some (in_block home p))

abbrev pub in_global_at : NameBytes → ℤ → Option Location
in_global_at g offset = and_then (place_at offset) (λ p. Some (in_global g p))

-- the word that an addressing mode names, if there is one. Offsets count words
abbrev pub locate : Within → Mode → List Value → Option Location
locate w (mode.Based offset) (Pointer home p ∷ []) = in_block_at home (pos p +ℤ offset)
locate w (mode.Indexed s offset) (Pointer home p ∷ Number n ∷ []) = in_block_at home (pos p +ℤ number_of s n +ℤ offset)
locate w (mode.Global g offset) [] = Some (in_global g offset)
locate w (mode.IndexedGlobal g s offset) (Number n ∷ []) = in_global_at g (number_of s n +ℤ offset)
locate w (mode.Stack offset) [] = Some (in_block (own_block w) offset)
locate w m vs = None

-- what the word holds
abbrev pub held_at : Location → Query Value
held_at (in_global g offset) = asks_word g offset (λ n. answers (Number n))
held_at (in_block home place) = asks_place home place (λ v. answers v)

abbrev pub load_by : Within → Mode → List Value → Query Value
load_by w m vs = and_asks (answer_of (locate w m vs)) held_at

-- whether a condition holds
abbrev pub decide : Cond → List Value → Query Bool
decide cond.IsTrue (v ∷ []) = query_of (on_truth v (λ is. Then is))
decide cond.IsFalse (v ∷ []) = query_of (on_truth v (λ is. Then (not is)))
decide (cond.Words o s) (u ∷ v ∷ []) =
    query_of (on_word u (λ m. on_word v (λ n. with_value (binary_word o s m n) (λ i. Then (is_true i)))))
decide (cond.WithNumber o s n) (u ∷ []) =
    query_of (on_word u (λ m. with_value (binary_word o s m n) (λ i. Then (is_true i))))
decide (cond.Values o) (u ∷ v ∷ []) = query_of (compared o u v (λ is. Then is))
decide c vs = no_answer
