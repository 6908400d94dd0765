-- The words with which a program begins.
use Rattle.std.proofs.Common.{◌≡◌, ℕ, List, [], ◌∷◌, ◌++◌, map, refl, sym}
use Rattle.std.specs.List.{flat_map}
use Rattle.cas_syntax.specs.Tree.{item_tree}
use Rattle.cas_typed.specs.Resolved.{TypedModuleTree}
use Rattle.cas_typed.specs.declared.typed.Typed.{Typed}
use Rattle.cas_program.specs.Program.{item_words, initial_words}
use Rattle.cas_whole.specs.Whole.{AreTyped}

-- of a module of the code
abbrev pub words_in : Typed → List ℕ
words_in t = flat_map item_words (map item_tree t.filled.items)

pub words_same : (ts : List Typed) (ms : List TypedModuleTree) → AreTyped ts ms →
    flat_map words_in ts ≡ initial_words ms
words_same [] [] are = refl
words_same [] (m ∷ ms) are = absurd are
words_same (t ∷ ts) [] are = absurd are
words_same (t ∷ ts) (m ∷ ms) are = λ i. flat_map item_words ((sym are.0.module_tree i).items)
    ++ words_same ts ms are.1 i
