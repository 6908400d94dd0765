-- The walk through the items in the code, one item after another.
use Rattle.std.proofs.Common.{arith, ◌≡◌, ◌-◌, ℕ, ◌+◌, List, [], ◌∷◌, ◌++◌, map, length, Result, Ok, refl, sym, ◌∙◌, append_assoc}
use Rattle.std.proofs.lemmas.List.{length-append}
use Rattle.cas_base.specs.declared.decl.Decl.{Decl}
use Rattle.cas_own.specs.Checked.{items_fault}
use Rattle.cas_check.specs.Fits.{Steps}
use Rattle.cas_own.specs.declared.fault.OwnFault.{OwnFault}
use Rattle.cas_syntax.specs.Tree.{ItemTree, item_tree}
use Rattle.cas_syntax.specs.declared.tree.Item.{Item}
use Rattle.cas_typed.specs.Modules.{decl_of}
use Rattle.cas_typed.specs.Resolved.{TypedFunTree}
use Rattle.cas_typed.specs.Whole.{AreFunctionsOf}
use Rattle.cas_typed.specs.declared.rows.TypedFun.{TypedFun}
use Rattle.std.specs.Borrow.{Bor}

-- these items are left with these functions, and the faults are theirs
abbrev pub IsWalked : List Decl → List Item → List TypedFun → (rest : List Item) → (left : List TypedFun) → Type 0
IsWalked ds items functions rest left =
    (before : List Decl) × (ds ≡ before ++ map decl_of (map item_tree rest))
    × (length before + length rest ≡ length items)
    × ((rs : List TypedFunTree) → AreFunctionsOf rs functions
    → (now : List TypedFunTree) × AreFunctionsOf now left
    × (items_fault ds [] (map item_tree items) rs ≡ items_fault ds before (map item_tree rest) now))

pub walked_first : (ds : List Decl) (items : List Item) (functions : List TypedFun) →
    ds ≡ map decl_of (map item_tree items) → IsWalked ds items functions items functions
walked_first ds items functions h =
    let none : length {A = Decl} [] + length items ≡ length items = omega arith in
    ([], h, none, λ rs are. (rs, are, refl))

-- how many items stand before
pub walked_count : (ds : List Decl) (items : List Item) (functions : List TypedFun) (rest : List Item)
    (left : List TypedFun) (number : ℕ) (w : IsWalked ds items functions rest left)
    → number ≡ length items - length rest → number ≡ length w.0
walked_count ds items functions rest left number w is = let count = w.2 in omega (arith, is, count)

-- what the check of an item says
abbrev pub Stepped : List Decl → (number : ℕ) → Item → List TypedFun → Result (Bor (List TypedFun)) OwnFault → Type 0
Stepped ds number item left result =
    (before behind : List Decl) (its : List ItemTree) (rs : List TypedFunTree) → ds ≡ before ++ behind →
    number ≡ length before → AreFunctionsOf rs left
    → Steps ds before (item_tree item) its rs result

pub walked_on : (ds : List Decl) (items : List Item) (functions : List TypedFun) (item : Item) (others : List Item)
    (left : List TypedFun) (number : ℕ) (fs : Bor (List TypedFun))
    → number ≡ length items - length (item ∷ others) → IsWalked ds items functions (item ∷ others) left →
    Stepped ds number item left (Ok fs)
    → IsWalked ds items functions others fs.now
walked_on ds items functions item others left number fs is w steps =
    let d : Decl = decl_of (item_tree item) in
    let behind : List Decl = map decl_of (map item_tree others) in
    let count : length (w.0 ++ d ∷ []) + length others ≡ length items =
    let sum = length-append w.0 (d ∷ []) in let before = w.2 in omega (arith, sum, before) in (
      w.0 ++ d ∷ [],
      w.1 ∙ sym (append_assoc w.0 (d ∷ []) behind),
      count,
      λ rs are.
          let now = w.3 rs are in
          let step = steps w.0 (d ∷ behind) (map item_tree others) now.0 w.1
          (walked_count ds items functions (item ∷ others) left number w is) now.1 in
          (step.0, step.1, now.2 ∙ step.2),
    )
