-- Code that is resolved by tables which find the same.
use Rattle.std.proofs.Common.{◌≡◌, ℕ, ◌+◌, List, [], ◌∷◌, ◌++◌, length, map, ap, refl, ◌∙◌}
use Rattle.cas_settle.specs.declared.link.CellRow.{CellRow}
use Rattle.cas_asm.specs.declared.instr.Instr.{Instr}
use Rattle.cas_asm.specs.declared.line.AsmFun.{AsmFun}
use Rattle.cas_asm.specs.Links.{in_image}
use Rattle.cas_link.specs.Parts.{size_of}
use Rattle.cas_link.specs.Rows.{FindSame, found, found_number, or_zero}
use Rattle.cas_link.specs.Code.{addresses_of, places_from, labels_from, links_by, code_of, code_from}

module _ (addresses places others more : List (List ℕ × ℕ)) (p : FindSame addresses others) (q : FindSame places more)
  where
    links-same : (labels : List (ℕ × ℕ)) → links_by addresses places labels ≡ links_by others more labels
    links-same labels = λ i. record {
      address = λ name. or_zero (p name i);
      entry = λ name. or_zero (q name i);
      label = λ n. or_zero (found_number labels n);
      lock = in_image.lock;
      unlock = in_image.unlock;
    }

    pub code-same : (place : ℕ) (fs : List AsmFun) →
        code_from addresses places place fs ≡ code_from others more place fs
    code-same place [] = refl
    code-same place (f ∷ fs) =
        ap (λ links. code_of links f.lines ++ code_from addresses places (place + size_of f) fs)
        (links-same (labels_from place f.lines))
        ∙ ap (λ code. code_of (links_by others more (labels_from place f.lines)) f.lines ++ code)
        (code-same (place + size_of f) fs)

    pub numbers-same : (names : List (List ℕ)) →
        map (λ name. or_zero (found places name)) names ≡ map (λ name. or_zero (found more name)) names
    numbers-same names = λ i. map (λ name. or_zero (q name i)) names

-- the code of an image, where the lock object's code, the functions and the cells are these
pub code_is : (object code : List (Instr ℕ)) (funs fs : List AsmFun) (cells rows : List CellRow)
    (addresses places : List (List ℕ × ℕ)) → object ≡ code → funs ≡ fs → cells ≡ rows →
    FindSame addresses (addresses_of cells) → FindSame places (places_from (length object) funs) →
    object ++ code_from addresses places (length object) funs
    ≡ code ++ code_from (addresses_of rows) (places_from (length code) fs) (length code) fs
code_is object code funs fs cells rows addresses places o f r p q =
    ap (λ made. object ++ made)
    (code-same addresses places (addresses_of cells) (places_from (length object) funs) p q (length object) funs)
    ∙ (λ i. o i ++ code_from (addresses_of (r i)) (places_from (length (o i)) (f i)) (length (o i)) (f i))

-- the entries of an image
pub threads_are : (object code : List (Instr ℕ)) (funs fs : List AsmFun) (places : List (List ℕ × ℕ))
    (names : List (List ℕ)) → object ≡ code → funs ≡ fs → FindSame places (places_from (length object) funs) →
    map (λ name. or_zero (found places name)) names
    ≡ map (λ name. or_zero (found (places_from (length code) fs) name)) names
threads_are object code funs fs places names o f q =
    numbers-same [] places [] (places_from (length object) funs) (λ name. refl) q names
    ∙ (λ i. map (λ name. or_zero (found (places_from (length (o i)) (f i)) name)) names)
