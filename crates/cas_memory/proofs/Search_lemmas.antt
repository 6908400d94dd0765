-- Which block a search by serial number finds.
use Rattle.std.proofs.Common.{arith, ◌≡◌, ℕ, zero, suc, ◌<◌, ◌≤◌, List, [], ◌∷◌, length, get_or, Some, None, Result, Ok, Err, IfOk, IfErr, refl, sym, ap, ◌∙◌}
use Rattle.std.proofs.lemmas.Bool.Decides.{nat_tests}
use Rattle.std.proofs.lemmas.Cmp.{ranked}
use Rattle.std.specs.List.Sorted.{IsSearchInRange, IsBinarySearchResult, IsNonDecreasingBy}
use Rattle.std.specs.Ordering.{nat_cmp, ordering_index}
use Rattle.cas_step.specs.Step as step
use Rattle.cas_step.specs.Step.{locals_at}
use Rattle.cas_memory.specs.Blocks.{AscendBySerial, IsAtSerial, HasNone, block_of, blocks_before}
use Rattle.cas_memory.specs.declared.block.Block.{Block}

module _ (bs : List Block) (up : AscendBySerial bs) (s : ℕ) where
  -- the comparisons rise along the blocks, as a search by halving asks
  comparisons_rise : IsNonDecreasingBy (λ b. ordering_index (nat_cmp b.serial s)) bs
  comparisons_rise i j d le below =
      let serials : (get_or bs i d).serial ≤ (get_or bs j d).serial =
      grind (arith, up i j d, λ (same : i ≡ j). ap (λ k. (get_or bs k d).serial) same) in
      grind (arith, nat_tests)

  pub searched : (r : Result ℕ ℕ) → IsSearchInRange r (length bs) →
      IsBinarySearchResult (λ b. nat_cmp b.serial s) bs r →
      record { found : IfOk r (IsAtSerial bs s); absent : IfErr r (λ i. HasNone bs s) }
  searched (Ok at) in_range equal =
      record { found = record { in_range = in_range; is = λ d. ranked _ s _ (sym (equal d)) }; absent = tt }
  searched (Err at) in_range parted = record {
    found = tt;
    absent = λ j d below same.
        let lower : j < at → (get_or bs j d).serial < s =
        λ lt. ranked _ s _ (sym ((parted comparisons_rise).0 j d (omega arith) lt)) in
        let upper : at ≤ j → s < (get_or bs j d).serial =
        λ le. ranked _ s _ (sym ((parted comparisons_rise).1 j d le below)) in
        grind (arith, lower, upper, same);
  }

-- where no block has the serial number, what is behind them is found
no_other : (bs : List Block) (older : List step.Block) (s : ℕ) → HasNone bs s →
    locals_at (blocks_before bs older) s ≡ locals_at older s
no_other [] older s none = refl
no_other (b ∷ bs) older s none =
    no_other bs (block_of b ∷ older) s (λ j d less. none (suc j) d (omega (arith, less)))
    ∙ grind (arith, nat_tests, none 0 b (omega arith))

pub found_nowhere : (bs : List Block) (s : ℕ) → HasNone bs s → locals_at (blocks_before bs []) s ≡ None
found_nowhere bs s none = no_other bs [] s none

pub found_at : (bs : List Block) (older : List step.Block) (i s : ℕ) (d : Block) → i < length bs → AscendBySerial bs →
    (get_or bs i d).serial ≡ s →
    locals_at (blocks_before bs older) s ≡ Some (block_of (get_or bs i d)).locals
found_at [] older i s d less up is = absurd (omega (arith, less))
found_at (b ∷ bs) older zero s d less up is =
    no_other bs (block_of b ∷ older) s
    (λ j e below same. omega (arith, up 0 (suc j) e (omega arith) (omega (arith, below)), is, same))
    ∙ grind (arith, nat_tests, is)
found_at (b ∷ bs) older (suc i) s d less up is = found_at bs (block_of b ∷ older) i s d (omega (arith, less))
    (λ j k e lt below. up (suc j) (suc k) e (omega (arith, lt)) (omega (arith, below))) is

-- the same, of the block that was read there
pub found_here : (bs : List Block) (i s : ℕ) (b : Block) → AscendBySerial bs → IsAtSerial bs s i → b ≡ get_or bs i b →
    locals_at (blocks_before bs []) s ≡ Some (block_of b).locals
found_here bs i s b up at is = found_at bs [] i s b at.in_range up (at.is b)
    ∙ ap (λ x. Some (block_of x).locals) (sym is)
