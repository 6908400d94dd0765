-- What becomes of the blocks when one is written, pushed or removed.
use Rattle.std.proofs.Common.{arith, ◌≡◌, ℕ, zero, suc, ◌+◌, ◌<◌, ◌≤◌, ◌≢◌, nat_eq, true, false, List, [], ◌∷◌, ◌++◌, length, map, set, get_or, inl, inr, refl, sym, ap, subst, ◌∙◌}
use Rattle.std.specs.Prelude.{if◌then◌else◌, remove}
use Rattle.std.proofs.Math.ListN.{get_or-map, get_or-append}
use Rattle.std.proofs.Math.Seq.{map-set_same, get_or-append_seam}
use Rattle.std.proofs.lemmas.Bool.{cases_lt}
use Rattle.std.proofs.lemmas.Bool.Decides.{nat_tests}
use Rattle.std.proofs.lemmas.List.{length-append, length-map}
use Rattle.std.proofs.lemmas.List.Edits.{length-remove, get_or-remove_below, get_or-remove_above}
use Rattle.cas_step.specs.Asks.{Value}
use Rattle.cas_step.specs.Step as step
use Rattle.cas_step.specs.Step.{Object, memory_with, memory_without, with_local}
use Rattle.cas_memory.specs.Blocks.{AreBefore, AscendBySerial, IsAtSerial, HasNone, block_of, blocks_before}
use Rattle.cas_memory.specs.declared.block.Block.{Block}

-- the block with these locals
abbrev block : ℕ → List (List (Value Object)) → step.Block
block s locals = record { serial = s; locals = locals }

block_is : (b : Block) (s : ℕ) (locals : List (List (Value Object))) → b.serial ≡ s → (block_of b).locals ≡ locals →
    block_of b ≡ block s locals
block_is b s locals serial is = λ i. block (serial i) (is i)

differs : (a b : ℕ) → a ≢ b → nat_eq a b ≡ false
differs a b h = grind (arith, nat_tests)

equals : (a b : ℕ) → a ≡ b → nat_eq a b ≡ true
equals a b h = grind (arith, nat_tests)

-- after the first none has this serial number
none_behind : (b : Block) (bs : List Block) (s : ℕ) → HasNone (b ∷ bs) s → HasNone bs s
none_behind b bs s none j d less = none (suc j) d (omega (arith, less))

none_newer : (b : Block) (bs : List Block) (s : ℕ) → AscendBySerial (b ∷ bs) → b.serial ≡ s → HasNone bs s
none_newer b bs s up is j d less same = omega (arith, up 0 (suc j) d (omega arith) (omega (arith, less)), is, same)

up_behind : (b : Block) (bs : List Block) → AscendBySerial (b ∷ bs) → AscendBySerial bs
up_behind b bs up i j d less below = up (suc i) (suc j) d (omega (arith, less)) (omega (arith, below))

-- a value is kept at a place of an object

module _ (o : Object) (i : ℕ) (v : Value Object) where
  with_none : (bs : List Block) (older : List step.Block) → HasNone bs o.serial →
      memory_with (blocks_before bs older) o i v ≡ blocks_before bs (memory_with older o i v)
  with_none [] older none = refl
  with_none (b ∷ bs) older none =
      with_none bs (block_of b ∷ older) (none_behind b bs o.serial none)
      ∙ ap (λ t. blocks_before bs (if t then block b.serial (with_local (block_of b).locals o.local i v)
      ∷ older else block_of b ∷ memory_with older o i v)) (differs b.serial o.serial (none 0 b (omega arith)))

  with_there : (bs : List Block) (older : List step.Block) (k : ℕ) (d kept : Block) → k < length bs →
      AscendBySerial bs → (get_or bs k d).serial ≡ o.serial →
      block_of kept ≡ block (get_or bs k d).serial (with_local (block_of (get_or bs k d)).locals o.local i v) →
      memory_with (blocks_before bs older) o i v ≡ blocks_before (set bs k kept) older
  with_there [] older k d kept less up is same = absurd (omega (arith, less))
  with_there (b ∷ bs) older zero d kept less up is same =
      with_none bs (block_of b ∷ older) (none_newer b bs o.serial up is)
      ∙ ap (λ t. blocks_before bs (if t then block b.serial (with_local (block_of b).locals o.local i v)
      ∷ older else block_of b ∷ memory_with older o i v)) (equals b.serial o.serial is)
      ∙ ap (λ x. blocks_before bs (x ∷ older)) (sym same)
  with_there (b ∷ bs) older (suc k) d kept less up is same =
      with_there bs (block_of b ∷ older) k d kept (omega (arith, less)) (up_behind b bs up) is same

-- what is read at a place of the blocks
pub with_nowhere : (bs : List Block) (o : Object) (i : ℕ) (v : Value Object) → HasNone bs o.serial →
    memory_with (blocks_before bs []) o i v ≡ blocks_before bs []
with_nowhere bs o i v none = with_none o i v bs [] none

pub with_at : (bs : List Block) (o : Object) (i : ℕ) (v : Value Object) (at : ℕ) (b kept : Block) → AscendBySerial bs →
    IsAtSerial bs o.serial at → b ≡ get_or bs at b → kept.serial ≡ b.serial →
    (block_of kept).locals ≡ with_local (block_of b).locals o.local i v →
    memory_with (blocks_before bs []) o i v ≡ blocks_before (set bs at kept) []
with_at bs o i v at b kept up there is serial locals =
    with_there o i v bs [] at b kept there.in_range up (there.is b)
    (block_is kept b.serial (with_local (block_of b).locals o.local i v) serial locals
    ∙ ap (λ x. block x.serial (with_local (block_of x).locals o.local i v)) is)

-- only the serial numbers count for their order
same_serials : (bs cs : List Block) → map (λ b. b.serial) cs ≡ map (λ b. b.serial) bs → AscendBySerial bs →
    AscendBySerial cs
same_serials bs cs same up i j d less below =
    let serial_at : (k : ℕ) → (get_or cs k d).serial ≡ (get_or bs k d).serial = λ k.
    sym (get_or-map (λ b. b.serial) cs k d) ∙ ap (λ l. get_or l k d.serial) same ∙ get_or-map (λ b. b.serial) bs k d in
    let count : length cs ≡ length bs = sym (length-map cs (λ b. b.serial)) ∙ ap length same
    ∙ length-map bs (λ b. b.serial) in
    omega (arith, serial_at i, serial_at j, up i j d less (omega (arith, count, below)))

pub ascend_set : (bs : List Block) (at : ℕ) (b kept : Block) → AscendBySerial bs → b ≡ get_or bs at b →
    kept.serial ≡ b.serial → AscendBySerial (set bs at kept)
ascend_set bs at b kept up is serial = same_serials bs (set bs at kept)
    (map-set_same (λ x. x.serial) bs at kept b (serial ∙ ap (λ x. x.serial) is)) up

-- a block is pushed

before_older : (bs : List Block) (older : List step.Block) (s : ℕ) → AreBefore s (blocks_before bs older) →
    AreBefore s older
before_older [] older s h = h
before_older (b ∷ bs) older s h = (before_older bs (block_of b ∷ older) s h).1

each_before : (bs : List Block) (older : List step.Block) (s i : ℕ) (d : Block) → AreBefore s (blocks_before bs older) →
    i < length bs → (get_or bs i d).serial < s
each_before [] older s i d h less = absurd (omega (arith, less))
each_before (b ∷ bs) older s zero d h less = (before_older bs (block_of b ∷ older) s h).0
each_before (b ∷ bs) older s (suc i) d h less = each_before bs (block_of b ∷ older) s i d h (omega (arith, less))

push_last : (bs : List Block) (older : List step.Block) (b : Block) →
    blocks_before (bs ++ b ∷ []) older ≡ block_of b ∷ blocks_before bs older
push_last [] older b = refl
push_last (c ∷ bs) older b = push_last bs (block_of c ∷ older) b

pub pushed : (bs all : List Block) (b : Block) (s : ℕ) (locals : List (List (Value Object))) → all ≡ bs ++ b ∷ [] →
    b.serial ≡ s → (block_of b).locals ≡ locals →
    blocks_before all [] ≡ block s locals ∷ blocks_before bs []
pushed bs all b s locals are serial is = ap (λ l. blocks_before l []) are ∙ push_last bs [] b
    ∙ ap (λ x. x ∷ blocks_before bs []) (block_is b s locals serial is)

pub ascend_push : (bs all : List Block) (b : Block) (s : ℕ) → AscendBySerial bs → AreBefore s (blocks_before bs []) →
    all ≡ bs ++ b ∷ [] → b.serial ≡ s → AscendBySerial all
ascend_push bs all b s up before are serial = subst AscendBySerial (sym are) (λ i j d less below.
    let low : i < length bs = omega (arith, length-append bs (b ∷ []), less, below) in
    let lower : get_or (bs ++ b ∷ []) i d ≡ get_or bs i d = get_or-append bs (b ∷ []) d i low in
    elim (cases_lt j (length bs)) [
      | inl high ↦ omega (
        arith,
        ap (λ x. x.serial) lower,
        ap (λ x. x.serial)
            (get_or-append bs (b ∷ []) d j high),
        up i j d less high,
      )
      | inr past ↦
          let last : j ≡ length bs = omega (arith, length-append bs (b ∷ []), below, past) in
          let upper : get_or (bs ++ b ∷ []) j d ≡ b = ap (λ k. get_or (bs ++ b ∷ []) k d) last
          ∙ get_or-append_seam bs b [] d in
          omega (arith, ap (λ x. x.serial) lower, ap (λ x. x.serial) upper, serial, each_before bs [] s i d before low)
    ])

-- a block is removed

without_none : (bs : List Block) (older : List step.Block) (s : ℕ) → HasNone bs s →
    memory_without (blocks_before bs older) s ≡ blocks_before bs (memory_without older s)
without_none [] older s none = refl
without_none (b ∷ bs) older s none =
    without_none bs (block_of b ∷ older) s (none_behind b bs s none)
    ∙ ap (λ t. blocks_before bs (if t then older else block_of b ∷ memory_without older s))
    (differs b.serial s (none 0 b (omega arith)))

without_there : (bs : List Block) (older : List step.Block) (k s : ℕ) (d : Block) → k < length bs → AscendBySerial bs →
    (get_or bs k d).serial ≡ s →
    memory_without (blocks_before bs older) s ≡ blocks_before (remove bs k) older
without_there [] older k s d less up is = absurd (omega (arith, less))
without_there (b ∷ bs) older zero s d less up is =
    without_none bs (block_of b ∷ older) s (none_newer b bs s up is)
    ∙ ap (λ t. blocks_before bs (if t then older else block_of b ∷ memory_without older s)) (equals b.serial s is)
without_there (b ∷ bs) older (suc k) s d less up is = without_there bs (block_of b ∷ older) k s d (omega (arith, less))
    (up_behind b bs up) is

pub without_nowhere : (bs : List Block) (s : ℕ) → HasNone bs s →
    memory_without (blocks_before bs []) s ≡ blocks_before bs []
without_nowhere bs s none = without_none bs [] s none

pub without_at : (bs all : List Block) (s at : ℕ) (d : Block) → AscendBySerial bs → IsAtSerial bs s at →
    all ≡ remove bs at → memory_without (blocks_before bs []) s ≡ blocks_before all []
without_at bs all s at d up there are = without_there bs [] at s d there.in_range up (there.is d)
    ∙ ap (λ l. blocks_before l []) (sym are)

module _ (bs : List Block) (at : ℕ) (there : at < length bs) (d : Block) where
  serial_below : (k : ℕ) → k < at → (get_or (remove bs at) k d).serial ≡ (get_or bs k d).serial
  serial_below k less = ap (λ x. x.serial) (get_or-remove_below bs at d k less there)

  serial_above : (k : ℕ) → at ≤ k → (get_or (remove bs at) k d).serial ≡ (get_or bs (k + 1) d).serial
  serial_above k past = ap (λ x. x.serial) (get_or-remove_above bs at d k past there)

  still_up : (i j : ℕ) → AscendBySerial bs → i < j → j < length (remove bs at) →
      (get_or (remove bs at) i d).serial < (get_or (remove bs at) j d).serial
  still_up i j up less below =
      let inside : j + 1 < length bs = omega (arith, length-remove bs at there, below) in
      elim (cases_lt i at) [
        | inl low ↦ elim (cases_lt j at) [
          | inl lower ↦ omega (arith, serial_below i low, serial_below j lower, up i j d less (omega (arith, inside)))
          | inr past ↦ omega (
            arith,
            serial_below i low,
            serial_above j past,
            up i (j + 1) d (omega (arith, less))
                inside,
          )
        ]
        | inr past ↦ omega (
          arith,
          serial_above i past,
          serial_above j (omega (arith, past, less)),
          up (i + 1) (j + 1) d
              (omega (arith, less)) inside,
        )
      ]

pub ascend_remove : (bs all : List Block) (at : ℕ) → AscendBySerial bs → at < length bs → all ≡ remove bs at →
    AscendBySerial all
ascend_remove bs all at up there are = subst AscendBySerial (sym are)
    (λ i j d less below. still_up bs at there d i j up less below)
