-- Lock objects: the instructions of lock and unlock. Each memory operand is the lock's word.
use Rattle.std.specs.Prelude.{ℕ, List, [], ◌∷◌}

pub data Instr : Type 0 where
  -- a locked decrement
  LockDec : Instr
  JumpNotSign : (to : ℕ) → Instr
  CompareZero : Instr
  JumpLessEqual : (to : ℕ) → Instr
  Jump : (to : ℕ) → Instr
  Return : Instr
  -- plain stores, of a number and of the word and 1
  StoreWord : (value : ℕ) → Instr
  AddOne : Instr

-- the instructions, and at which of them lock and unlock begin
pub record LockObject : Type 0 where
  pub code : List Instr
  pub lock : ℕ
  pub unlock : ℕ

-- the accepted body
abbrev pub accepted : LockObject
accepted = record {
  code = LockDec ∷ JumpNotSign 5 ∷ CompareZero ∷ JumpLessEqual 2 ∷ Jump 0 ∷ Return ∷ StoreWord 1 ∷ Return ∷ [];
  lock = 0;
  unlock = 6;
}
