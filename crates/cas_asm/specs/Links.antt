-- Where symbols, labels and the lock object are.
use Rattle.std.specs.Prelude.{ℕ}
use Rattle.cas_asm.specs.declared.image.TheConstants.{LOCK_PLACE, UNLOCK_PLACE}

-- the address of a global or lock, the first place of a function, the place of a label, and the places of `lock` and
-- `unlock`
pub record Links (S : Type 0) : Type 0 where
  pub address : S → ℕ
  pub entry : S → ℕ
  pub label : ℕ → ℕ
  pub lock : ℕ
  pub unlock : ℕ

-- in an image each symbol is an address or a place, each label is a place, and the lock object stands first
abbrev pub in_image : Links ℕ
in_image = record { address = λ s. s; entry = λ s. s; label = λ l. l; lock = LOCK_PLACE; unlock = UNLOCK_PLACE }
