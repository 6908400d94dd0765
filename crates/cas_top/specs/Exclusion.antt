-- The causes of the statuses exclude each other.
use Rattle.std.specs.Prelude.{◌≡◌, ℕ, List, Some}
use Rattle.cas_outside.specs.Shelf.{Texts}
use Rattle.cas_top.specs.Answer.{IsText, IsRefusal, IsFirstLong}
use Rattle.cas_command.specs.Words.{Command, wanted_texts}

-- If a shelf reports its texts, a command prints at most one text, with one status, or is refused by at most one line,
-- with one status, and never both. If a text is too long, which has one name, it does neither.
pub record Exclude (held : Texts) (c : Command) : Type 0 where
  pub refused : (s t : ℕ) (text line : List ℕ) → IsText (Some held) c s text → IsRefusal (Some held) c t line → ⊥
  pub printed_once : (s t : ℕ) (text other : List ℕ) → IsText (Some held) c s text → IsText (Some held) c t other →
      (s ≡ t) × (text ≡ other)
  pub refused_once : (s t : ℕ) (line other : List ℕ) → IsRefusal (Some held) c s line →
      IsRefusal (Some held) c t other → (s ≡ t) × (line ≡ other)
  pub printed_long : (s : ℕ) (text name : List ℕ) → IsText (Some held) c s text →
      IsFirstLong (Some held) (wanted_texts c) name → ⊥
  pub refused_long : (s : ℕ) (line name : List ℕ) → IsRefusal (Some held) c s line →
      IsFirstLong (Some held) (wanted_texts c) name → ⊥
  pub long_once : (name other : List ℕ) → IsFirstLong (Some held) (wanted_texts c) name →
      IsFirstLong (Some held) (wanted_texts c) other → name ≡ other

abbrev pub CausesExclude : Type 0
CausesExclude = (held : Texts) (c : Command) → Exclude held c
