-- Which cells of an activation belong to which local.
use Rattle.std.specs.Prelude.{◌≡◌, ℕ, ◌+◌, nat_lt, if◌then◌else◌, List, [], ◌∷◌, Option, Some, None}
use Rattle.std.proofs.Math.Nat.{ℕ_set}
use Rattle.std.specs.Coded.{×_prop}
use Rattle.cas_memory.specs.declared.block.Span.{Span}

-- spans that follow one another from this cell on, up to the end
abbrev pub AreSpans : (from to : ℕ) → List Span → Type 0
AreSpans from to [] = from ≡ to
AreSpans from to (s ∷ spans) = (s.first ≡ from) × AreSpans (from + s.length) to spans

-- the number, among the cells of all locals, of a place of the local with this span, if it exists
abbrev pub place_in : Option Span → (place : ℕ) → Option ℕ
place_in None i = None
place_in (Some s) i = if nat_lt i s.length then Some (s.first + i) else None

-- that they do is a fact
pub are_spans_prop : (from to : ℕ) (spans : List Span) → IsProp (AreSpans from to spans)
are_spans_prop from to [] = ℕ_set from to
are_spans_prop from to (s ∷ spans) = ×_prop (ℕ_set s.first from) (are_spans_prop (from + s.length) to spans)
