-- Who holds a lock after labels of several threads.
use Rattle.std.specs.Prelude.{◌≡◌, ℕ, ◌<◌, nat_eq, List, [], ◌∷◌, Option, Some, None, if◌then◌else◌}
use Rattle.cas_runs.specs.Label.{RunLabel, Lock, Unlock, Out, Done, Enter, Back, Call, Leave}
use Rattle.cas_runs.specs.Legal.{ThreadLabel, projection}
use Rattle.cas_runs.specs.Outside.{IsAmong}
use Rattle.cas_runs.specs.Rules.{locks_after}

abbrev pub holder_after : (lock thread : ℕ) → RunLabel → Option ℕ → Option ℕ
holder_after lock i (Lock l words) h = if nat_eq l lock then Some i else h
holder_after lock i (Unlock l words) h = if nat_eq l lock then None else h
holder_after lock i (Out w) h = h
holder_after lock i Done h = h
holder_after lock i (Enter f c) h = h
holder_after lock i (Back c) h = h
holder_after lock i (Call f c) h = h
holder_after lock i (Leave c) h = h

-- the thread that locked it last, if it hasn't been unlocked since
abbrev pub holder : ℕ → List ThreadLabel → Option ℕ
holder lock [] = None
holder lock (l ∷ ls) = holder_after lock l.thread l.label (holder lock ls)

-- no lock twice
abbrev pub AreApart : List ℕ → Type 0
AreApart [] = Unit {0}
AreApart (l ∷ ls) = (IsAmong l ls → ⊥) × AreApart ls

-- after these labels, the share of each thread has the locks that it holds, each once, and no others
pub record Held (n : ℕ) (ls : List ThreadLabel) : Type 0 where
  pub apart : (i : ℕ) → i < n → AreApart (locks_after (projection i ls))
  pub holds : (i : ℕ) → i < n → (lock : ℕ) → IsAmong lock (locks_after (projection i ls)) → holder lock ls ≡ Some i
  pub has : (i : ℕ) → i < n → (lock : ℕ) → holder lock ls ≡ Some i → IsAmong lock (locks_after (projection i ls))
