-- Labels of several threads.
use Rattle.std.specs.Prelude.{ℕ, List, [], ◌∷◌, Option, Some, None}
use Rattle.cas_runs.specs.Label.{RunLabel, Lock, Unlock, Out, Done, Enter, Back, Call, Leave}
use Rattle.cas_runs.specs.Legal.{ThreadLabel}

abbrev pub by_thread : ℕ → RunLabel → ThreadLabel
by_thread i l = record { thread = i; label = l }

-- the labels with one more, if the thread has one
abbrev pub listed : ℕ → Option RunLabel → List ThreadLabel → List ThreadLabel
listed i None ls = ls
listed i (Some l) ls = by_thread i l ∷ ls

abbrev pub and_out : ℕ → RunLabel → List (ℕ × ℕ) → List (ℕ × ℕ)
and_out i (Out w) os = (i, w) ∷ os
and_out i (Lock l ws) os = os
and_out i (Unlock l ws) os = os
and_out i Done os = os
and_out i (Enter f c) os = os
and_out i (Back c) os = os
and_out i (Call f c) os = os
and_out i (Leave c) os = os

-- the Outs with their threads, the newest first
abbrev pub outs_of : List ThreadLabel → List (ℕ × ℕ)
outs_of [] = []
outs_of (l ∷ ls) = and_out l.thread l.label (outs_of ls)
