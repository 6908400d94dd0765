-- Projections of legal labels, and where labels are cut so that one thread has these.
use Rattle.std.proofs.Common.{◌≡◌, ℕ, List, [], ◌∷◌, ◌++◌, inl, inr, refl, sym, ap, ◌∙◌}
use Rattle.cas_runs.specs.Label.{RunLabel}
use Rattle.cas_runs.specs.Edge.{Edge, Cell}
use Rattle.cas_runs.specs.Machine.{Machine}
use Rattle.cas_runs.specs.Legal.{ThreadLabel, IsLegal, projection}
use Rattle.cas_runs.proofs.Refining.{has_shorter}
use Rattle.cas_atomic.proofs.Basic.{same_or_not, if_same, if_not}
use Rattle.cas_together.specs.Threads.{HaveRuns}

pub own_label : (i : ℕ) (l : ThreadLabel) (ls : List ThreadLabel) → l.thread ≡ i →
    projection i (l ∷ ls) ≡ l.label ∷ projection i ls
own_label i l ls e = if_same l.thread i (l.label ∷ projection i ls) (projection i ls) e

pub other_label : (i : ℕ) (l : ThreadLabel) (ls : List ThreadLabel) → (l.thread ≡ i → ⊥) →
    projection i (l ∷ ls) ≡ projection i ls
other_label i l ls n = if_not l.thread i (l.label ∷ projection i ls) (projection i ls) n

-- a first part of all labels of which the thread has these
pub record Cut (i : ℕ) (ls : List ThreadLabel) (labels : List RunLabel) : Type 0 where
  pub since : List ThreadLabel
  pub before : List ThreadLabel
  pub prefix : ls ≡ since ++ before
  pub own : projection i before ≡ labels

whole : (i : ℕ) (ls : List ThreadLabel) (labels : List RunLabel) → projection i ls ≡ labels → Cut i ls labels
whole i ls labels e = record { since = []; before = ls; prefix = refl; own = e }

later_cut : (i : ℕ) (l : ThreadLabel) (ls : List ThreadLabel) (labels : List RunLabel) → Cut i ls labels →
    Cut i (l ∷ ls) labels
later_cut i l ls labels c = record {
  since = l ∷ c.since;
  before = c.before;
  prefix = ap (λ k. l ∷ k) c.prefix;
  own =
      c.own;
}

pub cut : (i : ℕ) (ls : List ThreadLabel) (since before : List RunLabel) → projection i ls ≡ since ++ before →
    Cut i ls before
cut i ls [] before e = whole i ls before e
cut i [] (k ∷ since) before e = absurd (cc e)
cut i (l ∷ ls) (k ∷ since) before e = elim (same_or_not l.thread i) [
  | inl s ↦ let f : l.label ∷ projection i ls ≡ k ∷ (since ++ before) = sym (own_label i l ls s) ∙ e in
      later_cut i l ls before (cut i ls since before (cc f))
  | inr n ↦ later_cut i l ls before (cut i ls (k ∷ since) before (sym (other_label i l ls n) ∙ e))
]

-- the labels of one thread, of which some came first
pub projection_of : (i : ℕ) (since before : List ThreadLabel) →
    projection i (since ++ before) ≡ projection i since ++ projection i before
projection_of i [] before = refl
projection_of i (l ∷ since) before = elim (same_or_not l.thread i) [
  | inl s ↦ own_label i l (since ++ before) s ∙ ap (λ k. l.label ∷ k) (projection_of i since before)
      ∙ ap (λ (k : List RunLabel). k ++ projection i before) (sym (own_label i l since s))
  | inr n ↦ other_label i l (since ++ before) n ∙ projection_of i since before
      ∙ ap (λ (k : List RunLabel). k ++ projection i before) (sym (other_label i l since n))
]

pub legal_before : (cells : List Cell) (n : ℕ) (since before : List ThreadLabel) → IsLegal cells n (since ++ before) →
    IsLegal cells n before
legal_before cells n [] before h = h
legal_before cells n (l ∷ since) before h = legal_before cells n since before h.2

-- the others have runs with their own labels of any first part
pub runs_before : {S : Type 0} (edge : Edge) (n : ℕ) (s : ℕ → Machine S) (since before : List ThreadLabel) →
    HaveRuns edge n s (since ++ before) →
    HaveRuns edge n s before
runs_before edge n s since before h i there = has_shorter edge (s i) (projection i since) (projection i before)
    (projection i (since ++ before)) (projection_of i since before) (h i there)
