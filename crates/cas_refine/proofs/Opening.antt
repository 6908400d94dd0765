-- Where a run of the x86-TSO machine starts is where one of processors starts.
use Rattle.std.proofs.Common.{◌≡◌, ℕ, zero, suc, ◌+◌, ◌*◌, ◌<◌, ◌≤◌, ◌-◌, nat_eq, nat_lt, Bool, true, false, List, [], ◌∷◌, length, Some, None, slice_get, slice_set, if◌then◌else◌, sym, refl, ap, ◌∙◌, subst, inl, inr, ◌⊎◌, arith, length-set}
use Rattle.std.specs.Prelude.{replicate}
use Rattle.std.proofs.Math.Nat.{mul-le-mul_right}
use Rattle.cas_asm.specs.declared.image.Image.{Image}
use Rattle.cas_asm.specs.Start.{start_of, stack_of}
use Rattle.cas_tso.specs.State.{Setup}
use Rattle.cas_tso.specs.Run.{first_thread, threads_from, start_state}
use Rattle.cas_tso.specs.declared.end.End.TheVariants as end
use Rattle.cas_atomic.specs.Cells.{first_value, first_words}
use Rattle.cas_runs.specs.Edge.{Edge, Cell, LockWord, SharedWord, TableWord}
use Rattle.cas_atomic.specs.Buffered as buffered
use Rattle.cas_refine.specs.Machine.{core, world, Begins, opening}
use Rattle.cas_refine.specs.Listing.{IsCell, AreCells, IsLinked, HasRoom, first_cpu, linked, word_of, end_of, core_in, tables}
use Rattle.cas_refine.proofs.Stacks.{lt_or_not}

-- Words.

-- a cell's first value is the word
cell_value : (m : Image) (k w : ℕ) (c : Cell) → IsCell m k w c → first_value (Some c) ≡ w
cell_value m k w LockWord h = sym h.2
cell_value m k w (TableWord v) h = h.1
cell_value m k w (SharedWord kind guard initial) h = h.3

-- a word and its cell, or neither
cell_or : (m : Image) (k : ℕ) (ws : List ℕ) (cs : List Cell) → AreCells m k ws cs → (i : ℕ) →
    ((w : ℕ) × (slice_get ws i ≡ Some w) × (first_value (slice_get cs i) ≡ w))
    ⊎ ((slice_get ws i ≡ None) × (first_value (slice_get cs i) ≡ 0))
cell_or m k [] [] h i = inr (refl, refl)
cell_or m k [] (c ∷ cs) h i = absurd h
cell_or m k (w ∷ ws) [] h i = absurd h
cell_or m k (w ∷ ws) (c ∷ cs) h zero = inl (w, refl, cell_value m k w c h.0)
cell_or m k (w ∷ ws) (c ∷ cs) h (suc i) = cell_or m (k + 1) ws cs h.1 i

word_there : (ws : List ℕ) (i w : ℕ) → slice_get ws i ≡ Some w → word_of ws i ≡ w
word_there [] i w e = absurd (cc e)
word_there (x ∷ ws) zero w e = cc e
word_there (x ∷ ws) (suc i) w e = word_there ws i w e

word_absent : (ws : List ℕ) (i : ℕ) → slice_get ws i ≡ None → word_of ws i ≡ 0
word_absent [] i e = refl
word_absent (x ∷ ws) zero e = absurd (cc e)
word_absent (x ∷ ws) (suc i) e = word_absent ws i e

first_word : (m : Image) (edge : Edge) → IsLinked m edge → (i : ℕ) → first_words edge.cells i ≡ word_of m.words i
first_word m edge l i = elim (cell_or m 0 m.words edge.cells l.words i) [
  | inl h ↦ h.2 ∙ sym (word_there m.words i h.0 h.1)
  | inr h ↦ h.1 ∙ sym (word_absent m.words i h.0)
]

-- Threads.

fuel_runs : (b : Bool) → end_of (if b then Some end.Fuel else None) ≡ buffered.Running
fuel_runs true = refl
fuel_runs false = refl

thread_or : (p : Setup) (es : List ℕ) (k i : ℕ) →
    ((slice_get (threads_from p k es) i ≡ Some (first_thread p (k + i))) × (i < length es))
    ⊎ (slice_get (threads_from p k es) i ≡ None)
thread_or p [] k i = inr refl
thread_or p (e ∷ es) k zero =
    inl (ap (λ (j : ℕ). Some (first_thread p j)) (let h : k ≡ k + 0 = omega arith in h), omega arith)
thread_or p (e ∷ es) k (suc i) = elim (thread_or p es (k + 1) i) [
  | inl h ↦
      let less = h.1 in
      inl (
        h.0 ∙ ap (λ (j : ℕ). Some (first_thread p j)) (let e : k + 1 + i ≡ k + suc i = omega arith in e),
        omega
            arith,
      )
  | inr h ↦ inr h
]

first_core : (p : Setup) (i : ℕ) →
    core (first_cpu p i) [] buffered.Running 0 ≡ core_in p i 0 (slice_get (threads_from p 0 p.image.entries) i)
first_core p i = elim (thread_or p p.image.entries 0 i) [
  | inl h ↦
      let n = length p.image.entries in
      let less : i < n = h.1 in
      let yes_ : nat_lt i n ≡ true =
      elim (lt_or_not i n) [ inl g ↦ g.0 | inr g ↦ let z = g.1 in absurd (omega arith) ] in
      let at : slice_get (threads_from p 0 p.image.entries) i ≡ Some (first_thread p i) =
      h.0 ∙ ap (λ (j : ℕ). Some (first_thread p j)) (let e : 0 + i ≡ i = omega arith in e) in
      ap (λ (b : Bool). core (start_of p.image (if b then i else 0) p.options.stack) [] buffered.Running 0) yes_
      ∙ ap (λ (e : buffered.End). core (start_of p.image i p.options.stack) [] e 0)
      (sym (fuel_runs (nat_eq p.options.fuel 0)))
      ∙ ap (core_in p i 0) (sym at)
  | inr h ↦ ap (core_in p i 0) (sym h)
]

-- both start alike
pub opens_alike : (edge : Edge) (p : Setup) → IsLinked p.image edge →
    opening (linked edge p) ≡ tables p (start_state p) (λ j. 0)
opens_alike edge p l = λ x. world (λ w. first_word p.image edge l w x) [] (λ i. first_core p i x)

-- Stacks.

abbrev zeros : ℕ → List ℕ
zeros n = replicate n 0

zeros_length : (n : ℕ) → length (zeros n) ≡ n
zeros_length zero = refl
zeros_length (suc n) = ap suc (zeros_length n)

stack_length : (n v : ℕ) → length (slice_set (zeros n) (n - 1) v) ≡ n
stack_length n v = length-set (zeros n) (n - 1) v ∙ zeros_length n

below_all : (a b w : ℕ) → a ≤ b → stack_of a w + 4 * w ≤ stack_of (b + 1) w
below_all a b w le =
    let up : a * 4 * w ≤ b * 4 * w = mul-le-mul_right w (let e : a * 4 ≤ b * 4 = omega (arith, le) in e) in
    let more : (b + 1) * 4 * w ≡ b * 4 * w + 4 * w = grind arith in
    omega arith

picked : (i n : ℕ) → (if nat_lt i n then i else 0) ≤ n
picked i n = elim (lt_or_not i n) [
  | inl h ↦ let less = h.1 in subst (λ (b : Bool). (if b then i else 0) ≤ n) (sym h.0) (omega arith)
  | inr h ↦ subst (λ (b : Bool). (if b then i else 0) ≤ n) (sym h.0) (omega arith)
]

pub stacks_fit : (edge : Edge) (p : Setup) → HasRoom p → Begins (linked edge p)
stacks_fit edge p h = record {
  room = λ i.
      let n = length p.image.entries in
      let j = if nat_lt i n then i else 0 in
      let w = p.options.stack in
      let fits = below_all j n w (picked i n) in
      let last = h.stacks in
      let size = stack_length w 4294967295 in
      omega arith;
}

pub stack_high : (p : Setup) (i : ℕ) → 268435456 ≤ (start_of p.image i p.options.stack).bottom
stack_high p i = omega arith
