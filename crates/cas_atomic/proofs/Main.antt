-- The lock object is sound.
use Rattle.std.proofs.Common.{◌≡◌, ℕ, zero, suc, ◌≤◌, ◌<◌, List, [], ◌∷◌, ◌++◌, Option, Some, slice_get, sym, refl, ap, ◌∙◌, subst, inl, inr, ◌⊎◌, arith}
use Rattle.cas_atomic.proofs.Words.{initially}
use Rattle.cas_atomic.proofs.Showing.{shown_bad}
use Rattle.cas_atomic.specs.Leftover.{Leftover, one_less, after_decrement}
use Rattle.cas_atomic.specs.Buffer.{store, put}
use Rattle.cas_atomic.proofs.Explaining.{Explains, flags_at, FitsLabel, Fits}
use Rattle.cas_atomic.proofs.Inner.{Atomic, start, act, begins}
use Rattle.cas_atomic.proofs.Places.{beside, is_free, Stands, StandsAt}
use Rattle.cas_atomic.specs.Buffered.{call, turn, Point, Inside, Thread, thread, State, opening, within, if_zero, Executes, Step, MayStep, Running, plain, load, put_off, decrement, call_lock, call_unlock, prints, done, inside, stops, drain, Run, opens, and_then, moved}
use Rattle.cas_atomic.specs.Cells.{AreGuards, first_value, first_words, under, values}
use Rattle.cas_atomic.specs.Labels.{listed}
use Rattle.cas_atomic.specs.Object.{Instr, LockDec, JumpNotSign, CompareZero, JumpLessEqual, Jump, Return, StoreWord, accepted, LockObject}
use Rattle.cas_atomic.specs.Program.{Setup}
use Rattle.cas_atomic.specs.Sound.{Unknown, IsBadAt, IsBadBefore, refused_threads}
use Rattle.cas_runs.specs.Edge.{Cell}
use Rattle.cas_runs.specs.Label.{Lock, RunLabel}
use Rattle.cas_runs.specs.Legal.{ThreadLabel, Free}
use Rattle.cas_runs.specs.Machine.{Act, Quiet, Emits, Locks, Bad, Stops, IsBad, Crosses, Receives}
use Rattle.cas_atomic.proofs.Basic.{put_here}
use Rattle.cas_atomic.proofs.Outside.{step_plain, step_load, step_store, step_decrement, step_call_lock, step_call_unlock, step_prints, step_done, step_stops}
use Rattle.cas_atomic.proofs.Inside.{step_lock_dec, step_jump_not_sign, step_compare, step_jump_less_equal, step_jump, step_return, step_store_one}
use Rattle.cas_atomic.proofs.Drains.{step_drain}

module _ {X : Type 0} (p : Setup X) (guards : AreGuards p.edge.cells) (few : p.threads ≤ 2147483648)
    (is : p.object ≡ accepted)
    (u : Unknown) where
  module _ (s : State X) (ls : List ThreadLabel) (e : Explains p u s ls) (i : ℕ) (below : i < p.threads)
      (fine : IsBad (act p (u i) (e.asm i)) → ⊥) where
    finish : (t t' : State X) (o o' : Option RunLabel) → t ≡ t' → o ≡ o' →
        (FitsLabel u i ls (flags_at p (t'.threads i).at) o' → Explains p u t' (listed i o' ls))
        → FitsLabel u i ls (flags_at p (t.threads i).at) o → Explains p u t (listed i o ls)
    finish t t' o o' q q' h fit =
        subst (λ (z : State X). Explains p u z (listed i o ls)) (sym q)
        (subst (λ (y : Option RunLabel). Explains p u t' (listed i y ls)) (sym q')
        (h (subst (λ (y : Option RunLabel). FitsLabel u i ls (flags_at p (t'.threads i).at) y) q'
        (subst (λ (z : State X). FitsLabel u i ls (flags_at p (z.threads i).at) o) q fit))))

    flags_here : (d : Thread X) → flags_at p (put i d s.threads i).at ≡ flags_at p d.at
    flags_here d = ap (λ (k : Thread X). flags_at p k.at) (put_here i d s.threads i refl)

    instr_is : (j k : Instr) → Some j ≡ Some k → k ≡ j
    instr_is j k q = let same : j ≡ k = cc q in sym same

    executes : (live : (s.threads i).ended ≡ Running) (place : ℕ) (f : Leftover) (l : ℕ) (k : Leftover → X)
        (instr : Instr)
        (t : State X) (o : Option RunLabel) → (s.threads i).at ≡ Inside place f l k
        → StandsAt (beside p (e.asm i) (s.threads i).buffer (s.threads i).executed) f l k place →
        slice_get accepted.code place ≡ Some instr
        → Executes (turn p s i) (call place f l k) instr t o → FitsLabel u i ls (flags_at p (t.threads i).at) o →
        Explains p u t (listed i o ls)
    executes live zero f l k instr t o h st q x fit =
        let y = subst (λ (n : Instr). Executes (turn p s i) (call 0 f l k) n t o) (instr_is LockDec instr q) x in
        let v : ℕ = one_less (s.memory l) in
        finish t _ o _ y.1 y.2 (λ g. step_lock_dec p guards few u s ls e i below fine live f l k v refl h st y.0
        (subst (λ (z : Leftover). FitsLabel u i ls z (if_zero v (Lock l (values s.memory (under p.edge.cells 0 l)))))
        (flags_here (within (s.threads i) 1 (after_decrement f v) l k)) g)) fit
    executes live (suc zero) f l k instr t o h st q x fit =
        let y = subst (λ (n : Instr). Executes (turn p s i) (call 1 f l k) n t o) (instr_is (JumpNotSign 5) instr q)
        x in
        finish t _ o _ y.0 y.1 (λ g. step_jump_not_sign p guards few u s ls e i below fine live f l k h st) fit
    executes live (suc (suc zero)) f l k instr t o h st q x fit =
        let y = subst (λ (n : Instr). Executes (turn p s i) (call 2 f l k) n t o) (instr_is CompareZero instr q) x in
        finish t _ o _ y.0 y.1 (λ g. step_compare p guards few u s ls e i below fine live f l k h st) fit
    executes live (suc (suc (suc zero))) f l k instr t o h st q x fit =
        let y = subst (λ (n : Instr). Executes (turn p s i) (call 3 f l k) n t o) (instr_is (JumpLessEqual 2) instr q)
        x in
        finish t _ o _ y.0 y.1 (λ g. step_jump_less_equal p guards few u s ls e i below fine live f l k h st) fit
    executes live (suc (suc (suc (suc zero)))) f l k instr t o h st q x fit =
        let y = subst (λ (n : Instr). Executes (turn p s i) (call 4 f l k) n t o) (instr_is (Jump 0) instr q) x in
        finish t _ o _ y.0 y.1 (λ g. step_jump p guards few u s ls e i below fine live f l k h st) fit
    executes live (suc (suc (suc (suc (suc zero))))) f l k instr t o h st q x fit =
        let y = subst (λ (n : Instr). Executes (turn p s i) (call 5 f l k) n t o) (instr_is Return instr q) x in
        finish t _ o _ y.0 y.1 (λ g. step_return p guards few u s ls e i below fine live f l k 5 h st refl) fit
    executes live (suc (suc (suc (suc (suc (suc zero)))))) f l k instr t o h st q x fit =
        let y = subst (λ (n : Instr). Executes (turn p s i) (call 6 f l k) n t o) (instr_is (StoreWord 1) instr q) x in
        let d : Thread X = thread (Inside 7 f l k) ((s.threads i).buffer ++ store l 1 ∷ []) (s.threads i).ended
        (s.threads i).executed in
        finish t _ o _ y.0 y.1 (λ g. step_store_one p guards few u s ls e i below fine live f l k h st
        (g ∙ flags_here d)) fit
    executes live (suc (suc (suc (suc (suc (suc (suc zero))))))) f l k instr t o h st q x fit =
        let y = subst (λ (n : Instr). Executes (turn p s i) (call 7 f l k) n t o) (instr_is Return instr q) x in
        finish t _ o _ y.0 y.1 (λ g. step_return p guards few u s ls e i below fine live f l k 7 h st refl) fit
    executes live (suc (suc (suc (suc (suc (suc (suc (suc n)))))))) f l k instr t o h st q x fit = absurd st

    -- each step is explained
    one_step : (t : State X) (o : Option RunLabel) (step : Step p s i t o) → MayStep step →
        FitsLabel u i ls (flags_at p (t.threads i).at) o → Explains p u t (listed i o ls)
    one_step _ _ (plain x y h n) live fit = step_plain p guards u s ls e i below fine live x y h n
    one_step _ _ (load x w k y h n g) live fit = step_load p guards u s ls e i below fine live x w k y h n g
    one_step _ _ (put_off x w v y h n) live fit = step_store p guards u s ls e i below fine live x w v y h n
    one_step _ _ (decrement x w k h n empty) live fit =
        step_decrement p guards u s ls e i below fine live x w k h n empty
    one_step _ _ (call_lock x l k h n) live fit =
        subst (λ (o : LockObject). Explains p u (moved s i (thread (Inside o.lock (p.flags x) l k)
        (s.threads i).buffer (s.threads i).ended (suc (s.threads i).executed))) ls) (sym is)
        (step_call_lock p guards u s ls e i below fine live x l k h n)
    one_step _ _ (call_unlock x l k h n) live fit =
        subst (λ (o : LockObject). Explains p u (moved s i (thread (Inside o.unlock (p.flags x) l k)
        (s.threads i).buffer (s.threads i).ended (suc (s.threads i).executed))) ls) (sym is)
        (step_call_unlock p guards u s ls e i below fine live x l k h n)
    one_step _ _ (prints x v y h n) live fit = step_prints p guards u s ls e i below fine live x v y h n
    one_step _ _ (done x y h n) live fit = step_done p guards u s ls e i below fine live x y h n
    one_step _ _ (inside place f l k instr t o h q x) live fit =
        executes live place f l k instr t o h
        (subst (λ (w : Point X). Stands p (e.asm i) (s.threads i).buffer (s.threads i).executed w) h (e.stands i))
        (subst (λ (o : LockObject). slice_get o.code place ≡ Some instr) is q) x fit
    one_step _ _ (stops why m) live fit = step_stops p guards u s ls e i below fine live why m
    one_step _ _ (drain w v rest h) live fit = step_drain p u s ls e i w v rest h

  word_first : (w : ℕ) (c : Cell) → slice_get p.edge.cells w ≡ Some c →
      first_words p.edge.cells w ≡ first_value (Some c)
  word_first w c h = ap first_value h

  at_first : Explains p u (opening p) []
  at_first = record {
    asm = start p;
    runs = λ i. begins;
    stands = λ i. record { at = refl; steps = refl };
    ends = λ i z. z;
    legal = tt;
    outs = refl;
    occasion = λ i. refl;
    locks = λ l lk. is_free (ap first_value lk.is) (λ j. record { lock_word = refl; guarded = λ w g. refl })
        (λ j. refl) (ap Free (initially p.edge.cells l));
    tables = λ w v h. ap first_value h;
    unstored = λ w v h j. refl;
  }

  bad_or_fine : (b : Act (Atomic X)) → IsBad b ⊎ (IsBad b → ⊥)
  bad_or_fine (Quiet y) = inr (λ h. h)
  bad_or_fine (Emits l y) = inr (λ h. h)
  bad_or_fine (Locks l f) = inr (λ h. h)
  bad_or_fine (Crosses g h f) = inr (λ h. h)
  bad_or_fine (Receives f) = inr (λ h. h)
  bad_or_fine Bad = inl tt
  bad_or_fine (Stops why) = inr (λ h. h)

  abbrev pub AllFine : (ℕ → Atomic X) → ℕ → Type 0
  AllFine asm n = (i : ℕ) → i < n → IsBad (act p (u i) (asm i)) → ⊥

  abbrev pub SomeBad : (ℕ → Atomic X) → ℕ → Type 0
  SomeBad asm n = (i : ℕ) × (i < n) × IsBad (act p (u i) (asm i))

  all_fine : (asm : ℕ → Atomic X) (n : ℕ) → AllFine asm n ⊎ SomeBad asm n
  all_fine asm zero = inl (λ i less b. absurd (omega arith))
  all_fine asm (suc n) = elim (bad_or_fine (act p (u n) (asm n))) [
    | inl b ↦ inr (n, omega arith, b)
    | inr f ↦ elim (all_fine asm n) [
      | inl all ↦ inl (λ i less b. elim (Rattle.cas_atomic.proofs.Basic.same_or_not i n)
          [ inl q ↦ f (subst (λ (j : ℕ). IsBad (act p (u j) (asm j))) q b) | inr d ↦ all i (omega arith) b ])
      | inr some ↦ let less = some.1 in inr (some.0, omega arith, some.2)
    ]
  ]

  pub record IsFine (s : State X) (ls : List ThreadLabel) : Type 0 where
    pub explains : Explains p u s ls
    pub fine : AllFine explains.asm p.threads

  sorted : (s : State X) (ls : List ThreadLabel) → Explains p u s ls →
      IsFine s ls ⊎ IsBadAt p (refused_threads p) u s ls
  sorted s ls e = elim (all_fine e.asm p.threads) [
    | inl f ↦ inl (record { explains = e; fine = f })
    | inr b ↦ inr (shown_bad p u s ls e b.0 b.1 b.2)
  ]

  pub runs_explained : (s : State X) (ls : List ThreadLabel) (r : Run p s ls) → Fits u r →
      IsFine s ls ⊎ IsBadBefore (refused_threads p) u r
  runs_explained _ _ opens fit = sorted (opening p) [] at_first
  runs_explained _ _ (and_then {s = s} {ls = ls} i t o r below step may) fit = elim (runs_explained s ls r fit.0) [
    | inl f ↦ elim (sorted t (listed i o ls) (one_step s ls f.explains i below (f.fine i below) t o step may fit.1))
        [ inl g ↦ inl g | inr b ↦ inr (inr b) ]
    | inr b ↦ inr (inl b)
  ]
