-- The flags that nothing fixes can be taken from the run.
use Rattle.std.proofs.Common.{◌≡◌, ℕ, ◌≤◌, ◌<◌, List, length, ◌∷◌, Option, Some, None, sym, refl, ap, ◌∙◌, subst, inl, inr, arith}
use Rattle.cas_asm.specs.Flags.{cleared}
use Rattle.cas_atomic.specs.Leftover.{Leftover}
use Rattle.cas_atomic.specs.Buffer.{put}
use Rattle.cas_atomic.proofs.Explaining.{flags_at, FitsLabel, Fits}
use Rattle.cas_atomic.specs.Buffered.{State, Run, opens, and_then}
use Rattle.cas_atomic.specs.Labels.{by_thread, listed}
use Rattle.cas_atomic.specs.Program.{Setup}
use Rattle.cas_atomic.specs.Sound.{Unknown}
use Rattle.cas_runs.specs.Label.{RunLabel, Lock, Unlock, Out, Done, Enter, Back, Call, Leave}
use Rattle.cas_runs.specs.Legal.{ThreadLabel, projection}
use Rattle.cas_atomic.proofs.Basic.{same_or_not, put_here, put_else}
use Rattle.cas_atomic.proofs.Moving.{projection_own, projection_else}

-- labels only grow
grown : (i j : ℕ) (o : Option RunLabel) (ls : List ThreadLabel) →
    length (projection j ls) ≤ length (projection j (listed i o ls))
grown i j None ls = omega arith
grown i j (Some l) ls = elim (same_or_not j i) [
  | inl q ↦ subst (λ (k : ℕ). length (projection k ls) ≤ length (projection k (by_thread i l ∷ ls))) (sym q)
      (subst (λ (m : List RunLabel). length (projection i ls) ≤ length m) (sym (projection_own i l ls)) (omega arith))
  | inr d ↦ subst (λ (m : List RunLabel). length (projection j ls) ≤ length m)
      (sym (projection_else i j (Some l) ls d)) (omega arith)
]

Agree : Unknown → Unknown → List ThreadLabel → Type 0
Agree u v ls = (j n : ℕ) → n < length (projection j ls) → v j n ≡ u j n

agree_before : (u v : Unknown) (i : ℕ) (o : Option RunLabel) (ls : List ThreadLabel) → Agree u v (listed i o ls) →
    Agree u v ls
unfolding Agree
agree_before u v i o ls h j n less = let g = grown i j o ls in h j n (omega arith)

fits_label : (u v : Unknown) (i : ℕ) (ls : List ThreadLabel) (f : Leftover) (o : Option RunLabel) →
    Agree u v (listed i o ls) → FitsLabel u i ls f o → FitsLabel v i ls f o
unfolding Agree
fits_label u v i ls f None h e = tt
fits_label u v i ls f (Some (Out w)) h e = tt
fits_label u v i ls f (Some Done) h e = tt
fits_label u v i ls f (Some (Enter g c)) h e = tt
fits_label u v i ls f (Some (Back c)) h e = tt
fits_label u v i ls f (Some (Call g c)) h e = tt
fits_label u v i ls f (Some (Leave c)) h e = tt
fits_label u v i ls f (Some (Lock l ws)) h e =
    let own = ap (λ (k : List RunLabel). length k) (projection_own i (Lock l ws) ls) in
    h i (length (projection i ls)) (omega arith) ∙ e
fits_label u v i ls f (Some (Unlock l ws)) h e =
    let own = ap (λ (k : List RunLabel). length k) (projection_own i (Unlock l ws) ls) in
    h i (length (projection i ls)) (omega arith) ∙ e

fits_too : {X : Type 0} {p : Setup X} (u v : Unknown) {s : State X} {ls : List ThreadLabel} (r : Run p s ls) →
    Agree u v ls → Fits u r → Fits v r
fits_too u v opens h f = tt
fits_too {p = p} u v (and_then {ls = ls} i t o r below step may) h f =
    (fits_too u v r (agree_before u v i o ls h) f.0, fits_label u v i ls (flags_at p (t.threads i).at) o h f.1)

-- the flags with those of one occasion changed
with_flags : Unknown → ℕ → ℕ → Leftover → Unknown
with_flags u i n f = put i (put n f (u i)) u

changed : (u : Unknown) (i n : ℕ) (f : Leftover) → with_flags u i n f i n ≡ f
unfolding with_flags
changed u i n f = ap (λ (g : ℕ → Leftover). g n) (put_here i (put n f (u i)) u i refl) ∙ put_here n f (u i) n refl

changed_else : (u : Unknown) (i n : ℕ) (f : Leftover) (j m : ℕ) → (j ≡ i → m ≡ n → ⊥) → with_flags u i n f j m ≡ u j m
unfolding with_flags
changed_else u i n f j m h = elim (same_or_not j i) [
  | inl q ↦ ap (λ (g : ℕ → Leftover). g m) (put_here i (put n f (u i)) u j q) ∙ put_else n f (u i) m (h q)
      ∙ ap (λ (k : ℕ). u k m) (sym q)
  | inr d ↦ ap (λ (g : ℕ → Leftover). g m) (put_else i (put n f (u i)) u j d)
]

fits_new : (u : Unknown) (i : ℕ) (ls : List ThreadLabel) (f : Leftover) (o : Option RunLabel) →
    FitsLabel (with_flags u i (length (projection i ls)) f) i ls f o
fits_new u i ls f None = tt
fits_new u i ls f (Some (Lock l ws)) = changed u i (length (projection i ls)) f
fits_new u i ls f (Some (Unlock l ws)) = changed u i (length (projection i ls)) f
fits_new u i ls f (Some (Out w)) = tt
fits_new u i ls f (Some Done) = tt
fits_new u i ls f (Some (Enter g c)) = tt
fits_new u i ls f (Some (Back c)) = tt
fits_new u i ls f (Some (Call g c)) = tt
fits_new u i ls f (Some (Leave c)) = tt

agrees : (u : Unknown) (i : ℕ) (ls : List ThreadLabel) (f : Leftover) →
    Agree u (with_flags u i (length (projection i ls)) f) ls
unfolding Agree
agrees u i ls f j m less = changed_else u i (length (projection i ls)) f j m
    (λ q e. let same = ap (λ (k : ℕ). length (projection k ls)) q in absurd (omega arith))

pub unknown_of : {X : Type 0} (p : Setup X) (s : State X) (ls : List ThreadLabel) (r : Run p s ls) → (u : Unknown)
    × Fits u r
unknown_of p _ _ opens =
    ((λ i n. record { flags = cleared; below = λ k. 0 }), tt)
unknown_of p _ _ (and_then {s = s} {ls = ls} i t o r below step may) =
    let before = unknown_of p s ls r in
    let f = flags_at p (t.threads i).at in
    let n = length (projection i ls) in
    let v = with_flags before.0 i n f in
    (v, (fits_too before.0 v r (agrees before.0 i ls f) before.1, fits_new before.0 i ls f o))
