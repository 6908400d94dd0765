-- What a step leaves untouched, and what a thread sees of a word after it.
use Rattle.std.proofs.Common.{◌≡◌, ℕ, zero, suc, ◌+◌, ◌<◌, Bool, true, false, if◌then◌else◌, nat_eq, List, [], ◌∷◌, ◌++◌, length, slice_get, slice_index, set, Option, Some, None, refl, sym, ap, ◌∙◌, subst, arith, length-set}
use Rattle.std.proofs.lemmas.Bool.{eqb-false, eqb-true}
use Rattle.std.proofs.lemmas.List.{get_or-set_other, get_or-set_same}
use Rattle.std.specs.Option.{option_or, unwrap_or}
use Rattle.cas_base.specs.Word.{word_sub}
use Rattle.cas_tso.specs.Frame.{IsFramed, IsKeptBeside, IsOutput, loaded_word, sees, view_after, word_after, written}
use Rattle.cas_tso.specs.State.{Setup, State, Thread, newest, view}
use Rattle.cas_tso.specs.Step.{Act, plain, forwarded, loaded, stored, drained, decremented, printed, stopped, Agrees, Step, Takes, memory_after, output_after}
use Rattle.cas_tso.specs.declared.pending.Pending.{Pending}
use Rattle.cas_tso.proofs.Keeping.{memory_length}
use Rattle.cas_tso.proofs.Machines.{one_item}

pub get_other : {X : Type 0} (xs : List X) (i j : ℕ) (x : X) → (j ≡ i → ⊥) →
    slice_get (set xs i x) j ≡ slice_get xs j
get_other [] i j x ne = refl
get_other (y ∷ ys) zero zero x ne = absurd (ne refl)
get_other (y ∷ ys) zero (suc j) x ne = refl
get_other (y ∷ ys) (suc i) zero x ne = refl
get_other (y ∷ ys) (suc i) (suc j) x ne = get_other ys i j x (λ e. ne (ap suc e))

pub get_same : {X : Type 0} (xs : List X) (i : ℕ) (x y : X) → slice_get xs i ≡ Some x →
    slice_get (set xs i y) i ≡ Some y
get_same [] i x y e = cc
get_same (z ∷ zs) zero x y e = refl
get_same (z ∷ zs) (suc i) x y e = get_same zs i x y e

index_set_at : (m : List ℕ) (at v k : ℕ) (b : Bool) → nat_eq at k ≡ b → at < length m →
    slice_index (set m at v) k ≡ (if b then v else slice_index m k)
index_set_at m at v k true same lt =
    subst (λ (j : ℕ). slice_index (set m at v) j ≡ v) (eqb-true at k same) (get_or-set_same m at v 0 lt)
index_set_at m at v k false other lt = get_or-set_other m at k v 0 (λ is. eqb-false at k other (sym is))

index_set : (m : List ℕ) (at v k : ℕ) → at < length m →
    slice_index (set m at v) k ≡ (if nat_eq at k then v else slice_index m k)
index_set m at v k lt = index_set_at m at v k (nat_eq at k) refl lt

within : (m : List ℕ) (at w : ℕ) → slice_get m at ≡ Some w → at < length m
within [] at w e = cc
within (y ∷ ys) zero w e = omega arith
within (y ∷ ys) (suc at) w e = let r = within ys at w e in omega arith

index_is : (m : List ℕ) (at w : ℕ) → slice_get m at ≡ Some w → slice_index m at ≡ w
index_is [] at w e = cc
index_is (y ∷ ys) zero w e = cc
index_is (y ∷ ys) (suc at) w e = index_is ys at w e

words_kept : (a : Act) (m : List ℕ) (k : ℕ) → (written a ≡ Some k → ⊥) →
    slice_get (memory_after a m) k ≡ slice_get m k
words_kept plain m k ne = refl
words_kept (forwarded at word) m k ne = refl
words_kept (loaded at word) m k ne = refl
words_kept (stored at value) m k ne = refl
words_kept (drained at value) m k ne = get_other m at k value (λ e. ne (ap Some (sym e)))
words_kept (decremented at word) m k ne = get_other m at k (word_sub word 1) (λ e. ne (ap Some (sym e)))
words_kept (printed ticket word) m k ne = refl
words_kept (stopped read e) m k ne = refl

output_kept : (i : ℕ) (a : Act) (o : List (ℕ × ℕ)) → (IsOutput a → ⊥) → output_after i a o ≡ o
output_kept i plain o ne = refl
output_kept i (forwarded at word) o ne = refl
output_kept i (loaded at word) o ne = refl
output_kept i (stored at value) o ne = refl
output_kept i (drained at value) o ne = refl
output_kept i (decremented at word) o ne = refl
output_kept i (printed ticket word) o ne = absurd (ne tt)
output_kept i (stopped read e) o ne = refl

pub framed : (p : Setup) (s t : State) (i : ℕ) (a : Act) → Step p s i a t → IsFramed i a s t
framed p s t i a (c, d, at, takes, agrees, is) = subst (λ (u : State). IsFramed i a s u) (sym is) record {
  threads = λ j ne. get_other s.threads i j d ne;
  count = length-set s.threads i d;
  words = λ k ne. words_kept a s.memory k ne;
  size = memory_length a s.memory;
  output = λ ne. output_kept i a s.output ne;
}

pub kept_beside : (p : Setup) (c d : Thread) (a : Act) → Takes p c a d → IsKeptBeside a c d
kept_beside p c d plain t =
    record { buffer = λ _. ap (λ (u : Thread). u.buffer) t.2; processor = λ no. absurd no }
kept_beside p c d (forwarded at word) t =
    record { buffer = λ _. ap (λ (u : Thread). u.buffer) t.4; processor = λ no. absurd no }
kept_beside p c d (loaded at word) t =
    record { buffer = λ _. ap (λ (u : Thread). u.buffer) t.4; processor = λ no. absurd no }
kept_beside p c d (stored at value) t = record { buffer = λ ne. absurd (ne tt); processor = λ no. absurd no }
kept_beside p c d (drained at value) t =
    record { buffer = λ ne. absurd (ne tt); processor = λ _. ap (λ (u : Thread). u.cpu) t.3 }
kept_beside p c d (decremented at word) t =
    record { buffer = λ _. ap (λ (u : Thread). u.buffer) t.3; processor = λ no. absurd no }
kept_beside p c d (printed ticket word) t =
    record { buffer = λ _. ap (λ (u : Thread). u.buffer) t.3; processor = λ no. absurd no }
kept_beside p c d (stopped read e) t = record {
  buffer = λ _. ap (λ (u : Thread). u.buffer) t.2;
  processor = λ _. ap (λ (u : Thread). u.cpu) t.2;
}

word_in : (a : Act) (m : List ℕ) (o : List (ℕ × ℕ)) (k : ℕ) → Agrees a m o →
    slice_index (memory_after a m) k ≡ word_after a k (slice_index m k)
word_in plain m o k h = refl
word_in (forwarded at word) m o k h = refl
word_in (loaded at word) m o k h = refl
word_in (stored at value) m o k h = refl
word_in (drained at value) m o k h = index_set m at value k h
word_in (decremented at word) m o k h = index_set m at (word_sub word 1) k (within m at word h)
word_in (printed ticket word) m o k h = refl
word_in (stopped read e) m o k h = refl

or_none : (o : Option ℕ) → option_or None o ≡ option_or o None
or_none None = refl
or_none (Some n) = refl

or_assoc : (a b c : Option ℕ) → option_or (option_or a b) c ≡ option_or a (option_or b c)
or_assoc None b c = refl
or_assoc (Some n) b c = refl

newest_append : (xs : List Pending) (x : Pending) (k : ℕ) →
    newest (xs ++ x ∷ []) k ≡ option_or (if nat_eq x.at k then Some x.value else None) (newest xs k)
newest_append [] x k = or_none (if nat_eq x.at k then Some x.value else None)
newest_append (y ∷ ys) x k =
    ap (λ (o : Option ℕ). option_or o (if nat_eq y.at k then Some y.value else None)) (newest_append ys x k)
    ∙ or_assoc (if nat_eq x.at k then Some x.value else None) (newest ys k)
    (if nat_eq y.at k then Some y.value else None)

seen_first : (b : Bool) (v w : ℕ) (n : Option ℕ) →
    unwrap_or (option_or (if b then Some v else None) n) w ≡ (if b then v else unwrap_or n w)
seen_first true v w n = refl
seen_first false v w n = refl

seen_last : (b : Bool) (v w : ℕ) (n : Option ℕ) →
    unwrap_or n (if b then v else w) ≡ unwrap_or (option_or n (if b then Some v else None)) w
seen_last b v w (Some n) = refl
seen_last true v w None = refl
seen_last false v w None = refl

seen_own : (p : Setup) (c d : Thread) (a : Act) (m : List ℕ) (o : List (ℕ × ℕ)) (k : ℕ) → Takes p c a d →
    Agrees a m o → view d.buffer (memory_after a m) k ≡ view_after a k (view c.buffer m k)
seen_own p c d plain m o k t h = ap (λ (u : Thread). view u.buffer m k) t.2
seen_own p c d (forwarded at word) m o k t h = ap (λ (u : Thread). view u.buffer m k) t.4
seen_own p c d (loaded at word) m o k t h = ap (λ (u : Thread). view u.buffer m k) t.4
seen_own p c d (stored at value) m o k t h =
    let new : Pending = record { at = at; value = value; entered = c.counts.executed + 1 } in
    ap (λ (u : Thread). view u.buffer m k) t.3
    ∙ (ap (λ (n : Option ℕ). unwrap_or n (slice_index m k)) (newest_append c.buffer new k)
    ∙ seen_first (nat_eq at k) value (slice_index m k) (newest c.buffer k))
seen_own p c d (drained at value) m o k t h =
    ap (λ (u : Thread). view u.buffer (set m at value) k) t.3
    ∙ (ap (λ (w : ℕ). unwrap_or (newest t.1 k) w) (index_set m at value k h)
    ∙ (seen_last (nat_eq at k) value (slice_index m k) (newest t.1 k)
    ∙ ap (λ (b : List Pending). view b m k) (sym t.2)))
seen_own p c d (decremented at word) m o k t h =
    let v = word_sub word 1 in
    ap (λ (u : Thread). view u.buffer (set m at v) k) t.3
    ∙ (ap (λ (b : List Pending). view b (set m at v) k) t.2
    ∙ (index_set m at v k (within m at word h)
    ∙ ap (λ (b : List Pending). if nat_eq at k then v else view b m k) (sym t.2)))
seen_own p c d (printed ticket word) m o k t h = ap (λ (u : Thread). view u.buffer m k) t.3
seen_own p c d (stopped read e) m o k t h = ap (λ (u : Thread). view u.buffer m k) t.2

pub word_of_memory : (p : Setup) (s t : State) (i : ℕ) (a : Act) → Step p s i a t → (k : ℕ) →
    slice_index t.memory k ≡ word_after a k (slice_index s.memory k)
word_of_memory p s t i a (c, d, at, takes, agrees, is) k =
    ap (λ (u : State). slice_index u.memory k) is ∙ word_in a s.memory s.output k agrees

pub own_view : (p : Setup) (s t : State) (i : ℕ) (a : Act) → Step p s i a t → (c d : Thread) →
    slice_get s.threads i ≡ Some c → slice_get t.threads i ≡ Some d → (k : ℕ) →
    sees t d k ≡ view_after a k (sees s c k)
own_view p s t i a (c, d, at, takes, agrees, is) c' d' at_c at_d k =
    let same_c = one_item (slice_get s.threads i) c c' at at_c in
    let found = ap (λ (u : State). slice_get u.threads i) (sym is) ∙ at_d in
    let same_d = one_item (slice_get (set s.threads i d) i) d d' (get_same s.threads i c d at) found in
    ap (λ (u : State). view d'.buffer u.memory k) is
    ∙ (ap (λ (u : Thread). view u.buffer (memory_after a s.memory) k) (sym same_d)
    ∙ (seen_own p c d a s.memory s.output k takes agrees
    ∙ ap (λ (u : Thread). view_after a k (view u.buffer s.memory k)) same_c))

pub other_view : (p : Setup) (s t : State) (i : ℕ) (a : Act) → Step p s i a t → (c : Thread) (k : ℕ) →
    sees t c k ≡ unwrap_or (newest c.buffer k) (word_after a k (slice_index s.memory k))
other_view p s t i a step c k =
    ap (λ (w : ℕ). unwrap_or (newest c.buffer k) w) (word_of_memory p s t i a step k)

same_pair : (a b c d : ℕ) → ◌≡◌ {A = Option (ℕ × ℕ)} (Some (a, b)) (Some (c, d)) → (a ≡ c) × (b ≡ d)
same_pair a b c d e =
    (ap (λ (o : Option (ℕ × ℕ)). (unwrap_or o (0, 0)).0) e, ap (λ (o : Option (ℕ × ℕ)). (unwrap_or o (0, 0)).1) e)

load_found : (p : Setup) (c d : Thread) (a : Act) (m : List ℕ) (o : List (ℕ × ℕ)) (k word : ℕ) → Takes p c a d →
    Agrees a m o → loaded_word a ≡ Some (k, word) → view c.buffer m k ≡ word
load_found p c d plain m o k word t h e = cc
load_found p c d (forwarded at w) m o k word t h e =
    let is = same_pair at w k word e in
    ap (λ (j : ℕ). view c.buffer m j) (sym is.0)
    ∙ (ap (λ (n : Option ℕ). unwrap_or n (slice_index m at)) t.2 ∙ is.1)
load_found p c d (loaded at w) m o k word t h e =
    let is = same_pair at w k word e in
    ap (λ (j : ℕ). view c.buffer m j) (sym is.0)
    ∙ (ap (λ (n : Option ℕ). unwrap_or n (slice_index m at)) t.2 ∙ (index_is m at w h ∙ is.1))
load_found p c d (stored at value) m o k word t h e = cc
load_found p c d (drained at value) m o k word t h e = cc
load_found p c d (decremented at w) m o k word t h e = cc
load_found p c d (printed ticket w) m o k word t h e = cc
load_found p c d (stopped read end) m o k word t h e = cc

pub load_view : (p : Setup) (s t : State) (i : ℕ) (a : Act) → Step p s i a t → (c : Thread) →
    slice_get s.threads i ≡ Some c → (k word : ℕ) → loaded_word a ≡ Some (k, word) → sees s c k ≡ word
load_view p s t i a (c, d, at, takes, agrees, is) c' at_c k word e =
    ap (λ (u : Thread). view u.buffer s.memory k) (sym (one_item (slice_get s.threads i) c c' at at_c))
    ∙ load_found p c d a s.memory s.output k word takes agrees e
