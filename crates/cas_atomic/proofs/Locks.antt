-- The three states of a lock, and what each kind of step keeps of them.
use Rattle.std.proofs.Common.{◌≡◌, ℕ, Bool, List, [], ◌∷◌, ◌++◌, Option, sym, refl, ap, ◌∙◌, subst, inl, inr, ◌⊎◌}
use Rattle.cas_atomic.specs.Leftover.{IsMinus}
use Rattle.cas_atomic.specs.Buffer.{Store, store, newest, seen, view, put}
use Rattle.cas_atomic.proofs.Places.{scene, LockIs, is_free, is_held, is_released}
use Rattle.cas_atomic.specs.Cells.{IsUnder}
use Rattle.cas_atomic.specs.Table.{IsClear, Releases, now, later}
use Rattle.cas_runs.specs.Edge.{Cell}
use Rattle.cas_runs.specs.Legal.{LockState, Free}
use Rattle.cas_atomic.proofs.Basic.{put_else, appended_else, popped_else}
use Rattle.cas_atomic.proofs.Words.{same_values, IsApart}

module _ (cells : List Cell) (lock : ℕ) where
  abbrev pub IsRelevant : ℕ → Type 0
  IsRelevant w = (w ≡ lock) ⊎ IsUnder cells lock w

  apart_from : (w : ℕ) → IsApart cells lock w → (at : ℕ) → IsRelevant at → w ≡ at → ⊥
  apart_from w a at (inl e) h = a.other (h ∙ e)
  apart_from w a at (inr g) h = a.unguarded (subst (λ (k : ℕ). IsUnder cells lock k) (sym h) g)

  -- two buffers are the same to the lock
  pub record AreSame (b c : List Store) : Type 0 where
    pub newest_same : (w : ℕ) → IsRelevant w → newest c w ≡ newest b w
    pub releases : Releases cells lock b → Releases cells lock c

  pub same_self : (b : List Store) → AreSame b b
  same_self b = record { newest_same = λ w h. refl; releases = λ r. r }

  pub same_by : (b c : List Store) → c ≡ b → AreSame b c
  same_by b c e = subst (λ (d : List Store). AreSame b d) (sym e) (same_self b)

  clear_same : (b c : List Store) → AreSame b c → IsClear cells lock b → IsClear cells lock c
  clear_same b c s h = record {
    lock_word = s.newest_same lock (inl refl)
        ∙ h.lock_word;
    guarded = λ w g. s.newest_same w (inr g) ∙ h.guarded w g;
  }

  appended_clear : (w v : ℕ) → IsApart cells lock w → (b : List Store) → IsClear cells lock b →
      IsClear cells lock (b ++ store w v ∷ [])
  appended_clear w v a b h = record {
    lock_word = appended_else b w v lock (λ e. a.other e) ∙ h.lock_word;
    guarded = λ at g. appended_else b w v at (apart_from w a at (inr g)) ∙ h.guarded at g;
  }

  appended_releases : (w v : ℕ) → IsApart cells lock w → (b : List Store) → Releases cells lock b →
      Releases cells lock (b ++ store w v ∷ [])
  appended_releases w v a b (now rest c) = now (rest ++ store w v ∷ []) (appended_clear w v a rest c)
  appended_releases w v a b (later at u rest n r) = later at u (rest ++ store w v ∷ []) n
      (appended_releases w v a rest r)

  -- a store elsewhere
  pub appended_same : (b : List Store) (w v : ℕ) → IsApart cells lock w → AreSame b (b ++ store w v ∷ [])
  appended_same b w v a =
      record {
        newest_same = λ at h. appended_else b w v at (apart_from w a at h);
        releases =
            appended_releases w v a b;
      }

  pub popped_releases : (w v : ℕ) (rest : List Store) (b : List Store) → b ≡ store w v ∷ rest → (w ≡ lock → ⊥) →
      Releases cells lock b → Releases cells lock rest
  popped_releases w v rest b e n (now others c) = let same : store lock 1 ≡ store w v =
      cc e in absurd (n (sym (ap (λ (x : Store). x.at) same)))
  popped_releases w v rest b e n (later at u others d r) = let same : others ≡ rest =
      cc e in subst (λ (x : List Store). Releases cells lock x) same r

  -- a drain of a store elsewhere
  pub popped_same : (w v : ℕ) (rest : List Store) → IsApart cells lock w → AreSame (store w v ∷ rest) rest
  popped_same w v rest a =
      record {
        newest_same = λ at h. sym (popped_else w v rest at (apart_from w a at h));
        releases =
            popped_releases w v rest (store w v ∷ rest) refl a.other;
      }

  pub put_same : (w v : ℕ) (m : ℕ → ℕ) → IsApart cells lock w → (at : ℕ) → IsRelevant at → put w v m at ≡ m at
  put_same w v m a at h = put_else w v m at (λ e. apart_from w a at h (sym e))

  module _ (n : ℕ) (buffers buffers' : ℕ → List Store) (memory memory' : ℕ → ℕ) (r r' : ℕ) (holds holds' : ℕ → Bool)
      (words words' : ℕ → ℕ → ℕ) (state state' : LockState) where
    -- what doesn't concern the lock leaves it in its state
    pub keep : ((j : ℕ) → AreSame (buffers j) (buffers' j)) → ((w : ℕ) → IsRelevant w → memory' w ≡ memory w) →
        (IsMinus r (memory lock) → IsMinus r' (memory' lock))
        → ((j : ℕ) → holds' j ≡ holds j) → ((j w : ℕ) → IsUnder cells lock w → words' j w ≡ words j w) → state' ≡ state
        → LockIs cells lock (scene buffers memory r holds words state) →
        LockIs cells lock (scene buffers' memory' r' holds' words' state')
    keep same mem bound hold word st (is_free one clear none s) =
        is_free (mem lock (inl refl) ∙ one) (λ j. clear_same (buffers j) (buffers' j) (same j) (clear j))
        (λ j. hold j ∙ none j)
        (st ∙ s ∙ ap Free (sym (same_values cells lock memory' memory (λ w g. mem w (inr g)))))
    keep same mem bound hold word st (is_held i minus unstored others mine none own s) =
        is_held i (bound minus) ((same i).newest_same lock (inl refl) ∙ unstored)
        (λ j d. clear_same (buffers j) (buffers' j) (same j) (others j d)) (hold i ∙ mine)
        (λ j d. hold j ∙ none j d)
        (λ w g. let a = (same i).newest_same w (inr g) in let b = mem w (inr g) in word i w g ∙ own w g
        ∙ sym (ap (λ (o : Option ℕ). seen o (memory' w)) a ∙ ap (seen (newest (buffers i) w)) b)) (st ∙ s)
    keep same mem bound hold word st (is_released i minus rel others none s) =
        is_released i (bound minus) ((same i).releases rel)
        (λ j d. clear_same (buffers j) (buffers' j) (same j) (others j d)) (λ j. hold j ∙ none j)
        (st ∙ s ∙ ap Free (sym (same_values cells lock (view (buffers' i) memory') (view (buffers i) memory)
        (λ w g. ap (λ (o : Option ℕ). seen o (memory' w)) ((same i).newest_same w (inr g))
        ∙ ap (seen (newest (buffers i) w)) (mem w (inr g))))))
