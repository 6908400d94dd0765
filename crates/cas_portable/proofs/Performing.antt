-- Forms that are the same do the same with memories that are the same.
use Rattle.std.proofs.Common.{◌≡◌, ℕ, zero, suc, List, [], ◌∷◌, ⊎_elim, Option, Some, None, Bool, true, false, if◌then◌else◌, length, slice_get, slice_set, nat_lt, refl, sym, ap, ◌∙◌, subst}
use Rattle.std.specs.Prelude.{⊤}
use Rattle.cas_runs.specs.Label.{Share}
use Rattle.cas_runs.specs.Edge.{Edge, Cell, LockWord, SharedWord, TableWord}
use Rattle.cas_runs.specs.Naming.{Home, Value, Memory, with_block}
use Rattle.cas_runs.specs.Machine.{Footprint}
use Rattle.cas_runs.specs.Access.{Accesses, Doing, has_written, has_stored, Performed, failed, reads_as, reads_cell, under, writes_in, writes_cell, number_in, reads_word, writes_word, value_in, word_in, words_in, place_among, loads_as, stores_in, length_of, performed}
use Rattle.cas_runs.proofs.Cells.{set_length}
use Rattle.cas_runs.proofs.Fronting.{so}
use Rattle.cas_runs.proofs.Placing.{with_here, with_elsewhere, same_or_not}
use Rattle.cas_portable.specs.Renaming.{Renaming, IsRenaming, SameValue, SameValues, SameBlock, SameMemory, SameForm, reads, writes, loads, stores, looks, last, fails, SameStep, IsSized}

module _ (size : Home → ℕ) (r : Renaming) (is : IsRenaming r) where
  same_length : (vs ws : List Value) → SameValues size r vs ws → length vs ≡ length ws
  same_length [] [] h = refl
  same_length [] (w ∷ ws) h = absurd h
  same_length (v ∷ vs) [] h = absurd h
  same_length (v ∷ vs) (w ∷ ws) h = ap suc (same_length vs ws h.1)

  same_set : (vs ws : List Value) → SameValues size r vs ws → (at : ℕ) (v w : Value) → SameValue size r v w →
      SameValues size r (slice_set vs at v) (slice_set ws at w)
  same_set [] [] h at v w s = tt
  same_set [] (y ∷ ws) h at v w s = absurd h
  same_set (x ∷ vs) [] h at v w s = absurd h
  same_set (x ∷ vs) (y ∷ ws) h zero v w s = (s, h.1)
  same_set (x ∷ vs) (y ∷ ws) h (suc at) v w s = (h.0, same_set vs ws h.1 at v w s)

  abbrev SameGet : Option Value → Option Value → Type 0
  SameGet None None = ⊤
  SameGet (Some v) (Some w) = SameValue size r v w
  SameGet _ _ = ⊥

  same_get : (vs ws : List Value) → SameValues size r vs ws → (at : ℕ) → SameGet (slice_get vs at) (slice_get ws at)
  same_get [] [] h at = tt
  same_get [] (w ∷ ws) h at = absurd h
  same_get (v ∷ vs) [] h at = absurd h
  same_get (v ∷ vs) (w ∷ ws) h zero = h.0
  same_get (v ∷ vs) (w ∷ ws) h (suc at) = same_get vs ws h.1 at

  same_value_in : (o o' : Option (List Value)) → SameBlock size r o o' → (at : ℕ) →
      SameGet (value_in o at) (value_in o' at)
  same_value_in None None h at = tt
  same_value_in None (Some ws) h at = absurd h
  same_value_in (Some vs) None h at = absurd h
  same_value_in (Some vs) (Some ws) h at = same_get vs ws h at

  -- memories after stores that are the same
  stored : (m t : Memory) → SameMemory size r m t → (home home' : Home) → r home ≡ Some home' → (vs ws : List Value) →
      SameValues size r vs ws → SameMemory size r (with_block m home (Some vs)) (with_block t home' (Some ws))
  stored m t old home home' e vs ws s h h' k = ⊎_elim (λ same. here same) (λ differ. there differ) (same_or_not h home)
    where
      here : h ≡ home → SameBlock size r (with_block m home (Some vs) h) (with_block t home' (Some ws) h')
      here same =
          let both : Some h' ≡ Some home' = sym k ∙ ap r same ∙ e in
          let same' : h' ≡ home' = cc both in
          subst (λ o. SameBlock size r o (with_block t home' (Some ws) h'))
          (sym (ap (λ z. with_block m home (Some vs) z) same ∙ with_here m home (Some vs)))
          (subst (λ o. SameBlock size r (Some vs) o)
          (sym (ap (λ z. with_block t home' (Some ws) z) same' ∙ with_here t home' (Some ws))) s)

      there : (h ≡ home → ⊥) → SameBlock size r (with_block m home (Some vs) h) (with_block t home' (Some ws) h')
      there differ =
          subst (λ o. SameBlock size r o (with_block t home' (Some ws) h'))
          (sym (with_elsewhere m home h (Some vs) differ))
          (subst (λ o. SameBlock size r (m h) o) (sym (with_elsewhere t home' h' (Some ws)
          (λ same. differ (is.injective h home home' (k ∙ ap Some same) e)))) (old h h' k))

  -- what the thread holds while its step goes on
  pub record Held (begun m t : Memory) : Type 0 where
    pub memory : SameMemory size r m t
    pub elsewhere : (h' : Home) → ((h : Home) → r h ≡ Some h' → ⊥) → t h' ≡ begun h'
    pub sized : IsSized size t

  held_stored : (begun m t : Memory) → Held begun m t → (home home' : Home) → r home ≡ Some home' →
      (vs ws : List Value) → SameValues size r vs ws → length ws ≡ size home' →
      Held begun (with_block m home (Some vs)) (with_block t home' (Some ws))
  held_stored begun m t old home home' e vs ws s count = record {
    memory = stored m t old.memory home home' e vs ws s;
    elsewhere = λ h' far.
        with_elsewhere t home' h' (Some ws) (λ same. far home (e ∙ ap Some (sym same))) ∙ old.elsewhere h' far;
    sized = λ h us there. ⊎_elim
        (λ same. (let new : Some ws ≡ Some us =
        sym (with_here t home' (Some ws)) ∙ ap (λ z. with_block t home' (Some ws) z) (sym same) ∙ there in
        let one : ws ≡ us = cc new in ap length (sym one) ∙ count ∙ ap size (sym same)))
        (λ differ. old.sized h us (sym (with_elsewhere t home' h (Some ws) differ) ∙ there)) (same_or_not h home');
  }

  module _ {L M : Type 0} (same_last : L → M → Type 0) (edge : Edge) (begun : Memory) where
    abbrev Goal : Performed L → Performed M → Type 0
    Goal p q = SameStep size r same_last begun p q

    stops : (share : Share) (m t : Memory) (foot : Footprint) → Held begun m t →
        Goal (failed (so share m foot)) (failed (so share t foot))
    stops share m t foot h =
        record { same = tt; share = refl; memory = h.memory; elsewhere = h.elsewhere; footprint = refl }

    -- words

    module _ (m t : Memory) (h : Held begun m t) where
      read_same : (share : Share) (foot : Footprint) (go : ℕ → Doing → Performed L) (go' : ℕ → Doing → Performed M) →
          ((v : ℕ) (f : Footprint) → Goal (go v (so share m f)) (go' v (so share t f))) → (word : ℕ) (o : Option Cell) →
          Goal (reads_cell edge.cells o word (so share m foot) go) (reads_cell edge.cells o word (so share t foot) go')
      read_same share foot go go' more word None = stops share m t foot h
      read_same share foot go go' more word (Some LockWord) = stops share m t foot h
      read_same share foot go go' more word (Some (TableWord value)) = more value foot
      read_same share foot go go' more word (Some (SharedWord kind None initial)) = stops share m t foot h
      read_same share foot go go' more word (Some (SharedWord kind (Some guard) initial)) =
          by (word_in (words_in share guard) (place_among edge.cells guard word))
        where
          by : (o : Option ℕ) → Goal (reads_as o word (so share m foot) go) (reads_as o word (so share t foot) go')
          by None = stops share m t foot h
          by (Some v) = more v (record { reads = word ∷ foot.reads; writes = foot.writes })

      number_read : (share : Share) (foot : Footprint) (go : ℕ → Doing → Performed L) (go' : ℕ → Doing → Performed M) →
          ((v : ℕ) (f : Footprint) → Goal (go v (so share m f)) (go' v (so share t f))) → (o : Option ℕ) →
          Goal (reads_word edge.cells o (so share m foot) go) (reads_word edge.cells o (so share t foot) go')
      number_read share foot go go' more None = stops share m t foot h
      number_read share foot go go' more (Some word) =
          read_same share foot go go' more word (slice_get edge.cells word)

      written_same : (share : Share) (foot : Footprint) (go : Doing → Performed L) (go' : Doing → Performed M) →
          ((s : Share) (f : Footprint) → Goal (go (so s m f)) (go' (so s t f))) → (word value : ℕ) (o : Option Cell) →
          Goal (writes_cell edge.cells o word value (so share m foot) go)
          (writes_cell edge.cells o word value (so share t foot) go')
      written_same share foot go go' more word value None = stops share m t foot h
      written_same share foot go go' more word value (Some LockWord) = stops share m t foot h
      written_same share foot go go' more word value (Some (TableWord v)) = stops share m t foot h
      written_same share foot go go' more word value (Some (SharedWord kind None initial)) = stops share m t foot h
      written_same share foot go go' more word value (Some (SharedWord kind (Some guard) initial)) =
          by (words_in share guard)
        where
          within : (ws : List ℕ) (b : Bool) →
              Goal (if b then go (has_written (so share m foot) word guard
              (slice_set ws (place_among edge.cells guard word) value)) else failed (so share m foot))
              (if b then go' (has_written (so share t foot) word guard
              (slice_set ws (place_among edge.cells guard word) value)) else failed (so share t foot))
          within ws true = more _ _
          within ws false = stops share m t foot h

          by : (o : Option (List ℕ)) →
              Goal (writes_in o (under edge.cells guard word) value (so share m foot) go)
              (writes_in o (under edge.cells guard word) value (so share t foot) go')
          by None = stops share m t foot h
          by (Some ws) = within ws (nat_lt (place_among edge.cells guard word) (length ws))

      number_written : (share : Share) (foot : Footprint) (go : Doing → Performed L) (go' : Doing → Performed M) →
          ((s : Share) (f : Footprint) → Goal (go (so s m f)) (go' (so s t f))) → (value : ℕ) (o : Option ℕ) →
          Goal (writes_word edge.cells o value (so share m foot) go)
          (writes_word edge.cells o value (so share t foot) go')
      number_written share foot go go' more value None = stops share m t foot h
      number_written share foot go go' more value (Some word) =
          written_same share foot go go' more word value (slice_get edge.cells word)

      -- objects

      load_same : (share : Share) (foot : Footprint) (go : Value → Performed L) (go' : Value → Performed M) →
          ((v w : Value) → SameValue size r v w → Goal (go v) (go' w)) → (o o' : Option Value) → SameGet o o' →
          Goal (loads_as o (so share m foot) go) (loads_as o' (so share t foot) go')
      load_same share foot go go' more None None s = stops share m t foot h
      load_same share foot go go' more None (Some w) s = absurd s
      load_same share foot go go' more (Some v) None s = absurd s
      load_same share foot go go' more (Some v) (Some w) s = more v w s

    store_same : (m t : Memory) → Held begun m t → (share : Share) (foot : Footprint) (go : Doing → Performed L)
        (go' : Doing → Performed M) →
        ((m' t' : Memory) → Held begun m' t' → Goal (go (so share m' foot)) (go' (so share t' foot))) →
        (home home' : Home) → r home ≡ Some home' → (at : ℕ) (v w : Value) → SameValue size r v w →
        Goal (stores_in (m home) home at v (so share m foot) go) (stores_in (t home') home' at w (so share t foot) go')
    store_same m t h share foot go go' more home home' e at v w s =
        by (m home) refl (t home') refl (h.memory home home' e)
      where
        within : (vs ws : List Value) → SameValues size r vs ws → t home' ≡ Some ws → (b : Bool) →
            Goal (if b then go (has_stored (so share m foot) home (slice_set vs at v)) else failed (so share m foot))
            (if b then go' (has_stored (so share t foot) home' (slice_set ws at w)) else failed (so share t foot))
        within vs ws same there true = more _ _
            (held_stored begun m t h home home' e (slice_set vs at v) (slice_set ws at w)
            (same_set vs ws same at v w s)
            (set_length ws at w ∙ h.sized home' ws there))
        within vs ws same there false = stops share m t foot h

        by : (o : Option (List Value)) → m home ≡ o → (o' : Option (List Value)) → t home' ≡ o' →
            SameBlock size r (m home) (t home') →
            Goal (stores_in o home at v (so share m foot) go) (stores_in o' home' at w (so share t foot) go')
        by None a None b same = stops share m t foot h
        by None a (Some ws) b same = absurd (subst (λ o. SameBlock size r None o) b
            (subst (λ o. SameBlock size r o (t home')) a same))
        by (Some vs) a None b same = absurd (subst (λ o. SameBlock size r (Some vs) o) b
            (subst (λ o. SameBlock size r o (t home')) a same))
        by (Some vs) a (Some ws) b same =
            let both : SameValues size r vs ws = subst (λ o. SameBlock size r (Some vs) o) b
            (subst (λ o. SameBlock size r o (t home')) a same) in
            subst (λ n. Goal
            (if nat_lt at n then go (has_stored (so share m foot) home (slice_set vs at v))
            else failed (so share m foot))
            (stores_in (Some ws) home' at w (so share t foot) go')) (sym (same_length vs ws both))
            (within vs ws both b (nat_lt at (length ws)))

    look_same : (m t : Memory) → Held begun m t → (go : Option ℕ → Performed L) (go' : Option ℕ → Performed M) →
        (home home' : Home) → r home ≡ Some home' → Goal (go None) (go' None) →
        Goal (go (Some (size home'))) (go' (Some (size home'))) →
        Goal (go (length_of (m home))) (go' (length_of (t home')))
    look_same m t h go go' home home' e none some = by (m home) (t home') refl (h.memory home home' e)
      where
        by : (o o' : Option (List Value)) → t home' ≡ o' → SameBlock size r o o' →
            Goal (go (length_of o)) (go' (length_of o'))
        by None None there s = none
        by None (Some ws) there s = absurd s
        by (Some vs) None there s = absurd s
        by (Some vs) (Some ws) there s =
            subst (λ n. Goal (go (Some n)) (go' (Some (length ws)))) (sym (same_length vs ws s))
            (subst (λ n. Goal (go (Some n)) (go' (Some n))) (sym (h.sized home' ws there)) some)

    -- the whole form
    pub performed_same : {x : Accesses L} {y : Accesses M} → SameForm size r same_last x y → (share : Share)
        (m t : Memory) (foot : Footprint) → Held begun m t →
        Goal (performed edge x (so share m foot)) (performed edge y (so share t foot))
    performed_same (reads {global = g} {offset = i} next) share m t foot h =
        number_read m t h share foot _ _ (λ v f. performed_same (next v) share m t f h) (number_in (edge.words g) i)
    performed_same (writes {global = g} {offset = i} {word = w} next) share m t foot h =
        number_written m t h share foot _ _ (λ s f. performed_same next s m t f h) w (number_in (edge.words g) i)
    performed_same (loads {home = home} {home' = home'} {at = at} e next) share m t foot h =
        load_same m t h share foot _ _ (λ v w s. performed_same (next v w s) share m t foot h)
        (value_in (m home) at) (value_in (t home') at) (same_value_in (m home) (t home') (h.memory home home' e) at)
    performed_same (stores {home = home} {home' = home'} {at = at} {v = v} {w = w} e s next) share m t foot h =
        store_same m t h share foot _ _ (λ m' t' k. performed_same next share m' t' foot k) home home' e at v w s
    performed_same (looks {home = home} {home' = home'} {next = next} {next' = next'} e none some) share m t foot h =
        look_same m t h (λ n. performed edge (next n) (so share m foot))
        (λ n. performed edge (next' n) (so share t foot)) home home' e
        (performed_same none share m t foot h) (performed_same some share m t foot h)
    performed_same (last s) share m t foot h =
        record { same = s; share = refl; memory = h.memory; elsewhere = h.elsewhere; footprint = refl }
    performed_same fails share m t foot h = stops share m t foot h
