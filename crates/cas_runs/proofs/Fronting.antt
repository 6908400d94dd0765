-- What one step of the target comes to, where its form amounts to what is left of the source's.
use Rattle.std.proofs.Common.{◌≡◌, ℕ, ◌+◌, ◌≤◌, List, ◌∷◌, ◌⊎◌, Option, Some, None, Bool, true, false, if◌then◌else◌, length, slice_get, slice_set, nat_lt, inl, inr, refl, sym, ap, ◌∙◌, subst, ⊎_elim, arith, ltb-true, lt-ltb}
use Rattle.cas_runs.specs.Label.{Share}
use Rattle.cas_runs.specs.Edge.{Edge, Cell, LockWord, SharedWord, TableWord}
use Rattle.cas_runs.specs.Outside.{IsAmong, first, later}
use Rattle.cas_runs.specs.Naming.{Home, Value, Number, Memory, with_block}
use Rattle.cas_runs.specs.Machine.{Footprint}
use Rattle.cas_runs.specs.Bounds.{step_price}
use Rattle.cas_runs.specs.Access.{Accesses, words_in, place_among, word_in, with_words, Doing, has_written, has_stored, Performed, failed, reads_as, reads_cell, under, writes_in, writes_cell, number_in, reads_word, writes_word, value_in, loads_as, stores_in, performed}
use Rattle.cas_runs.specs.Forms.{ShareSelfSame, AreSelfSame, FootIn}
use Rattle.cas_runs.specs.Calls.{Last, Goes}
use Rattle.cas_runs.specs.Passing.{Relation}
use Rattle.cas_runs.specs.Held.{set_in, stored_at, HasRoom, Activation, Held, LastHeld, Amounts, both_read, source_reads, both_write, both_load, source_loads, target_loads, source_looks, target_looks, both_store, source_stores, target_stores, onward, at_last, fails_too, HoldsBy}
use Rattle.cas_runs.proofs.Words.{self_get, self_set, self_found, self_with}
use Rattle.cas_runs.proofs.Footing.{foot_both, performed_more}

-- a step so far, with its share, its memory and its footprint
abbrev pub so : Share → Memory → Footprint → Doing
so share memory foot = record { holding = record { share = share; memory = memory }; footprint = foot }

module _ {F A G B : Type 0} (r : Relation F A G B) (w : Held F A G B) (plain : HoldsBy r w)
    (tables : (word value : ℕ) → slice_get r.setting.edge.cells word ≡ Some (TableWord value) →
    r.by.match_values (Number value) (Number value)) (least : (x : A) → 1 ≤ step_price r.target.tariff r.targets x)
    (act : Activation F G) where
  abbrev E : Edge
  E = r.setting.edge

  abbrev C : List Cell
  C = r.setting.edge.cells

  -- the target's step is one on the way
  pub record Moves (share : Share) (t s : Memory) (ft fs : Footprint) (credit : ℕ) (p : Performed (Last A))
      (q : Performed (Last B)) : Type 0 where
    pub next : A
    pub left : Accesses (Last B)
    pub t_now : Memory
    pub s_now : Memory
    pub foot : Footprint
    pub rest : ℕ
    pub does : p.last ≡ Some (Goes next)
    pub holding : p.holding ≡ record { share = share; memory = t_now }
    pub so_far : q ≡ performed E left (so share s_now foot)
    pub t_kept : w.target_frame act.serial t t_now
    pub s_kept : w.source_frame act.serial s s_now
    pub leads : Amounts r w act rest t_now s_now (r.target.form next) left
    pub price : step_price r.target.tariff r.targets next + rest ≤ credit
    pub footprint : FootIn p.footprint q.footprint

  -- the target's step is the last
  pub record Ends (share : Share) (t s : Memory) (ft fs : Footprint) (p : Performed (Last A)) (q : Performed (Last B))
      : Type 0 where
    pub t_last : Last A
    pub s_last : Last B
    pub t_does : p.last ≡ Some t_last
    pub s_does : q.last ≡ Some s_last
    pub lasts : LastHeld r w act p.holding.memory q.holding.memory t_last s_last
    pub same_share : p.holding.share ≡ q.holding.share
    pub words : ShareSelfSame r.by.match_values q.holding.share
    pub t_kept : w.target_frame act.serial t p.holding.memory
    pub s_kept : w.source_frame act.serial s q.holding.memory
    pub footprint : FootIn p.footprint q.footprint

  -- what the target's step comes to
  pub data Front (share : Share) (t s : Memory) (ft fs : Footprint) (credit : ℕ) (p : Performed (Last A))
      (q : Performed (Last B)) : Type 0 where
    failing : q.last ≡ None → Front share t s ft fs credit p q
    ending : Ends share t s ft fs p q → Front share t s ft fs credit p q
    moving : Moves share t s ft fs credit p q → Front share t s ft fs credit p q

  -- from other footprints and memories
  from_later : (share : Share) (t t' s s' : Memory) (ft ft' fs fs' : Footprint) (credit : ℕ) (p : Performed (Last A))
      (q : Performed (Last B)) → w.target_frame act.serial t t' → w.source_frame act.serial s s' →
      Front share t' s' ft' fs' credit p q → Front share t s ft fs credit p q
  from_later share t t' s s' ft ft' fs fs' credit p q a b (failing h) = failing h
  from_later share t t' s s' ft ft' fs fs' credit p q a b (ending e) =
      ending (record {
        t_last = e.t_last;
        s_last = e.s_last;
        t_does = e.t_does;
        s_does = e.s_does;
        lasts =
            e.lasts;
        same_share = e.same_share;
        words = e.words;
        t_kept =
            plain.conditions.0.then act.serial t t' p.holding.memory a e.t_kept;
        s_kept =
            plain.conditions.1.then act.serial s s' q.holding.memory b e.s_kept;
        footprint = e.footprint;
      })
  from_later share t t' s s' ft ft' fs fs' credit p q a b (moving m) =
      moving (record {
        next = m.next;
        left = m.left;
        t_now = m.t_now;
        s_now = m.s_now;
        foot = m.foot;
        rest =
            m.rest;
        does = m.does;
        holding = m.holding;
        so_far = m.so_far;
        t_kept =
            plain.conditions.0.then act.serial t t' m.t_now a m.t_kept;
        s_kept =
            plain.conditions.1.then act.serial s s' m.s_now b m.s_kept;
        leads = m.leads;
        price = m.price;
        footprint =
            m.footprint;
      })

  refoot : (share : Share) (t s : Memory) (ft ft' fs fs' : Footprint) (credit : ℕ) (p : Performed (Last A))
      (q : Performed (Last B)) → Front share t s ft' fs' credit p q → Front share t s ft fs credit p q
  refoot share t s ft ft' fs fs' credit p q h = from_later share t t s s ft ft' fs fs' credit p q
      (plain.conditions.0.itself act.serial t) (plain.conditions.1.itself act.serial s) h

  -- without credit the target's step is the last, whatever the share is then
  with_credit : (share share' : Share) (t s : Memory) (ft ft' fs fs' : Footprint) (credit : ℕ) (p : Performed (Last A))
      (q : Performed (Last B)) → Front share' t s ft' fs' 0 p q → Front share t s ft fs credit p q
  with_credit share share' t s ft ft' fs fs' credit p q (failing h) = failing h
  with_credit share share' t s ft ft' fs fs' credit p q (ending e) =
      ending (record {
        t_last = e.t_last;
        s_last = e.s_last;
        t_does = e.t_does;
        s_does = e.s_does;
        lasts =
            e.lasts;
        same_share = e.same_share;
        words = e.words;
        t_kept = e.t_kept;
        s_kept = e.s_kept;
        footprint =
            e.footprint;
      })
  with_credit share share' t s ft ft' fs fs' credit p q (moving m) = let cost = m.price in let one =
      least m.next in absurd (omega (arith, cost, one))

  abbrev reading : Footprint → ℕ → Footprint
  reading foot word = record { reads = word ∷ foot.reads; writes = foot.writes }

  read_in : (ft fs : Footprint) (word : ℕ) → FootIn ft fs → FootIn (reading ft word) (reading fs word)
  read_in ft fs word h = record { writes = h.writes; reads = λ v m. more v m }
    where
      more : (v : ℕ) → IsAmong v (word ∷ ft.reads) → IsAmong v (word ∷ fs.reads) ⊎ IsAmong v fs.writes
      more v first = inl first
      more v (later k) = ⊎_elim (λ u. inl (later u)) inr (h.reads v k)

  alone_in : (ft fs : Footprint) (word : ℕ) → FootIn ft fs → FootIn ft (reading fs word)
  alone_in ft fs word h = record { writes = h.writes; reads = λ v m. ⊎_elim (λ u. inl (later u)) inr (h.reads v m) }

  -- a word that both read
  cell_both : (share : Share) → ShareSelfSame r.by.match_values share → (t s : Memory) (ft fs : Footprint) →
      FootIn ft fs → (credit : ℕ) (go : ℕ → Doing → Performed (Last A)) (go' : ℕ → Doing → Performed (Last B)) →
      ((v : ℕ) → r.by.match_values (Number v) (Number v) → (ft' fs' : Footprint) → FootIn ft' fs' →
      Front share t s ft' fs' credit (go v (so share t ft')) (go' v (so share s fs'))) → (word : ℕ) (o : Option Cell) →
      slice_get C word ≡ o → Front share t s ft fs credit (reads_cell C o word (so share t ft) go)
      (reads_cell C o word (so share s fs) go')
  cell_both share self t s ft fs i credit go go' more word None is = failing refl
  cell_both share self t s ft fs i credit go go' more word (Some LockWord) is = failing refl
  cell_both share self t s ft fs i credit go go' more word (Some (TableWord value)) is =
      more value (tables word value is) ft fs i
  cell_both share self t s ft fs i credit go go' more word (Some (SharedWord kind None initial)) is = failing refl
  cell_both share self t s ft fs i credit go go' more word (Some (SharedWord kind (Some guard) initial)) is =
      by (words_in share guard) refl
    where
      at : (ws : List ℕ) → words_in share guard ≡ Some ws → (o : Option ℕ) →
          slice_get ws (place_among C guard word) ≡ o →
          Front share t s ft fs credit (reads_as o word (so share t ft) go) (reads_as o word (so share s fs) go')
      at ws e None j = failing refl
      at ws e (Some v) j = refoot share t s ft (reading ft word) fs (reading fs word) credit
          (go v (so share t (reading ft word))) (go' v (so share s (reading fs word)))
          (more v (self_get r.by.match_values ws (self_found r.by.match_values share self guard ws e)
          (place_among C guard word) v j) (reading ft word) (reading fs word) (read_in ft fs word i))

      by : (o : Option (List ℕ)) → words_in share guard ≡ o →
          Front share t s ft fs credit (reads_as (word_in o (place_among C guard word)) word (so share t ft) go)
          (reads_as (word_in o (place_among C guard word)) word (so share s fs) go')
      by None e = failing refl
      by (Some ws) e = at ws e (slice_get ws (place_among C guard word)) refl

  number_both : (share : Share) → ShareSelfSame r.by.match_values share → (t s : Memory) (ft fs : Footprint) →
      FootIn ft fs → (credit : ℕ) (go : ℕ → Doing → Performed (Last A)) (go' : ℕ → Doing → Performed (Last B)) →
      ((v : ℕ) → r.by.match_values (Number v) (Number v) → (ft' fs' : Footprint) → FootIn ft' fs' →
      Front share t s ft' fs' credit (go v (so share t ft')) (go' v (so share s fs'))) → (o : Option ℕ) →
      Front share t s ft fs credit (reads_word C o (so share t ft) go) (reads_word C o (so share s fs) go')
  number_both share self t s ft fs i credit go go' more None = failing refl
  number_both share self t s ft fs i credit go go' more (Some word) =
      cell_both share self t s ft fs i credit go go' more word (slice_get C word) refl

  -- a word that the source reads alone
  cell_alone : (share : Share) → ShareSelfSame r.by.match_values share → (t s : Memory) (ft fs : Footprint) →
      FootIn ft fs → (credit : ℕ) (p : Performed (Last A)) (go' : ℕ → Doing → Performed (Last B)) →
      ((v : ℕ) → r.by.match_values (Number v) (Number v) → (fs' : Footprint) → FootIn ft fs' →
      Front share t s ft fs' credit p (go' v (so share s fs'))) → (word : ℕ) (o : Option Cell) → slice_get C word ≡ o →
      Front share t s ft fs credit p (reads_cell C o word (so share s fs) go')
  cell_alone share self t s ft fs i credit p go' more word None is = failing refl
  cell_alone share self t s ft fs i credit p go' more word (Some LockWord) is = failing refl
  cell_alone share self t s ft fs i credit p go' more word (Some (TableWord value)) is =
      more value (tables word value is) fs i
  cell_alone share self t s ft fs i credit p go' more word (Some (SharedWord kind None initial)) is = failing refl
  cell_alone share self t s ft fs i credit p go' more word (Some (SharedWord kind (Some guard) initial)) is =
      by (words_in share guard) refl
    where
      at : (ws : List ℕ) → words_in share guard ≡ Some ws → (o : Option ℕ) →
          slice_get ws (place_among C guard word) ≡ o →
          Front share t s ft fs credit p (reads_as o word (so share s fs) go')
      at ws e None j = failing refl
      at ws e (Some v) j = refoot share t s ft ft fs (reading fs word) credit p (go' v (so share s (reading fs word)))
          (more v (self_get r.by.match_values ws (self_found r.by.match_values share self guard ws e)
          (place_among C guard word) v j) (reading fs word) (alone_in ft fs word i))

      by : (o : Option (List ℕ)) → words_in share guard ≡ o →
          Front share t s ft fs credit p (reads_as (word_in o (place_among C guard word)) word (so share s fs) go')
      by None e = failing refl
      by (Some ws) e = at ws e (slice_get ws (place_among C guard word)) refl

  number_alone : (share : Share) → ShareSelfSame r.by.match_values share → (t s : Memory) (ft fs : Footprint) →
      FootIn ft fs → (credit : ℕ) (p : Performed (Last A)) (go' : ℕ → Doing → Performed (Last B)) →
      ((v : ℕ) → r.by.match_values (Number v) (Number v) → (fs' : Footprint) → FootIn ft fs' →
      Front share t s ft fs' credit p (go' v (so share s fs'))) → (o : Option ℕ) →
      Front share t s ft fs credit p (reads_word C o (so share s fs) go')
  number_alone share self t s ft fs i credit p go' more None = failing refl
  number_alone share self t s ft fs i credit p go' more (Some word) =
      cell_alone share self t s ft fs i credit p go' more word (slice_get C word) refl

  -- a word that both write at last
  abbrev writing : Footprint → ℕ → Footprint
  writing foot word = record { reads = foot.reads; writes = word ∷ foot.writes }

  write_in : (ft fs : Footprint) (word : ℕ) → FootIn ft fs → FootIn (writing ft word) (writing fs word)
  write_in ft fs word h =
      record { writes = λ v m. more v m; reads = λ v m. ⊎_elim inl (λ u. inr (later u)) (h.reads v m) }
    where
      more : (v : ℕ) → IsAmong v (word ∷ ft.writes) → IsAmong v (word ∷ fs.writes)
      more v first = first
      more v (later k) = later (h.writes v k)

  cell_written : (share : Share) → ShareSelfSame r.by.match_values share → (t s : Memory) (ft fs : Footprint) →
      FootIn ft fs → (credit : ℕ) (go : Doing → Performed (Last A)) (go' : Doing → Performed (Last B)) →
      ((share' : Share) → ShareSelfSame r.by.match_values share' → (ft' fs' : Footprint) → FootIn ft' fs' →
      Front share' t s ft' fs' 0 (go (so share' t ft')) (go' (so share' s fs'))) → (value : ℕ) →
      r.by.match_values (Number value) (Number value) → (word : ℕ) (o : Option Cell) →
      Front share t s ft fs credit (writes_cell C o word value (so share t ft) go)
      (writes_cell C o word value (so share s fs) go')
  cell_written share self t s ft fs i credit go go' more value good word None = failing refl
  cell_written share self t s ft fs i credit go go' more value good word (Some LockWord) = failing refl
  cell_written share self t s ft fs i credit go go' more value good word (Some (TableWord v)) = failing refl
  cell_written share self t s ft fs i credit go go' more value good word (Some (SharedWord kind None initial)) =
      failing refl
  cell_written share self t s ft fs i credit go go' more value good word (Some (SharedWord kind (Some guard) initial)) =
      by (words_in share guard) refl
    where
      after : List ℕ → Share
      after ws = with_words share guard (slice_set ws (place_among C guard word) value)

      either : (ws : List ℕ) → AreSelfSame r.by.match_values ws → (b : Bool) →
          Front share t s ft fs credit
          (if b then go (has_written (so share t ft) word guard (slice_set ws (place_among C guard word) value))
          else failed (so share t ft))
          (if b then go' (has_written (so share s fs) word guard (slice_set ws (place_among C guard word) value))
          else failed (so share s fs))
      either ws h false = failing refl
      either ws h true = with_credit share (after ws) t s ft (writing ft word) fs (writing fs word) credit _ _
          (more (after ws) (self_with r.by.match_values share self guard (slice_set ws (place_among C guard word) value)
          (self_set r.by.match_values ws h (place_among C guard word) value good)) (writing ft word) (writing fs word)
          (write_in ft fs word i))

      by : (o : Option (List ℕ)) → words_in share guard ≡ o →
          Front share t s ft fs credit (writes_in o (under C guard word) value (so share t ft) go)
          (writes_in o (under C guard word) value (so share s fs) go')
      by None e = failing refl
      by (Some ws) e = either ws (self_found r.by.match_values share self guard ws e)
          (nat_lt (place_among C guard word) (length ws))

  number_written : (share : Share) → ShareSelfSame r.by.match_values share → (t s : Memory) (ft fs : Footprint) →
      FootIn ft fs → (credit : ℕ) (go : Doing → Performed (Last A)) (go' : Doing → Performed (Last B)) →
      ((share' : Share) → ShareSelfSame r.by.match_values share' → (ft' fs' : Footprint) → FootIn ft' fs' →
      Front share' t s ft' fs' 0 (go (so share' t ft')) (go' (so share' s fs'))) → (value : ℕ) →
      r.by.match_values (Number value) (Number value) → (o : Option ℕ) →
      Front share t s ft fs credit (writes_word C o value (so share t ft) go)
      (writes_word C o value (so share s fs) go')
  number_written share self t s ft fs i credit go go' more value good None = failing refl
  number_written share self t s ft fs i credit go go' more value good (Some word) =
      cell_written share self t s ft fs i credit go go' more value good word (slice_get C word)

  -- what both load
  load_both : (share : Share) (t s : Memory) (ft fs : Footprint) (credit : ℕ) (home home' : Home) (at at' : ℕ)
      (v : Value → Value) → ((x : Value) → value_in (s home') at' ≡ Some x → value_in (t home) at ≡ Some (v x)) →
      (go : Value → Performed (Last A)) (go' : Value → Performed (Last B)) →
      ((x : Value) → value_in (s home') at' ≡ Some x → Front share t s ft fs credit (go (v x)) (go' x)) →
      (o : Option Value) → value_in (s home') at' ≡ o →
      Front share t s ft fs credit (loads_as (value_in (t home) at) (so share t ft) go) (loads_as o (so share s fs) go')
  load_both share t s ft fs credit home home' at at' v there go go' more None e = failing refl
  load_both share t s ft fs credit home home' at at' v there go go' more (Some x) e =
      subst (λ (o : Option Value). Front share t s ft fs credit (loads_as o (so share t ft) go) (go' x))
      (sym (there x e)) (more x e)

  load_alone : (share : Share) (t s : Memory) (ft fs : Footprint) (credit : ℕ) (home : Home) (at : ℕ)
      (p : Performed (Last A)) (go' : Value → Performed (Last B)) →
      ((x : Value) → value_in (s home) at ≡ Some x → Front share t s ft fs credit p (go' x)) → (o : Option Value) →
      value_in (s home) at ≡ o → Front share t s ft fs credit p (loads_as o (so share s fs) go')
  load_alone share t s ft fs credit home at p go' more None e = failing refl
  load_alone share t s ft fs credit home at p go' more (Some x) e = more x e

  -- a store where there is room
  stored_there : {L : Type 0} (share : Share) (m : Memory) (foot : Footprint) (home : Home) (at : ℕ) (v : Value)
      (go : Doing → Performed L) → HasRoom m home at →
      stores_in (m home) home at v (so share m foot) go ≡ go (so share (stored_at m home at v) foot)
  stored_there share m foot home at v go room =
      ap (λ (o : Option (List Value)). stores_in o home at v (so share m foot) go) room.there
      ∙ ap (λ (b : Bool). if b then go (so share (with_block m home (Some (slice_set room.block at v))) foot)
      else failed (so share m foot)) (lt-ltb at (length room.block) room.within)
      ∙ ap (λ (o : Option (List Value)). go (so share (with_block m home (set_in o at v)) foot)) (sym room.there)

  -- a store of the source, where it doesn't fail
  pub store_by : (share : Share) (s : Memory) (fs : Footprint) (home : Home) (at : ℕ) (v : Value)
      (go' : Doing → Performed (Last B)) (Goal : Performed (Last B) → Type 0) →
      ((q : Performed (Last B)) → q.last ≡ None → Goal q) →
      (HasRoom s home at → Goal (go' (so share (stored_at s home at v) fs))) → (o : Option (List Value)) → s home ≡ o →
      Goal (stores_in o home at v (so share s fs) go')
  store_by share s fs home at v go' Goal bad more None e = bad _ refl
  store_by share s fs home at v go' Goal bad more (Some ws) e = by (nat_lt at (length ws)) refl
    where
      by : (b : Bool) → nat_lt at (length ws) ≡ b → Goal
          (if b then go' (has_stored (so share s fs) home (slice_set ws at v)) else failed (so share s fs))
      by false i = bad _ refl
      by true i =
          let room : HasRoom s home at = record { block = ws; there = e; within = ltb-true at (length ws) i } in
          subst (λ (o : Option (List Value)). Goal (go' (so share (with_block s home (set_in o at v)) fs))) e
          (more room)

  pub front : {credit : ℕ} {t s : Memory} {x : Accesses (Last A)} {z : Accesses (Last B)} →
      Amounts r w act credit t s x z → (share : Share) → ShareSelfSame r.by.match_values share → (ft fs : Footprint) →
      FootIn ft fs → Front share t s ft fs credit (performed E x (so share t ft)) (performed E z (so share s fs))
  front {credit = credit} {t = t} {s = s} (both_read {global = global} {offset = offset} a) share self ft fs i =
      number_both share self t s ft fs i credit _ _ (λ v good ft' fs' i'. front (a v good) share self ft' fs' i')
      (number_in (E.words global) offset)
  front {credit = credit} {t = t} {s = s} {x = x} (source_reads {global = global} {offset = offset} a)
      share self ft fs i = number_alone share self t s ft fs i credit (performed E x (so share t ft)) _
      (λ v good fs' i'. front (a v good) share self ft fs' i') (number_in (E.words global) offset)
  front {credit = credit} {t = t} {s = s} (both_write {global = global} {offset = offset} {word = word} good a)
      share self ft fs i = number_written share self t s ft fs i credit _ _
      (λ share' self' ft' fs' i'. front a share' self' ft' fs' i') word good (number_in (E.words global) offset)
  front {credit = credit} {t = t} {s = s} (both_load {home = home} {home' = home'} {at = at} {at' = at'} v there a)
      share self ft fs i = load_both share t s ft fs credit home home' at at' v there _ _
      (λ x e. front (a x e) share self ft fs i) (value_in (s home') at') refl
  front {credit = credit} {t = t} {s = s} {x = x} (source_loads {home = home} {at = at} a) share self ft fs i =
      load_alone share t s ft fs credit home at (performed E x (so share t ft)) _
      (λ x e. front (a x e) share self ft fs i) (value_in (s home) at) refl
  front {credit = credit} {t = t} {s = s} {z = z} (target_loads {home = home} {at = at} {next = next} v there a)
      share self ft fs i =
      subst (λ (o : Option Value). Front share t s ft fs credit
      (loads_as o (so share t ft) (λ u. performed E (next u) (so share t ft))) (performed E z (so share s fs)))
      (sym there) (front a share self ft fs i)
  front (source_looks a) share self ft fs i = front a share self ft fs i
  front (target_looks a) share self ft fs i = front a share self ft fs i
  front {credit = credit} {t = t} {s = s}
      (both_store {home = home} {home' = home'} {at = at} {at' = at'} {v = v} {v' = u} {next = next} {next' = next'}
      room tk sk a) share self ft fs i =
      store_by share s fs home' at' u (λ e. performed E next' e)
      (λ q. Front share t s ft fs credit (stores_in (t home) home at v (so share t ft) (λ e. performed E next e)) q)
      (λ q e. failing e)
      (λ there. subst (λ p. Front share t s ft fs credit p (performed E next' (so share (stored_at s home' at' u) fs)))
      (sym (stored_there share t ft home at v (λ e. performed E next e) (room there)))
      (from_later share t (stored_at t home at v) s (stored_at s home' at' u) ft ft fs fs credit _ _ tk sk
      (front (a there) share self ft fs i)))
      (s home') refl
  front {credit = credit} {t = t} {s = s} {x = x} (source_stores {home = home} {at = at} {v = v} {next' = next'} sk a)
      share self ft fs i =
      store_by share s fs home at v (λ e. performed E next' e)
      (λ q. Front share t s ft fs credit (performed E x (so share t ft)) q) (λ q e. failing e)
      (λ there. from_later share t t s (stored_at s home at v) ft ft fs fs credit _ _
      (plain.conditions.0.itself act.serial t) sk (front (a there) share self ft fs i))
      (s home) refl
  front {credit = credit} {t = t} {s = s} {z = z}
      (target_stores {home = home} {at = at} {v = v} {next = next} room tk a) share self ft fs i =
      subst (λ p. Front share t s ft fs credit p (performed E z (so share s fs)))
      (sym (stored_there share t ft home at v (λ e. performed E next e) room))
      (from_later share t (stored_at t home at v) s s ft ft fs fs credit _ _ tk (plain.conditions.1.itself act.serial s)
      (front a share self ft fs i))
  front {t = t} {s = s} (onward {y = y} x rest le leads) share self ft fs i =
      moving (record {
        next = x;
        left = y;
        t_now = t;
        s_now = s;
        foot = fs;
        rest = rest;
        does = refl;
        holding =
            refl;
        so_far = refl;
        t_kept = plain.conditions.0.itself act.serial t;
        s_kept =
            plain.conditions.1.itself act.serial s;
        leads = leads;
        price = le;
        footprint =
            foot_both ft fs _ i (performed_more E y (so share s fs));
      })
  front {t = t} {s = s} (at_last {l = l} {m = m} lasts) share self ft fs i =
      ending (record {
        t_last = l;
        s_last = m;
        t_does = refl;
        s_does = refl;
        lasts = lasts;
        same_share = refl;
        words =
            self;
        t_kept = plain.conditions.0.itself act.serial t;
        s_kept =
            plain.conditions.1.itself act.serial s;
        footprint = i;
      })
  front fails_too share self ft fs i = failing refl
