-- A pass told over memories is a pass of the layer of calls.
use Rattle.std.proofs.Common.{◌≡◌, ℕ, ◌+◌, ◌≤◌, List, ◌⊎◌, Option, Some, None, slice_get, inl, inr, refl, sym, ap, ◌∙◌, subst, ⊎_elim, arith}
use Rattle.cas_runs.specs.Label.{Share}
use Rattle.cas_runs.specs.Edge.{Cell, LockWord, SharedWord, TableWord}
use Rattle.cas_runs.specs.Naming.{Home, Value, Number, Memory}
use Rattle.cas_runs.specs.Machine.{Footprint, Block, and_step, Quiet, IsBad}
use Rattle.cas_runs.specs.Refines.{Within}
use Rattle.cas_runs.specs.Bounds.{step_price, first_price}
use Rattle.cas_runs.specs.Simulation.{here, step, fails}
use Rattle.cas_runs.specs.Access.{Accesses, Holding, with_lock, without_lock, words_in, place_among, word_in, Doing, has_read, Performed, reads_as, reads_cell, number_in, reads_word, value_in, loads_as, performed}
use Rattle.cas_runs.specs.Forms.{ShareSelfSame, FootIn}
use Rattle.cas_runs.specs.Unit.{IsEdge}
use Rattle.cas_runs.specs.Calls.{Last, Goes, Takes, Gives, Puts, Calls, Tails, Returns, Past, with_share, with_own, without_own, set_blocks, gone, one_begun, called_by, nothing_touched}
use Rattle.cas_runs.specs.Passing.{Moment, Relation, t_step, s_step, t_on, s_on, after_step, act_alone, FailsSoon, Going, Ready, ReadyIf, Settles, PassesOn, cannot_go_on, fails_then, goes_then, returns_first, TailAlike, tail, passing, Does, CallsToo, FineAt, Passes, Keeps}
use Rattle.cas_runs.specs.Held.{stored_at, Activation, Held, MatchIf, LastHeld, goes_held, takes_held, gives_held, puts_held, calls_held, tails_held, passing_held, returns_held, Amounts, Leads, meets_there, steps_alone, Alone, reads_alone, loads_alone, looks_alone, stores_alone, goes_alone, fails_alone, begins_at_once, begins_later, BeginIf, Steps, Midway, HoldsBy}
use Rattle.cas_runs.proofs.Words.{self_get, self_found, self_with_lock, self_without_lock, guarded_self, table_self}
use Rattle.cas_runs.proofs.Refining.{among_front}
use Rattle.cas_runs.proofs.Footing.{among_back, among_either, within_step, nothing_in}
use Rattle.cas_runs.proofs.Fronting.{so, Front, failing, ending, moving, Moves, Ends, front, store_by}

module _ {F A G B : Type 0} (r : Relation F A G B) (w : Held F A G B) where
  -- the relation in which activations match midway
  abbrev pub R' : Relation F A G B
  R' = record r { by = record r.by { match_states = Midway r w } }

  abbrev cells : List Cell
  cells = r.setting.edge.cells

  module _ (plain : HoldsBy r w) (least : (x : A) → 1 ≤ step_price r.target.tariff r.targets x) (is : Steps r w)
      (keeps : Keeps R') (edge_is : IsEdge r.setting.edge) where
    tables : (word value : ℕ) → slice_get r.setting.edge.cells word ≡ Some (TableWord value) →
        r.by.match_values (Number value) (Number value)
    tables = table_self r.by.match_values keeps.numbers r.setting.edge.cells edge_is.kinds

    module _ (to : F) (from : G) (made : r.by.made to from) (n : ℕ) where
      abbrev act : Activation F G
      act = record { target = to; source = from; serial = n }

      -- the moment at which both begin a step, with what threads hold then
      abbrev moment : Past → Past → Holding → Holding → Moment F G
      moment p q h k =
          record {
            t_function = to;
            s_function = from;
            serial = n;
            t_past = p;
            s_past = q;
            t_holding = h;
            s_holding =
                k;
          }

      abbrev GoingTo : Past → Past → Holding → Holding → A → Holding → Block → B → Holding → Block → Type 0
      GoingTo p q h0 k0 x h b y k c = Going R' (moment p q h0 k0) (record { now = x; holding = h; block = b }) y k c

      abbrev DoesTo : Past → Past → Holding → Holding → Option (Last A) → Holding → Block → B → Block → Type 0
      DoesTo p q h k o h' b y c = Does R' (moment p q h k) o h' b y c

      abbrev Half : A → Holding → Block → B → Holding → Block → Type 0
      Half x h b y k c = Midway r w to from n (record { now = x; holding = h; block = b })
          (record { now = y; holding = k; block = c })

      -- the source's activation fails, or goes on
      fails_by : (y : B) (k : Holding) → (s_step R' y k).last ≡ None →
          IsBad (act_alone R' (record { now = y; holding = k }))
      fails_by y k e = subst (λ o. IsBad (after_step R' o (s_step R' y k).holding)) (sym e) tt

      goes_by : (y : B) (k : Holding) (y' : B) → (s_step R' y k).last ≡ Some (Goes y') →
          act_alone R' (record { now = y; holding = k }) ≡ Quiet
          (record { now = y'; holding = (s_step R' y k).holding })
      goes_by y k y' e = ap (λ o. after_step R' o (s_step R' y k).holding) e

      does_failing : (p q : Past) (h k : Holding) (o : Option (Last A)) (h' : Holding) (b : Block) (y : B) (c : Block) →
          (s_step R' y k).last ≡ None → DoesTo p q h k o h' b y c
      does_failing p q h k None h' b y c e = fails (fails_by y k e)
      does_failing p q h k (Some (Goes x)) h' b y c e = fails (fails_by y k e)
      does_failing p q h k (Some (Takes lock x)) h' b y c e = fails (fails_by y k e)
      does_failing p q h k (Some (Gives lock x)) h' b y c e = fails (fails_by y k e)
      does_failing p q h k (Some (Puts word x)) h' b y c e = fails (fails_by y k e)
      does_failing p q h k (Some (Calls function vs next)) h' b y c e = fails (fails_by y k e)
      does_failing p q h k (Some (Tails function vs)) h' b y c e = fails (fails_by y k e)
      does_failing p q h k (Some (Returns vs)) h' b y c e = fails (fails_by y k e)

      abbrev FrontOf : Holding → Doing → ℕ → A → Accesses (Last B) → Type 0
      FrontOf h e credit x z = Front r w plain tables least act h.share h.memory e.holding.memory nothing_touched
          e.footprint credit (t_step R' x h) (performed r.setting.edge z (so h.share e.holding.memory e.footprint))

      -- the target's step, where the source has done so much of its own
      fronted : (p q : Past) (h k : Holding) → r.by.match_memory p h q k →
          (x : A) (z : Accesses (Last B)) (e : Doing) (credit : ℕ) →
          Amounts r w act credit h.memory e.holding.memory (r.target.form x) z → FrontOf h e credit x z
      fronted p q h k a x z e credit leads = front r w plain tables least act leads h.share
          (subst (λ v. ShareSelfSame r.by.match_values v) (sym (keeps.is_match.shares p q h k a))
          (plain.words p q h k a)) nothing_touched e.footprint (nothing_in e.footprint)

      -- what the source has done, with the share that both have
      done_as : (p q : Past) (h k : Holding) → r.by.match_memory p h q k → (e : Doing) → e.holding.share ≡ k.share →
          (z : Accesses (Last B)) → performed r.setting.edge z e ≡ performed r.setting.edge z
          (so h.share e.holding.memory e.footprint)
      done_as p q h k a e same z = ap (λ (v : Share). performed r.setting.edge z (so v e.holding.memory e.footprint))
          (same ∙ sym (keeps.is_match.shares p q h k a))

      -- the footprint of the target's step is in that of the source's, unless that fails
      step_in : (p q : Past) (h k : Holding) → r.by.match_memory p h q k →
          (x : A) (y : B) (z : Accesses (Last B)) (e : Doing) (credit : ℕ) →
          s_step R' y k ≡ performed r.setting.edge z e → e.holding.share ≡ k.share →
          Amounts r w act credit h.memory e.holding.memory (r.target.form x) z → ((s_step R' y k).last ≡ None)
          ⊎ FootIn (t_step R' x h).footprint (s_step R' y k).footprint
      step_in p q h k a x y z e credit so_far same leads = by (fronted p q h k a x z e credit leads)
        where
          all : s_step R' y k ≡ performed r.setting.edge z (so h.share e.holding.memory e.footprint)
          all = so_far ∙ done_as p q h k a e same z

          by : FrontOf h e credit x z → ((s_step R' y k).last ≡ None)
              ⊎ FootIn (t_step R' x h).footprint (s_step R' y k).footprint
          by (failing g) = inl (ap (λ (v : Performed (Last B)). v.last) all ∙ g)
          by (ending g) =
              inr (subst (λ (v : Performed (Last B)). FootIn (t_step R' x h).footprint v.footprint)
              (sym all) g.footprint)
          by (moving g) =
              inr (subst (λ (v : Performed (Last B)). FootIn (t_step R' x h).footprint v.footprint)
              (sym all) g.footprint)

      stand : (p q : Past) (h0 k0 h k : Holding) → r.by.frame n h0 k0 h k → r.by.match_memory p h q k →
          (x : A) (y : B) (z : Accesses (Last B)) (e : Doing) (credit : ℕ) →
          s_step R' y k ≡ performed r.setting.edge z e → e.holding.share ≡ k.share →
          w.source_frame act.serial k.memory e.holding.memory →
          Amounts r w act credit h.memory e.holding.memory (r.target.form x) z → (b c : Block) →
          b.price + credit ≤ c.price → (FootIn (t_step R' x h).footprint (s_step R' y k).footprint → Within b c) →
          FootIn (s_step R' y k).footprint (record { reads = c.reads; writes = c.writes }) →
          GoingTo p q h0 k0 x h b y k c
      stand p q h0 k0 h k l a x y z e credit so_far same kept leads b c price within touches =
          ⊎_elim (λ bad. fails (fails_by y k bad))
          (λ foot. here
          (record {
            states = record {
              at = record { left = z; done = e; so_far = so_far; share = same };
              credit =
                  credit;
              frame = kept;
              leads = leads;
              price = price;
              within = within foot;
              touches = touches;
            };
            stands =
                record { match_memory = a; frame = l };
          }))
          (step_in p q h k a x y z e credit so_far same leads)

      in_block : (c : Block) (m : ℕ) (f : Footprint) →
          FootIn f (record { reads = (and_step c m f).reads; writes = (and_step c m f).writes })
      in_block c m f =
          record {
            writes = λ v h. among_back v c.writes f.writes h;
            reads = λ v h. inl (among_back v c.reads f.reads h);
          }

      reach_by : (p q : Past) (h0 k0 h k : Holding) → r.by.frame n h0 k0 h k → r.by.match_memory p h q k →
          (x : A) (y : B) → (credit : ℕ) → Amounts r w act credit h.memory k.memory (r.target.form x) (r.source.form y)
          → (b c : Block) → Within b c → (e m : ℕ) → step_price r.target.tariff r.targets x + e + credit ≤ step_price
          r.source.tariff r.sources y + m → GoingTo p q h0 k0 x h (t_on R' b x e h) y k (s_on R' c y m k)
      reach_by p q h0 k0 h k l a x y credit leads b c i e m cost =
          let old = i.price in
          stand p q h0 k0 h k l a x y (r.source.form y) (record { holding = k; footprint = nothing_touched })
          credit refl refl (plain.conditions.1.itself act.serial k.memory) leads (t_on R' b x e h) (s_on R' c y m k)
          (omega (arith, cost, old))
          (λ foot. within_step b c _ _ _ _ i (omega (arith, cost)) foot)
          (in_block c (step_price r.source.tariff r.sources y + m) (s_step R' y k).footprint)

      -- a block that grows
      within_more : (b c : Block) (m : ℕ) (f : Footprint) → Within b c → Within b (and_step c m f)
      within_more b c m f i = record {
        price = let le = i.price in omega (arith, le);
        writes = λ v h. among_front v c.writes f.writes (i.writes v h);
        reads = λ v h. ⊎_elim (λ u. inl (among_front v c.reads f.reads u))
            (λ u. inr (among_front v c.writes f.writes u)) (i.reads v h);
      }

      -- the source reads alone, whatever it comes to
      cell_by : (share : Share) → ShareSelfSame r.by.match_values share →
          (s : Memory) (fs : Footprint) (go : ℕ → Doing → Performed (Last B)) (Goal : Performed (Last B) → Type 0) →
          ((q : Performed (Last B)) → q.last ≡ None → Goal q) →
          ((v : ℕ) → r.by.match_values (Number v) (Number v) → (fs' : Footprint) → Goal (go v (so share s fs'))) →
          (word : ℕ) (o : Option Cell) → slice_get cells word ≡ o → Goal (reads_cell cells o word (so share s fs) go)
      cell_by share self s fs go Goal bad more word None is = bad _ refl
      cell_by share self s fs go Goal bad more word (Some LockWord) is = bad _ refl
      cell_by share self s fs go Goal bad more word (Some (TableWord value)) is = more value (tables word value is) fs
      cell_by share self s fs go Goal bad more word (Some (SharedWord kind None initial)) is = bad _ refl
      cell_by share self s fs go Goal bad more word (Some (SharedWord kind (Some guard) initial)) is =
          by (words_in share guard) refl
        where
          at : (ws : List ℕ) → words_in share guard ≡ Some ws → (o : Option ℕ) →
              slice_get ws (place_among cells guard word) ≡ o → Goal (reads_as o word (so share s fs) go)
          at ws e None j = bad _ refl
          at ws e (Some v) j =
              more v (self_get r.by.match_values ws (self_found r.by.match_values share self guard ws e)
              (place_among cells guard word) v j) (has_read (so share s fs) word).footprint

          by : (o : Option (List ℕ)) → words_in share guard ≡ o →
              Goal (reads_as (word_in o (place_among cells guard word)) word (so share s fs) go)
          by None e = bad _ refl
          by (Some ws) e = at ws e (slice_get ws (place_among cells guard word)) refl

      number_by : (share : Share) → ShareSelfSame r.by.match_values share →
          (s : Memory) (fs : Footprint) (go : ℕ → Doing → Performed (Last B)) (Goal : Performed (Last B) → Type 0) →
          ((q : Performed (Last B)) → q.last ≡ None → Goal q) →
          ((v : ℕ) → r.by.match_values (Number v) (Number v) → (fs' : Footprint) → Goal (go v (so share s fs'))) →
          (o : Option ℕ) → Goal (reads_word cells o (so share s fs) go)
      number_by share self s fs go Goal bad more None = bad _ refl
      number_by share self s fs go Goal bad more (Some word) =
          cell_by share self s fs go Goal bad more word (slice_get cells word) refl

      load_by : (share : Share) (s : Memory) (fs : Footprint) (home : Home) (at : ℕ) (go : Value → Performed (Last B))
          (Goal : Performed (Last B) → Type 0) → ((q : Performed (Last B)) → q.last ≡ None → Goal q) →
          ((v : Value) → value_in (s home) at ≡ Some v → Goal (go v)) → (o : Option Value) → value_in (s home) at ≡ o →
          Goal (loads_as o (so share s fs) go)
      load_by share s fs home at go Goal bad more None e = bad _ refl
      load_by share s fs home at go Goal bad more (Some v) e = more v e

      module _ (x : A) (h : Holding) (b : Block) (e : ℕ) (h0 k0 : Holding) where
        abbrev Arrives : Past → Past → B → Holding → Block → Type 0
        Arrives p q y k c = GoingTo p q h0 k0 x h (t_on R' b x e h) y k c

        mutual
          -- the source goes on until both go on
          lead : {y : B} {s : Memory} → Leads r w act x h.memory y s → (p q : Past) (k : Holding) → k.memory ≡ s →
              r.by.frame n h0 k0 h k → r.by.match_memory p h q k → (c : Block) → Within b c → (m : ℕ) →
              b.price + e ≤ c.price + m → Arrives p q y k (s_on R' c y m k)
          lead {y = y} {s = s} (meets_there credit cost leads) p q k same l a c i m old =
              stand p q h0 k0 h k l a x y (r.source.form y) (record { holding = k; footprint = nothing_touched })
              credit refl refl (plain.conditions.1.itself act.serial k.memory)
              (subst (λ v. Amounts r w act credit h.memory v (r.target.form x) (r.source.form y)) (sym same) leads)
              (t_on R' b x e h) (s_on R' c y m k) (omega (arith, cost, old))
              (λ foot. (let grown = within_step b c 0 0 _ _ i (omega arith) foot in
              record { price = omega (arith, cost, old); writes = grown.writes; reads = grown.reads }))
              (in_block c (step_price r.source.tariff r.sources y + m) (s_step R' y k).footprint)
          lead {y = y} {s = s} (steps_alone a) p q k same l alike c i m old =
              lead_alone a p q y k l alike c i m old nothing_touched
              (ap (λ (v : Share). performed r.setting.edge (r.source.form y) (so v k.memory nothing_touched))
              (sym (keeps.is_match.shares p q h k alike))
              ∙ ap (λ (v : Memory). performed r.setting.edge (r.source.form y) (so h.share v nothing_touched)) same)
              (subst (λ v. w.source_frame act.serial k.memory v) same (plain.conditions.1.itself act.serial k.memory))

          lead_alone : {s : Memory} {z : Accesses (Last B)} → Alone r w act x h.memory s z →
              (p q : Past) (y : B) (k : Holding) → r.by.frame n h0 k0 h k → r.by.match_memory p h q k → (c : Block) →
              Within b c → (m : ℕ) → b.price + e ≤ c.price + m → (fs : Footprint) →
              s_step R' y k ≡ performed r.setting.edge z (so h.share s fs) → w.source_frame act.serial k.memory s →
              Arrives p q y k (s_on R' c y m k)
          lead_alone {s = s} (reads_alone {global = global} {offset = offset} {next = next} f)
              p q y k l a c i m old fs eq kept =
              number_by h.share (subst (λ v. ShareSelfSame r.by.match_values v) (sym (keeps.is_match.shares p q h k a))
              (plain.words p q h k a)) s fs (λ v d. performed r.setting.edge (next v) d)
              (λ o. s_step R' y k ≡ o → Arrives p q y k (s_on R' c y m k))
              (λ o bad u. fails (fails_by y k (ap (λ (v : Performed (Last B)). v.last) u ∙ bad)))
              (λ v good fs' u. lead_alone (f v good) p q y k l a c i m old fs' u kept)
              (number_in (r.setting.edge.words global) offset) eq
          lead_alone {s = s} (loads_alone {home = home} {at = at} {next = next} f) p q y k l a c i m old fs eq kept =
              load_by h.share s fs home at (λ v. performed r.setting.edge (next v) (so h.share s fs))
              (λ o. s_step R' y k ≡ o → Arrives p q y k (s_on R' c y m k))
              (λ o bad u. fails (fails_by y k (ap (λ (v : Performed (Last B)). v.last) u ∙ bad)))
              (λ v there u. lead_alone (f v there) p q y k l a c i m old fs u kept) (value_in (s home) at) refl eq
          lead_alone (looks_alone f) p q y k l a c i m old fs eq kept = lead_alone f p q y k l a c i m old fs eq kept
          lead_alone {s = s} (stores_alone {home = home} {at = at} {v = v} {next = next} sk f)
              p q y k l a c i m old fs eq kept =
              store_by r w plain tables least act h.share s fs home at v (λ d. performed r.setting.edge next d)
              (λ o. s_step R' y k ≡ o → Arrives p q y k (s_on R' c y m k))
              (λ o bad u. fails (fails_by y k (ap (λ (v : Performed (Last B)). v.last) u ∙ bad)))
              (λ room u. lead_alone (f room) p q y k l a c i m old fs u
              (plain.conditions.1.then act.serial k.memory s (stored_at s home at v) kept sk)) (s home) refl eq
          lead_alone {s = s} (goes_alone {y = y'} next) p q y k l a c i m old fs eq kept =
              let now : Holding = (s_step R' y k).holding in
              let is : now ≡ record { share = h.share; memory = s } = ap (λ (v : Performed (Last B)). v.holding) eq in
              let shares : now.share ≡ k.share = ap (λ (v : Holding). v.share) is ∙ keeps.is_match.shares p q h k a in
              let memory : now.memory ≡ s = ap (λ (v : Holding). v.memory) is in
              let kept_now : w.source_frame act.serial k.memory now.memory =
              subst (λ v. w.source_frame act.serial k.memory v) (sym memory) kept in
              step (record { now = y'; holding = now }) (goes_by y k y' (ap (λ (v : Performed (Last B)). v.last) eq))
              (lead next p q now memory (keeps.is_frame.then_later n h0 k0 h k h now l
              (plain.frame n h k h now (plain.conditions.0.itself act.serial h.memory) kept_now))
              (plain.again p q h k h now a (keeps.is_match.shares p q h k a ∙ sym shares)
              (subst (λ v. ShareSelfSame r.by.match_values v) (sym shares) (plain.words p q h k a)))
              (s_on R' c y m k) (within_more b c _ _ i) 0 (omega (arith, old)))
          lead_alone fails_alone p q y k l a c i m old fs eq kept =
              fails (fails_by y k (ap (λ (v : Performed (Last B)). v.last) eq))

      reach : (p q : Past) (h0 k0 h k : Holding) → r.by.frame n h0 k0 h k → r.by.match_memory p h q k →
          (x : A) (y : B) → w.match_states act x h.memory y k.memory → (b c : Block) → Within b c → (e m : ℕ) → e ≤ m →
          GoingTo p q h0 k0 x h (t_on R' b x e h) y k (s_on R' c y m k)
      reach p q h0 k0 h k l a x y at b c i e m le = let old =
          i.price in lead x h b e h0 k0 (is.forms act made x h.memory y k.memory at) p q k refl l a c i m
          (omega (arith, old, le))

      begin_if : (p q : Past) (h k : Holding) → r.by.match_memory p h q k → (o : Option A) (o' : Option B) →
          BeginIf r w act o h.memory o' k.memory → ReadyIf R' (moment p q h k) o
          (first_price r.target.tariff r.target.blocks to) o' (first_price r.source.tariff r.source.blocks from)
      begin_if p q h k a (Some x) (Some y) (begins_at_once credit price does) =
          λ b c i. reach_by p q h k h k (keeps.is_frame.at_once n h k) a x y credit does b c i
          (first_price r.target.tariff r.target.blocks to) (first_price r.source.tariff r.source.blocks from) price
      begin_if p q h k a (Some x) (Some y) (begins_later le leads) =
          λ b c i. (let old = i.price in lead x h b (first_price r.target.tariff r.target.blocks to)
          h k leads p q k refl (keeps.is_frame.at_once n h k) a c i (first_price r.source.tariff r.source.blocks from)
          (omega (arith, old, le)))
      begin_if p q h k a None (Some y) at = absurd at
      begin_if p q h k a None None at = tt
      begin_if p q h k a (Some x) None at = tt

      ready : (p q : Past) (h k : Holding) → r.by.match_memory p h q k → (x : A) (y : B) →
          w.match_states act x h.memory y k.memory → (e m : ℕ) → e ≤ m → Ready R' (moment p q h k) x e y m
      ready p q h k a x y at e m le = λ b c i. reach p q h k h k (keeps.is_frame.at_once n h k) a x y at b c i e m le

      ready_if : (p q : Past) (h k : Holding) → r.by.match_memory p h q k → (o : Option A) (o' : Option B) →
          MatchIf r w act o h.memory o' k.memory → (e m : ℕ) → e ≤ m → ReadyIf R' (moment p q h k) o e o' m
      ready_if p q h k a (Some x) (Some y) at e m le = ready p q h k a x y at e m le
      ready_if p q h k a None (Some y) at e m le = absurd at
      ready_if p q h k a None None at e m le = tt
      ready_if p q h k a (Some x) None at e m le = tt

      shared_ready : (p q : Past) (h k : Holding) → r.by.match_memory p h q k → (x : A) (y : B) →
          w.match_states act x h.memory y k.memory → (change : Share → Share) →
          ShareSelfSame r.by.match_values (change k.share) →
          Ready R' (moment p q (with_share h (change h.share)) (with_share k (change k.share))) x 0 y 0
      shared_ready p q h k a x y at change good = ready p q (with_share h (change h.share))
          (with_share k (change k.share)) (plain.again p q h k (with_share h (change h.share))
          (with_share k (change k.share)) a (ap change (keeps.is_match.shares p q h k a)) good) x y at 0 0 (omega arith)

      passes_too : (ws : List Value) (o : Option B) → PassesOn r ws o → PassesOn R' ws o
      passes_too ws o cannot_go_on = cannot_go_on
      passes_too ws o (fails_then e) = fails_then e
      passes_too ws o (goes_then e rest) = goes_then e (passes_too ws _ rest)
      passes_too ws o (returns_first us more e k price) = returns_first us more e k price

      does_last : (p q : Past) (h k : Holding) (h' : Holding) (b : Block) (y : B) (c : Block) →
          r.by.frame n h k h' (s_step R' y k).holding → r.by.match_memory p h' q (s_step R' y k).holding → Within b c →
          {l : Last A} {m : Last B} → LastHeld r w act h'.memory (s_step R' y k).holding.memory l m →
          (s_step R' y k).last ≡ Some m → DoesTo p q h k (Some l) h' b y c
      does_last p q h k h' b y c l a i (goes_held {x = x} {y = y'} at) e =
          step (record { now = y'; holding = (s_step R' y k).holding }) (goes_by y k y' e)
          (reach p q h k h' (s_step R' y k).holding l a x y' at b c i 0 0 (omega arith))
      does_last p q h k h' b y c l a i (takes_held {x = x} {y = y'} at) e =
          here (
            y',
            e,
            record { match_memory = a; frame = l },
            λ num words named guarded. shared_ready p q h'
                (s_step R' y k).holding a x y' at (λ share. with_lock share num words)
                (self_with_lock r.by.match_values (s_step R' y k).holding.share
                (plain.words p q h' (s_step R' y k).holding a)
                num words (guarded_self r.by.match_values keeps.numbers r.setting.edge num words guarded)),
          )
      does_last p q h k h' b y c l a i (gives_held {x = x} {y = y'} at) e =
          here (
            y',
            e,
            record { match_memory = a; frame = l },
            λ num named. shared_ready p q h'
                (s_step R' y k).holding a x y' at (λ share. without_lock share num)
                (self_without_lock r.by.match_values (s_step R' y k).holding.share
                (plain.words p q h' (s_step R' y k).holding a) num),
          )
      does_last p q h k h' b y c l a i (puts_held {x = x} {y = y'} at) e =
          here (
            y',
            e,
            record { match_memory = a; frame = l },
            ready p q h' (s_step R' y k).holding a x y' at 0 0
                (omega arith),
          )
      does_last p q h k h' b y c l a i (calls_held {ws = ws} {next = next} {next' = next'} s settled conts) e =
          here (
            ws,
            next',
            e,
            s,
            record { settled = plain.settles p q h' (s_step R' y k).holding a settled; frame = l },
            λ p' q' h'' k'' l' a'' us xs same count. ready_if p' q' h'' k'' (keeps.is_match.matches p' q' h'' k'' a'')
                (next us) (next' xs)
                (conts us xs same count h''.memory k''.memory
                ((plain.frames (n + 1) h' (s_step R' y k).holding h'' k'' l').0)
                ((plain.frames (n + 1) h' (s_step R' y k).holding h'' k'' l').1) (plain.memories p' q' h'' k'' a''))
                0 0 (omega arith),
          )
      does_last p q h k h' b y c l a i (tails_held {f = function} {vs = vs} {ws = ws} s settled) e =
          here (subst (λ o. TailAlike R' (moment p q h k) function vs h' (s_step R' y k).holding o) (sym e)
          (tail ws s (record { settled = plain.settles p q h' (s_step R' y k).holding a settled; frame = l })))
      does_last p q h k h' b y c l a i (passing_held {f = function} {vs = vs} {ws = ws} {next' = next'} s bare settled
          only) e =
          let same : without_own r.target to n h' ≡ h' =
          ap (λ bs. record { share = h'.share; memory = set_blocks gone h'.memory (r.target.name to) n 0 bs })
          bare in
          let settles : Settles R' (moment p q h k) h' (s_step R' y k).holding =
          record { settled = plain.settles p q h' (s_step R' y k).holding a settled; frame = l } in
          here (subst (λ o. TailAlike R' (moment p q h k) function vs h' (s_step R' y k).holding o) (sym e)
          (passing ws next' s (subst (λ (v : Holding). Settles R' (moment p q h k) v (s_step R' y k).holding)
          (sym same) settles) (only.0, λ xs count. passes_too xs (next' xs) (only.1 xs count))))
      does_last p q h k h' b y c l a i (returns_held {ws = ws} s settled) e =
          here (ws, e, s, record { settled = plain.settles p q h' (s_step R' y k).holding a settled; frame = l })

      -- one step more on the way
      block_in : (b c : Block) (m : ℕ) (f g : Footprint) → Within b c → b.price + m ≤ c.price → FootIn f g →
          FootIn g (record { reads = c.reads; writes = c.writes }) → Within (and_step b m f) c
      block_in b c m f g i le foot touches = record {
        price = le;
        writes = λ v h. ⊎_elim (λ u. i.writes v u) (λ u. touches.writes v (foot.writes v u))
            (among_either v b.writes f.writes h);
        reads = λ v h. ⊎_elim (λ u. i.reads v u) (λ u. ⊎_elim (touches.reads v) (λ t. inr (touches.writes v t))
            (foot.reads v u)) (among_either v b.reads f.reads h);
      }

      does_moving : (p q : Past) (x : A) (h : Holding) (b : Block) (y : B) (k : Holding) (c : Block) →
          r.by.match_memory p h q k → (m : Half x h b y k c) →
          (g : Moves r w plain tables least act h.share h.memory m.at.done.holding.memory nothing_touched
          m.at.done.footprint m.credit (t_step R' x h)
          (performed r.setting.edge m.at.left (so h.share m.at.done.holding.memory m.at.done.footprint))) →
          GoingTo p q h k g.next (t_step R' x h).holding (t_on R' b g.next 0 (t_step R' x h).holding) y k c
      does_moving p q x h b y k c a m g =
          let cost = g.price in
          let old = m.price in
          let now : Holding = record { share = h.share; memory = g.t_now } in
          let alike : r.by.match_memory p now q k = plain.again p q h k now k a (keeps.is_match.shares p q h k a)
          (plain.words p q h k a) in
          subst (λ v. GoingTo p q h k g.next v (t_on R' b g.next 0 v) y k c) (sym g.holding)
          (stand p q h k now k (plain.frame n h k now k g.t_kept (plain.conditions.1.itself act.serial k.memory))
          alike g.next y g.left (so h.share g.s_now g.foot) g.rest
          (m.at.so_far ∙ done_as p q h k a m.at.done m.at.share m.at.left ∙ g.so_far)
          (keeps.is_match.shares p q h k a)
          (plain.conditions.1.then act.serial k.memory m.at.done.holding.memory g.s_now m.frame g.s_kept) g.leads
          (t_on R' b g.next 0 now) c (omega (arith, cost, old))
          (λ foot. block_in b c _ _ _ m.within (omega (arith, cost, old)) foot m.touches) m.touches)

      does_ending : (p q : Past) (x : A) (h : Holding) (b : Block) (y : B) (k : Holding) (c : Block) →
          r.by.match_memory p h q k → (m : Half x h b y k c) → (v : Performed (Last B)) → s_step R' y k ≡ v →
          Ends r w plain tables least act h.share h.memory m.at.done.holding.memory nothing_touched m.at.done.footprint
          (t_step R' x h) v → DoesTo p q h k (t_step R' x h).last (t_step R' x h).holding b y c
      does_ending p q x h b y k c a m v e u =
          let both : Ends r w plain tables least act h.share h.memory m.at.done.holding.memory nothing_touched
          m.at.done.footprint (t_step R' x h) (s_step R' y k) =
          subst (λ z. Ends r w plain tables least act h.share h.memory m.at.done.holding.memory nothing_touched
          m.at.done.footprint (t_step R' x h) z) (sym e) u in
          subst (λ o. DoesTo p q h k o (t_step R' x h).holding b y c) (sym both.t_does)
          (does_last p q h k (t_step R' x h).holding b y c
          (plain.frame n h k (t_step R' x h).holding (s_step R' y k).holding both.t_kept
          (plain.conditions.1.then act.serial k.memory m.at.done.holding.memory
          (s_step R' y k).holding.memory m.frame both.s_kept))
          (plain.again p q h k (t_step R' x h).holding (s_step R' y k).holding a both.same_share both.words)
          m.within both.lasts both.s_does)

      does_at : (p q : Past) (x : A) (h : Holding) (b : Block) (y : B) (k : Holding) (c : Block) →
          r.by.match_memory p h q k → Half x h b y k c →
          DoesTo p q h k (t_step R' x h).last (t_step R' x h).holding b y c
      does_at p q x h b y k c a m = by (fronted p q h k a x m.at.left m.at.done m.credit m.leads)
        where
          all : s_step R' y k ≡ performed r.setting.edge m.at.left
              (so h.share m.at.done.holding.memory m.at.done.footprint)
          all = m.at.so_far ∙ done_as p q h k a m.at.done m.at.share m.at.left

          by : FrontOf h m.at.done m.credit x m.at.left →
              DoesTo p q h k (t_step R' x h).last (t_step R' x h).holding b y c
          by (failing u) = does_failing p q h k (t_step R' x h).last (t_step R' x h).holding b y c
              (ap (λ (v : Performed (Last B)). v.last) all ∙ u)
          by (ending u) = does_ending p q x h b y k c a m
              (performed r.setting.edge m.at.left (so h.share m.at.done.holding.memory m.at.done.footprint)) all u
          by (moving u) = subst (λ o. DoesTo p q h k o (t_step R' x h).holding b y c) (sym u.does)
              (does_moving p q x h b y k c a m u)

      called_too : {t s : Memory} {l : Last A} {m : Last B} → LastHeld r w act t s l m →
          CallsToo R' (called_by (Some l)) (called_by (Some m))
      called_too (goes_held at) = tt
      called_too (takes_held at) = tt
      called_too (gives_held at) = tt
      called_too (puts_held at) = tt
      called_too (calls_held s settled conts) = refl
      called_too (tails_held s settled) = refl
      called_too (passing_held s bare settled only) = refl
      called_too (returns_held s settled) = tt

      fine_at : (p q : Past) (x : A) (h : Holding) (b : Block) (y : B) (k : Holding) (c : Block) → Half x h b y k c →
          r.by.match_memory p h q k → FailsSoon R' y k c
          ⊎ FineAt R' (record { now = x; holding = h; block = b }) (record { now = y; holding = k; block = c })
      fine_at p q x h b y k c m a = by (fronted p q h k a x m.at.left m.at.done m.credit m.leads)
        where
          all : s_step R' y k ≡ performed r.setting.edge m.at.left
              (so h.share m.at.done.holding.memory m.at.done.footprint)
          all = m.at.so_far ∙ done_as p q h k a m.at.done m.at.share m.at.left

          by : FrontOf h m.at.done m.credit x m.at.left → FailsSoon R' y k c
              ⊎ FineAt R' (record { now = x; holding = h; block = b }) (record { now = y; holding = k; block = c })
          by (failing u) = inl (fails (fails_by y k (ap (λ (v : Performed (Last B)). v.last) all ∙ u)))
          by (ending u) =
              let s_does : (s_step R' y k).last ≡ Some u.s_last = ap (λ (v : Performed (Last B)). v.last) all
              ∙ u.s_does in
              inr (record {
                within = m.within;
                called = subst (λ o. CallsToo R' (called_by o) (called_by (s_step R' y k).last)) (sym u.t_does)
                    (subst (λ o. CallsToo R' (called_by (Some u.t_last)) (called_by o)) (sym s_does)
                    (called_too u.lasts));
              })
          by (moving u) =
              inr (record {
                within = m.within;
                called = subst
                    (λ o. CallsToo R' (called_by o) (called_by (s_step R' y k).last)) (sym u.does) tt;
              })

    pub held_passes : Passes R'
    held_passes = record {
      enters = λ f g made p q h k a vs ws s.
          let begun = keeps.steps.begins f g made p q h k a in
          let same = keeps.is_match.begun p q h k (keeps.is_match.matches p q h k a) in
          begin_if f g made p.begun (one_begun r.target p) (one_begun r.source q) (with_own r.target f p.begun h)
          (with_own r.source g q.begun k) begun.match_memory (r.target.enter f p.begun vs)
          (r.source.enter g q.begun ws)
          (subst (λ i. BeginIf r w (record { target = f; source = g; serial = p.begun }) (r.target.enter f p.begun vs)
          (with_own r.target f p.begun h).memory (r.source.enter g i ws) (with_own r.source g i k).memory) same
          (is.enters (record { target = f; source = g; serial = p.begun }) made h.memory k.memory
          (plain.memories p q h k a) vs ws s));
      fine = λ f g made n p q x y m a. fine_at f g made n p q x.now x.holding x.block y.now y.holding y.block m a;
      does = λ m made x b y c half a. does_at m.t_function m.s_function made m.serial m.t_past m.s_past x m.t_holding b
          y m.s_holding c a half;
    }
