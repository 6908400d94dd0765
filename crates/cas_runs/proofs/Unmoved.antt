-- Passes that leave values and memory as they are: what both threads hold keeps to the layer of calls.
use Rattle.std.proofs.Common.{◌≡◌, ℕ, ◌<◌, List, [], ◌∷◌, Option, Some, None, true, length, slice_set, refl, sym, ap, ◌∙◌, subst}
use Rattle.cas_runs.specs.Label.{NameBytes, Share}
use Rattle.cas_runs.specs.Naming.{Home, Value, Pointer, Memory, all_taken, with_block}
use Rattle.cas_runs.specs.Access.{Holding, with_lock, without_lock, value_in, length_of}
use Rattle.cas_runs.specs.Edge.{Edge}
use Rattle.cas_runs.specs.Unit.{Setting, AreLaidOut}
use Rattle.cas_runs.specs.Calls.{Activations, Past, set_blocks, fresh, gone, one_begun, can_cross, named_as, with_naming}
use Rattle.cas_runs.specs.Passing.{Position, Relation, AllMatch, MatchIf, brought_in, received, Keeps, AllMade, MadeSo, MadeAt, MadeOf, MadeOf, IsMatching}
use Rattle.cas_runs.specs.Held.{Activation, Midway, HoldsBy, with_blocks_of}
use Rattle.cas_runs.specs.Unmoved.{equal_matches, keeps_values, in_place, Unmoved, places, bare, unmoved, IsUnmoved}
use Rattle.cas_runs.proofs.Words.{all_self}
use Rattle.cas_runs.proofs.Found.{found_of}
use Rattle.cas_runs.proofs.Footing.{step_least}
use Rattle.cas_runs.proofs.Holding.{held_passes}
use Rattle.cas_runs.specs.Forms.{LengthsAlike, Stored, store, MemoryKeeps}

module _ {F A G B : Type 0} (target : Activations F A) (source : Activations G B) (setting : Setting) (ts : List F)
    (ss : List G) (made : F → G → Type 0) (match : F → G → ℕ → Position A → Position B → Type 0)
    (names : (f : F) (g : G) → made f g → target.name f ≡ source.name g)
    (blocks : (f : F) (g : G) → made f g → target.blocks f ≡ source.blocks g) where
  abbrev R : Relation F A G B
  R = keeps_values target source setting ts ss (equal_matches made match)

  pub to_equal : (vs ws : List Value) → AllMatch R vs ws → vs ≡ ws
  to_equal [] [] h = refl
  to_equal [] (w ∷ ws) h = absurd h
  to_equal (v ∷ vs) [] h = absurd h
  to_equal (v ∷ vs) (w ∷ ws) h = ap (λ u. u ∷ vs) h.0 ∙ ap (λ us. w ∷ us) (to_equal vs ws h.1)

  pub all_equal : (vs : List Value) → AllMatch R vs vs
  all_equal [] = tt
  all_equal (v ∷ vs) = (refl, all_equal vs)

  pub from_equal : (vs ws : List Value) → vs ≡ ws → AllMatch R vs ws
  from_equal vs ws e = subst (λ us. AllMatch R vs us) e (all_equal vs)

  -- the holding with other blocks of an activation
  abbrev with_set : (ℕ → Option (List Value)) → NameBytes → ℕ → List ℕ → Holding → Holding
  with_set words name n sizes h = record { share = h.share; memory = set_blocks words h.memory name n 0 sizes }

  set_equal : (words : ℕ → Option (List Value)) (f : F) (g : G) → made f g → (n m : ℕ) → n ≡ m → (h k : Holding) →
      h ≡ k → with_set words (target.name f) n (target.blocks f) h ≡ with_set words (source.name g) m (source.blocks g)
      k
  set_equal words f g m n n' e h k e' =
      ap (λ v. with_set words v n (target.blocks f) h) (names f g m)
      ∙ ap (λ v. with_set words (source.name g) n v h) (blocks f g m)
      ∙ ap (λ v. with_set words (source.name g) v (source.blocks g) h) e
      ∙ ap (λ v. with_set words (source.name g) n' (source.blocks g) v) e'

  same_if : (o o' : Option (List Value)) → o ≡ o' → MatchIf R o o'
  same_if o o' e = subst (λ v. MatchIf R o v) e (itself o)
    where
      itself : (o : Option (List Value)) → MatchIf R o o
      itself None = tt
      itself (Some vs) = all_equal vs

  pub equal_keeps : Keeps R
  equal_keeps = record {
    names = names;
    numbers = λ w word. refl;
    is_frame =
        record { at_once = λ n h k. tt; then_later = λ n h k h' k' h'' k'' l m. tt; fewer = λ m n h k h' k' le l. tt };
    is_match = record {
      first = record { past = refl; holding = refl };
      matches = λ p q h k a. record { past = a.past; share = ap (λ (v : Holding). v.share) a.holding };
      begun = λ p q h k a. ap (λ (v : Past). v.begun) a.past;
      shares = λ p q h k a. a.share;
    };
    steps = record {
      locks = λ m a lock words g. record {
        match_memory =
            record { past = a.past; share = ap (λ (v : Share). with_lock v lock words) a.share };
        frame = tt;
      };
      unlocks =
          λ m a lock. record {
            match_memory = record { past = a.past; share = ap (λ (v : Share). without_lock v lock) a.share };
            frame =
                tt;
          };
      begins = λ f g m p q h k a. record {
        match_memory =
            record { past = ap (λ v. one_begun target v) a.past; share = ap (λ (v : Holding). v.share) a.holding };
        frame = tt;
      };
      ends = λ m made a. record {
        settled = record {
          past = a.past;
          holding = set_equal gone m.t_function m.s_function made m.serial m.serial
              refl m.t_holding m.s_holding a.holding;
        };
        frame = tt;
      };
    };
    crossings = record {
      shows = λ p q h k a vs ws s e.
          let past : p ≡ q = a.past in
          subst (λ (v : Past). can_cross setting.layout v vs ≡ true) (sym past)
          (subst (λ us. can_cross setting.layout q us ≡ true) (sym (to_equal vs ws s)) e);
      crosses = λ p q h k a vs ws s names ns e.
          let past : p ≡ q = a.past in
          let holding : h ≡ k = a.holding in (
            ns,
            ap (λ us. named_as setting.layout us p h names) (to_equal vs ws s)
                ∙ ap (λ v. named_as setting.layout ws v h names) past
                ∙ ap (λ v. named_as setting.layout ws q v names) holding ∙ e,
            record { past = ap (λ v. with_naming v ns) past; holding = holding },
          );
      receives = λ n p q h k a types crossing brings typed.
          let past : p ≡ q = a.past in
          let holding : h ≡ k = a.holding in (
            record {
              past = ap (λ (v : Past). with_naming v (brought_in R v h crossing).naming) past
                  ∙ ap (λ (v : Holding). with_naming q (brought_in R q v crossing).naming) holding;
              holding =
                  ap (λ (v : Past). received R v h crossing) past ∙ ap (λ v. received R q v crossing) holding;
            },
            tt,
            same_if (all_taken (brought_in R p h crossing).naming crossing.values)
                (all_taken (brought_in R q k crossing).naming crossing.values)
                (ap (λ (v : Past). all_taken (brought_in R v h crossing).naming crossing.values) past
                ∙ ap (λ (v : Holding). all_taken (brought_in R q v crossing).naming crossing.values) holding),
          );
    };
  }

  -- memories that are equal stay so where activations begin, if blocks begin alike
  pub blocks_equal : target.first_word ≡ source.first_word → (f : F) (g : G) → made f g → (n : ℕ) (t s : Memory) →
      t ≡ s →
      with_blocks_of target f n t ≡ with_blocks_of source g n s
  blocks_equal first_words f g m n t s e =
      let first = ap (λ v. with_set (fresh v) (target.name f) n (target.blocks f) (record { share = []; memory = t }))
      first_words in
      let then_ = set_equal (fresh source.first_word) f g m n n refl (record { share = []; memory = t })
      (record { share = []; memory = s }) (ap (λ (v : Memory). record { share = []; memory = v }) e) in
      ap (λ (v : Holding). v.memory) (first ∙ then_)

-- what threads hold matches by the shares alone, and is settled where memories are equal
pub equal_holds : {F A G B : Type 0} (target : Activations F A) (source : Activations G B) (setting : Setting)
    (ts : List F) (ss : List G) (made : F → G → Type 0) (match : F → G → ℕ → Position A → Position B → Type 0)
    (match_states : Activation F G → A → Memory → B → Memory → Type 0) →
    HoldsBy (keeps_values target source setting ts ss (equal_matches made match)) (in_place match_states)
equal_holds target source setting ts ss made match match_states = record {
  words = λ p q h k a. all_self (λ v w. v ≡ w) (λ w. refl) k.share;
  again = λ p q h k h' k' a share words. record { past = a.past; share = share };
  settles =
      λ p q h k a memory. record {
        past = a.past;
        holding = ap (λ v. record { share = v; memory = h.memory }) a.share
            ∙ ap (λ (v : Memory). record { share = k.share; memory = v }) memory;
      };
  memories = λ p q h k a. ap (λ (v : Holding). v.memory) a.holding;
  frame = λ n h k h' k' tk sk. tt;
  frames = λ n h k h' k' l. (tt, tt);
  conditions = (
    record { itself = λ n m. tt; then = λ n m m' m'' a b. tt },
    record
        { itself = λ n m. tt; then = λ n m m' m'' a b. tt },
  );
}

-- A pass that leaves values and memory as they are, by what it names and shows.
module _ {F A G B : Type 0} (p : Unmoved F A G B) (is : IsUnmoved p) where
  names_of_made : (setting : Setting) (ts : List F) (ss : List G) (f : F) (g : G) →
      MadeOf (unmoved p) setting ts ss f g → p.target.name f ≡ p.source.name g
  names_of_made setting ts ss f g m = let at = m.is_made in is.names at.decls f g at.is_made

  blocks_of_made : (setting : Setting) (ts : List F) (ss : List G) (f : F) (g : G) →
      MadeOf (unmoved p) setting ts ss f g → p.target.blocks f ≡ p.source.blocks g
  blocks_of_made setting ts ss f g m = let at = m.is_made in is.blocks at.decls f g at.is_made

  so_from : (edge : Edge) (ts : List F) (ss : List G) → AllMade (MadeAt edge p.made) ts ss →
      AllMade (MadeSo p.made) ts ss
  so_from edge [] [] h = tt
  so_from edge [] (g ∷ gs) h = absurd h
  so_from edge (f ∷ fs) [] h = absurd h
  so_from edge (f ∷ fs) (g ∷ gs) h = let at = h.0 in ((at.decls, at.is_made), so_from edge fs gs h.1)

  pub unmoved_is : IsMatching (unmoved p)
  unmoved_is = record {
    names = is.names;
    laid_out_too = λ ts ss all layout laid name f e.
        let there = found_of p.target p.source (MadeSo p.made) (λ f g so. is.names so.0 f g so.1) ts ss all name f e in
        let so = there.2 in
        subst (λ bs. AreLaidOut bs 0 (layout name)) (sym (is.blocks so.0 f there.0 so.1)) (laid name there.0 there.1);
    passes = λ setting decls ts ss run.
        let made = MadeOf (unmoved p) setting ts ss in
        let R0 = bare p setting ts ss made in
        let w = places p setting ts ss in
        let keeps = equal_keeps p.target p.source setting ts ss made (Midway R0 w) (names_of_made setting ts ss)
        (blocks_of_made setting ts ss) in
        record {
          keeps = keeps;
          pays = record { prices = is.prices; waits = is.waits ts ss (so_from setting.edge ts ss run.all) };
          passes = held_passes R0 w (equal_holds p.target p.source setting ts ss made (λ f g n x y. Unit {0})
              (p.match_states setting ts ss)) (λ x. step_least p.target.tariff ts x is.prices)
              (is.steps setting decls ts ss run) keeps run.edge_is;
        };
  }

-- loads and stores in memories that are equal
pub memory_equal : MemoryKeeps (λ v w. v ≡ w) (λ n m. n ≡ m) (λ t s. t ≡ s)
memory_equal = record {
  loads = λ t s e home home' at at' p w g. loads_equal t s e home home' at at' p w g;
  stores = λ t s e home home' at at' p v w same ws g less. stores_equal t s e home home' at at' p v w same ws g less;
  lengths = λ t s e home home' at at' p. lengths_equal t s e home home' at at' p;
}
  where
    loads_equal : (t s : Memory) → t ≡ s → (home home' : Home) (at at' : ℕ) → Pointer home at ≡ Pointer home' at' →
        (w : Value) → value_in (s home') at' ≡ Some w → (v : Value) × (value_in (t home) at ≡ Some v) × (v ≡ w)
    loads_equal t s e home home' at at' p w g =
        let homes : home ≡ home' = cc p in
        let places : at ≡ at' = cc p in (
          w,
          ap (λ m. value_in (m home) at) e ∙ ap (λ x. value_in (s x) at) homes ∙ ap (λ n. value_in (s home') n) places
              ∙ g,
          refl,
        )

    stores_equal : (t s : Memory) → t ≡ s → (home home' : Home) (at at' : ℕ) → Pointer home at ≡ Pointer home' at' →
        (v w : Value) → v ≡ w → (ws : List Value) → s home' ≡ Some ws → at' < length ws →
        Stored (λ t s. t ≡ s) t s (store home at v) (store home' at' w) ws
    stores_equal t s e home home' at at' p v w same ws g less =
        let homes : home ≡ home' = cc p in
        let places : at ≡ at' = cc p in
        record {
          block = ws;
          there = ap (λ m. m home) e ∙ ap s homes ∙ g;
          within = subst (λ n. n < length ws) (sym places) less;
          after = ap (λ m. with_block m home (Some (slice_set ws at v))) e
              ∙ ap (λ x. with_block s x (Some (slice_set ws at v))) homes
              ∙ ap (λ n. with_block s home' (Some (slice_set ws n v))) places
              ∙ ap (λ u. with_block s home' (Some (slice_set ws at' u))) same;
        }

    lengths_equal : (t s : Memory) → t ≡ s → (home home' : Home) (at at' : ℕ) → Pointer home at ≡ Pointer home' at' →
        LengthsAlike (λ n m. n ≡ m) (length_of (t home)) (length_of (s home'))
    lengths_equal t s e home home' at at' p =
        let homes : home ≡ home' = cc p in
        subst (λ m. LengthsAlike (λ n m. n ≡ m) (length_of (t home)) (length_of (m home'))) e
        (subst (λ x. LengthsAlike (λ n m. n ≡ m) (length_of (t home)) (length_of (t x))) homes
        (itself (length_of (t home))))
      where
        itself : (o : Option ℕ) → LengthsAlike (λ n m. n ≡ m) o o
        itself None = tt
        itself (Some n) = refl
