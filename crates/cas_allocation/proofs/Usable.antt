-- Passes that leave values and memory as they are, where what is passed or returned is usable: what both threads hold
-- keeps to the layer of calls.
use Rattle.std.proofs.Common.{◌≡◌, ℕ, ◌+◌, slice_get, List, [], ◌∷◌, Option, Some, None, true, refl, sym, ap, ◌∙◌, subst}
use Rattle.cas_runs.specs.Label.{NameBytes, Share, Shown, Word, Place}
use Rattle.cas_runs.specs.Naming.{Value, Number, Pointer, Memory, Named, Naming, and_then, value_at, taken, all_taken}
use Rattle.cas_runs.specs.Access.{Holding, with_lock, without_lock}
use Rattle.cas_runs.specs.Edge.{Edge}
use Rattle.cas_runs.specs.Unit.{Setting, AreLaidOut}
use Rattle.cas_runs.specs.Calls.{Activations, Past, set_blocks, gone, one_begun, can_cross, named_as, with_naming}
use Rattle.cas_runs.specs.Passing.{Position, Relation, AllMatch, MatchIf, brought_in, received, Keeps, AllMade, MadeSo, MadeAt, MadeOf, MadeOf, IsMatching}
use Rattle.cas_runs.specs.Held.{Activation, Midway, HoldsBy}
use Rattle.cas_runs.specs.Unmoved.{keeps_values, in_place}
use Rattle.cas_allocation.specs.Usable.{IsUsable, SameUsable, usable_matches, Usable, places, bare, with_usable, IsPassOfUsable}
use Rattle.cas_runs.proofs.Words.{all_self}
use Rattle.cas_runs.proofs.Found.{found_of}
use Rattle.cas_runs.proofs.Footing.{step_least}
use Rattle.cas_runs.proofs.Holding.{held_passes}

module _ {F A G B : Type 0} (target : Activations F A) (source : Activations G B) (setting : Setting) (ts : List F)
    (ss : List G) (made : F → G → Type 0) (match : F → G → ℕ → Position A → Position B → Type 0)
    (names : (f : F) (g : G) → made f g → target.name f ≡ source.name g)
    (blocks : (f : F) (g : G) → made f g → target.blocks f ≡ source.blocks g) where
  abbrev R : Relation F A G B
  R = keeps_values target source setting ts ss (usable_matches made match)

  pub to_equal : (vs ws : List Value) → AllMatch R vs ws → vs ≡ ws
  to_equal [] [] h = refl
  to_equal [] (w ∷ ws) h = absurd h
  to_equal (v ∷ vs) [] h = absurd h
  to_equal (v ∷ vs) (w ∷ ws) h = ap (λ u. u ∷ vs) h.0.0 ∙ ap (λ us. w ∷ us) (to_equal vs ws h.1)

  -- each of them is usable
  abbrev AreUsable : Option (List Value) → Type 0
  AreUsable None = Unit {0}
  AreUsable (Some []) = Unit {0}
  AreUsable (Some (v ∷ vs)) = IsUsable v × AreUsable (Some vs)

  all_equal : (vs : List Value) → AreUsable (Some vs) → AllMatch R vs vs
  all_equal [] h = tt
  all_equal (v ∷ vs) h = ((refl, h.0), all_equal vs h.1)

  -- the holding with other blocks of an activation
  abbrev with_set : (ℕ → Option (List Value)) → NameBytes → ℕ → List ℕ → Holding → Holding
  with_set words name n sizes h = record { share = h.share; memory = set_blocks words h.memory name n 0 sizes }

  set_equal : (words : ℕ → Option (List Value)) (f : F) (g : G) → made f g → (n m : ℕ) → n ≡ m → (h k : Holding) →
      h ≡ k → with_set words (target.name f) n (target.blocks f) h ≡ with_set words (source.name g) m (source.blocks g)
      k
  set_equal words f g m n n' e h k e' =
      ap (λ v. with_set words v n (target.blocks f) h) (names f g m)
      ∙ ap (λ v. with_set words (source.name g) n v h) (blocks f g m)
      ∙ ap (λ v. with_set words (source.name g) v (source.blocks g) h) e
      ∙ ap (λ v. with_set words (source.name g) n' (source.blocks g) v) e'

  placed : (o : Option Named) (place : ℕ) (v : Value) → value_at o place ≡ Some v → IsUsable v
  placed None place v e = absurd (cc e)
  placed (Some n) place v e =
      let same : Pointer n.home (n.part.from + place) ≡ v = cc e in subst (λ u. IsUsable u) same tt

  one_taken : (ns : Naming) (x : Shown) (v : Value) → taken ns x ≡ Some v → IsUsable v
  one_taken ns (Word w) v e = let same : Number w ≡ v = cc e in subst (λ u. IsUsable u) same tt
  one_taken ns (Place object place) v e = placed (slice_get ns object) place v e

  -- what the outside brings is usable
  taken_usable : (ns : Naming) (xs : List Shown) → AreUsable (all_taken ns xs)
  taken_usable ns [] = tt
  taken_usable ns (x ∷ xs) = both (taken ns x) (all_taken ns xs) (λ v e. one_taken ns x v e) (taken_usable ns xs)
    where
      both : (o : Option Value) (r : Option (List Value)) → ((v : Value) → o ≡ Some v → IsUsable v) → AreUsable r →
          AreUsable (and_then o (λ v. and_then r (λ vs. Some (v ∷ vs))))
      both None r h k = tt
      both (Some v) None h k = tt
      both (Some v) (Some vs) h k = (h v refl, k)

  same_if : (o o' : Option (List Value)) → o ≡ o' → AreUsable o → MatchIf R o o'
  same_if o o' e h = subst (λ v. MatchIf R o v) e (itself o h)
    where
      itself : (o : Option (List Value)) → AreUsable o → MatchIf R o o
      itself None h = tt
      itself (Some vs) h = all_equal vs h

  pub usable_keeps : Keeps R
  usable_keeps = record {
    names = names;
    numbers = λ w word. (refl, tt);
    is_frame =
        record { at_once = λ n h k. tt; then_later = λ n h k h' k' h'' k'' l m. tt; fewer = λ m n h k h' k' le l. tt };
    is_match = record {
      first = record { past = refl; holding = refl };
      matches = λ p q h k a. record { past = a.past; share = ap (λ (v : Holding). v.share) a.holding };
      begun = λ p q h k a. ap (λ (v : Past). v.begun) a.past;
      shares = λ p q h k a. a.share;
    };
    steps = record {
      locks = λ m a lock words g. record {
        match_memory =
            record { past = a.past; share = ap (λ (v : Share). with_lock v lock words) a.share };
        frame = tt;
      };
      unlocks =
          λ m a lock. record {
            match_memory = record { past = a.past; share = ap (λ (v : Share). without_lock v lock) a.share };
            frame =
                tt;
          };
      begins = λ f g m p q h k a. record {
        match_memory =
            record { past = ap (λ v. one_begun target v) a.past; share = ap (λ (v : Holding). v.share) a.holding };
        frame = tt;
      };
      ends = λ m made a. record {
        settled = record {
          past = a.past;
          holding = set_equal gone m.t_function m.s_function made m.serial m.serial
              refl m.t_holding m.s_holding a.holding;
        };
        frame = tt;
      };
    };
    crossings = record {
      shows = λ p q h k a vs ws s e.
          let past : p ≡ q = a.past in
          subst (λ (v : Past). can_cross setting.layout v vs ≡ true) (sym past)
          (subst (λ us. can_cross setting.layout q us ≡ true) (sym (to_equal vs ws s)) e);
      crosses = λ p q h k a vs ws s names ns e.
          let past : p ≡ q = a.past in
          let holding : h ≡ k = a.holding in (
            ns,
            ap (λ us. named_as setting.layout us p h names) (to_equal vs ws s)
                ∙ ap (λ v. named_as setting.layout ws v h names) past
                ∙ ap (λ v. named_as setting.layout ws q v names) holding ∙ e,
            record { past = ap (λ v. with_naming v ns) past; holding = holding },
          );
      receives = λ n p q h k a types crossing brings typed.
          let past : p ≡ q = a.past in
          let holding : h ≡ k = a.holding in (
            record {
              past = ap (λ (v : Past). with_naming v (brought_in R v h crossing).naming) past
                  ∙ ap (λ (v : Holding). with_naming q (brought_in R q v crossing).naming) holding;
              holding =
                  ap (λ (v : Past). received R v h crossing) past ∙ ap (λ v. received R q v crossing) holding;
            },
            tt,
            same_if (all_taken (brought_in R p h crossing).naming crossing.values)
                (all_taken (brought_in R q k crossing).naming crossing.values)
                (ap (λ (v : Past). all_taken (brought_in R v h crossing).naming crossing.values) past
                ∙ ap (λ (v : Holding). all_taken (brought_in R q v crossing).naming crossing.values) holding)
                (taken_usable (brought_in R p h crossing).naming crossing.values),
          );
    };
  }

-- what threads hold matches by the shares alone, and is settled where memories are equal
pub usable_holds : {F A G B : Type 0} (target : Activations F A) (source : Activations G B) (setting : Setting)
    (ts : List F) (ss : List G) (made : F → G → Type 0) (match : F → G → ℕ → Position A → Position B → Type 0)
    (match_states : Activation F G → A → Memory → B → Memory → Type 0) →
    HoldsBy (keeps_values target source setting ts ss (usable_matches made match)) (in_place match_states)
usable_holds target source setting ts ss made match match_states = record {
  words = λ p q h k a. all_self SameUsable (λ w. (refl, tt)) k.share;
  again = λ p q h k h' k' a share words. record { past = a.past; share = share };
  settles =
      λ p q h k a memory. record {
        past = a.past;
        holding = ap (λ v. record { share = v; memory = h.memory }) a.share
            ∙ ap (λ (v : Memory). record { share = k.share; memory = v }) memory;
      };
  memories = λ p q h k a. ap (λ (v : Holding). v.memory) a.holding;
  frame = λ n h k h' k' tk sk. tt;
  frames = λ n h k h' k' l. (tt, tt);
  conditions = (
    record { itself = λ n m. tt; then = λ n m m' m'' a b. tt },
    record
        { itself = λ n m. tt; then = λ n m m' m'' a b. tt },
  );
}

-- A pass that leaves values and memory as they are, by what it names and shows.
module _ {F A G B : Type 0} (p : Usable F A G B) (is : IsPassOfUsable p) where
  names_of_made : (setting : Setting) (ts : List F) (ss : List G) (f : F) (g : G) →
      MadeOf (with_usable p) setting ts ss f g → p.target.name f ≡ p.source.name g
  names_of_made setting ts ss f g m = let at = m.is_made in is.names at.decls f g at.is_made

  blocks_of_made : (setting : Setting) (ts : List F) (ss : List G) (f : F) (g : G) →
      MadeOf (with_usable p) setting ts ss f g → p.target.blocks f ≡ p.source.blocks g
  blocks_of_made setting ts ss f g m = let at = m.is_made in is.blocks at.decls f g at.is_made

  so_from : (edge : Edge) (ts : List F) (ss : List G) → AllMade (MadeAt edge p.made) ts ss →
      AllMade (MadeSo p.made) ts ss
  so_from edge [] [] h = tt
  so_from edge [] (g ∷ gs) h = absurd h
  so_from edge (f ∷ fs) [] h = absurd h
  so_from edge (f ∷ fs) (g ∷ gs) h = let at = h.0 in ((at.decls, at.is_made), so_from edge fs gs h.1)

  pub usable_is : IsMatching (with_usable p)
  usable_is = record {
    names = is.names;
    laid_out_too = λ ts ss all layout laid name f e.
        let there = found_of p.target p.source (MadeSo p.made) (λ f g so. is.names so.0 f g so.1) ts ss all name f e in
        let so = there.2 in
        subst (λ bs. AreLaidOut bs 0 (layout name)) (sym (is.blocks so.0 f there.0 so.1)) (laid name there.0 there.1);
    passes = λ setting decls ts ss run.
        let made = MadeOf (with_usable p) setting ts ss in
        let R0 = bare p setting ts ss made in
        let w = places p setting ts ss in
        let keeps = usable_keeps p.target p.source setting ts ss made (Midway R0 w) (names_of_made setting ts ss)
        (blocks_of_made setting ts ss) in
        record {
          keeps = keeps;
          pays = record { prices = is.prices; waits = is.waits ts ss (so_from setting.edge ts ss run.all) };
          passes = held_passes R0 w (usable_holds p.target p.source setting ts ss made (λ f g n x y. Unit {0})
              (p.match_states setting ts ss)) (λ x. step_least p.target.tariff ts x is.prices)
              (is.steps setting decls ts ss run) keeps run.edge_is;
        };
  }
