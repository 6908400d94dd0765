-- Passes that leave values and memory as they are, where every number is a word: what both threads hold keeps to the
-- layer of calls.
use Rattle.std.proofs.Common.{◌≡◌, ℕ, zero, suc, ◌+◌, List, [], ◌∷◌, Option, Some, None, true, slice_get, slice_set, refl, sym, ap, ◌∙◌, subst, ⊎_elim}
use Rattle.cas_base.specs.declared.kind.Kind.{Kind}
use Rattle.cas_base.specs.declared.kind.Kind.TheVariants.{U32}
use Rattle.cas_base.specs.declared.kind.Ty.{Ty}
use Rattle.cas_base.specs.declared.kind.Ty.TheVariants.{Void, Int, Ptr, Array}
use Rattle.cas_runs.specs.Label.{NameBytes, Each, Shown, Word, Place, Object, Share}
use Rattle.cas_runs.specs.Edge.{Edge, IsOfKind, IsOfType, AreOfTypes, IsShare}
use Rattle.cas_runs.specs.Outside.{AreWordsOf, ChangesTo, NewContents, Continues, IsNew}
use Rattle.cas_runs.specs.Naming.{Home, Own, Theirs, Value, Number, Named, Naming, Memory, and_then, with_block, died, value_at, taken, all_taken, refilled, overwritten, written, left_in, filled, new_block, brought, objects_of}
use Rattle.cas_runs.specs.Access.{Holding, with_lock, without_lock, value_in}
use Rattle.cas_runs.specs.Unit.{Setting, AreLaidOut}
use Rattle.cas_runs.specs.Forms.{MemoryKeeps, ShareSelfSame}
use Rattle.cas_runs.specs.Calls.{Activations, Past, so_many, set_blocks, fresh, gone, one_begun, can_cross, named_as, with_naming}
use Rattle.cas_runs.specs.Passing.{Position, Relation, AllMatch, MatchIf, brought_in, received, Keeps, AllMade, MadeSo, MadeAt, MadeOf, MadeOf, IsMatching}
use Rattle.cas_runs.specs.Held.{Activation, Midway, HoldsBy, with_blocks_of}
use Rattle.cas_runs.specs.Worded.{IsWord, AreWords, HasWords, SameWord, EqualMemories, word_matches, in_words, Worded, places, bare, worded, IsWorded}
use Rattle.cas_runs.specs.Unmoved.{keeps_values}
use Rattle.cas_runs.proofs.Words.{kind_word, guarded_self, self_with_lock, self_without_lock}
use Rattle.cas_runs.proofs.Unmoved.{memory_equal}
use Rattle.cas_runs.proofs.Footing.{step_least}
use Rattle.cas_runs.proofs.Found.{found_of}
use Rattle.cas_runs.proofs.Holding.{held_passes}
use Rattle.cas_runs.proofs.Placing.{with_here, with_elsewhere, same_or_not}

-- Memories with words.

words_get : (vs : List Value) → AreWords vs → (i : ℕ) (v : Value) → slice_get vs i ≡ Some v → IsWord v
words_get [] h i v e = absurd (cc e)
words_get (x ∷ vs) h zero v e = let here : x ≡ v = cc e in subst IsWord here h.0
words_get (x ∷ vs) h (suc i) v e = words_get vs h.1 i v e

words_set : (vs : List Value) → AreWords vs → (i : ℕ) (v : Value) → IsWord v → AreWords (slice_set vs i v)
words_set [] h i v w = tt
words_set (x ∷ vs) h zero v w = (w, h.1)
words_set (x ∷ vs) h (suc i) v w = (h.0, words_set vs h.1 i v w)

-- the words of a block that is there
abbrev BlockWords : Option (List Value) → Type 0
BlockWords None = Unit {0}
BlockWords (Some vs) = AreWords vs

block_from : (o : Option (List Value)) → BlockWords o → (vs : List Value) → o ≡ Some vs → AreWords vs
block_from None h vs e = absurd (cc e)
block_from (Some us) h vs e = let same : us ≡ vs = cc e in subst AreWords same h

block_of : (o : Option (List Value)) → ((vs : List Value) → o ≡ Some vs → AreWords vs) → BlockWords o
block_of None h = tt
block_of (Some vs) h = h vs refl

with_words : (m : Memory) → HasWords m → (home : Home) (block : Option (List Value)) → BlockWords block →
    HasWords (with_block m home block)
with_words m h home block b other vs e = ⊎_elim
    (λ (same : other ≡ home). block_from block b vs
    (sym (ap (λ x. with_block m home block x) same ∙ with_here m home block) ∙ e))
    (λ differ. h other vs (sym (with_elsewhere m home other block differ) ∙ e)) (same_or_not other home)

set_words : (words : ℕ → Option (List Value)) → ((size : ℕ) → BlockWords (words size)) → (m : Memory) → HasWords m →
    (name : NameBytes) (serial k : ℕ) (sizes : List ℕ) → HasWords (set_blocks words m name serial k sizes)
set_words words each m h name serial k [] = h
set_words words each m h name serial k (size ∷ sizes) =
    set_words words each (with_block m (Own name serial k) (words size))
    (with_words m h (Own name serial k) (words size) (each size)) name serial (k + 1) sizes

fresh_words : (v : Value) → IsWord v → (size : ℕ) → AreWords (so_many v size)
fresh_words v w zero = tt
fresh_words v w (suc size) = (w, fresh_words v w size)

-- What the outside brings.

abbrev ContentWords : Option ℕ → Type 0
ContentWords None = Unit {0}
ContentWords (Some w) = IsOfKind w U32

abbrev ContentsWords : List (Option ℕ) → Type 0
ContentsWords [] = Unit {0}
ContentsWords (c ∷ cs) = ContentWords c × ContentsWords cs

abbrev StateWords : Option (List (Option ℕ)) → Type 0
StateWords None = Unit {0}
StateWords (Some cs) = ContentsWords cs

abbrev ObjectsWords : List Object → Type 0
ObjectsWords [] = Unit {0}
ObjectsWords (o ∷ os) = StateWords o.contents × ObjectsWords os

of_kind : (kind : Kind) (cs : List (Option ℕ)) → AreWordsOf kind cs → ContentsWords cs
of_kind kind [] h = tt
of_kind kind (Some w ∷ cs) h = (kind_word w kind h.0, of_kind kind cs h.1)
of_kind kind (None ∷ cs) h = absurd h.0

new_words : (os : List Object) → Each IsNew os → ObjectsWords os
new_words [] h = tt
new_words (o ∷ os) h = (by o.contents h.0.contents, new_words os h.1)
  where
    by : (c : Option (List (Option ℕ))) → NewContents o c → StateWords c
    by None n = tt
    by (Some cs) n = of_kind o.kind cs n.kinds

brought_words : (before os : List Object) → Continues before os → ObjectsWords os
brought_words [] os h = new_words os h
brought_words (b ∷ before) [] h = absurd h
brought_words (b ∷ before) (o ∷ os) h = let changes = h.0 in
    (by b.contents o.contents changes.contents, brought_words before os h.1)
  where
    by : (c d : Option (List (Option ℕ))) → ChangesTo b c d → StateWords d
    by c None n = tt
    by None (Some ds) n = absurd n
    by (Some cs) (Some ds) n = of_kind b.kind ds n.kinds

refilled_word : (c : Option ℕ) (v : Value) → ContentWords c → IsWord v → IsWord (refilled c v)
refilled_word None v h w = w
refilled_word (Some x) v h w = h

overwritten_words : (vs : List Value) (size : ℕ) (cs : List (Option ℕ)) → AreWords vs → ContentsWords cs →
    AreWords (overwritten vs size cs)
overwritten_words [] size cs h k = tt
overwritten_words (v ∷ vs) zero cs h k = h
overwritten_words (v ∷ vs) (suc size) [] h k = h
overwritten_words (v ∷ vs) (suc size) (c ∷ cs) h k = (refilled_word c v k.0 h.0, overwritten_words vs size cs h.1 k.1)

written_words : (vs : List Value) (from size : ℕ) (cs : List (Option ℕ)) → AreWords vs → ContentsWords cs →
    AreWords (written vs from size cs)
written_words vs zero size cs h k = overwritten_words vs size cs h k
written_words [] (suc from) size cs h k = tt
written_words (v ∷ vs) (suc from) size cs h k = (h.0, written_words vs from size cs h.1 k)

filled_words : (size : ℕ) (cs : List (Option ℕ)) → ContentsWords cs → AreWords (filled size cs)
filled_words zero cs k = tt
filled_words (suc size) [] k = (refl, filled_words size [] tt)
filled_words (suc size) (c ∷ cs) k = (refilled_word c (Number 0) k.0 refl, filled_words size cs k.1)

new_block_words : (size : ℕ) (c : Option (List (Option ℕ))) → StateWords c → BlockWords (new_block size c)
new_block_words size None k = tt
new_block_words size (Some cs) k = filled_words size cs k

left_words : (n : Named) (o : Option (List Value)) (c : Option (List (Option ℕ))) → BlockWords o → StateWords c →
    BlockWords (left_in n o c)
left_words n None c h k = tt
left_words n (Some vs) None h k = by n.home
  where
    by : (home : Home) → BlockWords (died home vs)
    by (Own f a b) = h
    by (Theirs object) = tt
left_words n (Some vs) (Some cs) h k = written_words vs n.part.from n.part.size cs h k

memory_brought : (os : List Object) → ObjectsWords os → (m : Memory) → HasWords m → (ns : Naming) (k : ℕ) →
    HasWords (brought m ns k os).memory
memory_brought [] w m h ns k = h
memory_brought (o ∷ os) w m h [] k = memory_brought os w.1 (with_block m (Theirs k) (new_block o.size o.contents))
    (with_words m h (Theirs k) (new_block o.size o.contents) (new_block_words o.size o.contents w.0)) [] (k + 1)
memory_brought (o ∷ os) w m h (n ∷ ns) k =
    memory_brought os w.1 (with_block m n.home (left_in n (m n.home) o.contents))
    (with_words m h n.home (left_in n (m n.home) o.contents)
    (left_words n (m n.home) o.contents (block_of (m n.home) (λ vs e. h n.home vs e)) w.0)) ns (k + 1)

share_brought : (edge : Edge) (hs : Share) → IsShare edge hs → ShareSelfSame SameWord hs
share_brought edge [] h = tt
share_brought edge (k ∷ hs) h =
    (guarded_self SameWord (λ w word. (refl, word)) edge k.lock k.words h.0, share_brought edge hs h.2)

-- the values
abbrev TakenWord : Option Value → Type 0
TakenWord None = Unit {0}
TakenWord (Some v) = IsWord v

placed_word : (o : Option Named) (place : ℕ) → TakenWord (value_at o place)
placed_word None place = tt
placed_word (Some n) place = tt

taken_word : (objects : List Object) (ns : Naming) (ty : Ty) (x : Shown) → IsOfType objects ty x →
    TakenWord (taken ns x)
taken_word objects ns (Int kind) (Word w) h = kind_word w kind h
taken_word objects ns (Ptr kind) (Word w) h = subst (λ v. IsOfKind v U32) (sym h) refl
taken_word objects ns ty (Place object place) h = placed_word (slice_get ns object) place
taken_word objects ns Void (Word w) h = absurd h
taken_word objects ns (Array kind size) (Word w) h = absurd h

abbrev AllTaken : Option (List Value) → Type 0
AllTaken None = Unit {0}
AllTaken (Some vs) = AreWords vs

all_taken_words : (objects : List Object) (ns : Naming) (tys : List Ty) (xs : List Shown) → AreOfTypes objects tys xs →
    AllTaken (all_taken ns xs)
all_taken_words objects ns [] [] h = tt
all_taken_words objects ns [] (x ∷ xs) h = absurd h
all_taken_words objects ns (ty ∷ tys) [] h = absurd h
all_taken_words objects ns (ty ∷ tys) (x ∷ xs) h = both (taken ns x) (all_taken ns xs) (taken_word objects ns ty x h.0)
    (all_taken_words objects ns tys xs h.1)
  where
    both : (o : Option Value) (r : Option (List Value)) → TakenWord o → AllTaken r →
        AllTaken (and_then o (λ v. and_then r (λ vs. Some (v ∷ vs))))
    both None r u v = tt
    both (Some v) None u w = tt
    both (Some v) (Some vs) u w = (u, w)

module _ {F A G B : Type 0} (target : Activations F A) (source : Activations G B) (setting : Setting) (ts : List F)
    (ss : List G) (made : F → G → Type 0) (match : F → G → ℕ → Position A → Position B → Type 0)
    (names : (f : F) (g : G) → made f g → target.name f ≡ source.name g)
    (blocks : (f : F) (g : G) → made f g → target.blocks f ≡ source.blocks g) where
  abbrev R : Relation F A G B
  R = keeps_values target source setting ts ss (word_matches made match)

  pub to_equal : (vs ws : List Value) → AllMatch R vs ws → vs ≡ ws
  to_equal [] [] h = refl
  to_equal [] (w ∷ ws) h = absurd h
  to_equal (v ∷ vs) [] h = absurd h
  to_equal (v ∷ vs) (w ∷ ws) h = ap (λ u. u ∷ vs) h.0.0 ∙ ap (λ us. w ∷ us) (to_equal vs ws h.1)

  pub all_equal : (vs : List Value) → AreWords vs → AllMatch R vs vs
  all_equal [] h = tt
  all_equal (v ∷ vs) h = ((refl, h.0), all_equal vs h.1)

  same_if : (o o' : Option (List Value)) → o ≡ o' → AllTaken o → MatchIf R o o'
  same_if o o' e h = subst (λ v. MatchIf R o v) e (itself o h)
    where
      itself : (o : Option (List Value)) → AllTaken o → MatchIf R o o
      itself None h = tt
      itself (Some vs) h = all_equal vs h

  abbrev with_set : (ℕ → Option (List Value)) → NameBytes → ℕ → List ℕ → Holding → Holding
  with_set words name n sizes h = record { share = h.share; memory = set_blocks words h.memory name n 0 sizes }

  set_equal : (words : ℕ → Option (List Value)) (f : F) (g : G) → made f g → (n m : ℕ) → n ≡ m → (h k : Holding) →
      h ≡ k → with_set words (target.name f) n (target.blocks f) h ≡ with_set words (source.name g) m (source.blocks g)
      k
  set_equal words f g m n n' e h k e' =
      ap (λ v. with_set words v n (target.blocks f) h) (names f g m)
      ∙ ap (λ v. with_set words (source.name g) n v h) (blocks f g m)
      ∙ ap (λ v. with_set words (source.name g) v (source.blocks g) h) e
      ∙ ap (λ v. with_set words (source.name g) n' (source.blocks g) v) e'

  pub words_keep : Keeps R
  words_keep = record {
    names = names;
    numbers = λ w word. (refl, word);
    is_frame =
        record { at_once = λ n h k. tt; then_later = λ n h k h' k' h'' k'' l m. tt; fewer = λ m n h k h' k' le l. tt };
    is_match = record {
      first = record { past = refl; holding = refl; share = tt; memory = λ home vs e. absurd (cc e) };
      matches = λ p q h k a. record { past = a.past; share = ap (λ (v : Holding). v.share) a.holding; words = a.share };
      begun = λ p q h k a. ap (λ (v : Past). v.begun) a.past;
      shares = λ p q h k a. a.share;
    };
    steps = record {
      locks = λ m a lock words g. record {
        match_memory =
            record {
              past = a.past;
              share = ap (λ (v : Share). with_lock v lock words) a.share;
              words =
                  self_with_lock SameWord m.s_holding.share a.words lock words
                  (guarded_self SameWord (λ w word. (refl, word)) setting.edge lock words g);
            };
        frame = tt;
      };
      unlocks =
          λ m a lock. record {
            match_memory = record {
              past = a.past;
              share = ap (λ (v : Share). without_lock v lock) a.share;
              words =
                  self_without_lock SameWord m.s_holding.share a.words lock;
            };
            frame = tt;
          };
      begins = λ f g m p q h k a. record {
        match_memory =
            record {
              past = ap (λ v. one_begun target v) a.past;
              share = ap (λ (v : Holding). v.share) a.holding;
              words =
                  a.share;
            };
        frame = tt;
      };
      ends = λ m made a. record {
        settled = record {
          past = a.past;
          holding = set_equal gone m.t_function m.s_function made m.serial m.serial refl m.t_holding m.s_holding
              a.holding;
          share = a.share;
          memory = set_words gone (λ size. tt) m.s_holding.memory a.memory (source.name m.s_function) m.serial 0
              (source.blocks m.s_function);
        };
        frame = tt;
      };
    };
    crossings = record {
      shows = λ p q h k a vs ws s e.
          let past : p ≡ q = a.past in
          subst (λ (v : Past). can_cross setting.layout v vs ≡ true) (sym past)
          (subst (λ us. can_cross setting.layout q us ≡ true) (sym (to_equal vs ws s)) e);
      crosses = λ p q h k a vs ws s names ns e.
          let past : p ≡ q = a.past in
          let holding : h ≡ k = a.holding in (
            ns,
            ap (λ us. named_as setting.layout us p h names) (to_equal vs ws s)
                ∙ ap (λ v. named_as setting.layout ws v h names) past
                ∙ ap (λ v. named_as setting.layout ws q v names) holding ∙ e,
            record { past = ap (λ v. with_naming v ns) past; holding = holding; share = a.share; memory = a.memory },
          );
      receives = λ n p q h k a types crossing brings typed.
          let past : p ≡ q = a.past in
          let holding : h ≡ k = a.holding in (
            record {
              past = ap (λ (v : Past). with_naming v (brought_in R v h crossing).naming) past
                  ∙ ap (λ (v : Holding). with_naming q (brought_in R q v crossing).naming) holding;
              holding = ap (λ (v : Past). received R v h crossing) past ∙ ap (λ v. received R q v crossing) holding;
              share = share_brought setting.edge crossing.share brings.share;
              memory = memory_brought crossing.objects
                  (brought_words (objects_of k.memory q.naming) crossing.objects brings.objects)
                  k.memory a.memory q.naming 0;
            },
            tt,
            same_if (all_taken (brought_in R p h crossing).naming crossing.values)
                (all_taken (brought_in R q k crossing).naming crossing.values)
                (ap (λ (v : Past). all_taken (brought_in R v h crossing).naming crossing.values) past
                ∙ ap (λ (v : Holding). all_taken (brought_in R q v crossing).naming crossing.values) holding)
                (all_taken_words crossing.objects (brought_in R p h crossing).naming types crossing.values typed),
          );
    };
  }

  -- memories that are equal, and words, stay so where activations begin, if blocks begin alike
  pub words_begin : target.first_word ≡ source.first_word → IsWord source.first_word → (f : F) (g : G) → made f g →
      (n : ℕ) (t s : Memory) → EqualMemories t s →
      EqualMemories (with_blocks_of target f n t) (with_blocks_of source g n s)
  words_begin first_words first_is f g m n t s e =
      let first = ap (λ v. with_set (fresh v) (target.name f) n (target.blocks f) (record { share = []; memory = t }))
      first_words in
      let both = set_equal (fresh source.first_word) f g m n n refl (record { share = []; memory = t })
      (record { share = []; memory = s }) (ap (λ (v : Memory). record { share = []; memory = v }) e.0) in (
        ap (λ (v : Holding). v.memory) (first ∙ both),
        set_words (fresh source.first_word)
            (fresh_words source.first_word first_is) s e.1 (source.name g) n 0 (source.blocks g),
      )

-- what threads hold matches by the shares alone, and is settled where memories are equal and words
pub words_hold : {F A G B : Type 0} (target : Activations F A) (source : Activations G B) (setting : Setting)
    (ts : List F) (ss : List G) (made : F → G → Type 0) (match : F → G → ℕ → Position A → Position B → Type 0)
    (match_states : Activation F G → A → Memory → B → Memory → Type 0) →
    HoldsBy (keeps_values target source setting ts ss (word_matches made match)) (in_words match_states)
words_hold target source setting ts ss made match match_states = record {
  words = λ p q h k a. a.words;
  again = λ p q h k h' k' a share words. record { past = a.past; share = share; words = words };
  settles =
      λ p q h k a memory. record {
        past = a.past;
        holding = ap (λ v. record { share = v; memory = h.memory }) a.share
            ∙ ap (λ (v : Memory). record { share = k.share; memory = v }) memory.0;
        share = a.words;
        memory = memory.1;
      };
  memories = λ p q h k a. (ap (λ (v : Holding). v.memory) a.holding, a.memory);
  frame = λ n h k h' k' tk sk. tt;
  frames = λ n h k h' k' l. (tt, tt);
  conditions = (
    record { itself = λ n m. tt; then = λ n m m' m'' a b. tt },
    record
        { itself = λ n m. tt; then = λ n m m' m'' a b. tt },
  );
}

-- A pass that may use that numbers are words, by what it names and shows.
module _ {F A G B : Type 0} (p : Worded F A G B) (is : IsWorded p) where
  names_of_made : (setting : Setting) (ts : List F) (ss : List G) (f : F) (g : G) →
      MadeOf (worded p) setting ts ss f g → p.target.name f ≡ p.source.name g
  names_of_made setting ts ss f g m = let at = m.is_made in is.names at.decls f g at.is_made

  blocks_of_made : (setting : Setting) (ts : List F) (ss : List G) (f : F) (g : G) →
      MadeOf (worded p) setting ts ss f g → p.target.blocks f ≡ p.source.blocks g
  blocks_of_made setting ts ss f g m = let at = m.is_made in is.blocks at.decls f g at.is_made

  so_from : (edge : Edge) (ts : List F) (ss : List G) → AllMade (MadeAt edge p.made) ts ss →
      AllMade (MadeSo p.made) ts ss
  so_from edge [] [] h = tt
  so_from edge [] (g ∷ gs) h = absurd h
  so_from edge (f ∷ fs) [] h = absurd h
  so_from edge (f ∷ fs) (g ∷ gs) h = let at = h.0 in ((at.decls, at.is_made), so_from edge fs gs h.1)

  pub worded_is : IsMatching (worded p)
  worded_is = record {
    names = is.names;
    laid_out_too = λ ts ss all layout laid name f e.
        let there = found_of p.target p.source (MadeSo p.made) (λ f g so. is.names so.0 f g so.1) ts ss all name f e in
        let so = there.2 in
        subst (λ bs. AreLaidOut bs 0 (layout name)) (sym (is.blocks so.0 f there.0 so.1)) (laid name there.0 there.1);
    passes = λ setting decls ts ss run.
        let made = MadeOf (worded p) setting ts ss in
        let R0 = bare p setting ts ss made in
        let w = places p setting ts ss in
        let keeps = words_keep p.target p.source setting ts ss made (Midway R0 w) (names_of_made setting ts ss)
        (blocks_of_made setting ts ss) in
        record {
          keeps = keeps;
          pays = record { prices = is.prices; waits = is.waits ts ss (so_from setting.edge ts ss run.all) };
          passes = held_passes R0 w (words_hold p.target p.source setting ts ss made (λ f g n x y. Unit {0})
              (p.match_states setting ts ss)) (λ x. step_least p.target.tariff ts x is.prices)
              (is.steps setting decls ts ss run) keeps run.edge_is;
        };
  }

-- loads and stores in memories that are equal, and have words
pub memory_words : MemoryKeeps SameWord (λ n m. n ≡ m) (λ t s. (t ≡ s) × HasWords s)
memory_words = record {
  loads = λ t s a home home' at at' p w g.
      let old = memory_equal.loads t s a.0 home home' at at' p.0 w g in (
        old.0,
        old.1,
        (old.2, subst IsWord (sym old.2) (loaded (s home') (block_of (s home') (λ vs e. a.1 home' vs e)) at' w g)),
      );
  stores = λ t s a home home' at at' p v w same ws g less.
      let old = memory_equal.stores t s a.0 home home' at at' p.0 v w same.0 ws g less in
      record {
        block = old.block;
        there = old.there;
        within = old.within;
        after = (
          old.after,
          with_words s a.1 home' (Some (slice_set ws at' w))
              (words_set ws (a.1 home' ws g) at' w (subst IsWord same.0 same.1)),
        );
      };
  lengths = λ t s a home home' at at' p. memory_equal.lengths t s a.0 home home' at at' p.0;
}
  where
    loaded : (o : Option (List Value)) → BlockWords o → (at : ℕ) (w : Value) → value_in o at ≡ Some w → IsWord w
    loaded None h at w e = absurd (cc e)
    loaded (Some vs) h at w e = words_get vs h at w e
