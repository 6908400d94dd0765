-- Where the block's words are laid out, and where the variables of each function lie in it.
use Rattle.std.proofs.Common.{◌≡◌, ℕ, zero, suc, ◌+◌, ◌≤◌, Bool, List, [], ◌∷◌, ◌⊎◌, Option, Some, None, slice_get, refl, sym, ap, ◌∙◌, subst, arith}
use Rattle.cas_runs.specs.Label.{NameBytes}
use Rattle.cas_runs.specs.Naming.{Part, Layout, ArePlaced, part_by}
use Rattle.cas_runs.specs.Unit.{Setting, AreLaidOut, IsLayout}
use Rattle.cas_runs.specs.Calls.{language, one_block}
use Rattle.cas_runs.specs.Passing.{AllMade, MadeSo, MadeOf}
use Rattle.cas_runs.specs.Placing.{Spot, moved_part, IsPlacing, moved_blocks}
use Rattle.cas_runs.proofs.Found.{found_named, found_of}
use Rattle.cas_mid.specs.declared.tree.CsharpFun.{CsharpFun}
use Rattle.cas_mid.specs.declared.tree.CminorFun.{CminorFun}
use Rattle.cas_mid.specs.Trees.{Expression, Target, Routine}
use Rattle.cas_mid.specs.Code.{csharp_routine}
use Rattle.cas_mid.specs.Csharpminor.{csharpminor}
use Rattle.cas_mid.specs.Cminor.{cminor}
use Rattle.cas_cminorgen.specs.Makes.{Place, in_block, in_temporary, statement_takes, plan_of}
use Rattle.cas_cminorgen.specs.Match.{ArePositive, IsMade, places_of, spot_of, places_in, sizes_in, function_at, placing, or_none, sizes, joined_parts, only_first, joined, cminorgen}
use Rattle.cas_cminorgen.proofs.Plans.{Plans, planned, in_block_is, lie_apart, joined_placed, parts_go}

-- the plan of a function
abbrev pub taken_in : CsharpFun → ℕ → Bool
taken_in g v = statement_takes v (csharp_routine g).body

abbrev pub words_of : CsharpFun → ℕ
words_of g = (plan_of (csharp_routine g)).words

abbrev pub temporaries_of : CsharpFun → ℕ
temporaries_of g = (plan_of (csharp_routine g)).temporaries

pub plan_is : (g : CsharpFun) →
    Plans (taken_in g) 0 0 g.temps g.vars (places_of g) (words_of g) (temporaries_of g)
plan_is g = planned (taken_in g) 0 0 g.temps g.vars

-- The layout.

nothing_placed : (ps : List Part) → ArePlaced 0 0 ps → ps ≡ []
nothing_placed [] h = refl
nothing_placed (p ∷ ps) h = let least = h.1 in let end = h.2 in absurd (omega (arith, least, end))

one_laid : (n : ℕ) (ps : List Part) → ArePlaced 0 n ps → AreLaidOut (one_block n) 0 (only_first ps)
one_laid zero ps h = λ j le. by j
  where
    by : (j : ℕ) → only_first ps j ≡ []
    by zero = nothing_placed ps h
    by (suc j) = refl
one_laid (suc n) ps h = (h, λ j le. by j le)
  where
    by : (j : ℕ) → 1 ≤ j → only_first ps j ≡ []
    by zero le = absurd (omega (arith, le))
    by (suc j) le = refl

made_name : (f : CminorFun) (g : CsharpFun) → MadeSo IsMade f g → cminor.name f ≡ csharpminor.name g
made_name f g m = ap (λ (r : Routine Expression Target Expression). r.name) m.1.routine

pub joined_laid_out : (ts : List CminorFun) (ss : List CsharpFun) → AllMade (MadeSo IsMade) ts ss → (layout : Layout) →
    IsLayout (language csharpminor) ss layout → IsLayout (language cminor) ts (joined ss layout)
joined_laid_out ts ss h layout l name f e =
    let there = found_of cminor csharpminor (MadeSo IsMade) made_name ts ss h name f e in
    let g = there.0 in
    let blocks : one_block f.block ≡ one_block (words_of g) =
    ap (λ (r : Routine Expression Target Expression). r.blocks) there.2.1.routine in
    let placed = joined_placed (plan_is g) (layout name) (l name g there.1) in
    subst (λ bs. AreLaidOut bs 0 (joined ss layout name)) (sym blocks)
    (subst (λ o. AreLaidOut (one_block (words_of g)) 0 (only_first (joined_parts (layout name) 0 (places_in o))))
    (sym there.1) (one_laid (words_of g) (joined_parts (layout name) 0 (places_of g)) placed))

-- Where variables lie.

pub record IsPlaced (ss : List CsharpFun) (name : NameBytes) (v : ℕ) (to : Spot) : Type 0 where
  pub g : CsharpFun
  pub is_found : function_at ss name ≡ Some g
  pub place : slice_get (places_of g) v ≡ Some (in_block to.offset)
  pub first : to.block ≡ 0

pub placed_as : (ss : List CsharpFun) (name : NameBytes) (v : ℕ) (to : Spot) → placing ss name v ≡ Some to →
    IsPlaced ss name v to
placed_as ss name v to e = by (function_at ss name) refl e
  where
    at : (g : CsharpFun) → function_at ss name ≡ Some g → (o : Option Place) → slice_get (places_of g) v ≡ o →
        spot_of o ≡ Some to → IsPlaced ss name v to
    at g i None j k = absurd (cc k)
    at g i (Some (in_temporary u)) j k = absurd (cc k)
    at g i (Some (in_block o)) j k =
        let same : record { block = 0; offset = o } ≡ to = cc k in
        record {
          g = g;
          is_found = i;
          place = j ∙ ap (λ (s : Spot). Some (in_block s.offset)) same;
          first = sym (ap (λ (s : Spot). s.block) same);
        }

    by : (o : Option CsharpFun) → function_at ss name ≡ o → spot_of (slice_get (places_in o) v) ≡ Some to →
        IsPlaced ss name v to
    by None i k = absurd (cc k)
    by (Some g) i k = at g i (slice_get (places_of g) v) refl k

pub placed_by : (ss : List CsharpFun) (name : NameBytes) (g : CsharpFun) → function_at ss name ≡ Some g →
    (v : ℕ) (o : Option Place) → slice_get (places_of g) v ≡ o → placing ss name v ≡ spot_of o
placed_by ss name g i v o e = ap (λ f. spot_of (slice_get (places_in f) v)) i ∙ ap spot_of e

pub sized : (ss : List CsharpFun) (name : NameBytes) (g : CsharpFun) → function_at ss name ≡ Some g → (v : ℕ) →
    sizes ss name v ≡ or_none (slice_get g.vars v)
sized ss name g i v = ap (λ f. or_none (slice_get (sizes_in f) v)) i

positive_at : (ns : List ℕ) → ArePositive ns → (i n : ℕ) → slice_get ns i ≡ Some n → 1 ≤ n
positive_at [] h i n e = absurd (cc e)
positive_at (m ∷ ns) h zero n e = let same : m ≡ n = cc e in subst (λ k. 1 ≤ k) same h.0
positive_at (m ∷ ns) h (suc i) n e = positive_at ns h.1 i n e

one_there : (n : ℕ) → 1 ≤ n → slice_get (one_block n) 0 ≡ Some n
one_there zero le = absurd (omega (arith, le))
one_there (suc n) le = refl

module _ (setting : Setting) (ts : List CminorFun) (ss : List CsharpFun) where
  abbrev Made : CminorFun → CsharpFun → Type 0
  Made = MadeOf (moved_blocks cminorgen) setting ts ss

  -- the function is found at its name
  pub source_at : (f : CminorFun) (g : CsharpFun) → Made f g → function_at ss (csharpminor.name g) ≡ Some g
  source_at f g m =
      let named = found_named csharpminor.name ss m.name g m.source_found in
      subst (λ n. function_at ss n ≡ Some g) (sym named) m.source_found

  abbrev Room : CminorFun → CsharpFun → ℕ → Spot → Type 0
  Room f g v s = (size total : ℕ) × (slice_get (csharpminor.blocks g) v ≡ Some size)
      × (slice_get (cminor.blocks f) s.block ≡ Some total) × (s.offset + size ≤ total)

  has_room : (f : CminorFun) (g : CsharpFun) → Made f g → (v : ℕ) (s : Spot) →
      placing ss (csharpminor.name g) v ≡ Some s → Room f g v s
  has_room f g m v s e =
      let p = placed_as ss (csharpminor.name g) v s e in
      let here = source_at f g m in
      let found : Some p.g ≡ Some g = sym p.is_found ∙ here in
      let same : p.g ≡ g = cc found in
      let place = subst (λ h. slice_get (places_of h) v ≡ Some (in_block s.offset)) same p.place in
      let stretch = in_block_is (taken_in g) (plan_is g) v s.offset place in
      let is = m.is_made.is_made in
      let least = positive_at g.vars is.variables.sizes v stretch.size stretch.there in
      let most = stretch.to in
      let blocks : one_block f.block ≡ one_block (words_of g) =
      ap (λ (r : Routine Expression Target Expression). r.blocks) is.routine in
      let there : slice_get (one_block (words_of g)) 0 ≡ Some (words_of g) =
      one_there (words_of g) (omega (arith, least, most)) in (
        stretch.size,
        words_of g,
        stretch.there,
        ap (λ bs. slice_get bs s.block) blocks ∙ ap (λ b. slice_get (one_block (words_of g)) b) p.first ∙ there,
        most,
      )

  are_apart : (name : NameBytes) (b c : ℕ) (s t : Spot) → placing ss name b ≡ Some s → placing ss name c ≡ Some t →
      (b ≡ c) ⊎ (s.offset + sizes ss name b ≤ t.offset) ⊎ (t.offset + sizes ss name c ≤ s.offset)
  are_apart name b c s t e d =
      let p = placed_as ss name b s e in
      let q = placed_as ss name c t d in
      let found : Some q.g ≡ Some p.g = sym q.is_found ∙ p.is_found in
      let same : q.g ≡ p.g = cc found in
      let place = subst (λ h. slice_get (places_of h) c ≡ Some (in_block t.offset)) same q.place in
      subst (λ m. (b ≡ c) ⊎ (s.offset + m ≤ t.offset) ⊎ (t.offset + sizes ss name c ≤ s.offset))
      (sym (sized ss name p.g p.is_found b))
      (subst (λ m. (b ≡ c) ⊎ (s.offset + or_none (slice_get p.g.vars b) ≤ t.offset) ⊎ (t.offset + m ≤ s.offset))
      (sym (sized ss name p.g p.is_found c))
      (lie_apart (taken_in p.g) (plan_is p.g) b c s.offset t.offset p.place place))

  abbrev Go : NameBytes → ℕ → Spot → (at pl : ℕ) → Part → Type 0
  Go name v s at pl q =
      (part_by (joined ss setting.layout name s.block) (s.offset + at) pl ≡ Some (moved_part s.offset q))
      × (1 ≤ q.size) × (q.from + q.size ≤ sizes ss name v)

  objects_go : IsLayout (language csharpminor) ss setting.layout → (name : NameBytes) (v : ℕ) (s : Spot) →
      placing ss name v ≡ Some s → (at pl : ℕ) (q : Part) → part_by (setting.layout name v) at pl ≡ Some q →
      Go name v s at pl q
  objects_go l name v s e at pl q is =
      let p = placed_as ss name v s e in
      let here : part_by (setting.layout name (0 + v)) at pl ≡ Some q =
      subst (λ k. part_by (setting.layout name k) at pl ≡ Some q) (let k : v ≡ 0 + v = omega arith in k) is in
      let go = parts_go (plan_is p.g) (setting.layout name) (l name p.g p.is_found) v s.offset p.place at pl q here in
      let there : part_by (only_first (joined_parts (setting.layout name) 0 (places_of p.g)) 0) (s.offset + at) pl
      ≡ Some (moved_part s.offset q) = go.there in (
        ap (λ b. part_by (joined ss setting.layout name b) (s.offset + at) pl) p.first
            ∙ ap (λ o. part_by (joined_parts (setting.layout name) 0 (places_in o)) (s.offset + at) pl) p.is_found
            ∙ there,
        go.least,
        subst (λ m. q.from + q.size ≤ m) (sym (sized ss name p.g p.is_found v)) go.end,
      )

  pub is_placing : IsLayout (language csharpminor) ss setting.layout → IsPlacing cminor csharpminor Made
      (record { place = placing ss; sizes = sizes ss }) (joined ss setting.layout) setting.layout
  is_placing l = record {
    names = λ f g m. ap (λ (r : Routine Expression Target Expression). r.name) m.is_made.is_made.routine;
    known = λ f g m v size e.
        sym (sized ss (csharpminor.name g) g (source_at f g m) v ∙ ap or_none e);
    room = has_room;
    apart = λ name b c s t e d same. are_apart name b c s t e d;
    parts = objects_go l;
  }
