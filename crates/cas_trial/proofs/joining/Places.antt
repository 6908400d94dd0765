-- Where the variables lie: the objects go with their blocks, and blocks don't overlap.
use Rattle.std.proofs.Common.{◌≡◌, ℕ, zero, suc, ◌+◌, ◌≤◌, List, [], ◌∷◌, ◌++◌, ◌⊎◌, Some, None, Bool, true, false, ◌&&◌, if◌then◌else◌, slice_get, nat_eq, nat_le, inl, inr, refl, sym, ap, ◌∙◌, subst, arith, eqb-true}
use Rattle.std.proofs.lemmas.Bool.Decides.{nat_tests}
use Rattle.cas_runs.specs.Label.{NameBytes, same_name}
use Rattle.cas_runs.specs.Naming.{Part, Layout, ArePlaced, is_place, part_by}
use Rattle.cas_runs.specs.Unit.{Setting, AreLaidOut, IsLayout}
use Rattle.cas_runs.specs.Calls.{language}
use Rattle.cas_runs.specs.Passing.{AllMade, MadeSo, MadeOf}
use Rattle.cas_runs.specs.Placing.{Spot, moved_part, IsPlacing, moved_blocks}
use Rattle.cas_runs.proofs.Found.{found_named, found_of}
use Rattle.cas_runs.proofs.Tests.{and_both, same_name_from}
use Rattle.cas_trial.specs.declared.joining.Apart.{Apart}
use Rattle.cas_trial.specs.declared.joining.Joined.{Joined}
use Rattle.cas_trial.specs.Stages.{main_name, apart, joined}
use Rattle.cas_trial.specs.Joining.Match.{spot_of, places, moved_parts, joined_parts, joins, one_word, joining}

-- The layout.

moved_placed : (a c k m : ℕ) (ps : List Part) → a ≤ m + c → ArePlaced c k ps → ArePlaced a (m + k) (moved_parts m ps)
moved_placed a c k m [] le h = tt
moved_placed a c k m (p ∷ ps) le h =
    let from = h.0 in
    let end = h.2 in (
      omega (arith, le, from),
      h.1,
      omega (arith, end),
      moved_placed (m + p.from + p.size) (p.from + p.size) k m ps
          (omega arith) h.3,
    )

both_placed : (a k m : ℕ) (ps qs : List Part) → a ≤ m → ArePlaced a m ps → ArePlaced 0 k qs →
    ArePlaced a (m + k) (moved_parts 0 ps ++ moved_parts m qs)
both_placed a k m [] qs le h e = moved_placed a 0 k m qs (omega (arith, le)) e
both_placed a k m (p ∷ ps) qs le h e =
    let from = h.0 in
    let end = h.2 in (
      omega (arith, from),
      h.1,
      omega (arith, end),
      subst (λ n. ArePlaced n (m + k) (moved_parts 0 ps ++ moved_parts m qs))
          (let same : p.from + p.size ≡ 0 + p.from + p.size = omega arith in same)
          (both_placed (p.from + p.size) k m ps qs end h.3 e),
    )

past_joined : (parts : ℕ → List Part) (j : ℕ) → 1 ≤ j → joined_parts parts j ≡ []
past_joined parts zero le = absurd (omega (arith, le))
past_joined parts (suc j) le = refl

main_laid_out : (layout : Layout) → AreLaidOut (1 ∷ 1 ∷ []) 0 (layout main_name) →
    AreLaidOut (2 ∷ []) 0 (joins layout main_name)
main_laid_out layout parts = (
  both_placed 0 1 1 (layout main_name 0) (layout main_name 1) (omega arith) parts.0 parts.1.0,
  past_joined
      (layout main_name),
)

pub joins_laid_out : (ts : List Joined) (ss : List Apart) → AllMade (MadeSo joining.made) ts ss → (layout : Layout) →
    IsLayout (language apart) ss layout → IsLayout (language joined) ts (joins layout)
joins_laid_out ts ss h layout l name f e =
    let there = found_of joined apart (MadeSo joining.made) (λ f g m. refl) ts ss h name f e in
    let named : main_name ≡ name = found_named joined.name ts name f e in
    subst (λ n. AreLaidOut (1 ∷ 1 ∷ []) 0 (layout n) → AreLaidOut (2 ∷ []) 0 (joins layout n)) named
    (main_laid_out layout) (l name there.0 there.1)

-- The objects of a block go with it.

place_shifted : (o : ℕ) (p : Part) (at pl : ℕ) → is_place (moved_part o p) (o + at) pl ≡ is_place p at pl
place_shifted o p at pl = let same : nat_eq (o + at) (o + p.from + pl) ≡ nat_eq at (p.from + pl) =
    grind (arith, nat_tests) in ap (λ (t : Bool). t && nat_le pl p.size) same

part_shifted : (o : ℕ) (ps : List Part) (at pl : ℕ) (p : Part) → part_by ps at pl ≡ Some p →
    part_by (moved_parts o ps) (o + at) pl ≡ Some (moved_part o p)
part_shifted o [] at pl p e = absurd (cc e)
part_shifted o (q ∷ ps) at pl p e =
    ap (λ (t : Bool). if t then Some (moved_part o q) else part_by (moved_parts o ps) (o + at) pl)
    (place_shifted o q at pl) ∙ by (is_place q at pl) (λ h. part_shifted o ps at pl p h) e
  where
    by : (t : Bool) → (part_by ps at pl ≡ Some p → part_by (moved_parts o ps) (o + at) pl ≡ Some (moved_part o p)) →
        (if t then Some q else part_by ps at pl) ≡ Some p →
        (if t then Some (moved_part o q) else part_by (moved_parts o ps) (o + at) pl) ≡ Some (moved_part o p)
    by true more h = let same : q ≡ p = cc h in ap (λ v. Some (moved_part o v)) same
    by false more h = more h

part_front : (ps qs : List Part) (at pl : ℕ) (p : Part) → part_by ps at pl ≡ Some p → part_by (ps ++ qs) at pl ≡ Some p
part_front [] qs at pl p e = absurd (cc e)
part_front (q ∷ ps) qs at pl p e = by (is_place q at pl) (λ h. part_front ps qs at pl p h) e
  where
    by : (t : Bool) → (part_by ps at pl ≡ Some p → part_by (ps ++ qs) at pl ≡ Some p) →
        (if t then Some q else part_by ps at pl) ≡ Some p → (if t then Some q else part_by (ps ++ qs) at pl) ≡ Some p
    by true more h = h
    by false more h = more h

part_back : (ps qs : List Part) (at pl : ℕ) → part_by ps at pl ≡ None → part_by (ps ++ qs) at pl ≡ part_by qs at pl
part_back [] qs at pl e = refl
part_back (q ∷ ps) qs at pl e = by (is_place q at pl) (λ h. part_back ps qs at pl h) e
  where
    by : (t : Bool) → (part_by ps at pl ≡ None → part_by (ps ++ qs) at pl ≡ part_by qs at pl) →
        (if t then Some q else part_by ps at pl) ≡ None →
        (if t then Some q else part_by (ps ++ qs) at pl) ≡ part_by qs at pl
    by true more h = absurd (cc h)
    by false more h = more h

record IsWithin (a m : ℕ) (p : Part) (at pl : ℕ) : Type 0 where
  from : a ≤ p.from
  least : 1 ≤ p.size
  end : p.from + p.size ≤ m
  is : is_place p at pl ≡ true

part_within : (a m : ℕ) (ps : List Part) → ArePlaced a m ps → (at pl : ℕ) (p : Part) → part_by ps at pl ≡ Some p →
    IsWithin a m p at pl
part_within a m [] h at pl p e = absurd (cc e)
part_within a m (q ∷ ps) h at pl p e = by (is_place q at pl) refl
    (λ g. part_within (q.from + q.size) m ps h.3 at pl p g) e
  where
    by : (t : Bool) → is_place q at pl ≡ t → (part_by ps at pl ≡ Some p → IsWithin (q.from + q.size) m p at pl) →
        (if t then Some q else part_by ps at pl) ≡ Some p → IsWithin a m p at pl
    by true i more g = let same : q ≡ p = cc g in subst (λ v. IsWithin a m v at pl) same
        (record { from = h.0; least = h.1; end = h.2; is = i })
    by false i more g =
        let w = more g in
        let first = h.0 in
        let later = w.from in
        record { from = omega (arith, first, later); least = w.least; end = w.end; is = w.is }

-- the place in the second variable is none in the first
none_first : (a : ℕ) (ps : List Part) → ArePlaced a 1 ps → (at pl : ℕ) → pl ≡ at →
    part_by (moved_parts 0 ps) (1 + at) pl ≡ None
none_first a [] h at pl e = refl
none_first a (q ∷ ps) h at pl e =
    let least = h.1 in
    let end = h.2 in
    let not : nat_eq (1 + at) (0 + q.from + pl) ≡ false = grind (arith, nat_tests, least, end, e) in
    ap (λ (t : Bool). if t && nat_le pl q.size then Some (moved_part 0 q) else part_by (moved_parts 0 ps) (1 + at) pl)
    not ∙ none_first (q.from + q.size) ps h.3 at pl e

-- the variables of a program that runs
data Spots : ℕ → Spot → Type 0 where
  first : Spots 0 (record { block = 0; offset = 0 })
  second : Spots 1 (record { block = 0; offset = 1 })

spots : (block : ℕ) (to : Spot) → spot_of block ≡ Some to → Spots block to
spots zero to e = subst (λ v. Spots 0 v) (let same : record { block = 0; offset = 0 } ≡ to = cc e in same) first
spots (suc zero) to e = subst (λ v. Spots 1 v) (let same : record { block = 0; offset = 1 } ≡ to = cc e in same) second
spots (suc (suc block)) to e = absurd (cc e)

record Placed (ss : List Apart) (function : NameBytes) (block : ℕ) (to : Spot) : Type 0 where
  is_main : function ≡ main_name
  spot : Spots block to
  some : Apart
  others : List Apart
  runs : ss ≡ some ∷ others

placed_as : (ss : List Apart) (function : NameBytes) (block : ℕ) (to : Spot) → places ss function block ≡ Some to →
    Placed ss function block to
placed_as [] function block to e = absurd (cc e)
placed_as (f ∷ fs) function block to e = by (same_name function main_name) refl e
  where
    by : (t : Bool) → same_name function main_name ≡ t → (if t then spot_of block else None) ≡ Some to →
        Placed (f ∷ fs) function block to
    by true i g =
        record {
          is_main = same_name_from function main_name i;
          spot = spots block to g;
          some = f;
          others = fs;
          runs =
              refl;
        }
    by false i g = absurd (cc g)

abbrev PartsGo : Layout → ℕ → Spot → Type 0
PartsGo layout block to = (at pl : ℕ) (p : Part) → part_by (layout main_name block) at pl ≡ Some p →
    (part_by (joined_parts (layout main_name) to.block) (to.offset + at) pl ≡ Some (moved_part to.offset p))
    × (1 ≤ p.size) × (p.from + p.size ≤ 1)

parts_go : (layout : Layout) → ArePlaced 0 1 (layout main_name 0) → ArePlaced 0 1 (layout main_name 1) →
    (block : ℕ) (to : Spot) → Spots block to → PartsGo layout block to
parts_go layout h k block to first at pl p e =
    let w = part_within 0 1 (layout main_name 0) h at pl p e in (
      part_front (moved_parts 0 (layout main_name 0)) (moved_parts 1 (layout main_name 1)) (0 + at) pl (moved_part 0 p)
          (part_shifted 0 (layout main_name 0) at pl p e),
      w.least,
      w.end,
    )
parts_go layout h k block to second at pl p e =
    let w = part_within 0 1 (layout main_name 1) k at pl p e in
    let least = w.least in
    let end = w.end in
    let both = and_both (nat_eq at (p.from + pl)) (nat_le pl p.size) w.is in
    let there = eqb-true at (p.from + pl) both.0 in
    let same : pl ≡ at = omega (arith, there, least, end) in (
      part_back (moved_parts 0 (layout main_name 0)) (moved_parts 1 (layout main_name 1)) (1 + at) pl
          (none_first 0 (layout main_name 0) h at pl same) ∙ part_shifted 1 (layout main_name 1) at pl p e,
      least,
      end,
    )

one_size : (block size : ℕ) → slice_get (1 ∷ 1 ∷ []) block ≡ Some size → size ≡ 1
one_size zero size e = sym (let same : 1 ≡ size = cc e in same)
one_size (suc zero) size e = sym (let same : 1 ≡ size = cc e in same)
one_size (suc (suc block)) size e = absurd (cc e)

room_of : (block : ℕ) (to : Spot) → Spots block to → (size total : ℕ) × (slice_get (1 ∷ 1 ∷ []) block ≡ Some size)
    × (slice_get (2 ∷ []) to.block ≡ Some total) × (to.offset + size ≤ total)
room_of block to first = (1, 2, refl, refl, omega arith)
room_of block to second = (1, 2, refl, refl, omega arith)

spots_apart : (b c : ℕ) (s t : Spot) → Spots b s → Spots c t → (b ≡ c) ⊎ (s.offset + 1 ≤ t.offset)
    ⊎ (t.offset + 1 ≤ s.offset)
spots_apart b c s t first first = inl refl
spots_apart b c s t first second = inr (inl (omega arith))
spots_apart b c s t second first = inr (inr (omega arith))
spots_apart b c s t second second = inl refl

-- a program that runs is laid out
laid_main : (layout : Layout) (f : Apart) (fs : List Apart) → IsLayout (language apart) (f ∷ fs) layout →
    (block : ℕ) (to : Spot) → Spots block to → PartsGo layout block to
laid_main layout f fs l block to s = let parts = l main_name f refl in parts_go layout parts.0 parts.1.0 block to s

main_parts : (layout : Layout) (block : ℕ) (to : Spot) → PartsGo layout block to → (function : NameBytes) →
    function ≡ main_name → (at pl : ℕ) (p : Part) → part_by (layout function block) at pl ≡ Some p →
    (part_by (joins layout function to.block) (to.offset + at) pl ≡ Some (moved_part to.offset p)) × (1 ≤ p.size)
    × (p.from + p.size ≤ 1)
main_parts layout block to go function e at pl p h =
    subst (λ (v : NameBytes). part_by (layout v block) at pl ≡ Some p →
    (part_by (joins layout v to.block) (to.offset + at) pl ≡ Some (moved_part to.offset p)) × (1 ≤ p.size)
    × (p.from + p.size ≤ 1)) (sym e) (go at pl p) h

pub joins_place : (setting : Setting) (ts : List Joined) (ss : List Apart) →
    IsLayout (language apart) ss setting.layout → IsPlacing joined apart (MadeOf (moved_blocks joining) setting ts ss)
    (record { place = places ss; sizes = one_word }) (joins setting.layout) setting.layout
joins_place setting ts ss l = record {
  names = λ f g m. refl;
  known = λ f g m block size e. one_size block size e;
  room = λ f g m block to e. let p = placed_as ss main_name block to e in room_of block to p.spot;
  apart = λ function b c s t e d same. let p = placed_as ss function b s e in let q =
      placed_as ss function c t d in spots_apart b c s t p.spot q.spot;
  parts = λ function block to e at pl part h.
      let p = placed_as ss function block to e in
      let laid : IsLayout (language apart) (p.some ∷ p.others) setting.layout =
      subst (λ v. IsLayout (language apart) v setting.layout) p.runs l in
      main_parts setting.layout block to (laid_main setting.layout p.some p.others laid block to p.spot)
      function p.is_main at pl part h;
}
