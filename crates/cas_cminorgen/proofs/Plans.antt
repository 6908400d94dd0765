-- Where a plan puts the variables: they don't overlap, and their objects go with them.
use Rattle.std.proofs.Common.{◌≡◌, ℕ, zero, suc, ◌+◌, ◌<◌, ◌≤◌, List, [], ◌∷◌, ◌++◌, ◌⊎◌, Some, Bool, true, false, ◌&&◌, ◌||◌, not, if◌then◌else◌, length, slice_get, nat_eq, nat_le, inl, inr, refl, sym, ap, ◌∙◌, subst, arith, eqb-true, ⊎_elim}
use Rattle.std.proofs.lemmas.Bool.Decides.{nat_tests}
use Rattle.cas_runs.specs.Naming.{Part, ArePlaced, is_place, part_by}
use Rattle.cas_runs.specs.Bounds.{total}
use Rattle.cas_runs.specs.Unit.{AreLaidOut}
use Rattle.cas_runs.specs.Placing.{moved_part}
use Rattle.cas_runs.proofs.Tests.{and_both}
use Rattle.cas_cminorgen.specs.Makes.{Place, in_block, in_temporary, Plan, with_place, plan_from}
use Rattle.cas_cminorgen.specs.Match.{IsInBlock, IsSomewhere, or_none, moved_parts, joined_parts}

-- these are the places of variables of these sizes, from the v-th on, where n words and t temporaries come before, with
-- the words and temporaries after them
pub data Plans (taken : ℕ → Bool) : (v n t : ℕ) → List ℕ → List Place → (words temporaries : ℕ) → Type 0 where
  no_variables : {v n t : ℕ} → Plans taken v n t [] [] n t
  stays :
      {v n t size w m : ℕ} {sizes : List ℕ} {ps : List Place}
      → Plans taken (v + 1) (n + size) t sizes ps w m
      → Plans taken v n t (size ∷ sizes) (in_block n ∷ ps) w m
  moves :
      {v n t w m : ℕ} {sizes : List ℕ} {ps : List Place}
      → taken v ≡ false
      → Plans taken (v + 1) n (t + 1) sizes ps w m
      → Plans taken v n t (1 ∷ sizes) (in_temporary t ∷ ps) w m

module _ (taken : ℕ → Bool) where
  abbrev IsPlan : (v n t : ℕ) → List ℕ → Plan → Type 0
  IsPlan v n t sizes plan = Plans taken v n t sizes plan.places plan.words plan.temporaries

  pub planned : (v n t : ℕ) (sizes : List ℕ) → IsPlan v n t sizes (plan_from taken v n t sizes)
  planned v n t [] = no_variables
  planned v n t (size ∷ sizes) =
      by (taken v) (nat_eq size 1) refl refl (planned (v + 1) (n + size) t sizes) (planned (v + 1) n (t + 1) sizes)
    where
      by : (b c : Bool) → taken v ≡ b → nat_eq size 1 ≡ c →
          IsPlan (v + 1) (n + size) t sizes (plan_from taken (v + 1) (n + size) t sizes) →
          IsPlan (v + 1) n (t + 1) sizes (plan_from taken (v + 1) n (t + 1) sizes) →
          IsPlan v n t (size ∷ sizes) (if b || not c then with_place (in_block n) (plan_from taken (v + 1) (n + size) t sizes)
          else with_place (in_temporary t) (plan_from taken (v + 1) n (t + 1) sizes))
      by true c i j one other = stays one
      by false false i j one other = stays one
      by false true i j one other =
          subst (λ (k : ℕ). IsPlan v n t (k ∷ sizes)
          (with_place (in_temporary t) (plan_from taken (v + 1) n (t + 1) sizes)))
          (sym (eqb-true size 1 j)) (moves i other)

  pub grows : {v n t w m : ℕ} {sizes : List ℕ} {ps : List Place} → Plans taken v n t sizes ps w m → (n ≤ w) × (t ≤ m)
  grows no_variables = (omega arith, omega arith)
  grows (stays h) = let rest = grows h in let less = rest.0 in (omega (arith, less), rest.1)
  grows (moves i h) = let rest = grows h in let less = rest.1 in (rest.0, omega (arith, less))

  -- as many words and temporaries as the variables have words
  pub counted : {v n t w m : ℕ} {sizes : List ℕ} {ps : List Place} → Plans taken v n t sizes ps w m →
      w + m ≡ n + t + total sizes
  counted no_variables = omega arith
  counted (stays h) = let rest = counted h in omega (arith, rest)
  counted (moves i h) = let rest = counted h in omega (arith, rest)

  pub few_temporaries : {v n t w m : ℕ} {sizes : List ℕ} {ps : List Place} → Plans taken v n t sizes ps w m →
      m ≤ t + length sizes
  few_temporaries no_variables = omega arith
  few_temporaries (stays h) = let rest = few_temporaries h in omega (arith, rest)
  few_temporaries (moves i h) = let rest = few_temporaries h in omega (arith, rest)

  pub somewhere : {v n t w m : ℕ} {sizes : List ℕ} {ps : List Place} → Plans taken v n t sizes ps w m → (i : ℕ) →
      i < length sizes → IsSomewhere ps i
  somewhere no_variables i less = absurd (omega (arith, less))
  somewhere (stays {n = n} h) zero less = (in_block n, refl)
  somewhere (stays h) (suc i) less = somewhere h i (omega (arith, less))
  somewhere (moves {t = t} j h) zero less = (in_temporary t, refl)
  somewhere (moves j h) (suc i) less = somewhere h i (omega (arith, less))

  pub taken_stays : {v n t w m : ℕ} {sizes : List ℕ} {ps : List Place} → Plans taken v n t sizes ps w m → (i : ℕ) →
      i < length sizes → taken (v + i) ≡ true → IsInBlock ps i
  taken_stays no_variables i less is = absurd (omega (arith, less))
  taken_stays (stays {n = n} h) zero less is = (n, refl)
  taken_stays (stays {v = v} h) (suc i) less is = taken_stays h i (omega (arith, less))
      (subst (λ k. taken k ≡ true) (let same : v + suc i ≡ v + 1 + i = omega arith in same) is)
  taken_stays (moves {v = v} j h) zero less is =
      let no : taken (v + 0) ≡ false = subst (λ k. taken k ≡ false) (let same : v ≡ v + 0 = omega arith in same) j in
      absurd (cc (no, is))
  taken_stays (moves {v = v} j h) (suc i) less is = taken_stays h i (omega (arith, less))
      (subst (λ k. taken k ≡ true) (let same : v + suc i ≡ v + 1 + i = omega arith in same) is)

  -- a variable in the block lies within it
  pub record Stretch (n w : ℕ) (sizes : List ℕ) (i o : ℕ) : Type 0 where
    pub size : ℕ
    pub there : slice_get sizes i ≡ Some size
    pub from : n ≤ o
    pub to : o + size ≤ w

  pub in_block_is : {v n t w m : ℕ} {sizes : List ℕ} {ps : List Place} → Plans taken v n t sizes ps w m → (i o : ℕ) →
      slice_get ps i ≡ Some (in_block o) → Stretch n w sizes i o
  in_block_is no_variables i o e = absurd (cc e)
  in_block_is (stays {n = n} {size = size} {w = w} {sizes = sizes} h) zero o e =
      let same : n ≡ o = cc e in
      let more = (grows h).0 in
      record { size = size; there = refl; from = omega (arith, same); to = omega (arith, same, more) }
  in_block_is (stays h) (suc i) o e =
      let rest = in_block_is h i o e in
      let least = rest.from in
      record { size = rest.size; there = rest.there; from = omega (arith, least); to = rest.to }
  in_block_is (moves j h) zero o e = absurd (cc e)
  in_block_is (moves j h) (suc i) o e =
      let rest = in_block_is h i o e in
      record { size = rest.size; there = rest.there; from = rest.from; to = rest.to }

  -- a variable that is a temporary has one word
  pub record Single (t m : ℕ) (sizes : List ℕ) (i u : ℕ) : Type 0 where
    pub there : slice_get sizes i ≡ Some 1
    pub from : t ≤ u
    pub to : u < m

  pub in_temporary_is : {v n t w m : ℕ} {sizes : List ℕ} {ps : List Place} → Plans taken v n t sizes ps w m →
      (i u : ℕ) → slice_get ps i ≡ Some (in_temporary u) → Single t m sizes i u
  in_temporary_is no_variables i u e = absurd (cc e)
  in_temporary_is (stays h) zero u e = absurd (cc e)
  in_temporary_is (stays h) (suc i) u e =
      let rest = in_temporary_is h i u e in record { there = rest.there; from = rest.from; to = rest.to }
  in_temporary_is (moves {t = t} j h) zero u e =
      let same : t ≡ u = cc e in
      let more = (grows h).1 in
      record { there = refl; from = omega (arith, same); to = omega (arith, same, more) }
  in_temporary_is (moves j h) (suc i) u e =
      let rest = in_temporary_is h i u e in
      let least = rest.from in
      record { there = rest.there; from = omega (arith, least); to = rest.to }

  -- no two are one temporary
  pub one_temporary : {v n t w m : ℕ} {sizes : List ℕ} {ps : List Place} → Plans taken v n t sizes ps w m →
      (i j u : ℕ) → slice_get ps i ≡ Some (in_temporary u) → slice_get ps j ≡ Some (in_temporary u) → i ≡ j
  one_temporary no_variables i j u e d = absurd (cc e)
  one_temporary (stays h) zero j u e d = absurd (cc e)
  one_temporary (stays h) (suc i) zero u e d = absurd (cc d)
  one_temporary (stays h) (suc i) (suc j) u e d = ap suc (one_temporary h i j u e d)
  one_temporary (moves k h) zero zero u e d = refl
  one_temporary (moves {t = t} k h) zero (suc j) u e d =
      let same : t ≡ u = cc e in
      let least = (in_temporary_is h j u d).from in
      absurd (omega (arith, same, least))
  one_temporary (moves {t = t} k h) (suc i) zero u e d =
      let same : t ≡ u = cc d in
      let least = (in_temporary_is h i u e).from in
      absurd (omega (arith, same, least))
  one_temporary (moves k h) (suc i) (suc j) u e d = ap suc (one_temporary h i j u e d)

  -- those in the block lie apart
  pub lie_apart : {v n t w m : ℕ} {sizes : List ℕ} {ps : List Place} → Plans taken v n t sizes ps w m →
      (i j o q : ℕ) → slice_get ps i ≡ Some (in_block o) → slice_get ps j ≡ Some (in_block q) →
      (i ≡ j) ⊎ (o + or_none (slice_get sizes i) ≤ q) ⊎ (q + or_none (slice_get sizes j) ≤ o)
  lie_apart no_variables i j o q e d = absurd (cc e)
  lie_apart (stays h) zero zero o q e d = inl refl
  lie_apart (stays {n = n} h) zero (suc j) o q e d =
      let same : n ≡ o = cc e in
      let least = (in_block_is h j q d).from in
      inr (inl (omega (arith, same, least)))
  lie_apart (stays {n = n} h) (suc i) zero o q e d =
      let same : n ≡ q = cc d in
      let least = (in_block_is h i o e).from in
      inr (inr (omega (arith, same, least)))
  lie_apart (stays h) (suc i) (suc j) o q e d =
      ⊎_elim (λ same. inl (ap suc same)) (λ other. inr other) (lie_apart h i j o q e d)
  lie_apart (moves k h) zero j o q e d = absurd (cc e)
  lie_apart (moves k h) (suc i) zero o q e d = absurd (cc d)
  lie_apart (moves k h) (suc i) (suc j) o q e d =
      ⊎_elim (λ same. inl (ap suc same)) (λ other. inr other) (lie_apart h i j o q e d)

-- The objects of variables go with them.

placed_earlier : (a b w : ℕ) (ps : List Part) → a ≤ b → ArePlaced b w ps → ArePlaced a w ps
placed_earlier a b w [] le h = tt
placed_earlier a b w (p ∷ ps) le h = let from = h.0 in (omega (arith, le, from), h.1, h.2, h.3)

-- the objects of one variable, and then others
placed_more : (a c n size w : ℕ) (ps qs : List Part) → ArePlaced c size ps → a ≤ n + c → c ≤ size → n + size ≤ w →
    ArePlaced (n + size) w qs → ArePlaced a w (moved_parts n ps ++ qs)
placed_more a c n size w [] qs h le less most more = placed_earlier a (n + size) w qs (omega (arith, le, less)) more
placed_more a c n size w (p ∷ ps) qs h le less most more =
    let from = h.0 in
    let end = h.2 in (
      omega (arith, le, from),
      h.1,
      omega (arith, end, most),
      placed_more (n + p.from + p.size) (p.from + p.size) n size w ps qs h.3 (omega arith) end most more,
    )

pub joined_placed : {taken : ℕ → Bool} {v n t w m : ℕ} {sizes : List ℕ} {ps : List Place} →
    Plans taken v n t sizes ps w m → (parts : ℕ → List Part) → AreLaidOut sizes v parts →
    ArePlaced n w (joined_parts parts v ps)
joined_placed no_variables parts l = tt
joined_placed {taken = taken} (stays {v = v} {n = n} {size = size} {w = w} h) parts l =
    let more = (grows taken h).0 in
    placed_more n 0 n size w (parts v) _ l.0 (omega arith) (omega arith) (omega (arith, more)) (joined_placed h parts l.1)
joined_placed (moves {v = v} i h) parts l = joined_placed h parts l.1

place_shifted : (o : ℕ) (p : Part) (at pl : ℕ) → is_place (moved_part o p) (o + at) pl ≡ is_place p at pl
place_shifted o p at pl = let same : nat_eq (o + at) (o + p.from + pl) ≡ nat_eq at (p.from + pl) =
    grind (arith, nat_tests) in ap (λ (t : Bool). t && nat_le pl p.size) same

part_shifted : (o : ℕ) (ps : List Part) (at pl : ℕ) (p : Part) → part_by ps at pl ≡ Some p →
    part_by (moved_parts o ps) (o + at) pl ≡ Some (moved_part o p)
part_shifted o [] at pl p e = absurd (cc e)
part_shifted o (q ∷ ps) at pl p e =
    ap (λ (t : Bool). if t then Some (moved_part o q) else part_by (moved_parts o ps) (o + at) pl)
    (place_shifted o q at pl) ∙ by (is_place q at pl) (λ h. part_shifted o ps at pl p h) e
  where
    by : (t : Bool) → (part_by ps at pl ≡ Some p → part_by (moved_parts o ps) (o + at) pl ≡ Some (moved_part o p)) →
        (if t then Some q else part_by ps at pl) ≡ Some p →
        (if t then Some (moved_part o q) else part_by (moved_parts o ps) (o + at) pl) ≡ Some (moved_part o p)
    by true more h = let same : q ≡ p = cc h in ap (λ v. Some (moved_part o v)) same
    by false more h = more h

part_front : (ps qs : List Part) (at pl : ℕ) (p : Part) → part_by ps at pl ≡ Some p → part_by (ps ++ qs) at pl ≡ Some p
part_front [] qs at pl p e = absurd (cc e)
part_front (q ∷ ps) qs at pl p e = by (is_place q at pl) (λ h. part_front ps qs at pl p h) e
  where
    by : (t : Bool) → (part_by ps at pl ≡ Some p → part_by (ps ++ qs) at pl ≡ Some p) →
        (if t then Some q else part_by ps at pl) ≡ Some p → (if t then Some q else part_by (ps ++ qs) at pl) ≡ Some p
    by true more h = h
    by false more h = more h

-- what lies past the objects of a variable is in none of them
part_back : (n size a : ℕ) (ps qs : List Part) → ArePlaced a size ps → (x pl : ℕ) → n + size + pl ≤ x →
    part_by (moved_parts n ps ++ qs) x pl ≡ part_by qs x pl
part_back n size a [] qs h x pl le = refl
part_back n size a (p ∷ ps) qs h x pl le =
    let least = h.1 in
    let end = h.2 in
    let no : nat_eq x (n + p.from + pl) ≡ false = grind (arith, nat_tests, least, end, le) in
    ap (λ (t : Bool). if t && nat_le pl p.size then Some (moved_part n p) else part_by (moved_parts n ps ++ qs) x pl) no
    ∙ part_back n size (p.from + p.size) ps qs h.3 x pl le

pub record IsPartOf (m : ℕ) (p : Part) (at pl : ℕ) : Type 0 where
  pub least : 1 ≤ p.size
  pub end : p.from + p.size ≤ m
  pub is : at ≡ p.from + pl

part_within : (a m : ℕ) (ps : List Part) → ArePlaced a m ps → (at pl : ℕ) (p : Part) → part_by ps at pl ≡ Some p →
    IsPartOf m p at pl
part_within a m [] h at pl p e = absurd (cc e)
part_within a m (q ∷ ps) h at pl p e = by (is_place q at pl) refl
    (λ g. part_within (q.from + q.size) m ps h.3 at pl p g) e
  where
    by : (t : Bool) → is_place q at pl ≡ t → (part_by ps at pl ≡ Some p → IsPartOf m p at pl) →
        (if t then Some q else part_by ps at pl) ≡ Some p → IsPartOf m p at pl
    by true i more g =
        let same : q ≡ p = cc g in
        let both = and_both (nat_eq at (q.from + pl)) (nat_le pl q.size) i in
        subst (λ v. IsPartOf m v at pl) same
        (record { least = h.1; end = h.2; is = eqb-true at (q.from + pl) both.0 })
    by false i more g = more g

pub record Goes (parts : List Part) (size o at pl : ℕ) (q : Part) : Type 0 where
  pub there : part_by parts (o + at) pl ≡ Some (moved_part o q)
  pub least : 1 ≤ q.size
  pub end : q.from + q.size ≤ size

pub parts_go : {taken : ℕ → Bool} {v n t w m : ℕ} {sizes : List ℕ} {ps : List Place} →
    Plans taken v n t sizes ps w m → (parts : ℕ → List Part) → AreLaidOut sizes v parts → (i o : ℕ) →
    slice_get ps i ≡ Some (in_block o) → (at pl : ℕ) (q : Part) → part_by (parts (v + i)) at pl ≡ Some q →
    Goes (joined_parts parts v ps) (or_none (slice_get sizes i)) o at pl q
parts_go no_variables parts l i o e at pl q is = absurd (cc e)
parts_go (stays {v = v} {n = n} {size = size} {ps = ps} h) parts l zero o e at pl q is =
    let same : n ≡ o = cc e in
    let here : part_by (parts v) at pl ≡ Some q =
    subst (λ k. part_by (parts k) at pl ≡ Some q) (let k : v + 0 ≡ v = omega arith in k) is in
    let inside = part_within 0 size (parts v) l.0 at pl q here in
    subst (λ k. Goes (moved_parts n (parts v) ++ joined_parts parts (v + 1) ps) size k at pl q) same
    (record {
      there = part_front (moved_parts n (parts v)) (joined_parts parts (v + 1) ps) (n + at) pl (moved_part n q)
          (part_shifted n (parts v) at pl q here);
      least = inside.least;
      end = inside.end;
    })
parts_go {taken = taken} (stays {v = v} {n = n} {size = size} {sizes = sizes} {ps = ps} h) parts l (suc i) o e at pl q is =
    let here : part_by (parts (v + 1 + i)) at pl ≡ Some q =
    subst (λ k. part_by (parts k) at pl ≡ Some q) (let k : v + suc i ≡ v + 1 + i = omega arith in k) is in
    let rest = parts_go h parts l.1 i o e at pl q here in
    let from = (in_block_is taken h i o e).from in
    let place = at_least (parts (v + 1 + i)) at pl q here in
    record {
      there = part_back n size 0 (parts v) (joined_parts parts (v + 1) ps) l.0 (o + at) pl (omega (arith, from, place))
          ∙ rest.there;
      least = rest.least;
      end = rest.end;
    }
  where
    at_least : (ps : List Part) (at pl : ℕ) (p : Part) → part_by ps at pl ≡ Some p → pl ≤ at
    at_least [] at pl p e = absurd (cc e)
    at_least (x ∷ ps) at pl p e = by (is_place x at pl) refl (λ g. at_least ps at pl p g) e
      where
        by : (t : Bool) → is_place x at pl ≡ t → (part_by ps at pl ≡ Some p → pl ≤ at) →
            (if t then Some x else part_by ps at pl) ≡ Some p → pl ≤ at
        by true i more g =
            let both = and_both (nat_eq at (x.from + pl)) (nat_le pl x.size) i in
            let is = eqb-true at (x.from + pl) both.0 in omega (arith, is)
        by false i more g = more g
parts_go (moves {v = v} j h) parts l zero o e at pl q is = absurd (cc e)
parts_go (moves {v = v} j h) parts l (suc i) o e at pl q is =
    let here : part_by (parts (v + 1 + i)) at pl ≡ Some q =
    subst (λ k. part_by (parts k) at pl ≡ Some q) (let k : v + suc i ≡ v + 1 + i = omega arith in k) is in
    let rest = parts_go h parts l.1 i o e at pl q here in
    record { there = rest.there; least = rest.least; end = rest.end }
