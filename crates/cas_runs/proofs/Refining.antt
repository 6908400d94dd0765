-- A simulation gives refinement.
use Rattle.std.proofs.Common.{◌≡◌, ℕ, List, [], ◌∷◌, ◌++◌, ◌⊎◌, Option, Some, None, inl, inr, refl, sym, ap, ◌∙◌, subst, ⊎_elim, arith}
use Rattle.cas_runs.specs.Label.{NameBytes, Share, Crossing, RunLabel, Lock, crossing_label}
use Rattle.cas_runs.specs.Edge.{Edge}
use Rattle.cas_runs.specs.Outside.{IsAmong, first, later}
use Rattle.cas_runs.specs.Machine.{Act, Quiet, Emits, Crosses, Locks, Receives, Bad, Stops, Ended, Taken, Full, Names, Machine, label_of, crossing_by, StepsTo, IsBad, Block, begun, onward, Run, starts, quiet, labelled}
use Rattle.cas_runs.specs.Refines.{Within, EachWithin, none, more, Reached, Reaches, Comes, HasRun, BadBefore, Fine, Kept, Answered, Refines}
use Rattle.cas_runs.specs.Simulation.{Quietly, here, step, fails, GoesWrong, Follows, After, Meets, Answers, Simulates, RunsMatch}

pub among_front : (w : ℕ) (xs ys : List ℕ) → IsAmong w xs → IsAmong w (xs ++ ys)
among_front w xs ys first = first
among_front w xs ys (later {ls = rest} h) = later (among_front w rest ys h)

-- the source's block may grow
pub within_more : {S : Type 0} (s : Machine S) (y : S) (b c : Block) → Within b c → Within b (onward s c y)
within_more s y b c h = record {
  price = omega (arith, h.price);
  writes = λ w a. among_front w c.writes (s.footprint y).writes (h.writes w a);
  reads = λ w a. ⊎_elim (λ r. inl (among_front w c.reads (s.footprint y).reads r))
      (λ r. inr (among_front w c.writes (s.footprint y).writes r)) (h.reads w a);
}

abbrev pub IsQuiet : {S : Type 0} → Act S → Type 0
IsQuiet (Quiet n) = Unit {0}
IsQuiet _ = ⊥

-- Quiet steps.

module _ {S : Type 0} (act : S → Act S) (on : Block → S → Block) where
  -- what holds where quiet steps lead holds so too
  pub quietly_also : {P Q : S → Block → Type 0} {y : S} {c : Block} → Quietly act on P y c →
      ((z : S) (d : Block) → P z d → Q z d) → Quietly act on Q y c
  quietly_also (here {y = y} {c = c} h) go = here (go y c h)
  quietly_also (step y' e q) go = step y' e (quietly_also q go)
  quietly_also (fails e) go = fails e

  -- and quiet steps go on from there
  pub quietly_then : {P Q : S → Block → Type 0} {y : S} {c : Block} → Quietly act on P y c →
      ((z : S) (d : Block) → P z d → Quietly act on Q z d) → Quietly act on Q y c
  quietly_then (here {y = y} {c = c} h) go = go y c h
  quietly_then (step y' e q) go = step y' e (quietly_then q go)
  quietly_then (fails e) go = fails e

module _ {S : Type 0} (edge : Edge) (s : Machine S) where
  pub bad_here : (ls : List RunLabel) (y : Reached S) → Reaches edge s ls y → IsBad (s.act y.at) → BadBefore edge s ls
  bad_here ls y r b = record { since = []; before = ls; prefix = refl; bad = record { to = y; run = r; there = b } }

  -- a run goes on quietly, or reaches a Bad step
  pub run_quietly : (ls : List RunLabel) (cs : List Block) (P : S → Block → Type 0) {y : S} {c : Block} →
      Run edge s ls cs c y → Quietly s.act (onward s) P y c → BadBefore edge s ls
      ⊎ ((z : S) × (d : Block) × Run edge s ls cs d z × P z d)
  run_quietly ls cs P r (here {y = y} {c = c} h) = inr (y, c, r, h)
  run_quietly ls cs P r (step y' e q) = run_quietly ls cs P (quiet y' r e) q
  run_quietly ls cs P r (fails {y = y} {c = c} b) = inl (bad_here ls (record { blocks = cs; block = c; at = y }) r b)

  -- the same, where a block of the target is within the source's
  pub run_within : (ls : List RunLabel) (cs : List Block) (b : Block) (P : S → Block → Type 0) {y : S} {c : Block} →
      Run edge s ls cs c y → Within b c → Quietly s.act (onward s) P y c → BadBefore edge s ls
      ⊎ ((z : S) × (d : Block) × Run edge s ls cs d z × Within b d × P z d)
  run_within ls cs b P r w (here {y = y} {c = c} h) = inr (y, c, r, w, h)
  run_within ls cs b P r w (step {c = c} y' e q) = run_within ls cs b P (quiet y' r e) (within_more s y' b c w) q
  run_within ls cs b P r w (fails {y = y} {c = c} e) = inl (bad_here ls (record { blocks = cs; block = c; at = y }) r e)

  -- a run that reaches a Bad step by quiet steps
  pub bad_before : (ls : List RunLabel) (cs : List Block) {y : S} {c : Block} → Run edge s ls cs c y → GoesWrong s y c →
      BadBefore edge s ls
  bad_before ls cs r (here h) = absurd h
  bad_before ls cs r (step y' e q) = bad_before ls cs (quiet y' r e) q
  bad_before ls cs r (fails {y = y} {c = c} b) = bad_here ls (record { blocks = cs; block = c; at = y }) r b

  -- the labels go on
  pub bad_longer : (l : RunLabel) (ls : List RunLabel) → BadBefore edge s ls → BadBefore edge s (l ∷ ls)
  bad_longer l ls b = record { since = l ∷ b.since; before = b.before; prefix = ap (λ k. l ∷ k) b.prefix; bad = b.bad }

  pub has_of : {ls : List RunLabel} {bs : List Block} {b : Block} {x : S} → Run edge s ls bs b x → HasRun edge s ls
  has_of {bs = bs} {b = b} {x = x} r = record { to = record { blocks = bs; block = b; at = x }; run = r; there = tt }

  -- the run as it was before its last label, with the step that has it
  pub record Before (l : RunLabel) (ls : List RunLabel) : Type 0 where
    pub from : Reached S
    pub run : Reaches edge s ls from
    pub to : S
    pub leads : StepsTo edge ls (s.act from.at) l to

  pub before_label : (l : RunLabel) (ls : List RunLabel) {k : List RunLabel} {cs : List Block} {c : Block} {y : S} →
      Run edge s k cs c y → k ≡ l ∷ ls → Before l ls
  before_label l ls starts e = absurd (cc e)
  before_label l ls (quiet y' r q) e = before_label l ls r e
  before_label l ls (labelled {ls = old} {bs = bs} {b = b} {x = x} l' y' r q) e =
      let same : l' ≡ l = cc e in
      let rest : old ≡ ls = cc e in
      record {
        from = record { blocks = bs; block = b; at = x };
        run = subst (λ v. Run edge s v bs b x) rest r;
        to =
            y';
        leads = subst (λ v. StepsTo edge ls (s.act x) v y') same
            (subst (λ v. StepsTo edge v (s.act x) l' y') rest q);
      }

  pub has_before : (l : RunLabel) (ls : List RunLabel) → HasRun edge s (l ∷ ls) → HasRun edge s ls
  has_before l ls h = let b = before_label l ls h.run refl in record { to = b.from; run = b.run; there = tt }

  -- a shorter run
  pub has_shorter : (since before ls : List RunLabel) → ls ≡ since ++ before → HasRun edge s ls → HasRun edge s before
  has_shorter [] before ls e h = subst (λ v. HasRun edge s v) e h
  has_shorter (l ∷ since) before ls e h = has_shorter since before (since ++ before) refl
      (has_before l (since ++ before) (subst (λ v. HasRun edge s v) e h))

-- Each label leads to one state, so the labels of a run determine where its block began.

-- a crossing's label tells its names
pub one_names : (f g : Option NameBytes) (share other : Share) (n m : Names) →
    crossing_by f share n ≡ crossing_by g other m → (f ≡ g) × (share ≡ other) × (n ≡ m)
one_names f g share other n m e = by f g e
  where
    crossing : Share → Names → Crossing
    crossing sh ns = record { values = ns.values; share = sh; objects = ns.objects }

    names_of : Crossing → Names
    names_of c = record { values = c.values; objects = c.objects }

    parts : crossing share n ≡ crossing other m → (share ≡ other) × (n ≡ m)
    parts c = (ap (λ (v : Crossing). v.share) c, ap names_of c)

    by : (f g : Option NameBytes) → crossing_label f (crossing share n) ≡ crossing_label g (crossing other m) → (f ≡ g)
        × (share ≡ other) × (n ≡ m)
    by None None c = let p = parts (cc c) in (refl, p.0, p.1)
    by (Some a) (Some b) c = let p = parts (cc c) in let same : a ≡ b = cc c in (ap (λ v. Some v) same, p.0, p.1)
    by None (Some b) c = absurd (cc c)
    by (Some a) None c = absurd (cc c)

pub leads_to_one : {S : Type 0} (edge : Edge) (ls : List RunLabel) (a : Act S) (l : RunLabel) (y z : S) →
    StepsTo edge ls a l y → StepsTo edge ls a l z → y ≡ z
leads_to_one edge ls (Emits m n) l y z h k = sym h.1 ∙ k.1
leads_to_one {S = S} edge ls (Crosses f share next) l y z h k =
    let same = one_names f f share share h.0 k.0 (h.1 ∙ sym k.1) in
    let e : next k.0 ≡ Some y = subst (λ v. next v ≡ Some y) same.2 h.2 in
    let g : next k.0 ≡ Some z = k.2 in
    cc (e, g)
leads_to_one edge ls (Locks lock next) l y z h k =
    let same : h.0 ≡ k.0 = cc (h.1, k.1) in
    sym h.3 ∙ ap next same ∙ k.3
leads_to_one edge ls (Receives next) l y z h k = sym h.1 ∙ k.1
leads_to_one edge ls (Quiet n) l y z h k = absurd h
leads_to_one edge ls Bad l y z h k = absurd h
leads_to_one edge ls (Stops w) l y z h k = absurd h

pub leads_not_quiet : {S : Type 0} (edge : Edge) (ls : List RunLabel) (a : Act S) (l : RunLabel) (y : S) →
    StepsTo edge ls a l y → IsQuiet a → ⊥
leads_not_quiet edge ls (Quiet n) l y h k = h
leads_not_quiet edge ls (Emits m n) l y h k = k
leads_not_quiet edge ls (Crosses f share next) l y h k = k
leads_not_quiet edge ls (Locks lock next) l y h k = k
leads_not_quiet edge ls (Receives next) l y h k = k
leads_not_quiet edge ls Bad l y h k = k
leads_not_quiet edge ls (Stops w) l y h k = k

module _ {S : Type 0} (edge : Edge) (s : Machine S) where
  data Star : S → S → Type 0 where
    none_made : {y : S} → Star y y
    on : {x y : S} (z : S) → s.act x ≡ Quiet z → Star z y → Star x y

  -- the state at which the block after these labels began
  data Origin : List RunLabel → S → Type 0 where
    at_start : Origin [] s.start
    after : {ls : List RunLabel} (l : RunLabel) (x y z : S) → Origin ls x → Star x y → StepsTo edge ls (s.act y) l z →
        Origin (l ∷ ls) z

  one_more : (x y z : S) → Star x y → s.act y ≡ Quiet z → Star x z
  one_more x y z none_made e = on z e none_made
  one_more x y z (on x' q h) e = on x' q (one_more x' y z h e)

  quiet_is : (y z : S) → s.act y ≡ Quiet z → IsQuiet (s.act y)
  quiet_is y z e = subst IsQuiet (sym e) tt

  -- quiet steps end at one state
  one_end : (x y z : S) → Star x y → (IsQuiet (s.act y) → ⊥) → Star x z → (IsQuiet (s.act z) → ⊥) → y ≡ z
  one_end x y z none_made n none_made m = refl
  one_end x y z none_made n (on z' e k) m = absurd (n (quiet_is x z' e))
  one_end x y z (on y' e h) n none_made m = absurd (m (quiet_is x y' e))
  one_end x y z (on y' e h) n (on z' f k) m =
      let same : y' ≡ z' = cc (e, f) in
      one_end y' y z h n (subst (λ v. Star v z) (sym same) k) m

  record From (ls : List RunLabel) (y : S) : Type 0 where
    origin : S
    is : Origin ls origin
    quietly : Star origin y

  from_of : {ls : List RunLabel} {cs : List Block} {c : Block} {y : S} → Run edge s ls cs c y → From ls y
  from_of starts = record { origin = s.start; is = at_start; quietly = none_made }
  from_of (quiet {x = x} y r e) = let f = from_of r in
      record { origin = f.origin; is = f.is; quietly = one_more f.origin x y f.quietly e }
  from_of (labelled {x = x} l y r e) = let f = from_of r in
      record { origin = y; is = after l f.origin x y f.is f.quietly e; quietly = none_made }

  one_origin : (ls : List RunLabel) (x : S) → Origin ls x → (k : List RunLabel) (y : S) → Origin k y → ls ≡ k → x ≡ y
  one_origin ls x at_start k y at_start e = refl
  one_origin ls x at_start k y (after l a b c o q h) e = absurd (cc e)
  one_origin ls x (after l a b c o q h) k y at_start e = absurd (cc e)
  one_origin ls x (after {ls = old} l a b c o q h) k y (after {ls = old'} l' a' b' c' o' q' h') e =
      let rest : old ≡ old' = cc e in
      let same : l ≡ l' = cc e in
      let begins : a ≡ a' = one_origin old a o old' a' o' rest in
      let ends : b ≡ b' = one_end a b b' q (leads_not_quiet edge old (s.act b) l x h)
      (subst (λ v. Star v b') (sym begins) q') (leads_not_quiet edge old' (s.act b') l' y h') in
      leads_to_one edge old (s.act b) l x y h (subst (λ v. StepsTo edge old (s.act v) l y) (sym ends)
      (subst (λ v. StepsTo edge v (s.act b') l y) (sym rest)
      (subst (λ v. StepsTo edge old' (s.act b') v y) (sym same) h')))

  -- two runs with the same labels that are at steps with labels are at the same state
  pub one_state : {ls : List RunLabel} {bs cs : List Block} {b c : Block} {x y : S} → Run edge s ls bs b x →
      Run edge s ls cs c y → (IsQuiet (s.act x) → ⊥) → (IsQuiet (s.act y) → ⊥) → x ≡ y
  one_state {ls = ls} {x = x} {y = y} r k n m =
      let f = from_of r in
      let g = from_of k in
      let same : f.origin ≡ g.origin = one_origin ls f.origin f.is ls g.origin g.is refl in
      one_end f.origin x y f.quietly n (subst (λ v. Star v y) (sym same) g.quietly) m

  -- what the run's labels lead to is what the state at a step that isn't quiet leads to
  pub leads_there : (l : RunLabel) (ls : List RunLabel) (before : Before edge s l ls)
      {cs : List Block} {c : Block} {y : S} → Run edge s ls cs c y → (IsQuiet (s.act y) → ⊥) →
      StepsTo edge ls (s.act y) l before.to
  leads_there l ls before {y = y} r n =
      let same = one_state before.run r (leads_not_quiet edge ls (s.act before.from.at) l before.to before.leads) n in
      subst (λ v. StepsTo edge ls (s.act v) l before.to) same before.leads

pub bad_or_fine : {T : Type 0} (a : Act T) → IsBad a ⊎ (IsBad a → ⊥)
bad_or_fine Bad = inl tt
bad_or_fine (Quiet n) = inr (λ h. h)
bad_or_fine (Emits l n) = inr (λ h. h)
bad_or_fine (Crosses f share n) = inr (λ h. h)
bad_or_fine (Locks k n) = inr (λ h. h)
bad_or_fine (Receives n) = inr (λ h. h)
bad_or_fine (Stops w) = inr (λ h. h)

-- The law.

module _ {T S : Type 0} (edge : Edge) (t : Machine T) (s : Machine S)
    (match_states : List RunLabel → T → Block → S → Block → Type 0) where
  -- a Bad step of the source answers each act
  pub answers_bad : (ls : List RunLabel) (a : Act T) (b : Block) (y : S) (c : Block) → IsBad (s.act y) →
      Answers edge t s match_states ls a b y c
  answers_bad ls (Quiet x) b y c e = fails e
  answers_bad ls (Emits event x) b y c e = fails e
  answers_bad ls (Crosses f share next) b y c e = fails e
  answers_bad ls (Locks lock next) b y c e = fails e
  answers_bad ls (Receives next) b y c e = fails e
  answers_bad ls Bad b y c e = fails e
  answers_bad ls (Stops why) b y c e = fails e

  -- and a quiet step of the source comes before any answer
  pub answers_quiet : (ls : List RunLabel) (a : Act T) (b : Block) (y y' : S) (c : Block) → s.act y ≡ Quiet y' →
      Answers edge t s match_states ls a b y' (onward s c y') → Answers edge t s match_states ls a b y c
  answers_quiet ls (Quiet x) b y y' c e h = step y' e h
  answers_quiet ls (Emits event x) b y y' c e h = step y' e h
  answers_quiet ls (Crosses f share next) b y y' c e h = step y' e h
  answers_quiet ls (Locks lock next) b y y' c e h = step y' e h
  answers_quiet ls (Receives next) b y y' c e h = step y' e h
  answers_quiet ls Bad b y y' c e h = step y' e h
  answers_quiet ls (Stops why) b y y' c e h = step y' e h

  pub answers_wrong : (ls : List RunLabel) (a : Act T) (b : Block) {y : S} {c : Block} → GoesWrong s y c →
      Answers edge t s match_states ls a b y c
  answers_wrong ls a b (here h) = absurd h
  answers_wrong ls a b (step {y = y} {c = c} y' e q) = answers_quiet ls a b y y' c e (answers_wrong ls a b q)
  answers_wrong ls a b (fails {y = y} {c = c} e) = answers_bad ls a b y c e

  -- what the source does where the target's act isn't quiet
  abbrev MeetsSoon : List RunLabel → Act T → S → Block → Type 0
  MeetsSoon ls a y c = Quietly s.act (onward s) (λ y' c'. Meets edge t s match_states ls a (s.act y')) y c

  meets_soon : (ls : List RunLabel) (a : Act T) (b : Block) (y : S) (c : Block) →
      Answers edge t s match_states ls a b y c → (IsQuiet a → ⊥) → MeetsSoon ls a y c
  meets_soon ls (Quiet x) b y c h n = absurd (n tt)
  meets_soon ls (Emits event x) b y c h n = h
  meets_soon ls (Crosses f share next) b y c h n = h
  meets_soon ls (Locks lock next) b y c h n = h
  meets_soon ls (Receives next) b y c h n = h
  meets_soon ls Bad b y c h n = h
  meets_soon ls (Stops why) b y c h n = h

  follows_quiet : (ls : List RunLabel) (a : Act T) (x' : T) (b : Block) (y : S) (c : Block) →
      Answers edge t s match_states ls a b y c → a ≡ Quiet x' → Follows edge t s match_states ls x' (onward t b x') y c
  follows_quiet ls a x' b y c h e = let P : Act T → Type 0 = λ v. Answers edge t s match_states ls v b y c in
      subst P e h

  -- by a label that both have, both go on to where they match
  meets_by : (ls : List RunLabel) (a : Act T) (k : Act S) (l : RunLabel) (x : T) (y : S) →
      Meets edge t s match_states ls a k → StepsTo edge ls a l x → StepsTo edge ls k l y →
      After edge t s match_states (l ∷ ls) x y
  meets_by ls (Emits e x') (Emits f y') l x y m h k =
      subst (λ v. After edge t s match_states (v ∷ ls) x y) h.0
      (subst (λ v. After edge t s match_states (label_of e ∷ ls) v y) h.1
      (subst (λ v. After edge t s match_states (label_of e ∷ ls) x' v) k.1 m.1))
  meets_by ls (Crosses f share next) (Crosses g other s_next) l x y m h k =
      let one = one_names f g share other h.0 k.0 (h.1 ∙ sym k.1) in
      let each = m.2.each k.0 y k.2 in
      let same : each.0 ≡ x = let e : next k.0 ≡ Some x =
      subst (λ v. next v ≡ Some x) one.2 h.2 in let d : next k.0 ≡ Some each.0 = each.1 in cc (d, e) in
      subst (λ v. After edge t s match_states (v ∷ ls) x y) k.1
      (subst (λ v. After edge t s match_states (crossing_by g other k.0 ∷ ls) v y) same each.2)
  meets_by ls (Locks lock next) (Locks other s_next) l x y m h k =
      let words : h.0 ≡ k.0 = cc (h.1, k.1) in
      let there : s_next h.0 ≡ y = ap s_next words ∙ k.3 in
      subst (λ v. After edge t s match_states (v ∷ ls) x y) (sym h.1)
      (subst (λ v. After edge t s match_states (Lock lock h.0 ∷ ls) v y) h.3
      (subst (λ v. After edge t s match_states (Lock lock h.0 ∷ ls) (next h.0) v) there (m.1 h.0 h.2)))
  meets_by ls (Receives next) (Receives s_next) l x y m h k =
      subst (λ v. After edge t s match_states (l ∷ ls) v y) h.1
      (subst (λ v. After edge t s match_states (l ∷ ls) (next l) v) k.1 (m l h.0))
  meets_by ls (Stops Full) k' l x y m h k = absurd h
  meets_by ls (Stops Ended) k' l x y m h k = absurd h
  meets_by ls (Stops (Taken lock)) k' l x y m h k = absurd h
  meets_by ls (Quiet x') k' l x y m h k = absurd h
  meets_by ls Bad k' l x y m h k = absurd h
  meets_by ls a k' l x y m h k = absurd m

  meets_answered : (ls : List RunLabel) (a : Act T) (k : Act S) → Meets edge t s match_states ls a k → Answered a k
  meets_answered ls (Emits e x) (Emits f y) m = m.0
  meets_answered ls (Crosses f share next) (Crosses g other s_next) m = (
    m.0,
    m.1,
    record {
      names = m.2.names;
      to = m.2.to;
      has_names = m.2.has_names;
      each = λ n y e. let h =
          m.2.each n y e in (h.0, h.1);
    },
  )
  meets_answered ls (Locks lock next) (Locks other s_next) m = m.0
  meets_answered ls (Receives next) (Receives s_next) m = tt
  meets_answered ls (Stops Full) k m = tt
  meets_answered ls (Stops Ended) (Stops other) m = m
  meets_answered ls (Stops (Taken lock)) (Stops other) m = m
  meets_answered ls (Quiet x) k m = tt
  meets_answered ls a k m = absurd m

  meets_not_quiet : (ls : List RunLabel) (a : Act T) (k : Act S) → Meets edge t s match_states ls a k →
      (a ≡ Stops Full → ⊥) → IsQuiet k → ⊥
  meets_not_quiet ls (Stops Full) (Quiet y) m n q = n refl
  meets_not_quiet ls a (Quiet y) m n q = absurd m
  meets_not_quiet ls a k m n q = absurd q

  quiet_or_not : (a : Act T) → ((x : T) × (a ≡ Quiet x)) ⊎ (IsQuiet a → ⊥)
  quiet_or_not (Quiet x) = inl (x, refl)
  quiet_or_not (Emits e x) = inr (λ q. q)
  quiet_or_not (Crosses f share next) = inr (λ q. q)
  quiet_or_not (Locks lock next) = inr (λ q. q)
  quiet_or_not (Receives next) = inr (λ q. q)
  quiet_or_not Bad = inr (λ q. q)
  quiet_or_not (Stops why) = inr (λ q. q)

  module _ (sim : Simulates edge t s match_states) where
    abbrev Link : List RunLabel → Reached T → Type 0
    Link ls x = BadBefore edge s ls ⊎ Comes edge s ls (RunsMatch edge t s match_states ls x)

    follows_on : (ls : List RunLabel) (bs cs : List Block) (b : Block) (x : T) {c : Block} {y : S} →
        Run edge s ls cs c y → EachWithin bs cs → Follows edge t s match_states ls x b y c →
        Link ls (record { blocks = bs; block = b; at = x })
    follows_on ls bs cs b x r w f =
        ⊎_elim inl
        (λ k. inr
        (record {
          to = record { blocks = cs; block = k.1; at = k.0 };
          run = k.2;
          there =
              record { within = w; states = k.3 };
        })) (run_quietly edge s ls cs (match_states ls x b) r f)

    linked_label : (ls : List RunLabel) (x : Reached T) (l : RunLabel) (x' : T) → Reaches edge t ls x →
        StepsTo edge ls (t.act x.at) l x' → HasRun edge s (l ∷ ls) → (y : Reached S) → Reaches edge s ls y →
        RunsMatch edge t s match_states ls x y → Fine t s x.at x.block y.at y.block →
        Link (l ∷ ls) (record { blocks = x.block ∷ x.blocks; block = begun t x'; at = x' })
    linked_label ls x l x' q e has y r k fine =
        ⊎_elim (λ h. inl (bad_longer edge s l ls h))
        (λ m. let before = before_label edge s l ls has.run refl in
        let leads = leads_there edge s l ls before m.2
        (meets_not_quiet ls (t.act x.at) (s.act m.0) m.4
        (λ full. let none : ⊥ = subst (λ (v : Act T). StepsTo edge ls v l x') full e in none)) in
        follows_on (l ∷ ls) (x.block ∷ x.blocks) (m.1 ∷ y.blocks) (begun t x') x' (labelled l before.to m.2 leads)
        (more m.3 k.within) (meets_by ls (t.act x.at) (s.act m.0) l x' before.to m.4 e leads))
        (run_within edge s ls y.blocks x.block (λ y' c'. Meets edge t s match_states ls (t.act x.at) (s.act y'))
        r fine.within
        (meets_soon ls (t.act x.at) x.block y.at y.block (sim.answers ls x y q r k.states)
        (leads_not_quiet edge ls (t.act x.at) l x' e)))

    -- each run of the target whose labels the source has matches one of the source, or the source is Bad before
    pub runs_match : {ls : List RunLabel} {bs : List Block} {b : Block} {x : T} → Run edge t ls bs b x →
        HasRun edge s ls → Link ls (record { blocks = bs; block = b; at = x })
    runs_match starts has = follows_on [] [] [] (begun t t.start) t.start starts none sim.starts
    runs_match (quiet {ls = ls} {bs = bs} {b = b} {x = x} x' r e) has =
        ⊎_elim inl (λ k. follows_on ls bs k.to.blocks (onward t b x') x' k.run k.there.within
        (follows_quiet ls (t.act x) x' b k.to.at k.to.block
        (sim.answers ls (record { blocks = bs; block = b; at = x }) k.to r k.run k.there.states) e))
        (runs_match r has)
    runs_match (labelled {ls = ls} {bs = bs} {b = b} {x = x} l x' r e) has =
        ⊎_elim (λ h. inl (bad_longer edge s l ls h))
        (λ k. ⊎_elim (λ h. inl (bad_longer edge s l ls (bad_before edge s ls k.to.blocks k.run h)))
        (λ fine. linked_label ls (record { blocks = bs; block = b; at = x }) l x' r e has k.to k.run k.there fine)
        (sim.fine ls (record { blocks = bs; block = b; at = x }) k.to r k.run k.there.states))
        (runs_match r (has_before edge s l ls has))

    kept_of : (ls : List RunLabel) (x : Reached T) → Reaches edge t ls x →
        Comes edge s ls (RunsMatch edge t s match_states ls x) → BadBefore edge s ls ⊎ Comes edge s ls (Kept t s x)
    kept_of ls x q k =
        ⊎_elim (λ h. inl (bad_before edge s ls k.to.blocks k.run h))
        (λ f. ⊎_elim
        (λ h. inl (bad_before edge s ls k.to.blocks k.run
        (bad_too ls (t.act x.at) x.block k.to.at k.to.block (sim.answers ls x k.to q k.run k.there.states) h)))
        (λ h. inr (record { to = k.to; run = k.run; there = record { fine = f; within = k.there.within; meant = h } }))
        (bad_or_fine (t.act x.at)))
        (sim.fine ls x k.to q k.run k.there.states)
      where
        bad_too : (ls : List RunLabel) (a : Act T) (b : Block) (y : S) (c : Block) →
            Answers edge t s match_states ls a b y c → IsBad a → GoesWrong s y c
        bad_too ls Bad b y c h e = h
        bad_too ls (Quiet n) b y c h e = absurd e
        bad_too ls (Emits k n) b y c h e = absurd e
        bad_too ls (Crosses f share n) b y c h e = absurd e
        bad_too ls (Locks k n) b y c h e = absurd e
        bad_too ls (Receives n) b y c h e = absurd e
        bad_too ls (Stops w) b y c h e = absurd e

    answered_of : (ls : List RunLabel) (x : Reached T) → Reaches edge t ls x →
        Comes edge s ls (RunsMatch edge t s match_states ls x) → BadBefore edge s ls
        ⊎ Comes edge s ls (λ y. Answered (t.act x.at) (s.act y.at))
    answered_of ls x q k =
        ⊎_elim (λ quiet_at. inr
        (record {
          to = k.to;
          run = k.run;
          there = subst (λ (v : Act T). Answered v (s.act k.to.at)) (sym quiet_at.1)
              tt;
        }))
        (λ n. ⊎_elim inl
        (λ m. inr
        (record {
          to = record { blocks = k.to.blocks; block = m.1; at = m.0 };
          run = m.2;
          there = meets_answered ls
              (t.act x.at) (s.act m.0) m.3;
        }))
        (run_quietly edge s ls k.to.blocks (λ y' c'. Meets edge t s match_states ls (t.act x.at) (s.act y')) k.run
        (meets_soon ls (t.act x.at) x.block k.to.at k.to.block (sim.answers ls x k.to q k.run k.there.states) n)))
        (quiet_or_not (t.act x.at))

    pub steps_refine : Refines edge t s
    steps_refine = record {
      kept = λ ls x r has. ⊎_elim inl (kept_of ls x r) (runs_match r has);
      answers = λ ls x r has. ⊎_elim inl (answered_of ls x r) (runs_match r has);
    }
