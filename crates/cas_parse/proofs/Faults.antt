-- A fault of the machine's run is the fault of the definition, and a text has one tree or one fault.
use Rattle.std.specs.List.{slice_get}
use Rattle.std.proofs.Common.{◌≡◌, ℕ, suc, ◌-◌, ◌+◌, ◌≤◌, ◌<◌, ◌⊎◌, inl, inr, Bool, true, false, if◌then◌else◌, nat_lt, nat_eq, List, [], ◌∷◌, ◌++◌, append_assoc, append-nil, length, length-append, Option, Some, None, Ok, Err, refl, ap, ◌∙◌, arith, sym, subst}
use Rattle.cas_base.specs.declared.place.Place.{Place}
use Rattle.cas_lex.specs.declared.code.ReadCode.{ReadCode}
use Rattle.cas_lex.specs.declared.code.ReadCode.TheVariants.{R5, R6, R7, R8}
use Rattle.cas_lex.specs.declared.token.Token.{Token}
use Rattle.cas_lex.specs.declared.token.TokenKind.TheVariants as k
use Rattle.cas_lex.specs.declared.token.Word.TheVariants as w
use Rattle.cas_lex.specs.declared.token.Sign.TheVariants as sg
use Rattle.cas_syntax.specs.Items.{SpellsItems}
use Rattle.cas_syntax.specs.Limits.{Limits}
use Rattle.cas_syntax.specs.Reading.{within, without, IsModule, Begins, BeginsUnlimited, BeginsLeftOut, EndsInBody, ShowsLeftOut, IsWrong, too_many, left_out, no_module, HasSyntaxFault, at_token, at_end}
use Rattle.cas_syntax.specs.Tokens.{sign}
use Rattle.cas_syntax.specs.Tree.{ItemTree}
use Rattle.cas_parse.specs.Frames.{Frame, Control, InItems}
use Rattle.cas_parse.specs.Machine.{Outcome, is_at, go, run, finish, Fault, Verdict}
use Rattle.cas_parse.specs.Left.{place_left}
use Rattle.cas_parse.proofs.CompleteItems.{reads_module, some_within, some_without}
use Rattle.cas_parse.proofs.Sound as sound
use Rattle.cas_parse.proofs.Valid.{is_inside, Valid, valid_start, Judged, goes_on, limited_here, left_out_here, const_inside, refused}
use Rattle.cas_parse.proofs.ViableBodies.{outside_never}
use Rattle.cas_parse.proofs.ViableStates.{completes}
use Rattle.cas_parse.proofs.ViableWalks.{taken_by, judged, comes_plain, comes_near, reach, reach_valid, reach_snoc, run_step, plain_step, walk_run, reached, Stops, Ends, stops_or_ends}

pub place_left_token : (front rest : List Token) (t : Token) (end : Place) →
    place_left (front ++ t ∷ rest) end (length rest + 1) ≡ t.place
place_left_token [] rest t end = let e : nat_eq (length rest + 1) (length rest + 1) ≡ true = grind arith in rw e refl
place_left_token (u ∷ us) rest t end =
    let e : nat_eq (length rest + 1) (length (us ++ t ∷ rest) + 1) ≡ false =
    grind (arith, length-append us (t ∷ rest)) in
    rw e (place_left_token us rest t end)

pub place_left_end : (ts : List Token) (end : Place) → place_left ts end 0 ≡ end
place_left_end [] end = refl
place_left_end (t ∷ ts) end = let e : nat_eq 0 (length ts + 1) ≡ false = grind arith in rw e (place_left_end ts end)

-- the token that stands at an index, which is counted from the first
pub place_left_at : (ts : List Token) (end : Place) (left : ℕ) (t : Token) → 0 < left → left ≤ length ts →
    slice_get ts (length ts - left) ≡ Some t → place_left ts end left ≡ t.place
place_left_at [] end left t more le found = cc
place_left_at (u ∷ us) end left t more le found = by_test (nat_eq left (length us + 1)) refl
    (place_left_at us end left t more)
  where
    by_test : (b : Bool) → nat_eq left (length us + 1) ≡ b →
        (left ≤ length us → slice_get us (length us - left) ≡ Some t → place_left us end left ≡ t.place) →
        (if b then u.place else place_left us end left) ≡ t.place
    by_test true e recur =
        let first : length (u ∷ us) - left ≡ 0 = grind arith in
        let same : slice_get (u ∷ us) (length (u ∷ us) - left) ≡ Some u = rw first refl in
        cc
    by_test false e recur =
        let fewer : left ≤ length us = grind arith in
        let later : length (u ∷ us) - left ≡ suc (length us - left) = omega (arith, fewer) in
        recur fewer (sym (ap (λ (i : ℕ). slice_get (u ∷ us) i) later) ∙ found)

-- where the machine is behind these tokens, the limits asked of each
abbrev pub Leads : List Token → Control × List Frame → Type 0
Leads front n = reach front (InItems []) [] ≡ Ok n

leads_valid : (front : List Token) (n : Control × List Frame) → Leads front n → Valid n.0 n.1
leads_valid front n h = reach_valid front (InItems []) [] n valid_start h

-- at a token behind a front the run is at what the token leads to
at_next : (cut : ℕ) (left_out : Option ℕ) (front others : List Token) (t : Token) (n : Control × List Frame)
    (near leaves : Bool) → ((m : ℕ) → length others + 1 ≤ m → is_at left_out m ≡ false) →
    Leads front n → nat_lt (length others) cut ≡ near → is_at left_out (length others) ≡ leaves →
    run (without cut left_out) ((front ++ t ∷ []) ++ others) (InItems []) [] ≡ go (run (without cut left_out) others)
    (length others) (taken_by near leaves t n.0 n.1)
at_next cut left front others t n near leaves apart h e e' =
    ap (λ (ts : List Token). run (without cut left) ts (InItems []) []) (append_assoc front (t ∷ []) others)
    ∙ walk_run cut left (t ∷ others) front (InItems []) [] n (λ m le. apart m (omega arith)) valid_start h
    ∙ run_step cut left t others n.0 n.1 near leaves e e'

-- a token leads on, or stops
goes_through : (on : Control → List Frame → Verdict) (behind : ℕ) (o : Outcome) (m : Control × List Frame) → o ≡ Ok m →
    go on behind o ≡ on m.0 m.1
goes_through on behind o m e = ap (λ (o : Outcome). go on behind o) e

stops_there : (on : Control → List Frame → Verdict) (behind : ℕ) (o : Outcome) (code : ReadCode) (items : List ItemTree)
    → o ≡ Err code → go on behind o ≡ Ok items → ⊥
stops_there on behind (Ok m) code items e h = cc
stops_there on behind (Err c) code items e h = cc

-- a run that ends too early fails at the end
pub ends_unfinished : (c : Control) (f : Fault) → finish c ≡ Err f → record { code = R6; left = 0 } ≡ f
ends_unfinished (InItems items) f e = cc
ends_unfinished c f e = cc

-- what is spelled is read, and what is read is spelled
reads_within : (cut : ℕ) (items : List ItemTree) (ts : List Token) → SpellsItems (within cut) items ts [] →
    run (within cut) ts (InItems []) [] ≡ Ok items
reads_within cut items ts h = reads_module (within cut) (some_within cut) h

reads_without : (count : ℕ) (at : Option ℕ) (items : List ItemTree) (ts : List Token) →
    SpellsItems (without count at) items ts [] →
    run (without count at) ts (InItems []) [] ≡ Ok items
reads_without count at items ts h = reads_module (without count at) (some_without count at) h

run_sound : (limits : Limits) (items : List ItemTree) (ts : List Token) → run limits ts (InItems []) [] ≡ Ok items →
    SpellsItems limits items ts []
run_sound limits items ts h = sound.run_sound limits ts items h

pub accepted : (items : List ItemTree) (ts : List Token) → run (within 0) ts (InItems []) [] ≡ Ok items →
    IsModule items ts
accepted items ts h = run_sound (within 0) items ts h

-- what leads somewhere is the beginning of a module
pub begins : (front : List Token) (n : Control × List Frame) → Leads front n → Begins front
begins front n h =
    let r = completes n.0 n.1 (leads_valid front n h) in (
      r.items,
      r.others,
      run_sound (within (length r.others)) r.items (front ++ r.others)
          (walk_run (length r.others) None r.others front (InItems []) [] n (λ m le. refl) valid_start h
          ∙ r.ends (within (length r.others)) (omega arith)),
    )

unlimited : (front : List Token) (t : Token) (n m : Control × List Frame) → Leads front n →
    taken_by true false t n.0 n.1 ≡ Ok m → BeginsUnlimited (front ++ t ∷ [])
unlimited front t n m h e =
    let r = completes m.0 m.1 (comes_near (judged t n.0 n.1 (leads_valid front n h)) e).valid in
    let count = length ((front ++ t ∷ []) ++ r.others) in
    let all : count ≡ length front + 1 + length r.others =
    omega (arith, length-append (front ++ t ∷ []) r.others, length-append front (t ∷ [])) in (
      r.items,
      r.others,
      run_sound (without count None) r.items ((front ++ t ∷ []) ++ r.others)
          (at_next count None front r.others t n true false (λ m le. refl) h (grind (arith, all)) refl
          ∙ goes_through (run (without count None) r.others) (length r.others) _ m e
          ∙ r.ends (without count None) (omega (arith, all))),
    )

left_out_begins : (front : List Token) (t : Token) (n m : Control × List Frame) → Leads front n →
    taken_by true true t n.0 n.1 ≡ Ok m → Valid m.0 m.1 → BeginsLeftOut (front ++ t ∷ [])
left_out_begins front t n m h e v =
    let r = completes m.0 m.1 v in
    let count = length ((front ++ t ∷ []) ++ r.others) in
    let place = length r.others in
    let all : count ≡ length front + 1 + length r.others =
    omega (arith, length-append (front ++ t ∷ []) r.others, length-append front (t ∷ [])) in (
      r.items,
      r.others,
      run_sound (without count (Some place)) r.items ((front ++ t ∷ []) ++ r.others)
          (at_next count (Some place) front r.others t n true true (λ m le. grind arith) h (grind (arith, all))
          (grind arith)
          ∙ goes_through (run (without count (Some place)) r.others) (length r.others) _ m e
          ∙ r.ends (without count (Some place)) (omega (arith, all))),
    )

not_begins : (front : List Token) (t : Token) (n : Control × List Frame) (code : ReadCode) → Leads front n →
    taken_by false false t n.0 n.1 ≡ Err code → Begins (front ++ t ∷ []) → ⊥
not_begins front t n code h e (items, others, text) =
    let read = reads_within (length others) items ((front ++ t ∷ []) ++ others) text in
    let went = at_next (length others) None front others t n false false (λ m le. refl) h (grind arith) refl in
    stops_there (run (within (length others)) others) (length others) _ code items e (sym went ∙ read)

not_unlimited : (front : List Token) (t : Token) (n : Control × List Frame) (code : ReadCode) → Leads front n →
    taken_by true false t n.0 n.1 ≡ Err code → BeginsUnlimited (front ++ t ∷ []) → ⊥
not_unlimited front t n code h e (items, others, text) =
    let count = length ((front ++ t ∷ []) ++ others) in
    let all : count ≡ length front + 1 + length others =
    omega (arith, length-append (front ++ t ∷ []) others, length-append front (t ∷ [])) in
    let read = reads_without count None items ((front ++ t ∷ []) ++ others) text in
    let went = at_next count None front others t n true false (λ m le. refl) h (grind (arith, all)) refl in
    stops_there (run (without count None) others) (length others) _ code items e (sym went ∙ read)

not_left_out : (front : List Token) (t : Token) (n : Control × List Frame) (code : ReadCode) → Leads front n →
    taken_by true true t n.0 n.1 ≡ Err code → BeginsLeftOut (front ++ t ∷ []) → ⊥
not_left_out front t n code h e (items, others, text) =
    let count = length ((front ++ t ∷ []) ++ others) in
    let place = length others in
    let all : count ≡ length front + 1 + length others =
    omega (arith, length-append (front ++ t ∷ []) others, length-append front (t ∷ [])) in
    let read = reads_without count (Some place) items ((front ++ t ∷ []) ++ others) text in
    let went = at_next count (Some place) front others t n true true (λ m le. grind arith) h (grind (arith, all))
    (grind arith) in
    stops_there (run (without count (Some place)) others) (length others) _ code items e (sym went ∙ read)

-- inside a function's body, and outside

ends_in_body : (front : List Token) (n : Control × List Frame) → Leads front n → is_inside n.0 n.1 ≡ true →
    EndsInBody front
ends_in_body front n h i =
    let r = completes n.0 n.1 (leads_valid front n h) in
    let b = r.body i in
    let tail : List Token = b.0 ++ sign sg.CloseBrace b.1 ∷ [] in
    let tokens : List Token = (front ++ b.0) ++ sign sg.CloseBrace b.1 ∷ [] in
    let limits = without (length tokens) None in
    let joined : tokens ≡ front ++ tail = append_assoc front b.0 (sign sg.CloseBrace b.1 ∷ []) in
    let count : length tokens ≡ length front + length tail = ap (λ (ts : List Token). length ts) joined
    ∙ length-append front tail in
    let same : length r.others ≡ length tail = ap (λ (ts : List Token). length ts) b.3 in (
      r.items,
      b.0,
      b.1,
      b.2,
      run_sound limits r.items tokens
          (ap (λ (ts : List Token). run limits ts (InItems []) []) joined
          ∙ walk_run (length tokens) None tail front (InItems []) [] n (λ m le. refl) valid_start h
          ∙ ap (λ (ts : List Token). run limits ts n.0 n.1) (sym b.3) ∙ r.ends limits (omega (arith, same, count))),
    )

not_in_body : (front : List Token) (n : Control × List Frame) → Leads front n → is_inside n.0 n.1 ≡ false →
    EndsInBody front → ⊥
not_in_body front n h out (items, others, p, opens, text) =
    let tail : List Token = others ++ sign sg.CloseBrace p ∷ [] in
    let tokens : List Token = (front ++ others) ++ sign sg.CloseBrace p ∷ [] in
    let limits = without (length tokens) None in
    let joined : tokens ≡ front ++ tail = append_assoc front others (sign sg.CloseBrace p ∷ []) in
    let count : length tokens ≡ length front + length tail = ap (λ (ts : List Token). length ts) joined
    ∙ length-append front tail in
    let read = reads_without (length tokens) None items tokens text in
    let went = ap (λ (ts : List Token). run limits ts (InItems []) []) joined
    ∙ walk_run (length tokens) None tail front (InItems []) [] n (λ m le. refl) valid_start h in
    outside_never (length tokens) others p n.0 n.1 items (leads_valid front n h) out opens (omega (arith, count))
    (sym went ∙ read)

shows_nothing : (front : List Token) (t : Token) (n : Control × List Frame) → Leads front n →
    (is_inside n.0 n.1 ≡ true → t.kind ≡ k.Word w.Const → ⊥) → taken_by true true t n.0 n.1 ≡ Err R5 →
    ShowsLeftOut front t → ⊥
shows_nothing front t n h f e (inl b) = not_left_out front t n R5 h e b
shows_nothing front t n h f e (inr (const, body)) = by_inside (is_inside n.0 n.1) refl
  where
    by_inside : (i : Bool) → is_inside n.0 n.1 ≡ i → ⊥
    by_inside true i = f i const
    by_inside false i = not_in_body front n h i body

-- the code that the machine names is the code of the definition
pub explains : (front : List Token) (t : Token) (n : Control × List Frame) (code : ReadCode) → Leads front n →
    taken_by false false t n.0 n.1 ≡ Err code → IsWrong front t code
explains front t n code h fails = by_case (judged t n.0 n.1 (leads_valid front n h)) refl refl refl
  where
    named_so : (c : ReadCode) → taken_by false false t n.0 n.1 ≡ Err c → IsWrong front t c → IsWrong front t code
    named_so c e wrong = let same : c ≡ code = cc in subst (λ (c : ReadCode). IsWrong front t c) same wrong

    by_case : {o a b : Outcome} → Judged (is_inside n.0 n.1) t.kind o a b → taken_by false false t n.0 n.1 ≡ o →
        taken_by true false t n.0 n.1 ≡ a → taken_by true true t n.0 n.1 ≡ b → IsWrong front t code
    by_case (goes_on m c) e e' e'' = cc
    by_case (limited_here m c) e e' e'' = named_so R8 e
        (too_many (unlimited front t n m h e') (not_begins front t n R8 h e))
    by_case (left_out_here m c) e e' e'' = named_so R7 e
        (left_out (inl (left_out_begins front t n m h e'' c.valid)) (not_unlimited front t n R7 h e'))
    by_case (const_inside i const) e e' e'' = named_so R7 e
        (left_out (inr (const, ends_in_body front n h i)) (not_unlimited front t n R7 h e'))
    by_case (refused f) e e' e'' =
        named_so R5 e (no_module (shows_nothing front t n h f e'') (not_unlimited front t n R5 h e'))

-- one code at most explains why a token can't stand

only_one : (front : List Token) (t : Token) (c c' : ReadCode) → IsWrong front t c → IsWrong front t c' → c ≡ c'
only_one front t c c' (too_many b n) (too_many b' n') = refl
only_one front t c c' (too_many b n) (left_out s n') = absurd (n' b)
only_one front t c c' (too_many b n) (no_module s n') = absurd (n' b)
only_one front t c c' (left_out s n) (too_many b n') = absurd (n b)
only_one front t c c' (left_out s n) (left_out s' n') = refl
only_one front t c c' (left_out s n) (no_module s' n') = absurd (s' s)
only_one front t c c' (no_module s n) (too_many b n') = absurd (n b)
only_one front t c c' (no_module s n) (left_out s' n') = absurd (s s')
only_one front t c c' (no_module s n) (no_module s' n') = refl

-- a token that is taken isn't wrong
takes_no_wrong : (front : List Token) (t : Token) (n m : Control × List Frame) (c : ReadCode) → Leads front n →
    taken_by false false t n.0 n.1 ≡ Ok m → IsWrong front t c → ⊥
takes_no_wrong front t n m c h e (too_many b none) = none
    (begins (front ++ t ∷ []) m (reach_snoc front t (InItems []) [] n m h e))
takes_no_wrong front t n m c h e (left_out s none) = none
    (unlimited front t n m h (comes_plain (judged t n.0 n.1 (leads_valid front n h)) e).1)
takes_no_wrong front t n m c h e (no_module s none) = none
    (unlimited front t n m h (comes_plain (judged t n.0 n.1 (leads_valid front n h)) e).1)

-- a wrong token stops the machine, with its code
wrong_stops : (front : List Token) (t : Token) (n : Control × List Frame) (c : ReadCode) → Leads front n →
    IsWrong front t c → taken_by false false t n.0 n.1 ≡ Err c
wrong_stops front t n c h wrong = by_step (taken_by false false t n.0 n.1) refl
  where
    by_step : (o : Outcome) → taken_by false false t n.0 n.1 ≡ o → taken_by false false t n.0 n.1 ≡ Err c
    by_step (Ok m) e = absurd (takes_no_wrong front t n m c h e wrong)
    by_step (Err code) e = e ∙ ap (λ (c : ReadCode). let o : Outcome = Err c in o)
        (only_one front t code c (explains front t n code h e) wrong)

-- what begins a module leads somewhere
leads : (front : List Token) → Begins front → (n : Control × List Frame) × Leads front n
leads front (items, others, text) = reached others front (InItems []) [] items
    (reads_within (length others) items (front ++ others) text)

-- where a run ends
run_ends : (ts : List Token) (n : Control × List Frame) → Leads ts n → run (within 0) ts (InItems []) [] ≡ finish n.0
run_ends ts n h = ap (λ (us : List Token). run (within 0) us (InItems []) []) (sym (append-nil ts))
    ∙ walk_run 0 None [] ts (InItems []) [] n (λ m le. refl) valid_start h

-- the run of a text that has a fault
pub record Fails (ts : List Token) (end : Place) (c : ReadCode) (p : Place) : Type 0 where
  pub left : ℕ
  pub fails : run (within 0) ts (InItems []) [] ≡ Err (record { code = c; left = left })
  pub place : p ≡ place_left ts end left

pub fault_fails : {ts : List Token} {end : Place} {c : ReadCode} {p : Place} → HasSyntaxFault ts end c p →
    Fails ts end c p
fault_fails (at_token front rest t end code b wrong) =
    record { left = length rest + 1; fails = stopped; place = sym (place_left_token front rest t end) }
  where
    stopped : run (within 0) (front ++ t ∷ rest) (InItems []) [] ≡ Err (record { code = code; left = length rest + 1 })
    stopped =
        let r = leads front b in
        walk_run 0 None (t ∷ rest) front (InItems []) [] r.0 (λ m le. refl) valid_start r.1
        ∙ plain_step t rest r.0.0 r.0.1
        ∙ ap (λ (o : Outcome). go (run (within 0) rest) (length rest) o) (wrong_stops front t r.0 code r.1 wrong)
fault_fails (at_end tokens end b none) =
    record { left = 0; fails = by_end (leads tokens b); place = sym (place_left_end tokens end) }
  where
    by_end : (n : Control × List Frame) × Leads tokens n →
        run (within 0) tokens (InItems []) [] ≡ Err (record { code = R6; left = 0 })
    by_end (n, h) = by_control (finish n.0) refl
      where
        by_control : (v : Verdict) → finish n.0 ≡ v → run (within 0) tokens (InItems []) [] ≡ Err
            (record { code = R6; left = 0 })
        by_control (Ok items) e = absurd (none items (accepted items tokens (run_ends tokens n h ∙ e)))
        by_control (Err f) e = run_ends tokens n h ∙ e
            ∙ ap (λ (f : Fault). let v : Verdict = Err f in v) (sym (ends_unfinished n.0 f e))

-- a run that fails, fails where the definition says, and as it says
pub faulty : (ts : List Token) (end : Place) (f : Fault) → run (within 0) ts (InItems []) [] ≡ Err f →
    HasSyntaxFault ts end f.code (place_left ts end f.left)
faulty ts end f h = by_cases (stops_or_ends ts (InItems []) [] f h)
  where
    by_cases : Stops ts (InItems []) [] f ⊎ Ends ts (InItems []) [] f →
        HasSyntaxFault ts end f.code (place_left ts end f.left)
    by_cases (inl r) =
        let tokens : List Token = r.front ++ r.t ∷ r.rest in
        let there : place_left tokens end f.left ≡ r.t.place = ap (λ (left : ℕ). place_left tokens end left) r.left
        ∙ place_left_token r.front r.rest r.t end in
        let wrong = explains r.front r.t r.next f.code r.reached r.fails in
        let fault = at_token r.front r.rest r.t end f.code (begins r.front r.next r.reached) wrong in
        subst (λ (us : List Token). HasSyntaxFault us end f.code (place_left us end f.left)) (sym r.whole)
        (subst (λ (p : Place). HasSyntaxFault tokens end f.code p) (sym there) fault)
    by_cases (inr r) =
        let same : record { code = R6; left = 0 } ≡ f = ends_unfinished r.next.0 f r.fails in
        let fault = at_end ts end (begins ts r.next r.reached)
        (λ items text. refuses items (reads_within 0 items ts text)) in
        subst (λ (g : Fault). HasSyntaxFault ts end g.code (place_left ts end g.left)) same
        (subst (λ (p : Place). HasSyntaxFault ts end R6 p) (sym (place_left_end ts end)) fault)
      where
        refuses : (items : List ItemTree) → run (within 0) ts (InItems []) [] ≡ Ok items → ⊥
        refuses items read = cc

-- tokens have one tree or one fault, and not both

pub one_tree : (ts : List Token) (items others : List ItemTree) → IsModule items ts → IsModule others ts →
    items ≡ others
one_tree ts items others a b =
    let one = reads_within 0 items ts a in
    let other = reads_within 0 others ts b in
    cc

pub one_fault : (ts : List Token) (end : Place) (c c' : ReadCode) (p p' : Place) → HasSyntaxFault ts end c p →
    HasSyntaxFault ts end c' p' → (c ≡ c') × (p ≡ p')
one_fault ts end c c' p p' a b =
    let one = fault_fails a in
    let other = fault_fails b in
    let same : record { code = c; left = one.left } ≡ record { code = c'; left = other.left } = cc in
    (ap (λ (f : Fault). f.code) same, one.place ∙ ap (λ (f : Fault). place_left ts end f.left) same ∙ sym other.place)

pub not_both : (ts : List Token) (items : List ItemTree) (end : Place) (c : ReadCode) (p : Place) → IsModule items ts →
    HasSyntaxFault ts end c p → ⊥
not_both ts items end c p a b =
    let one = reads_within 0 items ts a in
    let other = (fault_fails b).fails in
    cc

pub tree_or_fault : (ts : List Token) (end : Place) → ((items : List ItemTree) × IsModule items ts)
    ⊎ ((c : ReadCode) × (p : Place) × HasSyntaxFault ts end c p)
tree_or_fault ts end = by_verdict (run (within 0) ts (InItems []) []) refl
  where
    by_verdict : (v : Verdict) → run (within 0) ts (InItems []) [] ≡ v → ((items : List ItemTree) × IsModule items ts)
        ⊎ ((c : ReadCode) × (p : Place) × HasSyntaxFault ts end c p)
    by_verdict (Ok items) h = inl (items, accepted items ts h)
    by_verdict (Err f) h = inr (f.code, place_left ts end f.left, faulty ts end f h)
