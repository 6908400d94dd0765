-- What the machine comes to by the front of a text, whatever follows; and what a text that is refused shows.
use Rattle.std.proofs.Common.{◌≡◌, ℕ, ◌+◌, ◌≤◌, ◌⊎◌, inl, inr, Bool, true, false, nat_lt, List, [], ◌∷◌, ◌++◌, length, length-append, Option, None, Ok, Err, refl, ap, ◌∙◌, arith, sym, subst}
use Rattle.cas_lex.specs.declared.token.Token.{Token}
use Rattle.cas_lex.specs.declared.token.TokenKind.{TokenKind}
use Rattle.cas_syntax.specs.Reading.{within, without}
use Rattle.cas_syntax.specs.Tree.{ItemTree}
use Rattle.cas_parse.specs.Frames.{Frame, Control}
use Rattle.cas_parse.specs.Machine.{Outcome, shift, is_at, go, run, finish, Fault}
use Rattle.cas_parse.proofs.Valid.{is_inside, Valid, Comes, Judged, goes_on, limited_here, left_out_here, const_inside, refused}
use Rattle.cas_parse.proofs.ViableSteps.{shift_fits}

-- only the depth and the number of tokens are asked of limits
shift_asks : (cut : ℕ) (left_out : Option ℕ) (near leaves : Bool) (t : Token) (c : Control) (st : List Frame) →
    shift (without cut left_out) near leaves t c st ≡ shift (within 0) near leaves t c st
shift_asks cut left_out near leaves t c st = refl

-- a token's step, of which limits are asked or not, where a form that is left out may stand or not
abbrev pub taken_by : (near leaves : Bool) → Token → Control → List Frame → Outcome
taken_by near leaves t c st = shift (within 0) near leaves t c st

-- what the three outcomes of a token are
pub judged : (t : Token) (c : Control) (st : List Frame) → Valid c st →
    Judged (is_inside c st) t.kind (taken_by false false t c st) (taken_by true false t c st)
    (taken_by true true t c st)
judged t c st v = shift_fits (within 0) t c st v

pub comes_plain : {i : Bool} {kind : TokenKind} {o a b : Outcome} {n : Control × List Frame} → Judged i kind o a b →
    o ≡ Ok n → Comes i kind n × (a ≡ Ok n)
comes_plain {i} {kind} (goes_on m c) e = let same : m ≡ _ =
    cc in (subst (λ (m : Control × List Frame). Comes i kind m) same c, e)
comes_plain (limited_here m c) e = cc
comes_plain (left_out_here m c) e = cc
comes_plain (const_inside i j) e = cc
comes_plain (refused f) e = cc

pub comes_near : {i : Bool} {kind : TokenKind} {o a b : Outcome} {n : Control × List Frame} → Judged i kind o a b →
    a ≡ Ok n → Comes i kind n
comes_near {i} {kind} (goes_on m c) e = let same : m ≡ _ =
    cc in subst (λ (m : Control × List Frame). Comes i kind m) same c
comes_near {i} {kind} (limited_here m c) e = let same : m ≡ _ =
    cc in subst (λ (m : Control × List Frame). Comes i kind m) same c
comes_near (left_out_here m c) e = cc
comes_near (const_inside i j) e = cc
comes_near (refused f) e = cc

-- where the tokens lead, the limits asked of each
abbrev pub then_reach : (Control → List Frame → Outcome) → Outcome → Outcome
then_reach on (Ok next) = on next.0 next.1
then_reach on (Err code) = Err code

abbrev pub reach : List Token → Control → List Frame → Outcome
reach [] c st = Ok (c, st)
reach (t ∷ ts) c st = then_reach (reach ts) (taken_by false false t c st)

pub reach_valid : (ts : List Token) (c : Control) (st : List Frame) (n : Control × List Frame) → Valid c st →
    reach ts c st ≡ Ok n → Valid n.0 n.1
reach_valid [] c st n v h = let same : (c, st) ≡ n = cc in subst (λ (m : Control × List Frame). Valid m.0 m.1) same v
reach_valid (t ∷ ts) c st n v h = by_step (taken_by false false t c st) refl h (reach_valid ts)
  where
    by_step : (o : Outcome) → taken_by false false t c st ≡ o → then_reach (reach ts) o ≡ Ok n →
        ((c : Control) (st : List Frame) (n : Control × List Frame) → Valid c st → reach ts c st ≡ Ok n → Valid n.0 n.1)
        → Valid n.0 n.1
    by_step (Ok m) e h recur = recur m.0 m.1 n (comes_plain (judged t c st v) e).0.valid h
    by_step (Err code) e h recur = cc

pub reach_snoc : (ts : List Token) (t : Token) (c : Control) (st : List Frame) (n m : Control × List Frame) →
    reach ts c st ≡ Ok n → taken_by false false t n.0 n.1 ≡ Ok m → reach (ts ++ t ∷ []) c st ≡ Ok m
reach_snoc [] t c st n m h e = let same : (c, st) ≡ n =
    cc in rw (subst (λ (n : Control × List Frame). taken_by false false t n.0 n.1 ≡ Ok m) (sym same) e)
reach_snoc (u ∷ us) t c st n m h e = by_step (taken_by false false u c st) h (reach_snoc us t)
  where
    by_step : (o : Outcome) → then_reach (reach us) o ≡ Ok n →
        ((c : Control) (st : List Frame) (n m : Control × List Frame) → reach us c st ≡ Ok n →
        taken_by false false t n.0 n.1 ≡ Ok m → reach (us ++ t ∷ []) c st ≡ Ok m) →
        then_reach (reach (us ++ t ∷ [])) o ≡ Ok m
    by_step (Ok next) h recur = recur next.0 next.1 n m h e
    by_step (Err code) h recur = cc

-- one step of a run
pub run_step : (cut : ℕ) (left_out : Option ℕ) (t : Token) (ts : List Token) (c : Control) (st : List Frame)
    (near leaves : Bool) → nat_lt (length ts) cut ≡ near → is_at left_out (length ts) ≡ leaves →
    run (without cut left_out) (t ∷ ts) c st ≡ go (run (without cut left_out) ts) (length ts)
    (taken_by near leaves t c st)
run_step cut left_out t ts c st near leaves n l =
    ap (λ (b : Bool). go (run (without cut left_out) ts) (length ts)
    (shift (without cut left_out) b (is_at left_out (length ts)) t c st)) n
    ∙ ap (λ (b : Bool). go (run (without cut left_out) ts) (length ts) (shift (without cut left_out) near b t c st)) l

-- what follows a front that the limits let pass is read from where that leads, also where they aren't asked of it
pub walk_run : (cut : ℕ) (left_out : Option ℕ) (rest front : List Token) (c : Control) (st : List Frame)
    (n : Control × List Frame) → ((m : ℕ) → length rest ≤ m → is_at left_out m ≡ false) →
    Valid c st → reach front c st ≡ Ok n → run (without cut left_out) (front ++ rest) c st ≡ run (without cut left_out)
    rest n.0 n.1
walk_run cut left_out rest [] c st n apart v h = let same : (c, st) ≡ n =
    cc in ap (λ (n : Control × List Frame). run (without cut left_out) rest n.0 n.1) same
walk_run cut left_out rest (t ∷ ts) c st n apart v h =
    by_step (taken_by false false t c st) refl h (walk_run cut left_out rest ts)
  where
    by_step : (o : Outcome) → taken_by false false t c st ≡ o → then_reach (reach ts) o ≡ Ok n →
        ((c : Control) (st : List Frame) (n : Control × List Frame) →
        ((m : ℕ) → length rest ≤ m → is_at left_out m ≡ false) → Valid c st → reach ts c st ≡ Ok n →
        run (without cut left_out) (ts ++ rest) c st ≡ run (without cut left_out) rest n.0 n.1) →
        run (without cut left_out) (t ∷ ts ++ rest) c st ≡ run (without cut left_out) rest n.0 n.1
    by_step (Ok m) e h recur =
        let far : length rest ≤ length (ts ++ rest) = omega (arith, length-append ts rest) in
        let came = comes_plain (judged t c st v) e in
        run_step cut left_out t (ts ++ rest) c st (nat_lt (length (ts ++ rest)) cut) false refl
        (apart (length (ts ++ rest)) far)
        ∙ ap (λ (o : Outcome). go (run (without cut left_out) (ts ++ rest)) (length (ts ++ rest)) o)
        (by_near (nat_lt (length (ts ++ rest)) cut) came.1)
        ∙ recur m.0 m.1 n apart came.0.valid h
      where
        by_near : (near : Bool) → taken_by true false t c st ≡ Ok m → taken_by near false t c st ≡ Ok m
        by_near true e' = e'
        by_near false e' = e
    by_step (Err code) e h recur = cc

-- a front of a text that is read leads somewhere
pub reached : (others front : List Token) (c : Control) (st : List Frame) (items : List ItemTree) →
    run (within (length others)) (front ++ others) c st ≡ Ok items → (n : Control × List Frame)
    × (reach front c st ≡ Ok n)
reached others [] c st items h = ((c, st), refl)
reached others (t ∷ ts) c st items h = by_step (taken_by false false t c st) refl (sym first ∙ h) (reached others ts)
  where
    far : nat_lt (length (ts ++ others)) (length others) ≡ false
    far = grind (arith, length-append ts others)

    first : run (within (length others)) (t ∷ ts ++ others) c st ≡ go (run (within (length others)) (ts ++ others))
        (length (ts ++ others)) (taken_by false false t c st)
    first = run_step (length others) None t (ts ++ others) c st false false far refl

    by_step : (o : Outcome) → taken_by false false t c st ≡ o →
        go (run (within (length others)) (ts ++ others)) (length (ts ++ others)) o ≡ Ok items →
        ((c : Control) (st : List Frame) (items : List ItemTree) →
        run (within (length others)) (ts ++ others) c st ≡ Ok items → (n : Control × List Frame)
        × (reach ts c st ≡ Ok n)) →
        (n : Control × List Frame) × (then_reach (reach ts) (taken_by false false t c st) ≡ Ok n)
    by_step (Ok m) e h recur = let r = recur m.0 m.1 items h in (r.0, rw e r.1)
    by_step (Err code) e h recur = cc

-- how a run fails: at a token, or at the end
pub record Stops (ts : List Token) (c : Control) (st : List Frame) (f : Fault) : Type 0 where
  pub front : List Token
  pub t : Token
  pub rest : List Token
  pub whole : ts ≡ front ++ t ∷ rest
  pub next : Control × List Frame
  pub reached : reach front c st ≡ Ok next
  pub fails : taken_by false false t next.0 next.1 ≡ Err f.code
  pub left : f.left ≡ length rest + 1

pub record Ends (ts : List Token) (c : Control) (st : List Frame) (f : Fault) : Type 0 where
  pub next : Control × List Frame
  pub reached : reach ts c st ≡ Ok next
  pub fails : finish next.0 ≡ Err f

-- a step of which the limits are asked
pub plain_step : (t : Token) (ts : List Token) (c : Control) (st : List Frame) →
    run (within 0) (t ∷ ts) c st ≡ go (run (within 0) ts) (length ts) (taken_by false false t c st)
plain_step t ts c st = run_step 0 None t ts c st false false (grind arith) refl

pub stops_or_ends : (ts : List Token) (c : Control) (st : List Frame) (f : Fault) → run (within 0) ts c st ≡ Err f →
    Stops ts c st f ⊎ Ends ts c st f
stops_or_ends [] c st f h = inr (record { next = (c, st); reached = refl; fails = h })
stops_or_ends (t ∷ ts) c st f h = by_step (taken_by false false t c st) refl (sym (plain_step t ts c st) ∙ h)
    (stops_or_ends ts)
  where
    by_step : (o : Outcome) → taken_by false false t c st ≡ o → go (run (within 0) ts) (length ts) o ≡ Err f
        → ((c : Control) (st : List Frame) (f : Fault) → run (within 0) ts c st ≡ Err f → Stops ts c st f
        ⊎ Ends ts c st f) → Stops (t ∷ ts) c st f ⊎ Ends (t ∷ ts) c st f
    by_step (Err code) e h recur =
        let same : record { code = code; left = length ts + 1 } ≡ f = cc in
        inl (record {
          front = [];
          t = t;
          rest = ts;
          whole = refl;
          next = (c, st);
          reached = refl;
          fails = e
              ∙ ap (λ (g : Fault). let r : Outcome = Err g.code in r) same;
          left =
              sym (ap (λ (g : Fault). g.left) same);
        })
    by_step (Ok next) e h recur = further (recur next.0 next.1 f h)
      where
        further : Stops ts next.0 next.1 f ⊎ Ends ts next.0 next.1 f → Stops (t ∷ ts) c st f ⊎ Ends (t ∷ ts) c st f
        further (inl r) =
            inl (record {
              front = t ∷ r.front;
              t = r.t;
              rest = r.rest;
              whole = ap (λ (us : List Token). t ∷ us)
                  r.whole;
              next = r.next;
              reached = rw e r.reached;
              fails = r.fails;
              left = r.left;
            })
        further (inr r) = inr (record { next = r.next; reached = rw e r.reached; fails = r.fails })
