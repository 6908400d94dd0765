-- A pass of activations is a simulation of the machines that the layer of calls makes of them.
use Rattle.std.proofs.Common.{◌≡◌, ℕ, zero, suc, ◌+◌, ◌≤◌, List, [], ◌∷◌, ◌++◌, length, ◌⊎◌, Option, Some, None, Bool, true, false, inl, inr, refl, sym, ap, ◌∙◌, subst, ⊎_elim, arith}
use Rattle.cas_runs.specs.Label.{NameBytes, Share, RunLabel, Lock, Unlock, Out, Done, Enter, Back, Call, Leave}
use Rattle.cas_runs.specs.Edge.{AreGuarded, returned, results_of}
use Rattle.cas_runs.specs.Outside.{Brings, crossed, MayBring}
use Rattle.cas_runs.specs.Naming.{Value, Naming, and_then, all_taken}
use Rattle.cas_runs.specs.Naming.{objects_of}
use Rattle.cas_runs.specs.Machine.{Act, Quiet, Emits, Crosses, Locks, Receives, Bad, Stops, Taken, Unlocks, Prints, Ends, Names, Opened, Open, Between, Machine, and_called, open_functions, crossing_by, IsBad, Block, nothing, begun, onward, and_step}
use Rattle.cas_runs.specs.Refines.{Within, Subsequence, done, keep, skip, Fine, Refines}
use Rattle.cas_runs.specs.Simulation.{Quietly, here, step, fails, GoesWrong, Follows, Meets, Answers, Simulates}
use Rattle.cas_runs.specs.Bounds.{IsTariff, Tariff, BySize, ByForms, step_price, first_price, waiting_price}
use Rattle.cas_runs.specs.Access.{Holding, Then, Fails, words_in, with_lock, without_lock, performed}
use Rattle.cas_runs.specs.Unit.{Setting, laid_out, guard_of}
use Rattle.cas_runs.specs.Calls.{Last, Goes, Takes, Gives, Puts, Calls, Tails, Returns, Scene, Frame, Waits, Outer, Past, Thread, Away, Runs, Leaves, Over, nothing_touched, can_cross, named_as, with_naming, to_outside, crosses_if, crosses_out, first_values, kept_results, leaves_with, leaves_later, goes_back, returns, resumes, comes_back, with_share, takes_lock, takes, gives_lock, gives, find, with_own, without_own, set_blocks, gone, one_begun, begins, calls_in, enters_at, enters, waiting, called_by, calls_out, calls, acts, receives, machine, no_past}
use Rattle.cas_runs.specs.Passing.{Activity, position, Moment, Relation, AllMatch, t_step, s_step, after_step, act_alone, on_alone, Settles, Matched, Ready, ReadyIf, WaitAlike, PassesOn, cannot_go_on, fails_then, goes_then, returns_first, OnlyPasses, TailAlike, tail, passing, LastAlike, Does, CallsToo, Passes, MatchIf, brought_in, received, Keeps, Pays}
use Rattle.cas_runs.proofs.Found.{FoundAlike, AllFound}
use Rattle.cas_runs.proofs.Refining.{IsQuiet, answers_bad, answers_quiet, answers_wrong, steps_refine, within_more}
use Rattle.cas_runs.proofs.Showing.{some_names, named_so}

-- the moment of these
abbrev pub mom : {F G : Type 0} → F → G → ℕ → Past → Past → Holding → Holding → Moment F G
mom f g n p q h k =
    record { t_function = f; s_function = g; serial = n; t_past = p; s_past = q; t_holding = h; s_holding = k }

nothing_under : (c : Block) → Within nothing c
nothing_under c = record { price = omega arith; writes = λ w h. elim h [ ]; reads = λ w h. elim h [ ] }

-- prices are at least 1
pub step_costs : {F A : Type 0} (t : Tariff F A) (fs : List F) (a : A) → IsTariff t → 1 ≤ step_price t fs a
step_costs (BySize nodes cells) fs a h = omega arith
step_costs (ByForms form operands entry names parameters forms) fs a h = let one = h.0 a in let least =
    one.0.least in omega (arith, least)

pub waiting_costs : {F A : Type 0} (t : Tariff F A) (fs : List F) → 1 ≤ waiting_price t fs
waiting_costs (BySize nodes cells) fs = omega arith
waiting_costs (ByForms form operands entry names parameters forms) fs = omega arith

module _ {F A G B : Type 0} (r : Relation F A G B) (is : Keeps r) (pays : Pays r) (ok : Passes r) (ins_t : List F)
    (ins_s : List G) (outward : Bool) (start_t : Thread F A) (start_s : Thread G B) where
  abbrev pub there : Setting
  there = laid_out r.setting r.placed

  abbrev pub scene_t : Scene F
  scene_t = record { functions = r.targets; within = ins_t; crosses = outward }

  abbrev pub scene_s : Scene G
  scene_s = record { functions = r.sources; within = ins_s; crosses = outward }

  abbrev pub T : Machine (Thread F A)
  T = machine r.target there scene_t start_t

  abbrev pub S : Machine (Thread G B)
  S = machine r.source r.setting scene_s start_s

  -- where calls cross, the outside is below each activation
  abbrev pub Based : Bool → List (Frame F A) → Type 0
  Based true [] = ⊥
  Based false [] = Unit {0}
  Based o (Outer results ∷ xs) = Unit {0}
  Based o (Waits f n results next ∷ xs) = Based o xs

  -- what waits in both, at a moment; the target's serial numbers are below a bound
  pub data Frames (h : Holding) (k : Holding) : ℕ → List (Frame F A) → List (Frame G B) → Type 0 where
    bottom : {m : ℕ} → Frames h k m [] []
    outer : {m : ℕ} {results : Option ℕ} {xs : List (Frame F A)} {ys : List (Frame G B)} → outward ≡ true →
        Frames h k m xs ys → Frames h k m (Outer results ∷ xs) (Outer results ∷ ys)
    under : {m n n' : ℕ} {f : F} {g : G} {results : Option ℕ} {next : List Value → Option A}
        {next' : List Value → Option B} {xs : List (Frame F A)} {ys : List (Frame G B)} → n + 1 ≤ m → n ≡ n' →
        r.by.made f g → WaitAlike r (mom f g n no_past no_past h k) results next next' → Based outward xs →
        Frames h k n xs ys → Frames h k m (Waits f n results next ∷ xs) (Waits g n' results next' ∷ ys)
    passed : {m n : ℕ} {g : G} {results : Option ℕ} {next' : List Value → Option B} {xs : List (Frame F A)}
        {ys : List (Frame G B)} → OnlyPasses r g results next' → Based outward xs → Frames h k m xs ys →
        Frames h k m xs (Waits g n results next' ∷ ys)

  frames_later : (h k h' k' : Holding) {m : ℕ} {xs : List (Frame F A)} {ys : List (Frame G B)} → Frames h k m xs ys →
      r.by.frame m h k h' k' → Frames h' k' m xs ys
  frames_later h k h' k' bottom l = bottom
  frames_later h k h' k' (outer o fr) l = outer o (frames_later h k h' k' fr l)
  frames_later h k h' k' {m = m} (under {n = n} le e made wait based fr) l =
      under le e made (λ p q h'' k'' l' a vs ws s count. wait p q h'' k''
      (is.is_frame.then_later (n + 1) h k h' k' h'' k'' (is.is_frame.fewer (n + 1) m h k h' k' le l) l')
      a vs ws s count) based
      (frames_later h k h' k' fr (is.is_frame.fewer n m h k h' k' (omega (arith, le)) l))
  frames_later h k h' k' (passed only based fr) l = passed only based (frames_later h k h' k' fr l)

  frames_wider : (h k : Holding) (m' : ℕ) {m : ℕ} {xs : List (Frame F A)} {ys : List (Frame G B)} → m ≤ m' →
      Frames h k m xs ys → Frames h k m' xs ys
  frames_wider h k m' le bottom = bottom
  frames_wider h k m' le (outer o fr) = outer o (frames_wider h k m' le fr)
  frames_wider h k m' le (under less e made wait based fr) = under (omega (arith, le, less)) e made wait based fr
  frames_wider h k m' le (passed only based fr) = passed only based (frames_wider h k m' le fr)

  frames_open : {h k : Holding} {m : ℕ} {xs : List (Frame F A)} {ys : List (Frame G B)} → Frames h k m xs ys →
      Subsequence (waiting r.target xs) (waiting r.source ys)
  frames_open bottom = done
  frames_open (outer o fr) = keep (frames_open fr)
  frames_open (under {f = f} {g = g} {xs = xs} {ys = ys} less e made wait based fr) =
      subst (λ v. Subsequence (Open (r.target.name f) ∷ waiting r.target xs) (Open v ∷ waiting r.source ys))
      (is.names f g made) (keep (frames_open fr))
  frames_open (passed {g = g} only based fr) = skip (frames_open fr)

  pub data Lifted (ls : List RunLabel) : Thread F A → Block → Thread G B → Block → Type 0 where
    away : {xs : List (Frame F A)} {ys : List (Frame G B)} {p q : Past} {h k : Holding} {b c : Block} → outward ≡ true →
        Within b c → r.by.settled p h q k → crossed ls ≡ objects_of k.memory q.naming → Frames h k p.begun xs ys →
        Lifted ls (Away xs p h) b (Away ys q k) c
    runs : {f : F} {g : G} {n n' e e' : ℕ} {x : A} {y : B} {xs : List (Frame F A)} {ys : List (Frame G B)} {p q : Past}
        {h k : Holding} {b c : Block} → r.by.made f g → n + 1 ≤ p.begun → n ≡ n' →
        r.by.match_states f g n (record { now = x; holding = h; block = b })
        (record { now = y; holding = k; block = c }) → r.by.match_memory p h q k → Based outward xs →
        Frames h k n xs ys → Lifted ls (Runs f n x e xs p h) b (Runs g n' y e' ys q k) c
    leaving : {z : Thread G B} {vs : List Value} {xs : List (Frame F A)} {p : Past} {h : Holding} {b c : Block}
        (ws : List Value) (ys : List (Frame G B)) (q : Past) (k : Holding) → outward ≡ true →
        S.act z ≡ crosses_out r.setting.layout None ws ys q k →
        Subsequence (Between ∷ waiting r.target xs) (open_functions S z) → Within b c → AllMatch r vs ws →
        r.by.settled p h q k → Frames h k p.begun xs ys → Lifted ls (Leaves vs xs p h) b z c
    over : {b c : Block} → Within b c → Lifted ls Over b Over c
    broken : {x : Thread F A} {z : Thread G B} {b c : Block} → IsBad (S.act z) → Lifted ls x b z c

  abbrev pub Rel : List RunLabel → Thread F A → Block → Thread G B → Block → Type 0
  Rel ls x b z c = Lifted ls x b z c

  abbrev Ans : List RunLabel → Act (Thread F A) → Block → Thread G B → Block → Type 0
  Ans ls a b z c = Answers r.setting.edge T S Rel ls a b z c

  abbrev Fol : List RunLabel → Thread F A → Block → Thread G B → Block → Type 0
  Fol ls x b z c = Follows r.setting.edge T S Rel ls x b z c

  -- What the source may do first.

  bad_answers : (ls : List RunLabel) (a : Act (Thread F A)) (b : Block) (z : Thread G B) (c : Block) → IsBad (S.act z) →
      Ans ls a b z c
  bad_answers ls a b z c e = answers_bad r.setting.edge T S Rel ls a b z c e

  quiet_answers : (ls : List RunLabel) (a : Act (Thread F A)) (b : Block) (z z' : Thread G B) (c : Block) →
      S.act z ≡ Quiet z' → Ans ls a b z' (onward S c z') → Ans ls a b z c
  quiet_answers ls a b z z' c e h = answers_quiet r.setting.edge T S Rel ls a b z z' c e h

  wrong_answers : (ls : List RunLabel) (a : Act (Thread F A)) (b : Block) (z : Thread G B) (c : Block) →
      GoesWrong S z c → Ans ls a b z c
  wrong_answers ls a b z c q = answers_wrong r.setting.edge T S Rel ls a b q

  -- what a step of the source's activation does
  abbrev s_acts : Option (Last B) → G → ℕ → List (Frame G B) → Past → Holding → Act (Thread G B)
  s_acts o g n ys q k = acts r.source r.setting scene_s o g n ys q k

  abbrev t_acts : Option (Last A) → F → ℕ → List (Frame F A) → Past → Holding → Act (Thread F A)
  t_acts o f n xs p h = acts r.target there scene_t o f n xs p h

  failing_bad : (o : Option (Last B)) (g : G) (n : ℕ) (ys : List (Frame G B)) (q : Past) (k : Holding) →
      IsBad (after_step r o k) → IsBad (s_acts o g n ys q k)
  failing_bad None g n ys q k e = tt
  failing_bad (Some (Goes y)) g n ys q k e = absurd e
  failing_bad (Some (Takes lock y)) g n ys q k e = absurd e
  failing_bad (Some (Gives lock y)) g n ys q k e = absurd e
  failing_bad (Some (Puts word y)) g n ys q k e = absurd e
  failing_bad (Some (Calls function ws next)) g n ys q k e = absurd e
  failing_bad (Some (Tails function ws)) g n ys q k e = absurd e
  failing_bad (Some (Returns ws)) g n ys q k e = absurd e

  goes_quiet : (o : Option (Last B)) (g : G) (n : ℕ) (ys : List (Frame G B)) (q : Past) (k : Holding) (y' : Activity B)
      → after_step r o k ≡ Quiet y' → s_acts o g n ys q k ≡ Quiet (Runs g n y'.now 0 ys q y'.holding)
  goes_quiet (Some (Goes y)) g n ys q k y' e =
      let there : Activity B = record { now = y; holding = k } in
      let same : there ≡ y' = cc e in
      ap (λ (v : Activity B). Quiet (Runs g n v.now 0 ys q v.holding)) same
  goes_quiet None g n ys q k y' e = absurd (cc e)
  goes_quiet (Some (Takes lock y)) g n ys q k y' e = absurd (cc e)
  goes_quiet (Some (Gives lock y)) g n ys q k y' e = absurd (cc e)
  goes_quiet (Some (Puts word y)) g n ys q k y' e = absurd (cc e)
  goes_quiet (Some (Calls function ws next)) g n ys q k y' e = absurd (cc e)
  goes_quiet (Some (Tails function ws)) g n ys q k y' e = absurd (cc e)
  goes_quiet (Some (Returns ws)) g n ys q k y' e = absurd (cc e)

  fails_soon : (g : G) (n : ℕ) (ys : List (Frame G B)) (q : Past) (e : ℕ) {v : Activity B} {c : Block} →
      Quietly (act_alone r) (on_alone r) (λ y' c'. ⊥) v c → GoesWrong S (Runs g n v.now e ys q v.holding) c
  fails_soon g n ys q e (here h) = absurd h
  fails_soon g n ys q e (fails {y = v} m) =
      fails (failing_bad (s_step r v.now v.holding).last g n ys q (s_step r v.now v.holding).holding m)
  fails_soon g n ys q e (step {y = v} y' m go) = step (Runs g n y'.now 0 ys q y'.holding)
      (goes_quiet (s_step r v.now v.holding).last g n ys q (s_step r v.now v.holding).holding y' m)
      (fails_soon g n ys q 0 go)

  -- the source goes on to where the activations match
  going : (ls : List RunLabel) (f : F) (g : G) (n n' e : ℕ) (p q : Past) (h0 k0 : Holding) (x : A) (h : Holding)
      (b : Block) (xs : List (Frame F A)) (ys : List (Frame G B)) → r.by.made f g → n + 1 ≤ p.begun → n ≡ n' →
      Based outward xs → Frames h0 k0 n xs ys → (e' : ℕ) {v : Activity B} {c : Block} →
      Quietly (act_alone r) (on_alone r) (λ y' c'. Matched r (mom f g n p q h0 k0)
      (record { now = x; holding = h; block = b }) (position y' c')) v c →
      Fol ls (Runs f n x e xs p h) b (Runs g n' v.now e' ys q v.holding) c
  going ls f g n n' e p q h0 k0 x h b xs ys made less same based fr e' (here {y = v} m) =
      here (runs made less same m.states m.stands.match_memory based (frames_later h0 k0 h v.holding fr m.stands.frame))
  going ls f g n n' e p q h0 k0 x h b xs ys made less same based fr e' (fails {y = v} m) =
      fails (failing_bad (s_step r v.now v.holding).last g n' ys q (s_step r v.now v.holding).holding m)
  going ls f g n n' e p q h0 k0 x h b xs ys made less same based fr e' (step {y = v} y' m go) =
      step (Runs g n' y'.now 0 ys q y'.holding) (goes_quiet (s_step r v.now v.holding).last g n' ys q
      (s_step r v.now v.holding).holding y' m)
      (going ls f g n n' e p q h0 k0 x h b xs ys made less same based fr 0 go)

  -- the source goes on to a step that does the same at last
  meets_to : (ls : List RunLabel) (act : Act (Thread F A)) (b : Block) (m : Moment F G) (g : G) (n' : ℕ) (q : Past)
      (ys : List (Frame G B)) (last : Last A) (h' : Holding) →
      ((y : B) (k : Holding) (e : ℕ) (d : Block) → Within b d →
      LastAlike r m last h' (s_step r y k).last (s_step r y k).holding → Ans ls act b (Runs g n' y e ys q k) d) →
      (e : ℕ) {v : Activity B} {c : Block} → Quietly (act_alone r) (on_alone r)
      (λ y' c'. LastAlike r m last h' (s_step r y'.now y'.holding).last (s_step r y'.now y'.holding).holding) v c →
      Within b c → Ans ls act b (Runs g n' v.now e ys q v.holding) c
  meets_to ls act b m g n' q ys last h' go e (here {y = v} {c = c} l) w = go v.now v.holding e c w l
  meets_to ls act b m g n' q ys last h' go e (fails {y = v} {c = c} l) w =
      bad_answers ls act b (Runs g n' v.now e ys q v.holding) c
      (failing_bad (s_step r v.now v.holding).last g n' ys q (s_step r v.now v.holding).holding l)
  meets_to ls act b m g n' q ys last h' go e (step {y = v} {c = c} y' l more) w =
      let z' : Thread G B = Runs g n' y'.now 0 ys q y'.holding in
      quiet_answers ls act b (Runs g n' v.now e ys q v.holding) z' c
      (goes_quiet (s_step r v.now v.holding).last g n' ys q (s_step r v.now v.holding).holding y' l)
      (meets_to ls act b m g n' q ys last h' go 0 more (within_more S z' b c w))

  -- the source is at an act that does the same
  at_once : (ls : List RunLabel) (a : Act (Thread F A)) (b : Block) (z : Thread G B) (d : Block) (k : Act (Thread G B))
      → (IsQuiet a → ⊥) → S.act z ≡ k → Meets r.setting.edge T S Rel ls a k → Ans ls a b z d
  at_once ls (Quiet x) b z d k n e m = absurd (n tt)
  at_once ls (Emits event x) b z d k n e m =
      here (subst (λ (v : Act (Thread G B)). Meets r.setting.edge T S Rel ls (Emits event x) v) (sym e) m)
  at_once ls (Crosses f share next) b z d k n e m = here
      (subst (λ (v : Act (Thread G B)). Meets r.setting.edge T S Rel ls (Crosses f share next) v) (sym e) m)
  at_once ls (Locks lock next) b z d k n e m =
      here (subst (λ (v : Act (Thread G B)). Meets r.setting.edge T S Rel ls (Locks lock next) v) (sym e) m)
  at_once ls (Receives next) b z d k n e m =
      here (subst (λ (v : Act (Thread G B)). Meets r.setting.edge T S Rel ls (Receives next) v) (sym e) m)
  at_once ls Bad b z d k n e m =
      here (subst (λ (v : Act (Thread G B)). Meets r.setting.edge T S Rel ls Bad v) (sym e) m)
  at_once ls (Stops why) b z d k n e m =
      here (subst (λ (v : Act (Thread G B)). Meets r.setting.edge T S Rel ls (Stops why) v) (sym e) m)

  -- Locks.

  module _ (ls : List RunLabel) (b d : Block) (f : F) (g : G) (n n' : ℕ) (p q : Past) (xs : List (Frame F A))
      (ys : List (Frame G B)) (made : r.by.made f g) (less : n + 1 ≤ p.begun) (same : n ≡ n') (based : Based outward xs)
      (h k : Holding) (alike : r.by.match_memory p h q k) (fr : Frames h k n xs ys) (x : A) (y : B) (z : Thread G B)
    where
      -- after a label
      at_label : (l : RunLabel) (h' k' : Holding) → r.by.frame n h k h' k' → Ready r (mom f g n p q h' k') x 0 y 0 →
          Fol (l ∷ ls) (Runs f n x 0 xs p h') (begun T (Runs f n x 0 xs p h')) (Runs g n' y 0 ys q k')
          (begun S (Runs g n' y 0 ys q k'))
      at_label l h' k' later ready = going (l ∷ ls) f g n n' 0 p q h' k' x h' (begun T (Runs f n x 0 xs p h'))
          xs ys made less same based (frames_later h k h' k' fr later) 0 (ready nothing nothing (nothing_under nothing))

      module _ (lock : NameBytes) (ready : (num : ℕ) (ws : List ℕ) → guard_of r.setting.edge lock ≡ Some num →
          AreGuarded r.setting.edge num ws →
          Ready r (mom f g n p q (with_share h (with_lock h.share num ws)) (with_share k (with_lock k.share num ws)))
          x 0 y 0) where
        takes_free : (num : ℕ) → guard_of r.setting.edge lock ≡ Some num → (o : Option (List ℕ)) →
            S.act z ≡ takes_lock num o (λ ws. Runs g n' y 0 ys q (with_share k (with_lock k.share num ws))) →
            Ans ls (takes_lock num o (λ ws. Runs f n x 0 xs p (with_share h (with_lock h.share num ws)))) b z d
        takes_free num named None e =
            at_once ls (Locks num (λ ws. Runs f n x 0 xs p (with_share h (with_lock h.share num ws)))) b z d
            (Locks num (λ ws. Runs g n' y 0 ys q (with_share k (with_lock k.share num ws)))) (λ q. q) e (
              refl,
              λ ws guarded. at_label (Lock num ws) (with_share h (with_lock h.share num ws))
                  (with_share k (with_lock k.share num ws))
                  (is.steps.locks (mom f g n p q h k) alike num ws guarded).frame
                  (ready num ws named guarded),
            )
        takes_free num named (Some held) e = at_once ls (Stops (Taken num)) b z d (Stops (Taken num)) (λ q. q) e refl

        takes_too : (o : Option ℕ) → guard_of r.setting.edge lock ≡ o → S.act z ≡ takes o k (Runs g n' y 0 ys q) →
            Ans ls (takes o h (Runs f n x 0 xs p)) b z d
        takes_too None named e = fails (subst (λ (v : Act (Thread G B)). IsBad v) (sym e) tt)
        takes_too (Some num) named e =
            subst (λ (s : Share). Ans ls (takes_lock num (words_in s num)
            (λ ws. Runs f n x 0 xs p (with_share h (with_lock h.share num ws)))) b z d)
            (sym (is.is_match.shares p q h k alike)) (takes_free num named (words_in k.share num) e)

      module _ (lock : NameBytes) (ready : (num : ℕ) → guard_of r.setting.edge lock ≡ Some num →
          Ready r (mom f g n p q (with_share h (without_lock h.share num)) (with_share k (without_lock k.share num)))
          x 0 y 0) where
        gives_held : (num : ℕ) → guard_of r.setting.edge lock ≡ Some num → (o : Option (List ℕ)) →
            S.act z ≡ gives_lock num o (Runs g n' y 0 ys q (with_share k (without_lock k.share num))) →
            Ans ls (gives_lock num o (Runs f n x 0 xs p (with_share h (without_lock h.share num)))) b z d
        gives_held num named None e = fails (subst (λ (v : Act (Thread G B)). IsBad v) (sym e) tt)
        gives_held num named (Some held) e =
            at_once ls (Emits (Unlocks num held) (Runs f n x 0 xs p (with_share h (without_lock h.share num)))) b z d
            (Emits (Unlocks num held) (Runs g n' y 0 ys q (with_share k (without_lock k.share num)))) (λ q. q) e (
              refl,
              at_label (Unlock num held) (with_share h (without_lock h.share num))
                  (with_share k (without_lock k.share num)) (is.steps.unlocks (mom f g n p q h k) alike num).frame
                  (ready num named),
            )

        gives_too : (o : Option ℕ) → guard_of r.setting.edge lock ≡ o → S.act z ≡ gives o k (Runs g n' y 0 ys q) →
            Ans ls (gives o h (Runs f n x 0 xs p)) b z d
        gives_too None named e = fails (subst (λ (v : Act (Thread G B)). IsBad v) (sym e) tt)
        gives_too (Some num) named e =
            subst (λ (s : Share). Ans ls (gives_lock num (words_in s num)
            (Runs f n x 0 xs p (with_share h (without_lock h.share num)))) b z d)
            (sym (is.is_match.shares p q h k alike)) (gives_held num named (words_in k.share num) e)

      puts_too : (word : ℕ) → Ready r (mom f g n p q h k) x 0 y 0 →
          S.act z ≡ Emits (Prints word) (Runs g n' y 0 ys q k) →
          Ans ls (Emits (Prints word) (Runs f n x 0 xs p h)) b z d
      puts_too word ready e = at_once ls (Emits (Prints word) (Runs f n x 0 xs p h)) b z d
          (Emits (Prints word) (Runs g n' y 0 ys q k)) (λ q. q) e
          (refl, at_label (Out word) h k (is.is_frame.at_once n h k) ready)

  -- What crosses.

  waiting_within : (c : Block) → waiting_price r.target.tariff r.targets ≤ c.price →
      Within (and_step nothing (waiting_price r.target.tariff r.targets) nothing_touched) c
  waiting_within c le = record { price = omega (arith, le); writes = λ w h. elim h [ ]; reads = λ w h. elim h [ ] }

  pub waits_within : Within (and_step nothing (waiting_price r.target.tariff r.targets) nothing_touched)
      (and_step nothing (waiting_price r.source.tariff r.sources) nothing_touched)
  waits_within = let le = pays.waits in waiting_within _ (omega (arith, le))

  module _ (ls : List RunLabel) (p q : Past) (h k : Holding) (alike : r.by.settled p h q k) (vs ws : List Value)
      (same : AllMatch r vs ws) (xs : List (Frame F A)) (ys : List (Frame G B)) (fr : Frames h k p.begun xs ys)
      (out : outward ≡ true) where
    each_out : (label_by : Names → RunLabel) → ((n : Names) → crossed (label_by n ∷ ls) ≡ n.objects) →
        (n : Names) (y : Thread G B) (o : Option Naming) → named_as r.setting.layout ws q k n ≡ o →
        to_outside ys q k o ≡ Some y → (x : Thread F A) × (to_outside xs p h (named_as r.placed vs p h n) ≡ Some x)
        × Fol (label_by n ∷ ls) x (begun T x) y (begun S y)
    each_out label_by shows n y None e f = absurd (cc f)
    each_out label_by shows n y (Some ns) e f =
        let m = is.crossings.crosses p q h k alike vs ws same n ns e in
        let so = named_so r.setting.layout ws q k n ns e in
        let there : Away ys (with_naming q ns) k ≡ y = cc f in
        let to : Thread F A = Away xs (with_naming p m.0) h in (
          to,
          ap (λ (o : Option Naming). to_outside xs p h o) m.1,
          subst
              (λ v. Fol (label_by n ∷ ls) to (begun T to) v (begun S v)) there
              (here (away out waits_within m.2 (shows n ∙ sym so.objects) fr)),
        )

    -- the source's crossing has a name where it can be shown
    crosses_too : (function : Option NameBytes) →
        ((n : Names) → crossed (crossing_by function k.share n ∷ ls) ≡ n.objects) → (b d : Block) (z : Thread G B) →
        S.act z ≡ crosses_out r.setting.layout function ws ys q k →
        Ans ls (crosses_out r.placed function vs xs p h) b z d
    crosses_too function shows b d z f = by (can_cross r.setting.layout q ws) refl f
      where
        by : (t : Bool) → can_cross r.setting.layout q ws ≡ t →
            S.act z ≡ crosses_if t function k.share
            (λ names. to_outside ys q k (named_as r.setting.layout ws q k names)) →
            Ans ls (crosses_out r.placed function vs xs p h) b z d
        by false e g = bad_answers ls (crosses_out r.placed function vs xs p h) b z d
            (subst (λ (v : Act (Thread G B)). IsBad v) (sym g) tt)
        by true e g =
            let some = some_names r.setting.layout ws q k e in
            let next : Names → Option (Thread F A) = λ names. to_outside xs p h (named_as r.placed vs p h names) in
            let s_next : Names → Option (Thread G B) =
            λ names. to_outside ys q k (named_as r.setting.layout ws q k names) in
            subst (λ t. Ans ls (crosses_if t function h.share next) b z d)
            (sym (is.crossings.shows p q h k alike vs ws same e))
            (at_once ls (Crosses function h.share next) b z d (Crosses function k.share s_next) (λ q. q) g (
              refl,
              is.is_match.shares p q h k (is.is_match.matches p q h k alike),
              record {
                names = some.names;
                to = Away ys (with_naming q some.naming) k;
                has_names = ap (λ (o : Option Naming). to_outside ys q k o) some.named;
                each = λ n y i. each_out (crossing_by function k.share) shows n y (named_as r.setting.layout ws q k n)
                    refl i;
              },
            ))

    leaves_too : (b d : Block) (z : Thread G B) → S.act z ≡ crosses_out r.setting.layout None ws ys q k →
        Ans ls (crosses_out r.placed None vs xs p h) b z d
    leaves_too b d z e = crosses_too None (λ n. refl) b d z e

  each_calls : (ls : List RunLabel) (p q : Past) (h k : Holding) → r.by.settled p h q k → (vs ws : List Value) →
      AllMatch r vs ws → (xs : List (Frame F A)) (ys : List (Frame G B)) → Frames h k p.begun xs ys →
      (function : NameBytes) (b d : Block) (z : Thread G B) → (o : Bool) → outward ≡ o →
      S.act z ≡ calls_out r.source r.setting scene_s o function ws ys q k →
      Ans ls (calls_out r.target there scene_t o function vs xs p h) b z d
  each_calls ls p q h k alike vs ws same xs ys fr function b d z false out e =
      fails (subst (λ (v : Act (Thread G B)). IsBad v) (sym e) tt)
  each_calls ls p q h k alike vs ws same xs ys fr function b d z true out e =
      crosses_too ls p q h k alike vs ws same xs ys fr out (Some function) (λ n. refl) b d z e

  -- Calls within.

  begins_going : (ls : List RunLabel) (f : F) (g : G) → r.by.made f g → (p q : Past) (h k : Holding) →
      r.by.settled p h q k → (xs : List (Frame F A)) (ys : List (Frame G B)) → Based outward xs →
      Frames h k p.begun xs ys → (x : A) (y : B) (b d : Block) → Within b d →
      Ready r (mom f g p.begun (one_begun r.target p) (one_begun r.source q) (with_own r.target f p.begun h)
      (with_own r.source g q.begun k)) x (first_price r.target.tariff r.target.blocks f) y
      (first_price r.source.tariff r.source.blocks g) →
      Fol ls (begins r.target f x xs p h) (onward T b (begins r.target f x xs p h)) (begins r.source g y ys q k)
      (onward S d (begins r.source g y ys q k))
  begins_going ls f g made p q h k alike xs ys based fr x y b d w ready =
      let h' = with_own r.target f p.begun h in
      let k' = with_own r.source g q.begun k in
      going ls f g p.begun q.begun (first_price r.target.tariff r.target.blocks f) (one_begun r.target p)
      (one_begun r.source q) h' k' x h' (onward T b (begins r.target f x xs p h)) xs ys made (omega arith)
      (is.is_match.begun p q h k (is.is_match.matches p q h k alike)) based
      (frames_later h k h' k' fr (is.steps.begins f g made p q h k alike).frame)
      (first_price r.source.tariff r.source.blocks g) (ready b d w)

  begins_too : (ls : List RunLabel) (f : F) (g : G) → r.by.made f g → (p q : Past) (h k : Holding) →
      r.by.settled p h q k → (xs : List (Frame F A)) (ys : List (Frame G B)) → Based outward xs →
      Frames h k p.begun xs ys → (b d : Block) (z : Thread G B) → Within b d → (o : Option A) (o' : Option B) →
      ReadyIf r (mom f g p.begun (one_begun r.target p) (one_begun r.source q) (with_own r.target f p.begun h)
      (with_own r.source g q.begun k)) o (first_price r.target.tariff r.target.blocks f) o'
      (first_price r.source.tariff r.source.blocks g) → S.act z ≡ calls_in r.source g o' ys q k →
      Ans ls (calls_in r.target f o xs p h) b z d
  begins_too ls f g made p q h k alike xs ys based fr b d z w None None ready e =
      fails (subst (λ (v : Act (Thread G B)). IsBad v) (sym e) tt)
  begins_too ls f g made p q h k alike xs ys based fr b d z w (Some x) None ready e =
      fails (subst (λ (v : Act (Thread G B)). IsBad v) (sym e) tt)
  begins_too ls f g made p q h k alike xs ys based fr b d z w None (Some y) ready e = absurd ready
  begins_too ls f g made p q h k alike xs ys based fr b d z w (Some x) (Some y) ready e =
      step (begins r.source g y ys q k) e (begins_going ls f g made p q h k alike xs ys based fr x y b d w ready)

  calls_too : (ls : List RunLabel) (p q : Past) (h k : Holding) → r.by.settled p h q k → (vs ws : List Value) →
      AllMatch r vs ws → (xs : List (Frame F A)) (ys : List (Frame G B)) → Based outward xs → Frames h k p.begun xs ys →
      (function : NameBytes) (b d : Block) (z : Thread G B) → Within b d → (o : Option F) (o' : Option G) →
      FoundAlike r.by.made o o' → S.act z ≡ calls r.source r.setting scene_s o' function ws ys q k →
      Ans ls (calls r.target there scene_t o function vs xs p h) b z d
  calls_too ls p q h k alike vs ws same xs ys based fr function b d z w None None found e =
      each_calls ls p q h k alike vs ws same xs ys fr function b d z outward refl e
  calls_too ls p q h k alike vs ws same xs ys based fr function b d z w None (Some g) found e = absurd found
  calls_too ls p q h k alike vs ws same xs ys based fr function b d z w (Some f) None found e = absurd found
  calls_too ls p q h k alike vs ws same xs ys based fr function b d z w (Some f) (Some g) found e =
      begins_too ls f g found p q h k alike xs ys based fr b d z w (r.target.enter f p.begun vs)
      (r.source.enter g q.begun ws) (ok.enters f g found p q h k alike vs ws same) e

  -- Returns.

  -- the source's activation returns at once, and nothing of it is left
  passing_on : (g : G) (next : List Value → Option B) (n e : ℕ) (ys : List (Frame G B)) (q : Past) (k : Holding)
      (ws : List Value) (y : B) → r.source.blocks g ≡ [] → r.source.form y ≡ Then (Returns ws) →
      S.act (Runs g n y e ys q k) ≡ returns r.setting.layout ws ys q k
  passing_on g next n e ys q k ws y none form =
      ap (λ (v : _). s_acts (performed r.setting.edge v (record { holding = k; footprint = nothing_touched })).last g n
      ys q (performed r.setting.edge v (record { holding = k; footprint = nothing_touched })).holding) form
      ∙ ap (λ (v : List ℕ). returns r.setting.layout ws ys q
      (record { share = k.share; memory = set_blocks gone k.memory (r.source.name g) n 0 v })) none

  -- it only goes on
  going_on : (g : G) (n e : ℕ) (ys : List (Frame G B)) (q : Past) (k : Holding) (y y' : B) →
      r.source.form y ≡ Then (Goes y') → S.act (Runs g n y e ys q k) ≡ Quiet (Runs g n y' 0 ys q k)
  going_on g n e ys q k y y' form =
      ap (λ (v : _). s_acts (performed r.setting.edge v (record { holding = k; footprint = nothing_touched })).last g n
      ys q (performed r.setting.edge v (record { holding = k; footprint = nothing_touched })).holding) form

  goes_back_too : (ls : List RunLabel) (f : F) (g : G) (n n' : ℕ) (p q : Past) (h k : Holding) → r.by.made f g →
      n + 1 ≤ p.begun → n ≡ n' → (xs : List (Frame F A)) (ys : List (Frame G B)) → Based outward xs →
      Frames h k n xs ys → (b d : Block) (z : Thread G B) → Within b d → (o : Option A) (o' : Option B) →
      ReadyIf r (mom f g n p q h k) o 0 o' 0 → S.act z ≡ goes_back g n' o' ys q k →
      Ans ls (goes_back f n o xs p h) b z d
  goes_back_too ls f g n n' p q h k made less same xs ys based fr b d z w None None ready e =
      fails (subst (λ (v : Act (Thread G B)). IsBad v) (sym e) tt)
  goes_back_too ls f g n n' p q h k made less same xs ys based fr b d z w (Some x) None ready e =
      fails (subst (λ (v : Act (Thread G B)). IsBad v) (sym e) tt)
  goes_back_too ls f g n n' p q h k made less same xs ys based fr b d z w None (Some y) ready e = absurd ready
  goes_back_too ls f g n n' p q h k made less same xs ys based fr b d z w (Some x) (Some y) ready e =
      step (Runs g n' y 0 ys q k) e (going ls f g n n' 0 p q h k x h (onward T b (Runs f n x 0 xs p h))
      xs ys made less same based fr 0 (ready b d w))

  -- The results that are taken.

  -- the source's values are the same as the target's first ones
  abbrev FirstSame : List Value → List Value → Type 0
  FirstSame vs [] = Unit {0}
  FirstSame [] (w ∷ ws) = ⊥
  FirstSame (v ∷ vs) (w ∷ ws) = r.by.match_values v w × FirstSame vs ws

  all_first : (vs ws : List Value) → AllMatch r vs ws → FirstSame vs ws
  all_first [] [] s = tt
  all_first [] (w ∷ ws) s = absurd s
  all_first (v ∷ vs) [] s = tt
  all_first (v ∷ vs) (w ∷ ws) s = (s.0, all_first vs ws s.1)

  fewer_first : (vs us more : List Value) → FirstSame vs (us ++ more) → FirstSame vs us
  fewer_first vs [] more s = tt
  fewer_first [] (u ∷ us) more s = absurd s
  fewer_first (v ∷ vs) (u ∷ us) more s = (s.0, fewer_first vs us more s.1)

  none_same : (o : Option (List Value)) → MatchIf r o None
  none_same None = tt
  none_same (Some vs) = tt

  first_kept : (c : ℕ) (vs ws : List Value) → FirstSame vs ws → MatchIf r (first_values c vs) (first_values c ws)
  first_kept zero vs ws s = tt
  first_kept (suc c) [] [] s = tt
  first_kept (suc c) (v ∷ vs) [] s = none_same (first_values (suc c) (v ∷ vs))
  first_kept (suc c) [] (w ∷ ws) s = absurd s
  first_kept (suc c) (v ∷ vs) (w ∷ ws) s = add (first_values c vs) (first_values c ws) (first_kept c vs ws s.1)
    where
      add : (o o' : Option (List Value)) → MatchIf r o o' →
          MatchIf r (and_then o (λ us. Some (v ∷ us))) (and_then o' (λ us. Some (w ∷ us)))
      add o None i = none_same (and_then o (λ us. Some (v ∷ us)))
      add None (Some xs) i = absurd i
      add (Some us) (Some xs) i = (s.0, i)

  kept_same : (results : Option ℕ) (vs ws : List Value) → FirstSame vs ws →
      MatchIf r (kept_results results vs) (kept_results results ws)
  kept_same None vs ws s = tt
  kept_same (Some c) vs ws s = first_kept c vs ws s

  -- what is kept are the first values
  record KeptOf (results : Option ℕ) (ws us : List Value) : Type 0 where
    count : results ≡ Some (length us)
    more : List Value
    are : ws ≡ us ++ more

  first_of : (c : ℕ) (ws us : List Value) → first_values c ws ≡ Some us → KeptOf (Some c) ws us
  first_of zero ws us e = let none : [] ≡ us = cc e in
      subst (λ v. KeptOf (Some 0) ws v) none (record { count = refl; more = ws; are = refl })
  first_of (suc c) [] us e = absurd (cc e)
  first_of (suc c) (w ∷ ws) us e = by (first_values c ws) refl (λ xs i. first_of c ws xs i) e
    where
      by : (o : Option (List Value)) → first_values c ws ≡ o →
          ((xs : List Value) → first_values c ws ≡ Some xs → KeptOf (Some c) ws xs) →
          and_then o (λ xs. Some (w ∷ xs)) ≡ Some us → KeptOf (Some (suc c)) (w ∷ ws) us
      by None i kept j = absurd (cc j)
      by (Some xs) i kept j =
          let rest = kept xs i in
          let same : w ∷ xs ≡ us = cc j in
          let count : c ≡ length xs = cc rest.count in
          subst (λ v. KeptOf (Some (suc c)) (w ∷ ws) v) same
          (record { count = ap (λ n. Some (suc n)) count; more = rest.more; are = ap (λ v. w ∷ v) rest.are })

  kept_of : (results : Option ℕ) (ws us : List Value) → kept_results results ws ≡ Some us → KeptOf results ws us
  kept_of None ws us e = absurd (cc e)
  kept_of (Some c) ws us e = first_of c ws us e

  none_ready : (f : F) (g : G) (n : ℕ) (p q : Past) (o : Option A) (h k : Holding) →
      ReadyIf r (mom f g n p q h k) o 0 None 0
  none_ready f g n p q None h k = tt
  none_ready f g n p q (Some x) h k = tt

  -- both go on with what is kept
  ready_kept : (f : F) (g : G) (n : ℕ) (p q : Past) (h k : Holding) → r.by.settled p h q k →
      (results : Option ℕ) (next : List Value → Option A) (next' : List Value → Option B) →
      WaitAlike r (mom f g n no_past no_past h k) results next next' → (o o' : Option (List Value)) → MatchIf r o o' →
      ((us : List Value) → o' ≡ Some us → results ≡ Some (length us)) →
      ReadyIf r (mom f g n p q h k) (and_then o next) 0 (and_then o' next') 0
  ready_kept f g n p q h k alike results next next' wait o None same count = none_ready f g n p q (and_then o next) h k
  ready_kept f g n p q h k alike results next next' wait None (Some ws) same count = absurd same
  ready_kept f g n p q h k alike results next next' wait (Some vs) (Some ws) same count =
      wait p q h k (is.is_frame.at_once (n + 1) h k) alike vs ws same (count ws refl)

  waits_ready : (f : F) (g : G) (n : ℕ) (p q : Past) (h k : Holding) → r.by.settled p h q k →
      (results : Option ℕ) (next : List Value → Option A) (next' : List Value → Option B) →
      WaitAlike r (mom f g n no_past no_past h k) results next next' → (vs ws : List Value) → FirstSame vs ws →
      ReadyIf r (mom f g n p q h k) (and_then (kept_results results vs) next) 0
      (and_then (kept_results results ws) next') 0
  waits_ready f g n p q h k alike results next next' wait vs ws s =
      ready_kept f g n p q h k alike results next next' wait (kept_results results vs) (kept_results results ws)
      (kept_same results vs ws s) (λ us e. let kept = kept_of results ws us e in kept.count)

  -- the source's step fails at once
  failing_form : (g : G) (n e : ℕ) (ys : List (Frame G B)) (q : Past) (k : Holding) (y : B) → r.source.form y ≡ Fails →
      IsBad (S.act (Runs g n y e ys q k))
  failing_form g n e ys q k y form =
      subst (λ (v : _). IsBad
      (s_acts (performed r.setting.edge v (record { holding = k; footprint = nothing_touched })).last g n ys q
      (performed r.setting.edge v (record { holding = k; footprint = nothing_touched })).holding)) (sym form) tt

  module _ (ls : List RunLabel) (p q : Past) (h k : Holding) (alike : r.by.settled p h q k) (vs : List Value)
      (b : Block) where
    over_within : Within (begun T Over) (begun S Over)
    over_within = waits_within

    leaves_kept : (xs : List (Frame F A)) (ys : List (Frame G B)) → Frames h k p.begun xs ys → outward ≡ true →
        (o o' : Option (List Value)) → MatchIf r o o' → (d : Block) (z : Thread G B) →
        S.act z ≡ leaves_with r.setting.layout o' ys q k → Ans ls (leaves_with r.placed o xs p h) b z d
    leaves_kept xs ys fr out o None same d z e = bad_answers ls (leaves_with r.placed o xs p h) b z d
        (subst (λ (v : Act (Thread G B)). IsBad v) (sym e) tt)
    leaves_kept xs ys fr out None (Some ws) same d z e = absurd same
    leaves_kept xs ys fr out (Some us) (Some ws) same d z e =
        leaves_too ls p q h k alike us ws same xs ys fr out b d z e

    -- what the source does from here with a result that is only passed on
    passes_from : (n : ℕ) (g : G) (ys : List (Frame G B)) (a : Act (Thread F A)) (next : List Value → Option B) →
        r.source.blocks g ≡ [] → (ws' : List Value) → FirstSame vs ws' → ((us : List Value) → FirstSame vs us →
        (z' : Thread G B) (d' : Block) → Within b d' → S.act z' ≡ returns r.setting.layout us ys q k → Ans ls a b z' d')
        → (y : B) → PassesOn r ws' (Some y) → (d : Block) → Within b d → Ans ls a b (Runs g n y 0 ys q k) d
    passes_from n g ys a next none ws' s more y (fails_then form) d w =
        bad_answers ls a b (Runs g n y 0 ys q k) d (failing_form g n 0 ys q k y form)
    passes_from n g ys a next none ws' s more y (goes_then {y' = y'} form rest) d w =
        let z' : Thread G B = Runs g n y' 0 ys q k in
        quiet_answers ls a b (Runs g n y 0 ys q k) z' d (going_on g n 0 ys q k y y' form)
        (passes_from n g ys a next none ws' s more y' rest (onward S d z') (within_more S z' b d w))
    passes_from n g ys a next none ws' s more y (returns_first us rest are form le) d w =
        more us (fewer_first vs us rest (subst (λ v. FirstSame vs v) are s)) (Runs g n y 0 ys q k) d w
        (passing_on g next n 0 ys q k us y none form)

    passes_on : (n : ℕ) (g : G) (results : Option ℕ) (ys : List (Frame G B)) (a : Act (Thread F A))
        (next : List Value → Option B) → OnlyPasses r g results next → (ws : List Value) → FirstSame vs ws →
        (d : Block) (z : Thread G B) → Within b d → ((us : List Value) → FirstSame vs us →
        (z' : Thread G B) (d' : Block) → Within b d' → S.act z' ≡ returns r.setting.layout us ys q k → Ans ls a b z' d')
        → S.act z ≡ goes_back g n (and_then (kept_results results ws) next) ys q k → Ans ls a b z d
    passes_on n g results ys a next only ws s d z w more e = kept (kept_results results ws) refl e
      where
        bad : S.act z ≡ goes_back g n None ys q k → Ans ls a b z d
        bad f = bad_answers ls a b z d (subst (λ (v : Act (Thread G B)). IsBad v) (sym f) tt)

        on : (ws' : List Value) → FirstSame vs ws' → (o : Option B) → PassesOn r ws' o →
            S.act z ≡ goes_back g n o ys q k → Ans ls a b z d
        on ws' s' None cannot_go_on f = bad f
        on ws' s' (Some y) passes f =
            let z' : Thread G B = Runs g n y 0 ys q k in
            quiet_answers ls a b z z' d f (passes_from n g ys a next only.0 ws' s' more y passes (onward S d z')
            (within_more S z' b d w))

        kept : (o : Option (List Value)) → kept_results results ws ≡ o →
            S.act z ≡ goes_back g n (and_then o next) ys q k → Ans ls a b z d
        kept None i f = bad f
        kept (Some ws') i f = let kept = kept_of results ws ws' i in
            on ws' (fewer_first vs ws' kept.more (subst (λ v. FirstSame vs v) kept.are s)) (next ws')
            (only.1 ws' kept.count) f

    returns_too : {m : ℕ} {xs : List (Frame F A)} {ys : List (Frame G B)} → Frames h k m xs ys → m ≤ p.begun →
        Based outward xs → (ws : List Value) → FirstSame vs ws → (d : Block) (z : Thread G B) → Within b d →
        S.act z ≡ returns r.setting.layout ws ys q k → Ans ls (returns r.placed vs xs p h) b z d
    returns_too bottom less based ws s d z w e = at_once ls (Emits Ends Over) b z d (Emits Ends Over) (λ q. q) e
        (refl, here (over over_within))
    returns_too (outer {results = results} {xs = xs} {ys = ys} out fr) less based ws s d z w e =
        leaves_kept xs ys (frames_wider h k p.begun less fr) out (kept_results results vs) (kept_results results ws)
        (kept_same results vs ws s) d z e
    returns_too (under {n = n} {n' = n'} {f = f} {g = g} {results = results} {next = next} {next' = next'} {xs = xs}
        {ys = ys} below' equal made wait under' fr) less based ws s d z w e =
        goes_back_too ls f g n n' p q h k made (omega (arith, below', less)) equal xs ys under' fr b d z w
        (and_then (kept_results results vs) next) (and_then (kept_results results ws) next')
        (waits_ready f g n p q h k alike results next next' wait vs ws s) e
    returns_too (passed {n = n} {g = g} {results = results} {next' = next'} {xs = xs} {ys = ys} only under' fr)
        less based ws s d z w e =
        passes_on n g results ys (returns r.placed vs xs p h) next' only ws s d z w
        (λ us s' z' d' w' e'. returns_too fr less based us s' d' z' w' e') e

  -- A step of the target's activation.

  module _ (all_t : AllFound r.target r.source r.by.made ins_t ins_s) where
    module _ (ls : List RunLabel) (b c : Block) (f : F) (g : G) (n n' e' : ℕ) (p q : Past) (xs : List (Frame F A))
        (ys : List (Frame G B)) (made : r.by.made f g) (less : n + 1 ≤ p.begun) (same : n ≡ n')
        (based : Based outward xs) (h0 k0 : Holding) (alike : r.by.match_memory p h0 q k0) (fr : Frames h0 k0 n xs ys)
        (w : Within b c) where
      -- the moment at which the step's accesses are made
      frames_now : (h k : Holding) → r.by.frame n h0 k0 h k → Frames h k n xs ys
      frames_now h k l = frames_later h0 k0 h k fr l

      act_is : (y : B) (k : Holding) (e : ℕ) (last : Last B) → (s_step r y k).last ≡ Some last →
          S.act (Runs g n' y e ys q k) ≡ s_acts (Some last) g n' ys q (s_step r y k).holding
      act_is y k e last h = ap (λ (v : Option (Last B)). s_acts v g n' ys q (s_step r y k).holding) h

      ends_stands : (h k : Holding) → r.by.settled p h q k →
          Settles r (mom f g n p q h k) (without_own r.target f n h) (without_own r.source g n' k)
      ends_stands h k a =
          subst (λ v. Settles r (mom f g n p q h k) (without_own r.target f n h) (without_own r.source g v k)) same
          (is.steps.ends (mom f g n p q h k) made a)

      at_takes : (lock : NameBytes) (x : A) (h : Holding) (y : B) (k : Holding) (e : ℕ) (d : Block) → Within b d →
          LastAlike r (mom f g n p q h0 k0) (Takes lock x) h (s_step r y k).last (s_step r y k).holding →
          Ans ls (t_acts (Some (Takes lock x)) f n xs p h) b (Runs g n' y e ys q k) d
      at_takes lock x h y k e d v m =
          let k' = (s_step r y k).holding in
          takes_too ls b d f g n n' p q xs ys made less same based h k' m.2.match_memory (frames_now h k' m.2.frame)
          x m.0 (Runs g n' y e ys q k) lock m.3 (guard_of r.setting.edge lock) refl
          (act_is y k e (Takes lock m.0) m.1)

      at_gives : (lock : NameBytes) (x : A) (h : Holding) (y : B) (k : Holding) (e : ℕ) (d : Block) → Within b d →
          LastAlike r (mom f g n p q h0 k0) (Gives lock x) h (s_step r y k).last (s_step r y k).holding →
          Ans ls (t_acts (Some (Gives lock x)) f n xs p h) b (Runs g n' y e ys q k) d
      at_gives lock x h y k e d v m =
          let k' = (s_step r y k).holding in
          gives_too ls b d f g n n' p q xs ys made less same based h k' m.2.match_memory (frames_now h k' m.2.frame)
          x m.0 (Runs g n' y e ys q k) lock m.3 (guard_of r.setting.edge lock) refl
          (act_is y k e (Gives lock m.0) m.1)

      at_puts : (word : ℕ) (x : A) (h : Holding) (y : B) (k : Holding) (e : ℕ) (d : Block) → Within b d →
          LastAlike r (mom f g n p q h0 k0) (Puts word x) h (s_step r y k).last (s_step r y k).holding →
          Ans ls (t_acts (Some (Puts word x)) f n xs p h) b (Runs g n' y e ys q k) d
      at_puts word x h y k e d v m =
          let k' = (s_step r y k).holding in
          puts_too ls b d f g n n' p q xs ys made less same based h k' m.2.match_memory (frames_now h k' m.2.frame)
          x m.0 (Runs g n' y e ys q k) word m.3 (act_is y k e (Puts word m.0) m.1)

      at_calls : (function : NameBytes) (vs : List Value) (next : List Value → Option A) (h : Holding) (y : B)
          (k : Holding) (e : ℕ) (d : Block) → Within b d →
          LastAlike r (mom f g n p q h0 k0) (Calls function vs next) h (s_step r y k).last (s_step r y k).holding →
          Ans ls (t_acts (Some (Calls function vs next)) f n xs p h) b (Runs g n' y e ys q k) d
      at_calls function vs next h y k e d v m =
          let k' = (s_step r y k).holding in
          calls_too ls p q h k' m.4.settled vs m.0 m.3 (Waits f n (results_of r.setting.edge function) next ∷ xs)
          (Waits g n' (results_of r.setting.edge function) m.1 ∷ ys) based
          (under less same made m.5 based (frames_now h k' m.4.frame)) function b d (Runs g n' y e ys q k) v
          (find r.target ins_t function) (find r.source ins_s function) (all_t function)
          (act_is y k e (Calls function m.0 m.1) m.2)

      at_tail : (function : NameBytes) (vs : List Value) (h : Holding) (y : B) (k : Holding) (e : ℕ) (d : Block) →
          Within b d → (o : Option (Last B)) (k' : Holding) → S.act (Runs g n' y e ys q k) ≡ s_acts o g n' ys q k' →
          TailAlike r (mom f g n p q h0 k0) function vs h k' o →
          Ans ls (t_acts (Some (Tails function vs)) f n xs p h) b (Runs g n' y e ys q k) d
      at_tail function vs h y k e d v o k' a (tail ws alike' s) =
          let ends = ends_stands h k' s.settled in
          let h1 = without_own r.target f n h in
          let k1 = without_own r.source g n' k' in
          calls_too ls p q h1 k1 ends.settled vs ws alike' xs ys based
          (frames_wider h1 k1 p.begun (omega (arith, less))
          (frames_later h k' h1 k1 (frames_now h k' s.frame) ends.frame)) function b d (Runs g n' y e ys q k) v
          (find r.target ins_t function) (find r.source ins_s function) (all_t function) a
      at_tail function vs h y k e d v o k' a (passing ws next alike' s only) =
          let h1 = without_own r.target f n h in
          calls_too ls p q h1 k' s.settled vs ws alike' xs (Waits g n' (results_of r.setting.edge function) next ∷ ys)
          based (passed only based (frames_wider h1 k' p.begun (omega (arith, less)) (frames_now h1 k' s.frame)))
          function b d (Runs g n' y e ys q k) v
          (find r.target ins_t function) (find r.source ins_s function) (all_t function) a

      at_returns : (vs : List Value) (h : Holding) (y : B) (k : Holding) (e : ℕ) (d : Block) → Within b d →
          LastAlike r (mom f g n p q h0 k0) (Returns vs) h (s_step r y k).last (s_step r y k).holding →
          Ans ls (t_acts (Some (Returns vs)) f n xs p h) b (Runs g n' y e ys q k) d
      at_returns vs h y k e d v m =
          let k' = (s_step r y k).holding in
          let ends = ends_stands h k' m.3.settled in
          let h1 = without_own r.target f n h in
          let k1 = without_own r.source g n' k' in
          returns_too ls p q h1 k1 ends.settled vs b (frames_later h k' h1 k1 (frames_now h k' m.3.frame) ends.frame)
          (omega (arith, less)) based m.0 (all_first vs m.0 m.2) d (Runs g n' y e ys q k) v
          (act_is y k e (Returns m.0) m.1)

      at_last : (y : B) (o : Option (Last A)) (h : Holding) → Does r (mom f g n p q h0 k0) o h b y c →
          Ans ls (t_acts o f n xs p h) b (Runs g n' y e' ys q k0) c
      at_last y None h m = fails_soon g n' ys q e' m
      at_last y (Some (Goes x)) h m = going ls f g n n' 0 p q h0 k0 x h (onward T b (Runs f n x 0 xs p h))
          xs ys made less same based fr e' m
      at_last y (Some (Takes lock x)) h m = meets_to ls (t_acts (Some (Takes lock x)) f n xs p h) b
          (mom f g n p q h0 k0) g n' q ys (Takes lock x) h (at_takes lock x h) e' m w
      at_last y (Some (Gives lock x)) h m = meets_to ls (t_acts (Some (Gives lock x)) f n xs p h) b
          (mom f g n p q h0 k0) g n' q ys (Gives lock x) h (at_gives lock x h) e' m w
      at_last y (Some (Puts word x)) h m = meets_to ls (t_acts (Some (Puts word x)) f n xs p h) b (mom f g n p q h0 k0)
          g n' q ys (Puts word x) h (at_puts word x h) e' m w
      at_last y (Some (Calls function vs next)) h m = meets_to ls (t_acts (Some (Calls function vs next)) f n xs p h) b
          (mom f g n p q h0 k0) g n' q ys (Calls function vs next) h (at_calls function vs next h) e' m w
      at_last y (Some (Tails function vs)) h m =
          meets_to ls (t_acts (Some (Tails function vs)) f n xs p h) b (mom f g n p q h0 k0) g n' q ys
          (Tails function vs) h (λ y' k e d v a. at_tail function vs h y' k e d v (s_step r y' k).last
          (s_step r y' k).holding refl a) e' m w
      at_last y (Some (Returns vs)) h m = meets_to ls (t_acts (Some (Returns vs)) f n xs p h) b (mom f g n p q h0 k0)
          g n' q ys (Returns vs) h (at_returns vs h) e' m w

  -- What the outside brings.

  pub enters_too : (ls : List RunLabel) (p q : Past) (h k : Holding) → r.by.settled p h q k →
      (xs : List (Frame F A)) (ys : List (Frame G B)) → Based outward xs → Frames h k p.begun xs ys →
      (o : Option F) (o' : Option G) (vs ws : Option (List Value)) → FoundAlike r.by.made o o' → MatchIf r vs ws →
      Fol ls (enters r.target o vs xs p h) (begun T (enters r.target o vs xs p h)) (enters r.source o' ws ys q k)
      (begun S (enters r.source o' ws ys q k))
  enters_too ls p q h k alike xs ys based fr None None vs ws found same = here (broken tt)
  enters_too ls p q h k alike xs ys based fr None (Some g) vs ws found same = absurd found
  enters_too ls p q h k alike xs ys based fr (Some f) None vs ws found same = absurd found
  enters_too ls p q h k alike xs ys based fr (Some f) (Some g) vs None found same = here (broken tt)
  enters_too ls p q h k alike xs ys based fr (Some f) (Some g) None (Some ws) found same = absurd same
  enters_too ls p q h k alike xs ys based fr (Some f) (Some g) (Some vs) (Some ws) found same =
      at (r.target.enter f p.begun vs) (r.source.enter g q.begun ws) (ok.enters f g found p q h k alike vs ws same)
    where
      at : (o : Option A) (o' : Option B) →
          ReadyIf r (mom f g p.begun (one_begun r.target p) (one_begun r.source q) (with_own r.target f p.begun h)
          (with_own r.source g q.begun k)) o (first_price r.target.tariff r.target.blocks f) o'
          (first_price r.source.tariff r.source.blocks g) →
          Fol ls (enters_at r.target f o xs p h) (begun T (enters_at r.target f o xs p h))
          (enters_at r.source g o' ys q k) (begun S (enters_at r.source g o' ys q k))
      at None None ready = here (broken tt)
      at (Some x) None ready = here (broken tt)
      at None (Some y) ready = absurd ready
      at (Some x) (Some y) ready = begins_going ls f g found p q h k alike xs ys based fr x y nothing nothing
          (nothing_under nothing) ready

  module _ (ls : List RunLabel) (p q : Past) (h k : Holding) (alike : r.by.settled p h q k) (vs : List Value)
      (out : outward ≡ true) where
    not_based : {X : Type 0} → Based outward [] → X
    not_based b = let no : ⊥ = subst (λ v. Based v []) out b in absurd no

    resumes_later : (f : F) (g : G) (n n' : ℕ) → r.by.made f g → n + 1 ≤ p.begun → n ≡ n' →
        (xs : List (Frame F A)) (ys : List (Frame G B)) → Based outward xs → Frames h k n xs ys →
        (c : Block) (z : Thread G B) (o : Option A) (o' : Option B) → ReadyIf r (mom f g n p q h k) o 0 o' 0 →
        S.act z ≡ goes_back g n' o' ys q k → Fol ls (resumes f n o xs p h) (begun T (resumes f n o xs p h)) z c
    resumes_later f g n n' made less equal xs ys based fr c z o None ready e =
        fails (subst (λ (v : Act (Thread G B)). IsBad v) (sym e) tt)
    resumes_later f g n n' made less equal xs ys based fr c z None (Some y) ready e = absurd ready
    resumes_later f g n n' made less equal xs ys based fr c z (Some x) (Some y) ready e =
        step (Runs g n' y 0 ys q k) e (going ls f g n n' 0 p q h k x h (begun T (Runs f n x 0 xs p h))
        xs ys made less equal based fr 0 (ready nothing c (nothing_under c)))

    abbrev Back_to : List (Frame F A) → Thread G B → Block → Type 0
    Back_to xs z c = Fol ls (comes_back (Some vs) xs p h) (begun T (comes_back (Some vs) xs p h)) z c

    -- the source is about to return to the outside what came back
    leaving_later : (xs : List (Frame F A)) (ys : List (Frame G B)) → Frames h k p.begun xs ys →
        (o o' : Option (List Value)) → MatchIf r o o' → (c : Block) (z : Thread G B) →
        waiting_price r.target.tariff r.targets ≤ c.price →
        Subsequence (Between ∷ waiting r.target xs) (open_functions S z) →
        S.act z ≡ leaves_with r.setting.layout o' ys q k →
        Fol ls (leaves_later o xs p h) (begun T (leaves_later o xs p h)) z c
    leaving_later xs ys fr o None same c z w opened e = fails (subst (λ (v : Act (Thread G B)). IsBad v) (sym e) tt)
    leaving_later xs ys fr None (Some ws) same c z w opened e = absurd same
    leaving_later xs ys fr (Some us) (Some ws) same c z w opened e =
        here (leaving ws ys q k out e opened (waiting_within c w) same alike fr)

    -- what follows in the source on a result that is only passed on
    passes_back : (n : ℕ) (g : G) (xs : List (Frame F A)) (ys : List (Frame G B)) → r.source.blocks g ≡ [] →
        (next : List Value → Option B) → Subsequence (waiting r.target xs)
        (Open (r.source.name g) ∷ waiting r.source ys) → (ws' : List Value) → FirstSame vs ws' → (y : B) →
        PassesOn r ws' (Some y) → ((us : List Value) → FirstSame vs us → (c' : Block) (z' : Thread G B) →
        waiting_price r.target.tariff r.targets ≤ c'.price → Subsequence (waiting r.target xs) (open_functions S z') →
        S.act z' ≡ returns r.setting.layout us ys q k → Back_to xs z' c') → (c : Block) →
        step_price r.source.tariff r.sources y ≤ c.price → Back_to xs (Runs g n y 0 ys q k) c
    passes_back n g xs ys none next opened ws' s y (fails_then form) more c le =
        fails (failing_form g n 0 ys q k y form)
    passes_back n g xs ys none next opened ws' s y (goes_then {y' = y'} form rest) more c le =
        step (Runs g n y' 0 ys q k) (going_on g n 0 ys q k y y' form)
        (passes_back n g xs ys none next opened ws' s y' rest more (onward S c (Runs g n y' 0 ys q k)) (omega arith))
    passes_back n g xs ys none next opened ws' s y (returns_first us rest are form less) more c le =
        more us (fewer_first vs us rest (subst (λ v. FirstSame vs v) are s)) c (Runs g n y 0 ys q k)
        (omega (arith, le, less))
        (subst (λ (v : _). Subsequence (waiting r.target xs)
        (and_called
        (called_by (performed r.setting.edge v (record { holding = k; footprint = nothing_touched })).last)
        (Open (r.source.name g) ∷ waiting r.source ys))) (sym form) opened)
        (passing_on g next n 0 ys q k us y none form)

    -- the source is about to return what came back
    back_later : {m : ℕ} {xs : List (Frame F A)} {ys : List (Frame G B)} → Frames h k m xs ys → m ≤ p.begun →
        Based outward xs → (ws : List Value) → FirstSame vs ws → (c : Block) (z : Thread G B) →
        waiting_price r.target.tariff r.targets ≤ c.price → Subsequence (waiting r.target xs) (open_functions S z) →
        S.act z ≡ returns r.setting.layout ws ys q k → Back_to xs z c
    back_later bottom less based ws s c z w opened e = not_based based
    back_later (outer {results = results} {xs = xs} {ys = ys} o fr) less based ws s c z w opened e =
        leaving_later xs ys (frames_wider h k p.begun less fr) (kept_results results vs) (kept_results results ws)
        (kept_same results vs ws s) c z w opened e
    back_later (under {n = n} {n' = n'} {f = f} {g = g} {results = results} {next = next} {next' = next'} {xs = xs}
        {ys = ys} below' equal made wait under' fr) less based ws s c z w opened e =
        resumes_later f g n n' made (omega (arith, below', less)) equal xs ys under' fr c z
        (and_then (kept_results results vs) next) (and_then (kept_results results ws) next')
        (waits_ready f g n p q h k alike results next next' wait vs ws s) e
    back_later (passed {n = n} {g = g} {results = results} {next' = next'} {xs = xs} {ys = ys} only under' fr)
        less based ws s c z w opened e =
        by (kept_results results ws) refl
        (λ us s' c' z' w' opened' e'. back_later fr less under' us s' c' z' w' opened' e') e
      where
        on : (ws' : List Value) → FirstSame vs ws' → (o : Option B) → PassesOn r ws' o →
            ((us : List Value) → FirstSame vs us → (c' : Block) (z' : Thread G B) →
            waiting_price r.target.tariff r.targets ≤ c'.price →
            Subsequence (waiting r.target xs) (open_functions S z') → S.act z' ≡ returns r.setting.layout us ys q k →
            Back_to xs z' c') → S.act z ≡ goes_back g n o ys q k → Back_to xs z c
        on ws' s' None passes more f = fails (subst (λ (v : Act (Thread G B)). IsBad v) (sym f) tt)
        on ws' s' (Some y) passes more f = step (Runs g n y 0 ys q k) f
            (passes_back n g xs ys only.0 next' (skip (frames_open fr)) ws' s' y passes more
            (onward S c (Runs g n y 0 ys q k)) (omega arith))

        by : (o : Option (List Value)) → kept_results results ws ≡ o →
            ((us : List Value) → FirstSame vs us → (c' : Block) (z' : Thread G B) →
            waiting_price r.target.tariff r.targets ≤ c'.price →
            Subsequence (waiting r.target xs) (open_functions S z') → S.act z' ≡ returns r.setting.layout us ys q k →
            Back_to xs z' c') → S.act z ≡ goes_back g n (and_then o next') ys q k → Back_to xs z c
        by None i more f = fails (subst (λ (v : Act (Thread G B)). IsBad v) (sym f) tt)
        by (Some ws') i more f = let kept = kept_of results ws ws' i in
            on ws' (fewer_first vs ws' kept.more (subst (λ v. FirstSame vs v) kept.are s)) (next' ws')
            (only.1 ws' kept.count) more f

    -- what comes back, at once
    back_too : {m : ℕ} {xs : List (Frame F A)} {ys : List (Frame G B)} → Frames h k m xs ys → m ≤ p.begun →
        (ws : List Value) → FirstSame vs ws → Back_to xs (comes_back (Some ws) ys q k)
        (begun S (comes_back (Some ws) ys q k))
    back_too bottom less ws s = here (broken tt)
    back_too (outer {results = results} {xs = xs} {ys = ys} o fr) less ws s =
        by (kept_results results vs) (kept_results results ws) (kept_same results vs ws s)
      where
        by : (o o' : Option (List Value)) → MatchIf r o o' →
            Fol ls (leaves_later o xs p h) (begun T (leaves_later o xs p h)) (leaves_later o' ys q k)
            (begun S (leaves_later o' ys q k))
        by o None same = here (broken tt)
        by None (Some us) same = absurd same
        by (Some us) (Some ws') same =
            here (leaving ws' ys q k out refl (keep (frames_open fr)) waits_within same alike
            (frames_wider h k p.begun less fr))
    back_too (under {n = n} {n' = n'} {f = f} {g = g} {results = results} {next = next} {next' = next'} {xs = xs}
        {ys = ys} below' equal made wait under' fr) less ws s =
        at (and_then (kept_results results vs) next) (and_then (kept_results results ws) next')
        (waits_ready f g n p q h k alike results next next' wait vs ws s)
      where
        at : (o : Option A) (o' : Option B) → ReadyIf r (mom f g n p q h k) o 0 o' 0 →
            Fol ls (resumes f n o xs p h) (begun T (resumes f n o xs p h)) (resumes g n' o' ys q k)
            (begun S (resumes g n' o' ys q k))
        at None None ready = here (broken tt)
        at (Some x) None ready = here (broken tt)
        at None (Some y) ready = absurd ready
        at (Some x) (Some y) ready = going ls f g n n' 0 p q h k x h (begun T (Runs f n x 0 xs p h)) xs ys made
            (omega (arith, below', less)) equal under' fr 0 (ready nothing nothing (nothing_under nothing))
    back_too (passed {n = n} {g = g} {results = results} {next' = next'} {xs = xs} {ys = ys} only under' fr) less ws s =
        by (kept_results results ws) refl
      where
        on : (ws' : List Value) → FirstSame vs ws' → (o : Option B) → PassesOn r ws' o →
            Back_to xs (resumes g n o ys q k) (begun S (resumes g n o ys q k))
        on ws' s' None passes = here (broken tt)
        on ws' s' (Some y) passes =
            passes_back n g xs ys only.0 next' (skip (frames_open fr)) ws' s' y passes
            (λ us s'' c' z' w' opened' e'. back_later fr less under' us s'' c' z' w' opened' e')
            (begun S (Runs g n y 0 ys q k)) (omega arith)

        by : (o : Option (List Value)) → kept_results results ws ≡ o →
            Back_to xs (resumes g n (and_then o next') ys q k) (begun S (resumes g n (and_then o next') ys q k))
        by None i = here (broken tt)
        by (Some ws') i = let kept = kept_of results ws ws' i in
            on ws' (fewer_first vs ws' kept.more (subst (λ v. FirstSame vs v) kept.are s)) (next' ws')
            (only.1 ws' kept.count)

  backs_too : (ls : List RunLabel) (p q : Past) (h k : Holding) → r.by.settled p h q k → outward ≡ true →
      (xs : List (Frame F A)) (ys : List (Frame G B)) → Frames h k p.begun xs ys → (vs ws : Option (List Value)) →
      MatchIf r vs ws → Fol ls (comes_back vs xs p h) (begun T (comes_back vs xs p h)) (comes_back ws ys q k)
      (begun S (comes_back ws ys q k))
  backs_too ls p q h k alike out xs ys fr vs None same = here (broken tt)
  backs_too ls p q h k alike out xs ys fr None (Some ws) same = absurd same
  backs_too ls p q h k alike out xs ys fr (Some vs) (Some ws) same =
      back_too ls p q h k alike vs out fr (omega arith) ws (all_first vs ws same)

  module _ (all : AllFound r.target r.source r.by.made r.targets r.sources)
      (all_t : AllFound r.target r.source r.by.made ins_t ins_s) where
    heard_too : (ls : List RunLabel) (p q : Past) (h k : Holding) → r.by.settled p h q k →
        crossed ls ≡ objects_of k.memory q.naming → outward ≡ true → (xs : List (Frame F A)) (ys : List (Frame G B)) →
        Frames h k p.begun xs ys → (l : RunLabel) → MayBring r.setting.edge ls l →
        Fol (l ∷ ls) (receives r.target there scene_t xs p h l) (begun T (receives r.target there scene_t xs p h l))
        (receives r.source r.setting scene_s ys q k l) (begun S (receives r.source r.setting scene_s ys q k l))
    heard_too ls p q h k alike shown out xs ys fr (Enter name crossing) m =
        let s = is.crossings.receives p.begun p q h k alike m.signature.params crossing
        (subst (λ os. Brings r.setting.edge os crossing) shown m.brings) m.values in
        let p' = with_naming p (brought_in r p h crossing).naming in
        let q' = with_naming q (brought_in r q k crossing).naming in
        let h' = received r p h crossing in
        let k' = received r q k crossing in
        (enters_too (Enter name crossing ∷ ls) p' q' h' k' s.0 (Outer (results_of r.setting.edge name) ∷ xs)
        (Outer (results_of r.setting.edge name) ∷ ys) outer_based (outer out (frames_later h k h' k' fr s.1))
        (find r.target r.targets name) (find r.source r.sources name)
        (all_taken (brought_in r p h crossing).naming crossing.values)
        (all_taken (brought_in r q k crossing).naming crossing.values) (all name) s.2)
      where
        outer_based : Based outward (Outer (results_of r.setting.edge name) ∷ xs)
        outer_based = on outward
          where
            on : (o : Bool) → Based o (Outer (results_of r.setting.edge name) ∷ xs)
            on true = tt
            on false = tt
    heard_too ls p q h k alike shown out xs ys fr (Back crossing) m =
        let s = is.crossings.receives p.begun p q h k alike (returned m.signature.ret) crossing
        (subst (λ os. Brings r.setting.edge os crossing) shown m.brings) m.values in
        let p' = with_naming p (brought_in r p h crossing).naming in
        let q' = with_naming q (brought_in r q k crossing).naming in
        let h' = received r p h crossing in
        let k' = received r q k crossing in
        (backs_too (Back crossing ∷ ls) p' q' h' k' s.0 out xs ys (frames_later h k h' k' fr s.1)
        (all_taken (brought_in r p h crossing).naming crossing.values)
        (all_taken (brought_in r q k crossing).naming crossing.values) s.2)
    heard_too ls p q h k alike shown out xs ys fr (Lock lock words) m = absurd m
    heard_too ls p q h k alike shown out xs ys fr (Unlock lock words) m = absurd m
    heard_too ls p q h k alike shown out xs ys fr (Out word) m = absurd m
    heard_too ls p q h k alike shown out xs ys fr Done m = absurd m
    heard_too ls p q h k alike shown out xs ys fr (Call name crossing) m = absurd m
    heard_too ls p q h k alike shown out xs ys fr (Leave crossing) m = absurd m

    -- The simulation.

    calls_open : (c d : Option NameBytes) (xs ys : List Opened) → CallsToo r c d → Subsequence xs ys →
        Subsequence (and_called c xs) (and_called d ys)
    calls_open None None xs ys h s = s
    calls_open None (Some g) xs ys h s = skip s
    calls_open (Some f) None xs ys h s = absurd h
    calls_open (Some f) (Some g) xs ys h s = subst (λ v. Subsequence (Open f ∷ xs) (Open v ∷ ys)) h (keep s)

    open_runs : (f : F) (g : G) → r.by.made f g → (xs : List (Frame F A)) (ys : List (Frame G B)) →
        Subsequence (waiting r.target xs) (waiting r.source ys) →
        Subsequence (Open (r.target.name f) ∷ waiting r.target xs) (Open (r.source.name g) ∷ waiting r.source ys)
    open_runs f g made xs ys s =
        subst (λ v. Subsequence (Open (r.target.name f) ∷ waiting r.target xs) (Open v ∷ waiting r.source ys))
        (is.names f g made) (keep s)

    fine_of : (ls : List RunLabel) (x : Thread F A) (b : Block) (z : Thread G B) (c : Block) → Lifted ls x b z c →
        GoesWrong S z c ⊎ Fine T S x b z c
    fine_of ls x b z c (away out w alike shown fr) = inr
        (record { costs = waiting_costs r.target.tariff r.targets; within = w; opened = frames_open fr })
    fine_of ls x b z c (runs {f = f} {g = g} {n = n} {n' = n'} {e = e} {e' = e'} {x = a} {y = y} {xs = xs} {ys = ys}
        {p = p} {q = q} {h = h} {k = k} made less same m alike based fr) =
        ⊎_elim (λ bad. inl (fails_soon g n' ys q e' bad))
        (λ fine. let least = step_costs r.target.tariff r.targets a pays.prices in
        inr (record {
          costs = omega (arith, least);
          within = fine.within;
          opened = calls_open
              (called_by (t_step r a h).last) (called_by (s_step r y k).last) _ _ fine.called
              (open_runs f g made xs ys (frames_open fr));
        }))
        (ok.fine f g made n p q (record { now = a; holding = h; block = b })
        (record { now = y; holding = k; block = c }) m alike)
    fine_of ls x b z c (leaving ws ys q k out e opened w same alike fr) =
        inr (record { costs = waiting_costs r.target.tariff r.targets; within = w; opened = opened })
    fine_of ls x b z c (over w) =
        inr (record { costs = waiting_costs r.target.tariff r.targets; within = w; opened = done })
    fine_of ls x b z c (broken e) = inl (fails e)

    answers_of : (ls : List RunLabel) (x : Thread F A) (b : Block) (z : Thread G B) (c : Block) → Lifted ls x b z c →
        Ans ls (T.act x) b z c
    answers_of ls x b z c (away {xs = xs} {ys = ys} {p = p} {q = q} {h = h} {k = k} out w alike shown fr) =
        here (heard_too ls p q h k alike shown out xs ys fr)
    answers_of ls x b z c (runs {f = f} {g = g} {n = n} {n' = n'} {e' = e'} {x = a} {y = y} {xs = xs} {ys = ys} {p = p}
        {q = q} {h = h} {k = k} made less same m alike based fr) =
        ⊎_elim (λ bad. wrong_answers ls (T.act (Runs f n a e' xs p h)) b (Runs g n' y e' ys q k) c
        (fails_soon g n' ys q e' bad))
        (λ fine. at_last all_t ls b c f g n n' e' p q xs ys made less same based h k alike fr fine.within y
        (t_step r a h).last (t_step r a h).holding (ok.does (mom f g n p q h k) made a b y c m alike))
        (ok.fine f g made n p q (record { now = a; holding = h; block = b })
        (record { now = y; holding = k; block = c }) m alike)
    answers_of ls x b z c (leaving {vs = vs} {xs = xs} {p = p} {h = h} ws ys q k out e opened w same alike fr) =
        leaves_too ls p q h k alike vs ws same xs ys fr out b c z e
    answers_of ls x b z c (over w) = here refl
    answers_of ls x b z c (broken e) = bad_answers ls (T.act x) b z c e

    pub lifted_simulates : Fol [] start_t (begun T start_t) start_s (begun S start_s) → Simulates r.setting.edge T S Rel
    lifted_simulates h =
        record {
          starts = h;
          fine = λ ls x y q k m. fine_of ls x.at x.block y.at y.block m;
          answers =
              λ ls x y q k m. answers_of ls x.at x.block y.at y.block m;
        }

    pub lifted_refines : Fol [] start_t (begun T start_t) start_s (begun S start_s) → Refines r.setting.edge T S
    lifted_refines h = steps_refine r.setting.edge T S Rel (lifted_simulates h)
