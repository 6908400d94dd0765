-- Worlds of the code: the world that one is, that it fits, and the world behind a turn.
use Rattle.std.proofs.Common.{arith, ◌≡◌, ℕ, zero, suc, ◌<◌, ◌≤◌, ◌^◌, List, [], ◌∷◌, ◌++◌, length, take, Option, Some, None, Result, Ok, Err, slice_get, slice_set, slice_index_or, refl, sym, ap, subst, ◌∙◌}
use Rattle.std.specs.Prelude.{OnOk, OnErr}
use Rattle.std.proofs.Math.Logic.{∥∥₁_map}
use Rattle.cas_program.specs.Program.{env_of, entries_of, initial_words}
use Rattle.cas_step.specs.Env.{Env}
use Rattle.cas_step.specs.Well_formed.{IsWellTypedStore}
use Rattle.cas_step.specs.Step as step
use Rattle.cas_step.specs.Step.{Activation, Step}
use Rattle.cas_thread.specs.Thread.{IsThread}
use Rattle.cas_thread.specs.declared.config.Config.{Config}
use Rattle.cas_turn.specs.Answers.{Answers, IsRunning, activations_in, activations_of, state_shown}
use Rattle.cas_turn.specs.declared.answer.ThreadState.{ThreadState}
use Rattle.cas_turn.specs.declared.answer.WorldAnswer.{WorldAnswer}
use Rattle.cas_turn.specs.Shown.{AreThreads, AreWorldOf}
use Rattle.cas_turn.specs.Standing.{ForThread, IsAfter, IsThere, IsUnmoved, MayTurn, state_in}
use Rattle.cas_typed.specs.Resolved.{TypedModuleTree}
use Rattle.cas_whole.specs.Program_of.{IsProgramOf}
use Rattle.cas_whole.specs.declared.program.Program.{Program}
use Rattle.cas_world.proofs.Turns.{running_may}
use Rattle.cas_world.specs.Sound_worlds.{IsSoundWorld, WorldsAreSound}
use Rattle.cas_world.specs.Races.{program_world}
use Rattle.cas_world.specs.Turns.{State, running, ended, waits, bad, at_config, at_next, state_of}
use Rattle.cas_world.specs.World.{World, first_world, holders_after, out_after, world_after, and_step, Reaches}

-- threads of the code, one by one

thread_at : (p : Program) (ks : List Config) (cs : List step.Config) (i : ℕ) (k : Config) → AreThreads p ks cs →
    slice_get ks i ≡ Some k →
    (c : step.Config) × (slice_get cs i ≡ Some c) × IsThread p k c
thread_at p [] [] i k are at = absurd (cc at)
thread_at p [] (c ∷ cs) i k are at = absurd are
thread_at p (j ∷ ks) [] i k are at = absurd are
thread_at p (j ∷ ks) (c ∷ cs) zero k are at = let same : j ≡ k =
    cc at in (c, refl, subst (λ x. IsThread p x c) same are.0)
thread_at p (j ∷ ks) (c ∷ cs) (suc i) k are at = thread_at p ks cs i k are.1 at

no_thread_at : (p : Program) (ks : List Config) (cs : List step.Config) (i : ℕ) → AreThreads p ks cs →
    slice_get ks i ≡ None → slice_get cs i ≡ None
no_thread_at p [] [] i are at = refl
no_thread_at p [] (c ∷ cs) i are at = absurd are
no_thread_at p (j ∷ ks) [] i are at = absurd are
no_thread_at p (j ∷ ks) (c ∷ cs) zero are at = absurd (cc at)
no_thread_at p (j ∷ ks) (c ∷ cs) (suc i) are at = no_thread_at p ks cs i are.1 at

pub threads_length : (p : Program) (ks : List Config) (cs : List step.Config) → AreThreads p ks cs →
    length ks ≡ length cs
threads_length p [] [] are = refl
threads_length p [] (c ∷ cs) are = absurd are
threads_length p (j ∷ ks) [] are = absurd are
threads_length p (j ∷ ks) (c ∷ cs) are = ap suc (threads_length p ks cs are.1)

-- one thread written
threads_set : (p : Program) (ks : List Config) (cs : List step.Config) (i : ℕ) (k : Config) (c : step.Config) →
    AreThreads p ks cs → IsThread p k c → AreThreads p (slice_set ks i k) (slice_set cs i c)
threads_set p [] [] i k c are is = tt
threads_set p [] (d ∷ cs) i k c are is = absurd are
threads_set p (j ∷ ks) [] i k c are is = absurd are
threads_set p (j ∷ ks) (d ∷ cs) zero k c are is = (is, are.1)
threads_set p (j ∷ ks) (d ∷ cs) (suc i) k c are is = (are.0, threads_set p ks cs i k c are.1 is)

-- what stands at its place written there
set_same : {A : Type 0} (xs : List A) (i : ℕ) (x : A) → slice_get xs i ≡ Some x → slice_set xs i x ≡ xs
set_same [] i x at = refl
set_same (y ∷ xs) zero x at = let same : y ≡ x = cc at in ap (λ z. z ∷ xs) (sym same)
set_same (y ∷ xs) (suc i) x at = ap (λ zs. y ∷ zs) (set_same xs i x at)

-- what the laws of the crates below say
pub record Facts : Type 0 where
  pub modules : (p : Program) (ms others : List TypedModuleTree) (names more : List (List ℕ)) → IsProgramOf p ms names →
      IsProgramOf p others more → ms ≡ others
  pub entries : (p : Program) (ms others : List TypedModuleTree) (names more : List (List ℕ)) → IsProgramOf p ms names →
      IsProgramOf p others more → entries_of ms names ≡ entries_of others more
  pub threads : (p : Program) (k : Config) (c d : step.Config) → IsThread p k c → IsThread p k d → c ≡ d

threads_are_one : Facts → (p : Program) (ks : List Config) (cs ds : List step.Config) → AreThreads p ks cs →
    AreThreads p ks ds → cs ≡ ds
threads_are_one facts p [] [] [] are others = refl
threads_are_one facts p [] [] (d ∷ ds) are others = absurd others
threads_are_one facts p [] (c ∷ cs) ds are others = absurd are
threads_are_one facts p (k ∷ ks) [] ds are others = absurd are
threads_are_one facts p (k ∷ ks) (c ∷ cs) [] are others = absurd others
threads_are_one facts p (k ∷ ks) (c ∷ cs) (d ∷ ds) are others =
    let one : c ≡ d = facts.threads p k c d are.0 others.0 in
    let rest : cs ≡ ds = threads_are_one facts p ks cs ds are.1 others.1 in
    cc

-- one world

same_world : (w v : World) → w.threads ≡ v.threads → w.words ≡ v.words → w.holders ≡ v.holders → w.out ≡ v.out → w ≡ v
same_world w v threads words holders out =
    let with_threads : List step.Config → World = λ x. record
    { threads = x; words = w.words; holders = w.holders; out = w.out } in
    let with_words : List ℕ → World = λ x. record { threads = v.threads; words = x; holders = w.holders; out = w.out }
    in
    let with_holders : List (Option ℕ) → World = λ x. record
    { threads = v.threads; words = v.words; holders = x; out = w.out } in
    let with_out : List (ℕ × ℕ) → World =
    λ x. record { threads = v.threads; words = v.words; holders = v.holders; out = x } in
    ap with_threads threads ∙ ap with_words words ∙ ap with_holders holders ∙ ap with_out out

-- of a thread that runs

running_weaker : (st : State) (P Q : Step → Type 0) → ((s : Step) → P s → Q s) → IsRunning st P → IsRunning st Q
running_weaker (running s) P Q f h = f s h
running_weaker ended P Q f h = absurd h
running_weaker (waits l holder) P Q f h = absurd h
running_weaker (bad why unit place) P Q f h = absurd h

running_is : (st : State) (P : Step → Type 0) → IsRunning st P → (s : Step) × (st ≡ running s) × P s
running_is (running s) P h = (s, refl, h)
running_is ended P h = absurd h
running_is (waits l holder) P h = absurd h
running_is (bad why unit place) P h = absurd h

module _ (facts : Facts) (p : Program) (ks : List Config) (ws : List ℕ) (hs : List (Option ℕ)) (out : List (ℕ × ℕ))
  where
    abbrev pub IsWorld : List TypedModuleTree → List (List ℕ) → World → Type 0
    IsWorld ms names w = AreWorldOf p ks ws hs out ms names w

    -- some interleaving reaches it
    abbrev pub IsReached : Type 0
    IsReached = (ms : List TypedModuleTree) × (names : List (List ℕ)) × (w : World) × AreWorldOf p ks ws hs out ms names w
        × Reaches (env_of ms) (program_world ms names) w

    module _ (ms others : List TypedModuleTree) (names more : List (List ℕ)) (w v : World) (is : IsWorld ms names w)
        (other : IsWorld others more v) where
      pub modules_are_one : ms ≡ others
      modules_are_one = facts.modules p ms others names more is.program other.program

      pub world_is_one : w ≡ v
      world_is_one = same_world w v (threads_are_one facts p ks w.threads v.threads is.threads_are other.threads_are)
          (sym is.words_are ∙ other.words_are)
          (sym is.holders_are ∙ other.holders_are) (sym is.out_is ∙ other.out_is)

      pub reached_too : Reaches (env_of others) (program_world others more) v →
          Reaches (env_of ms) (program_world ms names) w
      reached_too reached =
          let one : others ≡ ms = sym modules_are_one in
          let begins : entries_of others more ≡ entries_of ms names =
          facts.entries p others ms more names other.program is.program in
          let first : first_world (env_of ms) (entries_of others more) (initial_words ms) ≡ program_world ms names =
          ap (λ fs. first_world (env_of ms) fs (initial_words ms)) begins in
          let here : Reaches (env_of ms) (first_world (env_of ms) (entries_of others more) (initial_words ms)) v =
          subst (λ x. Reaches (env_of x) (first_world (env_of x) (entries_of others more) (initial_words x)) v)
          one reached in
          subst (λ x. Reaches (env_of ms) (program_world ms names) x) (sym world_is_one)
          (subst (λ x. Reaches (env_of ms) x v) first here)

    -- the world that it is, is reached
    pub is_reached : ∥ IsReached ∥₁ → (ms : List TypedModuleTree) (names : List (List ℕ)) (w : World) →
        IsWorld ms names w → ∥ Reaches (env_of ms) (program_world ms names) w ∥₁
    is_reached reached ms names w is = ∥∥₁_map reached (λ r. reached_too ms r.0 names r.1 w r.2 is r.3 r.4)

    -- and it fits
    pub is_sound_world : WorldsAreSound → ∥ IsReached ∥₁ →
        (ms : List TypedModuleTree) (names : List (List ℕ)) (w : World) → IsWorld ms names w →
        ∥ IsSoundWorld ms (env_of ms) w ∥₁
    is_sound_world fit reached ms names w is = ∥∥₁_map (is_reached reached ms names w is) (λ r.
        let few : length names ≤ 2 ^ 32 = omega (arith, is.program.few_entries) in
        fit ms names is.program.program few w r)

    -- one thread of it
    module _ (i : ℕ) (k : Config) (at : slice_get ks i ≡ Some k) where
      pub is_there : ∥ IsReached ∥₁ → ∥ IsThere p k ∥₁
      is_there reached = ∥∥₁_map reached (λ r.
          let (c, stands, thread) = thread_at p ks r.2.threads i k r.3.threads_are at in
          record { modules = r.0; names = r.1; config = c; program = r.3.program; thread = thread })

      module _ (ms : List TypedModuleTree) (names : List (List ℕ)) (w : World) (is : IsWorld ms names w) (c : step.Config)
          (stands : slice_get w.threads i ≡ Some c) where
        step_there : step.step (env_of ms) w.words c ≡ step.step (env_of ms) ws c
        step_there = ap (λ v. step.step (env_of ms) v c) (sym is.words_are)

        pub state_there : state_of (env_of ms) w i ≡ state_in ws hs ms c
        state_there = ap (at_config (env_of ms) w) stands ∙ ap (at_next w.holders) step_there
            ∙ ap (λ v. at_next v (step.step (env_of ms) ws c)) (sym is.holders_are)

        may_turn : IsSoundWorld ms (env_of ms) w → MayTurn ws hs ms c
        may_turn f = record {
          sound = f.sound i c stands;
          words_fit = subst (λ v. IsWellTypedStore (env_of ms) v) (sym is.words_are) f.words;
          steps = λ a older goes.
              let (s, next) = f.steps i c a older stands goes in
              let same : next.config ≡ c = cc (sym next.stands ∙ stands) in
              (s, sym step_there ∙ ap (λ d. step.step (env_of ms) w.words d) (sym same) ∙ next.steps);
          locks = λ l s steps takes.
              let (holder, held) = f.locks i l s (record { config = c; stands = stands; steps = step_there ∙ steps })
              takes in
              (holder, ap (λ v. slice_get v l) is.holders_are ∙ held);
        }

      pub may : WorldsAreSound → ∥ IsReached ∥₁ → ForThread p k (λ ms c. ∥ MayTurn ws hs ms c ∥₁)
      may fit reached ms names c program thread = ∥∥₁_map reached (λ r.
          let (d, stands, other) = thread_at p ks r.2.threads i k r.3.threads_are at in
          let few : length r.1 ≤ 2 ^ 32 = omega (arith, r.3.program.few_entries) in
          let m = may_turn r.0 r.1 r.2 r.3 d stands (fit r.0 r.1 r.3.program.program few r.2 r.4) in
          let here = subst (λ x. MayTurn ws hs x d) (facts.modules p r.0 ms r.1 names r.3.program program) m in
          subst (λ x. MayTurn ws hs ms x) (facts.threads p k d c other thread) here)

      -- behind a turn of it
      module _ (k' : Config) (ws' : List ℕ) (hs' : List (Option ℕ)) (out' : List (ℕ × ℕ)) where
        abbrev pub Takes : Type 0
        Takes = ForThread p k (λ ms c. IsRunning (state_in ws hs ms c) (λ s. IsAfter p i hs out s k' ws' hs' out'))

        abbrev pub Stays : Type 0
        Stays = ForThread p k (λ ms c. IsUnmoved p c ws hs out k' ws' hs' out')

        pub taken : Takes → (ms : List TypedModuleTree) (names : List (List ℕ)) (w : World) → IsWorld ms names w →
            IsRunning (state_of (env_of ms) w i) (λ s. AreWorldOf p (slice_set ks i k') ws' hs' out' ms names
            (world_after w i s))
        taken takes ms names w is =
            let (c, stands, thread) = thread_at p ks w.threads i k is.threads_are at in
            let Behind : Step → Type 0 = λ s. AreWorldOf p (slice_set ks i k') ws' hs' out' ms names (world_after w i s)
            in
            let told : IsRunning (state_in ws hs ms c) Behind =
            running_weaker (state_in ws hs ms c) _ Behind (λ s after. record {
              program = is.program;
              threads_are = threads_set p ks w.threads i k' s.next is.threads_are after.next;
              words_are = after.words_are;
              holders_are = after.held_is ∙ ap (holders_after s.act i) is.holders_are;
              out_is = after.put_is ∙ ap (out_after s.act i) is.out_is;
            }) (takes ms names c is.program thread) in
            subst (λ st. IsRunning st Behind) (sym (state_there ms names w is c stands)) told

        pub unmoved : Stays → (ms : List TypedModuleTree) (names : List (List ℕ)) (w : World) → IsWorld ms names w →
            AreWorldOf p (slice_set ks i k') ws' hs' out' ms names w
        unmoved stays ms names w is =
            let (c, stands, thread) = thread_at p ks w.threads i k is.threads_are at in
            let still = stays ms names c is.program thread in
            record {
              program = is.program;
              threads_are = subst (λ cs. AreThreads p (slice_set ks i k') cs) (set_same w.threads i c stands)
                  (threads_set p ks w.threads i k' c is.threads_are still.thread);
              words_are = still.words_are ∙ is.words_are;
              holders_are = still.held_is ∙ is.holders_are;
              out_is = still.put_is ∙ is.out_is;
            }

        abbrev pub Reached : Type 0
        Reached = (ms : List TypedModuleTree) × (names : List (List ℕ)) × (w : World)
            × AreWorldOf p (slice_set ks i k') ws' hs' out' ms names w × Reaches (env_of ms) (program_world ms names) w

        pub taken_reached : Takes → ∥ IsReached ∥₁ → ∥ Reached ∥₁
        taken_reached takes reached = ∥∥₁_map reached (λ r.
            let (s, runs, are) = running_is (state_of (env_of r.0) r.2 i) _ (taken takes r.0 r.1 r.2 r.3) in (
              r.0,
              r.1,
              world_after r.2 i s,
              are,
              (
                r.4.0 ++ i ∷ [],
                and_step r.4.1 i s
                    (running_may (env_of r.0) r.2 i s runs),
              ),
            ))

        pub unmoved_reached : Stays → ∥ IsReached ∥₁ → ∥ Reached ∥₁
        unmoved_reached stays reached = ∥∥₁_map reached (λ r. (r.0, r.1, r.2, unmoved stays r.0 r.1 r.2 r.3, r.4))

      -- what is shown of it
      pub shown : (st : ThreadState) → ForThread p k (λ ms c. st ≡ state_shown (state_in ws hs ms c)) →
          (ms : List TypedModuleTree) (names : List (List ℕ)) (w : World) → IsWorld ms names w →
          st ≡ state_shown (state_of (env_of ms) w i)
      shown st told ms names w is =
          let (c, stands, thread) = thread_at p ks w.threads i k is.threads_are at in
          told ms names c is.program thread ∙ ap state_shown (sym (state_there ms names w is c stands))

      -- what is answered
      pub answers : (a : WorldAnswer) → ForThread p k (λ ms c. Answers c.activations (state_in ws hs ms c) a) →
          (ms : List TypedModuleTree) (names : List (List ℕ)) (w : World) → IsWorld ms names w →
          Answers (activations_of w i) (state_of (env_of ms) w i) a
      answers a told ms names w is =
          let (c, stands, thread) = thread_at p ks w.threads i k is.threads_are at in
          let here = subst (λ st. Answers c.activations st a) (sym (state_there ms names w is c stands))
          (told ms names c is.program thread) in
          subst (λ as_. Answers as_ (state_of (env_of ms) w i) a) (sym (ap activations_in stands)) here

-- a thread that isn't there has ended
pub no_thread : (p : Program) (ks : List Config) (i : ℕ) → slice_get ks i ≡ None → (e : Env) (w : World) →
    AreThreads p ks w.threads → state_of e w i ≡ ended
no_thread p ks i at e w are = ap (at_config e w) (no_thread_at p ks w.threads i are at)

-- where each of two outcomes gives it
pub either_way : {T E P Q G : Type 0} (r : Result T E) → OnOk r P → OnErr r Q → (P → G) → (Q → G) → G
either_way (Ok x) p q f g = f p
either_way (Err y) p q f g = g q

-- the element at an index that is within a list
pub element_at : {A : Type 0} (xs : List A) (i : ℕ) (x : A) → i < length xs → x ≡ slice_index_or xs i x →
    slice_get xs i ≡ Some x
element_at [] i x within is = absurd (omega (arith, within))
element_at (y ∷ xs) zero x within is = ap Some (sym is)
element_at (y ∷ xs) (suc i) x within is = element_at xs i x (omega (arith, within)) is

pub none_past : {A : Type 0} (xs : List A) (i : ℕ) → length xs ≤ i → slice_get xs i ≡ None
none_past [] i past = refl
none_past (y ∷ xs) zero past = absurd (omega (arith, past))
none_past (y ∷ xs) (suc i) past = none_past xs i (omega (arith, past))

-- all items of a vector written
take_front : {A : Type 0} (xs ys : List A) → take (length xs) (xs ++ ys) ≡ xs
take_front [] ys = refl
take_front (x ∷ xs) ys = ap (λ zs. x ∷ zs) (take_front xs ys)

pub all_written : {A : Type 0} (n : ℕ) (xs ys : List A) → length xs ≡ n → take n (xs ++ ys) ≡ xs
all_written n xs ys e = subst (λ m. take m (xs ++ ys) ≡ xs) e (take_front xs ys)
