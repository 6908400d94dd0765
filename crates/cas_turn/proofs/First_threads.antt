-- The threads of a program's first world.
use Rattle.std.proofs.Common.{arith, ◌≡◌, ℕ, zero, suc, ◌+◌, ◌<◌, ◌^◌, List, [], ◌∷◌, ◌++◌, length, map, take, Some, slice_get, refl, sym, ap, subst, ◌∙◌}
use Rattle.cas_program.specs.Laws.{EntriesAreInOrder}
use Rattle.cas_program.specs.Program.{env_of, entries_of}
use Rattle.cas_step.specs.Asks.{word}
use Rattle.cas_step.specs.Env.{Env, FunctionAt}
use Rattle.cas_step.specs.Step as step
use Rattle.cas_step.specs.Step.{start}
use Rattle.cas_thread.specs.Thread.{IsThread, IsStarted}
use Rattle.cas_thread.specs.declared.config.Config.{Config}
use Rattle.cas_turn.specs.Shown.{AreThreads}
use Rattle.cas_typed.specs.Resolved.{TypedModuleTree}
use Rattle.cas_whole.specs.Program_of.{IsProgramOf}
use Rattle.cas_whole.specs.declared.program.Program.{Program}
use Rattle.cas_world.specs.World.{started}

map_length : {A B : Type 0} (f : A → B) (xs : List A) → length (map f xs) ≡ length xs
map_length f [] = refl
map_length f (x ∷ xs) = ap suc (map_length f xs)

-- as many entries as the code has
pub entries_length : (p : Program) (ms : List TypedModuleTree) (names : List (List ℕ)) → IsProgramOf p ms names →
    length p.entries ≡ length (entries_of ms names)
entries_length p ms names is = sym (map_length _ p.entries) ∙ ap length is.entries_are

-- and they are few
pub few_entries : EntriesAreInOrder → (p : Program) (ms : List TypedModuleTree) (names : List (List ℕ)) →
    IsProgramOf p ms names → length p.entries < 2 ^ 32
few_entries in_order p ms names is =
    omega (arith, entries_length p ms names is, (in_order ms names is.program).count, is.few_entries)

pub length_more : {A : Type 0} (xs : List A) (x : A) → length (xs ++ x ∷ []) ≡ length xs + 1
length_more [] x = refl
length_more (y ∷ xs) x = let rest = length_more xs x in omega (arith, rest)

-- one more thread
threads_more : (p : Program) (ks : List Config) (cs : List step.Config) (k : Config) (c : step.Config) →
    AreThreads p ks cs → IsThread p k c → AreThreads p (ks ++ k ∷ []) (cs ++ c ∷ [])
threads_more p [] [] k c are is = (is, tt)
threads_more p [] (d ∷ cs) k c are is = absurd are
threads_more p (j ∷ ks) [] k c are is = absurd are
threads_more p (j ∷ ks) (d ∷ cs) k c are is = (are.0, threads_more p ks cs k c are.1 is)

started_more : (e : Env) (i n : ℕ) (fs : List FunctionAt) (f : FunctionAt) → slice_get fs n ≡ Some f →
    started e i (take (suc n) fs) ≡ started e i (take n fs) ++ start e f (word (i + n) ∷ []) ∷ []
started_more e i n [] f at = absurd (cc at)
started_more e i zero (g ∷ fs) f at =
    let same : g ≡ f = cc at in
    let number : i ≡ i + 0 = omega (arith) in
    ap (λ h. start e h (word i ∷ []) ∷ []) same ∙ ap (λ m. start e f (word m ∷ []) ∷ []) number
started_more e i (suc n) (g ∷ fs) f at =
    let number : (i + 1) + n ≡ i + suc n = omega (arith) in
    ap (λ cs. start e g (word i ∷ []) ∷ cs) (started_more e (i + 1) n fs f at
    ∙ ap (λ m. started e (i + 1) (take n fs) ++ start e f (word m ∷ []) ∷ []) number)

at_within : {A : Type 0} (xs : List A) (n : ℕ) → n < length xs → (x : A) × (slice_get xs n ≡ Some x)
at_within [] n within = absurd (omega (arith, within))
at_within (x ∷ xs) zero within = (x, refl)
at_within (x ∷ xs) (suc n) within = at_within xs n (omega (arith, within))

-- the threads at the first entries, and one more
pub begun_more : (p : Program) (ks : List Config) (k : Config) (n : ℕ) (ms : List TypedModuleTree)
    (names : List (List ℕ)) → IsProgramOf p ms names → n < length p.entries →
    AreThreads p ks (started (env_of ms) 0 (take n (entries_of ms names))) → IsStarted p n k →
    AreThreads p (ks ++ k ∷ []) (started (env_of ms) 0 (take (n + 1) (entries_of ms names)))
begun_more p ks k n ms names is within are starts =
    let (f, at) = at_within (entries_of ms names) n (omega (arith, entries_length p ms names is)) in
    let e = env_of ms in
    let fs = entries_of ms names in
    let number : 0 + n ≡ n = omega (arith) in
    let next : n + 1 ≡ suc n = omega (arith) in
    let new : IsThread p k (start e f (word (0 + n) ∷ [])) =
    subst (λ m. IsThread p k (start e f (word m ∷ []))) (sym number) (starts ms names f is at) in
    let all = threads_more p ks (started e 0 (take n fs)) k (start e f (word (0 + n) ∷ [])) are new in
    let there = subst (λ cs. AreThreads p (ks ++ k ∷ []) cs) (sym (started_more e 0 n fs f at)) all in
    subst (λ m. AreThreads p (ks ++ k ∷ []) (started e 0 (take m fs))) (sym next) there

take_all : {A : Type 0} (xs : List A) (n : ℕ) → n ≡ length xs → take n xs ≡ xs
take_all [] zero e = refl
take_all [] (suc n) e = refl
take_all (x ∷ xs) zero e = absurd (omega (arith, e))
take_all (x ∷ xs) (suc n) e = ap (λ ys. x ∷ ys) (take_all xs n (omega (arith, e)))

-- all of them
pub begun_all : (p : Program) (ks : List Config) (n : ℕ) (ms : List TypedModuleTree) (names : List (List ℕ)) →
    IsProgramOf p ms names → n ≡ length p.entries →
    AreThreads p ks (started (env_of ms) 0 (take n (entries_of ms names))) →
    AreThreads p ks (started (env_of ms) 0 (entries_of ms names))
begun_all p ks n ms names is all are =
    subst (λ fs. AreThreads p ks (started (env_of ms) 0 fs))
    (take_all (entries_of ms names) n (all ∙ entries_length p ms names is)) are
