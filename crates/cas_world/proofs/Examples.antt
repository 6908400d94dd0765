-- Two threads of one small function, in turns: with its lock, and without, where they race.
use Rattle.std.proofs.Common.{arith, append_assoc, append-nil, ◌≡◌, ℕ, zero, suc, Bool, true, false, List, [], ◌∷◌, ◌++◌, Option, Some, None, refl, sym, subst, inl}
use Rattle.std.specs.Prelude.{map, slice_get}
use Rattle.cas_base.specs.declared.act.Act.{Act}
use Rattle.cas_base.specs.declared.act.Act.TheVariants as act
use Rattle.cas_base.specs.declared.kind.Kind.TheVariants.{I32}
use Rattle.cas_base.specs.declared.kind.Ty.TheVariants.{Void, Int}
use Rattle.cas_base.specs.declared.place.Place.{Place}
use Rattle.cas_step.specs.Asks.{word}
use Rattle.cas_step.specs.Env.{FunctionAt, Entity, function, shared, lock, Env}
use Rattle.cas_step.specs.Step.{Config, Step, step, start}
use Rattle.cas_syntax.specs.declared.tree.BinaryOperator.TheVariants.{Add}
use Rattle.cas_typed.specs.declared.tree.Signedness.TheVariants.{Signed}
use Rattle.cas_typed.specs.Resolved as t
use Rattle.cas_typed.specs.Resolved.{TypedStmtTree, TypedStmtList, no_more, one_more}
use Rattle.cas_typed.specs.Resolved.{TypedModuleTree}
use Rattle.cas_world.specs.Owned.{IsOwned}
use Rattle.cas_world.specs.Races.{IsRaceFree}
use Rattle.cas_world.specs.World.{World, IsEnabled, IsNext, MayStep, world_after, Interleaves, at_first, and_step, first_world}

-- the place in this column of line 1
abbrev at : ℕ → Place
at n = record { line = 1; col = n }

abbrev stmts : List TypedStmtTree → TypedStmtList
stmts [] = no_more
stmts (a ∷ as_) = one_more a (stmts as_)

-- lock L; shared(L) int g; void w(int me) ..
abbrev items : ℕ → Option Entity
items zero = Some (lock 0)
items (suc zero) = Some (shared 1 1 (Some 0))
items (suc (suc n)) = Some (function (record { unit = 0; place = 0 }))

abbrev env_with : List TypedStmtTree → Env
env_with body = record {
  function = λ f. record { ret = Void; locals = Int I32 ∷ []; body = stmts body; closing = at 99 };
  entity = λ unit g. items g;
  kinds = None ∷ Some I32 ∷ [];
}

abbrev two : List TypedStmtTree → World
two body = let w : FunctionAt = record { unit = 0; place = 0 } in first_world (env_with body) (w ∷ w ∷ []) (1 ∷ 0 ∷ [])

-- interleavings, computed

abbrev is_free : Option (Option ℕ) → Bool
is_free (Some None) = true
is_free _ = false

abbrev may_take : Act → List (Option ℕ) → Bool
may_take (act.Lock l) hs = is_free (slice_get hs l)
may_take (act.Bad why) hs = false
may_take _ hs = true

abbrev moved : World → ℕ → Step → Bool → Option World
moved w i s true = Some (world_after w i s)
moved w i s false = None

abbrev stepped : World → ℕ → Option Step → Option World
stepped w i None = None
stepped w i (Some s) = moved w i s (may_take s.act w.holders)

abbrev turned : Env → World → ℕ → Option Config → Option World
turned e w i None = None
turned e w i (Some c) = stepped w i (step e w.words c)

abbrev played : Env → List ℕ → Option World → Option World
played e is None = None
played e [] (Some w) = Some w
played e (i ∷ is) (Some w) = played e is (turned e w i (slice_get w.threads i))

-- what two threads have output, with the words and the holders then; none if a thread may not step
abbrev shown : Option World → Option (List (ℕ × ℕ) × List ℕ × List (Option ℕ))
shown None = None
shown (Some w) = Some (w.out, w.words, w.holders)

-- lock(L); g = g + 1; print(g); unlock(L);
abbrev guarded : List TypedStmtTree
guarded =
    t.lock (at 1) 0 ∷ t.assign (at 2) (t.to_global 1 (at 2)) (t.binary Add Signed (t.global 1 (at 3)) (t.literal 1))
    ∷ t.print (at 4) (t.global 1 (at 5)) ∷ t.unlock (at 6) 0 ∷ []

abbrev guarded_by : List ℕ → Option (List (ℕ × ℕ) × List ℕ × List (Option ℕ))
guarded_by is = shown (played (env_with guarded) is (Some (two guarded)))

-- one thread after the other; and while a thread has the lock the other may not take it
guarded_rows :
    map guarded_by ((0 ∷ 0 ∷ 0 ∷ 0 ∷ 1 ∷ 1 ∷ 1 ∷ 1 ∷ []) ∷ (1 ∷ 1 ∷ 1 ∷ 1 ∷ 1 ∷ 0 ∷ 0 ∷ 0 ∷ []) ∷ (1 ∷ 1 ∷ []) ∷
    (1 ∷ 0 ∷ []) ∷ (0 ∷ 0 ∷ 0 ∷ 1 ∷ []) ∷ (0 ∷ 0 ∷ 0 ∷ 0 ∷ 0 ∷ 0 ∷ []) ∷ [])
    ≡ Some ((0, 1) ∷ (1, 2) ∷ [], 1 ∷ 2 ∷ [], None ∷ None ∷ []) ∷ Some
    ((1, 1) ∷ (0, 2) ∷ [], 1 ∷ 2 ∷ [], Some 0 ∷ None ∷ [])
    ∷ Some ([], 1 ∷ 1 ∷ [], Some 1 ∷ None ∷ []) ∷ None ∷ None ∷ None ∷ []
guarded_rows = refl

-- these are interleavings

free_is : (o : Option (Option ℕ)) → is_free o ≡ true → o ≡ Some None
free_is None h = absurd (cc h)
free_is (Some None) h = refl
free_is (Some (Some i)) h = absurd (cc h)

enabled : (a : Act) (hs : List (Option ℕ)) → may_take a hs ≡ true → IsEnabled a hs
enabled (act.Lock l) hs h = free_is (slice_get hs l) h
enabled (act.Unlock l) hs h = tt
enabled (act.Out n) hs h = tt
enabled act.Quiet hs h = tt
enabled act.Done hs h = tt
enabled (act.Bad why) hs h = absurd (cc h)

-- threads that are played further, after an interleaving
module _ (e : Env) (first v : World) where
  abbrev GoesOn : List ℕ → Type 0
  GoesOn is = (w : World) (done : List ℕ) → Interleaves e first done w → played e is (Some w) ≡ Some v →
      Interleaves e first (done ++ is) v

  nowhere_on : {C : Type 0} (is : List ℕ) → played e is None ≡ Some v → C
  nowhere_on is h = absurd (cc h)

  moves_on : (i : ℕ) (is : List ℕ) (w : World) (done : List ℕ) (s : Step) → Interleaves e first done w →
      IsNext e w i s → (b : Bool) → may_take s.act w.holders ≡ b →
      played e is (moved w i s b) ≡ Some v → GoesOn is → Interleaves e first (done ++ i ∷ is) v
  moves_on i is w done s before next false take h rest = nowhere_on is h
  moves_on i is w done s before next true take h rest =
      let may : MayStep e w i s = record { next = next; enabled = enabled s.act w.holders take } in
      subst (λ xs. Interleaves e first xs v) (append_assoc done (i ∷ []) is)
      (rest (world_after w i s) (done ++ i ∷ []) (and_step before i s may) h)

  steps_on : (i : ℕ) (is : List ℕ) (w : World) (done : List ℕ) (c : Config) → Interleaves e first done w →
      slice_get w.threads i ≡ Some c → (o : Option Step) → step e w.words c ≡ o →
      played e is (stepped w i o) ≡ Some v → GoesOn is → Interleaves e first (done ++ i ∷ is) v
  steps_on i is w done c before there None steps h rest = nowhere_on is h
  steps_on i is w done c before there (Some s) steps h rest =
      moves_on i is w done s before (record { config = c; stands = there; steps = steps }) (may_take s.act w.holders)
      refl h rest

  turns_on : (i : ℕ) (is : List ℕ) (w : World) (done : List ℕ) → Interleaves e first done w → (o : Option Config) →
      slice_get w.threads i ≡ o →
      played e is (turned e w i o) ≡ Some v → GoesOn is → Interleaves e first (done ++ i ∷ is) v
  turns_on i is w done before None there h rest = nowhere_on is h
  turns_on i is w done before (Some c) there h rest = steps_on i is w done c before there (step e w.words c) refl h rest

  plays_on : (is : List ℕ) → GoesOn is
  plays_on [] w done before h =
      let same : w ≡ v = cc h in
      subst (λ xs. Interleaves e first xs v) (sym (append-nil done)) (subst (Interleaves e first done) same before)
  plays_on (i ∷ is) w done before h = turns_on i is w done before (slice_get w.threads i) refl h (plays_on is)

-- what is played from a world is reached from it
played_reaches : (e : Env) (first v : World) (is : List ℕ) → played e is (Some first) ≡ Some v →
    Interleaves e first is v
played_reaches e first v is h = plays_on e first v is first [] at_first h

-- g = 1;
abbrev bare : List TypedStmtTree
bare = t.assign (at 1) (t.to_global 1 (at 1)) (t.literal 1) ∷ []

abbrev bare_step : (thread : ℕ) → Step
bare_step i = record {
  act = act.Quiet;
  next = record {
    activations = record { serial = 0; function = record { unit = 0; place = 0 }; target = None; cont = [] } ∷ [];
    memory = record { serial = 0; locals = (word i ∷ []) ∷ [] } ∷ [];
    fresh = 1;
  };
  words = 1 ∷ 1 ∷ [];
  reads = [];
  writes = 1 ∷ [];
  unit = 0;
  place = at 1;
}

abbrev bare_start : (thread : ℕ) → Config
bare_start i = start (env_with bare) (record { unit = 0; place = 0 }) (word i ∷ [])

-- without the lock they race
bare_races : IsRaceFree (env_with bare) (two bare) → ⊥
bare_races free =
    free (two bare) 0 1 (bare_step 0) (bare_step 1) 1 ([], at_first) (λ e. cc)
    (record { next = record { config = bare_start 0; stands = refl; steps = refl }; enabled = tt })
    (record { next = record { config = bare_start 1; stands = refl; steps = refl }; enabled = tt })
    ((0, omega arith, refl), (0, omega arith, refl), inl (0, omega arith, refl))

-- a world isn't owned where a holder is none of its threads
no_such_holder : (modules : List TypedModuleTree) (e : Env) (c d : Config) →
    IsOwned modules e (record { threads = c ∷ d ∷ []; words = 1 ∷ []; holders = Some 7 ∷ []; out = [] }) → ⊥
no_such_holder modules e c d owned = let there = owned.holders_are 0 7 refl in cc there.1
