-- Where a thread of a checked program goes wrong over label runs, its next act is Bad: it holds what it touches and
-- what
-- it unlocks.
use Rattle.std.proofs.Common.{◌≡◌, ℕ, ◌+◌, ◌-◌, ◌<◌, ◌⊎◌, List, Option, Some, None, length, map, slice_get, inl, inr, refl, sym, ap, ◌∙◌, subst, ⊎_elim, arith}
use Rattle.std.proofs.lemmas.Option.{slice_get-map}
use Rattle.std.specs.Prelude.{⊤}
use Rattle.std.specs.Option.{option_map}
use Rattle.cas_base.specs.declared.decl.Decl.{Decl}
use Rattle.cas_program.specs.Laws.{SharedAreDeclared}
use Rattle.cas_program.specs.Program.{env_of}
use Rattle.cas_step.specs.Env.{shared, Entity}
use Rattle.cas_step.specs.Step.{Config, Step}
use Rattle.cas_typed.specs.Modules.{decls_of}
use Rattle.cas_world.specs.Races.{IsGuardedBy}
use Rattle.cas_world.specs.World.{World, IsNext}
use Rattle.cas_runs.specs.Edge.{Cell, LockWord, SharedWord, TableWord}
use Rattle.cas_runs.specs.Machine.{Act, Bad, Quiet, Emits, Crosses, Locks, Receives, Stops, IsBad}
use Rattle.cas_runs.specs.Legal.{ThreadLabel, projection}
use Rattle.cas_runs.specs.Access.{words_in}
use Rattle.cas_runs.specs.Calls.{Runs, Away, Leaves as LeavesNow, Over, Wrong}
use Rattle.cas_runs.specs.Outside.{IsAmong}
use Rattle.cas_runs.proofs.Shares.{not_found}
use Rattle.cas_clight.specs.Clight.{clight}
use Rattle.cas_bridge.specs.Matching.{ItemMatches, HasGuard, IsGuardMissing}
use Rattle.cas_bridge.specs.Threads.{Program, MatchThreads, running, over, GoesWrongToo, is_bad, touches, unlocks, share_of}
use Rattle.cas_interleave.specs.Agreeing.{Threads, program_of, setting_of, State, machine_of, AreThreads}
use Rattle.cas_interleave.specs.Interleaving.{IsBadNext, BadIsBad}
use Rattle.cas_interleave.proofs.Going.{Laws, e, G, held_of, sharing}
use Rattle.cas_interleave.proofs.Sharing.{IsSharing}
use Rattle.cas_interleave.proofs.Telling.{is_wrong}

bad_is : {S : Type 0} (b : Act S) → IsBad b → b ≡ Bad
bad_is Bad h = refl
bad_is (Quiet z) h = absurd h
bad_is (Emits k z) h = absurd h
bad_is (Crosses f s z) h = absurd h
bad_is (Locks k z) h = absurd h
bad_is (Receives z) h = absurd h
bad_is (Stops why) h = absurd h

-- what stands in a list after a map stood in the list
mapped_from : {A B : Type 0} (f : A → B) (xs : List A) (i : ℕ) (y : B) → slice_get (map f xs) i ≡ Some y →
    (x : A) × (slice_get xs i ≡ Some x) × (f x ≡ y)
mapped_from f xs i y h = by (slice_get xs i) refl (sym (slice_get-map f xs i) ∙ h)
  where
    by : (o : Option _) → slice_get xs i ≡ o → option_map f o ≡ Some y → (x : _) × (slice_get xs i ≡ Some x) × (f x ≡ y)
    by None q g = absurd (cc g)
    by (Some x) q g = (x, q, cc g)

-- an activation runs
abbrev IsRunning : State → Type 0
IsRunning (Runs f serial now extra stack past h) = ⊤
IsRunning _ = ⊥

runs_or_over : (p : Program) (c : Config) (words : List ℕ) (y : State) → MatchThreads p c words y →
    IsRunning y ⊎ (y ≡ Over)
runs_or_over p _ _ _ (running owner r y extra k) = inl tt
runs_or_over p c words _ (over _ _ k) = inr refl

one_guard : (c : Cell) (g h : Option ℕ) → HasGuard g c → HasGuard h c → g ≡ h
one_guard (SharedWord kind guard initial) g h a b = sym a ∙ b
one_guard LockWord g h a b = absurd a
one_guard (TableWord v) g h a b = absurd a

module _ (laws : Laws) (declared : SharedAreDeclared) (r : Threads) (are : AreThreads r) where
  -- the cell of a word that the lock guards
  guard_is : (w lock : ℕ) → IsGuardedBy (e laws r are) w lock → (c : Cell) → slice_get r.edge.cells w ≡ Some c →
      HasGuard (Some lock) c
  guard_is w lock (unit, item, first, count, is, least, most) c q =
      let d = declared r.modules r.entries are.is_program unit item first count (Some lock) is in
      let from = mapped_from decls_of r.modules unit d.1.0 d.1.1 in
      let there : slice_get (decls_of from.0) item ≡ Some d.0 =
      ap (λ (ds : List Decl). slice_get ds item) from.2 ∙ d.1.2 in
      let match = (are.presented 0).items unit item from.0 from.1 in
      let match' : ItemMatches r.edge (Some (shared first count (Some lock))) (Some d.0) =
      subst (λ (o : Option Entity). ItemMatches r.edge o (Some d.0)) is
      (subst (λ (o : Option Decl). ItemMatches r.edge ((e laws r are).entity unit item) o) there match) in
      let at = match'.1 (w - first) (omega (arith, least, most)) in
      let same : first + (w - first) ≡ w = omega (arith, least) in
      let cell : slice_get r.edge.cells w ≡ Some at.0 =
      subst (λ k. slice_get r.edge.cells k ≡ Some at.0) same at.1 in
      let one : at.0 ≡ c = cc (cell, q) in
      subst (λ v. HasGuard (Some lock) v) one at.2

  -- a thread that runs has the locks that it holds
  has_lock : (w : World) (ls : List ThreadLabel) (ys : ℕ → State) (a : G laws r are w ls ys) (i : ℕ) →
      i < length r.entries → (lock : ℕ) →
      slice_get w.holders lock ≡ Some (Some i) → (y : State) → ys i ≡ y → IsRunning y →
      words_in (share_of y) lock ≡ None → ⊥
  has_lock w ls ys a i there lock mine (Runs f serial now extra stack past h) q run none =
      let among = (held_of laws r are w ls ys a).has i there lock (sym (a.holders lock (Some i) mine)) in
      let k : IsSharing clight (setting_of r i) r.functions (projection i ls)
      (Runs f serial now extra stack past h) =
      subst (λ v. IsSharing clight (setting_of r i) r.functions (projection i ls) v) q
      (sharing laws r are w ls ys a i there) in
      not_found h.share lock none (subst (λ v. IsAmong lock v) (sym k.locks) among)
  has_lock w ls ys a i there lock mine (Away stack past h) q run none = run
  has_lock w ls ys a i there lock mine (LeavesNow values stack past h) q run none = run
  has_lock w ls ys a i there lock mine Over q run none = run
  has_lock w ls ys a i there lock mine Wrong q run none = run

  missing : (guard : Option ℕ) (lock : ℕ) (y : State) → guard ≡ Some lock → IsGuardMissing (share_of y) guard →
      words_in (share_of y) lock ≡ None
  missing None lock y q h = absurd (cc q)
  missing (Some k) lock y q h = let same : k ≡ lock = cc q in
      subst (λ v. words_in (share_of y) v ≡ None) same h

  bad_next : (w : World) (ls : List ThreadLabel) (ys : ℕ → State) (a : G laws r are w ls ys) (i : ℕ) →
      i < length r.entries →
      IsBad ((machine_of r i).act (ys i)) → IsBadNext r w i
  bad_next w ls ys a i there bad =
      let t = (a.threads i there).1 in
      let q = bad_is ((machine_of r i).act (ys i)) bad in
      let f = is_wrong (program_of r i) w.words (share_of (ys i)) ((machine_of r i).footprint (ys i)) _ _
      (laws.agree (program_of r i) (are.presented i) t.config w.words (ys i) t.alike) q in
      let next : IsNext (env_of r.modules) w i f.step = record { config = t.config; stands = t.there; steps = f.is } in
      let run = ⊎_elim (λ x. x) (λ z. never z bad)
      (runs_or_over (program_of r i) t.config w.words (ys i) t.alike) in
      by f.step next run f.wrong
    where
      never : ys i ≡ Over → IsBad ((machine_of r i).act (ys i)) → IsRunning (ys i)
      never z b = absurd (subst (λ v. IsBad ((machine_of r i).act v)) z b)

      by : (s : Step) → IsNext (env_of r.modules) w i s → IsRunning (ys i) →
          GoesWrongToo r.edge.cells (share_of (ys i)) s → IsBadNext r w i
      by s next run (is_bad why x) = record { step = s; next = next; why = why; bad = x }
      by s next run (touches k unheld touched) =
          let g = laws.touches r.modules r.entries are.is_program are.checked w i k s a.reached next touched in
          let same : unheld.0 ≡ Some g.0 = one_guard unheld.1 unheld.0 (Some g.0) unheld.3
          (guard_is k g.0 g.1 unheld.1 unheld.2) in
          absurd (has_lock w ls ys a i there g.0 g.2 (ys i) refl run (missing unheld.0 g.0 (ys i) same unheld.4))
      by s next run (unlocks k x none) =
          let mine = laws.unlocks r.modules r.entries are.is_program are.checked w i k s a.reached next x in
          absurd (has_lock w ls ys a i there k mine (ys i) refl run none)

pub bad_is_bad : Laws → SharedAreDeclared → BadIsBad
bad_is_bad laws declared r are w ls ys a i there bad = bad_next laws declared r are w ls ys a i there bad
