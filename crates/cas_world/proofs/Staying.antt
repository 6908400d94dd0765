-- Turns and rounds that change nothing.
use Rattle.std.proofs.Common.{arith, ◌≡◌, ◌≢◌, ℕ, zero, suc, ◌+◌, ◌<◌, List, [], ◌∷◌, ◌++◌, length, replicate, Option, Some, refl, sym, ap, subst, ◌∙◌}
use Rattle.std.specs.Prelude.{slice_get}
use Rattle.cas_base.specs.declared.act.Act.{Act}
use Rattle.cas_base.specs.declared.act.Act.TheVariants as act
use Rattle.cas_step.specs.Env.{Env}
use Rattle.cas_step.specs.Laws.{IsTaken}
use Rattle.cas_step.specs.Step.{Config, Step}
use Rattle.cas_world.proofs.Holding.{set_here, set_elsewhere}
use Rattle.cas_world.proofs.Moving.{moved_by}
use Rattle.cas_world.proofs.Turns.{running_may}
use Rattle.cas_world.specs.Turns.{State, running, ended, waits, bad, state_of, after_turn, turn, turns, threads_from, rounds, taker, taken, TurnsMove, TurnsStay, RoundsStay, RoundsTakeTurns}
use Rattle.cas_world.specs.World.{World, world_after, IsEnabled, MayStep}

taken_act : (a : Act) (holders : List (Option ℕ)) → IsEnabled a holders → IsTaken a
taken_act (act.Lock l) holders h = tt
taken_act (act.Unlock l) holders h = tt
taken_act act.Quiet holders h = tt
taken_act (act.Out n) holders h = tt
taken_act act.Done holders h = tt
taken_act (act.Bad why) holders h = absurd h

module _ (e : Env) where
  -- behind a step that may be taken the thread is another
  step_moves : (w : World) (i : ℕ) (s : Step) → MayStep e w i s →
      slice_get (world_after w i s).threads i ≡ slice_get w.threads i → ⊥
  step_moves w i s may same =
      let c = may.next.config in
      let there : slice_get (world_after w i s).threads i ≡ Some s.next =
      set_here w.threads i c s.next may.next.stands in
      let next_is : s.next ≡ c = cc (sym there ∙ same ∙ may.next.stands) in
      moved_by e w.words c s c.activations may.next.steps (taken_act s.act w.holders may.enabled)
      (ap (λ (x : Config). x.activations) next_is)

  turn_moves : (w : World) (i : ℕ) (s : Step) → state_of e w i ≡ running s →
      slice_get (turn e w i).threads i ≡ slice_get w.threads i → ⊥
  turn_moves w i s runs same =
      step_moves w i s (running_may e w i s runs) (sym (ap (λ st. slice_get (after_turn w i st).threads i) runs) ∙ same)

  -- a turn changes no other thread
  turn_elsewhere : (w : World) (i j : ℕ) (st : State) → j ≢ i →
      slice_get (after_turn w i st).threads j ≡ slice_get w.threads j
  turn_elsewhere w i j (running s) differs = set_elsewhere w.threads i j s.next differs
  turn_elsewhere w i j ended differs = refl
  turn_elsewhere w i j (waits l holder) differs = refl
  turn_elsewhere w i j (bad why unit p) differs = refl

  -- nor do the turns of later threads
  later_elsewhere : (count k j : ℕ) (w : World) → j < k →
      slice_get (turns e w (threads_from k count)).threads j ≡ slice_get w.threads j
  later_elsewhere zero k j w less = refl
  later_elsewhere (suc n) k j w less =
      let differs : j ≢ k = λ same. omega (arith, less, same) in
      later_elsewhere n (k + 1) j (turn e w k) (omega (arith, less)) ∙ turn_elsewhere w k j (state_of e w k) differs

  -- where such turns leave all threads, none is taken
  none_by : (count k : ℕ) (w : World) (st : State) → state_of e w k ≡ st →
      ((j : ℕ) → slice_get (turns e (after_turn w k st) (threads_from (k + 1) count)).threads j ≡ slice_get w.threads j)
      →
      (((j : ℕ) → slice_get (turns e w (threads_from (k + 1) count)).threads j ≡ slice_get w.threads j) →
      taken e w (threads_from (k + 1) count) ≡ []) →
      taker k st ++ taken e (after_turn w k st) (threads_from (k + 1) count) ≡ []
  none_by count k w (running s) stands same rest =
      absurd (step_moves w k s (running_may e w k s stands)
      (sym (later_elsewhere count (k + 1) k (world_after w k s) (omega arith)) ∙ same k))
  none_by count k w ended stands same rest = rest same
  none_by count k w (waits l holder) stands same rest = rest same
  none_by count k w (bad why unit p) stands same rest = rest same

  none_taken : (count k : ℕ) (w : World) →
      ((j : ℕ) → slice_get (turns e w (threads_from k count)).threads j ≡ slice_get w.threads j) →
      taken e w (threads_from k count) ≡ []
  none_taken zero k w same = refl
  none_taken (suc n) k w same = none_by n k w (state_of e w k) refl same (none_taken n (k + 1) w)

  -- where no turn is taken nothing changes
  stays_by : (w : World) (i : ℕ) (schedule : List ℕ) (st : State) →
      taker i st ++ taken e (after_turn w i st) schedule ≡ [] → (taken e w schedule ≡ [] → turns e w schedule ≡ w) →
      turns e (after_turn w i st) schedule ≡ w
  stays_by w i schedule (running s) none rest = absurd (cc none)
  stays_by w i schedule ended none rest = rest none
  stays_by w i schedule (waits l holder) none rest = rest none
  stays_by w i schedule (bad why unit p) none rest = rest none

  stays : (w : World) (schedule : List ℕ) → taken e w schedule ≡ [] → turns e w schedule ≡ w
  stays w [] none = refl
  stays w (i ∷ schedule) none = stays_by w i schedule (state_of e w i) none (stays w schedule)

pub turns_move : TurnsMove
turns_move e w i s runs same = turn_moves e w i s runs same

pub turns_stay : TurnsStay
turns_stay e w i zero same = refl
turns_stay e w i (suc n) same = subst (λ v. turns e v (replicate n i) ≡ w) (sym same) (turns_stay e w i n same)

pub rounds_stay : RoundsStay
rounds_stay e w zero same = refl
rounds_stay e w (suc n) same = subst (λ v. rounds e v n ≡ w) (sym same) (rounds_stay e w n same)

pub rounds_take_turns : RoundsTakeTurns
rounds_take_turns e w = (
  λ same. none_taken e (length w.threads) 0 w (λ j. ap (λ (v : World). slice_get v.threads j) same),
  stays e w
      (threads_from 0 (length w.threads)),
)
