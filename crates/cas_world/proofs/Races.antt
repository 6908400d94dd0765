-- Programs of checked modules have no races.
use Rattle.std.proofs.Common.{arith, ◌≡◌, ℕ, List, Some, sym, ap, subst, ◌∙◌}
use Rattle.std.specs.Prelude.{slice_get, All}
use Rattle.cas_base.specs.declared.act.Act.TheVariants as act
use Rattle.cas_own.specs.Checked.{IsChecked}
use Rattle.cas_own.specs.Locks.{set_of}
use Rattle.cas_program.specs.Laws.{SharedAreDeclared, GuardsAreLocks, LocksAreByName, FunctionsAgree, GuardsAgree, EntriesHoldNone, EnvironmentsAreWellFormed}
use Rattle.cas_program.specs.Program.{IsProgram, env_of, entries_of, initial_words}
use Rattle.cas_step.specs.Env.{FunctionAt}
use Rattle.cas_step.specs.Laws.{FootprintsAreNamed}
use Rattle.cas_step.specs.Step.{Step}
use Rattle.cas_syntax.specs.Tree.{ModuleTree}
use Rattle.cas_typed.specs.Bodies.{HasBodies}
use Rattle.cas_typed.specs.Modules.{IsTyped}
use Rattle.cas_typed.specs.Resolved.{TypedModuleTree}
use Rattle.cas_world.specs.Races.{Touches, program_world, RacesAbsent, TouchesAreGuarded, UnlocksAreOfHolders}
use Rattle.cas_world.specs.World.{World, IsNext, Reaches}
use Rattle.cas_world.proofs.Holding.{owner_is, IsGuarded, Kept, held_step, held_after, held_reached, HoldsNone}
use Rattle.cas_world.proofs.Joined.{own_is, bodies_walk, guards_there, calls_there}
use Rattle.cas_world.proofs.Standing.{Joins, PartsAfter}
use Rattle.cas_world.specs.Owned.{IsOwned, WorldsAreOwned, StepsKeepOwned, parts, counted}

-- what is known of programs and steps
pub record Laws : Type 0 where
  pub well_formed : EnvironmentsAreWellFormed
  pub bodies : (m : ModuleTree) (r : TypedModuleTree) → IsTyped m r → HasBodies r
  pub shared_ones : SharedAreDeclared
  pub guards : GuardsAreLocks
  pub names : LocksAreByName
  pub functions : FunctionsAgree
  pub entries : EntriesHoldNone
  pub footprints : FootprintsAreNamed

module _ (laws : Laws) (modules : List TypedModuleTree) (entries : List (List ℕ)) (program : IsProgram modules entries)
    (checked : All IsChecked modules) where
  pub joins : Joins modules (env_of modules)
  joins = record {
    bodies = bodies_walk modules entries program checked (laws.well_formed modules entries program) laws.bodies;
    calls = calls_there modules entries program checked (laws.well_formed modules entries program)
        laws.names laws.functions;
    guards = guards_there modules entries program checked (laws.well_formed modules entries program)
        laws.shared_ones laws.guards;
  }

  entered : (i : ℕ) (f : FunctionAt) → slice_get (entries_of modules entries) i ≡ Some f →
      HoldsNone modules (env_of modules) joins laws.footprints f
  entered i f there =
      let (unit, it, at_place, none) = laws.entries modules entries program i f there in (
        unit,
        it,
        at_place,
        λ w. ap (λ s. counted modules (env_of modules) f.unit s w)
            (own_is modules entries program checked (laws.well_formed modules entries program) f unit it at_place
            ∙ ap set_of none),
      )

  reached : (w : World) → Reaches (env_of modules) (program_world modules entries) w →
      IsOwned modules (env_of modules) w
  reached w r = held_reached modules (env_of modules) joins laws.footprints (entries_of modules entries)
      (initial_words modules) w entered r

  step_in : (w : World) (i : ℕ) (s : Step) → Reaches (env_of modules) (program_world modules entries) w →
      IsNext (env_of modules) w i s →
      Kept modules (env_of modules) joins laws.footprints w.holders i s
  step_in w i s r next = held_step modules (env_of modules) joins laws.footprints w i s (reached w r) next

  -- the guard of a word that a step touches, and that the thread is its holder
  pub touched : (w : World) (i n : ℕ) (s : Step) → Reaches (env_of modules) (program_world modules entries) w →
      IsNext (env_of modules) w i s → Touches s n →
      (l : ℕ) × IsGuarded modules (env_of modules) joins laws.footprints n l × (slice_get w.holders l ≡ Some (Some i))
  touched w i n s r next t =
      let kept = step_in w i s r next in
      let (l, guarded, some) = kept.touches n t in
      (l, guarded, owner_is (slice_get w.holders l) i (omega (arith, some, kept.held_before l)))

  pub unlocked : (w : World) (i l : ℕ) (s : Step) → Reaches (env_of modules) (program_world modules entries) w →
      IsNext (env_of modules) w i s → s.act ≡ act.Unlock l →
      slice_get w.holders l ≡ Some (Some i)
  unlocked w i l s r next is =
      let kept = step_in w i s r next in
      let after : PartsAfter (act.Unlock l) kept.old (parts modules (env_of modules) s.next.activations kept.sets) =
      subst (λ a. PartsAfter a kept.old (parts modules (env_of modules) s.next.activations kept.sets))
      is kept.parts_are in
      owner_is (slice_get w.holders l) i (omega (arith, after.0, kept.held_before l))

pub worlds_are_owned : Laws → WorldsAreOwned
worlds_are_owned laws modules entries program checked w r = reached laws modules entries program checked w r

pub steps_keep_owned : Laws → StepsKeepOwned
steps_keep_owned laws modules entries program checked w i s owned may =
    held_after modules (env_of modules) (joins laws modules entries program checked) laws.footprints w i s owned may

pub touches_are_guarded : Laws → TouchesAreGuarded
touches_are_guarded laws modules entries program checked w i n s r next t =
    let (l, g, mine) = touched laws modules entries program checked w i n s r next t in
    (l, (g.unit, g.item, g.first, g.count, g.entity, g.from, g.below), mine)

pub unlocks_are_of_holders : Laws → UnlocksAreOfHolders
unlocks_are_of_holders laws modules entries program checked w i l s r next is =
    unlocked laws modules entries program checked w i l s r next is

-- a word's guard has one holder
same_lock : (l k : ℕ) → Some l ≡ Some k → l ≡ k
same_lock l k h = cc

same_thread : (i j : ℕ) → Some (Some i) ≡ Some (Some j) → i ≡ j
same_thread i j h = cc

pub races_absent : TouchesAreGuarded → GuardsAgree → RacesAbsent
races_absent guarded agree modules entries program checked w i j s t n r apart first second races =
    let (l, (a, g, start, count, here, from, below), mine) =
    guarded modules entries program checked w i n s r first.next races.0 in
    let (k, (b, h, begin, size, there, after, before), other) =
    guarded modules entries program checked w j n t r second.next races.1 in
    let same =
    same_lock l k (agree modules entries program a g start count b h begin size n (Some l) (Some k) here there
    (from, below) (after, before)) in
    apart (same_thread i j (sym mine ∙ ap (slice_get w.holders) same ∙ other))
