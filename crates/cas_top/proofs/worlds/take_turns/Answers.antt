use Rattle.std.proofs.Common.{ℕ, List, map, subst, sym}
use Rattle.std.specs.Prelude.{OnOk}
use Rattle.cas_command.specs.declared.command.Item.{Item}
use Rattle.cas_command.specs.declared.command.Turns.{Turns}
use Rattle.cas_command.specs.Parts.{item_view}
use Rattle.cas_command.specs.View.{turns_view}
use Rattle.cas_program.specs.Program.{env_of}
use Rattle.cas_top.specs.Worlds.{turned, turns_of}
use Rattle.cas_turn.specs.World_of.{IsWorldOf}
use Rattle.cas_typed.specs.Resolved.{TypedModuleTree}
use Rattle.cas_world.specs.Turns.{turns}
use Rattle.cas_world.specs.World.{World}
use Rattle.cas_top.proofs.worlds.take_turns.Goals as goal

pub returns-in-Schedule : goal.returns-in-Schedule
returns-in-Schedule c =
    let P : List Item → Type 0 = λ is. OnOk c.schedule.result
    ((ms : List TypedModuleTree) (names : List (List ℕ)) (w : World) → IsWorldOf c.args.world.now ms names w →
    IsWorldOf c.schedule.new.world ms names (turns (env_of ms) w (turns_of (map item_view is)))) in
    let Q : Turns → Type 0 = λ t. OnOk c.schedule.result
    ((ms : List TypedModuleTree) (names : List (List ℕ)) (w : World) → IsWorldOf c.args.world.now ms names w →
    IsWorldOf c.schedule.new.world ms names (turned (env_of ms) (turns_view t) w)) in
    subst Q (sym c.in-Schedule.is) (subst P c.as_slice.ensures.value c.schedule.ensures)

pub returns-in-Rounds : goal.returns-in-Rounds
returns-in-Rounds c =
    let Q : Turns → Type 0 = λ t. OnOk c.rounds.result
    ((ms : List TypedModuleTree) (names : List (List ℕ)) (w : World) → IsWorldOf c.args.world.now ms names w →
    IsWorldOf c.rounds.new.self ms names (turned (env_of ms) (turns_view t) w)) in
    subst Q (sym c.in-Rounds.is) c.rounds.ensures.rounds
