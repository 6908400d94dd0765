-- What the code's commands hold, as the definitions speak of them.
use Rattle.std.specs.Prelude.{map}
use Rattle.cas_command.specs.declared.command.Command.{Command}
use Rattle.cas_command.specs.declared.command.Command.TheVariants as code
use Rattle.cas_command.specs.declared.command.Run.{Run}
use Rattle.cas_command.specs.declared.command.Turns.{Turns}
use Rattle.cas_command.specs.declared.command.Turns.TheVariants as turns
use Rattle.cas_command.specs.declared.command.Wanted.{Wanted}
use Rattle.cas_command.specs.declared.command.World.{World}
use Rattle.cas_command.specs.Parts.{item_view, texts}
use Rattle.cas_command.specs.Words as words

abbrev pub run_view : Run → words.Run
run_view r = record { source = r.source.now; lock = r.lock.now; thread = r.thread.now }

abbrev pub turns_view : Turns → words.Turns
turns_view (turns.Schedule items) = words.schedule (map item_view items.items)
turns_view (turns.Rounds count) = words.rounds count

abbrev pub world_view : World → words.World
world_view w = record { names = texts w.names.items; threads = texts w.threads.items; turns = turns_view w.turns }

abbrev pub command_view : Command → words.Command
command_view (code.Run r) = words.run (run_view r)
command_view (code.Check names) = words.check (texts names.items)
command_view (code.World w) = words.world (world_view w)

abbrev pub wanted_view : Wanted → words.Wanted
wanted_view w = record { name = w.name.now; limit = w.limit }
