use Rattle.cas_world.proofs.Staying.{turns_move, turns_stay, rounds_stay, rounds_take_turns}
use Rattle.cas_world.proofs.laws.turns_stay.Goals as goal

pub returns : goal.returns
returns c = record { moved = turns_move; thread = turns_stay; rounds = rounds_stay; taken = rounds_take_turns }
