use Rattle.cas_turn.proofs.Stands_at.{goes_from_stands}
use Rattle.cas_turn.proofs.standing.free_state.Goals as goal

pub place_of-module-requires : goal.place_of-module-requires
place_of-module-requires c = goes_from_stands c.args.program.now c.args.config.now c.args.shared.now.words.items
    c.requires
