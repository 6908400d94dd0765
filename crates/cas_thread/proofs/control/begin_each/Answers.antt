use Rattle.std.proofs.Common.{◌-◌, reverse, refl, arith}
use Rattle.cas_thread.proofs.Beginning.{puts_start, puts_push}
use Rattle.cas_thread.proofs.control.begin_each.Goals as goal

pub loop-left-init : goal.loop-left-init
loop-left-init c = record {
  within = omega arith;
  room = c.requires.room;
  capacity = refl;
  shows = puts_start c.args.rows.now (reverse c.args.cont.now.items) c.args.parts.now;
}

pub loop-left-preserved : goal.loop-left-preserved
loop-left-preserved c =
    let l = c.loop-left in
    record {
      within = omega arith;
      room = omega arith;
      capacity = omega arith;
      shows = puts_push c.args.rows.now (reverse c.args.cont.now.items) l.cont.items c.push_reserved.new.self.items
          c.args.parts.now l.left (l.left - 1)
          (omega arith) (omega arith) c.push_reserved.ensures.items l.invariant.shows;
    }
