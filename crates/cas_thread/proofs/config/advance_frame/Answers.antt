use Rattle.std.proofs.Common.{reverse, sym, subst, vec_capacity}
use Rattle.std.proofs.Math.Logic.{∥∥₁_map}
use Rattle.cas_step.specs.Step.{Activation}
use Rattle.cas_thread.specs.Control.{after}
use Rattle.cas_thread.specs.Frames.{IsFrame}
use Rattle.cas_thread.specs.Room.{Fits}
use Rattle.cas_thread.specs.Continuations.{IsContinuation}
use Rattle.cas_thread.proofs.Rooms.{after_fits}
use Rattle.cas_thread.proofs.config.advance_frame.Goals as goal

pub advance-requires : goal.advance-requires
advance-requires c = record {
  room = ∥∥₁_map c.requires (λ (w : (a : Activation) × IsFrame c.args.modules.now c.args.frame a). (
    w.0.cont,
    subst (λ rows. IsContinuation rows (reverse c.args.frame.cont.items) w.0.cont)
        (sym c.rows_of-rows.ensures) w.1.cont,
    w.1.room,
  ));
}

pub returns : goal.returns
returns c = λ a is.
    let rows = c.rows_of-rows.ensures in
    record {
      serial = is.serial;
      function = is.function;
      there = is.there;
      target = is.target;
      cont = subst (λ rs. IsContinuation rs (reverse c.advance.new.cont.items) (after c.args.holds a.cont)) rows
          (c.advance.ensures.shows a.cont (subst (λ rs. IsContinuation rs (reverse c.args.frame.cont.items) a.cont)
          (sym rows) is.cont));
      room = subst (λ n. Fits n (after c.args.holds a.cont)) (sym c.advance.ensures.room)
          (after_fits (vec_capacity c.args.frame.cont) c.args.holds a.cont is.room);
    }
