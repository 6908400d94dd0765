use Rattle.std.proofs.Common.{arith, ◌≡◌, ◌++◌, ◌∷◌, [], ap, reverse, vec_capacity, ◌∙◌}
use Rattle.cas_thread.proofs.Rooms.{begin_asked, turn_asked, loop_asked, next_asked, next_shown}
use Rattle.cas_thread.specs.declared.continuation.ContItem.TheVariants.{Begin, Begun, Loop, Next}
use Rattle.cas_thread.proofs.control.advance.Goals as goal

pub begin_at-requires : goal.begin_at-requires
begin_at-requires c = record {
  room = λ row found.
      let new = c.pop.new.self in
      let popped : c.args.cont.now.items ≡ new.items ++ Begin c.in-Begin.number ∷ [] = c.in-Some.ensures.items
      ∙ ap (λ it. new.items ++ it ∷ []) c.in-Begin.is in
      let asked = begin_asked c.args.rows.now (vec_capacity c.args.cont.now) c.in-Begin.number c.args.cont.now.items
      new.items popped c.requires.room row found in
      omega (arith, asked, new.ok.0);
}

pub turn_at-requires : goal.turn_at-requires
turn_at-requires c = record {
  room =
      let new = c.pop.new.self in
      let popped : c.args.cont.now.items ≡ new.items ++ Begun c.in-Begun.number ∷ [] = c.in-Some.ensures.items
      ∙ ap (λ it. new.items ++ it ∷ []) c.in-Begun.is in
      let asked = turn_asked c.args.rows.now (vec_capacity c.args.cont.now) c.in-Begun.number c.args.cont.now.items
      new.items popped c.requires.room in
      omega (arith, asked, new.ok.0);
}

pub turn_for_at-requires : goal.turn_for_at-requires
turn_for_at-requires c = record {
  room =
      let new = c.pop.new.self in
      let popped : c.args.cont.now.items ≡ new.items ++ Loop c.in-Loop.number ∷ [] = c.in-Some.ensures.items
      ∙ ap (λ it. new.items ++ it ∷ []) c.in-Loop.is in
      let asked = loop_asked c.args.rows.now (vec_capacity c.args.cont.now) c.in-Loop.number c.args.cont.now.items
      new.items popped c.requires.room in
      omega (arith, asked, new.ok.0);
}

pub next_at-requires : goal.next_at-requires
next_at-requires c = record {
  room = λ row i at found.
      let new = c.pop.new.self in
      let popped : c.args.cont.now.items ≡ new.items ++ Next c.in-Next.number ∷ [] = c.in-Some.ensures.items
      ∙ ap (λ it. new.items ++ it ∷ []) c.in-Next.is in
      let asked = next_asked c.args.rows.now (vec_capacity c.args.cont.now) c.in-Next.number c.args.cont.now.items
      new.items popped c.requires.room row i at found in
      omega (arith, asked, new.ok.0);
}

pub returns-in-Next-clause-shows : goal.returns-in-Next-clause-shows
returns-in-Next-clause-shows c =
    let new = c.pop.new.self in
    let popped : c.args.cont.now.items ≡ new.items ++ Next c.in-Next.number ∷ [] = c.in-Some.ensures.items
    ∙ ap (λ it. new.items ++ it ∷ []) c.in-Next.is in
    next_shown c.args.rows.now c.in-Next.number c.args.cont.now.items new.items (reverse c.next_at.new.cont.items)
    c.args.holds popped c.next_at.ensures.shows
