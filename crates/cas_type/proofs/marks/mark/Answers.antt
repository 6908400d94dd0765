use Rattle.cas_type.proofs.Marks_lemmas.{marked_there, marked_away}
use Rattle.cas_type.proofs.marks.mark.Goals as goal

pub returns-then-at-marks : goal.returns-then-at-marks
returns-then-at-marks c = marked_there c.args.number c.args.marks.now c.if-at-marks.true

pub returns-else-at-marks : goal.returns-else-at-marks
returns-else-at-marks c = marked_away c.args.number c.args.marks.now c.if-at-marks.false
