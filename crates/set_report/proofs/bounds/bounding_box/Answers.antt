-- The fold is the box.
use Rattle.std.proofs.Common.{rules}
use Rattle.std.proofs.iter.runs.Made.{chains}
use Rattle.set_report.proofs.Boxes.{grown}
use Rattle.set_report.proofs.bounds.bounding_box.Goals as goal

pub returns : goal.returns
returns c = grown c.args.points.now c.in_ok-first.field-0.now c.fold.result (search rules) (search (rules, chains))
