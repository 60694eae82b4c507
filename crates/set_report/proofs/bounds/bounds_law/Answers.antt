-- The law, from its own file.
use Rattle.set_report.proofs.Boxes.{smallest}
use Rattle.set_report.proofs.bounds.bounds_law.Goals as goal

pub returns : goal.returns
returns c = smallest
