-- The limit of a list is written in its five digits.
use Rattle.std.proofs.Common.{rules}
use Rattle.std.specs.Fmt.{digits}
use Rattle.set_file.proofs.told.LineFaultDisplay.fmt.Goals as goal

pub returns-in-Full-clause-writes : goal.returns-in-Full-clause-writes
unfolding digits
returns-in-Full-clause-writes g c = search rules
