-- The limit of the coordinates is written in its five digits.
use Rattle.std.proofs.Common.{rules}
use Rattle.std.specs.Fmt.{digits}
use Rattle.set_file.proofs.told.WordFaultDisplay.fmt.Goals as goal

pub returns-in-Range-clause-writes : goal.returns-in-Range-clause-writes
unfolding digits
returns-in-Range-clause-writes g c = search rules
