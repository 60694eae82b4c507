-- The limit is written in its seven digits.
use Rattle.std.proofs.Common.{rules}
use Rattle.std.specs.Fmt.{digits}
use Rattle.set_report.proofs.text.QuestionDisplay.fmt.Goals as goal

pub returns-in-Size-clause-writes : goal.returns-in-Size-clause-writes
unfolding digits
returns-in-Size-clause-writes g c = search rules
