-- What a report says of a reading. Assumes nothing.
use Rattle.std.specs.Prelude.{◌≡◌, ℕ, List, [], length, Result}
use Rattle.std.specs.Result.{result_err}
use Rattle.set_file.specs.declared.file.FileFault.{FileFault}
use Rattle.set_file.specs.Files.{Lists, Reads}
use Rattle.set_report.specs.declared.report.Report.{Report}
use Rattle.set_report.specs.Bounds.{bounds_of}

abbrev pub empty : Lists
empty = record { points = []; triangles = [] }

abbrev pub report_of : Lists → Result (Unit {0}) FileFault → Report
report_of s answer = record { points = length s.points; triangles = length s.triangles; bounds = bounds_of s.points; fault = result_err answer }

-- the report is that of a reading into empty lists
pub record Reports (bytes : List ℕ) (r : Report) : Type 0 where
  pub held : Lists
  pub answer : Result (Unit {0}) FileFault
  pub reads : Reads 1048576 bytes empty held answer
  pub reported : r ≡ report_of held answer
