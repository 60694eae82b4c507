-- What is written so far are the bytes so far, as they are shown.
use Rattle.std.proofs.Common.{take}
use Rattle.std.specs.Fmt.{HasWritten, IsPlainFormatter}
use Rattle.set_report.specs.Shown.{shown_bytes}
use Rattle.set_report.proofs.shown.ShownBytesDisplay.fmt.Given as goal

abbrev pub invariant-loop-b : goal.invariant-loop-b
invariant-loop-b g l = IsPlainFormatter l.fn.f → HasWritten g.W.Write.write_str_gives l.fn.f (shown_bytes (take l.b-index l.self.0.now)) l.f
