-- What is left goes on from the number so far, which is below a power of ten.
use Rattle.std.proofs.Common.{◌≡◌, ◌^◌, ◌<◌, drop}
use Rattle.set_file.specs.Numbers.{after}
use Rattle.set_file.proofs.word.digits.Given as goal

abbrev pub invariant-loop-b : goal.invariant-loop-b
invariant-loop-b l = (after l.n (drop l.b-index l.ds) ≡ after 0 l.ds) × (l.n < 10 ^ l.b-index)
