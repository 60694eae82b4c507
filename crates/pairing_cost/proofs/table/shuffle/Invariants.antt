-- The triangles so far are a permutation of the first ones.
use Rattle.std.specs.List.Sorted.{IsPermutation}
use Rattle.pairing_cost.proofs.table.shuffle.Given as goal

abbrev pub invariant-loop-i : goal.invariant-loop-i
invariant-loop-i l = IsPermutation l.initial.triangles l.triangles
