-- The triangles so far are those of the rows and cells so far.
use Rattle.std.proofs.Common.{◌≡◌, ◌++◌}
use Rattle.pairing_cost.specs.Floor.{row_triangles, floor_triangles}
use Rattle.pairing_cost.proofs.floor.Floor.triangles.Given as goal

abbrev pub invariant-loop-r : goal.invariant-loop-r
invariant-loop-r l = l.triangles.items ≡ floor_triangles l.self.columns l.r

abbrev pub invariant-loop-c : goal.invariant-loop-c
invariant-loop-c l = l.triangles.items ≡ floor_triangles l.self.columns l.r ++ row_triangles l.width l.r l.c
