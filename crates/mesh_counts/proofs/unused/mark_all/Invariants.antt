-- The marks so far are those of the half-edges so far.
use Rattle.std.proofs.Common.{◌≡◌}
use Rattle.mesh_counts.specs.Unused.{used_below}
use Rattle.mesh_counts.proofs.unused.mark_all.Given as goal

abbrev pub invariant-loop-h : goal.invariant-loop-h
invariant-loop-h g l = l.used ≡ used_below (g.M.Mesh.meaning l.mesh) l.h
