-- The list is what the turns so far have made of it.
use Rattle.std.proofs.Common.{◌≡◌, ◌*◌, length}
use Rattle.mesh.specs.Stored.{stored_start}
use Rattle.mesh.specs.Pairing.{pair_below}
use Rattle.meshes.proofs.fitting.FittingSet.pair_all.Given as goal

abbrev pub invariant-loop-h : goal.invariant-loop-h
invariant-loop-h l = l.twins ≡ pair_below (stored_start l.self.triangles.now) (3 * length l.self.triangles.now) l.h
