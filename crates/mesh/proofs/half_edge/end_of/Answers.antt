-- Past every mesh a half-edge ends at 0.
use Rattle.std.proofs.Common.{sym, arith}
use Rattle.mesh.specs.HalfEdges.{next}
use Rattle.mesh.proofs.Rules.{start_past}
use Rattle.mesh.proofs.half_edge.end_of.Goals as goal

pub returns-then-h-ge-PAST_HALF_EDGES : goal.returns-then-h-ge-PAST_HALF_EDGES
returns-then-h-ge-PAST_HALF_EDGES g c =
    sym (start_past _ (g.M.Mesh.lawful c.args.mesh.now) (next c.args.h) (omega arith))
