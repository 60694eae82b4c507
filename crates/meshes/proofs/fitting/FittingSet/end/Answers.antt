-- The highest number has no triangle, and neither has the one after it.
use Rattle.std.proofs.Common.{ap, ◌∙◌, arith}
use Rattle.mesh.specs.HalfEdges.{next}
use Rattle.mesh.specs.Stored.{stored_start}
use Rattle.mesh.proofs.Rules.{capped}
use Rattle.mesh.proofs.StoredRules.{start_absent}
use Rattle.meshes.proofs.fitting.FittingSet.end.Goals as goal

pub returns : goal.returns
returns c =
    let s = c.args.self.now in
    let few = s.few_triangles in
    c.start.ensures ∙ ap (stored_start s.triangles.now) c.next.ensures
    ∙ capped (stored_start s.triangles.now) 0 (λ h p. start_absent s.triangles.now h (omega arith)) (next c.args.h)
