-- Lists that pass the tests are few, besides.
use Rattle.std.proofs.Common.{◌≡◌, true, rules}
use Rattle.mesh.specs.Stored.{set_fits}
use Rattle.mesh.proofs.StoredRules.{fitting}
use Rattle.meshes.proofs.fitting.FittingSet.new.Goals as goal

pub invariant_of-result : goal.invariant_of-result
invariant_of-result c =
    let e : set_fits c.args.points.now c.args.triangles.now ≡ true = search rules in
    let f = fitting _ _ e in
    record { fits = e; few_points = f.few_points; few_triangles = f.few_triangles }
