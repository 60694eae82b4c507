-- How the triangles of a set are joined. Assumes nothing.
use Rattle.std.specs.Prelude.{List}
use Rattle.mesh.specs.declared.Point.{Point}
use Rattle.mesh.specs.declared.Triangle.{Triangle}
use Rattle.mesh.specs.Model.{MeshModel}
use Rattle.mesh.specs.Stored.{stored}
use Rattle.mesh.specs.Pairing.{pairing}
use Rattle.mesh_counts.specs.Edges.{edges_of}
use Rattle.mesh_counts.specs.Unused.{unused_of}
use Rattle.set_report.specs.declared.joints.Joints.{Joints}

abbrev pub counts_of : MeshModel → Joints
counts_of m = record { edges = edges_of m; unused = unused_of m }

-- the counts of the stored mesh with paired half-edges
unfoldable pub joints_of : List Point → List Triangle → Joints
joints_of points triangles = counts_of (stored points triangles (pairing triangles))
