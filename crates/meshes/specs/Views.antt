-- What a stored mesh and a depth grid mean, by what they hold. Assumes nothing.
use Rattle.mesh.specs.Model.{MeshModel}
use Rattle.mesh.specs.Stored.{stored}
use Rattle.mesh.specs.Grid.{grid}
use Rattle.meshes.specs.declared.stored.StoredMesh.{StoredMesh}
use Rattle.meshes.specs.declared.grid.DepthGrid.{DepthGrid}

abbrev pub stored_of : StoredMesh → MeshModel
stored_of s = stored s.set.points.now s.set.triangles.now s.twins.now

abbrev pub grid_of : DepthGrid → MeshModel
grid_of s = grid s.columns s.rows s.pitch s.readings.now
