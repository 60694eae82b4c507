-- The laws of meshes. Assumes nothing.
use Rattle.std.specs.Prelude.{◌≡◌, ℕ, true, List}
use Rattle.mesh.specs.declared.Point.{Point}
use Rattle.mesh.specs.declared.Triangle.{Triangle}
use Rattle.mesh.specs.HalfEdges.{Turns}
use Rattle.mesh.specs.Model.{MeshModel, Lawful, TwinsStand}
use Rattle.mesh.specs.Stored.{stored, stored_fits}
use Rattle.mesh.specs.Pairing.{PairsStand, MatesAbove, NoneLeft}
use Rattle.mesh.specs.Grid.{grid, grid_fits, Cells}
use Rattle.mesh.specs.Mirror.{mirror, MirrorLaw}

abbrev pub StoredLawful : Type 0
StoredLawful = (points : List Point) (triangles : List Triangle) (twins : List ℕ) → stored_fits points triangles twins ≡ true → Lawful (stored points triangles twins)

abbrev pub GridLawful : Type 0
GridLawful = (W H s : ℕ) (readings : List ℕ) → grid_fits W H s readings ≡ true → Lawful (grid W H s readings)

abbrev pub MirrorLawful : Type 0
MirrorLawful = (m : MeshModel) → Lawful m → Lawful (mirror m)

pub record Laws : Type 0 where
  -- of half-edges, and of twins in every mesh
  pub turns : Turns
  pub twins_stand : TwinsStand
  -- the meshes supplied keep the rules
  pub stored_lawful : StoredLawful
  pub grid_lawful : GridLawful
  pub mirror_lawful : MirrorLawful
  -- pairing makes a stored mesh, and leaves no pair
  pub pairs_stand : PairsStand
  pub mates_above : MatesAbove
  pub none_left : NoneLeft
  -- a grid by rows and columns
  pub cells : Cells
  -- mirrored twice is the mesh again
  pub mirrored_twice : MirrorLaw
