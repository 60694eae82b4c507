-- What a line of the table tells of a floor. Assumes nothing.
use Rattle.std.specs.Prelude.{◌≡◌, ℕ, List, length}
use Rattle.std.specs.List.Sorted.{IsPermutation}
use Rattle.mesh.specs.declared.Triangle.{Triangle}
use Rattle.mesh.specs.Stored.{stored}
use Rattle.mesh.specs.Pairing.{pairing}
use Rattle.mesh_counts.specs.Edges.{edges_of}
use Rattle.pairing_cost.specs.declared.table.Order.{Order}
use Rattle.pairing_cost.specs.declared.table.Order.TheVariants.{Drawn}
use Rattle.pairing_cost.specs.declared.table.Line.{Line}
use Rattle.pairing_cost.specs.Floor.{floor_points, floor_triangles}

-- the triangles of the floor in some order, as they are drawn if that is asked for; how many they are; and the
-- edges of the mesh that they make once they are paired
pub record Measured (columns rows : ℕ) (order : Order) (line : Line) : Type 0 where
  pub listed : List Triangle
  pub same : IsPermutation (floor_triangles columns rows) listed
  pub drawn : order ≡ Drawn → listed ≡ floor_triangles columns rows
  pub asked : line.order ≡ order
  pub many : line.triangles ≡ length listed
  pub counted : line.edges ≡ edges_of (stored (floor_points columns rows) listed (pairing listed))
