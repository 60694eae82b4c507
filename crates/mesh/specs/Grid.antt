-- What a depth grid means, and which settings make one. Assumes nothing.
use Rattle.std.specs.Prelude.{◌≡◌, ℕ, zero, suc, ◌+◌, ◌-◌, ◌*◌, ◌/◌, ◌%◌, ◌<◌, ◌≤◌, Bool, cond, not, ◌&&◌, List, length, pos, Some, None, Option, ◌==◌, nat_le, nat_lt, slice_index}
use Rattle.mesh.specs.declared.Point.{Point}
use Rattle.mesh.specs.HalfEdges.{triangle_of}
use Rattle.mesh.specs.Model.{MeshModel, origin}
use Rattle.std.specs.List.{list_all}

-- Below, V = W − 1 is how many cells a row has. Cell q has the half-edges 6q to 6q + 5:
-- its sides 0 to 2 are those of its first triangle, 3 to 5 those of its second.

-- the point at a row and a column
abbrev pub point : ℕ → ℕ → ℕ → ℕ
point V r c = r * (V + 1) + c

-- where a side of the cell at row r and column c starts
abbrev pub corner_at : ℕ → ℕ → ℕ → ℕ → ℕ
corner_at V r c zero = point V r c
corner_at V r c (suc zero) = point V r (c + 1)
corner_at V r c (suc (suc zero)) = point V (r + 1) c
corner_at V r c (suc (suc (suc zero))) = point V (r + 1) (c + 1)
corner_at V r c (suc (suc (suc (suc zero)))) = point V (r + 1) c
corner_at V r c (suc (suc (suc (suc (suc side))))) = point V r (c + 1)

abbrev pub corner : ℕ → ℕ → ℕ → ℕ
corner V cell side = corner_at V (cell / V) (cell % V) side

-- where a half-edge starts, were its triangle present
abbrev pub grid_start : ℕ → ℕ → ℕ
grid_start V h = corner V (h / 6) (h % 6)

-- the cells above, below, left and right
abbrev pub upper : ℕ → ℕ → Option ℕ
upper V cell = cond (cell / V == 0) None (Some (cell - V))

abbrev pub lower : ℕ → ℕ → Option ℕ
lower V cell = Some (cell + V)

abbrev pub left : ℕ → ℕ → Option ℕ
left V cell = cond (cell % V == 0) None (Some (cell - 1))

abbrev pub right : ℕ → ℕ → Option ℕ
right V cell = cond (nat_lt (cell % V + 1) V) (Some (cell + 1)) None

abbrev pub at_side : Option ℕ → ℕ → Option ℕ
at_side None side = None
at_side (Some cell) side = Some (6 * cell + side)

-- the half-edge across a side, were every triangle present, and always a cell below
abbrev pub across : ℕ → ℕ → ℕ → Option ℕ
across V cell zero = at_side (upper V cell) 3
across V cell (suc zero) = Some (6 * cell + 4)
across V cell (suc (suc zero)) = at_side (left V cell) 5
across V cell (suc (suc (suc zero))) = at_side (lower V cell) 0
across V cell (suc (suc (suc (suc zero)))) = Some (6 * cell + 1)
across V cell (suc (suc (suc (suc (suc side))))) = at_side (right V cell) 2

-- a reading of 0 is missing
abbrev pub read : List ℕ → ℕ → Bool
read readings p = not (slice_index readings p == 0)

-- none of a triangle's readings is missing
unfoldable pub full : ℕ → List ℕ → ℕ → Bool
full V readings t = read readings (grid_start V (3 * t)) && (read readings (grid_start V (3 * t + 1)) && read readings (grid_start V (3 * t + 2)))

abbrev pub grid_triangles : ℕ → ℕ → ℕ
grid_triangles W H = 2 * ((W - 1) * (H - 1))

abbrev pub grid_present : ℕ → ℕ → List ℕ → ℕ → Bool
grid_present W H readings t = nat_lt t (grid_triangles W H) && full (W - 1) readings t

abbrev pub at_place : ℕ → ℕ → ℕ → Point
at_place x y z = record { x = pos x; y = pos y; z = pos z }

-- point r × W + c lies at (c × s, r × s), as high as its reading
abbrev pub grid_place : ℕ → ℕ → ℕ → List ℕ → ℕ → Point
grid_place W H s readings p = cond (nat_lt p (W * H)) (at_place (p % W * s) (p / W * s) (slice_index readings p)) origin

abbrev pub when_present : (ℕ → Bool) → Option ℕ → Option ℕ
when_present present None = None
when_present present (Some g) = cond (present (triangle_of g)) (Some g) None

-- the mesh of W columns and H rows of readings, s apart
abbrev pub grid : ℕ → ℕ → ℕ → List ℕ → MeshModel
grid W H s readings = record {
  triangles = grid_triangles W H;
  points = W * H;
  present = grid_present W H readings;
  start = λ h. cond (grid_present W H readings (triangle_of h)) (grid_start (W - 1) h) 0;
  place = grid_place W H s readings;
  twin = λ h. cond (grid_present W H readings (triangle_of h)) (when_present (grid_present W H readings) (across (W - 1) (h / 6) (h % 6))) None;
}

abbrev pub within : ℕ → ℕ → ℕ → Bool
within low high n = nat_le low n && nat_le n high

abbrev pub small : ℕ → Bool
small reading = nat_le reading 10000

-- the settings and the readings are in limits
unfoldable pub grid_fits : ℕ → ℕ → ℕ → List ℕ → Bool
grid_fits W H s readings = within 2 181 W && (within 2 181 H && (within 1 55 s && (length readings == W * H && list_all small readings)))

-- what the settings and readings of such a grid keep
pub record Limits (W H s : ℕ) (readings : List ℕ) : Type 0 where
  pub wide : 2 ≤ W
  pub narrow : W ≤ 181
  pub tall : 2 ≤ H
  pub low : H ≤ 181
  pub close : s ≤ 55
  pub cells : (W - 1) * (H - 1) ≤ 32400
  pub places : W * H ≤ 32761
  pub many : length readings ≡ W * H
  pub small : (p : ℕ) → slice_index readings p ≤ 10000

-- the number of the cell at a row and a column
abbrev pub cell : ℕ → ℕ → ℕ → ℕ
cell V r c = r * V + c

-- corners and neighbours by row and column: half-edge k of a cell's first triangle lies across half-edge k of
-- a second triangle, in the cell above for 0, in its own for 1, in the cell to the left for 2
pub record Cells : Type 0 where
  pub corners : (V r c side : ℕ) → c < V → corner V (cell V r c) side ≡ corner_at V r c side
  pub above : (V r c : ℕ) → c < V → across V (cell V (r + 1) c) 0 ≡ Some (6 * cell V r c + 3)
  pub top : (V c : ℕ) → c < V → across V (cell V 0 c) 0 ≡ None
  pub own : (V r c : ℕ) → across V (cell V r c) 1 ≡ Some (6 * cell V r c + 4)
  pub beside : (V r c : ℕ) → c + 1 < V → across V (cell V r (c + 1)) 2 ≡ Some (6 * cell V r c + 5)
  pub edge : (V r : ℕ) → 0 < V → across V (cell V r 0) 2 ≡ None
