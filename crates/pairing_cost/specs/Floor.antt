-- The points and triangles of a flat floor. Assumes nothing.
use Rattle.std.specs.Prelude.{ℕ, ◌+◌, ◌*◌, pos, List, [], ◌∷◌, map}
use Rattle.std.specs.List.{flat_map, range_with_len}
use Rattle.mesh.specs.declared.Point.{Point}
use Rattle.mesh.specs.declared.Triangle.{Triangle}

-- the point where column c and row r of cells begin, ten centimetres apart
abbrev pub corner_at : ℕ → ℕ → Point
corner_at c r = record { x = pos (10 * c); y = pos (10 * r); z = pos 0 }

-- a point at each corner of the cells, row by row
abbrev pub floor_points : ℕ → ℕ → List Point
floor_points columns rows = flat_map (λ r. map (λ c. corner_at c r) (range_with_len 0 (columns + 1))) (range_with_len 0 (rows + 1))

-- the two triangles of the cell whose first corner is point a, where each row of points has so many
abbrev pub cell_halves : ℕ → ℕ → List Triangle
cell_halves a width = record { a = a; b = a + 1; c = a + width } ∷ record { a = a + width + 1; b = a + width; c = a + 1 } ∷ []

-- the triangles of the first cells of row r
abbrev pub row_triangles : ℕ → ℕ → ℕ → List Triangle
row_triangles width r cells = flat_map (λ c. cell_halves (r * width + c) width) (range_with_len 0 cells)

-- the triangles of every cell, row by row
abbrev pub floor_triangles : ℕ → ℕ → List Triangle
floor_triangles columns rows = flat_map (λ r. row_triangles (columns + 1) r columns) (range_with_len 0 rows)
