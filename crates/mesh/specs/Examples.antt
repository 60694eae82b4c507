-- Small meshes, computed from the definitions. Assumes nothing.
use Rattle.std.specs.Prelude.{◌≡◌, ℕ, true, false, List, [], ◌∷◌, map, ℤ, pos, negsuc, Some, None, Option}
use Rattle.std.specs.List.{range_with_len}
use Rattle.mesh.specs.declared.Point.{Point}
use Rattle.mesh.specs.declared.Triangle.{Triangle}
use Rattle.mesh.specs.Model.{MeshModel}
use Rattle.mesh.specs.Stored.{stored, stored_fits, no_twin}
use Rattle.mesh.specs.Pairing.{pairing}
use Rattle.mesh.specs.Grid.{grid, grid_fits}
use Rattle.mesh.specs.Mirror.{mirror}

abbrev pub at : ℤ → ℤ → ℤ → Point
at x y z = record { x = x; y = y; z = z }

abbrev pub corners : ℕ → ℕ → ℕ → Triangle
corners a b c = record { a = a; b = b; c = c }

-- replies to the questions about half-edges 0 to n − 1
abbrev pub starts : MeshModel → ℕ → List ℕ
starts m n = map m.start (range_with_len 0 n)

abbrev pub twins : MeshModel → ℕ → List (Option ℕ)
twins m n = map m.twin (range_with_len 0 n)

-- a square of two triangles
abbrev pub square_points : List Point
square_points = at (pos 0) (pos 0) (pos 0) ∷ at (pos 100) (pos 0) (pos 0) ∷ at (pos 100) (pos 100) (pos 0) ∷ at (pos 0) (pos 100) (pos 0) ∷ []

abbrev pub square_triangles : List Triangle
square_triangles = corners 0 1 2 ∷ corners 0 2 3 ∷ []

abbrev pub square : MeshModel
square = stored square_points square_triangles (pairing square_triangles)

-- four readings, the last one missing
abbrev pub torn_grid : MeshModel
torn_grid = grid 2 2 50 (10 ∷ 10 ∷ 10 ∷ 0 ∷ [])

-- two cells in a row
abbrev pub strip : MeshModel
strip = grid 3 2 50 (10 ∷ 10 ∷ 10 ∷ 10 ∷ 10 ∷ 10 ∷ [])

-- two cells, one below the other
abbrev pub column : MeshModel
column = grid 2 3 50 (10 ∷ 10 ∷ 10 ∷ 10 ∷ 10 ∷ 10 ∷ [])

-- three columns and two rows, each reading another, so that rows and columns are told apart
abbrev pub slope : MeshModel
slope = grid 3 2 50 (11 ∷ 12 ∷ 13 ∷ 14 ∷ 15 ∷ 16 ∷ [])

pub record Examples : Type 0 where
  pub square_fits : stored_fits square_points square_triangles (pairing square_triangles) ≡ true
  pub square_twins : pairing square_triangles ≡ no_twin ∷ no_twin ∷ 3 ∷ 2 ∷ no_twin ∷ no_twin ∷ []
  pub square_replies : twins square 7 ≡ None ∷ None ∷ Some 3 ∷ Some 2 ∷ None ∷ None ∷ None ∷ []
  -- one twin without the other, and a twin that starts at the wrong point
  pub one_sided : stored_fits square_points square_triangles (no_twin ∷ no_twin ∷ 3 ∷ no_twin ∷ no_twin ∷ no_twin ∷ []) ≡ false
  pub wrong_way : stored_fits square_points square_triangles (no_twin ∷ 3 ∷ no_twin ∷ 1 ∷ no_twin ∷ no_twin ∷ []) ≡ false
  -- three triangles on one side, and four
  pub three_panels : pairing (corners 0 1 2 ∷ corners 1 0 3 ∷ corners 1 0 4 ∷ []) ≡ 3 ∷ no_twin ∷ no_twin ∷ 0 ∷ no_twin ∷ no_twin ∷ no_twin ∷ no_twin ∷ no_twin ∷ []
  pub four_panels : pairing (corners 0 1 2 ∷ corners 0 1 3 ∷ corners 1 0 4 ∷ corners 1 0 5 ∷ []) ≡ 6 ∷ no_twin ∷ no_twin ∷ 9 ∷ no_twin ∷ no_twin ∷ 0 ∷ no_twin ∷ no_twin ∷ 3 ∷ no_twin ∷ no_twin ∷ []
  -- two triangles over the same three points, seen from either side
  pub folded : pairing (corners 0 1 2 ∷ corners 0 2 1 ∷ []) ≡ 5 ∷ 4 ∷ 3 ∷ 2 ∷ 1 ∷ 0 ∷ []
  -- the same side twice the same way is no pair
  pub same_way : pairing (corners 0 1 2 ∷ corners 0 1 3 ∷ []) ≡ no_twin ∷ no_twin ∷ no_twin ∷ no_twin ∷ no_twin ∷ no_twin ∷ []
  pub mirrored_starts : starts (mirror square) 6 ≡ 0 ∷ 2 ∷ 1 ∷ 0 ∷ 3 ∷ 2 ∷ []
  pub mirrored_twins : twins (mirror square) 6 ≡ Some 5 ∷ None ∷ None ∷ None ∷ None ∷ Some 0 ∷ []
  pub mirrored_place : (mirror square).place 1 ≡ at (negsuc 99) (pos 0) (pos 0)
  pub torn_present : map torn_grid.present (range_with_len 0 3) ≡ true ∷ false ∷ false ∷ []
  pub torn_starts : starts torn_grid 6 ≡ 0 ∷ 1 ∷ 2 ∷ 0 ∷ 0 ∷ 0 ∷ []
  pub torn_twins : twins torn_grid 6 ≡ None ∷ None ∷ None ∷ None ∷ None ∷ None ∷ []
  pub strip_starts : starts strip 12 ≡ 0 ∷ 1 ∷ 3 ∷ 4 ∷ 3 ∷ 1 ∷ 1 ∷ 2 ∷ 4 ∷ 5 ∷ 4 ∷ 2 ∷ []
  pub strip_twins : twins strip 12 ≡ None ∷ Some 4 ∷ None ∷ None ∷ Some 1 ∷ Some 8 ∷ None ∷ Some 10 ∷ Some 5 ∷ None ∷ Some 7 ∷ None ∷ []
  pub column_starts : starts column 12 ≡ 0 ∷ 1 ∷ 2 ∷ 3 ∷ 2 ∷ 1 ∷ 2 ∷ 3 ∷ 4 ∷ 5 ∷ 4 ∷ 3 ∷ []
  pub column_twins : twins column 12 ≡ None ∷ Some 4 ∷ None ∷ Some 6 ∷ Some 1 ∷ None ∷ Some 3 ∷ Some 10 ∷ None ∷ None ∷ Some 7 ∷ None ∷ []
  pub slope_places : map slope.place (range_with_len 0 7) ≡ at (pos 0) (pos 0) (pos 11) ∷ at (pos 50) (pos 0) (pos 12) ∷ at (pos 100) (pos 0) (pos 13) ∷ at (pos 0) (pos 50) (pos 14) ∷ at (pos 50) (pos 50) (pos 15) ∷ at (pos 100) (pos 50) (pos 16) ∷ at (pos 0) (pos 0) (pos 0) ∷ []
  -- the limits of a grid, from both sides
  pub smallest : grid_fits 2 2 1 (0 ∷ 0 ∷ 0 ∷ 10000 ∷ []) ≡ true
  pub too_narrow : grid_fits 1 4 1 (0 ∷ 0 ∷ 0 ∷ 0 ∷ []) ≡ false
  pub too_close : grid_fits 2 2 0 (0 ∷ 0 ∷ 0 ∷ 0 ∷ []) ≡ false
  pub too_far : grid_fits 2 2 56 (0 ∷ 0 ∷ 0 ∷ 0 ∷ []) ≡ false
  pub too_few : grid_fits 2 2 1 (0 ∷ 0 ∷ 0 ∷ []) ≡ false
  pub too_deep : grid_fits 2 2 1 (0 ∷ 0 ∷ 0 ∷ 10001 ∷ []) ≡ false
