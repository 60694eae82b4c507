-- A fan: n triangles around one point. Assumes nothing.
use Rattle.std.specs.Prelude.{ℕ, zero, suc, ◌+◌, ◌-◌, ◌*◌, ◌%◌, cond, ◌&&◌, pos, Some, None, Option, ◌==◌, nat_le, nat_lt}
use Rattle.mesh.specs.declared.Point.{Point}
use Rattle.mesh.specs.HalfEdges.{triangle_of}
use Rattle.mesh.specs.Model.{MeshModel, origin}

-- triangle t has the corners 0, t + 1 and t + 2
abbrev pub corner : ℕ → ℕ → ℕ
corner t zero = 0
corner t (suc zero) = t + 1
corner t (suc (suc k)) = t + 2

-- its first side is joined to the third side of the triangle before it, its third to the first of the one after it
abbrev pub joined : ℕ → ℕ → ℕ → Option ℕ
joined n t zero = cond (t == 0) None (Some (3 * t - 1))
joined n t (suc zero) = None
joined n t (suc (suc k)) = cond (nat_lt (t + 1) n) (Some (3 * t + 3)) None

-- point 0 lies at the origin, and the others in a row
abbrev pub spread : ℕ → ℕ → Point
spread n p = cond (nat_le 1 p && nat_lt p (n + 2)) (record { x = pos (50 * p); y = pos 300; z = pos 0 }) origin

abbrev pub fan : ℕ → MeshModel
fan n = record {
  triangles = n;
  points = n + 2;
  present = λ t. nat_lt t n;
  start = λ h. cond (nat_lt (triangle_of h) n) (corner (triangle_of h) (h % 3)) 0;
  place = spread n;
  twin = λ h. cond (nat_lt (triangle_of h) n) (joined n (triangle_of h) (h % 3)) None;
}
