-- What a stored mesh means, and which lists make one. Assumes nothing.
use Rattle.std.specs.Prelude.{ℕ, zero, suc, ◌*◌, ◌%◌, Bool, cond, not, ◌&&◌, ◌||◌, List, length, Some, None, Option, ◌==◌, nat_le, nat_lt, slice_index, slice_index_or}
use Rattle.mesh.specs.declared.Point.{Point}
use Rattle.mesh.specs.declared.Triangle.{Triangle}
use Rattle.mesh.specs.HalfEdges.{triangle_of, next}
use Rattle.mesh.specs.Model.{MeshModel, origin, in_limits}
use Rattle.std.specs.List.{list_all}
use Rattle.mesh.specs.Every.{every_below}

-- corner k of a triangle
abbrev pub corner_of : Triangle → ℕ → ℕ
corner_of t zero = t.a
corner_of t (suc zero) = t.b
corner_of t (suc (suc k)) = t.c

-- what stands for a triangle where there is none
abbrev pub blank : Triangle
blank = record { a = 0; b = 0; c = 0 }

-- where a half-edge starts
unfoldable pub stored_start : List Triangle → ℕ → ℕ
stored_start triangles h = corner_of (slice_index_or triangles (triangle_of h) blank) (h % 3)

-- in a twin list 4,294,967,295 means none
abbrev pub no_twin : ℕ
no_twin = 4294967295

abbrev pub twin_of : ℕ → Option ℕ
twin_of g = cond (g == no_twin) None (Some g)

abbrev pub stored_twin : List ℕ → ℕ → Option ℕ
stored_twin twins h = cond (nat_lt h (length twins)) (twin_of (slice_index twins h)) None

-- the mesh over three lists; all its triangles are present
abbrev pub stored : List Point → List Triangle → List ℕ → MeshModel
stored points triangles twins = record {
  triangles = length triangles;
  points = length points;
  present = λ t. nat_lt t (length triangles);
  start = stored_start triangles;
  place = λ p. slice_index_or points p origin;
  twin = stored_twin twins;
}

abbrev pub near : Point → Bool
near p = in_limits p.x && (in_limits p.y && in_limits p.z)

-- three different points below P
abbrev pub sound : ℕ → Triangle → Bool
sound P t = (nat_lt t.a P && (nat_lt t.b P && nat_lt t.c P)) && (not (t.a == t.b) && (not (t.b == t.c) && not (t.c == t.a)))

-- g runs the other way between the points of h; `start` is where each half-edge starts
abbrev pub against : (ℕ → ℕ) → ℕ → ℕ → Bool
against start h g = start g == start (next h) && start (next g) == start h

-- g is a twin for h: it names h as its own, and runs the other way
abbrev pub answered : List Triangle → List ℕ → ℕ → ℕ → Bool
answered triangles twins h g = nat_lt g (length twins) && (slice_index twins g == h && against (stored_start triangles) h g)

-- h has no twin, or a right one
abbrev pub twin_kept : List Triangle → List ℕ → ℕ → Bool
twin_kept triangles twins h = slice_index twins h == no_twin || answered triangles twins h (slice_index twins h)

-- the lists keep the limits, and the rules of places and corners
unfoldable pub set_fits : List Point → List Triangle → Bool
set_fits points triangles = nat_le (length points) 65536 && (nat_le (length triangles) 65536 && (list_all near points && list_all (sound (length points)) triangles))

-- and the twin list has a place for each half-edge: what pairing asks
unfoldable pub lists_fit : List Point → List Triangle → List ℕ → Bool
lists_fit points triangles twins = set_fits points triangles && length twins == 3 * length triangles

-- and keeps the rule of twins: what a stored mesh asks
unfoldable pub stored_fits : List Point → List Triangle → List ℕ → Bool
stored_fits points triangles twins = lists_fit points triangles twins && every_below (twin_kept triangles twins) (length twins)
