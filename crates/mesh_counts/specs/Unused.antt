-- How many points of a mesh no triangle uses. Assumes nothing.
use Rattle.std.specs.Prelude.{◌≡◌, ℕ, zero, suc, ◌*◌, Bool, true, false, cond, not, ◌&&◌, ◌||◌, List, replicate, count_by, ◌==◌, slice_set}
use Rattle.std.specs.List.{range_with_len}
use Rattle.mesh.specs.HalfEdges.{triangle_of}
use Rattle.mesh.specs.Model.{MeshModel, Lawful}

-- the point where half-edge h starts is used
abbrev pub marked : MeshModel → ℕ → List Bool → List Bool
marked m h used = cond (m.present (triangle_of h)) (slice_set used (m.start h) true) used

-- the points that half-edges 0 to n − 1 use
abbrev pub used_below : MeshModel → ℕ → List Bool
used_below m zero = replicate m.points false
used_below m (suc n) = marked m n (used_below m n)

abbrev pub unused_of : MeshModel → ℕ
unused_of m = count_by not (used_below m (3 * m.triangles))

-- point p is where one of the half-edges 0 to n − 1 of present triangles starts
abbrev pub corner_below : MeshModel → ℕ → ℕ → Bool
corner_below m zero p = false
corner_below m (suc n) p = corner_below m n p || (m.present (triangle_of n) && m.start n == p)

-- the unused points are those that are no corner
abbrev pub UnusedLaw : Type 0
UnusedLaw = (m : MeshModel) → Lawful m → unused_of m ≡ count_by (λ p. not (corner_below m (3 * m.triangles) p)) (range_with_len 0 m.points)
