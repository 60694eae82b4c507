-- How many edges a mesh has. Assumes nothing.
use Rattle.std.specs.Prelude.{◌≡◌, ℕ, zero, suc, ◌+◌, ◌*◌, cond, Some, None, Option, nat_lt}
use Rattle.mesh.specs.HalfEdges.{triangle_of}
use Rattle.mesh.specs.Model.{MeshModel, Lawful}
use Rattle.mesh_counts.specs.declared.edges.Edges.{Edges}

-- half-edge h by its twin: without one it is a border edge, and of two twins the higher counts their edge
abbrev pub by_twin : Option ℕ → ℕ → Edges → Edges
by_twin None h e = record { shared = e.shared; border = e.border + 1 }
by_twin (Some g) h e = cond (nat_lt g h) (record { shared = e.shared + 1; border = e.border }) e

abbrev pub counted : MeshModel → ℕ → Edges → Edges
counted m h e = cond (m.present (triangle_of h)) (by_twin (m.twin h) h e) e

-- the edges of half-edges 0 to n − 1
abbrev pub edges_below : MeshModel → ℕ → Edges
edges_below m zero = record { shared = 0; border = 0 }
edges_below m (suc n) = counted m n (edges_below m n)

abbrev pub edges_of : MeshModel → Edges
edges_of m = edges_below m (3 * m.triangles)

-- how many of the triangles 0 to n − 1 are present
abbrev pub present_count : MeshModel → ℕ → ℕ
present_count m zero = 0
present_count m (suc n) = present_count m n + cond (m.present n) 1 0

-- a shared edge has two half-edges, a border edge one, and a present triangle three
abbrev pub EdgeLaw : Type 0
EdgeLaw = (m : MeshModel) → Lawful m → 2 * (edges_of m).shared + (edges_of m).border ≡ 3 * present_count m m.triangles
