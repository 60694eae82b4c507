-- What a mesh means, and the rules that it keeps. Assumes nothing.
use Rattle.std.specs.Prelude.{◌≡◌, ℕ, ◌*◌, ◌<◌, ◌≤◌, Bool, true, false, ℤ, pos, Some, None, Option, ◌≢◌, nat_le, unsigned_abs}
use Rattle.mesh.specs.declared.Point.{Point}
use Rattle.mesh.specs.HalfEdges.{triangle_of, next}

-- all replies of a mesh, to every question about every number
pub record MeshModel : Type 0 where
  pub triangles : ℕ
  pub points : ℕ
  pub present : ℕ → Bool
  pub start : ℕ → ℕ
  pub place : ℕ → Point
  pub twin : ℕ → Option ℕ

-- where a half-edge ends
abbrev pub end_of : MeshModel → ℕ → ℕ
end_of m h = m.start (next h)

abbrev pub origin : Point
origin = record { x = pos 0; y = pos 0; z = pos 0 }

-- a coordinate lies in −10,000 to 10,000
abbrev pub in_limits : ℤ → Bool
in_limits v = nat_le (unsigned_abs v) 10000

-- every coordinate does
pub record Near (p : Point) : Type 0 where
  pub x : unsigned_abs p.x ≤ 10000
  pub y : unsigned_abs p.y ≤ 10000
  pub z : unsigned_abs p.z ≤ 10000

pub record Lawful (m : MeshModel) : Type 0 where
  -- the limits
  pub few_triangles : m.triangles ≤ 65536
  pub few_points : m.points ≤ 65536
  -- what is asked about nothing
  pub far : (p : ℕ) → m.points ≤ p → m.place p ≡ origin
  pub absent_above : (t : ℕ) → m.triangles ≤ t → m.present t ≡ false
  pub absent_start : (h : ℕ) → m.present (triangle_of h) ≡ false → m.start h ≡ 0
  pub absent_twin : (h : ℕ) → m.present (triangle_of h) ≡ false → m.twin h ≡ None
  -- places are near
  pub near : (p : ℕ) → Near (m.place p)
  -- the corners of a present triangle are three different points of the mesh
  pub corner : (h : ℕ) → m.present (triangle_of h) ≡ true → m.start h < m.points
  pub apart : (h : ℕ) → m.present (triangle_of h) ≡ true → m.start h ≢ end_of m h
  -- twins are each other's, and run opposite ways between the same points; that both triangles are present
  -- follows, see `Twinned`
  pub back : (h g : ℕ) → m.twin h ≡ Some g → m.twin g ≡ Some h
  pub along : (h g : ℕ) → m.twin h ≡ Some g → m.start g ≡ end_of m h
  pub against : (h g : ℕ) → m.twin h ≡ Some g → end_of m g ≡ m.start h

-- what follows wherever g is the twin of h
pub record Twinned (m : MeshModel) (h g : ℕ) : Type 0 where
  pub here : m.present (triangle_of h) ≡ true
  pub there : m.present (triangle_of g) ≡ true
  pub inside : g < 3 * m.triangles
  pub elsewhere : triangle_of g ≡ triangle_of h → ⊥
  pub only : (k : ℕ) → m.twin k ≡ Some g → k ≡ h

abbrev pub TwinsStand : Type 0
TwinsStand = (m : MeshModel) → Lawful m → (h g : ℕ) → m.twin h ≡ Some g → Twinned m h g
