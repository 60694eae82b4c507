-- The smallest box that holds some points. Assumes nothing.
use Rattle.std.specs.Prelude.{◌≡◌, List, [], ◌∷◌, ℤ, ◌≤ℤ◌, Some, None, fold, Option}
use Rattle.std.specs.Int.{int_min, int_max}
use Rattle.std.specs.List.{AllByRecursion}
use Rattle.mesh.specs.declared.Point.{Point}
use Rattle.set_report.specs.declared.bounds.BoundingBox.{BoundingBox}

-- the point whose coordinates f makes of those of two points, axis by axis
abbrev pub by_axis : (ℤ → ℤ → ℤ) → Point → Point → Point
by_axis f a b = record { x = f a.x b.x; y = f a.y b.y; z = f a.z b.z }

abbrev pub lowest : Point → Point → Point
lowest = by_axis int_min

abbrev pub highest : Point → Point → Point
highest = by_axis int_max

-- a box with one point more
abbrev pub widened : BoundingBox → Point → BoundingBox
widened b p = record { low = lowest b.low p; high = highest b.high p }

abbrev pub bounds_of : List Point → Option BoundingBox
bounds_of [] = None
bounds_of (p ∷ ps) = Some (fold widened (record { low = p; high = p }) (p ∷ ps))

-- no coordinate of a is above b's
pub record Below (a b : Point) : Type 0 where
  pub x : a.x ≤ℤ b.x
  pub y : a.y ≤ℤ b.y
  pub z : a.z ≤ℤ b.z

-- the box holds the point
pub record Holds (b : BoundingBox) (p : Point) : Type 0 where
  pub low : Below b.low p
  pub high : Below p b.high

-- the box of some points holds each of them, and lies within every box that does so
abbrev pub Smallest : Type 0
Smallest = (ps : List Point) (b : BoundingBox) → bounds_of ps ≡ Some b → AllByRecursion (Holds b) ps × ((other : BoundingBox) → AllByRecursion (Holds other) ps → Below other.low b.low × Below b.high other.high)
