-- Half-edges by their numbers: triangle t has 3t, 3t + 1 and 3t + 2. Assumes nothing.
use Rattle.std.specs.Prelude.{◌≡◌, ℕ, ◌+◌, ◌*◌, ◌/◌, ◌%◌, ◌<◌, ◌≢◌}

-- the triangle that a half-edge belongs to
abbrev pub triangle_of : ℕ → ℕ
triangle_of h = h / 3

-- the half-edge after it, in the same triangle
abbrev pub next : ℕ → ℕ
next h = 3 * (h / 3) + (h % 3 + 1) % 3

-- next goes round the three half-edges of a triangle
pub record Turns : Type 0 where
  pub numbered : (t k : ℕ) → k < 3 → triangle_of (3 * t + k) ≡ t
  pub one_on : (t k : ℕ) → k < 3 → next (3 * t + k) ≡ 3 * t + (k + 1) % 3
  pub stays : (h : ℕ) → triangle_of (next h) ≡ triangle_of h
  pub moves : (h : ℕ) → next h ≢ h
  pub comes_back : (h : ℕ) → next (next (next h)) ≡ h
