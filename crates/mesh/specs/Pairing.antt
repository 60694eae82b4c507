-- How half-edges are paired. Assumes nothing.
use Rattle.std.specs.Prelude.{◌≡◌, ℕ, zero, suc, ◌+◌, ◌*◌, ◌<◌, Bool, true, false, cond, ◌&&◌, List, length, replicate, Some, None, Option, ◌==◌, ◌≢◌, slice_index, slice_set}
use Rattle.mesh.specs.declared.Point.{Point}
use Rattle.mesh.specs.declared.Triangle.{Triangle}
use Rattle.mesh.specs.HalfEdges.{next}
use Rattle.mesh.specs.Stored.{no_twin, stored_start, against, set_fits, stored_fits}

-- a half-edge still without a twin
abbrev pub free : List ℕ → ℕ → Bool
free twins h = slice_index twins h == no_twin

-- g can be paired with h
abbrev pub suits : (ℕ → ℕ) → List ℕ → ℕ → ℕ → Bool
suits start twins h g = free twins g && against start h g

-- the lowest of the `count` numbers from k up that passes
abbrev pub lowest : (ℕ → Bool) → ℕ → ℕ → Option ℕ
lowest test zero k = None
lowest test (suc count) k = cond (test k) (Some k) (lowest test count (k + 1))

-- the lowest-numbered half-edge that can be paired with h
unfoldable pub mate : (ℕ → ℕ) → List ℕ → ℕ → Option ℕ
mate start twins h = lowest (suits start twins h) (length twins) 0

abbrev pub joined : List ℕ → ℕ → Option ℕ → List ℕ
joined twins h None = twins
joined twins h (Some g) = slice_set (slice_set twins h g) g h

-- the turn of half-edge h
unfoldable pub pair_one : (ℕ → ℕ) → List ℕ → ℕ → List ℕ
pair_one start twins h = cond (free twins h) (joined twins h (mate start twins h)) twins

-- of n half-edges, the turns of 0 to k − 1, in ascending order
abbrev pub pair_below : (ℕ → ℕ) → ℕ → ℕ → List ℕ
pair_below start n zero = replicate n no_twin
pair_below start n (suc k) = pair_one start (pair_below start n k) k

-- none of n half-edges ends where it starts
abbrev pub Apart : (ℕ → ℕ) → ℕ → Type 0
Apart start n = (h : ℕ) → h < n → start h ≢ start (next h)

-- the twin list of some triangles
abbrev pub pairing : List Triangle → List ℕ
pairing triangles = pair_below (stored_start triangles) (3 * length triangles) (3 * length triangles)

-- what was paired makes a stored mesh
abbrev pub PairsStand : Type 0
PairsStand = (points : List Point) (triangles : List Triangle) → set_fits points triangles ≡ true → stored_fits points triangles (pairing triangles) ≡ true

-- at its turn a half-edge without a twin is paired with one of a higher number, if with any
abbrev pub MatesAbove : Type 0
MatesAbove = (points : List Point) (triangles : List Triangle) → set_fits points triangles ≡ true → (h g : ℕ) → h < 3 * length triangles → free (pair_below (stored_start triangles) (3 * length triangles) h) h ≡ true → mate (stored_start triangles) (pair_below (stored_start triangles) (3 * length triangles) h) h ≡ Some g → h < g

-- and no two half-edges are left without a twin that could be each other's
abbrev pub NoneLeft : Type 0
NoneLeft = (points : List Point) (triangles : List Triangle) → set_fits points triangles ≡ true → (h g : ℕ) → free (pairing triangles) h ≡ true → free (pairing triangles) g ≡ true → against (stored_start triangles) h g ≡ false
