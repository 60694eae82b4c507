-- Bytes cut into lines, and a line into words. Assumes nothing.
use Rattle.std.specs.Prelude.{◌≡◌, ℕ, Bool, cond, ◌||◌, List, [], ◌∷◌, ◌==◌}
use Rattle.std.specs.Fn.{Shared}

-- b put in front of the first piece
abbrev pub onto : ℕ → List (List ℕ) → List (List ℕ)
onto b [] = (b ∷ []) ∷ []
onto b (w ∷ ws) = (b ∷ w) ∷ ws

-- the pieces that marked bytes end, the last one perhaps ended by none
abbrev pub pieces : (ℕ → Bool) → List ℕ → List (List ℕ)
pieces mark [] = []
pieces mark (b ∷ bs) = cond (mark b) ([] ∷ pieces mark bs) (onto b (pieces mark bs))

-- LF
abbrev pub ends : ℕ → Bool
ends b = b == 10

-- a space or a tab
abbrev pub blank : ℕ → Bool
blank b = b == 32 || b == 9

-- the pieces that have a byte
abbrev pub filled : List (List ℕ) → List (List ℕ)
filled [] = []
filled ([] ∷ ws) = filled ws
filled ((b ∷ w) ∷ ws) = (b ∷ w) ∷ filled ws

-- the lines of a file
abbrev pub lines : List ℕ → List (List ℕ)
lines bytes = pieces ends bytes

-- the words of a line
abbrev pub words : List ℕ → List (List ℕ)
words line = filled (pieces blank line)

-- each call of f answers what p gives
abbrev pub Tests : {F : Type 0} → Shared F (ℕ × Unit {0}) Bool → F → (ℕ → Bool) → Type 0
Tests g f p = (b : ℕ) (r : Bool) → g.post f (b, tt) r → r ≡ p b
