-- A word of a file as visible text. Assumes nothing.
use Rattle.std.specs.Prelude.{ℕ, ◌/◌, ◌%◌, Bool, false, cond, not, ◌&&◌, List, [], ◌∷◌, ◌++◌, length, take, codes, ◌==◌, nat_le}
use Rattle.std.specs.List.{flat_map}
use Rattle.std.specs.Fmt.{digit_glyph}

-- a visible ASCII character but the backslash (92), which begins an escape
abbrev pub plain : ℕ → Bool
plain b = nat_le 33 b && (nat_le b 126 && not (b == 92))

-- `\x` and two digits
abbrev pub escaped : ℕ → List ℕ
escaped b = 92 ∷ 120 ∷ digit_glyph false (b / 16) ∷ digit_glyph false (b % 16) ∷ []

abbrev pub shown_byte : ℕ → List ℕ
shown_byte b = cond (plain b) (b ∷ []) (escaped b)

abbrev pub shown_bytes : List ℕ → List ℕ
shown_bytes = flat_map shown_byte

-- the first forty bytes, and three dots where there are more
abbrev pub shown_of : List ℕ → List ℕ
shown_of w = cond (nat_le (length w) 40) (shown_bytes w) (shown_bytes (take 40 w) ++ codes "...")
