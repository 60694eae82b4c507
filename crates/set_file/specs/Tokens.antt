-- Which words are comments. Assumes nothing.
use Rattle.std.specs.Prelude.{ℕ, Bool, List, ◌==◌, slice_index}

-- the word begins with `#`
abbrev pub is_comment : List ℕ → Bool
is_comment w = slice_index w 0 == 35
