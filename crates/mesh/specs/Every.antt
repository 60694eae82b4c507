-- A test that every number below a number passes. Assumes nothing.
use Rattle.std.specs.Prelude.{ℕ, Bool}
use Rattle.std.specs.List.{range_with_len, list_all}

abbrev pub every_below : (ℕ → Bool) → ℕ → Bool
every_below test n = list_all test (range_with_len 0 n)
