-- Laws of the numbers that words write. Assumes nothing.
use Rattle.std.proofs.Common.{◌≡◌, ℕ, ◌^◌, ◌<◌, ◌≤◌, List, [], ◌∷◌, length, arith}
use native.Mathlib.Nat.{pow-le-pow_right}
use Rattle.std.proofs.lemmas.Bool.{cond-true, le-leb}
use Rattle.set_file.specs.Numbers.{after, unsigned_of}

pub sized : (bs : List ℕ) → 0 < length bs → length bs ≤ 5 → unsigned_of bs ≡ after 0 bs
sized [] h k = absurd (omega arith)
sized (b ∷ bs) h k = cond-true _ _ _ (le-leb (length bs) 4 (omega arith))

pub ten_pow : (i : ℕ) → i ≤ 5 → 10 ^ i ≤ 100000
ten_pow i h = let some : 0 < 10 = omega arith in pow-le-pow_right some h
