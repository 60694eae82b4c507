-- Lists made for each number in turn: one number more adds its list at the end.
use Rattle.std.proofs.Common.{◌≡◌, ℕ, zero, suc, ◌+◌, List, ◌++◌, append-nil, append_assoc, ap, sym, ◌∙◌, arith}
use Rattle.std.specs.List.{flat_map, range_with_len}

from_each : {A : Type 0} (f : ℕ → List A) (a n k : ℕ) → a + n ≡ k → flat_map f (range_with_len a (suc n)) ≡ flat_map f (range_with_len a n) ++ f k
from_each f a zero k e = let z : a ≡ k = omega arith in append-nil (f a) ∙ ap f z
from_each f a (suc n) k e = ap (λ ys. f a ++ ys) (from_each f (a + 1) n k (omega arith)) ∙ sym (append_assoc (f a) (flat_map f (range_with_len (a + 1) n)) (f k))

pub one_more : {A : Type 0} (f : ℕ → List A) (n : ℕ) → flat_map f (range_with_len 0 (n + 1)) ≡ flat_map f (range_with_len 0 n) ++ f n
one_more f n = let s : n + 1 ≡ suc n = omega arith in ap (λ k. flat_map f (range_with_len 0 k)) s ∙ from_each f 0 n n (omega arith)
