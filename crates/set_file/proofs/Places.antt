-- The item at a place, counted from 1 and from 0. Assumes nothing.
use Rattle.std.proofs.Common.{◌≡◌, ℕ, zero, suc, ◌-◌, ◌≤◌, List, [], ◌∷◌, None, refl, arith}
use Rattle.std.proofs.lemmas.Grind.{common_steps}
use Rattle.std.proofs.lemmas.Bool.Decides.{nat_tests}
use Rattle.std.specs.List.{slice_get}
use Rattle.set_file.specs.Places.{numbered}

-- there is no item 0
pub no_item : {A : Type 0} (xs : List A) → numbered xs 0 ≡ None
no_item [] = refl
no_item (x ∷ xs) = no_item xs

-- the item numbered n stands at n - 1
pub item_at : {A : Type 0} (xs : List A) (n k : ℕ) → 1 ≤ n → k ≡ n - 1 → slice_get xs k ≡ numbered xs n
item_at [] n k h e = refl
item_at (x ∷ xs) n zero h e = grind (arith, common_steps, nat_tests)
item_at (x ∷ xs) n (suc k) h e = let i = item_at xs (n - 1) k (omega arith) (omega arith) in grind (arith, common_steps, nat_tests)
