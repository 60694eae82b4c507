-- Sums over the numbers below a number: term by term, of two sums, and in either order.
use Rattle.std.proofs.Common.{◌≡◌, ℕ, zero, suc, ◌+◌, ◌<◌, cond, eqb, ◌⊎◌, sym, refl, ap, ◌∙◌, inl, inr, arith}
use Rattle.std.proofs.lemmas.Bool.Decides.{nat_tests}
use Rattle.std.proofs.lemmas.Bool.{cases_eq}

abbrev pub total : (ℕ → ℕ) → ℕ → ℕ
total f zero = 0
total f (suc n) = total f n + f n

pub total_same : (f g : ℕ → ℕ) (n : ℕ) → ((k : ℕ) → k < n → f k ≡ g k) → total f n ≡ total g n
total_same f g zero e = refl
total_same f g (suc n) e = let a = total_same f g n (λ k l. e k (omega arith)) in let b = e n (omega arith) in omega arith

pub total_plus : (f g : ℕ → ℕ) (n : ℕ) → total (λ k. f k + g k) n ≡ total f n + total g n
total_plus f g zero = refl
total_plus f g (suc n) = let a = total_plus f g n in omega arith

pub total_none : (n : ℕ) → total (λ k. 0) n ≡ 0
total_none zero = refl
total_none (suc n) = let a = total_none n in omega arith

pub total_swap : (F : ℕ → ℕ → ℕ) (n m : ℕ) → total (λ h. total (F h) m) n ≡ total (λ g. total (λ h. F h g) n) m
total_swap F zero m = sym (total_none m)
total_swap F (suc n) m = ap (λ x. x + total (F n) m) (total_swap F n m) ∙ sym (total_plus (λ g. total (λ h. F h g) n) (F n) m)

-- only the term at x is left
pub total_one : (f : ℕ → ℕ) (x n : ℕ) → x < n → total (λ g. cond (eqb x g) (f g) 0) n ≡ f x
total_one f x zero l = absurd (omega arith)
total_one f x (suc n) l = go (total_one f x n) (cases_eq x n)
  where
    go : (x < n → total (λ g. cond (eqb x g) (f g) 0) n ≡ f x) → (x ≡ n) ⊎ (x ≡ n → ⊥) → total (λ g. cond (eqb x g) (f g) 0) n + cond (eqb x n) (f n) 0 ≡ f x
    go rest (inl e) =
        let b = total_same (λ g. cond (eqb x g) (f g) 0) (λ g. 0) n (λ k i. grind (arith, nat_tests)) in
        let d : f n ≡ f x = ap f (sym e) in grind (arith, nat_tests, total_none)
    go rest (inr e) = grind (arith, nat_tests)
