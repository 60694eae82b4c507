-- A test of every element, or of every number below a number: at each place, and from each place.
use Rattle.std.proofs.Common.{◌≡◌, ℕ, ◌<◌, Bool, true, List, [], ◌∷◌, ◌++◌, length, get_or, sym, ap, ◌∙◌, zero-add, arith}
use Rattle.std.specs.List.{range_with_len, list_all}
use Rattle.std.proofs.lemmas.List.FromFn.{length-range_with_len, get_or-range_with_len}
use Rattle.std.proofs.lemmas.List.Elements.{All-get_or, All-from_get_or, All-weaker}
use Rattle.std.proofs.lemmas.List.Folds.{list_all-append}
use Rattle.std.proofs.lemmas.List.Sums.{AllPass-from_list_all, list_all-from_AllPass}
use Rattle.std.proofs.lemmas.Bool.Decides.{nat_tests}
use Rattle.mesh.specs.Every.{every_below}

module _ {A : Type 0} (test : A → Bool) where
  pub every_push : (xs : List A) (x : A) → list_all test xs ≡ true → test x ≡ true → list_all test (xs ++ x ∷ []) ≡ true
  every_push xs x e t = list_all-append test xs (x ∷ []) ∙ grind (arith, nat_tests)

  pub every_weaker : (other : A → Bool) → ((x : A) → test x ≡ true → other x ≡ true) → (xs : List A) → list_all test xs ≡ true → list_all other xs ≡ true
  every_weaker other f xs e = list_all-from_AllPass other xs (All-weaker (λ x. test x ≡ true) (λ x. other x ≡ true) f xs (AllPass-from_list_all test xs e))

module _ (test : ℕ → Bool) where
  number : (n i : ℕ) → i < n → test (get_or (range_with_len 0 n) i 0) ≡ test i
  number n i l = ap test (get_or-range_with_len 0 n i 0 l ∙ zero-add i)

  inside : (n i : ℕ) → i < n → i < length (range_with_len 0 n)
  inside n i l = omega (arith, length-range_with_len 0 n)

  pub below_at : (n : ℕ) → every_below test n ≡ true → (i : ℕ) → i < n → test i ≡ true
  below_at n e i l = sym (number n i l) ∙ All-get_or (λ x. test x ≡ true) (range_with_len 0 n) i 0 (inside n i l) (AllPass-from_list_all test (range_with_len 0 n) e)

  pub below_from : (n : ℕ) → ((i : ℕ) → i < n → test i ≡ true) → every_below test n ≡ true
  below_from n f = list_all-from_AllPass test (range_with_len 0 n) (All-from_get_or (λ x. test x ≡ true) (range_with_len 0 n) 0 (λ i l. let m : i < n = omega (arith, length-range_with_len 0 n) in number n i m ∙ f i m))
