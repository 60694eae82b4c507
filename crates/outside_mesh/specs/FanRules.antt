-- A fan keeps the rules of a mesh. The proof stands here and not in proofs/, since a ghost member cites it.
use Rattle.std.specs.Prelude.{◌≡◌, ℕ, ◌≤◌, Some}
use Rattle.std.proofs.Common.{sym, arith}
use Rattle.std.proofs.lemmas.Bool.Decides.{nat_tests}
use Rattle.mesh.specs.Model.{Lawful, end_of}
use Rattle.outside_mesh.specs.Fan.{fan}

module _ (n : ℕ) (few : n ≤ 100) where
  back : (h g : ℕ) → (fan n).twin h ≡ Some g → (fan n).twin g ≡ Some h
  back h g e = grind (arith, nat_tests)

  along : (h g : ℕ) → (fan n).twin h ≡ Some g → (fan n).start g ≡ end_of (fan n) h
  along h g e = grind (arith, nat_tests)

  pub fan_lawful : Lawful (fan n)
  fan_lawful = record {
    few_triangles = omega arith;
    few_points = omega arith;
    far = λ p l. grind (arith, nat_tests);
    absent_above = λ t l. grind (arith, nat_tests);
    absent_start = λ h a. grind (arith, nat_tests);
    absent_twin = λ h a. grind (arith, nat_tests);
    near = λ p. record { x = grind (arith, nat_tests); y = grind (arith, nat_tests); z = grind (arith, nat_tests) };
    corner = λ h p. grind (arith, nat_tests);
    apart = λ h p e. grind (arith, nat_tests);
    back = back;
    along = along;
    against = λ h g e. sym (along g h (back h g e));
  }
