-- A point is marked just where it is a corner of a present triangle.
use Rattle.std.proofs.Common.{◌≡◌, ℕ, zero, suc, ◌+◌, ◌*◌, ◌<◌, false, cond, not, length, get_or, count_by, ap, ◌∙◌, arith}
use Rattle.std.specs.List.{range_with_len}
use Rattle.std.proofs.lemmas.List.FromFn.{fill_by_all}
use Rattle.std.proofs.lemmas.List.{length-replicate, get_or-replicate}
use Rattle.std.proofs.lemmas.List.Folds.{fold-map}
use Rattle.std.proofs.lemmas.Bool.Decides.{nat_tests}
use Rattle.std.proofs.lemmas.Grind.{common_steps}
use Rattle.std.proofs.Math.Bool.{or-false}
use Rattle.std.proofs.lemmas.Bool.{or_right}
use Rattle.mesh.specs.Model.{MeshModel, Lawful}
use Rattle.mesh_counts.specs.Unused.{used_below, corner_below, UnusedLaw}

pub length_used : (m : MeshModel) (n : ℕ) → length (used_below m n) ≡ m.points
length_used m zero = length-replicate m.points false
length_used m (suc n) = grind (arith, common_steps, length_used m n)

module _ (m : MeshModel) (l : Lawful m) (p : ℕ) (i : p < m.points) where
  used_is : (n : ℕ) → get_or (used_below m n) p false ≡ corner_below m n p
  used_is zero = get_or-replicate m.points p false false i
  used_is (suc n) = grind (arith, common_steps, nat_tests, used_is n, length_used m n, l.corner n, or_right, or-false)

pub unused_law : UnusedLaw
unused_law m l =
    ap (count_by not) (fill_by_all (corner_below m (3 * m.triangles)) (used_below m (3 * m.triangles)) m.points false (length_used m (3 * m.triangles)) (λ k i. used_is m l k i (3 * m.triangles)))
    ∙ fold-map (λ n b. n + cond (not b) 1 0) (corner_below m (3 * m.triangles)) 0 (range_with_len 0 m.points)
