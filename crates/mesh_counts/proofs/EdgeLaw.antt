-- Edges add up to half-edges: as many half-edges have a lower twin as have a higher one, since twins are mutual.
use Rattle.std.proofs.Common.{◌≡◌, ℕ, zero, suc, ◌+◌, ◌*◌, ◌/◌, ◌<◌, ◌≤◌, Bool, true, false, cond, eqb, ltb, Some, None, Option, sym, refl, ap, ◌∙◌, arith}
use Rattle.std.specs.Cmp.{both_ways}
use Rattle.std.proofs.lemmas.Bool.Decides.{nat_tests}
use Rattle.mesh.specs.Model.{MeshModel, Lawful}
use Rattle.mesh.proofs.Rules.{twin_present, twin_inside, twins_stand}
use Rattle.mesh_counts.specs.Edges.{edges_below, present_count, EdgeLaw}
use Rattle.mesh_counts.proofs.Counting.{few_more}
use Rattle.mesh_counts.proofs.Totals.{total, total_same, total_plus, total_none, total_swap, total_one}

-- the twin is the half-edge g
abbrev names : Option ℕ → ℕ → Bool
names None g = false
names (Some x) g = eqb x g

-- 1 where the twin has the lower number, the higher number, or there is none
abbrev lower : Option ℕ → ℕ → ℕ
lower None h = 0
lower (Some g) h = cond (ltb g h) 1 0

abbrev higher : Option ℕ → ℕ → ℕ
higher None h = 0
higher (Some g) h = cond (ltb h g) 1 0

abbrev alone : Option ℕ → ℕ
alone None = 1
alone (Some g) = 0

abbrev one_if : Bool → ℕ
one_if b = cond b 1 0

-- one twin at most is named, and its number is in range
pick : (o : Option ℕ) (n : ℕ) (f : ℕ → ℕ) → ((g : ℕ) → o ≡ Some g → g < n) → (v : ℕ) → ((g : ℕ) → o ≡ Some g → f g ≡ v) → (o ≡ None → v ≡ 0) → total (λ g. cond (names o g) (f g) 0) n ≡ v
pick None n f i v s z = total_none n ∙ sym (z refl)
pick (Some x) n f i v s z = total_one f x n (i x refl) ∙ s x refl

module _ (m : MeshModel) (l : Lawful m) where
  each_other : (h g : ℕ) → names (m.twin h) g ≡ names (m.twin g) h
  each_other h g = both_ways (names (m.twin h) g) (names (m.twin g) h) (turn h g) (turn g h)
    where
      turn : (h g : ℕ) → names (m.twin h) g ≡ true → names (m.twin g) h ≡ true
      turn h g e = grind (arith, nat_tests, l.back h g)

  -- both count the pairs of a twin and a lower twin
  as_many : total (λ h. lower (m.twin h) h) (3 * m.triangles) ≡ total (λ h. higher (m.twin h) h) (3 * m.triangles)
  as_many =
      sym (total_same (λ h. total (λ g. cond (names (m.twin h) g) (one_if (ltb g h)) 0) (3 * m.triangles)) (λ h. lower (m.twin h) h) (3 * m.triangles)
      (λ h i. pick (m.twin h) (3 * m.triangles) (λ g. one_if (ltb g h)) (twin_inside m l h) (lower (m.twin h) h) (λ g e. sym (ap (λ o. lower o h) e)) (λ e. ap (λ o. lower o h) e)))
      ∙ total_swap (λ h g. cond (names (m.twin h) g) (one_if (ltb g h)) 0) (3 * m.triangles) (3 * m.triangles)
      ∙ total_same (λ g. total (λ h. cond (names (m.twin h) g) (one_if (ltb g h)) 0) (3 * m.triangles)) (λ h. higher (m.twin h) h) (3 * m.triangles)
      (λ g i.
      total_same (λ h. cond (names (m.twin h) g) (one_if (ltb g h)) 0) (λ h. cond (names (m.twin g) h) (one_if (ltb g h)) 0) (3 * m.triangles) (λ h j. ap (λ b. cond b (one_if (ltb g h)) 0) (each_other h g))
      ∙ pick (m.twin g) (3 * m.triangles) (λ h. one_if (ltb g h)) (twin_inside m l g) (higher (m.twin g) g) (λ h e. sym (ap (λ o. higher o g) e)) (λ e. ap (λ o. higher o g) e))

  -- the counts as sums
  shared_is : (n : ℕ) → (edges_below m n).shared ≡ total (λ h. lower (m.twin h) h) n
  shared_is zero = refl
  shared_is (suc n) = grind (arith, nat_tests, shared_is n, twin_present m l n)

  border_is : (n : ℕ) → (edges_below m n).border ≡ total (λ h. cond (m.present (h / 3)) (alone (m.twin h)) 0) n
  border_is zero = refl
  border_is (suc n) = grind (arith, nat_tests, border_is n)

  -- a half-edge of a present triangle is one of the three kinds
  kinds : (h : ℕ) → one_if (m.present (h / 3)) ≡ lower (m.twin h) h + cond (m.present (h / 3)) (alone (m.twin h)) 0 + higher (m.twin h) h
  kinds h = grind (arith, nat_tests, twin_present m l h, twins_stand m l h)

  three_each : (t : ℕ) → total (λ h. one_if (m.present (h / 3))) (3 * t) ≡ 3 * present_count m t
  three_each zero = refl
  three_each (suc t) =
      let e : 3 * suc t ≡ suc (suc (suc (3 * t))) = omega arith in
      let first : 3 * t / 3 ≡ t = omega arith in
      let second : suc (3 * t) / 3 ≡ t = omega arith in
      let third : suc (suc (3 * t)) / 3 ≡ t = omega arith in
      ap (total (λ h. one_if (m.present (h / 3)))) e ∙ grind (arith, three_each t)

-- no more edges than half-edges
few_below : (m : MeshModel) (n : ℕ) → ((edges_below m n).shared ≤ n) × ((edges_below m n).border ≤ n)
few_below m zero = (omega arith, omega arith)
few_below m (suc n) =
    let (s, b) = few_below m n in
    let more = few_more m n n (edges_below m n) s b in
    (omega (arith, more.0), omega (arith, more.1))

pub few_shared : (m : MeshModel) → Lawful m → (n : ℕ) → (edges_below m n).shared ≤ n
few_shared m l n = (few_below m n).0

pub few_border : (m : MeshModel) → Lawful m → (n : ℕ) → (edges_below m n).border ≤ n
few_border m l n = (few_below m n).1

pub edge_law : EdgeLaw
edge_law m l =
    let L = λ (h : ℕ). lower (m.twin h) h in
    let A = λ (h : ℕ). cond (m.present (h / 3)) (alone (m.twin h)) 0 in
    let U = λ (h : ℕ). higher (m.twin h) h in
    let N = 3 * m.triangles in
    let s : (edges_below m N).shared ≡ total L N = shared_is m l N in
    let b : (edges_below m N).border ≡ total A N = border_is m l N in
    let e : total L N ≡ total U N = as_many m l in
    let k : total (λ h. one_if (m.present (h / 3))) N ≡ total (λ h. L h + A h + U h) N = total_same (λ h. one_if (m.present (h / 3))) (λ h. L h + A h + U h) N (λ h i. kinds m l h) in
    let p : total (λ h. L h + A h + U h) N ≡ total (λ h. L h + A h) N + total U N = total_plus (λ h. L h + A h) U N in
    let q : total (λ h. L h + A h) N ≡ total L N + total A N = total_plus L A N in
    let t : total (λ h. one_if (m.present (h / 3))) N ≡ 3 * present_count m m.triangles = three_each m l m.triangles in
    omega arith
