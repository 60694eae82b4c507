-- Lists that fit before pairing make a stored mesh after it, and no pair is left.
use Rattle.std.proofs.Common.{◌≡◌, ℕ, ◌+◌, ◌-◌, ◌*◌, ◌<◌, ◌≤◌, true, false, eqb, ◌⊎◌, List, length, get_or, Some, refl, ap, ◌∙◌, inl, inr, arith}
use Rattle.std.proofs.lemmas.List.{get_or_past}
use Rattle.std.proofs.lemmas.Bool.Decides.{nat_tests}
use Rattle.std.proofs.lemmas.Bool.{and_from, or_right, eqb-true, cases_lt, cases_eq}
use Rattle.std.specs.List.{find, range_with_len}
use Rattle.mesh.specs.declared.Point.{Point}
use Rattle.mesh.specs.declared.Triangle.{Triangle}
use Rattle.mesh.specs.Every.{every_below}
use Rattle.mesh.specs.Stored.{no_twin, against, answered, twin_kept, set_fits, lists_fit, stored_fits, stored_start}
use Rattle.mesh.specs.Pairing.{Apart, free, suits, mate, pair_below, pairing, PairsStand, MatesAbove, NoneLeft}
use Rattle.mesh.proofs.Every.{below_from}
use Rattle.mesh.proofs.StoredRules.{Mutual, fitting, lists_from, start_apart}
use Rattle.mesh.proofs.PairingRules.{TwinRule, length_below, below_keeps, settled, hunt_above, lowest_is, lowest_found}

named : (triangles : List Triangle) (twins : List ℕ) (h g : ℕ) → Mutual (stored_start triangles) twins h g → answered triangles twins h g ≡ true
named triangles twins h g m = grind (arith, nat_tests)

kept : (triangles : List Triangle) (twins : List ℕ) → TwinRule (stored_start triangles) twins → (h : ℕ) → h < length twins → twin_kept triangles twins h ≡ true
kept triangles twins rule h l = elim (cases_eq (get_or twins h 0) no_twin) [
  | inl e ↦ grind (arith, nat_tests)
  | inr e ↦ or_right (eqb (get_or twins h 0) no_twin) (answered triangles twins h (get_or twins h 0)) (named triangles twins h (get_or twins h 0) (rule h l e))
]

module _ (points : List Point) (triangles : List Triangle) (e : set_fits points triangles ≡ true) where
  pub few : 3 * length triangles ≤ 196608
  few = omega (arith, (fitting points triangles e).few_triangles)

  pub apart : Apart (stored_start triangles) (3 * length triangles)
  apart h l = start_apart points triangles e h (omega arith)

  size : length (pairing triangles) ≡ 3 * length triangles
  size = length_below (stored_start triangles) (3 * length triangles) apart (3 * length triangles)

  rule : TwinRule (stored_start triangles) (pairing triangles)
  rule = below_keeps (stored_start triangles) (3 * length triangles) apart (3 * length triangles) few (omega arith)

  stands : stored_fits points triangles (pairing triangles) ≡ true
  unfolding stored_fits
  stands =
      and_from (lists_fit points triangles (pairing triangles)) (every_below (twin_kept triangles (pairing triangles)) (length (pairing triangles)))
      (lists_from points triangles (pairing triangles) e size)
      (below_from (twin_kept triangles (pairing triangles)) (length (pairing triangles)) (kept triangles (pairing triangles) rule))

  left : (h g : ℕ) → free (pairing triangles) h ≡ true → free (pairing triangles) g ≡ true → against (stored_start triangles) h g ≡ false
  left h g a b = settled (stored_start triangles) (3 * length triangles) few apart (3 * length triangles) (omega arith) h g (below (cases_lt h (length (pairing triangles)))) ha (eqb-true (get_or (pairing triangles) g 0) no_twin b)
    where
      ha : get_or (pairing triangles) h 0 ≡ no_twin
      ha = eqb-true (get_or (pairing triangles) h 0) no_twin a

      below : (h < length (pairing triangles)) ⊎ (length (pairing triangles) ≤ h) → h < 3 * length triangles
      below (inl l) = omega (arith, size)
      below (inr l) = absurd (omega (arith, get_or_past (pairing triangles) h 0 l, ha))

  above : (h g : ℕ) → h < 3 * length triangles → free (pair_below (stored_start triangles) (3 * length triangles) h) h ≡ true → mate (stored_start triangles) (pair_below (stored_start triangles) (3 * length triangles) h) h ≡ Some g → h < g
  above h g l f m =
      let start = stored_start triangles in
      let n = 3 * length triangles in
      let twins = pair_below start n h in
      let e = hunt_above start n few apart twins h l refl (eqb-true (get_or twins h 0) no_twin f) in
      omega (arith, (lowest_is (suits start twins h) (n - (h + 1)) (h + 1) g (e ∙ m)).1)

  -- while the turns go on, a half-edge without a twin is in the list, and its mate is the lowest above it that suits
  module _ (twins : List ℕ) (h : ℕ) (turns : twins ≡ pair_below (stored_start triangles) (3 * length triangles) h) (f : free twins h ≡ true) where
    many : length twins ≡ 3 * length triangles
    many = ap length turns ∙ length_below (stored_start triangles) (3 * length triangles) apart h

    pub inside : h < 3 * length triangles
    inside = elim (cases_lt h (length twins)) [
      | inl l ↦ omega (arith, many)
      | inr l ↦ absurd (omega (arith, get_or_past twins h 0 l, eqb-true (get_or twins h 0) no_twin f))
    ]

    pub mate_found : find (suits (stored_start triangles) twins h) (range_with_len (h + 1) (3 * length triangles - (h + 1))) ≡ mate (stored_start triangles) twins h
    mate_found =
        lowest_found (suits (stored_start triangles) twins h) (3 * length triangles - (h + 1)) (h + 1)
        ∙ hunt_above (stored_start triangles) (3 * length triangles) few apart twins h inside turns (eqb-true (get_or twins h 0) no_twin f)

pub mates_above : MatesAbove
mates_above = above

pub pairs_stand : PairsStand
pairs_stand = stands

pub none_left : NoneLeft
none_left = left
