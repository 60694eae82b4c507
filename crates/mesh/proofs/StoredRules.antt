-- A stored mesh whose lists fit keeps the rules.
use Rattle.std.proofs.Common.{◌≡◌, ℕ, zero, suc, ◌+◌, ◌*◌, ◌/◌, ◌%◌, ◌<◌, ◌≤◌, true, false, ltb, ◌≢◌, List, length, get_or, Some, None, sym, refl, ap, ◌∙◌, subst, inl, inr, arith}
use Rattle.std.proofs.lemmas.List.{get_or_past}
use Rattle.std.proofs.lemmas.List.Elements.{All-get_or}
use Rattle.std.proofs.lemmas.List.Sums.{AllPass-from_list_all}
use Rattle.std.proofs.lemmas.Bool.Decides.{nat_tests}
use Rattle.std.proofs.lemmas.Bool.{and_parts, ltb-true, ltb-false, le-ltb, cases_lt}
use Rattle.mesh.specs.declared.Point.{Point}
use Rattle.mesh.specs.declared.Triangle.{Triangle}
use Rattle.mesh.specs.HalfEdges.{next}
use Rattle.mesh.specs.Model.{Lawful, Near, origin}
use Rattle.mesh.specs.Every.{every_below}
use Rattle.mesh.specs.Stored.{corner_of, blank, stored_start, no_twin, twin_of, stored_twin, stored, near, sound, answered, twin_kept, set_fits, lists_fit, stored_fits}
use Rattle.mesh.proofs.Every.{below_at}

near_is : (p : Point) → near p ≡ true → Near p
near_is p e = record { x = grind (arith, nat_tests); y = grind (arith, nat_tests); z = grind (arith, nat_tests) }

pub record Sound (P : ℕ) (t : Triangle) : Type 0 where
  pub a : t.a < P
  pub b : t.b < P
  pub c : t.c < P
  pub ab : t.a ≡ t.b → ⊥
  pub bc : t.b ≡ t.c → ⊥
  pub ca : t.c ≡ t.a → ⊥

sound_is : (P : ℕ) (t : Triangle) → sound P t ≡ true → Sound P t
sound_is P t e = record {
  a = grind (arith, nat_tests);
  b = grind (arith, nat_tests);
  c = grind (arith, nat_tests);
  ab = λ q. grind (arith, nat_tests);
  bc = λ q. grind (arith, nat_tests);
  ca = λ q. grind (arith, nat_tests);
}

corner_below : (P : ℕ) (t : Triangle) → Sound P t → (k : ℕ) → corner_of t k < P
corner_below P t s zero = s.a
corner_below P t s (suc zero) = s.b
corner_below P t s (suc (suc k)) = s.c

corner_apart : (P : ℕ) (t : Triangle) → Sound P t → (k : ℕ) → k < 3 → corner_of t k ≡ corner_of t ((k + 1) % 3) → ⊥
corner_apart P t s zero l e = s.ab e
corner_apart P t s (suc zero) l e = s.bc e
corner_apart P t s (suc (suc zero)) l e = s.ca e
corner_apart P t s (suc (suc (suc k))) l e = absurd (omega arith)

blank_corner : (k : ℕ) → corner_of blank k ≡ 0
blank_corner zero = refl
blank_corner (suc zero) = refl
blank_corner (suc (suc k)) = refl

pub start_absent : (triangles : List Triangle) (h : ℕ) → length triangles ≤ h / 3 → stored_start triangles h ≡ 0
unfolding stored_start
start_absent triangles h l = ap (λ t. corner_of t (h % 3)) (get_or_past triangles (h / 3) blank l) ∙ blank_corner (h % 3)

-- what the lists keep before they are paired
module _ (points : List Point) (triangles : List Triangle) (e : set_fits points triangles ≡ true) where
  pub record Fitting : Type 0 where
    pub few_points : length points ≤ 65536
    pub few_triangles : length triangles ≤ 65536
    pub nears : (p : ℕ) → p < length points → Near (get_or points p origin)
    pub sounds : (t : ℕ) → t < length triangles → Sound (length points) (get_or triangles t blank)

  pub fitting : Fitting
  unfolding set_fits
  fitting = record {
    few_points = grind (arith, nat_tests);
    few_triangles = grind (arith, nat_tests);
    nears = λ p h. near_is (get_or points p origin) (All-get_or (λ q. near q ≡ true) points p origin h (AllPass-from_list_all near points (grind (arith, nat_tests))));
    sounds = λ t h. sound_is (length points) (get_or triangles t blank) (All-get_or (λ x. sound (length points) x ≡ true) triangles t blank h (AllPass-from_list_all (sound (length points)) triangles (grind (arith, nat_tests))));
  }

  pub start_apart : (h : ℕ) → h / 3 < length triangles → stored_start triangles h ≡ stored_start triangles (next h) → ⊥
  unfolding stored_start
  start_apart h p q =
      let t : next h / 3 ≡ h / 3 = omega arith in
      let k : next h % 3 ≡ (h % 3 + 1) % 3 = omega arith in
      corner_apart (length points) (get_or triangles (h / 3) blank) (fitting.sounds (h / 3) p) (h % 3) (omega arith)
      (q ∙ ap (λ x. corner_of (get_or triangles x blank) (next h % 3)) t ∙ ap (corner_of (get_or triangles (h / 3) blank)) k)

-- what the rule says of h with the twin g
pub record Mutual (start : ℕ → ℕ) (twins : List ℕ) (h g : ℕ) : Type 0 where
  pub there : g < length twins
  pub back : get_or twins g 0 ≡ h
  pub along : start g ≡ start (next h)
  pub against : start (next g) ≡ start h

pub record Listed (points : List Point) (triangles : List Triangle) (twins : List ℕ) : Type 0 where
  pub set : set_fits points triangles ≡ true
  pub many : length twins ≡ 3 * length triangles
  pub few : length twins ≤ 196608

pub listed : (points : List Point) (triangles : List Triangle) (twins : List ℕ) → lists_fit points triangles twins ≡ true → Listed points triangles twins
unfolding lists_fit
listed points triangles twins e =
    let s : set_fits points triangles ≡ true = grind (arith, nat_tests) in
    let n : length twins ≡ 3 * length triangles = grind (arith, nat_tests) in
    record { set = s; many = n; few = omega (arith, n, (fitting points triangles s).few_triangles) }

pub lists_from : (points : List Point) (triangles : List Triangle) (twins : List ℕ) → set_fits points triangles ≡ true → length twins ≡ 3 * length triangles → lists_fit points triangles twins ≡ true
unfolding lists_fit
lists_from points triangles twins s n = grind (arith, nat_tests)

module _ (points : List Point) (triangles : List Triangle) (twins : List ℕ) (e : stored_fits points triangles twins ≡ true) where
  pub record Parts : Type 0 where
    pub set : set_fits points triangles ≡ true
    pub many : length twins ≡ 3 * length triangles
    pub few_points : length points ≤ 65536
    pub few_triangles : length triangles ≤ 65536
    pub keeps : (h : ℕ) → h < length twins → twin_kept triangles twins h ≡ true

  pub parts : Parts
  unfolding stored_fits
  parts =
      let (l, k) = and_parts (lists_fit points triangles twins) (every_below (twin_kept triangles twins) (length twins)) e in
      let s = listed points triangles twins l in
      let f = fitting points triangles s.set in
      record { set = s.set; many = s.many; few_points = f.few_points; few_triangles = f.few_triangles; keeps = below_at (twin_kept triangles twins) (length twins) k }

  near_at : (p : ℕ) → Near (get_or points p origin)
  near_at p = elim (cases_lt p (length points)) [
    | inl h ↦ (fitting points triangles parts.set).nears p h
    | inr h ↦ subst Near (sym (get_or_past points p origin h)) (record { x = omega arith; y = omega arith; z = omega arith })
  ]

  twin_past : (h : ℕ) → ltb (h / 3) (length triangles) ≡ false → stored_twin twins h ≡ None
  twin_past h a = grind (arith, nat_tests, parts.many)

  start_in : (h : ℕ) → ltb (h / 3) (length triangles) ≡ true → stored_start triangles h < length points
  unfolding stored_start
  start_in h p = corner_below (length points) (get_or triangles (h / 3) blank) ((fitting points triangles parts.set).sounds (h / 3) (ltb-true (h / 3) (length triangles) p)) (h % 3)

  value_is : (f g : ℕ) → twin_of f ≡ Some g → (f ≡ g) × (g ≡ no_twin → ⊥)
  value_is f g q = (grind (arith, nat_tests), λ z. grind (arith, nat_tests))

  twin_is : (h g : ℕ) → stored_twin twins h ≡ Some g → (h < length twins) × (get_or twins h 0 ≡ g) × (g ≡ no_twin → ⊥)
  twin_is h g q =
      let l : h < length twins = grind (arith, nat_tests) in
      let v : twin_of (get_or twins h 0) ≡ Some g = grind (arith, nat_tests) in
      let (m, n) = value_is (get_or twins h 0) g v in (l, m, n)

  twins_at : (h g : ℕ) → stored_twin twins h ≡ Some g → Mutual (stored_start triangles) twins h g
  twins_at h g q =
      let (l, m, n) = twin_is h g q in
      let f = get_or twins h 0 in
      let k : answered triangles twins h f ≡ true = grind (arith, nat_tests, parts.keeps h l) in
      subst (Mutual (stored_start triangles) twins h) m (record {
        there = grind (arith, nat_tests);
        back = grind (arith, nat_tests);
        along = grind (arith, nat_tests);
        against = grind (arith, nat_tests);
      })

  back_at : (h g : ℕ) → stored_twin twins h ≡ Some g → stored_twin twins g ≡ Some h
  back_at h g q =
      let t = twins_at h g q in
      let (i, v, n) = twin_is h g q in
      let l : h ≢ no_twin = λ z. omega (arith, parts.few_triangles, parts.many) in
      grind (arith, nat_tests)

  pub stored_lawful : Lawful (stored points triangles twins)
  stored_lawful = record {
    few_triangles = parts.few_triangles;
    few_points = parts.few_points;
    near = near_at;
    far = λ p h. get_or_past points p origin h;
    absent_above = λ t h. le-ltb t (length triangles) h;
    absent_start = λ h a. start_absent triangles h (ltb-false (h / 3) (length triangles) a);
    absent_twin = twin_past;
    corner = start_in;
    apart = λ h p. start_apart points triangles parts.set h (ltb-true (h / 3) (length triangles) p);
    back = back_at;
    along = λ h g q. (twins_at h g q).along;
    against = λ h g q. (twins_at h g q).against;
  }
