-- The paired list keeps the rule of twins, turn by turn, and leaves no two half-edges that could be paired.
use Rattle.std.proofs.Common.{◌≡◌, ℕ, zero, suc, ◌+◌, ◌-◌, ◌<◌, ◌≤◌, Bool, true, false, cond, ◌&&◌, ◌≢◌, ◌⊎◌, List, length, get_or, set, Some, None, Option, sym, refl, ap, ◌∙◌, subst, inl, inr, arith}
use Rattle.std.proofs.lemmas.List.{length-set, length-replicate, get_or-replicate, get_or-set_same, get_or-set_other, get_or_past}
use Rattle.std.proofs.lemmas.Bool.Decides.{nat_tests}
use Rattle.std.proofs.lemmas.Grind.{common_steps}
use Rattle.std.proofs.lemmas.Bool.{cases_Bool, and_left, and_right, eqb-true, cases_eq, cases_lt, cond-false}
use Rattle.std.specs.List.{find, range_with_len}
use Rattle.mesh.specs.HalfEdges.{next}
use Rattle.mesh.specs.Stored.{no_twin, against}
use Rattle.mesh.proofs.StoredRules.{Mutual}
use Rattle.mesh.specs.Pairing.{Apart, free, suits, lowest, mate, joined, pair_one, pair_below}

abbrev pub TwinRule : (ℕ → ℕ) → List ℕ → Type 0
TwinRule start twins = (h : ℕ) → h < length twins → (get_or twins h 0 ≡ no_twin → ⊥) → Mutual start twins h (get_or twins h 0)

-- the lowest that passes, passes and lies in the range
pub lowest_is : (test : ℕ → Bool) (count k g : ℕ) → lowest test count k ≡ Some g → (test g ≡ true) × (k ≤ g) × (g < k + count)
lowest_is test zero k g e = absurd cc
lowest_is test (suc count) k g e = elim (cases_Bool (test k)) [
  | inl t ↦ let q : k ≡ g = grind (arith, nat_tests) in (ap test (sym q) ∙ t, omega arith, omega arith)
  | inr t ↦ let (a, b, d) = lowest_is test count (k + 1) g (grind (arith, nat_tests)) in (a, omega arith, omega arith)
]

suits_is : (start : ℕ → ℕ) (twins : List ℕ) (h g : ℕ) → suits start twins h g ≡ true → (get_or twins g 0 ≡ no_twin) × (start g ≡ start (next h)) × (start (next g) ≡ start h)
suits_is start twins h g e = (grind (arith, nat_tests), grind (arith, nat_tests), grind (arith, nat_tests))

pub mate_is : (start : ℕ → ℕ) (twins : List ℕ) (h g : ℕ) → mate start twins h ≡ Some g → (suits start twins h g ≡ true) × (g < length twins)
unfolding mate
mate_is start twins h g e = let (a, b, d) = lowest_is (suits start twins h) (length twins) 0 g e in (a, omega arith)

-- a turn, by whether its half-edge has a twin
pub paired_before : (start : ℕ → ℕ) (twins : List ℕ) (h : ℕ) → (get_or twins h 0 ≡ no_twin → ⊥) → twins ≡ pair_one start twins h
unfolding pair_one
paired_before start twins h n = grind (arith, nat_tests)

pub paired_as : (start : ℕ → ℕ) (twins : List ℕ) (h : ℕ) (o : Option ℕ) → get_or twins h 0 ≡ no_twin → mate start twins h ≡ o → joined twins h o ≡ pair_one start twins h
unfolding pair_one
paired_as start twins h o f e = grind (arith, nat_tests)

module _ (start : ℕ → ℕ) (n : ℕ) (apart : Apart start n) where
  -- two free half-edges that run against each other are joined
  module _ (twins : List ℕ) (few : length twins ≤ 196608) (same : length twins ≡ n) (rule : TwinRule start twins) where
    join_keeps : (h g : ℕ) → h < length twins → g < length twins → get_or twins h 0 ≡ no_twin → suits start twins h g ≡ true → TwinRule start (set (set twins h g) g h)
    join_keeps h g hl gl hf s = at
      where
        parts : (get_or twins g 0 ≡ no_twin) × (start g ≡ start (next h)) × (start (next g) ≡ start h)
        parts = suits_is start twins h g s

        size : length (set (set twins h g) g h) ≡ length twins
        size = length-set (set twins h g) g h ∙ length-set twins h g

        differ : h ≢ g
        differ e = apart h (omega arith) (ap start e ∙ parts.1)

        at_g : get_or (set (set twins h g) g h) g 0 ≡ h
        at_g = get_or-set_same (set twins h g) g h 0 (omega (arith, length-set twins h g))

        at_h : get_or (set (set twins h g) g h) h 0 ≡ g
        at_h = get_or-set_other (set twins h g) g h h 0 differ ∙ get_or-set_same twins h g 0 hl

        elsewhere : (x : ℕ) → x ≢ h → x ≢ g → get_or (set (set twins h g) g h) x 0 ≡ get_or twins x 0
        elsewhere x p q = get_or-set_other (set twins h g) g x h 0 q ∙ get_or-set_other twins h x g 0 p

        moved : (x y : ℕ) → get_or (set (set twins h g) g h) x 0 ≡ y → Mutual start (set (set twins h g) g h) x y → Mutual start (set (set twins h g) g h) x (get_or (set (set twins h g) g h) x 0)
        moved x y e m = subst (Mutual start (set (set twins h g) g h) x) (sym e) m

        at : TwinRule start (set (set twins h g) g h)
        at x xl some = by_h (cases_eq x h)
          where
            by_g : x ≢ h → (x ≡ g) ⊎ (x ≢ g) → Mutual start (set (set twins h g) g h) x (get_or (set (set twins h g) g h) x 0)
            by_g p (inl e) = moved x h (ap (λ y. get_or (set (set twins h g) g h) y 0) e ∙ at_g) (record {
              there = omega (arith, size);
              back = at_h ∙ sym e;
              along = sym (ap (λ y. start (next y)) e ∙ parts.2);
              against = sym (ap start e ∙ parts.1);
            })
            by_g p (inr q) =
                let same-there = elsewhere x p q in
                let old = rule x (omega (arith, size)) (λ n. some (same-there ∙ n)) in
                let y = get_or twins x 0 in
                let b = old.back in
                let not-h : get_or twins x 0 ≢ h = λ e. let z : x ≡ no_twin = sym b ∙ ap (λ y. get_or twins y 0) e ∙ hf in omega (arith, size) in
                let not-g : get_or twins x 0 ≢ g = λ e. let z : x ≡ no_twin = sym b ∙ ap (λ y. get_or twins y 0) e ∙ parts.0 in omega (arith, size) in
                moved x (get_or twins x 0) same-there (record {
                  there = omega (arith, size, old.there);
                  back = elsewhere (get_or twins x 0) not-h not-g ∙ b;
                  along = old.along;
                  against = old.against;
                })

            by_h : (x ≡ h) ⊎ (x ≢ h) → Mutual start (set (set twins h g) g h) x (get_or (set (set twins h g) g h) x 0)
            by_h (inl e) = moved x g (ap (λ y. get_or (set (set twins h g) g h) y 0) e ∙ at_h) (record {
              there = omega (arith, size);
              back = at_g ∙ sym e;
              along = parts.1 ∙ ap (λ y. start (next y)) (sym e);
              against = parts.2 ∙ ap start (sym e);
            })
            by_h (inr p) = by_g p (cases_eq x g)

    joined_keeps : (h : ℕ) → h < length twins → get_or twins h 0 ≡ no_twin → (o : Option ℕ) → mate start twins h ≡ o → TwinRule start (joined twins h o)
    joined_keeps h hl hf None e = rule
    joined_keeps h hl hf (Some g) e = let (s, l) = mate_is start twins h g e in join_keeps h g hl l hf s

    one_keeps : (h : ℕ) → h < length twins → TwinRule start (pair_one start twins h)
    one_keeps h hl = elim (cases_eq (get_or twins h 0) no_twin) [
      | inl e ↦ subst (TwinRule start) (paired_as start twins h (mate start twins h) e refl) (joined_keeps h hl e (mate start twins h) refl)
      | inr e ↦ subst (TwinRule start) (paired_before start twins h e) rule
    ]

  pub length_one : (twins : List ℕ) (h : ℕ) → length (pair_one start twins h) ≡ length twins
  length_one twins h = elim (cases_eq (get_or twins h 0) no_twin) [
    | inr d ↦ ap length (sym (paired_before start twins h d))
    | inl d ↦ ap length (sym (paired_as start twins h (mate start twins h) d refl)) ∙ joined_length (mate start twins h)
  ]
    where
      joined_length : (o : Option ℕ) → length (joined twins h o) ≡ length twins
      joined_length None = refl
      joined_length (Some g) = grind (arith, common_steps)

  pub length_below : (k : ℕ) → length (pair_below start n k) ≡ n
  length_below zero = length-replicate n no_twin
  length_below (suc k) = length_one (pair_below start n k) k ∙ length_below k

  pub below_keeps : (k : ℕ) → n ≤ 196608 → k ≤ n → TwinRule start (pair_below start n k)
  below_keeps zero few l = λ h hl some. absurd (some (get_or-replicate n h no_twin 0 (omega (arith, length-replicate n no_twin))))
  below_keeps (suc k) few l =
      let e = length_below k in
      one_keeps (pair_below start n k) (omega arith) e (below_keeps k few (omega arith)) k (omega arith)

-- the hunt is a search of the numbers from k up
pub lowest_found : (test : ℕ → Bool) (count k : ℕ) → find test (range_with_len k count) ≡ lowest test count k
lowest_found test zero k = refl
lowest_found test (suc count) k = ap (cond (test k) (Some k)) (lowest_found test count (k + 1))

-- every number below g fails, so the hunt may begin at g
pub lowest_skip : (test : ℕ → Bool) (count k g : ℕ) → k ≤ g → g ≤ k + count → ((x : ℕ) → k ≤ x → x < g → test x ≡ false) → lowest test count k ≡ lowest test (k + count - g) g
lowest_skip test zero k g a b f = let e : k + zero - g ≡ 0 = omega arith in sym (ap (λ c. lowest test c g) e)
lowest_skip test (suc count) k g a b f = go (lowest_skip test count (k + 1) g) (cases_lt k g)
  where
    go : (k + 1 ≤ g → g ≤ k + 1 + count → ((x : ℕ) → k + 1 ≤ x → x < g → test x ≡ false) → lowest test count (k + 1) ≡ lowest test (k + 1 + count - g) g) → (k < g) ⊎ (g ≤ k) → cond (test k) (Some k) (lowest test count (k + 1)) ≡ lowest test (k + suc count - g) g
    go rest (inl l) =
        let e : k + 1 + count - g ≡ k + suc count - g = omega arith in
        cond-false (test k) (Some k) (lowest test count (k + 1)) (f k (omega arith) l)
        ∙ rest (omega arith) (omega arith) (λ x p q. f x (omega arith) q)
        ∙ ap (λ c. lowest test c g) e
    go rest (inr l) =
        let e : k ≡ g = omega arith in
        let d : suc count ≡ k + suc count - g = omega arith in
        ap (lowest test (suc count)) e ∙ ap (λ c. lowest test c g) d

-- none passes
lowest_all : (test : ℕ → Bool) (count k : ℕ) → lowest test count k ≡ None → (x : ℕ) → k ≤ x → x < k + count → test x ≡ false
lowest_all test zero k e x p q = absurd (omega arith)
lowest_all test (suc count) k e x p q =
    let n : test k ≡ false = grind (arith, nat_tests) in
    let r : lowest test count (k + 1) ≡ None = grind (arith, nat_tests) in
    elim (cases_eq k x) [
      | inl o ↦ ap test (sym o) ∙ n
      | inr o ↦ lowest_all test count (k + 1) r x (omega arith) (omega arith)
    ]

mate_none : (start : ℕ → ℕ) (twins : List ℕ) (h : ℕ) → mate start twins h ≡ None → lowest (suits start twins h) (length twins) 0 ≡ None
unfolding mate
mate_none start twins h e = e

against_itself : (start : ℕ → ℕ) (h : ℕ) → (start h ≡ start (next h) → ⊥) → against start h h ≡ false
against_itself start h d = grind (arith, nat_tests)

against_turned : (start : ℕ → ℕ) (h g : ℕ) → against start g h ≡ false → against start h g ≡ false
against_turned start h g e = grind (arith, nat_tests)

module _ (start : ℕ → ℕ) (n : ℕ) (few : n ≤ 196608) (apart : Apart start n) where
  -- a turn leaves no half-edge free that had a twin
  still_free : (twins : List ℕ) → length twins ≡ n → (k x : ℕ) → k < n → get_or (pair_one start twins k) x 0 ≡ no_twin → get_or twins x 0 ≡ no_twin
  still_free twins size k x l e = elim (cases_eq (get_or twins k 0) no_twin) [
    | inr d ↦ ap (λ t. get_or t x 0) (paired_before start twins k d) ∙ e
    | inl d ↦ go d (mate start twins k) refl
  ]
    where
      go : get_or twins k 0 ≡ no_twin → (o : Option ℕ) → mate start twins k ≡ o → get_or twins x 0 ≡ no_twin
      go d None p = ap (λ t. get_or t x 0) (paired_as start twins k None d p) ∙ e
      go d (Some g) p =
          let inside : g < n = omega (arith, (mate_is start twins k g p).1) in
          let new : get_or (set (set twins k g) g k) x 0 ≡ no_twin = ap (λ t. get_or t x 0) (paired_as start twins k (Some g) d p) ∙ e in
          grind (arith, common_steps)

  -- a half-edge that its own turn left free has no free partner
  unpaired : (twins : List ℕ) → length twins ≡ n → (k x : ℕ) → k < n → get_or (pair_one start twins k) k 0 ≡ no_twin → get_or twins x 0 ≡ no_twin → against start k x ≡ false
  unpaired twins size k x l e f = go (mate start twins k) refl
    where
      here : get_or twins k 0 ≡ no_twin
      here = still_free twins size k k l e

      go : (o : Option ℕ) → mate start twins k ≡ o → against start k x ≡ false
      go None p =
          let below : x < length twins = grind (arith, get_or_past twins x 0) in
          let f' : free twins x ≡ true = grind (arith, nat_tests) in
          let none : suits start twins k x ≡ false = lowest_all (suits start twins k) (length twins) 0 (mate_none start twins k p) x (omega arith) (omega (arith, below)) in
          grind (arith, nat_tests)
      go (Some g) p =
          let inside : g < n = omega (arith, (mate_is start twins k g p).1) in
          let new : get_or (set (set twins k g) g k) k 0 ≡ no_twin = ap (λ t. get_or t k 0) (paired_as start twins k (Some g) here p) ∙ e in
          absurd (grind (arith, common_steps))

  -- after k turns, a free half-edge below k has no free partner
  pub settled : (k : ℕ) → k ≤ n → (h x : ℕ) → h < k → get_or (pair_below start n k) h 0 ≡ no_twin → get_or (pair_below start n k) x 0 ≡ no_twin → against start h x ≡ false
  settled zero l h x i e f = absurd (omega arith)
  settled (suc k) l h x i e f = go (settled k (omega arith) h x) (cases_eq h k)
    where
      size : length (pair_below start n k) ≡ n
      size = length_below start n apart k

      go : (h < k → get_or (pair_below start n k) h 0 ≡ no_twin → get_or (pair_below start n k) x 0 ≡ no_twin → against start h x ≡ false) → (h ≡ k) ⊎ (h ≡ k → ⊥) → against start h x ≡ false
      go rest (inl q) = ap (λ y. against start y x) q ∙ unpaired (pair_below start n k) size k x (omega arith) (ap (λ y. get_or (pair_one start (pair_below start n k) k) y 0) (sym q) ∙ e) (still_free (pair_below start n k) size k x (omega arith) f)
      go rest (inr q) = rest (omega arith) (still_free (pair_below start n k) size k h (omega arith) e) (still_free (pair_below start n k) size k x (omega arith) f)

  -- so the hunt of h may begin above h
  pub hunt_above : (twins : List ℕ) (h : ℕ) → h < n → twins ≡ pair_below start n h → get_or twins h 0 ≡ no_twin → lowest (suits start twins h) (n - (h + 1)) (h + 1) ≡ mate start twins h
  unfolding mate
  hunt_above twins h l e f =
      let size : length twins ≡ n = ap length e ∙ length_below start n apart h in
      let d : 0 + length twins - (h + 1) ≡ n - (h + 1) = omega arith in
      sym (lowest_skip (suits start twins h) (length twins) 0 (h + 1) (omega arith) (omega arith) (λ x p q. fails x (omega arith)) ∙ ap (λ c. lowest (suits start twins h) c (h + 1)) d)
    where
      fails : (x : ℕ) → x ≤ h → suits start twins h x ≡ false
      fails x p = go (cases_eq x h) (free twins x) refl
        where
          go : (x ≡ h) ⊎ (x ≡ h → ⊥) → (b : Bool) → free twins x ≡ b → (free twins x && against start h x) ≡ false
          go o false q = and_left (free twins x) (against start h x) q
          go (inl o) true q = and_right (free twins x) (against start h x) (ap (against start h) o ∙ against_itself start h (apart h l))
          go (inr o) true q = and_right (free twins x) (against start h x) (against_turned start h x (settled h (omega arith) x h (omega arith)
              (ap (λ t. get_or t x 0) (sym e) ∙ eqb-true (get_or twins x 0) no_twin q) (ap (λ t. get_or t h 0) (sym e) ∙ f)))
