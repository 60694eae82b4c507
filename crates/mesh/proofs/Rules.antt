-- What follows from the rules of a mesh, and how next goes round a triangle.
use Rattle.std.proofs.Common.{min, ◌≡◌, ℕ, ◌*◌, ◌/◌, ◌<◌, ◌≤◌, true, ◌⊎◌, Some, None, sym, ap, ◌∙◌, inl, inr, arith}
use Rattle.std.proofs.lemmas.Bool.{cases_lt, cases_eq, true_from_ne_false}
use Rattle.mesh.specs.HalfEdges.{next, Turns}
use Rattle.mesh.specs.Model.{MeshModel, Lawful, TwinsStand}

pub turns : Turns
turns = record {
  numbered = λ t k l. omega arith;
  one_on = λ t k l. omega arith;
  stays = λ h. omega arith;
  moves = λ h e. omega arith;
  comes_back = λ h. omega arith;
}

-- where all numbers past every mesh get one reply, the highest number may be asked about in place of a higher one
pub capped : {A : Type 0} (reply : ℕ → A) (past : A) → ((h : ℕ) → 196608 ≤ h → reply h ≡ past) → (h : ℕ) → reply (min h 4294967295) ≡ reply h
capped reply past far h = elim (cases_lt h 4294967296) [
  | inl l ↦ ap reply (omega arith)
  | inr l ↦ far (min h 4294967295) (omega arith) ∙ sym (far h (omega arith))
]

module _ (m : MeshModel) (l : Lawful m) where
  pub twin_present : (h g : ℕ) → m.twin h ≡ Some g → m.present (h / 3) ≡ true
  twin_present h g e = true_from_ne_false (m.present (h / 3)) (λ p. let a = l.absent_twin h p in absurd cc)

  pub present_below : (t : ℕ) → m.present t ≡ true → t < m.triangles
  present_below t p = grind (arith, l.absent_above t)

  pub twin_inside : (h g : ℕ) → m.twin h ≡ Some g → g < 3 * m.triangles
  twin_inside h g e = omega (arith, present_below (g / 3) (twin_present g h (l.back h g e)))

  pub twin_below : (h g : ℕ) → m.twin h ≡ Some g → g < 196608
  twin_below h g e = omega (arith, twin_inside h g e, l.few_triangles)

  -- past every mesh
  pub start_past : (h : ℕ) → 196608 ≤ h → m.start h ≡ 0
  start_past h p = l.absent_start h (l.absent_above (h / 3) (omega (arith, l.few_triangles)))

  pub twin_past : (h : ℕ) → 196608 ≤ h → m.twin h ≡ None
  twin_past h p = l.absent_twin h (l.absent_above (h / 3) (omega (arith, l.few_triangles)))

  -- the triangle of h has no other side between its points
  twin_elsewhere : (h g : ℕ) → m.twin h ≡ Some g → g / 3 ≡ h / 3 → ⊥
  twin_elsewhere h g e s = go (cases_eq g (next h)) (cases_eq g (next (next h)))
    where
      here : m.present (h / 3) ≡ true
      here = twin_present h g e

      go : (g ≡ next h) ⊎ (g ≡ next h → ⊥) → (g ≡ next (next h)) ⊎ (g ≡ next (next h) → ⊥) → ⊥
      go (inl q) r = l.apart (next (next h)) (ap m.present (omega arith) ∙ here)
          (sym (ap (λ x. m.start (next x)) q) ∙ l.against h g e ∙ ap m.start (omega arith))
      go (inr q) (inl r) = l.apart (next h) (ap m.present (omega arith) ∙ here)
          (sym (l.along h g e) ∙ ap m.start r)
      go (inr q) (inr r) = let z : g ≡ h = omega arith in l.apart h here (sym (ap m.start z) ∙ l.along h g e)

pub twins_stand : TwinsStand
twins_stand m l h g e = record {
  here = twin_present m l h g e;
  there = twin_present m l g h (l.back h g e);
  inside = twin_inside m l h g e;
  elsewhere = twin_elsewhere m l h g e;
  only = λ k f. let a = l.back h g e in let b = l.back k g f in cc;
}
