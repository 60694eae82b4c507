-- A mirrored mesh keeps the rules, and mirrored twice is the mesh again.
use Rattle.std.proofs.Common.{◌≡◌, ℕ, zero, suc, ◌/◌, ◌≤◌, ℤ, pos, negsuc, neg_ℤ, nat_abs, min, Some, None, Option, sym, refl, ap, ◌∙◌, arith}
use Rattle.std.proofs.Math.IntN.{neg_ℤ-neg_ℤ}
use Rattle.mesh.specs.HalfEdges.{next}
use Rattle.mesh.specs.Model.{MeshModel, Lawful, Near, end_of, origin}
use Rattle.mesh.proofs.Rules.{capped, start_past, twin_past}
use Rattle.mesh.specs.Mirror.{mirror, flip, flip_twin, opposite, MirrorLaw}

neg_size : (z : ℤ) → nat_abs (neg_ℤ z) ≡ nat_abs z
neg_size (pos zero) = refl
neg_size (pos (suc n)) = refl
neg_size (negsuc n) = refl

twice : (h : ℕ) → flip (flip h) ≡ h
twice h = omega arith

back_again : (h : ℕ) → next (flip (next (flip h))) ≡ h
back_again h = omega arith

flip_twin_twice : (o : Option ℕ) → flip_twin (flip_twin o) ≡ o
flip_twin_twice None = refl
flip_twin_twice (Some g) = ap Some (twice g)

pub mirror_mirror : MirrorLaw
mirror_mirror m = λ i. record {
  triangles = m.triangles;
  points = m.points;
  present = m.present;
  start = λ h. m.start (back_again h i);
  place = λ p. record { x = neg_ℤ-neg_ℤ (m.place p).x i; y = (m.place p).y; z = (m.place p).z };
  twin = λ h. (flip_twin_twice (m.twin (flip (flip h))) ∙ ap m.twin (twice h)) i;
}

same_triangle : (h : ℕ) → flip h / 3 ≡ h / 3
same_triangle h = omega arith

same_triangle_next : (h : ℕ) → next (flip h) / 3 ≡ h / 3
same_triangle_next h = omega arith

module _ (m : MeshModel) (l : Lawful m) where
  twin_inside : (h g : ℕ) → (mirror m).twin h ≡ Some g → m.twin (flip h) ≡ Some (flip g)
  twin_inside h g e = go (m.twin (flip h)) refl
    where
      go : (o : Option ℕ) → m.twin (flip h) ≡ o → m.twin (flip h) ≡ Some (flip g)
      go None p = let q : flip_twin (m.twin (flip h)) ≡ None = ap flip_twin p in absurd cc
      go (Some f) p =
          let q : flip_twin (m.twin (flip h)) ≡ Some (flip f) = ap flip_twin p in
          let r : flip f ≡ g = cc in
          let s : f ≡ flip g = omega (arith, twice f) in cc

  mirror_near : (p : ℕ) → Near ((mirror m).place p)
  mirror_near p = record { x = omega (arith, neg_size (m.place p).x, (l.near p).x); y = (l.near p).y; z = (l.near p).z }

  mirror_far : (p : ℕ) → m.points ≤ p → (mirror m).place p ≡ origin
  mirror_far p h = ap opposite (l.far p h)

  pub mirror_lawful : Lawful (mirror m)
  mirror_lawful = record {
    few_triangles = l.few_triangles;
    few_points = l.few_points;
    near = mirror_near;
    far = mirror_far;
    absent_above = l.absent_above;
    absent_start = λ h a. l.absent_start (next (flip h)) (ap m.present (same_triangle_next h) ∙ a);
    absent_twin = λ h a. ap flip_twin (l.absent_twin (flip h) (ap m.present (same_triangle h) ∙ a));
    corner = λ h p. l.corner (next (flip h)) (ap m.present (same_triangle_next h) ∙ p);
    apart = λ h p e. l.apart (flip h) (ap m.present (same_triangle h) ∙ p) (sym (e ∙ ap m.start (turned h)));
    back = λ h g e. ap flip_twin (l.back (flip h) (flip g) (twin_inside h g e)) ∙ ap Some (twice h);
    along = λ h g e. sym (l.along (flip g) (flip h) (l.back (flip h) (flip g) (twin_inside h g e))) ∙ ap m.start (sym (turned h));
    against = λ h g e. ap m.start (turned g) ∙ l.along (flip h) (flip g) (twin_inside h g e);
  }
    where
      turned : (h : ℕ) → next (flip (next h)) ≡ flip h
      turned h = omega arith

-- what the code asks of the mesh below, where the highest number stands for the one past it
pub end_capped : (m : MeshModel) → Lawful m → (h : ℕ) → end_of m (min (flip h) 4294967295) ≡ end_of m (flip h)
end_capped m l h = capped (end_of m) 0 (λ k p. start_past m l (next k) (omega arith)) (flip h)

pub twin_capped : (m : MeshModel) → Lawful m → (h : ℕ) → m.twin (min (flip h) 4294967295) ≡ m.twin (flip h)
twin_capped m l h = capped m.twin None (twin_past m l) (flip h)
