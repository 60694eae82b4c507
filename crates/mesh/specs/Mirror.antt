-- What a mirrored mesh means. Assumes nothing.
use Rattle.std.specs.Prelude.{◌≡◌, ℕ, ◌+◌, ◌-◌, ◌*◌, ◌/◌, ◌%◌, neg_ℤ, Some, None, Option}
use Rattle.mesh.specs.declared.Point.{Point}
use Rattle.mesh.specs.Model.{MeshModel, end_of}

-- 3t + k becomes 3t + 2 − k
abbrev pub flip : ℕ → ℕ
flip h = 3 * (h / 3) + (2 - h % 3)

abbrev pub flip_twin : Option ℕ → Option ℕ
flip_twin None = None
flip_twin (Some g) = Some (flip g)

abbrev pub opposite : Point → Point
opposite p = record { x = neg_ℤ p.x; y = p.y; z = p.z }

abbrev pub mirror : MeshModel → MeshModel
mirror m = record {
  triangles = m.triangles;
  points = m.points;
  present = m.present;
  start = λ h. end_of m (flip h);
  place = λ p. opposite (m.place p);
  twin = λ h. flip_twin (m.twin (flip h));
}

-- mirrored twice, a mesh is itself again
abbrev pub MirrorLaw : Type 0
MirrorLaw = (m : MeshModel) → mirror (mirror m) ≡ m
