-- The box of some points is the smallest that holds them. Assumes nothing.
use Rattle.std.proofs.Common.{◌≡◌, List, [], ◌∷◌, slice_get, Some, fold, subst, arith}
use lib.Signed.{≤ℤ_refl}
use Rattle.std.specs.List.{AllByRecursion}
use Rattle.std.proofs.lemmas.Int.{ints}
use Rattle.mesh.specs.declared.Point.{Point}
use Rattle.set_report.specs.declared.bounds.BoundingBox.{BoundingBox}
use Rattle.set_report.specs.Bounds.{widened, bounds_of, Below, Holds, Smallest}

below_same : (p : Point) → Below p p
below_same p = record { x = ≤ℤ_refl p.x; y = ≤ℤ_refl p.y; z = ≤ℤ_refl p.z }

below_chain : (a b c : Point) → Below a b → Below b c → Below a c
below_chain a b c h k = grind arith

-- one box lies within another
pub record Within (a b : BoundingBox) : Type 0 where
  pub low : Below b.low a.low
  pub high : Below a.high b.high

within_chain : (a b c : BoundingBox) → Within a b → Within b c → Within a c
within_chain a b c h k = record { low = below_chain _ _ _ k.low h.low; high = below_chain _ _ _ h.high k.high }

holds_more : (a b : BoundingBox) (p : Point) → Within a b → Holds a p → Holds b p
holds_more a b p w h = record { low = below_chain _ _ _ w.low h.low; high = below_chain _ _ _ h.high w.high }

within_widened : (b : BoundingBox) (p : Point) → Within b (widened b p)
within_widened b p = grind (arith, ints)

widened_holds : (b : BoundingBox) (p : Point) → Holds (widened b p) p
widened_holds b p = grind (arith, ints)

-- a box that holds the old one and the new point holds the widened one
widened_within : (b other : BoundingBox) (p : Point) → Within b other → Holds other p → Within (widened b p) other
widened_within b other p w h = grind (arith, ints)

within_folded : (b : BoundingBox) (ps : List Point) → Within b (fold widened b ps)
within_folded b [] = record { low = below_same b.low; high = below_same b.high }
within_folded b (p ∷ ps) = within_chain b (widened b p) (fold widened (widened b p) ps) (within_widened b p) (within_folded (widened b p) ps)

folded_holds : (b : BoundingBox) (ps : List Point) → AllByRecursion (Holds (fold widened b ps)) ps
folded_holds b [] = tt
folded_holds b (p ∷ ps) = (holds_more (widened b p) (fold widened (widened b p) ps) p (within_folded (widened b p) ps) (widened_holds b p), folded_holds (widened b p) ps)

folded_within : (b other : BoundingBox) (ps : List Point) → Within b other → AllByRecursion (Holds other) ps → Within (fold widened b ps) other
folded_within b other [] w h = w
folded_within b other (p ∷ ps) w h = folded_within (widened b p) other ps (widened_within b other p w h.0) h.1

pub smallest : Smallest
smallest [] b e = cc
smallest (p ∷ ps) b e =
    let start : BoundingBox = record { low = p; high = p } in
    let same : fold widened start (p ∷ ps) ≡ b = cc in (
      subst (λ (x : BoundingBox). AllByRecursion (Holds x) (p ∷ ps)) same (folded_holds start (p ∷ ps)),
      λ other h.
          let w : Within b other = subst (λ (x : BoundingBox). Within x other) same (folded_within start other (p ∷ ps) (record { low = h.0.low; high = h.0.high }) h) in
          (w.low, w.high),
    )

-- the box of the first point, grown over all
pub grown : (ps : List Point) (p : Point) (b : BoundingBox) → slice_get ps 0 ≡ Some p → b ≡ fold widened (record { low = p; high = p }) ps → Some b ≡ bounds_of ps
grown [] p b h e = cc
grown (q ∷ ps) p b h e = cc
