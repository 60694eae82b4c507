-- Counting edges by a fold over the half-edges: each adds one at most, and the fold is the count.
use Rattle.std.proofs.Common.{◌≡◌, ℕ, zero, suc, ◌+◌, ◌≤◌, List, [], ◌∷◌, length, sym, ap, ◌∙◌, arith}
use Rattle.std.specs.Iterator.{Yields}
use Rattle.std.specs.List.{fold, range_with_len}
use Rattle.std.specs.declared.ops.Range.{Range}
use Rattle.std.proofs.iter.Yields.{nat_range_steps}
use Rattle.std.proofs.lemmas.Bool.Decides.{nat_tests}
use Rattle.mesh.specs.Model.{MeshModel}
use Rattle.mesh_counts.specs.declared.edges.Edges.{Edges}
use Rattle.mesh_counts.specs.Edges.{counted, edges_below}

-- one half-edge adds one at most
pub few_more : (m : MeshModel) (h n : ℕ) (e : Edges) → e.shared ≤ n → e.border ≤ n → ((counted m h e).shared ≤ n + 1) × ((counted m h e).border ≤ n + 1)
few_more m h n e s b = (grind (arith, nat_tests), grind (arith, nat_tests))

-- counting on from half-edge a
pub edges_folded : (m : MeshModel) (a n : ℕ) → fold (λ e h. counted m h e) (edges_below m a) (range_with_len a n) ≡ edges_below m (a + n)
edges_folded m a zero = let e : a ≡ a + 0 = omega arith in ap (edges_below m) e
edges_folded m a (suc n) =
    let s : suc a ≡ a + 1 = omega arith in
    let t : a + 1 + n ≡ a + suc n = omega arith in
    ap (λ k. fold (λ e h. counted m h e) (edges_below m k) (range_with_len (a + 1) n)) s ∙ edges_folded m (a + 1) n ∙ ap (edges_below m) t

-- the numbers of a range that have come, in order
pub range_taken : (xs : List ℕ) (s t : Range ℕ) → Yields nat_range_steps s xs t → (t.end ≡ s.end) × (t.start ≡ s.start + length xs)
range_taken [] s t y = (sym (ap (λ k. k.end) y), omega (arith, ap (λ (k : Range ℕ). k.start) y))
range_taken (x ∷ xs) s t y = let h = range_taken xs y.0 t y.2 in (h.0 ∙ y.1.0, omega (arith, h.1, y.1.1.2))
