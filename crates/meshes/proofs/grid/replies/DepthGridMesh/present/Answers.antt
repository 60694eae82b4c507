-- To look at the three half-edges of a triangle in turn is to look at each.
use Rattle.std.proofs.Common.{◌≡◌, ℕ, ◌+◌, ◌-◌, ◌*◌, Bool, rules, tests, arith}
use Rattle.std.proofs.lemmas.Iterator.{YieldsList-from_range}
use Rattle.std.proofs.lemmas.Iterator.Search.{all_from_yields_List}
use Rattle.std.specs.List.{list_all, range_with_len}
use Rattle.mesh.specs.Grid.{read, grid_start, full}
use Rattle.meshes.proofs.grid.replies.DepthGridMesh.present.Goals as goal

pub returns-then-t-triangles : goal.returns-then-t-triangles
unfolding full
returns-then-t-triangles c =
    let t = c.args.t in
    let has_start : ℕ → Bool = λ h. read c.args.self.now.readings.now (grid_start (c.args.self.now.columns - 1) h) in
    let all : c.all.result ≡ list_all has_start (range_with_len (3 * t) 3) =
    all_from_yields_List has_start _ _ c.all.result c.all.ensures.ran (YieldsList-from_range (3 * t) (3 * t + 3) 3 (cc) (omega arith)) (λ h b q k. search (rules, tests)) in
    search rules
