-- One cell more, and one row more.
use Rattle.std.proofs.Common.{◌≡◌, ◌+◌, ◌*◌, ◌++◌, append_assoc, ap, sym, ◌∙◌, rules, arith}
use Rattle.pairing_cost.specs.Floor.{cell_halves, row_triangles, floor_triangles}
use Rattle.pairing_cost.proofs.Rows.{one_more}
use Rattle.pairing_cost.proofs.floor.Floor.triangles.Goals as goal

pub loop-c-preserved : goal.loop-c-preserved
loop-c-preserved c =
    let width = c.args.self.columns + 1 in
    let above = floor_triangles c.args.self.columns c.loop-r.r in
    let cell = cell_halves (c.loop-r.r * width + c.loop-c.c) width in
    let e : c.extend_from_slice.new.self.items ≡ c.loop-c.triangles.items ++ cell = search rules in
    e ∙ ap (λ xs. xs ++ cell) c.loop-c.invariant ∙ append_assoc above (row_triangles width c.loop-r.r c.loop-c.c) cell ∙ ap (λ xs. above ++ xs) (sym (one_more (λ k. cell_halves (c.loop-r.r * width + k) width) c.loop-c.c))

pub loop-r-preserved : goal.loop-r-preserved
loop-r-preserved c =
    let columns = c.args.self.columns in
    let s : c.loop-c.c ≡ columns = omega arith in
    c.loop-c.invariant ∙ ap (λ k. floor_triangles columns c.loop-r.r ++ row_triangles (columns + 1) c.loop-r.r k) s ∙ sym (one_more (λ r. row_triangles (columns + 1) r columns) c.loop-r.r)
