-- The counts stay small while they are folded, and the fold is the count.
use Rattle.std.proofs.Common.{◌≡◌, ℕ, ◌+◌, ◌<◌, ◌≤◌, length, refl, rules, arith, ap, ◌∙◌, length-append}
use Rattle.std.specs.List.{fold, range_with_len}
use Rattle.std.proofs.lemmas.Iterator.{YieldsList-from_range}
use Rattle.std.proofs.lemmas.Iterator.Consumers.{fold_from_yields_List}
use Rattle.std.proofs.lemmas.Fn.{serves_by}
use Rattle.mesh_counts.specs.Edges.{counted, edges_below}
use Rattle.mesh_counts.specs.declared.edges.Edges.{Edges}
use Rattle.mesh_counts.proofs.Counting.{few_more, edges_folded, range_taken}
use Rattle.mesh_counts.proofs.edges.count_below.Goals as goal

pub fold-requires-clause-callable : goal.fold-requires-clause-callable
fold-requires-clause-callable g c =
    serves_by _ (λ xs q. (q.0 ≡ record { 0 = c.args.mesh }) × (q.1.shared ≤ length xs) × (q.1.border ≤ length xs))
    (λ xs q x v j r.
    let few = few_more (g.M.Mesh.meaning q.0.0.now) x (length xs) q.1 j.1 j.2 in
    let e : v.1 ≡ counted (g.M.Mesh.meaning q.0.0.now) x q.1 = search rules in
    let s : v.0 ≡ q.0 = search rules in
    (s ∙ j.0, omega (arith, few.0, length-append {A = ℕ}, ap (λ (k : Edges). k.shared) e), omega (arith, few.1, length-append {A = ℕ}, ap (λ (k : Edges). k.border) e)))
    _ _ _ _ (refl, omega (arith, c.default.ensures.0), omega (arith, c.default.ensures.1))
    (λ xs t q x u y s j.
    let i = range_taken xs _ t y in
    let few : length xs < 196608 = omega (arith, i.0, i.1, s.1.0, c.requires) in
    let a : q.1.shared < 196608 = omega arith in
    let b : q.1.border < 196608 = omega arith in
    search rules)

pub returns : goal.returns
returns g c =
    let m = g.M.Mesh.meaning c.args.mesh.now in
    let e : c.fold.result ≡ fold (λ e h. counted m h e) c.default.result (range_with_len 0 c.args.n) = fold_from_yields_List _ (λ e h. counted m h e) _ _ c.fold.ensures.ran (YieldsList-from_range 0 c.args.n c.args.n refl (omega arith)) (λ a x b q k. search rules) in
    let d : c.default.result ≡ edges_below m 0 = search rules in
    let s : 0 + c.args.n ≡ c.args.n = omega arith in
    e ∙ ap (λ (d : Edges). fold (λ e h. counted m h e) d (range_with_len 0 c.args.n)) d ∙ edges_folded m 0 c.args.n ∙ ap (edges_below m) s
