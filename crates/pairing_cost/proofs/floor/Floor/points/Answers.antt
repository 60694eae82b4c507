-- The points that the chain gives are those of the floor, row by row.
use Rattle.std.proofs.Common.{◌≡◌, ◌+◌, map, rules, arith}
use Rattle.std.specs.List.{range_with_len}
use Rattle.std.proofs.lemmas.Iterator.{YieldsList-from_range, YieldsList-from_map, items_from_collect}
use Rattle.std.proofs.lemmas.Iterator.Adapters.{YieldsList-from_flat_map}
use Rattle.pairing_cost.specs.Floor.{corner_at}
use Rattle.pairing_cost.proofs.floor.Floor.points.Goals as goal

pub returns : goal.returns
returns c =
    let columns = c.args.self.columns + 1 in
    let rows = c.args.self.rows + 1 in
    items_from_collect c.collect.result c.collect.ensures.ran
    (YieldsList-from_flat_map _ _ _ (λ x. x) (λ r. map (λ k. corner_at k r) (range_with_len 0 columns)) _
    (λ r u q k. (
      search rules,
      λ j b.
          let i : j.iter ≡ record { start = 0; end = columns } = search rules in
          let f : j.f ≡ record { 0 = r } = search rules in
          YieldsList-from_map _ (λ k. corner_at k r) (YieldsList-from_range 0 columns columns i (omega arith)) f (λ x p q k. search rules),
    ))
    (YieldsList-from_range 0 rows rows c.flat_map.ensures.source (omega arith)) c.flat_map.ensures.closure c.flat_map.ensures.front c.flat_map.ensures.back c.flat_map.ensures.done)
