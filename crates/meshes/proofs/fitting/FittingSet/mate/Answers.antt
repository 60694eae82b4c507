-- The search above `h` finds the mate, since the turns before left nothing below `h` to pair it with.
use Rattle.std.proofs.Common.{◌+◌, ◌*◌, length, ◌∙◌, sym, refl, rules, tests}
use Rattle.std.proofs.lemmas.Iterator.{YieldsList-from_range}
use Rattle.std.proofs.lemmas.Iterator.Search.{find_from_yields_List}
use Rattle.std.proofs.lemmas.Iterator.Adapters.{option_map_id}
use Rattle.mesh.specs.Stored.{stored_start}
use Rattle.mesh.specs.Pairing.{suits}
use Rattle.mesh.proofs.PairedRules.{inside, mate_found}
use Rattle.meshes.proofs.fitting.FittingSet.mate.Goals as goal

pub overflow_add-h : goal.overflow_add-h
overflow_add-h c =
    let s = c.args.self.now in
    let i = inside s.points.now s.triangles.now s.fits _ _ c.requires.turns c.requires.free in
    let few = s.few_triangles in
    search rules

pub returns : goal.returns
returns c =
    let s = c.args.self.now in
    sym (option_map_id c.find.result)
    ∙ find_from_yields_List (suits (stored_start s.triangles.now) c.args.twins.now c.args.h) _ _ c.find.result c.find.ensures.ran (YieldsList-from_range (c.args.h + 1) (3 * length s.triangles.now) _ (cc) refl) (λ x b q k. search (rules, tests))
    ∙ mate_found s.points.now s.triangles.now s.fits _ _ c.requires.turns c.requires.free
