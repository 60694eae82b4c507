-- A mate is a half-edge of the list.
use Rattle.std.proofs.Common.{sym, ◌∙◌, rules}
use Rattle.mesh.proofs.PairingRules.{mate_is}
use Rattle.meshes.proofs.fitting.FittingSet.pair_one.Goals as goal

pub bounds-twins-g : goal.bounds-twins-g
bounds-twins-g c = let i = mate_is _ _ _ _ (sym c.mate.ensures ∙ c.in-Some.is) in search rules
