-- The laws of meshes, each from its own file.
use Rattle.mesh.proofs.Rules.{turns, twins_stand}
use Rattle.mesh.proofs.StoredRules.{stored_lawful}
use Rattle.mesh.proofs.GridRules.{grid_lawful, limits, cells}
use Rattle.mesh.proofs.MirrorRules.{mirror_lawful, mirror_mirror}
use Rattle.mesh.proofs.PairedRules.{pairs_stand, mates_above, none_left}
use Rattle.mesh.proofs.laws.mesh_laws.Goals as goal

pub returns : goal.returns
returns c = record {
  turns = turns;
  twins_stand = twins_stand;
  stored_lawful = stored_lawful;
  grid_lawful = λ W H s readings e. grid_lawful W H s readings (limits W H s readings e);
  mirror_lawful = mirror_lawful;
  pairs_stand = pairs_stand;
  mates_above = mates_above;
  none_left = none_left;
  cells = cells;
  mirrored_twice = mirror_mirror;
}
