-- The laws of the counts, each from its own file.
use Rattle.mesh_counts.proofs.EdgeLaw.{edge_law}
use Rattle.mesh_counts.proofs.UnusedLaw.{unused_law}
use Rattle.mesh_counts.proofs.laws.count_laws.Goals as goal

pub returns : goal.returns
returns c = record { edges = edge_law; unused = unused_law }
