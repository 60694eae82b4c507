-- The laws of the counts. Assumes nothing.
use Rattle.mesh_counts.specs.Edges.{EdgeLaw}
use Rattle.mesh_counts.specs.Unused.{UnusedLaw}

pub record Laws : Type 0 where
  pub edges : EdgeLaw
  pub unused : UnusedLaw
