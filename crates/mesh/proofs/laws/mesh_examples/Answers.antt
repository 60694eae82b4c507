-- The examples, by computation.
use Rattle.std.proofs.Common.{refl}
use Rattle.mesh.specs.Stored.{stored_start, set_fits, lists_fit, stored_fits}
use Rattle.mesh.specs.Pairing.{mate, pair_one}
use Rattle.mesh.specs.Grid.{full, grid_fits}
use Rattle.mesh.proofs.laws.mesh_examples.Goals as goal

pub returns : goal.returns
unfolding stored_start set_fits lists_fit stored_fits mate pair_one full grid_fits
returns c = record {
  square_fits = refl;
  square_twins = refl;
  square_replies = refl;
  one_sided = refl;
  wrong_way = refl;
  three_panels = refl;
  four_panels = refl;
  folded = refl;
  same_way = refl;
  mirrored_starts = refl;
  mirrored_twins = refl;
  mirrored_place = refl;
  torn_present = refl;
  torn_starts = refl;
  torn_twins = refl;
  strip_starts = refl;
  strip_twins = refl;
  column_starts = refl;
  column_twins = refl;
  slope_places = refl;
  smallest = refl;
  too_narrow = refl;
  too_close = refl;
  too_far = refl;
  too_few = refl;
  too_deep = refl;
}
