-- The laws of a reading, each from its own file.
use Rattle.set_file.proofs.Meaning.{line_by_line, good_files, kept}
use Rattle.set_file.proofs.Fitting.{fits_kept}
use Rattle.set_file.proofs.Blame.{true_faults, told_faults}
use Rattle.set_file.proofs.laws.reading_laws.Goals as goal

pub returns : goal.returns
returns c = record { line_by_line = line_by_line; good_files = good_files; kept = kept; fits_kept = fits_kept; true_faults = true_faults; told_faults = told_faults }
