-- What each fault tells: its number, line and word. Assumes nothing.
use Rattle.std.specs.Prelude.{ℕ, Some, None, Option}
use Rattle.set_file.specs.declared.word.WordFault.{WordFault}
use Rattle.set_file.specs.declared.word.WordFault.TheVariants.{Form, Range}
use Rattle.set_file.specs.declared.line.LineFault.{LineFault}
use Rattle.set_file.specs.declared.line.LineFault.TheVariants.{First, Count, Word, Same, Full, Memory}
use Rattle.set_file.specs.declared.file.FileFault.{FileFault}
use Rattle.set_file.specs.declared.file.FileFault.TheVariants.{Size, Line}
use Rattle.set_file.specs.declared.file.Refusal.{Refusal}

abbrev pub refused : ℕ → ℕ → ℕ → Option Refusal
refused n l w = Some (record { number = n; at = record { line = l; word = w } })

abbrev pub word_refusal : WordFault → Option Refusal
word_refusal (Form at) = refused 4 at.line at.word
word_refusal (Range at) = refused 5 at.line at.word

abbrev pub line_refusal : LineFault → Option Refusal
line_refusal (First n) = refused 2 n 1
line_refusal (Count n) = refused 3 n 0
line_refusal (Word f) = word_refusal f
line_refusal (Same n) = refused 6 n 0
line_refusal (Full n) = refused 7 n 0
line_refusal (Memory n) = None

-- want of memory is no refusal of the format, and has no number
abbrev pub refusal_of : FileFault → Option Refusal
refusal_of Size = refused 1 0 0
refusal_of (Line f) = line_refusal f
