-- The text of a report, line by line. Assumes nothing.
use Rattle.std.specs.Prelude.{ℕ, List, [], ◌++◌, ℤ, Some, None, codes, decimal, Option}
use Rattle.std.specs.Fmt.{signed_decimal}
use Rattle.set_file.specs.declared.file.FileFault.{FileFault}
use Rattle.set_file.specs.declared.file.FileFault.TheVariants.{Size, Line}
use Rattle.set_file.specs.declared.file.Refusal.{Refusal}
use Rattle.set_file.specs.Refusals.{refusal_of}
use Rattle.set_file.specs.Places.{word_at}
use Rattle.set_file.specs.Questions.{line_question, refusal_text}
use Rattle.set_report.specs.declared.bounds.BoundingBox.{BoundingBox}
use Rattle.set_report.specs.declared.report.Report.{Report}
use Rattle.set_report.specs.Shown.{shown_of}

abbrev pub counts_text : ℕ → ℕ → List ℕ
counts_text points triangles = codes "points: " ++ (decimal points ++ (codes "\ntriangles: " ++ (decimal triangles ++ codes "\n")))

-- one side of a box, in centimetres
abbrev pub side_text : List ℕ → ℤ → ℤ → List ℕ
side_text axis low high = axis ++ (codes " " ++ (signed_decimal low ++ (codes " to " ++ signed_decimal high)))

-- the three sides
abbrev pub box_text : BoundingBox → List ℕ
box_text b =
    side_text (codes "x") b.low.x b.high.x ++ (codes ", "
    ++ (side_text (codes "y") b.low.y b.high.y ++ (codes ", " ++ side_text (codes "z") b.low.z b.high.z)))

abbrev pub bounds_text : Option BoundingBox → List ℕ
bounds_text None = codes "box: none\n"
bounds_text (Some b) = codes "box: " ++ (box_text b ++ codes "\n")

abbrev pub file_question : FileFault → List ℕ
file_question Size = codes "is the file at most 1048576 bytes long?"
file_question (Line f) = line_question f

abbrev pub heading_text : Option Refusal → List ℕ
heading_text None = codes "out of memory\n"
heading_text (Some r) = refusal_text r ++ codes "\n"

-- the word that a refusal names, if it names one
abbrev pub named_word : List ℕ → Option Refusal → Option (List ℕ)
named_word bytes None = None
named_word bytes (Some r) = word_at bytes r.at

abbrev pub word_text : Option (List ℕ) → List ℕ
word_text None = []
word_text (Some w) = codes "word: " ++ (shown_of w ++ codes "\n")

-- what is refused and where, the question, and the word
abbrev pub fault_text : FileFault → List ℕ → List ℕ
fault_text f bytes = heading_text (refusal_of f) ++ (codes "question: " ++ (file_question f ++ (codes "\n" ++ word_text (named_word bytes (refusal_of f)))))

abbrev pub verdict_text : Option FileFault → List ℕ → List ℕ
verdict_text None bytes = codes "this set can be loaded\n"
verdict_text (Some f) bytes = fault_text f bytes

abbrev pub report_text : Report → List ℕ → List ℕ
report_text r bytes = counts_text r.points r.triangles ++ (bounds_text r.bounds ++ verdict_text r.fault bytes)
