-- What a fault says in words: the question that it answers with no, and the line that names a refusal. Assumes nothing.
use Rattle.std.specs.Prelude.{ℕ, List, ◌++◌, codes, decimal}
use Rattle.set_file.specs.declared.word.WordFault.{WordFault}
use Rattle.set_file.specs.declared.word.WordFault.TheVariants.{Form, Range}
use Rattle.set_file.specs.declared.line.LineFault.{LineFault}
use Rattle.set_file.specs.declared.line.LineFault.TheVariants.{First, Count, Word, Same, Full, Memory}
use Rattle.set_file.specs.declared.file.Refusal.{Refusal}

abbrev pub word_question : WordFault → List ℕ
word_question (Form at) = codes "is the word a number of one to five digits, with or without a minus?"
word_question (Range at) = codes "is the number in range: after `v` from -10000 to 10000, after `f` an earlier point?"

abbrev pub line_question : LineFault → List ℕ
line_question (First n) = codes "is the first word `v` or `f`?"
line_question (Count n) = codes "are there exactly three words after the first?"
line_question (Word f) = word_question f
line_question (Same n) = codes "do the corners name three different points?"
line_question (Full n) = codes "does the list hold fewer than 65536 entries?"
line_question (Memory n) = codes "is there memory for one more entry?"

abbrev pub refusal_text : Refusal → List ℕ
refusal_text r = codes "refused " ++ (decimal r.number ++ (codes " line " ++ (decimal r.at.line ++ (codes " word " ++ decimal r.at.word))))
