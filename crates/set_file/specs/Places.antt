-- The word that stands at a place of a file. Assumes nothing.
use Rattle.std.specs.Prelude.{ℕ, ◌-◌, cond, List, [], ◌∷◌, Some, None, Option, ◌==◌}
use Rattle.set_file.specs.declared.word.Place.{Place}
use Rattle.set_file.specs.Parts.{lines, words}

-- item n of a list, counted from 1
abbrev pub numbered : {A : Type 0} → List A → ℕ → Option A
numbered [] n = None
numbered (x ∷ xs) n = cond (n == 1) (Some x) (numbered xs (n - 1))

abbrev pub word_of : Option (List ℕ) → ℕ → Option (List ℕ)
word_of None n = None
word_of (Some line) n = numbered (words line) n

abbrev pub word_at : List ℕ → Place → Option (List ℕ)
word_at bytes at = word_of (numbered (lines bytes) at.line) at.word
