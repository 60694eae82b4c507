-- What the reading of a file means, in terms of its lines and words. Assumes nothing.
use Rattle.std.specs.Prelude.{◌≡◌, ℕ, ◌+◌, ◌<◌, ◌≤◌, true, false, ◌⊎◌, List, [], ◌∷◌, ◌++◌, length, ℤ, Some, None, Ok, Err, codes, ◌≢◌, Option}
use Rattle.mesh.specs.declared.Point.{Point}
use Rattle.mesh.specs.declared.Triangle.{Triangle}
use Rattle.mesh.specs.Model.{in_limits}
use Rattle.mesh.specs.Stored.{set_fits}
use Rattle.set_file.specs.declared.word.Place.{Place}
use Rattle.set_file.specs.declared.word.WordFault.TheVariants.{Form, Range}
use Rattle.set_file.specs.declared.line.Entry.{Entry}
use Rattle.set_file.specs.declared.line.LineFault.{LineFault}
use Rattle.set_file.specs.declared.line.LineFault.TheVariants.{First, Count, Word, Same, Full, Memory}
use Rattle.set_file.specs.declared.file.FileFault.TheVariants.{Size, Line}
use Rattle.set_file.specs.Parts.{lines, words}
use Rattle.set_file.specs.declared.file.Refusal.{Refusal}
use Rattle.set_file.specs.Refusals.{refusal_of}
use Rattle.set_file.specs.Numbers.{number_of, earlier}
use Rattle.set_file.specs.Lines.{entry_of}
use Rattle.set_file.specs.Places.{numbered}
use Rattle.set_file.specs.Files.{Lists, Reading, MemoryFor, all, only, spend, with_entry, entry_at, stopped, reading}

-- some lines, of which the first is line n, are good, and their entries lead from the lists s to t
abbrev pub Lead : List (List ℕ) → ℕ → Lists → Lists → Type 0
Lead [] n s t = t ≡ s
Lead (l ∷ ls) n s t = (e : Option Entry) × (entry_at l n s ≡ Ok e) × Lead ls (n + 1) (with_entry e s) t

-- all lines are good, and the answer says so
pub record Done (ls : List (List ℕ)) (n : ℕ) (s : Lists) (r : Reading) : Type 0 where
  pub led : Lead ls n s r.held
  pub answer : r.answer ≡ Ok tt

-- the lists hold the entries of the lines before the first bad one, whose fault is the answer
pub record Refused (ls : List (List ℕ)) (n : ℕ) (s : Lists) (r : Reading) : Type 0 where
  pub good : List (List ℕ)
  pub bad : List ℕ
  pub more : List (List ℕ)
  pub fault : LineFault
  pub cut : ls ≡ good ++ bad ∷ more
  pub led : Lead good n s r.held
  pub found : entry_at bad (n + length good) r.held ≡ Err fault
  pub answer : r.answer ≡ Err (Line fault)

-- the lists hold the entries of the lines before a good one that found no memory, which the answer names
pub record Short (m : MemoryFor) (ls : List (List ℕ)) (n : ℕ) (s : Lists) (r : Reading) : Type 0 where
  pub good : List (List ℕ)
  pub last : List ℕ
  pub more : List (List ℕ)
  pub entry : Option Entry
  pub room : ℕ
  pub limited : m ≡ only room
  pub cut : ls ≡ good ++ last ∷ more
  pub led : Lead good n s r.held
  pub found : entry_at last (n + length good) r.held ≡ Ok entry
  pub wants : spend entry (only 0) ≡ None
  pub answer : r.answer ≡ Err (Line (Memory (n + length good)))

-- every reading is too long, or ends in one of these ways
abbrev pub LineByLine : Type 0
LineByLine = (m : MemoryFor) (limit : ℕ) (bytes : List ℕ) (s : Lists) →
    ((limit < length bytes) × (reading m limit bytes s ≡ stopped s Size))
    ⊎ ((length bytes ≤ limit) × (Done (lines bytes) 1 s (reading m limit bytes s) ⊎ (Refused (lines bytes) 1 s (reading m limit bytes s) ⊎ Short m (lines bytes) 1 s (reading m limit bytes s))))

-- a file in limit whose lines are all good is accepted
abbrev pub GoodFiles : Type 0
GoodFiles = (limit : ℕ) (bytes : List ℕ) (s t : Lists) → length bytes ≤ limit → Lead (lines bytes) 1 s t → reading all limit bytes s ≡ record { held = t; answer = Ok tt }

-- t is s with more behind each list
pub record Extends (s t : Lists) : Type 0 where
  pub new_points : List Point
  pub new_triangles : List Triangle
  pub points : t.points ≡ s.points ++ new_points
  pub triangles : t.triangles ≡ s.triangles ++ new_triangles

-- what the lists held stays as it was
abbrev pub Kept : Type 0
Kept = (m : MemoryFor) (limit : ℕ) (bytes : List ℕ) (s : Lists) → Extends s (reading m limit bytes s).held

-- lists that keep the limits of a mesh and its rules of places and corners still do: what was read can be paired
abbrev pub FitsKept : Type 0
FitsKept = (m : MemoryFor) (limit : ℕ) (bytes : List ℕ) (s : Lists) → set_fits s.points s.triangles ≡ true → set_fits (reading m limit bytes s).held.points (reading m limit bytes s).held.triangles ≡ true

-- a word of line n stands at the place
pub record Stands (line : List ℕ) (n : ℕ) (at : Place) (word : List ℕ) : Type 0 where
  pub on_line : at.line ≡ n
  pub in_line : numbered (words line) at.word ≡ Some word

-- the first word of a line
abbrev pub Begins : List ℕ → List ℕ → Type 0
Begins line key = numbered (words line) 1 ≡ Some key

-- a value that is no coordinate, or no number of an earlier point, as the line's first word asks
abbrev pub OutOfRange : List ℕ → ℕ → ℤ → Type 0
OutOfRange line points v = (Begins line (codes "v") × (in_limits v ≡ false)) ⊎ (Begins line (codes "f") × (earlier points v ≡ false))

-- what a fault of line n says of it; none is want of memory
abbrev pub Says : List ℕ → ℕ → ℕ → ℕ → LineFault → Type 0
Says line n points triangles (First k) = (k ≡ n) × (key : List ℕ) × Begins line key × (key ≢ codes "v") × (key ≢ codes "f")
Says line n points triangles (Count k) = (k ≡ n) × (length (words line) ≢ 4)
Says line n points triangles (Word (Form at)) = (w : List ℕ) × Stands line n at w × (number_of w ≡ None)
Says line n points triangles (Word (Range at)) = (w : List ℕ) × Stands line n at w × (v : ℤ) × (number_of w ≡ Some v) × OutOfRange line points v
Says line n points triangles (Same k) = k ≡ n
Says line n points triangles (Full k) = (k ≡ n) × ((65536 ≤ points) ⊎ (65536 ≤ triangles))
Says line n points triangles (Memory k) = ⊥

-- what it says is so
abbrev pub TrueFaults : Type 0
TrueFaults = (line : List ℕ) (n points triangles : ℕ) (f : LineFault) → entry_of line n points triangles ≡ Err f → Says line n points triangles f

-- it has a number, and tells the line
abbrev pub ToldFaults : Type 0
ToldFaults = (line : List ℕ) (n points triangles : ℕ) (f : LineFault) → entry_of line n points triangles ≡ Err f → (r : Refusal) × (refusal_of (Line f) ≡ Some r) × (r.at.line ≡ n)

pub record Laws : Type 0 where
  pub line_by_line : LineByLine
  pub good_files : GoodFiles
  pub kept : Kept
  pub fits_kept : FitsKept
  pub true_faults : TrueFaults
  pub told_faults : ToldFaults
