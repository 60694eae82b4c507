-- What the caller's lists hold after a file was read, and the answer. Assumes nothing.
use Rattle.std.specs.Prelude.{◌≡◌, ℕ, zero, suc, ◌+◌, ◌≤◌, Bool, false, cond, not, ◌⊎◌, List, [], ◌∷◌, ◌++◌, length, is_some, Some, None, Ok, Err, vec_items, Option, Result, Vec, nat_le}
use Rattle.std.specs.declared.alloc.Global.{Global}
use Rattle.mesh.specs.declared.Point.{Point}
use Rattle.mesh.specs.declared.Triangle.{Triangle}
use Rattle.set_file.specs.declared.line.Entry.{Entry}
use Rattle.set_file.specs.declared.line.Entry.TheVariants.{Vertex, Face}
use Rattle.set_file.specs.declared.line.LineFault.{LineFault}
use Rattle.set_file.specs.declared.line.LineFault.TheVariants.{Memory}
use Rattle.set_file.specs.declared.file.FileFault.{FileFault}
use Rattle.set_file.specs.declared.file.FileFault.TheVariants.{Size, Line}
use Rattle.set_file.specs.Parts.{lines}
use Rattle.set_file.specs.Lines.{entry_of}
use Rattle.set_file.specs.Refusals.{refusal_of}

-- the caller's two lists
pub record Lists : Type 0 where
  pub points : List Point
  pub triangles : List Triangle

abbrev pub lists : Vec Point Global → Vec Triangle Global → Lists
lists ps ts = record { points = vec_items ps; triangles = vec_items ts }

-- how many more entries find memory
pub data MemoryFor : Type 0 where
  all : MemoryFor
  only : ℕ → MemoryFor

-- what a reading leaves in the lists, and its answer
pub record Reading : Type 0 where
  pub held : Lists
  pub answer : Result (Unit {0}) FileFault

abbrev pub stopped : Lists → FileFault → Reading
stopped s f = record { held = s; answer = Err f }

-- the lists with what a line adds
abbrev pub with_entry : Option Entry → Lists → Lists
with_entry None s = s
with_entry (Some (Vertex p)) s = record { points = s.points ++ p ∷ []; triangles = s.triangles }
with_entry (Some (Face t)) s = record { points = s.points; triangles = s.triangles ++ t ∷ [] }

abbrev pub one_less : MemoryFor → Option MemoryFor
one_less all = Some all
one_less (only zero) = None
one_less (only (suc k)) = Some (only k)

-- the memory that is left after what a line adds, if it found any
abbrev pub spend : Option Entry → MemoryFor → Option MemoryFor
spend None m = Some m
spend (Some e) m = one_less m

-- a reading goes on if line n's entry found memory, else it stops there
abbrev pub or_short : Option MemoryFor → ℕ → Lists → (MemoryFor → Reading) → Reading
or_short None n s go = stopped s (Line (Memory n))
or_short (Some m) n s go = go m

-- line n's entry is appended; its fault becomes the file's, and the lists stay
abbrev pub enter : Result (Option Entry) LineFault → MemoryFor → ℕ → Lists → (Lists → MemoryFor → Reading) → Reading
enter (Ok e) m n s go = or_short (spend e m) n s (go (with_entry e s))
enter (Err f) m n s go = stopped s (Line f)

-- the entry of line n, after the lists s
abbrev pub entry_at : List ℕ → ℕ → Lists → Result (Option Entry) LineFault
entry_at line n s = entry_of line n (length s.points) (length s.triangles)

-- some lines, of which the first is line n
abbrev pub read_lines : MemoryFor → List (List ℕ) → ℕ → Lists → Reading
read_lines m [] n s = record { held = s; answer = Ok tt }
read_lines m (l ∷ ls) n s = enter (entry_at l n s) m n s (λ t k. read_lines k ls (n + 1) t)

-- a file of at most `limit` bytes, appended to the lists s
abbrev pub reading : MemoryFor → ℕ → List ℕ → Lists → Reading
reading m limit bytes s = cond (nat_le (length bytes) limit) (read_lines m (lines bytes) 1 s) (stopped s Size)

-- the answer is want of memory: the one fault that has no number
abbrev pub short : Result (Unit {0}) FileFault → Bool
short (Ok u) = false
short (Err f) = not (is_some (refusal_of f))

-- lists and answer of a call: those of the reading with memory for some number of entries and,
-- unless the answer is want of memory, those of the reading with memory for all
pub record Reads (limit : ℕ) (bytes : List ℕ) (before after : Lists) (r : Result (Unit {0}) FileFault) : Type 0 where
  pub memory : MemoryFor
  pub result : reading memory limit bytes before ≡ record { held = after; answer = r }
  pub whole : short r ≡ false → reading all limit bytes before ≡ record { held = after; answer = r }

-- a list has outgrown the memory that it had
abbrev pub Outgrown : ℕ → ℕ → Lists → Type 0
Outgrown for-points for-triangles s = (for-points ≤ length s.points) ⊎ (for-triangles ≤ length s.triangles)

-- an entry of line n is appended, or it found no memory and the lists are as before
abbrev pub Appended : Option Entry → ℕ → Lists → Lists → Result (Unit {0}) LineFault → Type 0
Appended e n before after (Ok u) = after ≡ with_entry e before
Appended e n before after (Err f) = (f ≡ Memory n) × (after ≡ before) × (spend e (only 0) ≡ None)
