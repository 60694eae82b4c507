-- Small files and what the definitions make of them. Assumes nothing.
use Rattle.std.specs.Prelude.{◌≡◌, ℕ, List, [], ◌∷◌, ℤ, pos, negsuc, Some, None, Ok, Err, codes, Option, Result}
use Rattle.mesh.specs.declared.Point.{Point}
use Rattle.mesh.specs.declared.Triangle.{Triangle}
use Rattle.set_file.specs.declared.file.FileFault.{FileFault}
use Rattle.set_file.specs.declared.file.FileFault.TheVariants.{Line}
use Rattle.set_file.specs.declared.file.Refusal.{Refusal}
use Rattle.set_file.specs.declared.line.Entry.TheVariants.{Face}
use Rattle.set_file.specs.declared.line.LineFault.TheVariants.{Same, Full, Memory}
use Rattle.set_file.specs.Lines.{entry_of}
use Rattle.set_file.specs.Refusals.{refused, refusal_of}
use Rattle.set_file.specs.Places.{word_at}
use Rattle.set_file.specs.Files.{Lists, Reading, all, only, reading, stopped}

abbrev empty : Lists
empty = record { points = []; triangles = [] }

-- a file of at most 8,192 bytes, read into empty lists
abbrev file : List ℕ → Reading
file bytes = reading all 8192 bytes empty

abbrev told : Result (Unit {0}) FileFault → Option Refusal
told (Ok u) = None
told (Err f) = refusal_of f

-- the refusal of such a file
abbrev tells : List ℕ → Option Refusal
tells bytes = told (file bytes).answer

abbrev at : ℤ → ℤ → ℤ → Point
at x y z = record { x = x; y = y; z = z }

abbrev corners : ℕ → ℕ → ℕ → Triangle
corners a b c = record { a = a; b = b; c = c }

abbrev accepted : List Point → List Triangle → Reading
accepted ps ts = record { held = record { points = ps; triangles = ts }; answer = Ok tt }

pub record Examples : Type 0 where
  -- a square of two triangles
  pub square :
      file (codes "v 0 0 0\nv 100 0 0\nv 100 100 0\nv 0 100 0\nf 1 2 3\nf 1 3 4\n")
      ≡ accepted
      (at (pos 0) (pos 0) (pos 0) ∷ at (pos 100) (pos 0) (pos 0) ∷ at (pos 100) (pos 100) (pos 0) ∷ at (pos 0) (pos 100) (pos 0) ∷ [])
      (corners 0 1 2 ∷ corners 0 2 3 ∷ [])
  -- nothing, comments and empty lines add nothing; the last line needs no LF
  pub nothing : file [] ≡ accepted [] []
  pub comments : file (codes "# v 1\n\n \t\n#f\nv 1 -2 3") ≡ accepted (at (pos 1) (negsuc 1) (pos 3) ∷ []) []
  -- 1: one byte too many
  pub size : told (reading all 4 (codes "#####") empty).answer ≡ refused 1 0 0
  -- 2: the first word
  pub first : tells (codes "v 0 0 0\nvn 0 0 1") ≡ refused 2 2 1
  -- 3: exactly three words more
  pub two_words : tells (codes "v 0 0") ≡ refused 3 1 0
  pub four_words : tells (codes "v 0 0 0 0") ≡ refused 3 1 0
  -- 4: the form of a number
  pub plus_sign : tells (codes "v +1 0 0") ≡ refused 4 1 2
  pub six_digits : tells (codes "v 0 000001 0") ≡ refused 4 1 3
  pub lone_minus : tells (codes "v 0 0 -") ≡ refused 4 1 4
  -- 5: its range
  pub far : file (codes "v 10000 0 0") ≡ accepted (at (pos 10000) (pos 0) (pos 0) ∷ []) []
  pub too_far : tells (codes "v 10001 0 0") ≡ refused 5 1 2
  pub too_low : tells (codes "v -10001 0 0") ≡ refused 5 1 2
  pub no_point : tells (codes "v 0 0 0\nf 1 2 1") ≡ refused 5 2 3
  -- 6: three different points; the points before it stay
  pub same : file (codes "v 0 0 0\nv 1 0 0\nf 1 2 1") ≡ stopped (record { points = at (pos 0) (pos 0) (pos 0) ∷ at (pos 1) (pos 0) (pos 0) ∷ []; triangles = [] }) (Line (Same 3))
  pub same_told : refusal_of (Line (Same 3)) ≡ refused 6 3 0
  -- 7: a full list, and only the list that would grow
  pub full_points : entry_of (codes "v 0 0 0") 9 65536 0 ≡ Err (Full 9)
  pub full_triangles : entry_of (codes "f 1 2 3") 9 3 65536 ≡ Err (Full 9)
  pub other_full : entry_of (codes "f 1 2 3") 9 65536 65535 ≡ Ok (Some (Face (corners 0 1 2)))
  pub full_told : refusal_of (Line (Full 9)) ≡ refused 7 9 0
  -- the first question that is answered with no is told
  pub first_before_count : tells (codes "vn x") ≡ refused 2 1 1
  pub count_before_form : tells (codes "v x") ≡ refused 3 1 0
  pub range_before_next_form : tells (codes "v 10001 x 0") ≡ refused 5 1 2
  pub same_before_full : entry_of (codes "f 1 2 1") 9 2 65536 ≡ Err (Same 9)
  -- memory for one entry only: the second line's point finds none
  pub short : reading (only 1) 8192 (codes "v 1 0 0\nv 2 0 0") empty ≡ stopped (record { points = at (pos 1) (pos 0) (pos 0) ∷ []; triangles = [] }) (Line (Memory 2))
  -- the word that a refusal names
  pub named : word_at (codes "v 0 0 0\nv\t7 no 9") (record { line = 2; word = 3 }) ≡ Some (codes "no")
