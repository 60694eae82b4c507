-- The number that a word writes, and which numbers are in range. Assumes nothing.
use Rattle.std.specs.Prelude.{◌≡◌, ℕ, ◌+◌, ◌-◌, ◌*◌, Bool, cond, ◌&&◌, List, [], ◌∷◌, length, ℤ, pos, neg_ℤ, Some, None, Err, Option, Result, ◌==◌, int_le, nat_le, unsigned_abs}
use Rattle.std.specs.Char.{is_ascii_digit}
use Rattle.std.specs.Fn.{Once}
use Rattle.std.specs.Option.{ok_or}
use Rattle.mesh.specs.Model.{in_limits}
use Rattle.set_file.specs.declared.word.Place.{Place}
use Rattle.set_file.specs.declared.word.WordFault.{WordFault}
use Rattle.set_file.specs.declared.word.WordFault.TheVariants.{Form, Range}

-- the number that digits write after those of n; none if one is no digit
abbrev pub after : ℕ → List ℕ → Option ℕ
after n [] = Some n
after n (b ∷ bs) = cond (is_ascii_digit b) (after (n * 10 + (b - 48)) bs) None

-- one to five digits
abbrev pub unsigned_of : List ℕ → Option ℕ
unsigned_of [] = None
unsigned_of (b ∷ bs) = cond (nat_le (length bs) 4) (after 0 (b ∷ bs)) None

abbrev pub plus : Option ℕ → Option ℤ
plus None = None
plus (Some n) = Some (pos n)

abbrev pub minus : Option ℕ → Option ℤ
minus None = None
minus (Some n) = Some (neg_ℤ (pos n))

-- one to five digits, with or without a minus (45)
abbrev pub number_of : List ℕ → Option ℤ
number_of [] = None
number_of (b ∷ bs) = cond (b == 45) (minus (unsigned_of bs)) (plus (unsigned_of (b ∷ bs)))

-- the number that a word at a place writes, as h takes it
abbrev pub converted : {T : Type 0} → (ℤ → Option T) → Option ℤ → Place → Result T WordFault
converted h None at = Err (Form at)
converted h (Some v) at = ok_or (h v) (Range at)

-- each call of f answers what h gives
abbrev pub Converts : {F T : Type 0} → Once F (ℤ × Unit {0}) (Option T) → F → (ℤ → Option T) → Type 0
Converts {T = T} g f h = (v : ℤ) (r : Option T) → g.post f (v, tt) r → r ≡ h v

-- what a number that passes a test gives
abbrev pub passing : {T : Type 0} → (ℤ → Bool) → (ℤ → T) → ℤ → Option T
passing test value v = cond (test v) (Some (value v)) None

-- the coordinate that a word writes: a number within the limits of a mesh
abbrev pub coordinate_of : List ℕ → Place → Result ℤ WordFault
coordinate_of word at = converted (passing in_limits (λ v. v)) (number_of word) at

-- the number of one of n earlier points, counted from 1
abbrev pub earlier : ℕ → ℤ → Bool
earlier n v = int_le (pos 1) v && int_le v (pos n)

-- a point's number, counted from 0
abbrev pub from_zero : ℤ → ℕ
from_zero v = unsigned_abs v - 1

-- the corner that a word names, after n points
abbrev pub corner_of : List ℕ → ℕ → Place → Result ℕ WordFault
corner_of word n at = converted (passing (earlier n) from_zero) (number_of word) at
