-- The entry that a line adds, or its fault: the grammar of a line. Assumes nothing.
use Rattle.std.specs.Prelude.{◌≡◌, ℕ, cond, ◌||◌, List, [], ◌∷◌, length, ℤ, Some, None, Ok, Err, Option, Result, ◌==◌, nat_lt, slice_index}
use Rattle.std.specs.Fn.{Shared}
use denote.Ref.{Bor}
use Rattle.set_file.specs.declared.word.Place.{Place}
use Rattle.set_file.specs.declared.word.WordFault.{WordFault}
use Rattle.set_file.specs.declared.line.Entry.{Entry}
use Rattle.set_file.specs.declared.line.Entry.TheVariants.{Vertex, Face}
use Rattle.set_file.specs.declared.line.LineFault.{LineFault}
use Rattle.set_file.specs.declared.line.LineFault.TheVariants.{First, Count, Word, Same, Full}
use Rattle.set_file.specs.Parts.{words}
use Rattle.set_file.specs.Numbers.{coordinate_of, corner_of}
use Rattle.set_file.specs.Tokens.{is_comment}

-- three words
abbrev pub Trio : Type 0
Trio = List ℕ × List ℕ × List ℕ

-- the code's three words by their bytes alone
abbrev pub trio : Bor (List ℕ) × Bor (List ℕ) × Bor (List ℕ) → Trio
trio t = (t.0.now, t.1.now, t.2.now)

-- exactly three words
abbrev pub three_of : List (List ℕ) → Option Trio
three_of [] = None
three_of (x ∷ []) = None
three_of (x ∷ y ∷ []) = None
three_of (x ∷ y ∷ z ∷ []) = Some (x, y, z)
three_of (x ∷ y ∷ z ∷ w ∷ ws) = None

-- a word's fault becomes the line's, with nothing of it lost
abbrev pub and_then : {T U : Type 0} → Result T WordFault → (T → Result U LineFault) → Result U LineFault
and_then (Ok x) f = f x
and_then (Err e) f = Err (Word e)

abbrev pub place : ℕ → ℕ → Place
place n w = record { line = n; word = w }

-- each call of f answers what h gives
abbrev pub ReadsAs : {F T : Type 0} → Shared F (Bor (List ℕ) × (Place × Unit {0})) (Result T WordFault) → F → (List ℕ → Place → Result T WordFault) → Type 0
ReadsAs {T = T} g f h = (w : Bor (List ℕ)) (at : Place) (r : Result T WordFault) → g.post f (w, (at, tt)) r → r ≡ h w.now at

-- what h makes of three words of line n
abbrev pub triple : {T : Type 0} → (List ℕ → Place → Result T WordFault) → ℕ → Option Trio → Result (T × T × T) LineFault
triple h n None = Err (Count n)
triple h n (Some t) =
    and_then (h t.0 (place n 2)) (λ x.
    and_then (h t.1 (place n 3)) (λ y.
    and_then (h t.2 (place n 4)) (λ z. Ok (x, y, z))))

-- an entry is made of three good words
abbrev pub made : {T : Type 0} → Result T LineFault → (T → Result Entry LineFault) → Result Entry LineFault
made (Ok t) k = k t
made (Err f) k = Err f

-- the entry of three coordinates, after so many points
abbrev pub vertex_entry : ℕ → ℕ → ℤ × ℤ × ℤ → Result Entry LineFault
vertex_entry n points t = cond (nat_lt points 65536) (Ok (Vertex (record { x = t.0; y = t.1; z = t.2 }))) (Err (Full n))

-- the entry of three corners, after so many triangles
abbrev pub face_entry : ℕ → ℕ → ℕ × ℕ × ℕ → Result Entry LineFault
face_entry n triangles t =
    cond (t.0 == t.1 || (t.1 == t.2 || t.2 == t.0)) (Err (Same n))
    (cond (nat_lt triangles 65536) (Ok (Face (record { a = t.0; b = t.1; c = t.2 }))) (Err (Full n)))

-- `v x y z`, after so many points
abbrev pub vertex_of : List (List ℕ) → ℕ → ℕ → Result Entry LineFault
vertex_of ws n points = made (triple coordinate_of n (three_of ws)) (vertex_entry n points)

-- `f a b c`, after so many points and triangles
abbrev pub face_of : List (List ℕ) → ℕ → ℕ → ℕ → Result Entry LineFault
face_of ws n points triangles = made (triple (λ word at. corner_of word points at) n (three_of ws)) (face_entry n triangles)

-- a line by the one byte of its first word: `v` is 118, `f` is 102
abbrev pub by_key : ℕ → List (List ℕ) → ℕ → ℕ → ℕ → Result Entry LineFault
by_key k ws n points triangles = cond (k == 118) (vertex_of ws n points) (cond (k == 102) (face_of ws n points triangles) (Err (First n)))

-- a line by its first word, which should have one byte
abbrev pub keyed_of : List ℕ → List (List ℕ) → ℕ → ℕ → ℕ → Result Entry LineFault
keyed_of w ws n points triangles = cond (length w == 1) (by_key (slice_index w 0) ws n points triangles) (Err (First n))

-- a line that has to have an entry has one
abbrev pub entered : Result Entry LineFault → Result (Option Entry) LineFault
entered (Ok e) = Ok (Some e)
entered (Err f) = Err f

-- a line by its words: without words, or with a comment first, it is passed over
abbrev pub by_words : List (List ℕ) → ℕ → ℕ → ℕ → Result (Option Entry) LineFault
by_words [] n points triangles = Ok None
by_words (w ∷ ws) n points triangles = cond (is_comment w) (Ok None) (entered (keyed_of w ws n points triangles))

-- the line n, after so many points and triangles
abbrev pub entry_of : List ℕ → ℕ → ℕ → ℕ → Result (Option Entry) LineFault
entry_of line n points triangles = by_words (words line) n points triangles
