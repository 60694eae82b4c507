-- The number of each refusal, and its question. Assumes nothing.
use Rattle.std.specs.Prelude.{ℕ, List, Ok, Err, Result, codes}
use Rattle.meshes.specs.declared.refusal.MeshRefusal.{MeshRefusal}
use Rattle.meshes.specs.declared.refusal.MeshRefusal.TheVariants.{Grid, Lists}

abbrev pub number_of : MeshRefusal → ℕ
number_of Grid = 9
number_of Lists = 10

-- the question that was answered with no
abbrev pub question_of : MeshRefusal → List ℕ
question_of Grid = codes "are the grid's columns, rows and pitch in limits, with one reading for each point, each at most 10000?"
question_of Lists = codes "do the lists keep the limits and the rules of a mesh?"

-- an answer, with a refusal by its number
abbrev pub told : Result (Unit {0}) MeshRefusal → Result (Unit {0}) ℕ
told (Ok u) = Ok u
told (Err e) = Err (number_of e)
