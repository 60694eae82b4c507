-- The lists are those of the lines so far, and have lost no memory.
use Rattle.std.proofs.Common.{◌+◌, ◌≤◌, length, vec_capacity}
use Rattle.set_file.specs.Files.{lists}
use Rattle.set_file.specs.Parts.{lines}
use Rattle.set_file.proofs.Readings.{Sofar}
use Rattle.set_file.proofs.file.read.Given as goal

abbrev pub invariant-loop-i : goal.invariant-loop-i
invariant-loop-i l =
    ((goal.iterator-loop-i).can_next l.i-iterator × (goal.iterator-loop-i).is_finite l.i-iterator)
    × Sofar (lines l.bytes) l.i-iterator.iter (l.i-iterator.count + 1) (lists l.initial.points l.initial.triangles) (lists l.points l.triangles)
    × (l.i-iterator.count + length l.i-iterator.iter ≤ length l.bytes)
    × (vec_capacity l.initial.points ≤ vec_capacity l.points)
    × (vec_capacity l.initial.triangles ≤ vec_capacity l.triangles)
