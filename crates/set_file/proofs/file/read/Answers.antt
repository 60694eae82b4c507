-- What a reading leaves after each line, and where it stops.
use Rattle.std.proofs.Common.{◌≡◌, ◌+◌, ◌≤◌, ◌<◌, ◌^◌, length, Err, sym, ap, ◌∙◌, inl, arith}
use Rattle.std.proofs.lemmas.Result.{err_from_is_err_and}
use Rattle.set_file.specs.declared.file.FileFault.TheVariants.{Line}
use Rattle.set_file.specs.Lines.{entry_of}
use Rattle.set_file.specs.Parts.{lines, ends}
use Rattle.set_file.specs.Files.{lists, entry_at, short}
use Rattle.set_file.proofs.Cuts.{few_pieces}
use Rattle.set_file.proofs.Blame.{not_short}
use Rattle.set_file.specs.declared.line.LineFault.TheVariants.{Memory}
use Rattle.set_file.proofs.Readings.{at_start, after_line, at_short, reads_short}
use Rattle.set_file.proofs.file.read.Goals as goal
use Rattle.set_file.proofs.file.read.Goals.{After-entry}

-- the entry of the line goes by the lists as they are
entry : (c : After-entry) → entry_at c.in-Some.line.now (c.loop-i.i-iterator.count + 1) (lists c.loop-i.points c.loop-i.triangles) ≡ c.entry.result
entry c =
    let n = ap (λ n. n + 1) c.in-Some.ensures.steps.1 in
    let e = c.len.ensures ∙ c.loop-i.points.ok.0 in
    let f = c.len-in-loop-i.ensures ∙ c.loop-i.triangles.ok.0 in
    sym (c.entry.ensures ∙ (λ i. entry_of c.in-Some.line.now (n i) (e i) (f i)))

within : (c : After-entry) → length c.args.bytes.now ≤ c.args.limit
within c = omega arith

pub loop-i-init : goal.loop-i-init
loop-i-init c =
    let it = c.into_iter-i-iterator.result in
    let bytes = c.args.bytes.now in
    let rest : it.iter ≡ lines bytes = ap (λ x. x.iter) c.into_iter-i-iterator.ensures.into_iter_gives ∙ c.enumerate-i-items.ensures.source ∙ c.new.ensures in
    let none : it.count ≡ 0 = ap (λ x. x.count) c.into_iter-i-iterator.ensures.into_iter_gives ∙ c.enumerate-i-items.ensures.count in
    let few : it.count + length it.iter ≤ length bytes = omega (arith, none, ap length rest, few_pieces ends bytes) in
    let room : length bytes < 2 ^ 64 = omega (arith, c.ranges.limit.fits) in
    (((tt, tt, inl (omega (arith, few, room))), tt), at_start (lines bytes) _ _ _ rest (omega (arith, none)), few, omega arith, omega arith)

pub returns-in_err-entry-clause-outgrown : goal.returns-in_err-entry-clause-outgrown
returns-in_err-entry-clause-outgrown c wants =
    let p = err_from_is_err_and c.from_residual.result c.from_residual.ensures.1 in
    let d = (goal.at.returns-in_err-entry-clause-outgrown c).After-entry in
    let bad = entry d ∙ c.in_err-entry.was in
    absurd (not_short c.in-Some.line.now (c.loop-i.i-iterator.count + 1) _ _ _ bad (sym (ap short (p.1 ∙ ap Err p.2)) ∙ wants))

pub loop-i-preserved : goal.loop-i-preserved
loop-i-preserved c =
    let d = (goal.at.loop-i-preserved c).After-entry in
    let s = lists c.loop-i.points c.loop-i.triangles in
    let before = lists c.args.points.now c.args.triangles.now in
    let bytes = c.args.bytes.now in
    let it = c.next.new.self in
    let a = c.in_ok-append.ensures in
    let steps = c.in-Some.ensures.steps in
    let more : it.count ≡ c.loop-i.i-iterator.count + 1 = steps.2 in
    let few : it.count + length it.iter ≤ length bytes = omega (arith, more, ap length steps.0, c.loop-i.invariant.2) in
    let room : length bytes < 2 ^ 64 = omega (arith, c.ranges.limit.fits) in (
      ((tt, tt, inl (omega (arith, few, room))), tt),
      after_line (lines bytes) _ (c.loop-i.i-iterator.count + 1) before s c.in-Some.line.now _ c.loop-i.invariant.1 steps.0 c.in_ok-entry.field-0 _ _ (entry d ∙ c.in_ok-entry.was) a.stored (ap (λ n. n + 1) more),
      few,
      omega (arith, a.points_room),
      omega (arith, a.triangles_room),
    )

pub returns-in_err-append-clause-reads : goal.returns-in_err-append-clause-reads
returns-in_err-append-clause-reads c =
    let p = err_from_is_err_and c.from_residual-in_err-append.result c.from_residual-in_err-append.ensures.1 in
    let d = (goal.at.returns-in_err-append-clause-reads c).After-entry in
    let h = c.in_err-append.ensures.stored in
    let s = lists c.loop-i.points c.loop-i.triangles in
    let before = lists c.args.points.now c.args.triangles.now in
    let bytes = c.args.bytes.now in
    let n = c.loop-i.i-iterator.count + 1 in
    let line = ap (λ n. n + 1) c.in-Some.ensures.steps.1 in
    let lost = at_short (lines bytes) _ n before s c.in-Some.line.now _ c.loop-i.invariant.1 c.in-Some.ensures.steps.0 c.in_ok-entry.field-0 (entry d ∙ c.in_ok-entry.was) h.2 in
    reads_short c.args.limit bytes before s _ _ n (c.loop-i.invariant.1.pushed + 0) (within d) lost h.1 (p.1 ∙ ap Err (p.2 ∙ ap Line (h.0 ∙ ap Memory line)))
