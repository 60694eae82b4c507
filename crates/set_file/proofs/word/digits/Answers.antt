-- The number so far is below a power of ten, and at the end it is the number that the digits write.
use Rattle.std.proofs.Common.{◌≡◌, Some, pos, ◌<◌, ◌≤◌, sym, ap, ◌∙◌, arith, false-eqb}
use Rattle.std.proofs.lemmas.List.{at_drop_all}
use Rattle.std.proofs.lemmas.Int.{ints}
use Rattle.std.proofs.lemmas.Result.{Ok-from_Ok_iff}
use Rattle.std.specs.Result.{result_ok}
use Rattle.set_file.specs.Numbers.{after, plus, unsigned_of}
use Rattle.set_file.proofs.Numbers.{sized, ten_pow}
use Rattle.set_file.proofs.word.digits.Goals as goal

pub returns-clause-value : goal.returns-clause-value
returns-clause-value c =
    let few : c.loop-b.b-index ≤ 5 = omega arith in
    let small : c.loop-b.n < 100000 = omega (arith, ten_pow _ few) in
    let whole : Some c.loop-b.n ≡ unsigned_of c.args.ds.now = sym (sized c.args.ds.now (omega (arith, false-eqb _ 0 c.if-is_empty.ensures)) (omega arith) ∙ sym c.loop-b.invariant.0 ∙ at_drop_all (after c.loop-b.n) c.args.ds.now c.loop-b.b-index (omega arith)) in
    c.ok.ensures.value ∙ ap result_ok (Ok-from_Ok_iff c.try_from.result _ (pos c.loop-b.n) c.try_from.ensures (omega (arith, ints))) ∙ ap plus whole
