-- What the iterator finds is the line of this number.
use Rattle.std.proofs.Common.{ap, sym, ◌∙◌, ◌≡◌, arith}
use Rattle.std.proofs.lemmas.Iterator.Consumers.{nth_from_yields_List, YieldsList-from_first}
use Rattle.std.specs.Option.{option_map}
use Rattle.set_file.specs.Parts.{lines}
use Rattle.set_file.specs.Places.{numbered}
use Rattle.set_file.proofs.Places.{item_at, no_item}
use Rattle.set_file.proofs.locate.line_at.Goals as goal

pub returns-in_err-checked_sub : goal.returns-in_err-checked_sub
returns-in_err-checked_sub c =
    let zero : c.args.number ≡ 0 = omega (arith, c.in_err-checked_sub.ensures) in
    ap (option_map (λ x. x.now)) c.from_residual.ensures ∙ sym (ap (numbered (lines c.args.bytes.now)) zero ∙ no_item (lines c.args.bytes.now))

pub returns : goal.returns
returns c =
    nth_from_yields_List c.nth.result c.nth.new.self _ c.nth.ensures.ran (YieldsList-from_first (λ x. x.now) (λ rest. rest) (lines c.args.bytes.now) c.new.ensures)
    ∙ item_at (lines c.args.bytes.now) _ _ c.in_ok-checked_sub.ensures.0 c.in_ok-checked_sub.ensures.1
