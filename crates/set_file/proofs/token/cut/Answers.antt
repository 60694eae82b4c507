-- The cut is at the first byte that ends the bytes before it.
use Rattle.std.proofs.Common.{◌≡◌, ℕ, length, Bool, take, drop, ap, ◌∙◌, rules, tests}
use Rattle.std.specs.List.{position_or_len}
use Rattle.std.specs.Option.{unwrap_or}
use Rattle.std.proofs.lemmas.Iterator.{YieldsList-from_slice}
use Rattle.std.proofs.lemmas.Iterator.Search.{position_from_yields_List}
use Rattle.set_file.specs.Parts.{Tests}
use Rattle.set_file.proofs.Cuts.{first_or_all}
use Rattle.set_file.proofs.token.cut.Goals as goal

size : (g : _) (c : goal.After-drop-ends g) (p : ℕ → Bool) → Tests g.F.Fn c.args.ends p → c.unwrap_or-size.result ≡ position_or_len p c.args.bytes.now
size g c p says =
    c.unwrap_or-size.ensures
    ∙ ap (λ o. unwrap_or o (length c.args.bytes.now)) (position_from_yields_List p _ _ c.position.result c.position.ensures.ran (YieldsList-from_slice c.args.bytes.now cc) (λ x b q k. search (rules, tests, says)))
    ∙ first_or_all p c.args.bytes.now

pub returns-clause-front : goal.returns-clause-front
returns-clause-front g c = λ p says. c.split_at.ensures.front ∙ ap (λ n. take n c.args.bytes.now) (size g c p says)

pub returns-clause-back : goal.returns-clause-back
returns-clause-back g c = λ p says. c.split_at.ensures.back ∙ ap (λ n. drop n c.args.bytes.now) (size g c p says)
