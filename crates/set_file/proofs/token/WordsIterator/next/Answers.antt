-- The next word is the first of those that are left.
use Rattle.std.proofs.Common.{refl, rules, tests}
use Rattle.set_file.specs.Parts.{blank}
use Rattle.set_file.proofs.Cuts.{except, given, nearer}
use Rattle.set_file.proofs.token.WordsIterator.next.Goals as goal

pub returns-clause-steps : goal.returns-clause-steps
returns-clause-steps c =
    given c.self.inside.0.now c.cut.result.1.now c.cut-2.result.0.now c.cut-2.result.1.now
    (c.cut.ensures.back (except blank) (λ b r h. search (rules, tests)))
    (c.cut-2.ensures.front blank (λ b r h. search (rules, tests)))
    (c.cut-2.ensures.back blank (λ b r h. search (rules, tests)))
    _ c.cut-2.result.0 _ _ c.self.view_is refl c.is_empty.ensures c.then_some.ensures

pub returns-clause-goes : goal.returns-clause-goes
returns-clause-goes c = nearer (λ x. x.now) (λ rest. rest) _ _ _ (returns-clause-steps c)
