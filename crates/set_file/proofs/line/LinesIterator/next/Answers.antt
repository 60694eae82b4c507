-- The next line is the first of those that are left.
use Rattle.std.proofs.Common.{sym, ◌∙◌, ◌≡◌, drop, false-eqb, arith, rules, tests}
use Rattle.set_file.specs.Parts.{ends}
use Rattle.set_file.proofs.Cuts.{line_step, nearer, rest_of}
use Rattle.set_file.proofs.line.LinesIterator.next.Goals as goal

pub returns-clause-steps : goal.returns-clause-steps
returns-clause-steps c =
    let rest : c.unwrap_or_default-self-inside.result.now ≡ drop 1 c.cut.result.1.now = rest_of c.cut.result.1.now c.get.result _ c.get.ensures.lookup c.unwrap_or_default-self-inside.ensures in
    sym c.self.view_is
    ∙ line_step c.self.inside.0.now c.cut.result.0.now c.cut.result.1.now _ (omega (arith, false-eqb _ 0 c.if-is_empty.ensures)) (c.cut.ensures.front ends (λ b r h. search (rules, tests))) (c.cut.ensures.back ends (λ b r h. search (rules, tests))) rest

pub returns-clause-goes : goal.returns-clause-goes
returns-clause-goes c = nearer (λ x. x.now) (λ rest. rest) _ _ _ (returns-clause-steps c)
