use Rattle.std.proofs.Common.{sym, ap, ◌∙◌, subst, rules}
use Rattle.rule.specs.Driven.{LineDriven, RuleDriven}
use Rattle.rule.specs.Held.{held}
use Rattle.rule.specs.RuleLines.{automaton}
use Rattle.rule.specs.RuleFiles.{and_then, formula_of, rule_of, told}
use Rattle.rule.proofs.Promised.{line_promised}
use Rattle.rule.proofs.line.RuleLine.read.Goals as goal

pub returns : goal.returns
returns c =
    let file = c.args.file.now in
    let l = c.in_ok-self.field-0 in
    let line = c.in_ok-self.ensures in
    record {
      answer = sym (ap (λ a. told (and_then a (formula_of (rule_of file)))) line.0
          ∙ ap (λ r. told (formula_of r)) (sym line.1) ∙ ap told (line_promised l).is);
      holds = λ _. line.1;
      driven = λ _. subst RuleDriven line.1 (line_promised l);
      monitor = λ _. subst (LineDriven (automaton (formula_of (held l))))
          (ap formula_of line.1 ∙ sym (ap (λ a. and_then a (formula_of (rule_of file))) line.0)) (line_promised l);
      unchanged = search rules;
    }
