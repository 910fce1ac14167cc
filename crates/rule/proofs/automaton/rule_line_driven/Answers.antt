use Rattle.rule.proofs.Promised.{line_promised}
use Rattle.rule.proofs.automaton.rule_line_driven.Goals as goal

pub returns : goal.returns
returns c = line_promised c.args.line.now
