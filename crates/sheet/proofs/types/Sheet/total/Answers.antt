use Rattle.std.proofs.Common.{sym, ◌∙◌}
use Rattle.sheet.proofs.Held.{held_total}
use Rattle.sheet.proofs.types.Sheet.total.Goals as goal

pub returns : goal.returns
returns c = c.total.ensures ∙ sym (held_total c.args.self.now.table)
