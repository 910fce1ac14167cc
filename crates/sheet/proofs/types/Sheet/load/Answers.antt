use Rattle.std.proofs.Common.{ap, ◌∙◌}
use Rattle.history.proofs.Totals.{total_opened}
use Rattle.history.specs.Histories.{total}
use Rattle.sheet.proofs.types.Sheet.load.Goals as goal

pub note_all-requires : goal.note_all-requires
note_all-requires c = ap total c.empty-spare.ensures ∙ total_opened _
